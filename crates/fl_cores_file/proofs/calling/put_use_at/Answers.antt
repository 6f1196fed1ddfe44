use Rattle.fl_cores_file.specs.Draft.{with_use}
use Rattle.fl_cores_file.specs.Views.{use_from, bound_of}
use Rattle.fl_cores_file.proofs.Lists.{map_put_or, map_behind}
use Rattle.fl_cores_file.proofs.calling.put_use_at.Goals as goal

pub returns-in-None : goal.returns-in-None
returns-in-None c = record {
  put = map_behind bound_of (with_use c.args.end.side (use_from c.args.what)) c.args.bindings.now.items c.args.end.binding c.in-None.ensures.item.3;
}

pub returns-in-Some : goal.returns-in-Some
returns-in-Some c = record {
  put = map_put_or bound_of (with_use c.args.end.side (use_from c.args.what)) c.args.bindings.now.items c.args.end.binding c.in-Some.bound.now
      c.set_use.new.self c.in-Some.ensures.item.3.0 c.in-Some.ensures.value c.set_use.ensures.put;
}
