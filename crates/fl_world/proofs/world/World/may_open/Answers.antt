use Rattle.std.proofs.Common.{ap, length}
use Rattle.fl_world.proofs.Routes.{may_open_from}
use Rattle.fl_world.proofs.world.World.may_open.Goals as goal

pub returns : goal.returns
returns c = record {
  may = may_open_from c.args.self.now _ c.self.view_is c.args.want c.args.path.now _ c.requires.client _ c.index-core.ensures c.may_open_in.ensures.whole
      c.requires.program _ c.index-program.ensures _ (ap length c.as_slice.ensures.value) c.may_open_in.ensures.may;
}
