use Rattle.std.proofs.Common.{◌<◌, length, arith}
use Rattle.fl_core_run.specs.EndProgress.{advanced}
use Rattle.fl_core_run.specs.Run.{run_by}
use Rattle.fl_core_run.proofs.AtProgress.{no_progress, at_progress, left_there, left_at}
use Rattle.fl_core_run.proofs.ends.advance.Goals as goal

pub index_mut-requires : goal.index_mut-requires
index_mut-requires g c =
    let within : c.in-Some.place < length c.args.run.now.progresses.items =
    left_there c.args.run.now.progresses.items c.args.progress c.in-Some.place c.in-Some.is c.requires.left in
    omega (arith, within, c.args.run.now.progresses.ok.0)

pub advance-requires : goal.advance-requires
advance-requires g c = record {
  left = left_at (run_by g.S.CoreSides.states c.args.run.now) c.args.progress c.in-Some.place c.index_mut.result.now c.in-Some.is
      (left_there c.args.run.now.progresses.items c.args.progress c.in-Some.place c.in-Some.is c.requires.left) c.index_mut.ensures.value c.requires.left;
}

pub returns-in-Some : goal.returns-in-Some
returns-in-Some g c = record {
  advanced = at_progress (run_by g.S.CoreSides.states c.args.run.now) c.args.progress c.in-Some.place c.index_mut.result.now c.in-Some.is
      (left_there c.args.run.now.progresses.items c.args.progress c.in-Some.place c.in-Some.is c.requires.left) c.index_mut.ensures.value advanced c.advance.new.self
      c.advance.ensures.advanced;
}

pub returns-in-None : goal.returns-in-None
returns-in-None g c = record { advanced = no_progress (run_by g.S.CoreSides.states c.args.run.now) c.args.progress advanced c.in-None.is }
