use Rattle.std.proofs.Common.{◌∙◌, sym, true}
use Rattle.fl_core_run.specs.EndProgress.{is_clear, progress_place}
use Rattle.fl_core_run.specs.Run.{run_by}
use Rattle.fl_core_run.proofs.AtProgress.{read_at}
use Rattle.fl_core_run.proofs.finish.is_progress_clear.Goals as goal

pub returns-in-Some : goal.returns-in-Some
returns-in-Some g c = record {
  clear = c.is_clear.ensures.clear ∙ sym (read_at (run_by g.S.CoreSides.states c.args.run.now) (progress_place c.args.run.now.progresses.items c.args.name) c.in-Some.place
      c.index.result.now (sym c.in-Some.ensures.place) c.in-Some.ensures.within c.index.ensures true is_clear);
}
