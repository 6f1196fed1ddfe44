use Rattle.std.proofs.Common.{◌∙◌, sym}
use Rattle.fl_core_run.specs.EndProgress.{TheEndProgress, progress_place}
use Rattle.fl_core_run.specs.Run.{run_by}
use Rattle.fl_core_run.proofs.AtProgress.{read_at}
use Rattle.fl_core_run.proofs.opening_status.refusal_at.Goals as goal

pub returns-in-Some : goal.returns-in-Some
returns-in-Some g c = record {
  refusal = c.refused.ensures.refused ∙ sym (read_at (run_by g.S.CoreSides.states c.args.run.now) (progress_place c.args.run.now.progresses.items c.args.name) c.in-Some.place
      c.index.result.now (sym c.in-Some.ensures.place) c.in-Some.ensures.within c.index.ensures 0 (λ (d : TheEndProgress). d.refused));
}
