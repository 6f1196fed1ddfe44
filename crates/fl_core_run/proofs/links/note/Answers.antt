use Rattle.std.proofs.Common.{refl, sym}
use Rattle.fl_core_run.specs.EndProgress.{with_refusal, progress_place}
use Rattle.fl_core_run.specs.Run.{run_by}
use Rattle.fl_core_run.proofs.AtProgress.{at_progress}
use Rattle.fl_core_run.proofs.Dealing.{heard_refused}
use Rattle.fl_core_run.proofs.links.note.Goals as goal

pub returns-in-Some : goal.returns-in-Some
returns-in-Some g c = record {
  notes = heard_refused c.args.answer c.in-Ok-OpeningRefused.field-0 c.in-Ok-OpeningRefused.end c.in-Ok-OpeningRefused.reason (run_by g.S.CoreSides.states c.args.run.now) _
      c.in-Ok-OpeningRefused.is (rw c.in-Ok-OpeningRefused.is at c.in-Ok-OpeningRefused.field-0-is)
      (at_progress (run_by g.S.CoreSides.states c.args.run.now) (progress_place c.args.run.now.progresses.items c.in-Ok-OpeningRefused.end) c.in-Some.place c.index_mut.result.now
      (sym c.in-Some.ensures.place) c.in-Some.ensures.within c.index_mut.ensures.value (with_refusal c.in-Ok-OpeningRefused.reason) c.refuse.new.self
      c.refuse.ensures.refused c.in-Ok-OpeningRefused.end refl);
}
