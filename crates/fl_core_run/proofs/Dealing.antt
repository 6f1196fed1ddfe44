-- What a look found is dealt with, case by case.
use Rattle.std.proofs.Common.{◌≡◌, sym, ap, ◌∙◌, subst, ℕ, Result, Ok}
use Rattle.fl_base.specs.declared.identity.EndId.{EndId}
use Rattle.fl_base.specs.declared.identity.LinkId.{LinkId}
use Rattle.fl_core.specs.declared.answer.LinkFront.{LinkFront}
use Rattle.fl_core.specs.declared.answer.MonitorAnswer.{MonitorAnswer}
use Rattle.fl_core.specs.declared.answer.MonitorAnswer.TheVariants.{OpeningRefused}
use Rattle.fl_core.specs.declared.fault.LinkReceiveFault.{LinkReceiveFault}
use Rattle.fl_core_run.specs.Run.{SideRelations, TheRun, AtProgress}
use Rattle.fl_core_run.specs.EndProgress.{with_refusal}
use Rattle.fl_core_run.specs.LogEntries.{NotesHeard}
use Rattle.fl_core_run.specs.Steps.{HandsOut}
use Rattle.fl_core_run.specs.Inside.{Foresees}

module _ {S : Type 0} (w : SideRelations S) (n : ℕ) (l : LinkId) (found : Result LinkFront LinkReceiveFault) (ahead one : LinkFront) (s : TheRun S) (is : found ≡ Ok ahead) (one_is : ahead ≡ one) where
  found_is : found ≡ Ok one
  found_is = is ∙ ap Ok one_is

  pub foreseen : Foresees w n found s → Foresees w n (Ok one) s
  foreseen h = subst (λ (x : Result LinkFront LinkReceiveFault). Foresees w n x s) found_is h

  pub handed_out : (t : TheRun S) → HandsOut w n l (Ok one) s t → HandsOut w n l found s t
  handed_out t h = subst (λ (x : Result LinkFront LinkReceiveFault). HandsOut w n l x s t) (sym found_is) h

-- the word that an opening is refused is noted at the end's progress of its client's end
pub heard_refused : {S : Type 0} (answer : Result MonitorAnswer LinkReceiveFault) (told : MonitorAnswer) (e : EndId) (reason : ℕ) (s t : TheRun S) → answer ≡ Ok told
    → told ≡ OpeningRefused e reason → AtProgress e (with_refusal reason) s t → NotesHeard answer s t
heard_refused answer told e reason s t is told_is h = subst (λ (a : Result MonitorAnswer LinkReceiveFault). NotesHeard a s t) (sym (is ∙ ap Ok told_is)) h
