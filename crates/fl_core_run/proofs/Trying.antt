-- The next job of an end is tried.
use Rattle.std.proofs.Common.{◌≡◌, sym, ◌∙◌, ap, subst, Option, Some, Result}
use Rattle.std.specs.Prelude.{OnOk, OnErr}
use Rattle.std.proofs.lemmas.Result.{on_ok_weaker, on_err_weaker}
use Rattle.fl_base.specs.declared.identity.EndId.{EndId}
use Rattle.fl_core.specs.declared.core_job.CoreJob.{CoreJob}
use Rattle.fl_core_run.specs.Run.{SideRelations, TheRun}
use Rattle.fl_core_run.specs.Steps.{Tries}
use Rattle.fl_core_run.specs.Wants.{DoesJob}

module _ {S : Type 0} (w : SideRelations S) (name : EndId) (next : Option CoreJob) (job one : CoreJob) (s t : TheRun S) (is : next ≡ Some job) (one_is : job ≡ one) where
  pub tried : Tries w name (Some one) s t → Tries w name next s t
  tried h = subst (λ (o : Option CoreJob). Tries w name o s t) (sym (is ∙ ap Some one_is)) h

  pub tried_if : {T E : Type 0} (r : Result T E) → OnOk r (Tries w name (Some one) s t) → OnOk r (Tries w name next s t)
  tried_if r h = on_ok_weaker r tried h

  pub does : DoesJob s name (Some one) → DoesJob s name next
  does h = subst (λ (o : Option CoreJob). DoesJob s name o) (sym (is ∙ ap Some one_is)) h

  pub does_if : {T E : Type 0} (r : Result T E) → OnErr r (DoesJob s name (Some one)) → OnErr r (DoesJob s name next)
  does_if r h = on_err_weaker r does h
