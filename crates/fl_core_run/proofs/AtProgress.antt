-- What changes at the end's progress of an end, and which job is next there.
use Rattle.std.proofs.Common.{◌≡◌, refl, sym, ap, ◌∙◌, subst, ℕ, ◌<◌, List, length, slice_get, slice_set, slice_index_or, nat_lt, Bool, Option, Some, None, Bor}
use Rattle.std.proofs.lemmas.Option.{slice_get_read, slice_get_past, slice_get_within, same_Some}
use Rattle.std.proofs.lemmas.Bool.{ltb-true, ltb-false}
use Rattle.std.specs.Prelude.{is_some, IfSome, IfNone}
use Rattle.fl_base.specs.Given.{given}
use Rattle.fl_core.specs.declared.core_job.CoreJob.{CoreJob}
use Rattle.fl_core.specs.Jobs.{is_before_calls}
use Rattle.fl_core_run.specs.EndProgress.{TheEndProgress, ChangesIf}
use Rattle.fl_core_run.specs.Run.{TheRun, AtProgress, next_at}
use Rattle.fl_core_run.specs.Steps.{awaits}
use Rattle.fl_core_run.specs.Inside.{HasLeft, OfProgress}

-- ---- no end's progress

pub no_progress : {S : Type 0} (s : TheRun S) (place : Option ℕ) (change : TheEndProgress → TheEndProgress) → place ≡ None
    → OfProgress place s (λ name. AtProgress name change s s)
no_progress s place change none = λ name at.
    record { changes = subst (λ (o : Option ℕ). ChangesIf o s.progresses change s.progresses) (sym (at ∙ none)) refl; rest = refl }

pub no_job : {S : Type 0} (jobs : List CoreJob) (s : TheRun S) (place : Option ℕ) → place ≡ None → next_at jobs s place ≡ None
no_job jobs s place none = ap (λ (o : Option ℕ). next_at jobs s o) none

-- ---- a place of one

pub some_within : (o : Option ℕ) (n count : ℕ) → o ≡ Some n → IfSome o (λ m. m < count) → n < count
some_within o n count is within = subst (λ (x : Option ℕ). IfSome x (λ m. m < count)) is within

pub left_there : (progresses : List TheEndProgress) (o : Option ℕ) (n : ℕ) → o ≡ Some n → HasLeft progresses o → n < length progresses
left_there progresses o n is left =
    let h : HasLeft progresses (Some n) = subst (λ (x : Option ℕ). HasLeft progresses x) is left in
    slice_get_within progresses n h.0 h.1

-- one that is there, as it is read
module _ {S : Type 0} (s : TheRun S) (place : Option ℕ) (n : ℕ) (p : TheEndProgress) (is : place ≡ Some n) (few : n < length s.progresses)
    (read : p ≡ slice_index_or s.progresses n p) where
  pub stands : slice_get s.progresses n ≡ Some p
  stands = slice_get_read s.progresses (length s.progresses) n p refl few read

  pub at_progress : (change : TheEndProgress → TheEndProgress) (q : TheEndProgress) → q ≡ change p
      → OfProgress place s (λ name. AtProgress name change s (record s { progresses = slice_set s.progresses n q }))
  at_progress change q changed = λ name at. record {
    changes = subst (λ (o : Option ℕ). ChangesIf o s.progresses change (slice_set s.progresses n q)) (sym (at ∙ is))
        (record { progress = p; progress_is = stands; rest = ap (λ (d : TheEndProgress). slice_set s.progresses n d) changed });
    rest = refl;
  }

  pub left_at : HasLeft s.progresses place → p.done < length p.jobs
  left_at left =
      let h : HasLeft s.progresses (Some n) = subst (λ (o : Option ℕ). HasLeft s.progresses o) is left in
      let one : h.0 ≡ p = same_Some h.0 p (sym h.1 ∙ stands) in
      subst (λ (x : TheEndProgress). x.done < length x.jobs) one h.2

  pub has_left : p.done < length p.jobs → HasLeft s.progresses place
  has_left more = subst (λ (o : Option ℕ). HasLeft s.progresses o) (sym is) (p, stands, more)

  pub next_by : (jobs : List CoreJob) (o : Option ℕ) → o ≡ slice_get p.jobs p.done → next_at jobs s place ≡ given o None (λ (i : ℕ). slice_get jobs i)
  next_by jobs o next =
      ap (λ (o : Option ℕ). next_at jobs s o) is
      ∙ ap (λ (o : Option TheEndProgress). given o None λ progress. given (slice_get progress.jobs progress.done) None λ j. slice_get jobs j) stands
      ∙ ap (λ (o : Option ℕ). given o None λ j. slice_get jobs j) (sym next)

  -- what is asked of it, if it is there
  pub read_at : {X : Type 0} (other : X) (ask : TheEndProgress → X)
      → given place other (λ (i : ℕ). given (slice_get s.progresses i) other ask) ≡ ask p
  read_at {X} other ask =
      ap (λ (o : Option ℕ). given o other (λ (i : ℕ). given (slice_get s.progresses i) other ask)) is
      ∙ ap (λ (o : Option TheEndProgress). given o other ask) stands

-- ---- the job that is next

-- by the place of an end's progress
module _ {S : Type 0} (jobs : List CoreJob) (s : TheRun S) (place : Option ℕ) (next : Option CoreJob) (is : next_at jobs s place ≡ next) where
  pub awaits_by : (waits : Bool) → is_before_calls next ≡ waits → OfProgress place s (λ name. waits ≡ awaits jobs s name)
  awaits_by waits told = λ name at. sym (ap (λ (o : Option ℕ). is_before_calls (next_at jobs s o)) at ∙ ap is_before_calls is ∙ told)

-- the job at a place of a list, where it is looked up there
pub job_read : (jobs : List CoreJob) (i : ℕ) (o : Option (Bor CoreJob)) (next : Option CoreJob) → next ≡ slice_get jobs i → is_some o ≡ nat_lt i (length jobs)
    → IfSome o (λ job. job.now ≡ slice_index_or jobs i job.now) → IfSome o (λ job. next ≡ Some job.now)
job_read jobs i None next is some read = tt
job_read jobs i (Some job) next is some read = is ∙ slice_get_read jobs (length jobs) i job.now refl (ltb-true i (length jobs) (sym some)) read

pub no_job_read : (jobs : List CoreJob) (i : ℕ) (o : Option (Bor CoreJob)) (next : Option CoreJob) → next ≡ slice_get jobs i → is_some o ≡ nat_lt i (length jobs)
    → IfNone o (next ≡ None)
no_job_read jobs i None next is some = is ∙ slice_get_past jobs i (ltb-false i (length jobs) (sym some))
no_job_read jobs i (Some job) next is some = tt

pub if_some : {X P : Type 0} (o : Option X) → P → IfSome o (λ x. P)
if_some None p = tt
if_some (Some x) p = p
