-- How many calls are due at ends, told one after another.
use Rattle.std.proofs.Common.{◌≡◌, refl, sym, ap, ◌∙◌, subst, ℕ, suc, ◌<◌, ◌+◌, ◌==◌, if◌then◌else◌, List, length}
use Rattle.std.proofs.Common.{Bool, true, false, arith}
use Rattle.std.proofs.lemmas.Bool.Decides.{nat_tests}
use Rattle.fl_base.specs.declared.identity.EndId.{EndId}
use Rattle.fl_base.specs.Ends.{peer}
use Rattle.fl_model.specs.Runs.{same_end}
use Rattle.fl_core.specs.View.{slot_of}
use Rattle.fl_core.specs.declared.core_job.CoreJob.{CoreJob}
use Rattle.fl_cores_jobs.specs.EndWork.{TheEndWork, end_work_at, due_in}
use Rattle.fl_cores_jobs.specs.State.{TheJoinedJobs, changing, with_due, undue, DuesUpTo}
use Rattle.fl_cores_jobs.proofs.Ends.{changed, slots, one_end}
use Rattle.fl_cores_jobs.proofs.OneMore.{as_many}

pub none_told : (j : TheJoinedJobs) → DuesUpTo 0 j j
none_told j = record {
  jobs = refl;
  bindings = refl;
  owners = refl;
  count = refl;
  rest = λ e. refl;
  due = λ e h. absurd (omega (arith, h));
}

undue_if : (b : Bool) (n : ℕ) (d : TheEndWork) → undue (if b then with_due n d else d) ≡ undue d
undue_if true n d = refl
undue_if false n d = refl

same_due : (jobs : List CoreJob) (a b c d : TheEndWork) → undue a ≡ undue c → undue b ≡ undue d → due_in jobs a b ≡ due_in jobs c d
same_due jobs a b c d h k = ap (λ (x : TheEndWork). due_in jobs x b) h ∙ ap (λ (x : TheEndWork). due_in jobs c x) k

module _ (n : ℕ) (j j1 : TheJoinedJobs) (f : EndId) (at : slot_of f ≡ n) (within : n < length j1.end_works) (k : DuesUpTo n j j1) where
  abbrev told : ℕ
  told = due_in j1.jobs (end_work_at j1.end_works f) (end_work_at j1.end_works (peer f))

  slot : slot_of f < length j1.end_works
  slot = omega (arith, at, within)

  told_is : told ≡ due_in j.jobs (end_work_at j.end_works f) (end_work_at j.end_works (peer f))
  told_is =
      ap (λ (jobs : List CoreJob). due_in jobs (end_work_at j1.end_works f) (end_work_at j1.end_works (peer f))) k.jobs
      ∙ same_due j.jobs (end_work_at j1.end_works f) (end_work_at j1.end_works (peer f)) (end_work_at j.end_works f) (end_work_at j.end_works (peer f)) (k.rest f) (k.rest (peer f))

  due_by : (e : EndId) (b : Bool) → same_end e f ≡ b → slot_of e < suc n
      → (if b then with_due told (end_work_at j1.end_works e) else end_work_at j1.end_works e).due ≡ due_in j.jobs (end_work_at j.end_works e) (end_work_at j.end_works (peer e))
  due_by e true same below =
      told_is ∙ ap (λ (x : EndId). due_in j.jobs (end_work_at j.end_works x) (end_work_at j.end_works (peer x))) (sym (one_end e f same))
  due_by e false same below =
      let differ : (slot_of e == slot_of f) ≡ false = slots e f ∙ same in
      k.due e (grind (arith, nat_tests, differ, at, below))

  pub one_told : DuesUpTo (suc n) j (changing f (with_due told) j1)
  one_told = record {
    jobs = k.jobs;
    bindings = k.bindings;
    owners = k.owners;
    count = as_many j1.end_works (slot_of f) (with_due told) ∙ k.count;
    rest = λ e. ap undue (changed j1.end_works e f (with_due told) slot) ∙ undue_if (same_end e f) told (end_work_at j1.end_works e) ∙ k.rest e;
    due = λ e below. ap (λ (d : TheEndWork). d.due) (changed j1.end_works e f (with_due told) slot) ∙ due_by e (same_end e f) refl below;
  }

-- a turn of the loop over slots
pub told_turn : (n : ℕ) (j j1 j2 : TheJoinedJobs) (f : EndId) → slot_of f ≡ n → n < length j1.end_works → DuesUpTo n j j1
    → j2 ≡ changing f (with_due (due_in j1.jobs (end_work_at j1.end_works f) (end_work_at j1.end_works (peer f)))) j1 → DuesUpTo (n + 1) j j2
told_turn n j j1 j2 f at within k is =
    let next : suc n ≡ n + 1 = omega arith in
    subst (λ (i : ℕ). DuesUpTo i j j2) next (subst (λ (t : TheJoinedJobs). DuesUpTo (suc n) j t) (sym is) (one_told n j j1 f at within k))
