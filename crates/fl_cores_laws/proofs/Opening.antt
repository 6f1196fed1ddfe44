-- Of the jobs of an end one at most opens a circuit, and that the end's own.
use Rattle.std.proofs.Common.{◌≡◌, refl, sym, ap, ◌∙◌, subst, ℕ, zero, suc, ◌+◌, ◌≤◌, ◌==◌, ◌&&◌, if◌then◌else◌, List, [], ◌∷◌, slice_get, Option, Some, None, Bool, true, false, arith}
use Rattle.std.proofs.lemmas.Option.{same_Some}
use Rattle.fl_base.specs.declared.identity.EndId.{EndId}
use Rattle.fl_base.specs.declared.identity.Side.{Side}
use Rattle.fl_base.specs.declared.identity.Side.TheVariants.{Client, Server}
use Rattle.std.proofs.lemmas.Bool.Decides.{nat_tests}
use Rattle.fl_model.specs.Runs.{same_side, same_end}
use Rattle.fl_core.specs.View.{client_of}
use Rattle.fl_core.specs.declared.core_job.CoreJob.{CoreJob}
use Rattle.fl_core.specs.declared.core_job.CoreJob.TheVariants as job
use Rattle.fl_core.specs.declared.core_job.OpenRequest.{OpenRequest}
use Rattle.fl_cores_file.specs.Jobs.{Job}
use Rattle.fl_cores_jobs.specs.declared.end_work.BindingCores.{BindingCores}
use Rattle.fl_cores_jobs.specs.EndWork.{end_of, places_of, end_work_at}
use Rattle.fl_cores_jobs.specs.State.{TheJoinedJobs, AreJoined}
use Rattle.fl_cores_laws.proofs.Complete.{past}

-- the job at this place opens a circuit
abbrev pub Opens : List CoreJob → ℕ → OpenRequest → Type 0
Opens jobs place request = slice_get jobs place ≡ Some (job.Open request)

pub record GivenWork (jobs : List CoreJob) (e : EndId) (places : List ℕ) : Type 0 where
  pub once : (i k p q : ℕ) (w v : OpenRequest) → slice_get places i ≡ Some p → Opens jobs p w → slice_get places k ≡ Some q → Opens jobs q v → i ≡ k
  pub own : (i p : ℕ) (w : OpenRequest) → slice_get places i ≡ Some p → Opens jobs p w → e ≡ client_of w.opening.binding

pub given_work_none : (jobs : List CoreJob) (e : EndId) → GivenWork jobs e []
given_work_none jobs e = record {
  once = λ i k p q w v a b c d. absurd (cc);
  own = λ i p w a b. absurd (cc);
}

-- ---- the places of an end's jobs

one_side : (a b : Side) → same_side a b ≡ true → a ≡ b
one_side Client Client is = refl
one_side Client Server is = absurd (cc)
one_side Server Client is = absurd (cc)
one_side Server Server is = refl

one_by : (e f : EndId) (a b : Bool) → (e.binding == f.binding) ≡ a → same_side e.side f.side ≡ b → (a && b) ≡ true → e ≡ f
one_by e f true true same sides is =
    let bindings : e.binding ≡ f.binding = grind (arith, nat_tests, same) in
    let side : e.side ≡ f.side = one_side e.side f.side sides in
    ap (λ (n : ℕ). record { binding = n; side = e.side }) bindings ∙ ap (λ (s : Side). record { binding = f.binding; side = s }) side
one_by e f true false same sides is = absurd (cc)
one_by e f false b same sides is = absurd (cc)

one_end : (e f : EndId) → same_end e f ≡ true → e ≡ f
one_end e f is = one_by e f (e.binding == f.binding) (same_side e.side f.side) refl refl is

module _ (e : EndId) where
  abbrev places : Bool → ℕ → List CoreJob → List ℕ
  places b k jobs = if b then k ∷ places_of e (suc k) jobs else places_of e (suc k) jobs

  -- what holds at each place of those behind
  abbrev Each : ℕ → List CoreJob → (ℕ → ℕ → Type 0) → Type 0
  Each k jobs P = (i p : ℕ) → slice_get (places_of e (suc k) jobs) i ≡ Some p → P i p

  least_by : (k : ℕ) (jobs : List CoreJob) (b : Bool) → Each k jobs (λ i p. suc k ≤ p) → (i p : ℕ) → slice_get (places b k jobs) i ≡ Some p → k ≤ p
  least_by k jobs true rest zero p at = let same : k ≡ p = cc in omega (arith, same)
  least_by k jobs true rest (suc i) p at = let l = rest i p at in omega (arith, l)
  least_by k jobs false rest i p at = let l = rest i p at in omega (arith, l)

  at_least : (k : ℕ) (jobs : List CoreJob) (i p : ℕ) → slice_get (places_of e k jobs) i ≡ Some p → k ≤ p
  at_least k [] i p at = absurd (cc)
  at_least k (x ∷ jobs) i p at = least_by k jobs (same_end e (end_of x)) (at_least (suc k) jobs) i p at

  index_by : (k : ℕ) (jobs : List CoreJob) (b : Bool) → Each k jobs (λ i p. (m : ℕ) → slice_get (places_of e (suc k) jobs) m ≡ Some p → i ≡ m)
      → (i p m : ℕ) → slice_get (places b k jobs) i ≡ Some p → slice_get (places b k jobs) m ≡ Some p → i ≡ m
  index_by k jobs true rest zero p zero a b = refl
  index_by k jobs true rest zero p (suc m) a b = let same : k ≡ p = cc in let l = at_least (suc k) jobs m p b in absurd (omega (arith, same, l))
  index_by k jobs true rest (suc i) p zero a b = let same : k ≡ p = cc in let l = at_least (suc k) jobs i p a in absurd (omega (arith, same, l))
  index_by k jobs true rest (suc i) p (suc m) a b = ap suc (rest i p a m b)
  index_by k jobs false rest i p m a b = rest i p a m b

  one_index : (k : ℕ) (jobs : List CoreJob) (i p : ℕ) → slice_get (places_of e k jobs) i ≡ Some p → (m : ℕ) → slice_get (places_of e k jobs) m ≡ Some p → i ≡ m
  one_index k [] i p a m b = absurd (cc)
  one_index k (x ∷ jobs) i p a m b = index_by k jobs (same_end e (end_of x)) (one_index (suc k) jobs) i p m a b

  -- each is of a job of the end
  abbrev StandAt : List CoreJob → ℕ → List CoreJob → Type 0
  StandAt all k jobs = (i : ℕ) (x : CoreJob) → slice_get jobs i ≡ Some x → slice_get all (k + i) ≡ Some x

  record IsOf (all : List CoreJob) (p : ℕ) : Type 0 where
    pub task : CoreJob
    pub task_is : slice_get all p ≡ Some task
    pub same : same_end e (end_of task) ≡ true

  behind : (all : List CoreJob) (k : ℕ) (x : CoreJob) (jobs : List CoreJob) → StandAt all k (x ∷ jobs) → StandAt all (suc k) jobs
  behind all k x jobs at i y is =
      let moved : k + suc i ≡ suc k + i = omega arith in
      subst (λ (n : ℕ). slice_get all n ≡ Some y) moved (at (suc i) y is)

  first : (all : List CoreJob) (k : ℕ) (x : CoreJob) (jobs : List CoreJob) → StandAt all k (x ∷ jobs) → slice_get all k ≡ Some x
  first all k x jobs at = let same : k + 0 ≡ k = omega arith in subst (λ (n : ℕ). slice_get all n ≡ Some x) same (at 0 x refl)

  of_by : (all : List CoreJob) (k : ℕ) (x : CoreJob) (jobs : List CoreJob) (b : Bool) → Each k jobs (λ i p. IsOf all p) → same_end e (end_of x) ≡ b
      → slice_get all k ≡ Some x → (i p : ℕ) → slice_get (places b k jobs) i ≡ Some p → IsOf all p
  of_by all k x jobs true rest test there zero p is =
      let same : k ≡ p = cc in
      record { task = x; task_is = subst (λ (n : ℕ). slice_get all n ≡ Some x) same there; same = test }
  of_by all k x jobs true rest test there (suc i) p is = rest i p is
  of_by all k x jobs false rest test there i p is = rest i p is

  of_end : (all : List CoreJob) (k : ℕ) (jobs : List CoreJob) → StandAt all k jobs → (i p : ℕ) → slice_get (places_of e k jobs) i ≡ Some p → IsOf all p
  of_end all k [] at i p is = absurd (cc)
  of_end all k (x ∷ jobs) at i p is =
      of_by all k x jobs (same_end e (end_of x)) (of_end all (suc k) jobs (behind all k x jobs at)) refl (first all k x jobs at) i p is

-- ---- of jobs that were joined

module _ (cores : ℕ) (asked : List Job) (j : TheJoinedJobs) (joined : AreJoined cores asked j) (e : EndId) where
  -- one opens the end's binding at most
  abbrev OneOpens : Type 0
  OneOpens = (m n : ℕ) (w v : OpenRequest) → Opens j.jobs m w → Opens j.jobs n v → w.opening.binding ≡ e.binding → v.opening.binding ≡ e.binding → m ≡ n

  by_job : (b : BindingCores) → slice_get j.bindings e.binding ≡ Some b → (o : Option ℕ) → b.opened ≡ o → OneOpens
  by_job b at None is m n w v one two this that = absurd (joined.set_up e.binding b at is m w one this)
  by_job b at (Some number) is m n w v one two this that =
      let o = joined.opened e.binding b number at is in
      o.alone m w one this ∙ sym (o.alone n v two that)

  by_bound : (o : Option BindingCores) → slice_get j.bindings e.binding ≡ o → OneOpens
  by_bound None at m n w v one two this that =
      let far = past j.bindings e.binding at in
      let there = joined.there m (job.Open w) one in
      absurd (omega (arith, far, there, this))
  by_bound (Some b) at m n w v one two this that = by_job b at b.opened refl m n w v one two this that

  its_own : (i p : ℕ) (w : OpenRequest) → slice_get (places_of e 0 j.jobs) i ≡ Some p → Opens j.jobs p w → e ≡ client_of w.opening.binding
  its_own i p w at opens =
      let it = of_end e j.jobs 0 j.jobs (λ k x is. (let same : k ≡ 0 + k = omega arith in subst (λ (n : ℕ). slice_get j.jobs n ≡ Some x) same is)) i p at in
      let same : it.task ≡ job.Open w = same_Some it.task (job.Open w) (sym it.task_is ∙ opens) in
      one_end e (end_of it.task) it.same ∙ ap end_of same

  given_work_places : GivenWork j.jobs e (places_of e 0 j.jobs)
  given_work_places = record {
    once = λ i k p q w v a b c d.
        let one = ap (λ (x : EndId). x.binding) (its_own i p w a b) in
        let two = ap (λ (x : EndId). x.binding) (its_own k q v c d) in
        let same : q ≡ p = by_bound (slice_get j.bindings e.binding) refl q p v w d b (sym two) (sym one) in
        one_index e 0 j.jobs i p a k (subst (λ (n : ℕ). slice_get (places_of e 0 j.jobs) k ≡ Some n) same c);
    own = its_own;
  }

  pub given_work : GivenWork j.jobs e (end_work_at j.end_works e).jobs
  given_work = subst (λ (ps : List ℕ). GivenWork j.jobs e ps) (sym (joined.each e).places) given_work_places
