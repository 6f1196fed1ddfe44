-- The first job that has a fault is one job, and the first binding of a set-up that is refused is one binding.
use Rattle.std.proofs.Common.{◌≡◌, inl, inr, refl, sym, ap, ◌∙◌, subst, ℕ, zero, suc, ◌+◌, ◌<◌, ◌≤◌, nat_le, List, [], ◌∷◌, ◌++◌, length, take, slice_get}
use Rattle.std.proofs.Common.{Option, Some, None, false, arith}
use Rattle.std.proofs.lemmas.Bool.{cases_lt, lt-ltb, lt-leb}
use Rattle.std.proofs.lemmas.List.{take_at}
use Rattle.fl_world_refines.specs.declared.binding.Binding.{Binding}
use Rattle.fl_world_refines.specs.declared.parts.Parts.{Parts}
use Rattle.fl_cores_file.specs.Jobs.{Job}
use Rattle.fl_cores_jobs.specs.declared.fault.JobFault.TheVariants as fault
use Rattle.fl_cores_jobs.specs.State.{TheJoinedJobs, AreJoined}
use Rattle.fl_cores_jobs.specs.Whole.{bound_of, binding_fault, BindingRefused, AreBound, job_fault, NoneRefused, RefusedAt, IsFault}
use Rattle.fl_cores_jobs.proofs.Openings.{within}

-- ---- the first of a list

here : {X : Type 0} (xs : List X) (x : X) (ys : List X) → slice_get (xs ++ x ∷ ys) (length xs) ≡ Some x
here [] x ys = refl
here (z ∷ xs) x ys = here xs x ys

get_of_first : {X : Type 0} (xs : List X) (k m : ℕ) → k < m → slice_get (take m xs) k ≡ slice_get xs k
get_of_first xs k zero h = absurd (omega (arith, h))
get_of_first [] k (suc m) h = refl
get_of_first (x ∷ xs) zero (suc m) h = refl
get_of_first (x ∷ xs) (suc k) (suc m) h = get_of_first xs k m (omega (arith, h))

first_of_first : {X : Type 0} (xs : List X) (k m : ℕ) → k ≤ m → take k (take m xs) ≡ take k xs
first_of_first xs zero m h = refl
first_of_first xs (suc k) zero h = absurd (omega (arith, h))
first_of_first [] (suc k) (suc m) h = refl
first_of_first (x ∷ xs) (suc k) (suc m) h = ap (λ (t : List _). x ∷ t) (first_of_first xs k m (omega (arith, h)))

both : (o : Option ℕ) (n : ℕ) → o ≡ None → o ≡ Some n → ⊥
both o n none some = let e : None ≡ Some n = sym none ∙ some in absurd (cc)

-- ---- the first that has a fault, by its place from 0

module _ (p : Parts) (jobs : List Job) where
  record IsFirst (k number : ℕ) : Type 0 where
    job : Job
    job_is : slice_get jobs k ≡ Some job
    stops : job_fault p (take k jobs) job ≡ Some number
    passed : NoneRefused p (take k jobs)

  is_first : (number place : ℕ) → (r : RefusedAt p jobs number place) → IsFirst (length r.before) number
  is_first number place r =
      let front : r.before ≡ take (length r.before) jobs =
      sym (ap (λ (t : List Job). take (length r.before) t) r.jobs_are ∙ take_at r.before (r.job ∷ r.behind) (length r.before) refl) in
      record {
        job = r.job;
        job_is = ap (λ (t : List Job). slice_get t (length r.before)) r.jobs_are ∙ here r.before r.job r.behind;
        stops = subst (λ (t : List Job). job_fault p t r.job ≡ Some number) front r.stops;
        passed = subst (λ (t : List Job). NoneRefused p t) front r.passed;
      }

  -- none stands before it
  not_before : (k m n i : ℕ) → IsFirst k n → IsFirst m i → k < m → ⊥
  not_before k m n i a b less =
      let none = b.passed k a.job (get_of_first jobs k m less ∙ a.job_is) in
      both (job_fault p (take k jobs) a.job) n
      (ap (λ (t : List Job). job_fault p t a.job) (sym (first_of_first jobs k m (omega (arith, less)))) ∙ none) a.stops

  one_place : (k m n i : ℕ) → IsFirst k n → IsFirst m i → k ≡ m
  one_place k m n i a b = elim (cases_lt k m) [
    | inl less ↦ absurd (not_before k m n i a b less)
    | inr past ↦ elim (cases_lt m k) [
      | inl less ↦ absurd (not_before m k i n b a less)
      | inr past2 ↦ omega (arith, past, past2)
    ]
  ]

  one_number : (k n i : ℕ) → IsFirst k n → IsFirst k i → n ≡ i
  one_number k n i a b =
      let jobs_same : Some a.job ≡ Some b.job = sym a.job_is ∙ b.job_is in
      let same : a.job ≡ b.job = cc in
      let numbers : Some n ≡ Some i = sym a.stops ∙ ap (λ (x : Job). job_fault p (take k jobs) x) same ∙ b.stops in
      cc

one_job : (p : Parts) (jobs : List Job) (number number2 place place2 : ℕ) → RefusedAt p jobs number place → RefusedAt p jobs number2 place2
    → (number ≡ number2) × (place ≡ place2)
one_job p jobs number number2 place place2 r s =
    let a = is_first p jobs number place r in
    let b = is_first p jobs number2 place2 s in
    let same = one_place p jobs (length r.before) (length s.before) number number2 a b in
    let b2 = subst (λ (k : ℕ). IsFirst p jobs k number2) (sym same) b in
    (one_number p jobs (length r.before) number number2 a b2, r.place_is ∙ ap (λ (k : ℕ). k + 1) same ∙ sym s.place_is)

-- ---- a binding of the set-up

module _ (cores : ℕ) (set_up : List Binding) where
  not_earlier : (n i : ℕ) → (r : BindingRefused cores set_up n) → (s : BindingRefused cores set_up i) → r.place < s.place → ⊥
  not_earlier n i r s less = both (binding_fault cores r.place r.binding) n (s.before r.place r.binding less r.binding_is) r.refused

  same_binding : (n i : ℕ) → (r : BindingRefused cores set_up n) → (s : BindingRefused cores set_up i) → r.place ≡ s.place → n ≡ i
  same_binding n i r s same =
      let there : Some r.binding ≡ Some s.binding = sym r.binding_is ∙ ap (slice_get set_up) same ∙ s.binding_is in
      let it : r.binding ≡ s.binding = cc in
      let numbers : Some n ≡ Some i =
      sym r.refused ∙ ap (λ (x : Binding). binding_fault cores r.place x) it ∙ ap (λ (k : ℕ). binding_fault cores k s.binding) same ∙ s.refused in
      cc

  one_binding : (n i : ℕ) → BindingRefused cores set_up n → BindingRefused cores set_up i → n ≡ i
  one_binding n i r s = elim (cases_lt r.place s.place) [
    | inl less ↦ absurd (not_earlier n i r s less)
    | inr past ↦ elim (cases_lt s.place r.place) [
      | inl less ↦ absurd (not_earlier i n s r less)
      | inr past2 ↦ same_binding n i r s (omega (arith, past, past2))
    ]
  ]

  -- none is refused where jobs were joined
  taken : (jobs : List Job) (j : TheJoinedJobs) → AreJoined cores jobs j → AreBound set_up jobs j → (n : ℕ) (x : Binding) → slice_get set_up n ≡ Some x
      → binding_fault cores n x ≡ None
  taken jobs j joined bound n x at =
      let there = bound.first n x at in
      let below = within j.bindings n (bound_of x) there in
      let few = joined.bindings.few in
      let a : nat_le 1024 n ≡ false = lt-leb 1024 n (omega (arith, below, few)) in
      let client : x.client < cores = joined.bindings.client n (bound_of x) there in
      let server : x.server < cores = joined.bindings.server n (bound_of x) there in
      rw (a, lt-ltb x.client cores client, lt-ltb x.server cores server) refl

not_joined : (p : Parts) (jobs : List Job) (n number place : ℕ) → BindingRefused (length p.cores.items) p.bindings.items n → RefusedAt p jobs number place → ⊥
not_joined p jobs n number place b r =
    both (binding_fault (length p.cores.items) b.place b.binding) n
    (taken (length p.cores.items) p.bindings.items r.before r.joined r.were r.bound b.place b.binding b.binding_is) b.refused

pub one_refusal : (p : Parts) (jobs : List Job) (number number2 place place2 : ℕ)
    → IsFault p jobs (fault.Refused number place) → IsFault p jobs (fault.Refused number2 place2) → (number ≡ number2) × (place ≡ place2)
one_refusal p jobs number number2 place place2 (inl b) (inl c) =
    (one_binding (length p.cores.items) p.bindings.items number number2 b.1 c.1, b.0 ∙ sym c.0)
one_refusal p jobs number number2 place place2 (inl b) (inr s) = absurd (not_joined p jobs number number2 place2 b.1 s)
one_refusal p jobs number number2 place place2 (inr r) (inl c) = absurd (not_joined p jobs number2 number place c.1 r)
one_refusal p jobs number number2 place place2 (inr r) (inr s) = one_job p jobs number number2 place place2 r s

pub no_refusal : (p : Parts) (jobs : List Job) (number place : ℕ) → NoneRefused p jobs → RefusedAt p jobs number place → ⊥
no_refusal p jobs number place none r =
    let a = is_first p jobs number place r in
    both (job_fault p (take (length r.before) jobs) a.job) number (none (length r.before) a.job a.job_is) a.stops
