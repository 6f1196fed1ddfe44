-- The bindings of a set-up, up to one that is refused.
use Rattle.std.proofs.Common.{◌≡◌, inl, inr, refl, sym, ap, ◌∙◌, subst, ℕ, ◌<◌, ◌+◌, nat_le, List, [], ◌∷◌, length, get_or, slice_get, Some, None, false, arith}
use Rattle.std.proofs.lemmas.Bool.{cases_lt, lt-ltb, lt-leb}
use Rattle.std.proofs.lemmas.List.{length-append}
use Rattle.std.proofs.lemmas.Option.{slice_get-get_or}
use Rattle.fl_world_refines.specs.declared.binding.Binding.{Binding}
use Rattle.fl_cores_file.specs.declared.stop.CoresLineFault.{CoresLineFault}
use Rattle.fl_cores_file.specs.declared.stop.CoresLineFault.TheVariants as stop
use Rattle.fl_cores_jobs.specs.Faults.{StopsFor}
use Rattle.fl_cores_jobs.specs.State.{TheJoinedJobs}
use Rattle.fl_cores_jobs.specs.Whole.{bound_of, SetUp, binding_fault, AreTaken, SetUpStops}

taken_one : (cores n : ℕ) (x : Binding) (j j2 : TheJoinedJobs) → SetUp cores x j j2 → length j.bindings ≡ n → binding_fault cores n x ≡ None
taken_one cores n x j j2 s count =
    let few = s.few in
    let a : nat_le 1024 n ≡ false = lt-leb 1024 n (omega (arith, few, count)) in
    rw (a, lt-ltb x.client cores s.client, lt-ltb x.server cores s.server) refl

at_place : (xs : List Binding) (k n : ℕ) (x d : Binding) → n ≡ k → k < length xs → x ≡ get_or xs k d → slice_get xs n ≡ Some x
at_place xs k n x d same below is = ap (slice_get xs) same ∙ slice_get-get_or xs k d below ∙ ap Some (sym is)

pub taken_none : (cores : ℕ) (xs : List Binding) → AreTaken cores xs 0
taken_none cores xs n x less at = absurd (omega (arith, less))

taken_more : (cores : ℕ) (xs : List Binding) (k : ℕ) (x d : Binding) → k < length xs → x ≡ get_or xs k d → binding_fault cores k x ≡ None
    → AreTaken cores xs k → AreTaken cores xs (k + 1)
taken_more cores xs k x d below is now before n y less at = elim (cases_lt n k) [
  | inl first ↦ before n y first at
  | inr past ↦
      let same : n ≡ k = omega (arith, less, past) in
      let both : Some x ≡ Some y = sym (at_place xs k n x d same below is) ∙ at in
      let it : x ≡ y = cc in
      subst (λ (z : Binding). binding_fault cores n z ≡ None) it (ap (λ (m : ℕ). binding_fault cores m x) same ∙ now)
]

pub taken_turn : (cores : ℕ) (xs : List Binding) (k : ℕ) (x d : Binding) (j j2 : TheJoinedJobs) → k < length xs → x ≡ get_or xs k d → SetUp cores x j j2
    → length j.bindings ≡ k → AreTaken cores xs k → AreTaken cores xs (k + 1)
taken_turn cores xs k x d j j2 below is s count before = taken_more cores xs k x d below is (taken_one cores k x j j2 s count) before

pub count_turn : (cores k : ℕ) (x : Binding) (j j2 : TheJoinedJobs) → SetUp cores x j j2 → length j.bindings ≡ k → length j2.bindings ≡ k + 1
count_turn cores k x j j2 s count =
    let l = length-append j.bindings (bound_of x ∷ []) in
    let e = ap (λ (t : TheJoinedJobs). length t.bindings) s.rest in
    omega (arith, l, e, count)

module _ (cores : ℕ) (xs : List Binding) (k m : ℕ) (x d : Binding) (below : k < length xs) (is : x ≡ get_or xs k d) (count : m ≡ k)
    (before : AreTaken cores xs k) where
  pub binding_stops : (s : CoresLineFault) → StopsFor (binding_fault cores m x) s → SetUpStops cores xs s
  binding_stops (stop.Refused number) found = record {
    place = k;
    binding = x;
    binding_is = at_place xs k k x d refl below is;
    refused = ap (λ (n : ℕ). binding_fault cores n x) (sym count) ∙ found;
    before = before;
  }
  binding_stops stop.Memory found =
      (k, below, taken_more cores xs k x d below is (ap (λ (n : ℕ). binding_fault cores n x) (sym count) ∙ found) before)
