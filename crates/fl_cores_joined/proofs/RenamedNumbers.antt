-- There is a renaming by which accepted openings come in the order of their numbers, whatever the order is.
use Rattle.std.proofs.Common.{◌≡◌, ◌≢◌, ◌⊎◌, ◌∙◌, ◌+◌, ◌==◌, ◌<◌, ◌≤◌, ◌∷◌, if◌then◌else◌, [], ℕ, refl, subst, inl, inr, arith, Bool, List, Some, ap, false, nat_le, slice_get, suc, sym, true}
use Rattle.fl_base.specs.Numbered.{most_bindings}
use Rattle.fl_core.specs.declared.core_job.CoreJob.{CoreJob}
use Rattle.fl_cores_joined.specs.Joined.{JoinedCore}
use Rattle.fl_hop.proofs.Entering.{same_or}
use Rattle.std.proofs.lemmas.Bool.{eq-eqb, ne_eqb}
use Rattle.std.proofs.lemmas.Bool.Decides.{nat_tests}
use Rattle.std.specs.Prelude.{Err, Ok}
use Rattle.fl_core_run.specs.LogEntries.{looked, passed, arrived, heard, said, told, opened, called, ruled, wrote, acked, turned}
use Rattle.fl_cores_joined.specs.Steps.{Moment, does, forwards, Interleaves}
use Rattle.fl_cores_joined.specs.Renamed.{Renaming}
use Rattle.fl_cores_joined.specs.RenamedRuns.{AllAreNew, CountFrom, NumbersAreGiven}
use Rattle.fl_cores_joined.proofs.RenamedInPlace.{asked_few}

-- ---- two numbers change places

abbrev swap : ℕ → ℕ → ℕ → ℕ
swap a b n = if n == a then b else (if n == b then a else n)

swap_first : (a b n : ℕ) → n ≡ a → swap a b n ≡ b
swap_first a b n h = ap (λ (t : Bool). if t then b else (if n == b then a else n)) (eq-eqb n a h)

swap_second : (a b n : ℕ) → n ≡ b → swap a b n ≡ a
swap_second a b n h = by (same_or n a)
  where
    by : (n ≡ a) ⊎ (n ≢ a) → swap a b n ≡ a
    by (inl is) = swap_first a b n is ∙ sym h ∙ is
    by (inr other) =
        ap (λ (t : Bool). if t then b else (if n == b then a else n)) (ne_eqb n a other) ∙ ap (λ (t : Bool). if t then a else n) (eq-eqb n b h)

swap_other : (a b n : ℕ) → n ≢ a → n ≢ b → swap a b n ≡ n
swap_other a b n p q =
    ap (λ (t : Bool). if t then b else (if n == b then a else n)) (ne_eqb n a p) ∙ ap (λ (t : Bool). if t then a else n) (ne_eqb n b q)

swap_twice : (a b n : ℕ) → swap a b (swap a b n) ≡ n
swap_twice a b n = by (same_or n a) (same_or n b)
  where
    by : (n ≡ a) ⊎ (n ≢ a) → (n ≡ b) ⊎ (n ≢ b) → swap a b (swap a b n) ≡ n
    by (inl p) other = swap_second a b (swap a b n) (swap_first a b n p) ∙ sym p
    by (inr p) (inl q) = swap_first a b (swap a b n) (swap_second a b n q) ∙ sym q
    by (inr p) (inr q) = ap (swap a b) (swap_other a b n p q) ∙ swap_other a b n p q

swap_few : (a b n : ℕ) → a < most_bindings → b < most_bindings → n < most_bindings → swap a b n < most_bindings
swap_few a b n p q less = by (same_or n a) (same_or n b)
  where
    by : (n ≡ a) ⊎ (n ≢ a) → (n ≡ b) ⊎ (n ≢ b) → swap a b n < most_bindings
    by (inl is) other = subst (λ (k : ℕ). k < most_bindings) (sym (swap_first a b n is)) q
    by (inr out) (inl is) = subst (λ (k : ℕ). k < most_bindings) (sym (swap_second a b n is)) p
    by (inr out) (inr other) = subst (λ (k : ℕ). k < most_bindings) (sym (swap_other a b n out other)) less

abbrev as_it_was : Renaming
as_it_was = record { to = λ n. n; back = λ n. n; there = λ n. refl; here = λ n. refl; few = λ n less. less; few_back = λ n less. less }

abbrev then_swap : (r : Renaming) (a b : ℕ) → a < most_bindings → b < most_bindings → Renaming
then_swap r a b p q = record {
  to = λ n. swap a b (r.to n);
  back = λ n. r.back (swap a b n);
  there = λ n. ap r.back (swap_twice a b (r.to n)) ∙ r.there n;
  here = λ n. ap (swap a b) (r.here (swap a b n)) ∙ swap_twice a b n;
  few = λ n less. swap_few a b (r.to n) p q (r.few n less);
  few_back = λ n less. r.few_back (swap a b n) (swap_few a b n p q less);
}

-- ---- number after number

-- a renaming behind this one, which keeps the numbers below k, and by which the openings have the next ones
record NumbersFrom (r : Renaming) (k : ℕ) (moments : List Moment) : Type 0 where
  renaming : Renaming
  keeps : (m : ℕ) → r.to m < k → renaming.to m ≡ r.to m
  counts : CountFrom renaming k moments

module _ (first : ℕ) where
  abbrev New : Renaming → ℕ → List ℕ → Type 0
  New r k taken = (b : ℕ) → first ≤ b → ((n : ℕ) → slice_get taken n ≡ Some b → ⊥) → k ≤ r.to b

  one_number : (r : Renaming) (a b : ℕ) → r.to a ≡ r.to b → a ≡ b
  one_number r a b h = sym (r.there a) ∙ ap r.back h ∙ r.there b

  module _ (r : Renaming) (k : ℕ) (taken : List ℕ) (new : New r k taken) (b : ℕ) (late : first ≤ b) (none : (n : ℕ) → slice_get taken n ≡ Some b → ⊥)
      (few : b < most_bindings) where
    far : k ≤ r.to b
    far = new b late none

    k_few : k < most_bindings
    k_few = let p = far in let q = r.few b few in omega (arith, p, q)

    abbrev next : Renaming
    next = then_swap r k (r.to b) k_few (r.few b few)

    its_number : next.to b ≡ k
    its_number = swap_second k (r.to b) (r.to b) refl

    below : (m : ℕ) → r.to m < k → next.to m ≡ r.to m
    below m less =
        let p = far in
        swap_other k (r.to b) (r.to m) (λ e. absurd (omega (arith, less, e))) (λ e. absurd (omega (arith, less, e, p)))

    next_new : New next (k + 1) (b ∷ taken)
    next_new c later nowhere =
        let apart : c ≢ b = λ e. nowhere 0 (ap (λ (x : ℕ). Some x) (sym e)) in
        let p = new c later (λ n is. nowhere (suc n) is) in
        let q = far in
        let others : r.to c ≢ r.to b = λ e. apart (one_number r c b e) in
        elim (same_or (r.to c) k) [
          | inl is ↦
              (let now : swap k (r.to b) (r.to c) ≡ r.to b = swap_first k (r.to b) (r.to c) is in
              let over : k ≢ r.to b = λ e. others (is ∙ e) in
              above (swap k (r.to b) (r.to c)) (r.to b) now q over)
          | inr out ↦
              (let now : swap k (r.to b) (r.to c) ≡ r.to c = swap_other k (r.to b) (r.to c) out others in
              above (swap k (r.to b) (r.to c)) (r.to c) now p (λ e. out (sym e)))
        ]
      where
        above : (x y : ℕ) → x ≡ y → k ≤ y → k ≢ y → k + 1 ≤ x
        above x y is more other = omega (arith, is, more, other)

  -- one that its core refuses has no number below
  still_far : (r : Renaming) (k : ℕ) (taken : List ℕ) → New r k taken → (all : Renaming) → ((m : ℕ) → r.to m < k → all.to m ≡ r.to m)
      → (b : ℕ) → first ≤ b → ((n : ℕ) → slice_get taken n ≡ Some b → ⊥) → k ≤ all.to b
  still_far r k taken new all keeps b late none = by (nat_le k (all.to b)) refl
    where
      by : (t : Bool) → nat_le k (all.to b) ≡ t → k ≤ all.to b
      by true q = grind (arith, nat_tests, q)
      by false q =
          let less : all.to b < k = grind (arith, nat_tests, q) in
          let m = r.back (all.to b) in
          let there : r.to m ≡ all.to b = r.here (all.to b) in
          let kept : all.to m ≡ r.to m = keeps m (subst (λ (x : ℕ). x < k) (sym there) less) in
          let same : m ≡ b = one_number all m b (kept ∙ there) in
          let p = new b late none in
          let here : r.to b ≡ all.to b = ap r.to (sym same) ∙ there in
          absurd (omega (arith, p, here, less))

  module _ (jobs : List CoreJob) where
    numbers : (xs ys : List JoinedCore) (moments : List Moment) (h : Interleaves jobs xs moments ys) (taken : List ℕ) (r : Renaming) (k : ℕ)
        → New r k taken → AllAreNew first taken moments → NumbersFrom r k moments
    numbers xs ys [] h taken r k new fresh = record { renaming = r; keeps = λ m less. refl; counts = tt }
    numbers xs ys (does n (opened name request (Ok e)) ∷ moments) h taken r k new fresh =
        let b = request.opening.binding in
        let few = asked_few h.1.1.beside request h.1.1.in_place.1 in
        let later = next r k taken new b fresh.0.0 fresh.0.1 few in
        let it = numbers h.0 ys moments h.2 (b ∷ taken) later (k + 1) (next_new r k taken new b fresh.0.0 fresh.0.1 few) fresh.1 in
        let mine = its_number r k taken new b fresh.0.0 fresh.0.1 few in
        record {
          renaming = it.renaming;
          keeps = λ m less.
              let same = below r k taken new b fresh.0.0 fresh.0.1 few m less in
              it.keeps m (omega (arith, same, less)) ∙ same;
          counts = (it.keeps b (omega (arith, mine)) ∙ mine, it.counts);
        }
    numbers xs ys (does n (opened name request (Err fault)) ∷ moments) h taken r k new fresh =
        let it = numbers h.0 ys moments h.2 taken r k new fresh.1 in
        record {
          renaming = it.renaming;
          keeps = it.keeps;
          counts = (still_far r k taken new it.renaming it.keeps request.opening.binding fresh.0.0 fresh.0.1, it.counts);
        }
    numbers xs ys (does n (looked i l answer) ∷ moments) h taken r k new fresh =
        let it = numbers h.0 ys moments h.2 taken r k new fresh.1 in record { renaming = it.renaming; keeps = it.keeps; counts = (tt, it.counts) }
    numbers xs ys (does n (passed i to frag c o) ∷ moments) h taken r k new fresh =
        let it = numbers h.0 ys moments h.2 taken r k new fresh.1 in record { renaming = it.renaming; keeps = it.keeps; counts = (tt, it.counts) }
    numbers xs ys (does n (arrived i l frag e answer) ∷ moments) h taken r k new fresh =
        let it = numbers h.0 ys moments h.2 taken r k new fresh.1 in record { renaming = it.renaming; keeps = it.keeps; counts = (tt, it.counts) }
    numbers xs ys (does n (heard i l frag answer) ∷ moments) h taken r k new fresh =
        let it = numbers h.0 ys moments h.2 taken r k new fresh.1 in record { renaming = it.renaming; keeps = it.keeps; counts = (tt, it.counts) }
    numbers xs ys (does n (said i l answer) ∷ moments) h taken r k new fresh =
        let it = numbers h.0 ys moments h.2 taken r k new fresh.1 in record { renaming = it.renaming; keeps = it.keeps; counts = (tt, it.counts) }
    numbers xs ys (does n (told i l answer) ∷ moments) h taken r k new fresh =
        let it = numbers h.0 ys moments h.2 taken r k new fresh.1 in record { renaming = it.renaming; keeps = it.keeps; counts = (tt, it.counts) }
    numbers xs ys (does n (called name c answer) ∷ moments) h taken r k new fresh =
        let it = numbers h.0 ys moments h.2 taken r k new fresh.1 in record { renaming = it.renaming; keeps = it.keeps; counts = (tt, it.counts) }
    numbers xs ys (does n (ruled name msg reply answer) ∷ moments) h taken r k new fresh =
        let it = numbers h.0 ys moments h.2 taken r k new fresh.1 in record { renaming = it.renaming; keeps = it.keeps; counts = (tt, it.counts) }
    numbers xs ys (does n (wrote name out answer) ∷ moments) h taken r k new fresh =
        let it = numbers h.0 ys moments h.2 taken r k new fresh.1 in record { renaming = it.renaming; keeps = it.keeps; counts = (tt, it.counts) }
    numbers xs ys (does n (acked name i answer) ∷ moments) h taken r k new fresh =
        let it = numbers h.0 ys moments h.2 taken r k new fresh.1 in record { renaming = it.renaming; keeps = it.keeps; counts = (tt, it.counts) }
    numbers xs ys (does n (turned d name from answer) ∷ moments) h taken r k new fresh =
        let it = numbers h.0 ys moments h.2 taken r k new fresh.1 in record { renaming = it.renaming; keeps = it.keeps; counts = (tt, it.counts) }
    numbers xs ys (forwards n look follows ∷ moments) h taken r k new fresh =
        let it = numbers h.0 ys moments h.2 taken r k new fresh in record { renaming = it.renaming; keeps = it.keeps; counts = it.counts }

  pub numbers_are : (jobs : List CoreJob) (xs ys : List JoinedCore) (moments : List Moment) → Interleaves jobs xs moments ys → AllAreNew first [] moments
      → (r : Renaming) × ((n : ℕ) → n < first → r.to n ≡ n) × CountFrom r first moments
  numbers_are jobs xs ys moments h fresh =
      let it = numbers jobs xs ys moments h [] as_it_was first (λ b late none. late) fresh in
      (it.renaming, (λ n less. it.keeps n less), it.counts)

pub numbers_are_given : NumbersAreGiven
numbers_are_given first jobs xs ys moments h fresh = numbers_are first jobs xs ys moments h fresh
