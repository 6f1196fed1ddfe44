-- Which channels are registered after each change of a waitset's lists.
use Rattle.std.proofs.Common.{◌≡◌, inl, inr, refl, sym, ap, ◌∙◌, subst, ℕ, ◌==◌, true, false, List, [], ◌∷◌, ◌++◌, arith}
use Rattle.std.proofs.lemmas.Bool.{cases_Bool, cases_eq, or_parts, eqb-false, cond-true, cond-false}
use Rattle.std.proofs.lemmas.Bool.Decides.{nat_tests}
use Rattle.fl_lists.specs.declared.place.Place.{Place}
use Rattle.fl_lists.specs.declared.place.Place.TheVariants.{Idle, Polled, Pending}
use Rattle.fl_lists.specs.ThreeLists.{ThreeLists, list_at, is_in, without, unlinked, pushed, moved}
use Rattle.fl_lists.proofs.Members.{is_in-push, is_in_from-without, left_out, without_none, without_first, without_later}
use Rattle.fl_lists.proofs.Tables.{same_lists}
use Rattle.fl_waitset.specs.Waiting.{is_registered, triggered}

-- a channel in one of the lists is registered
pub registered_in : (w : ThreeLists) (p : Place) (c : ℕ) → is_in c (list_at w p) ≡ true → is_registered w c ≡ true
registered_in w Idle c h = grind (arith, nat_tests, h)
registered_in w Polled c h = grind (arith, nat_tests, h)
registered_in w Pending c h = grind (arith, nat_tests, h)

-- and one that isn't registered is in none
pub nowhere : (w : ThreeLists) (p : Place) (c : ℕ) → is_registered w c ≡ false → is_in c (list_at w p) ≡ false
nowhere w p c h = elim (cases_Bool (is_in c (list_at w p))) [
  | inl here ↦ let there = registered_in w p c here in absurd (cc)
  | inr missed ↦ missed
]

-- ---- what is so of each channel in the lists

-- each channel that is in a list has this, by the list
abbrev pub Listed : (Place → ℕ → Type 0) → ThreeLists → Type 0
Listed Q w = (p : Place) (x : ℕ) → is_in x (list_at w p) ≡ true → Q p x

module _ (Q : Place → ℕ → Type 0) (w : ThreeLists) (each : Listed Q w) (c : ℕ) where
  added : (p : Place) (xs : List ℕ) → ((x : ℕ) → is_in x xs ≡ true → Q p x) → Q p c → (x : ℕ) → is_in x (xs ++ c ∷ []) ≡ true → Q p x
  added p xs had new x h = elim (cases_eq x c) [
    | inl same ↦ subst (λ (y : ℕ). Q p y) (sym same) new
    | inr ne ↦ let was : is_in x xs ≡ true = grind (arith, nat_tests, is_in-push x c xs, h, ne) in had x was
  ]

  pub pushed_each : (to : Place) → Q to c → Listed Q (pushed w c to)
  pushed_each Idle new Idle x h = added Idle w.idle (each Idle) new x h
  pushed_each Idle new Polled x h = each Polled x h
  pushed_each Idle new Pending x h = each Pending x h
  pushed_each Polled new Idle x h = each Idle x h
  pushed_each Polled new Polled x h = added Polled w.polled (each Polled) new x h
  pushed_each Polled new Pending x h = each Pending x h
  pushed_each Pending new Idle x h = each Idle x h
  pushed_each Pending new Polled x h = each Polled x h
  pushed_each Pending new Pending x h = added Pending w.pending (each Pending) new x h

  pub unlinked_each : Listed Q (unlinked w c)
  unlinked_each Idle x h = each Idle x (is_in_from-without x c w.idle h).1
  unlinked_each Polled x h = each Polled x (is_in_from-without x c w.polled h).1
  unlinked_each Pending x h = each Pending x (is_in_from-without x c w.pending h).1

  after_trigger : ThreeLists
  after_trigger = record { size = w.size; idle = without c w.idle; polled = w.polled; pending = w.pending ++ c ∷ [] }

  after_each : Q Pending c → Listed Q after_trigger
  unfolding after_trigger
  after_each new Idle x h = each Idle x (is_in_from-without x c w.idle h).1
  after_each new Polled x h = each Polled x h
  after_each new Pending x h = added Pending w.pending (each Pending) new x h

  pub triggered_each : (is_in c w.idle ≡ true → Q Pending c) → Listed Q (triggered w c)
  unfolding after_trigger
  triggered_each new = elim (cases_Bool (is_in c w.idle)) [
    | inl here ↦ subst (Listed Q) (sym (cond-true _ _ _ here)) (after_each (new here))
    | inr other ↦ subst (Listed Q) (sym (cond-false _ _ _ other)) each
  ]

pub triggered_size : (w : ThreeLists) (c : ℕ) → (triggered w c).size ≡ w.size
triggered_size w c = elim (cases_Bool (is_in c w.idle)) [
  | inl here ↦ ap (λ (x : ThreeLists). x.size) (cond-true _ _ _ here)
  | inr other ↦ ap (λ (x : ThreeLists). x.size) (cond-false _ _ _ other)
]

-- a channel that left is in no list
pub left_all : (w : ThreeLists) (c : ℕ) (p : Place) → is_in c (list_at (unlinked w c) p) ≡ false
left_all w c Idle = left_out c w.idle
left_all w c Polled = left_out c w.polled
left_all w c Pending = left_out c w.pending

-- what is put at the back and taken out leaves the list as it was
taken_back : (c : ℕ) (xs : List ℕ) → is_in c xs ≡ false → without c (xs ++ c ∷ []) ≡ xs
taken_back c [] h = without_first c c [] refl
taken_back c (x ∷ xs) h =
    let parts = or_parts (x == c) (is_in c xs) h in
    without_later c x (xs ++ c ∷ []) (eqb-false x c parts.0) ∙ ap (λ (ys : List ℕ). x ∷ ys) (taken_back c xs parts.1)

-- a channel that is registered at the back of idle, and then moved, was registered where it is
pub moved_on : (w : ThreeLists) (c : ℕ) (p : Place) → is_registered w c ≡ false → moved (pushed w c Idle) c p ≡ pushed w c p
moved_on w c p new = ap (λ (v : ThreeLists). pushed v c p) (same_lists _ _ refl lists) where
  lists : (q : Place) → list_at (unlinked (pushed w c Idle) c) q ≡ list_at w q
  lists Idle = taken_back c w.idle (nowhere w Idle c new)
  lists Polled = without_none c w.polled (nowhere w Polled c new)
  lists Pending = without_none c w.pending (nowhere w Pending c new)
