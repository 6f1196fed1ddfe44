-- A channel that is in one list leaves the others as they are.
use Rattle.std.proofs.Common.{◌≡◌, ◌≢◌, ℕ, Bool, true, false, List, [], ◌∷◌, ◌++◌, inl, inr, sym, ◌∙◌, ap, refl, if◌then◌else◌, Option, Some, Ok, Err, slice_get}
use Rattle.std.proofs.lemmas.Bool.{cases_Bool, cond-true, cond-false}
use Rattle.fl_lists.specs.declared.place.Place.{Place}
use Rattle.fl_lists.specs.declared.place.Place.TheVariants.{Idle, Polled, Pending}
use Rattle.fl_lists.specs.ThreeLists.{ThreeLists, list_at, is_in, without, place_of, pushed, popped, moved, IsApart}
use Rattle.fl_waitset.specs.declared.fault.WaitFault.{WaitFault}
use Rattle.fl_waitset.specs.Waiting.{triggered}
use Rattle.fl_lists.proofs.Members.{without_none}
use Rattle.fl_lists.proofs.Tables.{same_lists, pop_is}

-- the place that is told is the list that holds c
pub idle_is_in : (w : ThreeLists) (c : ℕ) → place_of w c ≡ Some Idle → is_in c w.idle ≡ true
idle_is_in w c h = elim (cases_Bool (is_in c w.idle)) [
  | inl here ↦ here
  | inr a ↦ elim (cases_Bool (is_in c w.polled)) [
    | inl b ↦ let told = sym (cond-false _ _ _ a ∙ cond-true _ _ _ b) ∙ h in absurd (cc told)
    | inr b ↦ elim (cases_Bool (is_in c w.pending)) [
      | inl d ↦ let told = sym (cond-false _ _ _ a ∙ cond-false _ _ _ b ∙ cond-true _ _ _ d) ∙ h in absurd (cc told)
      | inr d ↦ let told = sym (cond-false _ _ _ a ∙ cond-false _ _ _ b ∙ cond-false _ _ _ d) ∙ h in absurd (cc told)
    ]
  ]
]

-- an idle channel that is moved to pending leaves idle alone
pub idle_moves : (w : ThreeLists) (c : ℕ) → IsApart w → place_of w c ≡ Some Idle → moved w c Pending ≡ triggered w c
idle_moves w c apart h = same_lists _ _ refl lists ∙ sym (cond-true _ _ _ here) where
  here : is_in c w.idle ≡ true
  here = idle_is_in w c h

  stays : (q : Place) → Idle ≢ q → without c (list_at w q) ≡ list_at w q
  stays q ne = without_none c (list_at w q) (elim (cases_Bool (is_in c (list_at w q))) [
    | inl there ↦ absurd (ne (apart.one_list Idle q c here there))
    | inr missed ↦ missed
  ])

  after : ThreeLists
  after = record w { idle = without c w.idle; pending = w.pending ++ c ∷ [] }

  lists : (q : Place) → list_at (moved w c Pending) q ≡ list_at after q
  lists Idle = refl
  lists Polled = stays Polled (λ s. cc)
  lists Pending = ap (λ (xs : List ℕ). xs ++ c ∷ []) (stays Pending (λ s. cc))

-- the first of a list that is moved leaves that list for the back of another
pub first_moves : (w : ThreeLists) (c : ℕ) (from place : Place) → IsApart w → slice_get (list_at w from) 0 ≡ Some c
    → moved w c place ≡ pushed (popped w from) c place
first_moves w c from place apart first = ap (λ (v : ThreeLists). pushed v c place) (pop_is w from c apart first)
