-- Trails of stops, of which each tells at which place the next one stands: they come to no place twice, and so are short.
use Rattle.std.proofs.Common.{◌≡◌, inl, inr, refl, sym, ap, ◌∙◌, ℕ, suc, ◌<◌, ◌≤◌, List, [], ◌∷◌, map, length, arith}
use Rattle.std.proofs.lemmas.Bool.{cases_eq}
use Rattle.fl_cores_laws.proofs.WholeFew.{times, times_same, times_other, AllBelow, few}

-- from this stop over those to one at which a trail ends
abbrev pub IsTrail : {Stop : Type 0} → (Stop → Type 0) → (Stop → Stop → Type 0) → Stop → List Stop → Type 0
IsTrail Ends Next s [] = Ends s
IsTrail Ends Next s (r ∷ rest) = Next s r × IsTrail Ends Next r rest

module _ {Stop : Type 0} (Ends : Stop → Type 0) (Next : Stop → Stop → Type 0) (place : Stop → ℕ) (count : ℕ)
    (one_end : (s t r : Stop) → Ends s → Next t r → place s ≡ place t → ⊥)
    (one_next : (s t r u : Stop) → Next s r → Next t u → place s ≡ place t → place r ≡ place u)
    (end_below : (s : Stop) → Ends s → place s < count) (next_below : (s r : Stop) → Next s r → place s < count) where
  abbrev Trail : Stop → List Stop → Type 0
  Trail s xs = IsTrail Ends Next s xs

  abbrev places : List Stop → List ℕ
  places stops = map place stops

  -- from one place all trails are equally long
  same_long : (s t : Stop) (xs ys : List Stop) → Trail s xs → Trail t ys → place s ≡ place t → length xs ≡ length ys
  same_long s t [] [] x y same = refl
  same_long s t [] (u ∷ ys) x y same = absurd (one_end s t u x y.0 same)
  same_long s t (r ∷ xs) [] x y same = absurd (one_end t s r y x.0 (sym same))
  same_long s t (r ∷ xs) (u ∷ ys) x y same = ap suc (same_long r u xs ys x.1 y.1 (one_next s t r u x.0 y.0 same))

  -- so a place comes but once
  abbrev AllLong : ℕ → ℕ → Type 0
  AllLong n long = (t : Stop) (ys : List Stop) → Trail t ys → place t ≡ n → length ys ≡ long

  none_later : (n long : ℕ) → AllLong n long → (s : Stop) (xs : List Stop) → Trail s xs → length xs < long → times n (places (s ∷ xs)) ≡ 0
  none_later n long all s [] x less = times_other n (place s) [] (λ same. (let own = all s [] x same in omega (arith, own, less)))
  none_later n long all s (r ∷ xs) x less =
      times_other n (place s) (places (r ∷ xs)) (λ same. (let own = all s (r ∷ xs) x same in omega (arith, own, less)))
      ∙ none_later n long all r xs x.1 (omega (arith, less))

  once : (n : ℕ) (s : Stop) (xs : List Stop) → Trail s xs → times n (places (s ∷ xs)) ≤ 1
  once n s [] x = elim (cases_eq (place s) n) [
    | inl same ↦ omega (arith, times_same n (place s) [] same)
    | inr other ↦ omega (arith, times_other n (place s) [] other)
  ]
  once n s (r ∷ xs) x = elim (cases_eq (place s) n) [
    | inl same ↦
        let none = none_later n (length (r ∷ xs)) (λ t ys y at. same_long t s ys (r ∷ xs) y x (at ∙ sym same)) r xs x.1 (omega arith) in
        omega (arith, times_same n (place s) (places (r ∷ xs)) same, none)
    | inr other ↦ omega (arith, times_other n (place s) (places (r ∷ xs)) other, once n r xs x.1)
  ]

  all_below : (s : Stop) (xs : List Stop) → Trail s xs → AllBelow count (places (s ∷ xs))
  all_below s [] x = (end_below s x, tt)
  all_below s (r ∷ xs) x = (next_below s r x.0, all_below r xs x.1)

  places_long : (stops : List Stop) → length (places stops) ≡ length stops
  places_long [] = refl
  places_long (s ∷ stops) = ap suc (places_long stops)

  -- and no trail has more stops than there are places
  pub few_stops : (s : Stop) (xs : List Stop) → Trail s xs → length (s ∷ xs) ≤ count
  few_stops s xs x = omega (arith, few count (places (s ∷ xs)) (all_below s xs x) (λ n. once n s xs x), places_long (s ∷ xs))
