-- Lists in which no two are the same, and names that are found in them.
use Rattle.std.proofs.Common.{◌≡◌, ◌≤◌, ◌<◌, ◌+◌, ◌∙◌, ◌⊎◌, inl, inr, refl, sym, ap, subst, ℕ, zero, suc, Bool, true, false, cond, List, [], ◌∷◌, ◌++◌, length, slice_get, position, Some, None, arith}
use Rattle.std.specs.Prelude.{nat_lt, is_some}
use Rattle.std.specs.List.{position_or_len}
use Rattle.std.specs.Str.{bytes_eq}
use Rattle.std.proofs.lemmas.Bool.Decides.{nat_tests}
use Rattle.fl_script_lines.specs.Names.{place_of}
use Rattle.fl_script_lines.proofs.ItemLemmas.{other_text}
use Rattle.fl_script_exec.specs.Standing.{AllDiffer}

-- ---- one more

at_push : {X : Type 0} (xs : List X) (x y : X) (j : ℕ) → slice_get (xs ++ x ∷ []) j ≡ Some y
    → (slice_get xs j ≡ Some y) ⊎ ((j ≡ length xs) × (y ≡ x))
at_push [] x y zero e = inr (refl, cc)
at_push [] x y (suc j) e = absurd (cc)
at_push (z ∷ xs) x y zero e = inl e
at_push (z ∷ xs) x y (suc j) e = elim (at_push xs x y j e) [ inl h ↦ inl h | inr h ↦ inr (let n = h.0 in omega (arith, n), h.1) ]

pub differ_push : {X : Type 0} (xs : List X) (x : X) → ((j : ℕ) → slice_get xs j ≡ Some x → ⊥) → AllDiffer xs → AllDiffer (xs ++ x ∷ [])
differ_push {X} xs x new h j k y a b = both (at_push xs x y j a) (at_push xs x y k b)
  where
    both : (slice_get xs j ≡ Some y) ⊎ ((j ≡ length xs) × (y ≡ x)) → (slice_get xs k ≡ Some y) ⊎ ((k ≡ length xs) × (y ≡ x)) → j ≡ k
    both (inl p) (inl q) = h j k y p q
    both (inl p) (inr (e, s)) = absurd (new j (subst (λ (z : X). slice_get xs j ≡ Some z) s p))
    both (inr (e, s)) (inl q) = absurd (new k (subst (λ (z : X). slice_get xs k ≡ Some z) s q))
    both (inr (e, s)) (inr (f, t)) = e ∙ sym f

-- ---- names that are looked up

missed : {X : Type 0} (p : X → Bool) (xs : List X) → length xs ≤ position_or_len p xs → (j : ℕ) (x : X) → slice_get xs j ≡ Some x → p x ≡ false
missed p [] h j x e = absurd (cc)
missed {X} p (z ∷ xs) h j x e = by_first (p z) refl (λ less k q. missed p xs less k x q) j e
  where
    by_first : (b : Bool) → p z ≡ b → (length xs ≤ position_or_len p xs → (k : ℕ) → slice_get xs k ≡ Some x → p x ≡ false)
        → (k : ℕ) → slice_get (z ∷ xs) k ≡ Some x → p x ≡ false
    by_first true t rest k q = let n : position_or_len p (z ∷ xs) ≡ 0 = rw t refl in absurd (omega (arith, h, n))
    by_first false t rest zero q = let s : z ≡ x = cc in ap p (sym s) ∙ t
    by_first false t rest (suc k) q =
        let n : position_or_len p (z ∷ xs) ≡ 1 + position_or_len p xs = rw t refl in rest (omega (arith, h, n)) k q

-- a name that isn't found is none of these
pub not_among : (name : List ℕ) (names : List (List ℕ)) → is_some (place_of name names) ≡ false → (j : ℕ) → slice_get names j ≡ Some name → ⊥
not_among name names none j e = by_test (nat_lt (position_or_len (bytes_eq name) names) (length names)) refl none
  where
    by_test : (b : Bool) → nat_lt (position_or_len (bytes_eq name) names) (length names) ≡ b
        → is_some (cond b (Some (position_or_len (bytes_eq name) names)) None) ≡ false → ⊥
    by_test true t n = absurd (cc)
    by_test false t n =
        let past : length names ≤ position_or_len (bytes_eq name) names = grind (arith, nat_tests, t) in
        other_text (bytes_eq name name) name name name refl refl (missed (bytes_eq name) names past j name e) refl

-- and one that is found stands at a place
pub place_within : {X : Type 0} (p : X → Bool) (xs : List X) (k : ℕ) → position p xs ≡ Some k → k < length xs
place_within {X} p xs k e = by_test (nat_lt (position_or_len p xs) (length xs)) refl e
  where
    by_test : (b : Bool) → nat_lt (position_or_len p xs) (length xs) ≡ b → cond b (Some (position_or_len p xs)) None ≡ Some k → k < length xs
    by_test true t n = let same : position_or_len p xs ≡ k = cc in grind (arith, nat_tests, t, same)
    by_test false t n = absurd (cc)
