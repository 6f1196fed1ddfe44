-- Lines that are kept to those of a file.
use Rattle.std.proofs.Common.{◌≡◌, ◌⊎◌, inl, inr, ℕ, ◌<◌, List, [], ◌∷◌, ◌++◌, map, length, get_or, true, sym, ap, ◌∙◌, subst, arith}
use Rattle.std.specs.List.{All, Contains}
use Rattle.std.specs.List.Sorted.{IsPermutation}
use Rattle.std.proofs.lemmas.List.{get_or-map, length-map}
use Rattle.std.proofs.lemmas.List.Elements.{All-weaker, All-map, Contains-get_or}
use Rattle.std.proofs.lemmas.List.Sorted.{IsPermutation-sym, IsPermutation-map, Contains-permutation}
use Rattle.fl_cores_script.specs.Replays.{AreLines}
use Rattle.fl_cores_script.specs.Kept.{is_event, AreFileLines, IsKept, KeepsToFile}

-- a line that stands at a place
pub found_at : {P : Type 0} (f : P → List ℕ) (xs : List P) (at : ℕ) (x : P) (line : List ℕ) → at < length xs → x ≡ get_or xs at x
    → f x ≡ line → Contains (map f xs) line
found_at f xs at x line below is same =
    let there : get_or (map f xs) at (f x) ≡ line = get_or-map f xs at x (f x) below ∙ (ap f (sym is) ∙ same) in
    let within : at < length (map f xs) = omega (arith, length-map xs f, below) in
    subst (λ (l : List ℕ). Contains (map f xs) l) there (Contains-get_or (map f xs) at (f x) within)

kept_either : (own sorted : List (List ℕ)) (line : List ℕ) → IsPermutation own sorted → Contains sorted line ⊎ (is_event line ≡ true) → IsKept own line
kept_either own sorted line moved (inl there) =
    record { either = inl (Contains-permutation sorted own line (IsPermutation-sym own sorted moved) there) }
kept_either own sorted line moved (inr event) = record { either = inr event }

kept_by : (own sorted : List (List ℕ)) → IsPermutation own sorted → (line : List ℕ) → IsKept sorted line → IsKept own line
kept_by own sorted moved line kept = kept_either own sorted line moved kept.either

-- what is kept to lines in order is kept to them
pub kept_unsorted : {P Q : Type 0} (f : P → List ℕ) (g : Q → List ℕ) (own sorted : List P) (lines : List Q) → IsPermutation own sorted
    → All (λ l. IsKept (map f sorted) (g l)) lines → All (λ l. IsKept (map f own) (g l)) lines
kept_unsorted f g own sorted lines moved kept =
    All-weaker (λ l. IsKept (map f sorted) (g l)) (λ l. IsKept (map f own) (g l))
    (λ l. kept_by (map f own) (map f sorted) (IsPermutation-map f own sorted moved) (g l)) lines kept

own_lines : (file text : List ℕ) (own : List (List ℕ)) → AreLines text own → (text ≡ file) ⊎ (text ≡ file ++ 10 ∷ []) → AreFileLines file own
own_lines file text own are (inl is) = inl (subst (λ (t : List ℕ). AreLines t own) is are)
own_lines file text own are (inr is) = inr (subst (λ (t : List ℕ). AreLines t own) is are)

pub keeps : {Q : Type 0} (g : Q → List ℕ) (script file text : List ℕ) (lines : List Q) (own : List (List ℕ)) → AreLines script (map g lines)
    → AreLines text own → (text ≡ file) ⊎ (text ≡ file ++ 10 ∷ []) → All (λ l. IsKept own (g l)) lines → KeepsToFile script file
keeps g script file text lines own are its fed each = record {
  lines = map g lines;
  own = own;
  are_lines = are;
  are_own = own_lines file text own its fed;
  each = All-map (IsKept own) g lines each;
}
