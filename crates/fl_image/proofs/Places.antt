-- Loops over places of lists.
use Rattle.std.proofs.Common.{◌≡◌, ℕ, suc, ◌+◌, ◌<◌, ◌≤◌, ⊎_elim, Bool, true, false, ◌&&◌, leb, List, [], ◌∷◌, ◌++◌, length, get_or, map, drop, Some, None, refl, sym, ap, ◌∙◌, append_assoc, arith}
use Rattle.std.specs.Prelude.{slice_get}
use Rattle.std.specs.List.{flat_map}
use Rattle.std.proofs.Math.Seq.{drop-cons}
use Rattle.std.proofs.lemmas.List.{drop_all}
use Rattle.std.proofs.lemmas.Option.{slice_get_cases}
use Rattle.std.proofs.lemmas.Bool.{leb-true, le-leb}
use Rattle.fl_interface.specs.Interface.{TheType, fields_from}
use Rattle.fl_interface.specs.Limits.{count_of}

-- the list from a place on
pub from_place : {A : Type 0} (xs : List A) (k : ℕ) (x : A) → k < length xs → x ≡ get_or xs k x → drop k xs ≡ x ∷ drop (k + 1) xs
from_place {A = A} xs k x lt e =
    let split : drop k xs ≡ get_or xs k x ∷ drop (suc k) xs = drop-cons xs k x lt in
    let one : suc k ≡ k + 1 = omega arith in
    split ∙ ap (λ (n : ℕ). get_or xs k x ∷ drop n xs) one ∙ ap (λ (y : A). y ∷ drop (k + 1) xs) (sym e)

-- the element at a place
pub at_place : {A : Type 0} (xs : List A) (k : ℕ) → k < length xs → (x : A) × (slice_get xs k ≡ Some x) × (drop k xs ≡ x ∷ drop (k + 1) xs)
at_place {A = A} xs k lt =
    ⊎_elim
    (λ (p : (x : A) × (k < length xs) × (slice_get xs k ≡ Some x) × (get_or xs k x ≡ x)). (p.0, p.2, from_place xs k p.0 lt (sym p.3)))
    (λ (p : (length xs ≤ k) × (slice_get xs k ≡ None)). absurd (omega (arith, lt, p.0)))
    ((slice_get_cases xs k).1)

-- a type's fields by their views
pub fields_from_place : {A : Type 0} (view : A → TheType) (xs : List A) (k : ℕ) (x : A) → k < length xs → x ≡ get_or xs k x
    → fields_from (map view (drop k xs)) ≡ fields_from (view x ∷ map view (drop (k + 1) xs))
fields_from_place {A = A} view xs k x lt e = ap (λ (ys : List A). fields_from (map view ys)) (from_place xs k x lt e)

pub map_from_place : {A B : Type 0} (view : A → B) (xs : List A) (k : ℕ) (x : A) → k < length xs → x ≡ get_or xs k x → map view (drop k xs) ≡ view x ∷ map view (drop (k + 1) xs)
map_from_place {A = A} view xs k x lt e = ap (map view) (from_place xs k x lt e)

pub at_end : {A B : Type 0} (view : A → B) (xs : List A) (k : ℕ) → length xs ≤ k → map view (drop k xs) ≡ []
at_end view xs k le = ap (map view) (drop_all k xs le)

pub count_view : {A : Type 0} (view : A → TheType) (xs : List A) → count_of (fields_from (map view xs)) ≡ length xs
count_view view [] = refl
count_view view (x ∷ xs) = rw (count_view view xs) (omega arith)

few_step : (n : ℕ) (x b : Bool) → leb n 32 ≡ b → 1 ≤ n → 32 < n → leb n 32 ≡ (leb 1 n && (leb n 32 && x))
few_step n x true e some many = absurd (omega (arith, leb-true n 32 e, many))
few_step n x false e some many = rw (e, le-leb 1 n some) refl

pub not_few : (n : ℕ) (x : Bool) → 1 ≤ n → 32 < n → leb n 32 ≡ (leb 1 n && (leb n 32 && x))
not_few n x some many = few_step n x (leb n 32) refl some many

-- one more is written
pub one_written : {A B : Type 0} (image : B → List ℕ) (view : A → B) (xs : List A) (k : ℕ) (x : A) (out out2 total : List ℕ) → drop k xs ≡ x ∷ drop (k + 1) xs
    → out2 ≡ out ++ image (view x) → out ++ flat_map image (map view (drop k xs)) ≡ total → out2 ++ flat_map image (map view (drop (k + 1) xs)) ≡ total
one_written {A = A} image view xs k x out out2 total split e so_far =
    let rest = flat_map image (map view (drop (k + 1) xs)) in
    ap (λ (t : List ℕ). t ++ rest) e ∙ append_assoc out (image (view x)) rest
    ∙ sym (ap (λ (ys : List A). out ++ flat_map image (map view ys)) split) ∙ so_far

pub length_of_map : {A B : Type 0} (f : A → B) (xs : List A) → length (map f xs) ≡ length xs
length_of_map f [] = refl
length_of_map f (x ∷ xs) = ap suc (length_of_map f xs)

-- whether all of a list from a place on pass a test: one more passes it, one doesn't, none is left
pub goes_past : {A B : Type 0} (every : List B → Bool) (test : B → Bool) → ((y : B) (ys : List B) → every (y ∷ ys) ≡ (test y && every ys)) → (view : A → B) (xs : List A) (k : ℕ) (x : A) (total : Bool)
    → k < length xs → x ≡ get_or xs k x → test (view x) ≡ true → every (map view (drop k xs)) ≡ total → every (map view (drop (k + 1) xs)) ≡ total
goes_past every test law view xs k x total lt e passed so_far =
    let rest = map view (drop (k + 1) xs) in
    sym (ap every (map_from_place view xs k x lt e) ∙ law (view x) rest ∙ ap (λ (b : Bool). b && every rest) passed) ∙ so_far

pub stops_at : {A B : Type 0} (every : List B → Bool) (test : B → Bool) → ((y : B) (ys : List B) → every (y ∷ ys) ≡ (test y && every ys)) → (view : A → B) (xs : List A) (k : ℕ) (x : A) (total : Bool)
    → k < length xs → x ≡ get_or xs k x → test (view x) ≡ false → every (map view (drop k xs)) ≡ total → false ≡ total
stops_at every test law view xs k x total lt e failed so_far =
    let rest = map view (drop (k + 1) xs) in
    sym (ap every (map_from_place view xs k x lt e) ∙ law (view x) rest ∙ ap (λ (b : Bool). b && every rest) failed) ∙ so_far

pub all_passed : {A B : Type 0} (every : List B → Bool) → every [] ≡ true → (view : A → B) (xs : List A) (k : ℕ) (total : Bool) → length xs ≤ k → every (map view (drop k xs)) ≡ total → true ≡ total
all_passed every none view xs k total le so_far = sym (ap every (at_end view xs k le) ∙ none) ∙ so_far
