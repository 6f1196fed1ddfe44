-- The calls that so many fragments make whole, and how many fragments were taken.
use Rattle.std.proofs.Common.{◌≡◌, ◌≢◌, refl, sym, ◌∙◌, ap, subst, ℕ, zero, suc, ◌+◌, ◌-◌, ◌≤◌, ◌<◌, nat_le, Bool, true, false, if◌then◌else◌, List, [], ◌∷◌, ◌++◌, length, replicate, slice_get, slice_set, slice_index, Option, Some, None, arith}
use Rattle.std.proofs.lemmas.Bool.Decides.{nat_tests}
use Rattle.fl_base.specs.Prefix.{IsPrefix}
use Rattle.fl_base.specs.Given.{given}
use Rattle.fl_value_data.specs.Value.{TheCall}
use Rattle.fl_model.specs.Given.{changed_at}
use Rattle.fl_model.specs.Calls.{Planned, fragments, total, whole_in}
use Rattle.fl_model.specs.Ends.{Direction, passes, takes_one, taken_of, last_station}
use Rattle.fl_model_laws.proofs.Cases.{either, by_given}
use Rattle.fl_model_laws.proofs.Replies.{some_fragments, length_changed}

-- ---- whole calls

-- one more element, where there is one
abbrev pub added : Option TheCall → List TheCall
added None = []
added (Some c) = c ∷ []

picks_first : {A : Type 0} (b : Bool) (x y : A) → b ≡ true → (if b then x else y) ≡ x
picks_first b x y h = ap (λ (t : Bool). if t then x else y) h

picks_second : {A : Type 0} (b : Bool) (x y : A) → b ≡ false → (if b then x else y) ≡ y
picks_second b x y h = ap (λ (t : Bool). if t then x else y) h

at_most : (a b : ℕ) → nat_le a b ≡ true → a ≤ b
at_most a b h = grind (arith, nat_tests, h)

below : (a b : ℕ) → nat_le a b ≡ false → b < a
below a b h = grind (arith, nat_tests, h)

is_most : (a b : ℕ) → a ≤ b → nat_le a b ≡ true
is_most a b h = grind (arith, nat_tests, h)

is_below : (a b : ℕ) → b < a → nat_le a b ≡ false
is_below a b h = grind (arith, nat_tests, h)

-- no fragment is no call
whole_zero : (i : Planned) (cs : List TheCall) → whole_in i cs 0 ≡ []
whole_zero i [] = refl
whole_zero i (c ∷ cs) =
    let some : 1 ≤ fragments i c = some_fragments i c in
    picks_second (nat_le (fragments i c) 0) (c ∷ whole_in i cs (0 - fragments i c)) [] (is_below (fragments i c) 0 (omega arith))

-- the whole calls are a prefix
pub whole_prefix : (i : Planned) (cs : List TheCall) (n : ℕ) → IsPrefix (whole_in i cs n) cs
whole_prefix i [] n = ([], refl)
whole_prefix i (c ∷ cs) n =
    either (λ (ds : List TheCall). IsPrefix ds (c ∷ cs)) (nat_le (fragments i c) n) (c ∷ whole_in i cs (n - fragments i c)) []
    (λ h. let ih = whole_prefix i cs (n - fragments i c) in (ih.0, ap (λ (ds : List TheCall). c ∷ ds) ih.1))
    (λ h. (c ∷ cs, refl))

-- more calls change nothing while their fragments aren't taken
pub whole_more : (i : Planned) (cs more : List TheCall) (n : ℕ) → n ≤ total i cs → whole_in i (cs ++ more) n ≡ whole_in i cs n
whole_more i [] more n h =
    let none : n ≡ 0 = omega arith in
    subst (λ (m : ℕ). whole_in i more m ≡ []) (sym none) (whole_zero i more)
whole_more i (d ∷ cs) more n h =
    let k : ℕ = fragments i d in
    let within : n - k ≤ total i cs = omega arith in
    ap (λ (ds : List TheCall). if nat_le k n then d ∷ ds else []) (whole_more i cs more (n - k) within)

-- a fragment more is at most one call more, the one that then stands after the others
abbrev pub Grows : List TheCall → List TheCall → Type 0
Grows before now = now ≡ before ++ added (slice_get now (length before))

pub whole_grows : (i : Planned) (cs : List TheCall) (n : ℕ) → Grows (whole_in i cs n) (whole_in i cs (n + 1))
whole_grows i [] n = refl
whole_grows i (c ∷ cs) n =
    let k : ℕ = fragments i c in
    let ih : Grows (whole_in i cs (n - k)) (whole_in i cs (n - k + 1)) = whole_grows i cs (n - k) in
    either (λ (before : List TheCall). Grows before (whole_in i (c ∷ cs) (n + 1))) (nat_le k n) (c ∷ whole_in i cs (n - k)) []
    (λ h.
    let within : k ≤ n = at_most k n h in
    let also : nat_le k (n + 1) ≡ true = is_most k (n + 1) (omega arith) in
    let same : n - k + 1 ≡ n + 1 - k = omega arith in
    let now : c ∷ whole_in i cs (n - k + 1) ≡ whole_in i (c ∷ cs) (n + 1) =
    ap (λ (m : ℕ). c ∷ whole_in i cs m) same ∙ sym (picks_first (nat_le k (n + 1)) (c ∷ whole_in i cs (n + 1 - k)) [] also) in
    subst (λ (ds : List TheCall). Grows (c ∷ whole_in i cs (n - k)) ds) now (ap (λ (ds : List TheCall). c ∷ ds) ih))
    (λ h.
    let fewer : n < k = below k n h in
    either (λ (now : List TheCall). Grows [] now) (nat_le k (n + 1)) (c ∷ whole_in i cs (n + 1 - k)) []
    (λ g.
    let most : k ≤ n + 1 = at_most k (n + 1) g in
    let none : n + 1 - k ≡ 0 = omega arith in
    ap (λ (ds : List TheCall). c ∷ ds) (ap (whole_in i cs) none ∙ whole_zero i cs))
    (λ g. refl))

-- ---- fragments taken

index_other : (xs : List ℕ) (n k y : ℕ) → n ≢ k → slice_index (slice_set xs k y) n ≡ slice_index xs n
index_other [] n k y h = refl
index_other (x ∷ xs) zero zero y h = absurd (h refl)
index_other (x ∷ xs) (suc n) zero y h = refl
index_other (x ∷ xs) zero (suc k) y h = refl
index_other (x ∷ xs) (suc n) (suc k) y h = index_other xs n k y (λ q. h (ap suc q))

pub taken_stays : (station : ℕ) (d : Direction) → last_station d ≢ station → taken_of (passes station d) ≡ taken_of d
taken_stays station d h =
    let long : length (passes station d).passed ≡ length d.passed = length_changed d.passed station (λ n. n + 1) in
    ap (λ (m : ℕ). slice_index (passes station d).passed (m - 1)) long
    ∙ by_given (λ (ys : List ℕ). slice_index ys (last_station d) ≡ slice_index d.passed (last_station d)) (slice_get d.passed station) d.passed
    (λ x. slice_set d.passed station (x + 1)) refl (λ x q. index_other d.passed (last_station d) station (x + 1) h)

index_set : (xs : List ℕ) (n x y : ℕ) → slice_get xs n ≡ Some x → (slice_index xs n ≡ x) × (slice_index (slice_set xs n y) n ≡ y)
index_set [] n x y q = absurd (cc)
index_set (z ∷ xs) zero x y q = ((let e : z ≡ x = cc in e), refl)
index_set (z ∷ xs) (suc n) x y q = index_set xs n x y q

none_there : (xs : List ℕ) (n : ℕ) → n < length xs → slice_get xs n ≡ None → ⊥
none_there [] n h q = absurd (omega arith)
none_there (x ∷ xs) zero h q = absurd (cc)
none_there (x ∷ xs) (suc n) h q = none_there xs n (omega arith) q

index_by : (o : Option ℕ) (xs : List ℕ) (n : ℕ) → slice_get xs n ≡ o → n < length xs
    → slice_index (given o xs (λ x. slice_set xs n (x + 1))) n ≡ slice_index xs n + 1
index_by None xs n q h = absurd (none_there xs n h q)
index_by (Some x) xs n q h =
    let is = index_set xs n x (x + 1) q in
    is.1 ∙ ap (λ (m : ℕ). m + 1) (sym is.0)

index_grows : (xs : List ℕ) (n : ℕ) → n < length xs → slice_index (changed_at n (λ m. m + 1) xs) n ≡ slice_index xs n + 1
index_grows xs n h = index_by (slice_get xs n) xs n refl h

pub taken_grows : (d : Direction) → 1 ≤ length d.passed → taken_of (takes_one d) ≡ taken_of d + 1
taken_grows d h =
    let long : length (takes_one d).passed ≡ length d.passed = length_changed d.passed (last_station d) (λ n. n + 1) in
    ap (λ (m : ℕ). slice_index (takes_one d).passed (m - 1)) long ∙ index_grows d.passed (last_station d) (omega arith)

pub none_taken : (n k : ℕ) → slice_index (replicate n 0) k ≡ 0
none_taken zero k = refl
none_taken (suc n) zero = refl
none_taken (suc n) (suc k) = none_taken n k
