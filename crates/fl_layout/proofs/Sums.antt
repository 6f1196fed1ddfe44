-- Sums over lists, and that a plan's order changes no sum.
use Rattle.std.proofs.Common.{◌≡◌, ℕ, ◌+◌, true, false, Bool, if◌then◌else◌, List, [], ◌∷◌, ◌++◌, filter, refl, arith}
use Rattle.std.specs.Prelude.{◌==◌}
use Rattle.fl_interface.specs.Interface.{TheArgType, fixed, text, sized}
use Rattle.fl_interface.specs.Sizes.{align_of}
use Rattle.fl_value_data.specs.declared.value.PlanNo.{PlanNo}
use Rattle.fl_value_data.specs.declared.value.PlanNo.TheVariants.{One, Two}
use Rattle.fl_value_data.specs.Plan.{arranged, is_fixed_at, is_dynamic}
use Rattle.fl_interface.proofs.Aligned.{by_align, type_align}

abbrev pub total : {A : Type 0} → (A → ℕ) → List A → ℕ
total w [] = 0
total w (x ∷ xs) = w x + total w xs

pub total_append : {A : Type 0} (w : A → ℕ) (xs ys : List A) → total w (xs ++ ys) ≡ total w xs + total w ys
total_append w [] ys = omega arith
total_append w (x ∷ xs) ys = omega (arith, total_append w xs ys)

-- what a test leaves of a weight
abbrev pub part : {A : Type 0} → (A → ℕ) → (A → Bool) → A → ℕ
part w p x = if p x then w x else 0

pub total_filter : {A : Type 0} (w : A → ℕ) (p : A → Bool) (xs : List A) → total w (filter p xs) ≡ total (part w p) xs
total_filter w p [] = refl
total_filter w p (x ∷ xs) =
    let rest = total_filter w p xs in
    elim (p x) as (λ b. total w (if b then x ∷ filter p xs else filter p xs) ≡ (if b then w x else 0) + total (part w p) xs)
    [ true ↦ omega (arith, rest) | false ↦ omega (arith, rest) ]

-- a weight where a test holds
abbrev pub kept : ℕ → Bool → ℕ
kept n b = if b then n else 0

-- each argument is of one of the five kinds that the second plan lays out together
pub one_kind : (n : ℕ) (t : TheArgType) → kept n (is_fixed_at 8 t) + kept n (is_fixed_at 4 t) + kept n (is_fixed_at 2 t) + kept n (is_fixed_at 1 t) + kept n (is_dynamic t) ≡ n
one_kind n (fixed t) =
    by_align (λ a. kept n (a == 8) + kept n (a == 4) + kept n (a == 2) + kept n (a == 1) + 0 ≡ n)
    (omega arith) (omega arith) (omega arith) (omega arith) (align_of t) (type_align t)
one_kind n (text most) = omega arith
one_kind n (sized most t) = omega arith

abbrev pub in_five : {A : Type 0} → (A → ℕ) → (A → TheArgType) → List A → ℕ
in_five w type xs =
    total (part w (λ x. is_fixed_at 8 (type x))) xs + total (part w (λ x. is_fixed_at 4 (type x))) xs
    + total (part w (λ x. is_fixed_at 2 (type x))) xs + total (part w (λ x. is_fixed_at 1 (type x))) xs
    + total (part w (λ x. is_dynamic (type x))) xs

pub five_whole : {A : Type 0} (w : A → ℕ) (type : A → TheArgType) (xs : List A) → in_five w type xs ≡ total w xs
five_whole w type [] = omega arith
five_whole w type (x ∷ xs) = omega (arith, one_kind (w x) (type x), five_whole w type xs)

pub total_arranged : {A : Type 0} (w : A → ℕ) (type : A → TheArgType) (plan : PlanNo) (xs : List A) → total w (arranged type plan xs) ≡ total w xs
total_arranged w type One xs = refl
total_arranged w type Two xs =
    let a = filter (λ x. is_fixed_at 8 (type x)) xs in
    let b = filter (λ x. is_fixed_at 4 (type x)) xs in
    let c = filter (λ x. is_fixed_at 2 (type x)) xs in
    let d = filter (λ x. is_fixed_at 1 (type x)) xs in
    let e = filter (λ x. is_dynamic (type x)) xs in
    omega (
      arith,
      five_whole w type xs,
      total_filter w (λ x. is_fixed_at 8 (type x)) xs,
      total_filter w (λ x. is_fixed_at 4 (type x)) xs,
      total_filter w (λ x. is_fixed_at 2 (type x)) xs,
      total_filter w (λ x. is_fixed_at 1 (type x)) xs,
      total_filter w (λ x. is_dynamic (type x)) xs,
      total_append w (a ++ b ++ c ++ d) e,
      total_append w (a ++ b ++ c) d,
      total_append w (a ++ b) c,
      total_append w a b,
    )
