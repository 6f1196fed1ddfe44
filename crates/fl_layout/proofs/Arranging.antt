-- The plan's order of extents is that of types; and what holds of the extents within the limits.
use Rattle.std.proofs.Common.{◌≡◌, ◌≢◌, ℕ, eq-eqb, ◌+◌, ◌≤◌, true, false, Bool, if◌then◌else◌, List, [], ◌∷◌, ◌++◌, map, filter, length, refl, ap, arith, ◌||◌, not}
use Rattle.std.proofs.lemmas.List.{length-append, length-map}
use Rattle.std.proofs.lemmas.Bool.{ne_eqb, and_parts, and_from, le-leb, leb-true, ltb-false, false≢true}
use Rattle.std.specs.List.{zip, range_with_len, list_all}
use Rattle.fl_interface.specs.Interface.{TheType, TheArgType, fixed, text, sized, TheMessage}
use Rattle.fl_interface.specs.Sizes.{size_of}
use Rattle.fl_interface.specs.Limits.{is_type_within, is_argument_within, are_arguments_within, is_message_within}
use Rattle.fl_interface.proofs.Aligned.{some_align}
use Rattle.fl_value_data.specs.declared.value.PlanNo.{PlanNo}
use Rattle.fl_value_data.specs.declared.value.PlanNo.TheVariants.{One, Two}
use Rattle.fl_value_data.specs.Plan.{arranged, is_fixed_at, is_dynamic, rank_of, of_rank}
use Rattle.fl_layout.specs.declared.extent.PlacedArg.{PlacedArg}
use Rattle.fl_layout.specs.Extents.{extent_of, numbered, placing, typed, placed_of, is_varying, is_within, are_within}
use Rattle.fl_layout.proofs.Order.{all_arranged}
use Rattle.fl_layout.proofs.Measures.{numbers_small}

pub filter_ext : {A : Type 0} (p q : A → Bool) → ((x : A) → p x ≡ q x) → (xs : List A) → filter p xs ≡ filter q xs
filter_ext p q same [] = refl
filter_ext p q same (x ∷ xs) = let head = same x in let rest = filter_ext p q same xs in rw head (elim (q x) as (λ b. (if b then x ∷ filter p xs else filter p xs) ≡ (if b then x ∷ filter q xs else filter q xs)) [ true ↦ ap (λ ys. x ∷ ys) rest | false ↦ rest ])

pub varying_kind : (t : TheArgType) → is_varying (extent_of t) ≡ is_dynamic t
varying_kind (fixed t) = refl
varying_kind (text most) = refl
varying_kind (sized most t) = refl

-- what a plan keeps of the arguments of a rank, if the first of these has a number
abbrev pub left_of_rank : PlanNo → ℕ → ℕ → List TheArgType → List PlacedArg
left_of_rank plan rank k types = map placing (of_rank typed plan rank (zip (range_with_len k (length types)) types))

pub rank_taken : (plan : PlanNo) (rank k : ℕ) (t : TheArgType) (ts : List TheArgType) → rank_of plan t ≡ rank → left_of_rank plan rank k (t ∷ ts) ≡ placing (k, t) ∷ left_of_rank plan rank (k + 1) ts
rank_taken plan rank k t ts e = rw (eq-eqb (rank_of plan t) rank e) refl

pub rank_passed : (plan : PlanNo) (rank k : ℕ) (t : TheArgType) (ts : List TheArgType) → rank_of plan t ≢ rank → left_of_rank plan rank k (t ∷ ts) ≡ left_of_rank plan rank (k + 1) ts
rank_passed plan rank k t ts e = rw (ne_eqb (rank_of plan t) rank e) refl

filter_short : {A : Type 0} (p : A → Bool) (xs : List A) → length (filter p xs) ≤ length xs
filter_short p [] = omega arith
filter_short p (x ∷ xs) = let rest = filter_short p xs in elim (p x) as (λ b. length (if b then x ∷ filter p xs else filter p xs) ≤ length (x ∷ xs)) [ true ↦ omega (arith, rest) | false ↦ omega (arith, rest) ]

pub order_short : {A : Type 0} (type : A → TheArgType) (plan : PlanNo) (xs : List A) → length xs ≤ 32 → length (arranged type plan xs) ≤ 160
order_short type One xs h = omega (arith, h)
order_short type Two xs h =
    let of = λ (p : TheArgType → Bool). filter (λ x. p (type x)) xs in
    let f = λ (p : TheArgType → Bool). filter_short (λ x. p (type x)) xs in
    let a = of (is_fixed_at 8) in let b = of (is_fixed_at 4) in let c = of (is_fixed_at 2) in let d = of (is_fixed_at 1) in let e = of is_dynamic in
    omega (
      arith,
      h,
      f (is_fixed_at 8),
      f (is_fixed_at 4),
      f (is_fixed_at 2),
      f (is_fixed_at 1),
      f is_dynamic,
      length-append a b,
      length-append (a ++ b) c,
      length-append (a ++ b ++ c) d,
      length-append (a ++ b ++ c ++ d) e,
    )

first_false : (a b : Bool) → not (a || b) ≡ true → a ≡ false
first_false true b h = absurd (false≢true h)
first_false false b h = refl

pub type_small : (t : TheType) → is_type_within t ≡ true → size_of t ≤ 4096
type_small t h = ltb-false 4096 (size_of t) (first_false _ _ (and_parts _ _ h).1)

pub extent_within : (t : TheArgType) → is_argument_within t ≡ true → is_within (extent_of t) ≡ true
extent_within (fixed t) h =
    let small = type_small t h in
    and_from _ _ (le-leb _ _ small) (and_from _ _ (le-leb _ _ (some_align t).0) (and_from _ _ (le-leb _ _ (some_align t).1) (le-leb _ _ (omega (arith, numbers_small t, small)))))
extent_within (text most) h = (and_parts _ _ h).1
extent_within (sized most t) h =
    let bound = and_parts _ _ (and_parts _ _ h).1 in
    let small = type_small t bound.1 in
    and_from _ _ bound.0 (and_from _ _ (le-leb _ _ small) (le-leb _ _ (omega (arith, numbers_small t, small))))

pub numbered_within : (ts : List TheArgType) (k : ℕ) → are_arguments_within ts ≡ true → list_all (λ (a : ℕ × TheArgType). is_within (extent_of a.1)) (zip (range_with_len k (length ts)) ts) ≡ true
numbered_within [] k h = refl
numbered_within (t ∷ ts) k h =
    let parts = and_parts (is_argument_within t) (are_arguments_within ts) h in
    and_from _ _ (extent_within t parts.0) (numbered_within ts (k + 1) parts.1)

pub numbered_length : (ts : List TheArgType) (k : ℕ) → length (zip (range_with_len k (length ts)) ts) ≡ length ts
numbered_length [] k = refl
numbered_length (t ∷ ts) k = omega (arith, numbered_length ts (k + 1))

map_within : (xs : List (ℕ × TheArgType)) → list_all (λ (a : ℕ × TheArgType). is_within (extent_of a.1)) xs ≡ true → are_within (map placing xs) ≡ true
map_within [] h = refl
map_within (x ∷ xs) h = let parts = and_parts _ _ h in and_from _ _ parts.0 (map_within xs parts.1)

-- a message within the limits has few arguments, each within the limits
pub args_within : (m : TheMessage) → is_message_within m ≡ true → (length m.args ≤ 32) × (are_arguments_within m.args ≡ true)
args_within m h = let parts = and_parts _ _ h in (leb-true _ _ parts.0, (and_parts _ _ parts.1).0)

pub message_short : (plan : PlanNo) (m : TheMessage) → is_message_within m ≡ true → length (placed_of plan m) ≤ 160
message_short plan m h =
    let short = order_short typed plan (numbered m.args) (omega (arith, numbered_length m.args 0, (args_within m h).0)) in
    omega (arith, short, length-map (arranged typed plan (numbered m.args)) placing)

pub placed_are_within : (plan : PlanNo) (m : TheMessage) → is_message_within m ≡ true → are_within (placed_of plan m) ≡ true
placed_are_within plan m h =
    map_within (arranged typed plan (numbered m.args))
    (all_arranged (λ (a : ℕ × TheArgType). is_within (extent_of a.1)) typed plan (numbered m.args) (numbered_within m.args 0 (args_within m h).1))
