-- The leaves of arguments end where their extents do.
use Rattle.std.proofs.Common.{◌≡◌, ℕ, ◌+◌, ◌*◌, true, false, Bool, if◌then◌else◌, max, List, [], ◌∷◌, map, length, refl, sym, ◌∙◌, ap, subst, arith, ◌&&◌}
use Rattle.std.proofs.lemmas.Bool.{and_parts, false≢true}
use Rattle.std.specs.List.{list_all}
use Rattle.fl_interface.specs.Interface.{TheArgType, fixed, text, sized}
use Rattle.fl_interface.specs.Sizes.{size_of, align_of, round_up, IsAlign}
use Rattle.fl_interface.specs.Limits.{is_well_made, is_argument_within}
use Rattle.fl_value_data.specs.Value.{Datum, number, string, elements, fields}
use Rattle.fl_value_data.specs.Fits.{is_argument, count_of}
use Rattle.fl_value_data.specs.Plan.{is_dynamic}
use Rattle.fl_layout.specs.Leaves.{Leaf, whole, single, bytes_onto, start_onto, argument_onto, arguments_onto}
use Rattle.fl_layout.specs.Places.{size}
use Rattle.fl_layout.specs.Extents.{Filled, count_at, extent_of, end_of, due_after, end_of_all}
use Rattle.fl_interface.proofs.Aligned.{IsMultiple, align_eight, align_small, rounded, round_multiple, multiple_add, multiple_of_less, type_align}
use Rattle.fl_value_data.specs.Tape.{Argument}
use Rattle.fl_layout.proofs.Sizes.{value_size, elements_size}

abbrev pub filled : Argument → Filled
filled a = (extent_of a.0, count_at (extent_of a.0) a.1)

abbrev pub due_of : Bool → ℕ
due_of after_dynamic = if after_dynamic then 8 else 1

-- an argument of a type within the limits that has its type
abbrev pub is_good : Argument → Bool
is_good a = is_argument_within a.0 && is_argument a.0 a.1

pub bytes_size : (bs : List ℕ) (before : List Leaf) → size (bytes_onto bs before) ≡ size before + length bs
bytes_size [] before = omega arith
bytes_size (b ∷ bs) before = bytes_size bs (single b ∷ before) ∙ omega arith

-- what begins at a multiple of 8 begins at a multiple of each alignment
start_eight : (a s : ℕ) → IsAlign a → IsMultiple a (round_up s 8)
start_eight a s h = multiple_of_less a 8 (round_up s 8) h align_eight (align_small a h).1 (rounded 8 s align_eight)

fixed_start : (after_dynamic : Bool) (a s : ℕ) → IsAlign a → (before : List Leaf) → size before ≡ s
    → round_up (size (start_onto after_dynamic before)) a ≡ round_up s (max (due_of after_dynamic) a)
fixed_start false a s h before e = ap (λ n. round_up n a) e ∙ ap (λ m. round_up s m) (omega (arith, (align_small a h).0))
fixed_start true a s h before e =
    let start : round_up (size before) 8 + 0 ≡ round_up s 8 = ap (λ n. round_up n 8 + 0) e ∙ omega arith in
    ap (λ n. round_up n a) start ∙ round_multiple a (round_up s 8) h (start_eight a s h) ∙ ap (λ m. round_up s m) (omega (arith, (align_small a h).1))

dynamic_start : (after_dynamic : Bool) (before : List Leaf) → round_up (size (start_onto after_dynamic before)) 8 ≡ round_up (size before) 8
dynamic_start false before = refl
dynamic_start true before =
    let start : round_up (size before) 8 + 0 ≡ round_up (size before) 8 = omega arith in
    ap (λ n. round_up n 8) start ∙ round_multiple 8 (round_up (size before) 8) align_eight (rounded 8 (size before) align_eight)

pub argument_end : (t : TheArgType) (d : Datum) (after_dynamic : Bool) (before : List Leaf)
    → is_argument_within t ≡ true → is_argument t d ≡ true
    → size (argument_onto t d (start_onto after_dynamic before)) ≡ end_of (size before) (due_of after_dynamic) (extent_of t) (count_at (extent_of t) d)
argument_end (fixed t) d after before w h =
    let made = and_parts (is_well_made t) _ w in
    value_size t d (start_onto after before) (made.0) h
    ∙ ap (λ n. n + size_of t) (fixed_start after (align_of t) (size before) (type_align t) before refl)
argument_end (text most) (string bytes) after before w h =
    bytes_size bytes (whole 8 (length bytes) ∷ start_onto after before)
    ∙ ap (λ n. n + 8 + length bytes) (dynamic_start after before) ∙ omega arith
argument_end (sized most t) (elements ds) after before w h =
    let within = and_parts _ _ (and_parts _ _ w).1 in
    let made = and_parts (is_well_made t) _ within.1 in
    let has = and_parts _ _ h in
    let a = align_of t in
    let start : size (whole 8 (count_of ds) ∷ start_onto after before) ≡ round_up (size before) 8 + 8
    = ap (λ n. n + 8) (dynamic_start after before) in
    let eight : IsMultiple a 8 = multiple_of_less a 8 8 (type_align t) align_eight (align_small a (type_align t)).1 refl in
    let m : IsMultiple a (size (whole 8 (count_of ds) ∷ start_onto after before))
    = subst (IsMultiple a) (sym start) (multiple_add a (round_up (size before) 8) 8 (type_align t) (start_eight a (size before) (type_align t)) eight) in
    elements_size t ds (whole 8 (count_of ds) ∷ start_onto after before) m (made.0) (has.1)
    ∙ ap (λ n. n + count_of ds * size_of t) start ∙ omega arith
argument_end (text most) (number z) after before w h = absurd (false≢true h)
argument_end (text most) (elements ds) after before w h = absurd (false≢true h)
argument_end (text most) (fields ds) after before w h = absurd (false≢true h)
argument_end (sized most t) (number z) after before w h = absurd (false≢true h)
argument_end (sized most t) (string b) after before w h = absurd (false≢true h)
argument_end (sized most t) (fields ds) after before w h = absurd (false≢true h)

due_is : (t : TheArgType) → due_of (is_dynamic t) ≡ due_after (extent_of t)
due_is (fixed t) = refl
due_is (text most) = refl
due_is (sized most t) = refl

pub arguments_end : (args : List Argument) (after_dynamic : Bool) (before : List Leaf) → list_all is_good args ≡ true
    → size (arguments_onto after_dynamic args before) ≡ end_of_all (size before) (due_of after_dynamic) (map filled args)
arguments_end [] after before h = refl
arguments_end (a ∷ args) after before h =
    let good = and_parts (is_good a) (list_all is_good args) h in
    let this = and_parts (is_argument_within a.0) (is_argument a.0 a.1) good.0 in
    let next = argument_onto a.0 a.1 (start_onto after before) in
    let ends = argument_end a.0 a.1 after before this.0 this.1 in
    arguments_end args (is_dynamic a.0) next good.1
    ∙ ap (λ n. end_of_all n (due_of (is_dynamic a.0)) (map filled args)) ends
    ∙ ap (λ n. end_of_all (end_of (size before) (due_of after) (extent_of a.0) (count_at (extent_of a.0) a.1)) n (map filled args)) (due_is a.0)
