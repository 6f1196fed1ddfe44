-- Arguments in the plan's order, rank by rank.
use Rattle.std.proofs.Common.{◌≡◌, ℕ, pos, negsuc, ◌+◌, ◌-◌, ◌*◌, ◌^◌, ◌<◌, ◌≤◌, true, false, ⊎_elim, List, [], ◌∷◌, ◌++◌, map, length, drop, refl, sym, ◌∙◌, ap, subst, arith, ltb, min, lit≤}
use Rattle.std.specs.Prelude.{Option, Some, None}
use Rattle.std.specs.List.{zip}
use Rattle.std.proofs.lemmas.List.{drop_all}
use Rattle.std.proofs.lemmas.Bool.{cases_lt, lt-ltb, ltb-true, false≢true}
use Rattle.fl_interface.specs.declared.interface.Scalar.{Scalar}
use Rattle.fl_interface.specs.declared.interface.Scalar.TheVariants.{Uint8, Int8, Bool as BoolType, Char, Uint16, Int16, Uint32, Int32, Iref, Uint64, Int64, Uintptr, Intptr, Size, Errval}
use Rattle.fl_interface.specs.Interface.{scalar, enumeration, structure, array, TheArgType, fixed, text, sized, TheMessage, TheInterface}
use Rattle.fl_interface.specs.Sizes.{scalar_size}
use Rattle.fl_value_data.specs.Value.{Datum, number, string, elements, fields, TheCall}
use Rattle.fl_value_data.specs.Fits.{is_argument, are_arguments, fit_message, least_above, how_many_below}
use Rattle.fl_value_data.specs.Plan.{of_ranks}
use Rattle.fl_value_data.specs.declared.value.PlanNo.{PlanNo}
use Rattle.fl_value_data.specs.Tape.{Argument, kind, types_of}
use Rattle.fl_layout.specs.Leaves.{leaves, arguments_onto, argument_types, is_number_type}
use Rattle.fl_wire.specs.Widths.{number_width, number_of, fits_width, IsWordSized}
pub use Rattle.fl_interface.specs.Sizes.{IsAlign}
pub use Rattle.fl_interface.proofs.Aligned.{scalar_align, type_align, types_align, by_align}
pub use Rattle.fl_value_data.proofs.Ranked.{arranged_ranks}

-- ---- two lists side by side

pub zip_none : {A B : Type 0} (xs : List A) → zip {K = A} {X = B} xs [] ≡ []
zip_none [] = refl
zip_none (x ∷ xs) = refl

-- where the shorter list is used up, no pair is left
pub zip_done : {A B C D : Type 0} (f : A → C) (g : B → D) (xs : List A) (ys : List B) (n : ℕ) → n ≡ min (length xs) (length ys)
    → zip (map f (drop n xs)) (map g (drop n ys)) ≡ []
zip_done f g xs ys n e = ⊎_elim
    (λ (short : length xs < length ys). rw (drop_all n xs (omega (arith, e, short))) refl)
    (λ (short : length ys ≤ length xs). rw (drop_all n ys (omega (arith, e, short))) (zip_none (map f (drop n xs))))
    (cases_lt (length xs) (length ys))

-- ---- numbers

pub least_fits : (s : Scalar) → least_above s ≤ 2 ^ (8 * scalar_size s)
least_fits Uint8 = lit≤ tt
least_fits Int8 = lit≤ tt
least_fits BoolType = lit≤ tt
least_fits Char = lit≤ tt
least_fits Uint16 = lit≤ tt
least_fits Int16 = lit≤ tt
least_fits Uint32 = lit≤ tt
least_fits Int32 = lit≤ tt
least_fits Iref = lit≤ tt
least_fits Uint64 = lit≤ tt
least_fits Int64 = lit≤ tt
least_fits Uintptr = lit≤ tt
least_fits Intptr = lit≤ tt
least_fits Size = lit≤ tt
least_fits Errval = lit≤ tt

pub below_fits : (s : Scalar) → how_many_below s ≤ 2 ^ (8 * scalar_size s)
below_fits Uint8 = lit≤ tt
below_fits Int8 = lit≤ tt
below_fits BoolType = lit≤ tt
below_fits Char = lit≤ tt
below_fits Uint16 = lit≤ tt
below_fits Int16 = lit≤ tt
below_fits Uint32 = lit≤ tt
below_fits Int32 = lit≤ tt
below_fits Iref = lit≤ tt
below_fits Uint64 = lit≤ tt
below_fits Int64 = lit≤ tt
below_fits Uintptr = lit≤ tt
below_fits Intptr = lit≤ tt
below_fits Size = lit≤ tt
below_fits Errval = lit≤ tt

further : (n a b : ℕ) → a ≤ b → ltb n a ≡ true → ltb n b ≡ true
further n a b le h = lt-ltb n b (omega (arith, ltb-true n a h))

-- a fitting number's bits fit its width
pub number_fits : (t : TheArgType) (d : Datum) → is_number_type t ≡ true → IsWordSized t → is_argument t d ≡ true → fits_width (number_width t) (number_of d) ≡ true
number_fits (fixed (scalar s)) (number (pos n)) k w h = further n (least_above s) (2 ^ (8 * scalar_size s)) (least_fits s) h
number_fits (fixed (scalar s)) (number (negsuc n)) k w h = further n (how_many_below s) (2 ^ (8 * scalar_size s)) (below_fits s) h
number_fits (fixed (scalar s)) (string b) k w h = absurd (false≢true h)
number_fits (fixed (scalar s)) (elements b) k w h = absurd (false≢true h)
number_fits (fixed (scalar s)) (fields b) k w h = absurd (false≢true h)
number_fits (fixed (enumeration m)) (number (pos n)) k w h = further n m (2 ^ 32) w h
number_fits (fixed (enumeration m)) (number (negsuc n)) k w h = absurd (false≢true h)
number_fits (fixed (enumeration m)) (string b) k w h = absurd (false≢true h)
number_fits (fixed (enumeration m)) (elements b) k w h = absurd (false≢true h)
number_fits (fixed (enumeration m)) (fields b) k w h = absurd (false≢true h)
number_fits (fixed (structure ts)) d k w h = absurd (false≢true k)
number_fits (fixed (array n t)) d k w h = absurd (false≢true k)
number_fits (text m) d k w h = absurd (false≢true k)
number_fits (sized m t) d k w h = absurd (false≢true k)

-- ---- the message of a call

pub arguments_fit : (m : Option TheMessage) (ds : List Datum) → fit_message m ds ≡ true → are_arguments (types_of m) ds ≡ true
arguments_fit None ds h = absurd (false≢true h)
arguments_fit (Some m) ds h = h

-- ---- alignments

pub align_along : (m n : ℕ) → m ≡ n → IsAlign n → IsAlign m
align_along m n e h = subst IsAlign (sym e) h

-- a call's leaves, rank by rank
pub leaves_ranks : (plan : PlanNo) (i : TheInterface) (c : TheCall) → leaves plan i c ≡ arguments_onto false (of_ranks kind plan 5 0 (zip (argument_types i c.msg) c.args)) []
leaves_ranks plan i c = ap (λ (xs : List Argument). arguments_onto false xs []) (arranged_ranks kind plan (zip (argument_types i c.msg) c.args))
