-- A fitting call of one number from 0 on takes one fragment.
use Rattle.std.proofs.Common.{ℕ, pos, ◌≡◌, ◌+◌, true, false, List, [], ◌∷◌, Option, Some, None, refl, ap, ◌∙◌}
use Rattle.std.specs.Prelude.{slice_get}
use Rattle.std.specs.List.{zip}
use Rattle.std.specs.Cmp.{second_so}
use Rattle.std.proofs.lemmas.Bool.{false≢true}
use Rattle.fl_interface.specs.declared.interface.Scalar.{Scalar}
use Rattle.fl_interface.specs.declared.interface.Scalar.TheVariants.{Uint8, Int8, Bool as BoolType, Char, Uint16, Int16, Uint32, Int32, Iref, Uint64, Int64, Uintptr, Intptr, Size, Errval}
use Rattle.fl_interface.specs.Interface.{scalar, enumeration, structure, array, TheArgType, fixed, text, sized, TheMessage, TheInterface}
use Rattle.fl_interface.specs.Sizes.{scalar_size, round_up}
use Rattle.fl_value_data.specs.declared.value.PlanNo.{PlanNo}
use Rattle.fl_value_data.specs.Value.{number}
use Rattle.fl_value_data.specs.Fits.{is_argument, are_arguments, fit_message, fits_of}
use Rattle.fl_value_data.specs.Plan.{arranged}
use Rattle.fl_value_data.specs.Tape.{Argument, kind, types_of}
use Rattle.fl_compact_calls.specs.Held.{one_number}
use Rattle.fl_compact_calls.proofs.Plain.{alone, alone_enum}
use Rattle.fl_layout.specs.Leaves.{arguments_onto}
use Rattle.fl_layout.specs.Places.{size, count_for, count}

-- a scalar takes one fragment
short_scalar : (s : Scalar) → count_for (round_up 0 (scalar_size s) + scalar_size s) ≡ 1
short_scalar Uint8 = refl
short_scalar Int8 = refl
short_scalar BoolType = refl
short_scalar Char = refl
short_scalar Uint16 = refl
short_scalar Int16 = refl
short_scalar Uint32 = refl
short_scalar Int32 = refl
short_scalar Iref = refl
short_scalar Uint64 = refl
short_scalar Int64 = refl
short_scalar Uintptr = refl
short_scalar Intptr = refl
short_scalar Size = refl
short_scalar Errval = refl

short_arguments : (plan : PlanNo) (ts : List TheArgType) (n : ℕ) → are_arguments ts (one_number n) ≡ true
    → count_for (size (arguments_onto false (arranged kind plan (zip ts (one_number n))) [])) ≡ 1
short_arguments plan [] n h = absurd (false≢true h)
short_arguments plan (t ∷ u ∷ ts) n h = absurd (false≢true (second_so (is_argument t (number (pos n))) _ h))
short_arguments plan (fixed (scalar s) ∷ []) n h =
    ap (λ (xs : List Argument). count_for (size (arguments_onto false xs []))) (alone plan s (number (pos n))) ∙ short_scalar s
short_arguments plan (fixed (enumeration m) ∷ []) n h =
    ap (λ (xs : List Argument). count_for (size (arguments_onto false xs []))) (alone_enum plan m (number (pos n)))
short_arguments plan (fixed (structure ts) ∷ []) n h = absurd (false≢true h)
short_arguments plan (fixed (array m t) ∷ []) n h = absurd (false≢true h)
short_arguments plan (text max ∷ []) n h = absurd (false≢true h)
short_arguments plan (sized max t ∷ []) n h = absurd (false≢true h)

short_message : (plan : PlanNo) (found : Option TheMessage) (n : ℕ) → fit_message found (one_number n) ≡ true
    → count_for (size (arguments_onto false (arranged kind plan (zip (types_of found) (one_number n))) [])) ≡ 1
short_message plan None n h = absurd (false≢true h)
short_message plan (Some m) n h = short_arguments plan m.args n h

pub short_number : (plan : PlanNo) (i : TheInterface) (msg n : ℕ) → fits_of i (record { msg = msg; args = one_number n }) ≡ true
    → count plan i (record { msg = msg; args = one_number n }) ≡ 1
short_number plan i msg n h = short_message plan (slice_get i.messages msg) n h
