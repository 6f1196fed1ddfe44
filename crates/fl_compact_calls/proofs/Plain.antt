-- The call of a tape of one number that is its argument's value, and the tape of a call of one number from 0 on.
use Rattle.std.proofs.Common.{ℕ, zero, suc, pos, negsuc, ◌≡◌, ◌<◌, ◌^◌, ◌%◌, Bool, true, false, List, [], ◌∷◌, ◌++◌, refl, ◌∙◌, ap, arith}
use Rattle.std.specs.Prelude.{Option, Some, None, slice_get}
use Rattle.std.specs.List.{zip, flat_map, list_all}
use Rattle.std.specs.Cmp.{first_so, second_so}
use Rattle.std.proofs.Math.Nat.{mod-eq_of_lt}
use Rattle.std.proofs.lemmas.Bool.{false≢true, leb-true, ltb-true}
use Rattle.fl_interface.specs.declared.interface.Scalar.{Scalar}
use Rattle.fl_interface.specs.declared.interface.Scalar.TheVariants.{Uint8, Int8, Bool as BoolType, Char, Uint16, Int16, Uint32, Int32, Iref, Uint64, Int64, Uintptr, Intptr, Size, Errval}
use Rattle.fl_interface.specs.Interface.{TheType, scalar, enumeration, structure, array, TheArgType, fixed, text, sized, TheMessage, TheInterface}
use Rattle.fl_interface.specs.Counts.{words_fit, argument_words_fit, messages_words_fit, interface_words_fit}
use Rattle.fl_value_data.specs.declared.value.PlanNo.{PlanNo}
use Rattle.fl_value_data.specs.declared.value.PlanNo.TheVariants.{One, Two}
use Rattle.fl_value_data.specs.Value.{Datum, number, string, elements, fields, TheCall}
use Rattle.fl_value_data.specs.Fits.{is_signed, scalar_bits, least_above, how_many_below, has_type, is_argument, are_arguments, fit_message, fits_of}
use Rattle.fl_value_data.specs.Plan.{arranged}
use Rattle.fl_value_data.specs.Tape.{value_tape, kind, tape_of_argument, types_of, tape_of}
use Rattle.fl_value_data.proofs.Bits.{scalar_room}
use Rattle.fl_compact_calls.specs.Held.{one_number}
use Rattle.fl_compact_calls.specs.Plain.{is_plain, are_plain, is_plain_message}

-- none below 0
none_below : (s : Scalar) → is_signed s ≡ false → how_many_below s ≡ 0
none_below s h = rw h refl

plain_so : (s : Scalar) (b : Bool) → is_signed s ≡ b → is_plain (fixed (scalar s)) ≡ true → is_signed s ≡ false
plain_so s true e h = absurd (cc)
plain_so s false e h = e

-- alone, an argument stands first in each plan's order
pub alone : (plan : PlanNo) (s : Scalar) (d : Datum) → arranged kind plan ((fixed (scalar s), d) ∷ []) ≡ (fixed (scalar s), d) ∷ []
alone One s d = refl
alone Two Uint8 d = refl
alone Two Int8 d = refl
alone Two BoolType d = refl
alone Two Char d = refl
alone Two Uint16 d = refl
alone Two Int16 d = refl
alone Two Uint32 d = refl
alone Two Int32 d = refl
alone Two Iref d = refl
alone Two Uint64 d = refl
alone Two Int64 d = refl
alone Two Uintptr d = refl
alone Two Intptr d = refl
alone Two Size d = refl
alone Two Errval d = refl

-- the number that a call is of, which is all of its tape
pub record OfNumber (plan : PlanNo) (i : TheInterface) (c : TheCall) : Type 0 where
  pub number_is : ℕ
  pub args : c.args ≡ one_number number_is
  pub tape : tape_of plan i c ≡ number_is ∷ []

-- a value of such a type
record OfScalar (s : Scalar) (d : Datum) : Type 0 where
  pub number_is : ℕ
  pub value : d ≡ number (pos number_is)
  pub tape : value_tape (scalar s) d ≡ number_is ∷ []

of_scalar : (s : Scalar) (d : Datum) → is_signed s ≡ false → has_type (scalar s) d ≡ true → OfScalar s d
of_scalar s (number (pos n)) u h =
    let small : n < least_above s = ltb-true n (least_above s) h in
    let bits : n % 2 ^ scalar_bits s ≡ n = mod-eq_of_lt (omega (arith, small, scalar_room s)) in
    record { number_is = n; value = refl; tape = ap (λ (k : ℕ). k ∷ []) bits }
of_scalar s (number (negsuc n)) u h = absurd (omega (arith, ltb-true n (how_many_below s) h, none_below s u))
of_scalar s (string bytes) u h = absurd (false≢true h)
of_scalar s (elements ds) u h = absurd (false≢true h)
of_scalar s (fields ds) u h = absurd (false≢true h)

of_arguments : (plan : PlanNo) (ts : List TheArgType) (ds : List Datum) → are_plain ts ≡ true → are_arguments ts ds ≡ true
    → (n : ℕ) × (ds ≡ one_number n) × (flat_map tape_of_argument (arranged kind plan (zip ts ds)) ≡ n ∷ [])
of_arguments plan [] ds p h = absurd (false≢true p)
of_arguments plan (t ∷ u ∷ ts) ds p h = absurd (false≢true p)
of_arguments plan (t ∷ []) [] p h = absurd (false≢true h)
of_arguments plan (fixed (scalar s) ∷ []) (d ∷ []) p h =
    let x = of_scalar s d (plain_so s (is_signed s) refl p) (first_so (has_type (scalar s) d) true h) in (
      x.number_is,
      ap (λ (v : Datum). v ∷ []) x.value,
      ap (flat_map tape_of_argument) (alone plan s d) ∙ ap (λ (l : List ℕ). l ++ []) x.tape,
    )
of_arguments plan (fixed (enumeration n) ∷ []) (d ∷ []) p h = absurd (false≢true p)
of_arguments plan (fixed (structure ts) ∷ []) (d ∷ []) p h = absurd (false≢true p)
of_arguments plan (fixed (array n t) ∷ []) (d ∷ []) p h = absurd (false≢true p)
of_arguments plan (text max ∷ []) (d ∷ []) p h = absurd (false≢true p)
of_arguments plan (sized max t ∷ []) (d ∷ []) p h = absurd (false≢true p)
of_arguments plan (t ∷ []) (d ∷ e ∷ ds) p h = absurd (false≢true (second_so (is_argument t d) _ h))

of_message : (plan : PlanNo) (found : Option TheMessage) (ds : List Datum) → is_plain_message found ≡ true → fit_message found ds ≡ true
    → (n : ℕ) × (ds ≡ one_number n) × (flat_map tape_of_argument (arranged kind plan (zip (types_of found) ds)) ≡ n ∷ [])
of_message plan None ds p h = absurd (false≢true p)
of_message plan (Some m) ds p h = of_arguments plan m.args ds p h

-- a fitting call of such a message is of one number, which is its tape
pub of_number : (plan : PlanNo) (i : TheInterface) (c : TheCall) → is_plain_message (slice_get i.messages c.msg) ≡ true → fits_of i c ≡ true → OfNumber plan i c
of_number plan i c p h =
    let x = of_message plan (slice_get i.messages c.msg) c.args p h in
    record { number_is = x.0; args = x.1; tape = x.2 }

-- ---- a fitting call of one number from 0 on, whatever its message

-- an enum's value stands alone, too
pub alone_enum : (plan : PlanNo) (m : ℕ) (d : Datum) → arranged kind plan ((fixed (enumeration m), d) ∷ []) ≡ (fixed (enumeration m), d) ∷ []
alone_enum One m d = refl
alone_enum Two m d = refl

-- a number from 0 on that is of a type is all of its bits
own_bits : (t : TheType) (n : ℕ) → words_fit t ≡ true → has_type t (number (pos n)) ≡ true → value_tape t (number (pos n)) ≡ n ∷ []
own_bits (scalar s) n w h =
    let small : n < least_above s = ltb-true n (least_above s) h in
    ap (λ (k : ℕ). k ∷ []) (mod-eq_of_lt (omega (arith, small, scalar_room s)))
own_bits (enumeration m) n w h =
    let small : n < m = ltb-true n m h in
    ap (λ (k : ℕ). k ∷ []) (mod-eq_of_lt (omega (arith, small, leb-true m (2 ^ 32) w)))
own_bits (structure ts) n w h = absurd (false≢true h)
own_bits (array m t) n w h = absurd (false≢true h)

one_of_arguments : (plan : PlanNo) (ts : List TheArgType) (n : ℕ) → list_all argument_words_fit ts ≡ true → are_arguments ts (one_number n) ≡ true
    → flat_map tape_of_argument (arranged kind plan (zip ts (one_number n))) ≡ n ∷ []
one_of_arguments plan [] n w h = absurd (false≢true h)
one_of_arguments plan (t ∷ u ∷ ts) n w h = absurd (false≢true (second_so (is_argument t (number (pos n))) _ h))
one_of_arguments plan (fixed (scalar s) ∷ []) n w h =
    ap (flat_map tape_of_argument) (alone plan s (number (pos n)))
    ∙ ap (λ (l : List ℕ). l ++ []) (own_bits (scalar s) n refl (first_so (has_type (scalar s) (number (pos n))) true h))
one_of_arguments plan (fixed (enumeration m) ∷ []) n w h =
    ap (flat_map tape_of_argument) (alone_enum plan m (number (pos n)))
    ∙ ap (λ (l : List ℕ). l ++ []) (own_bits (enumeration m) n (first_so (words_fit (enumeration m)) true w) (first_so (has_type (enumeration m) (number (pos n))) true h))
one_of_arguments plan (fixed (structure ts) ∷ []) n w h = absurd (false≢true h)
one_of_arguments plan (fixed (array m t) ∷ []) n w h = absurd (false≢true h)
one_of_arguments plan (text max ∷ []) n w h = absurd (false≢true h)
one_of_arguments plan (sized max t ∷ []) n w h = absurd (false≢true h)

one_of_messages : (plan : PlanNo) (ms : List TheMessage) (k n : ℕ) → messages_words_fit ms ≡ true → fit_message (slice_get ms k) (one_number n) ≡ true
    → flat_map tape_of_argument (arranged kind plan (zip (types_of (slice_get ms k)) (one_number n))) ≡ n ∷ []
one_of_messages plan [] k n w h = absurd (false≢true h)
one_of_messages plan (m ∷ ms) zero n w h = one_of_arguments plan m.args n (first_so (list_all argument_words_fit m.args) _ w) h
one_of_messages plan (m ∷ ms) (suc k) n w h = one_of_messages plan ms k n (second_so (list_all argument_words_fit m.args) _ w) h

-- its tape is the number
pub tape_of_one : (plan : PlanNo) (i : TheInterface) (msg n : ℕ) → interface_words_fit i ≡ true → fits_of i (record { msg = msg; args = one_number n }) ≡ true
    → tape_of plan i (record { msg = msg; args = one_number n }) ≡ n ∷ []
tape_of_one plan i msg n w h = one_of_messages plan i.messages msg n w h
