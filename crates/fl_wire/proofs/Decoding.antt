-- What the first fragments of a call hold, and its arguments from their bits.
use Rattle.std.proofs.Common.{◌≡◌, ℕ, ℤ, pos, negsuc, zero, suc, ◌+◌, ◌-◌, ◌*◌, ◌/◌, ◌%◌, ◌^◌, ◌<◌, ◌≤◌, true, false, ◌⊎◌, inl, inr, ⊎_elim, List, map, length, get_or, take, slice_index, refl, sym, ◌∙◌, ap, arith, cond, ltb, leb, ◌&&◌, Some}
use Rattle.std.specs.Prelude.{slice_get, Option, ◌-ℤ◌}
use Rattle.std.specs.List.{range_with_len}
use Rattle.std.specs.Int.{byte_at, to_le_bytes, w64}
use Rattle.std.proofs.lemmas.Nat.{le_bytes_8}
use Rattle.std.proofs.lemmas.Int.{ints}
use Rattle.std.proofs.lemmas.List.{length-take-le}
use Rattle.std.proofs.lemmas.List.FromFn.{get_or-map-range_with_len, take-map-range_with_len}
use Rattle.std.proofs.lemmas.Bool.{false≢true, ltb-true, lt-ltb, le-leb, lt-leb}
use Rattle.fl_base.specs.declared.fragment.Frag.{Frag}
use Rattle.fl_base.specs.Control.{message_of, control_word}
use Rattle.fl_interface.specs.declared.interface.Scalar.{Scalar}
use Rattle.fl_interface.specs.declared.interface.Scalar.TheVariants.{Uint8, Int8, Bool as BoolType, Char, Uint16, Int16, Uint32, Int32, Iref, Uint64, Int64, Uintptr, Intptr, Size, Errval}
use Rattle.fl_interface.specs.Interface.{scalar, enumeration, TheArgType, fixed, TheInterface}
use Rattle.fl_interface.specs.Sizes.{scalar_size}
use Rattle.fl_value_data.specs.Value.{Datum, number, TheCall}
use Rattle.fl_value_data.specs.Fits.{is_argument, least_above, how_many_below, is_scalar_value}
use Rattle.fl_value_data.specs.declared.value.PlanNo.{PlanNo}
use Rattle.fl_layout.specs.Leaves.{leaves, is_number_type}
use Rattle.fl_layout.specs.Places.{size, count_for, count}
use Rattle.fl_wire.specs.Payload.{payload_of, word, frag_on, frags_of}
use Rattle.fl_wire.specs.Standing.{words_in, raw_of, signed_half, number_back}
use Rattle.fl_wire.specs.Shapes.{Agrees}
use Rattle.fl_wire.proofs.Bytes.{get_made}
use Rattle.fl_wire.proofs.Readings.{window_of, window_at, window_small, byte_of_payload, all_small, length_frags}

-- ---- numbers from their bits

pub half_room : (s : Scalar) → (signed_half (fixed (scalar s)) ≡ 0) ⊎ ((least_above s ≡ signed_half (fixed (scalar s))) × (2 ^ (8 * scalar_size s) ≡ 2 * signed_half (fixed (scalar s))))
half_room Uint8 = inl refl
half_room Int8 = inr (refl, refl)
half_room BoolType = inl refl
half_room Char = inl refl
half_room Uint16 = inl refl
half_room Int16 = inr (refl, refl)
half_room Uint32 = inl refl
half_room Int32 = inr (refl, refl)
half_room Iref = inl refl
half_room Uint64 = inl refl
half_room Int64 = inr (refl, refl)
half_room Uintptr = inl refl
half_room Intptr = inr (refl, refl)
half_room Size = inl refl
half_room Errval = inl refl

abbrev pub back_from : ℕ → ℕ → ℤ
back_from half bits = cond (ltb 0 half && leb half bits) (pos bits -ℤ pos (2 * half)) (pos bits)

pub back_low : (half n : ℕ) → (half ≡ 0) ⊎ (n < half) → back_from half n ≡ pos n
back_low half n (inl e) = rw e refl
back_low half n (inr h) = rw (lt-leb half n h) (
    elim (ltb 0 half) as (λ v. cond (v && false) (pos n -ℤ pos (2 * half)) (pos n) ≡ pos n) [ true ↦ refl | false ↦ refl ])

pub back_high : (half m bits : ℕ) → m < half → bits + 1 + m ≡ 2 * half → back_from half bits ≡ negsuc m
back_high half m bits h e = rw (lt-ltb 0 half (omega (arith, h)), le-leb half bits (omega (arith, h, e))) (omega (arith, ints, h, e))

scalar_back : (s : Scalar) (z : ℤ) → is_scalar_value s z ≡ true → number_back (fixed (scalar s)) (raw_of (fixed (scalar s), number z)) ≡ z
scalar_back s (pos n) h = back_low (signed_half (fixed (scalar s))) n (⊎_elim
    (λ none. inl none)
    (λ (own, all). inr (omega (arith, own, ltb-true n (least_above s) h)))
    (half_room s))
scalar_back s (negsuc m) h =
    let below : m < signed_half (fixed (scalar s)) = ltb-true m (how_many_below s) h in
    ⊎_elim
    (λ none. absurd (omega (arith, none, below)))
    (λ (own, all). back_high (signed_half (fixed (scalar s))) m (2 ^ (8 * scalar_size s) - 1 - m) below (omega (arith, all, below)))
    (half_room s)

-- the number back from its bits
pub number_told : (t : TheArgType) (d : Datum) → is_number_type t ≡ true → is_argument t d ≡ true → number (number_back t (raw_of (t, d))) ≡ d
number_told (fixed (scalar s)) (number z) k h = ap number (scalar_back s z h)
number_told (fixed (enumeration n)) (number (pos m)) k h = refl
number_told (fixed (enumeration n)) (number (negsuc m)) k h = absurd (false≢true h)
number_told t d k h = cc

-- ---- what the first fragments of a call hold

pub byte_of_list : (r n : ℕ) → r < 8 → get_or (to_le_bytes w64 n) r 0 ≡ byte_at r n
byte_of_list zero n h = refl
byte_of_list (suc zero) n h = refl
byte_of_list (suc (suc zero)) n h = refl
byte_of_list (suc (suc (suc zero))) n h = refl
byte_of_list (suc (suc (suc (suc zero)))) n h = refl
byte_of_list (suc (suc (suc (suc (suc zero))))) n h = refl
byte_of_list (suc (suc (suc (suc (suc (suc zero)))))) n h = refl
byte_of_list (suc (suc (suc (suc (suc (suc (suc zero))))))) n h = refl
byte_of_list (suc (suc (suc (suc (suc (suc (suc (suc r)))))))) n h = absurd (omega (arith, h))

-- a byte of a word
byte_of_word : (xs : List ℕ) (m r p : ℕ) → ((q : ℕ) → slice_index xs q < 256) → r < 8 → 8 * m + r ≡ p → byte_at r (word xs m) ≡ slice_index xs p
byte_of_word xs m r p small h e =
    sym (byte_of_list r (word xs m) h)
    ∙ ap (λ (bs : List ℕ). get_or bs r 0) (le_bytes_8 (window_of xs m) (word xs m) refl (window_small xs m small) refl)
    ∙ window_at xs m r h ∙ ap (slice_index xs) e

-- the first fragments
pub prefix_frags : (plan : PlanNo) (i : TheInterface) (c : TheCall) (k : ℕ) → k ≤ count plan i c → take k (frags_of plan i c) ≡ map (frag_on 0 c.msg (payload_of plan i c)) (range_with_len 0 k)
prefix_frags plan i c k h = take-map-range_with_len (frag_on 0 c.msg (payload_of plan i c)) 0 (count plan i c) k h

pub prefix_length : (plan : PlanNo) (i : TheInterface) (c : TheCall) (k : ℕ) (frags : List Frag) → k ≤ count plan i c → frags ≡ take k (frags_of plan i c) → length frags ≡ k
prefix_length plan i c k frags h e = ap length e ∙ length-take-le k (frags_of plan i c) (omega (arith, h, length_frags plan i c))

pub prefix_get : (plan : PlanNo) (i : TheInterface) (c : TheCall) (k j : ℕ) (frags : List Frag) → k ≤ count plan i c → frags ≡ take k (frags_of plan i c) → j < k
    → slice_get frags j ≡ Some (frag_on 0 c.msg (payload_of plan i c) j)
prefix_get plan i c k j frags h e small =
    ap (λ (fs : List Frag). slice_get fs j) (e ∙ prefix_frags plan i c k h) ∙ get_made (frag_on 0 c.msg (payload_of plan i c)) 0 k j small
    ∙ ap (λ (m : ℕ). Some (frag_on 0 c.msg (payload_of plan i c) m)) (omega arith)

pub prefix_holds : (plan : PlanNo) (i : TheInterface) (c : TheCall) (k : ℕ) (frags : List Frag) → k ≤ count plan i c → frags ≡ take k (frags_of plan i c) → Agrees frags (leaves plan i c) (56 * length frags)
prefix_holds plan i c k frags h e = record {
  at = λ p inside.
      let bytes = payload_of plan i c in
      let n = p / 56 in
      let small : n < k = omega (arith, inside, prefix_length plan i c k frags h e) in
      ap (λ (f : Option Frag). byte_at (p % 8) (slice_index (words_in f) (p / 8 % 7))) (prefix_get plan i c k n frags h e small)
      ∙ ap (byte_at (p % 8)) (get_or-map-range_with_len (word bytes) (7 * n) 7 (p / 8 % 7) (p / 8) 0 (omega arith) (omega arith))
      ∙ byte_of_word bytes (p / 8) (p % 8) p (all_small (leaves plan i c)) (omega arith) (omega arith)
      ∙ byte_of_payload (leaves plan i c) p;
}

control_same : (f g : Frag) → Some f ≡ Some g → f.control ≡ g.control
control_same f g e = cc

-- the first fragment tells the message
pub prefix_message : (plan : PlanNo) (i : TheInterface) (c : TheCall) (k : ℕ) (frags : List Frag) (f : Frag) → k ≤ count plan i c → frags ≡ take k (frags_of plan i c) → 0 < k → c.msg < 2 ^ 16
    → Some f ≡ slice_get frags 0 → message_of f.control ≡ c.msg
prefix_message plan i c k frags f h e some small is =
    let same : Some f ≡ Some (frag_on 0 c.msg (payload_of plan i c) 0) = is ∙ prefix_get plan i c k 0 frags h e some in
    let control : f.control ≡ control_word true c.msg 0 = control_same f (frag_on 0 c.msg (payload_of plan i c) 0) same in
    omega (arith, control, small)

-- a call that is cut short, and one that is whole
pub short_count : (size count k : ℕ) → count ≡ count_for size → 56 * k < size → k < count
short_count size count k e h = omega (arith, e, h)

pub whole_count : (size count k : ℕ) → count ≡ count_for size → 0 < k → size ≤ 56 * k → count ≤ k
whole_count size count k e some h = omega (arith, e, some, h)
