-- Numbers from their low bytes, and scalars from their bits.
use Rattle.std.proofs.Common.{◌≡◌, ℕ, ℤ, pos, negsuc, zero, suc, ◌-◌, ◌*◌, ◌%◌, ◌^◌, ◌<◌, ◌≤◌, true, false, List, ◌++◌, length, drop, refl, ◌∙◌, ap, arith, ltb, lit≤}
use Rattle.std.proofs.Math.Nat.{mod-eq_of_lt}
use Rattle.std.proofs.lemmas.Bool.{lt-ltb, le-ltb, cond-true, cond-false, false≢true}
use Rattle.std.proofs.lemmas.List.{length-append}
use Rattle.std.proofs.lemmas.Nat.{from_le_bytes-to_le_bytes_2, from_le_bytes-to_le_bytes_4, from_le_bytes-to_le_bytes_8}
use Rattle.std.specs.Int.{bytes_low_first, from_le_bytes, w16, w32, w64}
use Rattle.fl_interface.specs.declared.interface.Scalar.{Scalar}
use Rattle.fl_interface.specs.declared.interface.Scalar.TheVariants.{Uint8, Int8, Bool as BoolType, Char, Uint16, Int16, Uint32, Int32, Iref, Uint64, Int64, Uintptr, Intptr, Size, Errval}
use Rattle.fl_interface.specs.Interface.{scalar, enumeration}
use Rattle.fl_interface.specs.Sizes.{IsAlign, scalar_size}
use Rattle.fl_interface.proofs.Aligned.{by_align, scalar_align}
use Rattle.fl_value_data.specs.Value.{number, string, elements, fields}
use Rattle.fl_value_data.specs.Fits.{is_scalar_value, scalar_bits, least_above, how_many_below}
use Rattle.fl_value_data.specs.Tape.{raw_of}
use Rattle.fl_value_data.proofs.Bits.{InRange, scalar_range, enum_range}
use Rattle.fl_value_tape.specs.Packed.{low_bytes}
use Rattle.fl_value_unpack.specs.Reading.{number_in, first_number, signed_of, scalar_of, PackedValueAt, OnlyOne}

-- ---- low bytes

pub low_length : (i width x : ℕ) → length (bytes_low_first i width x) ≡ width
low_length i zero x = refl
low_length i (suc width) x = ap suc (low_length (suc i) width x)

pub low_dropped : (i width x : ℕ) (more : List ℕ) → drop width (bytes_low_first i width x ++ more) ≡ more
low_dropped i zero x more = refl
low_dropped i (suc width) x more = low_dropped (suc i) width x more

enough : (width x : ℕ) (end : List ℕ) → ltb (length (low_bytes width x ++ end)) width ≡ false
enough width x end = le-ltb (length (low_bytes width x ++ end)) width (omega (arith, length-append (low_bytes width x) end, low_length 0 width x))

-- so many bytes are the number whose low bytes they are, where it fits them
abbrev Told : ℕ → Type 0
Told width = (x : ℕ) (end : List ℕ) → x < 256 ^ width → first_number width (low_bytes width x ++ end) ≡ x

told_1 : Told 1
told_1 x end small =
    let e : x % 256 ≡ x = omega (arith, small) in
    cond-false (ltb (length (low_bytes 1 x ++ end)) 1) 0 (x % 256) (enough 1 x end) ∙ e

told_2 : Told 2
told_2 x end small =
    cond-false (ltb (length (low_bytes 2 x ++ end)) 2) 0 (from_le_bytes w16 (low_bytes 2 x)) (enough 2 x end) ∙ from_le_bytes-to_le_bytes_2 x (omega (arith, small))

pub told_4 : Told 4
told_4 x end small =
    cond-false (ltb (length (low_bytes 4 x ++ end)) 4) 0 (from_le_bytes w32 (low_bytes 4 x)) (enough 4 x end) ∙ from_le_bytes-to_le_bytes_4 x (omega (arith, small))

pub told_8 : Told 8
told_8 x end small =
    cond-false (ltb (length (low_bytes 8 x ++ end)) 8) 0 (from_le_bytes w64 (low_bytes 8 x)) (enough 8 x end) ∙ from_le_bytes-to_le_bytes_8 x (omega (arith, small))

pub told : (width : ℕ) → IsAlign width → Told width
told width is = by_align Told told_1 told_2 told_4 told_8 width is

-- ---- bits

-- a number's bits fit its bytes
abbrev Fit : ℕ → Type 0
Fit width = (z : ℤ) → raw_of (8 * width) z < 256 ^ width

fit_1 : Fit 1
fit_1 (pos n) = omega arith
fit_1 (negsuc n) = omega arith

fit_2 : Fit 2
fit_2 (pos n) = omega arith
fit_2 (negsuc n) = omega arith

fit_4 : Fit 4
fit_4 (pos n) = omega arith
fit_4 (negsuc n) = omega arith

fit_8 : Fit 8
fit_8 (pos n) = omega arith
fit_8 (negsuc n) = omega arith

pub raw_fits : (s : Scalar) (z : ℤ) → raw_of (scalar_bits s) z < 256 ^ scalar_size s
raw_fits s z = by_align Fit fit_1 fit_2 fit_4 fit_8 (scalar_size s) (scalar_align s) z

unsigned_same : (bits high : ℕ) → high ≤ 2 ^ bits → (z : ℤ) → InRange high 0 z → pos (raw_of bits z) ≡ z
unsigned_same bits high room (pos n) h = ap pos (mod-eq_of_lt (omega (arith, room, h)))
unsigned_same bits high room (negsuc n) h = absurd (omega (arith, h))

signed_same : (bits half : ℕ) → 2 ^ bits ≡ 2 * half → (z : ℤ) → InRange half half z → signed_of half (raw_of bits z) ≡ z
signed_same bits half room (pos n) h =
    let raw : raw_of bits (pos n) ≡ n = mod-eq_of_lt (omega (arith, room, h)) in
    ap (signed_of half) raw ∙ cond-true (ltb n half) _ _ (lt-ltb n half h)
signed_same bits half room (negsuc n) h =
    let fits : n < 2 ^ bits = omega (arith, room, h) in
    let low : n % 2 ^ bits ≡ n = mod-eq_of_lt fits in
    let r = 2 * half - 1 - n in
    let raw : raw_of bits (negsuc n) ≡ r = omega (arith, low, room) in
    let back : 2 * half - 1 - r ≡ n = omega (arith, h) in
    ap (signed_of half) raw
    ∙ cond-false (ltb r half) _ _ (le-ltb r half (omega (arith, h)))
    ∙ cond-true (ltb r (2 * half)) _ _ (lt-ltb r (2 * half) (omega (arith, h)))
    ∙ ap negsuc back

-- a scalar is told by its bits
pub scalar_same : (s : Scalar) (z : ℤ) → is_scalar_value s z ≡ true → scalar_of s (raw_of (scalar_bits s) z) ≡ z
scalar_same Uint8 z h = unsigned_same (scalar_bits Uint8) (least_above Uint8) (lit≤ tt) z (scalar_range Uint8 z h)
scalar_same Int8 z h = signed_same (scalar_bits Int8) (how_many_below Int8) refl z (scalar_range Int8 z h)
scalar_same BoolType z h = unsigned_same (scalar_bits BoolType) (least_above BoolType) (lit≤ tt) z (scalar_range BoolType z h)
scalar_same Char z h = unsigned_same (scalar_bits Char) (least_above Char) (lit≤ tt) z (scalar_range Char z h)
scalar_same Uint16 z h = unsigned_same (scalar_bits Uint16) (least_above Uint16) (lit≤ tt) z (scalar_range Uint16 z h)
scalar_same Int16 z h = signed_same (scalar_bits Int16) (how_many_below Int16) refl z (scalar_range Int16 z h)
scalar_same Uint32 z h = unsigned_same (scalar_bits Uint32) (least_above Uint32) (lit≤ tt) z (scalar_range Uint32 z h)
scalar_same Int32 z h = signed_same (scalar_bits Int32) (how_many_below Int32) refl z (scalar_range Int32 z h)
scalar_same Iref z h = unsigned_same (scalar_bits Iref) (least_above Iref) (lit≤ tt) z (scalar_range Iref z h)
scalar_same Uint64 z h = unsigned_same (scalar_bits Uint64) (least_above Uint64) (lit≤ tt) z (scalar_range Uint64 z h)
scalar_same Int64 z h = signed_same (scalar_bits Int64) (how_many_below Int64) refl z (scalar_range Int64 z h)
scalar_same Uintptr z h = unsigned_same (scalar_bits Uintptr) (least_above Uintptr) (lit≤ tt) z (scalar_range Uintptr z h)
scalar_same Intptr z h = signed_same (scalar_bits Intptr) (how_many_below Intptr) refl z (scalar_range Intptr z h)
scalar_same Size z h = unsigned_same (scalar_bits Size) (least_above Size) (lit≤ tt) z (scalar_range Size z h)
scalar_same Errval z h = unsigned_same (scalar_bits Errval) (least_above Errval) (lit≤ tt) z (scalar_range Errval z h)

-- ---- on a tape

pub scalar_only : (s : Scalar) (tape rest : List ℕ) (bits : ℕ) (z : ℤ) → bits ≡ first_number (scalar_size s) tape → z ≡ scalar_of s bits → rest ≡ drop (scalar_size s) tape
    → OnlyOne (PackedValueAt (scalar s) tape) (number z) rest
scalar_only s tape rest bits z e f g (number y) end h =
    let x = raw_of (scalar_bits s) y in
    let width = scalar_size s in
    let first : bits ≡ x = e ∙ ap (first_number width) h.prefix ∙ told width (scalar_align s) x end (raw_fits s y) in
    (ap number (f ∙ ap (scalar_of s) first ∙ scalar_same s y h.typed), g ∙ ap (drop width) h.prefix ∙ low_dropped 0 width x end)
scalar_only s tape rest bits z e f g (string bs) end h = absurd (false≢true h.typed)
scalar_only s tape rest bits z e f g (elements ds) end h = absurd (false≢true h.typed)
scalar_only s tape rest bits z e f g (fields ds) end h = absurd (false≢true h.typed)

-- none stands where bytes are wanting
pub short_only : (s : Scalar) (tape rest : List ℕ) (z : ℤ) → length tape < scalar_size s → OnlyOne (PackedValueAt (scalar s) tape) (number z) rest
short_only s tape rest z short (number y) end h =
    let x = raw_of (scalar_bits s) y in
    let width = scalar_size s in
    let long : length tape ≡ length (low_bytes width x ++ end) = ap length h.prefix in
    absurd (omega (arith, short, long, length-append (low_bytes width x) end, low_length 0 width x))
short_only s tape rest z short (string bs) end h = absurd (false≢true h.typed)
short_only s tape rest z short (elements ds) end h = absurd (false≢true h.typed)
short_only s tape rest z short (fields ds) end h = absurd (false≢true h.typed)

pub enum_only : (count : ℕ) (tape rest : List ℕ) (place : ℕ) (z : ℤ) → count ≤ 2 ^ 32 → place ≡ number_in w32 4 tape → z ≡ pos place → rest ≡ drop 4 tape
    → OnlyOne (PackedValueAt (enumeration count) tape) (number z) rest
enum_only count tape rest place z few e f g (number y) end h =
    let x = raw_of 32 y in
    let first : place ≡ x = e ∙ ap (first_number 4) h.prefix ∙ told_4 x end (fit_4 y) in
    (ap number (f ∙ ap pos first ∙ unsigned_same 32 count few y (enum_range count y h.typed)), g ∙ ap (drop 4) h.prefix ∙ low_dropped 0 4 x end)
enum_only count tape rest place z few e f g (string bs) end h = absurd (false≢true h.typed)
enum_only count tape rest place z few e f g (elements ds) end h = absurd (false≢true h.typed)
enum_only count tape rest place z few e f g (fields ds) end h = absurd (false≢true h.typed)
