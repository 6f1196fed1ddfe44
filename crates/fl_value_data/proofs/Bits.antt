-- A scalar's numbers are told apart by their bits.
use Rattle.std.proofs.Common.{◌≡◌, ℕ, ℤ, pos, negsuc, ◌+◌, ◌-◌, ◌*◌, ◌%◌, ◌^◌, ◌<◌, ◌≤◌, true, false, inl, inr, ⊎_elim, ◌⊎◌, List, [], ◌∷◌, Some, refl, sym, ◌∙◌, ap, subst, arith, ltb, lit≤}
use Rattle.std.specs.Prelude.{None}
use Rattle.std.proofs.Math.Nat.{mod-eq_of_lt}
use Rattle.std.proofs.lemmas.Bool.{cases_lt, ltb-true, lt-ltb, le-ltb, cond-true, cond-false, false≢true}
use Rattle.fl_interface.specs.declared.interface.Scalar.{Scalar}
use Rattle.fl_interface.specs.declared.interface.Scalar.TheVariants.{Uint8, Int8, Bool as BoolType, Char, Uint16, Int16, Uint32, Int32, Iref, Uint64, Int64, Uintptr, Intptr, Size, Errval}
use Rattle.fl_interface.specs.Interface.{scalar}
use Rattle.fl_value_data.specs.Value.{Datum, number, string, elements, fields}
use Rattle.fl_value_data.specs.Fits.{is_scalar_value, is_enumerator, scalar_bits, is_signed, least_above, how_many_below}
use Rattle.fl_value_data.specs.Tape.{raw_of}
use Rattle.fl_value_data.specs.Taken.{unsigned_back, signed_back, scalar_back, ValueAt, TheOne}

-- numbers from 0 to below high, and the low ones below 0
abbrev pub InRange : ℕ → ℕ → ℤ → Type 0
InRange high low (pos n) = n < high
InRange high low (negsuc n) = n < low

pub scalar_range : (s : Scalar) (z : ℤ) → is_scalar_value s z ≡ true → InRange (least_above s) (how_many_below s) z
scalar_range s (pos n) h = ltb-true n (least_above s) h
scalar_range s (negsuc n) h = ltb-true n (how_many_below s) h

pub enum_range : (n : ℕ) (z : ℤ) → is_enumerator n z ≡ true → InRange n 0 z
enum_range n (pos k) h = ltb-true k n h
enum_range n (negsuc k) h = absurd (false≢true h)

raw_pos : (bits n : ℕ) → n < 2 ^ bits → raw_of bits (pos n) ≡ n
raw_pos bits n h = mod-eq_of_lt h

raw_neg : (bits n : ℕ) → n < 2 ^ bits → raw_of bits (negsuc n) + 1 + n ≡ 2 ^ bits
raw_neg bits n h =
    let e : n % 2 ^ bits ≡ n = mod-eq_of_lt h in
    omega (arith, e, h)

-- the bits of a number that has room in them tell it
pub raw_told : (bits high low : ℕ) → high + low ≤ 2 ^ bits → (x y : ℤ) → InRange high low x → InRange high low y → raw_of bits x ≡ raw_of bits y → x ≡ y
raw_told bits high low room (pos n) (pos m) hx hy e = ap pos (omega (arith, raw_pos bits n (omega (arith, room, hx)), raw_pos bits m (omega (arith, room, hy)), e))
raw_told bits high low room (negsuc n) (negsuc m) hx hy e = ap negsuc (omega (arith, raw_neg bits n (omega (arith, room, hx)), raw_neg bits m (omega (arith, room, hy)), e))
raw_told bits high low room (pos n) (negsuc m) hx hy e = absurd (omega (arith, raw_pos bits n (omega (arith, room, hx)), raw_neg bits m (omega (arith, room, hy)), e, room, hx, hy))
raw_told bits high low room (negsuc n) (pos m) hx hy e = absurd (omega (arith, raw_neg bits n (omega (arith, room, hx)), raw_pos bits m (omega (arith, room, hy)), e, room, hx, hy))

pub scalar_room : (s : Scalar) → least_above s + how_many_below s ≤ 2 ^ scalar_bits s
scalar_room Uint8 = lit≤ tt
scalar_room Int8 = lit≤ tt
scalar_room BoolType = lit≤ tt
scalar_room Char = lit≤ tt
scalar_room Uint16 = lit≤ tt
scalar_room Int16 = lit≤ tt
scalar_room Uint32 = lit≤ tt
scalar_room Int32 = lit≤ tt
scalar_room Iref = lit≤ tt
scalar_room Uint64 = lit≤ tt
scalar_room Int64 = lit≤ tt
scalar_room Uintptr = lit≤ tt
scalar_room Intptr = lit≤ tt
scalar_room Size = lit≤ tt
scalar_room Errval = lit≤ tt

-- a signed scalar has as many numbers below 0 as from 0 on, and no bits to spare; others have none below 0
abbrev Signs : Scalar → Type 0
Signs s = ((is_signed s ≡ false) × (how_many_below s ≡ 0)) ⊎ ((is_signed s ≡ true) × (least_above s ≡ how_many_below s) × (2 ^ scalar_bits s ≡ 2 * how_many_below s))

scalar_signs : (s : Scalar) → Signs s
scalar_signs Uint8 = inl (refl, refl)
scalar_signs Int8 = inr (refl, refl, refl)
scalar_signs BoolType = inl (refl, refl)
scalar_signs Char = inl (refl, refl)
scalar_signs Uint16 = inl (refl, refl)
scalar_signs Int16 = inr (refl, refl, refl)
scalar_signs Uint32 = inl (refl, refl)
scalar_signs Int32 = inr (refl, refl, refl)
scalar_signs Iref = inl (refl, refl)
scalar_signs Uint64 = inl (refl, refl)
scalar_signs Int64 = inr (refl, refl, refl)
scalar_signs Uintptr = inl (refl, refl)
scalar_signs Intptr = inr (refl, refl, refl)
scalar_signs Size = inl (refl, refl)
scalar_signs Errval = inl (refl, refl)

-- ---- numbers back from their bits

abbrev Back : ℕ → ℕ → ℕ → ℕ → ℤ → Type 0
Back bits high low n z = InRange high low z × (raw_of bits z ≡ n)

unsigned_found : (bits high n : ℕ) (z : ℤ) → high ≤ 2 ^ bits → unsigned_back high n ≡ Some z → Back bits high 0 n z
unsigned_found bits high n z room e = ⊎_elim
    (λ (h : n < high).
    let first : unsigned_back high n ≡ Some (pos n) = cond-true (ltb n high) (Some (pos n)) None (lt-ltb n high h) in
    let same : pos n ≡ z = cc in
    subst (λ (v : ℤ). Back bits high 0 n v) same (h, raw_pos bits n (omega (arith, room, h))))
    (λ (h : high ≤ n).
    let first : unsigned_back high n ≡ None = cond-false (ltb n high) (Some (pos n)) None (le-ltb n high h) in
    absurd (cc))
    (cases_lt n high)

unsigned_all : (bits high n : ℕ) (z : ℤ) → high ≤ 2 ^ bits → Back bits high 0 n z → unsigned_back high n ≡ Some z
unsigned_all bits high n (pos m) room b =
    let same : m ≡ n = sym (raw_pos bits m (omega (arith, room, b.0))) ∙ b.1 in
    subst (λ (k : ℕ). unsigned_back high k ≡ Some (pos m)) same (cond-true (ltb m high) (Some (pos m)) None (lt-ltb m high b.0))
unsigned_all bits high n (negsuc m) room b = absurd (omega (arith, b.0))

signed_low : (half n : ℕ) → n < half → signed_back half n ≡ Some (pos n)
signed_low half n h = cond-true (ltb n half) _ _ (lt-ltb n half h)

signed_high : (half n : ℕ) → half ≤ n → n < 2 * half → signed_back half n ≡ Some (negsuc (2 * half - 1 - n))
signed_high half n h k = cond-false (ltb n half) _ _ (le-ltb n half h) ∙ cond-true (ltb n (2 * half)) _ _ (lt-ltb n (2 * half) k)

signed_past : (half n : ℕ) → 2 * half ≤ n → signed_back half n ≡ None
signed_past half n h = cond-false (ltb n half) _ _ (le-ltb n half (omega (arith, h))) ∙ cond-false (ltb n (2 * half)) _ _ (le-ltb n (2 * half) h)

signed_found : (bits half n : ℕ) (z : ℤ) → 2 ^ bits ≡ 2 * half → signed_back half n ≡ Some z → Back bits half half n z
signed_found bits half n z room e = ⊎_elim
    (λ (h : n < half).
    let first : signed_back half n ≡ Some (pos n) = signed_low half n h in
    let same : pos n ≡ z = cc in
    subst (λ (v : ℤ). Back bits half half n v) same (h, raw_pos bits n (omega (arith, room, h))))
    (λ (h : half ≤ n). ⊎_elim
    (λ (k : n < 2 * half).
    let first : signed_back half n ≡ Some (negsuc (2 * half - 1 - n)) = signed_high half n h k in
    let same : negsuc (2 * half - 1 - n) ≡ z = cc in
    let raw = raw_neg bits (2 * half - 1 - n) (omega (arith, room, h, k)) in
    subst (λ (v : ℤ). Back bits half half n v) same (omega (arith, h, k), omega (arith, raw, room, h, k)))
    (λ (k : 2 * half ≤ n).
    let first : signed_back half n ≡ None = signed_past half n k in
    absurd (cc))
    (cases_lt n (2 * half)))
    (cases_lt n half)

signed_all : (bits half n : ℕ) (z : ℤ) → 2 ^ bits ≡ 2 * half → Back bits half half n z → signed_back half n ≡ Some z
signed_all bits half n (pos m) room b =
    let same : m ≡ n = sym (raw_pos bits m (omega (arith, room, b.0))) ∙ b.1 in
    subst (λ (k : ℕ). signed_back half k ≡ Some (pos m)) same (signed_low half m b.0)
signed_all bits half n (negsuc m) room b =
    let raw = raw_neg bits m (omega (arith, room, b.0)) in
    let same : 2 * half - 1 - n ≡ m = omega (arith, raw, b.1, b.0, room) in
    signed_high half n (omega (arith, raw, b.1, b.0, room)) (omega (arith, raw, b.1, b.0, room)) ∙ ap (λ (k : ℕ). Some (negsuc k)) same

in_range : (s : Scalar) (z : ℤ) → InRange (least_above s) (how_many_below s) z → is_scalar_value s z ≡ true
in_range s (pos n) h = lt-ltb n (least_above s) h
in_range s (negsuc n) h = lt-ltb n (how_many_below s) h

scalar_found : (s : Scalar) (n : ℕ) (z : ℤ) → scalar_back s n ≡ Some z → Back (scalar_bits s) (least_above s) (how_many_below s) n z
scalar_found s n z e = ⊎_elim
    (λ (plain_sign, none).
    let plain : unsigned_back (least_above s) n ≡ Some z = sym (cond-false (is_signed s) (signed_back (how_many_below s) n) (unsigned_back (least_above s) n) plain_sign) ∙ e in
    subst (λ (k : ℕ). Back (scalar_bits s) (least_above s) k n z) (sym none) (unsigned_found (scalar_bits s) (least_above s) n z (omega (arith, scalar_room s)) plain))
    (λ (two_signs, equal, all).
    let halved : signed_back (how_many_below s) n ≡ Some z = sym (cond-true (is_signed s) (signed_back (how_many_below s) n) (unsigned_back (least_above s) n) two_signs) ∙ e in
    subst (λ (k : ℕ). Back (scalar_bits s) k (how_many_below s) n z) (sym equal) (signed_found (scalar_bits s) (how_many_below s) n z all halved))
    (scalar_signs s)

scalar_all : (s : Scalar) (n : ℕ) (z : ℤ) → Back (scalar_bits s) (least_above s) (how_many_below s) n z → scalar_back s n ≡ Some z
scalar_all s n z b = ⊎_elim
    (λ (plain_sign, none).
    cond-false (is_signed s) (signed_back (how_many_below s) n) (unsigned_back (least_above s) n) plain_sign
    ∙ unsigned_all (scalar_bits s) (least_above s) n z (omega (arith, scalar_room s)) (subst (λ (k : ℕ). Back (scalar_bits s) (least_above s) k n z) none b))
    (λ (two_signs, equal, all).
    cond-true (is_signed s) (signed_back (how_many_below s) n) (unsigned_back (least_above s) n) two_signs
    ∙ signed_all (scalar_bits s) (how_many_below s) n z all (subst (λ (k : ℕ). Back (scalar_bits s) k (how_many_below s) n z) equal b))
    (scalar_signs s)

-- ---- numbers on a tape

scalar_only : (s : Scalar) (n : ℕ) (after : List ℕ) (z : ℤ) → scalar_back s n ≡ Some z → (c : Datum) (end : List ℕ) → ValueAt (scalar s) (n ∷ after) c end → (number z ≡ c) × (after ≡ end)
scalar_only s n after z e (number y) end h =
    let prefix : n ∷ after ≡ raw_of (scalar_bits s) y ∷ end = h.prefix in
    let heads : raw_of (scalar_bits s) y ≡ n = cc in
    let tails : after ≡ end = cc in
    let found : scalar_back s n ≡ Some y = scalar_all s n y (scalar_range s y h.typed, heads) in
    let same : z ≡ y = cc in
    (ap number same, tails)
scalar_only s n after z e (string bs) end h = absurd (false≢true h.typed)
scalar_only s n after z e (elements ds) end h = absurd (false≢true h.typed)
scalar_only s n after z e (fields ds) end h = absurd (false≢true h.typed)

pub scalar_one : (s : Scalar) (n : ℕ) (after : List ℕ) (z : ℤ) → scalar_back s n ≡ Some z → TheOne (ValueAt (scalar s) (n ∷ after)) (number z) after
scalar_one s n after z e =
    let b = scalar_found s n z e in
    record {
      stands = record { typed = in_range s z b.0; prefix = ap (λ (k : ℕ). k ∷ after) (sym b.1) };
      only = scalar_only s n after z e;
    }
