-- Numbers by their bits: what a tape, a payload and an instruction say of a scalar.
use Rattle.std.proofs.Common.{◌≡◌, ℕ, ℤ, pos, negsuc, ◌+◌, ◌-◌, ◌*◌, ◌%◌, ◌^◌, ◌<◌, ◌≤◌, true, inl, inr, ⊎_elim, ◌⊎◌, refl, sym, ◌∙◌, ap, arith, lit≤}
use Rattle.std.proofs.Math.Nat.{mod-eq_of_lt}
use Rattle.std.proofs.lemmas.Bool.{cases_lt, ltb-true, lt-ltb, false≢true}
use Rattle.fl_interface.specs.declared.interface.Scalar.{Scalar}
use Rattle.fl_interface.specs.declared.interface.Scalar.TheVariants.{Uint8, Int8, Bool as BoolType, Char, Uint16, Int16, Uint32, Int32, Iref, Uint64, Int64, Uintptr, Intptr, Size, Errval}
use Rattle.fl_interface.specs.Sizes.{scalar_size}
use Rattle.fl_value_data.specs.Fits.{is_scalar_value, is_enumerator, scalar_bits, least_above, how_many_below}
use Rattle.fl_value_data.specs.Tape.{raw_of}
use Rattle.fl_layout.specs.Leaves.{bits_of}
use Rattle.fl_stub.specs.declared.op.Column.{Column}
use Rattle.fl_stub.specs.declared.op.Column.TheVariants.{Send, Receive}
use Rattle.fl_stub.specs.Meaning.{number, move_of}
use Rattle.fl_compile.specs.Compiled.{scalar_op, enum_op}

-- numbers from 0 to below high, and the low ones below 0
abbrev pub InRange : ℕ → ℕ → ℤ → Type 0
InRange high low (pos n) = n < high
InRange high low (negsuc n) = n < low

pub scalar_range : (s : Scalar) (z : ℤ) → is_scalar_value s z ≡ true → InRange (least_above s) (how_many_below s) z
scalar_range s (pos n) h = ltb-true n (least_above s) h
scalar_range s (negsuc n) h = ltb-true n (how_many_below s) h

in_range : (s : Scalar) (z : ℤ) → InRange (least_above s) (how_many_below s) z → is_scalar_value s z ≡ true
in_range s (pos n) h = lt-ltb n (least_above s) h
in_range s (negsuc n) h = lt-ltb n (how_many_below s) h

pub enum_range : (n : ℕ) (z : ℤ) → is_enumerator n z ≡ true → InRange n 0 z
enum_range n (pos k) h = ltb-true k n h
enum_range n (negsuc k) h = absurd (false≢true h)

-- how many numbers a scalar has
abbrev pub how_many : Scalar → ℕ
how_many s = least_above s + how_many_below s

-- all that its bytes can tell apart, or none below 0
abbrev Room : Scalar → Type 0
Room s = (how_many s ≤ 256 ^ scalar_size s) × (2 ^ scalar_bits s ≡ 256 ^ scalar_size s) × ((how_many_below s ≡ 0) ⊎ (how_many s ≡ 256 ^ scalar_size s))

scalar_room : (s : Scalar) → Room s
scalar_room Uint8 = (lit≤ tt, refl, inl refl)
scalar_room Int8 = (lit≤ tt, refl, inr refl)
scalar_room BoolType = (lit≤ tt, refl, inl refl)
scalar_room Char = (lit≤ tt, refl, inl refl)
scalar_room Uint16 = (lit≤ tt, refl, inl refl)
scalar_room Int16 = (lit≤ tt, refl, inr refl)
scalar_room Uint32 = (lit≤ tt, refl, inl refl)
scalar_room Int32 = (lit≤ tt, refl, inr refl)
scalar_room Iref = (lit≤ tt, refl, inl refl)
scalar_room Uint64 = (lit≤ tt, refl, inl refl)
scalar_room Int64 = (lit≤ tt, refl, inr refl)
scalar_room Uintptr = (lit≤ tt, refl, inl refl)
scalar_room Intptr = (lit≤ tt, refl, inr refl)
scalar_room Size = (lit≤ tt, refl, inl refl)
scalar_room Errval = (lit≤ tt, refl, inl refl)

-- ---- bits, for any range that has room in so many bits

raw_pos : (bits n : ℕ) → n < 2 ^ bits → raw_of bits (pos n) ≡ n
raw_pos bits n h = mod-eq_of_lt h

raw_neg : (bits n : ℕ) → n < 2 ^ bits → raw_of bits (negsuc n) + 1 + n ≡ 2 ^ bits
raw_neg bits n h =
    let e : n % 2 ^ bits ≡ n = mod-eq_of_lt h in
    omega (arith, e, h)

-- a leaf's bits are those on the tape
same_bits : (width high low : ℕ) → high + low ≤ 2 ^ (8 * width) → (z : ℤ) → InRange high low z → bits_of width z ≡ raw_of (8 * width) z
same_bits width high low room (pos n) h = sym (raw_pos (8 * width) n (omega (arith, room, h)))
same_bits width high low room (negsuc n) h =
    let small : n < 2 ^ (8 * width) = omega (arith, room, h) in
    ap (λ (k : ℕ). 2 ^ (8 * width) - 1 - k) (sym (mod-eq_of_lt small))

raw_below : (bits high low : ℕ) → high + low ≤ 2 ^ bits → ((low ≡ 0) ⊎ (high + low ≡ 2 ^ bits)) → (z : ℤ) → InRange high low z → raw_of bits z < high + low
raw_below bits high low room signs (pos n) h = let e = raw_pos bits n (omega (arith, room, h)) in omega (arith, e, h)
raw_below bits high low room (inl none) (negsuc n) h = absurd (omega (arith, none, h))
raw_below bits high low room (inr all) (negsuc n) h = let e = raw_neg bits n (omega (arith, room, h)) in omega (arith, e, all)

-- a number with these bits
pub record WithBits (bits high low x : ℕ) : Type 0 where
  pub z : ℤ
  pub range : InRange high low z
  pub bits_are : raw_of bits z ≡ x

with_bits : (bits high low x : ℕ) → high + low ≤ 2 ^ bits → ((low ≡ 0) ⊎ (high + low ≡ 2 ^ bits)) → x < high + low → WithBits bits high low x
with_bits bits high low x room signs h = ⊎_elim
    (λ (small : x < high). record { z = pos x; range = small; bits_are = raw_pos bits x (omega (arith, room, h)) })
    (λ (large : high ≤ x).
    let all : high + low ≡ 2 ^ bits = ⊎_elim (λ (none : low ≡ 0). absurd (omega (arith, none, large, h))) (λ (e : high + low ≡ 2 ^ bits). e) signs in
    let n = 2 ^ bits - 1 - x in
    let range : n < low = omega (arith, all, large, h) in
    let e = raw_neg bits n (omega (arith, all, h)) in
    let same : raw_of bits (negsuc n) ≡ x = omega (arith, e, all, h) in
    record { z = negsuc n; range = range; bits_are = same })
    (cases_lt x high)

-- ---- scalars

bits_room : (s : Scalar) → how_many s ≤ 2 ^ scalar_bits s
bits_room s = let room = scalar_room s in omega (arith, room.0, room.1)

bits_signs : (s : Scalar) → (how_many_below s ≡ 0) ⊎ (how_many s ≡ 2 ^ scalar_bits s)
bits_signs s =
    let room = scalar_room s in
    ⊎_elim (λ (none : how_many_below s ≡ 0). inl none) (λ (all : how_many s ≡ 256 ^ scalar_size s). inr (all ∙ sym room.1)) room.2

pub scalar_leaf : (s : Scalar) (z : ℤ) → is_scalar_value s z ≡ true → bits_of (scalar_size s) z ≡ raw_of (scalar_bits s) z
scalar_leaf s z h = same_bits (scalar_size s) (least_above s) (how_many_below s) (bits_room s) z (scalar_range s z h)

-- the numbers that a scalar's instruction moves
abbrev pub moved_below : Column → Scalar → ℕ
moved_below Send s = 256 ^ scalar_size s
moved_below Receive s = how_many s

pub scalar_moves : (column : Column) (s : Scalar) → move_of (scalar_op column s) ≡ number (scalar_size s) 0 (moved_below column s)
scalar_moves Send s = refl
scalar_moves Receive Uint8 = refl
scalar_moves Receive Int8 = refl
scalar_moves Receive BoolType = refl
scalar_moves Receive Char = refl
scalar_moves Receive Uint16 = refl
scalar_moves Receive Int16 = refl
scalar_moves Receive Uint32 = refl
scalar_moves Receive Int32 = refl
scalar_moves Receive Iref = refl
scalar_moves Receive Uint64 = refl
scalar_moves Receive Int64 = refl
scalar_moves Receive Uintptr = refl
scalar_moves Receive Intptr = refl
scalar_moves Receive Size = refl
scalar_moves Receive Errval = refl

pub scalar_moved : (column : Column) (s : Scalar) (z : ℤ) → is_scalar_value s z ≡ true → raw_of (scalar_bits s) z < moved_below column s
scalar_moved Send s z h =
    let below = raw_below (scalar_bits s) (least_above s) (how_many_below s) (bits_room s) (bits_signs s) z (scalar_range s z h) in
    omega (arith, below, (scalar_room s).0)
scalar_moved Receive s z h = raw_below (scalar_bits s) (least_above s) (how_many_below s) (bits_room s) (bits_signs s) z (scalar_range s z h)

-- a value of a scalar that has these bits
pub record ScalarOf (s : Scalar) (x : ℕ) : Type 0 where
  pub z : ℤ
  pub typed : is_scalar_value s z ≡ true
  pub bits_are : raw_of (scalar_bits s) z ≡ x

pub scalar_from : (s : Scalar) (x : ℕ) → x < how_many s → ScalarOf s x
scalar_from s x h =
    let found = with_bits (scalar_bits s) (least_above s) (how_many_below s) x (bits_room s) (bits_signs s) h in
    record { z = found.z; typed = in_range s found.z found.range; bits_are = found.bits_are }

-- ---- enums

pub enum_leaf : (n : ℕ) (z : ℤ) → n ≤ 2 ^ 32 → is_enumerator n z ≡ true → bits_of 4 z ≡ raw_of 32 z
enum_leaf n z few h = same_bits 4 n 0 (omega (arith, few)) z (enum_range n z h)

abbrev pub enum_moved_below : Column → ℕ → ℕ
enum_moved_below Send n = 256 ^ 4
enum_moved_below Receive n = n

pub enum_moves : (column : Column) (n : ℕ) → move_of (enum_op column n) ≡ number 4 0 (enum_moved_below column n)
enum_moves Send n = refl
enum_moves Receive n = refl

enum_below : (n : ℕ) (z : ℤ) → n ≤ 2 ^ 32 → is_enumerator n z ≡ true → raw_of 32 z < n
enum_below n (pos k) few h =
    let small : k < n = ltb-true k n h in
    let e = raw_pos 32 k (omega (arith, small, few)) in
    omega (arith, e, small)
enum_below n (negsuc k) few h = absurd (false≢true h)

pub enum_moved : (column : Column) (n : ℕ) (z : ℤ) → n ≤ 2 ^ 32 → is_enumerator n z ≡ true → raw_of 32 z < enum_moved_below column n
enum_moved Send n z few h = let below = enum_below n z few h in omega (arith, below, few)
enum_moved Receive n z few h = enum_below n z few h

pub enum_from : (n x : ℕ) → n ≤ 2 ^ 32 → x < n → (is_enumerator n (pos x) ≡ true) × (raw_of 32 (pos x) ≡ x)
enum_from n x few h = (lt-ltb x n h, raw_pos 32 x (omega (arith, h, few)))
