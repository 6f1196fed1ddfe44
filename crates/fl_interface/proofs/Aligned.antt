-- The alignments of types, and multiples of them.
use Rattle.std.proofs.Common.{◌≡◌, ℕ, zero, suc, ◌+◌, ◌*◌, ◌%◌, ◌≤◌, inl, inr, ⊎_elim, max, refl, sym, subst, arith}
use Rattle.fl_interface.specs.declared.interface.Scalar.{Scalar}
use Rattle.fl_interface.specs.declared.interface.Scalar.TheVariants.{Uint8, Int8, Bool as BoolType, Char, Uint16, Int16, Uint32, Int32, Iref, Uint64}
use Rattle.fl_interface.specs.declared.interface.Scalar.TheVariants.{Int64, Uintptr, Intptr, Size, Errval}
use Rattle.fl_interface.specs.Interface.{TheType, scalar, enumeration, structure, array, TheTypes, no_more, field}
use Rattle.fl_interface.specs.Sizes.{size_of, align_of, greatest_align, end_after, round_up, scalar_size, IsAlign}

-- ---- alignments

-- what holds at 1, 2, 4 and 8 holds at an alignment
pub by_align : (P : ℕ → Type 0) → P 1 → P 2 → P 4 → P 8 → (a : ℕ) → IsAlign a → P a
by_align P one two four eight a is =
    ⊎_elim (λ (e : a ≡ 1). subst P (sym e) one)
    (⊎_elim (λ (e : a ≡ 2). subst P (sym e) two)
    (⊎_elim (λ (e : a ≡ 4). subst P (sym e) four) (λ (e : a ≡ 8). subst P (sym e) eight))) is

pub align_one : IsAlign 1
align_one = inl refl

pub align_two : IsAlign 2
align_two = inr (inl refl)

pub align_four : IsAlign 4
align_four = inr (inr (inl refl))

pub align_eight : IsAlign 8
align_eight = inr (inr (inr refl))

pub greater_align : (a b : ℕ) → IsAlign a → IsAlign b → IsAlign (max a b)
greater_align a b ha hb =
    by_align (λ a. (b : ℕ) → IsAlign b → IsAlign (max a b))
    (λ b hb. by_align (λ b. IsAlign (max 1 b)) align_one align_two align_four align_eight b hb)
    (λ b hb. by_align (λ b. IsAlign (max 2 b)) align_two align_two align_four align_eight b hb)
    (λ b hb. by_align (λ b. IsAlign (max 4 b)) align_four align_four align_four align_eight b hb)
    (λ b hb. by_align (λ b. IsAlign (max 8 b)) align_eight align_eight align_eight align_eight b hb)
    a ha b hb

pub align_small : (a : ℕ) → IsAlign a → (1 ≤ a) × (a ≤ 8)
align_small a h = by_align (λ a. (1 ≤ a) × (a ≤ 8)) (omega arith, omega arith) (omega arith, omega arith) (omega arith, omega arith) (omega arith, omega arith) a h

pub scalar_align : (s : Scalar) → IsAlign (scalar_size s)
scalar_align Uint8 = align_one
scalar_align Int8 = align_one
scalar_align BoolType = align_one
scalar_align Char = align_one
scalar_align Uint16 = align_two
scalar_align Int16 = align_two
scalar_align Uint32 = align_four
scalar_align Int32 = align_four
scalar_align Iref = align_four
scalar_align Uint64 = align_eight
scalar_align Int64 = align_eight
scalar_align Uintptr = align_eight
scalar_align Intptr = align_eight
scalar_align Size = align_eight
scalar_align Errval = align_eight

mutual
  pub type_align : (t : TheType) → IsAlign (align_of t)
  type_align (scalar s) = scalar_align s
  type_align (enumeration n) = align_four
  type_align (structure ts) = types_align ts
  type_align (array n t) = type_align t

  pub types_align : (ts : TheTypes) → IsAlign (greatest_align ts)
  types_align no_more = align_one
  types_align (field t ts) = greater_align (align_of t) (greatest_align ts) (type_align t) (types_align ts)

pub some_align : (t : TheType) → (1 ≤ align_of t) × (align_of t ≤ 8)
some_align t = align_small (align_of t) (type_align t)

pub some_greatest : (ts : TheTypes) → (1 ≤ greatest_align ts) × (greatest_align ts ≤ 8)
some_greatest ts = align_small (greatest_align ts) (types_align ts)

-- ---- multiples

-- a multiple of an alignment
abbrev pub IsMultiple : ℕ → ℕ → Type 0
IsMultiple a n = n % a ≡ 0

pub rounded : (a n : ℕ) → IsAlign a → IsMultiple a (round_up n a)
rounded a n h = by_align (λ a. IsMultiple a (round_up n a)) (omega arith) (omega arith) (omega arith) (omega arith) a h

pub round_multiple : (a n : ℕ) → IsAlign a → IsMultiple a n → round_up n a ≡ n
round_multiple a n h m = by_align (λ a. IsMultiple a n → round_up n a ≡ n) (λ m. omega (arith, m)) (λ m. omega (arith, m)) (λ m. omega (arith, m)) (λ m. omega (arith, m)) a h m

pub round_after : (a b n : ℕ) → IsAlign a → IsMultiple a b → round_up (b + n) a ≡ b + round_up n a
round_after a b n h m =
    by_align (λ a. IsMultiple a b → round_up (b + n) a ≡ b + round_up n a)
    (λ m. omega (arith, m)) (λ m. omega (arith, m)) (λ m. omega (arith, m)) (λ m. omega (arith, m)) a h m

pub round_least : (a n : ℕ) → n ≤ round_up n a
round_least a n = omega arith

pub round_near : (a n : ℕ) → IsAlign a → round_up n a ≤ n + 7
round_near a n h = by_align (λ a. round_up n a ≤ n + 7) (omega arith) (omega arith) (omega arith) (omega arith) a h

pub round_rises : (a m n : ℕ) → IsAlign a → m ≤ n → round_up m a ≤ round_up n a
round_rises a m n h r =
    by_align (λ a. round_up m a ≤ round_up n a) (omega (arith, r)) (omega (arith, r)) (omega (arith, r)) (omega (arith, r)) a h

pub multiple_add : (a m n : ℕ) → IsAlign a → IsMultiple a m → IsMultiple a n → IsMultiple a (m + n)
multiple_add a m n h p q =
    by_align (λ a. IsMultiple a m → IsMultiple a n → IsMultiple a (m + n))
    (λ p q. omega (arith, p, q)) (λ p q. omega (arith, p, q)) (λ p q. omega (arith, p, q)) (λ p q. omega (arith, p, q)) a h p q

pub multiple_times : (a k n : ℕ) → IsAlign a → IsMultiple a n → IsMultiple a (k * n)
multiple_times a zero n h p = by_align (λ a. IsMultiple a (0 * n)) (omega arith) (omega arith) (omega arith) (omega arith) a h
multiple_times a (suc k) n h p =
    let rest = multiple_times a k n h p in
    let both = multiple_add a n (k * n) h p rest in
    let e : suc k * n ≡ n + k * n = omega arith in
    subst (IsMultiple a) (sym e) both

-- a multiple of an alignment is one of each smaller alignment
pub multiple_of_less : (a b n : ℕ) → IsAlign a → IsAlign b → a ≤ b → IsMultiple b n → IsMultiple a n
multiple_of_less a b n ha hb r m =
    by_align (λ a. (b : ℕ) → IsAlign b → a ≤ b → IsMultiple b n → IsMultiple a n)
    (λ b hb r m. omega arith)
    (λ b hb. by_align (λ b. 2 ≤ b → IsMultiple b n → IsMultiple 2 n) (λ r m. absurd (omega (arith, r))) (λ r m. m) (λ r m. omega (arith, m)) (λ r m. omega (arith, m)) b hb)
    (λ b hb. by_align (λ b. 4 ≤ b → IsMultiple b n → IsMultiple 4 n) (λ r m. absurd (omega (arith, r))) (λ r m. absurd (omega (arith, r))) (λ r m. m) (λ r m. omega (arith, m)) b hb)
    (λ b hb. by_align (λ b. 8 ≤ b → IsMultiple b n → IsMultiple 8 n) (λ r m. absurd (omega (arith, r))) (λ r m. absurd (omega (arith, r))) (λ r m. absurd (omega (arith, r))) (λ r m. m) b hb)
    a ha b hb r m

-- the size of a type is a multiple of its alignment
pub size_multiple : (t : TheType) → IsMultiple (align_of t) (size_of t)
size_multiple (scalar Uint8) = refl
size_multiple (scalar Int8) = refl
size_multiple (scalar BoolType) = refl
size_multiple (scalar Char) = refl
size_multiple (scalar Uint16) = refl
size_multiple (scalar Int16) = refl
size_multiple (scalar Uint32) = refl
size_multiple (scalar Int32) = refl
size_multiple (scalar Iref) = refl
size_multiple (scalar Uint64) = refl
size_multiple (scalar Int64) = refl
size_multiple (scalar Uintptr) = refl
size_multiple (scalar Intptr) = refl
size_multiple (scalar Size) = refl
size_multiple (scalar Errval) = refl
size_multiple (enumeration n) = refl
size_multiple (structure ts) = rounded (greatest_align ts) (end_after 0 ts) (types_align ts)
size_multiple (array n t) = multiple_times (align_of t) n (size_of t) (type_align t) (size_multiple t)
