-- Sizes and alignments in bytes. A scalar is aligned to its size; a struct's alignment is its greatest
-- field's, its fields follow in order, each at its alignment, and its size is rounded up to its
-- alignment; an array has its element's alignment and stride.
use Rattle.std.specs.Prelude.{◌≡◌, ◌⊎◌, ℕ, ◌+◌, ◌-◌, ◌*◌, ◌%◌, max}
use Rattle.fl_interface.specs.declared.interface.Scalar.{Scalar}
use Rattle.fl_interface.specs.declared.interface.Scalar.TheVariants.{Uint8, Int8, Bool, Char, Uint16, Int16, Uint32, Int32, Iref, Uint64, Int64, Uintptr}
use Rattle.fl_interface.specs.declared.interface.Scalar.TheVariants.{Intptr, Size, Errval}
use Rattle.fl_interface.specs.Types.{TheType, scalar, enumeration, structure, array, TheTypes, no_more, field}

-- the next multiple of an alignment; std's `next_multiple_of` gives the same
abbrev pub round_up : ℕ → ℕ → ℕ
round_up n align = n + (align - n % align) % align

abbrev pub scalar_size : Scalar → ℕ
scalar_size Uint8 = 1
scalar_size Int8 = 1
scalar_size Bool = 1
scalar_size Char = 1
scalar_size Uint16 = 2
scalar_size Int16 = 2
scalar_size Uint32 = 4
scalar_size Int32 = 4
scalar_size Iref = 4
scalar_size Uint64 = 8
scalar_size Int64 = 8
scalar_size Uintptr = 8
scalar_size Intptr = 8
scalar_size Size = 8
scalar_size Errval = 8

abbrev mutual
  pub align_of : TheType → ℕ
  align_of (scalar s) = scalar_size s
  align_of (enumeration n) = 4
  align_of (structure ts) = greatest_align ts
  align_of (array n t) = align_of t

  pub greatest_align : TheTypes → ℕ
  greatest_align no_more = 1
  greatest_align (field t ts) = max (align_of t) (greatest_align ts)

abbrev mutual
  pub size_of : TheType → ℕ
  size_of (scalar s) = scalar_size s
  size_of (enumeration n) = 4
  size_of (structure ts) = round_up (end_after 0 ts) (greatest_align ts)
  size_of (array n t) = n * size_of t

  -- where the last of the fields ends, if the first may begin at the first argument
  pub end_after : ℕ → TheTypes → ℕ
  end_after at no_more = at
  end_after at (field t ts) = end_after (round_up at (align_of t) + size_of t) ts

-- the alignments that types have, which are the widths that numbers have
abbrev pub IsAlign : ℕ → Type 0
IsAlign n = (n ≡ 1) ⊎ ((n ≡ 2) ⊎ ((n ≡ 4) ⊎ (n ≡ 8)))
