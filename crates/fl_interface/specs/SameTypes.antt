-- Whether two messages have the same argument types: a test of equality.
use Rattle.std.specs.Prelude.{ℕ, ◌==◌, ◌&&◌, Bool, true, false, List, [], ◌∷◌}
use Rattle.fl_interface.specs.declared.interface.Scalar.{Scalar}
use Rattle.fl_interface.specs.declared.interface.Scalar.TheVariants.{Uint8, Int8, Bool as Flag, Char, Uint16}
use Rattle.fl_interface.specs.declared.interface.Scalar.TheVariants.{Int16, Uint32, Int32, Iref, Uint64, Int64}
use Rattle.fl_interface.specs.declared.interface.Scalar.TheVariants.{Uintptr, Intptr, Size, Errval}
use Rattle.fl_interface.specs.Types.{TheType, scalar, enumeration, structure, array, TheTypes, no_more, field, TheArgType, fixed, text, sized}

-- a number for each scalar type, and no number for two
abbrev pub scalar_number : Scalar → ℕ
scalar_number Uint8 = 0
scalar_number Int8 = 1
scalar_number Flag = 2
scalar_number Char = 3
scalar_number Uint16 = 4
scalar_number Int16 = 5
scalar_number Uint32 = 6
scalar_number Int32 = 7
scalar_number Iref = 8
scalar_number Uint64 = 9
scalar_number Int64 = 10
scalar_number Uintptr = 11
scalar_number Intptr = 12
scalar_number Size = 13
scalar_number Errval = 14

abbrev mutual
  pub same_type : TheType → TheType → Bool
  same_type (scalar s) (scalar t) = scalar_number s == scalar_number t
  same_type (enumeration m) (enumeration n) = m == n
  same_type (structure ts) (structure us) = same_fields ts us
  same_type (array m t) (array n u) = (m == n) && same_type t u
  same_type t u = false

  pub same_fields : TheTypes → TheTypes → Bool
  same_fields no_more no_more = true
  same_fields (field t ts) (field u us) = same_type t u && same_fields ts us
  same_fields ts us = false

abbrev pub same_argument : TheArgType → TheArgType → Bool
same_argument (fixed t) (fixed u) = same_type t u
same_argument (text m) (text n) = m == n
same_argument (sized m t) (sized n u) = (m == n) && same_type t u
same_argument a b = false

-- the same types in the same order
abbrev pub same_arguments : List TheArgType → List TheArgType → Bool
same_arguments [] [] = true
same_arguments (a ∷ as_) (b ∷ bs) = same_argument a b && same_arguments as_ bs
same_arguments as_ bs = false
