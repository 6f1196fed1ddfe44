-- Working definitions of the reader: types of whose enums each has an enumerator, so that they have a value. Those of every
-- accepted interface are such.
use Rattle.std.specs.Prelude.{◌&&◌, nat_lt, Bool, true}
use Rattle.fl_interface.specs.Interface.{TheType, scalar, enumeration, structure, array, TheTypes, no_more}
use Rattle.fl_interface.specs.Interface.{field, TheArgType, fixed, text, sized}

abbrev mutual
  -- every enum in the type has an enumerator, also one in an array of no elements
  pub has_values : TheType → Bool
  has_values (scalar s) = true
  has_values (enumeration n) = nat_lt 0 n
  has_values (structure ts) = all_have_values ts
  has_values (array n t) = has_values t

  -- each field of a struct
  pub all_have_values : TheTypes → Bool
  all_have_values no_more = true
  all_have_values (field t ts) = has_values t && all_have_values ts

-- an argument: of a sized array the elements' type has to be so, though the length may be 0
abbrev pub argument_has_values : TheArgType → Bool
argument_has_values (fixed t) = has_values t
argument_has_values (text max) = true
argument_has_values (sized max t) = has_values t
