-- Messages of one number that a tape tells as it is.
use Rattle.std.specs.Prelude.{Bool, true, false, if◌then◌else◌, List, [], ◌∷◌, Option, Some, None}
use Rattle.fl_interface.specs.Interface.{scalar, TheArgType, fixed, TheMessage}
use Rattle.fl_value_data.specs.Fits.{is_signed}

-- a scalar of numbers from 0 on
abbrev pub is_plain : TheArgType → Bool
is_plain (fixed (scalar s)) = if is_signed s then false else true
is_plain t = false

-- one argument, of such a type
abbrev pub are_plain : List TheArgType → Bool
are_plain [] = false
are_plain (t ∷ []) = is_plain t
are_plain (t ∷ u ∷ ts) = false

abbrev pub is_plain_message : Option TheMessage → Bool
is_plain_message None = false
is_plain_message (Some m) = are_plain m.args
