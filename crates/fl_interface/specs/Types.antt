-- Interfaces, messages and types as definitions have them, and what of the code's messages and types stands for each.
use Rattle.std.specs.Prelude.{ℕ, List, [], ◌∷◌, map}
use Rattle.std.specs.Arc.{arc_value}
use Rattle.fl_interface.specs.declared.interface.Scalar.{Scalar as RustScalar}
use Rattle.fl_interface.specs.declared.interface.FixedType.{FixedType}
use Rattle.fl_interface.specs.declared.interface.FixedType.TheOpen.{FixedType-F, Scalar, Enumeration, Structure, Array}
use Rattle.fl_interface.specs.declared.interface.FixedType.TheFolds.{fold-FixedType}
use Rattle.fl_interface.specs.declared.interface.ArgType.{ArgType}
use Rattle.fl_interface.specs.declared.interface.ArgType.TheVariants.{Fixed, Text, Sized}
use Rattle.fl_interface.specs.declared.interface.Message.{Message}

-- a fixed type: a scalar; an enum of so many; a struct of fields; an array of so many elements
mutual
  pub data TheType : Type 0 where
    scalar : RustScalar → TheType
    enumeration : ℕ → TheType
    structure : TheTypes → TheType
    array : ℕ → TheType → TheType

  -- the fields of a struct, in order
  pub data TheTypes : Type 0 where
    no_more : TheTypes
    field : TheType → TheTypes → TheTypes

-- an argument's type: fixed, a string of at most so many bytes, or a sized array of at most so many
pub data TheArgType : Type 0 where
  fixed : TheType → TheArgType
  text : ℕ → TheArgType
  sized : ℕ → TheType → TheArgType

pub record TheMessage : Type 0 where
  pub name : List ℕ
  pub args : List TheArgType

pub record TheInterface : Type 0 where
  pub name : List ℕ
  pub messages : List TheMessage

-- the fields of a struct from the list of their types
abbrev pub fields_from : List TheType → TheTypes
fields_from [] = no_more
fields_from (t ∷ ts) = field t (fields_from ts)

abbrev pub type_step : FixedType-F TheType → TheType
type_step (Scalar s) = scalar s
type_step (Enumeration n) = enumeration n
type_step (Structure ts) = structure (fields_from (arc_value ts).items)
type_step (Array n t) = array n (arc_value t)

abbrev pub type_of : FixedType → TheType
type_of = fold-FixedType TheType type_step

abbrev pub arg_type_of : ArgType → TheArgType
arg_type_of (Fixed t) = fixed (type_of t)
arg_type_of (Text max) = text max
arg_type_of (Sized max t) = sized max (type_of t)

abbrev pub message_of : Message → TheMessage
message_of m = record { name = m.name.bytes.items; args = map arg_type_of m.args.items }
