-- A working file: what the checker keeps, as definitions see it.
use Rattle.std.specs.Prelude.{◌≡◌, ℕ, ◌≤◌, List, map}
use Rattle.fl_interface.specs.Sizes.{size_of}
use Rattle.fl_interface.specs.Limits.{is_among}
use Rattle.fl_check.specs.declared.words.DistinctNames.{DistinctNames}
use Rattle.fl_check.specs.declared.words.SortedNames.{SortedNames}
use Rattle.fl_check.specs.declared.declared.KnownType.{KnownType}
use Rattle.fl_check.specs.declared.declared.Declared.{Declared}
use Rattle.fl_check.specs.declared.payload.Checked.{Checked}
use Rattle.fl_check.specs.declared.payload.Checked.TheVariants.{Fixed, Text, Sized}
use Rattle.std.specs.Borrow.{Bor}
use Rattle.std.specs.Global.{Vec}
use Rattle.fl_interface.specs.declared.interface.ArgType.{ArgType}
use Rattle.fl_interface.specs.Interface.{TheArgType, fixed, text, sized, type_of, arg_type_of, TheMessage}
use Rattle.fl_check.specs.Known.{Named, Before}

-- the names of a list of names
abbrev pub list_of : DistinctNames → List (List ℕ)
list_of names = map (λ name. name.now) names.set.keys

-- the same, in the order of their bytes
abbrev pub sorted_of : SortedNames → List (List ℕ)
sorted_of names = map (λ name. name.now) names.set.keys

-- two lists of the same names, in whatever order
abbrev pub HaveSame : List (List ℕ) → List (List ℕ) → Type 0
HaveSame names others = (name : List ℕ) → is_among names name ≡ is_among others name

-- a declared type with its name
abbrev pub named_of : Bor (List ℕ) × KnownType → Named
named_of k = record { name = k.0.now; type = type_of k.1.measured.fixed }

-- a declared message: its name's bytes and its arguments
abbrev pub declared_message : Vec ℕ × Vec ArgType → TheMessage
declared_message m = record { name = m.0.items; args = map arg_type_of m.1.items }

-- the types and messages that the checker has taken as declared so far, in order
abbrev pub before_of : Declared → Before
before_of d = record { types = map named_of d.types.entries; messages = map declared_message d.messages.entries }

-- the type of an argument that keeps the rules
abbrev pub checked_of : Checked → TheArgType
checked_of (Fixed measured) = fixed (type_of measured.fixed)
checked_of (Text bound) = text bound
checked_of (Sized bound element) = sized bound (type_of element.fixed)

-- a bound of at most 4,096, and types of at most 4,096 bytes
abbrev pub IsBounded : TheArgType → Type 0
IsBounded (fixed t) = size_of t ≤ 4096
IsBounded (text bound) = bound ≤ 4096
IsBounded (sized bound t) = (bound ≤ 4096) × (size_of t ≤ 4096)
