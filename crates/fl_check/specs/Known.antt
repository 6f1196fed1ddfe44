-- What names stand for: the built-in types, and those that the declarations so far give.
use Rattle.std.specs.Prelude.{ℕ, Bool, ◌||◌, List, [], ◌∷◌, ◌++◌, map, Option, Some, None, is_some, unwrap_or, option_map, length, if◌then◌else◌, codes}
use Rattle.std.specs.Str.{bytes_eq}
use Rattle.fl_interface.specs.declared.interface.Scalar.{Scalar as RustScalar}
use Rattle.fl_interface.specs.declared.interface.Scalar.TheVariants.{Uint8, Int8, Bool as BoolScalar, Char, Uint16, Int16, Uint32, Int32, Iref, Uint64}
use Rattle.fl_interface.specs.declared.interface.Scalar.TheVariants.{Int64, Uintptr, Intptr, Size, Errval}
use Rattle.fl_interface.specs.Types.{TheType, scalar, enumeration, structure, array, fields_from, TheArgType, fixed, text, sized, TheMessage}
use Rattle.fl_parse.specs.Tree.{TheName, TheNumber, TheField, plain, bounded, sized as sized_shape, TheArgument, TheDirected, TheDeclaration}
use Rattle.fl_parse.specs.Tree.{alias_of, typedef_of, enum_of, struct_of, message_of, rpc_of}
use Rattle.fl_parse.specs.declared.tree.Direction.{Direction}
use Rattle.fl_parse.specs.declared.tree.Direction.TheVariants.{In, Out}

-- the scalar type of a name
unfoldable pub scalar_named : List ℕ → Option RustScalar
scalar_named name =
    if bytes_eq name (codes "uint8") then Some Uint8 else (
    if bytes_eq name (codes "int8") then Some Int8 else (
    if bytes_eq name (codes "bool") then Some BoolScalar else (
    if bytes_eq name (codes "char") then Some Char else (
    if bytes_eq name (codes "uint16") then Some Uint16 else (
    if bytes_eq name (codes "int16") then Some Int16 else (
    if bytes_eq name (codes "uint32") then Some Uint32 else (
    if bytes_eq name (codes "int32") then Some Int32 else (
    if bytes_eq name (codes "iref") then Some Iref else (
    if bytes_eq name (codes "uint64") then Some Uint64 else (
    if bytes_eq name (codes "int64") then Some Int64 else (
    if bytes_eq name (codes "uintptr") then Some Uintptr else (
    if bytes_eq name (codes "intptr") then Some Intptr else (
    if bytes_eq name (codes "size") then Some Size else (
    if bytes_eq name (codes "errval") then Some Errval else None))))))))))))))

-- the built-in type whose values have no fixed size, so that only arguments may have it (else E18)
unfoldable pub is_string : List ℕ → Bool
is_string name = bytes_eq name (codes "string")

-- a capability: its two names are built in, but no message carries one (E14)
unfoldable pub is_capability : List ℕ → Bool
is_capability name = bytes_eq name (codes "cap") || bytes_eq name (codes "give_away_cap")

-- the names that no declaration may take
unfoldable pub is_built_in : List ℕ → Bool
is_built_in name = is_some (scalar_named name) || (is_string name || is_capability name)

-- a declared type: its name, and the type it stands for
pub record Named : Type 0 where
  pub name : List ℕ
  pub type : TheType

-- what is declared before a place: types and messages, in order
pub record Before : Type 0 where
  pub types : List Named
  pub messages : List TheMessage

-- the type that declarations give a name
abbrev pub declared_as : List Named → List ℕ → Option TheType
declared_as [] name = None
declared_as (k ∷ ks) name = if bytes_eq k.name name then Some k.type else declared_as ks name

-- the fixed type of a name, built in or declared before
abbrev pub type_named : Before → List ℕ → Option TheType
type_named b name = if is_some (scalar_named name) then option_map scalar (scalar_named name) else declared_as b.types name

-- the type that a name stands for (where it stands for none a rule is broken, and any type will do)
abbrev pub stands_for : Before → TheName → TheType
stands_for b name = unwrap_or (type_named b name.text) (enumeration 0)

-- a type, or the fixed array of it that a count asks for
abbrev pub counted : Option TheNumber → TheType → TheType
counted None t = t
counted (Some count) t = array count.value t

-- a field has the type that it names, or where it has a count a fixed array of that
abbrev pub field_type : Before → TheField → TheType
field_type b f = counted f.count (stands_for b f.type_name)

-- a bound that is written, or else the one that holds without it
abbrev pub bound_or : ℕ → Option TheNumber → ℕ
bound_or usual None = usual
bound_or usual (Some bound) = bound.value

-- the type of an argument; without a bound a string has at most 2,047 bytes, a sized array 1,024 elements
abbrev pub argument_type : Before → TheArgument → TheArgType
argument_type b a = elim a.shape as (λ _. TheArgType) [
  | plain ↦ (if is_string a.type_name.text then text 2047 else fixed (stands_for b a.type_name))
  | bounded bound ↦ text bound.value
  | sized_shape len bound ↦ sized (bound_or 1024 bound) (stands_for b a.type_name)
]

-- the type that a declaration declares, with its name
abbrev pub types_of : Before → TheDeclaration → List Named
types_of b (alias_of new old) = record { name = new.text; type = stands_for b old } ∷ []
types_of b (typedef_of old new count) = record { name = new.text; type = counted count (stands_for b old) } ∷ []
types_of b (enum_of members name) = record { name = name.text; type = enumeration (length members) } ∷ []
types_of b (struct_of fields name) = record { name = name.text; type = structure (fields_from (map (field_type b) fields)) } ∷ []
types_of b (message_of kind name args) = []
types_of b (rpc_of name args) = []

-- what goes in, and what goes out
abbrev pub if_in : {A : Type 0} → Direction → A → List A
if_in In a = a ∷ []
if_in Out a = []

abbrev pub if_out : {A : Type 0} → Direction → A → List A
if_out In a = []
if_out Out a = a ∷ []

-- the arguments that go in, and those that go out
abbrev pub ins : List TheDirected → List TheArgument
ins [] = []
ins (d ∷ ds) = if_in d.direction d.argument ++ ins ds

abbrev pub outs : List TheDirected → List TheArgument
outs [] = []
outs (d ∷ ds) = if_out d.direction d.argument ++ outs ds

-- the names of an rpc's two messages: of `read` these are `read_call` and `read_response`
abbrev pub call_name : TheName → List ℕ
call_name name = name.text ++ codes "_call"

abbrev pub response_name : TheName → List ℕ
response_name name = name.text ++ codes "_response"

-- a message has its name and its arguments' types
abbrev pub message_from : Before → List ℕ → List TheArgument → TheMessage
message_from b name args = record { name = name; args = map (argument_type b) args }

-- the messages that a declaration declares: an rpc has two, a call with what goes in and a response
abbrev pub messages_of : Before → TheDeclaration → List TheMessage
messages_of b (alias_of new old) = []
messages_of b (typedef_of old new count) = []
messages_of b (enum_of members name) = []
messages_of b (struct_of fields name) = []
messages_of b (message_of kind name args) = message_from b name.text args ∷ []
messages_of b (rpc_of name args) =
    message_from b (call_name name) (ins args) ∷ (message_from b (response_name name) (outs args) ∷ [])

-- what is declared after one more declaration, and after several
abbrev pub after : Before → TheDeclaration → Before
after b d = record { types = b.types ++ types_of b d; messages = b.messages ++ messages_of b d }

abbrev pub after_all : Before → List TheDeclaration → Before
after_all b [] = b
after_all b (d ∷ ds) = after_all (after b d) ds

-- before the first declaration of a text; built-in types aren't declared
abbrev pub nothing_declared : Before
nothing_declared = record { types = []; messages = [] }
