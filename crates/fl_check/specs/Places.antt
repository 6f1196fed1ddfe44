-- The places of a tree in the order in which they are looked at, and the rules broken at each.
use Rattle.std.specs.Prelude.{ℕ, ◌+◌, Bool, true, false, ◌||◌, not, List, [], ◌∷◌, ◌++◌, map, length, take, Option, Some, None, is_some, nat_lt, nat_le, nat_eq}
use Rattle.fl_interface.specs.Types.{TheType, enumeration, structure, fields_from, TheMessage}
use Rattle.fl_interface.specs.Depth.{is_too_big}
use Rattle.fl_check.specs.Known.{is_string, is_capability, is_built_in, Named, Before, nothing_declared, type_named, stands_for, counted, field_type}
use Rattle.fl_interface.specs.Limits.{is_among, is_too_long}
use Rattle.fl_check.specs.Known.{messages_of, after, call_name, response_name}
use Rattle.fl_parse.specs.Tree.{TheName, TheNumber, TheField, TheShape, plain, bounded, sized, TheArgument, TheDirected, TheDeclaration, alias_of}
use Rattle.fl_parse.specs.Tree.{typedef_of, enum_of, struct_of, message_of, rpc_of}

-- a place of the text, and the numbers of the rules that are broken there
pub record TextPlace : Type 0 where
  pub at : ℕ
  pub broken : List ℕ

-- the number of a rule where it is broken
abbrev pub rule : ℕ → Bool → List ℕ
rule number true = number ∷ []
rule number false = []

-- the names that declared types have taken; the built-in ones aren't among them
abbrev pub type_names : Before → List (List ℕ)
type_names b = map (λ (k : Named). k.name) b.types

-- the names that messages have taken, both names of each rpc among them
abbrev pub message_names : Before → List (List ℕ)
message_names b = map (λ (m : TheMessage). m.name) b.messages

-- a name that stands for no type: not built in, and not declared before
abbrev pub is_unknown : Before → List ℕ → Bool
is_unknown b name = not (is_some (type_named b name) || (is_string name || is_capability name))

-- a type where a fixed one must be: unknown E11, a capability E14, a string E18
unfoldable pub fixed_type_place : Before → TheName → TextPlace
fixed_type_place b name = record {
  at = name.at;
  broken = rule 11 (is_unknown b name.text) ++ (rule 14 (is_capability name.text) ++ rule 18 (is_string name.text));
}

-- a type where a fixed one or a string may be: unknown E11, a capability E14
unfoldable pub plain_type_place : Before → TheName → TextPlace
plain_type_place b name = record {
  at = name.at;
  broken = rule 11 (is_unknown b name.text) ++ rule 14 (is_capability name.text);
}

-- a type that has a bound in brackets, which a string alone may have: another E11, a capability E14
unfoldable pub string_place : TheName → TextPlace
string_place name = record {
  at = name.at;
  broken = rule 11 (not (is_string name.text || is_capability name.text)) ++ rule 14 (is_capability name.text);
}

-- a new type's name: taken E10, of an empty enum or struct E15, the 257th E19
unfoldable pub new_type_place : Before → TheName → Bool → TextPlace
new_type_place b name empty = record {
  at = name.at;
  broken = rule 10 (is_built_in name.text || is_among (type_names b) name.text)
      ++ (rule 15 empty ++ rule 19 (nat_le 256 (length b.types)));
}

-- the whole of a new type, told of at its name: too big E17
unfoldable pub whole_type_place : TheName → TheType → TextPlace
whole_type_place name type = record { at = name.at; broken = rule 17 (is_too_big type) }

-- a count: not 1 to 1,024 E16
unfoldable pub count_place : TheNumber → TextPlace
count_place count = record { at = count.at; broken = rule 16 (nat_lt count.value 1 || nat_lt 1024 count.value) }

-- the place of a count where one is written, else no place
abbrev pub count_places : Option TheNumber → List TextPlace
count_places None = []
count_places (Some count) = count_place count ∷ []

-- a bound: not 1 to 4,096 E20
unfoldable pub bound_place : TheNumber → TextPlace
bound_place bound = record { at = bound.at; broken = rule 20 (nat_lt bound.value 1 || nat_lt 4096 bound.value) }

-- the place of a bound where one is written, else no place
abbrev pub bound_places : Option TheNumber → List TextPlace
bound_places None = []
bound_places (Some bound) = bound_place bound ∷ []

-- a name of a list after these others: one of them again E13, the 33rd of those that count E19
unfoldable pub listed_place : List (List ℕ) → ℕ → TheName → TextPlace
listed_place others counted_before name = record {
  at = name.at;
  broken = rule 13 (is_among others name.text) ++ rule 19 (nat_le 32 counted_before);
}

-- a name that isn't counted, after these others: one of them again E13
unfoldable pub other_place : List (List ℕ) → TheName → TextPlace
other_place others name = record { at = name.at; broken = rule 13 (is_among others name.text) }

-- the enumerators after these others; they have no limit
abbrev pub member_places : List (List ℕ) → List TheName → List TextPlace
member_places others [] = []
member_places others (m ∷ ms) = other_place others m ∷ member_places (others ++ m.text ∷ []) ms

-- a field after these others: type, name, count
abbrev pub field_place : Before → List (List ℕ) → TheField → List TextPlace
field_place b others f =
    fixed_type_place b f.type_name ∷ (listed_place others (length others) f.name ∷ count_places f.count)

-- the fields of a struct from left to right, each after the names of those before it
abbrev pub field_places : Before → List (List ℕ) → List TheField → List TextPlace
field_places b others [] = []
field_places b others (f ∷ fs) = field_place b others f ++ field_places b (others ++ f.name.text ∷ []) fs

-- the type of an argument; what stands behind the argument's name says which types may stand here
abbrev pub argument_type_place : Before → TheArgument → TextPlace
argument_type_place b a = elim a.shape as (λ _. TextPlace) [
  | plain ↦ plain_type_place b a.type_name
  | bounded bound ↦ string_place a.type_name
  | sized len bound ↦ fixed_type_place b a.type_name
]

-- what stands in brackets, after these names: a string's bound, or a length's name and perhaps a bound
abbrev pub shape_places : List (List ℕ) → TheShape → List TextPlace
shape_places others plain = []
shape_places others (bounded bound) = bound_place bound ∷ []
shape_places others (sized len bound) = other_place others len ∷ bound_places bound

-- the name that an argument takes for its length, if it has one
abbrev pub shape_names : TheShape → List (List ℕ)
shape_names plain = []
shape_names (bounded bound) = []
shape_names (sized len bound) = len.text ∷ []

-- an argument's own name, then its length's; each may stand once in the list of a message or rpc (E13)
abbrev pub argument_names : TheArgument → List (List ℕ)
argument_names a = a.name.text ∷ shape_names a.shape

-- an argument of a fixed type or a string, after these names, so many of them arguments': type, name
abbrev pub plain_argument_places : Before → List (List ℕ) → ℕ → TheName → TheName → List TextPlace
plain_argument_places b others arguments_before kind name =
    plain_type_place b kind ∷ (listed_place others arguments_before name ∷ [])

-- a sized array: type, name, the length's name, bound
abbrev pub sized_argument_places : Before → List (List ℕ) → ℕ → TheArgument → TheName → Option TheNumber → List TextPlace
sized_argument_places b others arguments_before a len bound =
    fixed_type_place b a.type_name ∷ (listed_place others arguments_before a.name
    ∷ (other_place (others ++ a.name.text ∷ []) len ∷ bound_places bound))

-- a string with a bound: type, name, bound
abbrev pub string_argument_places : List (List ℕ) → ℕ → TheArgument → TheNumber → List TextPlace
string_argument_places others arguments_before a bound =
    string_place a.type_name ∷ (listed_place others arguments_before a.name ∷ (bound_place bound ∷ []))

-- an argument after these names, so many of them arguments': type, name, what stands in brackets
abbrev pub argument_place : Before → List (List ℕ) → ℕ → TheArgument → List TextPlace
argument_place b others arguments_before a =
    argument_type_place b a ∷ (listed_place others arguments_before a.name ∷ shape_places (others ++ a.name.text ∷ []) a.shape)

-- arguments from left to right, each after the names of those before it and their number
abbrev pub argument_places : Before → List (List ℕ) → ℕ → List TheArgument → List TextPlace
argument_places b others arguments_before [] = []
argument_places b others arguments_before (a ∷ args) =
    argument_place b others arguments_before a ++ argument_places b (others ++ argument_names a) (arguments_before + 1) args

-- one of a declaration's messages, of which an rpc has two, has a payload that may pass 32,768 bytes
abbrev pub some_too_long : List TheMessage → Bool
some_too_long [] = false
some_too_long (m ∷ ms) = is_too_long m || some_too_long ms

-- the messages of a declaration, told of at its name: a payload too long E21
unfoldable pub whole_message_place : TheName → Bool → TextPlace
whole_message_place name too_long = record { at = name.at; broken = rule 21 too_long }

-- a message's name: taken E12, the 257th E19
unfoldable pub message_name_place : Before → TheName → TextPlace
message_name_place b name = record {
  at = name.at;
  broken = rule 12 (is_among (message_names b) name.text) ++ rule 19 (nat_le 256 (length b.messages));
}

-- an rpc's name: one of its two names taken E12; one of them the 257th, or a name over 55 bytes, E19
unfoldable pub rpc_name_place : Before → TheName → TextPlace
rpc_name_place b name = record {
  at = name.at;
  broken = rule 12 (is_among (message_names b) (call_name name) || is_among (message_names b) (response_name name))
      ++ rule 19 (nat_le 255 (length b.messages) || nat_lt 55 (length name.text));
}

-- an rpc's arguments without their directions: for its rules, in and out are one list
abbrev pub arguments_of : List TheDirected → List TheArgument
arguments_of ds = map (λ (d : TheDirected). d.argument) ds

-- a declaration's parts from left to right, then its whole
abbrev pub declaration_places : Before → TheDeclaration → List TextPlace
declaration_places b (alias_of new old) =
    new_type_place b new false ∷ (fixed_type_place b old ∷ (whole_type_place new (stands_for b old) ∷ []))
declaration_places b (typedef_of old new count) =
    fixed_type_place b old ∷ (new_type_place b new false ∷ (count_places count
    ++ whole_type_place new (counted count (stands_for b old)) ∷ []))
declaration_places b (enum_of members name) =
    member_places [] members
    ++ (new_type_place b name (nat_eq (length members) 0) ∷ (whole_type_place name (enumeration (length members)) ∷ []))
declaration_places b (struct_of fields name) =
    field_places b [] fields
    ++ (new_type_place b name (nat_eq (length fields) 0)
    ∷ (whole_type_place name (structure (fields_from (map (field_type b) fields))) ∷ []))
declaration_places b (message_of kind name args) =
    message_name_place b name ∷ (argument_places b [] 0 args
    ++ whole_message_place name (some_too_long (messages_of b (message_of kind name args))) ∷ [])
declaration_places b (rpc_of name args) =
    rpc_name_place b name ∷ (argument_places b [] 0 (arguments_of args)
    ++ whole_message_place name (some_too_long (messages_of b (rpc_of name args))) ∷ [])

-- the places of declarations, in order, each after those before it
abbrev pub places_from : Before → List TheDeclaration → List TextPlace
places_from b [] = []
places_from b (d ∷ ds) = declaration_places b d ++ places_from (after b d) ds

-- the place at which a declaration is looked at before memory is taken: its first, but none of an rpc, whose two names are made
-- before they are looked at
abbrev pub first_look : Before → TheDeclaration → List TextPlace
first_look b (rpc_of name args) = []
first_look b d = take 1 (declaration_places b d)

-- that of declarations: the first one's
abbrev pub first_looks : List TheDeclaration → List TextPlace
first_looks [] = []
first_looks (d ∷ ds) = first_look nothing_declared d
