-- The tree of an interface's text as contracts see it.
use Rattle.std.specs.Prelude.{ℕ, List, map, Option, option_map}
use Rattle.fl_parse.specs.declared.tree.Name.{Name}
use Rattle.fl_parse.specs.declared.tree.Number.{Number}
use Rattle.fl_parse.specs.declared.tree.Tree.{Tree}
use Rattle.fl_parse.specs.declared.tree.Declaration.{Declaration}
use Rattle.fl_parse.specs.declared.tree.Declaration.TheVariants.{Alias, Typedef, Enumeration, Structure, Message, Rpc}
use Rattle.fl_parse.specs.declared.tree.MessageKind.{MessageKind}
use Rattle.fl_parse.specs.declared.tree.Direction.{Direction}
use Rattle.fl_parse.specs.declared.tree.Field.{Field}
use Rattle.fl_parse.specs.declared.tree.Argument.{Argument}
use Rattle.fl_parse.specs.declared.tree.Shape.{Shape}
use Rattle.fl_parse.specs.declared.tree.Shape.TheVariants.{Plain, Bounded, Sized}
use Rattle.fl_parse.specs.declared.tree.DirectedArgument.{DirectedArgument}

-- a word, and where it begins
pub record TheName : Type 0 where
  pub text : List ℕ
  pub at : ℕ

-- a number, and where it begins
pub record TheNumber : Type 0 where
  pub value : ℕ
  pub at : ℕ

-- a field of a struct: its type's name, its own, and its count where it is a fixed array
pub record TheField : Type 0 where
  pub type_name : TheName
  pub name : TheName
  pub count : Option TheNumber

-- what stands after an argument's name: nothing, a string's bound, or a length and perhaps a bound
pub data TheShape : Type 0 where
  plain : TheShape
  bounded : TheNumber → TheShape
  sized : TheName → Option TheNumber → TheShape

-- an argument: its type's name, its own, and what stands behind that
pub record TheArgument : Type 0 where
  pub type_name : TheName
  pub name : TheName
  pub shape : TheShape

-- an argument of an rpc, which its call carries (in) or its response (out)
pub record TheDirected : Type 0 where
  pub direction : Direction
  pub argument : TheArgument

-- alias NEW OLD; typedef OLD NEW COUNT; enum MEMBERS NAME; struct FIELDS NAME; a message; an rpc
pub data TheDeclaration : Type 0 where
  alias_of : TheName → TheName → TheDeclaration
  typedef_of : TheName → TheName → Option TheNumber → TheDeclaration
  enum_of : List TheName → TheName → TheDeclaration
  struct_of : List TheField → TheName → TheDeclaration
  message_of : MessageKind → TheName → List TheArgument → TheDeclaration
  rpc_of : TheName → List TheDirected → TheDeclaration

-- an interface as its text has it: its name, its description with both quotes, its declarations in order
pub record TheTree : Type 0 where
  pub name : TheName
  pub description : Option (List ℕ)
  pub declarations : List TheDeclaration

-- the parser's own tree as contracts see it, part by part: each word by its bytes, with its place
abbrev pub name_of : Name → TheName
name_of n = record { text = n.text.now; at = n.at }

abbrev pub number_of : Number → TheNumber
number_of n = record { value = n.value; at = n.at }

abbrev pub field_of : Field → TheField
field_of f = record { type_name = name_of f.type_name; name = name_of f.name; count = option_map number_of f.count }

abbrev pub shape_of : Shape → TheShape
shape_of Plain = plain
shape_of (Bounded n) = bounded (number_of n)
shape_of (Sized length bound) = sized (name_of length) (option_map number_of bound)

abbrev pub argument_of : Argument → TheArgument
argument_of a = record { type_name = name_of a.type_name; name = name_of a.name; shape = shape_of a.shape }

abbrev pub directed_of : DirectedArgument → TheDirected
directed_of d = record { direction = d.direction; argument = argument_of d.argument }

abbrev pub declaration_of : Declaration → TheDeclaration
declaration_of (Alias new old) = alias_of (name_of new) (name_of old)
declaration_of (Typedef old new count) = typedef_of (name_of old) (name_of new) (option_map number_of count)
declaration_of (Enumeration members name) = enum_of (map name_of members.items) (name_of name)
declaration_of (Structure fields name) = struct_of (map field_of fields.items) (name_of name)
declaration_of (Message kind name args) = message_of kind (name_of name) (map argument_of args.items)
declaration_of (Rpc name args) = rpc_of (name_of name) (map directed_of args.items)

-- the whole tree that the parser answers
abbrev pub tree_of : Tree → TheTree
tree_of t = record {
  name = name_of t.name;
  description = option_map (λ d. d.now) t.description;
  declarations = map declaration_of t.declarations.items;
}
