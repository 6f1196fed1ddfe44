-- The text of a tree: its tokens without the optional ends, one blank between two words and no other.
use Rattle.std.specs.Prelude.{ℕ, List, [], ◌∷◌, ◌++◌, Option, Some, None, codes}
use Rattle.std.specs.List.{flat_map}
use Rattle.std.specs.Fmt.{decimal}
use Rattle.fl_parse.specs.declared.tree.MessageKind.{MessageKind}
use Rattle.fl_parse.specs.declared.tree.MessageKind.TheVariants as messages
use Rattle.fl_parse.specs.declared.tree.Direction.{Direction}
use Rattle.fl_parse.specs.declared.tree.Direction.TheVariants as directions
use Rattle.fl_parse.specs.Tree.{TheName, TheNumber, TheField, TheShape, plain, bounded, sized, TheArgument, TheDirected, TheDeclaration, alias_of}
use Rattle.fl_parse.specs.Tree.{typedef_of, enum_of, struct_of, message_of, rpc_of, TheTree}

-- texts with commas between them
abbrev pub with_commas : {A : Type 0} → (A → List ℕ) → List A → List ℕ
with_commas text [] = []
with_commas text (x ∷ xs) = text x ++ flat_map (λ y. codes "," ++ text y) xs

abbrev pub name_text : TheName → List ℕ
name_text name = name.text

-- a number in its fewest decimal digits, whatever zeros stood before them in the text
abbrev pub number_text : TheNumber → List ℕ
number_text number = decimal number.value

-- the count of a field or of a typedef, as `[16]`; nothing where it has none
abbrev pub count_text : Option TheNumber → List ℕ
count_text None = []
count_text (Some count) = codes "[" ++ number_text count ++ codes "]"

-- a field of a struct, as `uint8 id[16];`
abbrev pub field_text : TheField → List ℕ
field_text field = name_text field.type_name ++ codes " " ++ name_text field.name ++ count_text field.count ++ codes ";"

-- the bound of a sized array with the comma before it, as `,4096`; nothing where it has none
abbrev pub bound_text : Option TheNumber → List ℕ
bound_text None = []
bound_text (Some bound) = codes "," ++ number_text bound

-- what stands behind an argument's name: nothing, or as `[32]`, `[n]` and `[n,4096]`
abbrev pub shape_text : TheShape → List ℕ
shape_text plain = []
shape_text (bounded bound) = codes "[" ++ number_text bound ++ codes "]"
shape_text (sized length bound) = codes "[" ++ name_text length ++ bound_text bound ++ codes "]"

-- an argument of a message, as `uint8 data[n,4096]`
abbrev pub argument_text : TheArgument → List ℕ
argument_text argument = name_text argument.type_name ++ codes " " ++ name_text argument.name ++ shape_text argument.shape

abbrev pub direction_text : Direction → List ℕ
direction_text directions.In = codes "in"
direction_text directions.Out = codes "out"

-- an argument of an rpc, as `in uint32 count`
abbrev pub directed_text : TheDirected → List ℕ
directed_text directed = direction_text directed.direction ++ codes " " ++ argument_text directed.argument

-- the word that a message is declared with; the three mean the same, and the one of the text is kept
abbrev pub kind_text : MessageKind → List ℕ
kind_text messages.Message = codes "message"
kind_text messages.Call = codes "call"
kind_text messages.Response = codes "response"

-- a declaration up to its semicolon; an enum, as `typedef enum{a,b}t;`, has no comma behind its last name
abbrev pub declaration_text : TheDeclaration → List ℕ
declaration_text (alias_of new old) = codes "alias " ++ name_text new ++ codes " " ++ name_text old ++ codes ";"
declaration_text (typedef_of old new count) = codes "typedef " ++ name_text old ++ codes " " ++ name_text new ++ count_text count ++ codes ";"
declaration_text (enum_of members name) = codes "typedef " ++ codes "enum{" ++ with_commas name_text members ++ codes "}" ++ name_text name ++ codes ";"
declaration_text (struct_of fields name) = codes "typedef " ++ codes "struct{" ++ flat_map field_text fields ++ codes "}" ++ name_text name ++ codes ";"
declaration_text (message_of kind name args) = kind_text kind ++ codes " " ++ name_text name ++ codes "(" ++ with_commas argument_text args ++ codes ");"
declaration_text (rpc_of name args) = codes "rpc " ++ name_text name ++ codes "(" ++ with_commas directed_text args ++ codes ");"

-- a description with its quotes, and no blank on either side; nothing where the interface has none
abbrev pub description_text : Option (List ℕ) → List ℕ
description_text None = []
description_text (Some text) = text

-- the text of a tree
abbrev pub printed : TheTree → List ℕ
printed tree =
    codes "interface " ++ name_text tree.name ++ description_text tree.description ++ codes "{" ++ flat_map declaration_text tree.declarations ++ codes "}"
