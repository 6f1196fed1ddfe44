-- The tokens that a tree is printed as, and trees with the places of their words and numbers aside.
use Rattle.std.specs.Prelude.{◌≡◌, ℕ, List, [], ◌∷◌, ◌++◌, Option, Some, None, option_map, map, codes}
use Rattle.std.specs.List.{flat_map}
use Rattle.std.specs.Fmt.{decimal}
use Rattle.fl_lex.specs.declared.token.Mark.{Mark}
use Rattle.fl_lex.specs.declared.token.Mark.TheVariants.{OpenBrace, CloseBrace, OpenParen, CloseParen, OpenBracket, CloseBracket, Comma, Semicolon}
use Rattle.fl_lex.specs.declared.token.TokenKind.TheVariants as kinds
use Rattle.fl_lex.specs.Token.{TheToken}
use Rattle.fl_lex.specs.Joined.{sign_of, joined}
use Rattle.fl_parse.specs.Tree.{TheName, TheNumber, TheField, TheShape, plain, bounded, sized, TheArgument, TheDirected, TheDeclaration, alias_of}
use Rattle.fl_parse.specs.Tree.{typedef_of, enum_of, struct_of, message_of, rpc_of, TheTree}
use Rattle.fl_parse.specs.Grammar.{Derives}
use Rattle.fl_parse.specs.Printed.{kind_text, direction_text, printed}

-- A tree with every place 0.

abbrev pub name_aside : TheName → TheName
name_aside name = record { text = name.text; at = 0 }

abbrev pub number_aside : TheNumber → TheNumber
number_aside number = record { value = number.value; at = 0 }

abbrev pub field_aside : TheField → TheField
field_aside field = record { type_name = name_aside field.type_name; name = name_aside field.name; count = option_map number_aside field.count }

abbrev pub shape_aside : TheShape → TheShape
shape_aside plain = plain
shape_aside (bounded bound) = bounded (number_aside bound)
shape_aside (sized length bound) = sized (name_aside length) (option_map number_aside bound)

abbrev pub argument_aside : TheArgument → TheArgument
argument_aside argument = record { type_name = name_aside argument.type_name; name = name_aside argument.name; shape = shape_aside argument.shape }

abbrev pub directed_aside : TheDirected → TheDirected
directed_aside directed = record { direction = directed.direction; argument = argument_aside directed.argument }

abbrev pub declaration_aside : TheDeclaration → TheDeclaration
declaration_aside (alias_of new old) = alias_of (name_aside new) (name_aside old)
declaration_aside (typedef_of old new count) = typedef_of (name_aside old) (name_aside new) (option_map number_aside count)
declaration_aside (enum_of members name) = enum_of (map name_aside members) (name_aside name)
declaration_aside (struct_of fields name) = struct_of (map field_aside fields) (name_aside name)
declaration_aside (message_of kind name args) = message_of kind (name_aside name) (map argument_aside args)
declaration_aside (rpc_of name args) = rpc_of (name_aside name) (map directed_aside args)

-- the whole tree, with the places of its words and numbers 0; a description has no place
abbrev pub spans_aside : TheTree → TheTree
spans_aside tree =
    record { name = name_aside tree.name; description = tree.description; declarations = map declaration_aside tree.declarations }

-- The tokens of a tree, without the optional ends, each with place 0.

abbrev pub a_word : List ℕ → TheToken
a_word text = record { kind = kinds.Word; text = text; at = 0 }

abbrev pub a_name : TheName → TheToken
a_name name = a_word name.text

-- a number's token in its fewest digits, whatever zeros stood before them in the text
abbrev pub a_number : TheNumber → TheToken
a_number number = record { kind = kinds.Number number.value; text = decimal number.value; at = 0 }

abbrev pub mark_text : Mark → List ℕ
mark_text OpenBrace = codes "{"
mark_text CloseBrace = codes "}"
mark_text OpenParen = codes "("
mark_text CloseParen = codes ")"
mark_text OpenBracket = codes "["
mark_text CloseBracket = codes "]"
mark_text Comma = codes ","
mark_text Semicolon = codes ";"

abbrev pub a_mark : Mark → TheToken
a_mark mark = record { kind = kinds.Mark mark; text = mark_text mark; at = 0 }

-- a description's token; its bytes are those of the tree, both quotes among them
abbrev pub a_description : List ℕ → TheToken
a_description text = record { kind = kinds.Description; text = text; at = 0 }

-- the tokens of each, with a comma between two of them and none behind the last
abbrev pub comma_tokens : {A : Type 0} → (A → List TheToken) → List A → List TheToken
comma_tokens tokens [] = []
comma_tokens tokens (x ∷ xs) = tokens x ++ flat_map (λ y. a_mark Comma ∷ tokens y) xs

-- "[" NUMBER "]", or nothing
abbrev pub count_tokens : Option TheNumber → List TheToken
count_tokens None = []
count_tokens (Some count) = a_mark OpenBracket ∷ a_number count ∷ a_mark CloseBracket ∷ []

-- OLD NAME ["[" NUMBER "]"] ";"
abbrev pub field_tokens : TheField → List TheToken
field_tokens field = a_name field.type_name ∷ a_name field.name ∷ (count_tokens field.count ++ a_mark Semicolon ∷ [])

-- "," NUMBER, or nothing
abbrev pub bound_tokens : Option TheNumber → List TheToken
bound_tokens None = []
bound_tokens (Some bound) = a_mark Comma ∷ a_number bound ∷ []

-- nothing, "[" NUMBER "]" or "[" NAME ["," NUMBER] "]"
abbrev pub shape_tokens : TheShape → List TheToken
shape_tokens plain = []
shape_tokens (bounded bound) = a_mark OpenBracket ∷ a_number bound ∷ a_mark CloseBracket ∷ []
shape_tokens (sized length bound) = a_mark OpenBracket ∷ a_name length ∷ (bound_tokens bound ++ a_mark CloseBracket ∷ [])

-- OLD NAME, and what stands in brackets behind it
abbrev pub argument_tokens : TheArgument → List TheToken
argument_tokens argument = a_name argument.type_name ∷ a_name argument.name ∷ shape_tokens argument.shape

-- ("in" | "out") and an argument
abbrev pub directed_tokens : TheDirected → List TheToken
directed_tokens directed = a_word (direction_text directed.direction) ∷ argument_tokens directed.argument

abbrev pub name_tokens : TheName → List TheToken
name_tokens name = a_name name ∷ []

-- a declaration up to its semicolon; an enum has no comma behind its last name
abbrev pub declaration_tokens : TheDeclaration → List TheToken
declaration_tokens (alias_of new old) = a_word (codes "alias") ∷ a_name new ∷ a_name old ∷ a_mark Semicolon ∷ []
declaration_tokens (typedef_of old new count) =
    a_word (codes "typedef") ∷ a_name old ∷ a_name new ∷ (count_tokens count ++ a_mark Semicolon ∷ [])
declaration_tokens (enum_of members name) =
    a_word (codes "typedef") ∷ a_word (codes "enum") ∷ a_mark OpenBrace
    ∷ (comma_tokens name_tokens members ++ a_mark CloseBrace ∷ a_name name ∷ a_mark Semicolon ∷ [])
declaration_tokens (struct_of fields name) =
    a_word (codes "typedef") ∷ a_word (codes "struct") ∷ a_mark OpenBrace
    ∷ (flat_map field_tokens fields ++ a_mark CloseBrace ∷ a_name name ∷ a_mark Semicolon ∷ [])
declaration_tokens (message_of kind name args) =
    a_word (kind_text kind) ∷ a_name name ∷ a_mark OpenParen ∷ (comma_tokens argument_tokens args ++ a_mark CloseParen ∷ a_mark Semicolon ∷ [])
declaration_tokens (rpc_of name args) =
    a_word (codes "rpc") ∷ a_name name ∷ a_mark OpenParen ∷ (comma_tokens directed_tokens args ++ a_mark CloseParen ∷ a_mark Semicolon ∷ [])

-- the description's one token, or nothing
abbrev pub description_tokens : Option (List ℕ) → List TheToken
description_tokens None = []
description_tokens (Some text) = a_description text ∷ []

-- a whole interface up to its closing brace, without the semicolon that may stand behind it
abbrev pub tokens_of_tree : TheTree → List TheToken
tokens_of_tree tree =
    a_word (codes "interface") ∷ a_name tree.name
    ∷ (description_tokens tree.description ++ a_mark OpenBrace ∷ (flat_map declaration_tokens tree.declarations ++ a_mark CloseBrace ∷ []))

-- Where tokens are written for a tree, these are too, places aside.
abbrev pub PrintedDerives : Type 0
PrintedDerives = (tokens : List TheToken) (tree : TheTree) → Derives tokens tree → Derives (tokens_of_tree tree) (spans_aside tree)

-- The printed text is that of these tokens, joined.
abbrev pub PrintedIsText : Type 0
PrintedIsText = (tree : TheTree) → printed tree ≡ joined (map sign_of (tokens_of_tree tree))
