-- A working file: reading from left to right, by the code's own steps. What is read is the value of the first tokens with the
-- tokens behind them, or the tokens from the first that cannot stand where it does.
use Rattle.std.specs.Prelude.{◌≡◌, ℕ, zero, suc, Bool, false, List, [], ◌∷◌, length, Option, Some, None, Result, Ok, Err, codes, map, is_some, if◌then◌else◌}
use Rattle.fl_lex.specs.declared.token.Mark.{Mark}
use Rattle.fl_lex.specs.declared.token.Mark.TheVariants.{OpenBrace, CloseBrace, OpenParen, CloseParen, OpenBracket, CloseBracket, Comma, Semicolon}
use Rattle.fl_lex.specs.Token.{TheToken, token_of}
use Rattle.fl_parse.specs.declared.tree.MessageKind.{MessageKind}
use Rattle.fl_parse.specs.declared.stop.ParseStop.{ParseStop}
use Rattle.fl_parse.specs.declared.stop.ParseStop.TheVariants as stops
use Rattle.fl_parse.specs.Tree.{TheName, TheNumber, TheField, TheShape, plain, bounded, sized, TheArgument, TheDirected, TheDeclaration, alias_of}
use Rattle.fl_parse.specs.Tree.{typedef_of, enum_of, struct_of, message_of, rpc_of, TheTree}
use Rattle.fl_parse.specs.Grammar.{is_word, is_mark, if_so, name_in, number_in, description_in, Opening, opening_in, alias_word, typedef_word}
use Rattle.fl_parse.specs.Grammar.{message_word, rpc_word, Defined, defined_in, enum_word, struct_word, type_word, direction_in, Inside, inside_in}
use Rattle.fl_parse.specs.Grammar.{bound_word, length_word}

-- what reading some tokens gives
abbrev pub Read : Type 0 → Type 0
Read A = Result (A × List TheToken) (List TheToken)

infixl 10 ◌>>=◌
-- reads on behind what was read; where a token can't stand, nothing behind it is read
abbrev pub ◌>>=◌ : {A B : Type 0} → Read A → (A × List TheToken → Read B) → Read B
(Ok p) >>= f = f p
(Err rest) >>= f = Err rest

-- a stop stands at the token at which reading stops; of one for memory nothing is said
abbrev pub Fails : {Y : Type 0} → ParseStop → Read Y → Type 0
Fails stops.Memory read = Unit {0}
Fails (stops.Unexpected rest) read = read ≡ Err (map token_of rest.now)

-- a token stands where it cannot, or the text ends early
abbrev pub IsUnexpected : ParseStop → Type 0
IsUnexpected stops.Memory = ⊥
IsUnexpected (stops.Unexpected rest) = Unit {0}

-- What a function returned, seen by view, is what reading gives, unless memory ran out.
abbrev pub Gives : {X Y : Type 0} → (X → Y × List TheToken) → Result X ParseStop → Read Y → Type 0
Gives view (Ok x) read = read ≡ Ok (view x)
Gives view (Err e) read = Fails e read

-- whether the first token passes
abbrev pub begins : (TheToken → Bool) → List TheToken → Bool
begins test [] = false
begins test (token ∷ rest) = test token

-- One token
abbrev pub one_of : {A : Type 0} → Option A → TheToken → List TheToken → Read A
one_of None token rest = Err (token ∷ rest)
one_of (Some x) token rest = Ok (x, rest)

-- the first token, by what it is read as; reading stops where that is nothing, and where the text ends
abbrev pub one_at : {A : Type 0} → (TheToken → Option A) → List TheToken → Read A
one_at read [] = Err []
one_at read (token ∷ rest) = one_of (read token) token rest

-- the first token, which has to be this mark
abbrev pub mark_at : Mark → List TheToken → Read (Unit {0})
mark_at mark = one_at (λ token. if_so (is_mark token mark) tt)

-- the first token, which has to be this word
abbrev pub word_at : List ℕ → List TheToken → Read (Unit {0})
word_at word = one_at (λ token. if_so (is_word token word) tt)

-- A phrase where the first token passes, else nothing
abbrev pub optional_at : {A : Type 0} → (TheToken → Bool) → (List TheToken → Read A) → List TheToken → Read (Option A)
optional_at opens phrase tokens =
    if begins opens tokens then (phrase tokens >>= λ p. Ok (Some p.0, p.1)) else Ok (None, tokens)

-- A phrase again and again up to a token that passes; fuel is at least the number of tokens
abbrev pub many_at : {A : Type 0} → (TheToken → Bool) → (List TheToken → Read A) → ℕ → List TheToken → Read (List A)
many_at ends phrase zero tokens = Err tokens
many_at ends phrase (suc fuel) tokens =
    if begins ends tokens then Ok ([], tokens)
    else (phrase tokens >>= λ p. many_at ends phrase fuel p.1 >>= λ q. Ok (p.0 ∷ q.0, q.1))

-- a comma, and a phrase behind it
abbrev pub behind_comma : {A : Type 0} → (List TheToken → Read A) → List TheToken → Read A
behind_comma phrase tokens = mark_at Comma tokens >>= λ comma. phrase comma.1

-- A phrase, and again behind each comma up to a token that passes; nothing where such a token stands first
abbrev pub separated_at : {A : Type 0} → (TheToken → Bool) → (List TheToken → Read A) → List TheToken → Read (List A)
separated_at ends phrase tokens =
    if begins ends tokens then Ok ([], tokens)
    else (phrase tokens >>= λ p. many_at ends (behind_comma phrase) (length p.1) p.1 >>= λ q. Ok (p.0 ∷ q.0, q.1))

-- The names of an enum up to the closing brace
abbrev pub members_at : ℕ → List TheToken → Read (List TheName)
members_at zero tokens = Err tokens
members_at (suc fuel) tokens =
    if begins (λ token. is_mark token CloseBrace) tokens then Ok ([], tokens)
    else (one_at name_in tokens >>= λ p.
    (if begins (λ token. is_mark token Comma) p.1 then (mark_at Comma p.1 >>= λ comma. members_at fuel comma.1) else Ok ([], p.1))
    >>= λ q. Ok (p.0 ∷ q.0, q.1))

-- "[" NUMBER "]"
unfoldable pub count_at : List TheToken → Read TheNumber
count_at tokens = do
  opened ← mark_at OpenBracket tokens
  count ← one_at number_in opened.1
  close ← mark_at CloseBracket count.1
  Ok (count.0, close.1)

-- OLD NAME ["[" NUMBER "]"] ";", the count where a bracket opens
unfoldable pub field_at : List TheToken → Read TheField
field_at tokens = do
  type_name ← one_at name_in tokens
  name ← one_at name_in type_name.1
  count ← optional_at (λ token. is_mark token OpenBracket) count_at name.1
  end ← mark_at Semicolon count.1
  Ok (record { type_name = type_name.0; name = name.0; count = count.0 }, end.1)

-- "," NUMBER
unfoldable pub bound_at : List TheToken → Read TheNumber
bound_at tokens = do
  comma ← mark_at Comma tokens
  one_at number_in comma.1

-- "]" behind a string's bound, ["," NUMBER] "]" behind the name of a length
unfoldable pub in_brackets_at : Inside → List TheToken → Read TheShape
in_brackets_at (bound_word bound) tokens = do
  close ← mark_at CloseBracket tokens
  Ok (bounded bound, close.1)
in_brackets_at (length_word length) tokens = do
  bound ← optional_at (λ token. is_mark token Comma) bound_at tokens
  close ← mark_at CloseBracket bound.1
  Ok (sized length bound.0, close.1)

-- "[" NUMBER "]" where the type is `string`, or "[" NAME ["," NUMBER] "]"
unfoldable pub bracket_at : TheName → List TheToken → Read TheShape
bracket_at type_name tokens = do
  opened ← mark_at OpenBracket tokens
  inside ← one_at (inside_in type_name) opened.1
  in_brackets_at inside.0 inside.1

-- what stands behind an argument's name; where no bracket opens that is nothing
unfoldable pub shape_at : TheName → List TheToken → Read TheShape
shape_at type_name tokens =
    if begins (λ token. is_mark token OpenBracket) tokens then bracket_at type_name tokens else Ok (plain, tokens)

-- OLD NAME, and what stands in brackets where one opens behind them
unfoldable pub argument_at : List TheToken → Read TheArgument
argument_at tokens = do
  type_name ← one_at name_in tokens
  name ← one_at name_in type_name.1
  shape ← shape_at type_name.0 name.1
  Ok (record { type_name = type_name.0; name = name.0; shape = shape.0 }, shape.1)

-- ("in" | "out") and an argument
unfoldable pub directed_at : List TheToken → Read TheDirected
directed_at tokens = do
  direction ← one_at direction_in tokens
  argument ← argument_at direction.1
  Ok (record { direction = direction.0; argument = argument.0 }, argument.1)

-- the fields of a struct up to the closing brace, which isn't taken
unfoldable pub fields_at : List TheToken → Read (List TheField)
fields_at tokens = many_at (λ token. is_mark token CloseBrace) field_at (length tokens) tokens

-- the names of an enum up to the closing brace, or to the first name without a comma behind it
unfoldable pub all_members_at : List TheToken → Read (List TheName)
all_members_at tokens = members_at (length tokens) tokens

-- a message's arguments up to the closing parenthesis, which isn't taken
unfoldable pub arguments_at : List TheToken → Read (List TheArgument)
arguments_at tokens = separated_at (λ token. is_mark token CloseParen) argument_at tokens

-- an rpc's arguments, each with its direction, up to the closing parenthesis, which isn't taken
unfoldable pub all_directed_at : List TheToken → Read (List TheDirected)
all_directed_at tokens = separated_at (λ token. is_mark token CloseParen) directed_at tokens

-- behind "typedef" "enum": "{" [NAME ("," NAME)* [","]] "}" NEW ";"
unfoldable pub enumeration_at : List TheToken → Read TheDeclaration
enumeration_at tokens = do
  opened ← mark_at OpenBrace tokens
  members ← all_members_at opened.1
  close ← mark_at CloseBrace members.1
  name ← one_at name_in close.1
  end ← mark_at Semicolon name.1
  Ok (enum_of members.0 name.0, end.1)

-- behind "typedef" "struct": "{" (OLD NAME ["[" NUMBER "]"] ";")* "}" NEW ";"
unfoldable pub structure_at : List TheToken → Read TheDeclaration
structure_at tokens = do
  opened ← mark_at OpenBrace tokens
  fields ← fields_at opened.1
  close ← mark_at CloseBrace fields.1
  name ← one_at name_in close.1
  end ← mark_at Semicolon name.1
  Ok (struct_of fields.0 name.0, end.1)

-- behind "typedef" OLD: NEW ["[" NUMBER "]"] ";"
unfoldable pub renaming_at : TheName → List TheToken → Read TheDeclaration
renaming_at old tokens = do
  new ← one_at name_in tokens
  count ← optional_at (λ token. is_mark token OpenBracket) count_at new.1
  end ← mark_at Semicolon count.1
  Ok (typedef_of old new.0 count.0, end.1)

-- what stands behind "typedef" and the word after it, by that word
unfoldable pub definition_at : Defined → List TheToken → Read TheDeclaration
definition_at enum_word tokens = enumeration_at tokens
definition_at struct_word tokens = structure_at tokens
definition_at (type_word old) tokens = renaming_at old tokens

-- behind "alias": NEW OLD ";"
unfoldable pub alias_at : List TheToken → Read TheDeclaration
alias_at tokens = do
  new ← one_at name_in tokens
  old ← one_at name_in new.1
  end ← mark_at Semicolon old.1
  Ok (alias_of new.0 old.0, end.1)

-- behind "typedef": the word that says what is defined, and what that asks for
unfoldable pub typedef_at : List TheToken → Read TheDeclaration
typedef_at tokens = do
  defined ← one_at defined_in tokens
  definition_at defined.0 defined.1

-- behind "message", "call" or "response": NAME "(" [arg ("," arg)*] ")" ";"
unfoldable pub message_at : MessageKind → List TheToken → Read TheDeclaration
message_at kind tokens = do
  name ← one_at name_in tokens
  opened ← mark_at OpenParen name.1
  args ← arguments_at opened.1
  close ← mark_at CloseParen args.1
  end ← mark_at Semicolon close.1
  Ok (message_of kind name.0 args.0, end.1)

-- behind "rpc": NAME "(" [dir arg ("," dir arg)*] ")" ";"
unfoldable pub rpc_at : List TheToken → Read TheDeclaration
rpc_at tokens = do
  name ← one_at name_in tokens
  opened ← mark_at OpenParen name.1
  args ← all_directed_at opened.1
  close ← mark_at CloseParen args.1
  end ← mark_at Semicolon close.1
  Ok (rpc_of name.0 args.0, end.1)

-- what stands behind the word that begins a declaration, by that word
unfoldable pub production_at : Opening → List TheToken → Read TheDeclaration
production_at alias_word tokens = alias_at tokens
production_at typedef_word tokens = typedef_at tokens
production_at (message_word kind) tokens = message_at kind tokens
production_at rpc_word tokens = rpc_at tokens

-- one declaration, from the word that begins it to its semicolon
unfoldable pub declaration_at : List TheToken → Read TheDeclaration
declaration_at tokens = do
  opening ← one_at opening_in tokens
  production_at opening.0 opening.1

-- the declarations up to the interface's closing brace, which isn't taken
unfoldable pub declarations_at : List TheToken → Read (List TheDeclaration)
declarations_at tokens = many_at (λ token. is_mark token CloseBrace) declaration_at (length tokens) tokens

-- the description behind the interface's name; where another token stands, there is none, and no fault
unfoldable pub description_at : List TheToken → Read (Option (List ℕ))
description_at tokens = optional_at (λ token. is_some (description_in token)) (one_at description_in) tokens

-- "interface" NAME [DESCRIPTION] "{" decl* "}"; whatever stands behind the brace isn't taken
unfoldable pub body_at : List TheToken → Read TheTree
body_at tokens = do
  begin ← word_at (codes "interface") tokens
  name ← one_at name_in begin.1
  description ← description_at name.1
  opened ← mark_at OpenBrace description.1
  declarations ← declarations_at opened.1
  close ← mark_at CloseBrace declarations.1
  Ok (record { name = name.0; description = description.0; declarations = declarations.0 }, close.1)

-- what is left behind a semicolon that may be missing
abbrev pub behind_semicolon : List TheToken → List TheToken
behind_semicolon [] = []
behind_semicolon (token ∷ rest) = if is_mark token Semicolon then rest else token ∷ rest

-- where the first token stands, or the end
abbrev pub place_of : List TheToken → ℕ → ℕ
place_of [] end = end
place_of (token ∷ rest) end = token.at
