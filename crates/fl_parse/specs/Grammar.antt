-- The grammar of an interface's text: which lists of tokens are written for which tree.
use Rattle.std.specs.Prelude.{◌≡◌, ℕ, Bool, true, false, List, [], ◌∷◌, ◌++◌, Option, Some, None, option_map, codes, if◌then◌else◌, ◌⊎◌}
use Rattle.std.specs.Str.{bytes_eq}
use Rattle.fl_lex.specs.declared.token.Mark.{Mark}
use Rattle.fl_lex.specs.declared.token.Mark.TheVariants.{OpenBrace, CloseBrace, OpenParen, CloseParen, OpenBracket, CloseBracket, Comma, Semicolon}
use Rattle.fl_lex.specs.declared.token.TokenKind.{TokenKind}
use Rattle.fl_lex.specs.declared.token.TokenKind.TheVariants as kinds
use Rattle.fl_lex.specs.Token.{TheToken, TheTokens}
use Rattle.fl_parse.specs.declared.tree.MessageKind.{MessageKind}
use Rattle.fl_parse.specs.declared.tree.MessageKind.TheVariants as messages
use Rattle.fl_parse.specs.declared.tree.Direction.{Direction}
use Rattle.fl_parse.specs.declared.tree.Direction.TheVariants as directions
use Rattle.fl_parse.specs.Tree.{TheName, TheNumber, TheField, TheShape, plain, bounded, sized, TheArgument, TheDirected, TheDeclaration, alias_of}
use Rattle.fl_parse.specs.Tree.{typedef_of, enum_of, struct_of, message_of, rpc_of, TheTree}

-- one token, that is read as the value
pub record One {A : Type 0} (read : TheToken → Option A) (tokens : List TheToken) (x : A) : Type 0 where
  pub token : TheToken
  pub tokens_are : tokens ≡ token ∷ []
  pub reads : read token ≡ Some x

-- no token, and this value
pub record Means {A : Type 0} (value : A) (tokens : List TheToken) (x : A) : Type 0 where
  pub tokens_are : tokens ≡ []
  pub value_is : x ≡ value

-- a phrase, and then the one that its value asks for
pub record Then {A B : Type 0} (first : List TheToken → A → Type 0) (next : A → List TheToken → B → Type 0) (tokens : List TheToken) (y : B) : Type 0 where
  pub prefix : List TheToken
  pub back : List TheToken
  pub middle : A
  pub tokens_are : tokens ≡ prefix ++ back
  pub prefix_is : first prefix middle
  pub back_is : next middle back y

infixl 10 ◌>>=◌
-- a production's line `x ← phrase`: that phrase stands first, and the lines below may ask for its value
abbrev pub ◌>>=◌ : {A B : Type 0} → (List TheToken → A → Type 0) → (A → List TheToken → B → Type 0) → List TheToken → B → Type 0
first >>= next = Then first next

infixl 10 ◌>>◌
-- a production's line without an arrow: that phrase stands first, and nothing asks for its value
abbrev pub ◌>>◌ : {A B : Type 0} → (List TheToken → A → Type 0) → (List TheToken → B → Type 0) → List TheToken → B → Type 0
first >> next = Then first (λ _. next)

-- a phrase that may be missing
abbrev pub Optional : {A : Type 0} → (List TheToken → A → Type 0) → List TheToken → Option A → Type 0
Optional P tokens None = tokens ≡ []
Optional P tokens (Some x) = P tokens x

-- a list cut in two
pub record Joined (First Second : List TheToken → Type 0) (tokens : List TheToken) : Type 0 where
  pub prefix : List TheToken
  pub back : List TheToken
  pub tokens_are : tokens ≡ prefix ++ back
  pub prefix_is : First prefix
  pub back_is : Second back

-- a phrase any number of times
abbrev pub Many : {A : Type 0} → (List TheToken → A → Type 0) → List TheToken → List A → Type 0
Many P tokens [] = tokens ≡ []
Many P tokens (x ∷ xs) = Joined (λ prefix. P prefix x) (λ back. Many P back xs) tokens

-- What one token is read as. No word is reserved.

-- whether a token of this kind and these bytes is the word; a number, a description or a mark is none
abbrev pub word_text : TokenKind → List ℕ → List ℕ → Bool
word_text kinds.Word text word = bytes_eq text word
word_text _ text word = false

-- this word
abbrev pub is_word : TheToken → List ℕ → Bool
is_word token word = word_text token.kind token.text word

abbrev pub same_mark : Mark → Mark → Bool
same_mark OpenBrace OpenBrace = true
same_mark CloseBrace CloseBrace = true
same_mark OpenParen OpenParen = true
same_mark CloseParen CloseParen = true
same_mark OpenBracket OpenBracket = true
same_mark CloseBracket CloseBracket = true
same_mark Comma Comma = true
same_mark Semicolon Semicolon = true
same_mark _ _ = false

-- whether a token of this kind is the mark; a word, a number or a description is none
abbrev pub kind_is_mark : TokenKind → Mark → Bool
kind_is_mark (kinds.Mark found) mark = same_mark found mark
kind_is_mark _ mark = false

-- this mark
abbrev pub is_mark : TheToken → Mark → Bool
is_mark token mark = kind_is_mark token.kind mark

-- what a token is where it passes a test
abbrev pub if_so : {A : Type 0} → Bool → A → Option A
if_so b x = if b then Some x else None

-- the name that a token of this kind, with these bytes and at this place, is; only a word is one
abbrev pub name_from : TokenKind → List ℕ → ℕ → Option TheName
name_from kinds.Word text at = Some (record { text = text; at = at })
name_from _ text at = None

-- any word is a name
abbrev pub name_in : TheToken → Option TheName
name_in token = name_from token.kind token.text token.at

-- the number that a token of this kind and at this place is, if it is one
abbrev pub number_from : TokenKind → ℕ → Option TheNumber
number_from (kinds.Number value) at = Some (record { value = value; at = at })
number_from _ at = None

-- a number's value and place; any other token is no number
abbrev pub number_in : TheToken → Option TheNumber
number_in token = number_from token.kind token.at

-- the description that a token of this kind and these bytes is, if it is one
abbrev pub description_from : TokenKind → List ℕ → Option (List ℕ)
description_from kinds.Description text = Some text
description_from _ text = None

-- a description's bytes, both quotes among them; any other token is none
abbrev pub description_in : TheToken → Option (List ℕ)
description_in token = description_from token.kind token.text

-- The word that begins a declaration.
pub data Opening : Type 0 where
  alias_word : Opening
  typedef_word : Opening
  message_word : MessageKind → Opening
  rpc_word : Opening

-- which declaration a token begins; none but these six words begins one
abbrev pub opening_in : TheToken → Option Opening
opening_in token =
    if is_word token (codes "alias") then Some alias_word
    else if is_word token (codes "typedef") then Some typedef_word
    else if is_word token (codes "message") then Some (message_word messages.Message)
    else if is_word token (codes "call") then Some (message_word messages.Call)
    else if is_word token (codes "response") then Some (message_word messages.Response)
    else if is_word token (codes "rpc") then Some rpc_word
    else None

-- What stands after `typedef`: `enum` and `struct` are always those words there.
pub data Defined : Type 0 where
  enum_word : Defined
  struct_word : Defined
  type_word : TheName → Defined

-- what a token right behind `typedef` is; any word but those two is the old type's name
abbrev pub defined_in : TheToken → Option Defined
defined_in token =
    if is_word token (codes "enum") then Some enum_word
    else if is_word token (codes "struct") then Some struct_word
    else option_map type_word (name_in token)

-- the half of an rpc that carries an argument, by the word before it; no other token stands there
abbrev pub direction_in : TheToken → Option Direction
direction_in token =
    if is_word token (codes "in") then Some directions.In
    else if is_word token (codes "out") then Some directions.Out
    else None

-- What stands first between an argument's brackets: a number where its type is `string`, else the
-- name of a length.
pub data Inside : Type 0 where
  bound_word : TheNumber → Inside
  length_word : TheName → Inside

-- whether the type is the one whose arguments may have a number alone in brackets, their bound
abbrev pub is_string : TheName → Bool
is_string type_name = bytes_eq type_name.text (codes "string")

-- a token read as this number or this name: a number is a string's bound, a word a length's name for any type
abbrev pub inside_from : TheName → Option TheNumber → Option TheName → Option Inside
inside_from type_name (Some bound) name = if_so (is_string type_name) (bound_word bound)
inside_from type_name None name = option_map length_word name

-- the same of a token: so `uint8 a[4]` as an argument is E7 at the 4, while `string s[n]` passes the grammar
abbrev pub inside_in : TheName → TheToken → Option Inside
inside_in type_name token = inside_from type_name (number_in token) (name_in token)

-- The productions.

-- a quoted word of the grammar, as "interface"; it has no value
abbrev pub Word : List ℕ → List TheToken → Unit {0} → Type 0
Word word = One (λ token. if_so (is_word token word) tt)

-- a quoted mark of the grammar, as "["; it has no value
abbrev pub TheMark : Mark → List TheToken → Unit {0} → Type 0
TheMark mark = One (λ token. if_so (is_mark token mark) tt)

-- NAME, NEW and OLD of the grammar: any word
abbrev pub AName : List TheToken → TheName → Type 0
AName = One name_in

-- NUMBER of the grammar; whether a count or a bound is within its limits is asked later (E16, E20)
abbrev pub ANumber : List TheToken → TheNumber → Type 0
ANumber = One number_in

-- DESCRIPTION of the grammar, kept with both quotes
abbrev pub ADescription : List TheToken → List ℕ → Type 0
ADescription = One description_in

-- "[" NUMBER "]"
abbrev pub ACount : List TheToken → TheNumber → Type 0
ACount = do
  TheMark OpenBracket
  count ← ANumber
  TheMark CloseBracket
  Means count

-- OLD NAME ["[" NUMBER "]"] ";"
abbrev pub AField : List TheToken → TheField → Type 0
AField = do
  type_name ← AName
  name ← AName
  count ← Optional ACount
  TheMark Semicolon
  Means (record { type_name = type_name; name = name; count = count })

-- [NAME ("," NAME)* [","]]: a comma stands behind each name but the last, and may stand behind that
abbrev pub Members : List TheToken → List TheName → Type 0
Members tokens [] = tokens ≡ []
Members tokens (name ∷ names) =
    Joined (λ prefix. AName prefix name)
    (λ back. ((names ≡ []) × (back ≡ [])) ⊎ Joined (λ comma. TheMark Comma comma tt) (λ rest. Members rest names) back)
    tokens

-- [P ("," P)*]
abbrev pub Separated : {A : Type 0} → (List TheToken → A → Type 0) → List TheToken → List A → Type 0
Separated P tokens [] = tokens ≡ []
Separated P tokens (x ∷ xs) =
    Joined (λ prefix. P prefix x) (λ back. Many (TheMark Comma >> P) back xs) tokens

-- NUMBER "]" or NAME ["," NUMBER] "]"
abbrev pub InBrackets : Inside → List TheToken → TheShape → Type 0
InBrackets (bound_word bound) = do
  TheMark CloseBracket
  Means (bounded bound)
InBrackets (length_word length) = do
  bound ← Optional (TheMark Comma >> ANumber)
  TheMark CloseBracket
  Means (sized length bound)

-- "[" NUMBER "]" where the type is `string`, or "[" NAME ["," NUMBER] "]"
abbrev pub ABracket : TheName → List TheToken → TheShape → Type 0
ABracket type_name = do
  TheMark OpenBracket
  inside ← One (inside_in type_name)
  InBrackets inside

-- nothing, or what stands in brackets
abbrev pub AShape : TheName → List TheToken → TheShape → Type 0
AShape type_name tokens shape = Means plain tokens shape ⊎ ABracket type_name tokens shape

-- OLD NAME, and behind it nothing or what stands in brackets
abbrev pub AnArgument : List TheToken → TheArgument → Type 0
AnArgument = do
  type_name ← AName
  name ← AName
  shape ← AShape type_name
  Means (record { type_name = type_name; name = name; shape = shape })

-- ("in" | "out") and an argument
abbrev pub ADirected : List TheToken → TheDirected → Type 0
ADirected = do
  direction ← One direction_in
  argument ← AnArgument
  Means (record { direction = direction; argument = argument })

-- what stands after `typedef` and the word behind it
abbrev pub Definition : Defined → List TheToken → TheDeclaration → Type 0
-- "enum" "{" [NAME ("," NAME)* [","]] "}" NEW ";"
Definition enum_word = do
  TheMark OpenBrace
  members ← Members
  TheMark CloseBrace
  name ← AName
  TheMark Semicolon
  Means (enum_of members name)
-- "struct" "{" (OLD NAME ["[" NUMBER "]"] ";")* "}" NEW ";"
Definition struct_word = do
  TheMark OpenBrace
  fields ← Many AField
  TheMark CloseBrace
  name ← AName
  TheMark Semicolon
  Means (struct_of fields name)
-- OLD NEW ["[" NUMBER "]"] ";"
Definition (type_word old) = do
  new ← AName
  count ← Optional ACount
  TheMark Semicolon
  Means (typedef_of old new count)

-- one case for each word that begins a declaration
abbrev pub Production : Opening → List TheToken → TheDeclaration → Type 0
-- "alias" NEW OLD ";"
Production alias_word = do
  new ← AName
  old ← AName
  TheMark Semicolon
  Means (alias_of new old)
Production typedef_word = do
  defined ← One defined_in
  Definition defined
-- ("message" | "call" | "response") NAME "(" [arg ("," arg)*] ")" ";"
Production (message_word kind) = do
  name ← AName
  TheMark OpenParen
  args ← Separated AnArgument
  TheMark CloseParen
  TheMark Semicolon
  Means (message_of kind name args)
-- "rpc" NAME "(" [dir arg ("," dir arg)*] ")" ";"
Production rpc_word = do
  name ← AName
  TheMark OpenParen
  args ← Separated ADirected
  TheMark CloseParen
  TheMark Semicolon
  Means (rpc_of name args)

-- a word that begins a declaration, and the rest of its production
abbrev pub ADeclaration : List TheToken → TheDeclaration → Type 0
ADeclaration = do
  opening ← One opening_in
  Production opening

-- "interface" NAME [DESCRIPTION] "{"
abbrev pub Head : List TheToken → Unit {0} → Type 0
Head = do
  Word (codes "interface")
  name ← AName
  description ← Optional ADescription
  TheMark OpenBrace

-- the head of an interface stands first
pub record HasHead (tokens : List TheToken) : Type 0 where
  pub head : List TheToken
  pub rest : List TheToken
  pub tokens_are : tokens ≡ head ++ rest
  pub is : Head head tt

-- "interface" NAME [DESCRIPTION] "{" decl* "}"
abbrev pub Body : List TheToken → TheTree → Type 0
Body = do
  Word (codes "interface")
  name ← AName
  description ← Optional ADescription
  TheMark OpenBrace
  declarations ← Many ADeclaration
  TheMark CloseBrace
  Means (record { name = name; description = description; declarations = declarations })

-- The tokens are written for the tree: its body, and then perhaps a semicolon.
abbrev pub Derives : List TheToken → TheTree → Type 0
Derives = do
  tree ← Body
  Optional (TheMark Semicolon)
  Means tree

-- some list that begins with these tokens is written for a tree
pub record Begins (tokens : List TheToken) : Type 0 where
  pub more : List TheToken
  pub tree : TheTree
  pub derives : Derives (tokens ++ more) tree

-- What comes of reading a text's tokens: its tree, or a fault by its number and its place.
pub data ParseOutcome : Type 0 where
  parsed : TheTree → ParseOutcome
  parse_fault : ℕ → ℕ → ParseOutcome

-- A fault's number at a token: 8 where the tokens before it are written for a tree, else 7.
abbrev pub NumberAfter : List TheToken → ℕ → Type 0
NumberAfter prefix number =
    ((number ≡ 8) × (tree : TheTree) × Derives prefix tree) ⊎ ((number ≡ 7) × ((tree : TheTree) → Derives prefix tree → ⊥))

-- The first token with which the tokens so far begin no list that is written for a tree.
pub record FaultAtToken (tokens : List TheToken) (number at : ℕ) : Type 0 where
  pub prefix : List TheToken
  pub token : TheToken
  pub later : List TheToken
  pub tokens_are : tokens ≡ prefix ++ token ∷ later
  pub begins : Begins prefix
  pub no_more : Begins (prefix ++ token ∷ []) → ⊥
  pub number_is : NumberAfter prefix number
  pub at_is : at ≡ token.at

-- The text ends where the tokens only begin a list that is written for a tree.
pub record FaultAtEnd (tokens : TheTokens) (number at : ℕ) : Type 0 where
  pub begins : Begins tokens.tokens
  pub no_tree : (tree : TheTree) → Derives tokens.tokens tree → ⊥
  pub number_is : number ≡ 7
  pub at_is : at ≡ tokens.end

-- Which outcome the tokens of a text have.
abbrev pub Parses : TheTokens → ParseOutcome → Type 0
Parses tokens (parsed tree) = Derives tokens.tokens tree
Parses tokens (parse_fault number at) = FaultAtToken tokens.tokens number at ⊎ FaultAtEnd tokens number at
