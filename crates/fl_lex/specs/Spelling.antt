-- What the bytes of an interface's text spell: tokens and gaps in turn, each the longest that
-- stands at its place.
use Rattle.std.specs.Prelude.{◌≡◌, ℕ, ◌+◌, ◌-◌, ◌*◌, ◌^◌, ◌<◌, ◌≤◌, ◌==◌, ◌||◌, ◌&&◌, ◌⊎◌, Bool, true, not, nat_le, if◌then◌else◌, List, [], ◌∷◌}
use Rattle.std.specs.Prelude.{◌++◌, length, codes}
use Rattle.std.specs.List.{list_all}
use Rattle.fl_lex.specs.Words.{is_letter, is_digit, is_word_byte}
use Rattle.fl_lex.specs.Token.{TheToken}
use Rattle.fl_lex.specs.declared.token.Mark.{Mark}
use Rattle.fl_lex.specs.declared.token.Mark.TheVariants as marks
use Rattle.fl_lex.specs.declared.token.TokenKind.{TokenKind}
use Rattle.fl_lex.specs.declared.token.TokenKind.TheVariants as kinds
use Rattle.fl_lex.specs.declared.class.ByteClass.{ByteClass}
use Rattle.fl_lex.specs.declared.class.ByteClass.TheVariants as classes

-- the marks { } ( ) [ ] , ; and no other byte
unfoldable pub mark_class : ℕ → ByteClass
mark_class b =
    if b == 123 then classes.Mark marks.OpenBrace
    else (if b == 125 then classes.Mark marks.CloseBrace
    else (if b == 40 then classes.Mark marks.OpenParen
    else (if b == 41 then classes.Mark marks.CloseParen
    else (if b == 91 then classes.Mark marks.OpenBracket
    else (if b == 93 then classes.Mark marks.CloseBracket
    else (if b == 44 then classes.Mark marks.Comma
    else (if b == 59 then classes.Mark marks.Semicolon
    else classes.Other)))))))

-- what a byte may begin: blanks are 9 to 13 and 32
unfoldable pub class_of : ℕ → ByteClass
class_of b =
    if is_letter b then classes.Letter
    else (if is_digit b then classes.Digit
    else (if (nat_le 9 b && nat_le b 13) || (b == 32) then classes.Blank
    else (if b == 34 then classes.Quote
    else (if b == 47 then classes.Slash
    else mark_class b))))

-- any byte but a line feed
abbrev pub is_on_line : ℕ → Bool
is_on_line b = not (b == 10)

-- any byte but a quote and a line feed
abbrev pub is_described : ℕ → Bool
is_described b = not (b == 34) && is_on_line b

-- every byte passes the test
abbrev pub AllBytes : (ℕ → Bool) → List ℕ → Type 0
AllBytes test bytes = list_all test bytes ≡ true

-- the inner bytes stand somewhere in the whole, one after another
abbrev pub Has : List ℕ → List ℕ → Type 0
Has inner whole = (before : List ℕ) × (behind : List ℕ) × (whole ≡ before ++ inner ++ behind)

-- a letter or _, then letters, digits and _
abbrev pub IsWord : List ℕ → Type 0
IsWord [] = ⊥
IsWord (first ∷ more) = (is_letter first ≡ true) × AllBytes is_word_byte more

-- the value of decimal digits
abbrev pub decimal_value : List ℕ → ℕ
decimal_value [] = 0
decimal_value (digit ∷ digits) = (digit - 48) * 10 ^ length digits + decimal_value digits

-- one or more digits, and their value
abbrev pub IsNumber : List ℕ → ℕ → Type 0
IsNumber digits value = (0 < length digits) × AllBytes is_digit digits × (value ≡ decimal_value digits)

-- a quote, bytes of one line that are no quotes, and a quote
abbrev pub IsDescription : List ℕ → Type 0
IsDescription bytes = (inside : List ℕ) × (bytes ≡ codes "\"" ++ inside ++ codes "\"") × AllBytes is_described inside

-- one byte, which is this mark
abbrev pub IsMark : List ℕ → Mark → Type 0
IsMark bytes mark = (byte : ℕ) × (bytes ≡ byte ∷ []) × (class_of byte ≡ classes.Mark mark)

-- one blank byte
abbrev pub IsBlank : List ℕ → Type 0
IsBlank bytes = (byte : ℕ) × (bytes ≡ byte ∷ []) × (class_of byte ≡ classes.Blank)

-- two slashes, then bytes of the same line
abbrev pub IsLineComment : List ℕ → Type 0
IsLineComment bytes = (inside : List ℕ) × (bytes ≡ codes "//" ++ inside) × AllBytes is_on_line inside

-- from /* to the first */ behind it
abbrev pub IsBlockComment : List ℕ → Type 0
IsBlockComment bytes = (inside : List ℕ) × (bytes ≡ codes "/*" ++ inside ++ codes "*/") × ¬ Has (codes "*/") inside

-- what a text is cut into: gaps, which are blanks and comments, and tokens
pub data Item : Type 0 where
  gap : Item
  token : TokenKind → Item

-- these bytes, with none before and none after, are such an item
abbrev pub IsItem : Item → List ℕ → Type 0
IsItem gap bytes = IsBlank bytes ⊎ IsLineComment bytes ⊎ IsBlockComment bytes
IsItem (token kinds.Word) bytes = IsWord bytes
IsItem (token (kinds.Number value)) bytes = IsNumber bytes value
IsItem (token kinds.Description) bytes = IsDescription bytes
IsItem (token (kinds.Mark mark)) bytes = IsMark bytes mark

-- the text begins with this item, and no longer item begins it; the rest is what stands behind
pub record Begins (text : List ℕ) (item : Item) (bytes rest : List ℕ) : Type 0 where
  pub joined : bytes ++ rest ≡ text
  pub is_item : IsItem item bytes
  pub longest : (other : Item) (more less : List ℕ) → more ++ less ≡ text → IsItem other more → length more ≤ length bytes

-- an item and its bytes
pub record Piece : Type 0 where
  pub item : Item
  pub bytes : List ℕ

-- the text begins with these pieces in turn, and `left` stands behind them
abbrev pub InTurn : List Piece → List ℕ → List ℕ → Type 0
InTurn [] text left = text ≡ left
InTurn (piece ∷ pieces) text left = (rest : List ℕ) × Begins text piece.item piece.bytes rest × InTurn pieces rest left

-- the token that a piece at this offset is; a gap is none
abbrev pub token_in : ℕ → Item → List ℕ → List TheToken
token_in at gap bytes = []
token_in at (token kind) bytes = record { kind = kind; text = bytes; at = at } ∷ []

-- the tokens among pieces of which the first stands at this offset
abbrev pub tokens_from : ℕ → List Piece → List TheToken
tokens_from at [] = []
tokens_from at (piece ∷ pieces) = token_in at piece.item piece.bytes ++ tokens_from (at + length piece.bytes) pieces

-- the text begins with bytes that spell these tokens, and `left` stands behind them
pub record Spells (text : List ℕ) (tokens : List TheToken) (left : List ℕ) : Type 0 where
  pub pieces : List Piece
  pub in_turn : InTurn pieces text left
  pub the_tokens : tokens ≡ tokens_from 0 pieces
