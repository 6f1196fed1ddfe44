-- Calls as text: `name(v, v)`. What stands where is said by two places of a text, each told by the
-- bytes from there on: something stands from `bytes` up to `rest`.
use Rattle.std.specs.Prelude.{◌≡◌, ℕ, ℤ, pos, ◌+◌, ◌*◌, ◌<◌, ◌≤◌, ◌==◌, ◌&&◌, ◌||◌}
use Rattle.std.specs.Prelude.{nat_le, max, not, Bool, true, false, if◌then◌else◌, List, [], ◌∷◌, ◌++◌, length}
use Rattle.std.proofs.Common.{neg_ℤ}
use Rattle.std.specs.List.{list_all}
use Rattle.std.specs.Char.{digit_value}
use Rattle.std.specs.Str.Parse.{digits_value}
use Rattle.fl_lex.specs.Words.{is_digit, is_name}
use Rattle.fl_value_data.specs.declared.value.Value.{Value}
use Rattle.fl_value_data.specs.Value.{Datum, number, string, elements, fields, Data, nothing_more, also, data_from, datum_of}

-- a space or a tab
abbrev pub is_blank : ℕ → Bool
is_blank b = (b == 32) || (b == 9)

-- the bytes from the first on that isn't a blank
abbrev pub without_blanks : List ℕ → List ℕ
without_blanks [] = []
without_blanks (b ∷ bytes) = if is_blank b then without_blanks bytes else b ∷ bytes

-- one of ( ) , [ ] { }
abbrev pub is_mark : ℕ → Bool
is_mark b = (b == 40) || (b == 41) || (b == 44) || (b == 91) || (b == 93) || (b == 123) || (b == 125)

-- the text doesn't begin with such a byte
abbrev pub StopsAt : (ℕ → Bool) → List ℕ → Type 0
StopsAt p [] = Unit {0}
StopsAt p (b ∷ bs) = p b ≡ false

-- a number, a text in quotes, or a mark
pub data TheToken : Type 0 where
  a_number : ℤ → TheToken
  a_text : List ℕ → TheToken
  a_mark : ℕ → TheToken

-- blanks, or nothing
pub record Blanks (bytes rest : List ℕ) : Type 0 where
  pub blanks : List ℕ
  pub all : list_all is_blank blanks ≡ true
  pub split : bytes ≡ blanks ++ rest

-- 1 to 20 digits, all that stand there
pub record Digits (n : ℕ) (bytes rest : List ℕ) : Type 0 where
  pub digits : List ℕ
  pub all : list_all is_digit digits ≡ true
  pub some : 0 < length digits
  pub few : length digits ≤ 20
  pub value : n ≡ digits_value 10 digits
  pub split : bytes ≡ digits ++ rest
  pub stops : StopsAt is_digit rest

-- digits, perhaps with a minus directly before them
pub data Number (z : ℤ) (bytes rest : List ℕ) : Type 0 where
  unsigned : (n : ℕ) → z ≡ pos n → Digits n bytes rest → Number z bytes rest
  minus : (n : ℕ) (digits : List ℕ) → z ≡ neg_ℤ (pos n) → bytes ≡ 45 ∷ digits → Digits n digits rest → Number z bytes rest

-- a byte that stands for itself in a text: any from 32 up but `"` and `\`
abbrev pub is_literal : ℕ → Bool
is_literal b = nat_le 32 b && not (b == 34) && not (b == 92)

-- a byte of a text: itself, `\"`, `\\`, or `\x` and two hexadecimal digits
pub data TextByte (b : ℕ) (bytes rest : List ℕ) : Type 0 where
  itself : is_literal b ≡ true → bytes ≡ b ∷ rest → TextByte b bytes rest
  quote : b ≡ 34 → bytes ≡ 92 ∷ 34 ∷ rest → TextByte b bytes rest
  backslash : b ≡ 92 → bytes ≡ 92 ∷ 92 ∷ rest → TextByte b bytes rest
  coded : (high low : ℕ) → digit_value high < 16 → digit_value low < 16
      → b ≡ 16 * digit_value high + digit_value low → bytes ≡ 92 ∷ 120 ∷ high ∷ low ∷ rest → TextByte b bytes rest

-- the bytes of a text, one after another
abbrev pub TextBytes : List ℕ → List ℕ → List ℕ → Type 0
TextBytes [] bytes rest = bytes ≡ rest
TextBytes (b ∷ bs) bytes rest = (next : List ℕ) × TextByte b bytes next × TextBytes bs next rest

-- no byte of a text stands here
abbrev pub Closed : List ℕ → Type 0
Closed bytes = (b : ℕ) (rest : List ℕ) → TextByte b bytes rest → ⊥

abbrev pub TokenAt : TheToken → List ℕ → List ℕ → Type 0
TokenAt (a_number z) bytes rest = Number z bytes rest
TokenAt (a_text s) bytes rest = (inside : List ℕ) × (bytes ≡ 34 ∷ inside) × TextBytes s inside (34 ∷ rest)
TokenAt (a_mark m) bytes rest = (is_mark m ≡ true) × (bytes ≡ m ∷ rest)

-- a token, and the blanks before it
abbrev pub Token : TheToken → List ℕ → List ℕ → Type 0
Token t bytes rest = (start : List ℕ) × Blanks bytes start × TokenAt t start rest

-- a value: a number, a text, `[v, v]` for an array, `{v, v}` for a struct
abbrev mutual
  pub SpellsValue : Datum → List ℕ → List ℕ → Type 0
  SpellsValue (number z) bytes rest = Token (a_number z) bytes rest
  SpellsValue (string s) bytes rest = Token (a_text s) bytes rest
  SpellsValue (elements ds) bytes rest =
      (inside : List ℕ) × (last : List ℕ) × Token (a_mark 91) bytes inside × SpellsValues ds inside last × Token (a_mark 93) last rest
  SpellsValue (fields ds) bytes rest =
      (inside : List ℕ) × (last : List ℕ) × Token (a_mark 123) bytes inside × SpellsValues ds inside last × Token (a_mark 125) last rest

  -- values with a comma between any two
  pub SpellsValues : Data → List ℕ → List ℕ → Type 0
  SpellsValues nothing_more bytes rest = bytes ≡ rest
  SpellsValues (also d ds) bytes rest = (next : List ℕ) × SpellsValue d bytes next × SpellsMore ds next rest

  -- a comma before each value
  pub SpellsMore : Data → List ℕ → List ℕ → Type 0
  SpellsMore nothing_more bytes rest = bytes ≡ rest
  SpellsMore (also d ds) bytes rest = (start : List ℕ) × (next : List ℕ) × Token (a_mark 44) bytes start × SpellsValue d start next × SpellsMore ds next rest

-- how deep arrays and structs nest
abbrev mutual
  pub depth_of : Datum → ℕ
  depth_of (elements ds) = 1 + greatest_depth ds
  depth_of (fields ds) = 1 + greatest_depth ds
  depth_of d = 0

  pub greatest_depth : Data → ℕ
  greatest_depth nothing_more = 0
  greatest_depth (also d ds) = max (depth_of d) (greatest_depth ds)

-- the bytes spell a call: its name, and its values between parentheses, nested at most 20 deep
pub record SpellsCall (bytes name : List ℕ) (values : List Datum) : Type 0 where
  pub start : List ℕ
  pub after : List ℕ
  pub inside : List ℕ
  pub last : List ℕ
  pub end : List ℕ
  pub before : Blanks bytes start
  pub word : is_name name ≡ true
  pub named : start ≡ name ++ after
  pub opens : Token (a_mark 40) after inside
  pub spelled : SpellsValues (data_from values) inside last
  pub closes : Token (a_mark 41) last end
  pub ends : Blanks end []
  pub nested : greatest_depth (data_from values) ≤ 20

-- the bytes spell a call
abbrev pub IsCall : List ℕ → Type 0
IsCall bytes = (name : List ℕ) × (values : List Datum) × SpellsCall bytes name values

-- a mark that ends a list of values
abbrev pub is_close : ℕ → Bool
is_close b = (b == 41) || (b == 93) || (b == 125)

-- values up to a closing mark
abbrev pub Listed : ℕ → Data → List ℕ → List ℕ → Type 0
Listed closing ds bytes rest = (last : List ℕ) × SpellsValues ds bytes last × Token (a_mark closing) last rest

-- values between an opening and a closing mark
abbrev pub Enclosed : ℕ → ℕ → Data → List ℕ → List ℕ → Type 0
Enclosed opening closing ds bytes rest =
    (inside : List ℕ) × (last : List ℕ) × Token (a_mark opening) bytes inside × SpellsValues ds inside last × Token (a_mark closing) last rest

-- no values stand so that nest less deep
abbrev pub NoneEnclosed : ℕ → ℕ → ℕ → List ℕ → Type 0
NoneEnclosed opening closing depth bytes = (ds : Data) (rest : List ℕ) → 1 + greatest_depth ds ≤ depth → Enclosed opening closing ds bytes rest → ⊥

-- one value more behind others: that which stands up to a place, nested at most so deep
pub record Pushes (before after : List Value) (depth : ℕ) (bytes rest : List ℕ) : Type 0 where
  pub value : Value
  pub items : after ≡ before ++ value ∷ []
  pub spelled : SpellsValue (datum_of value) bytes rest
  pub shallow : depth_of (datum_of value) ≤ depth
  pub shorter : length rest < length bytes

-- ---- the law of one reading

-- a text spells at most one name and one list of values
abbrev pub OneSpelling : Type 0
OneSpelling = (bytes one other : List ℕ) (values others : List Datum) → SpellsCall bytes one values → SpellsCall bytes other others
    → (one ≡ other) × (values ≡ others)
