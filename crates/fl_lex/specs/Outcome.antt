-- What a text comes to: its tokens, or its first fault.
use Rattle.std.specs.Prelude.{◌≡◌, ℕ, ◌+◌, ◌<◌, ◌≤◌, ◌⊎◌, List, [], ◌∷◌, ◌++◌, length, take, drop, codes, Option, Some, None, Result, Ok, Err}
use Rattle.std.specs.List.{AllByRecursion}
use Rattle.fl_lex.specs.Token.{TheToken, TheTokens, tokens_of}
use Rattle.fl_lex.specs.Spelling.{class_of, AllBytes, is_described, Has, token, IsItem, Begins, Spells}
use Rattle.fl_lex.specs.declared.token.TokenKind.{TokenKind}
use Rattle.fl_lex.specs.declared.token.TokenKind.TheVariants as kinds
use Rattle.fl_lex.specs.declared.token.Tokens.{Tokens}
use Rattle.fl_lex.specs.declared.class.ByteClass.TheVariants as classes
use Rattle.fl_lex.specs.declared.fault.LexFault.{LexFault}
use Rattle.fl_lex.specs.declared.fault.LexFault.TheVariants as faults

-- a word has at most 64 bytes, a number is at most 1,000,000
abbrev pub KindFits : TokenKind → List ℕ → Type 0
KindFits kinds.Word bytes = length bytes ≤ 64
KindFits (kinds.Number value) bytes = value ≤ 1000000
KindFits kinds.Description bytes = Unit {0}
KindFits (kinds.Mark mark) bytes = Unit {0}

-- the token is within the limits
abbrev pub Fits : TheToken → Type 0
Fits t = KindFits t.kind t.text

-- what can stand wrong at the beginning of a text
pub data Flaw : Type 0 where
  no_token : Flaw
  open_comment : Flaw
  open_description : Flaw
  long_word : Flaw
  large_number : Flaw

-- the flaw's fault number
abbrev pub number_of : Flaw → ℕ
number_of no_token = 1
number_of open_comment = 2
number_of open_description = 3
number_of long_word = 4
number_of large_number = 5

-- these bytes stand at the text's beginning
abbrev pub BeginsWith : List ℕ → List ℕ → Type 0
BeginsWith prefix text = (more : List ℕ) × (text ≡ prefix ++ more)

-- a line or the text ends here
abbrev pub EndsLine : List ℕ → Type 0
EndsLine [] = Unit {0}
EndsLine (byte ∷ more) = byte ≡ 10

-- the flaw stands at the beginning of the text: a byte that begins no token and no gap (a slash that
-- begins no comment is one), a comment or a description left open, a word or a number past its limit
abbrev pub Stands : Flaw → List ℕ → Type 0
Stands no_token text = (byte : ℕ) × (more : List ℕ) × (text ≡ byte ∷ more)
    × ((class_of byte ≡ classes.Other) ⊎ ((class_of byte ≡ classes.Slash) × ¬ BeginsWith (codes "//") text × ¬ BeginsWith (codes "/*") text))
Stands open_comment text = (inside : List ℕ) × (text ≡ codes "/*" ++ inside) × ¬ Has (codes "*/") inside
Stands open_description text = (inside : List ℕ) × (rest : List ℕ) × (text ≡ codes "\"" ++ inside ++ rest) × AllBytes is_described inside × EndsLine rest
Stands long_word text = (bytes : List ℕ) × (rest : List ℕ) × Begins text (token kinds.Word) bytes rest × (64 < length bytes)
Stands large_number text = (bytes : List ℕ) × (rest : List ℕ) × (value : ℕ) × Begins text (token (kinds.Number value)) bytes rest × (1000000 < value)

-- the whole text spells these tokens, within the limits
pub record IsLexed (text : List ℕ) (found : TheTokens) : Type 0 where
  pub short : length text ≤ 65536
  pub whole : found.end ≡ length text
  pub spelled : Spells text found.tokens []
  pub fits : AllByRecursion Fits found.tokens

-- the text spells some tokens within the limits up to this offset, and there the flaw stands
pub record IsFaulty (text : List ℕ) (number offset : ℕ) : Type 0 where
  pub short : length text ≤ 65536
  pub tokens : List TheToken
  pub left : List ℕ
  pub spelled : Spells text tokens left
  pub fits : AllByRecursion Fits tokens
  pub place : offset + length left ≡ length text
  pub flaw : Flaw
  pub numbered : number ≡ number_of flaw
  pub stands : Stands flaw left

-- the text has more than 65,536 bytes; the fault stands behind the last that it may have
abbrev pub IsTooLong : List ℕ → ℕ → ℕ → Type 0
IsTooLong text number offset = (65536 < length text) × (number ≡ 6) × (offset ≡ 65536)

-- the tokens, or a fault's number and offset
pub data LexOutcome : Type 0 where
  lexed : TheTokens → LexOutcome
  lex_fault : ℕ → ℕ → LexOutcome

-- what lexing the text comes to; at most one outcome stands for a text
abbrev pub Lexes : List ℕ → LexOutcome → Type 0
Lexes text (lexed found) = IsLexed text found
Lexes text (lex_fault number offset) = IsTooLong text number offset ⊎ IsFaulty text number offset

-- the number of a fault that the lexer answers
abbrev pub fault_number : LexFault → ℕ
fault_number (faults.NoToken at) = 1
fault_number (faults.OpenComment at) = 2
fault_number (faults.OpenDescription at) = 3
fault_number (faults.LongWord at) = 4
fault_number (faults.LargeNumber at) = 5
fault_number faults.LongText = 6
fault_number faults.Memory = 99

-- where a fault that the lexer answers stands; out of memory stands at no place
abbrev pub fault_offset : LexFault → Option ℕ
fault_offset (faults.NoToken at) = Some at
fault_offset (faults.OpenComment at) = Some at
fault_offset (faults.OpenDescription at) = Some at
fault_offset (faults.LongWord at) = Some at
fault_offset (faults.LargeNumber at) = Some at
fault_offset faults.LongText = Some 65536
fault_offset faults.Memory = None

-- a fault of the text has a place
abbrev pub outcome_at : ℕ → Option ℕ → Option LexOutcome
outcome_at number None = None
outcome_at number (Some at) = Some (lex_fault number at)

-- what a call of the lexer found; nothing where memory ran out
abbrev pub outcome_of : Result Tokens LexFault → Option LexOutcome
outcome_of (Ok tokens) = Some (lexed (tokens_of tokens))
outcome_of (Err fault) = outcome_at (fault_number fault) (fault_offset fault)

-- tokens with at least one byte each, one behind another, from one offset up to another
abbrev pub InOrder : ℕ → List TheToken → ℕ → Type 0
InOrder from [] end = from ≤ end
InOrder from (t ∷ ts) end = (from ≤ t.at) × (0 < length t.text) × InOrder (t.at + length t.text) ts end

-- the token's bytes stand in the text at its offset, and are a token of its kind
pub record IsTokenIn (text : List ℕ) (t : TheToken) : Type 0 where
  pub in_text : take (length t.text) (drop t.at text) ≡ t.text
  pub of_kind : IsItem (token t.kind) t.text

-- what holds of the tokens of every text
pub record AreTokensIn (text : List ℕ) (found : TheTokens) : Type 0 where
  pub whole : found.end ≡ length text
  pub short : found.end ≤ 65536
  pub few : length found.tokens ≤ found.end
  pub in_order : InOrder 0 found.tokens found.end
  pub each : AllByRecursion (IsTokenIn text) found.tokens
  pub fits : AllByRecursion Fits found.tokens

-- each text has an outcome
abbrev pub SomeOutcome : Type 0
SomeOutcome = (text : List ℕ) → (outcome : LexOutcome) × Lexes text outcome

-- at most one outcome stands for a text
abbrev pub OneOutcome : Type 0
OneOutcome = (text : List ℕ) (some other : LexOutcome) → Lexes text some → Lexes text other → some ≡ other
