-- What the text of an interface means, from its bytes on: it is lexed, the tokens are parsed, and the
-- tree is checked; the first of the three that finds a fault answers it.
use Rattle.std.specs.Prelude.{◌≡◌, ℕ, List}
use Rattle.fl_lex.specs.Outcome.{LexOutcome, lexed, lex_fault, Lexes}
use Rattle.fl_parse.specs.Grammar.{ParseOutcome, parsed, parse_fault, Parses}
use Rattle.fl_interface.specs.Interface.{TheInterface}
use Rattle.fl_check.specs.Checks.{CheckOutcome, checked, check_fault, Checks}

-- an interface, or a fault by its number and the offset where it stands
pub data TextOutcome : Type 0 where
  stands_for : TheInterface → TextOutcome
  text_fault : ℕ → ℕ → TextOutcome

abbrev pub checked_as : CheckOutcome → TextOutcome
checked_as (checked i) = stands_for i
checked_as (check_fault number at) = text_fault number at

abbrev pub ParsedMeans : ParseOutcome → TextOutcome → Type 0
ParsedMeans (parse_fault number at) outcome = outcome ≡ text_fault number at
ParsedMeans (parsed tree) outcome = (found : CheckOutcome) × Checks tree found × (outcome ≡ checked_as found)

abbrev pub LexedMeans : LexOutcome → TextOutcome → Type 0
LexedMeans (lex_fault number at) outcome = outcome ≡ text_fault number at
LexedMeans (lexed tokens) outcome = (found : ParseOutcome) × Parses tokens found × ParsedMeans found outcome

abbrev pub TextMeans : List ℕ → TextOutcome → Type 0
TextMeans bytes outcome = (found : LexOutcome) × Lexes bytes found × LexedMeans found outcome

-- ---- the laws

-- each byte string stands for an interface or has a fault
abbrev pub SomeText : Type 0
SomeText = (bytes : List ℕ) → (outcome : TextOutcome) × TextMeans bytes outcome

-- and it is one of these alone
abbrev pub OneText : Type 0
OneText = (bytes : List ℕ) (a b : TextOutcome) → TextMeans bytes a → TextMeans bytes b → a ≡ b
