-- Which line spells which command.
use Rattle.std.specs.Prelude.{◌≡◌, ◌<◌, ◌^◌, ℕ, true, false, List, [], ◌∷◌, ◌++◌, Some}
use Rattle.std.specs.List.{flat_map}
use Rattle.std.specs.Fmt.{decimal}
use Rattle.fl_lex.specs.Words.{is_name}
use Rattle.fl_value_data.specs.declared.value.PlanNo.{PlanNo}
use Rattle.fl_value.specs.CallText.{without_blanks}
use Rattle.fl_script_lines.specs.Words.{first_word, behind_word, number_of, is_silent}
use Rattle.fl_script_lines.specs.Commands.{Command, Piece, the_word, a_name, a_number, an_end, a_text}
use Rattle.fl_script_lines.specs.Commands.{row_of, heading_row, end_text}

-- the line is these pieces, one after another, and nothing more but blanks
abbrev pub Holds : List Piece → List ℕ → Type 0
Holds [] line = first_word line ≡ []
Holds (the_word word ∷ pieces) line = (first_word line ≡ word) × Holds pieces (behind_word line)
Holds (a_name name ∷ pieces) line = (first_word line ≡ name) × (is_name name ≡ true) × Holds pieces (behind_word line)
Holds (a_number n ∷ pieces) line = (number_of (first_word line) ≡ Some n) × Holds pieces (behind_word line)
Holds (an_end e ∷ pieces) line =
    (first_word line ≡ end_text e) × (is_name e.binding ≡ true) × Holds pieces (behind_word line)
Holds (a_text text ∷ pieces) line = without_blanks line ≡ text

-- the line spells the command
abbrev pub Spells : List ℕ → Command → Type 0
Spells line c = Holds (row_of c) line

-- the line opens a block
abbrev pub Heads : List ℕ → PlanNo → Type 0
Heads line plan = Holds (heading_row plan) line

-- what a line is: one without an answer, the head of an `idl` block, a command, or nothing that is read, which is
-- answered `refused E90`
pub data Line : Type 0 where
  silent : Line
  heading : PlanNo → Line
  command : Command → Line
  unread : Line

-- a line, without its end, is this; it is unread just where it is none of the others
abbrev pub LineIs : List ℕ → Line → Type 0
LineIs line silent = is_silent line ≡ true
LineIs line (heading plan) = Heads line plan
LineIs line (command c) = Spells line c
LineIs line unread =
    (is_silent line ≡ false) × ((plan : PlanNo) → Heads line plan → ⊥) × ((c : Command) → Spells line c → ⊥)

-- ---- a command as it is printed

-- a number is printed without zeros before it
abbrev pub printed_piece : Piece → List ℕ
printed_piece (the_word word) = word
printed_piece (a_name name) = name
printed_piece (a_number n) = decimal n
printed_piece (an_end e) = end_text e
printed_piece (a_text text) = text

-- pieces with one space before each
abbrev pub printed_more : List Piece → List ℕ
printed_more pieces = flat_map (λ piece. 32 ∷ printed_piece piece) pieces

-- pieces with one space between any two
abbrev pub printed_row : List Piece → List ℕ
printed_row [] = []
printed_row (piece ∷ pieces) = printed_piece piece ++ printed_more pieces

-- a command's line, with single spaces between its pieces
abbrev pub printed_command : Command → List ℕ
printed_command c = printed_row (row_of c)

-- the pieces can stand in a line: names are names, numbers have at most 9 digits, and a text begins with no blank
abbrev pub CanStand : List Piece → Type 0
CanStand [] = Unit {0}
CanStand (the_word word ∷ pieces) = CanStand pieces
CanStand (a_name name ∷ pieces) = (is_name name ≡ true) × CanStand pieces
CanStand (a_number n ∷ pieces) = (n < 10 ^ 9) × CanStand pieces
CanStand (an_end e ∷ pieces) = (is_name e.binding ≡ true) × CanStand pieces
CanStand (a_text text ∷ pieces) = (without_blanks text ≡ text) × CanStand pieces

-- ---- the laws

-- a line is one thing, so it spells at most one command
abbrev pub OneLine : Type 0
OneLine = (line : List ℕ) (x y : Line) → LineIs line x → LineIs line y → x ≡ y

-- a printed command reads as itself
abbrev pub PrintedReads : Type 0
PrintedReads = (c : Command) → CanStand (row_of c) → Spells (printed_command c) c

-- so does each command that some line spells
abbrev pub SpelledReads : Type 0
SpelledReads = (line : List ℕ) (c : Command) → Spells line c → Spells (printed_command c) c
