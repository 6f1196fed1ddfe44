-- The faults of texts, whichever step finds them, and their places.
use Rattle.std.specs.Prelude.{ℕ, List, Option}
use Rattle.fl_lex.specs.Outcome as lex
use Rattle.fl_parse.specs.Outcome as parse
use Rattle.fl_check.specs.Faults as check
use Rattle.fl_check.specs.declared.explained.TextFault.{TextFault}
use Rattle.fl_check.specs.declared.explained.TextFault.TheVariants.{Lex, Parse, Check}
use Rattle.fl_check.specs.declared.position.Position.{Position}
use Rattle.fl_check.specs.Position.{line_at, column_at}

-- the number of a text's fault, whichever step found it: 1 to 8, 10 to 21, or 99 where memory is refused
abbrev pub text_fault_number : TextFault → ℕ
text_fault_number (Lex f) = lex.fault_number f
text_fault_number (Parse f) = parse.fault_number f
text_fault_number (Check f) = check.fault_number f

-- the offset in bytes at which the fault stands, perhaps the text's end; none where memory is refused
abbrev pub text_fault_offset : TextFault → Option ℕ
text_fault_offset (Lex f) = lex.fault_offset f
text_fault_offset (Parse f) = parse.fault_offset f
text_fault_offset (Check f) = check.fault_offset f

-- a line and a column
abbrev pub LineAndColumn : Type 0
LineAndColumn = ℕ × ℕ

-- the place that the code tells, as contracts see it
abbrev pub place_of : Position → LineAndColumn
place_of p = (p.line, p.column)

-- the place of an offset in a text
abbrev pub place_in : List ℕ → ℕ → LineAndColumn
place_in text offset = (line_at text offset, column_at text offset)
