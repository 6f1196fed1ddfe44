-- The numbers of faults.
use Rattle.std.specs.Prelude.{ℕ, Option, Some, None}
use Rattle.fl_script_lines.specs.declared.fault.LineFault.{LineFault}
use Rattle.fl_script_lines.specs.declared.fault.LineFault.TheVariants.{Unread, NotACall, Name, NoSuchMessage, Memory}

-- a line that is no command and a text that is no call have the same number
abbrev pub number_of : LineFault → ℕ
number_of Unread = 90
number_of NotACall = 90
number_of Name = 92
number_of NoSuchMessage = 41
number_of Memory = 99

-- the number with which a command is refused: none where memory ran out
abbrev pub refusal_of : LineFault → Option ℕ
refusal_of Memory = None
refusal_of fault = Some (number_of fault)
