-- How a line is read, row by row of the table: what the parts of the code tell. Of this file public contracts name `command_by`, where
-- the words behind a verb are read, and `line_with`. That it is what the grammar says is
-- proved; a reader of what scripts promise may skip it.
use Rattle.std.specs.Prelude.{ℕ, ◌-◌, if◌then◌else◌, List, length, take, drop}
use Rattle.std.specs.Prelude.{Option, Some, None, option_map, codes}
use Rattle.std.specs.Str.{bytes_eq}
use Rattle.fl_base.specs.declared.identity.Side.TheVariants.{Client, Server}
use Rattle.fl_base.specs.Given.{given}
use Rattle.fl_lex.specs.Words.{is_name}
use Rattle.fl_value_data.specs.declared.value.PlanNo.TheVariants.{One, Two}
use Rattle.fl_value.specs.CallText.{without_blanks}
use Rattle.fl_script_lines.specs.declared.command.Verb.{Verb}
use Rattle.fl_script_lines.specs.declared.command.Verb.TheVariants as verb
use Rattle.fl_script_lines.specs.Words.{first_word, behind_word, is_none, number_of}
use Rattle.fl_script_lines.specs.Words.{begins_comment, words_of, numbers_of}
use Rattle.fl_script_lines.specs.Commands.{EndName, BackEnd, local, ump, hop, Command, cores, link, disp, export}
use Rattle.fl_script_lines.specs.Commands.{bind, call, show, write, turn, ack, register, deregister, reply, mwrite}
use Rattle.fl_script_lines.specs.Commands.{forward, mack}
use Rattle.fl_script_lines.specs.Grammar.{Line, silent, heading, command, unread}

-- ---- pieces

-- all but a word's last two bytes, where `.c` or `.s` may stand
abbrev pub name_before_end : List ℕ → List ℕ
name_before_end word = take (length word - 2) word

-- the end that a word writes: a binding's name, and `.c` or `.s`
abbrev pub end_of : List ℕ → Option EndName
end_of word =
    if is_name (name_before_end word) then
    if bytes_eq (drop (length word - 2) word) (codes ".c") then Some (record { binding = name_before_end word; side = Client })
    else if bytes_eq (drop (length word - 2) word) (codes ".s") then Some (record { binding = name_before_end word; side = Server })
    else None
    else None

-- a name, and then what the words behind it are
abbrev pub name_then : {A : Type 0} → List ℕ → (List ℕ → List ℕ → Option A) → Option A
name_then line f = if is_name (first_word line) then f (first_word line) (behind_word line) else None

-- this, where no word is left
abbrev pub at_last : {A : Type 0} → List ℕ → A → Option A
at_last line x = if is_none (first_word line) then Some x else None

-- one number, two numbers, one end: none where anything else stands there, or more
abbrev pub one_number : List ℕ → Option ℕ
one_number line = given (number_of (first_word line)) None λ n. at_last (behind_word line) n

abbrev pub two_numbers : List ℕ → Option (ℕ × ℕ)
two_numbers line =
    given (number_of (first_word line)) None λ a. given (one_number (behind_word line)) None λ b. Some (a, b)

abbrev pub one_end : List ℕ → Option EndName
one_end line = given (end_of (first_word line)) None λ e. at_last (behind_word line) e

-- ---- rows, behind the first word

-- each of these is none where other words stand there
abbrev pub link_row : List ℕ → Option Command
link_row line =
    given (number_of (first_word line)) None λ a. given (two_numbers (behind_word line)) None λ p. Some (link a p.0 p.1)

abbrev pub disp_row : List ℕ → Option Command
disp_row line = name_then line λ d rest. given (one_number rest) None λ core. Some (disp d core)

abbrev pub export_row : List ℕ → Option Command
export_row line = name_then line λ s rest. name_then rest λ d more. name_then more λ i last. at_last last (export s d i)

-- behind `hop`: one core or more, of which only the form is looked at
abbrev pub route_row : List ℕ → Option BackEnd
route_row line =
    given (number_of (first_word line)) None λ first. option_map (hop first) (numbers_of (words_of (behind_word line)))

-- behind the four names of a `bind` line
abbrev pub back_end_row : List ℕ → Option BackEnd
back_end_row line =
    if bytes_eq (first_word line) (codes "local") then given (one_number (behind_word line)) None (λ n. Some (local n))
    else if bytes_eq (first_word line) (codes "ump") then given (one_number (behind_word line)) None (λ n. Some (ump n))
    else if bytes_eq (first_word line) (codes "hop") then route_row (behind_word line)
    else None

abbrev pub bind_row : List ℕ → Option Command
bind_row line =
    name_then line λ p a. name_then a λ d b. name_then b λ i c. name_then c λ s last.
    given (back_end_row last) None λ back. Some (bind p d i s back)

-- behind the end, and the blanks behind that, all is the text, which is taken as it stands: that it spells a call is no part of this
abbrev pub call_row : List ℕ → Option Command
call_row line = given (end_of (first_word line)) None λ e. Some (call e (without_blanks (behind_word line)))

abbrev pub turn_row : List ℕ → Option Command
turn_row line = name_then line λ d rest. at_last rest (turn d)

abbrev pub reply_row : List ℕ → Option Command
reply_row line =
    given (end_of (first_word line)) None λ e.
    name_then (behind_word line) λ m more. name_then more λ n last. at_last last (reply e m n)

-- ---- the first word

-- of a line that makes something, or registers an end
abbrev pub making_verb_of : List ℕ → Verb
making_verb_of word =
    if bytes_eq word (codes "bind") then verb.Bind
    else if bytes_eq word (codes "disp") then verb.Disp
    else if bytes_eq word (codes "export") then verb.Export
    else if bytes_eq word (codes "link") then verb.Link
    else if bytes_eq word (codes "cores") then verb.Cores
    else if bytes_eq word (codes "register") then verb.Register
    else if bytes_eq word (codes "deregister") then verb.Deregister
    else if bytes_eq word (codes "reply") then verb.Reply
    else if bytes_eq word (codes "idl") then verb.Idl
    else verb.Unknown

-- of any line; a word that is no command's, and not `idl`, is unknown
abbrev pub verb_of : List ℕ → Verb
verb_of word =
    if bytes_eq word (codes "call") then verb.Call
    else if bytes_eq word (codes "write") then verb.Write
    else if bytes_eq word (codes "turn") then verb.Turn
    else if bytes_eq word (codes "ack") then verb.Ack
    else if bytes_eq word (codes "forward") then verb.Forward
    else if bytes_eq word (codes "mack") then verb.Mack
    else if bytes_eq word (codes "mwrite") then verb.Mwrite
    else if bytes_eq word (codes "show") then verb.Show
    else making_verb_of word

-- the commands that have an end alone, or two numbers alone, behind their first word
abbrev pub with_end : (EndName → Command) → List ℕ → Option Command
with_end f rest = given (one_end rest) None λ e. Some (f e)

abbrev pub with_cores : (ℕ → ℕ → Command) → List ℕ → Option Command
with_cores f rest = given (two_numbers rest) None λ p. Some (f p.0 p.1)

-- the command of a verb and what stands behind it; behind `idl` and an unknown word there is none
abbrev pub command_by : Verb → List ℕ → Option Command
command_by verb.Cores rest = given (one_number rest) None λ n. Some (cores n)
command_by verb.Link rest = link_row rest
command_by verb.Disp rest = disp_row rest
command_by verb.Export rest = export_row rest
command_by verb.Bind rest = bind_row rest
command_by verb.Call rest = call_row rest
command_by verb.Show rest = with_end show rest
command_by verb.Write rest = with_end write rest
command_by verb.Turn rest = turn_row rest
command_by verb.Ack rest = with_end ack rest
command_by verb.Register rest = with_end register rest
command_by verb.Deregister rest = with_end deregister rest
command_by verb.Reply rest = reply_row rest
command_by verb.Mwrite rest = with_cores mwrite rest
command_by verb.Forward rest = with_cores forward rest
command_by verb.Mack rest = with_cores mack rest
command_by verb.Idl rest = None
command_by verb.Unknown rest = None

-- the line of a command that is read, or of none
abbrev pub line_with : Option Command → Line
line_with None = unread
line_with (Some c) = command c

-- behind `idl`
abbrev pub heading_by : List ℕ → Line
heading_by rest =
    if is_none (first_word rest) then heading Two
    else if bytes_eq (first_word rest) (codes "1") then (if is_none (first_word (behind_word rest)) then heading One else unread)
    else unread

-- the line of a verb and what stands behind it
abbrev pub line_by : Verb → List ℕ → Line
line_by verb.Idl rest = heading_by rest
line_by v rest = line_with (command_by v rest)

-- what a line is, without its end
abbrev pub read_line : List ℕ → Line
read_line line =
    if begins_comment (first_word line) then silent
    else line_by (verb_of (first_word line)) (behind_word line)
