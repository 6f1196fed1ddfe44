-- What a line asks of the machine, told from the line at once, where it gives no name.
use Rattle.std.specs.Prelude.{◌≡◌, ◌⊎◌, ℕ, if◌then◌else◌, List, Option, None, Some, Result, Ok, Err}
use Rattle.fl_base.specs.declared.identity.EndId.{EndId}
use Rattle.fl_base.specs.Given.{given}
use Rattle.fl_model.specs.Events.{Event}
use Rattle.fl_model.specs.declared.event.DispatcherId.{DispatcherId}
use Rattle.fl_model.specs.declared.event.Event.{Event as RustEvent}
use Rattle.fl_model.specs.declared.event.Event.TheVariants as rust
use Rattle.fl_value_data.specs.declared.value.Call.{Call as RustCall}
use Rattle.fl_script_lines.specs.declared.fault.LineFault.{LineFault}
use Rattle.fl_script_lines.specs.declared.fault.LineFault.TheVariants.{Memory}
use Rattle.fl_script_lines.specs.Asked.{Asked, refuses, asks, Asks, CallAsks, AsksCall, AsksForMemory}
use Rattle.fl_script_lines.specs.Asked.{asks_end, asks_turn}
use Rattle.fl_script_lines.specs.Commands.{EndName, Command}
use Rattle.fl_model.specs.Views.{event_of}
use Rattle.fl_script_lines.specs.Faults.{number_of}
use Rattle.fl_script_lines.specs.Names.{Names}
use Rattle.fl_script_lines.specs.Reading.{one_end, two_numbers}
use Rattle.fl_script_lines.specs.Words.{first_word, behind_word, is_none}
use Rattle.fl_lex.specs.Words.{is_name}

-- a line asks this, by these names: what its command asks, or it is refused where it is none
abbrev pub LineAsks : Names → Option Command → Asked → Type 0
LineAsks n None asked = asked ≡ refuses 90
LineAsks n (Some c) asked = Asks n c asked

-- what a function returned tells what is asked, and that no name is given
abbrev pub TellsEvent : Names → Result RustEvent LineFault → Asked → Type 0
TellsEvent n (Ok event) asked = asks (event_of event) n ≡ asked
TellsEvent n (Err fault) asked = refuses (number_of fault) ≡ asked

-- memory may be wanting for the line: its command is a call, and asks an event
abbrev pub LineWants : Names → Option Command → Type 0
LineWants n None = ⊥
LineWants n (Some c) = AsksForMemory n c

-- the line asks something, and what a function returned tells it, or memory ran out for it
abbrev pub LineTells : Names → Option Command → Result RustEvent LineFault → Type 0
LineTells n c result =
    ((result ≡ Err Memory) × LineWants n c) ⊎ ((asked : Asked) × LineAsks n c asked × TellsEvent n result asked)

-- the same of a call's text
abbrev pub CallTells : Names → EndName → List ℕ → Result RustEvent LineFault → Type 0
CallTells n e text result =
    ((result ≡ Err Memory) × AsksCall n e text) ⊎ ((asked : Asked) × CallAsks n e text asked × TellsEvent n result asked)

-- ---- what a function returned in place of an event, as the event that is made of it

-- the fault stays as it is
abbrev pub told_as : {A : Type 0} → (A → RustEvent) → Result A LineFault → Result RustEvent LineFault
told_as f (Ok x) = Ok (f x)
told_as f (Err fault) = Err fault

abbrev pub a_call : EndId × RustCall → RustEvent
a_call p = rust.Call p.0 p.1

abbrev pub a_show : EndId → RustEvent
a_show e = rust.Show e

abbrev pub a_write : EndId → RustEvent
a_write e = rust.Write e

abbrev pub an_ack : EndId → RustEvent
an_ack e = rust.Ack e

abbrev pub a_turn : DispatcherId → RustEvent
a_turn d = rust.Turn d

abbrev pub a_forward : ℕ × ℕ → RustEvent
a_forward p = rust.Forward p.0 p.1

-- ---- what stands behind a line's first word: an end alone, a dispatcher alone, two cores alone

-- E90: anything else stands there, which is found before any name is looked for
abbrev pub asks_by_end : Names → (EndId → Event) → List ℕ → Asked
asks_by_end n f rest = given (one_end rest) (refuses 90) λ e. asks_end n f e

abbrev pub asks_by_dispatcher : Names → List ℕ → Asked
asks_by_dispatcher n rest =
    if is_name (first_word rest) then
    if is_none (first_word (behind_word rest)) then asks_turn n (first_word rest) else refuses 90
    else refuses 90

abbrev pub asks_by_cores : Names → (ℕ → ℕ → Event) → List ℕ → Asked
asks_by_cores n f rest = given (two_numbers rest) (refuses 90) λ p. asks (f p.0 p.1) n

-- the end of a line that has an end alone, or why there is none, whatever is asked of it
abbrev pub TellsEnd : Names → List ℕ → Result EndId LineFault → Type 0
TellsEnd n rest result = (f : EndId → Event) (make : EndId → RustEvent) → ((e : EndId) → event_of (make e) ≡ f e)
    → TellsEvent n (told_as make result) (asks_by_end n f rest)
