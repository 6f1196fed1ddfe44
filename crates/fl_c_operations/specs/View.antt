-- An end as a handle holds it.
use Rattle.std.specs.Prelude.{◌≡◌, ℕ, true, Bool, List, [], ◌∷◌, take, slice_get, Option, Some, None}
use Rattle.std.specs.Option.{option_map}
use Rattle.fl_ring.specs.SharedSides.{TheSide}
use Rattle.fl_machine.specs.Reassembling.{TheReassembly}
use Rattle.fl_value_data.specs.Value.{call_of}
use Rattle.fl_compile.specs.declared.program.Program.{Program}
use Rattle.fl_compile.specs.Programs.{TheProgram, program_of}
use Rattle.fl_codec.specs.Codecs.{numbers_of}
use Rattle.fl_endpoint.specs.View.{TheEnd, fresh}
use Rattle.fl_endpoint.specs.Lent.{AddsPlace, IsPlaceOf}
use Rattle.fl_c_operations.specs.declared.unread.UnreadCall.{UnreadCall}
use Rattle.fl_c_operations.specs.declared.unread.UnreadCall.TheVariants.{Whole, Short, Taped}
use Rattle.fl_c_operations.specs.Calls.{numbers_of_call}

-- an end with its side, the place of the calls that come to it, and the numbers of the call that it handled last, until that is read
pub record TheHeld : Type 0 where
  pub end : TheEnd
  pub side : TheSide
  pub calls : List TheReassembly
  pub handled : Option (List ℕ)

abbrev pub program_of_held : TheHeld → TheProgram
program_of_held h = program_of h.end.program

-- the numbers of a call that was handled, as the code keeps it
abbrev pub numbers_unread : TheProgram → UnreadCall → List ℕ
numbers_unread x (Whole call) = numbers_of_call x (call_of call)
numbers_unread x (Short call) = call.msg.0 ∷ numbers_of call.numbers
numbers_unread x (Taped call) = call.msg.0 ∷ take call.count call.numbers

-- the same, where a call is unread
abbrev pub handled_by : Program → Option UnreadCall → Option (List ℕ)
handled_by program unread = option_map (numbers_unread (program_of program)) unread

-- an end of these parts
abbrev pub held_as : TheEnd → TheSide → List TheReassembly → Option (List ℕ) → TheHeld
held_as end side calls handled = record { end = end; side = side; calls = calls; handled = handled }

-- nothing was taken of a call that isn't whole
abbrev pub IsBetween : List TheReassembly → Type 0
IsBetween calls = (r : TheReassembly) → slice_get calls 0 ≡ Some r → r.parts ≡ []

-- the end's place is there; and where the code keeps that no call is under way, none is
pub record IsHeld (s : TheEnd) (calls : List TheReassembly) (between : Bool) : Type 0 where
  pub place : IsPlaceOf s calls 0
  pub idle : between ≡ true → IsBetween calls

-- a new end of a program over a side, off circuits
abbrev pub IsNewEnd : Program → TheSide → TheHeld → Type 0
IsNewEnd program side h = (h.end ≡ fresh program (Some 0)) × (h.side ≡ side) × AddsPlace h.end [] h.calls × (h.handled ≡ None)

-- nothing but the end has changed
abbrev pub ChangesEnd : TheHeld → TheHeld → Type 0
ChangesEnd h t = (t.side ≡ h.side) × (t.calls ≡ h.calls) × (t.handled ≡ h.handled)
