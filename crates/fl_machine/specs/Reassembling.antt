-- Calls that are put together again: what a reassembly has taken of the call under way, and what taking one fragment more
-- comes to.
use Rattle.std.specs.Prelude.{◌≡◌, ℕ, ◌≤◌, true, List, [], ◌∷◌, ◌++◌, length, take, slice_get, slice_set, Option, Some, None, Result, Ok, Err}
use Rattle.fl_base.specs.declared.fragment.Frag.{Frag}
use Rattle.fl_base.specs.Control.{bare}
use Rattle.fl_interface.specs.Interface.{TheInterface}
use Rattle.fl_value_data.specs.declared.value.PlanNo.{PlanNo}
use Rattle.fl_value_data.specs.Value.{TheCall, call_of}
use Rattle.fl_value_data.specs.Fits.{fits_of}
use Rattle.fl_wire.specs.Reading.{Means, IsPart}
use Rattle.fl_compile.specs.declared.program.Program.{Program}
use Rattle.fl_compile.specs.Programs.{TheProgram, program_of}
use Rattle.fl_machine.specs.Receiving.{IsRefused}
use Rattle.fl_machine.specs.Kept.{IsKeptIn, IsPartIn}
use Rattle.fl_machine.specs.declared.recv.PartialCall.{PartialCall}
use Rattle.fl_machine.specs.declared.reassembly.Taken.{Taken}
use Rattle.fl_machine.specs.declared.reassembly.Taken.TheVariants.{Part, Whole}
use Rattle.fl_machine.specs.declared.reassembly.TakeFault.{TakeFault}
use Rattle.fl_machine.specs.declared.reassembly.TakeFault.TheVariants.{Wire, Memory}

-- a program whose calls are put together, and the fragments of the call under way, without epochs and counts told
pub record TheReassembly : Type 0 where
  pub program : Program
  pub parts : List Frag

abbrev pub interface_in : TheReassembly → TheInterface
interface_in s = (program_of s.program).interface

abbrev pub plan_in : TheReassembly → PlanNo
plan_in s = (program_of s.program).plan

-- these fragments are a fitting call
pub record AreWhole (s : TheReassembly) (frags : List Frag) (c : TheCall) : Type 0 where
  pub fits : fits_of (interface_in s) c ≡ true
  pub means : Means (plan_in s) (interface_in s) frags c 0

-- with one fragment more of the call under way
abbrev pub with_part : TheReassembly → Frag → TheReassembly
with_part s f = record { program = s.program; parts = s.parts ++ bare f ∷ [] }

-- between two calls
abbrev pub without_parts : TheReassembly → TheReassembly
without_parts s = record { program = s.program; parts = [] }

-- a program that no fragment came to yet
abbrev pub new_reassembly : Program → TheReassembly
new_reassembly program = record { program = program; parts = [] }

-- what a fragment comes to: a call that it ends is told, and stays under way
abbrev pub Takes : TheReassembly → Frag → Result Taken TakeFault → TheReassembly → Type 0
Takes s f (Ok Part) t = IsPart (plan_in s) (interface_in s) (s.parts ++ f ∷ []) × (t ≡ with_part s f)
Takes s f (Ok (Whole call)) t = AreWhole s (s.parts ++ f ∷ []) (call_of call) × (t ≡ s)
Takes s f (Err (Wire fault)) t = IsRefused (plan_in s) (interface_in s) s.parts f fault × (t ≡ s)
Takes s f (Err Memory) t = ((c : TheCall) × AreWhole s (s.parts ++ f ∷ []) c) × (t ≡ s)

-- of the reassemblies at many places, the one at a place alone has changed, as the event says
pub record ChangesPlace (before : List TheReassembly) (place : ℕ) (Event : TheReassembly → TheReassembly → Type 0) (after : List TheReassembly) : Type 0 where
  pub was : TheReassembly
  pub was_there : slice_get before place ≡ Some was
  pub is : TheReassembly
  pub event : Event was is
  pub after_is : after ≡ slice_set before place is

-- ---- what is stored

-- the fragments of a call under way are the first of its room
abbrev pub parts_under : List Frag → Option PartialCall → List Frag
parts_under room None = []
parts_under room (Some b) = take b.fed room

-- where a call is under way, all that was fed of it is in its room
abbrev pub IsUnderWay : TheProgram → List Frag → Option PartialCall → Type 0
IsUnderWay p room None = Unit {0}
IsUnderWay p room (Some b) = (b.fed ≤ length room) × IsKeptIn p (take b.fed room) b

-- a program, and the fragments of a call under way that lie in a room
abbrev pub reassembly_on : Program → List Frag → Option PartialCall → TheReassembly
reassembly_on program room begun = record { program = program; parts = parts_under room begun }

-- with a fragment behind the parts of a call, if one is under way, the call goes on
pub record GoesOnFrom (p : TheProgram) (room : List Frag) (o : Option PartialCall) (f : Frag) (next : PartialCall)
    : Type 0 where
  pub under_way : IsUnderWay p room o
  pub part : IsPartIn p (parts_under room o ++ f ∷ [])
  pub kept : IsKeptIn p (parts_under room o ++ bare f ∷ []) next
