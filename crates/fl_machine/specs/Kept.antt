-- Working file: a call under way whose fragments are kept, and of whose numbers none is.
use Rattle.std.specs.Prelude.{◌≡◌, ℕ, ◌<◌, true, List, [], ◌∷◌, ◌++◌, length}
use Rattle.fl_base.specs.declared.fragment.Frag.{Frag}
use Rattle.fl_base.specs.Control.{bare}
use Rattle.fl_interface.specs.Interface.{TheInterface}
use Rattle.fl_value_data.specs.declared.value.PlanNo.{PlanNo}
use Rattle.fl_value_data.specs.Value.{TheCall}
use Rattle.fl_value_data.specs.Fits.{fits_of}
use Rattle.fl_wire.specs.Payload.{frags_of}
use Rattle.fl_wire.specs.Reading.{Means, IsPart}
use Rattle.fl_wire.specs.declared.fault.WireFault.{WireFault}
use Rattle.fl_compile.specs.Programs.{TheProgram}
use Rattle.fl_machine.specs.Receiving.{IsBegun, parts_of, HasFaultIn, IsRefusedIn}
use Rattle.fl_machine.specs.declared.recv.PartialCall.{PartialCall}

-- a call as if so many numbers had been counted
abbrev pub counting : ℕ → PartialCall → PartialCall
counting count b = record { msg = b.msg; fed = b.fed; intake = record b.intake { count = count } }

-- these are the fragments of a call under way, and no number of it is counted: with the numbers that were taken from them on a tape
-- it would stand behind them
pub record IsKept (plan : PlanNo) (i : TheInterface) (parts : List Frag) (b : PartialCall) : Type 0 where
  pub some : 0 < b.fed
  pub none : b.intake.count ≡ 0
  pub taken : List ℕ
  pub begun : IsBegun plan i taken (counting (length taken) b)
  pub parts_are : parts ≡ parts_of plan i taken (counting (length taken) b)

-- with a fragment more these are a fitting call's, all of them
pub record EndsCall (plan : PlanNo) (i : TheInterface) (parts : List Frag) (f : Frag) : Type 0 where
  pub call : TheCall
  pub fits : fits_of i call ≡ true
  pub means : Means plan i (parts ++ f ∷ []) call 0
  pub frags_are : parts ++ bare f ∷ [] ≡ frags_of plan i call

-- ---- the same, of a program

abbrev pub IsKeptIn : TheProgram → List Frag → PartialCall → Type 0
IsKeptIn p parts b = IsKept p.plan p.interface parts b

abbrev pub IsPartIn : TheProgram → List Frag → Type 0
IsPartIn p frags = IsPart p.plan p.interface frags

abbrev pub EndsCallIn : TheProgram → List Frag → Frag → Type 0
EndsCallIn p parts f = EndsCall p.plan p.interface parts f

-- what a fragment comes to behind the parts of a call, whichever they are: the call goes on
abbrev pub GoesOn : TheProgram → PartialCall → Frag → PartialCall → Type 0
GoesOn p b f d = (parts : List Frag) → IsKeptIn p parts b → IsPartIn p (parts ++ f ∷ []) × IsKeptIn p (parts ++ bare f ∷ []) d

-- it is whole
abbrev pub Ends : TheProgram → PartialCall → Frag → Type 0
Ends p b f = (parts : List Frag) → IsKeptIn p parts b → EndsCallIn p parts f

-- the fragment is at fault, or can't follow
abbrev pub IsFaulty : TheProgram → PartialCall → Frag → WireFault → Type 0
IsFaulty p b f fault = (parts : List Frag) → IsKeptIn p parts b → HasFaultIn p parts f fault

abbrev pub Refuses : TheProgram → PartialCall → Frag → WireFault → Type 0
Refuses p b f fault = (parts : List Frag) → IsKeptIn p parts b → IsRefusedIn p parts f fault
