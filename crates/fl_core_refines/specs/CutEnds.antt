-- An end as its own core knows it: the machine's end; and of the calls that the other end makes those that the fragments read as which this one took.
use Rattle.std.specs.Prelude.{ℕ, ◌≡◌, ◌≤◌, true, false, Bool, List, [], ◌∷◌, ◌++◌, length, Some, Result, Ok, Err}
use Rattle.fl_base.specs.declared.fragment.Frag.{Frag}
use Rattle.fl_wire.specs.declared.fault.WireFault.{WireFault}
use Rattle.fl_value_data.specs.Value.{TheCall}
use Rattle.fl_wire.specs.Reading.{Reads}
use Rattle.fl_machine.specs.Receiving.{IsRefused}
use Rattle.fl_endpoint.specs.declared.fault.EndFault.{EndFault}
use Rattle.fl_endpoint.specs.declared.fault.EndFault.TheVariants.{Spent, NotBound, UnknownMessage, Misfit, Failed, Memory}
use Rattle.fl_endpoint.specs.declared.answer.WriteAnswer.{WriteAnswer}
use Rattle.fl_endpoint.specs.declared.answer.WriteAnswer.TheVariants as write
use Rattle.fl_endpoint.specs.Faults.{fault_number}
use Rattle.fl_endpoint.specs.View.{TheEnd}
use Rattle.fl_core.specs.declared.wiring.WiredEnd.{WiredEnd}
use Rattle.fl_model.specs.Events.{accepted, full, written, refused}
use Rattle.fl_model.specs.Calls.{Planned}
use Rattle.fl_model.specs.Rings.{Label, next_of, there_is_room, no_room as none_free, spent as used_up}
use Rattle.fl_model.specs.Ends.{Direction, written_of, taken_of, is_busy, accepts, writes, End, is_bound, with_rule, Taken, whole, a_part, takes_one}
use Rattle.fl_model.specs.Ends.{comes_to, replies}
use Rattle.fl_model.specs.State.{State, answers, change_out}
use Rattle.fl_model.specs.Sending.{makes_call, next_fragment}
use Rattle.fl_model.specs.SoundLabels.{IsCounted}
use Rattle.fl_world_refines.specs.Ends.{planned_of, outgoing_of, circuit_of}
use Rattle.fl_world_refines.specs.EndLaws.{with_out, HasMore, are_messages, have_same_arguments}
use Rattle.fl_core_refines.specs.CutSides.{PutOutcome, goes_on, is_full, is_spent}

pub record EndCut : Type 0 where
  -- its name and its wiring
  pub wired_end : WiredEnd
  -- the interface of its binding, and the plan
  pub planned : Planned
  -- the machine's end; the queue that it takes from stands among the core's
  pub end : End
  -- the fragments that it took
  pub got : List Frag
  -- the calls that these read as, as far as they are whole, and how many fragments they are: the other end's, as far as they are known here
  pub came : Direction
  -- it was given a fragment that can't come next
  pub failed : Bool

pub record ShowsEnd (x : EndCut) (t : TheEnd) : Type 0 where
  pub program : planned_of t.program ≡ x.planned
  pub circuit : t.circuit ≡ x.end.circuit
  pub rules : t.rules ≡ x.end.rules
  -- what it is to send is told by the calls that the machine has it accept, and by how many fragments are written
  pub outgoing : t.outgoing ≡ outgoing_of (circuit_of x.end) x.planned x.end.out
  -- what it took reads as the calls that came, and a rest, which it holds
  pub reads : Reads x.planned.plan x.planned.interface x.got x.came.accepted t.parts
  pub taken : taken_of x.came ≡ length x.got
  pub failed : t.failed ≡ x.failed
  -- all calls but the last are written, as in each state that the machine reaches
  pub counted : IsCounted x.planned x.end.out
  pub stations : 1 ≤ length x.end.out.passed
  pub exits : 1 ≤ length x.came.passed

-- ---- a call, as the machine makes it of this end in any state

abbrev pub MachineCalls : EndCut → TheCall → State → Type 0
MachineCalls x c z = makes_call x.wired_end.name c x.planned x.end z ≡ answers (change_out x.wired_end.name (accepts c) z) accepted

abbrev pub MachineRefuses : EndCut → TheCall → ℕ → State → Type 0
MachineRefuses x c fault z = makes_call x.wired_end.name c x.planned x.end z ≡ answers z (refused fault)

-- it is accepted, or refused for the machine's reason; out of memory is none, nor that the end has failed
abbrev pub Calls : TheCall → Result (Unit {0}) EndFault → EndCut → EndCut → Type 0
Calls c (Ok done) x y = ((z : State) → MachineCalls x c z) × (y ≡ record x { end = with_out (accepts c) x.end })
Calls c (Err Memory) x y = y ≡ x
Calls c (Err Failed) x y = (x.failed ≡ true) × (y ≡ x)
Calls c (Err fault) x y = ((z : State) → MachineRefuses x c (fault_number fault) z) × (y ≡ x)

-- ---- a reply rule

abbrev pub SetsRule : ℕ → ℕ → Result (Unit {0}) EndFault → EndCut → EndCut → Type 0
SetsRule msg reply (Ok done) x y =
    (are_messages x.planned msg reply ≡ true) × (have_same_arguments x.planned msg reply ≡ true)
    × (y ≡ record x { end = with_rule msg reply x.end })
SetsRule msg reply (Err UnknownMessage) x y = (are_messages x.planned msg reply ≡ false) × (y ≡ x)
SetsRule msg reply (Err Misfit) x y =
    (are_messages x.planned msg reply ≡ true) × (have_same_arguments x.planned msg reply ≡ false) × (y ≡ x)
SetsRule msg reply (Err fault) x y = ⊥

-- ---- a write, by the room that the side has

-- the label of the next of all the end's fragments
abbrev pub next_label : EndCut → Label
next_label x = next_of x.wired_end.name (written_of x.end.out)

-- the next fragment is written, and this is answered
abbrev pub wrote_next : EndCut → EndCut
wrote_next x = record x { end = with_out (λ d. (writes x.planned d there_is_room).direction) x.end }

-- what becomes of the end, and of the side, to which the label of the next fragment goes
abbrev pub Writes : {P : Type 0} → (Label → PutOutcome → P → P → Type 0) → Result WriteAnswer EndFault → EndCut → P → EndCut → P → Type 0
Writes places (Ok (write.Written number count)) x p y q =
    HasMore x.planned x.end × ((writes x.planned x.end.out there_is_room).answer ≡ written number count)
    × ((f : Frag) × (next_fragment x.planned x.end ≡ Some f) × places (next_label x) (goes_on f) p q) × (y ≡ wrote_next x)
Writes places (Ok write.Full) x p y q =
    HasMore x.planned x.end × ((writes x.planned x.end.out none_free).answer ≡ full)
    × places (next_label x) is_full p q × (y ≡ x)
Writes places (Ok write.Nothing) x p y q = (is_bound x.end ≡ true) × (is_busy x.planned x.end.out ≡ false) × (q ≡ p) × (y ≡ x)
Writes places (Err Spent) x p y q =
    HasMore x.planned x.end × ((writes x.planned x.end.out used_up).answer ≡ refused (fault_number Spent))
    × places (next_label x) is_spent p q × (y ≡ x)
Writes places (Err NotBound) x p y q = (is_bound x.end ≡ false) × (q ≡ p) × (y ≡ x)
Writes places (Err Failed) x p y q = (x.failed ≡ true) × (q ≡ p) × (y ≡ x)
Writes places (Err fault) x p y q = ⊥

-- ---- a fragment is taken

-- what the other end is known to have accepted once a fragment has come with which this call is whole, or none is
abbrev pub known_by : Taken → Direction → Direction
known_by a_part d = d
known_by (whole c) d = accepts c d

-- the fragment is the next of the other end's calls: it comes to what the machine finds, and the end replies by rule as the machine's does
pub record Takes (f : Frag) (taken : Taken) (x y : EndCut) : Type 0 where
  pub found : comes_to x.planned (known_by taken x.came) ≡ taken
  pub after : y ≡ record x { end = replies x.planned taken x.end; got = x.got ++ f ∷ []; came = takes_one (known_by taken x.came) }

-- it can't be: the end has failed for good. The machine has no such case
pub record Fails (f : Frag) (fault : WireFault) (x y : EndCut) : Type 0 where
  pub rest : List Frag
  pub reads : Reads x.planned.plan x.planned.interface x.got x.came.accepted rest
  pub wrong : IsRefused x.planned.plan x.planned.interface rest f fault
  pub after : y ≡ record x { failed = true }
