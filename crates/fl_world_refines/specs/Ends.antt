-- When an end is what is shown of the machine's: what it stores is told by the calls that the machine has it accept,
-- by how many of their fragments are written, and by how many of the other end's it has taken.
use Rattle.std.specs.Prelude.{ℕ, ◌≡◌, false, if◌then◌else◌, List, map, take, drop}
use Rattle.fl_base.specs.declared.fragment.Frag.{Frag}
use Rattle.fl_base.specs.declared.identity.Side.{Side}
use Rattle.fl_base.specs.Ends.{other}
use Rattle.fl_compile.specs.declared.program.Program.{Program}
use Rattle.fl_compile.specs.Programs.{program_of}
use Rattle.fl_wire.specs.Payload.{frags_on}
use Rattle.fl_endpoint.specs.View.{TheOutgoing, TheEnd, number_or_0}
use Rattle.fl_model.specs.Calls.{Planned, total, last_count, stream}
use Rattle.fl_model.specs.Ends.{Direction, written_of, taken_of, is_busy, handled, End}
use Rattle.fl_model.specs.State.{Binding, end_in}

-- the interface and the plan of a program
abbrev pub planned_of : Program → Planned
planned_of p = record { interface = (program_of p).interface; plan = (program_of p).plan }

-- what is to be sent of a direction's calls, on a circuit
abbrev pub outgoing_of : ℕ → Planned → Direction → TheOutgoing
outgoing_of circuit i d = record {
  unwritten = drop (written_of d) (stream circuit i d.accepted);
  count = if is_busy i d then last_count i d.accepted else 0;
  waiting = map (frags_on circuit i.plan i.interface) d.waiting;
}

-- of the fragments of a direction's calls that are taken, those of the call that isn't whole
abbrev pub parts_of : Planned → Direction → List Frag
parts_of i d = drop (total i (handled i d)) (take (taken_of d) (stream 0 i d.accepted))

-- the circuit that an end's fragments carry
abbrev pub circuit_of : End → ℕ
circuit_of x = number_or_0 x.circuit

-- of an end of this interface that takes the calls of this direction
pub record EndShows (i : Planned) (x : End) (peer : Direction) (t : TheEnd) : Type 0 where
  pub program : planned_of t.program ≡ i
  pub circuit : t.circuit ≡ x.circuit
  pub rules : t.rules ≡ x.rules
  pub outgoing : t.outgoing ≡ outgoing_of (circuit_of x) i x.out
  pub parts : t.parts ≡ parts_of i peer
  pub failed : t.failed ≡ false

-- an end of the machine, of this interface, and its peer's direction, whose calls it takes
pub record MachineEnd : Type 0 where
  pub interface : Planned
  pub end : End
  pub peer : Direction

-- that of a binding on this side
abbrev pub machine_end : Planned → Side → Binding → MachineEnd
machine_end i side b = record { interface = i; end = end_in side b; peer = (end_in (other side) b).out }

-- the end t is what is shown of it
abbrev pub ShowsMachineEnd : MachineEnd → TheEnd → Type 0
ShowsMachineEnd m t = EndShows m.interface m.end m.peer t
