-- Which fragment a label stands for: where the machine has a label, the world has this fragment, in a round's
-- epoch and telling a count.
use Rattle.std.specs.Prelude.{ℕ, ◌≡◌, List, [], map, slice_get, Option, Some}
use Rattle.fl_base.specs.declared.fragment.Frag.{Frag}
use Rattle.fl_base.specs.declared.identity.IRef.{IRef}
use Rattle.fl_base.specs.declared.identity.EndId.{EndId}
use Rattle.fl_base.specs.Control.{bare}
use Rattle.fl_base.specs.Given.{given}
use Rattle.fl_base.specs.Numbered.{core_id, circuit_id}
use Rattle.fl_value_data.specs.Value.{TheCall}
use Rattle.fl_value_data.specs.declared.value.PlanNo.TheVariants.{One}
use Rattle.fl_wire.specs.Payload.{payload_of, frag_on}
use Rattle.fl_ring.specs.Duo.{acknowledgement}
use Rattle.fl_monitor.specs.declared.message.MonitorMessage.{MonitorMessage}
use Rattle.fl_monitor.specs.declared.message.MonitorMessage.TheVariants.{OpenCircuit, CircuitOpened, CircuitRefused}
use Rattle.fl_monitor.specs.Intermon.{intermon, call_for, HasWidths}
use Rattle.fl_model.specs.Calls.{stream}
use Rattle.fl_model.specs.Rings.{MonitorLabel, open_circuit, circuit_opened, circuit_refused, Label, next_of, says, acknowledges}
use Rattle.fl_model.specs.State.{State, binding_of, interface_of, end_in, number_between}
use Rattle.fl_model.specs.Forwarding.{route_of}

-- ---- what monitors say

abbrev pub service_id : ℕ → IRef
service_id iref = record { 0 = iref }

-- what a monitor says, as its message
abbrev pub message_of : MonitorLabel → MonitorMessage
message_of (open_circuit o) = OpenCircuit (circuit_id o.circuit) o.binding (service_id o.service) (map core_id o.path)
message_of (circuit_opened c) = CircuitOpened (circuit_id c)
message_of (circuit_refused c fault) = CircuitRefused (circuit_id c) fault

-- the first fragment of a call between monitors, which is its only one
abbrev pub monitor_frag : TheCall → Frag
monitor_frag c = frag_on 0 c.msg (payload_of One intermon c) 0

-- the fragment of what a monitor says, with epoch 0 and nothing told
abbrev pub said_frag : MonitorLabel → Frag
said_frag m = monitor_frag (call_for (message_of m))

-- ---- labels

-- the fragments of all calls of each end, one after another, as they stand in one queue or on one ring
abbrev pub Streams : Type 0
Streams = EndId → List Frag

-- the fragment that a label stands for there, if the end's calls have so many
abbrev pub frag_of : Streams → Label → Option Frag
frag_of streams (next_of e k) = slice_get (streams e) k
frag_of streams (says m) = Some (said_frag m)
frag_of streams acknowledges = Some acknowledgement

-- what a monitor says has numbers of its message's widths
abbrev pub MayBeSaid : Label → Type 0
MayBeSaid (says m) = HasWidths (message_of m)
MayBeSaid label = Unit {0}

-- a fragment that stands in a queue or on a ring, without its epoch and the count that it tells
abbrev pub standing : Frag → Option Frag
standing f = Some (bare f)

-- one for one, the fragments are those that the labels stand for
abbrev pub AreOf : Streams → List Label → List Frag → Type 0
AreOf streams labels frags = map standing frags ≡ map (frag_of streams) labels

-- ---- the calls' fragments, place by place

-- those of an end's accepted calls, on this circuit; none of an end that isn't there
abbrev pub calls_on : ℕ → State → EndId → List Frag
calls_on circuit s e =
    given (binding_of s e) [] λ b.
    given (interface_of s b) [] λ i.
    stream circuit i (end_in e.side b).out.accepted

-- in queues and on rings of bindings calls have no circuit
abbrev pub calls_off_links : State → Streams
calls_off_links s e = calls_on 0 s e

-- on the link between two neighbouring cores, the number there of the circuit of the end's binding
abbrev pub calls_between : ℕ → ℕ → State → Streams
calls_between a b s e =
    given (binding_of s e) [] λ x.
    given (route_of x.back) [] λ route.
    given (number_between a b route) [] λ c.
    calls_on c s e
