-- Why what comes on a link fails at a core that runs, by what the cut says: the machine has no such case, and
-- a core that runs has one for each fragment that no core should send.
use Rattle.std.specs.Prelude.{ℕ, ◌≡◌, ◌||◌, Bool, true, false, is_some, List, slice_get, Option, None, Err}
use Rattle.fl_base.specs.declared.identity.EndId.{EndId}
use Rattle.fl_base.specs.Given.{given}
use Rattle.fl_wire.specs.declared.fault.WireFault.TheVariants as wire
use Rattle.fl_hop.specs.declared.entry.Hop.{Hop}
use Rattle.fl_hop.specs.Openings.{IsWaiting}
use Rattle.fl_monitor.specs.declared.message.MonitorMessage.{MonitorMessage}
use Rattle.fl_monitor.specs.declared.message.MonitorMessage.TheVariants.{OpenCircuit, CircuitOpened}
use Rattle.fl_monitor.specs.declared.message.MonitorMessage.TheVariants.{CircuitRefused}
use Rattle.fl_monitor.specs.Fates.{Known, is_in_place}
use Rattle.fl_monitor.specs.Saying.{Says, Refuses}
use Rattle.fl_core.specs.declared.fault.LinkReceiveFault.TheVariants.{Wire, Misrouted}
use Rattle.fl_core.specs.View.{client_of, server_of, place_in, arrivals_by}
use Rattle.fl_core_run.specs.LogEntries.{LogEntry, arrived, heard, opened, called}
use Rattle.fl_core_run.specs.Steps.{lacks_to_hear, lacks_to_open, lacks_to_call}
use Rattle.fl_model.specs.Monitors.{Service}
use Rattle.fl_world_refines.specs.Cores.{registered_from}
use Rattle.fl_core_refines.specs.Cut.{CoreCut}

-- ---- memory

-- it was refused to an event; in whole turns it never is
abbrev pub lacks_memory : LogEntry → Bool
lacks_memory (heard n l frag answer) = lacks_to_hear answer
lacks_memory (opened name request answer) = lacks_to_open answer
lacks_memory (called name c answer) = lacks_to_call answer
lacks_memory log_entry = false

-- ---- a monitors' message out of its place

-- an end of the binding stands at the core
abbrev pub has_end : CoreCut → ℕ → Bool
has_end a binding =
    is_some (place_in a.places (client_of binding)) || is_some (place_in a.places (server_of binding))

-- by the machine's services, and the ends that stand here; whether a dispatcher has a place doesn't make an
-- opening out of place
abbrev pub known_in : List Service → CoreCut → ℕ → Known
known_in services a binding = record {
  names = registered_from 1 services;
  here = record { has_end = has_end a binding; has_place = true };
}

-- It came over link l. An opening has not the next of the neighbour's numbers there, or an end or an entry of
-- its binding stands here, or its route doesn't name this core just once, directly after the neighbour, or
-- ends here for a known service of another core. An answer is for no circuit that this core opened on the
-- link and that wasn't answered yet.
abbrev pub IsOutOfPlace : List Service → ℕ → CoreCut → MonitorMessage → Type 0
IsOutOfPlace services l a (OpenCircuit c binding service path) =
    is_in_place (known_in services a binding) a.core.circuits l c.0
    (record { binding = binding; service = service; path = path }) ≡ false
IsOutOfPlace services l a (CircuitOpened c) = (hop : Hop) → IsWaiting a.core.circuits l c.0 hop → ⊥
IsOutOfPlace services l a (CircuitRefused c reason) = (hop : Hop) → IsWaiting a.core.circuits l c.0 hop → ⊥

-- ---- a fragment for an end

-- the arrival queue of the end of a name, where that is at the core and on a circuit
abbrev pub arrives_at : CoreCut → EndId → Option ℕ
arrives_at a name =
    given (place_in a.places name) None λ place.
    given (slice_get a.ends place) None λ x. arrivals_by x.wired_end.wiring

-- ---- the reasons

-- what was to be heard says no monitors' message, and this is its first fault, or it says one that is out of
-- its place; what was to arrive was for an end that isn't here. (Why a look fails the link, `Finds` has.)
abbrev pub HasReason : List Service → LogEntry → CoreCut → Type 0
HasReason services (heard n l frag (Err (Wire wire.Memory))) a = ⊥
HasReason services (heard n l frag (Err (Wire fault))) a = Refuses frag fault
HasReason services (heard n l frag (Err Misrouted)) a = (m : MonitorMessage) × Says frag m
    × IsOutOfPlace services l.0 a m
HasReason services (heard n l frag (Err fault)) a = ⊥
HasReason services (arrived n l frag name (Err Misrouted)) a = arrives_at a name ≡ None
HasReason services log_entry a = Unit {0}
