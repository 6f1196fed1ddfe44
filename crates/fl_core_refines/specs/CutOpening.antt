-- What the machine makes of a cut when its core asks for a circuit: the client's end has its seat, the circuit's entry is made, and the opening is to be said.
use Rattle.std.specs.Prelude.{ℕ, ◌≡◌, ◌+◌, true, false, [], ◌∷◌, ◌++◌, length, map, slice_get, slice_set, Some, None, Result, Ok, Err}
use Rattle.fl_base.specs.declared.identity.CoreId.{CoreId}
use Rattle.fl_hop.specs.Numbers.{next_own}
use Rattle.fl_core.specs.declared.board_fault.BoardFault.TheVariants as board
use Rattle.fl_monitor.specs.declared.fault.MonitorFault.TheVariants.{OutboxFull, Memory}
use Rattle.fl_monitor.specs.declared.opening.Opening.{Opening as Asked}
use Rattle.fl_monitor.specs.Monitors.{RefusesOpening}
use Rattle.fl_core.specs.declared.fault.OpenFault.{OpenFault}
use Rattle.fl_core.specs.declared.fault.OpenFault.TheVariants as opening
use Rattle.fl_core.specs.declared.wiring.WiredEnd.{WiredEnd}
use Rattle.fl_core.specs.View.{client_of, slot_of, circuit_wired_end}
use Rattle.fl_core.specs.declared.core_job.OpenRequest.{OpenRequest}
use Rattle.fl_model.specs.Calls.{Planned}
use Rattle.fl_model.specs.Rings.{OpeningLabel}
use Rattle.fl_model.specs.Ends.{fresh_queue, fresh_direction, unbound_end, Seat}
use Rattle.fl_model.specs.Waits.{Dispatcher, has_places, with_end}
use Rattle.fl_model.specs.Monitors.{can_say, opens}
use Rattle.fl_core_refines.specs.CutEnds.{EndCut}
use Rattle.fl_core_refines.specs.Cut.{QueueCut, CoreCut}
use Rattle.fl_core_refines.specs.CutEvents.{with_waits}

-- ---- an end more

-- an arrival queue has 16 slots
abbrev pub new_arrivals : QueueCut
new_arrivals = record { queue = fresh_queue 16; frags = [] }

-- a new end on a circuit, whose calls pass so many stations: it isn't bound yet
abbrev pub new_end : WiredEnd → Planned → ℕ → Seat → EndCut
new_end wired_end i stations seat = record {
  wired_end = wired_end;
  planned = i;
  end = record (unbound_end (length i.interface.messages) stations None) { seat = Some seat };
  got = [];
  came = fresh_direction stations;
  failed = false;
}

-- the next channel of a dispatcher
abbrev pub next_seat : ℕ → ℕ → Dispatcher → Seat
next_seat core place waits = record { dispatcher = record { core = core; place = place }; channel = length waits.ends }

-- the cut with this end more, at this dispatcher, and its own arrival queue
abbrev pub with_new_end : ℕ → Dispatcher → EndCut → CoreCut → CoreCut
with_new_end place waits x a = record (with_waits a (slice_set a.core.dispatchers place (with_end x.wired_end.name waits))) {
  ends = a.ends ++ x ∷ [];
  places = slice_set a.places (slot_of x.wired_end.name) (Some (length a.ends));
  arrivals = a.arrivals ++ new_arrivals ∷ [];
}

-- ---- a circuit is asked for

-- the opening, as the machine has it
abbrev pub opening_with : ℕ → Asked → OpeningLabel
opening_with number o =
    record { circuit = number; binding = o.binding; service = o.service.0; path = map (λ (x : CoreId). x.0) o.path }

pub record OpensSo (request : OpenRequest) (e : ℕ) (a b : CoreCut) : Type 0 where
  -- of the client's program, of which the end has a copy
  pub planned : Planned
  pub planned_is : slice_get a.plans request.interface ≡ Some planned
  pub waits : Dispatcher
  pub waits_is : slice_get a.core.dispatchers request.dispatcher ≡ Some waits
  pub place : has_places 1 waits ≡ true
  pub number : ℕ
  pub number_is : next_own a.core.circuits request.link.0 ≡ Some number
  pub room : can_say request.link.0 a.core ≡ true
  pub end_is : e ≡ length a.ends
  pub opened : CoreCut
  pub opened_is : opened ≡ with_new_end request.dispatcher waits
      (new_end (circuit_wired_end (client_of request.opening.binding) request.link (length a.arrivals)) planned (length request.opening.path + 1)
      (next_seat a.core.circuits.core request.dispatcher waits)) a
  pub rest : b ≡ record opened { core = opens request.link.0 number (opening_with number request.opening) opened.core }

-- why it isn't asked for; out of memory is no reason of the machine
abbrev pub RefusesFor : OpenRequest → OpenFault → CoreCut → Type 0
RefusesFor request (opening.Board board.TooManyEnds) a =
    (waits : Dispatcher) × (slice_get a.core.dispatchers request.dispatcher ≡ Some waits) × (has_places 1 waits ≡ false)
RefusesFor request (opening.Board fault) a = Unit {0}
RefusesFor request (opening.Monitor OutboxFull) a = can_say request.link.0 a.core ≡ false
RefusesFor request (opening.Monitor Memory) a = Unit {0}
RefusesFor request (opening.Monitor fault) a = RefusesOpening a.core.circuits request.link.0 request.opening.binding fault

abbrev pub OpensOver : OpenRequest → Result ℕ OpenFault → CoreCut → CoreCut → Type 0
OpensOver request (Ok e) a b = OpensSo request e a b
OpensOver request (Err fault) a b = RefusesFor request fault a × (b ≡ a)
