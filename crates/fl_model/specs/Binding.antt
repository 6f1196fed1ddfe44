-- Bindings: two ends of an interface, joined by queues, by a ring or by a circuit. The refusals stand in the
-- order in which they are answered, and change nothing.
use Rattle.std.specs.Prelude.{ℕ, ◌+◌, ◌-◌, ◌==◌, ◌||◌, ◌&&◌, nat_le, nat_lt, not, Bool, true, false}
use Rattle.std.specs.Prelude.{if◌then◌else◌, List, [], ◌∷◌, ◌++◌, length, position, slice_get, slice_index}
use Rattle.std.specs.Prelude.{Option, Some, None, bytes_eq}
use Rattle.std.specs.List.{list_all}
use Rattle.fl_base.specs.declared.identity.EndId.{EndId}
use Rattle.fl_base.specs.declared.identity.Side.{Side}
use Rattle.fl_base.specs.declared.identity.Side.TheVariants.{Client, Server}
use Rattle.fl_base.specs.Given.{given}
use Rattle.fl_base.specs.Numbered.{most_bindings}
use Rattle.fl_lists.specs.ThreeLists.{is_in}
use Rattle.fl_hop.specs.Numbers.{next_own}
use Rattle.fl_model.specs.Events.{DispatcherId, Kind, by_queues, by_ring, by_route, done, refused}
use Rattle.fl_model.specs.Rings.{OpeningLabel, fresh_ring}
use Rattle.fl_model.specs.Ends.{Queue, fresh_queue, unbound_end}
use Rattle.fl_model.specs.Waits.{has_places}
use Rattle.fl_model.specs.Monitors.{Core, Service, link_to, can_say, opens}
use Rattle.fl_model.specs.State.{Back, local, over_ring, over_route, undecided, Route, State, StepOutcome}
use Rattle.fl_model.specs.State.{answers, core_of, dispatcher_of, change_core, seats, binds_end}
use Rattle.fl_model.specs.Making.{is_core, is_ring_size}

-- ---- a new binding

-- what a bind is asked for, once its names are known: the client's dispatcher, the interface by its place and
-- how many messages it has, the service and its interface reference
pub record BindByNames : Type 0 where
  pub client : DispatcherId
  pub interface : ℕ
  pub messages : ℕ
  pub service : Service
  pub iref : ℕ

abbrev pub end_id : ℕ → Side → EndId
end_id binding side = record { binding = binding; side = side }

-- the binding with two fresh ends, whose calls pass so many stations
abbrev pub with_new_binding : BindByNames → Back → ℕ → Option Queue → State → State
with_new_binding w back stations queue s = record s {
  bindings = s.bindings ++ record {
    interface = w.interface;
    back = back;
    client = unbound_end w.messages stations queue;
    server = unbound_end w.messages stations queue;
  } ∷ [];
}

-- the ends of binding n are seated and bound, the client's first
abbrev pub binds_both : ℕ → BindByNames → State → State
binds_both n w s =
    let seated = seats w.service.dispatcher (end_id n Server) (seats w.client (end_id n Client) s) in
    binds_end (end_id n Server) 0 (binds_end (end_id n Client) 0 seated)

-- there are places for both ends; a dispatcher that is bound to itself needs two
abbrev pub has_places_for : DispatcherId → ℕ → State → Bool
has_places_for d n s = given (dispatcher_of s d) false (has_places n)

abbrev pub same_dispatcher : DispatcherId → DispatcherId → Bool
same_dispatcher d e = (d.core == e.core) && (d.place == e.place)

abbrev pub has_both_places : BindByNames → State → Bool
has_both_places w s =
    if same_dispatcher w.client w.service.dispatcher then has_places_for w.client 2 s
    else has_places_for w.client 1 s && has_places_for w.service.dispatcher 1 s

-- ---- by queues, on one core

-- a queue of so many slots for each end, and both are bound at once; E73: the dispatchers are on two cores;
-- E32: not 1 to 1,024 slots; E54: no places for both ends
abbrev pub binds_by_queues : BindByNames → ℕ → State → StepOutcome
binds_by_queues w slots s =
    if not (w.client.core == w.service.dispatcher.core) then answers s (refused 73)
    else if nat_lt slots 1 || nat_lt 1024 slots then answers s (refused 32)
    else if not (has_both_places w s) then answers s (refused 54)
    else
    let fresh = with_new_binding w local 2 (Some (fresh_queue slots)) s in
    answers (binds_both (length s.bindings) w fresh) done

-- ---- by a ring, on two cores

-- one ring, on whose first side the client's end is, and both are bound at once; E73: the dispatchers are on
-- one core; E32: a ring can't have this size; E54: no places for both ends
abbrev pub binds_by_ring : BindByNames → ℕ → State → StepOutcome
binds_by_ring w size s =
    if w.client.core == w.service.dispatcher.core then answers s (refused 73)
    else if not (is_ring_size size) then answers s (refused 32)
    else if not (has_both_places w s) then answers s (refused 54)
    else
    let with_ring = record s { rings = s.rings ++ fresh_ring size ∷ [] } in
    let fresh = with_new_binding w (over_ring (length s.rings)) 2 None with_ring in
    answers (binds_both (length s.bindings) w fresh) done

-- ---- by a circuit: the client's end is seated, its entry made, and the opening put into the outbox

abbrev pub all_differ : List ℕ → Bool
all_differ [] = true
all_differ (x ∷ xs) = not (is_in x xs) && all_differ xs

-- 2 to 16 cores of the world, the client's first, the service's last, and none twice
abbrev pub is_route : List ℕ → ℕ → ℕ → State → Bool
is_route cores client service s =
    nat_le 2 (length cores) && nat_le (length cores) 16 && list_all (λ c. is_core c s) cores
    && (slice_index cores 0 == client) && (slice_index cores (length cores - 1) == service)
    && all_differ cores

-- an arrival queue has 16 slots
abbrev pub arrival_queue : Queue
arrival_queue = fresh_queue 16

-- binding n is joined by a circuit that begins with number c on link l of the client's core
abbrev pub with_circuit_begun : BindByNames → List ℕ → ℕ → ℕ → ℕ → State → State
with_circuit_begun w cores n l c s =
    let route : Route = record { service = w.iref; cores = cores; numbers = c ∷ []; verdict = undecided } in
    let opening : OpeningLabel = record { circuit = c; binding = n; service = w.iref; path = cores } in
    let fresh = with_new_binding w (over_route route) (length cores + 1) (Some arrival_queue) s in
    change_core w.client.core (opens l c opening) (seats w.client (end_id n Client) fresh)

-- the first core has a link to the second; the dispatcher has a place; the link has a number left, and its
-- outbox room
abbrev pub opens_on : BindByNames → List ℕ → Core → State → StepOutcome
opens_on w cores k s =
    given (link_to (slice_index cores 1) k) (answers s (refused 73)) λ l.
    if not (has_places_for w.client 1 s) then answers s (refused 54)
    else given (next_own k.circuits l) (answers s (refused 74)) λ c.
    if not (can_say l k) then answers s (refused 75)
    else answers (with_circuit_begun w cores (length s.bindings) l c s) done

-- E73: no such route; once it is done the opening waits in the outbox, and neither end is bound yet
abbrev pub binds_by_route : BindByNames → List ℕ → State → StepOutcome
binds_by_route w cores s =
    if not (is_route cores w.client.core w.service.dispatcher.core s) then answers s (refused 73)
    else given (core_of s w.client.core) (answers s (refused 73)) λ k. opens_on w cores k s

-- ---- the event

abbrev pub binds_by : BindByNames → Kind → State → StepOutcome
binds_by w (by_queues slots) s = binds_by_queues w slots s
binds_by w (by_ring size) s = binds_by_ring w size s
binds_by w (by_route cores) s = binds_by_route w cores s

-- where the name stands in the table of names
abbrev pub place_of_service : List ℕ → List Service → Option ℕ
place_of_service name services = position (λ (x : Service). bytes_eq name x.name) services

-- Interfaces are told apart by their places, since no two of a world have one name; so none differs from
-- itself in its plan, and the fault for that (76) doesn't come here.
abbrev pub binds : DispatcherId → ℕ → List ℕ → Kind → State → StepOutcome
binds client i name kind s =
    given (dispatcher_of s client) (answers s (refused 92)) λ d.
    given (slice_get s.interfaces i) (answers s (refused 92)) λ planned.
    if nat_le most_bindings (length s.bindings) then answers s (refused 94)
    else given (place_of_service name s.services) (answers s (refused 70)) λ place.
    given (slice_get s.services place) (answers s (refused 70)) λ service.
    if not (service.interface == i) then answers s (refused 72)
    else
    let messages = length planned.interface.messages in
    let w : BindByNames =
    record { client = client; interface = i; messages = messages; service = service; iref = place + 1 } in
    binds_by w kind s
