-- One core, and what its monitor makes of a message that a neighbour's monitor said: a circuit's opening,
-- which is passed on, arrives or is refused, and the answer, which goes back by the entries.
use Rattle.std.specs.Prelude.{ℕ, ◌+◌, ◌-◌, ◌==◌, nat_lt, Bool, false, if◌then◌else◌, List, [], ◌∷◌, ◌++◌}
use Rattle.std.specs.Prelude.{length, position, slice_get, Option, None}
use Rattle.fl_base.specs.declared.identity.EndId.{EndId}
use Rattle.fl_base.specs.Given.{given}
use Rattle.fl_base.specs.Numbered.{link_id, circuit_id}
use Rattle.fl_hop.specs.declared.entry.HopTarget.{HopTarget}
use Rattle.fl_hop.specs.declared.entry.HopTarget.TheVariants.{Link as to_link, End as to_end}
use Rattle.fl_hop.specs.declared.entry.Hop.{Hop}
use Rattle.fl_hop.specs.Table.{TheCircuits, hop_at, link_of, without_entry}
use Rattle.fl_hop.specs.Numbers.{next_own, after_taking}
use Rattle.fl_hop.specs.Openings.{opened, passed_on, arrived, answered}
use Rattle.fl_model.specs.Given.{changed_at}
use Rattle.fl_model.specs.Events.{DispatcherId}
use Rattle.fl_model.specs.Rings.{OpeningLabel, MonitorLabel, open_circuit, circuit_opened, circuit_refused, RingEnd}
use Rattle.fl_model.specs.Waits.{Dispatcher, has_places}

-- ---- a core

-- a link to another core: this core's side of its ring, and what the monitor has still to say there, first to
-- last
pub record Link : Type 0 where
  pub ring : RingEnd
  pub outbox : List MonitorLabel

-- what a core has: dispatchers, and the table and the links of its monitor
pub record Core : Type 0 where
  pub dispatchers : List Dispatcher
  -- where the number of each circuit on each link leads, and how many were opened and taken on each
  pub circuits : TheCircuits
  -- the links, in the same order as there
  pub links : List Link

abbrev pub fresh_core : ℕ → Core
fresh_core core =
    record { dispatchers = []; circuits = record { core = core; links = []; hops = [] }; links = [] }

-- a service that was exported; its interface reference is its place in the table of names, from 1
pub record Service : Type 0 where
  pub name : List ℕ
  pub dispatcher : DispatcherId
  pub interface : ℕ

-- the service with this interface reference; 0 is no service's
abbrev pub service_of : List Service → ℕ → Option Service
service_of services iref = if nat_lt 0 iref then slice_get services (iref - 1) else None

-- the core's link to another core, by its place
abbrev pub link_to : ℕ → Core → Option ℕ
link_to neighbour k = link_of k.circuits neighbour

abbrev pub with_circuits : TheCircuits → Core → Core
with_circuits t k = record k { circuits = t }

-- ---- outboxes

-- an outbox holds 64 messages
abbrev pub outbox_room : Link → Bool
outbox_room link = nat_lt (length link.outbox) 64

-- the outbox of link l has room; never where there is no such link
abbrev pub can_say : ℕ → Core → Bool
can_say l k = given (slice_get k.links l) false outbox_room

-- the message waits behind those that are still to be said there
abbrev pub says_more : MonitorLabel → Link → Link
says_more m link = record link { outbox = link.outbox ++ m ∷ [] }

-- the message goes into the outbox of link l
abbrev pub with_said : ℕ → MonitorLabel → Core → Core
with_said l m k = record k { links = changed_at l (says_more m) k.links }

-- ---- what an opening comes to

pub data Fate : Type 0 where
  -- it goes on over this link, under this number there
  goes_on : ℕ → ℕ → Fate
  -- it ends here, at this dispatcher
  ends_at : DispatcherId → Fate
  -- it fails, with this fault
  fails : ℕ → Fate

-- the core behind this one on a route
abbrev pub next_on : List ℕ → ℕ → Option ℕ
next_on route core = given (position (λ c. c == core) route) None λ j. slice_get route (j + 1)

-- at the last core: there must be such a service, and a place for one more end at its dispatcher
abbrev pub arrival : List Service → ℕ → Core → Fate
arrival services iref k =
    given (service_of services iref) (fails 70) λ s.
    given (slice_get k.dispatchers s.dispatcher.place) (fails 70) λ d.
    if has_places 1 d then ends_at s.dispatcher else fails 54

-- elsewhere: there must be a link to the next core, and a number left on it
abbrev pub passage : ℕ → Core → Fate
passage next k =
    given (link_to next k) (fails 73) λ l.
    given (next_own k.circuits l) (fails 74) λ n.
    goes_on l n

-- at the last core of its route an opening arrives; from any core before that it has to go on
abbrev pub fate : List Service → OpeningLabel → Core → Fate
fate services o k =
    given (next_on o.path k.circuits.core) (arrival services o.service k) λ next.
    passage next k

-- ---- what a message comes to

pub data Heard : Type 0 where
  -- the outbox that is needed is full: the message is left, and nothing has changed
  no_outbox : Heard
  -- an answer for which no entry stands: no run meets one
  misrouted : Heard
  -- the opening of this binding has gone on, under this number
  opening_went_on : ℕ → ℕ → Heard
  -- the opening of this binding has made the server's end, at this dispatcher and on this circuit
  server_made : ℕ → DispatcherId → ℕ → Heard
  -- the opening of this binding was refused, for this fault
  opening_failed : ℕ → ℕ → Heard
  -- the answer to the opening of this binding has gone back one link further
  answer_went_on : ℕ → Heard
  -- the answer has come to this end, which is on this circuit now
  end_opened : EndId → ℕ → Heard
  -- the answer has come to this end as a refusal, for this fault
  end_refused : EndId → ℕ → Heard

-- the core after it, and what it came to
pub record Hearing : Type 0 where
  pub core : Core
  pub heard : Heard

-- where the outbox of a link has room: the core with this message there and these circuits, and else as it
-- was
abbrev pub saying : ℕ → MonitorLabel → TheCircuits → Heard → Core → Hearing
saying l m t heard k =
    if can_say l k
    then record { core = with_said l m (with_circuits t k); heard = heard }
    else record { core = k; heard = no_outbox }

-- an opening that came on link l
abbrev pub hears_opening : ℕ → OpeningLabel → Fate → Core → Hearing
hears_opening l o (goes_on m n) k =
    let t = passed_on k.circuits (link_id l) (circuit_id o.circuit) (link_id m) (circuit_id n) o.binding in
    saying m (open_circuit (record o { circuit = n })) t (opening_went_on o.binding n) k
hears_opening l o (ends_at d) k =
    let t = arrived k.circuits (link_id l) (circuit_id o.circuit) o.binding in
    saying l (circuit_opened o.circuit) t (server_made o.binding d o.circuit) k
hears_opening l o (fails fault) k =
    let t = after_taking k.circuits l in
    saying l (circuit_refused o.circuit fault) t (opening_failed o.binding fault) k

-- the answer that the circuit with number c on link l is open; the entry that stands there leads back
abbrev pub hears_opened : ℕ → ℕ → Hop → HopTarget → Core → Hearing
hears_opened l c hop (to_link m d) k =
    let t = answered k.circuits (link_id l) (circuit_id c) hop in
    saying m.0 (circuit_opened d.0) t (answer_went_on hop.binding) k
hears_opened l c hop (to_end e) k =
    let t = answered k.circuits (link_id l) (circuit_id c) hop in
    record { core = with_circuits t k; heard = end_opened e c }

-- the answer that it is refused: the entry is removed
abbrev pub hears_refused : ℕ → ℕ → ℕ → Hop → HopTarget → Core → Hearing
hears_refused l c fault hop (to_link m d) k =
    let t = without_entry k.circuits (to_link (link_id l) (circuit_id c)) hop.way in
    saying m.0 (circuit_refused d.0 fault) t (answer_went_on hop.binding) k
hears_refused l c fault hop (to_end e) k =
    let t = without_entry k.circuits (to_link (link_id l) (circuit_id c)) hop.way in
    record { core = with_circuits t k; heard = end_refused e fault }

-- an answer for which no entry stands changes nothing at the core
abbrev pub goes_misrouted : Core → Hearing
goes_misrouted k = record { core = k; heard = misrouted }

-- a core hears a message that came on its link l
abbrev pub hears : List Service → ℕ → MonitorLabel → Core → Hearing
hears services l (open_circuit o) k = hears_opening l o (fate services o k) k
hears services l (circuit_opened c) k =
    given (hop_at k.circuits l c) (goes_misrouted k) λ hop. hears_opened l c hop hop.way k
hears services l (circuit_refused c fault) k =
    given (hop_at k.circuits l c) (goes_misrouted k) λ hop. hears_refused l c fault hop hop.way k

-- ---- a circuit is opened by the core of its client

-- link l's next number is n: the client's entry is made, and the opening goes into the outbox
abbrev pub opens : ℕ → ℕ → OpeningLabel → Core → Core
opens l n o k =
    let t = opened k.circuits (link_id l) (circuit_id n) o.binding in
    with_said l (open_circuit o) (with_circuits t k)
