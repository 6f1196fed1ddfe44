-- What the lines of a cores file come to, so far: the cores and what is set up on them, and the jobs. What each line asks
-- is refused, or joins them. The refusals stand in the order in which they are answered.
use Rattle.std.specs.Prelude.{ℕ, ◌+◌, ◌-◌, ◌==◌, ◌||◌, ◌&&◌, nat_le, nat_lt, not, Bool, true, false, if◌then◌else◌}
use Rattle.std.specs.Prelude.{List, [], ◌∷◌, ◌++◌, length, slice_get, slice_index, Option, Some, None, bytes_eq}
use Rattle.std.specs.List.{count_by, list_all, list_any}
use Rattle.fl_base.specs.declared.identity.EndId.{EndId}
use Rattle.fl_base.specs.declared.identity.Side.{Side}
use Rattle.fl_base.specs.declared.identity.Side.TheVariants.{Client, Server}
use Rattle.fl_base.specs.Ends.{other}
use Rattle.fl_base.specs.Given.{given}
use Rattle.fl_base.specs.Numbered.{most_cores, most_bindings}
use Rattle.fl_interface.specs.Interface.{TheInterface}
use Rattle.fl_interface.specs.SameTypes.{same_arguments}
use Rattle.fl_value_data.specs.Fits.{fits_of}
use Rattle.fl_value_data.specs.Value.{TheCall}
use Rattle.fl_value_data.specs.declared.value.PlanNo.{PlanNo}
use Rattle.fl_model.specs.Binding.{all_differ, same_dispatcher}
use Rattle.fl_model.specs.Calls.{Planned}
use Rattle.fl_model.specs.Events.{DispatcherId, Kind, by_queues, by_ring, by_route, Event, add_interface, set_cores}
use Rattle.fl_model.specs.Events.{add_link, add_dispatcher}
use Rattle.fl_model.specs.Events as event
use Rattle.fl_model.specs.Given.{changed_at}
use Rattle.fl_model.specs.Making.{most_interfaces, most_dispatchers, most_services, is_ring_size}
use Rattle.fl_model.specs.Taking.{arguments_of, has_message}
use Rattle.fl_model.specs.Waits.{most_ends}
use Rattle.fl_script_lines.specs.Asked.{is_taken}
use Rattle.fl_script_lines.specs.Names.{place_of}
use Rattle.fl_cores_file.specs.Jobs.{TheCircuitRequest, Job, opens, replies, calls}
use Rattle.fl_cores_file.specs.Verdicts.{LineVerdict, stops, goes_on}

-- ---- what is set up

-- a link, by its two cores
pub record Joint : Type 0 where
  pub first : ℕ
  pub second : ℕ

-- who offers a service, and under which interface
pub record Offer : Type 0 where
  pub dispatcher : DispatcherId
  pub interface : ℕ

-- what the jobs at an end are so far: none, calls, or reply rules
pub data Use : Type 0 where
  free : Use
  makes_calls : Use
  has_rules : Use

-- a binding: what its line made it, and what the jobs at its ends are so far
pub record Bound : Type 0 where
  -- whether it is opened while the cores run; else it is set up before
  pub is_opened : Bool
  pub interface : ℕ
  pub at_client : Use
  pub at_server : Use

pub record Draft : Type 0 where
  -- a line other than an interface's was accepted, so the number of cores stands
  pub settled : Bool
  pub cores : ℕ
  pub interfaces : List Planned
  pub links : List Joint
  -- the core of each dispatcher
  pub dispatchers : List ℕ
  -- services by name, and who offers each
  pub services : List (List ℕ)
  pub offers : List Offer
  -- the dispatchers of the ends of bindings that are set up
  pub seats : List DispatcherId
  -- in the order of their lines
  pub bindings : List Bound
  -- what is asked for before the cores run, and their jobs; here an end names its binding by that one's place among the `bind` lines, from 0
  pub setup : List Event
  pub jobs : List Job

-- before the first line; until one says otherwise there is one core
abbrev pub nothing_yet : Draft
nothing_yet = record {
  settled = false;
  cores = 1;
  interfaces = [];
  links = [];
  dispatchers = [];
  services = [];
  offers = [];
  seats = [];
  bindings = [];
  setup = [];
  jobs = [];
}

-- one event more before the cores run
abbrev pub with_event : Event → Draft → Draft
with_event v d = record d { settled = true; setup = d.setup ++ v ∷ [] }

-- one job more
abbrev pub with_job : Job → Draft → Draft
with_job job d = record d { settled = true; jobs = d.jobs ++ job ∷ [] }

-- ---- interfaces, cores, links, dispatchers, services

abbrev pub has_interface : List ℕ → Draft → Bool
has_interface name d = list_any (λ (i : Planned). bytes_eq name i.interface.name) d.interfaces

-- E92: its name is taken; E94: there are 64; an interface doesn't settle the number of cores
abbrev pub adds_interface : TheInterface → PlanNo → Draft → LineVerdict Draft
adds_interface i plan d =
    if has_interface i.name d then stops 92
    else if nat_le most_interfaces (length d.interfaces) then stops 94
    else goes_on (record d {
      interfaces = d.interfaces ++ record { interface = i; plan = plan } ∷ [];
      setup = d.setup ++ add_interface i plan ∷ [];
    })

-- the number of cores is no event of the set-up: the cores are there from the start
abbrev pub sets_cores : ℕ → Draft → LineVerdict Draft
sets_cores n d =
    if d.settled then stops 93
    else if nat_lt n 1 || nat_lt most_cores n then stops 94
    else goes_on (record d { settled = true; cores = n })

abbrev pub is_core : ℕ → Draft → Bool
is_core core d = nat_lt core d.cores

-- the link is between these two cores, whichever comes first
abbrev pub joins : ℕ → ℕ → Joint → Bool
joins a b j = ((j.first == a) && (j.second == b)) || ((j.first == b) && (j.second == a))

abbrev pub has_link : ℕ → ℕ → Draft → Bool
has_link a b d = list_any (joins a b) d.links

-- E73: one is no core, both are one, or they have a link; E32: the slots are no power of two from 4 to 1,024
abbrev pub adds_link : ℕ → ℕ → ℕ → Draft → LineVerdict Draft
adds_link a b size d =
    if not (is_core a d && is_core b d) || (a == b) || has_link a b d then stops 73
    else if not (is_ring_size size) then stops 32
    else goes_on (with_event (add_link a b size) (record d { links = d.links ++ record { first = a; second = b } ∷ [] }))

-- E94: there are 256; E73: no such core
abbrev pub adds_dispatcher : ℕ → Draft → LineVerdict Draft
adds_dispatcher core d =
    if nat_le most_dispatchers (length d.dispatchers) then stops 94
    else if not (is_core core d) then stops 73
    else goes_on (with_event (add_dispatcher core) (record d { dispatchers = d.dispatchers ++ core ∷ [] }))

-- there is such a dispatcher: those of a core have the places from 0
abbrev pub is_dispatcher : DispatcherId → Draft → Bool
is_dispatcher x d = nat_lt x.place (count_by (λ core. core == x.core) d.dispatchers)

abbrev pub is_interface : ℕ → Draft → Bool
is_interface i d = nat_lt i (length d.interfaces)

-- one service more
abbrev pub with_offer : List ℕ → Offer → Draft → Draft
with_offer name offer d = record d { services = d.services ++ name ∷ []; offers = d.offers ++ offer ∷ [] }

-- E92: no such dispatcher or interface; E71: the service is there; E94: there are 256
abbrev pub exports : List ℕ → DispatcherId → ℕ → Draft → LineVerdict Draft
exports name dispatcher i d =
    if not (is_dispatcher dispatcher d && is_interface i d) then stops 92
    else if is_taken name d.services then stops 71
    else if nat_le most_services (length d.offers) then stops 94
    else
    let offer : Offer = record { dispatcher = dispatcher; interface = i } in
    goes_on (with_event (event.export name dispatcher i) (with_offer name offer d))

-- ---- bindings

-- what a binding is asked for, once its service is known: the dispatchers of both ends, the interface, and the service's name
pub record TheDraftRequest : Type 0 where
  pub client : DispatcherId
  pub server : DispatcherId
  pub interface : ℕ
  pub service : List ℕ

-- one binding more, without jobs at its ends
abbrev pub with_binding : Bool → ℕ → Draft → Draft
with_binding opened i d = record d {
  bindings = d.bindings ++ record { is_opened = opened; interface = i; at_client = free; at_server = free } ∷ [];
}

-- a binding more before the cores run
abbrev pub with_set_up : TheDraftRequest → Kind → Draft → Draft
with_set_up w kind d =
    with_event (event.bind w.client w.interface w.service kind)
    (with_binding false w.interface (record d { seats = d.seats ++ w.client ∷ w.server ∷ [] }))

-- a dispatcher has so many places left for ends of bindings that are set up
abbrev pub has_places : ℕ → DispatcherId → Draft → Bool
has_places n x d = nat_le (count_by (same_dispatcher x) d.seats + n) most_ends

-- both ends find a place, also where one dispatcher has both
abbrev pub has_both_places : TheDraftRequest → Draft → Bool
has_both_places w d =
    if same_dispatcher w.client w.server then has_places 2 w.client d
    else has_places 1 w.client d && has_places 1 w.server d

-- `local`: E73: on two cores; E32: not 1 to 1,024 slots; E54: a dispatcher has too few places left for its ends
abbrev pub binds_by_queues : TheDraftRequest → ℕ → Draft → LineVerdict Draft
binds_by_queues w slots d =
    if not (w.client.core == w.server.core) then stops 73
    else if nat_lt slots 1 || nat_lt 1024 slots then stops 32
    else if not (has_both_places w d) then stops 54
    else goes_on (with_set_up w (by_queues slots) d)

-- `ump`: E73: on one core; E32: the slots are no power of two from 4 to 1,024; E54: a dispatcher has no place left
abbrev pub binds_by_ring : TheDraftRequest → ℕ → Draft → LineVerdict Draft
binds_by_ring w size d =
    if w.client.core == w.server.core then stops 73
    else if not (is_ring_size size) then stops 32
    else if not (has_both_places w d) then stops 54
    else goes_on (with_set_up w (by_ring size) d)

-- 2 to 16 cores, the client's first, the service's last, and none twice; the first has a link to the second
abbrev pub is_route : TheDraftRequest → List ℕ → Draft → Bool
is_route w route d =
    nat_le 2 (length route) && nat_le (length route) 16 && list_all (λ core. is_core core d) route
    && (slice_index route 0 == w.client.core) && (slice_index route (length route - 1) == w.server.core)
    && all_differ route && has_link (slice_index route 0) (slice_index route 1) d

-- A circuit is opened by a job. Whether there are places, numbers and further links for it is found when it is done.
abbrev pub binds_by_route : TheDraftRequest → List ℕ → Draft → LineVerdict Draft
binds_by_route w route d =
    if not (is_route w route d) then stops 73
    else
    let request : TheCircuitRequest = record { client = w.client; interface = w.interface; service = w.service; route = route } in
    goes_on (with_job (opens request) (with_binding true w.interface d))

-- by the way in which the ends are to be joined
abbrev pub binds_by : TheDraftRequest → Kind → Draft → LineVerdict Draft
binds_by w (by_queues slots) d = binds_by_queues w slots d
binds_by w (by_ring size) d = binds_by_ring w size d
binds_by w (by_route route) d = binds_by_route w route d

-- the service of a name
abbrev pub offer_of : List ℕ → Draft → Option Offer
offer_of name d = given (place_of name d.services) None λ place. slice_get d.offers place

-- E92: no such dispatcher or interface; E94: there are 1,024; E70: no such service;
-- E72: the service has another interface
abbrev pub binds : DispatcherId → ℕ → List ℕ → Kind → Draft → LineVerdict Draft
binds client i name kind d =
    if not (is_dispatcher client d && is_interface i d) then stops 92
    else if nat_le most_bindings (length d.bindings) then stops 94
    else given (offer_of name d) (stops 70) λ offer.
    if not (offer.interface == i) then stops 72
    else binds_by (record { client = client; server = offer.dispatcher; interface = i; service = name }) kind d

-- ---- calls and reply rules

abbrev pub use_at : Side → Bound → Use
use_at Client b = b.at_client
use_at Server b = b.at_server

abbrev pub with_use : Side → Use → Bound → Bound
with_use Client u b = record b { at_client = u }
with_use Server u b = record b { at_server = u }

-- what the jobs at an end are from now on
abbrev pub change_use : EndId → Use → Draft → Draft
change_use e u d = record d { bindings = changed_at e.binding (with_use e.side u) d.bindings }

abbrev pub is_for_calls : Use → Bool
is_for_calls makes_calls = true
is_for_calls u = false

abbrev pub is_for_rules : Use → Bool
is_for_rules has_rules = true
is_for_rules u = false

-- the fault for which a call is refused, at an end of a binding of an interface
abbrev pub call_fault : Side → TheCall → Bound → Planned → Option ℕ
call_fault side c b i =
    if nat_le (length i.interface.messages) c.msg then Some 41
    else if not (fits_of i.interface c) then Some 42
    else if is_for_rules (use_at side b) then Some 44
    else None

-- an end with rules makes no calls of its own, and only one end of a binding has rules
abbrev pub rule_fault : Side → ℕ → ℕ → Bound → Planned → Option ℕ
rule_fault side msg answer b i =
    if not (has_message msg i && has_message answer i) then Some 41
    else if not (same_arguments (arguments_of msg i) (arguments_of answer i)) then Some 42
    else if is_for_calls (use_at side b) || is_for_rules (use_at (other side) b) then Some 44
    else None

-- the fault that is found at an end
abbrev pub fault_at : EndId → (Bound → Planned → Option ℕ) → Draft → Option ℕ
fault_at e finds d =
    given (slice_get d.bindings e.binding) (Some 92) λ b.
    given (slice_get d.interfaces b.interface) (Some 92) λ i. finds b i

-- one job more, where no fault is found: the end is from now on one that makes calls, or has rules
abbrev pub makes_call : EndId → TheCall → Draft → LineVerdict Draft
makes_call e c d =
    given (fault_at e (call_fault e.side c) d) (goes_on (with_job (calls e c) (change_use e makes_calls d))) stops

abbrev pub sets_rule : EndId → ℕ → ℕ → Draft → LineVerdict Draft
sets_rule e msg answer d =
    given (fault_at e (rule_fault e.side msg answer) d)
    (goes_on (with_job (replies e msg answer) (change_use e has_rules d))) stops

-- ---- what is asked

-- an event that no line of a cores file asks for is refused as a line that isn't read
abbrev pub takes : Event → Draft → LineVerdict Draft
takes (add_interface i plan) d = adds_interface i plan d
takes (set_cores n) d = sets_cores n d
takes (add_link a b size) d = adds_link a b size d
takes (add_dispatcher core) d = adds_dispatcher core d
takes (event.export name dispatcher i) d = exports name dispatcher i d
takes (event.bind client i name kind) d = binds client i name kind d
takes (event.call e c) d = makes_call e c d
takes (event.reply e msg answer) d = sets_rule e msg answer d
takes v d = stops 90
