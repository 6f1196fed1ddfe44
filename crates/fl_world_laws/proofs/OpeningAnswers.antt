-- A client hears that its opening was refused for a fault that hearing the opening gave: no other event answers so, and the message that a
-- forward hears is the one that is due for a binding whose opening was denied.
use Rattle.std.proofs.Common.{◌≡◌, refl, ◌∙◌, ap, subst, ℕ, zero, suc, ◌+◌, ◌||◌, ◌==◌, nat_le, nat_lt, not, ◌&&◌}
use Rattle.std.proofs.Common.{List, length, slice_get, slice_index}
use Rattle.std.proofs.Common.{Option, Some, None}
use Rattle.fl_base.specs.declared.identity.EndId.{EndId}
use Rattle.fl_base.specs.Numbered.{most_cores, most_bindings}
use Rattle.fl_hop.specs.Numbers.{next_own}
use Rattle.fl_hop.specs.Table.{hop_at}
use Rattle.fl_hop.specs.declared.entry.HopTarget.{HopTarget}
use Rattle.fl_hop.specs.declared.entry.HopTarget.TheVariants.{Link as to_link, End as to_end}
use Rattle.fl_interface.specs.Interface.{TheInterface}
use Rattle.fl_value_data.specs.Value.{TheCall}
use Rattle.fl_value_data.specs.Fits.{fits_of}
use Rattle.fl_value_data.specs.declared.value.PlanNo.{PlanNo}
use Rattle.fl_model.specs.Events.{DispatcherId, Kind, by_queues, by_ring, by_route, Event, add_interface, set_cores, add_link}
use Rattle.fl_model.specs.Events.{add_dispatcher, export, bind, call, show, write, turn, ack, register, deregister}
use Rattle.fl_model.specs.Events.{reply, monitor_write, forward, monitor_ack, Answer}
use Rattle.fl_model.specs.Events.{opening_refused}
use Rattle.fl_model.specs.Calls.{Planned}
use Rattle.fl_model.specs.Rings.{MonitorLabel, Label, next_of, says, acknowledges, RingEnd, Room}
use Rattle.fl_model.specs.Rings.{there_is_room, no_room, spent, for_data, for_acknowledgement, owes}
use Rattle.fl_model.specs.Ends.{Queue, queue_room, Direction, is_bound, is_busy, holds_back, Wrote, writes, writes_by, Taken, whole, a_part, comes_to}
use Rattle.fl_model.specs.Waits.{Dispatcher, Due, pending, polled, no_one, due}
use Rattle.fl_model.specs.Monitors.{Core, Service, Heard, no_outbox, misrouted, opening_went_on, server_made, opening_failed}
use Rattle.fl_model.specs.Monitors.{answer_went_on, end_opened, end_refused, hears, can_say, link_to}
use Rattle.fl_model.specs.State.{State, StepOutcome, Outlet, peer_queue, ring_side, Back}
use Rattle.fl_model.specs.State.{dispatcher_of, binding_of, interface_of, end_of, end_in, first_on, ring_makes_sure, ring_room}
use Rattle.fl_model.specs.State.{own_ring, outlet_by, link_between, core_of, number_between, station_at}
use Rattle.fl_model.specs.Making.{adds_interface, has_interface, sets_cores, adds_link, is_core, has_link, is_ring_size}
use Rattle.fl_model.specs.Making.{adds_dispatcher, count_dispatchers, exports, has_service, most_interfaces, most_dispatchers, most_services}
use Rattle.fl_model.specs.Binding.{BindByNames, has_both_places, has_places_for, binds_by_queues, binds_by_ring, is_route}
use Rattle.fl_model.specs.Binding.{opens_on, binds_by_route, binds_by, binds, place_of_service}
use Rattle.fl_model.specs.Sending.{calls, shows, next_fragment, writes_to, writes_fragment}
use Rattle.fl_model.specs.Taking.{Chosen, takes_label, taken_answer, gives_from_queue, gives_from_ring, gives_by, gives, finds, examines}
use Rattle.fl_model.specs.Taking.{chosen, turns_by, turns, acknowledges_by, acknowledges_on, acknowledges_end, registers_channel}
use Rattle.fl_model.specs.Taking.{deregisters_channel, sets_rule, has_channel_listed, has_message, arguments_of}
use Rattle.fl_interface.specs.SameTypes.{same_arguments}
use Rattle.fl_model.specs.Forwarding.{LinkEnd, link_end, monitor_writes_by, monitor_writes, monitor_acknowledges, FragAtHop}
use Rattle.fl_model.specs.Forwarding.{goes_on_by, arrives_by, follows_entry, route_of, forwards_call, forwards_label, forwards, follows}
use Rattle.fl_model.specs.Step.{does, settles, step}
use Rattle.fl_model.specs.Rings.{OpeningLabel, open_circuit, circuit_opened, circuit_refused}
use Rattle.fl_model.specs.Monitors.{Hearing, saying, Fate, goes_on, ends_at, fails, fate, hears_opening, hears_opened, hears_refused}
use Rattle.fl_hop.specs.Table.{TheCircuits}
use Rattle.fl_hop.specs.declared.entry.Hop.{Hop}
use Rattle.fl_model.specs.State.{OpeningVerdict, undecided, granted, denied, Route}
use Rattle.fl_model.specs.Standing.{Message, due_by, Routed}
use Rattle.fl_model.specs.Sound.{Sound}
use Rattle.fl_model.specs.Runs.{reached}
use Rattle.fl_model.specs.Worlds.{start_with}
use Rattle.fl_model_laws.proofs.Cases.{none_at_end}
use Rattle.fl_model_laws.proofs.Hearing.{link_there, is_under_way}
use Rattle.fl_model_laws.proofs.SoundSteps.{ever_sound}
use Rattle.fl_model_laws.proofs.Walk.{IsHere, run_keeps}
use Rattle.fl_model.specs.Rings.{RingLabel}
use Rattle.fl_model.specs.State.{Binding, Back}
use Rattle.fl_world_laws.specs.Refusing.{IsOpeningFault, OpeningsFailFor}
use Rattle.fl_world_laws.proofs.Denials.{WellVerdict, WellBack, AllWell, denials}
use Rattle.fl_model_laws.proofs.Cases.{either, by_given}

-- the answer tells of no refused opening but for such a fault
abbrev GoodAnswer : Answer → Type 0
GoodAnswer (opening_refused fault e) = IsOpeningFault fault
GoodAnswer answer = Unit {0}

abbrev Good : StepOutcome → Type 0
Good o = GoodAnswer o.answer

-- ---- making

interface_good : (i : TheInterface) (plan : PlanNo) (s : State) → Good (adds_interface i plan s)
interface_good i plan s =
    either Good (has_interface i.name s) _ _ (λ q. tt)
    (λ q. either Good (nat_le most_interfaces (length s.interfaces)) _ _ (λ r. tt) (λ r. tt))

cores_good : (n : ℕ) (s : State) → Good (sets_cores n s)
cores_good n s =
    either Good (not s.may_set_cores) _ _ (λ q. tt)
    (λ q. either Good (nat_lt n 1 || nat_lt most_cores n) _ _ (λ r. tt) (λ r. tt))

link_good : (a b size : ℕ) (s : State) → Good (adds_link a b size s)
link_good a b size s =
    either Good (not (is_core a s && is_core b s) || (a == b) || has_link a b s) _ _ (λ q. tt)
    (λ q. either Good (not (is_ring_size size)) _ _ (λ r. tt) (λ r. tt))

dispatcher_good : (core : ℕ) (s : State) → Good (adds_dispatcher core s)
dispatcher_good core s =
    either Good (nat_le most_dispatchers (count_dispatchers s)) _ _ (λ q. tt)
    (λ q. either Good (not (is_core core s)) _ _ (λ r. tt) (λ r. tt))

export_good : (name : List ℕ) (d : DispatcherId) (i : ℕ) (s : State) → Good (exports name d i s)
export_good name d i s =
    by_given Good (dispatcher_of s d) _ _ tt
    (λ x q. by_given Good (slice_get s.interfaces i) _ _ tt
    (λ y r. either Good (has_service name s) _ _ (λ t. tt)
    (λ t. either Good (nat_le most_services (length s.services)) _ _ (λ u. tt) (λ u. tt))))

-- ---- bindings

queues_good : (w : BindByNames) (slots : ℕ) (s : State) → Good (binds_by_queues w slots s)
queues_good w slots s =
    either Good (not (w.client.core == w.service.dispatcher.core)) _ _ (λ q. tt)
    (λ q. either Good (nat_lt slots 1 || nat_lt 1024 slots) _ _ (λ r. tt)
    (λ r. either Good (not (has_both_places w s)) _ _ (λ t. tt) (λ t. tt)))

ring_good : (w : BindByNames) (size : ℕ) (s : State) → Good (binds_by_ring w size s)
ring_good w size s =
    either Good (w.client.core == w.service.dispatcher.core) _ _ (λ q. tt)
    (λ q. either Good (not (is_ring_size size)) _ _ (λ r. tt)
    (λ r. either Good (not (has_both_places w s)) _ _ (λ t. tt) (λ t. tt)))

opening_good : (w : BindByNames) (cores : List ℕ) (k : Core) (s : State) → Good (opens_on w cores k s)
opening_good w cores k s =
    by_given Good (link_to (slice_index cores 1) k) _ _ tt
    (λ l q. either Good (not (has_places_for w.client 1 s)) _ _ (λ r. tt)
    (λ r. by_given Good (next_own k.circuits l) _ _ tt
    (λ c t. either Good (not (can_say l k)) _ _ (λ u. tt) (λ u. tt))))

route_good : (w : BindByNames) (cores : List ℕ) (s : State) → Good (binds_by_route w cores s)
route_good w cores s =
    either Good (not (is_route cores w.client.core w.service.dispatcher.core s)) _ _ (λ q. tt)
    (λ q. by_given Good (core_of s w.client.core) _ _ tt (λ k r. opening_good w cores k s))

kind_good : (w : BindByNames) (kind : Kind) (s : State) → Good (binds_by w kind s)
kind_good w (by_queues slots) s = queues_good w slots s
kind_good w (by_ring size) s = ring_good w size s
kind_good w (by_route cores) s = route_good w cores s

bind_good : (client : DispatcherId) (i : ℕ) (name : List ℕ) (kind : Kind) (s : State) → Good (binds client i name kind s)
bind_good client i name kind s =
    by_given Good (dispatcher_of s client) _ _ tt
    (λ d q. by_given Good (slice_get s.interfaces i) _ _ tt
    (λ planned r. either Good (nat_le most_bindings (length s.bindings)) _ _ (λ t. tt)
    (λ t. by_given Good (place_of_service name s.services) _ _ tt
    (λ place u. by_given Good (slice_get s.services place) _ _ tt
    (λ service v. either Good (not (service.interface == i)) _ _ (λ x. tt)
    (λ x. kind_good (record { client = client; interface = i; messages = length planned.interface.messages; service = service; iref = place + 1 })
    kind s))))))

-- ---- sending

call_good : (e : EndId) (c : TheCall) (s : State) → Good (calls e c s)
call_good e c s =
    by_given Good (binding_of s e) _ _ tt
    (λ b q. by_given Good (interface_of s b) _ _ tt
    (λ i r. either Good (nat_le (length i.interface.messages) c.msg) _ _ (λ t. tt)
    (λ t. either Good (not (fits_of i.interface c)) _ _ (λ u. tt)
    (λ u. either Good (not (is_bound (end_in e.side b))) _ _ (λ v. tt)
    (λ v. either Good (is_busy i (end_in e.side b).out) _ _ (λ x. tt) (λ x. tt))))))

show_good : (e : EndId) (s : State) → Good (shows e s)
show_good e s =
    by_given Good (binding_of s e) _ _ tt
    (λ b q. by_given Good (interface_of s b) _ _ tt
    (λ i r. either Good (not (is_bound (end_in e.side b))) _ _ (λ t. tt)
    (λ t. by_given Good (next_fragment i (end_in e.side b)) _ _ tt
    (λ f u. by_given Good (outlet_by s e.side b.back) _ _ tt (λ o v. tt)))))

-- on a spent ring a write has a fault of its own; else it is no refusal
by_room_good : (i : Planned) (d : Direction) (r : Room) → GoodAnswer (writes_by i d r).answer
by_room_good i d there_is_room = tt
by_room_good i d no_room = tt
by_room_good i d spent = tt

room_good : (i : Planned) (d : Direction) (r : Room) → GoodAnswer (writes i d r).answer
room_good i d r = either (λ (w : Wrote). GoodAnswer w.answer) (is_busy i d) _ _ (λ q. by_room_good i d r) (λ q. tt)

outlet_good : (e : EndId) (i : Planned) (d : Direction) (o : Outlet) (r : Room) (s : State) → Good (writes_to e i d o r s)
outlet_good e i d peer_queue there_is_room s = room_good i d there_is_room
outlet_good e i d peer_queue no_room s = room_good i d no_room
outlet_good e i d peer_queue spent s = room_good i d spent
outlet_good e i d (ring_side at) there_is_room s = room_good i d there_is_room
outlet_good e i d (ring_side at) no_room s = room_good i d no_room
outlet_good e i d (ring_side at) spent s = room_good i d spent

write_good : (e : EndId) (s : State) → Good (writes_fragment e s)
write_good e s =
    by_given Good (binding_of s e) _ _ tt
    (λ b q. by_given Good (interface_of s b) _ _ tt
    (λ i r. either Good (not (is_bound (end_in e.side b))) _ _ (λ t. tt)
    (λ t. either Good (not (is_busy i (end_in e.side b).out)) _ _ (λ u. tt)
    (λ u. by_given Good (outlet_by s e.side b.back) _ _ tt (λ o v. outlet_good e i (end_in e.side b).out o _ _)))))

-- ---- a turn: only an unknown dispatcher is refused

taken_good : (e : EndId) (x : Taken) → GoodAnswer (taken_answer e x)
taken_good e (whole c) = tt
taken_good e a_part = tt

label_good : (e : EndId) (i : Planned) (l : Label) (t : State) → Good (takes_label e i l t)
label_good e i (next_of sender k) t =
    by_given Good (end_of t sender) _ _ tt (λ y q. taken_good e (comes_to i y.out))
label_good e i (says m) t = tt
label_good e i acknowledges t = tt

queue_given_good : (t : Chosen) (i : Planned) (q : Queue) (s : State) → Good (gives_from_queue t i q s)
queue_given_good t i q s =
    by_given Good (slice_get q.labels 0) _ _ tt (λ l r. label_good t.end i l _)

ring_given_good : (t : Chosen) (i : Planned) (at : RingEnd) (s : State) → Good (gives_from_ring t i at s)
ring_given_good t i at s =
    by_given Good (first_on at s) _ _ tt (λ first r. label_good t.end i first.label _)

gives_by_good : (t : Chosen) (i : Planned) (o : Option Queue) (back : Back) (s : State) → Good (gives_by t i o back s)
gives_by_good t i (Some q) back s = queue_given_good t i q s
gives_by_good t i None back s =
    by_given Good (own_ring t.end.side back) _ _ tt (λ at q. ring_given_good t i at s)

gives_good : (t : Chosen) (s : State) → Good (gives t s)
gives_good t s =
    by_given Good (binding_of s t.end) _ _ tt
    (λ b q. by_given Good (interface_of s b) _ _ tt
    (λ i r. either Good (holds_back (end_in t.end.side b)) _ _ (λ u. tt)
    (λ u. gives_by_good t i (end_in t.end.side b).queue b.back s)))

finds_good : (t : Chosen) (at : RingEnd) (l : Label) (x : State) → Good (finds t at l x)
finds_good t at (next_of e k) x = tt
finds_good t at (says m) x = tt
finds_good t at acknowledges x = tt

examines_good : (t : Chosen) (s : State) → Good (examines t s)
examines_good t s =
    by_given Good (binding_of s t.end) _ _ tt
    (λ b q. by_given Good (own_ring t.end.side b.back) _ _ tt
    (λ at r. by_given Good (first_on at s) _ _ tt (λ first u. finds_good t at first.label _)))

due_good : (d : DispatcherId) (x : Dispatcher) (o : Due) (s : State) → Good (turns_by d x o s)
due_good d x (pending c) s = by_given Good (slice_get x.ends c) _ _ tt (λ e q. gives_good (chosen d c e) s)
due_good d x (polled c) s = by_given Good (slice_get x.ends c) _ _ tt (λ e q. examines_good (chosen d c e) s)
due_good d x no_one s = tt

turn_good : (d : DispatcherId) (s : State) → Good (turns d s)
turn_good d s = by_given Good (dispatcher_of s d) _ _ tt (λ x q. due_good d x (due x) s)

-- ---- what an end says of itself

told_good : (at : RingEnd) (r : Room) (t : State) → Good (acknowledges_by at r t)
told_good at there_is_room t = tt
told_good at no_room t = tt
told_good at spent t = tt

acknowledged_good : (at : RingEnd) (s : State) → Good (acknowledges_on at s)
acknowledged_good at s =
    by_given Good (slice_get s.rings at.ring) _ _ tt
    (λ r q. either Good (not (owes at.side r)) _ _ (λ t. tt)
    (λ t. told_good at (ring_room for_acknowledgement at (ring_makes_sure for_acknowledgement at s)) _))

acknowledge_good : (e : EndId) (s : State) → Good (acknowledges_end e s)
acknowledge_good e s =
    by_given Good (binding_of s e) _ _ tt
    (λ b q. either Good (not (is_bound (end_in e.side b))) _ _ (λ t. tt)
    (λ t. by_given Good (own_ring e.side b.back) _ _ tt (λ at u. acknowledged_good at s)))

register_good : (e : EndId) (s : State) → Good (registers_channel e s)
register_good e s =
    by_given Good (end_of s e) _ _ tt
    (λ x q. either Good (not (is_bound x)) _ _ (λ t. tt)
    (λ t. either Good (has_channel_listed x s) _ _ (λ u. tt) (λ u. tt)))

deregister_good : (e : EndId) (s : State) → Good (deregisters_channel e s)
deregister_good e s =
    by_given Good (end_of s e) _ _ tt
    (λ x q. either Good (not (is_bound x)) _ _ (λ t. tt)
    (λ t. either Good (not (has_channel_listed x s)) _ _ (λ u. tt) (λ u. tt)))

rule_good : (e : EndId) (msg answer : ℕ) (s : State) → Good (sets_rule e msg answer s)
rule_good e msg answer s =
    by_given Good (binding_of s e) _ _ tt
    (λ b q. by_given Good (interface_of s b) _ _ tt
    (λ i r. either Good (not (has_message msg i && has_message answer i)) _ _ (λ t. tt)
    (λ t. either Good (not (same_arguments (arguments_of msg i) (arguments_of answer i))) _ _ (λ u. tt) (λ u. tt))))

-- ---- links: only a link that isn't there is refused

said_by_good : (here : LinkEnd) (m : MonitorLabel) (r : Room) (t : State) → Good (monitor_writes_by here m r t)
said_by_good here m there_is_room t = tt
said_by_good here m no_room t = tt
said_by_good here m spent t = tt

monitor_good : (core neighbour : ℕ) (s : State) → Good (monitor_writes core neighbour s)
monitor_good core neighbour s =
    by_given Good (link_end core neighbour s) _ _ tt
    (λ here q. by_given Good (link_between s core neighbour) _ _ tt
    (λ link r. by_given Good (slice_get link.outbox 0) _ _ tt
    (λ m t. said_by_good here m (ring_room for_data here.ring (ring_makes_sure for_data here.ring s)) _)))

monitor_acknowledge_good : (core neighbour : ℕ) (s : State) → Good (monitor_acknowledges core neighbour s)
monitor_acknowledge_good core neighbour s =
    by_given Good (link_between s core neighbour) _ _ tt (λ link q. acknowledged_good link.ring s)

-- a message that says that an opening is refused says it for such a fault
abbrev GoodMessage : MonitorLabel → Type 0
GoodMessage (circuit_refused c fault) = IsOpeningFault fault
GoodMessage m = Unit {0}

abbrev GoodLabel : Label → Type 0
GoodLabel (says m) = GoodMessage m
GoodLabel label = Unit {0}

abbrev GoodHeard : Heard → Type 0
GoodHeard (end_refused e fault) = IsOpeningFault fault
GoodHeard heard = Unit {0}

saying_good : (l : ℕ) (m : MonitorLabel) (t : TheCircuits) (heard : Heard) (k : Core) → GoodHeard heard → GoodHeard (saying l m t heard k).heard
saying_good l m t heard k h = either (λ (x : Hearing). GoodHeard x.heard) (can_say l k) _ _ (λ q. h) (λ q. tt)

opening_heard_good : (l : ℕ) (o : OpeningLabel) (f : Fate) (k : Core) → GoodHeard (hears_opening l o f k).heard
opening_heard_good l o (goes_on m n) k = saying_good m _ _ (opening_went_on o.binding n) k tt
opening_heard_good l o (ends_at d) k = saying_good l _ _ (server_made o.binding d o.circuit) k tt
opening_heard_good l o (fails fault) k = saying_good l _ _ (opening_failed o.binding fault) k tt

opened_heard_good : (l c : ℕ) (hop : Hop) (way : HopTarget) (k : Core) → GoodHeard (hears_opened l c hop way k).heard
opened_heard_good l c hop (to_link m d) k = saying_good m.0 _ _ (answer_went_on hop.binding) k tt
opened_heard_good l c hop (to_end e) k = tt

refused_heard_good : (l c fault : ℕ) (hop : Hop) (way : HopTarget) (k : Core) → IsOpeningFault fault → GoodHeard (hears_refused l c fault hop way k).heard
refused_heard_good l c fault hop (to_link m d) k h = saying_good m.0 _ _ (answer_went_on hop.binding) k tt
refused_heard_good l c fault hop (to_end e) k h = h

hears_good : (services : List Service) (l : ℕ) (m : MonitorLabel) (k : Core) → GoodMessage m → GoodHeard (hears services l m k).heard
hears_good services l (open_circuit o) k h = opening_heard_good l o (fate services o k) k
hears_good services l (circuit_opened c) k h =
    by_given (λ (x : Hearing). GoodHeard x.heard) (hop_at k.circuits l c) _ _ tt (λ hop q. opened_heard_good l c hop hop.way k)
hears_good services l (circuit_refused c fault) k h =
    by_given (λ (x : Hearing). GoodHeard x.heard) (hop_at k.circuits l c) _ _ tt (λ hop q. refused_heard_good l c fault hop hop.way k h)

heard_good : (x : Heard) (t : State) → GoodHeard x → Good (follows x t)
heard_good no_outbox t h = tt
heard_good misrouted t h = tt
heard_good (opening_went_on b c) t h = tt
heard_good (server_made b d c) t h = tt
heard_good (opening_failed b fault) t h = tt
heard_good (answer_went_on b) t h = tt
heard_good (end_opened e c) t h = tt
heard_good (end_refused e fault) t h = h

over_good : (here : LinkEnd) (p : FragAtHop) (on : RingEnd) (r : Room) (t : State) → Good (goes_on_by here p on r t)
over_good here p on there_is_room t = tt
over_good here p on no_room t = tt
over_good here p on spent t = tt

into_good : (here : LinkEnd) (p : FragAtHop) (to : EndId) (r : Room) (t : State) → Good (arrives_by here p to r t)
into_good here p to there_is_room t = tt
into_good here p to no_room t = tt
into_good here p to spent t = tt

entry_good : (here : LinkEnd) (p : FragAtHop) (k : Core) (way : HopTarget) (t : State) → Good (follows_entry here p k way t)
entry_good here p k (to_link l c) t =
    by_given Good (slice_get k.links l.0) _ _ tt
    (λ link q. over_good here p link.ring (ring_room for_data link.ring (ring_makes_sure for_data link.ring t)) _)
entry_good here p k (to_end to) t =
    by_given Good (end_of t to) _ _ tt
    (λ x q. by_given Good x.queue _ _ tt (λ y r. into_good here p to (queue_room y) t))

passing_good : (here : LinkEnd) (e : EndId) (number : ℕ) (t : State) → Good (forwards_call here e number t)
passing_good here e number t =
    by_given Good (binding_of t e) _ _ tt
    (λ b q. by_given Good (route_of b.back) _ _ tt
    (λ route r. by_given Good (station_at e.side here.core route) _ _ tt
    (λ station u. by_given Good (core_of t here.core) _ _ tt
    (λ k v. by_given Good (number_between here.neighbour here.core route) _ _ tt
    (λ c w. by_given Good (hop_at k.circuits here.link c) _ _ tt
    (λ hop x. entry_good here (record { end = e; number = number; station = station }) k hop.way t))))))

forward_label_good : (here : LinkEnd) (l : Label) (t : State) → GoodLabel l → Good (forwards_label here l t)
forward_label_good here (next_of e number) t h = passing_good here e number t
forward_label_good here (says m) t h =
    by_given Good (core_of t here.core) _ _ tt
    (λ k q. heard_good (hears t.services here.link m k).heard _ (hears_good t.services here.link m k h))
forward_label_good here acknowledges t h = tt

-- ---- the message that is due

not_open : (o : OpeningLabel) (c fault : ℕ) → open_circuit o ≡ circuit_refused c fault → ⊥
not_open o c fault h = absurd (cc)

not_opened : (a c fault : ℕ) → circuit_opened a ≡ circuit_refused c fault → ⊥
not_opened a c fault h = absurd (cc)

same_fault : (a f c fault : ℕ) → circuit_refused a f ≡ circuit_refused c fault → f ≡ fault
same_fault a f c fault h = cc

said_same : (m p : Message) → Some m ≡ Some p → m.said ≡ p.said
said_same m p h = let e : m ≡ p = cc in ap (λ (x : Message). x.said) e

message_good : (n : ℕ) (route : Route) (v : OpeningVerdict) (m : Message) (c fault : ℕ) → m.said ≡ circuit_refused c fault → WellVerdict v
    → due_by n route v ≡ Some m → IsOpeningFault fault
message_good n route undecided m c fault e h q = absurd (not_open _ c fault (said_same _ m q ∙ e))
message_good n route (granted zero) m c fault e h q = absurd (cc)
message_good n route (granted (suc i)) m c fault e h q = absurd (not_opened _ c fault (said_same _ m q ∙ e))
message_good n route (denied zero f) m c fault e h q = absurd (cc)
message_good n route (denied (suc i) f) m c fault e h q = subst IsOpeningFault (same_fault _ f c fault (said_same _ m q ∙ e)) h

routed_well : (s : State) (n : ℕ) (route : Route) → AllWell s → Routed s n route → WellVerdict route.verdict
routed_well s n route h r = subst WellBack r.back (h n r.binding r.there)

label_is_good : (s : State) (here : LinkEnd) (first : RingLabel) (l : Label) → Sound s → AllWell s → IsHere here s → first_on here.ring s ≡ Some first
    → first.label ≡ l → GoodLabel l
label_is_good s here first (next_of e k) sound h at q is = tt
label_is_good s here first acknowledges sound h at q is = tt
label_is_good s here first (says (open_circuit o)) sound h at q is = tt
label_is_good s here first (says (circuit_opened c)) sound h at q is = tt
label_is_good s here first (says (circuit_refused c fault)) sound h at q is =
    let under = is_under_way s here (circuit_refused c fault) first (link_there s here at) q is in
    let due = sound.messages here.neighbour here.core (circuit_refused c fault) under in
    message_good due.binding due.route due.route.verdict _ c fault refl (routed_well s due.binding due.route h due.routed) due.due

forward_good : (core neighbour : ℕ) (s : State) → Sound s → AllWell s → Good (forwards core neighbour s)
forward_good core neighbour s sound h =
    by_given Good (link_end core neighbour s) _ _ tt
    (λ here q. by_given Good (first_on here.ring s) _ _ tt
    (λ first r. forward_label_good here first.label _
    (label_is_good s here first first.label sound h (record { core = core; neighbour = neighbour; here_is = q }) r refl)))

-- ---- the step

does_good : (v : Event) (s : State) → Sound s → AllWell s → Good (does v s)
does_good (add_interface i plan) s sound h = interface_good i plan s
does_good (set_cores n) s sound h = cores_good n s
does_good (add_link a b size) s sound h = link_good a b size s
does_good (add_dispatcher core) s sound h = dispatcher_good core s
does_good (export name d i) s sound h = export_good name d i s
does_good (bind client i name kind) s sound h = bind_good client i name kind s
does_good (call e c) s sound h = call_good e c s
does_good (show e) s sound h = show_good e s
does_good (write e) s sound h = write_good e s
does_good (turn d) s sound h = turn_good d s
does_good (ack e) s sound h = acknowledge_good e s
does_good (register e) s sound h = register_good e s
does_good (deregister e) s sound h = deregister_good e s
does_good (reply e msg answer) s sound h = rule_good e msg answer s
does_good (monitor_write core neighbour) s sound h = monitor_good core neighbour s
does_good (forward core neighbour) s sound h = forward_good core neighbour s sound h
does_good (monitor_ack core neighbour) s sound h = monitor_acknowledge_good core neighbour s

settled_good : (v : Event) (o : StepOutcome) → Good o → Good (settles v o)
settled_good (add_interface i plan) o h = h
settled_good v o h = h

fault_of : (fault : ℕ) (e : EndId) (a : Answer) → a ≡ opening_refused fault e → GoodAnswer a → IsOpeningFault fault
fault_of fault e a q h = subst GoodAnswer q h

-- ---- the law

pub openings_fail_for : OpeningsFailFor
openings_fail_for n vs v fault e some few q =
    let s : State = reached (start_with n) vs in
    let well : AllWell s = run_keeps AllWell denials vs (start_with n) (none_at_end (λ (b : Binding). WellBack b.back)) in
    fault_of fault e (step s v).answer q (settled_good v (does v s) (does_good v s (ever_sound n vs some few) well))
