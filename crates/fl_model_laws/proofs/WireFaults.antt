-- No event is refused with a fault of the wire, in any state.
use Rattle.std.proofs.Common.{◌≡◌, refl, sym, ◌∙◌, ap, ℕ, ◌+◌, ◌||◌, ◌==◌, nat_le, nat_lt, not, ◌&&◌}
use Rattle.std.proofs.Common.{Bool, true, false, List, length, slice_get, slice_index}
use Rattle.std.proofs.Common.{Option, Some, None}
use Rattle.fl_base.specs.declared.identity.EndId.{EndId}
use Rattle.fl_base.specs.Numbered.{most_cores, most_bindings}
use Rattle.fl_hop.specs.Numbers.{next_own}
use Rattle.fl_hop.specs.Table.{hop_at}
use Rattle.fl_hop.specs.declared.entry.HopTarget.{HopTarget}
use Rattle.fl_hop.specs.declared.entry.HopTarget.TheVariants.{Link as to_link, End as to_end}
use Rattle.fl_interface.specs.Interface.{TheInterface}
use Rattle.fl_value_data.specs.Value.{TheCall}
use Rattle.fl_value_data.specs.Fits.{fits_of}
use Rattle.fl_value_data.specs.declared.value.PlanNo.{PlanNo}
use Rattle.fl_model.specs.Events.{DispatcherId, Kind, by_queues, by_ring, by_route, Event, add_interface, set_cores, add_link}
use Rattle.fl_model.specs.Events.{add_dispatcher, export, bind, call, show, write, turn, ack, register, deregister}
use Rattle.fl_model.specs.Events.{reply, monitor_write, forward, monitor_ack, Answer}
use Rattle.fl_model.specs.Events.{refused}
use Rattle.fl_model.specs.Calls.{Planned}
use Rattle.fl_model.specs.Rings.{MonitorLabel, Label, next_of, says, acknowledges, RingEnd, Room}
use Rattle.fl_model.specs.Rings.{there_is_room, no_room, spent, for_data, for_acknowledgement, owes}
use Rattle.fl_model.specs.Ends.{Queue, queue_room, Direction, is_bound, is_busy, holds_back, Wrote, writes, writes_by, Taken, whole, a_part, comes_to}
use Rattle.fl_model.specs.Waits.{Dispatcher, Due, pending, polled, no_one, due}
use Rattle.fl_model.specs.Monitors.{Core, Heard, no_outbox, misrouted, opening_went_on, server_made, opening_failed}
use Rattle.fl_model.specs.Monitors.{answer_went_on, end_opened, end_refused, hears, can_say, link_to}
use Rattle.fl_model.specs.State.{State, StepOutcome, Outlet, peer_queue, ring_side, Back}
use Rattle.fl_model.specs.State.{dispatcher_of, binding_of, interface_of, end_of, end_in, first_on, ring_makes_sure, ring_room}
use Rattle.fl_model.specs.State.{own_ring, outlet_by, link_between, core_of, number_between, station_at}
use Rattle.fl_model.specs.Making.{adds_interface, has_interface, sets_cores, adds_link, is_core, has_link, is_ring_size}
use Rattle.fl_model.specs.Making.{adds_dispatcher, count_dispatchers, exports, has_service, most_interfaces, most_dispatchers, most_services}
use Rattle.fl_model.specs.Binding.{BindByNames, has_both_places, has_places_for, binds_by_queues, binds_by_ring, is_route}
use Rattle.fl_model.specs.Binding.{opens_on, binds_by_route, binds_by, binds, place_of_service}
use Rattle.fl_model.specs.Sending.{calls, shows, next_fragment, writes_to, writes_fragment}
use Rattle.fl_model.specs.Taking.{Chosen, takes_label, taken_answer, gives_from_queue, gives_from_ring, gives_by, gives, finds, examines}
use Rattle.fl_model.specs.Taking.{chosen, turns_by, turns, acknowledges_by, acknowledges_on, acknowledges_end, registers_channel}
use Rattle.fl_model.specs.Taking.{deregisters_channel, sets_rule, has_channel_listed, has_message, arguments_of}
use Rattle.fl_interface.specs.SameTypes.{same_arguments}
use Rattle.fl_model.specs.Forwarding.{LinkEnd, link_end, monitor_writes_by, monitor_writes, monitor_acknowledges, FragAtHop}
use Rattle.fl_model.specs.Forwarding.{goes_on_by, arrives_by, follows_entry, route_of, forwards_call, forwards_label, forwards, follows}
use Rattle.fl_model.specs.Step.{does, settles, step}
use Rattle.fl_model.specs.Faults.{is_wire_fault, NoWireFaults}
use Rattle.fl_model_laws.proofs.Cases.{either, by_given}

-- the answer is no refusal with such a fault
abbrev clear : Answer → Bool
clear (refused fault) = not (is_wire_fault fault)
clear answer = true

abbrev Clear : StepOutcome → Type 0
Clear o = clear o.answer ≡ true

-- ---- making

interface_clear : (i : TheInterface) (plan : PlanNo) (s : State) → Clear (adds_interface i plan s)
interface_clear i plan s =
    either Clear (has_interface i.name s) _ _ (λ q. refl)
    (λ q. either Clear (nat_le most_interfaces (length s.interfaces)) _ _ (λ r. refl) (λ r. refl))

cores_clear : (n : ℕ) (s : State) → Clear (sets_cores n s)
cores_clear n s =
    either Clear (not s.may_set_cores) _ _ (λ q. refl)
    (λ q. either Clear (nat_lt n 1 || nat_lt most_cores n) _ _ (λ r. refl) (λ r. refl))

link_clear : (a b size : ℕ) (s : State) → Clear (adds_link a b size s)
link_clear a b size s =
    either Clear (not (is_core a s && is_core b s) || (a == b) || has_link a b s) _ _ (λ q. refl)
    (λ q. either Clear (not (is_ring_size size)) _ _ (λ r. refl) (λ r. refl))

dispatcher_clear : (core : ℕ) (s : State) → Clear (adds_dispatcher core s)
dispatcher_clear core s =
    either Clear (nat_le most_dispatchers (count_dispatchers s)) _ _ (λ q. refl)
    (λ q. either Clear (not (is_core core s)) _ _ (λ r. refl) (λ r. refl))

export_clear : (name : List ℕ) (d : DispatcherId) (i : ℕ) (s : State) → Clear (exports name d i s)
export_clear name d i s =
    by_given Clear (dispatcher_of s d) _ _ refl
    (λ x q. by_given Clear (slice_get s.interfaces i) _ _ refl
    (λ y r. either Clear (has_service name s) _ _ (λ t. refl)
    (λ t. either Clear (nat_le most_services (length s.services)) _ _ (λ u. refl) (λ u. refl))))

-- ---- bindings

queues_clear : (w : BindByNames) (slots : ℕ) (s : State) → Clear (binds_by_queues w slots s)
queues_clear w slots s =
    either Clear (not (w.client.core == w.service.dispatcher.core)) _ _ (λ q. refl)
    (λ q. either Clear (nat_lt slots 1 || nat_lt 1024 slots) _ _ (λ r. refl)
    (λ r. either Clear (not (has_both_places w s)) _ _ (λ t. refl) (λ t. refl)))

ring_clear : (w : BindByNames) (size : ℕ) (s : State) → Clear (binds_by_ring w size s)
ring_clear w size s =
    either Clear (w.client.core == w.service.dispatcher.core) _ _ (λ q. refl)
    (λ q. either Clear (not (is_ring_size size)) _ _ (λ r. refl)
    (λ r. either Clear (not (has_both_places w s)) _ _ (λ t. refl) (λ t. refl)))

opening_clear : (w : BindByNames) (cores : List ℕ) (k : Core) (s : State) → Clear (opens_on w cores k s)
opening_clear w cores k s =
    by_given Clear (link_to (slice_index cores 1) k) _ _ refl
    (λ l q. either Clear (not (has_places_for w.client 1 s)) _ _ (λ r. refl)
    (λ r. by_given Clear (next_own k.circuits l) _ _ refl
    (λ c t. either Clear (not (can_say l k)) _ _ (λ u. refl) (λ u. refl))))

route_clear : (w : BindByNames) (cores : List ℕ) (s : State) → Clear (binds_by_route w cores s)
route_clear w cores s =
    either Clear (not (is_route cores w.client.core w.service.dispatcher.core s)) _ _ (λ q. refl)
    (λ q. by_given Clear (core_of s w.client.core) _ _ refl (λ k r. opening_clear w cores k s))

kind_clear : (w : BindByNames) (kind : Kind) (s : State) → Clear (binds_by w kind s)
kind_clear w (by_queues slots) s = queues_clear w slots s
kind_clear w (by_ring size) s = ring_clear w size s
kind_clear w (by_route cores) s = route_clear w cores s

bind_clear : (client : DispatcherId) (i : ℕ) (name : List ℕ) (kind : Kind) (s : State) → Clear (binds client i name kind s)
bind_clear client i name kind s =
    by_given Clear (dispatcher_of s client) _ _ refl
    (λ d q. by_given Clear (slice_get s.interfaces i) _ _ refl
    (λ planned r. either Clear (nat_le most_bindings (length s.bindings)) _ _ (λ t. refl)
    (λ t. by_given Clear (place_of_service name s.services) _ _ refl
    (λ place u. by_given Clear (slice_get s.services place) _ _ refl
    (λ service v. either Clear (not (service.interface == i)) _ _ (λ x. refl)
    (λ x. kind_clear (record { client = client; interface = i; messages = length planned.interface.messages; service = service; iref = place + 1 })
    kind s))))))

-- ---- sending

call_clear : (e : EndId) (c : TheCall) (s : State) → Clear (calls e c s)
call_clear e c s =
    by_given Clear (binding_of s e) _ _ refl
    (λ b q. by_given Clear (interface_of s b) _ _ refl
    (λ i r. either Clear (nat_le (length i.interface.messages) c.msg) _ _ (λ t. refl)
    (λ t. either Clear (not (fits_of i.interface c)) _ _ (λ u. refl)
    (λ u. either Clear (not (is_bound (end_in e.side b))) _ _ (λ v. refl)
    (λ v. either Clear (is_busy i (end_in e.side b).out) _ _ (λ x. refl) (λ x. refl))))))

show_clear : (e : EndId) (s : State) → Clear (shows e s)
show_clear e s =
    by_given Clear (binding_of s e) _ _ refl
    (λ b q. by_given Clear (interface_of s b) _ _ refl
    (λ i r. either Clear (not (is_bound (end_in e.side b))) _ _ (λ t. refl)
    (λ t. by_given Clear (next_fragment i (end_in e.side b)) _ _ refl
    (λ f u. by_given Clear (outlet_by s e.side b.back) _ _ refl (λ o v. refl)))))

-- on a spent ring a write has a fault of its own; else it is no refusal
by_room_clear : (i : Planned) (d : Direction) (r : Room) → clear (writes_by i d r).answer ≡ true
by_room_clear i d there_is_room = refl
by_room_clear i d no_room = refl
by_room_clear i d spent = refl

room_clear : (i : Planned) (d : Direction) (r : Room) → clear (writes i d r).answer ≡ true
room_clear i d r = either (λ (w : Wrote). clear w.answer ≡ true) (is_busy i d) _ _ (λ q. by_room_clear i d r) (λ q. refl)

outlet_clear : (e : EndId) (i : Planned) (d : Direction) (o : Outlet) (r : Room) (s : State) → Clear (writes_to e i d o r s)
outlet_clear e i d peer_queue there_is_room s = room_clear i d there_is_room
outlet_clear e i d peer_queue no_room s = room_clear i d no_room
outlet_clear e i d peer_queue spent s = room_clear i d spent
outlet_clear e i d (ring_side at) there_is_room s = room_clear i d there_is_room
outlet_clear e i d (ring_side at) no_room s = room_clear i d no_room
outlet_clear e i d (ring_side at) spent s = room_clear i d spent

write_clear : (e : EndId) (s : State) → Clear (writes_fragment e s)
write_clear e s =
    by_given Clear (binding_of s e) _ _ refl
    (λ b q. by_given Clear (interface_of s b) _ _ refl
    (λ i r. either Clear (not (is_bound (end_in e.side b))) _ _ (λ t. refl)
    (λ t. either Clear (not (is_busy i (end_in e.side b).out)) _ _ (λ u. refl)
    (λ u. by_given Clear (outlet_by s e.side b.back) _ _ refl (λ o v. outlet_clear e i (end_in e.side b).out o _ _)))))

-- ---- a turn: only an unknown dispatcher is refused

taken_clear : (e : EndId) (x : Taken) → clear (taken_answer e x) ≡ true
taken_clear e (whole c) = refl
taken_clear e a_part = refl

label_clear : (e : EndId) (i : Planned) (l : Label) (t : State) → Clear (takes_label e i l t)
label_clear e i (next_of sender k) t =
    by_given Clear (end_of t sender) _ _ refl (λ y q. taken_clear e (comes_to i y.out))
label_clear e i (says m) t = refl
label_clear e i acknowledges t = refl

queue_given_clear : (t : Chosen) (i : Planned) (q : Queue) (s : State) → Clear (gives_from_queue t i q s)
queue_given_clear t i q s =
    by_given Clear (slice_get q.labels 0) _ _ refl (λ l r. label_clear t.end i l _)

ring_given_clear : (t : Chosen) (i : Planned) (at : RingEnd) (s : State) → Clear (gives_from_ring t i at s)
ring_given_clear t i at s =
    by_given Clear (first_on at s) _ _ refl (λ first r. label_clear t.end i first.label _)

gives_by_clear : (t : Chosen) (i : Planned) (o : Option Queue) (back : Back) (s : State) → Clear (gives_by t i o back s)
gives_by_clear t i (Some q) back s = queue_given_clear t i q s
gives_by_clear t i None back s =
    by_given Clear (own_ring t.end.side back) _ _ refl (λ at q. ring_given_clear t i at s)

gives_clear : (t : Chosen) (s : State) → Clear (gives t s)
gives_clear t s =
    by_given Clear (binding_of s t.end) _ _ refl
    (λ b q. by_given Clear (interface_of s b) _ _ refl
    (λ i r. either Clear (holds_back (end_in t.end.side b)) _ _ (λ u. refl)
    (λ u. gives_by_clear t i (end_in t.end.side b).queue b.back s)))

finds_clear : (t : Chosen) (at : RingEnd) (l : Label) (x : State) → Clear (finds t at l x)
finds_clear t at (next_of e k) x = refl
finds_clear t at (says m) x = refl
finds_clear t at acknowledges x = refl

examines_clear : (t : Chosen) (s : State) → Clear (examines t s)
examines_clear t s =
    by_given Clear (binding_of s t.end) _ _ refl
    (λ b q. by_given Clear (own_ring t.end.side b.back) _ _ refl
    (λ at r. by_given Clear (first_on at s) _ _ refl (λ first u. finds_clear t at first.label _)))

due_clear : (d : DispatcherId) (x : Dispatcher) (o : Due) (s : State) → Clear (turns_by d x o s)
due_clear d x (pending c) s = by_given Clear (slice_get x.ends c) _ _ refl (λ e q. gives_clear (chosen d c e) s)
due_clear d x (polled c) s = by_given Clear (slice_get x.ends c) _ _ refl (λ e q. examines_clear (chosen d c e) s)
due_clear d x no_one s = refl

turn_clear : (d : DispatcherId) (s : State) → Clear (turns d s)
turn_clear d s = by_given Clear (dispatcher_of s d) _ _ refl (λ x q. due_clear d x (due x) s)

-- ---- what an end says of itself

told_clear : (at : RingEnd) (r : Room) (t : State) → Clear (acknowledges_by at r t)
told_clear at there_is_room t = refl
told_clear at no_room t = refl
told_clear at spent t = refl

acknowledged_clear : (at : RingEnd) (s : State) → Clear (acknowledges_on at s)
acknowledged_clear at s =
    by_given Clear (slice_get s.rings at.ring) _ _ refl
    (λ r q. either Clear (not (owes at.side r)) _ _ (λ t. refl)
    (λ t. told_clear at (ring_room for_acknowledgement at (ring_makes_sure for_acknowledgement at s)) _))

acknowledge_clear : (e : EndId) (s : State) → Clear (acknowledges_end e s)
acknowledge_clear e s =
    by_given Clear (binding_of s e) _ _ refl
    (λ b q. either Clear (not (is_bound (end_in e.side b))) _ _ (λ t. refl)
    (λ t. by_given Clear (own_ring e.side b.back) _ _ refl (λ at u. acknowledged_clear at s)))

register_clear : (e : EndId) (s : State) → Clear (registers_channel e s)
register_clear e s =
    by_given Clear (end_of s e) _ _ refl
    (λ x q. either Clear (not (is_bound x)) _ _ (λ t. refl)
    (λ t. either Clear (has_channel_listed x s) _ _ (λ u. refl) (λ u. refl)))

deregister_clear : (e : EndId) (s : State) → Clear (deregisters_channel e s)
deregister_clear e s =
    by_given Clear (end_of s e) _ _ refl
    (λ x q. either Clear (not (is_bound x)) _ _ (λ t. refl)
    (λ t. either Clear (not (has_channel_listed x s)) _ _ (λ u. refl) (λ u. refl)))

rule_clear : (e : EndId) (msg answer : ℕ) (s : State) → Clear (sets_rule e msg answer s)
rule_clear e msg answer s =
    by_given Clear (binding_of s e) _ _ refl
    (λ b q. by_given Clear (interface_of s b) _ _ refl
    (λ i r. either Clear (not (has_message msg i && has_message answer i)) _ _ (λ t. refl)
    (λ t. either Clear (not (same_arguments (arguments_of msg i) (arguments_of answer i))) _ _ (λ u. refl) (λ u. refl))))

-- ---- links: only a link that isn't there is refused

said_by_clear : (here : LinkEnd) (m : MonitorLabel) (r : Room) (t : State) → Clear (monitor_writes_by here m r t)
said_by_clear here m there_is_room t = refl
said_by_clear here m no_room t = refl
said_by_clear here m spent t = refl

monitor_clear : (core neighbour : ℕ) (s : State) → Clear (monitor_writes core neighbour s)
monitor_clear core neighbour s =
    by_given Clear (link_end core neighbour s) _ _ refl
    (λ here q. by_given Clear (link_between s core neighbour) _ _ refl
    (λ link r. by_given Clear (slice_get link.outbox 0) _ _ refl
    (λ m t. said_by_clear here m (ring_room for_data here.ring (ring_makes_sure for_data here.ring s)) _)))

monitor_acknowledge_clear : (core neighbour : ℕ) (s : State) → Clear (monitor_acknowledges core neighbour s)
monitor_acknowledge_clear core neighbour s =
    by_given Clear (link_between s core neighbour) _ _ refl (λ link q. acknowledged_clear link.ring s)

heard_clear : (x : Heard) (t : State) → Clear (follows x t)
heard_clear no_outbox t = refl
heard_clear misrouted t = refl
heard_clear (opening_went_on b c) t = refl
heard_clear (server_made b d c) t = refl
heard_clear (opening_failed b fault) t = refl
heard_clear (answer_went_on b) t = refl
heard_clear (end_opened e c) t = refl
heard_clear (end_refused e fault) t = refl

over_clear : (here : LinkEnd) (p : FragAtHop) (on : RingEnd) (r : Room) (t : State) → Clear (goes_on_by here p on r t)
over_clear here p on there_is_room t = refl
over_clear here p on no_room t = refl
over_clear here p on spent t = refl

into_clear : (here : LinkEnd) (p : FragAtHop) (to : EndId) (r : Room) (t : State) → Clear (arrives_by here p to r t)
into_clear here p to there_is_room t = refl
into_clear here p to no_room t = refl
into_clear here p to spent t = refl

entry_clear : (here : LinkEnd) (p : FragAtHop) (k : Core) (way : HopTarget) (t : State) → Clear (follows_entry here p k way t)
entry_clear here p k (to_link l c) t =
    by_given Clear (slice_get k.links l.0) _ _ refl
    (λ link q. over_clear here p link.ring (ring_room for_data link.ring (ring_makes_sure for_data link.ring t)) _)
entry_clear here p k (to_end to) t =
    by_given Clear (end_of t to) _ _ refl
    (λ x q. by_given Clear x.queue _ _ refl (λ y r. into_clear here p to (queue_room y) t))

passing_clear : (here : LinkEnd) (e : EndId) (number : ℕ) (t : State) → Clear (forwards_call here e number t)
passing_clear here e number t =
    by_given Clear (binding_of t e) _ _ refl
    (λ b q. by_given Clear (route_of b.back) _ _ refl
    (λ route r. by_given Clear (station_at e.side here.core route) _ _ refl
    (λ station u. by_given Clear (core_of t here.core) _ _ refl
    (λ k v. by_given Clear (number_between here.neighbour here.core route) _ _ refl
    (λ c w. by_given Clear (hop_at k.circuits here.link c) _ _ refl
    (λ hop x. entry_clear here (record { end = e; number = number; station = station }) k hop.way t))))))

forward_label_clear : (here : LinkEnd) (l : Label) (t : State) → Clear (forwards_label here l t)
forward_label_clear here (next_of e number) t = passing_clear here e number t
forward_label_clear here (says m) t =
    by_given Clear (core_of t here.core) _ _ refl
    (λ k q. heard_clear (hears t.services here.link m k).heard _)
forward_label_clear here acknowledges t = refl

forward_clear : (core neighbour : ℕ) (s : State) → Clear (forwards core neighbour s)
forward_clear core neighbour s =
    by_given Clear (link_end core neighbour s) _ _ refl
    (λ here q. by_given Clear (first_on here.ring s) _ _ refl (λ first r. forward_label_clear here first.label _))

-- ---- the step

does_clear : (v : Event) (s : State) → Clear (does v s)
does_clear (add_interface i plan) s = interface_clear i plan s
does_clear (set_cores n) s = cores_clear n s
does_clear (add_link a b size) s = link_clear a b size s
does_clear (add_dispatcher core) s = dispatcher_clear core s
does_clear (export name d i) s = export_clear name d i s
does_clear (bind client i name kind) s = bind_clear client i name kind s
does_clear (call e c) s = call_clear e c s
does_clear (show e) s = show_clear e s
does_clear (write e) s = write_clear e s
does_clear (turn d) s = turn_clear d s
does_clear (ack e) s = acknowledge_clear e s
does_clear (register e) s = register_clear e s
does_clear (deregister e) s = deregister_clear e s
does_clear (reply e msg answer) s = rule_clear e msg answer s
does_clear (monitor_write core neighbour) s = monitor_clear core neighbour s
does_clear (forward core neighbour) s = forward_clear core neighbour s
does_clear (monitor_ack core neighbour) s = monitor_acknowledge_clear core neighbour s

settled_clear : (v : Event) (o : StepOutcome) → Clear o → Clear (settles v o)
settled_clear (add_interface i plan) o h = h
settled_clear v o h = h

isnt_wiring : (fault : ℕ) (a : Answer) → a ≡ refused fault → clear a ≡ true → is_wire_fault fault ≡ false
isnt_wiring fault a e h = is_not (is_wire_fault fault) (ap clear (sym e) ∙ h)
  where
    is_not : (b : Bool) → not b ≡ true → b ≡ false
    is_not true q = absurd (cc)
    is_not false q = refl

pub refusals_clear : NoWireFaults
refusals_clear s v fault e = isnt_wiring fault (step s v).answer e (settled_clear v (does v s) (does_clear v s))
