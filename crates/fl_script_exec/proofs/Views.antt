-- What names stand for: interfaces, the interfaces of bindings, and how many dispatchers each core has. Of this an event changes
-- only what it makes.
use Rattle.std.proofs.Common.{◌≡◌, ◌∙◌, refl, sym, ap, ℕ, ◌||◌, ◌&&◌, ◌==◌, nat_le, not, Bool, List, [], ◌∷◌, ◌++◌, length, map, slice_get, Option, Some, None}
use Rattle.fl_base.specs.declared.identity.EndId.{EndId}
use Rattle.fl_base.specs.declared.identity.Side.{Side}
use Rattle.fl_base.specs.declared.identity.Side.TheVariants.{Client, Server}
use Rattle.fl_base.specs.Ends.{peer}
use Rattle.fl_interface.specs.SameTypes.{same_arguments}
use Rattle.fl_value_data.specs.Value.{TheCall}
use Rattle.fl_value_data.specs.Fits.{fits_of}
use Rattle.fl_hop.specs.Table.{hop_at}
use Rattle.fl_hop.specs.declared.entry.HopTarget.{HopTarget}
use Rattle.fl_hop.specs.declared.entry.HopTarget.TheVariants.{Link as to_link, End as to_end}
use Rattle.fl_lists.specs.declared.place.Place.{Place}
use Rattle.fl_lists.specs.declared.place.Place.TheVariants.{Polled, Pending}
use Rattle.fl_model.specs.Events.{DispatcherId, nothing, quiet}
use Rattle.fl_model.specs.Calls.{Planned}
use Rattle.fl_model.specs.Rings.{MonitorLabel, Label, next_of, says, acknowledges, RingEnd, first_side, second_side, Room, there_is_room, no_room, spent, looks, takes, puts, fresh_ring, for_data, for_acknowledgement, owes}
use Rattle.fl_model.specs.Ends.{Queue, Direction, End, is_bound, is_busy, holds_back, queue_room, passes}
use Rattle.fl_model.specs.Waits.{Dispatcher, Due, pending, polled, no_one, due}
use Rattle.fl_model.specs.Monitors.{Core, Heard, no_outbox, misrouted, opening_went_on, server_made, opening_failed, answer_went_on, end_opened, end_refused, hears}
use Rattle.fl_model.specs.State.{Back, Route, Binding, State, StepOutcome, answers, Outlet, peer_queue, ring_side, core_of, dispatcher_of, binding_of, interface_of, end_in, end_of, link_between, first_on, own_ring, outlet_by, number_between, station_at, with_end_in, change_core, change_dispatcher, change_ring, change_binding, change_end, change_out, change_route, change_channel, seats, registers_end, binds_end, delivers, ring_makes_sure, ring_room}
use Rattle.fl_model.specs.Making.{adds_link, is_core, has_link, is_ring_size, exports, has_service, most_services, linked}
use Rattle.fl_model.specs.Binding.{end_id}
use Rattle.fl_model.specs.Sending.{calls, outlet_room, makes_sure_of, puts_to, shows, next_fragment, writes_to, writes_fragment}
use Rattle.fl_model.specs.Taking.{Chosen, takes_label, goes_back, gives_from_queue, gives_from_ring, gives_by, gives, comes_off, finds, examines, chosen, turns_by, turns, acknowledges_by, acknowledges_on, acknowledges_end, registers_channel, deregisters_channel, sets_rule, has_channel_listed, has_message, arguments_of}
use Rattle.fl_model.specs.Forwarding.{LinkEnd, link_end, without_first_said, monitor_writes_by, monitor_writes, monitor_acknowledges, follows, takes_said, forwards_said, FragAtHop, label_of, leaves_link, goes_on_by, arrives_by, follows_entry, forwards_passing, route_of, forwards_call, forwards_label, forwards}
use Rattle.fl_model_laws.proofs.Cases.{either, by_given}
use Rattle.fl_model_laws.proofs.Replies.{length_changed}
use Rattle.fl_model_laws.proofs.Services.{hears_leaves}
use Rattle.fl_model_laws.proofs.Views.{map_kept}

abbrev pub interface_in : Binding → ℕ
interface_in b = b.interface

abbrev pub count_in : Core → ℕ
count_in k = length k.dispatchers

pub record View : Type 0 where
  pub may : Bool
  pub interfaces : List Planned
  pub spoken : List ℕ
  pub counts : List ℕ

abbrev pub view : State → View
view s = record { may = s.may_set_cores; interfaces = s.interfaces; spoken = map interface_in s.bindings; counts = map count_in s.cores }

abbrev pub Same : State → State → Type 0
Same s t = view t ≡ view s

-- ---- updates

first_some : {X : Type 0} (x y : X) → Some x ≡ Some y → x ≡ y
first_some x y e = cc

pub bindings_same : (n : ℕ) (f : Binding → Binding) (s : State) → ((b : Binding) → (f b).interface ≡ b.interface) → Same s (change_binding n f s)
bindings_same n f s h =
    ap (λ (x : List ℕ). record { may = s.may_set_cores; interfaces = s.interfaces; spoken = x; counts = map count_in s.cores })
    (map_kept interface_in f s.bindings n (λ x q. h x))

pub cores_same : (n : ℕ) (f : Core → Core) (s : State) → ((k : Core) → length (f k).dispatchers ≡ length k.dispatchers) → Same s (change_core n f s)
cores_same n f s h =
    ap (λ (x : List ℕ). record { may = s.may_set_cores; interfaces = s.interfaces; spoken = map interface_in s.bindings; counts = x })
    (map_kept count_in f s.cores n (λ x q. h x))

in_end : (side : Side) (f : End → End) (b : Binding) → (with_end_in side f b).interface ≡ b.interface
in_end Client f b = refl
in_end Server f b = refl

pub end_same : (e : EndId) (f : End → End) (s : State) → Same s (change_end e f s)
end_same e f s = bindings_same e.binding (with_end_in e.side f) s (in_end e.side f)

pub out_same : (e : EndId) (f : Direction → Direction) (s : State) → Same s (change_out e f s)
out_same e f s = end_same e (λ x. record x { out = f x.out }) s

pub route_same : (n : ℕ) (f : Route → Route) (s : State) → Same s (change_route n f s)
route_same n f s = bindings_same n _ s (λ b. refl)

pub dispatcher_same : (d : DispatcherId) (f : Dispatcher → Dispatcher) (s : State) → Same s (change_dispatcher d f s)
dispatcher_same d f s = cores_same d.core _ s (λ k. length_changed k.dispatchers d.place f)

pub channel_same : (e : EndId) (f : ℕ → End → Dispatcher → Dispatcher) (s : State) → Same s (change_channel e f s)
channel_same e f s =
    by_given (Same s) (end_of s e) _ _ refl
    (λ x q. by_given (Same s) x.seat _ _ refl (λ seat r. dispatcher_same seat.dispatcher (f seat.channel x) s))

pub delivers_same : (label : Label) (e : EndId) (s : State) → Same s (delivers label e s)
delivers_same label e s = channel_same e _ (change_end e _ s) ∙ end_same e _ s

pub registers_same : (e : EndId) (s : State) → Same s (registers_end e s)
registers_same e s = channel_same e _ s

pub binds_same : (e : EndId) (circuit : ℕ) (s : State) → Same s (binds_end e circuit s)
binds_same e circuit s = registers_same e (change_end e _ s) ∙ end_same e _ s

pub seats_same : (d : DispatcherId) (e : EndId) (s : State) → Same s (seats d e s)
seats_same d e s = by_given (Same s) (dispatcher_of s d) _ _ refl (λ x q. dispatcher_same d _ (change_end e _ s) ∙ end_same e _ s)

-- ---- events that make nothing that is named

abbrev pub Stays : State → StepOutcome → Type 0
Stays s o = Same s o.state

pub links_stay : (a b size : ℕ) (s : State) → Stays s (adds_link a b size s)
links_stay a b size s =
    either (Stays s) (not (is_core a s && is_core b s) || (a == b) || has_link a b s) _ _ (λ q. refl)
    (λ q. either (Stays s) (not (is_ring_size size)) _ _ (λ r. refl)
    (λ r. let ringed : State = record s { rings = s.rings ++ fresh_ring size ∷ [] } in
    let near = linked b (length s.rings) first_side in
    cores_same b (linked a (length s.rings) second_side) (change_core a near ringed) (λ k. refl) ∙ cores_same a near ringed (λ k. refl)))

pub exports_stay : (name : List ℕ) (d : DispatcherId) (i : ℕ) (s : State) → Stays s (exports name d i s)
exports_stay name d i s =
    by_given (Stays s) (dispatcher_of s d) _ _ refl
    (λ x q. by_given (Stays s) (slice_get s.interfaces i) _ _ refl
    (λ y r. either (Stays s) (has_service name s) _ _ (λ t. refl) (λ t. either (Stays s) (nat_le most_services (length s.services)) _ _ (λ u. refl) (λ u. refl))))

pub calls_stay : (e : EndId) (c : TheCall) (s : State) → Stays s (calls e c s)
calls_stay e c s =
    by_given (Stays s) (binding_of s e) _ _ refl
    (λ b q. by_given (Stays s) (interface_of s b) _ _ refl
    (λ i r. either (Stays s) (nat_le (length i.interface.messages) c.msg) _ _ (λ t. refl)
    (λ t. either (Stays s) (not (fits_of i.interface c)) _ _ (λ u. refl)
    (λ u. either (Stays s) (not (is_bound (end_in e.side b))) _ _ (λ v. refl)
    (λ v. either (Stays s) (is_busy i (end_in e.side b).out) _ _ (λ x. refl) (λ x. out_same e _ s))))))

pub shows_stay : (e : EndId) (s : State) → Stays s (shows e s)
shows_stay e s =
    by_given (Stays s) (binding_of s e) _ _ refl
    (λ b q. by_given (Stays s) (interface_of s b) _ _ refl
    (λ i r. either (Stays s) (not (is_bound (end_in e.side b))) _ _ (λ t. refl)
    (λ t. by_given (Stays s) (next_fragment i (end_in e.side b)) _ _ refl (λ f u. by_given (Stays s) (outlet_by s e.side b.back) _ _ refl (λ o v. refl)))))

puts_same : (e : EndId) (o : Outlet) (label : Label) (s : State) → Same s (puts_to e o label s)
puts_same e peer_queue label s = delivers_same label (peer e) s
puts_same e (ring_side at) label s = refl

sure_same : (o : Outlet) (s : State) → Same s (makes_sure_of o s)
sure_same peer_queue s = refl
sure_same (ring_side at) s = refl

written_stays : (e : EndId) (i : Planned) (d : Direction) (o : Outlet) (r : Room) (s : State) → Stays s (writes_to e i d o r s)
written_stays e i d o there_is_room s = puts_same e o _ (change_out e _ s) ∙ out_same e _ s
written_stays e i d o no_room s = refl
written_stays e i d o spent s = refl

pub writes_stay : (e : EndId) (s : State) → Stays s (writes_fragment e s)
writes_stay e s =
    by_given (Stays s) (binding_of s e) _ _ refl
    (λ b q. by_given (Stays s) (interface_of s b) _ _ refl
    (λ i r. either (Stays s) (not (is_bound (end_in e.side b))) _ _ (λ t. refl)
    (λ t. either (Stays s) (not (is_busy i (end_in e.side b).out)) _ _ (λ u. refl)
    (λ u. by_given (Stays s) (outlet_by s e.side b.back) _ _ refl
    (λ o v. written_stays e i (end_in e.side b).out o (outlet_room e o (makes_sure_of o s)) (makes_sure_of o s) ∙ sure_same o s)))))

label_stays : (e : EndId) (i : Planned) (label : Label) (s : State) → Stays s (takes_label e i label s)
label_stays e i (next_of sender k) s =
    by_given (Stays s) (end_of s sender) _ _ refl (λ y q. end_same e _ (change_out sender _ s) ∙ out_same sender _ s)
label_stays e i (says m) s = refl
label_stays e i acknowledges s = refl

back_same : (t : Chosen) (to : Place) (s : State) → Same s (goes_back t to s)
back_same t to s = dispatcher_same t.dispatcher _ s

off_same : (t : Chosen) (to : Place) (s : State) → Same s (comes_off t to s)
off_same t to s = dispatcher_same t.dispatcher _ s

queue_stays : (t : Chosen) (i : Planned) (q : Queue) (s : State) → Stays s (gives_from_queue t i q s)
queue_stays t i q s =
    by_given (Stays s) (slice_get q.labels 0) _ _ (back_same t _ s)
    (λ label r. label_stays t.end i label _ ∙ (back_same t _ (change_end t.end _ s) ∙ end_same t.end _ s))

ring_stays : (t : Chosen) (i : Planned) (at : RingEnd) (s : State) → Stays s (gives_from_ring t i at s)
ring_stays t i at s =
    let taken : State = change_ring at.ring (takes at.side) s in
    by_given (Stays s) (first_on at s) (answers (goes_back t Polled s) nothing) (λ first. takes_label t.end i first.label (goes_back t Polled taken))
    (back_same t Polled s) (λ first r. label_stays t.end i first.label (goes_back t Polled taken) ∙ back_same t Polled taken)

gives_by_stays : (t : Chosen) (i : Planned) (q : Option Queue) (back : Back) (s : State) → Stays s (gives_by t i q back s)
gives_by_stays t i (Some q) back s = queue_stays t i q s
gives_by_stays t i None back s = by_given (Stays s) (own_ring t.end.side back) _ _ refl (λ at r. ring_stays t i at s)

gives_stay : (t : Chosen) (s : State) → Stays s (gives t s)
gives_stay t s =
    by_given (Stays s) (binding_of s t.end) _ _ refl
    (λ b q. by_given (Stays s) (interface_of s b) _ _ refl
    (λ i r. either (Stays s) (holds_back (end_in t.end.side b)) _ _ (λ u. back_same t Pending s)
    (λ u. gives_by_stays t i (end_in t.end.side b).queue b.back s)))

finds_stay : (t : Chosen) (at : RingEnd) (label : Label) (s : State) → Stays s (finds t at label s)
finds_stay t at acknowledges s = off_same t Polled (change_ring at.ring (takes at.side) s)
finds_stay t at (next_of sender k) s = off_same t Pending s
finds_stay t at (says m) s = off_same t Pending s

examines_stay : (t : Chosen) (s : State) → Stays s (examines t s)
examines_stay t s =
    by_given (Stays s) (binding_of s t.end) _ _ refl
    (λ b q. by_given (Stays s) (own_ring t.end.side b.back) _ _ refl
    (λ at r. let looked : State = change_ring at.ring (looks at.side) s in
    by_given (Stays s) (first_on at s) (answers (comes_off t Polled s) (quiet t.end)) (λ first. finds t at first.label looked) (off_same t Polled s)
    (λ first u. finds_stay t at first.label looked)))

turns_by_stay : (d : DispatcherId) (x : Dispatcher) (o : Due) (s : State) → Stays s (turns_by d x o s)
turns_by_stay d x (pending c) s = by_given (Stays s) (slice_get x.ends c) _ _ refl (λ e q. gives_stay (chosen d c e) s)
turns_by_stay d x (polled c) s = by_given (Stays s) (slice_get x.ends c) _ _ refl (λ e q. examines_stay (chosen d c e) s)
turns_by_stay d x no_one s = refl

pub turns_stay : (d : DispatcherId) (s : State) → Stays s (turns d s)
turns_stay d s = by_given (Stays s) (dispatcher_of s d) _ _ refl (λ x q. turns_by_stay d x (due x) s)

acknowledged_stays : (at : RingEnd) (r : Room) (s : State) → Stays s (acknowledges_by at r s)
acknowledged_stays at there_is_room s = refl
acknowledged_stays at no_room s = refl
acknowledged_stays at spent s = refl

acknowledges_on_stay : (at : RingEnd) (s : State) → Stays s (acknowledges_on at s)
acknowledges_on_stay at s =
    by_given (Stays s) (slice_get s.rings at.ring) _ _ refl
    (λ r q. either (Stays s) (not (owes at.side r)) _ _ (λ t. refl)
    (λ t. acknowledged_stays at (ring_room for_acknowledgement at (ring_makes_sure for_acknowledgement at s)) (ring_makes_sure for_acknowledgement at s)))

pub acknowledges_stay : (e : EndId) (s : State) → Stays s (acknowledges_end e s)
acknowledges_stay e s =
    by_given (Stays s) (binding_of s e) _ _ refl
    (λ b q. either (Stays s) (not (is_bound (end_in e.side b))) _ _ (λ t. refl)
    (λ t. by_given (Stays s) (own_ring e.side b.back) _ _ refl (λ at r. acknowledges_on_stay at s)))

pub registers_stay : (e : EndId) (s : State) → Stays s (registers_channel e s)
registers_stay e s =
    by_given (Stays s) (end_of s e) _ _ refl
    (λ x q. either (Stays s) (not (is_bound x)) _ _ (λ t. refl)
    (λ t. either (Stays s) (has_channel_listed x s) _ _ (λ u. refl) (λ u. registers_same e s)))

pub deregisters_stay : (e : EndId) (s : State) → Stays s (deregisters_channel e s)
deregisters_stay e s =
    by_given (Stays s) (end_of s e) _ _ refl
    (λ x q. either (Stays s) (not (is_bound x)) _ _ (λ t. refl)
    (λ t. either (Stays s) (not (has_channel_listed x s)) _ _ (λ u. refl) (λ u. channel_same e _ s)))

pub rules_stay : (e : EndId) (msg answer : ℕ) (s : State) → Stays s (sets_rule e msg answer s)
rules_stay e msg answer s =
    by_given (Stays s) (binding_of s e) _ _ refl
    (λ b q. by_given (Stays s) (interface_of s b) _ _ refl
    (λ i r. either (Stays s) (not (has_message msg i && has_message answer i)) _ _ (λ t. refl)
    (λ t. either (Stays s) (not (same_arguments (arguments_of msg i) (arguments_of answer i))) _ _ (λ u. refl) (λ u. end_same e _ s))))

monitor_written_stays : (here : LinkEnd) (m : MonitorLabel) (r : Room) (s : State) → Stays s (monitor_writes_by here m r s)
monitor_written_stays here m there_is_room s =
    cores_same here.core (without_first_said here.link) (change_ring here.ring.ring (puts here.ring.side (says m)) s) (λ k. refl)
monitor_written_stays here m no_room s = refl
monitor_written_stays here m spent s = refl

pub monitor_writes_stay : (core neighbour : ℕ) (s : State) → Stays s (monitor_writes core neighbour s)
monitor_writes_stay core neighbour s =
    by_given (Stays s) (link_end core neighbour s) _ _ refl
    (λ here q. by_given (Stays s) (link_between s core neighbour) _ _ refl
    (λ link r. by_given (Stays s) (slice_get link.outbox 0) _ _ refl
    (λ m t. monitor_written_stays here m (ring_room for_data here.ring (ring_makes_sure for_data here.ring s)) (ring_makes_sure for_data here.ring s))))

pub monitor_acknowledges_stay : (core neighbour : ℕ) (s : State) → Stays s (monitor_acknowledges core neighbour s)
monitor_acknowledges_stay core neighbour s = by_given (Stays s) (link_between s core neighbour) _ _ refl (λ link q. acknowledges_on_stay link.ring s)

follows_stay : (h : Heard) (s : State) → Stays s (follows h s)
follows_stay no_outbox s = refl
follows_stay misrouted s = refl
follows_stay (opening_went_on n c) s = route_same n _ s
follows_stay (server_made n d c) s = binds_same (end_id n Server) c _ ∙ (seats_same d (end_id n Server) _ ∙ route_same n _ s)
follows_stay (opening_failed n fault) s = route_same n _ s
follows_stay (answer_went_on n) s = route_same n _ s
follows_stay (end_opened e c) s = binds_same e c _ ∙ route_same e.binding _ s
follows_stay (end_refused e fault) s = route_same e.binding _ s

said_same : (at : RingEnd) (h : Heard) (s : State) → Same s (takes_said at h s)
said_same at no_outbox s = refl
said_same at misrouted s = refl
said_same at (opening_went_on n c) s = refl
said_same at (server_made n d c) s = refl
said_same at (opening_failed n fault) s = refl
said_same at (answer_went_on n) s = refl
said_same at (end_opened e c) s = refl
said_same at (end_refused e fault) s = refl

-- a core that is there is heard by itself
heard_same : (n : ℕ) (k h : Core) (s : State) → core_of s n ≡ Some k → h.dispatchers ≡ k.dispatchers → Same s (change_core n (λ x. h) s)
heard_same n k h s q e =
    ap (λ (x : List ℕ). record { may = s.may_set_cores; interfaces = s.interfaces; spoken = map interface_in s.bindings; counts = x })
    (map_kept count_in (λ x. h) s.cores n (λ x r. ap (λ (ds : List Dispatcher). length ds) e ∙ ap count_in (first_some k x (sym q ∙ r))))

forwards_said_stays : (here : LinkEnd) (m : MonitorLabel) (s : State) → Stays s (forwards_said here m s)
forwards_said_stays here m s =
    by_given (Stays s) (core_of s here.core) _ _ refl
    (λ k q. let h = hears s.services here.link m k in
    follows_stay h.heard _ ∙ (said_same here.ring h.heard _ ∙ heard_same here.core k h.core s q (hears_leaves s.services here.link m k)))

leaves_same : (here : LinkEnd) (p : FragAtHop) (s : State) → Same s (leaves_link here p s)
leaves_same here p s = out_same p.end (passes p.station) (change_ring here.ring.ring (takes here.ring.side) s)

goes_on_stays : (here : LinkEnd) (p : FragAtHop) (on : RingEnd) (r : Room) (s : State) → Stays s (goes_on_by here p on r s)
goes_on_stays here p on there_is_room s = leaves_same here p (change_ring on.ring (puts on.side (label_of p)) s)
goes_on_stays here p on no_room s = refl
goes_on_stays here p on spent s = refl

arrives_stays : (here : LinkEnd) (p : FragAtHop) (to : EndId) (r : Room) (s : State) → Stays s (arrives_by here p to r s)
arrives_stays here p to there_is_room s = leaves_same here p (delivers (label_of p) to s) ∙ delivers_same (label_of p) to s
arrives_stays here p to no_room s = refl
arrives_stays here p to spent s = refl

entry_stays : (here : LinkEnd) (p : FragAtHop) (k : Core) (way : HopTarget) (s : State) → Stays s (follows_entry here p k way s)
entry_stays here p k (to_link l c) s =
    by_given (Stays s) (slice_get k.links l.0) _ _ refl
    (λ link q. goes_on_stays here p link.ring (ring_room for_data link.ring (ring_makes_sure for_data link.ring s)) (ring_makes_sure for_data link.ring s))
entry_stays here p k (to_end to) s =
    by_given (Stays s) (end_of s to) _ _ refl (λ x q. by_given (Stays s) x.queue _ _ refl (λ u r. arrives_stays here p to (queue_room u) s))

passing_stays : (here : LinkEnd) (p : FragAtHop) (route : Route) (s : State) → Stays s (forwards_passing here p route s)
passing_stays here p route s =
    by_given (Stays s) (core_of s here.core) _ _ refl
    (λ k q. by_given (Stays s) (number_between here.neighbour here.core route) _ _ refl
    (λ c r. by_given (Stays s) (hop_at k.circuits here.link c) _ _ refl (λ hop t. entry_stays here p k hop.way s)))

forwards_call_stays : (here : LinkEnd) (e : EndId) (number : ℕ) (s : State) → Stays s (forwards_call here e number s)
forwards_call_stays here e number s =
    by_given (Stays s) (binding_of s e) _ _ refl
    (λ b q. by_given (Stays s) (route_of b.back) _ _ refl
    (λ route r. by_given (Stays s) (station_at e.side here.core route) _ _ refl (λ station t. passing_stays here _ route s)))

forwards_label_stays : (here : LinkEnd) (label : Label) (s : State) → Stays s (forwards_label here label s)
forwards_label_stays here (next_of e number) s = forwards_call_stays here e number s
forwards_label_stays here (says m) s = forwards_said_stays here m s
forwards_label_stays here acknowledges s = refl

pub forwards_stay : (core neighbour : ℕ) (s : State) → Stays s (forwards core neighbour s)
forwards_stay core neighbour s =
    by_given (Stays s) (link_end core neighbour s) _ _ refl
    (λ here q. by_given (Stays s) (first_on here.ring s) _ _ refl (λ first r. forwards_label_stays here first.label _))
