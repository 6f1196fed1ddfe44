-- An event that is refused changes nothing, in any state.
use Rattle.std.proofs.Common.{◌≡◌, refl, sym, ◌∙◌, ap, ℕ, zero, suc, ◌+◌, ◌||◌, ◌==◌, nat_le, nat_lt, not, ◌&&◌}
use Rattle.std.proofs.Common.{Bool, true, false, List, [], ◌∷◌, length, slice_get, slice_set, slice_index}
use Rattle.std.proofs.Common.{Option, Some, None}
use Rattle.fl_base.specs.declared.identity.EndId.{EndId}
use Rattle.fl_base.specs.Given.{given}
use Rattle.fl_base.specs.Numbered.{most_cores, most_bindings}
use Rattle.fl_hop.specs.Numbers.{next_own}
use Rattle.fl_hop.specs.Table.{hop_at}
use Rattle.fl_hop.specs.declared.entry.HopTarget.{HopTarget}
use Rattle.fl_hop.specs.declared.entry.HopTarget.TheVariants.{Link as to_link, End as to_end}
use Rattle.fl_interface.specs.Interface.{TheInterface}
use Rattle.fl_value_data.specs.Value.{TheCall}
use Rattle.fl_value_data.specs.Fits.{fits_of}
use Rattle.fl_value_data.specs.declared.value.PlanNo.{PlanNo}
use Rattle.fl_model.specs.Given.{changed_at}
use Rattle.fl_model.specs.Events.{DispatcherId, Kind, by_queues, by_ring, by_route, Event, add_interface, set_cores, add_link}
use Rattle.fl_model.specs.Events.{add_dispatcher, export, bind, call, show, write, turn, ack, register, deregister}
use Rattle.fl_model.specs.Events.{reply, monitor_write, forward, monitor_ack, Answer}
use Rattle.fl_model.specs.Events.{refused}
use Rattle.fl_model.specs.Calls.{Planned}
use Rattle.fl_model.specs.Rings.{MonitorLabel, Label, next_of, says, acknowledges, RingEnd, RingSide, first_side, second_side, Ring, looks, Room}
use Rattle.fl_model.specs.Rings.{there_is_room, no_room, spent, is_spent, free, room, makes_sure, first_for, for_data, for_acknowledgement, owes}
use Rattle.fl_model.specs.Ends.{Queue, queue_room, Direction, is_bound, is_busy, holds_back, Wrote, writes, Taken, whole, a_part, comes_to}
use Rattle.fl_model.specs.Waits.{Dispatcher, Due, pending, polled, no_one, due}
use Rattle.fl_model.specs.Monitors.{Core, Heard, no_outbox, misrouted, opening_went_on, server_made, opening_failed}
use Rattle.fl_model.specs.Monitors.{answer_went_on, end_opened, end_refused, hears, can_say, link_to}
use Rattle.fl_model.specs.State.{State, StepOutcome, Outlet, peer_queue, ring_side, Back}
use Rattle.fl_model.specs.State.{dispatcher_of, binding_of, interface_of, end_of, end_in, first_on, ring_makes_sure, ring_room}
use Rattle.fl_model.specs.State.{own_ring, outlet_by, link_between, core_of, number_between, station_at}
use Rattle.fl_model.specs.Making.{adds_interface, has_interface, sets_cores, adds_link, is_core, has_link, is_ring_size}
use Rattle.fl_model.specs.Making.{adds_dispatcher, count_dispatchers, exports, has_service, most_interfaces, most_dispatchers, most_services}
use Rattle.fl_model.specs.Binding.{BindByNames, has_both_places, has_places_for, binds_by_queues, binds_by_ring, is_route}
use Rattle.fl_model.specs.Binding.{opens_on, binds_by_route, binds_by, binds, place_of_service}
use Rattle.fl_model.specs.Sending.{calls, outlet_room, makes_sure_of, shows, next_fragment, writes_to, writes_fragment}
use Rattle.fl_model.specs.Taking.{Chosen, takes_label, taken_answer, gives_from_queue, gives_from_ring, gives_by, gives, finds, examines}
use Rattle.fl_model.specs.Taking.{chosen, turns_by, turns, acknowledges_by, acknowledges_on, acknowledges_end, registers_channel}
use Rattle.fl_model.specs.Taking.{deregisters_channel, sets_rule, has_channel_listed, has_message, arguments_of}
use Rattle.fl_interface.specs.SameTypes.{same_arguments}
use Rattle.fl_model.specs.Forwarding.{LinkEnd, link_end, monitor_writes_by, monitor_writes, monitor_acknowledges, FragAtHop}
use Rattle.fl_model.specs.Forwarding.{goes_on_by, arrives_by, follows_entry, route_of, forwards_call, forwards_label, forwards, follows}
use Rattle.fl_model.specs.Step.{does, settles_by, settles}
use Rattle.fl_model.specs.Laws.{RefusalsChangeNothing}
use Rattle.fl_model_laws.proofs.Cases.{either, by_given}

-- where the answer is a refusal, the state is this one
abbrev SameWhere : State → State → Answer → Type 0
SameWhere s t a = (fault : ℕ) → a ≡ refused fault → t ≡ s

abbrev Same : State → StepOutcome → Type 0
Same s o = SameWhere s o.state o.answer

-- ---- a ring after its last fragment is left as it is

room_spent : (need : ℕ) (side : RingSide) (r : Ring) → room need side r ≡ spent → is_spent side r ≡ true
room_spent need side r =
    either (λ (m : Room). m ≡ spent → is_spent side r ≡ true) (is_spent side r) spent _ (λ q h. q)
    (λ q. either (λ (m : Room). m ≡ spent → is_spent side r ≡ true) (nat_le need (free side r)) there_is_room no_room
    (λ t h. absurd (cc)) (λ t h. absurd (cc)))

looks_spent : (side : RingSide) (r : Ring) → is_spent side (looks side r) ≡ is_spent side r
looks_spent first_side r = by_given (λ (t : Ring). is_spent first_side t ≡ is_spent first_side r) (first_for first_side r) _ _ refl (λ l q. refl)
looks_spent second_side r = by_given (λ (t : Ring). is_spent second_side t ≡ is_spent second_side r) (first_for second_side r) _ _ refl (λ l q. refl)

neither_left : (a b : Bool) → (a || b) ≡ false → a ≡ false
neither_left true b h = absurd (cc)
neither_left false b h = refl

not_both : (a : Bool) → a ≡ true → a ≡ false → ⊥
not_both true p q = absurd (cc)
not_both false p q = absurd (cc)

spent_sure : (need : ℕ) (side : RingSide) (r : Ring) → is_spent side (makes_sure need side r) ≡ true → makes_sure need side r ≡ r
spent_sure need side r =
    either (λ (t : Ring). is_spent side t ≡ true → t ≡ r) (is_spent side r || nat_le need (free side r)) r (looks side r)
    (λ q h. refl)
    (λ q h. absurd (not_both (is_spent side r) (sym (looks_spent side r) ∙ h) (neither_left (is_spent side r) (nat_le need (free side r)) q)))

set_there : {X : Type 0} (xs : List X) (n : ℕ) (x y : X) → slice_get xs n ≡ Some x → slice_get (slice_set xs n y) n ≡ Some y
set_there [] n x y q = absurd (cc)
set_there (z ∷ xs) zero x y q = refl
set_there (z ∷ xs) (suc n) x y q = set_there xs n x y q

set_same : {X : Type 0} (xs : List X) (n : ℕ) (x : X) → slice_get xs n ≡ Some x → slice_set xs n x ≡ xs
set_same [] n x q = absurd (cc)
set_same (z ∷ xs) zero x q = let e : z ≡ x = cc in ap (λ w. w ∷ xs) (sym e)
set_same (z ∷ xs) (suc n) x q = ap (λ ws. z ∷ ws) (set_same xs n x q)

room_there : (need : ℕ) (side : RingSide) (rings : List Ring) (n : ℕ) (r : Ring) → slice_get rings n ≡ Some r
    → given (slice_get rings n) no_room (room need side) ≡ spent → room need side r ≡ spent
room_there need side rings n r q h = sym (ap (λ (o : Option Ring). given o no_room (room need side)) q) ∙ h

rings_sure : (need n : ℕ) (side : RingSide) (rings : List Ring)
    → given (slice_get (changed_at n (makes_sure need side) rings) n) no_room (room need side) ≡ spent
    → changed_at n (makes_sure need side) rings ≡ rings
rings_sure need n side rings =
    by_given (λ (rs : List Ring). given (slice_get rs n) no_room (room need side) ≡ spent → rs ≡ rings) (slice_get rings n) rings
    (λ r. slice_set rings n (makes_sure need side r)) (λ h. refl)
    (λ r q h.
    let after : room need side (makes_sure need side r) ≡ spent =
    room_there need side (slice_set rings n (makes_sure need side r)) n (makes_sure need side r) (set_there rings n r (makes_sure need side r) q) h in
    let same : makes_sure need side r ≡ r = spent_sure need side r (room_spent need side (makes_sure need side r) after) in
    ap (slice_set rings n) same ∙ set_same rings n r q)

abbrev with_rings : State → List Ring → State
with_rings s rings = record s { rings = rings }

sure_same : (need : ℕ) (at : RingEnd) (s : State) → ring_room need at (ring_makes_sure need at s) ≡ spent → ring_makes_sure need at s ≡ s
sure_same need at s h = ap (with_rings s) (rings_sure need at.ring at.side s.rings h)

-- ---- making

interface_same : (i : TheInterface) (plan : PlanNo) (s : State) → Same s (adds_interface i plan s)
interface_same i plan s =
    either (Same s) (has_interface i.name s) _ _ (λ q n r. refl)
    (λ q. either (Same s) (nat_le most_interfaces (length s.interfaces)) _ _ (λ r n t. refl) (λ r n t. absurd (cc)))

cores_same : (n : ℕ) (s : State) → Same s (sets_cores n s)
cores_same n s =
    either (Same s) (not s.may_set_cores) _ _ (λ q m r. refl)
    (λ q. either (Same s) (nat_lt n 1 || nat_lt most_cores n) _ _ (λ r m t. refl) (λ r m t. absurd (cc)))

link_same : (a b size : ℕ) (s : State) → Same s (adds_link a b size s)
link_same a b size s =
    either (Same s) (not (is_core a s && is_core b s) || (a == b) || has_link a b s) _ _ (λ q n r. refl)
    (λ q. either (Same s) (not (is_ring_size size)) _ _ (λ r n t. refl) (λ r n t. absurd (cc)))

dispatcher_same : (core : ℕ) (s : State) → Same s (adds_dispatcher core s)
dispatcher_same core s =
    either (Same s) (nat_le most_dispatchers (count_dispatchers s)) _ _ (λ q n r. refl)
    (λ q. either (Same s) (not (is_core core s)) _ _ (λ r n t. refl) (λ r n t. absurd (cc)))

export_same : (name : List ℕ) (d : DispatcherId) (i : ℕ) (s : State) → Same s (exports name d i s)
export_same name d i s =
    by_given (Same s) (dispatcher_of s d) _ _ (λ n q. refl)
    (λ x q. by_given (Same s) (slice_get s.interfaces i) _ _ (λ n r. refl)
    (λ y r. either (Same s) (has_service name s) _ _ (λ t n u. refl)
    (λ t. either (Same s) (nat_le most_services (length s.services)) _ _ (λ u n v. refl) (λ u n v. absurd (cc)))))

-- ---- bindings

queues_same : (w : BindByNames) (slots : ℕ) (s : State) → Same s (binds_by_queues w slots s)
queues_same w slots s =
    either (Same s) (not (w.client.core == w.service.dispatcher.core)) _ _ (λ q n r. refl)
    (λ q. either (Same s) (nat_lt slots 1 || nat_lt 1024 slots) _ _ (λ r n t. refl)
    (λ r. either (Same s) (not (has_both_places w s)) _ _ (λ t n u. refl) (λ t n u. absurd (cc))))

ring_same : (w : BindByNames) (size : ℕ) (s : State) → Same s (binds_by_ring w size s)
ring_same w size s =
    either (Same s) (w.client.core == w.service.dispatcher.core) _ _ (λ q n r. refl)
    (λ q. either (Same s) (not (is_ring_size size)) _ _ (λ r n t. refl)
    (λ r. either (Same s) (not (has_both_places w s)) _ _ (λ t n u. refl) (λ t n u. absurd (cc))))

opening_same : (w : BindByNames) (cores : List ℕ) (k : Core) (s : State) → Same s (opens_on w cores k s)
opening_same w cores k s =
    by_given (Same s) (link_to (slice_index cores 1) k) _ _ (λ n q. refl)
    (λ l q. either (Same s) (not (has_places_for w.client 1 s)) _ _ (λ r n t. refl)
    (λ r. by_given (Same s) (next_own k.circuits l) _ _ (λ n t. refl)
    (λ c t. either (Same s) (not (can_say l k)) _ _ (λ u n v. refl) (λ u n v. absurd (cc)))))

route_same : (w : BindByNames) (cores : List ℕ) (s : State) → Same s (binds_by_route w cores s)
route_same w cores s =
    either (Same s) (not (is_route cores w.client.core w.service.dispatcher.core s)) _ _ (λ q n r. refl)
    (λ q. by_given (Same s) (core_of s w.client.core) _ _ (λ n r. refl) (λ k r. opening_same w cores k s))

kind_same : (w : BindByNames) (kind : Kind) (s : State) → Same s (binds_by w kind s)
kind_same w (by_queues slots) s = queues_same w slots s
kind_same w (by_ring size) s = ring_same w size s
kind_same w (by_route cores) s = route_same w cores s

bind_same : (client : DispatcherId) (i : ℕ) (name : List ℕ) (kind : Kind) (s : State) → Same s (binds client i name kind s)
bind_same client i name kind s =
    by_given (Same s) (dispatcher_of s client) _ _ (λ n q. refl)
    (λ d q. by_given (Same s) (slice_get s.interfaces i) _ _ (λ n r. refl)
    (λ planned r. either (Same s) (nat_le most_bindings (length s.bindings)) _ _ (λ t n u. refl)
    (λ t. by_given (Same s) (place_of_service name s.services) _ _ (λ n u. refl)
    (λ place u. by_given (Same s) (slice_get s.services place) _ _ (λ n v. refl)
    (λ service v. either (Same s) (not (service.interface == i)) _ _ (λ x n y. refl)
    (λ x. kind_same (record { client = client; interface = i; messages = length planned.interface.messages; service = service; iref = place + 1 })
    kind s))))))

-- ---- sending

call_same : (e : EndId) (c : TheCall) (s : State) → Same s (calls e c s)
call_same e c s =
    by_given (Same s) (binding_of s e) _ _ (λ n q. refl)
    (λ b q. by_given (Same s) (interface_of s b) _ _ (λ n r. refl)
    (λ i r. either (Same s) (nat_le (length i.interface.messages) c.msg) _ _ (λ t n u. refl)
    (λ t. either (Same s) (not (fits_of i.interface c)) _ _ (λ u n v. refl)
    (λ u. either (Same s) (not (is_bound (end_in e.side b))) _ _ (λ v n x. refl)
    (λ v. either (Same s) (is_busy i (end_in e.side b).out) _ _ (λ x n y. refl) (λ x n y. absurd (cc)))))))

show_same : (e : EndId) (s : State) → Same s (shows e s)
show_same e s =
    by_given (Same s) (binding_of s e) _ _ (λ n q. refl)
    (λ b q. by_given (Same s) (interface_of s b) _ _ (λ n r. refl)
    (λ i r. either (Same s) (not (is_bound (end_in e.side b))) _ _ (λ t n u. refl)
    (λ t. by_given (Same s) (next_fragment i (end_in e.side b)) _ _ (λ n u. refl)
    (λ f u. by_given (Same s) (outlet_by s e.side b.back) _ _ (λ n v. refl) (λ o v n x. refl)))))

-- where there is room, or none, a write is no refusal
room_is_none : (s t : State) (i : Planned) (d : Direction) → SameWhere s t (writes i d there_is_room).answer
room_is_none s t i d =
    either (λ (w : Wrote). SameWhere s t w.answer) (is_busy i d) _ _ (λ q n r. absurd (cc)) (λ q n r. absurd (cc))

full_is_none : (s t : State) (i : Planned) (d : Direction) → SameWhere s t (writes i d no_room).answer
full_is_none s t i d =
    either (λ (w : Wrote). SameWhere s t w.answer) (is_busy i d) _ _ (λ q n r. absurd (cc)) (λ q n r. absurd (cc))

queue_written_same : (e : EndId) (i : Planned) (d : Direction) (r : Room) (s : State) → Same s (writes_to e i d peer_queue r s)
queue_written_same e i d there_is_room s = room_is_none s _ i d
queue_written_same e i d no_room s = λ n q. refl
queue_written_same e i d spent s = λ n q. refl

ring_written_same : (e : EndId) (i : Planned) (d : Direction) (at : RingEnd) (r : Room) (s : State)
    → ring_room for_data at (ring_makes_sure for_data at s) ≡ r → Same s (writes_to e i d (ring_side at) r (ring_makes_sure for_data at s))
ring_written_same e i d at there_is_room s h = room_is_none s _ i d
ring_written_same e i d at no_room s h = full_is_none s _ i d
ring_written_same e i d at spent s h = λ n q. sure_same for_data at s h

outlet_same : (e : EndId) (i : Planned) (d : Direction) (o : Outlet) (s : State)
    → Same s (writes_to e i d o (outlet_room e o (makes_sure_of o s)) (makes_sure_of o s))
outlet_same e i d peer_queue s = queue_written_same e i d (outlet_room e peer_queue s) s
outlet_same e i d (ring_side at) s = ring_written_same e i d at (ring_room for_data at (ring_makes_sure for_data at s)) s refl

write_same : (e : EndId) (s : State) → Same s (writes_fragment e s)
write_same e s =
    by_given (Same s) (binding_of s e) _ _ (λ n q. refl)
    (λ b q. by_given (Same s) (interface_of s b) _ _ (λ n r. refl)
    (λ i r. either (Same s) (not (is_bound (end_in e.side b))) _ _ (λ t n u. refl)
    (λ t. either (Same s) (not (is_busy i (end_in e.side b).out)) _ _ (λ u n v. refl)
    (λ u. by_given (Same s) (outlet_by s e.side b.back) _ _ (λ n v. refl) (λ o v. outlet_same e i (end_in e.side b).out o s)))))

-- ---- a turn: only an unknown dispatcher is refused

taken_same : (s t : State) (e : EndId) (x : Taken) → SameWhere s t (taken_answer e x)
taken_same s t e (whole c) = λ n q. absurd (cc)
taken_same s t e a_part = λ n q. absurd (cc)

label_same : (s : State) (e : EndId) (i : Planned) (l : Label) (t : State) → Same s (takes_label e i l t)
label_same s e i (next_of sender k) t =
    by_given (Same s) (end_of t sender) _ _ (λ n q. absurd (cc)) (λ y q. taken_same s _ e (comes_to i y.out))
label_same s e i (says m) t = λ n q. absurd (cc)
label_same s e i acknowledges t = λ n q. absurd (cc)

queue_given_same : (t : Chosen) (i : Planned) (q : Queue) (s : State) → Same s (gives_from_queue t i q s)
queue_given_same t i q s =
    by_given (Same s) (slice_get q.labels 0) _ _ (λ n r. absurd (cc)) (λ l r. label_same s t.end i l _)

ring_given_same : (t : Chosen) (i : Planned) (at : RingEnd) (s : State) → Same s (gives_from_ring t i at s)
ring_given_same t i at s =
    by_given (Same s) (first_on at s) _ _ (λ n r. absurd (cc)) (λ first r. label_same s t.end i first.label _)

gives_by_same : (t : Chosen) (i : Planned) (o : Option Queue) (back : Back) (s : State) → Same s (gives_by t i o back s)
gives_by_same t i (Some q) back s = queue_given_same t i q s
gives_by_same t i None back s =
    by_given (Same s) (own_ring t.end.side back) _ _ (λ n q. refl) (λ at q. ring_given_same t i at s)

gives_same : (t : Chosen) (s : State) → Same s (gives t s)
gives_same t s =
    by_given (Same s) (binding_of s t.end) _ _ (λ n q. refl)
    (λ b q. by_given (Same s) (interface_of s b) _ _ (λ n r. refl)
    (λ i r. either (Same s) (holds_back (end_in t.end.side b)) _ _ (λ u n v. absurd (cc))
    (λ u. gives_by_same t i (end_in t.end.side b).queue b.back s)))

finds_same : (s : State) (t : Chosen) (at : RingEnd) (l : Label) (x : State) → Same s (finds t at l x)
finds_same s t at (next_of e k) x = λ n q. absurd (cc)
finds_same s t at (says m) x = λ n q. absurd (cc)
finds_same s t at acknowledges x = λ n q. absurd (cc)

examines_same : (t : Chosen) (s : State) → Same s (examines t s)
examines_same t s =
    by_given (Same s) (binding_of s t.end) _ _ (λ n q. refl)
    (λ b q. by_given (Same s) (own_ring t.end.side b.back) _ _ (λ n r. refl)
    (λ at r. by_given (Same s) (first_on at s) _ _ (λ n u. absurd (cc)) (λ first u. finds_same s t at first.label _)))

due_same : (d : DispatcherId) (x : Dispatcher) (o : Due) (s : State) → Same s (turns_by d x o s)
due_same d x (pending c) s = by_given (Same s) (slice_get x.ends c) _ _ (λ n q. refl) (λ e q. gives_same (chosen d c e) s)
due_same d x (polled c) s = by_given (Same s) (slice_get x.ends c) _ _ (λ n q. refl) (λ e q. examines_same (chosen d c e) s)
due_same d x no_one s = λ n q. refl

turn_same : (d : DispatcherId) (s : State) → Same s (turns d s)
turn_same d s = by_given (Same s) (dispatcher_of s d) _ _ (λ n q. refl) (λ x q. due_same d x (due x) s)

-- ---- what an end says of itself

told_same : (s : State) (at : RingEnd) (r : Room) (t : State) → Same s (acknowledges_by at r t)
told_same s at there_is_room t = λ n q. absurd (cc)
told_same s at no_room t = λ n q. absurd (cc)
told_same s at spent t = λ n q. absurd (cc)

acknowledged_same : (at : RingEnd) (s : State) → Same s (acknowledges_on at s)
acknowledged_same at s =
    by_given (Same s) (slice_get s.rings at.ring) _ _ (λ n q. refl)
    (λ r q. either (Same s) (not (owes at.side r)) _ _ (λ t n u. refl)
    (λ t. told_same s at (ring_room for_acknowledgement at (ring_makes_sure for_acknowledgement at s)) _))

acknowledge_same : (e : EndId) (s : State) → Same s (acknowledges_end e s)
acknowledge_same e s =
    by_given (Same s) (binding_of s e) _ _ (λ n q. refl)
    (λ b q. either (Same s) (not (is_bound (end_in e.side b))) _ _ (λ t n u. refl)
    (λ t. by_given (Same s) (own_ring e.side b.back) _ _ (λ n u. refl) (λ at u. acknowledged_same at s)))

register_same : (e : EndId) (s : State) → Same s (registers_channel e s)
register_same e s =
    by_given (Same s) (end_of s e) _ _ (λ n q. refl)
    (λ x q. either (Same s) (not (is_bound x)) _ _ (λ t n u. refl)
    (λ t. either (Same s) (has_channel_listed x s) _ _ (λ u n v. refl) (λ u n v. absurd (cc))))

deregister_same : (e : EndId) (s : State) → Same s (deregisters_channel e s)
deregister_same e s =
    by_given (Same s) (end_of s e) _ _ (λ n q. refl)
    (λ x q. either (Same s) (not (is_bound x)) _ _ (λ t n u. refl)
    (λ t. either (Same s) (not (has_channel_listed x s)) _ _ (λ u n v. refl) (λ u n v. absurd (cc))))

rule_same : (e : EndId) (msg answer : ℕ) (s : State) → Same s (sets_rule e msg answer s)
rule_same e msg answer s =
    by_given (Same s) (binding_of s e) _ _ (λ n q. refl)
    (λ b q. by_given (Same s) (interface_of s b) _ _ (λ n r. refl)
    (λ i r. either (Same s) (not (has_message msg i && has_message answer i)) _ _ (λ t n u. refl)
    (λ t. either (Same s) (not (same_arguments (arguments_of msg i) (arguments_of answer i))) _ _ (λ u n v. refl) (λ u n v. absurd (cc)))))

-- ---- links: only a link that isn't there is refused

said_by_same : (s : State) (here : LinkEnd) (m : MonitorLabel) (r : Room) (t : State) → Same s (monitor_writes_by here m r t)
said_by_same s here m there_is_room t = λ n q. absurd (cc)
said_by_same s here m no_room t = λ n q. absurd (cc)
said_by_same s here m spent t = λ n q. absurd (cc)

monitor_same : (core neighbour : ℕ) (s : State) → Same s (monitor_writes core neighbour s)
monitor_same core neighbour s =
    by_given (Same s) (link_end core neighbour s) _ _ (λ n q. refl)
    (λ here q. by_given (Same s) (link_between s core neighbour) _ _ (λ n r. refl)
    (λ link r. by_given (Same s) (slice_get link.outbox 0) _ _ (λ n t. refl)
    (λ m t. said_by_same s here m (ring_room for_data here.ring (ring_makes_sure for_data here.ring s)) _)))

monitor_acknowledge_same : (core neighbour : ℕ) (s : State) → Same s (monitor_acknowledges core neighbour s)
monitor_acknowledge_same core neighbour s =
    by_given (Same s) (link_between s core neighbour) _ _ (λ n q. refl) (λ link q. acknowledged_same link.ring s)

heard_same : (s : State) (x : Heard) (t : State) → Same s (follows x t)
heard_same s no_outbox t = λ n q. absurd (cc)
heard_same s misrouted t = λ n q. absurd (cc)
heard_same s (opening_went_on b c) t = λ n q. absurd (cc)
heard_same s (server_made b d c) t = λ n q. absurd (cc)
heard_same s (opening_failed b fault) t = λ n q. absurd (cc)
heard_same s (answer_went_on b) t = λ n q. absurd (cc)
heard_same s (end_opened e c) t = λ n q. absurd (cc)
heard_same s (end_refused e fault) t = λ n q. absurd (cc)

over_same : (s : State) (here : LinkEnd) (p : FragAtHop) (on : RingEnd) (r : Room) (t : State) → Same s (goes_on_by here p on r t)
over_same s here p on there_is_room t = λ n q. absurd (cc)
over_same s here p on no_room t = λ n q. absurd (cc)
over_same s here p on spent t = λ n q. absurd (cc)

into_same : (s : State) (here : LinkEnd) (p : FragAtHop) (to : EndId) (r : Room) (t : State) → Same s (arrives_by here p to r t)
into_same s here p to there_is_room t = λ n q. absurd (cc)
into_same s here p to no_room t = λ n q. absurd (cc)
into_same s here p to spent t = λ n q. absurd (cc)

entry_same : (s : State) (here : LinkEnd) (p : FragAtHop) (k : Core) (way : HopTarget) (t : State) → Same s (follows_entry here p k way t)
entry_same s here p k (to_link l c) t =
    by_given (Same s) (slice_get k.links l.0) _ _ (λ n q. absurd (cc))
    (λ link q. over_same s here p link.ring (ring_room for_data link.ring (ring_makes_sure for_data link.ring t)) _)
entry_same s here p k (to_end to) t =
    by_given (Same s) (end_of t to) _ _ (λ n q. absurd (cc))
    (λ x q. by_given (Same s) x.queue _ _ (λ n r. absurd (cc)) (λ y r. into_same s here p to (queue_room y) t))

passing_same : (s : State) (here : LinkEnd) (e : EndId) (number : ℕ) (t : State) → Same s (forwards_call here e number t)
passing_same s here e number t =
    by_given (Same s) (binding_of t e) _ _ (λ n q. absurd (cc))
    (λ b q. by_given (Same s) (route_of b.back) _ _ (λ n r. absurd (cc))
    (λ route r. by_given (Same s) (station_at e.side here.core route) _ _ (λ n u. absurd (cc))
    (λ station u. by_given (Same s) (core_of t here.core) _ _ (λ n v. absurd (cc))
    (λ k v. by_given (Same s) (number_between here.neighbour here.core route) _ _ (λ n w. absurd (cc))
    (λ c w. by_given (Same s) (hop_at k.circuits here.link c) _ _ (λ n x. absurd (cc))
    (λ hop x. entry_same s here (record { end = e; number = number; station = station }) k hop.way t))))))

forward_label_same : (s : State) (here : LinkEnd) (l : Label) (t : State) → Same s (forwards_label here l t)
forward_label_same s here (next_of e number) t = passing_same s here e number t
forward_label_same s here (says m) t =
    by_given (Same s) (core_of t here.core) _ _ (λ n q. absurd (cc))
    (λ k q. heard_same s (hears t.services here.link m k).heard _)
forward_label_same s here acknowledges t = λ n q. absurd (cc)

forward_same : (core neighbour : ℕ) (s : State) → Same s (forwards core neighbour s)
forward_same core neighbour s =
    by_given (Same s) (link_end core neighbour s) _ _ (λ n q. refl)
    (λ here q. by_given (Same s) (first_on here.ring s) _ _ (λ n r. refl) (λ first r. forward_label_same s here first.label _))

-- ---- the step

does_same : (v : Event) (s : State) → Same s (does v s)
does_same (add_interface i plan) s = interface_same i plan s
does_same (set_cores n) s = cores_same n s
does_same (add_link a b size) s = link_same a b size s
does_same (add_dispatcher core) s = dispatcher_same core s
does_same (export name d i) s = export_same name d i s
does_same (bind client i name kind) s = bind_same client i name kind s
does_same (call e c) s = call_same e c s
does_same (show e) s = show_same e s
does_same (write e) s = write_same e s
does_same (turn d) s = turn_same d s
does_same (ack e) s = acknowledge_same e s
does_same (register e) s = register_same e s
does_same (deregister e) s = deregister_same e s
does_same (reply e msg answer) s = rule_same e msg answer s
does_same (monitor_write core neighbour) s = monitor_same core neighbour s
does_same (forward core neighbour) s = forward_same core neighbour s
does_same (monitor_ack core neighbour) s = monitor_acknowledge_same core neighbour s

settled_same : (s t : State) (a : Answer) → SameWhere s t a → SameWhere s (settles_by a t) a
settled_same s t (refused m) h = h
settled_same s t a h = λ n q. absurd (cc)

settles_same : (s : State) (v : Event) (o : StepOutcome) → Same s o → Same s (settles v o)
settles_same s (add_interface i plan) o h = h
settles_same s v o h = settled_same s o.state o.answer h

pub refusals_same : RefusalsChangeNothing
refusals_same s v = settles_same s v (does v s) (does_same v s)
