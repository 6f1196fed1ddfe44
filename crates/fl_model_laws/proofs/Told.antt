-- The walk through the machine for what a step answers: of a state that is the one before the event (S), or still like it
-- (P), and an outcome (T). Where an answer tells of no call, nothing but P is asked; a call, a write and a fragment that is
-- taken are told by themselves.
use Rattle.std.proofs.Common.{◌≡◌, refl, ℕ, ◌+◌, ◌||◌, ◌&&◌, ◌==◌, nat_le, nat_lt, not}
use Rattle.std.proofs.Common.{Bool, true, false, if◌then◌else◌, List, length, slice_get, slice_index}
use Rattle.std.proofs.Common.{Option, Some, None}
use Rattle.fl_base.specs.declared.identity.EndId.{EndId}
use Rattle.fl_interface.specs.Interface.{TheInterface}
use Rattle.fl_value_data.specs.Value.{TheCall}
use Rattle.fl_value_data.specs.declared.value.PlanNo.{PlanNo}
use Rattle.fl_lists.specs.declared.place.Place.TheVariants.{Polled}
use Rattle.fl_hop.specs.declared.entry.HopTarget.{HopTarget}
use Rattle.fl_hop.specs.declared.entry.HopTarget.TheVariants.{Link as to_link, End as to_end}
use Rattle.fl_model.specs.Events.{DispatcherId, Kind, by_queues, by_ring, by_route, Event, add_interface, set_cores, add_link}
use Rattle.fl_model.specs.Events.{add_dispatcher, export, bind, call, show, write, turn, ack, register, deregister}
use Rattle.fl_model.specs.Events.{reply, monitor_write, forward, monitor_ack, Answer, done}
use Rattle.fl_model.specs.Events.{refused}
use Rattle.fl_model.specs.Calls.{Planned}
use Rattle.fl_model.specs.Rings.{MonitorLabel, Label, next_of, says, acknowledges, RingLabel, RingEnd, looks, Room, there_is_room}
use Rattle.fl_model.specs.Rings.{no_room, spent, puts, takes, for_data, for_acknowledgement, owes}
use Rattle.fl_model.specs.Ends.{Queue, fresh_queue, queue_room, without_first, End, is_bound, is_busy, holds_back}
use Rattle.fl_model.specs.Waits.{Dispatcher, waits_in, Due, pending, polled, no_one, due}
use Rattle.fl_model.specs.Monitors.{Core}
use Rattle.fl_model.specs.Monitors.{hears, can_say, link_to}
use Rattle.fl_model.specs.State.{local, over_ring, State, StepOutcome, answers, Outlet, peer_queue, ring_side}
use Rattle.fl_model.specs.State.{change_core, change_ring, change_end}
use Rattle.fl_model.specs.State.{dispatcher_of, binding_of, interface_of, end_of, end_in, first_on, ring_makes_sure, ring_room, in_queue, own_ring, outlet_by, link_between, core_of, number_between, station_at}
use Rattle.fl_model.specs.Making.{adds_interface, has_interface, with_interface, sets_cores, adds_link, is_core, has_link, is_ring_size, adds_dispatcher, count_dispatchers, exports, has_service, most_interfaces, most_dispatchers, most_services}
use Rattle.fl_model.specs.Binding.{BindByNames, with_new_binding, binds_both, has_both_places, has_places_for, binds_by_queues, binds_by_ring, is_route, with_circuit_begun, binds_by_route, binds_by, binds, place_of_service}
use Rattle.fl_model.specs.Sending.{calls, outlet_room, makes_sure_of, shows, next_fragment, writes_to, writes_fragment}
use Rattle.fl_model.specs.Taking.{Chosen, takes_label, goes_back, gives_from_queue, gives_from_ring, gives_by, gives, finds, examines, chosen, turns_by, turns, acknowledges_by, acknowledges_on, acknowledges_end, registers_channel, deregisters_channel, sets_rule, has_channel_listed, has_message, arguments_of}
use Rattle.fl_interface.specs.SameTypes.{same_arguments}
use Rattle.fl_model.specs.Forwarding.{LinkEnd, link_end, monitor_writes_by, monitor_writes, monitor_acknowledges, FragAtHop, goes_on_by, arrives_by, follows_entry, route_of, forwards_call, forwards_label, forwards}
use Rattle.fl_model.specs.Step.{does, settles_by, settles, step}
use Rattle.fl_model_laws.proofs.Cases.{either, by_given}
use Rattle.fl_model.specs.Forwarding.{after_hearing}
use Rattle.fl_model.specs.State.{registers_end}
use Rattle.fl_model.specs.Taking.{comes_off}
use Rattle.fl_model_laws.proofs.RingsKept.{first_looked, first_sure}
use Rattle.std.proofs.Common.{map}
use Rattle.std.specs.List.{range_with_len}
use Rattle.fl_base.specs.Numbered.{most_cores, most_bindings}
use Rattle.fl_model.specs.Monitors.{fresh_core}
use Rattle.fl_model.specs.Making.{with_new_link, with_dispatcher, with_service}
use Rattle.fl_model.specs.Ends.{accepts, with_rule}
use Rattle.fl_model.specs.State.{change_channel}
use Rattle.fl_model.specs.Waits.{deregisters}
use Rattle.fl_hop.specs.Numbers.{next_own}
use Rattle.fl_hop.specs.Table.{hop_at}
use Rattle.fl_hop.specs.declared.entry.Hop.{Hop}
use Rattle.fl_value_data.specs.Fits.{fits_of}
use Rattle.fl_model.specs.State.{Binding, Route, change_out}
use Rattle.fl_model.specs.Monitors.{Service, Link}
use Rattle.fl_lists.specs.declared.place.Place.{Place}
use Rattle.fl_lists.specs.declared.place.Place.TheVariants.{Pending}
use Rattle.fl_model_laws.proofs.Walk.{IsArriving, At, IsWanted, with_ring, BeginsRoute, IsTurn, IsHere, IsPassing}
use Rattle.fl_model.specs.Events.{accepted, handle, nothing}
use Rattle.fl_model.specs.Ends.{Direction, Wrote, writes, writes_by}
use Rattle.fl_model.specs.Monitors.{Heard, no_outbox, misrouted, opening_went_on, server_made, opening_failed, answer_went_on, end_opened, end_refused}
use Rattle.fl_model.specs.Forwarding.{follows}

-- ---- answers that tell of no call

abbrev pub IsPlain : Answer → Type 0
IsPlain accepted = ⊥
IsPlain (handle e c) = ⊥
IsPlain a = Unit {0}

found_plain : (t : Chosen) (at : RingEnd) (l : Label) (s : State) → IsPlain (finds t at l s).answer
found_plain t at (next_of e k) s = tt
found_plain t at (says m) s = tt
found_plain t at acknowledges s = tt

follows_plain : (x : Heard) (s : State) → IsPlain (follows x s).answer
follows_plain no_outbox s = tt
follows_plain misrouted s = tt
follows_plain (opening_went_on n c) s = tt
follows_plain (server_made n d c) s = tt
follows_plain (opening_failed n fault) s = tt
follows_plain (answer_went_on n) s = tt
follows_plain (end_opened e c) s = tt
follows_plain (end_refused e fault) s = tt

wrote_plain : (i : Planned) (d : Direction) (r : Room) → IsPlain (writes_by i d r).answer
wrote_plain i d there_is_room = tt
wrote_plain i d no_room = tt
wrote_plain i d spent = tt

pub writes_plain : (i : Planned) (d : Direction) (r : Room) → IsPlain (writes i d r).answer
writes_plain i d r =
    either (λ (w : Wrote). IsPlain w.answer) (is_busy i d) (writes_by i d r) (record { direction = d; answer = nothing })
    (λ q. wrote_plain i d r) (λ q. tt)

-- ---- what is to be shown

pub record Tells (v : Event) (S P : State → Type 0) (T : StepOutcome → Type 0) : Type 0 where
  pub begun : (s : State) → S s → P s
  pub plain : (o : StepOutcome) → IsPlain o.answer → P o.state → T o
  pub settled : (a : Answer) (s : State) → T (answers s a) → T (answers (record s { may_set_cores = false }) a)
  -- what tells of calls
  pub called : (e : EndId) (c : TheCall) (b : Binding) (i : Planned) (s : State) → v ≡ call e c → At s e b i
      → is_busy i (end_in e.side b).out ≡ false → P s → T (answers (change_out e (accepts c) s) accepted)
  pub written : (e : EndId) (b : Binding) (i : Planned) (o : Outlet) (s : State) → At s e b i
      → not (is_busy i (end_in e.side b).out) ≡ false → P s → T (writes_to e i (end_in e.side b).out o there_is_room s)
  pub from_queue : (t : Chosen) (b : Binding) (i : Planned) (q : Queue) (label : Label) (s : State) → IsTurn t (pending t.channel) s
      → At s t.end b i → holds_back (end_in t.end.side b) ≡ false → (end_in t.end.side b).queue ≡ Some q
      → slice_get q.labels 0 ≡ Some label → S s
      → T (takes_label t.end i label (goes_back t (waits_in (Some (without_first q))) (change_end t.end (in_queue without_first) s)))
  pub from_ring : (t : Chosen) (b : Binding) (i : Planned) (at : RingEnd) (first : RingLabel) (s : State) → IsTurn t (pending t.channel) s
      → At s t.end b i → holds_back (end_in t.end.side b) ≡ false → own_ring t.end.side b.back ≡ Some at → first_on at s ≡ Some first → S s
      → T (takes_label t.end i first.label (goes_back t Polled (change_ring at.ring (takes at.side) s)))
  -- making
  pub interface : (i : Planned) (s : State) → has_interface i.interface.name s ≡ false → P s → P (with_interface i s)
  pub cores : (n : ℕ) (s : State) → not s.may_set_cores ≡ false → P s → P (record s { cores = map fresh_core (range_with_len 0 n) })
  pub link : (a b size : ℕ) (s : State) → not (is_core a s && is_core b s) || (a == b) || has_link a b s ≡ false
      → is_ring_size size ≡ true → P s → P (with_new_link a b size s)
  pub dispatcher : (core : ℕ) (s : State) → P s → P (change_core core with_dispatcher s)
  pub service : (x : Service) (s : State) (d : Dispatcher) (i : Planned) → dispatcher_of s x.dispatcher ≡ Some d
      → slice_get s.interfaces x.interface ≡ Some i → has_service x.name s ≡ false → P s → P (with_service x s)
  -- bindings
  pub queues : (w : BindByNames) (i : Planned) (slots : ℕ) (s : State) → IsWanted w i s → not (has_both_places w s) ≡ false → P s
      → P (binds_both (length s.bindings) w (with_new_binding w local 2 (Some (fresh_queue slots)) s))
  pub ring : (w : BindByNames) (i : Planned) (size : ℕ) (s : State) → IsWanted w i s → is_ring_size size ≡ true
      → not (has_both_places w s) ≡ false → P s
      → P (binds_both (length s.bindings) w (with_new_binding w (over_ring (length s.rings)) 2 None (with_ring size s)))
  pub route : (w : BindByNames) (i : Planned) (cores : List ℕ) (k : Core) (l c : ℕ) (s : State) → IsWanted w i s
      → BeginsRoute w cores k l c s → P s → P (with_circuit_begun w cores (length s.bindings) l c s)
  -- sending
  pub sure : (need : ℕ) (at : RingEnd) (s : State) → P s → P (ring_makes_sure need at s)
  pub looked : (at : RingEnd) (s : State) → P s → P (change_ring at.ring (looks at.side) s)
  -- a turn
  pub held : (t : Chosen) (b : Binding) (i : Planned) (s : State) → IsTurn t (pending t.channel) s → At s t.end b i
      → holds_back (end_in t.end.side b) ≡ true → P s → P (goes_back t Pending s)
  pub no_label : (t : Chosen) (to : Place) (s : State) → IsTurn t (pending t.channel) s → P s → P (goes_back t to s)
  pub found_none : (t : Chosen) (s : State) → IsTurn t (polled t.channel) s → P s → P (comes_off t Polled s)
  pub found : (t : Chosen) (b : Binding) (at : RingEnd) (first : RingLabel) (s : State) → IsTurn t (polled t.channel) s
      → binding_of s t.end ≡ Some b → own_ring t.end.side b.back ≡ Some at → first_on at s ≡ Some first → P s
      → P (finds t at first.label (change_ring at.ring (looks at.side) s)).state
  -- what an end says of itself
  pub acknowledged : (at : RingEnd) (s : State) → ring_room for_acknowledgement at s ≡ there_is_room → P s
      → P (change_ring at.ring (puts at.side acknowledges) s)
  pub registered : (e : EndId) (x : End) (s : State) → end_of s e ≡ Some x → not (is_bound x) ≡ false → has_channel_listed x s ≡ false
      → P s → P (registers_end e s)
  pub deregistered : (e : EndId) (x : End) (s : State) → end_of s e ≡ Some x → not (is_bound x) ≡ false → P s
      → P (change_channel e (λ c y. deregisters c) s)
  pub ruled : (e : EndId) (msg answer : ℕ) (b : Binding) (i : Planned) (s : State) → At s e b i → P s
      → P (change_end e (with_rule msg answer) s)
  -- links
  pub monitor_written : (here : LinkEnd) (link : Link) (m : MonitorLabel) (s : State) (k : IsHere here s)
      → link_between s k.core k.neighbour ≡ Some link → slice_get link.outbox 0 ≡ Some m
      → ring_room for_data here.ring s ≡ there_is_room → P s → P (monitor_writes_by here m there_is_room s).state
  pub heard : (here : LinkEnd) (m : MonitorLabel) (first : RingLabel) (k : Core) (s : State) → IsHere here s → first_on here.ring s ≡ Some first
      → first.label ≡ says m → core_of s here.core ≡ Some k → P s → P (after_hearing here (hears s.services here.link m k) s).state
  pub passed : (here : LinkEnd) (p : FragAtHop) (first : RingLabel) (route : Route) (hop : Hop) (on : RingEnd) (s : State)
      → IsPassing here p first route hop s → ring_room for_data on s ≡ there_is_room → P s → P (goes_on_by here p on there_is_room s).state
  pub arrived : (here : LinkEnd) (p : FragAtHop) (first : RingLabel) (route : Route) (hop : Hop) (to : EndId) (s : State)
      → IsPassing here p first route hop s → IsArriving hop to s → P s → P (arrives_by here p to there_is_room s).state
  pub taken : (here : LinkEnd) (first : RingLabel) (s : State) → IsHere here s → first_on here.ring s ≡ Some first
      → first.label ≡ acknowledges → P s → P (change_ring here.ring.ring (takes here.ring.side) s)

-- ---- the walk

module _ (v : Event) (S P : State → Type 0) (T : StepOutcome → Type 0) (K : Tells v S P T) where
  interface_after : (i : TheInterface) (plan : PlanNo) (s : State) → P s → T (adds_interface i plan s)
  interface_after i plan s h =
      either T (has_interface i.name s) _ _ (λ q. K.plain _ tt h)
      (λ q. either T (nat_le most_interfaces (length s.interfaces)) _ _ (λ r. K.plain _ tt h)
      (λ r. K.plain _ tt (K.interface (record { interface = i; plan = plan }) s q h)))

  cores_after : (n : ℕ) (s : State) → P s → T (sets_cores n s)
  cores_after n s h =
      either T (not s.may_set_cores) _ _ (λ q. K.plain _ tt h)
      (λ q. either T (nat_lt n 1 || nat_lt most_cores n) _ _ (λ r. K.plain _ tt h) (λ r. K.plain _ tt (K.cores n s q h)))

  link_sized : (t : Bool) (a b size : ℕ) (s : State) → is_ring_size size ≡ t
      → not (is_core a s && is_core b s) || (a == b) || has_link a b s ≡ false → P s
      → T (if not t then answers s (refused 32) else answers (with_new_link a b size s) done)
  link_sized true a b size s e q h = K.plain _ tt (K.link a b size s q e h)
  link_sized false a b size s e q h = K.plain _ tt h

  link_after : (a b size : ℕ) (s : State) → P s → T (adds_link a b size s)
  link_after a b size s h =
      either T (not (is_core a s && is_core b s) || (a == b) || has_link a b s) _ _ (λ q. K.plain _ tt h)
      (λ q. link_sized (is_ring_size size) a b size s refl q h)

  dispatcher_after : (core : ℕ) (s : State) → P s → T (adds_dispatcher core s)
  dispatcher_after core s h =
      either T (nat_le most_dispatchers (count_dispatchers s)) _ _ (λ q. K.plain _ tt h)
      (λ q. either T (not (is_core core s)) _ _ (λ r. K.plain _ tt h) (λ r. K.plain _ tt (K.dispatcher core s h)))

  export_after : (name : List ℕ) (d : DispatcherId) (i : ℕ) (s : State) → P s → T (exports name d i s)
  export_after name d i s h =
      by_given T (dispatcher_of s d) _ _ (K.plain _ tt h)
      (λ x q. by_given T (slice_get s.interfaces i) _ _ (K.plain _ tt h)
      (λ y r. either T (has_service name s) _ _ (λ t. K.plain _ tt h)
      (λ t. either T (nat_le most_services (length s.services)) _ _ (λ u. K.plain _ tt h)
      (λ u. K.plain _ tt (K.service (record { name = name; dispatcher = d; interface = i }) s x y q r t h)))))

  queues_after : (w : BindByNames) (i : Planned) (slots : ℕ) (s : State) → IsWanted w i s → P s → T (binds_by_queues w slots s)
  queues_after w i slots s k h =
      either T (not (w.client.core == w.service.dispatcher.core)) _ _ (λ q. K.plain _ tt h)
      (λ q. either T (nat_lt slots 1 || nat_lt 1024 slots) _ _ (λ r. K.plain _ tt h)
      (λ r. either T (not (has_both_places w s)) _ _ (λ t. K.plain _ tt h) (λ t. K.plain _ tt (K.queues w i slots s k t h))))

  ring_sized : (t : Bool) (w : BindByNames) (i : Planned) (size : ℕ) (s : State) → is_ring_size size ≡ t → IsWanted w i s → P s
      → T (if not t then answers s (refused 32) else if not (has_both_places w s) then answers s (refused 54)
      else answers (binds_both (length s.bindings) w (with_new_binding w (over_ring (length s.rings)) 2 None (with_ring size s))) done)
  ring_sized false w i size s e k h = K.plain _ tt h
  ring_sized true w i size s e k h =
      either T (not (has_both_places w s)) _ _ (λ t. K.plain _ tt h) (λ t. K.plain _ tt (K.ring w i size s k e t h))

  ring_after : (w : BindByNames) (i : Planned) (size : ℕ) (s : State) → IsWanted w i s → P s → T (binds_by_ring w size s)
  ring_after w i size s k h =
      either T (w.client.core == w.service.dispatcher.core) _ _ (λ q. K.plain _ tt h) (λ q. ring_sized (is_ring_size size) w i size s refl k h)

  route_after : (w : BindByNames) (i : Planned) (cores : List ℕ) (s : State) → IsWanted w i s → P s → T (binds_by_route w cores s)
  route_after w i cores s j h =
      either T (not (is_route cores w.client.core w.service.dispatcher.core s)) _ _ (λ q. K.plain _ tt h)
      (λ q. by_given T (core_of s w.client.core) _ _ (K.plain _ tt h)
      (λ k r. by_given T (link_to (slice_index cores 1) k) _ _ (K.plain _ tt h)
      (λ l t. either T (not (has_places_for w.client 1 s)) _ _ (λ u. K.plain _ tt h)
      (λ u. by_given T (next_own k.circuits l) _ _ (K.plain _ tt h)
      (λ c v. either T (not (can_say l k)) _ _ (λ x. K.plain _ tt h)
      (λ x. K.plain _ tt (K.route w i cores k l c s j (record { route = q; core = r; link = t; places = u; number = v; outbox = x }) h)))))))

  kind_after : (w : BindByNames) (i : Planned) (kind : Kind) (s : State) → IsWanted w i s → P s → T (binds_by w kind s)
  kind_after w i (by_queues slots) s k h = queues_after w i slots s k h
  kind_after w i (by_ring size) s k h = ring_after w i size s k h
  kind_after w i (by_route cores) s k h = route_after w i cores s k h

  bind_after : (client : DispatcherId) (i : ℕ) (name : List ℕ) (kind : Kind) (s : State) → P s → T (binds client i name kind s)
  bind_after client i name kind s h =
      by_given T (dispatcher_of s client) _ _ (K.plain _ tt h)
      (λ d q. by_given T (slice_get s.interfaces i) _ _ (K.plain _ tt h)
      (λ planned r. either T (nat_le most_bindings (length s.bindings)) _ _ (λ t. K.plain _ tt h)
      (λ t. by_given T (place_of_service name s.services) _ _ (K.plain _ tt h)
      (λ place u. by_given T (slice_get s.services place) _ _ (K.plain _ tt h)
      (λ service v. either T (not (service.interface == i)) _ _ (λ x. K.plain _ tt h)
      (λ x. kind_after (record { client = client; interface = i; messages = length planned.interface.messages; service = service; iref = place + 1 })
      planned kind s (record { dispatcher = d; client = q; interface = r; messages = refl; place = place; iref = refl; service = v; same = x }) h))))))

  call_after : (e : EndId) (c : TheCall) (s : State) → v ≡ call e c → P s → T (calls e c s)
  call_after e c s u h =
      by_given T (binding_of s e) _ _ (K.plain _ tt h)
      (λ b q. by_given T (interface_of s b) _ _ (K.plain _ tt h)
      (λ i r. either T (nat_le (length i.interface.messages) c.msg) _ _ (λ t. K.plain _ tt h)
      (λ t. either T (not (fits_of i.interface c)) _ _ (λ u. K.plain _ tt h)
      (λ w. either T (not (is_bound (end_in e.side b))) _ _ (λ v. K.plain _ tt h)
      (λ v. either T (is_busy i (end_in e.side b).out) _ _ (λ x. K.plain _ tt h)
      (λ x. K.called e c b i s u (record { binding = q; interface = r }) x h))))))

  show_after : (e : EndId) (s : State) → P s → T (shows e s)
  show_after e s h =
      by_given T (binding_of s e) _ _ (K.plain _ tt h)
      (λ b q. by_given T (interface_of s b) _ _ (K.plain _ tt h)
      (λ i r. either T (not (is_bound (end_in e.side b))) _ _ (λ t. K.plain _ tt h)
      (λ t. by_given T (next_fragment i (end_in e.side b)) _ _ (K.plain _ tt h)
      (λ f u. by_given T (outlet_by s e.side b.back) _ _ (K.plain _ tt h) (λ o v. K.plain _ tt h)))))

  written_by_room : (e : EndId) (b : Binding) (i : Planned) (o : Outlet) (r : Room) (s : State) → outlet_room e o s ≡ r → At s e b i
      → not (is_bound (end_in e.side b)) ≡ false → not (is_busy i (end_in e.side b).out) ≡ false
      → outlet_by s e.side b.back ≡ Some o → P s → T (writes_to e i (end_in e.side b).out o r s)
  written_by_room e b i o there_is_room s q at t u v h = K.written e b i o s at u h
  written_by_room e b i o no_room s q at t u v h = K.plain _ (writes_plain i (end_in e.side b).out no_room) h
  written_by_room e b i o spent s q at t u v h = K.plain _ (writes_plain i (end_in e.side b).out spent) h

  written_by_outlet : (e : EndId) (b : Binding) (i : Planned) (o : Outlet) (s : State) → At s e b i
      → not (is_bound (end_in e.side b)) ≡ false → not (is_busy i (end_in e.side b).out) ≡ false
      → outlet_by s e.side b.back ≡ Some o → P s
      → T (writes_to e i (end_in e.side b).out o (outlet_room e o (makes_sure_of o s)) (makes_sure_of o s))
  written_by_outlet e b i peer_queue s at t u v h = written_by_room e b i peer_queue (outlet_room e peer_queue s) s refl at t u v h
  written_by_outlet e b i (ring_side on) s at t u v h =
      written_by_room e b i (ring_side on) (ring_room for_data on (ring_makes_sure for_data on s)) (ring_makes_sure for_data on s) refl
      (record { binding = at.binding; interface = at.interface }) t u v (K.sure for_data on s h)

  write_after : (e : EndId) (s : State) → P s → T (writes_fragment e s)
  write_after e s h =
      by_given T (binding_of s e) _ _ (K.plain _ tt h)
      (λ b q. by_given T (interface_of s b) _ _ (K.plain _ tt h)
      (λ i r. either T (not (is_bound (end_in e.side b))) _ _ (λ t. K.plain _ tt h)
      (λ t. either T (not (is_busy i (end_in e.side b).out)) _ _ (λ u. K.plain _ tt h)
      (λ u. by_given T (outlet_by s e.side b.back) _ _ (K.plain _ tt h)
      (λ o v. written_by_outlet e b i o s (record { binding = q; interface = r }) t u v h)))))

  -- a turn

  queue_after : (t : Chosen) (b : Binding) (i : Planned) (q : Queue) (s : State) → IsTurn t (pending t.channel) s → At s t.end b i
      → holds_back (end_in t.end.side b) ≡ false → (end_in t.end.side b).queue ≡ Some q → S s → T (gives_from_queue t i q s)
  queue_after t b i q s d at u v h =
      by_given T (slice_get q.labels 0) _ _ (K.plain _ tt (K.no_label t (waits_in (Some q)) s d (K.begun s h)))
      (λ l r. K.from_queue t b i q l s d at u v r h)

  ring_given_after : (t : Chosen) (b : Binding) (i : Planned) (on : RingEnd) (s : State) → IsTurn t (pending t.channel) s → At s t.end b i
      → holds_back (end_in t.end.side b) ≡ false → own_ring t.end.side b.back ≡ Some on → S s → T (gives_from_ring t i on s)
  ring_given_after t b i on s d at u v h =
      by_given T (first_on on s) _ _ (K.plain _ tt (K.no_label t Polled s d (K.begun s h))) (λ l r. K.from_ring t b i on l s d at u v r h)

  gives_by_after : (t : Chosen) (b : Binding) (i : Planned) (o : Option Queue) (s : State) → IsTurn t (pending t.channel) s → At s t.end b i
      → holds_back (end_in t.end.side b) ≡ false → (end_in t.end.side b).queue ≡ o → S s → T (gives_by t i o b.back s)
  gives_by_after t b i (Some q) s d at u v h = queue_after t b i q s d at u v h
  gives_by_after t b i None s d at u v h =
      by_given T (own_ring t.end.side b.back) _ _ (K.plain _ tt (K.begun s h)) (λ on q. ring_given_after t b i on s d at u q h)

  gives_after : (t : Chosen) (s : State) → IsTurn t (pending t.channel) s → S s → T (gives t s)
  gives_after t s d h =
      by_given T (binding_of s t.end) _ _ (K.plain _ tt (K.begun s h))
      (λ b q. by_given T (interface_of s b) _ _ (K.plain _ tt (K.begun s h))
      (λ i r. either T (holds_back (end_in t.end.side b)) _ _
      (λ u. K.plain _ tt (K.held t b i s d (record { binding = q; interface = r }) u (K.begun s h)))
      (λ u. gives_by_after t b i (end_in t.end.side b).queue s d (record { binding = q; interface = r }) u refl h)))

  examines_after : (t : Chosen) (s : State) → IsTurn t (polled t.channel) s → S s → T (examines t s)
  examines_after t s d h =
      by_given T (binding_of s t.end) _ _ (K.plain _ tt (K.begun s h))
      (λ b q. by_given T (own_ring t.end.side b.back) _ _ (K.plain _ tt (K.begun s h))
      (λ on r. by_given T (first_on on s) _ _ (K.plain _ tt (K.found_none t s d (K.begun s h)))
      (λ first u. K.plain _ (found_plain t on first.label _) (K.found t b on first s d q r u (K.begun s h)))))

  due_after : (d : DispatcherId) (x : Dispatcher) (o : Due) (s : State) → dispatcher_of s d ≡ Some x → due x ≡ o → S s → T (turns_by d x o s)
  due_after d x (pending c) s q r h =
      by_given T (slice_get x.ends c) _ _ (K.plain _ tt (K.begun s h))
      (λ e u. gives_after (chosen d c e) s (record { dispatcher = x; dispatcher_is = q; due_is = r; end_is = u }) h)
  due_after d x (polled c) s q r h =
      by_given T (slice_get x.ends c) _ _ (K.plain _ tt (K.begun s h))
      (λ e u. examines_after (chosen d c e) s (record { dispatcher = x; dispatcher_is = q; due_is = r; end_is = u }) h)
  due_after d x no_one s q r h = K.plain _ tt (K.begun s h)

  turn_after : (d : DispatcherId) (s : State) → S s → T (turns d s)
  turn_after d s h = by_given T (dispatcher_of s d) _ _ (K.plain _ tt (K.begun s h)) (λ x q. due_after d x (due x) s q refl h)

  -- what an end says of itself

  told_by_room : (on : RingEnd) (r : Room) (s : State) → ring_room for_acknowledgement on s ≡ r → P s → T (acknowledges_by on r s)
  told_by_room on there_is_room s q h = K.plain _ tt (K.acknowledged on s q h)
  told_by_room on no_room s q h = K.plain _ tt h
  told_by_room on spent s q h = K.plain _ tt h

  told_after : (on : RingEnd) (s : State) → P s → T (acknowledges_on on s)
  told_after on s h =
      by_given T (slice_get s.rings on.ring) _ _ (K.plain _ tt h)
      (λ r q. either T (not (owes on.side r)) _ _ (λ t. K.plain _ tt h)
      (λ t. told_by_room on (ring_room for_acknowledgement on (ring_makes_sure for_acknowledgement on s))
      (ring_makes_sure for_acknowledgement on s) refl (K.sure for_acknowledgement on s h)))

  acknowledge_after : (e : EndId) (s : State) → P s → T (acknowledges_end e s)
  acknowledge_after e s h =
      by_given T (binding_of s e) _ _ (K.plain _ tt h)
      (λ b q. either T (not (is_bound (end_in e.side b))) _ _ (λ t. K.plain _ tt h)
      (λ t. by_given T (own_ring e.side b.back) _ _ (K.plain _ tt h) (λ on r. told_after on s h)))

  register_after : (e : EndId) (s : State) → P s → T (registers_channel e s)
  register_after e s h =
      by_given T (end_of s e) _ _ (K.plain _ tt h)
      (λ x q. either T (not (is_bound x)) _ _ (λ t. K.plain _ tt h)
      (λ t. either T (has_channel_listed x s) _ _ (λ u. K.plain _ tt h) (λ u. K.plain _ tt (K.registered e x s q t u h))))

  deregister_after : (e : EndId) (s : State) → P s → T (deregisters_channel e s)
  deregister_after e s h =
      by_given T (end_of s e) _ _ (K.plain _ tt h)
      (λ x q. either T (not (is_bound x)) _ _ (λ t. K.plain _ tt h)
      (λ t. either T (not (has_channel_listed x s)) _ _ (λ u. K.plain _ tt h) (λ u. K.plain _ tt (K.deregistered e x s q t h))))

  rule_after : (e : EndId) (msg answer : ℕ) (s : State) → P s → T (sets_rule e msg answer s)
  rule_after e msg answer s h =
      by_given T (binding_of s e) _ _ (K.plain _ tt h)
      (λ b q. by_given T (interface_of s b) _ _ (K.plain _ tt h)
      (λ i r. either T (not (has_message msg i && has_message answer i)) _ _ (λ t. K.plain _ tt h)
      (λ t. either T (not (same_arguments (arguments_of msg i) (arguments_of answer i))) _ _ (λ u. K.plain _ tt h)
      (λ u. K.plain _ tt (K.ruled e msg answer b i s (record { binding = q; interface = r }) h)))))

  -- links

  monitor_by_room : (here : LinkEnd) (link : Link) (m : MonitorLabel) (r : Room) (s : State) → ring_room for_data here.ring s ≡ r → (k : IsHere here s)
      → link_between s k.core k.neighbour ≡ Some link → slice_get link.outbox 0 ≡ Some m → P s → T (monitor_writes_by here m r s)
  monitor_by_room here link m there_is_room s q k t u h = K.plain _ tt (K.monitor_written here link m s k t u q h)
  monitor_by_room here link m no_room s q k t u h = K.plain _ tt h
  monitor_by_room here link m spent s q k t u h = K.plain _ tt h

  monitor_acknowledge_after : (core neighbour : ℕ) (s : State) → P s → T (monitor_acknowledges core neighbour s)
  monitor_acknowledge_after core neighbour s h =
      by_given T (link_between s core neighbour) _ _ (K.plain _ tt h) (λ link q. told_after link.ring s h)

  monitor_after : (core neighbour : ℕ) (s : State) → P s → T (monitor_writes core neighbour s)
  monitor_after core neighbour s h =
      by_given T (link_end core neighbour s) _ _ (K.plain _ tt h)
      (λ here q. by_given T (link_between s core neighbour) _ _ (K.plain _ tt h)
      (λ link r. by_given T (slice_get link.outbox 0) _ _ (K.plain _ tt h)
      (λ m t. monitor_by_room here link m (ring_room for_data here.ring (ring_makes_sure for_data here.ring s))
      (ring_makes_sure for_data here.ring s) refl (record { core = core; neighbour = neighbour; here_is = q }) r t
      (K.sure for_data here.ring s h))))

  -- what stands first on a link

  passed_by_room : (here : LinkEnd) (p : FragAtHop) (first : RingLabel) (route : Route) (hop : Hop) (on : RingEnd) (r : Room) (s : State)
      → ring_room for_data on s ≡ r → IsPassing here p first route hop s → P s → T (goes_on_by here p on r s)
  passed_by_room here p first route hop on there_is_room s q k h = K.plain _ tt (K.passed here p first route hop on s k q h)
  passed_by_room here p first route hop on no_room s q k h = K.plain _ tt h
  passed_by_room here p first route hop on spent s q k h = K.plain _ tt h

  sure_passing : (here : LinkEnd) (p : FragAtHop) (first : RingLabel) (route : Route) (hop : Hop) (on : RingEnd) (s : State)
      → IsPassing here p first route hop s → IsPassing here p first route hop (ring_makes_sure for_data on s)
  sure_passing here p first route hop on s k = record {
    is_here = record { core = k.is_here.core; neighbour = k.is_here.neighbour; here_is = k.is_here.here_is };
    first_is = first_sure for_data here.ring on first s.rings k.first_is;
    label_is = k.label_is;
    binding = k.binding;
    binding_is = k.binding_is;
    route_is = k.route_is;
    station_is = k.station_is;
    core = k.core;
    core_is = k.core_is;
    number = k.number;
    number_is = k.number_is;
    hop_is = k.hop_is;
  }

  arrived_by_room : (here : LinkEnd) (p : FragAtHop) (first : RingLabel) (route : Route) (hop : Hop) (to : EndId) (x : End) (y : Queue) (r : Room)
      (s : State) → IsPassing here p first route hop s → hop.way ≡ to_end to → end_of s to ≡ Some x → x.queue ≡ Some y → queue_room y ≡ r
      → P s → T (arrives_by here p to r s)
  arrived_by_room here p first route hop to x y there_is_room s k q t u v h =
      K.plain _ tt (K.arrived here p first route hop to s k (record { way = q; end = x; end_is = t; queue = y; queue_is = u; room = v }) h)
  arrived_by_room here p first route hop to x y no_room s k q t u v h = K.plain _ tt h
  arrived_by_room here p first route hop to x y spent s k q t u v h = K.plain _ tt h

  entry_after : (here : LinkEnd) (p : FragAtHop) (first : RingLabel) (route : Route) (hop : Hop) (k : Core) (way : HopTarget) (s : State)
      → IsPassing here p first route hop s → hop.way ≡ way → P s → T (follows_entry here p k way s)
  entry_after here p first route hop k (to_link l c) s j q h =
      by_given T (slice_get k.links l.0) _ _ (K.plain _ tt h)
      (λ link r. passed_by_room here p first route hop link.ring (ring_room for_data link.ring (ring_makes_sure for_data link.ring s))
      (ring_makes_sure for_data link.ring s) refl (sure_passing here p first route hop link.ring s j) (K.sure for_data link.ring s h))
  entry_after here p first route hop k (to_end to) s j q h =
      by_given T (end_of s to) _ _ (K.plain _ tt h)
      (λ x r. by_given T x.queue _ _ (K.plain _ tt h) (λ y t. arrived_by_room here p first route hop to x y (queue_room y) s j q r t refl h))

  call_label_after : (here : LinkEnd) (e : EndId) (number : ℕ) (first : RingLabel) (s : State) → IsHere here s
      → first_on here.ring s ≡ Some first → first.label ≡ next_of e number → P s → T (forwards_call here e number s)
  call_label_after here e number first s k f l h =
      by_given T (binding_of s e) _ _ (K.plain _ tt h)
      (λ b q. by_given T (route_of b.back) _ _ (K.plain _ tt h)
      (λ route r. by_given T (station_at e.side here.core route) _ _ (K.plain _ tt h)
      (λ station t. by_given T (core_of s here.core) _ _ (K.plain _ tt h)
      (λ core u. by_given T (number_between here.neighbour here.core route) _ _ (K.plain _ tt h)
      (λ c v. by_given T (hop_at core.circuits here.link c) _ _ (K.plain _ tt h)
      (λ hop w. entry_after here (record { end = e; number = number; station = station }) first route hop core hop.way s
      (record {
        is_here = k;
        first_is = f;
        label_is = l;
        binding = b;
        binding_is = q;
        route_is = r;
        station_is = t;
        core = core;
        core_is = u;
        number = c;
        number_is = v;
        hop_is = w;
      }) refl h))))))

  label_after : (here : LinkEnd) (label : Label) (first : RingLabel) (s : State) → IsHere here s → first_on here.ring s ≡ Some first
      → first.label ≡ label → P s → T (forwards_label here label s)
  label_after here (next_of e number) first s k f l h = call_label_after here e number first s k f l h
  label_after here (says m) first s k f l h = by_given T (core_of s here.core) _ _ (K.plain _ tt h) (λ core q. K.plain _ (follows_plain _ _) (K.heard here m first core s k f l q h))
  label_after here acknowledges first s k f l h = K.plain _ tt (K.taken here first s k f l h)

  forward_after : (core neighbour : ℕ) (s : State) → P s → T (forwards core neighbour s)
  forward_after core neighbour s h =
      by_given T (link_end core neighbour s) _ _ (K.plain _ tt h)
      (λ here q. by_given T (first_on here.ring s) _ _ (K.plain _ tt h)
      (λ first r. label_after here first.label first (change_ring here.ring.ring (looks here.ring.side) s)
      (record { core = core; neighbour = neighbour; here_is = q }) (first_looked here.ring here.ring first s.rings r) refl
      (K.looked here.ring s h)))

  -- the step

  does_after : (w : Event) (s : State) → v ≡ w → S s → T (does w s)
  does_after (add_interface i plan) s q h = interface_after i plan s (K.begun s h)
  does_after (set_cores n) s q h = cores_after n s (K.begun s h)
  does_after (add_link a b size) s q h = link_after a b size s (K.begun s h)
  does_after (add_dispatcher core) s q h = dispatcher_after core s (K.begun s h)
  does_after (export name d i) s q h = export_after name d i s (K.begun s h)
  does_after (bind client i name kind) s q h = bind_after client i name kind s (K.begun s h)
  does_after (call e c) s q h = call_after e c s q (K.begun s h)
  does_after (show e) s q h = show_after e s (K.begun s h)
  does_after (write e) s q h = write_after e s (K.begun s h)
  does_after (turn d) s q h = turn_after d s h
  does_after (ack e) s q h = acknowledge_after e s (K.begun s h)
  does_after (register e) s q h = register_after e s (K.begun s h)
  does_after (deregister e) s q h = deregister_after e s (K.begun s h)
  does_after (reply e msg answer) s q h = rule_after e msg answer s (K.begun s h)
  does_after (monitor_write core neighbour) s q h = monitor_after core neighbour s (K.begun s h)
  does_after (forward core neighbour) s q h = forward_after core neighbour s (K.begun s h)
  does_after (monitor_ack core neighbour) s q h = monitor_acknowledge_after core neighbour s (K.begun s h)

  settled_by : (a : Answer) (s : State) → T (answers s a) → T (answers (settles_by a s) a)
  settled_by (refused n) s h = h
  settled_by done s h = K.settled done s h
  settled_by a s h = K.settled a s h

  settled : (w : Event) (o : StepOutcome) → T o → T (settles w o)
  settled (add_interface i plan) o h = h
  settled w o h = settled_by o.answer o.state h

  pub step_tells : (s : State) → S s → T (step s v)
  step_tells s h = settled v (does v s) (does_after v s refl h)
