-- One walk through the machine for every predicate of states: what each event does, in the few updates that are whole in
-- themselves, and what is known where each is made. A predicate that these keep is kept by each step.
use Rattle.std.proofs.Common.{◌≡◌, refl, ℕ, ◌+◌, ◌||◌, ◌&&◌, ◌==◌, nat_le, nat_lt, not}
use Rattle.std.proofs.Common.{Bool, true, false, if◌then◌else◌, List, [], ◌∷◌, ◌++◌, length, slice_get, slice_index}
use Rattle.std.proofs.Common.{Option, Some, None}
use Rattle.fl_base.specs.declared.identity.EndId.{EndId}
use Rattle.fl_interface.specs.Interface.{TheInterface}
use Rattle.fl_value_data.specs.Value.{TheCall}
use Rattle.fl_value_data.specs.declared.value.PlanNo.{PlanNo}
use Rattle.fl_lists.specs.declared.place.Place.TheVariants.{Polled}
use Rattle.fl_hop.specs.declared.entry.HopTarget.{HopTarget}
use Rattle.fl_hop.specs.declared.entry.HopTarget.TheVariants.{Link as to_link, End as to_end}
use Rattle.fl_model.specs.Events.{DispatcherId, Kind, by_queues, by_ring, by_route, Event, add_interface, set_cores, add_link}
use Rattle.fl_model.specs.Events.{add_dispatcher, export, bind, call, show, write, turn, ack, register, deregister}
use Rattle.fl_model.specs.Events.{reply, monitor_write, forward, monitor_ack, Answer, done}
use Rattle.fl_model.specs.Events.{refused}
use Rattle.fl_model.specs.Calls.{Planned}
use Rattle.fl_model.specs.Rings.{MonitorLabel, Label, next_of, says, acknowledges, RingLabel, RingEnd, looks, Room, there_is_room}
use Rattle.fl_model.specs.Rings.{no_room, spent, puts, takes, fresh_ring, for_data, for_acknowledgement, owes}
use Rattle.fl_model.specs.Ends.{Queue, fresh_queue, queue_room, without_first, End, is_bound, is_busy, holds_back}
use Rattle.fl_model.specs.Waits.{Dispatcher, waits_in, Due, pending, polled, no_one, due}
use Rattle.fl_model.specs.Monitors.{Core}
use Rattle.fl_model.specs.Monitors.{hears, can_say, link_to}
use Rattle.fl_model.specs.State.{local, over_ring, State, StepOutcome, answers, Outlet, peer_queue, ring_side}
use Rattle.fl_model.specs.State.{change_core, change_ring, change_end}
use Rattle.fl_model.specs.State.{dispatcher_of, binding_of, interface_of, end_of, end_in, first_on, ring_makes_sure, ring_room, in_queue, own_ring, outlet_by, link_between, core_of, number_between, station_at}
use Rattle.fl_model.specs.Making.{adds_interface, has_interface, with_interface, sets_cores, adds_link, is_core, has_link, is_ring_size, adds_dispatcher, count_dispatchers, exports, has_service, most_interfaces, most_dispatchers, most_services}
use Rattle.fl_model.specs.Binding.{BindByNames, with_new_binding, binds_both, has_both_places, has_places_for, binds_by_queues, binds_by_ring, is_route, with_circuit_begun, binds_by_route, binds_by, binds, place_of_service}
use Rattle.fl_model.specs.Sending.{calls, outlet_room, makes_sure_of, shows, next_fragment, writes_to, writes_fragment}
use Rattle.fl_model.specs.Taking.{Chosen, takes_label, goes_back, gives_from_queue, gives_from_ring, gives_by, gives, finds, examines, chosen, turns_by, turns, acknowledges_by, acknowledges_on, acknowledges_end, registers_channel, deregisters_channel, sets_rule, has_channel_listed, has_message, arguments_of}
use Rattle.fl_interface.specs.SameTypes.{same_arguments}
use Rattle.fl_model.specs.Forwarding.{LinkEnd, link_end, monitor_writes_by, monitor_writes, monitor_acknowledges, FragAtHop, label_of, goes_on_by, arrives_by, follows_entry, route_of, forwards_call, forwards_label, forwards}
use Rattle.fl_model.specs.Step.{does, settles_by, settles, step}
use Rattle.fl_base.specs.declared.identity.LinkId.{LinkId}
use Rattle.fl_base.specs.declared.identity.Circuit.{Circuit}
use Rattle.fl_model_laws.proofs.Cases.{either, by_given, by_given_or}
use Rattle.fl_model.specs.Runs.{reached}
use Rattle.fl_model.specs.Forwarding.{after_hearing}
use Rattle.fl_model.specs.State.{registers_end}
use Rattle.fl_model.specs.Taking.{comes_off}
use Rattle.fl_model_laws.proofs.RingsKept.{first_looked, first_sure}
use Rattle.std.proofs.Common.{map}
use Rattle.std.specs.List.{range_with_len}
use Rattle.fl_base.specs.Numbered.{most_cores, most_bindings}
use Rattle.fl_model.specs.Monitors.{fresh_core}
use Rattle.fl_model.specs.Making.{with_new_link, with_dispatcher, with_service}
use Rattle.fl_model.specs.Ends.{accepts, with_rule}
use Rattle.fl_model.specs.State.{change_channel}
use Rattle.fl_model.specs.Waits.{deregisters}
use Rattle.fl_hop.specs.Numbers.{next_own}
use Rattle.fl_model.specs.Runs.{reached}
use Rattle.fl_model.specs.Taking.{comes_off}
use Rattle.fl_hop.specs.Table.{hop_at}
use Rattle.fl_hop.specs.declared.entry.Hop.{Hop}
use Rattle.fl_value_data.specs.Fits.{fits_of}
use Rattle.fl_model.specs.State.{Binding, Route, change_out}
use Rattle.fl_model.specs.Monitors.{Service, Link}
use Rattle.fl_lists.specs.declared.place.Place.{Place}
use Rattle.fl_lists.specs.declared.place.Place.TheVariants.{Pending}
use Rattle.fl_model_laws.proofs.RingsKept.{first_looked, first_sure}

-- ---- what is known where

-- an end, its binding and its interface
pub record At (s : State) (e : EndId) (b : Binding) (i : Planned) : Type 0 where
  pub binding : binding_of s e ≡ Some b
  pub interface : interface_of s b ≡ Some i

-- a bind whose names are known
pub record IsWanted (w : BindByNames) (i : Planned) (s : State) : Type 0 where
  pub dispatcher : Dispatcher
  pub client : dispatcher_of s w.client ≡ Some dispatcher
  pub interface : slice_get s.interfaces w.interface ≡ Some i
  pub messages : w.messages ≡ length i.interface.messages
  pub place : ℕ
  pub iref : w.iref ≡ place + 1
  pub service : slice_get s.services place ≡ Some w.service
  pub same : not (w.service.interface == w.interface) ≡ false

abbrev pub with_ring : ℕ → State → State
with_ring size s = record s { rings = s.rings ++ fresh_ring size ∷ [] }

pub record BeginsRoute (w : BindByNames) (cores : List ℕ) (k : Core) (l c : ℕ) (s : State) : Type 0 where
  pub route : not (is_route cores w.client.core w.service.dispatcher.core s) ≡ false
  pub core : core_of s w.client.core ≡ Some k
  pub link : link_to (slice_index cores 1) k ≡ Some l
  pub places : not (has_places_for w.client 1 s) ≡ false
  pub number : next_own k.circuits l ≡ Some c
  pub outbox : not (can_say l k) ≡ false

-- a channel whose turn it is
pub record IsTurn (t : Chosen) (o : Due) (s : State) : Type 0 where
  pub dispatcher : Dispatcher
  pub dispatcher_is : dispatcher_of s t.dispatcher ≡ Some dispatcher
  pub due_is : due dispatcher ≡ o
  pub end_is : slice_get dispatcher.ends t.channel ≡ Some t.end

-- a core's end of a link
pub record IsHere (here : LinkEnd) (s : State) : Type 0 where
  pub core : ℕ
  pub neighbour : ℕ
  pub here_is : link_end core neighbour s ≡ Some here

-- a fragment of a call stands first for a core on a link
pub record IsPassing (here : LinkEnd) (p : FragAtHop) (first : RingLabel) (route : Route) (hop : Hop) (s : State) : Type 0 where
  pub is_here : IsHere here s
  pub first_is : first_on here.ring s ≡ Some first
  pub label_is : first.label ≡ label_of p
  pub binding : Binding
  pub binding_is : binding_of s p.end ≡ Some binding
  pub route_is : route_of binding.back ≡ Some route
  pub station_is : station_at p.end.side here.core route ≡ Some p.station
  pub core : Core
  pub core_is : core_of s here.core ≡ Some core
  pub number : ℕ
  pub number_is : number_between here.neighbour here.core route ≡ Some number
  pub hop_is : hop_at core.circuits here.link number ≡ Some hop

-- an entry leads to an end, in whose queue there is room
pub record IsArriving (hop : Hop) (to : EndId) (s : State) : Type 0 where
  pub way : hop.way ≡ to_end to
  pub end : End
  pub end_is : end_of s to ≡ Some end
  pub queue : Queue
  pub queue_is : end.queue ≡ Some queue
  pub room : queue_room queue ≡ there_is_room

-- an entry leads over a link of the core, which is on this side of a ring
pub record IsGoingOn (here : LinkEnd) (p : FragAtHop) (first : RingLabel) (route : Route) (hop : Hop) (on : RingEnd) (s : State) : Type 0 where
  pub passing : IsPassing here p first route hop s
  pub core : Core
  pub core_is : core_of s here.core ≡ Some core
  pub number : Circuit
  pub link : LinkId
  pub way : hop.way ≡ to_link link number
  pub there : Link
  pub link_is : slice_get core.links link.0 ≡ Some there
  pub ring : there.ring ≡ on

-- ---- what is to be shown of a predicate

-- a call that passes all tests but the last; and a rule that passes all
pub record Fitting (e : EndId) (c : TheCall) (b : Binding) (i : Planned) (s : State) : Type 0 where
  pub at : At s e b i
  pub message : nat_le (length i.interface.messages) c.msg ≡ false
  pub fits : not (fits_of i.interface c) ≡ false
  pub bound : not (is_bound (end_in e.side b)) ≡ false

pub record Suiting (e : EndId) (msg answer : ℕ) (b : Binding) (i : Planned) (s : State) : Type 0 where
  pub at : At s e b i
  pub messages : not (has_message msg i && has_message answer i) ≡ false
  pub same : not (same_arguments (arguments_of msg i) (arguments_of answer i)) ≡ false

-- or of either no more than where it is asked for
abbrev pub CalledAt : EndId → TheCall → Binding → Planned → State → Type 0
CalledAt e c b i s = At s e b i

abbrev pub RuledAt : EndId → ℕ → ℕ → Binding → Planned → State → Type 0
RuledAt e msg answer b i s = At s e b i

-- and of a fragment that goes on, only where it was
abbrev pub PassedAt : LinkEnd → FragAtHop → RingLabel → Route → Hop → RingEnd → State → Type 0
PassedAt here p first route hop on s = IsPassing here p first route hop s

-- what a world makes within a limit
pub data Making : Type 0 where
  an_interface : Making
  so_many_cores : ℕ → Making
  a_service : Making
  a_binding : Making

-- there is room for it
abbrev pub HasRoom : Making → State → Type 0
HasRoom an_interface s = nat_le most_interfaces (length s.interfaces) ≡ false
HasRoom (so_many_cores n) s = nat_lt n 1 || nat_lt most_cores n ≡ false
HasRoom a_service s = nat_le most_services (length s.services) ≡ false
HasRoom a_binding s = nat_le most_bindings (length s.bindings) ≡ false

-- a pending channel at which no fragment stands, and the list that it goes to
pub data FindsNone (t : Chosen) (b : Binding) (s : State) : Place → Type 0 where
  in_queue_none : (q : Queue) → (end_in t.end.side b).queue ≡ Some q → slice_get q.labels 0 ≡ None → FindsNone t b s (waits_in (Some q))
  on_ring_none : (at : RingEnd) → own_ring t.end.side b.back ≡ Some at → first_on at s ≡ None → FindsNone t b s Polled

pub record IsWithout (t : Chosen) (to : Place) (s : State) : Type 0 where
  pub turn : IsTurn t (pending t.channel) s
  pub binding : Binding
  pub there : binding_of s t.end ≡ Some binding
  pub none : FindsNone t binding s to

-- or of either no more than the state that it is in
abbrev pub MadeIn : (State → Type 0) → Making → State → Type 0
MadeIn P m s = P s

abbrev pub TurnAt : Chosen → Place → State → Type 0
TurnAt t to s = IsTurn t (pending t.channel) s

-- from a state of which P holds, each update leads to one of which Q holds; what only looks keeps P. What is known
-- of a call, of a rule and of a fragment that goes on, where there is a limit, and of a pending channel without a fragment, is given
pub record KeepsWithin (Called : EndId → TheCall → Binding → Planned → State → Type 0)
    (Ruled : EndId → ℕ → ℕ → Binding → Planned → State → Type 0)
    (Passed : LinkEnd → FragAtHop → RingLabel → Route → Hop → RingEnd → State → Type 0) (Made : Making → State → Type 0)
    (Without : Chosen → Place → State → Type 0) (P Q : State → Type 0) : Type 0 where
  -- making
  pub settled : (s : State) → Q s → Q (record s { may_set_cores = false })
  pub interface : (i : Planned) (s : State) → has_interface i.interface.name s ≡ false → Made an_interface s → Q (with_interface i s)
  pub cores : (n : ℕ) (s : State) → not s.may_set_cores ≡ false → Made (so_many_cores n) s → Q (record s { cores = map fresh_core (range_with_len 0 n) })
  pub link : (a b size : ℕ) (s : State) → not (is_core a s && is_core b s) || (a == b) || has_link a b s ≡ false
      → is_ring_size size ≡ true → P s → Q (with_new_link a b size s)
  pub dispatcher : (core : ℕ) (s : State) → P s → Q (change_core core with_dispatcher s)
  pub service : (x : Service) (s : State) (d : Dispatcher) (i : Planned) → dispatcher_of s x.dispatcher ≡ Some d
      → slice_get s.interfaces x.interface ≡ Some i → has_service x.name s ≡ false → Made a_service s → Q (with_service x s)
  -- bindings
  pub queues : (w : BindByNames) (i : Planned) (slots : ℕ) (s : State) → IsWanted w i s → not (has_both_places w s) ≡ false → Made a_binding s
      → Q (binds_both (length s.bindings) w (with_new_binding w local 2 (Some (fresh_queue slots)) s))
  pub ring : (w : BindByNames) (i : Planned) (size : ℕ) (s : State) → IsWanted w i s → is_ring_size size ≡ true
      → not (has_both_places w s) ≡ false → Made a_binding s
      → Q (binds_both (length s.bindings) w (with_new_binding w (over_ring (length s.rings)) 2 None (with_ring size s)))
  pub route : (w : BindByNames) (i : Planned) (cores : List ℕ) (k : Core) (l c : ℕ) (s : State) → IsWanted w i s
      → BeginsRoute w cores k l c s → Made a_binding s → Q (with_circuit_begun w cores (length s.bindings) l c s)
  -- sending
  pub called : (e : EndId) (c : TheCall) (b : Binding) (i : Planned) (s : State) → Called e c b i s
      → is_busy i (end_in e.side b).out ≡ false → P s → Q (change_out e (accepts c) s)
  pub sure : (need : ℕ) (at : RingEnd) (s : State) → P s → P (ring_makes_sure need at s)
  pub looked : (at : RingEnd) (s : State) → P s → P (change_ring at.ring (looks at.side) s)
  pub written : (e : EndId) (b : Binding) (i : Planned) (o : Outlet) (s : State) → At s e b i
      → not (is_bound (end_in e.side b)) ≡ false → not (is_busy i (end_in e.side b).out) ≡ false
      → outlet_by s e.side b.back ≡ Some o → outlet_room e o s ≡ there_is_room → P s
      → Q (writes_to e i (end_in e.side b).out o there_is_room s).state
  -- a turn
  pub held : (t : Chosen) (b : Binding) (i : Planned) (s : State) → IsTurn t (pending t.channel) s → At s t.end b i
      → holds_back (end_in t.end.side b) ≡ true → P s → Q (goes_back t Pending s)
  pub no_label : (t : Chosen) (to : Place) (s : State) → Without t to s → P s → Q (goes_back t to s)
  pub from_queue : (t : Chosen) (b : Binding) (i : Planned) (q : Queue) (label : Label) (s : State) → IsTurn t (pending t.channel) s
      → At s t.end b i → holds_back (end_in t.end.side b) ≡ false → (end_in t.end.side b).queue ≡ Some q
      → slice_get q.labels 0 ≡ Some label → P s
      → Q (takes_label t.end i label (goes_back t (waits_in (Some (without_first q))) (change_end t.end (in_queue without_first) s))).state
  pub from_ring : (t : Chosen) (b : Binding) (i : Planned) (at : RingEnd) (first : RingLabel) (s : State) → IsTurn t (pending t.channel) s
      → At s t.end b i → holds_back (end_in t.end.side b) ≡ false → own_ring t.end.side b.back ≡ Some at → first_on at s ≡ Some first → P s
      → Q (takes_label t.end i first.label (goes_back t Polled (change_ring at.ring (takes at.side) s))).state
  pub found_none : (t : Chosen) (s : State) → IsTurn t (polled t.channel) s → P s → Q (comes_off t Polled s)
  pub found : (t : Chosen) (b : Binding) (at : RingEnd) (first : RingLabel) (s : State) → IsTurn t (polled t.channel) s
      → binding_of s t.end ≡ Some b → own_ring t.end.side b.back ≡ Some at → first_on at s ≡ Some first → P s
      → Q (finds t at first.label (change_ring at.ring (looks at.side) s)).state
  -- what an end says of itself
  pub acknowledged : (at : RingEnd) (s : State) → ring_room for_acknowledgement at s ≡ there_is_room → P s
      → Q (change_ring at.ring (puts at.side acknowledges) s)
  pub registered : (e : EndId) (x : End) (s : State) → end_of s e ≡ Some x → not (is_bound x) ≡ false → has_channel_listed x s ≡ false
      → P s → Q (registers_end e s)
  pub deregistered : (e : EndId) (x : End) (s : State) → end_of s e ≡ Some x → not (is_bound x) ≡ false → P s
      → Q (change_channel e (λ c y. deregisters c) s)
  pub ruled : (e : EndId) (msg answer : ℕ) (b : Binding) (i : Planned) (s : State) → Ruled e msg answer b i s → P s
      → Q (change_end e (with_rule msg answer) s)
  -- links
  pub monitor_written : (here : LinkEnd) (link : Link) (m : MonitorLabel) (s : State) (k : IsHere here s)
      → link_between s k.core k.neighbour ≡ Some link → slice_get link.outbox 0 ≡ Some m
      → ring_room for_data here.ring s ≡ there_is_room → P s → Q (monitor_writes_by here m there_is_room s).state
  pub heard : (here : LinkEnd) (m : MonitorLabel) (first : RingLabel) (k : Core) (s : State) → IsHere here s → first_on here.ring s ≡ Some first
      → first.label ≡ says m → core_of s here.core ≡ Some k → P s → Q (after_hearing here (hears s.services here.link m k) s).state
  pub passed : (here : LinkEnd) (p : FragAtHop) (first : RingLabel) (route : Route) (hop : Hop) (on : RingEnd) (s : State)
      → Passed here p first route hop on s → ring_room for_data on s ≡ there_is_room → P s → Q (goes_on_by here p on there_is_room s).state
  pub arrived : (here : LinkEnd) (p : FragAtHop) (first : RingLabel) (route : Route) (hop : Hop) (to : EndId) (s : State)
      → IsPassing here p first route hop s → IsArriving hop to s → P s → Q (arrives_by here p to there_is_room s).state
  pub taken : (here : LinkEnd) (first : RingLabel) (s : State) → IsHere here s → first_on here.ring s ≡ Some first
      → first.label ≡ acknowledges → P s → Q (change_ring here.ring.ring (takes here.ring.side) s)

-- as it is without the limits and the fragment of a pending channel
abbrev pub KeepsUnder : (EndId → TheCall → Binding → Planned → State → Type 0) → (EndId → ℕ → ℕ → Binding → Planned → State → Type 0)
    → (LinkEnd → FragAtHop → RingLabel → Route → Hop → RingEnd → State → Type 0) → (P Q : State → Type 0) → Type 0
KeepsUnder Called Ruled Passed P Q = KeepsWithin Called Ruled Passed (MadeIn P) TurnAt P Q

abbrev pub KeepsFrom : (P Q : State → Type 0) → Type 0
KeepsFrom P Q = KeepsUnder CalledAt RuledAt PassedAt P Q

-- each update keeps P
abbrev pub Keeps : (State → Type 0) → Type 0
Keeps P = KeepsFrom P P

-- ---- the walk

abbrev pub After : (State → Type 0) → StepOutcome → Type 0
After P o = P o.state

module _ (Called : EndId → TheCall → Binding → Planned → State → Type 0) (Ruled : EndId → ℕ → ℕ → Binding → Planned → State → Type 0)
    (Passed : LinkEnd → FragAtHop → RingLabel → Route → Hop → RingEnd → State → Type 0)
    (fitting : (e : EndId) (c : TheCall) (b : Binding) (i : Planned) (s : State) → Fitting e c b i s → Called e c b i s)
    (suiting : (e : EndId) (msg answer : ℕ) (b : Binding) (i : Planned) (s : State) → Suiting e msg answer b i s → Ruled e msg answer b i s)
    (onward : (here : LinkEnd) (p : FragAtHop) (first : RingLabel) (route : Route) (hop : Hop) (on : RingEnd) (s : State)
    → IsGoingOn here p first route hop on s → Passed here p first route hop on s)
    (Made : Making → State → Type 0) (Without : Chosen → Place → State → Type 0) (P Q : State → Type 0)
    (making : (m : Making) (s : State) → HasRoom m s → P s → Made m s)
    (without : (t : Chosen) (to : Place) (s : State) → IsWithout t to s → Without t to s)
    (weaker : (s : State) → P s → Q s) (K : KeepsWithin Called Ruled Passed Made Without P Q) where
  interface_after : (i : TheInterface) (plan : PlanNo) (s : State) → P s → After Q (adds_interface i plan s)
  interface_after i plan s h =
      either (After Q) (has_interface i.name s) _ _ (λ q. weaker s h)
      (λ q. either (After Q) (nat_le most_interfaces (length s.interfaces)) _ _ (λ r. weaker s h)
      (λ r. K.interface (record { interface = i; plan = plan }) s q (making an_interface s r h)))

  cores_after : (n : ℕ) (s : State) → P s → After Q (sets_cores n s)
  cores_after n s h =
      either (After Q) (not s.may_set_cores) _ _ (λ q. weaker s h)
      (λ q. either (After Q) (nat_lt n 1 || nat_lt most_cores n) _ _ (λ r. weaker s h) (λ r. K.cores n s q (making (so_many_cores n) s r h)))

  link_sized : (t : Bool) (a b size : ℕ) (s : State) → is_ring_size size ≡ t
      → not (is_core a s && is_core b s) || (a == b) || has_link a b s ≡ false → P s
      → After Q (if not t then answers s (refused 32) else answers (with_new_link a b size s) done)
  link_sized true a b size s e q h = K.link a b size s q e h
  link_sized false a b size s e q h = weaker s h

  link_after : (a b size : ℕ) (s : State) → P s → After Q (adds_link a b size s)
  link_after a b size s h =
      either (After Q) (not (is_core a s && is_core b s) || (a == b) || has_link a b s) _ _ (λ q. weaker s h)
      (λ q. link_sized (is_ring_size size) a b size s refl q h)

  dispatcher_after : (core : ℕ) (s : State) → P s → After Q (adds_dispatcher core s)
  dispatcher_after core s h =
      either (After Q) (nat_le most_dispatchers (count_dispatchers s)) _ _ (λ q. weaker s h)
      (λ q. either (After Q) (not (is_core core s)) _ _ (λ r. weaker s h) (λ r. K.dispatcher core s h))

  export_after : (name : List ℕ) (d : DispatcherId) (i : ℕ) (s : State) → P s → After Q (exports name d i s)
  export_after name d i s h =
      by_given (After Q) (dispatcher_of s d) _ _ (weaker s h)
      (λ x q. by_given (After Q) (slice_get s.interfaces i) _ _ (weaker s h)
      (λ y r. either (After Q) (has_service name s) _ _ (λ t. weaker s h)
      (λ t. either (After Q) (nat_le most_services (length s.services)) _ _ (λ u. weaker s h)
      (λ u. K.service (record { name = name; dispatcher = d; interface = i }) s x y q r t (making a_service s u h)))))

  queues_after : (w : BindByNames) (i : Planned) (slots : ℕ) (s : State) → IsWanted w i s → HasRoom a_binding s → P s → After Q (binds_by_queues w slots s)
  queues_after w i slots s k m h =
      either (After Q) (not (w.client.core == w.service.dispatcher.core)) _ _ (λ q. weaker s h)
      (λ q. either (After Q) (nat_lt slots 1 || nat_lt 1024 slots) _ _ (λ r. weaker s h)
      (λ r. either (After Q) (not (has_both_places w s)) _ _ (λ t. weaker s h) (λ t. K.queues w i slots s k t (making a_binding s m h))))

  ring_sized : (t : Bool) (w : BindByNames) (i : Planned) (size : ℕ) (s : State) → is_ring_size size ≡ t → IsWanted w i s → HasRoom a_binding s → P s
      → After Q (if not t then answers s (refused 32) else if not (has_both_places w s) then answers s (refused 54)
      else answers (binds_both (length s.bindings) w (with_new_binding w (over_ring (length s.rings)) 2 None (with_ring size s))) done)
  ring_sized false w i size s e k m h = weaker s h
  ring_sized true w i size s e k m h =
      either (After Q) (not (has_both_places w s)) _ _ (λ t. weaker s h) (λ t. K.ring w i size s k e t (making a_binding s m h))

  ring_after : (w : BindByNames) (i : Planned) (size : ℕ) (s : State) → IsWanted w i s → HasRoom a_binding s → P s → After Q (binds_by_ring w size s)
  ring_after w i size s k m h =
      either (After Q) (w.client.core == w.service.dispatcher.core) _ _ (λ q. weaker s h) (λ q. ring_sized (is_ring_size size) w i size s refl k m h)

  route_after : (w : BindByNames) (i : Planned) (cores : List ℕ) (s : State) → IsWanted w i s → HasRoom a_binding s → P s → After Q (binds_by_route w cores s)
  route_after w i cores s j m h =
      either (After Q) (not (is_route cores w.client.core w.service.dispatcher.core s)) _ _ (λ q. weaker s h)
      (λ q. by_given (After Q) (core_of s w.client.core) _ _ (weaker s h)
      (λ k r. by_given (After Q) (link_to (slice_index cores 1) k) _ _ (weaker s h)
      (λ l t. either (After Q) (not (has_places_for w.client 1 s)) _ _ (λ u. weaker s h)
      (λ u. by_given (After Q) (next_own k.circuits l) _ _ (weaker s h)
      (λ c v. either (After Q) (not (can_say l k)) _ _ (λ x. weaker s h)
      (λ x. K.route w i cores k l c s j (record { route = q; core = r; link = t; places = u; number = v; outbox = x }) (making a_binding s m h)))))))

  kind_after : (w : BindByNames) (i : Planned) (kind : Kind) (s : State) → IsWanted w i s → HasRoom a_binding s → P s → After Q (binds_by w kind s)
  kind_after w i (by_queues slots) s k m h = queues_after w i slots s k m h
  kind_after w i (by_ring size) s k m h = ring_after w i size s k m h
  kind_after w i (by_route cores) s k m h = route_after w i cores s k m h

  bind_after : (client : DispatcherId) (i : ℕ) (name : List ℕ) (kind : Kind) (s : State) → P s → After Q (binds client i name kind s)
  bind_after client i name kind s h =
      by_given (After Q) (dispatcher_of s client) _ _ (weaker s h)
      (λ d q. by_given (After Q) (slice_get s.interfaces i) _ _ (weaker s h)
      (λ planned r. either (After Q) (nat_le most_bindings (length s.bindings)) _ _ (λ t. weaker s h)
      (λ t. by_given (After Q) (place_of_service name s.services) _ _ (weaker s h)
      (λ place u. by_given (After Q) (slice_get s.services place) _ _ (weaker s h)
      (λ service v. either (After Q) (not (service.interface == i)) _ _ (λ x. weaker s h)
      (λ x. kind_after (record { client = client; interface = i; messages = length planned.interface.messages; service = service; iref = place + 1 })
      planned kind s (record { dispatcher = d; client = q; interface = r; messages = refl; place = place; iref = refl; service = v; same = x }) t h))))))

  call_after : (e : EndId) (c : TheCall) (s : State) → P s → After Q (calls e c s)
  call_after e c s h =
      by_given (After Q) (binding_of s e) _ _ (weaker s h)
      (λ b q. by_given (After Q) (interface_of s b) _ _ (weaker s h)
      (λ i r. either (After Q) (nat_le (length i.interface.messages) c.msg) _ _ (λ t. weaker s h)
      (λ t. either (After Q) (not (fits_of i.interface c)) _ _ (λ u. weaker s h)
      (λ u. either (After Q) (not (is_bound (end_in e.side b))) _ _ (λ v. weaker s h)
      (λ v. either (After Q) (is_busy i (end_in e.side b).out) _ _ (λ x. weaker s h)
      (λ x. K.called e c b i s (fitting e c b i s (record { at = record { binding = q; interface = r }; message = t; fits = u; bound = v })) x h))))))

  show_after : (e : EndId) (s : State) → P s → After Q (shows e s)
  show_after e s h =
      by_given (After Q) (binding_of s e) _ _ (weaker s h)
      (λ b q. by_given (After Q) (interface_of s b) _ _ (weaker s h)
      (λ i r. either (After Q) (not (is_bound (end_in e.side b))) _ _ (λ t. weaker s h)
      (λ t. by_given (After Q) (next_fragment i (end_in e.side b)) _ _ (weaker s h)
      (λ f u. by_given (After Q) (outlet_by s e.side b.back) _ _ (weaker s h) (λ o v. weaker s h)))))

  written_by_room : (e : EndId) (b : Binding) (i : Planned) (o : Outlet) (r : Room) (s : State) → outlet_room e o s ≡ r → At s e b i
      → not (is_bound (end_in e.side b)) ≡ false → not (is_busy i (end_in e.side b).out) ≡ false
      → outlet_by s e.side b.back ≡ Some o → P s → After Q (writes_to e i (end_in e.side b).out o r s)
  written_by_room e b i o there_is_room s q at t u v h = K.written e b i o s at t u v q h
  written_by_room e b i o no_room s q at t u v h = weaker s h
  written_by_room e b i o spent s q at t u v h = weaker s h

  written_by_outlet : (e : EndId) (b : Binding) (i : Planned) (o : Outlet) (s : State) → At s e b i
      → not (is_bound (end_in e.side b)) ≡ false → not (is_busy i (end_in e.side b).out) ≡ false
      → outlet_by s e.side b.back ≡ Some o → P s
      → After Q (writes_to e i (end_in e.side b).out o (outlet_room e o (makes_sure_of o s)) (makes_sure_of o s))
  written_by_outlet e b i peer_queue s at t u v h = written_by_room e b i peer_queue (outlet_room e peer_queue s) s refl at t u v h
  written_by_outlet e b i (ring_side on) s at t u v h =
      written_by_room e b i (ring_side on) (ring_room for_data on (ring_makes_sure for_data on s)) (ring_makes_sure for_data on s) refl
      (record { binding = at.binding; interface = at.interface }) t u v (K.sure for_data on s h)

  write_after : (e : EndId) (s : State) → P s → After Q (writes_fragment e s)
  write_after e s h =
      by_given (After Q) (binding_of s e) _ _ (weaker s h)
      (λ b q. by_given (After Q) (interface_of s b) _ _ (weaker s h)
      (λ i r. either (After Q) (not (is_bound (end_in e.side b))) _ _ (λ t. weaker s h)
      (λ t. either (After Q) (not (is_busy i (end_in e.side b).out)) _ _ (λ u. weaker s h)
      (λ u. by_given (After Q) (outlet_by s e.side b.back) _ _ (weaker s h)
      (λ o v. written_by_outlet e b i o s (record { binding = q; interface = r }) t u v h)))))

  -- a turn

  queue_after : (t : Chosen) (b : Binding) (i : Planned) (q : Queue) (s : State) → IsTurn t (pending t.channel) s → At s t.end b i
      → holds_back (end_in t.end.side b) ≡ false → (end_in t.end.side b).queue ≡ Some q → P s → After Q (gives_from_queue t i q s)
  queue_after t b i q s d at u v h =
      by_given_or (After Q) (slice_get q.labels 0) _ _
      (λ none. K.no_label t (waits_in (Some q)) s
      (without t (waits_in (Some q)) s (record { turn = d; binding = b; there = at.binding; none = in_queue_none q v none })) h)
      (λ l r. K.from_queue t b i q l s d at u v r h)

  ring_given_after : (t : Chosen) (b : Binding) (i : Planned) (on : RingEnd) (s : State) → IsTurn t (pending t.channel) s → At s t.end b i
      → holds_back (end_in t.end.side b) ≡ false → own_ring t.end.side b.back ≡ Some on → P s → After Q (gives_from_ring t i on s)
  ring_given_after t b i on s d at u v h =
      by_given_or (After Q) (first_on on s) _ _
      (λ none. K.no_label t Polled s (without t Polled s (record { turn = d; binding = b; there = at.binding; none = on_ring_none on v none })) h)
      (λ l r. K.from_ring t b i on l s d at u v r h)

  gives_by_after : (t : Chosen) (b : Binding) (i : Planned) (o : Option Queue) (s : State) → IsTurn t (pending t.channel) s → At s t.end b i
      → holds_back (end_in t.end.side b) ≡ false → (end_in t.end.side b).queue ≡ o → P s → After Q (gives_by t i o b.back s)
  gives_by_after t b i (Some q) s d at u v h = queue_after t b i q s d at u v h
  gives_by_after t b i None s d at u v h =
      by_given (After Q) (own_ring t.end.side b.back) _ _ (weaker s h) (λ on q. ring_given_after t b i on s d at u q h)

  gives_after : (t : Chosen) (s : State) → IsTurn t (pending t.channel) s → P s → After Q (gives t s)
  gives_after t s d h =
      by_given (After Q) (binding_of s t.end) _ _ (weaker s h)
      (λ b q. by_given (After Q) (interface_of s b) _ _ (weaker s h)
      (λ i r. either (After Q) (holds_back (end_in t.end.side b)) _ _
      (λ u. K.held t b i s d (record { binding = q; interface = r }) u h)
      (λ u. gives_by_after t b i (end_in t.end.side b).queue s d (record { binding = q; interface = r }) u refl h)))

  examines_after : (t : Chosen) (s : State) → IsTurn t (polled t.channel) s → P s → After Q (examines t s)
  examines_after t s d h =
      by_given (After Q) (binding_of s t.end) _ _ (weaker s h)
      (λ b q. by_given (After Q) (own_ring t.end.side b.back) _ _ (weaker s h)
      (λ on r. by_given (After Q) (first_on on s) _ _ (K.found_none t s d h)
      (λ first u. K.found t b on first s d q r u h)))

  due_after : (d : DispatcherId) (x : Dispatcher) (o : Due) (s : State) → dispatcher_of s d ≡ Some x → due x ≡ o → P s → After Q (turns_by d x o s)
  due_after d x (pending c) s q r h =
      by_given (After Q) (slice_get x.ends c) _ _ (weaker s h)
      (λ e u. gives_after (chosen d c e) s (record { dispatcher = x; dispatcher_is = q; due_is = r; end_is = u }) h)
  due_after d x (polled c) s q r h =
      by_given (After Q) (slice_get x.ends c) _ _ (weaker s h)
      (λ e u. examines_after (chosen d c e) s (record { dispatcher = x; dispatcher_is = q; due_is = r; end_is = u }) h)
  due_after d x no_one s q r h = weaker s h

  turn_after : (d : DispatcherId) (s : State) → P s → After Q (turns d s)
  turn_after d s h = by_given (After Q) (dispatcher_of s d) _ _ (weaker s h) (λ x q. due_after d x (due x) s q refl h)

  -- what an end says of itself

  told_by_room : (on : RingEnd) (r : Room) (s : State) → ring_room for_acknowledgement on s ≡ r → P s → After Q (acknowledges_by on r s)
  told_by_room on there_is_room s q h = K.acknowledged on s q h
  told_by_room on no_room s q h = weaker s h
  told_by_room on spent s q h = weaker s h

  told_after : (on : RingEnd) (s : State) → P s → After Q (acknowledges_on on s)
  told_after on s h =
      by_given (After Q) (slice_get s.rings on.ring) _ _ (weaker s h)
      (λ r q. either (After Q) (not (owes on.side r)) _ _ (λ t. weaker s h)
      (λ t. told_by_room on (ring_room for_acknowledgement on (ring_makes_sure for_acknowledgement on s))
      (ring_makes_sure for_acknowledgement on s) refl (K.sure for_acknowledgement on s h)))

  acknowledge_after : (e : EndId) (s : State) → P s → After Q (acknowledges_end e s)
  acknowledge_after e s h =
      by_given (After Q) (binding_of s e) _ _ (weaker s h)
      (λ b q. either (After Q) (not (is_bound (end_in e.side b))) _ _ (λ t. weaker s h)
      (λ t. by_given (After Q) (own_ring e.side b.back) _ _ (weaker s h) (λ on r. told_after on s h)))

  register_after : (e : EndId) (s : State) → P s → After Q (registers_channel e s)
  register_after e s h =
      by_given (After Q) (end_of s e) _ _ (weaker s h)
      (λ x q. either (After Q) (not (is_bound x)) _ _ (λ t. weaker s h)
      (λ t. either (After Q) (has_channel_listed x s) _ _ (λ u. weaker s h) (λ u. K.registered e x s q t u h)))

  deregister_after : (e : EndId) (s : State) → P s → After Q (deregisters_channel e s)
  deregister_after e s h =
      by_given (After Q) (end_of s e) _ _ (weaker s h)
      (λ x q. either (After Q) (not (is_bound x)) _ _ (λ t. weaker s h)
      (λ t. either (After Q) (not (has_channel_listed x s)) _ _ (λ u. weaker s h) (λ u. K.deregistered e x s q t h)))

  rule_after : (e : EndId) (msg answer : ℕ) (s : State) → P s → After Q (sets_rule e msg answer s)
  rule_after e msg answer s h =
      by_given (After Q) (binding_of s e) _ _ (weaker s h)
      (λ b q. by_given (After Q) (interface_of s b) _ _ (weaker s h)
      (λ i r. either (After Q) (not (has_message msg i && has_message answer i)) _ _ (λ t. weaker s h)
      (λ t. either (After Q) (not (same_arguments (arguments_of msg i) (arguments_of answer i))) _ _ (λ u. weaker s h)
      (λ u. K.ruled e msg answer b i s (suiting e msg answer b i s (record { at = record { binding = q; interface = r }; messages = t; same = u })) h))))

  -- links

  monitor_by_room : (here : LinkEnd) (link : Link) (m : MonitorLabel) (r : Room) (s : State) → ring_room for_data here.ring s ≡ r → (k : IsHere here s)
      → link_between s k.core k.neighbour ≡ Some link → slice_get link.outbox 0 ≡ Some m → P s → After Q (monitor_writes_by here m r s)
  monitor_by_room here link m there_is_room s q k t u h = K.monitor_written here link m s k t u q h
  monitor_by_room here link m no_room s q k t u h = weaker s h
  monitor_by_room here link m spent s q k t u h = weaker s h

  monitor_acknowledge_after : (core neighbour : ℕ) (s : State) → P s → After Q (monitor_acknowledges core neighbour s)
  monitor_acknowledge_after core neighbour s h =
      by_given (After Q) (link_between s core neighbour) _ _ (weaker s h) (λ link q. told_after link.ring s h)

  monitor_after : (core neighbour : ℕ) (s : State) → P s → After Q (monitor_writes core neighbour s)
  monitor_after core neighbour s h =
      by_given (After Q) (link_end core neighbour s) _ _ (weaker s h)
      (λ here q. by_given (After Q) (link_between s core neighbour) _ _ (weaker s h)
      (λ link r. by_given (After Q) (slice_get link.outbox 0) _ _ (weaker s h)
      (λ m t. monitor_by_room here link m (ring_room for_data here.ring (ring_makes_sure for_data here.ring s))
      (ring_makes_sure for_data here.ring s) refl (record { core = core; neighbour = neighbour; here_is = q }) r t
      (K.sure for_data here.ring s h))))

  -- what stands first on a link

  passed_by_room : (here : LinkEnd) (p : FragAtHop) (first : RingLabel) (route : Route) (hop : Hop) (on : RingEnd) (r : Room) (s : State)
      → ring_room for_data on s ≡ r → IsGoingOn here p first route hop on s → P s → After Q (goes_on_by here p on r s)
  passed_by_room here p first route hop on there_is_room s q k h = K.passed here p first route hop on s (onward here p first route hop on s k) q h
  passed_by_room here p first route hop on no_room s q k h = weaker s h
  passed_by_room here p first route hop on spent s q k h = weaker s h

  sure_passing : (here : LinkEnd) (p : FragAtHop) (first : RingLabel) (route : Route) (hop : Hop) (on : RingEnd) (s : State)
      → IsPassing here p first route hop s → IsPassing here p first route hop (ring_makes_sure for_data on s)
  sure_passing here p first route hop on s k = record {
    is_here = record { core = k.is_here.core; neighbour = k.is_here.neighbour; here_is = k.is_here.here_is };
    first_is = first_sure for_data here.ring on first s.rings k.first_is;
    label_is = k.label_is;
    binding = k.binding;
    binding_is = k.binding_is;
    route_is = k.route_is;
    station_is = k.station_is;
    core = k.core;
    core_is = k.core_is;
    number = k.number;
    number_is = k.number_is;
    hop_is = k.hop_is;
  }

  arrived_by_room : (here : LinkEnd) (p : FragAtHop) (first : RingLabel) (route : Route) (hop : Hop) (to : EndId) (x : End) (y : Queue) (r : Room)
      (s : State) → IsPassing here p first route hop s → hop.way ≡ to_end to → end_of s to ≡ Some x → x.queue ≡ Some y → queue_room y ≡ r
      → P s → After Q (arrives_by here p to r s)
  arrived_by_room here p first route hop to x y there_is_room s k q t u v h =
      K.arrived here p first route hop to s k (record { way = q; end = x; end_is = t; queue = y; queue_is = u; room = v }) h
  arrived_by_room here p first route hop to x y no_room s k q t u v h = weaker s h
  arrived_by_room here p first route hop to x y spent s k q t u v h = weaker s h

  entry_after : (here : LinkEnd) (p : FragAtHop) (first : RingLabel) (route : Route) (hop : Hop) (k : Core) (way : HopTarget) (s : State)
      → IsPassing here p first route hop s → core_of s here.core ≡ Some k → hop.way ≡ way → P s → After Q (follows_entry here p k way s)
  entry_after here p first route hop k (to_link l c) s j at q h =
      by_given (After Q) (slice_get k.links l.0) _ _ (weaker s h)
      (λ link r. passed_by_room here p first route hop link.ring (ring_room for_data link.ring (ring_makes_sure for_data link.ring s))
      (ring_makes_sure for_data link.ring s) refl
      (record {
        passing = sure_passing here p first route hop link.ring s j;
        core = k;
        core_is = at;
        number = c;
        link = l;
        way = q;
        there = link;
        link_is = r;
        ring = refl;
      }) (K.sure for_data link.ring s h))
  entry_after here p first route hop k (to_end to) s j at q h =
      by_given (After Q) (end_of s to) _ _ (weaker s h)
      (λ x r. by_given (After Q) x.queue _ _ (weaker s h) (λ y t. arrived_by_room here p first route hop to x y (queue_room y) s j q r t refl h))

  call_label_after : (here : LinkEnd) (e : EndId) (number : ℕ) (first : RingLabel) (s : State) → IsHere here s
      → first_on here.ring s ≡ Some first → first.label ≡ next_of e number → P s → After Q (forwards_call here e number s)
  call_label_after here e number first s k f l h =
      by_given (After Q) (binding_of s e) _ _ (weaker s h)
      (λ b q. by_given (After Q) (route_of b.back) _ _ (weaker s h)
      (λ route r. by_given (After Q) (station_at e.side here.core route) _ _ (weaker s h)
      (λ station t. by_given (After Q) (core_of s here.core) _ _ (weaker s h)
      (λ core u. by_given (After Q) (number_between here.neighbour here.core route) _ _ (weaker s h)
      (λ c v. by_given (After Q) (hop_at core.circuits here.link c) _ _ (weaker s h)
      (λ hop w. entry_after here (record { end = e; number = number; station = station }) first route hop core hop.way s
      (record {
        is_here = k;
        first_is = f;
        label_is = l;
        binding = b;
        binding_is = q;
        route_is = r;
        station_is = t;
        core = core;
        core_is = u;
        number = c;
        number_is = v;
        hop_is = w;
      }) u refl h))))))

  label_after : (here : LinkEnd) (label : Label) (first : RingLabel) (s : State) → IsHere here s → first_on here.ring s ≡ Some first
      → first.label ≡ label → P s → After Q (forwards_label here label s)
  label_after here (next_of e number) first s k f l h = call_label_after here e number first s k f l h
  label_after here (says m) first s k f l h = by_given (After Q) (core_of s here.core) _ _ (weaker s h) (λ core q. K.heard here m first core s k f l q h)
  label_after here acknowledges first s k f l h = K.taken here first s k f l h

  forward_after : (core neighbour : ℕ) (s : State) → P s → After Q (forwards core neighbour s)
  forward_after core neighbour s h =
      by_given (After Q) (link_end core neighbour s) _ _ (weaker s h)
      (λ here q. by_given (After Q) (first_on here.ring s) _ _ (weaker s h)
      (λ first r. label_after here first.label first (change_ring here.ring.ring (looks here.ring.side) s)
      (record { core = core; neighbour = neighbour; here_is = q }) (first_looked here.ring here.ring first s.rings r) refl
      (K.looked here.ring s h)))

  -- the step

  does_after : (v : Event) (s : State) → P s → After Q (does v s)
  does_after (add_interface i plan) s h = interface_after i plan s h
  does_after (set_cores n) s h = cores_after n s h
  does_after (add_link a b size) s h = link_after a b size s h
  does_after (add_dispatcher core) s h = dispatcher_after core s h
  does_after (export name d i) s h = export_after name d i s h
  does_after (bind client i name kind) s h = bind_after client i name kind s h
  does_after (call e c) s h = call_after e c s h
  does_after (show e) s h = show_after e s h
  does_after (write e) s h = write_after e s h
  does_after (turn d) s h = turn_after d s h
  does_after (ack e) s h = acknowledge_after e s h
  does_after (register e) s h = register_after e s h
  does_after (deregister e) s h = deregister_after e s h
  does_after (reply e msg answer) s h = rule_after e msg answer s h
  does_after (monitor_write core neighbour) s h = monitor_after core neighbour s h
  does_after (forward core neighbour) s h = forward_after core neighbour s h
  does_after (monitor_ack core neighbour) s h = monitor_acknowledge_after core neighbour s h

  settled_by : (a : Answer) (s : State) → Q s → Q (settles_by a s)
  settled_by (refused n) s h = h
  settled_by done s h = K.settled s h
  settled_by a s h = K.settled s h

  settled : (v : Event) (o : StepOutcome) → After Q o → After Q (settles v o)
  settled (add_interface i plan) o h = h
  settled v o h = settled_by o.answer o.state h

  pub step_leads_within : (s : State) (v : Event) → P s → Q (step s v).state
  step_leads_within s v h = settled v (does v s) (does_after v s h)

pub step_leads_under : (Called : EndId → TheCall → Binding → Planned → State → Type 0) (Ruled : EndId → ℕ → ℕ → Binding → Planned → State → Type 0)
    (Passed : LinkEnd → FragAtHop → RingLabel → Route → Hop → RingEnd → State → Type 0)
    → ((e : EndId) (c : TheCall) (b : Binding) (i : Planned) (s : State) → Fitting e c b i s → Called e c b i s)
    → ((e : EndId) (msg answer : ℕ) (b : Binding) (i : Planned) (s : State) → Suiting e msg answer b i s → Ruled e msg answer b i s)
    → ((here : LinkEnd) (p : FragAtHop) (first : RingLabel) (route : Route) (hop : Hop) (on : RingEnd) (s : State)
    → IsGoingOn here p first route hop on s → Passed here p first route hop on s)
    → (P Q : State → Type 0) → ((s : State) → P s → Q s) → KeepsUnder Called Ruled Passed P Q → (s : State) (v : Event) → P s → Q (step s v).state
step_leads_under Called Ruled Passed fitting suiting onward P Q weaker K s v h =
    step_leads_within Called Ruled Passed fitting suiting onward (MadeIn P) TurnAt P Q (λ m t r k. k) (λ t to u k. k.turn) weaker K s v h

pub step_leads : (P Q : State → Type 0) → ((s : State) → P s → Q s) → KeepsFrom P Q → (s : State) (v : Event) → P s → Q (step s v).state
step_leads P Q weaker K s v h =
    step_leads_under CalledAt RuledAt PassedAt (λ e c b i t k. k.at) (λ e m n b i t k. k.at) (λ here p first route hop on t k. k.passing) P Q weaker K s v h

pub step_keeps : (P : State → Type 0) → Keeps P → (s : State) (v : Event) → P s → P (step s v).state
step_keeps P K s v h = step_leads P P (λ t x. x) K s v h

pub run_keeps : (P : State → Type 0) → Keeps P → (vs : List Event) (s : State) → P s → P (reached s vs)
run_keeps P K [] s h = h
run_keeps P K (v ∷ vs) s h = run_keeps P K vs (step s v).state (step_keeps P K s v h)
