-- While the number of cores may be set, there is nothing but cores and interfaces; and once it stands, it stands.
use Rattle.std.proofs.Common.{◌≡◌, refl, sym, ◌∙◌, ap, ℕ, ◌||◌, ◌&&◌, ◌==◌, nat_le, nat_lt, not}
use Rattle.std.proofs.Common.{Bool, true, false, List, [], length, slice_get, Some, None}
use Rattle.fl_base.specs.declared.identity.EndId.{EndId}
use Rattle.fl_base.specs.declared.identity.Side.TheVariants.{Client, Server}
use Rattle.fl_base.specs.Ends.{peer}
use Rattle.fl_base.specs.Given.{given}
use Rattle.fl_base.specs.Numbered.{most_cores}
use Rattle.fl_interface.specs.Interface.{TheInterface}
use Rattle.fl_value_data.specs.declared.value.PlanNo.{PlanNo}
use Rattle.fl_lists.specs.declared.place.Place.TheVariants.{Polled}
use Rattle.fl_model.specs.Events.{DispatcherId, Event, add_interface, set_cores, add_link, add_dispatcher, export, bind, call, show, write, turn, ack, register}
use Rattle.fl_model.specs.Events.{deregister, reply, monitor_write, forward, monitor_ack}
use Rattle.fl_model.specs.Calls.{Planned}
use Rattle.fl_model.specs.Rings.{Label, next_of, says, acknowledges, RingEnd, there_is_room, looks, takes}
use Rattle.fl_model.specs.Ends.{End, Direction, fresh_queue, without_first}
use Rattle.fl_model.specs.Waits.{Dispatcher, waits_in}
use Rattle.fl_model.specs.Monitors.{Link, link_to, Hearing, hears, Heard, no_outbox, misrouted, opening_went_on, server_made, opening_failed, answer_went_on, end_opened, end_refused}
use Rattle.fl_model.specs.State.{State, StepOutcome, Binding, local, over_ring, Outlet, peer_queue, ring_side, binding_of, core_of, dispatcher_of, end_of, end_in, link_between}
use Rattle.fl_model.specs.State.{change_channel, change_core, change_ring, change_end, change_route, seats, binds_end, in_queue}
use Rattle.fl_model.specs.Making.{has_interface, most_interfaces, is_core, has_link, is_ring_size, most_dispatchers, count_dispatchers}
use Rattle.fl_model.specs.Binding.{BindByNames, end_id, with_new_binding, binds_both}
use Rattle.fl_model.specs.Sending.{writes_to}
use Rattle.fl_model.specs.Taking.{Chosen, takes_label, goes_back, finds}
use Rattle.fl_model.specs.Forwarding.{LinkEnd, link_end, follows, takes_said, grants, passes_word}
use Rattle.fl_model.specs.Step.{does, settles_by, step}
use Rattle.fl_model.specs.SoundLists.{IsBare, BareUntilCoresAreSet}
use Rattle.fl_model_laws.proofs.Cases.{either, by_given}
use Rattle.fl_model_laws.proofs.BindingWalk.{given_there}
use Rattle.fl_model_laws.proofs.Walk.{Keeps, step_keeps, with_ring}

-- ---- once the number of cores stands, it stands

abbrev pub IsSettled : State → Type 0
IsSettled s = s.may_set_cores ≡ false

channel_kept : (e : EndId) (f : ℕ → End → Dispatcher → Dispatcher) (s : State) → IsSettled s → IsSettled (change_channel e f s)
channel_kept e f s h = by_given IsSettled (end_of s e) _ _ h (λ x q. by_given IsSettled x.seat _ _ h (λ seat r. h))

seat_kept : (d : DispatcherId) (e : EndId) (s : State) → IsSettled s → IsSettled (seats d e s)
seat_kept d e s h = by_given IsSettled (dispatcher_of s d) _ _ h (λ x q. h)

bound_kept : (e : EndId) (circuit : ℕ) (s : State) → IsSettled s → IsSettled (binds_end e circuit s)
bound_kept e circuit s h = channel_kept e _ (change_end e (λ y. record y { circuit = Some circuit }) s) h

both_kept : (n : ℕ) (w : BindByNames) (s : State) → IsSettled s → IsSettled (binds_both n w s)
both_kept n w s h =
    let c : EndId = end_id n Client in
    let v : EndId = end_id n Server in
    let first : State = seats w.client c s in
    let second : State = seats w.service.dispatcher v first in
    bound_kept v 0 (binds_end c 0 second) (bound_kept c 0 second (seat_kept w.service.dispatcher v first (seat_kept w.client c s h)))

written_kept : (e : EndId) (i : Planned) (d : Direction) (o : Outlet) (s : State) → IsSettled s → IsSettled (writes_to e i d o there_is_room s).state
written_kept e i d peer_queue s h = channel_kept (peer e) _ _ h
written_kept e i d (ring_side on) s h = h

label_taken : (e : EndId) (i : Planned) (l : Label) (s : State) → IsSettled s → IsSettled (takes_label e i l s).state
label_taken e i (next_of sender k) s h = by_given (λ (o : StepOutcome). IsSettled o.state) (end_of s sender) _ _ h (λ y r. h)
label_taken e i (says m) s h = h
label_taken e i acknowledges s h = h

found_kept : (t : Chosen) (at : RingEnd) (l : Label) (s : State) → IsSettled s → IsSettled (finds t at l s).state
found_kept t at (next_of e k) s h = h
found_kept t at (says m) s h = h
found_kept t at acknowledges s h = h

follows_kept : (x : Heard) (s : State) → IsSettled s → IsSettled (follows x s).state
follows_kept no_outbox s h = h
follows_kept misrouted s h = h
follows_kept (opening_went_on n c) s h = h
follows_kept (server_made n d c) s h =
    bound_kept (end_id n Server) c (seats d (end_id n Server) (change_route n grants s)) (seat_kept d (end_id n Server) (change_route n grants s) h)
follows_kept (opening_failed n fault) s h = h
follows_kept (answer_went_on n) s h = h
follows_kept (end_opened e c) s h = bound_kept e c (change_route e.binding passes_word s) h
follows_kept (end_refused e fault) s h = h

said_kept : (at : RingEnd) (x : Heard) (s : State) → IsSettled s → IsSettled (takes_said at x s)
said_kept at no_outbox s h = h
said_kept at misrouted s h = h
said_kept at (opening_went_on n c) s h = h
said_kept at (server_made n d c) s h = h
said_kept at (opening_failed n fault) s h = h
said_kept at (answer_went_on n) s h = h
said_kept at (end_opened e c) s h = h
said_kept at (end_refused e fault) s h = h

settled_keep : Keeps IsSettled
settled_keep = record {
  settled = λ s h. refl;
  interface = λ i s q h. h;
  cores = λ n s q h. h;
  link = λ a b size s q r h. h;
  dispatcher = λ core s h. h;
  service = λ x s d i q r t h. h;
  queues = λ w i slots s k q h. both_kept (length s.bindings) w (with_new_binding w local 2 (Some (fresh_queue slots)) s) h;
  ring = λ w i size s k q r h.
      both_kept (length s.bindings) w (with_new_binding w (over_ring (length s.rings)) 2 None (with_ring size s)) h;
  route = λ w i cores k l c s want begins h. seat_kept w.client (end_id (length s.bindings) Client) _ h;
  called = λ e c b i s at q h. h;
  sure = λ need at s h. h;
  looked = λ at s h. h;
  written = λ e b i o s at q r t u h. written_kept e i (end_in e.side b).out o s h;
  held = λ t b i s d at q h. h;
  no_label = λ t to s d h. h;
  from_queue = λ t b i q label s d at u v w h.
      label_taken t.end i label (goes_back t (waits_in (Some (without_first q))) (change_end t.end (in_queue without_first) s)) h;
  from_ring = λ t b i at first s d k u v w h.
      label_taken t.end i first.label (goes_back t Polled (change_ring at.ring (takes at.side) s)) h;
  found_none = λ t s d h. h;
  found = λ t b at first s d q r u h. found_kept t at first.label (change_ring at.ring (looks at.side) s) h;
  acknowledged = λ at s q h. h;
  registered = λ e x s q r t h. channel_kept e _ s h;
  deregistered = λ e x s q r h. channel_kept e _ s h;
  ruled = λ e msg answer b i s at h. h;
  monitor_written = λ here link m s k q r t h. h;
  heard = λ here m first k s j q r t h.
      let x : Hearing = hears s.services here.link m k in
      let told : State = change_core here.core (λ y. x.core) s in
      follows_kept x.heard (takes_said here.ring x.heard told) (said_kept here.ring x.heard told h);
  passed = λ here p first route hop on s k q h. h;
  arrived = λ here p first route hop to s k q h. channel_kept to _ _ h;
  taken = λ here first s k q r h. h;
}

pub stays_settled : (s : State) (v : Event) → IsSettled s → IsSettled (step s v).state
stays_settled s v h = step_keeps IsSettled settled_keep s v h

-- ---- before that

pub none_of : {X : Type 0} (xs : List X) (n : ℕ) (x : X) → xs ≡ [] → slice_get xs n ≡ Some x → ⊥
none_of xs n x e h =
    let q : None ≡ Some x = sym (ap (λ ys. slice_get ys n) e) ∙ h in
    absurd (cc)

module _ (s : State) (h : IsBare s) where
  no_binding : (e : EndId) (b : Binding) → binding_of s e ≡ Some b → ⊥
  no_binding e b q = none_of s.bindings e.binding b h.bindings q

  no_end : (e : EndId) (x : End) → end_of s e ≡ Some x → ⊥
  no_end e x q = let (b, at, is) = given_there (binding_of s e) (λ b. Some (end_in e.side b)) x q in no_binding e b at

  no_dispatcher : (d : DispatcherId) (x : Dispatcher) → dispatcher_of s d ≡ Some x → ⊥
  no_dispatcher d x q =
      let (k, at, is) = given_there (core_of s d.core) (λ k. slice_get k.dispatchers d.place) x q in
      none_of k.dispatchers d.place x (h.dispatchers d.core k at) is

  no_link : (a b : ℕ) (link : Link) → link_between s a b ≡ Some link → ⊥
  no_link a b link q =
      let (k, at, is) = given_there (core_of s a) (λ k. given (link_to b k) None (λ l. slice_get k.links l)) link q in
      let (l, to, there) = given_there (link_to b k) (λ l. slice_get k.links l) link is in
      none_of k.links l link (h.links a k at) there

  no_link_end : (a b : ℕ) (here : LinkEnd) → link_end a b s ≡ Some here → ⊥
  no_link_end a b here q =
      let (k, at, is) = given_there (core_of s a) _ here q in
      let (l, to, there) = given_there (link_to b k) _ here is in
      let (link, got, made) = given_there (slice_get k.links l) _ here there in
      none_of k.links l link (h.links a k at) got

  -- whatever but a refusal settles the number; and a refusal leaves the state
  abbrev Bares : StepOutcome → Type 0
  Bares o = BareUntilCoresAreSet (settles_by o.answer o.state)

  bares : (v : Event) → Bares (does v s)
  bares (add_interface i plan) =
      either Bares (has_interface i.name s) _ _ (λ q m. h)
      (λ q. either Bares (nat_le most_interfaces (length s.interfaces)) _ _ (λ r m. h) (λ r m. absurd (cc)))
  bares (set_cores n) =
      either Bares (not s.may_set_cores) _ _ (λ q m. h) (λ q. either Bares (nat_lt n 1 || nat_lt most_cores n) _ _ (λ r m. h) (λ r m. absurd (cc)))
  bares (add_link a b size) =
      either Bares (not (is_core a s && is_core b s) || (a == b) || has_link a b s) _ _ (λ q m. h)
      (λ q. either Bares (not (is_ring_size size)) _ _ (λ r m. h) (λ r m. absurd (cc)))
  bares (add_dispatcher core) =
      either Bares (nat_le most_dispatchers (count_dispatchers s)) _ _ (λ q m. h)
      (λ q. either Bares (not (is_core core s)) _ _ (λ r m. h) (λ r m. absurd (cc)))
  bares (export name d i) = by_given Bares (dispatcher_of s d) _ _ (λ m. h) (λ x q. absurd (no_dispatcher d x q))
  bares (bind client i name kind) = by_given Bares (dispatcher_of s client) _ _ (λ m. h) (λ x q. absurd (no_dispatcher client x q))
  bares (call e c) = by_given Bares (binding_of s e) _ _ (λ m. h) (λ b q. absurd (no_binding e b q))
  bares (show e) = by_given Bares (binding_of s e) _ _ (λ m. h) (λ b q. absurd (no_binding e b q))
  bares (write e) = by_given Bares (binding_of s e) _ _ (λ m. h) (λ b q. absurd (no_binding e b q))
  bares (turn d) = by_given Bares (dispatcher_of s d) _ _ (λ m. h) (λ x q. absurd (no_dispatcher d x q))
  bares (ack e) = by_given Bares (binding_of s e) _ _ (λ m. h) (λ b q. absurd (no_binding e b q))
  bares (register e) = by_given Bares (end_of s e) _ _ (λ m. h) (λ x q. absurd (no_end e x q))
  bares (deregister e) = by_given Bares (end_of s e) _ _ (λ m. h) (λ x q. absurd (no_end e x q))
  bares (reply e msg answer) = by_given Bares (binding_of s e) _ _ (λ m. h) (λ b q. absurd (no_binding e b q))
  bares (monitor_write a b) = by_given Bares (link_end a b s) _ _ (λ m. h) (λ here q. absurd (no_link_end a b here q))
  bares (forward a b) = by_given Bares (link_end a b s) _ _ (λ m. h) (λ here q. absurd (no_link_end a b here q))
  bares (monitor_ack a b) = by_given Bares (link_between s a b) _ _ (λ m. h) (λ link q. absurd (no_link a b link q))

  interface_bare : (i : TheInterface) (plan : PlanNo) → BareUntilCoresAreSet (step s (add_interface i plan)).state
  interface_bare i plan =
      either (λ (o : StepOutcome). BareUntilCoresAreSet o.state) (has_interface i.name s) _ _ (λ q m. h)
      (λ q. either (λ (o : StepOutcome). BareUntilCoresAreSet o.state) (nat_le most_interfaces (length s.interfaces)) _ _ (λ r m. h)
      (λ r m. record { rings = h.rings; services = h.services; bindings = h.bindings; links = h.links; dispatchers = h.dispatchers }))

  step_bare : (v : Event) → BareUntilCoresAreSet (step s v).state
  step_bare (add_interface i plan) = interface_bare i plan
  step_bare v = bares v

step_keeps_bare_by : (b : Bool) (s : State) (v : Event) → s.may_set_cores ≡ b → BareUntilCoresAreSet s → BareUntilCoresAreSet (step s v).state
step_keeps_bare_by true s v e h = step_bare s (h e) v
step_keeps_bare_by false s v e h = λ m. absurd (let q : true ≡ false = sym m ∙ stays_settled s v e in cc)

pub step_keeps_bare : (s : State) (v : Event) → BareUntilCoresAreSet s → BareUntilCoresAreSet (step s v).state
step_keeps_bare s v h = step_keeps_bare_by s.may_set_cores s v refl h
