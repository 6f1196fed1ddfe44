-- The walk for what holds of each core alone, by its number: what changes a core, each once.
use Rattle.std.proofs.Common.{◌≡◌, refl, sym, ◌∙◌, ap, subst, ℕ, zero, suc, ◌+◌, Bool, true, false, not}
use Rattle.std.proofs.Common.{List, [], ◌∷◌, map, length, slice_get, slice_set, Some, None, arith, zero-add}
use Rattle.std.specs.List.{range_with_len}
use Rattle.fl_base.specs.declared.identity.EndId.{EndId}
use Rattle.fl_base.specs.declared.identity.Side.TheVariants.{Client, Server}
use Rattle.fl_base.specs.Ends.{peer}
use Rattle.fl_model.specs.Given.{changed_at}
use Rattle.fl_model.specs.Events.{DispatcherId}
use Rattle.fl_model.specs.Calls.{Planned}
use Rattle.fl_model.specs.Rings.{OpeningLabel, MonitorLabel, Label, next_of, says, acknowledges, RingSide, first_side, second_side, RingEnd, there_is_room, looks}
use Rattle.fl_model.specs.Ends.{joined_by, writes, written_of, End, Direction, fresh_queue}
use Rattle.fl_model.specs.Waits.{Dispatcher, with_end}
use Rattle.fl_model.specs.Monitors.{Core, fresh_core, Service, can_say, opens, Hearing, hears, Heard, no_outbox, misrouted, opening_went_on, server_made}
use Rattle.fl_model.specs.Monitors.{opening_failed, answer_went_on, end_opened, end_refused}
use Rattle.fl_model.specs.State.{State, StepOutcome, local, over_ring, over_route, undecided, Outlet, peer_queue, ring_side}
use Rattle.fl_model.specs.State.{core_of, dispatcher_of, end_of, end_in, change_core, change_ring, change_end, change_out, change_channel, change_route, seats}
use Rattle.fl_model.specs.State.{binds_end, delivers, in_queue}
use Rattle.fl_model.specs.Making.{linked, with_dispatcher}
use Rattle.fl_model.specs.Binding.{BindByNames, end_id, with_new_binding, binds_both, arrival_queue}
use Rattle.fl_model.specs.Sending.{writes_to}
use Rattle.fl_model.specs.Taking.{Chosen, takes_label, finds}
use Rattle.fl_model.specs.Forwarding.{without_first_said, follows, takes_said, grants, passes_word, label_of}
use Rattle.fl_model_laws.proofs.Cases.{by_given}
use Rattle.fl_model_laws.proofs.Walk.{Keeps, with_ring}

-- ---- lists

-- C holds of each element, by its place
abbrev pub EachAt : {X : Type 0} → (ℕ → X → Type 0) → List X → Type 0
EachAt {X} C xs = (n : ℕ) (x : X) → slice_get xs n ≡ Some x → C n x

pub each_at_set : {X : Type 0} (C : ℕ → X → Type 0) (xs : List X) (m : ℕ) (y : X) → EachAt C xs → C m y → EachAt C (slice_set xs m y)
each_at_set C [] m y h k n x q = absurd (cc)
each_at_set C (z ∷ xs) zero y h k zero x q = subst (C 0) (let e : y ≡ x = cc in e) k
each_at_set C (z ∷ xs) zero y h k (suc n) x q = h (suc n) x q
each_at_set C (z ∷ xs) (suc m) y h k zero x q = h zero x q
each_at_set C (z ∷ xs) (suc m) y h k (suc n) x q = each_at_set (λ i. C (suc i)) xs m y (λ i w r. h (suc i) w r) k n x q

pub each_at_changed : {X : Type 0} (C : ℕ → X → Type 0) (xs : List X) (m : ℕ) (f : X → X) → EachAt C xs
    → ((x : X) → slice_get xs m ≡ Some x → C m x → C m (f x)) → EachAt C (changed_at m f xs)
each_at_changed C xs m f h k =
    by_given (EachAt C) (slice_get xs m) xs (λ x. slice_set xs m (f x)) h
    (λ x q. each_at_set C xs m (f x) h (k x q (h m x q)))

pub each_at_fresh : (C : ℕ → Core → Type 0) (a n : ℕ) → ((m : ℕ) → C m (fresh_core m)) → (i : ℕ) (x : Core)
    → slice_get (map fresh_core (range_with_len a n)) i ≡ Some x → C (a + i) x
each_at_fresh C a zero h i x q = absurd (cc)
each_at_fresh C a (suc n) h zero x q = subst (λ (m : ℕ). C m x) (omega arith) (subst (C a) (let e : fresh_core a ≡ x = cc in e) (h a))
each_at_fresh C a (suc n) h (suc i) x q = subst (λ (m : ℕ). C m x) (omega arith) (each_at_fresh C (a + 1) n h i x q)

-- ---- what changes a core

abbrev pub Cores : (ℕ → Core → Type 0) → State → Type 0
Cores C s = EachAt C s.cores

-- it doesn't speak of what waits at dispatchers
abbrev pub IsApartFromChannels : (ℕ → Core → Type 0) → Type 0
IsApartFromChannels C = (n place : ℕ) (f : Dispatcher → Dispatcher) (k : Core) → C n k
    → C n (record k { dispatchers = changed_at place f k.dispatchers })

pub record KeepsCores (C : ℕ → Core → Type 0) : Type 0 where
  pub fresh : (n : ℕ) → C n (fresh_core n)
  pub linked : (n neighbour ring : ℕ) (side : RingSide) (k : Core) → C n k → C n (linked neighbour ring side k)
  pub dispatcher : (n : ℕ) (k : Core) → C n k → C n (with_dispatcher k)
  pub channels : IsApartFromChannels C
  pub opened : (n l c : ℕ) (o : OpeningLabel) (k : Core) → can_say l k ≡ true → C n k → C n (opens l c o k)
  pub written : (n l : ℕ) (k : Core) → C n k → C n (without_first_said l k)
  pub heard : (n : ℕ) (services : List Service) (l : ℕ) (m : MonitorLabel) (k : Core) → C n k → C n (hears services l m k).core

module _ (C : ℕ → Core → Type 0) (apart : IsApartFromChannels C) where
  pub dispatcher_kept : (d : DispatcherId) (f : Dispatcher → Dispatcher) (cores : List Core) → EachAt C cores
      → EachAt C (changed_at d.core (λ k. record k { dispatchers = changed_at d.place f k.dispatchers }) cores)
  dispatcher_kept d f cores h = each_at_changed C cores d.core _ h (λ k q c. apart d.core d.place f k c)

  pub channel_kept : (e : EndId) (f : ℕ → End → Dispatcher → Dispatcher) (s : State) → Cores C s → Cores C (change_channel e f s)
  channel_kept e f s h =
      by_given (Cores C) (end_of s e) _ _ h
      (λ x q. by_given (Cores C) x.seat _ _ h (λ seat r. dispatcher_kept seat.dispatcher (f seat.channel x) s.cores h))

  pub seat_kept : (d : DispatcherId) (e : EndId) (s : State) → Cores C s → Cores C (seats d e s)
  seat_kept d e s h = by_given (Cores C) (dispatcher_of s d) _ _ h (λ x q. dispatcher_kept d (with_end e) s.cores h)

  pub bound_kept : (e : EndId) (circuit : ℕ) (s : State) → Cores C s → Cores C (binds_end e circuit s)
  bound_kept e circuit s h = channel_kept e _ (change_end e (λ x. record x { circuit = Some circuit }) s) h

  pub both_kept : (n : ℕ) (w : BindByNames) (s : State) → Cores C s → Cores C (binds_both n w s)
  both_kept n w s h =
      let c : EndId = end_id n Client in
      let v : EndId = end_id n Server in
      let first : State = seats w.client c s in
      let second : State = seats w.service.dispatcher v first in
      bound_kept v 0 (binds_end c 0 second) (bound_kept c 0 second (seat_kept w.service.dispatcher v first (seat_kept w.client c s h)))

  pub delivered_kept : (l : Label) (e : EndId) (s : State) → Cores C s → Cores C (delivers l e s)
  delivered_kept l e s h = channel_kept e _ (change_end e (in_queue (joined_by l)) s) h

  pub written_kept : (e : EndId) (i : Planned) (d : Direction) (o : Outlet) (s : State) → Cores C s
      → Cores C (writes_to e i d o there_is_room s).state
  written_kept e i d peer_queue s h = delivered_kept (next_of e (written_of d)) (peer e) (change_out e (λ x. (writes i x there_is_room).direction) s) h
  written_kept e i d (ring_side on) s h = h

  pub label_taken : (e : EndId) (i : Planned) (l : Label) (s : State) → Cores C s → Cores C (takes_label e i l s).state
  label_taken e i (next_of sender k) s h = by_given (λ (o : StepOutcome). Cores C o.state) (end_of s sender) _ _ h (λ y r. h)
  label_taken e i (says m) s h = h
  label_taken e i acknowledges s h = h

  pub found_kept : (t : Chosen) (at : RingEnd) (l : Label) (s : State) → Cores C s → Cores C (finds t at l s).state
  found_kept t at (next_of e k) s h = dispatcher_kept t.dispatcher _ _ h
  found_kept t at (says m) s h = dispatcher_kept t.dispatcher _ _ h
  found_kept t at acknowledges s h = dispatcher_kept t.dispatcher _ _ h

  pub follows_kept : (x : Heard) (s : State) → Cores C s → Cores C (follows x s).state
  follows_kept no_outbox s h = h
  follows_kept misrouted s h = h
  follows_kept (opening_went_on n c) s h = h
  follows_kept (server_made n d c) s h =
      bound_kept (end_id n Server) c (seats d (end_id n Server) (change_route n grants s)) (seat_kept d (end_id n Server) (change_route n grants s) h)
  follows_kept (opening_failed n fault) s h = h
  follows_kept (answer_went_on n) s h = h
  follows_kept (end_opened e c) s h = bound_kept e c (change_route e.binding passes_word s) h
  follows_kept (end_refused e fault) s h = h

  pub said_kept : (at : RingEnd) (x : Heard) (s : State) → Cores C s → Cores C (takes_said at x s)
  said_kept at no_outbox s h = h
  said_kept at misrouted s h = h
  said_kept at (opening_went_on n c) s h = h
  said_kept at (server_made n d c) s h = h
  said_kept at (opening_failed n fault) s h = h
  said_kept at (answer_went_on n) s h = h
  said_kept at (end_opened e c) s h = h
  said_kept at (end_refused e fault) s h = h

-- ---- the walk

module _ (C : ℕ → Core → Type 0) (K : KeepsCores C) where
  -- the client's core, which can say something on link l
  abbrev CanSay : ℕ → ℕ → ℕ → Core → Type 0
  CanSay core l n k = C n k × (n ≡ core → can_say l k ≡ true)

  begun_kept : (w : BindByNames) (l c : ℕ) (o : OpeningLabel) (k : Core) (s t : State) → core_of s w.client.core ≡ Some k
      → not (can_say l k) ≡ false → t.cores ≡ s.cores → Cores C s
      → Cores C (change_core w.client.core (opens l c o) (seats w.client (end_id (length s.bindings) Client) t))
  begun_kept w l c o k s t there room same h =
      let all : Cores (CanSay w.client.core l) t =
      subst (EachAt (CanSay w.client.core l)) (sym same)
      (λ n x q. (h n x q, λ e. let u : Some k ≡ Some x = sym there ∙ ap (slice_get s.cores) (sym e) ∙ q in says_it k x u room)) in
      let seated : Cores (CanSay w.client.core l) (seats w.client (end_id (length s.bindings) Client) t) =
      seat_kept (CanSay w.client.core l) (λ n place f x h. (K.channels n place f x h.0, h.1)) w.client _ t all in
      each_at_changed C (seats w.client (end_id (length s.bindings) Client) t).cores w.client.core (opens l c o) (λ n x q. (seated n x q).0)
      (λ x q ok. K.opened w.client.core l c o x ((seated w.client.core x q).1 refl) ok)
    where
      is_not : (b : Bool) → not b ≡ false → b ≡ true
      is_not true h = refl
      is_not false h = absurd (cc)

      says_it : (k x : Core) → Some k ≡ Some x → not (can_say l k) ≡ false → can_say l x ≡ true
      says_it k x u q = subst (λ (y : Core). can_say l y ≡ true) (let e : k ≡ x = cc in e) (is_not (can_say l k) q)

  pub cores_keep : Keeps (Cores C)
  cores_keep = record {
    settled = λ s h. h;
    interface = λ i s q h. h;
    cores = λ n s q h. λ i x r. subst (λ (m : ℕ). C m x) (zero-add i) (each_at_fresh C 0 n K.fresh i x r);
    link = λ a b size s q r h.
        each_at_changed C _ b _ (each_at_changed C s.cores a _ h (λ k t c. K.linked a b (length s.rings) first_side k c))
        (λ k t c. K.linked b a (length s.rings) second_side k c);
    dispatcher = λ core s h. each_at_changed C s.cores core with_dispatcher h (λ k q c. K.dispatcher core k c);
    service = λ x s d i q r t h. h;
    queues = λ w i slots s k q h.
        both_kept C K.channels (length s.bindings) w (with_new_binding w local 2 (Some (fresh_queue slots)) s) h;
    ring = λ w i size s k q r h.
        both_kept C K.channels (length s.bindings) w (with_new_binding w (over_ring (length s.rings)) 2 None (with_ring size s)) h;
    route = λ w i cores k l c s want begins h.
        begun_kept w l c (record { circuit = c; binding = length s.bindings; service = w.iref; path = cores }) k s
        (with_new_binding w (over_route (record { service = w.iref; cores = cores; numbers = c ∷ []; verdict = undecided }))
        (length cores + 1) (Some arrival_queue) s) begins.core begins.outbox refl h;
    called = λ e c b i s at q h. h;
    sure = λ need at s h. h;
    looked = λ at s h. h;
    written = λ e b i o s at q r t u h. written_kept C K.channels e i (end_in e.side b).out o s h;
    held = λ t b i s d at q h. dispatcher_kept C K.channels t.dispatcher _ s.cores h;
    no_label = λ t to s d h. dispatcher_kept C K.channels t.dispatcher _ s.cores h;
    from_queue = λ t b i q label s d at u v w h.
        label_taken C K.channels t.end i label _ (dispatcher_kept C K.channels t.dispatcher _ s.cores h);
    from_ring = λ t b i at first s d k u v w h.
        label_taken C K.channels t.end i first.label _
        (dispatcher_kept C K.channels t.dispatcher _ s.cores h);
    found_none = λ t s d h. dispatcher_kept C K.channels t.dispatcher _ s.cores h;
    found = λ t b at first s d q r u h. found_kept C K.channels t at first.label (change_ring at.ring (looks at.side) s) h;
    acknowledged = λ at s q h. h;
    registered = λ e x s q r t h. channel_kept C K.channels e _ s h;
    deregistered = λ e x s q r h. channel_kept C K.channels e _ s h;
    ruled = λ e msg answer b i s at h. h;
    monitor_written = λ here link m s k q r t h.
        each_at_changed C s.cores here.core _ h (λ x u c. K.written here.core here.link x c);
    heard = λ here m first k s j q r t h.
        let x : Hearing = hears s.services here.link m k in
        let told : State = change_core here.core (λ y. x.core) s in
        let said : Cores C told = each_at_changed C s.cores here.core (λ y. x.core) h
        (λ y u c. K.heard here.core s.services here.link m k (h here.core k t)) in
        follows_kept C K.channels x.heard (takes_said here.ring x.heard told) (said_kept C K.channels here.ring x.heard told said);
    passed = λ here p first route hop on s k q h. h;
    arrived = λ here p first route hop to s k q h. delivered_kept C K.channels (label_of p) to s h;
    taken = λ here first s k q r h. h;
  }
