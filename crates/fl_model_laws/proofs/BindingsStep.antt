-- What is said of bindings but for their ends' calls: whether a binding is there, its interface, how many stations its calls
-- pass. Each event keeps it where the few changes of bindings do.
use Rattle.std.proofs.Common.{◌≡◌, refl, sym, ◌∙◌, subst, ℕ, ◌+◌, ◌≤◌}
use Rattle.std.proofs.Common.{List, [], ◌∷◌, length, slice_get}
use Rattle.std.proofs.Common.{Option, Some, None, arith}
use Rattle.fl_base.specs.declared.identity.EndId.{EndId}
use Rattle.fl_base.specs.declared.identity.Side.TheVariants.{Client, Server}
use Rattle.fl_base.specs.Ends.{peer}
use Rattle.fl_value_data.specs.Value.{TheCall}
use Rattle.fl_model.specs.Events.{DispatcherId}
use Rattle.fl_model.specs.Calls.{Planned}
use Rattle.fl_model.specs.Rings.{Label, next_of, says, acknowledges, RingEnd, there_is_room}
use Rattle.fl_model.specs.Ends.{Queue, fresh_queue, without_first, End, Taken, comes_to, is_busy}
use Rattle.fl_model.specs.Waits.{Dispatcher}
use Rattle.fl_model.specs.Monitors.{Heard, no_outbox, misrouted, opening_went_on, server_made, opening_failed}
use Rattle.fl_model.specs.Monitors.{answer_went_on, end_opened, end_refused, hears}
use Rattle.fl_model.specs.State.{Back, local, over_ring, State, StepOutcome, Outlet, peer_queue, ring_side}
use Rattle.fl_model.specs.State.{change_core, change_end, change_route, seats}
use Rattle.fl_model.specs.State.{delivers, dispatcher_of, interface_of, end_of, end_in, in_queue}
use Rattle.fl_model.specs.Making.{with_interface}
use Rattle.fl_model.specs.Binding.{BindByNames, end_id, with_new_binding, binds_both}
use Rattle.fl_model.specs.Sending.{writes_to}
use Rattle.fl_model.specs.Taking.{Chosen, takes_label, finds}
use Rattle.fl_model.specs.Forwarding.{follows, takes_said, label_of}
use Rattle.fl_model_laws.proofs.Cases.{by_given, each_push}
use Rattle.std.proofs.Common.{slice_set, zero}
use Rattle.fl_base.specs.declared.identity.Side.{Side}
use Rattle.fl_model.specs.Given.{changed_at}
use Rattle.fl_model.specs.Monitors.{Hearing}
use Rattle.fl_model.specs.Binding.{arrival_queue}
use Rattle.std.proofs.Common.{suc}
use Rattle.fl_model.specs.State.{binds_end}
use Rattle.fl_model.specs.State.{Binding, Route, change_out, change_channel, with_end_in}
use Rattle.fl_model.specs.Ends.{accepts, writes, with_rule, passes, takes_one, replies}
use Rattle.fl_model_laws.proofs.Cases.{Each, each_changed}
use Rattle.fl_model_laws.proofs.Walk.{with_ring, Keeps}
use Rattle.fl_base.specs.declared.identity.EndId.{EndId}
use Rattle.fl_model.specs.Forwarding.{with_number, grants, denies, passes_word}
use Rattle.fl_model.specs.Ends.{accepts_or_waits, accepts_waiting, rule_at, whole, a_part, Wrote, writes_by, last_station}
use Rattle.fl_model.specs.SoundPlaces.{stations}
use Rattle.fl_model.specs.Events.{nothing}
use Rattle.fl_model.specs.State.{over_route, undecided}
use Rattle.fl_model_laws.proofs.Cases.{either}
use Rattle.fl_model_laws.proofs.Replies.{length_changed}
use Rattle.fl_model_laws.proofs.EndsStep.{queue_out, long_route}
use Rattle.fl_model.specs.State.{in_route}
use Rattle.fl_model.specs.Ends.{joined_by, Direction}
use Rattle.std.proofs.Common.{ap, ◌∙◌, sym, replicate}
use Rattle.fl_model_laws.proofs.Small.{get_push, is_not, length_replicate, interface_side}

abbrev pub KeepsStations : (End → End) → Type 0
KeepsStations f = (x : End) → length (f x).out.passed ≡ length x.out.passed

pub record BindingsKeep (R : State → Type 0) : Type 0 where
  pub ends : (e : EndId) (f : End → End) (s : State) → KeepsStations f → R s → R (change_end e f s)
  pub routes : (n : ℕ) (f : Route → Route) (s : State) → ((r : Route) → (f r).cores ≡ r.cores) → R s → R (change_route n f s)
  pub grows : (w : BindByNames) (i : Planned) (back : Back) (q : Option Queue) (s : State) → slice_get s.interfaces w.interface ≡ Some i
      → 2 ≤ stations back → R s → R (with_new_binding w back (stations back) q s)
  pub interface : (i : Planned) (s : State) → R s → R (with_interface i s)
  pub same : (s t : State) → t.bindings ≡ s.bindings → t.interfaces ≡ s.interfaces → R s → R t

-- ---- changes of calls

goes_on_stations : (i : Planned) (d : Direction) (ws : List TheCall) → length (accepts_waiting ws d).passed ≡ length d.passed
goes_on_stations i d [] = refl
goes_on_stations i d (c ∷ cs) = refl

pub writes_stations : (i : Planned) (d : Direction) → length (writes i d there_is_room).direction.passed ≡ length d.passed
writes_stations i d =
    either (λ (w : Wrote). length w.direction.passed ≡ length d.passed) (is_busy i d) (writes_by i d there_is_room)
    (record { direction = d; answer = nothing })
    (λ q. either (λ (k : Direction). length k.passed ≡ length d.passed) (is_busy i (passes 0 d)) (passes 0 d) (accepts_waiting d.waiting (passes 0 d))
    (λ r. length_changed d.passed 0 (λ n. n + 1)) (λ r. goes_on_stations i (passes 0 d) d.waiting ∙ length_changed d.passed 0 (λ n. n + 1)))
    (λ q. refl)

pub passes_stations : (station : ℕ) (d : Direction) → length (passes station d).passed ≡ length d.passed
passes_stations station d = length_changed d.passed station (λ n. n + 1)

reply_stations : (i : Planned) (c : TheCall) (d : Direction) → length (accepts_or_waits i c d).passed ≡ length d.passed
reply_stations i c d = either (λ (k : Direction). length k.passed ≡ length d.passed) (is_busy i d) _ _ (λ q. refl) (λ q. refl)

pub replies_stations : (i : Planned) (t : Taken) (x : End) → length (replies i t x).out.passed ≡ length x.out.passed
replies_stations i a_part x = refl
replies_stations i (whole c) x =
    by_given (λ (y : End). length y.out.passed ≡ length x.out.passed) (rule_at x.rules c.msg) x _ refl
    (λ msg q. reply_stations i (record { msg = msg; args = c.args }) x.out)

queue_stations : (f : Queue → Queue) (x : End) → length (in_queue f x).out.passed ≡ length x.out.passed
queue_stations f x = ap (λ (d : Direction). length d.passed) (queue_out x f)

-- ---- each event

module _ (R : State → Type 0) (K : BindingsKeep R) where
  on_channel : (e : EndId) (f : ℕ → End → Dispatcher → Dispatcher) (s : State) → R s → R (change_channel e f s)
  on_channel e f s h = by_given R (end_of s e) _ _ h (λ x q. by_given R x.seat _ _ h (λ seat r. K.same s _ refl refl h))

  on_seat : (d : DispatcherId) (e : EndId) (s : State) → R s → R (seats d e s)
  on_seat d e s h =
      by_given R (dispatcher_of s d) _ _ h
      (λ x q. K.same (change_end e (λ y. record y { seat = Some (record { dispatcher = d; channel = length x.ends }) }) s) _ refl refl
      (K.ends e (λ y. record y { seat = Some (record { dispatcher = d; channel = length x.ends }) }) s (λ y. refl) h))

  on_bound : (e : EndId) (circuit : ℕ) (s : State) → R s → R (binds_end e circuit s)
  on_bound e circuit s h =
      on_channel e _ (change_end e (λ x. record x { circuit = Some circuit }) s) (K.ends e (λ x. record x { circuit = Some circuit }) s (λ y. refl) h)

  on_both : (n : ℕ) (w : BindByNames) (s : State) → R s → R (binds_both n w s)
  on_both n w s h =
      on_bound (end_id n Server) 0 _ (on_bound (end_id n Client) 0 _
      (on_seat w.service.dispatcher (end_id n Server) _ (on_seat w.client (end_id n Client) s h)))

  on_delivered : (l : Label) (e : EndId) (s : State) → R s → R (delivers l e s)
  on_delivered l e s h =
      on_channel e _ (change_end e (in_queue (joined_by l)) s) (K.ends e (in_queue (joined_by l)) s (queue_stations (joined_by l)) h)

  on_out : (e : EndId) (f : Direction → Direction) (s : State) → ((d : Direction) → length (f d).passed ≡ length d.passed) → R s → R (change_out e f s)
  on_out e f s k h = K.ends e (λ x. record x { out = f x.out }) s (λ x. k x.out) h

  on_taken : (e sender : EndId) (t : Taken) (i : Planned) (s : State) → R s → R (change_end e (replies i t) (change_out sender takes_one s))
  on_taken e sender t i s h =
      K.ends e (replies i t) (change_out sender takes_one s) (replies_stations i t)
      (on_out sender takes_one s (λ d. passes_stations (last_station d) d) h)

  on_label : (e : EndId) (i : Planned) (l : Label) (s : State) → R s → R (takes_label e i l s).state
  on_label e i (next_of sender k) s h =
      by_given (λ (o : StepOutcome). R o.state) (end_of s sender) _ _ h (λ y r. on_taken e sender (comes_to i y.out) i s h)
  on_label e i (says m) s h = h
  on_label e i acknowledges s h = h

  on_follows : (x : Heard) (s : State) → R s → R (follows x s).state
  on_follows no_outbox s h = h
  on_follows misrouted s h = h
  on_follows (opening_went_on n c) s h = K.routes n (with_number c) s (λ r. refl) h
  on_follows (server_made n d c) s h =
      on_bound (end_id n Server) c _ (on_seat d (end_id n Server) _ (K.routes n grants s (λ r. refl) h))
  on_follows (opening_failed n fault) s h = K.routes n (denies fault) s (λ r. refl) h
  on_follows (answer_went_on n) s h = K.routes n passes_word s (λ r. refl) h
  on_follows (end_opened e c) s h = on_bound e c _ (K.routes e.binding passes_word s (λ r. refl) h)
  on_follows (end_refused e fault) s h = K.routes e.binding passes_word s (λ r. refl) h

  on_said : (at : RingEnd) (x : Heard) (s : State) → R s → R (takes_said at x s)
  on_said at no_outbox s h = h
  on_said at misrouted s h = h
  on_said at (opening_went_on n c) s h = K.same s _ refl refl h
  on_said at (server_made n d c) s h = K.same s _ refl refl h
  on_said at (opening_failed n fault) s h = K.same s _ refl refl h
  on_said at (answer_went_on n) s h = K.same s _ refl refl h
  on_said at (end_opened e c) s h = K.same s _ refl refl h
  on_said at (end_refused e fault) s h = K.same s _ refl refl h

  on_found : (t : Chosen) (at : RingEnd) (l : Label) (s : State) → R s → R (finds t at l s).state
  on_found t at (next_of e k) s h = K.same s _ refl refl h
  on_found t at (says m) s h = K.same s _ refl refl h
  on_found t at acknowledges s h = K.same s _ refl refl h

  on_written : (e : EndId) (i : Planned) (d : Direction) (o : Outlet) (s : State) → R s → R (writes_to e i d o there_is_room s).state
  on_written e i d peer_queue s h =
      on_delivered _ (peer e) _ (on_out e (λ x. (writes i x there_is_room).direction) s (writes_stations i) h)
  on_written e i d (ring_side on) s h =
      K.same (change_out e (λ x. (writes i x there_is_room).direction) s) _ refl refl
      (on_out e (λ x. (writes i x there_is_room).direction) s (writes_stations i) h)

  pub bindings_keep : Keeps R
  bindings_keep = record {
    settled = λ s h. K.same s _ refl refl h;
    interface = λ i s q h. K.interface i s h;
    cores = λ n s q h. K.same s _ refl refl h;
    link = λ a b size s q r h. K.same s _ refl refl h;
    dispatcher = λ core s h. K.same s _ refl refl h;
    service = λ x s d i q r t h. K.same s _ refl refl h;
    queues = λ w i slots s k q h.
        on_both (length s.bindings) w _ (K.grows w i local (Some (fresh_queue slots)) s k.interface (omega arith) h);
    ring = λ w i size s k q r h.
        on_both (length s.bindings) w _
        (K.grows w i (over_ring (length s.rings)) None (with_ring size s) k.interface (omega arith) (K.same s _ refl refl h));
    route = λ w i cores k l c s want begins h.
        let back : Back = over_route (record { service = w.iref; cores = cores; numbers = c ∷ []; verdict = undecided }) in
        K.same (seats w.client (end_id (length s.bindings) Client) (with_new_binding w back (length cores + 1) (Some arrival_queue) s)) _ refl refl
        (on_seat w.client (end_id (length s.bindings) Client) _
        (K.grows w i back (Some arrival_queue) s want.interface (long_route cores _ _ s (is_not _ begins.route)) h));
    called = λ e c b i s at q h. on_out e (accepts c) s (λ d. refl) h;
    sure = λ need at s h. K.same s _ refl refl h;
    looked = λ at s h. K.same s _ refl refl h;
    written = λ e b i o s at q r t u h. on_written e i (end_in e.side b).out o s h;
    held = λ t b i s d at q h. K.same s _ refl refl h;
    no_label = λ t to s d h. K.same s _ refl refl h;
    from_queue = λ t b i q label s d at u v w h.
        on_label t.end i label _ (K.same (change_end t.end (in_queue without_first) s) _ refl refl
        (K.ends t.end (in_queue without_first) s (queue_stations without_first) h));
    from_ring = λ t b i at first s d k u v w h. on_label t.end i first.label _ (K.same s _ refl refl h);
    found_none = λ t s d h. K.same s _ refl refl h;
    found = λ t b at first s d q r u h. on_found t at first.label _ (K.same s _ refl refl h);
    acknowledged = λ at s q h. K.same s _ refl refl h;
    registered = λ e x s q r t h. on_channel e _ s h;
    deregistered = λ e x s q r h. on_channel e _ s h;
    ruled = λ e msg answer b i s at h. K.ends e (with_rule msg answer) s (λ x. refl) h;
    monitor_written = λ here link m s k q r t h. K.same s _ refl refl h;
    heard = λ here m first k s j q r t h.
        let x : Hearing = hears s.services here.link m k in
        let told : State = change_core here.core (λ y. x.core) s in
        on_follows x.heard (takes_said here.ring x.heard told) (on_said here.ring x.heard told (K.same s told refl refl h));
    passed = λ here p first route hop on s k q h.
        on_out p.end (passes p.station) _ (passes_stations p.station) (K.same s _ refl refl h);
    arrived = λ here p first route hop to s k q h.
        on_out p.end (passes p.station) _ (passes_stations p.station) (K.same (delivers (label_of p) to s) _ refl refl (on_delivered (label_of p) to s h));
    taken = λ here first s k q r h. K.same s _ refl refl h;
  }

-- ---- the stations of each binding's calls

pub record StationsOf (back : Back) (x : End) : Type 0 where
  pub passed : length x.out.passed ≡ stations back
  pub two : 2 ≤ stations back

pub record Shaped (b : Binding) : Type 0 where
  pub client : StationsOf b.back b.client
  pub server : StationsOf b.back b.server

abbrev pub AllShaped : State → Type 0
AllShaped s = Each Shaped s.bindings

shaped_end : (side : Side) (f : End → End) (b : Binding) → KeepsStations f → Shaped b → Shaped (with_end_in side f b)
shaped_end Client f b k h = record { client = record { passed = k b.client ∙ h.client.passed; two = h.client.two }; server = h.server }
shaped_end Server f b k h = record { client = h.client; server = record { passed = k b.server ∙ h.server.passed; two = h.server.two } }

same_stations : (f : Route → Route) (back : Back) → ((r : Route) → (f r).cores ≡ r.cores) → stations (in_route f back) ≡ stations back
same_stations f local k = refl
same_stations f (over_ring n) k = refl
same_stations f (over_route route) k = ap (λ (cores : List ℕ). length cores + 1) (k route)

stations_kept : (f : Route → Route) (back : Back) (x : End) → ((r : Route) → (f r).cores ≡ r.cores) → StationsOf back x → StationsOf (in_route f back) x
stations_kept f back x k h =
    let same : stations (in_route f back) ≡ stations back = same_stations f back k in
    record { passed = h.passed ∙ sym same; two = subst (λ (n : ℕ). 2 ≤ n) (sym same) h.two }

pub all_shaped : BindingsKeep AllShaped
all_shaped = record {
  ends = λ e f s k h. each_changed Shaped s.bindings e.binding (with_end_in e.side f) h (λ b q ok. shaped_end e.side f b k ok);
  routes = λ n f s k h. each_changed Shaped s.bindings n (λ b. record b { back = in_route f b.back }) h
      (λ b q ok. record { client = stations_kept f b.back b.client k ok.client; server = stations_kept f b.back b.server k ok.server });
  grows = λ w i back q s there two h.
      let long : length (replicate (stations back) 0) ≡ stations back = length_replicate (stations back) 0 in
      each_push Shaped s.bindings _ h (record { client = record { passed = long; two = two }; server = record { passed = long; two = two } });
  interface = λ i s h. h;
  same = λ s t p q h. subst (Each Shaped) (sym p) h;
}

-- ---- the interface of a binding

pub record IsBoundTo (n : ℕ) (i : Planned) (s : State) : Type 0 where
  pub binding : Binding
  pub there : slice_get s.bindings n ≡ Some binding
  pub interface : interface_of s binding ≡ Some i

there_set : {X : Type 0} (P : X → Type 0) (xs : List X) (n k : ℕ) (f : X → X) (w : X) → slice_get xs k ≡ Some w → ((x : X) → P x → P (f x)) → (x : X) → slice_get xs n ≡ Some x → P x
    → (y : X) × (slice_get (slice_set xs k (f w)) n ≡ Some y) × P y
there_set P [] n k f w q e x p h = absurd (cc)
there_set P (z ∷ xs) zero zero f w q e x p h = (f w, refl, subst (λ v. P (f v)) (let u : Some x ≡ Some w = sym p ∙ q in cc) (e x h))
there_set P (z ∷ xs) (suc n) zero f w q e x p h = (x, p, h)
there_set P (z ∷ xs) zero (suc k) f w q e x p h = (x, p, h)
there_set P (z ∷ xs) (suc n) (suc k) f w q e x p h = there_set P xs n k f w q e x p h

there_changed : {X : Type 0} (P : X → Type 0) (xs : List X) (n k : ℕ) (f : X → X) → ((x : X) → P x → P (f x)) → (x : X) → slice_get xs n ≡ Some x → P x
    → (y : X) × (slice_get (changed_at k f xs) n ≡ Some y) × P y
there_changed {X} P xs n k f e x p h =
    by_given (λ (ys : List X). (y : X) × (slice_get ys n ≡ Some y) × P y) (slice_get xs k) xs (λ w. slice_set xs k (f w)) (x, p, h)
    (λ w q. there_set P xs n k f w q e x p h)

bound_changed : (n k : ℕ) (i : Planned) (f : Binding → Binding) (s : State) → ((b : Binding) → (f b).interface ≡ b.interface) → IsBoundTo n i s
    → IsBoundTo n i (record s { bindings = changed_at k f s.bindings })
bound_changed n k i f s e h =
    let c = there_changed (λ (b : Binding). slice_get s.interfaces b.interface ≡ Some i) s.bindings n k f
    (λ b q. subst (λ (m : ℕ). slice_get s.interfaces m ≡ Some i) (sym (e b)) q) h.binding h.there h.interface in
    record { binding = c.0; there = c.1; interface = c.2 }

pub bound_keep : (n : ℕ) (i : Planned) → BindingsKeep (IsBoundTo n i)
bound_keep n i = record {
  ends = λ e f s k h. bound_changed n e.binding i (with_end_in e.side f) s (λ b. interface_side e.side f b) h;
  routes = λ m f s k h. bound_changed n m i (λ b. record b { back = in_route f b.back }) s (λ b. refl) h;
  grows = λ w j back q s there two h. record { binding = h.binding; there = get_push s.bindings n h.binding _ h.there; interface = h.interface };
  interface = λ j s h. record { binding = h.binding; there = h.there; interface = get_push s.interfaces h.binding.interface i j h.interface };
  same = λ s t p q h. record {
    binding = h.binding;
    there = ap (λ (bs : List Binding). slice_get bs n) p ∙ h.there;
    interface = ap (λ (is : List Planned). slice_get is h.binding.interface) q ∙ h.interface;
  };
}
