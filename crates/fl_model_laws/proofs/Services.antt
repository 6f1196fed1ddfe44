-- The dispatcher and the interface of each service are there: dispatchers only come, and so do interfaces.
use Rattle.std.proofs.Common.{◌≡◌, refl, sym, ◌∙◌, ap, ℕ, zero, suc, ◌+◌, ◌≤◌}
use Rattle.std.proofs.Common.{List, [], ◌∷◌, ◌++◌, length, slice_get, slice_set, Option, Some, None, arith}
use Rattle.std.specs.Prelude.{IsSome}
use Rattle.std.proofs.lemmas.List.{length-append}
use Rattle.fl_base.specs.declared.identity.EndId.{EndId}
use Rattle.fl_base.specs.declared.identity.Side.TheVariants.{Client, Server}
use Rattle.fl_base.specs.Ends.{peer}
use Rattle.fl_base.specs.Given.{given}
use Rattle.fl_lists.specs.declared.place.Place.TheVariants.{Polled}
use Rattle.fl_hop.specs.declared.entry.HopTarget.{HopTarget}
use Rattle.fl_hop.specs.declared.entry.HopTarget.TheVariants.{Link as to_link, End as to_end}
use Rattle.fl_hop.specs.declared.entry.Hop.{Hop}
use Rattle.fl_hop.specs.Table.{TheCircuits, hop_at}
use Rattle.fl_model.specs.Given.{changed_at}
use Rattle.fl_model.specs.Events.{DispatcherId, Event}
use Rattle.fl_model.specs.Calls.{Planned}
use Rattle.fl_model.specs.Rings.{OpeningLabel, MonitorLabel, open_circuit, circuit_opened, circuit_refused, Label, next_of, says, acknowledges, RingEnd, there_is_room, looks, takes, first_side}
use Rattle.fl_model.specs.Ends.{End, Direction, fresh_queue, without_first}
use Rattle.fl_model.specs.Waits.{Dispatcher, waits_in, with_end, fresh_dispatcher}
use Rattle.fl_model.specs.Monitors.{Core, Service, can_say, Fate, goes_on, ends_at, fails, fate, saying, hears_opening, hears_opened, hears_refused, Hearing, hears, opens}
use Rattle.fl_model.specs.Monitors.{Heard, no_outbox, misrouted, opening_went_on, server_made, opening_failed, answer_went_on, end_opened, end_refused}
use Rattle.fl_model.specs.State.{Route, State, StepOutcome, local, over_ring, over_route, undecided, Outlet, peer_queue, ring_side, core_of, dispatcher_of, end_of, end_in}
use Rattle.fl_model.specs.State.{change_core, change_dispatcher, change_channel, change_ring, change_end, change_route, seats, binds_end, in_queue}
use Rattle.fl_model.specs.Making.{with_dispatcher, linked}
use Rattle.fl_model.specs.Binding.{BindByNames, end_id, with_new_binding, binds_both, arrival_queue}
use Rattle.fl_model.specs.Sending.{writes_to}
use Rattle.fl_model.specs.Taking.{Chosen, takes_label, goes_back, finds}
use Rattle.fl_model.specs.Forwarding.{without_first_said, follows, takes_said, grants, passes_word}
use Rattle.fl_model.specs.Step.{step}
use Rattle.fl_model.specs.SoundPlaces.{ServicesStand}
use Rattle.fl_model.specs.SoundLists.{IsBare, BareUntilCoresAreSet}
use Rattle.fl_model_laws.proofs.Cases.{either, by_given, each_push}
use Rattle.fl_model_laws.proofs.Replies.{length_changed}
use Rattle.fl_model_laws.proofs.EndsStanding.{in_range, there_is}
use Rattle.fl_model_laws.proofs.Bare.{none_of}
use Rattle.fl_model_laws.proofs.Walk.{KeepsFrom, step_leads, with_ring}
use Rattle.fl_model_laws.proofs.Small.{is_not}

-- ---- what a core hears leaves its dispatchers

saying_leaves : (l : ℕ) (m : MonitorLabel) (t : TheCircuits) (heard : Heard) (k : Core) → (saying l m t heard k).core.dispatchers ≡ k.dispatchers
saying_leaves l m t heard k =
    either (λ (x : Hearing). x.core.dispatchers ≡ k.dispatchers) (can_say l k) _ _ (λ q. refl) (λ q. refl)

opening_leaves : (l : ℕ) (o : OpeningLabel) (f : Fate) (k : Core) → (hears_opening l o f k).core.dispatchers ≡ k.dispatchers
opening_leaves l o (goes_on m n) k = saying_leaves m _ _ _ k
opening_leaves l o (ends_at d) k = saying_leaves l _ _ _ k
opening_leaves l o (fails fault) k = saying_leaves l _ _ _ k

opened_leaves : (l c : ℕ) (hop : Hop) (way : HopTarget) (k : Core) → (hears_opened l c hop way k).core.dispatchers ≡ k.dispatchers
opened_leaves l c hop (to_link m d) k = saying_leaves m.0 _ _ _ k
opened_leaves l c hop (to_end e) k = refl

refused_leaves : (l c fault : ℕ) (hop : Hop) (way : HopTarget) (k : Core) → (hears_refused l c fault hop way k).core.dispatchers ≡ k.dispatchers
refused_leaves l c fault hop (to_link m d) k = saying_leaves m.0 _ _ _ k
refused_leaves l c fault hop (to_end e) k = refl

pub hears_leaves : (services : List Service) (l : ℕ) (m : MonitorLabel) (k : Core) → (hears services l m k).core.dispatchers ≡ k.dispatchers
hears_leaves services l (open_circuit o) k = opening_leaves l o (fate services o k) k
hears_leaves services l (circuit_opened c) k =
    by_given (λ (x : Hearing). x.core.dispatchers ≡ k.dispatchers) (hop_at k.circuits l c) _ _ refl (λ hop q. opened_leaves l c hop hop.way k)
hears_leaves services l (circuit_refused c fault) k =
    by_given (λ (x : Hearing). x.core.dispatchers ≡ k.dispatchers) (hop_at k.circuits l c) _ _ refl (λ hop q. refused_leaves l c fault hop hop.way k)

-- ---- dispatchers stay

abbrev pub At : List Core → ℕ → ℕ → Option Dispatcher
At cores n place = given (slice_get cores n) None (λ k. slice_get k.dispatchers place)

set_stays : (cores : List Core) (n : ℕ) (k y : Core) (m place : ℕ) → slice_get cores n ≡ Some k → length k.dispatchers ≤ length y.dispatchers
    → IsSome (At cores m place) → IsSome (At (slice_set cores n y) m place)
set_stays [] n k y m place q a h = absurd (cc)
set_stays (z ∷ cores) zero k y zero place q a h =
    let same : z ≡ k = cc in
    let there : suc place ≤ length z.dispatchers = in_range z.dispatchers place h in
    let as_many : length z.dispatchers ≡ length k.dispatchers = ap (λ (x : Core). length x.dispatchers) same in
    there_is y.dispatchers place (omega arith)
set_stays (z ∷ cores) zero k y (suc m) place q a h = h
set_stays (z ∷ cores) (suc n) k y zero place q a h = h
set_stays (z ∷ cores) (suc n) k y (suc m) place q a h = set_stays cores n k y m place q a h

pub changed_stays : (cores : List Core) (n : ℕ) (f : Core → Core) (m place : ℕ)
    → ((k : Core) → slice_get cores n ≡ Some k → length k.dispatchers ≤ length (f k).dispatchers) → IsSome (At cores m place)
    → IsSome (At (changed_at n f cores) m place)
changed_stays cores n f m place a h =
    by_given (λ (ks : List Core). IsSome (At ks m place)) (slice_get cores n) cores (λ k. slice_set cores n (f k)) h
    (λ k q. set_stays cores n k (f k) m place q (a k q) h)

pub core_kept : (n : ℕ) (f : Core → Core) (s : State) → ((k : Core) → core_of s n ≡ Some k → length k.dispatchers ≤ length (f k).dispatchers)
    → ServicesStand s → ServicesStand (change_core n f s)
core_kept n f s a h m x q = (changed_stays s.cores n f x.dispatcher.core x.dispatcher.place a (h m x q).0, (h m x q).1)

dispatcher_kept : (d : DispatcherId) (f : Dispatcher → Dispatcher) (s : State) → ServicesStand s → ServicesStand (change_dispatcher d f s)
dispatcher_kept d f s h =
    core_kept d.core (λ k. record k { dispatchers = changed_at d.place f k.dispatchers }) s
    (λ k q. let same : length (changed_at d.place f k.dispatchers) ≡ length k.dispatchers = length_changed k.dispatchers d.place f in omega arith) h

channel_kept : (e : EndId) (f : ℕ → End → Dispatcher → Dispatcher) (s : State) → ServicesStand s → ServicesStand (change_channel e f s)
channel_kept e f s h =
    by_given ServicesStand (end_of s e) _ _ h
    (λ x q. by_given ServicesStand x.seat _ _ h (λ seat r. dispatcher_kept seat.dispatcher (f seat.channel x) s h))

seat_kept : (d : DispatcherId) (e : EndId) (s : State) → ServicesStand s → ServicesStand (seats d e s)
seat_kept d e s h = by_given ServicesStand (dispatcher_of s d) _ _ h (λ x q. dispatcher_kept d (with_end e) s h)

bound_kept : (e : EndId) (circuit : ℕ) (s : State) → ServicesStand s → ServicesStand (binds_end e circuit s)
bound_kept e circuit s h = channel_kept e _ (change_end e (λ y. record y { circuit = Some circuit }) s) h

both_kept : (n : ℕ) (w : BindByNames) (s : State) → ServicesStand s → ServicesStand (binds_both n w s)
both_kept n w s h =
    let c : EndId = end_id n Client in
    let v : EndId = end_id n Server in
    let first : State = seats w.client c s in
    let second : State = seats w.service.dispatcher v first in
    bound_kept v 0 (binds_end c 0 second) (bound_kept c 0 second (seat_kept w.service.dispatcher v first (seat_kept w.client c s h)))

written_kept : (e : EndId) (i : Planned) (d : Direction) (o : Outlet) (s : State) → ServicesStand s
    → ServicesStand (writes_to e i d o there_is_room s).state
written_kept e i d peer_queue s h = channel_kept (peer e) _ _ h
written_kept e i d (ring_side on) s h = h

label_taken : (e : EndId) (i : Planned) (l : Label) (s : State) → ServicesStand s → ServicesStand (takes_label e i l s).state
label_taken e i (next_of sender k) s h = by_given (λ (o : StepOutcome). ServicesStand o.state) (end_of s sender) _ _ h (λ y r. h)
label_taken e i (says m) s h = h
label_taken e i acknowledges s h = h

found_kept : (t : Chosen) (at : RingEnd) (l : Label) (s : State) → ServicesStand s → ServicesStand (finds t at l s).state
found_kept t at (next_of e k) s h = dispatcher_kept t.dispatcher _ s h
found_kept t at (says m) s h = dispatcher_kept t.dispatcher _ s h
found_kept t at acknowledges s h = dispatcher_kept t.dispatcher _ (change_ring at.ring (takes at.side) s) h

follows_kept : (x : Heard) (s : State) → ServicesStand s → ServicesStand (follows x s).state
follows_kept no_outbox s h = h
follows_kept misrouted s h = h
follows_kept (opening_went_on n c) s h = h
follows_kept (server_made n d c) s h =
    bound_kept (end_id n Server) c (seats d (end_id n Server) (change_route n grants s)) (seat_kept d (end_id n Server) (change_route n grants s) h)
follows_kept (opening_failed n fault) s h = h
follows_kept (answer_went_on n) s h = h
follows_kept (end_opened e c) s h = bound_kept e c (change_route e.binding passes_word s) h
follows_kept (end_refused e fault) s h = h

said_kept : (at : RingEnd) (x : Heard) (s : State) → ServicesStand s → ServicesStand (takes_said at x s)
said_kept at no_outbox s h = h
said_kept at misrouted s h = h
said_kept at (opening_went_on n c) s h = h
said_kept at (server_made n d c) s h = h
said_kept at (opening_failed n fault) s h = h
said_kept at (answer_went_on n) s h = h
said_kept at (end_opened e c) s h = h
said_kept at (end_refused e fault) s h = h

some_push : {X : Type 0} (xs : List X) (n : ℕ) (y : X) → IsSome (slice_get xs n) → IsSome (slice_get (xs ++ y ∷ []) n)
some_push xs n y h =
    let there : suc n ≤ length xs = in_range xs n h in
    let longer : length (xs ++ y ∷ []) ≡ length xs + 1 = length-append xs (y ∷ []) in
    there_is (xs ++ y ∷ []) n (omega arith)

-- ---- the walk

pub record Placed (s : State) : Type 0 where
  pub services : ServicesStand s
  pub bare : BareUntilCoresAreSet s

pub ring_bare : (n : ℕ) (f : Rattle.fl_model.specs.Rings.Ring → Rattle.fl_model.specs.Rings.Ring) (s : State) → BareUntilCoresAreSet s
    → BareUntilCoresAreSet (change_ring n f s)
ring_bare n f s h m =
    let b : IsBare s = h m in
    record {
      rings = ap (changed_at n f) b.rings;
      services = b.services;
      bindings = b.bindings;
      links = b.links;
      dispatchers = b.dispatchers;
    }

services_keep : KeepsFrom Placed ServicesStand
services_keep = record {
  settled = λ s h. h;
  interface = λ i s q h n x r. ((h.services n x r).0, some_push s.interfaces x.interface i (h.services n x r).1);
  cores = λ n s q h m x r. let b : IsBare s = h.bare (is_not s.may_set_cores q) in absurd (none_of s.services m x b.services r);
  link = λ a b size s q r h.
      core_kept b _ (change_core a (linked b (length s.rings) first_side) (with_ring size s)) (λ k t. omega arith)
      (core_kept a _ (with_ring size s) (λ k t. omega arith) h.services);
  dispatcher = λ core s h.
      core_kept core with_dispatcher s
      (λ k q. let longer : length (k.dispatchers ++ fresh_dispatcher ∷ []) ≡ length k.dispatchers + 1 = length-append k.dispatchers (fresh_dispatcher ∷ []) in omega arith)
      h.services;
  service = λ x s d i q r t h.
      each_push (λ (y : Service). IsSome (dispatcher_of s y.dispatcher) × IsSome (slice_get s.interfaces y.interface)) s.services x h.services
      (ap Rattle.std.specs.Prelude.is_some q, ap Rattle.std.specs.Prelude.is_some r);
  queues = λ w i slots s k q h. both_kept (length s.bindings) w (with_new_binding w local 2 (Some (fresh_queue slots)) s) h.services;
  ring = λ w i size s k q r h.
      both_kept (length s.bindings) w (with_new_binding w (over_ring (length s.rings)) 2 None (with_ring size s)) h.services;
  route = λ w i cores k l c s want begins h.
      let way : Route = record { service = w.iref; cores = cores; numbers = c ∷ []; verdict = undecided } in
      let opening : OpeningLabel = record { circuit = c; binding = length s.bindings; service = w.iref; path = cores } in
      let fresh : State = with_new_binding w (over_route way) (length cores + 1) (Some arrival_queue) s in
      core_kept w.client.core (opens l c opening) (seats w.client (end_id (length s.bindings) Client) fresh) (λ x q. omega arith)
      (seat_kept w.client (end_id (length s.bindings) Client) fresh h.services);
  called = λ e c b i s at q h. h.services;
  sure = λ need at s h. record { services = h.services; bare = ring_bare at.ring _ s h.bare };
  looked = λ at s h. record { services = h.services; bare = ring_bare at.ring _ s h.bare };
  written = λ e b i o s at q r t u h. written_kept e i (end_in e.side b).out o s h.services;
  held = λ t b i s d at q h. dispatcher_kept t.dispatcher _ s h.services;
  no_label = λ t to s d h. dispatcher_kept t.dispatcher _ s h.services;
  from_queue = λ t b i q label s d at u v w h.
      label_taken t.end i label (goes_back t (waits_in (Some (without_first q))) (change_end t.end (in_queue without_first) s))
      (dispatcher_kept t.dispatcher _ (change_end t.end (in_queue without_first) s) h.services);
  from_ring = λ t b i at first s d k u v w h.
      label_taken t.end i first.label (goes_back t Polled (change_ring at.ring (takes at.side) s))
      (dispatcher_kept t.dispatcher _ (change_ring at.ring (takes at.side) s) h.services);
  found_none = λ t s d h. dispatcher_kept t.dispatcher _ s h.services;
  found = λ t b at first s d q r u h. found_kept t at first.label (change_ring at.ring (looks at.side) s) h.services;
  acknowledged = λ at s q h. h.services;
  registered = λ e x s q r t h. channel_kept e _ s h.services;
  deregistered = λ e x s q r h. channel_kept e _ s h.services;
  ruled = λ e msg answer b i s at h. h.services;
  monitor_written = λ here link m s k q r t h. core_kept here.core (without_first_said here.link) s (λ x u. omega arith) h.services;
  heard = λ here m first k s j q r t h.
      let x : Hearing = hears s.services here.link m k in
      let told : State = change_core here.core (λ y. x.core) s in
      let as_many : length x.core.dispatchers ≡ length k.dispatchers = ap length (hears_leaves s.services here.link m k) in
      let kept : ServicesStand told = core_kept here.core (λ y. x.core) s
      (λ y u. let same : k ≡ y = (let e : Some k ≡ Some y = sym t ∙ u in cc) in
      let long : length k.dispatchers ≡ length y.dispatchers = ap (λ (z : Core). length z.dispatchers) same in omega arith) h.services in
      follows_kept x.heard (takes_said here.ring x.heard told) (said_kept here.ring x.heard told kept);
  passed = λ here p first route hop on s k q h. h.services;
  arrived = λ here p first route hop to s k q h. channel_kept to _ _ h.services;
  taken = λ here first s k q r h. h.services;
}

pub step_keeps_services : (s : State) (v : Event) → BareUntilCoresAreSet s → ServicesStand s → ServicesStand (step s v).state
step_keeps_services s v b h =
    step_leads Placed ServicesStand (λ t x. x.services) services_keep s v (record { services = h; bare = b })
