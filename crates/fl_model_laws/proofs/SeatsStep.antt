-- Each step of a sound state keeps the seats: only a bind and an opening that arrives seat an end, and none that has a seat.
use Rattle.std.proofs.Common.{◌≡◌, refl, sym, ◌∙◌, ap, ℕ, ◌+◌}
use Rattle.std.proofs.Common.{[], ◌∷◌, map, length, slice_get, Some, None}
use Rattle.std.specs.List.{range_with_len}
use Rattle.fl_base.specs.declared.identity.EndId.{EndId}
use Rattle.fl_base.specs.declared.identity.Side.TheVariants.{Client, Server}
use Rattle.fl_base.specs.Ends.{peer}
use Rattle.fl_lists.specs.declared.place.Place.TheVariants.{Polled}
use Rattle.fl_model.specs.Events.{DispatcherId, Event}
use Rattle.fl_model.specs.Calls.{Planned}
use Rattle.fl_model.specs.Rings.{OpeningLabel, MonitorLabel, Label, next_of, says, acknowledges, RingLabel, Ring, RingEnd, RingSide, first_for, there_is_room, looks, makes_sure, takes, first_side, second_side}
use Rattle.fl_model.specs.Ends.{End, Queue, Direction, fresh_queue, joined_by, without_first, accepts, writes, written_of, with_rule, passes, takes_one, comes_to, rule_at, Taken, whole, a_part, replies}
use Rattle.fl_model.specs.Waits.{waits_in}
use Rattle.fl_model.specs.Monitors.{Core, fresh_core, opens, Hearing, hears}
use Rattle.fl_model.specs.Monitors.{Heard, no_outbox, misrouted, opening_went_on, server_made, opening_failed, answer_went_on, end_opened, end_refused}
use Rattle.fl_model.specs.State.{Route, local, over_ring, over_route, undecided, Binding, State, StepOutcome, Outlet, peer_queue, ring_side, core_of, dispatcher_of, end_of, end_in, first_on}
use Rattle.fl_model.specs.State.{change_core, change_ring, change_end, change_out, change_route, in_route, in_queue, delivers, seats, binds_end}
use Rattle.fl_model.specs.Making.{linked}
use Rattle.fl_model.specs.Binding.{BindByNames, end_id, with_new_binding, binds_both, arrival_queue}
use Rattle.fl_model.specs.Sending.{writes_to}
use Rattle.fl_model.specs.Taking.{Chosen, takes_label, goes_back, finds}
use Rattle.fl_model.specs.Forwarding.{LinkEnd, without_first_said, follows, takes_said, grants, denies, with_number, passes_word, label_of}
use Rattle.fl_model.specs.Step.{step}
use Rattle.fl_model.specs.SoundLists.{IsBare, BareUntilCoresAreSet}
use Rattle.fl_model.specs.SoundPlaces.{SeatsAgree}
use Rattle.fl_model_laws.proofs.Cases.{by_given}
use Rattle.fl_model_laws.proofs.Bare.{none_of}
use Rattle.fl_model_laws.proofs.CoreWalk.{each_at_fresh}
use Rattle.fl_model_laws.proofs.BindingWalk.{given_there, new_binding}
use Rattle.fl_model_laws.proofs.Ready.{get_last}
use Rattle.fl_model_laws.proofs.Services.{hears_leaves, ring_bare}
use Rattle.fl_model_laws.proofs.Seats.{given_elem, ends_in, Agree, Unseated, end_kept, route_kept, core_kept, dispatcher_kept, channel_kept, bound_kept, new_kept, added_kept, seating_kept, agree_of, seats_of}
use Rattle.fl_model_laws.proofs.WaitsetsKept.{looks_same, sure_same, first_same}
use Rattle.fl_model_laws.proofs.Walk.{KeepsFrom, IsHere, step_leads, with_ring}
use Rattle.fl_model_laws.proofs.Small.{is_not, some_same, changed_here}

-- ---- what leaves seats

queue_seat : (f : Queue → Queue) (x : End) → (in_queue f x).seat ≡ x.seat
queue_seat f x = by_given (λ (y : End). y.seat ≡ x.seat) x.queue x _ refl (λ q r. refl)

replies_seat : (i : Planned) (t : Taken) (x : End) → (replies i t x).seat ≡ x.seat
replies_seat i a_part x = refl
replies_seat i (whole c) x = by_given (λ (y : End). y.seat ≡ x.seat) (rule_at x.rules c.msg) x _ refl (λ m q. refl)

delivered_kept : (l : Label) (e : EndId) (s : State) → Agree s → Agree (delivers l e s)
delivered_kept l e s h =
    channel_kept e _ (change_end e (in_queue (joined_by l)) s) (λ c x y. refl) (end_kept e (in_queue (joined_by l)) s (λ x. queue_seat (joined_by l) x) h)

written_kept : (e : EndId) (i : Planned) (d : Direction) (o : Outlet) (s : State) → Agree s → Agree (writes_to e i d o there_is_room s).state
written_kept e i d peer_queue s h =
    delivered_kept (next_of e (written_of d)) (peer e) (change_out e (λ x. (writes i x there_is_room).direction) s)
    (end_kept e (λ x. record x { out = (writes i x.out there_is_room).direction }) s (λ x. refl) h)
written_kept e i d (ring_side on) s h = end_kept e (λ x. record x { out = (writes i x.out there_is_room).direction }) s (λ x. refl) h

label_taken : (e : EndId) (i : Planned) (l : Label) (s : State) → Agree s → Agree (takes_label e i l s).state
label_taken e i (next_of sender k) s h =
    by_given (λ (o : StepOutcome). Agree o.state) (end_of s sender) _ _ h
    (λ y r. end_kept e (replies i (comes_to i y.out)) (change_out sender takes_one s) (λ x. replies_seat i (comes_to i y.out) x)
    (end_kept sender (λ x. record x { out = takes_one x.out }) s (λ x. refl) h))
label_taken e i (says m) s h = h
label_taken e i acknowledges s h = h

found_kept : (t : Chosen) (at : RingEnd) (l : Label) (s : State) → Agree s → Agree (finds t at l s).state
found_kept t at (next_of e k) s h = dispatcher_kept t.dispatcher _ s (λ y. refl) h
found_kept t at (says m) s h = dispatcher_kept t.dispatcher _ s (λ y. refl) h
found_kept t at acknowledges s h = dispatcher_kept t.dispatcher _ (change_ring at.ring (takes at.side) s) (λ y. refl) h

-- ---- who is seated

-- the server's end is unseated after the client's was seated
pub server_free : (n : ℕ) (d : DispatcherId) (s : State) → Unseated (end_id n Server) s → Unseated (end_id n Server) (seats d (end_id n Client) s)
server_free n d s u =
    by_given (Unseated (end_id n Server)) (dispatcher_of s d) _ _ u
    (λ x q. (
      record u.0 { client = record u.0.client { seat = Some (record { dispatcher = d; channel = length x.ends }) } },
      changed_here s.bindings n (λ (b : Binding). record b { client = record b.client { seat = Some (record { dispatcher = d; channel = length x.ends }) } }) u.0 u.1,
      u.2,
    ))

both_kept : (n : ℕ) (w : BindByNames) (s : State) → Unseated (end_id n Client) s → Unseated (end_id n Server) s → Agree s → Agree (binds_both n w s)
both_kept n w s uc uv h =
    let c : EndId = end_id n Client in
    let v : EndId = end_id n Server in
    let first : State = seats w.client c s in
    let second : State = seats w.service.dispatcher v first in
    bound_kept v 0 (binds_end c 0 second) (bound_kept c 0 second
    (seating_kept w.service.dispatcher v first (server_free n w.client s uv) (seating_kept w.client c s uc h)))

pub route_free : (n : ℕ) (f : Route → Route) (s : State) → Unseated (end_id n Server) s → Unseated (end_id n Server) (change_route n f s)
route_free n f s u =
    (record u.0 { back = in_route f u.0.back }, changed_here s.bindings n (λ (b : Binding). record b { back = in_route f b.back }) u.0 u.1, u.2)

-- ---- what a core heard

-- the server's end that is made has no seat
abbrev pub SitFits : State → Heard → Type 0
SitFits s (server_made n d c) = Unseated (end_id n Server) s
SitFits s heard = Unit {0}

pub fits_alike : (s t : State) (x : Heard) → ((n : ℕ) → Unseated (end_id n Server) s → Unseated (end_id n Server) t) → SitFits s x → SitFits t x
fits_alike s t no_outbox k h = h
fits_alike s t misrouted k h = h
fits_alike s t (opening_went_on b c) k h = h
fits_alike s t (server_made b d c) k h = k b h
fits_alike s t (opening_failed b fault) k h = h
fits_alike s t (answer_went_on b) k h = h
fits_alike s t (end_opened e c) k h = h
fits_alike s t (end_refused e fault) k h = h

heard_kept : (at : RingEnd) (x : Heard) (s : State) → SitFits s x → Agree s → Agree (follows x (takes_said at x s)).state
heard_kept at no_outbox s f h = h
heard_kept at misrouted s f h = h
heard_kept at (opening_went_on n c) s f h = route_kept n (with_number c) (change_ring at.ring (takes at.side) s) h
heard_kept at (server_made n d c) s f h =
    let e : EndId = end_id n Server in
    let taken : State = change_ring at.ring (takes at.side) s in
    let granted : State = change_route n grants taken in
    bound_kept e c (seats d e granted) (seating_kept d e granted (route_free n grants taken f) (route_kept n grants taken h))
heard_kept at (opening_failed n fault) s f h = route_kept n (denies fault) (change_ring at.ring (takes at.side) s) h
heard_kept at (answer_went_on n) s f h = route_kept n passes_word (change_ring at.ring (takes at.side) s) h
heard_kept at (end_opened e c) s f h =
    let taken : State = change_ring at.ring (takes at.side) s in
    bound_kept e c (change_route e.binding passes_word taken) (route_kept e.binding passes_word taken h)
heard_kept at (end_refused e fault) s f h = route_kept e.binding passes_word (change_ring at.ring (takes at.side) s) h

-- ---- the walk

abbrev pub AllSitFits : State → Type 0
AllSitFits s = (here : LinkEnd) (m : MonitorLabel) (first : RingLabel) (k : Core) → IsHere here s → first_on here.ring s ≡ Some first → first.label ≡ says m
    → core_of s here.core ≡ Some k → SitFits s (hears s.services here.link m k).heard

pub record MaySit (s : State) : Type 0 where
  pub seats : Agree s
  pub bare : BareUntilCoresAreSet s
  pub heard : AllSitFits s

may_sit_looked : (n : ℕ) (f : Ring → Ring) (s : State) → ((side : RingSide) (r : Ring) → first_for side (f r) ≡ first_for side r) → MaySit s
    → MaySit (change_ring n f s)
may_sit_looked n f s same h = record {
  seats = h.seats;
  bare = ring_bare n f s h.bare;
  heard = λ here m first k j q r t.
      fits_alike s (change_ring n f s) (hears s.services here.link m k).heard (λ b u. u)
      (h.heard here m first k (record { core = j.core; neighbour = j.neighbour; here_is = j.here_is })
      (sym (first_same s.rings n here.ring.ring here.ring.side f (same here.ring.side)) ∙ q) r t);
}

fresh_agree : (n : ℕ) (s : State) → s.bindings ≡ [] → Agree (record s { cores = map fresh_core (range_with_len 0 n) })
fresh_agree n s none = (
  (λ e d c q.
      let (b, at, is) = given_there (slice_get s.bindings e.binding) (λ (b : Binding). (end_in e.side b).seat) _ q in
      absurd (none_of s.bindings e.binding b none at)),
  (λ e d c q.
      let (k, at, is) = given_elem (slice_get (map fresh_core (range_with_len 0 n)) d.core) (λ j. ends_in j.dispatchers d.place) c e q in
      let empty : k.dispatchers ≡ [] = each_at_fresh (λ m j. j.dispatchers ≡ []) 0 n (λ m. refl) d.core k at in
      absurd (no_end e d c (ap (λ ds. slice_get (ends_in ds d.place) c) (sym empty) ∙ is))),
)
  where
    no_end : (e : EndId) (d : DispatcherId) (c : ℕ) → slice_get (ends_in [] d.place) c ≡ Some e → ⊥
    no_end e d c h = absurd (cc)

seats_keep : KeepsFrom MaySit Agree
seats_keep = record {
  settled = λ s h. h;
  interface = λ i s q h. h.seats;
  cores = λ n s q h. fresh_agree n s (let b : IsBare s = h.bare (is_not s.may_set_cores q) in b.bindings);
  link = λ a b size s q r h.
      core_kept b (linked a (length s.rings) second_side) (change_core a (linked b (length s.rings) first_side) (with_ring size s)) (λ k t place. refl)
      (core_kept a (linked b (length s.rings) first_side) (with_ring size s) (λ k t place. refl) h.seats);
  dispatcher = λ core s h. added_kept core s h.seats;
  service = λ x s d i q r t h. h.seats;
  queues = λ w i slots s k q h.
      let t : State = with_new_binding w local 2 (Some (fresh_queue slots)) s in
      let b : Binding = new_binding w local 2 (Some (fresh_queue slots)) in
      both_kept (length s.bindings) w t (b, get_last s.bindings b, refl) (b, get_last s.bindings b, refl) (new_kept w local 2 (Some (fresh_queue slots)) s h.seats);
  ring = λ w i size s k q r h.
      let t : State = with_new_binding w (over_ring (length s.rings)) 2 None (with_ring size s) in
      let b : Binding = new_binding w (over_ring (length s.rings)) 2 None in
      both_kept (length s.bindings) w t (b, get_last s.bindings b, refl) (b, get_last s.bindings b, refl)
      (new_kept w (over_ring (length s.rings)) 2 None (with_ring size s) h.seats);
  route = λ w i cores k l c s want begins h.
      let way : Route = record { service = w.iref; cores = cores; numbers = c ∷ []; verdict = undecided } in
      let opening : OpeningLabel = record { circuit = c; binding = length s.bindings; service = w.iref; path = cores } in
      let fresh : State = with_new_binding w (over_route way) (length cores + 1) (Some arrival_queue) s in
      let b : Binding = new_binding w (over_route way) (length cores + 1) (Some arrival_queue) in
      core_kept w.client.core (opens l c opening) (seats w.client (end_id (length s.bindings) Client) fresh) (λ j q place. refl)
      (seating_kept w.client (end_id (length s.bindings) Client) fresh (b, get_last s.bindings b, refl)
      (new_kept w (over_route way) (length cores + 1) (Some arrival_queue) s h.seats));
  called = λ e c b i s at q h. end_kept e (λ x. record x { out = accepts c x.out }) s (λ x. refl) h.seats;
  sure = λ need at s h. may_sit_looked at.ring (makes_sure need at.side) s (λ side r. sure_same need side at.side r) h;
  looked = λ at s h. may_sit_looked at.ring (looks at.side) s (λ side r. looks_same side at.side r) h;
  written = λ e b i o s at q r t u h. written_kept e i (end_in e.side b).out o s h.seats;
  held = λ t b i s d at q h. dispatcher_kept t.dispatcher _ s (λ y. refl) h.seats;
  no_label = λ t to s d h. dispatcher_kept t.dispatcher _ s (λ y. refl) h.seats;
  from_queue = λ t b i q label s d at u v w h.
      label_taken t.end i label (goes_back t (waits_in (Some (without_first q))) (change_end t.end (in_queue without_first) s))
      (dispatcher_kept t.dispatcher _ (change_end t.end (in_queue without_first) s) (λ y. refl)
      (end_kept t.end (in_queue without_first) s (λ x. queue_seat without_first x) h.seats));
  from_ring = λ t b i at first s d k u v w h.
      label_taken t.end i first.label (goes_back t Polled (change_ring at.ring (takes at.side) s))
      (dispatcher_kept t.dispatcher _ (change_ring at.ring (takes at.side) s) (λ y. refl) h.seats);
  found_none = λ t s d h. dispatcher_kept t.dispatcher _ s (λ y. refl) h.seats;
  found = λ t b at first s d q r u h. found_kept t at first.label (change_ring at.ring (looks at.side) s) h.seats;
  acknowledged = λ at s q h. h.seats;
  registered = λ e x s q r t h. channel_kept e _ s (λ c x y. refl) h.seats;
  deregistered = λ e x s q r h. channel_kept e _ s (λ c x y. refl) h.seats;
  ruled = λ e msg answer b i s at h. end_kept e (with_rule msg answer) s (λ x. refl) h.seats;
  monitor_written = λ here link m s k q r t h. core_kept here.core (without_first_said here.link) s (λ j u place. refl) h.seats;
  heard = λ here m first k s j q r t h.
      let x : Hearing = hears s.services here.link m k in
      let told : State = change_core here.core (λ y. x.core) s in
      heard_kept here.ring x.heard told (fits_alike s told x.heard (λ b u. u) (h.heard here m first k j q r t))
      (core_kept here.core (λ y. x.core) s
      (λ y u place. ap (λ ds. ends_in ds place) (hears_leaves s.services here.link m k)
      ∙ ap (λ (z : Core). ends_in z.dispatchers place) (some_same k y (sym t ∙ u))) h.seats);
  passed = λ here p first route hop on s k q h. end_kept p.end (λ x. record x { out = passes p.station x.out }) s (λ x. refl) h.seats;
  arrived = λ here p first route hop to s k q h.
      end_kept p.end (λ x. record x { out = passes p.station x.out }) (delivers (label_of p) to s) (λ x. refl) (delivered_kept (label_of p) to s h.seats);
  taken = λ here first s k q r h. h.seats;
}

pub step_keeps_seats : (s : State) (v : Event) → SeatsAgree s → BareUntilCoresAreSet s → AllSitFits s → SeatsAgree (step s v).state
step_keeps_seats s v a b f =
    seats_of (step s v).state (step_leads MaySit Agree (λ t x. x.seats) seats_keep s v (record { seats = agree_of s a; bare = b; heard = f }))
