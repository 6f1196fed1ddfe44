-- Each event keeps the counts of all rings.
use Rattle.std.proofs.Common.{◌≡◌, refl, sym, ◌∙◌, subst, ℕ, ◌+◌, ◌≤◌, ◌||◌, ◌==◌}
use Rattle.std.proofs.Common.{Bool, true, false, List, length, slice_get}
use Rattle.std.proofs.Common.{Some, None, arith}
use Rattle.fl_base.specs.declared.identity.EndId.{EndId}
use Rattle.fl_base.specs.declared.identity.Side.TheVariants.{Client, Server}
use Rattle.fl_base.specs.Ends.{peer}
use Rattle.fl_lists.specs.declared.place.Place.TheVariants.{Polled}
use Rattle.fl_model.specs.Events.{Event}
use Rattle.fl_model.specs.Calls.{Planned}
use Rattle.fl_model.specs.Rings.{Label, next_of, says, acknowledges, RingLabel, Ring, RingEnd, looks, there_is_room}
use Rattle.fl_model.specs.Rings.{puts, takes, fresh_ring, for_data, for_acknowledgement}
use Rattle.fl_model.specs.Ends.{fresh_queue, without_first, Direction}
use Rattle.fl_model.specs.Waits.{waits_in}
use Rattle.fl_model.specs.Monitors.{Heard, no_outbox, misrouted, opening_went_on, server_made, opening_failed}
use Rattle.fl_model.specs.Monitors.{answer_went_on, end_opened, end_refused, hears}
use Rattle.fl_model.specs.State.{local, over_ring, State, start, StepOutcome, Outlet, peer_queue, ring_side}
use Rattle.fl_model.specs.State.{change_core, change_ring, change_end, change_route, seats}
use Rattle.fl_model.specs.State.{delivers, end_of, end_in, first_on, in_queue}
use Rattle.fl_model.specs.Making.{is_ring_size}
use Rattle.fl_model.specs.Binding.{BindByNames, end_id, with_new_binding, binds_both, with_circuit_begun}
use Rattle.fl_model.specs.Sending.{outlet_room, writes_to}
use Rattle.fl_model.specs.Taking.{Chosen, takes_label, goes_back, finds}
use Rattle.fl_model.specs.Forwarding.{LinkEnd, follows, takes_said, FragAtHop, label_of, arrives_by, grants}
use Rattle.fl_model.specs.Monitors.{Hearing}
use Rattle.fl_model.specs.Step.{step}
use Rattle.fl_model_laws.proofs.Cases.{by_given, each_push, none_at_end}
use Rattle.fl_model_laws.proofs.Rings.{Counted, fresh_counted, rises_over, tells}
use Rattle.std.proofs.Common.{◌%◌}
use Rattle.std.proofs.lemmas.Bool.{eqb-true}
use Rattle.fl_model.specs.Rings.{Half, RingSide, first_side, second_side, written_by}
use Rattle.fl_model.specs.SoundRings.{HalfCounts, RingsCount, RingsFit}
use Rattle.fl_model.specs.Laws.{CountsInOrder, RingsCountInOrder}
use Rattle.fl_model_laws.proofs.RingsKept.{AllCounted, same_rings, channel_rings, seats_rings, ring_looked, ring_sure, ring_put, ring_taken, first_looked, first_put}
use Rattle.std.proofs.Common.{◌%◌}
use Rattle.std.proofs.lemmas.Bool.{eqb-true}
use Rattle.fl_base.specs.Given.{given, given}
use Rattle.fl_model.specs.Ends.{written_of}
use Rattle.fl_model.specs.Rings.{Half, RingSide, first_side, second_side, written_by, first_for}
use Rattle.fl_model.specs.SoundRings.{HalfCounts, RingsCount, RingsFit}
use Rattle.fl_model.specs.Laws.{CountsInOrder, RingsCountInOrder}
use Rattle.fl_model_laws.proofs.Cases.{by_given, none_at_end, each_push}
use Rattle.fl_model_laws.proofs.Rings.{rises_over, tells}
use Rattle.fl_model_laws.proofs.RingsKept.{AllCounted, same_rings, channel_rings, seats_rings, ring_looked, ring_sure, ring_put, ring_taken, first_looked, first_put}
use Rattle.fl_model.specs.Worlds.{start_with, EverInOrder}
use Rattle.fl_model_laws.proofs.Walk.{with_ring, Keeps, step_keeps, run_keeps}

abbrev pub RingsOk : State → Type 0
RingsOk s = AllCounted s.rings

bound_rings : (n : ℕ) (w : BindByNames) (s : State) → (binds_both n w s).rings ≡ s.rings
bound_rings n w s =
    let c = end_id n Client in
    let v = end_id n Server in
    let first : State = seats w.client c s in
    let second : State = seats w.service.dispatcher v first in
    channel_rings v _ _ ∙ channel_rings c _ _ ∙ seats_rings w.service.dispatcher v first ∙ seats_rings w.client c s

begun_rings : (w : BindByNames) (cores : List ℕ) (n l c : ℕ) (s : State) → (with_circuit_begun w cores n l c s).rings ≡ s.rings
begun_rings w cores n l c s = seats_rings w.client (end_id n Client) _

write_kept : (e : EndId) (i : Planned) (d : Direction) (o : Outlet) (s : State) → outlet_room e o s ≡ there_is_room → RingsOk s
    → RingsOk (writes_to e i d o there_is_room s).state
write_kept e i d peer_queue s q h = same_rings (channel_rings (peer e) _ _) h
write_kept e i d (ring_side at) s q h = ring_put for_data at (next_of e (written_of d)) s.rings (omega arith) q h

label_kept : (e : EndId) (i : Planned) (l : Label) (s : State) → RingsOk s → RingsOk (takes_label e i l s).state
label_kept e i (next_of sender k) s h = by_given (λ (o : StepOutcome). RingsOk o.state) (end_of s sender) _ _ h (λ y q. h)
label_kept e i (says m) s h = h
label_kept e i acknowledges s h = h

finds_kept : (t : Chosen) (at : RingEnd) (l : Label) (first : RingLabel) (s : State) → first_on at s ≡ Some first → RingsOk s
    → RingsOk (finds t at l s).state
finds_kept t at (next_of e k) first s q h = h
finds_kept t at (says m) first s q h = h
finds_kept t at acknowledges first s q h = ring_taken at first s.rings q h

follows_kept : (x : Heard) (s : State) → RingsOk s → RingsOk (follows x s).state
follows_kept no_outbox s h = h
follows_kept misrouted s h = h
follows_kept (opening_went_on n c) s h = h
follows_kept (server_made n d c) s h =
    same_rings (channel_rings (end_id n Server) _ _ ∙ seats_rings d (end_id n Server) (change_route n grants s)) h
follows_kept (opening_failed n fault) s h = h
follows_kept (answer_went_on n) s h = h
follows_kept (end_opened e c) s h = same_rings (channel_rings e _ _) h
follows_kept (end_refused e fault) s h = h

said_taken : (at : RingEnd) (x : Heard) (first : RingLabel) (s : State) → first_on at s ≡ Some first → RingsOk s
    → RingsOk (takes_said at x s)
said_taken at no_outbox first s q h = h
said_taken at misrouted first s q h = h
said_taken at (opening_went_on n c) first s q h = ring_taken at first s.rings q h
said_taken at (server_made n d c) first s q h = ring_taken at first s.rings q h
said_taken at (opening_failed n fault) first s q h = ring_taken at first s.rings q h
said_taken at (answer_went_on n) first s q h = ring_taken at first s.rings q h
said_taken at (end_opened e c) first s q h = ring_taken at first s.rings q h
said_taken at (end_refused e fault) first s q h = ring_taken at first s.rings q h

arriving_kept : (here : LinkEnd) (p : FragAtHop) (to : EndId) (first : RingLabel) (s : State) → first_on here.ring s ≡ Some first → RingsOk s
    → RingsOk (arrives_by here p to there_is_room s).state
arriving_kept here p to first s f h =
    let same : (delivers (label_of p) to s).rings ≡ s.rings = channel_rings to _ _ in
    ring_taken here.ring first (delivers (label_of p) to s).rings
    (subst (λ (rs : List Ring). given (slice_get rs here.ring.ring) None (first_for here.ring.side) ≡ Some first) (sym same) f)
    (same_rings same h)

pub rings_keep : Keeps RingsOk
rings_keep = record {
  settled = λ s h. h;
  interface = λ i s q h. h;
  cores = λ n s q h. h;
  link = λ a b size s q e h. each_push Counted s.rings (fresh_ring size) h (fresh_counted size e);
  dispatcher = λ core s h. h;
  service = λ x s d i q r t h. h;
  queues = λ w i slots s k q h.
      same_rings (bound_rings (length s.bindings) w (with_new_binding w local 2 (Some (fresh_queue slots)) s)) h;
  ring = λ w i size s k e q h.
      same_rings (bound_rings (length s.bindings) w (with_new_binding w (over_ring (length s.rings)) 2 None (with_ring size s)))
      (each_push Counted s.rings (fresh_ring size) h (fresh_counted size e));
  route = λ w i cores k l c s want begins h. same_rings (begun_rings w cores (length s.bindings) l c s) h;
  called = λ e c b i s at q h. h;
  sure = λ need at s h. ring_sure need at s.rings h;
  looked = λ at s h. ring_looked at s.rings h;
  written = λ e b i o s at q r t u h. write_kept e i (end_in e.side b).out o s u h;
  held = λ t b i s d at q h. h;
  no_label = λ t to s d h. h;
  from_queue = λ t b i q label s d at u v w h.
      label_kept t.end i label (goes_back t (waits_in (Some (without_first q))) (change_end t.end (in_queue without_first) s)) h;
  from_ring = λ t b i at first s d k u v w h.
      label_kept t.end i first.label (goes_back t Polled (change_ring at.ring (takes at.side) s)) (ring_taken at first s.rings w h);
  found_none = λ t s d h. h;
  found = λ t b at first s d q r u h.
      finds_kept t at first.label first (change_ring at.ring (looks at.side) s) (first_looked at at first s.rings u) (ring_looked at s.rings h);
  acknowledged = λ at s q h. ring_put for_acknowledgement at acknowledges s.rings (omega arith) q h;
  registered = λ e x s q r t h. same_rings (channel_rings e _ s) h;
  deregistered = λ e x s q r h. same_rings (channel_rings e _ s) h;
  ruled = λ e msg answer b i s at h. h;
  monitor_written = λ here link m s k q r t h. ring_put for_data here.ring (says m) s.rings (omega arith) t h;
  heard = λ here m first k s j q r t h.
      let x : Hearing = hears s.services here.link m k in
      let told : State = change_core here.core (λ y. x.core) s in
      follows_kept x.heard (takes_said here.ring x.heard told) (said_taken here.ring x.heard first told q h);
  passed = λ here p first route hop on s k q h.
      ring_taken here.ring first (change_ring on.ring (puts on.side (label_of p)) s).rings
      (first_put (label_of p) here.ring on first s.rings k.first_is) (ring_put for_data on (label_of p) s.rings (omega arith) q h);
  arrived = λ here p first route hop to s k q h. arriving_kept here p to first s k.first_is h;
  taken = λ here first s k q r h. ring_taken here.ring first s.rings q h;
}

start_counts : AllCounted start.rings
start_counts = none_at_end Counted

-- ---- the laws

pub step_keeps_counts : (s : State) (v : Event) → RingsCount s → RingsFit s → RingsCount (step s v).state × RingsFit (step s v).state
step_keeps_counts s v h k =
    let all = step_keeps RingsOk rings_keep s v (λ n r q. record { counts = h n r q; fits = k n r q }) in
    ((λ n r q. (all n r q).counts), (λ n r q. (all n r q).fits))

same_count : (size known sent m n : ℕ) → sent ≤ known + size → size ≤ 1024 → known ≤ m → m ≤ sent → known ≤ n → n ≤ sent
    → m % 65536 ≡ n % 65536 → m ≡ n
same_count size known sent m n a b c d e f h = omega arith

or_small_by : (t : Bool) (n k : ℕ) (b : Bool) → (n == k) ≡ t → k ≤ 1024 → (b ≡ true → n ≤ 1024) → (t || b) ≡ true → n ≤ 1024
or_small_by true n k b e a f h = let same : n ≡ k = eqb-true n k e in omega arith
or_small_by false n k b e a f h = f h

or_small : (n k : ℕ) (b : Bool) → k ≤ 1024 → (b ≡ true → n ≤ 1024) → ((n == k) || b) ≡ true → n ≤ 1024
or_small n k b a f h = or_small_by (n == k) n k b refl a f h

size_small : (size : ℕ) → is_ring_size size ≡ true → size ≤ 1024
size_small size h = (or_small size 4 _ (omega arith) (or_small size 8 _ (omega arith) (or_small size 16 _ (omega arith) (or_small size 32 _ (omega arith) (or_small size 64 _ (omega arith) (or_small size 128 _ (omega arith) (or_small size 256 _ (omega arith) (or_small size 512 _ (omega arith) (or_small size 1024 _ (omega arith) (λ a. absurd (cc))))))))))) h

half_in_order : (size : ℕ) (h : Half) (others : List RingLabel) → size ≤ 1024 → HalfCounts size h others → CountsInOrder size h
half_in_order size h others a c =
    let known : h.known ≤ h.told = rises_over h.known h.told (tells others) c.telling in
    let stood : h.sent ≡ h.read + length h.waiting = c.standing in
    let told : h.told ≤ h.read = c.told in
    let room : h.sent ≤ h.known + size = c.room in
    record {
      known = known;
      told = omega arith;
      room = room;
      small = a;
      one = λ m n p q u v e. same_count size h.known h.sent m n room a p q u v e;
    }

ring_in_order : (side : RingSide) (r : Ring) → Counted r → CountsInOrder r.size (written_by side r)
ring_in_order first_side r h = half_in_order r.size r.by_first r.by_second.waiting (size_small r.size h.fits.size) h.counts.first
ring_in_order second_side r h = half_in_order r.size r.by_second r.by_first.waiting (size_small r.size h.fits.size) h.counts.second

pub rings_count_in_order : RingsCountInOrder
rings_count_in_order vs n r side q = ring_in_order side r (run_keeps RingsOk rings_keep vs start start_counts n r q)

pub ever_in_order : EverInOrder
ever_in_order cores vs some few n r side q =
    ring_in_order side r (run_keeps RingsOk rings_keep vs (start_with cores) (none_at_end Counted) n r q)
