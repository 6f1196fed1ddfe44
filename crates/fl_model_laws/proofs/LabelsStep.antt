-- Each step keeps labels on their ways and in order, where links are paired, ends stand, and what stands first on a link goes on along
-- its way.
use Rattle.std.proofs.Common.{◌≡◌, refl, sym, ◌∙◌, ap, subst, ℕ, ◌+◌, List, [], ◌∷◌, length, map, slice_get, Option, Some, None}
use Rattle.std.specs.List.{range_with_len}
use Rattle.fl_base.specs.declared.identity.Side.TheVariants.{Client}
use Rattle.fl_base.specs.Given.{given}
use Rattle.fl_lists.specs.declared.place.Place.TheVariants.{Polled, Pending}
use Rattle.fl_hop.specs.declared.entry.Hop.{Hop}
use Rattle.fl_model.specs.Events.{Event}
use Rattle.fl_model.specs.Rings.{OpeningLabel, MonitorLabel, Label, next_of, says, acknowledges, RingLabel, Ring, RingSide, RingEnd, first_for, looks, makes_sure, puts, takes}
use Rattle.fl_model.specs.Ends.{fresh_queue, accepts, with_rule, without_first}
use Rattle.fl_model.specs.Waits.{waits_in, puts_off, registers, deregisters}
use Rattle.fl_model.specs.Monitors.{fresh_core, opens, Heard, no_outbox, misrouted, opening_went_on, server_made, opening_failed, answer_went_on, end_opened, end_refused, Hearing, hears}
use Rattle.fl_model.specs.State.{Route, local, over_ring, over_route, undecided, Binding, State, first_on, change_core, change_ring, seats}
use Rattle.fl_model.specs.Making.{with_new_link, with_dispatcher}
use Rattle.fl_model.specs.Binding.{BindByNames, end_id, with_new_binding, binds_both, with_circuit_begun, arrival_queue}
use Rattle.fl_model.specs.Taking.{Chosen, finds, comes_off}
use Rattle.fl_model.specs.Forwarding.{LinkEnd, FragAtHop, follows, takes_said, without_first_said}
use Rattle.fl_model.specs.Step.{step}
use Rattle.fl_model.specs.SoundLists.{IsBare, BareUntilCoresAreSet}
use Rattle.fl_model.specs.SoundPlaces.{Owner, core_to, this_end}
use Rattle.fl_model_laws.proofs.Cases.{Each}
use Rattle.fl_model_laws.proofs.Hearing.{LinkThere, link_there}
use Rattle.fl_model_laws.proofs.LabelsForward.{Onward, goes_good, arrived_good, link_is}
use Rattle.fl_model_laws.proofs.LabelsMoved.{IsShaped}
use Rattle.fl_model_laws.proofs.LabelsQuiet.{GoodIn, quiet, quiet_at_end, quiet_at_core, quiet_at_dispatcher, quiet_at_channel, quiet_seating, quiet_binding_both, quiet_follows, quiet_put, quiet_take, no_call_said, no_call_told, good_seen, good_new, same_reads, local_plan, route_plan, ring_more}
use Rattle.fl_model_laws.proofs.LabelsTaken.{queue_good, ring_good}
use Rattle.fl_model_laws.proofs.LabelsWritten.{by_outlet}
use Rattle.fl_model_laws.proofs.Places.{Linked, ring_of, turned}
use Rattle.fl_model_laws.proofs.PlacesStep.{plan_of, plan_ring, plan_core, plan_quiet, owner_planned, heard_outline, core_outline, same_some, written_plan, two_lists, said_rings, neighbours_of, link_rings, opening_counted}
use Rattle.fl_model_laws.proofs.Quiet.{quiet_core}
use Rattle.fl_model_laws.proofs.ReadsKept.{SeesSame, looks_labels, sure_labels, reads_seen, reads_more, link_more}
use Rattle.fl_model_laws.proofs.Scenes.{sights, reads, labels_at, Suits, Sight}
use Rattle.fl_model_laws.proofs.ScenesKept.{quiet_good}
use Rattle.fl_model_laws.proofs.Services.{ring_bare}
use Rattle.fl_model_laws.proofs.Walk.{KeepsUnder, CalledAt, RuledAt, IsHere, IsPassing, IsGoingOn, with_ring, step_leads_under}
use Rattle.fl_model_laws.proofs.WaitsetsKept.{looks_same, sure_same, first_same}
use Rattle.fl_model.specs.Standing.{picked}
use Rattle.fl_model_laws.proofs.Small.{is_not}

pub record MayLabel (s : State) : Type 0 where
  pub linked : Linked (plan_of s)
  pub good : GoodIn s
  pub shaped : (n : ℕ) (b : Binding) → slice_get s.bindings n ≡ Some b → IsShaped b
  pub onward : (here : LinkEnd) (p : FragAtHop) (first : RingLabel) (route : Route) (hop : Hop) → IsPassing here p first route hop s → Onward s.cores here p route hop
  pub bare : BareUntilCoresAreSet s

passing_seen : (n : ℕ) (f : Ring → Ring) (s : State) → ((side : RingSide) (r : Ring) → first_for side (f r) ≡ first_for side r)
    → (here : LinkEnd) (p : FragAtHop) (first : RingLabel) (route : Route) (hop : Hop) → IsPassing here p first route hop (change_ring n f s) → IsPassing here p first route hop s
passing_seen n f s same here p first route hop k = record {
  is_here = record { core = k.is_here.core; neighbour = k.is_here.neighbour; here_is = k.is_here.here_is };
  first_is = sym (first_same s.rings n here.ring.ring here.ring.side f (same here.ring.side)) ∙ k.first_is;
  label_is = k.label_is;
  binding = k.binding;
  binding_is = k.binding_is;
  route_is = k.route_is;
  station_is = k.station_is;
  core = k.core;
  core_is = k.core_is;
  number = k.number;
  number_is = k.number_is;
  hop_is = k.hop_is;
}

may_label_seen : (n : ℕ) (f : Ring → Ring) (s : State) → SeesSame f → ((side : RingSide) (r : Ring) → first_for side (f r) ≡ first_for side r) → MayLabel s
    → MayLabel (change_ring n f s)
may_label_seen n f s labels same h = record {
  linked = subst Linked (sym (plan_ring n f s)) h.linked;
  good = good_seen n f s (reads_seen n f s labels) h.good;
  shaped = h.shaped;
  onward = λ here p first route hop k. h.onward here p first route hop (passing_seen n f s same here p first route hop k);
  bare = ring_bare n f s h.bare;
}

-- ---- what the events do

told_suits : (S : ℕ → Option Sight) (x : Owner) → Suits S x acknowledges
told_suits S (core_to a b) = tt
told_suits S (this_end f) = tt

no_rings : (s : State) → s.rings ≡ [] → (x : Owner) → reads s x ≡ []
no_rings s q x = by (ring_of (plan_of s) x)
  where
    by : (o : Option RingEnd) → given o [] (labels_at s.rings) ≡ []
    by None = refl
    by (Some at) = ap (λ rs. labels_at rs at) q

alike_good : (s t : State) → ((n : ℕ) → sights t n ≡ sights s n) → ((x : Owner) → reads t x ≡ reads s x) → GoodIn s → GoodIn t
alike_good s t same read h =
    quiet_good (reads s) (reads t) (sights s) (sights t) same (λ o. subst (Each (Suits (sights s) o)) (sym (read o)) (h.reads o))
    (λ o e. ap (picked e) (read o)) h

found_good : (t : Chosen) (at : RingEnd) (first : RingLabel) (l : Label) (s : State) → first_on at s ≡ Some first → first.label ≡ l → GoodIn s → GoodIn (finds t at l s).state
found_good t at first (next_of e k) s q r h = quiet s _ (quiet_at_dispatcher t.dispatcher (puts_off Polled t.channel Pending) s) h
found_good t at first (says m) s q r h = quiet s _ (quiet_at_dispatcher t.dispatcher (puts_off Polled t.channel Pending) s) h
found_good t at first acknowledges s q r h =
    let u : State = change_ring at.ring (takes at.side) s in
    quiet u (comes_off t Polled u) (quiet_at_dispatcher t.dispatcher (puts_off Polled t.channel Polled) u)
    (quiet_take s u at first (record { plan = plan_ring at.ring (takes at.side) s; rings = refl }) (λ n. refl) q (no_call_told first.label r) h)

said_good : (at : RingEnd) (x : Heard) (m : MonitorLabel) (first : RingLabel) (s : State) → first_on at s ≡ Some first → first.label ≡ says m → GoodIn s
    → GoodIn (follows x (takes_said at x s)).state
said_good at x m first s q r h = by x
  where
    after : GoodIn (change_ring at.ring (takes at.side) s)
    after = quiet_take s (change_ring at.ring (takes at.side) s) at first (record { plan = plan_ring at.ring (takes at.side) s; rings = refl }) (λ n. refl) q (no_call_said first.label m r) h

    late : (y : Heard) → GoodIn (follows y (change_ring at.ring (takes at.side) s)).state
    late y = quiet (change_ring at.ring (takes at.side) s) (follows y (change_ring at.ring (takes at.side) s)).state (quiet_follows y (change_ring at.ring (takes at.side) s)) after

    by : (y : Heard) → GoodIn (follows y (takes_said at y s)).state
    by no_outbox = h
    by misrouted = h
    by (opening_went_on n c) = late (opening_went_on n c)
    by (server_made n d c) = late (server_made n d c)
    by (opening_failed n fault) = late (opening_failed n fault)
    by (answer_went_on n) = late (answer_went_on n)
    by (end_opened e c) = late (end_opened e c)
    by (end_refused e fault) = late (end_refused e fault)

monitor_good : (here : LinkEnd) (m : MonitorLabel) (s : State) → IsHere here s → MayLabel s
    → GoodIn (change_core here.core (without_first_said here.link) (change_ring here.ring.ring (puts here.ring.side (says m)) s))
monitor_good here m s k h =
    let t : LinkThere s here = link_there s here k in
    let own : ring_of (plan_of s) (core_to here.core here.neighbour) ≡ Some here.ring =
    owner_planned s (core_to here.core here.neighbour) here.ring (t.link, link_is s here.core here.neighbour t.core here.link t.link t.core_is t.place t.link_is, t.ring) in
    let back = h.linked.back here.core here.neighbour here.ring own in
    quiet_put s (change_core here.core (without_first_said here.link) (change_ring here.ring.ring (puts here.ring.side (says m)) s)) here.ring (says m)
    (record { plan = written_plan here m s; rings = refl }) (λ n. refl) h.linked
    (λ x q. subst (λ z. Suits (sights s) z (says m)) (h.linked.one (core_to here.neighbour here.core) x (turned here.ring) back q) tt) (λ e. refl) h.good

route_good : (w : BindByNames) (cores : List ℕ) (l c : ℕ) (s : State) → GoodIn s → GoodIn (with_circuit_begun w cores (length s.bindings) l c s)
route_good w cores l c s h =
    let way : Route = record { service = w.iref; cores = cores; numbers = c ∷ []; verdict = undecided } in
    let opening : OpeningLabel = record { circuit = c; binding = length s.bindings; service = w.iref; path = cores } in
    let fresh : State = with_new_binding w (over_route way) (length cores + 1) (Some arrival_queue) s in
    let sat : State = seats w.client (end_id (length s.bindings) Client) fresh in
    quiet sat (change_core w.client.core (opens l c opening) sat)
    (quiet_at_core w.client.core (opens l c opening) sat
    (plan_core w.client.core (opens l c opening) sat
    (λ k q. two_lists _ (neighbours_of k.circuits.links) _ (link_rings k.links) (opening_counted k.circuits.links l) (said_rings _ k.links l))))
    (quiet fresh sat (quiet_seating w.client (end_id (length s.bindings) Client) fresh)
    (good_new w (over_route way) (length cores + 1) (Some arrival_queue) s s refl refl
    (same_reads w (over_route way) (length cores + 1) (Some arrival_queue) s (route_plan w way (length cores + 1) (Some arrival_queue) s)) h))

-- ---- the walk

labels_keep : KeepsUnder CalledAt RuledAt IsGoingOn MayLabel GoodIn
labels_keep = record {
  settled = λ s h. h;
  interface = λ i s q h. h.good;
  cores = λ n s q h.
      let b : IsBare s = h.bare (is_not s.may_set_cores q) in
      let t : State = record s { cores = map fresh_core (range_with_len 0 n) } in
      alike_good s t (λ m. refl) (λ x. no_rings t b.rings x ∙ sym (no_rings s b.rings x)) h.good;
  link = λ a b size s q r h. alike_good s (with_new_link a b size s) (λ n. refl) (reads_more s (with_new_link a b size s) (link_more a b size s h.linked) h.linked) h.good;
  dispatcher = λ core s h.
      let t : State = change_core core with_dispatcher s in
      quiet s t (quiet_at_core core with_dispatcher s (plan_quiet s t (quiet_core core with_dispatcher s (λ k. refl)))) h.good;
  service = λ x s d i q r t h. h.good;
  queues = λ w i slots s k q h.
      let t : State = with_new_binding w local 2 (Some (fresh_queue slots)) s in
      quiet t (binds_both (length s.bindings) w t) (quiet_binding_both (length s.bindings) w t)
      (good_new w local 2 (Some (fresh_queue slots)) s s refl refl (same_reads w local 2 (Some (fresh_queue slots)) s (local_plan w 2 (Some (fresh_queue slots)) s)) h.good);
  ring = λ w i size s k q r h.
      let t : State = with_new_binding w (over_ring (length s.rings)) 2 None (with_ring size s) in
      quiet t (binds_both (length s.bindings) w t) (quiet_binding_both (length s.bindings) w t)
      (good_new w (over_ring (length s.rings)) 2 None s (with_ring size s) refl refl (reads_more s t (ring_more w size s) h.linked) h.good);
  route = λ w i cores k l c s want begins h. route_good w cores l c s h.good;
  called = λ e c b i s at q h.
      quiet s _ (quiet_at_end e (λ x. record x { out = accepts c x.out }) s (λ x. refl)) h.good;
  sure = λ need at s h. may_label_seen at.ring (makes_sure need at.side) s (sure_labels need at.side) (λ side r. sure_same need side at.side r) h;
  looked = λ at s h. may_label_seen at.ring (looks at.side) s (looks_labels at.side) (λ side r. looks_same side at.side r) h;
  written = λ e b i o s at q r t u h.
      by_outlet s e b i at.binding (is_not _ r) (h.shaped e.binding b at.binding) h.linked h.good b.back o refl t;
  held = λ t b i s d at q h. quiet s _ (quiet_at_dispatcher t.dispatcher (puts_off Pending t.channel Pending) s) h.good;
  no_label = λ t to s d h. quiet s _ (quiet_at_dispatcher t.dispatcher (puts_off Pending t.channel to) s) h.good;
  from_queue = λ t b i q label s d at u v w h.
      queue_good s t.end b i t.dispatcher (puts_off Pending t.channel (waits_in (Some (without_first q)))) at.binding (h.shaped t.end.binding b at.binding) h.linked h.good q label v w;
  from_ring = λ t b i at first s d k u v w h.
      ring_good s t.end b i t.dispatcher (puts_off Pending t.channel Polled) k.binding (h.shaped t.end.binding b k.binding) h.linked h.good at first first.label v w refl;
  found_none = λ t s d h. quiet s _ (quiet_at_dispatcher t.dispatcher (puts_off Polled t.channel Polled) s) h.good;
  found = λ t b at first s d q r u h.
      let z : State = change_ring at.ring (looks at.side) s in
      found_good t at first first.label z (first_same s.rings at.ring at.ring at.side (looks at.side) (λ x. looks_same at.side at.side x) ∙ u) refl
      (good_seen at.ring (looks at.side) s (reads_seen at.ring (looks at.side) s (looks_labels at.side)) h.good);
  acknowledged = λ at s q h.
      quiet_put s (change_ring at.ring (puts at.side acknowledges) s) at acknowledges (record { plan = plan_ring at.ring (puts at.side acknowledges) s; rings = refl }) (λ n. refl) h.linked
      (λ x r. told_suits (sights s) x) (λ e. refl) h.good;
  registered = λ e x s q r t h. quiet s _ (quiet_at_channel e (λ c y. registers c (waits_in y.queue)) s) h.good;
  deregistered = λ e x s q r h. quiet s _ (quiet_at_channel e (λ c y. deregisters c) s) h.good;
  ruled = λ e msg answer b i s at h. quiet s _ (quiet_at_end e (with_rule msg answer) s (λ x. refl)) h.good;
  monitor_written = λ here link m s k q r t h. monitor_good here m s k h;
  heard = λ here m first k s j q r t h.
      let x : Hearing = hears s.services here.link m k in
      let told : State = change_core here.core (λ y. x.core) s in
      said_good here.ring x.heard m first told q r
      (quiet s told (quiet_at_core here.core (λ y. x.core) s
      (plan_core here.core (λ y. x.core) s (λ y u. heard_outline s.services here.link m k ∙ ap core_outline (same_some (slice_get s.cores here.core) k y t u)))) h.good);
  passed = λ here p first route hop on s k q h.
      goes_good s here p first route hop k.passing (h.onward here p first route hop k.passing) h.linked
      (h.shaped p.end.binding k.passing.binding k.passing.binding_is) h.good on k;
  arrived = λ here p first route hop to s k q h.
      arrived_good s here p first route hop k (h.onward here p first route hop k) h.linked (h.shaped p.end.binding k.binding k.binding_is) h.good to q.way;
  taken = λ here first s k q r h.
      quiet_take s (change_ring here.ring.ring (takes here.ring.side) s) here.ring first (record { plan = plan_ring here.ring.ring (takes here.ring.side) s; rings = refl })
      (λ n. refl) q (no_call_told first.label r) h.good;
}

pub step_labels : (s : State) (v : Event) → MayLabel s → GoodIn (step s v).state
step_labels s v h =
    step_leads_under CalledAt RuledAt IsGoingOn (λ e c b i t k. k.at) (λ e m n b i t k. k.at) (λ here p first route hop on t k. k) MayLabel GoodIn (λ t k. k.good) labels_keep s v h
