-- Each step of a sound state turns at most one binding. So it keeps what holds of routes, of the ends' circuits and of numbers.
use Rattle.std.proofs.Common.{◌≡◌, refl, sym, ◌∙◌, ap, subst, ℕ, ◌+◌, false, inl}
use Rattle.std.proofs.Common.{List, [], length, drop, slice_get, Some, None, arith}
use Rattle.fl_lists.specs.declared.place.Place.TheVariants.{Polled}
use Rattle.fl_model.specs.Given.{changed_at}
use Rattle.fl_model.specs.Events.{Event}
use Rattle.fl_model.specs.Standing.{core_at}
use Rattle.fl_model.specs.Rings.{MonitorLabel, says, RingLabel, Ring, RingEnd, RingSide, first_for, looks, makes_sure, takes, puts, first_side, second_side}
use Rattle.fl_model.specs.Ends.{fresh_queue, without_first, with_rule, passes}
use Rattle.fl_model.specs.Waits.{waits_in}
use Rattle.fl_model.specs.Monitors.{Core, Link, Service, Hearing, hears, Heard, no_outbox, misrouted, opening_went_on, server_made, opening_failed, answer_went_on, end_opened, end_refused}
use Rattle.fl_model.specs.State.{local, over_ring, State, dispatcher_of, end_in, first_on, change_core, change_ring, change_end, in_queue, delivers}
use Rattle.fl_model.specs.Making.{linked, with_dispatcher}
use Rattle.fl_model.specs.Binding.{with_new_binding}
use Rattle.fl_model.specs.Taking.{goes_back}
use Rattle.fl_model.specs.Forwarding.{LinkEnd, link_end, without_first_said, label_of, after_hearing}
use Rattle.fl_model.specs.SoundLists.{IsBare}
use Rattle.fl_model.specs.Sound.{Sound}
use Rattle.fl_model.specs.Step.{step}
use Rattle.fl_model_laws.proofs.Replies.{length_changed}
use Rattle.fl_model_laws.proofs.WaitsetsStep.{places}
use Rattle.fl_model_laws.proofs.WaitsetsKept.{looks_same, sure_same, first_same}
use Rattle.fl_model_laws.proofs.Walk.{KeepsFrom, IsHere, step_leads, with_ring}
use Rattle.fl_model_laws.proofs.Faces.{Look, look, CoreGrows, CoresGrow, ServicesStay, Stays, core_same, same_face, grown_same, stays_same, stays_on, cores_changed, stays_core, stays_end, stays_dispatcher, stays_channel, queue_calm, stays_delivered, stays_out, stays_written, stays_taken, stays_found}
use Rattle.fl_model_laws.proofs.Growing.{hears_grows, linked_grows}
use Rattle.fl_model_laws.proofs.HeardTurns.{HeardTurns, HearingTurns, heard_turns}
use Rattle.fl_model_laws.proofs.Turned.{Comes, IsNew, comes_stays}
use Rattle.fl_model_laws.proofs.TurnsStep.{both_come, route_comes, heard_comes}
use Rattle.fl_model_laws.proofs.Small.{get_push, is_not, some_same}

-- ---- a state that is like another but for what rings count

pub record IsLike (s t : State) : Type 0 where
  pub same : look t ≡ look s
  pub first : (at : RingEnd) → first_on at t ≡ first_on at s
  pub may : t.may_set_cores ≡ s.may_set_cores

-- a state of these, with no rings
abbrev of_look : Look → State
of_look x = record { may_set_cores = false; cores = x.cores; rings = []; interfaces = []; services = x.services; bindings = x.bindings }

pub like_looked : (s : State) (n : ℕ) (f : Ring → Ring) (t : State) → ((side : RingSide) (r : Ring) → first_for side (f r) ≡ first_for side r) → IsLike s t → IsLike s (change_ring n f t)
like_looked s n f t k h = record {
  same = h.same;
  first = λ at. first_same t.rings n at.ring at.side f (k at.side) ∙ h.first at;
  may = h.may;
}

pub like_here : (s t : State) (here : LinkEnd) → IsLike s t → IsHere here t → IsHere here s
like_here s t here h j = record {
  core = j.core;
  neighbour = j.neighbour;
  here_is = ap (λ (x : Look). link_end j.core j.neighbour (of_look x)) (sym h.same) ∙ j.here_is;
}

turns_alike : (s t u : State) (x : Heard) → look u ≡ look t → HeardTurns s t x → HeardTurns s u x
turns_alike s t u no_outbox e h = h
turns_alike s t u misrouted e h = h
turns_alike s t u (opening_went_on n d) e h = record {
  route = h.route;
  routed = h.routed;
  undecided_is = h.undecided_is;
  more = h.more;
  number = subst (λ (y : Look). IsNew (look s) y (core_at h.route (length h.route.numbers)) (core_at h.route (length h.route.numbers + 1)) d) (sym e) h.number;
}
turns_alike s t u (server_made n d c) e h = record {
  route = h.route;
  routed = h.routed;
  undecided_is = h.undecided_is;
  last = h.last;
  service = h.service;
  service_is = h.service_is;
  at = h.at;
  dispatcher = h.dispatcher;
  there = ap (λ (x : Look). dispatcher_of (of_look x) d) e ∙ h.there;
  circuit = h.circuit;
}
turns_alike s t u (opening_failed n fault) e h = h
turns_alike s t u (answer_went_on n) e h = h
turns_alike s t u (end_opened f c) e h = h
turns_alike s t u (end_refused f fault) e h = h

-- ---- the walk

module _ (s : State) (sound : Sound s) where
  abbrev After : State → Type 0
  After t = Comes (look s) (look t)

  from_like : (t : State) (y : Look) → IsLike s t → Comes (look t) y → Comes (look s) y
  from_like t y h k = subst (λ (x : Look). Comes x y) h.same k

  quiet : (t : State) (y : Look) → IsLike s t → Stays (look t) y → Comes (look s) y
  quiet t y h k = from_like t y h (comes_stays (look t) y k)

  pub like_core : (t : State) (n : ℕ) (k : Core) → IsLike s t → slice_get t.cores n ≡ Some k → slice_get s.cores n ≡ Some k
  like_core t n k h q = ap (λ (x : Look). slice_get x.cores n) (sym h.same) ∙ q

  heard_after : (here : LinkEnd) (m : MonitorLabel) (first : RingLabel) (k : Core) (t : State) → IsHere here t → first_on here.ring t ≡ Some first
      → first.label ≡ says m → slice_get t.cores here.core ≡ Some k → IsLike s t
      → After (after_hearing here (hears t.services here.link m k) t).state
  heard_after here m first k t j q l at h =
      let x : Hearing = hears t.services here.link m k in
      let told : State = change_core here.core (λ y. x.core) t in
      let before : State = change_core here.core (λ y. x.core) s in
      let services : s.services ≡ t.services = ap (λ (y : Look). y.services) (sym h.same) in
      let facts : HeardTurns s before x.heard =
      subst (λ (xs : List Service). HearingTurns s here.core (hears xs here.link m k)) services
      (heard_turns s sound here m first k (like_here s t here h j) (sym (h.first here.ring) ∙ q) l (like_core t here.core k h at)) in
      let alike : look told ≡ look before =
      ap (λ (y : Look). (let z : Look = record { cores = changed_at here.core (λ c. x.core) y.cores; bindings = y.bindings; services = y.services } in z)) h.same in
      let grow : CoresGrow t.cores told.cores =
      cores_changed t.cores here.core (λ y. x.core)
      (λ y u. subst (λ (z : Core). CoreGrows z x.core) (some_same k y (sym at ∙ u)) (hears_grows t.services here.link m k)) in
      heard_comes s told here.ring x.heard (ap (λ (y : Look). y.bindings) h.same)
      (subst (λ (y : Look). CoresGrow y.cores told.cores) h.same grow)
      (subst (λ (y : Look). ServicesStay y.services t.services) h.same (λ n c u. u))
      (turns_alike s before told x.heard alike facts)

  turning : KeepsFrom (IsLike s) After
  turning = record {
    settled = λ t h. h;
    interface = λ i t q h. quiet t _ h (stays_same (look t));
    cores = λ n t q h.
        let b : IsBare s = sound.bare (sym h.may ∙ is_not t.may_set_cores q) in
        inl (ap (λ (x : Look). x.bindings) h.same ∙ b.bindings);
    link = λ a b size t q r h.
        let one : State = change_core a (linked b (length t.rings) first_side) (with_ring size t) in
        quiet t _ h
        (stays_on (look t) (look one) _ (stays_core a (linked b (length t.rings) first_side) (with_ring size t) (λ k u. linked_grows b (length t.rings) first_side k))
        (stays_core b (linked a (length t.rings) second_side) one (λ k u. linked_grows a (length t.rings) second_side k)));
    dispatcher = λ core t h. quiet t _ h (stays_core core with_dispatcher t (λ k q. record { links = grown_same k.circuits.links; places = omega arith }));
    service = λ x t d i q r u h.
        quiet t _ h (record {
          cores = λ n k v. (k, v, core_same k);
          bindings = λ n c v. (c, v, same_face c);
          services = λ n c v. get_push t.services n c x v;
        });
    queues = λ w i slots t k q h.
        let p = places w t q in
        from_like t _ h (both_come w t (with_new_binding w local 2 (Some (fresh_queue slots)) t) local 2 (Some (fresh_queue slots)) k.dispatcher p.server refl refl refl refl
        k.client p.there);
    ring = λ w i size t k q r h.
        let p = places w t r in
        from_like t _ h (both_come w t (with_new_binding w (over_ring (length t.rings)) 2 None (with_ring size t)) (over_ring (length t.rings)) 2 None k.dispatcher p.server
        refl refl refl refl k.client p.there);
    route = λ w i cores k l c t want begins h.
        from_like t _ h (route_comes w i cores k l c t (sound.cores w.client.core k (like_core t w.client.core k h begins.core)) want begins);
    called = λ e c b i t at q h. quiet t _ h (stays_out e _ t);
    sure = λ need at t h. like_looked s at.ring (makes_sure need at.side) t (λ side r. sure_same need side at.side r) h;
    looked = λ at t h. like_looked s at.ring (looks at.side) t (λ side r. looks_same side at.side r) h;
    written = λ e b i o t at q r u v h. quiet t _ h (stays_written e i (end_in e.side b).out o t);
    held = λ t b i u d at q h. quiet u _ h (stays_dispatcher t.dispatcher _ u);
    no_label = λ t to u d h. quiet u _ h (stays_dispatcher t.dispatcher _ u);
    from_queue = λ t b i q label u d at v w x h.
        let one : State = change_end t.end (in_queue without_first) u in
        let two : State = goes_back t (waits_in (Some (without_first q))) one in
        quiet u _ h
        (stays_on (look u) (look two) _ (stays_on (look u) (look one) (look two) (stays_end t.end (in_queue without_first) u (queue_calm without_first))
        (stays_dispatcher t.dispatcher _ one)) (stays_taken t.end i label two));
    from_ring = λ t b i at first u d k v w x h.
        let one : State = change_ring at.ring (takes at.side) u in
        let two : State = goes_back t Polled one in
        quiet u _ h (stays_on (look u) (look two) _ (stays_dispatcher t.dispatcher _ one) (stays_taken t.end i first.label two));
    found_none = λ t u d h. quiet u _ h (stays_dispatcher t.dispatcher _ u);
    found = λ t b at first u d q r v h. quiet u _ h (stays_found t at first.label (change_ring at.ring (looks at.side) u));
    acknowledged = λ at t q h. quiet t _ h (stays_same (look t));
    registered = λ e x t q r u h. quiet t _ h (stays_channel e _ t);
    deregistered = λ e x t q r h. quiet t _ h (stays_channel e _ t);
    ruled = λ e msg answer b i t at h. quiet t _ h (stays_end e (with_rule msg answer) t (λ x. (refl, refl)));
    monitor_written = λ here link m t k q r u h.
        quiet t _ h (stays_core here.core (without_first_said here.link) (change_ring here.ring.ring (puts here.ring.side (says m)) t)
        (λ j v. let same : length (changed_at here.link (λ (x : Link). record x { outbox = drop 1 x.outbox }) j.links) ≡ length j.links =
        length_changed j.links here.link _ in record { links = grown_same j.circuits.links; places = omega arith }));
    heard = λ here m first k t j q r u h. heard_after here m first k t j q r u h;
    passed = λ here p first route hop on t k q h. quiet t _ h (stays_out p.end (passes p.station) t);
    arrived = λ here p first route hop to t k q h.
        let one : State = delivers (label_of p) to t in
        quiet t _ h (stays_on (look t) (look one) _ (stays_delivered (label_of p) to t) (stays_out p.end (passes p.station) one));
    taken = λ here first t k q r h. quiet t _ h (stays_same (look t));
  }

  pub step_comes : (v : Event) → Comes (look s) (look (step s v).state)
  step_comes v =
      step_leads (IsLike s) After (λ t h. quiet t (look t) h (stays_same (look t))) turning s v (record { same = refl; first = λ at. refl; may = refl })
