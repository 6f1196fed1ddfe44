-- From what is known of a state before an event to what holds after it, where both speak of what circuits stand on: eight
-- updates are left to show, as in `Quiet`.
use Rattle.std.proofs.Common.{◌≡◌, refl, sym, ◌∙◌, ap, subst, ℕ, ◌==◌, ◌||◌, ◌&&◌, not, true, false, List, [], length, map, slice_get, Option, Some, None}
use Rattle.std.specs.List.{range_with_len}
use Rattle.fl_base.specs.declared.identity.EndId.{EndId}
use Rattle.fl_lists.specs.declared.place.Place.TheVariants.{Polled}
use Rattle.fl_model.specs.Events.{Event}
use Rattle.fl_model.specs.Calls.{Planned}
use Rattle.fl_model.specs.Rings.{MonitorLabel, says, acknowledges, RingLabel, RingEnd, puts, takes, looks, there_is_room}
use Rattle.fl_model.specs.Ends.{Queue, fresh_queue, without_first}
use Rattle.fl_model.specs.Waits.{waits_in}
use Rattle.fl_model.specs.Monitors.{Core, Link, fresh_core, hears}
use Rattle.fl_model.specs.State.{local, over_ring, State, Binding, link_between, change_ring, change_end, delivers, end_in, binding_of, core_of, in_queue, own_ring, first_on}
use Rattle.fl_model.specs.Standing.{said_by}
use Rattle.fl_model.specs.Making.{with_new_link, is_core, has_link}
use Rattle.fl_model.specs.Binding.{BindByNames, with_new_binding, with_circuit_begun}
use Rattle.fl_model.specs.Taking.{goes_back}
use Rattle.fl_model.specs.Forwarding.{LinkEnd, FragAtHop, label_of, monitor_writes_by, after_hearing}
use Rattle.fl_model.specs.Step.{step}
use Rattle.fl_model_laws.proofs.RingsKept.{first_put, first_looked}
use Rattle.fl_model_laws.proofs.Views.{View, view}
use Rattle.fl_model_laws.proofs.Quiet.{quiet_ring, quiet_core, quiet_end, quiet_channel, quiet_both, quiet_taken, quiet_put, quiet_looked, quiet_label, quiet_written, quiet_found, quiet_delivers, sure_sides, first_delivered}
use Rattle.fl_model_laws.proofs.Walk.{IsWanted, BeginsRoute, IsHere, with_ring, KeepsFrom, step_leads}
use Rattle.fl_model_laws.proofs.Small.{is_not}

-- what is to be shown
pub record Leads (B Q : View → Type 0) : Type 0 where
  pub weaker : (v : View) → B v → Q v
  pub cores : (n : ℕ) (s : State) → s.bindings ≡ [] → B (view s) → Q (view (record s { cores = map fresh_core (range_with_len 0 n) }))
  pub link : (a b size : ℕ) (s : State) → not (is_core a s && is_core b s) || (a == b) || has_link a b s ≡ false
      → B (view s) → Q (view (with_new_link a b size s))
  pub bound : (w : BindByNames) (stations : ℕ) (q : Option Queue) (s : State) → B (view s) → Q (view (with_new_binding w local stations q s))
  pub ring : (w : BindByNames) (size : ℕ) (s : State) → B (view s)
      → Q (view (with_new_binding w (over_ring (length s.rings)) 2 None (with_ring size s)))
  pub route : (w : BindByNames) (i : Planned) (cores : List ℕ) (k : Core) (l c : ℕ) (s : State) → IsWanted w i s
      → BeginsRoute w cores k l c s → B (view s) → Q (view (with_circuit_begun w cores (length s.bindings) l c s))
  pub from_ring : (e : EndId) (b : Binding) (at : RingEnd) (s : State) → binding_of s e ≡ Some b → own_ring e.side b.back ≡ Some at
      → B (view s) → Q (view (change_ring at.ring (takes at.side) s))
  pub monitor_written : (here : LinkEnd) (link : Link) (m : MonitorLabel) (s : State) (k : IsHere here s)
      → link_between s k.core k.neighbour ≡ Some link → slice_get link.outbox 0 ≡ Some m
      → B (view s) → Q (view (monitor_writes_by here m there_is_room s).state)
  pub heard : (here : LinkEnd) (m : MonitorLabel) (first : RingLabel) (k : Core) (s : State) → IsHere here s → first_on here.ring s ≡ Some first
      → first.label ≡ says m → core_of s here.core ≡ Some k → B (view s) → Q (view (after_hearing here (hears s.services here.link m k) s).state)

-- what is known before, and that there are no bindings while the number of cores may be set
pub record Before (B : View → Type 0) (s : State) : Type 0 where
  pub known : B (view s)
  pub bare : s.may_set_cores ≡ true → s.bindings ≡ []

module _ (B Q : View → Type 0) (M : Leads B Q) where
  by_view : (v w : View) → w ≡ v → B v → Q w
  by_view v w e h = subst Q (sym e) (M.weaker v h)

  before_view : (v w : View) → w ≡ v → B v → B w
  before_view v w e h = subst B (sym e) h

  passed_view : (here : LinkEnd) (p : FragAtHop) (first : RingLabel) (on : RingEnd) (s : State) → first_on here.ring s ≡ Some first → first.label ≡ label_of p
      → view (change_ring here.ring.ring (takes here.ring.side) (change_ring on.ring (puts on.side (label_of p)) s)) ≡ view s
  passed_view here p first on s f l =
      quiet_taken here.ring first (change_ring on.ring (puts on.side (label_of p)) s) (first_put (label_of p) here.ring on first s.rings f) (ap said_by l) ∙ quiet_put on (label_of p) s refl

  leading : KeepsFrom (Before B) (λ s. Q (view s))
  leading = record {
    settled = λ s h. h;
    interface = λ i s q h. M.weaker _ h.known;
    cores = λ n s q h. M.cores n s (h.bare (is_not s.may_set_cores q)) h.known;
    link = λ a b size s q e h. M.link a b size s q h.known;
    dispatcher = λ core s h. by_view _ _ (quiet_core core _ s (λ k. refl)) h.known;
    service = λ x s d i q r t h. M.weaker _ h.known;
    queues = λ w i slots s k q h.
        subst Q (sym (quiet_both (length s.bindings) w (with_new_binding w local 2 (Some (fresh_queue slots)) s))) (M.bound w 2 (Some (fresh_queue slots)) s h.known);
    ring = λ w i size s k e q h.
        subst Q (sym (quiet_both (length s.bindings) w (with_new_binding w (over_ring (length s.rings)) 2 None (with_ring size s)))) (M.ring w size s h.known);
    route = λ w i cores k l c s want begins h. M.route w i cores k l c s want begins h.known;
    called = λ e c b i s at q h. by_view _ _ (quiet_end e _ s) h.known;
    sure = λ need at s h. record { known = before_view _ _ (quiet_ring at.ring _ s (λ r q. sure_sides need at.side r)) h.known; bare = h.bare };
    looked = λ at s h. record { known = before_view _ _ (quiet_looked at s) h.known; bare = h.bare };
    written = λ e b i o s at q r t u h. by_view _ _ (quiet_written e i (end_in e.side b).out o s) h.known;
    held = λ t b i s d at q h. by_view _ _ (quiet_core t.dispatcher.core _ s (λ k. refl)) h.known;
    no_label = λ t to s d h. by_view _ _ (quiet_core t.dispatcher.core _ s (λ k. refl)) h.known;
    from_queue = λ t b i q label s d at u v w h.
        by_view _ _ (quiet_label t.end i label (goes_back t (waits_in (Some (without_first q))) (change_end t.end (in_queue without_first) s))
        ∙ quiet_core t.dispatcher.core _ (change_end t.end (in_queue without_first) s) (λ k. refl) ∙ quiet_end t.end _ s) h.known;
    from_ring = λ t b i at first s d k u v w h.
        subst Q (sym (quiet_label t.end i first.label (goes_back t Polled (change_ring at.ring (takes at.side) s))
        ∙ quiet_core t.dispatcher.core _ (change_ring at.ring (takes at.side) s) (λ k. refl))) (M.from_ring t.end b at s k.binding v h.known);
    found_none = λ t s d h. by_view _ _ (quiet_core t.dispatcher.core _ s (λ k. refl)) h.known;
    found = λ t b at first s d q r u h.
        by_view _ _ (quiet_found t at first.label first (change_ring at.ring (looks at.side) s) (first_looked at at first s.rings u) refl ∙ quiet_looked at s) h.known;
    acknowledged = λ at s q h. by_view _ _ (quiet_put at acknowledges s refl) h.known;
    registered = λ e x s q r t h. by_view _ _ (quiet_channel e _ s) h.known;
    deregistered = λ e x s q r h. by_view _ _ (quiet_channel e _ s) h.known;
    ruled = λ e msg answer b i s at h. by_view _ _ (quiet_end e _ s) h.known;
    monitor_written = λ here link m s k q r t h. M.monitor_written here link m s k q r h.known;
    heard = λ here m first k s j q r t h. M.heard here m first k s j q r t h.known;
    passed = λ here p first route hop on s k q h.
        by_view _ _ (quiet_end p.end _ (change_ring here.ring.ring (takes here.ring.side) (change_ring on.ring (puts on.side (label_of p)) s))
        ∙ passed_view here p first on s k.first_is k.label_is) h.known;
    arrived = λ here p first route hop to s k q h.
        by_view _ _ (quiet_end p.end _ (change_ring here.ring.ring (takes here.ring.side) (delivers (label_of p) to s))
        ∙ quiet_taken here.ring first (delivers (label_of p) to s) (first_delivered here.ring first (label_of p) to s k.first_is) (ap said_by k.label_is)
        ∙ quiet_delivers (label_of p) to s) h.known;
    taken = λ here first s k q r h. by_view _ _ (quiet_taken here.ring first s q (ap said_by r)) h.known;
  }

  pub view_leads : (s : State) (v : Event) → Before B s → Q (view (step s v).state)
  view_leads s v h = step_leads (Before B) (λ t. Q (view t)) (λ t x. M.weaker (view t) x.known) leading s v h
