-- Each step keeps the waitsets, where seats agree and what a core would hear fits.
use Rattle.std.proofs.Common.{◌≡◌, refl, sym, ◌∙◌, ap, subst, ℕ, zero, suc, ◌+◌, ◌||◌, nat_le}
use Rattle.std.proofs.Common.{List, [], ◌∷◌, length, slice_get, slice_set, Some, None}
use Rattle.fl_base.specs.declared.identity.Side.TheVariants.{Client}
use Rattle.fl_base.specs.Given.{given}
use Rattle.fl_lists.specs.declared.place.Place.TheVariants.{Polled, Pending}
use Rattle.fl_model.specs.Given.{changed_at}
use Rattle.fl_model.specs.Events.{Event}
use Rattle.fl_model.specs.Rings.{OpeningLabel, Ring, RingSide, first_for, looks, makes_sure, takes, is_spent, free, first_side, second_side}
use Rattle.fl_model.specs.Ends.{fresh_queue, without_first}
use Rattle.fl_model.specs.Waits.{Dispatcher, waits_in, fresh_dispatcher}
use Rattle.fl_model.specs.Monitors.{Core, Hearing, hears, opens, Heard, no_outbox, misrouted, opening_went_on, server_made, opening_failed, answer_went_on, end_opened, end_refused}
use Rattle.fl_model.specs.State.{State, local, over_ring, over_route, undecided, Route, dispatcher_of, end_in}
use Rattle.fl_model.specs.State.{change_core, change_ring, change_end, seats, in_queue}
use Rattle.fl_model.specs.Making.{with_dispatcher}
use Rattle.fl_model.specs.Binding.{end_id, with_new_binding, arrival_queue}
use Rattle.fl_model.specs.Taking.{goes_back}
use Rattle.fl_model.specs.Forwarding.{without_first_said}
use Rattle.fl_model.specs.Step.{step}
use Rattle.fl_model.specs.SoundLists.{ListsStand, WaitsetsStand}
use Rattle.fl_model_laws.proofs.Cases.{either, by_given, Each, none_at_end, each_push, each_changed}
use Rattle.fl_model_laws.proofs.CoreWalk.{each_at_fresh}
use Rattle.fl_model_laws.proofs.Services.{hears_leaves}
use Rattle.fl_model_laws.proofs.Waitsets.{fresh_stands}
use Rattle.fl_model_laws.proofs.Seating.{AllStand, all_of, waitsets_of, registered_kept, triggered_kept, deregistered_kept, seat_kept}
use Rattle.fl_model_laws.proofs.WaitsetsStep.{back_kept, off_kept, label_taken, found_kept, written_kept, places, places_of, both_kept, ready_unlisted, HeardFits, told_same, fits_told, heard_kept, MayWait}
use Rattle.fl_model_laws.proofs.Walk.{KeepsFrom, step_leads, with_ring}
use Rattle.fl_model_laws.proofs.Small.{is_not}

-- ---- what looks at rings leaves what stands first

pub looks_same : (side by : RingSide) (r : Ring) → first_for side (looks by r) ≡ first_for side r
looks_same first_side first_side r = by_given (λ (t : Ring). first_for first_side t ≡ first_for first_side r) (first_for first_side r) _ _ refl (λ x q. refl)
looks_same first_side second_side r = by_given (λ (t : Ring). first_for first_side t ≡ first_for first_side r) (first_for second_side r) _ _ refl (λ x q. refl)
looks_same second_side first_side r = by_given (λ (t : Ring). first_for second_side t ≡ first_for second_side r) (first_for first_side r) _ _ refl (λ x q. refl)
looks_same second_side second_side r = by_given (λ (t : Ring). first_for second_side t ≡ first_for second_side r) (first_for second_side r) _ _ refl (λ x q. refl)

pub sure_same : (need : ℕ) (side by : RingSide) (r : Ring) → first_for side (makes_sure need by r) ≡ first_for side r
sure_same need side by r =
    either (λ (t : Ring). first_for side t ≡ first_for side r) (is_spent by r || nat_le need (free by r)) _ _ (λ q. refl) (λ q. looks_same side by r)

set_same : (rings : List Ring) (n m : ℕ) (side : RingSide) (x y : Ring) → slice_get rings n ≡ Some x → first_for side y ≡ first_for side x
    → given (slice_get (slice_set rings n y) m) None (first_for side) ≡ given (slice_get rings m) None (first_for side)
set_same [] n m side x y q e = refl
set_same (z ∷ rings) zero zero side x y q e = let same : z ≡ x = cc in e ∙ ap (first_for side) (sym same)
set_same (z ∷ rings) zero (suc m) side x y q e = refl
set_same (z ∷ rings) (suc n) zero side x y q e = refl
set_same (z ∷ rings) (suc n) (suc m) side x y q e = set_same rings n m side x y q e

pub first_same : (rings : List Ring) (n m : ℕ) (side : RingSide) (f : Ring → Ring) → ((r : Ring) → first_for side (f r) ≡ first_for side r)
    → given (slice_get (changed_at n f rings) m) None (first_for side) ≡ given (slice_get rings m) None (first_for side)
first_same rings n m side f k =
    by_given (λ (rs : List Ring). given (slice_get rs m) None (first_for side) ≡ given (slice_get rings m) None (first_for side)) (slice_get rings n) rings
    (λ x. slice_set rings n (f x)) refl (λ x q. set_same rings n m side x (f x) q (k x))

-- ---- and what is known

fits_looked : (n : ℕ) (f : Ring → Ring) (s : State) (x : Heard) → HeardFits s x → HeardFits (change_ring n f s) x
fits_looked n f s no_outbox h = h
fits_looked n f s misrouted h = h
fits_looked n f s (opening_went_on b c) h = h
fits_looked n f s (server_made b d c) h = h
fits_looked n f s (opening_failed b fault) h = h
fits_looked n f s (answer_went_on b) h = h
fits_looked n f s (end_opened e c) h = h
fits_looked n f s (end_refused e fault) h = h

may_wait_looked : (n : ℕ) (f : Ring → Ring) (s : State) → ((side : RingSide) (r : Ring) → first_for side (f r) ≡ first_for side r) → MayWait s
    → MayWait (change_ring n f s)
may_wait_looked n f s same h = record {
  waitsets = h.waitsets;
  seats = record { seated = h.seats.seated; listed = h.seats.listed };
  heard = λ here m first k j q r t.
      fits_looked n f s (hears s.services here.link m k).heard
      (h.heard here m first k (record { core = j.core; neighbour = j.neighbour; here_is = j.here_is })
      (sym (first_same s.rings n here.ring.ring here.ring.side f (same here.ring.side)) ∙ q) r t);
}

-- ---- the walk

abbrev Stand : Core → Type 0
Stand k = Each ListsStand k.dispatchers

abbrev StandIn : State → Type 0
StandIn s = AllStand s.cores

waitsets_keep : KeepsFrom MayWait StandIn
waitsets_keep = record {
  settled = λ s h. h;
  interface = λ i s q h. all_of s h.waitsets;
  cores = λ n s q h i x r. each_at_fresh (λ m k. Stand k) 0 n (λ m. none_at_end ListsStand) i x r;
  link = λ a b size s q r h.
      each_changed Stand _ b _ (each_changed Stand s.cores a _ (all_of s h.waitsets) (λ k t c. c)) (λ k t c. c);
  dispatcher = λ core s h.
      each_changed Stand s.cores core with_dispatcher (all_of s h.waitsets) (λ k q c. each_push ListsStand k.dispatchers fresh_dispatcher c fresh_stands);
  service = λ x s d i q r t h. all_of s h.waitsets;
  queues = λ w i slots s k q h.
      both_kept w s (with_new_binding w local 2 (Some (fresh_queue slots)) s) (places w s q) (k.dispatcher, k.client) (λ d. refl) (length s.bindings)
      (all_of s h.waitsets);
  ring = λ w i size s k q r h.
      both_kept w s (with_new_binding w (over_ring (length s.rings)) 2 None (with_ring size s)) (places w s r) (k.dispatcher, k.client) (λ d. refl)
      (length s.bindings) (all_of s h.waitsets);
  route = λ w i cores k l c s want begins h.
      let way : Route = record { service = w.iref; cores = cores; numbers = c ∷ []; verdict = undecided } in
      let opening : OpeningLabel = record { circuit = c; binding = length s.bindings; service = w.iref; path = cores } in
      let fresh : State = with_new_binding w (over_route way) (length cores + 1) (Some arrival_queue) s in
      each_changed Stand (seats w.client (end_id (length s.bindings) Client) fresh).cores w.client.core (opens l c opening)
      (seat_kept w.client (end_id (length s.bindings) Client) fresh
      (λ x q. places_of 1 (dispatcher_of s w.client) x q (is_not _ begins.places)) (all_of s h.waitsets)) (λ x q a. a);
  called = λ e c b i s at q h. all_of s h.waitsets;
  sure = λ need at s h. may_wait_looked at.ring (makes_sure need at.side) s (λ side r. sure_same need side at.side r) h;
  looked = λ at s h. may_wait_looked at.ring (looks at.side) s (λ side r. looks_same side at.side r) h;
  written = λ e b i o s at q r t u h. written_kept e i (end_in e.side b).out o s (all_of s h.waitsets);
  held = λ t b i s d at q h. back_kept t Pending s d (all_of s h.waitsets);
  no_label = λ t to s d h. back_kept t to s d (all_of s h.waitsets);
  from_queue = λ t b i q label s d at u v w h.
      label_taken t.end i label (goes_back t (waits_in (Some (without_first q))) (change_end t.end (in_queue without_first) s))
      (back_kept t (waits_in (Some (without_first q))) (change_end t.end (in_queue without_first) s)
      (record { dispatcher = d.dispatcher; dispatcher_is = d.dispatcher_is; due_is = d.due_is; end_is = d.end_is }) (all_of s h.waitsets));
  from_ring = λ t b i at first s d k u v w h.
      label_taken t.end i first.label (goes_back t Polled (change_ring at.ring (takes at.side) s))
      (back_kept t Polled (change_ring at.ring (takes at.side) s)
      (record { dispatcher = d.dispatcher; dispatcher_is = d.dispatcher_is; due_is = d.due_is; end_is = d.end_is }) (all_of s h.waitsets));
  found_none = λ t s d h. off_kept t Polled s d (all_of s h.waitsets);
  found = λ t b at first s d q r u h.
      found_kept t at first.label (change_ring at.ring (looks at.side) s)
      (record { dispatcher = d.dispatcher; dispatcher_is = d.dispatcher_is; due_is = d.due_is; end_is = d.end_is }) (all_of s h.waitsets);
  acknowledged = λ at s q h. all_of s h.waitsets;
  registered = λ e x s q r t h. registered_kept e s (ready_unlisted s e x h.seats q t) (all_of s h.waitsets);
  deregistered = λ e x s q r h. deregistered_kept e s (all_of s h.waitsets);
  ruled = λ e msg answer b i s at h. all_of s h.waitsets;
  monitor_written = λ here link m s k q r t h.
      each_changed Stand s.cores here.core (without_first_said here.link) (all_of s h.waitsets) (λ x u a. a);
  heard = λ here m first k s j q r t h.
      let x : Hearing = hears s.services here.link m k in
      let told : State = change_core here.core (λ y. x.core) s in
      let all : StandIn s = all_of s h.waitsets in
      let leaves : x.core.dispatchers ≡ k.dispatchers = hears_leaves s.services here.link m k in
      heard_kept here.ring x.heard told
      (fits_told s here.core x.core x.heard (told_same s here.core k x.core t leaves) (h.heard here m first k j q r t))
      (each_changed Stand s.cores here.core (λ y. x.core) all
      (λ y u a. subst (λ (ds : List Dispatcher). Each ListsStand ds) (sym leaves) (all here.core k t)));
  passed = λ here p first route hop on s k q h. all_of s h.waitsets;
  arrived = λ here p first route hop to s k q h. triggered_kept to _ (all_of s h.waitsets);
  taken = λ here first s k q r h. all_of s h.waitsets;
}

pub step_keeps_waitsets : (s : State) (v : Event) → MayWait s → WaitsetsStand (step s v).state
step_keeps_waitsets s v h = waitsets_of (step s v).state (step_leads MayWait StandIn (λ t x. all_of t x.waitsets) waitsets_keep s v h)
