-- Each step keeps that the ends of listed channels fit: where seats agree, ends take from a queue or a ring, rings have one owner
-- and what stands first on an end's own ring is no monitor's.
use Rattle.std.proofs.Common.{◌≡◌, ◌≢◌, refl, sym, ◌∙◌, ap, subst, ℕ, ◌+◌, true, false, not, inl, inr}
use Rattle.std.proofs.Common.{List, [], ◌∷◌, ◌++◌, length, map, slice_get, Option, Some, None}
use Rattle.std.specs.Prelude.{IsSome, IsNone, is_some}
use Rattle.std.specs.List.{range_with_len}
use Rattle.fl_base.specs.declared.identity.EndId.{EndId}
use Rattle.fl_base.specs.declared.identity.Side.{Side}
use Rattle.fl_base.specs.declared.identity.Side.TheVariants.{Client, Server}
use Rattle.fl_base.specs.Ends.{peer}
use Rattle.fl_base.specs.Given.{given}
use Rattle.fl_lists.specs.declared.place.Place.{Place}
use Rattle.fl_lists.specs.declared.place.Place.TheVariants.{Polled, Pending}
use Rattle.fl_lists.specs.ThreeLists.{list_at, is_in}
use Rattle.fl_lists.proofs.Members.{first_is_in}
use Rattle.fl_model.specs.Given.{changed_at}
use Rattle.fl_model.specs.Events.{DispatcherId, Event}
use Rattle.fl_model.specs.Calls.{Planned}
use Rattle.fl_model.specs.Rings.{OpeningLabel, MonitorLabel, Label, next_of, says, acknowledges, RingLabel, Ring, RingEnd, RingSide, first_side, second_side, first_for, there_is_room, looks, makes_sure, takes, puts, fresh_ring}
use Rattle.fl_model.specs.Ends.{End, Queue, Direction, fresh_queue, without_first, accepts, writes, written_of, with_rule, passes, takes_one, comes_to, rule_at, Taken, whole, a_part, replies, is_bound, joined_by}
use Rattle.fl_model.specs.Waits.{Dispatcher, waits_in, fresh_dispatcher, Due, pending, polled}
use Rattle.fl_model.specs.Monitors.{Core, fresh_core, opens, Hearing, hears, Heard, no_outbox, misrouted, opening_went_on, server_made, opening_failed, answer_went_on, end_opened, end_refused}
use Rattle.fl_model.specs.State.{Route, Back, local, over_ring, over_route, undecided, Binding, State, StepOutcome, Outlet, peer_queue, ring_side, core_of, dispatcher_of, binding_of, end_of, end_in, first_on, own_ring}
use Rattle.fl_model.specs.State.{change_core, change_ring, change_end, change_out, change_route, change_channel, in_queue, delivers, seats, binds_end}
use Rattle.fl_model.specs.Making.{linked, with_dispatcher, with_interface, with_service}
use Rattle.fl_model.specs.Binding.{BindByNames, end_id, with_new_binding, binds_both, arrival_queue}
use Rattle.fl_model.specs.Sending.{writes_to}
use Rattle.fl_model.specs.Taking.{Chosen, takes_label, goes_back, comes_off, finds}
use Rattle.fl_model.specs.Forwarding.{LinkEnd, without_first_said, follows, takes_said, grants, denies, with_number, passes_word, label_of}
use Rattle.fl_model.specs.Step.{step}
use Rattle.fl_model.specs.SoundLists.{IsOfCall, WaitsetsStand}
use Rattle.fl_model_laws.proofs.Cases.{by_given, each_push}
use Rattle.fl_model_laws.proofs.CoreWalk.{each_at_fresh}
use Rattle.fl_model_laws.proofs.BindingWalk.{given_there, new_binding}
use Rattle.fl_model_laws.proofs.Ends.{here}
use Rattle.fl_model_laws.proofs.Ready.{get_last}
use Rattle.fl_model_laws.proofs.Services.{hears_leaves}
use Rattle.fl_model_laws.proofs.Seating.{changed_was}
use Rattle.fl_model_laws.proofs.Seats.{push_was, Agree, Unseated, seating_kept, new_kept, end_kept, route_kept, bound_kept, core_kept, ends_in}
use Rattle.fl_model_laws.proofs.SeatsStep.{server_free, route_free, SitFits, AllSitFits, fits_alike}
use Rattle.fl_model_laws.proofs.Waitsets.{empty_none}
use Rattle.fl_model_laws.proofs.WaitsetsStep.{first_pending, first_polled}
use Rattle.fl_model_laws.proofs.WaitsetsKept.{looks_same, sure_same, first_same}
use Rattle.fl_model_laws.proofs.Listing.{LookedAt, FitEnd, ring_of, FitAt, HasSuch, Listing, ListedFit, listing_core, listing_puts_off}
use Rattle.fl_model_laws.proofs.ListingEnds.{looked_now, put_quiet, look_quiet, sure_quiet, fit_takes, taken_other, taken_quiet, ring_end, fit_elsewhere, end_quiet, route_quiet, binding_quiet, new_ring_quiet, OneOf, AllOne, one_at, ones_end, ones_route, ones_seats, ones_binds, ones_queue, fit_waits, relisted, seat_quiet, registered_fit, deregistered_fit, bound_fit, delivered_fit}
use Rattle.fl_model_laws.proofs.Walk.{CalledAt, RuledAt, PassedAt, MadeIn, At, IsTurn, IsHere, IsWithout, FindsNone, in_queue_none, on_ring_none, KeepsWithin, step_leads_within, with_ring}
use Rattle.fl_model_laws.proofs.Small.{is_not, replies_queue, some_same, changed_here}

-- ---- what is known

-- no two ends have one ring's side as their own, and no end has a link's
pub record OwnAlone (s : State) : Type 0 where
  pub ends : (e f : EndId) (at : RingEnd) → ring_of s.bindings e ≡ Some at → ring_of s.bindings f ≡ Some at → e ≡ f
  pub links : (here : LinkEnd) → IsHere here s → (e : EndId) → ring_of s.bindings e ≢ Some here.ring

-- what stands first for an end on its own ring is no monitor's
abbrev pub OwnCalls : State → Type 0
OwnCalls s = (e : EndId) (at : RingEnd) (first : RingLabel) (m : MonitorLabel) → ring_of s.bindings e ≡ Some at → first_on at s ≡ Some first
    → first.label ≢ says m

pub record MayList (s : State) : Type 0 where
  pub fit : ListedFit s
  pub waitsets : WaitsetsStand s
  pub seats : Agree s
  pub ones : AllOne s.bindings
  pub owners : OwnAlone s
  pub calls : OwnCalls s
  pub sits : AllSitFits s

here_before : (n : ℕ) (f : Ring → Ring) (s : State) (here : LinkEnd) → IsHere here (change_ring n f s) → IsHere here s
here_before n f s here j = record { core = j.core; neighbour = j.neighbour; here_is = j.here_is }

may_list_looked : (n : ℕ) (f : Ring → Ring) (s : State) → ((side : RingSide) (r : Ring) → first_for side (f r) ≡ first_for side r)
    → ListedFit (change_ring n f s) → MayList s → MayList (change_ring n f s)
may_list_looked n f s same fit h = record {
  fit = fit;
  waitsets = h.waitsets;
  seats = h.seats;
  ones = h.ones;
  owners = record { ends = h.owners.ends; links = λ here j. h.owners.links here (here_before n f s here j) };
  calls = λ e at first m q r. h.calls e at first m q (sym (first_same s.rings n at.ring at.side f (same at.side)) ∙ r);
  sits = λ here m first k j q r t.
      fits_alike s (change_ring n f s) (hears s.services here.link m k).heard (λ b u. u)
      (h.sits here m first k (here_before n f s here j) (sym (first_same s.rings n here.ring.ring here.ring.side f (same here.ring.side)) ∙ q) r t);
}

-- ---- states that differ elsewhere

as_listed : (s t : State) → t.cores ≡ s.cores → t.rings ≡ s.rings → t.bindings ≡ s.bindings → ListedFit s → ListedFit t
as_listed s t c r b h d y place k q l =
    let was : HasSuch (FitAt s) y place k =
    h d y place k (ap (λ (cs : List Core). given (slice_get cs d.core) None (λ j. slice_get j.dispatchers d.place)) (sym c) ∙ q) l in
    record {
      end = was.end;
      end_is = was.end_is;
      such = record {
        end = was.such.end;
        there = ap (λ (bs : List Binding). given (slice_get bs was.end.binding) None (λ a. Some (end_in was.end.side a))) b ∙ was.such.there;
        holds = subst (λ (own : Option RingEnd). FitEnd t.rings place own was.such.end) (sym (ap (λ (bs : List Binding). ring_of bs was.end) b))
            (subst (λ (rs : List Ring). FitEnd rs place (ring_of s.bindings was.end) was.such.end) (sym r) was.such.holds);
      };
    }

core_quiet : (n : ℕ) (f : Core → Core) (s : State) → ((k : Core) → core_of s n ≡ Some k → (f k).dispatchers ≡ k.dispatchers) → ListedFit s
    → ListedFit (change_core n f s)
core_quiet n f s k h = relisted n f s (listing_core (FitAt s) n f s k h)

fresh_fit : (n : ℕ) (s : State) → ListedFit (record s { cores = map fresh_core (range_with_len 0 n) })
fresh_fit n s d y place k q l =
    let (j, at, is) = given_there (slice_get (map fresh_core (range_with_len 0 n)) d.core) (λ i. slice_get i.dispatchers d.place) y q in
    let empty : j.dispatchers ≡ [] = each_at_fresh (λ m i. i.dispatchers ≡ []) 0 n (λ m. refl) d.core j at in
    absurd (none d y (ap (λ ds. slice_get ds d.place) (sym empty) ∙ is))
  where
    none : (d : DispatcherId) (y : Dispatcher) → slice_get [] d.place ≡ Some y → ⊥
    none d y h = absurd (cc)

-- a fresh dispatcher has no channel
added_fit : (core : ℕ) (s : State) → ListedFit s → ListedFit (change_core core with_dispatcher s)
added_fit core s h = relisted core with_dispatcher s listed
  where
    added : (d : DispatcherId) (y : Dispatcher) (place : Place) (k : ℕ) (j : Core) → slice_get s.cores d.core ≡ Some j
        → slice_get (j.dispatchers ++ fresh_dispatcher ∷ []) d.place ≡ Some y → is_in k (list_at y.lists place) ≡ true → HasSuch (FitAt s) y place k
    added d y place k j at is l =
        elim (push_was j.dispatchers fresh_dispatcher d.place y is) [
          | inl a ↦ h d y place k (ap (λ (o : Option Core). given o None (λ i. slice_get i.dispatchers d.place)) at ∙ a) l
          | inr b ↦ absurd (empty_none place k (subst (λ (z : Dispatcher). is_in k (list_at z.lists place) ≡ true) b.1 l))
        ]

    listed : Listing (FitAt s) (change_core core with_dispatcher s)
    listed d y place k q l =
        let (j, at, is) = given_there (slice_get (changed_at core with_dispatcher s.cores) d.core) (λ i. slice_get i.dispatchers d.place) y q in
        elim (changed_was s.cores core with_dispatcher d.core j at) [
          | inl a ↦ h d y place k (ap (λ (o : Option Core). given o None (λ i. slice_get i.dispatchers d.place)) a ∙ is) l
          | inr b ↦ added d y place k b.1.0 (ap (slice_get s.cores) b.0 ∙ b.1.1) (ap (λ (i : Core). slice_get i.dispatchers d.place) (sym b.1.2) ∙ is) l
        ]

-- ---- bindings

both_fit : (n : ℕ) (w : BindByNames) (s : State) → Unseated (end_id n Client) s → Unseated (end_id n Server) s → Agree s → AllOne s.bindings → ListedFit s
    → ListedFit (binds_both n w s)
both_fit n w s uc uv a one h =
    let c : EndId = end_id n Client in
    let v : EndId = end_id n Server in
    let first : State = seats w.client c s in
    let second : State = seats w.service.dispatcher v first in
    let agree : Agree second = seating_kept w.service.dispatcher v first (server_free n w.client s uv) (seating_kept w.client c s uc a) in
    let ones : AllOne second.bindings = ones_seats w.service.dispatcher v first (ones_seats w.client c s one) in
    let fit : ListedFit second = seat_quiet w.service.dispatcher v first (seat_quiet w.client c s h) in
    bound_fit v 0 (binds_end c 0 second) (bound_kept c 0 second agree) (ones_binds c 0 second ones) (bound_fit c 0 second agree ones fit)

both_new : (w : BindByNames) (back : Back) (stations : ℕ) (q : Option Queue) (s : State)
    → ((side : Side) → OneOf (own_ring side back) (end_in side (new_binding w back stations q))) → Agree s → AllOne s.bindings → ListedFit s
    → ListedFit (binds_both (length s.bindings) w (with_new_binding w back stations q s))
both_new w back stations q s one a ones h =
    let b : Binding = new_binding w back stations q in
    both_fit (length s.bindings) w (with_new_binding w back stations q s) (b, get_last s.bindings b, refl) (b, get_last s.bindings b, refl)
    (new_kept w back stations q s a) (each_push _ s.bindings b ones one) (binding_quiet b s h)

ring_one : (w : BindByNames) (n stations : ℕ) (side : Side) → OneOf (own_ring side (over_ring n)) (end_in side (new_binding w (over_ring n) stations None))
ring_one w n stations Client = inr refl
ring_one w n stations Server = inr refl

-- ---- labels

replies_circuit : (i : Planned) (t : Taken) (x : End) → (replies i t x).circuit ≡ x.circuit
replies_circuit i a_part x = refl
replies_circuit i (whole c) x = by_given (λ (y : End). y.circuit ≡ x.circuit) (rule_at x.rules c.msg) x _ refl (λ m q. refl)

out_quiet : (e : EndId) (f : Direction → Direction) (s : State) → ListedFit s → ListedFit (change_out e f s)
out_quiet e f s h = end_quiet e (λ x. record x { out = f x.out }) s (λ x. refl) (λ x. refl) h

label_taken : (e : EndId) (i : Planned) (l : Label) (s : State) → ListedFit s → ListedFit (takes_label e i l s).state
label_taken e i (next_of sender k) s h =
    by_given (λ (o : StepOutcome). ListedFit o.state) (end_of s sender) _ _ h
    (λ y r. end_quiet e (replies i (comes_to i y.out)) (change_out sender takes_one s) (λ x. replies_circuit i (comes_to i y.out) x)
    (λ x. replies_queue i (comes_to i y.out) x) (out_quiet sender takes_one s h))
label_taken e i (says m) s h = h
label_taken e i acknowledges s h = h

written_fit : (e : EndId) (i : Planned) (d : Direction) (o : Outlet) (s : State) → MayList s → ListedFit (writes_to e i d o there_is_room s).state
written_fit e i d peer_queue s h =
    let f : End → End = λ x. record x { out = (writes i x.out there_is_room).direction } in
    delivered_fit (next_of e (written_of d)) (peer e) (change_end e f s) (end_kept e f s (λ x. refl) h.seats) (ones_end e f s (λ own x k. k) h.ones)
    (end_quiet e f s (λ x. refl) (λ x. refl) h.fit)
written_fit e i d (ring_side on) s h =
    let f : End → End = λ x. record x { out = (writes i x.out there_is_room).direction } in
    put_quiet on (next_of e (written_of d)) (change_end e f s) (end_quiet e f s (λ x. refl) (λ x. refl) h.fit)

-- ---- turns

pub first_in : (xs : List ℕ) (c : ℕ) → slice_get xs 0 ≡ Some c → is_in c xs ≡ true
first_in [] c h = absurd (cc)
first_in (x ∷ xs) c h = subst (λ (n : ℕ). is_in n (x ∷ xs) ≡ true) (some_same x c h) (first_is_in x xs)

-- the end whose turn it is fits its list
turn_fit : (t : Chosen) (place : Place) (s : State) (x : Dispatcher) → dispatcher_of s t.dispatcher ≡ Some x → slice_get x.ends t.channel ≡ Some t.end
    → slice_get (list_at x.lists place) 0 ≡ Some t.channel → ListedFit s → FitAt s place t.end
turn_fit t place s x there its first h =
    let such : HasSuch (FitAt s) x place t.channel = h t.dispatcher x place t.channel there (first_in (list_at x.lists place) t.channel first) in
    subst (FitAt s place) (some_same such.end t.end (sym such.end_is ∙ its)) such.such

pending_first : (t : Chosen) (s : State) (k : IsTurn t (pending t.channel) s) → slice_get (list_at k.dispatcher.lists Pending) 0 ≡ Some t.channel
pending_first t s k = first_pending k.dispatcher k.dispatcher.lists.pending k.dispatcher.lists.polled t.channel k.due_is

polled_first : (t : Chosen) (s : State) (k : IsTurn t (polled t.channel) s) → slice_get (list_at k.dispatcher.lists Polled) 0 ≡ Some t.channel
polled_first t s k = first_polled k.dispatcher k.dispatcher.lists.pending k.dispatcher.lists.polled t.channel k.due_is

pending_fit : (t : Chosen) (s : State) → IsTurn t (pending t.channel) s → ListedFit s → FitAt s Pending t.end
pending_fit t s k h = turn_fit t Pending s k.dispatcher k.dispatcher_is k.end_is (pending_first t s k) h

polled_fit : (t : Chosen) (s : State) → IsTurn t (polled t.channel) s → ListedFit s → FitAt s Polled t.end
polled_fit t s k h = turn_fit t Polled s k.dispatcher k.dispatcher_is k.end_is (polled_first t s k) h

-- the channel goes back where its end fits, in a state that leaves the other ends
back_fit : (t : Chosen) (to : Place) (s s2 : State) → s2.cores ≡ s.cores → IsTurn t (pending t.channel) s → WaitsetsStand s → Agree s
    → ((place : Place) (g : EndId) → g ≢ t.end → FitAt s place g → FitAt s2 place g) → FitAt s2 to t.end → ListedFit s
    → Listing (FitAt s2) (goes_back t to s)
back_fit t to s s2 same k w a other mine h =
    listing_puts_off (FitAt s) (FitAt s2) t.dispatcher k.dispatcher Pending t.channel to t.end s k.dispatcher_is (pending_first t s k) k.end_is
    (w t.dispatcher k.dispatcher k.dispatcher_is).apart a other mine h

off_fit : (t : Chosen) (to : Place) (s : State) → IsTurn t (polled t.channel) s → WaitsetsStand s → Agree s → FitAt s to t.end → ListedFit s
    → ListedFit (comes_off t to s)
off_fit t to s k w a mine h =
    relisted t.dispatcher.core _ s
    (listing_puts_off (FitAt s) (FitAt s) t.dispatcher k.dispatcher Polled t.channel to t.end s k.dispatcher_is (polled_first t s k) k.end_is
    (w t.dispatcher k.dispatcher k.dispatcher_is).apart a (λ place g ne f. f) mine h)

ring_at : (s : State) (e : EndId) (b : Binding) → binding_of s e ≡ Some b → ring_of s.bindings e ≡ own_ring e.side b.back
ring_at s e b q = ap (λ (o : Option Binding). given o None (λ a. own_ring e.side a.back)) q

pub end_at : (s : State) (e : EndId) (b : Binding) → binding_of s e ≡ Some b → end_of s e ≡ Some (end_in e.side b)
end_at s e b q = ap (λ (o : Option Binding). given o None (λ a. Some (end_in e.side a))) q

queue_circuit : (f : Queue → Queue) (x : End) → (in_queue f x).circuit ≡ x.circuit
queue_circuit f x = by_given (λ (y : End). y.circuit ≡ x.circuit) x.queue x _ refl (λ q r. refl)

queue_after : (f : Queue → Queue) (x : End) (q : Queue) → x.queue ≡ Some q → (in_queue f x).queue ≡ Some (f q)
queue_after f x q r = ap (λ (o : Option Queue). (given o x λ p. record x { queue = Some (f p) }).queue) r

from_queue_fit : (t : Chosen) (b : Binding) (i : Planned) (q : Queue) (s : State) → IsTurn t (pending t.channel) s → At s t.end b i
    → (end_in t.end.side b).queue ≡ Some q → MayList s
    → ListedFit (goes_back t (waits_in (Some (without_first q))) (change_end t.end (in_queue without_first) s))
from_queue_fit t b i q s k at r h =
    let x : End = end_in t.end.side b in
    let taken : State = change_end t.end (in_queue without_first) s in
    let fits : FitAt s Pending t.end = pending_fit t s k h.fit in
    let same : fits.end ≡ x = some_same fits.end x (sym fits.there ∙ end_at s t.end b at.binding) in
    let bound : IsSome x.circuit = subst (λ (y : End). IsSome y.circuit) same fits.holds.bound in
    let mine : FitAt taken (waits_in (Some (without_first q))) t.end = record {
      end = in_queue without_first x;
      there = here t.end (in_queue without_first) s x (end_at s t.end b at.binding);
      holds = fit_waits taken.rings (ring_of taken.bindings t.end) (in_queue without_first x)
          (subst IsSome (sym (queue_circuit without_first x)) bound)
          (ones_queue without_first (ring_of taken.bindings t.end) x
          (subst (λ (own : Option RingEnd). OneOf own x) (sym (ring_end t.end (in_queue without_first) s t.end))
          (one_at s t.end x h.ones (end_at s t.end b at.binding)))) (Some (without_first q)) (queue_after without_first x q r);
    } in
    relisted t.dispatcher.core _ taken
    (back_fit t (waits_in (Some (without_first q))) s taken refl k h.waitsets h.seats
    (λ place g ne. fit_elsewhere t.end (in_queue without_first) s place g ne) mine h.fit)

none_queue : (own : Option RingEnd) (at : RingEnd) (x : End) → own ≡ Some at → OneOf own x → x.queue ≡ None
none_queue own at x e (inl a) = absurd (let u : None ≡ Some at = sym a ∙ e in cc)
none_queue own at x e (inr b) = b

from_ring_fit : (t : Chosen) (b : Binding) (i : Planned) (at : RingEnd) (s : State) → IsTurn t (pending t.channel) s → At s t.end b i
    → own_ring t.end.side b.back ≡ Some at → MayList s → ListedFit (goes_back t Polled (change_ring at.ring (takes at.side) s))
from_ring_fit t b i at s k j r h =
    let x : End = end_in t.end.side b in
    let taken : State = change_ring at.ring (takes at.side) s in
    let fits : FitAt s Pending t.end = pending_fit t s k h.fit in
    let own : ring_of s.bindings t.end ≡ Some at = ring_at s t.end b j.binding ∙ r in
    let none : fits.end.queue ≡ None = none_queue (ring_of s.bindings t.end) at fits.end own (one_at s t.end fits.end h.ones fits.there) in
    let mine : FitAt taken Polled t.end = record {
      end = fits.end;
      there = fits.there;
      holds = record { bound = fits.holds.bound; kind = subst (λ (o : Option Queue). IsNone o) (sym none) refl; holds = tt };
    } in
    relisted t.dispatcher.core _ taken
    (back_fit t Polled s taken refl k h.waitsets h.seats
    (λ place g ne. fit_takes at s place g (λ u. ne (h.owners.ends g t.end at u own))) mine h.fit)

-- a pending channel finds something
pub first_none : (ls : List Label) → slice_get ls 0 ≡ None → ls ≡ []
first_none [] h = refl
first_none (l ∷ ls) h = absurd (cc)

finds_some : (t : Chosen) (b : Binding) (s : State) (to : Place) → binding_of s t.end ≡ Some b → FitAt s Pending t.end → FindsNone t b s to → ⊥
finds_some t b s to there f (in_queue_none q r none) =
    let same : f.end ≡ end_in t.end.side b = some_same f.end (end_in t.end.side b) (sym f.there ∙ end_at s t.end b there) in
    f.holds.holds.0 q (ap (λ (y : End). y.queue) same ∙ r) (first_none q.labels none)
finds_some t b s to there f (on_ring_none at r none) =
    let looked : LookedAt s.rings at = f.holds.holds.1 at (ring_at s t.end b there ∙ r) in
    let first : first_on at s ≡ Some looked.2.first =
    ap (λ (o : Option Ring). given o None (first_for at.side)) looked.1 ∙ looked.2.first_is in
    absurd (let u : None ≡ Some looked.2.first = sym none ∙ first in cc)

-- a polled channel that was looked at, and at which a call's fragment stands
found_pending : (t : Chosen) (b : Binding) (at : RingEnd) (first : RingLabel) (s : State) → IsTurn t (polled t.channel) s → binding_of s t.end ≡ Some b
    → own_ring t.end.side b.back ≡ Some at → first_on at s ≡ Some first → IsOfCall first.label → MayList s
    → FitAt (change_ring at.ring (looks at.side) s) Pending t.end
found_pending t b at first s k there r q call h =
    let looked : State = change_ring at.ring (looks at.side) s in
    let fits : FitAt s Polled t.end = polled_fit t s k h.fit in
    let (ring, its, is) = given_there (slice_get s.rings at.ring) (first_for at.side) first q in
    let now : LookedAt looked.rings at = (looks at.side ring, changed_here s.rings at.ring (looks at.side) ring its, looked_now at.side ring first is call) in
    let own : ring_of s.bindings t.end ≡ Some at = ring_at s t.end b there ∙ r in
    record {
      end = fits.end;
      there = fits.there;
      holds = record {
        bound = fits.holds.bound;
        kind = tt;
        holds = (
          (λ p u. absurd (let v : true ≡ false = sym (ap is_some u) ∙ fits.holds.kind in cc)),
          (λ g u. subst (LookedAt looked.rings) (some_same at g (sym own ∙ u)) now),
        );
      };
    }

looked_turn : (t : Chosen) (o : Due) (n : ℕ) (f : Ring → Ring) (s : State) → IsTurn t o s → IsTurn t o (change_ring n f s)
looked_turn t o n f s k = record { dispatcher = k.dispatcher; dispatcher_is = k.dispatcher_is; due_is = k.due_is; end_is = k.end_is }

not_call : (l : Label) → l ≡ acknowledges → IsOfCall l → ⊥
not_call l e k = absurd (let u : acknowledges ≡ next_of k.0 k.1.0 = sym e ∙ k.1.1 in cc)

not_said : (m : MonitorLabel) (l : Label) → l ≡ says m → IsOfCall l → ⊥
not_said m l e k = absurd (let u : says m ≡ next_of k.0 k.1.0 = sym e ∙ k.1.1 in cc)

found_fit : (t : Chosen) (b : Binding) (at : RingEnd) (first : RingLabel) (l : Label) (s : State) → IsTurn t (polled t.channel) s
    → binding_of s t.end ≡ Some b → own_ring t.end.side b.back ≡ Some at → first_on at s ≡ Some first → first.label ≡ l → MayList s
    → ListedFit (finds t at l (change_ring at.ring (looks at.side) s)).state
found_fit t b at first (next_of e k) s d there r q is h =
    let looked : State = change_ring at.ring (looks at.side) s in
    off_fit t Pending looked (looked_turn t (polled t.channel) at.ring (looks at.side) s d) h.waitsets h.seats
    (found_pending t b at first s d there r q (e, (k, is)) h) (look_quiet at s h.fit)
found_fit t b at first (says m) s d there r q is h = absurd (h.calls t.end at first m (ring_at s t.end b there ∙ r) q is)
found_fit t b at first acknowledges s d there r q is h =
    let looked : State = change_ring at.ring (looks at.side) s in
    let taken : State = change_ring at.ring (takes at.side) looked in
    let still : first_on at looked ≡ Some first = first_same s.rings at.ring at.ring at.side (looks at.side) (λ x. looks_same at.side at.side x) ∙ q in
    let fit : ListedFit taken = taken_quiet at first looked still (not_call first.label is) (look_quiet at s h.fit) in
    let turn : IsTurn t (polled t.channel) taken =
    looked_turn t (polled t.channel) at.ring (takes at.side) looked (looked_turn t (polled t.channel) at.ring (looks at.side) s d) in
    off_fit t Polled taken turn h.waitsets h.seats (polled_fit t taken turn fit) fit

-- ---- what a core heard

heard_fit : (at : RingEnd) (x : Heard) (s : State) → SitFits s x → Agree s → AllOne s.bindings → ListedFit s
    → ListedFit (change_ring at.ring (takes at.side) s) → ListedFit (follows x (takes_said at x s)).state
heard_fit at no_outbox s f a one h g = h
heard_fit at misrouted s f a one h g = h
heard_fit at (opening_went_on n c) s f a one h g = route_quiet n (with_number c) (change_ring at.ring (takes at.side) s) g
heard_fit at (server_made n d c) s f a one h g =
    let e : EndId = end_id n Server in
    let taken : State = change_ring at.ring (takes at.side) s in
    let granted : State = change_route n grants taken in
    bound_fit e c (seats d e granted) (seating_kept d e granted (route_free n grants taken f) (route_kept n grants taken a))
    (ones_seats d e granted (ones_route n grants taken one)) (seat_quiet d e granted (route_quiet n grants taken g))
heard_fit at (opening_failed n fault) s f a one h g = route_quiet n (denies fault) (change_ring at.ring (takes at.side) s) g
heard_fit at (answer_went_on n) s f a one h g = route_quiet n passes_word (change_ring at.ring (takes at.side) s) g
heard_fit at (end_opened e c) s f a one h g =
    let taken : State = change_ring at.ring (takes at.side) s in
    bound_fit e c (change_route e.binding passes_word taken) (route_kept e.binding passes_word taken a) (ones_route e.binding passes_word taken one)
    (route_quiet e.binding passes_word taken g)
heard_fit at (end_refused e fault) s f a one h g = route_quiet e.binding passes_word (change_ring at.ring (takes at.side) s) g

-- ---- the walk

channel_bindings : (e : EndId) (f : ℕ → End → Dispatcher → Dispatcher) (s : State) → (change_channel e f s).bindings ≡ s.bindings
channel_bindings e f s =
    by_given (λ (t : State). t.bindings ≡ s.bindings) (end_of s e) _ _ refl
    (λ x q. by_given (λ (t : State). t.bindings ≡ s.bindings) x.seat _ _ refl (λ seat r. refl))

delivered_ring : (l : Label) (e : EndId) (s : State) (g : EndId) → ring_of (delivers l e s).bindings g ≡ ring_of s.bindings g
delivered_ring l e s g =
    ap (λ (bs : List Binding). ring_of bs g) (channel_bindings e _ _) ∙ ring_end e (in_queue (joined_by l)) s g

is_sure : (x : End) → not (is_bound x) ≡ false → IsSome x.circuit
is_sure x q = is_not (is_bound x) q

listed_keep : KeepsWithin CalledAt RuledAt PassedAt (MadeIn MayList) IsWithout MayList ListedFit
listed_keep = record {
  settled = λ s h. as_listed s (record s { may_set_cores = false }) refl refl refl h;
  interface = λ i s q h. as_listed s (with_interface i s) refl refl refl h.fit;
  cores = λ n s q h. fresh_fit n s;
  link = λ a b size s q r h.
      core_quiet b (linked a (length s.rings) second_side) (change_core a (linked b (length s.rings) first_side) (with_ring size s)) (λ k u. refl)
      (core_quiet a (linked b (length s.rings) first_side) (with_ring size s) (λ k u. refl) (new_ring_quiet (fresh_ring size) s h.fit));
  dispatcher = λ core s h. added_fit core s h.fit;
  service = λ x s d i q r t h. as_listed s (with_service x s) refl refl refl h.fit;
  queues = λ w i slots s k q h.
      both_new w local 2 (Some (fresh_queue slots)) s (λ side. inl refl) h.seats h.ones h.fit;
  ring = λ w i size s k q r h.
      both_new w (over_ring (length s.rings)) 2 None (with_ring size s) (ring_one w (length s.rings) 2) h.seats h.ones
      (new_ring_quiet (fresh_ring size) s h.fit);
  route = λ w i cores k l c s want begins h.
      let way : Route = record { service = w.iref; cores = cores; numbers = c ∷ []; verdict = undecided } in
      let opening : OpeningLabel = record { circuit = c; binding = length s.bindings; service = w.iref; path = cores } in
      let b : Binding = new_binding w (over_route way) (length cores + 1) (Some arrival_queue) in
      let fresh : State = with_new_binding w (over_route way) (length cores + 1) (Some arrival_queue) s in
      core_quiet w.client.core (opens l c opening) (seats w.client (end_id (length s.bindings) Client) fresh) (λ j q. refl)
      (seat_quiet w.client (end_id (length s.bindings) Client) fresh (binding_quiet b s h.fit));
  called = λ e c b i s at q h. out_quiet e (accepts c) s h.fit;
  sure = λ need at s h. may_list_looked at.ring (makes_sure need at.side) s (λ side r. sure_same need side at.side r) (sure_quiet need at s h.fit) h;
  looked = λ at s h. may_list_looked at.ring (looks at.side) s (λ side r. looks_same side at.side r) (look_quiet at s h.fit) h;
  written = λ e b i o s at q r t u h. written_fit e i (end_in e.side b).out o s h;
  held = λ t b i s d at q h.
      relisted t.dispatcher.core _ s (back_fit t Pending s s refl d h.waitsets h.seats (λ place g ne f. f) (pending_fit t s d h.fit) h.fit);
  no_label = λ t to s d h. absurd (finds_some t d.binding s to d.there (pending_fit t s d.turn h.fit) d.none);
  from_queue = λ t b i q label s d at u v w h.
      label_taken t.end i label (goes_back t (waits_in (Some (without_first q))) (change_end t.end (in_queue without_first) s))
      (from_queue_fit t b i q s d at v h);
  from_ring = λ t b i at first s d k u v w h.
      label_taken t.end i first.label (goes_back t Polled (change_ring at.ring (takes at.side) s)) (from_ring_fit t b i at s d k v h);
  found_none = λ t s d h. off_fit t Polled s d h.waitsets h.seats (polled_fit t s d h.fit) h.fit;
  found = λ t b at first s d q r u h. found_fit t b at first first.label s d q r u refl h;
  acknowledged = λ at s q h. put_quiet at acknowledges s h.fit;
  registered = λ e x s q r t h.
      registered_fit e s h.seats h.ones (λ y u. subst (λ (z : End). IsSome z.circuit) (some_same x y (sym q ∙ u)) (is_sure x r)) h.fit;
  deregistered = λ e x s q r h. deregistered_fit e s h.fit;
  ruled = λ e msg answer b i s at h. end_quiet e (with_rule msg answer) s (λ x. refl) (λ x. refl) h.fit;
  monitor_written = λ here link m s k q r t h.
      core_quiet here.core (without_first_said here.link) (change_ring here.ring.ring (puts here.ring.side (says m)) s) (λ j u. refl)
      (put_quiet here.ring (says m) s h.fit);
  heard = λ here m first k s j q r t h.
      let x : Hearing = hears s.services here.link m k in
      let told : State = change_core here.core (λ y. x.core) s in
      let fit : ListedFit told =
      core_quiet here.core (λ y. x.core) s
      (λ y u. hears_leaves s.services here.link m k ∙ ap (λ (z : Core). z.dispatchers) (some_same k y (sym t ∙ u))) h.fit in
      heard_fit here.ring x.heard told (fits_alike s told x.heard (λ b u. u) (h.sits here m first k j q r t))
      (core_kept here.core (λ y. x.core) s
      (λ y u place. ap (λ ds. ends_in ds place) (hears_leaves s.services here.link m k)
      ∙ ap (λ (z : Core). ends_in z.dispatchers place) (some_same k y (sym t ∙ u))) h.seats) h.ones fit
      (taken_quiet here.ring first told q (not_said m first.label r) fit);
  passed = λ here p first route hop on s k q h.
      out_quiet p.end (passes p.station) (change_ring here.ring.ring (takes here.ring.side) (change_ring on.ring (puts on.side (label_of p)) s))
      (taken_other here.ring (change_ring on.ring (puts on.side (label_of p)) s) (h.owners.links here k.is_here) (put_quiet on (label_of p) s h.fit));
  arrived = λ here p first route hop to s k q h.
      out_quiet p.end (passes p.station) (change_ring here.ring.ring (takes here.ring.side) (delivers (label_of p) to s))
      (taken_other here.ring (delivers (label_of p) to s)
      (λ e u. h.owners.links here k.is_here e (sym (delivered_ring (label_of p) to s e) ∙ u)) (delivered_fit (label_of p) to s h.seats h.ones h.fit));
  taken = λ here first s k q r h. taken_quiet here.ring first s q (not_call first.label r) h.fit;
}

pub step_keeps_listed : (s : State) (v : Event) → MayList s → ListedFit (step s v).state
step_keeps_listed s v h =
    step_leads_within CalledAt RuledAt PassedAt (λ e c b i t k. k.at) (λ e m n b i t k. k.at) (λ here p first route hop on t k. k.passing) (MadeIn MayList) IsWithout MayList ListedFit (λ m t r k. k)
    (λ t to u k. k) (λ t k. k.fit) listed_keep s v h
