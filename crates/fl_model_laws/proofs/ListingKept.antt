-- Each step of a sound state keeps what is said of registered channels: their ends are bound and of the kind of their list, a pending
-- queue holds something, and a pending ring was looked at.
use Rattle.std.proofs.Common.{◌≡◌, refl, sym, ◌∙◌, ap, subst, ℕ, true, false, inl, inr}
use Rattle.std.proofs.Common.{List, [], ◌∷◌, slice_get, Option, Some, None, arith}
use Rattle.std.specs.Prelude.{IsSome, IsNone, Contains}
use Rattle.fl_base.specs.declared.identity.EndId.{EndId}
use Rattle.fl_base.specs.declared.identity.Side.{Side}
use Rattle.fl_base.specs.declared.identity.Side.TheVariants.{Client, Server}
use Rattle.fl_base.specs.Ends.{other, peer}
use Rattle.fl_base.specs.Given.{given}
use Rattle.fl_lists.specs.declared.place.Place.{Place}
use Rattle.fl_lists.specs.declared.place.Place.TheVariants.{Idle, Polled, Pending}
use Rattle.fl_lists.specs.ThreeLists.{list_at, is_in}
use Rattle.fl_model.specs.Events.{DispatcherId, Event}
use Rattle.fl_model.specs.Rings.{Label, RingLabel, Ring, RingEnd, first_for, read_by, written_by, Half}
use Rattle.fl_model.specs.Ends.{End, Queue}
use Rattle.fl_model.specs.Waits.{Dispatcher}
use Rattle.fl_model.specs.Monitors.{Core, link_to}
use Rattle.fl_model.specs.State.{Back, local, over_ring, over_route, Binding, State, side_of, end_of, end_in, own_ring, first_on, link_between, dispatcher_of}
use Rattle.fl_model.specs.Standing.{labels_of, ring_from}
use Rattle.fl_model.specs.SoundPlaces.{core_to, this_end, TakesFrom, EndStands, RingsHaveOneOwner}
use Rattle.fl_model.specs.SoundLabels.{MayStandFrom}
use Rattle.fl_model.specs.SoundLists.{Listed, KindFits, ListedAreBound, PendingQueuesHold, PendingRingsWereLookedAt, RingWasLooked}
use Rattle.fl_model.specs.Sound.{Sound}
use Rattle.fl_model.specs.Step.{step}
use Rattle.fl_model_laws.proofs.BindingWalk.{given_there, end_there}
use Rattle.fl_model_laws.proofs.Hearing.{LinkThere, link_there}
use Rattle.fl_model_laws.proofs.Seats.{agree_of}
use Rattle.fl_model_laws.proofs.Sitting.{sit_fits}
use Rattle.fl_model_laws.proofs.Listing.{LookedAt, Suits, Holds, FitEnd, ring_of, FitAt, HasSuch, ListedFit}
use Rattle.fl_model_laws.proofs.ListingEnds.{OneOf, AllOne}
use Rattle.fl_model_laws.proofs.ListingStep.{OwnAlone, OwnCalls, MayList, step_keeps_listed}
use Rattle.fl_model_laws.proofs.Small.{some_same}

pub some_there : {X : Type 0} (o : Option X) → IsSome o → (x : X) × (o ≡ Some x)
some_there None h = absurd (let u : false ≡ true = h in cc)
some_there (Some x) h = (x, refl)

-- ---- what is listed, both ways

kind_suits : (place : Place) (x : End) → KindFits place x → Suits place x.queue
kind_suits Idle x h = h
kind_suits Polled x h = h
kind_suits Pending x h = tt

suits_kind : (place : Place) (x : End) → Suits place x.queue → KindFits place x
suits_kind Idle x h = h
suits_kind Polled x h = h
suits_kind Pending x h = tt

looked_at : (s : State) (at : RingEnd) → RingWasLooked s at → LookedAt s.rings at
looked_at s at h = (h.ring, h.ring_is, record { first = h.first; first_is = h.first_is; call = h.call; known = h.known })

was_looked : (s : State) (at : RingEnd) → LookedAt s.rings at → RingWasLooked s at
was_looked s at h = record { ring = h.0; ring_is = h.1; first = h.2.first; first_is = h.2.first_is; call = h.2.call; known = h.2.known }

module _ (s : State) (bound : ListedAreBound s) (held : PendingQueuesHold s) (looked : PendingRingsWereLookedAt s) where
  holds_at : (place : Place) (e : EndId) (b : Binding) → Listed s place e b → Holds s.rings place (own_ring e.side b.back) (end_in e.side b).queue
  holds_at Idle e b l = tt
  holds_at Polled e b l = tt
  holds_at Pending e b l = ((λ q r. held e b q l r), (λ at r. looked_at s at (looked e b at l r)))

  pub fit_listed : (place : Place) (e : EndId) (b : Binding) → Listed s place e b → FitAt s place e
  fit_listed place e b l = record {
    end = end_in e.side b;
    there = ap (λ (o : Option Binding). given o None (λ a. Some (end_in e.side a))) l.binding_is;
    holds = record {
      bound = (bound place e b l).0;
      kind = kind_suits place (end_in e.side b) (bound place e b l).1;
      holds = subst (λ (own : Option RingEnd). Holds s.rings place own (end_in e.side b).queue)
          (sym (ap (λ (o : Option Binding). given o None (λ a. own_ring e.side a.back)) l.binding_is)) (holds_at place e b l);
    };
  }

-- a listed channel of a sound state, with its end
pub record IsListed (s : State) (d : DispatcherId) (y : Dispatcher) (place : Place) (c : ℕ) : Type 0 where
  pub end : EndId
  pub end_is : slice_get y.ends c ≡ Some end
  pub binding : Binding
  pub listed : Listed s place end binding

pub listed_of : (s : State) → Sound s → (d : DispatcherId) (y : Dispatcher) (place : Place) (c : ℕ) → dispatcher_of s d ≡ Some y
    → is_in c (list_at y.lists place) ≡ true → IsListed s d y place c
listed_of s sound d y place c q l =
    let (e, its) = some_there (slice_get y.ends c) ((sound.waitsets d y q).ends place c l) in
    let seat = sound.seats.listed d y c e q its in
    let (b, at, is) = end_there s e seat.0 seat.1 in
    record {
      end = e;
      end_is = its;
      binding = b;
      listed = record { at = d; dispatcher = y; dispatcher_is = q; channel = c; listed = l; end_is = its; binding_is = at };
    }

sound_listed : (s : State) → Sound s → ListedFit s
sound_listed s sound d y place c q l =
    let it : IsListed s d y place c = listed_of s sound d y place c q l in
    record { end = it.end; end_is = it.end_is; such = fit_listed s sound.listed sound.held sound.looked place it.end it.binding it.listed }

module _ (s : State) (h : ListedFit s) where
  fit_there : (place : Place) (e : EndId) (b : Binding) → Listed s place e b → FitEnd s.rings place (own_ring e.side b.back) (end_in e.side b)
  fit_there place e b l =
      let such : HasSuch (FitAt s) l.dispatcher place l.channel = h l.at l.dispatcher place l.channel l.dispatcher_is l.listed in
      let fit : FitAt s place e = subst (FitAt s place) (some_same such.end e (sym such.end_is ∙ l.end_is)) such.such in
      let at : end_of s e ≡ Some (end_in e.side b) = ap (λ (o : Option Binding). given o None (λ a. Some (end_in e.side a))) l.binding_is in
      let own : ring_of s.bindings e ≡ own_ring e.side b.back = ap (λ (o : Option Binding). given o None (λ a. own_ring e.side a.back)) l.binding_is in
      subst (FitEnd s.rings place (own_ring e.side b.back)) (some_same fit.end (end_in e.side b) (sym fit.there ∙ at))
      (subst (λ (o : Option RingEnd). FitEnd s.rings place o fit.end) own fit.holds)

  are_bound : ListedAreBound s
  are_bound place e b l =
      let fit : FitEnd s.rings place (own_ring e.side b.back) (end_in e.side b) = fit_there place e b l in
      (fit.bound, suits_kind place (end_in e.side b) fit.kind)

  queues_hold : PendingQueuesHold s
  queues_hold e b q l r = (fit_there Pending e b l).holds.0 q r

  rings_looked : PendingRingsWereLookedAt s
  rings_looked e b at l r = was_looked s at ((fit_there Pending e b l).holds.1 at r)

-- ---- what else a sound state says

pub own_over : (side : Side) (back : Back) (at : RingEnd) → own_ring side back ≡ Some at
    → (n : ℕ) × (back ≡ over_ring n) × (record { ring = n; side = side_of side } ≡ at)
own_over side local at h = absurd (cc)
own_over side (over_ring n) at h = (n, refl, some_same _ at h)
own_over side (over_route route) at h = absurd (cc)

one_by : (s : State) (side : Side) (back : Back) (x : End) → TakesFrom s back x → OneOf (own_ring side back) x
one_by s side local x h = inl refl
one_by s side (over_ring n) x h = inr (none x.queue h.0)
  where
    none : (o : Option Queue) → IsNone o → o ≡ None
    none None k = refl
    none (Some q) k = absurd (let u : true ≡ false = k in cc)
one_by s side (over_route route) x h = inl refl

sound_ones : (s : State) → Sound s → AllOne s.bindings
sound_ones s sound n b q side =
    let e : EndId = record { binding = n; side = side } in
    let stands : EndStands s e (end_in side b) = sound.ends e (end_in side b) (ap (λ (o : Option Binding). given o None (λ a. Some (end_in side a))) q) in
    let same : stands.binding ≡ b = some_same stands.binding b (sym stands.there ∙ q) in
    one_by s side b.back (end_in side b) (subst (λ (a : Binding). TakesFrom s a.back (end_in side b)) same stands.queue)

same_this : (e f : EndId) → this_end e ≡ this_end f → e ≡ f
same_this e f h = cc

not_both : (a b : ℕ) (e : EndId) → core_to a b ≡ this_end e → ⊥
not_both a b e h = absurd (cc)

sound_owners : (s : State) → RingsHaveOneOwner s → OwnAlone s
sound_owners s owners = record {
  ends = λ e f at q r.
      let (a, there, own) = given_there (slice_get s.bindings e.binding) (λ b. own_ring e.side b.back) at q in
      let (b, here, its) = given_there (slice_get s.bindings f.binding) (λ c. own_ring f.side c.back) at r in
      same_this e f (owners (this_end e) (this_end f) at (a, there, own) (b, here, its));
  links = λ here j e q.
      let t : LinkThere s here = link_there s here j in
      let between : link_between s here.core here.neighbour ≡ Some t.link =
      ap (λ (o : Option Core). given o None (λ k. given (link_to here.neighbour k) None (λ n. slice_get k.links n))) t.core_is
      ∙ ap (λ (o : Option ℕ). given o None (λ n. slice_get t.core.links n)) t.place ∙ t.link_is in
      let (a, there, own) = given_there (slice_get s.bindings e.binding) (λ b. own_ring e.side b.back) here.ring q in
      not_both here.core here.neighbour e (owners (core_to here.core here.neighbour) (this_end e) here.ring (t.link, between, t.ring) (a, there, own));
}

-- what an end reads, the other writes
pub reads_other : (side : Side) (r : Ring) → read_by (side_of side) r ≡ written_by (side_of (other side)) r
reads_other Client r = refl
reads_other Server r = refl

first_contained : (ls : List RingLabel) (first : RingLabel) → slice_get ls 0 ≡ Some first → Contains (labels_of ls) first.label
first_contained [] first h = absurd (cc)
first_contained (l ∷ ls) first h = subst (λ (x : RingLabel). Contains (labels_of (l ∷ ls)) x.label) (some_same l first h) (0, omega arith, refl)

-- what stands first for an end on its own ring is a fragment of the other's or acknowledges
pub own_first : (s : State) → Sound s → (e : EndId) (at : RingEnd) (first : RingLabel) → ring_of s.bindings e ≡ Some at → first_on at s ≡ Some first
    → MayStandFrom (peer e) first.label
own_first s sound e at first q r =
    let (b, there, own) = given_there (slice_get s.bindings e.binding) (λ a. own_ring e.side a.back) at q in
    let (n, back, is) = own_over e.side b.back at own in
    let (ring, its, head) = given_there (slice_get s.rings at.ring) (first_for at.side) first r in
    let here : slice_get s.rings n ≡ Some ring = ap (λ (a : RingEnd). slice_get s.rings a.ring) is ∙ its in
    let ahead : slice_get (read_by (side_of e.side) ring).waiting 0 ≡ Some first = ap (λ (a : RingEnd). first_for a.side ring) is ∙ head in
    let stands : ring_from s (peer e) n ≡ labels_of (read_by (side_of e.side) ring).waiting =
    ap (λ (o : Option Ring). given o [] (λ x. labels_of (written_by (side_of (other e.side)) x).waiting)) here
    ∙ ap (λ (h : Half). labels_of h.waiting) (sym (reads_other e.side ring)) in
    sound.ways.rings (peer e) b n first.label there back
    (subst (λ (ls : List Label). Contains ls first.label) (sym stands) (first_contained (read_by (side_of e.side) ring).waiting first ahead))

sound_calls : (s : State) → Sound s → OwnCalls s
sound_calls s sound e at first m q r is = subst (MayStandFrom (peer e)) is (own_first s sound e at first q r)

may_list : (s : State) → Sound s → MayList s
may_list s sound = record {
  fit = sound_listed s sound;
  waitsets = sound.waitsets;
  seats = agree_of s sound.seats;
  ones = sound_ones s sound;
  owners = sound_owners s sound.owners;
  calls = sound_calls s sound;
  sits = sit_fits s sound;
}

pub sound_steps_listed : (s : State) (v : Event) → Sound s
    → ListedAreBound (step s v).state × PendingQueuesHold (step s v).state × PendingRingsWereLookedAt (step s v).state
sound_steps_listed s v sound =
    let fit : ListedFit (step s v).state = step_keeps_listed s v (may_list s sound) in
    (are_bound (step s v).state fit, queues_hold (step s v).state fit, rings_looked (step s v).state fit)
