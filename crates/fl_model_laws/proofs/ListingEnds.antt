-- What changes of ends, bindings and rings leave of the ends of listed channels, and how an end comes to be listed.
use Rattle.std.proofs.Common.{◌≡◌, ◌≢◌, refl, sym, ◌∙◌, ap, subst, ℕ, ◌||◌, nat_lt, nat_le, Bool, true, false, ◌⊎◌, inl, inr}
use Rattle.std.proofs.Common.{List, [], ◌∷◌, ◌++◌, length, slice_get, Option, Some, None}
use Rattle.std.specs.Prelude.{IsSome, IsNone}
use Rattle.fl_base.specs.declared.identity.EndId.{EndId}
use Rattle.fl_base.specs.declared.identity.Side.{Side}
use Rattle.fl_base.specs.declared.identity.Side.TheVariants.{Client, Server}
use Rattle.fl_base.specs.Given.{given}
use Rattle.fl_lists.specs.declared.place.Place.{Place}
use Rattle.fl_lists.specs.declared.place.Place.TheVariants.{Idle, Polled, Pending}
use Rattle.fl_model.specs.Given.{changed_at}
use Rattle.fl_model.specs.Events.{DispatcherId}
use Rattle.fl_model.specs.Rings.{Label, RingLabel, Ring, RingSide, first_side, second_side, RingEnd, first_for, read_by, written_by, puts, takes, looks, makes_sure, is_spent, free, knows, with_halves}
use Rattle.fl_model.specs.Ends.{Queue, End, Seat, joined_by}
use Rattle.fl_model.specs.Waits.{Dispatcher, deregisters, waits_in}
use Rattle.fl_model.specs.State.{Route, Back, local, over_ring, over_route, Binding, State, dispatcher_of, end_of, end_in, with_end_in, in_route, in_queue, own_ring, change_ring, change_end, change_route, change_channel, seats, registers_end, binds_end, delivers, change_core, first_on}
use Rattle.fl_model.specs.Runs.{same_end}
use Rattle.fl_model.specs.SoundLists.{IsOfCall}
use Rattle.fl_model_laws.proofs.Cases.{either, by_given, Each, each_changed}
use Rattle.fl_model_laws.proofs.Ends.{Has, has_kept, same_end_true, elsewhere}
use Rattle.fl_model_laws.proofs.BindingWalk.{end_there}
use Rattle.fl_model_laws.proofs.Seats.{view_same, Agree, seat_of, at_channel, ends_at, end_kept, changed_now}
use Rattle.fl_model_laws.proofs.Listing.{WasLooked, LookedAt, Suits, Holds, FitEnd, ring_of, FitAt, Listing, ListedFit, listing_weaker, listing_with_end, listing_registers, listing_triggers, listing_deregisters}
use Rattle.fl_model.specs.Monitors.{Core}
use Rattle.fl_model_laws.proofs.Ready.{end_done}
use Rattle.fl_model_laws.proofs.Small.{get_push, some_same}

-- ---- rings

puts_looked : (side by : RingSide) (label : Label) (r : Ring) → WasLooked side r → WasLooked side (puts by label r)
puts_looked first_side first_side label r h = record { first = h.first; first_is = h.first_is; call = h.call; known = h.known }
puts_looked first_side second_side label r h =
    record { first = h.first; first_is = get_push r.by_second.waiting 0 h.first _ h.first_is; call = h.call; known = h.known }
puts_looked second_side first_side label r h =
    record { first = h.first; first_is = get_push r.by_first.waiting 0 h.first _ h.first_is; call = h.call; known = h.known }
puts_looked second_side second_side label r h = record { first = h.first; first_is = h.first_is; call = h.call; known = h.known }

-- the other side takes
other_takes_looked : (side by : RingSide) (r : Ring) → side ≢ by → WasLooked side r → WasLooked side (takes by r)
other_takes_looked first_side first_side r ne h = absurd (ne refl)
other_takes_looked first_side second_side r ne h = record { first = h.first; first_is = h.first_is; call = h.call; known = h.known }
other_takes_looked second_side first_side r ne h = record { first = h.first; first_is = h.first_is; call = h.call; known = h.known }
other_takes_looked second_side second_side r ne h = absurd (ne refl)

looks_looked : (side by : RingSide) (r : Ring) → WasLooked side r → WasLooked side (looks by r)
looks_looked first_side first_side r h =
    by_given (WasLooked first_side) (first_for first_side r) _ _ h
    (λ l q. record { first = h.first; first_is = h.first_is; call = h.call; known = ap (λ (x : RingLabel). x.told) (some_same l h.first (sym q ∙ h.first_is)) })
looks_looked first_side second_side r h =
    by_given (WasLooked first_side) (first_for second_side r) _ _ h
    (λ l q. record { first = h.first; first_is = h.first_is; call = h.call; known = h.known })
looks_looked second_side first_side r h =
    by_given (WasLooked second_side) (first_for first_side r) _ _ h
    (λ l q. record { first = h.first; first_is = h.first_is; call = h.call; known = h.known })
looks_looked second_side second_side r h =
    by_given (WasLooked second_side) (first_for second_side r) _ _ h
    (λ l q. record { first = h.first; first_is = h.first_is; call = h.call; known = ap (λ (x : RingLabel). x.told) (some_same l h.first (sym q ∙ h.first_is)) })

sure_looked : (need : ℕ) (side by : RingSide) (r : Ring) → WasLooked side r → WasLooked side (makes_sure need by r)
sure_looked need side by r h = either (WasLooked side) (is_spent by r || nat_le need (free by r)) _ _ (λ q. h) (λ q. looks_looked side by r h)

-- a side that looks has looked
pub looked_now : (side : RingSide) (r : Ring) (first : RingLabel) → first_for side r ≡ Some first → IsOfCall first.label → WasLooked side (looks side r)
looked_now first_side r first q k =
    by_given_some first q (λ (l : RingLabel). record { first = first; first_is = q; call = k; known = refl })
  where
    by_given_some : (first : RingLabel) → first_for first_side r ≡ Some first → (RingLabel → WasLooked first_side (with_halves first_side (knows first.told (written_by first_side r)) (read_by first_side r) r))
        → WasLooked first_side (looks first_side r)
    by_given_some first q k =
        subst (λ (o : Option RingLabel). WasLooked first_side (given o r λ l. with_halves first_side (knows l.told (written_by first_side r)) (read_by first_side r) r))
        (sym q) (k first)
looked_now second_side r first q k =
    subst (λ (o : Option RingLabel). WasLooked second_side (given o r λ l. with_halves second_side (knows l.told (written_by second_side r)) (read_by second_side r) r))
    (sym q) (record { first = first; first_is = q; call = k; known = refl })

looked_after : (rings : List Ring) (n : ℕ) (f : Ring → Ring) (at : RingEnd)
    → ((r : Ring) → slice_get rings n ≡ Some r → at.ring ≡ n → WasLooked at.side r → WasLooked at.side (f r)) → LookedAt rings at
    → LookedAt (changed_at n f rings) at
looked_after rings n f at k h =
    elim (changed_now rings n f at.ring h.0 h.1) [
      | inl a ↦ (h.0, a, h.2)
      | inr b ↦ (f h.0, b.1, k h.0 (ap (slice_get rings) (sym b.0) ∙ h.1) b.0 h.2)
    ]

holds_rings : (rings later : List Ring) (place : Place) (own : Option RingEnd) (queue : Option Queue)
    → ((at : RingEnd) → own ≡ Some at → LookedAt rings at → LookedAt later at) → Holds rings place own queue → Holds later place own queue
holds_rings rings later Idle own queue k h = h
holds_rings rings later Polled own queue k h = h
holds_rings rings later Pending own queue k h = (h.0, λ at q. k at q (h.1 at q))

pub fit_rings : (s : State) (later : List Ring) (place : Place) (e : EndId)
    → ((at : RingEnd) → ring_of s.bindings e ≡ Some at → LookedAt s.rings at → LookedAt later at) → FitAt s place e → FitAt (record s { rings = later }) place e
fit_rings s later place e k h = record {
  end = h.end;
  there = h.there;
  holds = record {
    bound = h.holds.bound;
    kind = h.holds.kind;
    holds = holds_rings s.rings later place (ring_of s.bindings e) h.end.queue k h.holds.holds;
  };
}

ring_quiet : (n : ℕ) (f : Ring → Ring) (s : State) → ((side : RingSide) (r : Ring) → WasLooked side r → WasLooked side (f r)) → ListedFit s
    → ListedFit (change_ring n f s)
ring_quiet n f s k h =
    listing_weaker (FitAt s) (FitAt (change_ring n f s)) s
    (λ place e. fit_rings s (changed_at n f s.rings) place e (λ at q. looked_after s.rings n f at (λ r u same. k at.side r))) h

pub put_quiet : (at : RingEnd) (label : Label) (s : State) → ListedFit s → ListedFit (change_ring at.ring (puts at.side label) s)
put_quiet at label s h = ring_quiet at.ring (puts at.side label) s (λ side r. puts_looked side at.side label r) h

pub look_quiet : (at : RingEnd) (s : State) → ListedFit s → ListedFit (change_ring at.ring (looks at.side) s)
look_quiet at s h = ring_quiet at.ring (looks at.side) s (λ side r. looks_looked side at.side r) h

pub sure_quiet : (need : ℕ) (at : RingEnd) (s : State) → ListedFit s → ListedFit (change_ring at.ring (makes_sure need at.side) s)
sure_quiet need at s h = ring_quiet at.ring (makes_sure need at.side) s (λ side r. sure_looked need side at.side r) h

-- what stood first is taken: of a ring that is no end's own, or what isn't of a call
same_side_or : (a b : RingSide) → (a ≡ b) ⊎ (a ≢ b)
same_side_or first_side first_side = inl refl
same_side_or first_side second_side = inr (λ h. absurd (cc))
same_side_or second_side first_side = inr (λ h. absurd (cc))
same_side_or second_side second_side = inl refl

same_ring_end : (a b : RingEnd) → a.ring ≡ b.ring → a.side ≡ b.side → a ≡ b
same_ring_end a b p q = ap (λ (n : ℕ). (at n a.side)) p ∙ ap (at b.ring) q
  where
    at : ℕ → RingSide → RingEnd
    at ring side = record { ring = ring; side = side }

pub fit_takes : (at : RingEnd) (s : State) (place : Place) (e : EndId) → ring_of s.bindings e ≢ Some at → FitAt s place e
    → FitAt (change_ring at.ring (takes at.side) s) place e
fit_takes at s place e ne h =
    fit_rings s (changed_at at.ring (takes at.side) s.rings) place e
    (λ own q. looked_after s.rings at.ring (takes at.side) own
    (λ r u same. elim (same_side_or own.side at.side) [
      | inl side ↦ absurd (ne (q ∙ ap (λ (o : RingEnd). Some o) (same_ring_end own at same side)))
      | inr side ↦ other_takes_looked own.side at.side r side
    ])) h

pub taken_other : (at : RingEnd) (s : State) → ((e : EndId) → ring_of s.bindings e ≢ Some at) → ListedFit s
    → ListedFit (change_ring at.ring (takes at.side) s)
taken_other at s ne h =
    listing_weaker (FitAt s) (FitAt (change_ring at.ring (takes at.side) s)) s (λ place e. fit_takes at s place e (ne e)) h

pub taken_quiet : (at : RingEnd) (first : RingLabel) (s : State) → first_on at s ≡ Some first → (IsOfCall first.label → ⊥)
    → ListedFit s → ListedFit (change_ring at.ring (takes at.side) s)
taken_quiet at first s q none h =
    listing_weaker (FitAt s) (FitAt (change_ring at.ring (takes at.side) s)) s
    (λ place e. fit_rings s (changed_at at.ring (takes at.side) s.rings) place e
    (λ own r. looked_after s.rings at.ring (takes at.side) own (λ ring u same. by_side own ring u))) h
  where
    by_side : (own : RingEnd) (r : Ring) → slice_get s.rings at.ring ≡ Some r → WasLooked own.side r → WasLooked own.side (takes at.side r)
    by_side own r u w =
        elim (same_side_or own.side at.side) [
          | inl side ↦ absurd (none (subst (λ (l : RingLabel). IsOfCall l.label) (is_first side) w.call))
          | inr side ↦ other_takes_looked own.side at.side r side w
        ]
      where
        is_first : own.side ≡ at.side → w.first ≡ first
        is_first side =
            some_same w.first first (sym w.first_is ∙ ap (λ (x : RingSide). first_for x r) side
            ∙ sym (ap (λ (o : Option Ring). given o None (first_for at.side)) u) ∙ q)

-- ---- ends

back_same : (side : Side) (g : End → End) (b : Binding) → (with_end_in side g b).back ≡ b.back
back_same Client g b = refl
back_same Server g b = refl

pub ring_end : (f : EndId) (g : End → End) (s : State) (e : EndId) → ring_of (change_end f g s).bindings e ≡ ring_of s.bindings e
ring_end f g s e =
    view_same s.bindings f.binding e.binding (with_end_in f.side g) (λ b. own_ring e.side b.back) None (λ b q. ap (own_ring e.side) (back_same f.side g b))

pub fit_end : (f : EndId) (g : End → End) (s : State) (place : Place) (e : EndId)
    → ((own : Option RingEnd) (x : End) → FitEnd s.rings place own x → FitEnd s.rings place own (g x)) → FitAt s place e → FitAt (change_end f g s) place e
fit_end f g s place e k h =
    subst (λ (own : Option RingEnd). Has (FitEnd s.rings place own) (change_end f g s) e) (sym (ring_end f g s e))
    (has_kept (FitEnd s.rings place (ring_of s.bindings e)) e f g s (k (ring_of s.bindings e)) h)

pub fit_elsewhere : (f : EndId) (g : End → End) (s : State) (place : Place) (e : EndId) → e ≢ f → FitAt s place e → FitAt (change_end f g s) place e
fit_elsewhere f g s place e ne h = by_test (same_end e f) refl
  where
    by_test : (t : Bool) → same_end e f ≡ t → FitAt (change_end f g s) place e
    by_test true q = absurd (ne (same_end_true e f q))
    by_test false q =
        subst (λ (own : Option RingEnd). Has (FitEnd s.rings place own) (change_end f g s) e) (sym (ring_end f g s e))
        (record { end = h.end; there = elsewhere e f g s q ∙ h.there; holds = h.holds })

pub end_quiet : (f : EndId) (g : End → End) (s : State) → ((x : End) → (g x).circuit ≡ x.circuit) → ((x : End) → (g x).queue ≡ x.queue) → ListedFit s
    → ListedFit (change_end f g s)
end_quiet f g s c q h =
    listing_weaker (FitAt s) (FitAt (change_end f g s)) s
    (λ place e. fit_end f g s place e (λ own x k. record {
      bound = subst IsSome (sym (c x)) k.bound;
      kind = subst (Suits place) (sym (q x)) k.kind;
      holds = subst (Holds s.rings place own) (sym (q x)) k.holds;
    })) h

route_own : (side : Side) (f : Route → Route) (back : Back) → own_ring side (in_route f back) ≡ own_ring side back
route_own side f local = refl
route_own side f (over_ring n) = refl
route_own side f (over_route route) = refl

route_end : (side : Side) (f : Route → Route) (b : Binding) → end_in side (record b { back = in_route f b.back }) ≡ end_in side b
route_end Client f b = refl
route_end Server f b = refl

pub route_quiet : (n : ℕ) (f : Route → Route) (s : State) → ListedFit s → ListedFit (change_route n f s)
route_quiet n f s h =
    listing_weaker (FitAt s) (FitAt (change_route n f s)) s
    (λ place e k. subst (λ (own : Option RingEnd). Has (FitEnd s.rings place own) (change_route n f s) e) (sym (own e))
    (record { end = k.end; there = at e ∙ k.there; holds = k.holds })) h
  where
    own : (e : EndId) → ring_of (change_route n f s).bindings e ≡ ring_of s.bindings e
    own e =
        view_same s.bindings n e.binding (λ b. record b { back = in_route f b.back }) (λ b. own_ring e.side b.back) None (λ b q. route_own e.side f b.back)

    at : (e : EndId) → end_of (change_route n f s) e ≡ end_of s e
    at e =
        view_same s.bindings n e.binding (λ b. record b { back = in_route f b.back }) (λ b. Some (end_in e.side b)) None
        (λ b q. ap (λ (x : End). Some x) (route_end e.side f b))

-- a binding, or a ring, comes behind the others
pub binding_quiet : (b : Binding) (s : State) → ListedFit s → ListedFit (record s { bindings = s.bindings ++ b ∷ [] })
binding_quiet b s h =
    listing_weaker (FitAt s) (FitAt (record s { bindings = s.bindings ++ b ∷ [] })) s
    (λ place e k.
    let (a, at, is) = end_there s e k.end k.there in
    let stays : slice_get (s.bindings ++ b ∷ []) e.binding ≡ slice_get s.bindings e.binding = get_push s.bindings e.binding a b at ∙ sym at in
    subst (λ (own : Option RingEnd). Has (FitEnd s.rings place own) (record s { bindings = s.bindings ++ b ∷ [] }) e)
    (sym (ap (λ (o : Option Binding). given o None (λ c. own_ring e.side c.back)) stays))
    (record { end = k.end; there = ap (λ (o : Option Binding). given o None (λ c. Some (end_in e.side c))) stays ∙ k.there; holds = k.holds })) h

pub new_ring_quiet : (r : Ring) (s : State) → ListedFit s → ListedFit (record s { rings = s.rings ++ r ∷ [] })
new_ring_quiet r s h =
    listing_weaker (FitAt s) (FitAt (record s { rings = s.rings ++ r ∷ [] })) s
    (λ place e. fit_rings s (s.rings ++ r ∷ []) place e (λ at q k. (k.0, get_push s.rings at.ring k.0 r k.1, k.2))) h

-- ---- an end takes from its queue or from a ring of its own, not from both

abbrev pub OneOf : Option RingEnd → End → Type 0
OneOf own x = (own ≡ None) ⊎ (x.queue ≡ None)

abbrev pub BothOne : Binding → Type 0
BothOne b = (side : Side) → OneOf (own_ring side b.back) (end_in side b)

abbrev pub AllOne : List Binding → Type 0
AllOne bs = Each BothOne bs

pub one_at : (s : State) (e : EndId) (x : End) → AllOne s.bindings → end_of s e ≡ Some x → OneOf (ring_of s.bindings e) x
one_at s e x h q =
    let (b, at, is) = end_there s e x q in
    subst (λ (o : Option Binding). OneOf (given o None (λ c. own_ring e.side c.back)) x) (sym at)
    (subst (OneOf (own_ring e.side b.back)) is (h e.binding b at e.side))

one_side : (side by : Side) (g : End → End) (b : Binding) → ((own : Option RingEnd) (x : End) → OneOf own x → OneOf own (g x)) → BothOne b
    → OneOf (own_ring side (with_end_in by g b).back) (end_in side (with_end_in by g b))
one_side Client Client g b k h = k (own_ring Client b.back) b.client (h Client)
one_side Client Server g b k h = h Client
one_side Server Client g b k h = h Server
one_side Server Server g b k h = k (own_ring Server b.back) b.server (h Server)

pub ones_end : (e : EndId) (g : End → End) (s : State) → ((own : Option RingEnd) (x : End) → OneOf own x → OneOf own (g x)) → AllOne s.bindings
    → AllOne (change_end e g s).bindings
ones_end e g s k h = each_changed BothOne s.bindings e.binding (with_end_in e.side g) h (λ b q c side. one_side side e.side g b k c)

pub ones_route : (n : ℕ) (f : Route → Route) (s : State) → AllOne s.bindings → AllOne (change_route n f s).bindings
ones_route n f s h =
    each_changed BothOne s.bindings n (λ b. record b { back = in_route f b.back }) h
    (λ b q c side. one b side (c side))
  where
    one : (b : Binding) (side : Side) → OneOf (own_ring side b.back) (end_in side b)
        → OneOf (own_ring side (in_route f b.back)) (end_in side (record b { back = in_route f b.back }))
    one b side k =
        subst (λ (x : End). OneOf (own_ring side (in_route f b.back)) x) (sym (route_end side f b))
        (subst (λ (own : Option RingEnd). OneOf own (end_in side b)) (sym (route_own side f b.back)) k)

pub ones_channel : (e : EndId) (f : ℕ → End → Dispatcher → Dispatcher) (s : State) → AllOne s.bindings → AllOne (change_channel e f s).bindings
ones_channel e f s h =
    by_given (λ (t : State). AllOne t.bindings) (end_of s e) _ _ h (λ x q. by_given (λ (t : State). AllOne t.bindings) x.seat _ _ h (λ seat r. h))

pub ones_seats : (d : DispatcherId) (e : EndId) (s : State) → AllOne s.bindings → AllOne (seats d e s).bindings
ones_seats d e s h =
    by_given (λ (t : State). AllOne t.bindings) (dispatcher_of s d) _ _ h
    (λ x q. ones_end e (λ y. record y { seat = Some (record { dispatcher = d; channel = length x.ends }) }) s (λ own y k. k) h)

pub ones_binds : (e : EndId) (circuit : ℕ) (s : State) → AllOne s.bindings → AllOne (binds_end e circuit s).bindings
ones_binds e circuit s h =
    ones_channel e _ (change_end e (λ y. record y { circuit = Some circuit }) s) (ones_end e (λ y. record y { circuit = Some circuit }) s (λ own x k. k) h)

-- ---- an end where it waits

no_labels : (q : Queue) → nat_lt 0 (length q.labels) ≡ true → q.labels ≢ []
no_labels q h none = let e : nat_lt 0 0 ≡ true = sym (ap (λ (ls : List Label). nat_lt 0 (length ls)) none) ∙ h in absurd (cc)

no_queue : (q : Queue) (x : End) (own : Option RingEnd) → x.queue ≡ Some q → OneOf own x → own ≡ None
no_queue q x own e (inl a) = a
no_queue q x own e (inr b) = absurd (let u : None ≡ Some q = sym b ∙ e in cc)

pub fit_waits : (rings : List Ring) (own : Option RingEnd) (x : End) → IsSome x.circuit → OneOf own x → (q : Option Queue) → x.queue ≡ q
    → FitEnd rings (waits_in q) own x
fit_waits rings own x b one None e =
    record { bound = b; kind = subst (λ (o : Option Queue). IsNone o) (sym e) refl; holds = tt }
fit_waits rings own x b one (Some q) e =
    either (λ (place : Place). FitEnd rings place own x) (nat_lt 0 (length q.labels)) Pending Idle
    (λ t. record {
      bound = b;
      kind = tt;
      holds = (
        (λ p r. subst (λ (y : Queue). y.labels ≢ []) (some_same q p (sym e ∙ r)) (no_labels q t)),
        (λ at r. absurd (let u : None ≡ Some at = sym (no_queue q x own e one) ∙ r in cc)),
      );
    })
    (λ t. record { bound = b; kind = subst (λ (o : Option Queue). IsSome o) (sym e) refl; holds = tt })

-- ---- channels

fit_core : (n : ℕ) (f : Core → Core) (s : State) (place : Place) (e : EndId)
    → FitAt s place e → FitAt (change_core n f s) place e
fit_core n f s place e h = record { end = h.end; there = h.there; holds = h.holds }

-- the ends are those before cores changed
pub relisted : (n : ℕ) (f : Core → Core) (s : State)
    → Listing (FitAt s) (change_core n f s) → ListedFit (change_core n f s)
relisted n f s h =
    listing_weaker (FitAt s) (FitAt (change_core n f s)) (change_core n f s)
    (λ place e. fit_core n f s place e) h

pub seat_quiet : (d : DispatcherId) (e : EndId) (s : State) → ListedFit s → ListedFit (seats d e s)
seat_quiet d e s h =
    by_given ListedFit (dispatcher_of s d) _ _ h
    (λ x q.
    let g : End → End = λ y. record y { seat = Some (record { dispatcher = d; channel = length x.ends }) } in
    relisted d.core _ (change_end e g s) (listing_with_end (FitAt (change_end e g s)) d e (change_end e g s) (end_quiet e g s (λ y. refl) (λ y. refl) h)))

-- the channel of an end's seat is the end's
seat_is : (s : State) (e : EndId) (x : End) (seat : Seat) → Agree s → end_of s e ≡ Some x → x.seat ≡ Some seat → (y : Dispatcher)
    → dispatcher_of s seat.dispatcher ≡ Some y → slice_get y.ends seat.channel ≡ Some e
seat_is s e x seat a q r y u =
    let (b, at, is) = end_there s e x q in
    let there : seat_of s e ≡ Some (at_channel seat.dispatcher seat.channel) =
    ap (λ (o : Option Binding). given o None (λ c. (end_in e.side c).seat)) at ∙ ap (λ (z : End). z.seat) is ∙ r in
    ap (λ es. slice_get es seat.channel) (sym (ends_at s seat.dispatcher y u)) ∙ a.0 e seat.dispatcher seat.channel there

pub registered_fit : (e : EndId) (s : State) → Agree s → AllOne s.bindings → ((x : End) → end_of s e ≡ Some x → IsSome x.circuit) → ListedFit s
    → ListedFit (registers_end e s)
registered_fit e s a one bound h =
    by_given ListedFit (end_of s e) _ _ h
    (λ x q. by_given ListedFit x.seat _ _ h
    (λ seat r. relisted seat.dispatcher.core _ s
    (listing_registers (FitAt s) seat.dispatcher seat.channel (waits_in x.queue) e s (λ y u. seat_is s e x seat a q r y u)
    (record { end = x; there = q; holds = fit_waits s.rings (ring_of s.bindings e) x (bound x q) (one_at s e x one q) x.queue refl }) h)))

pub deregistered_fit : (e : EndId) (s : State) → ListedFit s → ListedFit (change_channel e (λ c y. deregisters c) s)
deregistered_fit e s h =
    by_given ListedFit (end_of s e) _ _ h
    (λ x q. by_given ListedFit x.seat _ _ h
    (λ seat r. relisted seat.dispatcher.core _ s (listing_deregisters (FitAt s) seat.dispatcher seat.channel s h)))

pub bound_fit : (e : EndId) (circuit : ℕ) (s : State) → Agree s → AllOne s.bindings → ListedFit s → ListedFit (binds_end e circuit s)
bound_fit e circuit s a one h =
    let g : End → End = λ x. record x { circuit = Some circuit } in
    let bound : State = change_end e g s in
    registered_fit e bound (end_kept e g s (λ x. refl) a) (ones_end e g s (λ own x k. k) one)
    (λ x q. end_done e g s (λ y. IsSome y.circuit) (λ y. refl) x q)
    (listing_weaker (FitAt s) (FitAt bound) s
    (λ place f. fit_end e g s place f (λ own x k. record { bound = refl; kind = k.kind; holds = k.holds })) h)

-- ---- a label comes

push_some : (ls : List Label) (l : Label) → ls ++ l ∷ [] ≢ []
push_some [] l h = absurd (cc)
push_some (k ∷ ls) l h = absurd (cc)

queue_seat : (f : Queue → Queue) (x : End) → (in_queue f x).seat ≡ x.seat
queue_seat f x = by_given (λ (y : End). y.seat ≡ x.seat) x.queue x _ refl (λ q r. refl)

pub ones_queue : (f : Queue → Queue) (own : Option RingEnd) (x : End) → OneOf own x → OneOf own (in_queue f x)
ones_queue f own x h =
    by_given (OneOf own) x.queue x _ h (λ q r. inl (no_queue q x own r h))

suits_some : (place : Place) (p q : Queue) → Suits place (Some p) → Suits place (Some q)
suits_some Idle p q h = refl
suits_some Polled p q h = absurd (let u : true ≡ false = h in cc)
suits_some Pending p q h = tt

holds_pushed : (rings : List Ring) (place : Place) (own : Option RingEnd) (l : Label) (q : Queue) → Holds rings place own (Some q)
    → Holds rings place own (Some (joined_by l q))
holds_pushed rings Idle own l q h = tt
holds_pushed rings Polled own l q h = tt
holds_pushed rings Pending own l q h =
    ((λ p r. subst (λ (y : Queue). y.labels ≢ []) (some_same (joined_by l q) p r) (push_some q.labels l)), h.1)

fit_joined : (rings : List Ring) (place : Place) (l : Label) (own : Option RingEnd) (x : End) → FitEnd rings place own x
    → FitEnd rings place own (in_queue (joined_by l) x)
fit_joined rings place l own x h =
    by_given (FitEnd rings place own) x.queue x _ h
    (λ q r. record {
      bound = h.bound;
      kind = suits_some place q (joined_by l q) (subst (Suits place) r h.kind);
      holds = holds_pushed rings place own l q (subst (Holds rings place own) r h.holds);
    })

joined_some : (l : Label) (x : End) (q : Queue) → (in_queue (joined_by l) x).queue ≡ Some q → q.labels ≢ []
joined_some l x q = by_queue x.queue refl
  where
    by_queue : (o : Option Queue) → x.queue ≡ o → (given x.queue x λ p. record x { queue = Some (joined_by l p) }).queue ≡ Some q → q.labels ≢ []
    by_queue None r h =
        let same : (given x.queue x λ p. record x { queue = Some (joined_by l p) }) ≡ x =
        ap (λ (o : Option Queue). given o x λ p. record x { queue = Some (joined_by l p) }) r in
        absurd (let u : None ≡ Some q = sym (ap (λ (y : End). y.queue) same ∙ r) ∙ h in cc)
    by_queue (Some p) r h =
        let same : (given x.queue x λ p. record x { queue = Some (joined_by l p) }) ≡ record x { queue = Some (joined_by l p) } =
        ap (λ (o : Option Queue). given o x λ p. record x { queue = Some (joined_by l p) }) r in
        subst (λ (y : Queue). y.labels ≢ []) (some_same (joined_by l p) q (sym (ap (λ (y : End). y.queue) same) ∙ h)) (push_some p.labels l)

some_there : {X : Type 0} (o : Option X) → IsSome o → (x : X) × (o ≡ Some x)
some_there None h = absurd (let u : false ≡ true = h in cc)
some_there (Some x) h = (x, refl)

pub delivered_fit : (l : Label) (e : EndId) (s : State) → Agree s → AllOne s.bindings → ListedFit s → ListedFit (delivers l e s)
delivered_fit l e s a one h =
    let joined : State = change_end e (in_queue (joined_by l)) s in
    let agree : Agree joined = end_kept e (in_queue (joined_by l)) s (λ x. queue_seat (joined_by l) x) a in
    let ones : AllOne joined.bindings = ones_end e (in_queue (joined_by l)) s (λ own x. ones_queue (joined_by l) own x) one in
    let fit : ListedFit joined =
    listing_weaker (FitAt s) (FitAt joined) s (λ place f. fit_end e (in_queue (joined_by l)) s place f (λ own x. fit_joined s.rings place l own x)) h in
    by_given ListedFit (end_of joined e) _ _ fit
    (λ x q. by_given ListedFit x.seat _ _ fit
    (λ seat r. relisted seat.dispatcher.core _ joined
    (listing_triggers (FitAt joined) seat.dispatcher seat.channel e joined (λ y u. seat_is joined e x seat agree q r y u) (λ k. comes ones k) fit)))
  where
    comes : AllOne (change_end e (in_queue (joined_by l)) s).bindings → FitAt (change_end e (in_queue (joined_by l)) s) Idle e
        → FitAt (change_end e (in_queue (joined_by l)) s) Pending e
    comes ones k =
        let joined : State = change_end e (in_queue (joined_by l)) s in
        let (q, is) = some_there k.end.queue k.holds.kind in
        let none : ring_of joined.bindings e ≡ None = no_queue q k.end (ring_of joined.bindings e) is (one_at joined e k.end ones k.there) in
        record {
          end = k.end;
          there = k.there;
          holds = record {
            bound = k.holds.bound;
            kind = tt;
            holds = (
              (λ p r. end_done e (in_queue (joined_by l)) s (λ y. (z : Queue) → y.queue ≡ Some z → z.labels ≢ [])
                  (λ y z. joined_some l y z) k.end k.there p r),
              (λ at r. absurd (let u : None ≡ Some at = sym none ∙ r in cc)),
            );
          };
        }
