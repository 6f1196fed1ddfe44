-- Each event keeps the counts of all rings.
use Rattle.std.proofs.Common.{◌≡◌, refl, sym, ◌∙◌, ap, subst, ℕ, zero, suc, ◌≤◌, ◌||◌, nat_le}
use Rattle.std.proofs.Common.{List, [], ◌∷◌, ◌++◌, slice_get}
use Rattle.std.proofs.Common.{Option, Some, None}
use Rattle.fl_base.specs.declared.identity.EndId.{EndId}
use Rattle.fl_model.specs.Given.{changed_at}
use Rattle.fl_model.specs.Events.{DispatcherId}
use Rattle.fl_model.specs.Rings.{Label, RingLabel, Ring, RingSide, RingEnd, first_for, looks, Room, there_is_room, no_room, room, makes_sure, puts, takes}
use Rattle.fl_model.specs.Ends.{End}
use Rattle.fl_model.specs.Waits.{Dispatcher}
use Rattle.fl_model.specs.State.{State, change_channel, seats, dispatcher_of, end_of}
use Rattle.fl_model_laws.proofs.Cases.{either, by_given, Each, each_changed}
use Rattle.std.proofs.Common.{slice_set}
use Rattle.fl_base.specs.Given.{given}
use Rattle.fl_model.specs.Rings.{first_side, second_side, is_spent, free}
use Rattle.fl_model_laws.proofs.Rings.{Counted, sure_counted, looks_counted, has_slot, puts_counted, takes_counted}

abbrev pub AllCounted : List Ring → Type 0
AllCounted rings = Each Counted rings

-- ---- what leaves the rings as they are

pub same_rings : {rings later : List Ring} → later ≡ rings → AllCounted rings → AllCounted later
same_rings e h = subst (Each Counted) (sym e) h

pub channel_rings : (e : EndId) (f : ℕ → End → Dispatcher → Dispatcher) (s : State) → (change_channel e f s).rings ≡ s.rings
channel_rings e f s =
    by_given (λ (t : State). t.rings ≡ s.rings) (end_of s e) _ _ refl
    (λ x q. by_given (λ (t : State). t.rings ≡ s.rings) x.seat _ _ refl (λ seat r. refl))

pub seats_rings : (d : DispatcherId) (e : EndId) (s : State) → (seats d e s).rings ≡ s.rings
seats_rings d e s = by_given (λ (t : State). t.rings ≡ s.rings) (dispatcher_of s d) _ _ refl (λ x q. refl)

-- ---- what changes one

pub ring_looked : (at : RingEnd) (rings : List Ring) → AllCounted rings → AllCounted (changed_at at.ring (looks at.side) rings)
ring_looked at rings h = each_changed Counted rings at.ring (looks at.side) h (λ r q k. looks_counted at.side r k)

pub ring_sure : (need : ℕ) (at : RingEnd) (rings : List Ring) → AllCounted rings
    → AllCounted (changed_at at.ring (makes_sure need at.side) rings)
ring_sure need at rings h = each_changed Counted rings at.ring (makes_sure need at.side) h (λ r q k. sure_counted need at.side r k)

room_there : (o : Option Ring) (f : Ring → Room) (r : Ring) → o ≡ Some r → given o no_room f ≡ there_is_room → f r ≡ there_is_room
room_there o f r q h = sym (ap (λ (p : Option Ring). given p no_room f) q) ∙ h

pub ring_put : (need : ℕ) (at : RingEnd) (label : Label) (rings : List Ring) → 1 ≤ need
    → given (slice_get rings at.ring) no_room (room need at.side) ≡ there_is_room → AllCounted rings
    → AllCounted (changed_at at.ring (puts at.side label) rings)
ring_put need at label rings a h k =
    each_changed Counted rings at.ring (puts at.side label) k
    (λ r q c. puts_counted at.side label r (has_slot need at.side r a (room_there (slice_get rings at.ring) (room need at.side) r q h)) c)

first_there : (o : Option Ring) (f : Ring → Option RingLabel) (r : Ring) (l : RingLabel) → o ≡ Some r → given o None f ≡ Some l
    → f r ≡ Some l
first_there o f r l q h = sym (ap (λ (p : Option Ring). given p None f) q) ∙ h

pub ring_taken : (at : RingEnd) (l : RingLabel) (rings : List Ring)
    → given (slice_get rings at.ring) None (first_for at.side) ≡ Some l → AllCounted rings
    → AllCounted (changed_at at.ring (takes at.side) rings)
ring_taken at l rings h k =
    each_changed Counted rings at.ring (takes at.side) k
    (λ r q c. takes_counted at.side r l (first_there (slice_get rings at.ring) (first_for at.side) r l q h) c)

-- ---- what stands first stays so

set_first : (rings : List Ring) (m n : ℕ) (f : Ring → Ring) (g : Ring → Option RingLabel) (l : RingLabel) (x : Ring) → slice_get rings m ≡ Some x
    → ((r : Ring) → g r ≡ Some l → g (f r) ≡ Some l) → given (slice_get rings n) None g ≡ Some l
    → given (slice_get (slice_set rings m (f x)) n) None g ≡ Some l
set_first [] m n f g l x q k h = absurd (cc)
set_first (z ∷ rs) zero zero f g l x q k h =
    let e : z ≡ x = cc in
    k x (subst (λ (r : Ring). g r ≡ Some l) e h)
set_first (z ∷ rs) zero (suc n) f g l x q k h = h
set_first (z ∷ rs) (suc m) zero f g l x q k h = h
set_first (z ∷ rs) (suc m) (suc n) f g l x q k h = set_first rs m n f g l x q k h

first_after : (rings : List Ring) (m n : ℕ) (f : Ring → Ring) (g : Ring → Option RingLabel) (l : RingLabel)
    → ((r : Ring) → g r ≡ Some l → g (f r) ≡ Some l) → given (slice_get rings n) None g ≡ Some l
    → given (slice_get (changed_at m f rings) n) None g ≡ Some l
first_after rings m n f g l k h =
    by_given (λ (rs : List Ring). given (slice_get rs n) None g ≡ Some l) (slice_get rings m) rings (λ x. slice_set rings m (f x)) h
    (λ x q. set_first rings m n f g l x q k h)

looks_first : (side by : RingSide) (r : Ring) (l : RingLabel) → first_for side r ≡ Some l → first_for side (looks by r) ≡ Some l
looks_first first_side first_side r l h = by_given (λ (t : Ring). first_for first_side t ≡ Some l) (first_for first_side r) _ _ h (λ x q. h)
looks_first first_side second_side r l h = by_given (λ (t : Ring). first_for first_side t ≡ Some l) (first_for second_side r) _ _ h (λ x q. h)
looks_first second_side first_side r l h = by_given (λ (t : Ring). first_for second_side t ≡ Some l) (first_for first_side r) _ _ h (λ x q. h)
looks_first second_side second_side r l h = by_given (λ (t : Ring). first_for second_side t ≡ Some l) (first_for second_side r) _ _ h (λ x q. h)

sure_first : (need : ℕ) (side by : RingSide) (r : Ring) (l : RingLabel) → first_for side r ≡ Some l → first_for side (makes_sure need by r) ≡ Some l
sure_first need side by r l h =
    either (λ (t : Ring). first_for side t ≡ Some l) (is_spent by r || nat_le need (free by r)) r (looks by r) (λ q. h)
    (λ q. looks_first side by r l h)

push_first : (ls : List RingLabel) (x l : RingLabel) → slice_get ls 0 ≡ Some l → slice_get (ls ++ x ∷ []) 0 ≡ Some l
push_first [] x l h = absurd (cc)
push_first (m ∷ ls) x l h = h

puts_first : (side by : RingSide) (label : Label) (r : Ring) (l : RingLabel) → first_for side r ≡ Some l → first_for side (puts by label r) ≡ Some l
puts_first first_side first_side label r l h = h
puts_first first_side second_side label r l h = push_first r.by_second.waiting _ l h
puts_first second_side first_side label r l h = push_first r.by_first.waiting _ l h
puts_first second_side second_side label r l h = h

-- what stands first for a side stays so while any side of any ring looks or puts
pub first_looked : (at by : RingEnd) (l : RingLabel) (rings : List Ring) → given (slice_get rings at.ring) None (first_for at.side) ≡ Some l
    → given (slice_get (changed_at by.ring (looks by.side) rings) at.ring) None (first_for at.side) ≡ Some l
first_looked at by l rings h = first_after rings by.ring at.ring (looks by.side) (first_for at.side) l (λ r k. looks_first at.side by.side r l k) h

pub first_sure : (need : ℕ) (at by : RingEnd) (l : RingLabel) (rings : List Ring)
    → given (slice_get rings at.ring) None (first_for at.side) ≡ Some l
    → given (slice_get (changed_at by.ring (makes_sure need by.side) rings) at.ring) None (first_for at.side) ≡ Some l
first_sure need at by l rings h =
    first_after rings by.ring at.ring (makes_sure need by.side) (first_for at.side) l (λ r k. sure_first need at.side by.side r l k) h

pub first_put : (label : Label) (at by : RingEnd) (l : RingLabel) (rings : List Ring)
    → given (slice_get rings at.ring) None (first_for at.side) ≡ Some l
    → given (slice_get (changed_at by.ring (puts by.side label) rings) at.ring) None (first_for at.side) ≡ Some l
first_put label at by l rings h =
    first_after rings by.ring at.ring (puts by.side label) (first_for at.side) l (λ r k. puts_first at.side by.side label r l k) h
