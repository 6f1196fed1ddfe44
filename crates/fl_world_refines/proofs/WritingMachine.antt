-- Writes in the machine, by what holds of the end; and what a sound state says of an end that writes.
use Rattle.std.proofs.Common.{◌≡◌, refl, sym, ◌∙◌, ap, subst, ℕ, ◌≤◌, Bool, true, false, if◌then◌else◌, List, [], ◌∷◌, length, slice_get, Option, Some, None, is_some, arith}
use Rattle.fl_base.specs.declared.identity.Side.{Side}
use Rattle.fl_base.specs.declared.identity.EndId.{EndId}
use Rattle.fl_base.specs.Ends.{peer}
use Rattle.fl_base.specs.Prefix.{IsPrefix}
use Rattle.fl_base.specs.Given.{given}
use Rattle.fl_value_data.specs.Value.{TheCall}
use Rattle.fl_model.specs.Calls.{Planned, total}
use Rattle.fl_model.specs.Events.{nothing, refused}
use Rattle.fl_model.specs.Rings.{Label, Ring, RingEnd, Room, there_is_room, no_room, spent, room, makes_sure, puts, for_data}
use Rattle.fl_model.specs.Ends.{Queue, queue_room, Direction, taken_of, is_busy, passes, goes_on, accepts_waiting, Wrote, writes_by, writes, End, is_bound}
use Rattle.fl_model.specs.State.{Back, local, over_ring, over_route, Binding, State, answers, binding_of, interface_of, end_in, end_of, outlet_by}
use Rattle.fl_model.specs.State.{Outlet, peer_queue, ring_side, change_out, change_ring, ring_makes_sure}
use Rattle.fl_model.specs.Sending.{outlet_room, makes_sure_of, puts_to, writes_to, writes_next, writes_fragment}
use Rattle.fl_model.specs.Sound.{Sound}
use Rattle.fl_model.specs.SoundPlaces.{stations}
use Rattle.fl_world_refines.specs.RingLaws.{room_for_data}
use Rattle.fl_world_refines.specs.EndLaws.{OthersStay, PartsStay}
use Rattle.fl_world_refines.specs.StateLaws.{FirstIsInTurn}
use Rattle.fl_world_refines.proofs.FramesBase.{same_some, end_of_binding}
use Rattle.fl_world_refines.proofs.FramesWhole.{prefix_same}
use Rattle.fl_world_refines.proofs.FramesEnds.{other_twice}
use Rattle.fl_world_refines.proofs.WritingPieces.{changed_here, changed_twice, unless_true, unless_false}

-- ---- what a write comes to

pub found_writes : (e : EndId) (b : Binding) (i : Planned) (s : State) → binding_of s e ≡ Some b → interface_of s b ≡ Some i
    → writes_fragment e s ≡ writes_next e i b (end_in e.side b) s
found_writes e b i s p q =
    ap (λ (o : Option Binding). given o (answers s (refused 92)) λ c. given (interface_of s c) (answers s (refused 92)) λ j. writes_next e j c (end_in e.side c) s) p
    ∙ ap (λ (o : Option Planned). given o (answers s (refused 92)) λ j. writes_next e j b (end_in e.side b) s) q

pub none_writes : (e : EndId) (s : State) → binding_of s e ≡ None → writes_fragment e s ≡ answers s (refused 92)
none_writes e s p =
    ap (λ (o : Option Binding). given o (answers s (refused 92)) λ c. given (interface_of s c) (answers s (refused 92)) λ j. writes_next e j c (end_in e.side c) s) p

pub unbound_writes : (e : EndId) (i : Planned) (b : Binding) (x : End) (s : State) → is_bound x ≡ false → writes_next e i b x s ≡ answers s (refused 43)
unbound_writes e i b x s h = unless_false (is_bound x) _ _ h

pub idle_writes : (e : EndId) (i : Planned) (b : Binding) (x : End) (s : State) → is_bound x ≡ true → is_busy i x.out ≡ false
    → writes_next e i b x s ≡ answers s nothing
idle_writes e i b x s h k = unless_true (is_bound x) _ _ h ∙ unless_false (is_busy i x.out) _ _ k

pub goes_writes : (e : EndId) (i : Planned) (b : Binding) (x : End) (s : State) (o : Outlet) → is_bound x ≡ true → is_busy i x.out ≡ true
    → outlet_by s e.side b.back ≡ Some o
    → writes_next e i b x s ≡ writes_to e i x.out o (outlet_room e o (makes_sure_of o s)) (makes_sure_of o s)
goes_writes e i b x s o h k q =
    unless_true (is_bound x) _ _ h
    ∙ unless_true (is_busy i x.out) _ _ k
    ∙ ap (λ (p : Option Outlet). given p (answers s nothing) λ y. writes_to e i x.out y (outlet_room e y (makes_sure_of y s)) (makes_sure_of y s)) q

-- ---- onto a ring

pub ring_room_is : (e : EndId) (at : RingEnd) (s : State) (r : Ring) → slice_get s.rings at.ring ≡ Some r
    → outlet_room e (ring_side at) (ring_makes_sure for_data at s) ≡ room_for_data at.side r
ring_room_is e at s r q =
    ap (λ (o : Option Ring). given o no_room (room for_data at.side)) (changed_here s.rings at.ring (makes_sure for_data at.side) r q)

-- the end is changed, then the side looks and puts
pub ring_put_is : (e : EndId) (at : RingEnd) (label : Label) (f : Direction → Direction) (s : State) (r : Ring) → slice_get s.rings at.ring ≡ Some r
    → puts_to e (ring_side at) label (change_out e f (ring_makes_sure for_data at s))
    ≡ change_ring at.ring (λ x. puts at.side label (makes_sure for_data at.side x)) (change_out e f s)
ring_put_is e at label f s r q =
    ap (λ (rings : List Ring). record (change_out e f s) { rings = rings })
    (changed_twice s.rings at.ring (makes_sure for_data at.side) (puts at.side label) r q)

-- ---- into a queue

pub queue_room_is : (e : EndId) (s : State) (y : End) (q : Queue) → end_of s (peer e) ≡ Some y → y.queue ≡ Some q
    → outlet_room e peer_queue s ≡ queue_room q
queue_room_is e s y q p r =
    ap (λ (o : Option End). given o no_room λ x. given x.queue no_room queue_room) p
    ∙ ap (λ (o : Option Queue). given o no_room queue_room) r

-- ---- what was accepted stays

accepts_more : (ws : List TheCall) (d : Direction) → IsPrefix d.accepted (accepts_waiting ws d).accepted
accepts_more [] d = prefix_same d.accepted
accepts_more (c ∷ ws) d = (c ∷ [], refl)

by_either : {A : Type 0} (P : A → Type 0) (b : Bool) (x y : A) → P x → P y → P (if b then x else y)
by_either P true x y h k = h
by_either P false x y h k = k

goes_on_more : (i : Planned) (d : Direction) → IsPrefix d.accepted (goes_on i d).accepted
goes_on_more i d =
    by_either (λ (y : Direction). IsPrefix d.accepted y.accepted) (is_busy i d) d (accepts_waiting d.waiting d)
    (prefix_same d.accepted) (accepts_more d.waiting d)

writes_by_more : (i : Planned) (d : Direction) (r : Room) → IsPrefix d.accepted (writes_by i d r).direction.accepted
writes_by_more i d there_is_room = goes_on_more i (passes 0 d)
writes_by_more i d no_room = prefix_same d.accepted
writes_by_more i d spent = prefix_same d.accepted

pub writes_more : (i : Planned) (d : Direction) (r : Room) → IsPrefix d.accepted (writes i d r).direction.accepted
writes_more i d r =
    by_either (λ (y : Wrote). IsPrefix d.accepted y.direction.accepted) (is_busy i d) (writes_by i d r) (record { direction = d; answer = nothing })
    (writes_by_more i d r) (prefix_same d.accepted)

-- ---- stations, and what was taken

two_stations : (s : State) (n : ℕ) (b : Binding) (back : Back) → Sound s → slice_get s.bindings n ≡ Some b → b.back ≡ back → 2 ≤ stations back
two_stations s n b local sound q r = omega arith
two_stations s n b (over_ring m) sound q r = omega arith
two_stations s n b (over_route route) sound q r =
    let some = (sound.routes n route (record { binding = b; there = q; back = r })).some in
    omega (arith, some)

pub long_enough : (s : State) (e : EndId) (b : Binding) → Sound s → binding_of s e ≡ Some b → 2 ≤ length (end_in e.side b).out.passed
long_enough s e b sound q =
    let k = sound.ends e (end_in e.side b) (end_of_binding s e b q) in
    let same : k.binding ≡ b = same_some (binding_of s e) k.binding b k.there q in
    let wide : length (end_in e.side b).out.passed ≡ stations b.back = k.passed ∙ ap (λ (x : Binding). stations x.back) same in
    let two = two_stations s e.binding b b.back sound q refl in
    omega (arith, wide, two)

pub few_taken : (s : State) (e : EndId) (b : Binding) (i : Planned) → FirstIsInTurn → Sound s → binding_of s e ≡ Some b → interface_of s b ≡ Some i
    → taken_of (end_in e.side b).out ≤ total i (end_in e.side b).out.accepted
few_taken s e b i law sound p q =
    let turn = law s sound.ends sound.routes sound.labels sound.ways sound.counted in
    subst (λ (side : Side). taken_of (end_in side b).out ≤ total i (end_in side b).out.accepted) (other_twice e.side)
    (turn.few (peer e) b i (record { binding = p; interface = q }))

pub parts_stay : (s : State) (e : EndId) (b : Binding) (i : Planned) → FirstIsInTurn → OthersStay → Sound s → binding_of s e ≡ Some b → interface_of s b ≡ Some i
    → PartsStay i (end_in e.side b).out
parts_stay s e b i first others sound p q = others i (end_in e.side b).out (long_enough s e b sound p) (few_taken s e b i first sound p q)

-- ---- bound ends

pub bound_not : {P : Type 0} (x : End) → is_bound x ≡ true → x.circuit ≡ None → P
bound_not {P} x h q = absurd (let e : false ≡ true = sym (ap is_some q) ∙ h in cc)
