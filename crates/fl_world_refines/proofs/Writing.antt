-- A write, by where the end is and how it is wired, agrees with the machine's.
use Rattle.std.proofs.Common.{◌≡◌, inl, inr, refl, sym, ◌∙◌, ap, subst, ℕ, ◌+◌, ◌*◌, ◌%◌, ◌==◌, false, if◌then◌else◌, Option, Some, None, is_some, slice_get, arith}
use Rattle.std.specs.Prelude.{Result, Ok, Err}
use Rattle.fl_base.specs.declared.identity.Side.{Side}
use Rattle.fl_base.specs.declared.identity.EndId.{EndId}
use Rattle.fl_base.specs.Given.{given}
use Rattle.fl_endpoint.specs.declared.fault.EndFault.{EndFault}
use Rattle.fl_endpoint.specs.declared.answer.WriteAnswer.{WriteAnswer}
use Rattle.fl_endpoint.specs.declared.answer.WriteAnswer.TheVariants.{Written, Full, Nothing}
use Rattle.fl_core.specs.declared.wiring.EndWiring.{EndWiring}
use Rattle.fl_core.specs.declared.wiring.EndWiring.TheVariants.{Queues, Ring as OverRing, Circuit}
use Rattle.fl_core.specs.declared.wiring.WiredEnd.{WiredEnd}
use Rattle.fl_core.specs.declared.wiring.Outlet.{Outlet}
use Rattle.fl_core.specs.declared.wiring.Outlet.TheVariants as outlet
use Rattle.fl_core.specs.View.{TheCore, outlet_by as outlet_for, outlet_of, joined_by as joined_for}
use Rattle.fl_core.specs.Ends.{woken_by}
use Rattle.fl_model.specs.Events.{Answer, refused}
use Rattle.fl_model.specs.Rings.{RingSide, first_side, second_side, RingEnd}
use Rattle.fl_model.specs.Ends.{End, is_bound}
use Rattle.fl_model.specs.State.{Back, local, over_ring, over_route, State, end_in, own_ring, outlet_by, ring_side, side_of}
use Rattle.fl_model.specs.Sending.{writes_fragment}
use Rattle.fl_world_refines.specs.Rings.{which_of}
use Rattle.fl_world_refines.specs.View.{TheWorld, number_in, side_number, ring_at, side_in, side_at, which_at, WhereEnd, nowhere, unmade, made, location_of}
use Rattle.fl_world_refines.specs.ShowsState.{IsWiring, Shows}
use Rattle.fl_world_refines.specs.Sending.{WritesOver, WritesBy}
use Rattle.fl_world_refines.specs.Laws.{Agrees, WritesAgree}
use Rattle.fl_world_refines.proofs.Frames.{Stands}
use Rattle.fl_world_refines.proofs.FramesBase.{gets, same_some, not_both}
use Rattle.fl_world_refines.proofs.WritingPieces.{agreed}
use Rattle.fl_world_refines.proofs.WritingStreams.{puts_on}
use Rattle.fl_world_refines.proofs.WritingMachine.{found_writes, none_writes, unbound_writes}
use Rattle.fl_world_refines.proofs.WritingEnds.{WriteLaws}
use Rattle.fl_world_refines.proofs.WritingRings.{IsSide, ring_write_agrees}
use Rattle.fl_world_refines.proofs.WritingQueues.{peer_of, queue_write_agrees}

-- ---- the numbers of sides

ring_of_number : (n : ℕ) (side : RingSide) → ring_at (2 * n + number_in side) ≡ n
ring_of_number n first_side = omega arith
ring_of_number n second_side = omega arith

side_of_number : (n : ℕ) (side : RingSide) → side_in (2 * n + number_in side) ≡ side
side_of_number n first_side =
    let even : (2 * n + 0) % 2 ≡ 0 = omega arith in
    ap (λ (k : ℕ). if k == 0 then first_side else second_side) even
side_of_number n second_side =
    let odd : (2 * n + 1) % 2 ≡ 1 = omega arith in
    ap (λ (k : ℕ). if k == 0 then first_side else second_side) odd

pub side_is : (m : ℕ) (at : RingEnd) → m ≡ side_number at → IsSide m at
side_is m at q = record {
  ring = ap ring_at q ∙ ring_of_number at.ring at.side;
  which = ap which_at q ∙ ap which_of (side_of_number at.ring at.side);
}

some_end : (at at2 : RingEnd) → Some at ≡ Some at2 → at ≡ at2
some_end at at2 q = cc

-- a binding's ring is what its ends put to
own_outlet : (s : State) (side : Side) (back : Back) (at : RingEnd) → own_ring side back ≡ Some at → outlet_by s side back ≡ Some (ring_side at)
own_outlet s side local at q = absurd (cc)
own_outlet s side (over_ring n) at q =
    ap (λ (x : RingEnd). Some (ring_side x)) (some_end (record { ring = n; side = side_of side }) at q)
own_outlet s side (over_route route) at q = absurd (cc)

-- ---- by the wiring

-- over a ring no other end is told
none_woken : (w : TheWorld) (s : State) (e : EndId) (n place : ℕ) (h : Stands w s e n place) → ((k : TheCore) → joined_for k h.wired_end.name h.wired_end.wiring ≡ None)
    → (k : TheCore) (r : Result WriteAnswer EndFault) → slice_get w.cores n ≡ Some k → woken_by k place r ≡ None
none_woken w s e n place h none k (Ok (Written number count)) q =
    let core : h.core ≡ k = same_some (slice_get w.cores n) h.core k h.core_is q in
    ap (λ (o : Option WiredEnd). given o None λ p. joined_for k p.name p.wiring) (ap (λ (c : TheCore). slice_get c.wired_ends place) (sym core) ∙ h.wired_end_is) ∙ none k
none_woken w s e n place h none k (Ok Full) q = refl
none_woken w s e n place h none k (Ok Nothing) q = refl
none_woken w s e n place h none k (Err fault) q = refl

same_outlet : (o p : Outlet) → Some o ≡ Some p → p ≡ o
same_outlet o p q = cc

over_ring_side : (law : WriteLaws) (w w2 : TheWorld) (s : State) (a : Answer) (e : EndId) (n place m : ℕ) (h : Stands w s e n place) (at : RingEnd) → Shows w s
    → outlet_by s e.side h.binding.back ≡ Some (ring_side at) → IsSide m at → ((k : TheCore) → joined_for k h.wired_end.name h.wired_end.wiring ≡ None)
    → WritesOver (outlet.Side m) n place w a w2 → Agrees (writes_fragment e s) a w2
over_ring_side law w w2 s a e n place m h at shown leads is none over = elim over [
  | inl lent ↦ ring_write_agrees law w w2 s a e n place m h at shown leads is (none_woken w s e n place h none) lent
  | inr (stray, nothing) ↦
      let puts = puts_on s e h.binding h.interface at law.next shown.sound h.binding_is h.interface_is leads in
      let there = gets s.rings w.rings at.ring puts.ring shown.showing.rings.count puts.ring_is in
      not_both (slice_get w.rings at.ring) there.0 (ap (λ (k : ℕ). slice_get w.rings k) (sym is.ring) ∙ stray) there.1
]

by_wiring : (law : WriteLaws) (w w2 : TheWorld) (s : State) (a : Answer) (e : EndId) (n place : ℕ) (h : Stands w s e n place) (wiring : EndWiring) (o : Outlet) → Shows w s
    → h.wired_end.wiring ≡ wiring → IsWiring w h.core s e h.binding wiring → outlet_for h.core.link_sides wiring ≡ Some o → WritesOver o n place w a w2 → Agrees (writes_fragment e s) a w2
by_wiring law w w2 s a e n place h (Queues out from) o shown q wired leads over =
    let is : WritesOver (outlet.Queue out) n place w a w2 = subst (λ (p : Outlet). WritesOver p n place w a w2) (same_outlet (outlet.Queue out) o leads) over in
    let x = peer_of w s e n place h out from shown q in
    elim is [
      | inl lent ↦ queue_write_agrees law w w2 s a e n place out from h x shown q lent
      | inr (stray, nothing) ↦ not_both (slice_get w.queues out) x.there stray x.there_is
    ]
by_wiring law w w2 s a e n place h (OverRing m) o shown q wired leads over =
    over_ring_side law w w2 s a e n place m h wired.0 shown (own_outlet s e.side h.binding.back wired.0 wired.1) (side_is m wired.0 wired.2)
    (λ k. ap (joined_for k h.wired_end.name) q)
    (subst (λ (p : Outlet). WritesOver p n place w a w2) (same_outlet (outlet.Side m) o leads) over)
by_wiring law w w2 s a e n place h (Circuit link arrivals) o shown q wired leads over =
    let m = wired.0.0 in
    let there : Some (outlet.Side m) ≡ Some o = ap (λ (x : Option ℕ). given x None λ side. Some (outlet.Side side)) (sym wired.0.1) ∙ leads in
    over_ring_side law w w2 s a e n place m h (side_at m) shown wired.0.2 (record { ring = refl; which = refl })
    (λ k. ap (joined_for k h.wired_end.name) q)
    (subst (λ (p : Outlet). WritesOver p n place w a w2) (same_outlet (outlet.Side m) o there) over)

-- ---- by where the end is

is_unbound : (x : End) → x.circuit ≡ None → is_bound x ≡ false
is_unbound x q = ap is_some q

by_location : (law : WriteLaws) (w w2 : TheWorld) (s : State) (a : Answer) (e : EndId) (location : WhereEnd) → Shows w s → location_of w e ≡ location → WritesBy location w a w2
    → Agrees (writes_fragment e s) a w2
by_location law w w2 s a e nowhere shown q event =
    agreed (writes_fragment e s) s (refused 92) a w w2 (none_writes e s (law.finds_none w s e shown.showing q)) event.0 event.1 shown.showing
by_location law w w2 s a e unmade shown q event =
    let k = law.finds_unmade w s e shown q in
    let none : (end_in e.side k.binding).circuit ≡ None = ap (λ (side : Side). (end_in side k.binding).circuit) k.server ∙ k.circuit in
    agreed (writes_fragment e s) s (refused 43) a w w2
    (found_writes e k.binding k.interface s k.binding_is k.interface_is
    ∙ unbound_writes e k.interface k.binding (end_in e.side k.binding) s (is_unbound (end_in e.side k.binding) none))
    event.0 event.1 shown.showing
by_location law w w2 s a e (made n place) shown q event =
    let h = law.finds_made w s e n place shown q in
    let has = event.1 in
    let core : has.core ≡ h.core = same_some (slice_get w.cores n) has.core h.core has.core_is h.core_is in
    let leads : outlet_for h.core.link_sides h.wired_end.wiring ≡ Some event.0
    = ap (λ (o : Option WiredEnd). given o None λ p. outlet_for h.core.link_sides p.wiring) (sym h.wired_end_is) ∙ ap (λ (c : TheCore). outlet_of c place) (sym core) ∙ has.outlet_is in
    by_wiring law w w2 s a e n place h h.wired_end.wiring event.0 shown refl h.wiring leads event.2

pub writes_agree : WriteLaws → WritesAgree
writes_agree law e w w2 s a shown event = by_location law w w2 s a e (location_of w e) shown refl event
