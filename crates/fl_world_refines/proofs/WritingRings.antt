-- A write onto a ring: a binding's own, or that of the first link on a circuit's way.
use Rattle.std.proofs.Common.{◌≡◌, inl, inr, refl, sym, ◌∙◌, ap, subst, ℕ, Some, None, slice_get}
use Rattle.std.specs.Prelude.{Result, Ok, Err}
use Rattle.fl_base.specs.declared.fragment.Frag.{Frag}
use Rattle.fl_base.specs.declared.identity.EndId.{EndId}
use Rattle.fl_base.specs.Control.{bare}
use Rattle.fl_base.specs.Ends.{other}
use Rattle.fl_link.specs.Looks.{Look, placed, no_room, spent}
use Rattle.fl_ring.specs.Duo.{TheDuo, DuoPuts}
use Rattle.fl_ring.specs.Side.{SidePuts}
use Rattle.fl_ring.specs.declared.duo_side.DuoSide.{DuoSide}
use Rattle.fl_ring.specs.declared.one_duo.WhichSide.{WhichSide}
use Rattle.fl_endpoint.specs.declared.fault.EndFault.{EndFault}
use Rattle.fl_endpoint.specs.declared.fault.EndFault.TheVariants.{Spent, NotBound}
use Rattle.fl_endpoint.specs.declared.answer.WriteAnswer.{WriteAnswer}
use Rattle.fl_endpoint.specs.declared.answer.WriteAnswer.TheVariants.{Written, Full, Nothing}
use Rattle.fl_endpoint.specs.Faults.{fault_number}
use Rattle.fl_endpoint.specs.View.{TheEnd}
use Rattle.fl_endpoint.specs.Events.{Writes}
use Rattle.fl_core.specs.BoardView.{with_end}
use Rattle.fl_core.specs.View.{TheCore, with_board}
use Rattle.fl_core.specs.Ends.{woken_by}
use Rattle.fl_model.specs.Calls.{Planned}
use Rattle.fl_model.specs.Events.{Answer, nothing, full, written, refused}
use Rattle.fl_model.specs.Rings.{Label, next_of, Ring, RingEnd, Room, there_is_room, no_room as none_free, spent as used_up, makes_sure, puts, for_data}
use Rattle.fl_model.specs.Ends.{Direction, written_of, writes, End}
use Rattle.fl_model.specs.State.{State, answers, end_in, outlet_by, ring_side, change_out, change_ring, ring_makes_sure}
use Rattle.fl_model.specs.Sending.{next_fragment, writes_to, writes_fragment, outlet_room}
use Rattle.fl_world_refines.specs.Fragments.{Streams, frag_of}
use Rattle.fl_world_refines.specs.FragmentLaws.{CallsAreCarried}
use Rattle.fl_world_refines.specs.Rings.{which_of, RingShows}
use Rattle.fl_world_refines.specs.RingLaws.{AllCarried, IsPutOf, PutAgrees}
use Rattle.fl_world_refines.specs.Ends.{EndShows, machine_end}
use Rattle.fl_world_refines.specs.EndLaws.{with_out, WriteAgrees, HasMore}
use Rattle.fl_world_refines.specs.View.{TheWorld, ring_at, which_at, with_core, with_ring}
use Rattle.fl_world_refines.specs.ShowsState.{Carries, ShowsState, Shows}
use Rattle.fl_world_refines.specs.Lending.{answer_at, OverSide}
use Rattle.fl_world_refines.specs.Sending.{IsWritten, WritesWith}
use Rattle.fl_world_refines.specs.Laws.{Agrees}
use Rattle.fl_world_refines.proofs.Frames.{Stands}
use Rattle.fl_world_refines.proofs.WritingPieces.{agreed, same_ring_there, carried_before, end_keeps}
use Rattle.fl_world_refines.proofs.WritingStreams.{streams_agree, PutsOn, puts_on}
use Rattle.fl_world_refines.proofs.WritingMachine.{found_writes, unbound_writes, idle_writes, goes_writes, ring_room_is, ring_put_is, writes_more, parts_stay, bound_not}
use Rattle.fl_world_refines.proofs.WritingEnds.{WriteLaws, all_carried, its_write, write_agrees, wrote_core, core_still}

-- the side that is lent is this side of this ring of the machine
pub record IsSide (m : ℕ) (at : RingEnd) : Type 0 where
  pub ring : ring_at m ≡ at.ring
  pub which : which_at m ≡ which_of at.side

-- what is put there
pub side_puts : (m : ℕ) (at : RingEnd) (side left : DuoSide) (ring : TheDuo) (look : Look) → IsSide m at → side.which ≡ which_at m → side.duo.now ≡ ring
    → SidePuts side look left → DuoPuts (which_of at.side) ring look left.duo.now
side_puts m at side left ring look is which now a =
    subst (λ (d : TheDuo). DuoPuts (which_of at.side) d look left.duo.now) now
    (subst (λ (x : WhichSide). DuoPuts x side.duo.now look left.duo.now) (which ∙ is.which) a.1)

-- all that a ring carries is calls' fragments
pub ring_carried : (s : State) (n : ℕ) (streams : Streams) → CallsAreCarried s → Carries s n streams → AllCarried streams
ring_carried s n streams all c = elim c [
  | inl (a, b, link, p, q, e) ↦ subst AllCarried (sym e) (all.between a b)
  | inr (m, b, p, q, e) ↦ subst AllCarried (sym e) all.off_links
]

-- ---- where an end puts onto a ring

pub record RingWrite (w : TheWorld) (s : State) (e : EndId) (n place : ℕ) (h : Stands w s e n place) (at : RingEnd) : Type 0 where
  pub outlet : outlet_by s e.side h.binding.back ≡ Some (ring_side at)
  pub puts_on : PutsOn s e h.binding h.interface at
  pub duo : TheDuo
  pub duo_is : slice_get w.rings at.ring ≡ Some duo

-- which puts the next label of the end
abbrev its_label : (w : TheWorld) (s : State) (e : EndId) (n place : ℕ) → Stands w s e n place → Label
its_label w s e n place h = next_of e (written_of (end_in e.side h.binding).out)

put_agrees : (law : WriteLaws) (w : TheWorld) (s : State) (z : State) (v : TheWorld) (at : RingEnd) (e : EndId) (k : ℕ) (r : Ring) (duo left : TheDuo) (look : Look) (streams : Streams)
    → Shows w s → ShowsState v z → v.rings ≡ w.rings → z.rings ≡ s.rings → slice_get s.rings at.ring ≡ Some r → slice_get w.rings at.ring ≡ Some duo
    → Carries z at.ring streams → IsPutOf streams (next_of e k) look → DuoPuts (which_of at.side) duo look left → PutAgrees streams at.side (next_of e k) r look left
put_agrees law w s z v at e k r duo left look streams shown showing p q there here c is a =
    law.ring_puts streams at.side (next_of e k) r duo left look
    (showing.rings.each at.ring r duo streams (ap (λ rs. slice_get rs at.ring) q ∙ there) (ap (λ ds. slice_get ds at.ring) p ∙ here) c)
    (shown.sound.counts at.ring r there) (shown.sound.sizes at.ring r there) tt is a

pub none_put : (streams : Streams) (label : Label) → IsPutOf streams label no_room
none_put streams label f q = absurd (cc)

pub spent_put : (streams : Streams) (label : Label) → IsPutOf streams label spent
spent_put streams label f q = absurd (cc)

same_placed : (f g : Frag) → placed f ≡ placed g → f ≡ g
same_placed f g q = cc

some_same : (f g : Frag) → Some f ≡ Some g → f ≡ g
some_same f g q = cc

-- ---- by what the write came to

-- the side has looked, and there is no room
no_room_agrees : (law : WriteLaws) (w w2 : TheWorld) (s : State) (a : Answer) (e : EndId) (n place : ℕ) (h : Stands w s e n place) (at : RingEnd) (x : RingWrite w s e n place h at)
    (left : TheDuo) (room : Room) (answer : Answer) → Shows w s
    → HasMore h.interface (end_in e.side h.binding) → outlet_room e (ring_side at) (ring_makes_sure for_data at s) ≡ room
    → ((z : State) → writes_to e h.interface (end_in e.side h.binding).out (ring_side at) room z ≡ answers z answer)
    → ((streams : Streams) → Carries s at.ring streams → RingShows streams (makes_sure for_data at.side x.puts_on.ring) left)
    → a ≡ answer → w2 ≡ with_ring w at.ring left → Agrees (writes_fragment e s) a w2
no_room_agrees law w w2 s a e n place h at x left room answer shown more none to shows is now =
    let looked : State = ring_makes_sure for_data at s in
    agreed (writes_fragment e s) (ring_makes_sure for_data at s) answer a (with_ring w at.ring left) w2
    (found_writes e h.binding h.interface s h.binding_is h.interface_is
    ∙ goes_writes e h.interface h.binding (end_in e.side h.binding) s (ring_side at) more.0 more.1 x.outlet
    ∙ ap (λ (r : Room). writes_to e h.interface (end_in e.side h.binding).out (ring_side at) r looked) none
    ∙ to looked)
    is now (law.ring_frame w s at.ring x.puts_on.ring (makes_sure for_data at.side) left shown.showing x.puts_on.ring_is shows)

-- nothing is written
nothing_agrees : (w w2 : TheWorld) (s : State) (a answer : Answer) (e : EndId) (n place : ℕ) (h : Stands w s e n place) → Shows w s
    → ((z : State) → writes_fragment e s ≡ answers s answer) → a ≡ answer → w2 ≡ w → Agrees (writes_fragment e s) a w2
nothing_agrees w w2 s a answer e n place h shown is q same = agreed (writes_fragment e s) s answer a w w2 (is s) q same shown.showing

pub put_of : (streams : Streams) (label : Label) (f : Frag) → frag_of streams label ≡ Some f → bare f ≡ f → IsPutOf streams label (placed f)
put_of streams label f there plain g q = there ∙ ap (λ (x : Frag). Some x) (sym plain ∙ ap bare (same_placed f g q))

-- the next fragment is there, as it goes
record IsNext (s : State) (at : RingEnd) (label : Label) (streams : Streams) (f : Frag) : Type 0 where
  pub carries : Carries s at.ring streams
  pub is : frag_of streams label ≡ Some f
  pub is_bare : bare f ≡ f

-- the fragment is written
written_agrees : (law : WriteLaws) (w w2 : TheWorld) (s : State) (a : Answer) (e : EndId) (n place : ℕ) (h : Stands w s e n place) (at : RingEnd) (x : RingWrite w s e n place h at)
    (left : TheDuo) (t : TheEnd) (f : Frag) (number count : ℕ) (k : TheCore) → Shows w s
    → HasMore h.interface (end_in e.side h.binding)
    → IsNext s at (its_label w s e n place h) x.puts_on.streams f
    → DuoPuts (which_of at.side) x.duo (placed f) left
    → (writes h.interface (end_in e.side h.binding).out there_is_room).answer ≡ written number count
    → EndShows h.interface (with_out (λ d. (writes h.interface d there_is_room).direction) (end_in e.side h.binding)) (end_in (other e.side) h.binding).out t
    → a ≡ written number count → k ≡ with_board h.core (with_end h.core.board place h.at t) → w2 ≡ with_ring (with_core w n k) at.ring left
    → Agrees (writes_fragment e s) a w2
written_agrees law w w2 s a e n place h at x left t f number count k shown more next put answer shows is core now =
    let i : Planned = h.interface in
    let d : Direction = (end_in e.side h.binding).out in
    let r : Ring = x.puts_on.ring in
    let label : Label = its_label w s e n place h in
    let out : Direction → Direction = λ y. (writes i y there_is_room).direction in
    let turn : End → End = λ y. record y { out = out y.out } in
    let looked : State = ring_makes_sure for_data at s in
    let s1 : State = change_out e out s in
    let w1 : TheWorld = with_core w n (with_board h.core (with_end h.core.board place h.at t)) in
    let z : State = change_ring at.ring (λ y. puts at.side label (makes_sure for_data at.side y)) s1 in
    let keeps = writes_more i d there_is_room in
    let same = law.labels s s1 (end_keeps s e turn h.binding h.binding_is keeps) in
    let p1 : ShowsState w1 s1 = law.end_frame w s e n place h turn t shown.showing (record {
      seat = refl;
      queue = refl;
      accepted = keeps;
      parts = (parts_stay s e h.binding i law.first law.others shown.sound h.binding_is h.interface_is).writing there_is_room;
      silent = bound_not (end_in e.side h.binding) more.0;
    }) shows in
    let first = put_agrees law w s s w at e (written_of d) r x.duo left (placed f) x.puts_on.streams shown shown.showing refl refl x.puts_on.ring_is x.duo_is
    next.carries (put_of x.puts_on.streams label f next.is next.is_bare) put in
    agreed (writes_fragment e s) z (written number count) a (with_ring w1 at.ring left) w2
    (found_writes e h.binding i s h.binding_is h.interface_is
    ∙ goes_writes e i h.binding (end_in e.side h.binding) s (ring_side at) more.0 more.1 x.outlet
    ∙ ap (λ (y : Room). writes_to e i d (ring_side at) y looked) (ring_room_is e at s r x.puts_on.ring_is ∙ first.0)
    ∙ ap (λ (y : State). answers y (writes i d there_is_room).answer) (ring_put_is e at label out s r x.puts_on.ring_is)
    ∙ ap (answers z) answer)
    is
    (now ∙ ap (λ (c : TheCore). with_ring (with_core w n c) at.ring left) core)
    (law.ring_frame w1 s1 at.ring r (λ y. puts at.side label (makes_sure for_data at.side y)) left p1 x.puts_on.ring_is
    (λ streams c.
    let was = carried_before s e turn h.binding at.ring streams h.binding_is same c in
    let agree = streams_agree s at.ring was.streams x.puts_on.streams shown.sound.links shown.sound.owners was.carries next.carries label in
    (put_agrees law w s s1 w1 at e (written_of d) r x.duo left (placed f) streams shown p1 refl refl x.puts_on.ring_is x.duo_is
    c (put_of streams label f (was.go_on label f (agree ∙ next.is)) next.is_bare) put).1))

its_next : (law : WriteLaws) (w : TheWorld) (s : State) (e : EndId) (n place : ℕ) (h : Stands w s e n place) (at : RingEnd) (x : RingWrite w s e n place h at)
    (f : Frag) → Shows w s → HasMore h.interface (end_in e.side h.binding) → next_fragment h.interface (end_in e.side h.binding) ≡ Some f
    → IsNext s at (its_label w s e n place h) x.puts_on.streams f
its_next law w s e n place h at x f shown more q =
    let is : frag_of x.puts_on.streams (its_label w s e n place h) ≡ Some f = x.puts_on.stands more.0 ∙ q in
    record {
      carries = x.puts_on.carries;
      is = is;
      is_bare = (ring_carried s at.ring x.puts_on.streams (all_carried law w s shown) x.puts_on.carries e (written_of (end_in e.side h.binding).out) f is).is_bare;
    }

-- ---- the write

-- the world after it
record After (w w2 : TheWorld) (s : State) (e : EndId) (n place : ℕ) (h : Stands w s e n place) (at : RingEnd) (t : TheEnd) (left : TheDuo) : Type 0 where
  pub core : TheCore
  pub core_is : core ≡ with_board h.core (with_end h.core.board place h.at t)
  pub now : w2 ≡ with_ring (with_core w n core) at.ring left

still_there : (w w2 : TheWorld) (s : State) (e : EndId) (n place : ℕ) (h : Stands w s e n place) (at : RingEnd) (t : TheEnd) (left : TheDuo)
    → After w w2 s e n place h at t left → t ≡ h.at.end → w2 ≡ with_ring w at.ring left
still_there w w2 s e n place h at t left after same =
    after.now ∙ ap (λ (v : TheWorld). with_ring v at.ring left) (core_still w s e n place h after.core t after.core_is same)

by_result : (law : WriteLaws) (w w2 : TheWorld) (s : State) (a : Answer) (e : EndId) (n place : ℕ) (h : Stands w s e n place) (at : RingEnd) (x : RingWrite w s e n place h at)
    (m : ℕ) (side left : DuoSide) (t : TheEnd) (r : Result WriteAnswer EndFault) → Shows w s → IsSide m at → side.which ≡ which_at m → side.duo.now ≡ x.duo
    → Writes SidePuts h.at.end side r t left
    → WriteAgrees SidePuts (machine_end h.interface e.side h.binding) side r t left
    → IsWritten r a → After w w2 s e n place h at t left.duo.now → Agrees (writes_fragment e s) a w2
by_result law w w2 s a e n place h at x m side left t (Ok (Written number count)) shown is which duo wrote g told after =
    written_agrees law w w2 s a e n place h at x left.duo.now t g.1.0 number count after.core shown g.0 (its_next law w s e n place h at x g.1.0 shown g.0 g.1.1)
    (side_puts m at side left x.duo (placed g.1.0) is which duo g.1.2) g.2 g.3 told after.core_is after.now
by_result law w w2 s a e n place h at x m side left t (Ok Full) shown is which duo wrote g told after =
    let put = side_puts m at side left x.duo no_room is which duo g.1 in
    let d : Direction = (end_in e.side h.binding).out in
    let agrees : (streams : Streams) → Carries s at.ring streams → PutAgrees streams at.side (its_label w s e n place h) x.puts_on.ring no_room left.duo.now =
    λ streams c. put_agrees law w s s w at e (written_of d) x.puts_on.ring x.duo left.duo.now no_room streams shown shown.showing refl refl x.puts_on.ring_is x.duo_is c
    (none_put streams (its_label w s e n place h)) put in
    no_room_agrees law w w2 s a e n place h at x left.duo.now none_free full shown g.0
    (ring_room_is e at s x.puts_on.ring x.puts_on.ring_is ∙ (agrees x.puts_on.streams x.puts_on.carries).0)
    (λ z. ap (answers z) g.2) (λ streams c. (agrees streams c).1) told (still_there w w2 s e n place h at t left.duo.now after wrote.3)
by_result law w w2 s a e n place h at x m side left t (Err Spent) shown is which duo wrote g told after =
    let put = side_puts m at side left x.duo spent is which duo g.1 in
    let d : Direction = (end_in e.side h.binding).out in
    let agrees : (streams : Streams) → Carries s at.ring streams → PutAgrees streams at.side (its_label w s e n place h) x.puts_on.ring spent left.duo.now =
    λ streams c. put_agrees law w s s w at e (written_of d) x.puts_on.ring x.duo left.duo.now spent streams shown shown.showing refl refl x.puts_on.ring_is x.duo_is c
    (spent_put streams (its_label w s e n place h)) put in
    no_room_agrees law w w2 s a e n place h at x left.duo.now used_up (refused (fault_number Spent)) shown g.0
    (ring_room_is e at s x.puts_on.ring x.puts_on.ring_is ∙ (agrees x.puts_on.streams x.puts_on.carries).0)
    (λ z. ap (answers z) g.2) (λ streams c. (agrees streams c).1) told (still_there w w2 s e n place h at t left.duo.now after wrote.3)
by_result law w w2 s a e n place h at x m side left t (Ok Nothing) shown is which duo wrote g told after =
    let same : left.duo.now ≡ x.duo = ap (λ (y : DuoSide). y.duo.now) g.2 ∙ duo in
    nothing_agrees w w2 s a nothing e n place h shown
    (λ z. found_writes e h.binding h.interface s h.binding_is h.interface_is ∙ idle_writes e h.interface h.binding (end_in e.side h.binding) s g.0 g.1)
    told (still_there w w2 s e n place h at t left.duo.now after wrote.3 ∙ ap (with_ring w at.ring) same ∙ same_ring_there w at.ring x.duo x.duo_is)
by_result law w w2 s a e n place h at x m side left t (Err NotBound) shown is which duo wrote g told after =
    let same : left.duo.now ≡ x.duo = ap (λ (y : DuoSide). y.duo.now) g.1 ∙ duo in
    nothing_agrees w w2 s a (refused 43) e n place h shown
    (λ z. found_writes e h.binding h.interface s h.binding_is h.interface_is ∙ unbound_writes e h.interface h.binding (end_in e.side h.binding) s g.0)
    told (still_there w w2 s e n place h at t left.duo.now after wrote.2 ∙ ap (with_ring w at.ring) same ∙ same_ring_there w at.ring x.duo x.duo_is)
by_result law w w2 s a e n place h at x m side left t (Err fault) shown is which duo wrote g told after = absurd g

-- a write over a side that is lent
pub ring_write_agrees : (law : WriteLaws) (w w2 : TheWorld) (s : State) (a : Answer) (e : EndId) (n place m : ℕ) (h : Stands w s e n place) (at : RingEnd) → Shows w s
    → outlet_by s e.side h.binding.back ≡ Some (ring_side at) → IsSide m at
    → ((k : TheCore) (r : Result WriteAnswer EndFault) → slice_get w.cores n ≡ Some k → woken_by k place r ≡ None)
    → OverSide w n m (WritesWith SidePuts (answer_at place a)) w2 → Agrees (writes_fragment e s) a w2
ring_write_agrees law w w2 s a e n place m h at shown outlet is none over =
    let r = over.event.0 in
    let wrote = over.event.1 in
    let here : slice_get w.rings at.ring ≡ Some over.ring = ap (λ (k : ℕ). slice_get w.rings k) (sym is.ring) ∙ over.ring_is in
    let x : RingWrite w s e n place h at = record {
      outlet = outlet;
      puts_on = puts_on s e h.binding h.interface at law.next shown.sound h.binding_is h.interface_is outlet;
      duo = over.ring;
      duo_is = here;
    } in
    let its = its_write SidePuts w s e n place h over.before over.after over.side over.left r wrote over.before_is in
    by_result law w w2 s a e n place h at x m over.side over.left wrote.writes.end r shown is over.lent.which over.lent.ring its
    (write_agrees SidePuts law.side_writes w s e n place shown h over.side over.left r wrote.writes.end its) over.event.2
    (record {
      core = over.after;
      core_is = wrote_core SidePuts w s e n place h over.before over.after over.side over.left r wrote over.before_is (none over.before r over.before_is);
      now = over.rest ∙ ap (λ (k : ℕ). with_ring (with_core w n over.after) k over.left.duo.now) is.ring;
    })
