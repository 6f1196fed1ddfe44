-- A turn of a channel whose end takes from the binding's own ring: pending, or polled.
use Rattle.std.proofs.Common.{◌≡◌, inl, inr, refl, sym, ◌∙◌, ap, subst, ℕ, true, false, List, [], ◌∷◌, slice_get, Option, Some, None}
use Rattle.std.specs.Prelude.{Result, Ok, Err}
use Rattle.fl_base.specs.declared.fragment.Frag.{Frag}
use Rattle.fl_base.specs.declared.identity.Side.{Side}
use Rattle.fl_base.specs.declared.identity.Side.TheVariants.{Client, Server}
use Rattle.fl_base.specs.declared.identity.EndId.{EndId}
use Rattle.fl_base.specs.Ends.{other, peer}
use Rattle.fl_base.specs.Given.{given}
use Rattle.fl_hop.proofs.Lists.{set_same}
use Rattle.fl_lists.specs.declared.place.Place.{Place}
use Rattle.fl_lists.specs.declared.place.Place.TheVariants.{Idle, Polled, Pending}
use Rattle.fl_lists.specs.ThreeLists.{ThreeLists}
use Rattle.fl_value_data.specs.Value.{call_of}
use Rattle.fl_link.specs.Looks.{Look, saw, saw_ack, found, found_ack, missed}
use Rattle.fl_ring.specs.Duo.{TheDuo, DuoTakes}
use Rattle.fl_ring.specs.Side.{SideTakes}
use Rattle.fl_ring.specs.declared.duo_side.DuoSide.{DuoSide}
use Rattle.fl_ring.specs.declared.one_duo.WhichSide.{WhichSide}
use Rattle.fl_endpoint.specs.declared.fault.EndFault.{EndFault}
use Rattle.fl_endpoint.specs.declared.fault.EndFault.TheVariants.{Wire as WireFaulty}
use Rattle.fl_endpoint.specs.declared.answer.ReceiveAnswer.{ReceiveAnswer}
use Rattle.fl_endpoint.specs.declared.answer.ReceiveAnswer.TheVariants as receive
use Rattle.fl_endpoint.specs.View.{TheEnd}
use Rattle.fl_endpoint.specs.Events.{Receives}
use Rattle.fl_core.specs.declared.kind.ChannelKind.TheVariants as kind
use Rattle.fl_core.specs.declared.turn_answer.TurnAnswer.{TurnAnswer}
use Rattle.fl_core.specs.declared.turn_answer.TurnAnswer.TheVariants.{Handle, Part, Ready, Quiet, Full, Nothing, Refused}
use Rattle.fl_core.specs.BoardView.{TheBoard, with_lists}
use Rattle.fl_core.specs.BoardTurns.{WaitsIn, Gives, Examines, lent, moment, put_off}
use Rattle.fl_core.specs.View.{with_board}
use Rattle.fl_model.specs.Events.{DispatcherId, Answer, full, ready, quiet}
use Rattle.fl_model.specs.Rings.{Label, next_of, says, acknowledges, RingLabel, Half, Ring, RingSide, first_side, second_side, RingEnd, written_by, read_by, with_halves, first_for, knows, looks, takes}
use Rattle.fl_model.specs.Ends.{takes_one, Taken, whole, a_part, comes_to, replies, holds_back}
use Rattle.fl_model.specs.State.{over_ring, State, answers, end_in, end_of, own_ring, first_on, side_of, change_ring}
use Rattle.fl_model.specs.Taking.{Chosen, chosen, takes_next, taken_answer, takes_label, goes_back, gives, comes_off, finds, examines}
use Rattle.fl_model.specs.Standing.{labels_of, ring_from}
use Rattle.fl_model.specs.SoundLabels.{MayStandFrom}
use Rattle.fl_model_laws.proofs.Small.{first_of}
use Rattle.fl_model_laws.proofs.Rings.{Counted, looks_counted}
use Rattle.fl_world_refines.specs.Fragments.{Streams, calls_off_links}
use Rattle.fl_world_refines.specs.Rings.{which_of, RingShows}
use Rattle.fl_world_refines.specs.Ends.{EndShows, machine_end}
use Rattle.fl_world_refines.specs.EndLaws.{IsNextAt, ReceiveAgrees}
use Rattle.fl_world_refines.specs.RingLaws.{is_data, TakeAgrees}
use Rattle.fl_world_refines.specs.StateLaws.{EndIn}
use Rattle.fl_world_refines.specs.View.{TheWorld, with_core, with_ring}
use Rattle.fl_world_refines.specs.ShowsState.{Carries, Shows}
use Rattle.fl_world_refines.specs.Taking.{turn_answer}
use Rattle.fl_world_refines.specs.Laws.{Agrees}
use Rattle.fl_world_refines.proofs.FramesBase.{same_some, not_both, end_of_binding}
use Rattle.fl_world_refines.proofs.WritingPieces.{agreed, changed_is, changed_twice, same_end_there, same_ring_there}
use Rattle.fl_world_refines.proofs.WritingRings.{ring_carried}
use Rattle.fl_world_refines.proofs.TurningShowings.{TurnLaws, turn_carried, DueAt, Sided, unsided, lists_change, take_change}
use Rattle.fl_world_refines.proofs.TurningMachine.{gives_held, gives_ring, label_taken, examines_on, examines_found, first_in, listed_by}
use Rattle.fl_world_refines.proofs.TurningQueues.{MayReceive, turned_board}

-- ---- the ring

pub record OwnRing (w : TheWorld) (s : State) (d : DispatcherId) (c place : ℕ) (e : EndId) (u : DueAt w s d c place e) (at : RingEnd) : Type 0 where
  pub own : own_ring e.side u.at.binding.back ≡ Some at
  pub back : u.at.binding.back ≡ over_ring at.ring
  pub side : at.side ≡ side_of e.side
  pub no_queue : (end_in e.side u.at.binding).queue ≡ None
  pub ring : Ring
  pub ring_is : slice_get s.rings at.ring ≡ Some ring
  pub duo : TheDuo
  pub duo_is : slice_get w.rings at.ring ≡ Some duo

-- a step at the side that is lent
pub side_takes : (at : RingEnd) (side left : DuoSide) (duo : TheDuo) (look : Look) → side.which ≡ which_of at.side → side.duo.now ≡ duo → SideTakes side look left
    → DuoTakes (which_of at.side) duo look left.duo.now
side_takes at side left duo look which now a =
    subst (λ (x : TheDuo). DuoTakes (which_of at.side) x look left.duo.now) now
    (subst (λ (x : WhichSide). DuoTakes x side.duo.now look left.duo.now) which a.1)

own_carries : (w : TheWorld) (s : State) (d : DispatcherId) (c place : ℕ) (e : EndId) (u : DueAt w s d c place e) (at : RingEnd) → OwnRing w s d c place e u at
    → Carries s at.ring (calls_off_links s)
own_carries w s d c place e u at o = inr (e.binding, u.at.binding, u.at.binding_is, o.back, refl)

-- what a first step comes to, whatever is carried
first_step : (law : TurnLaws) (w : TheWorld) (s : State) (d : DispatcherId) (c place : ℕ) (e : EndId) (u : DueAt w s d c place e) (at : RingEnd) (o : OwnRing w s d c place e u at)
    (left : TheDuo) (look : Look) (streams : Streams) → Shows w s → Carries s at.ring streams → DuoTakes (which_of at.side) o.duo look left
    → TakeAgrees streams at.side o.ring look left
first_step law w s d c place e u at o left look streams shown carries a =
    law.ring_takes streams at.side o.ring o.duo left look (shown.showing.rings.each at.ring o.ring o.duo streams o.ring_is o.duo_is carries)
    (shown.sound.counts at.ring o.ring o.ring_is) (shown.sound.sizes at.ring o.ring o.ring_is)
    (ring_carried s at.ring streams (turn_carried law s w shown) carries) a

-- and what a step comes to once the ring was looked at
next_step : (law : TurnLaws) (w : TheWorld) (s : State) (d : DispatcherId) (c place : ℕ) (e : EndId) (u : DueAt w s d c place e) (at : RingEnd) (o : OwnRing w s d c place e u at)
    (r : Ring) (duo left : TheDuo) (look : Look) (streams : Streams) → Shows w s → Carries s at.ring streams → r ≡ looks at.side o.ring → RingShows streams r duo
    → DuoTakes (which_of at.side) duo look left → TakeAgrees streams at.side r look left
next_step law w s d c place e u at o r duo left look streams shown carries is shows a =
    let k : Counted r = subst Counted (sym is) (looks_counted at.side o.ring (record {
      counts = shown.sound.counts at.ring o.ring o.ring_is;
      fits = shown.sound.sizes at.ring o.ring o.ring_is;
    })) in
    law.ring_takes streams at.side r duo left look shows k.counts k.fits (ring_carried s at.ring streams (turn_carried law s w shown) carries) a

ring_sided : (law : TurnLaws) (w : TheWorld) (s : State) (d : DispatcherId) (c place : ℕ) (e : EndId) (u : DueAt w s d c place e) (at : RingEnd) (o : OwnRing w s d c place e u at)
    (f : Ring → Ring) (t : TheDuo) → Shows w s → ((streams : Streams) → Carries s at.ring streams → RingShows streams (f o.ring) t)
    → Sided w s d c place e u (with_ring w at.ring t) (change_ring at.ring f s) u.at.core
ring_sided law w s d c place e u at o f t shown shows = record {
  showing = law.ring_frame w s at.ring o.ring f t shown.showing o.ring_is shows;
  core_is = u.at.core_is;
  board = refl;
  place_is = u.at.place_is;
  cores = refl;
  binding = u.at.binding;
  binding_is = u.at.binding_is;
  interface_is = u.at.interface_is;
  seat = refl;
  circuit = refl;
  rules = refl;
  out = refl;
  other = refl;
}

first_there : (s : State) (at : RingEnd) (r : Ring) (o : Option RingLabel) → slice_get s.rings at.ring ≡ Some r → first_for at.side r ≡ o → first_on at s ≡ o
first_there s at r o p q = ap (λ (x : Option Ring). given x None (first_for at.side)) p ∙ q

-- ---- what stands first where the channel is pending

record WasLooked (w : TheWorld) (s : State) (d : DispatcherId) (c place : ℕ) (e : EndId) (u : DueAt w s d c place e) (at : RingEnd) (o : OwnRing w s d c place e u at) : Type 0 where
  pub first : RingLabel
  pub first_is : first_for at.side o.ring ≡ Some first
  pub number : ℕ
  pub label : first.label ≡ next_of (peer e) number
  pub same : looks at.side o.ring ≡ o.ring

across : (side : Side) (r : Ring) → written_by (side_of (other side)) r ≡ read_by (side_of side) r
across Client r = refl
across Server r = refl

first_label : (ls : List RingLabel) (l : RingLabel) → slice_get ls 0 ≡ Some l → slice_get (labels_of ls) 0 ≡ Some l.label
first_label [] l q = absurd (cc)
first_label (m ∷ ls) l q = let k : m ≡ l = cc in ap (λ (x : RingLabel). Some x.label) k

was_looked : (law : TurnLaws) (w : TheWorld) (s : State) (d : DispatcherId) (c place : ℕ) (cs : List ℕ) (e : EndId) (u : DueAt w s d c place e) (at : RingEnd)
    (o : OwnRing w s d c place e u at) → Shows w s → u.machine.lists.pending ≡ c ∷ cs → WasLooked w s d c place e u at o
was_looked law w s d c place cs e u at o shown due =
    let k = shown.sound.looked e u.at.binding at (listed_by w s d c place e u Pending (first_in c cs u.machine.lists.pending due)) o.own in
    let same : k.ring ≡ o.ring = same_some (slice_get s.rings at.ring) k.ring o.ring k.ring_is o.ring_is in
    let first : first_for at.side o.ring ≡ Some k.first = ap (first_for at.side) (sym same) ∙ k.first_is in
    let stands : slice_get (ring_from s (peer e) at.ring) 0 ≡ Some k.first.label
    = ap (λ (x : Option Ring). slice_get (given x [] λ r. labels_of (written_by (side_of (other e.side)) r).waiting) 0) o.ring_is
    ∙ ap (λ (h : Half). slice_get (labels_of h.waiting) 0) (across e.side o.ring)
    ∙ first_label (read_by (side_of e.side) o.ring).waiting k.first (ap (λ (x : RingSide). slice_get (read_by x o.ring).waiting 0) (sym o.side) ∙ first) in
    let may = shown.sound.ways.rings (peer e) u.at.binding at.ring k.first.label u.at.binding_is o.back
    (first_of (ring_from s (peer e) at.ring) 0 k.first.label stands) in
    let whose : k.call.0 ≡ peer e = subst (λ (l : Label). MayStandFrom (peer e) l) k.call.1.1 may in
    record {
      first = k.first;
      first_is = first;
      number = k.call.1.0;
      label = k.call.1.1 ∙ ap (λ (f : EndId). next_of f k.call.1.0) whose;
      same = ap (looks at.side) (sym same) ∙ law.once at.side k.ring k.first k.first_is k.known ∙ same;
    }

-- ---- a pending channel

ring_next : (law : TurnLaws) (w : TheWorld) (s : State) (d : DispatcherId) (c place : ℕ) (e : EndId) (u : DueAt w s d c place e) (at : RingEnd) (o : OwnRing w s d c place e u at)
    (p : DuoSide) → Shows w s → MayReceive w s d c place e u → p.which ≡ which_of at.side → p.duo.now ≡ o.duo
    → IsNextAt SideTakes u.at.interface (end_in (other e.side) u.at.binding).out p
ring_next law w s d c place e u at o p shown may which now f n a =
    let here : EndIn s e u.at.binding u.at.interface = record { binding = u.at.binding_is; interface = u.at.interface_is } in
    may.turn.rings e u.at.binding u.at.interface at o.ring f here o.own o.ring_is
    (first_step law w s d c place e u at o n.duo.now (saw f) (calls_off_links s) shown (own_carries w s d c place e u at o)
    (side_takes at p n o.duo (saw f) which now a)).0

side_receives : (law : TurnLaws) (w : TheWorld) (s : State) (d : DispatcherId) (c place : ℕ) (e : EndId) (u : DueAt w s d c place e) (at : RingEnd) (o : OwnRing w s d c place e u at)
    (p m : DuoSide) (r : Result ReceiveAnswer EndFault) (end : TheEnd) → Shows w s → MayReceive w s d c place e u → p.which ≡ which_of at.side → p.duo.now ≡ o.duo
    → Receives SideTakes u.at.at.end p r end m
    → ReceiveAgrees SideTakes (machine_end u.at.interface e.side u.at.binding) p r end m
side_receives law w s d c place e u at o p m r end shown may which now a =
    law.side_receives (machine_end u.at.interface e.side u.at.binding) p m u.at.at.end end r u.at.shows may.sound may.counted
    may.few may.fits may.some (ring_next law w s d c place e u at o p shown may which now) a

-- where the channel waits then
record WaitsOn (m : DuoSide) (to : Place) (t : DuoSide) : Type 0 where
  pub to_is : to ≡ Polled
  pub same : t ≡ m

waits_on : (m t : DuoSide) (to : Place) → WaitsIn SideTakes kind.Ring m to t → WaitsOn m to t
waits_on m t Polled a = record { to_is = refl; same = a }
waits_on m t Pending a = absurd a
waits_on m t Idle a = absurd a

-- the fragment is taken from the ring
taken_shows : (law : TurnLaws) (w : TheWorld) (s : State) (d : DispatcherId) (c place : ℕ) (e : EndId) (u : DueAt w s d c place e) (at : RingEnd) (o : OwnRing w s d c place e u at)
    (k : WasLooked w s d c place e u at o) (p n m : DuoSide) (f : Frag) → Shows w s → p.which ≡ which_of at.side → p.duo.now ≡ o.duo → SideTakes p (saw f) n → SideTakes n (found f) m
    → (streams : Streams) → Carries s at.ring streams → RingShows streams (takes at.side o.ring) m.duo.now
taken_shows law w s d c place e u at o k p n m f shown which now sees took streams carries =
    let first = first_step law w s d c place e u at o n.duo.now (saw f) streams shown carries (side_takes at p n o.duo (saw f) which now sees) in
    let second = next_step law w s d c place e u at o o.ring n.duo.now m.duo.now (found f) streams shown carries (sym k.same)
    (subst (λ (r : Ring). RingShows streams r n.duo.now) k.same first.1)
    (side_takes at n m n.duo.now (found f) (sees.0.1 ∙ which) refl took) in
    subst (λ (r : Ring). RingShows streams (takes at.side r) m.duo.now) k.same second.1

taken_agrees : (law : TurnLaws) (w w2 : TheWorld) (s : State) (a : Answer) (d : DispatcherId) (c place : ℕ) (e : EndId) (u : DueAt w s d c place e) (at : RingEnd)
    (o : OwnRing w s d c place e u at) (k : WasLooked w s d c place e u at o) (p n m t : DuoSide) (f : Frag) (to : Place) (taken : Taken) (end : TheEnd) (lists : ThreeLists)
    → Shows w s → MayReceive w s d c place e u → p.which ≡ which_of at.side → p.duo.now ≡ o.duo
    → holds_back (end_in e.side u.at.binding) ≡ false → SideTakes p (saw f) n → SideTakes n (found f) m → WaitsOn m to t
    → comes_to u.at.interface (end_in (other e.side) u.at.binding).out ≡ taken
    → EndShows u.at.interface (replies u.at.interface taken (end_in e.side u.at.binding)) (takes_one (end_in (other e.side) u.at.binding).out) end
    → a ≡ taken_answer e taken → lists ≡ put_off u.there.lists Pending c to
    → w2 ≡ with_core (with_ring w at.ring t.duo.now) d.core (with_board u.at.core (turned_board w s d c place e u u.at.core.board lists end))
    → Agrees (gives (chosen d c e) s) a w2
taken_agrees law w w2 s a d c place e u at o k p n m t f to taken end lists shown may which now unheld sees took waits comes shows is lists_are rest =
    let i = u.at.interface in
    let b = u.at.binding in
    let z : State = change_ring at.ring (takes at.side) s in
    let h = ring_sided law w s d c place e u at o (takes at.side) m.duo.now shown (taken_shows law w s d c place e u at o k p n m f shown which now sees took) in
    let z2 : State = goes_back (chosen d c e) Polled z in
    let end2 : end_of z2 (peer e) ≡ Some (end_in (other e.side) b) = end_of_binding s (peer e) b u.at.binding_is in
    agreed (gives (chosen d c e) s) (takes_next e (peer e) taken i z2) (taken_answer e taken) a
    (with_core (with_ring w at.ring m.duo.now) d.core (with_board u.at.core (turned_board w s d c place e u u.at.core.board (put_off u.there.lists Pending c Polled) end))) w2
    (gives_ring (chosen d c e) b i s at k.first u.at.binding_is u.at.interface_is unheld o.no_queue o.own (first_there s at o.ring (Some k.first) o.ring_is k.first_is)
    ∙ ap (λ (l : Label). takes_label e i l z2) k.label
    ∙ label_taken e (peer e) i k.number z2 (end_in (other e.side) b) taken end2 comes)
    is
    (rest
    ∙ ap (λ (x : DuoSide). with_core (with_ring w at.ring x.duo.now) d.core (with_board u.at.core (turned_board w s d c place e u u.at.core.board lists end))) waits.same
    ∙ ap (λ (x : ThreeLists). with_core (with_ring w at.ring m.duo.now) d.core (with_board u.at.core (turned_board w s d c place e u u.at.core.board x end)))
    (lists_are ∙ ap (put_off u.there.lists Pending c) waits.to_is))
    (take_change law w s d c place e u (with_ring w at.ring m.duo.now) z u.at.core Pending Polled taken end shown h may.bound shows)

no_acknowledgement : {P : Type 0} (e : EndId) (k : ℕ) → next_of e k ≡ acknowledges → P
no_acknowledgement {P} e k q = absurd (let h : true ≡ false = ap is_data q in cc)

pub ring_turn : (law : TurnLaws) (w w2 : TheWorld) (s : State) (a : Answer) (d : DispatcherId) (c place : ℕ) (cs : List ℕ) (e : EndId) (u : DueAt w s d c place e) (at : RingEnd)
    (o : OwnRing w s d c place e u at) (p t : DuoSide) (r : TurnAnswer) (end : TheEnd) (lists : ThreeLists) → Shows w s → MayReceive w s d c place e u
    → p.which ≡ which_of at.side → p.duo.now ≡ o.duo → u.machine.lists.pending ≡ c ∷ cs
    → Gives SideTakes kind.Ring c (moment u.there.lists u.at.at.end p) (Ok r) (moment lists end t)
    → a ≡ turn_answer e r
    → w2 ≡ with_core (with_ring w at.ring t.duo.now) d.core (with_board u.at.core (turned_board w s d c place e u u.at.core.board lists end))
    → Agrees (gives (chosen d c e) s) a w2
ring_turn law w w2 s a d c place cs e u at o p t (Handle call) end lists shown may which now due g is rest =
    let k = side_receives law w s d c place e u at o p g.0 (Ok (receive.Handle call)) end shown may which now g.1 in
    taken_agrees law w w2 s a d c place e u at o (was_looked law w s d c place cs e u at o shown due) p k.1.1 g.0 t k.1.0 g.2.0 (whole (call_of call)) end lists
    shown may which now k.0.1 k.1.2 k.1.3 (waits_on g.0 t g.2.0 g.2.1) k.2.0 k.2.1 is g.2.2 rest
ring_turn law w w2 s a d c place cs e u at o p t Part end lists shown may which now due g is rest =
    let k = side_receives law w s d c place e u at o p g.0 (Ok receive.Part) end shown may which now g.1 in
    taken_agrees law w w2 s a d c place e u at o (was_looked law w s d c place cs e u at o shown due) p k.1.1 g.0 t k.1.0 g.2.0 a_part end lists
    shown may which now k.0.1 k.1.2 k.1.3 (waits_on g.0 t g.2.0 g.2.1) k.2.0 k.2.1 is g.2.2 rest
ring_turn law w w2 s a d c place cs e u at o p t Quiet end lists shown may which now due g is rest =
    let k = side_receives law w s d c place e u at o p g.0 (Ok receive.Quiet) end shown may which now g.1 in
    let l = was_looked law w s d c place cs e u at o shown due in
    let acks = (first_step law w s d c place e u at o k.1.0.duo.now saw_ack (calls_off_links s) shown (own_carries w s d c place e u at o)
    (side_takes at p k.1.0 o.duo saw_ack which now k.1.1)).0 in
    let same : l.first ≡ acks.first = same_some (first_for at.side o.ring) l.first acks.first l.first_is acks.there in
    no_acknowledgement (peer e) l.number (sym l.label ∙ ap (λ (x : RingLabel). x.label) same ∙ acks.acks)
ring_turn law w w2 s a d c place cs e u at o p t Nothing end lists shown may which now due g is rest =
    let k = side_receives law w s d c place e u at o p g.0 (Ok receive.Empty) end shown may which now g.1 in
    let l = was_looked law w s d c place cs e u at o shown due in
    let none = first_step law w s d c place e u at o g.0.duo.now missed (calls_off_links s) shown (own_carries w s d c place e u at o)
    (side_takes at p g.0 o.duo missed which now k.1) in
    not_both (first_for at.side o.ring) l.first none.0 l.first_is
ring_turn law w w2 s a d c place cs e u at o p t Full end lists shown may which now due g is rest =
    let k = side_receives law w s d c place e u at o p t (Ok receive.HeldBack) end shown may which now g.0 in
    let board : TheBoard = with_lists u.at.core.board d.place u.there (put_off u.there.lists Pending c Pending) in
    agreed (gives (chosen d c e) s) (goes_back (chosen d c e) Pending s) full a (with_core w d.core (with_board u.at.core board)) w2
    (gives_held (chosen d c e) u.at.binding u.at.interface s u.at.binding_is u.at.interface_is k.1)
    is
    (rest
    ∙ ap (λ (x : TheDuo). with_core (with_ring w at.ring x) d.core (with_board u.at.core (turned_board w s d c place e u u.at.core.board lists end)))
    (ap (λ (x : DuoSide). x.duo.now) k.2 ∙ now)
    ∙ ap (λ (x : TheWorld). with_core x d.core (with_board u.at.core (turned_board w s d c place e u u.at.core.board lists end))) (same_ring_there w at.ring o.duo o.duo_is)
    ∙ ap (λ (x : ThreeLists). with_core w d.core (with_board u.at.core (turned_board w s d c place e u u.at.core.board x end))) g.1
    ∙ ap (λ (x : TheBoard). with_core w d.core (with_board u.at.core x)) (same_end_there board place u.at.at end u.at.at_is g.0.3))
    (lists_change law w s d c place e u w s u.at.core Pending Pending (unsided w s d c place e u shown))
ring_turn law w w2 s a d c place cs e u at o p t (Refused fault) end lists shown may which now due g is rest =
    absurd (side_receives law w s d c place e u at o p t (Err (WireFaulty fault)) end shown may which now g.0)
ring_turn law w w2 s a d c place cs e u at o p t Ready end lists shown may which now due g is rest = absurd g

-- ---- a polled channel

-- a look at what stands first, and what is known then
record Looked (side : RingSide) (r : Ring) (l : RingLabel) : Type 0 where
  pub first : first_for side (looks side r) ≡ Some l
  pub known : (written_by side (looks side r)).known ≡ l.told

looked_by : (side : RingSide) (r : Ring) (l : RingLabel) → first_for side r ≡ Some l
    → (first_for side (with_halves side (knows l.told (written_by side r)) (read_by side r) r) ≡ Some l)
    × ((written_by side (with_halves side (knows l.told (written_by side r)) (read_by side r) r)).known ≡ l.told)
looked_by first_side r l q = (q, refl)
looked_by second_side r l q = (q, refl)

looked : (side : RingSide) (r : Ring) (l : RingLabel) → first_for side r ≡ Some l → Looked side r l
looked side r l q =
    let is : looks side r ≡ with_halves side (knows l.told (written_by side r)) (read_by side r) r
    = ap (λ (o : Option RingLabel). given o r λ m. with_halves side (knows m.told (written_by side r)) (read_by side r) r) q in
    let k = looked_by side r l q in
    record { first = ap (first_for side) is ∙ k.0; known = ap (λ (x : Ring). (written_by side x).known) is ∙ k.1 }

finds_data : (t : Chosen) (at : RingEnd) (label : Label) (s : State) → is_data label ≡ true → finds t at label s ≡ answers (comes_off t Pending s) (ready t.end)
finds_data t at (next_of e k) s h = refl
finds_data t at (says m) s h = refl
finds_data t at acknowledges s h = absurd (cc)

same_rings : (s : State) (n : ℕ) (r : Ring) → slice_get s.rings n ≡ Some r → change_ring n (λ x. x) s ≡ s
same_rings s n r q = ap (λ (rings : List Ring). record s { rings = rings }) (changed_is s.rings n (λ x. x) r q ∙ set_same s.rings n r q)

-- the channel comes off to the back of a list
comes_agrees : (law : TurnLaws) (w w2 : TheWorld) (s : State) (a answer : Answer) (d : DispatcherId) (c place : ℕ) (e : EndId) (u : DueAt w s d c place e) (at : RingEnd)
    (o : OwnRing w s d c place e u at) (f : Ring → Ring) (t : DuoSide) (to : Place) (end : TheEnd) (lists : ThreeLists) → Shows w s
    → ((streams : Streams) → Carries s at.ring streams → RingShows streams (f o.ring) t.duo.now)
    → examines (chosen d c e) s ≡ answers (comes_off (chosen d c e) to (change_ring at.ring f s)) answer
    → a ≡ answer → lists ≡ put_off u.there.lists Polled c to → end ≡ u.at.at.end
    → w2 ≡ with_core (with_ring w at.ring t.duo.now) d.core (with_board u.at.core (turned_board w s d c place e u u.at.core.board lists end))
    → Agrees (examines (chosen d c e) s) a w2
comes_agrees law w w2 s a answer d c place e u at o f t to end lists shown shows machine is lists_are same rest =
    let board : TheBoard = with_lists u.at.core.board d.place u.there (put_off u.there.lists Polled c to) in
    let v : TheWorld = with_ring w at.ring t.duo.now in
    agreed (examines (chosen d c e) s) (comes_off (chosen d c e) to (change_ring at.ring f s)) answer a (with_core v d.core (with_board u.at.core board)) w2
    machine is
    (rest
    ∙ ap (λ (x : ThreeLists). with_core v d.core (with_board u.at.core (turned_board w s d c place e u u.at.core.board x end))) lists_are
    ∙ ap (λ (x : TheBoard). with_core v d.core (with_board u.at.core x)) (same_end_there board place u.at.at end u.at.at_is same))
    (lists_change law w s d c place e u v (change_ring at.ring f s) u.at.core Polled to (ring_sided law w s d c place e u at o f t.duo.now shown shows))

pub polled_turn : (law : TurnLaws) (w w2 : TheWorld) (s : State) (a : Answer) (d : DispatcherId) (c place : ℕ) (e : EndId) (u : DueAt w s d c place e) (at : RingEnd)
    (o : OwnRing w s d c place e u at) (p t : DuoSide) (r : TurnAnswer) (end : TheEnd) (lists : ThreeLists) → Shows w s
    → p.which ≡ which_of at.side → p.duo.now ≡ o.duo
    → Examines SideTakes c (lent u.there.lists p) (Ok r) (lent lists t) → end ≡ u.at.at.end
    → a ≡ turn_answer e r
    → w2 ≡ with_core (with_ring w at.ring t.duo.now) d.core (with_board u.at.core (turned_board w s d c place e u u.at.core.board lists end))
    → Agrees (examines (chosen d c e) s) a w2
polled_turn law w w2 s a d c place e u at o p t Ready end lists shown which now g same is rest =
    let put = side_takes at p t o.duo (saw g.0.0) which now g.0.1 in
    let step : (streams : Streams) → Carries s at.ring streams → TakeAgrees streams at.side o.ring (saw g.0.0) t.duo.now =
    λ streams k. first_step law w s d c place e u at o t.duo.now (saw g.0.0) streams shown k put in
    let first = (step (calls_off_links s) (own_carries w s d c place e u at o)).0 in
    let z : State = change_ring at.ring (looks at.side) s in
    comes_agrees law w w2 s a (ready e) d c place e u at o (looks at.side) t Pending end lists shown (λ streams k. (step streams k).1)
    (examines_found (chosen d c e) u.at.binding s at u.at.binding_is o.own
    ∙ ap (λ (x : Option RingLabel). examines_on (chosen d c e) at x s) (first_there s at o.ring (Some first.first) o.ring_is first.there)
    ∙ finds_data (chosen d c e) at first.first.label z first.kind)
    is g.1 same rest
polled_turn law w w2 s a d c place e u at o p t Quiet end lists shown which now g same is rest = elim g.0 [
  | inl none ↦
      let put = side_takes at p t o.duo missed which now none in
      let step : (streams : Streams) → Carries s at.ring streams → TakeAgrees streams at.side o.ring missed t.duo.now =
      λ streams k. first_step law w s d c place e u at o t.duo.now missed streams shown k put in
      let first = (step (calls_off_links s) (own_carries w s d c place e u at o)).0 in
      comes_agrees law w w2 s a (quiet e) d c place e u at o (λ x. x) t Polled end lists shown (λ streams k. (step streams k).1)
      (examines_found (chosen d c e) u.at.binding s at u.at.binding_is o.own
      ∙ ap (λ (x : Option RingLabel). examines_on (chosen d c e) at x s) (first_there s at o.ring None o.ring_is first)
      ∙ ap (λ (x : State). answers (comes_off (chosen d c e) Polled x) (quiet e)) (sym (same_rings s at.ring o.ring o.ring_is)))
      is g.1 same rest
  | inr (m, sees, took) ↦
      let put = side_takes at p m o.duo saw_ack which now sees in
      let then_put = side_takes at m t m.duo.now found_ack (sees.0.1 ∙ which) refl took in
      let step : (streams : Streams) → Carries s at.ring streams → TakeAgrees streams at.side o.ring saw_ack m.duo.now =
      λ streams k. first_step law w s d c place e u at o m.duo.now saw_ack streams shown k put in
      let acks = (step (calls_off_links s) (own_carries w s d c place e u at o)).0 in
      let l = looked at.side o.ring acks.first acks.there in
      let once : looks at.side (looks at.side o.ring) ≡ looks at.side o.ring = law.once at.side (looks at.side o.ring) acks.first l.first l.known in
      comes_agrees law w w2 s a (quiet e) d c place e u at o (λ x. takes at.side (looks at.side x)) t Polled end lists shown
      (λ streams k.
      let second = next_step law w s d c place e u at o (looks at.side o.ring) m.duo.now t.duo.now found_ack streams shown k refl (step streams k).1 then_put in
      subst (λ (r : Ring). RingShows streams (takes at.side r) t.duo.now) once second.1)
      (examines_found (chosen d c e) u.at.binding s at u.at.binding_is o.own
      ∙ ap (λ (x : Option RingLabel). examines_on (chosen d c e) at x s) (first_there s at o.ring (Some acks.first) o.ring_is acks.there)
      ∙ ap (λ (x : Label). finds (chosen d c e) at x (change_ring at.ring (looks at.side) s)) acks.acks
      ∙ ap (λ (rings : List Ring). answers (comes_off (chosen d c e) Polled (record s { rings = rings })) (quiet e))
      (changed_twice s.rings at.ring (looks at.side) (takes at.side) o.ring o.ring_is))
      is g.1 same rest
]
polled_turn law w w2 s a d c place e u at o p t (Handle call) end lists shown which now g same is rest = absurd g
polled_turn law w w2 s a d c place e u at o p t Part end lists shown which now g same is rest = absurd g
polled_turn law w w2 s a d c place e u at o p t Full end lists shown which now g same is rest = absurd g
polled_turn law w w2 s a d c place e u at o p t Nothing end lists shown which now g same is rest = absurd g
polled_turn law w w2 s a d c place e u at o p t (Refused fault) end lists shown which now g same is rest = absurd g
