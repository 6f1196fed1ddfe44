-- A call's fragment goes on over another link of the core: the world agrees with the machine.
use Rattle.std.proofs.Common.{◌≡◌, ◌≢◌, inl, inr, refl, sym, ◌∙◌, ap, subst, ℕ, ◌<◌, ◌^◌, List, slice_get, slice_set, Option, Some, None}
use Rattle.fl_base.specs.declared.fragment.Frag.{Frag}
use Rattle.fl_base.specs.declared.identity.EndId.{EndId}
use Rattle.fl_base.specs.declared.identity.LinkId.{LinkId}
use Rattle.fl_base.specs.declared.identity.Circuit.{Circuit}
use Rattle.fl_base.specs.Control.{bare, with_circuit}
use Rattle.fl_base.specs.Given.{given}
use Rattle.fl_hop.specs.declared.entry.HopTarget.{HopTarget}
use Rattle.fl_hop.specs.declared.entry.HopTarget.TheVariants.{Link as to_link}
use Rattle.fl_hop.specs.declared.forward.ForwardOutcome.{ForwardOutcome as Moving}
use Rattle.fl_hop.specs.declared.forward.ForwardOutcome.TheVariants as moving
use Rattle.fl_hop.specs.Forward.{put_label, Leaves}
use Rattle.fl_link.specs.Looks.{Look, placed, no_room, spent, found}
use Rattle.fl_ring.specs.Duo.{TheDuo, DuoPuts}
use Rattle.fl_ring.specs.Side.{SidePuts, SideTakes}
use Rattle.fl_ring.specs.declared.duo_side.DuoSide.{DuoSide}
use Rattle.fl_model.specs.Given.{changed_at}
use Rattle.fl_model.specs.Events.{Answer, nothing, full, forwarded}
use Rattle.fl_model.specs.Rings.{Label, next_of, RingLabel, Ring, RingSide, RingEnd, first_for, looks, makes_sure, puts, takes, Room, room, there_is_room, for_data}
use Rattle.fl_model.specs.Rings.{no_room as none_free, spent as used_up}
use Rattle.fl_model.specs.Ends.{passes}
use Rattle.fl_model.specs.Monitors.{Core, Link, link_to}
use Rattle.fl_model.specs.State.{State, StepOutcome, answers, core_of, link_between, change_ring, change_out, ring_makes_sure, ring_room}
use Rattle.fl_model.specs.Forwarding.{LinkEnd, label_of, follows_entry, goes_on_over, goes_on_by}
use Rattle.fl_model_laws.proofs.LabelsForward.{link_is}
use Rattle.fl_model_laws.proofs.Rings.{looks_counted}
use Rattle.fl_model_laws.proofs.TurnsTold.{Tells}
use Rattle.fl_world_refines.specs.Fragments.{Streams, frag_of, calls_between}
use Rattle.fl_world_refines.specs.Rings.{which_of, RingShows}
use Rattle.fl_world_refines.specs.RingLaws.{IsPutOf, PutAgrees, sure_for_data, room_for_data}
use Rattle.fl_world_refines.specs.View.{TheWorld, side_number, ring_at, with_ring}
use Rattle.fl_world_refines.specs.Lending.{IsLent, DoesNothing}
use Rattle.fl_world_refines.specs.ShowsState.{Carries, ShowsState, Shows}
use Rattle.fl_world_refines.specs.Linking.{move_of, MovesOn, IsNoWay, moved_answer}
use Rattle.fl_world_refines.specs.Laws.{Agrees}
use Rattle.fl_world_refines.proofs.Frames.{RingFrame, PassFrame}
use Rattle.fl_world_refines.proofs.PassingFirst.{CallFirst, told_some}
use Rattle.fl_world_refines.proofs.PassingLinkSides.{LinkedTo, end_at, its_between, ring_of_number}
use Rattle.fl_world_refines.proofs.PassingLists.{set_twice, set_apart, get_set, get_apart, changed_twice, changed_apart, get_changed, get_changed_apart, some_is, given_is}
use Rattle.fl_world_refines.proofs.PassingNumbers.{NextLink, next_link, routed}
use Rattle.fl_world_refines.proofs.PassingRings.{Showings, side_puts, side_takes, RingOf, ring_of_link, one_link, same_streams, carries_it, all_carried, small, looked_twice}
use Rattle.fl_world_refines.proofs.PassingStations.{StationPassed, station_passed}
use Rattle.fl_world_refines.proofs.PassingWrites.{agrees_at, agrees_with, with_rings_like}

-- a link's ring once its side was looked at: what the take of what stands first there leaves
pub taken_first : Showings → (w : TheWorld) (s : State) (shows : Shows w s) (at : RingEnd) (x : RingOf w s at.ring) (first : RingLabel) (f : Frag) (d d2 : TheDuo)
    → first_for at.side x.ring ≡ Some first → ((streams : Streams) → Carries s at.ring streams → RingShows streams (looks at.side x.ring) d)
    → Rattle.fl_ring.specs.Duo.DuoTakes (which_of at.side) d (found f) d2
    → (streams : Streams) → Carries s at.ring streams → RingShows streams (takes at.side (looks at.side x.ring)) d2
taken_first law w s shows at x first f d d2 q seen takes_it streams h =
    let counted = looks_counted at.side x.ring x.counted in
    let take = law.takes streams at.side (looks at.side x.ring) d d2 (found f) (seen streams h) counted.counts counted.fits (all_carried law w s shows at.ring streams h) takes_it in
    subst (λ (r : Ring). RingShows streams (takes at.side r) d2) (looked_twice law.once at.side x.ring first q) take.1

module _ (law : Showings) (frame : RingFrame) (frame_pass : PassFrame) (w : TheWorld) (s : State) (shows : Shows w s) (core neighbour l : ℕ) (link : Link)
    (t : LinkedTo w s core neighbour l link) (first : RingLabel) (frag : Frag) (c : CallFirst s core neighbour l link first frag)
    (x : RingOf w s link.ring.ring) (d1 : TheDuo) (first_is : first_for link.ring.side x.ring ≡ Some first)
    (seen : (streams : Streams) → Carries s link.ring.ring streams → RingShows streams (looks link.ring.side x.ring) d1)
    (over : LinkId) (circuit : Circuit) (way_is : c.hop.way ≡ to_link over circuit) (other : l ≢ over.0) where
  abbrev here : LinkEnd
  here = end_at core neighbour l link

  abbrev n : ℕ
  n = link.ring.ring

  abbrev label : Label
  label = next_of c.call.end c.call.number

  -- ---- the next link

  pub its_next : NextLink c.route c.passing.core core over circuit
  its_next = next_link s shows.sound here c.call first c.route c.hop c.passing over circuit way_is

  pub next_there : (next : Link) × (slice_get c.passing.core.links over.0 ≡ Some next)
  next_there =
      let told : Tells (follows_entry here c.call c.passing.core (to_link over circuit) s) =
      subst (λ (v : HopTarget). Tells (follows_entry here c.call c.passing.core v s)) way_is c.leads in
      let (next, is, rest) = told_some (slice_get c.passing.core.links over.0) _ s told in
      (next, is)

  abbrev on : RingEnd
  on = next_there.0.ring

  between : link_between s core neighbour ≡ Some link
  between = its_between w s core neighbour l link t

  onward_between : link_between s core its_next.next ≡ Some next_there.0
  onward_between = link_is s core its_next.next c.passing.core over.0 next_there.0 c.passing.core_is its_next.to next_there.1

  pub y : RingOf w s next_there.0.ring.ring
  y = ring_of_link law w s shows core its_next.next next_there.0 onward_between

  not_back : its_next.next ≡ neighbour → ⊥
  not_back same =
      let one : c.passing.core ≡ t.k = some_is c.passing.core t.k (sym c.passing.core_is ∙ t.k_is) in
      let to : link_to neighbour t.k ≡ Some over.0 = ap (λ (m : ℕ). link_to m t.k) (sym same) ∙ ap (link_to its_next.next) (sym one) ∙ its_next.to in
      other (some_is l over.0 (sym t.to ∙ to))

  pub apart : link.ring.ring ≢ next_there.0.ring.ring
  apart same = elim (one_link law w s shows core neighbour core its_next.next link next_there.0 between onward_between (sym same)) [
    | inl (a, b) ↦ not_back b
    | inr (a, b) ↦ not_back (b ∙ a)
  ]

  -- ---- the label on the next ring

  carried_there : (streams : Streams) → Carries s next_there.0.ring.ring streams → slice_get (streams c.call.end) c.call.number ≡ Some (bare (with_circuit circuit.0 frag))
  carried_there streams h =
      let few = small law w s shows c.call.end.binding c.route core its_next.next circuit.0 (routed s shows.sound here c.call first c.route c.hop c.passing) its_next.number in
      ap (λ (fs : List Frag). slice_get fs c.call.number) (same_streams law w s shows core its_next.next next_there.0 onward_between streams h c.call.end)
      ∙ c.goes.onward core its_next.next circuit.0 its_next.number
      ∙ ap (λ (f : Frag). Some f) (sym ((law.aside frag).another circuit.0 few.1))

  is_put : (streams : Streams) → Carries s next_there.0.ring.ring streams → IsPutOf streams label (placed (bare (with_circuit circuit.0 frag)))
  is_put streams h g same =
      let one : bare (with_circuit circuit.0 frag) ≡ g =
      (let p : placed (bare (with_circuit circuit.0 frag)) ≡ placed g = same in cc) in
      carried_there streams h ∙ ap (λ (f : Frag). Some f) (sym (law.aside (with_circuit circuit.0 frag)).twice ∙ ap bare one)

  no_put : (look : Look) → ((g : Frag) → look ≡ placed g → ⊥) → (streams : Streams) → IsPutOf streams label look
  no_put look h streams g same = absurd (h g same)

  its_put : (look : Look) (d : TheDuo) → ((streams : Streams) → Carries s next_there.0.ring.ring streams → IsPutOf streams label look) → DuoPuts (which_of on.side) y.duo look d
      → (streams : Streams) → Carries s next_there.0.ring.ring streams → PutAgrees streams on.side label y.ring look d
  its_put look d is puts_it streams h =
      law.puts streams on.side label y.ring y.duo d look (y.shows streams h) y.counted.counts y.counted.fits tt (is streams h) puts_it

  -- ---- the machine

  abbrev looked : State
  looked = change_ring n (looks link.ring.side) s

  abbrev sure : State
  sure = ring_makes_sure for_data on looked

  sure_ring : slice_get sure.rings on.ring ≡ Some (makes_sure for_data on.side y.ring)
  sure_ring =
      get_changed (changed_at n (looks link.ring.side) s.rings) on.ring (makes_sure for_data on.side) y.ring
      (get_changed_apart s.rings n on.ring (looks link.ring.side) apart ∙ y.ring_is)

  pub follows_is : (r : Room) → room_for_data on.side y.ring ≡ r → follows_entry here c.call c.passing.core c.hop.way looked ≡ goes_on_by here c.call on r sure
  follows_is r e =
      ap (λ (v : HopTarget). follows_entry here c.call c.passing.core v looked) way_is
      ∙ given_is (slice_get c.passing.core.links over.0) _ _ next_there.0 next_there.1
      ∙ ap (λ (z : Room). goes_on_by here c.call on z sure) (given_is (slice_get sure.rings on.ring) none_free (room for_data on.side) _ sure_ring ∙ e)

  -- ---- what is shown

  both_rings : (f g : Ring → Ring) (d2 d3 : TheDuo) → ((streams : Streams) → Carries s n streams → RingShows streams (f x.ring) d2)
      → ((streams : Streams) → Carries s next_there.0.ring.ring streams → RingShows streams (g y.ring) d3)
      → ShowsState (with_ring (with_ring w on.ring d3) n d2) (change_ring n f (change_ring on.ring g s))
  both_rings f g d2 d3 h k =
      frame (with_ring w on.ring d3) (change_ring on.ring g s) n x.ring f d2 (frame w s on.ring y.ring g d3 shows.showing y.ring_is k)
      (get_changed_apart s.rings on.ring n g (λ e. apart (sym e)) ∙ x.ring_is) h

  its_passed : StationPassed s c.call.end c.passing.binding c.call.station
  its_passed = station_passed law s shows.sound here c.call first c.route c.hop c.passing

  module _ (a : Answer) (w2 : TheWorld) (m : MovesOn (move_of (side_number link.ring) (side_number next_there.0.ring) frag circuit) (with_ring w link.ring.ring d1) a w2) where
    from_is : m.ring ≡ d1
    from_is =
        some_is m.ring d1 (sym m.ring_is ∙ ap (slice_get (slice_set w.rings n d1)) (ring_of_number link.ring) ∙ get_set w.rings n x.duo d1 x.duo_is)

    onto_is : m.next ≡ y.duo
    onto_is =
        some_is m.next y.duo (sym m.next_is ∙ ap (slice_get (slice_set w.rings n d1)) (ring_of_number on) ∙ get_apart w.rings n on.ring d1 apart ∙ y.duo_is)

    from_lent : IsLent (side_number link.ring) d1 m.side
    from_lent = subst (λ (d : TheDuo). IsLent (side_number link.ring) d m.side) from_is m.lent

    onto_lent : IsLent (side_number on) y.duo m.next_side
    onto_lent = subst (λ (d : TheDuo). IsLent (side_number on) d m.next_side) onto_is m.next_lent

    world_is : w2 ≡ with_ring (with_ring w on.ring m.put_side.duo.now) n m.left_side.duo.now
    world_is =
        m.rest
        ∙ ap (λ (k : ℕ). with_ring (with_ring (with_ring w n d1) k m.left_side.duo.now) (ring_at (side_number on)) m.put_side.duo.now) (ring_of_number link.ring)
        ∙ ap (λ (k : ℕ). with_ring (with_ring (with_ring w n d1) n m.left_side.duo.now) k m.put_side.duo.now) (ring_of_number on)
        ∙ ap (λ (ds : List TheDuo). record w { rings = slice_set ds on.ring m.put_side.duo.now }) (set_twice w.rings n d1 m.left_side.duo.now)
        ∙ ap (λ (ds : List TheDuo). record w { rings = ds }) (set_apart w.rings n on.ring m.left_side.duo.now m.put_side.duo.now apart)

    goes : SidePuts m.next_side (placed (bare (with_circuit circuit.0 frag))) m.put_side → SideTakes m.side (found (bare frag)) m.left_side → m.answer ≡ m.answer
        → a ≡ forwarded → Agrees (follows_entry here c.call c.passing.core c.hop.way looked) a w2
    goes puts_it takes_it same answer =
        let put = its_put (placed (bare (with_circuit circuit.0 frag))) m.put_side.duo.now is_put (side_puts on y.duo m.next_side m.put_side _ onto_lent puts_it) in
        let left = taken_first law w s shows link.ring x first (bare frag) d1 m.left_side.duo.now first_is seen (side_takes link.ring d1 m.side m.left_side _ from_lent takes_it) in
        let has : room_for_data on.side y.ring ≡ there_is_room = (put (calls_between core its_next.next s) (carries_it law w s shows core its_next.next next_there.0 onward_between)).0 in
        let rings : ShowsState (with_ring (with_ring w on.ring m.put_side.duo.now) n m.left_side.duo.now)
        (change_ring n (λ r. takes link.ring.side (looks link.ring.side r)) (change_ring on.ring (λ r. puts on.side label (makes_sure for_data on.side r)) s)) =
        both_rings (λ r. takes link.ring.side (looks link.ring.side r)) (λ r. puts on.side label (makes_sure for_data on.side r)) m.left_side.duo.now m.put_side.duo.now left
        (λ streams h. (put streams h).1) in
        let passed = frame_pass (with_ring (with_ring w on.ring m.put_side.duo.now) n m.left_side.duo.now)
        (change_ring n (λ r. takes link.ring.side (looks link.ring.side r)) (change_ring on.ring (λ r. puts on.side label (makes_sure for_data on.side r)) s))
        c.call.end c.passing.binding its_passed.interface (passes c.call.station) rings c.passing.binding_is its_passed.interface_is its_passed.out its_passed.parts in
        let order : changed_at n (takes link.ring.side) (changed_at on.ring (puts on.side label) (changed_at on.ring (makes_sure for_data on.side) (changed_at n (looks link.ring.side) s.rings)))
        ≡ changed_at n (λ r. takes link.ring.side (looks link.ring.side r)) (changed_at on.ring (λ r. puts on.side label (makes_sure for_data on.side r)) s.rings) =
        ap (changed_at n (takes link.ring.side)) (changed_twice (changed_at n (looks link.ring.side) s.rings) on.ring (puts on.side label) (makes_sure for_data on.side))
        ∙ ap (changed_at n (takes link.ring.side)) (changed_apart s.rings on.ring n (λ r. puts on.side label (makes_sure for_data on.side r)) (looks link.ring.side) (λ e. apart (sym e)))
        ∙ changed_twice (changed_at on.ring (λ r. puts on.side label (makes_sure for_data on.side r)) s.rings) n (takes link.ring.side) (looks link.ring.side) in
        agrees_at _ _ a w2 (follows_is there_is_room has)
        (agrees_with _ forwarded a _ w2 (sym answer) world_is (with_rings_like _ _ _ (sym order) passed))

    stays : (r : Room) → room_for_data on.side y.ring ≡ r → goes_on_by here c.call on r sure ≡ answers sure full
        → ((streams : Streams) → Carries s next_there.0.ring.ring streams → RingShows streams (sure_for_data on.side y.ring) m.put_side.duo.now)
        → m.left_side ≡ m.side → a ≡ full → Agrees (follows_entry here c.call c.passing.core c.hop.way looked) a w2
    stays r e by shown left answer =
        let ring : m.left_side.duo.now ≡ d1 = ap (λ (p : DuoSide). p.duo.now) left ∙ from_lent.ring in
        let rings : ShowsState (with_ring (with_ring w on.ring m.put_side.duo.now) n m.left_side.duo.now)
        (change_ring n (looks link.ring.side) (change_ring on.ring (makes_sure for_data on.side) s)) =
        both_rings (looks link.ring.side) (makes_sure for_data on.side) m.left_side.duo.now m.put_side.duo.now
        (λ streams h. subst (RingShows streams (looks link.ring.side x.ring)) (sym ring) (seen streams h)) shown in
        agrees_at _ _ a w2 (follows_is r e ∙ by)
        (agrees_with _ full a _ w2 (sym answer) world_is
        (with_rings_like _ _ _ (changed_apart s.rings n on.ring (looks link.ring.side) (makes_sure for_data on.side) apart) rings))

    by_outcome : (o : Moving) → SidePuts m.next_side (put_label o (bare (with_circuit circuit.0 frag))) m.put_side
        → Leaves SideTakes o (bare frag) (record { before = m.side; after = m.left_side }) → a ≡ moved_answer o
        → Agrees (follows_entry here c.call c.passing.core c.hop.way looked) a w2
    by_outcome moving.Moved puts_it left answer = goes puts_it left refl answer
    by_outcome moving.Full puts_it left answer =
        let put = its_put no_room m.put_side.duo.now (λ streams h. no_put no_room (λ g e. absurd (cc)) streams) (side_puts on y.duo m.next_side m.put_side no_room onto_lent puts_it) in
        stays none_free (put (calls_between core its_next.next s) (carries_it law w s shows core its_next.next next_there.0 onward_between)).0 refl (λ streams h. (put streams h).1) left answer
    by_outcome moving.Spent puts_it left answer =
        let put = its_put spent m.put_side.duo.now (λ streams h. no_put spent (λ g e. absurd (cc)) streams) (side_puts on y.duo m.next_side m.put_side spent onto_lent puts_it) in
        stays used_up (put (calls_between core its_next.next s) (carries_it law w s shows core its_next.next next_there.0 onward_between)).0 refl (λ streams h. (put streams h).1) left answer

    pub moves_agree : Agrees (follows_entry here c.call c.passing.core c.hop.way looked) a w2
    moves_agree = by_outcome m.outcome m.puts m.left m.answer

  -- the two rings are there, and apart
  pub some_way : IsNoWay (side_number link.ring) (side_number next_there.0.ring) (with_ring w link.ring.ring d1) → ⊥
  some_way h = elim h [
    | inl same ↦ apart (sym (ring_of_number link.ring) ∙ same ∙ ring_of_number on)
    | inr (inl none) ↦
        (let u : None ≡ Some d1 = sym none ∙ ap (slice_get (slice_set w.rings n d1)) (ring_of_number link.ring) ∙ get_set w.rings n x.duo d1 x.duo_is in absurd (cc))
    | inr (inr none) ↦
        (let u : None ≡ Some y.duo = sym none ∙ ap (slice_get (slice_set w.rings n d1)) (ring_of_number on) ∙ get_apart w.rings n on.ring d1 apart ∙ y.duo_is in absurd (cc))
  ]
