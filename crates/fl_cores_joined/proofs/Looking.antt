-- A look of one of the cores at what stands first on a link, where nothing follows it, is the machine's forward.
use Rattle.std.proofs.Common.{◌≡◌, ◌⊎◌, inl, refl, sym, ◌∙◌, ap, subst, ℕ, false, true, List, length, map, slice_get, slice_set, Option, Some, None}
use Rattle.std.specs.Prelude.{Result, Ok, Err}
use Rattle.fl_base.specs.declared.fragment.Frag.{Frag}
use Rattle.fl_base.specs.declared.identity.EndId.{EndId}
use Rattle.fl_base.specs.declared.identity.LinkId.{LinkId}
use Rattle.fl_base.specs.declared.identity.Circuit.{Circuit}
use Rattle.fl_base.specs.Control.{bare}
use Rattle.fl_base.specs.Given.{given}
use Rattle.fl_hop.specs.declared.entry.HopTarget.TheVariants.{Link, End}
use Rattle.fl_hop.specs.declared.forward.HopFront.{HopFront}
use Rattle.fl_hop.specs.declared.forward.HopFront.TheVariants as first
use Rattle.fl_hop.specs.declared.fault.HopFault.{HopFault}
use Rattle.fl_hop.specs.declared.fault.HopFault.TheVariants as hop
use Rattle.fl_hop.specs.Forward.{BeforeAfter, LinkOfTable, Finds}
use Rattle.fl_link.specs.Looks.{Look, saw, saw_ack, found_ack, missed}
use Rattle.fl_link.specs.Queue.{front_of}
use Rattle.fl_ring.specs.declared.one_duo.WhichSide.{WhichSide}
use Rattle.fl_ring.specs.declared.one_duo.WhichSide.TheVariants.{One, Two}
use Rattle.fl_ring.specs.Duo.{TheHalf, TheDuo, DuoTakes, side_of}
use Rattle.fl_ring.specs.Side.{SideTakes}
use Rattle.fl_ring.specs.SharedSides.{TheSide, SharedTakes}
use Rattle.fl_ring.specs.SharedSeats.{front_seen}
use Rattle.fl_core.specs.declared.answer.LinkFront.{LinkFront}
use Rattle.fl_core.specs.declared.answer.LinkFront.TheVariants as front
use Rattle.fl_core.specs.declared.fault.LinkReceiveFault.{LinkReceiveFault}
use Rattle.fl_core.specs.declared.fault.LinkReceiveFault.TheVariants as link
use Rattle.fl_core.specs.Faults.{link_number}
use Rattle.fl_core.specs.declared.wiring.LinkSide.{LinkSide}
use Rattle.fl_core.specs.declared.core_job.CoreJob.{CoreJob}
use Rattle.fl_core.specs.Ends.{at_side}
use Rattle.fl_core.specs.Links.{IsLinkSide, Seen, link_of, LooksAhead}
use Rattle.fl_core.specs.Numbers.{moved, moved_link_side, renumbered}
use Rattle.fl_core.specs.View.{TheCore, side_of_link, failed_at, with_failed}
use Rattle.fl_core.proofs.Numbering.{goes_to}
use Rattle.fl_core_run.specs.Run.{TheRun}
use Rattle.fl_core_run.specs.LogEntries.{looked}
use Rattle.fl_model.specs.Events.{forward, Answer, nothing, done, refused}
use Rattle.fl_model.specs.State.{State}
use Rattle.fl_world_refines.specs.View.{Given, TheWorld, ring_at}
use Rattle.fl_world_refines.specs.Lending.{Refuses, IsStray, front_for}
use Rattle.fl_world_refines.specs.Linking.{LinkNumbers, LooksWith, ForwardsBy, ForwardsFirst, Forwards}
use Rattle.fl_world_refines.specs.Laws.{StepsAgree}
use Rattle.fl_cores_joined.specs.Rings.{FacingSide, Truly}
use Rattle.fl_cores_joined.specs.Joined.{JoinedCore, AreWhole}
use Rattle.fl_cores_joined.specs.Steps.{HappensAt, neighbour_on, look_answer}
use Rattle.fl_cores_joined.specs.Laws.{TheyShow, MachineDoes, IsTheMachinesOnLink}
use Rattle.fl_cores_joined.proofs.Mapped.{Maps}
use Rattle.fl_cores_joined.proofs.Renumbered.{get_image, side_moved}
use Rattle.fl_cores_joined.proofs.Joining.{map_set}
use Rattle.fl_cores_joined.proofs.Linking.{side_lent, across, side_found}
use Rattle.fl_cores_joined.proofs.Stepping.{begun, ended_whole, there_is, finish, lent_side, nothing_noted, IsGood, takes_map}
use Rattle.fl_cores_joined.proofs.Over.{ring_over}

-- ---- under the world's numbers

abbrev fails : ℕ → List LinkSide → LinkSide → List LinkSide
fails l ls x = slice_set ls l (record { side = x.side; failed = true })

failed_moved : (sides : List ℕ) (links : List LinkSide) (l : ℕ) → map (moved_link_side sides) (failed_at links l) ≡ failed_at (map (moved_link_side sides) links) l
failed_moved sides links l = by (slice_get links l) refl
  where
    by : (o : Option LinkSide) → slice_get links l ≡ o → map (moved_link_side sides) (failed_at links l) ≡ failed_at (map (moved_link_side sides) links) l
    by None q =
        ap (λ (o : Option LinkSide). map (moved_link_side sides) (given o links (fails l links))) q
        ∙ sym (ap (λ (o : Option LinkSide). given o (map (moved_link_side sides) links) (fails l (map (moved_link_side sides) links)))
        (get_image (moved_link_side sides) links l ∙ ap (λ (o : Option LinkSide). given o None (λ x. Some (moved_link_side sides x))) q))
    by (Some x) q =
        ap (λ (o : Option LinkSide). map (moved_link_side sides) (given o links (fails l links))) q
        ∙ map_set (moved_link_side sides) links l (record { side = x.side; failed = true })
        ∙ sym (ap (λ (o : Option LinkSide). given o (map (moved_link_side sides) links) (fails l (map (moved_link_side sides) links)))
        (get_image (moved_link_side sides) links l ∙ ap (λ (o : Option LinkSide). given o None (λ y. Some (moved_link_side sides y))) q))

pub renumbered_failed : (sides queues : List ℕ) (k : TheCore) (l : ℕ) → renumbered sides queues (with_failed k l) ≡ with_failed (renumbered sides queues k) l
renumbered_failed sides queues k l = ap (λ (ls : List LinkSide). record (renumbered sides queues k) { link_sides = ls }) (failed_moved sides k.link_sides l)

-- ---- a look, over the ring

pub fronts_by : (which : WhichSide) (d e : TheDuo) (f : Frag) → DuoTakes which d (saw f) e → front_of (side_of which e).waiting ≡ saw f
fronts_by One d e f h = ap (λ (z : TheHalf). front_of z.waiting) h.0.1 ∙ h.0.0
fronts_by Two d e f h = ap (λ (z : TheHalf). front_of z.waiting) h.0.1 ∙ h.0.0

module _ {P Q : Type 0} (Good : P → Type 0) (m : P → Q) (takes : P → Look → P → Type 0) (takes2 : Q → Look → Q → Type 0) (maps : Maps Good m takes takes2)
    (front_p : P → Look) (front_q : Q → Look) (fronts : (x y : P) (f : Frag) → takes2 (m x) (saw f) (m y) → front_q (m y) ≡ saw f) where
  abbrev between : {T : Type 0} → T → T → BeforeAfter T
  between p q = record { before = p; after = q }

  pub finds_so : (at : LinkOfTable) (r : Result HopFront HopFault) (p q : P) → Good p → Finds takes front_p at r (between p q)
      → Finds takes2 front_q at r (between (m p) (m q)) × Good q
  finds_so at (Ok first.Nothing) p q g h = maps p q missed g h
  finds_so at (Ok first.Acknowledged) p q g (mid, sees, gets) =
      let x = maps p mid saw_ack g sees in
      let y = maps mid q found_ack x.1 gets in
      ((m mid, x.0, y.0), y.1)
  finds_so at (Ok (first.Monitor frag)) p q g (sees, stands, number) =
      let x = maps p q (saw (bare frag)) g sees in ((x.0, fronts p q (bare frag) x.0, number), x.1)
  finds_so at (Ok (first.Goes frag way)) p q g (sees, stands, number, way_is, plain, other) =
      let x = maps p q (saw (bare frag)) g sees in
      ((x.0, fronts p q (bare frag) x.0, number, way_is, plain, other), x.1)
  finds_so at (Err hop.Misrouted) p q g (frag, sees, number, none) =
      let x = maps p q (saw (bare frag)) g sees in ((frag, x.0, number, none), x.1)
  finds_so at (Err hop.Marked) p q g (frag, e, sees, number, way_is, marked) =
      let x = maps p q (saw (bare frag)) g sees in ((frag, e, x.0, number, way_is, marked), x.1)
  finds_so at (Err fault) p q g h = absurd h

  module _ (sides queues : List ℕ) (l : ℕ) (k k2 : TheCore) (p q : P) (good : Good p) where
    abbrev here : TheCore → TheCore
    here c = renumbered sides queues c

    link_side_so : IsLinkSide k l false → IsLinkSide (here k) l false
    link_side_so h = record {
      link_side = moved_link_side sides h.link_side;
      link_side_is = goes_to (moved_link_side sides) k.link_sides l h.link_side h.link_side_is;
      failed_is = h.failed_is;
    }

    seen_so : (r : Result HopFront HopFault) → Seen takes front_p (link_of k l) r p q → Seen takes2 front_q (link_of (here k) l) r (m p) (m q) × Good q
    seen_so r h =
        let x = finds_so (record { table = k.monitor.circuits; link = l }) r p q good h.finds in
        (record { link_side = link_side_so h.link_side; finds = x.0 }, x.1)

    -- a look that leaves nothing to follow
    pub looks_nothing : LooksAhead takes front_p l (at_side k p) (Ok front.Nothing) (at_side k2 q)
        → LooksAhead takes2 front_q l (at_side (here k) (m p)) (Ok front.Nothing) (at_side (here k2) (m q)) × Good q
    looks_nothing (sees, e) = let x = seen_so (Ok first.Nothing) sees in ((x.0, ap here e), x.1)

    pub looks_acknowledged : LooksAhead takes front_p l (at_side k p) (Ok front.Acknowledged) (at_side k2 q)
        → LooksAhead takes2 front_q l (at_side (here k) (m p)) (Ok front.Acknowledged) (at_side (here k2) (m q)) × Good q
    looks_acknowledged (sees, e) = let x = seen_so (Ok first.Acknowledged) sees in ((x.0, ap here e), x.1)

    -- it finds a fragment for an end of the core
    pub looks_arrival : (frag : Frag) (e : EndId) → LooksAhead takes front_p l (at_side k p) (Ok (front.Arrival frag e)) (at_side k2 q)
        → LooksAhead takes2 front_q l (at_side (here k) (m p)) (Ok (front.Arrival frag e)) (at_side (here k2) (m q)) × Good q
    looks_arrival frag e (sees, s) = let x = seen_so (Ok (first.Goes frag (End e))) sees in ((x.0, ap here s), x.1)

    -- it finds one that goes on over another of its links
    pub looks_onward : (frag : Frag) (to : ℕ) (c : Circuit) → LooksAhead takes front_p l (at_side k p) (Ok (front.Onward frag to c)) (at_side k2 q)
        → LooksAhead takes2 front_q l (at_side (here k) (m p)) (Ok (front.Onward frag (moved sides to) c)) (at_side (here k2) (m q)) × Good q
    looks_onward frag to c (goes, s) =
        let x = seen_so (Ok (first.Goes frag (Link goes.link c))) goes.seen in
        let side = side_moved sides queues k goes.link.0 ∙ ap (λ (o : Option ℕ). given o None λ n. Some (moved sides n)) goes.side_is in
        ((record { link = goes.link; seen = x.0; side_is = side }, ap here s), x.1)

    -- it finds a monitors' message
    pub looks_message : (frag : Frag) → LooksAhead takes front_p l (at_side k p) (Ok (front.Message frag)) (at_side k2 q)
        → LooksAhead takes2 front_q l (at_side (here k) (m p)) (Ok (front.Message frag)) (at_side (here k2) (m q)) × Good q
    looks_message frag (sees, s) = let x = seen_so (Ok (first.Monitor frag)) sees in ((x.0, ap here s), x.1)

    pub looks_failed : (fault : LinkReceiveFault) → LooksAhead takes front_p l (at_side k p) (Err fault) (at_side k2 q)
        → LooksAhead takes2 front_q l (at_side (here k) (m p)) (Err fault) (at_side (here k2) (m q)) × Good q
    looks_failed link.Failed (failed, e, same) = (
      (
        record {
          link_side = moved_link_side sides failed.link_side;
          link_side_is = goes_to (moved_link_side sides) k.link_sides l failed.link_side failed.link_side_is;
          failed_is = failed.failed_is;
        },
        ap here e,
        ap m same,
      ),
      subst Good (sym same) good,
    )
    looks_failed link.Misrouted (sees, e) =
        let x = seen_so (Err hop.Misrouted) sees in ((x.0, ap here e ∙ renumbered_failed sides queues k l), x.1)
    looks_failed link.Marked (sees, e) =
        let x = seen_so (Err hop.Marked) sees in ((x.0, ap here e ∙ renumbered_failed sides queues k l), x.1)
    looks_failed fault h = absurd h

-- ---- the event

-- nothing follows it
abbrev pub IsLast : Result LinkFront LinkReceiveFault → Answer → Type 0
IsLast (Ok front.Nothing) a = a ≡ nothing
IsLast (Ok front.Acknowledged) a = a ≡ done
IsLast (Ok found) a = ⊥
IsLast (Err fault) a = a ≡ refused (link_number fault)

module _ (law : StepsAgree) (n i : ℕ) (l : LinkId) (jobs : List CoreJob) (xs ys : List JoinedCore) (s : State) (show : TheyShow xs s) (whole : AreWhole xs)
    (still : AreWhole ys) where
  abbrev w : TheWorld
  w = show.world

  over_link : (found : Result LinkFront LinkReceiveFault) (answer : Answer) (h : HappensAt jobs n (looked i l found) xs ys)
      → ((which : WhichSide) (p q : FacingSide) (k k2 : TheCore) → IsGood p.across p
      → LooksAhead (Truly SharedTakes) (λ (z : FacingSide). front_seen z.side.peeked) l.0 (at_side k p) found (at_side k2 q)
      → LooksAhead SideTakes front_for l.0 (at_side (renumbered h.before.sides h.before.queues k) (lent_side which p)) found
      (at_side (renumbered h.before.sides h.before.queues k2) (lent_side which q)) × IsGood p.across q)
      → ((at : LinkNumbers) (v : TheWorld) → ForwardsBy found n at v answer v)
      → MachineDoes (forward n (neighbour_on h.before.run.core l)) answer s ys
  over_link found answer h lifts follows =
      let (m, on, same, sound, acts, known) = h.happens in
      let noted = nothing_noted h.after m same in
      let x = begun jobs n (looked i l found) xs ys h in
      let it = ring_over w jobs n (looked i l found) xs ys h show.joined whole m
      (ended_whole jobs n (looked i l found) xs ys h m noted still) i
      (λ k p k2 q. LooksAhead (Truly SharedTakes) (λ (z : FacingSide). front_seen z.side.peeked) l.0 (at_side k p) found (at_side k2 q))
      (LooksWith l.0 found)
      (λ which p q good event. lifts which p q h.beside.core m.core good event)
      on in
      let core_is = there_is jobs n (looked i l found) xs ys h w show.joined in
      let side = side_lent (side_of_link h.beside.core.link_sides l.0) i (length h.beside.rings) h.in_place in
      let places = side_found w s n x l i it.number show.shows core_is (across h.beside.core l i sound.core sound.table side) side it.number_is in
      let at : LinkNumbers = record { link = l.0; side = it.number } in
      let does : Forwards n (neighbour_on h.beside.core l) w answer it.world =
      subst (λ (o : Option LinkNumbers). Given o (Refuses 73 w answer it.world) (λ z.
      ForwardsFirst n z w answer it.world ⊎ IsStray w.rings (ring_at z.side) w answer it.world))
      (sym places) (inl (record { ahead = found; looked = it.world; looks = it.over; follows = follows at it.world })) in
      subst (λ (c : ℕ). MachineDoes (forward n c) answer s ys) (ap (λ (t : TheRun TheSide). neighbour_on t.core l) h.beside_is.own)
      (finish jobs n (looked i l found) xs ys h law (forward n (neighbour_on h.beside.core l)) answer s w it.world m show.shows noted it.they_make it.bindings
      does)

  fronts : (which : WhichSide) (x y : FacingSide) (f : Frag) → SideTakes (lent_side which x) (saw f) (lent_side which y) → front_for (lent_side which y) ≡ saw f
  fronts which x y f h = fronts_by which (lent_side which x).duo.now (lent_side which y).duo.now f h.1

  pub looks_so : (found : Result LinkFront LinkReceiveFault) (answer : Answer) → IsLast found answer → (h : HappensAt jobs n (looked i l found) xs ys)
      → MachineDoes (forward n (neighbour_on h.before.run.core l)) answer s ys
  looks_so (Ok front.Nothing) answer is h =
      over_link (Ok front.Nothing) answer h
      (λ which p q k k2 good. looks_nothing (IsGood p.across) (lent_side which) (Truly SharedTakes) SideTakes (takes_map which p.across)
      (λ (z : FacingSide). front_seen z.side.peeked) front_for (fronts which) h.before.sides h.before.queues l.0 k k2 p q good)
      (λ at v. (is, refl))
  looks_so (Ok front.Acknowledged) answer is h =
      over_link (Ok front.Acknowledged) answer h
      (λ which p q k k2 good. looks_acknowledged (IsGood p.across) (lent_side which) (Truly SharedTakes) SideTakes (takes_map which p.across)
      (λ (z : FacingSide). front_seen z.side.peeked) front_for (fronts which) h.before.sides h.before.queues l.0 k k2 p q good)
      (λ at v. (is, refl))
  looks_so (Err fault) answer is h =
      over_link (Err fault) answer h
      (λ which p q k k2 good. looks_failed (IsGood p.across) (lent_side which) (Truly SharedTakes) SideTakes (takes_map which p.across)
      (λ (z : FacingSide). front_seen z.side.peeked) front_for (fronts which) h.before.sides h.before.queues l.0 k k2 p q good fault)
      (λ at v. (is, refl))
  looks_so (Ok (front.Message frag)) answer is h = absurd is
  looks_so (Ok (front.Onward frag side c)) answer is h = absurd is
  looks_so (Ok (front.Arrival frag e)) answer is h = absurd is

last_is : (found : Result LinkFront LinkReceiveFault) (answer : Answer) → look_answer found ≡ Some answer → IsLast found answer
last_is (Ok front.Nothing) answer e = cc
last_is (Ok front.Acknowledged) answer e = cc
last_is (Ok (front.Message frag)) answer e = absurd (cc)
last_is (Ok (front.Onward frag side c)) answer e = absurd (cc)
last_is (Ok (front.Arrival frag e)) answer q = absurd (cc)
last_is (Err fault) answer e = cc

pub looks_are : StepsAgree → (n i : ℕ) (l : LinkId) (found : Result LinkFront LinkReceiveFault) (answer : Answer) → look_answer found ≡ Some answer
    → IsTheMachinesOnLink (looked i l found) n l (forward n) answer
looks_are law n i l found answer is jobs xs ys s show whole still h =
    looks_so law n i l jobs xs ys s show whole still found answer (last_is found answer is) h
