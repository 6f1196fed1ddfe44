-- A look of one of the cores that finds a fragment which goes on over another of its links, and the fragment's passing on behind the
-- look, are the machine's forward: a put onto the one ring and a take from the other.
use Rattle.std.proofs.Common.{◌≡◌, ◌≢◌, ◌⊎◌, inl, inr, refl, sym, ◌∙◌, ap, subst, ℕ, ◌+◌, ◌-◌, ◌%◌, ◌==◌, Bool, if◌then◌else◌, List, [], ◌∷◌, length, map, slice_get, slice_set, Some, arith}
use Rattle.std.specs.Prelude.{Ok}
use Rattle.fl_base.specs.declared.fragment.Frag.{Frag}
use Rattle.fl_base.specs.declared.identity.LinkId.{LinkId}
use Rattle.fl_base.specs.declared.identity.Circuit.{Circuit}
use Rattle.fl_base.specs.Control.{bare, with_circuit}
use Rattle.fl_hop.proofs.Lists.{within, at_within, set_here, set_there, set_set, set_swap}
use Rattle.fl_hop.specs.declared.forward.ForwardOutcome.{ForwardOutcome}
use Rattle.fl_hop.specs.declared.forward.ForwardOutcome.TheVariants.{Moved, Full, Spent}
use Rattle.fl_hop.specs.Forward.{put_label, Leaves}
use Rattle.fl_link.specs.Looks.{Look, placed, no_room, spent, found}
use Rattle.fl_ring.specs.Duo.{TheDuo}
use Rattle.fl_ring.specs.Side.{SidePuts, SideTakes}
use Rattle.fl_ring.specs.SharedSides.{TheSide, SharedPuts, SharedTakes}
use Rattle.fl_ring.specs.SharedSeats.{front_seen}
use Rattle.fl_core.specs.declared.answer.LinkFront.TheVariants as front
use Rattle.fl_core.specs.declared.core_job.CoreJob.{CoreJob}
use Rattle.fl_core.specs.Numbers.{moved, renumbered}
use Rattle.fl_core.specs.View.{TheCore}
use Rattle.fl_core.proofs.Numbering.{goes_to}
use Rattle.fl_core_run.specs.Run.{TheRun}
use Rattle.fl_core_run.specs.LogEntries.{LogEntry, TakesAt, looked, passed}
use Rattle.fl_model.specs.Events.{forward, Answer}
use Rattle.fl_model.specs.Rings.{RingSide, first_side, second_side}
use Rattle.fl_model.specs.Monitors.{Core, Link, link_to}
use Rattle.fl_model.specs.SoundPlaces.{core_to, opposite}
use Rattle.fl_model.specs.State.{State, core_of}
use Rattle.fl_world_refines.specs.View.{TheWorld, ring_at, which_at, with_core, with_ring}
use Rattle.fl_world_refines.specs.ShowsState.{Shows}
use Rattle.fl_world_refines.specs.Lending.{front_for}
use Rattle.fl_world_refines.specs.Linking.{LinkNumbers, link_side_to, ForwardsBy, move_of, MovesOn, moved_answer}
use Rattle.fl_world_refines.specs.Laws.{StepsAgree}
use Rattle.fl_world_refines.proofs.FramesBase.{same_some, not_both}
use Rattle.fl_world_refines.proofs.PassingLinkSides.{LinkedTo, LinkSides, no_link_side, one_link_side, link_side_at, link_sides, its_between, ring_of_number}
use Rattle.fl_world_refines.proofs.Tests.{by_test}
use Rattle.fl_world_refines.proofs.WritingPieces.{same_core_there, same_ring_there}
use Rattle.fl_cores_joined.specs.Rings.{FacingSide, ring_by, Truly}
use Rattle.fl_cores_joined.specs.Joined.{JoinedCore, in_world, HasSide, IsJoined, AreWhole, across_from, alone}
use Rattle.fl_cores_joined.specs.Steps.{true_ways, HappensAt, neighbour_on}
use Rattle.fl_cores_joined.specs.Laws.{TheyShow, MachineDoes, PassesJoin}
use Rattle.fl_cores_joined.proofs.Behind.{Behind, seen, mid_joined, same_core, same_number, places, forward_is}
use Rattle.fl_cores_joined.proofs.Joining.{map_set, long_set, is_even, is_odd, Lent, lent, moved_to, side_others, ring_joined}
use Rattle.fl_cores_joined.proofs.Linking.{across, side_found}
use Rattle.fl_cores_joined.proofs.Looking.{fronts_by, looks_onward}
use Rattle.fl_cores_joined.proofs.Over.{own_sides}
use Rattle.fl_cores_joined.proofs.Stepping.{begun, begun_is, begun_beside, ended, there_is, lent_side, nothing_noted, IsGood, puts_map, takes_map}

-- ---- two links of a core are of different rings

abbrev numbers : ℕ → ℕ → LinkNumbers
numbers m side = record { link = m; side = side }

other_side : (x y : RingSide) → (x ≡ y) ⊎ (x ≡ opposite y)
other_side first_side first_side = inl refl
other_side first_side second_side = inr refl
other_side second_side first_side = inr refl
other_side second_side second_side = inl refl

core_parts : (a b c d : ℕ) → core_to a b ≡ core_to c d → (a ≡ c) × (b ≡ d)
core_parts a b c d h = (cc, cc)

module _ (w : TheWorld) (s : State) (shows : Shows w s) (n : ℕ) where
  same_link : (c d l o : ℕ) (link next : Link) → LinkedTo w s n c l link → LinkedTo w s n d o next → link.ring.ring ≡ next.ring.ring → l ≡ o
  same_link c d l o link next t u same = by (other_side next.ring.side link.ring.side)
    where
      there : c ≡ d → l ≡ o
      there e =
          let core : t.k ≡ u.k = same_some (core_of s n) t.k u.k t.k_is u.k_is in
          same_some (link_to d u.k) l o (ap (λ (k : Core). link_to d k) (sym core) ∙ ap (λ (m : ℕ). link_to m t.k) (sym e) ∙ t.to) u.to

      by : (next.ring.side ≡ link.ring.side) ⊎ (next.ring.side ≡ opposite link.ring.side) → l ≡ o
      by (inl e) =
          let one = core_parts n d n c (shows.sound.owners (core_to n d) (core_to n c) next.ring (next, its_between w s n d o next u, refl)
          (link, its_between w s n c l link t, λ j. record { ring = same j; side = sym e j })) in
          there (sym one.1)
      by (inr e) =
          let back = shows.sound.links n c link (its_between w s n c l link t) in
          let one = core_parts n d c n (shows.sound.owners (core_to n d) (core_to c n) next.ring (next, its_between w s n d o next u, refl)
          (back.back, back.back_is, back.same ∙ (λ j. record { ring = same j; side = sym e j }))) in
          there (sym one.0 ∙ sym one.1)

  pub rings_apart : (c d l o a b : ℕ) → link_side_to w n c ≡ Some (record { link = l; side = a }) → link_side_to w n d ≡ Some (record { link = o; side = b })
      → l ≢ o → ring_at a ≢ ring_at b
  rings_apart c d l o a b p q other same = by (link_sides w s shows n c) (link_sides w s shows n d)
    where
      by : LinkSides w s n c → LinkSides w s n d → ⊥
      by (no_link_side none e f) y = not_both (link_side_to w n c) (numbers l a) none p
      by (one_link_side m link x t) (no_link_side none e f) = not_both (link_side_to w n d) (numbers o b) none q
      by (one_link_side m link x t) (one_link_side k next y u) =
          let here = same_some (link_side_to w n c) (link_side_at m link) (numbers l a) x p in
          let there = same_some (link_side_to w n d) (link_side_at k next) (numbers o b) y q in
          let ring_a : link.ring.ring ≡ ring_at a = sym (ring_of_number link.ring) ∙ ap (λ (z : LinkNumbers). ring_at z.side) here in
          let ring_b : next.ring.ring ≡ ring_at b = sym (ring_of_number next.ring) ∙ ap (λ (z : LinkNumbers). ring_at z.side) there in
          other (sym (ap (λ (z : LinkNumbers). z.link) here) ∙ same_link c d m k link next t u (ring_a ∙ same ∙ sym ring_b)
          ∙ ap (λ (z : LinkNumbers). z.link) there)

-- ---- a put or a take at one of a core's sides, by which the core stays

pub ring_across : (m : ℕ) → ring_at (across_from m) ≡ ring_at m
ring_across m =
    by_test (m % 2 == 0)
    (λ b.
    let next : across_from m ≡ m + 1 = ap (λ (c : Bool). if c then m + 1 else m - 1) b in
    let e = is_even m b in
    omega (arith, next, e))
    (λ b.
    let next : across_from m ≡ m - 1 = ap (λ (c : Bool). if c then m + 1 else m - 1) b in
    let e = is_odd m b in
    omega (arith, next, e))

pub long_map : {X Y : Type 0} (f : X → Y) (xs : List X) → length (map f xs) ≡ length xs
long_map f [] = refl
long_map f (x ∷ xs) = let e = long_map f xs in omega (arith, e)

module _ (w : TheWorld) (xs : List JoinedCore) (joined : IsJoined w xs) (n : ℕ) (c : JoinedCore) (r m : TheRun FacingSide) where
  abbrev running : TheRun FacingSide → JoinedCore
  running t = record c { run = alone t }

  module _ (x_is : slice_get xs n ≡ Some (running r)) (i number : ℕ) (number_is : slice_get c.sides i ≡ Some number) (p q : FacingSide)
      (core : m.core ≡ r.core) (rest : m ≡ record r { core = m.core; rings = slice_set r.rings i q }) where
    sides : own_sides m.rings ≡ slice_set (own_sides r.rings) i q.side
    sides = ap (λ (t : TheRun FacingSide). own_sides t.rings) rest ∙ map_set (λ (z : FacingSide). z.side) r.rings i q

    sides_long : length (own_sides m.rings) ≡ length (own_sides r.rings)
    sides_long = ap length sides ∙ long_set (own_sides r.rings) i q.side

    core_stays : with_core w n (in_world (running m)) ≡ w
    core_stays =
        ap (λ (k : TheCore). with_core w n (renumbered c.sides c.queues k)) core
        ∙ same_core_there w n (in_world (running r)) (ap (λ (cs : List TheCore). slice_get cs n) joined.cores ∙ goes_to in_world xs n (running r) x_is)

    -- the ring of that side alone has changed
    pub side_joined : slice_get r.rings i ≡ Some p → HasSide xs (across_from number) p.across → IsGood p.across q
        → IsJoined (with_ring w (ring_at number) (ring_by (which_at number) q)) (slice_set xs n (running m))
    side_joined p_is across_is good =
        subst (λ (v : TheWorld). IsJoined (with_ring v (ring_at number) (ring_by (which_at number) q)) (slice_set xs n (running m))) core_stays
        (ring_joined w xs joined n (running r) x_is (alone m) sides_long (ap (λ (t : TheRun FacingSide). length t.queues) rest)
        (ap (λ (t : TheRun FacingSide). t.offers) rest) i number p q number_is (goes_to (λ (z : FacingSide). z.side) r.rings i p p_is)
        across_is good.0 good.1 sides (ap (λ (t : TheRun FacingSide). t.queues) rest))

    -- a side of another ring stands where it stood
    pub side_there : (k : ℕ) (a : TheSide) → ring_at k ≢ ring_at number → HasSide xs k a → HasSide (slice_set xs n (running m)) k a
    side_there k a apart has =
        side_others w xs joined n (running r) x_is (alone m) sides_long (ap (λ (t : TheRun FacingSide). length t.queues) rest)
        (ap (λ (t : TheRun FacingSide). t.offers) rest) i number k a q.side number_is sides (λ e. apart (ap ring_at e)) has

-- ---- the event

module _ (law : StepsAgree) {jobs : List CoreJob} {n i : ℕ} {l : LinkId} (frag : Frag) (to : ℕ) (c : Circuit) {xs ms : List JoinedCore} {s : State} {h : HappensAt jobs n (looked i l (Ok (front.Onward frag to c))) xs ms}
    (b : Behind jobs n i l (Ok (front.Onward frag to c)) (Ok (front.Onward frag (moved h.before.sides to) c)) xs ms s h)
    (outcome : ForwardOutcome) (ys : List JoinedCore) (g : HappensAt jobs n (passed i to frag c outcome) ms ys) where
  abbrev w : TheWorld
  w = (seen b).world

  abbrev look : LogEntry
  look = looked i l (Ok (front.Onward frag to c))

  abbrev log_entry : LogEntry
  log_entry = passed i to frag c outcome

  abbrev r : TheRun FacingSide
  r = g.beside

  abbrev x : JoinedCore
  x = begun jobs n log_entry ms ys g

  x_is : slice_get ms n ≡ Some x
  x_is = begun_is jobs n log_entry ms ys g

  was_sides : g.before.sides ≡ h.before.sides
  was_sides = ap (λ (z : JoinedCore). z.sides) (same_core b g.before g.before_is)

  numbered : slice_get g.before.sides i ≡ Some (seen b).number
  numbered = ap (λ (ns : List ℕ). slice_get ns i) was_sides ∙ (seen b).number_is

  -- the side that it comes from
  p : (p : FacingSide) × (slice_get r.rings i ≡ Some p)
  p =
      let less = within g.before.sides i (seen b).number numbered in
      let long = (mid_joined b).numbered.sides n g.before g.before_is in
      let same : length g.before.run.rings ≡ length (own_sides r.rings) = ap (λ (t : TheRun TheSide). length t.rings) (sym g.beside_is.own) in
      let all = long_map (λ (z : FacingSide). z.side) r.rings in
      at_within r.rings i (omega (arith, less, long, same, all))

  from : Lent w ms n x i p.0
  from = lent w ms n x r i p.0 (mid_joined b) x_is (begun_beside jobs n log_entry ms ys g) p.1

  from_number : from.number ≡ (seen b).number
  from_number = same_number b g.before g.before_is from.number from.number_is

  -- ---- onto this side of another link

  module _ (q : FacingSide) (q_is : slice_get r.rings to ≡ Some q) where
    onto : Lent w ms n x to q
    onto = lent w ms n x r to q (mid_joined b) x_is (begun_beside jobs n log_entry ms ys g) q_is

    onto_is : slice_get h.before.sides to ≡ Some onto.number
    onto_is = ap (λ (ns : List ℕ). slice_get ns to) (sym was_sides) ∙ onto.number_is

    onto_number : onto.number ≡ moved h.before.sides to
    onto_number = sym (moved_to h.before.sides to onto.number onto_is)

    apart : ring_at from.number ≢ ring_at onto.number
    apart e =
        let (goes, same) = h.happens.1.event in
        let (sees, stands, number, way_is, plain, way_on) = goes.seen.finds in
        let (there, other, some, few) = way_on in
        let sound = h.happens.3 in
        let it = side_found b.show.world s n (begun jobs n look xs ms h) goes.link to onto.number b.show.shows
        (there_is jobs n look xs ms h b.show.world b.show.joined)
        (across h.beside.core goes.link to sound.core sound.table goes.side_is) goes.side_is onto_is in
        rings_apart b.show.world s b.show.shows n (neighbour_on h.beside.core l) (neighbour_on h.beside.core goes.link) l.0 goes.link.0
        (seen b).number onto.number (places b) it other (ap ring_at (sym from_number) ∙ e)

    sides_apart : i ≢ to
    sides_apart e =
        apart (ap ring_at (same_some (slice_get g.before.sides to) from.number onto.number (ap (slice_get g.before.sides) (sym e) ∙ from.number_is) onto.number_is))

    -- what was seen moves on there, in the world
    follows : (answer : Answer) (w2 : TheWorld) → MovesOn (move_of from.number onto.number frag c) w answer w2
        → ForwardsBy (Ok (front.Onward frag (moved h.before.sides to) c)) n (record { link = l.0; side = (seen b).number }) w answer w2
    follows answer w2 moves =
        inl (subst (λ (k : ℕ). MovesOn (move_of (seen b).number k frag c) w answer w2) onto_number
        (subst (λ (k : ℕ). MovesOn (move_of k onto.number frag c) w answer w2) from_number moves))

    module _ (m : TheRun FacingSide) (q2 : FacingSide) (it : Look) (put : Truly SharedPuts q it q2) (core : m.core ≡ r.core)
        (rest : m ≡ record r { core = m.core; rings = slice_set r.rings to q2 }) (is : it ≡ put_label outcome (bare (with_circuit c.0 frag))) where
      puts : SidePuts (lent_side (which_at onto.number) q) it (lent_side (which_at onto.number) q2) × IsGood q.across q2
      puts = puts_map (which_at onto.number) q.across q q2 it (onto.facing, refl) put

      abbrev put_duo : TheDuo
      put_duo = ring_by (which_at onto.number) q2

      put_joined : IsJoined (with_ring w (ring_at onto.number) put_duo) (slice_set ms n (ended jobs n log_entry ms ys g m))
      put_joined = side_joined w ms (mid_joined b) n g.before r m x_is to onto.number onto.number_is q q2 core rest q_is onto.across puts.1

      abbrev left_world : FacingSide → TheWorld
      left_world p2 = with_ring (with_ring w (ring_at from.number) (ring_by (which_at from.number) p2)) (ring_at onto.number) put_duo

      moves : (p2 : FacingSide)
          → Leaves SideTakes outcome (bare frag) (record { before = lent_side (which_at from.number) p.0; after = lent_side (which_at from.number) p2 })
          → MovesOn (move_of from.number onto.number frag c) w (moved_answer outcome) (left_world p2)
      moves p2 leaves = record {
        apart = apart;
        ring = from.ring;
        ring_is = from.ring_is;
        side = lent_side (which_at from.number) p.0;
        lent = record { ring = sym from.made; which = refl };
        next = onto.ring;
        next_is = onto.ring_is;
        next_side = lent_side (which_at onto.number) q;
        next_lent = record { ring = sym onto.made; which = refl };
        outcome = outcome;
        put_side = lent_side (which_at onto.number) q2;
        puts = subst (λ (a : Look). SidePuts (lent_side (which_at onto.number) q) a (lent_side (which_at onto.number) q2)) is puts.0;
        left_side = lent_side (which_at from.number) p2;
        left = leaves;
        answer = refl;
        rest = refl;
      }

      -- it stays, where there is no room
      stays : g.after ≡ m
          → Leaves SideTakes outcome (bare frag) (record { before = lent_side (which_at from.number) p.0; after = lent_side (which_at from.number) p.0 })
          → MachineDoes (forward n (neighbour_on h.before.run.core l)) (moved_answer outcome) s ys
      stays noted leaves =
          let same : with_ring w (ring_at from.number) (ring_by (which_at from.number) p.0) ≡ w =
          same_ring_there w (ring_at from.number) (ring_by (which_at from.number) p.0) (from.ring_is ∙ ap (λ (d : TheDuo). Some d) from.made) in
          forward_is b law ys log_entry g m (nothing_noted g.after m noted) (left_world p.0)
          (subst (λ (v : TheWorld). IsJoined (with_ring v (ring_at onto.number) put_duo) (slice_set ms n (ended jobs n log_entry ms ys g m))) (sym same) put_joined)
          (moved_answer outcome) (seen b).bindings (follows (moved_answer outcome) (left_world p.0) (moves p.0 leaves))

      -- it is taken from the side that it comes from
      module _ (last : TheRun FacingSide) (on : TakesAt true_ways i (found (bare frag)) m last) where
        p_then : slice_get m.rings i ≡ Some p.0
        p_then = ap (λ (t : TheRun FacingSide). slice_get t.rings i) rest ∙ set_there r.rings to q2 i p.0 p.1 sides_apart

        takes : SideTakes (lent_side (which_at from.number) p.0) (found (bare frag)) (lent_side (which_at from.number) on.after) × IsGood p.0.across on.after
        takes =
            takes_map (which_at from.number) p.0.across p.0 on.after (found (bare frag)) (from.facing, refl)
            (subst (λ (z : FacingSide). Truly SharedTakes z (found (bare frag)) on.after) (same_some (slice_get m.rings i) on.before p.0 on.before_is p_then) on.event.0)

        took_joined : IsJoined (left_world on.after) (slice_set ms n (ended jobs n log_entry ms ys g last))
        took_joined =
            let across_there = side_there w ms (mid_joined b) n g.before r m x_is to onto.number onto.number_is q q2 core rest (across_from from.number) p.0.across
            (λ e. apart (sym (ring_across from.number) ∙ e)) from.across in
            let both = side_joined (with_ring w (ring_at onto.number) put_duo) (slice_set ms n (ended jobs n log_entry ms ys g m)) put_joined n g.before m last
            (set_here ms n x (ended jobs n log_entry ms ys g m) x_is) i from.number from.number_is p.0 on.after on.event.1 on.rest p_then across_there takes.1 in
            subst (λ (xs : List JoinedCore). IsJoined (left_world on.after) xs)
            (set_set ms n (ended jobs n log_entry ms ys g m) (ended jobs n log_entry ms ys g last))
            (subst (λ (ds : List TheDuo). IsJoined (record w { rings = ds }) (slice_set (slice_set ms n (ended jobs n log_entry ms ys g m)) n (ended jobs n log_entry ms ys g last)))
            (set_swap w.rings (ring_at onto.number) (ring_at from.number) put_duo (ring_by (which_at from.number) on.after) (λ e. apart (sym e))) both)

        goes_on : g.after ≡ last
            → Leaves SideTakes outcome (bare frag) (record { before = lent_side (which_at from.number) p.0; after = lent_side (which_at from.number) on.after })
            → MachineDoes (forward n (neighbour_on h.before.run.core l)) (moved_answer outcome) s ys
        goes_on noted leaves =
            forward_is b law ys log_entry g last (nothing_noted g.after last noted) (left_world on.after) took_joined
            (moved_answer outcome) (seen b).bindings (follows (moved_answer outcome) (left_world on.after) (moves on.after leaves))

module _ (law : StepsAgree) (n i : ℕ) (l : LinkId) (frag : Frag) (to : ℕ) (c : Circuit) (jobs : List CoreJob) (xs ms ys : List JoinedCore) (s : State)
    (show : TheyShow xs s) (whole : AreWhole xs) (h : HappensAt jobs n (looked i l (Ok (front.Onward frag to c))) xs ms) where
  looks : Behind jobs n i l (Ok (front.Onward frag to c)) (Ok (front.Onward frag (moved h.before.sides to) c)) xs ms s h
  looks = record {
    show = show;
    whole = whole;
    stays = h.happens.1.event.1;
    lifts = λ which p q good event.
        looks_onward (IsGood p.across) (lent_side which) (Truly SharedTakes) SideTakes (takes_map which p.across)
        (λ (z : FacingSide). front_seen z.side.peeked) front_for
        (λ x y f t. fronts_by which (lent_side which x).duo.now (lent_side which y).duo.now f t.1)
        h.before.sides h.before.queues l.0 h.beside.core h.happens.0.core p q good frag to c event;
  }

  pub passes_there : (outcome : ForwardOutcome) → HappensAt jobs n (passed i to frag c outcome) ms ys
      → MachineDoes (forward n (neighbour_on h.before.run.core l)) (moved_answer outcome) s ys
  passes_there Moved g =
      let (last, (m, put, take), noted, sound, acts, known) = g.happens in
      goes_on law frag to c looks Moved ys g put.before put.before_is m put.after (placed (bare (with_circuit c.0 frag))) put.event.0 put.event.1 put.rest refl
      last take noted (takes law frag to c looks Moved ys g put.before put.before_is m put.after (placed (bare (with_circuit c.0 frag))) put.event.0 put.event.1 put.rest refl
      last take).0
  passes_there Full g =
      let (last, put, noted, sound, acts, known) = g.happens in
      stays law frag to c looks Full ys g put.before put.before_is last put.after no_room put.event.0 put.event.1 put.rest refl noted refl
  passes_there Spent g =
      let (last, put, noted, sound, acts, known) = g.happens in
      stays law frag to c looks Spent ys g put.before put.before_is last put.after spent put.event.0 put.event.1 put.rest refl noted refl

pub passes_are : StepsAgree → PassesJoin
passes_are law n i to l frag c outcome jobs xs ms ys s show whole h g = passes_there law n i l frag to c jobs xs ms ys s show whole h outcome g
