-- A link is made between two cores, over a new ring.
use Rattle.std.proofs.Common.{◌≡◌, ◌≢◌, refl, sym, ◌∙◌, ap, subst, ℕ, zero, suc, ◌+◌, ◌*◌, ◌==◌, ◌||◌, ◌&&◌, ◌≤◌, ◌⊎◌, inl, inr, nat_lt, not, Bool, true, false, if◌then◌else◌, List, [], ◌∷◌, ◌++◌, length, map, slice_get, slice_set, Option, Some, None, arith}
use Rattle.std.specs.Prelude.{is_some}
use Rattle.std.proofs.lemmas.Bool.{eq-eqb}
use Rattle.fl_base.specs.declared.identity.EndId.{EndId}
use Rattle.fl_base.specs.Given.{given}
use Rattle.fl_base.specs.Numbered.{core_id}
use Rattle.fl_hop.specs.Table.{TheCircuits, link_of}
use Rattle.fl_hop.proofs.Lists.{push_cases, set_there, within, at_within}
use Rattle.fl_ring.specs.Duo.{TheDuo, MayHaveSlots}
use Rattle.fl_core.specs.View.{TheCore, side_of_link}
use Rattle.fl_core.specs.Making.{linked}
use Rattle.fl_core.specs.declared.wiring.EndWiring.{EndWiring}
use Rattle.fl_core.specs.declared.wiring.LinkSide.{LinkSide}
use Rattle.fl_model.specs.Given.{changed_at}
use Rattle.fl_model.specs.Events.{Answer, done, refused}
use Rattle.fl_model.specs.Rings.{Ring, RingEnd, RingSide, first_side, second_side, fresh_ring}
use Rattle.fl_model.specs.Monitors.{Core, link_to}
use Rattle.fl_model.specs.State.{State, answers}
use Rattle.fl_model.specs.Making.{linked as machine_linked, with_new_link, is_core, has_link, is_ring_size, count_dispatchers}
use Rattle.fl_model.specs.SoundPlaces.{core_to}
use Rattle.fl_model.specs.Sound.{Sound}
use Rattle.fl_world_refines.proofs.Boxes.{monitors_begin}
use Rattle.fl_model_laws.proofs.Places.{ring_of, Linked, IsEven, joins, join_stays, join_comes, join_even, changed_other}
use Rattle.fl_model_laws.proofs.PlacesStep.{length_push, plan_of, link_plan, link_planned, to_linked}
use Rattle.fl_world_refines.specs.View.{TheWorld, number_in}
use Rattle.fl_world_refines.specs.Lending.{Refuses}
use Rattle.fl_world_refines.specs.Making.{is_core as is_world_core, has_link as has_world_link, new_duo, IsLinked}
use Rattle.fl_world_refines.specs.ShowsState.{link_side_of, CoreShows, ShowsState, Shows}
use Rattle.fl_world_refines.specs.Laws.{Agrees, LinksAgree}
use Rattle.fl_world_refines.proofs.MakingBase.{refuses, by_if, map_push}
use Rattle.fl_world_refines.proofs.MakingGrows.{CoreGrows, CoresGrow, cores_same, cores_set, ring_between, IsNewRing}
use Rattle.fl_world_refines.proofs.MakingWider.{no_new, Widens, Wider, wider}
use Rattle.fl_world_refines.proofs.MakingCores.{AllShow, all_of, shows_of, shows_set, core_there, count_more}
use Rattle.fl_world_refines.proofs.MakingSizes.{is_size, may_be_size}

-- ---- one core

core_shows : (k : Core) (c : TheCore) (neighbour n m : ℕ) (side : RingSide) → CoreShows k c → m ≡ 2 * n + number_in side
    → CoreShows (machine_linked neighbour n side k) (linked c (core_id neighbour) m)
core_shows k c neighbour n m side h e =
    let at : RingEnd = record { ring = n; side = side } in
    let begun = monitors_begin.linked k c.monitor (core_id neighbour) at h.monitor in
    record {
      monitor = record { circuits = begun.circuits; outboxes = begun.outboxes };
      link_sides = ap (λ ls. ls ++ record { side = m; failed = false } ∷ []) h.link_sides
          ∙ ap (λ x. map link_side_of k.links ++ record { side = x; failed = false } ∷ []) e
          ∙ sym (map_push link_side_of k.links (record { ring = at; outbox = [] }));
      count = h.count;
      dispatchers = λ p x d q r. (let was = h.dispatchers p x d q r in record { lists = was.lists; ends = was.ends });
    }

side_stays : (link_sides : List LinkSide) (y : LinkSide) (l m : ℕ) → side_of_link link_sides l ≡ Some m → side_of_link (link_sides ++ y ∷ []) l ≡ Some m
side_stays [] y l m h = absurd (cc)
side_stays (x ∷ link_sides) y zero m h = h
side_stays (x ∷ link_sides) y (suc l) m h = side_stays link_sides y l m h

core_grows : (New : EndId → EndWiring → Type 0) (c : TheCore) (neighbour m : ℕ) → CoreGrows New c (linked c (core_id neighbour) m)
core_grows New c neighbour m = record {
  places = λ e n h. h;
  wired_ends = λ n p h. h;
  seats = λ n x h. h;
  link_sides = λ l x h. side_stays c.link_sides (record { side = m; failed = false }) l x h;
  arrivals = λ n q h. h;
  back = λ e n h. inl h;
  wirings = λ e x h. inl h;
}

-- ---- the world

module _ (a b size : ℕ) (w : TheWorld) (s : State) (c d : TheCore) (apart : a ≢ b) (at : slice_get w.cores a ≡ Some c) (bt : slice_get w.cores b ≡ Some d)
    (sound : Sound s) (h : ShowsState w s) where
  abbrev near_core : TheCore
  near_core = linked c (core_id b) (2 * length w.rings)

  abbrev far_core : TheCore
  far_core = linked d (core_id a) (2 * length w.rings + 1)

  abbrev near_cores : List TheCore
  near_cores = slice_set w.cores a near_core

  abbrev world : TheWorld
  world = record w { cores = slice_set near_cores b far_core; rings = w.rings ++ new_duo size ∷ [] }

  abbrev state : State
  state = with_new_link a b size s

  abbrev near : List Core
  near = changed_at a (machine_linked b (length s.rings) first_side) s.cores

  far_there : slice_get near_cores b ≡ Some d
  far_there = set_there w.cores a near_core b d bt (λ e. apart (sym e))

  cores : CoresGrow no_new w.cores (slice_set near_cores b far_core)
  cores = cores_set no_new w.cores near_cores b d far_core
      (cores_set no_new w.cores w.cores a c near_core (cores_same no_new w.cores) at at (core_grows (no_new a) c b (2 * length w.rings)))
      bt far_there (core_grows (no_new b) d a (2 * length w.rings + 1))

  links : Linked (plan_of s)
  links = to_linked s sound.cores sound.ends sound.links sound.owners

  abbrev n : ℕ
  n = length s.rings

  near_even : IsEven (changed_at a (joins b n first_side) (plan_of s).cores)
  near_even = join_even (plan_of s).cores a b n first_side links.even

  stays : (x y : ℕ) (r : RingEnd) → ring_between s x y ≡ Some r → ring_between state x y ≡ Some r
  stays x y r q =
      sym (link_planned state x y) ∙ ap (λ p. ring_of p (core_to x y)) (link_plan a b size s)
      ∙ join_stays (changed_at a (joins b n first_side) (plan_of s).cores) b a n x y second_side r near_even
      (join_stays (plan_of s).cores a b n x y first_side r links.even (link_planned s x y ∙ q))

  comes : (x y : ℕ) (r : RingEnd) → ring_between state x y ≡ Some r → (ring_between s x y ≡ Some r) ⊎ (length s.rings ≤ r.ring)
  comes x y r q =
      elim (join_comes (changed_at a (joins b n first_side) (plan_of s).cores) b a n x y second_side r near_even
      (sym (ap (λ p. ring_of p (core_to x y)) (link_plan a b size s)) ∙ link_planned state x y ∙ q)) [
        | inr (k, l, m) ↦ inr (let e : r.ring ≡ n = ap (λ (z : RingEnd). z.ring) m in omega arith)
        | inl o ↦ elim (join_comes (plan_of s).cores a b n x y first_side r links.even o) [
          | inr (k, l, m) ↦ inr (let e : r.ring ≡ n = ap (λ (z : RingEnd). z.ring) m in omega arith)
          | inl k ↦ inl (sym (link_planned s x y) ∙ k)
        ]
      ]

  rings : (m : ℕ) (r : Ring) (x : TheDuo) → slice_get state.rings m ≡ Some r → slice_get world.rings m ≡ Some x
      → ((slice_get s.rings m ≡ Some r) × (slice_get w.rings m ≡ Some x)) ⊎ IsNewRing r x
  rings m r x p q = both (push_cases s.rings (fresh_ring size) m r p) (push_cases w.rings (new_duo size) m x q)
    where
      both : (slice_get s.rings m ≡ Some r) ⊎ ((m ≡ length s.rings) × (r ≡ fresh_ring size))
          → (slice_get w.rings m ≡ Some x) ⊎ ((m ≡ length w.rings) × (x ≡ new_duo size))
          → ((slice_get s.rings m ≡ Some r) × (slice_get w.rings m ≡ Some x)) ⊎ IsNewRing r x
      both (inl i) (inl j) = inl (i, j)
      both (inr i) (inr j) = inr (size, i.1, j.1)
      both (inl i) (inr j) = absurd (let few = within s.rings m r i in let e = j.0 in let count = h.rings.count in omega (arith, few, e, count))
      both (inr i) (inl j) = absurd (let few = within w.rings m x j in let e = i.0 in let count = h.rings.count in omega (arith, few, e, count))

  widens : Widens w world s state
  widens = record {
    cores = cores;
    queues = λ m q r. r;
    joined = refl;
    bindings = refl;
    interfaces = λ m i q. q;
    services = λ iref x q. q;
    links = stays;
    links_back = comes;
    count = length_push w.rings (new_duo size) ∙ ap (λ m. m + 1) h.rings.count ∙ sym (length_push s.rings (fresh_ring size));
    rings = rings;
  }

  abbrev all : AllShow s.cores w.cores
  all = all_of w s h.cores

  abbrev k : Core
  k = (core_there s.cores w.cores a c all at).0

  kt : slice_get s.cores a ≡ Some k
  kt = (core_there s.cores w.cores a c all at).1

  abbrev j : Core
  j = (core_there s.cores w.cores b d all bt).0

  jt : slice_get s.cores b ≡ Some j
  jt = (core_there s.cores w.cores b d all bt).1

  jn : slice_get near b ≡ Some j
  jn = changed_other s.cores a b (machine_linked b n first_side) (λ e. apart (sym e)) ∙ jt

  near_shows : AllShow near near_cores
  near_shows = shows_set s.cores w.cores a k (machine_linked b n first_side) near_core all kt
      (core_shows k c b n (2 * length w.rings) first_side (h.cores.each a k c kt at) (let count = h.rings.count in omega (arith, count)))

  both_show : AllShow state.cores world.cores
  both_show = shows_set near near_cores b j (machine_linked a n second_side) far_core near_shows jn
      (core_shows j d a n (2 * length w.rings + 1) second_side (h.cores.each b j d jt bt) (let count = h.rings.count in omega (arith, count)))

  same_count : count_dispatchers s ≡ count_dispatchers state
  same_count =
      let one = count_more s.cores a (machine_linked b n first_side) k 0 kt (omega arith) in
      let two = count_more near b (machine_linked a n second_side) j 0 jn (omega arith) in
      omega (arith, one, two)

  pub link_shown : ShowsState world state
  link_shown =
      let on : Wider world state = wider w world s state sound h widens in
      record {
        may_set_cores = h.may_set_cores;
        cores = shows_of world state both_show;
        dispatchers = h.dispatchers ∙ same_count;
        programs = h.programs;
        limits = h.limits;
        names = h.names;
        rings = on.rings;
        bindings = on.bindings;
        ends = on.ends;
      }

-- ---- tests

same_has : (a b : ℕ) (w : TheWorld) (s : State) → ShowsState w s → has_world_link a b w ≡ has_link a b s
same_has a b w s h = by (slice_get w.cores a) (slice_get s.cores a) refl refl
  where
    by : (o : Option TheCore) (p : Option Core) → slice_get w.cores a ≡ o → slice_get s.cores a ≡ p
        → given o false (λ k. is_some (link_of k.monitor.circuits b)) ≡ given p false (λ k. is_some (link_to b k))
    by None None q r = refl
    by (Some c) (Some k) q r = ap (λ (t : TheCircuits). is_some (link_of t b)) (h.cores.each a k c r q).monitor.circuits
    by (Some c) None q r = (let there = core_there s.cores w.cores a c (all_of w s h.cores) q in absurd (let e : None ≡ Some there.0 = sym r ∙ there.1 in cc))
    by None (Some k) q r =
        (let few = within s.cores a k r in
        let count = h.cores.count in
        let there = at_within w.cores a (omega (arith, few, count)) in
        absurd (let e : None ≡ Some there.0 = sym q ∙ there.1 in cc))

three : (x y z x2 y2 z2 : Bool) → x ≡ x2 → y ≡ y2 → z ≡ z2 → (x || y || z) ≡ (x2 || y2 || z2)
three x y z x2 y2 z2 p q r = cc

two : (x y x2 y2 : Bool) → x ≡ x2 → y ≡ y2 → not (x && y) ≡ not (x2 && y2)
two x y x2 y2 p q = cc

middle : (x y z : Bool) → (x || y || z) ≡ false → y ≡ false
middle false false z h = refl
middle true y z h = absurd (cc)
middle false true z h = absurd (cc)

link_made : (a b size : ℕ) (w w2 : TheWorld) (s : State) (x : Answer) → Shows w s → a ≢ b → (x ≡ done) × IsLinked a b size w w2
    → Agrees (answers (with_new_link a b size s) done) x w2
link_made a b size w w2 s x h apart e = record {
  answer = sym e.0;
  showing = subst (λ v. ShowsState v (with_new_link a b size s)) (sym e.1.rest)
      (link_shown a b size w s e.1.first e.1.second apart e.1.first_is e.1.second_is h.sound h.showing);
}

sized : (a b size : ℕ) (w w2 : TheWorld) (s : State) (x : Answer) → Shows w s → a ≢ b
    → ((MayHaveSlots size → ⊥) × Refuses 32 w x w2) ⊎ ((x ≡ done) × IsLinked a b size w w2)
    → Agrees (if not (is_ring_size size) then answers s (refused 32) else answers (with_new_link a b size s) done) x w2
sized a b size w w2 s x h apart e = by (is_ring_size size) refl e
  where
    by : (t : Bool) → is_ring_size size ≡ t → ((MayHaveSlots size → ⊥) × Refuses 32 w x w2) ⊎ ((x ≡ done) × IsLinked a b size w w2)
        → Agrees (if not t then answers s (refused 32) else answers (with_new_link a b size s) done) x w2
    by true q (inl r) = absurd (r.0 (may_be_size size q))
    by true q (inr r) = link_made a b size w w2 s x h apart r
    by false q (inl r) = refuses 32 w w2 s x h.showing r.1
    by false q (inr r) = absurd (let e : true ≡ false = sym (is_size size r.1.slots) ∙ q in cc)

pub links_agree : LinksAgree
links_agree a b size w w2 s x h e =
    by_if (not (is_world_core a w && is_world_core b w) || (a == b) || has_world_link a b w) (not (is_core a s && is_core b s) || (a == b) || has_link a b s) _ _ _ _ x w2
    (three _ _ _ _ _ _ (two _ _ _ _ (ap (nat_lt a) h.showing.cores.count) (ap (nat_lt b) h.showing.cores.count)) refl (same_has a b w s h.showing))
    (refuses 73 w w2 s x h.showing)
    (λ q. sized a b size w w2 s x h
    (λ same. absurd (let t : true ≡ false = sym (eq-eqb a b same) ∙ middle (not (is_core a s && is_core b s)) (a == b) (has_link a b s) q in cc))) e
