-- Who names a side of a ring, or a queue: no two of a core, and no two cores.
use Rattle.std.proofs.Common.{◌≡◌, refl, sym, ◌∙◌, ap, subst, ℕ, suc, ◌+◌, ◌-◌, ◌*◌, ◌%◌, ◌==◌, ◌<◌, ◌≤◌, inl, inr, if◌then◌else◌, List, length, map, slice_get, Option, Some, None, arith}
use Rattle.std.specs.Prelude.{is_some}
use Rattle.fl_base.specs.declared.identity.EndId.{EndId}
use Rattle.fl_base.specs.declared.identity.Side.{Side}
use Rattle.fl_base.specs.Ends.{peer}
use Rattle.fl_base.specs.Given.{given}
use Rattle.fl_hop.specs.declared.links.LinkState.{LinkState}
use Rattle.fl_hop.specs.Table.{TheCircuits, link_of}
use Rattle.fl_core.specs.View.{TheCore, place_of, side_of_link}
use Rattle.fl_core.specs.Sound.{IsCore}
use Rattle.fl_core.specs.declared.wiring.LinkSide.{LinkSide}
use Rattle.fl_core.specs.declared.wiring.WiredEnd.{WiredEnd}
use Rattle.fl_core.specs.declared.wiring.EndWiring.{EndWiring}
use Rattle.fl_core.specs.declared.wiring.EndWiring.TheVariants.{Queues, Ring}
use Rattle.fl_model.specs.Rings.{RingEnd, RingSide, first_side, second_side}
use Rattle.fl_model.specs.Ends.{Seat, End}
use Rattle.fl_model.specs.Monitors.{Core, Link, link_to}
use Rattle.fl_model.specs.State.{Back, local, over_ring, over_route, Binding, State, core_of, binding_of, end_in, end_of, own_ring, side_of, link_between}
use Rattle.fl_model.specs.SoundPlaces.{TakesFrom as EndTakesFrom, opposite, core_to, this_end, owns}
use Rattle.fl_model.specs.Sound.{Sound}
use Rattle.fl_world_refines.specs.View.{TheWorld, side_number, side_at, ring_at}
use Rattle.fl_world_refines.specs.ShowsState.{wiring_of, link_side_of, CoreShows, SitsAt, Shows, NamesQueue}
use Rattle.fl_model_laws.proofs.BindingWalk.{given_there}
use Rattle.fl_model_laws.proofs.CoresKept.{link_place}
use Rattle.fl_model_laws.proofs.EndsStanding.{in_range}
use Rattle.fl_model_laws.proofs.TurnsTold.{peer_twice}
use Rattle.fl_world_refines.proofs.FramesBase.{gets, same_some, end_of_binding}
use Rattle.fl_world_refines.proofs.MakingBase.{map_at}
use Rattle.fl_world_refines.proofs.PassingLinkSides.{link_side_side, side_of_number, ring_of_number}
use Rattle.fl_core_refines.specs.SetUpStart.{SidesHaveOneCore, QueuesHaveOneCore, CoresAreApart, SidesAreThere, across, LeadsBack, LinksArePaired}
use Rattle.fl_core_refines.proofs.Finding.{wiring_at, wired, owns_side}
use Rattle.fl_core_refines.proofs.Freshness.{peer_takes}

-- ---- owners

same_owner : (a b c d : ℕ) → core_to a b ≡ core_to c d → (a ≡ c) × (b ≡ d)
same_owner a b c d e = (cc, cc)

pub same_end : (e f : EndId) → this_end e ≡ this_end f → e ≡ f
same_end e f h = cc

no_end : (a b : ℕ) (e : EndId) → core_to a b ≡ this_end e → ⊥
no_end a b e h = absurd (cc)

-- ---- links

-- link l of core n, in the world and in the machine
pub record Linked (s : State) (n : ℕ) (c : TheCore) (l side : ℕ) : Type 0 where
  pub core : Core
  pub core_is : core_of s n ≡ Some core
  pub circuits : c.monitor.circuits ≡ core.circuits
  pub link : Link
  pub link_is : slice_get core.links l ≡ Some link
  pub side_is : side ≡ side_number link.ring
  pub state : LinkState
  pub state_is : slice_get core.circuits.links l ≡ Some state
  pub to : link_to state.neighbour.0 core ≡ Some l
  pub between : link_between s n state.neighbour.0 ≡ Some link

linked_by : (s : State) (n : ℕ) (k : Core) (b l : ℕ) (link : Link) → core_of s n ≡ Some k → link_to b k ≡ Some l → slice_get k.links l ≡ Some link
    → link_between s n b ≡ Some link
linked_by s n k b l link at to is =
    ap (λ (o : Option Core). given o None λ x. given (link_to b x) None λ m. slice_get x.links m) at
    ∙ ap (λ (o : Option ℕ). given o None λ m. slice_get k.links m) to ∙ is

-- the link of a link side with this side
link_side_link : (links : List Link) (l side : ℕ) → side_of_link (map link_side_of links) l ≡ Some side
    → (link : Link) × (slice_get links l ≡ Some link) × (side ≡ side_number link.ring)
link_side_link links l side h = by (slice_get (map link_side_of links) l) refl h
  where
    by : (o : Option LinkSide) → slice_get (map link_side_of links) l ≡ o → given o None (λ link_side. Some link_side.side) ≡ Some side
        → (link : Link) × (slice_get links l ≡ Some link) × (side ≡ side_number link.ring)
    by None q r = absurd (cc)
    by (Some link_side) q r =
        let (link, at, is) = map_at link_side_of links l link_side q in
        let its : link_side.side ≡ side = cc in
        (link, at, sym its ∙ ap (λ (x : LinkSide). x.side) (sym is))

pub linked : (w : TheWorld) (s : State) (n l side : ℕ) (c : TheCore) → Shows w s → slice_get w.cores n ≡ Some c → side_of_link c.link_sides l ≡ Some side
    → Linked s n c l side
linked w s n l side c shows core_is link_side =
    let (k, k_is) = gets w.cores s.cores n c (sym shows.showing.cores.count) core_is in
    let core = shows.showing.cores.each n k c k_is core_is in
    let stands = shows.sound.cores n k k_is in
    let (link, link_is, side_is) = link_side_link k.links l side (subst (λ (ls : List LinkSide). side_of_link ls l ≡ Some side) core.link_sides link_side) in
    let (state, state_is) = gets k.links k.circuits.links l link (sym stands.links) link_is in
    let to : link_to state.neighbour.0 k ≡ Some l = link_place k.circuits l state stands.table state_is in
    record {
      core = k;
      core_is = k_is;
      circuits = core.monitor.circuits;
      link = link;
      link_is = link_is;
      side_is = side_is;
      state = state;
      state_is = state_is;
      to = to;
      between = linked_by s n k state.neighbour.0 l link k_is to link_is;
    }

-- the core owns its side
pub owns_link : (s : State) (n l side : ℕ) (c : TheCore) (k : Linked s n c l side) → owns s (core_to n k.state.neighbour.0) (side_at side)
owns_link s n l side c k = (k.link, k.between, sym (ap side_at k.side_is ∙ side_of_number k.link.ring))

-- ---- one side, one queue

-- an end on this side of a ring
abbrev IsOnSide : State → ℕ → ℕ → EndId → Type 0
IsOnSide s n side e = owns s (this_end e) (side_at side) × SitsAt s e n

on_side : (w : TheWorld) (s : State) (n side : ℕ) (c : TheCore) (e : EndId) → Shows w s → slice_get w.cores n ≡ Some c → wiring_of c e ≡ Some (Ring side)
    → IsOnSide s n side e
on_side w s n side c e shows core_is wiring =
    let k = wired w s n c e (Ring side) shows core_is wiring in
    (owns_side w s c e k.end.binding side k.end.binding_is k.way, shows.showing.ends.only n c e k.place core_is k.place_is)

-- an end sits at one core
pub one_seat : (s : State) (e : EndId) (n m : ℕ) → SitsAt s e n → SitsAt s e m → n ≡ m
one_seat s e n m h k =
    let end : h.0 ≡ k.0 = same_some (end_of s e) h.0 k.0 h.1.1 k.1.1 in
    let seat : h.1.0 ≡ k.1.0 = same_some k.0.seat h.1.0 k.1.0 (ap (λ (x : End). x.seat) (sym end) ∙ h.1.2) k.1.2 in
    sym h.1.3 ∙ ap (λ (x : Seat). x.dispatcher.core) seat ∙ k.1.3

pub side_cores : (w : TheWorld) (s : State) → Shows w s → SidesHaveOneCore w
side_cores w s shows n m side c d c_is d_is one two = elim one [
  | inl (l, q) ↦
      (let x = linked w s n l side c shows c_is q in
      elim two [
        | inl (k, r) ↦
            (let y = linked w s m k side d shows d_is r in
            (same_owner n x.state.neighbour.0 m y.state.neighbour.0
            (shows.sound.owners (core_to n x.state.neighbour.0) (core_to m y.state.neighbour.0) (side_at side)
            (owns_link s n l side c x) (owns_link s m k side d y))).0)
        | inr (f, r) ↦
            absurd (no_end n x.state.neighbour.0 f (shows.sound.owners (core_to n x.state.neighbour.0) (this_end f) (side_at side)
            (owns_link s n l side c x) (on_side w s m side d f shows d_is r).0))
      ])
  | inr (e, q) ↦
      (let x = on_side w s n side c e shows c_is q in
      elim two [
        | inl (k, r) ↦
            (let y = linked w s m k side d shows d_is r in
            absurd (no_end m y.state.neighbour.0 e (shows.sound.owners (core_to m y.state.neighbour.0) (this_end e) (side_at side)
            (owns_link s m k side d y) x.0)))
        | inr (f, r) ↦
            (let y = on_side w s m side d f shows d_is r in
            let same : e ≡ f = same_end e f (shows.sound.owners (this_end e) (this_end f) (side_at side) x.0 y.0) in
            one_seat s f n m (subst (λ (g : EndId). SitsAt s g n) same x.1) y.1)
      ])
]

-- the end that takes from a queue that a core names
record Taker (s : State) (n : ℕ) (c : TheCore) (queue : ℕ) : Type 0 where
  pub end : EndId
  pub out : ℕ
  pub wiring : wiring_of c end ≡ Some (Queues out queue)
  pub sits : SitsAt s end n

taker : (w : TheWorld) (s : State) (n queue out : ℕ) (c : TheCore) (e : EndId) → Shows w s → slice_get w.cores n ≡ Some c
    → wiring_of c e ≡ Some (Queues out queue) → Taker s n c queue
taker w s n queue out c e shows core_is wiring =
    let k = wired w s n c e (Queues out queue) shows core_is wiring in
    record { end = e; out = out; wiring = wiring; sits = shows.showing.ends.only n c e k.place core_is k.place_is }

takers : (w : TheWorld) (s : State) (n queue : ℕ) (c : TheCore) → Shows w s → slice_get w.cores n ≡ Some c → NamesQueue c queue → Taker s n c queue
takers w s n queue c shows core_is names = elim names [
  | inl (e, from, wiring) ↦ taker w s n queue from c (peer e) shows core_is (peer_takes w s n queue from c e shows core_is wiring)
  | inr (e, out, wiring) ↦ taker w s n queue out c e shows core_is wiring
]

pub queue_cores : (w : TheWorld) (s : State) → Shows w s → QueuesHaveOneCore w
queue_cores w s shows n m queue c d c_is d_is one two =
    let x = takers w s n queue c shows c_is one in
    let y = takers w s m queue d shows d_is two in
    let same : x.end ≡ y.end = shows.showing.ends.apart n m c d x.end y.end x.out y.out queue c_is d_is x.wiring y.wiring in
    one_seat s y.end n m (subst (λ (g : EndId). SitsAt s g n) same x.sits) y.sits

-- ---- within one core

-- each wired end is found by its name
wiring_named : (c : TheCore) (d : ℕ) (p : WiredEnd) (x : EndWiring) → IsCore c → slice_get c.wired_ends d ≡ Some p → p.wiring ≡ x → wiring_of c p.name ≡ Some x
wiring_named c d p x core at is = wiring_at c p.name d p (core.named d p at) at ∙ ap (λ y. Some y) is

one_place : (c : TheCore) (d e : ℕ) (p q : WiredEnd) → IsCore c → slice_get c.wired_ends d ≡ Some p → slice_get c.wired_ends e ≡ Some q → p.name ≡ q.name → d ≡ e
one_place c d e p q core at there same =
    same_some (place_of c q.name) d e (ap (place_of c) (sym same) ∙ core.named d p at) (core.named e q there)

one_peer : (e f : EndId) → peer e ≡ peer f → e ≡ f
one_peer e f h = sym (peer_twice e) ∙ ap peer h ∙ peer_twice f

pub cores_are_apart : (w : TheWorld) (s : State) → Shows w s → CoresAreApart w
cores_are_apart w s shows n c c_is core = record {
  link_sides = λ l m side p q.
      let x = linked w s n l side c shows c_is p in
      let y = linked w s n m side c shows c_is q in
      let same = (same_owner n x.state.neighbour.0 n y.state.neighbour.0
      (shows.sound.owners (core_to n x.state.neighbour.0) (core_to n y.state.neighbour.0) (side_at side) (owns_link s n l side c x) (owns_link s n m side c y))).1 in
      let cores : x.core ≡ y.core = same_some (core_of s n) x.core y.core x.core_is y.core_is in
      same_some (link_to y.state.neighbour.0 y.core) l m
      (ap (λ (k : Core). link_to y.state.neighbour.0 k) (sym cores) ∙ ap (λ b. link_to b x.core) (sym same) ∙ x.to) y.to;
  rings = λ l e side p q at is.
      let x = linked w s n l side c shows c_is q in
      let y = on_side w s n side c p.name shows c_is (wiring_named c e p (Ring side) core at is) in
      no_end n x.state.neighbour.0 p.name (shows.sound.owners (core_to n x.state.neighbour.0) (this_end p.name) (side_at side) (owns_link s n l side c x) y.0);
  ends = λ d e side p q at there is its.
      let x = on_side w s n side c p.name shows c_is (wiring_named c d p (Ring side) core at is) in
      let y = on_side w s n side c q.name shows c_is (wiring_named c e q (Ring side) core there its) in
      one_place c d e p q core at there (same_end p.name q.name (shows.sound.owners (this_end p.name) (this_end q.name) (side_at side) x.0 y.0));
  puts = λ d e queue a b p q at there is its.
      let x = peer_takes w s n queue a c p.name shows c_is (wiring_named c d p (Queues queue a) core at is) in
      let y = peer_takes w s n queue b c q.name shows c_is (wiring_named c e q (Queues queue b) core there its) in
      one_place c d e p q core at there
      (one_peer p.name q.name (shows.showing.ends.apart n n c c (peer p.name) (peer q.name) a b queue c_is c_is x y));
  takes = λ d e queue a b p q at there is its.
      one_place c d e p q core at there
      (shows.showing.ends.apart n n c c p.name q.name a b queue c_is c_is (wiring_named c d p (Queues a queue) core at is) (wiring_named c e q (Queues b queue) core there its));
}

-- ---- links, both ways

across_at : (n : ℕ) (side : RingSide) → across (side_number (record { ring = n; side = side })) ≡ side_number (record { ring = n; side = opposite side })
across_at n first_side =
    let even : (2 * n + 0) % 2 ≡ 0 = omega arith in
    let next : 2 * n + 0 + 1 ≡ 2 * n + 1 = omega arith in
    ap (λ (m : ℕ). if m == 0 then 2 * n + 0 + 1 else 2 * n + 0 - 1) even ∙ next
across_at n second_side =
    let odd : (2 * n + 1) % 2 ≡ 1 = omega arith in
    let before : 2 * n + 1 - 1 ≡ 2 * n + 0 = omega arith in
    ap (λ (m : ℕ). if m == 0 then 2 * n + 1 + 1 else 2 * n + 1 - 1) odd ∙ before

across_side : (at : RingEnd) → across (side_number at) ≡ side_number (record { ring = at.ring; side = opposite at.side })
across_side at = across_at at.ring at.side

-- so the link back has the side across
back_side : (at back : RingEnd) (side : ℕ) → back ≡ record { ring = at.ring; side = opposite at.side } → side ≡ side_number at
    → Some (side_number back) ≡ Some (across side)
back_side at back side other is = ap (λ x. Some (side_number x)) other ∙ ap (λ n. Some n) (sym (ap across is ∙ across_side at))

-- link m of core k leads back
leads_back : (w : TheWorld) (s : State) (n l side : ℕ) (c : TheCore) (x : Linked s n c l side) (k : Core) (d : TheCore) (m : ℕ) (back : Link)
    → slice_get w.cores x.state.neighbour.0 ≡ Some d → CoreShows k d → link_to n k ≡ Some m → slice_get k.links m ≡ Some back
    → back.ring ≡ record { ring = x.link.ring.ring; side = opposite x.link.ring.side } → suc x.link.ring.ring ≤ length w.rings → LeadsBack w n c l side
leads_back w s n l side c x k d m back d_is core to link_is other few =
    let ring : ring_at side ≡ x.link.ring.ring = ap ring_at x.side_is ∙ ring_of_number x.link.ring in
    record {
      link = x.state;
      link_is = ap (λ (t : TheCircuits). slice_get t.links l) x.circuits ∙ x.state_is;
      core = d;
      core_is = d_is;
      back = m;
      back_is = ap (λ (t : TheCircuits). link_of t n) core.monitor.circuits ∙ to;
      side_is = link_side_side k d m back core link_is ∙ back_side x.link.ring back.ring side other x.side_is;
      within = omega arith;
    }

pub links_are_paired : (w : TheWorld) (s : State) → Shows w s → LinksArePaired w
links_are_paired w s shows n l side c c_is link_side =
    let x = linked w s n l side c shows c_is link_side in
    let b = x.state.neighbour.0 in
    let pair = shows.sound.links n b x.link x.between in
    let (k, k_is, rest) = given_there (core_of s b) (λ k. given (link_to n k) None λ m. slice_get k.links m) pair.back pair.back_is in
    let (m, to, link_is) = given_there (link_to n k) (λ m. slice_get k.links m) pair.back rest in
    let (d, d_is) = gets s.cores w.cores b k shows.showing.cores.count k_is in
    let few : suc x.link.ring.ring ≤ length s.rings = in_range s.rings x.link.ring.ring (ap is_some pair.ring_is) in
    let count : length w.rings ≡ length s.rings = shows.showing.rings.count in
    leads_back w s n l side c x k d m pair.back d_is (shows.showing.cores.each b k d k_is d_is) to link_is pair.same (omega arith)

-- ---- rings that are there

ring_of_own : (side : Side) (back : Back) (at : RingEnd) → own_ring side back ≡ Some at → back ≡ over_ring at.ring
ring_of_own side local at q = absurd (cc)
ring_of_own side (over_ring r) at q =
    let same = same_some (own_ring side (over_ring r)) (record { ring = r; side = side_of side }) at refl q in ap (λ (x : RingEnd). over_ring x.ring) same
ring_of_own side (over_route route) at q = absurd (cc)

ring_there : (s : State) (e : EndId) (b : Binding) (at : RingEnd) → Sound s → binding_of s e ≡ Some b → own_ring e.side b.back ≡ Some at
    → suc at.ring ≤ length s.rings
ring_there s e b at sound there own =
    let x = sound.ends e (end_in e.side b) (end_of_binding s e b there) in
    let same : x.binding ≡ b = same_some (binding_of s e) x.binding b x.there there in
    let takes : EndTakesFrom s (over_ring at.ring) (end_in e.side b) =
    subst (λ (y : Back). EndTakesFrom s y (end_in e.side b)) (ap (λ (y : Binding). y.back) same ∙ ring_of_own e.side b.back at own) x.queue in
    in_range s.rings at.ring takes.1

end_ring_there : (w : TheWorld) (s : State) (n side : ℕ) (c : TheCore) (e : EndId) → Shows w s → slice_get w.cores n ≡ Some c → wiring_of c e ≡ Some (Ring side)
    → ring_at side < length w.rings
end_ring_there w s n side c e shows core_is wiring =
    let k = wired w s n c e (Ring side) shows core_is wiring in
    let (at, own, is) = k.way in
    let ring : ring_at side ≡ at.ring = ap ring_at is ∙ ring_of_number at in
    let few : suc at.ring ≤ length s.rings = ring_there s e k.end.binding at shows.sound k.end.binding_is own in
    let count : length w.rings ≡ length s.rings = shows.showing.rings.count in
    omega arith

pub sides_are_there : (w : TheWorld) (s : State) → Shows w s → SidesAreThere w
sides_are_there w s shows n side c core_is names = elim names [
  | inl (l, link_side) ↦ (links_are_paired w s shows n l side c core_is link_side).within
  | inr (e, wiring) ↦ end_ring_there w s n side c e shows core_is wiring
]
