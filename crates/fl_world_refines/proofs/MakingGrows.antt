-- What stays of a what is shown where there is more: each end that was made is made still, each ring shows what it showed.
use Rattle.std.proofs.Common.{◌≡◌, refl, sym, ◌∙◌, ap, subst, ℕ, ◌<◌, ◌≤◌, ◌⊎◌, inl, inr, List, length, slice_get, slice_set, Option, Some, None, arith}
use Rattle.fl_base.specs.declared.identity.EndId.{EndId}
use Rattle.fl_base.specs.declared.identity.Side.{Side}
use Rattle.fl_base.specs.Ends.{peer}
use Rattle.fl_base.specs.Given.{given}
use Rattle.fl_hop.proofs.Entering.{same_or}
use Rattle.fl_hop.proofs.Lists.{set_cases, set_here, set_there, within}
use Rattle.fl_link.specs.Queue.{TheQueue}
use Rattle.fl_ring.specs.Duo.{TheDuo}
use Rattle.fl_core.specs.BoardView.{TheEndAtChannel}
use Rattle.fl_core.specs.View.{TheCore, place_of, side_of_link}
use Rattle.fl_core.specs.declared.wiring.EndWiring.{EndWiring}
use Rattle.fl_core.specs.declared.wiring.EndWiring.TheVariants.{Queues, Ring as OverRing, Circuit}
use Rattle.fl_core.specs.declared.wiring.WiredEnd.{WiredEnd}
use Rattle.fl_model.specs.Calls.{Planned}
use Rattle.fl_model.specs.Rings.{Ring, RingEnd, fresh_ring}
use Rattle.fl_model.specs.Ends.{End, Seat}
use Rattle.fl_model.specs.Monitors.{Link, Service, service_of}
use Rattle.fl_model.specs.State.{Back, local, over_ring, over_route, Route, Binding, State, binding_of, interface_of, end_of, end_in, link_between}
use Rattle.fl_model.specs.State.{outlet_by, ring_side, first_link, way_of}
use Rattle.fl_model.specs.SoundPlaces.{EndsStand}
use Rattle.fl_world_refines.specs.Fragments.{Streams, calls_off_links, calls_between}
use Rattle.fl_world_refines.specs.FragmentLaws.{SameFragments}
use Rattle.fl_world_refines.specs.Rings.{RingShows}
use Rattle.fl_world_refines.specs.RingLaws.{GoOn}
use Rattle.fl_world_refines.proofs.Sides.{ring_still}
use Rattle.fl_world_refines.proofs.Standing.{queue_still, new_show}
use Rattle.fl_model_laws.proofs.BindingWalk.{given_there, end_there}
use Rattle.fl_model_laws.proofs.PlacesStep.{ring_behind}
use Rattle.fl_world_refines.specs.declared.binding.Binding.{Binding as TheBinding}
use Rattle.fl_world_refines.specs.View.{TheWorld, side_at}
use Rattle.fl_world_refines.specs.Making.{new_duo}
use Rattle.fl_world_refines.specs.ShowsState.{TakesFrom, wiring_of, IsWiring, IsMade, SitsAt, EndsShow, BindingShows, Carries, RingsShow}
use Rattle.fl_world_refines.proofs.MakingBase.{some_is, same_found}

-- ---- cores

-- a core that keeps all that it had; an end that it hadn't is one of these
pub record CoreGrows (New : EndId → EndWiring → Type 0) (c d : TheCore) : Type 0 where
  pub places : (e : EndId) (n : ℕ) → place_of c e ≡ Some n → place_of d e ≡ Some n
  pub wired_ends : (n : ℕ) (p : WiredEnd) → slice_get c.wired_ends n ≡ Some p → slice_get d.wired_ends n ≡ Some p
  pub seats : (n : ℕ) (x : TheEndAtChannel) → slice_get c.board.seats n ≡ Some x → slice_get d.board.seats n ≡ Some x
  pub link_sides : (l m : ℕ) → side_of_link c.link_sides l ≡ Some m → side_of_link d.link_sides l ≡ Some m
  pub arrivals : (n : ℕ) (q : TheQueue) → slice_get c.arrivals n ≡ Some q → slice_get d.arrivals n ≡ Some q
  pub back : (e : EndId) (n : ℕ) → place_of d e ≡ Some n → (place_of c e ≡ Some n) ⊎ ((x : EndWiring) × New e x)
  pub wirings : (e : EndId) (x : EndWiring) → wiring_of d e ≡ Some x → (wiring_of c e ≡ Some x) ⊎ New e x

pub core_same : (New : EndId → EndWiring → Type 0) (c : TheCore) → CoreGrows New c c
core_same New c = record {
  places = λ e n h. h;
  wired_ends = λ n p h. h;
  seats = λ n x h. h;
  link_sides = λ l m h. h;
  arrivals = λ n q h. h;
  back = λ e n h. inl h;
  wirings = λ e x h. inl h;
}

pub record CoresGrow (New : ℕ → EndId → EndWiring → Type 0) (cs ds : List TheCore) : Type 0 where
  pub forth : (n : ℕ) (c : TheCore) → slice_get cs n ≡ Some c → (d : TheCore) × (slice_get ds n ≡ Some d) × CoreGrows (New n) c d
  pub back : (n : ℕ) (d : TheCore) → slice_get ds n ≡ Some d → (c : TheCore) × (slice_get cs n ≡ Some c) × CoreGrows (New n) c d

pub cores_same : (New : ℕ → EndId → EndWiring → Type 0) (cs : List TheCore) → CoresGrow New cs cs
cores_same New cs = record { forth = λ n c h. (c, h, core_same (New n) c); back = λ n d h. (d, h, core_same (New n) d) }

-- one of those that didn't grow yet does
pub cores_set : (New : ℕ → EndId → EndWiring → Type 0) (cs ds : List TheCore) (m : ℕ) (c d : TheCore) → CoresGrow New cs ds
    → slice_get cs m ≡ Some c → slice_get ds m ≡ Some c → CoreGrows (New m) c d → CoresGrow New cs (slice_set ds m d)
cores_set New cs ds m c d h at bt g = record {
  forth = λ k x q. elim (same_or k m) [
    | inl e ↦ subst (λ j. slice_get cs j ≡ Some x → (y : TheCore) × (slice_get (slice_set ds m d) j ≡ Some y) × CoreGrows (New j) x y) (sym e)
        (λ r. (d, set_here ds m c d bt, subst (λ z. CoreGrows (New m) z d) (same_found (slice_get cs m) c x at r) g)) q
    | inr e ↦ (let (y, r, i) = h.forth k x q in (y, set_there ds m d k y r e, i))
  ];
  back = λ k y r. elim (set_cases ds m d k y r) [
    | inl a ↦ (c, ap (slice_get cs) a.0 ∙ at, subst (λ j. CoreGrows (New j) c y) (sym a.0) (subst (CoreGrows (New m) c) (sym a.1) g))
    | inr a ↦ h.back k y a.1
  ];
}

-- ---- a world

abbrev pub ring_between : State → ℕ → ℕ → Option RingEnd
ring_between s a b = ring_behind (link_between s a b)

pub record Grows (New : ℕ → EndId → EndWiring → Type 0) (w w2 : TheWorld) (s t : State) : Type 0 where
  pub cores : CoresGrow New w.cores w2.cores
  pub queues : (n : ℕ) (q : TheQueue) → slice_get w.queues n ≡ Some q → slice_get w2.queues n ≡ Some q
  pub links : (a b : ℕ) (at : RingEnd) → ring_between s a b ≡ Some at → ring_between t a b ≡ Some at
  pub fragments : SameFragments s t

pub wiring_there : (New : EndId → EndWiring → Type 0) (c d : TheCore) (e : EndId) (x : EndWiring) → CoreGrows New c d → wiring_of c e ≡ Some x → wiring_of d e ≡ Some x
wiring_there New c d e x g h =
    let (n, at, rest) = given_there (place_of c e) (λ n. given (slice_get c.wired_ends n) None (λ p. Some p.wiring)) x h in
    let (p, pt, is) = given_there (slice_get c.wired_ends n) (λ (p : WiredEnd). Some p.wiring) x rest in
    ap (λ o. given o None (λ k. given (slice_get d.wired_ends k) None (λ (p : WiredEnd). Some p.wiring))) (g.places e n at)
    ∙ ap (λ o. given o None (λ (p : WiredEnd). Some p.wiring)) (g.wired_ends n p pt) ∙ is

-- the ring behind the first link of a way
pub ring_first : (s : State) (way : List ℕ) (a b : ℕ) (at : RingEnd) → slice_get way 0 ≡ Some a → slice_get way 1 ≡ Some b → ring_between s a b ≡ Some at
    → given (first_link s way) None (λ link. Some (ring_side link.ring)) ≡ Some (ring_side at)
ring_first s way a b at p q r =
    let (link, is, ring) = given_there (link_between s a b) (λ (l : Link). Some l.ring) at r in
    ap (λ o. given (given o None (λ core. given (slice_get way 1) None (λ next. link_between s core next))) None (λ (l : Link). Some (ring_side l.ring))) p
    ∙ ap (λ o. given (given o None (λ next. link_between s a next)) None (λ (l : Link). Some (ring_side l.ring))) q
    ∙ ap (λ o. given o None (λ (l : Link). Some (ring_side l.ring))) is
    ∙ ap (λ o. given o None (λ x. Some (ring_side x))) ring

way_grows : (s t : State) (way : List ℕ) (at : RingEnd) → ((a b : ℕ) (x : RingEnd) → ring_between s a b ≡ Some x → ring_between t a b ≡ Some x)
    → given (first_link s way) None (λ link. Some (ring_side link.ring)) ≡ Some (ring_side at)
    → given (first_link t way) None (λ link. Some (ring_side link.ring)) ≡ Some (ring_side at)
way_grows s t way at h k =
    let (link, is, ring) = given_there (first_link s way) (λ (l : Link). Some (ring_side l.ring)) (ring_side at) k in
    let (a, pa, rest) = given_there (slice_get way 0) (λ core. given (slice_get way 1) None (λ next. link_between s core next)) link is in
    let (b, pb, found) = given_there (slice_get way 1) (λ next. link_between s a next) link rest in
    ring_first t way a b link.ring pa pb (h a b link.ring (ap ring_behind found)) ∙ ring

outlet_grows : (s t : State) (side : Side) (back : Back) (at : RingEnd) → ((a b : ℕ) (x : RingEnd) → ring_between s a b ≡ Some x → ring_between t a b ≡ Some x)
    → outlet_by s side back ≡ Some (ring_side at) → outlet_by t side back ≡ Some (ring_side at)
outlet_grows s t side local at h k = k
outlet_grows s t side (over_ring n) at h k = k
outlet_grows s t side (over_route route) at h k = way_grows s t (way_of side route) at h k

pub takes_grows : (qs qs2 : List TheQueue) (s t : State) (x : End) (n : ℕ) → ((m : ℕ) (q : TheQueue) → slice_get qs m ≡ Some q → slice_get qs2 m ≡ Some q)
    → SameFragments s t → TakesFrom qs s x n → TakesFrom qs2 t x n
takes_grows qs qs2 s t x n h f k = record {
  queue = k.queue;
  queue_is = k.queue_is;
  there = k.there;
  there_is = h n k.there k.there_is;
  shows = queue_still (calls_off_links s) (calls_off_links t) f.off_links k.queue k.there k.shows;
}

wiring_grows : (New : ℕ → EndId → EndWiring → Type 0) (N : EndId → EndWiring → Type 0) (w w2 : TheWorld) (s t : State) (e : EndId) (b : Binding) (c d : TheCore) (x : EndWiring)
    → Grows New w w2 s t → CoreGrows N c d → IsWiring w c s e b x → IsWiring w2 d t e b x
wiring_grows New N w w2 s t e b c d (Queues out from) g h k =
    (k.0, takes_grows w.queues w2.queues s t (end_in e.side b) from g.queues g.fragments k.1, wiring_there N c d (peer e) (Queues from out) h k.2)
wiring_grows New N w w2 s t e b c d (OverRing side) g h k = k
wiring_grows New N w w2 s t e b c d (Circuit link arrivals) g h k = (
  (k.0.0, h.link_sides link.0 k.0.0 k.0.1, outlet_grows s t e.side b.back (side_at k.0.0) g.links k.0.2),
  takes_grows c.arrivals d.arrivals s t (end_in e.side b) arrivals h.arrivals g.fragments k.1,
)

pub made_grows : (New : ℕ → EndId → EndWiring → Type 0) (w w2 : TheWorld) (s t : State) (e : EndId) (b : Binding) (i : Planned) (seat : Seat)
    → Grows New w w2 s t → IsMade w s e b i seat → IsMade w2 t e b i seat
made_grows New w w2 s t e b i seat g m =
    let (d, there, grows) = g.cores.forth seat.dispatcher.core m.core m.core_is in
    record {
      core = d;
      core_is = there;
      place = m.place;
      place_is = grows.places e m.place m.place_is;
      at = m.at;
      at_is = grows.seats m.place m.at m.at_is;
      dispatcher = m.dispatcher;
      channel = m.channel;
      shows = m.shows;
      wired_end = m.wired_end;
      wired_end_is = grows.wired_ends m.place m.wired_end m.wired_end_is;
      name_is = m.name_is;
      wiring = wiring_grows New (New seat.dispatcher.core) w w2 s t e b m.core d m.wired_end.wiring g grows m.wiring;
    }

-- ---- ends

pub record EndsGrow (New : ℕ → EndId → EndWiring → Type 0) (w w2 : TheWorld) (s t : State) : Type 0 where
  pub grows : Grows New w w2 s t
  pub bindings : (n : ℕ) (b : Binding) → slice_get s.bindings n ≡ Some b → slice_get t.bindings n ≡ Some b
  pub comes : (e : EndId) (b : Binding) (i : Planned) (seat : Seat) → binding_of t e ≡ Some b → interface_of t b ≡ Some i
      → (end_in e.side b).seat ≡ Some seat → ((binding_of s e ≡ Some b) × (interface_of s b ≡ Some i)) ⊎ IsMade w2 t e b i seat
  pub sits : (n : ℕ) (e : EndId) (x : EndWiring) → New n e x → SitsAt t e n
  -- queues of new ends are new, and each is one end's
  pub fresh : (n : ℕ) (e : EndId) (x q : ℕ) → New n e (Queues x q) → length w.queues ≤ q
  pub one : (n m : ℕ) (e f : EndId) (x y q : ℕ) → New n e (Queues x q) → New m f (Queues y q) → e ≡ f

pub end_grows : (s t : State) (e : EndId) (x : End) → ((n : ℕ) (b : Binding) → slice_get s.bindings n ≡ Some b → slice_get t.bindings n ≡ Some b)
    → end_of s e ≡ Some x → end_of t e ≡ Some x
end_grows s t e x h k =
    let (b, at, is) = end_there s e x k in
    ap (λ o. given o None (λ (b : Binding). Some (end_in e.side b))) (h e.binding b at) ∙ ap (λ y. Some y) is

sits_on : (s t : State) (e : EndId) (n : ℕ) → ((m : ℕ) (b : Binding) → slice_get s.bindings m ≡ Some b → slice_get t.bindings m ≡ Some b) → SitsAt s e n → SitsAt t e n
sits_on s t e n h k = (k.0, (k.1.0, end_grows s t e k.0 h k.1.1, k.1.2, k.1.3))

-- an end that sits somewhere is made
pub sitting_made : (w : TheWorld) (s : State) (e : EndId) (n : ℕ) → EndsShow w s → EndsStand s → SitsAt s e n
    → (b : Binding) × (i : Planned) × (seat : Seat) × (seat.dispatcher.core ≡ n) × IsMade w s e b i seat
sitting_made w s e n h k sits =
    let x = sits.0 in
    let seat = sits.1.0 in
    let stands = k e x sits.1.1 in
    let (b, at, is) = end_there s e x sits.1.1 in
    let same = same_found (slice_get s.bindings e.binding) stands.binding b stands.there at in
    let interface : interface_of s b ≡ Some stands.interface = ap (interface_of s) (sym same) ∙ stands.interface_is in
    (b, stands.interface, seat, sits.1.3, h.made e b stands.interface seat at interface (ap (λ (y : End). y.seat) is ∙ sits.1.2))

-- and its queue is one of the world's
pub queue_within : (w : TheWorld) (s : State) (n : ℕ) (c : TheCore) (e : EndId) (x q : ℕ) → EndsShow w s → EndsStand s
    → slice_get w.cores n ≡ Some c → wiring_of c e ≡ Some (Queues x q) → q < length w.queues
queue_within w s n c e x q h k at wiring =
    let (place, pt, rest) = given_there (place_of c e) (λ m. given (slice_get c.wired_ends m) None (λ p. Some p.wiring)) (Queues x q) wiring in
    let (p, pp, is) = given_there (slice_get c.wired_ends place) (λ (p : WiredEnd). Some p.wiring) (Queues x q) rest in
    let (b, i, seat, here, m) = sitting_made w s e n h k (h.only n c e place at pt) in
    let core : m.core ≡ c = same_found (slice_get w.cores n) m.core c (ap (slice_get w.cores) (sym here) ∙ m.core_is) at in
    let same_place : m.place ≡ place = same_found (place_of c e) m.place place (ap (λ z. place_of z e) (sym core) ∙ m.place_is) pt in
    let wired_end : m.wired_end ≡ p = same_found (slice_get c.wired_ends place) m.wired_end p
    (ap (slice_get c.wired_ends) (sym same_place) ∙ ap (λ (z : TheCore). slice_get z.wired_ends m.place) (sym core) ∙ m.wired_end_is) pp in
    let its : m.wired_end.wiring ≡ Queues x q = ap (λ (z : WiredEnd). z.wiring) wired_end ∙ some_is p.wiring (Queues x q) is in
    let takes = (subst (IsWiring w m.core s e b) its m.wiring).1 in
    within w.queues q takes.there takes.there_is

pub ends_grow : (New : ℕ → EndId → EndWiring → Type 0) (w w2 : TheWorld) (s t : State) → EndsGrow New w w2 s t → EndsShow w s → EndsStand s → EndsShow w2 t
ends_grow New w w2 s t g h k = record {
  made = λ e b i seat p q r. elim (g.comes e b i seat p q r) [
    | inl a ↦ made_grows New w w2 s t e b i seat g.grows (h.made e b i seat a.0 a.1 r)
    | inr a ↦ a
  ];
  only = λ n d e place p q. (let (c, at, grows) = g.grows.cores.back n d p in elim (grows.back e place q) [
    | inl a ↦ sits_on s t e n g.bindings (h.only n c e place at a)
    | inr a ↦ g.sits n e a.0 a.1
  ]);
  apart = λ n m c d e f x y q pc pd we wf.
      (let (c0, ct, cg) = g.grows.cores.back n c pc in
      let (d0, dt, dg) = g.grows.cores.back m d pd in
      both n m c0 d0 e f x y q ct dt (cg.wirings e (Queues x q) we) (dg.wirings f (Queues y q) wf));
}
  where
    both : (n m : ℕ) (c d : TheCore) (e f : EndId) (x y q : ℕ) → slice_get w.cores n ≡ Some c → slice_get w.cores m ≡ Some d
        → (wiring_of c e ≡ Some (Queues x q)) ⊎ New n e (Queues x q) → (wiring_of d f ≡ Some (Queues y q)) ⊎ New m f (Queues y q) → e ≡ f
    both n m c d e f x y q at bt (inl a) (inl b) = h.apart n m c d e f x y q at bt a b
    both n m c d e f x y q at bt (inr a) (inr b) = g.one n m e f x y q a b
    both n m c d e f x y q at bt (inl a) (inr b) =
        absurd (let p : q < length w.queues = queue_within w s n c e x q h k at a in let r : length w.queues ≤ q = g.fresh m f y q b in omega arith)
    both n m c d e f x y q at bt (inr a) (inl b) =
        absurd (let p : q < length w.queues = queue_within w s m d f y q h k bt b in let r : length w.queues ≤ q = g.fresh n e x q a in omega arith)

-- ---- rings

abbrev pub IsNewRing : Ring → TheDuo → Type 0
IsNewRing r d = (size : ℕ) × (r ≡ fresh_ring size) × (d ≡ new_duo size)

pub record RingsGrow (w w2 : TheWorld) (s t : State) : Type 0 where
  pub count : length w2.rings ≡ length t.rings
  pub rings : (n : ℕ) (r : Ring) (d : TheDuo) → slice_get t.rings n ≡ Some r → slice_get w2.rings n ≡ Some d
      → ((slice_get s.rings n ≡ Some r) × (slice_get w.rings n ≡ Some d)) ⊎ IsNewRing r d
  pub links : (a b : ℕ) (at : RingEnd) → ring_between t a b ≡ Some at → (ring_between s a b ≡ Some at) ⊎ (length s.rings ≤ at.ring)
  pub joined : (m n : ℕ) (b : Binding) → slice_get t.bindings m ≡ Some b → b.back ≡ over_ring n → (slice_get s.bindings m ≡ Some b) ⊎ (length s.rings ≤ n)
  pub fragments : SameFragments s t

-- an old ring carries what it carried, which goes on
carried_on : (w w2 : TheWorld) (s t : State) (n : ℕ) (streams : Streams) → RingsGrow w w2 s t → n < length s.rings → Carries t n streams
    → (old : Streams) × Carries s n old × GoOn old streams
carried_on w w2 s t n streams g few (inl k) =
    let a = k.0 in
    let b = k.1 in
    let link = k.2 in
    elim (g.links a b link.ring (ap ring_behind k.3)) [
      | inl r ↦ (let (was, is, ring) = given_there (link_between s a b) (λ (l : Link). Some l.ring) link.ring r in (
        calls_between a b s,
        inl (a, b, was, is, ap (λ (x : RingEnd). x.ring) (some_is was.ring link.ring ring) ∙ k.4, refl),
        subst (GoOn (calls_between a b s)) (sym k.5) (g.fragments.between a b),
      ))
      | inr r ↦ absurd (let e : link.ring.ring ≡ n = k.4 in omega arith)
    ]
carried_on w w2 s t n streams g few (inr k) =
    elim (g.joined k.0 n k.1 k.2 k.3) [
      | inl r ↦ (calls_off_links s, inr (k.0, k.1, r, k.3, refl), subst (GoOn (calls_off_links s)) (sym k.4) g.fragments.off_links)
      | inr r ↦ absurd (omega arith)
    ]

pub rings_grow : (w w2 : TheWorld) (s t : State) → RingsGrow w w2 s t → RingsShow w s → RingsShow w2 t
rings_grow w w2 s t g h = record {
  count = g.count;
  each = λ n r d streams p q c. elim (g.rings n r d p q) [
    | inl a ↦ (let (old, carries, on) = carried_on w w2 s t n streams g (within s.rings n r a.0) c in
        ring_still old streams on r d (h.each n r d old a.0 a.1 carries))
    | inr a ↦ subst (λ x. RingShows streams x d) (sym a.1) (subst (RingShows streams (fresh_ring a.0)) (sym a.2) (new_show.ring streams a.0))
  ];
}

-- ---- bindings

pub binding_grows : (s t : State) (n : ℕ) (b : Binding) (there : TheBinding)
    → ((route : Route) (x : Service) → b.back ≡ over_route route → service_of t.services route.service ≡ Some x → service_of s.services route.service ≡ Some x)
    → ((i : Planned) → interface_of t b ≡ Some i → interface_of s b ≡ Some i) → BindingShows s n b there → BindingShows t n b there
binding_grows s t n b there services interfaces h = record {
  interface = h.interface;
  seated = h.seated;
  routed = h.routed;
  offered = λ route x p q. h.offered route x p (services route x p q);
  unmade = λ i p q. h.unmade i (interfaces i p) q;
}
