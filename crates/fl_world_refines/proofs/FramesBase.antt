-- What stays of a what is shown, part by part: streams, queues, wirings, ends that are made, rings and bindings.
use Rattle.std.proofs.Common.{◌≡◌, refl, sym, ◌∙◌, ap, subst, ℕ, zero, suc, ◌-◌, List, [], ◌∷◌, length, slice_get, slice_index, Option, Some, None, arith, inl, inr}
use Rattle.fl_base.specs.declared.identity.Side.{Side}
use Rattle.fl_base.specs.declared.identity.Side.TheVariants.{Client, Server}
use Rattle.fl_base.specs.declared.identity.EndId.{EndId}
use Rattle.fl_base.specs.Ends.{other, peer}
use Rattle.fl_base.specs.Given.{given}
use Rattle.fl_link.specs.Queue.{TheQueue}
use Rattle.fl_ring.specs.Duo.{TheDuo}
use Rattle.fl_core.specs.BoardView.{TheEndAtChannel}
use Rattle.fl_core.specs.declared.wiring.EndWiring.{EndWiring}
use Rattle.fl_core.specs.declared.wiring.EndWiring.TheVariants.{Queues, Ring as OverSide, Circuit}
use Rattle.fl_core.specs.declared.wiring.LinkSide.{LinkSide}
use Rattle.fl_core.specs.declared.wiring.WiredEnd.{WiredEnd}
use Rattle.fl_core.specs.View.{TheCore, place_in, place_of, side_of_link}
use Rattle.fl_model.specs.Calls.{Planned}
use Rattle.fl_model.specs.Rings.{Ring, RingEnd}
use Rattle.fl_model.specs.Ends.{Seat, End, Direction}
use Rattle.fl_model.specs.Monitors.{Link, Service, service_of}
use Rattle.fl_model.specs.State.{Back, local, over_ring, over_route, Route, Binding, State, Outlet, binding_of, interface_of, end_in, end_of, own_ring, link_between, outlet_by, ring_side, way_of, first_link}
use Rattle.fl_model.specs.Keeping.{KeepsCalls}
use Rattle.fl_world_refines.specs.Fragments.{Streams, calls_off_links, calls_between}
use Rattle.fl_world_refines.specs.Ends.{EndShows}
use Rattle.fl_world_refines.specs.Rings.{RingShows}
use Rattle.fl_world_refines.proofs.Carried.{labels_stay}
use Rattle.fl_world_refines.proofs.Sides.{ring_still}
use Rattle.fl_world_refines.proofs.Standing.{queue_still}
use Rattle.fl_world_refines.specs.declared.binding.Binding.{Binding as TheBinding}
use Rattle.fl_world_refines.specs.View.{TheWorld, core_in}
use Rattle.fl_world_refines.specs.ShowsState.{TakesFrom, wiring_of, IsWiring, IsMade, SitsAt, EndsShow, IsUnmade, IsSilent, BindingsShow, Carries}

-- ---- lists

-- lists of one length have elements at the same places
pub gets : {X Y : Type 0} (xs : List X) (ys : List Y) (n : ℕ) (x : X) → length ys ≡ length xs → slice_get xs n ≡ Some x → (y : Y) × (slice_get ys n ≡ Some y)
gets [] ys n x e q = absurd (cc)
gets (z ∷ xs) [] n x e q = absurd (omega (arith, e))
gets (z ∷ xs) (y ∷ ys) zero x e q = (y, refl)
gets (z ∷ xs) (y ∷ ys) (suc n) x e q = gets xs ys n x (omega (arith, e)) q

pub same_some : {X : Type 0} (o : Option X) (x y : X) → o ≡ Some x → o ≡ Some y → x ≡ y
same_some o x y p q = let e : Some x ≡ Some y = sym p ∙ q in cc

pub not_both : {X : Type 0} {P : Type 0} (o : Option X) (x : X) → o ≡ None → o ≡ Some x → P
not_both {X} {P} o x p q = let e : None ≡ Some x = sym p ∙ q in absurd (cc)

-- ---- cores

-- the same ends are wired alike, and links have the same link sides
pub record SameWirings (c d : TheCore) : Type 0 where
  pub places : d.places ≡ c.places
  pub wired_ends : d.wired_ends ≡ c.wired_ends
  pub link_sides : d.link_sides ≡ c.link_sides

pub wirings_same : (c : TheCore) → SameWirings c c
wirings_same c = record { places = refl; wired_ends = refl; link_sides = refl }

abbrev wiring_in : List (Option ℕ) → List WiredEnd → EndId → Option EndWiring
wiring_in places wired_ends e =
    given (place_in places e) None λ place.
    given (slice_get wired_ends place) None λ p. Some p.wiring

pub wiring_same : (c d : TheCore) (e : EndId) → SameWirings c d → wiring_of d e ≡ wiring_of c e
wiring_same c d e h = ap (λ ps. wiring_in ps d.wired_ends e) h.places ∙ ap (λ ps. wiring_in c.places ps e) h.wired_ends

pub place_same : (c d : TheCore) (e : EndId) → SameWirings c d → place_of d e ≡ place_of c e
place_same c d e h = ap (λ ps. place_in ps e) h.places

-- ---- states

-- the ring of a core's link to another
abbrev pub ring_to : State → ℕ → ℕ → Option RingEnd
ring_to s a b = given (link_between s a b) None λ link. Some link.ring

pub ring_of_link : (s : State) (a b : ℕ) (link : Link) → link_between s a b ≡ Some link → ring_to s a b ≡ Some link.ring
ring_of_link s a b link q = ap (λ o. given o None (λ (l : Link). Some l.ring)) q

link_by : (o : Option Link) (at : RingEnd) → given o None (λ (l : Link). Some l.ring) ≡ Some at → (link : Link) × (o ≡ Some link) × (link.ring ≡ at)
link_by None at q = absurd (cc)
link_by (Some l) at q = (l, refl, same_some (Some l.ring) l.ring at refl q)

pub link_of_ring : (s : State) (a b : ℕ) (at : RingEnd) → ring_to s a b ≡ Some at → (link : Link) × (link_between s a b ≡ Some link) × (link.ring ≡ at)
link_of_ring s a b at q = link_by (link_between s a b) at q

-- how two ends are joined, in one state and in another
pub record SameBack (s z : State) (b c : Back) : Type 0 where
  pub queues : b ≡ local → c ≡ local
  pub ring : (n : ℕ) → c ≡ over_ring n → b ≡ over_ring n
  pub own : (side : Side) → own_ring side c ≡ own_ring side b
  pub outlet : (side : Side) → outlet_by z side c ≡ outlet_by s side b
  pub route : (r : Route) → c ≡ over_route r → (q : Route) × (b ≡ over_route q) × (r.cores ≡ q.cores) × (r.service ≡ q.service)

-- a binding whose ends sit where they sat
pub record SameBinding (s z : State) (b c : Binding) : Type 0 where
  pub interface : c.interface ≡ b.interface
  pub back : SameBack s z b.back c.back
  pub seats : (side : Side) → (end_in side c).seat ≡ (end_in side b).seat

-- a state with the same bindings, as far as they lead
pub record SameState (s z : State) : Type 0 where
  pub interfaces : z.interfaces ≡ s.interfaces
  pub services : z.services ≡ s.services
  pub count : length z.bindings ≡ length s.bindings
  pub bindings : (n : ℕ) (b c : Binding) → slice_get s.bindings n ≡ Some b → slice_get z.bindings n ≡ Some c → SameBinding s z b c
  pub links : (a b : ℕ) → ring_to z a b ≡ ring_to s a b
  pub keeps : KeepsCalls s z

-- where links have the same rings, outlets are the same
abbrev outlet_on : (ℕ → ℕ → Option RingEnd) → List ℕ → Option Outlet
outlet_on rings way =
    given (slice_get way 0) None λ core.
    given (slice_get way 1) None λ next.
    given (rings core next) None λ at. Some (ring_side at)

outlet_is : (s : State) (way : List ℕ) → given (first_link s way) None (λ (link : Link). Some (ring_side link.ring)) ≡ outlet_on (ring_to s) way
outlet_is s way = by (slice_get way 0) (slice_get way 1)
  where
    link : (o : Option Link) → given o None (λ (l : Link). Some (ring_side l.ring)) ≡ given (given o None (λ (l : Link). Some l.ring)) None (λ at. Some (ring_side at))
    link None = refl
    link (Some l) = refl

    by : (o p : Option ℕ) → given (given o None (λ core. given p None (λ next. link_between s core next))) None (λ (l : Link). Some (ring_side l.ring))
        ≡ given o None (λ core. given p None (λ next. given (ring_to s core next) None (λ at. Some (ring_side at))))
    by None p = refl
    by (Some core) None = refl
    by (Some core) (Some next) = link (link_between s core next)

outlets_way : (s z : State) → ((a b : ℕ) → ring_to z a b ≡ ring_to s a b) → (way : List ℕ) → outlet_on (ring_to z) way ≡ outlet_on (ring_to s) way
outlets_way s z h way = by (slice_get way 0) (slice_get way 1)
  where
    by : (o p : Option ℕ) → given o None (λ core. given p None (λ next. given (ring_to z core next) None (λ at. Some (ring_side at))))
        ≡ given o None (λ core. given p None (λ next. given (ring_to s core next) None (λ at. Some (ring_side at))))
    by None p = refl
    by (Some core) None = refl
    by (Some core) (Some next) = ap (λ o. given o None (λ at. Some (ring_side at))) (h core next)

pub outlets_same : (s z : State) → ((a b : ℕ) → ring_to z a b ≡ ring_to s a b) → (side : Side) (b : Back) → outlet_by z side b ≡ outlet_by s side b
outlets_same s z h side local = refl
outlets_same s z h side (over_ring n) = refl
outlets_same s z h side (over_route r) = outlet_is z (way_of side r) ∙ outlets_way s z h (way_of side r) ∙ sym (outlet_is s (way_of side r))

pub same_back : (s z : State) (b : Back) → ((a b : ℕ) → ring_to z a b ≡ ring_to s a b) → SameBack s z b b
same_back s z b h = record {
  queues = λ q. q;
  ring = λ n q. q;
  own = λ side. refl;
  outlet = λ side. outlets_same s z h side b;
  route = λ r q. (r, q, refl, refl);
}

-- ---- queues

pub takes_still : (xs ys : List TheQueue) (s z : State) (x y : End) (place : ℕ) → KeepsCalls s z → y.queue ≡ x.queue → slice_get ys place ≡ slice_get xs place
    → TakesFrom xs s x place → TakesFrom ys z y place
takes_still xs ys s z x y place k q l t = record {
  queue = t.queue;
  queue_is = q ∙ t.queue_is;
  there = t.there;
  there_is = l ∙ t.there_is;
  shows = queue_still (calls_off_links s) (calls_off_links z) (labels_stay s z k).off_links t.queue t.there t.shows;
}

-- ---- wirings

-- what an end takes from, by its wiring, goes on
abbrev pub TakesOn : TheWorld → TheWorld → State → State → TheCore → TheCore → End → End → EndWiring → Type 0
TakesOn w v s z c d x y (Queues out from) = TakesFrom w.queues s x from → TakesFrom v.queues z y from
TakesOn w v s z c d x y (OverSide side) = Unit {0}
TakesOn w v s z c d x y (Circuit l a) = TakesFrom c.arrivals s x a → TakesFrom d.arrivals z y a

pub wiring_stays : (w v : TheWorld) (s z : State) (e : EndId) (b c : Binding) (core d : TheCore) (wiring : EndWiring) → SameWirings core d → SameBack s z b.back c.back
    → TakesOn w v s z core d (end_in e.side b) (end_in e.side c) wiring → IsWiring w core s e b wiring → IsWiring v d z e c wiring
wiring_stays w v s z e b c core d (Queues out from) g h t k = (h.queues k.0, t k.1, wiring_same core d (peer e) g ∙ k.2)
wiring_stays w v s z e b c core d (OverSide side) g h t k = (k.0, h.own e.side ∙ k.1, k.2)
wiring_stays w v s z e b c core d (Circuit l a) g h t k =
    ((k.0.0, ap (λ (ls : List LinkSide). side_of_link ls l.0) g.link_sides ∙ k.0.1, h.outlet e.side ∙ k.0.2), t k.1)

-- ---- ends that are made

-- at this place sits an end where one sat, which is now this what is shown
pub record SitsStill (old : TheEndAtChannel) (i : Planned) (x : End) (out : Direction) (d : TheCore) (place : ℕ) : Type 0 where
  pub at : TheEndAtChannel
  pub at_is : slice_get d.board.seats place ≡ Some at
  pub dispatcher : at.dispatcher ≡ old.dispatcher
  pub channel : at.channel ≡ old.channel
  pub shows : EndShows i x out at.end

pub made_stays : (w v : TheWorld) (s z : State) (e : EndId) (b c : Binding) (i : Planned) (seat : Seat) (m : IsMade w s e b i seat) (d : TheCore)
    → slice_get v.cores seat.dispatcher.core ≡ Some d → SameWirings m.core d → SameBack s z b.back c.back
    → SitsStill m.at i (end_in e.side c) (end_in (other e.side) c).out d m.place
    → TakesOn w v s z m.core d (end_in e.side b) (end_in e.side c) m.wired_end.wiring → IsMade v z e c i seat
made_stays w v s z e b c i seat m d q g h k t = record {
  core = d;
  core_is = q;
  place = m.place;
  place_is = place_same m.core d e g ∙ m.place_is;
  at = k.at;
  at_is = k.at_is;
  dispatcher = k.dispatcher ∙ m.dispatcher;
  channel = k.channel ∙ m.channel;
  shows = k.shows;
  wired_end = m.wired_end;
  wired_end_is = ap (λ (ps : List WiredEnd). slice_get ps m.place) g.wired_ends ∙ m.wired_end_is;
  name_is = m.name_is;
  wiring = wiring_stays w v s z e b c m.core d m.wired_end.wiring g h t m.wiring;
}

-- ---- worlds

pub record SameLocations (x y : TheBinding) : Type 0 where
  pub interface : y.interface ≡ x.interface
  pub client : y.client ≡ x.client
  pub server : y.server ≡ x.server

-- a world with the same ends at the same cores
pub record SameWorld (w v : TheWorld) : Type 0 where
  pub core_count : length v.cores ≡ length w.cores
  pub cores : (n : ℕ) (c d : TheCore) → slice_get w.cores n ≡ Some c → slice_get v.cores n ≡ Some d → SameWirings c d
  pub count : length v.bindings ≡ length w.bindings
  pub bindings : (n : ℕ) (x y : TheBinding) → slice_get w.bindings n ≡ Some x → slice_get v.bindings n ≡ Some y → SameLocations x y

-- ---- all ends

-- each end that is made sits still
abbrev pub AllSit : TheWorld → TheWorld → State → State → Type 0
AllSit w v s z = (e : EndId) (b c : Binding) (i : Planned) (seat : Seat) (m : IsMade w s e b i seat) (d : TheCore)
    → binding_of s e ≡ Some b → binding_of z e ≡ Some c → interface_of s b ≡ Some i → (end_in e.side b).seat ≡ Some seat
    → slice_get v.cores seat.dispatcher.core ≡ Some d
    → SitsStill m.at i (end_in e.side c) (end_in (other e.side) c).out d m.place

-- and takes from where it took
abbrev pub AllTake : TheWorld → TheWorld → State → State → Type 0
AllTake w v s z = (e : EndId) (b c : Binding) (i : Planned) (seat : Seat) (m : IsMade w s e b i seat) (d : TheCore)
    → binding_of s e ≡ Some b → binding_of z e ≡ Some c → (end_in e.side b).seat ≡ Some seat
    → slice_get v.cores seat.dispatcher.core ≡ Some d
    → TakesOn w v s z m.core d (end_in e.side b) (end_in e.side c) m.wired_end.wiring

interface_back : (s z : State) (b c : Binding) (i : Planned) → SameState s z → SameBinding s z b c → interface_of z c ≡ Some i → interface_of s b ≡ Some i
interface_back s z b c i h k q =
    ap (λ n. slice_get s.interfaces n) (sym k.interface) ∙ ap (λ (is : List Planned). slice_get is c.interface) (sym h.interfaces) ∙ q

pub old_binding : (s z : State) (n : ℕ) (c : Binding) → SameState s z → slice_get z.bindings n ≡ Some c → (b : Binding) × (slice_get s.bindings n ≡ Some b) × SameBinding s z b c
old_binding s z n c h q =
    let g = gets z.bindings s.bindings n c (sym h.count) q in
    (g.0, g.1, h.bindings n g.0 c g.1 q)

pub old_core : (w v : TheWorld) (n : ℕ) (d : TheCore) → SameWorld w v → slice_get v.cores n ≡ Some d → (c : TheCore) × (slice_get w.cores n ≡ Some c) × SameWirings c d
old_core w v n d h q =
    let g = gets v.cores w.cores n d (sym h.core_count) q in
    (g.0, g.1, h.cores n g.0 d g.1 q)

all_made : (w v : TheWorld) (s z : State) → EndsShow w s → SameState s z → SameWorld w v → AllSit w v s z → AllTake w v s z
    → (e : EndId) (c : Binding) (i : Planned) (seat : Seat) → binding_of z e ≡ Some c → interface_of z c ≡ Some i
    → (end_in e.side c).seat ≡ Some seat → IsMade v z e c i seat
all_made w v s z ends h k sits takes e c i seat p q r =
    let o = old_binding s z e.binding c h p in
    let same : SameBinding s z o.0 c = o.2 in
    let iq = interface_back s z o.0 c i h same q in
    let sq : (end_in e.side o.0).seat ≡ Some seat = sym (same.seats e.side) ∙ r in
    let m = ends.made e o.0 i seat o.1 iq sq in
    let g = gets w.cores v.cores seat.dispatcher.core m.core k.core_count m.core_is in
    made_stays w v s z e o.0 c i seat m g.0 g.1 (k.cores seat.dispatcher.core m.core g.0 m.core_is g.1) same.back
    (sits e o.0 c i seat m g.0 o.1 p iq sq g.1) (takes e o.0 c i seat m g.0 o.1 p sq g.1)

end_by : (o : Option Binding) (side : Side) (x : End) → given o None (λ b. Some (end_in side b)) ≡ Some x → (b : Binding) × (o ≡ Some b) × (end_in side b ≡ x)
end_by None side x q = absurd (cc)
end_by (Some b) side x q = (b, refl, same_some (Some (end_in side b)) (end_in side b) x refl q)

pub binding_of_end : (s : State) (e : EndId) (x : End) → end_of s e ≡ Some x → (b : Binding) × (binding_of s e ≡ Some b) × (end_in e.side b ≡ x)
binding_of_end s e x q = end_by (binding_of s e) e.side x q

pub end_of_binding : (s : State) (e : EndId) (b : Binding) → binding_of s e ≡ Some b → end_of s e ≡ Some (end_in e.side b)
end_of_binding s e b q = ap (λ o. given o None (λ (y : Binding). Some (end_in e.side y))) q

sits_still : (s z : State) (e : EndId) (n : ℕ) → SameState s z → SitsAt s e n → SitsAt z e n
sits_still s z e n h k =
    let b = binding_of_end s e k.0 k.1.1 in
    let c = gets s.bindings z.bindings e.binding b.0 h.count b.1 in
    let same = h.bindings e.binding b.0 c.0 b.1 c.1 in
    (end_in e.side c.0, (k.1.0, end_of_binding z e c.0 c.1, same.seats e.side ∙ ap (λ (x : End). x.seat) b.2 ∙ k.1.2, k.1.3))

pub ends_stay : (w v : TheWorld) (s z : State) → EndsShow w s → SameState s z → SameWorld w v → AllSit w v s z → AllTake w v s z → EndsShow v z
ends_stay w v s z ends h k sits takes = record {
  made = all_made w v s z ends h k sits takes;
  only = λ n d e place p q.
      let o = old_core w v n d k p in
      sits_still s z e n h (ends.only n o.0 e place o.1 (sym (place_same o.0 d e o.2) ∙ q));
  apart = λ n m c d e f x y q hn hm hc hd.
      let o = old_core w v n c k hn in
      let p = old_core w v m d k hm in
      ends.apart n m o.0 p.0 e f x y q o.1 p.1 (sym (wiring_same o.0 c e o.2) ∙ hc) (sym (wiring_same p.0 d f p.2) ∙ hd);
}

-- ---- bindings

-- the server's ends that aren't made
abbrev pub AllWait : TheWorld → State → Type 0
AllWait v z = (n : ℕ) (c : Binding) (y : TheBinding) (i : Planned) → slice_get z.bindings n ≡ Some c → slice_get v.bindings n ≡ Some y
    → interface_of z c ≡ Some i → c.server.seat ≡ None → IsUnmade i c y

core_same : (side : Side) (x y : TheBinding) → SameLocations x y → core_in side y ≡ core_in side x
core_same Client x y h = h.client
core_same Server x y h = h.server

-- ends that aren't bound have accepted nothing
abbrev pub AllSilent : State → Type 0
AllSilent z = (e : EndId) (x : End) → end_of z e ≡ Some x → x.circuit ≡ None → IsSilent x.out

pub bindings_stay : (w v : TheWorld) (s z : State) → BindingsShow w s → SameState s z → SameWorld w v → AllWait v z → AllSilent z → BindingsShow v z
bindings_stay w v s z old h k waits silent = record {
  count = k.count ∙ old.count ∙ sym h.count;
  each = λ n c y p q.
      let o = old_binding s z n c h p in
      let same : SameBinding s z o.0 c = o.2 in
      let g = gets v.bindings w.bindings n y (sym k.count) q in
      let locations = k.bindings n g.0 y g.1 q in
      let b = old.each n o.0 g.0 o.1 g.1 in
      record {
        interface = locations.interface ∙ b.interface ∙ sym same.interface;
        seated = λ e seat r t. core_same e.side g.0 y locations ∙ b.seated e seat r (sym (same.seats e.side) ∙ t);
        routed = λ r t.
            let a = same.back.route r t in
            locations.server ∙ b.routed a.0 a.1 ∙ ap (λ (cores : List ℕ). slice_index cores (length cores - 1)) (sym a.2);
        offered = λ r x t u.
            let a = same.back.route r t in
            b.offered a.0 x a.1 (ap (λ n. service_of s.services n) (sym a.3) ∙ ap (λ (xs : List Service). service_of xs r.service) (sym h.services) ∙ u)
            ∙ sym same.interface;
        unmade = λ i t u. waits n c y i p q t u;
      };
  silent = silent;
}

-- ---- rings

pub rings_stay : (s z : State) (n : ℕ) (r : Ring) (d : TheDuo) → SameState s z → ((streams : Streams) → Carries s n streams → RingShows streams r d)
    → (streams : Streams) → Carries z n streams → RingShows streams r d
rings_stay s z n r d h old streams c = elim c [
  | inl (a, b, link, p, q, e) ↦ on_link a b link p q e
  | inr (m, b, p, q, e) ↦ on_binding m b p q e
]
  where
    on_link : (a b : ℕ) (link : Link) → link_between z a b ≡ Some link → link.ring.ring ≡ n → streams ≡ calls_between a b z → RingShows streams r d
    on_link a b link p q e =
        let l = link_of_ring s a b link.ring (sym (h.links a b) ∙ ring_of_link z a b link p) in
        let shows = old (calls_between a b s) (inl (a, b, l.0, l.1, ap (λ (at : RingEnd). at.ring) l.2 ∙ q, refl)) in
        subst (λ (t : Streams). RingShows t r d) (sym e)
        (ring_still (calls_between a b s) (calls_between a b z) ((labels_stay s z h.keeps).between a b) r d shows)

    on_binding : (m : ℕ) (b : Binding) → slice_get z.bindings m ≡ Some b → b.back ≡ over_ring n → streams ≡ calls_off_links z → RingShows streams r d
    on_binding m b p q e =
        let o = old_binding s z m b h p in
        let same : SameBinding s z o.0 b = o.2 in
        let shows = old (calls_off_links s) (inr (m, o.0, o.1, same.back.ring n q, refl)) in
        subst (λ (t : Streams). RingShows t r d) (sym e)
        (ring_still (calls_off_links s) (calls_off_links z) (labels_stay s z h.keeps).off_links r d shows)
