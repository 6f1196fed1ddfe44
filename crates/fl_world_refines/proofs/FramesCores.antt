-- Where one core of a world is changed and ends are left alone: a dispatcher's lists, or what its monitor knows.
use Rattle.std.proofs.Common.{◌≡◌, ◌≢◌, refl, sym, ◌∙◌, ap, subst, ℕ, zero, suc, ◌+◌, ◌*◌, ◌/◌, ◌%◌, ◌==◌, if◌then◌else◌, List, [], ◌∷◌, length, map, sum, slice_get, slice_set, Option, Some, None, option_map, arith, ◌⊎◌, inl, inr}
use Rattle.fl_base.specs.declared.identity.EndId.{EndId}
use Rattle.fl_base.specs.Ends.{other}
use Rattle.fl_base.specs.Given.{given}
use Rattle.fl_hop.proofs.Entering.{same_or}
use Rattle.fl_hop.proofs.Lists.{set_cases, set_here}
use Rattle.fl_lists.specs.ThreeLists.{ThreeLists}
use Rattle.fl_core.specs.BoardView.{TheDispatcher, TheEndAtChannel, with_lists}
use Rattle.fl_core.specs.declared.wiring.LinkSide.{LinkSide}
use Rattle.fl_core.specs.View.{TheCore, with_board, with_monitor}
use Rattle.fl_model.specs.Given.{changed_at}
use Rattle.fl_model.specs.Calls.{Planned}
use Rattle.fl_model.specs.Rings.{RingSide, first_side, second_side, RingEnd}
use Rattle.fl_model.specs.Waits.{Dispatcher}
use Rattle.fl_model.specs.Monitors.{Core, Link, link_to}
use Rattle.fl_model.specs.State.{Binding, State, core_of, change_core, binding_of, end_in}
use Rattle.fl_model_laws.proofs.Small.{length_set}
use Rattle.fl_model_laws.proofs.Places.{changed_same, changed_other}
use Rattle.fl_model_laws.proofs.Views.{map_kept}
use Rattle.fl_world_refines.specs.View.{TheWorld, with_core, side_number, side_at, side_in, number_in}
use Rattle.fl_world_refines.specs.ShowsState.{link_side_of, DispatcherShows, CoreShows, CoresShow, ShowsState}
use Rattle.fl_world_refines.proofs.Frames.{ListsFrame, MonitorFrame}
use Rattle.fl_world_refines.proofs.FramesBase.{same_some, SameWirings, SameState, SameBinding, same_back, SameWorld, SameLocations, SitsStill, ring_to, rings_stay}
use Rattle.fl_world_refines.proofs.FramesWhole.{showing_stays, set_related, same_related, prefix_same, numbers_same}
use Rattle.fl_world_refines.proofs.FramesEnds.{locations_same, takes_on, changed_is}

-- ---- sides and their numbers

pub side_of_number : (at : RingEnd) → side_at (side_number at) ≡ at
side_of_number at = by at.ring at.side
  where
    by : (n : ℕ) (side : RingSide) → side_at (2 * n + number_in side) ≡ record { ring = n; side = side }
    by n first_side =
        let q : (2 * n + 0) / 2 ≡ n = omega arith in
        let r : (2 * n + 0) % 2 ≡ 0 = omega arith in
        ap (λ m. let x : RingEnd = record { ring = m; side = side_in (2 * n + 0) } in x) q
        ∙ ap (λ k. let x : RingEnd = record { ring = n; side = if k == 0 then first_side else second_side } in x) r
    by n second_side =
        let q : (2 * n + 1) / 2 ≡ n = omega arith in
        let r : (2 * n + 1) % 2 ≡ 1 = omega arith in
        ap (λ m. let x : RingEnd = record { ring = m; side = side_in (2 * n + 1) } in x) q
        ∙ ap (λ k. let x : RingEnd = record { ring = n; side = if k == 0 then first_side else second_side } in x) r

pub same_side : (x y : RingEnd) → side_number x ≡ side_number y → x ≡ y
same_side x y q = sym (side_of_number x) ∙ ap side_at q ∙ side_of_number y

-- ---- states that differ elsewhere

-- the same bindings and interfaces, and links over the same rings
pub state_alike : (s z : State) → z.interfaces ≡ s.interfaces → z.services ≡ s.services → z.bindings ≡ s.bindings → ((a b : ℕ) → ring_to z a b ≡ ring_to s a b) → SameState s z
state_alike s z p o q r = record {
  interfaces = p;
  services = o;
  count = ap length q;
  bindings = λ n b c k l.
      let e : b ≡ c = same_some (slice_get s.bindings n) b c k (ap (λ (bs : List Binding). slice_get bs n) (sym q) ∙ l) in
      subst (SameBinding s z b) e (record { interface = refl; back = same_back s z b.back r; seats = λ side. refl });
  links = r;
  keeps = record {
    interfaces = λ n i k. ap (λ (is : List Planned). slice_get is n) p ∙ k;
    bindings = λ e b k. record {
      now = b;
      there = ap (λ (bs : List Binding). slice_get bs e.binding) q ∙ k;
      interface = refl;
      numbers = numbers_same _;
      accepted = prefix_same _;
    };
  };
}

-- ---- one core changed

pub record LinksStay (k l : Core) : Type 0 where
  pub link_sides : map link_side_of l.links ≡ map link_side_of k.links
  pub links : (n : ℕ) → link_to n l ≡ link_to n k

-- the ring of a core's link to another
abbrev ring_in : ℕ → Core → Option RingEnd
ring_in b k = given (given (link_to b k) None (slice_get k.links)) None λ (link : Link). Some link.ring

ring_by : (b : ℕ) (o : Option Core) → given (given o None (λ k. given (link_to b k) None (λ l. slice_get k.links l))) None (λ (link : Link). Some link.ring)
    ≡ given o None (ring_in b)
ring_by b None = refl
ring_by b (Some k) = refl

link_side_rings : (xs ys : List Link) (l : ℕ) → map link_side_of ys ≡ map link_side_of xs
    → given (slice_get ys l) None (λ (link : Link). Some link.ring) ≡ given (slice_get xs l) None (λ (link : Link). Some link.ring)
link_side_rings [] [] l q = refl
link_side_rings [] (y ∷ ys) l q = absurd (cc)
link_side_rings (x ∷ xs) [] l q = absurd (cc)
link_side_rings (x ∷ xs) (y ∷ ys) zero q =
    let e : link_side_of y ≡ link_side_of x = cc in
    ap (λ at. Some at) (same_side y.ring x.ring (ap (λ (m : LinkSide). m.side) e))
link_side_rings (x ∷ xs) (y ∷ ys) (suc l) q =
    let e : map link_side_of ys ≡ map link_side_of xs = cc in
    link_side_rings xs ys l e

core_rings : (k l : Core) (b : ℕ) → LinksStay k l → ring_in b l ≡ ring_in b k
core_rings k l b h = ap (λ o. given (given o None (slice_get l.links)) None (λ (link : Link). Some link.ring)) (h.links b) ∙ by (link_to b k)
  where
    by : (o : Option ℕ) → given (given o None (slice_get l.links)) None (λ (link : Link). Some link.ring)
        ≡ given (given o None (slice_get k.links)) None (λ (link : Link). Some link.ring)
    by None = refl
    by (Some m) = link_side_rings k.links l.links m h.link_sides

pub core_links : (s : State) (n : ℕ) (k : Core) (f : Core → Core) → core_of s n ≡ Some k → LinksStay k (f k) → (a b : ℕ)
    → ring_to (change_core n f s) a b ≡ ring_to s a b
core_links s n k f q h a b = ring_by b (slice_get (changed_at n f s.cores) a) ∙ by (same_or a n) ∙ sym (ring_by b (slice_get s.cores a))
  where
    by : (a ≡ n) ⊎ (a ≢ n) → given (slice_get (changed_at n f s.cores) a) None (ring_in b) ≡ given (slice_get s.cores a) None (ring_in b)
    by (inl e) =
        ap (λ m. given (slice_get (changed_at n f s.cores) m) None (ring_in b)) e
        ∙ ap (λ o. given o None (ring_in b)) (changed_same s.cores n f ∙ ap (option_map f) q)
        ∙ core_rings k (f k) b h
        ∙ ap (λ o. given o None (ring_in b)) (sym q)
        ∙ ap (λ m. given (slice_get s.cores m) None (ring_in b)) (sym e)
    by (inr e) = ap (λ o. given o None (ring_in b)) (changed_other s.cores n a f e)

-- a core of the world that has the same ends, with the same queues
pub record CoreAlike (c d : TheCore) : Type 0 where
  pub wirings : SameWirings c d
  pub seats : d.board.seats ≡ c.board.seats
  pub arrivals : d.arrivals ≡ c.arrivals

pub alike_same : (c : TheCore) → CoreAlike c c
alike_same c = record { wirings = record { places = refl; wired_ends = refl; link_sides = refl }; seats = refl; arrivals = refl }

-- a core of the state, and of the world, changed, where its ends stay
pub record OneCore (w : TheWorld) (s : State) (n : ℕ) (c d : TheCore) (k : Core) (f : Core → Core) : Type 0 where
  pub there : slice_get w.cores n ≡ Some c
  pub core_is : core_of s n ≡ Some k
  pub alike : CoreAlike c d
  pub link_sides : map link_side_of (f k).links ≡ map link_side_of k.links
  pub links : (m : ℕ) → link_to m (f k) ≡ link_to m k
  pub count : length (f k).dispatchers ≡ length k.dispatchers
  pub shows : CoreShows (f k) d

core_state : (w : TheWorld) (s : State) (n : ℕ) (c d : TheCore) (k : Core) (f : Core → Core) → OneCore w s n c d k f → SameState s (change_core n f s)
core_state w s n c d k f h = state_alike s (change_core n f s) refl refl refl (core_links s n k f h.core_is stays)
  where
    stays : LinksStay k (f k)
    stays = record { link_sides = h.link_sides; links = h.links }

core_world : (w : TheWorld) (s : State) (n : ℕ) (c d : TheCore) (k : Core) (f : Core → Core) → OneCore w s n c d k f → SameWorld w (with_core w n d)
core_world w s n c d k f h = record {
  core_count = length_set w.cores n d;
  cores = λ m a b p q. (set_related CoreAlike w.cores n c d alike_same h.there h.alike m a b p q).wirings;
  count = refl;
  bindings = λ m x y p q. same_related SameLocations w.bindings locations_same m x y p q;
}

core_shown : (w : TheWorld) (s : State) (n : ℕ) (c d : TheCore) (k : Core) (f : Core → Core) → ShowsState w s → OneCore w s n c d k f
    → CoresShow (with_core w n d) (change_core n f s)
core_shown w s n c d k f p h = record {
  count = length_set w.cores n d ∙ p.cores.count ∙ sym (ap length cores ∙ length_set s.cores n (f k));
  each = λ m l e q r. by m l e (ap (λ (ks : List Core). slice_get ks m) (sym cores) ∙ q) r;
}
  where
    cores : changed_at n f s.cores ≡ slice_set s.cores n (f k)
    cores = changed_is s.cores n f k h.core_is

    by : (m : ℕ) (l : Core) (e : TheCore) → slice_get (slice_set s.cores n (f k)) m ≡ Some l → slice_get (slice_set w.cores n d) m ≡ Some e → CoreShows l e
    by m l e q r = elim (set_cases s.cores n (f k) m l q) [
      | inl (a, b) ↦
          let e_is : d ≡ e = same_some _ d e (set_here w.cores n c d h.there) (ap (slice_get (slice_set w.cores n d)) (sym a) ∙ r) in
          subst (λ (z : Core). CoreShows z e) (sym b) (subst (CoreShows (f k)) e_is h.shows)
      | inr (a, b) ↦ elim (set_cases w.cores n d m e r) [
        | inl (x, y) ↦ absurd (a x)
        | inr (x, y) ↦ p.cores.each m l e b y
      ]
    ]

pub core_frame : (w : TheWorld) (s : State) (n : ℕ) (c d : TheCore) (k : Core) (f : Core → Core) → ShowsState w s → OneCore w s n c d k f
    → ShowsState (with_core w n d) (change_core n f s)
core_frame w s n c d k f p h =
    let same = core_state w s n c d k f h in
    let z = change_core n f s in
    let v = with_core w n d in
    let alike : (m : ℕ) (a b : TheCore) → slice_get w.cores m ≡ Some a → slice_get v.cores m ≡ Some b → CoreAlike a b
    = λ m a b q r. set_related CoreAlike w.cores n c d alike_same h.there h.alike m a b q r in
    showing_stays w v s z p same (core_world w s n c d k f h)
    (record {
      may_set_cores = p.may_set_cores;
      dispatchers = p.dispatchers ∙ ap sum (sym (map_kept (λ (l : Core). length l.dispatchers) f s.cores n
          (λ l q. let e : k ≡ l = same_some (slice_get s.cores n) k l h.core_is q in
          subst (λ (x : Core). length (f x).dispatchers ≡ length x.dispatchers) e h.count)));
      programs = refl;
      names = refl;
    }) (core_shown w s n c d k f p h)
    (record { count = p.rings.count; each = λ m r t streams q u. rings_stay s z m r t same (λ old o. p.rings.each m r t old q u o) streams })
    (λ m b y i q r t u. (p.bindings.each m b y q r).unmade i t u) p.bindings.silent
    (λ e b y i seat m x q r t u a.
    let same_b : b ≡ y = same_some (binding_of s e) b y q r in
    subst (λ (g : Binding). SitsStill m.at i (end_in e.side g) (end_in (other e.side) g).out x m.place) same_b
    (record {
      at = m.at;
      at_is = ap (λ (ss : List TheEndAtChannel). slice_get ss m.place) (alike seat.dispatcher.core m.core x m.core_is a).seats ∙ m.at_is;
      dispatcher = refl;
      channel = refl;
      shows = m.shows;
    }))
    (λ e b y i seat m x q r u a.
    takes_on w v s z m.core x (end_in e.side b) (end_in e.side y) m.wired_end.wiring same.keeps
    (ap (λ (g : Binding). (end_in e.side g).queue) (same_some (binding_of s e) y b r q)) refl
    (alike seat.dispatcher.core m.core x m.core_is a).arrivals)

-- ---- a dispatcher's lists

lists_shown : (n : ℕ) (c : TheCore) (k : Core) (there : TheDispatcher) (x : Dispatcher) (f : Dispatcher → Dispatcher) (v : ThreeLists) → CoreShows k c
    → slice_get c.board.dispatchers n ≡ Some there → slice_get k.dispatchers n ≡ Some x → (f x).ends ≡ x.ends → v ≡ (f x).lists
    → CoreShows (record k { dispatchers = changed_at n f k.dispatchers }) (with_board c (with_lists c.board n there v))
lists_shown n c k there x f v h q r e l = record {
  monitor = record { circuits = h.monitor.circuits; outboxes = h.monitor.outboxes };
  link_sides = h.link_sides;
  count = length_set c.board.dispatchers n new ∙ h.count ∙ sym (ap length ends ∙ length_set k.dispatchers n (f x));
  dispatchers = λ m y d a b. by m y d (ap (λ (ys : List Dispatcher). slice_get ys m) (sym ends) ∙ a) b;
}
  where
    new : TheDispatcher
    new = record { lists = v; ends = there.ends }

    ends : changed_at n f k.dispatchers ≡ slice_set k.dispatchers n (f x)
    ends = changed_is k.dispatchers n f x r

    d2 : TheCore
    d2 = with_board c (with_lists c.board n there v)

    by : (m : ℕ) (y : Dispatcher) (d : TheDispatcher) → slice_get (slice_set k.dispatchers n (f x)) m ≡ Some y
        → slice_get (slice_set c.board.dispatchers n new) m ≡ Some d → DispatcherShows d2 y d
    by m y d a b = elim (set_cases k.dispatchers n (f x) m y a) [
      | inl (g, z) ↦
          let d_is : new ≡ d
          = same_some _ new d (set_here c.board.dispatchers n there new q) (ap (slice_get (slice_set c.board.dispatchers n new)) (sym g) ∙ b) in
          let old = h.dispatchers n x there r q in
          subst (λ (u : Dispatcher). DispatcherShows d2 u d) (sym z) (subst (DispatcherShows d2 (f x)) d_is
          (record { lists = l; ends = old.ends ∙ ap (map (λ (u : EndId). Some u)) (sym e) }))
      | inr (g, z) ↦ elim (set_cases c.board.dispatchers n new m d b) [
        | inl (i, j) ↦ absurd (g i)
        | inr (i, j) ↦ let old = h.dispatchers m y d z j in record { lists = old.lists; ends = old.ends }
      ]
    ]

pub dispatcher_by : (o : Option Core) (n : ℕ) (x : Dispatcher) → given o None (λ (k : Core). slice_get k.dispatchers n) ≡ Some x
    → (k : Core) × (o ≡ Some k) × (slice_get k.dispatchers n ≡ Some x)
dispatcher_by None n x q = absurd (cc)
dispatcher_by (Some k) n x q = (k, refl, q)

pub lists_frame : ListsFrame
lists_frame w s d c there x f v p q r u e l =
    let k = dispatcher_by (core_of s d.core) d.place x u in
    let g : Core → Core = λ k. record k { dispatchers = changed_at d.place f k.dispatchers } in
    core_frame w s d.core c (with_board c (with_lists c.board d.place there v)) k.0 g p (record {
      there = q;
      core_is = k.1;
      alike = record { wirings = record { places = refl; wired_ends = refl; link_sides = refl }; seats = refl; arrivals = refl };
      link_sides = refl;
      links = λ m. refl;
      count = ap length (changed_is k.0.dispatchers d.place f x k.2) ∙ length_set k.0.dispatchers d.place (f x);
      shows = lists_shown d.place c k.0 there x f v (p.cores.each d.core k.0 c k.1 q) r k.2 e l;
    })

-- ---- what a monitor knows

pub monitor_frame : MonitorFrame
monitor_frame w s n c k f m p q r h shows =
    let old = p.cores.each n k c r q in
    core_frame w s n c (with_monitor c m) k f p (record {
      there = q;
      core_is = r;
      alike = record { wirings = record { places = refl; wired_ends = refl; link_sides = refl }; seats = refl; arrivals = refl };
      link_sides = h.link_sides;
      links = h.links;
      count = ap length h.dispatchers;
      shows = record {
        monitor = shows;
        link_sides = old.link_sides ∙ sym h.link_sides;
        count = old.count ∙ sym (ap length h.dispatchers);
        dispatchers = λ j x d a b. let z = old.dispatchers j x d (ap (λ (xs : List Dispatcher). slice_get xs j) (sym h.dispatchers) ∙ a) b in
            record { lists = z.lists; ends = z.ends };
      };
    })
