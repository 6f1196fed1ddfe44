-- A what is shown stays where its world leads where it led: the whole from its parts; and where one binding of the state is changed.
use Rattle.std.proofs.Common.{◌≡◌, ◌≢◌, refl, sym, ◌∙◌, ap, subst, ℕ, List, [], ◌∷◌, length, map, slice_get, slice_set, Option, Some, None, ◌⊎◌, inl, inr}
use Rattle.std.proofs.lemmas.List.{append-nil}
use Rattle.fl_base.specs.declared.identity.Side.{Side}
use Rattle.fl_base.specs.declared.identity.EndId.{EndId}
use Rattle.fl_base.specs.Ends.{other}
use Rattle.fl_base.specs.Prefix.{IsPrefix}
use Rattle.fl_base.specs.Given.{given}
use Rattle.fl_hop.proofs.Entering.{same_or}
use Rattle.fl_hop.proofs.Lists.{set_cases, set_here, set_there}
use Rattle.fl_ring.specs.Duo.{TheDuo}
use Rattle.fl_core.specs.BoardView.{TheDispatcher}
use Rattle.fl_core.specs.declared.wiring.WiredEnd.{WiredEnd}
use Rattle.fl_core.specs.View.{TheCore}
use Rattle.fl_model.specs.Calls.{Planned}
use Rattle.fl_model.specs.Ends.{Seat, End}
use Rattle.fl_model.specs.Waits.{Dispatcher}
use Rattle.fl_model.specs.Monitors.{Core}
use Rattle.fl_model.specs.State.{Route, Binding, State, binding_of, interface_of, end_in}
use Rattle.fl_model.specs.Making.{count_dispatchers}
use Rattle.fl_model.specs.Forwarding.{route_of}
use Rattle.fl_model.specs.Keeping.{KeepsNumbers, KeepsBinding, KeepsCalls}
use Rattle.fl_model_laws.proofs.Small.{length_set}
use Rattle.fl_world_refines.specs.Cores.{MonitorShows, registered_from}
use Rattle.fl_world_refines.specs.Ends.{planned_of}
use Rattle.fl_world_refines.specs.declared.binding.Binding.{Binding as TheBinding}
use Rattle.fl_world_refines.specs.View.{TheWorld}
use Rattle.fl_world_refines.specs.ShowsState.{name_at, DispatcherShows, CoreShows, CoresShow, IsMade, IsUnmade, IsSilent, RingsShow, ShowsState}
use Rattle.fl_world_refines.proofs.FramesBase.{gets, same_some, SameState, SameBinding, SameWorld, AllSit, AllTake, AllWait, AllSilent, binding_of_end, end_of_binding, TakesOn, SitsStill, ends_stay, bindings_stay, rings_stay}

-- ---- the whole

pub record SameRest (w v : TheWorld) (s z : State) : Type 0 where
  pub may_set_cores : v.may_set_cores ≡ z.may_set_cores
  pub dispatchers : v.dispatchers ≡ count_dispatchers z
  pub programs : v.programs ≡ w.programs
  pub names : v.names ≡ w.names

pub showing_stays : (w v : TheWorld) (s z : State) → ShowsState w s → SameState s z → SameWorld w v → SameRest w v s z → CoresShow v z → RingsShow v z
    → AllWait v z → AllSilent z → AllSit w v s z → AllTake w v s z → ShowsState v z
showing_stays w v s z p h k rest cores rings waits silent sits takes = record {
  may_set_cores = rest.may_set_cores;
  cores = cores;
  dispatchers = rest.dispatchers;
  programs = ap (map planned_of) rest.programs ∙ p.programs ∙ sym h.interfaces;
  limits = λ n i q. p.limits n i (ap (λ (is : List Planned). slice_get is n) (sym h.interfaces) ∙ q);
  names = rest.names ∙ p.names ∙ ap (registered_from 1) (sym h.services);
  rings = rings;
  bindings = bindings_stay w v s z p.bindings h k waits silent;
  ends = ends_stay w v s z p.ends h k sits takes;
}

-- ---- lists with one element changed

-- what holds of each element and itself, and of the one changed, holds of each and what stands there then
pub set_related : {X : Type 0} (R : X → X → Type 0) (xs : List X) (n : ℕ) (x y : X) → ((z : X) → R z z) → slice_get xs n ≡ Some x → R x y
    → (m : ℕ) (a b : X) → slice_get xs m ≡ Some a → slice_get (slice_set xs n y) m ≡ Some b → R a b
set_related R xs n x y same q r m a b p k = elim (set_cases xs n y m b k) [
  | inl (e, f) ↦
      let g : x ≡ a = same_some (slice_get xs n) x a q (ap (λ j. slice_get xs j) (sym e) ∙ p) in
      subst (λ z. R z b) g (subst (R x) (sym f) r)
  | inr (e, f) ↦ subst (R a) (same_some (slice_get xs m) a b p f) (same a)
]

pub same_related : {X : Type 0} (R : X → X → Type 0) (xs : List X) → ((z : X) → R z z) → (m : ℕ) (a b : X) → slice_get xs m ≡ Some a → slice_get xs m ≡ Some b → R a b
same_related R xs same m a b p q = subst (R a) (same_some (slice_get xs m) a b p q) (same a)

-- ---- cores that show what they showed

pub record SameInside (c d : TheCore) : Type 0 where
  pub monitor : d.monitor ≡ c.monitor
  pub link_sides : d.link_sides ≡ c.link_sides
  pub wired_ends : d.wired_ends ≡ c.wired_ends
  pub dispatchers : d.board.dispatchers ≡ c.board.dispatchers

pub inside_same : (c : TheCore) → SameInside c c
inside_same c = record { monitor = refl; link_sides = refl; wired_ends = refl; dispatchers = refl }

pub names_by : (c d : TheCore) → d.wired_ends ≡ c.wired_ends → (place : ℕ) → name_at d place ≡ name_at c place
names_by c d q place = ap (λ (ps : List WiredEnd). given (slice_get ps place) None (λ p. Some p.name)) q

pub map_by : {X Y : Type 0} (f g : X → Y) (xs : List X) → ((x : X) → f x ≡ g x) → map f xs ≡ map g xs
map_by f g [] h = refl
map_by f g (x ∷ xs) h = ap (λ y. y ∷ map f xs) (h x) ∙ ap (λ ys. g x ∷ ys) (map_by f g xs h)

pub dispatcher_by : (c d : TheCore) (x : Dispatcher) (t : TheDispatcher) → d.wired_ends ≡ c.wired_ends → DispatcherShows c x t → DispatcherShows d x t
dispatcher_by c d x t q h = record { lists = h.lists; ends = map_by (name_at d) (name_at c) t.ends (names_by c d q) ∙ h.ends }

pub inside_shows : (k : Core) (c d : TheCore) → SameInside c d → CoreShows k c → CoreShows k d
inside_shows k c d h s = record {
  monitor = subst (MonitorShows k) (sym h.monitor) s.monitor;
  link_sides = h.link_sides ∙ s.link_sides;
  count = ap length h.dispatchers ∙ s.count;
  dispatchers = λ n x t p q.
      dispatcher_by c d x t h.wired_ends (s.dispatchers n x t p (ap (λ (ts : List TheDispatcher). slice_get ts n) (sym h.dispatchers) ∙ q));
}

-- a world that shows what it showed, but for ends and queues
pub record StillWorld (w v : TheWorld) : Type 0 where
  pub world : SameWorld w v
  pub inside : (n : ℕ) (c d : TheCore) → slice_get w.cores n ≡ Some c → slice_get v.cores n ≡ Some d → SameInside c d
  pub may_set_cores : v.may_set_cores ≡ w.may_set_cores
  pub dispatchers : v.dispatchers ≡ w.dispatchers
  pub programs : v.programs ≡ w.programs
  pub names : v.names ≡ w.names
  pub rings : v.rings ≡ w.rings

pub cores_stay : (w v : TheWorld) (s : State) → StillWorld w v → CoresShow w s → CoresShow v s
cores_stay w v s h p = record {
  count = h.world.core_count ∙ p.count;
  each = λ n k d q r.
      let g = gets v.cores w.cores n d (sym h.world.core_count) r in
      inside_shows k g.0 d (h.inside n g.0 d g.1 r) (p.each n k g.0 q g.1);
}

-- ---- one binding of a state changed

abbrev pub with_binding_at : ℕ → Binding → State → State
with_binding_at n c s = record s { bindings = slice_set s.bindings n c }

pub prefix_same : {X : Type 0} (xs : List X) → IsPrefix xs xs
prefix_same xs = ([], sym (append-nil xs))

pub numbers_same : (r : Option Route) → KeepsNumbers r r
numbers_same r route h = (route, h, λ a b n q. q)

-- the binding's ends sit where they sat, and have accepted what they had, and more
pub record Turns (s : State) (n : ℕ) (b c : Binding) : Type 0 where
  pub there : slice_get s.bindings n ≡ Some b
  pub same : SameBinding s (with_binding_at n c s) b c
  pub numbers : KeepsNumbers (route_of b.back) (route_of c.back)
  pub accepted : (side : Side) → IsPrefix (end_in side b).out.accepted (end_in side c).out.accepted

pub turned_keeps : (s : State) (n : ℕ) (b c : Binding) → Turns s n b c → KeepsCalls s (with_binding_at n c s)
turned_keeps s n b c h = record { interfaces = λ m i q. q; bindings = λ e x q. by e x q (same_or e.binding n) }
  where
    by : (e : EndId) (x : Binding) → binding_of s e ≡ Some x → (e.binding ≡ n) ⊎ (e.binding ≢ n) → KeepsBinding (with_binding_at n c s) e x
    by e x q (inl k) =
        let same : b ≡ x = same_some (slice_get s.bindings n) b x h.there (ap (λ m. slice_get s.bindings m) (sym k) ∙ q) in
        subst (KeepsBinding (with_binding_at n c s) e) same (record {
          now = c;
          there = ap (λ m. slice_get (slice_set s.bindings n c) m) k ∙ set_here s.bindings n b c h.there;
          interface = h.same.interface;
          numbers = h.numbers;
          accepted = h.accepted e.side;
        })
    by e x q (inr k) = record {
      now = x;
      there = set_there s.bindings n c e.binding x q k;
      interface = refl;
      numbers = numbers_same (route_of x.back);
      accepted = prefix_same (end_in e.side x).out.accepted;
    }

back_stays : (s : State) (n : ℕ) (c x : Binding) → SameBinding s (with_binding_at n c s) x x
back_stays s n c x = record {
  interface = refl;
  back = record { queues = λ q. q; ring = λ m q. q; own = λ side. refl; outlet = λ side. refl; route = λ r q. (r, q, refl, refl) };
  seats = λ side. refl;
}

pub turned_same : (s : State) (n : ℕ) (b c : Binding) → Turns s n b c → SameState s (with_binding_at n c s)
turned_same s n b c h = record {
  interfaces = refl;
  services = refl;
  count = length_set s.bindings n c;
  bindings = λ m x y p q. set_related (SameBinding s (with_binding_at n c s)) s.bindings n b c (back_stays s n c) h.there h.same m x y p q;
  links = λ a d. refl;
  keeps = turned_keeps s n b c h;
}

-- what has to be shown of the binding's own ends, and of where others sit
pub record Content (w v : TheWorld) (s : State) (n : ℕ) (b c : Binding) : Type 0 where
  pub sits : (e : EndId) (x : Binding) (i : Planned) (seat : Seat) (m : IsMade w s e x i seat) (d : TheCore) → e.binding ≡ n → x ≡ b → interface_of s x ≡ Some i
      → (end_in e.side x).seat ≡ Some seat → slice_get v.cores seat.dispatcher.core ≡ Some d
      → SitsStill m.at i (end_in e.side c) (end_in (other e.side) c).out d m.place
  pub others_sit : (e : EndId) (x : Binding) (i : Planned) (seat : Seat) (m : IsMade w s e x i seat) (d : TheCore) → e.binding ≢ n
      → slice_get v.cores seat.dispatcher.core ≡ Some d → slice_get d.board.seats m.place ≡ Some m.at
  pub takes : (e : EndId) (x : Binding) (i : Planned) (seat : Seat) (m : IsMade w s e x i seat) (d : TheCore) → e.binding ≡ n → x ≡ b
      → (end_in e.side x).seat ≡ Some seat → slice_get v.cores seat.dispatcher.core ≡ Some d
      → TakesOn w v s (with_binding_at n c s) m.core d (end_in e.side x) (end_in e.side c) m.wired_end.wiring
  pub others_take : (e : EndId) (x : Binding) (i : Planned) (seat : Seat) (m : IsMade w s e x i seat) (d : TheCore) → e.binding ≢ n
      → slice_get v.cores seat.dispatcher.core ≡ Some d
      → TakesOn w v s (with_binding_at n c s) m.core d (end_in e.side x) (end_in e.side x) m.wired_end.wiring
  pub waits : (y : TheBinding) (i : Planned) → slice_get v.bindings n ≡ Some y → interface_of s b ≡ Some i → c.server.seat ≡ None → IsUnmade i c y
  pub others_wait : (m : ℕ) (y : TheBinding) → m ≢ n → slice_get v.bindings m ≡ Some y → slice_get w.bindings m ≡ Some y
  pub silent : (side : Side) → (end_in side c).circuit ≡ None → IsSilent (end_in side c).out

-- a binding of the state after: the changed one, or another that is as it was
which : (s : State) (n : ℕ) (b c : Binding) → Turns s n b c → (m : ℕ) (x y : Binding) → slice_get s.bindings m ≡ Some x
    → slice_get (slice_set s.bindings n c) m ≡ Some y → ((m ≡ n) × (x ≡ b) × (y ≡ c)) ⊎ ((m ≢ n) × (y ≡ x))
which s n b c h m x y p q = elim (set_cases s.bindings n c m y q) [
  | inl (e, f) ↦ inl (e, same_some (slice_get s.bindings n) x b (ap (λ j. slice_get s.bindings j) (sym e) ∙ p) h.there, f)
  | inr (e, f) ↦ inr (e, same_some (slice_get s.bindings m) y x f p)
]

all_sit : (w v : TheWorld) (s : State) (n : ℕ) (b c : Binding) → Turns s n b c → Content w v s n b c → AllSit w v s (with_binding_at n c s)
all_sit w v s n b c h k e x y i seat m d p q r t u = elim (which s n b c h e.binding x y p q) [
  | inl (a, f, g) ↦
      subst (λ (z : Binding). SitsStill m.at i (end_in e.side z) (end_in (other e.side) z).out d m.place) (sym g) (k.sits e x i seat m d a f r t u)
  | inr (a, g) ↦ subst (λ (z : Binding). SitsStill m.at i (end_in e.side z) (end_in (other e.side) z).out d m.place) (sym g)
      (record { at = m.at; at_is = k.others_sit e x i seat m d a u; dispatcher = refl; channel = refl; shows = m.shows })
]

all_take : (w v : TheWorld) (s : State) (n : ℕ) (b c : Binding) → Turns s n b c → Content w v s n b c → AllTake w v s (with_binding_at n c s)
all_take w v s n b c h k e x y i seat m d p q r u = elim (which s n b c h e.binding x y p q) [
  | inl (a, f, g) ↦
      subst (λ (z : Binding). TakesOn w v s (with_binding_at n c s) m.core d (end_in e.side x) (end_in e.side z) m.wired_end.wiring) (sym g)
      (k.takes e x i seat m d a f r u)
  | inr (a, g) ↦
      subst (λ (z : Binding). TakesOn w v s (with_binding_at n c s) m.core d (end_in e.side x) (end_in e.side z) m.wired_end.wiring) (sym g)
      (k.others_take e x i seat m d a u)
]

all_wait : (w v : TheWorld) (s : State) (n : ℕ) (b c : Binding) → ShowsState w s → SameWorld w v → Turns s n b c → Content w v s n b c
    → AllWait v (with_binding_at n c s)
all_wait w v s n b c p l h k m x y i q r t u = elim (set_cases s.bindings n c m x q) [
  | inl (e, f) ↦
      subst (λ (z : Binding). IsUnmade i z y) (sym f)
      (k.waits y i (ap (λ j. slice_get v.bindings j) (sym e) ∙ r)
      (ap (λ j. slice_get s.interfaces j) (sym h.same.interface) ∙ ap (λ (z : Binding). slice_get s.interfaces z.interface) (sym f) ∙ t)
      (ap (λ (z : Binding). z.server.seat) (sym f) ∙ u))
  | inr (e, f) ↦ (p.bindings.each m x y f (k.others_wait m y e r)).unmade i t u
]

all_silent : (w v : TheWorld) (s : State) (n : ℕ) (b c : Binding) → ShowsState w s → Turns s n b c → Content w v s n b c → AllSilent (with_binding_at n c s)
all_silent w v s n b c p h k e x q r =
    let g = binding_of_end (with_binding_at n c s) e x q in
    elim (set_cases s.bindings n c e.binding g.0 g.1) [
      | inl (a, f) ↦
          let same : end_in e.side c ≡ x = ap (end_in e.side) (sym f) ∙ g.2 in
          subst (λ (y : End). IsSilent y.out) same (k.silent e.side (ap (λ (y : End). y.circuit) same ∙ r))
      | inr (a, f) ↦ p.bindings.silent e x (end_of_binding s e g.0 f ∙ ap (λ y. Some y) g.2) r
    ]

pub binding_frame : (w v : TheWorld) (s : State) (n : ℕ) (b c : Binding) → ShowsState w s → StillWorld w v → Turns s n b c → Content w v s n b c
    → ShowsState v (with_binding_at n c s)
binding_frame w v s n b c p l h k =
    let same = turned_same s n b c h in
    showing_stays w v s (with_binding_at n c s) p same l.world (record {
      may_set_cores = l.may_set_cores ∙ p.may_set_cores;
      dispatchers = l.dispatchers ∙ p.dispatchers;
      programs = l.programs;
      names = l.names;
    }) (shown (cores_stay w v s l p.cores))
    (record {
      count = ap length l.rings ∙ p.rings.count;
      each = λ m r d streams q t.
          rings_stay s (with_binding_at n c s) m r d same
          (λ old o. p.rings.each m r d old q (ap (λ (rs : List TheDuo). slice_get rs m) (sym l.rings) ∙ t) o) streams;
    })
    (all_wait w v s n b c p l.world h k) (all_silent w v s n b c p h k) (all_sit w v s n b c h k) (all_take w v s n b c h k)
  where
    shown : CoresShow v s → CoresShow v (with_binding_at n c s)
    shown q = record { count = q.count; each = q.each }
