-- The fragments on a link, circuit by circuit.
use Rattle.std.proofs.Common.{◌≡◌, ◌≢◌, refl, sym, ◌∙◌, ap, subst, ℕ, zero, suc, ◌+◌, ◌-◌, ◌<◌, ◌≤◌, ◌==◌, ◌&&◌, Bool, true, false}
use Rattle.std.proofs.Common.{List, [], ◌∷◌, map, length, slice_get, Option, Some, None, inl, inr, ◌⊎◌, arith}
use Rattle.std.specs.Prelude.{filter_map, slice_index}
use Rattle.std.specs.List.{range_with_len}
use Rattle.std.proofs.lemmas.Bool.{false≢true}
use Rattle.std.proofs.lemmas.Bool.Decides.{nat_tests}
use Rattle.fl_base.specs.declared.fragment.Frag.{Frag}
use Rattle.fl_base.specs.declared.identity.EndId.{EndId}
use Rattle.fl_base.specs.declared.identity.Side.{Side}
use Rattle.fl_base.specs.declared.identity.Side.TheVariants.{Client, Server}
use Rattle.fl_base.specs.Ends.{peer}
use Rattle.fl_base.specs.Control.{bare, circuit_of}
use Rattle.fl_base.specs.Given.{given}
use Rattle.fl_core.specs.View.{TheCore, side_of_link}
use Rattle.fl_core.specs.declared.wiring.LinkSide.{LinkSide}
use Rattle.fl_hop.specs.Table.{TheCircuits, link_of}
use Rattle.fl_ring.specs.Duo.{TheDuo, acknowledgement, side_of}
use Rattle.fl_ring.specs.declared.one_duo.WhichSide.{WhichSide}
use Rattle.fl_model.specs.Calls.{stream}
use Rattle.fl_model.specs.Rings.{Label, next_of, says, acknowledges, Ring, RingEnd, RingSide, first_side, second_side, read_by}
use Rattle.fl_model.specs.Monitors.{Core, Link, link_to}
use Rattle.fl_model.specs.State.{Back, over_route, Binding, State, end_in, way_of, link_between, number_between}
use Rattle.fl_model.specs.Forwarding.{route_of}
use Rattle.fl_model.specs.Standing.{labels_of, on_link, unread, queue_of, number_of, picked, before_by}
use Rattle.fl_model.specs.Runs.{same_side, same_end}
use Rattle.fl_model.specs.SoundLabels.{GoesOver, MayStandOn}
use Rattle.fl_model.specs.SoundPlaces.{stations}
use Rattle.fl_model.specs.Sound.{Sound}
use Rattle.fl_model_laws.proofs.Cases.{either, Each}
use Rattle.fl_model_laws.proofs.Small.{first_of, some_same}
use Rattle.fl_model_laws.proofs.Ends.{same_end_true}
use Rattle.fl_model_laws.proofs.Routed.{same_route}
use Rattle.fl_model_laws.proofs.Ways.{got_within, got_index, way_long}
use Rattle.fl_model_laws.proofs.ScenesSaid.{way_at}
use Rattle.fl_world_refines.specs.Fragments.{Streams, frag_of, AreOf, calls_between}
use Rattle.fl_world_refines.specs.FragmentLaws.{TellsKind, IsOnLink, NumbersAreSmall}
use Rattle.fl_world_refines.specs.Rings.{which_of, RingShows}
use Rattle.fl_world_refines.specs.View.{TheWorld, side_number, which_at}
use Rattle.fl_world_refines.specs.ShowsState.{link_side_of, CoreShows, Shows}
use Rattle.fl_world_refines.proofs.Aside.{set_aside}
use Rattle.fl_world_refines.proofs.Carried.{links_tell, link_calls_are, calls_are}
use Rattle.fl_world_refines.proofs.FramesBase.{gets, end_of_binding}
use Rattle.fl_world_refines.proofs.FramesFind.{interface_known}
use Rattle.fl_world_refines.proofs.PassingLinkSides.{none_too, some_too, ring_of_number, which_of_number}
use Rattle.fl_world_refines.proofs.Small.{small_numbers}
use Rattle.fl_world_laws.specs.Places.{before_side, on_the_link, aside, on_circuit}
use Rattle.fl_world_laws.specs.Meaning.{CircuitGoesOver, beside_calls, between_stations, LinkMeans}
use Rattle.fl_world_laws.proofs.OneWay.{one_end}
use Rattle.fl_world_laws.proofs.Picked.{SuitsBy, Suits, picked_are, label_of_frag, same_somes, piece}

-- ---- the link in the world and in the machine

side_there : (links : List Link) (l : ℕ) (w : TheWorld)
    → given (side_of_link (map link_side_of links) l) [] (before_side w) ≡ given (slice_get links l) [] λ link. before_side w (side_number link.ring)
side_there [] l w = refl
side_there (x ∷ links) zero w = refl
side_there (x ∷ links) (suc l) w = side_there links l w

before_link : (w : TheWorld) (k : Core) (a : ℕ) (o : Option ℕ)
    → (given o [] λ l. given (side_of_link (map link_side_of k.links) l) [] (before_side w))
    ≡ (given (given o None λ l. slice_get k.links l) [] λ link. before_side w (side_number link.ring))
before_link w k a None = refl
before_link w k a (Some l) = side_there k.links l w

in_core : (w : TheWorld) (k : Core) (c : TheCore) (a : ℕ) → CoreShows k c
    → (given (link_of c.monitor.circuits a) [] λ l. given (side_of_link c.link_sides l) [] (before_side w))
    ≡ (given (given (link_to a k) None λ l. slice_get k.links l) [] λ link. before_side w (side_number link.ring))
in_core w k c a h =
    ap (λ (t : TheCircuits). given (link_of t a) [] λ l. given (side_of_link c.link_sides l) [] (before_side w)) h.monitor.circuits
    ∙ ap (λ (ls : List LinkSide). given (link_to a k) [] λ l. given (side_of_link ls l) [] (before_side w)) h.link_sides
    ∙ before_link w k a (link_to a k)

the_link : (w : TheWorld) (s : State) → Shows w s → (a b : ℕ)
    → on_the_link w a b ≡ given (link_between s b a) [] λ link. before_side w (side_number link.ring)
the_link w s shows a b = by (slice_get s.cores b) (slice_get w.cores b) refl refl
  where
    by : (o : Option Core) (p : Option TheCore) → slice_get s.cores b ≡ o → slice_get w.cores b ≡ p
        → (given p [] λ c. given (link_of c.monitor.circuits a) [] λ l. given (side_of_link c.link_sides l) [] (before_side w))
        ≡ (given (given o None λ k. given (link_to a k) None λ l. slice_get k.links l) [] λ link. before_side w (side_number link.ring))
    by None None q r = refl
    by None (Some c) q r = absurd (let e : Some c ≡ None = sym r ∙ none_too w.cores s.cores b shows.showing.cores.count q in cc)
    by (Some k) None q r = absurd (let e = some_too w.cores s.cores b k shows.showing.cores.count q in let u : Some e.0 ≡ None = sym e.1 ∙ r in cc)
    by (Some k) (Some c) q r = in_core w k c a (shows.showing.cores.each b k c q r)

pub read_are : (streams : Streams) (side : RingSide) (r : Ring) (d : TheDuo) → RingShows streams r d
    → AreOf streams (labels_of (read_by side r).waiting) (side_of (which_of side) d).waiting
read_are streams first_side r d h = h.back.frags
read_are streams second_side r d h = h.forth.frags

-- what stands on the link stands for the machine's labels there
pub link_are : (w : TheWorld) (s : State) → Shows w s → (a b : ℕ) → AreOf (calls_between a b s) (on_link s a b) (on_the_link w a b)
link_are w s shows a b =
    subst (AreOf (calls_between a b s) (on_link s a b)) (sym (the_link w s shows a b)) (by (link_between s b a) refl)
  where
    by : (o : Option Link) → link_between s b a ≡ o
        → AreOf (calls_between a b s) (given o [] λ link. labels_of (unread s link.ring)) (given o [] λ link. before_side w (side_number link.ring))
    by None q = refl
    by (Some link) q =
        let paired = shows.sound.links b a link q in
        let duo = gets s.rings w.rings link.ring.ring paired.ring shows.showing.rings.count paired.ring_is in
        let ring : RingShows (calls_between a b s) paired.ring duo.0 =
        shows.showing.rings.each link.ring.ring paired.ring duo.0 (calls_between a b s) paired.ring_is duo.1
        (inl (a, b, paired.back, paired.back_is, ap (λ (at : RingEnd). at.ring) paired.same, refl)) in
        let labels : labels_of (unread s link.ring) ≡ labels_of (read_by link.ring.side paired.ring).waiting =
        ap (λ (o : Option Ring). labels_of (given o [] λ r. (read_by link.ring.side r).waiting)) paired.ring_is in
        let frags : before_side w (side_number link.ring) ≡ (side_of (which_of link.ring.side) duo.0).waiting =
        ap (λ (n : ℕ). given (slice_get w.rings n) [] λ d. (side_of (which_at (side_number link.ring)) d).waiting) (ring_of_number link.ring)
        ∙ ap (λ (x : WhichSide). given (slice_get w.rings link.ring.ring) [] λ d. (side_of x d).waiting) (which_of_number link.ring)
        ∙ ap (λ (o : Option TheDuo). given o [] λ d. (side_of (which_of link.ring.side) d).waiting) duo.1 in
        subst (λ ls. AreOf (calls_between a b s) ls (before_side w (side_number link.ring))) (sym labels)
        (subst (AreOf (calls_between a b s) (labels_of (read_by link.ring.side paired.ring).waiting)) (sym frags)
        (read_are (calls_between a b s) link.ring.side paired.ring duo.0 ring))

-- ---- tests of circuits

pub is_it : (m n : ℕ) → m ≡ n → (m == n) ≡ true
is_it m n h = grind (arith, nat_tests, h)

pub isnt_it : (m n : ℕ) → m ≢ n → (m == n) ≡ false
isnt_it m n h = by (m == n) refl
  where
    by : (t : Bool) → (m == n) ≡ t → t ≡ false
    by true q = absurd (h (grind (arith, nat_tests, q)))
    by false q = refl

pub same_self : (e : EndId) → same_end e e ≡ true
same_self e = by e.side (e.binding == e.binding) (is_it e.binding e.binding refl)
  where
    by : (side : Side) (t : Bool) → t ≡ true → (t && same_side side side) ≡ true
    by Client true q = refl
    by Server true q = refl
    by Client false q = q
    by Server false q = q

-- ---- one link, circuit by circuit

module _ (w : TheWorld) (s : State) (shows : Shows w s) (a b : ℕ) where
  sound : Sound s
  sound = shows.sound

  small : NumbersAreSmall s
  small = small_numbers s shows.sound.cores shows.sound.numbers shows.sound.opened_numbers

  tells : (l : Label) (f : Frag) → frag_of (calls_between a b s) l ≡ Some f → TellsKind a b s l f
  tells l f q = links_tell s shows.sound.calls shows.showing.limits small a b l f q

  stands : (n : ℕ) (l : Label) → slice_get (on_link s a b) n ≡ Some l → MayStandOn s a b l
  stands n l q = shows.sound.ways.links a b l (first_of (on_link s a b) n l q)

  -- the end of a call's fragment there goes over the link under the fragment's number
  goes : (g : EndId) (f : Frag) → GoesOver s a b g → (on : IsOnLink a b s g f) → CircuitGoesOver s a b on.number g
  goes g f way on =
      let one : way.routed.binding ≡ on.binding = some_same way.routed.binding on.binding (sym way.routed.there ∙ on.binding_is) in
      let back : on.binding.back ≡ over_route way.route = ap (λ (x : Binding). x.back) (sym one) ∙ way.routed.back in
      let same : on.route ≡ way.route = some_same on.route way.route (sym on.route_is ∙ ap route_of back) in
      let known = interface_known s g on.binding shows.sound on.binding_is in
      record {
        binding = on.binding;
        binding_is = on.binding_is;
        interface = known.0;
        interface_is = known.1;
        route = way.route;
        back = back;
        number = ap (number_between a b) (sym same) ∙ on.number_is;
        place = way.place;
        near = way.near;
        far = way.far;
      }

  -- and under one number
  one_number : (c m : ℕ) (e : EndId) → CircuitGoesOver s a b c e → CircuitGoesOver s a b m e → m ≡ c
  one_number c m e h k =
      let one : k.binding ≡ h.binding = some_same k.binding h.binding (sym k.binding_is ∙ h.binding_is) in
      let route : k.route ≡ h.route = same_route k.route h.route (sym k.back ∙ ap (λ (x : Binding). x.back) one ∙ h.back) in
      some_same m c (sym k.number ∙ ap (number_between a b) route ∙ h.number)

  above_none : (c : ℕ) (e : EndId) → CircuitGoesOver s a b c e → 1 ≤ c
  above_none c e h = (small e.binding h.route a b c (record { binding = h.binding; there = h.binding_is; back = h.back }) h.number).0

  not_none : (m n : ℕ) → m ≡ 0 → 1 ≤ n → m ≡ n → ⊥
  not_none m n p h q = absurd (omega (arith, p, h, q))

  -- ---- a circuit

  abbrev on_it : ℕ → Frag → Bool
  on_it c f = circuit_of f.control == c

  abbrev of_end : EndId → ℕ → Option Frag
  of_end e k = slice_get (calls_between a b s e) k

  call_suits : (c : ℕ) (e : EndId) → CircuitGoesOver s a b c e → (g : EndId) (k : ℕ) (f : Frag) → GoesOver s a b g
      → frag_of (calls_between a b s) (next_of g k) ≡ Some f → SuitsBy (of_end e) (number_of e (next_of g k)) (on_it c f) f
  call_suits c e h g k f way r =
      let on : IsOnLink a b s g f = tells (next_of g k) f r in
      let it : CircuitGoesOver s a b on.number g = goes g f way on in
      either (λ (o : Option ℕ). SuitsBy (of_end e) o (on_it c f) f) (same_end e g) (Some k) None
      (λ q.
      let is : e ≡ g = same_end_true e g q in
      let same : on.number ≡ c = one_number c on.number e h (subst (CircuitGoesOver s a b on.number) (sym is) it) in
      (is_it (circuit_of f.control) c (on.circuit ∙ same), ap (λ (x : EndId). slice_get (calls_between a b s x) k) is ∙ r))
      (λ q. isnt_it (circuit_of f.control) c
      (λ u.
      let same : on.number ≡ c = sym on.circuit ∙ u in
      let is : e ≡ g = one_end s shows.sound a b c e g h (subst (λ (m : ℕ). CircuitGoesOver s a b m g) same it) in
      let yes : same_end e g ≡ true = subst (λ (x : EndId). same_end e x ≡ true) is (same_self e) in
      absurd (false≢true (sym q ∙ yes))))

  calls_suit : (c : ℕ) (e : EndId) → CircuitGoesOver s a b c e → Each (Suits (calls_between a b s) (on_it c) (number_of e) (of_end e)) (on_link s a b)
  calls_suit c e h n (next_of g k) q f r = call_suits c e h g k f (stands n (next_of g k) q) r
  calls_suit c e h n (says m) q f r =
      isnt_it (circuit_of f.control) c (not_none (circuit_of f.control) c (tells (says m) f r).1 (above_none c e h))
  calls_suit c e h n acknowledges q f r =
      let none : circuit_of f.control ≡ 0 = ap (λ (x : Frag). circuit_of x.control) (tells acknowledges f r) in
      isnt_it (circuit_of f.control) c (not_none (circuit_of f.control) c none (above_none c e h))

  before_it : (c : ℕ) (e : EndId) (h : CircuitGoesOver s a b c e) → before_by s e h.binding.back (suc h.place) ≡ on_link s a b
  before_it c e h =
      let way : List ℕ = way_of e.side h.route in
      let within : suc h.place < length way = got_within way (suc h.place) b h.far in
      let one : suc h.place - 1 ≡ h.place = omega arith in
      ap (λ (x : Back). before_by s e x (suc h.place)) h.back
      ∙ either (λ (ls : List Label). ls ≡ on_link s a b) (suc h.place == length way) (queue_of s (peer e)) _
      (λ q. absurd (false≢true (sym (isnt_it (suc h.place) (length way) (λ u. omega (arith, within, u))) ∙ q)))
      (λ q.
      ap (λ (n : ℕ). on_link s n (slice_index way (suc h.place))) (ap (slice_index way) one ∙ got_index way h.place a h.near)
      ∙ ap (on_link s a) (got_index way (suc h.place) b h.far))

  within_passed : (c : ℕ) (e : EndId) (h : CircuitGoesOver s a b c e) → suc h.place < length (end_in e.side h.binding).out.passed
  within_passed c e h =
      let x = shows.sound.ends e (end_in e.side h.binding) (end_of_binding s e h.binding h.binding_is) in
      let one : x.binding ≡ h.binding = some_same x.binding h.binding (sym x.there ∙ h.binding_is) in
      let long : length (end_in e.side h.binding).out.passed ≡ length h.route.cores + 1 =
      x.passed ∙ ap (λ (y : Binding). stations y.back) one ∙ ap stations h.back in
      let way : length (way_of e.side h.route) ≡ length h.route.cores = ap length (way_at e.side h.route) ∙ way_long e.side h.route.cores in
      let within : suc h.place < length (way_of e.side h.route) = got_within (way_of e.side h.route) (suc h.place) b h.far in
      omega (arith, long, way, within)

  calls_mean : (c : ℕ) (e : EndId) (h : CircuitGoesOver s a b c e)
      → on_circuit c (aside (on_the_link w a b)) ≡ between_stations c h.interface (end_in e.side h.binding).out h.place
  calls_mean c e h =
      let frags = on_circuit c (aside (on_the_link w a b)) in
      let before = shows.sound.labels e h.binding h.place h.binding_is (within_passed c e h) in
      let stream_is = link_calls_are a b s e h.binding h.route c h.binding_is (ap route_of h.back) h.number
      ∙ calls_are c s e h.binding h.interface h.binding_is h.interface_is in
      piece (stream c h.interface (end_in e.side h.binding).out.accepted) frags _ _
      (picked_are (calls_between a b s) (on_it c) (number_of e) (of_end e) (on_link s a b) (on_the_link w a b) (calls_suit c e h) (link_are w s shows a b)
      ∙ ap (λ (ls : List Label). map (of_end e) (picked e ls)) (sym (before_it c e h))
      ∙ ap (map (of_end e)) before.labels
      ∙ ap (λ (fs : List Frag). map (slice_get fs) (range_with_len (slice_index (end_in e.side h.binding).out.passed (suc h.place))
      (slice_index (end_in e.side h.binding).out.passed h.place - slice_index (end_in e.side h.binding).out.passed (suc h.place)))) stream_is)

  -- ---- circuit 0

  beside_suits : Each (Suits (calls_between a b s) (on_it 0) beside_calls (λ (f : Frag). Some f)) (on_link s a b)
  beside_suits n (next_of g k) q f r =
      let on : IsOnLink a b s g f = tells (next_of g k) f r in
      let some : 1 ≤ on.number = on.some in
      let circuit : circuit_of f.control ≡ on.number = on.circuit in
      isnt_it (circuit_of f.control) 0 (λ u. absurd (omega (arith, some, circuit, u)))
  beside_suits n (says m) q f r =
      let t = tells (says m) f r in
      (is_it (circuit_of f.control) 0 t.1, ap (λ (x : Frag). Some x) (sym t.0))
  beside_suits n acknowledges q f r =
      let t : f ≡ acknowledgement = tells acknowledges f r in
      (is_it (circuit_of f.control) 0 (ap (λ (x : Frag). circuit_of x.control) t), ap (λ (x : Frag). Some x) (sym t))

  beside_are : on_circuit 0 (aside (on_the_link w a b)) ≡ filter_map beside_calls (on_link s a b)
  beside_are =
      same_somes (on_circuit 0 (aside (on_the_link w a b))) (filter_map beside_calls (on_link s a b))
      (picked_are (calls_between a b s) (on_it 0) beside_calls (λ (f : Frag). Some f) (on_link s a b) (on_the_link w a b) beside_suits (link_are w s shows a b))

  -- ---- nothing else

  circuit_by : (n : ℕ) (l : Label) (f : Frag) → slice_get (on_link s a b) n ≡ Some l → frag_of (calls_between a b s) l ≡ Some (bare f)
      → (circuit_of f.control ≡ 0) ⊎ ((e : EndId) × CircuitGoesOver s a b (circuit_of f.control) e)
  circuit_by n (next_of g k) f q r =
      let on : IsOnLink a b s g (bare f) = tells (next_of g k) (bare f) r in
      inr (g, subst (λ (m : ℕ). CircuitGoesOver s a b m g) (sym (sym (set_aside f).circuit ∙ on.circuit)) (goes g (bare f) (stands n (next_of g k) q) on))
  circuit_by n (says m) f q r = inl (sym (set_aside f).circuit ∙ (tells (says m) (bare f) r).1)
  circuit_by n acknowledges f q r =
      inl (sym (set_aside f).circuit ∙ ap (λ (x : Frag). circuit_of x.control) (tells acknowledges (bare f) r))

  nothing_else : (n : ℕ) (f : Frag) → slice_get (on_the_link w a b) n ≡ Some f
      → (circuit_of f.control ≡ 0) ⊎ ((e : EndId) × CircuitGoesOver s a b (circuit_of f.control) e)
  nothing_else n f q =
      let l = label_of_frag (calls_between a b s) (on_link s a b) (on_the_link w a b) n f (link_are w s shows a b) q in
      circuit_by n l.0 f l.1 l.2

  pub link_means : LinkMeans w s a b
  link_means = record { calls = calls_mean; monitors = beside_are; only = nothing_else }
