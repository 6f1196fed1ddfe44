-- A core with other numbers for its queues is no other what is shown.
use Rattle.std.proofs.Common.{◌≡◌, inr, refl, sym, ◌∙◌, ap, subst, ℕ, zero, suc, false, List, [], ◌∷◌, length, map, slice_get, Option, Some, None}
use Rattle.fl_base.specs.declared.identity.EndId.{EndId}
use Rattle.fl_base.specs.Ends.{peer}
use Rattle.fl_base.specs.Given.{given}
use Rattle.fl_hop.proofs.Lists.{map_same}
use Rattle.fl_link.specs.Queue.{TheQueue}
use Rattle.fl_core.specs.BoardView.{TheDispatcher}
use Rattle.fl_core.specs.declared.wiring.EndWiring.{EndWiring}
use Rattle.fl_core.specs.declared.wiring.EndWiring.TheVariants.{Queues, Ring as OverRing, Circuit}
use Rattle.fl_core.specs.declared.wiring.WiredEnd.{WiredEnd}
use Rattle.fl_core.specs.View.{TheCore, place_of}
use Rattle.fl_core.specs.Numbers.{moved, moved_link_side, moved_wiring, moved_wired_end, renumbered}
use Rattle.fl_model.specs.Calls.{Planned}
use Rattle.fl_model.specs.Ends.{Seat}
use Rattle.fl_model.specs.Waits.{Dispatcher}
use Rattle.fl_model.specs.Monitors.{Core}
use Rattle.fl_model.specs.State.{Binding, State, binding_of}
use Rattle.fl_world_refines.specs.View.{TheWorld}
use Rattle.fl_world_refines.specs.ShowsState.{name_at, DispatcherShows, CoreShows, wiring_of, IsWiring, IsMade, SitsAt}
use Rattle.fl_world_refines.specs.ShowsState.{Shows}
use Rattle.fl_world_refines.proofs.FramesBase.{same_some}
use Rattle.fl_core_refines.specs.AloneShown.{alone_with}
use Rattle.fl_core_refines.specs.AloneHanded.{AreHanded, HandedShow}
use Rattle.fl_core_refines.proofs.Standing.{no_link_side, no_ring_end}
use Rattle.fl_core_refines.proofs.Progress.{get_some, get_none}
use Rattle.fl_core_refines.proofs.Serving.{one_core}

-- ---- wired ends

module _ (sides numbers : List ℕ) (k : TheCore) where
  wired_end_at : (place : ℕ) (p : WiredEnd) → slice_get k.wired_ends place ≡ Some p → slice_get (renumbered sides numbers k).wired_ends place ≡ Some (moved_wired_end sides numbers p)
  wired_end_at place p q = get_some (moved_wired_end sides numbers) k.wired_ends place p q

  same_name : (place : ℕ) → name_at (renumbered sides numbers k) place ≡ name_at k place
  same_name place = by (slice_get k.wired_ends place) refl
    where
      by : (o : Option WiredEnd) → slice_get k.wired_ends place ≡ o → name_at (renumbered sides numbers k) place ≡ name_at k place
      by None q =
          ap (λ o. given o None λ (p : WiredEnd). Some p.name) (get_none (moved_wired_end sides numbers) k.wired_ends place q)
          ∙ sym (ap (λ o. given o None λ (p : WiredEnd). Some p.name) q)
      by (Some p) q =
          ap (λ o. given o None λ (x : WiredEnd). Some x.name) (wired_end_at place p q)
          ∙ sym (ap (λ o. given o None λ (x : WiredEnd). Some x.name) q)

-- the wiring of an end, by how it was
moved_some : (sides numbers : List ℕ) (k : TheCore) (e : EndId) (v : EndWiring) → wiring_of k e ≡ Some v
    → wiring_of (renumbered sides numbers k) e ≡ Some (moved_wiring sides numbers v)
moved_some sides numbers k e v q = by (place_of k e) refl
  where
    at : (place : ℕ) → place_of k e ≡ Some place → (o : Option WiredEnd) → slice_get k.wired_ends place ≡ o
        → wiring_of (renumbered sides numbers k) e ≡ Some (moved_wiring sides numbers v)
    at place there None r =
        let none : wiring_of k e ≡ None
        = ap (λ o. given o None λ n. given (slice_get k.wired_ends n) None λ (x : WiredEnd). Some x.wiring) there ∙ ap (λ o. given o None λ (x : WiredEnd). Some x.wiring) r in
        let both : None ≡ Some v = sym none ∙ q in
        absurd (cc)
    at place there (Some p) r =
        let was : wiring_of k e ≡ Some p.wiring
        = ap (λ o. given o None λ n. given (slice_get k.wired_ends n) None λ (x : WiredEnd). Some x.wiring) there ∙ ap (λ o. given o None λ (x : WiredEnd). Some x.wiring) r in
        let same : p.wiring ≡ v = same_some (wiring_of k e) p.wiring v was q in
        ap (λ o. given o None λ n. given (slice_get (renumbered sides numbers k).wired_ends n) None λ (x : WiredEnd). Some x.wiring) there
        ∙ ap (λ o. given o None λ (x : WiredEnd). Some x.wiring) (wired_end_at sides numbers k place p r)
        ∙ ap (λ x. Some (moved_wiring sides numbers x)) same

    by : (o : Option ℕ) → place_of k e ≡ o → wiring_of (renumbered sides numbers k) e ≡ Some (moved_wiring sides numbers v)
    by None there =
        let none : wiring_of k e ≡ None = ap (λ o. given o None λ n. given (slice_get k.wired_ends n) None λ (x : WiredEnd). Some x.wiring) there in
        let both : None ≡ Some v = sym none ∙ q in
        absurd (cc)
    by (Some place) there = at place there (slice_get k.wired_ends place) refl

-- and back
moved_back : (sides numbers : List ℕ) (k : TheCore) (e : EndId) (v : EndWiring) → wiring_of (renumbered sides numbers k) e ≡ Some v
    → (u : EndWiring) × (wiring_of k e ≡ Some u) × (moved_wiring sides numbers u ≡ v)
moved_back sides numbers k e v q = by (wiring_of k e) refl
  where
    none_at : wiring_of k e ≡ None → wiring_of (renumbered sides numbers k) e ≡ None
    none_at w = there (place_of k e) refl
      where
        wired_end : (place : ℕ) → place_of k e ≡ Some place → (o : Option WiredEnd) → slice_get k.wired_ends place ≡ o → wiring_of (renumbered sides numbers k) e ≡ None
        wired_end place at None r =
            ap (λ o. given o None λ n. given (slice_get (renumbered sides numbers k).wired_ends n) None λ (x : WiredEnd). Some x.wiring) at
            ∙ ap (λ o. given o None λ (x : WiredEnd). Some x.wiring) (get_none (moved_wired_end sides numbers) k.wired_ends place r)
        wired_end place at (Some p) r =
            let was : wiring_of k e ≡ Some p.wiring
            = ap (λ o. given o None λ n. given (slice_get k.wired_ends n) None λ (x : WiredEnd). Some x.wiring) at
            ∙ ap (λ o. given o None λ (x : WiredEnd). Some x.wiring) r in
            let both : None ≡ Some p.wiring = sym w ∙ was in
            absurd (cc)

        there : (o : Option ℕ) → place_of k e ≡ o → wiring_of (renumbered sides numbers k) e ≡ None
        there None at = ap (λ o. given o None λ n. given (slice_get (renumbered sides numbers k).wired_ends n) None λ (x : WiredEnd). Some x.wiring) at
        there (Some place) at = wired_end place at (slice_get k.wired_ends place) refl

    by : (o : Option EndWiring) → wiring_of k e ≡ o → (u : EndWiring) × (wiring_of k e ≡ Some u) × (moved_wiring sides numbers u ≡ v)
    by None w = let both : None ≡ Some v = sym (none_at w) ∙ q in absurd (cc)
    by (Some u) w = (u, w, same_some (wiring_of (renumbered sides numbers k) e) (moved_wiring sides numbers u) v (moved_some sides numbers k e u w) q)

-- ---- the parts of the what is shown

module _ (w : TheWorld) (k : TheCore) (sides numbers : List ℕ) (queues : List TheQueue) (s : State) (shown : Shows w s) (cores : w.cores ≡ k ∷ [])
    (none : w.rings ≡ [])
    (link_sides : k.link_sides ≡ []) (h : AreHanded w k numbers queues) where
  core_there : slice_get w.cores 0 ≡ Some k
  core_there = ap (λ cs. slice_get cs 0) cores

  dispatcher_shows : (x : Dispatcher) (d : TheDispatcher) → DispatcherShows k x d → DispatcherShows (renumbered sides numbers k) x d
  dispatcher_shows x d g = record {
    lists = g.lists;
    ends = map_same (name_at (renumbered sides numbers k)) (name_at k) d.ends
        (λ i place q. same_name sides numbers k place) ∙ g.ends;
  }

  core_shows : (c : Core) → CoreShows c k → CoreShows c (renumbered sides numbers k)
  core_shows c g = record {
    monitor = record { circuits = g.monitor.circuits; outboxes = g.monitor.outboxes };
    link_sides = ap (map (moved_link_side sides)) link_sides ∙ sym link_sides ∙ g.link_sides;
    count = g.count;
    dispatchers = λ n x d a b. dispatcher_shows x d (g.dispatchers n x d a b);
  }

  -- an end that is made is wired by the queues of its new numbers
  wiring_moves : (e : EndId) (b : Binding) (v : EndWiring) → binding_of s e ≡ Some b → wiring_of k e ≡ Some v → IsWiring w k s e b v
      → IsWiring (alone_with w (renumbered sides numbers k) queues) (renumbered sides numbers k) s e b (moved_wiring sides numbers v)
  wiring_moves e b (Queues out from) q is g = (
    g.0,
    record {
      queue = g.1.queue;
      queue_is = g.1.queue_is;
      there = g.1.there;
      there_is = h.there from g.1.there (inr (e, out, is)) g.1.there_is;
      shows = g.1.shows;
    },
    moved_some sides numbers k (peer e) (Queues from out) g.2,
  )
  wiring_moves e b (OverRing m) q is g = absurd (no_ring_end w s e b g.0 shown none q g.1)
  wiring_moves e b (Circuit link arrivals) q is g = absurd (no_link_side k.link_sides link.0 g.0.0 link_sides g.0.1)

  end_made : (e : EndId) (b : Binding) (i : Planned) (seat : Seat) → binding_of s e ≡ Some b → IsMade w s e b i seat
      → IsMade (alone_with w (renumbered sides numbers k) queues) s e b i seat
  end_made e b i seat q m =
      let found : slice_get (k ∷ []) seat.dispatcher.core ≡ Some m.core = ap (λ cs. slice_get cs seat.dispatcher.core) (sym cores) ∙ m.core_is in
      let same : m.core ≡ k = one_core k m.core seat.dispatcher.core found in
      let place_is : place_of k e ≡ Some m.place = ap (λ (c : TheCore). place_of c e) (sym same) ∙ m.place_is in
      let wired_end_is : slice_get k.wired_ends m.place ≡ Some m.wired_end = ap (λ (c : TheCore). slice_get c.wired_ends m.place) (sym same) ∙ m.wired_end_is in
      let is : wiring_of k e ≡ Some m.wired_end.wiring
      = ap (λ o. given o None λ n. given (slice_get k.wired_ends n) None λ (x : WiredEnd). Some x.wiring) place_is
      ∙ ap (λ o. given o None λ (x : WiredEnd). Some x.wiring) wired_end_is in
      record {
        core = renumbered sides numbers k;
        core_is = alone_at seat.dispatcher.core m.core found;
        place = m.place;
        place_is = place_is;
        at = m.at;
        at_is = ap (λ (c : TheCore). slice_get c.board.seats m.place) (sym same) ∙ m.at_is;
        dispatcher = m.dispatcher;
        channel = m.channel;
        shows = m.shows;
        wired_end = moved_wired_end sides numbers m.wired_end;
        wired_end_is = wired_end_at sides numbers k m.place m.wired_end wired_end_is;
        name_is = m.name_is;
        wiring = wiring_moves e b m.wired_end.wiring q is (subst (λ (c : TheCore). IsWiring w c s e b m.wired_end.wiring) same m.wiring);
      }
    where
      alone_at : (n : ℕ) (c : TheCore) → slice_get (k ∷ []) n ≡ Some c → slice_get (renumbered sides numbers k ∷ []) n ≡ Some (renumbered sides numbers k)
      alone_at zero c r = refl
      alone_at (suc n) c r = absurd (cc)

  -- two ends that take from one queue took from one before
  both_queues : (e f : EndId) (x y q : ℕ) (u v : EndWiring) → wiring_of k e ≡ Some u → wiring_of k f ≡ Some v → moved_wiring sides numbers u ≡ Queues x q
      → moved_wiring sides numbers v ≡ Queues y q → e ≡ f
  both_queues e f x y q (Queues a m) (Queues b n) p r g t =
      let first : moved numbers m ≡ q = cc in
      let second : moved numbers n ≡ q = cc in
      let same : m ≡ n = h.apart m n (inr (e, a, p)) (inr (f, b, r)) (first ∙ sym second) in
      shown.showing.ends.apart 0 0 k k e f a b n core_there core_there (p ∙ ap (λ i. Some (Queues a i)) same) r
  both_queues e f x y q (Queues a m) (OverRing l) p r g t = absurd (cc)
  both_queues e f x y q (Queues a m) (Circuit l i) p r g t = absurd (cc)
  both_queues e f x y q (OverRing l) v p r g t = absurd (cc)
  both_queues e f x y q (Circuit l i) v p r g t = absurd (cc)

  apart_still : (n m : ℕ) (c d : TheCore) (e f : EndId) (x y q : ℕ) → slice_get (renumbered sides numbers k ∷ []) n ≡ Some c
      → slice_get (renumbered sides numbers k ∷ []) m ≡ Some d
      → wiring_of c e ≡ Some (Queues x q) → wiring_of d f ≡ Some (Queues y q) → e ≡ f
  apart_still n m c d e f x y q p r g t =
      let one : c ≡ renumbered sides numbers k = one_core (renumbered sides numbers k) c n p in
      let two : d ≡ renumbered sides numbers k = one_core (renumbered sides numbers k) d m r in
      let u = moved_back sides numbers k e (Queues x q) (ap (λ (z : TheCore). wiring_of z e) (sym one) ∙ g) in
      let v = moved_back sides numbers k f (Queues y q) (ap (λ (z : TheCore). wiring_of z f) (sym two) ∙ t) in
      both_queues e f x y q u.0 v.0 u.1 v.1 u.2 v.2

  -- the one core of the list
  core_at : (n : ℕ) (c : Core) (d : TheCore) → slice_get s.cores n ≡ Some c → slice_get (renumbered sides numbers k ∷ []) n ≡ Some d → CoreShows c d
  core_at zero c d p q =
      let same : d ≡ renumbered sides numbers k = one_core (renumbered sides numbers k) d 0 q in
      subst (CoreShows c) (sym same) (core_shows c (shown.showing.cores.each 0 c k p core_there))
  core_at (suc n) c d p q = absurd (cc)

  only_still : (n : ℕ) (c : TheCore) (e : EndId) (place : ℕ) → slice_get (renumbered sides numbers k ∷ []) n ≡ Some c → place_of c e ≡ Some place
      → SitsAt s e n
  only_still zero c e place p q =
      let same : c ≡ renumbered sides numbers k = one_core (renumbered sides numbers k) c 0 p in
      shown.showing.ends.only 0 k e place core_there (ap (λ (z : TheCore). place_of z e) (sym same) ∙ q)
  only_still (suc n) c e place p q = absurd (cc)

  handed : s.may_set_cores ≡ false → Shows (alone_with w (renumbered sides numbers k) queues) s
  handed set = record {
    sound = shown.sound;
    showing = record {
      may_set_cores = sym set;
      cores = record { count = sym (ap (λ cs. length cs) cores) ∙ shown.showing.cores.count; each = core_at };
      dispatchers = shown.showing.dispatchers;
      programs = shown.showing.programs;
      limits = shown.showing.limits;
      names = shown.showing.names;
      rings = record { count = sym (ap (λ rs. length rs) none) ∙ shown.showing.rings.count; each = λ n r d streams a b c. absurd (cc) };
      bindings = record { count = shown.showing.bindings.count; each = shown.showing.bindings.each; silent = shown.showing.bindings.silent };
      ends = record {
        made = λ e b i seat p q r. end_made e b i seat p (shown.showing.ends.made e b i seat p q r);
        only = only_still;
        apart = apart_still;
      };
    };
  }

pub handed_show : HandedShow
handed_show w k sides numbers queues s shown cores none link_sides set h = handed w k sides numbers queues s shown cores none link_sides h set
