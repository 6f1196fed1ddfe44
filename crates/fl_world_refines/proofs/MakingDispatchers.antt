-- A dispatcher is added at a core.
use Rattle.std.proofs.Common.{◌≡◌, refl, sym, ◌∙◌, ap, subst, ℕ, ◌+◌, ◌⊎◌, inl, inr, nat_le, nat_lt, not, Bool, true, false, if◌then◌else◌, List, [], ◌∷◌, ◌++◌, length, slice_get, slice_set, Option, Some, None, arith}
use Rattle.std.specs.Prelude.{is_some}
use Rattle.fl_hop.proofs.Lists.{push_cases, within, at_within}
use Rattle.fl_base.specs.declared.identity.EndId.{EndId}
use Rattle.fl_core.specs.BoardView.{TheDispatcher, new_dispatcher, with_dispatcher as board_with_dispatcher}
use Rattle.fl_core.specs.View.{TheCore, with_board}
use Rattle.fl_core.specs.declared.wiring.EndWiring.{EndWiring}
use Rattle.fl_model.specs.Events.{Answer, done}
use Rattle.fl_model.specs.Waits.{Dispatcher, fresh_dispatcher}
use Rattle.fl_model.specs.Monitors.{Core}
use Rattle.fl_model.specs.State.{State, StepOutcome, answers, change_core}
use Rattle.fl_model.specs.Making.{with_dispatcher, count_dispatchers, is_core}
use Rattle.fl_model.specs.Sound.{Sound}
use Rattle.fl_world_refines.proofs.Tests.{true_lt, lt_true}
use Rattle.fl_model_laws.proofs.PlacesStep.{core_outline, length_push, plan_core, link_planned}
use Rattle.fl_model_laws.proofs.Places.{ring_of}
use Rattle.fl_model.specs.SoundPlaces.{core_to}
use Rattle.fl_world_refines.specs.View.{Given, TheWorld}
use Rattle.fl_world_refines.specs.ShowsState.{DispatcherShows, CoreShows, ShowsState, Shows}
use Rattle.fl_world_refines.specs.Laws.{Agrees, DispatchersAgree}
use Rattle.fl_world_refines.proofs.MakingBase.{refuses, by_if}
use Rattle.fl_world_refines.proofs.MakingGrows.{CoreGrows, cores_same, cores_set, ring_between}
use Rattle.fl_world_refines.proofs.MakingWider.{no_new, Widens, Wider, wider}
use Rattle.fl_world_refines.proofs.MakingCores.{all_of, shows_of, shows_set, core_there, same_core, count_more}

abbrev grown : TheCore → TheCore
grown c = with_board c (board_with_dispatcher c.board)

dispatchers_show : (k : Core) (c : TheCore) → CoreShows k c → (n : ℕ) (x : Dispatcher) (d : TheDispatcher) → slice_get (k.dispatchers ++ fresh_dispatcher ∷ []) n ≡ Some x
    → slice_get (c.board.dispatchers ++ new_dispatcher ∷ []) n ≡ Some d → DispatcherShows (grown c) x d
dispatchers_show k c h n x d p q = both (push_cases k.dispatchers fresh_dispatcher n x p) (push_cases c.board.dispatchers new_dispatcher n d q)
  where
    both : (slice_get k.dispatchers n ≡ Some x) ⊎ ((n ≡ length k.dispatchers) × (x ≡ fresh_dispatcher))
        → (slice_get c.board.dispatchers n ≡ Some d) ⊎ ((n ≡ length c.board.dispatchers) × (d ≡ new_dispatcher)) → DispatcherShows (grown c) x d
    both (inl a) (inl b) = (let was = h.dispatchers n x d a b in record { lists = was.lists; ends = was.ends })
    both (inr a) (inr b) = subst (λ y. DispatcherShows (grown c) y d) (sym a.1) (subst (λ e. DispatcherShows (grown c) fresh_dispatcher e) (sym b.1) (record { lists = refl; ends = refl }))
    both (inl a) (inr b) = absurd (let few = within k.dispatchers n x a in let e = b.0 in let count = h.count in omega (arith, few, e, count))
    both (inr a) (inl b) = absurd (let few = within c.board.dispatchers n d b in let e = a.0 in let count = h.count in omega (arith, few, e, count))

core_shows : (k : Core) (c : TheCore) → CoreShows k c → CoreShows (with_dispatcher k) (grown c)
core_shows k c h = record {
  monitor = record { circuits = h.monitor.circuits; outboxes = h.monitor.outboxes };
  link_sides = h.link_sides;
  count = length_push c.board.dispatchers new_dispatcher ∙ ap (λ n. n + 1) h.count ∙ sym (length_push k.dispatchers fresh_dispatcher);
  dispatchers = dispatchers_show k c h;
}

core_grows : (New : EndId → EndWiring → Type 0) (c : TheCore) → CoreGrows New c (grown c)
core_grows New c = record {
  places = λ e n h. h;
  wired_ends = λ n p h. h;
  seats = λ n x h. h;
  link_sides = λ l m h. h;
  arrivals = λ n q h. h;
  back = λ e n h. inl h;
  wirings = λ e x h. inl h;
}

pub same_rings : (n : ℕ) (f : Core → Core) (s : State) (a b : ℕ) → ((k : Core) → slice_get s.cores n ≡ Some k → core_outline (f k) ≡ core_outline k)
    → ring_between (change_core n f s) a b ≡ ring_between s a b
same_rings n f s a b h = sym (link_planned (change_core n f s) a b) ∙ ap (λ p. ring_of p (core_to a b)) (plan_core n f s h) ∙ link_planned s a b

module _ (n : ℕ) (w : TheWorld) (s : State) (c : TheCore) (at : slice_get w.cores n ≡ Some c) (sound : Sound s) (h : ShowsState w s) where
  abbrev world : TheWorld
  world = record w { cores = slice_set w.cores n (grown c); dispatchers = w.dispatchers + 1 }

  abbrev state : State
  state = change_core n with_dispatcher s

  links : (a b : ℕ) → ring_between state a b ≡ ring_between s a b
  links a b = same_rings n with_dispatcher s a b (λ k q. refl)

  widens : Widens w world s state
  widens = record {
    cores = cores_set no_new w.cores w.cores n c (grown c) (cores_same no_new w.cores) at at (core_grows (no_new n) c);
    queues = λ m q r. r;
    joined = refl;
    bindings = refl;
    interfaces = λ m i q. q;
    services = λ iref x q. q;
    links = λ a b x q. links a b ∙ q;
    links_back = λ a b x q. inl (sym (links a b) ∙ q);
    count = h.rings.count;
    rings = λ m r d p q. inl (p, q);
  }

  pub dispatcher_shown : ShowsState world state
  dispatcher_shown =
      let on : Wider world state = wider w world s state sound h widens in
      let all = all_of w s h.cores in
      let (k, kt) = core_there s.cores w.cores n c all at in
      record {
        may_set_cores = h.may_set_cores;
        cores = shows_of world state (shows_set s.cores w.cores n k with_dispatcher (grown c) all kt (core_shows k c (h.cores.each n k c kt at)));
        dispatchers = ap (λ m. m + 1) h.dispatchers ∙ sym (count_more s.cores n with_dispatcher k 1 kt (length_push k.dispatchers fresh_dispatcher));
        programs = h.programs;
        limits = h.limits;
        names = h.names;
        rings = on.rings;
        bindings = on.bindings;
        ends = on.ends;
      }

by_core : (o : Option TheCore) (b : Bool) (T : Type 0) (E : TheCore → Type 0) (x y : StepOutcome) (a : Answer) (w : TheWorld) → is_some o ≡ b
    → (T → Agrees x a w) → ((c : TheCore) → o ≡ Some c → E c → Agrees y a w) → Given o T E → Agrees (if not b then x else y) a w
by_core None false T E x y a w q f g h = f h
by_core (Some c) true T E x y a w q f g h = g c refl h
by_core None true T E x y a w q f g h = absurd (cc)
by_core (Some c) false T E x y a w q f g h = absurd (cc)

pub core_test : {X : Type 0} (xs : List X) (n : ℕ) → is_some (slice_get xs n) ≡ nat_lt n (length xs)
core_test xs n = by (slice_get xs n) refl
  where
    by : (o : Option _) → slice_get xs n ≡ o → is_some o ≡ nat_lt n (length xs)
    by (Some x) q = sym (lt_true n (length xs) (within xs n x q))
    by None q = sym (none (nat_lt n (length xs)) refl)
      where
        none : (b : Bool) → nat_lt n (length xs) ≡ b → b ≡ false
        none false r = refl
        none true r = (let there = at_within xs n (true_lt n (length xs) r) in absurd (let e : None ≡ Some there.0 = sym q ∙ there.1 in cc))

dispatcher_made : (n : ℕ) (w w2 : TheWorld) (s : State) (a : Answer) (c : TheCore) → Shows w s → slice_get w.cores n ≡ Some c
    → (a ≡ done) × (w2 ≡ record w { cores = slice_set w.cores n (grown c); dispatchers = w.dispatchers + 1 })
    → Agrees (answers (change_core n with_dispatcher s) done) a w2
dispatcher_made n w w2 s a c h at e = record {
  answer = sym e.0;
  showing = subst (λ v. ShowsState v (change_core n with_dispatcher s)) (sym e.1) (dispatcher_shown n w s c at h.sound h.showing);
}

pub dispatchers_agree : DispatchersAgree
dispatchers_agree n w w2 s a h e =
    by_if (nat_le 256 w.dispatchers) (nat_le 256 (count_dispatchers s)) _ _ _ _ a w2 (ap (nat_le 256) h.showing.dispatchers) (refuses 94 w w2 s a h.showing)
    (λ q. by_core (slice_get w.cores n) (is_core n s) _ _ _ _ a w2 (same_core s.cores w.cores n (all_of w s h.showing.cores) ∙ core_test s.cores n) (refuses 73 w w2 s a h.showing)
    (λ c at. dispatcher_made n w w2 s a c h at)) e
