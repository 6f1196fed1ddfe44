-- The number of cores is set, where there is nothing yet but cores and interfaces.
use Rattle.std.proofs.Common.{◌≡◌, refl, sym, ◌∙◌, ap, subst, ℕ, ◌||◌, nat_lt, not, false, List, [], map, slice_get, Option, Some, None}
use Rattle.std.specs.List.{range_with_len}
use Rattle.fl_base.specs.declared.identity.EndId.{EndId}
use Rattle.fl_base.specs.Given.{given}
use Rattle.fl_core.specs.View.{TheCore, fresh_core, place_of}
use Rattle.fl_core.specs.declared.wiring.EndWiring.{EndWiring}
use Rattle.fl_core.specs.declared.wiring.WiredEnd.{WiredEnd}
use Rattle.fl_model.specs.Events.{Answer, done}
use Rattle.fl_model.specs.Monitors.{Core, fresh_core as machine_core}
use Rattle.fl_model.specs.State.{Binding, State, answers}
use Rattle.fl_model.specs.SoundLists.{IsBare}
use Rattle.fl_world_refines.proofs.Boxes.{monitors_begin}
use Rattle.fl_model_laws.proofs.Bare.{none_of}
use Rattle.fl_model_laws.proofs.BindingWalk.{given_there, end_there}
use Rattle.fl_model_laws.proofs.Small.{is_not}
use Rattle.fl_world_refines.specs.View.{TheWorld}
use Rattle.fl_world_refines.specs.Making.{fresh_cores}
use Rattle.fl_world_refines.specs.ShowsState.{wiring_of, CoreShows, ShowsState, Shows}
use Rattle.fl_world_refines.specs.Laws.{Agrees, CoresAgree}
use Rattle.fl_world_refines.proofs.MakingBase.{refuses, by_if, map_at, length_map, same_found}
use Rattle.fl_world_refines.proofs.MakingCores.{count_none, no_place}

fresh_shows : (n : ℕ) → CoreShows (machine_core n) (fresh_core n)
fresh_shows n = record {
  monitor = monitors_begin.fresh n;
  link_sides = refl;
  count = refl;
  dispatchers = λ m x d p q. absurd (cc);
}

each_shows : (xs : List ℕ) (n : ℕ) (k : Core) (c : TheCore) → slice_get (map machine_core xs) n ≡ Some k → slice_get (map fresh_core xs) n ≡ Some c → CoreShows k c
each_shows xs n k c p q =
    let (x, at, is) = map_at machine_core xs n k p in
    let (y, bt, its) = map_at fresh_core xs n c q in
    let same = same_found (slice_get xs n) x y at bt in
    subst (λ z. CoreShows k z) its (subst (λ z. CoreShows k (fresh_core z)) same (subst (λ z. CoreShows z (fresh_core x)) is (fresh_shows x)))

none_there : {X : Type 0} (o : Option X) (x : X) → o ≡ None → o ≡ Some x → ⊥
none_there o x p q = absurd (let e : None ≡ Some x = sym p ∙ q in cc)

no_end : (xs : List ℕ) (n : ℕ) (c : TheCore) (e : EndId) (place : ℕ) → slice_get (map fresh_core xs) n ≡ Some c → place_of c e ≡ Some place → ⊥
no_end xs n c e place p q =
    let (x, at, is) = map_at fresh_core xs n c p in
    none_there (place_of c e) place (ap (λ z. place_of z e) (sym is) ∙ no_place 2048 e) q

no_wiring : (xs : List ℕ) (n : ℕ) (c : TheCore) (e : EndId) (x : EndWiring) → slice_get (map fresh_core xs) n ≡ Some c → wiring_of c e ≡ Some x → ⊥
no_wiring xs n c e x p q =
    let (place, at, rest) = given_there (place_of c e) (λ m. given (slice_get c.wired_ends m) None (λ (y : WiredEnd). Some y.wiring)) x q in
    no_end xs n c e place p at

abbrev with_cores : ℕ → TheWorld → TheWorld
with_cores n w = record w { cores = fresh_cores n }

abbrev of_cores : ℕ → State → State
of_cores n s = record s { cores = map machine_core (range_with_len 0 n) }

no_binding : (s : State) (n : ℕ) (b : Binding) → s.bindings ≡ [] → slice_get s.bindings n ≡ Some b → ⊥
no_binding s n b h q = none_of s.bindings n b h q

pub cores_shown : (n : ℕ) (w : TheWorld) (s : State) → ShowsState w s → IsBare s → ShowsState (with_cores n w) (of_cores n s)
cores_shown n w s h bare = record {
  may_set_cores = h.may_set_cores;
  cores = record {
    count = length_map fresh_core (range_with_len 0 n) ∙ sym (length_map machine_core (range_with_len 0 n));
    each = each_shows (range_with_len 0 n);
  };
  dispatchers = h.dispatchers ∙ count_none s.cores bare.dispatchers ∙ sym (count_none (map machine_core (range_with_len 0 n)) none_at);
  programs = h.programs;
  limits = h.limits;
  names = h.names;
  rings = record { count = h.rings.count; each = λ m r d streams p q c. absurd (none_of s.rings m r bare.rings p) };
  bindings = record {
    count = h.bindings.count;
    each = λ m b there p q. absurd (no_binding s m b bare.bindings p);
    silent = λ e x p q. (let (b, at, is) = end_there s e x p in absurd (no_binding s e.binding b bare.bindings at));
  };
  ends = record {
    made = λ e b i seat p q r. absurd (no_binding s e.binding b bare.bindings p);
    only = λ m c e place p q. absurd (no_end (range_with_len 0 n) m c e place p q);
    apart = λ m k c d e f x y q p r we wf. absurd (no_wiring (range_with_len 0 n) m c e _ p we);
  };
}
  where
    none_at : (m : ℕ) (k : Core) → slice_get (map machine_core (range_with_len 0 n)) m ≡ Some k → k.dispatchers ≡ []
    none_at m k q = let (x, at, is) = map_at machine_core (range_with_len 0 n) m k q in ap (λ (z : Core). z.dispatchers) (sym is)

cores_made : (n : ℕ) (w w2 : TheWorld) (s : State) (a : Answer) → Shows w s → not s.may_set_cores ≡ false → (a ≡ done) × (w2 ≡ with_cores n w)
    → Agrees (answers (of_cores n s) done) a w2
cores_made n w w2 s a h q e = record {
  answer = sym e.0;
  showing = subst (λ v. ShowsState v (of_cores n s)) (sym e.1) (cores_shown n w s h.showing (h.sound.bare (is_not s.may_set_cores q)));
}

pub cores_agree : CoresAgree
cores_agree n w w2 s a h e =
    by_if (not w.may_set_cores) (not s.may_set_cores) _ _ _ _ a w2 (ap not h.showing.may_set_cores) (refuses 93 w w2 s a h.showing)
    (λ q. by_if (nat_lt n 1 || nat_lt 16 n) (nat_lt n 1 || nat_lt 16 n) _ _ _ _ a w2 refl (refuses 94 w w2 s a h.showing)
    (λ r. cores_made n w w2 s a h q)) e
