-- Cores: what one of them shows while another is changed, and how many dispatchers they have.
use Rattle.std.proofs.Common.{◌≡◌, refl, sym, ◌∙◌, ap, subst, ℕ, zero, suc, ◌+◌, inl, inr, nat_lt, List, [], ◌∷◌, length, map, replicate, slice_get, slice_set, Option, Some, None, arith}
use Rattle.std.specs.Prelude.{is_some, sum, slice_index_or}
use Rattle.std.proofs.lemmas.List.Sums.{sum_by_from}
use Rattle.fl_hop.proofs.Lists.{set_cases, within, at_within}
use Rattle.fl_base.specs.declared.identity.EndId.{EndId}
use Rattle.fl_core.specs.View.{TheCore, place_in}
use Rattle.fl_model.specs.Given.{changed_at}
use Rattle.fl_model.specs.Waits.{Dispatcher}
use Rattle.fl_model.specs.Monitors.{Core}
use Rattle.fl_model.specs.State.{State}
use Rattle.fl_core.specs.BoardView.{TheDispatcher}
use Rattle.fl_model_laws.proofs.Cases.{either}
use Rattle.fl_model_laws.proofs.Places.{changed_other}
use Rattle.fl_model_laws.proofs.Replies.{length_changed}
use Rattle.fl_model_laws.proofs.Small.{changed_here, length_set}
use Rattle.fl_model_laws.proofs.Views.{changed_later}
use Rattle.fl_world_refines.specs.View.{TheWorld}
use Rattle.fl_world_refines.specs.ShowsState.{CoreShows, CoresShow}
use Rattle.fl_world_refines.proofs.MakingBase.{some_is, same_found}

-- ---- each shows its own

pub record AllShow (ks : List Core) (cs : List TheCore) : Type 0 where
  pub count : length cs ≡ length ks
  pub each : (n : ℕ) (k : Core) (c : TheCore) → slice_get ks n ≡ Some k → slice_get cs n ≡ Some c → CoreShows k c

pub all_of : (w : TheWorld) (s : State) → CoresShow w s → AllShow s.cores w.cores
all_of w s h = record { count = h.count; each = h.each }

pub shows_of : (w : TheWorld) (s : State) → AllShow s.cores w.cores → CoresShow w s
shows_of w s h = record { count = h.count; each = h.each }

pub shows_set : (ks : List Core) (cs : List TheCore) (n : ℕ) (k : Core) (f : Core → Core) (d : TheCore) → AllShow ks cs → slice_get ks n ≡ Some k
    → CoreShows (f k) d → AllShow (changed_at n f ks) (slice_set cs n d)
shows_set ks cs n k f d h at shows = record {
  count = length_set cs n d ∙ h.count ∙ sym (length_changed ks n f);
  each = λ m j x p q. elim (set_cases cs n d m x q) [
    | inl a ↦ (let there : slice_get (changed_at n f ks) n ≡ Some j = ap (slice_get (changed_at n f ks)) (sym a.0) ∙ p in
        let is : f k ≡ j = same_found (slice_get (changed_at n f ks) n) (f k) j (changed_here ks n f k at) there in
        subst (λ z. CoreShows j z) (sym a.1) (subst (λ z. CoreShows z d) is shows))
    | inr a ↦ h.each m j x (sym (changed_other ks n m f a.0) ∙ p) a.1
  ];
}

-- where one is, the other is
pub core_there : (ks : List Core) (cs : List TheCore) (n : ℕ) (c : TheCore) → AllShow ks cs → slice_get cs n ≡ Some c → (k : Core) × (slice_get ks n ≡ Some k)
core_there ks cs n c h q =
    let few = within cs n c q in
    let count = h.count in
    at_within ks n (omega (arith, few, count))

pub same_core : (ks : List Core) (cs : List TheCore) (n : ℕ) → AllShow ks cs → is_some (slice_get cs n) ≡ is_some (slice_get ks n)
same_core ks cs n h = by (slice_get cs n) (slice_get ks n) refl refl
  where
    by : (o : Option TheCore) (p : Option Core) → slice_get cs n ≡ o → slice_get ks n ≡ p → is_some o ≡ is_some p
    by None None q r = refl
    by (Some c) (Some k) q r = refl
    by (Some c) None q r = absurd (let e : None ≡ Some (core_there ks cs n c h q).0 = sym r ∙ (core_there ks cs n c h q).1 in cc)
    by None (Some k) q r =
        (let few = within ks n k r in
        let count = h.count in
        let there = at_within cs n (omega (arith, few, count)) in
        absurd (let e : None ≡ Some there.0 = sym q ∙ there.1 in cc))

-- ---- dispatchers

pub dispatcher_there : (ds : List Dispatcher) (es : List TheDispatcher) (n : ℕ) → length es ≡ length ds → is_some (slice_get es n) ≡ is_some (slice_get ds n)
dispatcher_there [] [] n h = refl
dispatcher_there (d ∷ ds) [] n h = absurd (omega arith)
dispatcher_there [] (e ∷ es) n h = absurd (omega arith)
dispatcher_there (d ∷ ds) (e ∷ es) zero h = refl
dispatcher_there (d ∷ ds) (e ∷ es) (suc n) h = dispatcher_there ds es n (let k : length (e ∷ es) ≡ length (d ∷ ds) = h in omega arith)

abbrev pub how_many : Core → ℕ
how_many k = length k.dispatchers

count_step : (k : Core) (ks : List Core) → sum (map how_many (k ∷ ks)) ≡ how_many k + sum (map how_many ks)
count_step k ks =
    let h : sum (map how_many (k ∷ ks)) ≡ 0 + how_many k + sum (map how_many ks) = sum_by_from (λ (n : ℕ). n) (0 + how_many k) (map how_many ks) in
    omega (arith, h)

pub count_more : (ks : List Core) (n : ℕ) (f : Core → Core) (k : Core) (m : ℕ) → slice_get ks n ≡ Some k → how_many (f k) ≡ how_many k + m
    → sum (map how_many (changed_at n f ks)) ≡ sum (map how_many ks) + m
count_more [] n f k m q h = absurd (cc)
count_more (j ∷ ks) zero f k m q h =
    let same : j ≡ k = some_is j k q in
    let more : how_many (f j) ≡ how_many j + m = ap (λ (x : Core). how_many (f x)) same ∙ h ∙ ap (λ (x : Core). how_many x + m) (sym same) in
    let a = count_step (f j) ks in
    let b = count_step j ks in
    omega (arith, more, a, b)
count_more (j ∷ ks) (suc n) f k m q h =
    let ih = count_more ks n f k m q h in
    let a = count_step j (changed_at n f ks) in
    let b = count_step j ks in
    let c = ap (λ xs. sum (map how_many xs)) (changed_later j ks n f) in
    omega (arith, ih, a, b, c)

pub count_none : (ks : List Core) → ((n : ℕ) (k : Core) → slice_get ks n ≡ Some k → k.dispatchers ≡ []) → sum (map how_many ks) ≡ 0
count_none [] h = refl
count_none (k ∷ ks) h =
    let ih = count_none ks (λ n j q. h (suc n) j q) in
    let none : how_many k ≡ 0 = ap length (h 0 k refl) in
    let a = count_step k ks in
    omega (arith, ih, none, a)

-- ---- fresh cores

abbrev no_number : Option ℕ
no_number = None

none_in : (n k : ℕ) → slice_index_or (replicate n no_number) k None ≡ None
none_in zero k = refl
none_in (suc n) zero = refl
none_in (suc n) (suc k) = none_in n k

pub no_place : (m : ℕ) (e : EndId) → place_in (replicate m None) e ≡ None
no_place m e = either (λ (o : Option ℕ). o ≡ None) (nat_lt e.binding 1024) _ _ (λ q. none_in m _) (λ q. refl)
