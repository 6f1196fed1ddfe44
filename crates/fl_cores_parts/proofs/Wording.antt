-- The words of a core's ends may be used by its seat, and no two tell of one job.
use Rattle.std.proofs.Common.{◌≡◌, refl, sym, ap, ◌∙◌, subst, ℕ, zero, suc, ◌<◌, ◌==◌, Bool, true, false, if◌then◌else◌}
use Rattle.std.proofs.Common.{List, [], ◌∷◌, ◌++◌, length, slice_get, Option, Some, None, arith, rules, inl, inr, ◌⊎◌}
use Rattle.std.specs.List.{slice_index}
use Rattle.std.proofs.lemmas.Option.{slice_get_within, get_or_from_slice_get}
use Rattle.fl_cores_table.specs.declared.table.CoresView.{CoresView}
use Rattle.fl_cores_table.specs.Counter.{MayTell, times, times_told}
use Rattle.fl_core_run.specs.declared.opening_status.OpeningStatus.{OpeningStatus}
use Rattle.fl_core_run.specs.declared.opening_status.OpeningStatus.TheVariants.{Tells, Hears}
use Rattle.fl_core_run.specs.OpeningStatus.{MayUse, AreWords, word_by}
use Rattle.fl_cores_jobs.specs.declared.end_work.BindingCores.{BindingCores}
use Rattle.fl_cores_jobs.specs.Joined.{AreBindings}
use Rattle.fl_cores_parts.specs.Begins.{words_of, IsAlone}

some_is : {X : Type 0} (x y : X) → Some x ≡ Some y → x ≡ y
some_is x y e = cc

-- ---- words of a binding's two ends, in front of others

abbrev two : Bool → Bool → OpeningStatus → OpeningStatus → List OpeningStatus → List OpeningStatus
two c s w u words = ((if c then w ∷ [] else []) ++ (if s then u ∷ [] else [])) ++ words

-- a word among them is the one, the other or one of those behind
there : (c s : Bool) (w u : OpeningStatus) (words : List OpeningStatus) (k : ℕ) (x : OpeningStatus) → slice_get (two c s w u words) k ≡ Some x
    → ((c ≡ true) × (x ≡ w)) ⊎ (((s ≡ true) × (x ≡ u)) ⊎ ((m : ℕ) × (slice_get words m ≡ Some x)))
there false false w u words k x at = inr (inr (k, at))
there true false w u words zero x at = inl (refl, sym (some_is w x at))
there true false w u words (suc k) x at = inr (inr (k, at))
there false true w u words zero x at = inr (inl (refl, sym (some_is u x at)))
there false true w u words (suc k) x at = inr (inr (k, at))
there true true w u words zero x at = inl (refl, sym (some_is w x at))
there true true w u words (suc zero) x at = inr (inl (refl, sym (some_is u x at)))
there true true w u words (suc (suc k)) x at = inr (inr (k, at))

-- ---- each job is told of once

abbrev Once : List OpeningStatus → Type 0
Once [] = Unit {0}
Once (w ∷ words) = ((m job : ℕ) → w ≡ Tells job → slice_get words m ≡ Some (Tells job) → ⊥) × Once words

apart_by : (words : List OpeningStatus) → Once words → (k m job : ℕ) → slice_get words k ≡ Some (Tells job) → slice_get words m ≡ Some (Tells job) → k ≡ m
apart_by [] once k m job a b = absurd (cc)
apart_by (w ∷ words) once zero zero job a b = refl
apart_by (w ∷ words) once zero (suc m) job a b = absurd (once.0 m job (some_is w (Tells job) a) b)
apart_by (w ∷ words) once (suc k) zero job a b = absurd (once.0 k job (some_is w (Tells job) b) a)
apart_by (w ∷ words) once (suc k) (suc m) job a b = ap suc (apart_by words once.1 k m job a b)

-- the other word in front, which tells of nothing
fresh_two : (w u : OpeningStatus) (words : List OpeningStatus) → ((job : ℕ) → u ≡ Tells job → ⊥)
    → ((m job : ℕ) → w ≡ Tells job → slice_get words m ≡ Some (Tells job) → ⊥)
    → (m job : ℕ) → w ≡ Tells job → slice_get (u ∷ words) m ≡ Some (Tells job) → ⊥
fresh_two w u words never fresh zero job is at = never job (some_is u (Tells job) at)
fresh_two w u words never fresh (suc m) job is at = fresh m job is at

once_two : (c s : Bool) (w u : OpeningStatus) (words : List OpeningStatus) → ((job : ℕ) → u ≡ Tells job → ⊥)
    → ((m job : ℕ) → w ≡ Tells job → slice_get words m ≡ Some (Tells job) → ⊥) → Once words → Once (two c s w u words)
once_two false false w u words never fresh all = all
once_two true false w u words never fresh all = (fresh, all)
once_two false true w u words never fresh all = ((λ m job is at. never job is), all)
once_two true true w u words never fresh all = (fresh_two w u words never fresh, ((λ m job is at. never job is), all))

-- ---- of a binding

never_tells : (opened : Option ℕ) (job : ℕ) → word_by Hears opened ≡ Tells job → ⊥
never_tells None job is = absurd (cc)
never_tells (Some n) job is = absurd (cc)

tells_which : (opened : Option ℕ) (job : ℕ) → word_by Tells opened ≡ Tells job → opened ≡ Some job
tells_which None job is = absurd (cc)
tells_which (Some n) job is = let same : n ≡ job = cc in ap Some same

-- what the words of bindings are
pub record WordOf (core : ℕ) (bindings : List BindingCores) (x : OpeningStatus) : Type 0 where
  pub place : ℕ
  pub bound : BindingCores
  pub bound_is : slice_get bindings place ≡ Some bound
  pub is : (((bound.client == core) ≡ true) × (x ≡ word_by Tells bound.opened)) ⊎ (((bound.server == core) ≡ true) × (x ≡ word_by Hears bound.opened))

behind : (core : ℕ) (b : BindingCores) (bindings : List BindingCores) (x : OpeningStatus) → WordOf core bindings x → WordOf core (b ∷ bindings) x
behind core b bindings x w = record { place = suc w.place; bound = w.bound; bound_is = w.bound_is; is = w.is }

word_of : (core : ℕ) (bindings : List BindingCores) (k : ℕ) (x : OpeningStatus) → slice_get (words_of core bindings) k ≡ Some x → WordOf core bindings x
word_of core [] k x at = absurd (cc)
word_of core (b ∷ bindings) k x at =
    elim (there (b.client == core) (b.server == core) (word_by Tells b.opened) (word_by Hears b.opened) (words_of core bindings) k x at) [
      | inl h ↦ record { place = 0; bound = b; bound_is = refl; is = inl h }
      | inr (inl h) ↦ record { place = 0; bound = b; bound_is = refl; is = inr h }
      | inr (inr h) ↦ behind core b bindings x (word_of core bindings h.0 x h.1)
    ]

-- no two bindings are opened by one job
abbrev OneEach : List BindingCores → Type 0
OneEach bindings = (b c job : ℕ) (x y : BindingCores) → slice_get bindings b ≡ Some x → slice_get bindings c ≡ Some y
    → x.opened ≡ Some job → y.opened ≡ Some job → b ≡ c

one_behind : (b : BindingCores) (bindings : List BindingCores) → OneEach (b ∷ bindings) → OneEach bindings
one_behind b bindings one k m job x y a c p q = let e : suc k ≡ suc m = one (suc k) (suc m) job x y a c p q in cc

-- the word by which a binding's own end tells
told_by : (core : ℕ) (bindings : List BindingCores) (job : ℕ) (w : WordOf core bindings (Tells job)) → w.bound.opened ≡ Some job
told_by core bindings job w = elim w.is [
  | inl h ↦ tells_which w.bound.opened job (sym h.1)
  | inr h ↦ absurd (never_tells w.bound.opened job (sym h.1))
]

once_all : (core : ℕ) (bindings : List BindingCores) → OneEach bindings → Once (words_of core bindings)
once_all core [] one = tt
once_all core (b ∷ bindings) one =
    once_two (b.client == core) (b.server == core) (word_by Tells b.opened) (word_by Hears b.opened) (words_of core bindings) (never_tells b.opened)
    (λ m job is at.
    let w = word_of core bindings m (Tells job) at in
    let e : 0 ≡ suc w.place = one 0 (suc w.place) job b w.bound refl w.bound_is (tells_which b.opened job is) (told_by core bindings job w) in
    absurd (omega (arith, e)))
    (once_all core bindings (one_behind b bindings one))

-- ---- what the seat of a core may do

index_is : (xs : List ℕ) (i x : ℕ) → slice_get xs i ≡ Some x → slice_index xs i ≡ x
index_is xs i x at = get_or_from_slice_get xs i x 0 at

same_number : (m n : ℕ) → ((m == n) ≡ true) → m ≡ n
same_number m n same = search (rules, same)

once_there : (n : ℕ) → 0 < times n (n ∷ [])
once_there n = search rules

-- it tells of a job that it opens, and hasn't told of it yet
may_tell : (owners : List ℕ) (core job : ℕ) (v : CoresView) → IsAlone owners core v → slice_index owners job ≡ core → MayTell v job
may_tell owners core job v alone owner =
    subst (λ (os : List ℕ). times_told job v.stored < times (slice_index os job) v.cores) (sym alone.owners)
    (subst (λ stored. times_told job stored < times (slice_index owners job) v.cores) (sym alone.stored)
    (subst (λ (cores : List ℕ). 0 < times (slice_index owners job) cores) (sym alone.cores)
    (subst (λ (o : ℕ). 0 < times o (core ∷ [])) (sym owner) (once_there core))))

may_client : (n : ℕ) (bindings : List BindingCores) (owners : List ℕ) (core place : ℕ) (b : BindingCores) (v : CoresView) → AreBindings n bindings owners → IsAlone owners core v
    → slice_get bindings place ≡ Some b → ((b.client == core) ≡ true) → (opened : Option ℕ) → b.opened ≡ opened → MayUse (word_by Tells opened) v
may_client n bindings owners core place b v known alone at here None is = tt
may_client n bindings owners core place b v known alone at here (Some job) is =
    let there : slice_get owners job ≡ Some b.client = known.opened place job b at is in
    let within = slice_get_within owners job b.client there in
    let same : b.client ≡ core = same_number b.client core here in (
      subst (λ (os : List ℕ). job < length os) (sym alone.owners) within,
      may_tell owners core job v alone (index_is owners job b.client there ∙ same),
    )

may_server : (n : ℕ) (bindings : List BindingCores) (owners : List ℕ) (place : ℕ) (b : BindingCores) (core : ℕ) (v : CoresView) → AreBindings n bindings owners → IsAlone owners core v
    → slice_get bindings place ≡ Some b → (opened : Option ℕ) → b.opened ≡ opened → MayUse (word_by Hears opened) v
may_server n bindings owners place b core v known alone at None is = tt
may_server n bindings owners place b core v known alone at (Some job) is =
    subst (λ (os : List ℕ). job < length os) (sym alone.owners) (slice_get_within owners job b.client (known.opened place job b at is))

may_word : (n : ℕ) (bindings : List BindingCores) (owners : List ℕ) (core : ℕ) (v : CoresView) → AreBindings n bindings owners → IsAlone owners core v
    → (x : OpeningStatus) → WordOf core bindings x → MayUse x v
may_word n bindings owners core v known alone x w = elim w.is [
  | inl h ↦ subst (λ (u : OpeningStatus). MayUse u v) (sym h.1) (may_client n bindings owners core w.place w.bound v known alone w.bound_is h.0 w.bound.opened refl)
  | inr h ↦ subst (λ (u : OpeningStatus). MayUse u v) (sym h.1) (may_server n bindings owners w.place w.bound core v known alone w.bound_is w.bound.opened refl)
]

pub words_are : (n : ℕ) (bindings : List BindingCores) (owners : List ℕ) (core : ℕ) (v : CoresView) → AreBindings n bindings owners → IsAlone owners core v
    → AreWords (words_of core bindings) v
words_are n bindings owners core v known alone = record {
  may = λ k x at. may_word n bindings owners core v known alone x (word_of core bindings k x at);
  apart = apart_by (words_of core bindings) (once_all core bindings known.apart);
}
