-- A core of a run: its core thread and its outcome, by its place.
use Rattle.std.proofs.Common.{◌≡◌, refl, sym, ap, ◌∙◌, subst, ℕ, zero, suc, ◌+◌, List, [], ◌∷◌, map, length, slice_get, slice_set, Option, Some, None, Bool, ◌||◌, inl, inr, arith}
use Rattle.std.specs.List.{list_any, AllZip}
use Rattle.std.proofs.lemmas.List.{length-set}
use Rattle.fl_base.specs.declared.identity.EndId.{EndId}
use Rattle.fl_hop.proofs.Lists.{set_cases}
use Rattle.fl_core.specs.declared.core_job.CoreJob.{CoreJob}
use Rattle.fl_core.specs.View.{TheCore, with_board}
use Rattle.fl_world_refines.specs.declared.binding.Binding.{Binding}
use Rattle.fl_world_refines.specs.View.{core_in}
use Rattle.fl_cores_file.specs.Jobs.{Job, opens, replies, calls}
use Rattle.fl_core_run.specs.Ran.{is_told, is_unfinished}
use Rattle.fl_cores_jobs.specs.Rules.{RuleNow, RuleOf, RulesOf}
use Rattle.fl_cores_laws.specs.EndedCores.{OneCore}
use Rattle.fl_cores_laws.proofs.Seats.{Keeps, keeps_same, keeps_then, keeps_end}
use Rattle.fl_cores_laws.specs.EndedTurns.{left_off, was_told}
use Rattle.fl_cores_fork.specs.Runs.{TheFinishedCore, TheCoreThread, RanTo}
use Rattle.fl_cores_fork.specs.Tells.{turns_in, left_off as has_left, was_told as has_stopped}
use Rattle.fl_cores_parts.specs.Begins.{TheCoreInputs, IsCoreThread, AreCoreThreads}
use Rattle.fl_cores.specs.Behind.{core_of, cores_of}

-- ---- a core's core thread

pub record AtCoreThread (c : TheCoreInputs) (j : ℕ) (cores : List TheCore) (i : ℕ) (s : TheCoreThread) : Type 0 where
  pub core : TheCore
  pub core_is : slice_get cores i ≡ Some core
  pub core_thread : IsCoreThread c j core s

-- of large records cc does not end, of any type it does
same_some : {X : Type 0} (x y : X) → Some x ≡ Some y → x ≡ y
same_some x y e = cc

pub at_core_thread : (c : TheCoreInputs) (n : ℕ) (cores : List TheCore) (core_threads : List TheCoreThread) (i j : ℕ) (s : TheCoreThread) → AreCoreThreads c n cores core_threads
    → slice_get core_threads i ≡ Some s → n + i ≡ j → AtCoreThread c j cores i s
at_core_thread c n [] [] i j s are at is = absurd (cc)
at_core_thread c n [] (x ∷ core_threads) i j s are at is = absurd are
at_core_thread c n (k ∷ cores) [] i j s are at is = absurd are
at_core_thread c n (k ∷ cores) (x ∷ core_threads) zero j s are at is =
    let same : x ≡ s = same_some x s at in
    let number : n ≡ j = omega (arith, is) in
    record { core = k; core_is = refl; core_thread = subst (λ (m : ℕ). IsCoreThread c m k s) number (subst (λ (y : TheCoreThread). IsCoreThread c n k y) same are.0) }
at_core_thread c n (k ∷ cores) (x ∷ core_threads) (suc i) j s are at is =
    let rest = at_core_thread c (suc n) cores core_threads i j s are.1 at (omega (arith, is)) in
    record { core = rest.core; core_is = rest.core_is; core_thread = rest.core_thread }

pub as_many_core_threads : (c : TheCoreInputs) (n : ℕ) (cores : List TheCore) (core_threads : List TheCoreThread) → AreCoreThreads c n cores core_threads → length core_threads ≡ length cores
as_many_core_threads c n [] [] are = refl
as_many_core_threads c n [] (x ∷ core_threads) are = absurd are
as_many_core_threads c n (k ∷ cores) [] are = absurd are
as_many_core_threads c n (k ∷ cores) (x ∷ core_threads) are = ap suc (as_many_core_threads c (suc n) cores core_threads are.1)

-- ---- its outcome

module _ (jobs : List CoreJob) (limit : ℕ) where
  pub record AtCore (core_threads : List TheCoreThread) (outcomes : List TheFinishedCore) (i : ℕ) (c : OneCore) : Type 0 where
    pub core_thread : TheCoreThread
    pub core_thread_is : slice_get core_threads i ≡ Some core_thread
    pub outcome : TheFinishedCore
    pub outcome_is : slice_get outcomes i ≡ Some outcome
    pub ran : RanTo jobs limit core_thread outcome
    pub core_is : core_of jobs limit core_thread outcome ran ≡ c

  pub at_core : (core_threads : List TheCoreThread) (outcomes : List TheFinishedCore) (ran : AllZip (RanTo jobs limit) core_threads outcomes) (i : ℕ) (c : OneCore)
      → slice_get (cores_of jobs limit core_threads outcomes ran) i ≡ Some c → AtCore core_threads outcomes i c
  at_core [] [] ran i c at = absurd (cc)
  at_core [] (o ∷ outcomes) ran i c at = absurd ran
  at_core (s ∷ core_threads) [] ran i c at = absurd ran
  at_core (s ∷ core_threads) (o ∷ outcomes) ran zero c at =
      let same : core_of jobs limit s o ran.0 ≡ c = cc in
      record { core_thread = s; core_thread_is = refl; outcome = o; outcome_is = refl; ran = ran.0; core_is = same }
  at_core (s ∷ core_threads) (o ∷ outcomes) ran (suc i) c at =
      let rest = at_core core_threads outcomes ran.1 i c at in
      record { core_thread = rest.core_thread; core_thread_is = rest.core_thread_is; outcome = rest.outcome; outcome_is = rest.outcome_is; ran = rest.ran; core_is = rest.core_is }

  pub as_many_cores : (core_threads : List TheCoreThread) (outcomes : List TheFinishedCore) (ran : AllZip (RanTo jobs limit) core_threads outcomes)
      → length (cores_of jobs limit core_threads outcomes ran) ≡ length core_threads
  as_many_cores [] [] ran = refl
  as_many_cores [] (o ∷ outcomes) ran = absurd ran
  as_many_cores (s ∷ core_threads) [] ran = absurd ran
  as_many_cores (s ∷ core_threads) (o ∷ outcomes) ran = ap suc (as_many_cores core_threads outcomes ran.1)

  -- ---- how they ended

  pub turns_are : (core_threads : List TheCoreThread) (outcomes : List TheFinishedCore) (ran : AllZip (RanTo jobs limit) core_threads outcomes)
      → map turns_in outcomes ≡ map (λ (c : OneCore). c.part.turns) (cores_of jobs limit core_threads outcomes ran)
  turns_are [] [] ran = refl
  turns_are [] (o ∷ outcomes) ran = absurd ran
  turns_are (s ∷ core_threads) [] ran = absurd ran
  turns_are (s ∷ core_threads) (o ∷ outcomes) ran = ap (λ (ts : List ℕ). o.part.turns ∷ ts) (turns_are core_threads outcomes ran.1)

  pub left_are : (core_threads : List TheCoreThread) (outcomes : List TheFinishedCore) (ran : AllZip (RanTo jobs limit) core_threads outcomes)
      → list_any has_left outcomes ≡ list_any left_off (cores_of jobs limit core_threads outcomes ran)
  left_are [] [] ran = refl
  left_are [] (o ∷ outcomes) ran = absurd ran
  left_are (s ∷ core_threads) [] ran = absurd ran
  left_are (s ∷ core_threads) (o ∷ outcomes) ran =
      ap (λ (b : Bool). is_unfinished o.part.end || b) (left_are core_threads outcomes ran.1)

  pub told_are : (core_threads : List TheCoreThread) (outcomes : List TheFinishedCore) (ran : AllZip (RanTo jobs limit) core_threads outcomes)
      → list_any has_stopped outcomes ≡ list_any was_told (cores_of jobs limit core_threads outcomes ran)
  told_are [] [] ran = refl
  told_are [] (o ∷ outcomes) ran = absurd ran
  told_are (s ∷ core_threads) [] ran = absurd ran
  told_are (s ∷ core_threads) (o ∷ outcomes) ran =
      ap (λ (b : Bool). is_told o.part.end || b) (told_are core_threads outcomes ran.1)

-- ---- rules that are set at once change boards alone

-- each of these cores was one of those, with the same monitor and the same links, and its ends sit where they sat
pub record WasAt (cores : List TheCore) (n : ℕ) (k : TheCore) : Type 0 where
  pub core : TheCore
  pub core_is : slice_get cores n ≡ Some core
  pub monitor : k.monitor ≡ core.monitor
  pub link_sides : k.link_sides ≡ core.link_sides
  pub places : k.places ≡ core.places
  pub wired_ends : k.wired_ends ≡ core.wired_ends
  pub seats : Keeps core.board k.board

pub record OnBoards (cores cores2 : List TheCore) : Type 0 where
  pub count : length cores2 ≡ length cores
  pub each : (n : ℕ) (k : TheCore) → slice_get cores2 n ≡ Some k → WasAt cores n k

same_cores : (cores cores2 : List TheCore) → cores2 ≡ cores → OnBoards cores cores2
same_cores cores cores2 same = record {
  count = ap length same;
  each = λ n k at. record { core = k; core_is = ap (λ (ks : List TheCore). slice_get ks n) (sym same) ∙ at; monitor = refl; link_sides = refl; places = refl; wired_ends = refl; seats = keeps_same k.board k.board refl };
}

then_boards : (a b c : List TheCore) → OnBoards a b → OnBoards b c → OnBoards a c
then_boards a b c f g = record {
  count = g.count ∙ f.count;
  each = λ n k at.
      let y = g.each n k at in
      let x = f.each n y.core y.core_is in
      record { core = x.core; core_is = x.core_is; monitor = y.monitor ∙ x.monitor; link_sides = y.link_sides ∙ x.link_sides; places = y.places ∙ x.places; wired_ends = y.wired_ends ∙ x.wired_ends; seats = keeps_then x.core.board y.core.board k.board x.seats y.seats };
}

set_by : (cores cores2 : List TheCore) (i : ℕ) (before after : TheCore) → slice_get cores i ≡ Some before → after ≡ with_board before after.board → Keeps before.board after.board
    → cores2 ≡ slice_set cores i after → (n : ℕ) (k : TheCore) → slice_get cores2 n ≡ Some k → WasAt cores n k
set_by cores cores2 i before after there rest keeps is n k at =
    elim (set_cases cores i after n k (ap (λ (ks : List TheCore). slice_get ks n) (sym is) ∙ at)) [
      | inl (place, same) ↦ record {
        core = before;
        core_is = subst (λ (m : ℕ). slice_get cores m ≡ Some before) (sym place) there;
        monitor = ap (λ (x : TheCore). x.monitor) (same ∙ rest);
        link_sides = ap (λ (x : TheCore). x.link_sides) (same ∙ rest);
        places = ap (λ (x : TheCore). x.places) (same ∙ rest);
        wired_ends = ap (λ (x : TheCore). x.wired_ends) (same ∙ rest);
        seats = subst (λ (x : TheCore). Keeps before.board x.board) (sym same) keeps;
      }
      | inr (other, old) ↦ record { core = k; core_is = old; monitor = refl; link_sides = refl; places = refl; wired_ends = refl; seats = keeps_same k.board k.board refl }
    ]

rule_now : (o : Option Binding) (e : EndId) (msg answer : ℕ) (cores cores2 : List TheCore) → RuleNow o e msg answer cores cores2 → OnBoards cores cores2
rule_now None e msg answer cores cores2 h = same_cores cores cores2 h
rule_now (Some x) e msg answer cores cores2 h = record {
  count = ap length h.rest ∙ length-set cores (core_in e.side x) h.after;
  each = set_by cores cores2 (core_in e.side x) h.core h.after h.core_is h.rules.sets.rest (keeps_end h.core.board h.after.board h.rules.place _ h.rules.sets.event) h.rest;
}

rule_of : (bindings : List Binding) (job : Job) (cores cores2 : List TheCore) → RuleOf bindings job cores cores2 → OnBoards cores cores2
rule_of bindings (opens w) cores cores2 h = same_cores cores cores2 h
rule_of bindings (replies e msg answer) cores cores2 h = rule_now (slice_get bindings e.binding) e msg answer cores cores2 h
rule_of bindings (calls e c) cores cores2 h = same_cores cores cores2 h

pub on_boards : (bindings : List Binding) (jobs : List Job) (cores cores2 : List TheCore) → RulesOf bindings jobs cores cores2 → OnBoards cores cores2
on_boards bindings [] cores cores2 h = same_cores cores cores2 h
on_boards bindings (job ∷ jobs) cores cores2 (m, first, rest) = then_boards cores m cores2 (rule_of bindings job cores m first) (on_boards bindings jobs m cores2 rest)
