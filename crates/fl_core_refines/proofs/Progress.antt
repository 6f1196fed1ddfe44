-- Ends' progress of a core, and the ends' progress that they show.
use Rattle.std.proofs.Common.{◌≡◌, refl, sym, ◌∙◌, ap, subst, ℕ, zero, suc, nat_lt, Bool, true, false, if◌then◌else◌, List, [], ◌∷◌, ◌++◌, length}
use Rattle.std.proofs.Common.{map, slice_get, slice_set, Option, Some, None}
use Rattle.fl_base.specs.declared.identity.EndId.{EndId}
use Rattle.fl_base.specs.Given.{given}
use Rattle.fl_base.specs.Numbered.{most_bindings}
use Rattle.fl_value_data.specs.declared.value.Call.{Call}
use Rattle.fl_value_data.specs.Value.{call_of}
use Rattle.fl_hop.proofs.Lists.{at_within, within}
use Rattle.fl_core.specs.View.{TheCore, place_of, slot_of}
use Rattle.fl_core.specs.Sound.{IsCore}
use Rattle.fl_model.specs.Given.{changed_at}
use Rattle.fl_world_refines.proofs.Tests.{lt_true, true_lt}
use Rattle.fl_world_refines.specs.View.{TheWorld}
use Rattle.fl_world_refines.specs.ShowsState.{Shows}
use Rattle.fl_core.specs.declared.core_job.CoreJob.{CoreJob}
use Rattle.fl_core_run.specs.EndProgress.{TheEndProgress, progress_place, ChangesIf, advanced as one_more, with_handled as and_handled}
use Rattle.fl_core_run.specs.Run.{TheRun, AtProgress, next_job as job_there}
use Rattle.fl_core_refines.specs.AloneTurns.{MachineProgress, MachineRun, at_progress, advanced, with_handled, next_job}
use Rattle.fl_core_refines.specs.AloneShown.{progress_of, world_with, ShowsAlone}

-- ---- lists

pub get_some : {X Y : Type 0} (f : X → Y) (xs : List X) (n : ℕ) (x : X) → slice_get xs n ≡ Some x → slice_get (map f xs) n ≡ Some (f x)
get_some f [] n x q = absurd (cc)
get_some f (y ∷ xs) zero x q = let same : y ≡ x = cc in ap (λ z. Some (f z)) same
get_some f (y ∷ xs) (suc n) x q = get_some f xs n x q

pub get_none : {X Y : Type 0} (f : X → Y) (xs : List X) (n : ℕ) → slice_get xs n ≡ None → slice_get (map f xs) n ≡ None
get_none f [] n q = refl
get_none f (y ∷ xs) zero q = absurd (cc)
get_none f (y ∷ xs) (suc n) q = get_none f xs n q

pub map_set : {X Y : Type 0} (f : X → Y) (xs : List X) (n : ℕ) (x : X) → map f (slice_set xs n x) ≡ slice_set (map f xs) n (f x)
map_set f [] n x = refl
map_set f (y ∷ xs) zero x = refl
map_set f (y ∷ xs) (suc n) x = ap (λ ys. f y ∷ ys) (map_set f xs n x)

map_more : {X Y : Type 0} (f : X → Y) (xs : List X) (x : X) → map f (xs ++ x ∷ []) ≡ map f xs ++ f x ∷ []
map_more f [] x = refl
map_more f (y ∷ xs) x = ap (λ ys. f y ∷ ys) (map_more f xs x)

-- ---- where an end's progress is

tested : (b : Bool) (o : Option ℕ) (place : ℕ) → (if b then o else None) ≡ Some place → b ≡ true
tested true o place q = refl
tested false o place q = absurd (cc)

-- the binding of an end that is at a core has a number that ends may have
pub is_few : (k : TheCore) (e : EndId) (place : ℕ) → place_of k e ≡ Some place → nat_lt e.binding most_bindings ≡ true
is_few k e place q = tested (nat_lt e.binding most_bindings) _ place q

abbrev pub placed_by : EndId → Bool → Bool → Option ℕ
placed_by e a b = if a then (if b then Some (slot_of e) else None) else None

pub progress_is : (progresses : List TheEndProgress) (e : EndId) (b : Bool) → nat_lt e.binding most_bindings ≡ true → nat_lt (slot_of e) (length progresses) ≡ b
    → progress_place progresses e ≡ (if b then Some (slot_of e) else None)
progress_is progresses e b few q = ap (λ a. placed_by e a (nat_lt (slot_of e) (length progresses))) few ∙ ap (placed_by e true) q

pub past : {X : Type 0} (xs : List X) (n : ℕ) → nat_lt n (length xs) ≡ false → slice_get xs n ≡ None
past {X} xs n h = by (slice_get xs n) refl
  where
    by : (o : Option X) → slice_get xs n ≡ o → slice_get xs n ≡ None
    by None r = r
    by (Some y) r = let less = lt_true n (length xs) (within xs n y r) in let both : true ≡ false = sym less ∙ h in absurd (cc)

-- ---- the job that is next

abbrev job_in : List CoreJob → Option TheEndProgress → Option CoreJob
job_in jobs o =
    given o None λ progress.
    given (slice_get progress.jobs progress.done) None λ place.
    slice_get jobs place

abbrev shown_in : List CoreJob → Option MachineProgress → Option CoreJob
shown_in jobs o =
    given o None λ d.
    given (slice_get d.jobs d.done) None λ place.
    slice_get jobs place

pub same_job : {S : Type 0} (jobs : List CoreJob) (r : TheRun S) (a : MachineRun) (e : EndId) → a.progresses ≡ map progress_of r.progresses → nat_lt e.binding most_bindings ≡ true
    → job_there jobs r e ≡ next_job jobs a e
same_job {S} jobs r a e shown few = by (nat_lt (slot_of e) (length r.progresses)) refl
  where
    there : (b : Bool) → nat_lt (slot_of e) (length r.progresses) ≡ b
        → job_there jobs r e ≡ given (if b then Some (slot_of e) else None) None λ n. job_in jobs (slice_get r.progresses n)
    there b q = ap (λ o. given o None λ n. job_in jobs (slice_get r.progresses n)) (progress_is r.progresses e b few q)

    by : (b : Bool) → nat_lt (slot_of e) (length r.progresses) ≡ b → job_there jobs r e ≡ next_job jobs a e
    by true q =
        let d = at_within r.progresses (slot_of e) (true_lt (slot_of e) (length r.progresses) q) in
        let here : slice_get a.progresses (slot_of e) ≡ Some (progress_of d.0) = ap (λ ds. slice_get ds (slot_of e)) shown
        ∙ get_some progress_of r.progresses (slot_of e) d.0 d.1 in
        there true q ∙ ap (job_in jobs) d.1 ∙ sym (ap (shown_in jobs) here)
    by false q =
        let none : slice_get a.progresses (slot_of e) ≡ None = ap (λ ds. slice_get ds (slot_of e)) shown
        ∙ get_none progress_of r.progresses (slot_of e) (past r.progresses (slot_of e) q) in
        there false q ∙ sym (ap (shown_in jobs) none)

-- ---- an end's progress changes

pub same_advanced : (d : TheEndProgress) → progress_of (one_more d) ≡ advanced (progress_of d)
same_advanced d = refl

pub same_handled : (c : Call) (d : TheEndProgress) → progress_of (and_handled c d) ≡ with_handled (call_of c) (progress_of d)
same_handled c d = ap (λ cs. record (progress_of d) { handled = cs }) (map_more call_of d.handled c)

pub progress_shown : {S : Type 0} (w : TheWorld) (m t : TheRun S) (a : MachineRun) (name : EndId) (change : TheEndProgress → TheEndProgress) (shown : MachineProgress → MachineProgress)
    → nat_lt name.binding most_bindings ≡ true → ((d : TheEndProgress) → progress_of (change d) ≡ shown (progress_of d)) → ShowsAlone w m a → AtProgress name change m t
    → ShowsAlone w t (at_progress name shown a)
progress_shown {S} w m t a name change shown few same x at = record {
  core = subst (λ (r : TheRun S). IsCore r.core) (sym at.rest) x.core;
  shows = subst (λ v. Shows v a.state) (sym (ap (λ (r : TheRun S). world_with w r) at.rest)) x.shows;
  no_rings = ap (λ (r : TheRun S). r.rings) at.rest ∙ x.no_rings;
  no_links = ap (λ (r : TheRun S). r.core.link_sides) at.rest ∙ x.no_links;
  progresses = by (nat_lt (slot_of name) (length m.progresses)) refl;
}
  where
    changed : (b : Bool) → nat_lt (slot_of name) (length m.progresses) ≡ b → ChangesIf (if b then Some (slot_of name) else None) m.progresses change t.progresses
    changed b q = subst (λ o. ChangesIf o m.progresses change t.progresses) (progress_is m.progresses name b few q) at.changes

    here : (o : Option MachineProgress) → slice_get a.progresses (slot_of name) ≡ o
        → changed_at (slot_of name) shown a.progresses ≡ given o a.progresses (λ d. slice_set a.progresses (slot_of name) (shown d))
    here o q = ap (λ p. given p a.progresses (λ d. slice_set a.progresses (slot_of name) (shown d))) q

    by : (b : Bool) → nat_lt (slot_of name) (length m.progresses) ≡ b → changed_at (slot_of name) shown a.progresses ≡ map progress_of t.progresses
    by true q =
        let c = changed true q in
        let is : slice_get a.progresses (slot_of name) ≡ Some (progress_of c.progress)
        = ap (λ ds. slice_get ds (slot_of name)) x.progresses ∙ get_some progress_of m.progresses (slot_of name) c.progress c.progress_is in
        here (Some (progress_of c.progress)) is
        ∙ ap (λ ds. slice_set ds (slot_of name) (shown (progress_of c.progress))) x.progresses
        ∙ ap (slice_set (map progress_of m.progresses) (slot_of name)) (sym (same c.progress))
        ∙ sym (map_set progress_of m.progresses (slot_of name) (change c.progress))
        ∙ ap (map progress_of) (sym c.rest)
    by false q =
        let none : slice_get a.progresses (slot_of name) ≡ None
        = ap (λ ds. slice_get ds (slot_of name)) x.progresses ∙ get_none progress_of m.progresses (slot_of name) (past m.progresses (slot_of name) q) in
        here None none ∙ x.progresses ∙ ap (map progress_of) (sym (changed false q))

-- ---- what a core is known by, behind an end's progress's change

pub same_core : {S : Type 0} (m t : TheRun S) (name : EndId) (change : TheEndProgress → TheEndProgress) → AtProgress name change m t → t.core ≡ m.core
same_core {S} m t name change at = ap (λ (r : TheRun S). r.core) at.rest
