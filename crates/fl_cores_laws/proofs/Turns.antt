-- What a report tells of turns.
use Rattle.std.proofs.Common.{◌≡◌, refl, sym, ap, ◌∙◌, subst, ℕ, zero, suc, ◌≤◌, ◌⊎◌, inl, inr, ◌||◌, if◌then◌else◌, List, [], ◌∷◌, map, length, slice_get, Some, Bool, true, false}
use Rattle.std.specs.List.{list_any}
use Rattle.std.proofs.lemmas.List.{length-map}
use Rattle.fl_hop.proofs.Opening.{fails}
use Rattle.fl_core.specs.declared.core_job.CoreJob.{CoreJob}
use Rattle.fl_core_run.specs.declared.plan.TurnPlan.{TurnPlan}
use Rattle.fl_core_run.specs.declared.run.RunEnd.{RunEnd}
use Rattle.fl_core_run.specs.declared.run.RunEnd.TheVariants.{Finished, Unfinished, Told}
use Rattle.fl_core_run.specs.Ran.{EndsAs, task, RunMoment, is_told, is_unfinished}
use Rattle.fl_core_run.specs.OpeningStatus.{TheRunSeat}
use Rattle.fl_ring.specs.SharedSides.{TheSide}
use Rattle.fl_cores_file.specs.Report.{TheReport, Ending, complete, turns_out}
use Rattle.fl_cores_laws.specs.EndedCores.{OneCore, AllWent}
use Rattle.fl_cores_laws.specs.EndedTurns.{left_off, was_told, TellsTurns, RanOut, TurnsAreKept}

-- ---- lists

pub from_map : {X Y : Type 0} (f : X → Y) (xs : List X) (k : ℕ) (y : Y) → slice_get (map f xs) k ≡ Some y → (x : X) × (slice_get xs k ≡ Some x) × (f x ≡ y)
from_map f [] k y is = absurd (cc)
from_map f (x ∷ xs) zero y is = let same : f x ≡ y = cc in (x, refl, same)
from_map f (x ∷ xs) (suc k) y is = from_map f xs k y is

pub to_map : {X Y : Type 0} (f : X → Y) (xs : List X) (k : ℕ) (x : X) → slice_get xs k ≡ Some x → slice_get (map f xs) k ≡ Some (f x)
to_map f [] k x is = absurd (cc)
to_map f (z ∷ xs) zero x is = let same : z ≡ x = cc in ap (λ y. Some (f y)) same
to_map f (z ∷ xs) (suc k) x is = to_map f xs k x is

-- ---- how a core ended

pub finished_by : (e : RunEnd) → is_unfinished e ≡ false → is_told e ≡ false → e ≡ Finished
finished_by Finished a b = refl
finished_by Unfinished a b = absurd (cc)
finished_by Told a b = absurd (cc)

unfinished_by : (e : RunEnd) → is_unfinished e ≡ true → e ≡ Unfinished
unfinished_by Finished a = absurd (cc)
unfinished_by Unfinished a = refl
unfinished_by Told a = absurd (cc)

-- where a report is complete no core left off
not_left : (b : Bool) (e : Ending) → e ≡ (if b then turns_out else complete) → e ≡ complete → b ≡ false
not_left true e is done = absurd (let clash : turns_out ≡ complete = sym is ∙ done in cc)
not_left false e is done = refl

some_left : (b : Bool) (e : Ending) → e ≡ (if b then turns_out else complete) → e ≡ turns_out → b ≡ true
some_left true e is out = refl
some_left false e is out = absurd (let clash : complete ≡ turns_out = sym is ∙ out in cc)

pub all_finished : (cores : List OneCore) (r : TheReport) → TellsTurns cores r → r.ending ≡ complete → (n : ℕ) (c : OneCore) → slice_get cores n ≡ Some c → c.part.end ≡ Finished
all_finished cores r tells done n c at =
    finished_by c.part.end
    (fails left_off cores n c (not_left (list_any left_off cores) r.ending tells.ending done) at)
    (fails was_told cores n c tells.none_told at)

-- ---- the law

or_cases : (a b : Bool) → (a || b) ≡ true → (a ≡ true) ⊎ (b ≡ true)
or_cases true b e = inl refl
or_cases false b e = inr e

any_there : {X : Type 0} (p : X → Bool) (xs : List X) → list_any p xs ≡ true → (i : ℕ) × (x : X) × (slice_get xs i ≡ Some x) × (p x ≡ true)
any_there p [] e = cc
any_there p (x ∷ xs) e =
    elim (or_cases (p x) (list_any p xs) e) [
      | inl here ↦ (0, x, refl, here)
      | inr later ↦ let (i, y, at, passes) = any_there p xs later in (suc i, y, at, passes)
    ]

abbrev turns_in : OneCore → ℕ
turns_in c = c.part.turns

limit_reached : (plan : TurnPlan) (jobs : List CoreJob) (limit turns : ℕ) (e : RunEnd) (a : RunMoment TheSide) (c : TheRunSeat) → e ≡ Unfinished
    → EndsAs (task plan jobs limit) turns e a c → turns ≡ limit
limit_reached plan jobs limit turns Finished a c is h = absurd (cc)
limit_reached plan jobs limit turns Unfinished a c is h = h.0
limit_reached plan jobs limit turns Told a c is h = absurd (cc)

module _ (jobs : List CoreJob) (limit : ℕ) (cores : List OneCore) (r : TheReport) (went : AllWent jobs limit cores) (tells : TellsTurns cores r) where
  are_within : (core turns : ℕ) → slice_get r.turns core ≡ Some turns → turns ≤ limit
  are_within core turns at =
      let (c, there, is) = from_map turns_in cores core turns (ap (λ (xs : List ℕ). slice_get xs core) (sym tells.turns) ∙ at) in
      subst (λ (n : ℕ). n ≤ limit) is (went core c there).counted.few

  ran_out : r.ending ≡ turns_out → RanOut cores limit r
  ran_out is =
      let (k, c, there, left) = any_there left_off cores (some_left (list_any left_off cores) r.ending tells.ending is) in
      let unfinished = unfinished_by c.part.end left in
      let w = went k c there in
      let all : c.part.turns ≡ limit = limit_reached c.plan jobs limit c.part.turns c.part.end w.counted.after c.point.run_seat unfinished w.counted.ends in
      record {
        place = k;
        core = c;
        core_is = there;
        unfinished = unfinished;
        turns = ap (λ (xs : List ℕ). slice_get xs k) tells.turns ∙ to_map turns_in cores k c there ∙ ap Some all;
      }

pub kept : TurnsAreKept
kept jobs limit cores r went tells = record {
  count = ap length tells.turns ∙ length-map cores turns_in;
  within = are_within jobs limit cores r went tells;
  out = ran_out jobs limit cores r went tells;
}
