-- What a report of cores that ran keeps.
use Rattle.std.proofs.Common.{◌≡◌, refl, sym, ap, ◌∙◌, subst, ℕ, zero, suc, ◌≤◌, Bool, true, false, ◌||◌, if◌then◌else◌}
use Rattle.std.proofs.Common.{List, [], ◌∷◌, length, map, slice_get, Some}
use Rattle.std.specs.List.{list_any, AllZip}
use Rattle.std.proofs.lemmas.List.{length-map}
use Rattle.fl_core.specs.declared.core_job.CoreJob.{CoreJob}
use Rattle.fl_core_run.specs.declared.run.RunEnd.{RunEnd}
use Rattle.fl_core_run.specs.declared.run.RunEnd.TheVariants.{Finished, Unfinished, Told}
use Rattle.fl_core_run.specs.OpeningStatus.{TheRunSeat}
use Rattle.fl_core_run.specs.Ran.{RunTask, task, RunMoment, EndsAs, is_unfinished}
use Rattle.fl_ring.specs.SharedSides.{TheSide}
use Rattle.fl_cores_file.specs.Report.{TheReport, Ending, complete, turns_out}
use Rattle.fl_cores_jobs.specs.State.{TheJoinedJobs}
use Rattle.fl_world_refines.specs.declared.parts.Parts.{Parts}
use Rattle.fl_cores_fork.specs.declared.core_thread.CoreThread.{CoreThread}
use Rattle.fl_cores_fork.specs.declared.core_thread.FinishedCore.{FinishedCore}
use Rattle.fl_cores_shares.specs.Shares.{AreHandedOut}
use Rattle.fl_cores_shares.specs.Settled.{TwoSides, sides_of, Each, IsNear}
use Rattle.fl_cores_fork.specs.Runs.{sides_left, TheFinishedCore, seats_left, TheCoreThread, RanTo}
use Rattle.fl_cores_fork.specs.Tells.{Tells, turns_in, left_off}
use Rattle.fl_cores_fork.specs.CoreThreads.{outcome_of, AllReady, CoreThreadRan, core_thread_of}
use Rattle.fl_cores_parts.specs.Shares.{Shares}
use Rattle.fl_cores_parts.specs.AtTable.{RanAtTable}
use Rattle.fl_cores_parts.specs.Dealing.{Dealing, Wirings}
use Rattle.fl_cores_parts.proofs.Each.{each_ran, begin_sound, left_sound, as_many as as_many_core_threads}
use Rattle.fl_cores_parts.specs.Begins.{Places, common_in}
use Rattle.fl_cores_parts.specs.Heard.{HeardAsTold}
use Rattle.fl_cores_parts.specs.Ran.{Keeps, CoresRan}

-- ---- one core

at_limit : (t : RunTask) (turns : ℕ) (end : RunEnd) (a : RunMoment TheSide) (c : TheRunSeat) → EndsAs t turns end a c → is_unfinished end ≡ true → turns ≡ t.limit
at_limit t turns Finished a c ends left = absurd (cc)
at_limit t turns Unfinished a c ends left = ends.0
at_limit t turns Told a c ends left = absurd (cc)

left_at_limit : (jobs : List CoreJob) (limit : ℕ) (s : TheCoreThread) (d : TheFinishedCore) → RanTo jobs limit s d → left_off d ≡ true → turns_in d ≡ limit
left_at_limit jobs limit s d ran left = at_limit (task s.plan jobs limit) d.part.turns d.part.end ran.counted.after ran.middle.run_seat ran.counted.ends left

-- ---- all cores

as_many : {A B : Type 0} (R : A → B → Type 0) (xs : List A) (ys : List B) → AllZip R xs ys → length ys ≡ length xs
as_many R [] [] all = refl
as_many R [] (y ∷ ys) all = absurd all
as_many R (x ∷ xs) [] all = absurd all
as_many R (x ∷ xs) (y ∷ ys) all = ap suc (as_many R xs ys all.1)

few_each : (jobs : List CoreJob) (limit : ℕ) (xs : List TheCoreThread) (ys : List TheFinishedCore) → AllZip (RanTo jobs limit) xs ys
    → (core turns : ℕ) → slice_get (map turns_in ys) core ≡ Some turns → turns ≤ limit
few_each jobs limit [] [] all core turns at = absurd (cc)
few_each jobs limit [] (y ∷ ys) all core turns at = absurd all
few_each jobs limit (x ∷ xs) [] all core turns at = absurd all
few_each jobs limit (x ∷ xs) (y ∷ ys) all zero turns at =
    let same : turns_in y ≡ turns = cc in
    subst (λ (n : ℕ). n ≤ limit) same all.0.counted.few
few_each jobs limit (x ∷ xs) (y ∷ ys) all (suc core) turns at = few_each jobs limit xs ys all.1 core turns at

-- a core that left off, among them
abbrev AtLimit : ℕ → List TheFinishedCore → Type 0
AtLimit limit ys = (core : ℕ) × (slice_get (map turns_in ys) core ≡ Some limit)

some_left : (jobs : List CoreJob) (limit : ℕ) (x : TheCoreThread) (y : TheFinishedCore) (ys : List TheFinishedCore) (left : Bool) → left_off y ≡ left → RanTo jobs limit x y
    → (list_any left_off ys ≡ true → AtLimit limit ys) → (left || list_any left_off ys) ≡ true → AtLimit limit (y ∷ ys)
some_left jobs limit x y ys true is ran rest any = (0, ap Some (left_at_limit jobs limit x y ran is))
some_left jobs limit x y ys false is ran rest any = let there = rest any in (suc there.0, there.1)

limit_each : (jobs : List CoreJob) (limit : ℕ) (xs : List TheCoreThread) (ys : List TheFinishedCore) → AllZip (RanTo jobs limit) xs ys
    → list_any left_off ys ≡ true → AtLimit limit ys
limit_each jobs limit [] [] all any = absurd (cc)
limit_each jobs limit [] (y ∷ ys) all any = absurd all
limit_each jobs limit (x ∷ xs) [] all any = absurd all
limit_each jobs limit (x ∷ xs) (y ∷ ys) all any = some_left jobs limit x y ys (left_off y) refl all.0 (limit_each jobs limit xs ys all.1) any

any_left : (any : Bool) (e : Ending) → e ≡ (if any then turns_out else complete) → e ≡ turns_out → any ≡ true
any_left true e is out = refl
any_left false e is out = absurd (cc)

pub keeps_of : (n limit : ℕ) (j : TheJoinedJobs) (xs : List TheCoreThread) (ys : List TheFinishedCore) (r : TheReport) → length xs ≡ n → AllZip (RanTo j.jobs limit) xs ys
    → Tells j ys r → Keeps n limit r
keeps_of n limit j xs ys r count all tells = record {
  count = ap length tells.turns ∙ length-map ys turns_in ∙ as_many (RanTo j.jobs limit) xs ys all ∙ count;
  within = subst (λ (ts : List ℕ). (core t : ℕ) → slice_get ts core ≡ Some t → t ≤ limit) (sym tells.turns) (few_each j.jobs limit xs ys all);
  out = λ out. subst (λ (ts : List ℕ). (core : ℕ) × (slice_get ts core ≡ Some limit)) (sym tells.turns)
      (limit_each j.jobs limit xs ys all (any_left (list_any left_off ys) r.ending tells.ending out));
}

-- ---- the whole

-- what was handed out, and rings that were put together again
shares_of : (p : Parts) (at : Places) (core_threads : List TheCoreThread) (outcomes : List TheFinishedCore) (owners : List ℕ) → Dealing p at core_threads owners
    → ((after : List TwoSides) → AreHandedOut owners (sides_of after) (sides_left outcomes) → Each IsNear after) → Shares p at core_threads outcomes
shares_of p at core_threads outcomes owners d near = record {
  side_owners = owners;
  sides_named = d.sides_named;
  pairs = d.pairs;
  new = d.new;
  sides = d.sides;
  queue_owners = d.queue_owners;
  queues_named = d.queues_named;
  queues = d.queues;
  near = near;
}

pub cores_ran : (p : Parts) (j : TheJoinedJobs) (limit : ℕ) (xs : List CoreThread) (ys : List FinishedCore) (owners : List ℕ) (r : TheReport) → Wirings p j (map core_thread_of xs) owners
    → AllReady xs → AllZip (CoreThreadRan j.jobs limit) xs ys
    → ((after : List TwoSides) → AreHandedOut owners (sides_of after) (sides_left (map outcome_of ys)) → Each IsNear after) → (count : ℕ) → count ≡ length j.owners
    → HeardAsTold count (seats_left (map outcome_of ys)) → Tells j (map outcome_of ys) r
    → RanAtTable j.jobs limit p.rings.items owners (map core_thread_of xs) (map outcome_of ys) → CoresRan p j limit r
unfolding shares_of
cores_ran p j limit xs ys owners r wires ready all near count is heard tells order = record {
  core_threads = map core_thread_of xs;
  places = wires.places;
  begin = wires.begin;
  outcomes = map outcome_of ys;
  ran = each_ran j.jobs limit xs ys all;
  shares = shares_of p wires.places (map core_thread_of xs) (map outcome_of ys) owners wires.dealing near;
  sound = record { begin = begin_sound xs ready; left = left_sound j.jobs limit xs ys all };
  heard = subst (λ (n : ℕ). HeardAsTold n (seats_left (map outcome_of ys))) is heard;
  tells = tells;
  order = order;
}

pub keeps_ran : (p : Parts) (j : TheJoinedJobs) (limit : ℕ) (r : TheReport) → CoresRan p j limit r → Keeps (length p.cores.items) limit r
keeps_ran p j limit r ran =
    keeps_of (length p.cores.items) limit j ran.core_threads ran.outcomes r
    (as_many_core_threads (common_in p j ran.places) 0 p.cores.items ran.core_threads ran.begin) ran.ran ran.tells
