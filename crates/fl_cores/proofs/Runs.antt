-- The cores of a run, each with its log: from what each was given and what came of it.
use Rattle.std.proofs.Common.{◌≡◌, refl, sym, ap, ◌∙◌, subst, ℕ, zero, suc, ◌+◌, ◌<◌, ◌≤◌, List, [], ◌∷◌, length, slice_get, Some, None, arith}
use Rattle.std.specs.List.{AllZip}
use Rattle.fl_ring.specs.SharedSides.{TheSide}
use Rattle.fl_hop.specs.Joined.{Sound as IsTable}
use Rattle.fl_core.specs.View.{TheCore}
use Rattle.fl_core.specs.Sound.{IsCore}
use Rattle.fl_core.specs.declared.core_job.CoreJob.{CoreJob}
use Rattle.fl_core_run.specs.Ran.{task, moment}
use Rattle.fl_core_run.specs.Run.{TheRun}
use Rattle.fl_core_run_laws.specs.Flows.{IsApart}
use Rattle.fl_cores_laws.specs.Cores.{OneCore, AllWent, CoresGo}
use Rattle.fl_cores_fork.specs.Runs.{TheFinishedCore, TheCoreThread, RanTo}
use Rattle.fl_cores_parts.specs.Begins.{TheCoreInputs, IsCoreThread, AreCoreThreads}
use Rattle.fl_cores_parts.specs.Shares.{AreSound}
use Rattle.fl_cores.specs.Runs.{IsRun, AreRuns}

-- ---- places of lists

pub is_there : {X : Type 0} (xs : List X) (n : ℕ) → n < length xs → (x : X) × (slice_get xs n ≡ Some x)
is_there [] n below = absurd (omega (arith, below))
is_there (x ∷ xs) zero below = (x, refl)
is_there (x ∷ xs) (suc n) below = is_there xs n (omega (arith, below))

pub is_past : {X : Type 0} (xs : List X) (n : ℕ) → slice_get xs n ≡ None → length xs ≤ n
is_past [] n none = omega arith
is_past (x ∷ xs) zero none = absurd (cc)
is_past (x ∷ xs) (suc n) none = let l = is_past xs n none in omega (arith, l)

-- ---- cores from what came of them

one_run : CoresGo → (jobs : List CoreJob) (limit : ℕ) (s : TheCoreThread) (o : TheFinishedCore) → RanTo jobs limit s o → (c : OneCore) × IsRun jobs s o c
one_run go jobs limit s o ran =
    let (log, goes) = go (task s.plan jobs limit) (moment s.run s.run_seat) (moment o.run o.run_seat) o.part ran in
    (record { start = s.run; log = log; finish = o.run }, record { start = refl; finish = refl; goes = goes })

-- where each core ran to its outcome, there is a log of each
pub all_runs : CoresGo → (jobs : List CoreJob) (limit : ℕ) (core_threads : List TheCoreThread) (outcomes : List TheFinishedCore) → AllZip (RanTo jobs limit) core_threads outcomes
    → (cores : List OneCore) × AreRuns jobs core_threads outcomes cores
all_runs go jobs limit [] [] ran = ([], tt)
all_runs go jobs limit [] (o ∷ outcomes) ran = absurd ran
all_runs go jobs limit (s ∷ core_threads) [] ran = absurd ran
all_runs go jobs limit (s ∷ core_threads) (o ∷ outcomes) ran =
    let (c, is) = one_run go jobs limit s o ran.0 in
    let (cores, are) = all_runs go jobs limit core_threads outcomes ran.1 in
    (c ∷ cores, (is, are))

-- ---- one core of them

-- a core, with what it was given and what came of it
pub record RunAt (jobs : List CoreJob) (core_threads : List TheCoreThread) (outcomes : List TheFinishedCore) (n : ℕ) (c : OneCore) : Type 0 where
  pub core_thread : TheCoreThread
  pub core_thread_is : slice_get core_threads n ≡ Some core_thread
  pub outcome : TheFinishedCore
  pub outcome_is : slice_get outcomes n ≡ Some outcome
  pub is : IsRun jobs core_thread outcome c

-- of large records cc does not end, of any type it does
same_some : {X : Type 0} (x y : X) → Some x ≡ Some y → x ≡ y
same_some x y e = cc

pub run_at : (jobs : List CoreJob) (core_threads : List TheCoreThread) (outcomes : List TheFinishedCore) (cores : List OneCore) → AreRuns jobs core_threads outcomes cores
    → (n : ℕ) (c : OneCore) → slice_get cores n ≡ Some c → RunAt jobs core_threads outcomes n c
run_at jobs [] [] [] are n c at = absurd (cc)
run_at jobs [] [] (d ∷ cores) are n c at = absurd are
run_at jobs [] (o ∷ outcomes) cores are n c at = absurd are
run_at jobs (s ∷ core_threads) [] cores are n c at = absurd are
run_at jobs (s ∷ core_threads) (o ∷ outcomes) [] are n c at = absurd are
run_at jobs (s ∷ core_threads) (o ∷ outcomes) (d ∷ cores) are zero c at =
    let same : d ≡ c = same_some d c at in
    record { core_thread = s; core_thread_is = refl; outcome = o; outcome_is = refl; is = subst (λ (x : OneCore). IsRun jobs s o x) same are.0 }
run_at jobs (s ∷ core_threads) (o ∷ outcomes) (d ∷ cores) are (suc n) c at =
    let r = run_at jobs core_threads outcomes cores are.1 n c at in
    record { core_thread = r.core_thread; core_thread_is = r.core_thread_is; outcome = r.outcome; outcome_is = r.outcome_is; is = r.is }

pub as_many : (jobs : List CoreJob) (core_threads : List TheCoreThread) (outcomes : List TheFinishedCore) (cores : List OneCore) → AreRuns jobs core_threads outcomes cores
    → length cores ≡ length core_threads
as_many jobs [] [] [] are = refl
as_many jobs [] [] (d ∷ cores) are = absurd are
as_many jobs [] (o ∷ outcomes) cores are = absurd are
as_many jobs (s ∷ core_threads) [] cores are = absurd are
as_many jobs (s ∷ core_threads) (o ∷ outcomes) [] are = absurd are
as_many jobs (s ∷ core_threads) (o ∷ outcomes) (d ∷ cores) are = ap suc (as_many jobs core_threads outcomes cores are.1)

-- ---- the core threads

-- a core thread, with the core that it was made of
pub record CoreThreadAt (common : TheCoreInputs) (ks : List TheCore) (n : ℕ) (s : TheCoreThread) : Type 0 where
  pub core : TheCore
  pub core_is : slice_get ks n ≡ Some core
  pub is : IsCoreThread common n core s

core_thread_from : (common : TheCoreInputs) (first : ℕ) (ks : List TheCore) (core_threads : List TheCoreThread) → AreCoreThreads common first ks core_threads
    → (n m : ℕ) (s : TheCoreThread) → slice_get core_threads n ≡ Some s → m ≡ first + n → (k : TheCore) × (slice_get ks n ≡ Some k) × IsCoreThread common m k s
core_thread_from common first [] [] are n m s at is = absurd (cc)
core_thread_from common first [] (x ∷ core_threads) are n m s at is = absurd are
core_thread_from common first (k ∷ ks) [] are n m s at is = absurd are
core_thread_from common first (k ∷ ks) (x ∷ core_threads) are zero m s at is =
    let same : x ≡ s = same_some x s at in
    let number : first ≡ m = omega (arith, is) in
    (k, refl, subst (λ (i : ℕ). IsCoreThread common i k s) number (subst (λ (y : TheCoreThread). IsCoreThread common first k y) same are.0))
core_thread_from common first (k ∷ ks) (x ∷ core_threads) are (suc n) m s at is = core_thread_from common (suc first) ks core_threads are.1 n m s at (omega (arith, is))

pub core_thread_at : (common : TheCoreInputs) (ks : List TheCore) (core_threads : List TheCoreThread) → AreCoreThreads common 0 ks core_threads
    → (n : ℕ) (s : TheCoreThread) → slice_get core_threads n ≡ Some s → CoreThreadAt common ks n s
core_thread_at common ks core_threads are n s at =
    let (k, k_is, is) = core_thread_from common 0 ks core_threads are n n s at (omega arith) in record { core = k; core_is = k_is; is = is }

core_threads_by : (common : TheCoreInputs) (first : ℕ) (ks : List TheCore) (core_threads : List TheCoreThread) → AreCoreThreads common first ks core_threads → length core_threads ≡ length ks
core_threads_by common first [] [] are = refl
core_threads_by common first [] (x ∷ core_threads) are = absurd are
core_threads_by common first (k ∷ ks) [] are = absurd are
core_threads_by common first (k ∷ ks) (x ∷ core_threads) are = ap suc (core_threads_by common (suc first) ks core_threads are.1)

pub as_many_core_threads : (common : TheCoreInputs) (ks : List TheCore) (core_threads : List TheCoreThread) → AreCoreThreads common 0 ks core_threads → length core_threads ≡ length ks
as_many_core_threads common ks core_threads are = core_threads_by common 0 ks core_threads are

-- ---- what cores tell of themselves

module _ (jobs : List CoreJob) (core_threads : List TheCoreThread) (outcomes : List TheFinishedCore) (cores : List OneCore) (are : AreRuns jobs core_threads outcomes cores)
    (sound : AreSound core_threads outcomes) where
  -- each went from its start to its end
  pub went : ((n : ℕ) (c : OneCore) → slice_get cores n ≡ Some c → IsApart c.start.core) → AllWent jobs cores
  went apart n c at =
      let r = run_at jobs core_threads outcomes cores are n c at in
      record {
        goes = r.is.goes;
        core = subst (λ (t : TheRun TheSide). IsCore t.core) (sym r.is.start) (sound.begin n r.core_thread r.core_thread_is);
        apart = apart n c at;
        ends = λ place seat seat_is. (sound.left n r.outcome r.outcome_is).ends place seat
            (ap (λ (t : TheRun TheSide). slice_get t.core.board.seats place) (sym r.is.finish) ∙ seat_is);
      }

  -- and its table of circuits is sound in the end
  pub table : (n : ℕ) (c : OneCore) → slice_get cores n ≡ Some c → IsTable c.finish.core.monitor.circuits
  table n c at =
      let r = run_at jobs core_threads outcomes cores are n c at in
      subst (λ (t : TheRun TheSide). IsTable t.core.monitor.circuits) (sym r.is.finish) (sound.left n r.outcome r.outcome_is).table
