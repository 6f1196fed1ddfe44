-- Lists of core threads, and of what came of them, the last one first.
use Rattle.std.proofs.Common.{◌≡◌, refl, sym, ap, ◌∙◌, subst, arith, ℕ, zero, suc, ◌+◌, List, [], ◌∷◌, ◌++◌, length, map, slice_get, Some, None}
use Rattle.std.proofs.lemmas.List.{map-append}
use Rattle.std.specs.List.{AllZip}
use Rattle.fl_core.specs.View.{TheCore}
use Rattle.fl_core.specs.Sound.{IsCore}
use Rattle.fl_core.specs.declared.core_job.CoreJob.{CoreJob}
use Rattle.fl_cores_fork.specs.declared.core_thread.CoreThread.{CoreThread}
use Rattle.fl_cores_fork.specs.declared.core_thread.FinishedCore.{FinishedCore}
use Rattle.fl_cores_fork.specs.Runs.{TheFinishedCore, TheCoreThread, IsLeftSound, RanTo}
use Rattle.fl_cores_fork.specs.CoreThreads.{outcome_of, AllReady, CoreThreadRan, core_thread_of, without_records}
use Rattle.fl_cores_fork.proofs.RanOver.{ran_without}
use Rattle.fl_cores_parts.specs.Begins.{TheCoreInputs, IsCoreThread, AreCoreThreads}

-- ---- as definitions have them

core_threads_behind : (c : TheCoreInputs) (n m : ℕ) (ks : List TheCore) (ss : List TheCoreThread) (k : TheCore) (s : TheCoreThread) → m ≡ n + length ks → AreCoreThreads c n ks ss
    → IsCoreThread c m k s → AreCoreThreads c n (ks ++ k ∷ []) (ss ++ s ∷ [])
core_threads_behind c n m [] [] k s at all one =
    let same : m ≡ n = omega (arith, at) in
    (subst (λ (i : ℕ). IsCoreThread c i k s) same one, tt)
core_threads_behind c n m [] (t ∷ ss) k s at all one = absurd all
core_threads_behind c n m (l ∷ ks) [] k s at all one = absurd all
core_threads_behind c n m (l ∷ ks) (t ∷ ss) k s at all one = (all.0, core_threads_behind c (suc n) m ks ss k s (omega (arith, at)) all.1 one)

pub core_threads_push : (c : TheCoreInputs) (m : ℕ) (ks : List TheCore) (xs : List CoreThread) (k : TheCore) (x : CoreThread) → m ≡ length ks
    → AreCoreThreads c 0 ks (map core_thread_of xs) → IsCoreThread c m k (core_thread_of x) → AreCoreThreads c 0 (ks ++ k ∷ []) (map core_thread_of (xs ++ x ∷ []))
core_threads_push c m ks xs k x at all one =
    subst (λ (ss : List TheCoreThread). AreCoreThreads c 0 (ks ++ k ∷ []) ss) (sym (map-append core_thread_of xs (x ∷ [])))
    (core_threads_behind c 0 m ks (map core_thread_of xs) k (core_thread_of x) (omega (arith, at)) all one)

-- all that were there before the last one was taken
pub core_threads_from : (c : TheCoreInputs) (m : ℕ) (all ks : List TheCore) (xs : List CoreThread) (k : TheCore) (x : CoreThread) → all ≡ ks ++ k ∷ [] → m ≡ length ks
    → AreCoreThreads c 0 ks (map core_thread_of xs) → IsCoreThread c m k (core_thread_of x) → AreCoreThreads c 0 all (map core_thread_of (xs ++ x ∷ []))
core_threads_from c m all ks xs k x whole at rest one =
    subst (λ (cores : List TheCore). AreCoreThreads c 0 cores (map core_thread_of (xs ++ x ∷ []))) (sym whole) (core_threads_push c m ks xs k x at rest one)

-- ---- what they are given, and what they leave

pub begin_sound : (xs : List CoreThread) → AllReady xs → (n : ℕ) (s : TheCoreThread) → slice_get (map core_thread_of xs) n ≡ Some s → IsCore s.run.core
begin_sound [] all n s at = absurd (let no : None ≡ Some s = at in cc)
begin_sound (x ∷ xs) all zero s at =
    let same : core_thread_of x ≡ s = cc in
    subst (λ (t : TheCoreThread). IsCore t.run.core) same all.0.core
begin_sound (x ∷ xs) all (suc n) s at = begin_sound xs all.1 n s at

pub left_sound : (jobs : List CoreJob) (limit : ℕ) (xs : List CoreThread) (ys : List FinishedCore) → AllZip (CoreThreadRan jobs limit) xs ys → (n : ℕ) (o : TheFinishedCore)
    → slice_get (map outcome_of ys) n ≡ Some o → IsLeftSound o
left_sound jobs limit [] [] all n o at = absurd (let no : None ≡ Some o = at in cc)
left_sound jobs limit [] (y ∷ ys) all n o at = absurd all
left_sound jobs limit (x ∷ xs) [] all n o at = absurd all
left_sound jobs limit (x ∷ xs) (y ∷ ys) all zero o at =
    let same : outcome_of y ≡ o = cc in
    subst IsLeftSound same all.0.left
left_sound jobs limit (x ∷ xs) (y ∷ ys) all (suc n) o at = left_sound jobs limit xs ys all.1 n o at

pub each_ran : (jobs : List CoreJob) (limit : ℕ) (xs : List CoreThread) (ys : List FinishedCore) → AllZip (CoreThreadRan jobs limit) xs ys
    → AllZip (RanTo jobs limit) (map core_thread_of xs) (map outcome_of ys)
each_ran jobs limit [] [] all = tt
each_ran jobs limit [] (y ∷ ys) all = absurd all
each_ran jobs limit (x ∷ xs) [] all = absurd all
each_ran jobs limit (x ∷ xs) (y ∷ ys) all = (all.0.ran, each_ran jobs limit xs ys all.1)

pub as_many : (c : TheCoreInputs) (n : ℕ) (ks : List TheCore) (ss : List TheCoreThread) → AreCoreThreads c n ks ss → length ss ≡ length ks
as_many c n [] [] all = refl
as_many c n [] (s ∷ ss) all = absurd all
as_many c n (k ∷ ks) [] all = absurd all
as_many c n (k ∷ ks) (s ∷ ss) all = ap suc (as_many c (suc n) ks ss all.1)

-- what sides noted is nothing to that
pub all_without : (jobs : List CoreJob) (limit : ℕ) (xs : List CoreThread) (ys zs : List FinishedCore) → map without_records zs ≡ map without_records ys
    → AllZip (CoreThreadRan jobs limit) xs ys → AllZip (CoreThreadRan jobs limit) xs zs
all_without jobs limit [] [] [] same all = tt
all_without jobs limit [] [] (z ∷ zs) same all = absurd (cc)
all_without jobs limit [] (y ∷ ys) zs same all = absurd all
all_without jobs limit (x ∷ xs) [] zs same all = absurd all
all_without jobs limit (x ∷ xs) (y ∷ ys) [] same all = absurd (cc)
all_without jobs limit (x ∷ xs) (y ∷ ys) (z ∷ zs) same all =
    let first : without_records z ≡ without_records y = cc in
    let rest : map without_records zs ≡ map without_records ys = cc in
    (ran_without jobs limit x y z first all.0, all_without jobs limit xs ys zs rest all.1)
