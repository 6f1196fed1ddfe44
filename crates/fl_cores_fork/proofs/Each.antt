-- Lists of core threads, and of what came of them, the last one first.
use borrow.Author.Count.{below_more}
use Rattle.std.proofs.Common.{◌≡◌, sym, subst, ℕ, ◌+◌, ◌<◌, List, [], ◌∷◌, ◌++◌, slice_get, Some, Result, Ok, Err, IfOk, IsOkAnd}
use Rattle.std.specs.List.{AllZip}
use Rattle.fl_core.specs.BoardView.{TheEndAtChannel}
use Rattle.fl_endpoint.specs.Accounts.{Sound as IsEnd}
use Rattle.fl_core.specs.declared.core_job.CoreJob.{CoreJob}
use Rattle.fl_cores_fork.specs.declared.core_thread.CoreThread.{CoreThread}
use Rattle.fl_cores_fork.specs.declared.core_thread.FinishedCore.{FinishedCore}
use Rattle.fl_cores_fork.specs.CoreThreads.{IsReady, AllReady, CoreThreadRan}

each_push : {A B : Type 0} (R : A → B → Type 0) (xs : List A) (ys : List B) (x : A) (y : B) → AllZip R xs ys → R x y
    → AllZip R (xs ++ x ∷ []) (ys ++ y ∷ [])
each_push R [] [] x y all one = (one, tt)
each_push R [] (v ∷ ys) x y all one = absurd all
each_push R (u ∷ xs) [] x y all one = absurd all
each_push R (u ∷ xs) (v ∷ ys) x y all one = (all.0, each_push R xs ys x y all.1 one)

-- where the last one was joined
each_pushed : {A B E : Type 0} (R : A → B → Type 0) (xs : List A) (ys zs : List B) (x : A) (last : Result B E) → AllZip R xs ys → IfOk last (R x)
    → IsOkAnd last (λ y. zs ≡ ys ++ y ∷ []) → AllZip R (xs ++ x ∷ []) zs
each_pushed R xs ys zs x (Ok y) all one is = subst (AllZip R (xs ++ x ∷ [])) (sym is) (each_push R xs ys x y all one)
each_pushed R xs ys zs x (Err e) all one is = absurd is

-- as the promise says of the last one
ran_last : {E : Type 0} (jobs jobs2 : List CoreJob) (limit limit2 : ℕ) (s s2 : CoreThread) (last : Result FinishedCore E) → jobs2 ≡ jobs → limit2 ≡ limit → s2 ≡ s
    → IfOk last (CoreThreadRan jobs2 limit2 s2) → IfOk last (CoreThreadRan jobs limit s)
ran_last jobs jobs2 limit limit2 s s2 (Ok d) same_jobs same_limit same ran =
    subst (λ (x : CoreThread). CoreThreadRan jobs limit x d) same
    (subst (λ (n : ℕ). CoreThreadRan jobs n s2 d) same_limit
    (subst (λ (js : List CoreJob). CoreThreadRan js limit2 s2 d) same_jobs ran))
ran_last jobs jobs2 limit limit2 s s2 (Err e) same_jobs same_limit same ran = tt

pub each_joined : {E F V : Type 0} (items : V → List FinishedCore) (jobs jobs2 : List CoreJob) (limit limit2 : ℕ) (xs : List CoreThread) (ys : List FinishedCore) (s s2 : CoreThread)
    (last : Result FinishedCore E) (result : Result V F) → jobs2 ≡ jobs → limit2 ≡ limit → s2 ≡ s
    → AllZip (CoreThreadRan jobs limit) xs ys → IfOk last (CoreThreadRan jobs2 limit2 s2) → IfOk result (λ v. IsOkAnd last (λ d. items v ≡ ys ++ d ∷ []))
    → IfOk result (λ v. AllZip (CoreThreadRan jobs limit) (xs ++ s ∷ []) (items v))
each_joined items jobs jobs2 limit limit2 xs ys s s2 last (Ok v) same_jobs same_limit same all ran is =
    each_pushed (CoreThreadRan jobs limit) xs ys (items v) s last all (ran_last jobs jobs2 limit limit2 s s2 last same_jobs same_limit same ran) is
each_joined items jobs jobs2 limit limit2 xs ys s s2 last (Err e) same_jobs same_limit same all ran is = tt

pub ready_rest : (xs : List CoreThread) (x : CoreThread) → AllReady (xs ++ x ∷ []) → AllReady xs
ready_rest [] x all = tt
ready_rest (s ∷ xs) x all = (all.0, ready_rest xs x all.1)

pub ready_last : (xs : List CoreThread) (x : CoreThread) → AllReady (xs ++ x ∷ []) → IsReady x
ready_last [] x all = all.0
ready_last (s ∷ xs) x all = ready_last xs x all.1

pub ready_push : (xs : List CoreThread) (x : CoreThread) → AllReady xs → IsReady x → AllReady (xs ++ x ∷ [])
ready_push [] x all one = (one, tt)
ready_push (s ∷ xs) x all one = (all.0, ready_push xs x all.1 one)

-- ---- ends

-- the ends of one place more
pub end_more : (seats : List TheEndAtChannel) (n : ℕ) → ((place : ℕ) (seat : TheEndAtChannel) → place < n → slice_get seats place ≡ Some seat → IsEnd seat.end)
    → ((seat : TheEndAtChannel) → slice_get seats n ≡ Some seat → IsEnd seat.end)
    → (place : ℕ) (seat : TheEndAtChannel) → place < n + 1 → slice_get seats place ≡ Some seat → IsEnd seat.end
end_more seats n before last place seat below =
    below_more (λ (i : ℕ). (s : TheEndAtChannel) → slice_get seats i ≡ Some s → IsEnd s.end) n (λ i low s at. before i s low at) last place below seat
