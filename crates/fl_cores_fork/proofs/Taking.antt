-- What stays where it is while the calls of a report are moved into it.
use Rattle.std.proofs.Common.{◌≡◌, refl, sym, ap, ◌∙◌, subst, ℕ, zero, suc, ◌+◌, ◌*◌, ◌<◌, ◌≤◌, List, [], ◌∷◌, ◌++◌, map, length, get_or, slice_get, slice_set, Some, None, Option, arith}
use Rattle.std.specs.List.{range_with_len, AllZip}
use Rattle.fl_base.specs.declared.identity.EndId.{EndId}
use Rattle.fl_base.specs.Given.{given}
use Rattle.fl_value_data.specs.Value.{TheCall}
use Rattle.fl_cores_table.specs.Seats.{TheCoresSeat}
use Rattle.fl_history_sides.specs.States.{TheHistorySide}
use Rattle.fl_core.specs.View.{slot_of, client_of, server_of}
use Rattle.fl_core_run.specs.EndProgress.{TheEndProgress}
use Rattle.fl_cores_jobs.specs.State.{TheJoinedJobs}
use Rattle.fl_cores_file.specs.declared.report.CallsByEnd.{CallsByEnd as RustBoth}
use Rattle.fl_cores_file.specs.Report.{BothEnds}
use Rattle.fl_cores_file.specs.Reports.{both_of}
use Rattle.fl_cores_jobs.specs.Joined.{core_at}
use Rattle.fl_cores_fork.specs.declared.core_thread.FinishedCore.{FinishedCore}
use Rattle.fl_cores_fork.specs.Tells.{both_at, handled_at, handled_by}
use Rattle.fl_cores_fork.specs.Runs.{TheFinishedCore, seats_left}
use Rattle.fl_cores_fork.specs.CoreThreads.{outcome_of, hand_left, hands_left}
use Rattle.fl_cores_fork.specs.Taking.{KeepsFrom}
use Rattle.fl_cores_fork.proofs.Lists.{both_more}

keeps_one : (p : ℕ) (o : TheFinishedCore) → KeepsFrom p o o
keeps_one p o = record { progresses = λ n _. refl; seat = refl }

pub keeps_all : (p : ℕ) (os : List TheFinishedCore) → AllZip (KeepsFrom p) os os
keeps_all p [] = tt
keeps_all p (o ∷ os) = (keeps_one p o, keeps_all p os)

-- where one of them changes so
pub keeps_set : (p n : ℕ) (ds : List FinishedCore) (d d2 : FinishedCore) → d ≡ get_or ds n d → KeepsFrom p (outcome_of d) (outcome_of d2)
    → AllZip (KeepsFrom p) (map outcome_of ds) (map outcome_of (slice_set ds n d2))
keeps_set p n [] d d2 is keeps = tt
keeps_set p zero (x ∷ ds) d d2 is keeps = (subst (λ (y : FinishedCore). KeepsFrom p (outcome_of y) (outcome_of d2)) is keeps, keeps_all p (map outcome_of ds))
keeps_set p (suc n) (x ∷ ds) d d2 is keeps = (keeps_one p (outcome_of x), keeps_set p n ds d d2 is keeps)

-- one after another
keeps_both : (p q : ℕ) (a b c : TheFinishedCore) → p ≤ q → KeepsFrom p a b → KeepsFrom q b c → KeepsFrom q a c
keeps_both p q a b c less f g = record {
  progresses = λ n from. g.progresses n from ∙ f.progresses n (omega (arith, less, from));
  seat = g.seat ∙ f.seat;
}

pub keeps_on : (p q : ℕ) (xs ys zs : List TheFinishedCore) → p ≤ q → AllZip (KeepsFrom p) xs ys → AllZip (KeepsFrom q) ys zs → AllZip (KeepsFrom q) xs zs
keeps_on p q [] [] [] less f g = tt
keeps_on p q [] [] (c ∷ zs) less f g = absurd g
keeps_on p q [] (b ∷ ys) zs less f g = absurd f
keeps_on p q (a ∷ xs) [] zs less f g = absurd f
keeps_on p q (a ∷ xs) (b ∷ ys) [] less f g = absurd g
keeps_on p q (a ∷ xs) (b ∷ ys) (c ∷ zs) less f g = (keeps_both p q a b c less f.0 g.0, keeps_on p q xs ys zs less f.1 g.1)

-- what an end handled, whose end's progress stays
abbrev progress_of : Option TheFinishedCore → ℕ → Option TheEndProgress
progress_of o slot = given o None λ o. slice_get o.run.progresses slot

same_progress : (p n slot : ℕ) (xs ys : List TheFinishedCore) → AllZip (KeepsFrom p) xs ys → p ≤ slot → progress_of (slice_get ys n) slot ≡ progress_of (slice_get xs n) slot
same_progress p n slot [] [] all from = refl
same_progress p n slot [] (b ∷ ys) all from = absurd all
same_progress p n slot (a ∷ xs) [] all from = absurd all
same_progress p zero slot (a ∷ xs) (b ∷ ys) all from = all.0.progresses slot from
same_progress p (suc n) slot (a ∷ xs) (b ∷ ys) all from = same_progress p n slot xs ys all.1 from

same_left : (core : Option ℕ) (p slot : ℕ) (xs ys : List TheFinishedCore) → AllZip (KeepsFrom p) xs ys → p ≤ slot
    → given core None (λ n. progress_of (slice_get ys n) slot) ≡ given core None (λ n. progress_of (slice_get xs n) slot)
same_left None p slot xs ys all from = refl
same_left (Some n) p slot xs ys all from = same_progress p n slot xs ys all from

pub same_handled : (j : TheJoinedJobs) (p : ℕ) (e : EndId) (xs ys : List TheFinishedCore) → AllZip (KeepsFrom p) xs ys → p ≤ slot_of e
    → handled_at j ys e ≡ handled_at j xs e
same_handled j p e xs ys all from = ap (λ (d : Option TheEndProgress). given d [] handled_by) (same_left (core_at j.bindings e) p (slot_of e) xs ys all from)

pub same_seats : (p : ℕ) (xs ys : List TheFinishedCore) → AllZip (KeepsFrom p) xs ys → seats_left ys ≡ seats_left xs
same_seats p [] [] all = refl
same_seats p [] (b ∷ ys) all = absurd all
same_seats p (a ∷ xs) [] all = absurd all
same_seats p (a ∷ xs) (b ∷ ys) all =
    ap (λ (s : TheCoresSeat). s ∷ seats_left ys) all.0.seat ∙ ap (λ (ss : List TheCoresSeat). a.run_seat.seat ∷ ss) (same_seats p xs ys all.1)

-- the sides of all stay, where those of the one that changes do
pub same_hands : (n : ℕ) (ds : List FinishedCore) (d d2 : FinishedCore) → d ≡ get_or ds n d → hand_left d2 ≡ hand_left d → hands_left (slice_set ds n d2) ≡ hands_left ds
same_hands n [] d d2 is same = refl
same_hands zero (x ∷ ds) d d2 is same = ap (λ (hand : List TheHistorySide). hand ∷ hands_left ds) (same ∙ ap hand_left is)
same_hands (suc n) (x ∷ ds) d d2 is same = ap (λ (hands : List (List TheHistorySide)). hand_left x ∷ hands) (same_hands n ds d d2 is same)

-- one binding
pub same_both : (j : TheJoinedJobs) (n : ℕ) (xs ys : List TheFinishedCore) → AllZip (KeepsFrom (2 * n)) xs ys → both_at (handled_at j ys) n ≡ both_at (handled_at j xs) n
same_both j n xs ys all =
    ap (λ (c : List TheCall). let b : BothEnds = record { client = c; server = handled_at j ys (server_of n) } in b)
    (same_handled j (2 * n) (client_of n) xs ys all (omega arith))
    ∙ ap (λ (c : List TheCall). let b : BothEnds = record { client = handled_at j xs (client_of n); server = c } in b)
    (same_handled j (2 * n) (server_of n) xs ys all (omega arith))

-- both ends of it, the client's first
pub both_taken : (j : TheJoinedJobs) (n : ℕ) (xs ys : List TheFinishedCore) (client server : List TheCall) → AllZip (KeepsFrom (slot_of (client_of n) + 1)) xs ys
    → client ≡ handled_at j xs (client_of n) → server ≡ handled_at j ys (server_of n)
    → (let b : BothEnds = record { client = client; server = server } in b) ≡ both_at (handled_at j xs) n
both_taken j n xs ys client server all first second =
    ap (λ (c : List TheCall). let b : BothEnds = record { client = c; server = server } in b) first
    ∙ ap (λ (c : List TheCall). let b : BothEnds = record { client = handled_at j xs (client_of n); server = c } in b)
    (second ∙ same_handled j (slot_of (client_of n) + 1) (server_of n) xs ys all (omega arith))

pub both_rest : (n : ℕ) (xs ys zs : List TheFinishedCore) → AllZip (KeepsFrom (slot_of (client_of n) + 1)) xs ys
    → AllZip (KeepsFrom (slot_of (server_of n) + 1)) ys zs → AllZip (KeepsFrom (2 * (n + 1))) xs zs
both_rest n xs ys zs f g =
    let same : slot_of (server_of n) + 1 ≡ 2 * (n + 1) = omega arith in
    subst (λ (p : ℕ). AllZip (KeepsFrom p) xs zs) same (keeps_on (slot_of (client_of n) + 1) (slot_of (server_of n) + 1) xs ys zs (omega arith) f g)

-- one binding more
pub handled_more : (j : TheJoinedJobs) (n : ℕ) (xs ys : List TheFinishedCore) (all : List RustBoth) (b : RustBoth) → AllZip (KeepsFrom (2 * n)) xs ys
    → map both_of all ≡ map (both_at (handled_at j xs)) (range_with_len 0 n) → both_of b ≡ both_at (handled_at j ys) n
    → map both_of (all ++ b ∷ []) ≡ map (both_at (handled_at j xs)) (range_with_len 0 (n + 1))
handled_more j n xs ys all b keeps so is = both_more (both_at (handled_at j xs)) n all b so (is ∙ same_both j n xs ys keeps)

-- ---- the core of an end

there : (n : ℕ) (ds : List FinishedCore) (d : FinishedCore) → n < length ds → d ≡ get_or ds n d → slice_get (map outcome_of ds) n ≡ Some (outcome_of d)
there n [] d below is = absurd (omega (arith, below))
there zero (x ∷ ds) d below is = ap (λ (y : FinishedCore). Some (outcome_of y)) (sym is)
there (suc n) (x ∷ ds) d below is = there n ds d (omega (arith, below)) is

nowhere : (n : ℕ) (ds : List FinishedCore) → length ds ≤ n → slice_get (map outcome_of ds) n ≡ None
nowhere n [] past = refl
nowhere zero (x ∷ ds) past = absurd (omega (arith, past))
nowhere (suc n) (x ∷ ds) past = nowhere n ds (omega (arith, past))

pub handled_there : (j : TheJoinedJobs) (e : EndId) (n : ℕ) (ds : List FinishedCore) (d : FinishedCore) (calls : List TheCall) → core_at j.bindings e ≡ Some n → n < length ds
    → d ≡ get_or ds n d → calls ≡ given (slice_get (outcome_of d).run.progresses (slot_of e)) [] handled_by → calls ≡ handled_at j (map outcome_of ds) e
handled_there j e n ds d calls at below is handled =
    handled ∙ ap (λ (o : Option TheFinishedCore). given (progress_of o (slot_of e)) [] handled_by) (sym (there n ds d below is))
    ∙ ap (λ (core : Option ℕ). given (given core None (λ m. progress_of (slice_get (map outcome_of ds) m) (slot_of e))) [] handled_by) (sym at)

pub handled_nowhere : (j : TheJoinedJobs) (e : EndId) (n : ℕ) (ds : List FinishedCore) (calls : List TheCall) → core_at j.bindings e ≡ Some n → length ds ≤ n
    → calls ≡ [] → calls ≡ handled_at j (map outcome_of ds) e
handled_nowhere j e n ds calls at past none =
    none ∙ ap (λ (o : Option TheFinishedCore). given (progress_of o (slot_of e)) [] handled_by) (sym (nowhere n ds past))
    ∙ ap (λ (core : Option ℕ). given (given core None (λ m. progress_of (slice_get (map outcome_of ds) m) (slot_of e))) [] handled_by) (sym at)
