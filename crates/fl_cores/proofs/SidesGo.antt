-- The sides that a core was given, after its run.
use Rattle.std.proofs.Common.{◌≡◌, refl, ap, ◌∙◌, subst, ℕ, zero, suc, List, [], ◌∷◌, length, arith}
use Rattle.std.proofs.lemmas.List.{length-set}
use Rattle.fl_hop.specs.declared.forward.ForwardOutcome.TheVariants.{Moved, Full, Spent}
use Rattle.fl_ring.specs.SharedSides.{TheSide, SharedPuts, SharedTakes}
use Rattle.fl_core.specs.View.{TheCore}
use Rattle.fl_core.specs.declared.wiring.Outlet.TheVariants as outlet
use Rattle.fl_core.specs.declared.wiring.Inlet.TheVariants as inlet
use Rattle.fl_core.specs.declared.core_job.CoreJob.{CoreJob}
use Rattle.fl_core_run.specs.Run.{SideRelations, TheRun}
use Rattle.fl_core_run.specs.LogEntries.{LogEntry, looked, passed, arrived, heard, said, told, opened, called, ruled, wrote, acked, turned, OnRing, Does}
use Rattle.fl_core_run_laws.specs.Logs.{Goes, SidesGo, LogsLook}
use Rattle.fl_core_run_laws.proofs.Aside.{rings_aside}
use Rattle.fl_cores_shares.specs.Settled.{WentOn, AllWentOn, HoldingsWentOn}
use Rattle.fl_cores_laws.specs.Cores.{shared_ways, OneCore}
use Rattle.fl_cores_fork.specs.Runs.{TheFinishedCore, sides_left, TheCoreThread}
use Rattle.fl_cores_parts.specs.Shares.{sides_given}
use Rattle.fl_cores.specs.Runs.{IsRun, AreRuns}

-- ---- as many as before

on_ring : {S : Type 0} (n : ℕ) (s m : TheRun S) (Event : TheCore → S → TheCore → S → Type 0) → OnRing n s Event m → length m.rings ≡ length s.rings
on_ring n s m Event h = ap (λ (x : TheRun _). length x.rings) h.rest ∙ length-set s.rings n h.after

as_many : {S : Type 0} (w : SideRelations S) (log_entry : LogEntry) (s m : TheRun S) → Does w log_entry s m → length m.rings ≡ length s.rings
as_many w (looked n l answer) s m h = on_ring n s m _ h
as_many w (passed n k frag c Moved) s m h = on_ring n h.0 m _ h.2 ∙ on_ring k s h.0 _ h.1
as_many w (passed n k frag c Full) s m h = on_ring k s m _ h
as_many w (passed n k frag c Spent) s m h = on_ring k s m _ h
as_many w (arrived n l frag e answer) s m h = on_ring n s m _ h
as_many w (heard n l frag answer) s m h = on_ring n s m _ h
as_many w (said n l answer) s m h = on_ring n s m _ h
as_many w (told n l answer) s m h = on_ring n s m _ h
as_many w (opened name request answer) s m h = ap (λ (x : TheRun _). length x.rings) h.rest
as_many w (called name c answer) s m h = ap (λ (x : TheRun _). length x.rings) h.2.rest
as_many w (ruled name msg reply answer) s m h = ap (λ (x : TheRun _). length x.rings) h.2.rest
as_many w (wrote name (outlet.Queue n) answer) s m h = ap (λ (x : TheRun _). length x.rings) h.2.rest
as_many w (wrote name (outlet.Side n) answer) s m h = on_ring n s m _ h.2
as_many w (acked name n answer) s m h = on_ring n s m _ h.2
as_many w (turned d name (inlet.Queue n) answer) s m h = ap (λ (x : TheRun _). length x.rings) h.3.rest
as_many w (turned d name (inlet.Side n) answer) s m h = on_ring n s m _ h.3
as_many w (turned d name inlet.Arrivals answer) s m h = ap (λ (x : TheRun _). length x.rings) h.3.rest

pub rings_stay : {S : Type 0} (w : SideRelations S) (jobs : List CoreJob) (s t : TheRun S) (log : List LogEntry) → Goes w jobs s log t → length t.rings ≡ length s.rings
rings_stay w jobs s t [] h = ap (λ (x : TheRun _). length x.rings) h
rings_stay w jobs s t (log_entry ∷ log) h =
    rings_stay w jobs h.0 t log h.3 ∙ ap length (rings_aside h.1.0 h.0 log_entry h.1.2) ∙ as_many w log_entry s h.1.0 h.1.1

-- ---- each by looks, puts and takes

all_went : (ps qs : List TheSide) → length qs ≡ length ps → SidesGo SharedPuts SharedTakes ps qs → AllWentOn ps qs
all_went [] [] many go = tt
all_went [] (q ∷ qs) many go = absurd (omega (arith, many))
all_went (p ∷ ps) [] many go = absurd (omega (arith, many))
all_went (p ∷ ps) (q ∷ qs) many go =
    let (x, is, went) = go zero p refl in
    let same : x ≡ q = cc in
    (subst (WentOn p) same went, all_went ps qs (omega (arith, many)) (λ n y at. go (suc n) y at))

pub run_went : (look : LogsLook shared_ways) (jobs : List CoreJob) (s : TheCoreThread) (o : TheFinishedCore) (c : OneCore) → IsRun jobs s o c
    → AllWentOn s.run.rings o.run.rings
run_went look jobs s o c run =
    let went : AllWentOn c.start.rings c.finish.rings =
    all_went c.start.rings c.finish.rings (rings_stay shared_ways jobs c.start c.finish c.log run.goes) (look jobs c.start c.finish c.log run.goes) in
    subst (λ (x : TheRun TheSide). AllWentOn s.run.rings x.rings) run.finish
    (subst (λ (x : TheRun TheSide). AllWentOn x.rings c.finish.rings) run.start went)

pub holdings_went : (look : LogsLook shared_ways) (jobs : List CoreJob) (core_threads : List TheCoreThread) (outcomes : List TheFinishedCore) (cores : List OneCore)
    → AreRuns jobs core_threads outcomes cores → HoldingsWentOn (sides_given core_threads) (sides_left outcomes)
holdings_went look jobs [] [] [] runs n = tt
holdings_went look jobs [] [] (c ∷ cores) runs n = absurd runs
holdings_went look jobs [] (o ∷ outcomes) cores runs n = absurd runs
holdings_went look jobs (s ∷ core_threads) [] cores runs n = absurd runs
holdings_went look jobs (s ∷ core_threads) (o ∷ outcomes) [] runs n = absurd runs
holdings_went look jobs (s ∷ core_threads) (o ∷ outcomes) (c ∷ cores) runs zero = run_went look jobs s o c runs.0
holdings_went look jobs (s ∷ core_threads) (o ∷ outcomes) (c ∷ cores) runs (suc n) = holdings_went look jobs core_threads outcomes cores runs.1 n
