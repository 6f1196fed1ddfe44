-- A core's whole run is a log, and lent sides stay lent.
use Rattle.std.proofs.Common.{◌≡◌, ap, ◌∙◌, subst, ℕ, List, [], ◌∷◌, ◌++◌, length}
use Rattle.std.proofs.lemmas.List.{length-set}
use Rattle.fl_hop.specs.declared.forward.ForwardOutcome.TheVariants.{Moved, Full, Spent}
use Rattle.fl_link.specs.Queue.{TheQueue}
use Rattle.fl_core.specs.declared.wiring.Outlet.TheVariants as outlet
use Rattle.fl_core.specs.declared.wiring.Inlet.TheVariants as inlet
use Rattle.fl_core.specs.View.{TheCore}
use Rattle.fl_core.specs.declared.core_job.CoreJob.{CoreJob}
use Rattle.fl_core_run.specs.declared.run.Part.{Part}
use Rattle.fl_core_run.specs.declared.run.RunEnd.{RunEnd}
use Rattle.fl_core_run.specs.declared.run.RunEnd.TheVariants.{Finished, Unfinished, Told}
use Rattle.fl_core_run.specs.Run.{SideRelations, TheRun}
use Rattle.fl_core_run.specs.LogEntries.{LogEntry, looked, passed, arrived, heard, said, told, opened, called, ruled, wrote, acked, turned, OnRing, OnQueue, Does}
use Rattle.fl_core_run.specs.Ran.{RunTask, RunMoment, GoesOn, CoreRan}
use Rattle.fl_core_run.proofs.Counted.{turns_of}
use Rattle.fl_core_run_laws.specs.Logs.{Goes, TurnsAreLogged}
use Rattle.fl_core_run_laws.proofs.Aside.{rings_aside}
use Rattle.fl_core_run_laws.proofs.Logging.{turns_logged}

-- ---- a core's whole run is a log

goes_then : {S : Type 0} (w : SideRelations S) (jobs : List CoreJob) (xs ys : List LogEntry) (s m t : TheRun S) → Goes w jobs s xs m → Goes w jobs m ys t → Goes w jobs s (xs ++ ys) t
goes_then w jobs [] ys s m t h g = subst (λ x. Goes w jobs x ys t) h g
goes_then w jobs (x ∷ xs) ys s m t h g = (h.0, h.1, h.2, goes_then w jobs xs ys h.0 m t h.3 g)

abbrev IsLog : {S : Type 0} → SideRelations S → List CoreJob → TheRun S → TheRun S → Type 0
IsLog w jobs s t = (log : List LogEntry) × Goes w jobs s log t

on_by : {S : Type 0} (w : SideRelations S) (t : RunTask) → TurnsAreLogged w → (e : RunEnd) (s u : TheRun S) → GoesOn w t e s u → IsLog w t.jobs s u
on_by w t logged Finished s u h = (let x = logged t.plan t.jobs h.0 s u h.1 in (x.log, x.goes))
on_by w t logged Unfinished s u h = ([], h)
on_by w t logged Told s u h = ([], h)

pub run_log : {S : Type 0} (w : SideRelations S) (t : RunTask) (a b : RunMoment S) (part : Part) → CoreRan w t a part b → IsLog w t.jobs a.run b.run
run_log w t a b part ran =
    let first = turns_logged w t.plan t.jobs part.turns a.run ran.middle.run (turns_of w t a ran.middle part ran.counted) in
    let more = on_by w t (turns_logged w) part.end ran.middle.run b.run ran.goes_on in
    (first.log ++ more.0, goes_then w t.jobs first.log more.0 a.run ran.middle.run b.run first.goes more.1)

-- ---- as many sides as before

on_ring : {S : Type 0} (n : ℕ) (s m : TheRun S) (Event : TheCore → S → TheCore → S → Type 0) → OnRing n s Event m → length m.rings ≡ length s.rings
on_ring n s m Event h = ap (λ (x : TheRun _). length x.rings) h.rest ∙ length-set s.rings n h.after

on_queue : {S : Type 0} (n : ℕ) (s m : TheRun S) (Event : TheCore → TheQueue → TheCore → TheQueue → Type 0) → OnQueue n s Event m → length m.rings ≡ length s.rings
on_queue n s m Event h = ap (λ (x : TheRun _). length x.rings) h.rest

on_core : {S : Type 0} (s m : TheRun S) → m ≡ record s { core = m.core } → length m.rings ≡ length s.rings
on_core s m rest = ap (λ (x : TheRun _). length x.rings) rest

as_many : {S : Type 0} (w : SideRelations S) (log_entry : LogEntry) (s m : TheRun S) → Does w log_entry s m → length m.rings ≡ length s.rings
as_many w (looked n l answer) s m h = on_ring n s m _ h
as_many w (passed n k frag c Moved) s m h = on_ring n h.0 m _ h.2 ∙ on_ring k s h.0 _ h.1
as_many w (passed n k frag c Full) s m h = on_ring k s m _ h
as_many w (passed n k frag c Spent) s m h = on_ring k s m _ h
as_many w (arrived n l frag e answer) s m h = on_ring n s m _ h
as_many w (heard n l frag answer) s m h = on_ring n s m _ h
as_many w (said n l answer) s m h = on_ring n s m _ h
as_many w (told n l answer) s m h = on_ring n s m _ h
as_many w (opened name request answer) s m h = on_core s m h.rest
as_many w (called name c answer) s m h = on_core s m h.2.rest
as_many w (ruled name msg reply answer) s m h = on_core s m h.2.rest
as_many w (wrote name (outlet.Queue n) answer) s m h = on_queue n s m _ h.2
as_many w (wrote name (outlet.Side n) answer) s m h = on_ring n s m _ h.2
as_many w (acked name n answer) s m h = on_ring n s m _ h.2
as_many w (turned d name (inlet.Queue n) answer) s m h = on_queue n s m _ h.3
as_many w (turned d name (inlet.Side n) answer) s m h = on_ring n s m _ h.3
as_many w (turned d name inlet.Arrivals answer) s m h = on_core s m h.3.rest

pub log_many : {S : Type 0} (w : SideRelations S) (jobs : List CoreJob) (s t : TheRun S) (log : List LogEntry) → Goes w jobs s log t → length t.rings ≡ length s.rings
log_many w jobs s t [] h = ap (λ (x : TheRun _). length x.rings) h
log_many w jobs s t (log_entry ∷ log) h =
    log_many w jobs h.0 t log h.3 ∙ ap length (rings_aside h.1.0 h.0 log_entry h.1.2) ∙ as_many w log_entry s h.1.0 h.1.1
