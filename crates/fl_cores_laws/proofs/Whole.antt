-- A core's whole run is a log.
use Rattle.std.proofs.Common.{subst, List, [], ◌∷◌, ◌++◌}
use Rattle.fl_core.specs.declared.core_job.CoreJob.{CoreJob}
use Rattle.fl_core_run.specs.declared.run.RunEnd.{RunEnd}
use Rattle.fl_core_run.specs.declared.run.RunEnd.TheVariants.{Finished, Unfinished, Told}
use Rattle.fl_core_run.specs.Run.{SideRelations, TheRun}
use Rattle.fl_core_run.specs.LogEntries.{LogEntry}
use Rattle.fl_core_run.specs.Ran.{RunTask, GoesOn}
use Rattle.fl_core_run_laws.specs.Logs.{Goes, TurnsAreLogged, CountedAreTurns}
use Rattle.fl_cores_laws.specs.Cores.{shared_ways, CoresGo}

pub goes_then : {S : Type 0} (w : SideRelations S) (jobs : List CoreJob) (xs ys : List LogEntry) (s m t : TheRun S) → Goes w jobs s xs m → Goes w jobs m ys t → Goes w jobs s (xs ++ ys) t
goes_then w jobs [] ys s m t h g = subst (λ x. Goes w jobs x ys t) h g
goes_then w jobs (x ∷ xs) ys s m t h g = (h.0, h.1, h.2, goes_then w jobs xs ys h.0 m t h.3 g)

abbrev IsLog : {S : Type 0} → SideRelations S → List CoreJob → TheRun S → TheRun S → Type 0
IsLog w jobs s t = (log : List LogEntry) × Goes w jobs s log t

on_by : {S : Type 0} (w : SideRelations S) (t : RunTask) → TurnsAreLogged w → (e : RunEnd) (s u : TheRun S) → GoesOn w t e s u → IsLog w t.jobs s u
on_by w t logged Finished s u h = (let x = logged t.plan t.jobs h.0 s u h.1 in (x.log, x.goes))
on_by w t logged Unfinished s u h = ([], h)
on_by w t logged Told s u h = ([], h)

pub cores_go : CountedAreTurns shared_ways → TurnsAreLogged shared_ways → CoresGo
cores_go counted logged t a b part ran =
    let first = logged t.plan t.jobs part.turns a.run ran.middle.run (counted t a ran.middle part ran.counted) in
    let more = on_by shared_ways t logged part.end ran.middle.run b.run ran.goes_on in
    (first.log ++ more.0, goes_then shared_ways t.jobs first.log more.0 a.run ran.middle.run b.run first.goes more.1)
