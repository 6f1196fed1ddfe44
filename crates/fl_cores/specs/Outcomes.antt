-- What holds of each report that `run_cores` answers, beside that it is honest. Laws.
use Rattle.std.specs.Prelude.{ℕ, ◌≡◌, ◌≢◌, ◌≤◌, List, [], ◌∷◌, slice_get, Some, None}
use Rattle.fl_base.specs.declared.identity.EndId.{EndId}
use Rattle.fl_core_run.specs.declared.run.RunEnd.TheVariants.{Finished}
use Rattle.fl_cores_file.specs.Jobs.{Job}
use Rattle.fl_cores_file.specs.Report.{TheReport, complete, refusal_of, Honest, AllHandled}
use Rattle.fl_model.specs.Ends.{Seat, End}
use Rattle.fl_model.specs.Events.{DispatcherId}
use Rattle.fl_model.specs.Runs.{reached}
use Rattle.fl_model.specs.State.{end_of}
use Rattle.fl_model.specs.Worlds.{start_with}
use Rattle.fl_world.specs.Booting.{TheConfig}
use Rattle.fl_cores_laws.specs.EndedCores.{OneCore}
use Rattle.fl_cores_laws.specs.EndedTurns.{KeepsTurns}
use Rattle.fl_cores_laws.specs.EndedBegins.{Ran}
use Rattle.fl_cores_laws.specs.Complete.{AsManyHandled}
use Rattle.fl_cores_laws.specs.Few.{IsOther, AreEnds, handled_at_all, AreFirst}
use Rattle.fl_cores_laws.specs.Refused.{WasRefused}
use Rattle.fl_cores.specs.Promised.{Reports}
use Rattle.fl_cores.specs.Behind.{joined_in, cores_in}

-- ---- whose report it is

-- its cores ran the jobs that were joined for them, what they heard of refused openings was told, and it tells what came of that
abbrev pub ReportsAreOfRuns : Type 0
ReportsAreOfRuns = (c : TheConfig) (jobs : List Job) (limit : ℕ) (r : TheReport) (w : Reports c jobs limit r)
    → Ran jobs (joined_in w) limit (cores_in w) r

-- ---- turns

-- it tells of as many turns as cores, each within the limit, and of `turns out` only where a core that hadn't finished took all of its turns
abbrev pub ReportsKeepTurns : Type 0
ReportsKeepTurns = (c : TheConfig) (jobs : List Job) (limit : ℕ) (r : TheReport) (w : Reports c jobs limit r) → KeepsTurns (cores_in w) limit r

-- ---- how much a dispatcher handled

-- of a core that didn't finish: what ends of one dispatcher handled is together at most the turns that are told of the core
abbrev pub UnfinishedHandleFew : Type 0
UnfinishedHandleFew = (c : TheConfig) (jobs : List Job) (limit : ℕ) (r : TheReport) (w : Reports c jobs limit r) (n d turns : ℕ) (core : OneCore)
    (ends : List EndId) → slice_get (cores_in w) n ≡ Some core → core.part.end ≢ Finished → AreEnds (joined_in w) n core d ends
    → slice_get r.turns n ≡ Some turns → handled_at_all r.handled ends ≤ turns

-- of any core, where what is told of these ends is the first of what is handed in for them
abbrev pub FirstAreFew : Type 0
FirstAreFew = (c : TheConfig) (jobs : List Job) (limit : ℕ) (r : TheReport) (w : Reports c jobs limit r) (n d turns : ℕ) (core : OneCore)
    (ends : List EndId) → slice_get (cores_in w) n ≡ Some core → AreEnds (joined_in w) n core d ends → AreFirst jobs core r ends
    → slice_get r.turns n ≡ Some turns → handled_at_all r.handled ends ≤ turns

-- in an honest report of any core
abbrev pub HonestHandleFew : Type 0
HonestHandleFew = (c : TheConfig) (jobs : List Job) (limit : ℕ) (r : TheReport) (w : Reports c jobs limit r) → Honest jobs r
    → (n d turns : ℕ) (core : OneCore) (ends : List EndId) → slice_get (cores_in w) n ≡ Some core → AreEnds (joined_in w) n core d ends
    → slice_get r.turns n ≡ Some turns → handled_at_all r.handled ends ≤ turns

-- ---- refusals

-- a binding that is named as refused is one that a job opens; its client's end handled nothing, and made no call
abbrev pub RefusedAreOpened : Type 0
RefusedAreOpened = (c : TheConfig) (jobs : List Job) (limit : ℕ) (r : TheReport) (w : Reports c jobs limit r) (binding fault : ℕ)
    → refusal_of r binding ≡ Some fault → WasRefused (joined_in w) r binding

-- ---- by the set-up

-- behind the set-up the machine has the end of this name at this dispatcher
pub record SetUpAt (c : TheConfig) (d : DispatcherId) (e : EndId) : Type 0 where
  pub end : End
  pub end_is : end_of (reached (start_with c.cores) c.setup) e ≡ Some end
  pub seat : Seat
  pub seat_is : end.seat ≡ Some seat
  pub dispatcher : seat.dispatcher ≡ d

-- so it has these, each another
abbrev pub AreSetUpAt : TheConfig → DispatcherId → List EndId → Type 0
AreSetUpAt c d [] = Unit {0}
AreSetUpAt c d (e ∷ ends) = SetUpAt c d e × IsOther e ends × AreSetUpAt c d ends

-- what ends of the set-up handled is together at most the turns that are told of the dispatcher's core, where that didn't finish
abbrev pub SetUpUnfinishedHandleFew : Type 0
SetUpUnfinishedHandleFew = (c : TheConfig) (jobs : List Job) (limit : ℕ) (r : TheReport) (w : Reports c jobs limit r)
    (d : DispatcherId) (ends : List EndId) (turns : ℕ) (core : OneCore)
    → slice_get (cores_in w) d.core ≡ Some core → core.part.end ≢ Finished → AreSetUpAt c d ends → slice_get r.turns d.core ≡ Some turns
    → handled_at_all r.handled ends ≤ turns

-- in an honest report of any core
abbrev pub SetUpHandleFew : Type 0
SetUpHandleFew = (c : TheConfig) (jobs : List Job) (limit : ℕ) (r : TheReport) (w : Reports c jobs limit r) → Honest jobs r
    → (d : DispatcherId) (ends : List EndId) (turns : ℕ) → AreSetUpAt c d ends → slice_get r.turns d.core ≡ Some turns
    → handled_at_all r.handled ends ≤ turns

-- ---- what `complete` says

-- it comes only where as many calls were handled as are handed in, or more, at both ends of each binding, but on bindings that are named as refused
abbrev pub CompleteHasAsMany : Type 0
CompleteHasAsMany = (c : TheConfig) (jobs : List Job) (limit : ℕ) (r : TheReport) (w : Reports c jobs limit r) → r.ending ≡ complete
    → (e : EndId) → refusal_of r e.binding ≡ None → AsManyHandled jobs r e

-- so all was handled, where the report is honest
abbrev pub CompleteHasAll : Type 0
CompleteHasAll = (c : TheConfig) (jobs : List Job) (limit : ℕ) (r : TheReport) (w : Reports c jobs limit r) → Honest jobs r → r.ending ≡ complete
    → AllHandled jobs r
