-- The laws of cuts.
use Rattle.std.specs.Prelude.{ℕ, ◌≡◌, List, [], ◌∷◌}
use Rattle.fl_link.specs.Looks.{Look}
use Rattle.fl_ring.specs.SharedSides.{TheSide, SharedPuts, SharedTakes}
use Rattle.fl_core.specs.View.{TheCore}
use Rattle.fl_core.specs.declared.core_job.CoreJob.{CoreJob}
use Rattle.fl_core_run.specs.declared.plan.TurnPlan.{TurnPlan}
use Rattle.fl_core_run.specs.Run.{SideRelations, ways, TheRun}
use Rattle.fl_core_run.specs.LogEntries.{LogEntry, Happens}
use Rattle.fl_core_run.specs.Turn.{Turned}
use Rattle.fl_core_run_laws.specs.Logs.{InPlace, Goes}
use Rattle.fl_model.specs.Monitors.{Service}
use Rattle.fl_core_refines.specs.Cut.{CoreCut, ShowsCut}
use Rattle.fl_core_refines.specs.CutDoes.{CutDoes, InOrder, CutGoes, HearNothing}

-- no link leads to another core, and nothing waits for one
pub record HasNoLinks (k : TheCore) : Type 0 where
  pub link_sides : k.link_sides ≡ []
  pub outboxes : k.monitor.outboxes ≡ []

-- what sides of rings between threads do
abbrev pub shared : (TheSide → Look) → SideRelations TheSide
shared front = ways SharedPuts SharedTakes front

-- by an event the machine makes of the cut what the core shows then
pub record Follows (services : List Service) (log_entry : LogEntry) (a : CoreCut) (t : TheRun TheSide) : Type 0 where
  pub after : CoreCut
  pub does : CutDoes services log_entry a after
  pub shows : ShowsCut after t

-- so it is of each event, whatever the other cores do
abbrev pub EventsFollow : Type 0
EventsFollow = (front : TheSide → Look) (jobs : List CoreJob) (services : List Service) (a : CoreCut) (s t : TheRun TheSide) (log_entry : LogEntry)
    → ShowsCut a s → InOrder services log_entry a s → Happens (shared front) log_entry s t → InPlace jobs s log_entry → Follows services log_entry a t

-- ---- by a log's events, in their order

-- as long as each message that is heard is in order
abbrev pub GoesOn : (TheSide → Look) → List Service → CoreCut → TheRun TheSide → List LogEntry → TheRun TheSide → Type 0
GoesOn front services a s [] t = (t ≡ s) × ShowsCut a t
GoesOn front services a s (log_entry ∷ log) t = InOrder services log_entry a s
    → (b : CoreCut) × (m : TheRun TheSide) × Happens (shared front) log_entry s m × CutDoes services log_entry a b × ShowsCut b m
    × GoesOn front services b m log t

-- where none is heard
pub record FollowsAll (services : List Service) (log : List LogEntry) (a : CoreCut) (t : TheRun TheSide) : Type 0 where
  pub after : CoreCut
  pub goes : CutGoes services a log after
  pub shows : ShowsCut after t

abbrev pub LogsFollow : Type 0
LogsFollow = (front : TheSide → Look) (jobs : List CoreJob) (services : List Service) (a : CoreCut) (s t : TheRun TheSide) (log : List LogEntry) → ShowsCut a s
    → Goes (shared front) jobs s log t → GoesOn front services a s log t × (HearNothing log → FollowsAll services log a t)

-- ---- by so many turns: what the machine makes of the cut by their log

pub record TurnsFollow (front : TheSide → Look) (jobs : List CoreJob) (services : List Service) (a : CoreCut) (s t : TheRun TheSide) : Type 0 where
  pub log : List LogEntry
  pub happened : Goes (shared front) jobs s log t
  pub goes_on : GoesOn front services a s log t
  pub follows : HearNothing log → FollowsAll services log a t
  -- none is heard at a core without links
  pub quiet : HasNoLinks s.core → HearNothing log

abbrev pub AllTurnsFollow : Type 0
AllTurnsFollow = (front : TheSide → Look) (plan : TurnPlan) (jobs : List CoreJob) (k : ℕ) (services : List Service) (a : CoreCut) (s t : TheRun TheSide)
    → ShowsCut a s → Turned (shared front) plan jobs k s t → TurnsFollow front jobs services a s t
