-- That messages come to a running core as they come to one of the machine: what the core keeps, whatever others say to it. Laws.
use Rattle.std.specs.Prelude.{ℕ, ◌≡◌, ◌⊎◌, ◌<◌, true, false, List, [], ◌∷◌, length, map, slice_get, Some, None, Ok}
use Rattle.fl_base.specs.Control.{bare}
use Rattle.fl_base.specs.Numbered.{core_id}
use Rattle.fl_link.specs.Looks.{Look}
use Rattle.fl_monitor.specs.declared.message.MonitorMessage.{MonitorMessage}
use Rattle.fl_monitor.specs.Fates.{comes_along}
use Rattle.fl_monitor.specs.Saying.{Says}
use Rattle.fl_core.specs.declared.answer.MonitorAnswer.TheVariants.{Done}
use Rattle.fl_ring.specs.SharedSides.{TheSide}
use Rattle.fl_core.specs.declared.core_job.CoreJob.{CoreJob}
use Rattle.fl_core_run.specs.declared.plan.TurnPlan.{TurnPlan}
use Rattle.fl_core_run.specs.LogEntries.{LogEntry, heard}
use Rattle.fl_core_run.specs.Run.{TheRun}
use Rattle.fl_core_run.specs.Turn.{Turned}
use Rattle.fl_core_run_laws.specs.Flows.{IsApart}
use Rattle.fl_core_run_laws.specs.Led.{IsLed}
use Rattle.fl_core_run_laws.specs.Logs.{Goes}
use Rattle.fl_model.specs.Binding.{all_differ}
use Rattle.fl_model.specs.Monitors.{Service, next_on, link_to, fails, Hearing, hears_opening, opening_failed}
use Rattle.fl_model.specs.Rings.{OpeningLabel, open_circuit, says}
use Rattle.fl_world_refines.specs.Cores.{NamesShow}
use Rattle.fl_core_refines.specs.CutSides.{gave_one, SideGives}
use Rattle.fl_core_refines.specs.CutEnds.{EndCut}
use Rattle.fl_core_refines.specs.Cut.{CoreCut, ShowsCut}
use Rattle.fl_core_refines.specs.CutLinks.{OverOne}
use Rattle.fl_core_refines.specs.CutHearing.{said_of, IsUnbound}
use Rattle.fl_core_refines.specs.CutDoes.{CutDoes}
use Rattle.fl_core_refines.specs.CutLaws.{shared}

-- ---- what a core keeps

-- an end that isn't bound accepted nothing, and never failed
abbrev pub EndsAreQuiet : List EndCut → Type 0
EndsAreQuiet ends = (place : ℕ) (x : EndCut) → slice_get ends place ≡ Some x → x.end.circuit ≡ None → IsUnbound x

-- each service of this core has its dispatcher here, and its program is lent
abbrev pub Serves : List Service → CoreCut → Type 0
Serves services a = (n : ℕ) (x : Service) → slice_get services n ≡ Some x → x.dispatcher.core ≡ a.core.circuits.core
    → (x.dispatcher.place < length a.core.dispatchers) × (x.interface < length a.plans)

-- with the services of the machine's table of names: its names are these, no two links or ends of it have one side or queue, and its table leads to its ends
pub record IsReady (services : List Service) (a : CoreCut) (s : TheRun TheSide) : Type 0 where
  pub names : NamesShow services s.offers.names
  pub serves : Serves services a
  pub quiet : EndsAreQuiet a.ends
  pub apart : IsApart s.core
  pub led : IsLed s.core

-- ---- an opening that turns back

-- it came along its route over link l, and leads back over that; so the route names a core twice, as none of the machine does
pub record TurnsBack (l : ℕ) (o : OpeningLabel) (a : CoreCut) : Type 0 where
  pub along : comes_along a.core.circuits l (map core_id o.path) ≡ true
  pub next : ℕ
  pub next_is : next_on o.path a.core.circuits.core ≡ Some next
  pub back : link_to next a.core ≡ Some l
  pub twice : all_differ o.path ≡ false

-- the core refuses it, as the machine's does where no link leads on; where the outbox is full it leaves it, as the machine's leaves any
abbrev pub refusing : ℕ → OpeningLabel → CoreCut → Hearing
refusing l o a = hears_opening l o (fails 73) a.core

abbrev pub RefusesBack : LogEntry → CoreCut → CoreCut → Type 0
RefusesBack (heard n l frag (Ok Done)) a b =
    (m : MonitorMessage) × (o : OpeningLabel) × Says frag m × (said_of m ≡ open_circuit o) × TurnsBack l.0 o a
    × ((refusing l.0 o a).heard ≡ opening_failed o.binding 73)
    × OverOne a.sides n (SideGives (says (said_of m)) (gave_one (bare frag))) b.sides
    × (b ≡ record a { core = (refusing l.0 o a).core; sides = b.sides })
RefusesBack log_entry a b = ⊥

-- ---- laws

-- by each log entry of a core: what the machine makes of the cut, or an opening that turns back is refused
abbrev pub CutMakes : List Service → LogEntry → CoreCut → CoreCut → Type 0
CutMakes services log_entry a b = CutDoes services log_entry a b ⊎ RefusesBack log_entry a b

-- by those of a log, one after another
abbrev pub CutMakesAll : List Service → CoreCut → List LogEntry → CoreCut → Type 0
CutMakesAll services a [] b = b ≡ a
CutMakesAll services a (log_entry ∷ log) b = (m : CoreCut) × CutMakes services log_entry a m × CutMakesAll services m log b

-- what a core shows afterwards, and that it is as ready as it was
pub record Makes (services : List Service) (log : List LogEntry) (a : CoreCut) (t : TheRun TheSide) : Type 0 where
  pub after : CoreCut
  pub makes : CutMakesAll services a log after
  pub shows : ShowsCut after t
  pub ready : IsReady services after t

-- of a core that is ready
abbrev pub ReadyFollow : Type 0
ReadyFollow = (front : TheSide → Look) (jobs : List CoreJob) (services : List Service) (a : CoreCut) (s t : TheRun TheSide) (log : List LogEntry)
    → ShowsCut a s → IsReady services a s → Goes (shared front) jobs s log t → Makes services log a t

-- so are so many turns, by a log
pub record TurnsMake (front : TheSide → Look) (jobs : List CoreJob) (services : List Service) (a : CoreCut) (s t : TheRun TheSide) : Type 0 where
  pub log : List LogEntry
  pub happened : Goes (shared front) jobs s log t
  pub makes : Makes services log a t

abbrev pub ReadyTurnsFollow : Type 0
ReadyTurnsFollow = (front : TheSide → Look) (plan : TurnPlan) (jobs : List CoreJob) (k : ℕ) (services : List Service) (a : CoreCut) (s t : TheRun TheSide)
    → ShowsCut a s → IsReady services a s → Turned (shared front) plan jobs k s t → TurnsMake front jobs services a s t
