-- What is promised of a run of cores, beside what its report will be shown to say of calls.
use Rattle.std.specs.Prelude.{ℕ, ◌≡◌, ◌⊎◌, ◌+◌, Bool, true, false, not, List, ◌++◌, length, take, Option, Some, None, position}
use Rattle.std.specs.List.{list_all}
use Rattle.fl_model.specs.Events.{Event}
use Rattle.fl_model.specs.declared.event.Event.{Event as RustEvent}
use Rattle.fl_model.specs.Views.{event_of}
use Rattle.fl_model.specs.Runs.{answers_to, reached}
use Rattle.fl_model.specs.Worlds.{start_with}
use Rattle.fl_world_refines.specs.View.{TheWorld}
use Rattle.fl_cores_file.specs.Jobs.{Job}
use Rattle.fl_cores_file.specs.CoresFile.{CoresFile, FileOutcome, Reads, is_file, refused_at}
use Rattle.fl_cores_file.specs.Report.{TheReport, Ending, complete, turns_out}
use Rattle.fl_cores_parts.specs.declared.fault.RunFault.TheVariants as run
use Rattle.fl_cores_file_laws.specs.SetUps.{sets_up}
use Rattle.fl_cores_jobs.specs.Whole.{RefusedAt}
use Rattle.fl_cores_parts.specs.Faults.{IsRunFault}
use Rattle.fl_cores_parts.specs.Ran.{Keeps, RanFrom}
use Rattle.fl_cores_file.specs.Printed.{refusal_text, report_text}
use Rattle.fl_world.specs.declared.booting.BootFault.TheVariants as boot
use Rattle.fl_world_refines.specs.declared.parts.Parts.{Parts}
use Rattle.fl_world_refines.specs.Apart.{AreParts}
use Rattle.fl_world.specs.Booting.{TheConfig, has_bad_cores, passes, Stands, AcceptsAll, IsFaultOf}
use Rattle.fl_cores.specs.declared.fault.CoresFault.{CoresFault}
use Rattle.fl_cores.specs.declared.fault.CoresFault.TheVariants as fault
use Rattle.fl_cores.specs.declared.text.CoresEnd.{CoresEnd}
use Rattle.fl_cores.specs.declared.text.CoresEnd.TheVariants as end

-- ---- a set-up

-- an event that isn't of a set-up; the number of cores is the configuration's
abbrev pub is_other : Event → Bool
is_other event = not (sets_up event)

abbrev pub asks_other : RustEvent → Bool
asks_other event = is_other (event_of event)

-- the number of cores that the machine has behind a set-up
abbrev pub cores_by : TheConfig → ℕ
cores_by c = length (reached (start_with c.cores) c.setup).cores

-- a set-up is accepted: so many cores there may be, each event is of a set-up, and the machine refuses none
pub record IsAccepted (c : TheConfig) : Type 0 where
  pub cores : has_bad_cores c ≡ false
  pub making : position is_other c.setup ≡ None
  pub passed : list_all passes (answers_to (start_with c.cores) c.setup) ≡ true

-- ---- a report

-- the set-up makes a world of these parts
pub record Made (c : TheConfig) (p : Parts) : Type 0 where
  pub world : TheWorld
  pub stands : Stands c world
  pub parts : AreParts world p

-- so what the set-up makes ran, with these jobs
pub record Ran (c : TheConfig) (jobs : List Job) (limit : ℕ) (r : TheReport) : Type 0 where
  pub parts : Parts
  pub made : Made c parts
  pub ran : RanFrom parts jobs limit r

-- the set-up was accepted, and this is a report of a run of so many cores as it makes
pub record Reports (c : TheConfig) (jobs : List Job) (limit : ℕ) (r : TheReport) : Type 0 where
  pub accepted : IsAccepted c
  pub keeps : Keeps (cores_by c) limit r
  pub ran : Ran c jobs limit r

-- ---- why there is none

-- its events before this one
abbrev pub front_of : TheConfig → ℕ → TheConfig
front_of c n = record { cores = c.cores; setup = take n c.setup }

-- the machine refuses none of the events before this one, which isn't of a set-up: it is refused (E93)
pub record RefusesOther (c : TheConfig) (n number place : ℕ) : Type 0 where
  pub accepts : AcceptsAll (front_of c n)
  pub number_is : number ≡ 93
  pub place_is : place ≡ n + 1

-- the first refusal, by where the first event that isn't of a set-up stands, if there is one: the machine's of an event before it, or else that event's
abbrev pub IsRefusedAt : TheConfig → ℕ → ℕ → Option ℕ → Type 0
IsRefusedAt c number place None = IsFaultOf c (boot.Refused number place)
IsRefusedAt c number place (Some n) = IsFaultOf (front_of c n) (boot.Refused number place) ⊎ RefusesOther c n number place

abbrev pub IsRefused : TheConfig → ℕ → ℕ → Type 0
IsRefused c number place = IsRefusedAt c number place (position is_other c.setup)

-- the set-up is accepted, and by what it makes the job at this place, from 1, is the first of these that has a fault, with this number
pub record RefusesJob (c : TheConfig) (jobs : List Job) (number place : ℕ) : Type 0 where
  pub accepted : IsAccepted c
  pub parts : Parts
  pub made : Made c parts
  pub refused : RefusedAt parts jobs number place

-- the set-up is accepted, and by what it makes none of these jobs has a fault: what may be told where a thread doesn't start
pub record LacksThread (c : TheConfig) (jobs : List Job) : Type 0 where
  pub accepted : IsAccepted c
  pub parts : Parts
  pub made : Made c parts
  pub passed : IsRunFault parts jobs run.Thread

-- a job is refused only where the set-up isn't, a thread only where no job is either; and memory only where there may be so many cores, from 1 to 16:
-- no more is known of it then, since it may be refused for the first thing that is made
abbrev pub IsFault : TheConfig → List Job → CoresFault → Type 0
IsFault c jobs (fault.Setup number place) = IsRefused c number place
IsFault c jobs (fault.Job number place) = RefusesJob c jobs number place
IsFault c jobs fault.Memory = has_bad_cores c ≡ false
IsFault c jobs fault.Thread = LacksThread c jobs

-- where no thread is started none is wanted
abbrev pub WantsNoThread : CoresFault → Type 0
WantsNoThread (fault.Setup number place) = Unit {0}
WantsNoThread (fault.Job number place) = Unit {0}
WantsNoThread fault.Memory = Unit {0}
WantsNoThread fault.Thread = ⊥

-- a fault behind the set-up that made these parts: no public promise names it by itself
abbrev pub IsLater : Parts → List Job → CoresFault → Type 0
IsLater p jobs (fault.Setup number place) = ⊥
IsLater p jobs (fault.Job number place) = IsRunFault p jobs (run.Refused number place)
IsLater p jobs fault.Memory = IsRunFault p jobs run.Memory
IsLater p jobs fault.Thread = IsRunFault p jobs run.Thread

-- ---- a cores file

abbrev pub config_in : CoresFile → TheConfig
config_in f = record { cores = f.cores; setup = f.setup }

abbrev pub ending_by : Ending → CoresEnd
ending_by complete = end.Complete
ending_by turns_out = end.TurnsOut

-- behind what stood there its report is told
pub record AppendsReport (file : CoresFile) (limit : ℕ) (e : CoresEnd) (before after : List ℕ) : Type 0 where
  pub report : TheReport
  pub reports : Reports (config_in file) file.jobs limit report
  pub ending : e ≡ ending_by report.ending
  pub rest : after ≡ before ++ report_text file report

-- or the line that is refused
pub record AppendsRefusal (line number : ℕ) (e : CoresEnd) (before after : List ℕ) : Type 0 where
  pub ending : e ≡ end.Refused
  pub rest : after ≡ before ++ refusal_text line number

abbrev pub AppendsFor : FileOutcome → ℕ → CoresEnd → List ℕ → List ℕ → Type 0
AppendsFor (is_file file) limit e before after = AppendsReport file limit e before after
AppendsFor (refused_at line number) limit e before after = AppendsRefusal line number e before after

-- whatever a text comes to
pub record Appends (text : List ℕ) (limit : ℕ) (e : CoresEnd) (before after : List ℕ) : Type 0 where
  pub outcome : FileOutcome
  pub reads : Reads text outcome
  pub appends : AppendsFor outcome limit e before after

-- ---- why nothing is told of a text

-- it is a cores file, of which this is what may be told where a thread doesn't start
pub record FileLacksThread (text : List ℕ) : Type 0 where
  pub file : CoresFile
  pub reads : Reads text (is_file file)
  pub lacks : LacksThread (config_in file) file.jobs

-- out of memory may be told of any text, since memory is wanted to read it and to print what is told of it; of a cores file no event of the set-up is
-- refused, and no job
abbrev pub IsFaultOfText : List ℕ → CoresFault → Type 0
IsFaultOfText text (fault.Setup number place) = ⊥
IsFaultOfText text (fault.Job number place) = ⊥
IsFaultOfText text fault.Memory = Unit {0}
IsFaultOfText text fault.Thread = FileLacksThread text
