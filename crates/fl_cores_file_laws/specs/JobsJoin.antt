-- That a line that asks for a job is refused as that job is, where it is joined to what the file sets up; so no
-- job of a file is refused there. Law. Public promises rest on this file.
use Rattle.std.specs.Prelude.{ℕ, ◌≡◌, true, List, length, map, Option, Some, None}
use Rattle.std.specs.List.{list_all}
use Rattle.fl_model.specs.Events.{Event, bind, by_route, call, reply}
use Rattle.fl_model.specs.Runs.{reached}
use Rattle.fl_model.specs.Worlds.{start_with}
use Rattle.fl_world_refines.specs.Apart.{AreParts}
use Rattle.fl_world_refines.specs.ShowsState.{Shows}
use Rattle.fl_world_refines.specs.View.{TheWorld}
use Rattle.fl_world_refines.specs.declared.parts.Parts.{Parts}
use Rattle.fl_cores_file.specs.CoresFile.{CoresFile, is_file, Reads, which_opened, numbers_of, job_by}
use Rattle.fl_cores_file.specs.Draft.{Draft, takes}
use Rattle.fl_cores_file.specs.Jobs.{Job, opens, replies, calls}
use Rattle.fl_cores_file.specs.Verdicts.{LineVerdict, stops, goes_on}
use Rattle.fl_cores_jobs.specs.declared.fault.JobFault.TheVariants.{Refused}
use Rattle.fl_cores_jobs.specs.Whole.{AreTaken, NoneRefused, IsFault, job_fault}
use Rattle.fl_cores_file_laws.specs.SetUps.{sets_up, ComeTo, Passes}

-- a world that shows what the machine, with so many cores, makes of a set-up was taken apart into these parts
pub record PartsMadeBy (cores : ℕ) (setup : List Event) (p : Parts) : Type 0 where
  pub world : TheWorld
  pub shown : Shows world (reached (start_with cores) setup)
  pub parts : AreParts world p

-- ---- a set-up

-- where each event sets something up, and the machine refuses none: no binding has a fault where jobs are joined
abbrev pub SetUpsJoin : Type 0
SetUpsJoin = (cores : ℕ) (setup : List Event) → list_all sets_up setup ≡ true → Passes cores setup
    → (p : Parts) → PartsMadeBy cores setup p → AreTaken (length p.cores.items) p.bindings.items (length p.bindings.items)

-- ---- a line

-- the job that a line asks for; here an end names its binding by that one's place among the `bind` lines, from 0
abbrev pub job_asked : Event → Option Job
job_asked (bind client i name (by_route route)) =
    Some (opens (record { client = client; interface = i; service = name; route = route }))
job_asked (call e c) = Some (calls e c)
job_asked (reply e msg answer) = Some (replies e msg answer)
job_asked event = None

abbrev pub fault_told : LineVerdict Draft → Option ℕ
fault_told (stops fault) = Some fault
fault_told (goes_on d) = None

-- behind lines that came to this draft: one that asks for a job is refused with just the number for which the job
-- is refused behind the draft's jobs, joined to the parts that the draft sets up; where it isn't, neither is the line.
-- The numbers are those that bindings have if no line follows: a later `local` or `ump` line moves those of circuits
abbrev pub LinesJoin : Type 0
LinesJoin = (lines : List Event) (d : Draft) → ComeTo lines d → (p : Parts) → PartsMadeBy d.cores d.setup p
    → (v : Event) (job : Job) → job_asked v ≡ Some job
    → let numbers = numbers_of (which_opened d.bindings) in
    fault_told (takes v d) ≡ job_fault p (map (job_by numbers) d.jobs) (job_by numbers job)

-- ---- a file

-- joined to parts that its set-up makes: no binding of that has a fault, and no job, behind those before it
pub record AllJoin (file : CoresFile) (p : Parts) : Type 0 where
  pub bindings : AreTaken (length p.cores.items) p.bindings.items (length p.bindings.items)
  pub jobs : NoneRefused p file.jobs

abbrev pub FilesJoin : Type 0
FilesJoin = (text : List ℕ) (file : CoresFile) → Reads text (is_file file)
    → (p : Parts) → PartsMadeBy file.cores file.setup p → AllJoin file p

-- so no refusal is told where its jobs are joined
abbrev pub NoFileIsRefused : Type 0
NoFileIsRefused = (text : List ℕ) (file : CoresFile) → Reads text (is_file file)
    → (p : Parts) → PartsMadeBy file.cores file.setup p → (number place : ℕ) → IsFault p file.jobs (Refused number place) → ⊥
