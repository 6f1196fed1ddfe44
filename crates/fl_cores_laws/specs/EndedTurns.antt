-- What a report tells of turns, and of how a run came to its end. Law.
use Rattle.std.specs.Prelude.{ℕ, ◌≡◌, ◌≤◌, Bool, false, if◌then◌else◌, List, map, length, slice_get, Some}
use Rattle.std.specs.List.{list_any}
use Rattle.fl_core.specs.declared.core_job.CoreJob.{CoreJob}
use Rattle.fl_core_run.specs.declared.run.RunEnd.TheVariants.{Unfinished}
use Rattle.fl_cores_file.specs.Report.{TheReport, complete, turns_out}
use Rattle.fl_core_run.specs.Ran.{is_told, is_unfinished}
use Rattle.fl_cores_laws.specs.EndedCores.{OneCore, AllWent}

abbrev pub left_off : OneCore → Bool
left_off c = is_unfinished c.part.end

abbrev pub was_told : OneCore → Bool
was_told c = is_told c.part.end

-- of each core it tells the counted turns; none was told of a stop, and it is `complete` just where none left off
pub record TellsTurns (cores : List OneCore) (r : TheReport) : Type 0 where
  pub turns : r.turns ≡ map (λ (c : OneCore). c.part.turns) cores
  pub none_told : list_any was_told cores ≡ false
  pub ending : r.ending ≡ (if list_any left_off cores then turns_out else complete)

-- a core that hadn't finished when all its turns were taken
pub record RanOut (cores : List OneCore) (limit : ℕ) (r : TheReport) : Type 0 where
  pub place : ℕ
  pub core : OneCore
  pub core_is : slice_get cores place ≡ Some core
  pub unfinished : core.part.end ≡ Unfinished
  pub turns : slice_get r.turns place ≡ Some limit

pub record KeepsTurns (cores : List OneCore) (limit : ℕ) (r : TheReport) : Type 0 where
  -- there are as many turns as cores, and none above the limit
  pub count : length r.turns ≡ length cores
  pub within : (core turns : ℕ) → slice_get r.turns core ≡ Some turns → turns ≤ limit
  -- `turns out` only where turns ran out
  pub out : r.ending ≡ turns_out → RanOut cores limit r

abbrev pub TurnsAreKept : Type 0
TurnsAreKept = (jobs : List CoreJob) (limit : ℕ) (cores : List OneCore) (r : TheReport) → AllWent jobs limit cores → TellsTurns cores r
    → KeepsTurns cores limit r
