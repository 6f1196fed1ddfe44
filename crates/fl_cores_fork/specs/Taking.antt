-- What stays where it is while the calls of a report are moved into it. The contract of `tell` names `HavePlaces` and `with_jobs`; no
-- promise of a crate above rests on this file by itself.
use Rattle.std.specs.Prelude.{ℕ, ◌≡◌, ◌≢◌, ◌≤◌, ◌<◌, List, map, slice_get, Some}
use Rattle.fl_base.specs.declared.identity.EndId.{EndId}
use Rattle.fl_core.specs.View.{slot_of}
use Rattle.fl_core.specs.declared.core_job.CoreJob.{CoreJob}
use Rattle.fl_cores_jobs.specs.EndWork.{TheEndWork, end_work_at, end_of, places_of}
use Rattle.fl_cores_jobs.specs.State.{TheJoinedJobs}
use Rattle.fl_cores_fork.specs.Runs.{TheFinishedCore}

-- of what came of a core: from this place on its ends' progress are as they were, and so is its seat
pub record KeepsFrom (place : ℕ) (o o2 : TheFinishedCore) : Type 0 where
  pub progresses : (n : ℕ) → place ≤ n → slice_get o2.run.progresses n ≡ slice_get o.run.progresses n
  pub seat : o2.run_seat.seat ≡ o.run_seat.seat

-- ---- jobs

-- none of these places stands in them twice
abbrev pub AreOnce : List ℕ → Type 0
AreOnce places = (i k place : ℕ) → i < k → slice_get places k ≡ Some place → slice_get places i ≢ Some place

-- each job is done at its end still, and all but those at the first so many of these places are as they were
pub record KeepsOthers (places : List ℕ) (count : ℕ) (jobs jobs2 : List CoreJob) : Type 0 where
  pub ends : map end_of jobs2 ≡ map end_of jobs
  pub others : (n : ℕ) → ((i : ℕ) → i < count → slice_get places i ≢ Some n) → slice_get jobs2 n ≡ slice_get jobs n

-- each is done at its end still, and those of the ends whose ends' progress have this place, or one behind it, are as they were
pub record KeepsJobs (place : ℕ) (jobs jobs2 : List CoreJob) : Type 0 where
  pub ends : map end_of jobs2 ≡ map end_of jobs
  pub from : (n : ℕ) (job : CoreJob) → slice_get jobs n ≡ Some job → place ≤ slot_of (end_of job) → slice_get jobs2 n ≡ Some job

-- the end's work of each end has the places of the jobs that are done there
abbrev pub HavePlaces : List TheEndWork → List CoreJob → Type 0
HavePlaces end_works jobs = (e : EndId) → (end_work_at end_works e).jobs ≡ places_of e 0 jobs

-- what was joined, with these jobs
abbrev pub with_jobs : List CoreJob → TheJoinedJobs → TheJoinedJobs
with_jobs jobs j = record j { jobs = jobs }
