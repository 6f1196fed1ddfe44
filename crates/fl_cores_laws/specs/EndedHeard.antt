-- What cores hear of refused openings was told. Law.
use Rattle.std.specs.Prelude.{ℕ, ◌≡◌, ◌≢◌, ◌⊎◌, List, [], ◌∷◌, slice_get, Some}
use Rattle.fl_cores_table.specs.declared.table.OpeningRefusal.{OpeningRefusal}
use Rattle.fl_cores_table.specs.Counter.{Agrees, number_of}
use Rattle.fl_cores_jobs.specs.State.{TheJoinedJobs}
use Rattle.fl_cores_laws.specs.EndedCores.{OneCore}

-- this number of this job is among refusals that were told, or heard
abbrev pub Among : ℕ → ℕ → List OpeningRefusal → Type 0
Among job number [] = ⊥
Among job number (r ∷ rs) = ((r.job ≡ job) × (r.number ≡ number)) ⊎ Among job number rs

-- what a core had heard of a job that opens a binding by its point, if it wasn't 0, a core had told of the job by its own
abbrev pub HeardIsTold : TheJoinedJobs → List OneCore → Type 0
HeardIsTold j cores = (n job number owner : ℕ) (c : OneCore) → slice_get cores n ≡ Some c → slice_get j.owners job ≡ Some owner → number ≢ 0
    → Among job number c.point.run_seat.seat.knows.heard
    → (m : ℕ) × (d : OneCore) × (told : ℕ) × (slice_get cores m ≡ Some d) × Among job told d.point.run_seat.seat.knows.stored

-- all that cores had told and heard, as one seat knows it once all are put in one (`EndSeat::join` of fl_cores_table)
pub record AreTogether (cores : List OneCore) (stored heard : List OpeningRefusal) : Type 0 where
  pub heard_all : (n job number : ℕ) (c : OneCore) → slice_get cores n ≡ Some c → Among job number c.point.run_seat.seat.knows.heard
      → Among job number heard
  pub told_by : (job told : ℕ) → Among job told stored
      → (m : ℕ) × (d : OneCore) × (slice_get cores m ≡ Some d) × Among job told d.point.run_seat.seat.knows.stored

-- where of each job what was heard is 0, or just what was told (`EndSeat::refusal`), what was heard is told
abbrev pub TablesTell : Type 0
TablesTell = (j : TheJoinedJobs) (cores : List OneCore) (stored heard : List OpeningRefusal) → AreTogether cores stored heard
    → ((job owner : ℕ) → slice_get j.owners job ≡ Some owner → Agrees job (number_of job stored) heard) → HeardIsTold j cores
