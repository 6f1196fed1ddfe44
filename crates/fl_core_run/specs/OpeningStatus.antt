-- What a core tells of refused openings by the words of the run's table, and learns by them, between its turns.
use Rattle.std.specs.Prelude.{ℕ, ◌≡◌, ◌<◌, ◌==◌, Bool, true, false, if◌then◌else◌, List, length, slice_get, slice_set, Option, Some, None}
use Rattle.fl_base.specs.declared.identity.EndId.{EndId}
use Rattle.fl_base.specs.Given.{given}
use Rattle.fl_core.specs.View.{place_of}
use Rattle.fl_cores_table.specs.declared.table.CoresView.{CoresView}
use Rattle.fl_cores_table.specs.Counter.{MayTell, Agrees, with_stored, with_heard}
use Rattle.fl_cores_table.specs.Seats.{TheCoresSeat, knowing}
use Rattle.fl_core_run.specs.declared.opening_status.OpeningStatus.{OpeningStatus}
use Rattle.fl_core_run.specs.declared.opening_status.OpeningStatus.TheVariants.{Silent, Tells, Hears, Refused}
use Rattle.fl_core_run.specs.EndProgress.{progress_place}
use Rattle.fl_core_run.specs.Run.{TheRun}
use Rattle.fl_core_run.specs.Turn.{Swept}

-- the number with which the opening of an end's binding was refused, by its end's progress; 0 where it wasn't
abbrev pub refusal_at : {S : Type 0} → TheRun S → EndId → ℕ
refusal_at s name =
    given (progress_place s.progresses name) 0 λ n.
    given (slice_get s.progresses n) 0 λ progress.
    progress.refused

-- ---- one end

-- the word for a binding that a job opens, and for one that is set up
abbrev pub word_by : (ℕ → OpeningStatus) → Option ℕ → OpeningStatus
word_by word None = Silent
word_by word (Some job) = word job

-- the seat may do what the word is for: tell of the job, which it hasn't, or ask for it
abbrev pub MayUse : OpeningStatus → CoresView → Type 0
MayUse Silent v = Unit {0}
MayUse (Tells job) v = (job < length v.owners) × MayTell v job
MayUse (Hears job) v = job < length v.owners
MayUse (Refused number) v = Unit {0}

-- a refusal is stored, where there is one, which isn't of number 0
abbrev pub TellsIf : Bool → ℕ → ℕ → TheCoresSeat → OpeningStatus → TheCoresSeat → Type 0
TellsIf true job number v word v2 = (word ≡ Tells job) × (v2 ≡ v)
TellsIf false job number v word v2 = (word ≡ Refused number) × (v2 ≡ knowing v (with_stored v.knows job number))

abbrev pub TellsOf : ℕ → ℕ → TheCoresSeat → OpeningStatus → TheCoresSeat → Type 0
TellsOf job number v word v2 = TellsIf (number == 0) job number v word v2

-- a job's word is loaded, where the end isn't there
abbrev pub HearsOf : ℕ → Option ℕ → TheCoresSeat → OpeningStatus → TheCoresSeat → Type 0
HearsOf job (Some e) v word v2 = (word ≡ Hears job) × (v2 ≡ v)
HearsOf job None v word v2 =
    (number : ℕ) × (v2 ≡ knowing v (with_heard v.knows job number)) × Agrees job number v.knows.heard
    × (word ≡ (if number == 0 then Hears job else Refused number))

abbrev pub Exchanges : {S : Type 0} → TheRun S → EndId → OpeningStatus → TheCoresSeat → OpeningStatus → TheCoresSeat → Type 0
Exchanges s name Silent v word v2 = (word ≡ Silent) × (v2 ≡ v)
Exchanges s name (Tells job) v word v2 = TellsOf job (refusal_at s name) v word v2
Exchanges s name (Hears job) v word v2 = HearsOf job (place_of s.core name) v word v2
Exchanges s name (Refused number) v word v2 = (word ≡ Refused number) × (v2 ≡ v)

-- ---- all ends

-- the words of a core's ends, and its seat
pub record TheRunSeat : Type 0 where
  pub words : List OpeningStatus
  pub seat : TheCoresSeat

abbrev pub stock : List OpeningStatus → TheCoresSeat → TheRunSeat
stock words seat = record { words = words; seat = seat }

-- the end at place k of the list exchanges
pub record ExchangesAt {S : Type 0} (s : TheRun S) (ends : List EndId) (k : ℕ) (a b : TheRunSeat) : Type 0 where
  pub name : EndId
  pub name_is : slice_get ends k ≡ Some name
  pub word : OpeningStatus
  pub word_is : slice_get a.words k ≡ Some word
  pub after : OpeningStatus
  pub exchanges : Exchanges s name word a.seat after b.seat
  pub rest : b.words ≡ slice_set a.words k after

abbrev pub ExchangesAll : {S : Type 0} → TheRun S → List EndId → TheRunSeat → TheRunSeat → Type 0
ExchangesAll s ends a b = Swept (ExchangesAt s ends) (length ends) a b

-- what is known of a core's words: each may be used, and no two tell of one job
pub record AreWords (words : List OpeningStatus) (v : CoresView) : Type 0 where
  pub may : (k : ℕ) (word : OpeningStatus) → slice_get words k ≡ Some word → MayUse word v
  pub apart : (k m job : ℕ) → slice_get words k ≡ Some (Tells job) → slice_get words m ≡ Some (Tells job) → k ≡ m

-- of a seat: it told nothing of an end meanwhile, and stands for the same cores
pub record SaidNothing (v u : TheCoresSeat) : Type 0 where
  pub table : u.table ≡ v.table
  pub seats : u.knows.seats ≡ v.knows.seats
  pub cores : u.knows.cores ≡ v.knows.cores
  pub finished : u.knows.finished ≡ v.knows.finished
  pub stopped : u.knows.stopped ≡ v.knows.stopped
