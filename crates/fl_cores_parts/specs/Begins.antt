-- With what each core of a run begins: what a set-up made, and the jobs joined to it.
use Rattle.std.specs.Prelude.{ℕ, ◌≡◌, ◌==◌, suc, Bool, false, if◌then◌else◌, List, [], ◌∷◌, ◌++◌, map, length}
use Rattle.std.specs.List.{flat_map, range_with_len}
use Rattle.fl_base.specs.declared.identity.EndId.{EndId}
use Rattle.fl_base.specs.declared.identity.LinkId.{LinkId}
use Rattle.fl_base.specs.Given.{given}
use Rattle.fl_base.specs.Numbered.{link_id}
use Rattle.fl_compile.specs.Programs.{program_of}
use Rattle.fl_cores_table.specs.declared.table.CoresView.{CoresView}
use Rattle.fl_core.specs.View.{TheCore, client_of, server_of}
use Rattle.fl_core.specs.Numbers.{renumbered}
use Rattle.fl_core.specs.Hearing.{Offers}
use Rattle.fl_world_refines.specs.declared.parts.Parts.{Parts}
use Rattle.fl_core_run.specs.declared.opening_status.OpeningStatus.{OpeningStatus}
use Rattle.fl_core_run.specs.declared.opening_status.OpeningStatus.TheVariants.{Tells, Hears}
use Rattle.fl_core_run.specs.EndProgress.{TheEndProgress}
use Rattle.fl_core_run.specs.OpeningStatus.{word_by}
use Rattle.fl_cores_jobs.specs.declared.end_work.BindingCores.{BindingCores}
use Rattle.fl_cores_jobs.specs.EndWork.{TheEndWork, end_work_at}
use Rattle.fl_cores_jobs.specs.State.{TheJoinedJobs}
use Rattle.fl_cores_jobs.specs.Joined.{core_at}
use Rattle.fl_cores_fork.specs.Runs.{TheCoreThread}

-- ---- ends, and what is known at the start at each of them

-- of binding n, the ends at this core, the client's first
abbrev pub ends_at : ℕ → ℕ → BindingCores → List EndId
ends_at core n b = (if b.client == core then client_of n ∷ [] else []) ++ (if b.server == core then server_of n ∷ [] else [])

-- those of bindings, of which the first has number n
abbrev pub ends_from : ℕ → ℕ → List BindingCores → List EndId
ends_from core n [] = []
ends_from core n (b ∷ bindings) = ends_at core n b ++ ends_from core (suc n) bindings

-- of a binding, the words of its ends at this core, the client's first
abbrev pub words_at : ℕ → BindingCores → List OpeningStatus
words_at core b =
    (if b.client == core then word_by Tells b.opened ∷ [] else [])
    ++ (if b.server == core then word_by Hears b.opened ∷ [] else [])

abbrev pub words_of : ℕ → List BindingCores → List OpeningStatus
words_of core bindings = flat_map (words_at core) bindings

-- ---- links

-- so many links of one core, in order of their making
abbrev pub links_below : ℕ → List LinkId
links_below count = map link_id (range_with_len 0 count)

-- ---- seats

-- a core's own, where these are the cores of the jobs that open
pub record IsAlone (clients : List ℕ) (core : ℕ) (v : CoresView) : Type 0 where
  pub seats : v.seats ≡ 1
  pub cores : v.cores ≡ core ∷ []
  pub finished : v.finished ≡ 0
  pub stopped : v.stopped ≡ 0
  pub stored : v.stored ≡ []
  pub owners : v.owners ≡ clients

-- ---- ends' progress

-- whether an end is this core's
abbrev pub owns : ℕ → List BindingCores → EndId → Bool
owns core bindings e = given (core_at bindings e) false λ c. c == core

-- that of an end: with the jobs of its end's work, where that end is this core's
abbrev pub progress_by : Bool → TheEndWork → TheEndProgress
progress_by own d = record { jobs = if own then d.jobs else []; done = 0; due = d.due; handled = []; refused = 0 }

abbrev pub progress_for : ℕ → TheJoinedJobs → EndId → TheEndProgress
progress_for core j e = progress_by (owns core j.bindings e) (end_work_at j.end_works e)

-- those of a binding's two ends, and those of all
abbrev pub two_progresses : ℕ → TheJoinedJobs → ℕ → List TheEndProgress
two_progresses core j n = progress_for core j (client_of n) ∷ progress_for core j (server_of n) ∷ []

abbrev pub progresses_of : ℕ → TheJoinedJobs → List TheEndProgress
progresses_of core j = flat_map (two_progresses core j) (range_with_len 0 (length j.bindings))

-- ---- the whole

-- the numbers by which cores name sides of rings and queues from now on: by number in the set-up, the place among those of its core
pub record Places : Type 0 where
  pub sides : List ℕ
  pub queues : List ℕ

-- what all core threads are made of, but for what is each core's own
pub record TheCoreInputs : Type 0 where
  pub cores : ℕ
  pub joined : TheJoinedJobs
  pub offers : Offers
  pub places : Places

-- the core thread of this core
pub record IsCoreThread (c : TheCoreInputs) (core : ℕ) (k : TheCore) (s : TheCoreThread) : Type 0 where
  pub core_is : s.run.core ≡ renumbered c.places.sides c.places.queues k
  pub progresses : s.run.progresses ≡ progresses_of core c.joined
  pub names : s.run.offers.names ≡ c.offers.names
  pub programs : map program_of s.run.offers.programs ≡ map program_of c.offers.programs
  -- its turns go over each of its links, once
  pub links : s.plan.links.items ≡ links_below (length k.link_sides)
  pub ends : s.plan.ends.items ≡ ends_from core 0 c.joined.bindings
  pub dispatchers : s.plan.dispatchers ≡ length k.board.dispatchers
  pub cores : s.plan.cores ≡ c.cores
  pub words : s.run_seat.words ≡ words_of core c.joined.bindings
  pub seat : IsAlone c.joined.owners core s.run_seat.seat.knows

-- from core n on there is one for each of these cores
abbrev pub AreCoreThreads : TheCoreInputs → ℕ → List TheCore → List TheCoreThread → Type 0
AreCoreThreads c n [] [] = Unit {0}
AreCoreThreads c n (k ∷ cores) (s ∷ core_threads) = IsCoreThread c n k s × AreCoreThreads c (suc n) cores core_threads
AreCoreThreads c n cores core_threads = ⊥

-- of what a set-up made, and the jobs joined to it
abbrev pub common_in : Parts → TheJoinedJobs → Places → TheCoreInputs
common_in p j at = record {
  cores = length p.cores.items;
  joined = j;
  offers = record { names = p.names; programs = p.programs.items };
  places = at;
}
