-- A working file, on which no public promise rests by itself: how cores are made core threads, each with a seat cut off everybody's, as the code has them.
use Rattle.std.specs.Prelude.{ℕ, ◌≡◌, ◌+◌, ◌-◌, ◌<◌, List, [], ◌∷◌, ◌++◌, map, length}
use Rattle.std.specs.List.{range_with_len}
use Rattle.fl_cores_table.specs.declared.table.CoresView.{CoresView}
use Rattle.fl_cores_table.specs.Counter.{opening_view, both, core_alone, without_core}
use Rattle.fl_cores_table.specs.Seats.{TheCoresSeat, knowing}
use Rattle.fl_link.specs.Queue.{TheQueue}
use Rattle.fl_history_sides.specs.declared.sides.HistorySides.{HistorySides}
use Rattle.fl_core.specs.View.{TheCore}
use Rattle.fl_cores_jobs.specs.State.{joined_of}
use Rattle.fl_cores_fork.specs.declared.core_thread.CoreThread.{CoreThread}
use Rattle.fl_cores_fork.specs.Runs.{TheCoreThread}
use Rattle.fl_cores_fork.specs.CoreThreads.{IsReady, core_thread_of}
use Rattle.fl_cores_parts.specs.declared.wiring.CoreInputs.{CoreInputs}
use Rattle.fl_cores_parts.specs.Begins.{TheCoreInputs, IsCoreThread}

abbrev pub common_of : CoreInputs → TheCoreInputs
common_of c = record {
  cores = c.cores;
  joined = joined_of c.joined.now;
  offers = record { names = c.names.now; programs = c.programs.now };
  places = record { sides = c.sides.now; queues = c.queues.now };
}

-- ---- one core

-- a core, and its share of the sides and queues
pub record CoreShare : Type 0 where
  pub core : TheCore
  pub rings : HistorySides
  pub queues : List TheQueue

abbrev pub core_share : TheCore → HistorySides → List TheQueue → CoreShare
core_share core rings queues = record { core = core; rings = rings; queues = queues }

-- everybody's seat, and the core threads that were made so far, each with a seat cut off it
pub record Stationed : Type 0 where
  pub own : TheCoresSeat
  pub core_threads : List CoreThread

abbrev pub stationed : TheCoresSeat → List CoreThread → Stationed
stationed own core_threads = record { own = own; core_threads = core_threads }

-- a core thread of the next core stands behind the others
pub record AddsCoreThread (c : TheCoreInputs) (x : CoreShare) (before after : Stationed) : Type 0 where
  pub core_thread : CoreThread
  pub added : after.core_threads ≡ before.core_threads ++ core_thread ∷ []
  pub ready : IsReady core_thread
  pub begins : IsCoreThread c (length before.core_threads) x.core (core_thread_of core_thread)
  pub seat : core_thread.run_seat.seat ≡ knowing before.own (core_alone before.own.knows)
  pub left : after.own ≡ knowing before.own (without_core before.own.knows)
  pub rings_are : core_thread.running.value.rings ≡ x.rings
  pub queues_are : core_thread.running.value.queues.items ≡ x.queues

-- ---- seats

-- by core, the seat that it was given
abbrev pub seats_given : List TheCoreThread → List TheCoresSeat
seats_given core_threads = map (λ (s : TheCoreThread). s.run_seat.seat) core_threads

-- these are of one table with this seat, and each stands for one core
abbrev pub AreSeats : TheCoresSeat → List TheCoresSeat → Type 0
AreSeats own [] = Unit {0}
AreSeats own (s ∷ seats) = (s.table ≡ own.table) × (s.knows.seats ≡ 1) × AreSeats own seats

-- what is known once all of these are put in one
abbrev pub all_in : CoresView → List TheCoresSeat → CoresView
all_in v [] = v
all_in v (s ∷ seats) = all_in (both v s.knows) seats

-- with these a seat is everybody's, of a table for so many jobs that open a binding; itself it told and heard nothing
pub record IsRest (own : TheCoresSeat) (jobs : ℕ) (seats : List TheCoresSeat) : Type 0 where
  pub some : 0 < own.knows.seats
  pub all : own.knows.seats + length seats ≡ own.knows.whole
  pub jobs_are : length own.knows.owners ≡ jobs
  pub told : own.knows.stored ≡ []
  pub heard : own.knows.heard ≡ []
  pub each : AreSeats own seats

-- what is left of everybody's seat once those of the first k cores are cut off
abbrev pub left_view : ℕ → List ℕ → ℕ → CoresView
left_view cores owners k = record (opening_view cores owners) { seats = cores + 1 - k; cores = range_with_len k (cores - k) }
