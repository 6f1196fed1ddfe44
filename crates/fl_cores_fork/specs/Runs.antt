-- A core as its thread is given it, and what comes of its run.
use Rattle.std.specs.Prelude.{ℕ, ◌≡◌, List, map, slice_get, Some}
use Rattle.fl_cores_table.specs.Seats.{TheCoresSeat as CounterSeat}
use Rattle.fl_ring.specs.SharedSeats.{front_seen}
use Rattle.fl_ring.specs.SharedSides.{TheSide, SharedPuts, SharedTakes}
use Rattle.fl_hop.specs.Joined.{Sound as IsTable}
use Rattle.fl_endpoint.specs.Accounts.{Sound as IsEnd}
use Rattle.fl_monitor.specs.Monitors.{HasOutboxes}
use Rattle.fl_core.specs.BoardSound.{IsBoard}
use Rattle.fl_core.specs.BoardView.{TheEndAtChannel}
use Rattle.fl_core.specs.Sound.{IsCore}
use Rattle.fl_core.specs.declared.core_job.CoreJob.{CoreJob}
use Rattle.fl_core_run.specs.declared.plan.TurnPlan.{TurnPlan}
use Rattle.fl_core_run.specs.declared.run.Part.{Part}
use Rattle.fl_core_run.specs.Run.{SideRelations, ways, TheRun}
use Rattle.fl_core_run.specs.OpeningStatus.{TheRunSeat}
use Rattle.fl_core_run.specs.Ran.{moment, task, CoreRan}

-- a core as its thread is given it
pub record TheCoreThread : Type 0 where
  pub run : TheRun TheSide
  pub plan : TurnPlan
  pub run_seat : TheRunSeat

-- what came of a core
pub record TheFinishedCore : Type 0 where
  pub run : TheRun TheSide
  pub run_seat : TheRunSeat
  pub part : Part

-- how sides of shared rings put, take, and what the last look saw
abbrev pub shared_ways : SideRelations TheSide
shared_ways = ways SharedPuts SharedTakes (λ (s : TheSide). front_seen s.peeked)

-- it ran, by its plan
abbrev pub RanTo : List CoreJob → ℕ → TheCoreThread → TheFinishedCore → Type 0
RanTo jobs limit s o = CoreRan shared_ways (task s.plan jobs limit) (moment s.run s.run_seat) o.part (moment o.run o.run_seat)

-- in the end it is sound: the core, its board, each of its ends and its table of circuits; and each link has its outbox
pub record IsLeftSound (o : TheFinishedCore) : Type 0 where
  pub core : IsCore o.run.core
  pub board : IsBoard o.run.core.board
  pub outboxes : HasOutboxes o.run.core.monitor
  pub ends : (place : ℕ) (seat : TheEndAtChannel) → slice_get o.run.core.board.seats place ≡ Some seat → IsEnd seat.end
  pub table : IsTable o.run.core.monitor.circuits

-- ---- all cores

-- by core, the seat that it has in the end
abbrev pub seats_left : List TheFinishedCore → List CounterSeat
seats_left outcomes = map (λ (o : TheFinishedCore). o.run_seat.seat) outcomes

-- and its sides of rings
abbrev pub sides_left : List TheFinishedCore → List (List TheSide)
sides_left outcomes = map (λ (o : TheFinishedCore). o.run.rings) outcomes
