-- A core's whole run: turns that are counted, and then turns that aren't.
use Rattle.std.specs.Prelude.{ℕ, ◌≡◌, ◌⊎◌, ◌<◌, ◌≤◌, Bool, true, false, List}
use Rattle.fl_cores_table.specs.Counter.{with_finish, with_seen}
use Rattle.fl_cores_table.specs.Seats.{TheCoresSeat, knowing}
use Rattle.fl_core.specs.declared.core_job.CoreJob.{CoreJob}
use Rattle.fl_core_run.specs.declared.plan.TurnPlan.{TurnPlan}
use Rattle.fl_core_run.specs.declared.run_seat.RunSeat.{RunSeat}
use Rattle.fl_core_run.specs.declared.run.RunEnd.{RunEnd}
use Rattle.fl_core_run.specs.declared.run.RunEnd.TheVariants.{Finished, Unfinished, Told}
use Rattle.fl_core_run.specs.declared.run.Part.{Part}
use Rattle.fl_core_run.specs.Run.{SideRelations, TheRun}
use Rattle.fl_core_run.specs.Turn.{Swept, OneTurn, Turned}
use Rattle.fl_core_run.specs.OpeningStatus.{TheRunSeat, ExchangesAll, SaidNothing}
use Rattle.fl_core_run.specs.Finished.{is_finished}

abbrev pub run_seat_of : RunSeat → TheRunSeat
run_seat_of t = record { words = t.words.items; seat = t.seat }

-- what a core is given: what its turns go over, the jobs, and how many turns are counted
pub record RunTask : Type 0 where
  pub plan : TurnPlan
  pub jobs : List CoreJob
  pub limit : ℕ

abbrev pub task : TurnPlan → List CoreJob → ℕ → RunTask
task plan jobs limit = record { plan = plan; jobs = jobs; limit = limit }

-- a core at one moment, with what it holds of the run's table
pub record RunMoment (S : Type 0) : Type 0 where
  pub run : TheRun S
  pub run_seat : TheRunSeat

abbrev pub moment : {S : Type 0} → TheRun S → TheRunSeat → RunMoment S
moment run run_seat = record { run = run; run_seat = run_seat }

-- ---- counted turns

abbrev pub is_unfinished : RunEnd → Bool
is_unfinished Unfinished = true
is_unfinished end = false

abbrev pub is_told : RunEnd → Bool
is_told Told = true
is_told end = false

-- refusals are told and learned, and then something is left to do, or nothing is
abbrev pub TakesStock : {S : Type 0} → TurnPlan → RunMoment S → TheRunSeat → Bool → Type 0
TakesStock plan a c finished = ExchangesAll a.run plan.ends.items a.run_seat c × (is_finished a.run plan.ends.items c.words ≡ finished)

-- the counter was looked at, and showed this
abbrev pub Sees : TheRunSeat → ℕ → TheRunSeat → Type 0
Sees c count d = (d.words ≡ c.words) × (d.seat ≡ knowing c.seat (with_seen c.seat.knows count))

-- a turn that is counted: something was left to do, and no stop was seen
pub record CountedTurn {S : Type 0} (w : SideRelations S) (t : RunTask) (a b : RunMoment S) : Type 0 where
  pub stock : TheRunSeat
  pub left : TakesStock t.plan a stock false
  pub count : ℕ
  pub sees : Sees stock count b.run_seat
  pub no_stop : count < 17
  pub turn : OneTurn w t.plan t.jobs a.run b.run

-- how they came to an end, after so many: with nothing left to do; at the limit, with something left; or by a stop that was seen
abbrev pub EndsAs : {S : Type 0} → RunTask → ℕ → RunEnd → RunMoment S → TheRunSeat → Type 0
EndsAs t turns Finished a c = TakesStock t.plan a c true
EndsAs t turns Unfinished a c = (turns ≡ t.limit) × TakesStock t.plan a c false
EndsAs t turns Told a d = (c : TheRunSeat) × (count : ℕ) × TakesStock t.plan a c false × Sees c count d × (16 < count)

-- so many turns, no more than the limit; afterwards the core rests
pub record Counted {S : Type 0} (w : SideRelations S) (t : RunTask) (a : RunMoment S) (part : Part) (b : RunMoment S) : Type 0 where
  pub after : RunMoment S
  pub turns : Swept (λ n. CountedTurn w t) part.turns a after
  pub few : part.turns ≤ t.limit
  pub ends : EndsAs t part.turns part.end after b.run_seat
  pub rests : b.run ≡ after.run
  pub seat : SaidNothing a.run_seat.seat b.run_seat.seat

-- ---- what follows

-- what is told of the end: a core that finished or reached its limit counts 1
abbrev pub TellsEnd : RunEnd → TheCoresSeat → TheCoresSeat → Type 0
TellsEnd Told v u = u ≡ v
TellsEnd end v u = u ≡ knowing v (with_finish v.knows)

-- turns that nobody counts
abbrev pub SomeTurns : {S : Type 0} → SideRelations S → TurnPlan → List CoreJob → TheRun S → TheRun S → Type 0
SomeTurns w plan jobs s t = (more : ℕ) × Turned w plan jobs more s t

-- they follow where nothing was left to do, as long as other cores run
abbrev pub GoesOn : {S : Type 0} → SideRelations S → RunTask → RunEnd → TheRun S → TheRun S → Type 0
GoesOn w t Finished s u = SomeTurns w t.plan t.jobs s u
GoesOn w t end s u = u ≡ s

-- until the counter shows that all cores have ended, or that one stopped
abbrev pub HaveEnded : ℕ → ℕ → Type 0
HaveEnded cores count = (count ≡ cores) ⊎ (16 < count)

-- ---- the whole

pub record CoreRan {S : Type 0} (w : SideRelations S) (t : RunTask) (a : RunMoment S) (part : Part) (b : RunMoment S) : Type 0 where
  -- the point at which the counted turns came to an end
  pub middle : RunMoment S
  pub counted : Counted w t a part middle
  pub told : TheCoresSeat
  pub tells : TellsEnd part.end middle.run_seat.seat told
  pub goes_on : GoesOn w t part.end middle.run b.run
  pub after : SaidNothing told b.run_seat.seat
  pub stored : b.run_seat.seat.knows.stored ≡ told.knows.stored
  pub heard : b.run_seat.seat.knows.heard ≡ told.knows.heard
  -- a core that finished saw at last that all had ended, or that one stopped
  pub others : part.end ≡ Finished → HaveEnded t.plan.cores b.run_seat.seat.knows.seen
