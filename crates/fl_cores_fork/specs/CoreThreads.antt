-- A core as its thread is given it, and what comes of it, as the code has them. The contracts of `run_each` and `tell` name it;
-- promises of crates above rest on `shown_run` alone.
use Rattle.std.specs.Prelude.{ℕ, ◌≡◌, ◌<◌, Bool, List, [], ◌∷◌, map, length, None}
use Rattle.fl_ring.specs.SharedSides.{TheSide}
use Rattle.fl_core.specs.Sound.{IsCore}
use Rattle.fl_core.specs.declared.core_job.CoreJob.{CoreJob}
use Rattle.fl_core_run.specs.declared.plan.TurnPlan.{TurnPlan}
use Rattle.fl_core_run.specs.declared.run.Part.{Part}
use Rattle.fl_core_run.specs.declared.run_seat.RunSeat.{RunSeat}
use Rattle.fl_core_run.specs.declared.running.RunningCore.{RunningCore}
use Rattle.fl_core_run.specs.Run.{TheRun, run_by}
use Rattle.fl_core_run.specs.OpeningStatus.{AreWords}
use Rattle.fl_core_run.specs.Ran.{run_seat_of, moment, task, CoreRan}
use Rattle.fl_history_sides.specs.declared.sides.HistorySides.{HistorySides}
use Rattle.fl_history_sides.specs.States.{TheHistorySide}
use Rattle.fl_history_sides.specs.Lent.{states_in}
use Rattle.fl_history_sides.specs.Core.{AreOfOneCore}
use Rattle.fl_history_sides.specs.Ways.{history_ways}
use Rattle.fl_history_runs.specs.Shown.{shown_by}
use Rattle.fl_history_shares.specs.declared.noting_sides.NotingSides.{NotingSides}
use Rattle.fl_cores_fork.specs.declared.core_thread.CoreThread.{CoreThread}
use Rattle.fl_cores_fork.specs.declared.core_thread.FinishedCore.{FinishedCore}
use Rattle.fl_cores_fork.specs.Runs.{TheCoreThread, TheFinishedCore, RanTo, IsLeftSound}
use Rattle.fl_cores_fork.specs.Tells.{left_off, was_told}

-- ---- runs over the sides of one table

-- what a core works on, by the states of its sides
abbrev pub noted_run : RunningCore HistorySides → TheRun TheHistorySide
noted_run r = run_by (λ s. states_in s.lent) r

-- and over sides that note, too
abbrev pub noting_run : RunningCore NotingSides → TheRun TheHistorySide
noting_run r = run_by (λ s. states_in s.lent) r

-- by what they are shown as: sides of rings by themselves
abbrev pub shown_run : TheRun TheHistorySide → TheRun TheSide
shown_run r = shown_by (λ (p : TheHistorySide). p.side) r

abbrev pub core_thread_of : CoreThread → TheCoreThread
core_thread_of s = record { run = shown_run (noted_run s.running.value); plan = s.plan; run_seat = run_seat_of s.run_seat }

abbrev pub outcome_of : FinishedCore → TheFinishedCore
outcome_of d = record {
  run = shown_run (noted_run d.core_thread.running.value);
  run_seat = run_seat_of d.core_thread.run_seat;
  part = d.part;
}

-- of this run, this seat and this share of the report
abbrev pub came_to : TheRun TheHistorySide → RunSeat → Part → TheFinishedCore
came_to run run_seat part = record { run = shown_run run; run_seat = run_seat_of run_seat; part = part }

-- a run over the sides of one table, by this plan, from the one run and seat to the other
abbrev pub NotesFrom : List CoreJob → ℕ → TurnPlan → TheRun TheHistorySide → RunSeat → Part → TheRun TheHistorySide → RunSeat → Type 0
NotesFrom jobs limit plan begin begin_seat part end end_seat =
    CoreRan history_ways (task plan jobs limit) (moment begin (run_seat_of begin_seat)) part (moment end (run_seat_of end_seat))

-- how it ended
abbrev pub has_left_off : FinishedCore → Bool
has_left_off d = left_off (outcome_of d)

abbrev pub has_been_told : FinishedCore → Bool
has_been_told d = was_told (outcome_of d)

-- after such a run all is sound, and the sides show all that the core did
pub record RanNoted (jobs : List CoreJob) (limit : ℕ) (plan : TurnPlan) (begin : TheRun TheHistorySide) (begin_seat : RunSeat) (part : Part)
    (end : TheRun TheHistorySide) (end_seat : RunSeat) : Type 0 where
  pub noted : NotesFrom jobs limit plan begin begin_seat part end end_seat
  pub left : IsLeftSound (came_to end end_seat part)
  pub one : AreOfOneCore end.rings

-- ---- one core

-- its run may begin: its core is sound, each end of its plan has a word, which its seat may use, and the seat may tell of its end, or of a stop
pub record IsReady (s : CoreThread) : Type 0 where
  pub core : IsCore s.running.value.core
  pub as_many : length s.run_seat.words.items ≡ length s.plan.ends.items
  pub may : AreWords s.run_seat.words.items s.run_seat.seat.knows
  pub finishes : s.run_seat.seat.knows.finished < length s.run_seat.seat.knows.cores
  pub stops : s.run_seat.seat.knows.stopped < s.run_seat.seat.knows.seats

-- it ran so over the sides of one table
abbrev pub NotedTo : List CoreJob → ℕ → CoreThread → FinishedCore → Type 0
NotedTo jobs limit s d =
    NotesFrom jobs limit s.plan (noted_run s.running.value) s.run_seat d.part (noted_run d.core_thread.running.value) d.core_thread.run_seat

-- it ran, by its plan, and was left sound
pub record CoreThreadRan (jobs : List CoreJob) (limit : ℕ) (s : CoreThread) (d : FinishedCore) : Type 0 where
  pub ran : RanTo jobs limit (core_thread_of s) (outcome_of d)
  pub left : IsLeftSound (outcome_of d)
  pub noted : NotedTo jobs limit s d
  -- in the end its sides show all that it did
  pub one : AreOfOneCore (noted_run d.core_thread.running.value).rings

-- but for what its sides noted
abbrev pub without_records : FinishedCore → FinishedCore
without_records d = record { core_thread = d.core_thread; part = d.part; records = None }

-- ---- all cores

-- by core, its sides at the table as its run begins, and in the end
abbrev pub hand_given : CoreThread → List TheHistorySide
hand_given s = (noted_run s.running.value).rings

abbrev pub hands_given : List CoreThread → List (List TheHistorySide)
hands_given core_threads = map hand_given core_threads

abbrev pub hand_left : FinishedCore → List TheHistorySide
hand_left d = (noted_run d.core_thread.running.value).rings

abbrev pub hands_left : List FinishedCore → List (List TheHistorySide)
hands_left done = map hand_left done

abbrev pub AllReady : List CoreThread → Type 0
AllReady [] = Unit {0}
AllReady (s ∷ core_threads) = IsReady s × AllReady core_threads
