-- What a core does by itself, in its place, as its own log tells it, is an event of an interleaving as soon as its
-- sides, of which no two links or ends share one, find what stands for them. Laws.
use Rattle.std.specs.Prelude.{ℕ, ◌≡◌, List, length, slice_get, slice_set, Some}
use Rattle.fl_ring.specs.SharedSides.{TheSide}
use Rattle.fl_core.specs.declared.core_job.CoreJob.{CoreJob}
use Rattle.fl_core_run.specs.LogEntries.{LogEntry, Happens}
use Rattle.fl_core_run.specs.Run.{TheRun}
use Rattle.fl_core_run_laws.specs.Flows.{IsApart}
use Rattle.fl_core_run_laws.specs.Logs.{InPlace}
use Rattle.fl_core_turned.specs.Turned.{shared_ways}
use Rattle.fl_world_refines.specs.View.{TheWorld}
use Rattle.fl_cores_joined.specs.Joined.{JoinedCore, HasSide, IsJoined, across_from}
use Rattle.fl_cores_joined.specs.Rings.{standing_for, FindsWhatStood}
use Rattle.fl_cores_joined.specs.Steps.{HappensAt}

-- each of a core's sides has a number, and one stands across from it
pub record HasSidesAcross (xs : List JoinedCore) (x : JoinedCore) : Type 0 where
  pub long : length x.sides ≡ length x.run.rings
  pub across : (i number : ℕ) → slice_get x.sides i ≡ Some number
      → (side : TheSide) × HasSide xs (across_from number) side

abbrev pub HaveSidesAcross : List JoinedCore → Type 0
HaveSidesAcross xs = (n : ℕ) (x : JoinedCore) → slice_get xs n ≡ Some x → HasSidesAcross xs x

-- each side of a core that goes on to this finds what stands for it: what the one across put, and it hasn't taken
abbrev pub FindWhatStands : List JoinedCore → JoinedCore → TheRun TheSide → Type 0
FindWhatStands xs x after = (i number : ℕ) (p q across : TheSide) → slice_get x.sides i ≡ Some number
    → slice_get x.run.rings i ≡ Some p → slice_get after.rings i ≡ Some q → HasSide xs (across_from number) across
    → FindsWhatStood (standing_for p across) p q

-- so what a core does by itself, in its place, is an event of theirs; no two of its links have one side
abbrev pub OwnEventsJoin : Type 0
OwnEventsJoin = (jobs : List CoreJob) (n : ℕ) (log_entry : LogEntry) (xs : List JoinedCore) (x : JoinedCore)
    (after : TheRun TheSide) → slice_get xs n ≡ Some x → HasSidesAcross xs x → IsApart x.run.core
    → Happens shared_ways log_entry x.run after → InPlace jobs x.run log_entry → FindWhatStands xs x after
    → HappensAt jobs n log_entry xs (slice_set xs n (record x { run = after }))

-- Cores that make a world have sides across from theirs, whatever happens.
abbrev pub JoinedHaveSidesAcross : Type 0
JoinedHaveSidesAcross = (w : TheWorld) (xs : List JoinedCore) → IsJoined w xs → HaveSidesAcross xs

abbrev pub SidesStayAcross : Type 0
SidesStayAcross = (jobs : List CoreJob) (n : ℕ) (log_entry : LogEntry) (xs ys : List JoinedCore) → HaveSidesAcross xs
    → HappensAt jobs n log_entry xs ys → HaveSidesAcross ys
