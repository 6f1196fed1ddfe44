-- With one core, all that it did in its turns is such an order: so there are some. Law.
use Rattle.std.specs.Prelude.{ℕ, ◌≡◌, List, slice_get, Some}
use Rattle.fl_ring.specs.SharedSides.{TheSide}
use Rattle.fl_core_turned.specs.TurnEvents.{Event as TurnEvent}
use Rattle.fl_cores_fork.specs.Runs.{TheCoreThread, TheFinishedCore}
use Rattle.fl_cores.specs.Behind.{joined_in}
use Rattle.fl_cores.specs.Follows.{CoresFollow}
use Rattle.fl_cores.specs.OneCore.{begins}
use Rattle.fl_cores.specs.Promised.{cores_by, Reports}
use Rattle.fl_cores_file.specs.Jobs.{Job}
use Rattle.fl_cores_file.specs.Report.{TheReport}
use Rattle.fl_world.specs.Booting.{TheConfig}
use Rattle.fl_cores_joined.specs.Joined.{JoinedCore, AreWhole}
use Rattle.fl_cores_joined.specs.Steps.{Moment, Interleaves}
use Rattle.fl_cores_joined.specs.Runs.{AllAreNumbered}
use Rattle.fl_cores_whole.specs.Whole.{begun, events_at}

-- an order of what the cores of a reported run do, in which these are the events of the first core: all is
-- so that the laws of orders ask for
pub record OrderWith {c : TheConfig} {jobs : List Job} {limit : ℕ} {r : TheReport} (w : Reports c jobs limit r)
    (events : List (TurnEvent TheSide)) : Type 0 where
  pub moments : List Moment
  pub cores : List JoinedCore
  pub order : Interleaves (joined_in w).jobs (begun w) moments cores
  pub events_are : events_at 0 (joined_in w).jobs (begun w) moments cores order ≡ events
  pub whole : AreWhole cores
  pub in_turn : AllAreNumbered (joined_in w).jobs (begins c jobs) (begun w) moments cores order

-- where the set-up makes one core, the events of its turns are in such an order
abbrev pub OneCoreJoins : Type 0
OneCoreJoins = (c : TheConfig) (jobs : List Job) (limit : ℕ) (r : TheReport) (w : Reports c jobs limit r)
    (follow : CoresFollow w) (s : TheCoreThread) (o : TheFinishedCore) → cores_by c ≡ 1
    → (given_is : slice_get w.ran.ran.ran.core_threads 0 ≡ Some s)
    → (left_is : slice_get w.ran.ran.ran.outcomes 0 ≡ Some o)
    → OrderWith w (follow 0 s o given_is left_is).turned.events
