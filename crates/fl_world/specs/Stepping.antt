-- What a world makes of events, beside what the machine makes of them in each state that the world shows.
use Rattle.std.specs.Prelude.{ℕ, ◌≡◌, ◌||◌, ◌++◌, Bool, true, false, List, Option, Some, None, is_some}
use Rattle.fl_model.specs.Events.{Event, add_interface, show, write, ack, register, deregister, reply, monitor_write, turn, forward}
use Rattle.fl_model.specs.Events.{monitor_ack, Answer, refused}
use Rattle.fl_model.specs.State.{State}
use Rattle.fl_model.specs.Runs.{answers_to, reached}
use Rattle.fl_world_refines.specs.View.{TheWorld}
use Rattle.fl_world_refines.specs.Step.{Does}
use Rattle.fl_world_events.specs.Last.{NotRefused}
use Rattle.fl_world_refines.specs.ShowsState.{Shows}
use Rattle.fl_world_refines.specs.Laws.{StepAgrees}
use Rattle.fl_world.specs.Handling.{WantsToHandle}
use Rattle.fl_world.specs.Hearing.{WantsToSay}

-- ---- one event

-- of each state that was shown, the answer is the machine's, and its next state is shown
abbrev pub StepsAlike : Event → TheWorld → Answer → TheWorld → Type 0
StepsAlike event w a w2 = (s : State) → Shows w s → StepAgrees event s a w2

-- memory may be wanting for it: not where nothing is made, no call is made or handled, and no message is heard
abbrev pub may_want_memory : Event → Bool
may_want_memory (show e) = false
may_want_memory (write e) = false
may_want_memory (ack e) = false
may_want_memory (register e) = false
may_want_memory (deregister e) = false
may_want_memory (reply e msg answer) = false
may_want_memory (monitor_write core neighbour) = false
may_want_memory (monitor_ack core neighbour) = false
may_want_memory event = true

-- memory may be wanting for the event, and is told last: no refusal is what it comes to. A turn wants memory only where its
-- dispatcher is there and it handles a call, and a forward only for a message that is heard, and that makes a monitor say
-- something.
abbrev pub WantsMemory : Event → TheWorld → Type 0
WantsMemory (turn d) w = WantsToHandle d w
WantsMemory (forward core neighbour) w = WantsToSay core neighbour w
WantsMemory event w = NotRefused (Does event w)

-- the fault for which an event was refused
abbrev pub fault_in : Answer → Option ℕ
fault_in (refused fault) = Some fault
fault_in answer = None

abbrev pub is_interface : Event → Bool
is_interface (add_interface i plan) = true
is_interface event = false

-- the number of cores may still be set after this event, where it could be before
abbrev pub leaves_cores_open : Event → Answer → Bool
leaves_cores_open event answer = is_interface event || is_some (fault_in answer)

-- ---- many

-- what was answered to these events is what the machine answers, and what it reached is shown
pub record RunsAlike (s : State) (events : List Event) (answers : List Answer) (w : TheWorld) : Type 0 where
  pub answered : answers ≡ answers_to s events
  pub shown : Shows w (reached s events)

-- what the machine reached by the first of these events is shown
pub record ShowsAfterSome (s : State) (events : List Event) (w : TheWorld) : Type 0 where
  pub done : List Event
  pub left : List Event
  pub events_are : events ≡ done ++ left
  pub shown : Shows w (reached s done)
