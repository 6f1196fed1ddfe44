-- A step of a system that shows states of the machine.
use Rattle.std.specs.Prelude.{◌≡◌}
use Rattle.fl_model.specs.Events.{Event, Answer}
use Rattle.fl_model.specs.State.{State}
use Rattle.fl_model.specs.Step.{step}

-- from each state that was shown, what is shown now and what was answered are the machine's
pub record Steps {M : Type 0} (shows : M → State → Type 0) (old new : M) (event : Event) (answer : Answer) : Type 0 where
  pub shown : (s : State) → shows old s → shows new (step s event).state
  pub answered : (s : State) → shows old s → answer ≡ (step s event).answer
