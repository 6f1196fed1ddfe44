use Rattle.std.proofs.Common.{map, take}
use Rattle.fl_model.specs.Views.{event_of, answer_of}
use Rattle.fl_model.specs.State.{State}
use Rattle.fl_world_refines.specs.ShowsState.{Shows}
use Rattle.fl_world.specs.Stepping.{RunsAlike}
use Rattle.fl_world.proofs.world.World.run.Given as goal

-- the events so far
abbrev pub invariant-loop-event : goal.invariant-loop-event
invariant-loop-event l = (s : State) → Shows l.fn.self s
    → RunsAlike s (map event_of (take l.event-index l.events)) (map answer_of l.answers.items) l.self
