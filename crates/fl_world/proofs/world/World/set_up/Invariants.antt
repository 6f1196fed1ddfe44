use Rattle.std.proofs.Common.{map, take}
use Rattle.fl_model.specs.Views.{event_of}
use Rattle.fl_model.specs.State.{State}
use Rattle.fl_world_refines.specs.ShowsState.{Shows}
use Rattle.fl_world_refines.specs.Apart.{KeepsUnused}
use Rattle.fl_world.specs.Booting.{Passes}
use Rattle.fl_world.proofs.world.World.set_up.Given as goal

-- the events so far
abbrev pub invariant-loop-k : goal.invariant-loop-k
invariant-loop-k l = record {
  passes : (s : State) → Shows l.fn.self s → Passes s (map event_of (take l.k l.events)) l.self;
  unused : KeepsUnused (map event_of (take l.k l.events)) l.fn.self l.self;
}
