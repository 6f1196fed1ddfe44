use Rattle.std.proofs.Common.{◌≡◌}
use Rattle.std.specs.List.{flat_map, range_with_len}
use Rattle.fl_cores_jobs.specs.State.{joined_of}
use Rattle.fl_cores_parts.specs.Begins.{two_progresses}
use Rattle.fl_cores_parts.proofs.wiring.progresses_for.Given as goal

-- the ends' progress of the bindings so far
abbrev pub invariant-loop-binding : goal.invariant-loop-binding
invariant-loop-binding l = l.progresses.items ≡ flat_map (two_progresses l.core (joined_of l.joined)) (range_with_len 0 l.binding)
