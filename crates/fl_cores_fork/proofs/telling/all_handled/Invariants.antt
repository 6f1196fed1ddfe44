use Rattle.std.proofs.Common.{◌≡◌, ◌*◌, map}
use Rattle.std.specs.List.{range_with_len, AllZip}
use Rattle.fl_cores_file.specs.Reports.{both_of}
use Rattle.fl_cores_jobs.specs.State.{joined_of}
use Rattle.fl_cores_fork.specs.CoreThreads.{outcome_of, hands_left}
use Rattle.fl_cores_fork.specs.Tells.{both_at, handled_at}
use Rattle.fl_cores_fork.specs.Taking.{KeepsFrom}
use Rattle.fl_cores_fork.proofs.telling.all_handled.Given as goal

-- the bindings so far; and the ends' progress of those that are left are as they were
abbrev pub invariant-loop-binding : goal.invariant-loop-binding
invariant-loop-binding l = record {
  handled : map both_of l.all.items ≡ map (both_at (handled_at (joined_of l.joined) (map outcome_of l.fn.done.items))) (range_with_len 0 l.binding);
  rest : AllZip (KeepsFrom (2 * l.binding)) (map outcome_of l.fn.done.items) (map outcome_of l.done.items);
  hands : hands_left l.done.items ≡ hands_left l.fn.done.items;
}
