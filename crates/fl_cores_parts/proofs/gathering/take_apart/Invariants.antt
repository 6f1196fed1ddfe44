use Rattle.std.proofs.Common.{◌≡◌, ◌++◌, map}
use Rattle.std.specs.Vec.Iter.{into_iter_items}
use Rattle.fl_history_shares.specs.Dealt.{hands_in}
use Rattle.fl_cores_fork.specs.Runs.{seats_left}
use Rattle.fl_cores_fork.specs.CoreThreads.{outcome_of, hands_left}
use Rattle.fl_cores_parts.proofs.Together.{Joining}
use Rattle.fl_cores_parts.proofs.gathering.take_apart.Given as goal

-- the sides of the cores so far, and of those that are left; and their seats are put in this one
abbrev pub invariant-loop-one : goal.invariant-loop-one
invariant-loop-one l =
    (hands_in l.hands.items ++ hands_left (into_iter_items l.one-iterator) ≡ hands_left l.fn.done.items)
    × Joining l.initial.own l.own (seats_left (map outcome_of (into_iter_items l.one-iterator))) (seats_left (map outcome_of l.fn.done.items))
