use Rattle.std.proofs.Common.{◌≡◌, ◌++◌, map, drop}
use Rattle.fl_cores_fork.specs.CoreThreads.{without_records}
use Rattle.fl_cores_parts.specs.Recorded.{noted_by, sides_in, IsWhole}
use Rattle.fl_cores_parts.proofs.recording.take_record.Given as goal

-- what was taken from the cores so far, and is left at the others; they are as they were but for that
abbrev pub invariant-loop-core : goal.invariant-loop-core
invariant-loop-core l =
    (l.taken.turns.items ++ map (λ d. d.part.turns) (drop l.core l.done) ≡ map (λ d. d.part.turns) l.fn.done)
    × ((sides_in l.taken ++ map noted_by (drop l.core l.done) ≡ map noted_by l.fn.done)
    × (IsWhole l.taken × (map without_records l.done ≡ map without_records l.fn.done)))
