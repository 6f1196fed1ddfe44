use Rattle.std.proofs.Common.{◌≤◌, ◌-◌, ℕ, suc, drop, length}
use Rattle.fl_stub.specs.Locations.{outer}
use Rattle.fl_stub.specs.Rests.{IsPlaceIn}
use Rattle.fl_stub.specs.declared.op.Column.{Column}
use Rattle.fl_stub.specs.Frames.{frames_of}
use Rattle.fl_stub.proofs.Skips.{Skips}
use Rattle.fl_machine.proofs.cursor.behind.Given as goal

abbrev pub invariant-loop-place : goal.invariant-loop-place
invariant-loop-place l =
    (l.inside ≤ l.place) × ((column : Column) (depth : ℕ) → IsPlaceIn column l.ops (suc depth) l.start → Skips column depth l.inside (outer (frames_of (drop l.start l.ops))) (drop l.place l.ops))

abbrev pub decreases-loop-place : goal.decreases-loop-place
decreases-loop-place l = length l.ops - l.place
