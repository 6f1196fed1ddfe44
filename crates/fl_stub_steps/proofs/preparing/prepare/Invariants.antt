use Rattle.std.proofs.Common.{◌≤◌, length, drop}
use Rattle.fl_stub.specs.Frames.{frames_of}
use Rattle.fl_stub_steps.specs.Opened.{Opened}
use Rattle.fl_stub_steps.proofs.preparing.prepare.Given as goal

abbrev pub invariant-loop-place : goal.invariant-loop-place
invariant-loop-place l = record { inside : l.place ≤ length l.ops; stands : Opened l.stack.items (frames_of (drop l.place l.ops)) }

abbrev pub decreases-loop-place : goal.decreases-loop-place
decreases-loop-place l = l.place
