use Rattle.std.proofs.Common.{◌≡◌, length}
use Rattle.flounder_commands.specs.Scan.{after_all}
use Rattle.flounder_commands.specs.ScanView.{scanned}
use Rattle.flounder_commands.proofs.refusals.Scan.after.Given as goal

abbrev pub invariant-loop-byte : goal.invariant-loop-byte
invariant-loop-byte l = after_all (scanned l.scan) l.rest ≡ after_all (scanned l.fn.self) l.bytes

abbrev pub decreases-loop-byte : goal.decreases-loop-byte
decreases-loop-byte l = length l.rest
