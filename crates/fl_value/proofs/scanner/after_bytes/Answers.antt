use Rattle.std.proofs.Common.{[], refl}
use Rattle.fl_value.proofs.Scanned.{byte_behind}
use Rattle.fl_value.proofs.scanner.after_bytes.Goals as goal

pub loop-byte-init : goal.loop-byte-init
loop-byte-init c = ([], refl)

pub loop-byte-preserved : goal.loop-byte-preserved
loop-byte-preserved c = byte_behind c.args.bytes.now c.loop-byte.rest.now c.in-Some.after.now c.in-Some._byte c.loop-byte.invariant c.in-Some.ensures.found
