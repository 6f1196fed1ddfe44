use Rattle.std.proofs.Common.{rules}
use Rattle.fl_ring.proofs.shared.tx.RingTx.room.Goals as goal

pub returns-then-index-lt-SPENT : goal.returns-then-index-lt-SPENT
returns-then-index-lt-SPENT c = search rules
