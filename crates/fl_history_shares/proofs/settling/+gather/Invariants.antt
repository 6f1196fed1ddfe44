use Rattle.std.proofs.Common.{length}
use Rattle.fl_history_shares.proofs.settling.+gather.Given as goal

abbrev pub decreases-gather : goal.decreases-gather
decreases-gather l = length l.hands.items
