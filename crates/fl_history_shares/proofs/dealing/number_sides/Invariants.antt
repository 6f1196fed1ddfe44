use Rattle.std.proofs.Common.{take}
use Rattle.fl_history_shares.specs.Dealing.{NumbersSides}
use Rattle.fl_history_shares.proofs.dealing.number_sides.Given as goal

-- the rings so far
abbrev pub invariant-loop-k : goal.invariant-loop-k
invariant-loop-k l = NumbersSides l.fn.cores (take l.k l.rings) l.shares
