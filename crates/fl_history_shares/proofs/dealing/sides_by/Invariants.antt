use Rattle.std.proofs.Common.{◌≡◌, map, take}
use Rattle.fl_history_rings.specs.Cores.{TheCoresLeft}
use Rattle.fl_history_shares.specs.Dealt.{first_hands, hands_in}
use Rattle.fl_history_shares.specs.Dealing.{left_after}
use Rattle.fl_history_shares.proofs.dealing.sides_by.Given as goal

-- the cores so far
abbrev pub invariant-loop-k : goal.invariant-loop-k
invariant-loop-k l = record {
  so_far : hands_in l.sides.items ≡ first_hands l.fn.left.table l.fn.left.sides 0 (take l.k (map (λ holding. holding.items) l.holdings));
  left_is : l.left ≡ left_after l.fn.left l.k;
}
