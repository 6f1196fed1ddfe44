use Rattle.std.proofs.Common.{◌≡◌, ◌+◌, ℕ, [], length, map}
use Rattle.fl_cores_shares.specs.Shares.{holding_at}
use Rattle.fl_cores_shares.proofs.shares.CoreShares.new.Given as goal

abbrev pub invariant-loop : goal.invariant-loop
invariant-loop g l = record {
  count : length l.holdings.items ≡ l.counter;
  empty : (c : ℕ) → holding_at (map (λ holding. holding.items) l.holdings.items) c ≡ [];
}
