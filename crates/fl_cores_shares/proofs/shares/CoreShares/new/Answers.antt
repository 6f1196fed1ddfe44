use Rattle.std.proofs.Common.{ap, ◌∙◌, ◌+◌, length, map, [], ◌∷◌}
use Rattle.std.proofs.lemmas.List.{length-append}
use Rattle.fl_cores_shares.specs.Shares.{holding_at}
use Rattle.fl_cores_shares.proofs.Giving.{still_empty}
use Rattle.fl_cores_shares.proofs.shares.CoreShares.new.Goals as goal

pub loop-preserved : goal.loop-preserved
loop-preserved g c = record {
  count = ap length c.in_ok-push.ensures.items ∙ length-append c.loop.holdings.items (c.new.result ∷ []) ∙ ap (λ n. n + 1) c.loop.invariant.count;
  empty = λ n. ap (λ xs. holding_at (map (λ holding. holding.items) xs) n) c.in_ok-push.ensures.items
      ∙ still_empty (λ holding. holding.items) c.loop.holdings.items c.new.result c.new.ensures.items c.loop.invariant.empty n;
}
