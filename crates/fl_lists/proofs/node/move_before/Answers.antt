use Rattle.std.proofs.Common.{ℕ, subst}
use Rattle.fl_lists.specs.Table.{prev_at, next_at, Joined}
use Rattle.fl_lists.proofs.node.move_before.Goals as goal

pub returns : goal.returns
returns c =
    let nodes = c.args.nodes.now in
    let joined = subst (λ (k : ℕ). Joined nodes c.join.new.nodes (prev_at nodes k) (next_at nodes k)) c.from.ensures c.join.ensures.joined in
    record { moved = (c.join.new.nodes, joined, c.put_before.ensures.put) }
