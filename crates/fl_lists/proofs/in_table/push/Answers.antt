use Rattle.std.proofs.Common.{◌<◌, ℕ, length, sym, subst, arith}
use Rattle.fl_lists.specs.Table.{prev_at}
use Rattle.fl_lists.proofs.Tables.{last_below, pushes}
use Rattle.fl_lists.proofs.in_table.push.Goals as goal

pub node_index-requires : goal.node_index-requires
node_index-requires c = let short = c.requires.table.short in let below = c.requires.below in record { short = omega arith }

pub put_before-requires-clause-below : goal.put_before-requires-clause-below
put_before-requires-clause-below c =
    let below = c.requires.below in
    subst (λ (k : ℕ). k < length c.args.nodes.now) (sym c.node_index.ensures.index) (omega arith)

pub put_before-requires-clause-last_below : goal.put_before-requires-clause-last_below
put_before-requires-clause-last_below c =
    subst (λ (k : ℕ). prev_at c.args.nodes.now k < length c.args.nodes.now) (sym c.head_index-head.ensures.index)
    (last_below c.args.nodes.now c.requires.table c.args.place)

pub returns : goal.returns
returns c =
    let left = pushes c.args.nodes.now c.args.c c.requires.table c.put_before.new.nodes c.node_index.result c.head_index-head.result c.args.place
    c.node_index.ensures.index c.head_index-head.ensures.index c.put_before.ensures.put c.requires.free in
    record { table = left.table; lists = left.lists; few = left.few }
