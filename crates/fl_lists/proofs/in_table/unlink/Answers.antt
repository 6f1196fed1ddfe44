use Rattle.std.proofs.Common.{◌<◌, ℕ, length, sym, subst}
use Rattle.fl_lists.specs.Table.{prev_at, next_at}
use Rattle.fl_lists.proofs.Tables.{linked_below, linked_short, prev_below, next_below, unlinks}
use Rattle.fl_lists.proofs.in_table.unlink.Goals as goal

pub node_index-requires : goal.node_index-requires
node_index-requires c = record { short = linked_short c.args.nodes.now c.args.c c.requires.table c.requires.linked }

pub take_out-requires-clause-below : goal.take_out-requires-clause-below
take_out-requires-clause-below c =
    subst (λ (k : ℕ). k < length c.args.nodes.now) (sym c.node_index.ensures.index)
    (linked_below c.args.nodes.now c.args.c c.requires.table c.requires.linked)

pub take_out-requires-clause-prev_below : goal.take_out-requires-clause-prev_below
take_out-requires-clause-prev_below c =
    subst (λ (k : ℕ). prev_at c.args.nodes.now k < length c.args.nodes.now) (sym c.node_index.ensures.index)
    (prev_below c.args.nodes.now c.args.c c.requires.table c.requires.linked)

pub take_out-requires-clause-next_below : goal.take_out-requires-clause-next_below
take_out-requires-clause-next_below c =
    subst (λ (k : ℕ). next_at c.args.nodes.now k < length c.args.nodes.now) (sym c.node_index.ensures.index)
    (next_below c.args.nodes.now c.args.c c.requires.table c.requires.linked)

pub returns : goal.returns
returns c =
    let left = unlinks c.args.nodes.now c.args.c c.requires.table c.take_out.new.nodes c.node_index.result c.node_index.ensures.index
    c.take_out.ensures.taken c.requires.linked in
    record { table = left.table; lists = left.lists; few = left.few }
