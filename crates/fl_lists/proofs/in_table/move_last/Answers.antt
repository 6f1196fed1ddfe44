use Rattle.std.proofs.Common.{◌<◌, ℕ, length, sym, ◌∙◌, ap, subst}
use Rattle.fl_lists.specs.Table.{prev_at, next_at}
use Rattle.fl_lists.proofs.Numbers.{head_before}
use Rattle.fl_lists.proofs.Tables.{linked_below, linked_short, last_below, prev_below, next_below, moves, moves_last}
use Rattle.fl_lists.proofs.in_table.move_last.Goals as goal

pub node_index-at-requires : goal.node_index-at-requires
node_index-at-requires c = record { short = linked_short c.args.nodes.now c.args.c c.requires.table c.requires.linked }

pub bounds-nodes-from : goal.bounds-nodes-from
bounds-nodes-from c =
    subst (λ (k : ℕ). k < length c.args.nodes.now) (sym (c.from.ensures ∙ c.node_index-at.ensures.index))
    (linked_below c.args.nodes.now c.args.c c.requires.table c.requires.linked)

pub returns-then-next-head-clause-table : goal.returns-then-next-head-clause-table
returns-then-next-head-clause-table c = c.requires.table

pub returns-then-next-head-clause-lists : goal.returns-then-next-head-clause-lists
returns-then-next-head-clause-lists c =
    moves_last c.args.nodes.now c.args.c c.head_index-head.result c.args.place c.requires.table c.requires.linked c.head_index-head.ensures.index
    (ap (next_at c.args.nodes.now) (sym (c.from.ensures ∙ c.node_index-at.ensures.index)) ∙ c.if-next-head.true)

pub move_before-requires-clause-below : goal.move_before-requires-clause-below
move_before-requires-clause-below c =
    subst (λ (k : ℕ). k < length c.args.nodes.now) (sym c.node_index-at.ensures.index)
    (linked_below c.args.nodes.now c.args.c c.requires.table c.requires.linked)

pub move_before-requires-clause-no_head : goal.move_before-requires-clause-no_head
move_before-requires-clause-no_head c =
    λ e. head_before c.args.c c.args.place (sym c.node_index-at.ensures.index ∙ sym e ∙ c.head_index-head.ensures.index)

pub move_before-requires-clause-prev_below : goal.move_before-requires-clause-prev_below
move_before-requires-clause-prev_below c =
    subst (λ (k : ℕ). prev_at c.args.nodes.now k < length c.args.nodes.now) (sym c.node_index-at.ensures.index)
    (prev_below c.args.nodes.now c.args.c c.requires.table c.requires.linked)

pub move_before-requires-clause-next_below : goal.move_before-requires-clause-next_below
move_before-requires-clause-next_below c =
    subst (λ (k : ℕ). next_at c.args.nodes.now k < length c.args.nodes.now) (sym c.node_index-at.ensures.index)
    (next_below c.args.nodes.now c.args.c c.requires.table c.requires.linked)

pub move_before-requires-clause-last_below : goal.move_before-requires-clause-last_below
move_before-requires-clause-last_below c =
    subst (λ (k : ℕ). prev_at c.args.nodes.now k < length c.args.nodes.now) (sym c.head_index-head.ensures.index)
    (last_below c.args.nodes.now c.requires.table c.args.place)

pub returns : goal.returns
returns c =
    let left = moves c.args.nodes.now c.args.c c.requires.table c.move_before.new.nodes c.node_index-at.result c.head_index-head.result c.args.place
    c.node_index-at.ensures.index c.head_index-head.ensures.index c.move_before.ensures.moved c.requires.linked in
    record { table = left.table; lists = left.lists; few = left.few }
