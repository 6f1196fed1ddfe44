use Rattle.fl_lists.proofs.Tables.{first_is_table}
use Rattle.fl_lists.proofs.in_table.put_heads.Goals as goal

pub returns-clause-table : goal.returns-clause-table
returns-clause-table c =
    (first_is_table c.args.nodes.now c.head.result c.head-2.result c.head-3.result c.requires.heads c.requires.short c.requires.free
    c.head.ensures.node c.head-2.ensures.node c.head-3.ensures.node).0

pub returns-clause-lists : goal.returns-clause-lists
returns-clause-lists c =
    (first_is_table c.args.nodes.now c.head.result c.head-2.result c.head-3.result c.requires.heads c.requires.short c.requires.free
    c.head.ensures.node c.head-2.ensures.node c.head-3.ensures.node).1
