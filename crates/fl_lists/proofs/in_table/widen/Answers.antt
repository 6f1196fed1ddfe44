use Rattle.fl_lists.proofs.Sized.{widened}
use Rattle.fl_lists.proofs.in_table.widen.Goals as goal

pub returns : goal.returns
returns c =
    let left = widened c.args.near.now c.args.nodes.now c.copy_from_slice.new.self c.copy_from_slice.ensures.after
    c.requires.table c.requires.longer c.requires.short c.requires.nothing in
    record { table = left.0; lists = left.1; same = left.2 }
