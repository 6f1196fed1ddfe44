use Rattle.std.proofs.Common.{sym, ◌∙◌}
use Rattle.fl_lists.proofs.Tables.{front_in, linked_in, pop_is}
use Rattle.fl_lists.proofs.lists.Lists.pop_front.Goals as goal

pub unlink-requires-clause-below : goal.unlink-requires-clause-below
unlink-requires-clause-below c =
    let first = front_in _ _ (sym c.in_ok-first.ensures.first) in
    c.in_ok-first.ensures.apart.below c.args.place _ first

pub unlink-requires-clause-linked : goal.unlink-requires-clause-linked
unlink-requires-clause-linked c =
    let first = front_in _ _ (sym c.in_ok-first.ensures.first) in
    linked_in c.args.self.now.lists c.args.place _ first

pub returns-clause-lists : goal.returns-clause-lists
returns-clause-lists c =
    c.unlink.ensures.lists ∙ pop_is c.args.self.now.lists c.args.place _ c.in_ok-first.ensures.apart (sym c.in_ok-first.ensures.first)
