use Rattle.std.proofs.Common.{◌≡◌, List, ◌∙◌, ap, slice_get}
use Rattle.fl_lists.specs.ThreeLists.{list_at}
use Rattle.fl_lists.specs.Table.{lists_of}
use Rattle.fl_lists.specs.declared.node.Node.{Node}
use Rattle.fl_lists.proofs.Sized.{apart_over, front_over, first_below, over_held, chosen_seen, chosen_table}
use Rattle.fl_lists.proofs.lists.Lists.front.Goals as goal

-- the table that is read
chosen : (c : goal.After-in_use) → c.in_use.result.now ≡ c.args.self.now.table
chosen c = chosen_seen _ _ _ _ _ c.self.invariant c.self.view_is _ _ c.in_use.ensures.table c.as_slice.ensures.value

pub first_of-requires : goal.first_of-requires
first_of-requires c = record { table = chosen_table _ _ _ _ _ c.self.invariant c.self.view_is _ (chosen c) }

pub returns : goal.returns
returns c =
    let over = over_held _ _ _ _ _ c.self.invariant c.self.view_is in
    let apart = apart_over c.args.self.now over in
    let is = chosen_seen _ _ _ _ _ c.self.invariant c.self.view_is _ _ c.in_use.ensures.table c.as_slice.ensures.value in
    let first = c.first_of.ensures.first
    ∙ ap (λ (xs : List Node). slice_get (list_at (lists_of xs) c.args.place) 0) is
    ∙ front_over c.args.self.now over c.args.place in
    record { first = first; within = first_below c.args.self.now.lists apart c.args.place _ first; apart = apart }
