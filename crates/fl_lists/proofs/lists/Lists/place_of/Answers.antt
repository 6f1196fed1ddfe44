use Rattle.std.proofs.Common.{◌≡◌, ◌∙◌, arith}
use Rattle.fl_lists.proofs.Sized.{apart_over, over_held, chosen_seen, chosen_table, chosen_place}
use Rattle.fl_lists.proofs.lists.Lists.place_of.Goals as goal

-- the table that is read
chosen : (c : goal.After-in_use) → c.in_use.result.now ≡ c.args.self.now.table
chosen c = chosen_seen _ _ _ _ _ c.self.invariant c.self.view_is _ _ c.in_use.ensures.table c.as_slice.ensures.value

pub place_in-requires-clause-table : goal.place_in-requires-clause-table
place_in-requires-clause-table c = chosen_table _ _ _ _ _ c.self.invariant c.self.view_is _ (chosen c)

pub place_in-requires-clause-short : goal.place_in-requires-clause-short
place_in-requires-clause-short c =
    let below = c.requires.below in
    let short = (over_held _ _ _ _ _ c.self.invariant c.self.view_is).short in
    omega arith

pub returns : goal.returns
returns c =
    let is = chosen_seen _ _ _ _ _ c.self.invariant c.self.view_is _ _ c.in_use.ensures.table c.as_slice.ensures.value in
    record {
      place = c.place_in.ensures.place ∙ chosen_place _ _ _ _ _ c.self.invariant c.self.view_is _ is c.args.c;
      apart = apart_over c.args.self.now (over_held _ _ _ _ _ c.self.invariant c.self.view_is);
    }
