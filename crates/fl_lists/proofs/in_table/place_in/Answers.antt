use Rattle.std.proofs.Common.{◌∙◌, arith}
use Rattle.fl_lists.proofs.Tables.{read_place, past_place}
use Rattle.fl_lists.proofs.in_table.place_in.Goals as goal

pub returns-then-at-nodes : goal.returns-then-at-nodes
returns-then-at-nodes c = record {
  place = read_place c.args.nodes.now c.args.c c.requires.table _ (c.from-at.ensures ∙ c.node_index.ensures.index);
}

pub returns-else-at-nodes : goal.returns-else-at-nodes
returns-else-at-nodes c = record {
  place = past_place c.args.nodes.now c.args.c c.requires.table _ (c.from-at.ensures ∙ c.node_index.ensures.index)
      (omega (arith, c.if-at-nodes.false));
}
