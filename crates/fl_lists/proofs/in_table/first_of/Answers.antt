use Rattle.std.proofs.Common.{◌≤◌, ◌-◌, ℕ, Some, sym, ◌∙◌, ap, subst}
use Rattle.fl_lists.proofs.Tables.{front_index, front_is_none, front_is_some}
use Rattle.fl_lists.proofs.in_table.first_of.Goals as goal

pub returns-then-first-head : goal.returns-then-first-head
returns-then-first-head c = record {
  first = front_is_none c.args.nodes.now c.args.place c.from.result c.requires.table (c.from.ensures ∙ c.head_index-head.ensures.index)
      (c.if-first-head.true ∙ sym c.from.ensures);
}

pub overflow_sub-result : goal.overflow_sub-result
overflow_sub-result c =
    subst (λ (n : ℕ). 3 ≤ n) (sym c.from-2.ensures)
    (front_index c.args.nodes.now c.args.place c.from.result c.requires.table (c.from.ensures ∙ c.head_index-head.ensures.index)
    (λ e. c.if-first-head.false (e ∙ c.from.ensures)))

pub returns : goal.returns
returns c = record {
  first = ap (λ (n : ℕ). Some (n - 3)) c.from-2.ensures
      ∙ front_is_some c.args.nodes.now c.args.place c.from.result c.requires.table (c.from.ensures ∙ c.head_index-head.ensures.index)
      (λ e. c.if-first-head.false (e ∙ c.from.ensures));
}
