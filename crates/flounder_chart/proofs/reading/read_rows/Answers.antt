use Rattle.std.proofs.Common.{◌≡◌, ℕ, length, rules, subst, sym}
use Rattle.flounder_chart.proofs.Rows.{RowsSoFar, none_read, one_read, all_read}
use Rattle.flounder_chart.proofs.reading.read_rows.Goals as goal

pub items-init : goal.items-init
items-init c = subst (λ (n : ℕ). RowsSoFar c.args.script.now c.args.script.now n) (sym c.requires) (none_read c.args.script.now)

pub items-preserved : goal.items-preserved
items-preserved c =
    one_read c.args.script.now c.items.rest.now c.next_part.result.1.now _ (length c.items.rows.items) (length c.push_some-is_kept.new.rows.items)
    c.items.invariant c.next_part.ensures.items c.push_some-is_kept.ensures.one

pub returns : goal.returns
returns c =
    let e : length c.items.rest.now ≡ 0 = search rules in
    record { rows = all_read c.args.script.now c.items.rest.now (length c.items.rows.items) c.items.invariant e }
