use Rattle.std.proofs.Common.{◌==◌, ℕ, Bool, List, sym, ap, ◌∙◌}
use Rattle.std.specs.List.{list_any}
use Rattle.fl_hop.specs.declared.entry.Entry.{Entry}
use Rattle.fl_hop.proofs.Standing.{keeps_looking, found_now}
use Rattle.fl_hop.proofs.entry.is_kept.Goals as goal

-- whether one of these is of the binding
abbrev any : ℕ → List (ℕ × Entry) → Bool
any binding es = list_any (λ (e : ℕ × Entry). e.1.binding == binding) es

pub loop-entry-init : goal.loop-entry-init
loop-entry-init c =
    let left = c.into_iter-entry-iterator.ensures.into_iter_gives ∙ c.iter-entry-items.ensures.rest in
    (tt, tt, ap (any c.args.binding) (sym left))

pub loop-entry-preserved : goal.loop-entry-preserved
loop-entry-preserved c =
    (tt, tt, c.loop-entry.invariant.2 ∙ ap (any c.args.binding) c.in-Some.ensures.steps ∙ keeps_looking c.args.binding (c.in-Some.field-0-0, c.in-Some.entry.now) c.next.new.self c.if-entry-binding.false)

pub returns-then-entry-binding : goal.returns-then-entry-binding
returns-then-entry-binding c = record {
  any = sym (c.loop-entry.invariant.2 ∙ ap (any c.args.binding) c.in-Some.ensures.steps ∙ found_now c.args.binding (c.in-Some.field-0-0, c.in-Some.entry.now) c.next.new.self c.if-entry-binding.true);
}

pub returns : goal.returns
returns c = record {
  any = sym (c.loop-entry.invariant.2 ∙ ap (any c.args.binding) c.in-None.ensures.steps.0);
}
