use Rattle.std.proofs.Common.{◌∙◌, ap}
use Rattle.fl_check.specs.Known.{Before}
use Rattle.fl_parse.specs.Tree.{tree_of}
use Rattle.fl_check.proofs.Firsts.{err_outcome, same_interface}
use Rattle.fl_check.proofs.Limits.{accepted, kept}
use Rattle.fl_check.proofs.Looks.{memory_sound, memory_after}
use Rattle.fl_check.proofs.checker.check.Goals as goal

pub returns-in_err-declared : goal.returns-in_err-declared
returns-in_err-declared c = record {
  outcome = err_outcome (tree_of c.args.tree.now) c.from_residual.result c.in_err-declared.field-0.0 c.from_residual.ensures.1 (rw c.deref.ensures.value at c.in_err-declared.ensures.fault);
  memory = memory_sound c.from_residual.result c.in_err-declared.field-0.0 _ c.from_residual.ensures.1 (rw c.deref.ensures.value at c.in_err-declared.ensures.memory);
}

pub invariant_of-result-clause-within : goal.invariant_of-result-clause-within
invariant_of-result-clause-within c =
    let s = rw c.deref.ensures.value at c.in_ok-declared.ensures.sound in
    let a = rw c.deref.ensures.value at c.in_ok-declared.ensures.after in
    let m = c.in_ok-messages.ensures.same ∙ ap (λ (b : Before). b.messages) a in
    kept (tree_of c.args.tree.now) _ s (same_interface _ _ _ _ c.in_ok-name.ensures.equal m)

pub returns : goal.returns
returns c =
    let s = rw c.deref.ensures.value at c.in_ok-declared.ensures.sound in
    let a = rw c.deref.ensures.value at c.in_ok-declared.ensures.after in
    let m = c.in_ok-messages.ensures.same ∙ ap (λ (b : Before). b.messages) a in
    record { outcome = accepted (tree_of c.args.tree.now) _ s (same_interface _ _ _ _ c.in_ok-name.ensures.equal m); memory = tt }

pub invariant_of-result-clause-counted : goal.invariant_of-result-clause-counted
invariant_of-result-clause-counted c = rw c.deref-2.ensures.value at c.counts_fit.ensures.fit

pub returns-in_err-name-clause-memory : goal.returns-in_err-name-clause-memory
returns-in_err-name-clause-memory c = memory_after c.from_residual-in_err-name.result _ (rw c.deref.ensures.value at c.in_ok-declared.ensures.sound)

pub returns-in_err-messages-clause-memory : goal.returns-in_err-messages-clause-memory
returns-in_err-messages-clause-memory c = memory_after c.from_residual-in_err-messages.result _ (rw c.deref.ensures.value at c.in_ok-declared.ensures.sound)
