use Rattle.std.proofs.Common.{map, arith}
use Rattle.fl_interface.specs.Interface.{message_of}
use Rattle.fl_image.proofs.Fitting.{kept}
use Rattle.fl_image.proofs.messages.interface.Goals as goal

pub invariant_of-result-clause-within : goal.invariant_of-result-clause-within
invariant_of-result-clause-within c =
    kept c.args.bytes.now c.in_ok-name.rest.now c.in_ok-messages.rest.now c.in_ok-name.name.bytes.items (map message_of c.in_ok-messages.messages.items) (λ i. omega (arith, c.type_inv.bytes i))
    c.in_ok-name.ensures.reads c.in_ok-messages.ensures.reads

pub invariant_of-result-clause-counted : goal.invariant_of-result-clause-counted
invariant_of-result-clause-counted c = rw c.deref.ensures.value at c.counts_fit.ensures.fit
