use Rattle.std.proofs.Common.{length, eqb, eq-eqb, sym, ◌∙◌}
use Rattle.std.proofs.lemmas.Bool.{ne_eqb}
use Rattle.fl_endpoint.specs.View.{has_rules}
use Rattle.fl_c_operations.specs.Transmissions.{all_of}
use Rattle.fl_c_operations.proofs.Transmissions.{and_true, and_false}
use Rattle.fl_c_operations.proofs.transmitting.is_held.Goals as goal

pub returns-then-all_calls-ne16 : goal.returns-then-all_calls-ne16
returns-then-all_calls-ne16 c =
    let s = c.args.end.now in
    let count = length (all_of s.outgoing) in
    record { held = and_false (has_rules s.rules) (eqb count 16) (ne_eqb count 16 (λ e. c.if-all_calls-ne16.true (c.all_calls.ensures.all ∙ e))) }

pub returns : goal.returns
returns c =
    let s = c.args.end.now in
    let count = length (all_of s.outgoing) in
    record { held = c.has_rules.ensures.rules ∙ and_true (has_rules s.rules) (eqb count 16) (eq-eqb count 16 (sym c.all_calls.ensures.all ∙ c.if-all_calls-ne16.false)) }
