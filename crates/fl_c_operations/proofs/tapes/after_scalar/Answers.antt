use Rattle.std.proofs.Common.{ℕ, ltb, ap, ◌∙◌}
use Rattle.fl_c_operations.specs.After.{after_number}
use Rattle.fl_c_operations.proofs.tapes.after_scalar.Goals as goal

pub returns : goal.returns
returns c = record {
  exact = c.after_number.ensures.exact ∙ ap (λ (n : ℕ). after_number (λ (bits : ℕ). ltb bits n) c.args.tape.now) c.count_of_scalar.ensures.exact;
}
