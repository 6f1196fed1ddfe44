use Rattle.std.proofs.Common.{ℕ, ltb, sym, ap}
use Rattle.fl_c_operations.specs.After.{after_number}
use Rattle.fl_c_operations.proofs.After.{number_past, number_there}
use Rattle.fl_c_operations.proofs.tapes.after_number.Goals as goal

pub returns-in_default : goal.returns-in_default
returns-in_default c = record { exact = sym (ap (after_number (λ (bits : ℕ). ltb bits c.args.above)) c.in_default.ensures.none) }

pub returns-then-not-is_below : goal.returns-then-not-is_below
returns-then-not-is_below c = record {
  exact = number_past (λ (bits : ℕ). ltb bits c.args.above) c.args.tape.now c.in-Some.rest.now c.in-Some.bits c.in-Some.ensures.some (sym c.if-not-is_below.ensures.exact);
}

pub returns : goal.returns
returns c = record {
  exact = number_there (λ (bits : ℕ). ltb bits c.args.above) c.args.tape.now c.in-Some.rest.now c.in-Some.bits c.in-Some.ensures.some (sym c.if-not-is_below.ensures.exact);
}
