use Rattle.std.proofs.Common.{sym, ap}
use Rattle.fl_value_data.specs.Fits.{is_text_byte}
use Rattle.fl_c_operations.specs.After.{after_number}
use Rattle.fl_c_operations.proofs.After.{number_past, number_there}
use Rattle.fl_c_operations.proofs.tapes.after_byte.Goals as goal

pub returns-in_default : goal.returns-in_default
returns-in_default c = record { exact = sym (ap (after_number is_text_byte) c.in_default.ensures.none) }

pub returns-then-not-is_text_byte : goal.returns-then-not-is_text_byte
returns-then-not-is_text_byte c = record {
  exact = number_past is_text_byte c.args.tape.now c.in-Some.rest.now c.in-Some.byte c.in-Some.ensures.some (sym c.if-not-is_text_byte.ensures.exact);
}

pub returns : goal.returns
returns c = record {
  exact = number_there is_text_byte c.args.tape.now c.in-Some.rest.now c.in-Some.byte c.in-Some.ensures.some (sym c.if-not-is_text_byte.ensures.exact);
}
