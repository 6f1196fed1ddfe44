use Rattle.std.proofs.Common.{◌∙◌}
use Rattle.fl_value_data.specs.Fits.{is_text_byte}
use Rattle.fl_c_operations.specs.After.{after_number}
use Rattle.fl_c_operations.proofs.After.{counted_none, counted_some}
use Rattle.fl_c_operations.proofs.tapes.after_text.Goals as goal

pub returns-in_default : goal.returns-in_default
returns-in_default c = record { exact = counted_none (after_number is_text_byte) c.args.most c.args.tape.now c.in_default.ensures.none }

pub returns : goal.returns
returns c = record {
  exact = c.after_bytes.ensures.exact ∙ counted_some (after_number is_text_byte) c.args.most c.args.tape.now c.in-Some.count c.in-Some.bytes.now c.in-Some.ensures.found;
}
