use Rattle.std.proofs.Common.{◌≡◌, ◌-◌}
use Rattle.fl_value_data.specs.Fits.{is_text_byte}
use Rattle.fl_c_operations.specs.After.{after_number, after_each}
use Rattle.fl_c_operations.proofs.tapes.after_bytes.Given as goal

abbrev pub invariant-loop-done : goal.invariant-loop-done
invariant-loop-done l = after_each (after_number is_text_byte) (l.count - l.done) l.rest ≡ after_each (after_number is_text_byte) l.count l.tape
