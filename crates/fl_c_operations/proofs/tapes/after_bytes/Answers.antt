use Rattle.std.proofs.Common.{arith}
use Rattle.fl_value_data.specs.Fits.{is_text_byte}
use Rattle.fl_c_operations.specs.After.{after_number, after_each}
use Rattle.fl_c_operations.proofs.After.{each_start, each_turn, each_stop, each_end}
use Rattle.fl_c_operations.proofs.tapes.after_bytes.Goals as goal

pub loop-done-init : goal.loop-done-init
loop-done-init c = each_start (after_number is_text_byte) c.args.count c.args.tape.now

pub loop-done-preserved : goal.loop-done-preserved
loop-done-preserved c =
    each_turn (after_number is_text_byte) c.args.count c.loop-done.done c.loop-done.rest.now c.in-Some.next.now
    (after_each (after_number is_text_byte) c.args.count c.args.tape.now) (omega (arith, c.loop-done-test.true)) c.in-Some.ensures.exact c.loop-done.invariant

pub returns-in_default : goal.returns-in_default
returns-in_default c = record {
  exact = each_stop (after_number is_text_byte) c.args.count c.loop-done.done c.loop-done.rest.now
      (after_each (after_number is_text_byte) c.args.count c.args.tape.now) (omega (arith, c.loop-done-test.true)) c.in_default.ensures.exact c.loop-done.invariant;
}

pub returns : goal.returns
returns c = record {
  exact = each_end (after_number is_text_byte) c.args.count c.loop-done.done c.loop-done.rest.now
      (after_each (after_number is_text_byte) c.args.count c.args.tape.now) (omega (arith, c.loop-done-test.false)) c.loop-done.invariant;
}
