use Rattle.std.proofs.Common.{List, map, refl, arith}
use Rattle.fl_interface.specs.Interface.{TheType, type_of, fields_from}
use Rattle.fl_c_operations.specs.After.{after_each, after_value, after_fields}
use Rattle.fl_c_operations.proofs.After.{each_start, each_turn, each_stop, each_end, all_turn, all_stop, all_end}
use Rattle.fl_c_operations.proofs.tapes.+after.Goals as goal

pub after_fields-loop-field-preserved : goal.after_fields-loop-field-preserved
after_fields-loop-field-preserved t c =
    all_turn (λ (ys : List TheType). after_fields (fields_from ys)) after_value (λ y ys tape. refl) type_of c.args.fields.now c.loop-field.field-index c.field-item.result
    c.loop-field.rest.now c.in-Some.next.now (after_fields (fields_from (map type_of c.args.fields.now)) c.args.tape.now) c.loop-field-test.true c.field-item.is
    c.in-Some.ensures.exact c.loop-field.invariant

pub after_fields-returns-in_default : goal.after_fields-returns-in_default
after_fields-returns-in_default t c = record {
  exact = all_stop (λ (ys : List TheType). after_fields (fields_from ys)) after_value (λ y ys tape. refl) type_of c.args.fields.now c.loop-field.field-index c.field-item.result
      c.loop-field.rest.now (after_fields (fields_from (map type_of c.args.fields.now)) c.args.tape.now) c.loop-field-test.true c.field-item.is c.in_default.ensures.exact c.loop-field.invariant;
}

pub after_fields-returns : goal.after_fields-returns
after_fields-returns t c = record {
  exact = all_end (λ (ys : List TheType). after_fields (fields_from ys)) (λ tape. refl) type_of c.args.fields.now c.loop-field.field-index c.loop-field.rest.now
      (after_fields (fields_from (map type_of c.args.fields.now)) c.args.tape.now) (omega (arith, c.loop-field-test.false)) c.loop-field.invariant;
}

pub after_elements-loop-done-init : goal.after_elements-loop-done-init
after_elements-loop-done-init t c = each_start (after_value (type_of c.args.element.now)) c.args.count c.args.tape.now

pub after_elements-loop-done-preserved : goal.after_elements-loop-done-preserved
after_elements-loop-done-preserved t c =
    each_turn (after_value (type_of c.args.element.now)) c.args.count c.loop-done.done c.loop-done.rest.now c.in-Some.next.now
    (after_each (after_value (type_of c.args.element.now)) c.args.count c.args.tape.now) (omega (arith, c.loop-done-test.true)) c.in-Some.ensures.exact c.loop-done.invariant

pub after_elements-returns-in_default : goal.after_elements-returns-in_default
after_elements-returns-in_default t c = record {
  exact = each_stop (after_value (type_of c.args.element.now)) c.args.count c.loop-done.done c.loop-done.rest.now
      (after_each (after_value (type_of c.args.element.now)) c.args.count c.args.tape.now) (omega (arith, c.loop-done-test.true)) c.in_default.ensures.exact c.loop-done.invariant;
}

pub after_elements-returns : goal.after_elements-returns
after_elements-returns t c = record {
  exact = each_end (after_value (type_of c.args.element.now)) c.args.count c.loop-done.done c.loop-done.rest.now
      (after_each (after_value (type_of c.args.element.now)) c.args.count c.args.tape.now) (omega (arith, c.loop-done-test.false)) c.loop-done.invariant;
}
