use Rattle.std.proofs.Common.{◌+◌, refl, ap, subst, drop, map, arith}
use Rattle.fl_interface.specs.Interface.{TheTypes, type_of, fields_from}
use Rattle.fl_image.specs.Limits.{SoFar}
use Rattle.fl_image.proofs.Caps.{at_first}
use Rattle.fl_image.proofs.Places.{fields_from_place, at_end}
use Rattle.fl_image.proofs.limits.+measures.Goals as goal

pub measure_fields-loop-field-init : goal.measure_fields-loop-field-init
measure_fields-loop-field-init t c = at_first (record { size = 0; align = 1; depth = 0; arrays = 0 }) (fields_from (map type_of c.args.fields.now)) refl refl refl refl

pub measure_fields-loop-field-preserved : goal.measure_fields-loop-field-preserved
measure_fields-loop-field-preserved t c =
    let fields = c.args.fields.now in
    let k = c.loop-field.field-index in
    c.with_field-so_far.ensures.so_far (type_of c.field-item.result) (fields_from (map type_of (drop (k + 1) fields))) (fields_from (map type_of fields)) c.measure.ensures.measures
    (subst (λ (ts : TheTypes). SoFar c.loop-field.so_far ts (fields_from (map type_of fields))) (fields_from_place type_of fields k c.field-item.result c.loop-field-test.true c.field-item.is) c.loop-field.invariant)

pub measure_fields-returns : goal.measure_fields-returns
measure_fields-returns t c =
    let fields = c.args.fields.now in
    record {
      measures = c.of_fields.ensures.measures (fields_from (map type_of fields))
          (subst (λ (ts : TheTypes). SoFar c.loop-field.so_far ts (fields_from (map type_of fields))) (ap fields_from (at_end type_of fields c.loop-field.field-index (omega (arith, c.loop-field-test.false)))) c.loop-field.invariant);
    }

pub measure_array-returns : goal.measure_array-returns
measure_array-returns t c = record { measures = c.of_array.ensures.measures (type_of c.args.element.now) c.measure.ensures.measures }
