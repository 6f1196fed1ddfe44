use Rattle.std.proofs.Common.{rules, ◌≡◌, map, refl, arith, ap, ◌∙◌}
use Rattle.fl_interface.specs.declared.interface.FixedType.TheViews.{the_lemmas}
use Rattle.fl_interface.specs.Interface.{type_of, fields_from}
use Rattle.fl_interface.specs.Sizes.{round_up, align_of}
use Rattle.fl_interface.proofs.FieldSizes.{field_fits}
use Rattle.fl_interface.proofs.Aligned.{some_greatest}
use Rattle.fl_interface.proofs.+sizes.Goals as goal

pub sizes::measures_of_fields-loop-field-init : goal.sizes::measures_of_fields-loop-field-init
sizes::measures_of_fields-loop-field-init t c = record {
  ended = refl;
  aligned = omega (arith, (some_greatest (fields_from (map type_of c.args.fields.now))).0);
  some = omega arith;
  few = omega arith;
}

pub sizes::measures_of_fields-next_multiple_of-requires-clause-fits : goal.sizes::measures_of_fields-next_multiple_of-requires-clause-fits
sizes::measures_of_fields-next_multiple_of-requires-clause-fits t c =
    let f = field_fits type_of c.args.fields.now c.loop-field.field-index c.loop-field.end c.field-item.result c.loop-field-test.true c.field-item.is c.requires.fits c.loop-field.invariant.ended in
    let at = ap (round_up c.loop-field.end) c.measures-size.ensures.align in
    omega (arith, f.start, at)

pub sizes::measures_of_fields-measures-size-requires : goal.sizes::measures_of_fields-measures-size-requires
sizes::measures_of_fields-measures-size-requires t c =
    let f = field_fits type_of c.args.fields.now c.loop-field.field-index c.loop-field.end c.field-item.result c.loop-field-test.true c.field-item.is c.requires.fits c.loop-field.invariant.ended in
    (search (rules, the_lemmas), f.size)

pub sizes::measures_of_fields-overflow_add-end : goal.sizes::measures_of_fields-overflow_add-end
sizes::measures_of_fields-overflow_add-end t c =
    let f = field_fits type_of c.args.fields.now c.loop-field.field-index c.loop-field.end c.field-item.result c.loop-field-test.true c.field-item.is c.requires.fits c.loop-field.invariant.ended in
    let at : c.next_multiple_of.result ≡ round_up c.loop-field.end (align_of (type_of c.field-item.result)) = c.next_multiple_of.ensures.value ∙ ap (round_up c.loop-field.end) c.measures-size.ensures.align in
    omega (arith, f.ended, at, c.measures-size.ensures.size)
