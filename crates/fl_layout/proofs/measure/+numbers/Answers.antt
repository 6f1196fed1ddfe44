use Rattle.std.proofs.Common.{rules, arith}
use Rattle.fl_interface.specs.declared.interface.FixedType.TheViews.{the_lemmas}
use Rattle.fl_interface.specs.Interface.{type_of}
use Rattle.fl_layout.proofs.Measures.{next_numbers}
use Rattle.fl_layout.proofs.measure.+numbers.Goals as goal

pub count_all_numbers-count_numbers-numbers-requires : goal.count_all_numbers-count_numbers-numbers-requires
count_all_numbers-count_numbers-numbers-requires t c =
    let e = next_numbers type_of c.args.fields.now c.loop-field.field-index c.loop-field.numbers c.field-item.result c.loop-field-test.true c.field-item.is c.loop-field.invariant in
    (search (rules, the_lemmas), omega (arith, e, c.requires.fits))

pub count_all_numbers-overflow_add-numbers : goal.count_all_numbers-overflow_add-numbers
count_all_numbers-overflow_add-numbers t c =
    let e = next_numbers type_of c.args.fields.now c.loop-field.field-index c.loop-field.numbers c.field-item.result c.loop-field-test.true c.field-item.is c.loop-field.invariant in
    omega (arith, e, c.requires.fits, c.count_numbers-numbers.ensures.exact)

pub count_all_numbers-loop-field-preserved : goal.count_all_numbers-loop-field-preserved
count_all_numbers-loop-field-preserved t c =
    let e = next_numbers type_of c.args.fields.now c.loop-field.field-index c.loop-field.numbers c.field-item.result c.loop-field-test.true c.field-item.is c.loop-field.invariant in
    omega (arith, e, c.count_numbers-numbers.ensures.exact)

pub count_all_numbers-loop-field-init : goal.count_all_numbers-loop-field-init
count_all_numbers-loop-field-init t c = omega arith
