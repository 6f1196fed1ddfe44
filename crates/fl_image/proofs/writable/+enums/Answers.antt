use Rattle.std.proofs.Common.{List, map, refl, arith}
use Rattle.fl_interface.specs.Interface.{TheType, type_of, fields_from}
use Rattle.fl_image.specs.Image.{has_short_enums, have_short_enums}
use Rattle.fl_image.proofs.Places.{goes_past, stops_at, all_passed}
use Rattle.fl_image.proofs.writable.+enums.Goals as goal

pub have_short_enums-loop-field-preserved : goal.have_short_enums-loop-field-preserved
have_short_enums-loop-field-preserved t c = goes_past (λ (ys : List TheType). have_short_enums (fields_from ys)) has_short_enums (λ y ys. refl) type_of c.args.fields.now c.loop-field.field-index c.field-item.result (have_short_enums (fields_from (map type_of c.args.fields.now))) c.loop-field-test.true c.field-item.is (cc) c.loop-field.invariant

pub have_short_enums-returns-then-not-has_short_enums : goal.have_short_enums-returns-then-not-has_short_enums
have_short_enums-returns-then-not-has_short_enums t c = record { exact = stops_at (λ (ys : List TheType). have_short_enums (fields_from ys)) has_short_enums (λ y ys. refl) type_of c.args.fields.now c.loop-field.field-index c.field-item.result (have_short_enums (fields_from (map type_of c.args.fields.now))) c.loop-field-test.true c.field-item.is (cc) c.loop-field.invariant }

pub have_short_enums-returns : goal.have_short_enums-returns
have_short_enums-returns t c = record { exact = all_passed (λ (ys : List TheType). have_short_enums (fields_from ys)) refl type_of c.args.fields.now c.loop-field.field-index (have_short_enums (fields_from (map type_of c.args.fields.now))) (omega (arith, c.loop-field-test.false)) c.loop-field.invariant }
