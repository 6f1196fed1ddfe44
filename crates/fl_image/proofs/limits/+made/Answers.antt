use Rattle.std.proofs.Common.{List, map, refl, arith}
use Rattle.fl_interface.specs.Limits.{is_well_made, are_well_made}
use Rattle.std.proofs.lemmas.Bool.{le-leb}
use Rattle.fl_interface.specs.Interface.{TheType, type_of, fields_from}
use Rattle.fl_image.proofs.Places.{count_view, not_few, goes_past, stops_at, all_passed}
use Rattle.fl_image.proofs.limits.+made.Goals as goal

pub is_well_made_of-returns-then-fields-le-MAX_LISTED : goal.is_well_made_of-returns-then-fields-le-MAX_LISTED
is_well_made_of-returns-then-fields-le-MAX_LISTED t c =
    record { exact = rw (count_view type_of c.args.fields.now, le-leb 1 _ c.if-fields-ge1.true, le-leb _ 32 c.if-fields-le-MAX_LISTED.true) c.are_well_made.ensures.exact }

pub is_well_made_of-returns-else-fields-le-MAX_LISTED : goal.is_well_made_of-returns-else-fields-le-MAX_LISTED
is_well_made_of-returns-else-fields-le-MAX_LISTED t c =
    record { exact = rw (count_view type_of c.args.fields.now) (not_few _ _ c.if-fields-ge1.true c.if-fields-le-MAX_LISTED.false) }

pub are_well_made-loop-field-preserved : goal.are_well_made-loop-field-preserved
are_well_made-loop-field-preserved t c = goes_past (λ (ys : List TheType). are_well_made (fields_from ys)) is_well_made (λ y ys. refl) type_of c.args.fields.now c.loop-field.field-index c.field-item.result (are_well_made (fields_from (map type_of c.args.fields.now))) c.loop-field-test.true c.field-item.is (cc) c.loop-field.invariant

pub are_well_made-returns-then-not-is_well_made : goal.are_well_made-returns-then-not-is_well_made
are_well_made-returns-then-not-is_well_made t c = record { exact = stops_at (λ (ys : List TheType). are_well_made (fields_from ys)) is_well_made (λ y ys. refl) type_of c.args.fields.now c.loop-field.field-index c.field-item.result (are_well_made (fields_from (map type_of c.args.fields.now))) c.loop-field-test.true c.field-item.is (cc) c.loop-field.invariant }

pub are_well_made-returns : goal.are_well_made-returns
are_well_made-returns t c = record { exact = all_passed (λ (ys : List TheType). are_well_made (fields_from ys)) refl type_of c.args.fields.now c.loop-field.field-index (are_well_made (fields_from (map type_of c.args.fields.now))) (omega (arith, c.loop-field-test.false)) c.loop-field.invariant }
