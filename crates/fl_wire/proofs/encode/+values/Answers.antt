use Rattle.std.proofs.Common.{◌∙◌, ◌++◌, ◌∷◌, [], List, length, map, ap, sym, rules, ◌≡◌, ℕ, ℤ}
use Rattle.std.proofs.lemmas.Slice.Zip.{zip_turn}
use Rattle.std.proofs.lemmas.List.{drop_all, length-append}
use Rattle.std.proofs.lemmas.Result.{on_ok_weaker}
use Rattle.fl_interface.specs.declared.interface.FixedType.TheViews.{the_lemmas}
use Rattle.fl_interface.specs.Interface.{TheType, fields_from, type_of}
use Rattle.fl_interface.specs.Sizes.{greatest_align}
use Rattle.fl_wire.proofs.Arguments.{align_along, types_align}
use Rattle.fl_wire.proofs.Encoding.{elements_left, elements_next, scalars_within, enumerators_within, scalars_leaves, enumerators_leaves}
use Rattle.fl_value_data.specs.Value.{datum_of, data_from}
use Rattle.fl_value_data.specs.declared.value.Value.{Value}
use Rattle.fl_layout.specs.Leaves.{elements_onto}
use Rattle.fl_wire.proofs.Turns.{element_fits, fields_left, field_written}
use Rattle.fl_wire.specs.Payload.{payload_bytes}
use mir.Syntax.{w128}
use mir.Val.{SFits}
use Rattle.std.proofs.lemmas.Int.{to_z-of_z}
use Rattle.fl_interface.specs.declared.interface.Scalar.{Scalar}
use Rattle.fl_interface.specs.Interface.{scalar}
use Rattle.fl_interface.specs.Sizes.{align_of}
use Rattle.fl_value_data.specs.Value.{Datum, number}
use Rattle.fl_layout.specs.Leaves.{Leaf, whole, bits_of, value_onto}
use denote.Ref.{Bor}
use Rattle.fl_interface.specs.declared.interface.FixedType.{FixedType}
use Rattle.fl_wire.proofs.Seen.{scalar_seen, enumeration_seen, int_seen}
use Rattle.fl_wire.proofs.encode.+values.Goals as goal

pub put_each-loop-value-preserved : goal.put_each-loop-value-preserved
put_each-loop-value-preserved t c =
    let type = type_of c.args.element.now in
    record {
      fit = elements_left type c.args.values.now c.loop-value.value-index c.value-item.result c.loop-value-test.true c.loop-value.invariant.fit;
      written = λ before old.
          let (now, shown, done) = c.loop-value.invariant.written before old in (
            _,
            c.in_ok-put_value.ensures.ok now shown,
            elements_next type c.args.values.now c.loop-value.value-index c.value-item.result now c.loop-value-test.true c.value-item.is ∙ done,
          );
    }

pub put_struct-put_gap-requires : goal.put_struct-put_gap-requires
put_struct-put_gap-requires t c =
    let ts = fields_from (map type_of c.args.fields.now) in
    record { align = align_along c.args.align (greatest_align ts) c.requires.aligned (types_align ts) }

pub put_struct-put_gap-requires-2 : goal.put_struct-put_gap-requires-2
put_struct-put_gap-requires-2 t c =
    let ts = fields_from (map type_of c.args.fields.now) in
    record { align = align_along c.args.align (greatest_align ts) c.requires.aligned (types_align ts) }

pub put_struct-returns : goal.put_struct-returns
put_struct-returns t c = record {
  ok = on_ok_weaker c.put_gap-2.result (λ last before old. last _ (c.in_ok-put_fields.ensures.ok _ (c.in_ok-put_gap.ensures.ok before old))) c.put_gap-2.ensures.ok;
}

pub put_elements-put_numbers-requires-clause-fit : goal.put_elements-put_numbers-requires-clause-fit
put_elements-put_numbers-requires-clause-fit t c =
    scalars_within (type_of c.args.element.now) c.in-Scalar.field-0 c.args.align c.args.values.now (ap type_of c.in-Scalar.is ∙ scalar_seen c.in-Scalar.field-0) c.requires.aligned c.requires.fit

pub put_elements-put_numbers-requires-in-Enumeration-clause-fit : goal.put_elements-put_numbers-requires-in-Enumeration-clause-fit
put_elements-put_numbers-requires-in-Enumeration-clause-fit t c =
    enumerators_within (type_of c.args.element.now) c.in-Enumeration.count c.args.values.now (ap type_of c.in-Enumeration.is ∙ enumeration_seen c.in-Enumeration.count) c.type_inv._count.fits c.requires.fit

pub put_elements-returns-in-Scalar : goal.put_elements-returns-in-Scalar
put_elements-returns-in-Scalar t c = record {
  ok = on_ok_weaker c.put_numbers.result
      (λ done before old. done before old
      ∙ ap payload_bytes (scalars_leaves (type_of c.args.element.now) c.in-Scalar.field-0 c.args.align c.args.values.now before (ap type_of c.in-Scalar.is ∙ scalar_seen c.in-Scalar.field-0) c.requires.aligned c.requires.fit))
      c.put_numbers.ensures.ok;
}

pub put_elements-returns-in-Enumeration : goal.put_elements-returns-in-Enumeration
put_elements-returns-in-Enumeration t c = record {
  ok = on_ok_weaker c.put_numbers-in-Enumeration.result
      (λ done before old. done before old
      ∙ ap payload_bytes (enumerators_leaves (type_of c.args.element.now) c.in-Enumeration.count c.args.values.now before (ap type_of c.in-Enumeration.is ∙ enumeration_seen c.in-Enumeration.count) c.requires.fit))
      c.put_numbers-in-Enumeration.ensures.ok;
}

pub put_each-put_value-requires : goal.put_each-put_value-requires
put_each-put_value-requires t c = (
  search (rules, the_lemmas),
  (
    c.requires.aligned,
    element_fits (type_of c.args.element.now) c.args.values.now c.loop-value.value-index c.value-item.result c.loop-value-test.true c.value-item.is c.loop-value.invariant.fit,
  ),
)

pub put_fields-loop-field-preserved : goal.put_fields-loop-field-preserved
put_fields-loop-field-preserved t c =
    let ts = c.args.fields.now in
    let vs = c.args.values.now in
    let n = length c.loop-field.yielded in
    let one : List (Bor FixedType × Bor Value) = (c.in-Some.field, c.in-Some.value) ∷ [] in
    let turn = zip_turn ts vs c.loop-field.yielded c.into_iter-field-iterator.result c.loop-field.field-iterator c.next.new.self _ (rw (c.into_iter-field-iterator.ensures.into_iter_gives, c.zip-field-items.ensures.first) c.iter.ensures.rest) (rw c.into_iter-field-iterator.ensures.into_iter_gives c.zip-field-items.ensures.second.0) c.loop-field.yielded_by _ c.in-Some.is c.next.ensures.steps in
    let next = length-append c.loop-field.yielded one in
    record {
      fit = fields_left ts vs n (length (c.loop-field.yielded ++ one)) c.in-Some.field.now c.in-Some.value.now next turn c.loop-field.invariant.fit;
      written = λ before old.
          let (now, shown, done) = c.loop-field.invariant.written before old in
          (_, c.in_ok-put_fixed.ensures.ok now shown, field_written ts vs n (length (c.loop-field.yielded ++ one)) c.in-Some.field.now c.in-Some.value.now next turn now ∙ done);
    }

pub put_each-returns : goal.put_each-returns
put_each-returns t c = record {
  ok = λ before old.
      let (now, shown, done) = c.loop-value.invariant.written before old in
      shown
      ∙ ap payload_bytes (sym (ap (λ (vs : List Value). elements_onto (type_of c.args.element.now) (data_from (map datum_of vs)) now) (drop_all c.loop-value.value-index c.args.values.now c.loop-value-test.false)) ∙ done);
}

-- a number's leaf is its value's
int_written : (t : TheType) (d : Datum) (s : Scalar) (z : ℤ) (width : ℕ) (before : List Leaf) → t ≡ scalar s → d ≡ number z → width ≡ align_of t
    → whole width (bits_of width z) ∷ before ≡ value_onto t d before
int_written t d s z width before is seen wide =
    ap (λ (w : ℕ). whole w (bits_of w z) ∷ before) (wide ∙ ap align_of is)
    ∙ sym (ap (λ (u : TheType). value_onto u d before) is ∙ ap (λ (e : Datum). value_onto (scalar s) e before) seen)

pub put_value-returns-in-Int : goal.put_value-returns-in-Int
put_value-returns-in-Int t c =
    let fits : SFits w128 c.in-Int.number = search rules in
    let ty = ap type_of c.in-Scalar.is ∙ scalar_seen c.in-Scalar.field-0 in
    let seen = ap datum_of c.in-Int.is ∙ int_seen c.in-Int.number in
    record {
      ok = on_ok_weaker c.put_int.result
          (λ done before old. done before old ∙ ap payload_bytes (ap (λ (z : ℤ). whole c.args.align (bits_of c.args.align z) ∷ before) (to_z-of_z w128 c.in-Int.number fits)
          ∙ int_written (type_of c.args.ty.now) (datum_of c.args.value.now) c.in-Scalar.field-0 c.in-Int.number c.args.align before ty seen c.requires.aligned))
          c.put_int.ensures.ok;
    }
