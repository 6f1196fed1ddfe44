use Rattle.std.proofs.Common.{◌≡◌, ◌∙◌, ℕ, List, map, take, replicate, arith, rules, ap, sym, subst, IfOk}
use Rattle.std.specs.Arc.{arc_value}
use Rattle.std.proofs.lemmas.Grind.{replicate_next}
use Rattle.std.proofs.lemmas.List.{take_all}
use Rattle.std.proofs.lemmas.Int.{to_z-of_z}
use mir.Syntax.{w128}
use mir.Val.{SFits}
use Rattle.fl_interface.specs.declared.interface.FixedType.{FixedType}
use Rattle.fl_interface.specs.declared.interface.FixedType.TheViews.{the_lemmas as type_lemmas}
use Rattle.fl_interface.specs.declared.interface.FixedType.TheFolds.{fold-roll-FixedType, fold_out-FixedType}
use Rattle.fl_value_data.specs.declared.value.Value.TheViews.{the_lemmas as value_lemmas}
use Rattle.fl_value_data.specs.declared.value.Value.TheFolds.{fold_out-Value}
use Rattle.fl_interface.specs.Interface.{TheType, type_step, type_of, scalar, enumeration, structure, array, fields_from}
use Rattle.fl_value_data.specs.Value.{Datum, number, datum_step, datum_of, data_from, elements}
use Rattle.fl_value_data.specs.declared.value.Value.TheVariants.{List as ListOf}
use Rattle.fl_value_data.specs.Taken.{InTurn}
use Rattle.fl_value_data.proofs.Turns.{map_taken}
use Rattle.fl_value_unpack.specs.Reading.{PackedValueAt, OnlyOne}
use Rattle.fl_value_unpack.proofs.Onlys.{start_only, one_more, struct_only, array_only}
use Rattle.fl_value_unpack.proofs.Seen.{scalar_seen, structure_seen, fields_seen}
use Rattle.fl_value_unpack.proofs.value.+unpacked.Goals as goal

pub read_fields-loop-field-init : goal.read_fields-loop-field-init
read_fields-loop-field-init t c = record {
  count = c.in_ok-values.ensures.len;
  room = c.in_ok-values.ensures.capacity;
  only = start_only PackedValueAt c.args.tape.now c.in_ok-values.values.items c.in_ok-values.ensures.items;
}

pub read_fields-push_reserved-requires : goal.read_fields-push_reserved-requires
read_fields-push_reserved-requires t c = omega (arith, c.loop-field.invariant.count, c.loop-field.invariant.room, c.loop-field-test.true)

pub read_fields-push_reserved-requires-in-loop-field : goal.read_fields-push_reserved-requires-in-loop-field
read_fields-push_reserved-requires-in-loop-field t c = omega (arith, c.loop-field.invariant.count, c.loop-field.invariant.room, c.loop-field-test.true)

pub read_fields-loop-field-preserved-in-Scalar : goal.read_fields-loop-field-preserved-in-Scalar
read_fields-loop-field-preserved-in-Scalar t c =
    let is : scalar c.in-Scalar.kind ≡ type_of c.field-item.result = sym (ap type_of c.in-Scalar.is ∙ scalar_seen c.in-Scalar.kind) in
    let inv = c.loop-field.invariant in
    let read = c.read_scalar-number in
    let next = c.loop-field.rest.now in
    record {
      count = omega (arith, c.push_reserved.ensures.len, inv.count);
      room = omega (arith, c.push_reserved.ensures.capacity, inv.room);
      only = one_more PackedValueAt (map type_of (take c.loop-field.field-index c.args.fields.now)) _ (type_of c.field-item.result) c.args.tape.now c.loop-field.values.items c.push_reserved.new.self.items next
          read.result.1.now read.result.0 (map_taken type_of c.args.fields.now c.loop-field.field-index c.field-item.result c.loop-field-test.true c.field-item.is) c.push_reserved.ensures.items inv.only
          (subst (λ (u : TheType). OnlyOne (PackedValueAt u next) (datum_of read.result.0) read.result.1.now) is read.ensures.only);
    }

pub read_fields-loop-field-preserved : goal.read_fields-loop-field-preserved
read_fields-loop-field-preserved t c =
    let inv = c.loop-field.invariant in
    let all = c.push_reserved-in-loop-field in
    record {
      count = omega (arith, all.ensures.len, inv.count);
      room = omega (arith, all.ensures.capacity, inv.room);
      only = one_more PackedValueAt (map type_of (take c.loop-field.field-index c.args.fields.now)) _ (type_of c.field-item.result) c.args.tape.now c.loop-field.values.items all.new.self.items c.loop-field.rest.now
          c.in_ok-value.after.now c.in_ok-value.value (map_taken type_of c.args.fields.now c.loop-field.field-index c.field-item.result c.loop-field-test.true c.field-item.is) all.ensures.items inv.only c.in_ok-value.ensures.only;
    }

pub read_fields-returns : goal.read_fields-returns
read_fields-returns t c = record {
  only = subst (λ (types : List FixedType). OnlyOne (InTurn PackedValueAt (map type_of types) c.args.tape.now) (map datum_of c.loop-field.values.items) c.loop-field.rest.now)
      (take_all c.loop-field.field-index c.args.fields.now c.loop-field-test.false) c.loop-field.invariant.only;
}

pub read_struct-returns : goal.read_struct-returns
read_struct-returns t c =
    let ts = map type_of c.args.fields.now in
    record {
      only = subst (λ (d : Datum). OnlyOne (PackedValueAt (structure (fields_from ts)) c.args.tape.now) d c.in_ok-values.rest.now) (sym c.fields_value.ensures.value)
          (struct_only ts c.args.tape.now (map datum_of c.in_ok-values.values.items) c.in_ok-values.rest.now c.in_ok-values.ensures.only);
    }

pub read_structs-loop-done-init : goal.read_structs-loop-done-init
read_structs-loop-done-init t c = record {
  count = c.in_ok-values.ensures.len;
  room = omega (arith, c.in_ok-values.ensures.capacity);
  only = start_only PackedValueAt c.args.tape.now c.in_ok-values.values.items c.in_ok-values.ensures.items;
}

pub read_structs-push_reserved-requires : goal.read_structs-push_reserved-requires
read_structs-push_reserved-requires t c = omega (arith, c.loop-done.invariant.count, c.loop-done.invariant.room, c.loop-done-test.true)

pub read_structs-loop-done-preserved : goal.read_structs-loop-done-preserved
read_structs-loop-done-preserved t c =
    let inv = c.loop-done.invariant in
    let s = structure (fields_from (map type_of c.args.fields.now)) in
    record {
      count = omega (arith, c.push_reserved.ensures.len, inv.count);
      room = omega (arith, c.push_reserved.ensures.capacity, inv.room);
      only = one_more PackedValueAt (replicate c.loop-done.done s) _ s c.args.tape.now c.loop-done.values.items c.push_reserved.new.self.items c.loop-done.rest.now c.in_ok-value.after.now c.in_ok-value.value
          (replicate_next c.loop-done.done s) c.push_reserved.ensures.items inv.only c.in_ok-value.ensures.only;
    }

pub read_structs-returns : goal.read_structs-returns
read_structs-returns t c =
    let all : c.loop-done.done ≡ c.args.count = omega arith in
    record {
      only = subst (λ (n : ℕ). OnlyOne (InTurn PackedValueAt (replicate n (structure (fields_from (map type_of c.args.fields.now)))) c.args.tape.now) (map datum_of c.loop-done.values.items) c.loop-done.rest.now)
          all c.loop-done.invariant.only;
    }

pub read_each-loop-done-init : goal.read_each-loop-done-init
read_each-loop-done-init t c = record {
  count = c.in_ok-values.ensures.len;
  room = omega (arith, c.in_ok-values.ensures.capacity);
  only = start_only PackedValueAt c.args.tape.now c.in_ok-values.values.items c.in_ok-values.ensures.items;
}

pub read_each-push_reserved-requires : goal.read_each-push_reserved-requires
read_each-push_reserved-requires t c = omega (arith, c.loop-done.invariant.count, c.loop-done.invariant.room, c.loop-done-test.true)

pub read_each-loop-done-preserved : goal.read_each-loop-done-preserved
read_each-loop-done-preserved t c =
    let inv = c.loop-done.invariant in
    let e = type_of c.args.element.now in
    record {
      count = omega (arith, c.push_reserved.ensures.len, inv.count);
      room = omega (arith, c.push_reserved.ensures.capacity, inv.room);
      only = one_more PackedValueAt (replicate c.loop-done.done e) _ e c.args.tape.now c.loop-done.values.items c.push_reserved.new.self.items c.loop-done.rest.now c.in_ok-value.after.now c.in_ok-value.value
          (replicate_next c.loop-done.done e) c.push_reserved.ensures.items inv.only c.in_ok-value.ensures.only;
    }

pub read_each-returns : goal.read_each-returns
read_each-returns t c =
    let all : c.loop-done.done ≡ c.args.count = omega arith in
    record {
      only = subst (λ (n : ℕ). OnlyOne (InTurn PackedValueAt (replicate n (type_of c.args.element.now)) c.args.tape.now) (map datum_of c.loop-done.values.items) c.loop-done.rest.now) all c.loop-done.invariant.only;
    }

pub read_elements-returns-in-Scalar : goal.read_elements-returns-in-Scalar
read_elements-returns-in-Scalar t c =
    let is : scalar c.in-Scalar.kind ≡ type_of c.args.element.now = sym (ap type_of c.in-Scalar.is ∙ scalar_seen c.in-Scalar.kind) in
    record {
      only = subst (λ (u : TheType). IfOk c.read_scalars.result (λ r. OnlyOne (InTurn PackedValueAt (replicate c.args.count u) c.args.tape.now) (map datum_of r.0.items) r.1.now)) is c.read_scalars.ensures.only;
    }

pub read_elements-returns-in-Structure : goal.read_elements-returns-in-Structure
read_elements-returns-in-Structure t c =
    let ty = ap type_of c.in-Structure.is ∙ structure_seen c.in-Structure.fields in
    let inner = ap structure (fields_seen c.in-Structure.fields c.deref.result.now c.deref-in-Structure.result.now c.deref.ensures c.deref-in-Structure.ensures.value) in
    record {
      only = subst (λ (u : TheType). IfOk c.read_structs.result (λ r. OnlyOne (InTurn PackedValueAt (replicate c.args.count u) c.args.tape.now) (map datum_of r.0.items) r.1.now)) (inner ∙ sym ty) c.read_structs.ensures.only;
    }

pub read_value-returns-in-Scalar : goal.read_value-returns-in-Scalar
read_value-returns-in-Scalar t c =
    let is : scalar c.in-Scalar.kind ≡ type_of c.args.fixed.now = sym (ap type_of c.in-Scalar.is ∙ scalar_seen c.in-Scalar.kind) in
    record {
      only = subst (λ (u : TheType). OnlyOne (PackedValueAt u c.args.tape.now) (datum_of c.read_scalar-value.result.0) c.read_scalar-value.result.1.now) is c.read_scalar-value.ensures.only;
    }

pub read_value-returns-in-Enumeration : goal.read_value-returns-in-Enumeration
read_value-returns-in-Enumeration t c =
    let z = c.read_enumerator-number.result.0 in
    let rest = c.read_enumerator-number.result.1.now in
    let count = c.in-Enumeration.count in
    let fits : SFits w128 z = search rules in
    let value = c.int_value.ensures.value ∙ ap number (to_z-of_z w128 z fits) in
    let is : enumeration count ≡ type_of c.args.fixed.now = search (rules, type_lemmas, fold-roll-FixedType TheType type_step, fold_out-FixedType TheType type_step) in
    record {
      only = subst (λ (u : TheType). OnlyOne (PackedValueAt u c.args.tape.now) (datum_of c.int_value.result) rest) is
          (subst (λ (d : Datum). OnlyOne (PackedValueAt (enumeration count) c.args.tape.now) d rest) (sym value) (c.read_enumerator-number.ensures.only count (omega arith)));
    }

pub read_value-returns-in-Structure : goal.read_value-returns-in-Structure
read_value-returns-in-Structure t c =
    let ty = ap type_of c.in-Structure.is ∙ structure_seen c.in-Structure.fields in
    let inner = ap structure (fields_seen c.in-Structure.fields c.deref.result.now c.deref-in-Structure.result.now c.deref.ensures c.deref-in-Structure.ensures.value) in
    record {
      only = subst (λ (u : TheType). IfOk c.read_struct.result (λ r. OnlyOne (PackedValueAt u c.args.tape.now) (datum_of r.0) r.1.now)) (inner ∙ sym ty) c.read_struct.ensures.only;
    }

pub read_value-returns-in_ok-values-in-Array : goal.read_value-returns-in_ok-values-in-Array
read_value-returns-in_ok-values-in-Array t c =
    let element = type_of (arc_value c.in-Array.element) in
    let ds = map datum_of c.in_ok-values-in-Array.values.items in
    let rest = c.in_ok-values-in-Array.rest.now in
    let is : array c.in-Array.count element ≡ type_of c.args.fixed.now = search (rules, type_lemmas, fold-roll-FixedType TheType type_step, fold_out-FixedType TheType type_step) in
    let value : elements (data_from ds) ≡ datum_of (ListOf c.in_ok-values-in-Array.values) = search (rules, value_lemmas, fold_out-Value Datum datum_step) in
    let read = rw c.deref-in-Array.ensures at c.in_ok-values-in-Array.ensures.only in
    let one = subst (λ (n : ℕ). OnlyOne (InTurn PackedValueAt (replicate n element) c.args.tape.now) ds rest) c.from.ensures read in
    record {
      only = subst (λ (u : TheType). OnlyOne (PackedValueAt u c.args.tape.now) (datum_of (ListOf c.in_ok-values-in-Array.values)) rest) is
          (subst (λ (d : Datum). OnlyOne (PackedValueAt (array c.in-Array.count element) c.args.tape.now) d rest) value (array_only c.in-Array.count element c.args.tape.now ds rest one));
    }
