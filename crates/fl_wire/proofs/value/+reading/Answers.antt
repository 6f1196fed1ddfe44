use Rattle.std.proofs.Common.{◌≡◌, ℕ, rules, arith, map, refl, sym, subst, ap, ◌∙◌, IfOk, IfErr}
use Rattle.std.specs.Arc.{arc_value}
use Rattle.std.proofs.lemmas.Result.{err_from_is_err_and}
use Rattle.fl_interface.specs.Interface.{TheType, scalar, structure, array, type_of, type_step, fields_from}
use Rattle.fl_interface.specs.declared.interface.FixedType.TheViews.{the_lemmas}
use Rattle.fl_interface.specs.declared.interface.FixedType.TheFolds.{fold-roll-FixedType, fold_out-FixedType}
use Rattle.fl_interface.specs.Sizes.{greatest_align}
use Rattle.fl_value_data.specs.Value.{Datum, fields, elements, datum_of, data_from}
use Rattle.fl_wire.specs.Shapes.{nothing, padding, values_of, struct_from, elements_of, ReadAt, StopsAt}
use Rattle.fl_wire.proofs.Arguments.{align_along, types_align}
use Rattle.fl_wire.proofs.Steps.{first_stop, come_rest, come_done}
use Rattle.fl_wire.proofs.Parts.{pushed, elements_on, elements_stop, elements_end, fields_on, fields_stop, fields_end, begins_struct, begins_array, whole_read, struct_start, struct_fields, struct_stop}
use Rattle.fl_wire.proofs.Wides.{elements_start, fields_start}
use Rattle.fl_wire.proofs.Seen.{scalar_seen, structure_seen, fields_seen}
use Rattle.fl_wire.proofs.value.+reading.Goals as goal

pub read_each-returns-in_err-value-clause-stop : goal.read_each-returns-in_err-value-clause-stop
read_each-returns-in_err-value-clause-stop t c =
    let p = err_from_is_err_and c.from_residual-in_err-value.result c.from_residual-in_err-value.ensures.1 in
    rw (p.1, p.2) (elements_stop c.args.count c.loop-index._index (type_of c.args.element.now) c.args.frags.now c.args.at c.loop-index.end (map datum_of c.loop-index.values.items) c.in_err-value.field-0.0
    c.loop-index-test.true c.loop-index.invariant.come c.in_err-value.ensures.stop)

pub read_each-loop-index-preserved : goal.read_each-loop-index-preserved
read_each-loop-index-preserved t c = record {
  within = c.in_ok-value.ensures.within;
  later = omega (arith, c.loop-index.invariant.later, c.in_ok-value.ensures.later);
  come = elements_on c.args.count c.loop-index._index (type_of c.args.element.now) c.args.frags.now c.args.at c.loop-index.end c.in_ok-value.after (map datum_of c.loop-index.values.items) (map datum_of c.push.new.self.items)
      (datum_of c.in_ok-value.value) c.loop-index-test.true c.loop-index.invariant.come c.in_ok-value.ensures.later c.in_ok-value.ensures.within c.in_ok-value.ensures.read
      (pushed datum_of c.loop-index.values.items c.push.new.self.items c.in_ok-value.value c.in_ok-push.ensures.items);
}

pub read_each-returns-clause-read : goal.read_each-returns-clause-read
read_each-returns-clause-read t c =
    elements_end c.args.count c.loop-index._index (type_of c.args.element.now) c.args.frags.now c.args.at c.loop-index.end (map datum_of c.loop-index.values.items) c.loop-index-test.false c.loop-index.invariant.come

pub read_structs-loop-index-init : goal.read_structs-loop-index-init
read_structs-loop-index-init t c = record {
  within = c.requires.within;
  later = omega arith;
  aligned = c.greatest_alignment-align.ensures.exact;
  come = elements_start c.args.count 0 (structure (fields_from (map type_of c.args.fields.now))) c.args.frags.now c.args.at c.args.at (map datum_of c.in_ok-values.values.items) refl refl
      (ap (map datum_of) c.in_ok-values.ensures.items) c.requires.within;
}

pub read_structs-returns-in_err-value-clause-stop : goal.read_structs-returns-in_err-value-clause-stop
read_structs-returns-in_err-value-clause-stop t c =
    let p = err_from_is_err_and c.from_residual-in_err-value.result c.from_residual-in_err-value.ensures.1 in
    rw (p.1, p.2) (elements_stop c.args.count c.loop-index._index (structure (fields_from (map type_of c.args.fields.now))) c.args.frags.now c.args.at c.loop-index.end (map datum_of c.loop-index.values.items) c.in_err-value.field-0.0
    c.loop-index-test.true c.loop-index.invariant.come c.in_err-value.ensures.stop)

pub read_structs-loop-index-preserved : goal.read_structs-loop-index-preserved
read_structs-loop-index-preserved t c = record {
  within = c.in_ok-value.ensures.within;
  later = omega (arith, c.loop-index.invariant.later, c.in_ok-value.ensures.later);
  aligned = c.loop-index.invariant.aligned;
  come = elements_on c.args.count c.loop-index._index (structure (fields_from (map type_of c.args.fields.now))) c.args.frags.now c.args.at c.loop-index.end c.in_ok-value.after (map datum_of c.loop-index.values.items) (map datum_of c.push.new.self.items)
      (datum_of c.in_ok-value.value) c.loop-index-test.true c.loop-index.invariant.come c.in_ok-value.ensures.later c.in_ok-value.ensures.within c.in_ok-value.ensures.read
      (pushed datum_of c.loop-index.values.items c.push.new.self.items c.in_ok-value.value c.in_ok-push.ensures.items);
}

pub read_structs-returns-clause-read : goal.read_structs-returns-clause-read
read_structs-returns-clause-read t c =
    elements_end c.args.count c.loop-index._index (structure (fields_from (map type_of c.args.fields.now))) c.args.frags.now c.args.at c.loop-index.end (map datum_of c.loop-index.values.items) c.loop-index-test.false c.loop-index.invariant.come

pub read_fields-loop-field-init : goal.read_fields-loop-field-init
read_fields-loop-field-init t c =
    let made = c.in_ok-values.ensures in
    record {
      within = c.requires.within;
      later = omega arith;
      count = made.len;
      room = made.capacity;
      come = fields_start type_of c.args.fields.now c.args.frags.now c.args.at (map datum_of c.in_ok-values.values.items) (ap (map datum_of) made.items) c.requires.within;
    }

pub read_fields-push_reserved-requires : goal.read_fields-push_reserved-requires
read_fields-push_reserved-requires t c = omega (arith, c.loop-field.invariant.count, c.loop-field.invariant.room, c.loop-field-test.true)

pub read_fields-push_reserved-requires-in-loop-field : goal.read_fields-push_reserved-requires-in-loop-field
read_fields-push_reserved-requires-in-loop-field t c = omega (arith, c.loop-field.invariant.count, c.loop-field.invariant.room, c.loop-field-test.true)

pub read_fields-returns-in_err-number-clause-stop : goal.read_fields-returns-in_err-number-clause-stop
read_fields-returns-in_err-number-clause-stop t c =
    let is : scalar c.in-Scalar.kind ≡ type_of c.field-item.result = sym (ap type_of c.in-Scalar.is ∙ scalar_seen c.in-Scalar.kind) in
    let stop = c.in_err-number.field-0.0 in
    let p = err_from_is_err_and c.from_residual-in_err-number.result c.from_residual-in_err-number.ensures.1 in
    rw (p.1, p.2) (fields_stop type_of c.args.fields.now c.loop-field.field-index c.field-item.result c.args.frags.now c.args.at c.loop-field.end (map datum_of c.loop-field.values.items) stop
    c.loop-field-test.true c.field-item.is c.loop-field.invariant.come
    (subst (λ (u : TheType). StopsAt stop (values_of u) c.args.frags.now c.loop-field.end) is c.in_err-number.ensures.stop))

pub read_fields-loop-field-preserved-in-Scalar : goal.read_fields-loop-field-preserved-in-Scalar
read_fields-loop-field-preserved-in-Scalar t c =
    let is : scalar c.in-Scalar.kind ≡ type_of c.field-item.result = sym (ap type_of c.in-Scalar.is ∙ scalar_seen c.in-Scalar.kind) in
    let inv = c.loop-field.invariant in
    let read = c.in_ok-number.ensures in
    let next = c.in_ok-number.next in
    let xs = c.loop-field.values.items in
    let all = c.push_reserved.new.self.items in
    let v = c.in_ok-number.number in
    record {
      within = read.within;
      later = omega (arith, inv.later, read.later);
      count = omega (arith, c.push_reserved.ensures.len, inv.count);
      room = omega (arith, c.push_reserved.ensures.capacity, inv.room);
      come = fields_on type_of c.args.fields.now c.loop-field.field-index c.field-item.result c.args.frags.now c.args.at c.loop-field.end next (map datum_of xs) (map datum_of all) (datum_of v)
          c.loop-field-test.true c.field-item.is inv.come read.later read.within
          (subst (λ (u : TheType). ReadAt (values_of u) c.args.frags.now c.loop-field.end (datum_of v) next) is read.read)
          (pushed datum_of xs all v c.push_reserved.ensures.items);
    }

pub read_fields-returns-in_err-value-clause-stop : goal.read_fields-returns-in_err-value-clause-stop
read_fields-returns-in_err-value-clause-stop t c =
    let p = err_from_is_err_and c.from_residual-in_err-value.result c.from_residual-in_err-value.ensures.1 in
    rw (p.1, p.2) (fields_stop type_of c.args.fields.now c.loop-field.field-index c.field-item.result c.args.frags.now c.args.at c.loop-field.end (map datum_of c.loop-field.values.items) c.in_err-value.field-0.0
    c.loop-field-test.true c.field-item.is c.loop-field.invariant.come c.in_err-value.ensures.stop)

pub read_fields-loop-field-preserved : goal.read_fields-loop-field-preserved
read_fields-loop-field-preserved t c =
    let inv = c.loop-field.invariant in
    let read = c.in_ok-value.ensures in
    let xs = c.loop-field.values.items in
    let all = c.push_reserved-in-loop-field.new.self.items in
    record {
      within = read.within;
      later = omega (arith, inv.later, read.later);
      count = omega (arith, c.push_reserved-in-loop-field.ensures.len, inv.count);
      room = omega (arith, c.push_reserved-in-loop-field.ensures.capacity, inv.room);
      come = fields_on type_of c.args.fields.now c.loop-field.field-index c.field-item.result c.args.frags.now c.args.at c.loop-field.end c.in_ok-value.after (map datum_of xs) (map datum_of all)
          (datum_of c.in_ok-value.value) c.loop-field-test.true c.field-item.is inv.come read.later read.within read.read
          (pushed datum_of xs all c.in_ok-value.value c.push_reserved-in-loop-field.ensures.items);
    }

pub read_fields-returns-clause-read : goal.read_fields-returns-clause-read
read_fields-returns-clause-read t c =
    fields_end type_of c.args.fields.now c.loop-field.field-index c.args.frags.now c.args.at c.loop-field.end (map datum_of c.loop-field.values.items) c.loop-field-test.false c.loop-field.invariant.come

pub read_struct-read_padding-requires-clause-align : goal.read_struct-read_padding-requires-clause-align
read_struct-read_padding-requires-clause-align t c =
    let ts = fields_from (map type_of c.args.fields.now) in
    align_along c.args.align (greatest_align ts) c.requires.aligned (types_align ts)

pub read_struct-read_padding-requires-2-clause-align : goal.read_struct-read_padding-requires-2-clause-align
read_struct-read_padding-requires-2-clause-align t c =
    let ts = fields_from (map type_of c.args.fields.now) in
    align_along c.args.align (greatest_align ts) c.requires.aligned (types_align ts)

pub read_struct-returns-in_err-start-clause-stop : goal.read_struct-returns-in_err-start-clause-stop
read_struct-returns-in_err-start-clause-stop t c =
    let ts = fields_from (map type_of c.args.fields.now) in
    let frags = c.args.frags.now in
    let at = c.args.at in
    let stop = c.in_err-start.field-0.0 in
    let p = err_from_is_err_and c.from_residual.result c.from_residual.ensures.1 in
    rw (p.1, p.2) (first_stop (values_of (structure ts)) (padding (greatest_align ts)) (λ u. struct_from ts) frags at (λ u ds. fields ds) stop (begins_struct ts)
    (subst (λ (a : ℕ). StopsAt stop (padding a) frags at) c.requires.aligned c.in_err-start.ensures.stop))

pub read_struct-returns-in_err-values-clause-stop : goal.read_struct-returns-in_err-values-clause-stop
read_struct-returns-in_err-values-clause-stop t c =
    let ts = fields_from (map type_of c.args.fields.now) in
    let frags = c.args.frags.now in
    let at = c.args.at in
    let start = c.in_ok-start.start in
    let come = struct_start ts frags at start c.in_ok-start.ensures.later c.in_ok-start.ensures.within
    (subst (λ (a : ℕ). ReadAt (padding a) frags at tt start) c.requires.aligned c.in_ok-start.ensures.read) in
    let p = err_from_is_err_and c.from_residual-in_err-values.result c.from_residual-in_err-values.ensures.1 in
    rw (p.1, p.2) (struct_stop ts frags at start c.in_err-values.field-0.0 come c.in_err-values.ensures.stop)

pub read_struct-returns-in_err-end-clause-stop : goal.read_struct-returns-in_err-end-clause-stop
read_struct-returns-in_err-end-clause-stop t c =
    let ts = fields_from (map type_of c.args.fields.now) in
    let frags = c.args.frags.now in
    let at = c.args.at in
    let start = c.in_ok-start.start in
    let come = struct_start ts frags at start c.in_ok-start.ensures.later c.in_ok-start.ensures.within
    (subst (λ (a : ℕ). ReadAt (padding a) frags at tt start) c.requires.aligned c.in_ok-start.ensures.read) in
    let last = c.in_ok-values.last in
    let ds = data_from (map datum_of c.in_ok-values.values.items) in
    let on = struct_fields ts frags at start last ds come c.in_ok-values.ensures.later c.in_ok-values.ensures.within c.in_ok-values.ensures.read in
    let stop = c.in_err-end.field-0.0 in
    let p = err_from_is_err_and c.from_residual-in_err-end.result c.from_residual-in_err-end.ensures.1 in
    rw (p.1, p.2) (come_rest (values_of (structure ts)) (padding (greatest_align ts)) frags at last (λ u. fields ds) stop on
    (subst (λ (a : ℕ). StopsAt stop (padding a) frags last) c.requires.aligned c.in_err-end.ensures.stop))

pub read_struct-returns-clause-read : goal.read_struct-returns-clause-read
read_struct-returns-clause-read t c =
    let ts = fields_from (map type_of c.args.fields.now) in
    let frags = c.args.frags.now in
    let at = c.args.at in
    let start = c.in_ok-start.start in
    let come = struct_start ts frags at start c.in_ok-start.ensures.later c.in_ok-start.ensures.within
    (subst (λ (a : ℕ). ReadAt (padding a) frags at tt start) c.requires.aligned c.in_ok-start.ensures.read) in
    let last = c.in_ok-values.last in
    let ds = data_from (map datum_of c.in_ok-values.values.items) in
    let on = struct_fields ts frags at start last ds come c.in_ok-values.ensures.later c.in_ok-values.ensures.within c.in_ok-values.ensures.read in
    let end = c.in_ok-end.end in
    subst (λ (d : Datum). ReadAt (values_of (structure ts)) frags at d end) (sym c.fields_value.ensures.value)
    (come_done (values_of (structure ts)) (padding (greatest_align ts)) frags at last end (λ u. fields ds) tt on c.in_ok-end.ensures.later
    (subst (λ (a : ℕ). ReadAt (padding a) frags last tt end) c.requires.aligned c.in_ok-end.ensures.read))

pub read_elements-returns-in-Scalar-clause-read : goal.read_elements-returns-in-Scalar-clause-read
read_elements-returns-in-Scalar-clause-read t c =
    let is : scalar c.in-Scalar.kind ≡ type_of c.args.element.now = sym (ap type_of c.in-Scalar.is ∙ scalar_seen c.in-Scalar.kind) in
    subst (λ (u : TheType). IfOk c.read_scalars.result (λ r. ReadAt (elements_of c.args.count u) c.args.frags.now c.args.at (data_from (map datum_of r.0.items)) r.1)) is c.read_scalars.ensures.read

pub read_elements-returns-in-Scalar-clause-stop : goal.read_elements-returns-in-Scalar-clause-stop
read_elements-returns-in-Scalar-clause-stop t c =
    let is : scalar c.in-Scalar.kind ≡ type_of c.args.element.now = sym (ap type_of c.in-Scalar.is ∙ scalar_seen c.in-Scalar.kind) in
    subst (λ (u : TheType). IfErr c.read_scalars.result (λ stop. StopsAt stop (elements_of c.args.count u) c.args.frags.now c.args.at)) is c.read_scalars.ensures.stop

pub read_elements-returns-in-Structure-clause-read : goal.read_elements-returns-in-Structure-clause-read
read_elements-returns-in-Structure-clause-read t c =
    let ts = fields_from (map type_of (arc_value c.in-Structure.fields).items) in
    let ty : type_of c.args.element.now ≡ structure ts = ap type_of c.in-Structure.is ∙ structure_seen c.in-Structure.fields in
    let inner : fields_from (map type_of c.deref-in-Structure.result.now) ≡ ts = fields_seen c.in-Structure.fields c.deref.result.now c.deref-in-Structure.result.now c.deref.ensures c.deref-in-Structure.ensures.value in
    subst (λ (u : TheType). IfOk c.read_structs.result (λ r. ReadAt (elements_of c.args.count u) c.args.frags.now c.args.at (data_from (map datum_of r.0.items)) r.1)) (ap structure inner ∙ sym ty) c.read_structs.ensures.read

pub read_elements-returns-in-Structure-clause-stop : goal.read_elements-returns-in-Structure-clause-stop
read_elements-returns-in-Structure-clause-stop t c =
    let ts = fields_from (map type_of (arc_value c.in-Structure.fields).items) in
    let ty : type_of c.args.element.now ≡ structure ts = ap type_of c.in-Structure.is ∙ structure_seen c.in-Structure.fields in
    let inner : fields_from (map type_of c.deref-in-Structure.result.now) ≡ ts = fields_seen c.in-Structure.fields c.deref.result.now c.deref-in-Structure.result.now c.deref.ensures c.deref-in-Structure.ensures.value in
    subst (λ (u : TheType). IfErr c.read_structs.result (λ stop. StopsAt stop (elements_of c.args.count u) c.args.frags.now c.args.at)) (ap structure inner ∙ sym ty) c.read_structs.ensures.stop

pub read_value-returns-in-Structure-clause-read : goal.read_value-returns-in-Structure-clause-read
read_value-returns-in-Structure-clause-read t c =
    let ts = fields_from (map type_of (arc_value c.in-Structure.fields).items) in
    let ty : type_of c.args.ty.now ≡ structure ts = ap type_of c.in-Structure.is ∙ structure_seen c.in-Structure.fields in
    let inner : fields_from (map type_of c.deref-in-Structure-3.result.now) ≡ ts = fields_seen c.in-Structure.fields c.deref-in-Structure-2.result.now c.deref-in-Structure-3.result.now c.deref-in-Structure-2.ensures c.deref-in-Structure-3.ensures.value in
    subst (λ (u : TheType). IfOk c.read_struct.result (λ r. ReadAt (values_of u) c.args.frags.now c.args.at (datum_of r.0) r.1)) (ap structure inner ∙ sym ty) c.read_struct.ensures.read

pub read_value-returns-in-Structure-clause-stop : goal.read_value-returns-in-Structure-clause-stop
read_value-returns-in-Structure-clause-stop t c =
    let ts = fields_from (map type_of (arc_value c.in-Structure.fields).items) in
    let ty : type_of c.args.ty.now ≡ structure ts = ap type_of c.in-Structure.is ∙ structure_seen c.in-Structure.fields in
    let inner : fields_from (map type_of c.deref-in-Structure-3.result.now) ≡ ts = fields_seen c.in-Structure.fields c.deref-in-Structure-2.result.now c.deref-in-Structure-3.result.now c.deref-in-Structure-2.ensures c.deref-in-Structure-3.ensures.value in
    subst (λ (u : TheType). IfErr c.read_struct.result (λ stop. StopsAt stop (values_of u) c.args.frags.now c.args.at)) (ap structure inner ∙ sym ty) c.read_struct.ensures.stop

pub read_value-returns-in_err-values-in-Array-clause-stop : goal.read_value-returns-in_err-values-in-Array-clause-stop
read_value-returns-in_err-values-in-Array-clause-stop t c =
    let n = c.from.result in
    let e = type_of c.deref-in-Array.result.now in
    let ty : type_of c.args.ty.now ≡ array n e = search (rules, the_lemmas, fold-roll-FixedType TheType type_step, fold_out-FixedType TheType type_step) in
    let p = err_from_is_err_and c.from_residual.result c.from_residual.ensures.1 in
    let stop = c.in_err-values-in-Array.field-0.0 in
    rw (p.1, p.2) (subst (λ (u : TheType). StopsAt stop (values_of u) c.args.frags.now c.args.at) (sym ty)
    (first_stop (values_of (array n e)) (elements_of n e) (λ b. nothing) c.args.frags.now c.args.at (λ ds u. elements ds) stop (begins_array n e) c.in_err-values-in-Array.ensures.stop))

pub read_value-returns-in_ok-values-in-Array-clause-read : goal.read_value-returns-in_ok-values-in-Array-clause-read
read_value-returns-in_ok-values-in-Array-clause-read t c =
    let n = c.from.result in
    let e = type_of c.deref-in-Array.result.now in
    let ty : type_of c.args.ty.now ≡ array n e = search (rules, the_lemmas, fold-roll-FixedType TheType type_step, fold_out-FixedType TheType type_step) in
    let end = c.in_ok-values-in-Array.end in
    let ds = data_from (map datum_of c.in_ok-values-in-Array.values.items) in
    subst (λ (u : TheType). ReadAt (values_of u) c.args.frags.now c.args.at (datum_of c.list_value.result) end) (sym ty)
    (subst (λ (d : Datum). ReadAt (values_of (array n e)) c.args.frags.now c.args.at d end) (sym c.list_value.ensures.value)
    (whole_read (values_of (array n e)) (elements_of n e) c.args.frags.now c.args.at end (λ ds u. elements ds) ds (begins_array n e) c.in_ok-values-in-Array.ensures.later c.in_ok-values-in-Array.ensures.within c.in_ok-values-in-Array.ensures.read))

pub read_each-loop-index-init : goal.read_each-loop-index-init
read_each-loop-index-init t c = record {
  within = c.requires.within;
  later = omega arith;
  come = elements_start c.args.count 0 (type_of c.args.element.now) c.args.frags.now c.args.at c.args.at (map datum_of c.in_ok-values.values.items) refl refl (ap (map datum_of) c.in_ok-values.ensures.items) c.requires.within;
}
