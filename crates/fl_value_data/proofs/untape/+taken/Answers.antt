use Rattle.std.proofs.Common.{◌≡◌, ◌++◌, ◌-◌, [], ◌∷◌, ℕ, List, suc, map, take, drop, replicate, arith, rules, sym, subst}
use Rattle.std.specs.Arc.{arc_value}
use Rattle.std.proofs.lemmas.Grind.{replicate_next}
use Rattle.std.proofs.lemmas.List.{take_all}
use Rattle.std.proofs.lemmas.Int.{to_z-of_z}
use mir.Syntax.{w128}
use mir.Val.{SFits, to_z, of_z}
use Rattle.fl_interface.specs.declared.interface.FixedType.{FixedType}
use Rattle.fl_interface.specs.declared.interface.FixedType.TheViews.{the_lemmas as type_lemmas}
use Rattle.fl_interface.specs.declared.interface.FixedType.TheFolds.{fold-roll-FixedType, fold_out-FixedType}
use Rattle.fl_value_data.specs.declared.value.Value.TheViews.{the_lemmas as value_lemmas}
use Rattle.fl_value_data.specs.declared.value.Value.TheFolds.{fold_out-Value}
use Rattle.fl_interface.specs.Interface.{TheType, type_step, type_of, scalar, enumeration, structure, array, fields_from}
use Rattle.fl_value_data.specs.Value.{Datum, datum_step, datum_of, data_from, number, fields, elements}
use Rattle.fl_value_data.specs.declared.value.Value.TheVariants.{Int, Fields, List as ListOf}
use Rattle.fl_value_data.specs.Taken.{ValueAt, InTurn, TheOne, NoneOf}
use Rattle.fl_value_data.proofs.Turns.{start_at, one_more, none_more, map_pushed, map_taken, map_around, replicate_around, struct_one, struct_none, array_one, array_none}
use Rattle.fl_value_data.proofs.Numbers.{number_pushed, number_back}
use Rattle.fl_value_data.proofs.untape.+taken.Goals as goal

pub read_fields-loop-field-preserved : goal.read_fields-loop-field-preserved
read_fields-loop-field-preserved t c =
    let field = c.field-item.result in
    let before = map type_of (take c.loop-field.field-index c.args.fields.now) in
    let found = rw c.in-Some-2.is at c.in_ok-value.ensures.found in
    let more = one_more ValueAt before (type_of field) c.args.tape.now (map datum_of c.loop-field.values.items) c.loop-field.rest.now (datum_of c.in-Some-2.value) c.in-Some-2.after.now c.loop-field.invariant found in
    let types = map_taken type_of c.args.fields.now c.loop-field.field-index field c.loop-field-test.true c.field-item.is in
    let values = map_pushed datum_of c.loop-field.values.items c.push-in-loop-field.new.self.items c.in-Some-2.value c.in_ok-push-2.ensures.items in
    subst (λ (ts : List TheType). TheOne (InTurn ValueAt ts c.args.tape.now) (map datum_of c.push-in-loop-field.new.self.items) c.in-Some-2.after.now) (sym types)
    (subst (λ (ds : List Datum). TheOne (InTurn ValueAt (before ++ type_of field ∷ []) c.args.tape.now) ds c.in-Some-2.after.now) (sym values) more)

pub read_fields-returns-in_default-2-clause-none : goal.read_fields-returns-in_default-2-clause-none
read_fields-returns-in_default-2-clause-none t c =
    let field = c.field-item.result in
    let before = map type_of (take c.loop-field.field-index c.args.fields.now) in
    let behind = map type_of (drop (suc c.loop-field.field-index) c.args.fields.now) in
    let none = rw c.in_default-2.is at c.in_ok-value.ensures.none in
    let nothing = none_more ValueAt before (type_of field) behind c.args.tape.now (map datum_of c.loop-field.values.items) c.loop-field.rest.now c.loop-field.invariant none in
    subst (λ (ts : List TheType). NoneOf (InTurn ValueAt ts c.args.tape.now)) (map_around type_of c.args.fields.now c.loop-field.field-index field c.loop-field-test.true c.field-item.is) nothing

pub read_fields-loop-field-preserved-in-Scalar : goal.read_fields-loop-field-preserved-in-Scalar
read_fields-loop-field-preserved-in-Scalar t c =
    let field = c.field-item.result in
    let before = map type_of (take c.loop-field.field-index c.args.fields.now) in
    let is : scalar c.in-Scalar.kind ≡ type_of field = search (rules, type_lemmas, fold-roll-FixedType TheType type_step, fold_out-FixedType TheType type_step) in
    let found = subst (λ (u : TheType). TheOne (ValueAt u c.loop-field.rest.now) (number c.in-Some.number) c.in-Some.after.now) is c.in-Some.ensures.found in
    let more = one_more ValueAt before (type_of field) c.args.tape.now (map datum_of c.loop-field.values.items) c.loop-field.rest.now (number c.in-Some.number) c.in-Some.after.now c.loop-field.invariant found in
    let types = map_taken type_of c.args.fields.now c.loop-field.field-index field c.loop-field-test.true c.field-item.is in
    let fits : SFits w128 c.in-Some.number = search rules in
    let values = number_pushed c.loop-field.values.items c.push.new.self.items _ c.in-Some.number c.in_ok-push.ensures.items (to_z-of_z w128 c.in-Some.number fits) in
    subst (λ (ts : List TheType). TheOne (InTurn ValueAt ts c.args.tape.now) (map datum_of c.push.new.self.items) c.in-Some.after.now) (sym types)
    (subst (λ (ds : List Datum). TheOne (InTurn ValueAt (before ++ type_of field ∷ []) c.args.tape.now) ds c.in-Some.after.now) (sym values) more)

pub read_fields-returns-in_default-read_scalar-clause-none : goal.read_fields-returns-in_default-read_scalar-clause-none
read_fields-returns-in_default-read_scalar-clause-none t c =
    let field = c.field-item.result in
    let before = map type_of (take c.loop-field.field-index c.args.fields.now) in
    let behind = map type_of (drop (suc c.loop-field.field-index) c.args.fields.now) in
    let is : scalar c.in-Scalar.kind ≡ type_of field = search (rules, type_lemmas, fold-roll-FixedType TheType type_step, fold_out-FixedType TheType type_step) in
    let none = subst (λ (u : TheType). NoneOf (ValueAt u c.loop-field.rest.now)) is c.in_default-read_scalar.ensures.none in
    let nothing = none_more ValueAt before (type_of field) behind c.args.tape.now (map datum_of c.loop-field.values.items) c.loop-field.rest.now c.loop-field.invariant none in
    subst (λ (ts : List TheType). NoneOf (InTurn ValueAt ts c.args.tape.now)) (map_around type_of c.args.fields.now c.loop-field.field-index field c.loop-field-test.true c.field-item.is) nothing

pub read_elements-loop-done-preserved : goal.read_elements-loop-done-preserved
read_elements-loop-done-preserved t c =
    let element = type_of c.args.element.now in
    let before = replicate c.loop-done.done element in
    let found = rw c.in-Some.is at c.in_ok-value.ensures.found in
    let more = one_more ValueAt before element c.args.tape.now (map datum_of c.loop-done.values.items) c.loop-done.rest.now (datum_of c.in-Some.value) c.in-Some.after.now c.loop-done.invariant found in
    let values = map_pushed datum_of c.loop-done.values.items c.push.new.self.items c.in-Some.value c.in_ok-push.ensures.items in
    subst (λ (ts : List TheType). TheOne (InTurn ValueAt ts c.args.tape.now) (map datum_of c.push.new.self.items) c.in-Some.after.now) (sym (replicate_next c.loop-done.done element))
    (subst (λ (ds : List Datum). TheOne (InTurn ValueAt (before ++ element ∷ []) c.args.tape.now) ds c.in-Some.after.now) (sym values) more)

pub read_elements-returns-in_default-2-clause-none : goal.read_elements-returns-in_default-2-clause-none
read_elements-returns-in_default-2-clause-none t c =
    let element = type_of c.args.element.now in
    let left = c.args.count - c.loop-done.done - 1 in
    let none = rw c.in_default-2.is at c.in_ok-value.ensures.none in
    let nothing = none_more ValueAt (replicate c.loop-done.done element) element (replicate left element) c.args.tape.now (map datum_of c.loop-done.values.items) c.loop-done.rest.now c.loop-done.invariant none in
    subst (λ (ts : List TheType). NoneOf (InTurn ValueAt ts c.args.tape.now)) (replicate_around element c.loop-done.done left c.args.count (omega arith)) nothing

pub read_value-returns-in_default-2-clause-none : goal.read_value-returns-in_default-2-clause-none
read_value-returns-in_default-2-clause-none t c =
    let ts = map type_of (arc_value c.in-Structure.fields).items in
    let is : structure (fields_from ts) ≡ type_of c.args.fixed.now = search (rules, type_lemmas, fold-roll-FixedType TheType type_step, fold_out-FixedType TheType type_step) in
    let none = rw (c.in_default-2.is, c.deref-in-Structure.ensures.value, c.deref.ensures) at c.in_ok-values-in-Structure.ensures.none in
    subst (λ (u : TheType). NoneOf (ValueAt u c.args.tape.now)) is (struct_none ts c.args.tape.now none)

pub read_value-returns-in-Some-2-clause-found : goal.read_value-returns-in-Some-2-clause-found
read_value-returns-in-Some-2-clause-found t c =
    let ts = map type_of (arc_value c.in-Structure.fields).items in
    let ds = map datum_of c.in-Some-2.values.items in
    let is : structure (fields_from ts) ≡ type_of c.args.fixed.now = search (rules, type_lemmas, fold-roll-FixedType TheType type_step, fold_out-FixedType TheType type_step) in
    let value : fields (data_from ds) ≡ datum_of (Fields c.in-Some-2.values) = search (rules, value_lemmas, fold_out-Value Datum datum_step) in
    let one = rw (c.in-Some-2.is, c.deref-in-Structure.ensures.value, c.deref.ensures) at c.in_ok-values-in-Structure.ensures.found in
    subst (λ (u : TheType). TheOne (ValueAt u c.args.tape.now) (datum_of (Fields c.in-Some-2.values)) c.in-Some-2.rest.now) is
    (subst (λ (d : Datum). TheOne (ValueAt (structure (fields_from ts)) c.args.tape.now) d c.in-Some-2.rest.now) value (struct_one ts c.args.tape.now ds c.in-Some-2.rest.now one))

pub read_value-returns-in_default-3-clause-none : goal.read_value-returns-in_default-3-clause-none
read_value-returns-in_default-3-clause-none t c =
    let element = type_of (arc_value c.in-Array.element) in
    let is : array c.in-Array.count element ≡ type_of c.args.fixed.now = search (rules, type_lemmas, fold-roll-FixedType TheType type_step, fold_out-FixedType TheType type_step) in
    let none = rw (c.in_default-3.is, c.deref-in-Array.ensures) at c.in_ok-values-in-Array.ensures.none in
    subst (λ (u : TheType). NoneOf (ValueAt u c.args.tape.now)) is (array_none c.in-Array.count element c.args.tape.now none)

pub read_value-returns-in-Some-3-clause-found : goal.read_value-returns-in-Some-3-clause-found
read_value-returns-in-Some-3-clause-found t c =
    let element = type_of (arc_value c.in-Array.element) in
    let ds = map datum_of c.in-Some-3.values.items in
    let is : array c.in-Array.count element ≡ type_of c.args.fixed.now = search (rules, type_lemmas, fold-roll-FixedType TheType type_step, fold_out-FixedType TheType type_step) in
    let value : elements (data_from ds) ≡ datum_of (ListOf c.in-Some-3.values) = search (rules, value_lemmas, fold_out-Value Datum datum_step) in
    let one = rw (c.in-Some-3.is, c.deref-in-Array.ensures) at c.in_ok-values-in-Array.ensures.found in
    subst (λ (u : TheType). TheOne (ValueAt u c.args.tape.now) (datum_of (ListOf c.in-Some-3.values)) c.in-Some-3.rest.now) is
    (subst (λ (d : Datum). TheOne (ValueAt (array c.in-Array.count element) c.args.tape.now) d c.in-Some-3.rest.now) value (array_one c.in-Array.count element c.args.tape.now ds c.in-Some-3.rest.now one))

pub read_fields-loop-field-init : goal.read_fields-loop-field-init
read_fields-loop-field-init t c = start_at ValueAt c.args.tape.now c.in_ok-values.values.items c.in_ok-values.ensures.items

pub read_fields-returns-clause-found : goal.read_fields-returns-clause-found
read_fields-returns-clause-found t c =
    let fields = c.args.fields.now in
    subst (λ (types : List FixedType). TheOne (InTurn ValueAt (map type_of types) c.args.tape.now) (map datum_of c.loop-field.values.items) c.loop-field.rest.now) (take_all c.loop-field.field-index fields c.loop-field-test.false) c.loop-field.invariant

pub read_elements-loop-done-init : goal.read_elements-loop-done-init
read_elements-loop-done-init t c = start_at ValueAt c.args.tape.now c.in_ok-values.values.items c.in_ok-values.ensures.items

pub read_elements-returns-clause-found : goal.read_elements-returns-clause-found
read_elements-returns-clause-found t c =
    let all : c.loop-done.done ≡ c.args.count = omega arith in
    subst (λ (n : ℕ). TheOne (InTurn ValueAt (replicate n (type_of c.args.element.now)) c.args.tape.now) (map datum_of c.loop-done.values.items) c.loop-done.rest.now) all c.loop-done.invariant

pub read_value-returns-in-Some-clause-found : goal.read_value-returns-in-Some-clause-found
read_value-returns-in-Some-clause-found t c =
    let number = c.in-Some.number in
    let is : scalar c.in-Scalar.scalar ≡ type_of c.args.fixed.now = search (rules, type_lemmas, fold-roll-FixedType TheType type_step, fold_out-FixedType TheType type_step) in
    let fits : SFits w128 number = search rules in
    subst (λ (u : TheType). TheOne (ValueAt u c.args.tape.now) (datum_of (Int (to_z w128 (of_z w128 number)))) c.in-Some.rest.now) is
    (subst (λ (d : Datum). TheOne (ValueAt (scalar c.in-Scalar.scalar) c.args.tape.now) d c.in-Some.rest.now) (number_back _ number (to_z-of_z w128 number fits)) c.in-Some.ensures.found)

pub read_value-returns-in_default-clause-none : goal.read_value-returns-in_default-clause-none
read_value-returns-in_default-clause-none t c =
    let is : scalar c.in-Scalar.scalar ≡ type_of c.args.fixed.now = search (rules, type_lemmas, fold-roll-FixedType TheType type_step, fold_out-FixedType TheType type_step) in
    subst (λ (u : TheType). NoneOf (ValueAt u c.args.tape.now)) is c.in_default.ensures.none

pub read_value-returns-in-Some-read_enumerator-clause-found : goal.read_value-returns-in-Some-read_enumerator-clause-found
read_value-returns-in-Some-read_enumerator-clause-found t c =
    let number = c.in-Some-read_enumerator.number in
    let rest = c.in-Some-read_enumerator.rest.now in
    let is : enumeration c.in-Enumeration.count ≡ type_of c.args.fixed.now = search (rules, type_lemmas, fold-roll-FixedType TheType type_step, fold_out-FixedType TheType type_step) in
    let fits : SFits w128 number = search rules in
    subst (λ (u : TheType). TheOne (ValueAt u c.args.tape.now) (datum_of (Int (to_z w128 (of_z w128 number)))) rest) is
    (subst (λ (d : Datum). TheOne (ValueAt (enumeration c.in-Enumeration.count) c.args.tape.now) d rest) (number_back _ number (to_z-of_z w128 number fits)) c.in-Some-read_enumerator.ensures.found)

pub read_value-returns-in_default-read_enumerator-clause-none : goal.read_value-returns-in_default-read_enumerator-clause-none
read_value-returns-in_default-read_enumerator-clause-none t c =
    let is : enumeration c.in-Enumeration.count ≡ type_of c.args.fixed.now = search (rules, type_lemmas, fold-roll-FixedType TheType type_step, fold_out-FixedType TheType type_step) in
    subst (λ (u : TheType). NoneOf (ValueAt u c.args.tape.now)) is c.in_default-read_enumerator.ensures.none

pub read_elements-returns-in-Scalar-clause-found : goal.read_elements-returns-in-Scalar-clause-found
read_elements-returns-in-Scalar-clause-found t c =
    let is : scalar c.in-Scalar.kind ≡ type_of c.args.element.now = search (rules, type_lemmas, fold-roll-FixedType TheType type_step, fold_out-FixedType TheType type_step) in
    let found = rw is at c.read_scalars.ensures.found in
    found

pub read_elements-returns-in-Scalar-clause-none : goal.read_elements-returns-in-Scalar-clause-none
read_elements-returns-in-Scalar-clause-none t c =
    let is : scalar c.in-Scalar.kind ≡ type_of c.args.element.now = search (rules, type_lemmas, fold-roll-FixedType TheType type_step, fold_out-FixedType TheType type_step) in
    let none = rw is at c.read_scalars.ensures.none in
    none
