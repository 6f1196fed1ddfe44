use Rattle.std.proofs.Common.{◌≡◌, ◌≤◌, ◌<◌, ◌+◌, ℕ, List, [], ◌∷◌, ◌++◌, length, map, drop, get_or, refl, ap, sym, subst, ◌∙◌, append-nil}
use Rattle.std.proofs.lemmas.Bool.{ltb-true, ltb-false}
use Rattle.std.proofs.lemmas.List.{drop_all}
use Rattle.fl_interface.specs.Interface.{TheType, TheTypes, no_more, field, type_of, fields_from}
use Rattle.fl_interface.specs.declared.interface.FixedType.{FixedType}
use Rattle.fl_value_data.specs.declared.value.Value.{Value}
use Rattle.fl_value_data.specs.Value.{Datum, Data, nothing_more, datum_of, data_from}
use Rattle.fl_value_data.specs.Tape.{value_tape, fields_tape, elements_tape}
use Rattle.fl_value_data.proofs.Turns.{map_dropped}
use Rattle.fl_value_data.proofs.Numbers.{one_more, no_elements}
use Rattle.fl_value_data.proofs.tape.+tapes.Goals as goal

no_fields : (k : ℕ) (types : List FixedType) (ds : Data) (tape whole : List ℕ) → length types ≤ k → tape ++ fields_tape (fields_from (map type_of (drop k types))) ds ≡ whole → tape ≡ whole
no_fields k types ds tape whole past all =
    sym (append-nil tape) ∙ ap (λ (ts : List FixedType). tape ++ fields_tape (fields_from (map type_of ts)) ds) (sym (drop_all k types past)) ∙ all

pub push_elements-loop-value-preserved : goal.push_elements-loop-value-preserved
push_elements-loop-value-preserved t c =
    let k = c.loop-value.value-index in
    let values = c.args.values.now in
    let type = type_of c.args.element.now in
    let value = c.value-item.result in
    let whole = c.args.tape.now.items ++ elements_tape type (data_from (map datum_of values)) in
    let all = subst (λ (ds : List Datum). c.loop-value.tape.items ++ elements_tape type (data_from ds) ≡ whole) (map_dropped datum_of values k value c.loop-value-test.true c.value-item.is) c.loop-value.invariant in
    one_more c.loop-value.tape.items c.push_value.new.tape.items (value_tape type (datum_of value)) (elements_tape type (data_from (map datum_of (drop (k + 1) values)))) whole c.in_ok-push_value.ensures.tape all

pub push_elements-returns : goal.push_elements-returns
push_elements-returns t c = record { tape = no_elements (type_of c.args.element.now) c.loop-value.value-index c.args.values.now c.loop-value.tape.items _ c.loop-value-test.false c.loop-value.invariant }

pub push_fields-returns : goal.push_fields-returns
push_fields-returns t c = record { tape = no_fields c.loop-index.index c.args.fields.now (data_from (map datum_of (drop c.loop-index.index c.args.values.now))) c.loop-index.tape.items _ c.loop-index-test.false c.loop-index.invariant }

no_data : (types : TheTypes) → fields_tape types nothing_more ≡ []
no_data no_more = refl
no_data (field t ts) = refl

no_values : (types : TheTypes) (k : ℕ) (values : List Value) (tape whole : List ℕ) → length values ≤ k → tape ++ fields_tape types (data_from (map datum_of (drop k values))) ≡ whole → tape ≡ whole
no_values types k values tape whole past all =
    sym (append-nil tape) ∙ ap (λ (xs : List ℕ). tape ++ xs) (sym (no_data types)) ∙ ap (λ (vs : List Value). tape ++ fields_tape types (data_from (map datum_of vs))) (sym (drop_all k values past)) ∙ all

next_field : (fields : List FixedType) (values : List Value) (k : ℕ) (type : FixedType) (value : Value) → k < length fields → type ≡ get_or fields k type → k < length values → value ≡ get_or values k value
    → fields_tape (fields_from (map type_of (drop k fields))) (data_from (map datum_of (drop k values)))
    ≡ value_tape (type_of type) (datum_of value) ++ fields_tape (fields_from (map type_of (drop (k + 1) fields))) (data_from (map datum_of (drop (k + 1) values)))
next_field fields values k type value here is there as_well =
    ap (λ (ts : List TheType). fields_tape (fields_from ts) (data_from (map datum_of (drop k values)))) (map_dropped type_of fields k type here is)
    ∙ ap (λ (ds : List Datum). fields_tape (fields_from (type_of type ∷ map type_of (drop (k + 1) fields))) (data_from ds)) (map_dropped datum_of values k value there as_well)

pub push_elements-loop-value-init : goal.push_elements-loop-value-init
push_elements-loop-value-init t c =
    ap (λ (xs : List ℕ). xs ++ elements_tape (type_of c.args.element.now) (data_from (map datum_of c.args.values.now))) c.in_ok-reserve.ensures.items

pub push_fields-loop-index-init : goal.push_fields-loop-index-init
push_fields-loop-index-init t c = refl

pub push_fields-returns-in_default : goal.push_fields-returns-in_default
push_fields-returns-in_default t c =
    let k = c.loop-index.index in
    let values = c.args.values.now in
    let past = ltb-false k (length values) (sym c.in_default.ensures.lookup.0) in
    record { tape = no_values (fields_from (map type_of (drop k c.args.fields.now))) k values c.loop-index.tape.items _ past c.loop-index.invariant }

pub push_fields-loop-index-preserved : goal.push_fields-loop-index-preserved
push_fields-loop-index-preserved t c =
    let k = c.loop-index.index in
    let fields = c.args.fields.now in
    let values = c.args.values.now in
    let type = c.index-fields-index.result in
    let value = c.in-Some.value.now in
    let there = ltb-true k (length values) (sym c.in-Some.ensures.lookup.0) in
    let split = next_field fields values k type value c.loop-index-test.true c.index-fields-index.is there c.in-Some.ensures.lookup.1 in
    one_more c.loop-index.tape.items c.push_fixed.new.tape.items (value_tape (type_of type) (datum_of value)) (fields_tape (fields_from (map type_of (drop (k + 1) fields))) (data_from (map datum_of (drop (k + 1) values)))) _
    c.in_ok-push_fixed.ensures.tape (ap (λ (xs : List ℕ). c.loop-index.tape.items ++ xs) (sym split) ∙ c.loop-index.invariant)
