use Rattle.std.proofs.Common.{◌≡◌, ◌≤◌, ◌<◌, ◌+◌, ℕ, List, [], ◌∷◌, ◌++◌, length, map, drop, get_or, refl, ap, sym, subst, ◌∙◌, append-nil}
use Rattle.std.proofs.lemmas.Bool.{ltb-true, ltb-false}
use Rattle.std.proofs.lemmas.List.{drop_all}
use Rattle.fl_interface.specs.Interface.{TheType, TheTypes, no_more, field, type_of, fields_from}
use Rattle.fl_interface.specs.declared.interface.FixedType.{FixedType}
use Rattle.fl_value_data.specs.declared.value.Value.{Value}
use Rattle.fl_value_data.specs.Value.{Datum, Data, nothing_more, datum_of, data_from}
use Rattle.fl_value_tape.specs.Packed.{value_packed, fields_packed, elements_packed}
use Rattle.fl_value_data.proofs.Turns.{map_dropped}
use Rattle.fl_value_data.proofs.Numbers.{one_more}
use Rattle.fl_value_tape.proofs.Elements.{no_elements}
use Rattle.fl_value_tape.proofs.packing.+tapes.Goals as goal

no_fields : (k : ℕ) (types : List FixedType) (ds : Data) (tape whole : List ℕ) → length types ≤ k → tape ++ fields_packed (fields_from (map type_of (drop k types))) ds ≡ whole → tape ≡ whole
no_fields k types ds tape whole past all =
    sym (append-nil tape) ∙ ap (λ (ts : List FixedType). tape ++ fields_packed (fields_from (map type_of ts)) ds) (sym (drop_all k types past)) ∙ all

pub push_elements-loop-value-preserved : goal.push_elements-loop-value-preserved
push_elements-loop-value-preserved t c =
    let k = c.loop-value.value-index in
    let values = c.args.values.now in
    let type = type_of c.args.element.now in
    let value = c.value-item.result in
    let whole = c.args.out.now.items ++ elements_packed type (data_from (map datum_of values)) in
    let all = subst (λ (ds : List Datum). c.loop-value.out.items ++ elements_packed type (data_from ds) ≡ whole) (map_dropped datum_of values k value c.loop-value-test.true c.value-item.is) c.loop-value.invariant in
    one_more c.loop-value.out.items c.push_value.new.out.items (value_packed type (datum_of value)) (elements_packed type (data_from (map datum_of (drop (k + 1) values)))) whole c.in_ok-push_value.ensures.packed all

pub push_elements-returns : goal.push_elements-returns
push_elements-returns t c = record { packed = no_elements (type_of c.args.element.now) c.loop-value.value-index c.args.values.now c.loop-value.out.items _ c.loop-value-test.false c.loop-value.invariant }

pub push_fields-returns : goal.push_fields-returns
push_fields-returns t c = record { packed = no_fields c.loop-index.index c.args.fields.now (data_from (map datum_of (drop c.loop-index.index c.args.values.now))) c.loop-index.out.items _ c.loop-index-test.false c.loop-index.invariant }

no_data : (types : TheTypes) → fields_packed types nothing_more ≡ []
no_data no_more = refl
no_data (field t ts) = refl

no_values : (types : TheTypes) (k : ℕ) (values : List Value) (tape whole : List ℕ) → length values ≤ k → tape ++ fields_packed types (data_from (map datum_of (drop k values))) ≡ whole → tape ≡ whole
no_values types k values tape whole past all =
    sym (append-nil tape) ∙ ap (λ (xs : List ℕ). tape ++ xs) (sym (no_data types)) ∙ ap (λ (vs : List Value). tape ++ fields_packed types (data_from (map datum_of vs))) (sym (drop_all k values past)) ∙ all

next_field : (fields : List FixedType) (values : List Value) (k : ℕ) (type : FixedType) (value : Value) → k < length fields → type ≡ get_or fields k type → k < length values → value ≡ get_or values k value
    → fields_packed (fields_from (map type_of (drop k fields))) (data_from (map datum_of (drop k values)))
    ≡ value_packed (type_of type) (datum_of value) ++ fields_packed (fields_from (map type_of (drop (k + 1) fields))) (data_from (map datum_of (drop (k + 1) values)))
next_field fields values k type value here is there as_well =
    ap (λ (ts : List TheType). fields_packed (fields_from ts) (data_from (map datum_of (drop k values)))) (map_dropped type_of fields k type here is)
    ∙ ap (λ (ds : List Datum). fields_packed (fields_from (type_of type ∷ map type_of (drop (k + 1) fields))) (data_from ds)) (map_dropped datum_of values k value there as_well)

pub push_elements-loop-value-init : goal.push_elements-loop-value-init
push_elements-loop-value-init t c = refl

pub push_fields-loop-index-init : goal.push_fields-loop-index-init
push_fields-loop-index-init t c = refl

pub push_fields-returns-in_default : goal.push_fields-returns-in_default
push_fields-returns-in_default t c =
    let k = c.loop-index.index in
    let values = c.args.values.now in
    let past = ltb-false k (length values) (sym c.in_default.ensures.lookup.0) in
    record { packed = no_values (fields_from (map type_of (drop k c.args.fields.now))) k values c.loop-index.out.items _ past c.loop-index.invariant }

pub push_fields-loop-index-preserved : goal.push_fields-loop-index-preserved
push_fields-loop-index-preserved t c =
    let k = c.loop-index.index in
    let fields = c.args.fields.now in
    let values = c.args.values.now in
    let type = c.index-fields-index.result in
    let value = c.in-Some.value.now in
    let there = ltb-true k (length values) (sym c.in-Some.ensures.lookup.0) in
    let split = next_field fields values k type value c.loop-index-test.true c.index-fields-index.is there c.in-Some.ensures.lookup.1 in
    one_more c.loop-index.out.items c.push_fixed.new.out.items (value_packed (type_of type) (datum_of value)) (fields_packed (fields_from (map type_of (drop (k + 1) fields))) (data_from (map datum_of (drop (k + 1) values)))) _
    c.in_ok-push_fixed.ensures.packed (ap (λ (xs : List ℕ). c.loop-index.out.items ++ xs) (sym split) ∙ c.loop-index.invariant)
