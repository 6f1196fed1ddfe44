use Rattle.std.proofs.Common.{◌≡◌, ◌≤◌, ◌<◌, ◌+◌, ℕ, Bool, true, false, List, ◌∷◌, length, drop, map, get_or, arith, refl, ap, sym, ◌∙◌, eqb}
use Rattle.std.specs.Prelude.{◌&&◌}
use Rattle.std.proofs.lemmas.Bool.{ltb-true, ltb-false}
use Rattle.std.proofs.lemmas.List.{drop_all}
use Rattle.fl_interface.specs.declared.interface.FixedType.{FixedType}
use Rattle.fl_interface.specs.Interface.{TheType, type_of, fields_from}
use Rattle.fl_value_data.specs.Value.{Datum, datum_of, data_from}
use Rattle.fl_value_data.specs.declared.value.Value.{Value}
use Rattle.fl_value_data.specs.Fits.{has_type, have_types, all_have_type}
use Rattle.fl_value_data.proofs.Counting.{end_of_fields}
use Rattle.fl_value_data.proofs.Turns.{map_dropped}
use Rattle.fl_value_data.proofs.fitting.+types.Goals as goal

pub have_types-returns : goal.have_types-returns
have_types-returns t c =
    let values = c.args.values.now in
    let fields = c.args.fields.now in
    let index = c.loop-index.index in
    let all : index ≡ length values = omega arith in
    record {
      same = ap (λ n. eqb n (length fields)) (sym all)
          ∙ end_of_fields type_of fields index c.loop-index.invariant.1
          ∙ ap (λ (vs : List Value). have_types (fields_from (map type_of (drop index fields))) (data_from (map datum_of vs))) (sym (drop_all index values (omega arith)))
          ∙ c.loop-index.invariant.0;
    }

-- elements: the one at k, and those behind it
next_element : (type : TheType) (values : List Value) (k : ℕ) (value : Value) → k < length values → value ≡ get_or values k value
    → all_have_type type (data_from (map datum_of (drop k values))) ≡ (has_type type (datum_of value) && all_have_type type (data_from (map datum_of (drop (k + 1) values))))
next_element type values k value here is = ap (λ (ds : List Datum). all_have_type type (data_from ds)) (map_dropped datum_of values k value here is)

-- fields: the one at k, and those behind it
next_field : (fields : List FixedType) (values : List Value) (k : ℕ) (type : FixedType) (value : Value) → k < length fields → type ≡ get_or fields k type → k < length values → value ≡ get_or values k value
    → have_types (fields_from (map type_of (drop k fields))) (data_from (map datum_of (drop k values)))
    ≡ (has_type (type_of type) (datum_of value) && have_types (fields_from (map type_of (drop (k + 1) fields))) (data_from (map datum_of (drop (k + 1) values))))
next_field fields values k type value here is there as_well =
    ap (λ (ts : List TheType). have_types (fields_from ts) (data_from (map datum_of (drop k values)))) (map_dropped type_of fields k type here is)
    ∙ ap (λ (ds : List Datum). have_types (fields_from (type_of type ∷ map type_of (drop (k + 1) fields))) (data_from ds)) (map_dropped datum_of values k value there as_well)

goes_on : (first rest all whole : Bool) → first ≡ true → all ≡ (first && rest) → all ≡ whole → rest ≡ whole
goes_on first rest all whole e split is = sym (ap (λ (b : Bool). b && rest) e) ∙ sym split ∙ is

stops : (first rest all whole : Bool) → first ≡ false → all ≡ (first && rest) → all ≡ whole → false ≡ whole
stops first rest all whole e split is = sym (ap (λ (b : Bool). b && rest) e) ∙ sym split ∙ is

pub all_have_type-loop-value-init : goal.all_have_type-loop-value-init
all_have_type-loop-value-init t c = refl

pub all_have_type-returns-then-not-has_type : goal.all_have_type-returns-then-not-has_type
all_have_type-returns-then-not-has_type t c =
    let split = next_element (type_of c.args.fixed.now) c.args.values.now c.loop-value.value-index c.value-item.result c.loop-value-test.true c.value-item.is in
    record { same = stops _ _ _ _ (sym c.has_type.ensures.same ∙ c.if-not-has_type.true) split c.loop-value.invariant }

pub all_have_type-loop-value-preserved : goal.all_have_type-loop-value-preserved
all_have_type-loop-value-preserved t c =
    let split = next_element (type_of c.args.fixed.now) c.args.values.now c.loop-value.value-index c.value-item.result c.loop-value-test.true c.value-item.is in
    goes_on _ _ _ _ (sym c.has_type.ensures.same ∙ c.if-not-has_type.false) split c.loop-value.invariant

pub all_have_type-returns : goal.all_have_type-returns
all_have_type-returns t c = record {
  same = sym (ap (λ (vs : List Value). all_have_type (type_of c.args.fixed.now) (data_from (map datum_of vs))) (drop_all c.loop-value.value-index c.args.values.now c.loop-value-test.false)) ∙ c.loop-value.invariant;
}

pub have_types-loop-index-init : goal.have_types-loop-index-init
have_types-loop-index-init t c = (refl, omega arith)

pub have_types-returns-in_default : goal.have_types-returns-in_default
have_types-returns-in_default t c =
    let k = c.loop-index.index in
    let fields = c.args.fields.now in
    let values = c.args.values.now in
    let past : length fields ≤ k = ltb-false k (length fields) (sym c.in_default.ensures.lookup.0) in
    let later = map datum_of (drop (k + 1) values) in
    let split = map_dropped datum_of values k c.index-values-index.result c.loop-index-test.true c.index-values-index.is in
    record {
      same = sym (ap (λ (fs : List FixedType). have_types (fields_from (map type_of fs)) (data_from (datum_of c.index-values-index.result ∷ later))) (drop_all k fields past))
          ∙ sym (ap (λ (ds : List Datum). have_types (fields_from (map type_of (drop k fields))) (data_from ds)) split) ∙ c.loop-index.invariant.0;
    }

pub have_types-returns-then-not-has_type : goal.have_types-returns-then-not-has_type
have_types-returns-then-not-has_type t c =
    let k = c.loop-index.index in
    let there = ltb-true k (length c.args.fields.now) (sym c.in-Some.ensures.lookup.0) in
    let split = next_field c.args.fields.now c.args.values.now k c.in-Some.field.now c.index-values-index.result there c.in-Some.ensures.lookup.1 c.loop-index-test.true c.index-values-index.is in
    record { same = stops _ _ _ _ (sym c.has_type.ensures.same ∙ c.if-not-has_type.true) split c.loop-index.invariant.0 }

pub have_types-loop-index-preserved : goal.have_types-loop-index-preserved
have_types-loop-index-preserved t c =
    let k = c.loop-index.index in
    let there : k < length c.args.fields.now = ltb-true k (length c.args.fields.now) (sym c.in-Some.ensures.lookup.0) in
    let split = next_field c.args.fields.now c.args.values.now k c.in-Some.field.now c.index-values-index.result there c.in-Some.ensures.lookup.1 c.loop-index-test.true c.index-values-index.is in
    (goes_on _ _ _ _ (sym c.has_type.ensures.same ∙ c.if-not-has_type.false) split c.loop-index.invariant.0, omega arith)
