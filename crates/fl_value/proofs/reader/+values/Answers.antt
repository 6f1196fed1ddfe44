use Rattle.std.proofs.Common.{rules, pos, ℕ, ℤ, List, [], ◌∷◌, ◌++◌, ◌≡◌, ◌≤◌, ◌-◌, map, arith, refl, ap, sym, subst, ◌∙◌}
use Rattle.std.proofs.lemmas.Int.{to_z-of_z}
use mir.Syntax.{w128}
use mir.Val.{SFits}
use Rattle.std.proofs.lemmas.Result.{err_from_is_err_and}
use Rattle.fl_value_data.specs.declared.value.Value.{Value}
use Rattle.fl_value_data.specs.declared.value.Value.TheVariants.{Int, Text, List as ListOf, Fields}
use Rattle.fl_value_data.specs.declared.value.Value.TheViews.{the_lemmas}
use Rattle.fl_value_data.specs.declared.value.Value.TheFolds.{fold_out-Value}
use Rattle.fl_value_data.specs.Value.{Datum, number, string, elements, fields, datum_step, datum_of, data_from}
use Rattle.fl_value.specs.CallText.{SpellsValue, SpellsValues, Listed, Token, a_number, a_text, a_mark, depth_of, greatest_depth}
use Rattle.fl_value_data.proofs.Numbers.{number_back}
use Rattle.fl_value.proofs.Once.{token_shorter, differ}
use Rattle.fl_value.proofs.Nested.{Commas, values_last, depth_last, commas_more, commas_end, no_value, no_mark, refuse_weaker, no_kind, not_enclosed, other_opened, not_inside}
use Rattle.fl_value.proofs.reader.+values.Goals as goal

pub read_nested-returns-in_err-found-clause-fault : goal.read_nested-returns-in_err-found-clause-fault
read_nested-returns-in_err-found-clause-fault t c =
    let p = err_from_is_err_and c.from_residual.result c.from_residual.ensures.1 in
    let nothing = not_inside c.args.opening c.args.closing c.args.depth (c.args.depth - 1) c.args.bytes.now c.in-Some.inside.now c.in-Some.ensures.found (omega arith) in
    rw (p.1, p.2) (refuse_weaker c.in_err-found.field-0.0 nothing c.in_err-found.ensures.fault)

pub read_nested-returns-in_err-found-clause-opened : goal.read_nested-returns-in_err-found-clause-opened
read_nested-returns-in_err-found-clause-opened t c =
    let p = err_from_is_err_and c.from_residual.result c.from_residual.ensures.1 in
    rw p.1 (c.in-Some.inside.now, c.in-Some.ensures.found)

pub read_value-returns-in-Some-2-clause-shorter : goal.read_value-returns-in-Some-2-clause-shorter
read_value-returns-in-Some-2-clause-shorter t c =
    let found = rw c.in-Some-2.is at c.in_ok-text.ensures.found in
    token_shorter (a_text c.in-Some-2.text.items) c.args.bytes.now c.in-Some-2.rest.now found

pub read_value-returns-in_err-values-clause-fault : goal.read_value-returns-in_err-values-clause-fault
read_value-returns-in_err-values-clause-fault t c =
    let p = err_from_is_err_and c.from_residual-in_err-values.result c.from_residual-in_err-values.ensures.1 in
    let no_text = rw c.in_default-2.is at c.in_ok-text.ensures.none in
    let opened = c.in_err-values.ensures.opened in
    let others = other_opened 91 123 125 c.args.depth c.args.bytes.now opened.0 (differ 91 123 refl) opened.1 in
    rw (p.1, p.2) (refuse_weaker c.in_err-values.field-0.0 (λ lists. no_kind c.args.bytes.now c.args.depth c.in_default.ensures.none no_text lists others) c.in_err-values.ensures.fault)

pub read_value-returns-in_err-values-2-clause-fault : goal.read_value-returns-in_err-values-2-clause-fault
read_value-returns-in_err-values-2-clause-fault t c =
    let p = err_from_is_err_and c.from_residual-in_err-values-2.result c.from_residual-in_err-values-2.ensures.1 in
    let no_text = rw c.in_default-2.is at c.in_ok-text.ensures.none in
    let no_list = rw c.in_default-3.is at c.in_ok-values.ensures.none in
    let nothing = no_kind c.args.bytes.now c.args.depth c.in_default.ensures.none no_text (not_enclosed 91 93 c.args.depth c.args.bytes.now no_list) in
    rw (p.1, p.2) (refuse_weaker c.in_err-values-2.field-0.0 nothing c.in_err-values-2.ensures.fault)

pub read_value-returns-clause-fault : goal.read_value-returns-clause-fault
read_value-returns-clause-fault t c =
    let no_text = rw c.in_default-2.is at c.in_ok-text.ensures.none in
    let no_list = rw c.in_default-3.is at c.in_ok-values.ensures.none in
    let no_struct = rw c.in_default-4.is at c.in_ok-values-2.ensures.none in
    no_kind c.args.bytes.now c.args.depth c.in_default.ensures.none no_text (not_enclosed 91 93 c.args.depth c.args.bytes.now no_list) (not_enclosed 123 125 c.args.depth c.args.bytes.now no_struct)

pub read_values-returns-in_err-after-clause-fault : goal.read_values-returns-in_err-after-clause-fault
read_values-returns-in_err-after-clause-fault t c =
    let p = err_from_is_err_and c.from_residual-in_err-after.result c.from_residual-in_err-after.ensures.1 in
    let values = data_from (map datum_of c.loop-values.values.items) in
    let nothing = no_value values c.args.closing c.args.depth c.args.bytes.now c.loop-values.start.now c.requires.closing c.loop-values.invariant.before c.loop-values.invariant.unclosed in
    rw (p.1, p.2) (refuse_weaker c.in_err-after.field-0.0 nothing c.in_err-after.ensures.fault)

pub read_values-returns-in_default-read_mark-2-clause-fault : goal.read_values-returns-in_default-read_mark-2-clause-fault
read_values-returns-in_default-read_mark-2-clause-fault t c =
    let p = c.in_ok-after.ensures.found in
    let values = data_from (map datum_of c.loop-values.values.items) in
    no_mark values (datum_of p.value) c.args.closing c.args.depth c.args.bytes.now c.loop-values.start.now c.in_ok-after.after.now c.requires.closing c.loop-values.invariant.before c.loop-values.invariant.unclosed p.spelled c.in_default-read_mark.ensures.none c.in_default-read_mark-2.ensures.none

pub read_values-returns-in_default-read_mark-clause-found : goal.read_values-returns-in_default-read_mark-clause-found
read_values-returns-in_default-read_mark-clause-found t c =
    let p = c.in_ok-after.ensures.found in
    let values = data_from (map datum_of c.loop-values.values.items) in
    let all = commas_end values (datum_of p.value) c.args.bytes.now c.loop-values.start.now c.in_ok-after.after.now c.loop-values.invariant.before p.spelled in
    let same = ap (λ vs. data_from (map datum_of vs)) p.items ∙ values_last c.loop-values.values.items p.value in
    (c.in_ok-after.after.now, subst (λ ds. SpellsValues ds c.args.bytes.now c.in_ok-after.after.now) (sym same) all, c.in-Some-read_mark-2.ensures.found)

pub read_values-returns-in_default-read_mark-clause-shallow : goal.read_values-returns-in_default-read_mark-clause-shallow
read_values-returns-in_default-read_mark-clause-shallow t c =
    let p = c.in_ok-after.ensures.found in
    let values = data_from (map datum_of c.loop-values.values.items) in
    let same = ap (λ vs. data_from (map datum_of vs)) p.items ∙ values_last c.loop-values.values.items p.value in
    subst (λ ds. greatest_depth ds ≤ c.args.depth) (sym same) (depth_last values (datum_of p.value) c.args.depth c.loop-values.invariant.shallow p.shallow)

pub read_values-loop-values-preserved : goal.read_values-loop-values-preserved
read_values-loop-values-preserved t c =
    let p = c.in_ok-after.ensures.found in
    let values = data_from (map datum_of c.loop-values.values.items) in
    let value = datum_of p.value in
    let same = ap (λ vs. data_from (map datum_of vs)) p.items ∙ values_last c.loop-values.values.items p.value in
    record {
      before = subst (λ ds. Commas ds c.args.bytes.now c.in-Some-read_mark.next.now) (sym same) (commas_more values value c.args.bytes.now c.loop-values.start.now c.in_ok-after.after.now c.in-Some-read_mark.next.now c.loop-values.invariant.before p.spelled c.in-Some-read_mark.ensures.found);
      shallow = subst (λ ds. greatest_depth ds ≤ c.args.depth) (sym same) (depth_last values value c.args.depth c.loop-values.invariant.shallow p.shallow);
      near = omega (arith, c.loop-values.invariant.near, p.shorter, c.in-Some-read_mark.ensures.shorter);
      unclosed = c.loop-values.invariant.unclosed;
    }

pub push_value-returns-clause-found : goal.push_value-returns-clause-found
push_value-returns-clause-found t c =
    let seen : datum_of (Int (pos c.in-Some.number)) ≡ number (pos c.in-Some.number) = search (rules, the_lemmas, fold_out-Value Datum datum_step) in
    let found = c.in-Some.ensures.found in
    let fits : SFits w128 c.from.result = search rules in
    record {
      value = Int (pos c.in-Some.number);
      items = c.in_ok-push.ensures.items ∙ ap (λ (z : ℤ). c.args.values.now.items ++ Int z ∷ []) (to_z-of_z w128 c.from.result fits ∙ c.from.ensures);
      spelled = subst (λ (d : Datum). SpellsValue d c.args.bytes.now c.in-Some.rest.now) (sym seen) found;
      shallow = subst (λ (d : Datum). depth_of d ≤ c.args.depth) (sym seen) (omega arith);
      shorter = token_shorter (a_number (pos c.in-Some.number)) c.args.bytes.now c.in-Some.rest.now found;
    }

-- no values yet
no_commas : (values : List Value) (bytes : List ℕ) → values ≡ [] → Commas (data_from (map datum_of values)) bytes bytes
no_commas values bytes none = subst (λ (vs : List Value). Commas (data_from (map datum_of vs)) bytes bytes) (sym none) refl

not_deep : (values : List Value) (depth : ℕ) → values ≡ [] → greatest_depth (data_from (map datum_of values)) ≤ depth
not_deep values depth none = subst (λ (vs : List Value). greatest_depth (data_from (map datum_of vs)) ≤ depth) (sym none) (omega arith)

closed_at_once : (closing : ℕ) (values : List Value) (bytes rest : List ℕ) → values ≡ [] → Token (a_mark closing) bytes rest → Listed closing (data_from (map datum_of values)) bytes rest
closed_at_once closing values bytes rest none t = subst (λ (vs : List Value). Listed closing (data_from (map datum_of vs)) bytes rest) (sym none) (bytes, refl, t)

pub push_any-returns-clause-found : goal.push_any-returns-clause-found
push_any-returns-clause-found t c = record {
  value = c.in_ok-value.value;
  items = c.in_ok-push.ensures.items;
  spelled = c.in_ok-value.ensures.found;
  shallow = c.in_ok-value.ensures.shallow;
  shorter = c.in_ok-value.ensures.shorter;
}

pub push_any-returns-in_err-value-clause-fault : goal.push_any-returns-in_err-value-clause-fault
push_any-returns-in_err-value-clause-fault t c =
    let p = err_from_is_err_and c.from_residual.result c.from_residual.ensures.1 in
    rw (p.1, p.2) c.in_err-value.ensures.fault

pub push_value-returns-in-Ok-clause-found : goal.push_value-returns-in-Ok-clause-found
push_value-returns-in-Ok-clause-found t c = c.in-Ok.ensures.found

pub push_value-returns-in-Err-clause-fault : goal.push_value-returns-in-Err-clause-fault
push_value-returns-in-Err-clause-fault t c = c.in-Err.ensures.fault

pub read_nested-returns-clause-found : goal.read_nested-returns-clause-found
read_nested-returns-clause-found t c =
    let (last, values, closed) = c.in_ok-found.ensures.found in
    (c.in-Some.inside.now, last, c.in-Some.ensures.found, values, closed)

pub read_nested-returns-clause-shallow : goal.read_nested-returns-clause-shallow
read_nested-returns-clause-shallow t c = omega (arith, c.in_ok-found.ensures.shallow)

pub read_nested-returns-clause-shorter : goal.read_nested-returns-clause-shorter
read_nested-returns-clause-shorter t c = omega (arith, c.in_ok-found.ensures.shorter, c.in-Some.ensures.shorter)

pub read_value-returns-in-Some-clause-found : goal.read_value-returns-in-Some-clause-found
read_value-returns-in-Some-clause-found t c =
    let fits : SFits w128 c.in-Some.number = search rules in
    subst (λ (d : Datum). SpellsValue d c.args.bytes.now c.in-Some.rest.now) (number_back _ c.in-Some.number (to_z-of_z w128 c.in-Some.number fits)) c.in-Some.ensures.found

pub read_value-returns-in-Some-clause-shallow : goal.read_value-returns-in-Some-clause-shallow
read_value-returns-in-Some-clause-shallow t c =
    let fits : SFits w128 c.in-Some.number = search rules in
    subst (λ (d : Datum). depth_of d ≤ c.args.depth) (number_back _ c.in-Some.number (to_z-of_z w128 c.in-Some.number fits)) (omega arith)

pub read_value-returns-in-Some-clause-shorter : goal.read_value-returns-in-Some-clause-shorter
read_value-returns-in-Some-clause-shorter t c = token_shorter (a_number c.in-Some.number) c.args.bytes.now c.in-Some.rest.now c.in-Some.ensures.found

pub read_value-returns-in-Some-2-clause-found : goal.read_value-returns-in-Some-2-clause-found
read_value-returns-in-Some-2-clause-found t c =
    let seen : string c.in-Some-2.text.items ≡ datum_of (Text c.in-Some-2.text) = search (rules, the_lemmas, fold_out-Value Datum datum_step) in
    let found = rw c.in-Some-2.is at c.in_ok-text.ensures.found in
    subst (λ (d : Datum). SpellsValue d c.args.bytes.now c.in-Some-2.rest.now) seen found

pub read_value-returns-in-Some-2-clause-shallow : goal.read_value-returns-in-Some-2-clause-shallow
read_value-returns-in-Some-2-clause-shallow t c =
    let seen : string c.in-Some-2.text.items ≡ datum_of (Text c.in-Some-2.text) = search (rules, the_lemmas, fold_out-Value Datum datum_step) in
    subst (λ (d : Datum). depth_of d ≤ c.args.depth) seen (omega arith)

pub read_value-returns-in-Some-3-clause-found : goal.read_value-returns-in-Some-3-clause-found
read_value-returns-in-Some-3-clause-found t c =
    let seen : elements (data_from (map datum_of c.in-Some-3.values.items)) ≡ datum_of (ListOf c.in-Some-3.values) = search (rules, the_lemmas, fold_out-Value Datum datum_step) in
    let found = rw c.in-Some-3.is at c.in_ok-values.ensures.found in
    subst (λ (d : Datum). SpellsValue d c.args.bytes.now c.in-Some-3.rest.now) seen found

pub read_value-returns-in-Some-3-clause-shallow : goal.read_value-returns-in-Some-3-clause-shallow
read_value-returns-in-Some-3-clause-shallow t c =
    let seen : elements (data_from (map datum_of c.in-Some-3.values.items)) ≡ datum_of (ListOf c.in-Some-3.values) = search (rules, the_lemmas, fold_out-Value Datum datum_step) in
    let shallow = rw c.in-Some-3.is at c.in_ok-values.ensures.shallow in
    subst (λ (d : Datum). depth_of d ≤ c.args.depth) seen shallow

pub read_value-returns-in-Some-3-clause-shorter : goal.read_value-returns-in-Some-3-clause-shorter
read_value-returns-in-Some-3-clause-shorter t c = let shorter = rw c.in-Some-3.is at c.in_ok-values.ensures.shorter in shorter

pub read_value-returns-in-Some-4-clause-found : goal.read_value-returns-in-Some-4-clause-found
read_value-returns-in-Some-4-clause-found t c =
    let seen : fields (data_from (map datum_of c.in-Some-4.values.items)) ≡ datum_of (Fields c.in-Some-4.values) = search (rules, the_lemmas, fold_out-Value Datum datum_step) in
    let found = rw c.in-Some-4.is at c.in_ok-values-2.ensures.found in
    subst (λ (d : Datum). SpellsValue d c.args.bytes.now c.in-Some-4.rest.now) seen found

pub read_value-returns-in-Some-4-clause-shallow : goal.read_value-returns-in-Some-4-clause-shallow
read_value-returns-in-Some-4-clause-shallow t c =
    let seen : fields (data_from (map datum_of c.in-Some-4.values.items)) ≡ datum_of (Fields c.in-Some-4.values) = search (rules, the_lemmas, fold_out-Value Datum datum_step) in
    let shallow = rw c.in-Some-4.is at c.in_ok-values-2.ensures.shallow in
    subst (λ (d : Datum). depth_of d ≤ c.args.depth) seen shallow

pub read_value-returns-in-Some-4-clause-shorter : goal.read_value-returns-in-Some-4-clause-shorter
read_value-returns-in-Some-4-clause-shorter t c = let shorter = rw c.in-Some-4.is at c.in_ok-values-2.ensures.shorter in shorter

pub read_values-loop-values-init : goal.read_values-loop-values-init
read_values-loop-values-init t c =
    let none = c.in_ok-reserve.ensures.items ∙ c.clear.ensures.items in
    record {
      before = no_commas c.reserve.new.self.items c.args.bytes.now none;
      shallow = not_deep c.reserve.new.self.items c.args.depth none;
      near = omega arith;
      unclosed = c.in_default.ensures.none;
    }

pub read_values-returns-in-Some-clause-found : goal.read_values-returns-in-Some-clause-found
read_values-returns-in-Some-clause-found t c = closed_at_once c.args.closing c.clear.new.self.items c.args.bytes.now c.in-Some.rest.now c.clear.ensures.items c.in-Some.ensures.found

pub read_values-returns-in-Some-clause-shallow : goal.read_values-returns-in-Some-clause-shallow
read_values-returns-in-Some-clause-shallow t c = not_deep c.clear.new.self.items c.args.depth c.clear.ensures.items

pub read_values-returns-in_default-read_mark-clause-shorter : goal.read_values-returns-in_default-read_mark-clause-shorter
read_values-returns-in_default-read_mark-clause-shorter t c = omega (arith, c.loop-values.invariant.near, c.in_ok-after.ensures.found.shorter, c.in-Some-read_mark-2.ensures.shorter)

pub read_values-loop-values-smaller : goal.read_values-loop-values-smaller
read_values-loop-values-smaller t c = omega (arith, c.in_ok-after.ensures.found.shorter, c.in-Some-read_mark.ensures.shorter)
