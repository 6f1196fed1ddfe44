use Rattle.std.proofs.Common.{◌≡◌, ◌≤◌, ◌+◌, ℕ, zero, suc, List, [], ◌∷◌, ◌++◌, length, map, drop, eqb, refl, ap, sym, subst, ◌∙◌, append_assoc, append-nil, arith, rules}
use Rattle.std.specs.Prelude.{Result, Ok, Err, OnOk, OnErr}
use Rattle.std.proofs.lemmas.Bool.{cond-false, ne_eqb}
use Rattle.std.proofs.lemmas.Int.{to_z-of_z}
use mir.Syntax.{w128}
use mir.Val.{SFits}
use Rattle.std.proofs.lemmas.Bool.Decides.{nat_tests}
use Rattle.std.proofs.lemmas.List.{drop_all}
use Rattle.fl_value_data.specs.declared.value.Value.{Value}
use Rattle.fl_value_data.specs.declared.value.Value.TheViews.{the_lemmas}
use Rattle.fl_value_data.specs.declared.value.Value.TheFolds.{fold_out-Value}
use Rattle.fl_value_data.specs.Value.{Datum, number, elements, fields, Data, datum_step, datum_of, data_from, nothing_more, also}
use Rattle.fl_value.specs.Printed.{printed_value, printed_values, separator, BeginsToAppend}
use Rattle.fl_value.proofs.Begun.{IsLeft, one_piece_less, none_left, all_left, begun_left, begun_piece, not_begun, on_refusal}
use Rattle.fl_value.proofs.Prints.{printed_from}
use Rattle.fl_value_data.proofs.Turns.{map_dropped}
use Rattle.fl_value.proofs.printing.+printing.Goals as goal

-- between two marks
enclosed : (opening closing : ℕ) (out opened inside closed inner : List ℕ) → opened ≡ out ++ opening ∷ [] → inside ≡ opened ++ inner → closed ≡ inside ++ closing ∷ []
    → closed ≡ out ++ opening ∷ (inner ++ closing ∷ [])
enclosed opening closing out opened inside closed inner first second last =
    last ∙ ap (λ (xs : List ℕ). xs ++ closing ∷ []) (second ∙ ap (λ (xs : List ℕ). xs ++ inner) first)
    ∙ append_assoc (out ++ opening ∷ []) inner (closing ∷ []) ∙ append_assoc out (opening ∷ []) (inner ++ closing ∷ [])

parted : (k : ℕ) → separator (suc k) ≡ 44 ∷ 32 ∷ []
parted k = grind (arith, nat_tests)

from_one : (k : ℕ) (d : Datum) (ds : Data) → printed_from k (also d ds) ≡ separator k ++ (printed_value d ++ printed_from (suc k) ds)
from_one zero d ds = refl
from_one (suc k) d ds = ap (λ (xs : List ℕ). xs ++ (printed_value d ++ printed_from (suc (suc k)) ds)) (sym (parted k))

from_none : (k : ℕ) → printed_from k nothing_more ≡ []
from_none zero = refl
from_none (suc k) = refl

one_item : (k : ℕ) (d : Datum) (ds : Data) → printed_from k (also d ds) ≡ (separator k ++ printed_value d) ++ printed_from (suc k) ds
one_item k d ds = from_one k d ds ∙ sym (append_assoc (separator k) (printed_value d) (printed_from (suc k) ds))

one_more : (k : ℕ) (d : Datum) (ds : Data) (old out printed whole : List ℕ) → IsLeft old out whole (printed_from k (also d ds))
    → printed ≡ out ++ (separator k ++ printed_value d) → IsLeft old printed whole (printed_from (k + 1) ds)
one_more k d ds old out printed whole left now =
    let next : suc k ≡ k + 1 = omega arith in
    subst (λ (j : ℕ). IsLeft old printed whole (printed_from j ds)) next
    (one_piece_less old out printed whole (printed_from k (also d ds)) (separator k ++ printed_value d) (printed_from (suc k) ds) left (one_item k d ds) now)

all_done : (k : ℕ) (values : List Value) (old out whole : List ℕ) → length values ≤ k → IsLeft old out whole (printed_from k (data_from (map datum_of (drop k values)))) → out ≡ old ++ whole
all_done k values old out whole past left =
    none_left old out whole (printed_from k (data_from (map datum_of (drop k values))))
    (ap (λ (vs : List Value). printed_from k (data_from (map datum_of vs))) (drop_all k values past) ∙ from_none k) left

-- refused between two marks, and at the second
begun_inside : (opening closing : ℕ) (old opened new inner : List ℕ) → opened ≡ old ++ opening ∷ [] → BeginsToAppend opened new inner → BeginsToAppend old new (opening ∷ (inner ++ closing ∷ []))
begun_inside opening closing old opened new inner first begun =
    begun_piece old opened new (opening ∷ (inner ++ closing ∷ [])) (inner ++ closing ∷ []) inner (closing ∷ []) (opening ∷ [], refl, first) refl begun

begun_closing : (opening closing : ℕ) (old opened inside new inner : List ℕ) → opened ≡ old ++ opening ∷ [] → inside ≡ opened ++ inner → new ≡ inside
    → BeginsToAppend old new (opening ∷ (inner ++ closing ∷ []))
begun_closing opening closing old opened inside new inner first second same =
    begun_left old inside new (opening ∷ (inner ++ closing ∷ [])) (closing ∷ [])
    (one_piece_less old opened inside (opening ∷ (inner ++ closing ∷ [])) (inner ++ closing ∷ []) inner (closing ∷ []) (opening ∷ [], refl, first) refl second) same

pub print_nested-returns : goal.print_nested-returns
print_nested-returns t c =
    let inner = printed_values (data_from (map datum_of c.args.values.now)) in
    record {
      printed = enclosed c.args.opening c.args.closing c.args.out.now.items c.push.new.self.items c.print_values.new.out.items c.push-2.new.self.items inner c.in_ok-push.ensures.items c.in_ok-print_values.ensures.printed c.in_ok-push-2.ensures.items;
      begun = tt;
    }

pub print_nested-returns-in_err-push-clause-begun : goal.print_nested-returns-in_err-push-clause-begun
print_nested-returns-in_err-push-clause-begun t c =
    let inner = printed_values (data_from (map datum_of c.args.values.now)) in
    on_refusal c.from_residual.result (not_begun c.args.out.now.items c.push.new.self.items (c.args.opening ∷ (inner ++ c.args.closing ∷ [])) c.in_err-push.ensures.items)

pub print_nested-returns-in_err-print_values-clause-begun : goal.print_nested-returns-in_err-print_values-clause-begun
print_nested-returns-in_err-print_values-clause-begun t c =
    let inner = printed_values (data_from (map datum_of c.args.values.now)) in
    on_refusal c.from_residual-in_err-print_values.result
    (begun_inside c.args.opening c.args.closing c.args.out.now.items c.push.new.self.items c.print_values.new.out.items inner c.in_ok-push.ensures.items c.in_err-print_values.ensures.begun)

pub print_nested-returns-in_err-push-2-clause-begun : goal.print_nested-returns-in_err-push-2-clause-begun
print_nested-returns-in_err-push-2-clause-begun t c =
    let inner = printed_values (data_from (map datum_of c.args.values.now)) in
    on_refusal c.from_residual-in_err-push-2.result
    (begun_closing c.args.opening c.args.closing c.args.out.now.items c.push.new.self.items c.print_values.new.out.items c.push-2.new.self.items inner c.in_ok-push.ensures.items c.in_ok-print_values.ensures.printed c.in_err-push-2.ensures.items)

pub print_values-loop-index-preserved : goal.print_values-loop-index-preserved
print_values-loop-index-preserved t c =
    let k = c.loop-index.index in
    let value = c.index-values-index.result in
    let values = c.args.values.now in
    let old = c.args.out.now.items in
    let out = c.loop-index.out.items in
    let whole = printed_values (data_from (map datum_of values)) in
    let later = data_from (map datum_of (drop (k + 1) values)) in
    let left = subst (λ (ds : List Datum). IsLeft old out whole (printed_from k (data_from ds))) (map_dropped datum_of values k value c.loop-index-test.true c.index-values-index.is) c.loop-index.invariant in
    one_more k (datum_of value) later old out c.print_item.new.out.items whole left c.in_ok-print_item.ensures.printed

pub print_values-returns-in_err-print_item-clause-begun : goal.print_values-returns-in_err-print_item-clause-begun
print_values-returns-in_err-print_item-clause-begun t c =
    let k = c.loop-index.index in
    let value = c.index-values-index.result in
    let values = c.args.values.now in
    let old = c.args.out.now.items in
    let out = c.loop-index.out.items in
    let whole = printed_values (data_from (map datum_of values)) in
    let later = data_from (map datum_of (drop (k + 1) values)) in
    let left = subst (λ (ds : List Datum). IsLeft old out whole (printed_from k (data_from ds))) (map_dropped datum_of values k value c.loop-index-test.true c.index-values-index.is) c.loop-index.invariant in
    on_refusal c.from_residual.result
    (begun_piece old out c.print_item.new.out.items whole (printed_from k (also (datum_of value) later)) (separator k ++ printed_value (datum_of value)) (printed_from (suc k) later) left
    (one_item k (datum_of value) later) c.in_err-print_item.ensures.begun)

pub print_item-returns-in_err-print_separator-clause-begun : goal.print_item-returns-in_err-print_separator-clause-begun
print_item-returns-in_err-print_separator-clause-begun t c =
    let piece = separator c.args.index in
    let rest = printed_value (datum_of c.args.value.now) in
    on_refusal c.from_residual.result
    (begun_piece c.args.out.now.items c.args.out.now.items c.print_separator.new.out.items (piece ++ rest) (piece ++ rest) piece rest (all_left c.args.out.now.items (piece ++ rest)) refl c.in_err-print_separator.ensures.begun)

pub print_values-returns : goal.print_values-returns
print_values-returns t c = record {
  printed = all_done c.loop-index.index c.args.values.now c.args.out.now.items c.loop-index.out.items (printed_values (data_from (map datum_of c.args.values.now))) c.loop-index-test.false c.loop-index.invariant;
  begun = tt;
}

pub print_values-loop-index-init : goal.print_values-loop-index-init
print_values-loop-index-init t c = all_left c.args.out.now.items (printed_values (data_from (map datum_of c.args.values.now)))

-- an append behind another
printed_behind : {T E : Type 0} (r : Result T E) (old out new piece rest : List ℕ) → out ≡ old ++ piece → OnOk r (new ≡ out ++ rest) → OnOk r (new ≡ old ++ (piece ++ rest))
printed_behind (Ok x) old out new piece rest first second = second ∙ ap (λ (xs : List ℕ). xs ++ rest) first ∙ append_assoc old piece rest
printed_behind (Err e) old out new piece rest first second = tt

begun_behind : {T E : Type 0} (r : Result T E) (old out new piece rest : List ℕ) → out ≡ old ++ piece → OnErr r (BeginsToAppend out new rest) → OnErr r (BeginsToAppend old new (piece ++ rest))
begun_behind (Ok x) old out new piece rest first begun = tt
begun_behind (Err e) old out new piece rest first begun = begun_piece old out new (piece ++ rest) rest rest [] (piece, refl, first) (sym (append-nil rest)) begun

pub print_item-returns : goal.print_item-returns
print_item-returns t c =
    let old = c.args.out.now.items in
    let out = c.print_separator.new.out.items in
    let piece = separator c.args.index in
    let rest = printed_value (datum_of c.args.value.now) in
    record {
      printed = printed_behind c.print_value.result old out c.print_value.new.out.items piece rest c.in_ok-print_separator.ensures.printed c.print_value.ensures.printed;
      begun = begun_behind c.print_value.result old out c.print_value.new.out.items piece rest c.in_ok-print_separator.ensures.printed c.print_value.ensures.begun;
    }

pub print_item-returns-in-Some : goal.print_item-returns-in-Some
print_item-returns-in-Some t c =
    let old = c.args.out.now.items in
    let new = c.print_next_digit.new.out.items in
    let value = printed_value (datum_of c.args.value.now) in
    let apart : separator c.args.index ≡ 44 ∷ 32 ∷ [] = cond-false (eqb c.args.index 0) [] (44 ∷ 32 ∷ []) (ne_eqb c.args.index 0 c.if-index-ne0.true) in
    let whole = sym (ap (λ (xs : List ℕ). xs ++ value) apart ∙ ap (λ (xs : List ℕ). 44 ∷ 32 ∷ xs) c.in-Some.ensures.same) in
    record {
      printed = subst (λ (text : List ℕ). OnOk c.print_next_digit.result (new ≡ old ++ text)) whole c.print_next_digit.ensures.printed;
      begun = subst (λ (text : List ℕ). OnErr c.print_next_digit.result (BeginsToAppend old new text)) whole c.print_next_digit.ensures.begun;
    }

pub print_value-returns-in-Int : goal.print_value-returns-in-Int
print_value-returns-in-Int t c =
    let old = c.args.out.now.items in
    let new = c.print_number.new.out.items in
    let fits : SFits w128 c.in-Int.number = search rules in
    let seen : number c.in-Int.number ≡ datum_of c.args.value.now = search (rules, the_lemmas, fold_out-Value Datum datum_step) in
    let all = ap number (to_z-of_z w128 c.in-Int.number fits) ∙ seen in
    record {
      printed = subst (λ (d : Datum). OnOk c.print_number.result (new ≡ old ++ printed_value d)) all c.print_number.ensures.printed;
      begun = subst (λ (d : Datum). OnErr c.print_number.result (BeginsToAppend old new (printed_value d))) all c.print_number.ensures.begun;
    }

pub print_value-returns-in-List : goal.print_value-returns-in-List
print_value-returns-in-List t c =
    let old = c.args.out.now.items in
    let new = c.print_nested.new.out.items in
    let seen : elements (data_from (map datum_of c.in-List.values.items)) ≡ datum_of c.args.value.now = search (rules, the_lemmas, fold_out-Value Datum datum_step) in
    let all = ap (λ (vs : List Value). elements (data_from (map datum_of vs))) c.deref-in-List.ensures.value ∙ seen in
    record {
      printed = subst (λ (d : Datum). OnOk c.print_nested.result (new ≡ old ++ printed_value d)) all c.print_nested.ensures.printed;
      begun = subst (λ (d : Datum). OnErr c.print_nested.result (BeginsToAppend old new (printed_value d))) all c.print_nested.ensures.begun;
    }

pub print_value-returns-in-Fields : goal.print_value-returns-in-Fields
print_value-returns-in-Fields t c =
    let old = c.args.out.now.items in
    let new = c.print_nested-in-Fields.new.out.items in
    let seen : fields (data_from (map datum_of c.in-Fields.values.items)) ≡ datum_of c.args.value.now = search (rules, the_lemmas, fold_out-Value Datum datum_step) in
    let all = ap (λ (vs : List Value). fields (data_from (map datum_of vs))) c.deref-in-Fields.ensures.value ∙ seen in
    record {
      printed = subst (λ (d : Datum). OnOk c.print_nested-in-Fields.result (new ≡ old ++ printed_value d)) all c.print_nested-in-Fields.ensures.printed;
      begun = subst (λ (d : Datum). OnErr c.print_nested-in-Fields.result (BeginsToAppend old new (printed_value d))) all c.print_nested-in-Fields.ensures.begun;
    }
