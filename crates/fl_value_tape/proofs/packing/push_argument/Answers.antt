use Rattle.std.proofs.Common.{◌≡◌, ◌++◌, ℕ, List, length, map, rules, ap, sym, subst, ◌∙◌, append_assoc}
use Rattle.std.specs.Prelude.{Result, Ok, Err, OnOk}
use Rattle.fl_interface.specs.declared.interface.ArgType.{ArgType}
use Rattle.fl_interface.specs.Interface.{type_of, arg_type_of}
use Rattle.fl_value_data.specs.declared.value.Value.{Value}
use Rattle.fl_value_data.specs.declared.value.Value.TheViews.{the_lemmas}
use Rattle.fl_value_data.specs.declared.value.Value.TheFolds.{fold_out-Value}
use Rattle.fl_value_data.specs.Value.{Datum, string, elements, datum_step, datum_of, data_from}
use Rattle.fl_value_data.specs.Fits.{count_of}
use Rattle.fl_value_tape.specs.Packed.{low_bytes, argument_packed, elements_packed}
use Rattle.fl_value_tape.proofs.packing.push_argument.Goals as goal

-- two appends, one behind the other
joined : {T E : Type 0} (r : Result T E) (old pushed new one rest whole : List ℕ) → pushed ≡ old ++ one → OnOk r (new ≡ pushed ++ rest) → one ++ rest ≡ whole → OnOk r (new ≡ old ++ whole)
joined (Ok x) old pushed new one rest whole first second is =
    second ∙ ap (λ (xs : List ℕ). xs ++ rest) first ∙ append_assoc old one rest ∙ ap (λ (xs : List ℕ). old ++ xs) is
joined (Err e) old pushed new one rest whole first second is = tt

pub returns-in-Fixed : goal.returns-in-Fixed
returns-in-Fixed c = record {
  packed = subst (λ (a : ArgType). OnOk c.push_fixed.result (c.push_fixed.new.out.items ≡ c.args.out.now.items ++ argument_packed (arg_type_of a) (datum_of c.args.value.now))) (sym c.in-Fixed.is) c.push_fixed.ensures.packed;
}

pub returns-in_ok-extend_from_slice-in-Text-value : goal.returns-in_ok-extend_from_slice-in-Text-value
returns-in_ok-extend_from_slice-in-Text-value c =
    let bytes = c.in-Text-value.bytes.items in
    let seen : string bytes ≡ datum_of c.args.value.now = search (rules, the_lemmas, fold_out-Value Datum datum_step) in
    let is : low_bytes 8 (length bytes) ++ bytes ≡ argument_packed (arg_type_of c.args.argument.now) (datum_of c.args.value.now)
    = ap (λ (a : ArgType). argument_packed (arg_type_of a) (string bytes)) (sym c.in-Text.is) ∙ ap (argument_packed (arg_type_of c.args.argument.now)) seen in
    let long : c.len.result ≡ length bytes = c.len.ensures ∙ sym c.deref.ensures.len ∙ ap (λ (xs : List ℕ). length xs) c.deref.ensures.value in
    record {
      packed = c.in_ok-extend_from_slice-in-Text-value.ensures.items
          ∙ ap (λ (xs : List ℕ). xs ++ c.deref.result.now) (c.in_ok-push_low-in-Text-value.ensures.packed ∙ ap (λ (n : ℕ). c.args.out.now.items ++ low_bytes 8 n) long)
          ∙ ap (λ (xs : List ℕ). (c.args.out.now.items ++ low_bytes 8 (length bytes)) ++ xs) c.deref.ensures.value
          ∙ append_assoc c.args.out.now.items (low_bytes 8 (length bytes)) bytes ∙ ap (λ (xs : List ℕ). c.args.out.now.items ++ xs) is;
    }

pub returns-in_ok-push_low-in-List : goal.returns-in_ok-push_low-in-List
returns-in_ok-push_low-in-List c =
    let values = c.in-List.values.items in
    let now = c.deref-in-List-2.result.now in
    let type = type_of c.in-Sized.element in
    let seen : elements (data_from (map datum_of values)) ≡ datum_of c.args.value.now = search (rules, the_lemmas, fold_out-Value Datum datum_step) in
    let is : low_bytes 8 c.count.result ++ elements_packed type (data_from (map datum_of now)) ≡ argument_packed (arg_type_of c.args.argument.now) (datum_of c.args.value.now)
    = ap (λ (n : ℕ). low_bytes 8 n ++ elements_packed type (data_from (map datum_of now))) (c.count.ensures.same ∙ ap (λ (vs : List Value). count_of (data_from (map datum_of vs))) c.deref-in-List.ensures.value)
    ∙ ap (λ (vs : List Value). low_bytes 8 (count_of (data_from (map datum_of values))) ++ elements_packed type (data_from (map datum_of vs))) c.deref-in-List-2.ensures.value
    ∙ ap (λ (a : ArgType). argument_packed (arg_type_of a) (elements (data_from (map datum_of values)))) (sym c.in-Sized.is) ∙ ap (argument_packed (arg_type_of c.args.argument.now)) seen in
    record {
      packed = joined c.push_elements.result c.args.out.now.items c.push_low-in-List.new.out.items c.push_elements.new.out.items (low_bytes 8 c.count.result) (elements_packed type (data_from (map datum_of now))) _ c.in_ok-push_low-in-List.ensures.packed c.push_elements.ensures.packed is;
    }
