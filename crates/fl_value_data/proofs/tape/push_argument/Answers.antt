use Rattle.std.proofs.Common.{◌≡◌, ◌++◌, ◌∷◌, [], ℕ, List, length, map, rules, ap, sym, subst, ◌∙◌, append_assoc}
use Rattle.std.specs.Prelude.{Result, Ok, Err, OnOk}
use Rattle.fl_interface.specs.declared.interface.ArgType.{ArgType}
use Rattle.fl_interface.specs.Interface.{type_of, arg_type_of}
use Rattle.fl_value_data.specs.declared.value.Value.{Value}
use Rattle.fl_value_data.specs.declared.value.Value.TheViews.{the_lemmas}
use Rattle.fl_value_data.specs.declared.value.Value.TheFolds.{fold_out-Value}
use Rattle.fl_value_data.specs.Value.{Datum, string, elements, datum_step, datum_of, data_from}
use Rattle.fl_value_data.specs.Fits.{count_of}
use Rattle.fl_value_data.specs.Tape.{argument_tape, elements_tape}
use Rattle.fl_value_data.proofs.tape.push_argument.Goals as goal

-- two appends, one behind the other
joined : {T E : Type 0} (r : Result T E) (old pushed new one rest whole : List ℕ) → pushed ≡ old ++ one → OnOk r (new ≡ pushed ++ rest) → one ++ rest ≡ whole → OnOk r (new ≡ old ++ whole)
joined (Ok x) old pushed new one rest whole first second is =
    second ∙ ap (λ (xs : List ℕ). xs ++ rest) first ∙ append_assoc old one rest ∙ ap (λ (xs : List ℕ). old ++ xs) is
joined (Err e) old pushed new one rest whole first second is = tt

pub returns-in-Fixed : goal.returns-in-Fixed
returns-in-Fixed c = record {
  tape = subst (λ (a : ArgType). OnOk c.push_fixed.result (c.push_fixed.new.tape.items ≡ c.args.tape.now.items ++ argument_tape (arg_type_of a) (datum_of c.args.value.now))) (sym c.in-Fixed.is) c.push_fixed.ensures.tape;
}

pub returns-in_ok-push-in-Text-value : goal.returns-in_ok-push-in-Text-value
returns-in_ok-push-in-Text-value c =
    let bytes = c.in-Text-value.bytes.items in
    let now = c.deref.result.now in
    let seen : string bytes ≡ datum_of c.args.value.now = search (rules, the_lemmas, fold_out-Value Datum datum_step) in
    let is : c.len.result ∷ now ≡ argument_tape (arg_type_of c.args.argument.now) (datum_of c.args.value.now)
    = ap (λ (n : ℕ). n ∷ now) (c.len.ensures ∙ sym c.deref.ensures.len ∙ ap (λ (xs : List ℕ). length xs) c.deref.ensures.value) ∙ ap (λ (xs : List ℕ). length bytes ∷ xs) c.deref.ensures.value
    ∙ ap (λ (a : ArgType). argument_tape (arg_type_of a) (string bytes)) (sym c.in-Text.is) ∙ ap (argument_tape (arg_type_of c.args.argument.now)) seen in
    record { tape = joined c.push_bytes.result c.args.tape.now.items c.push.new.self.items c.push_bytes.new.tape.items (c.len.result ∷ []) now _ c.in_ok-push-in-Text-value.ensures.items c.push_bytes.ensures.tape is }

pub returns-in_ok-push-in-List : goal.returns-in_ok-push-in-List
returns-in_ok-push-in-List c =
    let values = c.in-List.values.items in
    let now = c.deref-in-List-2.result.now in
    let type = type_of c.in-Sized.element in
    let seen : elements (data_from (map datum_of values)) ≡ datum_of c.args.value.now = search (rules, the_lemmas, fold_out-Value Datum datum_step) in
    let is : c.count.result ∷ elements_tape type (data_from (map datum_of now)) ≡ argument_tape (arg_type_of c.args.argument.now) (datum_of c.args.value.now)
    = ap (λ (n : ℕ). n ∷ elements_tape type (data_from (map datum_of now))) (c.count.ensures.same ∙ ap (λ (vs : List Value). count_of (data_from (map datum_of vs))) c.deref-in-List.ensures.value)
    ∙ ap (λ (vs : List Value). count_of (data_from (map datum_of values)) ∷ elements_tape type (data_from (map datum_of vs))) c.deref-in-List-2.ensures.value
    ∙ ap (λ (a : ArgType). argument_tape (arg_type_of a) (elements (data_from (map datum_of values)))) (sym c.in-Sized.is) ∙ ap (argument_tape (arg_type_of c.args.argument.now)) seen in
    record {
      tape = joined c.push_elements.result c.args.tape.now.items c.push-in-List.new.self.items c.push_elements.new.tape.items (c.count.result ∷ []) (elements_tape type (data_from (map datum_of now))) _ c.in_ok-push-in-List.ensures.items c.push_elements.ensures.tape is;
    }
