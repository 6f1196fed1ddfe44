use Rattle.std.proofs.Common.{◌≡◌, map, arith, rules, subst}
use Rattle.std.proofs.lemmas.Result.{IfOk-weaker}
use Rattle.fl_interface.specs.Interface.{TheArgType, arg_type_of, type_of, fixed, text, sized}
use Rattle.fl_value_data.specs.declared.value.Value.TheVariants.{Text, List as ListOf}
use Rattle.fl_value_data.specs.declared.value.Value.TheViews.{the_lemmas as value_lemmas}
use Rattle.fl_value_data.specs.declared.value.Value.TheFolds.{fold_out-Value}
use Rattle.fl_value_data.specs.Value.{Datum, datum_step, datum_of, data_from, string, elements}
use Rattle.fl_value_unpack.specs.Reading.{PackedValueAt, PackedArgumentAt, OnlyOne}
use Rattle.fl_value_unpack.proofs.Onlys.{fixed_only}
use Rattle.fl_value_unpack.proofs.argument.read_argument.Goals as goal

pub returns-in-Fixed : goal.returns-in-Fixed
returns-in-Fixed c =
    let is : fixed (type_of c.in-Fixed.fixed) ≡ arg_type_of c.args.argument.now = search rules in
    record {
      only = IfOk-weaker c.read_value.result (λ r. OnlyOne (PackedValueAt (type_of c.in-Fixed.fixed) c.args.tape.now) (datum_of r.0) r.1.now)
          (λ r. OnlyOne (PackedArgumentAt (arg_type_of c.args.argument.now) c.args.tape.now) (datum_of r.0) r.1.now)
          (λ r one. subst (λ (u : TheArgType). OnlyOne (PackedArgumentAt u c.args.tape.now) (datum_of r.0) r.1.now) is (fixed_only (type_of c.in-Fixed.fixed) c.args.tape.now (datum_of r.0) r.1.now one))
          c.read_value.ensures.only;
    }

pub returns-in_ok-letters-in-Text : goal.returns-in_ok-letters-in-Text
returns-in_ok-letters-in-Text c =
    let letters = c.in_ok-letters-in-Text.letters in
    let is : text c.in-Text.most ≡ arg_type_of c.args.argument.now = search rules in
    let value : string letters.items ≡ datum_of (Text letters) = search (rules, value_lemmas, fold_out-Value Datum datum_step) in
    record {
      only = subst (λ (u : TheArgType). OnlyOne (PackedArgumentAt u c.args.tape.now) (datum_of (Text letters)) c.in_ok-letters-in-Text.rest.now) is
          (subst (λ (d : Datum). OnlyOne (PackedArgumentAt (text c.in-Text.most) c.args.tape.now) d c.in_ok-letters-in-Text.rest.now) value (c.in_ok-letters-in-Text.ensures.only c.in-Text.most (omega arith)));
    }

pub returns-in_ok-values-in-Sized : goal.returns-in_ok-values-in-Sized
returns-in_ok-values-in-Sized c =
    let values = c.in_ok-values-in-Sized.values in
    let t = type_of c.in-Sized.element in
    let most = c.in-Sized.most in
    let is : sized most t ≡ arg_type_of c.args.argument.now = search rules in
    let value : elements (data_from (map datum_of values.items)) ≡ datum_of (ListOf values) = search (rules, value_lemmas, fold_out-Value Datum datum_step) in
    record {
      only = subst (λ (u : TheArgType). OnlyOne (PackedArgumentAt u c.args.tape.now) (datum_of (ListOf values)) c.in_ok-values-in-Sized.rest.now) is
          (subst (λ (d : Datum). OnlyOne (PackedArgumentAt (sized most t) c.args.tape.now) d c.in_ok-values-in-Sized.rest.now) value (c.in_ok-values-in-Sized.ensures.only most (omega arith)));
    }
