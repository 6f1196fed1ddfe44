use Rattle.std.proofs.Common.{◌≡◌, List, length, drop, map, arith, ap, sym, ◌∙◌, eqb}
use Rattle.std.proofs.lemmas.List.{drop_all}
use Rattle.fl_interface.specs.Interface.{arg_type_of}
use Rattle.fl_value_data.specs.Value.{datum_of}
use Rattle.fl_value_data.specs.declared.value.Value.{Value}
use Rattle.fl_value_data.specs.Fits.{are_arguments}
use Rattle.fl_value_data.proofs.Counting.{end_of_arguments}
use Rattle.fl_value_data.proofs.fitting.are_arguments.Goals as goal

pub returns : goal.returns
returns c =
    let values = c.args.values.now in
    let arguments = c.args.arguments.now in
    let index = c.loop-index.index in
    let all : index ≡ length values = omega arith in
    record {
      same = ap (λ n. eqb n (length arguments)) (sym all)
          ∙ end_of_arguments arg_type_of arguments index c.loop-index.invariant.1
          ∙ ap (λ (vs : List Value). are_arguments (map arg_type_of (drop index arguments)) (map datum_of vs)) (sym (drop_all index values (omega arith)))
          ∙ c.loop-index.invariant.0;
    }
