use Rattle.std.proofs.Common.{◌+◌, ◌∙◌, Bool, ◌&&◌, List, map, drop, sym, ap}
use Rattle.std.specs.List.{list_all}
use Rattle.std.proofs.lemmas.List.{drop_all}
use Rattle.fl_interface.specs.declared.interface.ArgType.{ArgType}
use Rattle.fl_interface.specs.Interface.{arg_type_of}
use Rattle.fl_codec.specs.NumberPlaces.{is_number}
use Rattle.fl_codec.proofs.Kept.{all_from}
use Rattle.fl_codec.proofs.codec.are_numbers.Goals as goal

pub returns-in_default : goal.returns-in_default
returns-in_default c =
    let args = c.args.arguments.now in
    let k = c.loop-argument.argument-index in
    let rest = list_all is_number (map arg_type_of (drop (k + 1) args)) in
    record {
      exact = sym (sym c.loop-argument.invariant ∙ all_from args k c.argument-item.result c.loop-argument-test.true c.argument-item.is
          ∙ ap (λ (b : Bool). b && rest) c.in_default.ensures.none);
    }

pub loop-argument-preserved : goal.loop-argument-preserved
loop-argument-preserved c =
    let args = c.args.arguments.now in
    let k = c.loop-argument.argument-index in
    let rest = list_all is_number (map arg_type_of (drop (k + 1) args)) in
    sym (all_from args k c.argument-item.result c.loop-argument-test.true c.argument-item.is ∙ ap (λ (b : Bool). b && rest) c.in-Some.ensures.some.is) ∙ c.loop-argument.invariant

pub returns : goal.returns
returns c =
    let args = c.args.arguments.now in
    record { exact = ap (λ (l : List ArgType). list_all is_number (map arg_type_of l)) (sym (drop_all c.loop-argument.argument-index args c.loop-argument-test.false)) ∙ c.loop-argument.invariant }
