use Rattle.std.proofs.Common.{◌≡◌, ◌∙◌, ap, subst, sym, false, map, List, []}
use Rattle.std.specs.List.{zip}
use Rattle.std.proofs.lemmas.Result.{on_ok_weaker}
use Rattle.fl_interface.specs.Interface.{arg_type_of}
use Rattle.fl_value_data.specs.Value.{datum_of}
use Rattle.fl_value_data.specs.Plan.{arranged, of_rank}
use Rattle.fl_value_data.specs.declared.value.PlanNo.{PlanNo}
use Rattle.fl_layout.specs.Leaves.{arguments_onto}
use Rattle.fl_wire.specs.Payload.{payload_bytes}
use Rattle.fl_value_data.proofs.Ranked.{one_rank}
use Rattle.fl_value_data.specs.Tape.{Argument, kind}
use Rattle.fl_wire.proofs.encode.put_arguments.Goals as goal

pub returns-in-One : goal.returns-in-One
returns-in-One c =
    let args = zip (map arg_type_of c.args.types.now) (map datum_of c.args.values.now) in
    let same : of_rank kind c.args.plan 0 args ≡ arranged kind c.args.plan args
    = subst (λ (plan : PlanNo). of_rank kind plan 0 args ≡ arranged kind plan args) (sym c.in-One.is) (one_rank kind args) in
    record {
      ok = on_ok_weaker c.put_rank.result
          (λ done. done [] c.requires.empty ∙ ap (λ (xs : List Argument). payload_bytes (arguments_onto false xs [])) same) c.put_rank.ensures.ok;
    }

pub returns-in-Two : goal.returns-in-Two
returns-in-Two c =
    let args = zip (map arg_type_of c.args.types.now) (map datum_of c.args.values.now) in
    record {
      ok = on_ok_weaker c.put_arranged.result
          (λ done. done ∙ ap (λ (plan : PlanNo). payload_bytes (arguments_onto false (arranged kind plan args) [])) (sym c.in-Two.is)) c.put_arranged.ensures.ok;
    }
