use Rattle.std.proofs.Common.{◌∙◌, ap, sym, false, map, List, []}
use Rattle.std.specs.List.{zip}
use Rattle.std.proofs.lemmas.Result.{on_ok_weaker}
use Rattle.fl_interface.specs.Interface.{arg_type_of}
use Rattle.fl_value_data.specs.Value.{datum_of}
use Rattle.fl_value_data.specs.declared.value.PlanNo.TheVariants.{Two}
use Rattle.fl_layout.specs.Leaves.{arguments_onto}
use Rattle.fl_wire.specs.Payload.{payload_bytes}
use Rattle.fl_value_data.proofs.Ranked.{arranged_ranks}
use Rattle.fl_value_data.specs.Tape.{Argument, kind}
use Rattle.fl_wire.proofs.encode.put_arranged.Goals as goal

pub returns : goal.returns
returns c =
    let args = zip (map arg_type_of c.args.types.now) (map datum_of c.args.values.now) in
    record {
      ok = on_ok_weaker c.put_ranks.result
          (λ done. done [] c.clear.ensures.items ∙ ap (λ (xs : List Argument). payload_bytes (arguments_onto false xs [])) (sym (arranged_ranks kind Two args))) c.put_ranks.ensures.ok;
    }
