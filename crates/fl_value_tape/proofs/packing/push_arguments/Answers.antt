use Rattle.std.proofs.Common.{sym, ◌∙◌, map}
use Rattle.std.specs.List.{zip}
use Rattle.fl_interface.specs.Interface.{arg_type_of}
use Rattle.fl_value_data.specs.Value.{datum_of}
use Rattle.fl_value_data.specs.Tape.{kind}
use Rattle.fl_value_data.proofs.Ranked.{one_rank, arranged_ranks}
use Rattle.fl_value_data.proofs.Kept.{kept_arguments, falls}
use Rattle.fl_value_tape.proofs.packing.push_arguments.Goals as goal

pub returns-then-never_falls : goal.returns-then-never_falls
returns-then-never_falls c =
    let types = map arg_type_of c.args.arguments.now in
    let values = map datum_of c.args.values.now in
    let all = one_rank kind (zip types values) ∙ sym (kept_arguments c.args.plan types values (sym c.if-never_falls.ensures.same)) in
    let h = rw all at c.push_rank.ensures.packed in
    record { packed = h }

pub returns : goal.returns
returns c =
    let types = map arg_type_of c.args.arguments.now in
    let values = map datum_of c.args.values.now in
    let two = falls c.args.plan types (sym c.if-never_falls.ensures.same) in
    let h = rw (sym (arranged_ranks kind c.args.plan (zip types values))) at (rw (sym two) at c.push_ranks.ensures.packed) in
    record { packed = h }
