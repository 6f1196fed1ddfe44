use Rattle.std.proofs.Common.{◌∙◌, ap, sym, subst, rules}
use Rattle.std.proofs.lemmas.Int.{to_z-of_z}
use mir.Syntax.{w128}
use mir.Val.{SFits}
use Rattle.fl_interface.specs.Interface.{scalar}
use Rattle.fl_value_data.specs.Value.{Datum, number}
use Rattle.fl_value_unpack.specs.Reading.{PackedValueAt, OnlyOne}
use Rattle.fl_value_unpack.proofs.value.read_one.Goals as goal

pub returns : goal.returns
returns c =
    let z = c.read_told-number.result.0 in
    let rest = c.read_told-number.result.1.now in
    let fits : SFits w128 z = search rules in
    let value = c.int_value.ensures.value ∙ ap number (to_z-of_z w128 z fits) in
    record { only = subst (λ (d : Datum). OnlyOne (PackedValueAt (scalar c.args.kind) c.args.tape.now) d rest) (sym value) c.read_told-number.ensures.only }
