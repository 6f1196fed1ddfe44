use Rattle.std.proofs.Common.{ℤ, sym, subst, rules}
use Rattle.std.proofs.lemmas.Int.{to_z-of_z}
use mir.Syntax.{w128}
use mir.Val.{SFits}
use Rattle.fl_interface.specs.Interface.{enumeration}
use Rattle.fl_value_data.specs.Value.{number}
use Rattle.fl_value_unpack.specs.Reading.{PackedValueAt, OnlyOne}
use Rattle.fl_value_unpack.proofs.Numbers.{enum_only}
use Rattle.fl_value_unpack.proofs.number.read_enumerator.Goals as goal

pub returns : goal.returns
returns c = record {
  only = λ count few.
      let tape = c.args.tape.now in
      let z = c.from.result in
      let rest = c.split.result.1.now in
      let fits : SFits w128 z = search rules in
      let one = enum_only count tape rest c.number_of_4-place.result z few c.number_of_4-place.ensures c.from.ensures c.split.ensures.rest in
      subst (λ (y : ℤ). OnlyOne (PackedValueAt (enumeration count) tape) (number y) rest) (sym (to_z-of_z w128 z fits)) one;
}
