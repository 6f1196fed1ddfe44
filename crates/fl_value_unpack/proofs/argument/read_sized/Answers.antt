use Rattle.std.proofs.Common.{◌<◌, ◌^◌, ℕ, map, replicate}
use Rattle.std.proofs.lemmas.Result.{IfOk-weaker}
use Rattle.fl_interface.specs.Interface.{sized, type_of}
use Rattle.fl_value_data.specs.Value.{datum_of, elements, data_from}
use Rattle.fl_value_data.specs.Taken.{InTurn}
use Rattle.fl_value_unpack.specs.Reading.{PackedValueAt, PackedArgumentAt, OnlyOne}
use Rattle.fl_value_unpack.proofs.Onlys.{sized_only}
use Rattle.fl_value_unpack.proofs.argument.read_sized.Goals as goal

pub returns : goal.returns
returns c = record {
  only = IfOk-weaker c.read_elements.result
      (λ r. OnlyOne (InTurn PackedValueAt (replicate c.number_of_8-count.result (type_of c.args.element.now)) c.split.result.1.now) (map datum_of r.0.items) r.1.now)
      (λ r. (most : ℕ) → most < 2 ^ 64 → OnlyOne (PackedArgumentAt (sized most (type_of c.args.element.now)) c.args.tape.now) (elements (data_from (map datum_of r.0.items))) r.1.now)
      (λ r one most small. sized_only most (type_of c.args.element.now) c.args.tape.now c.split.result.1.now c.number_of_8-count.result (map datum_of r.0.items) r.1.now small
      c.number_of_8-count.ensures c.split.ensures.rest one)
      c.read_elements.ensures.only;
}
