use Rattle.std.proofs.Common.{◌∙◌}
use Rattle.fl_value_unpack.proofs.Onlys.{text_only}
use Rattle.fl_value_unpack.proofs.argument.read_string.Goals as goal

pub returns : goal.returns
returns c = record {
  only = λ most small.
      text_only most c.args.tape.now c.split.result.1.now c.in_ok-letters.letters.items c.split-2.result.1.now c.number_of_8-count.result small
      c.number_of_8-count.ensures c.split.ensures.rest (c.in_ok-letters.ensures.items ∙ c.split-2.ensures.first) c.split-2.ensures.rest;
}
