use Rattle.std.proofs.Common.{map, nat_lt, ap, sym, ◌∙◌}
use Rattle.fl_interface.specs.Interface.{arg_type_of}
use Rattle.fl_check.proofs.Layouts.{payload_whole}
use Rattle.fl_check.proofs.payload.Payload.is_too_long.Goals as goal

pub returns : goal.returns
returns c = record {
  exact =
      ap (λ most. nat_lt most c.args.self.now.end) c.from.ensures
      ∙ ap (nat_lt 32768) (sym (payload_whole (map arg_type_of c.args.self.now.args.items) c.args.self.now.end c.args.self.now.due c.args.self.now.ended));
}
