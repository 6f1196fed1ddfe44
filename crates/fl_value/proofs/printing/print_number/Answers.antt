use Rattle.std.specs.Fmt.{signed_decimal}
use Rattle.fl_value.proofs.Begun.{begun_at_once}
use Rattle.fl_value.proofs.printing.print_number.Goals as goal

pub returns-clause-begun : goal.returns-clause-begun
returns-clause-begun c = begun_at_once c.extend_from_slice.result c.args.out.now.items c.extend_from_slice.new.self.items _ (signed_decimal c.args.number) c.extend_from_slice.ensures.items
