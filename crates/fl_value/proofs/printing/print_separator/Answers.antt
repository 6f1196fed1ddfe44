use Rattle.fl_value.specs.Printed.{separator}
use Rattle.fl_value.proofs.Begun.{begun_at_once}
use Rattle.fl_value.proofs.printing.print_separator.Goals as goal

pub returns-clause-begun : goal.returns-clause-begun
returns-clause-begun c = begun_at_once c.extend_from_slice.result c.args.out.now.items c.extend_from_slice.new.self.items _ (separator c.args.index) c.extend_from_slice.ensures.items
