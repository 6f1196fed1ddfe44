use Rattle.fl_value.specs.Printed.{printed_byte}
use Rattle.fl_value.proofs.Begun.{begun_at_once}
use Rattle.fl_value.proofs.printing.print_byte.Goals as goal

pub returns-in-34-clause-begun : goal.returns-in-34-clause-begun
returns-in-34-clause-begun c = begun_at_once c.extend_from_slice.result c.args.out.now.items c.extend_from_slice.new.self.items _ (printed_byte c.args.byte) c.extend_from_slice.ensures.items

pub returns-in-92-clause-begun : goal.returns-in-92-clause-begun
returns-in-92-clause-begun c = begun_at_once c.extend_from_slice-in-92.result c.args.out.now.items c.extend_from_slice-in-92.new.self.items _ (printed_byte c.args.byte) c.extend_from_slice-in-92.ensures.items

pub returns-in-32-to-126-clause-begun : goal.returns-in-32-to-126-clause-begun
returns-in-32-to-126-clause-begun c = begun_at_once c.extend_from_slice-in-32-to-126.result c.args.out.now.items c.extend_from_slice-in-32-to-126.new.self.items _ (printed_byte c.args.byte) c.extend_from_slice-in-32-to-126.ensures.items

pub returns-in_default-clause-begun : goal.returns-in_default-clause-begun
returns-in_default-clause-begun c = begun_at_once c.extend_from_slice-in_default.result c.args.out.now.items c.extend_from_slice-in_default.new.self.items _ (printed_byte c.args.byte) c.extend_from_slice-in_default.ensures.items
