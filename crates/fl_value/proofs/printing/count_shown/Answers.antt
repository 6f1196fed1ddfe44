use Rattle.std.proofs.Common.{sym}
use Rattle.fl_value.specs.Printed.{is_shown}
use Rattle.fl_value.proofs.Spans.{all_counted}
use Rattle.fl_value.proofs.printing.count_shown.Goals as goal

pub returns-then-are_shown-clause-same : goal.returns-then-are_shown-clause-same
returns-then-are_shown-clause-same c = all_counted is_shown c.args.bytes.now (sym c.if-are_shown.ensures.same)
