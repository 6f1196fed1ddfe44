use Rattle.std.proofs.Common.{◌≡◌, ◌+◌, drop}
use Rattle.std.specs.List.{prefix_len}
use Rattle.fl_value.specs.Printed.{is_shown}
use Rattle.fl_value.proofs.printing.count_shown.Given as goal

abbrev pub invariant-loop-count : goal.invariant-loop-count
invariant-loop-count l = l.count + prefix_len is_shown (drop l.count l.bytes) ≡ prefix_len is_shown l.bytes
