use Rattle.std.proofs.Common.{◌≡◌, ◌+◌, drop}
use Rattle.std.specs.List.{prefix_len}
use Rattle.fl_value.specs.CallText.{is_literal}
use Rattle.fl_value.proofs.tokens.count_literal_bytes.Given as goal

abbrev pub invariant-loop-count : goal.invariant-loop-count
invariant-loop-count l = l.count + prefix_len is_literal (drop l.count l.bytes) ≡ prefix_len is_literal l.bytes
