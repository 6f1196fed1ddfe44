use Rattle.std.proofs.Common.{◌≡◌, take}
use Rattle.std.specs.List.{list_all}
use Rattle.fl_value.specs.CallText.{is_literal}
use Rattle.fl_value.proofs.tokens.are_literal.Given as goal

abbrev pub invariant-loop-byte : goal.invariant-loop-byte
invariant-loop-byte l = l.all ≡ list_all is_literal (take l.byte-index l.bytes)
