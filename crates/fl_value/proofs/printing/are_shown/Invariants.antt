use Rattle.std.proofs.Common.{◌≡◌, take}
use Rattle.std.specs.List.{list_all}
use Rattle.fl_value.specs.Printed.{is_shown}
use Rattle.fl_value.proofs.printing.are_shown.Given as goal

abbrev pub invariant-loop-byte : goal.invariant-loop-byte
invariant-loop-byte l = l.all ≡ list_all is_shown (take l.byte-index l.bytes)
