use Rattle.std.proofs.Common.{◌≡◌, take, ltb}
use Rattle.std.specs.List.{list_all}
use Rattle.fl_value_data.proofs.fitting.has_no_zero.Given as goal

abbrev pub invariant-loop-byte : goal.invariant-loop-byte
invariant-loop-byte l = l.all ≡ list_all (λ byte. ltb 0 byte) (take l.byte-index l.bytes)
