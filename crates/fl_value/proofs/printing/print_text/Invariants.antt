use Rattle.std.proofs.Common.{◌++◌, ◌∷◌, [], drop}
use Rattle.std.specs.List.{flat_map}
use Rattle.fl_value.specs.Printed.{printed_byte, printed_text}
use Rattle.fl_value.proofs.Begun.{IsLeft}
use Rattle.fl_value.proofs.printing.print_text.Given as goal

abbrev pub invariant-loop-byte : goal.invariant-loop-byte
invariant-loop-byte l = IsLeft l.fn.out.items l.out.items (printed_text l.bytes) (flat_map printed_byte (drop l.byte-index l.rest) ++ 34 ∷ [])
