use Rattle.std.proofs.Common.{◌≡◌, ◌+◌, length, map}
use Rattle.std.specs.List.{position_or_len}
use Rattle.std.specs.Str.{bytes_eq}
use Rattle.fl_script_lines.proofs.TableLemmas.{items_of}
use Rattle.fl_script_lines.proofs.table.place_among.Given as goal

abbrev pub invariant-loop-rest : goal.invariant-loop-rest
invariant-loop-rest l =
    (l.place + position_or_len (bytes_eq l.name) (map items_of l.rest) ≡ position_or_len (bytes_eq l.name) (map items_of l.names))
    × (l.place + length l.rest ≡ length l.names)

abbrev pub decreases-loop-rest : goal.decreases-loop-rest
decreases-loop-rest l = length l.rest
