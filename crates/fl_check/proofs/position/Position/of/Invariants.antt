use Rattle.std.proofs.Common.{◌≡◌, ◌+◌, take}
use Rattle.std.specs.List.{count_by, suffix_len}
use Rattle.std.specs.Prelude.{not}
use Rattle.fl_check.specs.Position.{is_line_feed}
use Rattle.fl_check.proofs.position.Position.of.Given as goal

abbrev pub invariant-loop-byte : goal.invariant-loop-byte
invariant-loop-byte l = record {
  line : l.line ≡ count_by is_line_feed (take l.byte-index l.before) + 1;
  column : l.column ≡ suffix_len (λ byte. not (is_line_feed byte)) (take l.byte-index l.before) + 1;
}
