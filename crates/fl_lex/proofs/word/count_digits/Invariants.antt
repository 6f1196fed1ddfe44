use Rattle.std.proofs.Common.{◌≡◌, ◌+◌, drop}
use Rattle.std.specs.List.{prefix_len}
use Rattle.fl_lex.specs.Words.{is_digit}
use Rattle.fl_lex.proofs.word.count_digits.Given as goal

abbrev pub invariant-loop-count : goal.invariant-loop-count
invariant-loop-count l = l.count + prefix_len is_digit (drop l.count l.bytes) ≡ prefix_len is_digit l.bytes
