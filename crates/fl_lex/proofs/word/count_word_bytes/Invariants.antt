use Rattle.std.proofs.Common.{◌≡◌, ◌+◌, drop}
use Rattle.std.specs.List.{prefix_len}
use Rattle.fl_lex.specs.Words.{is_word_byte}
use Rattle.fl_lex.proofs.word.count_word_bytes.Given as goal

abbrev pub invariant-loop-count : goal.invariant-loop-count
invariant-loop-count l = l.count + prefix_len is_word_byte (drop l.count l.bytes) ≡ prefix_len is_word_byte l.bytes
