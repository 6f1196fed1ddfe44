use Rattle.std.proofs.Common.{◌≡◌, ◌+◌, ◌*◌, ◌++◌, take, vec_len}
use Rattle.std.specs.List.{flat_map}
use Rattle.std.specs.Int.{to_le_bytes, w64}
use Rattle.std.specs.Vec.{vec_capacity}
use Rattle.fl_compile_tape.proofs.frags.push_words.Given as goal

abbrev pub invariant-loop-word : goal.invariant-loop-word
invariant-loop-word l = record {
  put : l.bytes.items ≡ l.fn.bytes.items ++ flat_map (to_le_bytes w64) (take l.word-index l.words);
  length : vec_len l.bytes ≡ vec_len l.fn.bytes + 8 * l.word-index;
  capacity : vec_capacity l.bytes ≡ vec_capacity l.fn.bytes;
}
