use Rattle.std.proofs.Common.{◌≡◌, ◌+◌, ◌++◌, take, vec_len}
use Rattle.std.specs.Vec.{vec_capacity}
use Rattle.fl_compile_tape.proofs.frags.push_word.Given as goal

abbrev pub invariant-loop-byte : goal.invariant-loop-byte
invariant-loop-byte l = record {
  put : l.bytes.items ≡ l.fn.bytes.items ++ take l.byte-index l.byte-items;
  length : vec_len l.bytes ≡ vec_len l.fn.bytes + l.byte-index;
  capacity : vec_capacity l.bytes ≡ vec_capacity l.fn.bytes;
}
