use Rattle.std.proofs.Common.{◌≡◌, ◌*◌, ◌≤◌, take, length, vec_len}
use Rattle.std.specs.List.{flat_map}
use Rattle.std.specs.Vec.{vec_capacity}
use Rattle.fl_compile_tape.specs.Frags.{frag_bytes}
use Rattle.fl_compile_tape.proofs.frags.bytes_of.Given as goal

abbrev pub invariant-loop-frag : goal.invariant-loop-frag
invariant-loop-frag l = record {
  put : l.bytes.items ≡ flat_map frag_bytes (take l.frag-index l.frags);
  long : vec_len l.bytes ≡ 56 * l.frag-index;
  room : 56 * length l.frags ≤ vec_capacity l.bytes;
}
