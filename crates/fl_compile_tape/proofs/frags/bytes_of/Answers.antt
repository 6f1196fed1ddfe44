use Rattle.std.proofs.Common.{arith}
use Rattle.fl_compile_tape.proofs.frags.bytes_of.Goals as goal

pub push_words-requires : goal.push_words-requires
push_words-requires c = record { room = omega (arith, c.loop-frag.invariant.long, c.loop-frag.invariant.room, c.loop-frag-test.true) }
