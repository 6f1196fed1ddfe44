use Rattle.std.proofs.Common.{◌∙◌, arith}
use Rattle.fl_compile_tape.proofs.FragBytes.{words_more}
use Rattle.fl_compile_tape.proofs.frags.push_words.Goals as goal

pub push_word-requires : goal.push_word-requires
push_word-requires c = record { room = omega (arith, c.requires.room, c.loop-word.invariant.length, c.loop-word.invariant.capacity, c.loop-word-test.true) }

pub loop-word-preserved : goal.loop-word-preserved
loop-word-preserved c =
    let inv = c.loop-word.invariant in
    let put = c.push_word.ensures in
    record {
      put = words_more c.args.words.now c.loop-word.word-index c.args.bytes.now.items c.loop-word.bytes.items c.push_word.new.bytes.items c.loop-word-test.true inv.put put.put;
      length = omega (arith, inv.length, put.length);
      capacity = put.capacity ∙ inv.capacity;
    }
