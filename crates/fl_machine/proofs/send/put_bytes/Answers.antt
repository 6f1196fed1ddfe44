use Rattle.std.proofs.Common.{◌+◌, ◌∙◌, arith}
use Rattle.std.proofs.lemmas.List.{length-set}
use Rattle.fl_machine.proofs.Eights.{bytes_put}
use Rattle.fl_machine.proofs.send.put_bytes.Goals as goal

pub loop-index-preserved : goal.loop-index-preserved
loop-index-preserved c =
    let i = c.loop-index.invariant in
    let few = c.loop-index-test.true in
    let inside = c.requires.inside in
    let there = c.requires.there in
    let at = c.args.at + 1 + c.loop-index.index in (
      omega (arith, few),
      length-set c.loop-index.buffer at c.low_byte-in-loop-index.result ∙ i.1,
      λ put long holds.
          bytes_put c.loop-index.buffer put c.args.numbers.now c.args.at c.args.first c.args.from c.loop-index.index c.low_byte-in-loop-index.result i.1 long
          (omega (arith, few, inside)) (omega (arith, few, there)) c.low_byte-in-loop-index.ensures (i.2 put long holds),
    )
