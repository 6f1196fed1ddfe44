use Rattle.std.proofs.Common.{refl, arith}
use Rattle.fl_machine.proofs.Intakes.{run_grows}
use Rattle.fl_machine.proofs.straight.number_at.Goals as goal

pub returns : goal.returns
returns c =
    let inside = c.requires.inside in
    let room = c.if-width-used.false in
    let under = c.if-number-field.false in
    let over = c.if-number-field-2.false in
    record {
      inside = omega (arith, inside, room);
      grows = run_grows c.args.buffer.now c.args.used 0 0 c.args.field.width c.word_at.result c.low_part-number.result refl (omega arith) c.requires.narrow (omega (arith, inside, room)) c.word_at.ensures c.low_part-number.ensures;
      least = omega (arith, under);
      last = omega (arith, over);
    }
