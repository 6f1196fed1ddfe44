use Rattle.std.proofs.Common.{◌≡◌, ◌∙◌, length, refl, ap, arith}
use Rattle.fl_stub.specs.Structure.{is_width}
use Rattle.fl_machine.specs.declared.cursor.SendCursor.{SendCursor}
use Rattle.fl_machine.proofs.Turns.{turned_run, run_fits}
use Rattle.fl_machine.proofs.cursor.SendCursor.take_turn.Goals as goal

pub low_bytes-self-requires : goal.low_bytes-self-requires
low_bytes-self-requires c =
    ap (λ (x : SendCursor). is_width x.width) c.take_number-number.ensures.rest ∙ run_fits c.args.ops.now c.args.tape.now c.args.self.now c.requires.location c.requires.run c.requires.more

pub returns : goal.returns
returns c =
    let long : length c.args.self.now.loops ≡ 8 = omega arith in
    let t = turned_run c.args.ops.now c.args.tape.now c.args.self.now c.take_number-number.new.self c.take_number-number.result c.low_bytes-self.result
    c.requires.location c.requires.run c.requires.more long c.take_number-number.ensures.number c.take_number-number.ensures.location c.take_number-number.ensures.rest
    c.low_bytes-self.ensures.bytes c.low_bytes-self.ensures.small in
    record { number = refl; width = t.width; run = t.run; turns = t.turns; location = t.goes.location; bytes = t.goes.bytes }
