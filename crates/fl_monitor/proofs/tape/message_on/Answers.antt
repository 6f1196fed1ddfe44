use Rattle.fl_monitor.proofs.Numbers.{opening_tape, opened_tape, refused_tape}
use Rattle.fl_monitor.proofs.tape.message_on.Goals as goal

pub opening_on-requires : goal.opening_on-requires
opening_on-requires c = record { tape = opening_tape c.args.number.0 c.args.tape.now c.requires.tape c.if-number-eq0.true }

pub opened_on-requires : goal.opened_on-requires
opened_on-requires c = record { tape = opened_tape c.args.number.0 c.args.tape.now c.requires.tape c.if-number-eq1.true }

pub refused_on-requires : goal.refused_on-requires
refused_on-requires c = record { tape = refused_tape c.args.number.0 c.args.tape.now c.requires.tape c.if-number-eq0.false c.if-number-eq1.false }
