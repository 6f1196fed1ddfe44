use Rattle.std.proofs.Common.{ℕ, ◌-◌, length, sym, ◌∙◌, subst, arith}
use Rattle.fl_machine.specs.Taking.{HasRoom}
use Rattle.fl_machine.proofs.Intakes.{here_of, room_on, take_kept}
use Rattle.fl_machine.proofs.intake.RecvCursor.take_run.Goals as goal

pub take_turns-requires-clause-narrow : goal.take_turns-requires-clause-narrow
take_turns-requires-clause-narrow c =
    let (before, all, fed) = c.requires.fed in
    (here_of c.args.ops.now _ c.args.self.now all _ c.args.field fed c.requires.field).reach.sound.0.width

pub take_turns-requires-clause-fed : goal.take_turns-requires-clause-fed
take_turns-requires-clause-fed c = let (before, all, fed) = c.requires.fed in (before, all, c.take_bytes-start.ensures.fed before all fed)

pub take_turns-requires-clause-tape : goal.take_turns-requires-clause-tape
take_turns-requires-clause-tape c =
    let pace = c.take_bytes-start.ensures.pace in
    let end = c.take_bytes-start.ensures.end in
    subst (λ (n : ℕ). HasRoom c.args.ops.now c.take_bytes-start.new.self.count (56 - c.take_bytes-start.result) n) (sym c.take_bytes-start.ensures.long)
    (room_on c.args.ops.now c.args.self.now.count c.take_bytes-start.new.self.count (56 - c.args.used) (56 - c.take_bytes-start.result) (length c.args.tape.now) c.requires.tape (omega (arith, pace, end.0, end.1)))

pub returns-clause-fed : goal.returns-clause-fed
returns-clause-fed c before all fed = c.take_turns.ensures.fed before all (c.take_bytes-start.ensures.fed before all fed)

pub returns-clause-kept : goal.returns-clause-kept
returns-clause-kept c =
    take_kept c.args.self.now.count c.take_bytes-start.new.self.count c.take_turns.new.tape c.take_bytes-start.new.tape c.take_bytes-start.ensures.count.0 c.take_turns.ensures.kept
    ∙ c.take_bytes-start.ensures.kept
