use Rattle.std.proofs.Common.{ℕ, ◌-◌, length, sym, ◌∙◌, subst, arith}
use Rattle.std.proofs.lemmas.Result.{IfOk-weaker, IfErr-weaker}
use Rattle.fl_machine.proofs.Intakes.{take_kept, room_on}
use Rattle.fl_machine.specs.Taking.{HasRoom}
use Rattle.fl_machine.proofs.intake.RecvCursor.take_next.Goals as goal

pub take_fields-requires-clause-fed : goal.take_fields-requires-clause-fed
take_fields-requires-clause-fed c = let (before, all, fed) = c.requires.fed in (before, all, c.take_run-start.ensures.fed before all fed)

pub take_fields-requires-clause-tape : goal.take_fields-requires-clause-tape
take_fields-requires-clause-tape c =
    let pace = c.take_run-start.ensures.pace in
    let end = c.take_run-start.ensures.end in
    subst (λ (n : ℕ). HasRoom c.args.ops.now c.take_run-start.new.self.count (56 - c.take_run-start.result) n) (sym c.take_run-start.ensures.long)
    (room_on c.args.ops.now c.args.self.now.count c.take_run-start.new.self.count (56 - c.args.used) (56 - c.take_run-start.result) (length c.args.tape.now) c.requires.tape (omega (arith, pace, end.0, end.1)))

pub returns-clause-fed : goal.returns-clause-fed
returns-clause-fed c = IfOk-weaker c.take_fields.result _ _ (λ end h before all fed. h before all (c.take_run-start.ensures.fed before all fed)) c.take_fields.ensures.fed

pub returns-clause-wrong : goal.returns-clause-wrong
returns-clause-wrong c = IfErr-weaker c.take_fields.result _ _ (λ mark h before all fed. h before all (c.take_run-start.ensures.fed before all fed)) c.take_fields.ensures.wrong

pub returns-clause-kept : goal.returns-clause-kept
returns-clause-kept c =
    take_kept c.args.self.now.count c.take_run-start.new.self.count c.take_fields.new.tape c.take_run-start.new.tape c.take_run-start.ensures.count.0 c.take_fields.ensures.kept
    ∙ c.take_run-start.ensures.kept
