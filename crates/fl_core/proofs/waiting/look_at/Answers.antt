use Rattle.std.proofs.Common.{Ok}
use Rattle.fl_core.specs.declared.turn_answer.TurnAnswer.TheVariants.{Ready, Quiet}
use Rattle.fl_core.proofs.BoardLooking.{looks_polled}
use Rattle.fl_core.proofs.waiting.look_at.Goals as goal

pub returns-then-examine-clause-looks : goal.returns-then-examine-clause-looks
returns-then-examine-clause-looks g c =
    looks_polled g.T.TakeSide.takes c.args.kind c.in-Polled.c c.args.pick c.args.waitset.now c.examine.new.waitset c.args.end.now c.args.from.now c.examine.new.from (Ok Ready) c.args.calls.now c.args.place c.in-Polled.is c.requires.place c.if-examine.ensures.examines

pub returns-else-examine-clause-looks : goal.returns-else-examine-clause-looks
returns-else-examine-clause-looks g c =
    looks_polled g.T.TakeSide.takes c.args.kind c.in-Polled.c c.args.pick c.args.waitset.now c.examine.new.waitset c.args.end.now c.args.from.now c.examine.new.from (Ok Quiet) c.args.calls.now c.args.place c.in-Polled.is c.requires.place c.if-examine.ensures.examines
