use Rattle.std.proofs.Common.{arith}
use Rattle.fl_machine.proofs.Intakes.{stance_depth}
use Rattle.fl_machine.proofs.Texts.{passes_text}
use Rattle.fl_machine.proofs.intake.RecvCursor.pass_text.Goals as goal

pub is_text_run-requires : goal.is_text_run-requires
is_text_run-requires c = let (taken, bytes, s) = c.requires in stance_depth c.args.ops.now c.args.self.now s.at.stance

pub turns_left-requires-clause-high : goal.turns_left-requires-clause-high
turns_left-requires-clause-high c = let (taken, bytes, s) = c.requires in stance_depth c.args.ops.now c.args.self.now s.at.stance

pub returns-clause-passes : goal.returns-clause-passes
returns-clause-passes c so =
    let many = c.if-turns_left-lt56.false in
    let turns = c.turns_left.ensures.turns in
    passes_text c.args.ops.now c.args.self.now c.pass_fragment.new.self c.args.words.now (c.is_text_run.ensures c.if-not-is_text_run.false) c.pass_fragment.ensures.wide (omega (arith, many, turns)) c.told-words
    (c.has_no_zero.ensures c.if-not-has_no_zero.false) c.pass_fragment.ensures.passed
