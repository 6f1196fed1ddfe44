use Rattle.std.proofs.Common.{◌∙◌}
use Rattle.std.proofs.lemmas.Result.{IfOk-from_err}
use Rattle.fl_core_run.specs.Run.{run_by}
use Rattle.fl_core_run.proofs.Counting.{some_more, seen_stored, seen_heard}
use Rattle.fl_core_run.proofs.Stock.{quiet_then, seen_quiet}
use Rattle.fl_core_run.proofs.Stopping.{on_err}
use Rattle.fl_core_run.proofs.run.idle_turns.Goals as goal

pub loop-preserved : goal.loop-preserved
loop-preserved g c = (
  tt,
  tt,
  some_more _ _ _ _ _ _ c.loop.invariant.2 c.in_ok-turn.ensures.turn,
  quiet_then _ _ _ c.loop.invariant.3 (seen_quiet c.loop.run_seat.seat c.load_ended-ended.new.self c.load_ended-ended.result c.load_ended-ended.ensures.seen),
  seen_stored c.loop.run_seat.seat c.load_ended-ended.new.self c.load_ended-ended.result c.load_ended-ended.ensures.seen ∙ c.loop.invariant.4,
  seen_heard c.loop.run_seat.seat c.load_ended-ended.new.self c.load_ended-ended.result c.load_ended-ended.ensures.seen ∙ c.loop.invariant.5,
)

pub returns-in_err-turn : goal.returns-in_err-turn
returns-in_err-turn g c = record {
  turned = IfOk-from_err c.from_residual.result _ c.from_residual.ensures.0;
  part = on_err c.from_residual.result (c.loop.invariant.2.0, run_by g.S.CoreSides.states c.loop.run, c.loop.invariant.2.1, c.in_err-turn.ensures.part);
  others = IfOk-from_err c.from_residual.result _ c.from_residual.ensures.0;
  seat = quiet_then _ _ _ c.loop.invariant.3 (seen_quiet c.loop.run_seat.seat c.load_ended-ended.new.self c.load_ended-ended.result c.load_ended-ended.ensures.seen);
  stored = seen_stored c.loop.run_seat.seat c.load_ended-ended.new.self c.load_ended-ended.result c.load_ended-ended.ensures.seen ∙ c.loop.invariant.4;
  heard = seen_heard c.loop.run_seat.seat c.load_ended-ended.new.self c.load_ended-ended.result c.load_ended-ended.ensures.seen ∙ c.loop.invariant.5;
}
