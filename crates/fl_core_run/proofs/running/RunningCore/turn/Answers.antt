use Rattle.fl_core_run.specs.Run.{run_by}
use Rattle.fl_core_run.proofs.Stopping.{on_err, serving, turning}
use Rattle.fl_core_run.proofs.running.RunningCore.turn.Goals as goal

pub returns-in_err-serve_all-clause-part : goal.returns-in_err-serve_all-clause-part
returns-in_err-serve_all-clause-part g c =
    on_err c.from_residual-in_err-serve_all.result
    (serving g.S.CoreSides.ways c.args.plan.now c.args.jobs.now _ _ _ c.deref.ensures.value c.deref-2.ensures.value
    c.deref-3.ensures.value (run_by g.S.CoreSides.states c.args.self.now) (run_by g.S.CoreSides.states c.forward_all.new.run) (run_by g.S.CoreSides.states c.say_all.new.run) c.in_ok-forward_all.ensures.forwards
    c.say_all.ensures.says (run_by g.S.CoreSides.states c.serve_all.new.run) c.in_err-serve_all.ensures.stops)

pub returns-in_err-turn_all-clause-part : goal.returns-in_err-turn_all-clause-part
returns-in_err-turn_all-clause-part g c =
    on_err c.from_residual-in_err-turn_all.result
    (turning g.S.CoreSides.ways c.args.plan.now c.args.jobs.now _ _ _ c.deref.ensures.value c.deref-2.ensures.value
    c.deref-3.ensures.value (run_by g.S.CoreSides.states c.args.self.now) (run_by g.S.CoreSides.states c.forward_all.new.run) (run_by g.S.CoreSides.states c.say_all.new.run) c.in_ok-forward_all.ensures.forwards
    c.say_all.ensures.says (run_by g.S.CoreSides.states c.serve_all.new.run) (run_by g.S.CoreSides.states c.turn_all.new.run) c.in_ok-serve_all.ensures.serves c.in_err-turn_all.ensures.stops)
