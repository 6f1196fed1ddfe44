use Rattle.std.proofs.Common.{◌≡◌, Result, Ok, Err, IfOk}
use Rattle.std.specs.declared.alloc.AllocError.{AllocError}
use Rattle.fl_value_data.specs.Value.{TheCall, call_of}
use Rattle.fl_model.specs.declared.answer.TurnedAnswer.{TurnedAnswer}
use Rattle.fl_world_refines.specs.View.{TheWorld}
use Rattle.fl_world_refines.specs.Step.{settled_by}
use Rattle.fl_model.specs.Events as machine
use Rattle.fl_model.specs.Views.{turned_of, id_of}
use Rattle.fl_world.proofs.Stepped.{machine_steps, machine_kept}
use Rattle.fl_world.proofs.machine.WorldMachine.step_turn.Goals as goal

-- whatever call was handled, the number of cores stands then
for_call : (r : Result TurnedAnswer AllocError) (call : TheCall) (w w2 : TheWorld) → IfOk r (λ a. (any : TheCall) → w2 ≡ settled_by (turned_of a any) w)
    → IfOk r (λ a. w2 ≡ settled_by (turned_of a call) w)
for_call (Ok a) call w w2 closed = closed call
for_call (Err e) call w w2 closed = tt

pub returns : goal.returns
returns c =
    let made = c.turn-outcome.new.self in
    record {
      steps = machine_steps (λ a. turned_of a (call_of c.turn-outcome.new.handled)) (machine.turn (id_of c.args.dispatcher)) c.args.self.now made c.close_turned_by.new.self c.turn-outcome.result c.law_steps_agree.ensures.agree
          c.turn-outcome.ensures.turns (for_call c.turn-outcome.result (call_of c.turn-outcome.new.handled) c.turn-outcome.new.self c.close_turned_by.new.self c.close_turned_by.ensures.closed);
      kept = machine_kept c.args.self.now made c.close_turned_by.new.self c.turn-outcome.result c.turn-outcome.ensures.kept c.close_turned_by.ensures.kept;
    }
