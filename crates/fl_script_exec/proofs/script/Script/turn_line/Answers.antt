use Rattle.std.proofs.Common.{refl}
use Rattle.fl_model.specs.declared.event.Event.TheVariants as event
use Rattle.fl_value_data.specs.Value.{call_of}
use Rattle.fl_model.specs.Views.{turned_of}
use Rattle.fl_script_lines.specs.Reading.{command_by}
use Rattle.fl_script_lines.specs.declared.command.Verb.TheVariants as verb
use Rattle.fl_script_exec.proofs.LineLemmas.{line_stepped, line_refused}
use Rattle.fl_script_exec.proofs.script.Script.turn_line.Goals as goal

pub returns-in-Ok : goal.returns-in-Ok
returns-in-Ok g c =
    let tells = rw c.in-Ok.is at c.turn_line.ensures.tells in
    record {
      ok =
          line_stepped (λ a. turned_of a (call_of c.step_turn-outcome.new.handled)) g.M.Machine.shows c.args.self.now (record c.args.self.now { machine = c.step_turn-outcome.new.self; handled = c.step_turn-outcome.new.handled }) c.args.out.now.items
          c.put_turned.new.out.items (command_by verb.Turn c.args.rest.now) (event.Turn c.in-Ok.dispatcher)
          c.step_turn-outcome.result c.put_turned.result tells refl c.step_turn-outcome.ensures.steps c.put_turned.ensures.put c.put_turned.ensures.none;
    }

pub returns-in-Err : goal.returns-in-Err
returns-in-Err g c =
    let tells = rw c.in-Err.is at c.turn_line.ensures.tells in
    record {
      ok =
          line_refused g.M.Machine.shows c.args.self.now c.refuse_by.new.self c.args.out.now.items c.refuse_by.new.out.items
          (command_by verb.Turn c.args.rest.now) c.in-Err.fault c.refuse_by.result tells c.refuse_by.ensures.ok c.refuse_by.ensures.memory;
    }
