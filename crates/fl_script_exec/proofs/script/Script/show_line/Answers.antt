use Rattle.std.proofs.Common.{refl}
use Rattle.fl_model.specs.declared.event.Event.TheVariants as event
use Rattle.fl_model.specs.Views.{answer_of}
use Rattle.fl_script_lines.specs.Reading.{command_by}
use Rattle.fl_script_lines.specs.declared.command.Verb.TheVariants as verb
use Rattle.fl_script_exec.proofs.LineLemmas.{line_stepped, line_refused}
use Rattle.fl_script_exec.proofs.script.Script.show_line.Goals as goal

pub returns-in-Ok : goal.returns-in-Ok
returns-in-Ok g c =
    let tells = rw c.in-Ok.is at c.show_line.ensures.tells in
    record {
      ok =
          line_stepped answer_of g.M.Machine.shows c.args.self.now (record c.args.self.now { machine = c.step_show-outcome.new.self }) c.args.out.now.items
          c.put_outcome.new.out.items (command_by verb.Show c.args.rest.now) (event.Show c.in-Ok.end)
          c.step_show-outcome.result c.put_outcome.result tells refl c.step_show-outcome.ensures.steps c.put_outcome.ensures.put c.put_outcome.ensures.none;
    }

pub returns-in-Err : goal.returns-in-Err
returns-in-Err g c =
    let tells = rw c.in-Err.is at c.show_line.ensures.tells in
    record {
      ok =
          line_refused g.M.Machine.shows c.args.self.now c.refuse_by.new.self c.args.out.now.items c.refuse_by.new.out.items
          (command_by verb.Show c.args.rest.now) c.in-Err.fault c.refuse_by.result tells c.refuse_by.ensures.ok c.refuse_by.ensures.memory;
    }
