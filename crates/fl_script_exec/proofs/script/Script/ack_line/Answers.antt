use Rattle.std.proofs.Common.{refl}
use Rattle.fl_model.specs.declared.event.Event.TheVariants as event
use Rattle.fl_model.specs.Views.{brief_of}
use Rattle.fl_script_lines.specs.Reading.{command_by}
use Rattle.fl_script_lines.specs.declared.command.Verb.TheVariants as verb
use Rattle.fl_script_exec.proofs.LineLemmas.{line_stepped, line_refused}
use Rattle.fl_script_exec.proofs.script.Script.ack_line.Goals as goal

pub returns-in-Ok : goal.returns-in-Ok
returns-in-Ok g c =
    let tells = rw c.in-Ok.is at c.ack_line.ensures.tells in
    record {
      ok =
          line_stepped brief_of g.M.Machine.shows c.args.self.now (record c.args.self.now { machine = c.step_ack-outcome.new.self }) c.args.out.now.items
          c.put_brief.new.out.items (command_by verb.Ack c.args.rest.now) (event.Ack c.in-Ok.end)
          c.step_ack-outcome.result c.put_brief.result tells refl c.step_ack-outcome.ensures.steps c.put_brief.ensures.put c.put_brief.ensures.none;
    }

pub returns-in-Err : goal.returns-in-Err
returns-in-Err g c =
    let tells = rw c.in-Err.is at c.ack_line.ensures.tells in
    record {
      ok =
          line_refused g.M.Machine.shows c.args.self.now c.refuse_by.new.self c.args.out.now.items c.refuse_by.new.out.items
          (command_by verb.Ack c.args.rest.now) c.in-Err.fault c.refuse_by.result tells c.refuse_by.ensures.ok c.refuse_by.ensures.memory;
    }
