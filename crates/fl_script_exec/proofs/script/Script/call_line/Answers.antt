use Rattle.std.proofs.Common.{refl}
use Rattle.fl_model.specs.declared.event.Event.TheVariants as event
use Rattle.fl_model.specs.Views.{brief_of}
use Rattle.fl_script_lines.specs.Reading.{command_by}
use Rattle.fl_script_lines.specs.declared.command.Verb.TheVariants as verb
use Rattle.fl_script_exec.proofs.LineLemmas.{line_stepped, roomless_refused}
use Rattle.fl_script_exec.proofs.script.Script.call_line.Goals as goal

pub returns-in-Ok : goal.returns-in-Ok
returns-in-Ok g c =
    let tells = rw c.in-Ok.is at c.call_line.ensures.tells in
    record {
      ok =
          line_stepped brief_of g.M.Machine.shows c.args.self.now _ c.args.out.now.items
          c.put_brief.new.out.items (command_by verb.Call c.args.rest.now) (event.Call c.in-Ok.end c.in-Ok.call)
          c.step_call-outcome.result c.put_brief.result tells refl c.step_call-outcome.ensures.steps c.put_brief.ensures.put c.put_brief.ensures.none;
    }

pub returns-in-Err : goal.returns-in-Err
returns-in-Err g c =
    let tells = rw c.in-Err.is at c.call_line.ensures.tells in
    record {
      ok =
          roomless_refused g.M.Machine.shows c.args.self.now _ c.refuse_by.new.self c.args.out.now.items c.refuse_by.new.out.items
          (command_by verb.Call c.args.rest.now) c.in-Err.fault c.refuse_by.result refl refl tells c.refuse_by.ensures.ok c.refuse_by.ensures.memory;
    }
