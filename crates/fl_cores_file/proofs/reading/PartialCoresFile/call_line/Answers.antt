use Rattle.std.proofs.Common.{refl}
use Rattle.fl_model.specs.declared.event.Event.TheVariants as event
use Rattle.fl_value_data.specs.Value.{call_of}
use Rattle.fl_cores_file.specs.Draft.{makes_call}
use Rattle.fl_cores_file.specs.Files.{reading_of}
use Rattle.fl_cores_file.specs.Views.{draft_of}
use Rattle.fl_cores_file.proofs.Comings.{call_taken, call_refused}
use Rattle.fl_cores_file.proofs.reading.PartialCoresFile.call_line.Goals as goal

pub returns-in-Ok : goal.returns-in-Ok
returns-in-Ok c = record {
  comes = call_taken (reading_of c.args.self.now) (draft_of c.call-taken.new.self) c.args.rest.now (event.Call c.in-Ok.end c.in-Ok.call)
      (makes_call c.in-Ok.end (call_of c.in-Ok.call) (draft_of c.args.self.now.draft)) c.call-taken.result (rw c.in-Ok.is at c.call_line.ensures.tells) refl
      c.call-taken.ensures.comes;
}

pub returns-in-Err : goal.returns-in-Err
returns-in-Err c = record {
  comes = rw c.stop_by.ensures.stop
      (call_refused (reading_of c.args.self.now) c.args.rest.now c.in-Err.fault (rw c.in-Err.is at c.call_line.ensures.tells));
}
