use Rattle.flounder_commands.specs.Status.{status_of}
use Rattle.flounder_run.proofs.Doing.{not_wrote, wrote}
use Rattle.flounder_run.proofs.cores.write_script.Goals as goal

pub returns-in-Ok : goal.returns-in-Ok
returns-in-Ok g c = record {
  wrote = wrote (g.F.FileStore.effects c.args.files.now) (g.F.FileStore.effects c.write.new.self) c.args.out.now c.args.script.now c.args.status c.in-Ok.ensures.done;
}

pub returns-in-Err : goal.returns-in-Err
returns-in-Err g c = record {
  wrote =
      not_wrote (g.F.FileStore.effects c.args.files.now) (g.F.FileStore.effects c.write.new.self) c.args.out.now c.args.script.now _ c.args.status c.finish.result
      (status_of c.fault_of_writing.result) c.in-Err.ensures.done c.finish.ensures.fault c.fault_of_writing.ensures.failed;
}
