use Rattle.flounder_run.proofs.Doing.{none_found, script_found}
use Rattle.flounder_run.proofs.cores.keep_script.Goals as goal

pub returns-in-Ok : goal.returns-in-Ok
returns-in-Ok g c = record {
  kept =
      script_found (g.F.FileStore.effects c.args.files.now) (g.F.FileStore.effects c.write_script.new.files) c.args.out.now c.args.content.now c.in-Ok.script.items
      c.deref.result.now c.args.told.now c.args.status c.write_script.result c.deref.ensures.value c.in-Ok.ensures.replays c.in-Ok.ensures.keeps
      c.write_script.ensures.wrote;
}

pub returns-in-Err : goal.returns-in-Err
returns-in-Err g c = record {
  kept =
      none_found (g.F.FileStore.effects c.args.files.now) c.args.out.now c.args.content.now c.args.told.now c.args.status c.no_script.result
      c.no_script.ensures.status;
}
