use Rattle.std.proofs.Common.{refl, map}
use Rattle.clap.specs.Words.{kind_of}
use Rattle.flounder_commands.specs.Streams.{output_of, streams_of}
use Rattle.flounder_args.specs.Words.{asked_by}
use Rattle.flounder_commands.specs.Commands.{Helps}
use Rattle.flounder_commands.proofs.FileEffects.{finished}
use Rattle.flounder_run.proofs.Doing.{runs_asked, runs_refused}
use Rattle.flounder_run.proofs.performing.run.Goals as goal

pub returns-in-Ok : goal.returns-in-Ok
returns-in-Ok g c = record {
  runs =
      runs_asked (g.F.FileStore.effects c.args.files.now) (g.F.FileStore.effects c.perform.new.files) (map g.S.AsStr.text c.args.words.now)
      (streams_of g.R.Read.remaining g.W.Write.contents c.args.input.now c.perform.new.input c.args.output.now c.perform.new.output)
      (asked_by c.in-Ok.request) c.perform.result c.in-Ok.ensures.asked c.in-Ok.ensures.refused c.perform.ensures.done;
}

pub returns-in-Err : goal.returns-in-Err
returns-in-Err g c = record {
  runs =
      runs_refused (g.F.FileStore.effects c.args.files.now) (map g.S.AsStr.text c.args.words.now)
      (streams_of g.R.Read.remaining g.W.Write.contents c.args.input.now c.args.input.now c.args.output.now c.tell_usage.new.output)
      c.in-Err.error c.finish.result refl c.in-Err.ensures.refused
      (finished c.tell_usage.result (Helps (kind_of c.in-Err.error) (output_of g.W.Write.contents c.args.output.now c.tell_usage.new.output)) c.finish.result
      c.tell_usage.ensures.told c.finish.ensures.done c.finish.ensures.fault);
}
