use Rattle.flounder_commands.specs.Streams.{output_of}
use Rattle.flounder_commands.proofs.Doing.{help_so}
use Rattle.flounder_commands.proofs.usage.put_help.Goals as goal

pub returns : goal.returns
returns g c = record {
  told = help_so c.print.result (output_of g.W.Write.contents c.args.output.now c.print.new.output) c.as_bytes.result.now c.print.ensures.put c.print.ensures.part;
}
