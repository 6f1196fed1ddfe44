use Rattle.std.proofs.Common.{true, inr, refl}
use Rattle.flounder_commands.specs.Streams.{output_of}
use Rattle.flounder_commands.proofs.Doing.{told_text}
use Rattle.flounder_commands.proofs.commands.print_named.Goals as goal

pub returns : goal.returns
returns g c = record {
  told =
      told_text c.print.result true c.args.table.now c.in-Ok.named.items c.deref.result.now (output_of g.W.Write.contents c.args.output.now c.print.new.output) c.in-Ok.ensures.within
      c.deref.ensures.value c.print.ensures.put c.print.ensures.part;
}

pub returns-in_default : goal.returns-in_default
returns-in_default g c = record { told = inr (refl, refl, refl) }
