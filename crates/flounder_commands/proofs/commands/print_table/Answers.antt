use Rattle.std.proofs.Common.{false, refl}
use Rattle.flounder_commands.specs.Streams.{output_of}
use Rattle.flounder_commands.proofs.Doing.{told_text}
use Rattle.flounder_commands.proofs.commands.print_table.Goals as goal

pub returns-else-names : goal.returns-else-names
returns-else-names g c = rw c.if-names.false (record {
  told = told_text c.print.result false c.args.table.now c.args.table.now c.args.table.now (output_of g.W.Write.contents c.args.output.now c.print.new.output) refl refl c.print.ensures.put c.print.ensures.part;
})

pub returns-then-names : goal.returns-then-names
returns-then-names g c = rw c.if-names.true (record { told = c.print_named.ensures.told })
