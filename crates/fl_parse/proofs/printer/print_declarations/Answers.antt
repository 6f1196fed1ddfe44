use Rattle.std.proofs.Common.{arith}
use Rattle.fl_parse.specs.Tree.{declaration_of}
use Rattle.fl_parse.specs.Printed.{declaration_text}
use Rattle.fl_parse.proofs.Texts.{written_on, written_all}
use Rattle.fl_parse.proofs.printer.print_declarations.Goals as goal

pub loop-declaration-preserved : goal.loop-declaration-preserved
loop-declaration-preserved c =
    written_on declaration_of declaration_text c.args.declarations.now c.loop-declaration.declaration-index c.declaration-item.result _ _ _ _ (omega arith) c.declaration-item.is c.loop-declaration.invariant c.in_ok-print_declaration.ensures.printed

pub returns : goal.returns
returns c = record { printed = written_all declaration_of declaration_text c.args.declarations.now c.loop-declaration.declaration-index _ _ (omega arith) c.loop-declaration.invariant }
