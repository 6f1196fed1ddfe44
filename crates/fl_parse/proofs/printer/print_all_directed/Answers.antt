use Rattle.std.proofs.Common.{◌-◌, ◌++◌, length, take, drop, codes, arith}
use Rattle.fl_parse.specs.Tree.{directed_of}
use Rattle.fl_parse.specs.Printed.{directed_text}
use Rattle.fl_parse.proofs.Texts.{written_on, written_all, two_pieces}
use Rattle.fl_parse.proofs.printer.print_all_directed.Goals as goal

pub loop-argument-preserved : goal.loop-argument-preserved
loop-argument-preserved c =
    let others = take (length c.args.arguments.now - 1) (drop 1 c.args.arguments.now) in
    let more = two_pieces _ (codes ",") _ _ _ c.in_ok-push.ensures.items c.in_ok-print_directed-2.ensures.printed in
    written_on directed_of (λ y. codes "," ++ directed_text y) others c.loop-argument.argument-index _ _ _ _ _ (omega arith) c.argument-item.is c.loop-argument.invariant more

pub returns : goal.returns
returns c =
    let others = take (length c.args.arguments.now - 1) (drop 1 c.args.arguments.now) in
    record { printed = written_all directed_of (λ y. codes "," ++ directed_text y) others c.loop-argument.argument-index _ _ (omega arith) c.loop-argument.invariant }
