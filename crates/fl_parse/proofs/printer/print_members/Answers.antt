use Rattle.std.proofs.Common.{◌-◌, ◌++◌, length, take, drop, codes, arith}
use Rattle.fl_parse.specs.Tree.{name_of}
use Rattle.fl_parse.specs.Printed.{name_text}
use Rattle.fl_parse.proofs.Texts.{written_on, written_all, two_pieces}
use Rattle.fl_parse.proofs.printer.print_members.Goals as goal

pub loop-member-preserved : goal.loop-member-preserved
loop-member-preserved c =
    let others = take (length c.args.members.now - 1) (drop 1 c.args.members.now) in
    let more = two_pieces _ (codes ",") _ _ _ c.in_ok-push.ensures.items c.in_ok-extend_from_slice-2.ensures.items in
    written_on name_of (λ y. codes "," ++ name_text y) others c.loop-member.member-index _ _ _ _ _ (omega arith) c.member-item.is c.loop-member.invariant more

pub returns : goal.returns
returns c =
    let others = take (length c.args.members.now - 1) (drop 1 c.args.members.now) in
    record { printed = written_all name_of (λ y. codes "," ++ name_text y) others c.loop-member.member-index _ _ (omega arith) c.loop-member.invariant }
