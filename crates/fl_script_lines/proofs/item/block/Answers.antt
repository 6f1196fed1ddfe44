use Rattle.fl_script_lines.proofs.ItemLemmas.{within_more}
use Rattle.fl_script_lines.proofs.item.block.Goals as goal

pub loop-rest-preserved : goal.loop-rest-preserved
loop-rest-preserved c =
    within_more c.args.bytes.now c.loop-rest.rest.now c.next_line.result.0.now c.next_line.result.1.now c.loop-rest.taken c.loop-rest.invariant
    c.next_line.ensures.lines c.next_line.ensures.whole (c.ends_block.ensures.no c.if-ends_block.false)
