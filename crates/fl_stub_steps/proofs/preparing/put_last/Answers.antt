use Rattle.std.proofs.Common.{[]}
use Rattle.fl_stub_steps.proofs.preparing.put_last.Goals as goal

pub returns : goal.returns
returns c = c.put_block.ensures [] c.clear.ensures.items
