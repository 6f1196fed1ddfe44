use Rattle.std.proofs.Common.{sym}
use Rattle.fl_cores_script.proofs.Lines.{line_at}
use Rattle.fl_cores_script.proofs.alike.next_line.Goals as goal

pub returns-clause-line : goal.returns-clause-line
returns-clause-line c =
    rw (c.split_at.ensures.front, c.split_at-2.ensures.back, c.split_at.ensures.back) (line_at c.args.text.now c.in-Some.at (sym c.in-Some.ensures.feed)).0

pub returns-clause-whole : goal.returns-clause-whole
returns-clause-whole c = rw c.split_at.ensures.front (line_at c.args.text.now c.in-Some.at (sym c.in-Some.ensures.feed)).1
