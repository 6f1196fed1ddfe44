use Rattle.std.proofs.Common.{sym, arith}
use Rattle.fl_history_rings.proofs.Words.{mate_even, mate_odd}
use Rattle.fl_history_rings.proofs.one_core.mate.Goals as goal

pub returns-then-side-eq0 : goal.returns-then-side-eq0
returns-then-side-eq0 c = record { mate = sym (mate_even c.args.side c.if-side-eq0.true) }

pub returns : goal.returns
returns c = let odd = mate_odd c.args.side c.if-side-eq0.false in record { mate = omega (arith, odd) }
