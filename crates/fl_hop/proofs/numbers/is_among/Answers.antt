use Rattle.fl_hop.proofs.Numbering.{among, same_test}
use Rattle.fl_hop.proofs.numbers.is_among.Goals as goal

pub returns-then-is_odd-gives_odd : goal.returns-then-is_odd-gives_odd
returns-then-is_odd-gives_odd c = record {
  among = among c.args.core.0 c.args.other.0 c.args.circuit.0 c.args.count c.if-number-eq0.false (same_test _ _ c.if-is_odd-gives_odd.true);
}
