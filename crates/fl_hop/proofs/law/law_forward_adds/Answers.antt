use Rattle.fl_hop.proofs.Adding.{forward_adds}
use Rattle.fl_hop.proofs.law.law_forward_adds.Goals as goal

pub returns : goal.returns
returns g c = record {
  adds = λ at answer sides sound x. forward_adds g.S.TakeSide.takes g.S.PutSide.puts at sides g.S.TakeSide.front answer sound x;
}
