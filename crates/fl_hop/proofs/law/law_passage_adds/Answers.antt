use Rattle.fl_hop.proofs.Adding.{passage_adds}
use Rattle.fl_hop.proofs.law.law_passage_adds.Goals as goal

pub returns : goal.returns
returns g c = record { adds = passage_adds g.T.TakeSide.takes g.P.PutSide.puts g.T.TakeSide.front }
