use Rattle.fl_history_shares.specs.Dealt.{hands_in}
use Rattle.fl_history_shares.proofs.Gathered.{all_settled}
use Rattle.fl_history_shares.proofs.settling.settle.Goals as goal

pub returns : goal.returns
returns c = record {
  settled = all_settled (hands_in c.args.hands.items) c.gather.result c.in-Some.gathering c.gather.ensures.gathers c.in-Some.is c.settle.ensures.order;
}
