use Rattle.fl_history_shares.proofs.Near.{settled_are_near}
use Rattle.fl_history_shares.proofs.settling.law_settled_are_near.Goals as goal

pub returns : goal.returns
returns c = record { near = settled_are_near }
