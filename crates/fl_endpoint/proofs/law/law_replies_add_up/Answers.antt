use Rattle.fl_endpoint.proofs.Accountings.{chain_replies}
use Rattle.fl_endpoint.proofs.law.law_replies_add_up.Goals as goal

pub returns : goal.returns
returns c = record { adds_up = chain_replies }
