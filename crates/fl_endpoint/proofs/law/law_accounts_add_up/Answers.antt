use Rattle.fl_endpoint.proofs.Accountings.{chain}
use Rattle.fl_endpoint.proofs.law.law_accounts_add_up.Goals as goal

pub returns : goal.returns
returns c = record { adds_up = chain }
