use Rattle.fl_core.proofs.Accounts.{turn_adds}
use Rattle.fl_core.proofs.law.law_turn_accounts.Goals as goal

pub returns : goal.returns
returns g c = record { account = λ picked kind w v s t p q answer sound ready h. turn_adds g.T.TakeSide.takes c.law_bind_accounts.ensures.account c.law_receive_accounts.ensures.account s t p q sound ready picked kind w v answer h }
