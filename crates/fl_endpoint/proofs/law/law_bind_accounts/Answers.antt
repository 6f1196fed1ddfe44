use Rattle.fl_endpoint.proofs.Sounds.{sound_bound}
use Rattle.fl_endpoint.proofs.Accountings.{bound_account, bound_replies}
use Rattle.fl_endpoint.proofs.law.law_bind_accounts.Goals as goal

pub returns : goal.returns
returns c = record { account = λ s circuit small sound. (record { sound = sound_bound s circuit small sound; account = bound_account s circuit }, bound_replies s circuit) }
