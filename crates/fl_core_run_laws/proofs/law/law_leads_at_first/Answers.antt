use Rattle.fl_core_run_laws.proofs.Leading.{leads_at_first}
use Rattle.fl_core_run_laws.proofs.law.law_leads_at_first.Goals as goal

pub returns : goal.returns
returns g = record { leads = leads_at_first }
