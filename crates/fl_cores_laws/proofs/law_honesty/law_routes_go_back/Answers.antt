use Rattle.fl_cores_laws.proofs.Back.{go_back}
use Rattle.fl_cores_laws.proofs.law_honesty.law_routes_go_back.Goals as goal

pub returns : goal.returns
returns c = record { back = go_back c.law_entries_lead_back.ensures.back }
