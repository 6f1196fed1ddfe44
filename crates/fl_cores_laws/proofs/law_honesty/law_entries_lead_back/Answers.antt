use Rattle.fl_cores_laws.proofs.Neighbours.{lead_back}
use Rattle.fl_cores_laws.proofs.law_honesty.law_entries_lead_back.Goals as goal

pub returns : goal.returns
returns c = record { back = lead_back c.law_neighbours_agree.ensures.agree }
