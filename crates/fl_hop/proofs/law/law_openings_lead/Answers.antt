use Rattle.fl_hop.proofs.Entries.{opened_leads, passed_leads, arrived_leads}
use Rattle.fl_hop.proofs.law.law_openings_lead.Goals as goal

pub returns : goal.returns
returns c = record { opened = opened_leads; passed_on = passed_leads; arrived = arrived_leads }
