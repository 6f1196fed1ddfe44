use Rattle.fl_cores_laws.proofs.WholeTrails.{routes_begin}
use Rattle.fl_cores_laws.proofs.law_honesty.law_routes_begin.Goals as goal

pub returns : goal.returns
returns c = record { begins = routes_begin c.law_entries_lead_back.ensures.back }
