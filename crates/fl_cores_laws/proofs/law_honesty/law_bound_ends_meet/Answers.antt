use Rattle.fl_cores_laws.proofs.WholeEnds.{ends_meet}
use Rattle.fl_cores_laws.proofs.law_honesty.law_bound_ends_meet.Goals as goal

pub returns : goal.returns
returns c = record { meet = ends_meet c.law_routes_begin.ensures.begins }
