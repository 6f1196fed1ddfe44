use Rattle.fl_cores.proofs.CoresTold.{has_as_many, has_all}
use Rattle.fl_cores.proofs.law_outcomes.law_complete_has_all.Goals as goal

pub returns : goal.returns
returns c = record {
  as_many = has_as_many c.law_reports_are_of_runs.ensures.runs c.law_complete_has_all.ensures.as_many;
  all = has_all c.law_reports_are_of_runs.ensures.runs c.law_complete_has_all.ensures.all;
}
