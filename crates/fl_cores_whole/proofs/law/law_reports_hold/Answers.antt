use Rattle.fl_cores_whole.proofs.Holds.{reports_hold, runs_under_some_hold}
use Rattle.fl_cores_whole.proofs.law.law_reports_hold.Goals as goal

pub returns : goal.returns
returns c = record {
  hold = reports_hold c.law_no_wire_faults.ensures.none c.law_handled_is_ever_a_prefix.ensures.prefix c.law_passed_ever_falls.ensures.falls
      c.law_numbers_are_once_both_ways.ensures.once c.law_reports_join.ensures.runs;
  under = runs_under_some_hold c.law_no_wire_faults.ensures.none c.law_handled_is_ever_a_prefix.ensures.prefix c.law_passed_ever_falls.ensures.falls
      c.law_numbers_are_once_both_ways.ensures.once;
}
