use Rattle.fl_cores.proofs.CoresTold.{unfinished_few, first_few, honest_few}
use Rattle.fl_cores.proofs.law_outcomes.law_reports_handle_few.Goals as goal

pub returns : goal.returns
returns c = record {
  unfinished = unfinished_few c.law_reports_are_of_runs.ensures.runs c.law_dispatchers_handle_few.ensures.unfinished;
  few = first_few c.law_reports_are_of_runs.ensures.runs c.law_dispatchers_handle_few.ensures.few;
  honest = honest_few c.law_reports_are_of_runs.ensures.runs c.law_refused_do_nothing.ensures.few;
}
