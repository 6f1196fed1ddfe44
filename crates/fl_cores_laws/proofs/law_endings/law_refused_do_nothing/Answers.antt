use Rattle.fl_cores_laws.proofs.Rest.{opened_refused, silent_refused, honest_few}
use Rattle.fl_cores_laws.proofs.law_endings.law_refused_do_nothing.Goals as goal

pub returns : goal.returns
returns c = record {
  opened = opened_refused c.law_turns_are_logged.ensures.logged c.law_turns_are_logged.ensures.handled c.law_counted_are_turns.ensures.turns c.law_jobs_are_made.ensures.made;
  silent = silent_refused c.law_turns_are_logged.ensures.logged c.law_turns_are_logged.ensures.handled c.law_counted_are_turns.ensures.turns c.law_jobs_are_made.ensures.made;
  few = honest_few c.law_turns_are_logged.ensures.logged c.law_turns_are_logged.ensures.handled c.law_counted_are_turns.ensures.turns c.law_jobs_are_made.ensures.made
      c.law_dispatchers_handle_few.ensures.few;
}
