use Rattle.fl_cores_laws.proofs.Few.{ends_stay, unfinished_handle_few, handle_few}
use Rattle.fl_cores_laws.proofs.law_endings.law_dispatchers_handle_few.Goals as goal

pub returns : goal.returns
returns c = record {
  stay = ends_stay c.law_turns_are_logged.ensures.logged c.law_turns_are_logged.ensures.handled c.law_counted_are_turns.ensures.turns;
  unfinished = unfinished_handle_few c.law_turns_are_logged.ensures.logged c.law_turns_are_logged.ensures.handled c.law_counted_are_turns.ensures.turns;
  few = handle_few c.law_turns_are_logged.ensures.logged c.law_turns_are_logged.ensures.handled c.law_counted_are_turns.ensures.turns;
}
