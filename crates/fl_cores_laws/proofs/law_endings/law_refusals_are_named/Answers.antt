use Rattle.fl_cores_laws.proofs.EndedNamed.{keep_refusals, refusals_named, not_refused}
use Rattle.fl_cores_laws.proofs.law_endings.law_refusals_are_named.Goals as goal

pub returns : goal.returns
returns c = record {
  stay = keep_refusals c.law_turns_are_logged.ensures.logged;
  named = refusals_named c.law_turns_are_logged.ensures.logged c.law_turns_are_logged.ensures.handled c.law_counted_are_turns.ensures.turns;
  set_up = not_refused c.law_turns_are_logged.ensures.logged c.law_turns_are_logged.ensures.handled c.law_counted_are_turns.ensures.turns;
}
