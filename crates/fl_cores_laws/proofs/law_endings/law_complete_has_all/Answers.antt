use Rattle.fl_cores_laws.proofs.Complete.{complete_as_many, complete_these, complete_all}
use Rattle.fl_cores_laws.proofs.law_endings.law_complete_has_all.Goals as goal

pub returns : goal.returns
returns c = record {
  as_many = complete_as_many c.law_turns_are_logged.ensures.logged c.law_turns_are_logged.ensures.handled c.law_counted_are_turns.ensures.turns
      c.law_refusals_are_named.ensures.named;
  these = complete_these c.law_turns_are_logged.ensures.logged c.law_turns_are_logged.ensures.handled c.law_counted_are_turns.ensures.turns
      c.law_refusals_are_named.ensures.named;
  all = complete_all c.law_turns_are_logged.ensures.logged c.law_turns_are_logged.ensures.handled c.law_counted_are_turns.ensures.turns
      c.law_refusals_are_named.ensures.named;
}
