use Rattle.fl_world_refines.proofs.Rules.{rule_agrees}
use Rattle.fl_world_refines.proofs.law_ends.law_rule_shows.Goals as goal

pub returns : goal.returns
returns c = record { shows = rule_agrees }
