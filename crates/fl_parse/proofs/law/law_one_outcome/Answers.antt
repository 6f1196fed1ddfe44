use Rattle.fl_parse.proofs.Outcomes as outcomes
use Rattle.fl_parse.proofs.law.law_one_outcome.Goals as goal

pub returns-clause-outcome : goal.returns-clause-outcome
returns-clause-outcome c = outcomes.one_outcome

pub returns-clause-tree : goal.returns-clause-tree
returns-clause-tree c = outcomes.one_tree
