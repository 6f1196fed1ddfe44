use Rattle.fl_cores_laws.proofs.Ample.{go_amply}
use Rattle.fl_cores_laws.proofs.Whole.{cores_go}
use Rattle.fl_cores_laws.proofs.law_honesty.law_cores_go.Goals as goal

pub returns : goal.returns
returns c = record {
  goes = cores_go c.law_counted_are_turns.ensures.turns c.law_turns_are_logged.ensures.logged;
  amply = go_amply c.law_counted_are_turns.ensures.turns;
}
