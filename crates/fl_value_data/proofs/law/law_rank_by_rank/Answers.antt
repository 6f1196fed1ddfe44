use Rattle.fl_interface.specs.Interface.{TheArgType}
use Rattle.fl_value_data.proofs.Ranked.{arranged_ranks}
use Rattle.fl_value_data.proofs.law.law_rank_by_rank.Goals as goal

pub returns : goal.returns
returns c = record { same = arranged_ranks (λ (t : TheArgType). t) }
