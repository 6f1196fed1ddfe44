use Rattle.fl_layout.proofs.TooLong.{greatest_is_of_plan_one, too_long_has_long_call}
use Rattle.fl_layout.proofs.law.law_limit_is_of_plan_one.Goals as goal

pub returns : goal.returns
returns c = record { greatest = greatest_is_of_plan_one; too_long = too_long_has_long_call }
