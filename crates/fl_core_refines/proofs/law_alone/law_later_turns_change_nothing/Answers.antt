use Rattle.fl_core_refines.proofs.Later.{later_nothing}
use Rattle.fl_core_refines.proofs.law_alone.law_later_turns_change_nothing.Goals as goal

pub returns : goal.returns
returns c = record { nothing = later_nothing }
