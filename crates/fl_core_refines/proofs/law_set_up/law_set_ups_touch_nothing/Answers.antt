use Rattle.fl_core_refines.proofs.Untouching.{set_ups_touch_nothing}
use Rattle.fl_core_refines.proofs.law_set_up.law_set_ups_touch_nothing.Goals as goal

pub returns : goal.returns
returns c = record { untouched = set_ups_touch_nothing }
