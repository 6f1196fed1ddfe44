use Rattle.fl_core_refines.proofs.Handing.{handed_show}
use Rattle.fl_core_refines.proofs.law_alone.law_handed_cores_show.Goals as goal

pub returns : goal.returns
returns c = record { show = handed_show }
