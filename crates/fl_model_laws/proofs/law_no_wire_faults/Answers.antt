use Rattle.fl_model_laws.proofs.WireFaults.{refusals_clear}
use Rattle.fl_model_laws.proofs.law_no_wire_faults.Goals as goal

pub returns : goal.returns
returns c = record { none = refusals_clear }
