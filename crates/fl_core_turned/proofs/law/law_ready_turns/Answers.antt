use Rattle.fl_core_turned.proofs.Following.{turns_happen, ready_turns}
use Rattle.fl_core_turned.proofs.law.law_ready_turns.Goals as goal

pub returns : goal.returns
returns c = record { happen = turns_happen; ready = ready_turns c.law_ready_cores_follow.ensures.logs }
