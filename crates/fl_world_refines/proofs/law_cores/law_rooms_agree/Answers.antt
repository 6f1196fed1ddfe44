use Rattle.fl_world_refines.proofs.Boxes.{same_room}
use Rattle.fl_world_refines.proofs.law_cores.law_rooms_agree.Goals as goal

pub returns : goal.returns
returns c = record { agree = λ k m l h. same_room k.links m.outboxes l h.outboxes }
