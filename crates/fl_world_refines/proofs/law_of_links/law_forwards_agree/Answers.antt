use Rattle.fl_world_refines.proofs.ServingAll.{forwarding_agrees}
use Rattle.fl_world_refines.proofs.law_of_links.law_forwards_agree.Goals as goal

pub returns : goal.returns
returns c = record { agree = forwarding_agrees c.law_messages_are_said.ensures.said c.law_calls_go_on.ensures.goes_on }
