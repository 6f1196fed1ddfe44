use Rattle.fl_world_refines.proofs.FramesCores.{monitor_frame}
use Rattle.fl_world_refines.proofs.FramesRings.{ring_frame}
use Rattle.fl_world_refines.proofs.PassingShowings.{showings}
use Rattle.fl_world_refines.proofs.PassingWrites.{monitor_writes_agree}
use Rattle.fl_world_refines.proofs.law_of_links.law_monitor_writes_agree.Goals as goal

pub returns : goal.returns
returns c = record { agree = monitor_writes_agree (showings c.law_messages_are_said.ensures.said c.law_calls_go_on.ensures.goes_on) ring_frame monitor_frame }
