-- The law of forwarding: with a server's end that an opening makes, all that a core hears is the machine's.
use Rattle.fl_world_refines.specs.FragmentLaws.{MessagesAreSaid, CallsGoOn}
use Rattle.fl_world_refines.specs.Laws.{ForwardsAgree}
use Rattle.fl_world_refines.proofs.FramesCores.{lists_frame}
use Rattle.fl_world_refines.proofs.FramesQuiet.{unmade_frame}
use Rattle.fl_world_refines.proofs.PassingAll.{hear_frames, forwards_from}
use Rattle.fl_world_refines.proofs.PassingShowings.{showings}
use Rattle.fl_world_refines.proofs.Serving.{servers_are_made}

pub forwarding_agrees : (said : MessagesAreSaid) (go_on : CallsGoOn) → ForwardsAgree
forwarding_agrees said go_on = forwards_from said go_on (servers_are_made (showings said go_on) hear_frames unmade_frame lists_frame)
