-- The law of forwarding, once the server's ends that openings make are those of the machine.
use Rattle.fl_world_refines.specs.FragmentLaws.{MessagesAreSaid, CallsGoOn}
use Rattle.fl_world_refines.specs.Laws.{ForwardsAgree}
use Rattle.fl_world_refines.specs.Hearing.{HearsAgrees}
use Rattle.fl_world_refines.proofs.FramesCores.{lists_frame, monitor_frame}
use Rattle.fl_world_refines.proofs.FramesEnds.{end_frame}
use Rattle.fl_world_refines.proofs.FramesQueues.{arrivals_frame}
use Rattle.fl_world_refines.proofs.FramesQuiet.{pass_frame, route_frame}
use Rattle.fl_world_refines.proofs.FramesRings.{ring_frame}
use Rattle.fl_world_refines.proofs.PassingMisrouted.{nothing_misrouted}
use Rattle.fl_world_refines.proofs.PassingForward.{forwards_agree}
use Rattle.fl_world_refines.proofs.PassingHeard.{HearFrames}
use Rattle.fl_world_refines.proofs.PassingHears.{ServersAreMade, hears_agree}
use Rattle.fl_world_refines.proofs.PassingKnows.{knows_itself}
use Rattle.fl_world_refines.proofs.PassingOpens.{ends_open}
use Rattle.fl_world_refines.proofs.PassingShowings.{showings}

abbrev pub hear_frames : HearFrames
hear_frames = record { ring = ring_frame; monitor = monitor_frame; route = route_frame }

-- what is left to show of a server's end
abbrev pub ServersMade : MessagesAreSaid → CallsGoOn → Type 0
ServersMade said go_on = ServersAreMade (showings said go_on) hear_frames

pub messages_heard : (said : MessagesAreSaid) (go_on : CallsGoOn) → ServersMade said go_on → HearsAgrees
messages_heard said go_on made =
    hears_agree (showings said go_on) hear_frames (knows_itself (showings said go_on) hear_frames) (nothing_misrouted (showings said go_on) hear_frames)
    (ends_open (showings said go_on) hear_frames end_frame lists_frame) made

pub forwards_from : (said : MessagesAreSaid) (go_on : CallsGoOn) → ServersMade said go_on → ForwardsAgree
forwards_from said go_on made =
    forwards_agree (showings said go_on)
    (record { ring = ring_frame; pass = pass_frame; arrivals = arrivals_frame; lists = lists_frame; hears = messages_heard said go_on made })
