use Rattle.fl_link.specs.Queue.{QueueTakes}
use Rattle.fl_ring.specs.Side.{SideTakes}
use Rattle.fl_world_refines.proofs.Receiving.{receive_agrees}
use Rattle.fl_world_refines.proofs.FramesCores.{lists_frame}
use Rattle.fl_world_refines.proofs.FramesQueues.{queue_frame, arrivals_frame}
use Rattle.fl_world_refines.proofs.FramesQuiet.{take_frame}
use Rattle.fl_world_refines.proofs.FramesRings.{ring_frame}
use Rattle.fl_world_refines.proofs.Turning.{turns_agree}
use Rattle.fl_world_refines.proofs.law_of_fragments.law_turns_agree.Goals as goal

pub returns : goal.returns
returns c = record {
  agree = turns_agree (record {
    lists_frame = lists_frame;
    ring_frame = ring_frame;
    queue_frame = queue_frame;
    arrivals_frame = arrivals_frame;
    take_frame = take_frame;
    queue_receives = receive_agrees c.law_take_shows.ensures.shows QueueTakes;
    side_receives = receive_agrees c.law_take_shows.ensures.shows SideTakes;
    queue_takes = c.law_queue_takes.ensures.shows;
    ring_takes = c.law_ring_takes.ensures.shows;
    once = c.law_looks_once.ensures.once;
    carried = c.law_calls_are_carried.ensures.carried;
    first = c.law_first_is_in_turn.ensures.turn;
    others = c.law_others_stay.ensures.stay;
    small = c.law_numbers_are_small.ensures.small;
  });
}
