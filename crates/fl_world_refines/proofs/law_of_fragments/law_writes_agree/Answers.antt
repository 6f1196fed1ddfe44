use Rattle.fl_link.specs.Queue.{QueuePuts}
use Rattle.fl_ring.specs.Side.{SidePuts}
use Rattle.fl_world_refines.proofs.EndCalling.{write_agrees}
use Rattle.fl_world_refines.proofs.FramesCores.{lists_frame}
use Rattle.fl_world_refines.proofs.FramesEnds.{end_frame}
use Rattle.fl_world_refines.proofs.FramesFind.{find_none, find_made, find_unmade}
use Rattle.fl_world_refines.proofs.FramesQueues.{queue_frame}
use Rattle.fl_world_refines.proofs.FramesRings.{ring_frame}
use Rattle.fl_world_refines.proofs.Writing.{writes_agree}
use Rattle.fl_world_refines.proofs.law_of_fragments.law_writes_agree.Goals as goal

pub returns : goal.returns
returns c = record {
  agree = writes_agree (record {
    finds_none = find_none;
    finds_unmade = find_unmade;
    finds_made = find_made;
    end_frame = end_frame;
    lists_frame = lists_frame;
    ring_frame = ring_frame;
    queue_frame = queue_frame;
    queue_writes = write_agrees QueuePuts;
    side_writes = write_agrees SidePuts;
    queue_puts = c.law_queue_puts.ensures.shows;
    ring_puts = c.law_ring_puts.ensures.shows;
    still = c.law_showings_go_on.ensures.still;
    carried = c.law_calls_are_carried.ensures.carried;
    labels = c.law_labels_stay.ensures.stay;
    first = c.law_first_is_in_turn.ensures.turn;
    others = c.law_others_stay.ensures.stay;
    next = c.law_next_is_written.ensures.stands;
    small = c.law_numbers_are_small.ensures.small;
  });
}
