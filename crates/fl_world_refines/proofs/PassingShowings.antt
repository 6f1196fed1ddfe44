-- The laws of what is shown that the laws of links stand on.
use Rattle.fl_world_refines.specs.FragmentLaws.{MessagesAreSaid, CallsGoOn}
use Rattle.fl_world_refines.proofs.Aside.{set_aside}
use Rattle.fl_world_refines.proofs.Boxes.{sends_first}
use Rattle.fl_world_refines.proofs.Carried.{calls_carried, links_tell}
use Rattle.fl_world_refines.proofs.Others.{parts_stay}
use Rattle.fl_world_refines.proofs.Sides.{put_agrees, take_agrees, looks_once}
use Rattle.fl_world_refines.proofs.Small.{small_numbers}
use Rattle.fl_world_refines.proofs.Standing.{queue_put_agrees}
use Rattle.fl_world_refines.proofs.Turns.{first_in_turn}
use Rattle.fl_world_refines.proofs.PassingRings.{Showings}

pub showings : MessagesAreSaid → CallsGoOn → Showings
showings said go_on = record {
  puts = put_agrees;
  takes = take_agrees;
  once = looks_once;
  queues = queue_put_agrees;
  outboxes = sends_first said;
  said = said;
  carried = calls_carried;
  go_on = go_on;
  tell = links_tell;
  aside = set_aside;
  small = small_numbers;
  others = parts_stay;
  turn = first_in_turn;
}
