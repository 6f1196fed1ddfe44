use Rattle.fl_core_refines.proofs.Sides.{put_agrees, look_agrees, takes_again, takes_one, takes_ack}
use Rattle.fl_core_refines.proofs.law_cut.law_sides_agree.Goals as goal

pub returns : goal.returns
returns c = record { puts = put_agrees; looks = look_agrees; takes = record { again = takes_again; one = takes_one; ack = takes_ack } }
