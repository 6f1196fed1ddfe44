use Rattle.fl_cores_shares.proofs.Going.{handed_out_go_on, rings_stay}
use Rattle.fl_cores_shares.proofs.law.law_handed_out_go_on.Goals as goal

pub returns : goal.returns
returns c = record { go_on = handed_out_go_on; stay = rings_stay c.law_side_conserves.ensures.conserves }
