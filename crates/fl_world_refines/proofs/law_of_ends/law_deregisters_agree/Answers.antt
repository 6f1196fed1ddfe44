use Rattle.fl_world_refines.proofs.Listing.{deregisters_agree}
use Rattle.fl_world_refines.proofs.law_of_ends.law_deregisters_agree.Goals as goal

pub returns : goal.returns
returns c = record { agree = deregisters_agree }
