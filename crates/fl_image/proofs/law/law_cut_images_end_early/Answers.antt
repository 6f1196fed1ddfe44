use Rattle.fl_image.proofs.Refusals.{cut_ends_early}
use Rattle.fl_image.proofs.law.law_cut_images_end_early.Goals as goal

pub returns : goal.returns
returns c = record { law = cut_ends_early }
