use Rattle.fl_image.proofs.Refusals.{longer_has_more}
use Rattle.fl_image.proofs.law.law_longer_images_have_more.Goals as goal

pub returns : goal.returns
returns c = record { law = longer_has_more }
