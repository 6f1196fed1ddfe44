use Rattle.fl_image.proofs.Answered.{image_told}
use Rattle.fl_image.proofs.law.law_one_image.Goals as goal

pub returns : goal.returns
returns c = record { unique = image_told }
