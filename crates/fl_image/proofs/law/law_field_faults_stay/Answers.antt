use Rattle.fl_image.proofs.Refusals.{field_faults_stay}
use Rattle.fl_image.proofs.law.law_field_faults_stay.Goals as goal

pub returns : goal.returns
returns c = record { law = field_faults_stay }
