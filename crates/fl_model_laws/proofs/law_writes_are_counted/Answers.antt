use Rattle.fl_model_laws.proofs.Counted.{writes_counted}
use Rattle.fl_model_laws.proofs.law_writes_are_counted.Goals as goal

pub returns : goal.returns
returns c = record { counted = writes_counted }
