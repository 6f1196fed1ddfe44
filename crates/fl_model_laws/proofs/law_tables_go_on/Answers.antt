use Rattle.fl_model_laws.proofs.TablesGoOn.{sound_tables}
use Rattle.fl_model_laws.proofs.law_tables_go_on.Goals as goal

pub returns : goal.returns
returns c = record { kept = sound_tables }
