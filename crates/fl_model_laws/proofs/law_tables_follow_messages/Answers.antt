use Rattle.fl_model_laws.proofs.TablesFollow.{sound_follows}
use Rattle.fl_model_laws.proofs.law_tables_follow_messages.Goals as goal

pub returns : goal.returns
returns c = record { follows = sound_follows }
