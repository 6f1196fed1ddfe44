use Rattle.fl_cores_file_laws.proofs.Accepted.{set_ups_join, lines_join, files_join, no_file_is_refused}
use Rattle.fl_cores_file_laws.proofs.law_files_join.Goals as goal

pub returns : goal.returns
returns c = record { set_ups = set_ups_join; lines = lines_join; files = files_join; none = no_file_is_refused c.law_one_refusal.ensures.none }
