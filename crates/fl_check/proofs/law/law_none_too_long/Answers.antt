use Rattle.fl_check.proofs.Longs.{refuses_too_long, accepts_none_too_long}
use Rattle.fl_check.proofs.law.law_none_too_long.Goals as goal

pub returns : goal.returns
returns c = record { refused = refuses_too_long; accepted = accepts_none_too_long }
