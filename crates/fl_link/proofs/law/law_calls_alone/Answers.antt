use Rattle.fl_link.proofs.Conserved.{calls_only-join, calls_only-bare, calls_only-again, calls_prefix}
use Rattle.fl_link.proofs.law.law_calls_alone.Goals as goal

pub returns : goal.returns
returns c = record { joins = calls_only-join; bare = calls_only-bare; again = calls_only-again; prefix = calls_prefix }
