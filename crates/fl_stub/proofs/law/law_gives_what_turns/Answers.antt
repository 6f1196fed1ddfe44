use Rattle.fl_stub.proofs.Giving.{gives, turns_into_given}
use Rattle.fl_stub.proofs.law.law_gives_what_turns.Goals as goal

pub returns : goal.returns
returns c = record { moments = gives; whole = turns_into_given }
