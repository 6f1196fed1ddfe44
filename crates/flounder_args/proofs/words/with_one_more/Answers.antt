use Rattle.std.proofs.lemmas.Result.{IfOk-at_ok}
use Rattle.flounder_args.proofs.words.with_one_more.Goals as goal

pub returns-in-Ok : goal.returns-in-Ok
returns-in-Ok c = record { is = λ p q h k. c.one_more.ensures.is p q (IfOk-at_ok _ c.in-Ok.is h) k }
