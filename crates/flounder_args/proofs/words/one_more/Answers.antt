use Rattle.std.proofs.lemmas.Result.{IfOk-at_ok, IfOk-weaker}
use Rattle.flounder_args.proofs.Asking.{with_one_more}
use Rattle.flounder_args.proofs.words.one_more.Goals as goal

pub returns-in-Ok : goal.returns-in-Ok
returns-in-Ok c = record {
  is = λ p q h k. IfOk-weaker c.subcommand.result _ _ (λ r adds. with_one_more c.args.program c.in-Ok.command r p q h (IfOk-at_ok _ c.in-Ok.is k) adds) c.subcommand.ensures;
}
