use Rattle.std.proofs.lemmas.Result.{IfOk-at_ok, IfOk-weaker}
use Rattle.flounder_args.proofs.Asking.{with_argument}
use Rattle.flounder_args.proofs.words.with_argument.Goals as goal

pub returns-in-Ok : goal.returns-in-Ok
returns-in-Ok c = record {
  is = λ a r h e local. IfOk-weaker c.arg.result _ _ (λ x adds. with_argument c.in-Ok.command x c.args.arg a r (IfOk-at_ok _ c.in-Ok.is h) local e adds) c.arg.ensures;
}
