use Rattle.std.proofs.Common.{codes}
use Rattle.std.proofs.lemmas.Result.{IfOk-weaker}
use Rattle.clap.specs.Words.{new_app}
use Rattle.flounder_args.specs.Words.{flag}
use Rattle.flounder_args.proofs.Asking.{with_argument}
use Rattle.flounder_args.proofs.words.exec_with_explain.Goals as goal

pub returns : goal.returns
returns c = record {
  is = IfOk-weaker c.arg.result _ _
      (λ r h. with_argument c.described.result r c.flag.result (new_app (codes "exec")) (flag (codes "explain")) c.described.ensures.is
      c.flag.ensures.local c.flag.ensures.rule h)
      c.arg.ensures;
}
