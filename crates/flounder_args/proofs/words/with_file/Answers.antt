use Rattle.std.proofs.Common.{codes}
use Rattle.std.proofs.lemmas.Result.{IfOk-weaker}
use Rattle.clap.specs.Words.{new_app}
use Rattle.flounder_args.specs.Words.{required}
use Rattle.flounder_args.proofs.Asking.{with_argument}
use Rattle.flounder_args.proofs.words.with_file.Goals as goal

pub returns : goal.returns
returns c = record {
  is = IfOk-weaker c.arg.result _ _
      (λ r h. with_argument c.described.result r c.required_argument.result (new_app c.args.name.now) (required (codes "FILE")) c.described.ensures.is
      c.required_argument.ensures.local c.required_argument.ensures.rule h)
      c.arg.ensures;
}
