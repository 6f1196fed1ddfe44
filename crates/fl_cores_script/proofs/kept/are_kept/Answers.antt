use Rattle.std.proofs.Common.{map, refl, subst}
use Rattle.std.specs.List.{All}
use Rattle.std.proofs.lemmas.List.{take_all}
use Rattle.std.proofs.lemmas.List.Elements.{All-more}
use Rattle.fl_cores_script.specs.Kept.{IsKept}
use Rattle.fl_cores_script.proofs.kept.are_kept.Goals as goal

pub loop-line-preserved : goal.loop-line-preserved
loop-line-preserved c =
    All-more (λ a. IsKept (map (λ o. o.now) c.args.own.now) a.now) _ _ _ c.loop-line-test.true c.loop-line.invariant (c.if-not-is_kept.ensures.kept refl)

pub returns : goal.returns
returns c = record {
  kept = λ is.
      subst (λ xs. All (λ a. IsKept (map (λ o. o.now) c.args.own.now) a.now) xs) (take_all c.loop-line.line-index c.args.lines.now c.loop-line-test.false)
      c.loop-line.invariant;
}
