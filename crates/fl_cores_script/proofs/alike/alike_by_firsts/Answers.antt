use Rattle.std.proofs.Common.{map, refl}
use Rattle.std.proofs.lemmas.Result.{IfOk-weaker}
use Rattle.fl_cores_script.proofs.Lines.{each_alike}
use Rattle.fl_cores_script.proofs.alike.alike_by_firsts.Goals as goal

pub returns : goal.returns
returns c = record {
  alike = IfOk-weaker c.all_alike.result _ _ (λ r alike is. each_alike (map (λ l. l.now) c.args.firsts.now) (map (λ l. l.now) c.args.lines.now)
      (map (λ l. l.now) c.args.others.now) (c.if-not-all_among.ensures.among refl) (c.if-not-all_among-2.ensures.among refl) (alike is)) c.all_alike.ensures.alike;
}
