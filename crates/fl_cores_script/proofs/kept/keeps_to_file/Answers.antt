use Rattle.std.proofs.Common.{◌≡◌, ◌⊎◌, [], ◌∷◌, ◌++◌, map, sym, subst}
use Rattle.std.proofs.lemmas.Result.{IfOk-weaker}
use Rattle.fl_cores_script.specs.Replays.{AreLines}
use Rattle.fl_cores_script.proofs.Sorting.{keeps}
use Rattle.fl_cores_script.proofs.kept.keeps_to_file.Goals as goal

pub returns : goal.returns
returns c =
    let script = c.args.script.now in
    let file = c.args.file.now in
    let lines = rw c.in-Some.is at c.in_ok-lines.ensures.lines in
    let own = rw c.in-Some-2.is at c.in_ok-own.ensures.lines in
    record {
      keeps = IfOk-weaker c.keeps_to.result _ _ (λ r each is. keeps (λ l. l.now) script file c.deref.result.now c.deref-2.result.now
          (map (λ o. o.now) c.in-Some-2.own.items) (subst (λ xs. AreLines script (map (λ l. l.now) xs)) (sym c.deref-2.ensures.value) lines) own
          (subst (λ t. (t ≡ file) ⊎ (t ≡ file ++ 10 ∷ [])) (sym c.deref.ensures.value) c.in_ok-text.ensures.fed) (each is)) c.keeps_to.ensures.keeps;
    }
