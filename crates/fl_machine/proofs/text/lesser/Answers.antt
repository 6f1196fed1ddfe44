use Rattle.std.proofs.Common.{Bool, List, sym, ◌∙◌, subst, w8}
use Rattle.std.proofs.Math.Dec.{ltb}
use Rattle.std.proofs.lemmas.Simd.{tops_compared}
use Rattle.std.specs.Simd.Lanes.{sel_l}
use Rattle.fl_machine.specs.Taking.{AreSet}
use Rattle.fl_machine.proofs.Texts.{first_set, second_set}
use Rattle.fl_machine.proofs.text.lesser.Goals as goal

pub returns-clause-first : goal.returns-clause-first
returns-clause-first c =
    let a = c.args.a in
    let b = c.args.b in
    subst (λ (ms : List Bool). AreSet (sel_l ms a b) → AreSet a) (sym (tops_compared w8 ltb a b)) (first_set a b (c.fits-a.0 ∙ sym c.fits-b.0))

pub returns-clause-second : goal.returns-clause-second
returns-clause-second c =
    let a = c.args.a in
    let b = c.args.b in
    subst (λ (ms : List Bool). AreSet (sel_l ms a b) → AreSet b) (sym (tops_compared w8 ltb a b)) (second_set a b (c.fits-a.0 ∙ sym c.fits-b.0))
