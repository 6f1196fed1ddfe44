use Rattle.std.proofs.Common.{◌≡◌, Bool, None, ◌∙◌, sym, ap, arith, rules}
use Rattle.std.proofs.lemmas.Bool.{ne_eqb}
use Rattle.fl_base.specs.Control.{control_word}
use Rattle.fl_wire.specs.Wrong.{follow_fault}
use Rattle.fl_wire.proofs.Frames.{follow_control}
use Rattle.fl_machine.proofs.recv.pass_text.Goals as goal

pub pass-requires-clause-control : goal.pass-requires-clause-control
pass-requires-clause-control c =
    let (parts, k) = c.requires.kept in
    let some = k.some in
    let none : follow_fault c.args.begun.now.msg.0 c.args.frag.now ≡ None = search rules in
    follow_control c.args.begun.now.msg.0 c.args.frag.now none ∙ ap (λ (v : Bool). control_word v c.args.begun.now.msg.0 0) (sym (ne_eqb c.args.begun.now.fed 0 (λ e. absurd (omega (arith, e, some)))))
