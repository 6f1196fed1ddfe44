use Rattle.std.proofs.Common.{◌≡◌, ℕ, inl, None, refl, sym, ◌∙◌, ap, true, [], arith, rules}
use Rattle.std.proofs.lemmas.Result.{IfOk-weaker}
use Rattle.fl_base.specs.Control.{control_word}
use Rattle.fl_interface.specs.Interface.{interface_of, TheInterface}
use Rattle.fl_wire.specs.Wrong.{start_fault}
use Rattle.fl_wire.proofs.Frames.{start_control}
use Rattle.fl_machine.proofs.Feeding.{refused, none_begun, err_weaker}
use Rattle.fl_machine.proofs.recv.begin.Goals as goal

pub returns-in-Some-clause-wrong : goal.returns-in-Some-clause-wrong
returns-in-Some-clause-wrong c =
    let p = c.args.program.now in
    refused p.plan (interface_of p.compiled.value.plans.interface) [] c.args.frag.now c.in-Some.fault p.compiled.value.plans.interface.within p.words (inl refl)
    (inl (ap (λ (i : TheInterface). start_fault i c.args.frag.now) (sym c.interface-interface.ensures.interface) ∙ sym c.in-Some.ensures.fault))

pub take-requires-clause-begun : goal.take-requires-clause-begun
take-requires-clause-begun c =
    let p = c.args.program.now in
    let none : start_fault (interface_of p.compiled.value.plans.interface) c.args.frag.now ≡ None = search rules in
    none_begun p.plan (interface_of p.compiled.value.plans.interface) c.args.tape.now _ c.args.frag.now p.compiled.value.plans.interface.within p.words none c.msg-begun.ensures refl c.requires.new.none c.requires.new.stands

pub take-requires-clause-control : goal.take-requires-clause-control
take-requires-clause-control c =
    let p = c.args.program.now in
    let none : start_fault (interface_of p.compiled.value.plans.interface) c.args.frag.now ≡ None = search rules in
    start_control (interface_of p.compiled.value.plans.interface) c.args.frag.now none ∙ ap (λ (m : ℕ). control_word true m 0) (sym c.msg-begun.ensures)

pub returns-clause-wrong : goal.returns-clause-wrong
returns-clause-wrong c =
    let p = c.args.program.now in
    err_weaker c.take.result _ _ (λ fault first. refused p.plan (interface_of p.compiled.value.plans.interface) [] c.args.frag.now fault p.compiled.value.plans.interface.within p.words (inl refl) first) c.take.ensures.wrong

pub returns-clause-few : goal.returns-clause-few
returns-clause-few c = let none = c.requires.new.none in IfOk-weaker c.take.result _ _ (λ fed few. omega (arith, none, few)) c.take.ensures.few
