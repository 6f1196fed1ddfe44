use Rattle.std.proofs.Common.{◌≡◌, Bool, inl, None, sym, ◌∙◌, ap, arith, rules}
use Rattle.std.proofs.lemmas.Bool.{ne_eqb}
use Rattle.fl_base.specs.Control.{control_word}
use Rattle.fl_interface.specs.Interface.{interface_of}
use Rattle.fl_wire.specs.Wrong.{follow_fault}
use Rattle.fl_wire.proofs.Frames.{follow_control}
use Rattle.fl_machine.specs.Receiving.{parts_of}
use Rattle.fl_machine.proofs.Feeding.{refused, under_way, header_is, err_weaker}
use Rattle.fl_machine.proofs.recv.go_on.Goals as goal

pub returns-in-Some-clause-wrong : goal.returns-in-Some-clause-wrong
returns-in-Some-clause-wrong c =
    let p = c.args.program.now in
    let i = interface_of p.compiled.value.plans.interface in
    let (some, begun) = c.requires.begun in
    refused p.plan i (parts_of p.plan i c.args.tape.now c.args.begun.now) c.args.frag.now c.in-Some.fault p.compiled.value.plans.interface.within p.words (under_way p.plan i c.args.tape.now c.args.begun.now p.compiled.value.plans.interface.within p.words some begun)
    (inl (header_is p.plan i c.args.tape.now c.args.begun.now c.args.frag.now p.compiled.value.plans.interface.within p.words some begun ∙ sym c.in-Some.ensures.fault))

pub take-requires-clause-header : goal.take-requires-clause-header
take-requires-clause-header c =
    let p = c.args.program.now in
    let (some, begun) = c.requires.begun in
    let none : follow_fault c.args.begun.now.msg.0 c.args.frag.now ≡ None = search rules in
    header_is p.plan (interface_of p.compiled.value.plans.interface) c.args.tape.now c.args.begun.now c.args.frag.now p.compiled.value.plans.interface.within p.words some begun ∙ none

pub take-requires-clause-control : goal.take-requires-clause-control
take-requires-clause-control c =
    let (some, begun) = c.requires.begun in
    let none : follow_fault c.args.begun.now.msg.0 c.args.frag.now ≡ None = search rules in
    follow_control c.args.begun.now.msg.0 c.args.frag.now none ∙ ap (λ (v : Bool). control_word v c.args.begun.now.msg.0 0) (sym (ne_eqb c.args.begun.now.fed 0 (λ e. absurd (omega (arith, e, some)))))

pub returns-clause-wrong : goal.returns-clause-wrong
returns-clause-wrong c =
    let p = c.args.program.now in
    let i = interface_of p.compiled.value.plans.interface in
    let (some, begun) = c.requires.begun in
    err_weaker c.take.result _ _
    (λ fault first. refused p.plan i (parts_of p.plan i c.args.tape.now c.args.begun.now) c.args.frag.now fault p.compiled.value.plans.interface.within p.words (under_way p.plan i c.args.tape.now c.args.begun.now p.compiled.value.plans.interface.within p.words some begun) first)
    c.take.ensures.wrong
