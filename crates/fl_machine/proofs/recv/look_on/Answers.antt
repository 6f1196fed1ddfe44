use Rattle.std.proofs.Common.{◌≡◌, Bool, inl, None, sym, ◌∙◌, ap, arith, rules}
use Rattle.std.proofs.lemmas.Bool.{ne_eqb}
use Rattle.fl_base.specs.Control.{control_word}
use Rattle.fl_interface.specs.Interface.{interface_of}
use Rattle.fl_wire.specs.Wrong.{follow_fault}
use Rattle.fl_wire.proofs.Frames.{follow_control}
use Rattle.fl_machine.proofs.Feeding.{refused, err_weaker}
use Rattle.fl_machine.proofs.Looking.{kept_under_way, kept_header}
use Rattle.fl_machine.proofs.recv.look_on.Goals as goal

pub returns-in-Some-clause-wrong : goal.returns-in-Some-clause-wrong
returns-in-Some-clause-wrong c parts k =
    let p = c.args.program.now in
    let i = interface_of p.compiled.value.plans.interface in
    let within = p.compiled.value.plans.interface.within in
    refused p.plan i parts c.args.frag.now c.in-Some.fault within p.words (kept_under_way p.plan i parts c.args.begun.now within p.words k)
    (inl (kept_header p.plan i parts c.args.begun.now c.args.frag.now within p.words k ∙ sym c.in-Some.ensures.fault))

pub look-requires-clause-header : goal.look-requires-clause-header
look-requires-clause-header c parts k =
    let p = c.args.program.now in
    let none : follow_fault c.args.begun.now.msg.0 c.args.frag.now ≡ None = search rules in
    kept_header p.plan (interface_of p.compiled.value.plans.interface) parts c.args.begun.now c.args.frag.now p.compiled.value.plans.interface.within p.words k ∙ none

pub look-requires-clause-control : goal.look-requires-clause-control
look-requires-clause-control c =
    let (parts, k) = c.requires.kept in
    let some = k.some in
    let none : follow_fault c.args.begun.now.msg.0 c.args.frag.now ≡ None = search rules in
    follow_control c.args.begun.now.msg.0 c.args.frag.now none ∙ ap (λ (v : Bool). control_word v c.args.begun.now.msg.0 0) (sym (ne_eqb c.args.begun.now.fed 0 (λ e. absurd (omega (arith, e, some)))))

pub returns-clause-wrong : goal.returns-clause-wrong
returns-clause-wrong c =
    let p = c.args.program.now in
    let i = interface_of p.compiled.value.plans.interface in
    let within = p.compiled.value.plans.interface.within in
    err_weaker c.look.result _ _
    (λ fault first parts k. refused p.plan i parts c.args.frag.now fault within p.words (kept_under_way p.plan i parts c.args.begun.now within p.words k) (first parts k))
    c.look.ensures.wrong
