use Rattle.std.proofs.Common.{◌≡◌, ◌∷◌, [], None, arith, rules}
use Rattle.fl_interface.specs.Interface.{interface_of}
use Rattle.fl_wire.specs.Wrong.{start_fault}
use Rattle.fl_machine.specs.declared.recv.TapedCall.{TapedCall}
use Rattle.fl_machine.proofs.Straights.{straight_ends}
use Rattle.fl_machine.proofs.recv.begin_alone.Goals as goal

pub returns-clause-stands : goal.returns-clause-stands
returns-clause-stands c =
    let p = c.args.program.now in
    let i = interface_of p.compiled.value.plans.interface in
    let e : TapedCall = record { msg = c.msg-msg.result; count = 1 } in
    let none : start_fault i c.args.frag.now ≡ None = search rules in
    (straight_ends p.plan i c.args.frag.now c.in-Some-receive_code.code.now c.ops.result.now (c.in-Some-take_alone.number ∷ []) e p.compiled.value.plans.interface.within p.words c.is_line.ensures.line none c.msg-msg.ensures
    c.in-Some-receive_code.ensures.exact c.ops.ensures.ops (omega arith) c.in-Some-take_alone.ensures.whole).0

pub returns-clause-adds : goal.returns-clause-adds
returns-clause-adds c =
    let p = c.args.program.now in
    let i = interface_of p.compiled.value.plans.interface in
    let e : TapedCall = record { msg = c.msg-msg.result; count = 1 } in
    let none : start_fault i c.args.frag.now ≡ None = search rules in
    (straight_ends p.plan i c.args.frag.now c.in-Some-receive_code.code.now c.ops.result.now (c.in-Some-take_alone.number ∷ []) e p.compiled.value.plans.interface.within p.words c.is_line.ensures.line none c.msg-msg.ensures
    c.in-Some-receive_code.ensures.exact c.ops.ensures.ops (omega arith) c.in-Some-take_alone.ensures.whole).1
