use Rattle.std.proofs.Common.{◌≡◌, ◌∙◌, length, take, sym, ap, subst, arith}
use Rattle.fl_interface.specs.Interface.{interface_of}
use Rattle.fl_machine.specs.declared.recv.Phase.{Phase}
use Rattle.fl_machine.specs.Receiving.{TheReceiving, plan_in, interface_in, fed_of, stand_of, IsStand, IsEnded, IsTapeOf}
use Rattle.fl_machine.proofs.Feeding.{tape_whole}
use Rattle.fl_machine.proofs.recv.RecvRun.whole_tape.Goals as goal

pub whole_tape-requires : goal.whole_tape-requires
whole_tape-requires c =
    let p = c.self.inside.program in
    let i = interface_of p.compiled.value.plans.interface in
    let tape = c.self.inside.stored.tape.items in
    let stands : IsEnded p.plan i tape c.in-Done.ended = subst (λ (s : Phase). IsStand p.plan i tape (stand_of s c.self.inside.stored.now.value)) c.in-Done.is c.self.invariant.stand in
    let long : length c.deref.result.now ≡ length tape = ap length c.deref.ensures.value in
    let few = stands.within in
    record { within = omega (arith, few, long) }

pub returns : goal.returns
returns c =
    let p = c.self.inside.program in
    let i = interface_of p.compiled.value.plans.interface in
    let tape = c.self.inside.stored.tape.items in
    let now = c.self.inside.stored.now.value in
    let stands : IsEnded p.plan i tape c.in-Done.ended = subst (λ (s : Phase). IsStand p.plan i tape (stand_of s now)) c.in-Done.is c.self.invariant.stand in
    let numbers : c.whole_tape.result.now ≡ take c.in-Done.ended.count tape = c.whole_tape.ensures.tape ∙ ap (take c.in-Done.ended.count) c.deref.ensures.value in
    record {
      tape = subst (λ (r : TheReceiving). IsTapeOf (plan_in r) (interface_in r) r.whole c.whole_tape.result.now) c.self.view_is
          (subst (λ (s : Phase). IsTapeOf p.plan i (fed_of p.plan i tape (stand_of s now)).whole c.whole_tape.result.now) (sym c.in-Done.is)
          (tape_whole p.plan i tape c.in-Done.ended c.whole_tape.result.now p.compiled.value.plans.interface.within p.words stands numbers));
    }
