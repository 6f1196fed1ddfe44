use Rattle.std.proofs.Common.{take, subst}
use Rattle.std.specs.Prelude.{Option, IfSome}
use Rattle.fl_interface.specs.Interface.{TheInterface, interface_of}
use Rattle.fl_value_data.specs.declared.value.Call.{Call}
use Rattle.fl_value_data.specs.declared.value.PlanNo.{PlanNo}
use Rattle.fl_value_data.specs.Value.{call_of}
use Rattle.fl_value_data.specs.Taken.{HasTape}
use Rattle.fl_machine.proofs.Feeding.{means_whole}
use Rattle.fl_machine.proofs.recv.whole.Goals as goal

pub returns-clause-means : goal.returns-clause-means
returns-clause-means c =
    let p = c.args.program.now in
    let i = interface_of p.compiled.value.plans.interface in
    let e = c.args.ended in
    let tape = take e.count c.args.tape.now in
    let call = call_of c.in-Some.call in
    let found : HasTape c.plan.result (interface_of c.interface-interface.result.now) e.msg.0 tape call
    = subst (λ (o : Option Call). IfSome o (λ d. HasTape c.plan.result (interface_of c.interface-interface.result.now) e.msg.0 tape (call_of d))) c.in-Some.is c.in_ok-call.ensures.some in
    let under : HasTape p.plan (interface_of c.interface-interface.result.now) e.msg.0 tape call
    = subst (λ (n : PlanNo). HasTape n (interface_of c.interface-interface.result.now) e.msg.0 tape call) c.plan.ensures.plan found in
    let of : HasTape p.plan i e.msg.0 tape call
    = subst (λ (j : TheInterface). HasTape p.plan j e.msg.0 tape call) c.interface-interface.ensures.interface under in
    means_whole p.plan i c.args.tape.now e call p.compiled.value.plans.interface.within p.words c.requires.ended of
