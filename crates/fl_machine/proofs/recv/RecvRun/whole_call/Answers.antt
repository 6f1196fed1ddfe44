use Rattle.std.proofs.Common.{ℕ, List, sym, subst}
use Rattle.std.proofs.lemmas.Result.{IfOk-weaker}
use Rattle.fl_interface.specs.Interface.{interface_of}
use Rattle.fl_value_data.specs.Value.{call_of}
use Rattle.fl_wire.specs.Reading.{Means}
use Rattle.fl_compile.specs.Programs.{program_of}
use Rattle.fl_machine.specs.declared.recv.Phase.{Phase}
use Rattle.fl_machine.specs.Receiving.{TheReceiving, plan_in, interface_in, fed_of, stand_of, MeansWhole}
use Rattle.fl_machine.proofs.recv.RecvRun.whole_call.Goals as goal

pub returns-clause-means : goal.returns-clause-means
returns-clause-means c =
    let p = c.self.inside.program in
    let i = interface_of p.compiled.value.plans.interface in
    let tape = c.self.inside.stored.tape.items in
    let now = c.self.inside.stored.now.value in
    IfOk-weaker c.whole.result _ _
    (λ call h. subst (λ (r : TheReceiving). Means (plan_in r) (interface_in r) r.whole (call_of call) 0) c.self.view_is
    (subst (λ (s : Phase). Means p.plan i (fed_of p.plan i tape (stand_of s now)).whole (call_of call) 0) (sym c.in-Done.is)
    (subst (λ (t : List ℕ). MeansWhole (program_of p) t c.in-Done.ended (call_of call)) c.deref.ensures.value h)))
    c.whole.ensures.means
