use Rattle.std.proofs.Common.{Result, Vec, Global, List, subst, sym, IfOk}
use Rattle.std.specs.List.{AllZip}
use Rattle.fl_cores_fork.specs.declared.core_thread.FinishedCore.{FinishedCore}
use Rattle.fl_cores_fork.specs.declared.core_thread.CoreThread.{CoreThread}
use Rattle.fl_cores_fork.specs.declared.no_report.NoReport.{NoReport}
use Rattle.fl_cores_fork.specs.CoreThreads.{AllReady, CoreThreadRan}
use Rattle.fl_cores_fork.proofs.Each.{ready_rest, ready_last, each_joined}
use Rattle.fl_cores_fork.proofs.fork.+run_in.Goals as goal

pub start-requires-clause-ready : goal.start-requires-clause-ready
start-requires-clause-ready g t c κs within = ready_last c.pop.new.self.items c.in-Some.last (subst AllReady c.in-Some.ensures.items c.requires.ready)

pub run_in-rest-requires-clause-ready : goal.run_in-rest-requires-clause-ready
run_in-rest-requires-clause-ready g t c κs within = ready_rest c.pop.new.self.items c.in-Some.last (subst AllReady c.in-Some.ensures.items c.requires.ready)

pub returns-in-Ok-clause-each : goal.returns-in-Ok-clause-each
returns-in-Ok-clause-each g t c =
    subst (λ (xs : List CoreThread). IfOk c.push_last.result (λ v. AllZip (CoreThreadRan c.args.jobs.now c.args.limit) xs v.items)) (sym c.in-Some.ensures.items)
    (each_joined (λ v. v.items) c.args.jobs.now c.in-Some-start.child.promise.jobs.now c.args.limit c.in-Some-start.child.promise.limit c.pop.new.self.items
    c.in-Ok.rest.items c.in-Some.last c.in-Some-start.child.promise.was.value c.join-last.result c.push_last.result
    c.in-Some-start.ensures.jobs c.in-Some-start.ensures.limit c.in-Some-start.ensures.was
    (subst (λ (rest : Result (Vec FinishedCore Global) NoReport). IfOk rest (λ v. AllZip (CoreThreadRan c.args.jobs.now c.args.limit) c.pop.new.self.items v.items)) c.in-Ok.is c.run_in-rest.ensures.each)
    c.join-last.ensures c.push_last.ensures.pushed)
