use Rattle.std.proofs.Common.{◌≡◌, refl, subst, Option, Some}
use Rattle.fl_c_operations.specs.declared.operation.Operation.{Operation}
use Rattle.fl_c_operations.specs.declared.handle.Handle.{Handle}
use Rattle.fl_c_operations.specs.declared.handle.Handle.TheVariants.{End, Sender, Receiver}
use Rattle.fl_c_operations.specs.Numbers.{operation_at}
use Rattle.fl_c_operations.specs.Handles.{UsesKind}
use Rattle.fl_c_operations.proofs.handle.attempt.Goals as goal

pub returns-in-End-clause-uses : goal.returns-in-End-clause-uses
returns-in-End-clause-uses c =
    let asked : Some c.in-Some.operation ≡ operation_at c.args.what = cc in
    let held : End c.in-End.end ≡ c.args.handle.now = cc in
    let by = λ (o : Option Operation) (s : Handle). UsesKind o s c.args.numbers.now c.use_end.result (End c.use_end.new.end) c.use_end.new.numbers in
    λ _. subst (λ (o : Option Operation). by o c.args.handle.now) asked
    (subst (λ (s : Handle). by (Some c.in-Some.operation) s) held (c.use_end.new.end, refl, c.use_end.ensures.uses))

pub returns-in-Sender-clause-uses : goal.returns-in-Sender-clause-uses
returns-in-Sender-clause-uses c =
    let asked : Some c.in-Some.operation ≡ operation_at c.args.what = cc in
    let held : Sender c.in-Sender.run' ≡ c.args.handle.now = cc in
    let by = λ (o : Option Operation) (s : Handle). UsesKind o s c.args.numbers.now c.use_sender.result (Sender c.use_sender.new.run) c.use_sender.new.numbers in
    λ _. subst (λ (o : Option Operation). by o c.args.handle.now) asked
    (subst (λ (s : Handle). by (Some c.in-Some.operation) s) held (c.use_sender.new.run, refl, c.use_sender.ensures.uses))

pub returns-in-Receiver-clause-uses : goal.returns-in-Receiver-clause-uses
returns-in-Receiver-clause-uses c =
    let asked : Some c.in-Some.operation ≡ operation_at c.args.what = cc in
    let held : Receiver c.in-Receiver.run' ≡ c.args.handle.now = cc in
    let by = λ (o : Option Operation) (s : Handle). UsesKind o s c.args.numbers.now c.use_receiver.result (Receiver c.use_receiver.new.run) c.use_receiver.new.numbers in
    λ _. subst (λ (o : Option Operation). by o c.args.handle.now) asked
    (subst (λ (s : Handle). by (Some c.in-Some.operation) s) held (c.use_receiver.new.run, refl, c.use_receiver.ensures.uses))
