use Rattle.std.proofs.Common.{Bool, sym, subst, IfOk, IfErr}
use Rattle.fl_wire.specs.Shapes.{starts_after, ReadAt, StopsAt}
use Rattle.fl_wire.proofs.Calls.{start_none}
use Rattle.fl_wire.proofs.call.read_start.Goals as goal

pub returns-then-after_dynamic-clause-read : goal.returns-then-after_dynamic-clause-read
returns-then-after_dynamic-clause-read c =
    subst (λ (b : Bool). IfOk c.read_padding.result (λ start. ReadAt (starts_after b) c.args.frags.now c.args.at tt start)) (sym c.if-after_dynamic.true) c.read_padding.ensures.read

pub returns-then-after_dynamic-clause-stop : goal.returns-then-after_dynamic-clause-stop
returns-then-after_dynamic-clause-stop c =
    subst (λ (b : Bool). IfErr c.read_padding.result (λ stop. StopsAt stop (starts_after b) c.args.frags.now c.args.at)) (sym c.if-after_dynamic.true) c.read_padding.ensures.stop

pub returns-else-after_dynamic-clause-read : goal.returns-else-after_dynamic-clause-read
returns-else-after_dynamic-clause-read c =
    subst (λ (b : Bool). ReadAt (starts_after b) c.args.frags.now c.args.at tt c.args.at) (sym c.if-after_dynamic.false) (start_none c.args.frags.now c.args.at)
