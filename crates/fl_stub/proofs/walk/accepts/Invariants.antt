use Rattle.std.proofs.Common.{◌≡◌, drop, Some}
use Rattle.fl_stub.specs.declared.walk.WalkState.TheVariants.{Inside}
use Rattle.fl_stub.specs.Walk.{accepts}
use Rattle.fl_stub.proofs.walk.accepts.Given as goal

abbrev pub invariant-loop-op : goal.invariant-loop-op
invariant-loop-op l = accepts l.column (Some l.standing) (drop l.op-index l.ops) ≡ accepts l.column (Some (Inside 0)) l.ops
