use Rattle.fl_endpoint.specs.Lent.{IsPlaceOf}
use Rattle.test_core.proofs.endpoint.goes.Given as goal

-- the end's calls stand at the first place
abbrev pub invariant-loop-action : goal.invariant-loop-action
invariant-loop-action l = IsPlaceOf l.end l.calls 0
