use Rattle.std.proofs.Common.{◌≡◌, take}
use Rattle.fl_stub_steps.specs.Spreading.{Spread}
use Rattle.fl_stub_steps.specs.Steps.{done, all_of}
use Rattle.fl_stub_steps.proofs.give.are_copies.Given as goal

abbrev pub invariant-loop-step : goal.invariant-loop-step
invariant-loop-step l = (x : Spread) → all_of (done (take l.step-index l.steps) x) ≡ all_of x
