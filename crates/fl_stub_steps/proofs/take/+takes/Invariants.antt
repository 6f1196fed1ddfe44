use Rattle.std.proofs.Common.{◌≡◌, ◌≤◌, ◌-◌, length, drop}
use Rattle.fl_stub_steps.specs.Spreading.{repeated}
use Rattle.fl_stub_steps.specs.Taking.{taken}
use Rattle.fl_stub_steps.specs.Spreading.{spread_of}
use Rattle.fl_stub_steps.proofs.take.+takes.Given as goal

abbrev pub invariant-take_step-loop-turn : goal.invariant-take_step-loop-turn
invariant-take_step-loop-turn l =
    repeated (taken l.steps.items) (l.count - l.turn) (spread_of l.tape.items l.left) ≡ repeated (taken l.steps.items) l.count (spread_of l.initial.tape.items l.initial.left)

abbrev pub invariant-take_step-loop-again : goal.invariant-take_step-loop-again
invariant-take_step-loop-again l =
    repeated (taken l.steps.items) (l.again-end - l.again) (spread_of l.tape.items l.left) ≡ repeated (taken l.steps.items) l.again-end (spread_of l.initial.tape.items l.initial.left)

abbrev pub invariant-take_steps-loop-more : goal.invariant-take_steps-loop-more
invariant-take_steps-loop-more l = record {
  inside : l.more ≤ length l.steps;
  now : spread_of l.tape.items l.left ≡ taken (drop l.more l.steps) (spread_of l.fn.tape.items l.payload);
}

abbrev pub decreases-take_steps-loop-more : goal.decreases-take_steps-loop-more
decreases-take_steps-loop-more l = l.more
