use Rattle.std.proofs.Common.{◌≡◌, ◌≤◌, ◌-◌, length, drop}
use Rattle.fl_stub_steps.specs.Spreading.{repeated}
use Rattle.fl_stub_steps.specs.Steps.{done}
use Rattle.fl_stub_steps.specs.Spreading.{spread_of}
use Rattle.fl_stub_steps.proofs.give.+steps.Given as goal

abbrev pub invariant-give_step-loop-turn : goal.invariant-give_step-loop-turn
invariant-give_step-loop-turn l =
    repeated (done l.steps.items) (l.count - l.turn) (spread_of l.out.items l.left) ≡ repeated (done l.steps.items) l.count (spread_of l.initial.out.items l.initial.left)

abbrev pub invariant-give_step-loop-again : goal.invariant-give_step-loop-again
invariant-give_step-loop-again l =
    repeated (done l.steps.items) (l.again-end - l.again) (spread_of l.out.items l.left) ≡ repeated (done l.steps.items) l.again-end (spread_of l.initial.out.items l.initial.left)

abbrev pub invariant-give_steps-loop-more : goal.invariant-give_steps-loop-more
invariant-give_steps-loop-more l = record {
  inside : l.more ≤ length l.steps;
  now : spread_of l.out.items l.left ≡ done (drop l.more l.steps) (spread_of l.fn.out.items l.tape);
}

abbrev pub decreases-give_steps-loop-more : goal.decreases-give_steps-loop-more
decreases-give_steps-loop-more l = l.more
