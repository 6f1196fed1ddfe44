use Rattle.std.proofs.Common.{◌≡◌, ◌++◌, replicate}
use Rattle.fl_stub_steps.proofs.give.pad_slowly.Given as goal

abbrev pub invariant-loop-index : goal.invariant-loop-index
invariant-loop-index l = l.out.items ≡ l.fn.out.items ++ replicate l.index 0
