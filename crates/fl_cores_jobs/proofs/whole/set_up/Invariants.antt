use Rattle.std.proofs.Common.{◌≡◌, [], length, take}
use Rattle.fl_cores_jobs.specs.State.{joined_of, ArePlaced}
use Rattle.fl_cores_jobs.specs.Kept.{AreKept}
use Rattle.fl_cores_jobs.specs.Whole.{AreTaken, AreBound}
use Rattle.fl_cores_jobs.proofs.whole.set_up.Given as goal

-- the bindings so far
abbrev pub invariant-loop-binding : goal.invariant-loop-binding
invariant-loop-binding l = record {
  joined : ArePlaced l.cores [] (joined_of l.joined);
  bound : AreBound (take l.binding-index l.bindings) [] (joined_of l.joined);
  kept : AreKept l.bindings [] (joined_of l.joined);
  none : l.joined.jobs.items ≡ [];
  count : length l.joined.bindings.items ≡ l.binding-index;
  taken : AreTaken l.cores l.bindings l.binding-index;
}
