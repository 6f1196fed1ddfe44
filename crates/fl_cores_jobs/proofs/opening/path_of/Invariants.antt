use Rattle.std.proofs.Common.{◌≡◌, map, take, length}
use Rattle.fl_base.specs.Numbered.{core_id}
use Rattle.fl_cores_jobs.proofs.opening.path_of.Given as goal

-- the cores so far
abbrev pub invariant-loop-place : goal.invariant-loop-place
invariant-loop-place l = record {
  same : take l.place l.ids ≡ map core_id (take l.place l.cores);
  long : length l.ids ≡ 16;
}
