use Rattle.std.proofs.Common.{◌≡◌, map, take, length}
use Rattle.fl_base.specs.Numbered.{core_id}
use Rattle.fl_world_events.proofs.by_route.path_over.Given as goal

abbrev pub invariant-loop-place : goal.invariant-loop-place
invariant-loop-place l = record {
  same : take l.place l.ids ≡ map core_id (take l.place l.cores);
  long : length l.ids ≡ 16;
}
