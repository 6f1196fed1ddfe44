use Rattle.std.proofs.Common.{◌≡◌, map, take, length}
use Rattle.fl_base.specs.Numbered.{core_id}
use Rattle.fl_monitor.proofs.tape.route.Given as goal

abbrev pub invariant-loop-place : goal.invariant-loop-place
invariant-loop-place l = record {
  same : take l.place l.cores ≡ map core_id (take l.place l.numbers);
  long : length l.cores ≡ 16;
}
