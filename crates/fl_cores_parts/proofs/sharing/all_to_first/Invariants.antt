use Rattle.std.proofs.Common.{◌≡◌, ◌*◌, length}
use Rattle.fl_cores_parts.specs.Dealing.{AreOf}
use Rattle.fl_cores_parts.proofs.sharing.all_to_first.Given as goal

abbrev pub invariant-loop : goal.invariant-loop
invariant-loop l = record {
  count : length l.sides.items ≡ 2 * l.counter;
  of : AreOf 1 l.sides.items;
}
