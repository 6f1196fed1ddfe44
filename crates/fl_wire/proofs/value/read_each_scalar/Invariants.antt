use Rattle.std.proofs.Common.{◌≤◌, ◌-◌, ◌*◌, map, length}
use Rattle.fl_interface.specs.Interface.{scalar}
use Rattle.fl_value_data.specs.Value.{datum_of}
use Rattle.fl_wire.specs.Shapes.{elements_of}
use Rattle.fl_wire.proofs.Steps.{Come}
use Rattle.fl_wire.proofs.Parts.{put_before}
use Rattle.fl_wire.proofs.value.read_each_scalar.Given as goal

-- the numbers so far, and those that are left
abbrev pub invariant-loop-index : goal.invariant-loop-index
invariant-loop-index l = record {
  within : l.end ≤ 56 * length l.frags;
  later : l.at ≤ l.end;
  come : Come (elements_of l.count (scalar l.kind)) (elements_of (l.count - l._index) (scalar l.kind)) l.frags l.at l.end (put_before (map datum_of l.values.items));
}
