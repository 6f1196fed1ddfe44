use Rattle.std.proofs.Common.{◌≡◌, ◌+◌, ◌<◌, ◌≤◌, ◌*◌, ◌%◌, drop, map, length, false, vec_len}
use Rattle.std.specs.Vec.{vec_capacity}
use Rattle.fl_interface.specs.Interface.{arg_type_of}
use Rattle.fl_value_data.specs.Value.{datum_of}
use Rattle.fl_value_data.specs.Plan.{never_falls}
use Rattle.fl_wire.proofs.Steps.{Come}
use Rattle.fl_wire.proofs.Scalars.{rises, in_order, behind}
use Rattle.fl_wire.proofs.call.read_scalar_arguments.Given as goal

-- the arguments so far, and those that are left
abbrev pub invariant-loop-ty : goal.invariant-loop-ty
invariant-loop-ty l = record {
  within : l.at ≤ 56 * length l.frags;
  up : never_falls l.plan (map arg_type_of l.types) ≡ rises l.plan l.least (drop l.ty-index (map arg_type_of l.types));
  come : Come (in_order (map arg_type_of l.types) false) (in_order (drop l.ty-index (map arg_type_of l.types)) false) l.frags 0 l.at (behind (map datum_of l.values.items));
  place : l.at % 8 ≡ 0 → 56 * l.frag + 8 * l.word ≡ l.at;
  inside : l.word < 7;
  count : vec_len l.values ≡ l.ty-index;
  room : length l.types ≤ vec_capacity l.values;
}
