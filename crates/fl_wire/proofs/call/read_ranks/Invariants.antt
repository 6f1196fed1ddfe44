use Rattle.std.proofs.Common.{◌≡◌, ◌≤◌, ◌*◌, map, length}
use Rattle.fl_interface.specs.Interface.{arg_type_of}
use Rattle.fl_value_data.specs.Value.{datum_of}
use Rattle.fl_wire.specs.Shapes.{calls_of}
use Rattle.fl_wire.proofs.Steps.{Come}
use Rattle.fl_wire.proofs.Calls.{FitRead, left_in, left_from, itself}
use Rattle.fl_wire.proofs.call.read_ranks.Given as goal

-- the ranks so far, and those that are left
abbrev pub invariant-loop-rank : goal.invariant-loop-rank
invariant-loop-rank l = record {
  long : length l.values.items ≡ length l.types;
  within : l.at ≤ 56 * length l.frags;
  fit : FitRead l.plan l.rank 0 (map arg_type_of l.types) (map datum_of l.values.items);
  come : Come (calls_of l.plan (map arg_type_of l.types)) (left_from l.plan l.rank (map arg_type_of l.types) (map datum_of l.values.items) l.after_dynamic) l.frags 0 l.at itself;
}

-- the arguments of the rank so far, and those that are left
abbrev pub invariant-loop-j : goal.invariant-loop-j
invariant-loop-j l = record {
  long : length l.values.items ≡ length l.types;
  within : l.at ≤ 56 * length l.frags;
  fit : FitRead l.plan l.rank l.j (map arg_type_of l.types) (map datum_of l.values.items);
  come : Come (calls_of l.plan (map arg_type_of l.types)) (left_in l.plan l.rank l.j (map arg_type_of l.types) (map datum_of l.values.items) l.after_dynamic) l.frags 0 l.at itself;
}
