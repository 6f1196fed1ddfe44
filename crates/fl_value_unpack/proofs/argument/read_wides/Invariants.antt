use Rattle.std.proofs.Common.{◌≡◌, ◌≤◌, ◌-◌, length, map, take, drop, vec_len}
use Rattle.std.specs.Vec.{vec_capacity}
use Rattle.fl_interface.specs.Interface.{arg_type_of}
use Rattle.fl_value_data.specs.Value.{datum_of}
use Rattle.fl_value_data.specs.Plan.{rising}
use Rattle.fl_value_data.specs.Taken.{InTurn}
use Rattle.fl_value_unpack.specs.Reading.{PackedArgumentAt, OnlyOne}
use Rattle.fl_value_unpack.proofs.argument.read_wides.Given as goal

abbrev pub invariant-loop-argument : goal.invariant-loop-argument
invariant-loop-argument l = record {
  few : length l.values.items ≡ vec_len l.values;
  inside : vec_len l.values ≤ length l.arguments;
  room : length l.arguments ≤ vec_capacity l.values;
  others : rising (λ t. t) 0 (map arg_type_of (drop (vec_len l.values) l.arguments)) ≡ rising (λ t. t) 0 (map arg_type_of l.arguments);
  only : OnlyOne (InTurn PackedArgumentAt (map arg_type_of (take (vec_len l.values) l.arguments)) l.tape) (map datum_of l.values.items) l.rest;
}

abbrev pub decreases-loop-argument : goal.decreases-loop-argument
decreases-loop-argument l = length l.arguments - vec_len l.values
