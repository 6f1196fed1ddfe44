use Rattle.std.proofs.Common.{◌≡◌, ◌+◌, ◌≤◌, ◌++◌, ℕ, List, length, map, take, vec_len}
use Rattle.std.specs.Vec.{vec_capacity}
use Rattle.fl_interface.specs.Interface.{TheArgType, arg_type_of}
use Rattle.fl_value_data.specs.Value.{datum_of}
use Rattle.fl_value_data.specs.Taken.{InTurn}
use Rattle.fl_value_unpack.specs.Reading.{PackedArgumentAt, OnlyOne}
use Rattle.fl_value_unpack.proofs.argument.read_others.Given as goal

abbrev pub invariant-loop-argument : goal.invariant-loop-argument
invariant-loop-argument l = record {
  inside : l.argument-index ≤ length l.arguments;
  few : length l.values.items ≡ length l.fn.before.items + l.argument-index;
  count : vec_len l.values ≡ vec_len l.fn.before + l.argument-index;
  room : vec_len l.fn.before + length l.arguments ≤ vec_capacity l.values;
  only : (done : List TheArgType) (whole : List ℕ) → OnlyOne (InTurn PackedArgumentAt done whole) (map datum_of l.fn.before.items) l.tape
      → OnlyOne (InTurn PackedArgumentAt (done ++ map arg_type_of (take l.argument-index l.arguments)) whole) (map datum_of l.values.items) l.rest;
}
