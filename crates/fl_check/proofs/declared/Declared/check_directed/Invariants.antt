use Rattle.std.proofs.Common.{◌≡◌, ◌≤◌, ◌+◌, ◌++◌, map, drop, [], vec_len}
use Rattle.fl_interface.specs.Interface.{arg_type_of}
use Rattle.fl_check.specs.Known.{argument_type, ins, outs}
use Rattle.fl_check.specs.Places.{argument_places, arguments_of}
use Rattle.fl_check.specs.Checks.{first_fault}
use Rattle.fl_check.specs.Views.{before_of, list_of}
use Rattle.fl_parse.specs.Tree.{directed_of}
use Rattle.fl_check.proofs.declared.Declared.check_directed.Given as goal

abbrev pub invariant-loop-directed : goal.invariant-loop-directed
invariant-loop-directed l = record {
  places : first_fault (argument_places (before_of l.self) [] 0 (arguments_of (map directed_of l.args))) ≡ first_fault (argument_places (before_of l.self) (list_of l.names) l.directed-index (arguments_of (map directed_of (drop l.directed-index l.args))));
  ins : map arg_type_of l.halves.ins.args.items ++ map (argument_type (before_of l.self)) (ins (map directed_of (drop l.directed-index l.args))) ≡ map (argument_type (before_of l.self)) (ins (map directed_of l.args));
  outs : map arg_type_of l.halves.outs.args.items ++ map (argument_type (before_of l.self)) (outs (map directed_of (drop l.directed-index l.args))) ≡ map (argument_type (before_of l.self)) (outs (map directed_of l.args));
  same : vec_len l.halves.ins.args + vec_len l.halves.outs.args ≡ l.directed-index;
  few : l.directed-index ≤ 32;
}
