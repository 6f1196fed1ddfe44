use Rattle.std.proofs.Common.{◌≡◌, ◌≤◌, map, take, drop, [], vec_len}
use Rattle.fl_interface.specs.Interface.{arg_type_of}
use Rattle.fl_check.specs.Known.{argument_type}
use Rattle.fl_check.specs.Places.{argument_places}
use Rattle.fl_check.specs.Checks.{first_fault}
use Rattle.fl_check.specs.Views.{before_of, list_of}
use Rattle.fl_parse.specs.Tree.{argument_of}
use Rattle.fl_check.proofs.declared.Declared.check_arguments.Given as goal

abbrev pub invariant-loop-argument : goal.invariant-loop-argument
invariant-loop-argument l = record {
  places : first_fault (argument_places (before_of l.self) [] 0 (map argument_of l.args)) ≡ first_fault (argument_places (before_of l.self) (list_of l.names) l.argument-index (map argument_of (drop l.argument-index l.args)));
  types : map arg_type_of l.payload.args.items ≡ map (argument_type (before_of l.self)) (map argument_of (take l.argument-index l.args));
  same : vec_len l.payload.args ≡ l.argument-index;
  few : l.argument-index ≤ 32;
}
