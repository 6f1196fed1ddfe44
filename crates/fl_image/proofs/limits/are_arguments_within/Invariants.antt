use Rattle.std.proofs.Common.{◌≡◌, drop, map}
use Rattle.fl_interface.specs.Interface.{arg_type_of}
use Rattle.fl_interface.specs.Limits.{are_arguments_within}
use Rattle.fl_image.proofs.limits.are_arguments_within.Given as goal

abbrev pub invariant-loop-argument : goal.invariant-loop-argument
invariant-loop-argument l = are_arguments_within (map arg_type_of (drop l.argument-index l.arguments)) ≡ are_arguments_within (map arg_type_of l.arguments)
