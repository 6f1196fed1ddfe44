use Rattle.std.proofs.Common.{drop, map}
use Rattle.fl_interface.specs.Interface.{arg_type_of}
use Rattle.fl_interface.specs.Payload.{greatest_payload}
use Rattle.fl_image.specs.Limits.{Reaches}
use Rattle.fl_image.proofs.limits.is_too_long.Given as goal

abbrev pub invariant-loop-argument : goal.invariant-loop-argument
invariant-loop-argument l = Reaches l.extent (map arg_type_of (drop l.argument-index l.arguments)) (greatest_payload (map arg_type_of l.arguments))
