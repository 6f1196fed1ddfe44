use Rattle.std.proofs.Common.{◌≡◌, map, drop}
use Rattle.fl_interface.specs.Interface.{arg_type_of}
use Rattle.fl_value_data.specs.Plan.{rising}
use Rattle.fl_value_tape.proofs.order.is_rising.Given as goal

abbrev pub invariant-loop-argument : goal.invariant-loop-argument
invariant-loop-argument l = rising (λ t. t) l.least (map arg_type_of (drop l.argument-index l.arguments)) ≡ rising (λ t. t) 0 (map arg_type_of l.arguments)
