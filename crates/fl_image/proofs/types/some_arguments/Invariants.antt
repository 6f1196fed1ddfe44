use Rattle.std.proofs.Common.{◌≡◌, ◌-◌, map}
use Rattle.fl_interface.specs.Interface.{arg_type_of}
use Rattle.fl_image.specs.Reading.{argument_at, more_at, many_at}
use Rattle.fl_image.proofs.types.some_arguments.Given as goal

abbrev pub invariant-loop : goal.invariant-loop
invariant-loop l = more_at (λ before. argument_at) (l.count - l.counter) (map arg_type_of l.found.items) l.rest ≡ many_at argument_at l.count l.bytes
