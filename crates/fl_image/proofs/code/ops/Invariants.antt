use Rattle.std.proofs.Common.{◌≡◌, ◌-◌}
use Rattle.fl_image.specs.Reading.{op_at, more_at, many_at}
use Rattle.fl_image.proofs.code.ops.Given as goal

abbrev pub invariant-loop : goal.invariant-loop
invariant-loop l = more_at (λ before. op_at l.column) (l.count - l.counter) l.found.items l.rest ≡ many_at (op_at l.column) l.count l.bytes
