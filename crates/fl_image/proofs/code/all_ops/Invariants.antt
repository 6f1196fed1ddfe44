use Rattle.std.proofs.Common.{◌≡◌, ◌-◌, map}
use Rattle.fl_image.specs.Reading.{codes_at, more_at, many_at}
use Rattle.fl_image.specs.Views.{codes_view}
use Rattle.fl_image.proofs.code.all_ops.Given as goal

abbrev pub invariant-loop : goal.invariant-loop
invariant-loop l = more_at (λ before. codes_at) (l.count - l.counter) (map codes_view l.found.items) l.rest ≡ many_at codes_at l.count l.bytes
