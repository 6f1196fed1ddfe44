use Rattle.std.proofs.Common.{◌≡◌, ◌+◌, ◌-◌, ◌*◌, map}
use Rattle.fl_interface.specs.Interface.{type_of}
use Rattle.fl_image.specs.Reading.{type_at, more_at, many_at}
use Rattle.fl_image.proofs.types.+types.Given as goal

abbrev pub decreases-fixed_type : goal.decreases-fixed_type
decreases-fixed_type l = 4 * l.left

abbrev pub decreases-coded_type : goal.decreases-coded_type
decreases-coded_type l = 4 * l.left + 3

abbrev pub decreases-structure : goal.decreases-structure
decreases-structure l = 4 * l.left + 2

abbrev pub decreases-fields : goal.decreases-fields
decreases-fields l = 4 * l.left + 1

abbrev pub decreases-array : goal.decreases-array
decreases-array l = 4 * l.left + 1

abbrev pub invariant-fields-loop : goal.invariant-fields-loop
invariant-fields-loop l = more_at (λ before. type_at l.left) (l.count - l.counter) (map type_of l.found.items) l.rest ≡ many_at (type_at l.left) l.count l.bytes
