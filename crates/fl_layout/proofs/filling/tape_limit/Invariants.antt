use Rattle.std.proofs.Common.{◌≡◌, ◌≤◌, ◌+◌, ◌*◌, drop, map, true}
use Rattle.fl_layout.specs.declared.extent.Fill.TheVariants.{Full}
use Rattle.fl_layout.specs.Extents.{numbers_in_all, filled_up, are_within}
use Rattle.fl_layout.proofs.filling.tape_limit.Given as goal

abbrev pub invariant-loop-each : goal.invariant-loop-each
invariant-loop-each l =
    let rest = drop l.each-index l.placed in
    (l.numbers + numbers_in_all (map (filled_up Full) rest) ≡ numbers_in_all (map (filled_up Full) l.placed))
    × ((are_within rest ≡ true) × (l.numbers ≤ 16777240 * l.each-index))
