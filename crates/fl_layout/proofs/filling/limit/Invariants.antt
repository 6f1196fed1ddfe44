use Rattle.std.proofs.Common.{◌≡◌, ◌≤◌, ◌<◌, ◌*◌, drop, map, true}
use Rattle.fl_layout.specs.Extents.{end_of_all, filled_up, are_within}
use Rattle.fl_layout.proofs.filling.limit.Given as goal

abbrev pub invariant-loop-each : goal.invariant-loop-each
invariant-loop-each l =
    let rest = drop l.each-index l.placed in
    (end_of_all l.end.at l.end.due (map (filled_up l.fill) rest) ≡ end_of_all 0 1 (map (filled_up l.fill) l.placed))
    × ((are_within rest ≡ true)
    × ((l.end.at ≤ 16777240 * l.each-index)
    × ((0 < l.end.due) × (l.end.due ≤ 8))))
