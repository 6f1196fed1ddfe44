use Rattle.std.proofs.Common.{◌≡◌, ◌≤◌, ◌<◌, ◌*◌, drop, true}
use Rattle.fl_layout.specs.Extents.{start_among, are_within}
use Rattle.fl_layout.proofs.filling.start_among.Given as goal

abbrev pub invariant-loop-each : goal.invariant-loop-each
invariant-loop-each l =
    let rest = drop l.each-index l.placed in
    (start_among l.argument l.end.at l.end.due rest ≡ start_among l.argument 0 1 l.placed)
    × ((are_within rest ≡ true)
    × ((l.end.at ≤ 16777240 * l.each-index)
    × ((0 < l.end.due) × (l.end.due ≤ 8))))
