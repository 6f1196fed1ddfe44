use Rattle.std.proofs.Common.{◌≡◌, ◌≤◌, ◌<◌, ◌*◌, drop, map, true}
use Rattle.std.specs.List.{list_all}
use Rattle.fl_value_data.specs.Value.{datum_of}
use Rattle.fl_layout.specs.Extents.{end_of_all, filled_by, are_within, is_short}
use Rattle.fl_layout.proofs.filling.length_with.Given as goal

abbrev pub invariant-loop-each : goal.invariant-loop-each
invariant-loop-each l =
    let rest = drop l.each-index l.placed in
    let ds = map datum_of l.values in
    (end_of_all l.end.at l.end.due (map (filled_by ds) rest) ≡ end_of_all 0 1 (map (filled_by ds) l.placed))
    × ((are_within rest ≡ true)
    × ((list_all (is_short ds) rest ≡ true)
    × ((l.end.at ≤ 16777240 * l.each-index)
    × ((0 < l.end.due) × (l.end.due ≤ 8)))))
