use Rattle.std.proofs.Common.{◌≡◌, ◌≤◌, ◌<◌, ◌*◌, drop, map, true}
use Rattle.fl_layout.specs.declared.extent.Fill.TheVariants.{Empty}
use Rattle.fl_layout.specs.Extents.{end_of_all, filled_up, are_fixed, are_within}
use Rattle.fl_layout.proofs.filling.fixed_length.Given as goal

abbrev pub invariant-loop-argument : goal.invariant-loop-argument
invariant-loop-argument l =
    let rest = drop l.argument-index l.placed in
    (end_of_all l.end.at l.end.due (map (filled_up Empty) rest) ≡ end_of_all 0 1 (map (filled_up Empty) l.placed))
    × ((are_fixed rest ≡ are_fixed l.placed)
    × ((are_within rest ≡ true)
    × ((l.end.at ≤ 16777240 * l.argument-index)
    × ((0 < l.end.due) × (l.end.due ≤ 8)))))
