use Rattle.std.proofs.Common.{◌≡◌, ◌++◌, map, length}
use Rattle.std.specs.List.{flat_map, All}
use Rattle.fl_script_lines.specs.Answers.{line}
use Rattle.fl_cores_script.specs.Replays.{HasNoFeed}
use Rattle.fl_cores_script.proofs.alike.lines_of.Given as goal

abbrev pub invariant-loop-rest : goal.invariant-loop-rest
invariant-loop-rest l =
    (l.text ≡ flat_map line (map (λ a. a.now) l.lines.items) ++ l.rest) × All HasNoFeed (map (λ a. a.now) l.lines.items)

abbrev pub decreases-loop-rest : goal.decreases-loop-rest
decreases-loop-rest l = length l.rest
