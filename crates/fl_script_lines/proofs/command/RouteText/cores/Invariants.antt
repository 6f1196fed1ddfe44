use Rattle.std.proofs.Common.{◌≡◌, ◌++◌, ◌∷◌, length, is_some, true}
use Rattle.fl_script_lines.specs.Words.{words_of, numbers_of, numbers_in}
use Rattle.fl_script_lines.proofs.command.RouteText.cores.Given as goal

abbrev pub invariant-loop-core : goal.invariant-loop-core
invariant-loop-core l =
    (is_some (numbers_of (words_of l.rest)) ≡ true)
    × (l.cores.items ++ numbers_in l.rest ≡ l.self.first ∷ numbers_in l.self.others.now)

abbrev pub decreases-loop-core : goal.decreases-loop-core
decreases-loop-core l = length l.rest
