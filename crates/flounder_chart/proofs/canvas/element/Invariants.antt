use Rattle.std.proofs.Common.{◌≡◌}
use Rattle.flounder_chart.proofs.canvas.element.Given as goal

abbrev pub invariant-words : goal.invariant-words
invariant-words l = l.start.tag ≡ l.fn.tag

abbrev pub invariant-numbers : goal.invariant-numbers
invariant-numbers l = l.start.tag ≡ l.fn.tag
