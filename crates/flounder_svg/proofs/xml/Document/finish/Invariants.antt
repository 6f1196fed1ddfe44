use Rattle.std.proofs.Common.{◌≡◌, ◌++◌, List, ℕ, length}
use Rattle.flounder_svg.proofs.xml.Document.finish.Given as goal

abbrev pub invariant-elements : goal.invariant-elements
invariant-elements l = (rest : List ℕ) × (l.document.text ≡ l.fn.self.text ++ rest)

abbrev pub decreases-elements : goal.decreases-elements
decreases-elements l = length l.document.tags
