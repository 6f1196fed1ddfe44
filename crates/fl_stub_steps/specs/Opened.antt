-- Working file: the steps of the blocks that are open at a place of code, the innermost last.
use Rattle.std.specs.Prelude.{◌≡◌, List, [], ◌∷◌, ◌++◌}
use Rattle.std.specs.Global.{Vec}
use Rattle.fl_stub.specs.Structure.{Block}
use Rattle.fl_stub_steps.specs.declared.step.StubStep.{StubStep}
use Rattle.fl_stub_steps.specs.Steps.{steps_of, Means}

abbrev pub MeansBlock : Vec StubStep → Block → Type 0
MeansBlock steps b = Means (steps_of steps.items) b

abbrev pub Opened : List (Vec StubStep) → List Block → Type 0
Opened held [] = held ≡ []
Opened held (b ∷ blocks) =
    (outer : List (Vec StubStep)) × (inner : Vec StubStep)
    × (held ≡ outer ++ inner ∷ []) × MeansBlock inner b × Opened outer blocks
