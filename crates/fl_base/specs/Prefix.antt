-- A list begins with another.
use Rattle.std.specs.Prelude.{◌≡◌, List, ◌++◌}

abbrev pub IsPrefix : {X : Type 0} → List X → List X → Type 0
IsPrefix {X} prefix whole = (rest : List X) × (whole ≡ prefix ++ rest)
