-- What is made of a value that may be absent.
use Rattle.std.specs.Prelude.{Option, Some, None}

-- `given x otherwise λ y. ..`: with y where x is `Some y`, and else the other
abbrev pub given : {X Y : Type 0} → Option X → Y → (X → Y) → Y
given None otherwise f = otherwise
given (Some x) otherwise f = f x
