-- Working file: how far arguments have come.
use Rattle.std.specs.Prelude.{ℕ, ◌≤◌}
use Rattle.fl_compile.specs.declared.arguments.ArgOffset.{ArgOffset}
use Rattle.fl_compile.specs.declared.arguments.ArgOffset.TheVariants.{At, AfterDynamic}

-- at most so many bytes after the payload's start, or after the last `Align`
abbrev pub StandsBy : ℕ → ArgOffset → Type 0
StandsBy n (At at) = at ≤ n
StandsBy n AfterDynamic = Unit {0}
