-- Where an argument may stand, by cases: for the crates above, which can't name the cases.
use Rattle.std.proofs.Common.{ℕ}
use Rattle.fl_compile.specs.declared.arguments.ArgOffset.{ArgOffset}
use Rattle.fl_compile.specs.declared.arguments.ArgOffset.TheVariants.{At, AfterDynamic}

abbrev pub Place : Type 0
Place = ArgOffset

-- so many bytes after the payload's start or after the last `Align`, and directly after a string or a sized array
pub by_standing : (P : Place → Type 0) → ((at : ℕ) → P (At at)) → P AfterDynamic → (standing : Place) → P standing
by_standing P at after (At n) = at n
by_standing P at after AfterDynamic = after

abbrev pub place_at : ℕ → Place
place_at n = At n

abbrev pub place_after : Place
place_after = AfterDynamic
