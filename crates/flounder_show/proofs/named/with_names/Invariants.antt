use Rattle.std.specs.Prelude.{take}
use Rattle.flounder_show.specs.Named.{StandsIn}
use Rattle.flounder_show.proofs.named.with_names.Given as goal

abbrev pub invariant-loop-at : goal.invariant-loop-at
invariant-loop-at l = StandsIn (take l.at l.table) l.named.items
