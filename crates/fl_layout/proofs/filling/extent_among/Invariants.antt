use Rattle.std.proofs.Common.{◌≡◌, drop}
use Rattle.fl_layout.specs.Extents.{extent_among}
use Rattle.fl_layout.proofs.filling.extent_among.Given as goal

abbrev pub invariant-loop-each : goal.invariant-loop-each
invariant-loop-each l = extent_among l.argument (drop l.each-index l.placed) ≡ extent_among l.argument l.placed
