use Rattle.std.proofs.Common.{ap, arith}
use Rattle.fl_ring.proofs.SharedMakes.{splits}
use Rattle.fl_ring.proofs.shared.making.sides_of.Goals as goal

pub split_seat-other-requires : goal.split_seat-other-requires
split_seat-other-requires c = (c.requires.table.0, omega (arith, c.requires.table.2), splits _ _ _ (ap (λ m. m.0.writes) c.requires.seat) (ap (λ m. m.0.reads) c.requires.seat))
