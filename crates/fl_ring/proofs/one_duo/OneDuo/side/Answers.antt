use Rattle.std.proofs.Common.{refl}
use Rattle.fl_ring.proofs.one_duo.OneDuo.side.Goals as goal

pub returns-clause-side : goal.returns-clause-side
returns-clause-side c = refl
