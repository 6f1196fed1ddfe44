use Rattle.std.proofs.Common.{rules}
use Rattle.fl_ring.proofs.one_duo.OneDuo.next_epoch.Goals as goal

pub returns-in-Two : goal.returns-in-Two
returns-in-Two c = search rules
