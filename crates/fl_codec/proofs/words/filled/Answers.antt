use Rattle.fl_codec.proofs.Puts.{filled_unlike}
use Rattle.fl_codec.proofs.words.filled.Goals as goal
use Rattle.std.proofs.Common.{sym}

pub returns-then-numbers-places : goal.returns-then-numbers-places
returns-then-numbers-places c = record { exact = sym (filled_unlike _ _ _ c.if-numbers-places.true) }
