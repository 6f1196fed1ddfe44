use Rattle.std.proofs.Common.{subst}
use Rattle.fl_core.specs.BoardEvents.{Holds, Acks}
use Rattle.fl_core.specs.View.{TheCore}
use Rattle.fl_core.proofs.one_core.Core.ack.Goals as goal

pub returns : goal.returns
returns g c = record { acks = subst (λ (k : TheCore). Holds k.board c.args.e (λ s. Acks g.T.TakeSide.takes s.kind s.end c.args.from.now c.ack.result c.ack.new.from)) c.self.view_is c.ack.ensures.acks }
