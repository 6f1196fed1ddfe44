use Rattle.std.proofs.Common.{subst}
use Rattle.fl_endpoint.specs.Events.{ShowsNext}
use Rattle.fl_core.specs.BoardEvents.{Holds}
use Rattle.fl_core.specs.View.{TheCore}
use Rattle.fl_core.proofs.one_core.Core.show.Goals as goal

pub returns : goal.returns
returns g c = record { shows = subst (λ (k : TheCore). Holds k.board c.args.e (λ s. ShowsNext (g.P.PutSide.epoch_of c.args.out.now) (g.P.PutSide.told_of c.args.out.now) s.end c.show.result)) c.self.view_is c.show.ensures.shows }
