use Rattle.std.proofs.lemmas.Result.{IfOk-weaker}
use Rattle.fl_world.proofs.Requested.{copied_end}
use Rattle.fl_world.proofs.world.World.new_ends.Goals as goal

pub returns-clause-client : goal.returns-clause-client
returns-clause-client c =
    IfOk-weaker c.new_ends.result _ _ (λ ends made. copied_end c.args.self.now _ c.self.view_is c.args.interface c.requires c.index.result.now
    c.index.ensures ends.client made) c.new_ends.ensures.client

pub returns-clause-server : goal.returns-clause-server
returns-clause-server c =
    IfOk-weaker c.new_ends.result _ _ (λ ends made. copied_end c.args.self.now _ c.self.view_is c.args.interface c.requires c.index.result.now
    c.index.ensures ends.server made) c.new_ends.ensures.server
