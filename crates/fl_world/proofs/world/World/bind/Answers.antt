use Rattle.std.proofs.Common.{refl}
use Rattle.std.proofs.lemmas.Result.{IfOk-weaker}
use Rattle.fl_model.specs.Views.{answer_of, id_of, kind_of}
use Rattle.fl_world_events.proofs.Last.{on_err}
use Rattle.fl_world.proofs.Last.{bind_last}
use Rattle.fl_world.proofs.world.World.bind.Goals as goal

pub returns-in-Err-clause-binds : goal.returns-in-Err-clause-binds
returns-in-Err-clause-binds c = c.in-Err.ensures.request (kind_of c.args.back_end) _ _ (refl, refl)

pub returns-in-Ok-clause-binds : goal.returns-in-Ok-clause-binds
returns-in-Ok-clause-binds c =
    IfOk-weaker c.bind_by.result _ _ (λ a h. c.in-Ok.ensures.request (kind_of c.args.back_end) (answer_of a) _ h) c.bind_by.ensures.binds

pub returns-in-Ok-clause-last : goal.returns-in-Ok-clause-last
returns-in-Ok-clause-last c =
    on_err c.bind_by.result (bind_last (id_of c.args.client) c.args.interface c.args.service.now (kind_of c.args.back_end) c.args.self.now c.in-Ok.want c.in-Ok.ensures.only)
    c.bind_by.ensures.last
