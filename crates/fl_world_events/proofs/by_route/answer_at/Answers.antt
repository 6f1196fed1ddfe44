use Rattle.fl_core.specs.Making.{MayOpen}
use Rattle.fl_model.specs.Views.{answer_of, id_of}
use Rattle.fl_world_events.specs.Routes.{IsAnsweredIn}
use Rattle.fl_world_events.proofs.Last.{if_some, if_none, is_at}
use Rattle.fl_world_events.proofs.Routes.{core_below}
use Rattle.fl_world_events.proofs.by_route.answer_at.Goals as goal

pub returns-clause-answer : goal.returns-clause-answer
returns-clause-answer c = if_some c.answer_in.result (λ a h.
    is_at c.args.cores.now c.args.client.core (core_below c.args.cores.now (id_of c.args.client) c.requires) _ c.index-cores-client.is
    (IsAnsweredIn c.args.client.place c.args.link c.args.opening.now (answer_of a)) h) c.answer_in.ensures.answer

pub returns-clause-may : goal.returns-clause-may
returns-clause-may c = if_none c.answer_in.result
    (is_at c.args.cores.now c.args.client.core (core_below c.args.cores.now (id_of c.args.client) c.requires) _ c.index-cores-client.is
    (MayOpen c.args.client.place c.args.link c.args.opening.now)) c.answer_in.ensures.may
