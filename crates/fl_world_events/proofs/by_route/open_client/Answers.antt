use Rattle.std.proofs.Common.{ap, slice_index_or}
use Rattle.std.proofs.lemmas.Result.{IfOk-weaker}
use Rattle.fl_model.specs.Views.{id_of}
use Rattle.fl_core.specs.Making.{asked}
use Rattle.fl_world_events.specs.Routes.{BeginsIn}
use Rattle.fl_world_events.proofs.Routes.{core_below, at_one}
use Rattle.fl_world_events.proofs.by_route.open_client.Goals as goal

pub returns-clause-begins : goal.returns-clause-begins
returns-clause-begins c =
    let first = ap (slice_index_or c.args.cores.now c.args.client.core) c.index-cores-client.is in
    let begins = at_one c.args.cores.now c.args.client.core (core_below c.args.cores.now (id_of c.args.client) c.requires.client) _ first
    (λ o. BeginsIn (asked c.args.client.place c.in_ok-own.own c.args.link c.args.opening.now) o) c.open_in.new.core c.open_in.result c.open_in.ensures.begins in
    IfOk-weaker c.open_in.result _ _ (λ o h. record { own = c.in_ok-own.own; own_is = c.in_ok-own.ensures.equal; begins = h }) begins
