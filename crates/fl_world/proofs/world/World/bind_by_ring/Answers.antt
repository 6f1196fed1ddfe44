use Rattle.std.proofs.Common.{ap, refl}
use Rattle.std.proofs.lemmas.Result.{IfOk-weaker}
use Rattle.fl_ring.specs.Duo.{TheDuo}
use Rattle.fl_world.proofs.RingEnds.{at_two_cores}
use Rattle.fl_world_events.proofs.Last.{on_err}
use Rattle.fl_world.proofs.Last.{sized_by, ring_last}
use Rattle.fl_world.proofs.world.World.bind_by_ring.Goals as goal

pub returns-in-Ok-clause-binds : goal.returns-in-Ok-clause-binds
returns-in-Ok-clause-binds c =
    at_two_cores c.args.want c.args.slots c.in-Ok.ring.size c.args.self.now c.join_if_places.new.self c.if-want.false c.in-Ok.ensures.sized
    (ap (λ (d : TheDuo). d.size) c.in-Ok.ensures.made) c.join_if_places.result c.join_if_places.ensures.joins

pub returns-in-Ok-clause-last : goal.returns-in-Ok-clause-last
returns-in-Ok-clause-last c = on_err c.join_if_places.result
    (λ places. ring_last c.args.want c.args.slots c.args.self.now c.if-want.false places c.in-Ok.ensures.sized) c.join_if_places.ensures.last

pub returns-in-Err-Memory-clause-binds : goal.returns-in-Err-Memory-clause-binds
returns-in-Err-Memory-clause-binds c =
    at_two_cores c.args.want c.args.slots c.args.slots c.args.self.now _ c.if-want.false
    (sized_by c.new.result c.args.slots c.in-Err-Memory.field-0 c.in-Err-Memory.is c.in-Err-Memory.field-0-is c.new.ensures.bad_size) refl c.lacks_ring.result
    (IfOk-weaker c.lacks_ring.result _ _ (λ a g p there. g p there c.args.slots) c.lacks_ring.ensures.refused)
