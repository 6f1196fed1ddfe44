use Rattle.std.proofs.Common.{sym, ◌∙◌, arith}
use Rattle.fl_world.proofs.Kept.{on_any}
use Rattle.fl_world.proofs.Last.{queues_last}
use Rattle.fl_world.proofs.world.World.bind_by_queues.Goals as goal

pub returns-clause-last : goal.returns-clause-last
returns-clause-last c = on_any _ c.join_if_new.result (queues_last c.args.want c.args.slots c.args.self.now c.if-want.false c.if-slots-lt1.false
    (omega (arith, c.if-slots-gt-MAX_QUEUE.false)) (sym c.has_both_places.ensures.places ∙ c.if-not-has_both_places.false))
