use Rattle.std.proofs.Common.{subst}
use Rattle.fl_machine.specs.Receiving.{TheReceiving, stored_of, receiving, Feeds}
use Rattle.fl_machine.proofs.recv.RecvState.feed_inside.Goals as goal

pub returns-clause-feeds : goal.returns-clause-feeds
returns-clause-feeds c =
    subst (λ (s : TheReceiving). Feeds s c.args.frag.now c.feed_on.result (receiving c.args.program.now (stored_of c.feed_on.new.self))) c.make_room.ensures.same c.feed_on.ensures.feeds
