use Rattle.std.proofs.Common.{refl, subst}
use Rattle.fl_core.specs.declared.answer.LinkFront.{LinkFront}
use Rattle.fl_world.specs.Following.{MayFollow}
use Rattle.fl_world.proofs.world.World.follow.Goals as goal

pub returns-in-Nothing : goal.returns-in-Nothing
returns-in-Nothing c = record { forwards = rw c.in-Nothing.is (refl, refl); forgot = tt; last = tt }

pub returns-in-Acknowledged : goal.returns-in-Acknowledged
returns-in-Acknowledged c = record { forwards = rw c.in-Acknowledged.is (refl, refl); forgot = tt; last = tt }

pub hear_first-requires : goal.hear_first-requires
hear_first-requires c =
    let seen = subst (λ (x : LinkFront). MayFollow x c.args.at.side c.args.known c.args.self.now.rings) c.in-Message.is c.requires.seen in
    record { link = c.requires.link; ring = c.requires.ring; seen = seen.0; known = seen.1 }

pub returns-in-Message-clause-forwards : goal.returns-in-Message-clause-forwards
returns-in-Message-clause-forwards c = rw c.in-Message.is c.hear_first.ensures.hears

pub returns-in-Message-clause-forgot : goal.returns-in-Message-clause-forgot
returns-in-Message-clause-forgot c = rw c.in-Message.is c.hear_first.ensures.forgot

pub returns-in-Message-clause-last : goal.returns-in-Message-clause-last
returns-in-Message-clause-last c = rw c.in-Message.is c.hear_first.ensures.last

pub move_on-requires : goal.move_on-requires
move_on-requires c =
    let seen = subst (λ (x : LinkFront). MayFollow x c.args.at.side c.args.known c.args.self.now.rings) c.in-Onward.is c.requires.seen in
    record { seen = seen.0; call = seen.1 }

pub returns-in-Onward : goal.returns-in-Onward
returns-in-Onward c = record { forwards = rw c.in-Onward.is c.move_on.ensures.goes; forgot = tt; last = tt }

pub arrive-requires : goal.arrive-requires
arrive-requires c =
    let seen = subst (λ (x : LinkFront). MayFollow x c.args.at.side c.args.known c.args.self.now.rings) c.in-Arrival.is c.requires.seen in
    record { link = c.requires.link; ring = c.requires.ring; seen = seen.0; call = seen.1 }

pub returns-in-Arrival : goal.returns-in-Arrival
returns-in-Arrival c = record { forwards = rw c.in-Arrival.is c.arrive.ensures.arrives; forgot = tt; last = tt }
