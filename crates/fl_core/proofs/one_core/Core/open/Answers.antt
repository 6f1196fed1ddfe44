use Rattle.fl_core.proofs.Begun.{refused_open, begun_last}
use Rattle.fl_core.proofs.one_core.Core.open.Goals as goal

pub returns-in-Err : goal.returns-in-Err
returns-in-Err c =
    let it = refused_open c.args.dispatcher c.args.program c.args.link c.args.opening.now c.args.self.now c.in-Err.fault c.in-Err.ensures.refused in
    record { asks = it.0; last = it.1 }

pub returns-in-Ok-clause-last : goal.returns-in-Ok-clause-last
returns-in-Ok-clause-last c = begun_last c.args.dispatcher c.args.link c.args.opening.now c.args.self.now c.open_there.result c.in-Ok.ensures.may
