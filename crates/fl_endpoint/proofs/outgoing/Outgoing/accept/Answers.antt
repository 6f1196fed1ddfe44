use Rattle.fl_compile.specs.Programs.{program_of}
use Rattle.fl_endpoint.specs.Stored.{outgoing_of}
use Rattle.fl_endpoint.proofs.Insides.{accepted_none}
use Rattle.fl_endpoint.proofs.outgoing.Outgoing.accept.Goals as goal

pub returns-in-None-clause-accepted : goal.returns-in-None-clause-accepted
returns-in-None-clause-accepted c =
    let p = program_of c.args.program.now in
    let k = c.args.circuit.0 in
    accepted_none p k (outgoing_of p k c.args.self.now) c.args.reply c.in-None.is
