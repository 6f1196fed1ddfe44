use Rattle.std.proofs.lemmas.Result.{err_from_is_err_and}
use Rattle.fl_interface.specs.Interface.{interface_of}
use Rattle.fl_image.proofs.Begun.{started, named}
use Rattle.fl_image.proofs.reader.fields.Goals as goal

pub returns-in_err-interface-clause-memory : goal.returns-in_err-interface-clause-memory
returns-in_err-interface-clause-memory c =
    let p = err_from_is_err_and c.from_residual-in_err-interface.result c.from_residual-in_err-interface.ensures.1 in
    rw (p.1, p.2) (started c.in_err-interface.field-0.0 c.args.bytes.now c.in_ok-rest.rest.now c.in_ok-plan.plan c.in_ok-plan.rest.now c.in_ok-rest.ensures.reads c.in_ok-plan.ensures.reads
    c.in_err-interface.ensures.memory)

pub returns-in_err-codes-clause-memory : goal.returns-in_err-codes-clause-memory
returns-in_err-codes-clause-memory c =
    let p = err_from_is_err_and c.from_residual-in_err-codes.result c.from_residual-in_err-codes.ensures.1 in
    rw (p.1, p.2) (started c.in_err-codes.field-0.0 c.args.bytes.now c.in_ok-rest.rest.now c.in_ok-plan.plan c.in_ok-plan.rest.now c.in_ok-rest.ensures.reads c.in_ok-plan.ensures.reads
    (named c.in_err-codes.field-0.0 c.in_ok-plan.rest.now (interface_of c.in_ok-interface.interface, c.in_ok-interface.rest.now) c.in_ok-interface.ensures.reads))
