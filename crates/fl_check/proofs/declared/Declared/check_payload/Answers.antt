use Rattle.fl_check.proofs.FirstFaults.{tells_prefix, err_of}
use Rattle.fl_check.proofs.declared.Declared.check_payload.Goals as goal

pub returns-in_err-payload-clause-fault : goal.returns-in_err-payload-clause-fault
returns-in_err-payload-clause-fault c =
    let e = c.in_err-payload.field-0.0 in
    err_of c.from_residual.result e _ c.from_residual.ensures.1 (tells_prefix e _ _ c.in_err-payload.ensures.fault)
