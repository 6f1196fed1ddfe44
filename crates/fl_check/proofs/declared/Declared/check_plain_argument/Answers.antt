use Rattle.std.proofs.Common.{◌∙◌}
use Rattle.fl_check.proofs.FirstFaults.{tells_here, tells_past, none_past, err_of}
use Rattle.fl_check.proofs.declared.Declared.check_plain_argument.Goals as goal

pub returns-in_err-checked-clause-fault : goal.returns-in_err-checked-clause-fault
returns-in_err-checked-clause-fault c =
    let e = c.in_err-checked.field-0.0 in
    err_of c.from_residual.result e _ c.from_residual.ensures.1 (tells_here e _ _ c.in_err-checked.ensures.fault)

pub returns-in_err-add_listed_name-clause-fault : goal.returns-in_err-add_listed_name-clause-fault
returns-in_err-add_listed_name-clause-fault c =
    let e = c.in_err-add_listed_name.field-0.0 in
    err_of c.from_residual-in_err-add_listed_name.result e _ c.from_residual-in_err-add_listed_name.ensures.1 (tells_past e _ _ c.in_ok-checked.ensures.sound c.in_err-add_listed_name.ensures.fault)

pub returns-clause-sound : goal.returns-clause-sound
returns-clause-sound c = none_past _ _ c.in_ok-checked.ensures.sound ∙ c.in_ok-add_listed_name.ensures.sound
