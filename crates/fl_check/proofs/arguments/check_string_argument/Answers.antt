use Rattle.std.proofs.Common.{◌∙◌}
use Rattle.fl_check.proofs.FirstFaults.{tells_here, tells_past, none_past, err_of}
use Rattle.fl_check.proofs.arguments.check_string_argument.Goals as goal

pub returns-in_err-check_string_type-clause-fault : goal.returns-in_err-check_string_type-clause-fault
returns-in_err-check_string_type-clause-fault c =
    let e = c.in_err-check_string_type.field-0.0 in
    err_of c.from_residual.result e _ c.from_residual.ensures.1 (tells_here e _ _ c.in_err-check_string_type.ensures.fault)

pub returns-in_err-add_listed_name-clause-fault : goal.returns-in_err-add_listed_name-clause-fault
returns-in_err-add_listed_name-clause-fault c =
    let e = c.in_err-add_listed_name.field-0.0 in
    err_of c.from_residual-in_err-add_listed_name.result e _ c.from_residual-in_err-add_listed_name.ensures.1 (tells_past e _ _ c.in_ok-check_string_type.ensures.sound (tells_here e _ _ c.in_err-add_listed_name.ensures.fault))

pub returns-in_err-check_bound-clause-fault : goal.returns-in_err-check_bound-clause-fault
returns-in_err-check_bound-clause-fault c =
    let e = c.in_err-check_bound.field-0.0 in
    err_of c.from_residual-in_err-check_bound.result e _ c.from_residual-in_err-check_bound.ensures.1 (tells_past e _ _ c.in_ok-check_string_type.ensures.sound (tells_past e _ _ c.in_ok-add_listed_name.ensures.sound c.in_err-check_bound.ensures.fault))

pub returns-clause-sound : goal.returns-clause-sound
returns-clause-sound c = none_past _ _ c.in_ok-check_string_type.ensures.sound ∙ none_past _ _ c.in_ok-add_listed_name.ensures.sound ∙ c.in_ok-check_bound.ensures.sound
