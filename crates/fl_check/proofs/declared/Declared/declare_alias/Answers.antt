use Rattle.std.proofs.Common.{◌∙◌}
use Rattle.fl_check.proofs.FirstFaults.{tells_here, tells_past, none_past, err_of, sound_at_end, fault_at_end}
use Rattle.fl_check.proofs.Looks.{err_after, call_after}
use Rattle.fl_check.proofs.Added.{type_added}
use Rattle.fl_check.specs.Views.{before_of}
use Rattle.fl_check.proofs.declared.Declared.declare_alias.Goals as goal

pub returns-in_err-check_new_type-clause-fault : goal.returns-in_err-check_new_type-clause-fault
returns-in_err-check_new_type-clause-fault c =
    let e = c.in_err-check_new_type.field-0.0 in
    err_of c.from_residual.result e _ c.from_residual.ensures.1 (tells_here e _ _ c.in_err-check_new_type.ensures.fault)

pub returns-in_err-measured-clause-fault : goal.returns-in_err-measured-clause-fault
returns-in_err-measured-clause-fault c =
    let e = c.in_err-measured.field-0.0 in
    err_of c.from_residual-in_err-measured.result e _ c.from_residual-in_err-measured.ensures.1 (tells_past e _ _ c.in_ok-check_new_type.ensures.sound (tells_here e _ _ c.in_err-measured.ensures.fault))

pub returns-clause-sound : goal.returns-clause-sound
returns-clause-sound c =
    let k = c.in_ok-measured.ensures.stands in
    sound_at_end c.add_type.result _ _ (none_past _ _ c.in_ok-check_new_type.ensures.sound ∙ none_past _ _ c.in_ok-measured.ensures.sound) (rw k at c.add_type.ensures.sound)

pub returns-clause-fault : goal.returns-clause-fault
returns-clause-fault c =
    let k = c.in_ok-measured.ensures.stands in
    fault_at_end c.add_type.result _ _ (none_past _ _ c.in_ok-check_new_type.ensures.sound ∙ none_past _ _ c.in_ok-measured.ensures.sound) (rw k at c.add_type.ensures.fault)

pub returns-in_err-check_new_type-clause-memory : goal.returns-in_err-check_new_type-clause-memory
returns-in_err-check_new_type-clause-memory c =
    err_after c.from_residual.result c.in_err-check_new_type.field-0.0 _ c.from_residual.ensures.1 c.in_err-check_new_type.ensures.memory

pub returns-in_err-measured-clause-memory : goal.returns-in_err-measured-clause-memory
returns-in_err-measured-clause-memory c =
    call_after c.from_residual-in_err-measured.result _ c.in_ok-check_new_type.ensures.sound

pub returns-clause-memory : goal.returns-clause-memory
returns-clause-memory c = call_after c.add_type.result _ c.in_ok-check_new_type.ensures.sound

pub returns-clause-after : goal.returns-clause-after
returns-clause-after c =
    type_added c.add_type.result (before_of c.args.self.now) (before_of c.add_type.new.self) _ _ _ c.add_type.ensures.types c.add_type.ensures.messages c.in_ok-measured.ensures.stands
