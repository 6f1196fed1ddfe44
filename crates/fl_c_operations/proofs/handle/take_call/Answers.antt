use Rattle.std.proofs.Common.{◌≡◌, Err, refl, subst}
use Rattle.fl_c_operations.specs.declared.handle.Handle.{Handle}
use Rattle.fl_c_operations.specs.declared.handle.Handle.TheVariants.{End}
use Rattle.fl_c_operations.specs.Handles.{Uses}
use Rattle.fl_c_operations.specs.declared.answer.UseFault.TheVariants.{NoSuchOperation}
use Rattle.fl_c_operations.proofs.Uses.{uses_take_call, takes_nothing}
use Rattle.fl_c_operations.proofs.handle.take_call.Goals as goal

pub returns-in-End : goal.returns-in-End
returns-in-End c =
    let held : End c.in-End.end ≡ c.args.handle.now = cc in
    let after = c.take_call.new.self in
    let written = c.take_call.new.room in
    let (r, is, takes) = c.take_call.ensures.takes in
    record {
      uses = subst (λ (s : Handle). Uses s 17 c.args.room.now c.take_call.result (End after) written) held
          (uses_take_call (End c.in-End.end) (End after) c.args.room.now c.take_call.result r written is (after, refl, takes));
    }

pub returns-in_default : goal.returns-in_default
returns-in_default c =
    let s = c.args.handle.now in
    let room = c.args.room.now in
    record { uses = uses_take_call s s room c.of.result (Err NoSuchOperation) room c.of.ensures.numbers (takes_nothing s room c.in_default.not-End) }
