use Rattle.std.proofs.Common.{◌≡◌, Err, refl, subst}
use Rattle.fl_c_operations.specs.declared.handle.Handle.{Handle}
use Rattle.fl_c_operations.specs.declared.handle.Handle.TheVariants.{End}
use Rattle.fl_c_operations.specs.Handles.{Uses}
use Rattle.fl_c_operations.specs.declared.answer.UseFault.TheVariants.{NoSuchOperation}
use Rattle.fl_c_operations.proofs.Uses.{uses_send, sends_nothing}
use Rattle.fl_c_operations.proofs.handle.send.Goals as goal

pub returns-in-End : goal.returns-in-End
returns-in-End c =
    let held : End c.in-End.end ≡ c.args.handle.now = cc in
    let after = c.send.new.self in
    let (r, is, sends) = c.send.ensures.sends in
    record {
      uses = subst (λ (s : Handle). Uses s 16 c.args.numbers.now c.send.result (End after) c.args.numbers.now) held
          (uses_send (End c.in-End.end) (End after) c.args.numbers.now c.send.result r is (after, refl, sends));
    }

pub returns-in_default : goal.returns-in_default
returns-in_default c =
    let s = c.args.handle.now in
    record { uses = uses_send s s c.args.numbers.now c.of.result (Err NoSuchOperation) c.of.ensures.numbers (sends_nothing s c.args.numbers.now c.in_default.not-End) }
