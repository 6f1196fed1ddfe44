use Rattle.std.proofs.Common.{ℕ, ◌≡◌, true, ap, sym, ◌∙◌}
use Rattle.std.specs.Prelude.{slice_get}
use Rattle.fl_interface.specs.Interface.{TheInterface}
use Rattle.fl_value_data.specs.Value.{call_of}
use Rattle.fl_value_data.specs.Fits.{fits_of}
use Rattle.fl_compile.specs.Programs.{program_of}
use Rattle.fl_compact_calls.specs.Plain.{is_plain_message}
use Rattle.fl_c_operations.proofs.Numbers.{tape_of_number}
use Rattle.fl_c_operations.proofs.unread.only_number.Goals as goal

pub returns : goal.returns
returns c =
    let x = program_of c.args.program.now in
    let call = call_of c.args.call.now in
    let plain : is_plain_message (slice_get x.interface.messages call.msg) ≡ true
    = ap (λ (n : ℕ). is_plain_message (slice_get x.interface.messages n)) (sym c.msg.ensures.msg)
    ∙ (ap (λ (i : TheInterface). is_plain_message (slice_get i.messages c.msg.result.0)) (sym c.interface-interface.ensures.interface) ∙ sym c.if-not-has_plain_number.ensures.same) in
    let fits : fits_of x.interface call ≡ true
    = ap (λ (i : TheInterface). fits_of i call) (sym c.interface-interface.ensures.interface) ∙ sym c.if-not-fits.ensures.same in
    record { tape = tape_of_number x.plan x.interface call c.in-Some.number c.in-Some.ensures.number plain fits }
