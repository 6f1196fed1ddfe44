-- What a run of send code has to give once it was started with a call's tape.
use Rattle.std.proofs.Common.{◌≡◌, ℕ, true, List, Option, Some, None, refl, subst, ◌∙◌}
use Rattle.std.specs.Prelude.{slice_get}
use Rattle.std.proofs.lemmas.Bool.{false≢true}
use Rattle.fl_interface.specs.Interface.{TheMessage, TheInterface}
use Rattle.fl_interface.specs.Limits.{is_within_limits}
use Rattle.fl_interface.specs.Counts.{interface_words_fit}
use Rattle.fl_value_data.specs.declared.value.PlanNo.{PlanNo}
use Rattle.fl_value_data.specs.Value.{Datum, TheCall}
use Rattle.fl_value_data.specs.Fits.{fits_of, fit_message}
use Rattle.fl_value_data.specs.Tape.{tape_of}
use Rattle.fl_wire.specs.Payload.{frags_of}
use Rattle.fl_stub.specs.declared.op.Column.TheVariants.{Send}
use Rattle.fl_stub.specs.Code.{TheCode}
use Rattle.fl_stub.specs.Frames.{block_of}
use Rattle.fl_stub.specs.Given.{bytes_given}
use Rattle.fl_compile.specs.Codes.{compiled_code}
use Rattle.fl_compile.specs.Laws.{HasMessage}
use Rattle.fl_compile.specs.Programs.{TheProgram, code_in}
use Rattle.fl_machine.specs.Sending.{TheSending, frags_holding, frags_left}
use Rattle.fl_machine.specs.Laws.{SendsFragments}
use Rattle.fl_c_operations.specs.Runs.{left_at}

-- a message of a call that fits
message_in : (o : Option TheMessage) (ds : List Datum) → fit_message o ds ≡ true → (m : TheMessage) × (o ≡ Some m)
message_in None ds h = absurd (false≢true h)
message_in (Some m) ds h = (m, refl)

pub message_of_call : (i : TheInterface) (c : TheCall) → fits_of i c ≡ true → (m : TheMessage) × (slice_get i.messages c.msg ≡ Some m)
message_of_call i c fits = message_in (slice_get i.messages c.msg) c.args fits

-- the code is that of the message
pub code_is : (x : TheProgram) (n : ℕ) (m : TheMessage) (code : TheCode) → slice_get x.interface.messages n ≡ Some m → Some code ≡ code_in Send x n → code ≡ compiled_code Send x.plan m
code_is x n m code there some = cc

-- the fragments left are the call's
starts : SendsFragments → (x : TheProgram) (c : TheCall) (code : TheCode) (run : TheSending) (tape : List ℕ)
    → is_within_limits x.interface ≡ true → interface_words_fit x.interface ≡ true → fits_of x.interface c ≡ true → Some code ≡ code_in Send x c.msg
    → tape ≡ tape_of x.plan x.interface c → frags_left code run ≡ frags_holding true c.msg 0 (bytes_given (block_of code.ops) tape)
    → frags_left code run ≡ frags_of x.plan x.interface c
starts sends x c code run tape within words fits some of given =
    let m = message_of_call x.interface c fits in
    let has : HasMessage x.interface c.msg m.0 = record { within = within; words = words; message = m.1 } in
    let as_tape = subst (λ (t : List ℕ). frags_left code run ≡ frags_holding true c.msg 0 (bytes_given (block_of code.ops) t)) of given in
    as_tape ∙ sends 0 x.plan x.interface m.0 c code has fits (code_is x c.msg m.0 code m.1 some)

-- where the code is found in the program, whose interface and plan are looked at
pub starts_at : SendsFragments → (x : TheProgram) (i : TheInterface) (plan : PlanNo) (c : TheCall) (code : TheCode) (run : TheSending) (tape : List ℕ)
    → i ≡ x.interface → plan ≡ x.plan → is_within_limits i ≡ true → interface_words_fit i ≡ true → fits_of x.interface c ≡ true
    → Some code ≡ code_in Send x c.msg → tape ≡ tape_of plan i c → frags_left code run ≡ frags_holding true c.msg 0 (bytes_given (block_of code.ops) tape)
    → left_at (code_in Send x c.msg) run ≡ frags_of x.plan x.interface c
starts_at sends x i plan c code run tape ei ep within words fits some of given =
    let of_x = subst (λ (z : TheInterface). tape ≡ tape_of x.plan z c) ei (subst (λ (z : PlanNo). tape ≡ tape_of z i c) ep of) in
    subst (λ (o : Option TheCode). left_at o run ≡ frags_of x.plan x.interface c) some
    (starts sends x c code run tape (subst (λ (z : TheInterface). is_within_limits z ≡ true) ei within) (subst (λ (z : TheInterface). interface_words_fit z ≡ true) ei words)
    fits some of_x given)
