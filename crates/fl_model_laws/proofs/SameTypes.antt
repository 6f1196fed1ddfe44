-- Messages with the same argument types take the same arguments.
use Rattle.std.proofs.Common.{◌≡◌, subst, ℕ, true, List, Option, Some, None, is_some, slice_get}
use Rattle.fl_interface.specs.Interface.{TheArgType, TheMessage}
use Rattle.fl_value_data.specs.Value.{Datum, TheCall}
use Rattle.fl_value_data.specs.Tape.{types_of}
use Rattle.fl_value_data.specs.Fits.{are_arguments, fit_message, fits_of}
use Rattle.fl_model.specs.Calls.{Planned}
use Rattle.fl_interface.proofs.SameTypes.{same_arguments_are}
use Rattle.fl_model.specs.SoundCalls.{RuleSuits}

fit_by : (o p : Option TheMessage) (args : List Datum) → is_some p ≡ true → types_of o ≡ types_of p → fit_message o args ≡ true
    → fit_message p args ≡ true
fit_by None p args a q h = absurd (cc)
fit_by (Some m) None args a q h = absurd (cc)
fit_by (Some m) (Some n) args a q h = subst (λ (ts : List TheArgType). are_arguments ts args ≡ true) q h

-- the reply by a rule that suits fits where the call does
pub reply_fits : (i : Planned) (c : TheCall) (answer : ℕ) → RuleSuits i c.msg answer → fits_of i.interface c ≡ true
    → fits_of i.interface (record { msg = answer; args = c.args }) ≡ true
reply_fits i c answer suits h =
    fit_by (slice_get i.interface.messages c.msg) (slice_get i.interface.messages answer) c.args suits.reply
    (same_arguments_are _ _ suits.same) h
