-- A call that is whole, of a message whose tape is its argument's number.
use Rattle.std.proofs.Common.{◌≡◌, ℕ, zero, suc, true, List, [], ◌∷◌, take, slice_get, Some, sym, ◌∙◌, ap, subst}
use Rattle.std.proofs.lemmas.Option.{none-some, same_Some}
use Rattle.fl_interface.specs.Interface.{TheInterface}
use Rattle.fl_interface.specs.Limits.{is_within_limits}
use Rattle.fl_interface.specs.Counts.{interface_words_fit}
use Rattle.fl_value_data.specs.declared.value.PlanNo.{PlanNo}
use Rattle.fl_value_data.specs.Value.{Datum, TheCall}
use Rattle.fl_value_data.specs.Fits.{fits_of}
use Rattle.fl_wire.specs.Reading.{Means}
use Rattle.fl_compact_calls.specs.Held.{one_number}
use Rattle.fl_compact_calls.specs.Plain.{is_plain_message}
use Rattle.fl_compact_calls.proofs.Plain.{OfNumber, of_number}
use Rattle.fl_machine.specs.declared.recv.TapedCall.{TapedCall}
use Rattle.fl_machine.specs.Receiving.{IsEnded, whole_of}
use Rattle.fl_machine.proofs.Feeding.{means_whole}

first_of : (tape : List ℕ) (k n m : ℕ) → take k tape ≡ n ∷ [] → slice_get tape 0 ≡ Some m → n ≡ m
first_of [] k n m e f = absurd (none-some m f)
first_of (x ∷ tape) zero n m e f = absurd (cc)
first_of (x ∷ tape) (suc k) n m e f =
    let same : x ≡ m = same_Some x m f in
    let first : x ≡ n = cc in
    sym first ∙ same

-- the call of this message and the first number of the tape is the call whose tape it is
pub record NumberCalled (plan : PlanNo) (i : TheInterface) (tape : List ℕ) (e : TapedCall) (c : TheCall) : Type 0 where
  pub fits : fits_of i c ≡ true
  pub means : Means plan i (whole_of plan i tape e) c 0

pub number_called : (plan : PlanNo) (i : TheInterface) (tape : List ℕ) (e : TapedCall) (n : ℕ) (c : TheCall) → is_within_limits i ≡ true → interface_words_fit i ≡ true → IsEnded plan i tape e
    → is_plain_message (slice_get i.messages e.msg.0) ≡ true → slice_get tape 0 ≡ Some n → c ≡ record { msg = e.msg.0; args = one_number n } → NumberCalled plan i tape e c
number_called plan i tape e n c within words x plain first is =
    let call : TheCall = x.call in
    let of : OfNumber plan i call = of_number plan i call (ap (λ (m : ℕ). is_plain_message (slice_get i.messages m)) x.message ∙ plain) x.fits in
    let number : of.number_is ≡ n = first_of tape e.count of.number_is n (x.tape_is ∙ of.tape) first in
    let made : ℕ → List Datum → TheCall = λ m ds. record { msg = m; args = ds } in
    let same : call ≡ c
    = ap (λ (m : ℕ). made m call.args) x.message ∙ ap (made e.msg.0) (of.args ∙ ap one_number number) ∙ sym is in
    subst (NumberCalled plan i tape e) same
    (record { fits = x.fits; means = means_whole plan i tape e call within words x (record { message = x.message; fits = x.fits; whole = x.tape_is }) })
