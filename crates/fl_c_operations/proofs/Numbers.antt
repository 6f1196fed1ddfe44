-- A call of one number whose tape is that number.
use Rattle.std.proofs.Common.{ℕ, ◌≡◌, ◌∷◌, [], List, true, slice_get, sym, ap, ◌∙◌}
use Rattle.fl_interface.specs.Interface.{TheInterface}
use Rattle.fl_value_data.specs.declared.value.PlanNo.{PlanNo}
use Rattle.fl_value_data.specs.Value.{TheCall}
use Rattle.fl_value_data.specs.Fits.{fits_of}
use Rattle.fl_value_data.specs.Tape.{tape_of}
use Rattle.fl_compact_calls.specs.Held.{one_number}
use Rattle.fl_compact_calls.specs.Plain.{is_plain_message}
use Rattle.fl_compact_calls.proofs.Plain.{OfNumber, of_number}

one_same : (m n : ℕ) → one_number m ≡ one_number n → m ≡ n
one_same m n e = cc

pub tape_of_number : (plan : PlanNo) (i : TheInterface) (c : TheCall) (n : ℕ) → c.args ≡ one_number n → is_plain_message (slice_get i.messages c.msg) ≡ true → fits_of i c ≡ true
    → c.msg ∷ tape_of plan i c ≡ c.msg ∷ n ∷ []
tape_of_number plan i c n args plain fits =
    let of : OfNumber plan i c = of_number plan i c plain fits in
    let same : of.number_is ≡ n = one_same of.number_is n (sym of.args ∙ args) in
    ap (λ (t : List ℕ). c.msg ∷ t) (of.tape ∙ ap (λ (k : ℕ). k ∷ []) same)
