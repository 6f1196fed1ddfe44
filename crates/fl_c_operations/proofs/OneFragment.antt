-- Calls of one fragment, by their tapes.
use Rattle.std.proofs.Common.{◌≡◌, ℕ, ◌<◌, ◌≤◌, ◌^◌, true, List, [], ◌∷◌, length, Some, refl, sym, ap, subst, ◌∙◌, arith}
use Rattle.std.specs.Prelude.{slice_get}
use Rattle.fl_base.specs.declared.fragment.Frag.{Frag}
use Rattle.fl_interface.specs.Interface.{TheInterface}
use Rattle.fl_interface.specs.Limits.{is_within_limits}
use Rattle.fl_interface.specs.Counts.{interface_words_fit}
use Rattle.fl_value_data.specs.declared.value.PlanNo.{PlanNo}
use Rattle.fl_value_data.specs.Value.{TheCall}
use Rattle.fl_value_data.specs.Fits.{fits_of}
use Rattle.fl_value_data.specs.Taken.{HasTape}
use Rattle.fl_layout.specs.Layouts.{payload_length, IsGreatest}
use Rattle.fl_layout.specs.Places.{count}
use Rattle.fl_wire.specs.Payload.{frags_on}
use Rattle.fl_stub.specs.declared.op.Column.TheVariants.{Send}
use Rattle.fl_stub.specs.Code.{TheCode}
use Rattle.fl_stub.specs.Frames.{block_of}
use Rattle.fl_stub.specs.Given.{bytes_given}
use Rattle.fl_compile.specs.Laws.{HasMessage}
use Rattle.fl_compile.specs.Programs.{TheProgram, code_in}
use Rattle.fl_machine.specs.Sending.{frags_holding}
use Rattle.fl_machine.specs.Laws.{SendsFragments}
use Rattle.fl_endpoint.specs.Stored.{IsOwn, AreOwn}
use Rattle.fl_c_operations.specs.Shorts.{IsFragOfTape, IsFragOfNumbers}
use Rattle.fl_c_operations.proofs.Sent.{own_frags, length_frags}
use Rattle.fl_c_operations.proofs.Starts.{message_of_call, code_is}

-- a call whose payload has no more bytes than a fragment is one fragment
one_fragment : (plan : PlanNo) (i : TheInterface) (msg n : ℕ) → IsGreatest (payload_length plan i) i msg n → n ≤ 56
    → (c : TheCall) → fits_of i c ≡ true → c.msg ≡ msg → count plan i c ≡ 1
one_fragment plan i msg n most few c fits names =
    let within : payload_length plan i c ≤ n = most.bounds c (record { fits = fits; names = names }) in
    omega (arith, within, few)

-- the same by the program's own interface and plan
pub one_in : (x : TheProgram) (plan : PlanNo) (i : TheInterface) (msg n : ℕ) → i ≡ x.interface → plan ≡ x.plan → IsGreatest (payload_length plan i) i msg n → n ≤ 56
    → (c : TheCall) → fits_of x.interface c ≡ true → c.msg ≡ msg → count x.plan x.interface c ≡ 1
one_in x plan i msg n e p most few c fits names =
    one_fragment x.plan x.interface msg n
    (subst (λ (j : TheInterface). IsGreatest (payload_length x.plan j) j msg n) e (subst (λ (q : PlanNo). IsGreatest (payload_length q i) i msg n) p most)) few c fits names

-- the fragments that a message's code gives of a call's tape
frags_are : SendsFragments → (x : TheProgram) (circuit msg : ℕ) (c : TheCall) (code : TheCode) (tape : List ℕ)
    → is_within_limits x.interface ≡ true → interface_words_fit x.interface ≡ true → HasTape x.plan x.interface msg tape c → Some code ≡ code_in Send x msg
    → frags_holding true msg circuit (bytes_given (block_of code.ops) tape) ≡ frags_on circuit x.plan x.interface c
frags_are sends x circuit msg c code tape within words has some =
    let m = message_of_call x.interface c has.fits in
    let of_call : Some code ≡ code_in Send x c.msg = subst (λ (n : ℕ). Some code ≡ code_in Send x n) (sym has.message) some in
    let here : HasMessage x.interface c.msg m.0 = record { within = within; words = words; message = m.1 } in
    ap (λ (n : ℕ). frags_holding true n circuit (bytes_given (block_of code.ops) tape)) (sym has.message)
    ∙ ap (λ (t : List ℕ). frags_holding true c.msg circuit (bytes_given (block_of code.ops) t)) has.whole
    ∙ sends circuit x.plan x.interface m.0 c code here has.fits (code_is x c.msg m.0 code m.1 of_call)

only_one : (fs : List Frag) (f : Frag) → Some f ≡ slice_get fs 0 → length fs ≡ 1 → f ∷ [] ≡ fs
only_one [] f first one = absurd (cc)
only_one (g ∷ []) f first one = let same : f ≡ g = cc in ap (λ (x : Frag). x ∷ []) same
only_one (g ∷ h ∷ fs) f first one = absurd (omega (arith, one))

-- the first of them is the only one
pub short_of : SendsFragments → (x : TheProgram) (plan : PlanNo) (i : TheInterface) (circuit msg : ℕ) (code : TheCode) (tape : List ℕ) (f : Frag) → i ≡ x.interface → plan ≡ x.plan
    → is_within_limits i ≡ true → interface_words_fit i ≡ true → (c : TheCall) × HasTape plan i msg tape c
    → ((c : TheCall) → fits_of x.interface c ≡ true → c.msg ≡ msg → count x.plan x.interface c ≡ 1) → Some code ≡ code_in Send x msg
    → Some f ≡ slice_get (frags_holding true msg circuit (bytes_given (block_of code.ops) tape)) 0 → IsFragOfTape x circuit msg tape f
short_of sends x plan i circuit msg code tape f e p within words (c, there) one some first =
    let has : HasTape x.plan x.interface msg tape c
    = subst (λ (j : TheInterface). HasTape x.plan j msg tape c) e (subst (λ (q : PlanNo). HasTape q i msg tape c) p there) in
    let bytes = bytes_given (block_of code.ops) tape in
    let are : frags_holding true msg circuit bytes ≡ frags_on circuit x.plan x.interface c
    = frags_are sends x circuit msg c code tape (subst (λ (j : TheInterface). is_within_limits j ≡ true) e within) (subst (λ (j : TheInterface). interface_words_fit j ≡ true) e words) has some in
    let long = length_frags circuit x.plan x.interface c ∙ one c has.fits has.message in
    let only : f ∷ [] ≡ frags_on circuit x.plan x.interface c
    = only_one (frags_on circuit x.plan x.interface c) f (first ∙ ap (λ (fs : List Frag). slice_get fs 0) are) long in
    (c, has, sym only)

-- no link changes it, or takes it for an acknowledgement
pub own_of : (x : TheProgram) (circuit msg : ℕ) (tape : List ℕ) (f : Frag) → msg < 2 ^ 16 → circuit < 2 ^ 16 → IsFragOfTape x circuit msg tape f → IsOwn f
own_of x circuit msg tape f small few (c, has, only) =
    let one : AreOwn (f ∷ []) = subst AreOwn only (own_frags circuit x.plan x.interface c (subst (λ (n : ℕ). n < 2 ^ 16) (sym has.message) small) few) in
    one.0

-- the same of all numbers
pub short_numbers : (x : TheProgram) (circuit msg number : ℕ) (tape numbers : List ℕ) (f : Frag) → msg ≡ number → numbers ≡ number ∷ tape → IsFragOfTape x circuit msg tape f
    → IsFragOfNumbers x circuit numbers f
short_numbers x circuit msg number tape numbers f e is (c, has, only) = (c, (msg, tape, is ∙ ap (λ (n : ℕ). n ∷ tape) (sym e), has), only)
