-- A fragment has one first fault: its wrong byte has one place, and what stands there is told by the bytes before it.
use Rattle.std.proofs.Common.{◌≡◌, ℕ, ◌<◌, ◌≤◌, ⊎_elim, inl, inr, true, List, [], ◌∷◌, ◌++◌, map, length, Some, None, refl, sym, ◌∙◌, ap, subst, arith, append_assoc}
use Rattle.std.specs.Prelude.{Option, slice_get}
use Rattle.std.proofs.lemmas.Bool.{cases_lt, false≢true}
use Rattle.std.proofs.lemmas.List.{map-append}
use Rattle.fl_base.specs.declared.fragment.Frag.{Frag}
use Rattle.fl_base.specs.Control.{message_of, bare}
use Rattle.fl_interface.specs.Interface.{TheMessage, TheInterface}
use Rattle.fl_interface.specs.Limits.{is_within_limits}
use Rattle.fl_value_data.specs.declared.value.PlanNo.{PlanNo}
use Rattle.fl_value_data.specs.Value.{TheCall}
use Rattle.fl_value_data.specs.Fits.{fits_of, fit_message}
use Rattle.fl_value_data.specs.Tape.{tape_of}
use Rattle.fl_layout.specs.Leaves.{leaves}
use Rattle.fl_wire.specs.Payload.{payload_of}
use Rattle.fl_wire.specs.Reading.{IsWrong, Reads}
use Rattle.fl_wire.specs.Shapes.{Agrees}
use Rattle.fl_interface.specs.Counts.{interface_words_fit}
use Rattle.fl_wire.specs.Wrong.{fault_at, WrongByte, HasFault, IsWrongAt}
use Rattle.fl_wire.specs.declared.fault.WireFault.{WireFault}
use Rattle.fl_wire.proofs.Readings.{byte_of_payload, reads_once}
use Rattle.fl_wire.proofs.Unread.{reads_right}
use Rattle.fl_stub.specs.declared.op.Column.TheVariants.{Receive}
use Rattle.fl_stub.specs.Streams.{Follows}
use Rattle.fl_stub.proofs.Agreeing.{one_mark}
use Rattle.fl_compile.specs.Compiled.{message_block}
use Rattle.fl_compile.specs.Laws.{HasMessage, fault_of, OneFault, OneRefusal}
use Rattle.fl_compile.proofs.Lawful.{call_turns, compiles_to_code}
use Rattle.fl_compile.proofs.Telling.{tells_faults}

-- a fitting call has a message
known : (i : TheInterface) (c : TheCall) → fits_of i c ≡ true → (m : TheMessage) × (slice_get i.messages c.msg ≡ Some m)
known i c fits = by_found (slice_get i.messages c.msg) refl fits
  where
    by_found : (found : Option TheMessage) → slice_get i.messages c.msg ≡ found → fit_message found c.args ≡ true → (m : TheMessage) × (slice_get i.messages c.msg ≡ Some m)
    by_found None e h = absurd (false≢true h)
    by_found (Some m) e h = (m, e)

-- two calls that agree with fragments up to a byte
payloads_follow : (plan : PlanNo) (i : TheInterface) (frags : List Frag) (c d : TheCall) (p : ℕ) → Agrees frags (leaves plan i c) p → Agrees frags (leaves plan i d) p
    → Follows p (payload_of plan i c) (payload_of plan i d)
payloads_follow plan i frags c d p x y = record {
  each = λ q small. byte_of_payload (leaves plan i c) q ∙ sym (x.at q small) ∙ y.at q small ∙ sym (byte_of_payload (leaves plan i d) q);
}

-- two fitting calls of a message whose payloads begin alike have the same fault at the next byte
same_fault : (plan : PlanNo) (i : TheInterface) (m : TheMessage) (c d : TheCall) (p : ℕ) → HasMessage i c.msg m → c.msg ≡ d.msg → fits_of i c ≡ true → fits_of i d ≡ true
    → Follows p (payload_of plan i c) (payload_of plan i d) → fault_at plan i c p ≡ fault_at plan i d p
same_fault plan i m c d p has same fits fits2 follows =
    let has2 : HasMessage i d.msg m = subst (λ (k : ℕ). HasMessage i k m) same has in
    tells_faults plan i m c has fits p
    ∙ ap fault_of
    (one_mark (message_block Receive plan m) (tape_of plan i c) (tape_of plan i d) (payload_of plan i c) (payload_of plan i d) p
    (compiles_to_code Receive plan i c.msg m has).fits (call_turns Receive plan i m c has fits) (call_turns Receive plan i m d has2 fits2) follows)
    ∙ sym (tells_faults plan i m d has2 fits2 p)

-- the place of the first wrong byte is one
wrong_at : (plan : PlanNo) (i : TheInterface) (msg : ℕ) (frags : List Frag) (a b : WireFault) (x : WrongByte plan i msg frags a) (y : WrongByte plan i msg frags b) → y.p ≤ x.p
wrong_at plan i msg frags a b x y = ⊎_elim
    (λ (less : x.p < y.p). absurd (x.none y.call y.of y.fits (record { at = λ q small. y.before.at q (omega (arith, small, less)) })))
    (λ (past : y.p ≤ x.p). past)
    (cases_lt x.p y.p)

one_byte : (plan : PlanNo) (i : TheInterface) (msg : ℕ) (frags : List Frag) (a b : WireFault) → is_within_limits i ≡ true → interface_words_fit i ≡ true
    → WrongByte plan i msg frags a → WrongByte plan i msg frags b → a ≡ b
one_byte plan i msg frags a b within words x y =
    let low = wrong_at plan i msg frags a b x y in
    let high = wrong_at plan i msg frags b a y x in
    let place : y.p ≡ x.p = omega (arith, low, high) in
    let (m, found) = known i x.call x.fits in
    let before : Agrees frags (leaves plan i y.call) x.p = subst (λ (k : ℕ). Agrees frags (leaves plan i y.call) k) place y.before in
    x.is
    ∙ same_fault plan i m x.call y.call x.p (record { within = within; words = words; message = found }) (x.of ∙ sym y.of) x.fits y.fits (payloads_follow plan i frags x.call y.call x.p x.before before)
    ∙ ap (fault_at plan i y.call) (sym place)
    ∙ sym y.is

-- ---- of a fragment

pub one_fault : OneFault
one_fault plan i rest f a b within words (inl x) (inl y) =
    let same : Some a ≡ Some b = sym x ∙ y in
    cc
one_fault plan i rest f a b within words (inl x) (inr (none, y)) =
    let same : Some a ≡ None = sym x ∙ none in
    absurd (cc)
one_fault plan i rest f a b within words (inr (none, x)) (inl y) =
    let same : Some b ≡ None = sym y ∙ none in
    absurd (cc)
one_fault plan i rest f a b within words (inr (none, x)) (inr (none2, y)) =
    one_byte plan i (message_of f.control) (rest ++ f ∷ []) a b within words x y

-- ---- of a list

-- what is shorter ends inside what is longer
shorter_inside : (a b c d : List Frag) (f g : Frag) → a ++ f ∷ c ≡ b ++ g ∷ d → length a < length b → (more : List Frag) × (b ≡ (a ++ f ∷ []) ++ more)
shorter_inside a [] c d f g e less = absurd (omega (arith, less))
shorter_inside [] (h ∷ b) c d f g e less =
    let first : h ≡ f = cc in
    (b, ap (λ (k : Frag). k ∷ b) first)
shorter_inside (k ∷ a) (h ∷ b) c d f g e less =
    let first : h ≡ k = cc in
    let tails : a ++ f ∷ c ≡ b ++ g ∷ d = cc in
    let (more, is) = shorter_inside a b c d f g tails (omega (arith, less)) in
    (more, λ i. first i ∷ is i)

-- what is as long is the same
as_long_same : (a b c d : List Frag) (f g : Frag) → a ++ f ∷ c ≡ b ++ g ∷ d → length a ≡ length b → (a ≡ b) × (f ≡ g)
as_long_same [] [] c d f g e long = (refl, cc)
as_long_same [] (h ∷ b) c d f g e long = absurd (omega (arith, long))
as_long_same (k ∷ a) [] c d f g e long = absurd (omega (arith, long))
as_long_same (k ∷ a) (h ∷ b) c d f g e long =
    let first : k ≡ h = cc in
    let tails : a ++ f ∷ c ≡ b ++ g ∷ d = cc in
    let (prefixes, ones) = as_long_same a b c d f g tails (omega (arith, long)) in
    ((λ i. first i ∷ prefixes i), ones)

-- what begins with fragments that no calls' begin with is so too
wrong_longer : (plan : PlanNo) (i : TheInterface) (prefix more frags : List Frag) → frags ≡ prefix ++ more → IsWrong plan i prefix → IsWrong plan i frags
wrong_longer plan i prefix more frags is wrong calls after fit e =
    wrong calls (map bare more ++ after) fit
    (e ∙ ap (λ (xs : List Frag). map bare xs ++ after) is ∙ ap (λ (xs : List Frag). xs ++ after) (map-append bare prefix more) ∙ append_assoc (map bare prefix) (map bare more) after)

-- the place of the first fragment at fault is one
not_before : (plan : PlanNo) (i : TheInterface) (frags : List Frag) (a b : WireFault) (x : IsWrongAt plan i frags a) (y : IsWrongAt plan i frags b) → length y.before ≤ length x.before
not_before plan i frags a b x y = ⊎_elim
    (λ (less : length x.before < length y.before).
    let (more, is) = shorter_inside x.before y.before x.after y.after x.one y.one (sym x.is ∙ y.is) less in
    absurd (reads_right plan i y.before y.calls y.rest y.reads (wrong_longer plan i (x.before ++ x.one ∷ []) more y.before is x.wrong)))
    (λ (past : length y.before ≤ length x.before). past)
    (cases_lt (length x.before) (length y.before))

pub one_refusal : OneRefusal
one_refusal plan i frags a b within words x y =
    let low = not_before plan i frags a b x y in
    let high = not_before plan i frags b a y x in
    let (prefixes, ones) = as_long_same x.before y.before x.after y.after x.one y.one (sym x.is ∙ y.is) (omega (arith, low, high)) in
    let reads : Reads plan i x.before y.calls y.rest = subst (λ (xs : List Frag). Reads plan i xs y.calls y.rest) (sym prefixes) y.reads in
    let rests : y.rest ≡ x.rest = sym (reads_once plan i x.before x.calls y.calls x.rest y.rest words x.reads reads).1 in
    let first : HasFault plan i x.rest y.one b = subst (λ (xs : List Frag). HasFault plan i xs y.one b) rests y.first in
    one_fault plan i x.rest x.one a b within words x.first (subst (λ (k : Frag). HasFault plan i x.rest k b) (sym ones) first)
