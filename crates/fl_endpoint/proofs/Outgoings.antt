-- The fragments that an end is to send.
use Rattle.std.proofs.Common.{◌≡◌, ℕ, ◌+◌, ◌/◌, ◌%◌, ◌^◌, ◌<◌, ◌==◌, ◌&&◌, Bool, true, false, List, [], ◌∷◌, map, drop, length, get_or, Option, Some, None, refl, sym, ap, subst, ◌∙◌, arith, rules}
use Rattle.std.specs.Prelude.{slice_get, IsSome}
use Rattle.std.specs.Global.{Vec}
use Rattle.std.specs.List.{range_with_len, list_all, zip, flat_map}
use Rattle.std.specs.Option.{option_map}
use Rattle.std.proofs.lemmas.Bool.{false≢true}
use Rattle.std.proofs.lemmas.List.{length-map, length-drop, drop_more}
use Rattle.std.proofs.lemmas.List.FromFn.{length-range_with_len, length-map-range_with_len, get_or-map-range_with_len}
use Rattle.fl_base.specs.declared.fragment.Frag.{Frag}
use Rattle.fl_base.specs.Control.{control_word, body}
use Rattle.fl_interface.specs.Interface.{TheArgType, TheMessage, TheInterface}
use Rattle.fl_interface.specs.Limits.{is_within_limits}
use Rattle.fl_value_data.specs.Value.{TheCall}
use Rattle.fl_value_data.specs.Fits.{fits_of, fit_message}
use Rattle.fl_value_data.specs.Plan.{arranged}
use Rattle.fl_value_data.specs.Tape.{kind, tape_of_argument, tape_of}
use Rattle.fl_compact_calls.specs.Held.{one_number}
use Rattle.fl_compact_calls.proofs.Plain.{tape_of_one}
use Rattle.fl_value_data.specs.declared.value.PlanNo.{PlanNo}
use Rattle.fl_layout.specs.Leaves.{Leaf, arguments_onto, leaves}
use Rattle.fl_layout.specs.Places.{size, count, count_for}
use Rattle.fl_wire.specs.Payload.{payload_at, payload_bytes, payload_of, frag_on, frags_on}
use Rattle.fl_wire.specs.Words.{interface_words_fit}
use Rattle.fl_stub.specs.declared.op.Column.TheVariants.{Send}
use Rattle.fl_stub.specs.Code.{TheCode}
use Rattle.fl_stub.specs.Frames.{block_of}
use Rattle.fl_stub.specs.Given.{bytes_given}
use Rattle.fl_compile.specs.Codes.{compiled_code}
use Rattle.fl_compile.specs.Programs.{TheProgram}
use Rattle.fl_machine.specs.Sending.{frags_holding}
use Rattle.fl_machine.specs.Laws.{SendsFragments}
use Rattle.fl_endpoint.specs.declared.outgoing.CallBody.{CallBody}
use Rattle.fl_endpoint.specs.declared.outgoing.CallBody.TheVariants.{Tape, Payload, Number}
use Rattle.fl_endpoint.specs.declared.outgoing.QueuedCall.{QueuedCall}
use Rattle.fl_endpoint.specs.declared.outgoing.SendingCall.{SendingCall}
use Rattle.fl_endpoint.specs.View.{are_some}
use Rattle.fl_endpoint.specs.Events.{SameTypes}
use Rattle.fl_endpoint.specs.Stored.{code_for, payload_frags, tape_frags, body_frags, sent_as, IsOwn, AreOwn, IsShort, IsBody, IsSending, Queues}
use Rattle.fl_endpoint.proofs.Numbers.{short_number}

-- ---- a fragment of a call is carried unchanged by every link, and only acknowledges never

body_of_call : (first : Bool) (msg circuit : ℕ) → msg < 2 ^ 16 → circuit < 2 ^ 16 → body (control_word first msg circuit) ≡ control_word first msg circuit
body_of_call true msg circuit m k = omega (arith, m, k)
body_of_call false msg circuit m k = omega (arith, m, k)

no_acknowledgement : (first : Bool) (msg circuit : ℕ) → (control_word first msg circuit / 2 % 2 ^ 47 == 2) ≡ false
no_acknowledgement true msg circuit = grind arith
no_acknowledgement false msg circuit = grind arith

data_with : (b c : Bool) → b ≡ false → (b && c) ≡ false
data_with b c e = ap (λ (x : Bool). x && c) e

own_frag : (msg circuit : ℕ) (bytes : List ℕ) (k : ℕ) → msg < 2 ^ 16 → circuit < 2 ^ 16 → IsOwn (frag_on circuit msg bytes k)
own_frag msg circuit bytes k m c =
    let f = frag_on circuit msg bytes k in
    record {
      bare_is = ap (λ (w : ℕ). record { words = f.words; control = w }) (body_of_call (k == 0) msg circuit m c);
      data_is = data_with _ (list_all (λ w. w == 0) f.words) (no_acknowledgement (k == 0) msg circuit);
    }

own_map : {A : Type 0} (f : A → Frag) (xs : List A) → ((x : A) → IsOwn (f x)) → AreOwn (map f xs)
own_map f [] h = tt
own_map f (x ∷ xs) h = (h x, own_map f xs h)

pub own_frags : (msg circuit : ℕ) (bytes : List ℕ) → msg < 2 ^ 16 → circuit < 2 ^ 16 → AreOwn (payload_frags circuit msg bytes)
own_frags msg circuit bytes m c = own_map (frag_on circuit msg bytes) (range_with_len 0 (count_for (length bytes))) (λ k. own_frag msg circuit bytes k m c)

-- ---- how many they are

pub length_payload_frags : (msg circuit : ℕ) (bytes : List ℕ) → length (payload_frags circuit msg bytes) ≡ count_for (length bytes)
length_payload_frags msg circuit bytes = length-map-range_with_len (frag_on circuit msg bytes) 0 (count_for (length bytes))

pub some_for : (bytes : ℕ) → 0 < count_for bytes
some_for bytes = omega arith

-- ---- one of them, and those behind it

pub from_one_on : (msg circuit : ℕ) (bytes : List ℕ) (k : ℕ) → k < count_for (length bytes)
    → frag_on circuit msg bytes k ∷ drop (k + 1) (payload_frags circuit msg bytes) ≡ drop k (payload_frags circuit msg bytes)
from_one_on msg circuit bytes k within =
    let all = payload_frags circuit msg bytes in
    let f = frag_on circuit msg bytes k in
    let long = length_payload_frags msg circuit bytes in
    let is : get_or all k f ≡ f = get_or-map-range_with_len (frag_on circuit msg bytes) 0 (count_for (length bytes)) k k f within (omega arith) in
    sym (drop_more all k f (omega (arith, long, within)) ∙ ap (λ (g : Frag). g ∷ drop (k + 1) all) is)

-- all of them, from the first on
pub from_first_on : (msg circuit : ℕ) (bytes : List ℕ) (first : Frag) → first ≡ frag_on circuit msg bytes 0
    → first ∷ drop 1 (payload_frags circuit msg bytes) ≡ payload_frags circuit msg bytes
from_first_on msg circuit bytes first is =
    ap (λ (f : Frag). f ∷ drop 1 (payload_frags circuit msg bytes)) is ∙ from_one_on msg circuit bytes 0 (some_for (length bytes))

-- those behind the next one, where there are any
pub from_next_on : (s : SendingCall) (payload : Vec ℕ) (next : Frag) → IsSending s (Some payload) → (s.written + 1 ≡ s.count → ⊥)
    → next ≡ frag_on s.circuit.0 s.msg.0 payload.items (s.written + 1)
    → next ∷ drop (s.written + 1 + 1) (payload_frags s.circuit.0 s.msg.0 payload.items) ≡ drop (s.written + 1) (payload_frags s.circuit.0 s.msg.0 payload.items)
from_next_on s payload next sending more is =
    let all = payload_frags s.circuit.0 s.msg.0 payload.items in
    let long = length_payload_frags s.msg.0 s.circuit.0 payload.items in
    let left = length-drop (s.written + 1) all in
    let counted = sending.counted in
    ap (λ (f : Frag). f ∷ drop (s.written + 1 + 1) all) is ∙ from_one_on s.msg.0 s.circuit.0 payload.items (s.written + 1) (omega (arith, long, left, counted, more))

-- ---- the first and the others

pub first_and_rest : {A : Type 0} (xs : List A) (x : A) → slice_get xs 0 ≡ Some x → xs ≡ x ∷ drop 1 xs
first_and_rest [] x e = absurd cc
first_and_rest (y ∷ ys) x e = let h : y ≡ x = cc in ap (λ (z : _). z ∷ ys) h

pub none_first : {A : Type 0} (xs : List A) → slice_get xs 0 ≡ None → xs ≡ []
none_first [] e = refl
none_first (y ∷ ys) e = absurd cc

-- a list of one is its first
pub only_one : {A : Type 0} (xs : List A) (x : A) → Some x ≡ slice_get xs 0 → length xs ≡ 1 → x ∷ [] ≡ xs
only_one [] x e long = absurd cc
only_one (y ∷ []) x e long = let h : x ≡ y = cc in ap (λ (z : _). z ∷ []) h
only_one (y ∷ z ∷ ys) x e long = absurd (omega (arith, long))

-- ---- the code of a message

pub code_is : (plan : PlanNo) (o : Option TheMessage) (code : TheCode) → Some code ≡ option_map (compiled_code Send plan) o → code ≡ code_for plan o
code_is plan None code e = absurd cc
code_is plan (Some m) code e = cc

-- ---- the fragments of a call

pub length_frags : (circuit : ℕ) (plan : PlanNo) (i : TheInterface) (c : TheCall) → length (frags_on circuit plan i c) ≡ count plan i c
length_frags circuit plan i c =
    length-map (range_with_len 0 (count plan i c)) (frag_on circuit c.msg (payload_of plan i c)) ∙ length-range_with_len 0 (count plan i c)

-- where the message stands, its code gives the call's fragments
pub code_frags : (circuit : ℕ) (plan : PlanNo) (i : TheInterface) (o : Option TheMessage) (c : TheCall) → SendsFragments
    → o ≡ slice_get i.messages c.msg → is_within_limits i ≡ true → interface_words_fit i ≡ true → fits_of i c ≡ true
    → frags_holding true c.msg circuit (bytes_given (block_of (code_for plan o).ops) (tape_of plan i c)) ≡ frags_on circuit plan i c
code_frags circuit plan i None c law there within words fits =
    absurd (false≢true (subst (λ (o : Option TheMessage). fit_message o c.args ≡ true) (sym there) fits))
code_frags circuit plan i (Some m) c law there within words fits =
    law circuit plan i m c (compiled_code Send plan m) (record { within = within; words = words; message = sym there }) fits refl

pub known_call : (i : TheInterface) (o : Option TheMessage) (c : TheCall) → o ≡ slice_get i.messages c.msg → fits_of i c ≡ true → IsSome o
known_call i None c there fits = absurd (false≢true (subst (λ (o : Option TheMessage). fit_message o c.args ≡ true) (sym there) fits))
known_call i (Some m) c there fits = search rules

queues_body : (p : TheProgram) (c : TheCall) (call : QueuedCall) (body : CallBody) → call.msg.0 ≡ c.msg → call.body ≡ body → IsBody p c.msg body
    → ((circuit : ℕ) → body_frags p circuit c.msg body ≡ frags_on circuit p.plan p.interface c) → Queues p c call
queues_body p c call body msg is of_body frags = record {
  is = subst (λ (n : ℕ). IsBody p n call.body) (sym msg) (subst (λ (b : CallBody). IsBody p c.msg b) (sym is) of_body);
  frags = λ circuit. ap (λ (n : ℕ). body_frags p circuit n call.body) msg ∙ ap (body_frags p circuit c.msg) is ∙ frags circuit;
}

-- the fragments of a fitting call's tape are the call's
taped_frags : (p : TheProgram) (c : TheCall) (tape : List ℕ) → SendsFragments → is_within_limits p.interface ≡ true → interface_words_fit p.interface ≡ true → fits_of p.interface c ≡ true
    → tape ≡ tape_of p.plan p.interface c → (circuit : ℕ) → tape_frags p circuit c.msg tape ≡ frags_on circuit p.plan p.interface c
taped_frags p c tape law within words fits tape_is circuit =
    ap (tape_frags p circuit c.msg) tape_is ∙ code_frags circuit p.plan p.interface (slice_get p.interface.messages c.msg) c law refl within words fits

-- it is one of one fragment
taped_short : (p : TheProgram) (c : TheCall) (tape : List ℕ) → fits_of p.interface c ≡ true → count p.plan p.interface c ≡ 1
    → ((circuit : ℕ) → tape_frags p circuit c.msg tape ≡ frags_on circuit p.plan p.interface c) → IsShort p c.msg tape
taped_short p c tape fits one frags = record {
  known = known_call p.interface (slice_get p.interface.messages c.msg) c refl fits;
  one = λ circuit. ap length (frags circuit) ∙ length_frags circuit p.plan p.interface c ∙ one;
}

-- a fitting call of one fragment as it is queued, by its tape
pub queues_tape : (p : TheProgram) (c : TheCall) (tape : Vec ℕ) (call : QueuedCall) → SendsFragments → is_within_limits p.interface ≡ true → interface_words_fit p.interface ≡ true
    → fits_of p.interface c ≡ true → count p.plan p.interface c ≡ 1 → call.msg.0 ≡ c.msg → call.body ≡ Tape tape → tape.items ≡ tape_of p.plan p.interface c
    → Queues p c call
queues_tape p c tape call law within words fits one msg body tape_is =
    let frags = taped_frags p c tape.items law within words fits tape_is in
    queues_body p c call (Tape tape) msg body (taped_short p c tape.items fits one frags) frags

-- one by its number
pub queues_number : (p : TheProgram) (msg n : ℕ) (call : QueuedCall) → SendsFragments → is_within_limits p.interface ≡ true → interface_words_fit p.interface ≡ true
    → fits_of p.interface (record { msg = msg; args = one_number n }) ≡ true → call.msg.0 ≡ msg → call.body ≡ Number n
    → Queues p (record { msg = msg; args = one_number n }) call
queues_number p msg n call law within words fits msg_is body =
    let c : TheCall = record { msg = msg; args = one_number n } in
    let frags = taped_frags p c (n ∷ []) law within words fits (sym (tape_of_one p.plan p.interface msg n words fits)) in
    queues_body p c call (Number n) msg_is body (taped_short p c (n ∷ []) fits (short_number p.plan p.interface msg n fits) frags) frags

-- one by its payload
pub queues_payload : (p : TheProgram) (c : TheCall) (payload : Vec ℕ) (call : QueuedCall) → call.msg.0 ≡ c.msg → call.body ≡ Payload payload
    → payload.items ≡ payload_of p.plan p.interface c → Queues p c call
queues_payload p c payload call msg body payload_is =
    let long : length (payload_of p.plan p.interface c) ≡ size (leaves p.plan p.interface c)
    = length-map-range_with_len (payload_at (leaves p.plan p.interface c)) 0 (size (leaves p.plan p.interface c)) in
    queues_body p c call (Payload payload) msg body tt
    (λ circuit. ap (payload_frags circuit c.msg) payload_is
    ∙ ap (λ (n : ℕ). map (frag_on circuit c.msg (payload_of p.plan p.interface c)) (range_with_len 0 (count_for n))) long)

-- ---- a call sent as another message, whose arguments have the same types

pub same_tape : (plan : PlanNo) (i : TheInterface) (c : TheCall) (msg : ℕ) → SameTypes i c.msg msg → tape_of plan i c ≡ tape_of plan i (sent_as msg c)
same_tape plan i c msg e = ap (λ (ts : List TheArgType). flat_map tape_of_argument (arranged kind plan (zip ts c.args))) e

same_leaves : (plan : PlanNo) (i : TheInterface) (c : TheCall) (msg : ℕ) → SameTypes i c.msg msg → leaves plan i c ≡ leaves plan i (sent_as msg c)
same_leaves plan i c msg e = ap (λ (ts : List TheArgType). arguments_onto false (arranged kind plan (zip ts c.args)) []) e

pub same_payload : (plan : PlanNo) (i : TheInterface) (c : TheCall) (msg : ℕ) → SameTypes i c.msg msg → payload_of plan i c ≡ payload_of plan i (sent_as msg c)
same_payload plan i c msg e = ap payload_bytes (same_leaves plan i c msg e)

pub same_count : (plan : PlanNo) (i : TheInterface) (c : TheCall) (msg : ℕ) → SameTypes i c.msg msg → count plan i c ≡ count plan i (sent_as msg c)
same_count plan i c msg e = ap (λ (ls : List Leaf). count_for (size ls)) (same_leaves plan i c msg e)

-- ---- whether there is any

pub some_are : (frags : List Frag) → are_some frags ≡ true → frags ≡ [] → ⊥
some_are [] h e = absurd cc
some_are (f ∷ frags) h e = absurd cc

pub none_are : (frags : List Frag) → are_some frags ≡ false → frags ≡ []
none_are [] h = refl
none_are (f ∷ frags) h = absurd cc

pub not_none : (frags : List Frag) (f : Frag) → slice_get frags 0 ≡ Some f → frags ≡ [] → ⊥
not_none [] f h e = absurd cc
not_none (g ∷ frags) f h e = absurd cc
