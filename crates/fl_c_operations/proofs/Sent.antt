-- What an end sends, and its place: as the end's own crate has it, which hands these lemmas to none.
use Rattle.std.proofs.Common.{◌≡◌, ℕ, zero, suc, ◌-◌, ◌/◌, ◌%◌, ◌^◌, ◌<◌, ◌≤◌, ◌==◌, ◌&&◌, Bool, true, false, List, [], ◌∷◌, ◌++◌, inl, map, drop, length, Option, Some, None, Result, refl, sym, ap, ◌∙◌, ⊎_elim, arith}
use Rattle.std.specs.Prelude.{slice_get, slice_set, IsSomeAnd}
use Rattle.std.specs.List.{range_with_len, list_all}
use Rattle.std.proofs.lemmas.Bool.{false≢true, cases_lt}
use Rattle.std.proofs.lemmas.List.{length-map, length-drop, map-append}
use Rattle.std.proofs.lemmas.List.Elements.{All-nil, All-cons}
use Rattle.std.proofs.lemmas.List.FromFn.{length-range_with_len}
use Rattle.fl_base.specs.declared.fragment.Frag.{Frag}
use Rattle.fl_base.specs.Control.{control_word, body, bare}
use Rattle.fl_interface.specs.Interface.{TheInterface}
use Rattle.fl_value_data.specs.declared.value.PlanNo.{PlanNo}
use Rattle.fl_value_data.specs.Value.{TheCall}
use Rattle.fl_value_data.specs.Fits.{fits_of}
use Rattle.fl_layout.specs.Places.{count}
use Rattle.fl_link.specs.Looks.{Look}
use Rattle.fl_wire.specs.Payload.{payload_of, frag_on, frags_on, frags_of}
use Rattle.fl_wire.specs.Reading.{AllFit, OneReading}
use Rattle.fl_wire.specs.Words.{interface_words_fit}
use Rattle.fl_machine.specs.Reassembling.{TheReassembly}
use Rattle.fl_endpoint.specs.declared.answer.ReceiveAnswer.{ReceiveAnswer}
use Rattle.fl_endpoint.specs.declared.fault.EndFault.{EndFault}
use Rattle.fl_endpoint.specs.View.{TheEnd, TheOutgoing, number_or_0, interface_in, plan_in, frags_from, nothing_to_send, has_rules, rule_at, holds_back, with_parts}
use Rattle.fl_endpoint.specs.Events.{AreCall, Receives}
use Rattle.fl_endpoint.specs.Lent.{IsOf, IsPlaceOf, receipt, ReceivesAt}
use Rattle.fl_endpoint.specs.Accounts.{IsLeft, Sound}
use Rattle.fl_endpoint.specs.Stored.{IsOwn, AreOwn}

-- ---- a fragment of a call is carried unchanged by every link, and only acknowledges never

body_of_call : (first : Bool) (msg circuit : ℕ) → msg < 2 ^ 16 → circuit < 2 ^ 16 → body (control_word first msg circuit) ≡ control_word first msg circuit
body_of_call true msg circuit m k = omega (arith, m, k)
body_of_call false msg circuit m k = omega (arith, m, k)

no_acknowledgement : (first : Bool) (msg circuit : ℕ) → (control_word first msg circuit / 2 % 2 ^ 47 == 2) ≡ false
no_acknowledgement true msg circuit = grind arith
no_acknowledgement false msg circuit = grind arith

data_with : (b c : Bool) → b ≡ false → (b && c) ≡ false
data_with b c e = ap (λ (x : Bool). x && c) e

own_frag : (msg circuit : ℕ) (bytes : List ℕ) (k : ℕ) → msg < 2 ^ 16 → circuit < 2 ^ 16 → IsOwn (frag_on circuit msg bytes k)
own_frag msg circuit bytes k m c =
    let f = frag_on circuit msg bytes k in
    record {
      bare_is = ap (λ (w : ℕ). record { words = f.words; control = w }) (body_of_call (k == 0) msg circuit m c);
      data_is = data_with _ (list_all (λ w. w == 0) f.words) (no_acknowledgement (k == 0) msg circuit);
    }

own_map : {A : Type 0} (f : A → Frag) (xs : List A) → ((x : A) → IsOwn (f x)) → AreOwn (map f xs)
own_map f [] h = tt
own_map f (x ∷ xs) h = (h x, own_map f xs h)

pub own_frags : (circuit : ℕ) (plan : PlanNo) (i : TheInterface) (c : TheCall) → c.msg < 2 ^ 16 → circuit < 2 ^ 16 → AreOwn (frags_on circuit plan i c)
own_frags circuit plan i c m k =
    let bytes = payload_of plan i c in
    own_map (frag_on circuit c.msg bytes) (range_with_len 0 (count plan i c)) (λ n. own_frag c.msg circuit bytes n m k)

-- ---- how many they are

pub length_frags : (circuit : ℕ) (plan : PlanNo) (i : TheInterface) (c : TheCall) → length (frags_on circuit plan i c) ≡ count plan i c
length_frags circuit plan i c =
    length-map (range_with_len 0 (count plan i c)) (frag_on circuit c.msg (payload_of plan i c)) ∙ length-range_with_len 0 (count plan i c)

-- each call has a fragment at least
pub some_frags : (s : TheEnd) (c : TheCall) → 0 < length (frags_from s c)
some_frags s c =
    let long : length (frags_from s c) ≡ count (plan_in s) (interface_in s) c = length_frags (number_or_0 s.circuit) (plan_in s) (interface_in s) c in
    omega (arith, long)

-- ---- nothing waits at an end that isn't busy

idle_left : (frags : TheCall → List Frag) (number : ℕ) (calls : List TheCall) (o : TheOutgoing) → IsLeft frags number calls o → o.unwritten ≡ [] → o ≡ nothing_to_send
idle_left frags number [] o left e = left
idle_left frags number (c ∷ waits) o left e =
    let long : length (drop number (frags c)) ≡ length (frags c) - number = length-drop number (frags c) in
    let none : length (drop number (frags c)) ≡ 0 = ap length (sym (ap (λ (x : TheOutgoing). x.unwritten) left.1) ∙ e) in
    let less = left.0 in
    absurd (omega (arith, long, none, less))

pub idle_end : (s : TheEnd) → Sound s → s.outgoing.unwritten ≡ [] → s.outgoing ≡ nothing_to_send
idle_end s sound e = idle_left (frags_from s) sound.sends.number sound.sends.calls s.outgoing sound.sends.left e

-- ---- there is room for a reply by rule

pub has_room : (s : TheEnd) (reply : ℕ) (msg : ℕ) → rule_at s.rules msg ≡ Some reply → holds_back s ≡ false → length s.outgoing.waiting ≤ 16 → length s.outgoing.waiting < 16
has_room s reply msg rule held few = ⊎_elim
    (λ (h : length s.outgoing.waiting < 16). h)
    (λ (h : 16 ≤ length s.outgoing.waiting).
    let full : (length s.outgoing.waiting == 16) ≡ true = same_is (length s.outgoing.waiting) 16 (omega (arith, h, few)) in
    let any : has_rules s.rules ≡ true = rule_any s.rules msg reply rule in
    let both : (has_rules s.rules && (length s.outgoing.waiting == 16)) ≡ true = ap (λ (b : Bool). b && (length s.outgoing.waiting == 16)) any ∙ full in
    absurd (false≢true (sym held ∙ both)))
    (cases_lt (length s.outgoing.waiting) 16)
  where
    same_is : (m n : ℕ) → m ≡ n → (m == n) ≡ true
    same_is m n e = grind (arith, e)

    rule_any : (rules : List (Option ℕ)) (msg reply : ℕ) → rule_at rules msg ≡ Some reply → has_rules rules ≡ true
    rule_any [] msg reply e = absurd cc
    rule_any (Some x ∷ rules) zero reply e = refl
    rule_any (None ∷ rules) zero reply e = absurd cc
    rule_any (Some x ∷ rules) (suc msg) reply e = refl
    rule_any (None ∷ rules) (suc msg) reply e = rule_any rules msg reply e

-- ---- the place of an end

-- an element that replaces itself changes nothing
pub set_same : {X : Type 0} (xs : List X) (i : ℕ) (x : X) → slice_get xs i ≡ Some x → slice_set xs i x ≡ xs
set_same [] i x e = refl
set_same (z ∷ xs) zero x e = let same : z ≡ x = cc in ap (λ y. y ∷ xs) (sym same)
set_same (z ∷ xs) (suc i) x e = ap (λ ys. z ∷ ys) (set_same xs i x e)

pub standing : (s : TheEnd) (o : Option TheReassembly) → IsSomeAnd o (λ x. IsOf s x) → (r : TheReassembly) × (o ≡ Some r) × IsOf s r
standing s None h = absurd h
standing s (Some r) h = (r, refl, h)

-- a receive that changes nothing of an end, nor of its place
pub receives_kept : {T : Type 0} (takes : T → Look → T → Type 0) (s : TheEnd) (p q : T) (answer : Result ReceiveAnswer EndFault) (calls : List TheReassembly) (place : ℕ) → IsPlaceOf s calls place
    → ((parts : List Frag) → Receives takes (with_parts s parts) p answer (with_parts s parts) q) → ReceivesAt takes (receipt s p answer s q) calls place calls
receives_kept takes s p q answer calls place known h =
    let (r, there, of) = standing s (slice_get calls place) known in
    record { was = r; was_there = there; is = r; event = record { of = of; program = refl; receives = h r.parts }; after_is = sym (set_same calls place r there) }

-- ---- a call that is whole

-- fragments that mean a call mean no other
pub are_call : (s : TheEnd) (f : Frag) (c : TheCall) → OneReading → interface_words_fit (interface_in s) ≡ true → map bare s.parts ≡ s.parts → bare f ≡ f → fits_of (interface_in s) c ≡ true
    → map bare (s.parts ++ f ∷ []) ≡ frags_of (plan_in s) (interface_in s) c → AreCall s (s.parts ++ f ∷ []) c
are_call s f c law words are_bare is fits means =
    let bare_more = map-append bare s.parts (f ∷ []) ∙ ap (λ (xs : List Frag). xs ++ bare f ∷ []) are_bare ∙ ap (λ (x : Frag). s.parts ++ x ∷ []) is in
    let mean : s.parts ++ f ∷ [] ≡ frags_of (plan_in s) (interface_in s) c = sym bare_more ∙ means in
    let one : (d : TheCall) → fits_of (interface_in s) d ≡ true → AllFit (interface_in s) (d ∷ [])
    = λ d h. All-cons (λ (x : TheCall). fits_of (interface_in s) x ≡ true) d [] h (All-nil (λ (x : TheCall). fits_of (interface_in s) x ≡ true)) in
    record {
      fits = fits;
      mean = mean;
      only = λ d fit e.
          let same = law (plan_in s) (interface_in s) (d ∷ []) (c ∷ []) [] [] words (one d fit) (one c fits) (inl refl) (inl refl)
          (ap (λ (xs : List Frag). (xs ++ []) ++ []) (sym e ∙ mean)) in
          first_same d c same.0;
    }
  where
    first_same : (d c : TheCall) → ◌≡◌ {A = List TheCall} (d ∷ []) (c ∷ []) → d ≡ c
    first_same d c e = cc
