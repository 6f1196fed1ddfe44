-- The fragments that hold some bytes: the first, and the others.
use Rattle.std.proofs.Common.{◌≡◌, ℕ, zero, suc, ◌+◌, ◌-◌, ◌*◌, ◌<◌, ◌≤◌, Bool, true, false, ◌&&◌, ◌⊎◌, inl, inr, List, [], ◌∷◌, ◌++◌, map, length, drop, get_or, slice_index, refl, sym, ◌∙◌, ap, subst, arith, lit≤, lit<, Some}
use Rattle.std.specs.Prelude.{slice_get, ◌==◌}
use Rattle.std.specs.List.{range_with_len}
use Rattle.std.specs.Int.{from_le_bytes, w64}
use Rattle.std.proofs.lemmas.List.{get_or-drop, length-drop, append-nil}
use Rattle.std.proofs.lemmas.Bool.{ne_eqb, eqb-false}
use Rattle.fl_stub.specs.declared.op.Op.{Op}
use Rattle.fl_stub.specs.Meaning.{number_bytes}
use Rattle.fl_stub.specs.Locations.{TheEndLocation, IsPlace, IsLocation, bytes_from, location_given}
use Rattle.fl_stub.specs.declared.op.Column.{Column}
use Rattle.fl_stub.specs.declared.op.Column.TheVariants.{Send}
use Rattle.fl_stub.specs.Structure.{IsCode}
use Rattle.fl_stub.specs.Frames.{block_of}
use Rattle.fl_stub.specs.Given.{bytes_given}
use Rattle.fl_stub.proofs.Steps.{first_place}
use Rattle.fl_machine.specs.declared.cursor.SendCursor.{SendCursor}
use Rattle.fl_machine.specs.Cursors.{location_of}
use Rattle.fl_base.specs.declared.fragment.Frag.{Frag}
use Rattle.fl_base.specs.Control.{control_word}
use Rattle.fl_wire.specs.Payload.{word}
use Rattle.fl_machine.specs.Sending.{frag_of, frags_for, frags_holding}

-- two ranges, one so much further on
shifted : {A : Type 0} → (f g : ℕ → A) (s t d n : ℕ) → s ≡ t + d → ((i : ℕ) → f (i + d) ≡ g i) → map f (range_with_len s n) ≡ map g (range_with_len t n)
shifted f g s t d zero e same = refl
shifted f g s t d (suc n) e same =
    ap (λ x. x ∷ map f (range_with_len (s + 1) n)) (ap f e ∙ same t)
    ∙ ap (λ xs. g t ∷ xs) (shifted f g (s + 1) (t + 1) d n (omega (arith, e)) same)

-- the same on a range
pub same_on : {A : Type 0} → (f g : ℕ → A) (s n end : ℕ) → s + n ≤ end → ((i : ℕ) → i < end → f i ≡ g i) → map f (range_with_len s n) ≡ map g (range_with_len s n)
same_on f g s zero end h same = refl
same_on f g s (suc n) end h same =
    ap (λ x. x ∷ map f (range_with_len (s + 1) n)) (same s (omega (arith, h)))
    ∙ ap (λ xs. g s ∷ xs) (same_on f g (s + 1) n end (omega (arith, h)) same)

pub same_word : (buffer bytes : List ℕ) → ((i : ℕ) → i < 56 → slice_index buffer i ≡ slice_index bytes i) → (k : ℕ) → k < 7 → word buffer k ≡ word bytes k
same_word buffer bytes same k h = ap (from_le_bytes w64) (same_on (slice_index buffer) (slice_index bytes) (8 * k) 8 56 (omega (arith, h)) same)

-- the words of the bytes after the first 56
later_word : (bytes : List ℕ) (k : ℕ) → word bytes (k + 7) ≡ word (drop 56 bytes) k
later_word bytes k =
    ap (from_le_bytes w64)
    (shifted (slice_index bytes) (slice_index (drop 56 bytes)) (8 * (k + 7)) (8 * k) 56 8 (omega arith) (λ i. ap (λ j. get_or bytes j 0) (omega arith) ∙ sym (get_or-drop 56 bytes i 0)))

no_first : (begins : Bool) (k : ℕ) → (begins && (k + 1 == 0)) ≡ false
no_first true k = ne_eqb (k + 1) 0 (omega arith)
no_first false k = refl

later_frag : (begins : Bool) (msg circuit : ℕ) (bytes : List ℕ) (k : ℕ) → frag_of begins msg circuit bytes (k + 1) ≡ frag_of false msg circuit (drop 56 bytes) k
later_frag begins msg circuit bytes k =
    let words : map (word bytes) (range_with_len (7 * (k + 1)) 7) ≡ map (word (drop 56 bytes)) (range_with_len (7 * k) 7)
    = shifted (word bytes) (word (drop 56 bytes)) (7 * (k + 1)) (7 * k) 7 7 (omega arith) (later_word bytes) in
    let first = no_first begins k in
    λ i. record { words = words i; control = control_word (first i) msg circuit }

first_of_frag : (begins : Bool) (msg circuit : ℕ) (bytes : List ℕ) → frag_of begins msg circuit bytes 0 ≡ record { words = map (word bytes) (range_with_len 0 7); control = control_word begins msg circuit }
first_of_frag true msg circuit bytes = refl
first_of_frag false msg circuit bytes = refl

-- the fragments are the first and those of the bytes after it, unless there is none
pub next_frag : (begins : Bool) (msg circuit : ℕ) (bytes : List ℕ) → (begins ≡ true) ⊎ (0 < length bytes)
    → frags_holding begins msg circuit bytes
    ≡ (record { words = map (word bytes) (range_with_len 0 7); control = control_word begins msg circuit }) ∷ frags_holding false msg circuit (drop 56 bytes)
next_frag begins msg circuit bytes some =
    let rest = frags_for false (length (drop 56 bytes)) in
    let long : length (drop 56 bytes) ≡ length bytes - 56 = length-drop 56 bytes in
    ap (λ n. map (frag_of begins msg circuit bytes) (range_with_len 0 n)) (one_more begins (length bytes) (length (drop 56 bytes)) long some)
    ∙ ap (λ f. f ∷ map (frag_of begins msg circuit bytes) (range_with_len 1 rest)) (first_of_frag begins msg circuit bytes)
    ∙ ap (λ fs. (record { words = map (word bytes) (range_with_len 0 7); control = control_word begins msg circuit }) ∷ fs)
    (shifted (frag_of begins msg circuit bytes) (frag_of false msg circuit (drop 56 bytes)) 1 0 1 rest (omega arith) (later_frag begins msg circuit bytes))
  where
    one_more : (begins : Bool) (n left : ℕ) → left ≡ n - 56 → (begins ≡ true) ⊎ (0 < n) → frags_for begins n ≡ suc (frags_for false left)
    one_more true n left e some = omega (arith, e)
    one_more false n left e (inl no_way) = absurd (cc)
    one_more false n left e (inr more) = omega (arith, e, more)

pub no_frags : (msg circuit : ℕ) (bytes : List ℕ) → bytes ≡ [] → frags_holding false msg circuit bytes ≡ []
no_frags msg circuit bytes e = ap (λ (x : List ℕ). frags_holding false msg circuit x) e

-- eight places one by one
pub eight : (f : ℕ → ℕ) (s : ℕ)
    → map f (range_with_len s 8) ≡ f s ∷ f (s + 1) ∷ f (s + 2) ∷ f (s + 3) ∷ f (s + 4) ∷ f (s + 5) ∷ f (s + 6) ∷ f (s + 7) ∷ []
eight f s =
    let e2 : s + 1 + 1 ≡ s + 2 = omega arith in
    let e3 : s + 1 + 1 + 1 ≡ s + 3 = omega arith in
    let e4 : s + 1 + 1 + 1 + 1 ≡ s + 4 = omega arith in
    let e5 : s + 1 + 1 + 1 + 1 + 1 ≡ s + 5 = omega arith in
    let e6 : s + 1 + 1 + 1 + 1 + 1 + 1 ≡ s + 6 = omega arith in
    let e7 : s + 1 + 1 + 1 + 1 + 1 + 1 + 1 ≡ s + 7 = omega arith in
    λ i. f s ∷ f (s + 1) ∷ f (e2 i) ∷ f (e3 i) ∷ f (e4 i) ∷ f (e5 i) ∷ f (e6 i) ∷ f (e7 i) ∷ []

-- a fragment made of a buffer that holds the first bytes is the next
pub head_frag : (buffer bytes : List ℕ) (begins : Bool) (msg circuit : ℕ) → ((i : ℕ) → i < 56 → slice_index buffer i ≡ slice_index bytes i) → (begins ≡ true) ⊎ (0 < length bytes)
    → Some (let f : Frag = record { words = map (word buffer) (range_with_len 0 7); control = control_word begins msg circuit } in f) ≡ slice_get (frags_holding begins msg circuit bytes) 0
head_frag buffer bytes begins msg circuit same some =
    let words : map (word buffer) (range_with_len 0 7) ≡ map (word bytes) (range_with_len 0 7) = same_on (word buffer) (word bytes) 0 7 7 (lit≤ tt) (same_word buffer bytes same) in
    ap (λ (ws : List ℕ). Some (let f : Frag = record { words = ws; control = control_word begins msg circuit } in f)) words
    ∙ ap (λ (fs : List Frag). slice_get fs 0) (sym (next_frag begins msg circuit bytes some))

pub tail_frags : (bytes left : List ℕ) (begins : Bool) (msg circuit : ℕ) → left ≡ drop 56 bytes → (begins ≡ true) ⊎ (0 < length bytes) → frags_holding false msg circuit left ≡ drop 1 (frags_holding begins msg circuit bytes)
tail_frags bytes left begins msg circuit e some =
    ap (λ (x : List ℕ). frags_holding false msg circuit x) e ∙ ap (λ (fs : List Frag). drop 1 fs) (sym (next_frag begins msg circuit bytes some))

-- with bytes of a number to be given, there are bytes
pub busy : (ops : List Op) (s : TheEndLocation) → (s.width == 0) ≡ false → 0 < length (bytes_from ops s)
busy ops s e =
    let more : s.width ≡ suc (s.width - 1) = omega (arith, eqb-false s.width 0 e) in
    let long : length (bytes_from ops s) ≡ length (number_bytes (suc (s.width - 1)) s.value ++ (location_given ops s).bytes)
    = ap (λ (w : ℕ). length (number_bytes w s.value ++ (location_given ops s).bytes)) more in
    omega (arith, long)

-- a run's cursor gives the first of the fragments, and leaves the others

pub sent : (ops lent : List Op) (tape lent_tape : List ℕ) (cursor : SendCursor) (begins : Bool) (msg circuit : ℕ) (buffer : List ℕ) (frag : Frag) → lent ≡ ops → lent_tape ≡ tape
    → ((i : ℕ) → i < 56 → slice_index buffer i ≡ slice_index (bytes_from lent (location_of lent_tape cursor)) i)
    → frag ≡ record { words = map (word buffer) (range_with_len 0 7); control = control_word begins msg circuit }
    → (begins ≡ true) ⊎ (0 < length (bytes_from ops (location_of tape cursor)))
    → Some frag ≡ slice_get (frags_holding begins msg circuit (bytes_from ops (location_of tape cursor))) 0
sent ops lent tape lent_tape cursor begins msg circuit buffer frag e f same is some =
    let bytes : bytes_from lent (location_of lent_tape cursor) ≡ bytes_from ops (location_of tape cursor)
    = ap (λ (x : List Op). bytes_from x (location_of lent_tape cursor)) e ∙ ap (λ (x : List ℕ). bytes_from ops (location_of x cursor)) f in
    ap Some is
    ∙ head_frag buffer (bytes_from ops (location_of tape cursor)) begins msg circuit (λ i small. same i small ∙ ap (λ (x : List ℕ). slice_index x i) bytes) some

pub sent_rest : (ops lent : List Op) (tape lent_tape : List ℕ) (old new : SendCursor) (begins : Bool) (msg circuit : ℕ) → lent ≡ ops → lent_tape ≡ tape
    → bytes_from lent (location_of lent_tape new) ≡ drop 56 (bytes_from lent (location_of lent_tape old))
    → (begins ≡ true) ⊎ (0 < length (bytes_from ops (location_of tape old)))
    → frags_holding false msg circuit (bytes_from ops (location_of tape new)) ≡ drop 1 (frags_holding begins msg circuit (bytes_from ops (location_of tape old)))
sent_rest ops lent tape lent_tape old new begins msg circuit e f rest some =
    let same : (c : SendCursor) → bytes_from lent (location_of lent_tape c) ≡ bytes_from ops (location_of tape c)
    = λ c. ap (λ (x : List Op). bytes_from x (location_of lent_tape c)) e ∙ ap (λ (x : List ℕ). bytes_from ops (location_of x c)) f in
    tail_frags (bytes_from ops (location_of tape old)) (bytes_from ops (location_of tape new)) begins msg circuit (sym (same new) ∙ rest ∙ ap (drop 56) (same old)) some

-- at the first instruction

abbrev pub first_location : List ℕ → TheEndLocation
first_location tape = record { place = 0; loops = []; tape = tape; at = 0; value = 0; width = 0 }

pub first_is_location : (column : Column) (ops lent : List Op) (tape : List ℕ) (c : SendCursor) → column ≡ Send → lent ≡ ops → IsCode column ops (block_of ops) → location_of tape c ≡ first_location tape → IsLocation lent (location_of tape c)
first_is_location column ops lent tape c sends e code is =
    let here : IsPlace lent 0 0 = subst (λ (x : List Op). IsPlace x 0 0) (sym e) (first_place ops (block_of ops) (subst (λ (k : Column). IsCode k ops (block_of ops)) sends code)) in
    let location : IsLocation lent (first_location tape) = record { depth = lit≤ tt; place = here; loops = tt; width = lit≤ tt; value = lit< tt } in
    subst (λ (s : TheEndLocation). IsLocation lent s) (sym is) location

pub starts : (ops lent : List Op) (tape lent_tape : List ℕ) (first after : SendCursor) (msg circuit : ℕ) → lent ≡ ops → lent_tape ≡ tape → location_of tape first ≡ first_location tape
    → bytes_from lent (location_of lent_tape first) ≡ bytes_from lent (location_of lent_tape after)
    → frags_holding true msg circuit (bytes_from ops (location_of tape after)) ≡ frags_holding true msg circuit (bytes_given (block_of ops) tape)
starts ops lent tape lent_tape first after msg circuit e f is same =
    let lends : (c : SendCursor) → bytes_from lent (location_of lent_tape c) ≡ bytes_from ops (location_of tape c)
    = λ c. ap (λ (x : List Op). bytes_from x (location_of lent_tape c)) e ∙ ap (λ (x : List ℕ). bytes_from ops (location_of x c)) f in
    let whole : bytes_from ops (location_of tape first) ≡ bytes_given (block_of ops) tape
    = ap (bytes_from ops) is ∙ append-nil (bytes_given (block_of ops) tape) in
    ap (frags_holding true msg circuit) (sym (lends after) ∙ sym same ∙ lends first ∙ whole)
