-- Fragments from their control words and bytes.
use Rattle.std.proofs.Common.{◌≡◌, ℕ, zero, suc, ◌+◌, ◌*◌, ◌/◌, ◌%◌, ◌^◌, ◌<◌, ◌≤◌, Bool, true, false, List, [], map, length, take, get_or, Some, None, refl, sym, ◌∙◌, ap, subst, arith, eqb, ltb, cond, ◌&&◌, eq-eqb}
use Rattle.std.specs.Prelude.{slice_get, slice_index, Option, not}
use Rattle.std.specs.List.{range_with_len}
use Rattle.std.specs.Int.{byte_at, to_le_bytes, from_le_bytes, w64}
use Rattle.std.specs.Cmp.{first_so, second_so}
use Rattle.std.proofs.lemmas.Nat.{from_le_bytes-to_le_bytes_8}
use Rattle.std.proofs.lemmas.List.{ext_get_or, length-map, length-take-le, get_or-map, get_or-take}
use Rattle.std.proofs.lemmas.List.FromFn.{length-map-range_with_len, get_or-map-range_with_len}
use Rattle.std.proofs.lemmas.Option.{slice_get-get_or}
use Rattle.std.proofs.lemmas.Bool.{eqb-true, ltb-true, lt-ltb, ne_eqb, false≢true}
use Rattle.fl_base.specs.declared.fragment.Frag.{Frag}
use Rattle.fl_base.specs.Control.{first_of, acknowledges_of, reserved_of, message_of, circuit_of, control_word, bare}
use Rattle.fl_interface.specs.Interface.{TheInterface}
use Rattle.fl_value_data.specs.Value.{TheCall}
use Rattle.fl_value_data.specs.declared.value.PlanNo.{PlanNo}
use Rattle.fl_layout.specs.Leaves.{leaves}
use Rattle.fl_layout.specs.Places.{count}
use Rattle.fl_wire.specs.Payload.{payload_of, word, frag_on, frags_of}
use Rattle.fl_wire.specs.Standing.{byte_in, words_in}
use Rattle.fl_wire.specs.Shapes.{Agrees}
use Rattle.fl_wire.specs.Wrong.{is_clean, start_fault, follow_fault}
use Rattle.fl_wire.specs.Headers.{Line, Group}
use Rattle.fl_wire.specs.declared.fault.WireFault.{WireFault}
use Rattle.fl_wire.specs.declared.fault.WireFault.TheVariants.{NotFirst, FirstInside, UnknownMessage, NotZero}
use Rattle.fl_wire.proofs.Readings.{window_of, window_at, byte_of_payload, length_frags, frag_at}
use Rattle.fl_wire.proofs.Decoding.{byte_of_list}

-- ---- control words

pub first_control : (w msg : ℕ) → w / 4 % 2 ^ 14 ≡ 0 → w / 2 ^ 32 % 65536 ≡ 0 → w / 2 % 2 ≡ 1 → w / 65536 % 65536 ≡ msg → 2 * (w / 2 % 2 ^ 47) ≡ 2 + 65536 * msg + 2 ^ 32 * 0
first_control w msg clean circuit first is = omega (arith, clean, circuit, first, is)

pub later_control : (w msg : ℕ) → w / 4 % 2 ^ 14 ≡ 0 → w / 2 ^ 32 % 65536 ≡ 0 → w / 2 % 2 ≡ 0 → w / 65536 % 65536 ≡ msg → 2 * (w / 2 % 2 ^ 47) ≡ 0 + 65536 * msg + 2 ^ 32 * 0
later_control w msg clean circuit first is = omega (arith, clean, circuit, first, is)

pub first_told : (w msg : ℕ) → msg < 2 ^ 16 → 2 * (w / 2 % 2 ^ 47) ≡ 2 + 65536 * msg + 2 ^ 32 * 0 → (w / 4 % 2 ^ 14 ≡ 0) × ((w / 2 ^ 32 % 65536 ≡ 0) × ((w / 2 % 2 ≡ 1) × (w / 65536 % 65536 ≡ msg)))
first_told w msg small e = (omega (arith, small, e), (omega (arith, small, e), (omega (arith, small, e), omega (arith, small, e))))

pub later_told : (w msg : ℕ) → msg < 2 ^ 16 → 2 * (w / 2 % 2 ^ 47) ≡ 0 + 65536 * msg + 2 ^ 32 * 0 → (w / 4 % 2 ^ 14 ≡ 0) × ((w / 2 ^ 32 % 65536 ≡ 0) × ((w / 2 % 2 ≡ 0) × (w / 65536 % 65536 ≡ msg)))
later_told w msg small e = (omega (arith, small, e), (omega (arith, small, e), (omega (arith, small, e), omega (arith, small, e))))

-- what the test of a control word comes to
abbrev pub start_by : Bool → Bool → Bool → Option WireFault
start_by clean first known = cond (not clean) (Some NotZero) (cond (not first) (Some NotFirst) (cond known None (Some UnknownMessage)))

abbrev pub follow_by : Bool → Bool → Bool → Option WireFault
follow_by clean first same = cond (not clean) (Some NotZero) (cond first (Some FirstInside) (cond same None (Some UnknownMessage)))

some_none : {A : Type 0} (x : A) → Some x ≡ None → ⊥
some_none x e = cc

start_by_none : (clean first known : Bool) → start_by clean first known ≡ None → (clean ≡ true) × ((first ≡ true) × (known ≡ true))
start_by_none true true true e = (refl, (refl, refl))
start_by_none true true false e = absurd (some_none UnknownMessage e)
start_by_none true false known e = absurd (some_none NotFirst e)
start_by_none false first known e = absurd (some_none NotZero e)

follow_by_none : (clean first same : Bool) → follow_by clean first same ≡ None → (clean ≡ true) × ((first ≡ false) × (same ≡ true))
follow_by_none true false true e = (refl, (refl, refl))
follow_by_none true false false e = absurd (some_none UnknownMessage e)
follow_by_none true true same e = absurd (some_none FirstInside e)
follow_by_none false first same e = absurd (some_none NotZero e)

not_one : (n : ℕ) → n < 2 → eqb n 1 ≡ false → n ≡ 0
not_one zero small e = refl
not_one (suc zero) small e = absurd (false≢true (sym e))
not_one (suc (suc n)) small e = absurd (omega (arith, small))

zero_one : (n : ℕ) → n ≡ 0 → eqb n 1 ≡ false
zero_one n e = ap (λ (m : ℕ). eqb m 1) e

not_true : (b : Bool) → not b ≡ true → b ≡ false
not_true true h = absurd (false≢true h)
not_true false h = refl

-- bit 2 and the reserved bits are 0
no_bits : (w : ℕ) → eqb (w / 4 % 2) 1 ≡ false → w / 8 % 8192 ≡ 0 → w / 4 % 2 ^ 14 ≡ 0
no_bits w bit rest = let none = not_one (w / 4 % 2) (omega arith) bit in omega (arith, none, rest)

some_bits : (w : ℕ) → w / 4 % 2 ^ 14 ≡ 0 → (w / 4 % 2 ≡ 0) × (w / 8 % 8192 ≡ 0)
some_bits w none = (omega (arith, none), omega (arith, none))

clean_told : (f : Frag) → is_clean f ≡ true → (f.control / 4 % 2 ^ 14 ≡ 0) × (f.control / 2 ^ 32 % 65536 ≡ 0)
clean_told f h =
    let bits = first_so (not (acknowledges_of f.control) && eqb (reserved_of f.control) 0) (eqb (circuit_of f.control) 0) h in
    let bit = first_so (not (acknowledges_of f.control)) (eqb (reserved_of f.control) 0) bits in
    let rest = second_so (not (acknowledges_of f.control)) (eqb (reserved_of f.control) 0) bits in (
      no_bits f.control (not_true (acknowledges_of f.control) bit) (eqb-true (reserved_of f.control) 0 rest),
      eqb-true (circuit_of f.control) 0 (second_so (not (acknowledges_of f.control) && eqb (reserved_of f.control) 0) (eqb (circuit_of f.control) 0) h),
    )

clean_from : (f : Frag) → f.control / 4 % 2 ^ 14 ≡ 0 → f.control / 2 ^ 32 % 65536 ≡ 0 → is_clean f ≡ true
clean_from f a b =
    let (bit, rest) = some_bits f.control a in
    rw (zero_one (f.control / 4 % 2) bit, eq-eqb (f.control / 8 % 8192) 0 rest, eq-eqb (circuit_of f.control) 0 b) refl

-- a first fragment's control word
pub start_control : (i : TheInterface) (f : Frag) → start_fault i f ≡ None → 2 * (f.control / 2 % 2 ^ 47) ≡ control_word true (message_of f.control) 0
start_control i f h =
    let (clean, (first, known)) = start_by_none (is_clean f) (first_of f.control) (ltb (message_of f.control) (length i.messages)) h in
    let (reserved, circuit) = clean_told f clean in
    first_control f.control (message_of f.control) reserved circuit (eqb-true (f.control / 2 % 2) 1 first) refl

pub start_known : (i : TheInterface) (f : Frag) → start_fault i f ≡ None → message_of f.control < length i.messages
start_known i f h =
    let (clean, (first, known)) = start_by_none (is_clean f) (first_of f.control) (ltb (message_of f.control) (length i.messages)) h in
    ltb-true (message_of f.control) (length i.messages) known

-- a later one's
pub follow_control : (msg : ℕ) (f : Frag) → follow_fault msg f ≡ None → 2 * (f.control / 2 % 2 ^ 47) ≡ control_word false msg 0
follow_control msg f h =
    let (clean, (first, same)) = follow_by_none (is_clean f) (first_of f.control) (eqb (message_of f.control) msg) h in
    let (reserved, circuit) = clean_told f clean in
    later_control f.control msg reserved circuit (not_one (f.control / 2 % 2) (omega arith) first) (eqb-true (message_of f.control) msg same)

pub follow_message : (msg : ℕ) (f : Frag) → follow_fault msg f ≡ None → message_of f.control ≡ msg
follow_message msg f h =
    let (clean, (first, same)) = follow_by_none (is_clean f) (first_of f.control) (eqb (message_of f.control) msg) h in
    eqb-true (message_of f.control) msg same

-- from its control word, a first fragment has no fault, nor has a later one
pub starts_well : (i : TheInterface) (f : Frag) (msg : ℕ) → msg < 2 ^ 16 → msg < length i.messages → 2 * (f.control / 2 % 2 ^ 47) ≡ control_word true msg 0
    → (start_fault i f ≡ None) × (message_of f.control ≡ msg)
starts_well i f msg small known e =
    let (reserved, (circuit, (first, is))) = first_told f.control msg small e in
    (rw (clean_from f reserved circuit, eq-eqb (f.control / 2 % 2) 1 first, lt-ltb (message_of f.control) (length i.messages) (subst (λ (n : ℕ). n < length i.messages) (sym is) known)) refl, is)

pub follows_well : (f : Frag) (msg : ℕ) → msg < 2 ^ 16 → 2 * (f.control / 2 % 2 ^ 47) ≡ control_word false msg 0 → (follow_fault msg f ≡ None) × (message_of f.control ≡ msg)
follows_well f msg small e =
    let (reserved, (circuit, (first, is))) = later_told f.control msg small e in
    (rw (clean_from f reserved circuit, zero_one (f.control / 2 % 2) first, eq-eqb (message_of f.control) msg is) refl, is)

-- ---- words from their bytes

line_word : (f : Frag) → Line f → (xs : List ℕ) (m j : ℕ) → j < 7 → ((r : ℕ) → r < 8 → byte_at r (get_or f.words j 0) ≡ slice_index xs (8 * m + r)) → get_or f.words j 0 ≡ word xs m
line_word f line xs m j small bytes =
    let w = get_or f.words j 0 in
    let fits : w < 2 ^ 64 = line.small j 0 (omega (arith, small, line.seven)) in
    let same : to_le_bytes w64 w ≡ window_of xs m
    = ext_get_or 0 (to_le_bytes w64 w) (window_of xs m) refl (λ r h. let own : r < 8 = h in byte_of_list r w own ∙ bytes r own ∙ sym (window_at xs m r own)) in
    sym (from_le_bytes-to_le_bytes_8 w fits) ∙ ap (from_le_bytes w64) same

frame_words : (f : Frag) → Line f → (bytes : List ℕ) (k : ℕ) → ((j r : ℕ) → j < 7 → r < 8 → byte_at r (get_or f.words j 0) ≡ slice_index bytes (56 * k + 8 * j + r))
    → f.words ≡ map (word bytes) (range_with_len (7 * k) 7)
frame_words f line bytes k same =
    ext_get_or 0 f.words (map (word bytes) (range_with_len (7 * k) 7)) (line.seven ∙ sym (length-map-range_with_len (word bytes) (7 * k) 7)) (λ j h.
    let small : j < 7 = omega (arith, h, line.seven) in
    line_word f line bytes (7 * k + j) j small (λ r own. same j r small own ∙ ap (slice_index bytes) (omega arith))
    ∙ sym (get_or-map-range_with_len (word bytes) (7 * k) 7 j (7 * k + j) 0 small refl))

-- a byte of a fragment
frame_byte : (frags : List Frag) (k j r : ℕ) (f : Frag) → slice_get frags k ≡ Some f → j < 7 → r < 8 → byte_in frags (56 * k + 8 * j + r) ≡ byte_at r (get_or f.words j 0)
frame_byte frags k j r f is small own =
    let p = 56 * k + 8 * j + r in
    let at_frag : p / 56 ≡ k = omega (arith, small, own) in
    let at_word : p / 8 % 7 ≡ j = omega (arith, small, own) in
    let at_byte : p % 8 ≡ r = omega (arith, small, own) in
    ap (λ (n : ℕ). byte_at (p % 8) (slice_index (words_in (slice_get frags n)) (p / 8 % 7))) at_frag
    ∙ ap (λ (o : Option Frag). byte_at (p % 8) (slice_index (words_in o) (p / 8 % 7))) is
    ∙ ap (λ (n : ℕ). byte_at (p % 8) (slice_index f.words n)) at_word ∙ ap (λ (n : ℕ). byte_at n (slice_index f.words j)) at_byte

abbrev make_frag : List ℕ → ℕ → Frag
make_frag words control = record { words = words; control = control }

same_frag : (f g : Frag) → f.words ≡ g.words → f.control ≡ g.control → f ≡ g
same_frag f g e h = ap (λ (ws : List ℕ). make_frag ws f.control) e ∙ ap (make_frag g.words) h

-- a fragment whose bytes are a call's and whose control word is its fragment's
pub frame_is : (plan : PlanNo) (i : TheInterface) (c : TheCall) (frags : List Frag) (n k : ℕ) (f : Frag) → slice_get frags k ≡ Some f → Line f → k < n → Agrees frags (leaves plan i c) (56 * n)
    → 2 * (f.control / 2 % 2 ^ 47) ≡ control_word (eqb k 0) c.msg 0 → bare f ≡ frag_on 0 c.msg (payload_of plan i c) k
frame_is plan i c frags n k f is line small agree control =
    same_frag (bare f) (frag_on 0 c.msg (payload_of plan i c) k)
    (frame_words f line (payload_of plan i c) k (λ j r own_j own_r.
    sym (frame_byte frags k j r f is own_j own_r) ∙ agree.at (56 * k + 8 * j + r) (omega (arith, small, own_j, own_r)) ∙ sym (byte_of_payload (leaves plan i c) (56 * k + 8 * j + r))))
    control

-- ---- the first fragments of a group, where their bytes are a call's

pub group_control : (i : TheInterface) (msg : ℕ) (frags : List Frag) (k : ℕ) (f : Frag) → Group i msg frags → slice_get frags k ≡ Some f → 2 * (f.control / 2 % 2 ^ 47) ≡ control_word (eqb k 0) msg 0
group_control i msg frags zero f group is =
    start_control i f (group.starts f is) ∙ ap (λ (m : ℕ). control_word true m 0) (group.names f is)
group_control i msg frags (suc k) f group is =
    follow_control msg f (group.follow (suc k) f (omega arith) is) ∙ ap (λ (v : Bool). control_word v msg 0) (sym (ne_eqb (suc k) 0 (λ e. absurd (omega (arith, e)))))

blank : Frag
blank = record { words = []; control = 0 }

pub group_prefix : (plan : PlanNo) (i : TheInterface) (c : TheCall) (frags : List Frag) (n : ℕ) → Group i c.msg frags → n ≤ length frags → n ≤ count plan i c → Agrees frags (leaves plan i c) (56 * n)
    → map bare (take n frags) ≡ take n (frags_of plan i c)
group_prefix plan i c frags n group within few agree =
    let long : length (map bare (take n frags)) ≡ n = length-map (take n frags) bare ∙ length-take-le n frags within in
    let also : length (take n (frags_of plan i c)) ≡ n = length-take-le n (frags_of plan i c) (omega (arith, few, length_frags plan i c)) in
    ext_get_or blank (map bare (take n frags)) (take n (frags_of plan i c)) (long ∙ sym also) (λ k h.
    let small : k < n = omega (arith, h, long) in
    let inside : k < length frags = omega (arith, small, within) in
    let f = get_or frags k blank in
    let is : slice_get frags k ≡ Some f = slice_get-get_or frags k blank inside in
    get_or-map bare (take n frags) k blank blank (omega (arith, small, length-take-le n frags within))
    ∙ ap bare (get_or-take n frags k blank small)
    ∙ frame_is plan i c frags n k f is (group.lines k f is) small agree (group_control i c.msg frags k f group is)
    ∙ sym (get_or-take n (frags_of plan i c) k blank small ∙ frag_at plan i c k blank (omega (arith, small, few))))
