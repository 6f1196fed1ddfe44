-- The bytes of a call's fragments are its payload and zeros.
use Rattle.std.proofs.Common.{◌≡◌, ℕ, zero, suc, ◌+◌, ◌-◌, ◌*◌, ◌%◌, ◌<◌, ◌≤◌, true, List, [], ◌∷◌, ◌++◌, length, map, take, get_or, refl, sym, ◌∙◌, ap, subst, arith, append_assoc}
use Rattle.std.specs.Prelude.{Option, Some, None, slice_get, slice_index}
use Rattle.std.specs.List.{range_with_len, flat_map}
use Rattle.std.specs.Int.{to_le_bytes, w64}
use Rattle.std.proofs.lemmas.Bool.{false≢true}
use Rattle.std.proofs.lemmas.Nat.{le_bytes_8}
use Rattle.std.proofs.lemmas.List.{append-nil, take_more}
use Rattle.std.proofs.lemmas.List.Concat.{flat_map-append}
use Rattle.std.proofs.lemmas.List.FromFn.{length-map-range_with_len, fill_by_all}
use Rattle.fl_base.specs.declared.fragment.Frag.{Frag}
use Rattle.fl_interface.specs.Interface.{TheMessage}
use Rattle.fl_interface.specs.Limits.{is_within_limits}
use Rattle.fl_value_data.specs.Value.{TheCall}
use Rattle.fl_value_data.specs.Fits.{fits_of, fit_message}
use Rattle.fl_layout.specs.Leaves.{leaves}
use Rattle.fl_layout.specs.Places.{size, count_for, count}
use Rattle.fl_layout.proofs.BothPlans.{length_small}
use Rattle.fl_wire.specs.Payload.{payload_of, word, frag_on}
use Rattle.fl_wire.proofs.Bytes.{length_payload}
use Rattle.fl_wire.proofs.Readings.{window_small, all_small, length_frags}
use Rattle.fl_compile.specs.Programs.{TheProgram}
use Rattle.fl_compile_tape.specs.TapeLaws.{HasPayload}
use Rattle.fl_compile_tape.specs.Frags.{frag_bytes, HasFrags}

-- so many bytes from a place on
abbrev window : List ℕ → ℕ → ℕ → List ℕ
window xs at n = map (slice_index xs) (range_with_len at n)

joined : (xs : List ℕ) (at m n : ℕ) → window xs at m ++ window xs (at + m) n ≡ window xs at (m + n)
joined xs at zero n =
    let here : at + 0 ≡ at = omega arith in
    let all : n ≡ 0 + n = omega arith in
    ap (λ (a : ℕ). window xs a n) here ∙ ap (λ (k : ℕ). window xs at k) all
joined xs at (suc m) n =
    let on : at + suc m ≡ at + 1 + m = omega arith in
    let all : suc (m + n) ≡ suc m + n = omega arith in
    ap (λ (a : ℕ). slice_index xs at ∷ (window xs (at + 1) m ++ window xs a n)) on
    ∙ ap (λ (l : List ℕ). slice_index xs at ∷ l) (joined xs (at + 1) m n)
    ∙ ap (λ (k : ℕ). window xs at k) all

abbrev AreBytes : List ℕ → Type 0
AreBytes xs = (p : ℕ) → slice_index xs p < 256

words_told : (xs : List ℕ) (a n : ℕ) → AreBytes xs → flat_map (to_le_bytes w64) (map (word xs) (range_with_len a n)) ≡ window xs (8 * a) (8 * n)
words_told xs a zero small = refl
words_told xs a (suc n) small =
    let first : to_le_bytes w64 (word xs a) ≡ window xs (8 * a) 8 = le_bytes_8 (window xs (8 * a) 8) (word xs a) (length-map-range_with_len (slice_index xs) (8 * a) 8) (window_small xs a small) refl in
    let on : 8 * (a + 1) ≡ 8 * a + 8 = omega arith in
    let all : 8 + 8 * n ≡ 8 * suc n = omega arith in
    ap (λ (l : List ℕ). l ++ flat_map (to_le_bytes w64) (map (word xs) (range_with_len (a + 1) n))) first
    ∙ ap (λ (l : List ℕ). window xs (8 * a) 8 ++ l) (words_told xs (a + 1) n small ∙ ap (λ (k : ℕ). window xs k (8 * n)) on)
    ∙ joined xs (8 * a) 8 (8 * n)
    ∙ ap (λ (k : ℕ). window xs (8 * a) k) all

frags_told : (msg : ℕ) (xs : List ℕ) (a n : ℕ) → AreBytes xs → flat_map frag_bytes (map (frag_on 0 msg xs) (range_with_len a n)) ≡ window xs (56 * a) (56 * n)
frags_told msg xs a zero small = refl
frags_told msg xs a (suc n) small =
    let here : 8 * (7 * a) ≡ 56 * a = omega arith in
    let first : frag_bytes (frag_on 0 msg xs a) ≡ window xs (56 * a) 56 = words_told xs (7 * a) 7 small ∙ ap (λ (k : ℕ). window xs k 56) here in
    let on : 56 * (a + 1) ≡ 56 * a + 56 = omega arith in
    let all : 56 + 56 * n ≡ 56 * suc n = omega arith in
    ap (λ (l : List ℕ). l ++ flat_map frag_bytes (map (frag_on 0 msg xs) (range_with_len (a + 1) n))) first
    ∙ ap (λ (l : List ℕ). window xs (56 * a) 56 ++ l) (frags_told msg xs (a + 1) n small ∙ ap (λ (k : ℕ). window xs k (56 * n)) on)
    ∙ joined xs (56 * a) 56 (56 * n)
    ∙ ap (λ (k : ℕ). window xs (56 * a) k) all

covered : (n : ℕ) → n ≤ 56 * count_for n
covered n = omega arith

eights : (k n : ℕ) → k ≡ 56 * n → k % 8 ≡ 0
eights k n e = omega (arith, e)

-- the payload stands first among the bytes of the fragments
pub payload_first : (p : TheProgram) (msg : ℕ) (frags : List Frag) (bytes : List ℕ) (c : TheCall) → bytes ≡ flat_map frag_bytes frags → HasFrags p msg frags c → HasPayload p msg bytes c
payload_first p msg frags bytes c is h =
    let payload = payload_of p.plan p.interface c in
    let many = count p.plan p.interface c in
    let all : bytes ≡ window payload 0 (56 * many) = is ∙ ap (flat_map frag_bytes) h.frags_are ∙ frags_told c.msg payload 0 many (all_small (leaves p.plan p.interface c)) in
    let long = length payload in
    let inside : long ≤ 56 * many = omega (arith, length_payload (leaves p.plan p.interface c), covered long, ap (λ (k : ℕ). 56 * count_for k) (length_payload (leaves p.plan p.interface c))) in
    let parts : 56 * many ≡ long + (56 * many - long) = omega (arith, inside) in
    let after = window payload long (56 * many - long) in
    let from : 0 + long ≡ long = omega arith in
    let first : window payload 0 long ≡ payload = sym (fill_by_all (slice_index payload) payload long 0 refl (λ k lt. refl)) in
    record {
      message = h.message;
      fits = h.fits;
      after = after;
      prefix = all ∙ ap (λ (k : ℕ). window payload 0 k) parts ∙ sym (joined payload 0 long (56 * many - long))
          ∙ ap (λ (a : ℕ). window payload 0 long ++ window payload a (56 * many - long)) from ∙ ap (λ (l : List ℕ). l ++ after) first;
      eights = eights (length bytes) many (ap length all ∙ length-map-range_with_len (slice_index payload) 0 (56 * many));
    }

-- ---- how many they are

-- so few bytes take few
few_for : (n : ℕ) → n ≤ 32768 → count_for n ≤ 586
few_for n small = omega (arith, small)

-- a fitting call's payload is so short, by the message that it has
short_payload : (p : TheProgram) (c : TheCall) (o : Option TheMessage) → is_within_limits p.interface ≡ true → fits_of p.interface c ≡ true → slice_get p.interface.messages c.msg ≡ o
    → size (leaves p.plan p.interface c) ≤ 32768
short_payload p c None within fits e = absurd (false≢true (subst (λ (o : Option TheMessage). fit_message o c.args ≡ true) e fits))
short_payload p c (Some m) within fits e = length_small p.plan p.interface c.msg m c within e (record { fits = fits; names = refl })

-- a fitting call has at most 586
pub few_frags : (p : TheProgram) (msg : ℕ) (frags : List Frag) (c : TheCall) → is_within_limits p.interface ≡ true → HasFrags p msg frags c → length frags ≤ 586
few_frags p msg frags c within h =
    let short = short_payload p c (slice_get p.interface.messages c.msg) within h.fits refl in
    let few : count p.plan p.interface c ≤ 586 = few_for (size (leaves p.plan p.interface c)) short in
    omega (arith, few, ap length h.frags_are, length_frags p.plan p.interface c)

-- ---- put one after another

-- one thing more
pub flat_more : {A : Type 0} (f : A → List ℕ) (xs : List A) (k : ℕ) (x : A) (old put new : List ℕ) → k < length xs → x ≡ get_or xs k x → put ≡ old ++ flat_map f (take k xs) → new ≡ put ++ f x
    → new ≡ old ++ flat_map f (take (k + 1) xs)
flat_more {A = A} f xs k x old put new inside here so_far is =
    let cut : take (k + 1) xs ≡ take k xs ++ x ∷ [] = take_more xs k x inside ∙ ap (λ (y : A). take k xs ++ y ∷ []) (sym here) in
    let all : flat_map f (take (k + 1) xs) ≡ flat_map f (take k xs) ++ f x
    = ap (flat_map f) cut ∙ flat_map-append f (take k xs) (x ∷ []) ∙ ap (λ (l : List ℕ). flat_map f (take k xs) ++ l) (append-nil (f x)) in
    is ∙ ap (λ (l : List ℕ). l ++ f x) so_far ∙ append_assoc old (flat_map f (take k xs)) (f x) ∙ ap (λ (l : List ℕ). old ++ l) (sym all)

get_same : (xs : List ℕ) (k d : ℕ) → k < length xs → get_or xs k 0 ≡ get_or xs k d
get_same [] k d inside = absurd (omega (arith, inside))
get_same (x ∷ xs) zero d inside = refl
get_same (x ∷ xs) (suc k) d inside = get_same xs k d (omega (arith, inside))

pub words_more : (words : List ℕ) (k : ℕ) (old put new : List ℕ) → k < length words → put ≡ old ++ flat_map (to_le_bytes w64) (take k words) → new ≡ put ++ to_le_bytes w64 (get_or words k 0)
    → new ≡ old ++ flat_map (to_le_bytes w64) (take (k + 1) words)
words_more words k old put new inside so_far is =
    flat_more (to_le_bytes w64) words k (get_or words k 0) old put new inside (get_same words k (get_or words k 0) inside) so_far is
