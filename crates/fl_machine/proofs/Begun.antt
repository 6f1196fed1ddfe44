-- Fragments whose payload begins with some bytes, and one fragment more.
use Rattle.std.proofs.Common.{◌≡◌, ℕ, zero, suc, ◌+◌, ◌-◌, ◌*◌, ◌/◌, ◌%◌, ◌^◌, ◌<◌, ◌≤◌, Bool, true, false, ◌&&◌, ⊎_elim, List, [], ◌∷◌, ◌++◌, map, length, get_or, slice_index, Some, None, refl, sym, ◌∙◌, ap, subst, arith, eqb}
use Rattle.std.specs.Prelude.{slice_get, Option, option_map}
use Rattle.std.specs.List.{range_with_len}
use Rattle.std.specs.Int.{byte_at, to_le_bytes, from_le_bytes, w64}
use Rattle.std.proofs.lemmas.Nat.{from_le_bytes-to_le_bytes_8}
use Rattle.std.proofs.lemmas.List.{length-append, map-append, ext_get_or, get_or_append_left, get_or-append_right, get_or_past}
use Rattle.std.proofs.lemmas.List.FromFn.{length-map-range_with_len, get_or-map-range_with_len, map-range_with_len_more}
use Rattle.std.proofs.lemmas.Option.{slice_get-map}
use Rattle.std.proofs.lemmas.Bool.{cases_lt}
use Rattle.fl_base.specs.declared.fragment.Frag.{Frag}
use Rattle.fl_base.specs.Control.{control_word, body, bare}
use Rattle.fl_wire.specs.Headers.{Line}
use Rattle.fl_wire.specs.Standing.{byte_in, words_in}
use Rattle.fl_wire.proofs.Bytes.{get_made}
use Rattle.fl_wire.proofs.Readings.{window_of, window_at, window_small, byte_small}
use Rattle.fl_wire.proofs.Decoding.{byte_of_list}
use Rattle.std.proofs.lemmas.Nat.{le_bytes_8}
use Rattle.fl_stub.specs.Meaning.{number_bytes}
use Rattle.fl_stub.specs.Streams.{Follows}
use Rattle.fl_wire.specs.Payload.{word}
use Rattle.fl_machine.specs.Sending.{frag_of}
use Rattle.fl_machine.specs.Taking.{words_bytes}
use Rattle.fl_machine.specs.Receiving.{frags_begun}
use Rattle.fl_machine.proofs.Fragments.{same_on}

-- ---- fragments of bytes that begin alike

same_word : (n : ℕ) (xs ys : List ℕ) (w : ℕ) → Follows n xs ys → 8 * w + 8 ≤ n → word xs w ≡ word ys w
same_word n xs ys w follows h = ap (from_le_bytes w64) (same_on (slice_index xs) (slice_index ys) (8 * w) 8 n h (λ i small. follows.each i small))

same_frag : (n msg : ℕ) (xs ys : List ℕ) (k : ℕ) → Follows n xs ys → 56 * k + 56 ≤ n → frag_of true msg 0 xs k ≡ frag_of true msg 0 ys k
same_frag n msg xs ys k follows h =
    let words : map (word xs) (range_with_len (7 * k) 7) ≡ map (word ys) (range_with_len (7 * k) 7)
    = same_on (word xs) (word ys) (7 * k) 7 (7 * k + 7) (omega arith) (λ w small. same_word n xs ys w follows (omega (arith, small, h))) in
    λ i. record { words = words i; control = control_word (true && eqb k 0) msg 0 }

same_range : (f g : ℕ → Frag) (s n end : ℕ) → s + n ≤ end → ((i : ℕ) → i < end → f i ≡ g i) → map f (range_with_len s n) ≡ map g (range_with_len s n)
same_range f g s zero end h same = refl
same_range f g s (suc n) end h same =
    ap (λ x. x ∷ map f (range_with_len (s + 1) n)) (same s (omega (arith, h)))
    ∙ ap (λ xs. g s ∷ xs) (same_range f g (s + 1) n end (omega (arith, h)) same)

pub same_begun : (n msg : ℕ) (xs ys : List ℕ) (k : ℕ) → Follows n xs ys → 56 * k ≤ n → frags_begun msg xs k ≡ frags_begun msg ys k
same_begun n msg xs ys k follows h =
    same_range (frag_of true msg 0 xs) (frag_of true msg 0 ys) 0 k k (omega arith) (λ i small. same_frag n msg xs ys i follows (omega (arith, small, h)))

pub begun_length : (msg : ℕ) (bytes : List ℕ) (k : ℕ) → length (frags_begun msg bytes k) ≡ k
begun_length msg bytes k = length-map-range_with_len (frag_of true msg 0 bytes) 0 k

begun_more : (msg : ℕ) (bytes : List ℕ) (k : ℕ) → frags_begun msg bytes (k + 1) ≡ frags_begun msg bytes k ++ frag_of true msg 0 bytes k ∷ []
begun_more msg bytes k = map-range_with_len_more (frag_of true msg 0 bytes) 0 k k (omega arith)

-- ---- they are bare

bare_control : (first : Bool) (msg : ℕ) → msg < 2 ^ 16 → body (control_word first msg 0) ≡ control_word first msg 0
bare_control true msg small = omega (arith, small)
bare_control false msg small = omega (arith, small)

bare_frag : (msg : ℕ) (bytes : List ℕ) (k : ℕ) → msg < 2 ^ 16 → bare (frag_of true msg 0 bytes k) ≡ frag_of true msg 0 bytes k
bare_frag msg bytes k small =
    let control = bare_control (true && eqb k 0) msg small in
    λ i. record { words = map (word bytes) (range_with_len (7 * k) 7); control = control i }

bare_range : (msg : ℕ) (bytes : List ℕ) (s n : ℕ) → msg < 2 ^ 16 → map bare (map (frag_of true msg 0 bytes) (range_with_len s n)) ≡ map (frag_of true msg 0 bytes) (range_with_len s n)
bare_range msg bytes s zero small = refl
bare_range msg bytes s (suc n) small =
    ap (λ x. x ∷ map bare (map (frag_of true msg 0 bytes) (range_with_len (s + 1) n))) (bare_frag msg bytes s small)
    ∙ ap (λ xs. frag_of true msg 0 bytes s ∷ xs) (bare_range msg bytes (s + 1) n small)

pub bare_begun : (msg : ℕ) (bytes : List ℕ) (k : ℕ) → msg < 2 ^ 16 → map bare (frags_begun msg bytes k) ≡ frags_begun msg bytes k
bare_begun msg bytes k small = bare_range msg bytes 0 k small

-- ---- the bytes of words

byte_of_number : (r w : ℕ) → r < 8 → get_or (number_bytes 8 w) r 0 ≡ byte_at r w
byte_of_number zero w h = refl
byte_of_number (suc zero) w h = refl
byte_of_number (suc (suc zero)) w h = refl
byte_of_number (suc (suc (suc zero))) w h = refl
byte_of_number (suc (suc (suc (suc zero)))) w h = refl
byte_of_number (suc (suc (suc (suc (suc zero))))) w h = refl
byte_of_number (suc (suc (suc (suc (suc (suc zero)))))) w h = refl
byte_of_number (suc (suc (suc (suc (suc (suc (suc zero))))))) w h = refl
byte_of_number (suc (suc (suc (suc (suc (suc (suc (suc r)))))))) w h = absurd (omega (arith, h))

byte_of_words : (ws : List ℕ) (j r : ℕ) → j < length ws → r < 8 → get_or (words_bytes ws) (8 * j + r) 0 ≡ byte_at r (get_or ws j 0)
byte_of_words [] j r h small = absurd (omega (arith, h))
byte_of_words (w ∷ ws) zero r h small =
    get_or_append_left (number_bytes 8 w) (words_bytes ws) 0 (8 * 0 + r) (omega (arith, small)) ∙ ap (λ (q : ℕ). get_or (number_bytes 8 w) q 0) (omega arith) ∙ byte_of_number r w small
byte_of_words (w ∷ ws) (suc j) r h small =
    get_or-append_right (number_bytes 8 w) (words_bytes ws) 8 (8 * suc j + r) 0 refl (omega arith)
    ∙ ap (λ (q : ℕ). get_or (words_bytes ws) q 0) (omega arith) ∙ byte_of_words ws j r (omega (arith, h)) small

pub length_words : (ws : List ℕ) → length (words_bytes ws) ≡ 8 * length ws
length_words [] = refl
length_words (w ∷ ws) = length-append (number_bytes 8 w) (words_bytes ws) ∙ omega (arith, length_words ws)

-- each byte is one
pub words_small : (ws : List ℕ) (p : ℕ) → get_or (words_bytes ws) p 0 < 256
words_small ws p = ⊎_elim
    (λ (inside : p < 8 * length ws).
    let whole : 8 * (p / 8) + p % 8 ≡ p = omega arith in
    subst (λ (q : ℕ). get_or (words_bytes ws) q 0 < 256) whole
    (subst (λ (n : ℕ). n < 256) (sym (byte_of_words ws (p / 8) (p % 8) (omega (arith, inside)) (omega arith))) (byte_small (p % 8) (get_or ws (p / 8) 0))))
    (λ (past : 8 * length ws ≤ p). subst (λ (n : ℕ). n < 256) (sym (get_or_past (words_bytes ws) p 0 (omega (arith, past, length_words ws)))) (omega arith))
    (cases_lt p (8 * length ws))

-- ---- one fragment more

-- some fragments of a call with these bytes, and one more with those
pub record Grown (msg : ℕ) (parts : List Frag) (f : Frag) (bytes more : List ℕ) (k : ℕ) : Type 0 where
  pub bare_are : map bare (parts ++ f ∷ []) ≡ frags_begun msg more (k + 1)
  pub parts_are : parts ++ bare f ∷ [] ≡ frags_begun msg more (k + 1)
  pub many : length (parts ++ f ∷ []) ≡ k + 1
  pub long : length more ≡ 56 * (k + 1)
  pub small : (p : ℕ) → slice_index more p < 256
  pub prefix : Follows (56 * k) bytes more

word_is : (f : Frag) → Line f → (xs : List ℕ) (m j : ℕ) → j < 7 → ((r : ℕ) → r < 8 → byte_at r (get_or f.words j 0) ≡ slice_index xs (8 * m + r)) → get_or f.words j 0 ≡ word xs m
word_is f line xs m j small bytes =
    let w = get_or f.words j 0 in
    let fits : w < 2 ^ 64 = line.small j 0 (omega (arith, small, line.seven)) in
    let same : to_le_bytes w64 w ≡ window_of xs m
    = ext_get_or 0 (to_le_bytes w64 w) (window_of xs m) refl (λ r h. let own : r < 8 = h in byte_of_list r w own ∙ bytes r own ∙ sym (window_at xs m r own)) in
    sym (from_le_bytes-to_le_bytes_8 w fits) ∙ ap (from_le_bytes w64) same

-- a fragment's words from its bytes behind others
words_are : (f : Frag) → Line f → (bytes : List ℕ) (k : ℕ) → length bytes ≡ 56 * k → f.words ≡ map (word (bytes ++ words_bytes f.words)) (range_with_len (7 * k) 7)
words_are f line bytes k long =
    let more = bytes ++ words_bytes f.words in
    ext_get_or 0 f.words (map (word more) (range_with_len (7 * k) 7)) (line.seven ∙ sym (length-map-range_with_len (word more) (7 * k) 7)) (λ j h.
    let small : j < 7 = omega (arith, h, line.seven) in
    word_is f line more (7 * k + j) j small (λ r own.
    sym (get_or-append_right bytes (words_bytes f.words) (56 * k) (8 * (7 * k + j) + r) 0 long (omega arith)
    ∙ ap (λ (q : ℕ). get_or (words_bytes f.words) q 0) (omega arith) ∙ byte_of_words f.words j r h own))
    ∙ sym (get_or-map-range_with_len (word more) (7 * k) 7 j (7 * k + j) 0 small refl))

follows_more : (bytes ws : List ℕ) (k : ℕ) → length bytes ≡ 56 * k → Follows (56 * k) bytes (bytes ++ words_bytes ws)
follows_more bytes ws k long = record { each = λ p small. sym (get_or_append_left bytes (words_bytes ws) 0 p (omega (arith, small, long))) }

small_more : (bytes ws : List ℕ) (k : ℕ) → length bytes ≡ 56 * k → ((p : ℕ) → slice_index bytes p < 256) → (p : ℕ) → slice_index (bytes ++ words_bytes ws) p < 256
small_more bytes ws k long small p = ⊎_elim
    (λ (inside : p < 56 * k). subst (λ (n : ℕ). n < 256) (sym (get_or_append_left bytes (words_bytes ws) 0 p (omega (arith, inside, long)))) (small p))
    (λ (past : 56 * k ≤ p). subst (λ (n : ℕ). n < 256) (sym (get_or-append_right bytes (words_bytes ws) (56 * k) p 0 long past)) (words_small ws (p - 56 * k)))
    (cases_lt p (56 * k))

pub grows : (msg : ℕ) (f : Frag) (bytes : List ℕ) (k : ℕ) → msg < 2 ^ 16 → Line f → length bytes ≡ 56 * k → ((p : ℕ) → slice_index bytes p < 256)
    → body f.control ≡ control_word (eqb k 0) msg 0 → Grown msg (frags_begun msg bytes k) f bytes (bytes ++ words_bytes f.words) k
grows msg f bytes k fits line long small control =
    let more = bytes ++ words_bytes f.words in
    let words = words_are f line bytes k long in
    let last : bare f ≡ frag_of true msg 0 more k = λ i. record { words = words i; control = control i } in
    let prefix = follows_more bytes f.words k long in
    let parts : frags_begun msg bytes k ++ bare f ∷ [] ≡ frags_begun msg more (k + 1)
    = ap (λ (fs : List Frag). fs ++ bare f ∷ []) (same_begun (56 * k) msg bytes more k prefix (omega arith))
    ∙ ap (λ (g : Frag). frags_begun msg more k ++ g ∷ []) last ∙ sym (begun_more msg more k) in
    record {
      bare_are = map-append bare (frags_begun msg bytes k) (f ∷ []) ∙ ap (λ (fs : List Frag). fs ++ bare f ∷ []) (bare_begun msg bytes k fits) ∙ parts;
      parts_are = parts;
      many = length-append (frags_begun msg bytes k) (f ∷ []) ∙ omega (arith, begun_length msg bytes k);
      long = length-append bytes (words_bytes f.words) ∙ omega (arith, long, length_words f.words, line.seven);
      small = small_more bytes f.words k long small;
      prefix = prefix;
    }

-- ---- their bytes

byte_of_word : (xs : List ℕ) (m r p : ℕ) → ((q : ℕ) → slice_index xs q < 256) → r < 8 → 8 * m + r ≡ p → byte_at r (word xs m) ≡ slice_index xs p
byte_of_word xs m r p small h e =
    sym (byte_of_list r (word xs m) h)
    ∙ ap (λ (bs : List ℕ). get_or bs r 0) (le_bytes_8 (window_of xs m) (word xs m) refl (window_small xs m small) refl)
    ∙ window_at xs m r h ∙ ap (slice_index xs) e

byte_bare : (frags : List Frag) (p : ℕ) → byte_in (map bare frags) p ≡ byte_in frags p
byte_bare frags p = ap (λ (ws : List ℕ). byte_at (p % 8) (slice_index ws (p / 8 % 7))) (ap words_in (slice_get-map bare frags (p / 56)) ∙ same_words (slice_get frags (p / 56)))
  where
    same_words : (o : Option Frag) → words_in (option_map bare o) ≡ words_in o
    same_words None = refl
    same_words (Some f) = refl

begun_byte : (msg : ℕ) (bytes : List ℕ) (k p : ℕ) → ((q : ℕ) → slice_index bytes q < 256) → p < 56 * k → byte_in (frags_begun msg bytes k) p ≡ slice_index bytes p
begun_byte msg bytes k p small inside =
    let n = p / 56 in
    ap (λ (o : Option Frag). byte_at (p % 8) (slice_index (words_in o) (p / 8 % 7))) (get_made (frag_of true msg 0 bytes) 0 k n (omega (arith, inside)))
    ∙ ap (byte_at (p % 8)) (get_or-map-range_with_len (word bytes) (7 * (0 + n)) 7 (p / 8 % 7) (p / 8) 0 (omega arith) (omega arith))
    ∙ byte_of_word bytes (p / 8) (p % 8) p small (omega arith) (omega arith)

pub byte_of_frags : (msg : ℕ) (frags : List Frag) (bytes : List ℕ) (k p : ℕ) → map bare frags ≡ frags_begun msg bytes k → ((q : ℕ) → slice_index bytes q < 256) → p < 56 * k → byte_in frags p ≡ slice_index bytes p
byte_of_frags msg frags bytes k p e small inside = sym (byte_bare frags p) ∙ ap (λ (fs : List Frag). byte_in fs p) e ∙ begun_byte msg bytes k p small inside
