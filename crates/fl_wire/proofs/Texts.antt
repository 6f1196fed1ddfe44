-- Many bytes of fragments, word by word, and strings made of them.
use Rattle.std.proofs.Common.{◌≡◌, ◌≢◌, ℕ, zero, suc, ◌+◌, ◌-◌, ◌*◌, ◌/◌, ◌%◌, ◌<◌, ◌≤◌, true, List, [], ◌∷◌, ◌++◌, map, length, get_or, take, Some, refl, sym, ◌∙◌, ap, subst, arith, append_assoc, ltb}
use Rattle.std.specs.Prelude.{slice_get, slice_index, Option}
use Rattle.std.specs.List.{list_all, range_with_len}
use Rattle.std.specs.Int.{to_le_bytes, byte_at, w64}
use Rattle.std.specs.Cmp.{first_so, second_so}
use Rattle.std.proofs.lemmas.Bool.{ltb-true}
use Rattle.std.proofs.lemmas.List.{append-nil}
use Rattle.std.proofs.lemmas.List.FromFn.{take-map-range_with_len}
use Rattle.std.proofs.lemmas.Option.{slice_get-get_or}
use Rattle.fl_base.specs.declared.fragment.Frag.{Frag}
use Rattle.fl_value_data.specs.Fits.{is_text_byte}
use Rattle.fl_wire.specs.Standing.{words_in, word_in, byte_in}
use Rattle.fl_wire.specs.Shapes.{text_byte, texts_of, ReadAt}
use Rattle.fl_wire.proofs.OneWord.{same_byte}
use Rattle.fl_wire.proofs.Sites.{text_got}
use Rattle.fl_wire.proofs.Steps.{come_self, come_read, come_done}
use Rattle.fl_wire.proofs.Parts.{begins_texts, texts_end}

-- so many payload bytes from a place on
abbrev pub stretch : List Frag → ℕ → ℕ → List ℕ
stretch frags at count = map (byte_in frags) (range_with_len at count)

-- one stretch and the next
pub stretch_joined : (frags : List Frag) (at m n : ℕ) → stretch frags at m ++ stretch frags (at + m) n ≡ stretch frags at (m + n)
stretch_joined frags at zero n =
    let here : at + 0 ≡ at = omega arith in
    let all : n ≡ 0 + n = omega arith in
    ap (λ (a : ℕ). stretch frags a n) here ∙ ap (λ (k : ℕ). stretch frags at k) all
stretch_joined frags at (suc m) n =
    let next : at + suc m ≡ at + 1 + m = omega arith in
    let all : suc (m + n) ≡ suc m + n = omega arith in
    ap (λ (a : ℕ). byte_in frags at ∷ (stretch frags (at + 1) m ++ stretch frags a n)) next
    ∙ ap (λ (xs : List ℕ). byte_in frags at ∷ xs) (stretch_joined frags (at + 1) m n)
    ∙ ap (λ (k : ℕ). stretch frags at k) all

pub eight : (a b c d e f g h i j k l m n o p : ℕ) → a ≡ i → b ≡ j → c ≡ k → d ≡ l → e ≡ m → f ≡ n → g ≡ o → h ≡ p
    → a ∷ b ∷ c ∷ d ∷ e ∷ f ∷ g ∷ h ∷ [] ≡ i ∷ j ∷ k ∷ l ∷ m ∷ n ∷ o ∷ p ∷ []
eight a b c d e f g h i j k l m n o p q r s t u v w x = cc

-- eight bytes from a place on
pub eight_at : (bytes : List ℕ) (p : ℕ) → slice_index bytes p ∷ slice_index bytes (p + 1) ∷ slice_index bytes (p + 2) ∷ slice_index bytes (p + 3)
    ∷ slice_index bytes (p + 4) ∷ slice_index bytes (p + 5) ∷ slice_index bytes (p + 6) ∷ slice_index bytes (p + 7) ∷ []
    ≡ map (slice_index bytes) (range_with_len p 8)
eight_at bytes p =
    let at : (q r : ℕ) → q ≡ r → slice_index bytes q ≡ slice_index bytes r = λ q r e. ap (slice_index bytes) e in
    let p1 = p + 1 in let p2 = p1 + 1 in let p3 = p2 + 1 in let p4 = p3 + 1 in let p5 = p4 + 1 in let p6 = p5 + 1 in let p7 = p6 + 1 in
    eight _ _ _ _ _ _ _ _ _ _ _ _ _ _ _ _ (at p p refl) (at (p + 1) p1 refl) (at (p + 2) p2 (omega arith)) (at (p + 3) p3 (omega arith))
    (at (p + 4) p4 (omega arith)) (at (p + 5) p5 (omega arith)) (at (p + 6) p6 (omega arith)) (at (p + 7) p7 (omega arith))

-- the bytes of a word
pub word_bytes : (frags : List Frag) (m p w : ℕ) → w ≡ word_in frags m → p ≡ 8 * m → to_le_bytes w64 w ≡ stretch frags p 8
word_bytes frags m p w is place =
    let one : (j q : ℕ) → j < 8 → q ≡ p + j → byte_at j w ≡ byte_in frags q
    = λ j q small at.
    let low : j ≡ q % 8 = omega (arith, small, at, place) in
    let high : m ≡ q / 8 = omega (arith, small, at, place) in
    ap (byte_at j) is ∙ ap (λ (n : ℕ). byte_at n (word_in frags m)) low ∙ ap (λ (n : ℕ). byte_at (q % 8) (word_in frags n)) high ∙ same_byte frags q in
    let p1 = p + 1 in let p2 = p1 + 1 in let p3 = p2 + 1 in let p4 = p3 + 1 in let p5 = p4 + 1 in let p6 = p5 + 1 in let p7 = p6 + 1 in
    eight (byte_at 0 w) (byte_at 1 w) (byte_at 2 w) (byte_at 3 w) (byte_at 4 w) (byte_at 5 w) (byte_at 6 w) (byte_at 7 w)
    (byte_in frags p) (byte_in frags p1) (byte_in frags p2) (byte_in frags p3) (byte_in frags p4) (byte_in frags p5) (byte_in frags p6) (byte_in frags p7)
    (one 0 p (omega arith) (omega arith)) (one 1 p1 (omega arith) (omega arith)) (one 2 p2 (omega arith) (omega arith)) (one 3 p3 (omega arith) (omega arith))
    (one 4 p4 (omega arith) (omega arith)) (one 5 p5 (omega arith) (omega arith)) (one 6 p6 (omega arith) (omega arith)) (one 7 p7 (omega arith) (omega arith))

-- a word of one fragment
word_here : (frags : List Frag) (f : Frag) (first j : ℕ) → slice_get frags (first / 7) ≡ Some f → first % 7 ≤ j → j < 7
    → get_or f.words j 0 ≡ word_in frags (first - first % 7 + j)
word_here frags f first j is from below =
    let m = first - first % 7 + j in
    let high : first / 7 ≡ m / 7 = omega (arith, from, below) in
    let low : j ≡ m % 7 = omega (arith, from, below) in
    ap (λ (o : Option Frag). slice_index (words_in o) j) (sym is)
    ∙ ap (λ (n : ℕ). slice_index (words_in (slice_get frags n)) j) high
    ∙ ap (λ (n : ℕ). slice_index (words_in (slice_get frags (m / 7))) n) low

-- one word more of a fragment
pub one_word_more : (frags : List Frag) (d : Frag) (first j : ℕ) (before old now : List ℕ) → first / 7 < length frags → first % 7 ≤ j → j < 7
    → old ≡ before ++ stretch frags (8 * first) (8 * (j - first % 7)) → now ≡ old ++ to_le_bytes w64 (get_or (get_or frags (first / 7) d).words j 0)
    → now ≡ before ++ stretch frags (8 * first) (8 * (j + 1 - first % 7))
one_word_more frags d first j before old now inside from below so_far is =
    let f = get_or frags (first / 7) d in
    let m = first - first % 7 + j in
    let n = 8 * (j - first % 7) in
    let word = word_here frags f first j (slice_get-get_or frags (first / 7) d inside) from below in
    let place : 8 * first + n ≡ 8 * m = omega (arith, from) in
    let bytes : to_le_bytes w64 (get_or f.words j 0) ≡ stretch frags (8 * first + n) 8 = word_bytes frags m (8 * first + n) (get_or f.words j 0) word place in
    let all : n + 8 ≡ 8 * (j + 1 - first % 7) = omega (arith, from) in
    is ∙ ap (λ (xs : List ℕ). xs ++ to_le_bytes w64 (get_or f.words j 0)) so_far
    ∙ append_assoc before (stretch frags (8 * first) n) (to_le_bytes w64 (get_or f.words j 0))
    ∙ ap (λ (xs : List ℕ). before ++ (stretch frags (8 * first) n ++ xs)) bytes
    ∙ ap (λ (xs : List ℕ). before ++ xs) (stretch_joined frags (8 * first) n 8)
    ∙ ap (λ (k : ℕ). before ++ stretch frags (8 * first) k) all

-- no word yet
pub none_yet : (frags : List Frag) (a k : ℕ) (before : List ℕ) → before ≡ before ++ stretch frags a (8 * (k - k))
none_yet frags a k before =
    let none : 8 * (k - k) ≡ 0 = omega arith in
    sym (ap (λ (n : ℕ). before ++ stretch frags a n) none ∙ append-nil before)

-- all words of a fragment that are meant
pub words_done : (frags : List Frag) (first past j : ℕ) (before now : List ℕ) → first % 7 ≤ j → j ≡ past
    → now ≡ before ++ stretch frags (8 * first) (8 * (j - first % 7)) → now ≡ before ++ stretch frags (8 * first) (8 * (first - first % 7 + past - first))
words_done frags first past j before now from last is =
    let all : 8 * (j - first % 7) ≡ 8 * (first - first % 7 + past - first) = omega (arith, from, last) in
    is ∙ ap (λ (n : ℕ). before ++ stretch frags (8 * first) n) all

-- some words more
pub more_words : (frags : List Frag) (start first next : ℕ) (old now : List ℕ) → start ≤ first → first ≤ next
    → old ≡ stretch frags (8 * start) (8 * (first - start)) → now ≡ old ++ stretch frags (8 * first) (8 * (next - first))
    → now ≡ stretch frags (8 * start) (8 * (next - start))
more_words frags start first next old now from to so_far is =
    let m = 8 * (first - start) in
    let n = 8 * (next - first) in
    let here : 8 * first ≡ 8 * start + m = omega (arith, from) in
    let all : m + n ≡ 8 * (next - start) = omega (arith, from, to) in
    is ∙ ap (λ (xs : List ℕ). xs ++ stretch frags (8 * first) n) so_far
    ∙ ap (λ (a : ℕ). stretch frags (8 * start) m ++ stretch frags a n) here
    ∙ stretch_joined frags (8 * start) m n
    ∙ ap (λ (k : ℕ). stretch frags (8 * start) k) all

-- of whole words those bytes that are meant
pub bytes_of_words : (frags : List Frag) (at start count many : ℕ) (words now : List ℕ) → at ≡ 8 * start → count ≤ many
    → words ≡ stretch frags (8 * start) many → now ≡ take count words → now ≡ stretch frags at count
bytes_of_words frags at start count many words now place few is taken =
    taken ∙ ap (take count) is ∙ take-map-range_with_len (byte_in frags) (8 * start) many count few
    ∙ ap (λ (a : ℕ). stretch frags a count) (sym place)

-- a string's byte isn't 0
text_nonzero : (b : ℕ) → is_text_byte b ≡ true → b ≢ 0
text_nonzero b text = λ e. absurd (omega (arith, e, ltb-true 0 b (first_so (ltb 0 b) _ text)))

-- bytes that are a string's are read as one
pub texts_there : (frags : List Frag) (n at : ℕ) → at + n ≤ 56 * length frags → list_all is_text_byte (stretch frags at n) ≡ true
    → ReadAt (texts_of n) frags at (stretch frags at n) (at + n)
texts_there frags zero at room all =
    let here : at ≡ at + 0 = omega arith in
    subst (λ (end : ℕ). ReadAt (texts_of 0) frags at [] end) here (texts_end 0 0 frags at at [] (omega arith) (come_self (texts_of 0) frags at (omega (arith, room))))
texts_there frags (suc n) at room all =
    let b = byte_in frags at in
    let rest = stretch frags (at + 1) n in
    let one : ReadAt text_byte frags at b (at + 1) = text_got frags at b refl (text_nonzero b (first_so (is_text_byte b) _ all)) in
    let more : ReadAt (texts_of n) frags (at + 1) rest (at + 1 + n) = texts_there frags n (at + 1) (omega (arith, room)) (second_so (is_text_byte b) _ all) in
    let come = come_read (texts_of (suc n)) (texts_of (suc n)) text_byte (λ c. texts_of n) frags at at (at + 1) (λ bs. bs) (λ c bs. c ∷ bs) b
    (come_self (texts_of (suc n)) frags at (omega (arith, room))) (begins_texts n) (omega arith) (omega (arith, room)) one in
    let last : at + 1 + n ≡ at + suc n = omega arith in
    subst (λ (end : ℕ). ReadAt (texts_of (suc n)) frags at (b ∷ rest) end) last
    (come_done (texts_of (suc n)) (texts_of n) frags at (at + 1) (at + 1 + n) (λ bs. b ∷ bs) rest come (omega arith) more)
