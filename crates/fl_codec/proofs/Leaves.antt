-- A number in a payload: its leaf, and the word in which it stands.
use Rattle.std.proofs.Common.{◌≡◌, ◌≢◌, ℕ, zero, suc, ◌+◌, ◌-◌, ◌*◌, ◌/◌, ◌%◌, ◌^◌, ◌<◌, ◌≤◌, ◌⊎◌, inl, inr, ⊎_elim, List, ◌∷◌, map, length, get_or, set, refl, sym, ◌∙◌, ap, subst, arith}
use Rattle.std.specs.Prelude.{Some, slice_index, bit_or}
use Rattle.std.specs.List.{range_with_len}
use Rattle.std.specs.Int.{byte_at}
use Rattle.std.specs.Int.Bits.{or_shifted_r}
use Rattle.std.proofs.Math.Nat.{pow-suc}
use Rattle.std.proofs.Math.Pow.{shl_exact}
use Rattle.std.proofs.lemmas.Nat.{pow-add, div-mul-add}
use Rattle.std.proofs.lemmas.List.{get_or-set_same, get_or-set_other, length-set, ext_get_or}
use Rattle.std.proofs.lemmas.List.FromFn.{length-map-range_with_len, get_or-map-range_with_len}
use Rattle.std.proofs.lemmas.Bool.{cases_lt, le-leb}
use Rattle.fl_interface.specs.Interface.{TheArgType}
use Rattle.fl_interface.specs.Sizes.{IsAlign, round_up}
use Rattle.fl_interface.proofs.Aligned.{by_align}
use Rattle.fl_layout.specs.Leaves.{Leaf, whole}
use Rattle.fl_layout.specs.Places.{size, place}
use Rattle.fl_wire.specs.Payload.{payload_at, payload_bytes, word}
use Rattle.fl_wire.proofs.Bytes.{size_le_place, below_place, at_place, past_end}
use Rattle.fl_wire.proofs.Readings.{window_of, window_at, byte_of_payload, payload_small}
use Rattle.fl_codec.specs.NumberPlaces.{how_many_values, width_of, place_at}
use Rattle.fl_codec.specs.Words.{put, from_place_on, without, Emptied, taken_one}
use Rattle.fl_codec.proofs.Sums.{low, low_ext, low_none, low_split, low_below, low_of, word_is}

-- ---- words by bytes

-- a word of a payload, by its bytes
word_of_leaves : (ls : List Leaf) (k : ℕ) → word (payload_bytes ls) k ≡ low 8 (λ j. payload_at ls (8 * k + j))
word_of_leaves ls k =
    word_is (window_of (payload_bytes ls) k)
    ∙ low_ext 8 (slice_index (window_of (payload_bytes ls) k)) (λ j. payload_at ls (8 * k + j)) (λ j h. window_at (payload_bytes ls) k j h ∙ byte_of_payload ls (8 * k + j))

-- bytes that are 0 from one on
low_part : (s m n : ℕ) (f : ℕ → ℕ) → n ≡ s + m → ((j : ℕ) → j < m → f (s + j) ≡ 0) → low n f ≡ low s f
low_part s m n f e h =
    ap (λ (k : ℕ). low k f) e ∙ low_split s m f ∙ ap (λ (k : ℕ). low s f + 256 ^ s * k) (low_none m (λ j. f (s + j)) h) ∙ omega arith

-- a number stands in one word
in_word : (n w : ℕ) → IsAlign w → round_up n w % 8 + w ≤ 8
in_word n w align = by_align (λ (v : ℕ). round_up n v % 8 + v ≤ 8) (omega arith) (omega arith) (omega arith) (omega arith) w align

-- off a leaf the bytes are as they were
outside : (l : Leaf) (ls : List Leaf) (p : ℕ) → (p < place l ls) ⊎ (place l ls + l.width ≤ p) → payload_at (l ∷ ls) p ≡ payload_at ls p
outside l ls p (inl before) = below_place l ls p before
outside l ls p (inr behind) = past_end (l ∷ ls) p behind ∙ sym (past_end ls p (omega (arith, behind, size_le_place (size ls) l.align)))

off_word : (p w k j : ℕ) → p % 8 + w ≤ 8 → k ≢ p / 8 → j < 8 → (8 * k + j < p) ⊎ (p + w ≤ 8 * k + j)
off_word p w k j one other small = ⊎_elim
    (λ (before : k < p / 8). inl (omega (arith, before, small)))
    (λ (behind : p / 8 ≤ k). let past : p / 8 < k = omega (arith, behind, other) in inr (omega (arith, one, past)))
    (cases_lt k (p / 8))

-- a number's leaf leaves the other words as they were
pub other_word : (ls : List Leaf) (w v k : ℕ) → IsAlign w → k ≢ round_up (size ls) w / 8 → word (payload_bytes (whole w v ∷ ls)) k ≡ word (payload_bytes ls) k
other_word ls w v k align other =
    word_of_leaves (whole w v ∷ ls) k
    ∙ low_ext 8 (λ j. payload_at (whole w v ∷ ls) (8 * k + j)) (λ j. payload_at ls (8 * k + j))
    (λ j small. outside (whole w v) ls (8 * k + j) (off_word (round_up (size ls) w) w k j (in_word (size ls) w align) other small))
    ∙ sym (word_of_leaves ls k)

-- before a number stands in it, its word has no bit from there on
low_bytes : (ls : List Leaf) (p : ℕ) → size ls ≤ p → word (payload_bytes ls) (p / 8) ≡ low (p % 8) (λ j. payload_at ls (8 * (p / 8) + j))
low_bytes ls p behind =
    word_of_leaves ls (p / 8)
    ∙ low_part (p % 8) (8 - p % 8) 8 (λ j. payload_at ls (8 * (p / 8) + j)) (omega arith) (λ j h. past_end ls (8 * (p / 8) + (p % 8 + j)) (omega (arith, behind)))

pub low_word : (ls : List Leaf) (p : ℕ) → size ls ≤ p → word (payload_bytes ls) (p / 8) < 256 ^ (p % 8)
low_word ls p behind =
    subst (λ (m : ℕ). m < 256 ^ (p % 8)) (sym (low_bytes ls p behind))
    (low_below (p % 8) (λ j. payload_at ls (8 * (p / 8) + j)) (λ j h. payload_small ls (8 * (p / 8) + j)))

-- and with it, it has the number's bits from there on
pub own_word : (ls : List Leaf) (w v : ℕ) → IsAlign w → v < 2 ^ (8 * w)
    → word (payload_bytes (whole w v ∷ ls)) (round_up (size ls) w / 8) ≡ word (payload_bytes ls) (round_up (size ls) w / 8) + 256 ^ (round_up (size ls) w % 8) * v
own_word ls w v align small =
    let p = round_up (size ls) w in
    let q = p / 8 in
    let s = p % 8 in
    let room : s + w ≤ 8 = in_word (size ls) w align in
    let behind : size ls ≤ p = size_le_place (size ls) w in
    let c : ℕ → ℕ = λ j. payload_at (whole w v ∷ ls) (8 * q + j) in
    let b : ℕ → ℕ = λ j. payload_at ls (8 * q + j) in
    let all : s + (8 - s) ≡ 8 = omega arith in
    let below : low s c ≡ low s b = low_ext s c b (λ j h. below_place (whole w v) ls (8 * q + j) (omega (arith, h))) in
    let above : low (8 - s) (λ j. c (s + j)) ≡ v
    = low_part w (8 - s - w) (8 - s) (λ j. c (s + j)) (omega (arith, room)) (λ j h. past_end (whole w v ∷ ls) (8 * q + (s + (w + j))) (omega arith))
    ∙ low_ext w (λ j. c (s + j)) (λ j. byte_at j v) (λ j h. at_place (whole w v) ls (8 * q + (s + j)) j h (omega arith))
    ∙ low_of w v align small in
    word_of_leaves (whole w v ∷ ls) q ∙ ap (λ (n : ℕ). low n c) (sym all) ∙ low_split s (8 - s) c
    ∙ ap (λ (n : ℕ). n + 256 ^ s * low (8 - s) (λ j. c (s + j))) (below ∙ sym (low_bytes ls p behind))
    ∙ ap (λ (n : ℕ). word (payload_bytes ls) q + 256 ^ s * n) above

-- ---- the words of a fragment

pow_256 : (s : ℕ) → 256 ^ s ≡ 2 ^ (8 * s)
pow_256 zero = refl
pow_256 (suc s) =
    let next : 8 * suc s ≡ 8 * s + 8 = omega arith in
    pow-suc 256 s ∙ ap (λ (n : ℕ). n * 256) (pow_256 s) ∙ sym (ap (λ (n : ℕ). 2 ^ n) next ∙ pow-add 2 (8 * s) 8)

abbrev pub words_of : List Leaf → List ℕ
words_of ls = map (word (payload_bytes ls)) (range_with_len 0 7)

long : (ls : List Leaf) → length (words_of ls) ≡ 7
long ls = length-map-range_with_len (word (payload_bytes ls)) 0 7

pub word_at : (ls : List Leaf) (k : ℕ) → k < 7 → get_or (words_of ls) k 0 ≡ word (payload_bytes ls) k
word_at ls k h = get_or-map-range_with_len (word (payload_bytes ls)) 0 7 k k 0 h (omega arith)

-- a number's bits where it stands in its word: none is lost
no_bit_lost : (p w v : ℕ) → p % 8 + w ≤ 8 → v < 2 ^ (8 * w) → v * 2 ^ (8 * (p % 8)) % 2 ^ 64 ≡ v * 2 ^ (8 * (p % 8))
no_bit_lost p w v room small = shl_exact (8 * w) (8 * (p % 8)) 64 small (omega (arith, room))

-- a number's own word, and what of it there was before
own_is : (ls : List Leaf) (w v : ℕ) → IsAlign w → v < 2 ^ (8 * w) → let p = round_up (size ls) w in
    word (payload_bytes (whole w v ∷ ls)) (p / 8) ≡ v * 2 ^ (8 * (p % 8)) + word (payload_bytes ls) (p / 8)
own_is ls w v align small =
    let p = round_up (size ls) w in
    let e : 256 ^ (p % 8) * v ≡ v * 2 ^ (8 * (p % 8)) = ap (λ (n : ℕ). n * v) (pow_256 (p % 8)) ∙ omega arith in
    own_word ls w v align small ∙ omega (arith, e)

below_is : (ls : List Leaf) (w : ℕ) → let p = round_up (size ls) w in word (payload_bytes ls) (p / 8) < 2 ^ (8 * (p % 8))
below_is ls w = subst (λ (n : ℕ). word (payload_bytes ls) (round_up (size ls) w / 8) < n) (pow_256 (round_up (size ls) w % 8)) (low_word ls (round_up (size ls) w) (size_le_place (size ls) w))

-- words that differ in one
one_differs : (us vs : List ℕ) (q x : ℕ) → length us ≡ 7 → length vs ≡ 7 → q < 7 → x ≡ get_or vs q 0 → ((k : ℕ) → k < 7 → k ≢ q → get_or us k 0 ≡ get_or vs k 0) → set us q x ≡ vs
one_differs us vs q x lu lv inside here others =
    ext_get_or 0 (set us q x) vs (length-set us q x ∙ lu ∙ sym lv) (λ k h.
    let small : k < 7 = omega (arith, h, length-set us q x, lu) in
    ⊎_elim
    (λ (before : k < q). let other : k ≢ q = omega (arith, before) in get_or-set_other us q k x 0 other ∙ others k small other)
    (λ (from : q ≤ k). ⊎_elim
    (λ (past : q < k). let other : k ≢ q = omega (arith, past) in get_or-set_other us q k x 0 other ∙ others k small other)
    (λ (to : k ≤ q).
    let same : k ≡ q = omega (arith, from, to) in
    ap (λ (n : ℕ). get_or (set us q x) n 0) same ∙ get_or-set_same us q x 0 (omega (arith, lu, inside)) ∙ here ∙ ap (λ (n : ℕ). get_or vs n 0) (sym same))
    (cases_lt q k))
    (cases_lt k q))

-- putting a number at its place makes the words those of its leaf too
pub put_leaf : (t : TheArgType) (ls : List Leaf) (v : ℕ) → IsAlign (width_of t) → v < 2 ^ (8 * width_of t) → round_up (size ls) (width_of t) / 8 < 7
    → put (place_at (round_up (size ls) (width_of t)) t) v (words_of ls) ≡ words_of (whole (width_of t) v ∷ ls)
put_leaf t ls v align small inside =
    let w = width_of t in
    let p = round_up (size ls) w in
    let q = p / 8 in
    let high = no_bit_lost p w v (in_word (size ls) w align) small in
    let here : bit_or (get_or (words_of ls) q 0) (v * 2 ^ (8 * (p % 8)) % 2 ^ 64) ≡ get_or (words_of (whole w v ∷ ls)) q 0
    = ap (λ (n : ℕ). bit_or n (v * 2 ^ (8 * (p % 8)) % 2 ^ 64)) (word_at ls q inside) ∙ ap (bit_or (word (payload_bytes ls) q)) high
    ∙ or_shifted_r v (8 * (p % 8)) (word (payload_bytes ls) q) (below_is ls w) ∙ sym (own_is ls w v align small) ∙ sym (word_at (whole w v ∷ ls) q inside) in
    one_differs (words_of ls) (words_of (whole w v ∷ ls)) q _ (long ls) (long (whole w v ∷ ls)) inside here
    (λ k h other. word_at ls k h ∙ sym (other_word ls w v k align other) ∙ sym (word_at (whole w v ∷ ls) k h))

-- and taking it from there makes them what they were
pub taken_leaf : (t : TheArgType) (ls : List Leaf) (v : ℕ) (ns : List ℕ) → IsAlign (width_of t) → v < 2 ^ (8 * width_of t) → v ≤ how_many_values t - 1 → round_up (size ls) (width_of t) / 8 < 7
    → taken_one (place_at (round_up (size ls) (width_of t)) t) (record { numbers = ns; left = words_of (whole (width_of t) v ∷ ls) })
    ≡ Some (record { numbers = v ∷ ns; left = words_of ls })
taken_leaf t ls v ns align small few inside =
    let w = width_of t in
    let p = round_up (size ls) w in
    let q = p / 8 in
    let s = 8 * (p % 8) in
    let ws = words_of (whole w v ∷ ls) in
    let is : get_or ws q 0 ≡ v * 2 ^ s + word (payload_bytes ls) q = word_at (whole w v ∷ ls) q inside ∙ own_is ls w v align small in
    let number : from_place_on (place_at p t) ws ≡ v = ap (λ (n : ℕ). n / 2 ^ s) is ∙ div-mul-add v (2 ^ s) (word (payload_bytes ls) q) (below_is ls w) in
    let high : v * 2 ^ s % 2 ^ 64 ≡ v * 2 ^ s = no_bit_lost p w v (in_word (size ls) w align) small in
    let rest : get_or ws q 0 - from_place_on (place_at p t) ws * 2 ^ s % 2 ^ 64 ≡ get_or (words_of ls) q 0
    = ap (λ (n : ℕ). get_or ws q 0 - n * 2 ^ s % 2 ^ 64) number ∙ omega (arith, is, high) ∙ sym (word_at ls q inside) in
    let left : without (place_at p t) ws ≡ words_of ls
    = one_differs ws (words_of ls) q _ (long (whole w v ∷ ls)) (long ls) inside rest
    (λ k h other. word_at (whole w v ∷ ls) k h ∙ other_word ls w v k align other ∙ sym (word_at ls k h)) in
    let made : List ℕ → List ℕ → Emptied = λ xs ys. record { numbers = xs; left = ys } in
    rw (le-leb (from_place_on (place_at p t) ws) (how_many_values t - 1) (subst (λ (n : ℕ). n ≤ how_many_values t - 1) (sym number) few))
    (ap (λ (n : ℕ). Some (made (n ∷ ns) (without (place_at p t) ws))) number ∙ ap (λ (ys : List ℕ). Some (made (v ∷ ns) ys)) left)
