-- Payloads by places, and what appending a leaf's bytes makes of them.
use Rattle.std.proofs.Common.{◌≡◌, ℕ, zero, suc, ◌+◌, ◌-◌, ◌*◌, ◌<◌, ◌≤◌, true, false, ◌⊎◌, inl, inr, ⊎_elim, List, [], ◌∷◌, ◌++◌, map, length, get_or, take, drop, replicate, slice_index, refl, sym, ◌∙◌, ap, subst, arith, cond, ◌&&◌, leb, add-zero, Some, None}
use Rattle.std.specs.Prelude.{slice_get}
use Rattle.std.specs.List.{range_with_len}
use Rattle.std.specs.Int.{byte_at, to_le_bytes, from_le_bytes, w64}
use Rattle.std.proofs.lemmas.List.{length-append, length-replicate, get_or-replicate, get_or_append_left, get_or-append_right, get_or-drop, ext_get_or}
use Rattle.std.proofs.lemmas.List.FromFn.{length-map-range_with_len, get_or-map-range_with_len}
use Rattle.std.proofs.lemmas.Bool.{cases_lt}
use borrow.Author.Tests.{lt-ltb, le-ltb, le-leb, lt-leb}
use Rattle.fl_interface.specs.Interface.{TheInterface}
use Rattle.fl_value_data.specs.Value.{TheCall}
use Rattle.fl_value_data.specs.declared.value.PlanNo.{PlanNo}
use Rattle.fl_interface.specs.Sizes.{round_up}
use Rattle.fl_layout.specs.Leaves.{Leaf, leaves, whole}
use Rattle.fl_layout.specs.Places.{size, place, count, count_for}
use Rattle.fl_wire.specs.Payload.{payload_at, payload_bytes, payload_of, word, frag_on, frags_of}

pub length_payload : (ls : List Leaf) → length (payload_bytes ls) ≡ size ls
length_payload ls = length-map-range_with_len (payload_at ls) 0 (size ls)

pub get_payload : (ls : List Leaf) (p : ℕ) → p < size ls → get_or (payload_bytes ls) p 0 ≡ payload_at ls p
get_payload ls p h = get_or-map-range_with_len (payload_at ls) 0 (size ls) p p 0 h (omega arith)

-- a leaf stands after those before it
pub size_le_place : (n align : ℕ) → n ≤ round_up n align
size_le_place n align = omega arith

-- before a leaf's place, the bytes are those of the leaves before it
pub below_place : (l : Leaf) (ls : List Leaf) (p : ℕ) → p < place l ls → payload_at (l ∷ ls) p ≡ payload_at ls p
below_place l ls p h = rw (lt-leb (place l ls) p h) refl

-- a leaf's bytes stand at its place
pub at_place : (l : Leaf) (ls : List Leaf) (p j : ℕ) → j < l.width → p ≡ place l ls + j → payload_at (l ∷ ls) p ≡ byte_at j l.value
at_place l ls p j h e =
    let start = place l ls in
    let sub : p - start ≡ j = omega arith in
    rw (le-leb start p (omega arith), lt-ltb p (start + l.width) (omega arith)) (ap (λ m. byte_at m l.value) sub)

-- past the end every byte is 0
pub past_end : (ls : List Leaf) (p : ℕ) → size ls ≤ p → payload_at ls p ≡ 0
past_end [] p h = refl
past_end (l ∷ ls) p h =
    rw (le-ltb p (place l ls + l.width) h) (
    let before : payload_at ls p ≡ 0 = past_end ls p (omega (arith, size_le_place (size ls) l.align)) in
    elim (leb (place l ls) p) as (λ v. cond (v && false) (byte_at (p - place l ls) l.value) (payload_at ls p) ≡ 0) [ true ↦ before | false ↦ before ])

abbrev pub joined : Leaf → List Leaf → ℕ → List ℕ
joined l ls missing = (payload_bytes ls ++ replicate missing 0) ++ map (λ j. byte_at j l.value) (range_with_len 0 l.width)

length_prefix : (ls : List Leaf) (missing n : ℕ) → size ls + missing ≡ n → length (payload_bytes ls ++ replicate missing 0) ≡ n
length_prefix ls missing n e = length-append (payload_bytes ls) (replicate missing 0) ∙ omega (arith, length_payload ls, length-replicate {A = ℕ} missing 0, e)

same_length : (l : Leaf) (ls : List Leaf) (missing : ℕ) → size ls + missing ≡ place l ls → length (payload_bytes (l ∷ ls)) ≡ length (joined l ls missing)
same_length l ls missing e =
    let prefix = length_prefix ls missing (place l ls) e in
    let back = length-map-range_with_len (λ j. byte_at j l.value) 0 l.width in
    length_payload (l ∷ ls)
    ∙ sym (length-append (payload_bytes ls ++ replicate missing 0) (map (λ j. byte_at j l.value) (range_with_len 0 l.width))
    ∙ omega (arith, prefix, back))

get_prefix : (ls : List Leaf) (missing p : ℕ) → p < size ls + missing → get_or (payload_bytes ls ++ replicate missing 0) p 0 ≡ payload_at ls p
get_prefix ls missing p h = ⊎_elim
    (λ (below : p < size ls). get_or_append_left (payload_bytes ls) (replicate missing 0) 0 p (omega (arith, length_payload ls, below)) ∙ get_payload ls p below)
    (λ (past : size ls ≤ p).
    get_or-append_right (payload_bytes ls) (replicate missing 0) (size ls) p 0 (length_payload ls) past
    ∙ get_or-replicate missing (p - size ls) 0 0 (omega (arith, h, past))
    ∙ sym (past_end ls p past))
    (cases_lt p (size ls))

same_byte : (l : Leaf) (ls : List Leaf) (missing : ℕ) → size ls + missing ≡ place l ls → (p : ℕ) → p < size (l ∷ ls) → payload_at (l ∷ ls) p ≡ get_or (joined l ls missing) p 0
same_byte l ls missing e p h =
    let prefix = payload_bytes ls ++ replicate missing 0 in
    let back = map (λ j. byte_at j l.value) (range_with_len 0 l.width) in
    let long : length prefix ≡ place l ls = length_prefix ls missing (place l ls) e in
    ⊎_elim
    (λ (below : p < place l ls).
    below_place l ls p below ∙ sym (get_or_append_left prefix back 0 p (omega (arith, long, below)) ∙ get_prefix ls missing p (omega (arith, e, below))))
    (λ (past : place l ls ≤ p).
    let j = p - place l ls in
    let small : j < l.width = omega (arith, h, past) in
    at_place l ls p j small (omega (arith, past))
    ∙ sym (get_or-append_right prefix back (place l ls) p 0 long past ∙ get_or-map-range_with_len (λ j. byte_at j l.value) 0 l.width j j 0 small (omega arith)))
    (cases_lt p (place l ls))

-- a payload with one leaf more: zeros up to its place, then its bytes
pub payload_more : (l : Leaf) (ls : List Leaf) (missing : ℕ) → size ls + missing ≡ place l ls
    → payload_bytes (l ∷ ls) ≡ (payload_bytes ls ++ replicate missing 0) ++ map (λ j. byte_at j l.value) (range_with_len 0 l.width)
payload_more l ls missing e =
    ext_get_or 0 (payload_bytes (l ∷ ls)) (joined l ls missing) (same_length l ls missing e)
    (λ p h. let h' : p < size (l ∷ ls) = subst (λ (n : ℕ). p < n) (length_payload (l ∷ ls)) h in
    get_payload (l ∷ ls) p h' ∙ same_byte l ls missing e p h')

-- the words after 56 * k bytes
window : (n a b len : ℕ) (xs : List ℕ) → n + a ≡ b → map (slice_index (drop n xs)) (range_with_len a len) ≡ map (slice_index xs) (range_with_len b len)
window n a b zero xs e = refl
window n a b (suc len) xs e =
    let head : slice_index (drop n xs) a ≡ slice_index xs b = get_or-drop n xs a 0 ∙ ap (λ m. get_or xs m 0) e in
    let rest = window n (a + 1) (b + 1) len xs (omega arith) in
    cc

pub word_after : (k j m : ℕ) (xs : List ℕ) → 7 * k + j ≡ m → word (drop (56 * k) xs) j ≡ word xs m
word_after k j m xs e = ap (from_le_bytes w64) (window (56 * k) (8 * j) (8 * m) 8 xs (omega arith))

seven : (a b c d e f g h i j k l m n : ℕ) → a ≡ h → b ≡ i → c ≡ j → d ≡ k → e ≡ l → f ≡ m → g ≡ n
    → a ∷ b ∷ c ∷ d ∷ e ∷ f ∷ g ∷ [] ≡ h ∷ i ∷ j ∷ k ∷ l ∷ m ∷ n ∷ []
seven a b c d e f g h i j k l m n p q r s t u v = cc

-- the seven words of a fragment
pub fragment_words : (xs rest : List ℕ) (k : ℕ) → rest ≡ drop (56 * k) xs
    → (a b c d e f g : ℕ) → a ≡ word rest 0 → b ≡ word rest 1 → c ≡ word rest 2 → d ≡ word rest 3 → e ≡ word rest 4 → f ≡ word rest 5 → g ≡ word rest 6
    → a ∷ b ∷ c ∷ d ∷ e ∷ f ∷ g ∷ [] ≡ map (word xs) (range_with_len (7 * k) 7)
fragment_words xs rest k r a b c d e f g ha hb hc hd he hf hg =
    let P : (w j m : ℕ) → w ≡ word rest j → 7 * k + j ≡ m → w ≡ word xs m
    = λ w j m h n. h ∙ ap (λ (ys : List ℕ). word ys j) r ∙ word_after k j m xs n in
    let m0 = 7 * k in let m1 = m0 + 1 in let m2 = m1 + 1 in let m3 = m2 + 1 in let m4 = m3 + 1 in let m5 = m4 + 1 in let m6 = m5 + 1 in
    seven _ _ _ _ _ _ _ _ _ _ _ _ _ _ (P a 0 m0 ha (omega arith)) (P b 1 m1 hb (omega arith)) (P c 2 m2 hc (omega arith)) (P d 3 m3 hd (omega arith))
    (P e 4 m4 he (omega arith)) (P f 5 m5 hf (omega arith)) (P g 6 m6 hg (omega arith))

-- the low bytes of a number of 8 bytes
pub low_bytes : (w n : ℕ) → (w ≡ 1) ⊎ ((w ≡ 2) ⊎ ((w ≡ 4) ⊎ (w ≡ 8))) → take w (to_le_bytes w64 n) ≡ map (λ j. byte_at j n) (range_with_len 0 w)
low_bytes w n (inl e) = subst (λ (v : ℕ). take v (to_le_bytes w64 n) ≡ map (λ j. byte_at j n) (range_with_len 0 v)) (sym e) refl
low_bytes w n (inr (inl e)) = subst (λ (v : ℕ). take v (to_le_bytes w64 n) ≡ map (λ j. byte_at j n) (range_with_len 0 v)) (sym e) refl
low_bytes w n (inr (inr (inl e))) = subst (λ (v : ℕ). take v (to_le_bytes w64 n) ≡ map (λ j. byte_at j n) (range_with_len 0 v)) (sym e) refl
low_bytes w n (inr (inr (inr e))) = subst (λ (v : ℕ). take v (to_le_bytes w64 n) ≡ map (λ j. byte_at j n) (range_with_len 0 v)) (sym e) refl

-- what is written for a number of so many bytes
pub number_written : (before : List Leaf) (old aligned new : List ℕ) (w n : ℕ) → (w ≡ 1) ⊎ ((w ≡ 2) ⊎ ((w ≡ 4) ⊎ (w ≡ 8)))
    → old ≡ payload_bytes before
    → aligned ≡ old ++ replicate (round_up (length old) w - length old) 0
    → new ≡ aligned ++ take w (to_le_bytes w64 n)
    → new ≡ payload_bytes (whole w n ∷ before)
number_written before old aligned new w n width is_old is_aligned is_new =
    let long : length old ≡ size before = ap length is_old ∙ length_payload before in
    let missing = round_up (size before) w - size before in
    let aligned_is : aligned ≡ payload_bytes before ++ replicate missing 0
    = is_aligned ∙ ap (λ (m : ℕ). old ++ replicate (round_up m w - m) 0) long ∙ ap (λ (xs : List ℕ). xs ++ replicate missing 0) is_old in
    is_new ∙ ap (λ (xs : List ℕ). aligned ++ xs) (low_bytes w n width)
    ∙ ap (λ (xs : List ℕ). xs ++ map (λ j. byte_at j n) (range_with_len 0 w)) aligned_is
    ∙ sym (payload_more (whole w n) before missing (omega (arith, size_le_place (size before) w)))

-- an element of a list made by a function of the index
pub get_made : {X : Type 0} (f : ℕ → X) (a n k : ℕ) → k < n → slice_get (map f (range_with_len a n)) k ≡ Some (f (a + k))
get_made f a zero k h = absurd (omega arith)
get_made f a (suc n) zero h = rw add-zero refl
get_made f a (suc n) (suc k) h = get_made f (a + 1) n k (omega arith) ∙ ap (λ (m : ℕ). Some (f m)) (omega arith)

pub get_made_past : {X : Type 0} (f : ℕ → X) (a n k : ℕ) → n ≤ k → slice_get (map f (range_with_len a n)) k ≡ None
get_made_past f a zero k h = refl
get_made_past f a (suc n) zero h = absurd (omega arith)
get_made_past f a (suc n) (suc k) h = get_made_past f (a + 1) n k (omega arith)

-- fragment k of a call, from its payload
pub frag_of_payload : (plan : PlanNo) (i : TheInterface) (c : TheCall) (bytes : List ℕ) (n k : ℕ) → bytes ≡ payload_of plan i c → n ≡ count_for (length bytes)
    → k < n → Some (frag_on 0 c.msg bytes k) ≡ slice_get (frags_of plan i c) k
frag_of_payload plan i c bytes n k e en h =
    let long : n ≡ count plan i c = en ∙ ap count_for (ap length e ∙ length_payload (leaves plan i c)) in
    sym (get_made (frag_on 0 c.msg (payload_of plan i c)) 0 (count plan i c) k (subst (λ (m : ℕ). k < m) long h)
    ∙ ap (λ (m : ℕ). Some (frag_on 0 c.msg (payload_of plan i c) m)) (omega arith)
    ∙ ap (λ (bs : List ℕ). Some (frag_on 0 c.msg bs k)) (sym e))

pub no_frag_past : (plan : PlanNo) (i : TheInterface) (c : TheCall) (bytes : List ℕ) (n k : ℕ) → bytes ≡ payload_of plan i c → n ≡ count_for (length bytes)
    → n ≤ k → None ≡ slice_get (frags_of plan i c) k
no_frag_past plan i c bytes n k e en h =
    let long : n ≡ count plan i c = en ∙ ap count_for (ap length e ∙ length_payload (leaves plan i c)) in
    sym (get_made_past (frag_on 0 c.msg (payload_of plan i c)) 0 (count plan i c) k (subst (λ (m : ℕ). m ≤ k) long h))

-- the same where they are listed by that word's function
pub words_from : (xs rest : List ℕ) (k : ℕ) → rest ≡ drop (56 * k) xs → map (word rest) (range_with_len 0 7) ≡ map (word xs) (range_with_len (7 * k) 7)
words_from xs rest k r = fragment_words xs rest k r _ _ _ _ _ _ _ refl refl refl refl refl refl refl
