-- What a leaf adds to a payload's bytes.
use Rattle.std.proofs.Common.{◌≡◌, ℕ, zero, suc, ◌+◌, ◌-◌, ◌<◌, ◌≤◌, true, false, ⊎_elim, List, [], ◌∷◌, ◌++◌, map, length, get_or, replicate, refl, sym, ◌∙◌, ap, subst, arith, cond, ◌&&◌, leb}
use Rattle.std.specs.List.{range_with_len}
use Rattle.std.specs.Int.{byte_at, bytes_low_first}
use Rattle.std.proofs.lemmas.List.{length-append, length-replicate, get_or-replicate, get_or_append_left, get_or-append_right, ext_get_or, append-nil}
use Rattle.std.proofs.lemmas.List.FromFn.{length-map-range_with_len, get_or-map-range_with_len}
use Rattle.std.proofs.lemmas.Bool.{cases_lt}
use borrow.Author.Tests.{lt-ltb, le-ltb, le-leb, lt-leb}
use Rattle.fl_layout.specs.Leaves.{Leaf, gap}
use Rattle.fl_layout.specs.Places.{size, place}
use Rattle.fl_wire.specs.Payload.{payload_at, payload_bytes}
use Rattle.fl_stub.specs.Meaning.{number_bytes}
use Rattle.fl_compile.specs.Compiled.{padding}

pub length_payload : (ls : List Leaf) → length (payload_bytes ls) ≡ size ls
length_payload ls = length-map-range_with_len (payload_at ls) 0 (size ls)

get_payload : (ls : List Leaf) (p : ℕ) → p < size ls → get_or (payload_bytes ls) p 0 ≡ payload_at ls p
get_payload ls p h = get_or-map-range_with_len (payload_at ls) 0 (size ls) p p 0 h (omega arith)

-- before a leaf's place stand the bytes of the leaves before it
below_place : (l : Leaf) (ls : List Leaf) (p : ℕ) → p < place l ls → payload_at (l ∷ ls) p ≡ payload_at ls p
below_place l ls p h = rw (lt-leb (place l ls) p h) refl

-- at its place its own
at_place : (l : Leaf) (ls : List Leaf) (p j : ℕ) → j < l.width → p ≡ place l ls + j → payload_at (l ∷ ls) p ≡ byte_at j l.value
at_place l ls p j h e =
    let start = place l ls in
    let sub : p - start ≡ j = omega arith in
    rw (le-leb start p (omega arith), lt-ltb p (start + l.width) (omega arith)) (ap (λ m. byte_at m l.value) sub)

-- and past the end zeros
past_end : (ls : List Leaf) (p : ℕ) → size ls ≤ p → payload_at ls p ≡ 0
past_end [] p h = refl
past_end (l ∷ ls) p h =
    rw (le-ltb p (place l ls + l.width) h) (
    let least : size ls ≤ place l ls = omega arith in
    let before : payload_at ls p ≡ 0 = past_end ls p (omega (arith, least)) in
    elim (leb (place l ls) p) as (λ v. cond (v && false) (byte_at (p - place l ls) l.value) (payload_at ls p) ≡ 0) [ true ↦ before | false ↦ before ])

-- the bytes before a leaf's place
abbrev prefix : Leaf → List Leaf → List ℕ
prefix l ls = payload_bytes ls ++ replicate (padding (size ls) l.align) 0

-- a leaf's own bytes
abbrev own : Leaf → List ℕ
own l = map (λ j. byte_at j l.value) (range_with_len 0 l.width)

prefix_length : (l : Leaf) (ls : List Leaf) → length (prefix l ls) ≡ place l ls
prefix_length l ls =
    let missing = padding (size ls) l.align in
    length-append (payload_bytes ls) (replicate missing 0) ∙ omega (arith, length_payload ls, length-replicate {A = ℕ} missing 0)

prefix_at : (l : Leaf) (ls : List Leaf) (p : ℕ) → p < place l ls → get_or (prefix l ls) p 0 ≡ payload_at ls p
prefix_at l ls p h =
    let missing = padding (size ls) l.align in ⊎_elim
    (λ (below : p < size ls). get_or_append_left (payload_bytes ls) (replicate missing 0) 0 p (omega (arith, length_payload ls, below)) ∙ get_payload ls p below)
    (λ (past : size ls ≤ p).
    get_or-append_right (payload_bytes ls) (replicate missing 0) (size ls) p 0 (length_payload ls) past
    ∙ get_or-replicate missing (p - size ls) 0 0 (omega (arith, h, past))
    ∙ sym (past_end ls p past))
    (cases_lt p (size ls))

byte_same : (l : Leaf) (ls : List Leaf) (p : ℕ) → p < size (l ∷ ls) → payload_at (l ∷ ls) p ≡ get_or (prefix l ls ++ own l) p 0
byte_same l ls p h =
    let long : length (prefix l ls) ≡ place l ls = prefix_length l ls in ⊎_elim
    (λ (below : p < place l ls).
    below_place l ls p below ∙ sym (get_or_append_left (prefix l ls) (own l) 0 p (omega (arith, long, below)) ∙ prefix_at l ls p below))
    (λ (past : place l ls ≤ p).
    let j = p - place l ls in
    let small : j < l.width = omega (arith, h, past) in
    at_place l ls p j small (omega (arith, past))
    ∙ sym (get_or-append_right (prefix l ls) (own l) (place l ls) p 0 long past ∙ get_or-map-range_with_len (λ j. byte_at j l.value) 0 l.width j j 0 small (omega arith)))
    (cases_lt p (place l ls))

-- a payload with one leaf more: zeros up to its place, and its bytes
leaf_bytes : (l : Leaf) (ls : List Leaf) → payload_bytes (l ∷ ls) ≡ prefix l ls ++ own l
leaf_bytes l ls =
    let back = length-map-range_with_len (λ j. byte_at j l.value) 0 l.width in
    let long : length (payload_bytes (l ∷ ls)) ≡ length (prefix l ls ++ own l)
    = length_payload (l ∷ ls) ∙ sym (length-append (prefix l ls) (own l) ∙ omega (arith, prefix_length l ls, back)) in
    ext_get_or 0 (payload_bytes (l ∷ ls)) (prefix l ls ++ own l) long
    (λ p h. let h' : p < size (l ∷ ls) = subst (λ (n : ℕ). p < n) (length_payload (l ∷ ls)) h in
    get_payload (l ∷ ls) p h' ∙ byte_same l ls p h')

low_bytes : (i width x : ℕ) → map (λ j. byte_at j x) (range_with_len i width) ≡ bytes_low_first i width x
low_bytes i zero x = refl
low_bytes i (suc width) x =
    let one : i + 1 ≡ suc i = omega arith in
    ap (λ (m : ℕ). byte_at i x ∷ map (λ j. byte_at j x) (range_with_len m width)) one ∙ ap (λ (bs : List ℕ). byte_at i x ∷ bs) (low_bytes (suc i) width x)

-- ---- what contracts on code need

pub gap_bytes : (align : ℕ) (ls : List Leaf) → payload_bytes (gap align ∷ ls) ≡ payload_bytes ls ++ replicate (padding (size ls) align) 0
gap_bytes align ls = leaf_bytes (gap align) ls ∙ append-nil (prefix (gap align) ls)

-- a number after the zeros before it
pub number_written : (align width x : ℕ) (ls : List Leaf)
    → payload_bytes (record { align = align; width = width; value = x } ∷ ls) ≡ payload_bytes (gap align ∷ ls) ++ number_bytes width x
number_written align width x ls =
    let l : Leaf = record { align = align; width = width; value = x } in
    leaf_bytes l ls ∙ ap (λ (bs : List ℕ). bs ++ own l) (sym (gap_bytes align ls)) ∙ ap (λ (bs : List ℕ). payload_bytes (gap align ∷ ls) ++ bs) (low_bytes 0 width x)

pub number_length : (i width x : ℕ) → length (bytes_low_first i width x) ≡ width
number_length i zero x = refl
number_length i (suc width) x = omega (arith, number_length (suc i) width x)

-- no zeros where the place is a multiple
pub no_gap : (align : ℕ) (ls : List Leaf) → padding (size ls) align ≡ 0 → payload_bytes (gap align ∷ ls) ≡ payload_bytes ls
no_gap align ls none = gap_bytes align ls ∙ ap (λ (n : ℕ). payload_bytes ls ++ replicate n 0) none ∙ append-nil (payload_bytes ls)
