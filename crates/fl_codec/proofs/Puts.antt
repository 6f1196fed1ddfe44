-- Numbers put into words and taken from them.
use Rattle.std.proofs.Common.{◌≡◌, ◌≢◌, ℕ, zero, suc, ◌+◌, ◌-◌, ◌*◌, ◌/◌, ◌%◌, ◌^◌, ◌<◌, ◌≤◌, Bool, true, false, cond, leb, eqb, List, [], ◌∷◌, length, get_or, set, take, drop, refl, sym, ◌∙◌, ap, subst, arith}
use Rattle.std.specs.Prelude.{Option, Some, None, slice_index, bit_or}
use Rattle.std.specs.List.{list_all}
use Rattle.std.specs.Cmp.{first_so, second_so}
use Rattle.std.specs.Int.Bits.{or_shifted_r}
use Rattle.std.proofs.Math.Nat.{div-mul-le_self, mod-eq_of_lt, mod-lt}
use Rattle.std.proofs.lemmas.Nat.{div-add-mod', pow_pos}
use Rattle.std.proofs.lemmas.List.{get_or-set_same, set-get_or, length-set, drop_more}
use Rattle.std.proofs.lemmas.Bool.{le-leb, lt-leb, ltb-true}
use Rattle.fl_base.specs.Given.{given}
use Rattle.fl_codec.specs.declared.place.NumberPlace.{NumberPlace}
use Rattle.fl_codec.specs.Words.{is_inside, put, filled, from_place_on, without, Emptied, taken_one, taken, numbers_filling, AreWords}

-- ---- the loops

-- not as many numbers as places
pub filled_unlike : (ps : List NumberPlace) (ns ws : List ℕ) → length ns ≢ length ps → filled ps ns ws ≡ None
filled_unlike [] [] ws h = absurd (h refl)
filled_unlike [] (n ∷ ns) ws h = refl
filled_unlike (p ∷ ps) [] ws h = refl
filled_unlike (p ∷ ps) (n ∷ ns) ws h =
    elim (leb n p.last) as (λ v. cond v (filled ps ns (put p n ws)) None ≡ None) [
      | true ↦ filled_unlike ps ns (put p n ws) (λ e. h (omega (arith, e)))
      | false ↦ refl
    ]

-- one place more
taken_more : (ps : List NumberPlace) (k index : ℕ) (d : NumberPlace) (ws : List ℕ) (t : Emptied) → k < length ps → index ≡ k + 1 → taken (drop index ps) ws ≡ Some t
    → taken (drop k ps) ws ≡ taken_one (get_or ps k d) t
taken_more ps k index d ws t inside e is =
    ap (λ (l : List NumberPlace). taken l ws) (drop_more ps k d inside)
    ∙ ap (λ (o : Option Emptied). given o None (taken_one (get_or ps k d))) (ap (λ (m : ℕ). taken (drop m ps) ws) (sym e) ∙ is)

none_before : (ps : List NumberPlace) (k : ℕ) (ws : List ℕ) → taken (drop k ps) ws ≡ None → taken ps ws ≡ None
none_before ps zero ws e = e
none_before [] (suc k) ws e = e
none_before (p ∷ ps) (suc k) ws e = ap (λ (o : Option Emptied). given o None (taken_one p)) (none_before ps k ws e)

front_set : (k n : ℕ) (xs : List ℕ) (x : ℕ) → k < n → n ≤ length xs → drop k (take n (set xs k x)) ≡ x ∷ drop (suc k) (take n xs)
front_set k zero xs x h few = absurd (omega (arith, h))
front_set k (suc n) [] x h few = absurd (omega (arith, few))
front_set zero (suc n) (y ∷ xs) x h few = refl
front_set (suc k) (suc n) (y ∷ xs) x h few = front_set k n xs x (omega (arith, h)) (omega (arith, few))

-- a number taken, kept with those behind it
pub one_taken : (ps : List NumberPlace) (k index w : ℕ) (d : NumberPlace) (ws left numbers : List ℕ) → k < length ps → index ≡ k + 1 → length ps ≤ length numbers → w ≡ (get_or ps k d).word
    → slice_index left w / 2 ^ (get_or ps k d).shift ≤ (get_or ps k d).last
    → taken (drop index ps) ws ≡ Some (record { numbers = drop index (take (length ps) numbers); left = left })
    → taken (drop k ps) ws ≡ Some (record {
      numbers = drop k (take (length ps) (set numbers k (slice_index left w / 2 ^ (get_or ps k d).shift)));
      left = set left w (slice_index left w - slice_index left w / 2 ^ (get_or ps k d).shift * 2 ^ (get_or ps k d).shift % 2 ^ 64);
    })
one_taken ps k index w d ws left numbers inside e few at fits is =
    let p = get_or ps k d in
    let n = length ps in
    let x = from_place_on p left in
    let next : index ≡ suc k = omega (arith, e) in
    let made : List ℕ → ℕ → Emptied = λ ns v. record { numbers = ns; left = set left v (slice_index left v - slice_index left v / 2 ^ p.shift * 2 ^ p.shift % 2 ^ 64) } in
    let small : leb (from_place_on p left) p.last ≡ true = le-leb (from_place_on p left) p.last (subst (λ (v : ℕ). slice_index left v / 2 ^ p.shift ≤ p.last) at fits) in
    taken_more ps k index d ws (record { numbers = drop index (take n numbers); left = left }) inside e is
    ∙ ap (λ (v : Bool). cond v (Some (record { numbers = x ∷ drop index (take n numbers); left = without p left })) None) small
    ∙ ap (λ (m : ℕ). Some (record { numbers = x ∷ drop m (take n numbers); left = without p left })) next
    ∙ ap (λ (ns : List ℕ). Some (made ns p.word)) (sym (front_set k n numbers x inside few))
    ∙ ap (λ (v : ℕ). Some (made (drop k (take n (set numbers k (slice_index left v / 2 ^ p.shift)))) v)) (sym at)

-- a number past the last of its place
pub none_taken : (ps : List NumberPlace) (k index w : ℕ) (d : NumberPlace) (ws left numbers : List ℕ) → k < length ps → index ≡ k + 1 → w ≡ (get_or ps k d).word
    → (get_or ps k d).last < slice_index left w / 2 ^ (get_or ps k d).shift
    → taken (drop index ps) ws ≡ Some (record { numbers = numbers; left = left }) → numbers_filling ps ws ≡ None
none_taken ps k index w d ws left numbers inside e at past is =
    let p = get_or ps k d in
    let t : Emptied = record { numbers = numbers; left = left } in
    let large : leb (from_place_on p left) p.last ≡ false = lt-leb (from_place_on p left) p.last (subst (λ (v : ℕ). p.last < slice_index left v / 2 ^ p.shift) at past) in
    let here : taken (drop k ps) ws ≡ None
    = taken_more ps k index d ws t inside e is ∙ ap (λ (v : Bool). cond v (Some (record { numbers = from_place_on p left ∷ numbers; left = without p left })) None) large in
    ap (λ (o : Option Emptied). given o None (λ (t : Emptied). cond (list_all (λ w. eqb w 0) t.left) (Some t.numbers) None)) (none_before ps k ws here)

-- all are taken
pub all_taken : (ps : List NumberPlace) (k n : ℕ) (ws left numbers : List ℕ) (blank : Bool) → k ≡ 0 → taken (drop k ps) ws ≡ Some (record { numbers = drop k (take n numbers); left = left })
    → blank ≡ list_all (λ w. eqb w 0) left → cond blank (Some (take n numbers)) None ≡ numbers_filling ps ws
all_taken ps k n ws left numbers blank e is b =
    let whole : taken ps ws ≡ Some (record { numbers = take n numbers; left = left })
    = subst (λ (m : ℕ). taken (drop m ps) ws ≡ Some (record { numbers = drop m (take n numbers); left = left })) e is in
    ap (λ (v : Bool). cond v (Some (take n numbers)) None) b
    ∙ sym (ap (λ (o : Option Emptied). given o None (λ (t : Emptied). cond (list_all (λ w. eqb w 0) t.left) (Some t.numbers) None)) whole)

-- ---- what is taken and put again

set_twice : (xs : List ℕ) (i a b : ℕ) → set (set xs i a) i b ≡ set xs i b
set_twice [] i a b = refl
set_twice (x ∷ xs) zero a b = refl
set_twice (x ∷ xs) (suc i) a b = ap (λ (l : List ℕ). x ∷ l) (set_twice xs i a b)

-- the low bits of a word, and those above them
pub parted : (r s : ℕ) → r < 2 ^ 64 → (r - r / 2 ^ s * 2 ^ s % 2 ^ 64 ≡ r % 2 ^ s) × (r / 2 ^ s * 2 ^ s % 2 ^ 64 ≡ r / 2 ^ s * 2 ^ s)
parted r s small =
    let most = div-mul-le_self r (2 ^ s) in
    let all = div-add-mod' r (2 ^ s) in
    let whole : r / 2 ^ s * 2 ^ s % 2 ^ 64 ≡ r / 2 ^ s * 2 ^ s = mod-eq_of_lt (omega (arith, small, most)) in
    (omega (arith, all, whole), whole)

-- a word, from its low bits and those above them
pub joined : (r s : ℕ) → r < 2 ^ 64 → bit_or (r - r / 2 ^ s * 2 ^ s % 2 ^ 64) (r / 2 ^ s * 2 ^ s % 2 ^ 64) ≡ r
joined r s small =
    let (low, high) = parted r s small in
    let below : r % 2 ^ s < 2 ^ s = mod-lt r (pow_pos s) in
    ap (λ (m : ℕ). bit_or m (r / 2 ^ s * 2 ^ s % 2 ^ 64)) low ∙ ap (bit_or (r % 2 ^ s)) high
    ∙ or_shifted_r (r / 2 ^ s) s (r % 2 ^ s) below ∙ div-add-mod' r (2 ^ s)

pub put_back : (p : NumberPlace) (ws : List ℕ) → is_inside p ≡ true → AreWords ws → put p (from_place_on p ws) (without p ws) ≡ ws
put_back p ws inside words =
    let r = slice_index ws p.word in
    let within : p.word < length ws = omega (arith, words.seven, ltb-true p.word 7 (first_so _ _ inside)) in
    let less = r - from_place_on p ws * 2 ^ p.shift % 2 ^ 64 in
    set_twice ws p.word less (bit_or (slice_index (without p ws) p.word) (from_place_on p ws * 2 ^ p.shift % 2 ^ 64))
    ∙ ap (set ws p.word) (ap (λ (m : ℕ). bit_or m (from_place_on p ws * 2 ^ p.shift % 2 ^ 64)) (get_or-set_same ws p.word less 0 within) ∙ joined r p.shift (words.small p.word))
    ∙ set-get_or ws p.word 0

set_small : (ws : List ℕ) (w v : ℕ) → AreWords ws → v < 2 ^ 64 → AreWords (set ws w v)
set_small ws w v words small = record { seven = length-set ws w v ∙ words.seven; small = λ i. all ws w i v words.small small }
  where
    all : (ws : List ℕ) (w i v : ℕ) → ((i : ℕ) → get_or ws i 0 < 2 ^ 64) → v < 2 ^ 64 → get_or (set ws w v) i 0 < 2 ^ 64
    all [] w i v h small = h i
    all (x ∷ ws) zero zero v h small = small
    all (x ∷ ws) zero (suc i) v h small = h (suc i)
    all (x ∷ ws) (suc w) zero v h small = h 0
    all (x ∷ ws) (suc w) (suc i) v h small = all ws w i v (λ j. h (suc j)) small

pub without_words : (p : NumberPlace) (ws : List ℕ) → AreWords ws → AreWords (without p ws)
without_words p ws words = set_small ws p.word _ words (omega (arith, words.small p.word))

-- what is taken fills the words again
pub record Refills (ps : List NumberPlace) (ws : List ℕ) (t : Emptied) : Type 0 where
  pub words : AreWords t.left
  pub fills : filled ps t.numbers t.left ≡ Some ws

refills_one : (p : NumberPlace) (ps : List NumberPlace) (ws : List ℕ) (u t : Emptied) (b : Bool) → leb (from_place_on p u.left) p.last ≡ b → is_inside p ≡ true → Refills ps ws u
    → cond b (Some (record { numbers = from_place_on p u.left ∷ u.numbers; left = without p u.left })) None ≡ Some t → Refills (p ∷ ps) ws t
refills_one p ps ws u t false small inside h e = absurd (cc)
refills_one p ps ws u t true small inside h e =
    let same : record { numbers = from_place_on p u.left ∷ u.numbers; left = without p u.left } ≡ t = cc in
    let fills : filled (p ∷ ps) (from_place_on p u.left ∷ u.numbers) (without p u.left) ≡ Some ws
    = ap (λ (v : Bool). cond v (filled ps u.numbers (put p (from_place_on p u.left) (without p u.left))) None) small
    ∙ ap (filled ps u.numbers) (put_back p u.left inside h.words) ∙ h.fills in
    subst (Refills (p ∷ ps) ws) same (record { words = without_words p u.left h.words; fills = fills })

refills_at : (p : NumberPlace) (ps : List NumberPlace) (ws : List ℕ) (t : Emptied) (o : Option Emptied) → taken ps ws ≡ o → is_inside p ≡ true
    → ((u : Emptied) → taken ps ws ≡ Some u → Refills ps ws u) → given o None (taken_one p) ≡ Some t → Refills (p ∷ ps) ws t
refills_at p ps ws t None is inside before e = absurd (cc)
refills_at p ps ws t (Some u) is inside before e = refills_one p ps ws u t (leb (from_place_on p u.left) p.last) refl inside (before u is) e

pub refills : (ps : List NumberPlace) (ws : List ℕ) (t : Emptied) → list_all is_inside ps ≡ true → AreWords ws → taken ps ws ≡ Some t → Refills ps ws t
refills [] ws t inside words e =
    let same : record { numbers = []; left = ws } ≡ t = cc in
    subst (Refills [] ws) same (record { words = words; fills = refl })
refills (p ∷ ps) ws t inside words e =
    refills_at p ps ws t (taken ps ws) refl (first_so (is_inside p) _ inside) (λ u is. refills ps ws u (second_so (is_inside p) _ inside) words is) e
