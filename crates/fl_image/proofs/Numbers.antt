-- Numbers and names: what is read is spelled so, and what is spelled so is read.
use Rattle.std.proofs.Common.{◌≡◌, ℕ, suc, ◌+◌, ◌*◌, ◌/◌, ◌%◌, ◌^◌, ◌<◌, ◌≤◌, Bool, true, false, cond, ltb, List, [], ◌∷◌, ◌++◌, length, take, drop, Ok, Err, refl, sym, ap, subst, arith}
use Rattle.std.specs.Cmp.{first_so, second_so}
use Rattle.std.proofs.lemmas.Bool.{ltb-false, le-ltb, leb-true}
use Rattle.std.proofs.lemmas.List.{take_at, drop_at, take-append-drop, length-append, length-take, get_or-drop}
use Rattle.fl_stub.specs.Structure.{is_within}
use Rattle.fl_image.specs.declared.fault.BadImage.TheVariants.{EndsEarly}
use Rattle.fl_image.specs.Image.{one, two, four, name_image, is_word, is_name}
use Rattle.fl_image.specs.Reading.{◌>>=◌, in_range, one_at, two_at, four_at, len_at, word_at, name_at}
use Rattle.fl_image.proofs.ReadBack.{IsBytes, Law, Takes, follow, mapped, ranged, ok_is}

pub bytes_behind : (b : ℕ) (bytes : List ℕ) → IsBytes (b ∷ bytes) → IsBytes bytes
bytes_behind b bytes h i = h (suc i)

one_takes : (bytes : List ℕ) (n : ℕ) (rest : List ℕ) → IsBytes bytes → one_at bytes ≡ Ok (n, rest) → Takes bytes (one n) rest × (n < 256)
unfolding one_at
one_takes [] n rest h e = absurd cc
one_takes (b ∷ bs) n rest h e =
    let small : b < 256 = h 0 in
    let same : b ≡ b % 256 = omega (arith, small) in
    subst (λ (q : ℕ × List ℕ). Takes (b ∷ bs) (one q.0) q.1 × (q.0 < 256)) (ok_is (b, bs) (n, rest) e)
    (record { parts = ap (λ (t : ℕ). t ∷ bs) same; rest_fits = bytes_behind b bs h }, small)

one_again : (n : ℕ) (rest : List ℕ) → n < 256 → one_at (one n ++ rest) ≡ Ok (n, rest)
unfolding one_at
one_again n rest small =
    let same : n % 256 ≡ n = omega (arith, small) in
    ap (λ (t : ℕ). Ok (t, rest)) same

pub one_law : Law one_at one (λ n. n < 256)
one_law = record { takes = one_takes; again = one_again }

-- the high byte of a number with this low byte
abbrev two_from : ℕ → ℕ → Type 0
two_from low n = (n % 256 ≡ low) × (n < 65536)

high_law : (low : ℕ) → low < 256 → Law (λ bytes. one_at bytes >>= λ high. Ok (low + 256 * high.0, high.1)) (λ n. one (n / 256)) (two_from low)
high_law low small = mapped one_at one (λ n. n < 256) (λ high. low + 256 * high) (λ n. one (n / 256)) (two_from low) one_law record {
  made = λ high lt.
      let whole : (low + 256 * high) / 256 ≡ high = omega (arith, small, lt) in
      let part : (low + 256 * high) % 256 ≡ low = omega (arith, small, lt) in
      (ap one whole, (part, omega (arith, small, lt)));
  cut = λ n h.
      let sum : low + 256 * (n / 256) ≡ n = omega (arith, h.0) in
      let lt : n / 256 < 256 = omega (arith, h.1) in
      (n / 256, sum, lt);
}

pub two_law : Law two_at two (λ n. n < 65536)
unfolding two_at
two_law = follow one_at one (λ n. n < 256) (λ low bytes. one_at bytes >>= λ high. Ok (low + 256 * high.0, high.1)) (λ low n. one (n / 256)) two_from two (λ n. n < 65536) one_law high_law record {
  joined = λ low n small h.
      let same : n % 256 ≡ low % 256 = omega (arith, small, h.0) in
      (ap (λ (t : ℕ). t ∷ n / 256 % 256 ∷ []) same, h.1);
  cut = λ n h.
      let small : n % 256 < 256 = omega arith in
      (n % 256, small, (refl, h));
}

abbrev four_from : ℕ → ℕ → Type 0
four_from low n = (n % 65536 ≡ low) × (n < 2 ^ 32)

upper_law : (low : ℕ) → low < 65536 → Law (λ bytes. two_at bytes >>= λ high. Ok (low + 65536 * high.0, high.1)) (λ n. two (n / 65536)) (four_from low)
upper_law low small = mapped two_at two (λ n. n < 65536) (λ high. low + 65536 * high) (λ n. two (n / 65536)) (four_from low) two_law record {
  made = λ high lt.
      let whole : (low + 65536 * high) / 65536 ≡ high = omega (arith, small, lt) in
      let part : (low + 65536 * high) % 65536 ≡ low = omega (arith, small, lt) in
      (ap two whole, (part, omega (arith, small, lt)));
  cut = λ n h.
      let sum : low + 65536 * (n / 65536) ≡ n = omega (arith, h.0) in
      let lt : n / 65536 < 65536 = omega (arith, h.1) in
      (n / 65536, sum, lt);
}

two_low : (n low : ℕ) → n % 65536 ≡ low → two n ≡ two low
two_low n low e =
    let a : n % 256 ≡ low % 256 = omega (arith, e) in
    let b : n / 256 % 256 ≡ low / 256 % 256 = omega (arith, e) in
    rw (a, b) refl

pub four_law : Law four_at four (λ n. n < 2 ^ 32)
unfolding four_at
four_law = follow two_at two (λ n. n < 65536) (λ low bytes. two_at bytes >>= λ high. Ok (low + 65536 * high.0, high.1)) (λ low n. two (n / 65536)) four_from four (λ n. n < 2 ^ 32) two_law upper_law record {
  joined = λ low n small h. (ap (λ (t : List ℕ). t ++ two (n / 65536)) (two_low n low h.0), h.1);
  cut = λ n h.
      let small : n % 65536 < 65536 = omega arith in
      (n % 65536, small, (refl, h));
}

-- ---- names

drop_fits : (n : ℕ) (bytes : List ℕ) → IsBytes bytes → IsBytes (drop n bytes)
drop_fits n bytes h i = rw get_or-drop (h (n + i))

word_ok : (early word : Bool) (p q : List ℕ × List ℕ) → cond early (Err EndsEarly) (in_range word p) ≡ Ok q → (early ≡ false) × (word ≡ true) × (p ≡ q)
word_ok true word p q e = absurd cc
word_ok false true p q e = (refl, refl, cc)
word_ok false false p q e = absurd cc

abbrev is_word_of : ℕ → List ℕ → Type 0
is_word_of len w = (length w ≡ len) × (is_word w ≡ true)

word_takes : (len : ℕ) (bytes w rest : List ℕ) → IsBytes bytes → word_at len bytes ≡ Ok (w, rest) → Takes bytes w rest × is_word_of len w
unfolding word_at
word_takes len bytes w rest h e =
    let s = word_ok (ltb (length bytes) len) (is_word (take len bytes)) (take len bytes, drop len bytes) (w, rest) e in
    let long : len ≤ length bytes = ltb-false _ _ s.0 in
    let whole : Takes bytes (take len bytes) (drop len bytes) = record { parts = sym (take-append-drop len bytes); rest_fits = drop_fits len bytes h } in
    subst (λ (q : List ℕ × List ℕ). Takes bytes q.0 q.1 × is_word_of len q.0) s.2 (whole, (omega (arith, long, length-take len bytes), s.1))

word_again : (len : ℕ) (w rest : List ℕ) → is_word_of len w → word_at len (w ++ rest) ≡ Ok (w, rest)
unfolding word_at
word_again len w rest h =
    let long : ltb (length (w ++ rest)) len ≡ false = le-ltb _ _ (omega (arith, h.0, length-append w rest)) in
    rw (long, take_at w rest len h.0, drop_at w rest len h.0, h.1) refl

pub len_law : Law len_at one (λ n. (n < 256) × (is_within 64 n ≡ true))
unfolding len_at
len_law = ranged one_at one (λ n. n < 256) (is_within 64) one_law

word_some : (w : List ℕ) → is_word w ≡ true → 1 ≤ length w
word_some [] h = absurd cc
word_some (b ∷ bs) h = omega arith

name_within : (n : ℕ) (w : List ℕ) → length w ≡ n → is_word w ≡ true → is_within 64 n ≡ true → is_name w ≡ true
name_within n w len word h = grind (arith, len, word, h)

within_name : (w : List ℕ) → is_name w ≡ true → (length w < 256) × (is_within 64 (length w) ≡ true) × (is_word w ≡ true)
within_name w h =
    let short : length w ≤ 64 = leb-true _ _ (first_so _ _ h) in
    let word : is_word w ≡ true = second_so _ _ h in
    let some : 1 ≤ length w = word_some w word in
    (omega (arith, short), grind (arith, short, some), word)

pub name_law : Law name_at name_image (λ w. is_name w ≡ true)
unfolding name_at
name_law = follow len_at one (λ n. (n < 256) × (is_within 64 n ≡ true)) word_at (λ len w. w) is_word_of name_image (λ w. is_name w ≡ true) len_law (λ len h. record { takes = word_takes len; again = word_again len }) record {
  joined = λ len w h1 h2. (ap (λ (n : ℕ). one n ++ w) h2.0, name_within len w h2.0 h2.1 h1.1);
  cut = λ w h. let p = within_name w h in (length w, (p.0, p.1), (refl, p.2));
}
