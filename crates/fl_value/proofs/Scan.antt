-- Runs of bytes that pass a test, and what stands where in a text.
use Rattle.std.proofs.Common.{◌≡◌, ◌≤◌, ◌<◌, ◌+◌, ◌-◌, ◌*◌, ◌^◌, ℕ, zero, suc, List, [], ◌∷◌, ◌++◌, length, take, drop, arith, add-one, pow-suc, ◌&&◌, get_or, refl, ap, sym, ◌∙◌, Bool, true, false, append_assoc, cond}
use Rattle.std.proofs.lemmas.Bool.Decides.{nat_tests}
use Rattle.std.proofs.lemmas.Int.Digits.{digits_value-lt, digits_value_more}
use Rattle.std.proofs.lemmas.Str.Parse.{digit_from_value}
use Rattle.std.proofs.lemmas.List.Folds.{length-prefix_len, list_all-append}
use Rattle.std.proofs.lemmas.List.{take-append-drop, length-take-le}
use Rattle.std.proofs.Math.Nat.{pow-le-pow_right}
use Rattle.std.specs.Prelude.{nat_le}
use Rattle.std.proofs.lemmas.Bool.{leb-true, false≢true}
use Rattle.std.proofs.lemmas.Str.{digit_value_digit}
use Rattle.std.specs.Cmp.{first_so, second_so}
use Rattle.std.specs.List.{list_all, prefix_len}
use Rattle.std.specs.Char.{digit_value}
use Rattle.std.specs.Str.Parse.{digits_value, AllDigits}
use Rattle.fl_lex.specs.Words.{is_digit}
use Rattle.fl_value.specs.CallText.{is_blank, Blanks, Digits, StopsAt}

-- two splits at the end of the same run are one
pub run_once : (p : ℕ → Bool) (a b x y : List ℕ) → list_all p a ≡ true → list_all p b ≡ true → StopsAt p x → StopsAt p y → a ++ x ≡ b ++ y → (a ≡ b) × (x ≡ y)
run_once p [] [] x y pa pb sx sy e = (refl, e)
run_once p [] (c ∷ b) (d ∷ x) y pa pb sx sy e =
    let same : p d ≡ p c = ap p (cc) in
    absurd (false≢true (sym sx ∙ same ∙ first_so (p c) (list_all p b) pb))
run_once p [] (c ∷ b) [] y pa pb sx sy e = absurd (cc)
run_once p (c ∷ a) [] x (d ∷ y) pa pb sx sy e =
    let same : p d ≡ p c = ap p (cc) in
    absurd (false≢true (sym sy ∙ same ∙ first_so (p c) (list_all p a) pa))
run_once p (c ∷ a) [] x [] pa pb sx sy e = absurd (cc)
run_once p (c ∷ a) (d ∷ b) x y pa pb sx sy e =
    let head : c ≡ d = cc in
    let tail : a ++ x ≡ b ++ y = cc in
    let r = run_once p a b x y (second_so (p c) (list_all p a) pa) (second_so (p d) (list_all p b) pb) sx sy tail in
    let ra : a ≡ b = r.0 in
    (cc, r.1)

pub one_more : (n : ℕ) → 1 + n ≡ suc n
one_more n = omega arith

-- the longest run at the front
passes_prefix : (p : ℕ → Bool) (x : ℕ) (xs : List ℕ) (b : Bool) → p x ≡ b → list_all p (take (prefix_len p xs) xs) ≡ true → list_all p (take (cond b (1 + prefix_len p xs) 0) (x ∷ xs)) ≡ true
passes_prefix p x xs true e h = rw (one_more (prefix_len p xs)) (ap (λ t. t && list_all p (take (prefix_len p xs) xs)) e ∙ h)
passes_prefix p x xs false e h = refl

pub run_passes : (p : ℕ → Bool) (xs : List ℕ) → list_all p (take (prefix_len p xs) xs) ≡ true
run_passes p [] = refl
run_passes p (x ∷ xs) = passes_prefix p x xs (p x) refl (run_passes p xs)

stops_prefix : (p : ℕ → Bool) (x : ℕ) (xs : List ℕ) (b : Bool) → p x ≡ b → StopsAt p (drop (prefix_len p xs) xs) → StopsAt p (drop (cond b (1 + prefix_len p xs) 0) (x ∷ xs))
stops_prefix p x xs true e h = rw (one_more (prefix_len p xs)) h
stops_prefix p x xs false e h = e

pub run_stops : (p : ℕ → Bool) (xs : List ℕ) → StopsAt p (drop (prefix_len p xs) xs)
run_stops p [] = tt
run_stops p (x ∷ xs) = stops_prefix p x xs (p x) refl (run_stops p xs)

digit_low : (d : ℕ) → is_digit d ≡ true → digit_value d < 10
digit_low d h =
    let least = leb-true 48 d (first_so (nat_le 48 d) (nat_le d 57) h) in
    let most = leb-true d 57 (second_so (nat_le 48 d) (nat_le d 57) h) in
    omega (arith, digit_value_digit d (least, most), most)

pub all_digits : (ds : List ℕ) → list_all is_digit ds ≡ true → AllDigits 10 ds
all_digits [] h = tt
all_digits (d ∷ ds) h = (digit_low d (first_so (is_digit d) (list_all is_digit ds) h), all_digits ds (second_so (is_digit d) (list_all is_digit ds) h))

pub digits_prefix : (ds : List ℕ) (n : ℕ) → AllDigits 10 ds → AllDigits 10 (take n ds)
digits_prefix [] zero h = tt
digits_prefix [] (suc n) h = tt
digits_prefix (d ∷ ds) zero h = tt
digits_prefix (d ∷ ds) (suc n) h = (h.0, digits_prefix ds n h.1)

pub digit_is : (c : ℕ) → digit_value c < 10 → digit_value c ≡ c - 48
digit_is c h = let r = digit_from_value c h in grind (arith, nat_tests)

-- up to n digits write a number below 10 ^ n
pub small_value : (ds : List ℕ) (n : ℕ) → AllDigits 10 ds → length ds ≤ n → digits_value 10 ds < 10 ^ n
small_value ds n h few =
    let less = digits_value-lt 10 ds h in
    let most = pow-le-pow_right {n = 10} (omega arith) {i = length ds} {j = n} few in
    omega (arith, less, most)

-- the run that a count tells
pub counted : (xs : List ℕ) → 0 < prefix_len is_digit xs → prefix_len is_digit xs ≤ 20 → Digits (digits_value 10 (take (prefix_len is_digit xs) xs)) xs (drop (prefix_len is_digit xs) xs)
counted xs some few = record {
  digits = take (prefix_len is_digit xs) xs;
  all = run_passes is_digit xs;
  some = omega (arith, length-prefix_len is_digit xs);
  few = omega (arith, length-prefix_len is_digit xs);
  value = refl;
  split = sym (take-append-drop (prefix_len is_digit xs) xs);
  stops = run_stops is_digit xs;
}

-- what stands there is the longest run
pub digits_once : (xs : List ℕ) (m n : ℕ) (x y : List ℕ) → Digits m xs x → Digits n xs y → (m ≡ n) × (x ≡ y)
digits_once xs m n x y a b =
    let r = run_once is_digit a.digits b.digits x y a.all b.all a.stops b.stops (sym a.split ∙ b.split) in
    (a.value ∙ ap (digits_value 10) r.0 ∙ sym b.value, r.1)

pub digits_count : (xs : List ℕ) (n : ℕ) (rest : List ℕ) → Digits n xs rest → (0 < prefix_len is_digit xs) × (prefix_len is_digit xs ≤ 20)
digits_count xs n rest d =
    let r = run_once is_digit (take (prefix_len is_digit xs) xs) d.digits _ rest (run_passes is_digit xs) d.all (run_stops is_digit xs) d.stops (take-append-drop (prefix_len is_digit xs) xs ∙ d.split) in
    let same = ap length r.0 in
    let count = length-prefix_len is_digit xs in
    (omega (arith, same, count, d.some), omega (arith, same, count, d.few))

-- one more blank
pub blank_more : (bytes rest : List ℕ) (b : ℕ) → Blanks bytes (b ∷ rest) → is_blank b ≡ true → Blanks bytes rest
blank_more bytes rest b h e = record {
  blanks = h.blanks ++ (b ∷ []);
  all = list_all-append is_blank h.blanks (b ∷ []) ∙ ap (λ t. t && (is_blank b && true)) h.all ∙ ap (λ t. t && true) e;
  split = h.split ∙ sym (append_assoc h.blanks (b ∷ []) rest);
}

pub blank_none : (bytes : List ℕ) → Blanks bytes bytes
blank_none bytes = record { blanks = []; all = refl; split = refl }

pub digit_within : (ds : List ℕ) (i : ℕ) → AllDigits 10 ds → i < length ds → digit_value (get_or ds i 0) ≡ get_or ds i 0 - 48
digit_within [] i h within = absurd (omega arith)
digit_within (d ∷ ds) zero h within = digit_is d h.0
digit_within (d ∷ ds) (suc i) h within = digit_within ds i h.1 (omega arith)

-- what the digits before one of 20 write has room for another, and so before one of 19
pub room : (digits : List ℕ) (i value : ℕ) → AllDigits 10 digits → length digits ≤ 20 → i < length digits → value ≡ digits_value 10 (take i digits) → value < 10 ^ 19
room digits i value all few within e =
    omega (arith, e, small_value (take i digits) 19 (digits_prefix digits i all) (omega (arith, length-take-le i digits, few)))

-- one digit more, where those before it are few enough
pub record DigitMore (bytes : List ℕ) (count value : ℕ) : Type 0 where
  pub least : 48 ≤ get_or bytes count 0
  pub most : get_or bytes count 0 ≤ 57
  pub value_is : value * 10 + (get_or bytes count 0 - 48) ≡ digits_value 10 (take (count + 1) bytes)
  pub small : value * 10 + (get_or bytes count 0 - 48) < 10 ^ (count + 1)
  pub room : count < 19 → value < 10 ^ 18

pub digit_more : (bytes : List ℕ) (count value : ℕ) → count < length bytes → is_digit (get_or bytes count 0) ≡ true → value ≡ digits_value 10 (take count bytes) → value < 10 ^ count
    → DigitMore bytes count value
digit_more bytes count value within digit is small =
    let d = get_or bytes count 0 in
    let least = leb-true 48 d (first_so (nat_le 48 d) (nat_le d 57) digit) in
    let most = leb-true d 57 (second_so (nat_le 48 d) (nat_le d 57) digit) in
    let worth : digit_value d ≡ d - 48 = digit_is d (digit_low d digit) in
    let more = digits_value_more 10 bytes count within in
    let next : value * 10 + (d - 48) ≡ digits_value 10 (take (count + 1) bytes) = omega (arith, is, more, worth) in
    let wide : 10 ^ (count + 1) ≡ 10 ^ count * 10 = ap (λ (k : ℕ). 10 ^ k) (add-one count) ∙ pow-suc 10 count in
    record {
      least = least;
      most = most;
      value_is = next;
      small = omega (arith, small, wide, most);
      room = λ few. let high : 10 ^ count ≤ 10 ^ 18 = pow-le-pow_right {n = 10} (omega arith) {i = count} {j = 18} (omega (arith, few)) in omega (arith, small, high);
    }

pub digit_step : (digits : List ℕ) (i value more : ℕ) → AllDigits 10 digits → i < length digits → value ≡ digits_value 10 (take i digits) → more ≡ get_or digits i 0 - 48 → value * 10 + more ≡ digits_value 10 (take (i + 1) digits)
digit_step digits i value more all within e f =
    omega (arith, e, f, digits_value_more 10 digits i within, digit_within digits i all within)
