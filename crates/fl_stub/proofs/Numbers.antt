-- Numbers as bytes: their first bytes, and two lists that begin alike.
use Rattle.std.proofs.Common.{◌≡◌, ℕ, zero, suc, ◌+◌, ◌-◌, ◌*◌, ◌/◌, ◌%◌, ◌^◌, ◌<◌, ◌≤◌, lit<, List, [], ◌∷◌, ◌++◌, length, take, get_or, refl, sym, ◌∙◌, ap, subst, arith, append_assoc}
use Rattle.std.specs.Int.{bytes_low_first, byte_at}
use Rattle.std.proofs.Math.Nat.{div-div-eq-div-mul, pow-suc, pow-succ', one-le-pow, mod-add-div, mod-lt, mul_assoc, mul_comm}
use Rattle.std.proofs.lemmas.Nat.{div_below}
use Rattle.std.proofs.lemmas.List.{length-append, get_or_append_left, append_cancel_left, take_at}
use Rattle.fl_stub.specs.Meaning.{number_bytes}
use Rattle.fl_stub.specs.Streams.{Follows}

next_byte : (i n : ℕ) → byte_at (suc i) n ≡ byte_at i (n / 256)
next_byte zero n = refl
next_byte (suc i) n =
    let e : n / 256 / 256 ^ suc i ≡ n / (256 * 256 ^ suc i) = div-div-eq-div-mul n 256 (256 ^ suc i) in
    ap (λ (k : ℕ). k % 256) (ap (λ (k : ℕ). n / k) (pow_more (suc i)) ∙ sym e)
  where
    pow_more : (k : ℕ) → 256 ^ suc k ≡ 256 * 256 ^ k
    pow_more k = pow-succ' 256 k

bytes_from_next : (i k n : ℕ) → bytes_low_first (suc i) k n ≡ bytes_low_first i k (n / 256)
bytes_from_next i zero n = refl
bytes_from_next i (suc k) n = ap (λ (b : ℕ). b ∷ bytes_low_first (suc (suc i)) k n) (next_byte i n) ∙ ap (λ (x : List ℕ). byte_at i (n / 256) ∷ x) (bytes_from_next (suc i) k n)

pub first_byte : (width value : ℕ) → number_bytes (suc width) value ≡ value % 256 ∷ number_bytes width (value / 256)
first_byte width value = ap (λ (x : List ℕ). value % 256 ∷ x) (bytes_from_next 0 width value)

length_low : (i k n : ℕ) → length (bytes_low_first i k n) ≡ k
length_low i zero n = refl
length_low i (suc k) n = ap suc (length_low (suc i) k n)

pub length_bytes : (width value : ℕ) → length (number_bytes width value) ≡ width
length_bytes width value = length_low 0 width value

pub pow_positive : (k : ℕ) → 0 < 256 ^ k
pow_positive k = let e : 1 ≤ 256 ^ k = one-le-pow k 256 (lit< tt) in omega (arith, e)

pub next_below : (h v : ℕ) → v < 256 ^ suc h → v / 256 < 256 ^ h
next_below h v small = let e : 256 ^ suc h ≡ 256 ^ h * 256 = pow-suc 256 h in div_below v 256 (256 ^ h) (lit< tt) (omega (arith, small, e))

-- the bytes of two numbers, one behind the other, are those of one
pub join_bytes : (h n v m : ℕ) → v < 256 ^ h → number_bytes h v ++ number_bytes n m ≡ number_bytes (h + n) (v + m * 256 ^ h)
join_bytes zero n v m small =
    let e : m ≡ v + m * 256 ^ 0 = omega (arith, small) in
    let k : n ≡ 0 + n = omega arith in
    λ i. number_bytes (k i) (e i)
join_bytes (suc h) n v m small =
    let pow : 256 ^ suc h ≡ 256 ^ h * 256 = pow-suc 256 h in
    let times : m * 256 ^ suc h ≡ m * 256 ^ h * 256 = ap (λ (k : ℕ). m * k) pow ∙ sym (mul_assoc m (256 ^ h) 256) in
    let high : ℕ = m * 256 ^ h in
    let all : ℕ = v + m * 256 ^ suc h in
    let low : v % 256 ≡ all % 256 = omega (arith, times) in
    let rest : v / 256 + m * 256 ^ h ≡ all / 256 = omega (arith, times) in
    let longer : suc (h + n) ≡ suc h + n = omega arith in
    ap (λ (x : List ℕ). x ++ number_bytes n m) (first_byte h v)
    ∙ ap (λ (x : List ℕ). v % 256 ∷ x) (join_bytes h n (v / 256) m (next_below h v small))
    ∙ (λ i. low i ∷ number_bytes (h + n) (rest i))
    ∙ sym (first_byte (h + n) all)
    ∙ ap (λ (k : ℕ). number_bytes k all) longer

-- a number's first bytes are those of its low part
pub split_bytes : (j r x : ℕ) → number_bytes (j + r) x ≡ number_bytes j (x % 256 ^ j) ++ number_bytes r (x / 256 ^ j)
split_bytes j r x =
    let whole : x % 256 ^ j + x / 256 ^ j * 256 ^ j ≡ x = ap (λ (k : ℕ). x % 256 ^ j + k) (mul_comm (x / 256 ^ j) (256 ^ j)) ∙ mod-add-div x (256 ^ j) in
    sym (join_bytes j r (x % 256 ^ j) (x / 256 ^ j) (mod-lt x (pow_positive j)) ∙ ap (number_bytes (j + r)) whole)

pub same_number : (width x y : ℕ) → x < 256 ^ width → y < 256 ^ width → number_bytes width x ≡ number_bytes width y → x ≡ y
same_number zero x y a b e = omega (arith, a, b)
same_number (suc width) x y a b e =
    let f : x % 256 ∷ number_bytes width (x / 256) ≡ y % 256 ∷ number_bytes width (y / 256) = sym (first_byte width x) ∙ e ∙ first_byte width y in
    let low : x % 256 ≡ y % 256 = cc in
    let rest : number_bytes width (x / 256) ≡ number_bytes width (y / 256) = cc in
    let high : x / 256 ≡ y / 256 = same_number width (x / 256) (y / 256) (next_below width x a) (next_below width y b) rest in
    omega (arith, low, high)

-- the bytes done, some of a number's, and the others
pub cut : (done more : List ℕ) (t low j : ℕ) → j ≤ t
    → done ++ (number_bytes t low ++ more) ≡ (done ++ number_bytes j (low % 256 ^ j)) ++ (number_bytes (t - j) (low / 256 ^ j) ++ more)
cut done more t low j few =
    let e : t ≡ j + (t - j) = omega (arith, few) in
    let prefix : List ℕ = number_bytes j (low % 256 ^ j) in
    let back : List ℕ = number_bytes (t - j) (low / 256 ^ j) in
    ap (λ (k : ℕ). done ++ (number_bytes k low ++ more)) e
    ∙ ap (λ (x : List ℕ). done ++ (x ++ more)) (split_bytes j (t - j) low)
    ∙ ap (λ (x : List ℕ). done ++ x) (append_assoc prefix back more)
    ∙ sym (append_assoc done prefix (back ++ more))

pub same_prefix : (u v a b : List ℕ) → length u ≡ length v → ((i : ℕ) → i < length u → get_or (u ++ a) i 0 ≡ get_or (v ++ b) i 0) → u ≡ v
same_prefix [] [] a b e h = refl
same_prefix [] (y ∷ v) a b e h = absurd (omega (arith, e))
same_prefix (x ∷ u) [] a b e h = absurd (omega (arith, e))
same_prefix (x ∷ u) (y ∷ v) a b e h =
    let first : x ≡ y = h 0 (omega arith) in
    let long : length u ≡ length v = omega (arith, e) in
    let rest : u ≡ v = same_prefix u v a b long (λ i small. h (suc i) (omega (arith, small))) in
    λ i. first i ∷ rest i

pub prefix_follows : (u a b : List ℕ) (n : ℕ) → length u ≡ n → Follows n (u ++ a) (u ++ b)
prefix_follows u a b n long = record { each = λ i small. get_or_append_left u a 0 i (omega (arith, small, long)) ∙ sym (get_or_append_left u b 0 i (omega (arith, small, long))) }

-- two lists that begin with the same bytes and then with as many of two numbers' follow one another only if those are the same
pub same_low : (done a b : List ℕ) (j x y n : ℕ) → x < 256 ^ j → y < 256 ^ j → n ≡ length done + j
    → Follows n ((done ++ number_bytes j x) ++ a) ((done ++ number_bytes j y) ++ b) → x ≡ y
same_low done a b j x y n low low2 long f =
    let one : length (done ++ number_bytes j x) ≡ length done + j = length-append done (number_bytes j x) ∙ ap (λ (k : ℕ). length done + k) (length_bytes j x) in
    let two : length (done ++ number_bytes j y) ≡ length done + j = length-append done (number_bytes j y) ∙ ap (λ (k : ℕ). length done + k) (length_bytes j y) in
    let same = same_prefix (done ++ number_bytes j x) (done ++ number_bytes j y) a b (one ∙ sym two) (λ i small. f.each i (omega (arith, small, one, long))) in
    same_number j x y low low2 (append_cancel_left done (number_bytes j x) (number_bytes j y) same)

-- two numbers, one behind the other, have no more bytes than both
pub join_small : (h n v m : ℕ) → v < 256 ^ h → m < 256 ^ n → v + m * 256 ^ h < 256 ^ (h + n)
join_small zero n v m small fits =
    let k : n ≡ 0 + n = omega arith in
    subst (λ (i : ℕ). v + m * 256 ^ 0 < 256 ^ i) k (omega (arith, small, fits))
join_small (suc h) n v m small fits =
    let pow : 256 ^ suc h ≡ 256 ^ h * 256 = pow-suc 256 h in
    let times : m * 256 ^ suc h ≡ m * 256 ^ h * 256 = ap (λ (k : ℕ). m * k) pow ∙ sym (mul_assoc m (256 ^ h) 256) in
    let longer : suc h + n ≡ suc (h + n) = omega arith in
    let high : 256 ^ (suc h + n) ≡ 256 ^ (h + n) * 256 = ap (λ (k : ℕ). 256 ^ k) longer ∙ pow-suc 256 (h + n) in
    let less = join_small h n (v / 256) m (next_below h v small) fits in
    omega (arith, times, high, less)

-- of eight bytes the first are those of the low part
pub low_bytes_of : (n word : ℕ) (bytes : List ℕ) → n ≤ 8 → number_bytes 8 word ≡ bytes → number_bytes n (word % 256 ^ n) ≡ take n bytes
low_bytes_of n word bytes few e =
    let k : 8 ≡ n + (8 - n) = omega (arith, few) in
    let split : bytes ≡ number_bytes n (word % 256 ^ n) ++ number_bytes (8 - n) (word / 256 ^ n) = sym e ∙ ap (λ (i : ℕ). number_bytes i word) k ∙ split_bytes n (8 - n) word in
    sym (ap (take n) split ∙ take_at (number_bytes n (word % 256 ^ n)) (number_bytes (8 - n) (word / 256 ^ n)) n (length_bytes n (word % 256 ^ n)))
