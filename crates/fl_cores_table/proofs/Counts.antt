-- How often numbers stand in lists, and what refusals tell of a job.
use Rattle.std.proofs.Common.{◌≡◌, ◌≢◌, ◌⊎◌, inl, inr, ⊎_elim, ℕ, zero, suc, ◌+◌, ◌<◌, ◌≤◌, ◌==◌, Bool, true, false, if◌then◌else◌, eqb, eq-eqb, ne_eqb, List, [], ◌∷◌, ◌++◌, length, get_or, refl, sym, subst, ap, ◌∙◌, arith, rules}
use Rattle.std.specs.List.{range_with_len}
use mathlib.Core.Logic.{dite}
use native.Mathlib.Decide.{ℕ_discrete}
use Rattle.fl_cores_table.specs.declared.table.OpeningRefusal.{OpeningRefusal}
use Rattle.fl_cores_table.specs.Counter.{times, times_told, number_of, Stands, Agrees}

count_if : (b : Bool) (n : ℕ) → (if b then n + 1 else n) ≡ (if b then 1 else 0) + n
count_if true n = omega arith
count_if false n = omega arith

add_if : (b : Bool) (n k : ℕ) → (if b then n + k else n) ≡ (if b then k else 0) + n
add_if true n k = omega arith
add_if false n k = omega arith

pub times_join : (x : ℕ) (xs ys : List ℕ) → times x (xs ++ ys) ≡ times x xs + times x ys
times_join x [] ys = omega arith
times_join x (y ∷ xs) ys =
    let rest = times_join x xs ys in
    let a = count_if (y == x) (times x (xs ++ ys)) in
    let b = count_if (y == x) (times x xs) in omega (arith, rest, a, b)

pub told_join : (job : ℕ) (rs ss : List OpeningRefusal) → times_told job (rs ++ ss) ≡ times_told job rs + times_told job ss
told_join job [] ss = omega arith
told_join job (r ∷ rs) ss =
    let rest = told_join job rs ss in
    let a = count_if (r.job == job) (times_told job (rs ++ ss)) in
    let b = count_if (r.job == job) (times_told job rs) in omega (arith, rest, a, b)

pub number_join : (job : ℕ) (rs ss : List OpeningRefusal) → number_of job (rs ++ ss) ≡ number_of job rs + number_of job ss
number_join job [] ss = omega arith
number_join job (r ∷ rs) ss =
    let rest = number_join job rs ss in
    let a = add_if (r.job == job) (number_of job (rs ++ ss)) r.number in
    let b = add_if (r.job == job) (number_of job rs) r.number in omega (arith, rest, a, b)

pub stands_join : (ws : List ℕ) (rs ss : List OpeningRefusal) → Stands ws rs → Stands ws ss → Stands ws (rs ++ ss)
stands_join ws [] ss a b = b
stands_join ws (r ∷ rs) ss a b = (a.0, stands_join ws rs ss a.1 b)

-- of a job that wasn't told of there is no number
unacknowledged_if : (b : Bool) (n m k : ℕ) → (n ≡ 0 → m ≡ 0) → (if b then n + 1 else n) ≡ 0 → (if b then m + k else m) ≡ 0
unacknowledged_if true n m k rest e = absurd (omega (arith, e))
unacknowledged_if false n m k rest e = rest e

pub unacknowledged : (job : ℕ) (rs : List OpeningRefusal) → times_told job rs ≡ 0 → number_of job rs ≡ 0
unacknowledged job [] e = refl
unacknowledged job (r ∷ rs) e = unacknowledged_if (r.job == job) (times_told job rs) (number_of job rs) r.number (unacknowledged job rs) e

-- a seat without a core
pub none_times : (x : ℕ) (cs : List ℕ) → length cs ≤ 0 → times x cs ≡ 0
none_times x [] few = refl
none_times x (c ∷ cs) few = absurd (omega (arith, few))

-- no number stands twice in a range, and none below its first
range_once : (x a n : ℕ) → (times x (range_with_len a n) ≤ 1) × (x < a → times x (range_with_len a n) ≡ 0)
range_once x a zero = (omega arith, λ h. refl)
range_once x a (suc n) =
    let rest = range_once x (a + 1) n in
    dite (ℕ_discrete a x)
    (λ same.
    let one : (a == x) ≡ true = eq-eqb a x same in
    let none = rest.1 (omega (arith, same)) in
    let here : times x (range_with_len a (suc n)) ≡ times x (range_with_len (a + 1) n) + 1 = ap (λ (b : Bool). if b then times x (range_with_len (a + 1) n) + 1 else times x (range_with_len (a + 1) n)) one in
    (omega (arith, here, none), λ below. absurd (omega (arith, below, same))))
    (λ other.
    let not_one : (a == x) ≡ false = ne_eqb a x other in
    let here : times x (range_with_len a (suc n)) ≡ times x (range_with_len (a + 1) n) = ap (λ (b : Bool). if b then times x (range_with_len (a + 1) n) + 1 else times x (range_with_len (a + 1) n)) not_one in
    let few = rest.0 in
    (omega (arith, here, few), λ below. here ∙ rest.1 (omega (arith, below))))

pub range_times : (x n : ℕ) → times x (range_with_len 0 n) ≤ 1
range_times x n = (range_once x 0 n).0

-- a refusal more
pub told_here : (job number : ℕ) (rs : List OpeningRefusal) → (times_told job (record { job = job; number = number } ∷ rs) ≡ times_told job rs + 1) × (number_of job (record { job = job; number = number } ∷ rs) ≡ number_of job rs + number)
told_here job number rs =
    let one : (job == job) ≡ true = eq-eqb job job refl in
    (ap (λ (b : Bool). if b then times_told job rs + 1 else times_told job rs) one, ap (λ (b : Bool). if b then number_of job rs + number else number_of job rs) one)

pub told_else : (job other number : ℕ) (rs : List OpeningRefusal) → job ≢ other → (times_told other (record { job = job; number = number } ∷ rs) ≡ times_told other rs) × (number_of other (record { job = job; number = number } ∷ rs) ≡ number_of other rs)
told_else job other number rs apart =
    let none : (job == other) ≡ false = ne_eqb job other apart in
    (ap (λ (b : Bool). if b then times_told other rs + 1 else times_told other rs) none, ap (λ (b : Bool). if b then number_of other rs + number else number_of other rs) none)

-- what stands agrees with the word
pub agrees_stands : (ws : List ℕ) (job : ℕ) (rs : List OpeningRefusal) → Stands ws rs → Agrees job (get_or ws (job + 1) 0) rs
agrees_stands ws job [] h = tt
agrees_stands ws job (r ∷ rs) h = (
  λ same. ⊎_elim inl (λ stood. inr (sym stood ∙ ap (λ (k : ℕ). get_or ws (k + 1) 0) same)) h.0,
  agrees_stands ws job rs h.1,
)
