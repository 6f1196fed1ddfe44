-- The plan's order: what it does to values beside their types, and how it is undone.
use Rattle.std.proofs.Common.{◌≡◌, ℕ, zero, suc, ◌+◌, ◌-◌, ◌<◌, ◌≤◌, Bool, true, false, ⊎_elim, List, [], ◌∷◌, ◌++◌, length, map, take, drop, get_or, refl, sym, ◌∙◌, ap, subst, arith, cond, eqb, leb, ltb, ◌&&◌, max, eq-eqb, length-append, append_assoc}
use Rattle.std.specs.Prelude.{filter}
use Rattle.std.specs.List.{zip, insert, remove, count_by}
use Rattle.std.specs.Cmp.{first_so, second_so}
use Rattle.std.proofs.lemmas.Bool.{cases_lt, false≢true, ne_eqb}
use Rattle.std.proofs.lemmas.Bool.Decides.{nat_tests}
use Rattle.std.proofs.lemmas.List.Recursion.{is_count_by}
use Rattle.std.proofs.lemmas.List.{take-append-drop, append-nil, map-append}
use Rattle.fl_interface.specs.Interface.{TheArgType, fixed, text, sized}
use Rattle.fl_interface.specs.Sizes.{align_of}
use Rattle.fl_interface.proofs.Aligned.{by_align, type_align}
use Rattle.fl_value_data.specs.declared.value.PlanNo.{PlanNo}
use Rattle.fl_value_data.specs.declared.value.PlanNo.TheVariants.{One, Two}
use Rattle.fl_value_data.specs.Value.{Datum}
use Rattle.fl_value_data.specs.Fits.{is_argument, are_arguments}
use Rattle.fl_value_data.specs.Plan.{is_fixed_at, is_dynamic, arranged, fixed_rank, rank_of, of_rank, of_ranks, by_ranks}
use Rattle.fl_value_data.specs.Tape.{Argument, kind}

-- an argument's rank under plan 2
abbrev pub rank : TheArgType → ℕ
rank t = rank_of Two t

-- what stands beside types that pass a test
abbrev pub picked : {A : Type 0} → (TheArgType → Bool) → List TheArgType → List A → List A
picked p [] xs = []
picked p (t ∷ ts) [] = []
picked p (t ∷ ts) (x ∷ xs) = cond (p t) (x ∷ picked p ts xs) (picked p ts xs)

-- what stands beside types of so many ranks, from one on, rank by rank
abbrev pub ranked : {A : Type 0} → ℕ → ℕ → List TheArgType → List A → List A
ranked zero from ts xs = []
ranked (suc n) from ts xs = picked (λ t. eqb (rank t) from) ts xs ++ ranked n (from + 1) ts xs

-- what stands beside the arguments' types, in the plan's order
abbrev pub rearranged : {A : Type 0} → PlanNo → List TheArgType → List A → List A
rearranged One ts xs = xs
rearranged Two ts xs = ranked 5 0 ts xs

-- ---- ranks

pub rank_small : (t : TheArgType) → rank t < 5
rank_small (fixed t) = by_align (λ (n : ℕ). fixed_rank n < 5) (omega arith) (omega arith) (omega arith) (omega arith) (align_of t) (type_align t)
rank_small (text max) = omega arith
rank_small (sized max t) = omega arith

is_eight : (t : TheArgType) → is_fixed_at 8 t ≡ eqb (rank t) 0
is_eight (fixed t) = by_align (λ (n : ℕ). eqb n 8 ≡ eqb (fixed_rank n) 0) refl refl refl refl (align_of t) (type_align t)
is_eight (text max) = refl
is_eight (sized max t) = refl

is_four : (t : TheArgType) → is_fixed_at 4 t ≡ eqb (rank t) 1
is_four (fixed t) = by_align (λ (n : ℕ). eqb n 4 ≡ eqb (fixed_rank n) 1) refl refl refl refl (align_of t) (type_align t)
is_four (text max) = refl
is_four (sized max t) = refl

is_two : (t : TheArgType) → is_fixed_at 2 t ≡ eqb (rank t) 2
is_two (fixed t) = by_align (λ (n : ℕ). eqb n 2 ≡ eqb (fixed_rank n) 2) refl refl refl refl (align_of t) (type_align t)
is_two (text max) = refl
is_two (sized max t) = refl

is_one : (t : TheArgType) → is_fixed_at 1 t ≡ eqb (rank t) 3
is_one (fixed t) = by_align (λ (n : ℕ). eqb n 1 ≡ eqb (fixed_rank n) 3) refl refl refl refl (align_of t) (type_align t)
is_one (text max) = refl
is_one (sized max t) = refl

pub is_last : (t : TheArgType) → is_dynamic t ≡ eqb (rank t) 4
is_last (fixed t) = by_align (λ (n : ℕ). false ≡ eqb (fixed_rank n) 4) refl refl refl refl (align_of t) (type_align t)
is_last (text max) = refl
is_last (sized max t) = refl

-- ---- the plan's order by ranks

-- a chain of five
join_five : {A : Type 0} (a b c d e f g h i j : List A) → a ≡ f → b ≡ g → c ≡ h → d ≡ i → e ≡ j → a ++ b ++ c ++ d ++ e ≡ f ++ (g ++ (h ++ (i ++ (j ++ []))))
join_five a b c d e f g h i j p q r s t = rw (p, q, r, s, t) (simp (append_assoc, append-nil))

filter_same : {A : Type 0} (p q : A → Bool) → ((a : A) → p a ≡ q a) → (xs : List A) → filter p xs ≡ filter q xs
filter_same p q same [] = refl
filter_same p q same (x ∷ xs) = rw (same x, filter_same p q same xs) refl

filter_all : {A : Type 0} (xs : List A) → filter (λ a. true) xs ≡ xs
filter_all [] = refl
filter_all {A = A} (x ∷ xs) = ap (λ (l : List A). x ∷ l) (filter_all xs)

filter_none : {A : Type 0} (xs : List A) → filter (λ a. false) xs ≡ []
filter_none [] = refl
filter_none (x ∷ xs) = filter_none xs

-- plan 1 has one rank
pub one_rank : {A : Type 0} (type : A → TheArgType) (xs : List A) → of_rank type One 0 xs ≡ xs
one_rank type xs = filter_all xs

-- the plan's order is rank by rank, of anything that has an argument's type
pub arranged_ranks : {A : Type 0} (type : A → TheArgType) (plan : PlanNo) (xs : List A) → arranged type plan xs ≡ by_ranks type plan xs
arranged_ranks type One xs = rw (filter_all xs, filter_none xs) (sym (append-nil xs))
arranged_ranks type Two xs = join_five _ _ _ _ _ _ _ _ _ _
    (filter_same (λ a. is_fixed_at 8 (type a)) (λ a. eqb (rank (type a)) 0) (λ a. is_eight (type a)) xs)
    (filter_same (λ a. is_fixed_at 4 (type a)) (λ a. eqb (rank (type a)) 1) (λ a. is_four (type a)) xs)
    (filter_same (λ a. is_fixed_at 2 (type a)) (λ a. eqb (rank (type a)) 2) (λ a. is_two (type a)) xs)
    (filter_same (λ a. is_fixed_at 1 (type a)) (λ a. eqb (rank (type a)) 3) (λ a. is_one (type a)) xs)
    (filter_same (λ a. is_dynamic (type a)) (λ a. eqb (rank (type a)) 4) (λ a. is_last (type a)) xs)

-- one rank, and those after it
pub next_rank : {A : Type 0} (type : A → TheArgType) (plan : PlanNo) (from : ℕ) (xs : List A) → from < 5
    → of_ranks type plan (5 - from) from xs ≡ of_rank type plan from xs ++ of_ranks type plan (5 - (from + 1)) (from + 1) xs
next_rank type plan from xs small =
    let more : 5 - from ≡ suc (5 - (from + 1)) = omega (arith, small) in
    ap (λ (n : ℕ). of_ranks type plan n from xs) more

-- none after the last
pub last_rank : {A : Type 0} (type : A → TheArgType) (plan : PlanNo) (from : ℕ) (xs : List A) → 5 ≤ from → of_ranks type plan (5 - from) from xs ≡ []
last_rank type plan from xs all =
    let none : 5 - from ≡ 0 = omega (arith, all) in
    ap (λ (n : ℕ). of_ranks type plan n from xs) none

picked_same : {A : Type 0} (p q : TheArgType → Bool) → ((t : TheArgType) → p t ≡ q t) → (ts : List TheArgType) (xs : List A) → picked p ts xs ≡ picked q ts xs
picked_same p q e [] xs = refl
picked_same p q e (t ∷ ts) [] = refl
picked_same p q e (t ∷ ts) (x ∷ xs) = rw (e t, picked_same p q e ts xs) refl

-- the values of what passes a test
seconds_picked : (p : TheArgType → Bool) (ts : List TheArgType) (xs : List Datum) → map (λ (a : Argument). a.1) (filter (λ (a : Argument). p (kind a)) (zip ts xs)) ≡ picked p ts xs
seconds_picked p [] xs = refl
seconds_picked p (t ∷ ts) [] = refl
seconds_picked p (t ∷ ts) (x ∷ xs) =
    let rest = seconds_picked p ts xs in
    elim (p t) as (λ v. map (λ (a : Argument). a.1) (cond v ((t, x) ∷ filter (λ (a : Argument). p (kind a)) (zip ts xs)) (filter (λ (a : Argument). p (kind a)) (zip ts xs)))
    ≡ cond v (x ∷ picked p ts xs) (picked p ts xs)) [
      | true ↦ ap (λ (l : List Datum). x ∷ l) rest
      | false ↦ rest
    ]

-- their types
firsts_picked : (p : TheArgType → Bool) (ts : List TheArgType) (xs : List Datum) → length xs ≡ length ts → map (λ (a : Argument). a.0) (filter (λ (a : Argument). p (kind a)) (zip ts xs)) ≡ filter p ts
firsts_picked p [] xs long = refl
firsts_picked p (t ∷ ts) [] long = absurd (omega (arith, long))
firsts_picked p (t ∷ ts) (x ∷ xs) long =
    let rest = firsts_picked p ts xs (omega (arith, long)) in
    elim (p t) as (λ v. map (λ (a : Argument). a.0) (cond v ((t, x) ∷ filter (λ (a : Argument). p (kind a)) (zip ts xs)) (filter (λ (a : Argument). p (kind a)) (zip ts xs)))
    ≡ cond v (t ∷ filter p ts) (filter p ts)) [
      | true ↦ ap (λ (l : List TheArgType). t ∷ l) rest
      | false ↦ rest
    ]

types_picked : (p : TheArgType → Bool) (ts : List TheArgType) → filter p ts ≡ picked p ts ts
types_picked p [] = refl
types_picked p (t ∷ ts) = rw (types_picked p ts) refl

same_five : {A : Type 0} (a b c d e f g h i j : List A) → a ≡ f → b ≡ g → c ≡ h → d ≡ i → e ≡ j → a ++ b ++ c ++ d ++ e ≡ f ++ g ++ h ++ i ++ j
same_five a b c d e f g h i j p q r s t = rw (p, q, r, s, t) refl

map_five : {A B : Type 0} (f : A → B) (a b c d e : List A) → map f (a ++ b ++ c ++ d ++ e) ≡ map f a ++ map f b ++ map f c ++ map f d ++ map f e
map_five f a b c d e = simp map-append

zip_seconds : (ts : List TheArgType) (xs : List Datum) → length xs ≡ length ts → map (λ (a : Argument). a.1) (zip ts xs) ≡ xs
zip_seconds [] [] long = refl
zip_seconds [] (x ∷ xs) long = absurd (omega (arith, long))
zip_seconds (t ∷ ts) [] long = absurd (omega (arith, long))
zip_seconds (t ∷ ts) (x ∷ xs) long = ap (λ (l : List Datum). x ∷ l) (zip_seconds ts xs (omega (arith, long)))

zip_firsts : (ts : List TheArgType) (xs : List Datum) → length xs ≡ length ts → map (λ (a : Argument). a.0) (zip ts xs) ≡ ts
zip_firsts [] xs long = refl
zip_firsts (t ∷ ts) [] long = absurd (omega (arith, long))
zip_firsts (t ∷ ts) (x ∷ xs) long = ap (λ (l : List TheArgType). t ∷ l) (zip_firsts ts xs (omega (arith, long)))

-- the plan's order of values
pub seconds_arranged : (plan : PlanNo) (ts : List TheArgType) (xs : List Datum) → length xs ≡ length ts → map (λ (a : Argument). a.1) (arranged kind plan (zip ts xs)) ≡ rearranged plan ts xs
seconds_arranged One ts xs long = zip_seconds ts xs long
seconds_arranged Two ts xs long =
    let of = λ (p : TheArgType → Bool). filter (λ (a : Argument). p (kind a)) (zip ts xs) in
    map_five (λ (a : Argument). a.1) (of (is_fixed_at 8)) (of (is_fixed_at 4)) (of (is_fixed_at 2)) (of (is_fixed_at 1)) (of is_dynamic)
    ∙ join_five _ _ _ _ _ _ _ _ _ _
    (seconds_picked (is_fixed_at 8) ts xs ∙ picked_same (is_fixed_at 8) (λ t. eqb (rank t) 0) is_eight ts xs)
    (seconds_picked (is_fixed_at 4) ts xs ∙ picked_same (is_fixed_at 4) (λ t. eqb (rank t) 1) is_four ts xs)
    (seconds_picked (is_fixed_at 2) ts xs ∙ picked_same (is_fixed_at 2) (λ t. eqb (rank t) 2) is_two ts xs)
    (seconds_picked (is_fixed_at 1) ts xs ∙ picked_same (is_fixed_at 1) (λ t. eqb (rank t) 3) is_one ts xs)
    (seconds_picked is_dynamic ts xs ∙ picked_same is_dynamic (λ t. eqb (rank t) 4) is_last ts xs)

-- and of types
pub firsts_arranged : (plan : PlanNo) (ts : List TheArgType) (xs : List Datum) → length xs ≡ length ts → map (λ (a : Argument). a.0) (arranged kind plan (zip ts xs)) ≡ arranged (λ (t : TheArgType). t) plan ts
firsts_arranged One ts xs long = zip_firsts ts xs long
firsts_arranged Two ts xs long =
    let of = λ (p : TheArgType → Bool). filter (λ (a : Argument). p (kind a)) (zip ts xs) in
    map_five (λ (a : Argument). a.0) (of (is_fixed_at 8)) (of (is_fixed_at 4)) (of (is_fixed_at 2)) (of (is_fixed_at 1)) (of is_dynamic)
    ∙ same_five _ _ _ _ _ _ _ _ _ _
    (firsts_picked (is_fixed_at 8) ts xs long) (firsts_picked (is_fixed_at 4) ts xs long) (firsts_picked (is_fixed_at 2) ts xs long)
    (firsts_picked (is_fixed_at 1) ts xs long) (firsts_picked is_dynamic ts xs long)

pub types_arranged : (plan : PlanNo) (ts : List TheArgType) → arranged (λ (t : TheArgType). t) plan ts ≡ rearranged plan ts ts
types_arranged One ts = refl
types_arranged Two ts = join_five _ _ _ _ _ _ _ _ _ _
    (types_picked (is_fixed_at 8) ts ∙ picked_same (is_fixed_at 8) (λ t. eqb (rank t) 0) is_eight ts ts)
    (types_picked (is_fixed_at 4) ts ∙ picked_same (is_fixed_at 4) (λ t. eqb (rank t) 1) is_four ts ts)
    (types_picked (is_fixed_at 2) ts ∙ picked_same (is_fixed_at 2) (λ t. eqb (rank t) 2) is_two ts ts)
    (types_picked (is_fixed_at 1) ts ∙ picked_same (is_fixed_at 1) (λ t. eqb (rank t) 3) is_one ts ts)
    (types_picked is_dynamic ts ∙ picked_same is_dynamic (λ t. eqb (rank t) 4) is_last ts ts)

-- ---- one more argument in front

-- how many elements pass a test, one by one
abbrev counted : {A : Type 0} → (A → Bool) → List A → ℕ
counted p [] = 0
counted p (x ∷ xs) = cond (p x) (1 + counted p xs) (counted p xs)

-- how many of these types have a rank from one on and below another
abbrev between : ℕ → ℕ → List TheArgType → ℕ
between low high ts = counted (λ (t : TheArgType). leb low (rank t) && ltb (rank t) high) ts

length_picked : {A : Type 0} (p : TheArgType → Bool) (ts : List TheArgType) (xs : List A) → length xs ≡ length ts → length (picked p ts xs) ≡ counted p ts
length_picked p [] xs long = refl
length_picked p (t ∷ ts) [] long = absurd (omega (arith, long))
length_picked {A = A} p (t ∷ ts) (x ∷ xs) long =
    let rest = length_picked p ts xs (omega (arith, long)) in
    elim (p t) as (λ v. length (cond {A = List A} v (x ∷ picked p ts xs) (picked p ts xs)) ≡ cond v (1 + counted p ts) (counted p ts)) [
      | true ↦ omega (arith, rest)
      | false ↦ rest
    ]

count_one : (low high : ℕ) → low < high → (r : ℕ) → (m n k : ℕ) → m ≡ n + k
    → cond (leb low r && ltb r high) (1 + m) m ≡ cond (eqb r low) (1 + n) n + cond (leb (low + 1) r && ltb r high) (1 + k) k
count_one low high h r m n k e = grind (arith, nat_tests)

count_split : (low high : ℕ) → low < high → (ts : List TheArgType) → between low high ts ≡ counted (λ (t : TheArgType). eqb (rank t) low) ts + between (low + 1) high ts
count_split low high h [] = refl
count_split low high h (t ∷ ts) = count_one low high h (rank t) (between low high ts) (counted (λ (u : TheArgType). eqb (rank u) low) ts) (between (low + 1) high ts) (count_split low high h ts)

none_one : (low high : ℕ) → high ≤ low → (r m : ℕ) → m ≡ 0 → cond (leb low r && ltb r high) (1 + m) m ≡ 0
none_one low high h r m e = grind (arith, nat_tests)

none_between : (low high : ℕ) → high ≤ low → (ts : List TheArgType) → between low high ts ≡ 0
none_between low high h [] = refl
none_between low high h (t ∷ ts) = none_one low high h (rank t) (between low high ts) (none_between low high h ts)

count_from_zero : (high : ℕ) (r m n : ℕ) → m ≡ n → cond (leb 0 r && ltb r high) (1 + m) m ≡ cond (ltb r high) (1 + n) n
count_from_zero high r m n e = grind (arith, nat_tests)

-- how many have a rank below one
between_zero : (high : ℕ) (ts : List TheArgType) → between 0 high ts ≡ counted (λ (t : TheArgType). ltb (rank t) high) ts
between_zero high [] = refl
between_zero high (t ∷ ts) = count_from_zero high (rank t) (between 0 high ts) (counted (λ (u : TheArgType). ltb (rank u) high) ts) (between_zero high ts)

-- how many of these arguments the plan puts before one
abbrev pub before : TheArgType → List TheArgType → ℕ
before t ts = count_by (λ (u : TheArgType). ltb (rank u) (rank t)) ts

between_before : (t : TheArgType) (ts : List TheArgType) → between 0 (rank t) ts ≡ before t ts
between_before t ts = between_zero (rank t) ts
    ∙ is_count_by (counted (λ (u : TheArgType). ltb (rank u) (rank t))) (λ (u : TheArgType). ltb (rank u) (rank t)) refl (λ u us. refl) ts

insert_behind : {A : Type 0} (prefix behind : List A) (n : ℕ) (x : A) → insert (prefix ++ behind) (length prefix + n) x ≡ prefix ++ insert behind n x
insert_behind {A = A} [] behind n x = ap (λ (m : ℕ). insert behind m x) (omega arith)
insert_behind {A = A} (y ∷ prefix) behind n x =
    let same : length (y ∷ prefix) + n ≡ suc (length prefix + n) = omega arith in
    ap (λ (m : ℕ). insert (y ∷ (prefix ++ behind)) m x) same ∙ ap (λ (l : List A). y ∷ l) (insert_behind prefix behind n x)

passed : {A : Type 0} (n from : ℕ) (t : TheArgType) (ts : List TheArgType) (x : A) (xs : List A) → rank t < from → ranked n from (t ∷ ts) (x ∷ xs) ≡ ranked n from ts xs
passed zero from t ts x xs h = refl
passed {A = A} (suc n) from t ts x xs h =
    let other : eqb (rank t) from ≡ false = ne_eqb (rank t) from (λ e. absurd (omega (arith, e, h))) in
    rw other (ap (λ (l : List A). picked (λ (u : TheArgType). eqb (rank u) from) ts xs ++ l) (passed n (from + 1) t ts x xs (omega (arith, h))))

-- a value goes behind those of the arguments that the plan puts before it
one_prefix : {A : Type 0} (n from : ℕ) (t : TheArgType) (ts : List TheArgType) (x : A) (xs : List A) → length xs ≡ length ts → from ≤ rank t → rank t < from + n
    → ranked n from (t ∷ ts) (x ∷ xs) ≡ insert (ranked n from ts xs) (between from (rank t) ts) x
one_prefix zero from t ts x xs long low high = absurd (omega (arith, low, high))
one_prefix {A = A} (suc n) from t ts x xs long low high =
    let here = picked (λ (u : TheArgType). eqb (rank u) from) ts xs in
    let rest = ranked n (from + 1) ts xs in
    ⊎_elim
    (λ (above : from < rank t).
    let other : eqb (rank t) from ≡ false = ne_eqb (rank t) from (λ e. absurd (omega (arith, e, above))) in
    let places : between from (rank t) ts ≡ length here + between (from + 1) (rank t) ts
    = count_split from (rank t) above ts ∙ ap (λ (m : ℕ). m + between (from + 1) (rank t) ts) (sym (length_picked (λ (u : TheArgType). eqb (rank u) from) ts xs long)) in
    rw other (ap (λ (l : List A). here ++ l) (one_prefix n (from + 1) t ts x xs long (omega (arith, above)) (omega (arith, high)))
    ∙ sym (insert_behind here rest (between (from + 1) (rank t) ts) x) ∙ ap (λ (m : ℕ). insert (here ++ rest) m x) (sym places)))
    (λ (below : rank t ≤ from).
    let same : rank t ≡ from = omega (arith, low, below) in
    let none : between from (rank t) ts ≡ 0 = none_between from (rank t) below ts in
    rw (eq-eqb (rank t) from same) (ap (λ (l : List A). x ∷ (here ++ l)) (passed n (from + 1) t ts x xs (omega (arith, same)))
    ∙ ap (λ (m : ℕ). insert (here ++ rest) m x) (sym none)))
    (cases_lt from (rank t))

pub prefix : {A : Type 0} (t : TheArgType) (ts : List TheArgType) (x : A) (xs : List A) → length xs ≡ length ts
    → rearranged Two (t ∷ ts) (x ∷ xs) ≡ insert (rearranged Two ts xs) (before t ts) x
prefix {A = A} t ts x xs long =
    one_prefix 5 0 t ts x xs long (omega arith) (omega (arith, rank_small t)) ∙ ap (λ (n : ℕ). insert (ranked 5 0 ts xs) n x) (between_before t ts)

-- ---- what the order keeps

pub length_insert : {A : Type 0} (xs : List A) (n : ℕ) (x : A) → length (insert xs n x) ≡ suc (length xs)
length_insert xs n x =
    let whole = ap length (take-append-drop n xs) in
    omega (arith, length-append (take n xs) (x ∷ drop n xs), length-append (take n xs) (drop n xs), whole)

pub length_rearranged : {A : Type 0} (plan : PlanNo) (ts : List TheArgType) (xs : List A) → length xs ≡ length ts → length (rearranged plan ts xs) ≡ length ts
length_rearranged One ts xs long = long
length_rearranged Two [] xs long = refl
length_rearranged Two (t ∷ ts) [] long = absurd (omega (arith, long))
length_rearranged Two (t ∷ ts) (x ∷ xs) long =
    let rest : length xs ≡ length ts = omega (arith, long) in
    ap length (prefix t ts x xs rest) ∙ length_insert (rearranged Two ts xs) (before t ts) x
    ∙ ap (λ (n : ℕ). suc n) (length_rearranged Two ts xs rest)

insert_told : {A : Type 0} (n : ℕ) (xs ys : List A) (x y : A) → length xs ≡ length ys → insert xs n x ≡ insert ys n y → (x ≡ y) × (xs ≡ ys)
insert_told zero xs ys x y long e =
    let heads : x ≡ y = cc in
    let tails : xs ≡ ys = cc in
    (heads, tails)
insert_told (suc n) [] [] x y long e =
    let heads : x ≡ y = cc in
    (heads, refl)
insert_told (suc n) [] (w ∷ ys) x y long e = absurd (omega (arith, long))
insert_told (suc n) (v ∷ xs) [] x y long e = absurd (omega (arith, long))
insert_told (suc n) (v ∷ xs) (w ∷ ys) x y long e =
    let heads : v ≡ w = cc in
    let tails : insert xs n x ≡ insert ys n y = cc in
    let (same, rest) = insert_told n xs ys x y (omega (arith, long)) tails in
    (same, cc)

-- values are told by their plan's order
pub rearranged_told : (plan : PlanNo) (ts : List TheArgType) (xs ys : List Datum) → length xs ≡ length ts → length ys ≡ length ts → rearranged plan ts xs ≡ rearranged plan ts ys → xs ≡ ys
rearranged_told One ts xs ys long same e = e
rearranged_told Two [] [] [] long same e = refl
rearranged_told Two [] [] (y ∷ ys) long same e = absurd (omega (arith, same))
rearranged_told Two [] (x ∷ xs) ys long same e = absurd (omega (arith, long))
rearranged_told Two (t ∷ ts) [] ys long same e = absurd (omega (arith, long))
rearranged_told Two (t ∷ ts) (x ∷ xs) [] long same e = absurd (omega (arith, same))
rearranged_told Two (t ∷ ts) (x ∷ xs) (y ∷ ys) long same e =
    let here : length xs ≡ length ts = omega (arith, long) in
    let there : length ys ≡ length ts = omega (arith, same) in
    let (one, rest) = insert_told (before t ts) (rearranged Two ts xs) (rearranged Two ts ys) x y
    (length_rearranged Two ts xs here ∙ sym (length_rearranged Two ts ys there)) (sym (prefix t ts x xs here) ∙ e ∙ prefix t ts y ys there) in
    let others : xs ≡ ys = rearranged_told Two ts xs ys here there rest in
    cc

-- a value of each type, in both orders or in none
insert_typed : (n : ℕ) (us : List TheArgType) (ws : List Datum) (t : TheArgType) (x : Datum) → is_argument t x ≡ true → are_arguments us ws ≡ true → are_arguments (insert us n t) (insert ws n x) ≡ true
insert_typed zero us ws t x h k = rw h k
insert_typed (suc n) [] [] t x h k = rw h refl
insert_typed (suc n) [] (w ∷ ws) t x h k = absurd (false≢true k)
insert_typed (suc n) (u ∷ us) [] t x h k = absurd (false≢true k)
insert_typed (suc n) (u ∷ us) (w ∷ ws) t x h k = rw (first_so (is_argument u w) _ k) (insert_typed n us ws t x h (second_so (is_argument u w) _ k))

inserted_typed : (n : ℕ) (us : List TheArgType) (ws : List Datum) (t : TheArgType) (x : Datum) → length us ≡ length ws → are_arguments (insert us n t) (insert ws n x) ≡ true
    → (is_argument t x ≡ true) × (are_arguments us ws ≡ true)
inserted_typed zero us ws t x long h = (first_so (is_argument t x) _ h, second_so (is_argument t x) _ h)
inserted_typed (suc n) [] [] t x long h = (first_so (is_argument t x) _ h, refl)
inserted_typed (suc n) [] (w ∷ ws) t x long h = absurd (omega (arith, long))
inserted_typed (suc n) (u ∷ us) [] t x long h = absurd (omega (arith, long))
inserted_typed (suc n) (u ∷ us) (w ∷ ws) t x long h =
    let one = first_so (is_argument u w) _ h in
    let p = inserted_typed n us ws t x (omega (arith, long)) (second_so (is_argument u w) _ h) in
    (p.0, rw one p.1)

pub rearranged_typed : (plan : PlanNo) (ts : List TheArgType) (xs : List Datum) → length xs ≡ length ts → are_arguments ts xs ≡ true → are_arguments (rearranged plan ts ts) (rearranged plan ts xs) ≡ true
rearranged_typed One ts xs long h = h
rearranged_typed Two [] [] long h = refl
rearranged_typed Two [] (x ∷ xs) long h = absurd (omega (arith, long))
rearranged_typed Two (t ∷ ts) [] long h = absurd (omega (arith, long))
rearranged_typed Two (t ∷ ts) (x ∷ xs) long h =
    let here : length xs ≡ length ts = omega (arith, long) in
    let n = before t ts in
    let rest = rearranged_typed Two ts xs here (second_so (is_argument t x) _ h) in
    let both = insert_typed n (rearranged Two ts ts) (rearranged Two ts xs) t x (first_so (is_argument t x) _ h) rest in
    subst (λ (us : List TheArgType). are_arguments us (rearranged Two (t ∷ ts) (x ∷ xs)) ≡ true) (sym (prefix t ts t ts refl))
    (subst (λ (ws : List Datum). are_arguments (insert (rearranged Two ts ts) n t) ws ≡ true) (sym (prefix t ts x xs here)) both)

pub typed_again : (plan : PlanNo) (ts : List TheArgType) (xs : List Datum) → length xs ≡ length ts → are_arguments (rearranged plan ts ts) (rearranged plan ts xs) ≡ true → are_arguments ts xs ≡ true
typed_again One ts xs long h = h
typed_again Two [] [] long h = refl
typed_again Two [] (x ∷ xs) long h = absurd (omega (arith, long))
typed_again Two (t ∷ ts) [] long h = absurd (omega (arith, long))
typed_again Two (t ∷ ts) (x ∷ xs) long h =
    let here : length xs ≡ length ts = omega (arith, long) in
    let n = before t ts in
    let both : are_arguments (insert (rearranged Two ts ts) n t) (insert (rearranged Two ts xs) n x) ≡ true
    = subst (λ (us : List TheArgType). are_arguments us (insert (rearranged Two ts xs) n x) ≡ true) (prefix t ts t ts refl)
    (subst (λ (ws : List Datum). are_arguments (rearranged Two (t ∷ ts) (t ∷ ts)) ws ≡ true) (prefix t ts x xs here) h) in
    let p = inserted_typed n (rearranged Two ts ts) (rearranged Two ts xs) t x (length_rearranged Two ts ts refl ∙ sym (length_rearranged Two ts xs here)) both in
    rw p.0 (typed_again Two ts xs here p.1)

-- ---- a value taken out

-- what was taken out goes back
pub taken_goes_back : {A B : Type 0} (f : A → B) (xs : List A) (n : ℕ) (x : A) → n < length xs → x ≡ get_or xs n x → insert (map f (remove xs n)) n (f x) ≡ map f xs
taken_goes_back f [] n x h e = absurd (omega (arith, h))
taken_goes_back {B = B} f (y ∷ xs) zero x h e = ap (λ (v : B). v ∷ map f xs) (ap f e)
taken_goes_back {B = B} f (y ∷ xs) (suc n) x h e = ap (λ (l : List B). f y ∷ l) (taken_goes_back f xs n x (omega (arith, h)) e)

pub order_step : {V : Type 0} (f : V → Datum) (t : TheArgType) (ts : List TheArgType) (left : List V) (n : ℕ) (x : V) → n ≡ before t ts → n < length left → x ≡ get_or left n x
    → (more : List Datum) → length more ≡ length ts → rearranged Two ts more ≡ map f (remove left n) → rearranged Two (t ∷ ts) (f x ∷ more) ≡ map f left
order_step f t ts left n x place low here more long e =
    prefix t ts (f x) more long ∙ ap (λ (l : List Datum). insert l (before t ts) (f x)) e
    ∙ ap (λ (k : ℕ). insert (map f (remove left n)) k (f x)) (sym place) ∙ taken_goes_back f left n x low here
