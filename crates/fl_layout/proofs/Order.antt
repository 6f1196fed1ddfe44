-- The plan's order of arguments, under maps and tests.
use Rattle.std.proofs.Common.{◌≡◌, ℕ, ◌+◌, true, false, Bool, if◌then◌else◌, List, [], ◌∷◌, ◌++◌, map, filter, length, get_or, refl, sym, ◌∙◌, ap, arith}
use Rattle.std.proofs.Math.Seq.{get_or-append_seam}
use Rattle.std.proofs.lemmas.List.{map-append, length-append, append_assoc}
use Rattle.std.proofs.lemmas.Bool.{and_parts, and_from}
use Rattle.std.specs.List.{list_all, zip, range_with_len}
use Rattle.fl_interface.specs.Interface.{TheArgType}
use Rattle.fl_value_data.specs.declared.value.PlanNo.{PlanNo}
use Rattle.fl_value_data.specs.declared.value.PlanNo.TheVariants.{One, Two}
use Rattle.fl_value_data.specs.Plan.{arranged, is_fixed_at, is_dynamic}

pub filter_map : {A B : Type 0} (g : A → B) (p : B → Bool) (xs : List A) → filter p (map g xs) ≡ map g (filter (λ x. p (g x)) xs)
filter_map g p [] = refl
filter_map g p (x ∷ xs) =
    let rest = filter_map g p xs in
    elim (p (g x)) as (λ b. (if b then g x ∷ filter p (map g xs) else filter p (map g xs)) ≡ map g (if b then x ∷ filter (λ y. p (g y)) xs else filter (λ y. p (g y)) xs))
    [ true ↦ ap (λ ys. g x ∷ ys) rest | false ↦ rest ]

pub both : {A B : Type 0} (g : A → B) (xs ys : List A) (us vs : List B) → us ≡ map g xs → vs ≡ map g ys → us ++ vs ≡ map g (xs ++ ys)
both g xs ys us vs e f = ap (λ zs. zs ++ vs) e ∙ ap (λ zs. map g xs ++ zs) f ∙ sym (map-append g xs ys)

pub arranged_map : {A B : Type 0} (g : A → B) (type : B → TheArgType) (plan : PlanNo) (xs : List A)
    → arranged type plan (map g xs) ≡ map g (arranged (λ x. type (g x)) plan xs)
arranged_map g type One xs = refl
arranged_map g type Two xs =
    let e = λ (p : TheArgType → Bool). filter_map g (λ b. p (type b)) xs in
    both g _ _ _ _ (both g _ _ _ _ (both g _ _ _ _ (both g _ _ _ _ (e (is_fixed_at 8)) (e (is_fixed_at 4))) (e (is_fixed_at 2))) (e (is_fixed_at 1))) (e is_dynamic)

pub all_filter : {A : Type 0} (test p : A → Bool) (xs : List A) → list_all test xs ≡ true → list_all test (filter p xs) ≡ true
all_filter test p [] h = refl
all_filter test p (x ∷ xs) h =
    let parts = and_parts (test x) (list_all test xs) h in
    let rest = all_filter test p xs parts.1 in
    elim (p x) as (λ b. list_all test (if b then x ∷ filter p xs else filter p xs) ≡ true) [ true ↦ and_from (test x) (list_all test (filter p xs)) parts.0 rest | false ↦ rest ]

pub all_append : {A : Type 0} (test : A → Bool) (xs ys : List A) → list_all test xs ≡ true → list_all test ys ≡ true → list_all test (xs ++ ys) ≡ true
all_append test [] ys h k = k
all_append test (x ∷ xs) ys h k =
    let parts = and_parts (test x) (list_all test xs) h in
    and_from (test x) (list_all test (xs ++ ys)) parts.0 (all_append test xs ys parts.1 k)

-- what holds of all holds of all in the plan's order
pub all_arranged : {A : Type 0} (test : A → Bool) (type : A → TheArgType) (plan : PlanNo) (xs : List A) → list_all test xs ≡ true → list_all test (arranged type plan xs) ≡ true
all_arranged test type One xs h = h
all_arranged test type Two xs h =
    let f = λ (p : TheArgType → Bool). all_filter test (λ x. p (type x)) xs h in
    all_append test _ _ (all_append test _ _ (all_append test _ _ (all_append test _ _ (f (is_fixed_at 8)) (f (is_fixed_at 4))) (f (is_fixed_at 2))) (f (is_fixed_at 1))) (f is_dynamic)

pub numbered_are : {A : Type 0} (xs : List A) (k : ℕ) → map (λ (a : ℕ × A). a.1) (zip (range_with_len k (length xs)) xs) ≡ xs
numbered_are [] k = refl
numbered_are (x ∷ xs) k = ap (λ ys. x ∷ ys) (numbered_are xs (k + 1))

-- the types beside the values are the numbered types, each with the value of its number
pub zip_numbered : {A B : Type 0} (default : B) (ts : List A) (prefix vs : List B) (k : ℕ) → k ≡ length prefix → length ts ≡ length vs
    → zip ts vs ≡ map (λ (a : ℕ × A). (a.1, get_or (prefix ++ vs) (a.0) default)) (zip (range_with_len k (length ts)) ts)
zip_numbered default [] prefix vs k e h = refl
zip_numbered default (t ∷ ts) prefix [] k e h = absurd (omega (arith, h))
zip_numbered {A = A} {B = B} default (t ∷ ts) prefix (v ∷ vs) k e h =
    let seam : get_or (prefix ++ v ∷ vs) k default ≡ v = ap (λ n. get_or (prefix ++ v ∷ vs) n default) e ∙ get_or-append_seam prefix v vs default in
    let rest = zip_numbered default ts (prefix ++ v ∷ []) vs (k + 1) (omega (arith, e, length-append prefix (v ∷ []))) (omega (arith, h)) in
    let same : (prefix ++ v ∷ []) ++ vs ≡ prefix ++ v ∷ vs = append_assoc prefix (v ∷ []) vs in
    let look = λ (all : List B). map (λ (a : ℕ × A). (a.1, get_or all (a.0) default)) (zip (range_with_len (k + 1) (length ts)) ts) in
    ap (λ (zs : List (A × B)). (t, v) ∷ zs) (rest ∙ ap look same) ∙ ap (λ (w : B). (t, w) ∷ look (prefix ++ v ∷ vs)) (sym seam)
