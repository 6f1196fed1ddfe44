-- Where arguments' ranks never fall, the plan's order is the declared one.
use Rattle.std.proofs.Common.{◌≡◌, ℕ, zero, suc, ◌+◌, ◌<◌, ◌≤◌, true, false, ⊎_elim, List, [], ◌∷◌, ◌++◌, refl, ◌∙◌, ap, arith, eqb, leb, eq-eqb}
use Rattle.std.specs.List.{zip}
use Rattle.std.specs.Cmp.{first_so, second_so}
use Rattle.std.proofs.lemmas.Bool.{cases_lt, leb-true, ne_eqb}
use Rattle.fl_interface.specs.Interface.{TheArgType}
use Rattle.fl_value_data.specs.declared.value.PlanNo.{PlanNo}
use Rattle.fl_value_data.specs.declared.value.PlanNo.TheVariants.{One, Two}
use Rattle.fl_value_data.specs.Value.{Datum}
use Rattle.fl_value_data.specs.Plan.{arranged, of_rank, of_ranks, rising, never_falls}
use Rattle.fl_value_data.specs.Tape.{kind}
use Rattle.fl_value_data.proofs.Ranked.{rank, rank_small, arranged_ranks}

-- higher ranks leave out what stands first
passed : {A : Type 0} (type : A → TheArgType) (n from : ℕ) (x : A) (xs : List A) → rank (type x) < from → of_ranks type Two n from (x ∷ xs) ≡ of_ranks type Two n from xs
passed type zero from x xs h = refl
passed {A = A} type (suc n) from x xs h =
    let other : eqb (rank (type x)) from ≡ false = ne_eqb (rank (type x)) from (λ e. absurd (omega (arith, e, h))) in
    rw other (ap (λ (l : List A). of_rank type Two from xs ++ l) (passed type n (from + 1) x xs (omega (arith, h))))

-- none has a rank below the least
none_below : {A : Type 0} (type : A → TheArgType) (least from : ℕ) (xs : List A) → rising type least xs ≡ true → from < least → of_rank type Two from xs ≡ []
none_below type least from [] up low = refl
none_below type least from (x ∷ xs) up low =
    let above : least ≤ rank (type x) = leb-true least (rank (type x)) (first_so (leb least (rank (type x))) _ up) in
    let other : eqb (rank (type x)) from ≡ false = ne_eqb (rank (type x)) from (λ e. absurd (omega (arith, e, low, above))) in
    rw other (none_below type (rank (type x)) from xs (second_so (leb least (rank (type x))) _ up) (omega (arith, low, above)))

behind_none : {A : Type 0} (l : List A) (x : A) (r : List A) → l ≡ [] → l ++ (x ∷ r) ≡ x ∷ (l ++ r)
behind_none [] x r e = refl
behind_none (y ∷ l) x r e = absurd (cc)

-- what stands first goes first
first : {A : Type 0} (type : A → TheArgType) (n from : ℕ) (x : A) (xs : List A) → from ≤ rank (type x) → rank (type x) < from + n → rising type (rank (type x)) xs ≡ true
    → of_ranks type Two n from (x ∷ xs) ≡ x ∷ of_ranks type Two n from xs
first type zero from x xs low high up = absurd (omega (arith, low, high))
first {A = A} type (suc n) from x xs low high up =
    let here = of_rank type Two from xs in
    ⊎_elim
    (λ (above : from < rank (type x)).
    let other : eqb (rank (type x)) from ≡ false = ne_eqb (rank (type x)) from (λ e. absurd (omega (arith, e, above))) in
    rw other (ap (λ (l : List A). here ++ l) (first type n (from + 1) x xs (omega (arith, above)) (omega (arith, high)) up)
    ∙ behind_none here x (of_ranks type Two n (from + 1) xs) (none_below type (rank (type x)) from xs up above)))
    (λ (below : rank (type x) ≤ from).
    let same : rank (type x) ≡ from = omega (arith, low, below) in
    rw (eq-eqb (rank (type x)) from same) (ap (λ (l : List A). x ∷ (here ++ l)) (passed type n (from + 1) x xs (omega (arith, same)))))
    (cases_lt from (rank (type x)))

kept : {A : Type 0} (type : A → TheArgType) (least : ℕ) (xs : List A) → rising type least xs ≡ true → of_ranks type Two 5 0 xs ≡ xs
kept type least [] up = refl
kept {A = A} type least (x ∷ xs) up =
    let rest = second_so (leb least (rank (type x))) _ up in
    first type 5 0 x xs (omega arith) (omega (arith, rank_small (type x))) rest ∙ ap (λ (l : List A). x ∷ l) (kept type (rank (type x)) xs rest)

-- values beside the types change nothing
rising_beside : (least : ℕ) (ts : List TheArgType) (ds : List Datum) → rising (λ (t : TheArgType). t) least ts ≡ true → rising kind least (zip ts ds) ≡ true
rising_beside least [] ds up = refl
rising_beside least (t ∷ ts) [] up = refl
rising_beside least (t ∷ ts) (d ∷ ds) up = rw (first_so (leb least (rank t)) _ up) (rising_beside (rank t) ts ds (second_so (leb least (rank t)) _ up))

pub kept_types : (plan : PlanNo) (ts : List TheArgType) → never_falls plan ts ≡ true → arranged (λ (t : TheArgType). t) plan ts ≡ ts
kept_types One ts up = refl
kept_types Two ts up = arranged_ranks (λ (t : TheArgType). t) Two ts ∙ kept (λ (t : TheArgType). t) 0 ts up

pub kept_arguments : (plan : PlanNo) (ts : List TheArgType) (ds : List Datum) → never_falls plan ts ≡ true → arranged kind plan (zip ts ds) ≡ zip ts ds
kept_arguments One ts ds up = refl
kept_arguments Two ts ds up = arranged_ranks kind Two (zip ts ds) ∙ kept kind 0 (zip ts ds) (rising_beside 0 ts ds up)

-- ranks fall under plan 2 alone
pub falls : (plan : PlanNo) (ts : List TheArgType) → never_falls plan ts ≡ false → plan ≡ Two
falls One ts e = absurd (cc)
falls Two ts e = refl
