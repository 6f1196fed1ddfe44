-- The plan's order of arguments: what it keeps, and how it is undone.
use Rattle.std.proofs.Common.{◌≡◌, ℕ, zero, suc, ◌<◌, ◌≤◌, Bool, true, false, cond, eqb, List, [], ◌∷◌, ◌++◌, length, map, refl, sym, ◌∙◌, ap, subst, arith, eq-eqb, length-append, append_assoc, append-nil}
use Rattle.std.specs.Prelude.{filter}
use Rattle.std.specs.List.{zip, list_all}
use Rattle.std.proofs.lemmas.Bool.{and_parts, and_from, eqb-true, false≢true}
use Rattle.std.proofs.lemmas.List.{map-append}
use Rattle.fl_interface.specs.Interface.{TheArgType, fixed, text, sized}
use Rattle.fl_interface.specs.Sizes.{align_of}
use Rattle.fl_interface.specs.Limits.{is_argument_within, are_arguments_within}
use Rattle.fl_value_data.specs.declared.value.PlanNo.{PlanNo}
use Rattle.fl_value_data.specs.declared.value.PlanNo.TheVariants.{One, Two}
use Rattle.fl_value_data.specs.Value.{Datum}
use Rattle.fl_value_data.specs.Fits.{is_argument, are_arguments}
use Rattle.fl_value_data.specs.Plan.{arranged, is_fixed_at, is_dynamic, fixed_rank, rank_of}
use Rattle.fl_value_data.specs.Tape.{Argument, kind}
use Rattle.fl_value_data.proofs.Ranked.{arranged_ranks}
use Rattle.fl_interface.specs.Counts.{argument_words_fit}
use Rattle.fl_interface.proofs.Aligned.{by_align, type_align}
use Rattle.fl_compile.proofs.Placing.{is_sound}

-- ---- what holds of all holds of all in the plan's order

all_filter : {A : Type 0} (test p : A → Bool) (xs : List A) → list_all test xs ≡ true → list_all test (filter p xs) ≡ true
all_filter test p [] h = refl
all_filter test p (x ∷ xs) h =
    let parts = and_parts (test x) (list_all test xs) h in
    let rest = all_filter test p xs parts.1 in
    elim (p x) as (λ b. list_all test (cond b (x ∷ filter p xs) (filter p xs)) ≡ true) [ true ↦ and_from (test x) (list_all test (filter p xs)) parts.0 rest | false ↦ rest ]

all_append : {A : Type 0} (test : A → Bool) (xs ys : List A) → list_all test xs ≡ true → list_all test ys ≡ true → list_all test (xs ++ ys) ≡ true
all_append test [] ys h k = k
all_append test (x ∷ xs) ys h k =
    let parts = and_parts (test x) (list_all test xs) h in
    and_from (test x) (list_all test (xs ++ ys)) parts.0 (all_append test xs ys parts.1 k)

pub all_arranged : {A : Type 0} (test : A → Bool) (type : A → TheArgType) (plan : PlanNo) (xs : List A) → list_all test xs ≡ true → list_all test (arranged type plan xs) ≡ true
all_arranged test type One xs h = h
all_arranged test type Two xs h =
    let f = λ (p : TheArgType → Bool). all_filter test (λ x. p (type x)) xs h in
    all_append test _ _ (all_append test _ _ (all_append test _ _ (all_append test _ _ (f (is_fixed_at 8)) (f (is_fixed_at 4))) (f (is_fixed_at 2))) (f (is_fixed_at 1))) (f is_dynamic)

filter_short : {A : Type 0} (p : A → Bool) (xs : List A) → length (filter p xs) ≤ length xs
filter_short p [] = omega arith
filter_short p (x ∷ xs) = let rest = filter_short p xs in elim (p x) as (λ b. length (cond b (x ∷ filter p xs) (filter p xs)) ≤ length (x ∷ xs)) [ true ↦ omega (arith, rest) | false ↦ omega (arith, rest) ]

-- at most five times as many
pub arranged_short : (plan : PlanNo) (ts : List TheArgType) → length ts ≤ 32 → length (arranged (λ (t : TheArgType). t) plan ts) ≤ 160
arranged_short One ts h = omega (arith, h)
arranged_short Two ts h =
    let a = filter (is_fixed_at 8) ts in let b = filter (is_fixed_at 4) ts in let c = filter (is_fixed_at 2) ts in let d = filter (is_fixed_at 1) ts in let e = filter is_dynamic ts in
    omega (
      arith,
      h,
      filter_short (is_fixed_at 8) ts,
      filter_short (is_fixed_at 4) ts,
      filter_short (is_fixed_at 2) ts,
      filter_short (is_fixed_at 1) ts,
      filter_short is_dynamic ts,
      length-append a b,
      length-append (a ++ b) c,
      length-append (a ++ b ++ c) d,
      length-append (a ++ b ++ c ++ d) e,
    )

-- ---- arguments beside their types

filter_kinds : (p : TheArgType → Bool) (args : List Argument) → map kind (filter (λ (a : Argument). p (kind a)) args) ≡ filter p (map kind args)
filter_kinds p [] = refl
filter_kinds p (a ∷ args) =
    let rest = filter_kinds p args in
    elim (p (kind a)) as (λ v. map kind (cond v (a ∷ filter (λ (b : Argument). p (kind b)) args) (filter (λ (b : Argument). p (kind b)) args)) ≡ cond v (kind a ∷ filter p (map kind args)) (filter p (map kind args))) [
      | true ↦ ap (λ (ts : List TheArgType). kind a ∷ ts) rest
      | false ↦ rest
    ]

both_kinds : (xs ys : List Argument) (us vs : List TheArgType) → map kind xs ≡ us → map kind ys ≡ vs → map kind (xs ++ ys) ≡ us ++ vs
both_kinds xs ys us vs e f = map-append kind xs ys ∙ ap (λ (l : List TheArgType). l ++ map kind ys) e ∙ ap (λ (l : List TheArgType). us ++ l) f

pub arranged_kinds : (plan : PlanNo) (args : List Argument) → map kind (arranged kind plan args) ≡ arranged (λ (t : TheArgType). t) plan (map kind args)
arranged_kinds One args = refl
arranged_kinds Two args =
    let f = λ (p : TheArgType → Bool). filter_kinds p args in
    both_kinds _ _ _ _ (both_kinds _ _ _ _ (both_kinds _ _ _ _ (both_kinds _ _ _ _ (f (is_fixed_at 8)) (f (is_fixed_at 4))) (f (is_fixed_at 2))) (f (is_fixed_at 1))) (f is_dynamic)

-- types beside values that fit them
pub zip_kinds : (ts : List TheArgType) (ds : List Datum) → are_arguments ts ds ≡ true → map kind (zip ts ds) ≡ ts
zip_kinds [] [] h = refl
zip_kinds [] (d ∷ ds) h = absurd (false≢true h)
zip_kinds (t ∷ ts) [] h = absurd (false≢true h)
zip_kinds (t ∷ ts) (d ∷ ds) h = ap (λ (us : List TheArgType). t ∷ us) (zip_kinds ts ds (and_parts (is_argument t d) (are_arguments ts ds) h).1)

pub zip_sound : (ts : List TheArgType) (ds : List Datum) → are_arguments ts ds ≡ true → are_arguments_within ts ≡ true → list_all argument_words_fit ts ≡ true
    → list_all is_sound (zip ts ds) ≡ true
zip_sound [] ds h w f = refl
zip_sound (t ∷ ts) [] h w f = refl
zip_sound (t ∷ ts) (d ∷ ds) h w f =
    let typed = and_parts (is_argument t d) (are_arguments ts ds) h in
    let within = and_parts (is_argument_within t) (are_arguments_within ts) w in
    let few = and_parts (argument_words_fit t) (list_all argument_words_fit ts) f in
    and_from (is_sound (t, d)) (list_all is_sound (zip ts ds)) (and_from _ _ typed.0 (and_from _ _ within.0 few.0)) (zip_sound ts ds typed.1 within.1 few.1)

abbrev pub is_fitting : Argument → Bool
is_fitting a = is_argument a.0 a.1

abbrev pub values : List Argument → List Datum
values args = map (λ (a : Argument). a.1) args

-- and back
zip_own : (args : List Argument) → zip (map kind args) (values args) ≡ args
zip_own [] = refl
zip_own (a ∷ args) = ap (λ (rest : List Argument). a ∷ rest) (zip_own args)

pub zip_back : (args : List Argument) (ts : List TheArgType) → map kind args ≡ ts → zip ts (values args) ≡ args
zip_back args ts e = subst (λ (us : List TheArgType). zip us (values args) ≡ args) e (zip_own args)

values_own : (args : List Argument) → list_all is_fitting args ≡ true → are_arguments (map kind args) (values args) ≡ true
values_own [] h = refl
values_own (a ∷ args) h =
    let parts = and_parts (is_fitting a) (list_all is_fitting args) h in
    and_from (is_fitting a) (are_arguments (map kind args) (values args)) parts.0 (values_own args parts.1)

pub values_fit : (args : List Argument) (ts : List TheArgType) → map kind args ≡ ts → list_all is_fitting args ≡ true → are_arguments ts (values args) ≡ true
values_fit args ts e h = subst (λ (us : List TheArgType). are_arguments us (values args) ≡ true) e (values_own args h)

-- ---- ranks

abbrev rank : TheArgType → ℕ
rank t = rank_of Two t

rank_small : (t : TheArgType) → rank t < 5
rank_small (fixed t) = by_align (λ (n : ℕ). fixed_rank n < 5) (omega arith) (omega arith) (omega arith) (omega arith) (align_of t) (type_align t)
rank_small (text most) = omega arith
rank_small (sized most t) = omega arith

abbrev of_rank : ℕ → List TheArgType → List TheArgType
of_rank k ts = filter (λ (t : TheArgType). eqb (rank t) k) ts

abbrev args_of_rank : ℕ → List Argument → List Argument
args_of_rank k args = filter (λ (a : Argument). eqb (rank (kind a)) k) args

-- ---- back from the plan's order

-- the first of some arguments, by its type
record First (t : TheArgType) (ts : List TheArgType) (args : List Argument) : Type 0 where
  one : Argument
  rest : List Argument
  is : args ≡ one ∷ rest
  its_kind : kind one ≡ t
  kinds : map kind rest ≡ ts

first : (t : TheArgType) (ts : List TheArgType) (args : List Argument) → map kind args ≡ t ∷ ts → First t ts args
first t ts [] e = absurd (cc)
first t ts (a ∷ args) e = record { one = a; rest = args; is = refl; its_kind = cc; kinds = cc }

-- arguments that are those of each rank, put together again
record Merged (ts : List TheArgType) (f : ℕ → List Argument) : Type 0 where
  all : List Argument
  kinds : map kind all ≡ ts
  fitting : list_all is_fitting all ≡ true
  ranks : (k : ℕ) → k < 5 → args_of_rank k all ≡ f k

none_left : (args : List Argument) → map kind args ≡ [] → args ≡ []
none_left [] e = refl
none_left (a ∷ args) e = absurd (cc)

-- the family without the first of its rank
abbrev without : ℕ → List Argument → (ℕ → List Argument) → ℕ → List Argument
without r rest f k = cond (eqb k r) rest (f k)

rank_taken : (t : TheArgType) (ts : List TheArgType) (k : ℕ) → rank t ≡ k → of_rank k (t ∷ ts) ≡ t ∷ of_rank k ts
rank_taken t ts k e = rw (eq-eqb (rank t) k e) refl

not_same_by : (r k : ℕ) (v : Bool) → eqb r k ≡ v → eqb k r ≡ false → v ≡ false
not_same_by r k true same e = absurd (false≢true (sym e ∙ eq-eqb k r (sym (eqb-true r k same))))
not_same_by r k false same e = refl

not_same : (r k : ℕ) → eqb k r ≡ false → eqb r k ≡ false
not_same r k e = not_same_by r k (eqb r k) refl e

merge_step : (t : TheArgType) (ts : List TheArgType) (f : ℕ → List Argument) → ((k : ℕ) → k < 5 → map kind (f k) ≡ of_rank k (t ∷ ts))
    → (x : First t (of_rank (rank t) ts) (f (rank t))) → (k : ℕ) → k < 5 → (same : Bool) → eqb k (rank t) ≡ same
    → map kind (cond same x.rest (f k)) ≡ of_rank k ts
merge_step t ts f h x k small true e = x.kinds ∙ ap (λ (j : ℕ). of_rank j ts) (sym (eqb-true k (rank t) e))
merge_step t ts f h x k small false e =
    let other : eqb (rank t) k ≡ false = not_same (rank t) k e in
    h k small ∙ ap (λ (v : Bool). cond v (t ∷ of_rank k ts) (of_rank k ts)) other

fit_step : (r : ℕ) (rest : List Argument) (f : ℕ → List Argument) (k : ℕ) (same : Bool) → list_all is_fitting rest ≡ true → list_all is_fitting (f k) ≡ true
    → list_all is_fitting (cond same rest (f k)) ≡ true
fit_step r rest f k true h g = h
fit_step r rest f k false h g = g

back_step : (one : Argument) (rest all : List Argument) (r : ℕ) (f : ℕ → List Argument) → f r ≡ one ∷ rest → (k : ℕ) → (same : Bool) → eqb r k ≡ same
    → args_of_rank k all ≡ cond (eqb k r) rest (f k) → cond same (one ∷ args_of_rank k all) (args_of_rank k all) ≡ f k
back_step one rest all r f is k true e h =
    let eq : r ≡ k = eqb-true r k e in
    let same : eqb k r ≡ true = eq-eqb k r (sym eq) in
    ap (λ (l : List Argument). one ∷ l) (h ∙ ap (λ (v : Bool). cond v rest (f k)) same) ∙ sym is ∙ ap f eq
back_step one rest all r f is k false e h = h ∙ ap (λ (v : Bool). cond v rest (f k)) (not_same k r e)

merge : (ts : List TheArgType) (f : ℕ → List Argument) → ((k : ℕ) → k < 5 → map kind (f k) ≡ of_rank k ts) → ((k : ℕ) → k < 5 → list_all is_fitting (f k) ≡ true) → Merged ts f
merge [] f h g = record { all = []; kinds = refl; fitting = refl; ranks = λ k small. sym (none_left (f k) (h k small)) }
merge (t ∷ ts) f h g =
    let r = rank t in
    let x = first t (of_rank r ts) (f r) (h r (rank_small t) ∙ rank_taken t ts r refl) in
    let fit : list_all is_fitting (x.one ∷ x.rest) ≡ true = sym (ap (list_all is_fitting) x.is) ∙ g r (rank_small t) in
    let parts = and_parts (is_fitting x.one) (list_all is_fitting x.rest) fit in
    let m = merge ts (without r x.rest f) (λ k small. merge_step t ts f h x k small (eqb k r) refl) (λ k small. fit_step r x.rest f k (eqb k r) parts.1 (g k small)) in
    let rank : rank (kind x.one) ≡ r = ap rank x.its_kind in
    record {
      all = x.one ∷ m.all;
      kinds = ap (λ (u : TheArgType). u ∷ map kind m.all) x.its_kind ∙ ap (λ (us : List TheArgType). t ∷ us) m.kinds;
      fitting = and_from (is_fitting x.one) (list_all is_fitting m.all) parts.0 m.fitting;
      ranks = λ k small.
          ap (λ (n : ℕ). cond (eqb n k) (x.one ∷ args_of_rank k m.all) (args_of_rank k m.all)) rank
          ∙ back_step x.one x.rest m.all r f x.is k (eqb r k) refl (m.ranks k small);
    }

-- a list of arguments whose types are two lists
record Split (us vs : List TheArgType) (args : List Argument) : Type 0 where
  prefix : List Argument
  back : List Argument
  is : args ≡ prefix ++ back
  prefixes : map kind prefix ≡ us
  backs : map kind back ≡ vs
  prefix_fits : list_all is_fitting prefix ≡ true
  back_fits : list_all is_fitting back ≡ true

split : (us vs : List TheArgType) (args : List Argument) → map kind args ≡ us ++ vs → list_all is_fitting args ≡ true → Split us vs args
split [] vs args e h = record { prefix = []; back = args; is = refl; prefixes = refl; backs = e; prefix_fits = refl; back_fits = h }
split (u ∷ us) vs args e h =
    let x = first u (us ++ vs) args e in
    let fit : list_all is_fitting (x.one ∷ x.rest) ≡ true = sym (ap (list_all is_fitting) x.is) ∙ h in
    let parts = and_parts (is_fitting x.one) (list_all is_fitting x.rest) fit in
    let s = split us vs x.rest x.kinds parts.1 in
    record {
      prefix = x.one ∷ s.prefix;
      back = s.back;
      is = x.is ∙ ap (λ (l : List Argument). x.one ∷ l) s.is;
      prefixes = ap (λ (w : TheArgType). w ∷ map kind s.prefix) x.its_kind ∙ ap (λ (l : List TheArgType). u ∷ l) s.prefixes;
      backs = s.backs;
      prefix_fits = and_from (is_fitting x.one) (list_all is_fitting s.prefix) parts.0 s.prefix_fits;
      back_fits = s.back_fits;
    }

-- five lists by their numbers
abbrev one_of : List Argument → List Argument → List Argument → List Argument → List Argument → ℕ → List Argument
one_of a b c d e k = cond (eqb k 0) a (cond (eqb k 1) b (cond (eqb k 2) c (cond (eqb k 3) d e)))

by_five : (P : ℕ → Type 0) → P 0 → P 1 → P 2 → P 3 → P 4 → (k : ℕ) → k < 5 → P k
by_five P p0 p1 p2 p3 p4 zero h = p0
by_five P p0 p1 p2 p3 p4 (suc zero) h = p1
by_five P p0 p1 p2 p3 p4 (suc (suc zero)) h = p2
by_five P p0 p1 p2 p3 p4 (suc (suc (suc zero))) h = p3
by_five P p0 p1 p2 p3 p4 (suc (suc (suc (suc zero)))) h = p4
by_five P p0 p1 p2 p3 p4 (suc (suc (suc (suc (suc k))))) h = absurd (omega (arith, h))

same_five : {A : Type 0} (a b c d e f g h i j : List A) → a ≡ f → b ≡ g → c ≡ h → d ≡ i → e ≡ j → a ++ b ++ c ++ d ++ e ≡ f ++ g ++ h ++ i ++ j
same_five a b c d e f g h i j p q r s t = rw (p, q, r, s, t) refl

-- values in declared order that the plan puts into this one
pub record Undone (plan : PlanNo) (ts : List TheArgType) (args : List Argument) : Type 0 where
  pub ds : List Datum
  pub fit : are_arguments ts ds ≡ true
  pub back : arranged kind plan (zip ts ds) ≡ args

undone_from : (plan : PlanNo) (ts : List TheArgType) (args all : List Argument) → map kind all ≡ ts → list_all is_fitting all ≡ true → arranged kind plan all ≡ args → Undone plan ts args
undone_from plan ts args all kinds fit e = record {
  ds = values all;
  fit = values_fit all ts kinds fit;
  back = ap (arranged kind plan) (zip_back all ts kinds) ∙ e;
}

-- the plan's order by ranks
by_ranks : (args : List Argument)
    → arranged kind Two args ≡ args_of_rank 0 args ++ args_of_rank 1 args ++ args_of_rank 2 args ++ args_of_rank 3 args ++ args_of_rank 4 args
by_ranks args = arranged_ranks kind Two args ∙ simp (append_assoc, append-nil)

-- five lists of the plan's order, put together again
undo_five : (ts : List TheArgType) (a b c d e : List Argument)
    → map kind a ≡ of_rank 0 ts → map kind b ≡ of_rank 1 ts → map kind c ≡ of_rank 2 ts → map kind d ≡ of_rank 3 ts → map kind e ≡ of_rank 4 ts
    → list_all is_fitting a ≡ true → list_all is_fitting b ≡ true → list_all is_fitting c ≡ true → list_all is_fitting d ≡ true → list_all is_fitting e ≡ true
    → Undone Two ts (a ++ b ++ c ++ d ++ e)
undo_five ts a b c d e ka kb kc kd ke fa fb fc fd fe =
    let f = one_of a b c d e in
    let m = merge ts f
    (by_five (λ (k : ℕ). map kind (f k) ≡ of_rank k ts) ka kb kc kd ke)
    (by_five (λ (k : ℕ). list_all is_fitting (f k) ≡ true) fa fb fc fd fe) in
    undone_from Two ts (a ++ b ++ c ++ d ++ e) m.all m.kinds m.fitting
    (by_ranks m.all ∙ same_five (args_of_rank 0 m.all) (args_of_rank 1 m.all) (args_of_rank 2 m.all) (args_of_rank 3 m.all) (args_of_rank 4 m.all) a b c d e
    (m.ranks 0 (omega arith)) (m.ranks 1 (omega arith)) (m.ranks 2 (omega arith)) (m.ranks 3 (omega arith)) (m.ranks 4 (omega arith)))

joined : (args a b c d e abcd abc ab : List Argument) → args ≡ abcd ++ e → abcd ≡ abc ++ d → abc ≡ ab ++ c → ab ≡ a ++ b → a ++ b ++ c ++ d ++ e ≡ args
joined args a b c d e abcd abc ab p q r s =
    sym (p ∙ ap (λ (l : List Argument). l ++ e) (q ∙ ap (λ (l : List Argument). l ++ d) (r ∙ ap (λ (l : List Argument). l ++ c) s)))

undo_last : (ts : List TheArgType) (args abcd abc ab c d e : List Argument) → args ≡ abcd ++ e → abcd ≡ abc ++ d → abc ≡ ab ++ c → Split (of_rank 0 ts) (of_rank 1 ts) ab
    → map kind c ≡ of_rank 2 ts → map kind d ≡ of_rank 3 ts → map kind e ≡ of_rank 4 ts
    → list_all is_fitting c ≡ true → list_all is_fitting d ≡ true → list_all is_fitting e ≡ true → Undone Two ts args
undo_last ts args abcd abc ab c d e p q r s kc kd ke fc fd fe =
    subst (Undone Two ts) {x = s.prefix ++ s.back ++ c ++ d ++ e} (joined args s.prefix s.back c d e abcd abc ab p q r s.is)
    (undo_five ts s.prefix s.back c d e s.prefixes s.backs kc kd ke s.prefix_fits s.back_fits fc fd fe)

pub undo : (plan : PlanNo) (ts : List TheArgType) (args : List Argument) → map kind args ≡ arranged (λ (t : TheArgType). t) plan ts → list_all is_fitting args ≡ true → Undone plan ts args
undo One ts args e h = undone_from One ts args args e h refl
undo Two ts args e h =
    let ranks : map kind args ≡ of_rank 0 ts ++ of_rank 1 ts ++ of_rank 2 ts ++ of_rank 3 ts ++ of_rank 4 ts
    = e ∙ arranged_ranks (λ (t : TheArgType). t) Two ts ∙ simp (append_assoc, append-nil) in
    let r0 = of_rank 0 ts in let r1 = of_rank 1 ts in let r2 = of_rank 2 ts in let r3 = of_rank 3 ts in
    let s4 = split (r0 ++ r1 ++ r2 ++ r3) (of_rank 4 ts) args ranks h in
    let s3 = split (r0 ++ r1 ++ r2) r3 s4.prefix s4.prefixes s4.prefix_fits in
    let s2 = split (r0 ++ r1) r2 s3.prefix s3.prefixes s3.prefix_fits in
    undo_last ts args s4.prefix s3.prefix s2.prefix s2.back s3.back s4.back s4.is s3.is s2.is (split r0 r1 s2.prefix s2.prefixes s2.prefix_fits)
    s2.backs s3.backs s4.backs s2.back_fits s3.back_fits s4.back_fits
