-- Values put at their arguments' places while they are read rank by rank.
use Rattle.std.proofs.Common.{◌≡◌, ℕ, zero, suc, ◌+◌, ◌<◌, ◌≤◌, Bool, true, false, List, [], ◌∷◌, ◌++◌, length, map, take, get_or, set, filter, cond, eqb, eq-eqb, refl, sym, ◌∙◌, ap, subst, arith, add-one, append_assoc, append-nil}
use Rattle.std.proofs.lemmas.Bool.{ne_eqb, cond-true, cond-false}
use Rattle.std.proofs.lemmas.List.{take_all, length-map, map-set, get_or-map}
use Rattle.fl_interface.specs.declared.interface.ArgType.{ArgType}
use Rattle.fl_interface.specs.Interface.{TheArgType, arg_type_of}
use Rattle.fl_value_data.specs.declared.value.PlanNo.TheVariants.{Two}
use Rattle.fl_value_data.specs.declared.value.Value.{Value}
use Rattle.fl_value_data.specs.Value.{Datum, datum_of}
use Rattle.fl_value_data.specs.Plan.{rank_of}
use Rattle.fl_value_data.specs.Taken.{InTurn, types_of_rank}
use Rattle.fl_value_data.proofs.Ranked.{rank, picked, ranked}
use Rattle.fl_value_data.proofs.Turns.{filter_taken}
use Rattle.fl_value_unpack.specs.Reading.{PackedArgumentAt, OnlyOne}
use Rattle.fl_value_unpack.proofs.Onlys.{only_more}

abbrev pub has_rank : ℕ → TheArgType → Bool
has_rank r t = eqb (rank t) r

-- ---- what stands beside types of a rank, where one more is put there

picked_set : {A : Type 0} (p : TheArgType → Bool) (ts : List TheArgType) (xs : List A) (i : ℕ) (x : A) (t : TheArgType) → i < length ts → t ≡ get_or ts i t → p t ≡ false
    → picked p ts (set xs i x) ≡ picked p ts xs
picked_set p [] xs i x t inside here fails = absurd (omega (arith, inside))
picked_set p (u ∷ us) [] i x t inside here fails = refl
picked_set p (u ∷ us) (y ∷ ys) zero x t inside here fails =
    let other : p u ≡ false = ap p (sym here) ∙ fails in
    rw other refl
picked_set p (u ∷ us) (y ∷ ys) (suc i) x t inside here fails = rw (picked_set p us ys i x t (omega (arith, inside)) here fails) refl

ranked_set : {A : Type 0} (n from : ℕ) (ts : List TheArgType) (xs : List A) (i : ℕ) (x : A) (t : TheArgType) → i < length ts → t ≡ get_or ts i t → from + n ≤ rank t
    → ranked n from ts (set xs i x) ≡ ranked n from ts xs
ranked_set zero from ts xs i x t inside here above = refl
ranked_set (suc n) from ts xs i x t inside here above =
    let other : eqb (rank t) from ≡ false = ne_eqb (rank t) from (λ e. absurd (omega (arith, e, above))) in
    rw (picked_set (has_rank from) ts xs i x t inside here other, ranked_set n (from + 1) ts xs i x t inside here (omega (arith, above))) refl

picked_in : {A : Type 0} (p : TheArgType → Bool) (ts : List TheArgType) (xs : List A) (i : ℕ) (x : A) (t : TheArgType) → i < length ts → length xs ≡ length ts → t ≡ get_or ts i t → p t ≡ true
    → picked p (take (suc i) ts) (take (suc i) (set xs i x)) ≡ picked p (take i ts) (take i xs) ++ x ∷ []
picked_in p [] xs i x t inside long here passes = absurd (omega (arith, inside))
picked_in p (u ∷ us) [] i x t inside long here passes = absurd (omega (arith, long))
picked_in p (u ∷ us) (y ∷ ys) zero x t inside long here passes =
    let own : p u ≡ true = ap p (sym here) ∙ passes in
    rw own refl
picked_in {A = A} p (u ∷ us) (y ∷ ys) (suc i) x t inside long here passes =
    let rest = picked_in p us ys i x t (omega (arith, inside)) (omega (arith, long)) here passes in
    elim (p u) as (λ v. cond {A = List A} v (y ∷ picked p (take (suc i) us) (take (suc i) (set ys i x))) (picked p (take (suc i) us) (take (suc i) (set ys i x)))
    ≡ cond {A = List A} v (y ∷ picked p (take i us) (take i ys)) (picked p (take i us) (take i ys)) ++ x ∷ []) [
      | true ↦ ap (λ (l : List A). y ∷ l) rest
      | false ↦ rest
    ]

picked_out : {A : Type 0} (p : TheArgType → Bool) (ts : List TheArgType) (xs : List A) (i : ℕ) (t : TheArgType) → i < length ts → length xs ≡ length ts → t ≡ get_or ts i t → p t ≡ false
    → picked p (take (suc i) ts) (take (suc i) xs) ≡ picked p (take i ts) (take i xs)
picked_out p [] xs i t inside long here fails = absurd (omega (arith, inside))
picked_out p (u ∷ us) [] i t inside long here fails = absurd (omega (arith, long))
picked_out p (u ∷ us) (y ∷ ys) zero t inside long here fails =
    let other : p u ≡ false = ap p (sym here) ∙ fails in
    rw other refl
picked_out p (u ∷ us) (y ∷ ys) (suc i) t inside long here fails = rw (picked_out p us ys i t (omega (arith, inside)) (omega (arith, long)) here fails) refl

-- one rank more
ranked_more : {A : Type 0} (n from : ℕ) (ts : List TheArgType) (xs : List A) → ranked (suc n) from ts xs ≡ ranked n from ts xs ++ picked (has_rank (from + n)) ts xs
ranked_more zero from ts xs =
    let same : from ≡ from + 0 = omega arith in
    append-nil (picked (has_rank from) ts xs) ∙ ap (λ (r : ℕ). picked (has_rank r) ts xs) same
ranked_more {A = A} (suc n) from ts xs =
    let same : from + 1 + n ≡ from + suc n = omega arith in
    let here = picked (has_rank from) ts xs in
    ap (λ (l : List A). here ++ l) (ranked_more n (from + 1) ts xs)
    ∙ sym (append_assoc here (ranked n (from + 1) ts xs) (picked (has_rank (from + 1 + n)) ts xs))
    ∙ ap (λ (r : ℕ). (here ++ ranked n (from + 1) ts xs) ++ picked (has_rank r) ts xs) same

-- ---- the values read so far: those of all ranks below one, and of that rank those of so many arguments

abbrev pub held : ℕ → ℕ → List TheArgType → List Datum → List Datum
held r i ts ds = ranked r 0 ts ds ++ picked (has_rank r) (take i ts) (take i ds)

pub held_start : (r : ℕ) (ts : List TheArgType) (ds : List Datum) → held r 0 ts ds ≡ ranked r 0 ts ds
held_start r ts ds = append-nil (ranked r 0 ts ds)

held_in : (r i : ℕ) (ts : List TheArgType) (ds : List Datum) (t : TheArgType) (d : Datum) → i < length ts → length ds ≡ length ts → t ≡ get_or ts i t → rank t ≡ r
    → held r (i + 1) ts (set ds i d) ≡ held r i ts ds ++ d ∷ []
held_in r i ts ds t d inside long here own =
    let passes : has_rank r t ≡ true = eq-eqb (rank t) r own in
    ap (λ (n : ℕ). ranked r 0 ts (set ds i d) ++ picked (has_rank r) (take n ts) (take n (set ds i d))) (add-one i)
    ∙ ap (λ (l : List Datum). l ++ picked (has_rank r) (take (suc i) ts) (take (suc i) (set ds i d))) (ranked_set r 0 ts ds i d t inside here (omega (arith, own)))
    ∙ ap (λ (l : List Datum). ranked r 0 ts ds ++ l) (picked_in (has_rank r) ts ds i d t inside long here passes)
    ∙ sym (append_assoc (ranked r 0 ts ds) (picked (has_rank r) (take i ts) (take i ds)) (d ∷ []))

held_out : (r i : ℕ) (ts : List TheArgType) (ds : List Datum) (t : TheArgType) → i < length ts → length ds ≡ length ts → t ≡ get_or ts i t → (rank t ≡ r → ⊥) → held r (i + 1) ts ds ≡ held r i ts ds
held_out r i ts ds t inside long here other =
    let fails : has_rank r t ≡ false = ne_eqb (rank t) r other in
    ap (λ (n : ℕ). ranked r 0 ts ds ++ picked (has_rank r) (take n ts) (take n ds)) (add-one i)
    ∙ ap (λ (l : List Datum). ranked r 0 ts ds ++ l) (picked_out (has_rank r) ts ds i t inside long here fails)

pub held_all : (r i : ℕ) (ts : List TheArgType) (ds : List Datum) → length ts ≤ i → length ds ≡ length ts → held r i ts ds ≡ ranked (r + 1) 0 ts ds
held_all r i ts ds all long =
    let same : r ≡ 0 + r = omega arith in
    ap (λ (us : List TheArgType). ranked r 0 ts ds ++ picked (has_rank r) us (take i ds)) (take_all i ts all)
    ∙ ap (λ (es : List Datum). ranked r 0 ts ds ++ picked (has_rank r) ts es) (take_all i ds (omega (arith, all, long)))
    ∙ ap (λ (n : ℕ). ranked r 0 ts ds ++ picked (has_rank n) ts ds) same
    ∙ sym (ranked_more r 0 ts ds)
    ∙ ap (λ (n : ℕ). ranked n 0 ts ds) (sym (add-one r))

-- ---- an argument of the rank is read, or one of another passed over

pub rank_in : (done : List TheArgType) (tape : List ℕ) (arguments : List ArgType) (vs : List Value) (r i : ℕ) (a : ArgType) (v : Value) (next rest : List ℕ)
    → i < length arguments → length vs ≡ length arguments → a ≡ get_or arguments i a → rank_of Two (arg_type_of a) ≡ r
    → OnlyOne (InTurn PackedArgumentAt (done ++ types_of_rank Two r (map arg_type_of (take i arguments))) tape) (held r i (map arg_type_of arguments) (map datum_of vs)) next
    → OnlyOne (PackedArgumentAt (arg_type_of a) next) (datum_of v) rest
    → OnlyOne (InTurn PackedArgumentAt (done ++ types_of_rank Two r (map arg_type_of (take (i + 1) arguments))) tape) (held r (i + 1) (map arg_type_of arguments) (map datum_of (set vs i v))) rest
rank_in done tape arguments vs r i a v next rest inside long here own one two =
    let type = arg_type_of a in
    let ts = map arg_type_of arguments in
    let ds = map datum_of vs in
    let before = filter (has_rank r) (map arg_type_of (take i arguments)) in
    let single : filter (has_rank r) (type ∷ []) ≡ type ∷ [] = cond-true (has_rank r type) (type ∷ []) [] (eq-eqb (rank_of Two type) r own) in
    let types : done ++ filter (has_rank r) (map arg_type_of (take (i + 1) arguments)) ≡ (done ++ before) ++ type ∷ []
    = ap (λ (us : List TheArgType). done ++ us) (filter_taken (has_rank r) arg_type_of arguments i a inside here ∙ ap (λ (us : List TheArgType). before ++ us) single) ∙ sym (append_assoc done before (type ∷ [])) in
    let many : length ds ≡ length ts = length-map vs datum_of ∙ long ∙ sym (length-map arguments arg_type_of) in
    let there : type ≡ get_or ts i type = ap arg_type_of here ∙ sym (get_or-map arg_type_of arguments i a type inside) in
    let values : held r (i + 1) ts (map datum_of (set vs i v)) ≡ held r i ts ds ++ datum_of v ∷ []
    = ap (held r (i + 1) ts) (map-set datum_of vs i v) ∙ held_in r i ts ds type (datum_of v) (omega (arith, inside, length-map arguments arg_type_of)) many there own in
    subst (λ (us : List TheArgType). OnlyOne (InTurn PackedArgumentAt us tape) (held r (i + 1) ts (map datum_of (set vs i v))) rest) (sym types)
    (subst (λ (es : List Datum). OnlyOne (InTurn PackedArgumentAt ((done ++ before) ++ type ∷ []) tape) es rest) (sym values)
    (only_more PackedArgumentAt (done ++ before) type tape (held r i ts ds) next (datum_of v) rest one two))

pub rank_out : (done : List TheArgType) (tape : List ℕ) (arguments : List ArgType) (vs : List Value) (r i : ℕ) (a : ArgType) (next : List ℕ)
    → i < length arguments → length vs ≡ length arguments → a ≡ get_or arguments i a → (rank_of Two (arg_type_of a) ≡ r → ⊥)
    → OnlyOne (InTurn PackedArgumentAt (done ++ types_of_rank Two r (map arg_type_of (take i arguments))) tape) (held r i (map arg_type_of arguments) (map datum_of vs)) next
    → OnlyOne (InTurn PackedArgumentAt (done ++ types_of_rank Two r (map arg_type_of (take (i + 1) arguments))) tape) (held r (i + 1) (map arg_type_of arguments) (map datum_of vs)) next
rank_out done tape arguments vs r i a next inside long here other one =
    let type = arg_type_of a in
    let ts = map arg_type_of arguments in
    let ds = map datum_of vs in
    let before = filter (has_rank r) (map arg_type_of (take i arguments)) in
    let none : filter (has_rank r) (type ∷ []) ≡ [] = cond-false (has_rank r type) (type ∷ []) [] (ne_eqb (rank_of Two type) r other) in
    let types : filter (has_rank r) (map arg_type_of (take (i + 1) arguments)) ≡ before
    = filter_taken (has_rank r) arg_type_of arguments i a inside here ∙ ap (λ (us : List TheArgType). before ++ us) none ∙ append-nil before in
    let many : length ds ≡ length ts = length-map vs datum_of ∙ long ∙ sym (length-map arguments arg_type_of) in
    let there : type ≡ get_or ts i type = ap arg_type_of here ∙ sym (get_or-map arg_type_of arguments i a type inside) in
    subst (λ (us : List TheArgType). OnlyOne (InTurn PackedArgumentAt (done ++ us) tape) (held r (i + 1) ts ds) next) (sym types)
    (subst (λ (es : List Datum). OnlyOne (InTurn PackedArgumentAt (done ++ before) tape) es next) (sym (held_out r i ts ds type (omega (arith, inside, length-map arguments arg_type_of)) many there other)) one)
