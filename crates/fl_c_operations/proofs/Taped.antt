-- A fitting call has a tape exactly where nothing is left behind its arguments, rank by rank.
use Rattle.std.proofs.Common.{◌≡◌, ℕ, zero, suc, ◌+◌, ◌≤◌, ◌&&◌, Bool, true, false, cond, List, [], ◌∷◌, ◌++◌, length, map, insert, zip, flat_map, slice_get, Option, Some, None, option_and_then, eqb, ltb, refl, sym, ◌∙◌, ap, subst, arith, append_assoc, append-nil}
use Rattle.std.specs.List.{list_all}
use Rattle.std.specs.Cmp.{first_so, second_so}
use Rattle.std.proofs.lemmas.Bool.{false≢true, eqb-true}
use Rattle.std.proofs.lemmas.List.Folds.{list_all-append}
use Rattle.std.proofs.lemmas.List.Sums.{count_by-le-length}
use Rattle.fl_interface.specs.Interface.{TheArgType, TheMessage, TheInterface}
use Rattle.fl_value_data.specs.declared.value.PlanNo.{PlanNo}
use Rattle.fl_value_data.specs.declared.value.PlanNo.TheVariants.{One, Two}
use Rattle.fl_value_data.specs.Value.{Datum, TheCall}
use Rattle.fl_value_data.specs.Fits.{is_argument, are_arguments, fit_message}
use Rattle.fl_value_data.specs.Plan.{rank_of, of_rank, of_ranks, by_ranks, arranged}
use Rattle.fl_value_data.specs.Tape.{Argument, kind, tape_of_argument, types_of}
use Rattle.fl_value_data.specs.Taken.{ArgumentAt, InTurn, HasTape}
use Rattle.fl_value_data.proofs.Ranked.{rank, before, prefix, rearranged, arranged_ranks, firsts_arranged}
use Rattle.fl_value_data.proofs.Untaped.{as_many, all_types, call_found, is_empty}
use Rattle.fl_c_operations.specs.After.{after_all, after_argument, after_ranked, after_ranks, is_all}
use Rattle.fl_c_operations.proofs.After.{argument_found, argument_kept}

-- ---- rank by rank

-- the same from there on
next_same : (o : Option (List ℕ)) (f g : List ℕ → Option (List ℕ)) → ((l : List ℕ) → f l ≡ g l) → option_and_then f o ≡ option_and_then g o
next_same None f g same = refl
next_same (Some l) f g same = same l

-- an argument of another rank is passed over
rank_is : (plan : PlanNo) (rank : ℕ) (ts : List TheArgType) (tape : List ℕ) → after_all (after_ranked plan rank) ts tape ≡ after_all after_argument (of_rank (λ t. t) plan rank ts) tape
rank_is plan rank [] tape = refl
rank_is plan rank (t ∷ ts) tape =
    let others = of_rank (λ (u : TheArgType). u) plan rank ts in
    elim (eqb (rank_of plan t) rank) as (λ b. option_and_then (after_all (after_ranked plan rank) ts) (cond b (after_argument t tape) (Some tape))
    ≡ after_all after_argument (cond b (t ∷ others) others) tape) [
      | true ↦ next_same (after_argument t tape) (after_all (after_ranked plan rank) ts) (after_all after_argument others) (λ l. rank_is plan rank ts l)
      | false ↦ rank_is plan rank ts tape
    ]

next_next : (o : Option (List ℕ)) (ts us : List TheArgType) → ((l : List ℕ) → after_all after_argument (ts ++ us) l ≡ option_and_then (after_all after_argument us) (after_all after_argument ts l))
    → option_and_then (after_all after_argument (ts ++ us)) o ≡ option_and_then (after_all after_argument us) (option_and_then (after_all after_argument ts) o)
next_next None ts us same = refl
next_next (Some l) ts us same = same l

all_joined : (ts us : List TheArgType) (tape : List ℕ) → after_all after_argument (ts ++ us) tape ≡ option_and_then (after_all after_argument us) (after_all after_argument ts tape)
all_joined [] us tape = refl
all_joined (t ∷ ts) us tape = next_next (after_argument t tape) ts us (λ l. all_joined ts us l)

ranks_are : (plan : PlanNo) (n rank : ℕ) (ts : List TheArgType) (tape : List ℕ) → after_ranks plan n rank ts tape ≡ after_all after_argument (of_ranks (λ t. t) plan n rank ts) tape
ranks_are plan zero rank ts tape = refl
ranks_are plan (suc n) rank ts tape =
    let here = of_rank (λ (t : TheArgType). t) plan rank ts in
    let others = of_ranks (λ (t : TheArgType). t) plan n (rank + 1) ts in
    ap (λ (o : Option (List ℕ)). option_and_then (after_ranks plan n (rank + 1) ts) o) (rank_is plan rank ts tape)
    ∙ next_same (after_all after_argument here tape) (after_ranks plan n (rank + 1) ts) (after_all after_argument others) (λ l. ranks_are plan n (rank + 1) ts l)
    ∙ sym (all_joined here others tape)

-- ---- where nothing is left, a call has the tape

some_same : (a b : List ℕ) → Some a ≡ Some b → a ≡ b
some_same a b e = cc

chained : (o : Option (List ℕ)) (f : List ℕ → Option (List ℕ)) (rest : List ℕ) → option_and_then f o ≡ Some rest → (next : List ℕ) × (o ≡ Some next) × (f next ≡ Some rest)
chained None f rest e = absurd (cc)
chained (Some next) f rest e = (next, refl, e)

all_found : (ts : List TheArgType) (tape rest : List ℕ) → after_all after_argument ts tape ≡ Some rest → (ds : List Datum) × InTurn ArgumentAt ts tape ds rest
all_found [] tape rest e = ([], some_same tape rest e)
all_found (t ∷ ts) tape rest e =
    let (next, first, second) = chained (after_argument t tape) (after_all after_argument ts) rest e in
    let (d, here) = argument_found t tape next first in
    let (ds, behind) = all_found ts next rest second in
    (d ∷ ds, (next, here, behind))

-- one value is taken out of several
taken_out : (n : ℕ) (rs : List Datum) (k : ℕ) → length rs ≡ suc k → n ≤ k → (r : Datum) × (left : List Datum) × (insert left n r ≡ rs) × (length left ≡ k)
taken_out n [] k e h = absurd (omega (arith, e))
taken_out zero (r ∷ rs) k e h = (r, rs, refl, omega (arith, e))
taken_out (suc n) (r ∷ rs) zero e h = absurd (omega (arith, h))
taken_out (suc n) (r ∷ rs) (suc k) e h =
    let (s, left, same, long) = taken_out n rs k (omega (arith, e)) (omega (arith, h)) in
    (s, r ∷ left, ap (λ (l : List Datum). r ∷ l) same, ap (λ (m : ℕ). suc m) long)

-- values in the plan's order go back into the declared one
put_back : (plan : PlanNo) (ts : List TheArgType) (rs : List Datum) → length rs ≡ length ts → (vs : List Datum) × (length vs ≡ length ts) × (rearranged plan ts vs ≡ rs)
put_back One ts rs e = (rs, e, refl)
put_back Two [] [] e = ([], refl, refl)
put_back Two [] (r ∷ rs) e = absurd (omega (arith, e))
put_back Two (t ∷ ts) rs e =
    let few : before t ts ≤ length ts = count_by-le-length (λ (u : TheArgType). ltb (rank u) (rank t)) ts in
    let (v, left, same, long) = taken_out (before t ts) rs (length ts) e few in
    let (vs, many, back) = put_back Two ts left long in
    (v ∷ vs, ap (λ (m : ℕ). suc m) many, prefix t ts v vs many ∙ ap (λ (l : List Datum). insert l (before t ts) v) back ∙ same)

-- a message's call that has the tape
call_there : (plan : PlanNo) (i : TheInterface) (m : TheMessage) (msg : ℕ) (tape : List ℕ) → slice_get i.messages msg ≡ Some m → after_ranks plan 5 0 m.args tape ≡ Some []
    → (c : TheCall) × HasTape plan i msg tape c
call_there plan i m msg tape here e =
    let planned = arranged (λ (t : TheArgType). t) plan m.args in
    let order = sym (arranged_ranks (λ (t : TheArgType). t) plan m.args) in
    let (rs, ranked) = all_found (by_ranks (λ (t : TheArgType). t) plan m.args) tape [] (sym (ranks_are plan 5 0 m.args tape) ∙ e) in
    let stands = subst (λ (ts : List TheArgType). InTurn ArgumentAt ts tape rs []) order ranked in
    let (vs, many, back) = put_back plan m.args rs (as_many planned tape rs [] stands ∙ all_types plan m.args) in
    (record { msg = msg; args = vs }, call_found plan i m msg tape rs vs here stands many back)

-- ---- behind a call's arguments nothing is left

abbrev fits_type : Argument → Bool
fits_type a = is_argument a.0 a.1

pairs_kept : (args : List Argument) (rest : List ℕ) → list_all fits_type args ≡ true
    → after_all after_argument (map (λ (a : Argument). a.0) args) (flat_map tape_of_argument args ++ rest) ≡ Some rest
pairs_kept [] rest h = refl
pairs_kept (a ∷ args) rest h =
    let more = after_all after_argument (map (λ (b : Argument). b.0) args) in
    let behind = flat_map tape_of_argument args in
    ap (λ (l : List ℕ). option_and_then more (after_argument a.0 l)) (append_assoc (tape_of_argument a) behind rest)
    ∙ ap (λ (o : Option (List ℕ)). option_and_then more o) (argument_kept a.0 a.1 (behind ++ rest) (first_so (fits_type a) _ h))
    ∙ pairs_kept args rest (second_so (fits_type a) _ h)

both : (a b : Bool) → a ≡ true → b ≡ true → (a && b) ≡ true
both true b p q = q
both false b p q = absurd (cc)

one_of : (b : Bool) (a : Argument) (args : List Argument) → fits_type a ≡ true → list_all fits_type args ≡ true → list_all fits_type (cond b (a ∷ args) args) ≡ true
one_of true a args h k = both (fits_type a) (list_all fits_type args) h k
one_of false a args h k = k

all_of_rank : (plan : PlanNo) (rank : ℕ) (args : List Argument) → list_all fits_type args ≡ true → list_all fits_type (of_rank kind plan rank args) ≡ true
all_of_rank plan rank [] h = refl
all_of_rank plan rank (a ∷ args) h =
    one_of (eqb (rank_of plan (kind a)) rank) a (of_rank kind plan rank args) (first_so (fits_type a) _ h) (all_of_rank plan rank args (second_so (fits_type a) _ h))

all_of_ranks : (plan : PlanNo) (n rank : ℕ) (args : List Argument) → list_all fits_type args ≡ true → list_all fits_type (of_ranks kind plan n rank args) ≡ true
all_of_ranks plan zero rank args h = refl
all_of_ranks plan (suc n) rank args h =
    list_all-append fits_type (of_rank kind plan rank args) (of_ranks kind plan n (rank + 1) args)
    ∙ both (list_all fits_type (of_rank kind plan rank args)) (list_all fits_type (of_ranks kind plan n (rank + 1) args)) (all_of_rank plan rank args h) (all_of_ranks plan n (rank + 1) args h)

are_pairs : (ts : List TheArgType) (ds : List Datum) → are_arguments ts ds ≡ true → (list_all fits_type (zip ts ds) ≡ true) × (length ds ≡ length ts)
are_pairs [] [] h = (refl, refl)
are_pairs [] (d ∷ ds) h = absurd (false≢true h)
are_pairs (t ∷ ts) [] h = absurd (false≢true h)
are_pairs (t ∷ ts) (d ∷ ds) h =
    let (all, many) = are_pairs ts ds (second_so (is_argument t d) _ h) in
    (both (is_argument t d) (list_all fits_type (zip ts ds)) (first_so (is_argument t d) _ h) all, ap (λ (m : ℕ). suc m) many)

arguments_kept : (plan : PlanNo) (ts : List TheArgType) (ds : List Datum) → are_arguments ts ds ≡ true
    → after_ranks plan 5 0 ts (flat_map tape_of_argument (arranged kind plan (zip ts ds))) ≡ Some []
arguments_kept plan ts ds h =
    let (all, many) = are_pairs ts ds h in
    let args = arranged kind plan (zip ts ds) in
    let typed : list_all fits_type args ≡ true = ap (list_all fits_type) (arranged_ranks kind plan (zip ts ds)) ∙ all_of_ranks plan 5 0 (zip ts ds) all in
    let types : map (λ (a : Argument). a.0) args ≡ by_ranks (λ t. t) plan ts = firsts_arranged plan ts ds many ∙ arranged_ranks (λ (t : TheArgType). t) plan ts in
    let tape = flat_map tape_of_argument args in
    ranks_are plan 5 0 ts tape ∙ ap (λ (us : List TheArgType). after_all after_argument us tape) (sym types)
    ∙ ap (after_all after_argument (map (λ (a : Argument). a.0) args)) (sym (append-nil tape)) ∙ pairs_kept args [] typed

-- a call of the message that has the tape
call_kept : (plan : PlanNo) (i : TheInterface) (m : TheMessage) (msg : ℕ) (tape : List ℕ) (c : TheCall) → slice_get i.messages msg ≡ Some m → HasTape plan i msg tape c
    → after_ranks plan 5 0 m.args tape ≡ Some []
call_kept plan i m msg tape c here h =
    let found : slice_get i.messages c.msg ≡ Some m = ap (slice_get i.messages) h.message ∙ here in
    let fits : are_arguments m.args c.args ≡ true = subst (λ (o : Option TheMessage). fit_message o c.args ≡ true) found h.fits in
    let whole = h.whole ∙ ap (λ (o : Option TheMessage). flat_map tape_of_argument (arranged kind plan (zip (types_of o) c.args))) found in
    ap (after_ranks plan 5 0 m.args) whole ∙ arguments_kept plan m.args c.args fits

-- ---- a test

all_is : (o : Option (List ℕ)) → is_all o ≡ true → o ≡ Some []
all_is None e = absurd (cc)
all_is (Some rest) e = ap (λ (l : List ℕ). Some l) (is_empty rest (eqb-true (length rest) 0 e))

all_test : (o : Option (List ℕ)) → o ≡ Some [] → is_all o ≡ true
all_test o e = ap is_all e

pub has_call : (plan : PlanNo) (i : TheInterface) (m : TheMessage) (msg : ℕ) (tape : List ℕ) (r : Bool) → slice_get i.messages msg ≡ Some m
    → r ≡ is_all (after_ranks plan 5 0 m.args tape) → r ≡ true → (c : TheCall) × HasTape plan i msg tape c
has_call plan i m msg tape r here e so = call_there plan i m msg tape here (all_is (after_ranks plan 5 0 m.args tape) (sym e ∙ so))

pub has_no_call : (plan : PlanNo) (i : TheInterface) (m : TheMessage) (msg : ℕ) (tape : List ℕ) (r : Bool) → slice_get i.messages msg ≡ Some m
    → r ≡ is_all (after_ranks plan 5 0 m.args tape) → r ≡ false → (c : TheCall) → HasTape plan i msg tape c → ⊥
has_no_call plan i m msg tape r here e fails c h = false≢true (sym fails ∙ e ∙ all_test (after_ranks plan 5 0 m.args tape) (call_kept plan i m msg tape c here h))
