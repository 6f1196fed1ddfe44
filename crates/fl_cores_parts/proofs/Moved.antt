-- Cores one by one, from which what they noted is moved.
use Rattle.std.proofs.Common.{◌≡◌, sym, ap, ◌∙◌, ℕ, suc, ◌+◌, ◌<◌, List, [], ◌∷◌, ◌++◌, map, length, take, drop, get_or, slice_set, arith}
use Rattle.std.proofs.Math.Seq.{drop-cons, map-set_same}
use Rattle.std.proofs.lemmas.List.{append-nil, append_assoc, drop-set-lt, drop_all, take_all, length-map}
use Rattle.fl_cores_fork.specs.declared.core_thread.FinishedCore.{FinishedCore}
use Rattle.fl_cores_fork.specs.CoreThreads.{without_records}

-- what was made of those so far and what is made of those that are left, and of one more, of which another is left there
pub one_more : {X Y : Type 0} (f : X → Y) (made more all : List Y) (xs : List X) (n : ℕ) (x y : X) → n < length xs → x ≡ get_or xs n x
    → made ++ map f (drop n xs) ≡ all → more ≡ made ++ f x ∷ [] → more ++ map f (drop (n + 1) (slice_set xs n y)) ≡ all
one_more {X} {Y} f made more all xs n x y below is so then =
    let step : suc n ≡ n + 1 = omega arith in
    let here : drop n xs ≡ x ∷ drop (n + 1) xs =
    drop-cons xs n x below ∙ ap (λ (z : X). z ∷ drop (suc n) xs) (sym is) ∙ ap (λ (k : ℕ). x ∷ drop k xs) step in
    ap (λ (zs : List X). more ++ map f zs) (drop-set-lt (n + 1) xs n y (omega arith))
    ∙ ap (λ (ms : List Y). ms ++ map f (drop (n + 1) xs)) then
    ∙ append_assoc made (f x ∷ []) (map f (drop (n + 1) xs))
    ∙ ap (λ (zs : List X). made ++ map f zs) (sym here)
    ∙ so

-- they are as they were but for what was moved
pub others_stay : (done was : List FinishedCore) (n : ℕ) (x y : FinishedCore) → x ≡ get_or done n x → without_records y ≡ without_records x
    → map without_records done ≡ map without_records was → map without_records (slice_set done n y) ≡ map without_records was
others_stay done was n x y is same so = map-set_same without_records done n y x (same ∙ ap without_records is) ∙ so

-- also where they stand in a vector, whose first elements were lent
pub others_back : (done lent : List FinishedCore) (len : ℕ) → len ≡ length done → map without_records lent ≡ map without_records done
    → map without_records (take len (lent ++ drop (length lent) done)) ≡ map without_records done
others_back done lent len is same =
    let many : length lent ≡ length done =
    sym (length-map lent without_records) ∙ ap length same ∙ length-map done without_records in
    ap (λ (rest : List FinishedCore). map without_records (take len (lent ++ rest))) (drop_all (length lent) done (omega (arith, many)))
    ∙ ap (λ (all : List FinishedCore). map without_records (take len all)) (append-nil lent)
    ∙ ap (map without_records) (take_all len lent (omega (arith, is, many))) ∙ same
