-- Loops over the parts of a tree: what is still to be looked at, and the first fault there.
use Rattle.std.proofs.Common.{◌≡◌, ◌≤◌, ◌<◌, ℕ, ◌+◌, List, [], ◌∷◌, ◌++◌, length, drop, take, map, get_or, Option, None, refl, sym, ap, ◌∙◌, subst}
use Rattle.std.proofs.lemmas.List.{drop_more, drop_all, take_more, take_all, map_push}
use Rattle.fl_check.specs.Places.{TextPlace}
use Rattle.fl_check.specs.Checks.{Fault, first_fault}
use Rattle.fl_check.specs.Faults.{Tells}
use Rattle.fl_check.specs.declared.fault.CheckFault.{CheckFault}
use Rattle.fl_check.proofs.FirstFaults.{none_after, tells_prefix}

pub no_places : first_fault [] ≡ None
unfolding first_fault
no_places = refl

-- F s xs are the places of the parts xs, where s stands before them; P s x those of the part x
pub record IsWalk {S X : Type 0} (F : S → List X → List TextPlace) (P : S → X → List TextPlace) (next : S → X → S) : Type 0 where
  pub step : (s : S) (x : X) (xs : List X) → F s (x ∷ xs) ≡ P s x ++ F (next s x) xs
  pub stop : (s : S) → F s [] ≡ []

turn : {S X : Type 0} (F : S → List X → List TextPlace) (P : S → X → List TextPlace) (next : S → X → S) → IsWalk F P next → (s : S) (xs : List X) (i : ℕ) (x d : X) → i < length xs → x ≡ get_or xs i d → F s (drop i xs) ≡ P s x ++ F (next s x) (drop (i + 1) xs)
turn F P next w s xs i x d h q =
    ap (F s) (drop_more xs i d h) ∙ ap (λ y. F s (y ∷ drop (i + 1) xs)) (sym q) ∙ w.step s x (drop (i + 1) xs)

pub walk_on : {S X : Type 0} (F : S → List X → List TextPlace) (P : S → X → List TextPlace) (next : S → X → S) → IsWalk F P next → (whole : Option Fault) (s s2 : S) (xs : List X) (i : ℕ) (x d : X) → i < length xs → x ≡ get_or xs i d → whole ≡ first_fault (F s (drop i xs)) → first_fault (P s x) ≡ None → s2 ≡ next s x → whole ≡ first_fault (F s2 (drop (i + 1) xs))
walk_on F P next w whole s s2 xs i x d h q inv sound more =
    inv ∙ ap first_fault (turn F P next w s xs i x d h q) ∙ none_after (P s x) (F (next s x) (drop (i + 1) xs)) sound ∙ ap (λ t. first_fault (F t (drop (i + 1) xs))) (sym more)

pub walk_fault : {S X : Type 0} (F : S → List X → List TextPlace) (P : S → X → List TextPlace) (next : S → X → S) → IsWalk F P next → (whole : Option Fault) (e : CheckFault) (s : S) (xs : List X) (i : ℕ) (x d : X) → i < length xs → x ≡ get_or xs i d → whole ≡ first_fault (F s (drop i xs)) → Tells e (first_fault (P s x)) → Tells e whole
walk_fault F P next w whole e s xs i x d h q inv told =
    subst (Tells e) (sym (inv ∙ ap first_fault (turn F P next w s xs i x d h q))) (tells_prefix e (P s x) (F (next s x) (drop (i + 1) xs)) told)

pub walk_end : {S X : Type 0} (F : S → List X → List TextPlace) (P : S → X → List TextPlace) (next : S → X → S) → IsWalk F P next → (whole : Option Fault) (s : S) (xs : List X) (i : ℕ) → length xs ≤ i → whole ≡ first_fault (F s (drop i xs)) → whole ≡ None
walk_end F P next w whole s xs i h inv =
    inv ∙ ap (λ l. first_fault (F s l)) (drop_all i xs h) ∙ ap first_fault (w.stop s) ∙ no_places

-- what is made of the parts so far, and of one more
pub made_push : {X Y Z : Type 0} (f : X → Y) (g : Y → Z) (xs : List X) (i : ℕ) (x d : X) (zs zs2 : List Z) (z : Z) → i < length xs → x ≡ get_or xs i d → zs ≡ map g (map f (take i xs)) → zs2 ≡ zs ++ z ∷ [] → z ≡ g (f x) → zs2 ≡ map g (map f (take (i + 1) xs))
made_push f g xs i x d zs zs2 z h q made more is =
    let t = ap (λ l. map g (map f l)) (take_more xs i d h) in
    let p = map_push f (take i xs) (get_or xs i d) in
    let r = map_push g (map f (take i xs)) (f (get_or xs i d)) in
    let s = ap (map g) p in
    let u = ap (λ y. g (f y)) q in
    cc

-- what is made of all parts, once the loop has gone past the last
pub made_all : {X Y Z : Type 0} (f : X → Y) (g : Y → Z) (xs : List X) (i : ℕ) (zs : List Z) → length xs ≤ i → zs ≡ map g (map f (take i xs)) → zs ≡ map g (map f xs)
made_all f g xs i zs h made = made ∙ ap (λ l. map g (map f l)) (take_all i xs h)
