-- A set of names in order, and the list of them.
use Rattle.std.proofs.Common.{◌≡◌, ℕ, Bool, true, false, not, ◌||◌, List, [], ◌∷◌, ◌++◌, map, Bor, if◌then◌else◌, refl, sym, ap, ◌∙◌}
use Rattle.std.specs.List.{list_any}
use Rattle.std.specs.Str.{bytes_eq}
use Rattle.std.proofs.lemmas.List.{map_push}
use Rattle.std.proofs.lemmas.Slice.Eq.{bytes_eq-Decides}
use Rattle.fl_interface.specs.Limits.{is_among}

abbrev pub now_of : Bor (List ℕ) → List ℕ
now_of n = n.now

turned_step : (a b : List ℕ) (x y : Bool) → x ≡ bytes_eq a b → y ≡ bytes_eq b a → x ≡ y
turned_step a b true true p q = refl
turned_step a b false false p q = refl
turned_step a b true false p q = let s = (bytes_eq-Decides a b).0 (sym p) in let t = (bytes_eq-Decides b a).1 (sym s) in cc
turned_step a b false true p q = let s = (bytes_eq-Decides b a).0 (sym q) in let t = (bytes_eq-Decides a b).1 (sym s) in cc

pub turned : (a b : List ℕ) → bytes_eq a b ≡ bytes_eq b a
turned a b = turned_step a b (bytes_eq a b) (bytes_eq b a) refl refl

pub among_set : (ks : List (Bor (List ℕ))) (q : List ℕ) → list_any (λ (k : Bor (List ℕ)). bytes_eq q k.now) ks ≡ is_among (map now_of ks) q
among_set [] q = refl
among_set (k ∷ ks) q = ap (λ v. v || list_any (λ (k : Bor (List ℕ)). bytes_eq q k.now) ks) (turned q k.now) ∙ ap (λ v. bytes_eq k.now q || v) (among_set ks q)

put : (b new : Bool) (ks ks2 : List (Bor (List ℕ))) (n : Bor (List ℕ)) → new ≡ not b → ks2 ≡ (if b then ks else ks ++ n ∷ []) → new ≡ true → ks2 ≡ ks ++ n ∷ []
put true new ks ks2 n added e is = cc
put false new ks ks2 n added e is = e

pub put_in_set : (ks ks2 : List (Bor (List ℕ))) (n : Bor (List ℕ)) (new : Bool) → new ≡ not (list_any (λ (k : Bor (List ℕ)). bytes_eq n.now k.now) ks)
    → ks2 ≡ (if list_any (λ (k : Bor (List ℕ)). bytes_eq n.now k.now) ks then ks else ks ++ n ∷ []) → new ≡ true → map now_of ks2 ≡ map now_of ks ++ n.now ∷ []
put_in_set ks ks2 n new added e is =
    ap (map now_of) (put (list_any (λ (k : Bor (List ℕ)). bytes_eq n.now k.now) ks) new ks ks2 n added e is) ∙ map_push now_of ks n
