-- Texts that are put together piece by piece.
use Rattle.std.proofs.Common.{◌≡◌, ◌<◌, ◌≤◌, ◌+◌, ℕ, List, ◌∷◌, ◌++◌, length, get_or, drop, map, ap, sym, ◌∙◌, append_assoc, append-nil}
use Rattle.std.specs.List.{flat_map}
use Rattle.std.specs.Prelude.{Result, Ok, Err, OnOk, if◌then◌else◌}
use Rattle.std.specs.Result.{is_ok}
use Rattle.std.proofs.lemmas.List.{drop_more, drop_all}
use Rattle.std.proofs.lemmas.List.Concat.{flat_map-cons}

pub six_pieces : (start a b m c n d p q r s t all : List ℕ)
    → p ≡ start ++ a → q ≡ p ++ b → r ≡ q ++ m → s ≡ r ++ c → t ≡ s ++ n → all ≡ t ++ d
    → all ≡ start ++ (a ++ b ++ m ++ c ++ n ++ d)
six_pieces start a b m c n d p q r s t all e1 e2 e3 e4 e5 e6 =
    e6 ∙ ap (λ (z : List ℕ). z ++ d) (e5 ∙ ap (λ (z : List ℕ). z ++ n) (e4 ∙ ap (λ (z : List ℕ). z ++ c) (e3 ∙ ap (λ (z : List ℕ). z ++ m) (e2 ∙ ap (λ (z : List ℕ). z ++ b) e1))))
    ∙ simp append_assoc

-- what a call at the end appended
pub wrote : {T E : Type 0} (r : Result T E) (all x y : List ℕ) → all ≡ (if is_ok r then x else y) → OnOk r (all ≡ x)
wrote (Ok v) all x y h = h
wrote (Err e) all x y h = tt

-- A loop that writes the texts of a list, from the left: one more, and the end.

pub written_on : {X Y : Type 0} (f : X → Y) (text : Y → List ℕ) (xs : List X) (i : ℕ) (x d : X) (out out2 whole : List ℕ)
    → i < length xs → x ≡ get_or xs i d → out ++ flat_map text (map f (drop i xs)) ≡ whole → out2 ≡ out ++ text (f x)
    → out2 ++ flat_map text (map f (drop (i + 1) xs)) ≡ whole
written_on f text xs i x d out out2 whole h q inv more =
    let rest = flat_map text (map f (drop (i + 1) xs)) in
    let cut : flat_map text (map f (drop i xs)) ≡ text (f x) ++ rest =
    ap (λ l. flat_map text (map f l)) (drop_more xs i d h ∙ ap (λ y. y ∷ drop (i + 1) xs) (sym q)) ∙ flat_map-cons text (f x) (map f (drop (i + 1) xs)) in
    ap (λ l. l ++ rest) more ∙ append_assoc out (text (f x)) rest ∙ ap (λ l. out ++ l) (sym cut) ∙ inv

pub written_all : {X Y : Type 0} (f : X → Y) (text : Y → List ℕ) (xs : List X) (i : ℕ) (out whole : List ℕ)
    → length xs ≤ i → out ++ flat_map text (map f (drop i xs)) ≡ whole → out ≡ whole
written_all f text xs i out whole h inv =
    sym (append-nil out) ∙ ap (λ l. out ++ flat_map text (map f l)) (sym (drop_all i xs h)) ∙ inv

-- two pieces written one behind another
pub two_pieces : (start a b p q : List ℕ) → p ≡ start ++ a → q ≡ p ++ b → q ≡ start ++ (a ++ b)
two_pieces start a b p q e1 e2 = e2 ∙ ap (λ l. l ++ b) e1 ∙ append_assoc start a b
