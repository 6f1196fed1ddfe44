-- Which element of a list is found.
use Rattle.std.proofs.Common.{◌≡◌, ℕ, zero, suc, ◌+◌, ◌<◌, Bool, true, false, cond, List, [], ◌∷◌, length, map, find, get_or, slice_get, Option, Some, option_map, Contains, refl, sym, ap, ◌∙◌, arith}
use Rattle.std.specs.Str.{bytes_eq}
use Rattle.std.proofs.lemmas.Bool.Decides.{nat_tests}
use Rattle.std.proofs.lemmas.Option.{slice_get-get_or, slice_get-map, get_or_from_slice_get, slice_get_within}
use Rattle.std.proofs.lemmas.List.FromFn.{get_or-range_with_len}
use Rattle.std.proofs.lemmas.Slice.Eq.{bytes_eq-Decides}
use Rattle.fl_nameserv.specs.Registrations.{TheRegistration, has_name, has_iref, by_name, by_iref, IsTable}

pub passes : {X : Type 0} (b : Bool) (y : X) (r : Option X) → b ≡ true → cond b (Some y) r ≡ Some y
passes true y r e = refl
passes false y r e = cc

pub fails : {X : Type 0} (b : Bool) (y : X) (r : Option X) → b ≡ false → cond b (Some y) r ≡ r
fails true y r e = cc
fails false y r e = refl

-- the first element that passes a test is found
pub found_at : {X : Type 0} (p : X → Bool) (xs : List X) (i : ℕ) (x : X) → slice_get xs i ≡ Some x → p x ≡ true → ((j : ℕ) (y : X) → j < i → slice_get xs j ≡ Some y → p y ≡ false) → find p xs ≡ Some x
found_at p [] i x at sure before = cc
found_at {X} p (y ∷ xs) zero x at sure before =
    let e : y ≡ x = cc in passes (p y) y (find p xs) (ap p e ∙ sure) ∙ at
found_at p (y ∷ xs) (suc i) x at sure before =
    fails (p y) y (find p xs) (before 0 y (omega arith) refl) ∙ found_at p xs i x at sure (λ j z l s. before (suc j) z (omega arith) s)

same_text : (a : List ℕ) → bytes_eq a a ≡ true
same_text a = (bytes_eq-Decides a a).1 refl

other_step : (a b : List ℕ) (v : Bool) → v ≡ bytes_eq a b → (a ≡ b → ⊥) → v ≡ false
other_step a b true e differ = absurd (differ ((bytes_eq-Decides a b).0 (sym e)))
other_step a b false e differ = refl

other_text : (a b : List ℕ) → (a ≡ b → ⊥) → bytes_eq a b ≡ false
other_text a b differ = other_step a b (bytes_eq a b) refl differ

contained_at : (rs : List TheRegistration) (k : ℕ) (r : TheRegistration) → k < length rs → get_or rs k r ≡ r → slice_get rs k ≡ Some r
contained_at rs k r l e = let f : TheRegistration → Option TheRegistration = λ x. Some x in slice_get-get_or rs k r l ∙ ap f e

-- a name that stands once is found where it stands
pub found_by_name : (rs : List TheRegistration) → IsTable rs → (r : TheRegistration) → Contains rs r → by_name r.name rs ≡ Some r
found_by_name rs table r (k, l, e) =
    found_at (has_name r.name) rs k r (contained_at rs k r l e) (same_text r.name)
    (λ j y less at. other_text r.name y.name (λ same. table.names j k r less l (ap (λ (x : TheRegistration). x.name) (get_or_from_slice_get rs j y r at) ∙ sym same ∙ ap (λ (x : TheRegistration). x.name) (sym e))))

-- the interface reference of what stands at a place
pub iref_is : (rs : List TheRegistration) → IsTable rs → (k : ℕ) (r : TheRegistration) → slice_get rs k ≡ Some r → r.iref ≡ 1 + k
iref_is rs table k r at =
    let within = slice_get_within rs k r at in
    let iref : TheRegistration → ℕ = λ x. x.iref in
    sym (get_or_from_slice_get (map iref rs) k r.iref 0 (slice_get-map iref rs k ∙ ap (option_map iref) at))
    ∙ ap (λ (l : List ℕ). get_or l k 0) table.irefs
    ∙ get_or-range_with_len 1 (length rs) k 0 within

-- an interface reference is found where it stands
pub found_by_iref : (rs : List TheRegistration) → IsTable rs → (r : TheRegistration) → Contains rs r → by_iref r.iref rs ≡ Some r
found_by_iref rs table r (k, l, e) =
    let here = contained_at rs k r l e in
    let own = iref_is rs table k r here in
    found_at (has_iref r.iref) rs k r here (grind (arith, nat_tests))
    (λ j y less at. let other = iref_is rs table j y at in grind (arith, nat_tests))

there_step : {X : Type 0} (p : X → Bool) (y : X) (ys : List X) (x : X) (b : Bool) → b ≡ p y → cond b (Some y) (find p ys) ≡ Some x → (find p ys ≡ Some x → Contains ys x × (p x ≡ true)) → Contains (y ∷ ys) x × (p x ≡ true)
there_step p y ys x true e found rest = let same : y ≡ x = cc in ((0, omega arith, same), ap p (sym same) ∙ sym e)
there_step p y ys x false e found rest =
    let (inside, sure) = rest found in ((suc inside.0, omega (arith, inside.1), inside.2), sure)

-- what is found stands in the list, and passes
found_there : {X : Type 0} (p : X → Bool) (xs : List X) (x : X) → find p xs ≡ Some x → Contains xs x × (p x ≡ true)
found_there p [] x found = cc
found_there p (y ∷ ys) x found = there_step p y ys x (p y) refl found (found_there p ys x)

pub named_there : (rs : List TheRegistration) (name : List ℕ) (r : TheRegistration) → by_name name rs ≡ Some r → Contains rs r × (r.name ≡ name)
named_there rs name r found =
    let (inside, sure) = found_there (has_name name) rs r found in (inside, sym ((bytes_eq-Decides name r.name).0 sure))

pub referred_there : (rs : List TheRegistration) (iref : ℕ) (r : TheRegistration) → by_iref iref rs ≡ Some r → Contains rs r × (r.iref ≡ iref)
referred_there rs iref r found =
    let (inside, sure) = found_there (has_iref iref) rs r found in (inside, grind (arith, nat_tests, sure))
