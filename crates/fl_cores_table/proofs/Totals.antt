-- Numbers of views, added up.
use Rattle.std.proofs.Common.{◌≡◌, ◌≢◌, ℕ, zero, suc, ◌+◌, ◌≤◌, List, [], ◌∷◌, ◌++◌, length, set, refl, sym, subst, ap, ◌∙◌, arith}
use mathlib.Core.Option.{some, some-injective, some-ne-none}
use lib.ListN.{get_elem?}
use Rattle.fl_cores_table.specs.declared.table.CoresView.{CoresView}
use Rattle.fl_cores_table.specs.Counter.{total}

pub total_set : (f : CoresView → ℕ) (vs : List CoresView) (i : ℕ) (v w : CoresView) → get_elem? vs i ≡ some v → total f (set vs i w) + f v ≡ total f vs + f w
total_set f [] i v w e = absurd (some-ne-none v (sym e))
total_set f (x ∷ xs) zero v w e = let here : f x ≡ f v = ap f (some-injective x v e) in omega (arith, here)
total_set f (x ∷ xs) (suc i) v w e = let rest = total_set f xs i v w e in omega (arith, rest)

pub total_snoc : (f : CoresView → ℕ) (vs : List CoresView) (w : CoresView) → total f (vs ++ w ∷ []) ≡ total f vs + f w
total_snoc f [] w = omega arith
total_snoc f (x ∷ xs) w = let rest = total_snoc f xs w in omega (arith, rest)

pub total_at : (f : CoresView → ℕ) (vs : List CoresView) (i : ℕ) (v : CoresView) → get_elem? vs i ≡ some v → f v ≤ total f vs
total_at f [] i v e = absurd (some-ne-none v (sym e))
total_at f (x ∷ xs) zero v e = let here : f x ≡ f v = ap f (some-injective x v e) in omega (arith, here)
total_at f (x ∷ xs) (suc i) v e = let rest = total_at f xs i v e in omega (arith, rest)

-- two of them
pub total_two : (f : CoresView → ℕ) (vs : List CoresView) (i j : ℕ) (v w : CoresView) → i ≢ j → get_elem? vs i ≡ some v → get_elem? vs j ≡ some w → f v + f w ≤ total f vs
total_two f [] i j v w n e d = absurd (some-ne-none v (sym e))
total_two f (x ∷ xs) zero zero v w n e d = absurd (n refl)
total_two f (x ∷ xs) zero (suc j) v w n e d =
    let here : f x ≡ f v = ap f (some-injective x v e) in
    let rest = total_at f xs j w d in omega (arith, here, rest)
total_two f (x ∷ xs) (suc i) zero v w n e d =
    let here : f x ≡ f w = ap f (some-injective x w d) in
    let rest = total_at f xs i v e in omega (arith, here, rest)
total_two f (x ∷ xs) (suc i) (suc j) v w n e d = let rest = total_two f xs i j v w (λ q. n (ap suc q)) e d in omega (arith, rest)

pub total_le : (f g : CoresView → ℕ) (vs : List CoresView) → ((j : ℕ) (w : CoresView) → get_elem? vs j ≡ some w → f w ≤ g w) → total f vs ≤ total g vs
total_le f g [] few = omega arith
total_le f g (x ∷ xs) few =
    let here = few zero x refl in
    let rest = total_le f g xs (λ j w e. few (suc j) w e) in omega (arith, here, rest)

-- where g is 0 of all, f is
pub total_zero : (f g : CoresView → ℕ) (vs : List CoresView) → ((j : ℕ) (w : CoresView) → get_elem? vs j ≡ some w → g w ≡ 0 → f w ≡ 0) → total g vs ≡ 0 → total f vs ≡ 0
total_zero f g [] none e = refl
total_zero f g (x ∷ xs) zeros e =
    let here = zeros zero x refl (omega (arith, e)) in
    let rest = total_zero f g xs (λ j w d. zeros (suc j) w d) (omega (arith, e)) in omega (arith, here, rest)

-- where all of g is at one view, all of f is
pub total_alone : (f g : CoresView → ℕ) (vs : List CoresView) (i : ℕ) (v : CoresView) → ((j : ℕ) (w : CoresView) → get_elem? vs j ≡ some w → g w ≡ 0 → f w ≡ 0)
    → get_elem? vs i ≡ some v → total g vs ≡ g v → total f vs ≡ f v
total_alone f g [] i v zeros e whole = absurd (some-ne-none v (sym e))
total_alone f g (x ∷ xs) zero v zeros e whole =
    let same : x ≡ v = some-injective x v e in
    let here : f x ≡ f v = ap f same in
    let there : g x ≡ g v = ap g same in
    let rest = total_zero f g xs (λ j w d. zeros (suc j) w d) (omega (arith, whole, there)) in omega (arith, here, rest)
total_alone f g (x ∷ xs) (suc i) v zeros e whole =
    let most = total_at g xs i v e in
    let here = zeros zero x refl (omega (arith, most, whole)) in
    let rest = total_alone f g xs i v (λ j w d. zeros (suc j) w d) e (omega (arith, most, whole)) in omega (arith, here, rest)
