-- Lists of what there is of each core, and what changes at one of them.
use Rattle.std.proofs.Common.{ℕ, zero, suc, ◌≡◌, ◌≢◌, ◌<◌, ◌≤◌, ◌+◌, ◌-◌, ◌%◌, ◌==◌, if◌then◌else◌, eq-eqb, ne_eqb, List, [], ◌∷◌, map, set, slice_get, Some, ap, ◌∙◌, sym, refl, arith}
use mathlib.Core.Logic.{dite}
use native.Mathlib.Decide.{ℕ_discrete}
use Rattle.fl_history_rings.specs.Rings.{mate}
use Rattle.fl_history_rings.proofs.Logs.{then_is, else_is}
use Rattle.fl_history_rings.proofs.Words.{mate_even, mate_odd}
use Rattle.fl_cores_joined.specs.Joined.{across_from}
use Rattle.fl_history_orders.specs.Orders.{each_from}

-- ---- one of many changes

abbrev pub changed : {A : Type 0} → (ℕ → A) → ℕ → A → ℕ → A
changed f n x k = if k == n then x else f k

pub changed_here : {A : Type 0} (f : ℕ → A) (n : ℕ) (x : A) (k : ℕ) → k ≡ n → changed f n x k ≡ x
changed_here f n x k is = then_is (k == n) x (f k) (eq-eqb k n is)

pub changed_else : {A : Type 0} (f : ℕ → A) (n : ℕ) (x : A) (k : ℕ) → k ≢ n → changed f n x k ≡ f k
changed_else f n x k ne = else_is (k == n) x (f k) (ne_eqb k n ne)

-- ---- lists of each

pub each_at : {A : Type 0} (f : ℕ → A) (first count i : ℕ) → i < count → slice_get (each_from first count f) i ≡ Some (f (first + i))
each_at f first zero i low = absurd (omega (arith, low))
each_at {A} f first (suc count) zero low = let same : first ≡ first + 0 = omega arith in ap (λ (k : ℕ). Some (f k)) same
each_at {A} f first (suc count) (suc i) low =
    let same : suc first + i ≡ first + suc i = omega arith in
    each_at f (suc first) count i (omega (arith, low)) ∙ ap (λ (k : ℕ). Some (f k)) same

pub each_alike : {A : Type 0} (f g : ℕ → A) (first count : ℕ) → ((k : ℕ) → first ≤ k → k < first + count → g k ≡ f k) → each_from first count g ≡ each_from first count f
each_alike f g first zero alike = refl
each_alike {A} f g first (suc count) alike =
    ap (λ (x : A). x ∷ each_from (suc first) count g) (alike first (omega arith) (omega arith))
    ∙ ap (λ (l : List A). f first ∷ l) (each_alike f g (suc first) count (λ k low high. alike k (omega (arith, low)) (omega (arith, high))))

pub each_set : {A : Type 0} (f g : ℕ → A) (first count i : ℕ) (y : A) → i < count → g (first + i) ≡ y → ((k : ℕ) → k ≢ first + i → g k ≡ f k)
    → each_from first count g ≡ set (each_from first count f) i y
each_set f g first zero i y low here others = absurd (omega (arith, low))
each_set {A} f g first (suc count) zero y low here others =
    let same : first ≡ first + 0 = omega arith in
    ap (λ (x : A). x ∷ each_from (suc first) count g) (ap g same ∙ here)
    ∙ ap (λ (l : List A). y ∷ l) (each_alike f g (suc first) count (λ k low_k high. others k (λ e. omega (arith, e, low_k))))
each_set {A} f g first (suc count) (suc i) y low here others =
    let same : suc first + i ≡ first + suc i = omega arith in
    ap (λ (x : A). x ∷ each_from (suc first) count g) (others first (λ e. omega (arith, e)))
    ∙ ap (λ (l : List A). f first ∷ l)
    (each_set f g (suc first) count i y (omega (arith, low)) (ap g same ∙ here) (λ k ne. others k (λ e. ne (e ∙ sym same))))

-- ---- the side across

pub across_mate : (s : ℕ) → across_from s ≡ mate s
across_mate s =
    dite (ℕ_discrete (s % 2) 0)
    (λ even. then_is (s % 2 == 0) (s + 1) (s - 1) (eq-eqb (s % 2) 0 even) ∙ sym (mate_even s even))
    (λ odd. let back = mate_odd s odd in else_is (s % 2 == 0) (s + 1) (s - 1) (ne_eqb (s % 2) 0 odd) ∙ omega (arith, back))

pub map_twice : {A B C : Type 0} (f : A → B) (g : B → C) (h : A → C) (xs : List A) → ((x : A) → g (f x) ≡ h x) → map g (map f xs) ≡ map h xs
map_twice f g h [] same = refl
map_twice {A} {B} {C} f g h (x ∷ xs) same =
    ap (λ (z : C). z ∷ map g (map f xs)) (same x) ∙ ap (λ (l : List C). h x ∷ l) (map_twice f g h xs same)
