-- What stands before each station of a direction, when a fragment passes one: the numbers that have passed one station and not the
-- next, in order.
use Rattle.std.proofs.Common.{◌≡◌, ◌≢◌, refl, sym, ◌∙◌, ap, subst, ℕ, zero, suc, ◌+◌, ◌-◌, ◌<◌, ◌≤◌, List, [], ◌∷◌, ◌++◌, length, arith, inl, inr}
use Rattle.std.specs.Prelude.{slice_index}
use Rattle.std.specs.List.{range_with_len}
use Rattle.fl_hop.proofs.Entering.{same_or}
use Rattle.fl_model.specs.Given.{changed_at}
use Rattle.fl_model_laws.proofs.Replies.{length_changed}
use Rattle.fl_model_laws.proofs.Views.{changed_later}

-- ---- lists of numbers

pub index_same : (xs : List ℕ) (n : ℕ) → n < length xs → slice_index (changed_at n (λ m. m + 1) xs) n ≡ slice_index xs n + 1
index_same [] n h = absurd (omega arith)
index_same (x ∷ xs) zero h = refl
index_same (x ∷ xs) (suc n) h = ap (λ ys. slice_index ys (suc n)) (changed_later x xs n (λ m. m + 1)) ∙ index_same xs n (omega arith)

pub index_else : (xs : List ℕ) (n k : ℕ) → k ≢ n → slice_index (changed_at n (λ m. m + 1) xs) k ≡ slice_index xs k
index_else [] n k h = refl
index_else (x ∷ xs) zero zero h = absurd (h refl)
index_else (x ∷ xs) zero (suc k) h = refl
index_else (x ∷ xs) (suc n) zero h = ap (λ ys. slice_index ys 0) (changed_later x xs n (λ m. m + 1))
index_else (x ∷ xs) (suc n) (suc k) h = ap (λ ys. slice_index ys (suc k)) (changed_later x xs n (λ m. m + 1)) ∙ index_else xs n k (λ e. h (ap suc e))

range_push : (a n : ℕ) → range_with_len a (suc n) ≡ range_with_len a n ++ (a + n) ∷ []
range_push a zero = let e : a ≡ a + 0 = omega arith in ap (λ n. n ∷ []) e
range_push a (suc n) =
    ap (λ xs. a ∷ xs) (range_push (a + 1) n) ∙ (let e : a + 1 + n ≡ a + suc n = omega arith in ap (λ k. a ∷ (range_with_len (a + 1) n ++ k ∷ [])) e)

-- the numbers from a to b, and one more at the end; or without the first
more_range : (a b : ℕ) → a ≤ b → range_with_len a (b + 1 - a) ≡ range_with_len a (b - a) ++ b ∷ []
more_range a b h =
    let e : b + 1 - a ≡ suc (b - a) = omega arith in
    let f : a + (b - a) ≡ b = omega arith in
    ap (range_with_len a) e ∙ range_push a (b - a) ∙ ap (λ n. range_with_len a (b - a) ++ n ∷ []) f

less_by : (a b n k : ℕ) (ks : List ℕ) → b - a ≡ n → k ∷ ks ≡ range_with_len a n → (a < b) × (k ≡ a) × (ks ≡ range_with_len (a + 1) (b - (a + 1)))
less_by a b zero k ks e h = absurd (let x : k ∷ ks ≡ [] = h in cc)
less_by a b (suc n) k ks e h =
    let f : n ≡ b - (a + 1) = omega arith in
    (omega arith, (let x : k ∷ ks ≡ a ∷ range_with_len (a + 1) n = h in cc), (let y : ks ≡ range_with_len (a + 1) n = (let x : k ∷ ks ≡ a ∷ range_with_len (a + 1) n = h in cc) in y ∙ ap (range_with_len (a + 1)) f))

-- ---- a direction

-- what stands before station j + 1
pub record FollowsAt (before : ℕ → List ℕ) (passed : List ℕ) (j : ℕ) : Type 0 where
  pub falls : slice_index passed (suc j) ≤ slice_index passed j
  pub labels : before (suc j) ≡ range_with_len (slice_index passed (suc j)) (slice_index passed j - slice_index passed (suc j))

abbrev pub Follows : (ℕ → List ℕ) → List ℕ → Type 0
Follows before passed = (j : ℕ) → suc j < length passed → FollowsAt before passed j

pub same_follows : (before later : ℕ → List ℕ) (passed : List ℕ) → ((j : ℕ) → later j ≡ before j) → Follows before passed → Follows later passed
same_follows before later passed e h j a = let f = h j a in record { falls = f.falls; labels = e (suc j) ∙ f.labels }

-- the first of what stands before a station is the next to pass it
pub first_passes : (before : ℕ → List ℕ) (passed : List ℕ) (j k : ℕ) (ks : List ℕ) → Follows before passed → suc j < length passed → before (suc j) ≡ k ∷ ks
    → (k ≡ slice_index passed (suc j)) × (slice_index passed (suc j) < slice_index passed j)
first_passes before passed j k ks h a q =
    let f = h j a in
    let x = less_by (slice_index passed (suc j)) (slice_index passed j) _ k ks refl (sym q ∙ f.labels) in
    (x.1, x.0)

-- number k passes station i: it leaves what stands before that, but for the first station, and comes before the next, if there is one
pub record Passes (before later : ℕ → List ℕ) (passed : List ℕ) (i k : ℕ) : Type 0 where
  pub within : i < length passed
  pub number : k ≡ slice_index passed i
  pub leaves : (j : ℕ) → i ≡ suc j → before i ≡ k ∷ later i
  pub comes : suc i < length passed → later (suc i) ≡ before (suc i) ++ k ∷ []
  pub rest : (j : ℕ) → suc j < length passed → suc j ≢ i → suc j ≢ suc i → later (suc j) ≡ before (suc j)

pub passes_follows : (before later : ℕ → List ℕ) (passed : List ℕ) (i k : ℕ) → Passes before later passed i k → Follows before passed
    → Follows later (changed_at i (λ n. n + 1) passed)
passes_follows before later passed i k p h j a =
    let long : length (changed_at i (λ n. n + 1) passed) ≡ length passed = length_changed passed i (λ n. n + 1) in
    let b : suc j < length passed = omega arith in
    elim (same_or (suc j) i) [
      | inl e ↦ subst (λ m. FollowsAt later (changed_at m (λ n. n + 1) passed) j) e (left b e (h j b))
      | inr e ↦ elim (same_or j i) [
        | inl f ↦ subst (λ m. FollowsAt later (changed_at m (λ n. n + 1) passed) j) f (came b f (h j b))
        | inr f ↦ stays b e f (h j b)
      ]
    ]
  where
    at : (m n : ℕ) (xs ys : List ℕ) → ys ≡ range_with_len m (n - m) → (u v : ℕ) → u ≡ m → v ≡ n → ys ≡ range_with_len u (v - u)
    at m n xs ys q u v e f = q ∙ ap (λ x. range_with_len m (x - m)) (sym f) ∙ ap (λ x. range_with_len x (v - x)) (sym e)

    stays : suc j < length passed → suc j ≢ i → j ≢ i → FollowsAt before passed j → FollowsAt later (changed_at i (λ n. n + 1) passed) j
    stays b e f g =
        let x = index_else passed i (suc j) e in
        let y = index_else passed i j f in
        let l = g.falls in
        record {
          falls = omega arith;
          labels = at (slice_index passed (suc j)) (slice_index passed j) [] _ (p.rest j b e (λ z. f (let w : j ≡ i = omega arith in w)) ∙ g.labels) _ _ x y;
        }

    left : suc j < length passed → suc j ≡ i → FollowsAt before passed j → FollowsAt later (changed_at (suc j) (λ n. n + 1) passed) j
    left b e g =
        let x = index_same passed (suc j) b in
        let y = index_else passed (suc j) j (λ z. absurd (omega arith)) in
        let first : before (suc j) ≡ k ∷ later (suc j) = subst (λ m. before m ≡ k ∷ later m) (sym e) (p.leaves j (sym e)) in
        let l = less_by (slice_index passed (suc j)) (slice_index passed j) _ k (later (suc j)) refl (sym first ∙ g.labels) in
        let less : slice_index passed (suc j) < slice_index passed j = l.0 in
        record { falls = omega arith; labels = at _ _ [] _ l.2 _ _ x y }

    came : suc j < length passed → j ≡ i → FollowsAt before passed j → FollowsAt later (changed_at j (λ n. n + 1) passed) j
    came b f g =
        let x = index_else passed j (suc j) (λ z. absurd (omega arith)) in
        let y = index_same passed j (omega arith) in
        let l = g.falls in
        let comes : later (suc j) ≡ before (suc j) ++ k ∷ [] =
        subst (λ m. suc m < length passed → later (suc m) ≡ before (suc m) ++ k ∷ []) (sym f) p.comes b in
        let number : k ≡ slice_index passed j = p.number ∙ ap (slice_index passed) (sym f) in
        record {
          falls = omega arith;
          labels = at _ _ [] _ (comes ∙ ap (λ n. before (suc j) ++ n ∷ []) number ∙ ap (λ ns. ns ++ slice_index passed j ∷ []) g.labels
              ∙ sym (more_range (slice_index passed (suc j)) (slice_index passed j) l)) _ _ x y;
        }
