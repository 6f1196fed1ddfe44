-- A chain after a link is made or broken.
use Rattle.std.proofs.Common.{◌≡◌, ◌≢◌, ℕ, ◌≤◌, ◌==◌, true, false, if◌then◌else◌, inl, inr, List, [], ◌∷◌, ◌++◌, length, zero, suc, sym, ◌∙◌, ap, subst, refl, arith}
use Rattle.std.proofs.lemmas.Bool.{false≢true, eqb-true, eqb-false, eq-eqb, ne_eqb, or_cases, or_parts, or_left, or_right, cond-true, cond-false}
use Rattle.fl_lists.specs.ThreeLists.{is_in, without, NoRepeat}
use Rattle.fl_lists.specs.Table.{Chain, walk}
use Rattle.fl_lists.proofs.Members.{different, first_is_in, without_first, without_later, without_none}

-- what an update gives at its own place and at another
at_this : (k c x y : ℕ) → k ≡ c → (if k == c then x else y) ≡ x
at_this k c x y e = cond-true _ _ _ (eq-eqb k c e)

at_other : (k c x y : ℕ) → k ≢ c → (if k == c then x else y) ≡ y
at_other k c x y ne = cond-false _ _ _ (ne_eqb k c ne)

-- a chain stays where none of its links changes
pub keep : (n m p q : ℕ → ℕ) (a : ℕ) (xs : List ℕ) (b : ℕ)
    → ((k : ℕ) → is_in k (a ∷ xs) ≡ true → m k ≡ n k)
    → ((k : ℕ) → is_in k (xs ++ b ∷ []) ≡ true → q k ≡ p k)
    → Chain n p a xs b → Chain m q a xs b
keep n m p q a [] b nexts prevs h =
    (nexts a (first_is_in a []) ∙ h.0, prevs b (first_is_in b []) ∙ h.1)
keep n m p q a (x ∷ xs) b nexts prevs h = (
  nexts a (first_is_in a (x ∷ xs)) ∙ h.0,
  (
    prevs x (first_is_in x (xs ++ b ∷ [])) ∙ h.1.0,
    keep n m p q x xs b (λ k i. nexts k (or_right _ _ i)) (λ k i. prevs k (or_right _ _ i)) h.1.1,
  ),
)

-- the neighbours of what is in a chain are in it, or at its ends
pub last_is_in : (n p : ℕ → ℕ) (a : ℕ) (xs : List ℕ) (b : ℕ) → Chain n p a xs b → is_in (p b) (a ∷ xs) ≡ true
last_is_in n p a [] b h = or_left _ _ (eq-eqb a (p b) (sym h.1))
last_is_in n p a (x ∷ xs) b h = or_right _ _ (last_is_in n p x xs b h.1.1)

pub next_of_first_is_in : (n p : ℕ → ℕ) (a : ℕ) (xs : List ℕ) (b : ℕ) → Chain n p a xs b → is_in (n a) (xs ++ b ∷ []) ≡ true
next_of_first_is_in n p a [] b h = or_left _ _ (eq-eqb b (n a) (sym h.0))
next_of_first_is_in n p a (x ∷ xs) b h = or_left _ _ (eq-eqb x (n a) (sym h.0))

pub prev_is_in : (n p : ℕ → ℕ) (a : ℕ) (xs : List ℕ) (b c : ℕ)
    → Chain n p a xs b → is_in c xs ≡ true → is_in (p c) (a ∷ xs) ≡ true
prev_is_in n p a [] b c h i = absurd (false≢true i)
prev_is_in n p a (x ∷ xs) b c h i = elim (or_cases (x == c) (is_in c xs) i) [
  | inl e ↦ or_left _ _ (eq-eqb a (p c) (sym h.1.0 ∙ ap p (eqb-true x c e)))
  | inr later ↦ or_right _ _ (prev_is_in n p x xs b c h.1.1 later)
]

pub next_is_in : (n p : ℕ → ℕ) (a : ℕ) (xs : List ℕ) (b c : ℕ)
    → Chain n p a xs b → is_in c xs ≡ true → is_in (n c) (xs ++ b ∷ []) ≡ true
next_is_in n p a [] b c h i = absurd (false≢true i)
next_is_in n p a (x ∷ xs) b c h i = elim (or_cases (x == c) (is_in c xs) i) [
  | inl e ↦ or_right _ _ (subst (λ (z : ℕ). is_in (n z) (xs ++ b ∷ []) ≡ true) (eqb-true x c e) (next_of_first_is_in n p x xs b h.1.1))
  | inr later ↦ or_right _ _ (next_is_in n p x xs b c h.1.1 later)
]

-- c stands at the back of the chain
pub chain_push : (n m p q : ℕ → ℕ) (a : ℕ) (xs : List ℕ) (b c : ℕ)
    → ((k : ℕ) → m k ≡ (if k == c then b else (if k == p b then c else n k)))
    → ((k : ℕ) → q k ≡ (if k == b then c else (if k == c then p b else p k)))
    → NoRepeat (a ∷ xs) → is_in b xs ≡ false → is_in c (a ∷ xs) ≡ false → c ≢ b
    → Chain n p a xs b → Chain m q a (xs ++ c ∷ []) b
chain_push n m p q a [] b c nexts prevs once end new other h =
    let ac : a ≢ c = eqb-false a c (or_parts _ _ new).0 in (
      nexts a ∙ at_other a c _ _ ac ∙ at_this a (p b) _ _ (sym h.1),
      (
        prevs c ∙ at_other c b _ _ other ∙ at_this c c _ _ refl ∙ h.1,
        (nexts c ∙ at_this c c _ _ refl, prevs b ∙ at_this b b _ _ refl),
      ),
    )
chain_push n m p q a (x ∷ xs) b c nexts prevs once end new other h =
    let new_parts = or_parts (a == c) (is_in c (x ∷ xs)) new in
    let end_parts = or_parts (x == b) (is_in b xs) end in
    let ac : a ≢ c = eqb-false a c new_parts.0 in
    let xc : x ≢ c = eqb-false x c (or_parts _ _ new_parts.1).0 in
    let xb : x ≢ b = eqb-false x b end_parts.0 in
    let al : a ≢ p b = λ e. different (p b) a (x ∷ xs) (last_is_in n p x xs b h.1.1) once.0 (sym e) in (
      nexts a ∙ at_other a c _ _ ac ∙ at_other a (p b) _ _ al ∙ h.0,
      (
        prevs x ∙ at_other x b _ _ xb ∙ at_other x c _ _ xc ∙ h.1.0,
        chain_push n m p q x xs b c nexts prevs once.1 end_parts.1 new_parts.1 other h.1.1,
      ),
    )

-- the chain from c on now begins at a
chain_from : (n m p q : ℕ → ℕ) (a c : ℕ) (xs : List ℕ) (b : ℕ)
    → m a ≡ n c → q (n c) ≡ a
    → ((k : ℕ) → is_in k xs ≡ true → m k ≡ n k)
    → ((k : ℕ) → k ≢ n c → is_in k (xs ++ b ∷ []) ≡ true → q k ≡ p k)
    → NoRepeat (xs ++ b ∷ []) → Chain n p c xs b → Chain m q a xs b
chain_from n m p q a c [] b first back nexts prevs once h = (first ∙ h.0, ap q (sym h.0) ∙ back)
chain_from n m p q a c (y ∷ ys) b first back nexts prevs once h = (
  first ∙ h.0,
  (
    ap q (sym h.0) ∙ back,
    keep n m p q y ys b nexts
        (λ k i. prevs k (λ e. different k y (ys ++ b ∷ []) i once.0 (e ∙ h.0)) (or_right _ _ i)) h.1.1,
  ),
)

-- c stands no more in the chain
pub chain_without : (n m p q : ℕ → ℕ) (a : ℕ) (xs : List ℕ) (b c : ℕ)
    → ((k : ℕ) → k ≢ c → m k ≡ (if k == p c then n c else n k))
    → ((k : ℕ) → k ≢ c → q k ≡ (if k == n c then p c else p k))
    → NoRepeat (a ∷ xs) → NoRepeat (xs ++ b ∷ []) → is_in c xs ≡ true
    → Chain n p a xs b → Chain m q a (without c xs) b
chain_without n m p q a [] b c nexts prevs early late i h = absurd (false≢true i)
chain_without n m p q a (x ∷ xs) b c nexts prevs early late i h = elim (or_cases (x == c) (is_in c xs) i) [
  | inl t ↦
      let e : x ≡ c = eqb-true x c t in
      let gone : is_in c xs ≡ false = ap (λ (z : ℕ). is_in z xs) (sym e) ∙ early.1.0 in
      let gone_late : is_in c (xs ++ b ∷ []) ≡ false = ap (λ (z : ℕ). is_in z (xs ++ b ∷ [])) (sym e) ∙ late.0 in
      let before : p c ≡ a = ap p (sym e) ∙ h.1.0 in
      let rest : Chain n p c xs b = subst (λ (z : ℕ). Chain n p z xs b) e h.1.1 in
      let ac : a ≢ c = λ s. eqb-false x a (or_parts _ _ early.0).0 (e ∙ sym s) in
      let nc : n c ≢ c = different (n c) c (xs ++ b ∷ []) (next_of_first_is_in n p c xs b rest) gone_late in
      let same : without c (x ∷ xs) ≡ xs = without_first c x xs e ∙ without_none c xs gone in
      subst (λ (ys : List ℕ). Chain m q a ys b) (sym same)
      (chain_from n m p q a c xs b
      (nexts a ac ∙ at_this a (p c) _ _ (sym before))
      (prevs (n c) nc ∙ at_this (n c) (n c) _ _ refl ∙ before)
      (λ k j. nexts k (different k c xs j gone)
      ∙ at_other k (p c) _ _ (λ s. different k a xs j (or_parts _ _ early.0).1 (s ∙ before)))
      (λ k other j. prevs k (different k c _ j gone_late) ∙ at_other k (n c) _ _ other)
      late.1 rest)
  | inr j ↦
      let xc : x ≢ c = λ e. different c x xs j early.1.0 (sym e) in
      let ac : a ≢ c = λ e. different c a xs j (or_parts _ _ early.0).1 (sym e) in
      let al : a ≢ p c = λ e. different (p c) a (x ∷ xs) (prev_is_in n p x xs b c h.1.1 j) early.0 (sym e) in
      let xn : x ≢ n c = λ e. different (n c) x (xs ++ b ∷ []) (next_is_in n p x xs b c h.1.1 j) late.0 (sym e) in
      subst (λ (ys : List ℕ). Chain m q a ys b) (sym (without_later c x xs xc)) (
        nexts a ac ∙ at_other a (p c) _ _ al ∙ h.0,
        (
          prevs x xc ∙ at_other x (n c) _ _ xn ∙ h.1.0,
          chain_without n m p q x xs b c nexts prevs early.1 late.1 j h.1.1,
        ),
      )
]

-- walking from the first node gives the list
pub walk_is : (n p : ℕ → ℕ) (head a : ℕ) (xs : List ℕ) (steps : ℕ)
    → is_in head xs ≡ false → length xs ≤ steps → Chain n p a xs head → walk n head steps (n a) ≡ xs
walk_is n p head a [] zero end few h = refl
walk_is n p head a [] (suc steps) end few h = cond-true _ _ _ (eq-eqb (n a) head h.0)
walk_is n p head a (x ∷ xs) zero end few h = absurd (omega arith)
walk_is n p head a (x ∷ xs) (suc steps) end few h =
    let parts = or_parts (x == head) (is_in head xs) end in
    ap (walk n head (suc steps)) h.0 ∙ cond-false _ _ _ parts.0
    ∙ ap (λ (ys : List ℕ). x ∷ ys) (walk_is n p head x xs steps parts.1 (omega arith) h.1.1)
