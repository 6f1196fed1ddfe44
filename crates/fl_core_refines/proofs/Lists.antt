-- Two lists, one for one.
use Rattle.std.proofs.Common.{◌≡◌, inl, inr, refl, sym, ◌∙◌, ap, subst, ℕ, zero, suc, ◌+◌, ◌<◌, List, [], ◌∷◌, ◌++◌, length, map, slice_get, slice_set, Option, Some, None, arith}
use Rattle.std.proofs.lemmas.List.{length-set, length_push}
use Rattle.std.specs.List.{AllZip}
use Rattle.fl_hop.proofs.Lists.{set_cases, set_here, set_there, push_cases, push_keeps, at_within, within}
use Rattle.fl_link.specs.Queue.{TheQueue}
use Rattle.fl_core.specs.declared.wiring.WiredEnd.{WiredEnd}
use Rattle.fl_core.specs.declared.wiring.EndWiring.{EndWiring}
use Rattle.fl_core_refines.specs.Cut.{QueueCut, ShowsQueue, QueuesShow}

module _ {A B : Type 0} (R : A → B → Type 0) where
  -- what stands where one of the second list does
  pub there : (xs : List A) (ys : List B) (n : ℕ) (y : B) → AllZip R xs ys → slice_get ys n ≡ Some y → (x : A) × (slice_get xs n ≡ Some x) × R x y
  there [] [] n y h e = absurd (cc)
  there [] (z ∷ ys) n y h e = absurd h
  there (x ∷ xs) [] n y h e = absurd h
  there (x ∷ xs) (z ∷ ys) zero y h e = let same : z ≡ y = cc in (x, refl, subst (R x) same h.0)
  there (x ∷ xs) (z ∷ ys) (suc n) y h e = there xs ys n y h.1 e

  -- both changed at a place
  pub set_both : (xs : List A) (ys : List B) (n : ℕ) (x : A) (y : B) → AllZip R xs ys → R x y → AllZip R (slice_set xs n x) (slice_set ys n y)
  set_both [] [] n x y h r = h
  set_both [] (z ∷ ys) n x y h r = absurd h
  set_both (w ∷ xs) [] n x y h r = absurd h
  set_both (w ∷ xs) (z ∷ ys) zero x y h r = (r, h.1)
  set_both (w ∷ xs) (z ∷ ys) (suc n) x y h r = (h.0, set_both xs ys n x y h.1 r)

-- an element changed in what isn't looked at
pub map_same : {A C : Type 0} (f : A → C) (xs : List A) (n : ℕ) (x y : A) → slice_get xs n ≡ Some x → f y ≡ f x → map f (slice_set xs n y) ≡ map f xs
map_same f [] n x y e same = refl
map_same {A} {C} f (z ∷ xs) zero x y e same =
    let here : z ≡ x = cc in ap (λ (c : C). c ∷ map f xs) (same ∙ ap f (sym here))
map_same {A} {C} f (z ∷ xs) (suc n) x y e same = ap (λ (cs : List C). f z ∷ cs) (map_same f xs n x y e same)

-- what a function makes of what stands at a place
pub map_at : {A C : Type 0} (f : A → C) (xs : List A) (ys : List C) (n : ℕ) (x : A) (y : C) → map f xs ≡ ys → slice_get xs n ≡ Some x → slice_get ys n ≡ Some y
    → f x ≡ y
map_at f [] ys n x y e p q = absurd (cc)
map_at f (w ∷ xs) [] n x y e p q = absurd (cc)
map_at {A} {C} f (w ∷ xs) (z ∷ ys) zero x y e p q =
    let first : f w ≡ z = cc in
    let left : w ≡ x = cc in
    let right : z ≡ y = cc in
    ap f (sym left) ∙ first ∙ right
map_at {A} {C} f (w ∷ xs) (z ∷ ys) (suc n) x y e p q = let rest : map f xs ≡ ys = cc in map_at f xs ys n x y rest p q

pub not_both : {X P : Type 0} (o : Option X) (x : X) → o ≡ None → o ≡ Some x → P
not_both o x e f = absurd (let none : None ≡ Some x = sym e ∙ f in cc)

pub only_one : {X : Type 0} (o : Option X) (x y : X) → o ≡ Some x → o ≡ Some y → x ≡ y
only_one o x y e f = let same : Some x ≡ Some y = sym e ∙ f in cc

-- ---- queues that ends use

last_is : {X : Type 0} (xs : List X) (x : X) → slice_get (xs ++ x ∷ []) (length xs) ≡ Some x
last_is [] x = refl
last_is (y ∷ xs) x = last_is xs x

module _ (Uses : ℕ → EndWiring → Type 0) (wired_ends : List WiredEnd) where
  -- one has changed
  pub set_used : (xs : List QueueCut) (ts : List TheQueue) (n : ℕ) (x : QueueCut) (t : TheQueue) → QueuesShow Uses wired_ends xs ts → ShowsQueue x t
      → QueuesShow Uses wired_ends (slice_set xs n x) (slice_set ts n t)
  set_used xs ts n x t h shows =
      let many : length (slice_set ts n t) ≡ length ts = length-set ts n t in
      record {
        count = length-set xs n x ∙ h.count ∙ sym many;
        each = λ m y used at. elim (set_cases ts n t m y at) [
          | inl (here, same) ↦ (let below = within (slice_set ts n t) m y at in
              let same_many = h.count in
              let old = at_within xs n (omega (arith, below, here, many, same_many)) in
              (x, ap (slice_get (slice_set xs n x)) here ∙ set_here xs n old.0 x old.1, subst (ShowsQueue x) (sym same) shows))
          | inr (other, there_is) ↦ (let old = h.each m y used there_is in (old.0, set_there xs n x m old.0 old.1 other, old.2))
        ];
      }

  -- one more
  pub push_used : (xs : List QueueCut) (ts : List TheQueue) (x : QueueCut) (t : TheQueue) → QueuesShow Uses wired_ends xs ts → ShowsQueue x t
      → QueuesShow Uses wired_ends (xs ++ x ∷ []) (ts ++ t ∷ [])
  push_used xs ts x t h shows = record {
    count = length_push xs x ∙ ap (λ (n : ℕ). n + 1) h.count ∙ sym (length_push ts t);
    each = λ m y used at. elim (push_cases ts t m y at) [
      | inl before ↦ (let old = h.each m y used before in (old.0, push_keeps xs (x ∷ []) m old.0 old.1, old.2))
      | inr (last, same) ↦ (x, ap (slice_get (xs ++ x ∷ [])) (last ∙ sym h.count) ∙ last_is xs x, subst (ShowsQueue x) (sym same) shows)
    ];
  }

  -- an end more, that uses none of them
  pub more_wired_ends : (p : WiredEnd) (xs : List QueueCut) (ts : List TheQueue) → ((n : ℕ) → n < length ts → Uses n p.wiring → ⊥) → QueuesShow Uses wired_ends xs ts
      → QueuesShow Uses (wired_ends ++ p ∷ []) xs ts
  more_wired_ends p xs ts none h = record {
    count = h.count;
    each = λ m y used at. elim (push_cases wired_ends p used.place used.wired_end used.wired_end_is) [
      | inl before ↦ h.each m y (record { place = used.place; wired_end = used.wired_end; wired_end_is = before; uses = used.uses }) at
      | inr (last, same) ↦ absurd (none m (within ts m y at) (subst (λ (q : WiredEnd). Uses m q.wiring) same used.uses))
    ];
  }
