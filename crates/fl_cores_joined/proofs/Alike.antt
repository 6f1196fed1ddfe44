-- Any two interfaces are one, or they aren't.
use Rattle.std.proofs.Common.{◌≡◌, ◌≢◌, ◌⊎◌, inl, inr, refl, sym, ◌∙◌, ap, ℕ, zero, suc, List, [], ◌∷◌}
use Rattle.fl_hop.proofs.Entering.{same_or}
use Rattle.fl_interface.specs.declared.interface.Scalar.{Scalar}
use Rattle.fl_interface.specs.declared.interface.Scalar.TheVariants.{Uint8, Int8, Bool, Char, Uint16, Int16, Uint32, Int32, Iref, Uint64, Int64, Uintptr, Intptr, Size, Errval}
use Rattle.fl_interface.specs.Types.{TheType, scalar, enumeration, structure, array, TheTypes, no_more, field, TheArgType, fixed, text, sized}
use Rattle.fl_interface.specs.Types.{TheMessage, TheInterface}

abbrev pub Decided : {X : Type 0} → X → X → Type 0
Decided x y = (x ≡ y) ⊎ (x ≢ y)

decided_list : {X : Type 0} → ((x y : X) → Decided x y) → (xs ys : List X) → Decided xs ys
decided_list d [] [] = inl refl
decided_list d [] (y ∷ ys) = inr (λ e. absurd (cc))
decided_list d (x ∷ xs) [] = inr (λ e. absurd (cc))
decided_list d (x ∷ xs) (y ∷ ys) = push (d x y) (decided_list d xs ys)
  where
    push : Decided x y → Decided xs ys → Decided (x ∷ xs) (y ∷ ys)
    push (inl p) (inl q) = inl (λ j. p j ∷ q j)
    push (inl p) (inr other) = inr (λ e. other (cc))
    push (inr other) h = inr (λ e. other (cc))

-- ---- types

abbrev number : Scalar → ℕ
number Uint8 = 0
number Int8 = 1
number Bool = 2
number Char = 3
number Uint16 = 4
number Int16 = 5
number Uint32 = 6
number Int32 = 7
number Iref = 8
number Uint64 = 9
number Int64 = 10
number Uintptr = 11
number Intptr = 12
number Size = 13
number Errval = 14

abbrev scalars : List Scalar
scalars = Uint8 ∷ Int8 ∷ Bool ∷ Char ∷ Uint16 ∷ Int16 ∷ Uint32 ∷ Int32 ∷ Iref ∷ Uint64 ∷ Int64 ∷ Uintptr ∷ Intptr ∷ Size ∷ Errval ∷ []

abbrev scalar_in : List Scalar → ℕ → Scalar
scalar_in [] n = Uint8
scalar_in (s ∷ rest) zero = s
scalar_in (s ∷ rest) (suc n) = scalar_in rest n

there : (s : Scalar) → scalar_in scalars (number s) ≡ s
there Uint8 = refl
there Int8 = refl
there Bool = refl
there Char = refl
there Uint16 = refl
there Int16 = refl
there Uint32 = refl
there Int32 = refl
there Iref = refl
there Uint64 = refl
there Int64 = refl
there Uintptr = refl
there Intptr = refl
there Size = refl
there Errval = refl

decided_scalar : (s t : Scalar) → Decided s t
decided_scalar s t = by (same_or (number s) (number t))
  where
    by : Decided (number s) (number t) → Decided s t
    by (inl e) = inl (sym (there s) ∙ ap (scalar_in scalars) e ∙ there t)
    by (inr other) = inr (λ e. other (ap number e))

mutual
  decided_type : (a b : TheType) → Decided a b
  decided_type (scalar s) (scalar t) = by (decided_scalar s t)
    where
      by : Decided s t → Decided (scalar s) (scalar t)
      by (inl e) = inl (ap scalar e)
      by (inr other) = inr (λ e. other (cc))
  decided_type (enumeration n) (enumeration m) = by (same_or n m)
    where
      by : Decided n m → Decided (enumeration n) (enumeration m)
      by (inl e) = inl (ap enumeration e)
      by (inr other) = inr (λ e. other (cc))
  decided_type (structure xs) (structure ys) = by (decided_types xs ys)
    where
      by : Decided xs ys → Decided (structure xs) (structure ys)
      by (inl e) = inl (ap structure e)
      by (inr other) = inr (λ e. other (cc))
  decided_type (array n a) (array m b) = by (same_or n m) (decided_type a b)
    where
      by : Decided n m → Decided a b → Decided (array n a) (array m b)
      by (inl p) (inl q) = inl (λ j. array (p j) (q j))
      by (inl p) (inr other) = inr (λ e. other (cc))
      by (inr other) h = inr (λ e. other (cc))
  decided_type a b = inr (λ e. absurd (cc))

  decided_types : (xs ys : TheTypes) → Decided xs ys
  decided_types no_more no_more = inl refl
  decided_types (field a xs) (field b ys) = by (decided_type a b) (decided_types xs ys)
    where
      by : Decided a b → Decided xs ys → Decided (field a xs) (field b ys)
      by (inl p) (inl q) = inl (λ j. field (p j) (q j))
      by (inl p) (inr other) = inr (λ e. other (cc))
      by (inr other) h = inr (λ e. other (cc))
  decided_types xs ys = inr (λ e. absurd (cc))

decided_argument : (a b : TheArgType) → Decided a b
decided_argument (fixed a) (fixed b) = by (decided_type a b)
  where
    by : Decided a b → Decided (fixed a) (fixed b)
    by (inl e) = inl (ap fixed e)
    by (inr other) = inr (λ e. other (cc))
decided_argument (text n) (text m) = by (same_or n m)
  where
    by : Decided n m → Decided (text n) (text m)
    by (inl e) = inl (ap text e)
    by (inr other) = inr (λ e. other (cc))
decided_argument (sized n a) (sized m b) = by (same_or n m) (decided_type a b)
  where
    by : Decided n m → Decided a b → Decided (sized n a) (sized m b)
    by (inl p) (inl q) = inl (λ j. sized (p j) (q j))
    by (inl p) (inr other) = inr (λ e. other (cc))
    by (inr other) h = inr (λ e. other (cc))
decided_argument a b = inr (λ e. absurd (cc))

-- ---- interfaces

decided_message : (a b : TheMessage) → Decided a b
decided_message a b = by (decided_list same_or a.name b.name) (decided_list decided_argument a.args b.args)
  where
    by : Decided a.name b.name → Decided a.args b.args → Decided a b
    by (inl p) (inl q) = inl (λ j. record { name = p j; args = q j })
    by (inl p) (inr other) = inr (λ e. other (ap (λ (m : TheMessage). m.args) e))
    by (inr other) h = inr (λ e. other (ap (λ (m : TheMessage). m.name) e))

pub decided_interface : (a b : TheInterface) → Decided a b
decided_interface a b = by (decided_list same_or a.name b.name) (decided_list decided_message a.messages b.messages)
  where
    by : Decided a.name b.name → Decided a.messages b.messages → Decided a b
    by (inl p) (inl q) = inl (λ j. record { name = p j; messages = q j })
    by (inl p) (inr other) = inr (λ e. other (ap (λ (i : TheInterface). i.messages) e))
    by (inr other) h = inr (λ e. other (ap (λ (i : TheInterface). i.name) e))
