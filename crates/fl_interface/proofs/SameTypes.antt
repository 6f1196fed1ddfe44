-- The test of argument types is true of equal ones, and of no others.
use Rattle.std.proofs.Common.{◌≡◌, refl, sym, ◌∙◌, ap, subst, ◌==◌, ◌&&◌, Bool, true, false, List, [], ◌∷◌, Some, slice_get, eq-eqb}
use Rattle.std.specs.Prelude.{◌↔◌, IsTrue}
use Rattle.std.proofs.lemmas.Bool.{eqb-true}
use Rattle.fl_interface.specs.declared.interface.Scalar.{Scalar}
use Rattle.fl_interface.specs.declared.interface.Scalar.TheVariants.{Uint8, Int8, Bool as Flag, Char, Uint16}
use Rattle.fl_interface.specs.declared.interface.Scalar.TheVariants.{Int16, Uint32, Int32, Iref, Uint64, Int64}
use Rattle.fl_interface.specs.declared.interface.Scalar.TheVariants.{Uintptr, Intptr, Size, Errval}
use Rattle.fl_interface.specs.Interface.{TheType, scalar, enumeration, structure, array, TheTypes, no_more, field, TheArgType, fixed, text, sized}
use Rattle.fl_interface.specs.SameTypes.{scalar_number, same_type, same_fields, same_argument, same_arguments}

-- both tests hold
both_so : (a b : Bool) → a ≡ true → b ≡ true → (a && b) ≡ true
both_so true b p q = q
both_so false b p q = absurd cc

both : (a b : Bool) → (a && b) ≡ true → (a ≡ true) × (b ≡ true)
both true b h = (refl, h)
both false b h = absurd (cc)

abbrev scalars : List Scalar
scalars = Uint8 ∷ Int8 ∷ Flag ∷ Char ∷ Uint16 ∷ Int16 ∷ Uint32 ∷ Int32 ∷ Iref ∷ Uint64 ∷ Int64 ∷ Uintptr ∷ Intptr ∷ Size ∷ Errval ∷ []

numbered : (s : Scalar) → slice_get scalars (scalar_number s) ≡ Some s
numbered Uint8 = refl
numbered Int8 = refl
numbered Flag = refl
numbered Char = refl
numbered Uint16 = refl
numbered Int16 = refl
numbered Uint32 = refl
numbered Int32 = refl
numbered Iref = refl
numbered Uint64 = refl
numbered Int64 = refl
numbered Uintptr = refl
numbered Intptr = refl
numbered Size = refl
numbered Errval = refl

same_scalar_is : (s t : Scalar) → (scalar_number s == scalar_number t) ≡ true → s ≡ t
same_scalar_is s t h =
    let e : Some s ≡ Some t = sym (numbered s) ∙ ap (slice_get scalars) (eqb-true (scalar_number s) (scalar_number t) h) ∙ numbered t in cc

mutual
  same_type_is : (t u : TheType) → same_type t u ≡ true → t ≡ u
  same_type_is (scalar s) (scalar t) h = ap scalar (same_scalar_is s t h)
  same_type_is (enumeration m) (enumeration n) h = ap enumeration (eqb-true m n h)
  same_type_is (structure ts) (structure us) h = ap structure (same_fields_are ts us h)
  same_type_is (array m t) (array n u) h =
      let p = both (m == n) (same_type t u) h in
      ap (λ k. array k t) (eqb-true m n p.0) ∙ ap (array n) (same_type_is t u p.1)
  same_type_is t u h = absurd (cc)

  same_fields_are : (ts us : TheTypes) → same_fields ts us ≡ true → ts ≡ us
  same_fields_are no_more no_more h = refl
  same_fields_are (field t ts) (field u us) h =
      let p = both (same_type t u) (same_fields ts us) h in
      ap (λ x. field x ts) (same_type_is t u p.0) ∙ ap (field u) (same_fields_are ts us p.1)
  same_fields_are ts us h = absurd (cc)

same_argument_is : (a b : TheArgType) → same_argument a b ≡ true → a ≡ b
same_argument_is (fixed t) (fixed u) h = ap fixed (same_type_is t u h)
same_argument_is (text m) (text n) h = ap text (eqb-true m n h)
same_argument_is (sized m t) (sized n u) h =
    let p = both (m == n) (same_type t u) h in
    ap (λ k. sized k t) (eqb-true m n p.0) ∙ ap (sized n) (same_type_is t u p.1)
same_argument_is a b h = absurd (cc)

pub same_arguments_are : (as_ bs : List TheArgType) → same_arguments as_ bs ≡ true → as_ ≡ bs
same_arguments_are [] [] h = refl
same_arguments_are (a ∷ as_) (b ∷ bs) h =
    let p = both (same_argument a b) (same_arguments as_ bs) h in
    ap (λ x. x ∷ as_) (same_argument_is a b p.0) ∙ ap (λ xs. b ∷ xs) (same_arguments_are as_ bs p.1)
same_arguments_are as_ bs h = absurd (cc)

mutual
  same_type_self : (t : TheType) → same_type t t ≡ true
  same_type_self (scalar s) = eq-eqb (scalar_number s) (scalar_number s) refl
  same_type_self (enumeration n) = eq-eqb n n refl
  same_type_self (structure ts) = same_fields_self ts
  same_type_self (array n t) = both_so (n == n) (same_type t t) (eq-eqb n n refl) (same_type_self t)

  same_fields_self : (ts : TheTypes) → same_fields ts ts ≡ true
  same_fields_self no_more = refl
  same_fields_self (field t ts) = both_so (same_type t t) (same_fields ts ts) (same_type_self t) (same_fields_self ts)

same_argument_self : (a : TheArgType) → same_argument a a ≡ true
same_argument_self (fixed t) = same_type_self t
same_argument_self (text n) = eq-eqb n n refl
same_argument_self (sized n t) = both_so (n == n) (same_type t t) (eq-eqb n n refl) (same_type_self t)

same_arguments_self : (as_ : List TheArgType) → same_arguments as_ as_ ≡ true
same_arguments_self [] = refl
same_arguments_self (a ∷ as_) = both_so (same_argument a a) (same_arguments as_ as_) (same_argument_self a) (same_arguments_self as_)

decided : (r s : Bool) (P : Type 0) → (IsTrue r ↔ P) → (s ≡ true → P) → (P → s ≡ true) → r ≡ s
decided true s P e down up = sym (up (e.0 refl))
decided false true P e down up = e.1 (down refl)
decided false false P e down up = refl

-- what is true exactly of equal types is the test
pub tests_same : (r : Bool) (as_ bs : List TheArgType) → (IsTrue r ↔ as_ ≡ bs) → r ≡ same_arguments as_ bs
tests_same r as_ bs e =
    decided r (same_arguments as_ bs) (as_ ≡ bs) e (same_arguments_are as_ bs)
    (λ (q : as_ ≡ bs). subst (λ xs. same_arguments as_ xs ≡ true) q (same_arguments_self as_))
