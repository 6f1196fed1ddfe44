-- The leaves of a value take as many bytes as its type, from the next multiple of its alignment on.
use Rattle.std.proofs.Common.{◌≡◌, ℕ, ◌+◌, ◌*◌, ◌≤◌, true, List, ◌∷◌, refl, sym, ◌∙◌, ap, subst, arith, leb, eqb}
use Rattle.std.proofs.lemmas.Bool.{and_parts, leb-true, eqb-true, false≢true}
use Rattle.fl_interface.specs.Interface.{TheType, scalar, enumeration, structure, array, TheTypes, no_more, field}
use Rattle.fl_interface.specs.Sizes.{size_of, align_of, greatest_align, end_after, round_up, IsAlign}
use Rattle.fl_interface.specs.Limits.{is_well_made, are_well_made}
use Rattle.fl_value_data.specs.Value.{Datum, number, string, elements, fields, Data, nothing_more, also}
use Rattle.fl_value_data.specs.Fits.{has_type, have_types, all_have_type, count_of}
use Rattle.fl_layout.specs.Leaves.{Leaf, gap, value_onto, fields_onto, elements_onto}
use Rattle.fl_layout.specs.Places.{size}
use Rattle.fl_interface.proofs.Aligned.{IsMultiple, rounded, round_multiple, round_after, multiple_add, multiple_of_less, type_align, types_align, size_multiple}

mutual
  pub value_size : (t : TheType) (d : Datum) (before : List Leaf) → is_well_made t ≡ true → has_type t d ≡ true
      → size (value_onto t d before) ≡ round_up (size before) (align_of t) + size_of t
  value_size (scalar s) (number z) before w h = refl
  value_size (enumeration n) (number z) before w h = refl
  value_size (structure ts) (fields ds) before w h =
      let a = greatest_align ts in
      let start = gap a ∷ before in
      let base = round_up (size before) a in
      let made = and_parts _ _ (and_parts _ _ w).1 in
      let begins : size start ≡ base + 0 = refl in
      let ends : size (fields_onto ts ds start) ≡ base + end_after 0 ts
      = fields_size ts ds start base 0 a (omega arith) (types_align ts) (rounded a (size before) (types_align ts)) begins made.1 h in
      ap (λ n. round_up n a + 0) ends
      ∙ omega (arith, round_after a base (end_after 0 ts) (types_align ts) (rounded a (size before) (types_align ts)))
  value_size (array n t) (elements ds) before w h =
      let made = and_parts _ _ w in
      let inner = and_parts _ _ made.1 in
      let has = and_parts _ _ h in
      array_size n t ds before (made.0) (inner.1) (has.0) (has.1)
  value_size (scalar s) (string b) before w h = absurd (false≢true h)
  value_size (scalar s) (elements ds) before w h = absurd (false≢true h)
  value_size (scalar s) (fields ds) before w h = absurd (false≢true h)
  value_size (enumeration n) (string b) before w h = absurd (false≢true h)
  value_size (enumeration n) (elements ds) before w h = absurd (false≢true h)
  value_size (enumeration n) (fields ds) before w h = absurd (false≢true h)
  value_size (structure ts) (number z) before w h = absurd (false≢true h)
  value_size (structure ts) (string b) before w h = absurd (false≢true h)
  value_size (structure ts) (elements ds) before w h = absurd (false≢true h)
  value_size (array n t) (number z) before w h = absurd (false≢true h)
  value_size (array n t) (string b) before w h = absurd (false≢true h)
  value_size (array n t) (fields ds) before w h = absurd (false≢true h)

  pub fields_size : (ts : TheTypes) (ds : Data) (before : List Leaf) (base at top : ℕ)
      → greatest_align ts ≤ top → IsAlign top → IsMultiple top base → size before ≡ base + at
      → are_well_made ts ≡ true → have_types ts ds ≡ true → size (fields_onto ts ds before) ≡ base + end_after at ts
  fields_size no_more nothing_more before base at top r a m e w h = e
  fields_size (field t ts) (also d ds) before base at top r a m e w h =
      let made = and_parts _ _ w in
      let has = and_parts _ _ h in
      let low : IsMultiple (align_of t) base = multiple_of_less (align_of t) top base (type_align t) a (omega (arith, r)) m in
      let next : size (value_onto t d before) ≡ base + (round_up at (align_of t) + size_of t)
      = value_size t d before (made.0) (has.0)
      ∙ ap (λ n. round_up n (align_of t) + size_of t) e
      ∙ omega (arith, round_after (align_of t) base at (type_align t) low) in
      fields_size ts ds (value_onto t d before) base (round_up at (align_of t) + size_of t) top (omega (arith, r)) a m next (made.1) (has.1)
  fields_size no_more (also d ds) before base at top r a m e w h = absurd (false≢true h)
  fields_size (field t ts) nothing_more before base at top r a m e w h = absurd (false≢true h)

  pub array_size : (n : ℕ) (t : TheType) (ds : Data) (before : List Leaf) → leb 1 n ≡ true → is_well_made t ≡ true
      → eqb (count_of ds) n ≡ true → all_have_type t ds ≡ true
      → size (elements_onto t ds before) ≡ round_up (size before) (align_of t) + n * size_of t
  array_size n t nothing_more before some w c h = absurd (omega (arith, leb-true 1 n some, eqb-true 0 n c))
  array_size n t (also d ds) before some w c h =
      let has = and_parts _ _ h in
      let a = align_of t in
      let first : size (value_onto t d before) ≡ round_up (size before) a + size_of t = value_size t d before w (has.0) in
      let m : IsMultiple a (size (value_onto t d before))
      = subst (IsMultiple a) (sym first) (multiple_add a (round_up (size before) a) (size_of t) (type_align t) (rounded a (size before) (type_align t)) (size_multiple t)) in
      let rest : size (elements_onto t ds (value_onto t d before)) ≡ size (value_onto t d before) + count_of ds * size_of t
      = elements_size t ds (value_onto t d before) m w (has.1) in
      let count : n ≡ 1 + count_of ds = omega (arith, eqb-true (1 + count_of ds) n c) in
      rest ∙ ap (λ k. k + count_of ds * size_of t) first ∙ (rw count (omega arith))

  pub elements_size : (t : TheType) (ds : Data) (before : List Leaf) → IsMultiple (align_of t) (size before) → is_well_made t ≡ true
      → all_have_type t ds ≡ true → size (elements_onto t ds before) ≡ size before + count_of ds * size_of t
  elements_size t nothing_more before m w h = omega arith
  elements_size t (also d ds) before m w h =
      let has = and_parts _ _ h in
      let a = align_of t in
      let first : size (value_onto t d before) ≡ size before + size_of t
      = value_size t d before w (has.0) ∙ ap (λ n. n + size_of t) (round_multiple a (size before) (type_align t) m) in
      let m' : IsMultiple a (size (value_onto t d before))
      = subst (IsMultiple a) (sym first) (multiple_add a (size before) (size_of t) (type_align t) m (size_multiple t)) in
      elements_size t ds (value_onto t d before) m' w (has.1) ∙ ap (λ k. k + count_of ds * size_of t) first ∙ omega arith
