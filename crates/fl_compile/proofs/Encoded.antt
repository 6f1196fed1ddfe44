-- The bytes of values: how many they are, and that they are those of the values' leaves.
use Rattle.std.proofs.Common.{◌≡◌, ℕ, ◌+◌, ◌*◌, ◌^◌, ◌≤◌, true, List, [], ◌∷◌, ◌++◌, length, replicate, sym, ◌∙◌, ap, subst, arith, append_assoc, ◌&&◌, leb, eqb}
use Rattle.std.proofs.lemmas.List.{length-append, length-replicate, append-nil}
use Rattle.std.proofs.lemmas.Bool.{and_parts, leb-true, eqb-true, false≢true}
use Rattle.fl_interface.specs.Interface.{TheType, scalar, enumeration, structure, array, TheTypes, no_more, field}
use Rattle.fl_interface.specs.Sizes.{round_up, scalar_size, size_of, align_of, greatest_align, end_after, IsAlign}
use Rattle.fl_interface.specs.Limits.{is_well_made, are_well_made, count_of as fields_in}
use Rattle.fl_value_data.specs.Value.{Datum, number, string, elements, fields, Data, nothing_more, also}
use Rattle.fl_value_data.specs.Fits.{has_type, have_types, all_have_type, count_of, scalar_bits}
use Rattle.fl_value_data.specs.Tape.{raw_of}
use Rattle.fl_layout.specs.Leaves.{Leaf, gap, bits_of, value_onto, fields_onto, elements_onto}
use Rattle.fl_layout.specs.Places.{size}
use Rattle.fl_wire.specs.Payload.{payload_bytes}
use Rattle.fl_interface.specs.Counts.{words_fit, all_words_fit}
use Rattle.fl_interface.proofs.Aligned.{type_align, types_align, IsMultiple, multiple_add, multiple_of_less, size_multiple}
use Rattle.fl_stub.specs.Meaning.{number_bytes}
use Rattle.fl_compile.specs.Compiled.{padding}
use Rattle.fl_compile.proofs.Paddings.{padded, padded_multiple, no_padding, padding_after}
use Rattle.fl_compile.proofs.Payloads.{length_payload, gap_bytes, number_written, number_length, no_gap}
use Rattle.fl_compile.proofs.Numerals.{scalar_leaf, enum_leaf}

abbrev mutual
  -- the bytes of a value, from a multiple of its type's alignment on
  pub value_bytes : TheType → Datum → List ℕ
  value_bytes (scalar s) (number z) = number_bytes (scalar_size s) (raw_of (scalar_bits s) z)
  value_bytes (enumeration n) (number z) = number_bytes 4 (raw_of 32 z)
  value_bytes (structure ts) (fields ds) = fields_bytes (greatest_align ts) 0 ts ds
  value_bytes (array n t) (elements ds) = elements_bytes t ds
  value_bytes t d = []

  -- those of the last fields of a struct, up to its end
  pub fields_bytes : ℕ → ℕ → TheTypes → Data → List ℕ
  fields_bytes align at (field t ts) (also d ds) =
      replicate (padding at (align_of t)) 0 ++ (value_bytes t d ++ fields_bytes align (round_up at (align_of t) + size_of t) ts ds)
  fields_bytes align at ts ds = replicate (padding at align) 0

  pub elements_bytes : TheType → Data → List ℕ
  elements_bytes t nothing_more = []
  elements_bytes t (also d ds) = value_bytes t d ++ elements_bytes t ds

-- ---- how many they are

three_long : (x y z : List ℕ) → length (x ++ (y ++ z)) ≡ length x + (length y + length z)
three_long x y z = length-append x (y ++ z) ∙ ap (λ (n : ℕ). length x + n) (length-append y z)

zeros_long : (n : ℕ) → length (replicate {A = ℕ} n 0) ≡ n
zeros_long n = length-replicate {A = ℕ} n 0

mutual
  pub value_length : (t : TheType) (d : Datum) → has_type t d ≡ true → length (value_bytes t d) ≡ size_of t
  value_length (scalar s) (number z) h = number_length 0 (scalar_size s) (raw_of (scalar_bits s) z)
  value_length (enumeration n) (number z) h = number_length 0 4 (raw_of 32 z)
  value_length (structure ts) (fields ds) h = omega (arith, fields_length (greatest_align ts) 0 ts ds h)
  value_length (array n t) (elements ds) h =
      let has = and_parts (eqb (count_of ds) n) (all_have_type t ds) h in
      elements_length t ds (has.1) ∙ ap (λ (k : ℕ). k * size_of t) (eqb-true (count_of ds) n (has.0))
  value_length (scalar s) (string b) h = absurd (false≢true h)
  value_length (scalar s) (elements ds) h = absurd (false≢true h)
  value_length (scalar s) (fields ds) h = absurd (false≢true h)
  value_length (enumeration n) (string b) h = absurd (false≢true h)
  value_length (enumeration n) (elements ds) h = absurd (false≢true h)
  value_length (enumeration n) (fields ds) h = absurd (false≢true h)
  value_length (structure ts) (number z) h = absurd (false≢true h)
  value_length (structure ts) (string b) h = absurd (false≢true h)
  value_length (structure ts) (elements ds) h = absurd (false≢true h)
  value_length (array n t) (number z) h = absurd (false≢true h)
  value_length (array n t) (string b) h = absurd (false≢true h)
  value_length (array n t) (fields ds) h = absurd (false≢true h)

  pub fields_length : (align at : ℕ) (ts : TheTypes) (ds : Data) → have_types ts ds ≡ true
      → at + length (fields_bytes align at ts ds) ≡ round_up (end_after at ts) align
  fields_length align at no_more nothing_more h = ap (λ (n : ℕ). at + n) (zeros_long (padding at align)) ∙ padded align at
  fields_length align at (field t ts) (also d ds) h =
      let has = and_parts (has_type t d) (have_types ts ds) h in
      let a = align_of t in
      let after = round_up at a + size_of t in
      let zeros : List ℕ = replicate (padding at a) 0 in
      let long = three_long zeros (value_bytes t d) (fields_bytes align after ts ds) in
      omega (arith, long, zeros_long (padding at a), padded a at, value_length t d (has.0), fields_length align after ts ds (has.1))
  fields_length align at no_more (also d ds) h = absurd (false≢true h)
  fields_length align at (field t ts) nothing_more h = absurd (false≢true h)

  pub elements_length : (t : TheType) (ds : Data) → all_have_type t ds ≡ true → length (elements_bytes t ds) ≡ count_of ds * size_of t
  elements_length t nothing_more h = omega arith
  elements_length t (also d ds) h =
      let has = and_parts (has_type t d) (all_have_type t ds) h in
      let both = length-append (value_bytes t d) (elements_bytes t ds) in
      let more : (1 + count_of ds) * size_of t ≡ size_of t + count_of ds * size_of t = omega arith in
      omega (arith, both, value_length t d (has.0), elements_length t ds (has.1), more)

-- ---- the leaves' bytes

-- a value stands in a payload at a multiple of its alignment
abbrev pub Lies : TheType → Datum → List Leaf → Type 0
Lies t d low = payload_bytes (value_onto t d low) ≡ payload_bytes (gap (align_of t) ∷ low) ++ value_bytes t d

-- and so tells where it ends
pub ends : (t : TheType) (d : Datum) (low : List Leaf) → has_type t d ≡ true → Lies t d low → size (value_onto t d low) ≡ (size low + padding (size low) (align_of t)) + size_of t
ends t d low h lies =
    let a = align_of t in
    sym (length_payload (value_onto t d low)) ∙ ap length lies
    ∙ length-append (payload_bytes (gap a ∷ low)) (value_bytes t d)
    ∙ ap (λ (bs : List ℕ). length bs + length (value_bytes t d)) (gap_bytes a low)
    ∙ ap (λ (n : ℕ). n + length (value_bytes t d)) (length-append (payload_bytes low) (replicate (padding (size low) a) 0))
    ∙ omega (arith, length_payload low, zeros_long (padding (size low) a), value_length t d h)

-- what stands after a value that begins at a multiple
pub after_multiple : (t : TheType) (d : Datum) (low : List Leaf) → has_type t d ≡ true → Lies t d low → IsMultiple (align_of t) (size (value_onto t d low))
after_multiple t d low h lies =
    let a = align_of t in
    subst (IsMultiple a) (sym (ends t d low h lies))
    (multiple_add a (size low + padding (size low) a) (size_of t) (type_align t) (padded_multiple a (size low) (type_align t)) (size_multiple t))

number_lies : (align width x y : ℕ) (low : List Leaf) → x ≡ y
    → payload_bytes (record { align = align; width = width; value = x } ∷ low) ≡ payload_bytes (gap align ∷ low) ++ number_bytes width y
number_lies align width x y low e = number_written align width x low ∙ ap (λ (n : ℕ). payload_bytes (gap align ∷ low) ++ number_bytes width n) e

-- one piece after another
pub joins : {A : Type 0} (a b c low mid high : List A) → mid ≡ (low ++ a) ++ b → high ≡ mid ++ c → high ≡ low ++ (a ++ (b ++ c))
joins {A = A} a b c low mid high e f =
    f ∙ ap (λ (bs : List A). bs ++ c) e ∙ append_assoc (low ++ a) b c ∙ append_assoc low a (b ++ c)

mutual
  pub value_lies : (t : TheType) (d : Datum) (low : List Leaf) → is_well_made t ≡ true → words_fit t ≡ true → has_type t d ≡ true → Lies t d low
  value_lies (scalar s) (number z) low w f h =
      number_lies (scalar_size s) (scalar_size s) (bits_of (scalar_size s) z) (raw_of (scalar_bits s) z) low (scalar_leaf s z h)
  value_lies (enumeration n) (number z) low w f h = number_lies 4 4 (bits_of 4 z) (raw_of 32 z) low (enum_leaf n z (leb-true n (2 ^ 32) f) h)
  value_lies (structure ts) (fields ds) low w f h =
      let a = greatest_align ts in
      let made = and_parts (leb (fields_in ts) 32) (are_well_made ts) (and_parts (leb 1 (fields_in ts)) (leb (fields_in ts) 32 && are_well_made ts) w).1 in
      let begins : size (gap a ∷ low) ≡ (size low + padding (size low) a) + 0 = omega arith in
      fields_lie ts ds (gap a ∷ low) (size low + padding (size low) a) 0 a (omega arith) (types_align ts) (padded_multiple a (size low) (types_align ts)) begins (made.1) f h
  value_lies (array n t) (elements ds) low w f h =
      let made = and_parts (leb 1 n) (leb n 1024 && is_well_made t) w in
      let has = and_parts (eqb (count_of ds) n) (all_have_type t ds) h in
      array_lies n t ds low (leb-true 1 n (made.0)) ((and_parts (leb n 1024) (is_well_made t) (made.1)).1) f (eqb-true (count_of ds) n (has.0)) (has.1)
  value_lies (scalar s) (string b) low w f h = absurd (false≢true h)
  value_lies (scalar s) (elements ds) low w f h = absurd (false≢true h)
  value_lies (scalar s) (fields ds) low w f h = absurd (false≢true h)
  value_lies (enumeration n) (string b) low w f h = absurd (false≢true h)
  value_lies (enumeration n) (elements ds) low w f h = absurd (false≢true h)
  value_lies (enumeration n) (fields ds) low w f h = absurd (false≢true h)
  value_lies (structure ts) (number z) low w f h = absurd (false≢true h)
  value_lies (structure ts) (string b) low w f h = absurd (false≢true h)
  value_lies (structure ts) (elements ds) low w f h = absurd (false≢true h)
  value_lies (array n t) (number z) low w f h = absurd (false≢true h)
  value_lies (array n t) (string b) low w f h = absurd (false≢true h)
  value_lies (array n t) (fields ds) low w f h = absurd (false≢true h)

  pub fields_lie : (ts : TheTypes) (ds : Data) (low : List Leaf) (base at top : ℕ)
      → greatest_align ts ≤ top → IsAlign top → IsMultiple top base → size low ≡ base + at
      → are_well_made ts ≡ true → all_words_fit ts ≡ true → have_types ts ds ≡ true
      → payload_bytes (gap top ∷ fields_onto ts ds low) ≡ payload_bytes low ++ fields_bytes top at ts ds
  fields_lie no_more nothing_more low base at top r is m e w f h =
      gap_bytes top low ∙ ap (λ (n : ℕ). payload_bytes low ++ replicate n 0) (ap (λ (n : ℕ). padding n top) e ∙ padding_after top base at is m)
  fields_lie (field t ts) (also d ds) low base at top r is m e w f h =
      let made = and_parts (is_well_made t) (are_well_made ts) w in
      let few = and_parts (words_fit t) (all_words_fit ts) f in
      let has = and_parts (has_type t d) (have_types ts ds) h in
      let a = align_of t in
      let after = round_up at a + size_of t in
      let high = value_onto t d low in
      let own : IsMultiple a base = multiple_of_less a top base (type_align t) is (omega (arith, r)) m in
      let pads : padding (size low) a ≡ padding at a = ap (λ (n : ℕ). padding n a) e ∙ padding_after a base at (type_align t) own in
      let lies : Lies t d low = value_lies t d low (made.0) (few.0) (has.0) in
      let next : size high ≡ base + after = ends t d low (has.0) lies ∙ omega (arith, e, pads, padded a at) in
      let zeros : List ℕ = replicate (padding at a) 0 in
      let here : payload_bytes high ≡ (payload_bytes low ++ zeros) ++ value_bytes t d
      = lies ∙ ap (λ (bs : List ℕ). bs ++ value_bytes t d) (gap_bytes a low ∙ ap (λ (n : ℕ). payload_bytes low ++ replicate n 0) pads) in
      joins zeros (value_bytes t d) (fields_bytes top after ts ds) (payload_bytes low) (payload_bytes high) (payload_bytes (gap top ∷ fields_onto ts ds high)) here
      (fields_lie ts ds high base after top (omega (arith, r)) is m next (made.1) (few.1) (has.1))
  fields_lie no_more (also d ds) low base at top r is m e w f h = absurd (false≢true h)
  fields_lie (field t ts) nothing_more low base at top r is m e w f h = absurd (false≢true h)

  -- the first element is aligned, and so are those after it
  pub array_lies : (n : ℕ) (t : TheType) (ds : Data) (low : List Leaf) → 1 ≤ n → is_well_made t ≡ true → words_fit t ≡ true → count_of ds ≡ n → all_have_type t ds ≡ true
      → payload_bytes (elements_onto t ds low) ≡ payload_bytes (gap (align_of t) ∷ low) ++ elements_bytes t ds
  array_lies n t nothing_more low some w f e h = absurd (omega (arith, some, e))
  array_lies n t (also d ds) low some w f e h =
      let has = and_parts (has_type t d) (all_have_type t ds) h in
      let high = value_onto t d low in
      let lies : Lies t d low = value_lies t d low w f (has.0) in
      elements_lie t ds high (after_multiple t d low (has.0) lies) w f (has.1)
      ∙ ap (λ (bs : List ℕ). bs ++ elements_bytes t ds) lies
      ∙ append_assoc (payload_bytes (gap (align_of t) ∷ low)) (value_bytes t d) (elements_bytes t ds)

  pub elements_lie : (t : TheType) (ds : Data) (low : List Leaf) → IsMultiple (align_of t) (size low) → is_well_made t ≡ true → words_fit t ≡ true → all_have_type t ds ≡ true
      → payload_bytes (elements_onto t ds low) ≡ payload_bytes low ++ elements_bytes t ds
  elements_lie t nothing_more low m w f h = sym (append-nil (payload_bytes low))
  elements_lie t (also d ds) low m w f h =
      let has = and_parts (has_type t d) (all_have_type t ds) h in
      let a = align_of t in
      let high = value_onto t d low in
      let lies : Lies t d low = value_lies t d low w f (has.0) in
      elements_lie t ds high (after_multiple t d low (has.0) lies) w f (has.1)
      ∙ ap (λ (bs : List ℕ). bs ++ elements_bytes t ds) (lies ∙ ap (λ (bs : List ℕ). bs ++ value_bytes t d) (no_gap a low (no_padding a (size low) (type_align t) m)))
      ∙ append_assoc (payload_bytes low) (value_bytes t d) (elements_bytes t ds)
