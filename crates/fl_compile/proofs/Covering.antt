-- What stands at each byte of a call, by its leaves: that these are the marks of its structure.
use Rattle.std.proofs.Common.{◌≡◌, ℕ, ◌+◌, ◌-◌, ◌<◌, ◌≤◌, true, false, Bool, ⊎_elim, ◌&&◌, leb, ltb, eqb, cond, List, [], ◌∷◌, ◌++◌, map, length, get_or, replicate, refl, sym, ◌∙◌, ap, subst, arith, append_assoc}
use Rattle.std.specs.Prelude.{◌||◌}
use Rattle.std.specs.List.{list_all, range_with_len}
use Rattle.std.proofs.lemmas.List.{length-append, length-replicate, get_or-replicate, get_or_append_left, get_or-append_right, get_or_past, ext_get_or, append-nil}
use Rattle.std.proofs.lemmas.List.FromFn.{length-map-range_with_len, get_or-map-range_with_len}
use Rattle.std.proofs.lemmas.Bool.{cases_lt, and_parts, leb-true, ltb-true, eqb-true, false≢true}
use Rattle.fl_interface.specs.Interface.{TheType, scalar, enumeration, structure, array, TheTypes, no_more, field, TheArgType, fixed, text, sized}
use Rattle.fl_interface.specs.Sizes.{round_up, scalar_size, size_of, align_of, greatest_align, IsAlign}
use Rattle.fl_interface.specs.Limits.{is_well_made, are_well_made, count_of as fields_in, is_type_within, is_argument_within}
use Rattle.fl_value_data.specs.Value.{Datum, number, string, elements, fields, Data, nothing_more, also}
use Rattle.fl_value_data.specs.Fits.{has_type, have_types, all_have_type, count_of, is_argument}
use Rattle.fl_value_data.specs.Plan.{is_dynamic}
use Rattle.fl_layout.specs.Leaves.{Leaf, gap, whole, single, bits_of, value_onto, fields_onto, elements_onto, bytes_onto, argument_onto, start_onto, arguments_onto}
use Rattle.fl_layout.specs.Places.{size, place}
use Rattle.fl_wire.specs.Covered.{holds, is_covered, is_length}
use Rattle.fl_wire.specs.Payload.{payload_bytes}
use Rattle.fl_interface.specs.Counts.{words_fit, all_words_fit, argument_words_fit}
use Rattle.fl_interface.proofs.Aligned.{align_eight, type_align, types_align, IsMultiple, multiple_of_less}
use Rattle.fl_value_data.specs.Tape.{Argument}
use Rattle.fl_wire.proofs.Covers.{holds_before, holds_in, covered_past, covered_before, covered_in}
use Rattle.fl_stub.specs.declared.mark.ByteKind.{ByteKind}
use Rattle.fl_stub.specs.declared.mark.ByteKind.TheVariants.{Length, Number, Zero}
use Rattle.fl_stub.specs.Marks.{mark_at}
use Rattle.fl_compile.specs.Compiled.{padding}
use Rattle.fl_compile.proofs.Paddings.{padded, padded_multiple, no_padding, padding_after, multiple_of_8}
use Rattle.fl_compile.proofs.Payloads.{length_payload}
use Rattle.fl_compile.proofs.Encoded.{ends, after_multiple, joins, value_lies}
use Rattle.fl_compile.proofs.Placing.{placed_bytes, is_sound, made_of, length_multiple, counted_joins, argument_lies}
use Rattle.fl_compile.proofs.Marking.{value_marks, fields_marks, elements_marks, text_marks, placed_marks, arguments_marks}

-- ---- leaves

-- by leaves alone, a length is a number
abbrev cover_at : List Leaf → ℕ → ByteKind
cover_at ls p = cond (is_covered ls p) Number Zero

abbrev covers : List Leaf → List ByteKind
covers ls = map (cover_at ls) (range_with_len 0 (size ls))

length_covers : (ls : List Leaf) → length (covers ls) ≡ size ls
length_covers ls = length-map-range_with_len (cover_at ls) 0 (size ls)

get_covers : (ls : List Leaf) (p : ℕ) → p < size ls → get_or (covers ls) p Zero ≡ cover_at ls p
get_covers ls p h = get_or-map-range_with_len (cover_at ls) 0 (size ls) p p Zero h (omega arith)

cover_past : (ls : List Leaf) (p : ℕ) → size ls ≤ p → cover_at ls p ≡ Zero
cover_past ls p h = rw (covered_past ls p h) refl

covers_tell : (ls : List Leaf) (p : ℕ) → cover_at ls p ≡ mark_at (covers ls) p
covers_tell ls p = ⊎_elim
    (λ (inside : p < size ls). sym (get_covers ls p inside))
    (λ (past : size ls ≤ p). cover_past ls p past ∙ sym (get_or_past (covers ls) p Zero (omega (arith, length_covers ls, past))))
    (cases_lt p (size ls))

-- before a leaf's place
abbrev prefix : Leaf → List Leaf → List ByteKind
prefix l ls = covers ls ++ replicate (padding (size ls) l.align) Zero

prefix_length : (l : Leaf) (ls : List Leaf) → length (prefix l ls) ≡ place l ls
prefix_length l ls =
    let missing = padding (size ls) l.align in
    length-append (covers ls) (replicate missing Zero) ∙ omega (arith, length_covers ls, length-replicate {A = ByteKind} missing Zero)

prefix_at : (l : Leaf) (ls : List Leaf) (p : ℕ) → p < place l ls → get_or (prefix l ls) p Zero ≡ cover_at (l ∷ ls) p
prefix_at l ls p h =
    let missing = padding (size ls) l.align in ⊎_elim
    (λ (below : p < size ls).
    get_or_append_left (covers ls) (replicate missing Zero) Zero p (omega (arith, length_covers ls, below)) ∙ get_covers ls p below
    ∙ rw (holds_before (place l ls) l.width p h) refl)
    (λ (past : size ls ≤ p).
    get_or-append_right (covers ls) (replicate missing Zero) (size ls) p Zero (length_covers ls) past
    ∙ get_or-replicate missing (p - size ls) Zero Zero (omega (arith, h, past))
    ∙ rw (covered_before l ls p past h) refl)
    (cases_lt p (size ls))

cover_same : (l : Leaf) (ls : List Leaf) (p : ℕ) → p < size (l ∷ ls) → cover_at (l ∷ ls) p ≡ get_or (prefix l ls ++ replicate l.width Number) p Zero
cover_same l ls p h =
    let long : length (prefix l ls) ≡ place l ls = prefix_length l ls in ⊎_elim
    (λ (below : p < place l ls). sym (get_or_append_left (prefix l ls) (replicate l.width Number) Zero p (omega (arith, long, below)) ∙ prefix_at l ls p below))
    (λ (past : place l ls ≤ p).
    let here : cover_at (l ∷ ls) p ≡ Number = rw (covered_in l ls p past h) refl in
    here
    ∙ sym (get_or-append_right (prefix l ls) (replicate l.width Number) (place l ls) p Zero long past ∙ get_or-replicate l.width (p - place l ls) Number Zero (omega (arith, h, past))))
    (cases_lt p (place l ls))

-- with one leaf more: zeros up to its place, and its number
leaf_covers : (l : Leaf) (ls : List Leaf) → covers (l ∷ ls) ≡ prefix l ls ++ replicate l.width Number
leaf_covers l ls =
    let own : List ByteKind = replicate l.width Number in
    let long : length (covers (l ∷ ls)) ≡ length (prefix l ls ++ own)
    = length_covers (l ∷ ls) ∙ sym (length-append (prefix l ls) own ∙ omega (arith, prefix_length l ls, length-replicate {A = ByteKind} l.width Number)) in
    ext_get_or Zero (covers (l ∷ ls)) (prefix l ls ++ own) long
    (λ p h. let h' : p < size (l ∷ ls) = subst (λ (n : ℕ). p < n) (length_covers (l ∷ ls)) h in
    get_covers (l ∷ ls) p h' ∙ cover_same l ls p h')

gap_covers : (align : ℕ) (ls : List Leaf) → covers (gap align ∷ ls) ≡ covers ls ++ replicate (padding (size ls) align) Zero
gap_covers align ls = leaf_covers (gap align) ls ∙ append-nil (prefix (gap align) ls)

number_covers : (align width x : ℕ) (ls : List Leaf)
    → covers (record { align = align; width = width; value = x } ∷ ls) ≡ covers (gap align ∷ ls) ++ replicate width Number
number_covers align width x ls =
    let l : Leaf = record { align = align; width = width; value = x } in
    leaf_covers l ls ∙ ap (λ (ms : List ByteKind). ms ++ replicate width Number) (sym (gap_covers align ls))

-- no zeros where the place is a multiple
no_gap : (align : ℕ) (ls : List Leaf) → padding (size ls) align ≡ 0 → covers (gap align ∷ ls) ≡ covers ls
no_gap align ls none = gap_covers align ls ∙ ap (λ (n : ℕ). covers ls ++ replicate n Zero) none ∙ append-nil (covers ls)

-- ---- values

mutual
  value_covers : (t : TheType) (d : Datum) (low : List Leaf) → is_well_made t ≡ true → words_fit t ≡ true → has_type t d ≡ true
      → covers (value_onto t d low) ≡ covers (gap (align_of t) ∷ low) ++ value_marks t d
  value_covers (scalar s) (number z) low w f h = number_covers (scalar_size s) (scalar_size s) (bits_of (scalar_size s) z) low
  value_covers (enumeration n) (number z) low w f h = number_covers 4 4 (bits_of 4 z) low
  value_covers (structure ts) (fields ds) low w f h =
      let a = greatest_align ts in
      let made = and_parts (leb (fields_in ts) 32) (are_well_made ts) (and_parts (leb 1 (fields_in ts)) (leb (fields_in ts) 32 && are_well_made ts) w).1 in
      let begins : size (gap a ∷ low) ≡ (size low + padding (size low) a) + 0 = omega arith in
      fields_cover ts ds (gap a ∷ low) (size low + padding (size low) a) 0 a (omega arith) (types_align ts) (padded_multiple a (size low) (types_align ts)) begins (made.1) f h
  value_covers (array n t) (elements ds) low w f h =
      let made = and_parts (leb 1 n) (leb n 1024 && is_well_made t) w in
      let has = and_parts (eqb (count_of ds) n) (all_have_type t ds) h in
      array_covers n t ds low (leb-true 1 n (made.0)) ((and_parts (leb n 1024) (is_well_made t) (made.1)).1) f (eqb-true (count_of ds) n (has.0)) (has.1)
  value_covers (scalar s) (string b) low w f h = absurd (false≢true h)
  value_covers (scalar s) (elements ds) low w f h = absurd (false≢true h)
  value_covers (scalar s) (fields ds) low w f h = absurd (false≢true h)
  value_covers (enumeration n) (string b) low w f h = absurd (false≢true h)
  value_covers (enumeration n) (elements ds) low w f h = absurd (false≢true h)
  value_covers (enumeration n) (fields ds) low w f h = absurd (false≢true h)
  value_covers (structure ts) (number z) low w f h = absurd (false≢true h)
  value_covers (structure ts) (string b) low w f h = absurd (false≢true h)
  value_covers (structure ts) (elements ds) low w f h = absurd (false≢true h)
  value_covers (array n t) (number z) low w f h = absurd (false≢true h)
  value_covers (array n t) (string b) low w f h = absurd (false≢true h)
  value_covers (array n t) (fields ds) low w f h = absurd (false≢true h)

  fields_cover : (ts : TheTypes) (ds : Data) (low : List Leaf) (base at top : ℕ)
      → greatest_align ts ≤ top → IsAlign top → IsMultiple top base → size low ≡ base + at
      → are_well_made ts ≡ true → all_words_fit ts ≡ true → have_types ts ds ≡ true
      → covers (gap top ∷ fields_onto ts ds low) ≡ covers low ++ fields_marks top at ts ds
  fields_cover no_more nothing_more low base at top r is m e w f h =
      gap_covers top low ∙ ap (λ (n : ℕ). covers low ++ replicate n Zero) (ap (λ (n : ℕ). padding n top) e ∙ padding_after top base at is m)
  fields_cover (field t ts) (also d ds) low base at top r is m e w f h =
      let made = and_parts (is_well_made t) (are_well_made ts) w in
      let few = and_parts (words_fit t) (all_words_fit ts) f in
      let has = and_parts (has_type t d) (have_types ts ds) h in
      let a = align_of t in
      let after = round_up at a + size_of t in
      let high = value_onto t d low in
      let own : IsMultiple a base = multiple_of_less a top base (type_align t) is (omega (arith, r)) m in
      let pads : padding (size low) a ≡ padding at a = ap (λ (n : ℕ). padding n a) e ∙ padding_after a base at (type_align t) own in
      let next : size high ≡ base + after = ends t d low (has.0) (value_lies t d low (made.0) (few.0) (has.0)) ∙ omega (arith, e, pads, padded a at) in
      let zeros : List ByteKind = replicate (padding at a) Zero in
      let here : covers high ≡ (covers low ++ zeros) ++ value_marks t d
      = value_covers t d low (made.0) (few.0) (has.0) ∙ ap (λ (ms : List ByteKind). ms ++ value_marks t d) (gap_covers a low ∙ ap (λ (n : ℕ). covers low ++ replicate n Zero) pads) in
      joins zeros (value_marks t d) (fields_marks top after ts ds) (covers low) (covers high) (covers (gap top ∷ fields_onto ts ds high)) here
      (fields_cover ts ds high base after top (omega (arith, r)) is m next (made.1) (few.1) (has.1))
  fields_cover no_more (also d ds) low base at top r is m e w f h = absurd (false≢true h)
  fields_cover (field t ts) nothing_more low base at top r is m e w f h = absurd (false≢true h)

  -- the first element is aligned, and so are those after it
  array_covers : (n : ℕ) (t : TheType) (ds : Data) (low : List Leaf) → 1 ≤ n → is_well_made t ≡ true → words_fit t ≡ true → count_of ds ≡ n → all_have_type t ds ≡ true
      → covers (elements_onto t ds low) ≡ covers (gap (align_of t) ∷ low) ++ elements_marks t ds
  array_covers n t nothing_more low some w f e h = absurd (omega (arith, some, e))
  array_covers n t (also d ds) low some w f e h =
      let has = and_parts (has_type t d) (all_have_type t ds) h in
      let high = value_onto t d low in
      elements_cover t ds high (after_multiple t d low (has.0) (value_lies t d low w f (has.0))) w f (has.1)
      ∙ ap (λ (ms : List ByteKind). ms ++ elements_marks t ds) (value_covers t d low w f (has.0))
      ∙ append_assoc (covers (gap (align_of t) ∷ low)) (value_marks t d) (elements_marks t ds)

  elements_cover : (t : TheType) (ds : Data) (low : List Leaf) → IsMultiple (align_of t) (size low) → is_well_made t ≡ true → words_fit t ≡ true → all_have_type t ds ≡ true
      → covers (elements_onto t ds low) ≡ covers low ++ elements_marks t ds
  elements_cover t nothing_more low m w f h = sym (append-nil (covers low))
  elements_cover t (also d ds) low m w f h =
      let has = and_parts (has_type t d) (all_have_type t ds) h in
      let a = align_of t in
      let high = value_onto t d low in
      elements_cover t ds high (after_multiple t d low (has.0) (value_lies t d low w f (has.0))) w f (has.1)
      ∙ ap (λ (ms : List ByteKind). ms ++ elements_marks t ds)
      (value_covers t d low w f (has.0) ∙ ap (λ (ms : List ByteKind). ms ++ value_marks t d) (no_gap a low (no_padding a (size low) (type_align t) m)))
      ∙ append_assoc (covers low) (value_marks t d) (elements_marks t ds)

-- ---- an argument

-- what stands before a string or a sized array
opened : (after : Bool) (low : List Leaf) → covers (gap 8 ∷ start_onto after low) ≡ covers low ++ replicate (padding (size low) 8) Zero
opened true low =
    let begun : IsMultiple 8 (size (gap 8 ∷ low)) = let m = padded_multiple 8 (size low) align_eight in omega (arith, m) in
    no_gap 8 (gap 8 ∷ low) (no_padding 8 (size (gap 8 ∷ low)) align_eight begun) ∙ gap_covers 8 low
opened false low = gap_covers 8 low

length_covered : (after : Bool) (n : ℕ) (low : List Leaf)
    → covers (whole 8 n ∷ start_onto after low) ≡ (covers low ++ replicate (padding (size low) 8) Zero) ++ replicate 8 Number
length_covered after n low = number_covers 8 8 n (start_onto after low) ∙ ap (λ (ms : List ByteKind). ms ++ replicate 8 Number) (opened after low)

text_covers : (xs : List ℕ) (low : List Leaf) → covers (bytes_onto xs low) ≡ covers low ++ text_marks xs
text_covers [] low = sym (append-nil (covers low))
text_covers (x ∷ xs) low =
    let none : padding (size low) 1 ≡ 0 = omega arith in
    text_covers xs (single x ∷ low)
    ∙ ap (λ (ms : List ByteKind). ms ++ text_marks xs) (number_covers 1 1 x low ∙ ap (λ (ms : List ByteKind). ms ++ replicate 1 Number) (no_gap 1 low none))
    ∙ append_assoc (covers low) (replicate 1 Number) (text_marks xs)

argument_covers : (after : Bool) (t : TheArgType) (d : Datum) (low : List Leaf) → is_sound (t, d) ≡ true
    → covers (argument_onto t d (start_onto after low)) ≡ covers low ++ placed_marks Number after (size low) t d
argument_covers false (fixed t) d low h =
    let parts = and_parts (has_type t d) _ h in
    let limits = and_parts (is_type_within t) (words_fit t) parts.1 in
    value_covers t d low (made_of t limits.0) limits.1 parts.0
    ∙ ap (λ (ms : List ByteKind). ms ++ value_marks t d) (gap_covers (align_of t) low)
    ∙ append_assoc (covers low) (replicate (padding (size low) (align_of t)) Zero) (value_marks t d)
argument_covers true (fixed t) d low h =
    let parts = and_parts (has_type t d) _ h in
    let limits = and_parts (is_type_within t) (words_fit t) parts.1 in
    let begun : IsMultiple 8 (size (gap 8 ∷ low)) = let m = padded_multiple 8 (size low) align_eight in omega (arith, m) in
    let none : padding (size (gap 8 ∷ low)) (align_of t) ≡ 0
    = no_padding (align_of t) (size (gap 8 ∷ low)) (type_align t) (multiple_of_8 (align_of t) (size (gap 8 ∷ low)) (type_align t) begun) in
    value_covers t d (gap 8 ∷ low) (made_of t limits.0) limits.1 parts.0
    ∙ ap (λ (ms : List ByteKind). ms ++ value_marks t d) (no_gap (align_of t) (gap 8 ∷ low) none ∙ gap_covers 8 low)
    ∙ append_assoc (covers low) (replicate (padding (size low) 8) Zero) (value_marks t d)
argument_covers after (text most) (string xs) low h =
    let start = whole 8 (length xs) ∷ start_onto after low in
    counted_joins (covers low) (replicate (padding (size low) 8) Zero) (replicate 8 Number) (text_marks xs) (covers (bytes_onto xs start)) (covers start)
    (length_covered after (length xs) low) (text_covers xs start)
argument_covers after (sized most t) (elements ds) low h =
    let parts = and_parts (is_argument (sized most t) (elements ds)) _ h in
    let limits = and_parts (is_argument_within (sized most t)) (argument_words_fit (sized most t)) parts.1 in
    let made : is_well_made t ≡ true = made_of t ((and_parts _ _ ((and_parts _ _ (limits.0)).1)).1) in
    let few : words_fit t ≡ true = (and_parts _ _ (limits.1)).1 in
    let typed : all_have_type t ds ≡ true = (and_parts _ _ (parts.0)).1 in
    let start = whole 8 (count_of ds) ∷ start_onto after low in
    let begun : IsMultiple (align_of t) (size start) = multiple_of_8 (align_of t) (size start) (type_align t) (length_multiple (count_of ds) (start_onto after low)) in
    counted_joins (covers low) (replicate (padding (size low) 8) Zero) (replicate 8 Number) (elements_marks t ds) (covers (elements_onto t ds start)) (covers start)
    (length_covered after (count_of ds) low) (elements_cover t ds start begun made few typed)
argument_covers after (text most) (number z) low h = absurd (false≢true h)
argument_covers after (text most) (elements ds) low h = absurd (false≢true h)
argument_covers after (text most) (fields ds) low h = absurd (false≢true h)
argument_covers after (sized most t) (number z) low h = absurd (false≢true h)
argument_covers after (sized most t) (string xs) low h = absurd (false≢true h)
argument_covers after (sized most t) (fields ds) low h = absurd (false≢true h)

-- ---- lengths

mark_inside : (before after : List ByteKind) (mark : ByteKind) (start p : ℕ) → length before ≡ start → holds start 8 p ≡ true
    → mark ≡ mark_at (before ++ (replicate 8 mark ++ after)) p
mark_inside before after mark start p long h =
    let both = and_parts (leb start p) (ltb p (start + 8)) h in
    let low : start ≤ p = leb-true start p both.0 in
    let high : p < start + 8 = ltb-true p (start + 8) both.1 in
    let few : p - start < 8 = omega (arith, low, high) in
    let own : List ByteKind = replicate 8 mark in
    let eight : length own ≡ 8 = length-replicate {A = ByteKind} 8 mark in
    sym (get_or-append_right before (own ++ after) start p Zero long low
    ∙ get_or_append_left own after Zero (p - start) (omega (arith, eight, few))
    ∙ get_or-replicate 8 (p - start) mark Zero few)

-- elsewhere it makes no difference which mark it is
mark_outside : (before after : List ByteKind) (one two : ByteKind) (start p : ℕ) → length before ≡ start → holds start 8 p ≡ false
    → mark_at (before ++ (replicate 8 one ++ after)) p ≡ mark_at (before ++ (replicate 8 two ++ after)) p
mark_outside before after one two start p long h = ⊎_elim
    (λ (low : p < start).
    let few : p < length before = omega (arith, long, low) in
    get_or_append_left before (replicate 8 one ++ after) Zero p few ∙ sym (get_or_append_left before (replicate 8 two ++ after) Zero p few))
    (λ (low : start ≤ p). ⊎_elim
    (λ (high : p < start + 8). absurd (false≢true (sym h ∙ holds_in start 8 p low high)))
    (λ (high : start + 8 ≤ p).
    let past : 8 ≤ p - start = omega (arith, high) in
    get_or-append_right before (replicate 8 one ++ after) start p Zero long low
    ∙ get_or-append_right (replicate 8 one) after 8 (p - start) Zero (length-replicate {A = ByteKind} 8 one) past
    ∙ sym (get_or-append_right before (replicate 8 two ++ after) start p Zero long low
    ∙ get_or-append_right (replicate 8 two) after 8 (p - start) Zero (length-replicate {A = ByteKind} 8 two) past))
    (cases_lt p (start + 8)))
    (cases_lt p start)

-- a length's bytes, before an argument's others and what follows
spread : (low zeros long own after : List ByteKind) → low ++ ((zeros ++ (long ++ own)) ++ after) ≡ (low ++ zeros) ++ (long ++ (own ++ after))
spread low zeros long own after =
    ap (λ (ms : List ByteKind). low ++ ms) (append_assoc zeros (long ++ own) after ∙ ap (λ (ms : List ByteKind). zeros ++ ms) (append_assoc long own after))
    ∙ sym (append_assoc low zeros (long ++ (own ++ after)))

-- with its length marked, where the leaves alone are right for the rest
length_by : (held rest : Bool) (x : ByteKind) (low : List Leaf) (own after : List ByteKind) (p : ℕ) → holds (place (gap 8) low) 8 p ≡ held
    → cond rest Length x ≡ mark_at (covers low ++ ((replicate (padding (size low) 8) Zero ++ (replicate 8 Number ++ own)) ++ after)) p
    → cond (held || rest) Length x ≡ mark_at (covers low ++ ((replicate (padding (size low) 8) Zero ++ (replicate 8 Length ++ own)) ++ after)) p
length_by true rest x low own after p e h =
    let zeros : List ByteKind = replicate (padding (size low) 8) Zero in
    mark_inside (prefix (gap 8) low) (own ++ after) Length (place (gap 8) low) p (prefix_length (gap 8) low) e
    ∙ ap (λ (ms : List ByteKind). mark_at ms p) (sym (spread (covers low) zeros (replicate 8 Length) own after))
length_by false rest x low own after p e h =
    let zeros : List ByteKind = replicate (padding (size low) 8) Zero in
    h ∙ ap (λ (ms : List ByteKind). mark_at ms p) (spread (covers low) zeros (replicate 8 Number) own after)
    ∙ mark_outside (prefix (gap 8) low) (own ++ after) Number Length (place (gap 8) low) p (prefix_length (gap 8) low) e
    ∙ ap (λ (ms : List ByteKind). mark_at ms p) (sym (spread (covers low) zeros (replicate 8 Length) own after))

length_marked : (after : Bool) (t : TheArgType) (d : Datum) (rest : Bool) (x : ByteKind) (low : List Leaf) (others : List ByteKind) (p : ℕ) → is_argument t d ≡ true
    → cond rest Length x ≡ mark_at (covers low ++ (placed_marks Number after (size low) t d ++ others)) p
    → cond ((is_dynamic t && holds (place (gap 8) low) 8 p) || rest) Length x ≡ mark_at (covers low ++ (placed_marks Length after (size low) t d ++ others)) p
length_marked after (fixed t) d rest x low others p s h = h
length_marked after (text most) (string xs) rest x low others p s h = length_by (holds (place (gap 8) low) 8 p) rest x low (text_marks xs) others p refl h
length_marked after (sized most t) (elements ds) rest x low others p s h = length_by (holds (place (gap 8) low) 8 p) rest x low (elements_marks t ds) others p refl h
length_marked after (text most) (number z) rest x low others p s h = absurd (false≢true s)
length_marked after (text most) (elements ds) rest x low others p s h = absurd (false≢true s)
length_marked after (text most) (fields ds) rest x low others p s h = absurd (false≢true s)
length_marked after (sized most t) (number z) rest x low others p s h = absurd (false≢true s)
length_marked after (sized most t) (string xs) rest x low others p s h = absurd (false≢true s)
length_marked after (sized most t) (fields ds) rest x low others p s h = absurd (false≢true s)

-- ---- arguments

-- what stands at a byte, after some leaves
abbrev pub stands_at : Bool → List Argument → List Leaf → ℕ → ByteKind
stands_at after args low p = cond (is_length after args low p) Length (cover_at (arguments_onto after args low) p)

arguments_stand : (after : Bool) (args : List Argument) (low : List Leaf) → list_all is_sound args ≡ true → (p : ℕ)
    → stands_at after args low p ≡ mark_at (covers low ++ arguments_marks after (size low) args) p
arguments_stand after [] low h p = covers_tell low p ∙ ap (λ (ms : List ByteKind). mark_at ms p) (sym (append-nil (covers low)))
arguments_stand after (a ∷ args) low h p =
    let parts = and_parts (is_sound a) (list_all is_sound args) h in
    let typed : is_argument a.0 a.1 ≡ true = (and_parts (is_argument a.0 a.1) _ parts.0).0 in
    let high = argument_onto a.0 a.1 (start_onto after low) in
    let bytes = placed_bytes after (size low) a.0 a.1 in
    let own = placed_marks Number after (size low) a.0 a.1 in
    let others = arguments_marks (is_dynamic a.0) (size low + length bytes) args in
    let ends : size high ≡ size low + length bytes
    = sym (length_payload high) ∙ ap length (argument_lies after a.0 a.1 low parts.0) ∙ length-append (payload_bytes low) bytes ∙ ap (λ (n : ℕ). n + length bytes) (length_payload low) in
    let lists : covers high ++ arguments_marks (is_dynamic a.0) (size high) args ≡ covers low ++ (own ++ others)
    = ap (λ (n : ℕ). covers high ++ arguments_marks (is_dynamic a.0) n args) ends
    ∙ ap (λ (ms : List ByteKind). ms ++ others) (argument_covers after a.0 a.1 low parts.0)
    ∙ append_assoc (covers low) own others in
    length_marked after a.0 a.1 (is_length (is_dynamic a.0) args high p) (cover_at (arguments_onto (is_dynamic a.0) args high) p) low others p typed
    (arguments_stand (is_dynamic a.0) args high parts.1 p ∙ ap (λ (ms : List ByteKind). mark_at ms p) lists)

-- of a whole payload
pub all_stand : (args : List Argument) → list_all is_sound args ≡ true → (p : ℕ) → stands_at false args [] p ≡ mark_at (arguments_marks false 0 args) p
all_stand args h p = arguments_stand false args [] h p
