-- No list of fragments has two readings.
use Rattle.std.proofs.Common.{eq-eqb, ◌≡◌, ℕ, ℤ, pos, negsuc, zero, suc, ◌+◌, ◌*◌, ◌^◌, ◌<◌, ◌≤◌, Bool, true, false, inl, inr, ⊎_elim, List, [], ◌∷◌, ◌++◌, length, refl, sym, ◌∙◌, ap, subst, arith, cond, eqb, append_assoc, lit≤}
use Rattle.std.proofs.lemmas.List.{map-append, length-map}
use Rattle.std.specs.Prelude.{filter}
use Rattle.std.specs.List.{zip, list_all}
use Rattle.std.specs.Int.{byte_at, to_le_bytes, from_le_bytes, w16, w32, w64}
use Rattle.std.proofs.lemmas.Nat.{from_le_bytes-to_le_bytes_2, from_le_bytes-to_le_bytes_4, from_le_bytes-to_le_bytes_8}
use Rattle.std.proofs.lemmas.Bool.{cases_lt, ltb-true, leb-true, eqb-true, false≢true}
use Rattle.std.specs.Cmp.{first_so, second_so}
use Rattle.fl_interface.specs.declared.interface.Scalar.{Scalar}
use Rattle.fl_interface.specs.declared.interface.Scalar.TheVariants.{Uint8, Int8, Bool as BoolType, Char, Uint16, Int16, Uint32, Int32, Iref, Uint64, Int64, Uintptr, Intptr, Size, Errval}
use Rattle.fl_interface.specs.Interface.{TheType, scalar, enumeration, structure, array, TheTypes, no_more, field, TheArgType, fixed, text, sized}
use Rattle.fl_interface.specs.Sizes.{scalar_size, align_of, greatest_align}
use Rattle.fl_value_data.specs.Value.{Datum, number, string, elements, fields, Data, nothing_more, also}
use Rattle.fl_value_data.specs.Fits.{has_type, have_types, all_have_type, count_of, is_argument, are_arguments, is_scalar_value, is_enumerator, least_above, how_many_below, is_text_byte}
use Rattle.fl_value_data.specs.Plan.{is_dynamic, rank_of, fixed_rank, of_rank, of_ranks}
use Rattle.fl_layout.specs.Leaves.{Leaf, gap, whole, single, bits_of, value_onto, fields_onto, elements_onto, bytes_onto, argument_onto, arguments_onto, start_onto}
use Rattle.fl_layout.specs.Places.{size, place}
use Rattle.fl_wire.specs.Payload.{payload_at}
use Rattle.fl_value_data.specs.declared.value.PlanNo.{PlanNo}
use Rattle.fl_value_data.specs.declared.value.PlanNo.TheVariants.{One, Two}
use Rattle.fl_wire.specs.Standing.{SplitLeaves, firsts, fitting}
use Rattle.fl_interface.specs.Counts.{words_fit, all_words_fit, argument_words_fit}
use Rattle.fl_value_data.specs.Tape.{Argument, kind}
use Rattle.fl_wire.proofs.Bytes.{size_le_place, below_place, at_place}
use Rattle.fl_wire.proofs.Arguments.{IsAlign, type_align, by_align, scalar_align}

-- ---- leaves that stand under others

pub over_self : (low : List Leaf) → SplitLeaves low low
over_self low = record { more = []; is = refl }

pub over_one : (l : Leaf) (low : List Leaf) → SplitLeaves low (l ∷ low)
over_one l low = record { more = l ∷ []; is = refl }

pub over_over : (a b c : List Leaf) → SplitLeaves a b → SplitLeaves b c → SplitLeaves a c
over_over a b c p q = record { more = q.more ++ p.more; is = q.is ∙ ap (λ (ls : List Leaf). q.more ++ ls) p.is ∙ sym (append_assoc q.more p.more a) }

mutual
  pub over_value : (t : TheType) (d : Datum) (low : List Leaf) → SplitLeaves low (value_onto t d low)
  over_value (scalar s) (number z) low = over_one _ low
  over_value (enumeration n) (number z) low = over_one _ low
  over_value (structure ts) (fields ds) low =
      over_over _ _ _ (over_over _ _ _ (over_one (gap (greatest_align ts)) low) (over_fields ts ds (gap (greatest_align ts) ∷ low))) (over_one (gap (greatest_align ts)) _)
  over_value (array n t) (elements ds) low = over_elements t ds low
  over_value t d low = over_self low

  pub over_fields : (ts : TheTypes) (ds : Data) (low : List Leaf) → SplitLeaves low (fields_onto ts ds low)
  over_fields (field t ts) (also d ds) low = over_over _ _ _ (over_value t d low) (over_fields ts ds (value_onto t d low))
  over_fields ts ds low = over_self low

  pub over_elements : (t : TheType) (ds : Data) (low : List Leaf) → SplitLeaves low (elements_onto t ds low)
  over_elements t nothing_more low = over_self low
  over_elements t (also d ds) low = over_over _ _ _ (over_value t d low) (over_elements t ds (value_onto t d low))

pub over_bytes : (bs : List ℕ) (low : List Leaf) → SplitLeaves low (bytes_onto bs low)
over_bytes [] low = over_self low
over_bytes (b ∷ bs) low = over_over _ _ _ (over_one (single b) low) (over_bytes bs (single b ∷ low))

pub over_argument : (t : TheArgType) (d : Datum) (low : List Leaf) → SplitLeaves low (argument_onto t d low)
over_argument (fixed t) d low = over_value t d low
over_argument (text max) (string bytes) low = over_over _ _ _ (over_one _ low) (over_bytes bytes _)
over_argument (sized max t) (elements ds) low = over_over _ _ _ (over_one _ low) (over_elements t ds _)
over_argument t d low = over_self low

pub over_start : (f : Bool) (low : List Leaf) → SplitLeaves low (start_onto f low)
over_start true low = over_one _ low
over_start false low = over_self low

pub over_arguments : (f : Bool) (args : List Argument) (low : List Leaf) → SplitLeaves low (arguments_onto f args low)
over_arguments f [] low = over_self low
over_arguments f (a ∷ args) low =
    over_over _ _ _ (over_over _ _ _ (over_start f low) (over_argument a.0 a.1 (start_onto f low))) (over_arguments (is_dynamic a.0) args _)

pub grows : (more low : List Leaf) → size low ≤ size (more ++ low)
grows [] low = omega arith
grows (l ∷ more) low = omega (arith, grows more low, size_le_place (size (more ++ low)) l.align)

-- leaves that come later leave the bytes of those before them
pub keeps : (more low : List Leaf) (p : ℕ) → p < size low → payload_at (more ++ low) p ≡ payload_at low p
keeps [] low p h = refl
keeps (l ∷ more) low p h =
    below_place l (more ++ low) p (omega (arith, grows more low, size_le_place (size (more ++ low)) l.align, h)) ∙ keeps more low p h

-- ---- two payloads that agree as far as the first goes

pub record Agree (f g : List Leaf) : Type 0 where
  pub at : (p : ℕ) → p < size f → payload_at f p ≡ payload_at g p

-- the byte of a leaf, whatever stands over it
pub leaf_byte : (w a j : ℕ) (low f : List Leaf) → j < w → SplitLeaves (whole w a ∷ low) f
    → (payload_at f (place (whole w a) low + j) ≡ byte_at j a) × (place (whole w a) low + j < size f)
leaf_byte w a j low f h over =
    let p = place (whole w a) low + j in
    let inside : p < size (whole w a ∷ low) = omega (arith, h) in
    let same = ap (λ (ls : List Leaf). payload_at ls p) over.is in
    let longer : size (whole w a ∷ low) ≤ size f = subst (λ (ls : List Leaf). size (whole w a ∷ low) ≤ size ls) (sym over.is) (grows over.more (whole w a ∷ low)) in
    (same ∙ keeps over.more (whole w a ∷ low) p inside ∙ at_place (whole w a) low p j h refl, omega (arith, inside, longer))

pub bytes_equal : (w a b : ℕ) (low f g : List Leaf) → SplitLeaves (whole w a ∷ low) f → SplitLeaves (whole w b ∷ low) g → Agree f g → (j : ℕ) → j < w → byte_at j a ≡ byte_at j b
bytes_equal w a b low f g over_f over_g agree j h =
    let (left, inside) = leaf_byte w a j low f h over_f in
    let (right, also_inside) = leaf_byte w b j low g h over_g in
    sym left ∙ agree.at (place (whole w a) low + j) inside ∙ right

same_2 : (a b : ℕ) → a < 2 ^ 16 → b < 2 ^ 16 → byte_at 0 a ≡ byte_at 0 b → byte_at 1 a ≡ byte_at 1 b → a ≡ b
same_2 a b la lb e f =
    let same : to_le_bytes w16 a ≡ to_le_bytes w16 b = cc in
    sym (from_le_bytes-to_le_bytes_2 a la) ∙ ap (from_le_bytes w16) same ∙ from_le_bytes-to_le_bytes_2 b lb

same_4 : (a b : ℕ) → a < 2 ^ 32 → b < 2 ^ 32 → byte_at 0 a ≡ byte_at 0 b → byte_at 1 a ≡ byte_at 1 b → byte_at 2 a ≡ byte_at 2 b → byte_at 3 a ≡ byte_at 3 b → a ≡ b
same_4 a b la lb e f g h =
    let same : to_le_bytes w32 a ≡ to_le_bytes w32 b = cc in
    sym (from_le_bytes-to_le_bytes_4 a la) ∙ ap (from_le_bytes w32) same ∙ from_le_bytes-to_le_bytes_4 b lb

same_8 : (a b : ℕ) → a < 2 ^ 64 → b < 2 ^ 64 → byte_at 0 a ≡ byte_at 0 b → byte_at 1 a ≡ byte_at 1 b → byte_at 2 a ≡ byte_at 2 b → byte_at 3 a ≡ byte_at 3 b
    → byte_at 4 a ≡ byte_at 4 b → byte_at 5 a ≡ byte_at 5 b → byte_at 6 a ≡ byte_at 6 b → byte_at 7 a ≡ byte_at 7 b → a ≡ b
same_8 a b la lb e f g h i j k l =
    let same : to_le_bytes w64 a ≡ to_le_bytes w64 b = cc in
    sym (from_le_bytes-to_le_bytes_8 a la) ∙ ap (from_le_bytes w64) same ∙ from_le_bytes-to_le_bytes_8 b lb

-- numbers below 2 ^ (8 * w) with equal bytes
pub same_number : (w : ℕ) → IsAlign w → (a b : ℕ) → a < 2 ^ (8 * w) → b < 2 ^ (8 * w) → ((j : ℕ) → j < w → byte_at j a ≡ byte_at j b) → a ≡ b
same_number w (inl e) a b la lb h =
    let P : ℕ → Type 0 = λ v. a < 2 ^ (8 * v) → b < 2 ^ (8 * v) → ((j : ℕ) → j < v → byte_at j a ≡ byte_at j b) → a ≡ b in
    subst P (sym e) (λ la lb h. omega (arith, la, lb, h 0 (omega arith))) la lb h
same_number w (inr (inl e)) a b la lb h =
    let P : ℕ → Type 0 = λ v. a < 2 ^ (8 * v) → b < 2 ^ (8 * v) → ((j : ℕ) → j < v → byte_at j a ≡ byte_at j b) → a ≡ b in
    subst P (sym e) (λ la lb h. same_2 a b la lb (h 0 (omega arith)) (h 1 (omega arith))) la lb h
same_number w (inr (inr (inl e))) a b la lb h =
    let P : ℕ → Type 0 = λ v. a < 2 ^ (8 * v) → b < 2 ^ (8 * v) → ((j : ℕ) → j < v → byte_at j a ≡ byte_at j b) → a ≡ b in
    subst P (sym e) (λ la lb h. same_4 a b la lb (h 0 (omega arith)) (h 1 (omega arith)) (h 2 (omega arith)) (h 3 (omega arith))) la lb h
same_number w (inr (inr (inr e))) a b la lb h =
    let P : ℕ → Type 0 = λ v. a < 2 ^ (8 * v) → b < 2 ^ (8 * v) → ((j : ℕ) → j < v → byte_at j a ≡ byte_at j b) → a ≡ b in
    subst P (sym e) (λ la lb h. same_8 a b la lb (h 0 (omega arith)) (h 1 (omega arith)) (h 2 (omega arith)) (h 3 (omega arith)) (h 4 (omega arith)) (h 5 (omega arith)) (h 6 (omega arith)) (h 7 (omega arith))) la lb h

-- ---- values

-- a scalar's numbers are told apart by their bits
pub scalar_room : (s : Scalar) → least_above s + how_many_below s ≤ 2 ^ (8 * scalar_size s)
scalar_room Uint8 = lit≤ tt
scalar_room Int8 = lit≤ tt
scalar_room BoolType = lit≤ tt
scalar_room Char = lit≤ tt
scalar_room Uint16 = lit≤ tt
scalar_room Int16 = lit≤ tt
scalar_room Uint32 = lit≤ tt
scalar_room Int32 = lit≤ tt
scalar_room Iref = lit≤ tt
scalar_room Uint64 = lit≤ tt
scalar_room Int64 = lit≤ tt
scalar_room Uintptr = lit≤ tt
scalar_room Intptr = lit≤ tt
scalar_room Size = lit≤ tt
scalar_room Errval = lit≤ tt

-- the numbers from 0 to below high, and the low ones below 0
abbrev pub InRange : ℕ → ℕ → ℤ → Type 0
InRange high low (pos n) = n < high
InRange high low (negsuc n) = n < low

pub bits_told : (width high low : ℕ) → high + low ≤ 2 ^ (8 * width) → (x y : ℤ) → InRange high low x → InRange high low y → bits_of width x ≡ bits_of width y → x ≡ y
bits_told width high low room (pos n) (pos m) hx hy e = ap pos e
bits_told width high low room (negsuc n) (negsuc m) hx hy e = ap negsuc (omega (arith, room, hx, hy, e))
bits_told width high low room (pos n) (negsuc m) hx hy e = absurd (omega (arith, room, hx, hy, e))
bits_told width high low room (negsuc n) (pos m) hx hy e = absurd (omega (arith, room, hx, hy, e))

pub bits_below : (width high low : ℕ) → high + low ≤ 2 ^ (8 * width) → (x : ℤ) → InRange high low x → bits_of width x < 2 ^ (8 * width)
bits_below width high low room (pos n) h = omega (arith, room, h)
bits_below width high low room (negsuc n) h = omega (arith, room, h)

pub scalar_range : (s : Scalar) (x : ℤ) → is_scalar_value s x ≡ true → InRange (least_above s) (how_many_below s) x
scalar_range s (pos n) h = ltb-true n (least_above s) h
scalar_range s (negsuc n) h = ltb-true n (how_many_below s) h

pub enum_range : (n : ℕ) (x : ℤ) → is_enumerator n x ≡ true → InRange n 0 x
enum_range n (pos k) h = ltb-true k n h
enum_range n (negsuc k) h = absurd (false≢true h)

-- numbers of one kind whose leaves agree
pub number_told : (w high below : ℕ) → IsAlign w → high + below ≤ 2 ^ (8 * w) → (x y : ℤ) → InRange high below x → InRange high below y → (low f g : List Leaf)
    → SplitLeaves (whole w (bits_of w x) ∷ low) f → SplitLeaves (whole w (bits_of w y) ∷ low) g → Agree f g → x ≡ y
number_told w high below align room x y hx hy low f g over_f over_g agree =
    bits_told w high below room x y hx hy
    (same_number w align (bits_of w x) (bits_of w y) (bits_below w high below room x hx) (bits_below w high below room y hy)
    (bytes_equal w (bits_of w x) (bits_of w y) low f g over_f over_g agree))

mutual
  value_told : (t : TheType) (x y : Datum) → words_fit t ≡ true → has_type t x ≡ true → has_type t y ≡ true → (low f g : List Leaf)
      → SplitLeaves (value_onto t x low) f → SplitLeaves (value_onto t y low) g → Agree f g → x ≡ y
  value_told (scalar s) (number x) (number y) w hx hy low f g over_f over_g agree =
      ap number (number_told (scalar_size s) (least_above s) (how_many_below s) (scalar_align s) (scalar_room s) x y (scalar_range s x hx) (scalar_range s y hy) low f g over_f over_g agree)
  value_told (enumeration n) (number x) (number y) w hx hy low f g over_f over_g agree =
      ap number (number_told 4 n 0 (inr (inr (inl refl))) (omega (arith, leb-true n (2 ^ 32) w)) x y (enum_range n x hx) (enum_range n y hy) low f g over_f over_g agree)
  value_told (structure ts) (fields xs) (fields ys) w hx hy low f g over_f over_g agree =
      let start = gap (greatest_align ts) in
      ap fields (fields_told ts xs ys w hx hy (start ∷ low) f g
      (over_over _ _ _ (over_one start (fields_onto ts xs (start ∷ low))) over_f)
      (over_over _ _ _ (over_one start (fields_onto ts ys (start ∷ low))) over_g) agree)
  value_told (array n t) (elements xs) (elements ys) w hx hy low f g over_f over_g agree =
      let same : count_of xs ≡ count_of ys = eqb-true (count_of xs) n (first_so _ _ hx) ∙ sym (eqb-true (count_of ys) n (first_so _ _ hy)) in
      ap elements (elements_told t xs ys w same (second_so _ _ hx) (second_so _ _ hy) low f g over_f over_g agree)
  value_told t x y w hx hy low f g over_f over_g agree = cc

  fields_told : (ts : TheTypes) (xs ys : Data) → all_words_fit ts ≡ true → have_types ts xs ≡ true → have_types ts ys ≡ true → (low f g : List Leaf)
      → SplitLeaves (fields_onto ts xs low) f → SplitLeaves (fields_onto ts ys low) g → Agree f g → xs ≡ ys
  fields_told no_more nothing_more nothing_more w hx hy low f g over_f over_g agree = refl
  fields_told (field t ts) (also x xs) (also y ys) w hx hy low f g over_f over_g agree =
      let one : x ≡ y = value_told t x y (first_so _ _ w) (first_so _ _ hx) (first_so _ _ hy) low f g
      (over_over _ _ _ (over_fields ts xs (value_onto t x low)) over_f) (over_over _ _ _ (over_fields ts ys (value_onto t y low)) over_g) agree in
      let rest : xs ≡ ys = fields_told ts xs ys (second_so _ _ w) (second_so _ _ hx) (second_so _ _ hy) (value_onto t x low) f g
      over_f (subst (λ (d : Datum). SplitLeaves (fields_onto ts ys (value_onto t d low)) g) (sym one) over_g) agree in
      cc
  fields_told ts xs ys w hx hy low f g over_f over_g agree = cc

  elements_told : (t : TheType) (xs ys : Data) → words_fit t ≡ true → count_of xs ≡ count_of ys → all_have_type t xs ≡ true → all_have_type t ys ≡ true → (low f g : List Leaf)
      → SplitLeaves (elements_onto t xs low) f → SplitLeaves (elements_onto t ys low) g → Agree f g → xs ≡ ys
  elements_told t nothing_more nothing_more w same hx hy low f g over_f over_g agree = refl
  elements_told t (also x xs) (also y ys) w same hx hy low f g over_f over_g agree =
      let one : x ≡ y = value_told t x y w (first_so _ _ hx) (first_so _ _ hy) low f g
      (over_over _ _ _ (over_elements t xs (value_onto t x low)) over_f) (over_over _ _ _ (over_elements t ys (value_onto t y low)) over_g) agree in
      let rest : xs ≡ ys = elements_told t xs ys w (omega (arith, same)) (second_so _ _ hx) (second_so _ _ hy) (value_onto t x low) f g
      over_f (subst (λ (d : Datum). SplitLeaves (elements_onto t ys (value_onto t d low)) g) (sym one) over_g) agree in
      cc
  elements_told t nothing_more (also y ys) w same hx hy low f g over_f over_g agree = absurd (omega (arith, same))
  elements_told t (also x xs) nothing_more w same hx hy low f g over_f over_g agree = absurd (omega (arith, same))

bytes_told : (xs ys : List ℕ) → length xs ≡ length ys → list_all is_text_byte xs ≡ true → list_all is_text_byte ys ≡ true → (low f g : List Leaf)
    → SplitLeaves (bytes_onto xs low) f → SplitLeaves (bytes_onto ys low) g → Agree f g → xs ≡ ys
bytes_told [] [] same hx hy low f g over_f over_g agree = refl
bytes_told [] (y ∷ ys) same hx hy low f g over_f over_g agree = absurd (omega (arith, same))
bytes_told (x ∷ xs) [] same hx hy low f g over_f over_g agree = absurd (omega (arith, same))
bytes_told (x ∷ xs) (y ∷ ys) same hx hy low f g over_f over_g agree =
    let byte_x : x < 2 ^ (8 * 1) = ltb-true x 256 (second_so _ _ (first_so (is_text_byte x) _ hx)) in
    let byte_y : y < 2 ^ (8 * 1) = ltb-true y 256 (second_so _ _ (first_so (is_text_byte y) _ hy)) in
    let one : x ≡ y = same_number 1 (inl refl) x y byte_x byte_y (bytes_equal 1 x y low f g
    (over_over _ _ _ (over_bytes xs (single x ∷ low)) over_f) (over_over _ _ _ (over_bytes ys (single y ∷ low)) over_g) agree) in
    let rest : xs ≡ ys = bytes_told xs ys (omega (arith, same)) (second_so _ _ hx) (second_so _ _ hy) (single x ∷ low) f g
    over_f (subst (λ (b : ℕ). SplitLeaves (bytes_onto ys (single b ∷ low)) g) (sym one) over_g) agree in
    cc

length_told : (a b : ℕ) → a ≤ 2 ^ 32 → b ≤ 2 ^ 32 → (low f g : List Leaf) → SplitLeaves (whole 8 a ∷ low) f → SplitLeaves (whole 8 b ∷ low) g → Agree f g → a ≡ b
length_told a b ha hb low f g over_f over_g agree =
    same_number 8 (inr (inr (inr refl))) a b (omega (arith, ha)) (omega (arith, hb)) (bytes_equal 8 a b low f g over_f over_g agree)

argument_told : (t : TheArgType) (x y : Datum) → argument_words_fit t ≡ true → is_argument t x ≡ true → is_argument t y ≡ true → (low f g : List Leaf)
    → SplitLeaves (argument_onto t x low) f → SplitLeaves (argument_onto t y low) g → Agree f g → x ≡ y
argument_told (fixed t) x y w hx hy low f g over_f over_g agree = value_told t x y w hx hy low f g over_f over_g agree
argument_told (text max) (string xs) (string ys) w hx hy low f g over_f over_g agree =
    let bound = leb-true max (2 ^ 32) w in
    let same : length xs ≡ length ys = length_told (length xs) (length ys) (omega (arith, bound, leb-true (length xs) max (first_so _ _ hx))) (omega (arith, bound, leb-true (length ys) max (first_so _ _ hy))) low f g
    (over_over _ _ _ (over_bytes xs (whole 8 (length xs) ∷ low)) over_f) (over_over _ _ _ (over_bytes ys (whole 8 (length ys) ∷ low)) over_g) agree in
    ap string (bytes_told xs ys same (second_so _ _ hx) (second_so _ _ hy) (whole 8 (length xs) ∷ low) f g
    over_f (subst (λ (n : ℕ). SplitLeaves (bytes_onto ys (whole 8 n ∷ low)) g) (sym same) over_g) agree)
argument_told (sized max t) (elements xs) (elements ys) w hx hy low f g over_f over_g agree =
    let bound = leb-true max (2 ^ 32) (first_so _ _ w) in
    let same : count_of xs ≡ count_of ys = length_told (count_of xs) (count_of ys) (omega (arith, bound, leb-true (count_of xs) max (first_so _ _ hx))) (omega (arith, bound, leb-true (count_of ys) max (first_so _ _ hy))) low f g
    (over_over _ _ _ (over_elements t xs (whole 8 (count_of xs) ∷ low)) over_f) (over_over _ _ _ (over_elements t ys (whole 8 (count_of ys) ∷ low)) over_g) agree in
    ap elements (elements_told t xs ys (second_so _ _ w) same (second_so _ _ hx) (second_so _ _ hy) (whole 8 (count_of xs) ∷ low) f g
    over_f (subst (λ (n : ℕ). SplitLeaves (elements_onto t ys (whole 8 n ∷ low)) g) (sym same) over_g) agree)
argument_told t x y w hx hy low f g over_f over_g agree = cc

-- ---- arguments

abbrev pub words_of : List Argument → Bool
words_of args = list_all (λ (a : Argument). argument_words_fit a.0) args

pub arguments_told : (v : Bool) (xs ys : List Argument) → firsts xs ≡ firsts ys → words_of xs ≡ true → fitting xs ≡ true → fitting ys ≡ true → (low f g : List Leaf)
    → SplitLeaves (arguments_onto v xs low) f → SplitLeaves (arguments_onto v ys low) g → Agree f g → xs ≡ ys
arguments_told v [] [] same w hx hy low f g over_f over_g agree = refl
arguments_told v [] (y ∷ ys) same w hx hy low f g over_f over_g agree = cc
arguments_told v (x ∷ xs) [] same w hx hy low f g over_f over_g agree = cc
arguments_told v ((t, x) ∷ xs) ((s, y) ∷ ys) same w hx hy low f g over_f over_g agree =
    let e : s ≡ t = cc in
    let tails : firsts xs ≡ firsts ys = cc in
    let P : TheArgType → Type 0 = λ u. is_argument u y ≡ true → SplitLeaves (arguments_onto (is_dynamic u) ys (argument_onto u y (start_onto v low))) g → (t, x) ∷ xs ≡ (u, y) ∷ ys in
    subst P (sym e) (λ (fit_y : is_argument t y ≡ true) (over : SplitLeaves (arguments_onto (is_dynamic t) ys (argument_onto t y (start_onto v low))) g).
    let one : x ≡ y = argument_told t x y (first_so _ _ w) (first_so _ _ hx) fit_y (start_onto v low) f g
    (over_over _ _ _ (over_arguments (is_dynamic t) xs (argument_onto t x (start_onto v low))) over_f)
    (over_over _ _ _ (over_arguments (is_dynamic t) ys (argument_onto t y (start_onto v low))) over) agree in
    let rest : xs ≡ ys = arguments_told (is_dynamic t) xs ys tails (second_so _ _ w) (second_so _ _ hx) (second_so _ _ hy) (argument_onto t x (start_onto v low)) f g
    over_f (subst (λ (d : Datum). SplitLeaves (arguments_onto (is_dynamic t) ys (argument_onto t d (start_onto v low))) g) (sym one) over) agree in
    cc) (first_so _ _ hy) over_g

-- ---- the plan's order of arguments

pub fit_zip : (ts : List TheArgType) (ds : List Datum) → are_arguments ts ds ≡ true → fitting (zip ts ds) ≡ true
fit_zip [] ds h = refl
fit_zip (t ∷ ts) [] h = refl
fit_zip (t ∷ ts) (d ∷ ds) h = rw (first_so (is_argument t d) _ h) (fit_zip ts ds (second_so (is_argument t d) _ h))

words_zip : (ts : List TheArgType) (ds : List Datum) → list_all argument_words_fit ts ≡ true → words_of (zip ts ds) ≡ true
words_zip [] ds h = refl
words_zip (t ∷ ts) [] h = refl
words_zip (t ∷ ts) (d ∷ ds) h = rw (first_so (argument_words_fit t) _ h) (words_zip ts ds (second_so (argument_words_fit t) _ h))

-- what holds of all holds of a rank, and of all ranks
all_rank : (p : Argument → Bool) (plan : PlanNo) (k : ℕ) (args : List Argument) → list_all p args ≡ true → list_all p (of_rank kind plan k args) ≡ true
all_rank p plan k [] h = refl
all_rank p plan k (a ∷ args) h =
    let one = first_so (p a) _ h in
    let rest = all_rank p plan k args (second_so (p a) _ h) in
    elim (eqb (rank_of plan a.0) k) as (λ v. list_all p (cond v (a ∷ of_rank kind plan k args) (of_rank kind plan k args)) ≡ true) [ true ↦ rw one rest | false ↦ rest ]

all_joined : (p : Argument → Bool) (xs ys : List Argument) → list_all p xs ≡ true → list_all p ys ≡ true → list_all p (xs ++ ys) ≡ true
all_joined p [] ys hx hy = hy
all_joined p (x ∷ xs) ys hx hy = rw (first_so (p x) _ hx) (all_joined p xs ys (second_so (p x) _ hx) hy)

pub all_ranks : (p : Argument → Bool) (plan : PlanNo) (n k : ℕ) (args : List Argument) → list_all p args ≡ true → list_all p (of_ranks kind plan n k args) ≡ true
all_ranks p plan zero k args h = refl
all_ranks p plan (suc n) k args h = all_joined p (of_rank kind plan k args) (of_ranks kind plan n (k + 1) args) (all_rank p plan k args h) (all_ranks p plan n (k + 1) args h)

-- the types of a rank are told by the types alone
types_rank : (plan : PlanNo) (k : ℕ) (ts : List TheArgType) (ds : List Datum) → are_arguments ts ds ≡ true
    → firsts (of_rank kind plan k (zip ts ds)) ≡ filter (λ (t : TheArgType). eqb (rank_of plan t) k) ts
types_rank plan k [] ds h = refl
types_rank plan k (t ∷ ts) [] h = absurd (false≢true h)
types_rank plan k (t ∷ ts) (d ∷ ds) h =
    let rest = types_rank plan k ts ds (second_so (is_argument t d) _ h) in
    elim (eqb (rank_of plan t) k) as (λ v. firsts (cond v ((t, d) ∷ of_rank kind plan k (zip ts ds)) (of_rank kind plan k (zip ts ds)))
    ≡ cond v (t ∷ filter (λ (u : TheArgType). eqb (rank_of plan u) k) ts) (filter (λ (u : TheArgType). eqb (rank_of plan u) k) ts)) [
      | true ↦ ap (λ (us : List TheArgType). t ∷ us) rest
      | false ↦ rest
    ]

same_types_rank : (plan : PlanNo) (k : ℕ) (ts : List TheArgType) (xs ys : List Datum) → are_arguments ts xs ≡ true → are_arguments ts ys ≡ true
    → firsts (of_rank kind plan k (zip ts xs)) ≡ firsts (of_rank kind plan k (zip ts ys))
same_types_rank plan k ts xs ys hx hy = types_rank plan k ts xs hx ∙ sym (types_rank plan k ts ys hy)

same_types : (plan : PlanNo) (n k : ℕ) (ts : List TheArgType) (xs ys : List Datum) → are_arguments ts xs ≡ true → are_arguments ts ys ≡ true
    → firsts (of_ranks kind plan n k (zip ts xs)) ≡ firsts (of_ranks kind plan n k (zip ts ys))
same_types plan zero k ts xs ys hx hy = refl
same_types plan (suc n) k ts xs ys hx hy =
    let first = λ (a : Argument). a.0 in
    map-append first (of_rank kind plan k (zip ts xs)) (of_ranks kind plan n (k + 1) (zip ts xs))
    ∙ ap (λ (us : List TheArgType). us ++ firsts (of_ranks kind plan n (k + 1) (zip ts xs))) (same_types_rank plan k ts xs ys hx hy)
    ∙ ap (λ (us : List TheArgType). firsts (of_rank kind plan k (zip ts ys)) ++ us) (same_types plan n (k + 1) ts xs ys hx hy)
    ∙ sym (map-append first (of_rank kind plan k (zip ts ys)) (of_ranks kind plan n (k + 1) (zip ts ys)))

-- two joins with prefixes of one length
split_same : {A : Type 0} (a b c d : List A) → length a ≡ length b → a ++ c ≡ b ++ d → (a ≡ b) × (c ≡ d)
split_same [] [] c d long e = (refl, e)
split_same [] (y ∷ b) c d long e = absurd (omega (arith, long))
split_same (x ∷ a) [] c d long e = absurd (omega (arith, long))
split_same (x ∷ a) (y ∷ b) c d long e =
    let tails : a ++ c ≡ b ++ d = cc in
    let heads : x ≡ y = cc in
    let (same, rest) = split_same a b c d (omega (arith, long)) tails in
    (cc, rest)

ranks_told : (plan : PlanNo) (n k j : ℕ) (ts : List TheArgType) (xs ys : List Datum) → are_arguments ts xs ≡ true → are_arguments ts ys ≡ true
    → of_ranks kind plan n k (zip ts xs) ≡ of_ranks kind plan n k (zip ts ys) → k ≤ j → j < k + n → of_rank kind plan j (zip ts xs) ≡ of_rank kind plan j (zip ts ys)
ranks_told plan zero k j ts xs ys hx hy e low high = absurd (omega (arith, low, high))
ranks_told plan (suc n) k j ts xs ys hx hy e low high =
    let first = λ (a : Argument). a.0 in
    let types = same_types_rank plan k ts xs ys hx hy in
    let long : length (of_rank kind plan k (zip ts xs)) ≡ length (of_rank kind plan k (zip ts ys))
    = sym (length-map (of_rank kind plan k (zip ts xs)) first) ∙ ap length types ∙ length-map (of_rank kind plan k (zip ts ys)) first in
    let parts = split_same (of_rank kind plan k (zip ts xs)) (of_rank kind plan k (zip ts ys)) (of_ranks kind plan n (k + 1) (zip ts xs)) (of_ranks kind plan n (k + 1) (zip ts ys)) long e in
    ⊎_elim
    (λ (past : k < j). ranks_told plan n (k + 1) j ts xs ys hx hy parts.1 (omega (arith, past)) (omega (arith, high)))
    (λ (here : j ≤ k). let same : k ≡ j = omega (arith, low, here) in
    subst (λ (m : ℕ). of_rank kind plan m (zip ts xs) ≡ of_rank kind plan m (zip ts ys)) same parts.0)
    (cases_lt k j)

pub rank_small : (plan : PlanNo) (t : TheArgType) → rank_of plan t < 5
rank_small One t = omega arith
rank_small Two (fixed t) = by_align (λ (n : ℕ). fixed_rank n < 5) (omega arith) (omega arith) (omega arith) (omega arith) (align_of t) (type_align t)
rank_small Two (text m) = omega arith
rank_small Two (sized m t) = omega arith

head_same : (a b : Argument) (xs ys : List Argument) → a ∷ xs ≡ b ∷ ys → a ≡ b
head_same a b xs ys e = cc

cons_same : (x y : Datum) (xs ys : List Datum) → x ≡ y → xs ≡ ys → x ∷ xs ≡ y ∷ ys
cons_same x y xs ys e f = cc

tail_rank : (v : Bool) (a b : Argument) (xs ys : List Argument) → cond v (a ∷ xs) xs ≡ cond v (b ∷ ys) ys → xs ≡ ys
tail_rank true a b xs ys e = cc
tail_rank false a b xs ys e = e

-- values whose ranks are equal are equal
values_told : (plan : PlanNo) (ts : List TheArgType) (xs ys : List Datum) → are_arguments ts xs ≡ true → are_arguments ts ys ≡ true
    → ((k : ℕ) → k < 5 → of_rank kind plan k (zip ts xs) ≡ of_rank kind plan k (zip ts ys)) → xs ≡ ys
values_told plan [] [] [] hx hy h = refl
values_told plan [] [] (y ∷ ys) hx hy h = absurd (false≢true hy)
values_told plan [] (x ∷ xs) ys hx hy h = absurd (false≢true hx)
values_told plan (t ∷ ts) [] ys hx hy h = absurd (false≢true hx)
values_told plan (t ∷ ts) (x ∷ xs) [] hx hy h = absurd (false≢true hy)
values_told plan (t ∷ ts) (x ∷ xs) (y ∷ ys) hx hy h =
    let own : (t, x) ∷ of_rank kind plan (rank_of plan t) (zip ts xs) ≡ (t, y) ∷ of_rank kind plan (rank_of plan t) (zip ts ys)
    = subst (λ (v : Bool). cond v ((t, x) ∷ of_rank kind plan (rank_of plan t) (zip ts xs)) (of_rank kind plan (rank_of plan t) (zip ts xs))
    ≡ cond v ((t, y) ∷ of_rank kind plan (rank_of plan t) (zip ts ys)) (of_rank kind plan (rank_of plan t) (zip ts ys)))
    (eq-eqb (rank_of plan t) (rank_of plan t) refl) (h (rank_of plan t) (rank_small plan t)) in
    let one : x ≡ y = ap (λ (a : Argument). a.1) (head_same (t, x) (t, y) (of_rank kind plan (rank_of plan t) (zip ts xs)) (of_rank kind plan (rank_of plan t) (zip ts ys)) own) in
    let rest : xs ≡ ys = values_told plan ts xs ys (second_so (is_argument t x) _ hx) (second_so (is_argument t y) _ hy)
    (λ k small. tail_rank (eqb (rank_of plan t) k) (t, x) (t, y) (of_rank kind plan k (zip ts xs)) (of_rank kind plan k (zip ts ys)) (h k small)) in
    cons_same x y xs ys one rest

-- fitting arguments whose payloads agree
pub values_agree : (plan : PlanNo) (ts : List TheArgType) (xs ys : List Datum) → list_all argument_words_fit ts ≡ true → are_arguments ts xs ≡ true → are_arguments ts ys ≡ true
    → Agree (arguments_onto false (of_ranks kind plan 5 0 (zip ts xs)) []) (arguments_onto false (of_ranks kind plan 5 0 (zip ts ys)) []) → xs ≡ ys
values_agree plan ts xs ys w hx hy agree =
    let args : List Datum → List Argument = λ ds. of_ranks kind plan 5 0 (zip ts ds) in
    let fit = λ (a : Argument). is_argument a.0 a.1 in
    let same : args xs ≡ args ys = arguments_told false (args xs) (args ys) (same_types plan 5 0 ts xs ys hx hy)
    (all_ranks (λ (a : Argument). argument_words_fit a.0) plan 5 0 (zip ts xs) (words_zip ts xs w))
    (all_ranks fit plan 5 0 (zip ts xs) (fit_zip ts xs hx)) (all_ranks fit plan 5 0 (zip ts ys) (fit_zip ts ys hy))
    [] _ _ (over_self _) (over_self _) agree in
    values_told plan ts xs ys hx hy (λ k small. ranks_told plan 5 0 k ts xs ys hx hy same (omega arith) (omega (arith, small)))
