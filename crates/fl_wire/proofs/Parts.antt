-- What each type's values begin with.
use Rattle.std.proofs.Common.{◌≡◌, ℕ, ℤ, pos, negsuc, suc, ◌+◌, ◌-◌, ◌*◌, ◌^◌, ◌<◌, ◌≤◌, true, inr, ⊎_elim, List, [], ◌∷◌, ◌++◌, map, length, drop, get_or, refl, sym, ◌∙◌, ap, subst, arith, append_assoc}
use Rattle.std.proofs.lemmas.List.{map-append, append-nil, drop_more, drop_all}
use Rattle.std.specs.List.{list_all}
use Rattle.std.specs.Cmp.{first_so, second_so}
use Rattle.std.proofs.lemmas.Bool.{cases_lt, lt-ltb, ltb-true, le-leb, leb-true, eqb-true, false≢true}
use Rattle.std.proofs.Common.{eq-eqb}
use Rattle.fl_base.specs.declared.fragment.Frag.{Frag}
use Rattle.fl_interface.specs.declared.interface.Scalar.{Scalar}
use Rattle.fl_interface.specs.declared.interface.Scalar.TheVariants.{Uint8, Int8, Bool as BoolType, Char, Uint16, Int16, Uint32, Int32, Iref, Uint64, Int64, Uintptr, Intptr, Size, Errval}
use Rattle.fl_interface.specs.Interface.{TheType, scalar, enumeration, structure, array, TheTypes, no_more, field, fixed, text, sized, fields_from}
use Rattle.fl_interface.specs.Sizes.{scalar_size, greatest_align}
use Rattle.fl_value_data.specs.Value.{Datum, number, string, elements, fields, Data, nothing_more, also, data_from}
use Rattle.fl_value_data.specs.Fits.{has_type, have_types, all_have_type, count_of, is_argument, is_scalar_value, least_above, how_many_below, is_text_byte}
use Rattle.fl_layout.specs.Leaves.{Leaf, gap, whole, bits_of, fields_onto, elements_onto, bytes_onto}
use Rattle.fl_layout.specs.Places.{size, place}
use Rattle.fl_wire.specs.Alive.{has_values, all_have_values}
use Rattle.fl_wire.specs.Standing.{SplitLeaves, number_back}
use Rattle.fl_wire.specs.Shapes.{Agrees, Shape, nothing, padding, number_below, length_below, values_of, fields_of, struct_from, elements_of, text_byte, texts_of, arguments_of, Got, ReadAt, StopsAt}
use Rattle.fl_wire.specs.declared.leaf.CallReadFault.{CallReadFault}
use Rattle.fl_wire.proofs.Agreement.{over_self, over_one, over_over, over_fields, over_elements, over_bytes, InRange, scalar_range}
use Rattle.fl_wire.proofs.Decoding.{number_told, back_from, back_low, back_high}
pub use Rattle.fl_wire.proofs.Defaults.{both}
use Rattle.fl_wire.proofs.Defaults.{numbers_some, default_fields, default_elements, default_text}
use Rattle.fl_wire.proofs.Covers.{holds_past}
use Rattle.fl_wire.proofs.Steps.{Begins, begin_got, goes_got, Come, come_self, come_read, come_join, come_stop, come_done}
use Rattle.fl_wire.proofs.Sites.{nothing_got}

-- a thing that is one of another kind, and nothing more
pub whole_got : (x a : Shape) (frags : List Frag) (low : List Leaf) (join : (b : a.what) → Unit {0} → x.what) (b : a.what) (end : ℕ)
    → Begins x a (λ c. nothing) low join → size low ≤ end → end ≤ 56 * length frags → Got a frags low b end → Got x frags low (join b tt) end
whole_got x a frags low join b end begins later within got =
    let goes = begin_got x a (λ c. nothing) frags low join b end begins later within got in
    let last : Got nothing frags (a.onto b low) tt end
    = subst (λ (n : ℕ). Got nothing frags (a.onto b low) tt n) got.ends (nothing_got frags (a.onto b low) (subst (λ (n : ℕ). Agrees frags (a.onto b low) n) (sym got.ends) got.agree)) in
    goes_got x nothing frags low (a.onto b low) (join b) tt end goes (omega (arith, got.ends)) last

-- ---- scalars

-- how many numbers a scalar has
abbrev pub scalar_numbers : Scalar → ℕ
scalar_numbers s = least_above s + how_many_below s

abbrev pub scalar_join : (s : Scalar) → ℕ → Unit {0} → Datum
scalar_join s n u = number (number_back (fixed (scalar s)) n)

signed_back : (w half raw : ℕ) → 2 ^ (8 * w) ≡ 2 * half → raw < half + half → InRange half half (back_from half raw) × (bits_of w (back_from half raw) ≡ raw)
signed_back w half raw room h = ⊎_elim
    (λ (low : raw < half).
    let e = back_low half raw (inr low) in
    (subst (InRange half half) (sym e) low, ap (bits_of w) e))
    (λ (high : half ≤ raw).
    let m = half + half - 1 - raw in
    let small : m < half = omega (arith, high, h) in
    let e = back_high half m raw small (omega (arith, h)) in
    (subst (InRange half half) (sym e) small, ap (bits_of w) e ∙ omega (arith, room, h)))
    (cases_lt raw half)

scalar_back : (s : Scalar) (raw : ℕ) → raw < scalar_numbers s
    → InRange (least_above s) (how_many_below s) (number_back (fixed (scalar s)) raw) × (bits_of (scalar_size s) (number_back (fixed (scalar s)) raw) ≡ raw)
scalar_back Uint8 raw h = (h, refl)
scalar_back Int8 raw h = signed_back 1 128 raw refl h
scalar_back BoolType raw h = (h, refl)
scalar_back Char raw h = (h, refl)
scalar_back Uint16 raw h = (h, refl)
scalar_back Int16 raw h = signed_back 2 32768 raw refl h
scalar_back Uint32 raw h = (h, refl)
scalar_back Int32 raw h = signed_back 4 2147483648 raw refl h
scalar_back Iref raw h = (h, refl)
scalar_back Uint64 raw h = (h, refl)
scalar_back Int64 raw h = signed_back 8 9223372036854775808 raw refl h
scalar_back Uintptr raw h = (h, refl)
scalar_back Intptr raw h = signed_back 8 9223372036854775808 raw refl h
scalar_back Size raw h = (h, refl)
scalar_back Errval raw h = (h, refl)

in_range : (s : Scalar) (z : ℤ) → InRange (least_above s) (how_many_below s) z → is_scalar_value s z ≡ true
in_range s (pos n) h = lt-ltb n (least_above s) h
in_range s (negsuc n) h = lt-ltb n (how_many_below s) h

bits_numbers : (s : Scalar) (z : ℤ) → InRange (least_above s) (how_many_below s) z → bits_of (scalar_size s) z < scalar_numbers s
bits_numbers s (pos n) h = omega (arith, h)
bits_numbers s (negsuc n) h = signed_below s n h
  where
    signed_below : (s : Scalar) (n : ℕ) → n < how_many_below s → bits_of (scalar_size s) (negsuc n) < scalar_numbers s
    signed_below Int8 n h = omega (arith, h)
    signed_below Int16 n h = omega (arith, h)
    signed_below Int32 n h = omega (arith, h)
    signed_below Int64 n h = omega (arith, h)
    signed_below Intptr n h = omega (arith, h)
    signed_below Uint8 n h = absurd (omega (arith, h))
    signed_below BoolType n h = absurd (omega (arith, h))
    signed_below Char n h = absurd (omega (arith, h))
    signed_below Uint16 n h = absurd (omega (arith, h))
    signed_below Uint32 n h = absurd (omega (arith, h))
    signed_below Iref n h = absurd (omega (arith, h))
    signed_below Uint64 n h = absurd (omega (arith, h))
    signed_below Uintptr n h = absurd (omega (arith, h))
    signed_below Size n h = absurd (omega (arith, h))
    signed_below Errval n h = absurd (omega (arith, h))

pub begins_scalar : (s : Scalar) (low : List Leaf) → Begins (values_of (scalar s)) (number_below (scalar_size s) (scalar_numbers s)) (λ c. nothing) low (scalar_join s)
begins_scalar s low = record {
  split = λ d f. split_scalar s d f;
  fit = λ b e fb fe. in_range s _ (scalar_back s b fb).0;
  same = λ b e fb fe. ap (λ (n : ℕ). whole (scalar_size s) n ∷ low) (scalar_back s b fb).1;
  over = λ b e. over_self _;
  alive = λ some. numbers_some s;
  more = λ some b fb. (tt, tt);
  alive_more = λ some b fb. tt;
  lengths_first = λ b e fb fe n inside. refl;
  lengths_rest = λ b e fb fe n past. refl;
}
  where
    split_scalar : (s : Scalar) (d : Datum) → has_type (scalar s) d ≡ true → (b : ℕ) × ((b < scalar_numbers s) × ((e : Unit {0}) × ((d ≡ scalar_join s b e) × Unit {0})))
    split_scalar s (number z) f = (bits_of (scalar_size s) z, (bits_numbers s z (scalar_range s z f), (tt, (sym (number_told (fixed (scalar s)) (number z) refl f), tt))))
    split_scalar s (string b) f = absurd (false≢true f)
    split_scalar s (elements b) f = absurd (false≢true f)
    split_scalar s (fields b) f = absurd (false≢true f)

abbrev pub enumerator_join : ℕ → Unit {0} → Datum
enumerator_join n u = number (pos n)

pub begins_enumerator : (n : ℕ) (low : List Leaf) → Begins (values_of (enumeration n)) (number_below 4 n) (λ c. nothing) low enumerator_join
begins_enumerator n low = record {
  split = λ d f. split_enumerator n d f;
  fit = λ b e fb fe. lt-ltb b n fb;
  same = λ b e fb fe. refl;
  over = λ b e. over_self _;
  alive = λ some. ltb-true 0 n some;
  more = λ some b fb. (tt, tt);
  alive_more = λ some b fb. tt;
  lengths_first = λ b e fb fe n inside. refl;
  lengths_rest = λ b e fb fe n past. refl;
}
  where
    split_enumerator : (n : ℕ) (d : Datum) → has_type (enumeration n) d ≡ true → (b : ℕ) × ((b < n) × ((e : Unit {0}) × ((d ≡ enumerator_join b e) × Unit {0})))
    split_enumerator n (number (pos m)) f = (m, (ltb-true m n f, (tt, (refl, tt))))
    split_enumerator n (number (negsuc m)) f = absurd (false≢true f)
    split_enumerator n (string b) f = absurd (false≢true f)
    split_enumerator n (elements b) f = absurd (false≢true f)
    split_enumerator n (fields b) f = absurd (false≢true f)

-- ---- structs

pub begins_fields : (t : TheType) (ts : TheTypes) (low : List Leaf) → Begins (fields_of (field t ts)) (values_of t) (λ c. fields_of ts) low (λ d ds. also d ds)
begins_fields t ts low = record {
  split = λ ds f. split_fields t ts ds f;
  fit = λ b e fb fe. both _ _ fb fe;
  same = λ b e fb fe. refl;
  over = λ b e. over_fields ts e _;
  alive = λ some. first_so (has_values t) (all_have_values ts) some;
  more = λ some b fb. default_fields ts (second_so (has_values t) (all_have_values ts) some);
  alive_more = λ some b fb. second_so (has_values t) (all_have_values ts) some;
  lengths_first = λ b e fb fe n inside. refl;
  lengths_rest = λ b e fb fe n past. refl;
}
  where
    split_fields : (t : TheType) (ts : TheTypes) (ds : Data) → have_types (field t ts) ds ≡ true → (b : Datum) × ((has_type t b ≡ true) × ((e : Data) × ((ds ≡ also b e) × (have_types ts e ≡ true))))
    split_fields t ts nothing_more f = absurd (false≢true f)
    split_fields t ts (also d ds) f = (d, (first_so _ _ f, (ds, (refl, second_so _ _ f))))

pub no_fields_got : (frags : List Frag) (low : List Leaf) → Agrees frags low (size low) → Got (fields_of no_more) frags low nothing_more (size low)
no_fields_got frags low agree = record { fit = refl; ends = refl; agree = agree; told = λ e full f over agrees. none e f }
  where
    none : (e : Data) → have_types no_more e ≡ true → e ≡ nothing_more
    none nothing_more f = refl
    none (also d ds) f = absurd (false≢true f)

-- a struct begins with zeros, and its fields end with them
pub begins_struct : (ts : TheTypes) (low : List Leaf) → Begins (values_of (structure ts)) (padding (greatest_align ts)) (λ c. struct_from ts) low (λ u ds. fields ds)
begins_struct ts low = record {
  split = λ d f. split_struct ts d f;
  fit = λ b e fb fe. fe;
  same = λ b e fb fe. refl;
  over = λ b e. over_struct ts e _;
  alive = λ some. tt;
  more = λ some b fb. default_fields ts some;
  alive_more = λ some b fb. some;
  lengths_first = λ b e fb fe n inside. refl;
  lengths_rest = λ b e fb fe n past. refl;
}
  where
    split_struct : (ts : TheTypes) (d : Datum) → has_type (structure ts) d ≡ true → (b : Unit {0}) × (Unit {0} × ((e : Data) × ((d ≡ fields e) × (have_types ts e ≡ true))))
    split_struct ts (fields ds) f = (tt, (tt, (ds, (refl, f))))
    split_struct ts (number b) f = absurd (false≢true f)
    split_struct ts (string b) f = absurd (false≢true f)
    split_struct ts (elements b) f = absurd (false≢true f)

    over_struct : (ts : TheTypes) (ds : Data) (now : List Leaf) → SplitLeaves now (gap (greatest_align ts) ∷ fields_onto ts ds now)
    over_struct ts ds now = over_over _ _ _ (over_fields ts ds now) (over_one (gap (greatest_align ts)) _)

pub begins_end : (ts : TheTypes) (low : List Leaf) → Begins (struct_from ts) (fields_of ts) (λ c. padding (greatest_align ts)) low (λ ds u. ds)
begins_end ts low = record {
  split = λ d f. (d, (f, (tt, (refl, tt))));
  fit = λ b e fb fe. fb;
  same = λ b e fb fe. refl;
  over = λ b e. over_one _ _;
  alive = λ some. some;
  more = λ some b fb. (tt, tt);
  alive_more = λ some b fb. tt;
  lengths_first = λ b e fb fe n inside. refl;
  lengths_rest = λ b e fb fe n past. refl;
}

-- ---- arrays

pub begins_elements : (n : ℕ) (t : TheType) (low : List Leaf) → Begins (elements_of (suc n) t) (values_of t) (λ c. elements_of n t) low (λ d ds. also d ds)
begins_elements n t low = record {
  split = λ ds f. split_elements n t ds f;
  fit = λ b e fb fe. (omega (arith, fe.0), both _ _ fb fe.1);
  same = λ b e fb fe. refl;
  over = λ b e. over_elements t e _;
  alive = λ some. some;
  more = λ some b fb. default_elements n t some;
  alive_more = λ some b fb. some;
  lengths_first = λ b e fb fe n inside. refl;
  lengths_rest = λ b e fb fe n past. refl;
}
  where
    split_elements : (n : ℕ) (t : TheType) (ds : Data) → (count_of ds ≡ suc n) × (all_have_type t ds ≡ true)
        → (b : Datum) × ((has_type t b ≡ true) × ((e : Data) × ((ds ≡ also b e) × ((count_of e ≡ n) × (all_have_type t e ≡ true)))))
    split_elements n t nothing_more f = absurd (omega (arith, f.0))
    split_elements n t (also d ds) f = (d, (first_so _ _ f.1, (ds, (refl, (omega (arith, f.0), second_so _ _ f.1)))))

pub no_elements_got : (t : TheType) (frags : List Frag) (low : List Leaf) → Agrees frags low (size low) → Got (elements_of 0 t) frags low nothing_more (size low)
no_elements_got t frags low agree = record { fit = (refl, refl); ends = refl; agree = agree; told = λ e full f over agrees. none e f.0 }
  where
    none : (e : Data) → count_of e ≡ 0 → e ≡ nothing_more
    none nothing_more f = refl
    none (also d ds) f = absurd (omega (arith, f))

pub begins_array : (n : ℕ) (t : TheType) (low : List Leaf) → Begins (values_of (array n t)) (elements_of n t) (λ c. nothing) low (λ ds u. elements ds)
begins_array n t low = record {
  split = λ d f. split_array n t d f;
  fit = λ b e fb fe. both _ _ (eq-eqb (count_of b) n fb.0) fb.1;
  same = λ b e fb fe. refl;
  over = λ b e. over_self _;
  alive = λ some. some;
  more = λ some b fb. (tt, tt);
  alive_more = λ some b fb. tt;
  lengths_first = λ b e fb fe n inside. refl;
  lengths_rest = λ b e fb fe n past. refl;
}
  where
    split_array : (n : ℕ) (t : TheType) (d : Datum) → has_type (array n t) d ≡ true
        → (b : Data) × (((count_of b ≡ n) × (all_have_type t b ≡ true)) × ((e : Unit {0}) × ((d ≡ elements b) × Unit {0})))
    split_array n t (elements ds) f = (ds, ((eqb-true (count_of ds) n (first_so _ _ f), second_so _ _ f), (tt, (refl, tt))))
    split_array n t (number b) f = absurd (false≢true f)
    split_array n t (string b) f = absurd (false≢true f)
    split_array n t (fields b) f = absurd (false≢true f)

-- ---- strings and sized arrays

pub begins_texts : (n : ℕ) (low : List Leaf) → Begins (texts_of (suc n)) text_byte (λ c. texts_of n) low (λ b bs. b ∷ bs)
begins_texts n low = record {
  split = λ bs f. split_texts n bs f;
  fit = λ b e fb fe. (omega (arith, fe.0), both _ _ fb fe.1);
  same = λ b e fb fe. refl;
  over = λ b e. over_bytes e _;
  alive = λ some. tt;
  more = λ some b fb. default_text n;
  alive_more = λ some b fb. tt;
  lengths_first = λ b e fb fe n inside. refl;
  lengths_rest = λ b e fb fe n past. refl;
}
  where
    split_texts : (n : ℕ) (bs : List ℕ) → (length bs ≡ suc n) × (list_all is_text_byte bs ≡ true)
        → (b : ℕ) × ((is_text_byte b ≡ true) × ((e : List ℕ) × ((bs ≡ b ∷ e) × ((length e ≡ n) × (list_all is_text_byte e ≡ true)))))
    split_texts n [] f = absurd (omega (arith, f.0))
    split_texts n (b ∷ bs) f = (b, (first_so (is_text_byte b) _ f.1, (bs, (refl, (omega (arith, f.0), second_so (is_text_byte b) _ f.1)))))

pub no_texts_got : (frags : List Frag) (low : List Leaf) → Agrees frags low (size low) → Got (texts_of 0) frags low [] (size low)
no_texts_got frags low agree = record { fit = (refl, refl); ends = refl; agree = agree; told = λ e full f over agrees. none e f.0 }
  where
    none : (e : List ℕ) → length e ≡ 0 → e ≡ []
    none [] f = refl
    none (b ∷ bs) f = absurd (omega (arith, f))

pub begins_text : (most : ℕ) (low : List Leaf) → Begins (arguments_of (text most)) (length_below (most + 1)) (λ n. texts_of n) low (λ n bs. string bs)
begins_text most low = record {
  split = λ d f. split_text most d f;
  fit = λ b e fb fe. both _ _ (le-leb (length e) most (omega (arith, fb, fe.0))) fe.1;
  same = λ b e fb fe. ap (λ (n : ℕ). bytes_onto e (whole 8 n ∷ low)) fe.0;
  over = λ b e. over_bytes e _;
  alive = λ some. omega arith;
  more = λ some b fb. default_text b;
  alive_more = λ some b fb. tt;
  lengths_first = λ b e fb fe n inside. refl;
  lengths_rest = λ b e fb fe n past. holds_past (place (gap 8) low) 8 n past;
}
  where
    split_text : (most : ℕ) (d : Datum) → is_argument (text most) d ≡ true
        → (n : ℕ) × ((n < most + 1) × ((e : List ℕ) × ((d ≡ string e) × ((length e ≡ n) × (list_all is_text_byte e ≡ true)))))
    split_text most (string bs) f = (length bs, (omega (arith, leb-true (length bs) most (first_so _ _ f)), (bs, (refl, (refl, second_so _ _ f)))))
    split_text most (number b) f = absurd (false≢true f)
    split_text most (elements b) f = absurd (false≢true f)
    split_text most (fields b) f = absurd (false≢true f)

pub begins_sized : (most : ℕ) (t : TheType) (low : List Leaf) → Begins (arguments_of (sized most t)) (length_below (most + 1)) (λ n. elements_of n t) low (λ n ds. elements ds)
begins_sized most t low = record {
  split = λ d f. split_sized most t d f;
  fit = λ b e fb fe. both _ _ (le-leb (count_of e) most (omega (arith, fb, fe.0))) fe.1;
  same = λ b e fb fe. ap (λ (n : ℕ). elements_onto t e (whole 8 n ∷ low)) fe.0;
  over = λ b e. over_elements t e _;
  alive = λ some. omega arith;
  more = λ some b fb. default_elements b t some;
  alive_more = λ some b fb. some;
  lengths_first = λ b e fb fe n inside. refl;
  lengths_rest = λ b e fb fe n past. holds_past (place (gap 8) low) 8 n past;
}
  where
    split_sized : (most : ℕ) (t : TheType) (d : Datum) → is_argument (sized most t) d ≡ true
        → (n : ℕ) × ((n < most + 1) × ((e : Data) × ((d ≡ elements e) × ((count_of e ≡ n) × (all_have_type t e ≡ true)))))
    split_sized most t (elements ds) f = (count_of ds, (omega (arith, leb-true (count_of ds) most (first_so _ _ f)), (ds, (refl, (refl, second_so _ _ f)))))
    split_sized most t (number b) f = absurd (false≢true f)
    split_sized most t (string b) f = absurd (false≢true f)
    split_sized most t (fields b) f = absurd (false≢true f)

-- ---- the same from a place on

pub whole_read : (x a : Shape) (frags : List Frag) (at end : ℕ) (join : (b : a.what) → Unit {0} → x.what) (b : a.what)
    → ((low : List Leaf) → Begins x a (λ c. nothing) low join) → at ≤ end → end ≤ 56 * length frags → ReadAt a frags at b end → ReadAt x frags at (join b tt) end
whole_read x a frags at end join b begins later within read = λ low here agree.
    whole_got x a frags low join b end (begins low) (omega (arith, here, later)) within (read low here agree)

-- values put before others
abbrev pub put_before : List Datum → Data → Data
put_before [] ds = ds
put_before (x ∷ xs) ds = also x (put_before xs ds)

pub put_last : (xs : List Datum) (x : Datum) (ds : Data) → put_before xs (also x ds) ≡ put_before (xs ++ x ∷ []) ds
put_last [] x ds = refl
put_last (y ∷ xs) x ds = ap (also y) (put_last xs x ds)

pub put_all : (xs : List Datum) → put_before xs nothing_more ≡ data_from xs
put_all [] = refl
put_all (x ∷ xs) = ap (also x) (put_all xs)

-- ---- one element, field or byte more

pub pushed : {A B : Type 0} (f : A → B) (xs ys : List A) (v : A) → ys ≡ xs ++ v ∷ [] → map f ys ≡ map f xs ++ f v ∷ []
pushed f xs ys v e = ap (map f) e ∙ map-append f xs (v ∷ [])

pub elements_on : (n i : ℕ) (t : TheType) (frags : List Frag) (start at end : ℕ) (xs all : List Datum) (v : Datum) → i < n
    → Come (elements_of n t) (elements_of (n - i) t) frags start at (put_before xs) → at ≤ end → end ≤ 56 * length frags → ReadAt (values_of t) frags at v end → all ≡ xs ++ v ∷ []
    → Come (elements_of n t) (elements_of (n - (i + 1)) t) frags start end (put_before all)
elements_on n i t frags start at end xs all v small come later within read is =
    let left = n - (i + 1) in
    let more : n - i ≡ suc left = omega arith in
    let come' : Come (elements_of n t) (elements_of (suc left) t) frags start at (put_before xs)
    = subst (λ (m : ℕ). Come (elements_of n t) (elements_of m t) frags start at (put_before xs)) more come in
    come_join (elements_of n t) (elements_of left t) frags start end (λ ds. put_before xs (also v ds)) (put_before all) (λ ds. put_last xs v ds ∙ ap (λ (ys : List Datum). put_before ys ds) (sym is))
    (come_read (elements_of n t) (elements_of (suc left) t) (values_of t) (λ b. elements_of left t) frags start at end (put_before xs) (λ d ds. also d ds) v come' (begins_elements left t) later within read)

pub elements_stop : (n i : ℕ) (t : TheType) (frags : List Frag) (start at : ℕ) (xs : List Datum) (stop : CallReadFault) → i < n
    → Come (elements_of n t) (elements_of (n - i) t) frags start at (put_before xs) → StopsAt stop (values_of t) frags at → StopsAt stop (elements_of n t) frags start
elements_stop n i t frags start at xs stop small come stops =
    let left = n - (i + 1) in
    let more : n - i ≡ suc left = omega arith in
    let come' : Come (elements_of n t) (elements_of (suc left) t) frags start at (put_before xs)
    = subst (λ (m : ℕ). Come (elements_of n t) (elements_of m t) frags start at (put_before xs)) more come in
    come_stop (elements_of n t) (elements_of (suc left) t) (values_of t) (λ b. elements_of left t) frags start at (put_before xs) (λ d ds. also d ds) stop come' (begins_elements left t) stops

no_elements_read : (t : TheType) (frags : List Frag) (at : ℕ) → ReadAt (elements_of 0 t) frags at nothing_more at
no_elements_read t frags at low here agree =
    subst (λ (n : ℕ). Got (elements_of 0 t) frags low nothing_more n) (sym here) (no_elements_got t frags low (subst (λ (n : ℕ). Agrees frags low n) here agree))

pub elements_end : (n i : ℕ) (t : TheType) (frags : List Frag) (start at : ℕ) (xs : List Datum) → n ≤ i
    → Come (elements_of n t) (elements_of (n - i) t) frags start at (put_before xs) → ReadAt (elements_of n t) frags start (data_from xs) at
elements_end n i t frags start at xs all come =
    let none : n - i ≡ 0 = omega arith in
    let come' : Come (elements_of n t) (elements_of 0 t) frags start at (put_before xs)
    = subst (λ (m : ℕ). Come (elements_of n t) (elements_of m t) frags start at (put_before xs)) none come in
    subst (λ (ds : Data). ReadAt (elements_of n t) frags start ds at) (put_all xs)
    (come_done (elements_of n t) (elements_of 0 t) frags start at at (put_before xs) nothing_more come' (omega arith) (no_elements_read t frags at))

abbrev pub fields_at : {F : Type 0} → (F → TheType) → List F → Shape
fields_at type fs = fields_of (fields_from (map type fs))

pub fields_on : {F : Type 0} (type : F → TheType) (fs : List F) (i : ℕ) (f : F) (frags : List Frag) (start at end : ℕ) (xs all : List Datum) (v : Datum) → i < length fs → f ≡ get_or fs i f
    → Come (fields_at type fs) (fields_at type (drop i fs)) frags start at (put_before xs) → at ≤ end → end ≤ 56 * length frags → ReadAt (values_of (type f)) frags at v end → all ≡ xs ++ v ∷ []
    → Come (fields_at type fs) (fields_at type (drop (i + 1) fs)) frags start end (put_before all)
fields_on type fs i f frags start at end xs all v small here come later within read is =
    let rest = drop (i + 1) fs in
    let more : drop i fs ≡ f ∷ rest = drop_more fs i f small ∙ ap (λ g. g ∷ rest) (sym here) in
    let come' : Come (fields_at type fs) (fields_at type (f ∷ rest)) frags start at (put_before xs)
    = subst (λ gs. Come (fields_at type fs) (fields_at type gs) frags start at (put_before xs)) more come in
    come_join (fields_at type fs) (fields_at type rest) frags start end (λ ds. put_before xs (also v ds)) (put_before all) (λ ds. put_last xs v ds ∙ ap (λ (ys : List Datum). put_before ys ds) (sym is))
    (come_read (fields_at type fs) (fields_at type (f ∷ rest)) (values_of (type f)) (λ b. fields_at type rest) frags start at end (put_before xs) (λ d ds. also d ds) v come' (begins_fields (type f) (fields_from (map type rest))) later within read)

pub fields_stop : {F : Type 0} (type : F → TheType) (fs : List F) (i : ℕ) (f : F) (frags : List Frag) (start at : ℕ) (xs : List Datum) (stop : CallReadFault) → i < length fs → f ≡ get_or fs i f
    → Come (fields_at type fs) (fields_at type (drop i fs)) frags start at (put_before xs) → StopsAt stop (values_of (type f)) frags at → StopsAt stop (fields_at type fs) frags start
fields_stop type fs i f frags start at xs stop small here come stops =
    let rest = drop (i + 1) fs in
    let more : drop i fs ≡ f ∷ rest = drop_more fs i f small ∙ ap (λ g. g ∷ rest) (sym here) in
    let come' : Come (fields_at type fs) (fields_at type (f ∷ rest)) frags start at (put_before xs)
    = subst (λ gs. Come (fields_at type fs) (fields_at type gs) frags start at (put_before xs)) more come in
    come_stop (fields_at type fs) (fields_at type (f ∷ rest)) (values_of (type f)) (λ b. fields_at type rest) frags start at (put_before xs) (λ d ds. also d ds) stop come' (begins_fields (type f) (fields_from (map type rest))) stops

no_fields_read : (frags : List Frag) (at : ℕ) → ReadAt (fields_of no_more) frags at nothing_more at
no_fields_read frags at low here agree =
    subst (λ (n : ℕ). Got (fields_of no_more) frags low nothing_more n) (sym here) (no_fields_got frags low (subst (λ (n : ℕ). Agrees frags low n) here agree))

pub fields_end : {F : Type 0} (type : F → TheType) (fs : List F) (i : ℕ) (frags : List Frag) (start at : ℕ) (xs : List Datum) → length fs ≤ i
    → Come (fields_at type fs) (fields_at type (drop i fs)) frags start at (put_before xs) → ReadAt (fields_at type fs) frags start (data_from xs) at
fields_end type fs i frags start at xs all come =
    let come' : Come (fields_at type fs) (fields_at type []) frags start at (put_before xs)
    = subst (λ gs. Come (fields_at type fs) (fields_at type gs) frags start at (put_before xs)) (drop_all i fs all) come in
    subst (λ (ds : Data). ReadAt (fields_at type fs) frags start ds at) (put_all xs)
    (come_done (fields_at type fs) (fields_at type []) frags start at at (put_before xs) nothing_more come' (omega arith) (no_fields_read frags at))

abbrev pub text_before : List ℕ → List ℕ → List ℕ
text_before xs bs = xs ++ bs

pub texts_on : (n i : ℕ) (frags : List Frag) (start at : ℕ) (xs all : List ℕ) (v : ℕ) → i < n
    → Come (texts_of n) (texts_of (n - i)) frags start at (text_before xs) → at + 1 ≤ 56 * length frags → ReadAt text_byte frags at v (at + 1) → all ≡ xs ++ v ∷ []
    → Come (texts_of n) (texts_of (n - (i + 1))) frags start (at + 1) (text_before all)
texts_on n i frags start at xs all v small come within read is =
    let left = n - (i + 1) in
    let more : n - i ≡ suc left = omega arith in
    let come' : Come (texts_of n) (texts_of (suc left)) frags start at (text_before xs)
    = subst (λ (m : ℕ). Come (texts_of n) (texts_of m) frags start at (text_before xs)) more come in
    come_join (texts_of n) (texts_of left) frags start (at + 1) (λ bs. text_before xs (v ∷ bs)) (text_before all) (λ bs. sym (ap (λ (ys : List ℕ). ys ++ bs) is ∙ append_assoc xs (v ∷ []) bs))
    (come_read (texts_of n) (texts_of (suc left)) text_byte (λ b. texts_of left) frags start at (at + 1) (text_before xs) (λ b bs. b ∷ bs) v come' (begins_texts left) (omega arith) within read)

pub texts_stop : (n i : ℕ) (frags : List Frag) (start at : ℕ) (xs : List ℕ) (stop : CallReadFault) → i < n
    → Come (texts_of n) (texts_of (n - i)) frags start at (text_before xs) → StopsAt stop text_byte frags at → StopsAt stop (texts_of n) frags start
texts_stop n i frags start at xs stop small come stops =
    let left = n - (i + 1) in
    let more : n - i ≡ suc left = omega arith in
    let come' : Come (texts_of n) (texts_of (suc left)) frags start at (text_before xs)
    = subst (λ (m : ℕ). Come (texts_of n) (texts_of m) frags start at (text_before xs)) more come in
    come_stop (texts_of n) (texts_of (suc left)) text_byte (λ b. texts_of left) frags start at (text_before xs) (λ b bs. b ∷ bs) stop come' (begins_texts left) stops

no_texts_read : (frags : List Frag) (at : ℕ) → ReadAt (texts_of 0) frags at [] at
no_texts_read frags at low here agree =
    subst (λ (n : ℕ). Got (texts_of 0) frags low [] n) (sym here) (no_texts_got frags low (subst (λ (n : ℕ). Agrees frags low n) here agree))

pub texts_end : (n i : ℕ) (frags : List Frag) (start at : ℕ) (xs : List ℕ) → n ≤ i
    → Come (texts_of n) (texts_of (n - i)) frags start at (text_before xs) → ReadAt (texts_of n) frags start xs at
texts_end n i frags start at xs all come =
    let none : n - i ≡ 0 = omega arith in
    let come' : Come (texts_of n) (texts_of 0) frags start at (text_before xs)
    = subst (λ (m : ℕ). Come (texts_of n) (texts_of m) frags start at (text_before xs)) none come in
    subst (λ (bs : List ℕ). ReadAt (texts_of n) frags start bs at) (append-nil xs)
    (come_done (texts_of n) (texts_of 0) frags start at at (text_before xs) [] come' (omega arith) (no_texts_read frags at))

-- ---- a struct's reading

pub struct_start : (ts : TheTypes) (frags : List Frag) (at start : ℕ) → at ≤ start → start ≤ 56 * length frags → ReadAt (padding (greatest_align ts)) frags at tt start
    → Come (values_of (structure ts)) (struct_from ts) frags at start (λ ds. fields ds)
struct_start ts frags at start later within read =
    come_read (values_of (structure ts)) (values_of (structure ts)) (padding (greatest_align ts)) (λ u. struct_from ts) frags at at start (λ d. d) (λ u ds. fields ds) tt
    (come_self (values_of (structure ts)) frags at (omega (arith, later, within))) (begins_struct ts) later within read

pub struct_fields : (ts : TheTypes) (frags : List Frag) (at start last : ℕ) (ds : Data) → Come (values_of (structure ts)) (struct_from ts) frags at start (λ ds. fields ds)
    → start ≤ last → last ≤ 56 * length frags → ReadAt (fields_of ts) frags start ds last → Come (values_of (structure ts)) (padding (greatest_align ts)) frags at last (λ u. fields ds)
struct_fields ts frags at start last ds come later within read =
    come_read (values_of (structure ts)) (struct_from ts) (fields_of ts) (λ b. padding (greatest_align ts)) frags at start last (λ ds. fields ds) (λ ds u. ds) ds come (begins_end ts) later within read

pub struct_stop : (ts : TheTypes) (frags : List Frag) (at start : ℕ) (stop : CallReadFault) → Come (values_of (structure ts)) (struct_from ts) frags at start (λ ds. fields ds)
    → StopsAt stop (fields_of ts) frags start → StopsAt stop (values_of (structure ts)) frags at
struct_stop ts frags at start stop come stops =
    come_stop (values_of (structure ts)) (struct_from ts) (fields_of ts) (λ b. padding (greatest_align ts)) frags at start (λ ds. fields ds) (λ ds u. ds) stop come (begins_end ts) stops

-- ---- a string's or a sized array's reading

pub text_start : (most n : ℕ) (frags : List Frag) (at start : ℕ) → at ≤ start → start ≤ 56 * length frags → ReadAt (length_below (most + 1)) frags at n start
    → Come (arguments_of (text most)) (texts_of n) frags at start (λ bs. string bs)
text_start most n frags at start later within read =
    come_read (arguments_of (text most)) (arguments_of (text most)) (length_below (most + 1)) (λ m. texts_of m) frags at at start (λ d. d) (λ m bs. string bs) n
    (come_self (arguments_of (text most)) frags at (omega (arith, later, within))) (begins_text most) later within read

pub sized_start : (most n : ℕ) (t : TheType) (frags : List Frag) (at start : ℕ) → at ≤ start → start ≤ 56 * length frags → ReadAt (length_below (most + 1)) frags at n start
    → Come (arguments_of (sized most t)) (elements_of n t) frags at start (λ ds. elements ds)
sized_start most n t frags at start later within read =
    come_read (arguments_of (sized most t)) (arguments_of (sized most t)) (length_below (most + 1)) (λ m. elements_of m t) frags at at start (λ d. d) (λ m ds. elements ds) n
    (come_self (arguments_of (sized most t)) frags at (omega (arith, later, within))) (begins_sized most t) later within read
