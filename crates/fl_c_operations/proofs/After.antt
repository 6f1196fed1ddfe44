-- A tape holds what types say exactly where something is left behind that; and the loops that look.
use Rattle.std.proofs.Common.{◌≡◌, ℕ, zero, suc, ℤ, pos, negsuc, ◌+◌, ◌-◌, ◌%◌, ◌^◌, ◌<◌, ◌≤◌, ◌&&◌, min, Bool, true, false, cond, if◌then◌else◌, List, [], ◌∷◌, ◌++◌, length, map, drop, get_or, Option, Some, None, option_and_then, ltb, leb, eqb, refl, sym, ◌∙◌, ap, subst, arith, append_assoc, ⊎_elim, eq-eqb}
use Rattle.std.specs.List.{list_all}
use Rattle.std.specs.Cmp.{first_so, second_so}
use Rattle.std.proofs.Math.Nat.{mod-eq_of_lt}
use Rattle.std.proofs.lemmas.Bool.{cases_lt, ltb-true, leb-true, lt-ltb, le-leb, eqb-true, cond-true, cond-false, false≢true}
use Rattle.std.proofs.lemmas.List.{drop_all}
use Rattle.fl_interface.specs.declared.interface.Scalar.{Scalar}
use Rattle.fl_interface.specs.declared.interface.Scalar.TheVariants.{Uint8, Int8, Bool as BoolType, Char, Uint16, Int16, Uint32, Int32, Iref, Uint64, Int64, Uintptr, Intptr, Size, Errval}
use Rattle.fl_interface.specs.Interface.{TheType, scalar, enumeration, structure, array, TheTypes, no_more, field, TheArgType, fixed, text, sized}
use Rattle.fl_value_data.specs.declared.value.PlanNo.{PlanNo}
use Rattle.fl_value_data.specs.Value.{Datum, number, string, elements, fields, Data, nothing_more, also}
use Rattle.fl_value_data.specs.Fits.{is_scalar_value, scalar_bits, least_above, how_many_below, has_type, have_types, all_have_type, count_of, is_text_byte, is_argument}
use Rattle.fl_value_data.specs.Tape.{raw_of, value_tape, fields_tape, elements_tape, argument_tape}
use Rattle.fl_value_data.specs.Taken.{ValueAt, ArgumentAt, LengthAt, NoneOf}
use Rattle.fl_value_data.proofs.Bits.{InRange, scalar_range, scalar_room, enum_range}
use Rattle.fl_value_data.proofs.Turns.{map_dropped}
use Rattle.fl_c_operations.specs.After.{after_number, after_each, after_all, after_counted, count_of_scalar, after_value, after_fields, after_argument, after_ranked, after_ranks}

-- ---- what a chain comes to

both : (a b : Bool) → a ≡ true → b ≡ true → (a && b) ≡ true
both true b p q = q
both false b p q = absurd (cc)

some_same : (a b : List ℕ) → Some a ≡ Some b → a ≡ b
some_same a b e = cc

-- a test that was passed, and what stands behind it
passed : (b : Bool) (o : Option (List ℕ)) (rest : List ℕ) → (if b then o else None) ≡ Some rest → (b ≡ true) × (o ≡ Some rest)
passed true o rest e = (refl, e)
passed false o rest e = absurd (cc)

number_found : (test : ℕ → Bool) (tape rest : List ℕ) → after_number test tape ≡ Some rest → (n : ℕ) × (test n ≡ true) × (tape ≡ n ∷ rest)
number_found test [] rest e = absurd (cc)
number_found test (n ∷ more) rest e =
    let p = passed (test n) (Some more) rest e in
    (n, p.0, ap (λ (l : List ℕ). n ∷ l) (some_same more rest p.1))

pub number_past : (test : ℕ → Bool) (tape rest : List ℕ) (n : ℕ) → tape ≡ n ∷ rest → test n ≡ false → None ≡ after_number test tape
number_past test tape rest n e fails = sym (ap (after_number test) e ∙ cond-false (test n) (Some rest) None fails)

pub number_there : (test : ℕ → Bool) (tape rest : List ℕ) (n : ℕ) → tape ≡ n ∷ rest → test n ≡ true → Some rest ≡ after_number test tape
number_there test tape rest n e passes = sym (ap (after_number test) e ∙ cond-true (test n) (Some rest) None passes)

-- one after the other
chained : (o : Option (List ℕ)) (f : List ℕ → Option (List ℕ)) (rest : List ℕ) → option_and_then f o ≡ Some rest → (next : List ℕ) × (o ≡ Some next) × (f next ≡ Some rest)
chained None f rest e = absurd (cc)
chained (Some next) f rest e = (next, refl, e)

-- ---- scalars

-- the numbers of a scalar that has some below 0 take all its bits
all_bits : (s : Scalar) (n : ℕ) → n < how_many_below s → least_above s + how_many_below s ≡ 2 ^ scalar_bits s
all_bits Uint8 n h = absurd (omega (arith, h))
all_bits Int8 n h = refl
all_bits BoolType n h = absurd (omega (arith, h))
all_bits Char n h = absurd (omega (arith, h))
all_bits Uint16 n h = absurd (omega (arith, h))
all_bits Int16 n h = refl
all_bits Uint32 n h = absurd (omega (arith, h))
all_bits Int32 n h = refl
all_bits Iref n h = absurd (omega (arith, h))
all_bits Uint64 n h = absurd (omega (arith, h))
all_bits Int64 n h = refl
all_bits Uintptr n h = absurd (omega (arith, h))
all_bits Intptr n h = refl
all_bits Size n h = absurd (omega (arith, h))
all_bits Errval n h = absurd (omega (arith, h))

-- the number below 0 that has these bits
below_zero : (bits high low n : ℕ) → high + low ≡ 2 ^ bits → high ≤ n → n < high + low → (k : ℕ) × (k < low) × (2 ^ bits - 1 - k % 2 ^ bits ≡ n)
below_zero bits high low n all above h =
    let k = 2 ^ bits - 1 - n in
    let raw : k % 2 ^ bits ≡ k = mod-eq_of_lt (omega (arith, all, h)) in
    (k, omega (arith, all, above, h), omega (arith, raw, all, h))

scalar_found : (s : Scalar) (n : ℕ) → n < count_of_scalar s → (z : ℤ) × (is_scalar_value s z ≡ true) × (raw_of (scalar_bits s) z ≡ n)
scalar_found s n h = ⊎_elim
    (λ (low : n < least_above s). (pos n, lt-ltb n (least_above s) low, mod-eq_of_lt (omega (arith, low, scalar_room s))))
    (λ (high : least_above s ≤ n).
    let all = all_bits s (n - least_above s) (omega (arith, high, h)) in
    let (k, small, raw) = below_zero (scalar_bits s) (least_above s) (how_many_below s) n all high h in
    (negsuc k, lt-ltb k (how_many_below s) small, raw))
    (cases_lt n (least_above s))

low_kept : (bits high low n : ℕ) → high + low ≤ 2 ^ bits → n < high → n % 2 ^ bits < high + low
low_kept bits high low n room h =
    let raw : n % 2 ^ bits ≡ n = mod-eq_of_lt (omega (arith, room, h)) in
    omega (arith, raw, h)

high_kept : (bits high low n : ℕ) → high + low ≡ 2 ^ bits → n < low → 2 ^ bits - 1 - n % 2 ^ bits < high + low
high_kept bits high low n all h = omega (arith, all, h)

scalar_kept : (s : Scalar) (z : ℤ) → InRange (least_above s) (how_many_below s) z → raw_of (scalar_bits s) z < count_of_scalar s
scalar_kept s (pos n) h = low_kept (scalar_bits s) (least_above s) (how_many_below s) n (scalar_room s) h
scalar_kept s (negsuc n) h = high_kept (scalar_bits s) (least_above s) (how_many_below s) n (all_bits s n h) h

enum_kept : (n : ℕ) (z : ℤ) → InRange n 0 z → raw_of 32 z < min n (2 ^ 32)
enum_kept n (pos k) h = omega (arith, h)
enum_kept n (negsuc k) h = absurd (omega (arith, h))

-- ---- where something is left, a value stands there

each_found : (t : TheType) → ((tape rest : List ℕ) → after_value t tape ≡ Some rest → (d : Datum) × ValueAt t tape d rest) → (n : ℕ) (tape rest : List ℕ)
    → after_each (after_value t) n tape ≡ Some rest → (ds : Data) × (count_of ds ≡ n) × (all_have_type t ds ≡ true) × (tape ≡ elements_tape t ds ++ rest)
each_found t found zero tape rest e = (nothing_more, refl, refl, some_same tape rest e)
each_found t found (suc n) tape rest e =
    let (next, first, second) = chained (after_value t tape) (after_each (after_value t) n) rest e in
    let (d, here) = found tape next first in
    let (ds, many, typed, prefix) = each_found t found n next rest second in (
      also d ds,
      omega (arith, many),
      both (has_type t d) (all_have_type t ds) here.typed typed,
      here.prefix ∙ ap (λ (l : List ℕ). value_tape t d ++ l) prefix ∙ sym (append_assoc (value_tape t d) (elements_tape t ds) rest),
    )

mutual
  value_found : (t : TheType) (tape rest : List ℕ) → after_value t tape ≡ Some rest → (d : Datum) × ValueAt t tape d rest
  value_found (scalar s) tape rest e =
      let (n, below, here) = number_found (λ (bits : ℕ). ltb bits (count_of_scalar s)) tape rest e in
      let (z, typed, raw) = scalar_found s n (ltb-true n (count_of_scalar s) below) in
      (number z, record { typed = typed; prefix = here ∙ ap (λ (k : ℕ). k ∷ rest) (sym raw) })
  value_found (enumeration n) tape rest e =
      let (k, below, here) = number_found (λ (bits : ℕ). ltb bits (min n (2 ^ 32))) tape rest e in
      let small : k < min n (2 ^ 32) = ltb-true k (min n (2 ^ 32)) below in
      let raw : k % 2 ^ 32 ≡ k = omega (arith, small) in
      (number (pos k), record { typed = lt-ltb k n (omega (arith, small)); prefix = here ∙ ap (λ (j : ℕ). j ∷ rest) (sym raw) })
  value_found (structure ts) tape rest e =
      let (ds, typed, prefix) = fields_found ts tape rest e in
      (fields ds, record { typed = typed; prefix = prefix })
  value_found (array n t) tape rest e =
      let (ds, many, typed, prefix) = each_found t (value_found t) n tape rest e in
      (elements ds, record { typed = both (eqb (count_of ds) n) (all_have_type t ds) (eq-eqb (count_of ds) n many) typed; prefix = prefix })

  fields_found : (ts : TheTypes) (tape rest : List ℕ) → after_fields ts tape ≡ Some rest → (ds : Data) × (have_types ts ds ≡ true) × (tape ≡ fields_tape ts ds ++ rest)
  fields_found no_more tape rest e = (nothing_more, refl, some_same tape rest e)
  fields_found (field t ts) tape rest e =
      let (next, first, second) = chained (after_value t tape) (after_fields ts) rest e in
      let (d, here) = value_found t tape next first in
      let (ds, typed, prefix) = fields_found ts next rest second in (
        also d ds,
        both (has_type t d) (have_types ts ds) here.typed typed,
        here.prefix ∙ ap (λ (l : List ℕ). value_tape t d ++ l) prefix ∙ sym (append_assoc (value_tape t d) (fields_tape ts ds) rest),
      )

-- ---- behind a value that stands there, the rest is left

each_kept : (t : TheType) → ((d : Datum) (rest : List ℕ) → has_type t d ≡ true → after_value t (value_tape t d ++ rest) ≡ Some rest) → (ds : Data) (rest : List ℕ)
    → all_have_type t ds ≡ true → after_each (after_value t) (count_of ds) (elements_tape t ds ++ rest) ≡ Some rest
each_kept t kept nothing_more rest h = refl
each_kept t kept (also d ds) rest h =
    let more = after_each (after_value t) (count_of ds) in
    let one : suc (count_of ds) ≡ 1 + count_of ds = omega arith in
    let first = ap (λ (l : List ℕ). option_and_then more (after_value t l)) (append_assoc (value_tape t d) (elements_tape t ds) rest)
    ∙ ap (λ (o : Option (List ℕ)). option_and_then more o) (kept d (elements_tape t ds ++ rest) (first_so (has_type t d) _ h)) in
    subst (λ (n : ℕ). after_each (after_value t) n (elements_tape t (also d ds) ++ rest) ≡ Some rest) one (first ∙ each_kept t kept ds rest (second_so (has_type t d) _ h))

mutual
  value_kept : (t : TheType) (d : Datum) (rest : List ℕ) → has_type t d ≡ true → after_value t (value_tape t d ++ rest) ≡ Some rest
  value_kept (scalar s) (number z) rest h =
      cond-true (ltb (raw_of (scalar_bits s) z) (count_of_scalar s)) (Some rest) None (lt-ltb (raw_of (scalar_bits s) z) (count_of_scalar s) (scalar_kept s z (scalar_range s z h)))
  value_kept (enumeration n) (number z) rest h =
      cond-true (ltb (raw_of 32 z) (min n (2 ^ 32))) (Some rest) None (lt-ltb (raw_of 32 z) (min n (2 ^ 32)) (enum_kept n z (enum_range n z h)))
  value_kept (structure ts) (fields ds) rest h = fields_kept ts ds rest h
  value_kept (array n t) (elements ds) rest h =
      subst (λ (k : ℕ). after_each (after_value t) k (elements_tape t ds ++ rest) ≡ Some rest) (eqb-true (count_of ds) n (first_so (eqb (count_of ds) n) _ h))
      (each_kept t (value_kept t) ds rest (second_so (eqb (count_of ds) n) _ h))
  value_kept t d rest h = absurd (false≢true h)

  fields_kept : (ts : TheTypes) (ds : Data) (rest : List ℕ) → have_types ts ds ≡ true → after_fields ts (fields_tape ts ds ++ rest) ≡ Some rest
  fields_kept no_more nothing_more rest h = refl
  fields_kept (field t ts) (also d ds) rest h =
      ap (λ (l : List ℕ). option_and_then (after_fields ts) (after_value t l)) (append_assoc (value_tape t d) (fields_tape ts ds) rest)
      ∙ ap (λ (o : Option (List ℕ)). option_and_then (after_fields ts) o) (value_kept t d (fields_tape ts ds ++ rest) (first_so (has_type t d) _ h))
      ∙ fields_kept ts ds rest (second_so (has_type t d) _ h)
  fields_kept ts ds rest h = absurd (false≢true h)

-- ---- arguments

bytes_found : (n : ℕ) (tape rest : List ℕ) → after_each (after_number is_text_byte) n tape ≡ Some rest
    → (bytes : List ℕ) × (length bytes ≡ n) × (list_all is_text_byte bytes ≡ true) × (tape ≡ bytes ++ rest)
bytes_found zero tape rest e = ([], refl, refl, some_same tape rest e)
bytes_found (suc n) tape rest e =
    let (next, first, second) = chained (after_number is_text_byte tape) (after_each (after_number is_text_byte) n) rest e in
    let (b, right, here) = number_found is_text_byte tape next first in
    let (bytes, many, all, prefix) = bytes_found n next rest second in
    (b ∷ bytes, ap (λ (k : ℕ). suc k) many, both (is_text_byte b) (list_all is_text_byte bytes) right all, here ∙ ap (λ (l : List ℕ). b ∷ l) prefix)

bytes_kept : (bytes rest : List ℕ) → list_all is_text_byte bytes ≡ true → after_each (after_number is_text_byte) (length bytes) (bytes ++ rest) ≡ Some rest
bytes_kept [] rest h = refl
bytes_kept (b ∷ bytes) rest h =
    ap (λ (o : Option (List ℕ)). option_and_then (after_each (after_number is_text_byte) (length bytes)) o) (cond-true (is_text_byte b) (Some (bytes ++ rest)) None (first_so (is_text_byte b) _ h))
    ∙ bytes_kept bytes rest (second_so (is_text_byte b) _ h)

counted_found : (after : List ℕ → Option (List ℕ)) (most : ℕ) (tape rest : List ℕ) → after_counted after most tape ≡ Some rest
    → (n : ℕ) × (more : List ℕ) × (leb n most ≡ true) × (tape ≡ n ∷ more) × (after_each after n more ≡ Some rest)
counted_found after most [] rest e = absurd (cc)
counted_found after most (n ∷ more) rest e =
    let p = passed (leb n most) (after_each after n more) rest e in
    (n, more, p.0, refl, p.1)

pub counted_none : (after : List ℕ → Option (List ℕ)) (most : ℕ) (tape : List ℕ) → NoneOf (LengthAt most tape) → None ≡ after_counted after most tape
counted_none after most [] none = refl
counted_none after most (n ∷ rest) none = by (leb n most) refl
  where
    by : (b : Bool) → leb n most ≡ b → None ≡ cond b (after_each after n rest) None
    by true e = absurd (none n rest (record { few = leb-true n most e; prefix = refl }))
    by false e = refl

pub counted_some : (after : List ℕ → Option (List ℕ)) (most : ℕ) (tape : List ℕ) (n : ℕ) (rest : List ℕ) → LengthAt most tape n rest
    → after_each after n rest ≡ after_counted after most tape
counted_some after most tape n rest l =
    sym (ap (after_counted after most) l.prefix ∙ cond-true (leb n most) (after_each after n rest) None (le-leb n most l.few))

pub argument_found : (t : TheArgType) (tape rest : List ℕ) → after_argument t tape ≡ Some rest → (d : Datum) × ArgumentAt t tape d rest
argument_found (fixed t) tape rest e =
    let (d, here) = value_found t tape rest e in
    (d, record { typed = here.typed; prefix = here.prefix })
argument_found (text most) tape rest e =
    let (n, more, few, whole, behind) = counted_found (after_number is_text_byte) most tape rest e in
    let (bytes, many, all, prefix) = bytes_found n more rest behind in (
      string bytes,
      record {
        typed = both (leb (length bytes) most) (list_all is_text_byte bytes) (subst (λ (k : ℕ). leb k most ≡ true) (sym many) few) all;
        prefix = whole ∙ ap (λ (l : List ℕ). n ∷ l) prefix ∙ ap (λ (k : ℕ). k ∷ (bytes ++ rest)) (sym many);
      },
    )
argument_found (sized most t) tape rest e =
    let (n, more, few, whole, behind) = counted_found (after_value t) most tape rest e in
    let (ds, many, all, prefix) = each_found t (value_found t) n more rest behind in (
      elements ds,
      record {
        typed = both (leb (count_of ds) most) (all_have_type t ds) (subst (λ (k : ℕ). leb k most ≡ true) (sym many) few) all;
        prefix = whole ∙ ap (λ (l : List ℕ). n ∷ l) prefix ∙ ap (λ (k : ℕ). k ∷ (elements_tape t ds ++ rest)) (sym many);
      },
    )

pub argument_kept : (t : TheArgType) (d : Datum) (rest : List ℕ) → is_argument t d ≡ true → after_argument t (argument_tape t d ++ rest) ≡ Some rest
argument_kept (fixed t) d rest h = value_kept t d rest h
argument_kept (text most) (string bytes) rest h =
    cond-true (leb (length bytes) most) (after_each (after_number is_text_byte) (length bytes) (bytes ++ rest)) None (first_so (leb (length bytes) most) _ h)
    ∙ bytes_kept bytes rest (second_so (leb (length bytes) most) _ h)
argument_kept (sized most t) (elements ds) rest h =
    cond-true (leb (count_of ds) most) (after_each (after_value t) (count_of ds) (elements_tape t ds ++ rest)) None (first_so (leb (count_of ds) most) _ h)
    ∙ each_kept t (value_kept t) ds rest (second_so (leb (count_of ds) most) _ h)
argument_kept t d rest h = absurd (false≢true h)

-- ---- loops

pub each_start : (after : List ℕ → Option (List ℕ)) (n : ℕ) (tape : List ℕ) → after_each after (n - 0) tape ≡ after_each after n tape
each_start after n tape = let same : n - 0 ≡ n = omega arith in ap (λ (k : ℕ). after_each after k tape) same

each_here : (after : List ℕ → Option (List ℕ)) (n k : ℕ) (rest : List ℕ) (o whole : Option (List ℕ)) → k < n → o ≡ after rest → after_each after (n - k) rest ≡ whole
    → option_and_then (after_each after (n - (k + 1))) o ≡ whole
each_here after n k rest o whole h e so_far =
    let one : suc (n - (k + 1)) ≡ n - k = omega (arith, h) in
    ap (λ (p : Option (List ℕ)). option_and_then (after_each after (n - (k + 1))) p) e ∙ ap (λ (j : ℕ). after_each after j rest) one ∙ so_far

pub each_turn : (after : List ℕ → Option (List ℕ)) (n k : ℕ) (rest next : List ℕ) (whole : Option (List ℕ)) → k < n → Some next ≡ after rest
    → after_each after (n - k) rest ≡ whole → after_each after (n - (k + 1)) next ≡ whole
each_turn after n k rest next whole h e so_far = each_here after n k rest (Some next) whole h e so_far

pub each_stop : (after : List ℕ → Option (List ℕ)) (n k : ℕ) (rest : List ℕ) (whole : Option (List ℕ)) → k < n → None ≡ after rest
    → after_each after (n - k) rest ≡ whole → None ≡ whole
each_stop after n k rest whole h e so_far = each_here after n k rest None whole h e so_far

pub each_end : (after : List ℕ → Option (List ℕ)) (n k : ℕ) (rest : List ℕ) (whole : Option (List ℕ)) → n ≤ k → after_each after (n - k) rest ≡ whole → Some rest ≡ whole
each_end after n k rest whole h so_far =
    let none : 0 ≡ n - k = omega (arith, h) in
    ap (λ (j : ℕ). after_each after j rest) none ∙ so_far

-- how things of several kinds go by a list of kinds
abbrev pub Goes : {B : Type 0} → (List B → List ℕ → Option (List ℕ)) → (B → List ℕ → Option (List ℕ)) → Type 0
Goes {B = B} all one = (y : B) (ys : List B) (tape : List ℕ) → all (y ∷ ys) tape ≡ option_and_then (all ys) (one y tape)

all_here : {A B : Type 0} (all : List B → List ℕ → Option (List ℕ)) (one : B → List ℕ → Option (List ℕ)) → Goes all one → (view : A → B) (xs : List A) (k : ℕ) (x : A)
    (rest : List ℕ) (o whole : Option (List ℕ)) → k < length xs → x ≡ get_or xs k x → o ≡ one (view x) rest → all (map view (drop k xs)) rest ≡ whole
    → option_and_then (all (map view (drop (k + 1) xs))) o ≡ whole
all_here {B = B} all one goes view xs k x rest o whole h is e so_far =
    let more = all (map view (drop (k + 1) xs)) in
    ap (λ (p : Option (List ℕ)). option_and_then more p) e ∙ sym (goes (view x) (map view (drop (k + 1) xs)) rest)
    ∙ ap (λ (ys : List B). all ys rest) (sym (map_dropped view xs k x h is)) ∙ so_far

pub all_turn : {A B : Type 0} (all : List B → List ℕ → Option (List ℕ)) (one : B → List ℕ → Option (List ℕ)) → Goes all one → (view : A → B) (xs : List A) (k : ℕ) (x : A)
    (rest next : List ℕ) (whole : Option (List ℕ)) → k < length xs → x ≡ get_or xs k x → Some next ≡ one (view x) rest → all (map view (drop k xs)) rest ≡ whole
    → all (map view (drop (k + 1) xs)) next ≡ whole
all_turn all one goes view xs k x rest next whole h is e so_far = all_here all one goes view xs k x rest (Some next) whole h is e so_far

pub all_stop : {A B : Type 0} (all : List B → List ℕ → Option (List ℕ)) (one : B → List ℕ → Option (List ℕ)) → Goes all one → (view : A → B) (xs : List A) (k : ℕ) (x : A)
    (rest : List ℕ) (whole : Option (List ℕ)) → k < length xs → x ≡ get_or xs k x → None ≡ one (view x) rest → all (map view (drop k xs)) rest ≡ whole → None ≡ whole
all_stop all one goes view xs k x rest whole h is e so_far = all_here all one goes view xs k x rest None whole h is e so_far

pub all_end : {A B : Type 0} (all : List B → List ℕ → Option (List ℕ)) → ((tape : List ℕ) → all [] tape ≡ Some tape) → (view : A → B) (xs : List A) (k : ℕ) (rest : List ℕ)
    (whole : Option (List ℕ)) → length xs ≤ k → all (map view (drop k xs)) rest ≡ whole → Some rest ≡ whole
all_end {A = A} all none view xs k rest whole h so_far = sym (none rest) ∙ ap (λ (l : List A). all (map view l) rest) (sym (drop_all k xs h)) ∙ so_far

ranks_here : (plan : PlanNo) (types : List TheArgType) (r : ℕ) (rest : List ℕ) (o whole : Option (List ℕ)) → r < 5 → o ≡ after_all (after_ranked plan r) types rest
    → after_ranks plan (5 - r) r types rest ≡ whole → option_and_then (after_ranks plan (5 - (r + 1)) (r + 1) types) o ≡ whole
ranks_here plan types r rest o whole h e so_far =
    let one : suc (5 - (r + 1)) ≡ 5 - r = omega (arith, h) in
    ap (λ (p : Option (List ℕ)). option_and_then (after_ranks plan (5 - (r + 1)) (r + 1) types) p) e ∙ ap (λ (j : ℕ). after_ranks plan j r types rest) one ∙ so_far

pub ranks_turn : (plan : PlanNo) (types : List TheArgType) (r : ℕ) (rest next : List ℕ) (whole : Option (List ℕ)) → r < 5 → Some next ≡ after_all (after_ranked plan r) types rest
    → after_ranks plan (5 - r) r types rest ≡ whole → after_ranks plan (5 - (r + 1)) (r + 1) types next ≡ whole
ranks_turn plan types r rest next whole h e so_far = ranks_here plan types r rest (Some next) whole h e so_far

pub ranks_stop : (plan : PlanNo) (types : List TheArgType) (r : ℕ) (rest : List ℕ) (whole : Option (List ℕ)) → r < 5 → None ≡ after_all (after_ranked plan r) types rest
    → after_ranks plan (5 - r) r types rest ≡ whole → None ≡ whole
ranks_stop plan types r rest whole h e so_far = ranks_here plan types r rest None whole h e so_far

pub ranks_end : (plan : PlanNo) (types : List TheArgType) (r : ℕ) (rest : List ℕ) (whole : Option (List ℕ)) → 5 ≤ r → after_ranks plan (5 - r) r types rest ≡ whole → Some rest ≡ whole
ranks_end plan types r rest whole h so_far =
    let none : 0 ≡ 5 - r = omega (arith, h) in
    ap (λ (j : ℕ). after_ranks plan j r types rest) none ∙ so_far
