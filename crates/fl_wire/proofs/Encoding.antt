-- What the encoder writes: gaps, strings, values, and arguments rank by rank.
use Rattle.std.proofs.Common.{◌≡◌, ◌≢◌, ℕ, zero, suc, ◌+◌, ◌-◌, ◌^◌, ◌<◌, Bool, true, false, List, [], ◌∷◌, ◌++◌, map, length, replicate, drop, get_or, min, refl, sym, ◌∙◌, ap, subst, arith, cond, eqb, append_assoc, eq-eqb}
use Rattle.std.specs.List.{list_all, zip}
use Rattle.std.specs.Int.{byte_at}
use Rattle.std.specs.Cmp.{first_so, second_so}
use Rattle.std.proofs.lemmas.List.{append-nil, drop_more, drop_all, length-map}
use Rattle.std.proofs.lemmas.Bool.{ltb-true, eqb-true, ne_eqb, false≢true}
use Rattle.fl_interface.specs.declared.interface.ArgType.{ArgType}
use Rattle.fl_interface.specs.Interface.{TheType, scalar, enumeration, structure, array, TheArgType, fixed, arg_type_of}
use Rattle.fl_interface.specs.declared.interface.Scalar.{Scalar}
use Rattle.fl_interface.specs.Sizes.{round_up, align_of}
use Rattle.fl_value_data.specs.Value.{Datum, number, string, elements, fields, data_from, datum_of}
use Rattle.fl_value_data.specs.declared.value.Value.{Value}
use Rattle.fl_value_data.specs.Fits.{count_of, has_type, all_have_type, is_argument, are_arguments, is_text_byte}
use Rattle.fl_value_data.specs.Plan.{arranged, is_dynamic, rank_of, of_rank, of_ranks, never_falls}
use Rattle.fl_value_data.specs.declared.value.PlanNo.{PlanNo}
use Rattle.fl_value_data.specs.declared.value.PlanNo.TheVariants.{Two}
use Rattle.fl_layout.specs.Leaves.{Leaf, gap, whole, single, bits_of, is_number_type, value_onto, elements_onto, bytes_onto, argument_onto, arguments_onto, start_onto}
use Rattle.fl_layout.specs.Places.{size}
use Rattle.fl_wire.specs.Payload.{payload_bytes}
use Rattle.fl_wire.specs.Widths.{number_width, number_of, is_number_within, numbers_onto, IsWordSized}
use Rattle.fl_value_data.proofs.Ranked.{is_last}
use Rattle.fl_value_data.proofs.Kept.{kept_arguments}
use Rattle.fl_value_data.specs.Tape.{Argument, kind}
use Rattle.fl_wire.proofs.Arguments.{number_fits}
use Rattle.fl_wire.proofs.Scalars.{rises, rises_end}
use Rattle.fl_wire.proofs.Bytes.{length_payload, payload_more, size_le_place}

-- ---- bytes

-- what is written for a gap
pub gap_written : (before : List Leaf) (old new : List ℕ) (align : ℕ) → old ≡ payload_bytes before
    → new ≡ old ++ replicate (round_up (length old) align - length old) 0 → new ≡ payload_bytes (gap align ∷ before)
gap_written before old new align is_old is_new =
    let long : length old ≡ size before = ap length is_old ∙ length_payload before in
    let missing = round_up (size before) align - size before in
    is_new ∙ ap (λ (m : ℕ). old ++ replicate (round_up m align - m) 0) long ∙ ap (λ (xs : List ℕ). xs ++ replicate missing 0) is_old
    ∙ sym (append-nil (payload_bytes before ++ replicate missing 0))
    ∙ sym (payload_more (gap align) before missing (omega (arith, size_le_place (size before) align)))

byte_written : (b : ℕ) (before : List Leaf) → is_text_byte b ≡ true → payload_bytes (single b ∷ before) ≡ payload_bytes before ++ b ∷ []
byte_written b before h =
    let small : b < 256 = ltb-true b 256 (second_so _ _ h) in
    let same : byte_at 0 b ≡ b = omega (arith, small) in
    payload_more (single b) before 0 (omega arith) ∙ ap (λ (xs : List ℕ). xs ++ byte_at 0 b ∷ []) (append-nil (payload_bytes before)) ∙ ap (λ (x : ℕ). payload_bytes before ++ x ∷ []) same

-- what is written for a string's bytes
pub text_written : (bs : List ℕ) (before : List Leaf) → list_all is_text_byte bs ≡ true → payload_bytes (bytes_onto bs before) ≡ payload_bytes before ++ bs
text_written [] before h = sym (append-nil (payload_bytes before))
text_written (b ∷ bs) before h =
    text_written bs (single b ∷ before) (second_so (is_text_byte b) _ h)
    ∙ ap (λ (xs : List ℕ). xs ++ bs) (byte_written b before (first_so (is_text_byte b) _ h))
    ∙ append_assoc (payload_bytes before) (b ∷ []) bs

-- ---- values

pub count_from : (vs : List Value) → count_of (data_from (map datum_of vs)) ≡ length vs
count_from [] = refl
count_from (v ∷ vs) = omega (arith, count_from vs)

-- ---- numbers of one width

-- a value of a number's type is a number that fits its width
number_within : (t : TheType) (d : Datum) → is_number_type (fixed t) ≡ true → IsWordSized (fixed t) → has_type t d ≡ true → is_number_within (number_width (fixed t)) d ≡ true
number_within t (number z) k w h = number_fits (fixed t) (number z) k w h
number_within (scalar s) (string bs) k w h = absurd (false≢true h)
number_within (scalar s) (elements ds) k w h = absurd (false≢true h)
number_within (scalar s) (fields ds) k w h = absurd (false≢true h)
number_within (enumeration n) (string bs) k w h = absurd (false≢true h)
number_within (enumeration n) (elements ds) k w h = absurd (false≢true h)
number_within (enumeration n) (fields ds) k w h = absurd (false≢true h)
number_within (structure ts) d k w h = absurd (false≢true k)
number_within (array n t) d k w h = absurd (false≢true k)

pub numbers_within : (t : TheType) (vs : List Value) → is_number_type (fixed t) ≡ true → IsWordSized (fixed t) → all_have_type t (data_from (map datum_of vs)) ≡ true
    → list_all (is_number_within (number_width (fixed t))) (map datum_of vs) ≡ true
numbers_within t [] k w h = refl
numbers_within t (v ∷ vs) k w h =
    rw (number_within t (datum_of v) k w (first_so (has_type t (datum_of v)) _ h)) (numbers_within t vs k w (second_so (has_type t (datum_of v)) _ h))

-- its leaf
number_leaf : (t : TheType) (d : Datum) (before : List Leaf) → is_number_type (fixed t) ≡ true → has_type t d ≡ true
    → whole (number_width (fixed t)) (bits_of (number_width (fixed t)) (number_of d)) ∷ before ≡ value_onto t d before
number_leaf (scalar s) (number z) before k h = refl
number_leaf (enumeration n) (number z) before k h = refl
number_leaf (scalar s) (string bs) before k h = absurd (false≢true h)
number_leaf (scalar s) (elements ds) before k h = absurd (false≢true h)
number_leaf (scalar s) (fields ds) before k h = absurd (false≢true h)
number_leaf (enumeration n) (string bs) before k h = absurd (false≢true h)
number_leaf (enumeration n) (elements ds) before k h = absurd (false≢true h)
number_leaf (enumeration n) (fields ds) before k h = absurd (false≢true h)
number_leaf (structure ts) d before k h = absurd (false≢true k)
number_leaf (array n t) d before k h = absurd (false≢true k)

-- those of elements of a number's type
pub numbers_leaves : (t : TheType) (vs : List Value) (before : List Leaf) → is_number_type (fixed t) ≡ true → all_have_type t (data_from (map datum_of vs)) ≡ true
    → numbers_onto (number_width (fixed t)) (map datum_of vs) before ≡ elements_onto t (data_from (map datum_of vs)) before
numbers_leaves t [] before k h = refl
numbers_leaves t (v ∷ vs) before k h =
    let now = number_leaf t (datum_of v) before k (first_so (has_type t (datum_of v)) _ h) in
    ap (λ (ls : List Leaf). numbers_onto (number_width (fixed t)) (map datum_of vs) ls) now
    ∙ numbers_leaves t vs (value_onto t (datum_of v) before) k (second_so (has_type t (datum_of v)) _ h)

-- elements of a scalar's type, and of an enum's
pub scalars_within : (t : TheType) (s : Scalar) (width : ℕ) (vs : List Value) → t ≡ scalar s → width ≡ align_of t → all_have_type t (data_from (map datum_of vs)) ≡ true
    → list_all (is_number_within width) (map datum_of vs) ≡ true
scalars_within t s width vs is wide h =
    subst (λ (w : ℕ). list_all (is_number_within w) (map datum_of vs) ≡ true) (sym (wide ∙ ap align_of is))
    (numbers_within (scalar s) vs refl tt (subst (λ (u : TheType). all_have_type u (data_from (map datum_of vs)) ≡ true) is h))

pub enumerators_within : (t : TheType) (n : ℕ) (vs : List Value) → t ≡ enumeration n → n < 2 ^ 32 → all_have_type t (data_from (map datum_of vs)) ≡ true
    → list_all (is_number_within 4) (map datum_of vs) ≡ true
enumerators_within t n vs is few h =
    numbers_within (enumeration n) vs refl (omega (arith, few)) (subst (λ (u : TheType). all_have_type u (data_from (map datum_of vs)) ≡ true) is h)

pub scalars_leaves : (t : TheType) (s : Scalar) (width : ℕ) (vs : List Value) (before : List Leaf) → t ≡ scalar s → width ≡ align_of t → all_have_type t (data_from (map datum_of vs)) ≡ true
    → numbers_onto width (map datum_of vs) before ≡ elements_onto t (data_from (map datum_of vs)) before
scalars_leaves t s width vs before is wide h =
    ap (λ (w : ℕ). numbers_onto w (map datum_of vs) before) (wide ∙ ap align_of is)
    ∙ numbers_leaves (scalar s) vs before refl (subst (λ (u : TheType). all_have_type u (data_from (map datum_of vs)) ≡ true) is h)
    ∙ ap (λ (u : TheType). elements_onto u (data_from (map datum_of vs)) before) (sym is)

pub enumerators_leaves : (t : TheType) (n : ℕ) (vs : List Value) (before : List Leaf) → t ≡ enumeration n → all_have_type t (data_from (map datum_of vs)) ≡ true
    → numbers_onto 4 (map datum_of vs) before ≡ elements_onto t (data_from (map datum_of vs)) before
enumerators_leaves t n vs before is h =
    numbers_leaves (enumeration n) vs before refl (subst (λ (u : TheType). all_have_type u (data_from (map datum_of vs)) ≡ true) is h)
    ∙ ap (λ (u : TheType). elements_onto u (data_from (map datum_of vs)) before) (sym is)

-- the next of some numbers
pub numbers_next : (width : ℕ) (vs : List Value) (j : ℕ) (v : Value) (now : List Leaf) → j < length vs → v ≡ get_or vs j v
    → numbers_onto width (map datum_of (drop (j + 1) vs)) (whole width (bits_of width (number_of (datum_of v))) ∷ now) ≡ numbers_onto width (map datum_of (drop j vs)) now
numbers_next width vs j v now small is =
    ap (λ (u : Value). numbers_onto width (map datum_of (drop (j + 1) vs)) (whole width (bits_of width (number_of (datum_of u))) ∷ now)) is
    ∙ ap (λ (us : List Value). numbers_onto width (map datum_of us) now) (sym (drop_more vs j v small))

-- it fits, and so do those after it
pub numbers_here : (width : ℕ) (vs : List Value) (j : ℕ) (v : Value) → j < length vs → v ≡ get_or vs j v → list_all (is_number_within width) (map datum_of (drop j vs)) ≡ true
    → is_number_within width (datum_of v) ≡ true
numbers_here width vs j v small is h =
    subst (λ (u : Value). is_number_within width (datum_of u) ≡ true) (sym is)
    (first_so _ _ (subst (λ (us : List Value). list_all (is_number_within width) (map datum_of us) ≡ true) (drop_more vs j v small) h))

pub numbers_left : (width : ℕ) (vs : List Value) (j : ℕ) (v : Value) → j < length vs → list_all (is_number_within width) (map datum_of (drop j vs)) ≡ true
    → list_all (is_number_within width) (map datum_of (drop (j + 1) vs)) ≡ true
numbers_left width vs j v small h =
    second_so _ _ (subst (λ (us : List Value). list_all (is_number_within width) (map datum_of us) ≡ true) (drop_more vs j v small) h)

-- ---- elements

-- the next of some elements
pub elements_next : (t : TheType) (vs : List Value) (j : ℕ) (v : Value) (now : List Leaf) → j < length vs → v ≡ get_or vs j v
    → elements_onto t (data_from (map datum_of (drop (j + 1) vs))) (value_onto t (datum_of v) now) ≡ elements_onto t (data_from (map datum_of (drop j vs))) now
elements_next t vs j v now small is =
    ap (λ (u : Value). elements_onto t (data_from (map datum_of (drop (j + 1) vs))) (value_onto t (datum_of u) now)) is
    ∙ ap (λ (us : List Value). elements_onto t (data_from (map datum_of us)) now) (sym (drop_more vs j v small))

-- those after it fit
pub elements_left : (t : TheType) (vs : List Value) (j : ℕ) (v : Value) → j < length vs → all_have_type t (data_from (map datum_of (drop j vs))) ≡ true
    → all_have_type t (data_from (map datum_of (drop (j + 1) vs))) ≡ true
elements_left t vs j v small h =
    second_so _ _ (subst (λ (us : List Value). all_have_type t (data_from (map datum_of us)) ≡ true) (drop_more vs j v small) h)

-- ---- ranks

-- an argument of another rank than the last is fixed
is_fixed : (t : TheArgType) (rank : ℕ) → rank ≢ 4 → rank_of Two t ≡ rank → is_dynamic t ≡ false
is_fixed t rank other e = is_last t ∙ ap (λ (n : ℕ). eqb n 4) e ∙ ne_eqb rank 4 other

-- what follows the arguments of such a rank
rank_append : (rank : ℕ) (args rest : List Argument) (before : List Leaf) → rank ≢ 4
    → arguments_onto false (of_rank kind Two rank args ++ rest) before ≡ arguments_onto false rest (arguments_onto false (of_rank kind Two rank args) before)
rank_append rank [] rest before other = refl
rank_append rank (a ∷ args) rest before other =
    let xs = of_rank kind Two rank args in
    let P : Bool → Type 0 = λ v. arguments_onto false (cond v (a ∷ xs) xs ++ rest) before ≡ arguments_onto false rest (arguments_onto false (cond v (a ∷ xs) xs) before) in
    let Q : Bool → Type 0 = λ v. eqb (rank_of Two a.0) rank ≡ v → P v in
    let taken : Q true = λ e.
    let now = argument_onto a.0 a.1 before in
    let flag : is_dynamic a.0 ≡ false = is_fixed a.0 rank other (eqb-true (rank_of Two a.0) rank e) in
    ap (λ (v : Bool). arguments_onto v (xs ++ rest) now) flag ∙ rank_append rank args rest now other
    ∙ ap (λ (v : Bool). arguments_onto false rest (arguments_onto v xs now)) (sym flag) in
    let passed : Q false = λ e. rank_append rank args rest before other in
    let both : (v : Bool) → Q v = λ v. elim v as Q [ true ↦ taken | false ↦ passed ] in
    both (eqb (rank_of Two a.0) rank) refl

-- one rank more
pub rank_then_rest : (rank left : ℕ) (args : List Argument) (now : List Leaf) → rank < 5 → 5 - (rank + 1) ≡ left
    → arguments_onto false (of_ranks kind Two left (rank + 1) args) (arguments_onto false (of_rank kind Two rank args) now)
    ≡ arguments_onto false (of_ranks kind Two (5 - rank) rank args) now
rank_then_rest rank zero args now small e =
    let more : 5 - rank ≡ 1 = omega arith in
    rw (more, append-nil (of_rank kind Two rank args)) refl
rank_then_rest rank (suc left) args now small e =
    let more : 5 - rank ≡ suc (suc left) = omega arith in
    let other : rank ≢ 4 = λ h. absurd (omega (arith, h, e)) in
    rw more (sym (rank_append rank args (of_ranks kind Two (suc left) (rank + 1) args) now other))

-- an argument of the rank goes first, after a gap where one is due
pub rank_taken : (plan : PlanNo) (rank : ℕ) (v : Bool) (a : Argument) (args : List Argument) (now : List Leaf) → rank_of plan a.0 ≡ rank
    → arguments_onto v (of_rank kind plan rank (a ∷ args)) now ≡ arguments_onto (is_dynamic a.0) (of_rank kind plan rank args) (argument_onto a.0 a.1 (start_onto v now))
rank_taken plan rank v a args now e = rw (eq-eqb (rank_of plan a.0) rank e) refl

pub rank_passed : (plan : PlanNo) (rank : ℕ) (v : Bool) (a : Argument) (args : List Argument) (now : List Leaf) → rank_of plan a.0 ≢ rank
    → arguments_onto v (of_rank kind plan rank (a ∷ args)) now ≡ arguments_onto v (of_rank kind plan rank args) now
rank_passed plan rank v a args now e = rw (ne_eqb (rank_of plan a.0) rank e) refl

-- ---- arguments as declared

-- where no rank falls, those as declared are the plan's
pub as_declared : (ts : List TheArgType) (ds : List Datum) (least : ℕ) (before : List Leaf) → never_falls Two ts ≡ rises Two least []
    → arguments_onto false (zip ts ds) before ≡ arguments_onto false (arranged kind Two (zip ts ds)) before
as_declared ts ds least before up =
    ap (λ (xs : List Argument). arguments_onto false xs before) (sym (kept_arguments Two ts ds (up ∙ rises_end Two least)))

-- fitting arguments are as many as their types, so that these are used up with them
as_many : (ts : List TheArgType) (ds : List Datum) → are_arguments ts ds ≡ true → length ts ≡ length ds
as_many [] [] h = refl
as_many [] (d ∷ ds) h = absurd (false≢true h)
as_many (t ∷ ts) [] h = absurd (false≢true h)
as_many (t ∷ ts) (d ∷ ds) h = ap suc (as_many ts ds (second_so (is_argument t d) _ h))

pub none_left : (ts : List ArgType) (vs : List Value) (n : ℕ) → n ≡ min (length ts) (length vs) → are_arguments (map arg_type_of ts) (map datum_of vs) ≡ true → map arg_type_of (drop n ts) ≡ []
none_left ts vs n turns fit =
    let many = as_many (map arg_type_of ts) (map datum_of vs) fit in
    ap (map arg_type_of) (drop_all n ts (omega (arith, turns, many, length-map ts arg_type_of, length-map vs datum_of)))
