-- The arguments of a call, read in declared order where the plan keeps it.
use Rattle.std.proofs.Common.{◌≡◌, ℕ, ◌+◌, ◌*◌, ◌<◌, ◌≤◌, ◌&&◌, ◌/◌, ◌%◌, ◌^◌, pos, inr, Bool, true, false, List, [], ◌∷◌, ◌++◌, length, drop, get_or, refl, sym, ◌∙◌, ap, subst, arith, append_assoc}
use Rattle.std.specs.Prelude.{◌||◌, slice_get, slice_index}
use Rattle.std.specs.List.{zip, list_all}
use Rattle.std.specs.Cmp.{first_so, second_so}
use Rattle.std.proofs.lemmas.List.{append-nil, drop_more, drop_all}
use Rattle.std.proofs.lemmas.Bool.{le-leb, false≢true}
use Rattle.fl_base.specs.declared.fragment.Frag.{Frag}
use Rattle.fl_interface.specs.declared.interface.Scalar.TheVariants.{Uint64}
use Rattle.fl_interface.specs.Interface.{TheArgType, fixed, scalar}
use Rattle.fl_interface.specs.Sizes.{round_up}
use Rattle.fl_value_data.specs.Value.{Datum, number}
use Rattle.fl_value_data.specs.Fits.{is_argument, are_arguments}
use Rattle.fl_value_data.specs.Plan.{is_dynamic, rank_of, rising, never_falls, of_ranks}
use Rattle.fl_value_data.specs.declared.value.PlanNo.{PlanNo}
use Rattle.fl_value_data.specs.declared.value.PlanNo.TheVariants.{One, Two}
use Rattle.fl_value_data.proofs.Kept.{kept_arguments}
use Rattle.fl_value_data.specs.Tape.{Argument, kind}
use Rattle.fl_layout.specs.Leaves.{Leaf, gap, argument_onto, arguments_onto, start_onto}
use Rattle.fl_layout.specs.Places.{place}
use Rattle.fl_wire.specs.Alive.{argument_has_values}
use Rattle.fl_wire.specs.Covered.{holds, is_length}
use Rattle.fl_wire.specs.Shapes.{Shape, next_argument, arguments_of, values_of, calls_of, number_below, ReadAt}
use Rattle.fl_wire.specs.Standing.{byte_in, word_in, words_in}
use Rattle.fl_wire.proofs.Numbers.{from_low}
use Rattle.fl_wire.proofs.OneWord.{eight_in}
use Rattle.fl_wire.proofs.Sites.{number_got}
use Rattle.fl_wire.proofs.Parts.{scalar_numbers, scalar_join, begins_scalar, whole_read}
use Rattle.fl_wire.proofs.Agreement.{over_arguments}
use Rattle.fl_wire.proofs.Arguments.{arranged_ranks}
use Rattle.fl_wire.proofs.Steps.{Begins, Come, come_self, come_read, come_join, come_done}
use Rattle.fl_wire.proofs.Calls.{Same, come_same, itself, no_length_past}
use Rattle.fl_wire.proofs.Covers.{no_length_before}
use Rattle.fl_wire.proofs.Defaults.{both, default_arguments}

-- ---- the order

-- numbers of eight bytes have the first rank
pub wide_rank : (plan : PlanNo) → rank_of plan (fixed (scalar Uint64)) ≡ 0
wide_rank One = refl
wide_rank Two = refl

-- the ranks never fall from one on
abbrev pub rises : PlanNo → ℕ → List TheArgType → Bool
rises One least ts = true
rises Two least ts = rising (λ t. t) least ts

pub rises_all : (plan : PlanNo) (ts : List TheArgType) → never_falls plan ts ≡ rises plan 0 ts
rises_all One ts = refl
rises_all Two ts = refl

pub rises_on : (plan : PlanNo) (least : ℕ) (t : TheArgType) (ts : List TheArgType) → least ≤ rank_of plan t → rises plan least (t ∷ ts) ≡ rises plan (rank_of plan t) ts
rises_on One least t ts up = refl
rises_on Two least t ts up = rw (le-leb least (rank_of Two t) up) refl

-- the same from a list's place on
pub up_on : (plan : PlanNo) (ts : List TheArgType) (i least rank : ℕ) (t : TheArgType) → i < length ts → t ≡ get_or ts i t → least ≤ rank → rank ≡ rank_of plan t
    → never_falls plan ts ≡ rises plan least (drop i ts) → never_falls plan ts ≡ rises plan rank (drop (i + 1) ts)
up_on plan ts i least rank t small here up is so =
    let rest = drop (i + 1) ts in
    let more : drop i ts ≡ t ∷ rest = drop_more ts i t small ∙ ap (λ (u : TheArgType). u ∷ rest) (sym here) in
    let high : least ≤ rank_of plan t = omega (arith, up, is) in
    so ∙ ap (rises plan least) more ∙ rises_on plan least t rest high ∙ ap (λ (n : ℕ). rises plan n rest) (sym is)

pub rises_end : (plan : PlanNo) (least : ℕ) → rises plan least [] ≡ true
rises_end One least = refl
rises_end Two least = refl

-- ---- numbers of eight bytes, a word each

-- a place that is a multiple of 8 has no zeros before it
even_up : (at : ℕ) → at % 8 ≡ 0 → round_up at 8 ≡ at
even_up at even = omega (arith, even)

pub word_read : (frags : List Frag) (f w raw : ℕ) → w < 7 → raw < 2 ^ 64 → raw ≡ slice_index (words_in (slice_get frags f)) w
    → ReadAt (number_below 8 (2 ^ (8 * 8))) frags (56 * f + 8 * w) raw (56 * f + 8 * w + 8)
word_read frags f w raw inside small is = λ low here agree.
    let at = 56 * f + 8 * w in
    let even : at % 8 ≡ 0 = omega arith in
    let frag : at / 8 / 7 ≡ f = omega (arith, inside) in
    let word : at / 8 % 7 ≡ w = omega (arith, inside) in
    let there : raw ≡ word_in frags (at / 8)
    = is ∙ ap (λ (n : ℕ). slice_index (words_in (slice_get frags n)) w) (sym frag) ∙ ap (λ (n : ℕ). slice_index (words_in (slice_get frags (at / 8 / 7))) n) (sym word) in
    let same = even_up at even in
    number_got 8 (inr (inr (inr refl))) frags low at raw (at + 8) here agree
    (λ p after before. absurd (omega (arith, after, before, same)))
    (there ∙ eight_in frags at even (subst (λ (n : ℕ). n < 2 ^ 64) there small) ∙ ap (λ (n : ℕ). from_low 8 (λ j. byte_in frags (n + j))) (sym same))
    (ap (λ (n : ℕ). n + 8) (sym same))

pub wide_read : (frags : List Frag) (f at raw : ℕ) → f < length frags → at + 8 ≤ 56 * f + 56 → ReadAt (number_below 8 (2 ^ (8 * 8))) frags at raw (at + 8)
    → ReadAt (arguments_of (fixed (scalar Uint64))) frags at (number (pos raw)) (at + 8)
wide_read frags f at raw there within read =
    whole_read (values_of (scalar Uint64)) (number_below 8 (scalar_numbers Uint64)) frags at (at + 8) (scalar_join Uint64) raw (begins_scalar Uint64) (omega arith) (omega (arith, there, within)) read

-- ---- arguments in declared order

abbrev pub in_order : List TheArgType → Bool → Shape
in_order ts after = record {
  what = List Datum;
  fits = λ ds. are_arguments ts ds ≡ true;
  onto = λ ds low. arguments_onto after (zip ts ds) low;
  lengths = λ ds low p. is_length after (zip ts ds) low p;
  alive = list_all argument_has_values ts ≡ true;
}

or_none : (b : Bool) → (b || false) ≡ b
or_none true = refl
or_none false = refl

begins_order : (t : TheArgType) (ts : List TheArgType) (after : Bool) (low : List Leaf) → Begins (in_order (t ∷ ts) after) (next_argument after t) (λ d. in_order ts (is_dynamic t)) low (λ d ds. d ∷ ds)
begins_order t ts after low = record {
  split = λ ds f. split_arguments ds f;
  fit = λ d ds fd fds. both (is_argument t d) (are_arguments ts ds) fd fds;
  same = λ d ds fd fds. refl;
  over = λ d ds. over_arguments (is_dynamic t) (zip ts ds) _;
  alive = λ some. first_so (argument_has_values t) _ some;
  more = λ some d fd. default_arguments ts (second_so (argument_has_values t) _ some);
  alive_more = λ some d fd. second_so (argument_has_values t) _ some;
  lengths_first = λ d ds fd fds n inside.
      ap (λ (v : Bool). (is_dynamic t && holds (place (gap 8) low) 8 n) || v) (no_length_before (is_dynamic t) (zip ts ds) (argument_onto t d (start_onto after low)) n inside)
      ∙ or_none (is_dynamic t && holds (place (gap 8) low) 8 n);
  lengths_rest = λ d ds fd fds n past.
      ap (λ (v : Bool). v || is_length (is_dynamic t) (zip ts ds) (argument_onto t d (start_onto after low)) n) (no_length_past after t d low n fd past);
}
  where
    split_arguments : (ds : List Datum) → are_arguments (t ∷ ts) ds ≡ true → (d : Datum) × ((is_argument t d ≡ true) × ((es : List Datum) × ((ds ≡ d ∷ es) × (are_arguments ts es ≡ true))))
    split_arguments [] f = absurd (false≢true f)
    split_arguments (d ∷ ds) f = (d, (first_so (is_argument t d) _ f, (ds, (refl, second_so (is_argument t d) _ f))))

-- values before others
abbrev pub behind : List Datum → List Datum → List Datum
behind xs ds = xs ++ ds

-- those so far, and those that are left: none of these so far was a string or a sized array
pub order_start : (ts : List TheArgType) (frags : List Frag) → Come (in_order ts false) (in_order ts false) frags 0 0 (behind [])
order_start ts frags = come_self (in_order ts false) frags 0 (omega arith)

pub order_on : (ts : List TheArgType) (i : ℕ) (t : TheArgType) (frags : List Frag) (at end : ℕ) (xs all : List Datum) (d : Datum) → i < length ts → t ≡ get_or ts i t → is_dynamic t ≡ false
    → Come (in_order ts false) (in_order (drop i ts) false) frags 0 at (behind xs) → at ≤ end → end ≤ 56 * length frags → ReadAt (arguments_of t) frags at d end → all ≡ xs ++ d ∷ []
    → Come (in_order ts false) (in_order (drop (i + 1) ts) false) frags 0 end (behind all)
order_on ts i t frags at end xs all d small here short come later within read is =
    let rest = drop (i + 1) ts in
    let more : drop i ts ≡ t ∷ rest = drop_more ts i t small ∙ ap (λ (u : TheArgType). u ∷ rest) (sym here) in
    let come' : Come (in_order ts false) (in_order (t ∷ rest) false) frags 0 at (behind xs)
    = subst (λ (us : List TheArgType). Come (in_order ts false) (in_order us false) frags 0 at (behind xs)) more come in
    let next : Come (in_order ts false) (in_order rest (is_dynamic t)) frags 0 end (λ ds. behind xs (d ∷ ds))
    = come_read (in_order ts false) (in_order (t ∷ rest) false) (next_argument false t) (λ b. in_order rest (is_dynamic t)) frags 0 at end (behind xs) (λ b ds. b ∷ ds) d come' (begins_order t rest false) later within read in
    come_join (in_order ts false) (in_order rest false) frags 0 end (λ ds. behind xs (d ∷ ds)) (behind all) (λ ds. sym (ap (λ (ys : List Datum). ys ++ ds) is ∙ append_assoc xs (d ∷ []) ds))
    (subst (λ (b : Bool). Come (in_order ts false) (in_order rest b) frags 0 end (λ ds. behind xs (d ∷ ds))) short next)

-- one more, a number of eight bytes that is word w of fragment f
pub wide_on : (ts : List TheArgType) (i : ℕ) (t : TheArgType) (frags : List Frag) (f w at end : ℕ) (xs all : List Datum) (d : Datum) → i < length ts → t ≡ get_or ts i t → t ≡ fixed (scalar Uint64)
    → Come (in_order ts false) (in_order (drop i ts) false) frags 0 at (behind xs) → 56 * f + 8 * w ≡ at → end ≡ at + 8 → f < length frags → w < 7
    → ReadAt (arguments_of (fixed (scalar Uint64))) frags (56 * f + 8 * w) d (56 * f + 8 * w + 8) → all ≡ xs ++ d ∷ [] → Come (in_order ts false) (in_order (drop (i + 1) ts) false) frags 0 end (behind all)
wide_on ts i t frags f w at end xs all d small here wide come place ends there inside read is =
    let moved : ReadAt (arguments_of (fixed (scalar Uint64))) frags at d (at + 8) = subst (λ (n : ℕ). ReadAt (arguments_of (fixed (scalar Uint64))) frags n d (n + 8)) place read in
    let ended : ReadAt (arguments_of (fixed (scalar Uint64))) frags at d end = subst (λ (n : ℕ). ReadAt (arguments_of (fixed (scalar Uint64))) frags at d n) (sym ends) moved in
    order_on ts i t frags at end xs all d small here (ap is_dynamic wide) come (omega (arith, ends)) (omega (arith, ends, place, there, inside))
    (subst (λ (u : TheArgType). ReadAt (arguments_of u) frags at d end) (sym wide) ended) is

none_read : (frags : List Frag) (at : ℕ) → ReadAt (in_order [] false) frags at [] at
none_read frags at low here agree = record {
  fit = refl;
  ends = sym here;
  agree = agree;
  told = λ e full f over agrees. none e f;
}
  where
    none : (e : List Datum) → are_arguments [] e ≡ true → e ≡ []
    none [] f = refl
    none (d ∷ ds) f = absurd (false≢true f)

order_end : (ts : List TheArgType) (i : ℕ) (frags : List Frag) (at : ℕ) (xs : List Datum) → length ts ≤ i
    → Come (in_order ts false) (in_order (drop i ts) false) frags 0 at (behind xs) → ReadAt (in_order ts false) frags 0 xs at
order_end ts i frags at xs all come =
    let come' : Come (in_order ts false) (in_order [] false) frags 0 at (behind xs)
    = subst (λ (us : List TheArgType). Come (in_order ts false) (in_order us false) frags 0 at (behind xs)) (drop_all i ts all) come in
    subst (λ (ds : List Datum). ReadAt (in_order ts false) frags 0 ds at) (append-nil xs)
    (come_done (in_order ts false) (in_order [] false) frags 0 at at (behind xs) [] come' (omega arith) (none_read frags at))

-- ---- the plan's order

kept_order : (plan : PlanNo) (ts : List TheArgType) (ds : List Datum) → never_falls plan ts ≡ true → of_ranks kind plan 5 0 (zip ts ds) ≡ zip ts ds
kept_order plan ts ds up = sym (arranged_ranks kind plan (zip ts ds)) ∙ kept_arguments plan ts ds up

same_order : (plan : PlanNo) (ts : List TheArgType) → never_falls plan ts ≡ true → Same (calls_of plan ts) (in_order ts false) itself
same_order plan ts up = record {
  fit = λ e f. f;
  same = λ e low f. ap (λ (xs : List Argument). arguments_onto false xs low) (kept_order plan ts e up);
  told = λ d f. (d, (refl, f));
  alive = λ some. some;
  lengths = λ e low n f. ap (λ (xs : List Argument). is_length false xs low n) (kept_order plan ts e up);
}

-- all are read, and their ranks never fell
pub order_read : (plan : PlanNo) (ts : List TheArgType) (i least : ℕ) (frags : List Frag) (at : ℕ) (xs : List Datum) → length ts ≤ i → never_falls plan ts ≡ rises plan least (drop i ts)
    → Come (in_order ts false) (in_order (drop i ts) false) frags 0 at (behind xs) → ReadAt (calls_of plan ts) frags 0 xs at
order_read plan ts i least frags at xs all up come =
    let falls : never_falls plan ts ≡ true = up ∙ ap (rises plan least) (drop_all i ts all) ∙ rises_end plan least in
    come_done (calls_of plan ts) (in_order ts false) frags 0 0 at itself xs
    (come_same (calls_of plan ts) (calls_of plan ts) (in_order ts false) frags 0 0 itself itself (come_self (calls_of plan ts) frags 0 (omega arith)) (same_order plan ts falls))
    (omega arith) (order_end ts i frags at xs all come)
