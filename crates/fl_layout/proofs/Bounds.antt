-- More bytes or elements never end earlier.
use Rattle.std.proofs.Common.{◌≡◌, ℕ, ◌*◌, ◌≤◌, true, max, List, [], ◌∷◌, map, length, refl, arith}
use Rattle.std.proofs.lemmas.Bool.{and_parts, and_from, leb-true, false≢true}
use Rattle.std.proofs.Math.Nat.{mul-le-mul_right}
use Rattle.std.specs.List.{list_all, zip}
use Rattle.fl_interface.specs.Interface.{TheArgType, fixed, text, sized}
use Rattle.fl_interface.specs.Sizes.{size_of, align_of, IsAlign}
use Rattle.fl_interface.specs.Limits.{is_argument_within, are_arguments_within}
use Rattle.fl_value_data.specs.Value.{Datum, number, string, elements, fields}
use Rattle.fl_value_data.specs.Fits.{is_argument, are_arguments, count_of}
use Rattle.fl_layout.specs.Extents.{Filled, most_of, count_at, extent_of, end_of, due_after, end_of_all}
use Rattle.fl_interface.proofs.Aligned.{align_one, align_eight, greater_align, round_rises, type_align}
use Rattle.fl_value_data.specs.Tape.{Argument}
use Rattle.fl_layout.proofs.Ends.{is_good}

-- with the one count an argument never ends after it ends with the other
abbrev pub Rises : TheArgType → ℕ → ℕ → Type 0
Rises t m n = (at at' due : ℕ) → IsAlign due → at ≤ at' → end_of at due (extent_of t) m ≤ end_of at' due (extent_of t) n

pub times_rises : (k m n : ℕ) → m ≤ n → m * k ≤ n * k
times_rises k m n h = mul-le-mul_right k h

pub none_rises : (t : TheArgType) (n : ℕ) → Rises t 0 n
none_rises (fixed t) n at at' due d h = omega (arith, round_rises (max due (align_of t)) at at' (greater_align due (align_of t) d (type_align t)) h)
none_rises (text most) n at at' due d h = omega (arith, round_rises 8 at at' align_eight h)
none_rises (sized most t) n at at' due d h = omega (arith, round_rises 8 at at' align_eight h, times_rises (size_of t) 0 n (omega arith))

pub most_rises : (t : TheArgType) (d : Datum) → is_argument t d ≡ true → Rises t (count_at (extent_of t) d) (most_of (extent_of t))
most_rises (fixed t) d h at at' due a r = omega (arith, round_rises (max due (align_of t)) at at' (greater_align due (align_of t) a (type_align t)) r)
most_rises (text most) (string bytes) h at at' due a r =
    omega (arith, round_rises 8 at at' align_eight r, leb-true (length bytes) most (and_parts _ _ h).0)
most_rises (sized most t) (elements ds) h at at' due a r =
    omega (arith, round_rises 8 at at' align_eight r, times_rises (size_of t) (count_of ds) most (leb-true (count_of ds) most (and_parts _ _ h).0))
most_rises (text most) (number z) h at at' due a r = absurd (false≢true h)
most_rises (text most) (elements ds) h at at' due a r = absurd (false≢true h)
most_rises (text most) (fields ds) h at at' due a r = absurd (false≢true h)
most_rises (sized most t) (number z) h at at' due a r = absurd (false≢true h)
most_rises (sized most t) (string b) h at at' due a r = absurd (false≢true h)
most_rises (sized most t) (fields ds) h at at' due a r = absurd (false≢true h)

pub due_aligned : (t : TheArgType) → IsAlign (due_after (extent_of t))
due_aligned (fixed t) = align_one
due_aligned (text most) = align_eight
due_aligned (sized most t) = align_eight

abbrev pub with_count : (Argument → ℕ) → Argument → Filled
with_count f y = (extent_of y.0, f y)

pub all_rise : (ys : List Argument) (f g : Argument → ℕ) → ((y : Argument) → is_good y ≡ true → Rises y.0 (f y) (g y)) → list_all is_good ys ≡ true
    → (at at' due : ℕ) → IsAlign due → at ≤ at'
    → end_of_all at due (map (with_count f) ys) ≤ end_of_all at' due (map (with_count g) ys)
all_rise [] f g rise h at at' due d r = r
all_rise (y ∷ ys) f g rise h at at' due d r =
    let good = and_parts (is_good y) (list_all is_good ys) h in
    all_rise ys f g rise good.1 (end_of at due (extent_of y.0) (f y)) (end_of at' due (extent_of y.0) (g y)) (due_after (extent_of y.0)) (due_aligned y.0)
    (rise y good.0 at at' due d r)

pub good_zip : (ts : List TheArgType) (ds : List Datum) → are_arguments_within ts ≡ true → are_arguments ts ds ≡ true → list_all is_good (zip ts ds) ≡ true
good_zip [] [] w h = refl
good_zip (t ∷ ts) (d ∷ ds) w h =
    let within = and_parts (is_argument_within t) (are_arguments_within ts) w in
    let has = and_parts (is_argument t d) (are_arguments ts ds) h in
    and_from _ _ (and_from _ _ within.0 has.0) (good_zip ts ds within.1 has.1)
good_zip [] (d ∷ ds) w h = absurd (false≢true h)
good_zip (t ∷ ts) [] w h = absurd (false≢true h)

pub same_length : (ts : List TheArgType) (ds : List Datum) → are_arguments ts ds ≡ true → length ts ≡ length ds
same_length [] [] h = refl
same_length (t ∷ ts) (d ∷ ds) h = omega (arith, same_length ts ds (and_parts (is_argument t d) (are_arguments ts ds) h).1)
same_length [] (d ∷ ds) h = absurd (false≢true h)
same_length (t ∷ ts) [] h = absurd (false≢true h)
