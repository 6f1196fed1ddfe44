-- The arguments of a call, read rank by rank.
use Rattle.std.proofs.Common.{◌≡◌, ◌≢◌, ℕ, zero, suc, ◌+◌, ◌-◌, ◌<◌, ◌≤◌, Bool, true, false, ◌⊎◌, inl, inr, ⊎_elim, List, [], ◌∷◌, ◌++◌, length, drop, get_or, set, refl, sym, ◌∙◌, ap, subst, arith, ◌&&◌}
use Rattle.std.specs.List.{zip, list_all}
use Rattle.std.specs.Prelude.{◌||◌}
use Rattle.std.specs.Cmp.{first_so, second_so}
use Rattle.std.proofs.lemmas.List.{drop_all, get_or-set_same, get_or-set_other, length-set, ext_get_or}
use Rattle.std.proofs.lemmas.Bool.{cases_lt, false≢true}
use Rattle.fl_base.specs.declared.fragment.Frag.{Frag}
use Rattle.fl_interface.specs.Interface.{TheArgType, fixed, text, sized}
use Rattle.fl_value_data.specs.Value.{Datum, string, elements}
use Rattle.fl_value_data.specs.Fits.{is_argument, are_arguments, count_of}
use Rattle.fl_value_data.specs.Plan.{is_dynamic, rank_of, of_rank, of_ranks}
use Rattle.fl_value_data.specs.declared.value.PlanNo.{PlanNo}
use Rattle.fl_value_data.specs.Tape.{Argument, kind}
use Rattle.fl_layout.specs.Leaves.{Leaf, gap, whole, bytes_onto, elements_onto, argument_onto, arguments_onto, start_onto}
use Rattle.fl_layout.specs.Places.{size, place}
use Rattle.fl_wire.specs.Alive.{argument_has_values}
use Rattle.fl_wire.specs.Covered.{holds, is_length}
use Rattle.fl_wire.specs.Shapes.{Agrees, Shape, starts_after, arguments_of, next_argument, calls_of, ReadAt}
use Rattle.fl_wire.proofs.Agreement.{over_argument, over_arguments, over_bytes, over_elements, grows, rank_small}
use Rattle.fl_wire.proofs.Numbers.{none_such, rank_here, rank_elsewhere}
use Rattle.fl_wire.proofs.Steps.{goes_on, Begins, Come, come_self}
use Rattle.fl_wire.proofs.Defaults.{both, default_argument, default_arguments}
use Rattle.fl_wire.proofs.Covers.{holds_before, holds_past, no_length_before}
use Rattle.fl_wire.proofs.Bytes.{size_le_place}

-- ---- an argument and what stands before it

pub start_none : (frags : List Frag) (at : ℕ) → ReadAt (starts_after false) frags at tt at
start_none frags at low here agree = record { fit = tt; ends = sym here; agree = agree; told = λ e full f over agrees. refl }

pub begins_argument : (after : Bool) (t : TheArgType) (low : List Leaf) → Begins (next_argument after t) (starts_after after) (λ u. arguments_of t) low (λ u d. d)
begins_argument after t low = record {
  split = λ d f. (tt, (tt, (d, (refl, f))));
  fit = λ b e fb fe. fe;
  same = λ b e fb fe. refl;
  over = λ b e. over_argument t e _;
  alive = λ some. tt;
  more = λ some b fb. let (d, f) = default_argument t some in (d, f);
  alive_more = λ some b fb. some;
  lengths_first = λ b e fb fe n inside. start_first after t low n inside;
  lengths_rest = λ b e fb fe n past. ap (λ (m : ℕ). is_dynamic t && holds m 8 n) (sym (start_place after low));
}
  where
    start_place : (after : Bool) (low : List Leaf) → place (gap 8) (start_onto after low) ≡ place (gap 8) low
    start_place true low = omega arith
    start_place false low = refl

    start_within : (after : Bool) (low : List Leaf) (n : ℕ) → n < size (start_onto after low) → n < place (gap 8) low
    start_within true low n inside = omega (arith, inside)
    start_within false low n inside = omega (arith, inside, size_le_place (size low) 8)

    start_first : (after : Bool) (t : TheArgType) (low : List Leaf) (n : ℕ) → n < size (start_onto after low) → (is_dynamic t && holds (place (gap 8) low) 8 n) ≡ false
    start_first after t low n inside =
        rw (holds_before (place (gap 8) low) 8 n (start_within after low n inside)) (elim (is_dynamic t) as (λ v. (v && false) ≡ false) [ true ↦ refl | false ↦ refl ])

-- ---- the same things under another name

pub record Same (y z : Shape) (next : z.what → y.what) : Type 0 where
  pub fit : (e : z.what) → z.fits e → y.fits (next e)
  pub same : (e : z.what) (low : List Leaf) → z.fits e → y.onto (next e) low ≡ z.onto e low
  pub told : (d : y.what) → y.fits d → (e : z.what) × ((d ≡ next e) × z.fits e)
  pub alive : y.alive → z.alive
  pub lengths : (e : z.what) (low : List Leaf) (n : ℕ) → z.fits e → y.lengths (next e) low n ≡ z.lengths e low n

pub come_same : (x y z : Shape) (frags : List Frag) (start at : ℕ) (join : y.what → x.what) (next : z.what → y.what) → Come x y frags start at join → Same y z next → Come x z frags start at (λ e. join (next e))
come_same x y z frags start at join next come s = λ low here agree.
    let (now, (same, goes)) = come low here agree in (
      now,
      (
        same,
        goes_on x y z frags low now now join next goes record {
          later = omega arith;
          within = goes.within;
          agree = goes.agree;
          fit = s.fit;
          same = λ e f. s.same e now f;
          told = λ d full f over agrees. s.told d f;
          alive = s.alive;
          lengths = λ e f n past. s.lengths e now n f;
        },
      ),
    )

-- ---- which arguments are read

abbrev pub rank_at : PlanNo → List TheArgType → ℕ → ℕ
rank_at plan ts k = rank_of plan (get_or ts k (text 0))

-- those of the ranks below one, and those of that rank before an index
abbrev pub IsRead : PlanNo → ℕ → ℕ → List TheArgType → ℕ → Type 0
IsRead plan rank j ts k = (rank_at plan ts k < rank) ⊎ ((rank_at plan ts k ≡ rank) × (k < j))

-- they are these values
pub record SameRead (plan : PlanNo) (rank j : ℕ) (ts : List TheArgType) (ds vs : List Datum) : Type 0 where
  pub at : (k : ℕ) → k < length ts → IsRead plan rank j ts k → get_or ds k (string []) ≡ get_or vs k (string [])

-- they have their types
pub record FitRead (plan : PlanNo) (rank j : ℕ) (ts : List TheArgType) (vs : List Datum) : Type 0 where
  pub at : (k : ℕ) → k < length ts → IsRead plan rank j ts k → is_argument (get_or ts k (text 0)) (get_or vs k (string [])) ≡ true

-- what is left within a rank, and from a rank on
abbrev pub left_in : PlanNo → ℕ → ℕ → List TheArgType → List Datum → Bool → Shape
left_in plan rank j ts vs after = record {
  what = List Datum;
  fits = λ ds. (are_arguments ts ds ≡ true) × SameRead plan rank j ts ds vs;
  onto = λ ds low. arguments_onto after (of_rank kind plan rank (drop j (zip ts ds)) ++ of_ranks kind plan (4 - rank) (rank + 1) (zip ts ds)) low;
  lengths = λ ds low p. is_length after (of_rank kind plan rank (drop j (zip ts ds)) ++ of_ranks kind plan (4 - rank) (rank + 1) (zip ts ds)) low p;
  alive = (list_all argument_has_values ts ≡ true) × ((ds : List Datum) × ((are_arguments ts ds ≡ true) × SameRead plan rank j ts ds vs));
}

abbrev pub left_from : PlanNo → ℕ → List TheArgType → List Datum → Bool → Shape
left_from plan rank ts vs after = record {
  what = List Datum;
  fits = λ ds. (are_arguments ts ds ≡ true) × SameRead plan rank 0 ts ds vs;
  onto = λ ds low. arguments_onto after (of_ranks kind plan (5 - rank) rank (zip ts ds)) low;
  lengths = λ ds low p. is_length after (of_ranks kind plan (5 - rank) rank (zip ts ds)) low p;
  alive = (list_all argument_has_values ts ≡ true) × ((ds : List Datum) × ((are_arguments ts ds ≡ true) × SameRead plan rank 0 ts ds vs));
}

abbrev pub itself : List Datum → List Datum
itself ds = ds

-- ---- lists of arguments

pub fit_length : (ts : List TheArgType) (ds : List Datum) → are_arguments ts ds ≡ true → length ds ≡ length ts
fit_length [] [] h = refl
fit_length [] (d ∷ ds) h = absurd (false≢true h)
fit_length (t ∷ ts) [] h = absurd (false≢true h)
fit_length (t ∷ ts) (d ∷ ds) h = ap suc (fit_length ts ds (second_so (is_argument t d) _ h))

pub fit_get : (ts : List TheArgType) (ds : List Datum) (k : ℕ) → are_arguments ts ds ≡ true → k < length ts → is_argument (get_or ts k (text 0)) (get_or ds k (string [])) ≡ true
fit_get [] ds k h small = absurd (omega (arith, small))
fit_get (t ∷ ts) [] k h small = absurd (false≢true h)
fit_get (t ∷ ts) (d ∷ ds) zero h small = first_so (is_argument t d) _ h
fit_get (t ∷ ts) (d ∷ ds) (suc k) h small = fit_get ts ds k (second_so (is_argument t d) _ h) (omega (arith, small))

all_fit : (ts : List TheArgType) (vs : List Datum) → length vs ≡ length ts → ((k : ℕ) → k < length ts → is_argument (get_or ts k (text 0)) (get_or vs k (string [])) ≡ true) → are_arguments ts vs ≡ true
all_fit [] [] long h = refl
all_fit [] (v ∷ vs) long h = absurd (omega (arith, long))
all_fit (t ∷ ts) [] long h = absurd (omega (arith, long))
all_fit (t ∷ ts) (v ∷ vs) long h = both (is_argument t v) (are_arguments ts vs) (h 0 (omega arith)) (all_fit ts vs (omega (arith, long)) (λ k small. h (suc k) (omega (arith, small))))

zip_length : (ts : List TheArgType) (ds : List Datum) → length ds ≡ length ts → length (zip ts ds) ≡ length ts
zip_length [] [] long = refl
zip_length [] (d ∷ ds) long = refl
zip_length (t ∷ ts) [] long = absurd (omega (arith, long))
zip_length (t ∷ ts) (d ∷ ds) long = ap suc (zip_length ts ds (omega (arith, long)))

zip_get : (ts : List TheArgType) (ds : List Datum) (k : ℕ) → length ds ≡ length ts → k < length ts → get_or (zip ts ds) k none_such ≡ (get_or ts k (text 0), get_or ds k (string []))
zip_get [] ds k long small = absurd (omega (arith, small))
zip_get (t ∷ ts) [] k long small = absurd (omega (arith, long))
zip_get (t ∷ ts) (d ∷ ds) zero long small = refl
zip_get (t ∷ ts) (d ∷ ds) (suc k) long small = zip_get ts ds k (omega (arith, long)) (omega (arith, small))

-- ---- steps

none_read : (plan : PlanNo) (ts : List TheArgType) (ds vs : List Datum) → SameRead plan 0 0 ts ds vs
none_read plan ts ds vs = record { at = λ k small read. ⊎_elim (λ (h : rank_at plan ts k < 0). absurd (omega (arith, h))) (λ h. absurd (omega (arith, h.1))) read }

pub none_fit : (plan : PlanNo) (ts : List TheArgType) (vs : List Datum) → FitRead plan 0 0 ts vs
none_fit plan ts vs = record { at = λ k small read. ⊎_elim (λ (h : rank_at plan ts k < 0). absurd (omega (arith, h))) (λ h. absurd (omega (arith, h.1))) read }

pub at_start : (plan : PlanNo) (ts : List TheArgType) (vs : List Datum) → Same (calls_of plan ts) (left_from plan 0 ts vs false) itself
at_start plan ts vs = record {
  fit = λ e f. f.0;
  same = λ e low f. refl;
  told = λ d f. (d, (refl, (f, none_read plan ts d vs)));
  alive = λ some. let (ds, f) = default_arguments ts some in (some, (ds, (f, none_read plan ts ds vs)));
  lengths = λ e low n f. refl;
}

pub into_rank : (plan : PlanNo) (rank : ℕ) (ts : List TheArgType) (vs : List Datum) (after : Bool) → rank < 5 → Same (left_from plan rank ts vs after) (left_in plan rank 0 ts vs after) itself
into_rank plan rank ts vs after small = record {
  fit = λ e f. f;
  same = λ e low f. ap (λ (n : ℕ). arguments_onto after (of_ranks kind plan n rank (zip ts e)) low) more;
  told = λ d f. (d, (refl, f));
  alive = λ some. some;
  lengths = λ e low p f. ap (λ (n : ℕ). is_length after (of_ranks kind plan n rank (zip ts e)) low p) more;
}
  where
    more : 5 - rank ≡ suc (4 - rank)
    more = omega arith

-- past an argument of another rank
further : (plan : PlanNo) (rank j k : ℕ) (ts : List TheArgType) → IsRead plan rank j ts k → IsRead plan rank (j + 1) ts k
further plan rank j k ts (inl h) = inl h
further plan rank j k ts (inr h) = inr (h.0, omega (arith, h.1))

not_further : (plan : PlanNo) (rank j k : ℕ) (ts : List TheArgType) → rank_at plan ts j ≢ rank → IsRead plan rank (j + 1) ts k → IsRead plan rank j ts k
not_further plan rank j k ts other (inl h) = inl h
not_further plan rank j k ts other (inr h) = ⊎_elim
    (λ (before : k < j). inr (h.0, before))
    (λ (here : j ≤ k). let e : k ≡ j = omega (arith, here, h.1) in absurd (other (subst (λ (m : ℕ). rank_at plan ts m ≡ rank) e h.0)))
    (cases_lt k j)

-- what is left of a rank, past an argument of another
skip_other : (plan : PlanNo) (rank j : ℕ) (ts : List TheArgType) (e : List Datum) → j < length ts → rank_at plan ts j ≢ rank → are_arguments ts e ≡ true
    → of_rank kind plan rank (drop j (zip ts e)) ≡ of_rank kind plan rank (drop (j + 1) (zip ts e))
skip_other plan rank j ts e small other fits =
    let long = fit_length ts e fits in
    let type : (get_or (zip ts e) j none_such).0 ≡ get_or ts j (text 0) = ap (λ (a : Argument). a.0) (zip_get ts e j long small) in
    rank_elsewhere plan rank j (zip ts e) none_such (omega (arith, small, zip_length ts e long)) (λ h. other (sym (ap (rank_of plan) type) ∙ h))

pub past_other : (plan : PlanNo) (rank j : ℕ) (ts : List TheArgType) (vs : List Datum) (after : Bool) → j < length ts → rank_at plan ts j ≢ rank
    → Same (left_in plan rank j ts vs after) (left_in plan rank (j + 1) ts vs after) itself
past_other plan rank j ts vs after small other = record {
  fit = λ e f. (f.0, record { at = λ k h read. f.1.at k h (further plan rank j k ts read) });
  same = λ e low f. ap (λ (xs : List Argument). arguments_onto after (xs ++ of_ranks kind plan (4 - rank) (rank + 1) (zip ts e)) low) (skip_other plan rank j ts e small other f.0);
  told = λ d f. (d, (refl, (f.0, record { at = λ k h read. f.1.at k h (not_further plan rank j k ts other read) })));
  alive = λ some. (some.0, (some.1.0, (some.1.1.0, record { at = λ k h read. some.1.1.1.at k h (not_further plan rank j k ts other read) })));
  lengths = λ e low n f. ap (λ (xs : List Argument). is_length after (xs ++ of_ranks kind plan (4 - rank) (rank + 1) (zip ts e)) low n) (skip_other plan rank j ts e small other f.0);
}

pub past_fit : (plan : PlanNo) (rank j : ℕ) (ts : List TheArgType) (vs : List Datum) → rank_at plan ts j ≢ rank → FitRead plan rank j ts vs → FitRead plan rank (j + 1) ts vs
past_fit plan rank j ts vs other r = record { at = λ k h read. r.at k h (not_further plan rank j k ts other read) }

-- past a rank
rank_done : (plan : PlanNo) (rank j k : ℕ) (ts : List TheArgType) → IsRead plan rank j ts k → IsRead plan (rank + 1) 0 ts k
rank_done plan rank j k ts (inl h) = inl (omega (arith, h))
rank_done plan rank j k ts (inr h) = inl (omega (arith, h.0))

rank_read : (plan : PlanNo) (rank j k : ℕ) (ts : List TheArgType) → k < j → IsRead plan (rank + 1) 0 ts k → IsRead plan rank j ts k
rank_read plan rank j k ts before (inl h) = ⊎_elim
    (λ (below : rank_at plan ts k < rank). inl below)
    (λ (own : rank ≤ rank_at plan ts k). inr (omega (arith, own, h), before))
    (cases_lt (rank_at plan ts k) rank)
rank_read plan rank j k ts before (inr h) = absurd (omega (arith, h.1))

-- nothing is left of a rank past its last argument
rank_over : (plan : PlanNo) (rank j : ℕ) (ts : List TheArgType) (e : List Datum) → length ts ≤ j → are_arguments ts e ≡ true
    → of_rank kind plan rank (drop j (zip ts e)) ++ of_ranks kind plan (4 - rank) (rank + 1) (zip ts e) ≡ of_ranks kind plan (5 - (rank + 1)) (rank + 1) (zip ts e)
rank_over plan rank j ts e all fits =
    let none : drop j (zip ts e) ≡ [] = drop_all j (zip ts e) (omega (arith, all, zip_length ts e (fit_length ts e fits))) in
    let left : 4 - rank ≡ 5 - (rank + 1) = omega arith in
    ap (λ (xs : List Argument). of_rank kind plan rank xs ++ of_ranks kind plan (4 - rank) (rank + 1) (zip ts e)) none
    ∙ ap (λ (n : ℕ). of_ranks kind plan n (rank + 1) (zip ts e)) left

pub past_rank : (plan : PlanNo) (rank j : ℕ) (ts : List TheArgType) (vs : List Datum) (after : Bool) → length ts ≤ j → Same (left_in plan rank j ts vs after) (left_from plan (rank + 1) ts vs after) itself
past_rank plan rank j ts vs after all = record {
  fit = λ e f. (f.0, record { at = λ k h read. f.1.at k h (rank_done plan rank j k ts read) });
  same = λ e low f. ap (λ (xs : List Argument). arguments_onto after xs low) (rank_over plan rank j ts e all f.0);
  told = λ d f. (d, (refl, (f.0, record { at = λ k h read. f.1.at k h (rank_read plan rank j k ts (omega (arith, h, all)) read) })));
  alive = λ some. (some.0, (some.1.0, (some.1.1.0, record { at = λ k h read. some.1.1.1.at k h (rank_read plan rank j k ts (omega (arith, h, all)) read) })));
  lengths = λ e low n f. ap (λ (xs : List Argument). is_length after xs low n) (rank_over plan rank j ts e all f.0);
}

pub rank_fit : (plan : PlanNo) (rank j : ℕ) (ts : List TheArgType) (vs : List Datum) → length ts ≤ j → FitRead plan rank j ts vs → FitRead plan (rank + 1) 0 ts vs
rank_fit plan rank j ts vs all r = record { at = λ k h read. r.at k h (rank_read plan rank j k ts (omega (arith, h, all)) read) }

-- an argument is read
not_itself : (plan : PlanNo) (rank j k : ℕ) (ts : List TheArgType) → rank_at plan ts j ≡ rank → IsRead plan rank j ts k → k ≢ j
not_itself plan rank j k ts own (inl h) = λ e. absurd (omega (arith, h, own, ap (rank_at plan ts) e))
not_itself plan rank j k ts own (inr h) = λ e. absurd (omega (arith, h.1, e))

one_more : (plan : PlanNo) (rank j k : ℕ) (ts : List TheArgType) → rank_at plan ts j ≡ rank → IsRead plan rank (j + 1) ts k → (k ≡ j) ⊎ ((k ≢ j) × IsRead plan rank j ts k)
one_more plan rank j k ts own (inl h) = inr (not_itself plan rank j k ts own (inl h), inl h)
one_more plan rank j k ts own (inr h) = ⊎_elim
    (λ (before : k < j). inr (not_itself plan rank j k ts own (inr (h.0, before)), inr (h.0, before)))
    (λ (here : j ≤ k). inl (omega (arith, here, h.1)))
    (cases_lt k j)

-- the next argument in the place of another
set_fit : (ts : List TheArgType) (ds : List Datum) (j : ℕ) (d : Datum) → j < length ts → are_arguments ts ds ≡ true → is_argument (get_or ts j (text 0)) d ≡ true → are_arguments ts (set ds j d) ≡ true
set_fit ts ds j d small fits one =
    let long = fit_length ts ds fits in
    all_fit ts (set ds j d) (length-set ds j d ∙ long) (λ k h. ⊎_elim
    (λ (before : k < j). rw (get_or-set_other ds j k d (string []) (λ e. absurd (omega (arith, e, before)))) (fit_get ts ds k fits h))
    (λ (rest : j ≤ k). ⊎_elim
    (λ (after : j < k). rw (get_or-set_other ds j k d (string []) (λ e. absurd (omega (arith, e, after)))) (fit_get ts ds k fits h))
    (λ (back : k ≤ j).
    let here : k ≡ j = omega (arith, rest, back) in
    let P : ℕ → Type 0 = λ m. is_argument (get_or ts m (text 0)) (get_or (set ds j d) m (string [])) ≡ true in
    subst P (sym here) (rw (get_or-set_same ds j d (string []) (omega (arith, small, long))) one))
    (cases_lt j k))
    (cases_lt k j))

set_same : (plan : PlanNo) (rank j : ℕ) (ts : List TheArgType) (ds vs : List Datum) (d : Datum) → j < length ts → length ds ≡ length ts → length vs ≡ length ts → rank_at plan ts j ≡ rank
    → SameRead plan rank j ts ds vs → SameRead plan rank (j + 1) ts (set ds j d) (set vs j d)
set_same plan rank j ts ds vs d small long_ds long_vs own same = record {
  at = λ k h read. ⊎_elim
      (λ (e : k ≡ j).
      let P : ℕ → Type 0 = λ m. get_or (set ds j d) m (string []) ≡ get_or (set vs j d) m (string []) in
      subst P (sym e) (get_or-set_same ds j d (string []) (omega (arith, small, long_ds)) ∙ sym (get_or-set_same vs j d (string []) (omega (arith, small, long_vs)))))
      (λ (apart : (k ≢ j) × IsRead plan rank j ts k). get_or-set_other ds j k d (string []) apart.0 ∙ same.at k h apart.1 ∙ sym (get_or-set_other vs j k d (string []) apart.0))
      (one_more plan rank j k ts own read);
}

all_get : (ts : List TheArgType) (j : ℕ) → j < length ts → list_all argument_has_values ts ≡ true → argument_has_values (get_or ts j (text 0)) ≡ true
all_get [] j small h = absurd (omega (arith, small))
all_get (t ∷ ts) zero small h = first_so (argument_has_values t) _ h
all_get (t ∷ ts) (suc j) small h = all_get ts j (omega (arith, small)) (second_so (argument_has_values t) _ h)

-- a string or a sized array ends after its length
dynamic_end : (t : TheArgType) (d : Datum) (low : List Leaf) → is_dynamic t ≡ true → is_argument t d ≡ true → place (gap 8) low + 8 ≤ size (argument_onto t d low)
dynamic_end (fixed t) d low h f = absurd (false≢true h)
dynamic_end (text max) (string bytes) low h f =
    let over = over_bytes bytes (whole 8 (length bytes) ∷ low) in
    let is : size (bytes_onto bytes (whole 8 (length bytes) ∷ low)) ≡ size (over.more ++ whole 8 (length bytes) ∷ low) = ap size over.is in
    omega (arith, is, grows over.more (whole 8 (length bytes) ∷ low))
dynamic_end (sized max t) (elements ds) low h f =
    let over = over_elements t ds (whole 8 (count_of ds) ∷ low) in
    let is : size (elements_onto t ds (whole 8 (count_of ds) ∷ low)) ≡ size (over.more ++ whole 8 (count_of ds) ∷ low) = ap size over.is in
    omega (arith, is, grows over.more (whole 8 (count_of ds) ∷ low))
dynamic_end t d low h f = absurd (false≢true f)

start_same : (after : Bool) (low : List Leaf) → place (gap 8) (start_onto after low) ≡ place (gap 8) low
start_same true low = omega arith
start_same false low = refl

pub no_length_past : (after : Bool) (t : TheArgType) (d : Datum) (low : List Leaf) (n : ℕ) → is_argument t d ≡ true → size (argument_onto t d (start_onto after low)) ≤ n
    → (is_dynamic t && holds (place (gap 8) low) 8 n) ≡ false
no_length_past after t d low n fits past = helper (is_dynamic t) refl
  where
    helper : (b : Bool) → is_dynamic t ≡ b → (b && holds (place (gap 8) low) 8 n) ≡ false
    helper true e = holds_past (place (gap 8) low) 8 n (omega (arith, past, start_same after low, dynamic_end t d (start_onto after low) e fits))
    helper false e = refl

or_none : (b : Bool) → (b || false) ≡ b
or_none true = refl
or_none false = refl

pub begins_next : (plan : PlanNo) (rank j : ℕ) (ts : List TheArgType) (t : TheArgType) (vs : List Datum) (after : Bool) → j < length ts → length vs ≡ length ts → t ≡ get_or ts j (text 0) → rank_at plan ts j ≡ rank
    → (low : List Leaf) → Begins (left_in plan rank j ts vs after) (next_argument after t) (λ d. left_in plan rank (j + 1) ts (set vs j d) (is_dynamic t)) low (λ d ds. ds)
begins_next plan rank j ts t vs after small long type own low = record {
  split = λ ds f.
      let d = get_or ds j (string []) in
      let same = get_or-set_same vs j d (string []) (omega (arith, small, long)) in (
        d,
        (
          subst (λ (u : TheArgType). is_argument u d ≡ true) (sym type) (fit_get ts ds j f.0 small),
          (
            ds,
            (
              refl,
              (
                f.0,
                record {
                  at = λ k h read. ⊎_elim
                      (λ (e : k ≡ j). ap (λ (m : ℕ). get_or ds m (string [])) e ∙ sym same ∙ sym (ap (λ (m : ℕ). get_or (set vs j d) m (string [])) e))
                      (λ (apart : (k ≢ j) × IsRead plan rank j ts k). f.1.at k h apart.1 ∙ sym (get_or-set_other vs j k d (string []) apart.0))
                      (one_more plan rank j k ts own read);
                },
              ),
            ),
          ),
        ),
      );
  fit = λ d ds fd fds. (
    fds.0,
    record {
      at = λ k h read. fds.1.at k h (further plan rank j k ts read) ∙ get_or-set_other vs j k d (string []) (not_itself plan rank j k ts own read);
    },
  );
  same = λ d ds fd fds. ap (λ (xs : List Argument). arguments_onto after xs low) (next_list d ds fds);
  over = λ d ds. over_arguments (is_dynamic t) (of_rank kind plan rank (drop (j + 1) (zip ts ds)) ++ of_ranks kind plan (4 - rank) (rank + 1) (zip ts ds)) _;
  alive = λ some. subst (λ (u : TheArgType). argument_has_values u ≡ true) (sym type) (all_get ts j small some.0);
  more = λ some d fd. more_of some.1.0 some.1.1.0 some.1.1.1 d fd;
  alive_more = λ some d fd. (some.0, more_of some.1.0 some.1.1.0 some.1.1.1 d fd);
  lengths_first = λ d ds fd fds n inside.
      let rest = of_rank kind plan rank (drop (j + 1) (zip ts ds)) ++ of_ranks kind plan (4 - rank) (rank + 1) (zip ts ds) in
      ap (λ (xs : List Argument). is_length after xs low n) (next_list d ds fds)
      ∙ ap (λ (v : Bool). (is_dynamic t && holds (place (gap 8) low) 8 n) || v) (no_length_before (is_dynamic t) rest (argument_onto t d (start_onto after low)) n inside)
      ∙ or_none (is_dynamic t && holds (place (gap 8) low) 8 n);
  lengths_rest = λ d ds fd fds n past.
      let rest = of_rank kind plan rank (drop (j + 1) (zip ts ds)) ++ of_ranks kind plan (4 - rank) (rank + 1) (zip ts ds) in
      ap (λ (xs : List Argument). is_length after xs low n) (next_list d ds fds)
      ∙ ap (λ (v : Bool). v || is_length (is_dynamic t) rest (argument_onto t d (start_onto after low)) n) (no_length_past after t d low n fd past);
}
  where
    more_of : (ds : List Datum) → are_arguments ts ds ≡ true → SameRead plan rank j ts ds vs → (d : Datum) → is_argument t d ≡ true
        → (es : List Datum) × ((are_arguments ts es ≡ true) × SameRead plan rank (j + 1) ts es (set vs j d))
    more_of ds f same d fd = (
      set ds j d,
      (set_fit ts ds j d small f (subst (λ (u : TheArgType). is_argument u d ≡ true) type fd), set_same plan rank j ts ds vs d small (fit_length ts ds f) long own same),
    )

    -- the argument stands first in what is left
    next_list : (d : Datum) (ds : List Datum) → (are_arguments ts ds ≡ true) × SameRead plan rank (j + 1) ts ds (set vs j d)
        → of_rank kind plan rank (drop j (zip ts ds)) ++ of_ranks kind plan (4 - rank) (rank + 1) (zip ts ds)
        ≡ (t, d) ∷ (of_rank kind plan rank (drop (j + 1) (zip ts ds)) ++ of_ranks kind plan (4 - rank) (rank + 1) (zip ts ds))
    next_list d ds fds =
        let lengths = fit_length ts ds fds.0 in
        let at_j : get_or ds j (string []) ≡ d = fds.1.at j small (inr (own, omega arith)) ∙ get_or-set_same vs j d (string []) (omega (arith, small, long)) in
        let here : get_or (zip ts ds) j none_such ≡ (t, d)
        = zip_get ts ds j lengths small ∙ ap (λ (u : TheArgType). (u, get_or ds j (string []))) (sym type) ∙ ap (λ (v : Datum). (t, v)) at_j in
        let its_rank : rank_of plan (get_or (zip ts ds) j none_such).0 ≡ rank = ap (λ (a : Argument). rank_of plan a.0) here ∙ ap (rank_of plan) type ∙ own in
        let rest = of_ranks kind plan (4 - rank) (rank + 1) (zip ts ds) in
        ap (λ (xs : List Argument). xs ++ rest)
        (rank_here plan rank j (zip ts ds) none_such (omega (arith, small, zip_length ts ds lengths)) its_rank
        ∙ ap (λ (a : Argument). a ∷ of_rank kind plan rank (drop (j + 1) (zip ts ds))) here)

pub next_fit : (plan : PlanNo) (rank j : ℕ) (ts : List TheArgType) (t : TheArgType) (vs : List Datum) (d : Datum) → j < length ts → length vs ≡ length ts → t ≡ get_or ts j (text 0) → rank_at plan ts j ≡ rank
    → is_argument t d ≡ true → FitRead plan rank j ts vs → FitRead plan rank (j + 1) ts (set vs j d)
next_fit plan rank j ts t vs d small long type own fits r = record {
  at = λ k h read. ⊎_elim
      (λ (e : k ≡ j).
      let P : ℕ → Type 0 = λ m. is_argument (get_or ts m (text 0)) (get_or (set vs j d) m (string [])) ≡ true in
      subst P (sym e) (rw (get_or-set_same vs j d (string []) (omega (arith, small, long))) (subst (λ (u : TheArgType). is_argument u d ≡ true) type fits)))
      (λ (apart : (k ≢ j) × IsRead plan rank j ts k). rw (get_or-set_other vs j k d (string []) apart.0) (r.at k h apart.1))
      (one_more plan rank j k ts own read);
}

-- all arguments are read
pub all_read : (plan : PlanNo) (ts : List TheArgType) (vs : List Datum) (after : Bool) (frags : List Frag) (at : ℕ) → length vs ≡ length ts → FitRead plan 5 0 ts vs → ReadAt (left_from plan 5 ts vs after) frags at vs at
all_read plan ts vs after frags at long fits low here agree = record {
  fit = (all_fit ts vs long (λ k h. fits.at k h (inl (rank_small plan (get_or ts k (text 0))))), record { at = λ k h read. refl });
  ends = sym here;
  agree = agree;
  told = λ e full f over agrees. ext_get_or (string []) e vs (fit_length ts e f.0 ∙ sym long) (λ k h. f.1.at k (omega (arith, h, fit_length ts e f.0)) (inl (rank_small plan (get_or ts k (text 0)))));
}

-- what was read is one of its type
pub come_fits : (x y a : Shape) (frags : List Frag) (at end : ℕ) (join : y.what → x.what) (d : a.what) → Come x y frags 0 at join → ReadAt a frags at d end → a.fits d
come_fits x y a frags at end join d come read =
    let (now, (same, goes)) = come [] refl record { at = λ p small. absurd (omega (arith, small)) } in
    let got = read now same (subst (λ (n : ℕ). Agrees frags now n) (sym same) goes.agree) in
    got.fit

pub calls_start : (plan : PlanNo) (ts : List TheArgType) (vs : List Datum) (frags : List Frag) → Come (calls_of plan ts) (left_from plan 0 ts vs false) frags 0 0 itself
calls_start plan ts vs frags = come_same (calls_of plan ts) (calls_of plan ts) (left_from plan 0 ts vs false) frags 0 0 itself itself (come_self (calls_of plan ts) frags 0 (omega arith)) (at_start plan ts vs)
