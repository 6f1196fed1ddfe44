-- Where arguments begin that no string or sized array stands before.
use Rattle.std.proofs.Common.{◌≡◌, ℕ, pos, zero, suc, ◌+◌, ◌≤◌, ◌<◌, true, false, Bool, if◌then◌else◌, Option, Some, None, ⊎_elim, List, [], ◌∷◌, ◌++◌, map, length, get_or, refl, sym, ◌∙◌, ap, subst, arith, ◌&&◌, ◌||◌, not}
use Rattle.std.specs.Prelude.{◌==◌, slice_get, nat_lt}
use Rattle.std.specs.List.{list_all, list_any, zip, range_with_len}
use Rattle.std.proofs.Math.Seq.{get_or-append_seam}
use Rattle.std.proofs.lemmas.Bool.{and_parts, and_from, cases_Bool, eqb-true, eqb-false, ne_eqb, ltb-true, ltb-false, false≢true, true≢false}
use Rattle.std.proofs.lemmas.Option.{slice_get-get_or, slice_get_past}
use Rattle.std.proofs.lemmas.List.{length-append, append_assoc}
use Rattle.fl_interface.specs.Interface.{TheArgType, fixed, text, sized, TheMessage, TheInterface}
use Rattle.fl_interface.specs.Sizes.{align_of, round_up}
use Rattle.fl_interface.specs.Limits.{are_arguments_within, is_within_limits}
use Rattle.fl_value_data.specs.declared.value.PlanNo.{PlanNo}
use Rattle.fl_value_data.specs.declared.value.PlanNo.TheVariants.{One, Two}
use Rattle.fl_value_data.specs.Value.{Datum, number, TheCall}
use Rattle.fl_value_data.specs.Fits.{are_arguments}
use Rattle.fl_value_data.specs.Plan.{arranged, is_fixed_at, is_dynamic}
use Rattle.fl_layout.specs.declared.extent.Extent.{Extent}
use Rattle.fl_layout.specs.declared.extent.PlacedArg.{PlacedArg}
use Rattle.fl_layout.specs.Leaves.{argument_types, start_onto, arguments_onto}
use Rattle.fl_layout.specs.Places.{size}
use Rattle.fl_layout.specs.Extents.{extent_of, count_at, numbered, placing, placed_of, start_of, end_of, end_of_all, due_after, is_varying, extent_among, start_among, unit_of}
use Rattle.fl_layout.specs.Layouts.{until, standing_before, start_align, start_align_at, ends_dynamic, end_of_arguments, argument_place, argument_size, has_one_place, IsPlace}
use Rattle.fl_interface.proofs.Aligned.{align_small, type_align}
use Rattle.fl_value_data.specs.Tape.{Argument, kind, types_of}
use Rattle.fl_layout.proofs.Ends.{filled, is_good, arguments_end}
use Rattle.fl_layout.proofs.Order.{arranged_map, numbered_are}
use Rattle.fl_layout.proofs.Arranging.{filter_ext, varying_kind}
use Rattle.fl_layout.proofs.Bounds.{same_length}
use Rattle.fl_layout.proofs.Lengths.{Sent, laid, laid_good, is_sent, map_map, map_ext}
use Rattle.fl_layout.proofs.Sums.{total, total_arranged}

-- ---- the arguments by their numbers

-- what stands at a number, beside the number
abbrev pub look : {A : Type 0} → A → List A → ℕ → ℕ × A
look default xs k = (k, get_or xs k default)

pub numbered_from : {A : Type 0} (default : A) (xs prefix : List A) (k : ℕ) → k ≡ length prefix
    → zip (range_with_len k (length xs)) xs ≡ map (look default (prefix ++ xs)) (range_with_len k (length xs))
numbered_from default [] prefix k e = refl
numbered_from {A = A} default (x ∷ xs) prefix k e =
    let seam : get_or (prefix ++ x ∷ xs) k default ≡ x = ap (λ n. get_or (prefix ++ x ∷ xs) n default) e ∙ get_or-append_seam prefix x xs default in
    let rest = numbered_from default xs (prefix ++ x ∷ []) (k + 1) (omega (arith, e, length-append prefix (x ∷ []))) in
    let same : (prefix ++ x ∷ []) ++ xs ≡ prefix ++ x ∷ xs = append_assoc prefix (x ∷ []) xs in
    let numbers = range_with_len (k + 1) (length xs) in
    ap (λ (zs : List (ℕ × A)). (k, x) ∷ zs) (rest ∙ ap (λ (all : List A). map (look default all) numbers) same)
    ∙ ap (λ (w : A). (k, w) ∷ map (look default (prefix ++ x ∷ xs)) numbers) (sym seam)

abbrev pub numbers : {A : Type 0} → List A → List ℕ
numbers xs = range_with_len 0 (length xs)

pub numbered_look : {A : Type 0} (default : A) (xs : List A) → numbered xs ≡ map (look default xs) (numbers xs)
numbered_look default xs = numbered_from default xs [] 0 refl

pub arranged_ext : {A : Type 0} (f g : A → TheArgType) (plan : PlanNo) (xs : List A) → ((x : A) → f x ≡ g x) → arranged f plan xs ≡ arranged g plan xs
arranged_ext f g One xs same = refl
arranged_ext f g Two xs same =
    let e = λ (p : TheArgType → Bool). filter_ext (λ x. p (f x)) (λ x. p (g x)) (λ x. ap p (same x)) xs in
    let a = e (is_fixed_at 8) in let b = e (is_fixed_at 4) in let c = e (is_fixed_at 2) in let d = e (is_fixed_at 1) in let h = e is_dynamic in
    cc

-- no argument's type in particular
abbrev pub none : TheArgType
none = text 0

abbrev pub type_at : List TheArgType → ℕ → TheArgType
type_at ts k = get_or ts k none

-- the arguments' numbers in the plan's order
abbrev pub order : PlanNo → List TheArgType → List ℕ
order plan ts = arranged (type_at ts) plan (numbers ts)

-- the numbers before number j
abbrev pub before : ℕ → List ℕ → List ℕ
before j [] = []
before j (k ∷ ks) = if k == j then [] else k ∷ before j ks

pub until_look : {A : Type 0} (default : A) (xs : List A) (j : ℕ) (ks : List ℕ)
    → map (λ (a : ℕ × A). a.1) (until j (map (look default xs) ks)) ≡ map (λ k. get_or xs k default) (before j ks)
until_look default xs j [] = refl
until_look {A = A} default xs j (k ∷ ks) =
    let rest = until_look default xs j ks in
    elim (k == j) as (λ b. map (λ (a : ℕ × A). a.1) (if b then [] else look default xs k ∷ until j (map (look default xs) ks)) ≡ map (λ k. get_or xs k default) (if b then [] else k ∷ before j ks))
    [ true ↦ refl | false ↦ ap (λ (ys : List A). get_or xs k default ∷ ys) rest ]

-- what stands before argument j, by numbers
pub standing_look : {A : Type 0} (default : A) (type : A → TheArgType) (plan : PlanNo) (xs : List A) (ts : List TheArgType) (j : ℕ)
    → length xs ≡ length ts → ((k : ℕ) → type (get_or xs k default) ≡ type_at ts k)
    → standing_before type plan xs j ≡ map (λ k. get_or xs k default) (before j (order plan ts))
standing_look {A = A} default type plan xs ts j long same =
    let all : arranged (λ (a : ℕ × A). type a.1) plan (numbered xs) ≡ map (look default xs) (arranged (λ k. type (get_or xs k default)) plan (numbers xs))
    = ap (arranged (λ (a : ℕ × A). type a.1) plan) (numbered_look default xs) ∙ arranged_map (look default xs) (λ (a : ℕ × A). type a.1) plan (numbers xs) in
    let by_type : arranged (λ k. type (get_or xs k default)) plan (numbers xs) ≡ order plan ts
    = arranged_ext (λ k. type (get_or xs k default)) (type_at ts) plan (numbers xs) same
    ∙ ap (λ (n : ℕ). arranged (type_at ts) plan (range_with_len 0 n)) long in
    ap (λ (ys : List (ℕ × A)). map (λ (a : ℕ × A). a.1) (until j ys)) (all ∙ ap (map (look default xs)) by_type)
    ∙ until_look default xs j (order plan ts)

-- what a plan keeps, by numbers
abbrev pub placed_at : List TheArgType → ℕ → PlacedArg
placed_at ts k = placing (look none ts k)

pub placed_look : (plan : PlanNo) (m : TheMessage) → placed_of plan m ≡ map (placed_at m.args) (order plan m.args)
placed_look plan m =
    let ts = m.args in
    let all : arranged (λ (a : ℕ × TheArgType). a.1) plan (numbered ts) ≡ map (look none ts) (order plan ts)
    = ap (arranged (λ (a : ℕ × TheArgType). a.1) plan) (numbered_look none ts) ∙ arranged_map (look none ts) (λ (a : ℕ × TheArgType). a.1) plan (numbers ts) in
    ap (map placing) all ∙ map_map placing (look none ts) (order plan ts)

-- ---- which numbers stand there

cases : {P : Type 0} (b : Bool) → (b ≡ true → P) → (b ≡ false → P) → P
cases b f g = ⊎_elim f g (cases_Bool b)

abbrev pub hit : ℕ → ℕ → ℕ
hit j k = if k == j then 1 else 0

abbrev pub Among : ℕ → List ℕ → Type 0
Among j ks = 0 < total (hit j) ks

abbrev pub Absent : ℕ → List ℕ → Type 0
Absent j ks = total (hit j) ks ≡ 0

among_later : (j k : ℕ) (ks : List ℕ) → (k == j) ≡ false → Among j (k ∷ ks) → Among j ks
among_later j k ks e h =
    let there : 0 < (if false then 1 else 0) + total (hit j) ks = subst (λ (b : Bool). 0 < (if b then 1 else 0) + total (hit j) ks) e h in
    omega (arith, there)

absent_here : (j k : ℕ) (ks : List ℕ) → Absent j (k ∷ ks) → (k == j) ≡ false
absent_here j k ks h =
    cases (k == j)
    (λ e. let there : 1 + total (hit j) ks ≡ 0 = subst (λ (b : Bool). (if b then 1 else 0) + total (hit j) ks ≡ 0) e h in absurd (omega (arith, there)))
    (λ e. e)

absent_later : (j k : ℕ) (ks : List ℕ) → Absent j (k ∷ ks) → Absent j ks
absent_later j k ks h = omega (arith, h)

hit_once : (j k n : ℕ) → k ≤ j → j < k + n → Among j (range_with_len k n)
hit_once j k zero low high = absurd (omega (arith, low, high))
hit_once j k (suc n) low high =
    cases (k == j)
    (λ e. rw e (omega arith))
    (λ e. let rest = hit_once j (k + 1) n (omega (arith, low, eqb-false k j e)) (omega (arith, high)) in omega (arith, rest))

hit_never : (j k n : ℕ) → k + n ≤ j → Absent j (range_with_len k n)
hit_never j k zero high = refl
hit_never j k (suc n) high =
    let rest = hit_never j (k + 1) n (omega (arith, high)) in
    let e : (k == j) ≡ false = ne_eqb k j (λ (same : k ≡ j). omega (arith, high, same)) in
    rw e (omega (arith, rest))

pub among_order : (plan : PlanNo) (ts : List TheArgType) (j : ℕ) → j < length ts → Among j (order plan ts)
among_order plan ts j h =
    let same = total_arranged (hit j) (type_at ts) plan (numbers ts) in
    let there = hit_once j 0 (length ts) (omega arith) (omega (arith, h)) in
    omega (arith, same, there)

pub absent_order : (plan : PlanNo) (ts : List TheArgType) (j : ℕ) → length ts ≤ j → Absent j (order plan ts)
absent_order plan ts j h =
    let same = total_arranged (hit j) (type_at ts) plan (numbers ts) in
    let there = hit_never j 0 (length ts) (omega (arith, h)) in
    omega (arith, same, there)

-- ---- an argument's extent

pub extent_here : (ts : List TheArgType) (j : ℕ) (ks : List ℕ) → Among j ks → extent_among j (map (placed_at ts) ks) ≡ Some (extent_of (type_at ts j))
extent_here ts j [] h = absurd (omega (arith, h))
extent_here ts j (k ∷ ks) h =
    let found : ℕ → Option Extent = λ n. Some (extent_of (type_at ts n)) in
    cases (k == j)
    (λ e. rw e (ap found (eqb-true k j e)))
    (λ e. rw e (extent_here ts j ks (among_later j k ks e h)))

pub extent_absent : (ts : List TheArgType) (j : ℕ) (ks : List ℕ) → Absent j ks → extent_among j (map (placed_at ts) ks) ≡ None
extent_absent ts j [] h = refl
extent_absent ts j (k ∷ ks) h = rw (absent_here j k ks h) (extent_absent ts j ks (absent_later j k ks h))

-- ---- where an argument begins

or_parts : (a b : Bool) → (a || b) ≡ false → (a ≡ false) × (b ≡ false)
or_parts false b h = (refl, h)
or_parts true b h = absurd (true≢false h)

-- an argument with its value
abbrev pub value_at : List TheArgType → List Datum → ℕ → Argument
value_at ts ds k = (type_at ts k, get_or ds k (number (pos 0)))

-- a string or a sized array stands before number j
abbrev pub varies : List TheArgType → ℕ → List ℕ → Bool
varies ts j ks = list_any is_dynamic (map (type_at ts) (before j ks))

record IsFixed (t : TheArgType) (d : Datum) : Type 0 where
  rank : is_varying (extent_of t) ≡ false
  due : due_after (extent_of t) ≡ 1
  count : count_at (extent_of t) d ≡ 0

is_fixed : (t : TheArgType) (d : Datum) → is_dynamic t ≡ false → IsFixed t d
is_fixed (fixed t) d h = record { rank = refl; due = refl; count = refl }
is_fixed (text most) d h = absurd (true≢false h)
is_fixed (sized most t) d h = absurd (true≢false h)

pub start_here : (ts : List TheArgType) (ds : List Datum) (j : ℕ) (ks : List ℕ) (at : ℕ) → Among j ks → varies ts j ks ≡ false
    → start_among j at 1 (map (placed_at ts) ks)
    ≡ Some (start_of (end_of_all at 1 (map filled (map (value_at ts ds) (before j ks)))) 1 (extent_of (type_at ts j)))
start_here ts ds j [] at h f = absurd (omega (arith, h))
start_here ts ds j (k ∷ ks) at h f =
    let found : ℕ → Option ℕ = λ n. Some (start_of at 1 (extent_of (type_at ts n))) in
    cases (k == j)
    (λ e. rw e (ap found (eqb-true k j e)))
    (λ e.
    let all : list_any is_dynamic (type_at ts k ∷ map (type_at ts) (before j ks)) ≡ false
    = subst (λ (b : Bool). list_any is_dynamic (map (type_at ts) (if b then [] else k ∷ before j ks)) ≡ false) e f in
    let none_of = or_parts (is_dynamic (type_at ts k)) (varies ts j ks) all in
    let this = is_fixed (type_at ts k) (get_or ds k (number (pos 0))) none_of.0 in
    let x = extent_of (type_at ts k) in
    let others = map filled (map (value_at ts ds) (before j ks)) in
    let rest = start_here ts ds j ks (end_of at 1 x 0) (among_later j k ks e h) none_of.1 in
    let to : ℕ → ℕ → Option ℕ = λ n due. Some (start_of (end_of_all (end_of at 1 x n) due others) 1 (extent_of (type_at ts j))) in
    let same : to (count_at x (get_or ds k (number (pos 0)))) (due_after x) ≡ to 0 1
    = ap (λ n. to n (due_after x)) this.count ∙ ap (to 0) this.due in
    rw (e, this.rank, this.due) (rest ∙ sym same))

pub start_past : (ts : List TheArgType) (j : ℕ) (ks : List ℕ) (at due : ℕ) → varies ts j ks ≡ true → start_among j at due (map (placed_at ts) ks) ≡ None
start_past ts j [] at due f = absurd (false≢true f)
start_past ts j (k ∷ ks) at due f =
    let t = type_at ts k in
    let end = end_of at due (extent_of t) 0 in
    cases (k == j)
    (λ e.
    let some : false ≡ true = subst (λ (b : Bool). list_any is_dynamic (map (type_at ts) (if b then [] else k ∷ before j ks)) ≡ true) e f in
    absurd (false≢true some))
    (λ e.
    let all : (is_dynamic t || varies ts j ks) ≡ true = subst (λ (b : Bool). list_any is_dynamic (map (type_at ts) (if b then [] else k ∷ before j ks)) ≡ true) e f in
    cases (is_dynamic t)
    (λ d. rw (e, varying_kind t ∙ d) refl)
    (λ d.
    let later : varies ts j ks ≡ true = subst (λ (b : Bool). (b || varies ts j ks) ≡ true) d all in
    rw (e, varying_kind t ∙ d) (start_past ts j ks end (due_after (extent_of t)) later)))

pub start_absent : (ts : List TheArgType) (j : ℕ) (ks : List ℕ) (at due : ℕ) → Absent j ks → start_among j at due (map (placed_at ts) ks) ≡ None
start_absent ts j [] at due h = refl
start_absent ts j (k ∷ ks) at due h =
    let t = type_at ts k in
    let end = end_of at due (extent_of t) 0 in
    let e = absent_here j k ks h in
    cases (is_dynamic t)
    (λ d. rw (e, varying_kind t ∙ d) refl)
    (λ d. rw (e, varying_kind t ∙ d) (start_absent ts j ks end (due_after (extent_of t)) (absent_later j k ks h)))

-- ---- in a call

get_zip : (ts : List TheArgType) (ds : List Datum) (k : ℕ) → length ts ≡ length ds → get_or (zip ts ds) k (none, number (pos 0)) ≡ value_at ts ds k
get_zip [] [] k h = refl
get_zip (t ∷ ts) (d ∷ ds) zero h = refl
get_zip (t ∷ ts) (d ∷ ds) (suc k) h = get_zip ts ds k (omega (arith, h))
get_zip [] (d ∷ ds) k h = absurd (omega (arith, h))
get_zip (t ∷ ts) [] k h = absurd (omega (arith, h))

zip_long : (ts : List TheArgType) (ds : List Datum) → length ts ≡ length ds → length (zip ts ds) ≡ length ts
zip_long [] [] h = refl
zip_long (t ∷ ts) (d ∷ ds) h = omega (arith, zip_long ts ds (omega (arith, h)))
zip_long [] (d ∷ ds) h = absurd (omega (arith, h))
zip_long (t ∷ ts) [] h = absurd (omega (arith, h))

-- the values beside their types, by numbers
zip_look : (ts : List TheArgType) (ds : List Datum) → length ts ≡ length ds → zip ts ds ≡ map (value_at ts ds) (numbers ts)
zip_look ts ds h =
    let all = zip ts ds in
    let some : Argument = (none, number (pos 0)) in
    let second : ℕ × Argument → Argument = λ a. a.1 in
    sym (numbered_are all 0)
    ∙ ap (map second) (numbered_look some all)
    ∙ map_map second (look some all) (numbers all)
    ∙ map_ext (numbers all) (λ k. get_or all k some) (value_at ts ds) (λ k. get_zip ts ds k h)
    ∙ ap (λ (n : ℕ). map (value_at ts ds) (range_with_len 0 n)) (zip_long ts ds h)

all_before : {A : Type 0} (test : A → Bool) (g : ℕ → A) (j : ℕ) (ks : List ℕ) → list_all test (map g ks) ≡ true → list_all test (map g (before j ks)) ≡ true
all_before test g j [] h = refl
all_before test g j (k ∷ ks) h =
    let parts = and_parts (test (g k)) (list_all test (map g ks)) h in
    let rest = and_from (test (g k)) (list_all test (map g (before j ks))) parts.0 (all_before test g j ks parts.1) in
    cases (k == j) (λ e. rw e refl) (λ e. rw e rest)

-- what stands before argument j in a call
before_good : (plan : PlanNo) (m : TheMessage) (ds : List Datum) (j : ℕ) → are_arguments_within m.args ≡ true → are_arguments m.args ds ≡ true
    → list_all is_good (map (value_at m.args ds) (before j (order plan m.args))) ≡ true
before_good plan m ds j w h =
    let ts = m.args in
    let all : laid plan m ds ≡ map (value_at ts ds) (order plan ts)
    = ap (arranged kind plan) (zip_look ts ds (same_length ts ds h)) ∙ arranged_map (value_at ts ds) kind plan (numbers ts) in
    all_before is_good (value_at ts ds) j (order plan ts) (subst (λ (ys : List Argument). list_all is_good ys ≡ true) all (laid_good plan m ds w h))

ends_fixed : (ts : List TheArgType) (ds : List Datum) (ks : List ℕ) → list_any is_dynamic (map (type_at ts) ks) ≡ false → ends_dynamic false (map (value_at ts ds) ks) ≡ false
ends_fixed ts ds [] h = refl
ends_fixed ts ds (k ∷ ks) h =
    let parts = or_parts (is_dynamic (type_at ts k)) (list_any is_dynamic (map (type_at ts) ks)) h in
    ap (λ (b : Bool). ends_dynamic b (map (value_at ts ds) ks)) parts.0 ∙ ends_fixed ts ds ks parts.1

start_rounds : (t : TheArgType) (at : ℕ) → round_up at (start_align t) ≡ start_of at 1 (extent_of t)
start_rounds (fixed t) at = ap (round_up at) (omega (arith, align_small (align_of t) (type_align t)))
start_rounds (text most) at = refl
start_rounds (sized most t) at = refl

-- where an argument begins in a call, where no string or sized array stands before it
pub begins : (plan : PlanNo) (i : TheInterface) (m : TheMessage) (c : TheCall) (j : ℕ) → Sent plan i m c → j < length m.args
    → varies m.args j (order plan m.args) ≡ false
    → argument_place plan i c j
    ≡ start_of (end_of_all 0 1 (map filled (map (value_at m.args c.args) (before j (order plan m.args))))) 1 (extent_of (type_at m.args j))
begins plan i m c j s low f =
    let ts = m.args in
    let ds = c.args in
    let some : Argument = (none, number (pos 0)) in
    let long = same_length ts ds s.has in
    let there = before j (order plan ts) in
    let args = map (value_at ts ds) there in
    let types : argument_types i c.msg ≡ ts = ap types_of s.named in
    let stands : standing_before kind plan (zip ts ds) j ≡ args
    = standing_look some kind plan (zip ts ds) ts j (zip_long ts ds long) (λ k. ap kind (get_zip ts ds k long))
    ∙ map_ext there (λ k. get_or (zip ts ds) k some) (value_at ts ds) (λ k. get_zip ts ds k long) in
    let ends : end_of_arguments args ≡ end_of_all 0 1 (map filled args)
    = ap (λ (b : Bool). size (start_onto b (arguments_onto false args []))) (ends_fixed ts ds there f)
    ∙ arguments_end args false [] (before_good plan m ds j s.within s.has) in
    let type : slice_get ts j ≡ Some (type_at ts j) = slice_get-get_or ts j none low in
    ap (λ (us : List TheArgType). round_up (end_of_arguments (standing_before kind plan (zip us ds) j)) (start_align_at (slice_get us j))) types
    ∙ ap (λ (ys : List Argument). round_up (end_of_arguments ys) (start_align_at (slice_get ts j))) stands
    ∙ ap (λ (n : ℕ). round_up n (start_align_at (slice_get ts j))) ends
    ∙ ap (λ (o : Option TheArgType). round_up (end_of_all 0 1 (map filled args)) (start_align_at o)) type
    ∙ start_rounds (type_at ts j) (end_of_all 0 1 (map filled args))

some_same : (m n : ℕ) → Some m ≡ Some n → m ≡ n
some_same m n e = cc

-- it begins there whatever the values
one_start : (ts : List TheArgType) (ds es : List Datum) (j : ℕ) (ks : List ℕ) → Among j ks → varies ts j ks ≡ false
    → start_of (end_of_all 0 1 (map filled (map (value_at ts ds) (before j ks)))) 1 (extent_of (type_at ts j))
    ≡ start_of (end_of_all 0 1 (map filled (map (value_at ts es) (before j ks)))) 1 (extent_of (type_at ts j))
one_start ts ds es j ks h v = some_same _ _ (sym (start_here ts ds j ks 0 h v) ∙ start_here ts es j ks 0 h v)

-- ---- what is told of a message

-- the one place of each argument
pub place_is : (plan : PlanNo) (i : TheInterface) (msg : ℕ) (m : TheMessage) (j : ℕ) → is_within_limits i ≡ true → slice_get i.messages msg ≡ Some m
    → IsPlace plan i msg j (start_among j 0 1 (placed_of plan m))
place_is plan i msg m j w e =
    let ts = m.args in
    let ks = order plan ts in
    let types : argument_types i msg ≡ ts = ap types_of e in
    let stands : standing_before (λ (t : TheArgType). t) plan ts j ≡ map (type_at ts) (before j ks)
    = standing_look none (λ (t : TheArgType). t) plan ts ts j refl (λ k. refl) in
    let test : has_one_place plan (argument_types i msg) j ≡ (nat_lt j (length ts) && not (varies ts j ks))
    = ap (λ (us : List TheArgType). has_one_place plan us j) types ∙ ap (λ (us : List TheArgType). nat_lt j (length ts) && not (list_any is_dynamic us)) stands in
    let here = start_among j 0 1 (placed_of plan m) in
    let by_number : here ≡ start_among j 0 1 (map (placed_at ts) ks) = ap (start_among j 0 1) (placed_look plan m) in
    cases (nat_lt j (length ts))
    (λ low.
    let within = ltb-true j (length ts) low in
    let known : has_one_place plan (argument_types i msg) j ≡ not (varies ts j ks) = test ∙ ap (λ (b : Bool). b && not (varies ts j ks)) low in
    cases (varies ts j ks)
    (λ v. subst (IsPlace plan i msg j) (sym (by_number ∙ start_past ts j ks 0 1 v)) (known ∙ ap not v))
    (λ v.
    let found = by_number ∙ start_here ts [] j ks 0 (among_order plan ts j within) v in
    subst (IsPlace plan i msg j) (sym found)
    (known ∙ ap not v, λ c s. begins plan i m c j (is_sent plan i msg m c w e s) within v ∙ one_start ts c.args [] j ks (among_order plan ts j within) v)))
    (λ high.
    let beyond = ltb-false j (length ts) high in
    subst (IsPlace plan i msg j) (sym (by_number ∙ start_absent ts j ks 0 1 (absent_order plan ts j beyond)))
    (test ∙ ap (λ (b : Bool). b && not (varies ts j ks)) high))

-- the bytes of an argument's extent
abbrev pub unit_at : Option Extent → ℕ
unit_at None = 0
unit_at (Some extent) = unit_of extent

unit_is : (t : TheArgType) → argument_size (Some t) ≡ unit_of (extent_of t)
unit_is (fixed t) = refl
unit_is (text most) = refl
unit_is (sized most t) = refl

pub unit_among : (plan : PlanNo) (m : TheMessage) (j : ℕ) → argument_size (slice_get m.args j) ≡ unit_at (extent_among j (placed_of plan m))
unit_among plan m j =
    let ts = m.args in
    let by_number : extent_among j (placed_of plan m) ≡ extent_among j (map (placed_at ts) (order plan ts)) = ap (extent_among j) (placed_look plan m) in
    cases (nat_lt j (length ts))
    (λ low.
    let within = ltb-true j (length ts) low in
    ap argument_size (slice_get-get_or ts j none within) ∙ unit_is (type_at ts j)
    ∙ sym (ap unit_at (by_number ∙ extent_here ts j (order plan ts) (among_order plan ts j within))))
    (λ high.
    let beyond = ltb-false j (length ts) high in
    ap argument_size (slice_get_past ts j beyond)
    ∙ sym (ap unit_at (by_number ∙ extent_absent ts j (order plan ts) (absent_order plan ts j beyond))))
