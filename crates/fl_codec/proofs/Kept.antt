-- Places that are kept, and which arguments are left.
use Rattle.std.proofs.Common.{◌≡◌, ◌≢◌, ℕ, zero, suc, ◌+◌, ◌-◌, ◌*◌, ◌/◌, ◌%◌, ◌<◌, ◌≤◌, Bool, true, cond, ◌&&◌, eq-eqb, List, [], ◌∷◌, ◌++◌, length, map, get_or, set, take, drop, refl, sym, ◌∙◌, ap, subst, arith, length-append}
use Rattle.std.specs.List.{list_all}
use Rattle.std.specs.Cmp.{first_so, second_so}
use Rattle.std.proofs.lemmas.Bool.{lt-ltb, ne_eqb}
use Rattle.std.proofs.lemmas.List.{append-nil, drop_all}
use Rattle.fl_interface.specs.declared.interface.ArgType.{ArgType}
use Rattle.fl_interface.specs.Interface.{TheArgType, arg_type_of}
use Rattle.fl_interface.specs.Sizes.{IsAlign, round_up}
use Rattle.fl_value_data.specs.declared.value.PlanNo.{PlanNo}
use Rattle.fl_value_data.specs.Plan.{rank_of, of_ranks, by_ranks}
use Rattle.fl_value_data.specs.Taken.{types_of_rank, planned_types}
use Rattle.fl_value_data.proofs.Turns.{map_dropped}
use Rattle.fl_value_data.proofs.Ranked.{arranged_ranks, next_rank, last_rank}
use Rattle.fl_value_data.proofs.Untaped.{all_types}
use Rattle.fl_codec.specs.declared.number.NumberType.{NumberType}
use Rattle.fl_codec.specs.declared.placing.Placing.{Placing}
use Rattle.fl_codec.specs.NumberPlaces.{is_number, places_behind}
use Rattle.fl_codec.specs.Words.{is_inside}
use Rattle.fl_codec.specs.Placing.{IsNumberType, IsPlacing, Places}
use Rattle.fl_codec.proofs.Values.{number_is, ends_within, word_within}

-- ---- places within a fragment

pub all_taken : {A : Type 0} (p : A → Bool) (n : ℕ) (xs : List A) → list_all p xs ≡ true → list_all p (take n xs) ≡ true
all_taken p zero xs h = refl
all_taken p (suc n) [] h = refl
all_taken p (suc n) (x ∷ xs) h = rw (first_so (p x) _ h) (all_taken p n xs (second_so (p x) _ h))

all_set : {A : Type 0} (p : A → Bool) (xs : List A) (n : ℕ) (x : A) → list_all p xs ≡ true → p x ≡ true → list_all p (set xs n x) ≡ true
all_set p [] n x h k = h
all_set p (y ∷ xs) zero x h k = rw k (second_so (p y) _ h)
all_set p (y ∷ xs) (suc n) x h k = rw (first_so (p y) _ h) (all_set p xs n x (second_so (p y) _ h) k)

-- a place more
pub placing_more : (p : Placing) (at : ℕ) (t : TheArgType) (number : NumberType) → IsPlacing p → p.count < 7 → IsNumberType t number → at ≡ round_up p.end number.width
    → IsPlacing (record { places = set p.places p.count (record { word = at / 8; shift = 8 * (at % 8); last = number.last }); count = p.count + 1; end = at + number.width })
placing_more p at t number h room k e =
    let align = subst IsAlign (sym k.width) (number_is t k.is).align in
    let width = number.width in
    let end : at + width ≤ 8 * (p.count + 1) = subst (λ (n : ℕ). n + width ≤ 8 * (p.count + 1)) (sym e) (ends_within p.end width p.count align h.ends) in
    let word : at / 8 < 7 = subst (λ (n : ℕ). n / 8 < 7) (sym e) (word_within p.end width p.count align h.ends room) in
    let shift : 8 * (at % 8) < 64 = omega arith in
    record {
      few = omega (arith, room);
      inside = all_set is_inside p.places p.count (record { word = at / 8; shift = 8 * (at % 8); last = number.last }) h.inside (rw (lt-ltb (at / 8) 7 word) (lt-ltb (8 * (at % 8)) 64 shift));
      ends = end;
    }

-- ---- arguments that are left

-- an argument among numbers is one
pub number_at : (args : List ArgType) (k : ℕ) (a : ArgType) → k < length args → a ≡ get_or args k a → list_all is_number (map arg_type_of args) ≡ true → is_number (arg_type_of a) ≡ true
number_at [] k a inside here h = absurd (omega (arith, inside))
number_at (b ∷ args) zero a inside here h = ap (λ (c : ArgType). is_number (arg_type_of c)) here ∙ first_so (is_number (arg_type_of b)) _ h
number_at (b ∷ args) (suc k) a inside here h = number_at args k a (omega (arith, inside)) here (second_so (is_number (arg_type_of b)) _ h)

pub all_from : (args : List ArgType) (k : ℕ) (a : ArgType) → k < length args → a ≡ get_or args k a
    → list_all is_number (map arg_type_of (drop k args)) ≡ (is_number (arg_type_of a) && list_all is_number (map arg_type_of (drop (k + 1) args)))
all_from args k a inside here = ap (list_all is_number) (map_dropped arg_type_of args k a inside here)

-- those of a rank from one on
abbrev pub left : PlanNo → ℕ → List ArgType → ℕ → List TheArgType
left plan rank args k = types_of_rank plan rank (map arg_type_of (drop k args))

pub left_here : (plan : PlanNo) (rank : ℕ) (args : List ArgType) (k : ℕ) (a : ArgType) → k < length args → a ≡ get_or args k a → rank_of plan (arg_type_of a) ≡ rank
    → left plan rank args k ≡ arg_type_of a ∷ left plan rank args (k + 1)
left_here plan rank args k a inside here e =
    ap (types_of_rank plan rank) (map_dropped arg_type_of args k a inside here)
    ∙ ap (λ (b : Bool). cond b (arg_type_of a ∷ left plan rank args (k + 1)) (left plan rank args (k + 1))) (eq-eqb (rank_of plan (arg_type_of a)) rank e)

pub left_past : (plan : PlanNo) (rank : ℕ) (args : List ArgType) (k : ℕ) (a : ArgType) → k < length args → a ≡ get_or args k a → rank_of plan (arg_type_of a) ≢ rank
    → left plan rank args k ≡ left plan rank args (k + 1)
left_past plan rank args k a inside here e =
    ap (types_of_rank plan rank) (map_dropped arg_type_of args k a inside here)
    ∙ ap (λ (b : Bool). cond b (arg_type_of a ∷ left plan rank args (k + 1)) (left plan rank args (k + 1))) (ne_eqb (rank_of plan (arg_type_of a)) rank e)

pub left_none : (plan : PlanNo) (rank : ℕ) (args : List ArgType) (k : ℕ) → length args ≤ k → left plan rank args k ≡ []
left_none plan rank args k h = ap (λ (l : List ArgType). types_of_rank plan rank (map arg_type_of l)) (drop_all k args h)

-- ---- placings, one after another

pub goes_self : (p : Placing) (ts : List TheArgType) → Places p ts p ts
goes_self p ts = record { places = refl; many = refl }

pub goes_far : (p q r : Placing) (xs ys zs : List TheArgType) → Places p xs q ys → Places q ys r zs → Places p xs r zs
goes_far p q r xs ys zs g h = record { places = g.places ∙ h.places; many = g.many ∙ h.many }

-- the same where what is left is said otherwise
pub goes_along : (p q : Placing) (xs ys zs behind : List TheArgType) → ys ≡ zs → Places p xs q (ys ++ behind) → Places p xs q (zs ++ behind)
goes_along p q xs ys zs behind e g = subst (λ (l : List TheArgType). Places p xs q (l ++ behind)) e g

-- room for all that is left, where there was room for all
pub room_left : (p q : Placing) (xs ys : List TheArgType) → Places p (xs ++ []) q (ys ++ []) → p.count + length xs ≤ 7 → q.count + length ys ≤ 7
room_left p q xs ys g h =
    let first : length (xs ++ []) ≡ length xs = ap length (append-nil xs) in
    let second : length (ys ++ []) ≡ length ys = ap length (append-nil ys) in
    omega (arith, first, second, g.many, h)

-- ---- all ranks

-- how far the ranks before one have come
pub record IsRanked (plan : PlanNo) (ts : List TheArgType) (rank : ℕ) (p : Placing) : Type 0 where
  pub sound : IsPlacing p
  pub places : places_behind 0 (by_ranks (λ (t : TheArgType). t) plan ts) ≡ take p.count p.places ++ places_behind p.end (of_ranks (λ (t : TheArgType). t) plan (5 - rank) rank ts)
  pub many : length (by_ranks (λ (t : TheArgType). t) plan ts) ≡ p.count + length (of_ranks (λ (t : TheArgType). t) plan (5 - rank) rank ts)

pub none_ranked : (plan : PlanNo) (ts : List TheArgType) (p : Placing) → IsPlacing p → p.count ≡ 0 → p.end ≡ 0 → IsRanked plan ts 0 p
none_ranked plan ts p sound none start =
    let all = by_ranks (λ (t : TheArgType). t) plan ts in
    record {
      sound = sound;
      places = ap (λ (n : ℕ). places_behind n all) (sym start) ∙ ap (λ (n : ℕ). take n p.places ++ places_behind p.end all) (sym none);
      many = omega (arith, none);
    }

length_ranks : (plan : PlanNo) (ts : List TheArgType) → length (by_ranks (λ (t : TheArgType). t) plan ts) ≡ length ts
length_ranks plan ts = ap length (sym (arranged_ranks (λ (t : TheArgType). t) plan ts)) ∙ all_types plan ts

pub rank_room : (plan : PlanNo) (ts : List TheArgType) (rank : ℕ) (p : Placing) → rank < 5 → length ts ≤ 7 → IsRanked plan ts rank p → p.count + length (types_of_rank plan rank ts) ≤ 7
rank_room plan ts rank p small few h =
    let here = types_of_rank plan rank ts in
    let behind = of_ranks (λ (t : TheArgType). t) plan (5 - (rank + 1)) (rank + 1) ts in
    let split = ap length (next_rank (λ (t : TheArgType). t) plan rank ts small) ∙ length-append here behind in
    omega (arith, few, h.many, split, length_ranks plan ts)

pub rank_more : (plan : PlanNo) (ts : List TheArgType) (rank : ℕ) (p q : Placing) → rank < 5 → IsRanked plan ts rank p → IsPlacing q
    → ((behind : List TheArgType) → Places p (types_of_rank plan rank ts ++ behind) q behind) → IsRanked plan ts (rank + 1) q
rank_more plan ts rank p q small h sound goes =
    let behind = of_ranks (λ (t : TheArgType). t) plan (5 - (rank + 1)) (rank + 1) ts in
    let split = next_rank (λ (t : TheArgType). t) plan rank ts small in
    let g = goes behind in
    record {
      sound = sound;
      places = h.places ∙ ap (λ (l : List TheArgType). take p.count p.places ++ places_behind p.end l) split ∙ g.places;
      many = h.many ∙ ap (λ (l : List TheArgType). p.count + length l) split ∙ g.many;
    }

-- all arguments are placed
pub record AllPlaced (plan : PlanNo) (ts : List TheArgType) (p : Placing) : Type 0 where
  pub many : p.count ≡ length ts
  pub placed : take p.count p.places ≡ places_behind 0 (planned_types plan ts)

pub all_ranked : (plan : PlanNo) (ts : List TheArgType) (rank : ℕ) (p : Placing) → 5 ≤ rank → IsRanked plan ts rank p → AllPlaced plan ts p
all_ranked plan ts rank p past h =
    let none = last_rank (λ (t : TheArgType). t) plan rank ts past in
    let many : length (by_ranks (λ (t : TheArgType). t) plan ts) ≡ p.count + 0 = h.many ∙ ap (λ (l : List TheArgType). p.count + length l) none in
    record {
      many = omega (arith, many, length_ranks plan ts);
      placed = sym (ap (places_behind 0) (arranged_ranks (λ (t : TheArgType). t) plan ts) ∙ h.places
          ∙ ap (λ (l : List TheArgType). take p.count p.places ++ places_behind p.end l) none ∙ append-nil (take p.count p.places));
    }
