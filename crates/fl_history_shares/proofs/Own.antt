-- Things in their owners' hands, by their numbers.
use Rattle.std.proofs.Common.{◌≡◌, refl, sym, ap, ◌∙◌, subst, ℕ, zero, suc, ◌+◌, ◌<◌, ◌==◌, Bool, true, false, if◌then◌else◌, List, [], ◌∷◌, ◌++◌, length, map, slice_get, Option, Some, None, arith}
use Rattle.std.specs.Prelude.{unwrap_or}
use Rattle.std.specs.List.{range_with_len, AllByRecursion}
use Rattle.std.proofs.lemmas.Bool.Decides.{nat_tests}
use Rattle.fl_cores_shares.specs.Shares.{Holdings, holding_at, own_things, own_before, AreHandedOut, IsAt, AreAt}

pub none_there : {X : Type 0} (x : X) → (let none : Option X = None in none) ≡ Some x → ⊥
none_there x e = cc

-- ---- lists

pub map_at : {X Y : Type 0} (f : X → Y) (xs : List X) (n : ℕ) (x : X) → slice_get xs n ≡ Some x → slice_get (map f xs) n ≡ Some (f x)
map_at f [] n x at = absurd (none_there x at)
map_at f (z ∷ xs) zero x at = let is : z ≡ x = cc in ap (λ y. Some (f y)) is
map_at f (z ∷ xs) (suc n) x at = map_at f xs n x at

-- what stands in a list that was gone over is of what stands there
pub record IsOf {X Y : Type 0} (f : X → Y) (xs : List X) (n : ℕ) (y : Y) : Type 0 where
  pub one : X
  pub there : slice_get xs n ≡ Some one
  pub is : f one ≡ y

pub map_of : {X Y : Type 0} (f : X → Y) (xs : List X) (n : ℕ) (y : Y) → slice_get (map f xs) n ≡ Some y → IsOf f xs n y
map_of f [] n y at = absurd (none_there y at)
map_of f (x ∷ xs) zero y at = record { one = x; there = refl; is = cc }
map_of f (x ∷ xs) (suc n) y at = let m = map_of f xs n y at in record { one = m.one; there = m.there; is = m.is }

pub all_by_places : {X : Type 0} (P : X → Type 0) (xs : List X) → ((n : ℕ) (x : X) → slice_get xs n ≡ Some x → P x) → AllByRecursion P xs
all_by_places P [] each = tt
all_by_places P (x ∷ xs) each = (each zero x refl, all_by_places P xs (λ n y at. each (suc n) y at))

pub all_at : {X : Type 0} (P : X → Type 0) (xs : List X) (n : ℕ) (x : X) → AllByRecursion P xs → slice_get xs n ≡ Some x → P x
all_at P [] n x all at = absurd (none_there x at)
all_at P (y ∷ xs) zero x all at = let is : y ≡ x = cc in subst P is all.0
all_at P (y ∷ xs) (suc n) x all at = all_at P xs n x all.1 at

-- ---- one hand

is_self : (n : ℕ) → (n == n) ≡ true
is_self n = grind (arith, nat_tests)

own_step : {T : Type 0} (b : Bool) (t thing : T) (rest : List T) (count : ℕ) → slice_get rest count ≡ Some thing
    → slice_get ((if b then t ∷ [] else []) ++ rest) (if b then suc count else count) ≡ Some thing
own_step true t thing rest count is = is
own_step false t thing rest count is = is

-- where a thing stands in its owner's hand
pub own_at : {T : Type 0} (owners : List ℕ) (things : List T) (n owner : ℕ) (thing : T) → slice_get owners n ≡ Some owner → slice_get things n ≡ Some thing
    → slice_get (own_things owner owners things) (own_before owner n owners) ≡ Some thing
own_at [] things n owner thing at is = absurd (none_there owner at)
own_at (o ∷ owners) [] n owner thing at is = absurd (none_there thing is)
own_at (o ∷ owners) (t ∷ things) zero owner thing at is =
    let same : o ≡ owner = cc in
    let mine : (o == owner) ≡ true = ap (λ (x : ℕ). x == owner) same ∙ is_self owner in
    ap (λ (b : Bool). slice_get ((if b then t ∷ [] else []) ++ own_things owner owners things) zero) mine ∙ is
own_at (o ∷ owners) (t ∷ things) (suc n) owner thing at is =
    own_step (o == owner) t thing (own_things owner owners things) (own_before owner n owners) (own_at owners things n owner thing at is)

-- a thing in a hand: which one it is
pub record IsOwn {T : Type 0} (owner : ℕ) (owners : List ℕ) (things : List T) (place : ℕ) (thing : T) : Type 0 where
  pub number : ℕ
  pub owner_is : slice_get owners number ≡ Some owner
  pub thing_is : slice_get things number ≡ Some thing
  pub before : own_before owner number owners ≡ place

own_first : {T : Type 0} (owner o : ℕ) (owners : List ℕ) (t : T) (things : List T) (thing : T) → (o == owner) ≡ true
    → t ≡ thing → IsOwn owner (o ∷ owners) (t ∷ things) zero thing
own_first owner o owners t things thing mine is =
    let same : o ≡ owner = grind (arith, nat_tests, mine) in
    record { number = zero; owner_is = ap (λ (x : ℕ). Some x) same; thing_is = ap (λ x. Some x) is; before = refl }

own_next : {T : Type 0} (owner o : ℕ) (owners : List ℕ) (t : T) (things : List T) (thing : T) (b : Bool) (place : ℕ) → (o == owner) ≡ b
    → IsOwn owner owners things place thing → IsOwn owner (o ∷ owners) (t ∷ things) (if b then suc place else place) thing
own_next owner o owners t things thing b place is own = record {
  number = suc own.number;
  owner_is = own.owner_is;
  thing_is = own.thing_is;
  before = ap (λ (c : Bool). if c then suc (own_before owner own.number owners) else own_before owner own.number owners) is
      ∙ ap (λ (k : ℕ). if b then suc k else k) own.before;
}

own_by : {T : Type 0} (owner o : ℕ) (owners : List ℕ) (t : T) (things : List T) (thing : T) (b : Bool) → (o == owner) ≡ b
    → ((p : ℕ) → slice_get (own_things owner owners things) p ≡ Some thing → IsOwn owner owners things p thing)
    → (p : ℕ) → slice_get ((if b then t ∷ [] else []) ++ own_things owner owners things) p ≡ Some thing → IsOwn owner (o ∷ owners) (t ∷ things) p thing
own_by owner o owners t things thing true is rest zero here = own_first owner o owners t things thing is (let e : t ≡ thing = cc in e)
own_by owner o owners t things thing true is rest (suc p) here = own_next owner o owners t things thing true p is (rest p here)
own_by owner o owners t things thing false is rest p here = own_next owner o owners t things thing false p is (rest p here)

pub own_from : {T : Type 0} (owner : ℕ) (owners : List ℕ) (things : List T) (place : ℕ) (thing : T) → slice_get (own_things owner owners things) place ≡ Some thing
    → IsOwn owner owners things place thing
own_from owner [] things place thing at = absurd (none_there thing at)
own_from owner (o ∷ owners) [] place thing at = absurd (none_there thing at)
own_from owner (o ∷ owners) (t ∷ things) place thing at = own_by owner o owners t things thing (o == owner) refl (λ p here. own_from owner owners things p thing here) place at

-- what is told of things is told of what they are shown as
own_if : {T U : Type 0} (f : T → U) (b : Bool) (t : T) (rest : List T) → map f ((if b then t ∷ [] else []) ++ rest) ≡ (if b then f t ∷ [] else []) ++ map f rest
own_if f true t rest = refl
own_if f false t rest = refl

pub own_map : {T U : Type 0} (f : T → U) (core : ℕ) (owners : List ℕ) (things : List T) → own_things core owners (map f things) ≡ map f (own_things core owners things)
own_map f core [] things = refl
own_map f core (o ∷ owners) [] = refl
own_map f core (o ∷ owners) (t ∷ things) =
    ap (λ xs. (if o == core then f t ∷ [] else []) ++ xs) (own_map f core owners things) ∙ sym (own_if f (o == core) t (own_things core owners things))

-- ---- hands

pub hand_map : {T U : Type 0} (f : T → U) (holdings : Holdings T) (core : ℕ) → holding_at (map (λ hand. map f hand) holdings) core ≡ map f (holding_at holdings core)
hand_map f [] core = refl
hand_map f (hand ∷ holdings) zero = refl
hand_map f (hand ∷ holdings) (suc core) = hand_map f holdings core

-- what stands in the hand of a thing's owner, where the hands were gone over
pub in_hand : {T U : Type 0} (f : T → U) (owners : List ℕ) (things : List U) (hands : Holdings T) (n owner : ℕ) (thing : U)
    → AreHandedOut owners things (map (λ hand. map f hand) hands) → slice_get owners n ≡ Some owner → slice_get things n ≡ Some thing
    → IsOf f (holding_at hands owner) (own_before owner n owners) thing
in_hand f owners things hands n owner thing out at is =
    map_of f (holding_at hands owner) (own_before owner n owners) thing
    (ap (λ xs. slice_get xs (own_before owner n owners)) (sym (hand_map f hands owner) ∙ out.each owner) ∙ own_at owners things n owner thing at is)

-- ---- numbers

pub range_at : (first count n : ℕ) → n < count → slice_get (range_with_len first count) n ≡ Some (first + n)
range_at first zero n below = absurd (omega (arith, below))
range_at first (suc count) zero below = let same : first ≡ first + 0 = omega arith in ap (λ (x : ℕ). Some x) same
range_at first (suc count) (suc n) below =
    let same : first + 1 + n ≡ first + suc n = omega arith in
    range_at (first + 1) count n (omega (arith, below)) ∙ ap (λ (x : ℕ). Some x) same

pub range_is : (first count n x : ℕ) → slice_get (range_with_len first count) n ≡ Some x → (x ≡ first + n) × (n < count)
range_is first zero n x at = absurd (none_there x at)
range_is first (suc count) zero x at = let same : first ≡ x = cc in (omega (arith, same), omega arith)
range_is first (suc count) (suc n) x at =
    let rest = range_is (first + 1) count n x at in
    let is = rest.0 in
    let below = rest.1 in
    (omega (arith, is), omega (arith, below))

pub range_more : (first count : ℕ) → range_with_len first (count + 1) ≡ range_with_len first count ++ (first + count) ∷ []
range_more first zero = let e : first ≡ first + 0 = omega arith in ap (λ (x : ℕ). x ∷ []) e
range_more first (suc count) =
    let next : suc count + 1 ≡ suc (count + 1) = omega arith in
    let last : first + 1 + count ≡ first + suc count = omega arith in
    ap (range_with_len first) next
    ∙ ap (λ (xs : List ℕ). first ∷ xs) (range_more (first + 1) count ∙ ap (λ (x : ℕ). range_with_len (first + 1) count ++ x ∷ []) last)

pub range_length : (first count : ℕ) → length (range_with_len first count) ≡ count
range_length first zero = refl
range_length first (suc count) = let e = range_length (first + 1) count in omega (arith, e)
