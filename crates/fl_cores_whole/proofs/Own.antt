-- Things in their owners' hands, by their numbers.
use Rattle.std.proofs.Common.{◌≡◌, refl, sym, ◌∙◌, ap, ℕ, zero, suc, ◌+◌, ◌==◌, Bool, true, false, if◌then◌else◌, List, [], ◌∷◌, ◌++◌, length, slice_get, Some, arith}
use Rattle.std.specs.List.{range_with_len}
use Rattle.std.proofs.lemmas.Bool.Decides.{nat_tests}
use Rattle.fl_cores_shares.specs.Shares.{own_things, own_before}

-- the numbers of those of one core, where the first has this number
abbrev pub numbers_from : ℕ → ℕ → List ℕ → List ℕ
numbers_from b core owners = own_things core owners (range_with_len b (length owners))

-- the thing at place i of a core's hand: its number is k behind the first
pub record IsOwn (b core : ℕ) (owners : List ℕ) (i m : ℕ) : Type 1 where
  pub number : ℕ
  pub is : m ≡ b + number
  pub owner : slice_get owners number ≡ Some core
  pub place : i ≡ own_before core number owners
  pub things : (T : Type 0) (things : List T) → length things ≡ length owners → slice_get (own_things core owners things) i ≡ slice_get things number

first_if : {X : Type 0} (t : Bool) (x : X) (xs : List X) → t ≡ true → (if t then x ∷ [] else []) ++ xs ≡ x ∷ xs
first_if t x xs h = ap (λ (c : Bool). (if c then x ∷ [] else []) ++ xs) h

none_if : {X : Type 0} (t : Bool) (x : X) (xs : List X) → t ≡ false → (if t then x ∷ [] else []) ++ xs ≡ xs
none_if t x xs h = ap (λ (c : Bool). (if c then x ∷ [] else []) ++ xs) h

own_step : (b core o : ℕ) (owners : List ℕ) (m : ℕ)
    → ((t : ℕ) → slice_get (numbers_from (b + 1) core owners) t ≡ Some m → IsOwn (b + 1) core owners t m)
    → (i : ℕ) → slice_get (numbers_from b core (o ∷ owners)) i ≡ Some m → IsOwn b core (o ∷ owners) i m
own_step b core o owners m rest i h = by (o == core) refl i h
  where
    mine : (o == core) ≡ true → (i : ℕ) → slice_get (b ∷ numbers_from (b + 1) core owners) i ≡ Some m → IsOwn b core (o ∷ owners) i m
    mine q zero e =
        let same : o ≡ core = grind (arith, nat_tests, q) in
        let is : b ≡ m = cc in
        record {
          number = 0;
          is = omega (arith, is);
          owner = ap (λ (x : ℕ). Some x) same;
          place = refl;
          things = here;
        }
      where
        here : (T : Type 0) (things : List T) → length things ≡ length (o ∷ owners) → slice_get (own_things core (o ∷ owners) things) zero ≡ slice_get things zero
        here T [] long = absurd (omega (arith, long))
        here T (x ∷ things) long = ap (λ l. slice_get l zero) (first_if (o == core) x (own_things core owners things) q)
    mine q (suc i) e =
        let k = rest i e in
        let is = k.is in
        record {
          number = suc k.number;
          is = omega (arith, is);
          owner = k.owner;
          place = ap (λ (n : ℕ). suc n) k.place ∙ sym (ap (λ (t : Bool). if t then suc (own_before core k.number owners) else own_before core k.number owners) q);
          things = there k;
        }
      where
        there : (k : IsOwn (b + 1) core owners i m) (T : Type 0) (things : List T) → length things ≡ length (o ∷ owners)
            → slice_get (own_things core (o ∷ owners) things) (suc i) ≡ slice_get things (suc k.number)
        there k T [] long = absurd (omega (arith, long))
        there k T (x ∷ things) long =
            ap (λ l. slice_get l (suc i)) (first_if (o == core) x (own_things core owners things) q) ∙ k.things T things (omega (arith, long))

    others : (o == core) ≡ false → (i : ℕ) → slice_get (numbers_from (b + 1) core owners) i ≡ Some m → IsOwn b core (o ∷ owners) i m
    others q i e =
        let k = rest i e in
        let is = k.is in
        record {
          number = suc k.number;
          is = omega (arith, is);
          owner = k.owner;
          place = k.place ∙ sym (ap (λ (t : Bool). if t then suc (own_before core k.number owners) else own_before core k.number owners) q);
          things = there k;
        }
      where
        there : (k : IsOwn (b + 1) core owners i m) (T : Type 0) (things : List T) → length things ≡ length (o ∷ owners)
            → slice_get (own_things core (o ∷ owners) things) i ≡ slice_get things (suc k.number)
        there k T [] long = absurd (omega (arith, long))
        there k T (x ∷ things) long =
            ap (λ l. slice_get l i) (none_if (o == core) x (own_things core owners things) q) ∙ k.things T things (omega (arith, long))

    by : (t : Bool) → (o == core) ≡ t → (i : ℕ) → slice_get ((if (o == core) then b ∷ [] else []) ++ numbers_from (b + 1) core owners) i ≡ Some m
        → IsOwn b core (o ∷ owners) i m
    by true q i e = mine q i (ap (λ (l : List ℕ). slice_get l i) (sym (first_if (o == core) b (numbers_from (b + 1) core owners) q)) ∙ e)
    by false q i e = others q i (ap (λ (l : List ℕ). slice_get l i) (sym (none_if (o == core) b (numbers_from (b + 1) core owners) q)) ∙ e)

pub own_at : (b core : ℕ) (owners : List ℕ) (i m : ℕ) → slice_get (numbers_from b core owners) i ≡ Some m → IsOwn b core owners i m
own_at b core [] i m h = absurd (cc)
own_at b core (o ∷ owners) i m h = own_step b core o owners m (λ t e. own_at (b + 1) core owners t m e) i h

-- where thing k is this core's, it stands there with as many before it as it has of smaller numbers
there_step : (b core o : ℕ) (owners : List ℕ) (k : ℕ) → slice_get (numbers_from (b + 1) core owners) (own_before core k owners) ≡ Some (b + 1 + k)
    → slice_get (numbers_from b core (o ∷ owners)) (own_before core (suc k) (o ∷ owners)) ≡ Some (b + suc k)
there_step b core o owners k rest = by (o == core) refl
  where
    sum : b + 1 + k ≡ b + suc k
    sum = omega arith

    next : slice_get (numbers_from (b + 1) core owners) (own_before core k owners) ≡ Some (b + suc k)
    next = rest ∙ ap (λ (x : ℕ). Some x) sum

    by : (t : Bool) → (o == core) ≡ t → slice_get (numbers_from b core (o ∷ owners)) (own_before core (suc k) (o ∷ owners)) ≡ Some (b + suc k)
    by true q =
        ap (λ (t : Bool). slice_get (numbers_from b core (o ∷ owners)) (if t then suc (own_before core k owners) else own_before core k owners)) q
        ∙ ap (λ (l : List ℕ). slice_get l (suc (own_before core k owners))) (first_if (o == core) b (numbers_from (b + 1) core owners) q) ∙ next
    by false q =
        ap (λ (t : Bool). slice_get (numbers_from b core (o ∷ owners)) (if t then suc (own_before core k owners) else own_before core k owners)) q
        ∙ ap (λ (l : List ℕ). slice_get l (own_before core k owners)) (none_if (o == core) b (numbers_from (b + 1) core owners) q) ∙ next

pub own_there : (b core : ℕ) (owners : List ℕ) (k : ℕ) → slice_get owners k ≡ Some core
    → slice_get (numbers_from b core owners) (own_before core k owners) ≡ Some (b + k)
own_there b core [] k h = absurd (cc)
own_there b core (o ∷ owners) zero h =
    let same : o ≡ core = cc in
    let test : (o == core) ≡ true = grind (arith, nat_tests, same) in
    let sum : b ≡ b + 0 = omega arith in
    ap (λ (l : List ℕ). slice_get l zero) (first_if (o == core) b (numbers_from (b + 1) core owners) test) ∙ ap (λ (x : ℕ). Some x) sum
own_there b core (o ∷ owners) (suc k) h = there_step b core o owners k (own_there (b + 1) core owners k h)

-- as many of each
many_step : {X Y : Type 0} (core o : ℕ) (owners : List ℕ) (x : X) (xs : List X) (y : Y) (ys : List Y)
    → length (own_things core owners xs) ≡ length (own_things core owners ys)
    → length (own_things core (o ∷ owners) (x ∷ xs)) ≡ length (own_things core (o ∷ owners) (y ∷ ys))
many_step core o owners x xs y ys rest = by (o == core) refl
  where
    by : (t : Bool) → (o == core) ≡ t → length (own_things core (o ∷ owners) (x ∷ xs)) ≡ length (own_things core (o ∷ owners) (y ∷ ys))
    by true t =
        let both : length (x ∷ own_things core owners xs) ≡ length (y ∷ own_things core owners ys) = omega (arith, rest) in
        ap length (first_if (o == core) x (own_things core owners xs) t) ∙ both ∙ sym (ap length (first_if (o == core) y (own_things core owners ys) t))
    by false t =
        ap length (none_if (o == core) x (own_things core owners xs) t) ∙ rest ∙ sym (ap length (none_if (o == core) y (own_things core owners ys) t))

pub as_many : {X Y : Type 0} (core : ℕ) (owners : List ℕ) (xs : List X) (ys : List Y) → length xs ≡ length owners → length ys ≡ length owners
    → length (own_things core owners xs) ≡ length (own_things core owners ys)
as_many core [] [] [] p q = refl
as_many core [] [] (y ∷ ys) p q = absurd (omega (arith, q))
as_many core [] (x ∷ xs) ys p q = absurd (omega (arith, p))
as_many core (o ∷ owners) [] ys p q = absurd (omega (arith, p))
as_many core (o ∷ owners) (x ∷ xs) [] p q = absurd (omega (arith, q))
as_many core (o ∷ owners) (x ∷ xs) (y ∷ ys) p q = many_step core o owners x xs y ys (as_many core owners xs ys (omega (arith, p)) (omega (arith, q)))

pub range_long : (a n : ℕ) → length (range_with_len a n) ≡ n
range_long a zero = refl
range_long a (suc n) = let e = range_long (a + 1) n in omega (arith, e)
