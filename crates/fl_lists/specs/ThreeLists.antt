-- The three lists that a `Lists` holds, and what each call makes of them.
use Rattle.std.specs.Prelude.{ℕ, ◌≡◌, ◌<◌, ◌==◌, not, Bool, true, false, if◌then◌else◌, List, [], ◌∷◌, ◌++◌, filter, drop, Option, Some, None}
use Rattle.std.specs.List.{list_any}
use Rattle.fl_lists.specs.declared.place.Place.{Place}
use Rattle.fl_lists.specs.declared.place.Place.TheVariants.{Idle, Polled, Pending}

-- the nodes are the numbers below `size`, and each list has its nodes first to last
pub record ThreeLists : Type 0 where
  pub size : ℕ
  pub idle : List ℕ
  pub polled : List ℕ
  pub pending : List ℕ

-- one of the three lists
abbrev pub list_at : ThreeLists → Place → List ℕ
list_at w Idle = w.idle
list_at w Polled = w.polled
list_at w Pending = w.pending

-- the same with another list in this place
abbrev pub with_list : ThreeLists → Place → List ℕ → ThreeLists
with_list w Idle xs = record w { idle = xs }
with_list w Polled xs = record w { polled = xs }
with_list w Pending xs = record w { pending = xs }

-- whether c is in a list
abbrev pub is_in : ℕ → List ℕ → Bool
is_in c xs = list_any (λ x. x == c) xs

-- the list that c is in
abbrev pub place_of : ThreeLists → ℕ → Option Place
place_of w c =
    if is_in c w.idle then Some Idle
    else (if is_in c w.polled then Some Polled else (if is_in c w.pending then Some Pending else None))

-- a list without c
abbrev pub without : ℕ → List ℕ → List ℕ
without c xs = filter (λ x. not (x == c)) xs

-- c is in none of the three lists any more
abbrev pub unlinked : ThreeLists → ℕ → ThreeLists
unlinked w c =
    record { size = w.size; idle = without c w.idle; polled = without c w.polled; pending = without c w.pending }

-- c has been added at the back of the list in this place
abbrev pub pushed : ThreeLists → ℕ → Place → ThreeLists
pushed w c place = with_list w place (list_at w place ++ c ∷ [])

-- c has left its list for the back of the list in this place
abbrev pub moved : ThreeLists → ℕ → Place → ThreeLists
moved w c place = pushed (unlinked w c) c place

-- the first of the list in this place is gone
abbrev pub popped : ThreeLists → Place → ThreeLists
popped w place = with_list w place (drop 1 (list_at w place))

-- no number stands in a list twice
abbrev pub NoRepeat : List ℕ → Type 0
NoRepeat [] = Unit {0}
NoRepeat (x ∷ xs) = (is_in x xs ≡ false) × NoRepeat xs

-- each list is without repetition, no number is in two of them, and all are below the size
pub record IsApart (w : ThreeLists) : Type 0 where
  pub once : (place : Place) → NoRepeat (list_at w place)
  pub one_list : (p q : Place) (c : ℕ) → is_in c (list_at w p) ≡ true → is_in c (list_at w q) ≡ true → p ≡ q
  pub below : (place : Place) (c : ℕ) → is_in c (list_at w place) ≡ true → c < w.size

-- three empty lists
abbrev pub empty : ℕ → ThreeLists
empty n = record { size = n; idle = []; polled = []; pending = [] }
