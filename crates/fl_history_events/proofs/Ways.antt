-- What an action does to the two ways of its ring, and which two by the two sides of a ring may change places.
use Rattle.std.proofs.Common.{ℕ, zero, ◌≡◌, ◌+◌, ◌%◌, ◌<◌, Bool, true, List, [], ◌∷◌, ◌++◌, length, get_or, ap, ◌∙◌, sym, refl, arith}
use Rattle.std.proofs.lemmas.Bool.{false≢true}
use Rattle.fl_base.specs.declared.fragment.Frag.{Frag}
use Rattle.fl_base.specs.Control.{told_of}
use Rattle.fl_history_rings.specs.declared.board.Action.{Action}
use Rattle.fl_history_rings.specs.declared.board.Action.TheVariants.{Put, Found, Missed, Saw, Took}
use Rattle.fl_history_rings.specs.Rings.{Way, way_with, Does}
use Rattle.fl_history_events.specs.Events.{MayWait, MayComeEarlier, known_after}

-- ---- an action as what it wants and what it makes

-- what is left without the first
abbrev pub rest_of : List Frag → List Frag
rest_of [] = []
rest_of (x ∷ xs) = xs

-- the way that its side puts into, after it, and the way that it takes from
abbrev pub put_to : Action → Way → Way
put_to (Put frag) p = way_with (p.waiting ++ frag ∷ []) p.taken p.told
put_to (Found control) p = p
put_to Missed p = p
put_to (Saw frag) p = p
put_to (Took frag) p = p

abbrev pub taken_by : Action → Way → Way
taken_by (Put frag) q = way_with q.waiting q.taken q.taken
taken_by (Found control) q = q
taken_by Missed q = q
taken_by (Saw frag) q = q
taken_by (Took frag) q = way_with (rest_of q.waiting) (q.taken + 1) q.told

-- what it wants of them
abbrev pub Finds : ℕ → Way → Way → Action → Type 0
Finds n p q (Put frag) = (p.taken + length p.waiting < p.told + n) × (told_of frag.control ≡ q.taken % 65536)
Finds n p q (Found control) = (first : Frag) × (rest : List Frag) × (q.waiting ≡ first ∷ rest) × (first.control ≡ control)
Finds n p q Missed = q.waiting ≡ []
Finds n p q (Saw frag) = (rest : List Frag) × (q.waiting ≡ frag ∷ rest)
Finds n p q (Took frag) = (rest : List Frag) × (q.waiting ≡ frag ∷ rest)

pub does_finds : (n : ℕ) (p q : Way) (d : Action) (p' q' : Way) → Does n p q d p' q' → Finds n p q d × (p' ≡ put_to d p) × (q' ≡ taken_by d q)
does_finds n p q (Put frag) p' q' does = ((does.0, does.1), does.2, does.3)
does_finds n p q (Found control) p' q' does = ((does.0, does.1, does.2, does.3), does.4, does.5)
does_finds n p q Missed p' q' does = (does.0, does.1, does.2)
does_finds n p q (Saw frag) p' q' does = ((does.0, does.1), does.2, does.3)
does_finds n p q (Took frag) p' q' does =
    ((does.0, does.1), does.2, does.3 ∙ ap (λ (l : List Frag). way_with l (q.taken + 1) q.told) (sym (ap rest_of does.1)))

pub finds_does : (n : ℕ) (p q : Way) (d : Action) → Finds n p q d → Does n p q d (put_to d p) (taken_by d q)
finds_does n p q (Put frag) finds = (finds.0, finds.1, refl, refl)
finds_does n p q (Found control) finds = (finds.0, finds.1, finds.2, finds.3, refl, refl)
finds_does n p q Missed finds = (finds, refl, refl)
finds_does n p q (Saw frag) finds = (finds.0, finds.1, refl, refl)
finds_does n p q (Took frag) finds =
    (finds.0, finds.1, refl, ap (λ (l : List Frag). way_with l (q.taken + 1) q.told) (ap rest_of finds.1))

-- ---- fragments that stand, and one more

abbrev pub Standing : List Frag → Type 0
Standing l = (first : Frag) × (rest : List Frag) × (l ≡ first ∷ rest)

nil_cons : (x : Frag) (xs : List Frag) → (let none : List Frag = [] in none) ≡ x ∷ xs → ⊥
nil_cons x xs e = cc

first_stays : (l : List Frag) (f x : Frag) (xs : List Frag) → Standing l → l ++ f ∷ [] ≡ x ∷ xs → (rest : List Frag) × (l ≡ x ∷ rest)
first_stays [] f x xs stands is = absurd (nil_cons stands.0 stands.1 stands.2)
first_stays (y ∷ ys) f x xs stands is = (ys, ap (λ (z : Frag). z ∷ ys) (ap (λ (l : List Frag). get_or l zero y) is))

never_none : (l : List Frag) (f : Frag) → (let none : List Frag = [] in l ++ f ∷ [] ≡ none) → ⊥
never_none [] f is = let none : List Frag = [] in nil_cons f none (sym is)
never_none (y ∷ ys) f is = nil_cons y (ys ++ f ∷ []) (sym is)

rest_more : (l : List Frag) (f : Frag) → Standing l → rest_of (l ++ f ∷ []) ≡ rest_of l ++ f ∷ []
rest_more [] f stands = absurd (nil_cons stands.0 stands.1 stands.2)
rest_more (y ∷ ys) f stands = refl

one_fewer : (l : List Frag) → Standing l → length l ≡ length (rest_of l) + 1
one_fewer [] stands = absurd (nil_cons stands.0 stands.1 stands.2)
one_fewer (y ∷ ys) stands = omega arith

-- ---- two actions, by the two sides of a ring

-- The second may be done before the first, where so much stood in the way that the first one's side puts into.
abbrev pub MayChange : List Frag → Action → Action → Type 0
MayChange l (Put f) (Put g) = ⊥
MayChange l (Put f) (Found control) = Standing l
MayChange l (Put f) Missed = Unit {0}
MayChange l (Put f) (Saw g) = Standing l
MayChange l (Put f) (Took g) = Standing l
MayChange l Missed (Put g) = ⊥
MayChange l Missed (Found control) = Unit {0}
MayChange l Missed Missed = Unit {0}
MayChange l Missed (Saw g) = Unit {0}
MayChange l Missed (Took g) = Unit {0}
MayChange l (Found control) g = Unit {0}
MayChange l (Saw f) g = Unit {0}
MayChange l (Took f) g = Unit {0}

module _ (n m : ℕ) (p q : Way) where
  -- the second finds what it wants before the first
  pub second_first : (d g : Action) → MayChange p.waiting d g → Finds n p q d → Finds m (taken_by d q) (put_to d p) g → Finds m q p g
  second_first (Put f) (Put g) may one two = absurd may
  second_first (Put f) (Found control) may one two =
      let stays = first_stays p.waiting f two.0 two.1 may two.2 in (two.0, stays.0, stays.1, two.3)
  second_first (Put f) Missed may one two = absurd (never_none p.waiting f two)
  second_first (Put f) (Saw g) may one two = first_stays p.waiting f g two.0 may two.1
  second_first (Put f) (Took g) may one two = first_stays p.waiting f g two.0 may two.1
  second_first (Found control) g may one two = two
  second_first Missed g may one two = two
  second_first (Saw f) g may one two = two
  second_first (Took f) (Put g) may one two =
      let room : q.taken + 1 + length (rest_of q.waiting) < q.told + m = two.0 in
      let fewer = one_fewer q.waiting (f, one.0, one.1) in
      (omega (arith, room, fewer), two.1)
  second_first (Took f) (Found control) may one two = two
  second_first (Took f) Missed may one two = two
  second_first (Took f) (Saw g) may one two = two
  second_first (Took f) (Took g) may one two = two

  -- and the first after it
  pub first_second : (d g : Action) → MayChange p.waiting d g → Finds n p q d → Finds n (taken_by g p) (put_to g q) d
  first_second (Put f) (Put g) may one = absurd may
  first_second (Put f) (Found control) may one = one
  first_second (Put f) Missed may one = one
  first_second (Put f) (Saw g) may one = one
  first_second (Put f) (Took g) may one =
      let room : p.taken + length p.waiting < p.told + n = one.0 in
      let fewer = one_fewer p.waiting may in
      let less : p.taken + 1 + length (rest_of p.waiting) < p.told + n = omega (arith, room, fewer) in
      (less, one.1)
  first_second (Found control) (Put g) may one = (one.0, one.1 ++ g ∷ [], ap (λ (l : List Frag). l ++ g ∷ []) one.2, one.3)
  first_second (Found control) (Found other) may one = one
  first_second (Found control) Missed may one = one
  first_second (Found control) (Saw g) may one = one
  first_second (Found control) (Took g) may one = one
  first_second Missed (Put g) may one = absurd may
  first_second Missed (Found control) may one = one
  first_second Missed Missed may one = one
  first_second Missed (Saw g) may one = one
  first_second Missed (Took g) may one = one
  first_second (Saw f) (Put g) may one = (one.0 ++ g ∷ [], ap (λ (l : List Frag). l ++ g ∷ []) one.1)
  first_second (Saw f) (Found control) may one = one
  first_second (Saw f) Missed may one = one
  first_second (Saw f) (Saw g) may one = one
  first_second (Saw f) (Took g) may one = one
  first_second (Took f) (Put g) may one = (one.0 ++ g ∷ [], ap (λ (l : List Frag). l ++ g ∷ []) one.1)
  first_second (Took f) (Found control) may one = one
  first_second (Took f) Missed may one = one
  first_second (Took f) (Saw g) may one = one
  first_second (Took f) (Took g) may one = one

  -- the ways come to the same
  pub same_mine : (d g : Action) → MayChange p.waiting d g → taken_by g (put_to d p) ≡ put_to d (taken_by g p)
  same_mine (Put f) (Put g) may = refl
  same_mine (Put f) (Found control) may = refl
  same_mine (Put f) Missed may = refl
  same_mine (Put f) (Saw g) may = refl
  same_mine (Put f) (Took g) may = ap (λ (l : List Frag). way_with l (p.taken + 1) p.told) (rest_more p.waiting f may)
  same_mine (Found control) g may = refl
  same_mine Missed g may = refl
  same_mine (Saw f) g may = refl
  same_mine (Took f) g may = refl

  pub same_theirs : (g d : Action) → Finds n p q d → put_to g (taken_by d q) ≡ taken_by d (put_to g q)
  same_theirs (Put g) (Put f) one = refl
  same_theirs (Put g) (Found control) one = refl
  same_theirs (Put g) Missed one = refl
  same_theirs (Put g) (Saw f) one = refl
  same_theirs (Put g) (Took f) one =
      ap (λ (l : List Frag). way_with l (q.taken + 1) q.told) (sym (rest_more q.waiting g (f, one.0, one.1)))
  same_theirs (Found control) d one = refl
  same_theirs Missed d one = refl
  same_theirs (Saw g) d one = refl
  same_theirs (Took g) d one = refl

-- ---- which may

pub waits_change : (l : List Frag) (d g : Action) → MayWait d → MayChange l d g
waits_change l (Put f) g may = absurd may
waits_change l (Found control) g may = tt
waits_change l Missed g may = absurd may
waits_change l (Saw f) g may = tt
waits_change l (Took f) g may = tt

pub comes_change : (l : List Frag) (known : Bool) (d g : Action) → MayComeEarlier known g → (known ≡ true → Standing l) → MayChange l d g
comes_change l known (Put f) (Put g) may stands = absurd may
comes_change l known (Put f) (Found control) may stands = stands may
comes_change l known (Put f) Missed may stands = tt
comes_change l known (Put f) (Saw g) may stands = stands may
comes_change l known (Put f) (Took g) may stands = stands may
comes_change l known Missed (Put g) may stands = absurd may
comes_change l known Missed (Found control) may stands = tt
comes_change l known Missed Missed may stands = tt
comes_change l known Missed (Saw g) may stands = tt
comes_change l known Missed (Took g) may stands = tt
comes_change l known (Found control) g may stands = tt
comes_change l known (Saw f) g may stands = tt
comes_change l known (Took f) g may stands = tt

-- ---- what is known to stand

-- what stands stays, whatever the side across puts
pub put_stands : (p : Way) (d : Action) → Standing p.waiting → Standing (put_to d p).waiting
put_stands p (Put f) stands = (stands.0, stands.1 ++ f ∷ [], ap (λ (l : List Frag). l ++ f ∷ []) stands.2)
put_stands p (Found control) stands = stands
put_stands p Missed stands = stands
put_stands p (Saw f) stands = stands
put_stands p (Took f) stands = stands

-- and what is known to stand after an action of the side itself does
pub known_stands : (n : ℕ) (p q : Way) (d : Action) (known : Bool) → (known ≡ true → Standing q.waiting) → Finds n p q d → known_after known d ≡ true → Standing (taken_by d q).waiting
known_stands n p q (Put f) known stands finds is = stands is
known_stands n p q (Found control) known stands finds is = (finds.0, finds.1, finds.2)
known_stands n p q Missed known stands finds is = stands is
known_stands n p q (Saw f) known stands finds is = (f, finds.0, finds.1)
known_stands n p q (Took f) known stands finds is = absurd (false≢true is)
