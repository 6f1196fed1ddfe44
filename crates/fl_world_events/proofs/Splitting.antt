-- A fragment moves from one ring to another, where the rings before a place and those from it on are lent apart.
use Rattle.std.proofs.Common.{◌≡◌, ◌<◌, ◌+◌, refl, sym, ap, ◌∙◌, subst, ℕ, zero, suc, List, [], ◌∷◌, ◌++◌, length, slice_get, slice_set, slice_index_or, Some, arith}
use Rattle.std.proofs.lemmas.List.{length-append}
use Rattle.fl_ring.specs.Duo.{TheDuo}
use Rattle.fl_model.specs.Events.{Answer}
use Rattle.fl_world_refines.specs.View.{ring_at}
use Rattle.fl_world_events.specs.declared.moving.ForwardFrag.{ForwardFrag}
use Rattle.fl_world_events.specs.Passing.{Passes, PassesOver}
use Rattle.fl_world_events.proofs.Lifts.{stands}

-- ---- lists in two parts

set_behind : {X : Type 0} (low high : List X) (y : X) → low ++ slice_set high 0 y ≡ slice_set (low ++ high) (length low) y
set_behind [] high y = refl
set_behind (z ∷ low) high y = ap (λ ys. z ∷ ys) (set_behind low high y)

-- one of the first part, and then the first of the second
set_up : {X : Type 0} (low high : List X) (i : ℕ) (x y : X) → i < length low
    → slice_set low i x ++ slice_set high 0 y ≡ slice_set (slice_set (low ++ high) i x) (length low) y
set_up [] high i x y h = absurd (omega (arith, h))
set_up (z ∷ low) high zero x y h = ap (λ ys. x ∷ ys) (set_behind low high y)
set_up (z ∷ low) high (suc i) x y h = ap (λ ys. z ∷ ys) (set_up low high i x y (omega (arith, h)))

-- the first of the second part, and then one of the first
set_down : {X : Type 0} (low high : List X) (j : ℕ) (x y : X) → j < length low
    → slice_set low j y ++ slice_set high 0 x ≡ slice_set (slice_set (low ++ high) (length low) x) j y
set_down [] high j x y h = absurd (omega (arith, h))
set_down (z ∷ low) high zero x y h = ap (λ ys. y ∷ ys) (set_behind low high x)
set_down (z ∷ low) high (suc j) x y h = ap (λ ys. z ∷ ys) (set_down low high j x y (omega (arith, h)))

get_low : {X : Type 0} (low high : List X) (i : ℕ) → i < length low → slice_get (low ++ high) i ≡ slice_get low i
get_low [] high i h = absurd (omega (arith, h))
get_low (z ∷ low) high zero h = refl
get_low (z ∷ low) high (suc i) h = get_low low high i (omega (arith, h))

get_high : {X : Type 0} (low high : List X) → slice_get (low ++ high) (length low) ≡ slice_get high 0
get_high [] high = refl
get_high (z ∷ low) high = get_high low high

-- ---- a fragment moves

-- the parts, as they are lent: the second begins with ring n
record Parts (xs low high : List TheDuo) (n : ℕ) : Type 0 where
  value : xs ≡ low ++ high
  front_len : length low ≡ n
  within : n < length xs

some_high : (xs low high : List TheDuo) (n : ℕ) → Parts xs low high n → 0 < length high
some_high xs low high n h =
    let all : length low + length high ≡ length xs = sym (ap length h.value ∙ length-append low high) in
    omega (arith, all, h.front_len, h.within)

in_low : (xs low high : List TheDuo) (n i : ℕ) → Parts xs low high n → i < n → (r read : TheDuo) → read ≡ slice_index_or low i read → r ≡ read → slice_get xs i ≡ Some r
in_low xs low high n i h below r read value view =
    let there : i < length low = omega (arith, below, h.front_len) in
    ap (λ (ys : List TheDuo). slice_get ys i) h.value ∙ get_low low high i there ∙ stands low i r read there value view

in_high : (xs low high : List TheDuo) (n : ℕ) → Parts xs low high n → (r read : TheDuo) → read ≡ slice_index_or high 0 read → r ≡ read → slice_get xs n ≡ Some r
in_high xs low high n h r read value view =
    ap (slice_get xs) (sym h.front_len) ∙ ap (λ (ys : List TheDuo). slice_get ys (length low)) h.value ∙ get_high low high
    ∙ stands high 0 r read (some_high xs low high n h) value view

pub moves_up : (p : ForwardFrag) (xs low high : List TheDuo) (i j : ℕ) → i ≡ ring_at p.from → j ≡ ring_at p.onto → xs ≡ low ++ high → length low ≡ j
    → ring_at p.from < ring_at p.onto → ring_at p.onto < length xs → (r rread : TheDuo) → rread ≡ slice_index_or low i rread → r ≡ rread
    → (n nread : TheDuo) → nread ≡ slice_index_or high 0 nread → n ≡ nread → (a : Answer) (r2 n2 : TheDuo)
    → Passes p (record { from = r; onto = n }) a (record { from = r2; onto = n2 }) → PassesOver p xs a (slice_set low i r2 ++ slice_set high 0 n2)
moves_up p xs low high i j i_is j_is value front_len up within r rread rvalue rview n nread nvalue nview a r2 n2 h =
    let parts : Parts xs low high (ring_at p.onto) = record { value = value; front_len = front_len ∙ j_is; within = within } in
    let below : i < length low = omega (arith, up, i_is, j_is, front_len) in
    record {
      before = record { from = r; onto = n };
      from_is = in_low xs low high (ring_at p.onto) (ring_at p.from) parts up r rread (subst (λ (k : ℕ). rread ≡ slice_index_or low k rread) i_is rvalue) rview;
      onto_is = in_high xs low high (ring_at p.onto) parts n nread nvalue nview;
      after = record { from = r2; onto = n2 };
      passes = h;
      rest = set_up low high i r2 n2 below
          ∙ ap (λ (ys : List TheDuo). slice_set (slice_set ys i r2) (length low) n2) (sym value)
          ∙ ap (λ (k : ℕ). slice_set (slice_set xs k r2) (length low) n2) i_is
          ∙ ap (λ (k : ℕ). slice_set (slice_set xs (ring_at p.from) r2) k n2) (front_len ∙ j_is);
    }

pub moves_down : (p : ForwardFrag) (xs low high : List TheDuo) (i j : ℕ) → i ≡ ring_at p.from → j ≡ ring_at p.onto → xs ≡ low ++ high → length low ≡ i
    → ring_at p.onto < ring_at p.from → ring_at p.from < length xs → (r rread : TheDuo) → rread ≡ slice_index_or high 0 rread → r ≡ rread
    → (n nread : TheDuo) → nread ≡ slice_index_or low j nread → n ≡ nread → (a : Answer) (r2 n2 : TheDuo)
    → Passes p (record { from = r; onto = n }) a (record { from = r2; onto = n2 }) → PassesOver p xs a (slice_set low j n2 ++ slice_set high 0 r2)
moves_down p xs low high i j i_is j_is value front_len down within r rread rvalue rview n nread nvalue nview a r2 n2 h =
    let parts : Parts xs low high (ring_at p.from) = record { value = value; front_len = front_len ∙ i_is; within = within } in
    let below : j < length low = omega (arith, down, i_is, j_is, front_len) in
    record {
      before = record { from = r; onto = n };
      from_is = in_high xs low high (ring_at p.from) parts r rread rvalue rview;
      onto_is = in_low xs low high (ring_at p.from) (ring_at p.onto) parts down n nread (subst (λ (k : ℕ). nread ≡ slice_index_or low k nread) j_is nvalue) nview;
      after = record { from = r2; onto = n2 };
      passes = h;
      rest = set_down low high j r2 n2 below
          ∙ ap (λ (ys : List TheDuo). slice_set (slice_set ys (length low) r2) j n2) (sym value)
          ∙ ap (λ (k : ℕ). slice_set (slice_set xs k r2) j n2) (front_len ∙ i_is)
          ∙ ap (λ (k : ℕ). slice_set (slice_set xs (ring_at p.from) r2) k n2) j_is;
    }
