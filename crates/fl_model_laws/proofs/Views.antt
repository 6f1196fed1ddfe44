-- What circuits stand on, apart from all else: each core's table and links, the monitors' messages on each ring, and how
-- each binding is joined. Most events leave it is.
use Rattle.std.proofs.Common.{◌≡◌, refl, sym, ◌∙◌, ap, ℕ, zero, suc, ◌+◌, ◌==◌, nat_lt, not, Bool, true, false, if◌then◌else◌, List, [], ◌∷◌, length, map, slice_get, slice_set, position, Option, Some, None, arith}
use Rattle.std.specs.Prelude.{filter_map}
use Rattle.std.specs.List.{position_or_len}
use Rattle.std.proofs.lemmas.Bool.Decides.{nat_tests}
use Rattle.fl_base.specs.Given.{given}
use Rattle.fl_hop.specs.declared.links.LinkState.{LinkState}
use Rattle.fl_hop.specs.Table.{TheCircuits}
use Rattle.fl_model.specs.Given.{changed_at}
use Rattle.fl_model.specs.Rings.{MonitorLabel, RingLabel, Ring}
use Rattle.fl_model.specs.Monitors.{Core, Link}
use Rattle.fl_model.specs.State.{Back, State, Binding}
use Rattle.fl_model.specs.Standing.{labels_of, said_by}
use Rattle.fl_model_laws.proofs.Cases.{by_given}

-- ---- lists

pub changed_later : {X : Type 0} (x : X) (xs : List X) (n : ℕ) (f : X → X) → changed_at (suc n) f (x ∷ xs) ≡ x ∷ changed_at n f xs
changed_later {X} x xs n f = by (slice_get xs n)
  where
    by : (o : Option X) → given o (x ∷ xs) (λ y. x ∷ slice_set xs n (f y)) ≡ x ∷ given o xs (λ y. slice_set xs n (f y))
    by None = refl
    by (Some y) = refl

-- a change that shows through a view
pub map_changed : {X Y : Type 0} (v : X → Y) (f : X → X) (g : Y → Y) (xs : List X) (n : ℕ) → ((x : X) → slice_get xs n ≡ Some x → v (f x) ≡ g (v x))
    → map v (changed_at n f xs) ≡ changed_at n g (map v xs)
map_changed v f g [] n h = refl
map_changed v f g (x ∷ xs) zero h = ap (λ y. y ∷ map v xs) (h x refl)
map_changed v f g (x ∷ xs) (suc n) h =
    ap (map v) (changed_later x xs n f) ∙ ap (λ ys. v x ∷ ys) (map_changed v f g xs n h) ∙ sym (changed_later (v x) (map v xs) n g)

-- and one that doesn't
pub map_kept : {X Y : Type 0} (v : X → Y) (f : X → X) (xs : List X) (n : ℕ) → ((x : X) → slice_get xs n ≡ Some x → v (f x) ≡ v x)
    → map v (changed_at n f xs) ≡ map v xs
map_kept v f [] n h = refl
map_kept v f (x ∷ xs) zero h = ap (λ y. y ∷ map v xs) (h x refl)
map_kept v f (x ∷ xs) (suc n) h = ap (map v) (changed_later x xs n f) ∙ ap (λ ys. v x ∷ ys) (map_kept v f xs n h)

pub given_map : {X Y Z : Type 0} (v : X → Y) (d : Z) (f : Y → Z) (xs : List X) (n : ℕ) → given (slice_get (map v xs) n) d f ≡ given (slice_get xs n) d (λ x. f (v x))
given_map v d f [] n = refl
given_map v d f (x ∷ xs) zero = refl
given_map v d f (x ∷ xs) (suc n) = given_map v d f xs n

-- what stands in the second list where the first has what passes
abbrev pub found : {X Y : Type 0} → (X → Bool) → List X → List Y → Option Y
found p [] ys = None
found p (x ∷ xs) [] = None
found p (x ∷ xs) (y ∷ ys) = if p x then Some y else found p xs ys

found_none : {X Y : Type 0} (p : X → Bool) (xs : List X) → given (position p xs) None (slice_get {X = Y} []) ≡ None
found_none {X} {Y} p xs = by_given (λ (o : Option Y). o ≡ None) (position p xs) None (slice_get []) refl (λ i q. refl)

abbrev at_place : ℕ → ℕ → Option ℕ
at_place k n = if nat_lt k n then Some k else None

found_step : {Y : Type 0} (b : Bool) (k n m : ℕ) (y : Y) (ys : List Y) → m ≡ n + 1
    → given (at_place (if not b then 1 + k else 0) m) None (slice_get (y ∷ ys)) ≡ (if b then Some y else given (at_place k n) None (slice_get ys))
found_step {Y} true k n m y ys e =
    let t : nat_lt 0 m ≡ true = grind (arith, nat_tests, e) in
    ap (λ (b : Bool). given (if b then Some 0 else None) None (slice_get (y ∷ ys))) t
found_step {Y} false k n m y ys e = by (nat_lt k n) (nat_lt (1 + k) m) (grind (arith, nat_tests, e))
  where
    by : (b c : Bool) → c ≡ b → given (if c then Some (1 + k) else None) None (slice_get (y ∷ ys)) ≡ given (if b then Some k else None) None (slice_get ys)
    by true true e = let s : 1 + k ≡ suc k = omega arith in ap (slice_get (y ∷ ys)) s
    by false false e = refl
    by true false e = absurd (cc)
    by false true e = absurd (cc)

pub found_is : {X Y : Type 0} (p : X → Bool) (xs : List X) (ys : List Y) → given (position p xs) None (slice_get ys) ≡ found p xs ys
found_is p [] ys = refl
found_is {X} {Y} p (x ∷ xs) [] = found_none {Y = Y} p (x ∷ xs)
found_is p (x ∷ xs) (y ∷ ys) =
    found_step (p x) (position_or_len p xs) (length xs) (length (x ∷ xs)) y ys (omega arith)
    ∙ ap (λ o. if p x then Some y else o) (found_is p xs ys)

-- ---- the view

pub record Part : Type 0 where
  pub circuits : TheCircuits
  pub links : List Link

-- the monitors' messages that wait in each direction of a ring
pub record Sides : Type 0 where
  pub by_first : List MonitorLabel
  pub by_second : List MonitorLabel

pub record View : Type 0 where
  pub parts : List Part
  pub rings : List Sides
  pub backs : List Back

abbrev pub part_of : Core → Part
part_of k = record { circuits = k.circuits; links = k.links }

abbrev pub messages : List RingLabel → List MonitorLabel
messages ls = filter_map said_by (labels_of ls)

abbrev pub two : List MonitorLabel → List MonitorLabel → Sides
two a b = record { by_first = a; by_second = b }

abbrev pub sides_of : Ring → Sides
sides_of r = two (messages r.by_first.waiting) (messages r.by_second.waiting)

abbrev pub back_of : Binding → Back
back_of b = b.back

abbrev pub made : List Part → List Sides → List Back → View
made parts rings backs = record { parts = parts; rings = rings; backs = backs }

abbrev pub view : State → View
view s = made (map part_of s.cores) (map sides_of s.rings) (map back_of s.bindings)

abbrev pub link_in : ℕ → Part → Option Link
link_in neighbour p = found (λ (a : LinkState). a.neighbour.0 == neighbour) p.circuits.links p.links

abbrev pub link_at : View → ℕ → ℕ → Option Link
link_at v a b = given (slice_get v.parts a) None (link_in b)
