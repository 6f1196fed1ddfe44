-- What stands where in the joined world, and what of it stays where one core goes on.
use Rattle.std.proofs.Common.{◌≡◌, ◌≢◌, ◌⊎◌, inl, inr, refl, sym, ◌∙◌, ap, subst, ℕ, zero, suc, ◌+◌, ◌-◌, ◌*◌, ◌/◌, ◌%◌, ◌==◌, ◌<◌, Bool, true, false, if◌then◌else◌, List, [], ◌∷◌, length, map, slice_get, slice_set, Some, arith}
use Rattle.std.proofs.lemmas.Bool.Decides.{nat_tests}
use Rattle.fl_hop.proofs.Entering.{same_or}
use Rattle.fl_hop.proofs.Lists.{set_cases, set_here, set_there, within, at_within, index_there}
use Rattle.fl_link.specs.Queue.{TheQueue}
use Rattle.fl_ring.specs.Duo.{TheDuo}
use Rattle.fl_ring.specs.SharedSides.{TheSide}
use Rattle.fl_core.specs.Numbers.{moved}
use Rattle.fl_core.specs.View.{TheCore}
use Rattle.fl_core.proofs.Numbering.{goes_to}
use Rattle.fl_core_run.specs.Run.{TheRun}
use Rattle.fl_model.specs.Rings.{first_side, second_side}
use Rattle.fl_ring.specs.declared.one_duo.WhichSide.{WhichSide}
use Rattle.fl_ring.specs.declared.one_duo.WhichSide.TheVariants.{One, Two}
use Rattle.fl_world_refines.specs.Rings.{which_of}
use Rattle.fl_world_refines.specs.View.{TheWorld, ring_at, which_at, with_core, with_ring, with_queue}
use Rattle.fl_world_refines.proofs.FramesBase.{same_some}
use Rattle.fl_world_refines.proofs.Tests.{by_test}
use Rattle.fl_cores_joined.specs.Rings.{FacingSide, ring_by, AreFacing}
use Rattle.fl_cores_joined.specs.Joined.{JoinedCore, in_world, HasSide, facing, IsRingOf, HasQueue, AreOffers, AreNumbered, IsJoined, across_from, IsBeside}

-- ---- lists

pub map_set : {X Y : Type 0} (f : X → Y) (xs : List X) (n : ℕ) (x : X) → map f (slice_set xs n x) ≡ slice_set (map f xs) n (f x)
map_set f [] n x = refl
map_set f (y ∷ xs) zero x = refl
map_set f (y ∷ xs) (suc n) x = ap (λ zs. f y ∷ zs) (map_set f xs n x)

pub long_set : {X : Type 0} (xs : List X) (n : ℕ) (x : X) → length (slice_set xs n x) ≡ length xs
long_set [] n x = refl
long_set (y ∷ xs) zero x = refl
long_set (y ∷ xs) (suc n) x = let e = long_set xs n x in omega (arith, e)

-- ---- one number, one thing

module _ (xs : List JoinedCore) (numbered : AreNumbered xs) where
  pub same_side : (m : ℕ) (a b : TheSide) → HasSide xs m a → HasSide xs m b → a ≡ b
  same_side m a b h k =
      let (cores, places) = numbered.sides_apart h.core k.core h.place k.place m h.at k.at h.at_is k.at_is h.number_is k.number_is in
      let at : h.at ≡ k.at = same_some (slice_get xs k.core) h.at k.at (ap (slice_get xs) (sym cores) ∙ h.at_is) k.at_is in
      let moved_to : slice_get k.at.run.rings k.place ≡ Some a =
      ap (λ (x : JoinedCore). slice_get x.run.rings k.place) (sym at) ∙ ap (slice_get h.at.run.rings) (sym places) ∙ h.side_is in
      same_some (slice_get k.at.run.rings k.place) a b moved_to k.side_is

-- ---- a side that is lent

-- side i of core n of these, beside the one across from it, in the world
pub record Lent (w : TheWorld) (xs : List JoinedCore) (n : ℕ) (x : JoinedCore) (i : ℕ) (p : FacingSide) : Type 0 where
  pub number : ℕ
  pub number_is : slice_get x.sides i ≡ Some number
  pub ring : TheDuo
  pub ring_is : slice_get w.rings (ring_at number) ≡ Some ring
  pub made : ring ≡ ring_by (which_at number) p
  pub facing : AreFacing p
  pub own : HasSide xs number p.side
  pub across : HasSide xs (across_from number) p.across

turned : (a b : TheSide) → AreFacing (facing a b) → AreFacing (facing b a)
turned a b h = record { ring = sym h.ring; size = sym h.size; here = h.there; there = h.here }

pub is_even : (m : ℕ) → (m % 2 == 0) ≡ true → m ≡ 2 * (m / 2)
is_even m h = let e : m % 2 ≡ 0 = grind (arith, nat_tests, h) in omega (arith, e)

pub is_odd : (m : ℕ) → (m % 2 == 0) ≡ false → m ≡ 2 * (m / 2) + 1
is_odd m h = by (same_or (m % 2) 0)
  where
    by : (m % 2 ≡ 0) ⊎ (m % 2 ≢ 0) → m ≡ 2 * (m / 2) + 1
    by (inl z) = absurd (grind (arith, nat_tests, h, z))
    by (inr z) = omega (arith, z)

pub lent : (w : TheWorld) (xs : List JoinedCore) (n : ℕ) (x : JoinedCore) (r : TheRun FacingSide) (i : ℕ) (p : FacingSide) → IsJoined w xs
    → slice_get xs n ≡ Some x → IsBeside xs x r → slice_get r.rings i ≡ Some p → Lent w xs n x i p
lent w xs n x r i p joined x_is beside at = by_test (numbers.0 % 2 == 0) even odd
  where
    side_is : slice_get x.run.rings i ≡ Some p.side
    side_is = ap (λ (t : TheRun TheSide). slice_get t.rings i) (sym beside.own) ∙ goes_to (λ (q : FacingSide). q.side) r.rings i p at

    numbers : (m : ℕ) × (slice_get x.sides i ≡ Some m)
    numbers =
        let less = within x.run.rings i p.side side_is in
        let long = joined.numbered.sides n x x_is in
        at_within x.sides i (omega (arith, less, long))

    own : HasSide xs numbers.0 p.side
    own = record { core = n; at = x; at_is = x_is; place = i; number_is = numbers.1; side_is = side_is }

    across : HasSide xs (across_from numbers.0) p.across
    across = beside.across i numbers.0 p numbers.1 at

    ring : (d : TheDuo) × (slice_get w.rings (ring_at numbers.0) ≡ Some d)
    ring = at_within w.rings (ring_at numbers.0) (joined.sides n i numbers.0 x x_is numbers.1)

    made : IsRingOf xs (ring_at numbers.0) ring.0
    made = joined.rings (ring_at numbers.0) ring.0 ring.1

    even : (numbers.0 % 2 == 0) ≡ true → Lent w xs n x i p
    even e =
        let m : numbers.0 ≡ 2 * ring_at numbers.0 = is_even numbers.0 e in
        let one : made.one ≡ p.side = same_side xs joined.numbered numbers.0 made.one p.side (subst (λ (k : ℕ). HasSide xs k made.one) (sym m) made.one_is) own in
        let next : across_from numbers.0 ≡ numbers.0 + 1 = ap (λ (b : Bool). if b then numbers.0 + 1 else numbers.0 - 1) e in
        let behind : 2 * ring_at numbers.0 + 1 ≡ across_from numbers.0 = ap (λ (k : ℕ). k + 1) (sym m) ∙ sym next in
        let two : made.two ≡ p.across = same_side xs joined.numbered (across_from numbers.0) made.two p.across
        (subst (λ (k : ℕ). HasSide xs k made.two) behind made.two_is) across in
        let which : which_at numbers.0 ≡ One = ap (λ (b : Bool). which_of (if b then first_side else second_side)) e in
        let faces : facing made.one made.two ≡ p = λ j. facing (one j) (two j) in
        record {
          number = numbers.0;
          number_is = numbers.1;
          ring = ring.0;
          ring_is = ring.1;
          made = made.made ∙ ap (ring_by One) faces ∙ ap (λ (k : WhichSide). ring_by k p) (sym which);
          facing = subst AreFacing faces made.facing;
          own = own;
          across = across;
        }

    odd : (numbers.0 % 2 == 0) ≡ false → Lent w xs n x i p
    odd e =
        let m : numbers.0 ≡ 2 * ring_at numbers.0 + 1 = is_odd numbers.0 e in
        let two : made.two ≡ p.side = same_side xs joined.numbered numbers.0 made.two p.side (subst (λ (k : ℕ). HasSide xs k made.two) (sym m) made.two_is) own in
        let next : across_from numbers.0 ≡ numbers.0 - 1 = ap (λ (b : Bool). if b then numbers.0 + 1 else numbers.0 - 1) e in
        let before : 2 * ring_at numbers.0 ≡ across_from numbers.0 = omega (arith, m, next) in
        let one : made.one ≡ p.across = same_side xs joined.numbered (across_from numbers.0) made.one p.across
        (subst (λ (k : ℕ). HasSide xs k made.one) before made.one_is) across in
        let which : which_at numbers.0 ≡ Two = ap (λ (b : Bool). which_of (if b then first_side else second_side)) e in
        let faces : facing made.two made.one ≡ p = λ j. facing (two j) (one j) in
        record {
          number = numbers.0;
          number_is = numbers.1;
          ring = ring.0;
          ring_is = ring.1;
          made = made.made ∙ ap (ring_by Two) faces ∙ ap (λ (k : WhichSide). ring_by k p) (sym which);
          facing = subst AreFacing faces (turned made.one made.two made.facing);
          own = own;
          across = across;
        }

-- by which number the world knows it
pub moved_to : (numbers : List ℕ) (i m : ℕ) → slice_get numbers i ≡ Some m → moved numbers i ≡ m
moved_to numbers i m e = index_there numbers i i m e

-- ---- one core goes on, and keeps as many sides and queues

pub record Was (xs : List JoinedCore) (k : ℕ) (z : JoinedCore) : Type 0 where
  pub before : JoinedCore
  pub before_is : slice_get xs k ≡ Some before
  pub sides : z.sides ≡ before.sides
  pub queues : z.queues ≡ before.queues
  pub sides_long : length z.run.rings ≡ length before.run.rings
  pub queues_long : length z.run.queues ≡ length before.run.queues
  pub offers : z.run.offers ≡ before.run.offers

module _ (w : TheWorld) (xs : List JoinedCore) (joined : IsJoined w xs) (n : ℕ) (x : JoinedCore) (x_is : slice_get xs n ≡ Some x) (t : TheRun TheSide)
    (sides_long : length t.rings ≡ length x.run.rings) (queues_long : length t.queues ≡ length x.run.queues) (offers : t.offers ≡ x.run.offers) where
  abbrev pub gone_on : JoinedCore
  gone_on = record x { run = t }

  abbrev pub then_all : List JoinedCore
  then_all = slice_set xs n gone_on

  was : (k : ℕ) (z : JoinedCore) → slice_get then_all k ≡ Some z → Was xs k z
  was k z e =
      elim (set_cases xs n gone_on k z e) [
        | inl (here, same) ↦ record {
          before = x;
          before_is = ap (slice_get xs) here ∙ x_is;
          sides = ap (λ (c : JoinedCore). c.sides) same;
          queues = ap (λ (c : JoinedCore). c.queues) same;
          sides_long = ap (λ (c : JoinedCore). length c.run.rings) same ∙ sides_long;
          queues_long = ap (λ (c : JoinedCore). length c.run.queues) same ∙ queues_long;
          offers = ap (λ (c : JoinedCore). c.run.offers) same ∙ offers;
        }
        | inr (other, there) ↦ record {
          before = z;
          before_is = there;
          sides = refl;
          queues = refl;
          sides_long = refl;
          queues_long = refl;
          offers = refl;
        }
      ]

  still_numbered : AreNumbered then_all
  still_numbered = record {
    sides = λ k z e. let b = was k z e in ap length b.sides ∙ joined.numbered.sides k b.before b.before_is ∙ sym b.sides_long;
    queues = λ k z e. let b = was k z e in ap length b.queues ∙ joined.numbered.queues k b.before b.before_is ∙ sym b.queues_long;
    sides_apart = λ k m i j number y z e f p q.
        let b = was k y e in
        let c = was m z f in
        joined.numbered.sides_apart k m i j number b.before c.before b.before_is c.before_is
        (ap (λ (l : List ℕ). slice_get l i) (sym b.sides) ∙ p) (ap (λ (l : List ℕ). slice_get l j) (sym c.sides) ∙ q);
    queues_apart = λ k m i j number y z e f p q.
        let b = was k y e in
        let c = was m z f in
        joined.numbered.queues_apart k m i j number b.before c.before b.before_is c.before_is
        (ap (λ (l : List ℕ). slice_get l i) (sym b.queues) ∙ p) (ap (λ (l : List ℕ). slice_get l j) (sym c.queues) ∙ q);
  }

  still_sides : (k i m : ℕ) (z : JoinedCore) → slice_get then_all k ≡ Some z → slice_get z.sides i ≡ Some m → ring_at m < length w.rings
  still_sides k i m z e p =
      let b = was k z e in
      joined.sides k i m b.before b.before_is (ap (λ (l : List ℕ). slice_get l i) (sym b.sides) ∙ p)

  still_offers : (k : ℕ) (z : JoinedCore) → slice_get then_all k ≡ Some z → AreOffers w z.run.offers
  still_offers k z e =
      let b = was k z e in
      subst (AreOffers w) (sym b.offers) (joined.offers k b.before b.before_is)

  still_cores : slice_set w.cores n (in_world gone_on) ≡ map in_world then_all
  still_cores = ap (λ (cs : List TheCore). slice_set cs n (in_world gone_on)) joined.cores ∙ sym (map_set in_world xs n gone_on)

  -- ---- sides

  -- none has changed
  side_stays : (m : ℕ) (a : TheSide) → t.rings ≡ x.run.rings → HasSide xs m a → HasSide then_all m a
  side_stays m a same h = by (same_or h.core n)
    where
      by : (h.core ≡ n) ⊎ (h.core ≢ n) → HasSide then_all m a
      by (inl here) =
          let at : h.at ≡ x = same_some (slice_get xs n) h.at x (ap (slice_get xs) (sym here) ∙ h.at_is) x_is in
          record {
            core = n;
            at = gone_on;
            at_is = set_here xs n x gone_on x_is;
            place = h.place;
            number_is = ap (λ (c : JoinedCore). slice_get c.sides h.place) (sym at) ∙ h.number_is;
            side_is = ap (λ (l : List TheSide). slice_get l h.place) same
                ∙ ap (λ (c : JoinedCore). slice_get c.run.rings h.place) (sym at) ∙ h.side_is;
          }
      by (inr other) = record {
        core = h.core;
        at = h.at;
        at_is = set_there xs n gone_on h.core h.at h.at_is other;
        place = h.place;
        number_is = h.number_is;
        side_is = h.side_is;
      }

  -- side i has, whose number is k
  pub side_others : (i k m : ℕ) (a b : TheSide) → slice_get x.sides i ≡ Some k → t.rings ≡ slice_set x.run.rings i b → m ≢ k → HasSide xs m a
      → HasSide then_all m a
  side_others i k m a b number_is rest other_number h = by (same_or h.core n)
    where
      by : (h.core ≡ n) ⊎ (h.core ≢ n) → HasSide then_all m a
      by (inl here) =
          let at : h.at ≡ x = same_some (slice_get xs n) h.at x (ap (slice_get xs) (sym here) ∙ h.at_is) x_is in
          let number : slice_get x.sides h.place ≡ Some m = ap (λ (c : JoinedCore). slice_get c.sides h.place) (sym at) ∙ h.number_is in
          let side : slice_get x.run.rings h.place ≡ Some a = ap (λ (c : JoinedCore). slice_get c.run.rings h.place) (sym at) ∙ h.side_is in
          let apart : h.place ≢ i = λ e. other_number (same_some (slice_get x.sides i) m k (ap (slice_get x.sides) (sym e) ∙ number) number_is) in
          record {
            core = n;
            at = gone_on;
            at_is = set_here xs n x gone_on x_is;
            place = h.place;
            number_is = number;
            side_is = ap (λ (l : List TheSide). slice_get l h.place) rest ∙ set_there x.run.rings i b h.place a side apart;
          }
      by (inr other) = record {
        core = h.core;
        at = h.at;
        at_is = set_there xs n gone_on h.core h.at h.at_is other;
        place = h.place;
        number_is = h.number_is;
        side_is = h.side_is;
      }

  side_here : (i k : ℕ) (a b : TheSide) → slice_get x.sides i ≡ Some k → slice_get x.run.rings i ≡ Some a → t.rings ≡ slice_set x.run.rings i b
      → HasSide then_all k b
  side_here i k a b number_is was_is rest = record {
    core = n;
    at = gone_on;
    at_is = set_here xs n x gone_on x_is;
    place = i;
    number_is = number_is;
    side_is = ap (λ (l : List TheSide). slice_get l i) rest ∙ set_here x.run.rings i a b was_is;
  }

  -- ---- queues

  queue_before : (m : ℕ) (q : TheQueue) → t.queues ≡ x.run.queues → HasQueue then_all m q → HasQueue xs m q
  queue_before m q same h =
      elim (set_cases xs n gone_on h.core h.at h.at_is) [
        | inl (here, at) ↦ record {
          core = n;
          at = x;
          at_is = x_is;
          place = h.place;
          number_is = ap (λ (c : JoinedCore). slice_get c.queues h.place) (sym at) ∙ h.number_is;
          queue_is = ap (λ (l : List TheQueue). slice_get l h.place) (sym same)
              ∙ ap (λ (c : JoinedCore). slice_get c.run.queues h.place) (sym at) ∙ h.queue_is;
        }
        | inr (other, there) ↦ record {
          core = h.core;
          at = h.at;
          at_is = there;
          place = h.place;
          number_is = h.number_is;
          queue_is = h.queue_is;
        }
      ]

  -- ---- what the joined world is then

  -- the core alone has changed
  pub core_joined : t.rings ≡ x.run.rings → t.queues ≡ x.run.queues → IsJoined (with_core w n (in_world gone_on)) then_all
  core_joined rings queues = record {
    cores = still_cores;
    rings = λ m d e.
        let r = joined.rings m d e in
        record {
          one = r.one;
          one_is = side_stays (2 * m) r.one rings r.one_is;
          two = r.two;
          two_is = side_stays (2 * m + 1) r.two rings r.two_is;
          facing = r.facing;
          made = r.made;
        };
    sides = still_sides;
    queues = λ m q h. joined.queues m q (queue_before m q queues h);
    offers = λ k z e. let o = still_offers k z e in record { names = o.names; programs = o.programs };
    numbered = still_numbered;
    unruled = joined.unruled;
  }

  -- and one of its queues
  pub queue_joined : (i k : ℕ) (before after : TheQueue) → slice_get x.queues i ≡ Some k → slice_get x.run.queues i ≡ Some before
      → t.rings ≡ x.run.rings → t.queues ≡ slice_set x.run.queues i after
      → IsJoined (with_queue (with_core w n (in_world gone_on)) k after) then_all
  queue_joined i k before after number_is before_is rings queues = record {
    cores = still_cores;
    rings = λ m d e.
        let r = joined.rings m d e in
        record {
          one = r.one;
          one_is = side_stays (2 * m) r.one rings r.one_is;
          two = r.two;
          two_is = side_stays (2 * m + 1) r.two rings r.two_is;
          facing = r.facing;
          made = r.made;
        };
    sides = still_sides;
    queues = queue_is;
    offers = λ c z e. let o = still_offers c z e in record { names = o.names; programs = o.programs };
    numbered = still_numbered;
    unruled = joined.unruled;
  } where
    there : slice_get w.queues k ≡ Some before
    there = joined.queues k before (record { core = n; at = x; at_is = x_is; place = i; number_is = number_is; queue_is = before_is })

    -- that of another number stands where it stood
    other_stays : (m : ℕ) (q : TheQueue) → m ≢ k → HasQueue xs m q → slice_get (slice_set w.queues k after) m ≡ Some q
    other_stays m q other h = set_there w.queues k after m q (joined.queues m q h) other

    here_is : (m j : ℕ) (q : TheQueue) → slice_get x.queues j ≡ Some m → slice_get t.queues j ≡ Some q → slice_get (slice_set w.queues k after) m ≡ Some q
    here_is m j q number at =
        elim (set_cases x.run.queues i after j q (ap (λ (l : List TheQueue). slice_get l j) (sym queues) ∙ at)) [
          | inl (same, is) ↦
              let one : m ≡ k = same_some (slice_get x.queues i) m k (ap (slice_get x.queues) (sym same) ∙ number) number_is in
              ap (slice_get (slice_set w.queues k after)) one ∙ set_here w.queues k before after there ∙ ap (λ (y : TheQueue). Some y) (sym is)
          | inr (other, was_at) ↦
              let apart : m ≢ k = λ e. other (joined.numbered.queues_apart n n j i m x x x_is x_is number (number_is ∙ ap (λ (y : ℕ). Some y) (sym e))).1 in
              other_stays m q apart (record { core = n; at = x; at_is = x_is; place = j; number_is = number; queue_is = was_at })
        ]

    queue_is : (m : ℕ) (q : TheQueue) → HasQueue then_all m q → slice_get (slice_set w.queues k after) m ≡ Some q
    queue_is m q h =
        elim (set_cases xs n gone_on h.core h.at h.at_is) [
          | inl (here, at) ↦ here_is m h.place q (ap (λ (c : JoinedCore). slice_get c.queues h.place) (sym at) ∙ h.number_is)
              (ap (λ (c : JoinedCore). slice_get c.run.queues h.place) (sym at) ∙ h.queue_is)
          | inr (other, was_at) ↦
              let apart : m ≢ k = λ e. other (joined.numbered.queues_apart h.core n h.place i m h.at x was_at x_is h.number_is (number_is ∙ ap (λ (y : ℕ). Some y) (sym e))).0 in
              other_stays m q apart (record { core = h.core; at = h.at; at_is = was_at; place = h.place; number_is = h.number_is; queue_is = h.queue_is })
        ]

  -- and one of its sides: the ring of that is the ring of the two as they are now
  module _ (i number : ℕ) (p q : FacingSide) (number_is : slice_get x.sides i ≡ Some number) (side_is : slice_get x.run.rings i ≡ Some p.side)
      (across_is : HasSide xs (across_from number) p.across) (faces : AreFacing q) (same : q.across ≡ p.across)
      (rings : t.rings ≡ slice_set x.run.rings i q.side) (queues : t.queues ≡ x.run.queues) where
    abbrev dq : TheDuo
    dq = ring_by (which_at number) q

    other_number : across_from number ≢ number
    other_number e =
        by_test (number % 2 == 0)
        (λ b. let next : across_from number ≡ number + 1 = ap (λ (c : Bool). if c then number + 1 else number - 1) b in absurd (omega (arith, e, next)))
        (λ b.
        let next : across_from number ≡ number - 1 = ap (λ (c : Bool). if c then number + 1 else number - 1) b in
        let m = is_odd number b in
        absurd (omega (arith, e, next, m)))

    here : HasSide then_all number q.side
    here = side_here i number p.side q.side number_is side_is rings

    there : HasSide then_all (across_from number) q.across
    there =
        subst (HasSide then_all (across_from number)) (sym same)
        (side_others i number (across_from number) p.across q.side number_is rings other_number across_is)

    ring_now : (j : ℕ) (d : TheDuo) → j ≡ ring_at number → d ≡ dq → IsRingOf then_all j d
    ring_now j d at is = by_test (number % 2 == 0) even odd
      where
        even : (number % 2 == 0) ≡ true → IsRingOf then_all j d
        even e =
            let m = is_even number e in
            let first : number ≡ 2 * j = omega (arith, m, at) in
            let next : across_from number ≡ number + 1 = ap (λ (b : Bool). if b then number + 1 else number - 1) e in
            let second : across_from number ≡ 2 * j + 1 = omega (arith, first, next) in
            let which : which_at number ≡ One = ap (λ (b : Bool). which_of (if b then first_side else second_side)) e in
            record {
              one = q.side;
              one_is = subst (λ (k : ℕ). HasSide then_all k q.side) first here;
              two = q.across;
              two_is = subst (λ (k : ℕ). HasSide then_all k q.across) second there;
              facing = record { ring = faces.ring; size = faces.size; here = faces.here; there = faces.there };
              made = is ∙ ap (λ (k : WhichSide). ring_by k q) which;
            }

        odd : (number % 2 == 0) ≡ false → IsRingOf then_all j d
        odd e =
            let m = is_odd number e in
            let second : number ≡ 2 * j + 1 = omega (arith, m, at) in
            let next : across_from number ≡ number - 1 = ap (λ (b : Bool). if b then number + 1 else number - 1) e in
            let first : across_from number ≡ 2 * j = omega (arith, second, next) in
            let which : which_at number ≡ Two = ap (λ (b : Bool). which_of (if b then first_side else second_side)) e in
            record {
              one = q.across;
              one_is = subst (λ (k : ℕ). HasSide then_all k q.across) first there;
              two = q.side;
              two_is = subst (λ (k : ℕ). HasSide then_all k q.side) second here;
              facing = record { ring = sym faces.ring; size = sym faces.size; here = faces.there; there = faces.here };
              made = is ∙ ap (λ (k : WhichSide). ring_by k q) which;
            }

    ring_still : (j : ℕ) (d : TheDuo) → j ≢ ring_at number → slice_get w.rings j ≡ Some d → IsRingOf then_all j d
    ring_still j d other at =
        let r = joined.rings j d at in
        record {
          one = r.one;
          one_is = side_others i number (2 * j) r.one q.side number_is rings (λ e. other (let k : number / 2 ≡ j = omega (arith, e) in sym k)) r.one_is;
          two = r.two;
          two_is = side_others i number (2 * j + 1) r.two q.side number_is rings (λ e. other (let k : number / 2 ≡ j = omega (arith, e) in sym k)) r.two_is;
          facing = r.facing;
          made = r.made;
        }

    pub ring_joined : IsJoined (with_ring (with_core w n (in_world gone_on)) (ring_at number) dq) then_all
    ring_joined = record {
      cores = still_cores;
      rings = λ j d e.
          elim (set_cases w.rings (ring_at number) dq j d e) [
            | inl (at, is) ↦ ring_now j d at is
            | inr (other, at) ↦ ring_still j d other at
          ];
      sides = λ k j m z e h. let l = still_sides k j m z e h in let long = long_set w.rings (ring_at number) dq in omega (arith, l, long);
      queues = λ m c h. joined.queues m c (queue_before m c queues h);
      offers = λ k z e. let o = still_offers k z e in record { names = o.names; programs = o.programs };
      numbered = still_numbered;
      unruled = joined.unruled;
    }
