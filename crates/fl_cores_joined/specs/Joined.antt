-- Running cores, each with the sides of rings and the queues in its hands, and the one world that they make.
-- A core names its sides and queues by their places with it; in the world they have numbers.
use Rattle.std.specs.Prelude.{ℕ, ◌≡◌, ◌+◌, ◌-◌, ◌*◌, ◌%◌, ◌==◌, ◌<◌, if◌then◌else◌, List, length, map}
use Rattle.std.specs.Prelude.{slice_get, Some}
use Rattle.fl_compile.specs.Programs.{program_of}
use Rattle.fl_link.specs.Queue.{TheQueue}
use Rattle.fl_ring.specs.Duo.{TheDuo}
use Rattle.fl_ring.specs.SharedSides.{TheSide}
use Rattle.fl_endpoint.specs.View.{TheEnd, no_rules}
use Rattle.fl_core.specs.Hearing.{Offers}
use Rattle.fl_core.specs.Numbers.{renumbered}
use Rattle.fl_core.specs.View.{TheCore}
use Rattle.fl_core_run.specs.Run.{TheRun}
use Rattle.fl_world_refines.specs.declared.binding.Binding.{Binding}
use Rattle.fl_world_refines.specs.View.{TheWorld, ring_at, IsWhole}
use Rattle.fl_cores_joined.specs.Rings.{FacingSide, ring_of, AreFacing}

-- ---- a core

pub record JoinedCore : Type 0 where
  pub run : TheRun TheSide
  -- the numbers in the world of its sides and of its queues, by their places
  pub sides : List ℕ
  pub queues : List ℕ

-- as the world has it
abbrev pub in_world : JoinedCore → TheCore
in_world x = renumbered x.sides x.queues x.run.core

-- ---- what stands where

-- the world's side m is this one, in the hands of one of the cores
pub record HasSide (xs : List JoinedCore) (m : ℕ) (side : TheSide) : Type 0 where
  pub core : ℕ
  pub at : JoinedCore
  pub at_is : slice_get xs core ≡ Some at
  pub place : ℕ
  pub number_is : slice_get at.sides place ≡ Some m
  pub side_is : slice_get at.run.rings place ≡ Some side

abbrev pub facing : TheSide → TheSide → FacingSide
facing side across = record { side = side; across = across }

-- ring n is made of its two sides, wherever they are
pub record IsRingOf (xs : List JoinedCore) (n : ℕ) (d : TheDuo) : Type 0 where
  pub one : TheSide
  pub one_is : HasSide xs (2 * n) one
  pub two : TheSide
  pub two_is : HasSide xs (2 * n + 1) two
  pub facing : AreFacing (facing one two)
  pub made : d ≡ ring_of one two

-- the world's queue n is one of a core's
pub record HasQueue (xs : List JoinedCore) (n : ℕ) (queue : TheQueue) : Type 0 where
  pub core : ℕ
  pub at : JoinedCore
  pub at_is : slice_get xs core ≡ Some at
  pub place : ℕ
  pub number_is : slice_get at.queues place ≡ Some n
  pub queue_is : slice_get at.run.queues place ≡ Some queue

-- a core's copies of the table of names and of the programs are the world's
pub record AreOffers (w : TheWorld) (offers : Offers) : Type 0 where
  pub names : offers.names ≡ w.names
  pub programs : map program_of offers.programs ≡ map program_of w.programs

-- an end that isn't made yet has no reply rule: a core sets one where the end is
abbrev pub UnmadeHaveNoRules : TheWorld → Type 0
UnmadeHaveNoRules w = (n : ℕ) (b : Binding) (end : TheEnd) → slice_get w.bindings n ≡ Some b
    → b.unmade ≡ Some end → end.rules ≡ no_rules end.program

-- ---- numbers

-- each side and each queue of a core has a number, and no two have one
pub record AreNumbered (xs : List JoinedCore) : Type 0 where
  pub sides : (n : ℕ) (x : JoinedCore) → slice_get xs n ≡ Some x → length x.sides ≡ length x.run.rings
  pub queues : (n : ℕ) (x : JoinedCore) → slice_get xs n ≡ Some x → length x.queues ≡ length x.run.queues
  pub sides_apart : (n m i j number : ℕ) (x y : JoinedCore) → slice_get xs n ≡ Some x
      → slice_get xs m ≡ Some y
      → slice_get x.sides i ≡ Some number → slice_get y.sides j ≡ Some number → (n ≡ m) × (i ≡ j)
  pub queues_apart : (n m i j number : ℕ) (x y : JoinedCore) → slice_get xs n ≡ Some x
      → slice_get xs m ≡ Some y
      → slice_get x.queues i ≡ Some number → slice_get y.queues j ≡ Some number → (n ≡ m) × (i ≡ j)

-- ---- the whole

pub record IsJoined (w : TheWorld) (xs : List JoinedCore) : Type 0 where
  pub cores : w.cores ≡ map in_world xs
  -- each ring is that of its two sides, and each side is of one of them
  pub rings : (n : ℕ) (d : TheDuo) → slice_get w.rings n ≡ Some d → IsRingOf xs n d
  pub sides : (n i m : ℕ) (x : JoinedCore) → slice_get xs n ≡ Some x → slice_get x.sides i ≡ Some m
      → ring_at m < length w.rings
  pub queues : (n : ℕ) (queue : TheQueue) → HasQueue xs n queue → slice_get w.queues n ≡ Some queue
  pub offers : (n : ℕ) (x : JoinedCore) → slice_get xs n ≡ Some x → AreOffers w x.run.offers
  pub numbered : AreNumbered xs
  pub unruled : UnmadeHaveNoRules w

-- what is known of each core at any time
abbrev pub AreWhole : List JoinedCore → Type 0
AreWhole xs = (n : ℕ) (x : JoinedCore) → slice_get xs n ≡ Some x → IsWhole x.run.core

-- ---- a core beside the others

-- the number of the side across from one
abbrev pub across_from : ℕ → ℕ
across_from m = if m % 2 == 0 then m + 1 else m - 1

-- a core by itself again
abbrev pub alone : TheRun FacingSide → TheRun TheSide
alone r = record {
  core = r.core;
  rings = map (λ (p : FacingSide). p.side) r.rings;
  queues = r.queues;
  progresses = r.progresses;
  offers = r.offers;
}

-- the core with each of its sides beside the one across from it, in whose hands that ever is
pub record IsBeside (xs : List JoinedCore) (x : JoinedCore) (r : TheRun FacingSide) : Type 0 where
  pub own : alone r ≡ x.run
  pub across : (i m : ℕ) (p : FacingSide) → slice_get x.sides i ≡ Some m → slice_get r.rings i ≡ Some p
      → HasSide xs (across_from m) p.across
