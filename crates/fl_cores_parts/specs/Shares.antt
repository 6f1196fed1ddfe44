-- Which sides of rings and which queues each core of a run is given, and what came of the rings.
use Rattle.std.specs.Prelude.{ℕ, ◌≡◌, ◌*◌, ◌<◌, List, [], ◌∷◌, map, length, slice_get, Some}
use Rattle.fl_link.specs.Queue.{TheQueue}
use Rattle.fl_ring.specs.Duo.{TheDuo}
use Rattle.fl_ring.specs.SharedSides.{TheSide}
use Rattle.fl_core.specs.View.{TheCore}
use Rattle.fl_core.specs.Sound.{IsCore}
use Rattle.fl_world_refines.specs.ShowsState.{NamesQueue, NamesSide}
use Rattle.fl_world_refines.specs.declared.parts.Parts.{Parts}
use Rattle.fl_cores_shares.specs.Shares.{AreHandedOut, AreAt, AreApart, AreCounted, AreNew}
use Rattle.fl_cores_shares.specs.Settled.{TwoSides, sides_of, Each, IsNear}
use Rattle.fl_cores_fork.specs.Runs.{TheCoreThread, TheFinishedCore, IsLeftSound, sides_left}
use Rattle.fl_cores_parts.specs.Begins.{Places}

-- ---- whose each thing is

-- of things that cores name by number the core that has each: what one core alone names is that core's
pub record AreOwners (cores : List TheCore) (Names : TheCore → ℕ → Type 0) (many : ℕ) (owners : List ℕ) : Type 0 where
  pub count : length owners ≡ many
  pub each : (n thing : ℕ) (c : TheCore) → slice_get cores n ≡ Some c → Names c thing → thing < many
      → ((m : ℕ) (d : TheCore) → slice_get cores m ≡ Some d → Names d thing → m ≡ n) → slice_get owners thing ≡ Some n

-- things are in their owners' hands, each at the place that is told of it: as many stand before it there as its owner has
-- of smaller numbers
pub record AreShared {T : Type 0} (owners : List ℕ) (things : List T) (places : List ℕ)
    (holdings : List (List T)) : Type 0 where
  pub handed_out : AreHandedOut owners things holdings
  pub at : AreAt owners things holdings places
  pub apart : AreApart owners places
  pub counted : AreCounted owners places

-- ---- rings

-- new ones, of the sizes of these
abbrev pub AreNewRings : List TheDuo → List TwoSides → Type 0
AreNewRings [] [] = Unit {0}
AreNewRings (r ∷ rings) (p ∷ pairs) = AreNew r.size p.one p.two × AreNewRings rings pairs
AreNewRings rings pairs = ⊥

-- by core, the sides that it has as its run begins
abbrev pub sides_given : List TheCoreThread → List (List TheSide)
sides_given core_threads = map (λ (s : TheCoreThread). s.run.rings) core_threads

-- and the queues that it was given
abbrev pub queues_given : List TheCoreThread → List (List TheQueue)
queues_given core_threads = map (λ (s : TheCoreThread). s.run.queues) core_threads

-- ---- the whole

-- what a set-up made is shared out so; and after the run the rings were put together again
pub record Shares (p : Parts) (at : Places) (core_threads : List TheCoreThread)
    (outcomes : List TheFinishedCore) : Type 0 where
  pub side_owners : List ℕ
  pub sides_named : AreOwners p.cores.items NamesSide (2 * length p.rings.items) side_owners
  pub pairs : List TwoSides
  pub new : AreNewRings p.rings.items pairs
  pub sides : AreShared side_owners (sides_of pairs) at.sides (sides_given core_threads)
  pub queue_owners : List ℕ
  pub queues_named : AreOwners p.cores.items NamesQueue (length p.queues.items) queue_owners
  pub queues : AreShared queue_owners p.queues.items at.queues (queues_given core_threads)
  pub near : (after : List TwoSides) → AreHandedOut side_owners (sides_of after) (sides_left outcomes)
      → Each IsNear after

-- ---- what cores tell of themselves

-- as the runs begin, and in the end
pub record AreSound (core_threads : List TheCoreThread) (outcomes : List TheFinishedCore) : Type 0 where
  pub begin : (n : ℕ) (s : TheCoreThread) → slice_get core_threads n ≡ Some s → IsCore s.run.core
  pub left : (n : ℕ) (o : TheFinishedCore) → slice_get outcomes n ≡ Some o → IsLeftSound o
