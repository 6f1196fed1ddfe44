-- A working file, on which no public promise rests by itself: how what a set-up made is handed out to core threads,
-- as the code has it.
use Rattle.std.specs.Prelude.{ℕ, ◌≡◌, ◌⊎◌, ◌*◌, ◌<◌, List, length, slice_get, Some}
use Rattle.fl_link.specs.Queue.{TheQueue}
use Rattle.fl_ring.specs.Duo.{TheDuo}
use Rattle.fl_core.specs.declared.wiring.LinkSide.{LinkSide}
use Rattle.fl_core.specs.declared.wiring.Inlet.TheVariants as inlet
use Rattle.fl_core.specs.declared.wiring.Outlet.TheVariants as outlet
use Rattle.fl_core.specs.View.{TheCore, side_of_link, inlet_of, outlet_of}
use Rattle.fl_world_refines.specs.declared.parts.Parts.{Parts}
use Rattle.fl_cores_jobs.specs.State.{TheJoinedJobs}
use Rattle.fl_cores_shares.specs.declared.shares.CoreShares.{CoreShares}
use Rattle.fl_cores_shares.specs.Shares.{Holds}
use Rattle.fl_cores_shares.specs.Settled.{TwoSides, sides_of}
use Rattle.fl_history_rings.specs.declared.board.RingEnds.{RingEnds}
use Rattle.fl_history_shares.specs.declared.dealing.DealtSides.{DealtSides}
use Rattle.fl_history_shares.specs.Dealt.{Deals}
use Rattle.fl_world_refines.specs.ShowsState.{NamesQueue, NamesSide}
use Rattle.fl_cores_fork.specs.Runs.{TheCoreThread}
use Rattle.fl_cores_parts.specs.Begins.{Places, common_in, AreCoreThreads}
use Rattle.fl_cores_parts.specs.AtTable.{AreBetween}
use Rattle.fl_cores_parts.specs.Shares.{AreOwners, AreShared, AreNewRings, sides_given, queues_given}

-- ---- what is named

-- the side of link l
abbrev pub IsLinkSide : List LinkSide → ℕ → ℕ → Type 0
IsLinkSide link_sides l side = side_of_link link_sides l ≡ Some side

-- the side, and the queue, from which the end at place e takes
abbrev pub TakesSide : TheCore → ℕ → ℕ → Type 0
TakesSide c e side = inlet_of c e ≡ Some (inlet.Side side)

abbrev pub TakesQueue : TheCore → ℕ → ℕ → Type 0
TakesQueue c e queue = inlet_of c e ≡ Some (inlet.Queue queue)

-- the queue to which it puts
abbrev pub PutsQueue : TheCore → ℕ → ℕ → Type 0
PutsQueue c e queue = outlet_of c e ≡ Some (outlet.Queue queue)

-- either
abbrev pub UsesQueue : TheCore → ℕ → ℕ → Type 0
UsesQueue c e queue = TakesQueue c e queue ⊎ PutsQueue c e queue

-- at one of the first n places
abbrev pub Below : (ℕ → ℕ → Type 0) → ℕ → ℕ → Type 0
Below Named n thing = (place : ℕ) × (place < n) × Named place thing

-- ---- owners

-- afterwards the things that are named so are this core's, and all others are whose they were
pub record Owns (Named : ℕ → Type 0) (core : ℕ) (before after : List ℕ) : Type 0 where
  pub count : length after ≡ length before
  pub own : (thing : ℕ) → Named thing → thing < length before → slice_get after thing ≡ Some core
  pub others : (thing : ℕ) → (slice_get after thing ≡ slice_get before thing) ⊎ Named thing

-- each owner is one of so many cores
abbrev pub AreOf : ℕ → List ℕ → Type 0
AreOf cores owners = (thing owner : ℕ) → slice_get owners thing ≡ Some owner → owner < cores

-- the owners of so many things, by what these cores name, and each is one of them
pub record HaveOwners (cores : List TheCore) (Names : TheCore → ℕ → Type 0) (many : ℕ) (owners : List ℕ) : Type 0 where
  pub named : AreOwners cores Names many owners
  pub of : AreOf (length cores) owners

-- ---- things handed out

-- to so many cores the sides of new rings of the sizes of these, with these owners
pub record DealsRings (rings : List TheDuo) (owners : List ℕ) (cores : ℕ) (d : DealtSides) : Type 0 where
  pub ends : List RingEnds
  pub between : AreBetween rings owners cores ends
  pub deals : Deals ends cores d

-- these queues, with these owners
pub record HandsOutQueues (queues : List TheQueue) (owners : List ℕ) (cores : ℕ)
    (d : CoreShares TheQueue) : Type 0 where
  pub holds : Holds d queues
  pub owners_are : d.owners.items ≡ owners
  pub as_many : length d.holdings.items ≡ cores

-- both, by what these cores name
pub record SharesOut (cores : List TheCore) (rs : List TheDuo) (qs : List TheQueue) (s : DealtSides)
    (q : CoreShares TheQueue) : Type 0 where
  pub by_sides : List ℕ
  pub by_queues : List ℕ
  pub sides_named : HaveOwners cores NamesSide (2 * length rs) by_sides
  pub queues_named : HaveOwners cores NamesQueue (length qs) by_queues
  pub sides : DealsRings rs by_sides (length cores) s
  pub queues : HandsOutQueues qs by_queues (length cores) q

-- ---- core threads

-- what a set-up made is shared out so, with these owners of the sides of rings
pub record Dealing (p : Parts) (at : Places) (core_threads : List TheCoreThread) (owners : List ℕ) : Type 0 where
  pub sides_named : AreOwners p.cores.items NamesSide (2 * length p.rings.items) owners
  pub pairs : List TwoSides
  pub new : AreNewRings p.rings.items pairs
  pub sides : AreShared owners (sides_of pairs) at.sides (sides_given core_threads)
  pub queue_owners : List ℕ
  pub queues_named : AreOwners p.cores.items NamesQueue (length p.queues.items) queue_owners
  pub queues : AreShared queue_owners p.queues.items at.queues (queues_given core_threads)

-- the core threads of what a set-up made and the jobs joined to it, and how that is shared out
pub record Wirings (p : Parts) (j : TheJoinedJobs) (core_threads : List TheCoreThread) (owners : List ℕ) : Type 0 where
  pub places : Places
  pub begin : AreCoreThreads (common_in p j places) 0 p.cores.items core_threads
  pub dealing : Dealing p places core_threads owners
