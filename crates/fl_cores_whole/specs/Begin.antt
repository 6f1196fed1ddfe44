-- The cores of a run as they begin: what a set-up made, handed out to them, is one world again. Law.
use Rattle.std.specs.Prelude.{ℕ, ◌≡◌, suc, List, [], ◌∷◌, length, map, slice_get, Some}
use Rattle.std.specs.List.{range_with_len}
use Rattle.fl_core.specs.Sound.{IsCore}
use Rattle.fl_ring.specs.Duo.{TheDuo}
use Rattle.fl_cores_fork.specs.Runs.{TheCoreThread, TheFinishedCore}
use Rattle.fl_cores_jobs.specs.State.{TheJoinedJobs}
use Rattle.fl_cores_parts.specs.Begins.{Places, common_in, AreCoreThreads}
use Rattle.fl_cores_parts.specs.Shares.{Shares}
use Rattle.fl_cores_shares.specs.Shares.{own_things}
use Rattle.fl_core_refines.specs.SetUpStart.{SidesHaveOneCore, QueuesHaveOneCore, SidesAreThere, QueuesAreNew}
use Rattle.fl_world_refines.specs.Making.{new_duo}
use Rattle.fl_world_refines.specs.declared.parts.Parts.{Parts}
use Rattle.fl_world_refines.specs.View.{TheWorld}
use Rattle.fl_cores_joined.specs.Joined.{JoinedCore, UnmadeHaveNoRules, IsJoined}

-- of things with these owners the numbers of those that are this core's, in order
abbrev pub numbers_of : ℕ → List ℕ → List ℕ
numbers_of core owners = own_things core owners (range_with_len 0 (length owners))

-- whose each side and each queue is
pub record Owners : Type 0 where
  pub sides : List ℕ
  pub queues : List ℕ

-- what threads are given, from core n on: each core with the numbers of what it has
abbrev pub joined_from : Owners → ℕ → List TheCoreThread → List JoinedCore
joined_from owners n [] = []
joined_from owners n (s ∷ core_threads) =
    record { run = s.run; sides = numbers_of n owners.sides; queues = numbers_of n owners.queues }
    ∷ joined_from owners (suc n) core_threads

abbrev pub owners_in : {p : Parts} {at : Places} {core_threads : List TheCoreThread}
    {outcomes : List TheFinishedCore}
    → Shares p at core_threads outcomes → Owners
owners_in h = record { sides = h.side_owners; queues = h.queue_owners }

-- new rings of the sizes of these, which threads are given for them
abbrev pub renewed : List TheDuo → List TheDuo
renewed rings = map (λ (d : TheDuo). new_duo d.size) rings

-- these are a world's cores, queues, programs and names, and its rings are new ones of these sizes; threads
-- are given nothing of its bindings
pub record AreTaken (w : TheWorld) (p : Parts) : Type 0 where
  pub cores : p.cores.items ≡ w.cores
  pub rings : w.rings ≡ renewed p.rings.items
  pub queues : p.queues.items ≡ w.queues
  pub programs : p.programs.items ≡ w.programs
  pub names : p.names ≡ w.names

-- a world behind a set-up: an end that isn't made yet has no reply rule, and what a core names is there and no
-- other core's
pub record IsBehind (w : TheWorld) (p : Parts) : Type 0 where
  pub parts : AreTaken w p
  pub unruled : UnmadeHaveNoRules w
  pub side_cores : SidesHaveOneCore w
  pub queue_cores : QueuesHaveOneCore w
  pub sides : SidesAreThere w
  pub queues : QueuesAreNew w

-- what is known of each core as its thread is given it
abbrev pub AreCores : List TheCoreThread → Type 0
AreCores core_threads = (n : ℕ) (s : TheCoreThread) → slice_get core_threads n ≡ Some s → IsCore s.run.core

-- handed out to cores, it is joined from them
abbrev pub HandedOutJoin : Type 0
HandedOutJoin = (w : TheWorld) (p : Parts) (j : TheJoinedJobs) (at : Places)
    (core_threads : List TheCoreThread) (outcomes : List TheFinishedCore)
    → IsBehind w p → AreCores core_threads → AreCoreThreads (common_in p j at) 0 p.cores.items core_threads
    → (h : Shares p at core_threads outcomes) → IsJoined w (joined_from (owners_in h) 0 core_threads)
