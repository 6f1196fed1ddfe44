-- Two laws of single events: no refusal has a fault of the wire, and a core's table follows the messages that it hears.
use Rattle.std.specs.Prelude.{ℕ, ◌≡◌, ◌&&◌, nat_le, Bool, false, drop, slice_get, Some}
use Rattle.fl_base.specs.Numbered.{link_id, circuit_id}
use Rattle.fl_hop.specs.Table.{TheCircuits, with_link}
use Rattle.fl_hop.specs.Numbers.{next_own}
use Rattle.fl_hop.specs.Openings.{opened}
use Rattle.fl_model.specs.Events.{Event, refused}
use Rattle.fl_model.specs.Rings.{MonitorLabel, says}
use Rattle.fl_model.specs.Monitors.{Core, link_to, hears}
use Rattle.fl_model.specs.State.{State, core_of}
use Rattle.fl_model.specs.Step.{step}
use Rattle.fl_model.specs.Standing.{on_link}
use Rattle.fl_model.specs.Sound.{Sound}

-- ---- faults on the wire

-- a fault of a received fragment (60 to 66), or of a circuit without an entry (67)
abbrev pub is_wire_fault : ℕ → Bool
is_wire_fault fault = nat_le 60 fault && nat_le fault 67

-- no event is refused with such a fault, in any state
abbrev pub NoWireFaults : Type 0
NoWireFaults = (s : State) (v : Event) (fault : ℕ) → (step s v).answer ≡ refused fault
    → is_wire_fault fault ≡ false

-- ---- tables

-- core n hears the monitors' message that stands first on its link from a neighbour, which is taken with it;
-- k is the core before it, and table what it came to
pub record Hears (s t : State) (n : ℕ) (k : Core) (table : TheCircuits) : Type 0 where
  pub neighbour : ℕ
  pub link : ℕ
  pub link_is : link_to neighbour k ≡ Some link
  pub message : MonitorLabel
  pub first : slice_get (on_link s neighbour n) 0 ≡ Some (says message)
  pub taken : on_link t neighbour n ≡ drop 1 (on_link s neighbour n)
  pub heard : table ≡ (hears s.services link message k).core.circuits

-- what core n, which was k, has as its table of circuits, where state s led to t
pub data TableFollows (s t : State) (n : ℕ) (k : Core) (table : TheCircuits) : Type 0 where
  -- the one that it had
  stays : table ≡ k.circuits → TableFollows s t n k table
  -- with one link more, to this neighbour
  one_link_more : (neighbour : ℕ) → table ≡ with_link k.circuits (record { 0 = neighbour })
      → TableFollows s t n k table
  -- with the entry that the core's own opening makes, at the number that is next on this link
  opens : (link number binding : ℕ) → next_own k.circuits link ≡ Some number
      → table ≡ opened k.circuits (link_id link) (circuit_id number) binding → TableFollows s t n k table
  -- or what the core made of it when it heard a message
  hears_message : Hears s t n k table → TableFollows s t n k table

-- the tables of cores are those that their links, their own openings and the monitors' messages give, each
-- message taken in its turn
abbrev pub TablesFollowMessages : Type 0
TablesFollowMessages = (s : State) (v : Event) (n : ℕ) (k m : Core) → Sound s → core_of s n ≡ Some k
    → core_of (step s v).state n ≡ Some m → TableFollows s (step s v).state n k m.circuits
