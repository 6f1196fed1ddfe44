-- A world taken apart, before anything was put on a ring.
use Rattle.std.specs.Prelude.{ℕ, ◌≡◌, Bool, true, false, List, slice_get, Some}
use Rattle.std.specs.List.{list_all}
use Rattle.fl_ring.specs.Duo.{TheDuo}
use Rattle.fl_model.specs.Events.{Event, add_interface, set_cores, add_link, add_dispatcher, export, bind, by_queues, by_ring}
use Rattle.fl_world_refines.specs.Making.{new_duo}
use Rattle.fl_world_refines.specs.View.{TheWorld}
use Rattle.fl_world_refines.specs.declared.parts.Parts.{Parts}

-- nothing was put on any of these rings
abbrev pub AllUnused : List TheDuo → Type 0
AllUnused rings = (n : ℕ) (r : TheDuo) → slice_get rings n ≡ Some r → r ≡ new_duo r.size

-- an event by which something is made at once; a circuit isn't: messages open it
abbrev pub is_making : Event → Bool
is_making (add_interface i plan) = true
is_making (set_cores n) = true
is_making (add_link x y size) = true
is_making (add_dispatcher core) = true
is_making (export name d i) = true
is_making (bind client i name (by_queues slots)) = true
is_making (bind client i name (by_ring slots)) = true
is_making event = false

-- where all events are of that kind, unused rings are followed by unused ones
abbrev pub KeepsUnused : List Event → TheWorld → TheWorld → Type 0
KeepsUnused events w w2 = list_all is_making events ≡ true → AllUnused w.rings → AllUnused w2.rings

-- these are the world's parts
pub record AreParts (w : TheWorld) (p : Parts) : Type 0 where
  pub cores : p.cores.items ≡ w.cores
  pub rings : p.rings.items ≡ w.rings
  pub queues : p.queues.items ≡ w.queues
  pub programs : p.programs.items ≡ w.programs
  pub names : p.names ≡ w.names
  pub bindings : p.bindings.items ≡ w.bindings
