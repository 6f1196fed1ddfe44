-- A machine on which things were made, and with which nothing was done yet. Law.
use Rattle.std.specs.Prelude.{ℕ, ◌≡◌, false, true, List, [], slice_get, Some, IsSome, IfSome}
use Rattle.std.specs.List.{list_all}
use Rattle.fl_hop.specs.declared.links.LinkState.{LinkState}
use Rattle.fl_model.specs.Events.{Event}
use Rattle.fl_model.specs.Ends.{End, fresh_direction, has_rules}
use Rattle.fl_model.specs.Monitors.{Core}
use Rattle.fl_model.specs.State.{Back, local, over_ring, over_route, Binding, State, core_of}
use Rattle.fl_model.specs.Worlds.{start_with}
use Rattle.fl_model.specs.Runs.{reached}
use Rattle.fl_world_refines.specs.Apart.{is_making}

-- the end has its seat and is bound, off links; it has no reply rule; no call of its was accepted, none waits, and no fragment
-- passed the write or the other end's take; nothing stands in its queue, if it has one
pub record IsUntouched (x : End) : Type 0 where
  pub seat : IsSome x.seat
  pub circuit : x.circuit ≡ Some 0
  pub rules : has_rules x ≡ false
  pub out : x.out ≡ fresh_direction 2
  pub queue : IfSome x.queue (λ q. q.labels ≡ [])

-- by queues or by a ring, and not by a circuit
abbrev pub IsOffLinks : Back → Type 0
IsOffLinks local = Unit {0}
IsOffLinks (over_ring n) = Unit {0}
IsOffLinks (over_route route) = ⊥

pub record IsNewBinding (b : Binding) : Type 0 where
  pub back : IsOffLinks b.back
  pub client : IsUntouched b.client
  pub server : IsUntouched b.server

pub record Untouched (s : State) : Type 0 where
  pub bindings : (n : ℕ) (b : Binding) → slice_get s.bindings n ≡ Some b → IsNewBinding b
  -- no circuit was opened on any link, from either of its two cores
  pub links : (n l : ℕ) (k : Core) (link : LinkState) → core_of s n ≡ Some k → slice_get k.circuits.links l ≡ Some link
      → (link.opened ≡ 0) × (link.taken ≡ 0)

-- a set-up that only makes things leads to such a machine, whether its events are refused or not
abbrev pub SetUpsTouchNothing : Type 0
SetUpsTouchNothing = (cores : ℕ) (events : List Event) → list_all is_making events ≡ true → Untouched (reached (start_with cores) events)
