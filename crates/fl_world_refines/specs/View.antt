-- A world, as contracts see it: its parts' own views, and what it keeps beside them. It stores no history.
use Rattle.std.specs.Prelude.{ℕ, ◌+◌, ◌*◌, ◌/◌, ◌%◌, ◌==◌, nat_lt, Bool, true}
use Rattle.std.specs.Prelude.{false, if◌then◌else◌, List, length, slice_get, slice_set, Option, Some, None}
use Rattle.fl_base.specs.declared.identity.Side.{Side}
use Rattle.fl_base.specs.declared.identity.Side.TheVariants.{Client, Server}
use Rattle.fl_base.specs.declared.identity.EndId.{EndId}
use Rattle.fl_base.specs.Given.{given}
use Rattle.fl_compile.specs.declared.program.Program.{Program}
use Rattle.fl_link.specs.Queue.{TheQueue}
use Rattle.fl_ring.specs.Duo.{TheDuo}
use Rattle.fl_ring.specs.declared.one_duo.WhichSide.{WhichSide}
use Rattle.fl_endpoint.specs.View.{TheEnd}
use Rattle.fl_nameserv.specs.Registrations.{TheRegistration}
use Rattle.fl_core.specs.BoardSound.{IsBoard}
use Rattle.fl_monitor.specs.Monitors.{HasOutboxes}
use Rattle.fl_core.specs.View.{TheCore, place_of}
use Rattle.fl_core.specs.Sound.{IsCore}
use Rattle.fl_model.specs.Events.{DispatcherId}
use Rattle.fl_model.specs.Rings.{RingSide, first_side, second_side, RingEnd}
use Rattle.fl_world_refines.specs.Rings.{which_of}
use Rattle.fl_world_refines.specs.declared.binding.Binding.{Binding}

-- ---- what is to be shown, by cases

-- where there is no x, the first; where x is `Some y`, the second with y
abbrev pub Given : {X : Type 0} → Option X → Type 0 → (X → Type 0) → Type 0
Given None Otherwise Then = Otherwise
Given (Some y) Otherwise Then = Then y

-- where the condition holds, the first, and else the second
abbrev pub If : Bool → Type 0 → Type 0 → Type 0
If true Then Else = Then
If false Then Else = Else

-- ---- a world

-- cores, rings, queues, programs and bindings are known by their places; a ring is a link's or a binding's
pub record TheWorld : Type 0 where
  -- no event but those that add interfaces was accepted yet
  pub may_set_cores : Bool
  pub cores : List TheCore
  -- how many dispatchers there are at all cores
  pub dispatchers : ℕ
  pub rings : List TheDuo
  -- the queues of bindings within a core, two for each
  pub queues : List TheQueue
  pub programs : List Program
  pub names : List TheRegistration
  pub bindings : List Binding

-- a ring's two sides are numbered one after the other
abbrev pub number_in : RingSide → ℕ
number_in first_side = 0
number_in second_side = 1

-- ring n has the sides 2 n and 2 n + 1 of the world
abbrev pub side_number : RingEnd → ℕ
side_number at = 2 * at.ring + number_in at.side

-- and the side of a number: its ring, and which of the two it is
abbrev pub ring_at : ℕ → ℕ
ring_at n = n / 2

abbrev pub side_in : ℕ → RingSide
side_in n = if n % 2 == 0 then first_side else second_side

abbrev pub side_at : ℕ → RingEnd
side_at n = record { ring = ring_at n; side = side_in n }

-- which of the two, as the ring itself names them
abbrev pub which_at : ℕ → WhichSide
which_at n = which_of (side_in n)

-- what is known of a core at any time
pub record IsWhole (k : TheCore) : Type 0 where
  pub core : IsCore k
  pub board : IsBoard k.board
  pub outboxes : HasOutboxes k.monitor

-- ---- where things are

-- there is such a dispatcher
abbrev pub has_dispatcher : TheWorld → DispatcherId → Bool
has_dispatcher w d = given (slice_get w.cores d.core) false λ k. nat_lt d.place (length k.board.dispatchers)

-- where an end is found
pub data WhereEnd : Type 0 where
  -- there is no such binding
  nowhere : WhereEnd
  -- the server's end of a circuit, before it is made
  unmade : WhereEnd
  -- at this core, at this place of its board
  made : ℕ → ℕ → WhereEnd

-- the core of a binding's end, or the one at which it will be made
abbrev pub core_in : Side → Binding → ℕ
core_in Client b = b.client
core_in Server b = b.server

-- of an end whose core is n: where it isn't on that core's board, it isn't made yet
abbrev pub location_at : List TheCore → ℕ → EndId → WhereEnd
location_at cores n e =
    given (slice_get cores n) unmade λ k.
    given (place_of k e) unmade λ place.
    made n place

-- where the end of this name is, by what the world keeps of its binding and by its core's board
abbrev pub location_of : TheWorld → EndId → WhereEnd
location_of w e = given (slice_get w.bindings e.binding) nowhere λ b. location_at w.cores (core_in e.side b) e

-- ---- one thing changed

-- the world with another core, ring, queue or binding at a place, and all else the same
abbrev pub with_core : TheWorld → ℕ → TheCore → TheWorld
with_core w n k = record w { cores = slice_set w.cores n k }

abbrev pub with_ring : TheWorld → ℕ → TheDuo → TheWorld
with_ring w n r = record w { rings = slice_set w.rings n r }

abbrev pub with_queue : TheWorld → ℕ → TheQueue → TheWorld
with_queue w n q = record w { queues = slice_set w.queues n q }

abbrev pub with_binding : TheWorld → ℕ → Binding → TheWorld
with_binding w n b = record w { bindings = slice_set w.bindings n b }

-- the binding with another end kept for its server
abbrev pub keeping : Binding → TheEnd → Binding
keeping b t = record b { unmade = Some t }
