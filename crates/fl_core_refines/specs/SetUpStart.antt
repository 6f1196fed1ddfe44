-- How everything stands in a world where things were made, and with which nothing was done yet. Law.
use Rattle.std.specs.Prelude.{ℕ, ◌≡◌, ◌⊎◌, ◌+◌, ◌-◌, ◌*◌, ◌%◌, ◌==◌, ◌<◌, true, false, if◌then◌else◌, List, [], length, slice_get, Some, None}
use Rattle.std.specs.List.{list_all}
use Rattle.fl_base.specs.declared.fragment.Frag.{Frag}
use Rattle.fl_base.specs.declared.identity.EndId.{EndId}
use Rattle.fl_compile.specs.declared.program.Program.{Program}
use Rattle.fl_compile.specs.Programs.{program_of}
use Rattle.fl_hop.specs.declared.links.LinkState.{LinkState}
use Rattle.fl_hop.specs.Table.{link_of, hop_at}
use Rattle.fl_endpoint.specs.View.{TheEnd}
use Rattle.fl_core.specs.BoardView.{TheEndAtChannel}
use Rattle.fl_core.specs.declared.wiring.WiredEnd.{WiredEnd}
use Rattle.fl_core.specs.declared.wiring.EndWiring.{EndWiring}
use Rattle.fl_core.specs.declared.wiring.EndWiring.TheVariants.{Queues, Ring}
use Rattle.fl_core.specs.View.{TheCore, place_of, side_of_link, client_of, server_of}
use Rattle.fl_core.specs.Sound.{IsCore}
use Rattle.fl_core_run_laws.specs.Flows.{IsNew, IsApart}
use Rattle.fl_model.specs.Events.{Event}
use Rattle.fl_model.specs.State.{State}
use Rattle.fl_model.specs.Worlds.{start_with}
use Rattle.fl_model.specs.Runs.{reached}
use Rattle.fl_world_refines.specs.declared.binding.Binding.{Binding}
use Rattle.fl_world_refines.specs.View.{TheWorld, ring_at, core_in}
use Rattle.fl_world_refines.specs.Binding.{new_queue}
use Rattle.fl_world_refines.specs.ShowsState.{Shows, NamesQueue, NamesSide}
use Rattle.fl_world_refines.specs.Apart.{is_making}
use Rattle.fl_core_refines.specs.SetUpUntouched.{Untouched}

-- ---- ends

-- a new end that is bound, off links, and never failed
pub record IsFresh (x : TheEnd) : Type 0 where
  pub new : IsNew x
  pub circuit : x.circuit ≡ Some 0
  pub sound : x.failed ≡ false

abbrev pub EndsAreFresh : TheWorld → Type 0
EndsAreFresh w = (n place : ℕ) (c : TheCore) (e : EndId) (seat : TheEndAtChannel) → slice_get w.cores n ≡ Some c → place_of c e ≡ Some place
    → slice_get c.board.seats place ≡ Some seat → IsFresh seat.end

-- each end at a core is one of a binding, and sits where that says
abbrev pub EndsHaveBindings : TheWorld → Type 0
EndsHaveBindings w = (n place : ℕ) (c : TheCore) (e : EndId) → slice_get w.cores n ≡ Some c → place_of c e ≡ Some place
    → (b : Binding) × (slice_get w.bindings e.binding ≡ Some b) × (core_in e.side b ≡ n)

-- ---- which sides of rings and which queues a core names

-- no two cores name one side
abbrev pub SidesHaveOneCore : TheWorld → Type 0
SidesHaveOneCore w = (n m side : ℕ) (c d : TheCore) → slice_get w.cores n ≡ Some c → slice_get w.cores m ≡ Some d
    → NamesSide c side → NamesSide d side → n ≡ m

-- nor one queue
abbrev pub QueuesHaveOneCore : TheWorld → Type 0
QueuesHaveOneCore w = (n m queue : ℕ) (c d : TheCore) → slice_get w.cores n ≡ Some c → slice_get w.cores m ≡ Some d
    → NamesQueue c queue → NamesQueue d queue → n ≡ m

-- nor do two links or ends of one core
abbrev pub CoresAreApart : TheWorld → Type 0
CoresAreApart w = (n : ℕ) (c : TheCore) → slice_get w.cores n ≡ Some c → IsCore c → IsApart c

-- the rings of the sides that a core names are there
abbrev pub SidesAreThere : TheWorld → Type 0
SidesAreThere w = (n side : ℕ) (c : TheCore) → slice_get w.cores n ≡ Some c → NamesSide c side → ring_at side < length w.rings

-- and so are the queues that it names, and nothing was put to any
abbrev pub QueuesAreNew : TheWorld → Type 0
QueuesAreNew w = (n queue : ℕ) (c : TheCore) → slice_get w.cores n ≡ Some c → NamesQueue c queue
    → (slots : ℕ) × (slice_get w.queues queue ≡ Some (new_queue slots))

-- ---- links

-- the other side of the same ring
abbrev pub across : ℕ → ℕ
across side = if side % 2 == 0 then side + 1 else side - 1

-- link l of core n, which has this side, leads to a core whose link back has the other side of the ring
pub record LeadsBack (w : TheWorld) (n : ℕ) (c : TheCore) (l side : ℕ) : Type 0 where
  pub link : LinkState
  pub link_is : slice_get c.monitor.circuits.links l ≡ Some link
  pub core : TheCore
  pub core_is : slice_get w.cores link.neighbour.0 ≡ Some core
  pub back : ℕ
  pub back_is : link_of core.monitor.circuits n ≡ Some back
  pub side_is : side_of_link core.link_sides back ≡ Some (across side)
  pub within : ring_at side < length w.rings

abbrev pub LinksArePaired : TheWorld → Type 0
LinksArePaired w = (n l side : ℕ) (c : TheCore) → slice_get w.cores n ≡ Some c → side_of_link c.link_sides l ≡ Some side → LeadsBack w n c l side

-- ---- circuits

-- each core has its place as its number
abbrev pub CoresAreNumbered : TheWorld → Type 0
CoresAreNumbered w = (n : ℕ) (c : TheCore) → slice_get w.cores n ≡ Some c → c.monitor.circuits.core ≡ n

-- no circuit was opened on a link, no number of one leads anywhere, and the monitor has nothing to say
pub record IsIdle (c : TheCore) : Type 0 where
  pub counts : (l : ℕ) (link : LinkState) → slice_get c.monitor.circuits.links l ≡ Some link → (link.opened ≡ 0) × (link.taken ≡ 0)
  pub entries : (l number side : ℕ) → side_of_link c.link_sides l ≡ Some side → hop_at c.monitor.circuits l number ≡ None
  pub outboxes : (l : ℕ) (frags : List Frag) → slice_get c.monitor.outboxes l ≡ Some frags → frags ≡ []

abbrev pub CoresAreIdle : TheWorld → Type 0
CoresAreIdle w = (n : ℕ) (c : TheCore) → slice_get w.cores n ≡ Some c → IsIdle c

-- ---- bindings

-- the end of this name stands at core n, under this program, on this wiring
pub record Stands (w : TheWorld) (n : ℕ) (e : EndId) (program : Program) (wiring : EndWiring) : Type 0 where
  pub core : TheCore
  pub core_is : slice_get w.cores n ≡ Some core
  pub place : ℕ
  pub place_is : place_of core e ≡ Some place
  pub seat : TheEndAtChannel
  pub seat_is : slice_get core.board.seats place ≡ Some seat
  pub program_is : program_of seat.end.program ≡ program_of program
  pub wired_end : WiredEnd
  pub wired_end_is : slice_get core.wired_ends place ≡ Some wired_end
  pub wiring_is : wired_end.wiring ≡ wiring

-- both ends of binding n stand at one core, and each takes from the queue that the other puts to
pub record ByQueues (w : TheWorld) (n : ℕ) (b : Binding) (program : Program) (forth back : ℕ) : Type 0 where
  pub one_core : b.client ≡ b.server
  pub client : Stands w b.client (client_of n) program (Queues forth back)
  pub server : Stands w b.server (server_of n) program (Queues back forth)

-- the client's end has the first side of this ring, and the server's the second
pub record ByRing (w : TheWorld) (n : ℕ) (b : Binding) (program : Program) (ring : ℕ) : Type 0 where
  pub within : ring < length w.rings
  pub client : Stands w b.client (client_of n) program (Ring (2 * ring))
  pub server : Stands w b.server (server_of n) program (Ring (2 * ring + 1))

pub record IsJoined (w : TheWorld) (n : ℕ) (b : Binding) : Type 0 where
  pub program : Program
  pub program_is : slice_get w.programs b.interface ≡ Some program
  pub joined : ((forth : ℕ) × (back : ℕ) × ByQueues w n b program forth back) ⊎ ((ring : ℕ) × ByRing w n b program ring)

abbrev pub BindingsAreJoined : TheWorld → Type 0
BindingsAreJoined w = (n : ℕ) (b : Binding) → slice_get w.bindings n ≡ Some b → IsJoined w n b

-- no two bindings have one ring
abbrev pub RingsHaveOneBinding : TheWorld → Type 0
RingsHaveOneBinding w = (n m ring : ℕ) (b d : Binding) (p q : Program) → ByRing w n b p ring → ByRing w m d q ring → n ≡ m

-- ---- the whole

pub record StartsFresh (w : TheWorld) : Type 0 where
  pub ends : EndsAreFresh w
  pub bindings : EndsHaveBindings w
  pub apart : CoresAreApart w
  pub sides : SidesAreThere w
  pub queues : QueuesAreNew w
  pub queue_cores : QueuesHaveOneCore w
  pub side_cores : SidesHaveOneCore w
  pub links : LinksArePaired w
  pub numbers : CoresAreNumbered w
  pub idle : CoresAreIdle w
  pub joined : BindingsAreJoined w
  pub rings : RingsHaveOneBinding w

-- a world that shows a machine with which nothing was done
abbrev pub UntouchedStartsFresh : Type 0
UntouchedStartsFresh = (w : TheWorld) (s : State) → Shows w s → Untouched s → StartsFresh w

-- so what a set-up that only makes things comes to
abbrev pub SetUpsStartFresh : Type 0
SetUpsStartFresh = (cores : ℕ) (events : List Event) (w : TheWorld) → list_all is_making events ≡ true
    → Shows w (reached (start_with cores) events) → StartsFresh w
