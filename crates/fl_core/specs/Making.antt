-- What making something at a core comes to, by cases on the answer, exactly.
use Rattle.std.specs.Prelude.{ℕ, ◌≡◌, ◌<◌, ◌+◌, ◌==◌, ◌&&◌, nat_le, Bool, true, false, if◌then◌else◌}
use Rattle.std.specs.Prelude.{[], ◌∷◌, ◌++◌, length, slice_get, Some, None, Result, Ok, Err}
use Rattle.fl_base.specs.declared.identity.CoreId.{CoreId}
use Rattle.fl_base.specs.declared.identity.LinkId.{LinkId}
use Rattle.fl_base.specs.declared.identity.Circuit.{Circuit}
use Rattle.fl_base.specs.Given.{given}
use Rattle.fl_compile.specs.declared.program.Program.{Program}
use Rattle.fl_endpoint.specs.View.{TheEnd, fresh}
use Rattle.fl_core.specs.declared.kind.ChannelKind.{ChannelKind}
use Rattle.fl_core.specs.declared.kind.ChannelKind.TheVariants.{Queue}
use Rattle.fl_core.specs.declared.board_fault.BoardFault.{BoardFault}
use Rattle.fl_core.specs.declared.board_fault.BoardFault.TheVariants.{TooManyEnds, Memory}
use Rattle.fl_core.specs.BoardSound.{IsBoard}
use Rattle.fl_core.specs.BoardView.{TheDispatcher, TheBoard}
use Rattle.fl_core.specs.BoardEvents.{Adds}
use Rattle.fl_monitor.specs.declared.opening.Opening.{Opening}
use Rattle.fl_monitor.specs.declared.fault.MonitorFault.TheVariants as monitor
use Rattle.fl_monitor.specs.Monitors.{TheMonitor, with_new_link, Opens, MayStart, RefusesStart}
use Rattle.fl_core.specs.declared.wiring.WiredEnd.{WiredEnd}
use Rattle.fl_core.specs.declared.wiring.EndWiring.TheVariants.{Queues}
use Rattle.fl_core.specs.declared.joining.LocalBinding.{LocalBinding}
use Rattle.fl_core.specs.declared.joining.EndPlaces.{EndPlaces}
use Rattle.fl_core.specs.declared.fault.OpenFault.{OpenFault}
use Rattle.fl_core.specs.declared.fault.OpenFault.TheVariants.{Board, Monitor}
use Rattle.fl_core.specs.View.{TheCore, kind_of, client_of, server_of, place_of, with_wired_end, with_circuit_wired_end}
use Rattle.fl_core.specs.Sound.{IsCore}

-- ---- a link

-- the core with one link more, to this neighbour, over a side of a ring
abbrev pub linked : TheCore → CoreId → ℕ → TheCore
linked k neighbour side = record k {
  monitor = with_new_link k.monitor neighbour;
  link_sides = k.link_sides ++ record { side = side; failed = false } ∷ [];
}

-- a core to which a link was added, with nothing else since
pub record IsLinked (k : TheCore) : Type 0 where
  pub before : TheCore
  pub sound : IsCore before
  pub neighbour : CoreId
  pub side : ℕ
  pub core : k ≡ linked before neighbour side

-- ---- an end on a queue or a ring

-- the dispatcher has a place for one more end
abbrev pub HasPlace : TheBoard → ℕ → Type 0
HasPlace b n = (d : TheDispatcher) × (slice_get b.dispatchers n ≡ Some d) × (length d.ends < 1024)

-- why the dispatcher gets no other end: it has 1,024, or there is no memory for one
abbrev pub HasNoPlace : TheBoard → ℕ → BoardFault → Type 0
HasNoPlace b n fault = (s : TheEnd) (kind : ChannelKind) → Adds b n s kind (Err fault) b

-- it has 1,024
abbrev pub HasAllEnds : TheBoard → ℕ → BoardFault → Type 0
HasAllEnds b n TooManyEnds = HasNoPlace b n TooManyEnds
HasAllEnds b n fault = ⊥

-- the end is added at dispatcher n, with its name and its wiring; where it is refused nothing has changed
abbrev pub AddsWiredEnd : ℕ → TheEnd → WiredEnd → TheCore → Result ℕ BoardFault → TheCore → Type 0
AddsWiredEnd n s p k (Ok e) k2 = Adds k.board n s (kind_of p.wiring) (Ok e) k2.board × (k2 ≡ with_wired_end k k2.board e p)
AddsWiredEnd n s p k (Err fault) k2 = Adds k.board n s (kind_of p.wiring) (Err fault) k.board × (k2 ≡ k)

-- a core to which an end was added, with nothing else since
pub record HasNewEnd (k : TheCore) : Type 0 where
  pub before : TheCore
  pub sound : IsCore before
  pub board : IsBoard before.board
  pub dispatcher : ℕ
  pub end : TheEnd
  pub wired_end : WiredEnd
  pub few : wired_end.name.binding < 1024
  pub new : place_of before wired_end.name ≡ None
  pub place : ℕ
  pub adds : AddsWiredEnd dispatcher end wired_end before (Ok place) k

-- whatever core an end was added to, so that it came to k, is there again
abbrev pub TakesBackEnd : TheCore → TheCore → Type 0
TakesBackEnd k k2 = (before : TheCore) (n : ℕ) (s : TheEnd) (p : WiredEnd) (e : ℕ) → p.name.binding < 1024 → place_of before p.name ≡ None
    → AddsWiredEnd n s p before (Ok e) k → k2 ≡ before

-- ---- both ends of a binding within the core

-- the dispatcher has places for so many more ends
abbrev pub has_places : ℕ → TheBoard → ℕ → Bool
has_places count b n = given (slice_get b.dispatchers n) false λ d. nat_le (length d.ends + count) 1024

-- there are places for one end at each of two dispatchers; where they are one, it needs two
abbrev pub has_both_places : TheBoard → ℕ → ℕ → Bool
has_both_places b n m = if n == m then has_places 2 b n else has_places 1 b n && has_places 1 b m

-- the wired ends of the two: what one puts to a queue the other takes from it
abbrev pub client_wired_end : LocalBinding → WiredEnd
client_wired_end j = record { name = client_of j.binding; wiring = Queues j.to_server j.to_client }

abbrev pub server_wired_end : LocalBinding → WiredEnd
server_wired_end j = record { name = server_of j.binding; wiring = Queues j.to_client j.to_server }

-- both are added, the client's end first
pub record JoinsBoth (j : LocalBinding) (k : TheCore) (both : EndPlaces) (k2 : TheCore) : Type 0 where
  pub between : TheCore
  pub client : AddsWiredEnd j.client.dispatcher j.client.end (client_wired_end j) k (Ok both.client) between
  pub server : AddsWiredEnd j.server.dispatcher j.server.end (server_wired_end j) between (Ok both.server) k2

-- both, or neither: there aren't places for both, or there is no memory
abbrev pub Joins : LocalBinding → TheCore → Result EndPlaces BoardFault → TheCore → Type 0
Joins j k (Ok both) k2 = JoinsBoth j k both k2
Joins j k (Err TooManyEnds) k2 = (has_both_places k.board j.client.dispatcher j.server.dispatcher ≡ false) × (k2 ≡ k)
Joins j k (Err Memory) k2 = (has_both_places k.board j.client.dispatcher j.server.dispatcher ≡ true) × (k2 ≡ k)
Joins j k (Err fault) k2 = ⊥

-- ---- the client's end of a circuit

-- what is asked for: the client's dispatcher and program, the link on which the route begins, and the opening
pub record Asked : Type 0 where
  pub dispatcher : ℕ
  pub program : Program
  pub link : LinkId
  pub opening : Opening

abbrev pub asked : ℕ → Program → LinkId → Opening → Asked
asked dispatcher program link opening = record { dispatcher = dispatcher; program = program; link = link; opening = opening }

-- the end is added and the circuit begun, or neither
abbrev pub BeginsOn : Asked → TheBoard → TheMonitor → Result ℕ OpenFault → TheBoard → TheMonitor → Type 0
BeginsOn a b m (Ok e) b2 m2 = Adds b a.dispatcher (fresh a.program None) Queue (Ok e) b2 × ((c : Circuit) × Opens a.link a.opening m (Ok c) m2)
BeginsOn a b m (Err (Board fault)) b2 m2 = Adds b a.dispatcher (fresh a.program None) Queue (Err fault) b × (b2 ≡ b) × (m2 ≡ m)
BeginsOn a b m (Err (Monitor fault)) b2 m2 = Opens a.link a.opening m (Err fault) m × (b2 ≡ b) × (m2 ≡ m)

-- the client's end is there, not bound, with an arrival queue; its entry is made, and the opening is to be said
pub record Begins (a : Asked) (k : TheCore) (e : ℕ) (k2 : TheCore) : Type 0 where
  pub adds : Adds k.board a.dispatcher (fresh a.program None) Queue (Ok e) k2.board
  pub circuit : Circuit
  pub opens : Opens a.link a.opening k.monitor (Ok circuit) k2.monitor
  pub rest : k2 ≡ record (with_circuit_wired_end k k2.board e (client_of a.opening.binding) a.link) { monitor = k2.monitor }

abbrev pub Asks : Asked → TheCore → Result ℕ OpenFault → TheCore → Type 0
Asks a k (Ok e) k2 = Begins a k e k2
Asks a k (Err (Board fault)) k2 = Adds k.board a.dispatcher (fresh a.program None) Queue (Err fault) k.board × (k2 ≡ k)
Asks a k (Err (Monitor fault)) k2 = HasPlace k.board a.dispatcher × Opens a.link a.opening k.monitor (Err fault) k.monitor × (k2 ≡ k)

-- memory aside, a circuit is begun where dispatcher n has a place, no fault is due on link l, and its outbox has room
pub record MayOpen (n : ℕ) (l : LinkId) (o : Opening) (k : TheCore) : Type 0 where
  pub place : HasPlace k.board n
  pub starts : MayStart l o k.monitor

-- and else why it isn't
abbrev pub RefusesOpen : ℕ → LinkId → Opening → TheCore → OpenFault → Type 0
RefusesOpen n l o k (Board fault) = HasAllEnds k.board n fault
RefusesOpen n l o k (Monitor fault) = HasPlace k.board n × RefusesStart l o k.monitor fault

-- memory is wanting last: only where the circuit may be begun
abbrev pub OpensLast : ℕ → LinkId → Opening → TheCore → OpenFault → Type 0
OpensLast n l o k (Board Memory) = MayOpen n l o k
OpensLast n l o k (Monitor monitor.Memory) = MayOpen n l o k
OpensLast n l o k fault = Unit {0}
