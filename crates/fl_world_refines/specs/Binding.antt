-- What it comes to that a binding is made: its ends are joined by queues, by a ring, or by a circuit, of which the client's end is made first.
use Rattle.std.specs.Prelude.{ℕ, ◌≡◌, ◌⊎◌, ◌+◌, ◌*◌, ◌==◌, ◌||◌, ◌&&◌, nat_le}
use Rattle.std.specs.Prelude.{nat_lt, not, Bool, false, if◌then◌else◌, List, [], ◌∷◌, ◌++◌, length, map}
use Rattle.std.specs.Prelude.{slice_get, Option, Some, None, IsSome, Result, Ok, Err}
use Rattle.std.specs.List.{list_all}
use Rattle.fl_base.specs.declared.identity.EndId.{EndId}
use Rattle.fl_base.specs.declared.identity.LinkId.{LinkId}
use Rattle.fl_base.specs.Given.{given}
use Rattle.fl_base.specs.Numbered.{core_id}
use Rattle.fl_compile.specs.declared.program.Program.{Program}
use Rattle.fl_compile.specs.Programs.{program_of}
use Rattle.fl_link.specs.Queue.{TheQueue, QueueTakes}
use Rattle.fl_ring.specs.Duo.{TheDuo, MayHaveSlots}
use Rattle.fl_ring.specs.Side.{SideTakes}
use Rattle.fl_ring.specs.declared.duo_side.DuoSide.{DuoSide}
use Rattle.fl_endpoint.specs.View.{TheEnd, fresh}
use Rattle.fl_nameserv.specs.Registrations.{TheRegistration, by_name}
use Rattle.fl_core.specs.declared.board_fault.BoardFault.{BoardFault}
use Rattle.fl_core.specs.declared.board_fault.BoardFault.TheVariants as board
use Rattle.fl_core.specs.BoardTurns.{over}
use Rattle.fl_monitor.specs.declared.fault.MonitorFault.{MonitorFault}
use Rattle.fl_monitor.specs.declared.fault.MonitorFault.TheVariants as monitor
use Rattle.fl_monitor.specs.declared.opening.Opening.{Opening}
use Rattle.fl_monitor.specs.Faults.{fault_number as monitor_number}
use Rattle.fl_monitor.specs.Monitors.{MayOpen, wanted}
use Rattle.fl_core.specs.declared.wiring.EndWiring.TheVariants.{Queues, Ring}
use Rattle.fl_core.specs.declared.fault.OpenFault.{OpenFault}
use Rattle.fl_core.specs.declared.fault.OpenFault.TheVariants as fault
use Rattle.fl_core.specs.Faults.{open_number}
use Rattle.fl_core.specs.View.{TheCore, place_of, client_of, server_of}
use Rattle.fl_core.specs.Ends.{OnBoard, RegistersAt}
use Rattle.fl_core.specs.Making.{AddsWiredEnd, asked, Asks}
use Rattle.fl_model.specs.Events.{DispatcherId, Kind, by_queues, by_ring, by_route, Answer, done}
use Rattle.fl_model.specs.Binding.{same_dispatcher, all_differ}
use Rattle.fl_world_refines.specs.declared.binding.Binding.{Binding}
use Rattle.fl_world_refines.specs.View.{Given, If, TheWorld, has_dispatcher, IsWhole, with_core}
use Rattle.fl_world_refines.specs.Lending.{Refuses, DoesNothing, IsLent}
use Rattle.fl_world_refines.specs.Making.{is_core, new_duo}

-- what is asked for, once its names are known: the client's dispatcher, the interface and its program, the service's dispatcher and interface reference
pub record BindingRequest : Type 0 where
  pub client : DispatcherId
  pub interface : ℕ
  pub program : Program
  pub server : DispatcherId
  pub iref : ℕ

-- a copy of the program
abbrev pub IsCopy : BindingRequest → Program → Type 0
IsCopy want p = program_of p ≡ program_of want.program

-- the binding with its two ends made, or with the server's end kept until it is made
abbrev pub binding_for : BindingRequest → Option TheEnd → Binding
binding_for want unmade =
    record { interface = want.interface; client = want.client.core; server = want.server.core; unmade = unmade }

-- ---- places

-- the dispatcher has places for so many ends more
abbrev pub has_places : DispatcherId → ℕ → TheWorld → Bool
has_places d n w =
    given (slice_get w.cores d.core) false λ k.
    given (slice_get k.board.dispatchers d.place) false λ x.
    nat_le (length x.ends + n) 1024

-- places for an end at each of the two dispatchers; where they are one, it needs two
abbrev pub has_both_places : BindingRequest → TheWorld → Bool
has_both_places want w =
    if same_dispatcher want.client want.server then has_places want.client 2 w
    else has_places want.client 1 w && has_places want.server 1 w

-- an end of binding n is at this core already, as in no world that shows a state in which it is the next
abbrev pub HasEndOf : ℕ → ℕ → TheWorld → Type 0
HasEndOf n core w =
    (k : TheCore) × (slice_get w.cores core ≡ Some k) × (IsSome (place_of k (client_of n)) ⊎ IsSome (place_of k (server_of n)))

-- ---- by queues

-- two queues of numbers one after another: the first leads forth to the server, the next back to the client
pub record QueuePair : Type 0 where
  pub first : ℕ
  pub forth : TheQueue
  pub back : TheQueue

abbrev pub queue_pair : ℕ → TheQueue → TheQueue → QueuePair
queue_pair q forth back = record { first = q; forth = forth; back = back }

-- the two ends of binding n, over their queues
pub record IsJoined (want : BindingRequest) (n : ℕ) (queues : QueuePair) (before after : TheCore) : Type 0 where
  pub client_program : Program
  pub client_copy : IsCopy want client_program
  pub client : ℕ
  pub with_client : TheCore
  pub adds_client : AddsWiredEnd want.client.place (fresh client_program (Some 0))
      (record { name = client_of n; wiring = Queues queues.first (queues.first + 1) }) before (Ok client) with_client
  pub server_program : Program
  pub server_copy : IsCopy want server_program
  pub server : ℕ
  pub with_both : TheCore
  pub adds_server : AddsWiredEnd want.server.place (fresh server_program (Some 0))
      (record { name = server_of n; wiring = Queues (queues.first + 1) queues.first }) with_client (Ok server) with_both
  pub client_answer : Result (Unit {0}) BoardFault
  pub client_listed : TheCore
  pub registers_client : OnBoard with_both (λ b c. RegistersAt QueueTakes client (over b queues.back) client_answer (over c queues.back)) client_listed
  pub server_answer : Result (Unit {0}) BoardFault
  pub registers_server : OnBoard client_listed (λ b c. RegistersAt QueueTakes server (over b queues.forth) server_answer (over c queues.forth)) after

-- an empty queue of so many slots, each free once its fragment is taken
abbrev pub new_queue : ℕ → TheQueue
new_queue slots = record { items = []; unacknowledged = 0; sent = 0; capacity = slots; acked = false }

-- both ends are made at the client's core, over two new queues, and the binding stands behind the others
pub record JoinsByQueues (want : BindingRequest) (slots : ℕ) (w w2 : TheWorld) : Type 0 where
  pub core : TheCore
  pub core_is : slice_get w.cores want.client.core ≡ Some core
  pub whole : IsWhole core
  pub after : TheCore
  pub still : IsWhole after
  pub joined : IsJoined want (length w.bindings) (queue_pair (length w.queues) (new_queue slots) (new_queue slots)) core after
  pub rest : w2 ≡ record (with_core w want.client.core after) {
    queues = w.queues ++ new_queue slots ∷ new_queue slots ∷ [];
    bindings = w.bindings ++ binding_for want None ∷ [];
  }

-- refused where the dispatchers aren't on one core, then for the number of slots, then for want of places
abbrev pub BindsByQueues : BindingRequest → ℕ → TheWorld → Answer → TheWorld → Type 0
BindsByQueues want slots w a w2 =
    If (not (want.client.core == want.server.core)) (Refuses 73 w a w2)
    (If (nat_lt slots 1 || nat_lt 1024 slots) (Refuses 32 w a w2)
    (If (not (has_both_places want w)) (Refuses 54 w a w2)
    (((a ≡ done) × JoinsByQueues want slots w w2) ⊎ (HasEndOf (length w.bindings) want.client.core w × DoesNothing w a w2))))

-- ---- by a ring

-- an end that is made: its dispatcher, and its name
pub record NewEnd : Type 0 where
  pub dispatcher : DispatcherId
  pub name : EndId

abbrev pub end_for : DispatcherId → EndId → NewEnd
end_for d name = record { dispatcher = d; name = name }

-- it is added over side m, of a new ring, and registered
pub record JoinsSide (want : BindingRequest) (end : NewEnd) (m : ℕ) (ring : TheDuo) (before after : TheCore) : Type 0 where
  pub program : Program
  pub copy : IsCopy want program
  pub place : ℕ
  pub added : TheCore
  pub adds : AddsWiredEnd end.dispatcher.place (fresh program (Some 0)) (record { name = end.name; wiring = Ring m }) before (Ok place) added
  pub side : DuoSide
  pub lent : IsLent m ring side
  pub answer : Result (Unit {0}) BoardFault
  pub registers : OnBoard added (λ b c. RegistersAt SideTakes place (over b side) answer (over c side)) after

-- an end is made at each of the two cores, over a new ring, whose first side is the client's
pub record JoinsByRing (want : BindingRequest) (size : ℕ) (w w2 : TheWorld) : Type 0 where
  pub first : TheCore
  pub first_is : slice_get w.cores want.client.core ≡ Some first
  pub first_whole : IsWhole first
  pub first_after : TheCore
  pub first_still : IsWhole first_after
  pub client : JoinsSide want (end_for want.client (client_of (length w.bindings))) (2 * length w.rings) (new_duo size) first first_after
  pub second : TheCore
  pub second_is : slice_get w.cores want.server.core ≡ Some second
  pub second_whole : IsWhole second
  pub second_after : TheCore
  pub second_still : IsWhole second_after
  pub server : JoinsSide want (end_for want.server (server_of (length w.bindings))) (2 * length w.rings + 1) (new_duo size)
      second second_after
  pub rest : w2 ≡ record (with_core (with_core w want.client.core first_after) want.server.core second_after) {
    rings = w.rings ++ new_duo size ∷ [];
    bindings = w.bindings ++ binding_for want None ∷ [];
  }

-- the ring's size is refused before the places are
abbrev pub BindsByRing : BindingRequest → ℕ → TheWorld → Answer → TheWorld → Type 0
BindsByRing want size w a w2 =
    If (want.client.core == want.server.core) (Refuses 73 w a w2)
    (((MayHaveSlots size → ⊥) × Refuses 32 w a w2)
    ⊎ (MayHaveSlots size
    × If (not (has_both_places want w)) (Refuses 54 w a w2)
    (((a ≡ done) × JoinsByRing want size w w2)
    ⊎ ((HasEndOf (length w.bindings) want.client.core w ⊎ HasEndOf (length w.bindings) want.server.core w) × DoesNothing w a w2))))

-- ---- by a circuit

-- the opening of binding n: its service by the interface reference, and the whole route
abbrev pub opening_for : BindingRequest → ℕ → List ℕ → Opening
opening_for want n cores = record { binding = n; service = record { 0 = want.iref }; path = map core_id cores }

-- the client's end is there and the opening waits; the server's end is kept until it is made
pub record BeginsBinding (want : BindingRequest) (w : TheWorld) (after : TheCore) (w2 : TheWorld) : Type 0 where
  pub program : Program
  pub copy : IsCopy want program
  pub rest : w2 ≡ record (with_core w want.client.core after) { bindings = w.bindings ++ binding_for want (Some (fresh program None)) ∷ [] }

-- by what the core made of it; out of memory isn't an answer
abbrev pub AsksBy : BindingRequest → Result ℕ OpenFault → TheWorld → TheCore → Answer → TheWorld → Type 0
AsksBy want (Ok place) w after a w2 = (a ≡ done) × BeginsBinding want w after w2
AsksBy want (Err (fault.Board board.Memory)) w after a w2 = ⊥
AsksBy want (Err (fault.Monitor monitor.Memory)) w after a w2 = ⊥
AsksBy want (Err other) w after a w2 = Refuses (open_number other) w a w2

-- what is asked for, and the cores of the circuit's route
pub record RouteRequest : Type 0 where
  pub want : BindingRequest
  pub cores : List ℕ

abbrev pub by_cores : BindingRequest → List ℕ → RouteRequest
by_cores want cores = record { want = want; cores = cores }

-- on this link, from this core, which is the client's
pub record OpensOn (asks_for : RouteRequest) (l : LinkId) (core : TheCore) (w : TheWorld) (a : Answer) (w2 : TheWorld) : Type 0 where
  pub program : Program
  pub copy : IsCopy asks_for.want program
  pub result : Result ℕ OpenFault
  pub after : TheCore
  pub still : IsWhole after
  pub asks : Asks (asked asks_for.want.client.place program l (opening_for asks_for.want (length w.bindings) asks_for.cores)) core result after
  pub follows : AsksBy asks_for.want result w after a w2

-- whether a circuit may be opened from this core, and on which link
abbrev pub OpensBy : Result LinkId MonitorFault → RouteRequest → TheCore → TheWorld → Answer → TheWorld → Type 0
OpensBy (Err fault) x core w a w2 = Refuses (monitor_number fault) w a w2
OpensBy (Ok l) x core w a w2 = OpensOn x l core w a w2 ⊎ (HasEndOf (length w.bindings) x.want.client.core w × DoesNothing w a w2)

-- the client's core tells on which of its links the route begins, or why on none; the rest follows that
pub record OpensFrom (want : BindingRequest) (cores : List ℕ) (w : TheWorld) (a : Answer) (w2 : TheWorld) : Type 0 where
  pub core : TheCore
  pub core_is : slice_get w.cores want.client.core ≡ Some core
  pub whole : IsWhole core
  pub may : Result LinkId MonitorFault
  pub may_open : MayOpen (wanted want.program want.program (core_id want.server.core) (map core_id cores) (length w.cores)) core.monitor.circuits may
  pub opens : OpensBy may (by_cores want cores) core w a w2

-- a route of 2 to 16 of the world's cores, none twice
abbrev pub may_be_route : List ℕ → TheWorld → Bool
may_be_route cores w =
    nat_le 2 (length cores) && nat_le (length cores) 16 && list_all (λ n. is_core n w) cores && all_differ cores

-- what can't be a route in this world is refused before the client's core is asked
abbrev pub BindsByRoute : BindingRequest → List ℕ → TheWorld → Answer → TheWorld → Type 0
BindsByRoute want cores w a w2 = If (not (may_be_route cores w)) (Refuses 73 w a w2) (OpensFrom want cores w a w2)

-- ---- the event

-- by how the ends are to be joined
abbrev pub BindsBy : BindingRequest → Kind → TheWorld → Answer → TheWorld → Type 0
BindsBy want (by_queues slots) w a w2 = BindsByQueues want slots w a w2
BindsBy want (by_ring size) w a w2 = BindsByRing want size w a w2
BindsBy want (by_route cores) w a w2 = BindsByRoute want cores w a w2

-- from the client's dispatcher, the interface, its program, and the service as the table of names has it
abbrev pub wanted_from : DispatcherId → ℕ → Program → TheRegistration → BindingRequest
wanted_from client i p r = record {
  client = client;
  interface = i;
  program = p;
  server = record { core = r.service.core.0; place = r.service.dispatcher };
  iref = r.iref;
}

-- what is asked for: the client's dispatcher, the interface, the service's name, and what is to join the ends
pub record NamedRequest : Type 0 where
  pub client : DispatcherId
  pub interface : ℕ
  pub name : List ℕ
  pub kind : Kind

abbrev pub named_request : DispatcherId → ℕ → List ℕ → Kind → NamedRequest
named_request client i name kind = record { client = client; interface = i; name = name; kind = kind }

-- the refusals stand in the order in which they are answered
abbrev pub Binds : NamedRequest → TheWorld → Answer → TheWorld → Type 0
Binds x w a w2 =
    If (not (has_dispatcher w x.client)) (Refuses 92 w a w2)
    (Given (slice_get w.programs x.interface) (Refuses 92 w a w2) λ p.
    If (nat_le 1024 (length w.bindings)) (Refuses 94 w a w2)
    (Given (by_name x.name w.names) (Refuses 70 w a w2) λ r.
    If (not (r.service.interface == x.interface)) (Refuses 72 w a w2)
    (BindsBy (wanted_from x.client x.interface p r) x.kind w a w2)))
