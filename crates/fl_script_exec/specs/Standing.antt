-- The names that a script has given are those of the machine's things, and what a script asks of is there.
use Rattle.std.specs.Prelude.{ℕ, ◌≡◌, ◌<◌, List, [], ◌∷◌, ◌++◌, map, length, slice_get, Some, IsSome}
use Rattle.fl_base.specs.declared.identity.EndId.{EndId}
use Rattle.fl_interface.specs.Interface.{TheMessage}
use Rattle.fl_model.specs.Calls.{Planned}
use Rattle.fl_model.specs.Events.{DispatcherId, Event, add_interface, set_cores, add_link, add_dispatcher, export, bind}
use Rattle.fl_model.specs.Events.{call, show, write, turn, ack, register, deregister, reply}
use Rattle.fl_model.specs.Events.{monitor_write, forward, monitor_ack}
use Rattle.fl_model.specs.Runs.{Exchange}
use Rattle.fl_model.specs.SoundPlaces.{ServicesStand}
use Rattle.fl_model.specs.Waits.{Dispatcher}
use Rattle.fl_model.specs.State.{Binding, State, dispatcher_of, binding_of, interface_of}
use Rattle.fl_script_lines.specs.Names.{Names}
use Rattle.fl_script_exec.specs.Transcript.{beginning, Effect, Begins, last_of}

-- no two of these are the same
abbrev pub AllDiffer : {X : Type 0} → List X → Type 0
AllDiffer {X} xs = (j k : ℕ) (x : X) → slice_get xs j ≡ Some x → slice_get xs k ≡ Some x → j ≡ k

abbrev pub name_of : Planned → List ℕ
name_of i = i.interface.name

abbrev pub message_names : Planned → List (List ℕ)
message_names i = map (λ (m : TheMessage). m.name) i.interface.messages

-- ---- names

-- the names are those of the machine's interfaces, dispatchers and bindings, and of no others
pub record NamesStand (n : Names) (s : State) : Type 0 where
  -- each interface has its name, and its messages have theirs
  pub interfaces : n.interfaces ≡ map name_of s.interfaces
  pub messages : n.messages ≡ map message_names s.interfaces
  pub interfaces_differ : AllDiffer n.interfaces
  -- each dispatcher's name has a place of its own, at which a dispatcher is; and each dispatcher has a name
  pub dispatchers : length n.dispatchers ≡ length n.placed
  pub dispatchers_differ : AllDiffer n.dispatchers
  pub places_differ : AllDiffer n.placed
  pub there : (k : ℕ) (d : DispatcherId) → slice_get n.placed k ≡ Some d → (x : Dispatcher) × (dispatcher_of s d ≡ Some x)
  pub named : (d : DispatcherId) (x : Dispatcher) → dispatcher_of s d ≡ Some x → (k : ℕ) × (slice_get n.placed k ≡ Some d)
  -- each binding has its name, and its interface
  pub bindings : length n.bindings ≡ length n.spoken
  pub bindings_differ : AllDiffer n.bindings
  pub spoken : n.spoken ≡ map (λ (b : Binding). b.interface) s.bindings
  -- each service's dispatcher and interface are there; its name is known to the machine alone
  pub services : ServicesStand s

-- so it is wherever a script gets to
abbrev pub ScriptsNameWhatStands : Type 0
ScriptsNameWhatStands = (bytes : List ℕ) (done : List Effect) → Begins bytes done
    → NamesStand (last_of beginning done).names (last_of beginning done).state

-- ---- what is asked for

abbrev pub HasDispatcher : State → DispatcherId → Type 0
HasDispatcher s d = IsSome (dispatcher_of s d)

abbrev pub HasInterface : State → ℕ → Type 0
HasInterface s i = IsSome (slice_get s.interfaces i)

-- its binding was made; the end may not be bound yet
abbrev pub HasEnd : State → EndId → Type 0
HasEnd s e = IsSome (binding_of s e)

-- a message of an end's interface
abbrev pub HasMessage : State → EndId → ℕ → Type 0
HasMessage s e m = (b : Binding) × (i : Planned) × (binding_of s e ≡ Some b) × (interface_of s b ≡ Some i) × (m < length i.interface.messages)

-- the dispatchers, interfaces, ends and messages of an event are there (of a service's name, and of cores and links, the machine finds that)
abbrev pub IsOfWhatStands : State → Event → Type 0
IsOfWhatStands s (add_interface i plan) = Unit {0}
IsOfWhatStands s (set_cores n) = Unit {0}
IsOfWhatStands s (add_link a b slots) = Unit {0}
IsOfWhatStands s (add_dispatcher core) = Unit {0}
IsOfWhatStands s (export name d i) = HasDispatcher s d × HasInterface s i
IsOfWhatStands s (bind client i service kind) = HasDispatcher s client × HasInterface s i
IsOfWhatStands s (call e c) = HasMessage s e c.msg
IsOfWhatStands s (show e) = HasEnd s e
IsOfWhatStands s (write e) = HasEnd s e
IsOfWhatStands s (turn d) = HasDispatcher s d
IsOfWhatStands s (ack e) = HasEnd s e
IsOfWhatStands s (register e) = HasEnd s e
IsOfWhatStands s (deregister e) = HasEnd s e
IsOfWhatStands s (reply e message answer) = HasMessage s e message × HasMessage s e answer
IsOfWhatStands s (monitor_write core neighbour) = Unit {0}
IsOfWhatStands s (forward core neighbour) = Unit {0}
IsOfWhatStands s (monitor_ack core neighbour) = Unit {0}

-- whatever an item asks, it asks of what is there then
abbrev pub ScriptsAskOfWhatStands : Type 0
ScriptsAskOfWhatStands = (bytes : List ℕ) (done : List Effect) (next : Effect) → Begins bytes (done ++ next ∷ [])
    → (n : ℕ) (x : Exchange) → slice_get next.asked n ≡ Some x → IsOfWhatStands (last_of beginning done).state x.event
