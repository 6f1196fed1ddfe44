-- What a command asks: it is refused for its names, or it asks the machine an event. The refusals stand in the order in
-- which they are answered; those that the machine finds come behind them.
use Rattle.std.specs.Prelude.{◌≡◌, ◌⊎◌, ℕ, Bool, if◌then◌else◌, List, ◌∷◌, is_some}
use Rattle.fl_base.specs.declared.identity.EndId.{EndId}
use Rattle.fl_base.specs.Given.{given}
use Rattle.fl_interface.specs.Interface.{TheInterface}
use Rattle.fl_value_data.specs.Value.{Datum}
use Rattle.fl_value.specs.CallText.{SpellsCall}
use Rattle.fl_value_data.specs.declared.value.PlanNo.{PlanNo}
use Rattle.fl_model.specs.Events.{Kind, by_queues, by_ring, by_route, asked_route, Event, add_interface, set_cores}
use Rattle.fl_model.specs.Events.{add_link, add_dispatcher, monitor_write, monitor_ack, Answer, is_done}
use Rattle.fl_model.specs.Events as event
use Rattle.fl_script_lines.specs.Commands.{EndName, BackEnd, local, ump, hop, Command, cores, link, disp, export}
use Rattle.fl_script_lines.specs.Commands.{bind, call, show, write, turn, ack, register, deregister, reply, mwrite}
use Rattle.fl_script_lines.specs.Commands.{forward, mack}
use Rattle.fl_script_lines.specs.Names.{Names, place_of, dispatcher_at, end_at, message_at, with_interface}
use Rattle.fl_script_lines.specs.Names.{with_dispatcher, with_binding}

pub data Asked : Type 0 where
  -- refused with the fault's number
  refuses : ℕ → Asked
  -- an event, and the names behind it where it is answered `ok`
  asks : Event → Names → Asked

-- the names behind an event: the new ones that it gives, if it was answered `ok`
abbrev pub names_after : Names → Names → Answer → Names
names_after old new answer = if is_done answer then new else old

-- how the machine joins the ends: by queues, by a ring, or by a circuit over the cores of the route, as many as it is asked with
abbrev pub kind_of : BackEnd → Kind
kind_of (local slots) = by_queues slots
kind_of (ump slots) = by_ring slots
kind_of (hop first others) = by_route (asked_route (first ∷ others))

-- one of these things has the name already
abbrev pub is_taken : List ℕ → List (List ℕ) → Bool
is_taken name names = is_some (place_of name names)

-- E92: a dispatcher has the name
abbrev pub asks_disp : Names → List ℕ → ℕ → Asked
asks_disp n name core =
    if is_taken name n.dispatchers then refuses 92
    else asks (add_dispatcher core) (with_dispatcher n name core)

-- E92: no such dispatcher or interface; whether the service's name is taken the machine finds
abbrev pub asks_export : Names → List ℕ → List ℕ → List ℕ → Asked
asks_export n service dispatcher interface =
    given (dispatcher_at n dispatcher) (refuses 92) λ d.
    given (place_of interface n.interfaces) (refuses 92) λ i. asks (event.export service d i) n

-- E92: a binding has the name, or there is no such dispatcher or interface; the service the machine finds
abbrev pub asks_bind : Names → List ℕ → List ℕ → List ℕ → List ℕ → Kind → Asked
asks_bind n name client interface service kind =
    if is_taken name n.bindings then refuses 92
    else given (dispatcher_at n client) (refuses 92) λ d.
    given (place_of interface n.interfaces) (refuses 92) λ i.
    asks (event.bind d i service kind) (with_binding n name i)

-- what is asked of an end
abbrev pub asks_end : Names → (EndId → Event) → EndName → Asked
asks_end n f e = given (end_at n e) (refuses 92) λ x. asks (f x) n

-- E92: no such dispatcher
abbrev pub asks_turn : Names → List ℕ → Asked
asks_turn n dispatcher = given (dispatcher_at n dispatcher) (refuses 92) λ d. asks (event.turn d) n

-- E92: no such binding; E41: the end's interface hasn't both messages
abbrev pub asks_reply : Names → EndName → List ℕ → List ℕ → Asked
asks_reply n e message answer =
    given (end_at n e) (refuses 92) λ x.
    given (message_at n x message) (refuses 41) λ a.
    given (message_at n x answer) (refuses 41) λ b. asks (event.reply x a b) n

-- E92: no such binding; E41: no such message; whether the arguments fit it the machine finds
abbrev pub asks_call : Names → EndName → List ℕ → List Datum → Asked
asks_call n e name args =
    given (end_at n e) (refuses 92) λ x.
    given (message_at n x name) (refuses 41) λ m. asks (event.call x (record { msg = m; args = args })) n

-- a call's text is looked at before its end
abbrev pub CallAsks : Names → EndName → List ℕ → Asked → Type 0
CallAsks n e text asked =
    ((name : List ℕ) × (args : List Datum) × SpellsCall text name args × (asked ≡ asks_call n e name args))
    ⊎ (((name : List ℕ) (args : List Datum) → SpellsCall text name args → ⊥) × (asked ≡ refuses 90))

-- a call's text asks an event: nothing refuses it but the machine
abbrev pub AsksCall : Names → EndName → List ℕ → Type 0
AsksCall n e text = (one : Event) × CallAsks n e text (asks one n)

-- a command asks this of the machine, by these names
abbrev pub Asks : Names → Command → Asked → Type 0
Asks n (cores k) asked = asked ≡ asks (set_cores k) n
Asks n (link a b slots) asked = asked ≡ asks (add_link a b slots) n
Asks n (disp name core) asked = asked ≡ asks_disp n name core
Asks n (export s d i) asked = asked ≡ asks_export n s d i
Asks n (bind p d i s back) asked = asked ≡ asks_bind n p d i s (kind_of back)
Asks n (call e text) asked = CallAsks n e text asked
Asks n (show e) asked = asked ≡ asks_end n event.show e
Asks n (write e) asked = asked ≡ asks_end n event.write e
Asks n (turn d) asked = asked ≡ asks_turn n d
Asks n (ack e) asked = asked ≡ asks_end n event.ack e
Asks n (register e) asked = asked ≡ asks_end n event.register e
Asks n (deregister e) asked = asked ≡ asks_end n event.deregister e
Asks n (reply e message answer) asked = asked ≡ asks_reply n e message answer
Asks n (mwrite core neighbour) asked = asked ≡ asks (monitor_write core neighbour) n
Asks n (forward core neighbour) asked = asked ≡ asks (event.forward core neighbour) n
Asks n (mack core neighbour) asked = asked ≡ asks (monitor_ack core neighbour) n

-- memory is asked for where a call's text is read, and for no other command; it is wanting only where the text asks an
-- event
abbrev pub AsksForMemory : Names → Command → Type 0
AsksForMemory n (call e text) = AsksCall n e text
AsksForMemory n c = ⊥

-- a block whose text stands for an interface asks this
abbrev pub asks_interface : Names → TheInterface → PlanNo → Asked
asks_interface n i plan =
    if is_taken i.name n.interfaces then refuses 92
    else asks (add_interface i plan) (with_interface n i)
