-- What a message comes to at the core that hears it, what is said then, and what becomes of the table of circuits.
use Rattle.std.specs.Prelude.{ℕ, ◌≡◌, true, Option, Some, None}
use Rattle.fl_base.specs.declared.identity.LinkId.{LinkId}
use Rattle.fl_base.specs.declared.identity.Circuit.{Circuit}
use Rattle.fl_base.specs.Given.{given}
use Rattle.fl_hop.specs.declared.entry.HopTarget.{HopTarget}
use Rattle.fl_hop.specs.declared.entry.HopTarget.TheVariants.{Link, End}
use Rattle.fl_hop.specs.declared.entry.Hop.{Hop}
use Rattle.fl_hop.specs.Table.{TheCircuits, hop_at, without_entry}
use Rattle.fl_hop.specs.Numbers.{next_own, after_taking}
use Rattle.fl_hop.specs.Openings.{IsWaiting, passed_on, arrived, answered}
use Rattle.fl_monitor.specs.declared.opening.Opening.{Opening}
use Rattle.fl_monitor.specs.declared.decision.OpeningDecision.{OpeningDecision}
use Rattle.fl_monitor.specs.declared.decision.OpeningDecision.TheVariants.{GoesOn, EndsAt, Fails}
use Rattle.fl_monitor.specs.declared.heard.MessageOutcome.{MessageOutcome}
use Rattle.fl_monitor.specs.declared.heard.MessageOutcome.TheVariants.{OpeningWentOn, ServerMade, OpeningFailed, AnswerWentOn, EndOpened, EndRefused}
use Rattle.fl_monitor.specs.declared.hearing.LinkMessage.{LinkMessage}
use Rattle.fl_monitor.specs.declared.message.MonitorMessage.{MonitorMessage}
use Rattle.fl_monitor.specs.declared.message.MonitorMessage.TheVariants.{OpenCircuit, CircuitOpened, CircuitRefused}
use Rattle.fl_monitor.specs.Fates.{Known, fate, is_in_place}

-- ---- what a message on link l comes to

-- an opening under number c there, by its fate
abbrev pub heard_by : ℕ → Circuit → OpeningDecision → MessageOutcome
heard_by binding c (GoesOn m n) = OpeningWentOn binding m n
heard_by binding c (EndsAt dispatcher) = ServerMade binding dispatcher c
heard_by binding c (Fails fault) = OpeningFailed binding fault

-- the answer that circuit c is open, by where its entry leads
abbrev pub opened_at : Circuit → ℕ → HopTarget → MessageOutcome
opened_at c binding (Link m d) = AnswerWentOn binding m d
opened_at c binding (End e) = EndOpened e c

-- the answer that it is refused
abbrev pub refused_at : ℕ → ℕ → HopTarget → MessageOutcome
refused_at reason binding (Link m d) = AnswerWentOn binding m d
refused_at reason binding (End e) = EndRefused e reason

abbrev pub opening_of : MonitorMessage → Option Opening
opening_of (OpenCircuit c binding service path) = Some (record { binding = binding; service = service; path = path })
opening_of m = None

-- the message comes to this; one out of its place comes to nothing
abbrev pub ComesTo : Known → TheCircuits → LinkId → MonitorMessage → MessageOutcome → Type 0
ComesTo k t l (OpenCircuit c binding service path) heard =
    let o : Opening = record { binding = binding; service = service; path = path } in
    (is_in_place k t l.0 c.0 o ≡ true) × (heard ≡ heard_by binding c (fate k t l.0 o))
ComesTo k t l (CircuitOpened c) heard = (hop : Hop) × IsWaiting t l.0 c.0 hop × (heard ≡ opened_at c hop.binding hop.way)
ComesTo k t l (CircuitRefused c reason) heard =
    (hop : Hop) × IsWaiting t l.0 c.0 hop × (heard ≡ refused_at reason hop.binding hop.way)

abbrev pub IsMisrouted : Known → TheCircuits → LinkId → MonitorMessage → Type 0
IsMisrouted k t l m = (heard : MessageOutcome) → ComesTo k t l m heard → ⊥

-- an opening goes on under the link's next number
abbrev pub GoesOnNext : TheCircuits → MessageOutcome → Type 0
GoesOnNext t (OpeningWentOn binding m n) = next_own t m.0 ≡ Some n.0
GoesOnNext t heard = Unit {0}

-- ---- what is said then

-- the circuit that a message speaks of
abbrev pub circuit_in : MonitorMessage → Circuit
circuit_in (OpenCircuit c binding service path) = c
circuit_in (CircuitOpened c) = c
circuit_in (CircuitRefused c reason) = c

-- the same message of another circuit
abbrev pub with_circuit : Circuit → MonitorMessage → MonitorMessage
with_circuit c (OpenCircuit d binding service path) = OpenCircuit c binding service path
with_circuit c (CircuitOpened d) = CircuitOpened c
with_circuit c (CircuitRefused d reason) = CircuitRefused c reason

-- what went on is said on the next link, under the number there; an opening that ends here is answered where it came from
abbrev pub says : LinkId → MonitorMessage → MessageOutcome → Option LinkMessage
says l m (OpeningWentOn binding n c) = Some (record { link = n; message = with_circuit c m })
says l m (ServerMade binding dispatcher c) = Some (record { link = l; message = CircuitOpened c })
says l m (OpeningFailed binding reason) = Some (record { link = l; message = CircuitRefused (circuit_in m) reason })
says l m (AnswerWentOn binding n c) = Some (record { link = n; message = with_circuit c m })
says l m (EndOpened end c) = None
says l m (EndRefused end reason) = None

-- ---- what becomes of the table

abbrev pub after_opening : TheCircuits → LinkId → Circuit → ℕ → MessageOutcome → TheCircuits
after_opening t l c binding (OpeningWentOn b m n) = passed_on t l c m n binding
after_opening t l c binding (ServerMade b dispatcher d) = arrived t l c binding
after_opening t l c binding heard = after_taking t l.0

-- an answer is noted, or its entry removed, where one stands
abbrev pub after_answer : TheCircuits → LinkId → Circuit → TheCircuits
after_answer t l c = given (hop_at t l.0 c.0) t λ hop. answered t l c hop

abbrev pub after_refusal : TheCircuits → LinkId → Circuit → TheCircuits
after_refusal t l c = given (hop_at t l.0 c.0) t λ hop. without_entry t (Link l c) hop.way

abbrev pub table_after : TheCircuits → LinkId → MonitorMessage → MessageOutcome → TheCircuits
table_after t l (OpenCircuit c binding service path) heard = after_opening t l c binding heard
table_after t l (CircuitOpened c) heard = after_answer t l c
table_after t l (CircuitRefused c reason) heard = after_refusal t l c

-- ---- law

-- a message comes to one thing at most
abbrev pub OneOutcome : Type 0
OneOutcome =
    (k : Known) (t : TheCircuits) (l : LinkId) (m : MonitorMessage) (a b : MessageOutcome) → ComesTo k t l m a → ComesTo k t l m b → a ≡ b
