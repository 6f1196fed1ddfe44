-- A working file, on which no public promise rests by itself.
use Rattle.std.specs.Prelude.{◌≡◌, ℕ, List, Option, Some, None, Result, Ok, Err}
use Rattle.fl_base.specs.declared.identity.LinkId.{LinkId}
use Rattle.fl_base.specs.declared.identity.Circuit.{Circuit}
use Rattle.fl_compile.specs.declared.program.Program.{Program}
use Rattle.fl_compile.specs.Programs.{TheProgram, program_of}
use Rattle.fl_endpoint.specs.View.{fresh}
use Rattle.fl_core.specs.declared.kind.ChannelKind.TheVariants.{Queue}
use Rattle.fl_core.specs.BoardView.{TheBoard}
use Rattle.fl_core.specs.BoardEvents.{Adds}
use Rattle.fl_hop.specs.Table.{TheCircuits}
use Rattle.fl_monitor.specs.declared.message.MonitorMessage.{MonitorMessage}
use Rattle.fl_monitor.specs.declared.heard.MessageOutcome.{MessageOutcome}
use Rattle.fl_monitor.specs.declared.heard.MessageOutcome.TheVariants as heard
use Rattle.fl_monitor.specs.declared.fault.MonitorFault.{MonitorFault}
use Rattle.fl_monitor.specs.declared.fault.MonitorFault.TheVariants.{Memory, Misrouted as OutOfPlace, OutboxFull}
use Rattle.fl_monitor.specs.Fates.{Known}
use Rattle.fl_monitor.specs.Hearing.{ComesTo}
use Rattle.fl_monitor.specs.Monitors.{TheMonitor, Hears}
use Rattle.fl_core.specs.declared.wiring.LinkSide.{LinkSide}
use Rattle.fl_core.specs.declared.answer.MonitorAnswer.{MonitorAnswer}
use Rattle.fl_core.specs.declared.answer.MonitorAnswer.TheVariants.{Full}
use Rattle.fl_core.specs.View.{failed_at}
use Rattle.fl_core.specs.declared.hearing.MadeServer.{MadeServer}
use Rattle.fl_core.specs.declared.hearing.JoinedServer.{JoinedServer}
use Rattle.fl_hop.specs.declared.fault.HopFault.{HopFault}
use Rattle.fl_hop.specs.declared.fault.HopFault.TheVariants as hop
use Rattle.fl_core.specs.declared.fault.LinkReceiveFault.{LinkReceiveFault}
use Rattle.fl_core.specs.declared.fault.LinkReceiveFault.TheVariants.{Marked, Misrouted, Memory as NoMemory}

-- why a look fails, and what is answered then
abbrev pub FailsFor : HopFault → LinkReceiveFault → Type 0
FailsFor hop.Marked fault = fault ≡ Marked
FailsFor hop.Misrouted fault = fault ≡ Misrouted
FailsFor other fault = Unit {0}

-- ---- the parts of hearing a message

-- the server's end that a message makes, if it makes one
abbrev pub server_in : MessageOutcome → Option MadeServer
server_in (heard.ServerMade binding dispatcher c) = Some (record { binding = binding; dispatcher = dispatcher; circuit = c })
server_in (heard.OpeningWentOn binding n c) = None
server_in (heard.OpeningFailed binding reason) = None
server_in (heard.AnswerWentOn binding n c) = None
server_in (heard.EndOpened e c) = None
server_in (heard.EndRefused e reason) = None

-- wherever the message makes a server's end, it is at this dispatcher and on this circuit
abbrev pub LeadsTo : Known → TheCircuits → LinkId → MonitorMessage → ℕ → Circuit → Type 0
LeadsTo k t l m dispatcher c = (h : MessageOutcome) (made : MadeServer) → ComesTo k t l m h → server_in h ≡ Some made
    → (made.dispatcher ≡ dispatcher) × (made.circuit ≡ c)

-- the board with the end that was made, which has a copy of the program; or as it was
abbrev pub EndFor : TheProgram → ℕ → Option MadeServer → TheBoard → TheBoard → Type 0
EndFor source place None b b2 = b2 ≡ b
EndFor source place (Some made) b b2 =
    (program : Program) × (program_of program ≡ source) × Adds b made.dispatcher (fresh program (Some made.circuit.0)) Queue (Ok place) b2

-- a message for which an end is ready: what is known, the link that it came over, itself, and the end's program
pub record ForMessage : Type 0 where
  pub known : Known
  pub link : LinkId
  pub message : MonitorMessage
  pub program : TheProgram

abbrev pub for_message : Known → LinkId → MonitorMessage → TheProgram → ForMessage
for_message known l m program = record { known = known; link = l; message = m; program = program }

-- the parts of a core by which it hears: its board and its monitor
pub record CoreParts : Type 0 where
  pub board : TheBoard
  pub monitor : TheMonitor

abbrev pub core_parts : TheBoard → TheMonitor → CoreParts
core_parts b n = record { board = b; monitor = n }

-- the message is heard while the end is ready
abbrev pub HearsWith : ForMessage → CoreParts → Result JoinedServer MonitorFault → CoreParts → Type 0
HearsWith x a (Ok j) b =
    Hears x.known x.link x.message a.monitor (Ok j.heard) b.monitor × EndFor x.program j.place (server_in j.heard) a.board b.board
HearsWith x a (Err Memory) b = (b.board ≡ a.board) × (b.monitor ≡ a.monitor)
HearsWith x a (Err fault) b =
    Hears x.known x.link x.message a.monitor (Err fault) a.monitor × (b.board ≡ a.board) × (b.monitor ≡ a.monitor)

-- why a message wasn't heard, and what is answered then; what comes there has failed where the message was out of place
abbrev pub Unheard : LinkId → MonitorFault → List LinkSide → Result MonitorAnswer LinkReceiveFault → List LinkSide → Type 0
Unheard l OutOfPlace link_sides answer lanes2 = (answer ≡ Err Misrouted) × (lanes2 ≡ failed_at link_sides l.0)
Unheard l OutboxFull link_sides answer lanes2 = (answer ≡ Ok Full) × (lanes2 ≡ link_sides)
Unheard l fault link_sides answer lanes2 = (answer ≡ Err NoMemory) × (lanes2 ≡ link_sides)

-- the faults that a message that is heard may have
abbrev pub MayRefuse : MonitorFault → Type 0
MayRefuse OutOfPlace = Unit {0}
MayRefuse OutboxFull = Unit {0}
MayRefuse Memory = Unit {0}
MayRefuse fault = ⊥
