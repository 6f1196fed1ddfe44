-- One event at a core, with its answer: what a core's log is made of. By each the core and one of its sides go from how they are to how they are
-- then, as the core's own contract says; nothing else changes.
use Rattle.std.specs.Prelude.{ℕ, ◌≡◌, List, slice_get, slice_set, Some, Result, Ok, Err}
use Rattle.std.specs.declared.alloc.AllocError.{AllocError}
use Rattle.fl_base.specs.declared.fragment.Frag.{Frag}
use Rattle.fl_base.specs.declared.identity.EndId.{EndId}
use Rattle.fl_base.specs.declared.identity.LinkId.{LinkId}
use Rattle.fl_base.specs.declared.identity.Circuit.{Circuit}
use Rattle.fl_base.specs.declared.identity.MsgNo.{MsgNo}
use Rattle.fl_compile.specs.declared.program.Program.{Program}
use Rattle.fl_compile.specs.Programs.{program_of}
use Rattle.fl_value_data.specs.Value.{TheCall}
use Rattle.fl_base.specs.Control.{with_circuit, bare}
use Rattle.fl_link.specs.Looks.{Look, placed, no_room, spent, found}
use Rattle.fl_link.specs.Queue.{TheQueue, QueuePuts, QueueTakes}
use Rattle.fl_endpoint.specs.declared.fault.EndFault.{EndFault}
use Rattle.fl_endpoint.specs.declared.answer.WriteAnswer.{WriteAnswer}
use Rattle.fl_endpoint.specs.Events.{Calls, SetsRule}
use Rattle.fl_endpoint.specs.Accounts.{Sound as IsEnd}
use Rattle.fl_hop.specs.Joined.{Sound as IsTable}
use Rattle.fl_hop.specs.declared.forward.ForwardOutcome.{ForwardOutcome}
use Rattle.fl_hop.specs.declared.forward.ForwardOutcome.TheVariants.{Moved, Full, Spent}
use Rattle.fl_core.specs.declared.turn_answer.TurnAnswer.{TurnAnswer}
use Rattle.fl_core.specs.declared.turn_answer.TurnAnswer.TheVariants.{Handle}
use Rattle.fl_core.specs.declared.turn_answer.AckAnswer.{AckAnswer}
use Rattle.fl_core.specs.declared.board_fault.BoardFault.{BoardFault}
use Rattle.fl_core.specs.BoardView.{TheEndAtChannel, due}
use Rattle.fl_core.specs.BoardSound.{IsBoard}
use Rattle.fl_core.specs.BoardEvents.{ChangesEnd, Holds, Acks}
use Rattle.fl_core.specs.BoardTurns.{Turns, over}
use Rattle.fl_core.specs.declared.answer.LinkFront.{LinkFront}
use Rattle.fl_core.specs.declared.answer.MonitorWrite.{MonitorWrite}
use Rattle.fl_core.specs.declared.answer.MonitorAnswer.{MonitorAnswer}
use Rattle.fl_core.specs.declared.answer.MonitorAnswer.TheVariants.{OpeningRefused}
use Rattle.fl_core.specs.declared.fault.LinkReceiveFault.{LinkReceiveFault}
use Rattle.fl_core.specs.declared.fault.OpenFault.{OpenFault}
use Rattle.fl_core.specs.declared.fault.OpenFault.TheVariants.{Monitor}
use Rattle.fl_core.specs.Faults.{open_number}
use Rattle.fl_monitor.specs.declared.fault.MonitorFault.TheVariants.{OutboxFull}
use Rattle.fl_core.specs.declared.wiring.Outlet.{Outlet}
use Rattle.fl_core.specs.declared.wiring.Outlet.TheVariants as outlet
use Rattle.fl_core.specs.declared.wiring.Inlet.{Inlet}
use Rattle.fl_core.specs.declared.wiring.Inlet.TheVariants as inlet
use Rattle.fl_core.specs.View.{TheCore, place_of}
use Rattle.fl_core.specs.Making.{asked, Asks}
use Rattle.fl_core.specs.Sound.{IsCore}
use Rattle.fl_core.specs.Ends.{at_side, OnBoard, OverArrivals, WritesAt}
use Rattle.fl_core.specs.Links.{MonitorWrites, LooksAhead, inbound, ArrivesAt, Acknowledges}
use Rattle.fl_core.specs.Hearing.{HearsFrag, TakesHeard}
use Rattle.fl_core.specs.declared.core_job.OpenRequest.{OpenRequest}
use Rattle.fl_core_run.specs.EndProgress.{advanced, with_handled, with_refusal}
use Rattle.fl_core_run.specs.Run.{SideRelations, TheRun, AtProgress}

pub data LogEntry : Type 0 where
  -- over side n, of a link: what stands first there was looked at
  looked : ℕ → LinkId → Result LinkFront LinkReceiveFault → LogEntry
  -- a fragment was to pass on from one side to another, under a circuit's number there
  passed : ℕ → ℕ → Frag → Circuit → ForwardOutcome → LogEntry
  -- a fragment arrived for an end
  arrived : ℕ → LinkId → Frag → EndId → Result ForwardOutcome LinkReceiveFault → LogEntry
  -- a monitors' message was heard
  heard : ℕ → LinkId → Frag → Result MonitorAnswer LinkReceiveFault → LogEntry
  -- the monitor wrote
  said : ℕ → LinkId → MonitorWrite → LogEntry
  -- what was taken was told
  told : ℕ → LinkId → AckAnswer → LogEntry
  -- a circuit was asked for, for the client's end of this name
  opened : EndId → OpenRequest → Result ℕ OpenFault → LogEntry
  -- at an end, of this name: a call was made; a reply rule was set; a fragment was written, to where the end puts; what was taken was told, over side n
  called : EndId → TheCall → Result (Unit {0}) EndFault → LogEntry
  ruled : EndId → MsgNo → MsgNo → Result (Unit {0}) EndFault → LogEntry
  wrote : EndId → Outlet → Result WriteAnswer EndFault → LogEntry
  acked : EndId → ℕ → Result AckAnswer BoardFault → LogEntry
  -- a dispatcher had a turn, at the end that was due, over where that end takes from
  turned : ℕ → EndId → Inlet → TurnAnswer → LogEntry

-- ---- where an event happens

-- at the core and side n of a ring
pub record OnRing {S : Type 0} (n : ℕ) (s : TheRun S) (Event : TheCore → S → TheCore → S → Type 0) (t : TheRun S) : Type 0 where
  pub before : S
  pub before_is : slice_get s.rings n ≡ Some before
  pub after : S
  pub event : Event s.core before t.core after
  pub rest : t ≡ record s { core = t.core; rings = slice_set s.rings n after }

-- at the core and queue n
pub record OnQueue {S : Type 0} (n : ℕ) (s : TheRun S) (Event : TheCore → TheQueue → TheCore → TheQueue → Type 0) (t : TheRun S) : Type 0 where
  pub before : TheQueue
  pub before_is : slice_get s.queues n ≡ Some before
  pub after : TheQueue
  pub event : Event s.core before t.core after
  pub rest : t ≡ record s { core = t.core; queues = slice_set s.queues n after }

-- at the core alone
pub record OnCore {S : Type 0} (s : TheRun S) (Event : TheCore → TheCore → Type 0) (t : TheRun S) : Type 0 where
  pub event : Event s.core t.core
  pub rest : t ≡ record s { core = t.core }

-- the end of this name is at place e
abbrev pub IsAt : {S : Type 0} → TheRun S → EndId → ℕ → Type 0
IsAt s name e = place_of s.core name ≡ Some e

-- ---- parts of events

-- a put at side n alone, and a take there
abbrev pub PutsAt : {S : Type 0} → SideRelations S → ℕ → Look → TheRun S → TheRun S → Type 0
PutsAt w n look s t = OnRing n s (λ k p k2 q. w.puts p look q × (k2 ≡ k)) t

abbrev pub TakesAt : {S : Type 0} → SideRelations S → ℕ → Look → TheRun S → TheRun S → Type 0
TakesAt w n look s t = OnRing n s (λ k p k2 q. w.takes p look q × (k2 ≡ k)) t

-- a fragment that is to pass on, from one side to another, with a circuit's number
pub record HopOfFrag : Type 0 where
  pub from : ℕ
  pub onto : ℕ
  pub frag : Frag
  pub circuit : Circuit

abbrev pub passing : ℕ → ℕ → Frag → Circuit → HopOfFrag
passing from onto frag c = record { from = from; onto = onto; frag = frag; circuit = c }

-- where there is no room it is left
abbrev pub PassesOn : {S : Type 0} → SideRelations S → HopOfFrag → ForwardOutcome → TheRun S → TheRun S → Type 0
PassesOn {S} w x Moved s t =
    (mid : TheRun S) × PutsAt w x.onto (placed (bare (with_circuit x.circuit.0 x.frag))) s mid × TakesAt w x.from (found (bare x.frag)) mid t
PassesOn w x Full s t = PutsAt w x.onto no_room s t
PassesOn w x Spent s t = PutsAt w x.onto spent s t

-- a copy of the program at a place
pub record IsCopyOf (programs : List Program) (n : ℕ) (program : Program) : Type 0 where
  pub source : Program
  pub source_is : slice_get programs n ≡ Some source
  pub same : program_of program ≡ program_of source

-- a circuit is asked for, for an end that has a copy of the program that is requested
pub record AsksFor (programs : List Program) (request : OpenRequest) (k : TheCore) (answer : Result ℕ OpenFault) (k2 : TheCore) : Type 0 where
  pub program : Program
  pub copy : IsCopyOf programs request.interface program
  pub asks : Asks (asked request.dispatcher program request.link request.opening) k answer k2

-- a dispatcher's turn: at the end at a place, and with what answer
pub record DispatcherTurn : Type 0 where
  pub dispatcher : ℕ
  pub end : ℕ
  pub answer : Result TurnAnswer AllocError

abbrev pub dispatcher_turn : ℕ → ℕ → Result TurnAnswer AllocError → DispatcherTurn
dispatcher_turn d e answer = record { dispatcher = d; end = e; answer = answer }

-- over where its end takes from
abbrev pub TurnsOver : {S : Type 0} → SideRelations S → DispatcherTurn → Inlet → TheRun S → TheRun S → Type 0
TurnsOver w x (inlet.Queue n) s t =
    OnQueue n s (λ k p k2 q. OnBoard k (λ b c. Turns QueueTakes x.dispatcher x.end (over b p) x.answer (over c q)) k2) t
TurnsOver w x (inlet.Side n) s t =
    OnRing n s (λ k p k2 q. OnBoard k (λ b c. Turns w.takes x.dispatcher x.end (over b p) x.answer (over c q)) k2) t
TurnsOver w x inlet.Arrivals s t =
    OnCore s (λ k k2. OverArrivals k x.end (λ b p c q. Turns QueueTakes x.dispatcher x.end (over b p) x.answer (over c q)) k2) t

-- a write of the end at place e
abbrev pub WritesOver : {S : Type 0} → SideRelations S → ℕ → Outlet → Result WriteAnswer EndFault → TheRun S → TheRun S → Type 0
WritesOver w e (outlet.Queue n) answer s t = OnQueue n s (λ k p k2 q. WritesAt QueuePuts e (at_side k p) answer (at_side k2 q)) t
WritesOver w e (outlet.Side n) answer s t = OnRing n s (λ k p k2 q. WritesAt w.puts e (at_side k p) answer (at_side k2 q)) t

-- ---- one event: of what does it, and of the ends' progress

abbrev pub Does : {S : Type 0} → SideRelations S → LogEntry → TheRun S → TheRun S → Type 0
Does w (looked n l answer) s t = OnRing n s (λ k p k2 q. LooksAhead w.takes w.front l.0 (at_side k p) answer (at_side k2 q)) t
Does w (passed n m frag c outcome) s t = PassesOn w (passing n m frag c) outcome s t
Does w (arrived n l frag e answer) s t = OnRing n s (λ k p k2 q. ArrivesAt w.takes (inbound l.0 frag e) (at_side k p) answer (at_side k2 q)) t
Does w (heard n l frag answer) s t = OnRing n s (λ k p k2 q. HearsFrag s.offers l frag k answer k2 × TakesHeard w.takes frag p answer q) t
Does w (said n l answer) s t = OnRing n s (λ k p k2 q. MonitorWrites w.puts l.0 (at_side k p) answer (at_side k2 q)) t
Does w (told n l answer) s t = OnRing n s (λ k p k2 q. Acknowledges w.takes p answer q × (k2 ≡ k)) t
Does w (opened name request answer) s t = OnCore s (λ k k2. AsksFor s.offers.programs request k answer k2) t
Does w (called name c answer) s t =
    (e : ℕ) × IsAt s name e × OnCore s (λ k k2. OnBoard k (λ b b2. ChangesEnd b e (λ x y. Calls x c answer y) b2) k2) t
Does w (ruled name msg reply answer) s t =
    (e : ℕ) × IsAt s name e × OnCore s (λ k k2. OnBoard k (λ b b2. ChangesEnd b e (λ x y. SetsRule x msg.0 reply.0 answer y) b2) k2) t
Does w (wrote name out answer) s t = (e : ℕ) × IsAt s name e × WritesOver w e out answer s t
Does w (acked name n answer) s t =
    (e : ℕ) × IsAt s name e × OnRing n s (λ k p k2 q. Holds k.board e (λ x. Acks w.takes x.kind x.end p answer q) × (k2 ≡ k)) t
Does w (turned d name from answer) s t =
    (e : ℕ) × IsAt s name e × (due s.core.board d ≡ Some e) × TurnsOver w (dispatcher_turn d e (Ok answer)) from s t

-- what is noted at the end's progress of the client's end: that its opening is refused
abbrev pub NotesHeard : {S : Type 0} → Result MonitorAnswer LinkReceiveFault → TheRun S → TheRun S → Type 0
NotesHeard (Ok (OpeningRefused e reason)) s t = AtProgress e (with_refusal reason) s t
NotesHeard answer s t = t ≡ s

-- that a circuit was asked for; one that was refused here is asked for no more, and where the outbox is full the job waits
abbrev pub NotesOpened : {S : Type 0} → EndId → Result ℕ OpenFault → TheRun S → TheRun S → Type 0
NotesOpened name (Ok e) s t = AtProgress name advanced s t
NotesOpened name (Err (Monitor OutboxFull)) s t = t ≡ s
NotesOpened name (Err fault) s t = AtProgress name (λ d. advanced (with_refusal (open_number fault) d)) s t

-- that a call was made; one that was refused waits
abbrev pub NotesCalled : {S : Type 0} → EndId → Result (Unit {0}) EndFault → TheRun S → TheRun S → Type 0
NotesCalled name (Ok done) s t = AtProgress name advanced s t
NotesCalled name (Err fault) s t = t ≡ s

-- that a call was handled
abbrev pub NotesTurned : {S : Type 0} → EndId → TurnAnswer → TheRun S → TheRun S → Type 0
NotesTurned name (Handle call) s t = AtProgress name (with_handled call) s t
NotesTurned name answer s t = t ≡ s

abbrev pub Notes : {S : Type 0} → LogEntry → TheRun S → TheRun S → Type 0
Notes (heard n l frag answer) s t = NotesHeard answer s t
Notes (opened name request answer) s t = NotesOpened name answer s t
Notes (called name c answer) s t = NotesCalled name answer s t
-- a rule is no more a job once it was tried
Notes (ruled name msg reply answer) s t = AtProgress name advanced s t
Notes (turned d name from answer) s t = NotesTurned name answer s t
Notes log_entry s t = t ≡ s

-- what is known of a core at any moment
pub record IsSound (k : TheCore) : Type 0 where
  pub core : IsCore k
  pub board : IsBoard k.board
  pub table : IsTable k.monitor.circuits

-- the end of this name is sound, where it is at the core
abbrev pub IsSoundAt : {S : Type 0} → TheRun S → EndId → Type 0
IsSoundAt s name = (e : ℕ) (seat : TheEndAtChannel) → place_of s.core name ≡ Some e → slice_get s.core.board.seats e ≡ Some seat → IsEnd seat.end

-- and of the end at which it happens
abbrev pub ActsSoundly : {S : Type 0} → LogEntry → TheRun S → Type 0
ActsSoundly (called name c answer) s = IsSoundAt s name
ActsSoundly (ruled name msg reply answer) s = IsSoundAt s name
ActsSoundly (wrote name out answer) s = IsSoundAt s name
ActsSoundly (turned d name from answer) s = IsSoundAt s name
ActsSoundly log_entry s = Unit {0}

-- it is done, by a core, sides and an end of which that is known, and noted
abbrev pub Happens : {S : Type 0} → SideRelations S → LogEntry → TheRun S → TheRun S → Type 0
Happens {S} w log_entry s t = (m : TheRun S) × Does w log_entry s m × Notes log_entry m t × IsSound s.core × ActsSoundly log_entry s × w.whole s.rings
