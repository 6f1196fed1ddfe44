-- What it comes to, by where the end is, that a dispatcher has a turn, and that an end acknowledges, registers or
-- deregisters its channel, or gets a reply rule.
use Rattle.std.specs.Prelude.{ℕ, ◌≡◌, ◌⊎◌, not, slice_get, Option, Some, None, IsSome, Result, Ok, Err}
use Rattle.fl_base.specs.declared.identity.EndId.{EndId}
use Rattle.fl_base.specs.Given.{given}
use Rattle.fl_value_data.specs.Value.{call_of}
use Rattle.fl_link.specs.Looks.{Look}
use Rattle.fl_link.specs.Queue.{QueueTakes}
use Rattle.fl_ring.specs.Side.{SideTakes}
use Rattle.fl_ring.specs.declared.duo_side.DuoSide.{DuoSide}
use Rattle.fl_endpoint.specs.declared.fault.EndFault.{EndFault}
use Rattle.fl_endpoint.specs.Accounts.{Sound}
use Rattle.fl_endpoint.specs.Faults.{fault_number}
use Rattle.fl_endpoint.specs.Events.{SetsRule, IsUnbound}
use Rattle.fl_endpoint.specs.View.{TheEnd}
use Rattle.fl_core.specs.declared.turn_answer.AckAnswer.{AckAnswer}
use Rattle.fl_core.specs.declared.turn_answer.AckAnswer.TheVariants as ack
use Rattle.fl_core.specs.declared.turn_answer.TurnAnswer.{TurnAnswer}
use Rattle.fl_core.specs.declared.turn_answer.TurnAnswer.TheVariants as turn
use Rattle.fl_core.specs.declared.board_fault.BoardFault.{BoardFault}
use Rattle.fl_core.specs.BoardFaults.{fault_number as board_number}
use Rattle.fl_core.specs.BoardView.{due}
use Rattle.fl_core.specs.BoardEvents.{ChangesEnd, ChangesLists, Holds, Deregisters, Acks}
use Rattle.fl_core.specs.BoardTurns.{Turns, over}
use Rattle.fl_wire.specs.Fault.{number_of as wiring_number}
use Rattle.fl_core.specs.declared.wiring.Inlet.{Inlet}
use Rattle.fl_core.specs.declared.wiring.Inlet.TheVariants as inlet
use Rattle.fl_core.specs.View.{TheCore, place_of, inlet_of}
use Rattle.fl_core.specs.Ends.{OnBoard, OverArrivals, RegistersAt}
use Rattle.fl_model.specs.Events.{DispatcherId, Answer, done, nothing, full, handle, part, ready, quiet, refused}
use Rattle.fl_world_refines.specs.View.{Given, If, TheWorld, has_dispatcher, ring_at, WhereEnd, nowhere, unmade, made, location_of}
use Rattle.fl_world_refines.specs.Lending.{AnswerAt, answer_at, Refuses, DoesNothing, AtCore, OverQueue, OverSide, AtUnmade, KeepsNone, IsStray}

-- ---- a turn

-- what is answered of the end of this name
abbrev pub turn_answer : EndId → TurnAnswer → Answer
turn_answer e (turn.Handle call) = handle e (call_of call)
turn_answer e turn.Part = part e
turn_answer e turn.Ready = ready e
turn_answer e turn.Quiet = quiet e
turn_answer e turn.Full = full
turn_answer e turn.Nothing = nothing
turn_answer e (turn.Refused fault) = refused (wiring_number fault)

-- the end that is due at a dispatcher: its place, its name, and where it takes from
pub record IsDue (w : TheWorld) (d : DispatcherId) (e : ℕ) (name : EndId) (i : Inlet) : Type 0 where
  pub core : TheCore
  pub core_is : slice_get w.cores d.core ≡ Some core
  pub due_is : due core.board d.place ≡ Some e
  pub name_is : place_of core name ≡ Some e
  pub inlet_is : inlet_of core e ≡ Some i

-- a turn: its dispatcher and its end, by their places at their core, the end's name, and what is answered
pub record Turn : Type 0 where
  pub dispatcher : ℕ
  pub end : ℕ
  pub name : EndId
  pub answer : Answer

abbrev pub as_turn : ℕ → ℕ → EndId → Answer → Turn
as_turn n e name a = record { dispatcher = n; end = e; name = name; answer = a }

-- the turn at its core, over the queue or side that is lent, where the end that is due was sound
abbrev pub TurnsWith : {T : Type 0} → (T → Look → T → Type 0) → Turn → TheCore → T → TheCore → T → Type 0
TurnsWith takes x k p k2 q =
    (r : TurnAnswer) × Holds k.board x.end (λ s. Sound s.end)
    × OnBoard k (λ b c. Turns takes x.dispatcher x.end (over b p) (Ok r) (over c q)) k2 × (x.answer ≡ turn_answer x.name r)

-- the same over the end's own arrival queue, which its core keeps
abbrev pub TurnsArrivals : Turn → TheCore → TheCore → Type 0
TurnsArrivals x k k2 =
    (r : TurnAnswer) × Holds k.board x.end (λ s. Sound s.end)
    × OverArrivals k x.end (λ b p c q. Turns QueueTakes x.dispatcher x.end (over b p) (Ok r) (over c q)) k2
    × (x.answer ≡ turn_answer x.name r)

-- a turn at core n, by where its end takes from
abbrev pub TurnsOver : Inlet → ℕ → Turn → TheWorld → TheWorld → Type 0
TurnsOver (inlet.Queue q) n x w w2 = OverQueue w n q (TurnsWith QueueTakes x) w2 ⊎ IsStray w.queues q w x.answer w2
TurnsOver (inlet.Side m) n x w w2 = OverSide w n m (TurnsWith SideTakes x) w2 ⊎ IsStray w.rings (ring_at m) w x.answer w2
TurnsOver inlet.Arrivals n x w w2 = AtCore w n (TurnsArrivals x) w2

-- the end that is due at a dispatcher has the turn
abbrev pub TurnsAt : DispatcherId → ℕ → TheWorld → Answer → TheWorld → Type 0
TurnsAt d e w a w2 = (name : EndId) × (i : Inlet) × IsDue w d e name i × TurnsOver i d.core (as_turn d.place e name a) w w2

-- the end that is due at a dispatcher, by its place on the core's board
abbrev pub due_at : TheWorld → DispatcherId → Option ℕ
due_at w d = given (slice_get w.cores d.core) None λ k. due k.board d.place

-- refused where there is no such dispatcher; there is nothing to do where no end is due
abbrev pub HasTurn : DispatcherId → TheWorld → Answer → TheWorld → Type 0
HasTurn d w a w2 =
    If (not (has_dispatcher w d)) (Refuses 92 w a w2)
    (Given (due_at w d) (DoesNothing w a w2) λ e. TurnsAt d e w a w2)

-- ---- an end acknowledges

-- all is told, there is too little to tell, there is no room to tell it, or it is refused
abbrev pub IsAcked : Result AckAnswer BoardFault → Answer → Type 0
IsAcked (Ok ack.Done) a = a ≡ done
IsAcked (Ok ack.Nothing) a = a ≡ nothing
IsAcked (Ok ack.Full) a = a ≡ full
IsAcked (Err fault) a = a ≡ refused (board_number fault)

-- the end at a place tells over its side of a ring, which alone may change
abbrev pub AcksWith : AnswerAt → TheCore → DuoSide → TheCore → DuoSide → Type 0
AcksWith at k p k2 q =
    (r : Result AckAnswer BoardFault) × Holds k.board at.place (λ s. Acks SideTakes s.kind s.end p r q) × (k2 ≡ k) × IsAcked r at.answer

-- where it takes from a queue it has nothing to tell
abbrev pub TellsNothing : TheEnd → Answer → Type 0
TellsNothing s a = (IsUnbound s × (a ≡ refused 43)) ⊎ (IsSome s.circuit × (a ≡ nothing))

-- the core is there, and where the end takes from
pub record HasInlet (w : TheWorld) (n place : ℕ) (i : Inlet) : Type 0 where
  pub core : TheCore
  pub core_is : slice_get w.cores n ≡ Some core
  pub inlet_is : inlet_of core place ≡ Some i

-- at core n, which is k
abbrev pub AcksOver : Inlet → TheCore → ℕ → AnswerAt → TheWorld → TheWorld → Type 0
AcksOver (inlet.Side m) k n at w w2 = OverSide w n m (AcksWith at) w2 ⊎ IsStray w.rings (ring_at m) w at.answer w2
AcksOver (inlet.Queue q) k n at w w2 = Holds k.board at.place (λ s. TellsNothing s.end at.answer) × (w2 ≡ w)
AcksOver inlet.Arrivals k n at w w2 = Holds k.board at.place (λ s. TellsNothing s.end at.answer) × (w2 ≡ w)

-- by where the end is; one that isn't made is refused as not bound
abbrev pub AcksAt : WhereEnd → TheWorld → Answer → TheWorld → Type 0
AcksAt nowhere w a w2 = Refuses 92 w a w2
AcksAt unmade w a w2 = Refuses 43 w a w2
AcksAt (made n place) w a w2 = (i : Inlet) × ((h : HasInlet w n place i) × AcksOver i h.core n (answer_at place a) w w2)

abbrev pub Acknowledges : EndId → TheWorld → Answer → TheWorld → Type 0
Acknowledges e w a w2 = AcksAt (location_of w e) w a w2

-- ---- a channel is registered, or deregistered

-- a channel was registered or deregistered, or that was refused
abbrev pub IsRegistered : Result (Unit {0}) BoardFault → Answer → Type 0
IsRegistered (Ok unit) a = a ≡ done
IsRegistered (Err fault) a = a ≡ refused (board_number fault)

-- unless refused, the channel joins a list: by what stands in the queue that is lent, or polled on a ring
abbrev pub RegistersWith : {T : Type 0} → (T → Look → T → Type 0) → AnswerAt → TheCore → T → TheCore → T → Type 0
RegistersWith takes at k p k2 q =
    (r : Result (Unit {0}) BoardFault) × OnBoard k (λ b c. RegistersAt takes at.place (over b p) r (over c q)) k2 × IsRegistered r at.answer

-- the same by what stands in the end's own arrival queue, which its core keeps
abbrev pub RegistersArrivals : AnswerAt → TheCore → TheCore → Type 0
RegistersArrivals at k k2 =
    (r : Result (Unit {0}) BoardFault)
    × OverArrivals k at.place (λ b p c q. RegistersAt QueueTakes at.place (over b p) r (over c q)) k2 × IsRegistered r at.answer

-- at core n, by where the end at this place takes from
abbrev pub RegistersOver : Inlet → ℕ → ℕ → TheWorld → Answer → TheWorld → Type 0
RegistersOver (inlet.Queue q) n place w a w2 = OverQueue w n q (RegistersWith QueueTakes (answer_at place a)) w2 ⊎ IsStray w.queues q w a w2
RegistersOver (inlet.Side m) n place w a w2 = OverSide w n m (RegistersWith SideTakes (answer_at place a)) w2 ⊎ IsStray w.rings (ring_at m) w a w2
RegistersOver inlet.Arrivals n place w a w2 = AtCore w n (RegistersArrivals (answer_at place a)) w2

-- by where the end is; one that isn't made is refused as not bound
abbrev pub RegistersBy : WhereEnd → TheWorld → Answer → TheWorld → Type 0
RegistersBy nowhere w a w2 = Refuses 92 w a w2
RegistersBy unmade w a w2 = Refuses 43 w a w2
RegistersBy (made n place) w a w2 = (i : Inlet) × HasInlet w n place i × RegistersOver i n place w a w2

abbrev pub RegistersChannel : EndId → TheWorld → Answer → TheWorld → Type 0
RegistersChannel e w a w2 = RegistersBy (location_of w e) w a w2

-- unless refused, the channel leaves its dispatcher's lists; no queue or side is lent for that
abbrev pub DeregistersIn : AnswerAt → TheCore → TheCore → Type 0
DeregistersIn at k k2 =
    (r : Result (Unit {0}) BoardFault)
    × OnBoard k (λ b c. ChangesLists b at.place (λ s w v. Deregisters s w r v) c) k2 × IsRegistered r at.answer

abbrev pub DeregistersBy : WhereEnd → TheWorld → Answer → TheWorld → Type 0
DeregistersBy nowhere w a w2 = Refuses 92 w a w2
DeregistersBy unmade w a w2 = Refuses 43 w a w2
DeregistersBy (made n place) w a w2 = AtCore w n (DeregistersIn (answer_at place a)) w2

abbrev pub DeregistersChannel : EndId → TheWorld → Answer → TheWorld → Type 0
DeregistersChannel e w a w2 = DeregistersBy (location_of w e) w a w2

-- ---- a reply rule

-- the rule is set, or the end refuses it
abbrev pub IsRuled : Result (Unit {0}) EndFault → Answer → Type 0
IsRuled (Ok unit) a = a ≡ done
IsRuled (Err fault) a = a ≡ refused (fault_number fault)

-- at this end a message is answered by this reply
pub record ReplyRule : Type 0 where
  pub end : EndId
  pub message : ℕ
  pub reply : ℕ

abbrev pub reply_rule : EndId → ℕ → ℕ → ReplyRule
reply_rule e msg reply = record { end = e; message = msg; reply = reply }

-- by where the end is; for one that isn't made yet the rule is set where its binding keeps it
abbrev pub RulesAt : WhereEnd → ReplyRule → TheWorld → Answer → TheWorld → Type 0
RulesAt nowhere x w a w2 = Refuses 92 w a w2
RulesAt unmade x w a w2 =
    (AtUnmade w x.end.binding (λ s t. (r : Result (Unit {0}) EndFault) × SetsRule s x.message x.reply r t × IsRuled r a) w2)
    ⊎ (KeepsNone w x.end.binding × Refuses 92 w a w2)
RulesAt (made n place) x w a w2 =
    AtCore w n (λ k k2. (r : Result (Unit {0}) EndFault)
    × OnBoard k (λ b c. ChangesEnd b place (λ s t. SetsRule s x.message x.reply r t) c) k2 × IsRuled r a) w2

abbrev pub SetsReply : EndId → ℕ → ℕ → TheWorld → Answer → TheWorld → Type 0
SetsReply e msg reply w a w2 = RulesAt (location_of w e) (reply_rule e msg reply) w a w2
