-- What an entry's own relation says of the side that is lent: its core noted simple actions by it.
use Rattle.std.proofs.Common.{ℕ, ◌≡◌, ⊎_elim, Result, Ok, Err, subst, sym}
use Rattle.fl_base.specs.declared.fragment.Frag.{Frag}
use Rattle.fl_link.specs.Looks.{Look, no_room, spent, saw, saw_ack, found, found_ack, missed, told, kept}
use Rattle.fl_lists.specs.declared.place.Place.{Place}
use Rattle.fl_lists.specs.declared.place.Place.TheVariants as place
use Rattle.fl_waitset.specs.declared.waitset.Pick.{Pick}
use Rattle.fl_waitset.specs.declared.waitset.Pick.TheVariants as pick
use Rattle.fl_hop.specs.declared.forward.ForwardOutcome.{ForwardOutcome}
use Rattle.fl_hop.specs.declared.forward.ForwardOutcome.TheVariants as outcome
use Rattle.fl_hop.specs.Forward.{Leaves}
use Rattle.fl_endpoint.specs.declared.fault.EndFault.{EndFault}
use Rattle.fl_endpoint.specs.declared.fault.EndFault.TheVariants as fault
use Rattle.fl_endpoint.specs.declared.answer.WriteAnswer.{WriteAnswer}
use Rattle.fl_endpoint.specs.declared.answer.WriteAnswer.TheVariants as wrote
use Rattle.fl_endpoint.specs.declared.answer.ReceiveAnswer.{ReceiveAnswer}
use Rattle.fl_endpoint.specs.declared.answer.ReceiveAnswer.TheVariants as receive
use Rattle.fl_endpoint.specs.View.{TheEnd}
use Rattle.fl_endpoint.specs.Events.{Writes, Receives, Takes}
use Rattle.fl_core.specs.declared.kind.ChannelKind.{ChannelKind}
use Rattle.fl_core.specs.declared.kind.ChannelKind.TheVariants.{Queue, Ring}
use Rattle.fl_core.specs.declared.turn_answer.TurnAnswer.{TurnAnswer}
use Rattle.fl_core.specs.declared.turn_answer.TurnAnswer.TheVariants as turn
use Rattle.fl_core.specs.declared.turn_answer.AckAnswer.{AckAnswer}
use Rattle.fl_core.specs.declared.turn_answer.AckAnswer.TheVariants as ack
use Rattle.fl_core.specs.declared.board_fault.BoardFault.{BoardFault}
use Rattle.fl_core.specs.declared.board_fault.BoardFault.TheVariants as board
use Rattle.fl_core.specs.declared.answer.MonitorWrite.{MonitorWrite}
use Rattle.fl_core.specs.declared.answer.MonitorWrite.TheVariants as write
use Rattle.fl_core.specs.declared.answer.MonitorAnswer.{MonitorAnswer}
use Rattle.fl_core.specs.declared.answer.MonitorAnswer.TheVariants as answered
use Rattle.fl_core.specs.declared.answer.LinkFront.{LinkFront}
use Rattle.fl_core.specs.declared.answer.LinkFront.TheVariants.{Nothing, Acknowledged, Message, Onward, Arrival}
use Rattle.fl_core.specs.declared.fault.LinkReceiveFault.{LinkReceiveFault}
use Rattle.fl_core.specs.declared.fault.LinkReceiveFault.TheVariants as link
use Rattle.fl_core.specs.Ends.{AtSide, WritesAt}
use Rattle.fl_core.specs.BoardEvents.{Acks}
use Rattle.fl_core.specs.BoardTurns.{WaitsIn, EndMoment, TakesOne, Gives, ListsAndSide, lent, Examines, LooksAt}
use Rattle.fl_core.specs.Links.{MonitorWrites, LooksAhead, Inbound, ArrivesAt, Acknowledges}
use Rattle.fl_core.specs.Hearing.{TakesHeard}
use Rattle.fl_history_sides.specs.States.{TheHistorySide}
use Rattle.fl_history_sides.specs.Noted.{HistoryPuts, HistoryTakes, front_of}
use Rattle.fl_history_entries.proofs.Noting.{GrewSimply, noted, noted_waiting, still, waiting_simply, waiting_then}

-- one step, and one that sees or takes a fragment
put_once : (p : TheHistorySide) (look : Look) (q : TheHistorySide) → HistoryPuts p look q → GrewSimply p q
put_once p look q puts = noted p look q puts.1

take_once : (p : TheHistorySide) (look : Look) (q : TheHistorySide) → HistoryTakes p look q → GrewSimply p q
take_once p look q takes = noted p look q takes.1

acknowledged : (p m q : TheHistorySide) → HistoryTakes p saw_ack m → HistoryTakes m found_ack q → GrewSimply p q
acknowledged p m q one two = waiting_simply p q (waiting_then p m q (noted_waiting p saw_ack m tt one.1) (noted_waiting m found_ack q tt two.1))

-- ---- links

pub looks_ahead : (l : ℕ) (a : AtSide TheHistorySide) (answer : Result LinkFront LinkReceiveFault) (b : AtSide TheHistorySide)
    → LooksAhead HistoryTakes front_of l a answer b → GrewSimply a.side b.side
looks_ahead l a (Ok Nothing) b looks = take_once a.side missed b.side looks.0.finds
looks_ahead l a (Ok Acknowledged) b looks = let finds = looks.0.finds in acknowledged a.side finds.0 b.side finds.1 finds.2
looks_ahead l a (Ok (Message frag)) b looks = take_once a.side _ b.side looks.0.finds.0
looks_ahead l a (Ok (Onward frag side circuit)) b looks = take_once a.side _ b.side looks.0.seen.finds.0
looks_ahead l a (Ok (Arrival frag e)) b looks = take_once a.side _ b.side looks.0.finds.0
looks_ahead l a (Err link.Failed) b looks = still a.side b.side looks.2
looks_ahead l a (Err link.Misrouted) b looks = take_once a.side _ b.side looks.0.finds.1
looks_ahead l a (Err link.Marked) b looks = take_once a.side _ b.side looks.0.finds.2
looks_ahead l a (Err (link.Wire f)) b looks = absurd looks
looks_ahead l a (Err link.Memory) b looks = absurd looks

leaves : (outcome : ForwardOutcome) (frag : Frag) (p q : TheHistorySide) → Leaves HistoryTakes outcome frag (record { before = p; after = q }) → GrewSimply p q
leaves outcome.Moved frag p q left = take_once p (found frag) q left
leaves outcome.Full frag p q left = still p q left
leaves outcome.Spent frag p q left = still p q left

pub arrives : (x : Inbound) (a : AtSide TheHistorySide) (answer : Result ForwardOutcome LinkReceiveFault) (b : AtSide TheHistorySide)
    → ArrivesAt HistoryTakes x a answer b → GrewSimply a.side b.side
arrives x a (Ok outcome) b came = leaves outcome _ a.side b.side came.left
arrives x a (Err link.Misrouted) b came = still a.side b.side came.2
arrives x a (Err link.Failed) b came = absurd came
arrives x a (Err link.Marked) b came = absurd came
arrives x a (Err (link.Wire f)) b came = absurd came
arrives x a (Err link.Memory) b came = absurd came

pub heard_at : (frag : Frag) (p : TheHistorySide) (answer : Result MonitorAnswer LinkReceiveFault) (q : TheHistorySide) → TakesHeard HistoryTakes frag p answer q → GrewSimply p q
heard_at frag p (Ok answered.Full) q takes = still p q takes
heard_at frag p (Ok answered.Done) q takes = take_once p _ q takes
heard_at frag p (Ok (answered.Opened e)) q takes = take_once p _ q takes
heard_at frag p (Ok (answered.OpeningRefused e reason)) q takes = take_once p _ q takes
heard_at frag p (Err f) q takes = still p q takes

pub said_at : (l : ℕ) (a : AtSide TheHistorySide) (answer : MonitorWrite) (b : AtSide TheHistorySide) → MonitorWrites HistoryPuts l a answer b → GrewSimply a.side b.side
said_at l a write.Written b says = put_once a.side _ b.side says.3
said_at l a write.Full b says = put_once a.side no_room b.side says.1
said_at l a write.Spent b says = put_once a.side spent b.side says.1
said_at l a write.Nothing b says = still a.side b.side says.2

pub told_at : (p : TheHistorySide) (answer : AckAnswer) (q : TheHistorySide) → Acknowledges HistoryTakes p answer q → GrewSimply p q
told_at p ack.Done q tells = take_once p told q tells
told_at p ack.Nothing q tells = take_once p kept q tells
told_at p ack.Full q tells = take_once p no_room q tells

-- ---- ends

writes : (s : TheEnd) (p : TheHistorySide) (answer : Result WriteAnswer EndFault) (t : TheEnd) (q : TheHistorySide) → Writes HistoryPuts s p answer t q → GrewSimply p q
writes s p (Ok (wrote.Written number count)) t q did = put_once p _ q did.1.5
writes s p (Ok wrote.Full) t q did = put_once p no_room q did.2
writes s p (Ok wrote.Nothing) t q did = still p q did.2
writes s p (Err fault.Spent) t q did = put_once p spent q did.2
writes s p (Err fault.NotBound) t q did = still p q did.1
writes s p (Err fault.Failed) t q did = still p q did.1
writes s p (Err fault.Busy) t q did = absurd did
writes s p (Err fault.UnknownMessage) t q did = absurd did
writes s p (Err fault.Misfit) t q did = absurd did
writes s p (Err (fault.Wire f)) t q did = absurd did
writes s p (Err fault.Memory) t q did = absurd did

pub writes_at : (e : ℕ) (a : AtSide TheHistorySide) (answer : Result WriteAnswer EndFault) (b : AtSide TheHistorySide) → WritesAt HistoryPuts e a answer b → GrewSimply a.side b.side
writes_at e a answer b did = writes did.writes.seat.end a.side answer did.writes.end b.side did.writes.event

pub acks : (kind : ChannelKind) (s : TheEnd) (p : TheHistorySide) (answer : Result AckAnswer BoardFault) (q : TheHistorySide) → Acks HistoryTakes kind s p answer q → GrewSimply p q
acks Ring s p (Ok ack.Done) q did = take_once p told q did.1
acks Ring s p (Ok ack.Nothing) q did = take_once p kept q did.1
acks Ring s p (Ok ack.Full) q did = take_once p no_room q did.1
acks Queue s p (Ok ack.Done) q did = absurd did
acks Queue s p (Ok ack.Nothing) q did = still p q did.1
acks Queue s p (Ok ack.Full) q did = absurd did
acks Ring s p (Err board.NotBound) q did = still p q did.1
acks Ring s p (Err board.Registered) q did = absurd did
acks Ring s p (Err board.NotRegistered) q did = absurd did
acks Ring s p (Err board.TooManyEnds) q did = absurd did
acks Ring s p (Err board.Failed) q did = absurd did
acks Ring s p (Err board.Memory) q did = absurd did
acks Queue s p (Err board.NotBound) q did = still p q did.1
acks Queue s p (Err board.Registered) q did = absurd did
acks Queue s p (Err board.NotRegistered) q did = absurd did
acks Queue s p (Err board.TooManyEnds) q did = absurd did
acks Queue s p (Err board.Failed) q did = absurd did
acks Queue s p (Err board.Memory) q did = absurd did

-- ---- turns, over a ring

ring_waits : (p : TheHistorySide) (to : Place) (q : TheHistorySide) → WaitsIn HistoryTakes Ring p to q → q ≡ p
ring_waits p place.Polled q waits = waits
ring_waits p place.Pending q waits = absurd waits
ring_waits p place.Idle q waits = absurd waits

takes : (s : TheEnd) (p : TheHistorySide) (answer : ReceiveAnswer) (t : TheEnd) (q : TheHistorySide) → Takes HistoryTakes s p answer t q → GrewSimply p q
takes s p answer t q (open_is, (f, m, bare, sees, takes_it, in_it)) =
    waiting_simply p q (waiting_then p m q (noted_waiting p (saw f) m tt sees.1) (noted_waiting m (found f) q tt takes_it.1))

received : (s : TheEnd) (p : TheHistorySide) (answer : ReceiveAnswer) (t : TheEnd) (q : TheHistorySide) → Receives HistoryTakes s p (Ok answer) t q → GrewSimply p q
received s p (receive.Handle call) t q did = takes s p (receive.Handle call) t q did
received s p receive.Part t q did = takes s p receive.Part t q did
received s p receive.Quiet t q did = acknowledged p did.1.0 q did.1.1 did.1.2
received s p receive.Empty t q did = take_once p missed q did.1
received s p receive.HeldBack t q did = still p q did.2

takes_one : (c : ℕ) (a : EndMoment TheHistorySide) (answer : ReceiveAnswer) (b : EndMoment TheHistorySide) → TakesOne HistoryTakes Ring c a answer b → GrewSimply a.side b.side
takes_one c a answer b (m, did, (to, waits, lists)) =
    subst (λ (z : TheHistorySide). GrewSimply a.side z) (sym (ring_waits m to b.side waits)) (received a.end a.side answer b.end m did)

gives : (c : ℕ) (a : EndMoment TheHistorySide) (answer : TurnAnswer) (b : EndMoment TheHistorySide) → Gives HistoryTakes Ring c a (Ok answer) b → GrewSimply a.side b.side
gives c a (turn.Handle call) b did = takes_one c a (receive.Handle call) b did
gives c a turn.Part b did = takes_one c a receive.Part b did
gives c a turn.Quiet b did = takes_one c a receive.Quiet b did
gives c a turn.Full b did = received a.end a.side receive.HeldBack b.end b.side did.0
gives c a turn.Nothing b did = takes_one c a receive.Empty b did
gives c a (turn.Refused f) b did = take_once a.side _ b.side did.0.1.2
gives c a turn.Ready b did = absurd did

examines : (c : ℕ) (a : ListsAndSide TheHistorySide) (answer : TurnAnswer) (b : ListsAndSide TheHistorySide) → Examines HistoryTakes c a (Ok answer) b → GrewSimply a.side b.side
examines c a turn.Ready b did = take_once a.side (saw did.0.0) b.side did.0.1
examines c a turn.Quiet b did =
    ⊎_elim
    (λ nothing. take_once a.side missed b.side nothing)
    (λ two. acknowledged a.side two.0 b.side two.1 two.2)
    did.0
examines c a (turn.Handle call) b did = absurd did
examines c a turn.Part b did = absurd did
examines c a turn.Full b did = absurd did
examines c a turn.Nothing b did = absurd did
examines c a (turn.Refused f) b did = absurd did

pub looks_at : (picked : Pick) (a : EndMoment TheHistorySide) (answer : TurnAnswer) (b : EndMoment TheHistorySide) → LooksAt HistoryTakes picked Ring a (Ok answer) b → GrewSimply a.side b.side
looks_at (pick.Pending c) a answer b did = gives c.0 a answer b did
looks_at (pick.Polled c) a answer b did = examines c.0 (lent a.lists a.side) answer (lent b.lists b.side) did.0
