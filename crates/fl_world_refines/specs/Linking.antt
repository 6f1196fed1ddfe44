-- What it comes to, at a core's end of a link, that the core's monitor writes, that the core acknowledges, and that it forwards what stands first there.
use Rattle.std.specs.Prelude.{ℕ, ◌≡◌, ◌≢◌, ◌⊎◌, nat_lt, slice_get, Option, Some, None, Result, Ok, Err, if◌then◌else◌}
use Rattle.fl_base.specs.declared.fragment.Frag.{Frag}
use Rattle.fl_base.specs.declared.identity.LinkId.{LinkId}
use Rattle.fl_base.specs.declared.identity.Side.{Side}
use Rattle.fl_base.specs.declared.identity.Side.TheVariants.{Server}
use Rattle.fl_base.specs.declared.identity.Circuit.{Circuit}
use Rattle.fl_base.specs.Control.{bare, with_circuit}
use Rattle.fl_base.specs.Given.{given}
use Rattle.fl_base.specs.Numbered.{link_id}
use Rattle.fl_hop.specs.Table.{link_of}
use Rattle.fl_hop.specs.declared.forward.ForwardOutcome.{ForwardOutcome}
use Rattle.fl_hop.specs.declared.forward.ForwardOutcome.TheVariants as outcome
use Rattle.fl_hop.specs.Forward.{put_label, Leaves}
use Rattle.fl_ring.specs.Duo.{TheDuo}
use Rattle.fl_ring.specs.Side.{SidePuts, SideTakes}
use Rattle.fl_ring.specs.declared.duo_side.DuoSide.{DuoSide}
use Rattle.fl_endpoint.specs.View.{TheEnd, interface_in}
use Rattle.fl_core.specs.declared.turn_answer.AckAnswer.{AckAnswer}
use Rattle.fl_core.specs.declared.turn_answer.AckAnswer.TheVariants as ack
use Rattle.fl_core.specs.BoardView.{TheEndAtChannel}
use Rattle.fl_core.specs.BoardEvents.{ChangesEnd}
use Rattle.fl_core.specs.declared.answer.LinkFront.{LinkFront}
use Rattle.fl_core.specs.declared.answer.LinkFront.TheVariants.{Nothing, Acknowledged, Message, Onward, Arrival}
use Rattle.fl_core.specs.declared.answer.MonitorAnswer.{MonitorAnswer}
use Rattle.fl_core.specs.declared.answer.MonitorAnswer.TheVariants as told
use Rattle.fl_core.specs.declared.answer.MonitorWrite.{MonitorWrite}
use Rattle.fl_core.specs.declared.answer.MonitorWrite.TheVariants as write
use Rattle.fl_core.specs.declared.fault.LinkReceiveFault.{LinkReceiveFault}
use Rattle.fl_core.specs.declared.fault.LinkReceiveFault.TheVariants.{Memory}
use Rattle.fl_core.specs.Faults.{link_number}
use Rattle.fl_core.specs.View.{TheCore, side_of_link}
use Rattle.fl_core.specs.Ends.{at_side, OnBoard}
use Rattle.fl_core.specs.Hearing.{Offers, HearsFrag, TakesHeard}
use Rattle.fl_core.specs.Links.{MonitorWrites, LooksAhead, Inbound, inbound, ArrivesAt, Acknowledges}
use Rattle.fl_model.specs.Events.{Answer, done, nothing, full, written, forwarded, opened, opening_refused, refused}
use Rattle.fl_world_refines.specs.declared.binding.Binding.{Binding}
use Rattle.fl_world_refines.specs.View.{Given, TheWorld, ring_at, IsWhole, WhereEnd, made, location_of, with_core, with_ring, with_binding}
use Rattle.fl_world_refines.specs.Lending.{Refuses, DoesNothing, OverSide, IsLent, front_for, IsStray}

-- a core's end of a link: the link there, and the core's side of its ring
pub record LinkNumbers : Type 0 where
  pub link : ℕ
  pub side : ℕ

-- that of its link to a neighbour, whose number has 8 bits
abbrev pub link_side_to : TheWorld → ℕ → ℕ → Option LinkNumbers
link_side_to w core neighbour =
    if nat_lt neighbour 256
    then (given (slice_get w.cores core) None λ k.
    given (link_of k.monitor.circuits neighbour) None λ l.
    given (side_of_link k.link_sides l) None λ m.
    Some (record { link = l; side = m }))
    else None

-- ---- the monitor writes

-- fragment 1 of 1, no room for it, or nothing to say; a spent link is one without room
abbrev pub write_answer : MonitorWrite → Answer
write_answer write.Written = written 1 1
write_answer write.Full = full
write_answer write.Spent = full
write_answer write.Nothing = nothing

-- what waits first for link l is put at the core's side of its ring, which is lent, if there is room
abbrev pub MonitorWritesWith : ℕ → Answer → TheCore → DuoSide → TheCore → DuoSide → Type 0
MonitorWritesWith l a k p k2 q = (r : MonitorWrite) × MonitorWrites SidePuts l (at_side k p) r (at_side k2 q) × (a ≡ write_answer r)

-- refused where the core has no such link; else the core and the link's ring alone may change
abbrev pub WritesMessage : ℕ → ℕ → TheWorld → Answer → TheWorld → Type 0
WritesMessage core neighbour w a w2 =
    Given (link_side_to w core neighbour) (Refuses 73 w a w2) λ at.
    OverSide w core at.side (MonitorWritesWith at.link a) w2 ⊎ IsStray w.rings (ring_at at.side) w a w2

-- ---- the core acknowledges

-- all that was read is told, there is too little to tell, or there is no room to tell it
abbrev pub ack_answer : AckAnswer → Answer
ack_answer ack.Done = done
ack_answer ack.Nothing = nothing
ack_answer ack.Full = full

-- the core's side of the link's ring, which is lent, tells what was read; the core stays as it was
abbrev pub AcksLinkWith : Answer → TheCore → DuoSide → TheCore → DuoSide → Type 0
AcksLinkWith a k p k2 q = (r : AckAnswer) × Acknowledges SideTakes p r q × (k2 ≡ k) × (a ≡ ack_answer r)

-- refused where the core has no such link; else the link's ring alone may change
abbrev pub AcksLink : ℕ → ℕ → TheWorld → Answer → TheWorld → Type 0
AcksLink core neighbour w a w2 =
    Given (link_side_to w core neighbour) (Refuses 73 w a w2) λ at.
    OverSide w core at.side (AcksLinkWith a) w2 ⊎ IsStray w.rings (ring_at at.side) w a w2

-- ---- a message is heard

-- what is answered; out of memory isn't an answer
abbrev pub IsHeard : Result MonitorAnswer LinkReceiveFault → Answer → Type 0
IsHeard (Ok told.Full) a = a ≡ full
IsHeard (Ok told.Done) a = a ≡ done
IsHeard (Ok (told.Opened e)) a = a ≡ opened e
IsHeard (Ok (told.OpeningRefused e reason)) a = a ≡ opening_refused reason e
IsHeard (Err Memory) a = ⊥
IsHeard (Err fault) a = a ≡ refused (link_number fault)

-- a fragment that comes over a link to a core, while this is offered
pub record FragOnLink : Type 0 where
  pub offers : Offers
  pub link : LinkId
  pub frag : Frag

abbrev pub incoming : Offers → LinkId → Frag → FragOnLink
incoming o l frag = record { offers = o; link = l; frag = frag }

-- it says a message, of which this is told
abbrev pub HearsWith : FragOnLink → Result MonitorAnswer LinkReceiveFault → TheCore → DuoSide → TheCore → DuoSide → Type 0
HearsWith x r k p k2 q = HearsFrag x.offers x.link x.frag k r k2 × TakesHeard SideTakes x.frag p r q

-- the end at a place of core n has just been made for a binding, which keeps one for it
pub record HasRules (w : TheWorld) (n place binding : ℕ) : Type 0 where
  pub core : TheCore
  pub core_is : slice_get w.cores n ≡ Some core
  pub made : TheEndAtChannel
  pub made_is : slice_get core.board.seats place ≡ Some made
  pub kept : Binding
  pub kept_is : slice_get w.bindings binding ≡ Some kept
  pub end : TheEnd
  pub end_is : kept.unmade ≡ Some end

-- an end with the rules of another, where the two are of one interface
abbrev pub WithRules : TheEnd → TheEnd → TheEnd → Type 0
WithRules s o t =
    ((interface_in s ≡ interface_in o) × (t ≡ record s { rules = o.rules })) ⊎ ((interface_in s ≢ interface_in o) × (t ≡ s))

-- it gets that end's rules, and the binding keeps none any more
pub record TakesRules (w : TheWorld) (n place binding : ℕ) (w2 : TheWorld) : Type 0 where
  pub has : HasRules w n place binding
  pub whole : IsWhole has.core
  pub end : TheEnd
  pub with_rules : WithRules has.made.end has.end end
  pub after : TheCore
  pub still : IsWhole after
  pub on_board : OnBoard has.core (λ b c. ChangesEnd b place (λ s t. t ≡ end) c) after
  pub rest : w2 ≡ with_binding (with_core w n after) binding (record has.kept { unmade = None })

-- a server's end that was made gets the rules that were set for it before
abbrev pub BringsRules : WhereEnd → Side → ℕ → TheWorld → TheWorld → Type 0
BringsRules (made n place) Server b w w2 = TakesRules w n place b w2 ⊎ ((HasRules w n place b → ⊥) × (w2 ≡ w))
BringsRules location side b w w2 = w2 ≡ w

-- so it is where the message opened an end; else nothing more changes
abbrev pub ThenRules : Result MonitorAnswer LinkReceiveFault → TheWorld → TheWorld → Type 0
ThenRules (Ok (told.Opened e)) w w2 = BringsRules (location_of w e) e.side e.binding w w2
ThenRules r w w2 = w2 ≡ w

-- what a core of this world may look up as it hears: the services' names, and all programs
abbrev pub offers_in : TheWorld → Offers
offers_in w = record { names = w.names; programs = w.programs }

-- a core hears what stands first on a link
pub record HearsFirst (core : ℕ) (at : LinkNumbers) (frag : Frag) (w : TheWorld) (a : Answer) (w2 : TheWorld) : Type 0 where
  pub told : Result MonitorAnswer LinkReceiveFault
  pub heard : TheWorld
  pub hears : OverSide w core at.side (HearsWith (incoming (offers_in w) (link_id at.link) frag) told) heard
  pub answer : IsHeard told a
  pub rules : ThenRules told heard w2

-- ---- a call's fragment goes on, or arrives

-- it moved, or found no room and stays; a spent link has no room
abbrev pub moved_answer : ForwardOutcome → Answer
moved_answer outcome.Moved = forwarded
moved_answer outcome.Full = full
moved_answer outcome.Spent = full

-- a fragment that is to go on, from one side to another, with this circuit's number
pub record FragMove : Type 0 where
  pub from : ℕ
  pub onto : ℕ
  pub frag : Frag
  pub circuit : Circuit

abbrev pub move_of : ℕ → ℕ → Frag → Circuit → FragMove
move_of from onto frag circuit = record { from = from; onto = onto; frag = frag; circuit = circuit }

-- it is put onto the other ring under its number there, and taken from this one; without room it stays
pub record MovesOn (x : FragMove) (w : TheWorld) (a : Answer) (w2 : TheWorld) : Type 0 where
  pub apart : ring_at x.from ≢ ring_at x.onto
  pub ring : TheDuo
  pub ring_is : slice_get w.rings (ring_at x.from) ≡ Some ring
  pub side : DuoSide
  pub lent : IsLent x.from ring side
  pub next : TheDuo
  pub next_is : slice_get w.rings (ring_at x.onto) ≡ Some next
  pub next_side : DuoSide
  pub next_lent : IsLent x.onto next next_side
  pub outcome : ForwardOutcome
  pub put_side : DuoSide
  pub puts : SidePuts next_side (put_label outcome (bare (with_circuit x.circuit.0 x.frag))) put_side
  pub left_side : DuoSide
  pub left : Leaves SideTakes outcome (bare x.frag) (record { before = side; after = left_side })
  pub answer : a ≡ moved_answer outcome
  pub rest : w2 ≡ with_ring (with_ring w (ring_at x.from) left_side.duo.now) (ring_at x.onto) put_side.duo.now

-- as in no world that shows a state: it would go back onto the ring that it comes from, or to none
abbrev pub IsNoWay : ℕ → ℕ → TheWorld → Type 0
IsNoWay from onto w = (ring_at from ≡ ring_at onto) ⊎ (slice_get w.rings (ring_at from) ≡ None) ⊎ (slice_get w.rings (ring_at onto) ≡ None)

-- what is answered of a fragment for an end of this core
abbrev pub IsMoved : Result ForwardOutcome LinkReceiveFault → Answer → Type 0
IsMoved (Ok outcome) a = a ≡ moved_answer outcome
IsMoved (Err fault) a = a ≡ refused (link_number fault)

-- the fragment comes from the side that is lent into the end's arrival queue, where there is room
abbrev pub ArrivesWith : Inbound → Answer → TheCore → DuoSide → TheCore → DuoSide → Type 0
ArrivesWith x a k p k2 q = (r : Result ForwardOutcome LinkReceiveFault) × ArrivesAt SideTakes x (at_side k p) r (at_side k2 q) × IsMoved r a

-- what stands first for the core on link l, at the side that is lent, and where its circuit leads
abbrev pub LooksWith : ℕ → Result LinkFront LinkReceiveFault → TheCore → DuoSide → TheCore → DuoSide → Type 0
LooksWith l ahead k p k2 q = LooksAhead SideTakes front_for l (at_side k p) ahead (at_side k2 q)

-- ---- a core forwards

-- by what stands first
abbrev pub ForwardsBy : Result LinkFront LinkReceiveFault → ℕ → LinkNumbers → TheWorld → Answer → TheWorld → Type 0
ForwardsBy (Ok Nothing) core at w a w2 = DoesNothing w a w2
ForwardsBy (Ok Acknowledged) core at w a w2 = (a ≡ done) × (w2 ≡ w)
ForwardsBy (Ok (Message frag)) core at w a w2 = HearsFirst core at frag w a w2
ForwardsBy (Ok (Onward frag side circuit)) core at w a w2 =
    MovesOn (move_of at.side side frag circuit) w a w2 ⊎ (IsNoWay at.side side w × DoesNothing w a w2)
ForwardsBy (Ok (Arrival frag e)) core at w a w2 = OverSide w core at.side (ArrivesWith (inbound at.link frag e) a) w2
ForwardsBy (Err fault) core at w a w2 = Refuses (link_number fault) w a w2

-- the link is looked at, and then what stands first there is followed
pub record ForwardsFirst (core : ℕ) (at : LinkNumbers) (w : TheWorld) (a : Answer) (w2 : TheWorld) : Type 0 where
  pub ahead : Result LinkFront LinkReceiveFault
  pub looked : TheWorld
  pub looks : OverSide w core at.side (LooksWith at.link ahead) looked
  pub follows : ForwardsBy ahead core at looked a w2

-- refused where the core has no link to this neighbour
abbrev pub Forwards : ℕ → ℕ → TheWorld → Answer → TheWorld → Type 0
Forwards core neighbour w a w2 =
    Given (link_side_to w core neighbour) (Refuses 73 w a w2) λ at.
    ForwardsFirst core at w a w2 ⊎ IsStray w.rings (ring_at at.side) w a w2
