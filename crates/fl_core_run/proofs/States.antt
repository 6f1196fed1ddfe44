-- What is done over what is lent is done over the side's state, and what else was lent stays as it was.
use Rattle.std.proofs.Common.{◌≡◌, sym, ap, ◌∙◌, ℕ, inl, inr, List, slice_get, slice_set, Some, Result, Ok, Err}
use Rattle.std.specs.declared.alloc.AllocError.{AllocError}
use Rattle.fl_base.specs.declared.fragment.Frag.{Frag}
use Rattle.fl_base.specs.Control.{bare}
use Rattle.fl_link.specs.Looks.{Look, placed, no_room, spent, saw, saw_ack, found, found_ack, missed, told, kept}
use Rattle.fl_lists.specs.declared.place.Place.{Place}
use Rattle.fl_lists.specs.declared.place.Place.TheVariants as place
use Rattle.fl_lists.specs.ThreeLists.{ThreeLists}
use Rattle.fl_waitset.specs.declared.waitset.Pick.{Pick}
use Rattle.fl_waitset.specs.declared.waitset.Pick.TheVariants as pick
use Rattle.fl_hop.specs.declared.forward.HopFront.{HopFront}
use Rattle.fl_hop.specs.declared.forward.HopFront.TheVariants as first
use Rattle.fl_hop.specs.declared.fault.HopFault.{HopFault}
use Rattle.fl_hop.specs.declared.fault.HopFault.TheVariants as hop
use Rattle.fl_hop.specs.declared.forward.ForwardOutcome.{ForwardOutcome}
use Rattle.fl_hop.specs.declared.forward.ForwardOutcome.TheVariants as outcome
use Rattle.fl_hop.specs.Forward.{LinkOfTable, Finds}
use Rattle.fl_hop.specs.Forward.{Leaves as LeavesThere}
use Rattle.fl_endpoint.specs.declared.fault.EndFault.{EndFault}
use Rattle.fl_endpoint.specs.declared.fault.EndFault.TheVariants as end
use Rattle.fl_endpoint.specs.declared.answer.ReceiveAnswer.{ReceiveAnswer}
use Rattle.fl_endpoint.specs.declared.answer.ReceiveAnswer.TheVariants as receive
use Rattle.fl_endpoint.specs.declared.answer.WriteAnswer.{WriteAnswer}
use Rattle.fl_endpoint.specs.declared.answer.WriteAnswer.TheVariants as write
use Rattle.fl_endpoint.specs.View.{TheEnd}
use Rattle.fl_endpoint.specs.Events.{Writes, Takes, Leaves, Receives}
use Rattle.fl_core.specs.declared.kind.ChannelKind.{ChannelKind}
use Rattle.fl_core.specs.declared.kind.ChannelKind.TheVariants.{Queue, Ring}
use Rattle.fl_core.specs.declared.turn_answer.TurnAnswer.{TurnAnswer}
use Rattle.fl_core.specs.declared.turn_answer.TurnAnswer.TheVariants as turn
use Rattle.fl_core.specs.declared.turn_answer.AckAnswer.{AckAnswer}
use Rattle.fl_core.specs.declared.turn_answer.AckAnswer.TheVariants as ack
use Rattle.fl_core.specs.declared.board_fault.BoardFault.{BoardFault}
use Rattle.fl_core.specs.declared.board_fault.BoardFault.TheVariants as board
use Rattle.fl_core.specs.BoardView.{TheBoard}
use Rattle.fl_core.specs.BoardEvents.{Holds, Acks}
use Rattle.fl_core.specs.BoardTurns.{WaitsIn, lent, moment, over, TakesOne, Gives, IsQuiet, Examines, LooksAt, Turns}
use Rattle.fl_core.specs.declared.answer.MonitorAnswer.{MonitorAnswer}
use Rattle.fl_core.specs.declared.answer.MonitorAnswer.TheVariants as monitor
use Rattle.fl_core.specs.declared.answer.MonitorWrite.{MonitorWrite}
use Rattle.fl_core.specs.declared.answer.MonitorWrite.TheVariants as monitor_write
use Rattle.fl_core.specs.declared.answer.LinkFront.{LinkFront}
use Rattle.fl_core.specs.declared.answer.LinkFront.TheVariants.{Nothing, Acknowledged, Message, Onward, Arrival}
use Rattle.fl_core.specs.declared.fault.LinkReceiveFault.{LinkReceiveFault}
use Rattle.fl_core.specs.declared.fault.LinkReceiveFault.TheVariants as fault
use Rattle.fl_core.specs.View.{TheCore}
use Rattle.fl_core.specs.Ends.{at_side, OnBoard, WritesAt}
use Rattle.fl_core.specs.Hearing.{TakesHeard}
use Rattle.fl_core.specs.Links.{MonitorWrites, LinkOf, link_of, Seen, LooksAhead, Inbound, ArrivesAt, Acknowledges}
use Rattle.fl_core_run.specs.Inside.{OverSide}

-- what is lent goes by R, its state f by Q, and the rest r stays
module _ {T U V : Type 0} (R : T → Look → T → Type 0) (Q : U → Look → U → Type 0) (f : T → U) (r : T → V)
    (are : (a : T) (look : Look) (b : T) → R a look b → Q (f a) look (f b) × (r a ≡ r b)) where
  -- nothing was done
  unmoved : (p q : T) → q ≡ p → (f q ≡ f p) × (r p ≡ r q)
  unmoved p q same = (ap f same, sym (ap r same))

  -- ---- for a link

  pub heard_so : (frag : Frag) (p : T) (answer : Result MonitorAnswer LinkReceiveFault) (q : T) → TakesHeard R frag p answer q
      → TakesHeard Q frag (f p) answer (f q) × (r p ≡ r q)
  heard_so frag p (Ok monitor.Full) q h = unmoved p q h
  heard_so frag p (Ok monitor.Done) q h = are p (found (bare frag)) q h
  heard_so frag p (Ok (monitor.Opened e)) q h = are p (found (bare frag)) q h
  heard_so frag p (Ok (monitor.OpeningRefused e reason)) q h = are p (found (bare frag)) q h
  heard_so frag p (Err wrong) q h = unmoved p q h

  pub told_so : (p : T) (answer : AckAnswer) (q : T) → Acknowledges R p answer q → Acknowledges Q (f p) answer (f q) × (r p ≡ r q)
  told_so p ack.Done q h = are p told q h
  told_so p ack.Nothing q h = are p kept q h
  told_so p ack.Full q h = are p no_room q h

  pub said_so : (l : ℕ) (k : TheCore) (p : T) (answer : MonitorWrite) (k2 : TheCore) (q : T) → MonitorWrites R l (at_side k p) answer (at_side k2 q)
      → MonitorWrites Q l (at_side k (f p)) answer (at_side k2 (f q)) × (r p ≡ r q)
  said_so l k p monitor_write.Written k2 q h = let put = are p (placed h.0) q h.3 in ((h.0, h.1, h.2, put.0, h.4), put.1)
  said_so l k p monitor_write.Full k2 q h = let put = are p no_room q h.1 in ((h.0, put.0, h.2), put.1)
  said_so l k p monitor_write.Spent k2 q h = let put = are p spent q h.1 in ((h.0, put.0, h.2), put.1)
  said_so l k p monitor_write.Nothing k2 q h = let same = unmoved p q h.2 in ((h.0, h.1, same.0), same.1)

  left_so : (frag : Frag) (answer : ForwardOutcome) (p q : T) → LeavesThere R answer frag (record { before = p; after = q })
      → LeavesThere Q answer frag (record { before = f p; after = f q }) × (r p ≡ r q)
  left_so frag outcome.Moved p q h = are p (found frag) q h
  left_so frag outcome.Full p q h = unmoved p q h
  left_so frag outcome.Spent p q h = unmoved p q h

  pub arrived_so : (x : Inbound) (k : TheCore) (p : T) (answer : Result ForwardOutcome LinkReceiveFault) (k2 : TheCore) (q : T)
      → ArrivesAt R x (at_side k p) answer (at_side k2 q) → ArrivesAt Q x (at_side k (f p)) answer (at_side k2 (f q)) × (r p ≡ r q)
  arrived_so x k p (Ok answer) k2 q h =
      let side = left_so (bare x.frag) answer p q h.left in (
        record {
          end = h.end;
          queue = h.queue;
          at = h.at;
          before = h.before;
          before_is = h.before_is;
          after = h.after;
          puts = h.puts;
          left = side.0;
          triggers = h.triggers;
          rest = h.rest;
        },
        side.1,
      )
  arrived_so x k p (Err fault.Misrouted) k2 q h = let same = unmoved p q h.2 in ((h.0, h.1, same.0), same.1)
  arrived_so x k p (Err fault.Marked) k2 q h = absurd h
  arrived_so x k p (Err fault.Failed) k2 q h = absurd h
  arrived_so x k p (Err (fault.Wire wrong)) k2 q h = absurd h
  arrived_so x k p (Err fault.Memory) k2 q h = absurd h

  -- a look
  module _ (front : T → Look) (fronts : U → Look) (front_is : (a : T) → front a ≡ fronts (f a)) where
    finds_so : (at : LinkOfTable) (seen : Result HopFront HopFault) (p q : T) → Finds R front at seen (record { before = p; after = q })
        → Finds Q fronts at seen (record { before = f p; after = f q }) × (r p ≡ r q)
    finds_so at (Ok first.Nothing) p q h = are p missed q h
    finds_so at (Ok first.Acknowledged) p q h =
        let saw_it = are p saw_ack h.0 h.1 in let took_it = are h.0 found_ack q h.2 in ((f h.0, saw_it.0, took_it.0), saw_it.1 ∙ took_it.1)
    finds_so at (Ok (first.Monitor frag)) p q h =
        let saw_it = are p (saw (bare frag)) q h.0 in ((saw_it.0, sym (front_is q) ∙ h.1, h.2), saw_it.1)
    finds_so at (Ok (first.Goes frag way)) p q h =
        let saw_it = are p (saw (bare frag)) q h.0 in ((saw_it.0, sym (front_is q) ∙ h.1, h.2, h.3, h.4, h.5), saw_it.1)
    finds_so at (Err hop.Misrouted) p q h =
        let saw_it = are p (saw (bare h.0)) q h.1 in ((h.0, saw_it.0, h.2, h.3), saw_it.1)
    finds_so at (Err hop.Marked) p q h =
        let saw_it = are p (saw (bare h.0)) q h.2 in ((h.0, h.1, saw_it.0, h.3, h.4, h.5), saw_it.1)
    finds_so at (Err hop.NoLink) p q h = absurd h
    finds_so at (Err hop.UsedUp) p q h = absurd h
    finds_so at (Err hop.Limit) p q h = absurd h
    finds_so at (Err hop.Memory) p q h = absurd h

    seen_so : (at : LinkOf) (seen : Result HopFront HopFault) (p q : T) → Seen R front at seen p q → Seen Q fronts at seen (f p) (f q) × (r p ≡ r q)
    seen_so at seen p q h =
        let side = finds_so (record { table = at.core.monitor.circuits; link = at.link }) seen p q h.finds in
        (record { link_side = h.link_side; finds = side.0 }, side.1)

    pub looked_so : (l : ℕ) (k : TheCore) (p : T) (answer : Result LinkFront LinkReceiveFault) (k2 : TheCore) (q : T)
        → LooksAhead R front l (at_side k p) answer (at_side k2 q) → LooksAhead Q fronts l (at_side k (f p)) answer (at_side k2 (f q)) × (r p ≡ r q)
    looked_so l k p (Ok Nothing) k2 q h = let side = seen_so (link_of k l) _ p q h.0 in ((side.0, h.1), side.1)
    looked_so l k p (Ok Acknowledged) k2 q h = let side = seen_so (link_of k l) _ p q h.0 in ((side.0, h.1), side.1)
    looked_so l k p (Ok (Message frag)) k2 q h = let side = seen_so (link_of k l) _ p q h.0 in ((side.0, h.1), side.1)
    looked_so l k p (Ok (Onward frag n c)) k2 q h =
        let side = seen_so (link_of k l) _ p q h.0.seen in ((record { link = h.0.link; seen = side.0; side_is = h.0.side_is }, h.1), side.1)
    looked_so l k p (Ok (Arrival frag e)) k2 q h = let side = seen_so (link_of k l) _ p q h.0 in ((side.0, h.1), side.1)
    looked_so l k p (Err fault.Failed) k2 q h = let same = unmoved p q h.2 in ((h.0, h.1, same.0), same.1)
    looked_so l k p (Err fault.Misrouted) k2 q h = let side = seen_so (link_of k l) _ p q h.0 in ((side.0, h.1), side.1)
    looked_so l k p (Err fault.Marked) k2 q h = let side = seen_so (link_of k l) _ p q h.0 in ((side.0, h.1), side.1)
    looked_so l k p (Err (fault.Wire wrong)) k2 q h = absurd h
    looked_so l k p (Err fault.Memory) k2 q h = absurd h

  -- ---- for an end

  writes_so : (s : TheEnd) (p : T) (answer : Result WriteAnswer EndFault) (t : TheEnd) (q : T) → Writes R s p answer t q
      → Writes Q s (f p) answer t (f q) × (r p ≡ r q)
  writes_so s p (Ok (write.Written number count)) t q h =
      let w = h.1 in let put = are p (placed w.0) q w.5 in ((h.0, (w.0, w.1, w.2, w.3, w.4, put.0, w.6)), put.1)
  writes_so s p (Ok write.Full) t q h = let put = are p no_room q h.2 in ((h.0, h.1, put.0, h.3), put.1)
  writes_so s p (Ok write.Nothing) t q h = let same = unmoved p q h.2 in ((h.0, h.1, same.0, h.3), same.1)
  writes_so s p (Err end.Spent) t q h = let put = are p spent q h.2 in ((h.0, h.1, put.0, h.3), put.1)
  writes_so s p (Err end.NotBound) t q h = let same = unmoved p q h.1 in ((h.0, same.0, h.2), same.1)
  writes_so s p (Err end.Failed) t q h = let same = unmoved p q h.1 in ((h.0, same.0, h.2), same.1)
  writes_so s p (Err end.Busy) t q h = absurd h
  writes_so s p (Err end.UnknownMessage) t q h = absurd h
  writes_so s p (Err end.Misfit) t q h = absurd h
  writes_so s p (Err (end.Wire wrong)) t q h = absurd h
  writes_so s p (Err end.Memory) t q h = absurd h

  pub wrote_so : (e : ℕ) (k : TheCore) (p : T) (answer : Result WriteAnswer EndFault) (k2 : TheCore) (q : T)
      → WritesAt R e (at_side k p) answer (at_side k2 q) → WritesAt Q e (at_side k (f p)) answer (at_side k2 (f q)) × (r p ≡ r q)
  wrote_so e k p answer k2 q h =
      let side = writes_so h.writes.seat.end p answer h.writes.end q h.writes.event in (
        record {
          wrote = h.wrote;
          writes = record { seat = h.writes.seat; seat_is = h.writes.seat_is; end = h.writes.end; event = side.0; board = h.writes.board };
          triggers = h.triggers;
          rest = h.rest;
        },
        side.1,
      )

  acks_so : (kind : ChannelKind) (s : TheEnd) (p : T) (answer : Result AckAnswer BoardFault) (q : T) → Acks R kind s p answer q
      → Acks Q kind s (f p) answer (f q) × (r p ≡ r q)
  acks_so Ring s p (Ok ack.Done) q h = let side = are p told q h.1 in ((h.0, side.0), side.1)
  acks_so Ring s p (Ok ack.Nothing) q h = let side = are p kept q h.1 in ((h.0, side.0), side.1)
  acks_so Ring s p (Ok ack.Full) q h = let side = are p no_room q h.1 in ((h.0, side.0), side.1)
  acks_so Queue s p (Ok ack.Done) q h = absurd h
  acks_so Queue s p (Ok ack.Nothing) q h = let same = unmoved p q h.1 in ((h.0, same.0), same.1)
  acks_so Queue s p (Ok ack.Full) q h = absurd h
  acks_so Ring s p (Err board.NotBound) q h = let same = unmoved p q h.1 in ((h.0, same.0), same.1)
  acks_so Queue s p (Err board.NotBound) q h = let same = unmoved p q h.1 in ((h.0, same.0), same.1)
  acks_so Ring s p (Err board.Registered) q h = absurd h
  acks_so Ring s p (Err board.NotRegistered) q h = absurd h
  acks_so Ring s p (Err board.TooManyEnds) q h = absurd h
  acks_so Ring s p (Err board.Failed) q h = absurd h
  acks_so Ring s p (Err board.Memory) q h = absurd h
  acks_so Queue s p (Err board.Registered) q h = absurd h
  acks_so Queue s p (Err board.NotRegistered) q h = absurd h
  acks_so Queue s p (Err board.TooManyEnds) q h = absurd h
  acks_so Queue s p (Err board.Failed) q h = absurd h
  acks_so Queue s p (Err board.Memory) q h = absurd h

  pub acked_so : (b : TheBoard) (e : ℕ) (p : T) (answer : Result AckAnswer BoardFault) (q : T) → Holds b e (λ s. Acks R s.kind s.end p answer q)
      → Holds b e (λ s. Acks Q s.kind s.end (f p) answer (f q)) × (r p ≡ r q)
  acked_so b e p answer q h = let side = acks_so h.0.kind h.0.end p answer q h.2 in ((h.0, h.1, side.0), side.1)

  -- ---- for a dispatcher

  took_so : (s : TheEnd) (p : T) (answer : ReceiveAnswer) (t : TheEnd) (q : T) → Takes R s p answer t q → Takes Q s (f p) answer t (f q) × (r p ≡ r q)
  took_so s p answer t q h =
      let w = h.1 in let saw_it = are p (saw w.0) w.1 w.3 in let took_it = are w.1 (found w.0) q w.4 in
      ((h.0, (w.0, f w.1, w.2, saw_it.0, took_it.0, w.5)), saw_it.1 ∙ took_it.1)

  leaves_so : (s : TheEnd) (p : T) (wrong : EndFault) (t : TheEnd) (q : T) → Leaves R s p wrong t q → Leaves Q s (f p) wrong t (f q) × (r p ≡ r q)
  leaves_so s p wrong t q h = let w = h.1 in let saw_it = are p (saw w.0) q w.2 in ((h.0, (w.0, w.1, saw_it.0, w.3)), saw_it.1)

  received_so : (s : TheEnd) (p : T) (answer : Result ReceiveAnswer EndFault) (t : TheEnd) (q : T) → Receives R s p answer t q
      → Receives Q s (f p) answer t (f q) × (r p ≡ r q)
  received_so s p (Ok (receive.Handle call)) t q h = took_so s p (receive.Handle call) t q h
  received_so s p (Ok receive.Part) t q h = took_so s p receive.Part t q h
  received_so s p (Ok receive.Quiet) t q h =
      let saw_it = are p saw_ack h.1.0 h.1.1 in let took_it = are h.1.0 found_ack q h.1.2 in
      ((h.0, (f h.1.0, saw_it.0, took_it.0), h.2), saw_it.1 ∙ took_it.1)
  received_so s p (Ok receive.Empty) t q h = let side = are p missed q h.1 in ((h.0, side.0, h.2), side.1)
  received_so s p (Ok receive.HeldBack) t q h = let same = unmoved p q h.2 in ((h.0, h.1, same.0, h.3), same.1)
  received_so s p (Err (end.Wire wrong)) t q h = leaves_so s p (end.Wire wrong) t q h
  received_so s p (Err end.Memory) t q h = leaves_so s p end.Memory t q h
  received_so s p (Err end.NotBound) t q h = let same = unmoved p q h.1 in ((h.0, same.0, h.2), same.1)
  received_so s p (Err end.Failed) t q h = let same = unmoved p q h.1 in ((h.0, same.0, h.2), same.1)
  received_so s p (Err end.Spent) t q h = absurd h
  received_so s p (Err end.Busy) t q h = absurd h
  received_so s p (Err end.UnknownMessage) t q h = absurd h
  received_so s p (Err end.Misfit) t q h = absurd h

  waits_so : (kind : ChannelKind) (p : T) (to : Place) (q : T) → WaitsIn R kind p to q → WaitsIn Q kind (f p) to (f q) × (r p ≡ r q)
  waits_so Ring p place.Polled q h = unmoved p q h
  waits_so Ring p place.Pending q h = absurd h
  waits_so Ring p place.Idle q h = absurd h
  waits_so Queue p place.Pending q (inl h) = let side = are p (saw h.0) q h.1 in (inl (h.0, side.0), side.1)
  waits_so Queue p place.Pending q (inr h) = let side = are p saw_ack q h in (inr side.0, side.1)
  waits_so Queue p place.Idle q h = are p missed q h
  waits_so Queue p place.Polled q h = absurd h

  takes_one_so : (kind : ChannelKind) (c : ℕ) (w : ThreeLists) (s : TheEnd) (p : T) (answer : ReceiveAnswer) (v : ThreeLists) (t : TheEnd) (q : T)
      → TakesOne R kind c (moment w s p) answer (moment v t q) → TakesOne Q kind c (moment w s (f p)) answer (moment v t (f q)) × (r p ≡ r q)
  takes_one_so kind c w s p answer v t q h =
      let took = received_so s p (Ok answer) t h.0 h.1 in let waits = waits_so kind h.0 h.2.0 q h.2.1 in
      ((f h.0, took.0, (h.2.0, waits.0, h.2.2)), took.1 ∙ waits.1)

  gives_so : (kind : ChannelKind) (c : ℕ) (w : ThreeLists) (s : TheEnd) (p : T) (answer : Result TurnAnswer AllocError) (v : ThreeLists) (t : TheEnd) (q : T)
      → Gives R kind c (moment w s p) answer (moment v t q) → Gives Q kind c (moment w s (f p)) answer (moment v t (f q)) × (r p ≡ r q)
  gives_so kind c w s p (Ok (turn.Handle call)) v t q h = takes_one_so kind c w s p (receive.Handle call) v t q h
  gives_so kind c w s p (Ok turn.Part) v t q h = takes_one_so kind c w s p receive.Part v t q h
  gives_so kind c w s p (Ok turn.Quiet) v t q h = takes_one_so kind c w s p receive.Quiet v t q h
  gives_so kind c w s p (Ok turn.Full) v t q h = let side = received_so s p (Ok receive.HeldBack) t q h.0 in ((side.0, h.1), side.1)
  gives_so kind c w s p (Ok turn.Nothing) v t q h = takes_one_so kind c w s p receive.Empty v t q h
  gives_so kind c w s p (Ok (turn.Refused wrong)) v t q h = let side = received_so s p (Err (end.Wire wrong)) t q h.0 in ((side.0, h.1), side.1)
  gives_so kind c w s p (Ok turn.Ready) v t q h = absurd h
  gives_so kind c w s p (Err error) v t q h = let side = received_so s p (Err end.Memory) t q h.0 in ((side.0, h.1), side.1)

  quiet_so : (p q : T) → IsQuiet R p q → IsQuiet Q (f p) (f q) × (r p ≡ r q)
  quiet_so p q (inl h) = let side = are p missed q h in (inl side.0, side.1)
  quiet_so p q (inr h) =
      let saw_it = are p saw_ack h.0 h.1 in let took_it = are h.0 found_ack q h.2 in (inr (f h.0, saw_it.0, took_it.0), saw_it.1 ∙ took_it.1)

  examines_so : (c : ℕ) (w : ThreeLists) (p : T) (answer : Result TurnAnswer AllocError) (v : ThreeLists) (q : T)
      → Examines R c (lent w p) answer (lent v q) → Examines Q c (lent w (f p)) answer (lent v (f q)) × (r p ≡ r q)
  examines_so c w p (Ok turn.Ready) v q h = let side = are p (saw h.0.0) q h.0.1 in (((h.0.0, side.0), h.1), side.1)
  examines_so c w p (Ok turn.Quiet) v q h = let side = quiet_so p q h.0 in ((side.0, h.1), side.1)
  examines_so c w p (Ok (turn.Handle call)) v q h = absurd h
  examines_so c w p (Ok turn.Part) v q h = absurd h
  examines_so c w p (Ok turn.Full) v q h = absurd h
  examines_so c w p (Ok turn.Nothing) v q h = absurd h
  examines_so c w p (Ok (turn.Refused wrong)) v q h = absurd h
  examines_so c w p (Err error) v q h = absurd h

  looks_at_so : (picked : Pick) (kind : ChannelKind) (w : ThreeLists) (s : TheEnd) (p : T) (answer : Result TurnAnswer AllocError) (v : ThreeLists)
      (t : TheEnd) (q : T) → LooksAt R picked kind (moment w s p) answer (moment v t q)
      → LooksAt Q picked kind (moment w s (f p)) answer (moment v t (f q)) × (r p ≡ r q)
  looks_at_so (pick.Pending c) kind w s p answer v t q h = gives_so kind c.0 w s p answer v t q h
  looks_at_so (pick.Polled c) kind w s p answer v t q h = let side = examines_so c.0 w p answer v q h.0 in ((side.0, h.1), side.1)

  pub turned_so : (d e : ℕ) (k : TheCore) (p : T) (answer : Result TurnAnswer AllocError) (k2 : TheCore) (q : T)
      → OnBoard k (λ b c. Turns R d e (over b p) answer (over c q)) k2
      → OnBoard k (λ b c. Turns Q d e (over b (f p)) answer (over c (f q))) k2 × (r p ≡ r q)
  turned_so d e k p answer k2 q h =
      let x = h.event in
      let side = looks_at_so x.picked x.seat.kind x.dispatcher.lists x.seat.end p answer x.lists x.end q x.looks in (
        record {
          event = record {
            dispatcher = x.dispatcher;
            dispatcher_is = x.dispatcher_is;
            picked = x.picked;
            picked_is = x.picked_is;
            end_is = x.end_is;
            seat = x.seat;
            seat_is = x.seat_is;
            lists = x.lists;
            end = x.end;
            looks = side.0;
            board = x.board;
          };
          rest = h.rest;
        },
        side.1,
      )

-- a side that is lent is one of the sides by its state, and comes back as one
module _ {X T S V : Type 0} (states : X → List S) (f : T → S) (r : T → V) (lends : X → ℕ → T → Type 0) (returned : X → ℕ → T → X)
    (stands : (ss : X) (n : ℕ) (a : T) → lends ss n a → slice_get (states ss) n ≡ Some (f a))
    (gives_back : (ss : X) (n : ℕ) (a b : T) → lends ss n a → r a ≡ r b → states (returned ss n b) ≡ slice_set (states ss) n (f b)) where
  pub over_side : (ss : X) (n : ℕ) (a b : T) (E : S → S → Type 0) → lends ss n a → E (f a) (f b) × (r a ≡ r b)
      → OverSide n (states ss) E (states (returned ss n b))
  over_side ss n a b E lent does = record {
    before = f a;
    before_is = stands ss n a lent;
    after = f b;
    event = does.0;
    rest = gives_back ss n a b lent does.1;
  }
