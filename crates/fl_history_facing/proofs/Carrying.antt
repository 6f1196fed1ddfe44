-- What an entry's own relation says of the side that is lent holds over another kind of sides, where each step does.
use Rattle.std.proofs.Common.{ℕ, ◌≡◌, inl, inr, ⊎_elim, Result, Ok, Err, ap, subst, ◌∙◌, sym, refl}
use Rattle.fl_base.specs.declared.fragment.Frag.{Frag}
use Rattle.fl_link.specs.Looks.{Look, saw_ack, found_ack, missed}
use Rattle.fl_lists.specs.declared.place.Place.{Place}
use Rattle.fl_lists.specs.declared.place.Place.TheVariants as place
use Rattle.fl_waitset.specs.declared.waitset.Pick.{Pick}
use Rattle.fl_waitset.specs.declared.waitset.Pick.TheVariants as pick
use Rattle.fl_hop.specs.declared.forward.ForwardOutcome.{ForwardOutcome}
use Rattle.fl_hop.specs.declared.forward.ForwardOutcome.TheVariants as outcome
use Rattle.fl_hop.specs.declared.forward.HopFront.{HopFront}
use Rattle.fl_hop.specs.declared.forward.HopFront.TheVariants as first
use Rattle.fl_hop.specs.declared.fault.HopFault.{HopFault}
use Rattle.fl_hop.specs.declared.fault.HopFault.TheVariants as hop
use Rattle.fl_hop.specs.Forward.{LinkOfTable, Finds, Leaves}
use Rattle.fl_wire.specs.declared.fault.WireFault.{WireFault}
use Rattle.fl_endpoint.specs.declared.fault.EndFault.{EndFault}
use Rattle.fl_endpoint.specs.declared.fault.EndFault.TheVariants as fault
use Rattle.fl_endpoint.specs.declared.answer.WriteAnswer.{WriteAnswer}
use Rattle.fl_endpoint.specs.declared.answer.WriteAnswer.TheVariants as wrote
use Rattle.fl_endpoint.specs.declared.answer.ReceiveAnswer.{ReceiveAnswer}
use Rattle.fl_endpoint.specs.declared.answer.ReceiveAnswer.TheVariants as receive
use Rattle.fl_endpoint.specs.View.{TheEnd}
use Rattle.fl_endpoint.specs.Events.{Writes, Receives, Takes}
use Rattle.fl_core.specs.declared.kind.ChannelKind.{ChannelKind}
use Rattle.fl_core.specs.declared.kind.ChannelKind.TheVariants.{Queue, Ring}
use Rattle.fl_core.specs.declared.turn_answer.TurnAnswer.{TurnAnswer}
use Rattle.fl_core.specs.declared.turn_answer.TurnAnswer.TheVariants as turn
use Rattle.fl_core.specs.declared.turn_answer.AckAnswer.{AckAnswer}
use Rattle.fl_core.specs.declared.turn_answer.AckAnswer.TheVariants as ack
use Rattle.fl_core.specs.declared.board_fault.BoardFault.{BoardFault}
use Rattle.fl_core.specs.declared.board_fault.BoardFault.TheVariants as board
use Rattle.fl_core.specs.declared.answer.MonitorWrite.{MonitorWrite}
use Rattle.fl_core.specs.declared.answer.MonitorWrite.TheVariants as write
use Rattle.fl_core.specs.declared.answer.MonitorAnswer.{MonitorAnswer}
use Rattle.fl_core.specs.declared.answer.MonitorAnswer.TheVariants as answered
use Rattle.fl_core.specs.declared.answer.LinkFront.{LinkFront}
use Rattle.fl_core.specs.declared.answer.LinkFront.TheVariants.{Nothing, Acknowledged, Message, Onward, Arrival}
use Rattle.fl_core.specs.declared.fault.LinkReceiveFault.{LinkReceiveFault}
use Rattle.fl_core.specs.declared.fault.LinkReceiveFault.TheVariants as link
use Rattle.fl_lists.specs.ThreeLists.{ThreeLists}
use Rattle.fl_core.specs.View.{TheCore}
use Rattle.fl_core.specs.Ends.{at_side, WritesAt}
use Rattle.fl_core.specs.BoardView.{TheBoard}
use Rattle.fl_core.specs.BoardEvents.{Acks}
use Rattle.fl_core.specs.BoardTurns.{WaitsIn, lent, moment, over, TakesOne, Gives, Examines, LooksAt, Turns}
use Rattle.fl_core.specs.Links.{MonitorWrites, LinkOf, Seen, Going, GoesOver, LooksAhead, Inbound, ArrivesAt, Acknowledges}
use Rattle.fl_core.specs.Hearing.{TakesHeard}
use Rattle.fl_core_run.specs.Run.{SideRelations}

-- Over the other kind of sides these are the side before and the side after, each step from the one to the other is
-- one, and two steps are two.
pub record Carried {S T : Type 0} (m : S → T) (w : SideRelations S) (w2 : SideRelations T) (p q : S) : Type 0 where
  pub put : (look : Look) → w.puts p look q → w2.puts (m p) look (m q)
  pub take : (look : Look) → w.takes p look q → w2.takes (m p) look (m q)
  pub takes : (x : S) (one two : Look) → w.takes p one x → w.takes x two q → w2.takes (m p) one (m x) × w2.takes (m x) two (m q)
  pub front : w2.front (m q) ≡ w.front q

module _ {S T : Type 0} (m : S → T) (w : SideRelations S) (w2 : SideRelations T) (p q : S) (c : Carried m w w2 p q) where
  same : q ≡ p → m q ≡ m p
  same is = ap m is

  -- ---- links

  finds_carried : (at : LinkOfTable) (answer : Result HopFront HopFault) → Finds w.takes w.front at answer (record { before = p; after = q })
      → Finds w2.takes w2.front at answer (record { before = m p; after = m q })
  finds_carried at (Ok first.Nothing) f = c.take missed f
  finds_carried at (Ok first.Acknowledged) f = let two = c.takes f.0 saw_ack found_ack f.1 f.2 in (m f.0, two.0, two.1)
  finds_carried at (Ok (first.Monitor frag)) f = (c.take _ f.0, c.front ∙ f.1, f.2)
  finds_carried at (Ok (first.Goes frag way)) f = (c.take _ f.0, c.front ∙ f.1, f.2, f.3, f.4, f.5)
  finds_carried at (Err hop.Misrouted) f = (f.0, c.take _ f.1, f.2, f.3)
  finds_carried at (Err hop.Marked) f = (f.0, f.1, c.take _ f.2, f.3, f.4, f.5)
  finds_carried at (Err hop.NoLink) f = absurd f
  finds_carried at (Err hop.UsedUp) f = absurd f
  finds_carried at (Err hop.Limit) f = absurd f
  finds_carried at (Err hop.Memory) f = absurd f

  seen_carried : (at : LinkOf) (answer : Result HopFront HopFault) → Seen w.takes w.front at answer p q → Seen w2.takes w2.front at answer (m p) (m q)
  seen_carried at answer seen = record { link_side = seen.link_side; finds = finds_carried (record { table = at.core.monitor.circuits; link = at.link }) answer seen.finds }

  over_carried : (at : LinkOf) (x : Going) → GoesOver w.takes w.front at x p q → GoesOver w2.takes w2.front at x (m p) (m q)
  over_carried at x goes = record { link = goes.link; seen = seen_carried at _ goes.seen; side_is = goes.side_is }

  pub looks_carried : (l : ℕ) (k k2 : TheCore) (answer : Result LinkFront LinkReceiveFault) → LooksAhead w.takes w.front l (at_side k p) answer (at_side k2 q)
      → LooksAhead w2.takes w2.front l (at_side k (m p)) answer (at_side k2 (m q))
  looks_carried l k k2 (Ok Nothing) f = (seen_carried _ _ f.0, f.1)
  looks_carried l k k2 (Ok Acknowledged) f = (seen_carried _ _ f.0, f.1)
  looks_carried l k k2 (Ok (Message frag)) f = (seen_carried _ _ f.0, f.1)
  looks_carried l k k2 (Ok (Onward frag side circuit)) f = (over_carried _ _ f.0, f.1)
  looks_carried l k k2 (Ok (Arrival frag e)) f = (seen_carried _ _ f.0, f.1)
  looks_carried l k k2 (Err link.Failed) f = (f.0, f.1, same f.2)
  looks_carried l k k2 (Err link.Misrouted) f = (seen_carried _ _ f.0, f.1)
  looks_carried l k k2 (Err link.Marked) f = (seen_carried _ _ f.0, f.1)
  looks_carried l k k2 (Err (link.Wire x)) f = absurd f
  looks_carried l k k2 (Err link.Memory) f = absurd f

  leaves_carried : (answer : ForwardOutcome) (frag : Frag) → Leaves w.takes answer frag (record { before = p; after = q })
      → Leaves w2.takes answer frag (record { before = m p; after = m q })
  leaves_carried outcome.Moved frag f = c.take _ f
  leaves_carried outcome.Full frag f = same f
  leaves_carried outcome.Spent frag f = same f

  pub arrives_carried : (x : Inbound) (k k2 : TheCore) (answer : Result ForwardOutcome LinkReceiveFault) → ArrivesAt w.takes x (at_side k p) answer (at_side k2 q)
      → ArrivesAt w2.takes x (at_side k (m p)) answer (at_side k2 (m q))
  arrives_carried x k k2 (Ok answer) f = record {
    end = f.end;
    queue = f.queue;
    at = f.at;
    before = f.before;
    before_is = f.before_is;
    after = f.after;
    puts = f.puts;
    left = leaves_carried answer _ f.left;
    triggers = f.triggers;
    rest = f.rest;
  }
  arrives_carried x k k2 (Err link.Misrouted) f = (f.0, f.1, same f.2)
  arrives_carried x k k2 (Err link.Failed) f = absurd f
  arrives_carried x k k2 (Err link.Marked) f = absurd f
  arrives_carried x k k2 (Err (link.Wire y)) f = absurd f
  arrives_carried x k k2 (Err link.Memory) f = absurd f

  pub heard_carried : (frag : Frag) (answer : Result MonitorAnswer LinkReceiveFault) → TakesHeard w.takes frag p answer q → TakesHeard w2.takes frag (m p) answer (m q)
  heard_carried frag (Ok answered.Full) f = same f
  heard_carried frag (Ok answered.Done) f = c.take _ f
  heard_carried frag (Ok (answered.Opened e)) f = c.take _ f
  heard_carried frag (Ok (answered.OpeningRefused e reason)) f = c.take _ f
  heard_carried frag (Err x) f = same f

  pub said_carried : (l : ℕ) (k k2 : TheCore) (answer : MonitorWrite) → MonitorWrites w.puts l (at_side k p) answer (at_side k2 q)
      → MonitorWrites w2.puts l (at_side k (m p)) answer (at_side k2 (m q))
  said_carried l k k2 write.Written f = (f.0, f.1, f.2, c.put _ f.3, f.4)
  said_carried l k k2 write.Full f = (f.0, c.put _ f.1, f.2)
  said_carried l k k2 write.Spent f = (f.0, c.put _ f.1, f.2)
  said_carried l k k2 write.Nothing f = (f.0, f.1, same f.2)

  pub told_carried : (answer : AckAnswer) → Acknowledges w.takes p answer q → Acknowledges w2.takes (m p) answer (m q)
  told_carried ack.Done f = c.take _ f
  told_carried ack.Nothing f = c.take _ f
  told_carried ack.Full f = c.take _ f

  -- ---- ends

  writes_carried : (s : TheEnd) (answer : Result WriteAnswer EndFault) (t : TheEnd) → Writes w.puts s p answer t q → Writes w2.puts s (m p) answer t (m q)
  writes_carried s (Ok (wrote.Written number count)) t f =
      (f.0, (f.1.0, f.1.1, f.1.2, f.1.3, f.1.4, c.put _ f.1.5, f.1.6))
  writes_carried s (Ok wrote.Full) t f = (f.0, f.1, c.put _ f.2, f.3)
  writes_carried s (Ok wrote.Nothing) t f = (f.0, f.1, same f.2, f.3)
  writes_carried s (Err fault.Spent) t f = (f.0, f.1, c.put _ f.2, f.3)
  writes_carried s (Err fault.NotBound) t f = (f.0, same f.1, f.2)
  writes_carried s (Err fault.Failed) t f = (f.0, same f.1, f.2)
  writes_carried s (Err fault.Busy) t f = absurd f
  writes_carried s (Err fault.UnknownMessage) t f = absurd f
  writes_carried s (Err fault.Misfit) t f = absurd f
  writes_carried s (Err (fault.Wire x)) t f = absurd f
  writes_carried s (Err fault.Memory) t f = absurd f

  pub wrote_carried : (e : ℕ) (k k2 : TheCore) (answer : Result WriteAnswer EndFault) → WritesAt w.puts e (at_side k p) answer (at_side k2 q)
      → WritesAt w2.puts e (at_side k (m p)) answer (at_side k2 (m q))
  wrote_carried e k k2 answer f = record {
    wrote = f.wrote;
    writes = record {
      seat = f.writes.seat;
      seat_is = f.writes.seat_is;
      end = f.writes.end;
      event = writes_carried f.writes.seat.end answer f.writes.end f.writes.event;
      board = f.writes.board;
    };
    triggers = f.triggers;
    rest = f.rest;
  }

  pub acks_carried : (kind : ChannelKind) (s : TheEnd) (answer : Result AckAnswer BoardFault) → Acks w.takes kind s p answer q → Acks w2.takes kind s (m p) answer (m q)
  acks_carried Ring s (Ok ack.Done) f = (f.0, c.take _ f.1)
  acks_carried Ring s (Ok ack.Nothing) f = (f.0, c.take _ f.1)
  acks_carried Ring s (Ok ack.Full) f = (f.0, c.take _ f.1)
  acks_carried Queue s (Ok ack.Done) f = absurd f
  acks_carried Queue s (Ok ack.Nothing) f = (f.0, same f.1)
  acks_carried Queue s (Ok ack.Full) f = absurd f
  acks_carried Ring s (Err board.NotBound) f = (f.0, same f.1)
  acks_carried Ring s (Err board.Registered) f = absurd f
  acks_carried Ring s (Err board.NotRegistered) f = absurd f
  acks_carried Ring s (Err board.TooManyEnds) f = absurd f
  acks_carried Ring s (Err board.Failed) f = absurd f
  acks_carried Ring s (Err board.Memory) f = absurd f
  acks_carried Queue s (Err board.NotBound) f = (f.0, same f.1)
  acks_carried Queue s (Err board.Registered) f = absurd f
  acks_carried Queue s (Err board.NotRegistered) f = absurd f
  acks_carried Queue s (Err board.TooManyEnds) f = absurd f
  acks_carried Queue s (Err board.Failed) f = absurd f
  acks_carried Queue s (Err board.Memory) f = absurd f

  -- ---- turns, over a ring

  takes_carried : (s : TheEnd) (answer : ReceiveAnswer) (t : TheEnd) → Takes w.takes s p answer t q → Takes w2.takes s (m p) answer t (m q)
  takes_carried s answer t f =
      let two = c.takes f.1.1 _ _ f.1.3 f.1.4 in
      (f.0, (f.1.0, m f.1.1, f.1.2, two.0, two.1, f.1.5))

  receives_carried : (s : TheEnd) (answer : ReceiveAnswer) (t : TheEnd) → Receives w.takes s p (Ok answer) t q → Receives w2.takes s (m p) (Ok answer) t (m q)
  receives_carried s (receive.Handle call) t f = takes_carried s (receive.Handle call) t f
  receives_carried s receive.Part t f = takes_carried s receive.Part t f
  receives_carried s receive.Quiet t f =
      let two = c.takes f.1.0 saw_ack found_ack f.1.1 f.1.2 in (f.0, (m f.1.0, two.0, two.1), f.2)
  receives_carried s receive.Empty t f = (f.0, c.take missed f.1, f.2)
  receives_carried s receive.HeldBack t f = (f.0, f.1, same f.2, f.3)

  refused_carried : (s : TheEnd) (x : WireFault) (t : TheEnd) → Receives w.takes s p (Err (fault.Wire x)) t q → Receives w2.takes s (m p) (Err (fault.Wire x)) t (m q)
  refused_carried s x t f = (f.0, (f.1.0, f.1.1, c.take _ f.1.2, f.1.3))

  ring_waits : (x : S) (to : Place) → WaitsIn w.takes Ring x to q → (to ≡ place.Polled) × (q ≡ x)
  ring_waits x place.Polled waits = (refl, waits)
  ring_waits x place.Pending waits = absurd waits
  ring_waits x place.Idle waits = absurd waits

  polled : (to : Place) → to ≡ place.Polled → WaitsIn w2.takes Ring (m q) to (m q)
  polled to is = subst (λ (z : Place). WaitsIn w2.takes Ring (m q) z (m q)) (sym is) refl

  one_carried : (n : ℕ) (lists lists2 : ThreeLists) (s t : TheEnd) (answer : ReceiveAnswer) → TakesOne w.takes Ring n (moment lists s p) answer (moment lists2 t q)
      → TakesOne w2.takes Ring n (moment lists s (m p)) answer (moment lists2 t (m q))
  one_carried n lists lists2 s t answer (x, did, (to, waits, put_off_is)) =
      let stays = ring_waits x to waits in
      let did_so : Receives w.takes s p (Ok answer) t q = subst (λ (z : S). Receives w.takes s p (Ok answer) t z) (sym stays.1) did in
      (m q, receives_carried s answer t did_so, (to, polled to stays.0, put_off_is))

  gives_carried : (n : ℕ) (lists lists2 : ThreeLists) (s t : TheEnd) (answer : TurnAnswer) → Gives w.takes Ring n (moment lists s p) (Ok answer) (moment lists2 t q)
      → Gives w2.takes Ring n (moment lists s (m p)) (Ok answer) (moment lists2 t (m q))
  gives_carried n lists lists2 s t (turn.Handle call) f = one_carried n lists lists2 s t (receive.Handle call) f
  gives_carried n lists lists2 s t turn.Part f = one_carried n lists lists2 s t receive.Part f
  gives_carried n lists lists2 s t turn.Quiet f = one_carried n lists lists2 s t receive.Quiet f
  gives_carried n lists lists2 s t turn.Full f = (receives_carried s receive.HeldBack t f.0, f.1)
  gives_carried n lists lists2 s t turn.Nothing f = one_carried n lists lists2 s t receive.Empty f
  gives_carried n lists lists2 s t (turn.Refused x) f = (refused_carried s x t f.0, f.1)
  gives_carried n lists lists2 s t turn.Ready f = absurd f

  examines_carried : (n : ℕ) (lists lists2 : ThreeLists) (answer : TurnAnswer) → Examines w.takes n (lent lists p) (Ok answer) (lent lists2 q)
      → Examines w2.takes n (lent lists (m p)) (Ok answer) (lent lists2 (m q))
  examines_carried n lists lists2 turn.Ready f = ((f.0.0, c.take _ f.0.1), f.1)
  examines_carried n lists lists2 turn.Quiet f = (
    ⊎_elim
        (λ none. inl (c.take missed none))
        (λ acknowledged. let two = c.takes acknowledged.0 saw_ack found_ack acknowledged.1 acknowledged.2 in inr (m acknowledged.0, two.0, two.1))
        f.0,
    f.1,
  )
  examines_carried n lists lists2 (turn.Handle call) f = absurd f
  examines_carried n lists lists2 turn.Part f = absurd f
  examines_carried n lists lists2 turn.Full f = absurd f
  examines_carried n lists lists2 turn.Nothing f = absurd f
  examines_carried n lists lists2 (turn.Refused x) f = absurd f

  at_carried : (picked : Pick) (lists lists2 : ThreeLists) (s t : TheEnd) (answer : TurnAnswer)
      → LooksAt w.takes picked Ring (moment lists s p) (Ok answer) (moment lists2 t q)
      → LooksAt w2.takes picked Ring (moment lists s (m p)) (Ok answer) (moment lists2 t (m q))
  at_carried (pick.Pending n) lists lists2 s t answer f = gives_carried n.0 lists lists2 s t answer f
  at_carried (pick.Polled n) lists lists2 s t answer f = (examines_carried n.0 lists lists2 answer f.0, f.1)

  pub turns_carried : (d e : ℕ) (b b2 : TheBoard) (answer : TurnAnswer) (f : Turns w.takes d e (over b p) (Ok answer) (over b2 q)) → f.seat.kind ≡ Ring
      → Turns w2.takes d e (over b (m p)) (Ok answer) (over b2 (m q))
  turns_carried d e b b2 answer f kind = record {
    dispatcher = f.dispatcher;
    dispatcher_is = f.dispatcher_is;
    picked = f.picked;
    picked_is = f.picked_is;
    end_is = f.end_is;
    seat = f.seat;
    seat_is = f.seat_is;
    lists = f.lists;
    end = f.end;
    looks =
        subst (λ (x : ChannelKind). LooksAt w2.takes f.picked x (moment f.dispatcher.lists f.seat.end (m p)) (Ok answer) (moment f.lists f.end (m q))) (sym kind)
        (at_carried f.picked f.dispatcher.lists f.lists f.seat.end f.end answer
        (subst (λ (x : ChannelKind). LooksAt w.takes f.picked x (moment f.dispatcher.lists f.seat.end p) (Ok answer) (moment f.lists f.end q)) kind f.looks));
    board = f.board;
  }
