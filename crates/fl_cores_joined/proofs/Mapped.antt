-- What an end, a board or a core comes to over one kind of side it comes to over another, of which each step is the
-- first one's.
use Rattle.std.proofs.Common.{◌≡◌, inl, inr, sym, ap, subst, ℕ}
use Rattle.std.specs.Prelude.{Result, Ok, Err}
use Rattle.std.specs.declared.alloc.AllocError.{AllocError}
use Rattle.fl_lists.specs.declared.place.Place.{Place}
use Rattle.fl_lists.specs.declared.place.Place.TheVariants as place
use Rattle.fl_waitset.specs.declared.waitset.Pick.{Pick}
use Rattle.fl_waitset.specs.declared.waitset.Pick.TheVariants as pick
use Rattle.fl_link.specs.Looks.{Look, placed, no_room, spent, saw, saw_ack, found, found_ack, missed, told, kept}
use Rattle.fl_endpoint.specs.declared.fault.EndFault.{EndFault}
use Rattle.fl_endpoint.specs.declared.fault.EndFault.TheVariants.{Spent, NotBound, Failed, Wire, Memory}
use Rattle.fl_endpoint.specs.declared.answer.WriteAnswer.{WriteAnswer}
use Rattle.fl_endpoint.specs.declared.answer.WriteAnswer.TheVariants.{Written, Full, Nothing}
use Rattle.fl_endpoint.specs.declared.answer.ReceiveAnswer.{ReceiveAnswer}
use Rattle.fl_endpoint.specs.declared.answer.ReceiveAnswer.TheVariants as receive
use Rattle.fl_endpoint.specs.View.{TheEnd}
use Rattle.fl_endpoint.specs.Events.{Writes, Takes, Leaves, Receives}
use Rattle.fl_core.specs.declared.kind.ChannelKind.{ChannelKind}
use Rattle.fl_core.specs.declared.kind.ChannelKind.TheVariants.{Queue, Ring}
use Rattle.fl_core.specs.declared.turn_answer.TurnAnswer.{TurnAnswer}
use Rattle.fl_core.specs.declared.turn_answer.TurnAnswer.TheVariants as turn
use Rattle.fl_core.specs.declared.turn_answer.AckAnswer.{AckAnswer}
use Rattle.fl_core.specs.declared.turn_answer.AckAnswer.TheVariants as ack
use Rattle.fl_core.specs.declared.board_fault.BoardFault.{BoardFault}
use Rattle.fl_core.specs.declared.board_fault.BoardFault.TheVariants as board
use Rattle.fl_core.specs.declared.answer.MonitorWrite.{MonitorWrite}
use Rattle.fl_core.specs.declared.answer.MonitorWrite.TheVariants as write
use Rattle.fl_core.specs.BoardView.{TheBoard}
use Rattle.fl_core.specs.BoardEvents.{Acks}
use Rattle.fl_core.specs.BoardTurns.{WaitsIn, lent, moment, over, TakesOne, Gives, IsQuiet, Examines, LooksAt, Turns}
use Rattle.fl_core.specs.View.{TheCore}
use Rattle.fl_core.specs.Ends.{at_side, WritesAt}
use Rattle.fl_core.specs.Links.{MonitorWrites, Acknowledges}
use Rattle.fl_lists.specs.ThreeLists.{ThreeLists}

-- a step from a good side is the other's, and leads to a good one
abbrev pub Maps : {P Q : Type 0} → (P → Type 0) → (P → Q) → (P → Look → P → Type 0) → (Q → Look → Q → Type 0) → Type 0
Maps {P} Good m steps steps2 = (p q : P) (look : Look) → Good p → steps p look q → steps2 (m p) look (m q) × Good q

module _ {P Q : Type 0} (Good : P → Type 0) (m : P → Q) (puts : P → Look → P → Type 0) (puts2 : Q → Look → Q → Type 0) (maps : Maps Good m puts puts2) where
  still : (p q : P) → q ≡ p → Good p → (m q ≡ m p) × Good q
  still p q e g = (ap m e, subst Good (sym e) g)

  writes : (s t : TheEnd) (p q : P) (r : Result WriteAnswer EndFault) → Good p → Writes puts s p r t q → Writes puts2 s (m p) r t (m q) × Good q
  writes s t p q (Ok (Written number count)) g (ready, (f, rest, u, c, n, put, e)) =
      let x = maps p q (placed f) g put in ((ready, (f, rest, u, c, n, x.0, e)), x.1)
  writes s t p q (Ok Full) g (ready, some, put, e) = let x = maps p q no_room g put in ((ready, some, x.0, e), x.1)
  writes s t p q (Ok Nothing) g (ready, none, same, e) = let x = still p q same g in ((ready, none, x.0, e), x.1)
  writes s t p q (Err Spent) g (ready, some, put, e) = let x = maps p q spent g put in ((ready, some, x.0, e), x.1)
  writes s t p q (Err NotBound) g (unbound, same, e) = let x = still p q same g in ((unbound, x.0, e), x.1)
  writes s t p q (Err Failed) g (failed, same, e) = let x = still p q same g in ((failed, x.0, e), x.1)
  writes s t p q (Err fault) g h = absurd h

  pub writes_at : (e : ℕ) (k k2 : TheCore) (p q : P) (r : Result WriteAnswer EndFault) → Good p → WritesAt puts e (at_side k p) r (at_side k2 q)
      → WritesAt puts2 e (at_side k (m p)) r (at_side k2 (m q)) × Good q
  writes_at e k k2 p q r g h =
      let x = writes h.writes.seat.end h.writes.end p q r g h.writes.event in (
        record {
          wrote = h.wrote;
          writes = record { seat = h.writes.seat; seat_is = h.writes.seat_is; end = h.writes.end; event = x.0; board = h.writes.board };
          triggers = h.triggers;
          rest = h.rest;
        },
        x.1,
      )

  pub monitor_writes : (l : ℕ) (k k2 : TheCore) (p q : P) (r : MonitorWrite) → Good p → MonitorWrites puts l (at_side k p) r (at_side k2 q)
      → MonitorWrites puts2 l (at_side k (m p)) r (at_side k2 (m q)) × Good q
  monitor_writes l k k2 p q write.Written g (f, rest, w, put, e) = let x = maps p q (placed f) g put in ((f, rest, w, x.0, e), x.1)
  monitor_writes l k k2 p q write.Full g (some, put, e) = let x = maps p q no_room g put in ((some, x.0, e), x.1)
  monitor_writes l k k2 p q write.Spent g (some, put, e) = let x = maps p q spent g put in ((some, x.0, e), x.1)
  monitor_writes l k k2 p q write.Nothing g (none, e, same) = let x = still p q same g in ((none, e, x.0), x.1)

module _ {P Q : Type 0} (Good : P → Type 0) (m : P → Q) (takes : P → Look → P → Type 0) (takes2 : Q → Look → Q → Type 0) (maps : Maps Good m takes takes2) where
  stays : (p q : P) → q ≡ p → Good p → (m q ≡ m p) × Good q
  stays p q e g = (ap m e, subst Good (sym e) g)

  -- ---- an end receives

  takes_so : (s t : TheEnd) (p q : P) (r : ReceiveAnswer) → Good p → Takes takes s p r t q → Takes takes2 s (m p) r t (m q) × Good q
  takes_so s t p q r g (opens, (f, mid, b, sees, gets, in_it)) =
      let x = maps p mid (saw f) g sees in
      let y = maps mid q (found f) x.1 gets in
      ((opens, (f, m mid, b, x.0, y.0, in_it)), y.1)

  leaves_so : (s t : TheEnd) (p q : P) (fault : EndFault) → Good p → Leaves takes s p fault t q → Leaves takes2 s (m p) fault t (m q) × Good q
  leaves_so s t p q fault g (opens, (f, b, sees, in_it)) =
      let x = maps p q (saw f) g sees in
      ((opens, (f, b, x.0, in_it)), x.1)

  receives : (s t : TheEnd) (p q : P) (r : Result ReceiveAnswer EndFault) → Good p → Receives takes s p r t q
      → Receives takes2 s (m p) r t (m q) × Good q
  receives s t p q (Ok (receive.Handle call)) g h = takes_so s t p q (receive.Handle call) g h
  receives s t p q (Ok receive.Part) g h = takes_so s t p q receive.Part g h
  receives s t p q (Ok receive.Quiet) g (opens, (mid, sees, gets), e) =
      let x = maps p mid saw_ack g sees in
      let y = maps mid q found_ack x.1 gets in
      ((opens, (m mid, x.0, y.0), e), y.1)
  receives s t p q (Ok receive.Empty) g (opens, misses, e) = let x = maps p q missed g misses in ((opens, x.0, e), x.1)
  receives s t p q (Ok receive.HeldBack) g (ready, holds, same, e) = let x = stays p q same g in ((ready, holds, x.0, e), x.1)
  receives s t p q (Err (Wire fault)) g h = leaves_so s t p q (Wire fault) g h
  receives s t p q (Err Memory) g h = leaves_so s t p q Memory g h
  receives s t p q (Err NotBound) g (unbound, same, e) = let x = stays p q same g in ((unbound, x.0, e), x.1)
  receives s t p q (Err Failed) g (failed, same, e) = let x = stays p q same g in ((failed, x.0, e), x.1)
  receives s t p q (Err fault) g h = absurd h

  -- ---- a turn

  waits_in : (kind : ChannelKind) (p q : P) (to : Place) → Good p → WaitsIn takes kind p to q → WaitsIn takes2 kind (m p) to (m q) × Good q
  waits_in Ring p q place.Polled g h = stays p q h g
  waits_in Ring p q place.Pending g h = absurd h
  waits_in Ring p q place.Idle g h = absurd h
  waits_in Queue p q place.Pending g (inl (f, sees)) = let x = maps p q (saw f) g sees in (inl (f, x.0), x.1)
  waits_in Queue p q place.Pending g (inr sees) = let x = maps p q saw_ack g sees in (inr x.0, x.1)
  waits_in Queue p q place.Idle g h = maps p q missed g h
  waits_in Queue p q place.Polled g h = absurd h

  takes_one : (kind : ChannelKind) (c : ℕ) (w v : ThreeLists) (s t : TheEnd) (p q : P) (r : ReceiveAnswer) → Good p
      → TakesOne takes kind c (moment w s p) r (moment v t q) → TakesOne takes2 kind c (moment w s (m p)) r (moment v t (m q)) × Good q
  takes_one kind c w v s t p q r g (mid, gets, (to, waits, e)) =
      let x = receives s t p mid (Ok r) g gets in
      let y = waits_in kind mid q to x.1 waits in
      ((m mid, x.0, (to, y.0, e)), y.1)

  gives : (kind : ChannelKind) (c : ℕ) (w v : ThreeLists) (s t : TheEnd) (p q : P) (r : Result TurnAnswer AllocError) → Good p
      → Gives takes kind c (moment w s p) r (moment v t q) → Gives takes2 kind c (moment w s (m p)) r (moment v t (m q)) × Good q
  gives kind c w v s t p q (Ok (turn.Handle call)) g h = takes_one kind c w v s t p q (receive.Handle call) g h
  gives kind c w v s t p q (Ok turn.Part) g h = takes_one kind c w v s t p q receive.Part g h
  gives kind c w v s t p q (Ok turn.Quiet) g h = takes_one kind c w v s t p q receive.Quiet g h
  gives kind c w v s t p q (Ok turn.Full) g (gets, e) = let x = receives s t p q (Ok receive.HeldBack) g gets in ((x.0, e), x.1)
  gives kind c w v s t p q (Ok turn.Nothing) g h = takes_one kind c w v s t p q receive.Empty g h
  gives kind c w v s t p q (Ok (turn.Refused fault)) g (gets, e) = let x = receives s t p q (Err (Wire fault)) g gets in ((x.0, e), x.1)
  gives kind c w v s t p q (Ok turn.Ready) g h = absurd h
  gives kind c w v s t p q (Err error) g (gets, e) = let x = receives s t p q (Err Memory) g gets in ((x.0, e), x.1)

  quiet : (p q : P) → Good p → IsQuiet takes p q → IsQuiet takes2 (m p) (m q) × Good q
  quiet p q g (inl misses) = let x = maps p q missed g misses in (inl x.0, x.1)
  quiet p q g (inr (mid, sees, gets)) =
      let x = maps p mid saw_ack g sees in
      let y = maps mid q found_ack x.1 gets in
      (inr (m mid, x.0, y.0), y.1)

  examines : (c : ℕ) (w v : ThreeLists) (p q : P) (r : Result TurnAnswer AllocError) → Good p → Examines takes c (lent w p) r (lent v q)
      → Examines takes2 c (lent w (m p)) r (lent v (m q)) × Good q
  examines c w v p q (Ok turn.Ready) g ((f, sees), e) = let x = maps p q (saw f) g sees in (((f, x.0), e), x.1)
  examines c w v p q (Ok turn.Quiet) g (h, e) = let x = quiet p q g h in ((x.0, e), x.1)
  examines c w v p q answer g h = absurd h

  looks_at : (picked : Pick) (kind : ChannelKind) (w v : ThreeLists) (s t : TheEnd) (p q : P) (r : Result TurnAnswer AllocError) → Good p
      → LooksAt takes picked kind (moment w s p) r (moment v t q) → LooksAt takes2 picked kind (moment w s (m p)) r (moment v t (m q)) × Good q
  looks_at (pick.Pending c) kind w v s t p q r g h = gives kind c.0 w v s t p q r g h
  looks_at (pick.Polled c) kind w v s t p q r g (h, e) = let x = examines c.0 w v p q r g h in ((x.0, e), x.1)

  pub turns : (d e : ℕ) (b c : TheBoard) (p q : P) (r : Result TurnAnswer AllocError) → Good p → Turns takes d e (over b p) r (over c q)
      → Turns takes2 d e (over b (m p)) r (over c (m q)) × Good q
  turns d e b c p q r g h =
      let x = looks_at h.picked h.seat.kind h.dispatcher.lists h.lists h.seat.end h.end p q r g h.looks in (
        record {
          dispatcher = h.dispatcher;
          dispatcher_is = h.dispatcher_is;
          picked = h.picked;
          picked_is = h.picked_is;
          end_is = h.end_is;
          seat = h.seat;
          seat_is = h.seat_is;
          lists = h.lists;
          end = h.end;
          looks = x.0;
          board = h.board;
        },
        x.1,
      )

  -- ---- what was taken is told

  pub acks : (kind : ChannelKind) (s : TheEnd) (p q : P) (r : Result AckAnswer BoardFault) → Good p → Acks takes kind s p r q
      → Acks takes2 kind s (m p) r (m q) × Good q
  acks Ring s p q (Ok ack.Done) g (is, h) = let x = maps p q told g h in ((is, x.0), x.1)
  acks Ring s p q (Ok ack.Nothing) g (is, h) = let x = maps p q kept g h in ((is, x.0), x.1)
  acks Ring s p q (Ok ack.Full) g (is, h) = let x = maps p q no_room g h in ((is, x.0), x.1)
  acks Queue s p q (Ok ack.Nothing) g (is, same) = let x = stays p q same g in ((is, x.0), x.1)
  acks Ring s p q (Err board.NotBound) g (is, same) = let x = stays p q same g in ((is, x.0), x.1)
  acks Queue s p q (Err board.NotBound) g (is, same) = let x = stays p q same g in ((is, x.0), x.1)
  acks kind s p q answer g h = absurd h

  pub acknowledges : (p q : P) (r : AckAnswer) → Good p → Acknowledges takes p r q → Acknowledges takes2 (m p) r (m q) × Good q
  acknowledges p q ack.Done g h = maps p q told g h
  acknowledges p q ack.Nothing g h = maps p q kept g h
  acknowledges p q ack.Full g h = maps p q no_room g h
