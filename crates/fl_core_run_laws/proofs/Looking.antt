-- Sides of rings change by looks, puts and takes alone.
use Rattle.std.proofs.Common.{◌≡◌, ◌≢◌, refl, sym, ap, ◌∙◌, subst, ℕ, ◌==◌, inl, inr, List, [], ◌∷◌, ◌++◌, take, slice_get, slice_set}
use Rattle.std.proofs.Common.{Some, Bool, true, false, Result, Ok, Err, arith}
use Rattle.std.proofs.lemmas.Bool.Decides.{nat_tests}
use Rattle.std.proofs.lemmas.List.{append-nil}
use Rattle.std.proofs.lemmas.Grind.{flat_map-append}
use Rattle.fl_base.specs.Control.{bare}
use Rattle.std.specs.declared.alloc.AllocError.{AllocError}
use Rattle.fl_base.specs.declared.fragment.Frag.{Frag}
use Rattle.fl_base.specs.declared.identity.EndId.{EndId}
use Rattle.fl_link.specs.Looks.{Look, Looks, LinkStep, put_in, took_in, puts_of, takes_of}
use Rattle.fl_core.proofs.BoardPlaces.{one_stands, set_here, set_elsewhere}
use Rattle.fl_core.specs.declared.kind.ChannelKind.{ChannelKind}
use Rattle.fl_core.specs.declared.kind.ChannelKind.TheVariants as kind
use Rattle.fl_core.specs.declared.turn_answer.TurnAnswer.{TurnAnswer}
use Rattle.fl_core.specs.declared.turn_answer.TurnAnswer.TheVariants as turn
use Rattle.fl_core.specs.declared.turn_answer.AckAnswer.{AckAnswer}
use Rattle.fl_core.specs.declared.turn_answer.AckAnswer.TheVariants as ack
use Rattle.fl_core.specs.declared.board_fault.BoardFault.{BoardFault}
use Rattle.fl_core.specs.declared.board_fault.BoardFault.TheVariants as board
use Rattle.fl_core.specs.BoardEvents.{Acks}
use Rattle.fl_core.specs.BoardTurns.{WaitsIn, ListsAndSide, EndMoment, TakesOne, Examines, LooksAt}
use Rattle.fl_endpoint.specs.View.{TheEnd}
use Rattle.fl_endpoint.specs.Events.{Writes, Receives}
use Rattle.fl_endpoint.specs.declared.fault.EndFault.{EndFault}
use Rattle.fl_endpoint.specs.declared.fault.EndFault.TheVariants as fault
use Rattle.fl_endpoint.specs.declared.answer.WriteAnswer.{WriteAnswer}
use Rattle.fl_endpoint.specs.declared.answer.WriteAnswer.TheVariants as write
use Rattle.fl_endpoint.specs.declared.answer.ReceiveAnswer.{ReceiveAnswer}
use Rattle.fl_endpoint.specs.declared.answer.ReceiveAnswer.TheVariants as receive
use Rattle.fl_lists.specs.declared.place.Place.{Place}
use Rattle.fl_lists.specs.declared.place.Place.TheVariants as place
use Rattle.fl_waitset.specs.declared.waitset.Pick.{Pick}
use Rattle.fl_waitset.specs.declared.waitset.Pick.TheVariants as pick
use Rattle.fl_hop.specs.declared.forward.ForwardOutcome.{ForwardOutcome}
use Rattle.fl_hop.specs.declared.forward.ForwardOutcome.TheVariants.{Moved, Full, Spent}
use Rattle.fl_monitor.specs.Monitors.{waiting_for}
use Rattle.fl_core.specs.View.{TheCore}
use Rattle.fl_core.specs.Links.{MonitorWrites, LooksAhead, inbound, ArrivesAt, Acknowledges}
use Rattle.fl_core.specs.Hearing.{TakesHeard}
use Rattle.fl_core.specs.declared.answer.LinkFront.{LinkFront}
use Rattle.fl_core.specs.declared.answer.LinkFront.TheVariants as ahead
use Rattle.fl_core.specs.declared.answer.MonitorWrite.{MonitorWrite}
use Rattle.fl_core.specs.declared.answer.MonitorWrite.TheVariants as said_as
use Rattle.fl_core.specs.declared.answer.MonitorAnswer.{MonitorAnswer}
use Rattle.fl_core.specs.declared.answer.MonitorAnswer.TheVariants as heard_as
use Rattle.fl_core.specs.declared.fault.LinkReceiveFault.{LinkReceiveFault}
use Rattle.fl_core.specs.declared.fault.LinkReceiveFault.TheVariants as link
use Rattle.fl_core.specs.declared.wiring.Outlet.TheVariants as outlet
use Rattle.fl_core.specs.declared.wiring.Inlet.TheVariants as inlet
use Rattle.fl_core.specs.Ends.{at_side}
use Rattle.fl_core.specs.declared.core_job.CoreJob.{CoreJob}
use Rattle.fl_core_run.specs.Run.{SideRelations, TheRun}
use Rattle.fl_core_run.specs.LogEntries.{LogEntry, looked, passed, arrived, heard, said, told, opened, called, ruled, wrote, acked, turned, OnRing, Does}
use Rattle.fl_core_run_laws.specs.Logs.{Goes, Looked, Carries, SidesGo}
use Rattle.fl_core_run_laws.proofs.Aside.{rings_aside}

-- a fragment, if it arrived; if it was heard
abbrev pub if_arrived : Result ForwardOutcome LinkReceiveFault → Frag → List Frag
if_arrived (Ok Moved) frag = frag ∷ []
if_arrived answer frag = []

abbrev pub if_heard : Result MonitorAnswer LinkReceiveFault → Frag → List Frag
if_heard (Ok heard_as.Full) frag = []
if_heard (Ok answered) frag = frag ∷ []
if_heard (Err fault) frag = []

-- the first of these, if it was said; if it was written
abbrev pub if_said : MonitorWrite → List Frag → List Frag
if_said said_as.Written frags = take 1 frags
if_said answer frags = []

abbrev pub if_wrote : Result WriteAnswer EndFault → List Frag → List Frag
if_wrote (Ok (write.Written number count)) frags = take 1 frags
if_wrote answer frags = []

-- the fragment that was taken by a receive, and by a turn
abbrev pub received : {T : Type 0} (takes : T → Look → T → Type 0) (s : TheEnd) (p : T) (answer : Result ReceiveAnswer EndFault) (t : TheEnd) (q : T) → Receives takes s p answer t q → List Frag
received takes s p (Ok (receive.Handle call)) t q h = h.1.0 ∷ []
received takes s p (Ok receive.Part) t q h = h.1.0 ∷ []
received takes s p answer t q h = []

abbrev pub turn_took : {T : Type 0} (takes : T → Look → T → Type 0) (picked : Pick) (kind : ChannelKind) (a : EndMoment T) (answer : TurnAnswer) (b : EndMoment T) → LooksAt takes picked kind a (Ok answer) b → List Frag
turn_took takes (pick.Pending c) kind a (turn.Handle call) b h = h.1.1.0 ∷ []
turn_took takes (pick.Pending c) kind a turn.Part b h = h.1.1.0 ∷ []
turn_took takes picked kind a answer b h = []

module _ {S : Type 0} (puts takes : S → Look → S → Type 0) where
  pub stay : (p q : S) → q ≡ p → Looked puts takes p q
  stay p q same = ([], sym same)

  join : (xs ys : List Look) (p m q : S) → Looks (LinkStep puts takes) p xs m → Looks (LinkStep puts takes) m ys q → Looks (LinkStep puts takes) p (xs ++ ys) q
  join [] ys p m q g h = subst (λ (x : S). Looks (LinkStep puts takes) x ys q) (sym g) h
  join (x ∷ xs) ys p m q g h = (g.0, g.1, join xs ys g.0 m q g.2 h)

  pub looked_then : (p m q : S) → Looked puts takes p m → Looked puts takes m q → Looked puts takes p q
  looked_then p m q g h = (g.0 ++ h.0, join g.0 h.0 p m q g.1 h.1)

  -- ---- what was put and taken by looks

  abbrev pub Bears : List Frag → List Frag → S → S → Type 0
  Bears put took p q = Carries puts takes put took p q

  pub looked_of : (put took : List Frag) (p q : S) → Bears put took p q → Looked puts takes p q
  looked_of put took p q h = (h.looks, h.led)

  pub idle : (p q : S) → q ≡ p → Bears [] [] p q
  idle p q same = record { looks = []; led = sym same; put_is = refl; took_is = refl }

  pub put_one : (p q : S) (look : Look) → puts p look q → Bears (put_in look) (took_in look) p q
  put_one p q look h = record { looks = look ∷ []; led = (q, inl h, refl); put_is = append-nil (put_in look); took_is = append-nil (took_in look) }

  pub take_one : (p q : S) (look : Look) → takes p look q → Bears (put_in look) (took_in look) p q
  take_one p q look h = record { looks = look ∷ []; led = (q, inr h, refl); put_is = append-nil (put_in look); took_is = append-nil (took_in look) }

  pub bears_then : (a b c d : List Frag) (p m q : S) → Bears a b p m → Bears c d m q → Bears (a ++ c) (b ++ d) p q
  bears_then a b c d p m q g h = record {
    looks = g.looks ++ h.looks;
    led = join g.looks h.looks p m q g.led h.led;
    put_is = flat_map-append put_in g.looks h.looks ∙ ap (λ (xs : List Frag). xs ++ puts_of h.looks) g.put_is ∙ ap (λ (xs : List Frag). a ++ xs) h.put_is;
    took_is = flat_map-append took_in g.looks h.looks ∙ ap (λ (xs : List Frag). xs ++ takes_of h.looks) g.took_is ∙ ap (λ (xs : List Frag). b ++ xs) h.took_is;
  }

  pub take_two : (p m q : S) (a b : Look) → takes p a m → takes m b q → Bears (put_in a ++ put_in b) (took_in a ++ took_in b) p q
  take_two p m q a b g h = bears_then (put_in a) (took_in a) (put_in b) (took_in b) p m q (take_one p m a g) (take_one m q b h)

  -- ---- parts of events

  pub ahead_looks : (front : S → Look) (l : ℕ) (k : TheCore) (p : S) (answer : Result LinkFront LinkReceiveFault) (k2 : TheCore) (q : S) → LooksAhead takes front l (at_side k p) answer (at_side k2 q) → Bears [] [] p q
  ahead_looks front l k p (Ok ahead.Nothing) k2 q h = take_one p q _ h.0.finds
  ahead_looks front l k p (Ok ahead.Acknowledged) k2 q h = take_two p h.0.finds.0 q _ _ h.0.finds.1 h.0.finds.2
  ahead_looks front l k p (Ok (ahead.Message frag)) k2 q h = take_one p q _ h.0.finds.0
  ahead_looks front l k p (Ok (ahead.Onward frag side c)) k2 q h = take_one p q _ h.0.seen.finds.0
  ahead_looks front l k p (Ok (ahead.Arrival frag e)) k2 q h = take_one p q _ h.0.finds.0
  ahead_looks front l k p (Err link.Failed) k2 q h = idle p q h.2
  ahead_looks front l k p (Err link.Misrouted) k2 q h = take_one p q _ h.0.finds.1
  ahead_looks front l k p (Err link.Marked) k2 q h = take_one p q _ h.0.finds.2
  ahead_looks front l k p (Err (link.Wire f)) k2 q h = absurd h
  ahead_looks front l k p (Err link.Memory) k2 q h = absurd h

  pub arrives_looks : (l : ℕ) (frag : Frag) (e : EndId) (k : TheCore) (p : S) (answer : Result ForwardOutcome LinkReceiveFault) (k2 : TheCore) (q : S) → ArrivesAt takes (inbound l frag e) (at_side k p) answer (at_side k2 q)
      → Bears [] (if_arrived answer (bare frag)) p q
  arrives_looks l frag e k p (Ok Moved) k2 q h = take_one p q _ h.left
  arrives_looks l frag e k p (Ok Full) k2 q h = idle p q h.left
  arrives_looks l frag e k p (Ok Spent) k2 q h = idle p q h.left
  arrives_looks l frag e k p (Err link.Misrouted) k2 q h = idle p q h.2
  arrives_looks l frag e k p (Err link.Failed) k2 q h = absurd h
  arrives_looks l frag e k p (Err link.Marked) k2 q h = absurd h
  arrives_looks l frag e k p (Err (link.Wire f)) k2 q h = absurd h
  arrives_looks l frag e k p (Err link.Memory) k2 q h = absurd h

  pub heard_looks : (frag : Frag) (p : S) (answer : Result MonitorAnswer LinkReceiveFault) (q : S) → TakesHeard takes frag p answer q → Bears [] (if_heard answer (bare frag)) p q
  heard_looks frag p (Ok heard_as.Full) q h = idle p q h
  heard_looks frag p (Ok heard_as.Done) q h = take_one p q _ h
  heard_looks frag p (Ok (heard_as.Opened e)) q h = take_one p q _ h
  heard_looks frag p (Ok (heard_as.OpeningRefused e reason)) q h = take_one p q _ h
  heard_looks frag p (Err f) q h = idle p q h

  pub said_looks : (l : ℕ) (k : TheCore) (p : S) (answer : MonitorWrite) (k2 : TheCore) (q : S) → MonitorWrites puts l (at_side k p) answer (at_side k2 q)
      → Bears (if_said answer (waiting_for k.monitor.outboxes l)) [] p q
  said_looks l k p said_as.Written k2 q h =
      subst (λ (xs : List Frag). Bears (take 1 xs) [] p q) (sym h.2) (put_one p q _ h.3)
  said_looks l k p said_as.Full k2 q h = put_one p q _ h.1
  said_looks l k p said_as.Spent k2 q h = put_one p q _ h.1
  said_looks l k p said_as.Nothing k2 q h = idle p q h.2

  pub told_looks : (p : S) (answer : AckAnswer) (q : S) → Acknowledges takes p answer q → Bears [] [] p q
  told_looks p ack.Done q h = take_one p q _ h
  told_looks p ack.Nothing q h = take_one p q _ h
  told_looks p ack.Full q h = take_one p q _ h

  pub acks_looks : (kind : ChannelKind) (s : TheEnd) (p : S) (answer : Result AckAnswer BoardFault) (q : S) → Acks takes kind s p answer q → Bears [] [] p q
  acks_looks kind.Ring s p (Ok ack.Done) q h = take_one p q _ h.1
  acks_looks kind.Ring s p (Ok ack.Nothing) q h = take_one p q _ h.1
  acks_looks kind.Ring s p (Ok ack.Full) q h = take_one p q _ h.1
  acks_looks kind.Queue s p (Ok ack.Nothing) q h = idle p q h.1
  acks_looks kind.Queue s p (Ok ack.Done) q h = absurd h
  acks_looks kind.Queue s p (Ok ack.Full) q h = absurd h
  acks_looks kind.Queue s p (Err board.NotBound) q h = idle p q h.1
  acks_looks kind.Ring s p (Err board.NotBound) q h = idle p q h.1
  acks_looks kind.Queue s p (Err board.Registered) q h = absurd h
  acks_looks kind.Queue s p (Err board.NotRegistered) q h = absurd h
  acks_looks kind.Queue s p (Err board.TooManyEnds) q h = absurd h
  acks_looks kind.Queue s p (Err board.Failed) q h = absurd h
  acks_looks kind.Queue s p (Err board.Memory) q h = absurd h
  acks_looks kind.Ring s p (Err board.Registered) q h = absurd h
  acks_looks kind.Ring s p (Err board.NotRegistered) q h = absurd h
  acks_looks kind.Ring s p (Err board.TooManyEnds) q h = absurd h
  acks_looks kind.Ring s p (Err board.Failed) q h = absurd h
  acks_looks kind.Ring s p (Err board.Memory) q h = absurd h

  -- ---- a write: what the end puts is what the side places

  pub writes_looks : (s : TheEnd) (p : S) (answer : Result WriteAnswer EndFault) (t : TheEnd) (q : S) → Writes puts s p answer t q
      → Bears (if_wrote answer s.outgoing.unwritten) [] p q
  writes_looks s p (Ok (write.Written number count)) t q h = subst (λ (xs : List Frag). Bears (take 1 xs) [] p q) (sym h.1.2) (put_one p q _ h.1.5)
  writes_looks s p (Ok write.Full) t q h = put_one p q _ h.2
  writes_looks s p (Ok write.Nothing) t q h = idle p q h.2
  writes_looks s p (Err fault.Spent) t q h = put_one p q _ h.2
  writes_looks s p (Err fault.NotBound) t q h = idle p q h.1
  writes_looks s p (Err fault.Failed) t q h = idle p q h.1
  writes_looks s p (Err fault.Busy) t q h = absurd h
  writes_looks s p (Err fault.UnknownMessage) t q h = absurd h
  writes_looks s p (Err fault.Misfit) t q h = absurd h
  writes_looks s p (Err (fault.Wire f)) t q h = absurd h
  writes_looks s p (Err fault.Memory) t q h = absurd h

  -- ---- turns

  -- one fragment is taken, with whatever comes of it, or none
  receives_looks : (s : TheEnd) (p : S) (answer : Result ReceiveAnswer EndFault) (t : TheEnd) (q : S) → (h : Receives takes s p answer t q)
      → Bears [] (received takes s p answer t q h) p q
  receives_looks s p (Ok (receive.Handle call)) t q h = take_two p h.1.1 q _ _ h.1.3 h.1.4
  receives_looks s p (Ok receive.Part) t q h = take_two p h.1.1 q _ _ h.1.3 h.1.4
  receives_looks s p (Ok receive.Quiet) t q h = take_two p h.1.0 q _ _ h.1.1 h.1.2
  receives_looks s p (Ok receive.Empty) t q h = take_one p q _ h.1
  receives_looks s p (Ok receive.HeldBack) t q h = idle p q h.2
  receives_looks s p (Err (fault.Wire f)) t q h = take_one p q _ h.1.2
  receives_looks s p (Err fault.Memory) t q h = take_one p q _ h.1.2
  receives_looks s p (Err fault.NotBound) t q h = idle p q h.1
  receives_looks s p (Err fault.Failed) t q h = idle p q h.1
  receives_looks s p (Err fault.Spent) t q h = absurd h
  receives_looks s p (Err fault.Busy) t q h = absurd h
  receives_looks s p (Err fault.UnknownMessage) t q h = absurd h
  receives_looks s p (Err fault.Misfit) t q h = absurd h

  waits_looks : (kind : ChannelKind) (p : S) (to : Place) (q : S) → WaitsIn takes kind p to q → Bears [] [] p q
  waits_looks kind.Ring p place.Polled q h = idle p q h
  waits_looks kind.Ring p place.Pending q h = absurd h
  waits_looks kind.Ring p place.Idle q h = absurd h
  waits_looks kind.Queue p place.Pending q (inl h) = take_one p q _ h.1
  waits_looks kind.Queue p place.Pending q (inr h) = take_one p q _ h
  waits_looks kind.Queue p place.Idle q h = take_one p q _ h
  waits_looks kind.Queue p place.Polled q h = absurd h

  one_looks : (kind : ChannelKind) (c : ℕ) (a : EndMoment S) (answer : ReceiveAnswer) (b : EndMoment S) → (h : TakesOne takes kind c a answer b)
      → Bears [] (received takes a.end a.side (Ok answer) b.end h.0 h.1) a.side b.side
  one_looks kind c a answer b h =
      subst (λ (xs : List Frag). Bears [] xs a.side b.side) (append-nil (received takes a.end a.side (Ok answer) b.end h.0 h.1))
      (bears_then [] (received takes a.end a.side (Ok answer) b.end h.0 h.1) [] [] a.side h.0 b.side (receives_looks a.end a.side (Ok answer) b.end h.0 h.1) (waits_looks kind h.0 h.2.0 b.side h.2.1))

  examines_looks : (c : ℕ) (a : ListsAndSide S) (answer : Result TurnAnswer AllocError) (b : ListsAndSide S) → Examines takes c a answer b → Bears [] [] a.side b.side
  examines_looks c a (Ok turn.Ready) b h = take_one a.side b.side _ h.0.1
  examines_looks c a (Ok turn.Quiet) b (inl h, lists) = take_one a.side b.side _ h
  examines_looks c a (Ok turn.Quiet) b (inr h, lists) = take_two a.side h.0 b.side _ _ h.1 h.2
  examines_looks c a (Ok (turn.Handle call)) b h = absurd h
  examines_looks c a (Ok turn.Part) b h = absurd h
  examines_looks c a (Ok turn.Full) b h = absurd h
  examines_looks c a (Ok turn.Nothing) b h = absurd h
  examines_looks c a (Ok (turn.Refused f)) b h = absurd h
  examines_looks c a (Err e) b h = absurd h

  -- what a turn took; where memory was refused it took nothing
  pub turn_looks : (picked : Pick) (kind : ChannelKind) (a : EndMoment S) (answer : TurnAnswer) (b : EndMoment S) → (h : LooksAt takes picked kind a (Ok answer) b)
      → Bears [] (turn_took takes picked kind a answer b h) a.side b.side
  turn_looks (pick.Pending c) kind a (turn.Handle call) b h = one_looks kind c.0 a (receive.Handle call) b h
  turn_looks (pick.Pending c) kind a turn.Part b h = one_looks kind c.0 a receive.Part b h
  turn_looks (pick.Pending c) kind a turn.Quiet b h = one_looks kind c.0 a receive.Quiet b h
  turn_looks (pick.Pending c) kind a turn.Full b h = receives_looks a.end a.side (Ok receive.HeldBack) b.end b.side h.0
  turn_looks (pick.Pending c) kind a turn.Nothing b h = one_looks kind c.0 a receive.Empty b h
  turn_looks (pick.Pending c) kind a (turn.Refused f) b h = receives_looks a.end a.side (Err (fault.Wire f)) b.end b.side h.0
  turn_looks (pick.Pending c) kind a turn.Ready b h = absurd h
  turn_looks (pick.Polled c) kind a answer b h = examines_looks c.0 (record { lists = a.lists; side = a.side }) (Ok answer) (record { lists = b.lists; side = b.side }) h.0

  -- ---- a list of sides

  pub go_same : (ps qs : List S) → qs ≡ ps → SidesGo puts takes ps qs
  go_same ps qs same n p at = (p, ap (λ (xs : List S). slice_get xs n) same ∙ at, stay p p refl)

  pub go_then : (ps ms qs : List S) → SidesGo puts takes ps ms → SidesGo puts takes ms qs → SidesGo puts takes ps qs
  go_then ps ms qs g h n p at =
      let (m, there, one) = g n p at in
      let (q, after, two) = h n m there in
      (q, after, looked_then p m q one two)

  go_at : (ps : List S) (i : ℕ) (before after : S) → slice_get ps i ≡ Some before → Looked puts takes before after
      → (n : ℕ) (p : S) (b : Bool) → (i == n) ≡ b → slice_get ps n ≡ Some p → (q : S) × (slice_get (slice_set ps i after) n ≡ Some q) × Looked puts takes p q
  go_at ps i before after there h n p true same at =
      let eq : i ≡ n = grind (arith, nat_tests, same) in
      let here : slice_get ps n ≡ Some before = subst (λ (j : ℕ). slice_get ps j ≡ Some before) eq there in
      let is : before ≡ p = one_stands ps n before p here at in
      (after, subst (λ (j : ℕ). slice_get (slice_set ps i after) j ≡ Some after) eq (set_here ps i before after there), subst (λ (x : S). Looked puts takes x after) is h)
  go_at ps i before after there h n p false same at =
      let ne : n ≢ i = λ e. absurd (grind (arith, nat_tests, same, e)) in
      (p, set_elsewhere ps i n after ne ∙ at, stay p p refl)

  pub go_one : (ps : List S) (i : ℕ) (before after : S) → slice_get ps i ≡ Some before → Looked puts takes before after → SidesGo puts takes ps (slice_set ps i after)
  go_one ps i before after there h n p at = go_at ps i before after there h n p (i == n) refl at

-- ---- events

module _ {S : Type 0} (w : SideRelations S) where
  ring_goes : (n : ℕ) (s t : TheRun S) (Event : TheCore → S → TheCore → S → Type 0) (h : OnRing n s Event t) → Looked w.puts w.takes h.before h.after
      → SidesGo w.puts w.takes s.rings t.rings
  ring_goes n s t Event h looks =
      subst (λ (qs : List S). SidesGo w.puts w.takes s.rings qs) (sym (ap (λ (x : TheRun S). x.rings) h.rest))
      (go_one w.puts w.takes s.rings n h.before h.after h.before_is looks)

  rings_stay : (s t : TheRun S) → t.rings ≡ s.rings → SidesGo w.puts w.takes s.rings t.rings
  rings_stay s t same = go_same w.puts w.takes s.rings t.rings same

  does_look : (log_entry : LogEntry) (s m : TheRun S) → Does w log_entry s m → SidesGo w.puts w.takes s.rings m.rings
  does_look (looked n l answer) s m h = ring_goes n s m _ h (looked_of w.puts w.takes _ _ _ _ (ahead_looks w.puts w.takes w.front l.0 s.core h.before answer m.core h.after h.event))
  does_look (passed n k frag c Moved) s m h =
      go_then w.puts w.takes s.rings h.0.rings m.rings
      (ring_goes k s h.0 _ h.1 (looked_of w.puts w.takes _ _ _ _ (put_one w.puts w.takes h.1.before h.1.after _ h.1.event.0)))
      (ring_goes n h.0 m _ h.2 (looked_of w.puts w.takes _ _ _ _ (take_one w.puts w.takes h.2.before h.2.after _ h.2.event.0)))
  does_look (passed n k frag c Full) s m h = ring_goes k s m _ h (looked_of w.puts w.takes _ _ _ _ (put_one w.puts w.takes h.before h.after _ h.event.0))
  does_look (passed n k frag c Spent) s m h = ring_goes k s m _ h (looked_of w.puts w.takes _ _ _ _ (put_one w.puts w.takes h.before h.after _ h.event.0))
  does_look (arrived n l frag e answer) s m h = ring_goes n s m _ h (looked_of w.puts w.takes _ _ _ _ (arrives_looks w.puts w.takes l.0 frag e s.core h.before answer m.core h.after h.event))
  does_look (heard n l frag answer) s m h = ring_goes n s m _ h (looked_of w.puts w.takes _ _ _ _ (heard_looks w.puts w.takes frag h.before answer h.after h.event.1))
  does_look (said n l answer) s m h = ring_goes n s m _ h (looked_of w.puts w.takes _ _ _ _ (said_looks w.puts w.takes l.0 s.core h.before answer m.core h.after h.event))
  does_look (told n l answer) s m h = ring_goes n s m _ h (looked_of w.puts w.takes _ _ _ _ (told_looks w.puts w.takes h.before answer h.after h.event.0))
  does_look (opened name request answer) s m h = rings_stay s m (ap (λ (x : TheRun S). x.rings) h.rest)
  does_look (called name c answer) s m h = rings_stay s m (ap (λ (x : TheRun S). x.rings) h.2.rest)
  does_look (ruled name msg reply answer) s m h = rings_stay s m (ap (λ (x : TheRun S). x.rings) h.2.rest)
  does_look (wrote name (outlet.Queue n) answer) s m h = rings_stay s m (ap (λ (x : TheRun S). x.rings) h.2.rest)
  does_look (wrote name (outlet.Side n) answer) s m h =
      ring_goes n s m _ h.2 (looked_of w.puts w.takes _ _ _ _ (writes_looks w.puts w.takes h.2.event.writes.seat.end h.2.before answer h.2.event.writes.end h.2.after h.2.event.writes.event))
  does_look (acked name n answer) s m h =
      ring_goes n s m _ h.2 (looked_of w.puts w.takes _ _ _ _ (acks_looks w.puts w.takes h.2.event.0.0.kind h.2.event.0.0.end h.2.before answer h.2.after h.2.event.0.2))
  does_look (turned d name (inlet.Queue n) answer) s m h = rings_stay s m (ap (λ (x : TheRun S). x.rings) h.3.rest)
  does_look (turned d name (inlet.Side n) answer) s m h =
      ring_goes n s m _ h.3 (looked_of w.puts w.takes _ _ _ _ (turn_looks w.puts w.takes h.3.event.event.picked h.3.event.event.seat.kind _ answer _ h.3.event.event.looks))
  does_look (turned d name inlet.Arrivals answer) s m h = rings_stay s m (ap (λ (x : TheRun S). x.rings) h.3.rest)

  log_looks : (jobs : List CoreJob) (log : List LogEntry) (s t : TheRun S) → Goes w jobs s log t → SidesGo w.puts w.takes s.rings t.rings
  log_looks jobs [] s t h = rings_stay s t (ap (λ (x : TheRun S). x.rings) h)
  log_looks jobs (log_entry ∷ log) s t h =
      let noted : SidesGo w.puts w.takes h.1.0.rings h.0.rings = rings_stay h.1.0 h.0 (rings_aside h.1.0 h.0 log_entry h.1.2) in
      go_then w.puts w.takes s.rings h.0.rings t.rings
      (go_then w.puts w.takes s.rings h.1.0.rings h.0.rings (does_look log_entry s h.1.0 h.1.1) noted)
      (log_looks jobs log h.0 t h.3)

pub logs_look : {S : Type 0} (w : SideRelations S) (jobs : List CoreJob) (s t : TheRun S) (log : List LogEntry) → Goes w jobs s log t → SidesGo w.puts w.takes s.rings t.rings
logs_look w jobs s t log h = log_looks w jobs log s t h
