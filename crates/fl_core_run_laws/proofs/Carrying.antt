-- An end, and what a core's events make of it.
use Rattle.std.proofs.Common.{◌≡◌, ◌≢◌, refl, sym, ap, ◌∙◌, subst, ℕ, ◌<◌, ◌==◌, ◌&&◌, nat_lt, not, is_some, if◌then◌else◌, List, [], ◌∷◌, ◌++◌, length, map, slice_get, slice_set, arith, rules}
use Rattle.std.proofs.Common.{Option, Some, None, Bool, true, false, Result, Ok, Err}
use Rattle.std.proofs.lemmas.Bool.{ltb-true}
use Rattle.std.proofs.lemmas.Bool.Decides.{nat_tests}
use Rattle.std.proofs.lemmas.List.{map-append}
use Rattle.std.proofs.lemmas.Option.{slice_get_within}
use Rattle.fl_base.specs.declared.fragment.Frag.{Frag}
use Rattle.fl_base.specs.declared.identity.EndId.{EndId}
use Rattle.fl_base.specs.declared.identity.LinkId.{LinkId}
use Rattle.fl_base.specs.declared.identity.MsgNo.{MsgNo}
use Rattle.fl_base.specs.declared.identity.Circuit.{Circuit as Number}
use Rattle.fl_value_data.specs.Value.{TheCall, call_of}
use Rattle.fl_wire.specs.declared.fault.WireFault.TheVariants as wiring
use Rattle.fl_link.specs.Looks.{Look}
use Rattle.fl_link.specs.Queue.{QueuePuts, QueueTakes}
use Rattle.fl_hop.specs.Stretch.{same_end}
use Rattle.fl_hop.specs.declared.forward.ForwardOutcome.{ForwardOutcome}
use Rattle.fl_hop.specs.declared.forward.ForwardOutcome.TheVariants.{Moved, Full, Spent}
use Rattle.fl_endpoint.specs.View.{TheEnd, bound}
use Rattle.fl_endpoint.specs.Events.{Calls, SetsRule}
use Rattle.fl_endpoint.specs.Accounts.{Sound}
use Rattle.fl_endpoint.specs.declared.fault.EndFault.{EndFault}
use Rattle.fl_endpoint.specs.declared.answer.WriteAnswer.{WriteAnswer}
use Rattle.fl_core.specs.BoardView.{TheEndAtChannel, TheBoard, with_end}
use Rattle.fl_core.specs.BoardEvents.{ChangesEnd}
use Rattle.fl_core.specs.declared.turn_answer.TurnAnswer.{TurnAnswer}
use Rattle.fl_core.specs.BoardTurns.{over, moment, Turns}
use Rattle.fl_monitor.specs.Hearing.{ComesTo}
use Rattle.fl_monitor.specs.Monitors.{TheMonitor, can_say}
use Rattle.fl_monitor.specs.declared.heard.MessageOutcome.{MessageOutcome}
use Rattle.fl_monitor.specs.declared.heard.MessageOutcome.TheVariants as outcome
use Rattle.fl_monitor.specs.declared.message.MonitorMessage.{MonitorMessage}
use Rattle.fl_core.specs.View.{TheCore, place_of, slot_of, client_of, server_of, with_monitor, with_failed, arriving_at}
use Rattle.fl_core.specs.Ends.{at_side, OnBoard, WritesAt}
use Rattle.fl_core.specs.Links.{LooksAhead, inbound, ArrivesAt, MonitorWrites}
use Rattle.fl_core.specs.Hearing.{Offers, known_for, offer_for, HearsFrag, HearsMessage, HearsAll, offering, Follows, BindsIf}
use Rattle.fl_core.specs.Making.{Asked, Asks}
use Rattle.fl_core.specs.declared.answer.LinkFront.{LinkFront}
use Rattle.fl_core.specs.declared.answer.LinkFront.TheVariants as ahead
use Rattle.fl_core.specs.declared.answer.MonitorWrite.{MonitorWrite}
use Rattle.fl_core.specs.declared.answer.MonitorWrite.TheVariants as said_as
use Rattle.fl_core.specs.declared.answer.MonitorAnswer.{MonitorAnswer}
use Rattle.fl_core.specs.declared.answer.MonitorAnswer.TheVariants as heard_as
use Rattle.fl_core.specs.declared.fault.LinkReceiveFault.{LinkReceiveFault}
use Rattle.fl_core.specs.declared.fault.LinkReceiveFault.TheVariants as link
use Rattle.fl_core.specs.declared.fault.OpenFault.{OpenFault}
use Rattle.fl_core.specs.declared.fault.OpenFault.TheVariants as opening
use Rattle.fl_core.specs.declared.wiring.ArrivalPlace.{ArrivalPlace}
use Rattle.fl_core.specs.declared.wiring.Outlet.{Outlet}
use Rattle.fl_core.specs.declared.wiring.Outlet.TheVariants as outlet
use Rattle.fl_core.specs.declared.wiring.Inlet.{Inlet}
use Rattle.fl_core.specs.declared.wiring.Inlet.TheVariants as inlet
use Rattle.fl_core.proofs.Offers.{made_for, made_new}
use Rattle.fl_core.specs.declared.core_job.CoreJob.{CoreJob}
use Rattle.fl_core_run.specs.Run.{SideRelations, TheRun}
use Rattle.fl_core_run.specs.LogEntries.{LogEntry, looked, passed, arrived, heard, said, told, opened, called, ruled, wrote, acked, turned, Does, dispatcher_turn, TurnsOver, WritesOver, IsSoundAt, ActsSoundly}
use Rattle.fl_core_run_laws.specs.Logs.{InPlace, Goes, call_in, handled_in, handled_at}
use Rattle.fl_core_run_laws.specs.Made.{made_by}
use Rattle.fl_core_run_laws.specs.Carried.{Traffic, EndGoes, rules_by, rules_in, rules_at, reply_in, sent_in, sent_at, calls_handled, traffic}
use Rattle.fl_core_run_laws.proofs.Looking.{if_wrote, turn_took}
use Rattle.fl_core_run_laws.proofs.Aside.{core_aside}
use Rattle.fl_core_run_laws.proofs.Handling.{one_end}
use Rattle.fl_core_run_laws.proofs.EndGoing.{still, stays, goes_then, calls_go, calls_rules, rules_go, writes_go, turn_goes, turn_rules, bound_goes}
use Rattle.fl_core_run_laws.proofs.Seating.{HasEnd, seats_same, lists_same, triggers_same, set_other, set_own, one_end_there, added_same, Sits, sits_same, sits_more, apart, together}

same_number : (m n : ℕ) → (m == n) ≡ true → m ≡ n
same_number m n is = grind (arith, nat_tests, is)

other_number : (m n : ℕ) → (m == n) ≡ false → m ≢ n
other_number m n is same = absurd (grind (arith, nat_tests, is, same))

-- the end x is at the core by this name, at place e
pub record IsHere (name : EndId) (e : ℕ) (x : TheEnd) (k : TheCore) : Type 0 where
  pub has : HasEnd k.board e x
  pub sits : Sits k.places name e

-- it went on so, and has these rules
pub record WentOn (name : EndId) (e : ℕ) (d : Traffic) (rules : List (Option ℕ)) (x : TheEnd) (k2 : TheCore) : Type 0 where
  pub end : TheEnd
  pub has : HasEnd k2.board e end
  pub sits : Sits k2.places name e
  pub goes : EndGoes d x end
  pub rules_are : end.rules ≡ rules

module _ (name : EndId) (e : ℕ) (x : TheEnd) (k : TheCore) (here : IsHere name e x k) where
  abbrev pub Rests : TheCore → Type 0
  Rests k2 = WentOn name e still x.rules x k2

  -- it stayed as it is
  same_end_there : (k2 : TheCore) → HasEnd k2.board e x → Sits k2.places name e → Rests k2
  same_end_there k2 has sits = record { end = x; has = has; sits = sits; goes = stays x x refl; rules_are = refl }

  untouched : (k2 : TheCore) → k2.board ≡ k.board → k2.places ≡ k.places → Rests k2
  untouched k2 board places =
      same_end_there k2 (seats_same k.board k2.board e x (ap (λ (b : TheBoard). b.seats) board) here.has) (sits_same k.places k2.places name e places here.sits)

  alike : (k2 : TheCore) → k2 ≡ k → Rests k2
  alike k2 h = untouched k2 (ap (λ (c : TheCore). c.board) h) (ap (λ (c : TheCore). c.places) h)

  failed : (k2 : TheCore) (l : ℕ) → k2 ≡ with_failed k l → Rests k2
  failed k2 l h = untouched k2 (ap (λ (c : TheCore). c.board) h) (ap (λ (c : TheCore). c.places) h)

  -- another end was made, at the last place
  one_more : (k2 : TheCore) (place : ℕ) (new : EndId) → HasEnd k2.board e x → place ≡ length k.board.seats → new.binding < 1024 → place_of k new ≡ None
      → k2.places ≡ slice_set k.places (slot_of new) (Some place) → Rests k2
  one_more k2 place new has last few none places =
      let within = slice_get_within k.board.seats e here.has.seat here.has.seat_is in
      let below : e < place = omega (arith, within, last) in
      same_end_there k2 has (sits_same _ k2.places name e places (sits_more k.places place name new e below few none here.sits))

  -- ---- links

  ahead_goes : {S : Type 0} (w : SideRelations S) (l : ℕ) (p : S) (answer : Result LinkFront LinkReceiveFault) (k2 : TheCore) (q : S) → LooksAhead w.takes w.front l (at_side k p) answer (at_side k2 q) → Rests k2
  ahead_goes w l p (Ok ahead.Nothing) k2 q h = alike k2 h.1
  ahead_goes w l p (Ok ahead.Acknowledged) k2 q h = alike k2 h.1
  ahead_goes w l p (Ok (ahead.Message frag)) k2 q h = alike k2 h.1
  ahead_goes w l p (Ok (ahead.Onward frag side c)) k2 q h = alike k2 h.1
  ahead_goes w l p (Ok (ahead.Arrival frag n)) k2 q h = alike k2 h.1
  ahead_goes w l p (Err link.Failed) k2 q h = alike k2 h.1
  ahead_goes w l p (Err link.Misrouted) k2 q h = failed k2 l h.1
  ahead_goes w l p (Err link.Marked) k2 q h = failed k2 l h.1
  ahead_goes w l p (Err (link.Wire f)) k2 q h = absurd h
  ahead_goes w l p (Err link.Memory) k2 q h = absurd h

  arrives_goes : {S : Type 0} (w : SideRelations S) (l : ℕ) (frag : Frag) (n : EndId) (p : S) (answer : Result ForwardOutcome LinkReceiveFault) (k2 : TheCore) (q : S)
      → ArrivesAt w.takes (inbound l frag n) (at_side k p) answer (at_side k2 q) → Rests k2
  arrives_goes w l frag n p (Ok result) k2 q h =
      same_end_there k2 (triggers_same _ k.board k2.board e x h.triggers here.has) (sits_same k.places k2.places name e (ap (λ (c : TheCore). c.places) h.rest) here.sits)
  arrives_goes w l frag n p (Err link.Misrouted) k2 q h = failed k2 l h.1
  arrives_goes w l frag n p (Err link.Failed) k2 q h = absurd h
  arrives_goes w l frag n p (Err link.Marked) k2 q h = absurd h
  arrives_goes w l frag n p (Err (link.Wire f)) k2 q h = absurd h
  arrives_goes w l frag n p (Err link.Memory) k2 q h = absurd h

  says_goes : {S : Type 0} (w : SideRelations S) (l : ℕ) (p : S) (answer : MonitorWrite) (k2 : TheCore) (q : S) → MonitorWrites w.puts l (at_side k p) answer (at_side k2 q) → Rests k2
  says_goes w l p said_as.Written k2 q h = untouched k2 (ap (λ (c : TheCore). c.board) h.4) (ap (λ (c : TheCore). c.places) h.4)
  says_goes w l p said_as.Full k2 q h = alike k2 h.2
  says_goes w l p said_as.Spent k2 q h = alike k2 h.2
  says_goes w l p said_as.Nothing k2 q h = alike k2 h.1

  -- ---- a message

  -- an end, maybe this one, is bound
  binds_go : (m : TheMonitor) (o : Option ArrivalPlace) (c : Number) (k2 : TheCore) → BindsIf o c (with_monitor k m) k2 → Rests k2
  binds_go m None c k2 h = untouched k2 (ap (λ (y : TheCore). y.board) h) (ap (λ (y : TheCore). y.places) h)
  binds_go m (Some at) c k2 h = by (at.end == e) refl where
    sits : Sits k2.places name e
    sits = sits_same k.places k2.places name e (ap (λ (y : TheCore). y.places) h.rest) here.sits

    by : (b : Bool) → (at.end == e) ≡ b → Rests k2
    by true is =
        let eq : at.end ≡ e = same_number at.end e is in
        let there : slice_get k.board.seats e ≡ Some h.binds.seat = subst (λ (i : ℕ). slice_get k.board.seats i ≡ Some h.binds.seat) eq h.binds.seat_is in
        let was : h.binds.seat.end ≡ x = one_end_there k.board e h.binds.seat x there here.has in
        let made : h.bound_board ≡ with_end k.board e h.binds.seat h.binds.end = subst (λ (i : ℕ). h.bound_board ≡ with_end k.board i h.binds.seat h.binds.end) eq h.binds.board in
        let own = set_own k.board e h.binds.seat h.binds.end h.bound_board there (ap (λ (b : TheBoard). b.seats) made) in
        let went = bound_goes x h.binds.end c.0 (h.binds.event ∙ ap (λ (y : TheEnd). bound y c.0) was) in
        record {
          end = h.binds.end;
          has = lists_same h.bound_board k2.board at.end e h.binds.end _ h.registers own;
          sits = sits;
          goes = went.0;
          rules_are = went.1;
        }
    by false is =
        let ne : e ≢ at.end = λ same. other_number at.end e is (sym same) in
        let has = set_other k.board at.end e h.binds.seat h.binds.end x h.bound_board (ap (λ (b : TheBoard). b.seats) h.binds.board) ne here.has in
        same_end_there k2 (lists_same h.bound_board k2.board at.end e x _ h.registers has) sits

  follows_go : (o : Offers) (l : LinkId) (msg : MonitorMessage) (m : TheMonitor) (h : MessageOutcome) (answered : MonitorAnswer) (k2 : TheCore) → ComesTo (known_for o k msg) k.monitor.circuits l msg h
      → Follows (offering o.programs (offer_for o k msg) l) h (with_monitor k m) answered k2 → Rests k2
  follows_go o l msg m (outcome.ServerMade binding dispatcher c) answered k2 comes f =
      let new = made_new o k msg _ (made_for (known_for o k msg) k.monitor.circuits l msg (outcome.ServerMade binding dispatcher c) _ comes refl) in
      let has = added_same k.board f.1.added dispatcher e f.1.end _ x _ f.1.adds here.has in
      one_more k2 f.1.end (server_of binding) (lists_same f.1.added k2.board f.1.end e x _ f.1.joins.1 has) f.1.adds.0 new.0 new.1 (ap (λ (y : TheCore). y.places) f.1.rest)
  follows_go o l msg m (outcome.EndOpened n c) answered k2 comes f = binds_go m (arriving_at (with_monitor k m) n) c k2 f.1
  follows_go o l msg m (outcome.EndRefused n reason) answered k2 comes f = untouched k2 (ap (λ (y : TheCore). y.board) f.1) (ap (λ (y : TheCore). y.places) f.1)
  follows_go o l msg m (outcome.OpeningWentOn binding n c) answered k2 comes f = untouched k2 (ap (λ (y : TheCore). y.board) f.1) (ap (λ (y : TheCore). y.places) f.1)
  follows_go o l msg m (outcome.OpeningFailed binding reason) answered k2 comes f = untouched k2 (ap (λ (y : TheCore). y.board) f.1) (ap (λ (y : TheCore). y.places) f.1)
  follows_go o l msg m (outcome.AnswerWentOn binding n c) answered k2 comes f = untouched k2 (ap (λ (y : TheCore). y.board) f.1) (ap (λ (y : TheCore). y.places) f.1)

  all_go : (o : Offers) (l : LinkId) (msg : MonitorMessage) (answered : MonitorAnswer) (k2 : TheCore) → HearsAll o l msg k answered k2 → Rests k2
  all_go o l msg answered k2 h = follows_go o l msg h.monitor h.heard answered k2 h.hears.0 h.follows

  message_goes : (o : Offers) (l : LinkId) (msg : MonitorMessage) (answer : Result MonitorAnswer LinkReceiveFault) (k2 : TheCore) → HearsMessage o l msg k answer k2 → Rests k2
  message_goes o l msg (Ok heard_as.Full) k2 h = alike k2 h.1
  message_goes o l msg (Ok heard_as.Done) k2 h = all_go o l msg heard_as.Done k2 h
  message_goes o l msg (Ok (heard_as.Opened n)) k2 h = all_go o l msg (heard_as.Opened n) k2 h
  message_goes o l msg (Ok (heard_as.OpeningRefused n reason)) k2 h = all_go o l msg (heard_as.OpeningRefused n reason) k2 h
  message_goes o l msg (Err link.Misrouted) k2 h = failed k2 l.0 h.1
  message_goes o l msg (Err link.Memory) k2 h = alike k2 h
  message_goes o l msg (Err link.Failed) k2 h = absurd h
  message_goes o l msg (Err link.Marked) k2 h = absurd h
  message_goes o l msg (Err (link.Wire f)) k2 h = absurd h

  hears_go : (o : Offers) (l : LinkId) (frag : Frag) (answer : Result MonitorAnswer LinkReceiveFault) (k2 : TheCore) → HearsFrag o l frag k answer k2 → Rests k2
  hears_go o l frag (Err (link.Wire wiring.Memory)) k2 h = absurd h
  hears_go o l frag (Err (link.Wire wiring.NotFirst)) k2 h = failed k2 l.0 h.1
  hears_go o l frag (Err (link.Wire wiring.FirstInside)) k2 h = failed k2 l.0 h.1
  hears_go o l frag (Err (link.Wire wiring.UnknownMessage)) k2 h = failed k2 l.0 h.1
  hears_go o l frag (Err (link.Wire wiring.NotZero)) k2 h = failed k2 l.0 h.1
  hears_go o l frag (Err (link.Wire wiring.OutOfType)) k2 h = failed k2 l.0 h.1
  hears_go o l frag (Err (link.Wire wiring.TooLong)) k2 h = failed k2 l.0 h.1
  hears_go o l frag (Err link.Memory) k2 h = alike k2 h
  hears_go o l frag (Err link.Failed) k2 h = message_goes o l h.0 (Err link.Failed) k2 h.2
  hears_go o l frag (Err link.Misrouted) k2 h = message_goes o l h.0 (Err link.Misrouted) k2 h.2
  hears_go o l frag (Err link.Marked) k2 h = message_goes o l h.0 (Err link.Marked) k2 h.2
  hears_go o l frag (Ok answered) k2 h = message_goes o l h.0 (Ok answered) k2 h.2

  -- ---- a circuit is asked for

  asks_go : (a : Asked) (answer : Result ℕ OpenFault) (k2 : TheCore) → a.opening.binding < 1024 → place_of k (client_of a.opening.binding) ≡ None → Asks a k answer k2 → Rests k2
  asks_go a (Ok place) k2 few none h =
      one_more k2 place (client_of a.opening.binding) (added_same k.board k2.board a.dispatcher e place _ x _ h.adds here.has) h.adds.0 few none (ap (λ (y : TheCore). y.places) h.rest)
  asks_go a (Err (opening.Board fault)) k2 few none h = alike k2 h.1
  asks_go a (Err (opening.Monitor fault)) k2 few none h = alike k2 h.2

  -- ---- ends

  module _ {S : Type 0} (w : SideRelations S) (n : EndId) (f : ℕ) (at : place_of k n ≡ Some f) where
    -- the end of a name changes: this one, or another
    by_name : (T : Bool → Traffic) (R : Bool → List (Option ℕ)) → T false ≡ still → R false ≡ x.rules
        → (b : Bool) (k2 : TheCore) (c : TheBoard) (seat : TheEndAtChannel) (y : TheEnd) → same_end n name ≡ b
        → slice_get k.board.seats f ≡ Some seat → c.seats ≡ (with_end k.board f seat y).seats
        → ((z : TheEnd) → HasEnd c e z → HasEnd k2.board e z) → k2.places ≡ k.places → (seat.end ≡ x → EndGoes (T true) x y × (y.rules ≡ R true)) → WentOn name e (T b) (R b) x k2
    by_name T R none same true k2 c seat y one there is after places goes =
        let eq : f ≡ e = together k n name f e here.sits at (one_end n name one) in
        let stood : slice_get k.board.seats e ≡ Some seat = subst (λ (i : ℕ). slice_get k.board.seats i ≡ Some seat) eq there in
        let went = goes (one_end_there k.board e seat x stood here.has) in
        record {
          end = y;
          has = after y (set_own k.board e seat y c stood (subst (λ (i : ℕ). c.seats ≡ (with_end k.board i seat y).seats) eq is));
          sits = sits_same k.places k2.places name e places here.sits;
          goes = went.0;
          rules_are = went.1;
        }
    by_name T R none same false k2 c seat y other there is after places goes =
        subst (λ (d : Traffic). WentOn name e d (R false) x k2) (sym none) (subst (λ (rules : List (Option ℕ)). WentOn name e still rules x k2) (sym same)
        (same_end_there k2 (after x (set_other k.board f e seat y x c is (apart k n name f e here.sits at other) here.has)) (sits_same k.places k2.places name e places here.sits)))

    calls_at : (c : TheCall) (answer : Result (Unit {0}) EndFault) (k2 : TheCore) → ((seat : TheEndAtChannel) → slice_get k.board.seats f ≡ Some seat → Sound seat.end)
        → OnBoard k (λ b b2. ChangesEnd b f (λ s t. Calls s c answer t) b2) k2
        → WentOn name e (record { sent = if same_end n name then made_by c answer else []; handled = []; put = []; took = [] }) (if same_end n name then x.rules else x.rules) x k2
    calls_at c answer k2 sound h =
        by_name (λ b. record { sent = if b then made_by c answer else []; handled = []; put = []; took = [] }) (λ b. if b then x.rules else x.rules) refl refl
        (same_end n name) k2 k2.board h.event.seat h.event.end refl h.event.seat_is (ap (λ (b : TheBoard). b.seats) h.event.board) (λ z has. has) (ap (λ (y : TheCore). y.places) h.rest)
        (λ was. subst (λ (s : TheEnd). EndGoes (record { sent = made_by c answer; handled = []; put = []; took = [] }) s h.event.end × (h.event.end.rules ≡ s.rules)) was
        (calls_go h.event.seat.end c answer h.event.end (sound h.event.seat h.event.seat_is) h.event.event, calls_rules h.event.seat.end c answer h.event.end h.event.event))

    rules_at_end : (msg reply : MsgNo) (answer : Result (Unit {0}) EndFault) (k2 : TheCore) → OnBoard k (λ b b2. ChangesEnd b f (λ s t. SetsRule s msg.0 reply.0 answer t) b2) k2
        → WentOn name e still (if same_end n name then rules_by msg reply answer x.rules else x.rules) x k2
    rules_at_end msg reply answer k2 h =
        by_name (λ b. still) (λ b. if b then rules_by msg reply answer x.rules else x.rules) refl refl
        (same_end n name) k2 k2.board h.event.seat h.event.end refl h.event.seat_is (ap (λ (b : TheBoard). b.seats) h.event.board) (λ z has. has) (ap (λ (y : TheCore). y.places) h.rest)
        (λ was. subst (λ (s : TheEnd). EndGoes still s h.event.end × (h.event.end.rules ≡ rules_by msg reply answer s.rules)) was (rules_go h.event.seat.end msg reply answer h.event.end h.event.event))

    writes_at : {P : Type 0} (puts : P → Look → P → Type 0) (p q : P) (answer : Result WriteAnswer EndFault) (k2 : TheCore) → (h : WritesAt puts f (at_side k p) answer (at_side k2 q))
        → WentOn name e (record { sent = []; handled = []; put = if same_end n name then if_wrote answer h.writes.seat.end.outgoing.unwritten else []; took = [] })
        (if same_end n name then x.rules else x.rules) x k2
    writes_at puts p q answer k2 h =
        by_name (λ b. record { sent = []; handled = []; put = if b then if_wrote answer h.writes.seat.end.outgoing.unwritten else []; took = [] }) (λ b. if b then x.rules else x.rules) refl refl
        (same_end n name) k2 h.wrote h.writes.seat h.writes.end refl h.writes.seat_is (ap (λ (b : TheBoard). b.seats) h.writes.board) (λ z has. triggers_same _ h.wrote k2.board e z h.triggers has)
        (ap (λ (y : TheCore). y.places) h.rest)
        (λ was. subst (λ (s : TheEnd). EndGoes (record { sent = []; handled = []; put = if_wrote answer h.writes.seat.end.outgoing.unwritten; took = [] }) s h.writes.end × (h.writes.end.rules ≡ s.rules)) was
        (writes_go puts h.writes.seat.end p answer h.writes.end q h.writes.event))

    turns_at : {T : Type 0} (takes : T → Look → T → Type 0) (d : ℕ) (p q : T) (answer : TurnAnswer) (c : TheBoard) (k2 : TheCore) → ((seat : TheEndAtChannel) → slice_get k.board.seats f ≡ Some seat → Sound seat.end)
        → (h : Turns takes d f (over k.board p) (Ok answer) (over c q)) → c ≡ k2.board → k2.places ≡ k.places
        → WentOn name e (record {
          sent = if same_end n name then reply_in x.rules answer else [];
          handled = map call_of (if same_end n name then call_in answer else []);
          put = [];
          took = if same_end n name then turn_took takes h.picked h.seat.kind (moment h.dispatcher.lists h.seat.end p) answer (moment h.lists h.end q) h.looks else [];
        })
        (if same_end n name then x.rules else x.rules) x k2
    turns_at takes d p q answer c k2 sound h board places =
        by_name (λ b. record {
          sent = if b then reply_in x.rules answer else [];
          handled = map call_of (if b then call_in answer else []);
          put = [];
          took = if b then turn_took takes h.picked h.seat.kind (moment h.dispatcher.lists h.seat.end p) answer (moment h.lists h.end q) h.looks else [];
        }) (λ b. if b then x.rules else x.rules) refl refl
        (same_end n name) k2 c h.seat h.end refl h.seat_is
        (ap (λ (b : TheBoard). b.seats) h.board) (λ z has. subst (λ (b : TheBoard). HasEnd b e z) board has) places
        (λ was. subst (λ (s : TheEnd). EndGoes (record {
          sent = reply_in s.rules answer;
          handled = map call_of (call_in answer);
          put = [];
          took = turn_took takes h.picked h.seat.kind (moment h.dispatcher.lists h.seat.end p) answer (moment h.lists h.end q) h.looks;
        }) s h.end × (h.end.rules ≡ s.rules)) was (
          turn_goes takes h.picked h.seat.kind (moment h.dispatcher.lists h.seat.end p) answer (moment h.lists h.end q) (sound h.seat h.seat_is) h.looks,
          turn_rules takes h.picked h.seat.kind (moment h.dispatcher.lists h.seat.end p) answer (moment h.lists h.end q) h.looks,
        ))

-- ---- one event

-- of five tests, the third and the fourth
pub five : (a b c d f : Bool) → (a && b && c && d && f) ≡ true → (c ≡ true) × (d ≡ true)
five true true true true f h = (refl, refl)
five true true true false f h = absurd (cc)
five true true false d f h = absurd (cc)
five true false c d f h = absurd (cc)
five false b c d f h = absurd (cc)

pub not_there : {X : Type 0} (o : Option X) → not (is_some o) ≡ true → o ≡ None
not_there None h = refl
not_there (Some x) h = absurd (cc)

-- what the end at which an event happens put, and what it took
abbrev pub write_put : {S : Type 0} (w : SideRelations S) (e : ℕ) (out : Outlet) (answer : Result WriteAnswer EndFault) (s m : TheRun S) → WritesOver w e out answer s m → List Frag
write_put w e (outlet.Queue n) answer s m h = if_wrote answer h.event.writes.seat.end.outgoing.unwritten
write_put w e (outlet.Side n) answer s m h = if_wrote answer h.event.writes.seat.end.outgoing.unwritten

abbrev pub turn_over_took : {T : Type 0} (takes : T → Look → T → Type 0) (d e : ℕ) (b : TheBoard) (p : T) (answer : TurnAnswer) (c : TheBoard) (q : T) → Turns takes d e (over b p) (Ok answer) (over c q) → List Frag
turn_over_took takes d e b p answer c q h = turn_took takes h.picked h.seat.kind (moment h.dispatcher.lists h.seat.end p) answer (moment h.lists h.end q) h.looks

abbrev pub turns_took : {S : Type 0} (w : SideRelations S) (d e : ℕ) (from : Inlet) (answer : TurnAnswer) (s m : TheRun S) → TurnsOver w (dispatcher_turn d e (Ok answer)) from s m → List Frag
turns_took w d e (inlet.Queue n) answer s m h = turn_over_took QueueTakes d e s.core.board h.before answer m.core.board h.after h.event.event
turns_took w d e (inlet.Side n) answer s m h = turn_over_took w.takes d e s.core.board h.before answer m.core.board h.after h.event.event
turns_took w d e inlet.Arrivals answer s m h = turn_over_took QueueTakes d e s.core.board h.event.before answer m.core.board h.event.after h.event.event

abbrev pub acted_put : {S : Type 0} (w : SideRelations S) (log_entry : LogEntry) (s m : TheRun S) → Does w log_entry s m → List Frag
acted_put w (wrote n out answer) s m h = write_put w h.0 out answer s m h.2
acted_put w log_entry s m h = []

abbrev pub acted_took : {S : Type 0} (w : SideRelations S) (log_entry : LogEntry) (s m : TheRun S) → Does w log_entry s m → List Frag
acted_took w (turned d n from answer) s m h = turns_took w d h.0 from answer s m h.3
acted_took w log_entry s m h = []

-- of the end of a name: these, if the event happens there
abbrev pub of_end : EndId → LogEntry → List Frag → List Frag
of_end name (wrote n out answer) frags = if same_end n name then frags else []
of_end name (turned d n from answer) frags = if same_end n name then frags else []
of_end name log_entry frags = []

alike_by : (b : Bool) (rules : List (Option ℕ)) → (if b then rules else rules) ≡ rules
alike_by true rules = refl
alike_by false rules = refl

none_by : (b : Bool) → (if b then [] else []) ≡ (let xs : List Frag = [] in xs)
none_by true = refl
none_by false = refl

-- ---- a log

module _ {S : Type 0} (w : SideRelations S) (jobs : List CoreJob) (name : EndId) where
  -- what the end put and took in a log
  abbrev pub log_put : (log : List LogEntry) (s t : TheRun S) → Goes w jobs s log t → List Frag
  log_put [] s t h = []
  log_put (log_entry ∷ log) s t h = of_end name log_entry (acted_put w log_entry s h.1.0 h.1.1) ++ log_put log h.0 t h.3

  abbrev pub log_took : (log : List LogEntry) (s t : TheRun S) → Goes w jobs s log t → List Frag
  log_took [] s t h = []
  log_took (log_entry ∷ log) s t h = of_end name log_entry (acted_took w log_entry s h.1.0 h.1.1) ++ log_took log h.0 t h.3

module _ {S : Type 0} (w : SideRelations S) (jobs : List CoreJob) (name : EndId) (e : ℕ) where
  -- what an event is to the end
  abbrev pub event_traffic : List (Option ℕ) → LogEntry → List Frag → List Frag → Traffic
  event_traffic rules log_entry put took = record { sent = sent_in name rules log_entry; handled = map call_of (handled_in name log_entry); put = of_end name log_entry put; took = of_end name log_entry took }

  plain_rules : (n : EndId) (d : Traffic) (x : TheEnd) (k2 : TheCore) → WentOn name e d (if same_end n name then x.rules else x.rules) x k2 → WentOn name e d x.rules x k2
  plain_rules n d x k2 h = subst (λ (rules : List (Option ℕ)). WentOn name e d rules x k2) (alike_by (same_end n name) x.rules) h

  sound_there : (s : TheRun S) (n : EndId) (f : ℕ) → place_of s.core n ≡ Some f → IsSoundAt s n → (seat : TheEndAtChannel) → slice_get s.core.board.seats f ≡ Some seat → Sound seat.end
  sound_there s n f at sound seat there = sound f seat at there

  wrote_goes : (n : EndId) (out : Outlet) (answer : Result WriteAnswer EndFault) (s m : TheRun S) (x : TheEnd) → IsHere name e x s.core → (f : ℕ) → place_of s.core n ≡ Some f
      → (h : WritesOver w f out answer s m) → WentOn name e (event_traffic x.rules (wrote n out answer) (write_put w f out answer s m h) []) x.rules x m.core
  wrote_goes n (outlet.Queue i) answer s m x here f at h =
      subst (λ (xs : List Frag). WentOn name e (record { sent = []; handled = []; put = if same_end n name then if_wrote answer h.event.writes.seat.end.outgoing.unwritten else []; took = xs }) x.rules x m.core)
      (sym (none_by (same_end n name)))
      (plain_rules n _ x m.core (writes_at name e x s.core here w n f at QueuePuts h.before h.after answer m.core h.event))
  wrote_goes n (outlet.Side i) answer s m x here f at h =
      subst (λ (xs : List Frag). WentOn name e (record { sent = []; handled = []; put = if same_end n name then if_wrote answer h.event.writes.seat.end.outgoing.unwritten else []; took = xs }) x.rules x m.core)
      (sym (none_by (same_end n name)))
      (plain_rules n _ x m.core (writes_at name e x s.core here w n f at w.puts h.before h.after answer m.core h.event))

  turned_goes : (d : ℕ) (n : EndId) (from : Inlet) (answer : TurnAnswer) (s m : TheRun S) (x : TheEnd) → IsHere name e x s.core → IsSoundAt s n → (f : ℕ) → place_of s.core n ≡ Some f
      → (h : TurnsOver w (dispatcher_turn d f (Ok answer)) from s m) → WentOn name e (event_traffic x.rules (turned d n from answer) [] (turns_took w d f from answer s m h)) x.rules x m.core
  turned_goes d n from answer s m x here sound f at h =
      subst (λ (xs : List Frag). WentOn name e (record {
        sent = if same_end n name then reply_in x.rules answer else [];
        handled = map call_of (if same_end n name then call_in answer else []);
        put = xs;
        took = if same_end n name then turns_took w d f from answer s m h else [];
      }) x.rules x m.core)
      (sym (none_by (same_end n name)))
      (plain_rules n _ x m.core (by from h)) where
        by : (o : Inlet) → (g : TurnsOver w (dispatcher_turn d f (Ok answer)) o s m)
            → WentOn name e (record {
              sent = if same_end n name then reply_in x.rules answer else [];
              handled = map call_of (if same_end n name then call_in answer else []);
              put = [];
              took = if same_end n name then turns_took w d f o answer s m g else [];
            }) (if same_end n name then x.rules else x.rules) x m.core
        by (inlet.Queue i) g = turns_at name e x s.core here w n f at QueueTakes d g.before g.after answer m.core.board m.core (sound_there s n f at sound) g.event.event refl (ap (λ (y : TheCore). y.places) g.event.rest)
        by (inlet.Side i) g = turns_at name e x s.core here w n f at w.takes d g.before g.after answer m.core.board m.core (sound_there s n f at sound) g.event.event refl (ap (λ (y : TheCore). y.places) g.event.rest)
        by inlet.Arrivals g =
            turns_at name e x s.core here w n f at QueueTakes d g.event.before g.event.after answer m.core.board m.core (sound_there s n f at sound) g.event.event refl (ap (λ (y : TheCore). y.places) g.event.rest)

  pub does_go : (log_entry : LogEntry) (s m : TheRun S) (x : TheEnd) → IsHere name e x s.core → InPlace jobs s log_entry → ActsSoundly log_entry s → (h : Does w log_entry s m)
      → WentOn name e (event_traffic x.rules log_entry (acted_put w log_entry s m h) (acted_took w log_entry s m h)) (rules_in name x.rules log_entry) x m.core
  does_go (looked n l answer) s m x here by sound h = ahead_goes name e x s.core here w l.0 h.before answer m.core h.after h.event
  does_go (passed n k frag c Moved) s m x here by sound h = alike name e x s.core here m.core (h.2.event.1 ∙ h.1.event.1)
  does_go (passed n k frag c Full) s m x here by sound h = alike name e x s.core here m.core h.event.1
  does_go (passed n k frag c Spent) s m x here by sound h = alike name e x s.core here m.core h.event.1
  does_go (arrived n l frag end answer) s m x here by sound h = arrives_goes name e x s.core here w l.0 frag end h.before answer m.core h.after h.event
  does_go (heard n l frag answer) s m x here by sound h = hears_go name e x s.core here s.offers l frag answer m.core h.event.0
  does_go (said n l answer) s m x here by sound h = says_goes name e x s.core here w l.0 h.before answer m.core h.after h.event
  does_go (told n l answer) s m x here by sound h = alike name e x s.core here m.core h.event.1
  does_go (opened n request answer) s m x here by sound h =
      let tests = five (nat_lt request.dispatcher (length s.core.board.dispatchers)) (nat_lt request.interface (length s.offers.programs)) (nat_lt request.opening.binding 1024)
      (not (is_some (place_of s.core (client_of request.opening.binding)))) (can_say s.core.monitor.outboxes request.link.0) by.1 in
      asks_go name e x s.core here _ answer m.core (ltb-true request.opening.binding 1024 tests.0) (not_there (place_of s.core (client_of request.opening.binding)) tests.1) h.event.asks
  does_go (called n c answer) s m x here by sound h =
      plain_rules n _ x m.core (calls_at name e x s.core here w n h.0 h.1 c answer m.core (sound_there s n h.0 h.1 sound) h.2.event)
  does_go (ruled n msg reply answer) s m x here by sound h = rules_at_end name e x s.core here w n h.0 h.1 msg reply answer m.core h.2.event
  does_go (wrote n out answer) s m x here by sound h = wrote_goes n out answer s m x here h.0 h.1 h.2
  does_go (acked n i answer) s m x here by sound h = alike name e x s.core here m.core h.2.event.1
  does_go (turned d n from answer) s m x here by sound h = turned_goes d n from answer s m x here sound h.0 h.1 h.3

  -- ---- a log

  pub log_goes : (log : List LogEntry) (s t : TheRun S) (x : TheEnd) → IsHere name e x s.core → (h : Goes w jobs s log t)
      → WentOn name e (traffic name x.rules log (log_put w jobs name log s t h) (log_took w jobs name log s t h)) (rules_at name x.rules log) x t.core
  log_goes [] s t x here h = alike name e x s.core here t.core (ap (λ (r : TheRun S). r.core) h)
  log_goes (log_entry ∷ log) s t x here h =
      let put = acted_put w log_entry s h.1.0 h.1.1 in
      let took = acted_took w log_entry s h.1.0 h.1.1 in
      let one = does_go log_entry s h.1.0 x here h.2 h.1.4 h.1.1 in
      let next : IsHere name e one.end h.0.core =
      subst (λ (k : TheCore). IsHere name e one.end k) (sym (core_aside h.1.0 h.0 log_entry h.1.2)) (record { has = one.has; sits = one.sits }) in
      let more = log_goes log h.0 t one.end next h.3 in
      record {
        end = more.end;
        has = more.has;
        sits = more.sits;
        goes = subst (λ (cs : List TheCall). EndGoes (record {
          sent = sent_at name x.rules (log_entry ∷ log);
          handled = cs;
          put = of_end name log_entry put ++ log_put w jobs name log h.0 t h.3;
          took = of_end name log_entry took ++ log_took w jobs name log h.0 t h.3;
        }) x more.end)
            (sym (map-append call_of (handled_in name log_entry) (handled_at name log)))
            (goes_then x one.end more.end (sent_in name x.rules log_entry) (map call_of (handled_in name log_entry)) (sent_at name (rules_in name x.rules log_entry) log) (calls_handled name log)
            (of_end name log_entry put) (log_put w jobs name log h.0 t h.3) (of_end name log_entry took) (log_took w jobs name log h.0 t h.3) one.goes
            (subst (λ (rules : List (Option ℕ)). EndGoes (traffic name rules log (log_put w jobs name log h.0 t h.3) (log_took w jobs name log h.0 t h.3)) one.end more.end) one.rules_are more.goes));
        rules_are = more.rules_are ∙ ap (λ (rules : List (Option ℕ)). rules_at name rules log) one.rules_are;
      }
