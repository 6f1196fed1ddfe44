-- Ends of circuits that are made while a core runs.
use Rattle.std.proofs.Common.{◌≡◌, refl, sym, ap, ◌∙◌, subst, ℕ, ◌<◌, ◌⊎◌, inl, inr, nat_lt, not, is_some, if◌then◌else◌, List, [], ◌∷◌, ◌++◌, map, length, slice_get, slice_set}
use Rattle.std.proofs.Common.{Option, Some, None, Bool, false, Result, Ok, Err}
use Rattle.std.proofs.lemmas.Bool.{ltb-true}
use Rattle.std.proofs.lemmas.List.{length-map}
use Rattle.fl_base.specs.declared.fragment.Frag.{Frag}
use Rattle.fl_base.specs.declared.identity.EndId.{EndId}
use Rattle.fl_base.specs.declared.identity.LinkId.{LinkId}
use Rattle.fl_base.specs.declared.identity.Circuit.{Circuit as Number}
use Rattle.fl_base.specs.Given.{given}
use Rattle.fl_wire.specs.declared.fault.WireFault.TheVariants as wiring
use Rattle.fl_link.specs.Queue.{TheQueue, QueuePuts, QueueTakes}
use Rattle.fl_hop.specs.declared.forward.ForwardOutcome.{ForwardOutcome}
use Rattle.fl_hop.specs.declared.forward.ForwardOutcome.TheVariants.{Moved, Full, Spent}
use Rattle.fl_hop.specs.OfCircuit.{as_carried}
use Rattle.fl_hop.specs.Stretch.{TableStep, same_end, come_to, written_by}
use Rattle.fl_core.proofs.BoardPlaces.{push_last, one_stands}
use Rattle.fl_core.specs.BoardView.{TheEndAtChannel}
use Rattle.fl_monitor.specs.Hearing.{ComesTo}
use Rattle.fl_monitor.specs.Monitors.{TheMonitor, can_say, waiting_for}
use Rattle.fl_monitor.specs.declared.heard.MessageOutcome.{MessageOutcome}
use Rattle.fl_monitor.specs.declared.heard.MessageOutcome.TheVariants as outcome
use Rattle.fl_monitor.specs.declared.message.MonitorMessage.{MonitorMessage}
use Rattle.fl_core.specs.View.{TheCore, place_of, place_in, arrivals_of, arriving, slot_of, client_of, server_of, circuit_wired_end, new_arrivals, with_monitor, arriving_at}
use Rattle.fl_core.specs.Sound.{IsCore}
use Rattle.fl_core.specs.Links.{LooksAhead, inbound, ArrivesAt, MonitorWrites}
use Rattle.fl_core.specs.Hearing.{Offers, known_for, offer_for, HearsFrag, HearsMessage, HearsAll, offering, Follows, BindsIf}
use Rattle.fl_core.specs.Making.{Asked, Asks}
use Rattle.fl_core.specs.declared.answer.LinkFront.{LinkFront}
use Rattle.fl_core.specs.declared.answer.LinkFront.TheVariants as ahead
use Rattle.fl_core.specs.declared.answer.MonitorWrite.{MonitorWrite}
use Rattle.fl_core.specs.declared.answer.MonitorWrite.TheVariants as said_as
use Rattle.fl_core.specs.declared.answer.MonitorAnswer.{MonitorAnswer}
use Rattle.fl_core.specs.declared.answer.MonitorAnswer.TheVariants as heard_as
use Rattle.fl_core.specs.declared.fault.LinkReceiveFault.{LinkReceiveFault}
use Rattle.fl_core.specs.declared.fault.LinkReceiveFault.TheVariants as link
use Rattle.fl_core.specs.declared.fault.OpenFault.{OpenFault}
use Rattle.fl_core.specs.declared.fault.OpenFault.TheVariants as opening
use Rattle.fl_core.specs.declared.wiring.ArrivalPlace.{ArrivalPlace}
use Rattle.fl_core.specs.declared.wiring.WiredEnd.{WiredEnd}
use Rattle.fl_core.specs.declared.wiring.EndWiring.TheVariants.{Circuit}
use Rattle.fl_core.specs.declared.wiring.Outlet.TheVariants as outlet
use Rattle.fl_core.specs.declared.wiring.Inlet.TheVariants as inlet
use Rattle.fl_core.specs.Ends.{at_side}
use Rattle.fl_core.proofs.Named.{put_here, put_elsewhere, here_or_not}
use Rattle.fl_core.proofs.Offers.{made_for, made_new}
use Rattle.fl_core.specs.declared.core_job.CoreJob.{CoreJob}
use Rattle.fl_core_run.specs.Run.{SideRelations, TheRun}
use Rattle.fl_core_run.specs.LogEntries.{LogEntry, looked, passed, arrived, heard, said, told, opened, called, ruled, wrote, acked, turned, Does}
use Rattle.fl_core_run_laws.specs.Logs.{InPlace, Goes, Carries}
use Rattle.fl_core_run_laws.proofs.Aside.{core_aside}
use Rattle.fl_core_run_laws.proofs.Carrying.{five, acted_put, acted_took, of_end, log_put, log_took}
use Rattle.fl_core_run_laws.proofs.CircuitEnds.{heard_come, said_come, wrote_come, heard_written, said_written, passed_written, none_written}
use Rattle.fl_core_run_laws.proofs.CircuitLogs.{come_joins, written_joins, circuit_goes}
use Rattle.fl_core_run_laws.proofs.Laning.{link_at, event_steps}
use Rattle.fl_core_run_laws.proofs.Leading.{as_many}
use Rattle.fl_core_run_laws.proofs.Looking.{if_arrived, if_heard, if_said}
use Rattle.fl_core_run_laws.proofs.Newcomers.{Absent, not_it, nothing}
use Rattle.fl_core_run_laws.proofs.Stepping.{grows, log_steps, end_stays}

-- an end of this name was made, on a circuit, with an arrival queue in which nothing stands
pub record MadeOn (name : EndId) (k : TheCore) : Type 0 where
  pub place : ℕ
  pub link : LinkId
  pub queue : ℕ
  pub wired_end : WiredEnd
  pub place_is : place_of k name ≡ Some place
  pub wired_end_is : slice_get k.wired_ends place ≡ Some wired_end
  pub wiring_is : wired_end.wiring ≡ Circuit link queue
  pub name_is : wired_end.name ≡ name
  pub new : slice_get k.arrivals queue ≡ Some new_arrivals

module _ (name : EndId) (k : TheCore) (core : IsCore k) (absent : Absent name k) where
  abbrev Comes : TheCore → Type 0
  Comes k2 = Absent name k2 ⊎ MadeOn name k2

  places_stay : (k2 : TheCore) → k2.places ≡ k.places → Comes k2
  places_stay k2 same = inl (ap (λ (xs : List (Option ℕ)). place_in xs name) same ∙ absent)

  alike : (k2 : TheCore) → k2 ≡ k → Comes k2
  alike k2 same = places_stay k2 (ap (λ (c : TheCore). c.places) same)

  -- an end is made, at the last place: this one, or another
  one_made : (k2 : TheCore) (place : ℕ) (new : EndId) (l : LinkId) → place ≡ length k.board.seats → new.binding < 1024
      → k2.wired_ends ≡ k.wired_ends ++ circuit_wired_end new l (length k.arrivals) ∷ [] → k2.places ≡ slice_set k.places (slot_of new) (Some place) → k2.arrivals ≡ k.arrivals ++ new_arrivals ∷ [] → Comes k2
  one_made k2 place new l last few wired_ends places queues = elim (here_or_not name new) [
    | inl same ↦ inr (record {
      place = place;
      link = l;
      queue = length k.arrivals;
      wired_end = circuit_wired_end new l (length k.arrivals);
      place_is = ap (λ (xs : List (Option ℕ)). place_in xs name) places ∙ ap (λ (n : EndId). place_in (slice_set k.places (slot_of new) (Some place)) n) same ∙ put_here k.places new (Some place) core.slots few;
      wired_end_is = ap (λ (xs : List WiredEnd). slice_get xs place) wired_ends ∙ ap (slice_get (k.wired_ends ++ circuit_wired_end new l (length k.arrivals) ∷ [])) at_last ∙ push_last k.wired_ends (circuit_wired_end new l (length k.arrivals));
      wiring_is = refl;
      name_is = sym same;
      new = ap (λ (xs : List TheQueue). slice_get xs (length k.arrivals)) queues ∙ push_last k.arrivals new_arrivals;
    })
    | inr other ↦ inl (ap (λ (xs : List (Option ℕ)). place_in xs name) places ∙ put_elsewhere k.places new name (Some place) other ∙ absent)
  ] where
    at_last : place ≡ length k.wired_ends
    at_last = last ∙ sym (length-map k.board.seats (λ (s : TheEndAtChannel). s.end.circuit)) ∙ sym (as_many k core)

  ahead_makes : {S : Type 0} (w : SideRelations S) (l : ℕ) (p : S) (answer : Result LinkFront LinkReceiveFault) (k2 : TheCore) (q : S) → LooksAhead w.takes w.front l (at_side k p) answer (at_side k2 q) → Comes k2
  ahead_makes w l p (Ok ahead.Nothing) k2 q h = alike k2 h.1
  ahead_makes w l p (Ok ahead.Acknowledged) k2 q h = alike k2 h.1
  ahead_makes w l p (Ok (ahead.Message frag)) k2 q h = alike k2 h.1
  ahead_makes w l p (Ok (ahead.Onward frag side c)) k2 q h = alike k2 h.1
  ahead_makes w l p (Ok (ahead.Arrival frag n)) k2 q h = alike k2 h.1
  ahead_makes w l p (Err link.Failed) k2 q h = alike k2 h.1
  ahead_makes w l p (Err link.Misrouted) k2 q h = places_stay k2 (ap (λ (c : TheCore). c.places) h.1)
  ahead_makes w l p (Err link.Marked) k2 q h = places_stay k2 (ap (λ (c : TheCore). c.places) h.1)
  ahead_makes w l p (Err (link.Wire f)) k2 q h = absurd h
  ahead_makes w l p (Err link.Memory) k2 q h = absurd h

  arrives_makes : {S : Type 0} (w : SideRelations S) (l : ℕ) (frag : Frag) (n : EndId) (p : S) (answer : Result ForwardOutcome LinkReceiveFault) (k2 : TheCore) (q : S) → ArrivesAt w.takes (inbound l frag n) (at_side k p) answer (at_side k2 q) → Comes k2
  arrives_makes w l frag n p (Ok result) k2 q h = places_stay k2 (ap (λ (c : TheCore). c.places) h.rest)
  arrives_makes w l frag n p (Err link.Misrouted) k2 q h = places_stay k2 (ap (λ (c : TheCore). c.places) h.1)
  arrives_makes w l frag n p (Err link.Failed) k2 q h = absurd h
  arrives_makes w l frag n p (Err link.Marked) k2 q h = absurd h
  arrives_makes w l frag n p (Err (link.Wire f)) k2 q h = absurd h
  arrives_makes w l frag n p (Err link.Memory) k2 q h = absurd h

  says_makes : {S : Type 0} (w : SideRelations S) (l : ℕ) (p : S) (answer : MonitorWrite) (k2 : TheCore) (q : S) → MonitorWrites w.puts l (at_side k p) answer (at_side k2 q) → Comes k2
  says_makes w l p said_as.Written k2 q h = places_stay k2 (ap (λ (c : TheCore). c.places) h.4)
  says_makes w l p said_as.Full k2 q h = alike k2 h.2
  says_makes w l p said_as.Spent k2 q h = alike k2 h.2
  says_makes w l p said_as.Nothing k2 q h = alike k2 h.1

  binds_make : (m : TheMonitor) (o : Option ArrivalPlace) (c : Number) (k2 : TheCore) → BindsIf o c (with_monitor k m) k2 → Comes k2
  binds_make m None c k2 h = places_stay k2 (ap (λ (y : TheCore). y.places) h)
  binds_make m (Some at) c k2 h = places_stay k2 (ap (λ (y : TheCore). y.places) h.rest)

  follows_make : (o : Offers) (l : LinkId) (msg : MonitorMessage) (m : TheMonitor) (h : MessageOutcome) (answered : MonitorAnswer) (k2 : TheCore) → ComesTo (known_for o k msg) k.monitor.circuits l msg h
      → Follows (offering o.programs (offer_for o k msg) l) h (with_monitor k m) answered k2 → Comes k2
  follows_make o l msg m (outcome.ServerMade binding dispatcher c) answered k2 comes f =
      let new = made_new o k msg _ (made_for (known_for o k msg) k.monitor.circuits l msg (outcome.ServerMade binding dispatcher c) _ comes refl) in
      one_made k2 f.1.end (server_of binding) l f.1.adds.0 new.0 (ap (λ (y : TheCore). y.wired_ends) f.1.rest) (ap (λ (y : TheCore). y.places) f.1.rest) (ap (λ (y : TheCore). y.arrivals) f.1.rest)
  follows_make o l msg m (outcome.EndOpened n c) answered k2 comes f = binds_make m (arriving_at (with_monitor k m) n) c k2 f.1
  follows_make o l msg m (outcome.EndRefused n reason) answered k2 comes f = places_stay k2 (ap (λ (y : TheCore). y.places) f.1)
  follows_make o l msg m (outcome.OpeningWentOn binding n c) answered k2 comes f = places_stay k2 (ap (λ (y : TheCore). y.places) f.1)
  follows_make o l msg m (outcome.OpeningFailed binding reason) answered k2 comes f = places_stay k2 (ap (λ (y : TheCore). y.places) f.1)
  follows_make o l msg m (outcome.AnswerWentOn binding n c) answered k2 comes f = places_stay k2 (ap (λ (y : TheCore). y.places) f.1)

  all_make : (o : Offers) (l : LinkId) (msg : MonitorMessage) (answered : MonitorAnswer) (k2 : TheCore) → HearsAll o l msg k answered k2 → Comes k2
  all_make o l msg answered k2 h = follows_make o l msg h.monitor h.heard answered k2 h.hears.0 h.follows

  message_makes : (o : Offers) (l : LinkId) (msg : MonitorMessage) (answer : Result MonitorAnswer LinkReceiveFault) (k2 : TheCore) → HearsMessage o l msg k answer k2 → Comes k2
  message_makes o l msg (Ok heard_as.Full) k2 h = alike k2 h.1
  message_makes o l msg (Ok heard_as.Done) k2 h = all_make o l msg heard_as.Done k2 h
  message_makes o l msg (Ok (heard_as.Opened n)) k2 h = all_make o l msg (heard_as.Opened n) k2 h
  message_makes o l msg (Ok (heard_as.OpeningRefused n reason)) k2 h = all_make o l msg (heard_as.OpeningRefused n reason) k2 h
  message_makes o l msg (Err link.Misrouted) k2 h = places_stay k2 (ap (λ (y : TheCore). y.places) h.1)
  message_makes o l msg (Err link.Memory) k2 h = alike k2 h
  message_makes o l msg (Err link.Failed) k2 h = absurd h
  message_makes o l msg (Err link.Marked) k2 h = absurd h
  message_makes o l msg (Err (link.Wire f)) k2 h = absurd h

  hears_make : (o : Offers) (l : LinkId) (frag : Frag) (answer : Result MonitorAnswer LinkReceiveFault) (k2 : TheCore) → HearsFrag o l frag k answer k2 → Comes k2
  hears_make o l frag (Err (link.Wire wiring.Memory)) k2 h = absurd h
  hears_make o l frag (Err (link.Wire wiring.NotFirst)) k2 h = places_stay k2 (ap (λ (y : TheCore). y.places) h.1)
  hears_make o l frag (Err (link.Wire wiring.FirstInside)) k2 h = places_stay k2 (ap (λ (y : TheCore). y.places) h.1)
  hears_make o l frag (Err (link.Wire wiring.UnknownMessage)) k2 h = places_stay k2 (ap (λ (y : TheCore). y.places) h.1)
  hears_make o l frag (Err (link.Wire wiring.NotZero)) k2 h = places_stay k2 (ap (λ (y : TheCore). y.places) h.1)
  hears_make o l frag (Err (link.Wire wiring.OutOfType)) k2 h = places_stay k2 (ap (λ (y : TheCore). y.places) h.1)
  hears_make o l frag (Err (link.Wire wiring.TooLong)) k2 h = places_stay k2 (ap (λ (y : TheCore). y.places) h.1)
  hears_make o l frag (Err link.Memory) k2 h = alike k2 h
  hears_make o l frag (Err link.Failed) k2 h = message_makes o l h.0 (Err link.Failed) k2 h.2
  hears_make o l frag (Err link.Misrouted) k2 h = message_makes o l h.0 (Err link.Misrouted) k2 h.2
  hears_make o l frag (Err link.Marked) k2 h = message_makes o l h.0 (Err link.Marked) k2 h.2
  hears_make o l frag (Ok answered) k2 h = message_makes o l h.0 (Ok answered) k2 h.2

  asks_make : (a : Asked) (answer : Result ℕ OpenFault) (k2 : TheCore) → a.opening.binding < 1024 → Asks a k answer k2 → Comes k2
  asks_make a (Ok place) k2 few h =
      one_made k2 place (client_of a.opening.binding) a.link h.adds.0 few (ap (λ (y : TheCore). y.wired_ends) h.rest) (ap (λ (y : TheCore). y.places) h.rest) (ap (λ (y : TheCore). y.arrivals) h.rest)
  asks_make a (Err (opening.Board fault)) k2 few h = alike k2 h.1
  asks_make a (Err (opening.Monitor fault)) k2 few h = alike k2 h.2

-- ---- one event

module _ {S : Type 0} (w : SideRelations S) (jobs : List CoreJob) (name : EndId) where
  pub does_make : (log_entry : LogEntry) (s m : TheRun S) → IsCore s.core → Absent name s.core → InPlace jobs s log_entry → Does w log_entry s m → Absent name m.core ⊎ MadeOn name m.core
  does_make (looked n l answer) s m core absent by h = ahead_makes name s.core core absent w l.0 h.before answer m.core h.after h.event
  does_make (passed n k frag c Moved) s m core absent by h = alike name s.core core absent m.core (h.2.event.1 ∙ h.1.event.1)
  does_make (passed n k frag c Full) s m core absent by h = alike name s.core core absent m.core h.event.1
  does_make (passed n k frag c Spent) s m core absent by h = alike name s.core core absent m.core h.event.1
  does_make (arrived n l frag end answer) s m core absent by h = arrives_makes name s.core core absent w l.0 frag end h.before answer m.core h.after h.event
  does_make (heard n l frag answer) s m core absent by h = hears_make name s.core core absent s.offers l frag answer m.core h.event.0
  does_make (said n l answer) s m core absent by h = says_makes name s.core core absent w l.0 h.before answer m.core h.after h.event
  does_make (told n l answer) s m core absent by h = alike name s.core core absent m.core h.event.1
  does_make (opened n request answer) s m core absent by h =
      let tests = five (nat_lt request.dispatcher (length s.core.board.dispatchers)) (nat_lt request.interface (length s.offers.programs)) (nat_lt request.opening.binding 1024)
      (not (is_some (place_of s.core (client_of request.opening.binding)))) (can_say s.core.monitor.outboxes request.link.0) by.1 in
      asks_make name s.core core absent _ answer m.core (ltb-true request.opening.binding 1024 tests.0) h.event.asks
  does_make (called n c answer) s m core absent by h = places_stay name s.core core absent m.core (ap (λ (y : TheCore). y.places) h.2.event.rest)
  does_make (ruled n msg reply answer) s m core absent by h = places_stay name s.core core absent m.core (ap (λ (y : TheCore). y.places) h.2.event.rest)
  does_make (wrote n (outlet.Queue i) answer) s m core absent by h = places_stay name s.core core absent m.core (ap (λ (y : TheCore). y.places) h.2.event.rest)
  does_make (wrote n (outlet.Side i) answer) s m core absent by h = places_stay name s.core core absent m.core (ap (λ (y : TheCore). y.places) h.2.event.rest)
  does_make (acked n i answer) s m core absent by h = alike name s.core core absent m.core h.2.event.1
  does_make (turned d n (inlet.Queue i) answer) s m core absent by h = places_stay name s.core core absent m.core (ap (λ (y : TheCore). y.places) h.3.event.rest)
  does_make (turned d n (inlet.Side i) answer) s m core absent by h = places_stay name s.core core absent m.core (ap (λ (y : TheCore). y.places) h.3.event.rest)
  does_make (turned d n inlet.Arrivals answer) s m core absent by h = places_stay name s.core core absent m.core (ap (λ (y : TheCore). y.places) h.3.event.rest)

  -- nothing comes to an end that isn't there, and it writes nothing
  none_come : (log_entry : LogEntry) (s m : TheRun S) (by : InPlace jobs s log_entry) → Absent name s.core → (h : Does w log_entry s m) → come_to name (event_steps w jobs log_entry s m by h) ≡ []
  none_come (looked n l answer) s m by absent h = refl
  none_come (passed n k frag c Moved) s m by absent h = refl
  none_come (passed n k frag c Full) s m by absent h = refl
  none_come (passed n k frag c Spent) s m by absent h = refl
  none_come (arrived n l frag d (Ok Moved)) s m by absent h =
      ap (λ (b : Bool). (if b then as_carried frag ∷ [] else []) ++ []) (not_there (place_of s.core d) refl h.event.at) where
        not_there : (o : Option ℕ) → place_of s.core d ≡ o → (given o None λ f. given (arrivals_of s.core f) None λ k. Some (arriving f k)) ≡ Some (arriving h.event.end h.event.queue) → same_end d name ≡ false
        not_there None at is = absurd (cc)
        not_there (Some f) at is = not_it w jobs name s d f absent at
  none_come (arrived n l frag d (Ok Full)) s m by absent h = refl
  none_come (arrived n l frag d (Ok Spent)) s m by absent h = refl
  none_come (arrived n l frag d (Err fault)) s m by absent h = refl
  none_come (heard n l frag answer) s m by absent h = heard_come s.core.monitor.circuits name l.0 (if_heard answer frag)
  none_come (said n l answer) s m by absent h = said_come s.core.monitor.circuits name l.0 (if_said answer (waiting_for s.core.monitor.outboxes l.0))
  none_come (told n l answer) s m by absent h = refl
  none_come (opened n request answer) s m by absent h = refl
  none_come (called n c answer) s m by absent h = refl
  none_come (ruled n msg reply answer) s m by absent h = refl
  none_come (wrote n out answer) s m by absent h = wrote_come s.core.monitor.circuits name (link_at s.core h.0) n _
  none_come (acked n i answer) s m by absent h = refl
  none_come (turned d n from answer) s m by absent h = refl

  wrote_none : (log_entry : LogEntry) (s m : TheRun S) (by : InPlace jobs s log_entry) → Absent name s.core → (h : Does w log_entry s m) → written_by name (event_steps w jobs log_entry s m by h) ≡ []
  wrote_none (looked n l answer) s m by absent h = refl
  wrote_none (passed n k frag c Moved) s m by absent h = refl
  wrote_none (passed n k frag c Full) s m by absent h = refl
  wrote_none (passed n k frag c Spent) s m by absent h = refl
  wrote_none (arrived n l frag d answer) s m by absent h = passed_written s.core.monitor.circuits name l.0 d (if_arrived answer frag)
  wrote_none (heard n l frag answer) s m by absent h = heard_written s.core.monitor.circuits name l.0 (if_heard answer frag)
  wrote_none (said n l answer) s m by absent h = said_written s.core.monitor.circuits name l.0 (if_said answer (waiting_for s.core.monitor.outboxes l.0))
  wrote_none (told n l answer) s m by absent h = refl
  wrote_none (opened n request answer) s m by absent h = refl
  wrote_none (called n c answer) s m by absent h = refl
  wrote_none (ruled n msg reply answer) s m by absent h = refl
  wrote_none (wrote n out answer) s m by absent h = none_written s.core.monitor.circuits name n _ (link_at s.core h.0) (not_it w jobs name s n h.0 absent h.1)
  wrote_none (acked n i answer) s m by absent h = refl
  wrote_none (turned d n from answer) s m by absent h = refl

  -- ---- a log

  -- its arrival queue went on from an empty one; and what the end put went onto its link
  pub record QueueMade (steps : List TableStep) (put took : List Frag) (t : TheRun S) (a : ℕ) : Type 0 where
    pub after : TheQueue
    pub after_is : slice_get t.core.arrivals a ≡ Some after
    pub carries : Carries QueuePuts QueueTakes (come_to name steps) took new_arrivals after
    pub written : written_by name steps ≡ map as_carried put

  -- steps and log entries at which nothing was added come before
  made_later : (steps rest : List TableStep) (put took more_put more_took : List Frag) (t : TheRun S) (a : ℕ) → come_to name steps ≡ [] → written_by name steps ≡ [] → put ≡ [] → took ≡ []
      → QueueMade rest more_put more_took t a → QueueMade (steps ++ rest) (put ++ more_put) (took ++ more_took) t a
  made_later steps rest put took more_put more_took t a come written none_put none_took h = record {
    after = h.after;
    after_is = h.after_is;
    carries = subst (λ (xs : List Frag). Carries QueuePuts QueueTakes xs (took ++ more_took) new_arrivals h.after) (sym (come_joins name steps rest ∙ ap (λ (xs : List Frag). xs ++ come_to name rest) come))
        (subst (λ (xs : List Frag). Carries QueuePuts QueueTakes (come_to name rest) xs new_arrivals h.after) (sym (ap (λ (xs : List Frag). xs ++ more_took) none_took)) h.carries);
    written = written_joins name steps rest ∙ ap (λ (xs : List Frag). xs ++ written_by name rest) written ∙ h.written ∙ sym (ap (λ (xs : List Frag). map as_carried (xs ++ more_put)) none_put);
  }

  pub places_to : (log : List LogEntry) (s t : TheRun S) (e : ℕ) → Goes w jobs s log t → place_of s.core name ≡ Some e → place_of t.core name ≡ Some e
  places_to [] s t e h at = ap (λ (x : TheRun S). place_of x.core name) h ∙ at
  places_to (log_entry ∷ log) s t e h at = places_to log h.0 t e h.3 (end_stays w jobs log_entry s h.0 name e h.1 h.2 at)

  pub wired_ends_to : (log : List LogEntry) (s t : TheRun S) (e : ℕ) (p : WiredEnd) → Goes w jobs s log t → slice_get s.core.wired_ends e ≡ Some p → slice_get t.core.wired_ends e ≡ Some p
  wired_ends_to [] s t e p h at = ap (λ (x : TheRun S). slice_get x.core.wired_ends e) h ∙ at
  wired_ends_to (log_entry ∷ log) s t e p h at = wired_ends_to log h.0 t e p h.3 ((grows w jobs log_entry s h.1.0 h.0 h.1.1 h.1.2).wired_ends.0 e p at)

  made_on : (log : List LogEntry) (s t : TheRun S) (h : Goes w jobs s log t) (b : MadeOn name s.core) (e a : ℕ) (l : LinkId) (p : WiredEnd) → place_of t.core name ≡ Some e → slice_get t.core.wired_ends e ≡ Some p → p.wiring ≡ Circuit l a
      → QueueMade (log_steps w jobs log s t h) (log_put w jobs name log s t h) (log_took w jobs name log s t h) t a
  made_on log s t h b e a l p at there on =
      let places : Some b.place ≡ Some e = sym (places_to log s t b.place h b.place_is) ∙ at in
      let place : b.place ≡ e = cc in
      let wired_ends = one_stands t.core.wired_ends b.place b.wired_end p (wired_ends_to log s t b.place b.wired_end h b.wired_end_is) (subst (λ (i : ℕ). slice_get t.core.wired_ends i ≡ Some p) (sym place) there) in
      let wirings : Circuit b.link b.queue ≡ Circuit l a = sym b.wiring_is ∙ ap (λ (x : WiredEnd). x.wiring) wired_ends ∙ on in
      let queue : b.queue ≡ a = cc in
      let both = circuit_goes w jobs log s t h name b.place b.queue b.link b.wired_end b.place_is b.wired_end_is b.wiring_is in
      let (q, after, c) = both.0 new_arrivals b.new in
      record { after = q; after_is = subst (λ (i : ℕ). slice_get t.core.arrivals i ≡ Some q) queue after; carries = c; written = both.1 }

  pub circuit_made : (log : List LogEntry) (s t : TheRun S) (h : Goes w jobs s log t) → Absent name s.core → (e a : ℕ) (l : LinkId) (p : WiredEnd) → place_of t.core name ≡ Some e → slice_get t.core.wired_ends e ≡ Some p → p.wiring ≡ Circuit l a
      → QueueMade (log_steps w jobs log s t h) (log_put w jobs name log s t h) (log_took w jobs name log s t h) t a
  circuit_made [] s t h absent e a l p at there on = absurd (let no : Some e ≡ None = sym at ∙ ap (λ (x : TheRun S). place_of x.core name) h ∙ absent in cc)
  circuit_made (log_entry ∷ log) s t h absent e a l p at there on =
      let none = nothing w jobs name [] log_entry s h.1.0 absent h.1.1 in
      made_later (event_steps w jobs log_entry s h.1.0 h.2 h.1.1) (log_steps w jobs log h.0 t h.3) (of_end name log_entry (acted_put w log_entry s h.1.0 h.1.1)) (of_end name log_entry (acted_took w log_entry s h.1.0 h.1.1))
      (log_put w jobs name log h.0 t h.3) (log_took w jobs name log h.0 t h.3) t a (none_come log_entry s h.1.0 h.2 absent h.1.1) (wrote_none log_entry s h.1.0 h.2 absent h.1.1) none.put_none none.took_none
      (by (does_make log_entry s h.1.0 h.1.3.core absent h.2 h.1.1) (λ still. circuit_made log h.0 t h.3 still e a l p at there on)) where
        same : h.0.core ≡ h.1.0.core
        same = core_aside h.1.0 h.0 log_entry h.1.2

        by : Absent name h.1.0.core ⊎ MadeOn name h.1.0.core
            → (Absent name h.0.core → QueueMade (log_steps w jobs log h.0 t h.3) (log_put w jobs name log h.0 t h.3) (log_took w jobs name log h.0 t h.3) t a)
            → QueueMade (log_steps w jobs log h.0 t h.3) (log_put w jobs name log h.0 t h.3) (log_took w jobs name log h.0 t h.3) t a
        by (inl still) onward = onward (ap (λ (k : TheCore). place_of k name) same ∙ still)
        by (inr b) onward = made_on log h.0 t h.3 (subst (MadeOn name) (sym same) b) e a l p at there on
