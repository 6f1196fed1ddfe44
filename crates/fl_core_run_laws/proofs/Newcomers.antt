-- Ends that are made while a core runs.
use Rattle.std.proofs.Common.{◌≡◌, ◌≢◌, refl, sym, ap, ◌∙◌, subst, ℕ, ◌<◌, ◌⊎◌, inl, inr, nat_lt, not, is_some, if◌then◌else◌, List, [], ◌∷◌, ◌++◌, map, length, slice_get, slice_set}
use Rattle.std.proofs.Common.{Option, Some, None, Bool, true, false, Result, Ok, Err, arith}
use Rattle.std.proofs.lemmas.Bool.{ltb-true}
use Rattle.std.proofs.lemmas.List.{length-set}
use Rattle.fl_base.specs.declared.fragment.Frag.{Frag}
use Rattle.fl_base.specs.declared.identity.EndId.{EndId}
use Rattle.fl_base.specs.declared.identity.LinkId.{LinkId}
use Rattle.fl_value_data.specs.Value.{TheCall, call_of}
use Rattle.fl_wire.specs.declared.fault.WireFault.TheVariants as wiring
use Rattle.fl_hop.specs.Stretch.{same_end}
use Rattle.fl_hop.specs.declared.forward.ForwardOutcome.TheVariants.{Moved, Full, Spent}
use Rattle.fl_endpoint.specs.View.{TheEnd}
use Rattle.fl_core.proofs.BoardPlaces.{push_last}
use Rattle.fl_core.specs.BoardView.{TheEndAtChannel, TheBoard}
use Rattle.fl_core.specs.BoardEvents.{Adds}
use Rattle.fl_core.specs.declared.kind.ChannelKind.{ChannelKind}
use Rattle.fl_monitor.specs.Hearing.{ComesTo}
use Rattle.fl_monitor.specs.Monitors.{TheMonitor, can_say}
use Rattle.fl_monitor.specs.declared.heard.MessageOutcome.{MessageOutcome}
use Rattle.fl_monitor.specs.declared.heard.MessageOutcome.TheVariants as outcome
use Rattle.fl_monitor.specs.declared.message.MonitorMessage.{MonitorMessage}
use Rattle.fl_core.specs.View.{TheCore, place_of, place_in, slot_of, client_of, server_of, with_monitor, arriving_at}
use Rattle.fl_core.specs.Sound.{IsCore}
use Rattle.fl_core.specs.Links.{LooksAhead, inbound, ArrivesAt, MonitorWrites}
use Rattle.fl_core.specs.Hearing.{Offers, known_for, offer_for, HearsFrag, HearsMessage, HearsAll, offering, Follows, BindsIf}
use Rattle.fl_core.specs.Making.{Asked, Asks}
use Rattle.fl_core.specs.declared.answer.LinkFront.{LinkFront}
use Rattle.fl_core.specs.declared.answer.LinkFront.TheVariants as ahead
use Rattle.fl_core.specs.declared.answer.MonitorWrite.{MonitorWrite}
use Rattle.fl_core.specs.declared.answer.MonitorWrite.TheVariants as said_as
use Rattle.fl_core.specs.declared.answer.MonitorAnswer.{MonitorAnswer}
use Rattle.fl_core.specs.declared.answer.MonitorAnswer.TheVariants as heard_as
use Rattle.fl_core.specs.declared.fault.LinkReceiveFault.{LinkReceiveFault}
use Rattle.fl_core.specs.declared.fault.LinkReceiveFault.TheVariants as link
use Rattle.fl_core.specs.declared.fault.OpenFault.{OpenFault}
use Rattle.fl_core.specs.declared.fault.OpenFault.TheVariants as opening
use Rattle.fl_core.specs.declared.wiring.ArrivalPlace.{ArrivalPlace}
use Rattle.fl_base.specs.declared.identity.Circuit.{Circuit as Number}
use Rattle.fl_hop.specs.declared.forward.ForwardOutcome.{ForwardOutcome}
use Rattle.fl_core.specs.declared.wiring.Outlet.TheVariants as outlet
use Rattle.fl_core.specs.declared.wiring.Inlet.TheVariants as inlet
use Rattle.fl_core.specs.Ends.{at_side}
use Rattle.fl_core.proofs.Named.{put_here, put_elsewhere, here_or_not}
use Rattle.fl_core.proofs.HasWiredEnd.{placed_below}
use Rattle.fl_core.proofs.Offers.{made_for, made_new}
use Rattle.fl_core.specs.declared.core_job.CoreJob.{CoreJob}
use Rattle.fl_core_run.specs.Run.{SideRelations, TheRun}
use Rattle.fl_core_run.specs.LogEntries.{LogEntry, looked, passed, arrived, heard, said, told, opened, called, ruled, wrote, acked, turned, Does}
use Rattle.fl_core_run_laws.specs.Logs.{InPlace, Goes, handled_in, handled_at}
use Rattle.fl_core_run_laws.specs.Carried.{EndGoes, rules_in, rules_at, sent_in, sent_at, calls_handled, traffic}
use Rattle.fl_core_run_laws.specs.Flows.{IsNew, Passed, EndCarries, MadeCarries}
use Rattle.fl_core_run_laws.proofs.Aside.{core_aside}
use Rattle.fl_core_run_laws.proofs.Handling.{one_end}
use Rattle.fl_core_run_laws.proofs.Seating.{HasEnd, lists_same, Sits}
use Rattle.fl_core_run_laws.proofs.Carrying.{IsHere, five, acted_put, acted_took, of_end, log_put, log_took, log_goes}

-- an end of this name was made
record MadeAt (name : EndId) (k : TheCore) : Type 0 where
  pub place : ℕ
  pub end : TheEnd
  pub here : IsHere name place end k
  pub new : IsNew end

abbrev pub Absent : EndId → TheCore → Type 0
Absent name k = place_of k name ≡ None

module _ (name : EndId) (k : TheCore) (core : IsCore k) (absent : Absent name k) where
  abbrev Comes : TheCore → Type 0
  Comes k2 = Absent name k2 ⊎ MadeAt name k2

  places_stay : (k2 : TheCore) → k2.places ≡ k.places → Comes k2
  places_stay k2 same = inl (ap (λ (xs : List (Option ℕ)). place_in xs name) same ∙ absent)

  alike : (k2 : TheCore) → k2 ≡ k → Comes k2
  alike k2 same = places_stay k2 (ap (λ (c : TheCore). c.places) same)

  -- an end is made, at the last place: this one, or another
  one_made : (k2 : TheCore) (place : ℕ) (new : EndId) (x : TheEnd) → HasEnd k2.board place x → IsNew x → place ≡ length k.board.seats → new.binding < 1024
      → k2.places ≡ slice_set k.places (slot_of new) (Some place) → Comes k2
  one_made k2 place new x has is_new last few places = elim (here_or_not name new) [
    | inl same ↦ inr (record {
      place = place;
      end = x;
      here = record { has = has; sits = sits same };
      new = is_new;
    })
    | inr other ↦ inl (ap (λ (xs : List (Option ℕ)). place_in xs name) places ∙ put_elsewhere k.places new name (Some place) other ∙ absent)
  ] where
    set : List (Option ℕ)
    set = slice_set k.places (slot_of new) (Some place)

    only : (n : EndId) → place_in (slice_set k.places (slot_of new) (Some place)) n ≡ Some place → (n ≡ new) ⊎ (slot_of n ≢ slot_of new) → n ≡ new
    only n is (inl same) = same
    only n is (inr other) =
        let before : place_of k n ≡ Some place = sym (put_elsewhere k.places new n (Some place) other) ∙ is in
        let below = placed_below k n place core before in
        absurd (omega (arith, below, last))

    sits : name ≡ new → Sits k2.places name place
    sits same = record {
      long = ap length places ∙ length-set k.places (slot_of new) (Some place) ∙ core.slots;
      here = ap (λ (xs : List (Option ℕ)). place_in xs name) places ∙ ap (λ (n : EndId). place_in (slice_set k.places (slot_of new) (Some place)) n) same ∙ put_here k.places new (Some place) core.slots few;
      only = λ n is. only n (ap (λ (xs : List (Option ℕ)). place_in xs n) (sym places) ∙ is) (here_or_not n new) ∙ sym same;
    }

  added_there : (b c : TheBoard) (n place : ℕ) (x : TheEnd) (kind : ChannelKind) → Adds b n x kind (Ok place) c → HasEnd c place x
  added_there b c n place x kind h =
      let seat : TheEndAtChannel = record { end = x; dispatcher = n; channel = length h.1.0.ends; kind = kind } in
      record {
        seat = seat;
        seat_is = ap (λ (d : TheBoard). slice_get d.seats place) h.1.3 ∙ ap (λ (j : ℕ). slice_get (b.seats ++ seat ∷ []) j) h.0 ∙ push_last b.seats seat;
        end_is = refl;
      }

  -- ---- by what happened

  ahead_comes : {S : Type 0} (w : SideRelations S) (l : ℕ) (p : S) (answer : Result LinkFront LinkReceiveFault) (k2 : TheCore) (q : S) → LooksAhead w.takes w.front l (at_side k p) answer (at_side k2 q) → Comes k2
  ahead_comes w l p (Ok ahead.Nothing) k2 q h = alike k2 h.1
  ahead_comes w l p (Ok ahead.Acknowledged) k2 q h = alike k2 h.1
  ahead_comes w l p (Ok (ahead.Message frag)) k2 q h = alike k2 h.1
  ahead_comes w l p (Ok (ahead.Onward frag side c)) k2 q h = alike k2 h.1
  ahead_comes w l p (Ok (ahead.Arrival frag n)) k2 q h = alike k2 h.1
  ahead_comes w l p (Err link.Failed) k2 q h = alike k2 h.1
  ahead_comes w l p (Err link.Misrouted) k2 q h = places_stay k2 (ap (λ (c : TheCore). c.places) h.1)
  ahead_comes w l p (Err link.Marked) k2 q h = places_stay k2 (ap (λ (c : TheCore). c.places) h.1)
  ahead_comes w l p (Err (link.Wire f)) k2 q h = absurd h
  ahead_comes w l p (Err link.Memory) k2 q h = absurd h

  arrives_comes : {S : Type 0} (w : SideRelations S) (l : ℕ) (frag : Frag) (n : EndId) (p : S) (answer : Result ForwardOutcome LinkReceiveFault) (k2 : TheCore) (q : S) → ArrivesAt w.takes (inbound l frag n) (at_side k p) answer (at_side k2 q) → Comes k2
  arrives_comes w l frag n p (Ok result) k2 q h = places_stay k2 (ap (λ (c : TheCore). c.places) h.rest)
  arrives_comes w l frag n p (Err link.Misrouted) k2 q h = places_stay k2 (ap (λ (c : TheCore). c.places) h.1)
  arrives_comes w l frag n p (Err link.Failed) k2 q h = absurd h
  arrives_comes w l frag n p (Err link.Marked) k2 q h = absurd h
  arrives_comes w l frag n p (Err (link.Wire f)) k2 q h = absurd h
  arrives_comes w l frag n p (Err link.Memory) k2 q h = absurd h

  says_comes : {S : Type 0} (w : SideRelations S) (l : ℕ) (p : S) (answer : MonitorWrite) (k2 : TheCore) (q : S) → MonitorWrites w.puts l (at_side k p) answer (at_side k2 q) → Comes k2
  says_comes w l p said_as.Written k2 q h = places_stay k2 (ap (λ (c : TheCore). c.places) h.4)
  says_comes w l p said_as.Full k2 q h = alike k2 h.2
  says_comes w l p said_as.Spent k2 q h = alike k2 h.2
  says_comes w l p said_as.Nothing k2 q h = alike k2 h.1

  binds_come : (m : TheMonitor) (o : Option ArrivalPlace) (c : Number) (k2 : TheCore) → BindsIf o c (with_monitor k m) k2 → Comes k2
  binds_come m None c k2 h = places_stay k2 (ap (λ (y : TheCore). y.places) h)
  binds_come m (Some at) c k2 h = places_stay k2 (ap (λ (y : TheCore). y.places) h.rest)

  follows_come : (o : Offers) (l : LinkId) (msg : MonitorMessage) (m : TheMonitor) (h : MessageOutcome) (answered : MonitorAnswer) (k2 : TheCore) → ComesTo (known_for o k msg) k.monitor.circuits l msg h
      → Follows (offering o.programs (offer_for o k msg) l) h (with_monitor k m) answered k2 → Comes k2
  follows_come o l msg m (outcome.ServerMade binding dispatcher c) answered k2 comes f =
      let new = made_new o k msg _ (made_for (known_for o k msg) k.monitor.circuits l msg (outcome.ServerMade binding dispatcher c) _ comes refl) in
      one_made k2 f.1.end (server_of binding) _ (lists_same f.1.added k2.board f.1.end f.1.end _ _ f.1.joins.1 (added_there k.board f.1.added dispatcher f.1.end _ _ f.1.adds))
      (record { outgoing = refl; parts = refl; rules = refl }) f.1.adds.0 new.0 (ap (λ (y : TheCore). y.places) f.1.rest)
  follows_come o l msg m (outcome.EndOpened n c) answered k2 comes f = binds_come m (arriving_at (with_monitor k m) n) c k2 f.1
  follows_come o l msg m (outcome.EndRefused n reason) answered k2 comes f = places_stay k2 (ap (λ (y : TheCore). y.places) f.1)
  follows_come o l msg m (outcome.OpeningWentOn binding n c) answered k2 comes f = places_stay k2 (ap (λ (y : TheCore). y.places) f.1)
  follows_come o l msg m (outcome.OpeningFailed binding reason) answered k2 comes f = places_stay k2 (ap (λ (y : TheCore). y.places) f.1)
  follows_come o l msg m (outcome.AnswerWentOn binding n c) answered k2 comes f = places_stay k2 (ap (λ (y : TheCore). y.places) f.1)

  all_come : (o : Offers) (l : LinkId) (msg : MonitorMessage) (answered : MonitorAnswer) (k2 : TheCore) → HearsAll o l msg k answered k2 → Comes k2
  all_come o l msg answered k2 h = follows_come o l msg h.monitor h.heard answered k2 h.hears.0 h.follows

  message_comes : (o : Offers) (l : LinkId) (msg : MonitorMessage) (answer : Result MonitorAnswer LinkReceiveFault) (k2 : TheCore) → HearsMessage o l msg k answer k2 → Comes k2
  message_comes o l msg (Ok heard_as.Full) k2 h = alike k2 h.1
  message_comes o l msg (Ok heard_as.Done) k2 h = all_come o l msg heard_as.Done k2 h
  message_comes o l msg (Ok (heard_as.Opened n)) k2 h = all_come o l msg (heard_as.Opened n) k2 h
  message_comes o l msg (Ok (heard_as.OpeningRefused n reason)) k2 h = all_come o l msg (heard_as.OpeningRefused n reason) k2 h
  message_comes o l msg (Err link.Misrouted) k2 h = places_stay k2 (ap (λ (y : TheCore). y.places) h.1)
  message_comes o l msg (Err link.Memory) k2 h = alike k2 h
  message_comes o l msg (Err link.Failed) k2 h = absurd h
  message_comes o l msg (Err link.Marked) k2 h = absurd h
  message_comes o l msg (Err (link.Wire f)) k2 h = absurd h

  hears_come : (o : Offers) (l : LinkId) (frag : Frag) (answer : Result MonitorAnswer LinkReceiveFault) (k2 : TheCore) → HearsFrag o l frag k answer k2 → Comes k2
  hears_come o l frag (Err (link.Wire wiring.Memory)) k2 h = absurd h
  hears_come o l frag (Err (link.Wire wiring.NotFirst)) k2 h = places_stay k2 (ap (λ (y : TheCore). y.places) h.1)
  hears_come o l frag (Err (link.Wire wiring.FirstInside)) k2 h = places_stay k2 (ap (λ (y : TheCore). y.places) h.1)
  hears_come o l frag (Err (link.Wire wiring.UnknownMessage)) k2 h = places_stay k2 (ap (λ (y : TheCore). y.places) h.1)
  hears_come o l frag (Err (link.Wire wiring.NotZero)) k2 h = places_stay k2 (ap (λ (y : TheCore). y.places) h.1)
  hears_come o l frag (Err (link.Wire wiring.OutOfType)) k2 h = places_stay k2 (ap (λ (y : TheCore). y.places) h.1)
  hears_come o l frag (Err (link.Wire wiring.TooLong)) k2 h = places_stay k2 (ap (λ (y : TheCore). y.places) h.1)
  hears_come o l frag (Err link.Memory) k2 h = alike k2 h
  hears_come o l frag (Err link.Failed) k2 h = message_comes o l h.0 (Err link.Failed) k2 h.2
  hears_come o l frag (Err link.Misrouted) k2 h = message_comes o l h.0 (Err link.Misrouted) k2 h.2
  hears_come o l frag (Err link.Marked) k2 h = message_comes o l h.0 (Err link.Marked) k2 h.2
  hears_come o l frag (Ok answered) k2 h = message_comes o l h.0 (Ok answered) k2 h.2

  asks_come : (a : Asked) (answer : Result ℕ OpenFault) (k2 : TheCore) → a.opening.binding < 1024 → Asks a k answer k2 → Comes k2
  asks_come a (Ok place) k2 few h =
      one_made k2 place (client_of a.opening.binding) _ (added_there k.board k2.board a.dispatcher place _ _ h.adds) (record { outgoing = refl; parts = refl; rules = refl }) h.adds.0 few
      (ap (λ (y : TheCore). y.places) h.rest)
  asks_come a (Err (opening.Board fault)) k2 few h = alike k2 h.1
  asks_come a (Err (opening.Monitor fault)) k2 few h = alike k2 h.2

off : {X : Type 0} (b : Bool) (x y : X) → b ≡ false → (if b then x else y) ≡ y
off true x y h = absurd (cc)
off false x y h = refl

-- ---- one event

module _ {S : Type 0} (w : SideRelations S) (jobs : List CoreJob) (name : EndId) where
  does_come : (log_entry : LogEntry) (s m : TheRun S) → IsCore s.core → Absent name s.core → InPlace jobs s log_entry → Does w log_entry s m → Absent name m.core ⊎ MadeAt name m.core
  does_come (looked n l answer) s m core absent by h = ahead_comes name s.core core absent w l.0 h.before answer m.core h.after h.event
  does_come (passed n k frag c Moved) s m core absent by h = alike name s.core core absent m.core (h.2.event.1 ∙ h.1.event.1)
  does_come (passed n k frag c Full) s m core absent by h = alike name s.core core absent m.core h.event.1
  does_come (passed n k frag c Spent) s m core absent by h = alike name s.core core absent m.core h.event.1
  does_come (arrived n l frag end answer) s m core absent by h = arrives_comes name s.core core absent w l.0 frag end h.before answer m.core h.after h.event
  does_come (heard n l frag answer) s m core absent by h = hears_come name s.core core absent s.offers l frag answer m.core h.event.0
  does_come (said n l answer) s m core absent by h = says_comes name s.core core absent w l.0 h.before answer m.core h.after h.event
  does_come (told n l answer) s m core absent by h = alike name s.core core absent m.core h.event.1
  does_come (opened n request answer) s m core absent by h =
      let tests = five (nat_lt request.dispatcher (length s.core.board.dispatchers)) (nat_lt request.interface (length s.offers.programs)) (nat_lt request.opening.binding 1024)
      (not (is_some (place_of s.core (client_of request.opening.binding)))) (can_say s.core.monitor.outboxes request.link.0) by.1 in
      asks_come name s.core core absent _ answer m.core (ltb-true request.opening.binding 1024 tests.0) h.event.asks
  does_come (called n c answer) s m core absent by h = places_stay name s.core core absent m.core (ap (λ (y : TheCore). y.places) h.2.event.rest)
  does_come (ruled n msg reply answer) s m core absent by h = places_stay name s.core core absent m.core (ap (λ (y : TheCore). y.places) h.2.event.rest)
  does_come (wrote n (outlet.Queue i) answer) s m core absent by h = places_stay name s.core core absent m.core (ap (λ (y : TheCore). y.places) h.2.event.rest)
  does_come (wrote n (outlet.Side i) answer) s m core absent by h = places_stay name s.core core absent m.core (ap (λ (y : TheCore). y.places) h.2.event.rest)
  does_come (acked n i answer) s m core absent by h = alike name s.core core absent m.core h.2.event.1
  does_come (turned d n (inlet.Queue i) answer) s m core absent by h = places_stay name s.core core absent m.core (ap (λ (y : TheCore). y.places) h.3.event.rest)
  does_come (turned d n (inlet.Side i) answer) s m core absent by h = places_stay name s.core core absent m.core (ap (λ (y : TheCore). y.places) h.3.event.rest)
  does_come (turned d n inlet.Arrivals answer) s m core absent by h = places_stay name s.core core absent m.core (ap (λ (y : TheCore). y.places) h.3.event.rest)

  -- ---- nothing happens at an end that isn't there

  pub not_it : (s : TheRun S) (n : EndId) (f : ℕ) → Absent name s.core → place_of s.core n ≡ Some f → same_end n name ≡ false
  not_it s n f absent at = by (same_end n name) refl where
    by : (b : Bool) → same_end n name ≡ b → b ≡ false
    by false is = refl
    by true is = absurd (let no : Some f ≡ None = sym at ∙ ap (λ (x : EndId). place_of s.core x) (one_end n name is) ∙ absent in cc)

  -- what an event adds at the end: nothing
  pub record Adds0 (rules : List (Option ℕ)) (log_entry : LogEntry) (put took : List Frag) : Type 0 where
    pub sent : sent_in name rules log_entry ≡ []
    pub handled : handled_in name log_entry ≡ []
    pub rules_same : rules_in name rules log_entry ≡ rules
    pub put_none : of_end name log_entry put ≡ []
    pub took_none : of_end name log_entry took ≡ []

  pub nothing : (rules : List (Option ℕ)) (log_entry : LogEntry) (s m : TheRun S) → Absent name s.core → (h : Does w log_entry s m) → Adds0 rules log_entry (acted_put w log_entry s m h) (acted_took w log_entry s m h)
  nothing rules (called n c answer) s m absent h = record {
    sent = off (same_end n name) _ [] (not_it s n h.0 absent h.1);
    handled = refl;
    rules_same = refl;
    put_none = refl;
    took_none = refl;
  }
  nothing rules (ruled n msg reply answer) s m absent h = record {
    sent = refl;
    handled = refl;
    rules_same = off (same_end n name) _ rules (not_it s n h.0 absent h.1);
    put_none = refl;
    took_none = refl;
  }
  nothing rules (wrote n out answer) s m absent h = record {
    sent = refl;
    handled = refl;
    rules_same = refl;
    put_none = off (same_end n name) _ [] (not_it s n h.0 absent h.1);
    took_none = off (same_end n name) _ [] (not_it s n h.0 absent h.1);
  }
  nothing rules (turned d n from answer) s m absent h = record {
    sent = off (same_end n name) _ [] (not_it s n h.0 absent h.1);
    handled = off (same_end n name) _ [] (not_it s n h.0 absent h.1);
    rules_same = refl;
    put_none = off (same_end n name) _ [] (not_it s n h.0 absent h.1);
    took_none = off (same_end n name) _ [] (not_it s n h.0 absent h.1);
  }
  nothing rules (looked n l answer) s m absent h = record { sent = refl; handled = refl; rules_same = refl; put_none = refl; took_none = refl }
  nothing rules (passed n k frag c result) s m absent h = record { sent = refl; handled = refl; rules_same = refl; put_none = refl; took_none = refl }
  nothing rules (arrived n l frag e answer) s m absent h = record { sent = refl; handled = refl; rules_same = refl; put_none = refl; took_none = refl }
  nothing rules (heard n l frag answer) s m absent h = record { sent = refl; handled = refl; rules_same = refl; put_none = refl; took_none = refl }
  nothing rules (said n l answer) s m absent h = record { sent = refl; handled = refl; rules_same = refl; put_none = refl; took_none = refl }
  nothing rules (told n l answer) s m absent h = record { sent = refl; handled = refl; rules_same = refl; put_none = refl; took_none = refl }
  nothing rules (opened n request answer) s m absent h = record { sent = refl; handled = refl; rules_same = refl; put_none = refl; took_none = refl }
  nothing rules (acked n i answer) s m absent h = record { sent = refl; handled = refl; rules_same = refl; put_none = refl; took_none = refl }

  -- ---- a log

  -- what the end put and took in it
  abbrev pub passed_in : (log : List LogEntry) (s t : TheRun S) → Goes w jobs s log t → Passed
  passed_in log s t h = record { put = log_put w jobs name log s t h; took = log_took w jobs name log s t h }

  -- an event at which nothing was added to the end comes before
  later : (log_entry : LogEntry) (log : List LogEntry) (put took put0 took0 : List Frag) (t : TheRun S) (e : ℕ) (x : TheEnd) → Adds0 x.rules log_entry put0 took0 → EndCarries name log (record { put = put; took = took }) x t.core.board.seats e
      → EndCarries name (log_entry ∷ log) (record { put = of_end name log_entry put0 ++ put; took = of_end name log_entry took0 ++ took }) x t.core.board.seats e
  later log_entry log put took put0 took0 t e x none h =
      let sent : sent_at name x.rules log ≡ sent_at name x.rules (log_entry ∷ log) =
      sym (ap (λ (cs : List TheCall). cs ++ sent_at name (rules_in name x.rules log_entry) log) none.sent ∙ ap (λ (rs : List (Option ℕ)). sent_at name rs log) none.rules_same) in
      let handled : calls_handled name log ≡ calls_handled name (log_entry ∷ log) = sym (ap (λ cs. map call_of (cs ++ handled_at name log)) none.handled) in
      let puts : put ≡ of_end name log_entry put0 ++ put = sym (ap (λ (xs : List Frag). xs ++ put) none.put_none) in
      let takes : took ≡ of_end name log_entry took0 ++ took = sym (ap (λ (xs : List Frag). xs ++ took) none.took_none) in
      record {
        after = h.after;
        after_is = h.after_is;
        goes = subst (λ (cs : List TheCall). EndGoes (record { sent = cs; handled = calls_handled name (log_entry ∷ log); put = of_end name log_entry put0 ++ put; took = of_end name log_entry took0 ++ took }) x h.after.end) sent
            (subst (λ (cs : List TheCall). EndGoes (record { sent = sent_at name x.rules log; handled = cs; put = of_end name log_entry put0 ++ put; took = of_end name log_entry took0 ++ took }) x h.after.end) handled
            (subst (λ (xs : List Frag). EndGoes (record { sent = sent_at name x.rules log; handled = calls_handled name log; put = xs; took = of_end name log_entry took0 ++ took }) x h.after.end) puts
            (subst (λ (xs : List Frag). EndGoes (record { sent = sent_at name x.rules log; handled = calls_handled name log; put = put; took = xs }) x h.after.end) takes h.goes)));
        rules = h.rules ∙ sym (ap (λ (rs : List (Option ℕ)). rules_at name rs log) none.rules_same);
      }

  from_made : (log : List LogEntry) (s t : TheRun S) (e : ℕ) → (h : Goes w jobs s log t) → (a : MadeAt name s.core) → place_of t.core name ≡ Some e
      → EndCarries name log (passed_in log s t h) a.end t.core.board.seats e
  from_made log s t e h a at =
      let after = log_goes w jobs name a.place log s t a.end a.here h in
      let found : Some a.place ≡ Some e = sym after.sits.here ∙ at in
      let same : a.place ≡ e = cc in
      record {
        after = after.has.seat;
        after_is = subst (λ (i : ℕ). slice_get t.core.board.seats i ≡ Some after.has.seat) same after.has.seat_is;
        goes = subst (λ (y : TheEnd). EndGoes (traffic name a.end.rules log (log_put w jobs name log s t h) (log_took w jobs name log s t h)) a.end y) (sym after.has.end_is) after.goes;
        rules = ap (λ (y : TheEnd). y.rules) after.has.end_is ∙ after.rules_are;
      }

  pub made_carries : (log : List LogEntry) (s t : TheRun S) (e : ℕ) → (h : Goes w jobs s log t) → Absent name s.core → place_of t.core name ≡ Some e
      → MadeCarries name log (passed_in log s t h) t.core.board.seats e
  made_carries [] s t e h absent at = absurd (let no : Some e ≡ None = sym at ∙ ap (λ (x : TheRun S). place_of x.core name) h ∙ absent in cc)
  made_carries (log_entry ∷ log) s t e h absent at = by (does_come log_entry s h.1.0 h.1.3.core absent h.2 h.1.1) (λ still. made_carries log h.0 t e h.3 still at) where
    same : h.0.core ≡ h.1.0.core
    same = core_aside h.1.0 h.0 log_entry h.1.2

    by : Absent name h.1.0.core ⊎ MadeAt name h.1.0.core
        → (Absent name h.0.core → MadeCarries name log (passed_in log h.0 t h.3) t.core.board.seats e)
        → MadeCarries name (log_entry ∷ log) (passed_in (log_entry ∷ log) s t h) t.core.board.seats e
    by (inl still) onward =
        let more = onward (ap (λ (k : TheCore). place_of k name) same ∙ still) in
        record {
          began = more.began;
          new = more.new;
          carries = later log_entry log (log_put w jobs name log h.0 t h.3) (log_took w jobs name log h.0 t h.3) (acted_put w log_entry s h.1.0 h.1.1) (acted_took w log_entry s h.1.0 h.1.1) t e more.began
              (nothing more.began.rules log_entry s h.1.0 absent h.1.1) more.carries;
        }
    by (inr a) onward =
        let b : MadeAt name h.0.core = subst (λ (k : TheCore). MadeAt name k) (sym same) a in
        record {
          began = b.end;
          new = b.new;
          carries = later log_entry log (log_put w jobs name log h.0 t h.3) (log_took w jobs name log h.0 t h.3) (acted_put w log_entry s h.1.0 h.1.1) (acted_took w log_entry s h.1.0 h.1.1) t e b.end
              (nothing b.end.rules log_entry s h.1.0 absent h.1.1) (from_made log h.0 t e h.3 b at);
        }
