-- What an event leaves of that a core's table leads to its ends of circuits.
use Rattle.std.proofs.Common.{◌≡◌, refl, sym, ap, ◌∙◌, subst, ℕ, ◌⊎◌, inl, inr, nat_lt, not, is_some, List, [], ◌∷◌, ◌++◌, length, slice_get, slice_set}
use Rattle.std.proofs.Common.{Option, Some, None, Bool, true, false, if◌then◌else◌, Result, Ok, Err}
use Rattle.fl_base.specs.declared.fragment.Frag.{Frag}
use Rattle.fl_base.specs.declared.identity.EndId.{EndId}
use Rattle.fl_base.specs.declared.identity.LinkId.{LinkId}
use Rattle.fl_base.specs.declared.identity.Circuit.{Circuit as Number}
use Rattle.fl_base.specs.Given.{given}
use Rattle.fl_wire.specs.declared.fault.WireFault.TheVariants as wiring
use Rattle.fl_link.specs.Queue.{QueuePuts, QueueTakes}
use Rattle.fl_hop.specs.declared.forward.ForwardOutcome.{ForwardOutcome}
use Rattle.fl_hop.specs.declared.forward.ForwardOutcome.TheVariants.{Moved, Full, Spent}
use Rattle.fl_hop.specs.declared.entry.HopTarget.TheVariants.{End}
use Rattle.fl_hop.specs.declared.fault.HopFault.{HopFault}
use Rattle.fl_hop.specs.declared.fault.HopFault.TheVariants.{Misrouted, NoLink}
use Rattle.fl_hop.specs.Joined.{Sound}
use Rattle.fl_hop.specs.Later.{Later, way_at}
use Rattle.fl_hop.specs.Openings.{open_fault}
use Rattle.fl_hop.specs.Table.{TheCircuits, stands}
use Rattle.fl_hop.proofs.Laws.{later_same}
use Rattle.fl_endpoint.specs.Events.{Calls, SetsRule}
use Rattle.fl_core.specs.declared.kind.ChannelKind.TheVariants.{Queue}
use Rattle.fl_monitor.specs.Hearing.{ComesTo, table_after}
use Rattle.fl_monitor.specs.Monitors.{TheMonitor, can_say}
use Rattle.fl_monitor.specs.declared.heard.MessageOutcome.{MessageOutcome}
use Rattle.fl_monitor.specs.declared.heard.MessageOutcome.TheVariants as outcome
use Rattle.fl_monitor.specs.declared.message.MonitorMessage.{MonitorMessage}
use Rattle.fl_core.specs.View.{TheCore, place_of, arrivals_of, arriving, arriving_at, client_of, server_of, circuit_wired_end, with_monitor, with_failed}
use Rattle.fl_core.specs.Sound.{IsCore}
use Rattle.fl_core.specs.Links.{LooksAhead, inbound, ArrivesAt, MonitorWrites}
use Rattle.fl_core.specs.Hearing.{Offers, known_for, offer_for, HearsFrag, HearsMessage, HearsAll, offering, Follows, BindsIf, MakesServer}
use Rattle.fl_core.specs.Making.{Asked, Asks, Begins}
use Rattle.fl_core.specs.declared.answer.LinkFront.{LinkFront}
use Rattle.fl_core.specs.declared.answer.LinkFront.TheVariants as ahead
use Rattle.fl_core.specs.declared.answer.MonitorWrite.{MonitorWrite}
use Rattle.fl_core.specs.declared.answer.MonitorWrite.TheVariants as said_as
use Rattle.fl_core.specs.declared.answer.MonitorAnswer.{MonitorAnswer}
use Rattle.fl_core.specs.declared.answer.MonitorAnswer.TheVariants as heard_as
use Rattle.fl_core.specs.declared.fault.LinkReceiveFault.{LinkReceiveFault}
use Rattle.fl_core.specs.declared.fault.LinkReceiveFault.TheVariants as link
use Rattle.fl_core.specs.declared.fault.OpenFault.{OpenFault}
use Rattle.fl_core.specs.declared.fault.OpenFault.TheVariants as opening
use Rattle.fl_core.specs.declared.wiring.ArrivalPlace.{ArrivalPlace}
use Rattle.fl_core.specs.declared.wiring.WiredEnd.{WiredEnd}
use Rattle.fl_core.specs.declared.wiring.EndWiring.TheVariants.{Circuit}
use Rattle.fl_core.specs.declared.wiring.Outlet.TheVariants as outlet
use Rattle.fl_core.specs.declared.wiring.Inlet.TheVariants as inlet
use Rattle.fl_core.specs.Ends.{at_side}
use Rattle.fl_core.proofs.Offers.{made_for, made_new}
use Rattle.fl_core.specs.declared.core_job.CoreJob.{CoreJob}
use Rattle.fl_core_run.specs.Run.{SideRelations, TheRun}
use Rattle.fl_core_run.specs.LogEntries.{LogEntry, looked, passed, arrived, heard, said, told, opened, called, ruled, wrote, acked, turned, Does}
use Rattle.fl_core_run_laws.specs.Logs.{InPlace}
use Rattle.fl_core_run_laws.specs.Led.{IsSettled, IsLedTo, IsLed}
use Rattle.fl_core_run_laws.proofs.Bound.{circuits_of, calls_same, rules_same, writes_same, end_same, lists_same, turn_same, triggers_same, added, binds}
use Rattle.fl_core_run_laws.proofs.Carrying.{five, not_there}
use Rattle.fl_core_run_laws.proofs.Leading.{EndsLed, ends_led, map_there, ends_on, ends_more, ends_bound, OnZero, zero_more, zero_heard, zero_less, none_leads, as_many, absent_wired_end}
use Rattle.fl_core_run_laws.proofs.Tables.{GoesOn, OneNew, way_of, opened_goes}
use Rattle.fl_core_run_laws.proofs.TablesHeard.{new_by, heard_goes, opened_settles, server_made}

-- its table became a later one, and what leads then to an end that was there led there before
pub record Became (k k2 : TheCore) : Type 0 where
  pub later : Later k.monitor.circuits k2.monitor.circuits
  pub came : (l n e : ℕ) (p : WiredEnd) → slice_get k.wired_ends e ≡ Some p → way_at k2.monitor.circuits l n ≡ Some (End p.name) → way_at k.monitor.circuits l n ≡ Some (End p.name)

same_table : (k k2 : TheCore) → k2.monitor.circuits ≡ k.monitor.circuits → Became k k2
same_table k k2 same = record {
  later = subst (Later k.monitor.circuits) (sym same) (later_same k.monitor.circuits);
  came = λ l n e p at way. ap (λ (t : TheCircuits). way_at t l n) (sym same) ∙ way;
}

pub same_later : (k k2 : TheCore) → k2.monitor ≡ k.monitor → Became k k2
same_later k k2 same = same_table k k2 (ap (λ (m : TheMonitor). m.circuits) same)

-- by what the core has then
by_parts : (k : TheCore) (m : TheMonitor) (wired_ends : List WiredEnd) (circuits : List (Option ℕ)) → k.monitor ≡ m → k.wired_ends ≡ wired_ends → circuits_of k.board.seats ≡ circuits
    → EndsLed m.circuits wired_ends circuits → OnZero m.outboxes → IsLed k
by_parts k m wired_ends circuits monitor_is wired_ends_are circuits_are led zero = record {
  ends = λ e a l p seat wired_end wiring at.
      subst (λ (n : TheMonitor). IsLedTo n.circuits l.0 p.name seat.end.circuit) (sym monitor_is)
      (led e a l p seat.end.circuit (sym (ap (λ (xs : List WiredEnd). slice_get xs e) wired_ends_are) ∙ wired_end) wiring
      (sym (ap (λ (xs : List (Option ℕ)). slice_get xs e) circuits_are) ∙ map_there (λ s. s.end.circuit) k.board.seats e seat at));
  says = subst (λ (n : TheMonitor). OnZero n.outboxes) (sym monitor_is) zero;
}

module _ (k : TheCore) (led : IsLed k) where
  -- nothing of it changed
  rests : (k2 : TheCore) → k2.monitor ≡ k.monitor → k2.wired_ends ≡ k.wired_ends → circuits_of k2.board.seats ≡ circuits_of k.board.seats → IsLed k2
  rests k2 monitor_is wired_ends_are circuits_are = by_parts k2 k.monitor k.wired_ends (circuits_of k.board.seats) monitor_is wired_ends_are circuits_are (ends_led k led) led.says

  alike : (k2 : TheCore) → k2 ≡ k → IsLed k2
  alike k2 h = subst IsLed (sym h) led

  failed : (k2 : TheCore) (l : ℕ) → k2 ≡ with_failed k l → IsLed k2
  failed k2 l h = rests k2 (ap (λ (x : TheCore). x.monitor) h) (ap (λ (x : TheCore). x.wired_ends) h) (ap (λ (x : TheCore). circuits_of x.board.seats) h)

  -- ---- links

  ahead_led : {S : Type 0} (w : SideRelations S) (l : ℕ) (p : S) (answer : Result LinkFront LinkReceiveFault) (k2 : TheCore) (q : S) → LooksAhead w.takes w.front l (at_side k p) answer (at_side k2 q) → IsLed k2
  ahead_led w l p (Ok ahead.Nothing) k2 q h = alike k2 h.1
  ahead_led w l p (Ok ahead.Acknowledged) k2 q h = alike k2 h.1
  ahead_led w l p (Ok (ahead.Message frag)) k2 q h = alike k2 h.1
  ahead_led w l p (Ok (ahead.Onward frag side c)) k2 q h = alike k2 h.1
  ahead_led w l p (Ok (ahead.Arrival frag e)) k2 q h = alike k2 h.1
  ahead_led w l p (Err link.Failed) k2 q h = alike k2 h.1
  ahead_led w l p (Err link.Misrouted) k2 q h = failed k2 l h.1
  ahead_led w l p (Err link.Marked) k2 q h = failed k2 l h.1
  ahead_led w l p (Err (link.Wire f)) k2 q h = absurd h
  ahead_led w l p (Err link.Memory) k2 q h = absurd h

  arrives_led : {S : Type 0} (w : SideRelations S) (l : ℕ) (frag : Frag) (e : EndId) (p : S) (answer : Result ForwardOutcome LinkReceiveFault) (k2 : TheCore) (q : S) → ArrivesAt w.takes (inbound l frag e) (at_side k p) answer (at_side k2 q) → IsLed k2
  arrives_led w l frag e p (Ok result) k2 q h =
      rests k2 (ap (λ (x : TheCore). x.monitor) h.rest) (ap (λ (x : TheCore). x.wired_ends) h.rest) (triggers_same _ k.board k2.board h.triggers)
  arrives_led w l frag e p (Err link.Misrouted) k2 q h = failed k2 l h.1
  arrives_led w l frag e p (Err link.Failed) k2 q h = absurd h
  arrives_led w l frag e p (Err link.Marked) k2 q h = absurd h
  arrives_led w l frag e p (Err (link.Wire f)) k2 q h = absurd h
  arrives_led w l frag e p (Err link.Memory) k2 q h = absurd h

  says_led : {S : Type 0} (w : SideRelations S) (l : ℕ) (p : S) (answer : MonitorWrite) (k2 : TheCore) (q : S) → MonitorWrites w.puts l (at_side k p) answer (at_side k2 q) → IsLed k2
  says_led w l p said_as.Written k2 q h =
      by_parts k2 _ k.wired_ends (circuits_of k.board.seats) (ap (λ (x : TheCore). x.monitor) h.4) (ap (λ (x : TheCore). x.wired_ends) h.4) (ap (λ (x : TheCore). circuits_of x.board.seats) h.4)
      (ends_led k led) (zero_less k.monitor.outboxes l h.0 h.1 h.2 led.says)
  says_led w l p said_as.Full k2 q h = alike k2 h.2
  says_led w l p said_as.Spent k2 q h = alike k2 h.2
  says_led w l p said_as.Nothing k2 q h = alike k2 h.1

-- ---- a message

-- an end that arrives somewhere is at its place
arrives_by : (k : TheCore) (name : EndId) (at : ArrivalPlace) (o : Option ℕ) → place_of k name ≡ o → (given o None λ e. given (arrivals_of k e) None λ a. Some (arriving e a)) ≡ Some at → place_of k name ≡ Some at.end
arrives_by k name at None is h = absurd (cc)
arrives_by k name at (Some e) is h = is ∙ by (arrivals_of k e) h where
  by : (o : Option ℕ) → (given o None λ a. Some (arriving e a)) ≡ Some at → Some e ≡ Some at.end
  by None g = absurd (cc)
  by (Some a) g = let same : arriving e a ≡ at = cc in ap Some (ap (λ (x : ArrivalPlace). x.end) same)

-- a place has one name
pub one_name : (k : TheCore) → IsCore k → (name : EndId) (e : ℕ) → place_of k name ≡ Some e → (p : WiredEnd) → slice_get k.wired_ends e ≡ Some p → p.name ≡ name
one_name k core name e at p wired_end =
    let placed = core.placed name e at in
    let found : Some p ≡ Some placed.wired_end = sym wired_end ∙ placed.wired_end_is in
    let same : p ≡ placed.wired_end = cc in
    ap (λ (x : WiredEnd). x.name) same ∙ placed.name_is

module _ (k : TheCore) (core : IsCore k) (sound : Sound k.monitor.circuits) (led : IsLed k) (o : Offers) (l : LinkId) (msg : MonitorMessage) where
  -- an end that the message makes is at no wired end yet
  is_new : (h : MessageOutcome) → ComesTo (known_for o k msg) k.monitor.circuits l msg h → (e m : ℕ) (p : WiredEnd) → slice_get k.wired_ends e ≡ Some p → new_by l h m p.name → ⊥
  is_new (outcome.ServerMade binding dispatcher c) comes e m p wired_end h =
      let new = made_new o k msg _ (made_for (known_for o k msg) k.monitor.circuits l msg (outcome.ServerMade binding dispatcher c) _ comes refl) in
      absent_wired_end k core (server_of binding) new.1 e p wired_end h.1
  is_new (outcome.OpeningWentOn binding m c) comes e i p wired_end h = h
  is_new (outcome.OpeningFailed binding reason) comes e i p wired_end h = h
  is_new (outcome.AnswerWentOn binding m c) comes e i p wired_end h = h
  is_new (outcome.EndOpened end c) comes e i p wired_end h = h
  is_new (outcome.EndRefused end reason) comes e i p wired_end h = h

  module _ (h : MessageOutcome) (m : TheMonitor) (comes : ComesTo (known_for o k msg) k.monitor.circuits l msg h) (table : m.circuits ≡ table_after k.monitor.circuits l msg h) (zero : OnZero m.outboxes) where
    goes : GoesOn (new_by l h) k.monitor.circuits m.circuits
    goes = subst (GoesOn (new_by l h) k.monitor.circuits) (sym table) (heard_goes (known_for o k msg) k.monitor.circuits l msg h sound comes)

    -- its ends of before are led to
    ends_then : EndsLed m.circuits k.wired_ends (circuits_of k.board.seats)
    ends_then = ends_on (new_by l h) k.monitor.circuits m.circuits k.wired_ends (circuits_of k.board.seats) goes (is_new h comes) (ends_led k led)

    heard_alone : (k2 : TheCore) → k2 ≡ with_monitor k m → IsLed k2
    heard_alone k2 is = by_parts k2 m k.wired_ends (circuits_of k.board.seats) (ap (λ (x : TheCore). x.monitor) is) (ap (λ (x : TheCore). x.wired_ends) is) (ap (λ (x : TheCore). circuits_of x.board.seats) is) ends_then zero

  -- an end is bound
  binds_led : (m : TheMonitor) (e : EndId) (c : Number) → EndsLed m.circuits k.wired_ends (circuits_of k.board.seats) → OnZero m.outboxes → IsSettled m.circuits l.0 c.0 e
      → (k2 : TheCore) (at : Option ArrivalPlace) → arriving_at (with_monitor k m) e ≡ at → BindsIf at c (with_monitor k m) k2 → IsLed k2
  binds_led m e c ends zero settled k2 None is h = by_parts k2 m k.wired_ends (circuits_of k.board.seats) (ap (λ (x : TheCore). x.monitor) h) (ap (λ (x : TheCore). x.wired_ends) h) (ap (λ (x : TheCore). circuits_of x.board.seats) h) ends zero
  binds_led m e c ends zero settled k2 (Some at) is h = by (binds k.board h.bound_board at.end c.0 h.binds) where
    place : place_of k e ≡ Some at.end
    place = arrives_by (with_monitor k m) e at (place_of k e) refl is

    monitor_is : k2.monitor ≡ m
    monitor_is = ap (λ (x : TheCore). x.monitor) h.rest

    wired_ends_are : k2.wired_ends ≡ k.wired_ends
    wired_ends_are = ap (λ (x : TheCore). x.wired_ends) h.rest

    boards : circuits_of k2.board.seats ≡ circuits_of h.bound_board.seats
    boards = lists_same h.bound_board k2.board at.end _ h.registers

    own : (a : ℕ) (i : LinkId) (p : WiredEnd) → slice_get k.wired_ends at.end ≡ Some p → p.wiring ≡ Circuit i a → ((j n : ℕ) → way_at m.circuits j n ≡ Some (End e) → j ≡ i.0) → IsSettled m.circuits i.0 c.0 e
    own a i p wired_end wiring alone = subst (λ (j : ℕ). IsSettled m.circuits j c.0 e) (alone l.0 c.0 (way_of m.circuits l.0 c.0 settled.hop (End e) settled.there settled.way)) settled

    by : (circuits_of h.bound_board.seats ≡ circuits_of k.board.seats) ⊎ (circuits_of h.bound_board.seats ≡ slice_set (circuits_of k.board.seats) at.end (Some c.0)) → IsLed k2
    by (inl same) = by_parts k2 m k.wired_ends (circuits_of k.board.seats) monitor_is wired_ends_are (boards ∙ same) ends zero
    by (inr new) = by_parts k2 m k.wired_ends (slice_set (circuits_of k.board.seats) at.end (Some c.0)) monitor_is wired_ends_are (boards ∙ new)
        (ends_bound m.circuits k.wired_ends (circuits_of k.board.seats) at.end c.0 e (one_name k core e at.end place) own ends) zero

  -- a server's end is made
  makes_led : (m : TheMonitor) (binding dispatcher : ℕ) (c : Number) → ComesTo (known_for o k msg) k.monitor.circuits l msg (outcome.ServerMade binding dispatcher c)
      → (table : m.circuits ≡ table_after k.monitor.circuits l msg (outcome.ServerMade binding dispatcher c)) → OnZero m.outboxes
      → (k2 : TheCore) → MakesServer (offering o.programs (offer_for o k msg) l) binding dispatcher c (with_monitor k m) k2 → IsLed k2
  makes_led m binding dispatcher c comes table zero k2 f =
      let h : MessageOutcome = outcome.ServerMade binding dispatcher c in
      let made = server_made (known_for o k msg) k.monitor.circuits l msg binding dispatcher c sound comes in
      let wired_end : WiredEnd = circuit_wired_end (server_of binding) l (length k.arrivals) in
      let new : IsLedTo m.circuits l.0 (server_of binding) (Some c.0) = record {
        alone = λ i n way. elim ((goes h m comes table zero).came i n (server_of binding) way) [
          | inl there ↦ absurd (none_leads k.monitor.circuits i n (server_of binding) sound made.none there)
          | inr fresh ↦ fresh.0
        ];
        bound = λ n is. (let same : c.0 ≡ n = cc in subst (λ (x : ℕ). IsSettled m.circuits l.0 x (server_of binding)) same
            (subst (λ (u : TheCircuits). IsSettled u l.0 c.0 (server_of binding)) (sym table) made.settled));
      } in
      by_parts k2 m (k.wired_ends ++ wired_end ∷ []) (circuits_of k.board.seats ++ Some c.0 ∷ []) (ap (λ (x : TheCore). x.monitor) f.rest) (ap (λ (x : TheCore). x.wired_ends) f.rest)
      (lists_same f.added k2.board f.end _ f.joins.1 ∙ added k.board f.added dispatcher f.end _ Queue f.adds)
      (ends_more m.circuits k.wired_ends (circuits_of k.board.seats) wired_end l (length k.arrivals) (Some c.0) (as_many k core) refl new (ends_then h m comes table zero)) zero

  follows_led : (h : MessageOutcome) (m : TheMonitor) (answered : MonitorAnswer) (k2 : TheCore) → ComesTo (known_for o k msg) k.monitor.circuits l msg h → m.circuits ≡ table_after k.monitor.circuits l msg h → OnZero m.outboxes
      → Follows (offering o.programs (offer_for o k msg) l) h (with_monitor k m) answered k2 → IsLed k2
  follows_led (outcome.ServerMade binding dispatcher c) m answered k2 comes table zero f = makes_led m binding dispatcher c comes table zero k2 f.1
  follows_led (outcome.EndOpened e c) m answered k2 comes table zero f =
      binds_led m e c (ends_then (outcome.EndOpened e c) m comes table zero) zero
      (subst (λ (u : TheCircuits). IsSettled u l.0 c.0 e) (sym table) (opened_settles (known_for o k msg) k.monitor.circuits l msg e c sound comes)) k2 (arriving_at (with_monitor k m) e) refl f.1
  follows_led (outcome.EndRefused e reason) m answered k2 comes table zero f = heard_alone (outcome.EndRefused e reason) m comes table zero k2 f.1
  follows_led (outcome.OpeningWentOn binding n c) m answered k2 comes table zero f = heard_alone (outcome.OpeningWentOn binding n c) m comes table zero k2 f.1
  follows_led (outcome.OpeningFailed binding reason) m answered k2 comes table zero f = heard_alone (outcome.OpeningFailed binding reason) m comes table zero k2 f.1
  follows_led (outcome.AnswerWentOn binding n c) m answered k2 comes table zero f = heard_alone (outcome.AnswerWentOn binding n c) m comes table zero k2 f.1

  all_led : (answered : MonitorAnswer) (k2 : TheCore) → HearsAll o l msg k answered k2 → IsLed k2
  all_led answered k2 h = follows_led h.heard h.monitor answered k2 h.hears.0 h.hears.2 (zero_heard l msg h.heard k.monitor.outboxes h.monitor.outboxes h.hears.3 led.says) h.follows

  message_led : (answer : Result MonitorAnswer LinkReceiveFault) (k2 : TheCore) → HearsMessage o l msg k answer k2 → IsLed k2
  message_led (Ok heard_as.Full) k2 h = alike k led k2 h.1
  message_led (Ok heard_as.Done) k2 h = all_led heard_as.Done k2 h
  message_led (Ok (heard_as.Opened e)) k2 h = all_led (heard_as.Opened e) k2 h
  message_led (Ok (heard_as.OpeningRefused e reason)) k2 h = all_led (heard_as.OpeningRefused e reason) k2 h
  message_led (Err link.Misrouted) k2 h = failed k led k2 l.0 h.1
  message_led (Err link.Memory) k2 h = alike k led k2 h
  message_led (Err link.Failed) k2 h = absurd h
  message_led (Err link.Marked) k2 h = absurd h
  message_led (Err (link.Wire f)) k2 h = absurd h

  -- ---- and its table

  all_later : (answered : MonitorAnswer) (k2 : TheCore) → HearsAll o l msg k answered k2 → Became k k2
  all_later answered k2 h = record {
    later = subst (Later k.monitor.circuits) (sym table) (heard_goes (known_for o k msg) k.monitor.circuits l msg h.heard sound h.hears.0).later;
    came = λ i n e p at way. elim ((heard_goes (known_for o k msg) k.monitor.circuits l msg h.heard sound h.hears.0).came i n p.name (ap (λ (t : TheCircuits). way_at t i n) (sym table) ∙ way)) [
      | inl there ↦ there
      | inr fresh ↦ absurd (is_new h.heard h.hears.0 e i p at fresh)
    ];
  } where
    bound_monitor : (e : EndId) (c : Number) (at : Option ArrivalPlace) → BindsIf at c (with_monitor k h.monitor) k2 → k2.monitor ≡ h.monitor
    bound_monitor e c None f = ap (λ (x : TheCore). x.monitor) f
    bound_monitor e c (Some at) f = ap (λ (x : TheCore). x.monitor) f.rest

    monitor_then : (y : MessageOutcome) → Follows (offering o.programs (offer_for o k msg) l) y (with_monitor k h.monitor) answered k2 → k2.monitor ≡ h.monitor
    monitor_then (outcome.ServerMade binding dispatcher c) f = ap (λ (x : TheCore). x.monitor) f.1.rest
    monitor_then (outcome.EndOpened e c) f = bound_monitor e c (arriving_at (with_monitor k h.monitor) e) f.1
    monitor_then (outcome.EndRefused e reason) f = ap (λ (x : TheCore). x.monitor) f.1
    monitor_then (outcome.OpeningWentOn binding n c) f = ap (λ (x : TheCore). x.monitor) f.1
    monitor_then (outcome.OpeningFailed binding reason) f = ap (λ (x : TheCore). x.monitor) f.1
    monitor_then (outcome.AnswerWentOn binding n c) f = ap (λ (x : TheCore). x.monitor) f.1

    table : k2.monitor.circuits ≡ table_after k.monitor.circuits l msg h.heard
    table = ap (λ (m : TheMonitor). m.circuits) (monitor_then h.heard h.follows) ∙ h.hears.2

  message_later : (answer : Result MonitorAnswer LinkReceiveFault) (k2 : TheCore) → HearsMessage o l msg k answer k2 → Became k k2
  message_later (Ok heard_as.Full) k2 h = same_later k k2 (ap (λ (x : TheCore). x.monitor) h.1)
  message_later (Ok heard_as.Done) k2 h = all_later heard_as.Done k2 h
  message_later (Ok (heard_as.Opened e)) k2 h = all_later (heard_as.Opened e) k2 h
  message_later (Ok (heard_as.OpeningRefused e reason)) k2 h = all_later (heard_as.OpeningRefused e reason) k2 h
  message_later (Err link.Misrouted) k2 h = same_later k k2 (ap (λ (x : TheCore). x.monitor) h.1)
  message_later (Err link.Memory) k2 h = same_later k k2 (ap (λ (x : TheCore). x.monitor) h)
  message_later (Err link.Failed) k2 h = absurd h
  message_later (Err link.Marked) k2 h = absurd h
  message_later (Err (link.Wire f)) k2 h = absurd h

module _ (k : TheCore) (core : IsCore k) (sound : Sound k.monitor.circuits) (led : IsLed k) where
  hears_led : (o : Offers) (l : LinkId) (frag : Frag) (answer : Result MonitorAnswer LinkReceiveFault) (k2 : TheCore) → HearsFrag o l frag k answer k2 → IsLed k2
  hears_led o l frag (Err (link.Wire wiring.Memory)) k2 h = absurd h
  hears_led o l frag (Err (link.Wire wiring.NotFirst)) k2 h = failed k led k2 l.0 h.1
  hears_led o l frag (Err (link.Wire wiring.FirstInside)) k2 h = failed k led k2 l.0 h.1
  hears_led o l frag (Err (link.Wire wiring.UnknownMessage)) k2 h = failed k led k2 l.0 h.1
  hears_led o l frag (Err (link.Wire wiring.NotZero)) k2 h = failed k led k2 l.0 h.1
  hears_led o l frag (Err (link.Wire wiring.OutOfType)) k2 h = failed k led k2 l.0 h.1
  hears_led o l frag (Err (link.Wire wiring.TooLong)) k2 h = failed k led k2 l.0 h.1
  hears_led o l frag (Err link.Memory) k2 h = alike k led k2 h
  hears_led o l frag (Err link.Failed) k2 h = message_led k core sound led o l h.0 (Err link.Failed) k2 h.2
  hears_led o l frag (Err link.Misrouted) k2 h = message_led k core sound led o l h.0 (Err link.Misrouted) k2 h.2
  hears_led o l frag (Err link.Marked) k2 h = message_led k core sound led o l h.0 (Err link.Marked) k2 h.2
  hears_led o l frag (Ok answered) k2 h = message_led k core sound led o l h.0 (Ok answered) k2 h.2

  hears_later : (o : Offers) (l : LinkId) (frag : Frag) (answer : Result MonitorAnswer LinkReceiveFault) (k2 : TheCore) → HearsFrag o l frag k answer k2 → Became k k2
  hears_later o l frag (Err (link.Wire wiring.Memory)) k2 h = absurd h
  hears_later o l frag (Err (link.Wire wiring.NotFirst)) k2 h = same_later k k2 (ap (λ (x : TheCore). x.monitor) h.1)
  hears_later o l frag (Err (link.Wire wiring.FirstInside)) k2 h = same_later k k2 (ap (λ (x : TheCore). x.monitor) h.1)
  hears_later o l frag (Err (link.Wire wiring.UnknownMessage)) k2 h = same_later k k2 (ap (λ (x : TheCore). x.monitor) h.1)
  hears_later o l frag (Err (link.Wire wiring.NotZero)) k2 h = same_later k k2 (ap (λ (x : TheCore). x.monitor) h.1)
  hears_later o l frag (Err (link.Wire wiring.OutOfType)) k2 h = same_later k k2 (ap (λ (x : TheCore). x.monitor) h.1)
  hears_later o l frag (Err (link.Wire wiring.TooLong)) k2 h = same_later k k2 (ap (λ (x : TheCore). x.monitor) h.1)
  hears_later o l frag (Err link.Memory) k2 h = same_later k k2 (ap (λ (x : TheCore). x.monitor) h)
  hears_later o l frag (Err link.Failed) k2 h = message_later k core sound led o l h.0 (Err link.Failed) k2 h.2
  hears_later o l frag (Err link.Misrouted) k2 h = message_later k core sound led o l h.0 (Err link.Misrouted) k2 h.2
  hears_later o l frag (Err link.Marked) k2 h = message_later k core sound led o l h.0 (Err link.Marked) k2 h.2
  hears_later o l frag (Ok answered) k2 h = message_later k core sound led o l h.0 (Ok answered) k2 h.2

  -- ---- a circuit is asked for

  -- no entry of its binding stood
  none_stood : (t : TheCircuits) (l binding : ℕ) (b : Bool) → stands t binding ≡ b → open_fault t l binding ≡ None → b ≡ false
  none_stood t l binding false is h = refl
  none_stood t l binding true is h = absurd (by (nat_lt l (length t.links)) (rw is at h)) where
    by : (b : Bool) → (if b then Some Misrouted else Some NoLink) ≡ (let o : Option HopFault = None in o) → ⊥
    by true g = cc
    by false g = cc

  begins_led : (a : Asked) (e : ℕ) (k2 : TheCore) → place_of k (client_of a.opening.binding) ≡ None → Begins a k e k2 → IsLed k2
  begins_led a e k2 none h =
      let t : TheCircuits = k.monitor.circuits in
      let client : EndId = client_of a.opening.binding in
      let wired_end : WiredEnd = circuit_wired_end client a.link (length k.arrivals) in
      let free = none_stood t a.link.0 a.opening.binding (stands t a.opening.binding) refl h.opens.0 in
      let goes : GoesOn (OneNew a.link.0 client) t k2.monitor.circuits = subst (GoesOn (OneNew a.link.0 client) t) (sym h.opens.3) (opened_goes t a.link h.circuit a.opening.binding sound h.opens.2) in
      let ends : EndsLed k2.monitor.circuits k.wired_ends (circuits_of k.board.seats) =
      ends_on (OneNew a.link.0 client) t k2.monitor.circuits k.wired_ends (circuits_of k.board.seats) goes (λ i m p at new. absent_wired_end k core client none i p at new.1) (ends_led k led) in
      let new : IsLedTo k2.monitor.circuits a.link.0 client None = record {
        alone = λ i n way. elim (goes.came i n client way) [
          | inl there ↦ absurd (none_leads t i n client sound free there)
          | inr fresh ↦ fresh.0
        ];
        bound = λ n is. absurd (cc);
      } in
      by_parts k2 k2.monitor (k.wired_ends ++ wired_end ∷ []) (circuits_of k.board.seats ++ None ∷ []) refl (ap (λ (x : TheCore). x.wired_ends) h.rest)
      (added k.board k2.board a.dispatcher e _ Queue h.adds)
      (ends_more k2.monitor.circuits k.wired_ends (circuits_of k.board.seats) wired_end a.link (length k.arrivals) None (as_many k core) refl new ends)
      (zero_more k.monitor.outboxes k2.monitor.outboxes a.link.0 h.opens.4.outbox h.opens.4.frag _ h.opens.4.there h.opens.4.is h.opens.4.more led.says)

  asks_led : (a : Asked) (answer : Result ℕ OpenFault) (k2 : TheCore) → place_of k (client_of a.opening.binding) ≡ None → Asks a k answer k2 → IsLed k2
  asks_led a (Ok e) k2 none h = begins_led a e k2 none h
  asks_led a (Err (opening.Board fault)) k2 none h = alike k led k2 h.1
  asks_led a (Err (opening.Monitor fault)) k2 none h = alike k led k2 h.2

  asks_later : (a : Asked) (answer : Result ℕ OpenFault) (k2 : TheCore) → place_of k (client_of a.opening.binding) ≡ None → Asks a k answer k2 → Became k k2
  asks_later a (Ok e) k2 none h =
      let goes = opened_goes k.monitor.circuits a.link h.circuit a.opening.binding sound h.opens.2 in
      record {
        later = subst (Later k.monitor.circuits) (sym h.opens.3) goes.later;
        came = λ i n f p at way. elim (goes.came i n p.name (ap (λ (t : TheCircuits). way_at t i n) (sym h.opens.3) ∙ way)) [
          | inl there ↦ there
          | inr fresh ↦ absurd (absent_wired_end k core (client_of a.opening.binding) none f p at fresh.1)
        ];
      }
  asks_later a (Err (opening.Board fault)) k2 none h = same_later k k2 (ap (λ (x : TheCore). x.monitor) h.1)
  asks_later a (Err (opening.Monitor fault)) k2 none h = same_later k k2 (ap (λ (x : TheCore). x.monitor) h.2)

-- ---- one event

module _ {S : Type 0} (w : SideRelations S) (jobs : List CoreJob) (s m : TheRun S) (core : IsCore s.core) (sound : Sound s.core.monitor.circuits) (led : IsLed s.core) where
  on_board : m.core.monitor ≡ s.core.monitor → m.core.wired_ends ≡ s.core.wired_ends → circuits_of m.core.board.seats ≡ circuits_of s.core.board.seats → IsLed m.core
  on_board monitor_is wired_ends_are circuits_are = rests s.core led m.core monitor_is wired_ends_are circuits_are

  pub does_led : (log_entry : LogEntry) → InPlace jobs s log_entry → Does w log_entry s m → IsLed m.core
  does_led (looked n l answer) by h = ahead_led s.core led w l.0 h.before answer m.core h.after h.event
  does_led (passed n i frag c Moved) by h = alike s.core led m.core (h.2.event.1 ∙ h.1.event.1)
  does_led (passed n i frag c Full) by h = alike s.core led m.core h.event.1
  does_led (passed n i frag c Spent) by h = alike s.core led m.core h.event.1
  does_led (arrived n l frag e answer) by h = arrives_led s.core led w l.0 frag e h.before answer m.core h.after h.event
  does_led (heard n l frag answer) by h = hears_led s.core core sound led s.offers l frag answer m.core h.event.0
  does_led (said n l answer) by h = says_led s.core led w l.0 h.before answer m.core h.after h.event
  does_led (told n l answer) by h = alike s.core led m.core h.event.1
  does_led (opened name request answer) by h =
      let tests = five (nat_lt request.dispatcher (length s.core.board.dispatchers)) (nat_lt request.interface (length s.offers.programs)) (nat_lt request.opening.binding 1024)
      (not (is_some (place_of s.core (client_of request.opening.binding)))) (can_say s.core.monitor.outboxes request.link.0) by.1 in
      asks_led s.core core sound led _ answer m.core (not_there (place_of s.core (client_of request.opening.binding)) tests.1) h.event.asks
  does_led (called name c answer) by h =
      on_board (ap (λ (x : TheCore). x.monitor) h.2.event.rest) (ap (λ (x : TheCore). x.wired_ends) h.2.event.rest)
      (end_same s.core.board m.core.board h.0 (λ x y. Calls x c answer y) (λ x y. calls_same x c answer y) h.2.event.event)
  does_led (ruled name msg reply answer) by h =
      on_board (ap (λ (x : TheCore). x.monitor) h.2.event.rest) (ap (λ (x : TheCore). x.wired_ends) h.2.event.rest)
      (end_same s.core.board m.core.board h.0 (λ x y. SetsRule x msg.0 reply.0 answer y) (λ x y. rules_same x msg.0 reply.0 answer y) h.2.event.event)
  does_led (wrote name (outlet.Queue n) answer) by h =
      on_board (ap (λ (x : TheCore). x.monitor) h.2.event.rest) (ap (λ (x : TheCore). x.wired_ends) h.2.event.rest)
      (triggers_same _ h.2.event.wrote m.core.board h.2.event.triggers
      ∙ end_same s.core.board h.2.event.wrote h.0 _ (λ x y. writes_same QueuePuts x h.2.before answer y h.2.after) h.2.event.writes)
  does_led (wrote name (outlet.Side n) answer) by h =
      on_board (ap (λ (x : TheCore). x.monitor) h.2.event.rest) (ap (λ (x : TheCore). x.wired_ends) h.2.event.rest)
      (triggers_same _ h.2.event.wrote m.core.board h.2.event.triggers
      ∙ end_same s.core.board h.2.event.wrote h.0 _ (λ x y. writes_same w.puts x h.2.before answer y h.2.after) h.2.event.writes)
  does_led (acked name n answer) by h = alike s.core led m.core h.2.event.1
  does_led (turned d name (inlet.Queue n) answer) by h =
      on_board (ap (λ (x : TheCore). x.monitor) h.3.event.rest) (ap (λ (x : TheCore). x.wired_ends) h.3.event.rest) (turn_same QueueTakes d h.0 _ _ answer h.3.event.event)
  does_led (turned d name (inlet.Side n) answer) by h =
      on_board (ap (λ (x : TheCore). x.monitor) h.3.event.rest) (ap (λ (x : TheCore). x.wired_ends) h.3.event.rest) (turn_same w.takes d h.0 _ _ answer h.3.event.event)
  does_led (turned d name inlet.Arrivals answer) by h =
      on_board (ap (λ (x : TheCore). x.monitor) h.3.event.rest) (ap (λ (x : TheCore). x.wired_ends) h.3.event.rest) (turn_same QueueTakes d h.0 _ _ answer h.3.event.event)

  monitor_stays : m.core.monitor ≡ s.core.monitor → Became s.core m.core
  monitor_stays same = same_later s.core m.core same

  ahead_later : (l : ℕ) (p : S) (answer : Result LinkFront LinkReceiveFault) (q : S) → LooksAhead w.takes w.front l (at_side s.core p) answer (at_side m.core q) → Became s.core m.core
  ahead_later l p (Ok ahead.Nothing) q h = monitor_stays (ap (λ (x : TheCore). x.monitor) h.1)
  ahead_later l p (Ok ahead.Acknowledged) q h = monitor_stays (ap (λ (x : TheCore). x.monitor) h.1)
  ahead_later l p (Ok (ahead.Message frag)) q h = monitor_stays (ap (λ (x : TheCore). x.monitor) h.1)
  ahead_later l p (Ok (ahead.Onward frag side c)) q h = monitor_stays (ap (λ (x : TheCore). x.monitor) h.1)
  ahead_later l p (Ok (ahead.Arrival frag e)) q h = monitor_stays (ap (λ (x : TheCore). x.monitor) h.1)
  ahead_later l p (Err link.Failed) q h = monitor_stays (ap (λ (x : TheCore). x.monitor) h.1)
  ahead_later l p (Err link.Misrouted) q h = monitor_stays (ap (λ (x : TheCore). x.monitor) h.1)
  ahead_later l p (Err link.Marked) q h = monitor_stays (ap (λ (x : TheCore). x.monitor) h.1)
  ahead_later l p (Err (link.Wire f)) q h = absurd h
  ahead_later l p (Err link.Memory) q h = absurd h

  arrives_later : (l : ℕ) (frag : Frag) (e : EndId) (p : S) (answer : Result ForwardOutcome LinkReceiveFault) (q : S) → ArrivesAt w.takes (inbound l frag e) (at_side s.core p) answer (at_side m.core q) → Became s.core m.core
  arrives_later l frag e p (Ok result) q h = monitor_stays (ap (λ (x : TheCore). x.monitor) h.rest)
  arrives_later l frag e p (Err link.Misrouted) q h = monitor_stays (ap (λ (x : TheCore). x.monitor) h.1)
  arrives_later l frag e p (Err link.Failed) q h = absurd h
  arrives_later l frag e p (Err link.Marked) q h = absurd h
  arrives_later l frag e p (Err (link.Wire f)) q h = absurd h
  arrives_later l frag e p (Err link.Memory) q h = absurd h

  says_later : (l : ℕ) (p : S) (answer : MonitorWrite) (q : S) → MonitorWrites w.puts l (at_side s.core p) answer (at_side m.core q) → Became s.core m.core
  says_later l p said_as.Written q h = same_table s.core m.core (ap (λ (x : TheCore). x.monitor.circuits) h.4)
  says_later l p said_as.Full q h = monitor_stays (ap (λ (x : TheCore). x.monitor) h.2)
  says_later l p said_as.Spent q h = monitor_stays (ap (λ (x : TheCore). x.monitor) h.2)
  says_later l p said_as.Nothing q h = monitor_stays (ap (λ (x : TheCore). x.monitor) h.1)

  pub does_later : (log_entry : LogEntry) → InPlace jobs s log_entry → Does w log_entry s m → Became s.core m.core
  does_later (looked n l answer) by h = ahead_later l.0 h.before answer h.after h.event
  does_later (passed n i frag c Moved) by h = monitor_stays (ap (λ (x : TheCore). x.monitor) (h.2.event.1 ∙ h.1.event.1))
  does_later (passed n i frag c Full) by h = monitor_stays (ap (λ (x : TheCore). x.monitor) h.event.1)
  does_later (passed n i frag c Spent) by h = monitor_stays (ap (λ (x : TheCore). x.monitor) h.event.1)
  does_later (arrived n l frag e answer) by h = arrives_later l.0 frag e h.before answer h.after h.event
  does_later (heard n l frag answer) by h = hears_later s.core core sound led s.offers l frag answer m.core h.event.0
  does_later (said n l answer) by h = says_later l.0 h.before answer h.after h.event
  does_later (told n l answer) by h = monitor_stays (ap (λ (x : TheCore). x.monitor) h.event.1)
  does_later (opened name request answer) by h =
      let tests = five (nat_lt request.dispatcher (length s.core.board.dispatchers)) (nat_lt request.interface (length s.offers.programs)) (nat_lt request.opening.binding 1024)
      (not (is_some (place_of s.core (client_of request.opening.binding)))) (can_say s.core.monitor.outboxes request.link.0) by.1 in
      asks_later s.core core sound led _ answer m.core (not_there (place_of s.core (client_of request.opening.binding)) tests.1) h.event.asks
  does_later (called name c answer) by h = monitor_stays (ap (λ (x : TheCore). x.monitor) h.2.event.rest)
  does_later (ruled name msg reply answer) by h = monitor_stays (ap (λ (x : TheCore). x.monitor) h.2.event.rest)
  does_later (wrote name (outlet.Queue n) answer) by h = monitor_stays (ap (λ (x : TheCore). x.monitor) h.2.event.rest)
  does_later (wrote name (outlet.Side n) answer) by h = monitor_stays (ap (λ (x : TheCore). x.monitor) h.2.event.rest)
  does_later (acked name n answer) by h = monitor_stays (ap (λ (x : TheCore). x.monitor) h.2.event.1)
  does_later (turned d name (inlet.Queue n) answer) by h = monitor_stays (ap (λ (x : TheCore). x.monitor) h.3.event.rest)
  does_later (turned d name (inlet.Side n) answer) by h = monitor_stays (ap (λ (x : TheCore). x.monitor) h.3.event.rest)
  does_later (turned d name inlet.Arrivals answer) by h = monitor_stays (ap (λ (x : TheCore). x.monitor) h.3.event.rest)
