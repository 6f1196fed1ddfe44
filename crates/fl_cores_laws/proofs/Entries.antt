-- Which entries of a core's table lead to a client's end, after an event: those that did, or the one of the circuit that was asked for.
use Rattle.std.proofs.Common.{◌≡◌, refl, sym, ap, ◌∙◌, subst, ℕ, ◌==◌, ◌⊎◌, inl, inr, Bool, true, false, slice_set, Option, Some, None, Result, Ok, Err}
use Rattle.fl_base.specs.declared.fragment.Frag.{Frag}
use Rattle.fl_base.specs.declared.identity.EndId.{EndId}
use Rattle.fl_base.specs.declared.identity.LinkId.{LinkId}
use Rattle.fl_base.specs.declared.identity.Circuit.{Circuit as Number}
use Rattle.fl_base.specs.declared.identity.Side.TheVariants.{Client, Server}
use Rattle.fl_wire.specs.declared.fault.WireFault.TheVariants as wiring
use Rattle.fl_ring.specs.SharedSides.{TheSide}
use Rattle.fl_hop.specs.declared.forward.ForwardOutcome.{ForwardOutcome}
use Rattle.fl_hop.specs.declared.forward.ForwardOutcome.TheVariants.{Moved, Full, Spent}
use Rattle.fl_hop.specs.declared.entry.Hop.{Hop}
use Rattle.fl_hop.specs.declared.entry.HopTarget.{HopTarget}
use Rattle.fl_hop.specs.declared.entry.HopTarget.TheVariants.{Link, End}
use Rattle.fl_hop.specs.Joined.{Sound, Leads}
use Rattle.fl_hop.specs.Later.{way_at}
use Rattle.fl_hop.specs.Openings.{IsWaiting}
use Rattle.fl_hop.specs.Numbers.{next_own}
use Rattle.fl_hop.specs.Table.{TheCircuits, slot, hop_at, link_of, without_entry}
use Rattle.fl_hop.proofs.Answering.{numbers_apart}
use Rattle.fl_core.proofs.BoardPlaces.{one_stands, set_here}
use Rattle.fl_base.specs.declared.identity.CoreId.{CoreId}
use Rattle.fl_base.specs.Given.{given}
use Rattle.fl_nameserv.specs.Registrations.{TheRegistration, by_iref}
use Rattle.fl_monitor.specs.Routing.{next_on}
use Rattle.fl_monitor.specs.Fates.{Known, arrival, passage, fate}
use Rattle.fl_monitor.specs.Hearing.{ComesTo, heard_by, opened_at, refused_at, table_after}
use Rattle.fl_monitor.specs.Monitors.{TheMonitor}
use Rattle.fl_monitor.specs.declared.opening.Opening.{Opening}
use Rattle.fl_monitor.specs.declared.heard.MessageOutcome.{MessageOutcome}
use Rattle.fl_monitor.specs.declared.heard.MessageOutcome.TheVariants as outcome
use Rattle.fl_monitor.specs.declared.message.MonitorMessage.{MonitorMessage}
use Rattle.fl_monitor.specs.declared.message.MonitorMessage.TheVariants.{OpenCircuit, CircuitOpened, CircuitRefused}
use Rattle.fl_core.specs.View.{TheCore, arriving_at, client_of, server_of, with_monitor}
use Rattle.fl_core.specs.Links.{LooksAhead, inbound, ArrivesAt, MonitorWrites}
use Rattle.fl_core.specs.Hearing.{Offers, known_for, offer_for, HearsFrag, HearsMessage, HearsAll, offering, Follows, BindsIf}
use Rattle.fl_core.specs.Making.{Asked, Asks}
use Rattle.fl_core.specs.declared.answer.LinkFront.{LinkFront}
use Rattle.fl_core.specs.declared.answer.LinkFront.TheVariants as ahead
use Rattle.fl_core.specs.declared.answer.MonitorWrite.{MonitorWrite}
use Rattle.fl_core.specs.declared.answer.MonitorWrite.TheVariants as said_as
use Rattle.fl_core.specs.declared.answer.MonitorAnswer.{MonitorAnswer}
use Rattle.fl_core.specs.declared.answer.MonitorAnswer.TheVariants as heard_as
use Rattle.fl_core.specs.declared.fault.LinkReceiveFault.{LinkReceiveFault}
use Rattle.fl_core.specs.declared.fault.LinkReceiveFault.TheVariants as link
use Rattle.fl_core.specs.declared.fault.OpenFault.TheVariants as opening
use Rattle.fl_core.specs.declared.wiring.ArrivalPlace.{ArrivalPlace}
use Rattle.fl_core.specs.declared.wiring.Outlet.TheVariants as outlet
use Rattle.fl_core.specs.declared.wiring.Inlet.TheVariants as inlet
use Rattle.fl_core.specs.Ends.{at_side}
use Rattle.fl_core_run.specs.Run.{TheRun}
use Rattle.fl_core_run.specs.LogEntries.{LogEntry, looked, passed, arrived, heard, said, told, opened, called, ruled, wrote, acked, turned, Does}
use Rattle.fl_core_run_laws.proofs.Leading.{end_binding}
use Rattle.fl_core_run_laws.proofs.Tables.{way_there, way_of, leads_at, stands_there, opened_goes, refused_goes}
use Rattle.fl_core_run_laws.proofs.TablesHeard.{new_by, heard_goes}
use Rattle.fl_cores_laws.specs.EndedCores.{shared_ways}

-- an event asks for the circuit of this end
abbrev pub IsAskedFor : EndId → LogEntry → Type 0
IsAskedFor e (opened name request (Ok k)) = e ≡ client_of request.opening.binding
IsAskedFor e log_entry = ⊥

-- ---- a message

bound_monitor : (at : Option ArrivalPlace) (c : Number) (k k2 : TheCore) → BindsIf at c k k2 → k2.monitor ≡ k.monitor
bound_monitor None c k k2 f = ap (λ (x : TheCore). x.monitor) f
bound_monitor (Some at) c k k2 f = ap (λ (x : TheCore). x.monitor) f.rest

module _ (o : Offers) (l : LinkId) (msg : MonitorMessage) (k k2 : TheCore) (m : TheMonitor) (answered : MonitorAnswer) where
  monitor_then : (y : MessageOutcome) → Follows (offering o.programs (offer_for o k msg) l) y (with_monitor k m) answered k2 → k2.monitor ≡ m
  monitor_then (outcome.ServerMade binding dispatcher c) f = ap (λ (x : TheCore). x.monitor) f.1.rest
  monitor_then (outcome.EndOpened e c) f = bound_monitor (arriving_at (with_monitor k m) e) c (with_monitor k m) k2 f.1
  monitor_then (outcome.EndRefused e reason) f = ap (λ (x : TheCore). x.monitor) f.1
  monitor_then (outcome.OpeningWentOn binding n c) f = ap (λ (x : TheCore). x.monitor) f.1
  monitor_then (outcome.OpeningFailed binding reason) f = ap (λ (x : TheCore). x.monitor) f.1
  monitor_then (outcome.AnswerWentOn binding n c) f = ap (λ (x : TheCore). x.monitor) f.1

table_then : (o : Offers) (l : LinkId) (msg : MonitorMessage) (k : TheCore) (answered : MonitorAnswer) (k2 : TheCore) (h : HearsAll o l msg k answered k2)
    → k2.monitor.circuits ≡ table_after k.monitor.circuits l msg h.heard
table_then o l msg k answered k2 h = ap (λ (m : TheMonitor). m.circuits) (monitor_then o l msg k k2 h.monitor answered h.heard h.follows) ∙ h.hears.2

-- ---- a refusal that is heard

-- the opening of this end's binding waited, and no entry leads to the end then
pub record IsGone (e : EndId) (k k2 : TheCore) : Type 0 where
  pub client : e.side ≡ Client
  pub link : ℕ
  pub number : ℕ
  pub led : way_at k.monitor.circuits link number ≡ Some (End e)
  pub none : (l n : ℕ) → way_at k2.monitor.circuits l n ≡ Some (End e) → ⊥

-- an opening comes to no refusal of an end here
abbrev IsNoRefusal : MessageOutcome → Type 0
IsNoRefusal (outcome.EndRefused e reason) = ⊥
IsNoRefusal (outcome.ServerMade binding dispatcher c) = Unit {0}
IsNoRefusal (outcome.EndOpened e c) = Unit {0}
IsNoRefusal (outcome.OpeningWentOn binding m c) = Unit {0}
IsNoRefusal (outcome.OpeningFailed binding reason) = Unit {0}
IsNoRefusal (outcome.AnswerWentOn binding m c) = Unit {0}

module _ (kn : Known) (t : TheCircuits) (binding : ℕ) (c : Number) where
  at_last : (iref : ℕ) (r : Option TheRegistration) (place : Bool) → by_iref iref kn.names ≡ r → kn.here.has_place ≡ place → IsNoRefusal (heard_by binding c (arrival kn iref))
  at_last iref None place is has = rw is tt
  at_last iref (Some r) true is has = rw (is, has) tt
  at_last iref (Some r) false is has = rw (is, has) tt

  at_link : (l next m : ℕ) (same : Bool) (n : Option ℕ) → link_of t next ≡ Some m → (l == m) ≡ same → next_own t m ≡ n → IsNoRefusal (heard_by binding c (passage t l next))
  at_link l next m true n is test own = rw (is, test) tt
  at_link l next m false None is test own = rw (is, test, own) tt
  at_link l next m false (Some n) is test own = rw (is, test, own) tt

  on_the_way : (l next : ℕ) (m : Option ℕ) → link_of t next ≡ m → IsNoRefusal (heard_by binding c (passage t l next))
  on_the_way l next None is = rw is tt
  on_the_way l next (Some m) is = at_link l next m (l == m) (next_own t m) is refl refl

  by_route : (l : ℕ) (o : Opening) (next : Option CoreId) → next_on o.path t.core ≡ next → IsNoRefusal (heard_by binding c (fate kn t l o))
  by_route l o None is = rw is (at_last o.service.0 (by_iref o.service.0 kn.names) kn.here.has_place refl refl)
  by_route l o (Some next) is = rw is (on_the_way l next.0 (link_of t next.0) refl)

never_opening : (kn : Known) (t : TheCircuits) (l : ℕ) (c : Number) (o : Opening) (e : EndId) (reason : ℕ) → outcome.EndRefused e reason ≡ heard_by o.binding c (fate kn t l o) → ⊥
never_opening kn t l c o e reason is = subst IsNoRefusal (sym is) (by_route kn t o.binding c l o (next_on o.path t.core) refl)

never_opened : (c : Number) (binding : ℕ) (way : HopTarget) (e : EndId) (reason : ℕ) → outcome.EndRefused e reason ≡ opened_at c binding way → ⊥
never_opened c binding (Link m d) e reason h = absurd (cc)
never_opened c binding (End f) e reason h = absurd (cc)

refused_way : (reason binding : ℕ) (way : HopTarget) (e : EndId) (number : ℕ) → outcome.EndRefused e number ≡ refused_at reason binding way → way ≡ End e
refused_way reason binding (Link m d) e number h = absurd (cc)
refused_way reason binding (End f) e number h = let same : f ≡ e = cc in ap End same

module _ (t : TheCircuits) (sound : Sound t) (l : LinkId) (c : Number) (hop : Hop) (waits : IsWaiting t l.0 c.0 hop) (e : EndId) (way : hop.way ≡ End e) where
  its_side : e.side ≡ Client
  its_side = elim (sound.toward l.0 c.0 hop.binding (End e) (leads_at t l.0 c.0 hop (End e) waits.there way)) [
    | inl h ↦ ap (λ (x : EndId). x.side) h.1
    | inr h ↦ absurd (numbers_apart t sound l.0 c.0 waits.here h.0)
  ]

  abbrev without : TheCircuits
  without = without_entry t (Link l c) (End e)

  emptied : (h : Hop) → hop_at without l.0 c.0 ≡ Some h → ⊥
  emptied h at =
      let there = (stands_there without l.0 c.0 h at).1 in
      let none = set_here t.hops (slot l.0 c.0) (Some hop) None (stands_there t l.0 c.0 hop waits.there).1 in
      let clash : Some h ≡ None = one_stands (slice_set t.hops (slot l.0 c.0) None) (slot l.0 c.0) (Some h) None there none in
      absurd (cc)

  same_place : (i n : ℕ) → way_at without i n ≡ Some (End e) → i ≡ l.0 → n ≡ c.0 → ⊥
  same_place i n at link number =
      let here : way_at without l.0 c.0 ≡ Some (End e) =
      subst (λ (x : ℕ). way_at without x c.0 ≡ Some (End e)) link (subst (λ (x : ℕ). way_at without i x ≡ Some (End e)) number at) in
      let (h, there, is) = way_there without l.0 c.0 (End e) here in
      emptied h there

  none_left : (i n : ℕ) → way_at without i n ≡ Some (End e) → ⊥
  none_left i n at =
      let after : way_at (without_entry t (Link l c) hop.way) i n ≡ Some (End e) = subst (λ (w : HopTarget). way_at (without_entry t (Link l c) w) i n ≡ Some (End e)) (sym way) at in
      elim ((refused_goes t l c hop sound waits).came i n e after) [
        | inl there ↦
            (let (h, stands, is) = way_there t i n (End e) there in
            let one : e.binding ≡ h.binding = end_binding t i n h e sound stands is in
            let two : e.binding ≡ hop.binding = end_binding t l.0 c.0 hop e sound waits.there way in
            let same : h.binding ≡ hop.binding = sym one ∙ two in
            let lead : Leads t i n hop.binding (End e) = subst (λ (b : ℕ). Leads t i n b (End e)) same (leads_at t i n h (End e) stands is) in
            elim (sound.one (record { 0 = i }) l (record { 0 = n }) c hop.binding (End e) (End e) lead (leads_at t l.0 c.0 hop (End e) waits.there way)) [
              | inl (a, b) ↦ same_place i n at (ap (λ (x : LinkId). x.0) a) (ap (λ (x : Number). x.0) b)
              | inr wrong ↦ absurd (cc)
            ])
        | inr wrong ↦ absurd wrong
      ]

module _ (o : Offers) (l : LinkId) (k : TheCore) (sound : Sound k.monitor.circuits) (e : EndId) (reason : ℕ) (k2 : TheCore) where
  by_message : (msg : MonitorMessage) → ComesTo (known_for o k msg) k.monitor.circuits l msg (outcome.EndRefused e reason)
      → k2.monitor.circuits ≡ table_after k.monitor.circuits l msg (outcome.EndRefused e reason) → IsGone e k k2
  by_message (OpenCircuit c binding service path) comes table = absurd (never_opening (known_for o k (OpenCircuit c binding service path)) k.monitor.circuits l.0 c (record { binding = binding; service = service; path = path }) e reason comes.1)
  by_message (CircuitOpened c) (hop, waits, is) table = absurd (never_opened c hop.binding hop.way e reason is)
  by_message (CircuitRefused c number) (hop, waits, is) table =
      let t : TheCircuits = k.monitor.circuits in
      let way = refused_way number hop.binding hop.way e reason is in
      let after : k2.monitor.circuits ≡ without_entry t (Link l c) (End e) =
      table ∙ ap (λ (x : Option Hop). given x t λ (h : Hop). without_entry t (Link l c) h.way) waits.there ∙ ap (λ (w : HopTarget). without_entry t (Link l c) w) way in
      record {
        client = its_side t sound l c hop waits e way;
        link = l.0;
        number = c.0;
        led = way_of t l.0 c.0 hop (End e) waits.there way;
        none = λ i n at. none_left t sound l c hop waits e way i n (ap (λ (u : TheCircuits). way_at u i n) (sym after) ∙ at);
      }

  by_heard : (msg : MonitorMessage) (m : TheMonitor) (y : MessageOutcome) → ComesTo (known_for o k msg) k.monitor.circuits l msg y → k2.monitor.circuits ≡ table_after k.monitor.circuits l msg y
      → Follows (offering o.programs (offer_for o k msg) l) y (with_monitor k m) (heard_as.OpeningRefused e reason) k2 → IsGone e k k2
  by_heard msg m (outcome.ServerMade binding dispatcher c) comes table f = absurd (let clash = f.0 in cc)
  by_heard msg m (outcome.EndOpened name c) comes table f = absurd (let clash = f.0 in cc)
  by_heard msg m (outcome.EndRefused name number) comes table f =
      let clash = f.0 in
      let same : name ≡ e = cc in
      let number_is : number ≡ reason = cc in
      by_message msg
      (subst (λ (x : EndId). ComesTo (known_for o k msg) k.monitor.circuits l msg (outcome.EndRefused x reason)) same
      (subst (λ (x : ℕ). ComesTo (known_for o k msg) k.monitor.circuits l msg (outcome.EndRefused name x)) number_is comes))
      (table ∙ ap (λ (x : EndId). table_after k.monitor.circuits l msg (outcome.EndRefused x number)) same ∙ ap (λ (x : ℕ). table_after k.monitor.circuits l msg (outcome.EndRefused e x)) number_is)
  by_heard msg m (outcome.OpeningWentOn binding n c) comes table f = absurd (let clash = f.0 in cc)
  by_heard msg m (outcome.OpeningFailed binding number) comes table f = absurd (let clash = f.0 in cc)
  by_heard msg m (outcome.AnswerWentOn binding n c) comes table f = absurd (let clash = f.0 in cc)

  pub is_gone : (frag : Frag) → HearsFrag o l frag k (Ok (heard_as.OpeningRefused e reason)) k2 → IsGone e k k2
  is_gone frag h =
      let all = h.2 in
      by_heard h.0 all.monitor all.heard all.hears.0 (table_then o l h.0 k (heard_as.OpeningRefused e reason) k2 all) all.follows

-- ---- one event

module _ (s m : TheRun TheSide) (sound : Sound s.core.monitor.circuits) (e : EndId) (client : e.side ≡ Client) (i n : ℕ) where
  abbrev pub Led : TheCore → Type 0
  Led k = way_at k.monitor.circuits i n ≡ Some (End e)

  abbrev Came : Type 0
  Came = Led m.core → Led s.core

  tables : m.core.monitor.circuits ≡ s.core.monitor.circuits → Came
  tables same at = ap (λ (t : TheCircuits). way_at t i n) (sym same) ∙ at

  monitors : m.core.monitor ≡ s.core.monitor → Came
  monitors same = tables (ap (λ (x : TheMonitor). x.circuits) same)

  ahead_came : (l : ℕ) (p : TheSide) (answer : Result LinkFront LinkReceiveFault) (q : TheSide) → LooksAhead shared_ways.takes shared_ways.front l (at_side s.core p) answer (at_side m.core q) → Came
  ahead_came l p (Ok ahead.Nothing) q h = monitors (ap (λ (x : TheCore). x.monitor) h.1)
  ahead_came l p (Ok ahead.Acknowledged) q h = monitors (ap (λ (x : TheCore). x.monitor) h.1)
  ahead_came l p (Ok (ahead.Message frag)) q h = monitors (ap (λ (x : TheCore). x.monitor) h.1)
  ahead_came l p (Ok (ahead.Onward frag side c)) q h = monitors (ap (λ (x : TheCore). x.monitor) h.1)
  ahead_came l p (Ok (ahead.Arrival frag f)) q h = monitors (ap (λ (x : TheCore). x.monitor) h.1)
  ahead_came l p (Err link.Failed) q h = monitors (ap (λ (x : TheCore). x.monitor) h.1)
  ahead_came l p (Err link.Misrouted) q h = monitors (ap (λ (x : TheCore). x.monitor) h.1)
  ahead_came l p (Err link.Marked) q h = monitors (ap (λ (x : TheCore). x.monitor) h.1)
  ahead_came l p (Err (link.Wire f)) q h = absurd h
  ahead_came l p (Err link.Memory) q h = absurd h

  arrives_came : (l : ℕ) (frag : Frag) (f : EndId) (p : TheSide) (answer : Result ForwardOutcome LinkReceiveFault) (q : TheSide) → ArrivesAt shared_ways.takes (inbound l frag f) (at_side s.core p) answer (at_side m.core q) → Came
  arrives_came l frag f p (Ok result) q h = monitors (ap (λ (x : TheCore). x.monitor) h.rest)
  arrives_came l frag f p (Err link.Misrouted) q h = monitors (ap (λ (x : TheCore). x.monitor) h.1)
  arrives_came l frag f p (Err link.Failed) q h = absurd h
  arrives_came l frag f p (Err link.Marked) q h = absurd h
  arrives_came l frag f p (Err (link.Wire g)) q h = absurd h
  arrives_came l frag f p (Err link.Memory) q h = absurd h

  says_came : (l : ℕ) (p : TheSide) (answer : MonitorWrite) (q : TheSide) → MonitorWrites shared_ways.puts l (at_side s.core p) answer (at_side m.core q) → Came
  says_came l p said_as.Written q h = tables (ap (λ (x : TheCore). x.monitor.circuits) h.4)
  says_came l p said_as.Full q h = monitors (ap (λ (x : TheCore). x.monitor) h.2)
  says_came l p said_as.Spent q h = monitors (ap (λ (x : TheCore). x.monitor) h.2)
  says_came l p said_as.Nothing q h = monitors (ap (λ (x : TheCore). x.monitor) h.1)

  -- ---- a message

  no_server : (binding : ℕ) → e ≡ server_of binding → ⊥
  no_server binding is = (let clash : Client ≡ Server = sym client ∙ ap (λ (x : EndId). x.side) is in absurd (cc))

  not_new : (l : LinkId) (y : MessageOutcome) → new_by l y i e → ⊥
  not_new l (outcome.ServerMade binding dispatcher c) new = no_server binding new.1
  not_new l (outcome.EndOpened f c) new = new
  not_new l (outcome.EndRefused f reason) new = new
  not_new l (outcome.OpeningWentOn binding x c) new = new
  not_new l (outcome.OpeningFailed binding reason) new = new
  not_new l (outcome.AnswerWentOn binding x c) new = new

  all_came : (o : Offers) (l : LinkId) (msg : MonitorMessage) (answered : MonitorAnswer) → HearsAll o l msg s.core answered m.core → Came
  all_came o l msg answered h at =
      let table = table_then o l msg s.core answered m.core h in
      elim ((heard_goes (known_for o s.core msg) s.core.monitor.circuits l msg h.heard sound h.hears.0).came i n e (ap (λ (t : TheCircuits). way_at t i n) (sym table) ∙ at)) [
        | inl there ↦ there
        | inr new ↦ absurd (not_new l h.heard new)
      ]

  message_came : (o : Offers) (l : LinkId) (msg : MonitorMessage) (answer : Result MonitorAnswer LinkReceiveFault) → HearsMessage o l msg s.core answer m.core → Came
  message_came o l msg (Ok heard_as.Full) h = monitors (ap (λ (x : TheCore). x.monitor) h.1)
  message_came o l msg (Ok heard_as.Done) h = all_came o l msg heard_as.Done h
  message_came o l msg (Ok (heard_as.Opened f)) h = all_came o l msg (heard_as.Opened f) h
  message_came o l msg (Ok (heard_as.OpeningRefused f reason)) h = all_came o l msg (heard_as.OpeningRefused f reason) h
  message_came o l msg (Err link.Misrouted) h = monitors (ap (λ (x : TheCore). x.monitor) h.1)
  message_came o l msg (Err link.Memory) h = monitors (ap (λ (x : TheCore). x.monitor) h)
  message_came o l msg (Err link.Failed) h = absurd h
  message_came o l msg (Err link.Marked) h = absurd h
  message_came o l msg (Err (link.Wire f)) h = absurd h

  hears_came : (o : Offers) (l : LinkId) (frag : Frag) (answer : Result MonitorAnswer LinkReceiveFault) → HearsFrag o l frag s.core answer m.core → Came
  hears_came o l frag (Err (link.Wire wiring.Memory)) h = absurd h
  hears_came o l frag (Err (link.Wire wiring.NotFirst)) h = monitors (ap (λ (x : TheCore). x.monitor) h.1)
  hears_came o l frag (Err (link.Wire wiring.FirstInside)) h = monitors (ap (λ (x : TheCore). x.monitor) h.1)
  hears_came o l frag (Err (link.Wire wiring.UnknownMessage)) h = monitors (ap (λ (x : TheCore). x.monitor) h.1)
  hears_came o l frag (Err (link.Wire wiring.NotZero)) h = monitors (ap (λ (x : TheCore). x.monitor) h.1)
  hears_came o l frag (Err (link.Wire wiring.OutOfType)) h = monitors (ap (λ (x : TheCore). x.monitor) h.1)
  hears_came o l frag (Err (link.Wire wiring.TooLong)) h = monitors (ap (λ (x : TheCore). x.monitor) h.1)
  hears_came o l frag (Err link.Memory) h = monitors (ap (λ (x : TheCore). x.monitor) h)
  hears_came o l frag (Err link.Failed) h = message_came o l h.0 (Err link.Failed) h.2
  hears_came o l frag (Err link.Misrouted) h = message_came o l h.0 (Err link.Misrouted) h.2
  hears_came o l frag (Err link.Marked) h = message_came o l h.0 (Err link.Marked) h.2
  hears_came o l frag (Ok answered) h = message_came o l h.0 (Ok answered) h.2

  -- ---- a circuit that is asked for

  asks_came : (a : Asked) (k : ℕ) → Asks a s.core (Ok k) m.core → Led m.core → Led s.core ⊎ (e ≡ client_of a.opening.binding)
  asks_came a k h at = elim ((opened_goes s.core.monitor.circuits a.link h.circuit a.opening.binding sound h.opens.2).came i n e (ap (λ (t : TheCircuits). way_at t i n) (sym h.opens.3) ∙ at)) [
    | inl there ↦ inl there
    | inr new ↦ inr new.1
  ]

  pub came : (log_entry : LogEntry) → Does shared_ways log_entry s m → Led m.core → Led s.core ⊎ IsAskedFor e log_entry
  came (looked x l answer) h at = inl (ahead_came l.0 h.before answer h.after h.event at)
  came (passed x y frag c Moved) h at = inl (monitors (ap (λ (k : TheCore). k.monitor) (h.2.event.1 ∙ h.1.event.1)) at)
  came (passed x y frag c Full) h at = inl (monitors (ap (λ (k : TheCore). k.monitor) h.event.1) at)
  came (passed x y frag c Spent) h at = inl (monitors (ap (λ (k : TheCore). k.monitor) h.event.1) at)
  came (arrived x l frag f answer) h at = inl (arrives_came l.0 frag f h.before answer h.after h.event at)
  came (heard x l frag answer) h at = inl (hears_came s.offers l frag answer h.event.0 at)
  came (said x l answer) h at = inl (says_came l.0 h.before answer h.after h.event at)
  came (told x l answer) h at = inl (monitors (ap (λ (k : TheCore). k.monitor) h.event.1) at)
  came (opened name request (Ok k)) h at = asks_came _ k h.event.asks at
  came (opened name request (Err (opening.Board fault))) h at = inl (monitors (ap (λ (k : TheCore). k.monitor) h.event.asks.1) at)
  came (opened name request (Err (opening.Monitor fault))) h at = inl (monitors (ap (λ (k : TheCore). k.monitor) h.event.asks.2) at)
  came (called name c answer) h at = inl (monitors (ap (λ (k : TheCore). k.monitor) h.2.event.rest) at)
  came (ruled name msg reply answer) h at = inl (monitors (ap (λ (k : TheCore). k.monitor) h.2.event.rest) at)
  came (wrote name (outlet.Queue x) answer) h at = inl (monitors (ap (λ (k : TheCore). k.monitor) h.2.event.rest) at)
  came (wrote name (outlet.Side x) answer) h at = inl (monitors (ap (λ (k : TheCore). k.monitor) h.2.event.rest) at)
  came (acked name x answer) h at = inl (monitors (ap (λ (k : TheCore). k.monitor) h.2.event.1) at)
  came (turned d name (inlet.Queue x) answer) h at = inl (monitors (ap (λ (k : TheCore). k.monitor) h.3.event.rest) at)
  came (turned d name (inlet.Side x) answer) h at = inl (monitors (ap (λ (k : TheCore). k.monitor) h.3.event.rest) at)
  came (turned d name inlet.Arrivals answer) h at = inl (monitors (ap (λ (k : TheCore). k.monitor) h.3.event.rest) at)
