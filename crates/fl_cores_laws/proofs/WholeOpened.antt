-- What a core's table leads to stands in the end: a server's end is bound, and a client's was asked for by a job of an end's progress at the core.
use Rattle.std.proofs.Common.{◌≡◌, refl, sym, ap, ◌∙◌, subst, ℕ, ◌⊎◌, inl, inr, ◌<◌, nat_lt, not, is_some, List, [], ◌∷◌, length, Some, None, Result, Ok, Err, arith}
use Rattle.std.proofs.lemmas.Bool.{ltb-true}
use Rattle.fl_base.specs.declared.fragment.Frag.{Frag}
use Rattle.fl_base.specs.declared.identity.EndId.{EndId}
use Rattle.fl_base.specs.declared.identity.LinkId.{LinkId}
use Rattle.fl_base.specs.declared.identity.Circuit.{Circuit as Number}
use Rattle.fl_base.specs.declared.identity.Side.TheVariants.{Client, Server}
use Rattle.fl_wire.specs.declared.fault.WireFault.TheVariants as wiring
use Rattle.fl_endpoint.specs.View.{TheEnd, fresh}
use Rattle.fl_hop.specs.declared.entry.HopTarget.{HopTarget}
use Rattle.fl_hop.specs.declared.entry.HopTarget.TheVariants.{End}
use Rattle.fl_hop.specs.declared.forward.ForwardOutcome.TheVariants.{Moved, Full, Spent}
use Rattle.fl_hop.specs.Joined.{Sound, Leads}
use Rattle.fl_hop.specs.Later.{way_at}
use Rattle.fl_hop.specs.Table.{TheCircuits}
use Rattle.fl_monitor.specs.Hearing.{ComesTo, table_after}
use Rattle.fl_monitor.specs.Monitors.{TheMonitor, can_say}
use Rattle.fl_monitor.specs.declared.heard.MessageOutcome.{MessageOutcome}
use Rattle.fl_monitor.specs.declared.heard.MessageOutcome.TheVariants as outcome
use Rattle.fl_monitor.specs.declared.message.MonitorMessage.{MonitorMessage}
use Rattle.fl_monitor.specs.declared.opening.Opening.{Opening}
use Rattle.fl_core.specs.View.{TheCore, place_of, client_of, server_of, with_monitor}
use Rattle.fl_core.specs.Sound.{IsCore}
use Rattle.fl_core.specs.Links.{MonitorWrites}
use Rattle.fl_core.specs.Hearing.{known_for, offer_for, HearsFrag, HearsMessage, HearsAll, offering, Follows, MakesServer}
use Rattle.fl_core.specs.Making.{Asked, Asks, Begins}
use Rattle.fl_core.specs.declared.answer.MonitorWrite.{MonitorWrite}
use Rattle.fl_core.specs.declared.answer.MonitorWrite.TheVariants as said_as
use Rattle.fl_core.specs.declared.answer.MonitorAnswer.{MonitorAnswer}
use Rattle.fl_core.specs.declared.answer.MonitorAnswer.TheVariants as heard_as
use Rattle.fl_core.specs.declared.fault.LinkReceiveFault.{LinkReceiveFault}
use Rattle.fl_core.specs.declared.fault.LinkReceiveFault.TheVariants as link
use Rattle.fl_core.specs.declared.fault.OpenFault.{OpenFault}
use Rattle.fl_core.specs.declared.fault.OpenFault.TheVariants as opening
use Rattle.fl_core.specs.declared.wiring.Outlet.TheVariants as outlet
use Rattle.fl_core.specs.declared.wiring.Inlet.TheVariants as inlet
use Rattle.fl_core.specs.Ends.{at_side}
use Rattle.fl_core.proofs.Offers.{made_for, made_new}
use Rattle.fl_core.specs.declared.core_job.CoreJob.{CoreJob}
use Rattle.fl_core.specs.declared.core_job.OpenRequest.{OpenRequest}
use Rattle.fl_core_run.specs.Run.{SideRelations, TheRun}
use Rattle.fl_core_run.specs.LogEntries.{LogEntry, looked, passed, arrived, heard, said, told, opened, called, ruled, wrote, acked, turned, Does}
use Rattle.fl_core_run_laws.specs.Logs.{InPlace, Goes}
use Rattle.fl_core_run_laws.proofs.Aside.{core_aside}
use Rattle.fl_core_run_laws.proofs.Carrying.{IsHere, five, log_goes}
use Rattle.fl_core_run_laws.proofs.Seating.{lists_same}
use Rattle.fl_core_run_laws.proofs.Tables.{way_of, way_there, opened_goes}
use Rattle.fl_core_run_laws.proofs.TablesHeard.{new_by, heard_goes}
use Rattle.fl_cores_laws.specs.Cores.{OneCore, shared_ways}
use Rattle.fl_cores_laws.specs.Circuits.{Leading}
use Rattle.fl_cores_laws.specs.Neighbours.{IsUnused}
use Rattle.fl_cores_laws.specs.Stands.{IsThere, LedClientsStand, LedServersAreBound}
use Rattle.fl_cores_laws.proofs.Added.{added_there, sits_last}
use Rattle.fl_cores_laws.proofs.Bound.{given_there}
use Rattle.fl_cores_laws.proofs.Logged.{follows_monitor, ahead_monitor, arrives_monitor}
use Rattle.fl_cores_laws.proofs.AskedProgress.{JobAt, job_there, JobsStay, job_before, event_jobs}

-- ---- an end that stands

-- an end of this name is there; a server's is bound
pub record Stands (name : EndId) (k : TheCore) : Type 0 where
  pub place : ℕ
  pub end : TheEnd
  pub here : IsHere name place end k
  pub bound : name.side ≡ Server → (c : ℕ) × (end.circuit ≡ Some c)

-- and stays so
stays_there : {S : Type 0} (w : SideRelations S) (jobs : List CoreJob) (name : EndId) (log : List LogEntry) (s t : TheRun S) → Goes w jobs s log t → Stands name s.core → Stands name t.core
stays_there w jobs name log s t h b =
    let went = log_goes w jobs name b.place log s t b.end b.here h in
    record {
      place = b.place;
      end = went.end;
      here = record { has = went.has; sits = went.sits };
      bound = λ is. (let (c, at) = b.bound is in (c, went.goes.circuit c at));
    }

-- a job of an end's progress asks for a circuit of this binding
pub record IsAsked {S : Type 0} (jobs : List CoreJob) (s : TheRun S) (binding : ℕ) : Type 0 where
  pub name : EndId
  pub request : OpenRequest
  pub job : JobAt jobs s name request
  pub binding_is : request.opening.binding ≡ binding

-- a new end that stands then; a job of an end's progress asked for a client's
pub record IsNewEnd {S : Type 0} (jobs : List CoreJob) (s : TheRun S) (k2 : TheCore) (name : EndId) : Type 0 where
  pub stands : Stands name k2
  pub asked : name.side ≡ Client → IsAsked jobs s name.binding

-- ---- one event

module _ {S : Type 0} (w : SideRelations S) (jobs : List CoreJob) (s m : TheRun S) (core : IsCore s.core) (sound : Sound s.core.monitor.circuits) where
  -- what leads to an end led there before, or the end is new
  abbrev Comes : Type 0
  Comes = (l n : ℕ) (name : EndId) → way_at m.core.monitor.circuits l n ≡ Some (End name)
      → (way_at s.core.monitor.circuits l n ≡ Some (End name)) ⊎ IsNewEnd jobs s m.core name

  same_table : m.core.monitor.circuits ≡ s.core.monitor.circuits → Comes
  same_table same l n name way = inl (ap (λ (t : TheCircuits). way_at t l n) (sym same) ∙ way)

  on_board : m.core.monitor ≡ s.core.monitor → Comes
  on_board same = same_table (ap (λ (x : TheMonitor). x.circuits) same)

  same_core : m.core ≡ s.core → Comes
  same_core same = on_board (ap (λ (x : TheCore). x.monitor) same)

  -- ---- by a message

  module _ (l : LinkId) (msg : MonitorMessage) where
    -- a server's end that it makes
    server_stands : (monitor : TheMonitor) (binding dispatcher : ℕ) (c : Number)
        → ComesTo (known_for s.offers s.core msg) s.core.monitor.circuits l msg (outcome.ServerMade binding dispatcher c)
        → MakesServer (offering s.offers.programs (offer_for s.offers s.core msg) l) binding dispatcher c (with_monitor s.core monitor) m.core → Stands (server_of binding) m.core
    server_stands monitor binding dispatcher c comes f =
        let new = made_new s.offers s.core msg _ (made_for (known_for s.offers s.core msg) s.core.monitor.circuits l msg (outcome.ServerMade binding dispatcher c) _ comes refl) in
        record {
          place = f.end;
          end = fresh f.program (Some c.0);
          here = record {
            has = lists_same f.added m.core.board f.end f.end _ _ f.joins.1 (added_there s.core.board f.added dispatcher f.end _ _ f.adds);
            sits = sits_last s.core core f.end (server_of binding) f.adds.0 new.0 m.core.places (ap (λ (y : TheCore). y.places) f.rest);
          };
          bound = λ is. (c.0, refl);
        }

    new_stands : (monitor : TheMonitor) (h : MessageOutcome) (answered : MonitorAnswer) → ComesTo (known_for s.offers s.core msg) s.core.monitor.circuits l msg h
        → Follows (offering s.offers.programs (offer_for s.offers s.core msg) l) h (with_monitor s.core monitor) answered m.core → (i : ℕ) (name : EndId) → new_by l h i name
        → IsNewEnd jobs s m.core name
    new_stands monitor (outcome.ServerMade binding dispatcher c) answered comes f i name new = record {
      stands = subst (λ (e : EndId). Stands e m.core) (sym new.1) (server_stands monitor binding dispatcher c comes f.1);
      asked = λ is. absurd (let clash : Client ≡ Server = sym is ∙ ap (λ (e : EndId). e.side) new.1 in cc);
    }
    new_stands monitor (outcome.OpeningWentOn b x c) answered comes f i name new = absurd new
    new_stands monitor (outcome.OpeningFailed b reason) answered comes f i name new = absurd new
    new_stands monitor (outcome.AnswerWentOn b x c) answered comes f i name new = absurd new
    new_stands monitor (outcome.EndOpened e c) answered comes f i name new = absurd new
    new_stands monitor (outcome.EndRefused e reason) answered comes f i name new = absurd new

    hears_all : (answered : MonitorAnswer) → HearsAll s.offers l msg s.core answered m.core → Comes
    hears_all answered h i n name way =
        let same = follows_monitor s.offers l msg h.heard s.core h.monitor answered m.core h.follows in
        let table : m.core.monitor.circuits ≡ table_after s.core.monitor.circuits l msg h.heard = ap (λ (x : TheMonitor). x.circuits) same ∙ h.hears.2 in
        let goes = heard_goes (known_for s.offers s.core msg) s.core.monitor.circuits l msg h.heard sound h.hears.0 in
        elim (goes.came i n name (ap (λ (t : TheCircuits). way_at t i n) (sym table) ∙ way)) [
          | inl there ↦ inl there
          | inr new ↦ inr (new_stands h.monitor h.heard answered h.hears.0 h.follows i name new)
        ]

    hears_message : (answer : Result MonitorAnswer LinkReceiveFault) → HearsMessage s.offers l msg s.core answer m.core → Comes
    hears_message (Ok heard_as.Full) h = same_core h.1
    hears_message (Ok heard_as.Done) h = hears_all heard_as.Done h
    hears_message (Ok (heard_as.Opened e)) h = hears_all (heard_as.Opened e) h
    hears_message (Ok (heard_as.OpeningRefused e reason)) h = hears_all (heard_as.OpeningRefused e reason) h
    hears_message (Err link.Misrouted) h = same_table (ap (λ (x : TheCore). x.monitor.circuits) h.1)
    hears_message (Err link.Memory) h = same_core h
    hears_message (Err link.Failed) h = absurd h
    hears_message (Err link.Marked) h = absurd h
    hears_message (Err (link.Wire f)) h = absurd h

  hears : (l : LinkId) (frag : Frag) (answer : Result MonitorAnswer LinkReceiveFault) → HearsFrag s.offers l frag s.core answer m.core → Comes
  hears l frag (Err (link.Wire wiring.Memory)) h = absurd h
  hears l frag (Err (link.Wire wiring.NotFirst)) h = same_table (ap (λ (x : TheCore). x.monitor.circuits) h.1)
  hears l frag (Err (link.Wire wiring.FirstInside)) h = same_table (ap (λ (x : TheCore). x.monitor.circuits) h.1)
  hears l frag (Err (link.Wire wiring.UnknownMessage)) h = same_table (ap (λ (x : TheCore). x.monitor.circuits) h.1)
  hears l frag (Err (link.Wire wiring.NotZero)) h = same_table (ap (λ (x : TheCore). x.monitor.circuits) h.1)
  hears l frag (Err (link.Wire wiring.OutOfType)) h = same_table (ap (λ (x : TheCore). x.monitor.circuits) h.1)
  hears l frag (Err (link.Wire wiring.TooLong)) h = same_table (ap (λ (x : TheCore). x.monitor.circuits) h.1)
  hears l frag (Err link.Memory) h = same_core h
  hears l frag (Err link.Failed) h = hears_message l h.0 (Err link.Failed) h.2
  hears l frag (Err link.Misrouted) h = hears_message l h.0 (Err link.Misrouted) h.2
  hears l frag (Err link.Marked) h = hears_message l h.0 (Err link.Marked) h.2
  hears l frag (Ok answered) h = hears_message l h.0 (Ok answered) h.2

  -- ---- by the monitor, and by a job

  says : (l : ℕ) (p : S) (answer : MonitorWrite) (q : S) → MonitorWrites w.puts l (at_side s.core p) answer (at_side m.core q) → Comes
  says l p said_as.Written q h = same_table (ap (λ (x : TheCore). x.monitor.circuits) h.4)
  says l p said_as.Full q h = same_core h.2
  says l p said_as.Spent q h = same_core h.2
  says l p said_as.Nothing q h = same_core h.1

  -- a client's end that is asked for
  client_stands : (a : Asked) (e : ℕ) → a.opening.binding < 1024 → Begins a s.core e m.core → Stands (client_of a.opening.binding) m.core
  client_stands a e few h = record {
    place = e;
    end = fresh a.program None;
    here = record {
      has = added_there s.core.board m.core.board a.dispatcher e _ _ h.adds;
      sits = sits_last s.core core e (client_of a.opening.binding) h.adds.0 few m.core.places (ap (λ (y : TheCore). y.places) h.rest);
    };
    bound = λ is. absurd (let clash : Client ≡ Server = is in cc);
  }

  asks : (name : EndId) (request : OpenRequest) (a : Asked) → JobAt jobs s name request → a.opening ≡ request.opening → a.opening.binding < 1024 → (answer : Result ℕ OpenFault)
      → Asks a s.core answer m.core → Comes
  asks name request a at same few (Ok e) h = λ i n new way.
      elim ((opened_goes s.core.monitor.circuits a.link h.circuit a.opening.binding sound h.opens.2).came i n new (ap (λ (u : TheCircuits). way_at u i n) (sym h.opens.3) ∙ way)) [
        | inl there ↦ inl there
        | inr one ↦ inr (record {
          stands = subst (λ (x : EndId). Stands x m.core) (sym one.1) (client_stands a e few h);
          asked = λ is. record { name = name; request = request; job = at; binding_is = sym (ap (λ (o : Opening). o.binding) same) ∙ sym (ap (λ (x : EndId). x.binding) one.1) };
        })
      ]
  asks name request a at same few (Err (opening.Board fault)) h = same_core h.1
  asks name request a at same few (Err (opening.Monitor fault)) h = same_core h.2

  pub does : (log_entry : LogEntry) → InPlace jobs s log_entry → Does w log_entry s m → Comes
  does (looked n l answer) by h = on_board (ahead_monitor w l.0 s.core h.before answer m.core h.after h.event)
  does (passed n i frag c Moved) by h = on_board (ap (λ (x : TheCore). x.monitor) (h.2.event.1 ∙ h.1.event.1))
  does (passed n i frag c Full) by h = on_board (ap (λ (x : TheCore). x.monitor) h.event.1)
  does (passed n i frag c Spent) by h = on_board (ap (λ (x : TheCore). x.monitor) h.event.1)
  does (arrived n l frag e answer) by h = on_board (arrives_monitor w l.0 frag e s.core h.before answer m.core h.after h.event)
  does (heard n l frag answer) by h = hears l frag answer h.event.0
  does (said n l answer) by h = says l.0 h.before answer h.after h.event
  does (told n l answer) by h = on_board (ap (λ (x : TheCore). x.monitor) h.event.1)
  does (opened name request answer) by h =
      let tests = five (nat_lt request.dispatcher (length s.core.board.dispatchers)) (nat_lt request.interface (length s.offers.programs)) (nat_lt request.opening.binding 1024)
      (not (is_some (place_of s.core (client_of request.opening.binding)))) (can_say s.core.monitor.outboxes request.link.0) by.1 in
      asks name request _ (job_there jobs s name request by.0) refl (ltb-true request.opening.binding 1024 tests.0) answer h.event.asks
  does (called name c answer) by h = on_board (ap (λ (x : TheCore). x.monitor) h.2.event.rest)
  does (ruled name msg reply answer) by h = on_board (ap (λ (x : TheCore). x.monitor) h.2.event.rest)
  does (wrote name (outlet.Queue n) answer) by h = on_board (ap (λ (x : TheCore). x.monitor) h.2.event.rest)
  does (wrote name (outlet.Side n) answer) by h = on_board (ap (λ (x : TheCore). x.monitor) h.2.event.rest)
  does (acked name n answer) by h = on_board (ap (λ (x : TheCore). x.monitor) h.2.event.1)
  does (turned d name (inlet.Queue n) answer) by h = on_board (ap (λ (x : TheCore). x.monitor) h.3.event.rest)
  does (turned d name (inlet.Side n) answer) by h = on_board (ap (λ (x : TheCore). x.monitor) h.3.event.rest)
  does (turned d name inlet.Arrivals answer) by h = on_board (ap (λ (x : TheCore). x.monitor) h.3.event.rest)

-- ---- a log

asked_before : {S : Type 0} (jobs : List CoreJob) (s t : TheRun S) (binding : ℕ) → JobsStay s.progresses t.progresses → IsAsked jobs t binding → IsAsked jobs s binding
asked_before jobs s t binding stay a = record { name = a.name; request = a.request; job = job_before jobs s t a.name a.request stay a.job; binding_is = a.binding_is }

module _ {S : Type 0} (w : SideRelations S) (jobs : List CoreJob) where
  log_comes : (log : List LogEntry) (s t : TheRun S) → Goes w jobs s log t → (l n : ℕ) (name : EndId) → way_at t.core.monitor.circuits l n ≡ Some (End name)
      → (way_at s.core.monitor.circuits l n ≡ Some (End name)) ⊎ IsNewEnd jobs s t.core name
  log_comes [] s t h l n name way = inl (sym (ap (λ (x : TheRun S). way_at x.core.monitor.circuits l n) h) ∙ way)
  log_comes (log_entry ∷ log) s t h l n name way =
      let aside = core_aside h.1.0 h.0 log_entry h.1.2 in
      elim (log_comes log h.0 t h.3 l n name way) [
        | inl there ↦
            elim (does w jobs s h.1.0 h.1.3.core h.1.3.table log_entry h.2 h.1.1 l n name (sym (ap (λ (k : TheCore). way_at k.monitor.circuits l n) aside) ∙ there)) [
              | inl before ↦ inl before
              | inr new ↦ inr (record { stands = stays_there w jobs name log h.0 t h.3 (subst (Stands name) (sym aside) new.stands); asked = new.asked })
            ]
        | inr later ↦ inr (record {
          stands = later.stands;
          asked = λ is. asked_before jobs s h.0 name.binding (event_jobs w log_entry s h.1.0 h.0 h.1.1 h.1.2) (later.asked is);
        })
      ]

  pub sound_first : (log : List LogEntry) (s t : TheRun S) → Goes w jobs s log t → Sound t.core.monitor.circuits → Sound s.core.monitor.circuits
  sound_first [] s t h sound = subst (λ (x : TheRun S). Sound x.core.monitor.circuits) h sound
  sound_first (log_entry ∷ log) s t h sound = h.1.3.table

-- at a core that opened nothing before its run no number leads anywhere as that begins
pub none_leads : (m : TheMonitor) → Sound m.circuits → IsUnused m → (l n : ℕ) (way : HopTarget) → way_at m.circuits l n ≡ Some way → ⊥
none_leads m sound unused l n way led =
    let (hop, at, is) = way_there m.circuits l n way led in
    elim (given_there m.circuits l n hop sound at) [
      | inl here ↦ (let (k, less, one) = here.among in let none = (unused.counts l here.link here.there).0 in absurd (omega (arith, less, none)))
      | inr there ↦ (let (k, less, one) = there.among in let none = (unused.counts l there.link there.there).1 in absurd (omega (arith, less, none)))
    ]

-- so an end to which its table leads in the end is new
new_end : (jobs : List CoreJob) (c : OneCore) → Leading jobs c → IsUnused c.start.core.monitor → (l n binding : ℕ) (name : EndId)
    → Leads c.finish.core.monitor.circuits l n binding (End name) → IsNewEnd jobs c.start c.finish.core name
new_end jobs c v unused l n binding name x =
    let way = way_of c.finish.core.monitor.circuits l n (record { binding = binding; way = End name; answered = x.answered }) (End name) x.there refl in
    elim (log_comes shared_ways jobs c.log c.start c.finish v.went.goes l n name way) [
      | inl there ↦ absurd (none_leads c.start.core.monitor (sound_first shared_ways jobs c.log c.start c.finish v.went.goes v.table) unused l n (End name) there)
      | inr new ↦ new
    ]

-- a job asks for each client's end to which its table leads
pub client_asked : (jobs : List CoreJob) (c : OneCore) → Leading jobs c → IsUnused c.start.core.monitor → (l n binding : ℕ)
    → Leads c.finish.core.monitor.circuits l n binding (End (client_of binding)) → IsAsked jobs c.start binding
client_asked jobs c v unused l n binding x = (new_end jobs c v unused l n binding (client_of binding) x).asked refl

-- ---- laws

abbrev there_in : (c : OneCore) (name : EndId) → Stands name c.finish.core → IsThere c.finish name
there_in c name b = record { place = b.place; place_is = b.here.sits.here; seat = b.here.has.seat; seat_is = b.here.has.seat_is }

pub clients_stand : LedClientsStand
clients_stand jobs c v unused l n binding x = there_in c (client_of binding) (new_end jobs c v unused l n binding (client_of binding) x).stands

pub servers_bound : LedServersAreBound
servers_bound jobs c v unused l n binding x =
    let b = (new_end jobs c v unused l n binding (server_of binding) x).stands in
    let (circuit, is) = b.bound refl in
    record { there = there_in c (server_of binding) b; circuit = circuit; circuit_is = ap (λ (e : TheEnd). e.circuit) b.here.has.end_is ∙ is }
