-- Over a core's log it has as many links as at the start.
use Rattle.std.proofs.Common.{◌≡◌, ap, ◌∙◌, ℕ, List, [], ◌∷◌, length, Option, Some, None, Result, Ok, Err}
use Rattle.fl_base.specs.declared.fragment.Frag.{Frag}
use Rattle.fl_base.specs.declared.identity.EndId.{EndId}
use Rattle.fl_base.specs.declared.identity.LinkId.{LinkId}
use Rattle.fl_wire.specs.declared.fault.WireFault.TheVariants as wiring
use Rattle.fl_hop.specs.declared.forward.ForwardOutcome.{ForwardOutcome}
use Rattle.fl_hop.specs.declared.forward.ForwardOutcome.TheVariants.{Moved, Full, Spent}
use Rattle.fl_monitor.specs.declared.heard.MessageOutcome.{MessageOutcome}
use Rattle.fl_monitor.specs.declared.heard.MessageOutcome.TheVariants as outcome
use Rattle.fl_monitor.specs.declared.message.MonitorMessage.{MonitorMessage}
use Rattle.fl_monitor.specs.Monitors.{TheMonitor}
use Rattle.fl_core.specs.declared.answer.LinkFront.{LinkFront}
use Rattle.fl_core.specs.declared.answer.LinkFront.TheVariants as ahead
use Rattle.fl_core.specs.declared.answer.MonitorWrite.{MonitorWrite}
use Rattle.fl_core.specs.declared.answer.MonitorWrite.TheVariants as said_as
use Rattle.fl_core.specs.declared.answer.MonitorAnswer.{MonitorAnswer}
use Rattle.fl_core.specs.declared.answer.MonitorAnswer.TheVariants as heard_as
use Rattle.fl_core.specs.declared.fault.LinkReceiveFault.{LinkReceiveFault}
use Rattle.fl_core.specs.declared.fault.LinkReceiveFault.TheVariants as link
use Rattle.fl_core.specs.declared.fault.OpenFault.{OpenFault}
use Rattle.fl_core.specs.declared.fault.OpenFault.TheVariants as opening
use Rattle.fl_core.specs.declared.wiring.Outlet.TheVariants as outlet
use Rattle.fl_core.specs.declared.wiring.Inlet.TheVariants as inlet
use Rattle.fl_core.specs.declared.wiring.ArrivalPlace.{ArrivalPlace}
use Rattle.fl_core.specs.View.{TheCore, arriving_at, with_monitor}
use Rattle.fl_core.specs.Links.{LooksAhead, inbound, ArrivesAt}
use Rattle.fl_core.specs.Making.{Asked, Asks}
use Rattle.fl_core.specs.Hearing.{Offers, known_for, offer_for, HearsAll, offering, Follows, BindsIf}
use Rattle.fl_core.specs.Ends.{at_side}
use Rattle.fl_core.proofs.Begun.{opens_length}
use Rattle.fl_core.proofs.Hearsay.{hears_length}
use Rattle.fl_core.specs.declared.core_job.CoreJob.{CoreJob}
use Rattle.fl_core_run.specs.Run.{SideRelations, TheRun}
use Rattle.fl_core_run.specs.LogEntries.{LogEntry, looked, passed, arrived, heard, said, told, opened, called, ruled, wrote, acked, turned, Does}
use Rattle.fl_core_run_laws.specs.Logs.{Goes}
use Rattle.fl_core_run_laws.proofs.Aside.{core_aside}

-- how many it has
abbrev pub links_of : TheCore → ℕ
links_of k = length k.monitor.circuits.links

-- what follows a message at a core leaves the monitor as that heard it
follows_monitor : (o : Offers) (l : LinkId) (msg : MonitorMessage) (h : MessageOutcome) (k : TheCore) (m : TheMonitor) (answer : MonitorAnswer) (k2 : TheCore)
    → Follows (offering o.programs (offer_for o k msg) l) h (with_monitor k m) answer k2 → k2.monitor ≡ m
follows_monitor o l msg (outcome.ServerMade binding dispatcher c) k m answer k2 f = ap (λ (x : TheCore). x.monitor) f.1.rest
follows_monitor o l msg (outcome.EndOpened e c) k m answer k2 f = by (arriving_at (with_monitor k m) e) f.1 where
  by : (at : Option ArrivalPlace) → BindsIf at c (with_monitor k m) k2 → k2.monitor ≡ m
  by None h = ap (λ (x : TheCore). x.monitor) h
  by (Some at) h = ap (λ (x : TheCore). x.monitor) h.rest
follows_monitor o l msg (outcome.EndRefused e reason) k m answer k2 f = ap (λ (x : TheCore). x.monitor) f.1
follows_monitor o l msg (outcome.OpeningWentOn binding n c) k m answer k2 f = ap (λ (x : TheCore). x.monitor) f.1
follows_monitor o l msg (outcome.OpeningFailed binding reason) k m answer k2 f = ap (λ (x : TheCore). x.monitor) f.1
follows_monitor o l msg (outcome.AnswerWentOn binding n c) k m answer k2 f = ap (λ (x : TheCore). x.monitor) f.1

module _ {S : Type 0} (w : SideRelations S) (s m : TheRun S) where
  abbrev Stay : Type 0
  Stay = links_of m.core ≡ links_of s.core

  rests : m.core.monitor ≡ s.core.monitor → Stay
  rests same = ap (λ (x : TheMonitor). length x.circuits.links) same

  looks : (l : ℕ) (p : S) (answer : Result LinkFront LinkReceiveFault) (q : S) → LooksAhead w.takes w.front l (at_side s.core p) answer (at_side m.core q) → Stay
  looks l p (Ok ahead.Nothing) q h = ap links_of h.1
  looks l p (Ok ahead.Acknowledged) q h = ap links_of h.1
  looks l p (Ok (ahead.Message frag)) q h = ap links_of h.1
  looks l p (Ok (ahead.Onward frag side c)) q h = ap links_of h.1
  looks l p (Ok (ahead.Arrival frag e)) q h = ap links_of h.1
  looks l p (Err link.Failed) q h = ap links_of h.1
  looks l p (Err link.Misrouted) q h = ap links_of h.1
  looks l p (Err link.Marked) q h = ap links_of h.1
  looks l p (Err (link.Wire f)) q h = absurd h
  looks l p (Err link.Memory) q h = absurd h

  arrives : (l : ℕ) (frag : Frag) (e : EndId) (p : S) (answer : Result ForwardOutcome LinkReceiveFault) (q : S) → ArrivesAt w.takes (inbound l frag e) (at_side s.core p) answer (at_side m.core q) → Stay
  arrives l frag e p (Ok result) q h = ap links_of h.rest
  arrives l frag e p (Err link.Misrouted) q h = ap links_of h.1
  arrives l frag e p (Err link.Failed) q h = absurd h
  arrives l frag e p (Err link.Marked) q h = absurd h
  arrives l frag e p (Err (link.Wire f)) q h = absurd h
  arrives l frag e p (Err link.Memory) q h = absurd h

  hears_all : (l : LinkId) (msg : MonitorMessage) (answer : MonitorAnswer) → HearsAll s.offers l msg s.core answer m.core → Stay
  hears_all l msg answer h =
      ap (λ (x : TheMonitor). length x.circuits.links) (follows_monitor s.offers l msg h.heard s.core h.monitor answer m.core h.follows)
      ∙ hears_length (known_for s.offers s.core msg) l msg s.core.monitor h.monitor h.heard h.hears

  hears : (n : ℕ) (l : LinkId) (frag : Frag) (answer : Result MonitorAnswer LinkReceiveFault) → Does w (heard n l frag answer) s m → Stay
  hears n l frag (Ok heard_as.Full) h = ap links_of h.event.0.2.1
  hears n l frag (Ok heard_as.Done) h = hears_all l h.event.0.0 heard_as.Done h.event.0.2
  hears n l frag (Ok (heard_as.Opened e)) h = hears_all l h.event.0.0 (heard_as.Opened e) h.event.0.2
  hears n l frag (Ok (heard_as.OpeningRefused e reason)) h = hears_all l h.event.0.0 (heard_as.OpeningRefused e reason) h.event.0.2
  hears n l frag (Err (link.Wire wiring.Memory)) h = absurd h.event.0
  hears n l frag (Err (link.Wire wiring.NotFirst)) h = ap links_of h.event.0.1
  hears n l frag (Err (link.Wire wiring.FirstInside)) h = ap links_of h.event.0.1
  hears n l frag (Err (link.Wire wiring.UnknownMessage)) h = ap links_of h.event.0.1
  hears n l frag (Err (link.Wire wiring.NotZero)) h = ap links_of h.event.0.1
  hears n l frag (Err (link.Wire wiring.OutOfType)) h = ap links_of h.event.0.1
  hears n l frag (Err (link.Wire wiring.TooLong)) h = ap links_of h.event.0.1
  hears n l frag (Err link.Memory) h = ap links_of h.event.0
  hears n l frag (Err link.Failed) h = absurd h.event.0.2
  hears n l frag (Err link.Misrouted) h = ap links_of h.event.0.2.1
  hears n l frag (Err link.Marked) h = absurd h.event.0.2

  says : (n : ℕ) (l : LinkId) (answer : MonitorWrite) → Does w (said n l answer) s m → Stay
  says n l said_as.Written h = ap links_of h.event.4
  says n l said_as.Full h = ap links_of h.event.2
  says n l said_as.Spent h = ap links_of h.event.2
  says n l said_as.Nothing h = ap links_of h.event.1

  asks : (a : Asked) (answer : Result ℕ OpenFault) → Asks a s.core answer m.core → Stay
  asks a (Ok e) h = opens_length a.link a.opening s.core.monitor m.core.monitor h.circuit h.opens
  asks a (Err (opening.Board fault)) h = ap links_of h.1
  asks a (Err (opening.Monitor fault)) h = ap links_of h.2

  does : (log_entry : LogEntry) → Does w log_entry s m → Stay
  does (looked n l answer) h = looks l.0 h.before answer h.after h.event
  does (passed n i frag c Moved) h = ap links_of h.2.event.1 ∙ ap links_of h.1.event.1
  does (passed n i frag c Full) h = ap links_of h.event.1
  does (passed n i frag c Spent) h = ap links_of h.event.1
  does (arrived n l frag e answer) h = arrives l.0 frag e h.before answer h.after h.event
  does (heard n l frag answer) h = hears n l frag answer h
  does (said n l answer) h = says n l answer h
  does (told n l answer) h = ap links_of h.event.1
  does (opened name request answer) h = asks _ answer h.event.asks
  does (called name c answer) h = ap links_of h.2.event.rest
  does (ruled name msg reply answer) h = ap links_of h.2.event.rest
  does (wrote name (outlet.Queue n) answer) h = ap links_of h.2.event.rest
  does (wrote name (outlet.Side n) answer) h = ap links_of h.2.event.rest
  does (acked name n answer) h = ap links_of h.2.event.1
  does (turned d name (inlet.Queue n) answer) h = ap links_of h.3.event.rest
  does (turned d name (inlet.Side n) answer) h = ap links_of h.3.event.rest
  does (turned d name inlet.Arrivals answer) h = ap links_of h.3.event.rest

-- as many in the end as at the start
pub links_stay : {S : Type 0} (w : SideRelations S) (jobs : List CoreJob) (log : List LogEntry) (s t : TheRun S) → Goes w jobs s log t → links_of t.core ≡ links_of s.core
links_stay w jobs [] s t h = ap (λ (x : TheRun _). links_of x.core) h
links_stay w jobs (log_entry ∷ log) s t h =
    links_stay w jobs log h.0 t h.3 ∙ ap links_of (core_aside h.1.0 h.0 log_entry h.1.2) ∙ does w s h.1.0 log_entry h.1.1
