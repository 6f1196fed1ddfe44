-- What is known of the cores behind an event was known of them before it, and so behind a run.
use Rattle.std.proofs.Common.{◌≡◌, ◌≢◌, ◌⊎◌, inl, inr, refl, sym, ◌∙◌, ap, subst, ℕ, List, [], ◌∷◌, length, map, slice_get, slice_set, Option, Some, None}
use Rattle.std.specs.Prelude.{Result, Ok, Err}
use Rattle.fl_base.specs.declared.fragment.Frag.{Frag}
use Rattle.fl_base.specs.declared.identity.CoreId.{CoreId}
use Rattle.fl_base.specs.declared.identity.EndId.{EndId}
use Rattle.fl_base.specs.declared.identity.LinkId.{LinkId}
use Rattle.fl_base.specs.declared.identity.Circuit.{Circuit}
use Rattle.fl_base.specs.Given.{given}
use Rattle.fl_wire.specs.declared.fault.WireFault.TheVariants as wiring
use Rattle.fl_hop.specs.declared.entry.Hop.{Hop}
use Rattle.fl_hop.specs.declared.entry.HopTarget.TheVariants.{Link}
use Rattle.fl_hop.specs.declared.forward.ForwardOutcome.{ForwardOutcome}
use Rattle.fl_hop.specs.declared.forward.ForwardOutcome.TheVariants.{Moved, Full, Spent}
use Rattle.fl_hop.specs.declared.links.LinkState.{LinkState}
use Rattle.fl_hop.specs.Numbers.{with_opening, with_taking, changed, count_opening, count_taking}
use Rattle.fl_hop.specs.Openings.{answered}
use Rattle.fl_hop.specs.Table.{TheCircuits, hop_at, without_entry}
use Rattle.fl_hop.proofs.Entering.{same_or}
use Rattle.fl_hop.proofs.Lists.{set_here, set_there, set_same}
use Rattle.fl_monitor.specs.declared.heard.MessageOutcome.{MessageOutcome}
use Rattle.fl_monitor.specs.declared.heard.MessageOutcome.TheVariants as outcome
use Rattle.fl_monitor.specs.declared.message.MonitorMessage.{MonitorMessage}
use Rattle.fl_monitor.specs.declared.message.MonitorMessage.TheVariants.{OpenCircuit, CircuitOpened, CircuitRefused}
use Rattle.fl_monitor.specs.Hearing.{says, after_opening, table_after}
use Rattle.fl_monitor.specs.Monitors.{TheMonitor, HasOutboxes, AllSaid}
use Rattle.fl_core.specs.declared.answer.LinkFront.{LinkFront}
use Rattle.fl_core.specs.declared.answer.LinkFront.TheVariants as front
use Rattle.fl_core.specs.declared.answer.MonitorWrite.TheVariants as said_as
use Rattle.fl_core.specs.declared.answer.MonitorAnswer.{MonitorAnswer}
use Rattle.fl_core.specs.declared.answer.MonitorAnswer.TheVariants as heard_as
use Rattle.fl_core.specs.declared.fault.LinkReceiveFault.{LinkReceiveFault}
use Rattle.fl_core.specs.declared.fault.LinkReceiveFault.TheVariants as link
use Rattle.fl_core.specs.declared.fault.OpenFault.{OpenFault}
use Rattle.fl_core.specs.declared.fault.OpenFault.TheVariants as opening
use Rattle.fl_core.specs.declared.wiring.ArrivalPlace.{ArrivalPlace}
use Rattle.fl_core.specs.declared.wiring.Outlet.TheVariants as outlet
use Rattle.fl_core.specs.declared.wiring.Inlet.TheVariants as inlet
use Rattle.fl_core.specs.declared.core_job.CoreJob.{CoreJob}
use Rattle.fl_core.specs.View.{TheCore, arriving_at, with_monitor}
use Rattle.fl_core.specs.Ends.{at_side}
use Rattle.fl_core.specs.Links.{LooksAhead, inbound, ArrivesAt}
use Rattle.fl_core.specs.Making.{Asked, Asks}
use Rattle.fl_core.specs.Hearing.{Offers, offer_for, HearsFrag, HearsMessage, HearsAll, offering, Follows, BindsIf}
use Rattle.fl_core_run.specs.Run.{SideRelations, TheRun}
use Rattle.fl_core_run.specs.LogEntries.{LogEntry, looked, passed, arrived, heard, said, told, opened, called, ruled, wrote, acked, turned, Does, Happens}
use Rattle.fl_core_run_laws.proofs.Aside.{core_aside}
use Rattle.fl_ring.specs.SharedSides.{TheSide}
use Rattle.fl_world_refines.specs.View.{IsWhole}
use Rattle.fl_world_refines.proofs.FramesBase.{same_some}
use Rattle.fl_cores_joined.specs.Joined.{JoinedCore, AreWhole, alone}
use Rattle.fl_cores_joined.specs.Steps.{true_ways, HappensAt, Moment, does, forwards, Passes, Interleaves}
use Rattle.fl_core.proofs.Numbering.{goes_to}
use Rattle.fl_cores_joined.proofs.Joining.{long_set, map_set}
use Rattle.fl_cores_joined.proofs.Passing.{long_map}

-- ---- the same neighbours

-- to whom a link leads
abbrev pub to_whom : LinkState → CoreId
to_whom link = link.neighbour

changed_same : (f : LinkState → LinkState) → ((a : LinkState) → (f a).neighbour ≡ a.neighbour) → (links : List LinkState) (l : ℕ) (o : Option LinkState)
    → slice_get links l ≡ o → map to_whom (changed f links l o) ≡ map to_whom links
changed_same f keeps links l None at = refl
changed_same f keeps links l (Some a) at =
    map_set to_whom links l (f a) ∙ ap (λ (c : CoreId). slice_set (map to_whom links) l c) (keeps a)
    ∙ set_same (map to_whom links) l (to_whom a) (goes_to to_whom links l a at)

opening_same : (links : List LinkState) (l : ℕ) → map to_whom (count_opening links l) ≡ map to_whom links
opening_same links l = changed_same with_opening (λ a. refl) links l (slice_get links l) refl

taking_same : (links : List LinkState) (l : ℕ) → map to_whom (count_taking links l) ≡ map to_whom links
taking_same links l = changed_same with_taking (λ a. refl) links l (slice_get links l) refl

-- the table is of the same core, with the same neighbours
pub record SameLinks (t u : TheCircuits) : Type 0 where
  pub core : u.core ≡ t.core
  pub neighbours : map to_whom u.links ≡ map to_whom t.links

by_opening : (t : TheCircuits) (l : LinkId) (c : Circuit) (binding : ℕ) (h : MessageOutcome) → SameLinks t (after_opening t l c binding h)
by_opening t l c binding (outcome.OpeningWentOn b m n) = record { core = refl; neighbours = opening_same (count_taking t.links l.0) m.0 ∙ taking_same t.links l.0 }
by_opening t l c binding (outcome.ServerMade b e d) = record { core = refl; neighbours = taking_same t.links l.0 }
by_opening t l c binding (outcome.OpeningFailed b reason) = record { core = refl; neighbours = taking_same t.links l.0 }
by_opening t l c binding (outcome.AnswerWentOn b m n) = record { core = refl; neighbours = taking_same t.links l.0 }
by_opening t l c binding (outcome.EndOpened e d) = record { core = refl; neighbours = taking_same t.links l.0 }
by_opening t l c binding (outcome.EndRefused e reason) = record { core = refl; neighbours = taking_same t.links l.0 }

by_table : (t : TheCircuits) (l : LinkId) (m : MonitorMessage) (h : MessageOutcome) → SameLinks t (table_after t l m h)
by_table t l (OpenCircuit c b s p) h = by_opening t l c b h
by_table t l (CircuitOpened c) h = by (hop_at t l.0 c.0)
  where
    by : (o : Option Hop) → SameLinks t (given o t λ (hop : Hop). answered t l c hop)
    by None = record { core = refl; neighbours = refl }
    by (Some hop) = record { core = refl; neighbours = refl }
by_table t l (CircuitRefused c reason) h = by (hop_at t l.0 c.0)
  where
    by : (o : Option Hop) → SameLinks t (given o t λ (hop : Hop). without_entry t (Link l c) hop.way)
    by None = record { core = refl; neighbours = refl }
    by (Some hop) = record { core = refl; neighbours = refl }

-- ---- and as many outboxes

said_long : (l : LinkId) (m : MonitorMessage) (h : MessageOutcome) (before after : List (List Frag)) → AllSaid (says l m h) before after
    → length after ≡ length before
said_long l m (outcome.OpeningWentOn b n c) before after h = ap length h.more ∙ long_set before n.0 _
said_long l m (outcome.ServerMade b d c) before after h = ap length h.more ∙ long_set before l.0 _
said_long l m (outcome.OpeningFailed b reason) before after h = ap length h.more ∙ long_set before l.0 _
said_long l m (outcome.AnswerWentOn b n c) before after h = ap length h.more ∙ long_set before n.0 _
said_long l m (outcome.EndOpened e c) before after h = ap length h
said_long l m (outcome.EndRefused e reason) before after h = ap length h

follows_monitor : (o : Offers) (l : LinkId) (msg : MonitorMessage) (h : MessageOutcome) (k : TheCore) (m : TheMonitor) (answer : MonitorAnswer) (k2 : TheCore)
    → Follows (offering o.programs (offer_for o k msg) l) h (with_monitor k m) answer k2 → k2.monitor ≡ m
follows_monitor o l msg (outcome.ServerMade binding dispatcher c) k m answer k2 f = ap (λ (x : TheCore). x.monitor) f.1.rest
follows_monitor o l msg (outcome.EndOpened e c) k m answer k2 f = by (arriving_at (with_monitor k m) e) f.1
  where
    by : (at : Option ArrivalPlace) → BindsIf at c (with_monitor k m) k2 → k2.monitor ≡ m
    by None h = ap (λ (x : TheCore). x.monitor) h
    by (Some at) h = ap (λ (x : TheCore). x.monitor) h.rest
follows_monitor o l msg (outcome.EndRefused e reason) k m answer k2 f = ap (λ (x : TheCore). x.monitor) f.1
follows_monitor o l msg (outcome.OpeningWentOn binding n c) k m answer k2 f = ap (λ (x : TheCore). x.monitor) f.1
follows_monitor o l msg (outcome.OpeningFailed binding reason) k m answer k2 f = ap (λ (x : TheCore). x.monitor) f.1
follows_monitor o l msg (outcome.AnswerWentOn binding n c) k m answer k2 f = ap (λ (x : TheCore). x.monitor) f.1

pub record SameSize (k k2 : TheCore) : Type 0 where
  pub outboxes : length k2.monitor.outboxes ≡ length k.monitor.outboxes
  pub links : SameLinks k.monitor.circuits k2.monitor.circuits

module _ (k k2 : TheCore) where
  alike : k2.monitor ≡ k.monitor → SameSize k k2
  alike same = record {
    outboxes = ap (λ (m : TheMonitor). length m.outboxes) same;
    links = record { core = ap (λ (m : TheMonitor). m.circuits.core) same; neighbours = ap (λ (m : TheMonitor). map to_whom m.circuits.links) same };
  }

  core_alike : k2 ≡ k → SameSize k k2
  core_alike same = alike (ap (λ (x : TheCore). x.monitor) same)

  all_same : (o : Offers) (l : LinkId) (msg : MonitorMessage) (answer : MonitorAnswer) → HearsAll o l msg k answer k2 → SameSize k k2
  all_same o l msg answer h =
      let same = follows_monitor o l msg h.heard k h.monitor answer k2 h.follows in
      let is : k2.monitor.circuits ≡ table_after k.monitor.circuits l msg h.heard = ap (λ (m : TheMonitor). m.circuits) same ∙ h.hears.2 in
      record {
        outboxes = ap (λ (m : TheMonitor). length m.outboxes) same ∙ said_long l msg h.heard k.monitor.outboxes h.monitor.outboxes h.hears.3;
        links = subst (SameLinks k.monitor.circuits) (sym is) (by_table k.monitor.circuits l msg h.heard);
      }

  message_same : (o : Offers) (l : LinkId) (msg : MonitorMessage) (answer : Result MonitorAnswer LinkReceiveFault) → HearsMessage o l msg k answer k2 → SameSize k k2
  message_same o l msg (Ok heard_as.Full) h = core_alike h.1
  message_same o l msg (Ok heard_as.Done) h = all_same o l msg heard_as.Done h
  message_same o l msg (Ok (heard_as.Opened e)) h = all_same o l msg (heard_as.Opened e) h
  message_same o l msg (Ok (heard_as.OpeningRefused e reason)) h = all_same o l msg (heard_as.OpeningRefused e reason) h
  message_same o l msg (Err link.Misrouted) h = alike (ap (λ (x : TheCore). x.monitor) h.1)
  message_same o l msg (Err link.Memory) h = core_alike h
  message_same o l msg (Err link.Failed) h = absurd h
  message_same o l msg (Err link.Marked) h = absurd h
  message_same o l msg (Err (link.Wire f)) h = absurd h

  hears_same : (o : Offers) (l : LinkId) (frag : Frag) (answer : Result MonitorAnswer LinkReceiveFault) → HearsFrag o l frag k answer k2 → SameSize k k2
  hears_same o l frag (Err (link.Wire wiring.Memory)) h = absurd h
  hears_same o l frag (Err (link.Wire wiring.NotFirst)) h = alike (ap (λ (x : TheCore). x.monitor) h.1)
  hears_same o l frag (Err (link.Wire wiring.FirstInside)) h = alike (ap (λ (x : TheCore). x.monitor) h.1)
  hears_same o l frag (Err (link.Wire wiring.UnknownMessage)) h = alike (ap (λ (x : TheCore). x.monitor) h.1)
  hears_same o l frag (Err (link.Wire wiring.NotZero)) h = alike (ap (λ (x : TheCore). x.monitor) h.1)
  hears_same o l frag (Err (link.Wire wiring.OutOfType)) h = alike (ap (λ (x : TheCore). x.monitor) h.1)
  hears_same o l frag (Err (link.Wire wiring.TooLong)) h = alike (ap (λ (x : TheCore). x.monitor) h.1)
  hears_same o l frag (Err link.Memory) h = core_alike h
  hears_same o l frag (Err link.Failed) h = message_same o l h.0 (Err link.Failed) h.2
  hears_same o l frag (Err link.Misrouted) h = message_same o l h.0 (Err link.Misrouted) h.2
  hears_same o l frag (Err link.Marked) h = message_same o l h.0 (Err link.Marked) h.2
  hears_same o l frag (Ok answer) h = message_same o l h.0 (Ok answer) h.2

  asks_same : (a : Asked) (answer : Result ℕ OpenFault) → Asks a k answer k2 → SameSize k k2
  asks_same a (Ok e) h = record {
    outboxes = ap length h.opens.4.more ∙ long_set k.monitor.outboxes a.link.0 _;
    links = subst (SameLinks k.monitor.circuits) (sym h.opens.3) (record { core = refl; neighbours = opening_same k.monitor.circuits.links a.link.0 });
  }
  asks_same a (Err (opening.Board fault)) h = core_alike h.1
  asks_same a (Err (opening.Monitor fault)) h = core_alike h.2

ahead_same : {S : Type 0} (w : SideRelations S) (l : ℕ) (k : TheCore) (p : S) (answer : Result LinkFront LinkReceiveFault) (k2 : TheCore) (q : S)
    → LooksAhead w.takes w.front l (at_side k p) answer (at_side k2 q) → k2.monitor ≡ k.monitor
ahead_same w l k p (Ok front.Nothing) k2 q h = ap (λ (x : TheCore). x.monitor) h.1
ahead_same w l k p (Ok front.Acknowledged) k2 q h = ap (λ (x : TheCore). x.monitor) h.1
ahead_same w l k p (Ok (front.Message frag)) k2 q h = ap (λ (x : TheCore). x.monitor) h.1
ahead_same w l k p (Ok (front.Onward frag side c)) k2 q h = ap (λ (x : TheCore). x.monitor) h.1
ahead_same w l k p (Ok (front.Arrival frag e)) k2 q h = ap (λ (x : TheCore). x.monitor) h.1
ahead_same w l k p (Err link.Failed) k2 q h = ap (λ (x : TheCore). x.monitor) h.1
ahead_same w l k p (Err link.Misrouted) k2 q h = ap (λ (x : TheCore). x.monitor) h.1
ahead_same w l k p (Err link.Marked) k2 q h = ap (λ (x : TheCore). x.monitor) h.1
ahead_same w l k p (Err (link.Wire f)) k2 q h = absurd h
ahead_same w l k p (Err link.Memory) k2 q h = absurd h

arrives_same : {S : Type 0} (w : SideRelations S) (l : ℕ) (frag : Frag) (e : EndId) (k : TheCore) (p : S) (answer : Result ForwardOutcome LinkReceiveFault)
    (k2 : TheCore) (q : S) → ArrivesAt w.takes (inbound l frag e) (at_side k p) answer (at_side k2 q) → k2.monitor ≡ k.monitor
arrives_same w l frag e k p (Ok result) k2 q h = ap (λ (x : TheCore). x.monitor) h.rest
arrives_same w l frag e k p (Err link.Misrouted) k2 q h = ap (λ (x : TheCore). x.monitor) h.1
arrives_same w l frag e k p (Err link.Failed) k2 q h = absurd h
arrives_same w l frag e k p (Err link.Marked) k2 q h = absurd h
arrives_same w l frag e k p (Err (link.Wire f)) k2 q h = absurd h
arrives_same w l frag e k p (Err link.Memory) k2 q h = absurd h

pub does_same : {S : Type 0} (w : SideRelations S) (log_entry : LogEntry) (s m : TheRun S) → Does w log_entry s m → SameSize s.core m.core
does_same w (looked n l answer) s m h = alike s.core m.core (ahead_same w l.0 s.core h.before answer m.core h.after h.event)
does_same w (passed n i frag c Moved) s m h = core_alike s.core m.core (h.2.event.1 ∙ h.1.event.1)
does_same w (passed n i frag c Full) s m h = core_alike s.core m.core h.event.1
does_same w (passed n i frag c Spent) s m h = core_alike s.core m.core h.event.1
does_same w (arrived n l frag e answer) s m h = alike s.core m.core (arrives_same w l.0 frag e s.core h.before answer m.core h.after h.event)
does_same w (heard n l frag answer) s m h = hears_same s.core m.core s.offers l frag answer h.event.0
does_same w (said n l said_as.Written) s m h = record {
  outboxes = ap (λ (x : TheCore). length x.monitor.outboxes) h.event.4 ∙ long_set s.core.monitor.outboxes l.0 _;
  links = record {
    core = ap (λ (x : TheCore). x.monitor.circuits.core) h.event.4;
    neighbours = ap (λ (x : TheCore). map to_whom x.monitor.circuits.links) h.event.4;
  };
}
does_same w (said n l said_as.Full) s m h = core_alike s.core m.core h.event.2
does_same w (said n l said_as.Spent) s m h = core_alike s.core m.core h.event.2
does_same w (said n l said_as.Nothing) s m h = core_alike s.core m.core h.event.1
does_same w (told n l answer) s m h = core_alike s.core m.core h.event.1
does_same w (opened name request answer) s m h = asks_same s.core m.core _ answer h.event.asks
does_same w (called name c answer) s m h = alike s.core m.core (ap (λ (x : TheCore). x.monitor) h.2.event.rest)
does_same w (ruled name msg reply answer) s m h = alike s.core m.core (ap (λ (x : TheCore). x.monitor) h.2.event.rest)
does_same w (wrote name (outlet.Queue n) answer) s m h = alike s.core m.core (ap (λ (x : TheCore). x.monitor) h.2.event.rest)
does_same w (wrote name (outlet.Side n) answer) s m h = alike s.core m.core (ap (λ (x : TheCore). x.monitor) h.2.event.rest)
does_same w (acked name n answer) s m h = core_alike s.core m.core h.2.event.1
does_same w (turned d name (inlet.Queue n) answer) s m h = alike s.core m.core (ap (λ (x : TheCore). x.monitor) h.3.event.rest)
does_same w (turned d name (inlet.Side n) answer) s m h = alike s.core m.core (ap (λ (x : TheCore). x.monitor) h.3.event.rest)
does_same w (turned d name inlet.Arrivals answer) s m h = alike s.core m.core (ap (λ (x : TheCore). x.monitor) h.3.event.rest)

-- ---- before an event

pub whole_back : {S : Type 0} (w : SideRelations S) (log_entry : LogEntry) (s t : TheRun S) → Happens w log_entry s t → IsWhole t.core → IsWhole s.core
whole_back w log_entry s t h still =
    let m = h.0 in
    let behind : HasOutboxes m.core.monitor = subst (λ (k : TheCore). HasOutboxes k.monitor) (core_aside m t log_entry h.2) still.outboxes in
    let many = does_same w log_entry s m h.1 in
    record {
      core = h.3.core;
      board = h.3.board;
      outboxes = sym many.outboxes ∙ behind ∙ sym (long_map to_whom m.core.monitor.circuits.links) ∙ ap length many.links.neighbours
          ∙ long_map to_whom s.core.monitor.circuits.links;
    }

module _ (jobs : List CoreJob) (n : ℕ) (log_entry : LogEntry) (xs ys : List JoinedCore) (h : HappensAt jobs n log_entry xs ys) (still : AreWhole ys) where
  abbrev after : JoinedCore
  after = record h.before { run = alone h.after }

  -- the core that does it
  its_own : IsWhole h.before.run.core
  its_own =
      let at : slice_get ys n ≡ Some after = ap (λ (l : List JoinedCore). slice_get l n) h.rest ∙ set_here xs n h.before after h.before_is in
      subst (λ (t : TheRun TheSide). IsWhole t.core) h.beside_is.own (whole_back true_ways log_entry h.beside h.after h.happens (still n after at))

  pub before_whole : AreWhole xs
  before_whole k z at = by (same_or k n)
    where
      by : (k ≡ n) ⊎ (k ≢ n) → IsWhole z.run.core
      by (inl same) =
          let is : h.before ≡ z = same_some (slice_get xs n) h.before z h.before_is (ap (slice_get xs) (sym same) ∙ at) in
          subst (λ (c : JoinedCore). IsWhole c.run.core) is its_own
      by (inr other) = still k z (ap (λ (l : List JoinedCore). slice_get l k) h.rest ∙ set_there xs n _ k z at other)

-- ---- and before a run

pub whole_before : (jobs : List CoreJob) (x : Moment) (xs ms : List JoinedCore) → Passes jobs x xs ms → AreWhole ms → AreWhole xs
whole_before jobs (does n log_entry) xs ms h still = before_whole jobs n log_entry xs ms h.1 still
whole_before jobs (forwards n look follows) xs ms h still =
    before_whole jobs n look xs h.1.0 h.1.1 (before_whole jobs n follows h.1.0 ms h.1.2 still)

pub whole_behind : (jobs : List CoreJob) (xs ys : List JoinedCore) (moments : List Moment) → Interleaves jobs xs moments ys → AreWhole ys → AreWhole xs
whole_behind jobs xs ys [] h still = subst AreWhole h still
whole_behind jobs xs ys (x ∷ moments) h still = whole_before jobs x xs h.0 h.1 (whole_behind jobs h.0 ys moments h.2 still)
