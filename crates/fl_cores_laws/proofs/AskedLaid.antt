-- A core's number, and the neighbours of its links, stay what they are.
use Rattle.std.proofs.Common.{◌≡◌, refl, sym, ap, ◌∙◌, subst, ℕ, zero, suc, List, [], ◌∷◌, slice_get, slice_set}
use Rattle.std.proofs.Common.{Option, Some, None, false, Result, Ok, Err}
use Rattle.std.specs.Option.{option_map}
use Rattle.fl_base.specs.declared.fragment.Frag.{Frag}
use Rattle.fl_base.specs.declared.identity.CoreId.{CoreId}
use Rattle.fl_base.specs.declared.identity.LinkId.{LinkId}
use Rattle.fl_base.specs.declared.identity.Circuit.{Circuit}
use Rattle.fl_base.specs.Given.{given}
use Rattle.fl_wire.specs.declared.fault.WireFault.TheVariants as wiring
use Rattle.fl_hop.specs.declared.entry.Hop.{Hop}
use Rattle.fl_hop.specs.declared.entry.HopTarget.TheVariants.{Link}
use Rattle.fl_hop.specs.declared.forward.ForwardOutcome.TheVariants.{Moved, Full, Spent}
use Rattle.fl_hop.specs.declared.links.LinkState.{LinkState}
use Rattle.fl_hop.specs.Numbers.{with_opening, with_taking, changed, count_opening, count_taking}
use Rattle.fl_hop.specs.Openings.{opened as opened_table, answered}
use Rattle.fl_hop.specs.Table.{TheCircuits, hop_at, without_entry}
use Rattle.fl_monitor.specs.declared.heard.MessageOutcome.{MessageOutcome}
use Rattle.fl_monitor.specs.declared.heard.MessageOutcome.TheVariants.{OpeningWentOn, ServerMade, OpeningFailed, AnswerWentOn, EndOpened, EndRefused}
use Rattle.fl_monitor.specs.declared.message.MonitorMessage.{MonitorMessage}
use Rattle.fl_monitor.specs.declared.message.MonitorMessage.TheVariants.{OpenCircuit, CircuitOpened, CircuitRefused}
use Rattle.fl_monitor.specs.Routing.{is_on_route}
use Rattle.fl_monitor.specs.Fates.{comes_along}
use Rattle.fl_monitor.specs.Hearing.{after_opening, table_after}
use Rattle.fl_monitor.specs.Monitors.{TheMonitor}
use Rattle.fl_core.specs.declared.answer.MonitorWrite.TheVariants as said_as
use Rattle.fl_core.specs.declared.answer.MonitorAnswer.{MonitorAnswer}
use Rattle.fl_core.specs.declared.answer.MonitorAnswer.TheVariants as heard_as
use Rattle.fl_core.specs.declared.fault.LinkReceiveFault.{LinkReceiveFault}
use Rattle.fl_core.specs.declared.fault.LinkReceiveFault.TheVariants as link
use Rattle.fl_core.specs.declared.fault.OpenFault.{OpenFault}
use Rattle.fl_core.specs.declared.fault.OpenFault.TheVariants as opening
use Rattle.fl_core.specs.declared.wiring.Outlet.TheVariants as outlet
use Rattle.fl_core.specs.declared.wiring.Inlet.TheVariants as inlet
use Rattle.fl_core.specs.View.{TheCore}
use Rattle.fl_core.specs.Making.{Asked, Asks}
use Rattle.fl_core.specs.Hearing.{Offers, HearsFrag, HearsMessage, HearsAll}
use Rattle.fl_core.specs.declared.core_job.CoreJob.{CoreJob}
use Rattle.fl_core_run.specs.Run.{SideRelations, TheRun}
use Rattle.fl_core_run.specs.LogEntries.{LogEntry, looked, passed, arrived, heard, said, told, opened, called, ruled, wrote, acked, turned, Does}
use Rattle.fl_core_run_laws.specs.Logs.{Goes}
use Rattle.fl_core_run_laws.proofs.Aside.{core_aside}
use Rattle.fl_cores_laws.proofs.Logged.{follows_monitor, ahead_monitor, arrives_monitor}

-- the core on a link's other side
abbrev pub beside : TheCircuits → ℕ → Option CoreId
beside t l = option_map (λ (state : LinkState). state.neighbour) (slice_get t.links l)

-- the table is of the same core, with the same neighbours
pub record Laid (t u : TheCircuits) : Type 0 where
  pub core : u.core ≡ t.core
  pub links : (l : ℕ) → beside u l ≡ beside t l

pub laid_same : (t u : TheCircuits) → u ≡ t → Laid t u
laid_same t u same = record { core = ap (λ (x : TheCircuits). x.core) same; links = λ l. ap (λ (x : TheCircuits). beside x l) same }

pub laid_then : (t u v : TheCircuits) → Laid t u → Laid u v → Laid t v
laid_then t u v g h = record { core = h.core ∙ g.core; links = λ l. h.links l ∙ g.links l }

-- ---- whether an opening comes along its route stays

along_by : (path : List CoreId) (core : ℕ) (a b : Option LinkState) → option_map (λ (state : LinkState). state.neighbour) a ≡ option_map (λ (state : LinkState). state.neighbour) b
    → given a false (λ state. is_on_route path state.neighbour.0 core) ≡ given b false (λ state. is_on_route path state.neighbour.0 core)
along_by path core None None same = refl
along_by path core None (Some b) same = absurd (cc)
along_by path core (Some a) None same = absurd (cc)
along_by path core (Some a) (Some b) same = let one : a.neighbour ≡ b.neighbour = cc in ap (λ (c : CoreId). is_on_route path c.0 core) one

pub laid_along : (t u : TheCircuits) → Laid t u → (l : ℕ) (path : List CoreId) → comes_along u l path ≡ comes_along t l path
laid_along t u laid l path =
    ap (λ (core : ℕ). given (slice_get u.links l) false (λ (state : LinkState). is_on_route path state.neighbour.0 core)) laid.core
    ∙ along_by path t.core (slice_get u.links l) (slice_get t.links l) (laid.links l)

-- ---- links of which one counts one number more

abbrev pub is_to : LinkState → CoreId
is_to state = state.neighbour

set_beside : (xs : List LinkState) (i l : ℕ) (a b : LinkState) → slice_get xs i ≡ Some a → b.neighbour ≡ a.neighbour
    → option_map is_to (slice_get (slice_set xs i b) l) ≡ option_map is_to (slice_get xs l)
set_beside [] i l a b at same = absurd (cc)
set_beside (x ∷ xs) zero zero a b at same = let one : x ≡ a = cc in ap Some (same ∙ ap is_to (sym one))
set_beside (x ∷ xs) zero (suc l) a b at same = refl
set_beside (x ∷ xs) (suc i) zero a b at same = refl
set_beside (x ∷ xs) (suc i) (suc l) a b at same = set_beside xs i l a b at same

changed_beside : (f : LinkState → LinkState) → ((a : LinkState) → (f a).neighbour ≡ a.neighbour) → (xs : List LinkState) (i l : ℕ) (o : Option LinkState) → slice_get xs i ≡ o
    → option_map is_to (slice_get (changed f xs i o) l) ≡ option_map is_to (slice_get xs l)
changed_beside f keeps xs i l None at = refl
changed_beside f keeps xs i l (Some a) at = set_beside xs i l a (f a) at (keeps a)

opening_beside : (xs : List LinkState) (i l : ℕ) → option_map is_to (slice_get (count_opening xs i) l) ≡ option_map is_to (slice_get xs l)
opening_beside xs i l = changed_beside with_opening (λ a. refl) xs i l (slice_get xs i) refl

taking_beside : (xs : List LinkState) (i l : ℕ) → option_map is_to (slice_get (count_taking xs i) l) ≡ option_map is_to (slice_get xs l)
taking_beside xs i l = changed_beside with_taking (λ a. refl) xs i l (slice_get xs i) refl

-- ---- tables

by_opening : (t : TheCircuits) (l : LinkId) (c : Circuit) (binding : ℕ) (h : MessageOutcome) → Laid t (after_opening t l c binding h)
by_opening t l c binding (OpeningWentOn b m n) =
    record { core = refl; links = λ i. opening_beside (count_taking t.links l.0) m.0 i ∙ taking_beside t.links l.0 i }
by_opening t l c binding (ServerMade b e d) = record { core = refl; links = λ i. taking_beside t.links l.0 i }
by_opening t l c binding (OpeningFailed b reason) = record { core = refl; links = λ i. taking_beside t.links l.0 i }
by_opening t l c binding (AnswerWentOn b m n) = record { core = refl; links = λ i. taking_beside t.links l.0 i }
by_opening t l c binding (EndOpened e d) = record { core = refl; links = λ i. taking_beside t.links l.0 i }
by_opening t l c binding (EndRefused e reason) = record { core = refl; links = λ i. taking_beside t.links l.0 i }

by_answer : (t : TheCircuits) (l : LinkId) (c : Circuit) (o : Option Hop) → Laid t (given o t λ hop. answered t l c hop)
by_answer t l c None = laid_same t t refl
by_answer t l c (Some hop) = record { core = refl; links = λ i. refl }

by_refusal : (t : TheCircuits) (l : LinkId) (c : Circuit) (o : Option Hop) → Laid t (given o t λ hop. without_entry t (Link l c) hop.way)
by_refusal t l c None = laid_same t t refl
by_refusal t l c (Some hop) = record { core = refl; links = λ i. refl }

pub table_laid : (t : TheCircuits) (l : LinkId) (m : MonitorMessage) (h : MessageOutcome) → Laid t (table_after t l m h)
table_laid t l (OpenCircuit c b s p) h = by_opening t l c b h
table_laid t l (CircuitOpened c) h = by_answer t l c (hop_at t l.0 c.0)
table_laid t l (CircuitRefused c reason) h = by_refusal t l c (hop_at t l.0 c.0)

pub opened_laid : (t : TheCircuits) (l : LinkId) (c : Circuit) (binding : ℕ) → Laid t (opened_table t l c binding)
opened_laid t l c binding = record { core = refl; links = λ i. opening_beside t.links l.0 i }

-- ---- events

module _ (k k2 : TheCore) where
  abbrev Stays : Type 0
  Stays = Laid k.monitor.circuits k2.monitor.circuits

  pub alike : k2.monitor ≡ k.monitor → Laid k.monitor.circuits k2.monitor.circuits
  alike same = laid_same k.monitor.circuits k2.monitor.circuits (ap (λ (m : TheMonitor). m.circuits) same)

  core_alike : k2 ≡ k → Stays
  core_alike same = alike (ap (λ (x : TheCore). x.monitor) same)

  all_laid : (o : Offers) (l : LinkId) (msg : MonitorMessage) (answer : MonitorAnswer) → HearsAll o l msg k answer k2 → Stays
  all_laid o l msg answer h =
      let same = follows_monitor o l msg h.heard k h.monitor answer k2 h.follows in
      let is : k2.monitor.circuits ≡ table_after k.monitor.circuits l msg h.heard = ap (λ (m : TheMonitor). m.circuits) same ∙ h.hears.2 in
      subst (Laid k.monitor.circuits) (sym is) (table_laid k.monitor.circuits l msg h.heard)

  message_laid : (o : Offers) (l : LinkId) (msg : MonitorMessage) (answer : Result MonitorAnswer LinkReceiveFault) → HearsMessage o l msg k answer k2 → Stays
  message_laid o l msg (Ok heard_as.Full) h = core_alike h.1
  message_laid o l msg (Ok heard_as.Done) h = all_laid o l msg heard_as.Done h
  message_laid o l msg (Ok (heard_as.Opened e)) h = all_laid o l msg (heard_as.Opened e) h
  message_laid o l msg (Ok (heard_as.OpeningRefused e reason)) h = all_laid o l msg (heard_as.OpeningRefused e reason) h
  message_laid o l msg (Err link.Misrouted) h = alike (ap (λ (x : TheCore). x.monitor) h.1)
  message_laid o l msg (Err link.Memory) h = core_alike h
  message_laid o l msg (Err link.Failed) h = absurd h
  message_laid o l msg (Err link.Marked) h = absurd h
  message_laid o l msg (Err (link.Wire f)) h = absurd h

  hears_laid : (o : Offers) (l : LinkId) (frag : Frag) (answer : Result MonitorAnswer LinkReceiveFault) → HearsFrag o l frag k answer k2 → Stays
  hears_laid o l frag (Err (link.Wire wiring.Memory)) h = absurd h
  hears_laid o l frag (Err (link.Wire wiring.NotFirst)) h = alike (ap (λ (x : TheCore). x.monitor) h.1)
  hears_laid o l frag (Err (link.Wire wiring.FirstInside)) h = alike (ap (λ (x : TheCore). x.monitor) h.1)
  hears_laid o l frag (Err (link.Wire wiring.UnknownMessage)) h = alike (ap (λ (x : TheCore). x.monitor) h.1)
  hears_laid o l frag (Err (link.Wire wiring.NotZero)) h = alike (ap (λ (x : TheCore). x.monitor) h.1)
  hears_laid o l frag (Err (link.Wire wiring.OutOfType)) h = alike (ap (λ (x : TheCore). x.monitor) h.1)
  hears_laid o l frag (Err (link.Wire wiring.TooLong)) h = alike (ap (λ (x : TheCore). x.monitor) h.1)
  hears_laid o l frag (Err link.Memory) h = core_alike h
  hears_laid o l frag (Err link.Failed) h = message_laid o l h.0 (Err link.Failed) h.2
  hears_laid o l frag (Err link.Misrouted) h = message_laid o l h.0 (Err link.Misrouted) h.2
  hears_laid o l frag (Err link.Marked) h = message_laid o l h.0 (Err link.Marked) h.2
  hears_laid o l frag (Ok answered) h = message_laid o l h.0 (Ok answered) h.2

  asks_laid : (a : Asked) (answer : Result ℕ OpenFault) → Asks a k answer k2 → Stays
  asks_laid a (Ok e) h =
      subst (Laid k.monitor.circuits) (sym h.opens.3) (opened_laid k.monitor.circuits a.link h.circuit a.opening.binding)
  asks_laid a (Err (opening.Board fault)) h = core_alike h.1
  asks_laid a (Err (opening.Monitor fault)) h = core_alike h.2

pub does_laid : {S : Type 0} (w : SideRelations S) (log_entry : LogEntry) (s m : TheRun S) → Does w log_entry s m → Laid s.core.monitor.circuits m.core.monitor.circuits
does_laid w (looked n l answer) s m h = alike s.core m.core (ahead_monitor w l.0 s.core h.before answer m.core h.after h.event)
does_laid w (passed n i frag c Moved) s m h = core_alike s.core m.core (h.2.event.1 ∙ h.1.event.1)
does_laid w (passed n i frag c Full) s m h = core_alike s.core m.core h.event.1
does_laid w (passed n i frag c Spent) s m h = core_alike s.core m.core h.event.1
does_laid w (arrived n l frag e answer) s m h = alike s.core m.core (arrives_monitor w l.0 frag e s.core h.before answer m.core h.after h.event)
does_laid w (heard n l frag answer) s m h = hears_laid s.core m.core s.offers l frag answer h.event.0
does_laid w (said n l said_as.Written) s m h =
    laid_same s.core.monitor.circuits m.core.monitor.circuits (ap (λ (x : TheCore). x.monitor.circuits) h.event.4)
does_laid w (said n l said_as.Full) s m h = core_alike s.core m.core h.event.2
does_laid w (said n l said_as.Spent) s m h = core_alike s.core m.core h.event.2
does_laid w (said n l said_as.Nothing) s m h = core_alike s.core m.core h.event.1
does_laid w (told n l answer) s m h = core_alike s.core m.core h.event.1
does_laid w (opened name request answer) s m h = asks_laid s.core m.core _ answer h.event.asks
does_laid w (called name c answer) s m h = alike s.core m.core (ap (λ (x : TheCore). x.monitor) h.2.event.rest)
does_laid w (ruled name msg reply answer) s m h = alike s.core m.core (ap (λ (x : TheCore). x.monitor) h.2.event.rest)
does_laid w (wrote name (outlet.Queue n) answer) s m h = alike s.core m.core (ap (λ (x : TheCore). x.monitor) h.2.event.rest)
does_laid w (wrote name (outlet.Side n) answer) s m h = alike s.core m.core (ap (λ (x : TheCore). x.monitor) h.2.event.rest)
does_laid w (acked name n answer) s m h = core_alike s.core m.core h.2.event.1
does_laid w (turned d name (inlet.Queue n) answer) s m h = alike s.core m.core (ap (λ (x : TheCore). x.monitor) h.3.event.rest)
does_laid w (turned d name (inlet.Side n) answer) s m h = alike s.core m.core (ap (λ (x : TheCore). x.monitor) h.3.event.rest)
does_laid w (turned d name inlet.Arrivals answer) s m h = alike s.core m.core (ap (λ (x : TheCore). x.monitor) h.3.event.rest)

-- and over a log
pub goes_laid : {S : Type 0} (w : SideRelations S) (jobs : List CoreJob) (log : List LogEntry) (s t : TheRun S) → Goes w jobs s log t → Laid s.core.monitor.circuits t.core.monitor.circuits
goes_laid w jobs [] s t h = laid_same s.core.monitor.circuits t.core.monitor.circuits (ap (λ (x : TheRun _). x.core.monitor.circuits) h)
goes_laid w jobs (log_entry ∷ log) s t h =
    let m = h.1.0 in
    let u = h.0 in
    let aside : u.core ≡ m.core = core_aside m u log_entry h.1.2 in
    let one : Laid s.core.monitor.circuits u.core.monitor.circuits =
    subst (λ (k : TheCore). Laid s.core.monitor.circuits k.monitor.circuits) (sym aside) (does_laid w log_entry s m h.1.1) in
    laid_then s.core.monitor.circuits u.core.monitor.circuits t.core.monitor.circuits one (goes_laid w jobs log u t h.3)
