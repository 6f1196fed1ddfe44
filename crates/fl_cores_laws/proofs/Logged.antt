-- What a core's monitor says and hears over a log: one walk for every predicate of that.
use Rattle.std.proofs.Common.{◌≡◌, ◌⊎◌, inl, inr, refl, sym, ap, ◌∙◌, subst, ℕ, ◌==◌, take, drop, if◌then◌else◌, Bool, true, false, List, [], ◌∷◌, ◌++◌, slice_get}
use Rattle.std.proofs.Common.{Option, Some, None, Result, Ok, Err, suc, ◌+◌, arith}
use Rattle.std.proofs.lemmas.Bool.Decides.{nat_tests}
use Rattle.std.proofs.lemmas.List.{append_assoc}
use Rattle.fl_base.specs.declared.fragment.Frag.{Frag}
use Rattle.fl_base.specs.declared.identity.EndId.{EndId}
use Rattle.fl_base.specs.declared.identity.LinkId.{LinkId}
use Rattle.fl_base.specs.declared.identity.Circuit.{Circuit}
use Rattle.fl_base.specs.Control.{circuit_of, bare}
use Rattle.fl_wire.specs.declared.fault.WireFault.TheVariants as wiring
use Rattle.fl_hop.specs.declared.entry.HopTarget.TheVariants.{End}
use Rattle.fl_hop.specs.declared.forward.ForwardOutcome.{ForwardOutcome}
use Rattle.fl_hop.specs.declared.forward.ForwardOutcome.TheVariants.{Moved, Full, Spent}
use Rattle.fl_hop.specs.Joined.{Sound}
use Rattle.fl_hop.specs.Later.{Later}
use Rattle.fl_hop.specs.OfCircuit.{as_carried, of_circuit}
use Rattle.fl_hop.specs.Openings.{opened as opened_table}
use Rattle.fl_hop.specs.Stretch.{TableStep, passed as hop_passed, wrote as hop_wrote, said as hop_said, heard as hop_heard, goes_through, put_by, taken_by, put_on, taken_from}
use Rattle.fl_hop.specs.Table.{TheCircuits}
use Rattle.fl_hop.specs.Numbers.{next_own}
use Rattle.fl_hop.proofs.Laws.{is_eq, of_join}
use Rattle.fl_endpoint.specs.Laws.{OnAnotherCircuit}
use Rattle.fl_monitor.specs.declared.heard.MessageOutcome.{MessageOutcome}
use Rattle.fl_monitor.specs.declared.heard.MessageOutcome.TheVariants as outcome
use Rattle.fl_monitor.specs.declared.message.MonitorMessage.{MonitorMessage}
use Rattle.fl_monitor.specs.declared.opening.Opening.{Opening}
use Rattle.fl_monitor.specs.Fates.{Known}
use Rattle.fl_monitor.specs.Hearing.{ComesTo, says, table_after}
use Rattle.fl_monitor.specs.Monitors.{TheMonitor, IsQueuedMessage, AllSaid, waiting_for, without_first, asks as asking}
use Rattle.fl_monitor.specs.Saying.{Says}
use Rattle.fl_monitor.proofs.Single.{says_the_same}
use Rattle.fl_core.specs.declared.answer.LinkFront.{LinkFront}
use Rattle.fl_core.specs.declared.answer.LinkFront.TheVariants as ahead
use Rattle.fl_core.specs.declared.answer.MonitorWrite.{MonitorWrite}
use Rattle.fl_core.specs.declared.answer.MonitorWrite.TheVariants as said_as
use Rattle.fl_core.specs.declared.answer.MonitorAnswer.{MonitorAnswer}
use Rattle.fl_core.specs.declared.answer.MonitorAnswer.TheVariants as heard_as
use Rattle.fl_core.specs.declared.fault.LinkReceiveFault.{LinkReceiveFault}
use Rattle.fl_core.specs.declared.fault.LinkReceiveFault.TheVariants as link
use Rattle.fl_core.specs.declared.fault.OpenFault.{OpenFault}
use Rattle.fl_core.specs.declared.fault.OpenFault.TheVariants as opening
use Rattle.fl_core.specs.declared.wiring.ArrivalPlace.{ArrivalPlace}
use Rattle.fl_core.specs.declared.wiring.Outlet.TheVariants as outlet
use Rattle.fl_core.specs.declared.wiring.Inlet.TheVariants as inlet
use Rattle.fl_core.specs.View.{TheCore, arriving_at, with_monitor}
use Rattle.fl_core.specs.Sound.{IsCore}
use Rattle.fl_core.specs.Links.{LooksAhead, inbound, ArrivesAt}
use Rattle.fl_core.specs.Making.{Asked, asked, Asks}
use Rattle.fl_core.specs.Hearing.{Offers, known_for, offer_for, HearsAll, offering, Follows, BindsIf}
use Rattle.fl_core.specs.Ends.{at_side}
use Rattle.fl_core.specs.declared.core_job.CoreJob.{CoreJob}
use Rattle.fl_core.specs.declared.core_job.OpenRequest.{OpenRequest}
use Rattle.fl_core_run.specs.Run.{SideRelations, TheRun}
use Rattle.fl_core_run.specs.LogEntries.{IsSound, LogEntry, looked, passed, arrived, heard, said, told, opened, called, ruled, wrote, acked, turned, Does, ActsSoundly}
use Rattle.fl_core_run_laws.specs.Logs.{InPlace, Goes}
use Rattle.fl_core_run_laws.specs.Led.{IsLed}
use Rattle.fl_core_run_laws.proofs.Aside.{core_aside}
use Rattle.fl_core_run_laws.proofs.Carrying.{write_put}
use Rattle.fl_core_run_laws.proofs.Laning.{link_at, steps_of, steps_by, event_steps}
use Rattle.fl_core_run_laws.proofs.Leads.{does_led, does_later}
use Rattle.fl_core_run_laws.proofs.Looking.{if_arrived}
use Rattle.fl_core_run_laws.proofs.Stepping.{log_steps}
use Rattle.fl_core_run_laws.proofs.Wending.{event_went}
use Rattle.fl_cores_laws.specs.Named.{Has}
use Rattle.fl_cores_laws.specs.Asked.{IsRequested}
use Rattle.fl_cores_laws.proofs.AskedProgress.{JobAt, job_there, job_before, event_jobs, offers_stay}
use Rattle.fl_cores_laws.proofs.Named.{has_split, has_first, has_last, waits}
use Rattle.fl_cores_laws.proofs.Zero.{said_on, zero_said, carried_zero, says_zero}

-- ---- what lists of steps say

module _ (t : TheCircuits) (k m : ℕ) where
  pub said_heard : (frags : List Frag) → said_on k (steps_of t (hop_heard m) frags) ≡ []
  said_heard [] = refl
  said_heard (f ∷ frags) = said_heard frags

  said_wrote : (e : EndId) (frags : List Frag) → said_on k (steps_of t (hop_wrote e m) frags) ≡ []
  said_wrote e [] = refl
  said_wrote e (f ∷ frags) = said_wrote e frags

  pub said_arrived : (e : EndId) (frags : List Frag) → said_on k (steps_of t (λ f. hop_passed m f (End e)) frags) ≡ []
  said_arrived e [] = refl
  said_arrived e (f ∷ frags) = said_arrived e frags

  pub said_said : (b : Bool) (frags : List Frag) (f : Frag) → (m == k) ≡ b → Has f (said_on k (steps_of t (hop_said m) frags)) → (b ≡ true) × Has f frags
  said_said b [] f is h = absurd h
  said_said true (g ∷ frags) f is h = elim (subst (λ (c : Bool). Has f ((if c then g ∷ [] else []) ++ said_on k (steps_of t (hop_said m) frags))) is h) [
    | inl same ↦ (refl, inl same)
    | inr rest ↦ (refl, inr (said_said true frags f is rest).1)
  ]
  said_said false (g ∷ frags) f is h =
      let rest = said_said false frags f is (subst (λ (c : Bool). Has f ((if c then g ∷ [] else []) ++ said_on k (steps_of t (hop_said m) frags))) is h) in
      (rest.0, inr rest.1)

pub said_by_link : (t : TheCircuits) (k : ℕ) (o : Option LinkId) (e : EndId) (frags : List Frag) → said_on k (steps_by t o e frags) ≡ []
said_by_link t k None e frags = refl
said_by_link t k (Some l) e frags = said_wrote t k l.0 e frags

pub has_taken : (f : Frag) (xs : List Frag) → Has f (take 1 xs) → Has f xs
has_taken f [] h = h
has_taken f (x ∷ xs) (inl same) = inl same
has_taken f (x ∷ xs) (inr none) = absurd none

pub has_rest : (f : Frag) (xs : List Frag) → Has f (drop 1 xs) → Has f xs
has_rest f [] h = h
has_rest f (x ∷ xs) h = inr h

pub has_at : (f : Frag) (xs : List Frag) → Has f xs → (i : ℕ) × (slice_get xs i ≡ Some f)
has_at f [] h = absurd h
has_at f (x ∷ xs) (inl same) = (0, ap Some same)
has_at f (x ∷ xs) (inr rest) = (let (i, at) = has_at f xs rest in (i + 1, plus_one i at)) where
  plus_one : (i : ℕ) → slice_get xs i ≡ Some f → slice_get (x ∷ xs) (i + 1) ≡ Some f
  plus_one i at = (let same : i + 1 ≡ suc i = omega arith in subst (λ (j : ℕ). slice_get (x ∷ xs) j ≡ Some f) (sym same) at)

pub eq_true : (a b : ℕ) → (a == b) ≡ true → b ≡ a
eq_true a b is = grind (arith, nat_tests, is)

-- ---- what becomes of the monitor

pub follows_monitor : (o : Offers) (l : LinkId) (msg : MonitorMessage) (h : MessageOutcome) (k : TheCore) (m : TheMonitor) (answer : MonitorAnswer) (k2 : TheCore)
    → Follows (offering o.programs (offer_for o k msg) l) h (with_monitor k m) answer k2 → k2.monitor ≡ m
follows_monitor o l msg (outcome.ServerMade binding dispatcher c) k m answer k2 f = ap (λ (x : TheCore). x.monitor) f.1.rest
follows_monitor o l msg (outcome.EndOpened e c) k m answer k2 f = by (arriving_at (with_monitor k m) e) f.1 where
  by : (at : Option ArrivalPlace) → BindsIf at c (with_monitor k m) k2 → k2.monitor ≡ m
  by None h = ap (λ (x : TheCore). x.monitor) h
  by (Some at) h = ap (λ (x : TheCore). x.monitor) h.rest
follows_monitor o l msg (outcome.EndRefused e reason) k m answer k2 f = ap (λ (x : TheCore). x.monitor) f.1
follows_monitor o l msg (outcome.OpeningWentOn binding n c) k m answer k2 f = ap (λ (x : TheCore). x.monitor) f.1
follows_monitor o l msg (outcome.OpeningFailed binding reason) k m answer k2 f = ap (λ (x : TheCore). x.monitor) f.1
follows_monitor o l msg (outcome.AnswerWentOn binding n c) k m answer k2 f = ap (λ (x : TheCore). x.monitor) f.1

pub ahead_monitor : {S : Type 0} (w : SideRelations S) (l : ℕ) (k : TheCore) (p : S) (answer : Result LinkFront LinkReceiveFault) (k2 : TheCore) (q : S) → LooksAhead w.takes w.front l (at_side k p) answer (at_side k2 q) → k2.monitor ≡ k.monitor
ahead_monitor w l k p (Ok ahead.Nothing) k2 q h = ap (λ (x : TheCore). x.monitor) h.1
ahead_monitor w l k p (Ok ahead.Acknowledged) k2 q h = ap (λ (x : TheCore). x.monitor) h.1
ahead_monitor w l k p (Ok (ahead.Message frag)) k2 q h = ap (λ (x : TheCore). x.monitor) h.1
ahead_monitor w l k p (Ok (ahead.Onward frag side c)) k2 q h = ap (λ (x : TheCore). x.monitor) h.1
ahead_monitor w l k p (Ok (ahead.Arrival frag e)) k2 q h = ap (λ (x : TheCore). x.monitor) h.1
ahead_monitor w l k p (Err link.Failed) k2 q h = ap (λ (x : TheCore). x.monitor) h.1
ahead_monitor w l k p (Err link.Misrouted) k2 q h = ap (λ (x : TheCore). x.monitor) h.1
ahead_monitor w l k p (Err link.Marked) k2 q h = ap (λ (x : TheCore). x.monitor) h.1
ahead_monitor w l k p (Err (link.Wire f)) k2 q h = absurd h
ahead_monitor w l k p (Err link.Memory) k2 q h = absurd h

pub arrives_monitor : {S : Type 0} (w : SideRelations S) (l : ℕ) (frag : Frag) (e : EndId) (k : TheCore) (p : S) (answer : Result ForwardOutcome LinkReceiveFault) (k2 : TheCore) (q : S)
    → ArrivesAt w.takes (inbound l frag e) (at_side k p) answer (at_side k2 q) → k2.monitor ≡ k.monitor
arrives_monitor w l frag e k p (Ok result) k2 q h = ap (λ (x : TheCore). x.monitor) h.rest
arrives_monitor w l frag e k p (Err link.Misrouted) k2 q h = ap (λ (x : TheCore). x.monitor) h.1
arrives_monitor w l frag e k p (Err link.Failed) k2 q h = absurd h
arrives_monitor w l frag e k p (Err link.Marked) k2 q h = absurd h
arrives_monitor w l frag e k p (Err (link.Wire f)) k2 q h = absurd h
arrives_monitor w l frag e k p (Err link.Memory) k2 q h = absurd h

-- ---- a predicate of what a monitor said and heard, by link, and of the monitor

-- what keeps it, whatever the monitor says and hears
pub record IsKept (R : (ℕ → List Frag) → (ℕ → List Frag) → TheMonitor → Type 0) (jobs : List CoreJob) : Type 0 where
  -- where less was said, or more was heard
  pub wider : (said said2 heard heard2 : ℕ → List Frag) (m : TheMonitor) → ((l : ℕ) (f : Frag) → Has f (said2 l) → Has f (said l))
      → ((l : ℕ) (f : Frag) → Has f (heard l) → Has f (heard2 l)) → R said heard m → R said2 heard2 m
  -- where nothing new is said, and the table is as it was
  pub rests : (said heard said2 : ℕ → List Frag) (m m2 : TheMonitor) → Sound m2.circuits → Later m.circuits m2.circuits → m2.circuits ≡ m.circuits
      → ((l : ℕ) (f : Frag) → Has f (said2 l) ⊎ Has f (waiting_for m2.outboxes l) → (g : Frag) × (bare g ≡ bare f) × (Has g (said l) ⊎ Has g (waiting_for m.outboxes l)))
      → R said heard m → R said2 heard m2
  -- a message is heard
  pub hears : (said heard heard2 : ℕ → List Frag) (m m2 : TheMonitor) → Sound m.circuits → Sound m2.circuits → Later m.circuits m2.circuits → R said heard m
      → ((l : ℕ) (f : Frag) → Has f (heard l) → Has f (heard2 l)) → (l : LinkId) (kn : Known) (frag : Frag) (msg : MonitorMessage) (h : MessageOutcome) → Has frag (heard2 l.0) → Says frag msg
      → ComesTo kn m.circuits l msg h → m2.circuits ≡ table_after m.circuits l msg h → AllSaid (says l msg h) m.outboxes m2.outboxes → R said heard2 m2
  -- a circuit is asked for, for which a job requests
  pub asks : (said heard : ℕ → List Frag) (m m2 : TheMonitor) → Sound m.circuits → Sound m2.circuits → Later m.circuits m2.circuits → R said heard m
      → (l : LinkId) (c : Circuit) (o : Opening) → IsRequested jobs o → next_own m.circuits l.0 ≡ Some c.0 → m2.circuits ≡ opened_table m.circuits l c o.binding
      → IsQueuedMessage (record { link = l; message = asking c o }) m.outboxes m2.outboxes → R said heard m2

-- the same of a core that knows this when it hears a message, and whose own jobs ask for these openings
pub record IsKeptBy (Knows : Known → MonitorMessage → Type 0) (Requests : Opening → Type 0) (R : (ℕ → List Frag) → (ℕ → List Frag) → TheMonitor → Type 0) : Type 0 where
  -- where less was said, or more was heard
  pub wider : (said said2 heard heard2 : ℕ → List Frag) (m : TheMonitor) → ((l : ℕ) (f : Frag) → Has f (said2 l) → Has f (said l))
      → ((l : ℕ) (f : Frag) → Has f (heard l) → Has f (heard2 l)) → R said heard m → R said2 heard2 m
  -- where nothing new is said, and the table is as it was
  pub rests : (said heard said2 : ℕ → List Frag) (m m2 : TheMonitor) → Sound m2.circuits → Later m.circuits m2.circuits → m2.circuits ≡ m.circuits
      → ((l : ℕ) (f : Frag) → Has f (said2 l) ⊎ Has f (waiting_for m2.outboxes l) → (g : Frag) × (bare g ≡ bare f) × (Has g (said l) ⊎ Has g (waiting_for m.outboxes l)))
      → R said heard m → R said2 heard m2
  -- a message is heard
  pub hears : (said heard heard2 : ℕ → List Frag) (m m2 : TheMonitor) → Sound m.circuits → Sound m2.circuits → Later m.circuits m2.circuits → R said heard m
      → ((l : ℕ) (f : Frag) → Has f (heard l) → Has f (heard2 l)) → (l : LinkId) (kn : Known) (frag : Frag) (msg : MonitorMessage) (h : MessageOutcome) → Knows kn msg → Has frag (heard2 l.0) → Says frag msg
      → ComesTo kn m.circuits l msg h → m2.circuits ≡ table_after m.circuits l msg h → AllSaid (says l msg h) m.outboxes m2.outboxes → R said heard2 m2
  -- a circuit is asked for, for which a job here requests
  pub asks : (said heard : ℕ → List Frag) (m m2 : TheMonitor) → Sound m.circuits → Sound m2.circuits → Later m.circuits m2.circuits → R said heard m
      → (l : LinkId) (c : Circuit) (o : Opening) → Requests o → next_own m.circuits l.0 ≡ Some c.0 → m2.circuits ≡ opened_table m.circuits l c o.binding
      → IsQueuedMessage (record { link = l; message = asking c o }) m.outboxes m2.outboxes → R said heard m2

pub kept_by : (Knows : Known → MonitorMessage → Type 0) (R : (ℕ → List Frag) → (ℕ → List Frag) → TheMonitor → Type 0) (jobs : List CoreJob) → IsKept R jobs → IsKeptBy Knows (IsRequested jobs) R
kept_by Knows R jobs kept = record {
  wider = kept.wider;
  rests = kept.rests;
  hears = λ said heard heard2 m m2 sound sound2 later n more l kn frag msg h known has says_it comes is put.
      kept.hears said heard heard2 m m2 sound sound2 later n more l kn frag msg h has says_it comes is put;
  asks = kept.asks;
}

-- what leads over one event from a predicate of before to one of afterwards; here jobs ask for openings that begin on such a link
pub record IsPassedOn (Knows : Known → MonitorMessage → Type 0) (Requests : LinkId → Opening → Type 0) (P R : (ℕ → List Frag) → (ℕ → List Frag) → TheMonitor → Type 0) : Type 0 where
  pub before : (said said2 heard heard2 : ℕ → List Frag) (m : TheMonitor) → ((l : ℕ) (f : Frag) → Has f (said2 l) → Has f (said l))
      → ((l : ℕ) (f : Frag) → Has f (heard l) → Has f (heard2 l)) → P said heard m → P said2 heard2 m
  pub after : (said said2 heard heard2 : ℕ → List Frag) (m : TheMonitor) → ((l : ℕ) (f : Frag) → Has f (said2 l) → Has f (said l))
      → ((l : ℕ) (f : Frag) → Has f (heard l) → Has f (heard2 l)) → R said heard m → R said2 heard2 m
  pub rests : (said heard said2 : ℕ → List Frag) (m m2 : TheMonitor) → Sound m2.circuits → Later m.circuits m2.circuits → m2.circuits ≡ m.circuits
      → ((l : ℕ) (f : Frag) → Has f (said2 l) ⊎ Has f (waiting_for m2.outboxes l) → (g : Frag) × (bare g ≡ bare f) × (Has g (said l) ⊎ Has g (waiting_for m.outboxes l)))
      → P said heard m → R said2 heard m2
  pub hears : (said heard heard2 : ℕ → List Frag) (m m2 : TheMonitor) → Sound m.circuits → Sound m2.circuits → Later m.circuits m2.circuits → P said heard m
      → ((l : ℕ) (f : Frag) → Has f (heard l) → Has f (heard2 l)) → (l : LinkId) (kn : Known) (frag : Frag) (msg : MonitorMessage) (h : MessageOutcome) → Knows kn msg → Has frag (heard2 l.0) → Says frag msg
      → ComesTo kn m.circuits l msg h → m2.circuits ≡ table_after m.circuits l msg h → AllSaid (says l msg h) m.outboxes m2.outboxes → R said heard2 m2
  pub asks : (said heard : ℕ → List Frag) (m m2 : TheMonitor) → Sound m.circuits → Sound m2.circuits → Later m.circuits m2.circuits → P said heard m
      → (l : LinkId) (c : Circuit) (o : Opening) → Requests l o → next_own m.circuits l.0 ≡ Some c.0 → m2.circuits ≡ opened_table m.circuits l c o.binding
      → IsQueuedMessage (record { link = l; message = asking c o }) m.outboxes m2.outboxes → R said heard m2

pub kept_on : (Knows : Known → MonitorMessage → Type 0) (Requests : Opening → Type 0) (R : (ℕ → List Frag) → (ℕ → List Frag) → TheMonitor → Type 0) → IsKeptBy Knows Requests R → IsPassedOn Knows (λ l o. Requests o) R R
kept_on Knows Requests R kept = record { before = kept.wider; after = kept.wider; rests = kept.rests; hears = kept.hears; asks = kept.asks }

-- ---- one event

-- a message that is heard is taken on circuit 0
pub took_heard : (t : TheCircuits) (l : LinkId) (frag : Frag) (msg : MonitorMessage) → Says frag msg → Has (as_carried (bare frag)) (of_circuit 0 (taken_from l.0 (steps_of t (hop_heard l.0) (frag ∷ []))))
took_heard t l frag msg says_it =
    let one : taken_from l.0 (steps_of t (hop_heard l.0) (frag ∷ [])) ≡ bare frag ∷ [] = ap (λ (b : Bool). (if b then bare frag ∷ [] else []) ++ []) (is_eq l.0 l.0 refl) in
    subst (λ (xs : List Frag). Has (as_carried (bare frag)) xs) (sym (ap (of_circuit 0) one ∙ says_zero frag msg says_it)) (inl refl)

-- with what a list of steps put and took on circuit 0
abbrev pub then_said : (ℕ → List Frag) → List TableStep → ℕ → List Frag
then_said so steps l = so l ++ of_circuit 0 (put_on l steps)

abbrev pub then_heard : (ℕ → List Frag) → List TableStep → ℕ → List Frag
then_heard so steps l = so l ++ of_circuit 0 (taken_from l steps)

module _ {Knows : Known → MonitorMessage → Type 0} {Requests : LinkId → Opening → Type 0} (P R : (ℕ → List Frag) → (ℕ → List Frag) → TheMonitor → Type 0) (jobs : List CoreJob) (kept : IsPassedOn Knows Requests P R) (said_so heard_so : ℕ → List Frag) (k k2 : TheCore)
    (sound2 : Sound k2.monitor.circuits) (later : Later k.monitor.circuits k2.monitor.circuits) (steps : List TableStep) (went : goes_through k.monitor.circuits steps k2.monitor.circuits) where
  abbrev Then : Type 0
  Then = R (then_said said_so steps) (then_heard heard_so steps) k2.monitor

  heard_more : (l : ℕ) (f : Frag) → Has f (heard_so l) → Has f (then_heard heard_so steps l)
  heard_more l f h = has_first f (heard_so l) (of_circuit 0 (taken_from l steps)) h

  said_before : ((l : ℕ) → said_on l steps ≡ []) → (l : ℕ) (f : Frag) → Has f (then_said said_so steps l) → Has f (said_so l)
  said_before none l f h = elim (has_split f (said_so l) (of_circuit 0 (put_on l steps)) h) [
    | inl old ↦ old
    | inr new ↦ (let x = zero_said k.monitor.circuits steps k2.monitor.circuits went l f new in absurd (subst (Has x.frag) (none l) x.has))
  ]

  rests_then : k2.monitor.circuits ≡ k.monitor.circuits
      → ((l : ℕ) (f : Frag) → Has f (then_said said_so steps l) ⊎ Has f (waiting_for k2.monitor.outboxes l)
      → (g : Frag) × (bare g ≡ bare f) × (Has g (said_so l) ⊎ Has g (waiting_for k.monitor.outboxes l)))
      → P said_so heard_so k.monitor → Then
  rests_then same from n =
      kept.rests said_so (then_heard heard_so steps) (then_said said_so steps) k.monitor k2.monitor sound2 later same from
      (kept.before said_so said_so heard_so (then_heard heard_so steps) k.monitor (λ l f h. h) heard_more n)

  -- the monitor is as it was, and said nothing
  unchanged : k2.monitor ≡ k.monitor → ((l : ℕ) → said_on l steps ≡ []) → P said_so heard_so k.monitor → Then
  unchanged same none =
      rests_then (ap (λ (m : TheMonitor). m.circuits) same)
      (λ l f h. (
        f,
        refl,
        elim h [
          | inl a ↦ inl (said_before none l f a)
          | inr b ↦ inr (subst (λ (m : TheMonitor). Has f (waiting_for m.outboxes l)) same b)
        ],
      ))

  -- the monitor put what waited first for a link
  module _ (l : LinkId) (rest : k2.monitor ≡ without_first l.0 k.monitor) (zero : (i : ℕ) (f : Frag) → slice_get (waiting_for k.monitor.outboxes l.0) i ≡ Some f → circuit_of f.control ≡ 0)
      (from : (i : ℕ) (f : Frag) → Has f (said_on i steps) → (i ≡ l.0) × Has f (waiting_for k.monitor.outboxes l.0)) where
    waited : (f g : Frag) → Has g (waiting_for k.monitor.outboxes l.0) → as_carried (bare g) ≡ f → bare g ≡ bare f
    waited f g h is =
        let (i, at) = has_at g (waiting_for k.monitor.outboxes l.0) h in
        sym (ap bare (sym is) ∙ carried_zero g (zero i g at))

    said_first : P said_so heard_so k.monitor → Then
    said_first =
        rests_then (ap (λ (m : TheMonitor). m.circuits) rest)
        (λ i f h. elim h [
          | inl a ↦ elim (has_split f (said_so i) (of_circuit 0 (put_on i steps)) a) [
            | inl old ↦ (f, refl, inl old)
            | inr new ↦ (let x = zero_said k.monitor.circuits steps k2.monitor.circuits went i f new in
                let (same, w) = from i x.frag x.has in
                (x.frag, waited f x.frag w x.is, inr (subst (λ (j : ℕ). Has x.frag (waiting_for k.monitor.outboxes j)) (sym same) w)))
          ]
          | inr b ↦ (
            f,
            refl,
            inr (elim (waits f k.monitor.outboxes l.0 (drop 1 (waiting_for k.monitor.outboxes l.0)) i (subst (λ (m : TheMonitor). Has f (waiting_for m.outboxes i)) rest b)) [
              | inl old ↦ old
              | inr p ↦ subst (λ (j : ℕ). Has f (waiting_for k.monitor.outboxes j)) (sym p.0) (has_rest f (waiting_for k.monitor.outboxes l.0) p.1)
            ]),
          )
        ])

  -- said nothing: what stands in the list of before
  same_said : ((l : ℕ) → said_on l steps ≡ []) → R said_so (then_heard heard_so steps) k2.monitor → Then
  same_said none n = kept.after said_so (then_said said_so steps) (then_heard heard_so steps) (then_heard heard_so steps) k2.monitor (said_before none) (λ l f h. h) n

module _ {Knows : Known → MonitorMessage → Type 0} {Requests : LinkId → Opening → Type 0} (P R : (ℕ → List Frag) → (ℕ → List Frag) → TheMonitor → Type 0) (jobs : List CoreJob) (kept : IsPassedOn Knows Requests P R) {S : Type 0} (w : SideRelations S)
    (on : OnAnotherCircuit) (said_so heard_so : ℕ → List Frag)
    (s m : TheRun S) (core : IsCore s.core) (sound : Sound s.core.monitor.circuits) (sound2 : Sound m.core.monitor.circuits) (led : IsLed s.core)
    (knows : (msg : MonitorMessage) → Knows (known_for s.offers s.core msg) msg) (own : (name : EndId) (request : OpenRequest) (e : ℕ) → InPlace jobs s (opened name request (Ok e)) → Does w (opened name request (Ok e)) s m → Requests request.link request.opening) (holds : P said_so heard_so s.core.monitor) where
  abbrev After : (log_entry : LogEntry) → InPlace jobs s log_entry → Does w log_entry s m → Type 0
  After log_entry by h = R (then_said said_so (event_steps w jobs log_entry s m by h)) (then_heard heard_so (event_steps w jobs log_entry s m by h)) m.core.monitor

  module _ (log_entry : LogEntry) (by : InPlace jobs s log_entry) (acts : ActsSoundly log_entry s) (h : Does w log_entry s m) where
    onward : Later s.core.monitor.circuits m.core.monitor.circuits
    onward = (does_later w jobs s m core sound led log_entry by h).later

    went_by : goes_through s.core.monitor.circuits (event_steps w jobs log_entry s m by h) m.core.monitor.circuits
    went_by = event_went w jobs on s m core sound led log_entry by acts h

    quiet : m.core.monitor ≡ s.core.monitor → ((l : ℕ) → said_on l (event_steps w jobs log_entry s m by h) ≡ []) → After log_entry by h
    quiet same none = unchanged P R jobs kept said_so heard_so s.core m.core sound2 onward (event_steps w jobs log_entry s m by h) went_by same none holds

    -- and there are no steps
    rest_steps : event_steps w jobs log_entry s m by h ≡ [] → m.core.monitor ≡ s.core.monitor → After log_entry by h
    rest_steps none same = quiet same (λ l. ap (said_on l) none)

  -- ---- a message

  module _ (l : LinkId) (frag : Frag) (msg : MonitorMessage) (says_it : Says frag msg) where
    abbrev steps_heard : List TableStep
    steps_heard = steps_of s.core.monitor.circuits (hop_heard l.0) (frag ∷ [])

    hears_all : circuit_of frag.control ≡ 0 → (answer : MonitorAnswer) → Later s.core.monitor.circuits m.core.monitor.circuits
        → goes_through s.core.monitor.circuits steps_heard m.core.monitor.circuits → HearsAll s.offers l msg s.core answer m.core
        → R (then_said said_so steps_heard) (then_heard heard_so steps_heard) m.core.monitor
    hears_all zero answer later went h =
        let same = follows_monitor s.offers l msg h.heard s.core h.monitor answer m.core h.follows in
        let more = heard_more P R jobs kept said_so heard_so s.core m.core sound2 later steps_heard went in
        let now : Says (as_carried (bare frag)) msg = says_the_same frag (as_carried (bare frag)) msg (carried_zero frag zero) says_it in
        let new = kept.hears said_so heard_so (then_heard heard_so steps_heard) s.core.monitor m.core.monitor sound sound2 later holds more l
        (known_for s.offers s.core msg) (as_carried (bare frag)) msg h.heard (knows msg)
        (has_last (as_carried (bare frag)) (heard_so l.0) (of_circuit 0 (taken_from l.0 steps_heard)) (took_heard s.core.monitor.circuits l frag msg says_it)) now h.hears.0
        (ap (λ (x : TheMonitor). x.circuits) same ∙ h.hears.2) (subst (λ (x : TheMonitor). AllSaid (says l msg h.heard) s.core.monitor.outboxes x.outboxes) (sym same) h.hears.3) in
        same_said P R jobs kept said_so heard_so s.core m.core sound2 later steps_heard went (λ i. said_heard s.core.monitor.circuits i l.0 (frag ∷ [])) new

  -- ---- each event

  hears : (n : ℕ) (l : LinkId) (frag : Frag) (answer : Result MonitorAnswer LinkReceiveFault) (by : InPlace jobs s (heard n l frag answer)) (h : Does w (heard n l frag answer) s m) → After (heard n l frag answer) by h
  hears n l frag (Ok heard_as.Full) by h = rest_steps (heard n l frag (Ok heard_as.Full)) by tt h refl (ap (λ (x : TheCore). x.monitor) h.event.0.2.1)
  hears n l frag (Ok heard_as.Done) by h =
      hears_all l frag h.event.0.0 h.event.0.1 by.1 heard_as.Done (onward (heard n l frag (Ok heard_as.Done)) by tt h) (went_by (heard n l frag (Ok heard_as.Done)) by tt h) h.event.0.2
  hears n l frag (Ok (heard_as.Opened e)) by h =
      hears_all l frag h.event.0.0 h.event.0.1 by.1 (heard_as.Opened e) (onward (heard n l frag (Ok (heard_as.Opened e))) by tt h) (went_by (heard n l frag (Ok (heard_as.Opened e))) by tt h) h.event.0.2
  hears n l frag (Ok (heard_as.OpeningRefused e reason)) by h =
      hears_all l frag h.event.0.0 h.event.0.1 by.1 (heard_as.OpeningRefused e reason) (onward (heard n l frag (Ok (heard_as.OpeningRefused e reason))) by tt h)
      (went_by (heard n l frag (Ok (heard_as.OpeningRefused e reason))) by tt h) h.event.0.2
  hears n l frag (Err (link.Wire wiring.Memory)) by h = absurd h.event.0
  hears n l frag (Err (link.Wire wiring.NotFirst)) by h = rest_steps (heard n l frag (Err (link.Wire wiring.NotFirst))) by tt h refl (ap (λ (x : TheCore). x.monitor) h.event.0.1)
  hears n l frag (Err (link.Wire wiring.FirstInside)) by h = rest_steps (heard n l frag (Err (link.Wire wiring.FirstInside))) by tt h refl (ap (λ (x : TheCore). x.monitor) h.event.0.1)
  hears n l frag (Err (link.Wire wiring.UnknownMessage)) by h = rest_steps (heard n l frag (Err (link.Wire wiring.UnknownMessage))) by tt h refl (ap (λ (x : TheCore). x.monitor) h.event.0.1)
  hears n l frag (Err (link.Wire wiring.NotZero)) by h = rest_steps (heard n l frag (Err (link.Wire wiring.NotZero))) by tt h refl (ap (λ (x : TheCore). x.monitor) h.event.0.1)
  hears n l frag (Err (link.Wire wiring.OutOfType)) by h = rest_steps (heard n l frag (Err (link.Wire wiring.OutOfType))) by tt h refl (ap (λ (x : TheCore). x.monitor) h.event.0.1)
  hears n l frag (Err (link.Wire wiring.TooLong)) by h = rest_steps (heard n l frag (Err (link.Wire wiring.TooLong))) by tt h refl (ap (λ (x : TheCore). x.monitor) h.event.0.1)
  hears n l frag (Err link.Memory) by h = rest_steps (heard n l frag (Err link.Memory)) by tt h refl (ap (λ (x : TheCore). x.monitor) h.event.0)
  hears n l frag (Err link.Failed) by h = absurd h.event.0.2
  hears n l frag (Err link.Misrouted) by h = rest_steps (heard n l frag (Err link.Misrouted)) by tt h refl (ap (λ (x : TheCore). x.monitor) h.event.0.2.1)
  hears n l frag (Err link.Marked) by h = absurd h.event.0.2

  says_first : (n : ℕ) (l : LinkId) (answer : MonitorWrite) (by : InPlace jobs s (said n l answer)) (h : Does w (said n l answer) s m) → After (said n l answer) by h
  says_first n l said_as.Written by h =
      said_first P R jobs kept said_so heard_so s.core m.core sound2 (onward (said n l said_as.Written) by tt h) (event_steps w jobs (said n l said_as.Written) s m by h)
      (went_by (said n l said_as.Written) by tt h) l (ap (λ (x : TheCore). x.monitor) h.event.4) (led.says l.0)
      (λ i f has. (let both = said_said s.core.monitor.circuits i l.0 (l.0 == i) (take 1 (waiting_for s.core.monitor.outboxes l.0)) f refl has in
      (eq_true l.0 i both.0, has_taken f (waiting_for s.core.monitor.outboxes l.0) both.1))) holds
  says_first n l said_as.Full by h = rest_steps (said n l said_as.Full) by tt h refl (ap (λ (x : TheCore). x.monitor) h.event.2)
  says_first n l said_as.Spent by h = rest_steps (said n l said_as.Spent) by tt h refl (ap (λ (x : TheCore). x.monitor) h.event.2)
  says_first n l said_as.Nothing by h = rest_steps (said n l said_as.Nothing) by tt h refl (ap (λ (x : TheCore). x.monitor) h.event.1)

  -- a circuit is asked for
  asks_made : (a : Asked) (e : ℕ) → Requests a.link a.opening → Later s.core.monitor.circuits m.core.monitor.circuits
      → goes_through s.core.monitor.circuits [] m.core.monitor.circuits → Asks a s.core (Ok e) m.core → R (then_said said_so []) (then_heard heard_so []) m.core.monitor
  asks_made a e requested later went h =
      let new = kept.asks said_so heard_so s.core.monitor m.core.monitor sound sound2 later holds a.link h.circuit a.opening requested h.opens.2 h.opens.3 h.opens.4 in
      kept.after said_so (then_said said_so []) heard_so (then_heard heard_so []) m.core.monitor (said_before P R jobs kept said_so heard_so s.core m.core sound2 later [] went (λ i. refl))
      (heard_more P R jobs kept said_so heard_so s.core m.core sound2 later [] went) new

  asks_refused : (a : Asked) (fault : OpenFault) → Later s.core.monitor.circuits m.core.monitor.circuits → goes_through s.core.monitor.circuits [] m.core.monitor.circuits
      → Asks a s.core (Err fault) m.core → R (then_said said_so []) (then_heard heard_so []) m.core.monitor
  asks_refused a (opening.Board fault) later went h =
      unchanged P R jobs kept said_so heard_so s.core m.core sound2 later [] went (ap (λ (x : TheCore). x.monitor) h.1) (λ i. refl) holds
  asks_refused a (opening.Monitor fault) later went h =
      unchanged P R jobs kept said_so heard_so s.core m.core sound2 later [] went (ap (λ (x : TheCore). x.monitor) h.2) (λ i. refl) holds

  pub does_pass : (log_entry : LogEntry) (by : InPlace jobs s log_entry) → ActsSoundly log_entry s → (h : Does w log_entry s m) → After log_entry by h
  does_pass (looked n l answer) by acts h = rest_steps (looked n l answer) by acts h refl (ahead_monitor w l.0 s.core h.before answer m.core h.after h.event)
  does_pass (passed n i frag c Moved) by acts h = quiet (passed n i frag c Moved) by acts h (ap (λ (x : TheCore). x.monitor) (h.2.event.1 ∙ h.1.event.1)) (λ l. refl)
  does_pass (passed n i frag c Full) by acts h = rest_steps (passed n i frag c Full) by acts h refl (ap (λ (x : TheCore). x.monitor) h.event.1)
  does_pass (passed n i frag c Spent) by acts h = rest_steps (passed n i frag c Spent) by acts h refl (ap (λ (x : TheCore). x.monitor) h.event.1)
  does_pass (arrived n l frag e answer) by acts h =
      quiet (arrived n l frag e answer) by acts h (arrives_monitor w l.0 frag e s.core h.before answer m.core h.after h.event) (λ i. said_arrived s.core.monitor.circuits i l.0 e (if_arrived answer frag))
  does_pass (heard n l frag answer) by acts h = hears n l frag answer by h
  does_pass (said n l answer) by acts h = says_first n l answer by h
  does_pass (told n l answer) by acts h = rest_steps (told n l answer) by acts h refl (ap (λ (x : TheCore). x.monitor) h.event.1)
  does_pass (opened name request (Ok e)) by acts h =
      asks_made (asked request.dispatcher h.event.program request.link request.opening) e (own name request e by h) (onward (opened name request (Ok e)) by acts h)
      (went_by (opened name request (Ok e)) by acts h) h.event.asks
  does_pass (opened name request (Err fault)) by acts h =
      asks_refused (asked request.dispatcher h.event.program request.link request.opening) fault (onward (opened name request (Err fault)) by acts h)
      (went_by (opened name request (Err fault)) by acts h) h.event.asks
  does_pass (called name c answer) by acts h = rest_steps (called name c answer) by acts h refl (ap (λ (x : TheCore). x.monitor) h.2.event.rest)
  does_pass (ruled name msg reply answer) by acts h = rest_steps (ruled name msg reply answer) by acts h refl (ap (λ (x : TheCore). x.monitor) h.2.event.rest)
  does_pass (wrote name (outlet.Queue n) answer) by acts h =
      quiet (wrote name (outlet.Queue n) answer) by acts h (ap (λ (x : TheCore). x.monitor) h.2.event.rest) (λ l. said_by_link s.core.monitor.circuits l (link_at s.core h.0) name (write_put w h.0 (outlet.Queue n) answer s m h.2))
  does_pass (wrote name (outlet.Side n) answer) by acts h =
      quiet (wrote name (outlet.Side n) answer) by acts h (ap (λ (x : TheCore). x.monitor) h.2.event.rest) (λ l. said_by_link s.core.monitor.circuits l (link_at s.core h.0) name (write_put w h.0 (outlet.Side n) answer s m h.2))
  does_pass (acked name n answer) by acts h = rest_steps (acked name n answer) by acts h refl (ap (λ (x : TheCore). x.monitor) h.2.event.1)
  does_pass (turned d name (inlet.Queue n) answer) by acts h = rest_steps (turned d name (inlet.Queue n) answer) by acts h refl (ap (λ (x : TheCore). x.monitor) h.3.event.rest)
  does_pass (turned d name (inlet.Side n) answer) by acts h = rest_steps (turned d name (inlet.Side n) answer) by acts h refl (ap (λ (x : TheCore). x.monitor) h.3.event.rest)
  does_pass (turned d name inlet.Arrivals answer) by acts h = rest_steps (turned d name inlet.Arrivals answer) by acts h refl (ap (λ (x : TheCore). x.monitor) h.3.event.rest)

module _ {Knows : Known → MonitorMessage → Type 0} {Requests : Opening → Type 0} (R : (ℕ → List Frag) → (ℕ → List Frag) → TheMonitor → Type 0) (jobs : List CoreJob) (kept : IsKeptBy Knows Requests R) {S : Type 0} (w : SideRelations S)
    (on : OnAnotherCircuit) (said_so heard_so : ℕ → List Frag)
    (s m : TheRun S) (core : IsCore s.core) (sound : Sound s.core.monitor.circuits) (sound2 : Sound m.core.monitor.circuits) (led : IsLed s.core)
    (knows : (msg : MonitorMessage) → Knows (known_for s.offers s.core msg) msg) (own : (name : EndId) (request : OpenRequest) → JobAt jobs s name request → Requests request.opening) (holds : R said_so heard_so s.core.monitor) where
  pub does_keep : (log_entry : LogEntry) (by : InPlace jobs s log_entry) → ActsSoundly log_entry s → (h : Does w log_entry s m)
      → R (then_said said_so (event_steps w jobs log_entry s m by h)) (then_heard heard_so (event_steps w jobs log_entry s m by h)) m.core.monitor
  does_keep log_entry by acts h =
      does_pass R R jobs (kept_on Knows Requests R kept) w on said_so heard_so s m core sound sound2 led knows (λ name request e there does. own name request (job_there jobs s name request there.0)) holds log_entry by acts h

-- ---- a log

pub put_joins : (l : ℕ) (xs ys : List TableStep) → put_on l (xs ++ ys) ≡ put_on l xs ++ put_on l ys
put_joins l [] ys = refl
put_joins l (x ∷ xs) ys = ap (λ (fs : List Frag). put_by l x.circuit_event ++ fs) (put_joins l xs ys) ∙ sym (append_assoc (put_by l x.circuit_event) (put_on l xs) (put_on l ys))

pub took_joins : (l : ℕ) (xs ys : List TableStep) → taken_from l (xs ++ ys) ≡ taken_from l xs ++ taken_from l ys
took_joins l [] ys = refl
took_joins l (x ∷ xs) ys = ap (λ (fs : List Frag). taken_by l x.circuit_event ++ fs) (took_joins l xs ys) ∙ sym (append_assoc (taken_by l x.circuit_event) (taken_from l xs) (taken_from l ys))

pub said_joins : (so : ℕ → List Frag) (xs ys : List TableStep) (l : ℕ) → then_said so (xs ++ ys) l ≡ then_said (then_said so xs) ys l
said_joins so xs ys l =
    ap (λ (fs : List Frag). so l ++ of_circuit 0 fs) (put_joins l xs ys) ∙ ap (λ (fs : List Frag). so l ++ fs) (of_join 0 (put_on l xs) (put_on l ys))
    ∙ sym (append_assoc (so l) (of_circuit 0 (put_on l xs)) (of_circuit 0 (put_on l ys)))

pub heard_joins : (so : ℕ → List Frag) (xs ys : List TableStep) (l : ℕ) → then_heard so (xs ++ ys) l ≡ then_heard (then_heard so xs) ys l
heard_joins so xs ys l =
    ap (λ (fs : List Frag). so l ++ of_circuit 0 fs) (took_joins l xs ys) ∙ ap (λ (fs : List Frag). so l ++ fs) (of_join 0 (taken_from l xs) (taken_from l ys))
    ∙ sym (append_assoc (so l) (of_circuit 0 (taken_from l xs)) (of_circuit 0 (taken_from l ys)))

module _ {Knows : Known → MonitorMessage → Type 0} {Requests : Opening → Type 0} (R : (ℕ → List Frag) → (ℕ → List Frag) → TheMonitor → Type 0) (jobs : List CoreJob) (kept : IsKeptBy Knows Requests R) {S : Type 0} (w : SideRelations S)
    (on : OnAnotherCircuit) where
  sound_first : (log : List LogEntry) (s t : TheRun S) → Goes w jobs s log t → Sound t.core.monitor.circuits → Sound s.core.monitor.circuits
  sound_first [] s t h sound = subst (λ (x : TheRun S). Sound x.core.monitor.circuits) h sound
  sound_first (log_entry ∷ log) s t h sound = h.1.3.table

  -- over a whole log it is kept
  pub log_keeps_by : (log : List LogEntry) (s t : TheRun S) (h : Goes w jobs s log t) (said_so heard_so : ℕ → List Frag)
      → ((u : TheRun S) (rest : List LogEntry) → Goes w jobs u rest t → IsSound u.core → u.offers ≡ s.offers → (msg : MonitorMessage) → Knows (known_for u.offers u.core msg) msg)
      → ((name : EndId) (request : OpenRequest) → JobAt jobs s name request → Requests request.opening) → IsLed s.core → Sound t.core.monitor.circuits → R said_so heard_so s.core.monitor
      → R (then_said said_so (log_steps w jobs log s t h)) (then_heard heard_so (log_steps w jobs log s t h)) t.core.monitor
  log_keeps_by [] s t h said_so heard_so knows own led sound n =
      kept.wider said_so (then_said said_so []) heard_so (then_heard heard_so []) t.core.monitor
      (λ l f has. elim (has_split f (said_so l) [] has) [ inl a ↦ a | inr b ↦ absurd b ])
      (λ l f has. has_first f (heard_so l) [] has) (subst (λ (x : TheRun S). R said_so heard_so x.core.monitor) (sym h) n)
  log_keeps_by (log_entry ∷ log) s t h said_so heard_so knows own led sound n =
      let m = h.1.0 in
      let u = h.0 in
      let aside : u.core ≡ m.core = core_aside m u log_entry h.1.2 in
      let first = event_steps w jobs log_entry s m h.2 h.1.1 in
      let rest = log_steps w jobs log u t h.3 in
      let sound_u = sound_first log u t h.3 sound in
      let sound_m : Sound m.core.monitor.circuits = subst (λ (k : TheCore). Sound k.monitor.circuits) aside sound_u in
      let one = does_keep R jobs kept w on said_so heard_so s m h.1.3.core h.1.3.table sound_m led (knows s (log_entry ∷ log) h h.1.3 refl) own n log_entry h.2 h.1.4 h.1.1 in
      let now : R (then_said said_so first) (then_heard heard_so first) u.core.monitor = subst (λ (k : TheCore). R (then_said said_so first) (then_heard heard_so first) k.monitor) (sym aside) one in
      let led_u : IsLed u.core = subst IsLed (sym aside) (does_led w jobs s m h.1.3.core h.1.3.table led log_entry h.2 h.1.1) in
      let still = λ (v : TheRun S) (later_on : List LogEntry) (g : Goes w jobs v later_on t) (well : IsSound v.core) (same : v.offers ≡ u.offers) (msg : MonitorMessage).
      knows v later_on g well (same ∙ offers_stay w log_entry s m u h.1.1 h.1.2) msg in
      let all = log_keeps_by log u t h.3 (then_said said_so first) (then_heard heard_so first) still (λ name request a. own name request (job_before jobs s u name request (event_jobs w log_entry s m u h.1.1 h.1.2) a)) led_u sound now in
      kept.wider (then_said (then_said said_so first) rest) (then_said said_so (first ++ rest)) (then_heard (then_heard heard_so first) rest) (then_heard heard_so (first ++ rest)) t.core.monitor
      (λ l f has. subst (Has f) (said_joins said_so first rest l) has) (λ l f has. subst (Has f) (sym (heard_joins heard_so first rest l)) has) all

-- the same, whatever the core offers
pub log_keeps : (R : (ℕ → List Frag) → (ℕ → List Frag) → TheMonitor → Type 0) (jobs : List CoreJob) → IsKept R jobs → {S : Type 0} (w : SideRelations S) → OnAnotherCircuit
    → (log : List LogEntry) (s t : TheRun S) (h : Goes w jobs s log t) (said_so heard_so : ℕ → List Frag) → IsLed s.core → Sound t.core.monitor.circuits → R said_so heard_so s.core.monitor
    → R (then_said said_so (log_steps w jobs log s t h)) (then_heard heard_so (log_steps w jobs log s t h)) t.core.monitor
log_keeps R jobs kept w on log s t h said_so heard_so led sound n =
    log_keeps_by R jobs (kept_by (λ kn msg. Unit {0}) R jobs kept) w on log s t h said_so heard_so (λ u rest g board same msg. tt)
    (λ name request a. record { place = a.place; request = request; job_is = a.job_is; opening_is = refl }) led sound n
