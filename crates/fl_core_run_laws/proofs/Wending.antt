-- What goes over a core's links by one event goes as its table leads.
use Rattle.std.proofs.Common.{◌≡◌, refl, sym, ap, ◌∙◌, ℕ, zero, suc, ◌+◌, ◌-◌, ◌*◌, ◌^◌, ◌<◌, List, [], ◌∷◌, map, drop, slice_get}
use Rattle.std.proofs.Common.{Option, Some, None, IsSome, Result, Ok, Err, arith, rules}
use Rattle.fl_base.specs.declared.fragment.Frag.{Frag}
use Rattle.fl_base.specs.declared.identity.EndId.{EndId}
use Rattle.fl_base.specs.declared.identity.LinkId.{LinkId}
use Rattle.fl_base.specs.Control.{circuit_of, with_circuit}
use Rattle.fl_base.specs.Given.{given}
use Rattle.fl_value_data.specs.Value.{TheCall}
use Rattle.fl_compile.specs.Programs.{program_of}
use Rattle.fl_link.specs.Looks.{Look}
use Rattle.fl_link.specs.Queue.{QueuePuts}
use Rattle.fl_hop.specs.declared.entry.HopTarget.TheVariants.{End}
use Rattle.fl_hop.specs.declared.forward.ForwardOutcome.{ForwardOutcome}
use Rattle.fl_hop.specs.declared.forward.ForwardOutcome.TheVariants.{Moved, Full, Spent}
use Rattle.fl_hop.specs.Joined.{Sound}
use Rattle.fl_hop.specs.Later.{Later, way_at}
use Rattle.fl_hop.specs.Stretch.{CircuitEvent as HopEvent, passed as hop_passed, wrote as hop_wrote, said as hop_said, heard as hop_heard, AsLed, goes_through}
use Rattle.fl_hop.specs.Table.{TheCircuits}
use Rattle.fl_hop.proofs.Laws.{later_same}
use Rattle.fl_hop.proofs.Lists.{take_within, push_keeps}
use Rattle.fl_endpoint.specs.View.{TheEnd, TheOutgoing, number_or_0, frags_from}
use Rattle.fl_endpoint.specs.Accounts.{Sound as IsEnd, IsLeft, stream_from}
use Rattle.fl_endpoint.specs.Laws.{OnAnotherCircuit}
use Rattle.fl_endpoint.specs.Events.{Writes}
use Rattle.fl_endpoint.specs.declared.fault.EndFault.{EndFault}
use Rattle.fl_endpoint.specs.declared.answer.WriteAnswer.{WriteAnswer}
use Rattle.fl_endpoint.specs.declared.answer.WriteAnswer.TheVariants.{Written, Full as NoRoom, Nothing}
use Rattle.fl_core.specs.BoardView.{TheEndAtChannel}
use Rattle.fl_monitor.specs.Monitors.{waiting_for}
use Rattle.fl_core.specs.View.{TheCore, place_of}
use Rattle.fl_core.specs.Sound.{IsCore}
use Rattle.fl_core.specs.declared.answer.MonitorWrite.{MonitorWrite}
use Rattle.fl_core.specs.declared.answer.MonitorWrite.TheVariants as said_as
use Rattle.fl_core.specs.declared.answer.MonitorAnswer.{MonitorAnswer}
use Rattle.fl_core.specs.declared.answer.MonitorAnswer.TheVariants as heard_as
use Rattle.fl_core.specs.declared.fault.LinkReceiveFault.{LinkReceiveFault}
use Rattle.fl_core.specs.declared.wiring.WiredEnd.{WiredEnd}
use Rattle.fl_core.specs.declared.wiring.EndWiring.{EndWiring}
use Rattle.fl_core.specs.declared.wiring.EndWiring.TheVariants.{Queues, Ring, Circuit}
use Rattle.fl_core.specs.declared.wiring.Outlet.TheVariants as outlet
use Rattle.fl_core.specs.declared.core_job.CoreJob.{CoreJob}
use Rattle.fl_core_run.specs.Run.{SideRelations, TheRun}
use Rattle.fl_core_run.specs.LogEntries.{LogEntry, looked, passed, arrived, heard, said, told, opened, called, ruled, wrote, acked, turned, Does, ActsSoundly}
use Rattle.fl_core_run_laws.specs.Logs.{InPlace}
use Rattle.fl_core_run_laws.specs.Led.{IsLed}
use Rattle.fl_core_run_laws.proofs.Laning.{some_is, link_by, link_at, steps_of, steps_by, event_steps}
use Rattle.fl_core_run_laws.proofs.Leading.{map_there}
use Rattle.fl_core_run_laws.proofs.Leads.{one_name, does_later}
use Rattle.fl_core_run_laws.proofs.Looking.{if_arrived, if_heard, if_said, if_wrote}
use Rattle.fl_core_run_laws.proofs.Tables.{way_of}

-- ---- the fragments of calls are on the end's circuit

circuit_set : (w circuit : ℕ) → circuit < 2 ^ 16 → circuit_of (w - 2 ^ 32 * circuit_of w + 2 ^ 32 * circuit) ≡ circuit
circuit_set w circuit few = omega (arith, few)

-- a fragment that setting its circuit leaves is on that circuit
set_circuit : (circuit : ℕ) (f : Frag) → circuit < 2 ^ 16 → with_circuit circuit f ≡ f → circuit_of f.control ≡ circuit
set_circuit circuit f few same = ap (λ (x : Frag). circuit_of x.control) (sym same) ∙ circuit_set f.control circuit few

drop_within : {X : Type 0} (n : ℕ) (xs : List X) (i : ℕ) (x : X) → slice_get (drop n xs) i ≡ Some x → (j : ℕ) × (slice_get xs j ≡ Some x)
drop_within zero xs i x h = (i, h)
drop_within (suc n) [] i x h = (i, h)
drop_within (suc n) (y ∷ xs) i x h = let (j, at) = drop_within n xs i x h in (suc j, at)

left_circuit : (s : TheEnd) (number : ℕ) (calls : List TheCall) (o : TheOutgoing) → IsLeft (frags_from s) number calls o → map (with_circuit (number_or_0 s.circuit)) (stream_from s calls) ≡ stream_from s calls
    → number_or_0 s.circuit < 2 ^ 16 → (i : ℕ) (f : Frag) → slice_get o.unwritten i ≡ Some f → circuit_of f.control ≡ number_or_0 s.circuit
left_circuit s number [] o left own few i f at =
    absurd (let no : None ≡ Some f = sym (ap (λ (x : TheOutgoing). slice_get x.unwritten i) left) ∙ at in cc)
left_circuit s number (c ∷ calls) o left own few i f at =
    let (j, there) = drop_within number (frags_from s c) i f (sym (ap (λ (x : TheOutgoing). slice_get x.unwritten i) left.1) ∙ at) in
    let stands : slice_get (stream_from s (c ∷ calls)) j ≡ Some f = push_keeps (frags_from s c) (stream_from s calls) j f there in
    let same : Some (with_circuit (number_or_0 s.circuit) f) ≡ Some f =
    sym (map_there (with_circuit (number_or_0 s.circuit)) (stream_from s (c ∷ calls)) j f stands) ∙ ap (λ (xs : List Frag). slice_get xs j) own ∙ stands in
    set_circuit (number_or_0 s.circuit) f few (some_is (with_circuit (number_or_0 s.circuit) f) f same)

unwritten_circuit : OnAnotherCircuit → (s : TheEnd) → IsEnd s → (i : ℕ) (f : Frag) → slice_get s.outgoing.unwritten i ≡ Some f → circuit_of f.control ≡ number_or_0 s.circuit
unwritten_circuit on s sound i f at =
    left_circuit s sound.sends.number sound.sends.calls s.outgoing sound.sends.left
    (on (program_of s.program) (number_or_0 s.circuit) (number_or_0 s.circuit) sound.sends.calls sound.circuit sound.within sound.sends.fit) sound.circuit i f at

-- ---- steps at one moment

module _ (t u : TheCircuits) (sound : Sound t) (later : Later t u) where
  through : (log_entry : Frag → HopEvent) (frags : List Frag) → ((i : ℕ) (f : Frag) → slice_get frags i ≡ Some f → AsLed t (log_entry f)) → goes_through t (steps_of t log_entry frags) u
  through log_entry [] led = later
  through log_entry (f ∷ frags) led = (later_same t, record { sound = sound; led = led 0 f refl }, through log_entry frags (λ i g at. led (suc i) g at))

  through_by : (o : Option LinkId) (name : EndId) (frags : List Frag) → ((l : LinkId) (i : ℕ) (f : Frag) → o ≡ Some l → slice_get frags i ≡ Some f → way_at t l.0 (circuit_of f.control) ≡ Some (End name))
      → goes_through t (steps_by t o name frags) u
  through_by None name frags led = later
  through_by (Some l) name frags led = through (hop_wrote name l.0) frags (λ i f at. led l i f refl at)

one_only : (frag f : Frag) (i : ℕ) → slice_get (frag ∷ []) i ≡ Some f → frag ≡ f
one_only frag f zero at = cc
one_only frag f (suc i) at = absurd (cc)

none_at : (f : Frag) (i : ℕ) → slice_get (let xs : List Frag = [] in xs) i ≡ Some f → ⊥
none_at f i at = cc

arrived_only : (answer : Result ForwardOutcome LinkReceiveFault) (frag f : Frag) (i : ℕ) → slice_get (if_arrived answer frag) i ≡ Some f → frag ≡ f
arrived_only (Ok Moved) frag f i at = one_only frag f i at
arrived_only (Ok Full) frag f i at = absurd (none_at f i at)
arrived_only (Ok Spent) frag f i at = absurd (none_at f i at)
arrived_only (Err fault) frag f i at = absurd (none_at f i at)

heard_only : (answer : Result MonitorAnswer LinkReceiveFault) (frag f : Frag) (i : ℕ) → slice_get (if_heard answer frag) i ≡ Some f → frag ≡ f
heard_only (Ok heard_as.Full) frag f i at = absurd (none_at f i at)
heard_only (Ok heard_as.Done) frag f i at = one_only frag f i at
heard_only (Ok (heard_as.Opened e)) frag f i at = one_only frag f i at
heard_only (Ok (heard_as.OpeningRefused e reason)) frag f i at = one_only frag f i at
heard_only (Err fault) frag f i at = absurd (none_at f i at)

said_within : (answer : MonitorWrite) (frags : List Frag) (f : Frag) (i : ℕ) → slice_get (if_said answer frags) i ≡ Some f → slice_get frags i ≡ Some f
said_within said_as.Written frags f i at = take_within frags 1 i f at
said_within said_as.Full frags f i at = absurd (none_at f i at)
said_within said_as.Spent frags f i at = absurd (none_at f i at)
said_within said_as.Nothing frags f i at = absurd (none_at f i at)

-- what was written was the first of an end that is bound
wrote_within : {P : Type 0} (puts : P → Look → P → Type 0) (x : TheEnd) (p : P) (answer : Result WriteAnswer EndFault) (y : TheEnd) (q : P) (f : Frag) (i : ℕ) → Writes puts x p answer y q
    → slice_get (if_wrote answer x.outgoing.unwritten) i ≡ Some f → IsSome x.circuit × (slice_get x.outgoing.unwritten i ≡ Some f)
wrote_within puts x p (Ok (Written number count)) y q f i h at = (h.0.0, take_within x.outgoing.unwritten 1 i f at)
wrote_within puts x p (Ok NoRoom) y q f i h at = absurd (none_at f i at)
wrote_within puts x p (Ok Nothing) y q f i h at = absurd (none_at f i at)
wrote_within puts x p (Err fault) y q f i h at = absurd (none_at f i at)

-- ---- where an end's own number leads

circuit_there : (o : Option ℕ) → IsSome o → o ≡ Some (number_or_0 o)
circuit_there (Some c) some = refl
circuit_there None some = search (rules, some)

wiring_link : (x : EndWiring) (l : LinkId) → link_by x ≡ Some l → (a : ℕ) × (x ≡ Circuit l a)
wiring_link (Circuit m a) l is = (a, let same : m ≡ l = cc in ap (λ (i : LinkId). Circuit i a) same)
wiring_link (Ring n) l is = absurd (cc)
wiring_link (Queues out from) l is = absurd (cc)

wired_end_link : (k : TheCore) (e : ℕ) (l : LinkId) (o : Option WiredEnd) → slice_get k.wired_ends e ≡ o → (given o None λ (p : WiredEnd). link_by p.wiring) ≡ Some l → (p : WiredEnd) × (slice_get k.wired_ends e ≡ Some p) × ((a : ℕ) × (p.wiring ≡ Circuit l a))
wired_end_link k e l None at is = absurd (cc)
wired_end_link k e l (Some p) at is = (p, at, wiring_link p.wiring l is)

module _ (k : TheCore) (core : IsCore k) (led : IsLed k) (name : EndId) (e : ℕ) (at : place_of k name ≡ Some e) (seat : TheEndAtChannel) (there : slice_get k.board.seats e ≡ Some seat) where
  own_leads : (l : LinkId) → link_at k e ≡ Some l → IsSome seat.end.circuit → way_at k.monitor.circuits l.0 (number_or_0 seat.end.circuit) ≡ Some (End name)
  own_leads l is some =
      let (p, wired_end, (a, wiring)) = wired_end_link k e l (slice_get k.wired_ends e) refl is in
      let settled = (led.ends e a l p seat wired_end wiring there).bound (number_or_0 seat.end.circuit) (circuit_there seat.end.circuit some) in
      way_of k.monitor.circuits l.0 (number_or_0 seat.end.circuit) settled.hop (End name) settled.there (settled.way ∙ ap End (one_name k core name e at p wired_end))

  frag_leads : OnAnotherCircuit → IsEnd seat.end → {P : Type 0} (puts : P → Look → P → Type 0) (p : P) (answer : Result WriteAnswer EndFault) (y : TheEnd) (q : P) → Writes puts seat.end p answer y q
      → (l : LinkId) (i : ℕ) (f : Frag) → link_at k e ≡ Some l → slice_get (if_wrote answer seat.end.outgoing.unwritten) i ≡ Some f → way_at k.monitor.circuits l.0 (circuit_of f.control) ≡ Some (End name)
  frag_leads on sound puts p answer y q h l i f is first =
      let (some, stands) = wrote_within puts seat.end p answer y q f i h first in
      ap (way_at k.monitor.circuits l.0) (unwritten_circuit on seat.end sound i f stands) ∙ own_leads l is some

-- ---- one event

module _ {S : Type 0} (w : SideRelations S) (jobs : List CoreJob) (on : OnAnotherCircuit) (s m : TheRun S) (core : IsCore s.core) (sound : Sound s.core.monitor.circuits) (led : IsLed s.core) where
  abbrev Through : (log_entry : LogEntry) → InPlace jobs s log_entry → Does w log_entry s m → Type 0
  Through log_entry by h = goes_through s.core.monitor.circuits (event_steps w jobs log_entry s m by h) m.core.monitor.circuits

  later : (log_entry : LogEntry) → InPlace jobs s log_entry → Does w log_entry s m → Later s.core.monitor.circuits m.core.monitor.circuits
  later log_entry by h = (does_later w jobs s m core sound led log_entry by h).later

  wrote_went : (name : EndId) (e : ℕ) → (frags : List Frag) → Later s.core.monitor.circuits m.core.monitor.circuits
      → ((l : LinkId) (i : ℕ) (f : Frag) → link_at s.core e ≡ Some l → slice_get frags i ≡ Some f → way_at s.core.monitor.circuits l.0 (circuit_of f.control) ≡ Some (End name))
      → goes_through s.core.monitor.circuits (steps_by s.core.monitor.circuits (link_at s.core e) name frags) m.core.monitor.circuits
  wrote_went name e frags onward leads = through_by s.core.monitor.circuits m.core.monitor.circuits sound onward (link_at s.core e) name frags leads

  pub event_went : (log_entry : LogEntry) (by : InPlace jobs s log_entry) → ActsSoundly log_entry s → (h : Does w log_entry s m) → Through log_entry by h
  event_went (looked n l answer) by acts h = later (looked n l answer) by h
  event_went (passed n i frag c Moved) by acts h =
      (later_same s.core.monitor.circuits, record { sound = sound; led = by.leads.way_is }, later (passed n i frag c Moved) by h)
  event_went (passed n i frag c Full) by acts h = later (passed n i frag c Full) by h
  event_went (passed n i frag c Spent) by acts h = later (passed n i frag c Spent) by h
  event_went (arrived n l frag e answer) by acts h =
      through s.core.monitor.circuits m.core.monitor.circuits sound (later (arrived n l frag e answer) by h) (λ f. hop_passed l.0 f (End e)) (if_arrived answer frag)
      (λ i f at. ap (λ (x : Frag). way_at s.core.monitor.circuits l.0 (circuit_of x.control)) (sym (arrived_only answer frag f i at)) ∙ by.way_is)
  event_went (heard n l frag answer) by acts h =
      through s.core.monitor.circuits m.core.monitor.circuits sound (later (heard n l frag answer) by h) (hop_heard l.0) (if_heard answer frag)
      (λ i f at. ap (λ (x : Frag). circuit_of x.control) (sym (heard_only answer frag f i at)) ∙ by.1)
  event_went (said n l answer) by acts h =
      through s.core.monitor.circuits m.core.monitor.circuits sound (later (said n l answer) by h) (hop_said l.0) (if_said answer (waiting_for s.core.monitor.outboxes l.0))
      (λ i f at. led.says l.0 i f (said_within answer (waiting_for s.core.monitor.outboxes l.0) f i at))
  event_went (told n l answer) by acts h = later (told n l answer) by h
  event_went (opened name request answer) by acts h = later (opened name request answer) by h
  event_went (called name c answer) by acts h = later (called name c answer) by h
  event_went (ruled name msg reply answer) by acts h = later (ruled name msg reply answer) by h
  event_went (wrote name (outlet.Queue n) answer) by acts h =
      let writes = h.2.event.writes in
      wrote_went name h.0 (if_wrote answer writes.seat.end.outgoing.unwritten) (later (wrote name (outlet.Queue n) answer) by h)
      (frag_leads s.core core led name h.0 h.1 writes.seat writes.seat_is on (acts h.0 writes.seat h.1 writes.seat_is) QueuePuts h.2.before answer writes.end h.2.after writes.event)
  event_went (wrote name (outlet.Side n) answer) by acts h =
      let writes = h.2.event.writes in
      wrote_went name h.0 (if_wrote answer writes.seat.end.outgoing.unwritten) (later (wrote name (outlet.Side n) answer) by h)
      (frag_leads s.core core led name h.0 h.1 writes.seat writes.seat_is on (acts h.0 writes.seat h.1 writes.seat_is) w.puts h.2.before answer writes.end h.2.after writes.event)
  event_went (acked name n answer) by acts h = later (acked name n answer) by h
  event_went (turned d name from answer) by acts h = later (turned d name from answer) by h
