-- What stands at ends' progress as refused: what one event adds, and a log.
use Rattle.std.proofs.Common.{◌≡◌, ◌⊎◌, inl, inr, refl, sym, ap, ◌∙◌, subst, ℕ, nat_lt, not, is_some, List, [], ◌∷◌, ◌++◌, length, slice_get, slice_set}
use Rattle.std.proofs.Common.{Bool, true, false, if◌then◌else◌, Option, Some, None, Result, Ok, Err, arith}
use Rattle.std.specs.Option.{option_map}
use Rattle.std.proofs.lemmas.Bool.{cases_eq}
use Rattle.fl_base.specs.declared.fragment.Frag.{Frag}
use Rattle.fl_base.specs.declared.identity.CoreId.{CoreId}
use Rattle.fl_base.specs.declared.identity.EndId.{EndId}
use Rattle.fl_base.specs.declared.identity.LinkId.{LinkId}
use Rattle.fl_base.specs.declared.identity.Side.{Side}
use Rattle.fl_base.specs.declared.identity.Side.TheVariants.{Client, Server}
use Rattle.fl_base.specs.declared.identity.Circuit.{Circuit}
use Rattle.fl_base.specs.Control.{bare}
use Rattle.fl_base.specs.Given.{given}
use Rattle.fl_core.proofs.BoardPlaces.{set_here, set_elsewhere}
use Rattle.fl_core.specs.BoardView.{TheDispatcher}
use Rattle.fl_core.specs.declared.turn_answer.TurnAnswer.{TurnAnswer}
use Rattle.fl_core.specs.declared.turn_answer.TurnAnswer.TheVariants as turn
use Rattle.fl_endpoint.specs.declared.fault.EndFault.{EndFault}
use Rattle.fl_endpoint.specs.Laws.{OnAnotherCircuit}
use Rattle.fl_nameserv.specs.Registrations.{TheRegistration}
use Rattle.fl_hop.specs.declared.entry.Hop.{Hop}
use Rattle.fl_hop.specs.declared.entry.HopTarget.{HopTarget}
use Rattle.fl_hop.specs.declared.entry.HopTarget.TheVariants.{Link, End}
use Rattle.fl_hop.specs.declared.links.LinkState.{LinkState}
use Rattle.fl_hop.specs.Joined.{Sound}
use Rattle.fl_hop.specs.Later.{way_at}
use Rattle.fl_hop.specs.Numbers.{OpenedHere}
use Rattle.fl_hop.specs.OfCircuit.{as_carried, of_circuit}
use Rattle.fl_hop.specs.Openings.{IsWaiting}
use Rattle.fl_hop.specs.Stretch.{TableStep, heard as hop_heard, taken_from}
use Rattle.fl_hop.specs.Table.{TheCircuits, hop_at}
use Rattle.fl_hop.proofs.Answering.{numbers_apart}
use Rattle.fl_monitor.specs.declared.fault.MonitorFault.TheVariants as monitor
use Rattle.fl_monitor.specs.declared.heard.MessageOutcome.{MessageOutcome}
use Rattle.fl_monitor.specs.declared.heard.MessageOutcome.TheVariants as outcome
use Rattle.fl_monitor.specs.declared.message.MonitorMessage.{MonitorMessage}
use Rattle.fl_monitor.specs.declared.message.MonitorMessage.TheVariants.{OpenCircuit, CircuitOpened, CircuitRefused}
use Rattle.fl_monitor.specs.declared.opening.Opening.{Opening}
use Rattle.fl_monitor.specs.Fates.{Known}
use Rattle.fl_monitor.specs.Hearing.{ComesTo, opened_at, refused_at}
use Rattle.fl_monitor.specs.Monitors.{TheMonitor, can_say}
use Rattle.fl_monitor.specs.Saying.{Says}
use Rattle.fl_monitor.proofs.Single.{says_the_same}
use Rattle.fl_compile.specs.declared.program.Program.{Program}
use Rattle.fl_core.specs.declared.hearing.OfferedService.{OfferedService}
use Rattle.fl_core.specs.declared.answer.MonitorAnswer.{MonitorAnswer}
use Rattle.fl_core.specs.declared.answer.MonitorAnswer.TheVariants as heard_as
use Rattle.fl_core.specs.declared.fault.LinkReceiveFault.{LinkReceiveFault}
use Rattle.fl_core.specs.declared.fault.OpenFault.{OpenFault}
use Rattle.fl_core.specs.declared.fault.OpenFault.TheVariants as opening
use Rattle.fl_core.specs.Faults.{open_number}
use Rattle.fl_core.specs.Hearing.{known_for, offer_for, HearsAll, offering, Follows}
use Rattle.fl_core.specs.Making.{asked}
use Rattle.fl_core.specs.View.{TheCore, place_of, slot_of, client_of, with_monitor}
use Rattle.fl_core.specs.declared.core_job.CoreJob.{CoreJob}
use Rattle.fl_core.specs.declared.core_job.OpenRequest.{OpenRequest}
use Rattle.fl_core_run.specs.EndProgress.{TheEndProgress, progress_place, advanced, with_handled, with_refusal, ChangesIf}
use Rattle.fl_core_run.specs.Run.{SideRelations, TheRun, AtProgress}
use Rattle.fl_core_run.specs.LogEntries.{IsSound, LogEntry, looked, passed, arrived, heard, said, told, opened, called, ruled, wrote, acked, turned, Does, NotesHeard, NotesOpened, NotesCalled, NotesTurned, Notes}
use Rattle.fl_core_run.specs.Steps.{lacks_to_open, may_ask}
use Rattle.fl_core_run.specs.OpeningStatus.{refusal_at}
use Rattle.fl_core_run_laws.specs.Led.{IsLed}
use Rattle.fl_core_run_laws.specs.Logs.{InPlace, Goes}
use Rattle.fl_core_run_laws.proofs.Aside.{core_aside}
use Rattle.fl_core_run_laws.proofs.Carrying.{five, not_there}
use Rattle.fl_core_run_laws.proofs.Handling.{progresses_stay, as_many, same_place}
use Rattle.fl_core_run_laws.proofs.Laning.{steps_of, event_steps}
use Rattle.fl_core_run_laws.proofs.Leads.{does_led}
use Rattle.fl_core_run_laws.proofs.Stepping.{log_steps, end_stays}
use Rattle.fl_cores_laws.specs.Cores.{IsAmple, AreAmple, OneCore}
use Rattle.fl_cores_laws.specs.Named.{Has}
use Rattle.fl_ring.specs.SharedSides.{TheSide}
use Rattle.fl_cores_laws.specs.Reasons.{IsUsedUp, RefusesRequest, CameUnder, AsksOnly, IsFrom, IsOwnRequest, WasHeard, WasFull, IsRefusedAt, as_talk, talk_of, IsOnlyRequest}
use Rattle.fl_cores_laws.specs.Asked.{IsRequested}
use Rattle.fl_cores_laws.proofs.AskedProgress.{JobAt, job_there, JobsStay, job_before, event_jobs, offers_stay}
use Rattle.fl_cores_laws.proofs.AskedLaid.{beside}
use Rattle.fl_cores_laws.proofs.Logged.{took_heard, then_said, then_heard, said_joins, heard_joins, does_keep, log_keeps_by}
use Rattle.fl_cores_laws.proofs.Named.{has_first, has_last, opening_next}
use Rattle.fl_cores_laws.proofs.Neighbours.{leads_of}
use Rattle.fl_cores_laws.proofs.Reasoned.{came_more}
use Rattle.fl_cores_laws.proofs.ReasonedHears.{AreReasonedFrom, KnowsPlaces, reasons_kept}
use Rattle.fl_cores_laws.proofs.ReasonsHere.{RefusesOn, has_entry, entry_came, refused_here}
use Rattle.fl_cores_laws.proofs.ReasonsKept.{Remembers, remembers_kept, used_kept}
use Rattle.fl_cores_laws.proofs.ReasonsOwn.{laid_none}
use Rattle.fl_cores_laws.proofs.WholeOpened.{does as event_comes, sound_first}
use Rattle.fl_cores_laws.proofs.Zero.{carried_zero}

-- ---- a list of ends' progress

abbrev pub refused_in : List TheEndProgress → EndId → ℕ
refused_in progresses e = given (progress_place progresses e) 0 λ n. given (slice_get progresses n) 0 λ (d : TheEndProgress). d.refused

-- the end's progress of an end stands at its own place
place_by : (slot k : ℕ) (a b : Bool) → (if a then (if b then Some slot else None) else None) ≡ Some k → k ≡ slot
place_by slot k true true is = let same : slot ≡ k = cc in sym same
place_by slot k true false is = absurd (cc)
place_by slot k false b is = absurd (cc)

progress_slot : (progresses : List TheEndProgress) (e : EndId) (k : ℕ) → progress_place progresses e ≡ Some k → k ≡ slot_of e
progress_slot progresses e k is = place_by (slot_of e) k (nat_lt e.binding 1024) (nat_lt (slot_of e) (length progresses)) is

abbrev an_end : ℕ → Side → EndId
an_end binding side = record { binding = binding; side = side }

one_end : (a b : ℕ) (s t : Side) → slot_of (an_end a s) ≡ slot_of (an_end b t) → an_end a s ≡ an_end b t
one_end a b Client Client same = let one : a ≡ b = omega (arith, same) in ap (λ (n : ℕ). an_end n Client) one
one_end a b Client Server same = absurd (omega (arith, same))
one_end a b Server Client same = absurd (omega (arith, same))
one_end a b Server Server same = let one : a ≡ b = omega (arith, same) in ap (λ (n : ℕ). an_end n Server) one

one_slot : (f e : EndId) → slot_of f ≡ slot_of e → f ≡ e
one_slot f e same = one_end f.binding e.binding f.side e.side same

-- where the end's progress of some end has changed, that of this one has what it had, or it was that
module _ (xs ys : List TheEndProgress) (change : TheEndProgress → TheEndProgress) (f e : EndId) where
  abbrev Changed : Type 0
  Changed = (refused_in ys e ≡ refused_in xs e) ⊎ ((f ≡ e) × (d : TheEndProgress) × (refused_in xs e ≡ d.refused) × (refused_in ys e ≡ (change d).refused))

  abbrev read : Option TheEndProgress → ℕ
  read o = given o 0 λ (d : TheEndProgress). d.refused

  by_place : (i : ℕ) → progress_place xs f ≡ Some i → (h : ChangesIf (Some i) xs change ys) → (o : Option ℕ) → progress_place xs e ≡ o → Changed
  by_place i at h None is =
      let place : progress_place ys e ≡ None = same_place xs ys e (as_many (Some i) xs ys change h) ∙ is in
      inl (ap (λ (o : Option ℕ). given o 0 λ n. read (slice_get ys n)) place ∙ sym (ap (λ (o : Option ℕ). given o 0 λ n. read (slice_get xs n)) is))
  by_place i at h (Some k) is =
      let place : progress_place ys e ≡ Some k = same_place xs ys e (as_many (Some i) xs ys change h) ∙ is in
      let now : refused_in ys e ≡ read (slice_get ys k) = ap (λ (o : Option ℕ). given o 0 λ n. read (slice_get ys n)) place in
      let before : refused_in xs e ≡ read (slice_get xs k) = ap (λ (o : Option ℕ). given o 0 λ n. read (slice_get xs n)) is in
      elim (cases_eq k i) [
        | inl same ↦
            (let was : slice_get xs k ≡ Some h.progress = ap (slice_get xs) same ∙ h.progress_is in
            let put : slice_get ys k ≡ Some (change h.progress) = ap (λ (ds : List TheEndProgress). slice_get ds k) h.rest ∙ ap (slice_get (slice_set xs i (change h.progress))) same ∙ set_here xs i h.progress (change h.progress) h.progress_is in
            inr (one_slot f e (sym (progress_slot xs f i at) ∙ sym same ∙ progress_slot xs e k is), h.progress, before ∙ ap read was, now ∙ ap read put))
        | inr other ↦
            (let kept : slice_get ys k ≡ slice_get xs k = ap (λ (ds : List TheEndProgress). slice_get ds k) h.rest ∙ set_elsewhere xs i k (change h.progress) other in
            inl (now ∙ ap read kept ∙ sym before))
      ]

  changed : (o : Option ℕ) → progress_place xs f ≡ o → ChangesIf o xs change ys → Changed
  changed None at h = inl (ap (λ (ds : List TheEndProgress). refused_in ds e) h)
  changed (Some i) at h = by_place i at h (progress_place xs e) refl

-- ---- what is noted of one event

-- the number that an event notes as a refusal at the end's progress of this end
abbrev pub NewHeard : EndId → Result MonitorAnswer LinkReceiveFault → ℕ → Type 0
NewHeard e (Ok (heard_as.OpeningRefused f reason)) r = (f ≡ e) × (r ≡ reason)
NewHeard e answer r = ⊥

abbrev pub NewOpened : Result ℕ OpenFault → ℕ → Type 0
NewOpened (Ok e) r = ⊥
NewOpened (Err (opening.Monitor monitor.OutboxFull)) r = ⊥
NewOpened (Err fault) r = r ≡ open_number fault

abbrev pub New : EndId → LogEntry → ℕ → Type 0
New e (heard n l frag answer) r = NewHeard e answer r
New e (opened name request answer) r = (name ≡ e) × NewOpened answer r
New e log_entry r = ⊥

module _ {S : Type 0} (m t : TheRun S) (e : EndId) where
  abbrev Stays : Type 0
  Stays = refusal_at t e ≡ refusal_at m e

  abbrev Notes_new : (ℕ → Type 0) → Type 0
  Notes_new N = Stays ⊎ N (refusal_at t e)

  same : t ≡ m → Stays
  same h = ap (λ (x : TheRun S). refusal_at x e) h

  keeps : (f : EndId) (change : TheEndProgress → TheEndProgress) → ((d : TheEndProgress) → (change d).refused ≡ d.refused) → AtProgress f change m t → Stays
  keeps f change keep h = elim (changed m.progresses t.progresses change f e (progress_place m.progresses f) refl h.changes) [
    | inl still ↦ still
    | inr x ↦ x.3 ∙ keep x.1 ∙ sym x.2
  ]

  sets : (f : EndId) (change : TheEndProgress → TheEndProgress) (r : ℕ) → ((d : TheEndProgress) → (change d).refused ≡ r) → AtProgress f change m t → Stays ⊎ ((f ≡ e) × (refusal_at t e ≡ r))
  sets f change r put h = elim (changed m.progresses t.progresses change f e (progress_place m.progresses f) refl h.changes) [
    | inl still ↦ inl still
    | inr x ↦ inr (x.0, x.3 ∙ put x.1)
  ]

  refuses : (f : EndId) (r : ℕ) → AtProgress f (λ d. advanced (with_refusal r d)) m t → Stays ⊎ ((f ≡ e) × (refusal_at t e ≡ r))
  refuses f r h = sets f (λ d. advanced (with_refusal r d)) r (λ d. refl) h

  noted_heard : (answer : Result MonitorAnswer LinkReceiveFault) → NotesHeard answer m t → Notes_new (NewHeard e answer)
  noted_heard (Ok (heard_as.OpeningRefused f reason)) h = sets f (with_refusal reason) reason (λ d. refl) h
  noted_heard (Ok heard_as.Full) h = inl (same h)
  noted_heard (Ok heard_as.Done) h = inl (same h)
  noted_heard (Ok (heard_as.Opened f)) h = inl (same h)
  noted_heard (Err fault) h = inl (same h)

  noted_opened : (f : EndId) (answer : Result ℕ OpenFault) → NotesOpened f answer m t → Notes_new (λ r. (f ≡ e) × NewOpened answer r)
  noted_opened f (Ok k) h = inl (keeps f advanced (λ d. refl) h)
  noted_opened f (Err (opening.Board fault)) h = refuses f _ h
  noted_opened f (Err (opening.Monitor monitor.OutboxFull)) h = inl (same h)
  noted_opened f (Err (opening.Monitor monitor.Misrouted)) h = refuses f _ h
  noted_opened f (Err (opening.Monitor monitor.Differs)) h = refuses f _ h
  noted_opened f (Err (opening.Monitor monitor.NoRoute)) h = refuses f _ h
  noted_opened f (Err (opening.Monitor monitor.UsedUp)) h = refuses f _ h
  noted_opened f (Err (opening.Monitor monitor.PlansDiffer)) h = refuses f _ h
  noted_opened f (Err (opening.Monitor monitor.Memory)) h = refuses f _ h

  noted_called : (f : EndId) (answer : Result (Unit {0}) EndFault) → NotesCalled f answer m t → Stays
  noted_called f (Ok done) h = keeps f advanced (λ d. refl) h
  noted_called f (Err fault) h = same h

  noted_turned : (f : EndId) (answer : TurnAnswer) → NotesTurned f answer m t → Stays
  noted_turned f (turn.Handle call) h = keeps f (with_handled call) (λ d. refl) h
  noted_turned f turn.Part h = same h
  noted_turned f turn.Ready h = same h
  noted_turned f turn.Quiet h = same h
  noted_turned f turn.Full h = same h
  noted_turned f turn.Nothing h = same h
  noted_turned f (turn.Refused fault) h = same h

  noted : (log_entry : LogEntry) → Notes log_entry m t → Notes_new (New e log_entry)
  noted (looked n l answer) h = inl (same h)
  noted (passed n k frag c outcome) h = inl (same h)
  noted (arrived n l frag f answer) h = inl (same h)
  noted (heard n l frag answer) h = noted_heard answer h
  noted (said n l answer) h = inl (same h)
  noted (told n l answer) h = inl (same h)
  noted (opened f request answer) h = noted_opened f answer h
  noted (called f c answer) h = inl (noted_called f answer h)
  noted (ruled f msg reply answer) h = inl (keeps f advanced (λ d. refl) h)
  noted (wrote f out answer) h = inl (same h)
  noted (acked f n answer) h = inl (same h)
  noted (turned d f from answer) h = inl (noted_turned f answer h)

-- over an event, a refusal that stands at an end's progress stood there, or the event notes it
pub event_notes : {S : Type 0} (w : SideRelations S) (log_entry : LogEntry) (s m t : TheRun S) (e : EndId) → Does w log_entry s m → Notes log_entry m t
    → (refusal_at t e ≡ refusal_at s e) ⊎ New e log_entry (refusal_at t e)
event_notes w log_entry s m t e does notes = elim (noted m t e log_entry notes) [
  | inl still ↦ inl (still ∙ ap (λ (ds : List TheEndProgress). refused_in ds e) (progresses_stay w log_entry s m does))
  | inr new ↦ inr new
]

-- ---- what a message says that refuses an end's opening

-- the message refuses a number on a link, for this reason, that waits to be answered and leads to the end
pub record Refusing (t : TheCircuits) (l : ℕ) (msg : MonitorMessage) (e : EndId) (r : ℕ) : Type 0 where
  pub circuit : Circuit
  pub is : msg ≡ CircuitRefused circuit r
  pub hop : Hop
  pub waits : IsWaiting t l circuit.0 hop
  pub way : hop.way ≡ End e

refused_at_end : (t : TheCircuits) (l : LinkId) (c : Circuit) (hop : Hop) (r : ℕ) (e : EndId) (reason : ℕ) (way : HopTarget) → IsWaiting t l.0 c.0 hop → hop.way ≡ way
    → outcome.EndRefused e reason ≡ refused_at r hop.binding way → Refusing t l.0 (CircuitRefused c r) e reason
refused_at_end t l c hop r e reason (Link x d) waits way is = absurd (cc)
refused_at_end t l c hop r e reason (End f) waits way is =
    let same : r ≡ reason = cc in
    let ends : f ≡ e = cc in
    record { circuit = c; is = ap (CircuitRefused c) same; hop = hop; waits = waits; way = way ∙ ap End ends }

not_opened_at : (c : Circuit) (binding : ℕ) (e : EndId) (reason : ℕ) (way : HopTarget) → outcome.EndRefused e reason ≡ opened_at c binding way → ⊥
not_opened_at c binding e reason (Link x d) is = cc
not_opened_at c binding e reason (End f) is = cc

-- an end's opening is refused by such a message alone
refusing : (kn : Known) (t : TheCircuits) (l : LinkId) (msg : MonitorMessage) (e : EndId) (reason : ℕ) → ComesTo kn t l msg (outcome.EndRefused e reason) → Refusing t l.0 msg e reason
refusing kn t l (OpenCircuit c binding service path) e reason comes =
    absurd (opening_next kn t l.0 c (record { binding = binding; service = service; path = path }) (outcome.EndRefused e reason) comes.1)
refusing kn t l (CircuitOpened c) e reason (hop, waits, is) = absurd (not_opened_at c hop.binding e reason hop.way is)
refusing kn t l (CircuitRefused c r) e reason (hop, waits, is) =
    refused_at_end t l c hop r e reason hop.way waits refl is

-- at a number that this core gave that is the client's end of the entry's binding
client_end : (t : TheCircuits) → Sound t → (l n : ℕ) (hop : Hop) (e : EndId) → OpenedHere t l n → hop_at t l n ≡ Some hop → hop.way ≡ End e → client_of hop.binding ≡ e
client_end t sound l n hop e here at way = elim (sound.toward l n hop.binding (End e) (leads_of t l n hop hop.binding (End e) at refl way)) [
  | inl own ↦ sym own.1
  | inr other ↦ absurd (numbers_apart t sound l n here other.0)
]

-- and just then it is told
told_so : (programs : List Program) (offer : Option OfferedService) (l : LinkId) (h : MessageOutcome) (k : TheCore) (f : EndId) (reason : ℕ) (k2 : TheCore)
    → Follows (offering programs offer l) h k (heard_as.OpeningRefused f reason) k2 → h ≡ outcome.EndRefused f reason
told_so programs offer l (outcome.EndRefused e r) k f reason k2 x =
    let same : r ≡ reason = cc (x.0) in
    let ends : e ≡ f = cc (x.0) in
    ap (outcome.EndRefused e) same ∙ ap (λ (i : EndId). outcome.EndRefused i reason) ends
told_so programs offer l (outcome.ServerMade b d c) k f reason k2 x = absurd (cc (x.0))
told_so programs offer l (outcome.EndOpened e c) k f reason k2 x = absurd (cc (x.0))
told_so programs offer l (outcome.OpeningWentOn b n c) k f reason k2 x = absurd (cc (x.0))
told_so programs offer l (outcome.OpeningFailed b r) k f reason k2 x = absurd (cc (x.0))
told_so programs offer l (outcome.AnswerWentOn b n c) k f reason k2 x = absurd (cc (x.0))

-- ---- what an opening's own core refuses

new_opened : (fault : OpenFault) (r : ℕ) → NewOpened (Err fault) r → (r ≡ open_number fault) × (fault ≡ opening.Monitor monitor.OutboxFull → ⊥)
new_opened (opening.Board fault) r new = (new, λ is. cc)
new_opened (opening.Monitor monitor.OutboxFull) r new = absurd new
new_opened (opening.Monitor monitor.Misrouted) r new = (new, λ is. cc)
new_opened (opening.Monitor monitor.Differs) r new = (new, λ is. cc)
new_opened (opening.Monitor monitor.NoRoute) r new = (new, λ is. cc)
new_opened (opening.Monitor monitor.UsedUp) r new = (new, λ is. cc)
new_opened (opening.Monitor monitor.PlansDiffer) r new = (new, λ is. cc)
new_opened (opening.Monitor monitor.Memory) r new = (new, λ is. cc)

-- ---- ends that are there

-- each end to which the table leads is there
abbrev pub Placed : TheCore → Type 0
Placed k = (l n : ℕ) (name : EndId) → way_at k.monitor.circuits l n ≡ Some (End name) → (p : ℕ) × (place_of k name ≡ Some p)

-- ---- why a refusal stands at an end's progress

state_at : (t : TheCircuits) (l : ℕ) (near : CoreId) (o : Option LinkState) → slice_get t.links l ≡ o → option_map (λ (a : LinkState). a.neighbour) o ≡ Some near
    → (a : LinkState) × (slice_get t.links l ≡ Some a)
state_at t l near None at is = absurd (cc)
state_at t l near (Some a) at is = (a, at)

-- an opening was heard of a binding of which a job of an end's progress asks for one, as a core's table has its links
pub record Again (jobs : List CoreJob) (t0 : TheCircuits) (s : TheRun TheSide) (hs : ℕ → List Frag) : Type 0 where
  pub name : EndId
  pub request : OpenRequest
  pub job : JobAt jobs s name request
  pub link : ℕ
  pub number : ℕ
  pub opening : Opening
  pub came : CameUnder t0 hs link number opening
  pub binding_is : opening.binding ≡ request.opening.binding

-- a job of the end's progress asks for an opening that this core refuses, whose table is u now
pub record Here (jobs : List CoreJob) (Full : ℕ → Type 0) (Gone : OpenRequest → Type 0) (t0 u : TheCircuits) (e : EndId) (s : TheRun TheSide) (r : ℕ) : Type 0 where
  pub request : OpenRequest
  pub job : JobAt jobs s e request
  pub why : RefusesRequest Full t0 u request r
  pub gone : r ≡ 74 → Gone request

-- a refusal that a core starting so tells at the end's progress of an end, of what it heard since; in the end it said all this, and its monitor is m
abbrev pub Tells : List CoreJob → (Opening → Type 0) → (ℕ → Type 0) → (OpenRequest → Type 0) → TheCircuits → TheMonitor → EndId → (ℕ → List Frag) → TheRun TheSide → (ℕ → List Frag) → ℕ → Type 0
Tells jobs Requests Full Gone t0 m e spoken s hs r = WasHeard Requests t0 (as_talk spoken hs m) e r ⊎ Here jobs Full Gone t0 m.circuits e s r ⊎ Again jobs t0 s hs

module _ (jobs : List CoreJob) (Requests : Opening → Type 0) (Full : ℕ → Type 0) (Gone : OpenRequest → Type 0) (t0 : TheCircuits) (m : TheMonitor) (e : EndId) where
  abbrev Told : (ℕ → List Frag) → TheRun TheSide → (ℕ → List Frag) → ℕ → Type 0
  Told spoken s hs r = Tells jobs Requests Full Gone t0 m e spoken s hs r

  more_told : (s : TheRun TheSide) (spoken spoken2 hs hs2 : ℕ → List Frag) → ((l : ℕ) (f : Frag) → Has f (spoken2 l) → Has f (spoken l)) → ((l : ℕ) (f : Frag) → Has f (hs l) → Has f (hs2 l))
      → (r : ℕ) → Told spoken s hs r → Told spoken2 s hs2 r
  more_told s spoken spoken2 hs hs2 fewer more r (inl h) = inl (record {
    link = h.link;
    state = h.state;
    state_is = h.state_is;
    frag = h.frag;
    has = more h.link h.frag h.has;
    circuit = h.circuit;
    says = h.says;
    own = h.own;
    requested = h.requested;
    only = λ f c x has is says_it. h.only f c x (elim has [ inl a ↦ inl (fewer h.link f a) | inr b ↦ inr b ]) is says_it;
    end_is = h.end_is;
  })
  more_told s spoken spoken2 hs hs2 fewer more r (inr (inl own)) = inr (inl own)
  more_told s spoken spoken2 hs hs2 fewer more r (inr (inr a)) = inr (inr (record {
    name = a.name;
    request = a.request;
    job = a.job;
    link = a.link;
    number = a.number;
    opening = a.opening;
    came = came_more t0 hs hs2 more a.link a.number a.opening a.came;
    binding_is = a.binding_is;
  }))

  -- an end's progress has had its jobs before
  told_before : (s u : TheRun TheSide) (spoken hs : ℕ → List Frag) → JobsStay s.progresses u.progresses → (r : ℕ) → Told spoken u hs r → Told spoken s hs r
  told_before s u spoken hs stay r (inl h) = inl h
  told_before s u spoken hs stay r (inr (inl own)) =
      inr (inl (record { request = own.request; job = job_before jobs s u e own.request stay own.job; why = own.why; gone = own.gone }))
  told_before s u spoken hs stay r (inr (inr a)) = inr (inr (record {
    name = a.name;
    request = a.request;
    job = job_before jobs s u a.name a.request stay a.job;
    link = a.link;
    number = a.number;
    opening = a.opening;
    came = a.came;
    binding_is = a.binding_is;
  }))

-- in the words of the law
pub own_request : (jobs : List CoreJob) (s : TheRun TheSide) (name : EndId) (request : OpenRequest) → JobAt jobs s name request → IsOwnRequest jobs s request.opening
own_request jobs s name request a = record {
  name = name;
  progress = a.progress;
  progress_is = a.progress_is;
  turn = a.turn;
  place = a.place;
  place_is = a.place_is;
  request = request;
  job_is = a.job_is;
  opening_is = refl;
}

-- where no other job opens its binding, the client's end isn't there as the core's run ends
abbrev pub IsGone : List CoreJob → OneCore → OpenRequest → Type 0
IsGone jobs c request = IsOnlyRequest jobs request → place_of c.finish.core (client_of request.opening.binding) ≡ None

pub told_at : (jobs : List CoreJob) (c : OneCore) (steps : List TableStep) (e : EndId) (r : ℕ)
    → Tells jobs (IsOwnRequest jobs c.start) (WasFull jobs c.finish) (IsGone jobs c) c.start.core.monitor.circuits c.finish.core.monitor e (talk_of c steps).said c.start (talk_of c steps).heard r
    → IsRefusedAt jobs c steps e r
told_at jobs c steps e r (inl h) = inl h
told_at jobs c steps e r (inr (inl own)) = inr (inl (record {
  progress = own.job.progress;
  progress_is = own.job.progress_is;
  turn = own.job.turn;
  place = own.job.place;
  place_is = own.job.place_is;
  request = own.request;
  job_is = own.job.job_is;
  why = own.why;
  gone = own.gone;
}))
told_at jobs c steps e r (inr (inr a)) = inr (inr (record {
  own = a.request.opening;
  requested = own_request jobs c.start a.name a.request a.job;
  link = a.link;
  number = a.number;
  opening = a.opening;
  came = a.came;
  binding_is = a.binding_is;
}))

-- ---- over an event

module _ (w : SideRelations TheSide) (names : List TheRegistration) (NoPlace Requests : Opening → Type 0) (t0 : TheCircuits) (jobs : List CoreJob) (said_so heard_so : ℕ → List Frag) (s m : TheRun TheSide) (sound : Sound s.core.monitor.circuits)
    (placed : Placed s.core) (holds : AreReasonedFrom names NoPlace Requests t0 said_so heard_so s.core.monitor) (e : EndId) (said_last : ℕ → List Frag) (last : TheMonitor)
    (only : (l n : ℕ) (o : Opening) → OpenedHere s.core.monitor.circuits l n → AsksOnly said_so s.core.monitor l n o → AsksOnly said_last last l n o)
    (grows : (l : ℕ) → IsUsedUp s.core.monitor.circuits l → IsUsedUp last.circuits l) (Full : ℕ → Type 0)
    (full : (d : ℕ) (x : TheDispatcher) → slice_get s.core.board.dispatchers d ≡ Some x → length x.ends ≡ 1024 → Full d) (Gone : OpenRequest → Type 0)
    (gone : (request : OpenRequest) → place_of s.core (client_of request.opening.binding) ≡ None → IsUsedUp s.core.monitor.circuits request.link.0 → Gone request) where
  abbrev Then : (log_entry : LogEntry) → InPlace jobs s log_entry → Does w log_entry s m → ℕ → Type 0
  Then log_entry by h r = Tells jobs Requests Full Gone t0 last e said_last s (then_heard heard_so (event_steps w jobs log_entry s m by h)) r

  hears_told : (n : ℕ) (l : LinkId) (frag : Frag) (f : EndId) (reason : ℕ) (by : InPlace jobs s (heard n l frag (Ok (heard_as.OpeningRefused f reason))))
      (h : Does w (heard n l frag (Ok (heard_as.OpeningRefused f reason))) s m) → f ≡ e → Then (heard n l frag (Ok (heard_as.OpeningRefused f reason))) by h reason
  hears_told n l frag f reason by h ends =
      let msg = h.event.0.0 in
      let says_it : Says frag msg = h.event.0.1 in
      let all : HearsAll s.offers l msg s.core (heard_as.OpeningRefused f reason) m.core = h.event.0.2 in
      let is = told_so s.offers.programs (offer_for s.offers s.core msg) l all.heard (with_monitor s.core all.monitor) f reason m.core all.follows in
      let kn = known_for s.offers s.core msg in
      let x = refusing kn s.core.monitor.circuits l msg f reason (subst (λ (y : MessageOutcome). ComesTo kn s.core.monitor.circuits l msg y) is all.hears.0) in
      let near : beside t0 l.0 ≡ Some x.waits.here.link.neighbour = sym (holds.0.links l.0) ∙ ap (option_map (λ (a : LinkState). a.neighbour)) x.waits.here.there in
      let (state, state_is) = state_at t0 l.0 x.waits.here.link.neighbour (slice_get t0.links l.0) refl near in
      let it = holds.2.given l.0 x.circuit.0 x.hop x.waits.here x.waits.there in
      inl (record {
        link = l.0;
        state = state;
        state_is = state_is;
        frag = as_carried (bare frag);
        has = has_last (as_carried (bare frag)) (heard_so l.0) (of_circuit 0 (taken_from l.0 (steps_of s.core.monitor.circuits (hop_heard l.0) (frag ∷ []))))
            (took_heard s.core.monitor.circuits l frag msg says_it);
        circuit = x.circuit;
        says = subst (Says (as_carried (bare frag))) x.is (says_the_same frag (as_carried (bare frag)) msg (carried_zero frag by.1) says_it);
        own = it.opening;
        requested = subst (λ (way : HopTarget). IsFrom Requests t0 heard_so way it.opening) x.way it.origin;
        only = only l.0 x.circuit.0 it.opening x.waits.here it.only;
        end_is = ap client_of it.binding_is ∙ client_end s.core.monitor.circuits sound l.0 x.circuit.0 x.hop f x.waits.here x.waits.there x.way ∙ ends;
      })

  refused_last : (request : OpenRequest) (r number : ℕ) → r ≡ number → RefusesOn (Full request.dispatcher) s.core.monitor.circuits request.link.0 number → RefusesRequest Full t0 last.circuits request r
  refused_last request r number same (inl (is, taken)) = inl (same ∙ is, taken)
  refused_last request r number same (inr (inl (is, none))) = inr (inl (same ∙ is, laid_none t0 s.core.monitor.circuits holds.0 request.link.0 none))
  refused_last request r number same (inr (inr (is, used))) = inr (inr (same ∙ is, grows request.link.0 used))

  used_of : (F : Type 0) (t : TheCircuits) (l number : ℕ) → RefusesOn F t l number → number ≡ 74 → IsUsedUp t l
  used_of F t l number (inl (is, taken)) last = absurd (omega (arith, is, last))
  used_of F t l number (inr (inl (is, none))) last = absurd (omega (arith, is, last))
  used_of F t l number (inr (inr (is, used))) last = used

  -- the client's end isn't there where a circuit may be asked for
  not_asked : (request : OpenRequest) → may_ask s request ≡ true → place_of s.core (client_of request.opening.binding) ≡ None
  not_asked request may =
      let tests = five (nat_lt request.dispatcher (length s.core.board.dispatchers)) (nat_lt request.interface (length s.offers.programs)) (nat_lt request.opening.binding 1024)
      (not (is_some (place_of s.core (client_of request.opening.binding)))) (can_say s.core.monitor.outboxes request.link.0) may in
      not_there (place_of s.core (client_of request.opening.binding)) tests.1

  opens_told : (name : EndId) (request : OpenRequest) (fault : OpenFault) (r : ℕ) (by : InPlace jobs s (opened name request (Err fault))) (h : Does w (opened name request (Err fault)) s m)
      → lacks_to_open (Err fault) ≡ false → name ≡ e → NewOpened (Err fault) r → Then (opened name request (Err fault)) by h r
  opens_told name request fault r by h ample ends new =
      let (number, other) = new_opened fault r new in
      elim (refused_here (Full request.dispatcher) (asked request.dispatcher h.event.program request.link request.opening) s.core m.core fault (full request.dispatcher) h.event.asks other ample) [
        | inl why ↦ inr (inl (record {
          request = request;
          job = subst (λ (i : EndId). JobAt jobs s i request) ends (job_there jobs s name request by.0);
          why = refused_last request r (open_number fault) number why;
          gone = λ is. gone request (not_asked request by.1) (used_of (Full request.dispatcher) s.core.monitor.circuits request.link.0 (open_number fault) why (sym number ∙ is));
        }))
        | inr stood ↦ elim (entry_came names NoPlace Requests t0 said_so heard_so s.core.monitor sound holds.2 request.opening.binding (has_entry s.core.monitor.circuits request.opening.binding stood)) [
          | inl own ↦
              (let (p, at) = placed own.0 own.1 (client_of request.opening.binding) own.2 in
              let tests = five (nat_lt request.dispatcher (length s.core.board.dispatchers)) (nat_lt request.interface (length s.offers.programs)) (nat_lt request.opening.binding 1024)
              (not (is_some (place_of s.core (client_of request.opening.binding)))) (can_say s.core.monitor.outboxes request.link.0) by.1 in
              let none = not_there (place_of s.core (client_of request.opening.binding)) tests.1 in
              let clash : Some p ≡ None = sym at ∙ none in absurd (cc))
          | inr came ↦ inr (inr (record {
            name = name;
            request = request;
            job = job_there jobs s name request by.0;
            link = came.0;
            number = came.1;
            opening = came.2;
            came = came_more t0 heard_so (then_heard heard_so []) (λ l f has. has_first f (heard_so l) [] has) came.0 came.1 came.2 came.3;
            binding_is = came.4;
          }))
        ]
      ]

  event_tells : (log_entry : LogEntry) (by : InPlace jobs s log_entry) (h : Does w log_entry s m) (r : ℕ) → IsAmple log_entry → New e log_entry r → Then log_entry by h r
  event_tells (heard n l frag (Ok (heard_as.OpeningRefused f reason))) by h r ample new =
      subst (Then (heard n l frag (Ok (heard_as.OpeningRefused f reason))) by h) (sym new.1) (hears_told n l frag f reason by h new.0)
  event_tells (heard n l frag (Ok heard_as.Full)) by h r ample new = absurd new
  event_tells (heard n l frag (Ok heard_as.Done)) by h r ample new = absurd new
  event_tells (heard n l frag (Ok (heard_as.Opened f))) by h r ample new = absurd new
  event_tells (heard n l frag (Err fault)) by h r ample new = absurd new
  event_tells (opened name request (Ok k)) by h r ample new = absurd new.1
  event_tells (opened name request (Err fault)) by h r ample new = opens_told name request fault r by h ample new.0 new.1
  event_tells (looked n l answer) by h r ample new = absurd new
  event_tells (passed n k frag c answer) by h r ample new = absurd new
  event_tells (arrived n l frag f answer) by h r ample new = absurd new
  event_tells (said n l answer) by h r ample new = absurd new
  event_tells (told n l answer) by h r ample new = absurd new
  event_tells (called f c answer) by h r ample new = absurd new
  event_tells (ruled f msg reply answer) by h r ample new = absurd new
  event_tells (wrote f out answer) by h r ample new = absurd new
  event_tells (acked f n answer) by h r ample new = absurd new
  event_tells (turned d f from answer) by h r ample new = absurd new

-- ---- over a log

module _ (w : SideRelations TheSide) (on : OnAnotherCircuit) (names : List TheRegistration) (jobs : List CoreJob) (NoPlace Requests : Opening → Type 0) (requested : (o : Opening) → Requests o → IsRequested jobs o)
    (t0 : TheCircuits) (Full : ℕ → Type 0) (Gone : OpenRequest → Type 0) (e : EndId) where
  -- at each moment from which the core came to its end, it knows this when it hears a message
  abbrev Knowing : TheRun TheSide → TheRun TheSide → Type 0
  Knowing s t = (u : TheRun TheSide) (rest : List LogEntry) → Goes w jobs u rest t → IsSound u.core → u.offers ≡ s.offers → (msg : MonitorMessage)
      → KnowsPlaces names NoPlace (known_for u.offers u.core msg) msg

  -- ends to which the table leads are there still
  placed_on : (log_entry : LogEntry) (log : List LogEntry) (s t : TheRun TheSide) → (h : Goes w jobs s (log_entry ∷ log) t) → Placed s.core → Placed h.0.core
  placed_on log_entry log s t h placed l n name way =
      let aside : h.0.core ≡ h.1.0.core = core_aside h.1.0 h.0 log_entry h.1.2 in
      elim (event_comes w jobs s h.1.0 h.1.3.core h.1.3.table log_entry h.2 h.1.1 l n name (sym (ap (λ (k : TheCore). way_at k.monitor.circuits l n) aside) ∙ way)) [
        | inl before ↦ (let (p, at) = placed l n name before in (p, end_stays w jobs log_entry s h.0 name p h.1 h.2 at))
        | inr new ↦ (new.stands.place, ap (λ (k : TheCore). place_of k name) aside ∙ new.stands.here.sits.here)
      ]

  -- what was asked for under a number that was given is all that ever is, and links stay used up
  only_then : (log : List LogEntry) (s t : TheRun TheSide) (h : Goes w jobs s log t) (said_so heard_so : ℕ → List Frag) → Knowing s t
      → ((name : EndId) (request : OpenRequest) → JobAt jobs s name request → Requests request.opening) → IsLed s.core → Sound t.core.monitor.circuits
      → (l n : ℕ) (o : Opening) → OpenedHere s.core.monitor.circuits l n → AsksOnly said_so s.core.monitor l n o
      → AsksOnly (then_said said_so (log_steps w jobs log s t h)) t.core.monitor l n o
  only_then log s t h said_so heard_so knows own led sound l n o here only =
      (log_keeps_by (Remembers l n o) jobs (remembers_kept (KnowsPlaces names NoPlace) Requests l n o) w on log s t h said_so heard_so knows own led sound (here, only)).1

  used_then : (log : List LogEntry) (s t : TheRun TheSide) (h : Goes w jobs s log t) (said_so heard_so : ℕ → List Frag) → Knowing s t
      → ((name : EndId) (request : OpenRequest) → JobAt jobs s name request → Requests request.opening) → IsLed s.core → Sound t.core.monitor.circuits
      → (l : ℕ) → IsUsedUp s.core.monitor.circuits l → IsUsedUp t.core.monitor.circuits l
  used_then log s t h said_so heard_so knows own led sound l used =
      log_keeps_by (λ spoken listened m. IsUsedUp m.circuits l) jobs (used_kept (KnowsPlaces names NoPlace) Requests l) w on log s t h said_so heard_so knows own led sound used

  pub log_tells : (log : List LogEntry) (s t : TheRun TheSide) (h : Goes w jobs s log t) (said_so heard_so : ℕ → List Frag) → AreAmple log → Knowing s t
      → ((u : TheRun TheSide) (rest : List LogEntry) → Goes w jobs u rest t → IsSound u.core → (d : ℕ) (x : TheDispatcher) → slice_get u.core.board.dispatchers d ≡ Some x
      → length x.ends ≡ 1024 → Full d)
      → ((u : TheRun TheSide) (rest : List LogEntry) → Goes w jobs u rest t → IsLed u.core → (request : OpenRequest) → place_of u.core (client_of request.opening.binding) ≡ None
      → IsUsedUp u.core.monitor.circuits request.link.0 → Gone request)
      → ((name : EndId) (request : OpenRequest) → JobAt jobs s name request → Requests request.opening) → IsLed s.core → Placed s.core
      → Sound t.core.monitor.circuits → AreReasonedFrom names NoPlace Requests t0 said_so heard_so s.core.monitor
      → (refusal_at t e ≡ refusal_at s e) ⊎ Tells jobs Requests Full Gone t0 t.core.monitor e (then_said said_so (log_steps w jobs log s t h)) s
      (then_heard heard_so (log_steps w jobs log s t h)) (refusal_at t e)
  log_tells [] s t h said_so heard_so ample knows fulls gones own led placed sound n = inl (ap (λ (x : TheRun TheSide). refusal_at x e) h)
  log_tells (log_entry ∷ log) s t h said_so heard_so ample knows fulls gones own led placed sound n =
      let m = h.1.0 in
      let u = h.0 in
      let aside : u.core ≡ m.core = core_aside m u log_entry h.1.2 in
      let first = event_steps w jobs log_entry s m h.2 h.1.1 in
      let rest = log_steps w jobs log u t h.3 in
      let sound_u = sound_first w jobs log u t h.3 sound in
      let sound_m : Sound m.core.monitor.circuits = subst (λ (k : TheCore). Sound k.monitor.circuits) aside sound_u in
      let one = does_keep (AreReasonedFrom names NoPlace Requests t0) jobs (reasons_kept names jobs NoPlace Requests requested t0) w on said_so heard_so s m h.1.3.core h.1.3.table sound_m led (knows s (log_entry ∷ log) h h.1.3 refl) own n log_entry h.2 h.1.4 h.1.1 in
      let now = subst (λ (k : TheCore). AreReasonedFrom names NoPlace Requests t0 (then_said said_so first) (then_heard heard_so first) k.monitor) (sym aside) one in
      let led_u : IsLed u.core = subst IsLed (sym aside) (does_led w jobs s m h.1.3.core h.1.3.table led log_entry h.2 h.1.1) in
      let still : Knowing u t = λ v later_on g board same msg. knows v later_on g board (same ∙ offers_stay w log_entry s m u h.1.1 h.1.2) msg in
      let own_u = λ (name : EndId) (request : OpenRequest) (a : JobAt jobs u name request). own name request (job_before jobs s u name request (event_jobs w log_entry s m u h.1.1 h.1.2) a) in
      elim (log_tells log u t h.3 (then_said said_so first) (then_heard heard_so first) ample.1 still fulls gones own_u led_u (placed_on log_entry log s t h placed) sound now) [
        | inl same ↦ elim (event_notes w log_entry s m u e h.1.1 h.1.2) [
          | inl before ↦ inl (same ∙ before)
          | inr new ↦ inr (more_told jobs Requests Full Gone t0 t.core.monitor e s (then_said said_so (first ++ rest)) (then_said said_so (first ++ rest)) (then_heard heard_so first)
              (then_heard heard_so (first ++ rest)) (λ l f has. has) (λ l f has. subst (Has f) (sym (heard_joins heard_so first rest l)) (has_first f (then_heard heard_so first l) (of_circuit 0 (taken_from l rest)) has)) (refusal_at t e)
              (event_tells w names NoPlace Requests t0 jobs said_so heard_so s m h.1.3.table placed n e (then_said said_so (first ++ rest)) t.core.monitor
              (only_then (log_entry ∷ log) s t h said_so heard_so knows own led sound) (used_then (log_entry ∷ log) s t h said_so heard_so knows own led sound)
              Full (fulls s (log_entry ∷ log) h h.1.3) Gone (gones s (log_entry ∷ log) h led) log_entry h.2 h.1.1 (refusal_at t e) ample.0 (subst (New e log_entry) (sym same) new)))
        ]
        | inr later ↦ inr (more_told jobs Requests Full Gone t0 t.core.monitor e s (then_said (then_said said_so first) rest) (then_said said_so (first ++ rest))
            (then_heard (then_heard heard_so first) rest) (then_heard heard_so (first ++ rest)) (λ l f has. subst (Has f) (said_joins said_so first rest l) has)
            (λ l f has. subst (Has f) (sym (heard_joins heard_so first rest l)) has) (refusal_at t e)
            (told_before jobs Requests Full Gone t0 t.core.monitor e s u (then_said (then_said said_so first) rest) (then_heard (then_heard heard_so first) rest) (event_jobs w log_entry s m u h.1.1 h.1.2) (refusal_at t e) later))
      ]
