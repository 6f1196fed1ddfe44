-- What a core was given stays over a log: the jobs of its ends' progress, and what it offers.
use Rattle.std.proofs.Common.{◌≡◌, ◌≢◌, refl, sym, ap, ◌∙◌, subst, ℕ, ◌==◌, List, length, slice_get, slice_set}
use Rattle.std.proofs.Common.{Option, Some, None, Bool, true, false, Result, Ok, Err, arith}
use Rattle.std.proofs.lemmas.Bool.Decides.{nat_tests}
use Rattle.fl_base.specs.declared.identity.EndId.{EndId}
use Rattle.fl_base.specs.Given.{given}
use Rattle.fl_core.proofs.BoardPlaces.{one_stands, set_here, set_elsewhere}
use Rattle.fl_core.specs.declared.turn_answer.TurnAnswer.{TurnAnswer}
use Rattle.fl_core.specs.declared.turn_answer.TurnAnswer.TheVariants as turn
use Rattle.fl_endpoint.specs.declared.fault.EndFault.{EndFault}
use Rattle.fl_hop.specs.declared.forward.ForwardOutcome.TheVariants.{Moved, Full, Spent}
use Rattle.fl_monitor.specs.declared.fault.MonitorFault.TheVariants as monitor
use Rattle.fl_core.specs.declared.answer.MonitorAnswer.{MonitorAnswer}
use Rattle.fl_core.specs.declared.answer.MonitorAnswer.TheVariants as heard_as
use Rattle.fl_core.specs.declared.fault.LinkReceiveFault.{LinkReceiveFault}
use Rattle.fl_core.specs.declared.fault.OpenFault.{OpenFault}
use Rattle.fl_core.specs.declared.fault.OpenFault.TheVariants as opening
use Rattle.fl_core.specs.declared.wiring.Outlet.TheVariants as outlet
use Rattle.fl_core.specs.declared.wiring.Inlet.TheVariants as inlet
use Rattle.fl_core.specs.declared.core_job.CoreJob.{CoreJob}
use Rattle.fl_core.specs.declared.core_job.CoreJob.TheVariants as job
use Rattle.fl_core.specs.declared.core_job.OpenRequest.{OpenRequest}
use Rattle.fl_core_run.specs.EndProgress.{TheEndProgress, progress_place, advanced, with_handled, with_refusal, ChangesIf}
use Rattle.fl_core_run.specs.Run.{SideRelations, TheRun, AtProgress, next_job}
use Rattle.fl_core_run.specs.LogEntries.{LogEntry, looked, passed, arrived, heard, said, told, opened, called, ruled, wrote, acked, turned, Does, NotesHeard, NotesOpened, NotesCalled, NotesTurned, Notes}
use Rattle.fl_core_run_laws.specs.Made.{progress_of}
use Rattle.fl_core_run_laws.proofs.Aside.{progresses_alone}
use Rattle.fl_core_run_laws.proofs.Handling.{progresses_stay, as_many, same_place}

-- ---- the next job of an end's progress

-- an end's progress has a request as one of its jobs
pub record JobAt {S : Type 0} (jobs : List CoreJob) (s : TheRun S) (name : EndId) (request : OpenRequest) : Type 0 where
  pub progress : TheEndProgress
  pub progress_is : progress_of s name ≡ Some progress
  pub turn : ℕ
  pub place : ℕ
  pub place_is : slice_get progress.jobs turn ≡ Some place
  pub job_is : slice_get jobs place ≡ Some (job.Open request)

module _ {S : Type 0} (jobs : List CoreJob) (s : TheRun S) (name : EndId) (request : OpenRequest) where
  at_place : (progress : TheEndProgress) → progress_of s name ≡ Some progress → (o : Option ℕ) → slice_get progress.jobs progress.done ≡ o
      → given o None (λ place. slice_get jobs place) ≡ Some (job.Open request) → JobAt jobs s name request
  at_place progress is None at h = absurd (cc)
  at_place progress is (Some place) at h = record { progress = progress; progress_is = is; turn = progress.done; place = place; place_is = at; job_is = h }

  at_progress : (n : ℕ) → progress_place s.progresses name ≡ Some n → (o : Option TheEndProgress) → slice_get s.progresses n ≡ o
      → given o None (λ progress. given (slice_get progress.jobs progress.done) None λ place. slice_get jobs place) ≡ Some (job.Open request) → JobAt jobs s name request
  at_progress n here None at h = absurd (cc)
  at_progress n here (Some progress) at h =
      at_place progress (ap (λ (o : Option ℕ). given o None λ i. slice_get s.progresses i) here ∙ at) (slice_get progress.jobs progress.done) refl h

  by_place : (o : Option ℕ) → progress_place s.progresses name ≡ o
      → given o None (λ n. given (slice_get s.progresses n) None λ progress. given (slice_get progress.jobs progress.done) None λ place. slice_get jobs place) ≡ Some (job.Open request)
      → JobAt jobs s name request
  by_place None here h = absurd (cc)
  by_place (Some n) here h = at_progress n here (slice_get s.progresses n) refl h

  pub job_there : next_job jobs s name ≡ Some (job.Open request) → JobAt jobs s name request
  job_there h = by_place (progress_place s.progresses name) refl h

-- ---- ends' progress keep their jobs

-- each end's progress of these was one of those, at its place, with the same jobs
abbrev pub JobsStay : List TheEndProgress → List TheEndProgress → Type 0
JobsStay xs ys = (length ys ≡ length xs) × ((n : ℕ) (u : TheEndProgress) → slice_get ys n ≡ Some u → (d : TheEndProgress) × (slice_get xs n ≡ Some d) × (u.jobs ≡ d.jobs))

pub all_stay : (xs ys : List TheEndProgress) → ys ≡ xs → JobsStay xs ys
all_stay xs ys same = (ap length same, λ n u at. (u, ap (λ (zs : List TheEndProgress). slice_get zs n) (sym same) ∙ at, refl))

pub stay_then : (xs ys zs : List TheEndProgress) → JobsStay xs ys → JobsStay ys zs → JobsStay xs zs
stay_then xs ys zs g h = (
  h.0 ∙ g.0,
  λ n u at. (let (d, there, same) = h.1 n u at in let (e, stood, too) = g.1 n d there in (e, stood, same ∙ too)),
)

one_set : (xs : List TheEndProgress) (i n : ℕ) (d v u : TheEndProgress) (b : Bool) → slice_get xs i ≡ Some d → v.jobs ≡ d.jobs → (i == n) ≡ b → slice_get (slice_set xs i v) n ≡ Some u
    → (x : TheEndProgress) × (slice_get xs n ≡ Some x) × (u.jobs ≡ x.jobs)
one_set xs i n d v u true there keeps same at =
    let eq : i ≡ n = grind (arith, nat_tests, same) in
    let here : slice_get (slice_set xs i v) n ≡ Some v = subst (λ (j : ℕ). slice_get (slice_set xs i v) j ≡ Some v) eq (set_here xs i d v there) in
    let is : v ≡ u = one_stands (slice_set xs i v) n v u here at in
    (d, subst (λ (j : ℕ). slice_get xs j ≡ Some d) eq there, sym (ap (λ (x : TheEndProgress). x.jobs) is) ∙ keeps)
one_set xs i n d v u false there keeps same at =
    let ne : n ≢ i = λ e. absurd (grind (arith, nat_tests, same, e)) in
    (u, sym (set_elsewhere xs i n v ne) ∙ at, refl)

changes_by : (o : Option ℕ) (xs ys : List TheEndProgress) (change : TheEndProgress → TheEndProgress) → ((x : TheEndProgress) → (change x).jobs ≡ x.jobs) → ChangesIf o xs change ys → JobsStay xs ys
changes_by None xs ys change keeps h = all_stay xs ys h
changes_by (Some i) xs ys change keeps h = (
  as_many (Some i) xs ys change h,
  λ n u at. one_set xs i n h.progress (change h.progress) u (i == n) h.progress_is (keeps h.progress) refl (ap (λ (zs : List TheEndProgress). slice_get zs n) (sym h.rest) ∙ at),
)

module _ {S : Type 0} (m t : TheRun S) where
  abbrev Stay : Type 0
  Stay = JobsStay m.progresses t.progresses

  same : t ≡ m → Stay
  same h = all_stay m.progresses t.progresses (ap (λ (x : TheRun S). x.progresses) h)

  changes : (e : EndId) (change : TheEndProgress → TheEndProgress) → ((x : TheEndProgress) → (change x).jobs ≡ x.jobs) → AtProgress e change m t → Stay
  changes e change keeps h = changes_by (progress_place m.progresses e) m.progresses t.progresses change keeps h.changes

  refuses : (e : EndId) (n : ℕ) → AtProgress e (λ d. advanced (with_refusal n d)) m t → Stay
  refuses e n h = changes e (λ d. advanced (with_refusal n d)) (λ x. refl) h

  noted_heard : (answer : Result MonitorAnswer LinkReceiveFault) → NotesHeard answer m t → Stay
  noted_heard (Ok (heard_as.OpeningRefused e reason)) h = changes e (with_refusal reason) (λ x. refl) h
  noted_heard (Ok heard_as.Full) h = same h
  noted_heard (Ok heard_as.Done) h = same h
  noted_heard (Ok (heard_as.Opened e)) h = same h
  noted_heard (Err fault) h = same h

  noted_opened : (e : EndId) (answer : Result ℕ OpenFault) → NotesOpened e answer m t → Stay
  noted_opened e (Ok k) h = changes e advanced (λ x. refl) h
  noted_opened e (Err (opening.Board fault)) h = refuses e _ h
  noted_opened e (Err (opening.Monitor monitor.OutboxFull)) h = same h
  noted_opened e (Err (opening.Monitor monitor.Misrouted)) h = refuses e _ h
  noted_opened e (Err (opening.Monitor monitor.Differs)) h = refuses e _ h
  noted_opened e (Err (opening.Monitor monitor.NoRoute)) h = refuses e _ h
  noted_opened e (Err (opening.Monitor monitor.UsedUp)) h = refuses e _ h
  noted_opened e (Err (opening.Monitor monitor.PlansDiffer)) h = refuses e _ h
  noted_opened e (Err (opening.Monitor monitor.Memory)) h = refuses e _ h

  noted_called : (e : EndId) (answer : Result (Unit {0}) EndFault) → NotesCalled e answer m t → Stay
  noted_called e (Ok done) h = changes e advanced (λ x. refl) h
  noted_called e (Err fault) h = same h

  noted_turned : (e : EndId) (answer : TurnAnswer) → NotesTurned e answer m t → Stay
  noted_turned e (turn.Handle call) h = changes e (with_handled call) (λ x. refl) h
  noted_turned e turn.Part h = same h
  noted_turned e turn.Ready h = same h
  noted_turned e turn.Quiet h = same h
  noted_turned e turn.Full h = same h
  noted_turned e turn.Nothing h = same h
  noted_turned e (turn.Refused fault) h = same h

  noted : (log_entry : LogEntry) → Notes log_entry m t → JobsStay m.progresses t.progresses
  noted (looked n l answer) h = same h
  noted (passed n k frag c outcome) h = same h
  noted (arrived n l frag e answer) h = same h
  noted (heard n l frag answer) h = noted_heard answer h
  noted (said n l answer) h = same h
  noted (told n l answer) h = same h
  noted (opened e request answer) h = noted_opened e answer h
  noted (called e c answer) h = noted_called e answer h
  noted (ruled e msg reply answer) h = changes e advanced (λ x. refl) h
  noted (wrote e out answer) h = same h
  noted (acked e n answer) h = same h
  noted (turned d e from answer) h = noted_turned e answer h

-- over one event, with what is noted of it
pub event_jobs : {S : Type 0} (w : SideRelations S) (log_entry : LogEntry) (s m t : TheRun S) → Does w log_entry s m → Notes log_entry m t → JobsStay s.progresses t.progresses
event_jobs w log_entry s m t does notes =
    stay_then s.progresses m.progresses t.progresses (all_stay s.progresses m.progresses (progresses_stay w log_entry s m does)) (noted m t log_entry notes)

-- the end's progress that an end has then had those jobs
pub progress_before : {S : Type 0} (s t : TheRun S) (name : EndId) (u : TheEndProgress) → JobsStay s.progresses t.progresses → progress_of t name ≡ Some u
    → (d : TheEndProgress) × (progress_of s name ≡ Some d) × (u.jobs ≡ d.jobs)
progress_before s t name u stay is = by (progress_place s.progresses name) refl where
  place : progress_place t.progresses name ≡ progress_place s.progresses name
  place = same_place s.progresses t.progresses name stay.0

  by : (o : Option ℕ) → progress_place s.progresses name ≡ o → (d : TheEndProgress) × (progress_of s name ≡ Some d) × (u.jobs ≡ d.jobs)
  by None at =
      let none : None ≡ Some u = sym (ap (λ (o : Option ℕ). given o None λ n. slice_get t.progresses n) (place ∙ at)) ∙ is in
      absurd (cc)
  by (Some n) at =
      let there : slice_get t.progresses n ≡ Some u = sym (ap (λ (o : Option ℕ). given o None λ i. slice_get t.progresses i) (place ∙ at)) ∙ is in
      let (d, stood, jobs_are) = stay.1 n u there in
      (d, ap (λ (o : Option ℕ). given o None λ i. slice_get s.progresses i) at ∙ stood, jobs_are)

-- so what was one of its jobs then was one before
pub job_before : {S : Type 0} (jobs : List CoreJob) (s u : TheRun S) (name : EndId) (request : OpenRequest) → JobsStay s.progresses u.progresses → JobAt jobs u name request → JobAt jobs s name request
job_before jobs s u name request stay a =
    let (progress, is, same) = progress_before s u name a.progress stay a.progress_is in
    record {
      progress = progress;
      progress_is = is;
      turn = a.turn;
      place = a.place;
      place_is = sym (ap (λ (xs : List ℕ). slice_get xs a.turn) same) ∙ a.place_is;
      job_is = a.job_is;
    }

-- ---- what a core offers

offers_done : {S : Type 0} (w : SideRelations S) (log_entry : LogEntry) (s m : TheRun S) → Does w log_entry s m → m.offers ≡ s.offers
offers_done w (looked n l answer) s m h = ap (λ (x : TheRun _). x.offers) h.rest
offers_done w (passed n k frag c Moved) s m h = ap (λ (x : TheRun _). x.offers) h.2.rest ∙ ap (λ (x : TheRun _). x.offers) h.1.rest
offers_done w (passed n k frag c Full) s m h = ap (λ (x : TheRun _). x.offers) h.rest
offers_done w (passed n k frag c Spent) s m h = ap (λ (x : TheRun _). x.offers) h.rest
offers_done w (arrived n l frag e answer) s m h = ap (λ (x : TheRun _). x.offers) h.rest
offers_done w (heard n l frag answer) s m h = ap (λ (x : TheRun _). x.offers) h.rest
offers_done w (said n l answer) s m h = ap (λ (x : TheRun _). x.offers) h.rest
offers_done w (told n l answer) s m h = ap (λ (x : TheRun _). x.offers) h.rest
offers_done w (opened name request answer) s m h = ap (λ (x : TheRun _). x.offers) h.rest
offers_done w (called name c answer) s m h = ap (λ (x : TheRun _). x.offers) h.2.rest
offers_done w (ruled name msg reply answer) s m h = ap (λ (x : TheRun _). x.offers) h.2.rest
offers_done w (wrote name (outlet.Queue n) answer) s m h = ap (λ (x : TheRun _). x.offers) h.2.rest
offers_done w (wrote name (outlet.Side n) answer) s m h = ap (λ (x : TheRun _). x.offers) h.2.rest
offers_done w (acked name n answer) s m h = ap (λ (x : TheRun _). x.offers) h.2.rest
offers_done w (turned d name (inlet.Queue n) answer) s m h = ap (λ (x : TheRun _). x.offers) h.3.rest
offers_done w (turned d name (inlet.Side n) answer) s m h = ap (λ (x : TheRun _). x.offers) h.3.rest
offers_done w (turned d name inlet.Arrivals answer) s m h = ap (λ (x : TheRun _). x.offers) h.3.rest

pub offers_stay : {S : Type 0} (w : SideRelations S) (log_entry : LogEntry) (s m t : TheRun S) → Does w log_entry s m → Notes log_entry m t → t.offers ≡ s.offers
offers_stay w log_entry s m t does notes =
    let alone : t.offers ≡ m.offers = ap (λ (x : TheRun _). x.offers) (progresses_alone m t log_entry notes) in
    alone ∙ offers_done w log_entry s m does
