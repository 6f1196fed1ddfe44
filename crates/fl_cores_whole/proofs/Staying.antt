-- What a core was given stays over an event: its services and programs, and the jobs of its ends' progress, of which what is done stays
-- done. And by a table of the same neighbours a route begins on the same link.
use Rattle.std.proofs.Common.{◌≡◌, inl, inr, refl, sym, ◌∙◌, ap, subst, ℕ, ◌+◌, ◌≤◌, ◌==◌, not, nat_lt, if◌then◌else◌, List, [], ◌∷◌}
use Rattle.std.proofs.Common.{length, map, position, slice_get}
use Rattle.std.proofs.Common.{Option, Some, None, Result, Ok, Err, arith}
use Rattle.std.specs.List.{position_or_len}
use Rattle.fl_base.specs.declared.identity.CoreId.{CoreId}
use Rattle.fl_base.specs.declared.identity.EndId.{EndId}
use Rattle.fl_base.specs.Given.{given}
use Rattle.fl_hop.proofs.Lists.{set_cases}
use Rattle.fl_hop.specs.declared.forward.ForwardOutcome.TheVariants.{Moved, Full, Spent}
use Rattle.fl_hop.specs.declared.links.LinkState.{LinkState}
use Rattle.fl_hop.specs.Table.{TheCircuits, link_of}
use Rattle.fl_endpoint.specs.declared.fault.EndFault.{EndFault}
use Rattle.fl_monitor.specs.declared.fault.MonitorFault.TheVariants as monitor
use Rattle.fl_monitor.specs.Monitors.{first_link}
use Rattle.fl_monitor.specs.Routing.{is_route}
use Rattle.fl_core.specs.declared.turn_answer.TurnAnswer.{TurnAnswer}
use Rattle.fl_core.specs.declared.turn_answer.TurnAnswer.TheVariants as turn
use Rattle.fl_core.specs.declared.answer.MonitorAnswer.{MonitorAnswer}
use Rattle.fl_core.specs.declared.answer.MonitorAnswer.TheVariants as heard_as
use Rattle.fl_core.specs.declared.fault.LinkReceiveFault.{LinkReceiveFault}
use Rattle.fl_core.specs.declared.fault.OpenFault.{OpenFault}
use Rattle.fl_core.specs.declared.fault.OpenFault.TheVariants as opening
use Rattle.fl_core.specs.declared.wiring.Outlet.TheVariants as outlet
use Rattle.fl_core.specs.declared.wiring.Inlet.TheVariants as inlet
use Rattle.fl_core.specs.declared.core_job.CoreJob.{CoreJob}
use Rattle.fl_core.specs.declared.core_job.CoreJob.TheVariants as job
use Rattle.fl_core.specs.declared.core_job.OpenRequest.{OpenRequest}
use Rattle.fl_core_run.specs.EndProgress.{TheEndProgress, progress_place, advanced, with_handled, with_refusal, ChangesIf}
use Rattle.fl_core_run.specs.Run.{SideRelations, TheRun, AtProgress, next_job}
use Rattle.fl_core_run.specs.LogEntries.{LogEntry, looked, passed, arrived, heard, said, told, opened, called, ruled, wrote, acked, turned}
use Rattle.fl_core_run.specs.LogEntries.{Does, Notes}
use Rattle.fl_core_run.specs.LogEntries.{NotesHeard, NotesOpened, NotesCalled, NotesTurned}
use Rattle.fl_core_run_laws.proofs.Aside.{progresses_alone}
use Rattle.fl_core_run_laws.proofs.Handling.{progresses_stay, same_place}
use Rattle.fl_cores_joined.proofs.Earlier.{to_whom, SameLinks}
use Rattle.fl_cores_joined.proofs.Joining.{long_set}
use Rattle.fl_cores_joined.proofs.Passing.{long_map}

-- ---- what it offers

offers_done : {S : Type 0} (w : SideRelations S) (log_entry : LogEntry) (s m : TheRun S) → Does w log_entry s m → m.offers ≡ s.offers
offers_done w (looked n l answer) s m h = ap (λ (x : TheRun _). x.offers) h.rest
offers_done w (passed n k frag c Moved) s m h = ap (λ (x : TheRun _). x.offers) h.2.rest ∙ ap (λ (x : TheRun _). x.offers) h.1.rest
offers_done w (passed n k frag c Full) s m h = ap (λ (x : TheRun _). x.offers) h.rest
offers_done w (passed n k frag c Spent) s m h = ap (λ (x : TheRun _). x.offers) h.rest
offers_done w (arrived n l frag e answer) s m h = ap (λ (x : TheRun _). x.offers) h.rest
offers_done w (heard n l frag answer) s m h = ap (λ (x : TheRun _). x.offers) h.rest
offers_done w (said n l answer) s m h = ap (λ (x : TheRun _). x.offers) h.rest
offers_done w (told n l answer) s m h = ap (λ (x : TheRun _). x.offers) h.rest
offers_done w (opened name request answer) s m h = ap (λ (x : TheRun _). x.offers) h.rest
offers_done w (called name c answer) s m h = ap (λ (x : TheRun _). x.offers) h.2.rest
offers_done w (ruled name msg reply answer) s m h = ap (λ (x : TheRun _). x.offers) h.2.rest
offers_done w (wrote name (outlet.Queue n) answer) s m h = ap (λ (x : TheRun _). x.offers) h.2.rest
offers_done w (wrote name (outlet.Side n) answer) s m h = ap (λ (x : TheRun _). x.offers) h.2.rest
offers_done w (acked name n answer) s m h = ap (λ (x : TheRun _). x.offers) h.2.rest
offers_done w (turned d name (inlet.Queue n) answer) s m h = ap (λ (x : TheRun _). x.offers) h.3.rest
offers_done w (turned d name (inlet.Side n) answer) s m h = ap (λ (x : TheRun _). x.offers) h.3.rest
offers_done w (turned d name inlet.Arrivals answer) s m h = ap (λ (x : TheRun _). x.offers) h.3.rest

pub offers_stay : {S : Type 0} (w : SideRelations S) (log_entry : LogEntry) (s m t : TheRun S) → Does w log_entry s m → Notes log_entry m t → t.offers ≡ s.offers
offers_stay w log_entry s m t does notes =
    let alone : t.offers ≡ m.offers = ap (λ (x : TheRun _). x.offers) (progresses_alone m t log_entry notes) in
    alone ∙ offers_done w log_entry s m does

-- ---- its ends' progress

-- the same jobs, of which no fewer are done
pub record GoesOn (x y : TheEndProgress) : Type 0 where
  pub jobs : y.jobs ≡ x.jobs
  pub done : x.done ≤ y.done

pub record AllGoOn (xs ys : List TheEndProgress) : Type 0 where
  pub long : length ys ≡ length xs
  pub each : (n : ℕ) (y : TheEndProgress) → slice_get ys n ≡ Some y → (x : TheEndProgress) × (slice_get xs n ≡ Some x) × GoesOn x y

itself : (x : TheEndProgress) → GoesOn x x
itself x = record { jobs = refl; done = omega arith }

one_more_done : (x : TheEndProgress) → GoesOn x (advanced x)
one_more_done x = record { jobs = refl; done = omega arith }

pub all_same : (xs ys : List TheEndProgress) → ys ≡ xs → AllGoOn xs ys
all_same xs ys same = record {
  long = ap length same;
  each = λ n y at. (y, ap (λ (l : List TheEndProgress). slice_get l n) (sym same) ∙ at, itself y);
}

changes_by : (o : Option ℕ) (xs ys : List TheEndProgress) (change : TheEndProgress → TheEndProgress) → ((x : TheEndProgress) → GoesOn x (change x))
    → ChangesIf o xs change ys → AllGoOn xs ys
changes_by None xs ys change on h = all_same xs ys h
changes_by (Some k) xs ys change on h = record {
  long = ap length h.rest ∙ long_set xs k (change h.progress);
  each = λ n y at.
      elim (set_cases xs k (change h.progress) n y (ap (λ (l : List TheEndProgress). slice_get l n) (sym h.rest) ∙ at)) [
        | inl (place, same) ↦
            (h.progress, ap (slice_get xs) place ∙ h.progress_is, subst (λ (z : TheEndProgress). GoesOn h.progress z) (sym same) (on h.progress))
        | inr (other, was) ↦ (y, was, itself y)
      ];
}

module _ {S : Type 0} (m t : TheRun S) where
  abbrev On : Type 0
  On = AllGoOn m.progresses t.progresses

  nothing : t ≡ m → On
  nothing same = all_same m.progresses t.progresses (ap (λ (x : TheRun S). x.progresses) same)

  changes : (e : EndId) (change : TheEndProgress → TheEndProgress) → ((x : TheEndProgress) → GoesOn x (change x)) → AtProgress e change m t → On
  changes e change on h = changes_by (progress_place m.progresses e) m.progresses t.progresses change on h.changes

  refused_first : (number : ℕ) (x : TheEndProgress) → GoesOn x (advanced (with_refusal number x))
  refused_first number x = record { jobs = refl; done = omega arith }

  noted_heard : (answer : Result MonitorAnswer LinkReceiveFault) → NotesHeard answer m t → On
  noted_heard (Ok (heard_as.OpeningRefused e reason)) h = changes e (with_refusal reason) (λ x. record { jobs = refl; done = omega arith }) h
  noted_heard (Ok heard_as.Full) h = nothing h
  noted_heard (Ok heard_as.Done) h = nothing h
  noted_heard (Ok (heard_as.Opened e)) h = nothing h
  noted_heard (Err fault) h = nothing h

  noted_opened : (e : EndId) (answer : Result ℕ OpenFault) → NotesOpened e answer m t → On
  noted_opened e (Ok k) h = changes e advanced one_more_done h
  noted_opened e (Err (opening.Board fault)) h = changes e _ (refused_first _) h
  noted_opened e (Err (opening.Monitor monitor.OutboxFull)) h = nothing h
  noted_opened e (Err (opening.Monitor monitor.Misrouted)) h = changes e _ (refused_first _) h
  noted_opened e (Err (opening.Monitor monitor.Differs)) h = changes e _ (refused_first _) h
  noted_opened e (Err (opening.Monitor monitor.NoRoute)) h = changes e _ (refused_first _) h
  noted_opened e (Err (opening.Monitor monitor.UsedUp)) h = changes e _ (refused_first _) h
  noted_opened e (Err (opening.Monitor monitor.PlansDiffer)) h = changes e _ (refused_first _) h
  noted_opened e (Err (opening.Monitor monitor.Memory)) h = changes e _ (refused_first _) h

  noted_called : (e : EndId) (answer : Result (Unit {0}) EndFault) → NotesCalled e answer m t → On
  noted_called e (Ok done) h = changes e advanced one_more_done h
  noted_called e (Err fault) h = nothing h

  noted_turned : (e : EndId) (answer : TurnAnswer) → NotesTurned e answer m t → On
  noted_turned e (turn.Handle call) h = changes e (with_handled call) (λ x. record { jobs = refl; done = omega arith }) h
  noted_turned e turn.Part h = nothing h
  noted_turned e turn.Ready h = nothing h
  noted_turned e turn.Quiet h = nothing h
  noted_turned e turn.Full h = nothing h
  noted_turned e turn.Nothing h = nothing h
  noted_turned e (turn.Refused fault) h = nothing h

  noted : (log_entry : LogEntry) → Notes log_entry m t → On
  noted (looked n l answer) h = nothing h
  noted (passed n k frag c outcome) h = nothing h
  noted (arrived n l frag e answer) h = nothing h
  noted (heard n l frag answer) h = noted_heard answer h
  noted (said n l answer) h = nothing h
  noted (told n l answer) h = nothing h
  noted (opened e request answer) h = noted_opened e answer h
  noted (called e c answer) h = noted_called e answer h
  noted (ruled e msg reply answer) h = changes e advanced one_more_done h
  noted (wrote e out answer) h = nothing h
  noted (acked e n answer) h = nothing h
  noted (turned d e from answer) h = noted_turned e answer h

pub progresses_go : {S : Type 0} (w : SideRelations S) (log_entry : LogEntry) (s m t : TheRun S) → Does w log_entry s m → Notes log_entry m t
    → AllGoOn s.progresses t.progresses
progresses_go w log_entry s m t does notes =
    subst (λ (l : List TheEndProgress). AllGoOn l t.progresses) (progresses_stay w log_entry s m does) (noted m t log_entry notes)

pub go_then : (xs ys zs : List TheEndProgress) → AllGoOn xs ys → AllGoOn ys zs → AllGoOn xs zs
go_then xs ys zs g h = record {
  long = h.long ∙ g.long;
  each = λ n z at.
      let (y, y_is, on) = h.each n z at in
      let (x, x_is, before) = g.each n y y_is in
      (x, x_is, then_on x y z before on);
}
  where
    then_on : (x y z : TheEndProgress) → GoesOn x y → GoesOn y z → GoesOn x z
    then_on x y z p q = record { jobs = q.jobs ∙ p.jobs; done = let a = p.done in let b = q.done in omega (arith, a, b) }

-- the progress of an end
abbrev pub progress_at : List TheEndProgress → EndId → Option TheEndProgress
progress_at progresses e = given (progress_place progresses e) None (λ n. slice_get progresses n)

-- it goes on from the end's progress before
pub progress_before : (xs ys : List TheEndProgress) (e : EndId) (d : TheEndProgress) → AllGoOn xs ys → progress_at ys e ≡ Some d
    → (f : TheEndProgress) × (progress_at xs e ≡ Some f) × GoesOn f d
progress_before xs ys e d on h = by (progress_place xs e) refl
  where
    by : (o : Option ℕ) → progress_place xs e ≡ o → (f : TheEndProgress) × (progress_at xs e ≡ Some f) × GoesOn f d
    by None at =
        let none : None ≡ Some d = sym (ap (λ (o : Option ℕ). given o None λ n. slice_get ys n) (same_place xs ys e on.long ∙ at)) ∙ h in
        absurd (cc)
    by (Some n) at =
        let there : slice_get ys n ≡ Some d = sym (ap (λ (o : Option ℕ). given o None λ i. slice_get ys i) (same_place xs ys e on.long ∙ at)) ∙ h in
        let (f, f_is, goes) = on.each n d there in
        (f, ap (λ (o : Option ℕ). given o None λ i. slice_get xs i) at ∙ f_is, goes)

-- ---- its ends' jobs

-- a request is one of an end's jobs
pub record HasJob (jobs : List CoreJob) (progresses : List TheEndProgress) (name : EndId) (request : OpenRequest) : Type 0 where
  pub progress : TheEndProgress
  pub progress_is : progress_at progresses name ≡ Some progress
  pub turn : ℕ
  pub place : ℕ
  pub place_is : slice_get progress.jobs turn ≡ Some place
  pub job_is : slice_get jobs place ≡ Some (job.Open request)

-- it was one before
pub job_before : (jobs : List CoreJob) (xs ys : List TheEndProgress) (name : EndId) (request : OpenRequest) → AllGoOn xs ys
    → HasJob jobs ys name request → HasJob jobs xs name request
job_before jobs xs ys name request on h =
    let (f, f_is, goes) = progress_before xs ys name h.progress on h.progress_is in
    record {
      progress = f;
      progress_is = f_is;
      turn = h.turn;
      place = h.place;
      place_is = ap (λ (l : List ℕ). slice_get l h.turn) (sym goes.jobs) ∙ h.place_is;
      job_is = h.job_is;
    }

-- it is the one that is next
pub record IsNext (jobs : List CoreJob) (progresses : List TheEndProgress) (name : EndId) (request : OpenRequest) : Type 0 where
  pub slot : ℕ
  pub slot_is : progress_place progresses name ≡ Some slot
  pub progress : TheEndProgress
  pub progress_is : slice_get progresses slot ≡ Some progress
  pub place : ℕ
  pub place_is : slice_get progress.jobs progress.done ≡ Some place
  pub job_is : slice_get jobs place ≡ Some (job.Open request)

module _ (jobs : List CoreJob) (progresses : List TheEndProgress) (name : EndId) (request : OpenRequest) where
  by_job : (slot : ℕ) → progress_place progresses name ≡ Some slot → (d : TheEndProgress) → slice_get progresses slot ≡ Some d
      → (o : Option ℕ) → slice_get d.jobs d.done ≡ o → given o None (λ place. slice_get jobs place) ≡ Some (job.Open request)
      → IsNext jobs progresses name request
  by_job slot here d there None at h = absurd (cc)
  by_job slot here d there (Some place) at h =
      record { slot = slot; slot_is = here; progress = d; progress_is = there; place = place; place_is = at; job_is = h }

  by_progress : (slot : ℕ) → progress_place progresses name ≡ Some slot → (o : Option TheEndProgress) → slice_get progresses slot ≡ o
      → given o None (λ d. given (slice_get d.jobs d.done) None λ place. slice_get jobs place) ≡ Some (job.Open request)
      → IsNext jobs progresses name request
  by_progress slot here None there h = absurd (cc)
  by_progress slot here (Some d) there h = by_job slot here d there (slice_get d.jobs d.done) refl h

  by_slot : (o : Option ℕ) → progress_place progresses name ≡ o
      → given o None (λ n. given (slice_get progresses n) None λ d. given (slice_get d.jobs d.done) None λ place. slice_get jobs place)
      ≡ Some (job.Open request) → IsNext jobs progresses name request
  by_slot None here h = absurd (cc)
  by_slot (Some slot) here h = by_progress slot here (slice_get progresses slot) refl h

pub next_there : {S : Type 0} (jobs : List CoreJob) (s : TheRun S) (name : EndId) (request : OpenRequest) → next_job jobs s name ≡ Some (job.Open request)
    → IsNext jobs s.progresses name request
next_there jobs s name request h = by_slot jobs s.progresses name request (progress_place s.progresses name) refl h

pub next_is_had : (jobs : List CoreJob) (progresses : List TheEndProgress) (name : EndId) (request : OpenRequest) → IsNext jobs progresses name request
    → HasJob jobs progresses name request
next_is_had jobs progresses name request next = record {
  progress = next.progress;
  progress_is = ap (λ (o : Option ℕ). given o None λ i. slice_get progresses i) next.slot_is ∙ next.progress_is;
  turn = next.progress.done;
  place = next.place;
  place_is = next.place_is;
  job_is = next.job_is;
}

-- ---- where a route begins

among : (core : ℕ) (links : List LinkState)
    → position_or_len (λ (a : LinkState). a.neighbour.0 == core) links ≡ position_or_len (λ (c : CoreId). c.0 == core) (map to_whom links)
among core [] = refl
among core (x ∷ links) = ap (λ (n : ℕ). if not (x.neighbour.0 == core) then 1 + n else 0) (among core links)

link_by : (t : TheCircuits) (core : ℕ) → link_of t core ≡ position (λ (c : CoreId). c.0 == core) (map to_whom t.links)
link_by t core =
    ap (λ (n : ℕ). if nat_lt n (length t.links) then Some n else None) (among core t.links)
    ∙ ap (λ (many : ℕ). if nat_lt (position_or_len (λ (c : CoreId). c.0 == core) (map to_whom t.links)) many
    then Some (position_or_len (λ (c : CoreId). c.0 == core) (map to_whom t.links)) else None) (sym (long_map to_whom t.links))

link_same : (t u : TheCircuits) → SameLinks t u → (core : ℕ) → link_of u core ≡ link_of t core
link_same t u same core = link_by u core ∙ ap (position (λ (c : CoreId). c.0 == core)) same.neighbours ∙ sym (link_by t core)

link_on : (t u : TheCircuits) → SameLinks t u → (o : Option CoreId) → given o None (λ (c : CoreId). link_of u c.0) ≡ given o None (λ (c : CoreId). link_of t c.0)
link_on t u same None = refl
link_on t u same (Some c) = link_same t u same c.0

pub first_same : (t u : TheCircuits) → SameLinks t u → (path : List CoreId) (server cores : ℕ) → first_link u path server cores ≡ first_link t path server cores
first_same t u same path server cores =
    ap (λ (core : ℕ). if is_route path core server cores then given (slice_get path 1) None (λ (c : CoreId). link_of u c.0) else None) same.core
    ∙ ap (λ (o : Option ℕ). if is_route path t.core server cores then o else None) (link_on t u same (slice_get path 1))
