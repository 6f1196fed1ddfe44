-- Ends' progress in a run: those with which it began are there in the end, with the same jobs.
use Rattle.std.proofs.Common.{◌≡◌, refl, sym, ap, ◌∙◌, ℕ, zero, suc, List, [], ◌∷◌, map, slice_get, slice_set, Option, Some, None, Result, Ok, Err}
use Rattle.std.proofs.lemmas.Option.{same_Some}
use Rattle.fl_base.specs.declared.identity.EndId.{EndId}
use Rattle.fl_ring.specs.SharedSides.{TheSide}
use Rattle.fl_endpoint.specs.declared.fault.EndFault.{EndFault}
use Rattle.fl_core.specs.declared.turn_answer.TurnAnswer.{TurnAnswer}
use Rattle.fl_core.specs.declared.turn_answer.TurnAnswer.TheVariants as turn
use Rattle.fl_monitor.specs.declared.fault.MonitorFault.TheVariants as monitor
use Rattle.fl_core.specs.declared.answer.MonitorAnswer.{MonitorAnswer}
use Rattle.fl_core.specs.declared.answer.MonitorAnswer.TheVariants as heard_as
use Rattle.fl_core.specs.declared.fault.LinkReceiveFault.{LinkReceiveFault}
use Rattle.fl_core.specs.declared.fault.OpenFault.{OpenFault}
use Rattle.fl_core.specs.declared.fault.OpenFault.TheVariants as opening
use Rattle.fl_core.specs.declared.core_job.CoreJob.{CoreJob}
use Rattle.fl_core_run.specs.EndProgress.{TheEndProgress, progress_place, advanced, with_handled, with_refusal, ChangesIf}
use Rattle.fl_core_run.specs.Run.{TheRun, AtProgress}
use Rattle.fl_core_run.specs.LogEntries.{LogEntry, looked, passed, arrived, heard, said, told, opened, called, ruled, wrote, acked, turned, NotesHeard, NotesOpened, NotesCalled, NotesTurned, Notes}
use Rattle.fl_core_run_laws.specs.Logs.{Goes}
use Rattle.fl_core_run_laws.proofs.Handling.{progresses_stay}
use Rattle.fl_cores_laws.specs.Cores.{shared_ways}

abbrev pub jobs_in : TheEndProgress → List ℕ
jobs_in d = d.jobs

-- ---- lists

pub to_map : {X Y : Type 0} (f : X → Y) (xs : List X) (n : ℕ) (x : X) → slice_get xs n ≡ Some x → slice_get (map f xs) n ≡ Some (f x)
to_map f [] n x at = absurd (cc)
to_map f (z ∷ xs) zero x at = let same : z ≡ x = cc in ap (λ y. Some (f y)) same
to_map f (z ∷ xs) (suc n) x at = to_map f xs n x at

-- what stands at one place of two lists that agree in this
same_there : {X Y : Type 0} (f : X → Y) (xs ys : List X) (n : ℕ) (x y : X) → map f ys ≡ map f xs → slice_get xs n ≡ Some x → slice_get ys n ≡ Some y → f y ≡ f x
same_there f xs ys n x y same at there =
    same_Some (f y) (f x) (sym (to_map f ys n y there) ∙ ap (λ zs. slice_get zs n) same ∙ to_map f xs n x at)

map_set : {X Y : Type 0} (f : X → Y) (xs : List X) (n : ℕ) (x y : X) → slice_get xs n ≡ Some x → f y ≡ f x → map f (slice_set xs n y) ≡ map f xs
map_set f [] n x y at same = refl
map_set f (z ∷ xs) zero x y at same = let is : x ≡ z = cc in ap (λ v. v ∷ map f xs) (same ∙ ap f is)
map_set f (z ∷ xs) (suc n) x y at same = ap (λ vs. f z ∷ vs) (map_set f xs n x y at same)

-- ---- one event

module _ (m t : TheRun TheSide) where
  abbrev Same : Type 0
  Same = map jobs_in t.progresses ≡ map jobs_in m.progresses

  changes : (o : Option ℕ) (change : TheEndProgress → TheEndProgress) → ((d : TheEndProgress) → (change d).jobs ≡ d.jobs) → ChangesIf o m.progresses change t.progresses → Same
  changes None change keeps h = ap (map jobs_in) h
  changes (Some n) change keeps h = ap (map jobs_in) h.rest ∙ map_set jobs_in m.progresses n h.progress (change h.progress) h.progress_is (keeps h.progress)

  at_progress : (e : EndId) (change : TheEndProgress → TheEndProgress) → ((d : TheEndProgress) → (change d).jobs ≡ d.jobs) → AtProgress e change m t → Same
  at_progress e change keeps h = changes (progress_place m.progresses e) change keeps h.changes

  nothing : t ≡ m → Same
  nothing same = ap (λ (x : TheRun TheSide). map jobs_in x.progresses) same

  noted_heard : (answer : Result MonitorAnswer LinkReceiveFault) → NotesHeard answer m t → Same
  noted_heard (Ok (heard_as.OpeningRefused e reason)) h = at_progress e (with_refusal reason) (λ d. refl) h
  noted_heard (Ok heard_as.Full) h = nothing h
  noted_heard (Ok heard_as.Done) h = nothing h
  noted_heard (Ok (heard_as.Opened e)) h = nothing h
  noted_heard (Err fault) h = nothing h

  noted_opened : (e : EndId) (answer : Result ℕ OpenFault) → NotesOpened e answer m t → Same
  noted_opened e (Ok k) h = at_progress e advanced (λ d. refl) h
  noted_opened e (Err (opening.Board fault)) h = at_progress e _ (λ d. refl) h
  noted_opened e (Err (opening.Monitor monitor.OutboxFull)) h = nothing h
  noted_opened e (Err (opening.Monitor monitor.Misrouted)) h = at_progress e _ (λ d. refl) h
  noted_opened e (Err (opening.Monitor monitor.Differs)) h = at_progress e _ (λ d. refl) h
  noted_opened e (Err (opening.Monitor monitor.NoRoute)) h = at_progress e _ (λ d. refl) h
  noted_opened e (Err (opening.Monitor monitor.UsedUp)) h = at_progress e _ (λ d. refl) h
  noted_opened e (Err (opening.Monitor monitor.PlansDiffer)) h = at_progress e _ (λ d. refl) h
  noted_opened e (Err (opening.Monitor monitor.Memory)) h = at_progress e _ (λ d. refl) h

  noted_called : (e : EndId) (answer : Result (Unit {0}) EndFault) → NotesCalled e answer m t → Same
  noted_called e (Ok done) h = at_progress e advanced (λ d. refl) h
  noted_called e (Err fault) h = nothing h

  noted_turned : (e : EndId) (answer : TurnAnswer) → NotesTurned e answer m t → Same
  noted_turned e (turn.Handle call) h = at_progress e (with_handled call) (λ d. refl) h
  noted_turned e turn.Part h = nothing h
  noted_turned e turn.Ready h = nothing h
  noted_turned e turn.Quiet h = nothing h
  noted_turned e turn.Full h = nothing h
  noted_turned e turn.Nothing h = nothing h
  noted_turned e (turn.Refused fault) h = nothing h

  noted : (log_entry : LogEntry) → Notes log_entry m t → Same
  noted (looked n l answer) h = nothing h
  noted (passed n k frag c outcome) h = nothing h
  noted (arrived n l frag e answer) h = nothing h
  noted (heard n l frag answer) h = noted_heard answer h
  noted (said n l answer) h = nothing h
  noted (told n l answer) h = nothing h
  noted (opened e request answer) h = noted_opened e answer h
  noted (called e c answer) h = noted_called e answer h
  noted (ruled e msg reply answer) h = at_progress e advanced (λ d. refl) h
  noted (wrote e out answer) h = nothing h
  noted (acked e n answer) h = nothing h
  noted (turned d e from answer) h = noted_turned e answer h

-- ---- a log

jobs_stay : (jobs : List CoreJob) (log : List LogEntry) (s t : TheRun TheSide) → Goes shared_ways jobs s log t → map jobs_in t.progresses ≡ map jobs_in s.progresses
jobs_stay jobs [] s t h = ap (λ (x : TheRun TheSide). map jobs_in x.progresses) h
jobs_stay jobs (log_entry ∷ log) s t (m, one, by, rest) =
    jobs_stay jobs log m t rest ∙ noted one.0 m log_entry one.2 ∙ ap (map jobs_in) (progresses_stay shared_ways log_entry s one.0 one.1)

-- an end's progress has in the end the jobs that it had at the start
pub same_jobs : (jobs : List CoreJob) (log : List LogEntry) (s t : TheRun TheSide) → Goes shared_ways jobs s log t
    → (n : ℕ) (before after : TheEndProgress) → slice_get s.progresses n ≡ Some before → slice_get t.progresses n ≡ Some after → after.jobs ≡ before.jobs
same_jobs jobs log s t goes n before after at there = same_there jobs_in s.progresses t.progresses n before after (jobs_stay jobs log s t goes) at there
