-- What ends' progress keep in turns: how many calls are due, and the calls that were handled.
use Rattle.std.proofs.Common.{◌≡◌, refl, sym, ap, ◌∙◌, subst, ℕ, zero, suc, ◌==◌, ◌&&◌, ◌≤◌, List, [], ◌∷◌, ◌++◌, map, length, slice_get, slice_set, Option, Some, None, IsSome, Bool, true, false}
use Rattle.std.proofs.Common.{Result, Ok, Err, arith}
use Rattle.std.proofs.lemmas.Bool.Decides.{nat_tests}
use Rattle.std.proofs.lemmas.List.{length-map, length-append, append-nil, append_assoc}
use Rattle.fl_base.specs.declared.identity.EndId.{EndId}
use Rattle.fl_base.specs.Prefix.{IsPrefix}
use Rattle.fl_base.specs.Given.{given}
use Rattle.fl_ring.specs.SharedSides.{TheSide}
use Rattle.fl_endpoint.specs.declared.fault.EndFault.{EndFault}
use Rattle.fl_core.specs.declared.turn_answer.TurnAnswer.{TurnAnswer}
use Rattle.fl_core.specs.declared.turn_answer.TurnAnswer.TheVariants as turn
use Rattle.fl_monitor.specs.declared.fault.MonitorFault.TheVariants as monitor
use Rattle.fl_core.specs.declared.answer.MonitorAnswer.{MonitorAnswer}
use Rattle.fl_core.specs.declared.answer.MonitorAnswer.TheVariants as heard_as
use Rattle.fl_core.specs.declared.fault.LinkReceiveFault.{LinkReceiveFault}
use Rattle.fl_core.specs.declared.fault.OpenFault.{OpenFault}
use Rattle.fl_core.specs.declared.fault.OpenFault.TheVariants as opening
use Rattle.fl_core.specs.declared.core_job.CoreJob.{CoreJob}
use Rattle.fl_core_run.specs.declared.plan.TurnPlan.{TurnPlan}
use Rattle.fl_core_run.specs.EndProgress.{TheEndProgress, progress_place, advanced, with_handled, with_refusal, ChangesIf, is_clear}
use Rattle.fl_core_run.specs.Run.{TheRun, AtProgress}
use Rattle.fl_core_run.specs.LogEntries.{LogEntry, looked, passed, arrived, heard, said, told, opened, called, ruled, wrote, acked, turned, NotesHeard, NotesOpened, NotesCalled, NotesTurned, Notes}
use Rattle.fl_core_run.specs.Finished.{is_progress_clear}
use Rattle.fl_core_run_laws.specs.Logs.{Goes, handled_at, in_progress, handled_of, TurnsAreLogged, ProgressTellHandled}
use Rattle.fl_core_run_laws.specs.Made.{progress_of}
use Rattle.fl_core_run_laws.proofs.Handling.{progresses_stay, same_place}
use Rattle.fl_cores_laws.specs.EndedCores.{shared_ways}
use Rattle.fl_cores_laws.proofs.Turns.{from_map, to_map}
use Rattle.fl_cores_laws.proofs.Going.{Some_}

-- ---- how many calls are due

abbrev pub due_in : TheEndProgress → ℕ
due_in d = d.due

pub map_set : {X Y : Type 0} (f : X → Y) (xs : List X) (n : ℕ) (x y : X) → slice_get xs n ≡ Some x → f y ≡ f x → map f (slice_set xs n y) ≡ map f xs
map_set f [] n x y at same = refl
map_set f (z ∷ xs) zero x y at same = let is : x ≡ z = cc in ap (λ v. v ∷ map f xs) (same ∙ ap f is)
map_set f (z ∷ xs) (suc n) x y at same = ap (λ vs. f z ∷ vs) (map_set f xs n x y at same)

module _ (m t : TheRun TheSide) where
  abbrev Same : Type 0
  Same = map due_in t.progresses ≡ map due_in m.progresses

  changes : (o : Option ℕ) (change : TheEndProgress → TheEndProgress) → ((d : TheEndProgress) → (change d).due ≡ d.due) → ChangesIf o m.progresses change t.progresses → Same
  changes None change keeps h = ap (map due_in) h
  changes (Some n) change keeps h = ap (map due_in) h.rest ∙ map_set due_in m.progresses n h.progress (change h.progress) h.progress_is (keeps h.progress)

  at_progress : (e : EndId) (change : TheEndProgress → TheEndProgress) → ((d : TheEndProgress) → (change d).due ≡ d.due) → AtProgress e change m t → Same
  at_progress e change keeps h = changes (progress_place m.progresses e) change keeps h.changes

  nothing : t ≡ m → Same
  nothing same = ap (λ (x : TheRun TheSide). map due_in x.progresses) same

  noted_heard : (answer : Result MonitorAnswer LinkReceiveFault) → NotesHeard answer m t → Same
  noted_heard (Ok (heard_as.OpeningRefused e reason)) h = at_progress e (with_refusal reason) (λ d. refl) h
  noted_heard (Ok heard_as.Full) h = nothing h
  noted_heard (Ok heard_as.Done) h = nothing h
  noted_heard (Ok (heard_as.Opened e)) h = nothing h
  noted_heard (Err fault) h = nothing h

  noted_opened : (e : EndId) (answer : Result ℕ OpenFault) → NotesOpened e answer m t → Same
  noted_opened e (Ok k) h = at_progress e advanced (λ d. refl) h
  noted_opened e (Err (opening.Board fault)) h = at_progress e _ (λ d. refl) h
  noted_opened e (Err (opening.Monitor monitor.OutboxFull)) h = nothing h
  noted_opened e (Err (opening.Monitor monitor.Misrouted)) h = at_progress e _ (λ d. refl) h
  noted_opened e (Err (opening.Monitor monitor.Differs)) h = at_progress e _ (λ d. refl) h
  noted_opened e (Err (opening.Monitor monitor.NoRoute)) h = at_progress e _ (λ d. refl) h
  noted_opened e (Err (opening.Monitor monitor.UsedUp)) h = at_progress e _ (λ d. refl) h
  noted_opened e (Err (opening.Monitor monitor.PlansDiffer)) h = at_progress e _ (λ d. refl) h
  noted_opened e (Err (opening.Monitor monitor.Memory)) h = at_progress e _ (λ d. refl) h

  noted_called : (e : EndId) (answer : Result (Unit {0}) EndFault) → NotesCalled e answer m t → Same
  noted_called e (Ok done) h = at_progress e advanced (λ d. refl) h
  noted_called e (Err fault) h = nothing h

  noted_turned : (e : EndId) (answer : TurnAnswer) → NotesTurned e answer m t → Same
  noted_turned e (turn.Handle call) h = at_progress e (with_handled call) (λ d. refl) h
  noted_turned e turn.Part h = nothing h
  noted_turned e turn.Ready h = nothing h
  noted_turned e turn.Quiet h = nothing h
  noted_turned e turn.Full h = nothing h
  noted_turned e turn.Nothing h = nothing h
  noted_turned e (turn.Refused fault) h = nothing h

  noted : (log_entry : LogEntry) → Notes log_entry m t → Same
  noted (looked n l answer) h = nothing h
  noted (passed n k frag c outcome) h = nothing h
  noted (arrived n l frag e answer) h = nothing h
  noted (heard n l frag answer) h = noted_heard answer h
  noted (said n l answer) h = nothing h
  noted (told n l answer) h = nothing h
  noted (opened e request answer) h = noted_opened e answer h
  noted (called e c answer) h = noted_called e answer h
  noted (ruled e msg reply answer) h = at_progress e advanced (λ d. refl) h
  noted (wrote e out answer) h = nothing h
  noted (acked e n answer) h = nothing h
  noted (turned d e from answer) h = noted_turned e answer h

dues_stay : (jobs : List CoreJob) (log : List LogEntry) (s t : TheRun TheSide) → Goes shared_ways jobs s log t → map due_in t.progresses ≡ map due_in s.progresses
dues_stay jobs [] s t h = ap (λ (x : TheRun TheSide). map due_in x.progresses) h
dues_stay jobs (log_entry ∷ log) s t (m, one, by, rest) =
    dues_stay jobs log m t rest ∙ noted one.0 m log_entry one.2 ∙ ap (map due_in) (progresses_stay shared_ways log_entry s one.0 one.1)

-- ---- the calls that were handled

pub has_place : (o : Option ℕ) (progresses : List TheEndProgress) (progress : TheEndProgress) → given o None (λ n. slice_get progresses n) ≡ Some progress
    → (n : ℕ) × (o ≡ Some n) × (slice_get progresses n ≡ Some progress)
has_place None progresses progress is = absurd (cc)
has_place (Some n) progresses progress is = (n, refl, is)

pub is_some_by : (o : Option ℕ) (n : ℕ) → o ≡ Some n → IsSome o
is_some_by None n is = absurd (cc)
is_some_by (Some m) n is = refl

both_true : (a b : Bool) → (a && b) ≡ true → b ≡ true
both_true true b is = is
both_true false b is = absurd (cc)

module _ (logged : TurnsAreLogged shared_ways) (tell : ProgressTellHandled shared_ways) (plan : TurnPlan) (jobs : List CoreJob) (e : EndId) (s t : TheRun TheSide)
    (progress : TheEndProgress) (progress_is : progress_of s e ≡ Some progress) (some : Some_ plan jobs s t) where
  -- the end has its end's progress there still
  pub record StillThere : Type 0 where
    pub after : TheEndProgress
    pub after_is : progress_of t e ≡ Some after
    pub due : after.due ≡ progress.due
    pub handled : IsPrefix (handled_of s e) (handled_of t e)

  pub still : StillThere
  still =
      let l = logged plan jobs some.0 s t some.1 in
      let (n, place, at) = has_place (progress_place s.progresses e) s.progresses progress progress_is in
      let dues = dues_stay jobs l.log s t l.goes in
      let many : length t.progresses ≡ length s.progresses = sym (length-map t.progresses due_in) ∙ ap length dues ∙ length-map s.progresses due_in in
      let placed : progress_place t.progresses e ≡ Some n = same_place s.progresses t.progresses e many ∙ place in
      let (after, there, due) = from_map due_in t.progresses n progress.due (ap (λ (xs : List ℕ). slice_get xs n) dues ∙ to_map due_in s.progresses n progress at) in
      record {
        after = after;
        after_is = ap (λ (o : Option ℕ). given o None (λ (i : ℕ). slice_get t.progresses i)) placed ∙ there;
        due = due;
        handled = (handled_at e l.log, tell jobs s t l.log e (is_some_by (progress_place s.progresses e) n place) l.goes);
      }

-- an end's progress that is clear has as many calls as are due
pub as_many_as_due : (t : TheRun TheSide) (e : EndId) (progress : TheEndProgress) → progress_of t e ≡ Some progress → is_progress_clear t e ≡ true → length (handled_of t e) ≡ progress.due
as_many_as_due t e progress is clear =
    let (n, place, at) = has_place (progress_place t.progresses e) t.progresses progress is in
    let handled : handled_of t e ≡ progress.handled = ap (λ (o : Option ℕ). given o [] (λ (i : ℕ). in_progress (slice_get t.progresses i))) place ∙ ap in_progress at in
    let here : is_clear progress ≡ true =
    sym (ap (λ (o : Option ℕ). given o true (λ (i : ℕ). given (slice_get t.progresses i) true (λ (d : TheEndProgress). is_clear d))) place
    ∙ ap (λ (o : Option TheEndProgress). given o true (λ (d : TheEndProgress). is_clear d)) at) ∙ clear in
    let count : (length progress.handled == progress.due) ≡ true = both_true (progress.done == length progress.jobs) (length progress.handled == progress.due) here in
    let same : length progress.handled ≡ progress.due = grind (arith, nat_tests, count) in
    ap length handled ∙ same

-- ---- prefixes

pub prefix_then : {X : Type 0} (xs ys zs : List X) → IsPrefix xs ys → IsPrefix ys zs → IsPrefix xs zs
prefix_then xs ys zs (p, is) (q, so) = (p ++ q, so ∙ ap (λ t. t ++ q) is ∙ append_assoc xs p q)

pub no_longer : {X : Type 0} (xs ys : List X) → IsPrefix xs ys → length xs ≤ length ys
no_longer xs ys (p, is) = let sum = ap length is ∙ length-append xs p in omega (arith, sum)

nothing_behind : {X : Type 0} (xs p : List X) → length (xs ++ p) ≤ length xs → p ≡ []
nothing_behind xs [] l = refl
nothing_behind xs (x ∷ p) l = let sum = length-append xs (x ∷ p) in absurd (omega (arith, l, sum))

pub whole : {X : Type 0} (xs ys : List X) → IsPrefix xs ys → length ys ≤ length xs → xs ≡ ys
whole xs ys (p, is) l =
    let none : p ≡ [] = nothing_behind xs p (subst (λ t. length t ≤ length xs) is l) in
    sym (is ∙ ap (λ t. xs ++ t) none ∙ append-nil xs)
