-- What the jobs of an end's progress set at their end, job by job, over a log.
use Rattle.std.proofs.Common.{◌≡◌, ◌≢◌, ◌⊎◌, inl, inr, refl, sym, ap, ◌∙◌, subst, ℕ, zero, suc, ◌+◌, ◌==◌, if◌then◌else◌, List, [], ◌∷◌, ◌++◌, take, drop, slice_get, slice_set}
use Rattle.std.proofs.Common.{Option, Some, None, Bool, true, false, Result, Ok, Err, arith}
use Rattle.std.proofs.lemmas.Bool.Decides.{nat_tests}
use Rattle.fl_base.specs.declared.identity.EndId.{EndId}
use Rattle.fl_base.specs.declared.identity.MsgNo.{MsgNo}
use Rattle.fl_base.specs.Given.{given}
use Rattle.fl_value_data.specs.declared.value.Call.{Call}
use Rattle.fl_value_data.specs.Value.{TheCall}
use Rattle.fl_core.proofs.BoardPlaces.{one_stands, set_here, set_elsewhere}
use Rattle.fl_core.specs.declared.turn_answer.TurnAnswer.{TurnAnswer}
use Rattle.fl_core.specs.declared.turn_answer.TurnAnswer.TheVariants as turn
use Rattle.fl_endpoint.specs.declared.fault.EndFault.{EndFault}
use Rattle.fl_hop.specs.Stretch.{same_end}
use Rattle.fl_monitor.specs.declared.fault.MonitorFault.TheVariants as monitor
use Rattle.fl_core.specs.declared.answer.MonitorAnswer.{MonitorAnswer}
use Rattle.fl_core.specs.declared.answer.MonitorAnswer.TheVariants as heard_as
use Rattle.fl_core.specs.declared.fault.LinkReceiveFault.{LinkReceiveFault}
use Rattle.fl_core.specs.declared.fault.OpenFault.{OpenFault}
use Rattle.fl_core.specs.declared.fault.OpenFault.TheVariants as opening
use Rattle.fl_core.specs.View.{slot_of}
use Rattle.fl_core.specs.declared.core_job.CoreJob.{CoreJob}
use Rattle.fl_core.specs.declared.core_job.CoreJob.TheVariants as job
use Rattle.fl_core.specs.declared.core_job.OpenRequest.{OpenRequest}
use Rattle.fl_core_run.specs.EndProgress.{TheEndProgress, progress_place, advanced, with_handled, with_refusal, ChangesIf}
use Rattle.fl_core_run.specs.Run.{SideRelations, TheRun, AtProgress, next_job}
use Rattle.fl_core_run.specs.LogEntries.{LogEntry, looked, passed, arrived, heard, said, told, opened, called, ruled, wrote, acked, turned, Happens, NotesHeard, NotesOpened, NotesCalled, NotesTurned, Notes}
use Rattle.fl_core.specs.Jobs.{is_before_calls}
use Rattle.fl_core.specs.Jobs.{calls_of_job, is_rule, HasNoRule, RulesLead}
use Rattle.fl_core_run_laws.specs.Logs.{InPlace, Goes, call_in, handled_in, handled_at}
use Rattle.fl_core_run_laws.specs.Made.{progress_of}
use Rattle.fl_core_run_laws.specs.Carried.{rules_by, rules_in, rules_at}
use Rattle.fl_core_run_laws.proofs.Handling.{progresses_stay, same_place, at_slot, slots, as_many, one_end}

-- ---- jobs in a row

-- the rules after a job, and after the jobs at these places
abbrev pub set_by : Option CoreJob → List (Option ℕ) → List (Option ℕ)
set_by (Some (job.Reply e msg reply)) rules = slice_set rules msg.0 (Some reply.0)
set_by other rules = rules

abbrev pub set_all : List CoreJob → List ℕ → List (Option ℕ) → List (Option ℕ)
set_all jobs [] rules = rules
set_all jobs (place ∷ places) rules = set_all jobs places (set_by (slice_get jobs place) rules)

pub set_joins : (jobs : List CoreJob) (xs ys : List ℕ) (rules : List (Option ℕ)) → set_all jobs (xs ++ ys) rules ≡ set_all jobs ys (set_all jobs xs rules)
set_joins jobs [] ys rules = refl
set_joins jobs (x ∷ xs) ys rules = set_joins jobs xs ys (set_by (slice_get jobs x) rules)

-- what stands there, if something does
abbrev one_of : Option ℕ → List ℕ
one_of None = []
one_of (Some x) = x ∷ []

next_taken : (xs : List ℕ) (n : ℕ) → take (suc n) xs ≡ take n xs ++ one_of (slice_get xs n)
next_taken [] zero = refl
next_taken [] (suc n) = refl
next_taken (x ∷ xs) zero = refl
next_taken (x ∷ xs) (suc n) = ap (λ (ys : List ℕ). x ∷ ys) (next_taken xs n)

-- the job that is next at an end's progress
abbrev pub next_of : List CoreJob → TheEndProgress → Option CoreJob
next_of jobs d = given (slice_get d.jobs d.done) None λ place. slice_get jobs place

set_next : (jobs : List CoreJob) (o : Option ℕ) (rules : List (Option ℕ)) → set_all jobs (one_of o) rules ≡ set_by (given o None λ place. slice_get jobs place) rules
set_next jobs None rules = refl
set_next jobs (Some place) rules = refl

-- one job more is done
pub one_more : (jobs : List CoreJob) (d : TheEndProgress) (rules : List (Option ℕ)) → set_all jobs (take (d.done + 1) d.jobs) rules ≡ set_by (next_of jobs d) (set_all jobs (take d.done d.jobs) rules)
one_more jobs d rules =
    let e : d.done + 1 ≡ suc d.done = omega arith in
    ap (λ (n : ℕ). set_all jobs (take n d.jobs) rules) e
    ∙ ap (λ (xs : List ℕ). set_all jobs xs rules) (next_taken d.jobs d.done)
    ∙ set_joins jobs (take d.done d.jobs) (one_of (slice_get d.jobs d.done)) rules
    ∙ set_next jobs (slice_get d.jobs d.done) (set_all jobs (take d.done d.jobs) rules)

pub taken_first : (xs : List ℕ) (n : ℕ) → xs ≡ take n xs ++ drop n xs
taken_first [] zero = refl
taken_first [] (suc n) = refl
taken_first (x ∷ xs) zero = refl
taken_first (x ∷ xs) (suc n) = ap (λ (ys : List ℕ). x ∷ ys) (taken_first xs n)

drop_next : (xs : List ℕ) (n : ℕ) → drop (suc n) xs ≡ drop 1 (drop n xs)
drop_next [] zero = refl
drop_next [] (suc n) = refl
drop_next (x ∷ xs) zero = refl
drop_next (x ∷ xs) (suc n) = drop_next xs n

drop_more : (xs : List ℕ) (n : ℕ) → drop (n + 1) xs ≡ drop 1 (drop n xs)
drop_more xs n = let e : n + 1 ≡ suc n = omega arith in ap (λ (k : ℕ). drop k xs) e ∙ drop_next xs n

less_rules : (jobs : List CoreJob) (xs : List ℕ) → HasNoRule jobs xs → HasNoRule jobs (drop 1 xs)
less_rules jobs [] h = h
less_rules jobs (x ∷ xs) h = h.1

less_leads : (jobs : List CoreJob) (xs : List ℕ) → RulesLead jobs xs → RulesLead jobs (drop 1 xs)
less_leads jobs [] h = h
less_leads jobs (x ∷ xs) h = h.1

-- the next job is the first that is left
abbrev first_of : List ℕ → Option ℕ
first_of [] = None
first_of (x ∷ xs) = Some x

first_left : (xs : List ℕ) (n : ℕ) → slice_get xs n ≡ first_of (drop n xs)
first_left [] zero = refl
first_left [] (suc n) = refl
first_left (x ∷ xs) zero = refl
first_left (x ∷ xs) (suc n) = first_left xs n

none_then : (jobs : List CoreJob) (xs : List ℕ) → RulesLead jobs xs → is_before_calls (given (first_of xs) None λ place. slice_get jobs place) ≡ false → HasNoRule jobs xs
none_then jobs [] h next = tt
none_then jobs (x ∷ xs) h next = (no_rule (slice_get jobs x) next, h.0 next) where
  no_rule : (o : Option CoreJob) → is_before_calls o ≡ false → is_rule o ≡ false
  no_rule None n = refl
  no_rule (Some (job.Open request)) n = absurd (cc)
  no_rule (Some (job.Reply e msg reply)) n = absurd (cc)
  no_rule (Some (job.Call e call)) n = refl

-- jobs that set none set none
pub set_none : (jobs : List CoreJob) (xs : List ℕ) (rules : List (Option ℕ)) → HasNoRule jobs xs → set_all jobs xs rules ≡ rules
set_none jobs [] rules h = refl
set_none jobs (x ∷ xs) rules h = ap (set_all jobs xs) (by (slice_get jobs x) h.0) ∙ set_none jobs xs rules h.1 where
  by : (o : Option CoreJob) → is_rule o ≡ false → set_by o rules ≡ rules
  by None n = refl
  by (Some (job.Open request)) n = refl
  by (Some (job.Reply e msg reply)) n = absurd (cc)
  by (Some (job.Call e call)) n = refl

-- ---- one end's progress changes

-- an end's progress of an end, at its place
record IsProgress {S : Type 0} (s : TheRun S) (name : EndId) (d : TheEndProgress) : Type 0 where
  pub place : ℕ
  pub at : progress_place s.progresses name ≡ Some place
  pub there : slice_get s.progresses place ≡ Some d

is_progress : {S : Type 0} (s : TheRun S) (name : EndId) (d : TheEndProgress) → progress_of s name ≡ Some d → IsProgress s name d
is_progress s name d is = by (progress_place s.progresses name) refl is where
  by : (o : Option ℕ) → progress_place s.progresses name ≡ o → given o None (λ (n : ℕ). slice_get s.progresses n) ≡ Some d → IsProgress s name d
  by None at h = absurd (cc)
  by (Some p) at h = record { place = p; at = at; there = h }

module _ {S : Type 0} (name : EndId) (m t : TheRun S) (d : TheEndProgress) (x : IsProgress m name d) (e : EndId) (change : TheEndProgress → TheEndProgress) (h : AtProgress e change m t) where
  there : progress_of t name ≡ slice_get t.progresses x.place
  there =
      ap (λ (o : Option ℕ). given o None (λ (n : ℕ). slice_get t.progresses n))
      (same_place m.progresses t.progresses name (as_many (progress_place m.progresses e) m.progresses t.progresses change h.changes) ∙ x.at)

  other_by : (o : Option ℕ) → progress_place m.progresses e ≡ o → ChangesIf o m.progresses change t.progresses → same_end e name ≡ false → slice_get t.progresses x.place ≡ Some d
  other_by None is same no_one = ap (λ (xs : List TheEndProgress). slice_get xs x.place) same ∙ x.there
  other_by (Some n) is changes no_one =
      let test : (n == x.place) ≡ false =
      ap (λ (i : ℕ). i == x.place) (at_slot m.progresses e n is) ∙ ap (λ (i : ℕ). slot_of e == i) (at_slot m.progresses name x.place x.at) ∙ slots e name ∙ no_one in
      let ne : x.place ≢ n = λ same. absurd (grind (arith, nat_tests, test, same)) in
      ap (λ (xs : List TheEndProgress). slice_get xs x.place) changes.rest ∙ set_elsewhere m.progresses n x.place (change changes.progress) ne ∙ x.there

  own_by : (o : Option ℕ) → progress_place m.progresses e ≡ o → ChangesIf o m.progresses change t.progresses → e ≡ name → slice_get t.progresses x.place ≡ Some (change d)
  own_by None is same one = absurd (let none : Some x.place ≡ None = sym x.at ∙ ap (λ (y : EndId). progress_place m.progresses y) (sym one) ∙ is in cc)
  own_by (Some n) is changes one =
      let placed : Some n ≡ Some x.place = sym is ∙ ap (λ (y : EndId). progress_place m.progresses y) one ∙ x.at in
      let eq : n ≡ x.place = cc in
      let stood : slice_get m.progresses x.place ≡ Some changes.progress = subst (λ (i : ℕ). slice_get m.progresses i ≡ Some changes.progress) eq changes.progress_is in
      let is_d : changes.progress ≡ d = one_stands m.progresses x.place changes.progress d stood x.there in
      ap (λ (xs : List TheEndProgress). slice_get xs x.place) changes.rest
      ∙ subst (λ (i : ℕ). slice_get (slice_set m.progresses n (change changes.progress)) i ≡ Some (change changes.progress)) eq (set_here m.progresses n changes.progress (change changes.progress) changes.progress_is)
      ∙ ap (λ (y : TheEndProgress). Some (change y)) is_d

  other : same_end e name ≡ false → progress_of t name ≡ Some d
  other no_one = there ∙ other_by (progress_place m.progresses e) refl h.changes no_one

  own : same_end e name ≡ true → progress_of t name ≡ Some (change d)
  own one = there ∙ own_by (progress_place m.progresses e) refl h.changes (one_end e name one)

-- the job that is next at an end, by its end's progress
pub next_at_progress : {S : Type 0} (jobs : List CoreJob) (s : TheRun S) (name : EndId) (d : TheEndProgress) → progress_of s name ≡ Some d → next_job jobs s name ≡ next_of jobs d
next_at_progress jobs s name d is =
    let x = is_progress s name d is in
    ap (λ (o : Option ℕ). given o None (λ (n : ℕ). given (slice_get s.progresses n) None (λ (y : TheEndProgress). next_of jobs y))) x.at
    ∙ ap (λ (o : Option TheEndProgress). given o None (λ (y : TheEndProgress). next_of jobs y)) x.there

-- ---- one event

-- a rule that is tried at the end of a name is set
abbrev pub IsTaken : EndId → LogEntry → Type 0
IsTaken name (ruled e msg reply answer) = same_end e name ≡ true → (done : Unit {0}) × (answer ≡ Ok done)
IsTaken name log_entry = Unit {0}

-- the end's progress has as many jobs done, and no rule was set; or one more, which set a rule if it was to
pub record Steps {S : Type 0} (jobs : List CoreJob) (name : EndId) (log_entry : LogEntry) (d : TheEndProgress) (t : TheRun S) : Type 0 where
  pub progress : TheEndProgress
  pub progress_is : progress_of t name ≡ Some progress
  pub jobs_same : progress.jobs ≡ d.jobs
  pub by : ((progress.done ≡ d.done) × ((rules : List (Option ℕ)) → rules_in name rules log_entry ≡ rules))
      ⊎ ((progress.done ≡ d.done + 1) × (IsTaken name log_entry → (rules : List (Option ℕ)) → rules_in name rules log_entry ≡ set_by (next_of jobs d) rules))

-- by a job that isn't a rule none is set
none_set : (o : Option CoreJob) (c : TheCall) (rules : List (Option ℕ)) → calls_of_job o ≡ c ∷ [] → set_by o rules ≡ rules
none_set None c rules is = absurd (cc)
none_set (Some (job.Open request)) c rules is = absurd (cc)
none_set (Some (job.Reply e msg reply)) c rules is = absurd (cc)
none_set (Some (job.Call e call)) c rules is = refl

module _ {S : Type 0} (jobs : List CoreJob) (name : EndId) (s m t : TheRun S) (progresses : m.progresses ≡ s.progresses) (d : TheEndProgress) (x : IsProgress m name d) where
  here : progress_of m name ≡ Some d
  here = ap (λ (o : Option ℕ). given o None (λ (n : ℕ). slice_get m.progresses n)) x.at ∙ x.there

  next_here : (e : EndId) → same_end e name ≡ true → next_job jobs s e ≡ next_of jobs d
  next_here e one =
      ap (λ (y : EndId). next_job jobs s y) (one_end e name one)
      ∙ ap (λ (xs : List TheEndProgress). given (progress_place xs name) None (λ (n : ℕ). given (slice_get xs n) None (λ (y : TheEndProgress). next_of jobs y))) (sym progresses)
      ∙ ap (λ (o : Option ℕ). given o None (λ (n : ℕ). given (slice_get m.progresses n) None (λ (y : TheEndProgress). next_of jobs y))) x.at
      ∙ ap (λ (o : Option TheEndProgress). given o None (λ (y : TheEndProgress). next_of jobs y)) x.there

  abbrev Then : LogEntry → Type 0
  Then log_entry = Steps jobs name log_entry d t

  rests : (log_entry : LogEntry) → ((rules : List (Option ℕ)) → rules_in name rules log_entry ≡ rules) → t ≡ m → Then log_entry
  rests log_entry none same = record { progress = d; progress_is = ap (λ (y : TheRun S). progress_of y name) same ∙ here; jobs_same = refl; by = inl (refl, none) }

  -- what is noted is no job
  quiet : (log_entry : LogEntry) → ((rules : List (Option ℕ)) → rules_in name rules log_entry ≡ rules) → (e : EndId) (change : TheEndProgress → TheEndProgress) → AtProgress e change m t
      → ((change d).jobs ≡ d.jobs) → ((change d).done ≡ d.done) → Then log_entry
  quiet log_entry none e change h js n = by (same_end e name) refl where
    by : (b : Bool) → same_end e name ≡ b → Then log_entry
    by false is = record { progress = d; progress_is = other name m t d x e change h is; jobs_same = refl; by = inl (refl, none) }
    by true is = record { progress = change d; progress_is = own name m t d x e change h is; jobs_same = js; by = inl (n, none) }

  -- a job more is done
  moves : (log_entry : LogEntry) (e : EndId) (change : TheEndProgress → TheEndProgress) → AtProgress e change m t → ((change d).jobs ≡ d.jobs) → ((change d).done ≡ d.done + 1)
      → (same_end e name ≡ false → (rules : List (Option ℕ)) → rules_in name rules log_entry ≡ rules)
      → (same_end e name ≡ true → IsTaken name log_entry → (rules : List (Option ℕ)) → rules_in name rules log_entry ≡ set_by (next_of jobs d) rules) → Then log_entry
  moves log_entry e change h js n off on = by (same_end e name) refl where
    by : (b : Bool) → same_end e name ≡ b → Then log_entry
    by false is = record { progress = d; progress_is = other name m t d x e change h is; jobs_same = refl; by = inl (refl, off is) }
    by true is = record { progress = change d; progress_is = own name m t d x e change h is; jobs_same = js; by = inr (n, on is) }

  hears : (n : ℕ) (l : _) (frag : _) (answer : Result MonitorAnswer LinkReceiveFault) → NotesHeard answer m t → Then (heard n l frag answer)
  hears n l frag (Ok (heard_as.OpeningRefused e reason)) h = quiet (heard n l frag (Ok (heard_as.OpeningRefused e reason))) (λ rules. refl) e (with_refusal reason) h refl refl
  hears n l frag (Ok heard_as.Full) h = rests (heard n l frag (Ok heard_as.Full)) (λ rules. refl) h
  hears n l frag (Ok heard_as.Done) h = rests (heard n l frag (Ok heard_as.Done)) (λ rules. refl) h
  hears n l frag (Ok (heard_as.Opened e)) h = rests (heard n l frag (Ok (heard_as.Opened e))) (λ rules. refl) h
  hears n l frag (Err fault) h = rests (heard n l frag (Err fault)) (λ rules. refl) h

  asked : (e : EndId) (request : OpenRequest) (answer : Result ℕ OpenFault) (change : TheEndProgress → TheEndProgress) → next_job jobs s e ≡ Some (job.Open request) → AtProgress e change m t
      → ((change d).jobs ≡ d.jobs) → ((change d).done ≡ d.done + 1) → Then (opened e request answer)
  asked e request answer change next h js n =
      moves (opened e request answer) e change h js n (λ is rules. refl)
      (λ is taken rules. sym (ap (λ (o : Option CoreJob). set_by o rules) (sym (next_here e is) ∙ next)))

  opens : (e : EndId) (request : OpenRequest) (answer : Result ℕ OpenFault) → next_job jobs s e ≡ Some (job.Open request) → NotesOpened e answer m t → Then (opened e request answer)
  opens e request (Ok k) next h = asked e request (Ok k) advanced next h refl refl
  opens e request (Err (opening.Board fault)) next h = asked e request (Err (opening.Board fault)) _ next h refl refl
  opens e request (Err (opening.Monitor monitor.OutboxFull)) next h = rests (opened e request (Err (opening.Monitor monitor.OutboxFull))) (λ rules. refl) h
  opens e request (Err (opening.Monitor monitor.Misrouted)) next h = asked e request (Err (opening.Monitor monitor.Misrouted)) _ next h refl refl
  opens e request (Err (opening.Monitor monitor.Differs)) next h = asked e request (Err (opening.Monitor monitor.Differs)) _ next h refl refl
  opens e request (Err (opening.Monitor monitor.NoRoute)) next h = asked e request (Err (opening.Monitor monitor.NoRoute)) _ next h refl refl
  opens e request (Err (opening.Monitor monitor.UsedUp)) next h = asked e request (Err (opening.Monitor monitor.UsedUp)) _ next h refl refl
  opens e request (Err (opening.Monitor monitor.PlansDiffer)) next h = asked e request (Err (opening.Monitor monitor.PlansDiffer)) _ next h refl refl
  opens e request (Err (opening.Monitor monitor.Memory)) next h = asked e request (Err (opening.Monitor monitor.Memory)) _ next h refl refl

  calls : (e : EndId) (c : TheCall) (answer : Result (Unit {0}) EndFault) → calls_of_job (next_job jobs s e) ≡ c ∷ [] → NotesCalled e answer m t → Then (called e c answer)
  calls e c (Ok done) next h =
      moves (called e c (Ok done)) e advanced h refl refl (λ is rules. refl)
      (λ is taken rules. sym (none_set (next_of jobs d) c rules (ap calls_of_job (sym (next_here e is)) ∙ next)))
  calls e c (Err fault) next h = rests (called e c (Err fault)) (λ rules. refl) h

  sets : (e f : EndId) (msg reply : MsgNo) (answer : Result (Unit {0}) EndFault) → next_job jobs s e ≡ Some (job.Reply f msg reply) → AtProgress e advanced m t → Then (ruled e msg reply answer)
  sets e f msg reply answer next h =
      moves (ruled e msg reply answer) e advanced h refl refl
      (λ is rules. ap (λ (b : Bool). if b then rules_by msg reply answer rules else rules) is)
      (λ is taken rules. (let (done, ok) = taken is in
      ap (λ (b : Bool). if b then rules_by msg reply answer rules else rules) is
      ∙ ap (λ (a : Result (Unit {0}) EndFault). rules_by msg reply a rules) ok
      ∙ sym (ap (λ (o : Option CoreJob). set_by o rules) (sym (next_here e is) ∙ next))))

  turns : (k : ℕ) (e : EndId) (from : _) (answer : TurnAnswer) → NotesTurned e answer m t → Then (turned k e from answer)
  turns k e from (turn.Handle call) h = quiet (turned k e from (turn.Handle call)) (λ rules. refl) e (with_handled call) h refl refl
  turns k e from turn.Part h = rests (turned k e from turn.Part) (λ rules. refl) h
  turns k e from turn.Ready h = rests (turned k e from turn.Ready) (λ rules. refl) h
  turns k e from turn.Quiet h = rests (turned k e from turn.Quiet) (λ rules. refl) h
  turns k e from turn.Full h = rests (turned k e from turn.Full) (λ rules. refl) h
  turns k e from turn.Nothing h = rests (turned k e from turn.Nothing) (λ rules. refl) h
  turns k e from (turn.Refused fault) h = rests (turned k e from (turn.Refused fault)) (λ rules. refl) h

  noted : (log_entry : LogEntry) → InPlace jobs s log_entry → Notes log_entry m t → Then log_entry
  noted (looked n l answer) by h = rests (looked n l answer) (λ rules. refl) h
  noted (passed n k frag c outcome) by h = rests (passed n k frag c outcome) (λ rules. refl) h
  noted (arrived n l frag e answer) by h = rests (arrived n l frag e answer) (λ rules. refl) h
  noted (heard n l frag answer) by h = hears n l frag answer h
  noted (said n l answer) by h = rests (said n l answer) (λ rules. refl) h
  noted (told n l answer) by h = rests (told n l answer) (λ rules. refl) h
  noted (opened e request answer) by h = opens e request answer by.0 h
  noted (called e c answer) by h = calls e c answer by h
  noted (ruled e msg reply answer) by h = sets e by.0 msg reply answer by.1 h
  noted (wrote e out answer) by h = rests (wrote e out answer) (λ rules. refl) h
  noted (acked e n answer) by h = rests (acked e n answer) (λ rules. refl) h
  noted (turned k e from answer) by h = turns k e from answer h

-- ---- a log

module _ {S : Type 0} (w : SideRelations S) (jobs : List CoreJob) (name : EndId) where
  pub happened : (log_entry : LogEntry) (s t : TheRun S) (d : TheEndProgress) → progress_of s name ≡ Some d → Happens w log_entry s t → InPlace jobs s log_entry → Steps jobs name log_entry d t
  happened log_entry s t d is h by =
      let stay : h.0.progresses ≡ s.progresses = progresses_stay w log_entry s h.0 h.1 in
      let before : progress_of h.0 name ≡ Some d = ap (λ (xs : List TheEndProgress). given (progress_place xs name) None (λ (n : ℕ). slice_get xs n)) stay ∙ is in
      noted jobs name s h.0 t stay d (is_progress h.0 name d before) log_entry by h.2

  -- what holds of the jobs that are left goes on holding
  pub record Left (K : List ℕ → Type 0) (t : TheRun S) : Type 0 where
    pub progress : TheEndProgress
    pub progress_is : progress_of t name ≡ Some progress
    pub holds : K (drop progress.done progress.jobs)

  module _ (K : List ℕ → Type 0) (less : (xs : List ℕ) → K xs → K (drop 1 xs)) where
    still : (log_entry : LogEntry) (d : TheEndProgress) (t : TheRun S) → (x : Steps jobs name log_entry d t) → K (drop d.done d.jobs) → K (drop x.progress.done x.progress.jobs)
    still log_entry d t x k = subst (λ (xs : List ℕ). K (drop x.progress.done xs)) (sym x.jobs_same) (elim x.by [
      | inl p ↦ subst (λ (n : ℕ). K (drop n d.jobs)) (sym p.0) k
      | inr p ↦ subst (λ (n : ℕ). K (drop n d.jobs)) (sym p.0) (subst K (sym (drop_more d.jobs d.done)) (less (drop d.done d.jobs) k))
    ])

    keeps : (log : List LogEntry) (s t : TheRun S) (d : TheEndProgress) → Goes w jobs s log t → progress_of s name ≡ Some d → K (drop d.done d.jobs) → Left K t
    keeps [] s t d h is k = record { progress = d; progress_is = ap (λ (y : TheRun S). progress_of y name) h ∙ is; holds = k }
    keeps (log_entry ∷ log) s t d h is k =
        let x = happened log_entry s h.0 d is h.1 h.2 in
        keeps log h.0 t x.progress h.3 x.progress_is (still log_entry d h.0 x k)

  -- an end that handled a call has no rule left to set
  next_is : (s : TheRun S) (d : TheEndProgress) → progress_of s name ≡ Some d → next_job jobs s name ≡ (given (first_of (drop d.done d.jobs)) None λ place. slice_get jobs place)
  next_is s d is =
      next_at_progress jobs s name d is
      ∙ ap (λ (o : Option ℕ). given o None λ (place : ℕ). slice_get jobs place) (first_left d.jobs d.done)

  handled_now : (log_entry : LogEntry) (s : TheRun S) (d : TheEndProgress) → InPlace jobs s log_entry → progress_of s name ≡ Some d → RulesLead jobs (drop d.done d.jobs)
      → (handled_in name log_entry ≡ []) ⊎ HasNoRule jobs (drop d.done d.jobs)
  handled_now (turned k e from answer) s d by is lead = test (same_end e name) refl where
    test : (b : Bool) → same_end e name ≡ b → (handled_in name (turned k e from answer) ≡ []) ⊎ HasNoRule jobs (drop d.done d.jobs)
    test false off = inl (ap (λ (b : Bool). if b then call_in answer else []) off)
    test true on =
        let next : is_before_calls (next_job jobs s name) ≡ false = ap (λ (y : EndId). is_before_calls (next_job jobs s y)) (sym (one_end e name on)) ∙ by.4 in
        inr (none_then jobs (drop d.done d.jobs) lead (ap is_before_calls (sym (next_is s d is)) ∙ next))
  handled_now (looked n l answer) s d by is lead = inl refl
  handled_now (passed n k frag c outcome) s d by is lead = inl refl
  handled_now (arrived n l frag e answer) s d by is lead = inl refl
  handled_now (heard n l frag answer) s d by is lead = inl refl
  handled_now (said n l answer) s d by is lead = inl refl
  handled_now (told n l answer) s d by is lead = inl refl
  handled_now (opened e request answer) s d by is lead = inl refl
  handled_now (called e c answer) s d by is lead = inl refl
  handled_now (ruled e msg reply answer) s d by is lead = inl refl
  handled_now (wrote e out answer) s d by is lead = inl refl
  handled_now (acked e n answer) s d by is lead = inl refl

  pub none_left : (log : List LogEntry) (s t : TheRun S) (d : TheEndProgress) → Goes w jobs s log t → progress_of s name ≡ Some d → RulesLead jobs (drop d.done d.jobs)
      → (handled_at name log ≡ []) ⊎ Left (HasNoRule jobs) t
  none_left [] s t d h is lead = inl refl
  none_left (log_entry ∷ log) s t d h is lead = elim (handled_now log_entry s d h.2 is lead) [
    | inl none ↦ (let x = happened log_entry s h.0 d is h.1 h.2 in
        elim (none_left log h.0 t x.progress h.3 x.progress_is (still (RulesLead jobs) (less_leads jobs) log_entry d h.0 x lead)) [
          | inl rest ↦ inl (ap (λ (xs : List Call). xs ++ handled_at name log) none ∙ rest)
          | inr left ↦ inr left
        ])
    | inr none ↦ inr (keeps (HasNoRule jobs) (less_rules jobs) (log_entry ∷ log) s t d h is none)
  ]

  -- the rules in the end are those that the jobs which are done set
  abbrev pub AllTaken : (log : List LogEntry) → Type 0
  AllTaken [] = Unit {0}
  AllTaken (log_entry ∷ log) = IsTaken name log_entry × AllTaken log

  pub record Ruled (log : List LogEntry) (had : List (Option ℕ)) (d : TheEndProgress) (t : TheRun S) : Type 0 where
    pub progress : TheEndProgress
    pub progress_is : progress_of t name ≡ Some progress
    pub jobs_same : progress.jobs ≡ d.jobs
    pub rules : rules_at name (set_all jobs (take d.done d.jobs) had) log ≡ set_all jobs (take progress.done progress.jobs) had

  rules_then : (log_entry : LogEntry) (had : List (Option ℕ)) (d : TheEndProgress) (t : TheRun S) (x : Steps jobs name log_entry d t) → IsTaken name log_entry
      → rules_in name (set_all jobs (take d.done d.jobs) had) log_entry ≡ set_all jobs (take x.progress.done x.progress.jobs) had
  rules_then log_entry had d t x taken = elim x.by [
    | inl p ↦ p.1 (set_all jobs (take d.done d.jobs) had) ∙ sym (ap (λ (n : ℕ). set_all jobs (take n d.jobs) had) p.0)
    | inr p ↦ p.1 taken (set_all jobs (take d.done d.jobs) had) ∙ sym (one_more jobs d had) ∙ sym (ap (λ (n : ℕ). set_all jobs (take n d.jobs) had) p.0)
  ] ∙ sym (ap (λ (xs : List ℕ). set_all jobs (take x.progress.done xs) had) x.jobs_same)

  pub all_ruled : (log : List LogEntry) (s t : TheRun S) (d : TheEndProgress) (had : List (Option ℕ)) → Goes w jobs s log t → progress_of s name ≡ Some d → AllTaken log → Ruled log had d t
  all_ruled [] s t d had h is taken = record { progress = d; progress_is = ap (λ (y : TheRun S). progress_of y name) h ∙ is; jobs_same = refl; rules = refl }
  all_ruled (log_entry ∷ log) s t d had h is taken =
      let x = happened log_entry s h.0 d is h.1 h.2 in
      let more = all_ruled log h.0 t x.progress had h.3 x.progress_is taken.1 in
      record {
        progress = more.progress;
        progress_is = more.progress_is;
        jobs_same = more.jobs_same ∙ x.jobs_same;
        rules = ap (λ (rules : List (Option ℕ)). rules_at name rules log) (rules_then log_entry had d h.0 x taken.0) ∙ more.rules;
      }
