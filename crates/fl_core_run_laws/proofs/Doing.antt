-- The calls that an end made are those of its jobs that were done.
use Rattle.std.proofs.Common.{◌≡◌, ◌≢◌, refl, sym, ap, ◌∙◌, subst, ℕ, zero, suc, ◌+◌, ◌==◌, if◌then◌else◌, List, [], ◌∷◌, ◌++◌, length, take, drop, slice_get, slice_set}
use Rattle.std.proofs.Common.{Option, Some, None, IsSome, Bool, true, false, Result, Ok, Err, arith, rules}
use Rattle.std.proofs.lemmas.List.{append-nil, append_assoc}
use Rattle.std.proofs.lemmas.Bool.Decides.{nat_tests}
use Rattle.fl_base.specs.declared.identity.EndId.{EndId}
use Rattle.fl_base.specs.declared.identity.MsgNo.{MsgNo}
use Rattle.fl_base.specs.Prefix.{IsPrefix}
use Rattle.fl_base.specs.Given.{given}
use Rattle.fl_value_data.specs.Value.{TheCall}
use Rattle.fl_core.proofs.BoardPlaces.{set_here, set_elsewhere}
use Rattle.fl_core.specs.declared.turn_answer.TurnAnswer.{TurnAnswer}
use Rattle.fl_core.specs.declared.turn_answer.TurnAnswer.TheVariants as turn
use Rattle.fl_endpoint.specs.declared.fault.EndFault.{EndFault}
use Rattle.fl_hop.specs.Stretch.{same_end}
use Rattle.fl_monitor.specs.declared.fault.MonitorFault.TheVariants as monitor
use Rattle.fl_core.specs.declared.answer.MonitorAnswer.{MonitorAnswer}
use Rattle.fl_core.specs.declared.answer.MonitorAnswer.TheVariants as heard_as
use Rattle.fl_core.specs.declared.fault.LinkReceiveFault.{LinkReceiveFault}
use Rattle.fl_core.specs.declared.fault.OpenFault.{OpenFault}
use Rattle.fl_core.specs.declared.fault.OpenFault.TheVariants as opening
use Rattle.fl_core.specs.View.{slot_of}
use Rattle.fl_core.specs.declared.core_job.CoreJob.{CoreJob}
use Rattle.fl_core.specs.declared.core_job.CoreJob.TheVariants as job
use Rattle.fl_core.specs.declared.core_job.OpenRequest.{OpenRequest}
use Rattle.fl_core_run.specs.EndProgress.{TheEndProgress, progress_place, advanced, with_handled, with_refusal, ChangesIf}
use Rattle.fl_core_run.specs.Run.{SideRelations, TheRun, AtProgress, next_job}
use Rattle.fl_core_run.specs.LogEntries.{LogEntry, looked, passed, arrived, heard, said, told, opened, called, ruled, wrote, acked, turned, NotesHeard, NotesOpened, NotesCalled, NotesTurned, Notes, Happens}
use Rattle.fl_core.specs.Jobs.{calls_of_job, calls_of_jobs}
use Rattle.fl_core_run_laws.specs.Logs.{InPlace, Goes}
use Rattle.fl_core_run_laws.specs.Made.{made_by, made_in, made_at, handed_at, done_at, progress_of, handed_in, done_of, MakesItsJobs}
use Rattle.fl_core_run_laws.proofs.Handling.{progresses_stay, same_place, at_slot, slots, as_many, one_end}

-- ---- jobs in a row

jobs_join : (jobs : List CoreJob) (xs ys : List ℕ) → calls_of_jobs jobs (xs ++ ys) ≡ calls_of_jobs jobs xs ++ calls_of_jobs jobs ys
jobs_join jobs [] ys = refl
jobs_join jobs (x ∷ xs) ys =
    ap (λ (cs : List TheCall). calls_of_job (slice_get jobs x) ++ cs) (jobs_join jobs xs ys)
    ∙ sym (append_assoc (calls_of_job (slice_get jobs x)) (calls_of_jobs jobs xs) (calls_of_jobs jobs ys))

-- what stands there, if something does
abbrev one_of : Option ℕ → List ℕ
one_of None = []
one_of (Some x) = x ∷ []

next_taken : (xs : List ℕ) (n : ℕ) → take (suc n) xs ≡ take n xs ++ one_of (slice_get xs n)
next_taken [] zero = refl
next_taken [] (suc n) = refl
next_taken (x ∷ xs) zero = refl
next_taken (x ∷ xs) (suc n) = ap (λ (ys : List ℕ). x ∷ ys) (next_taken xs n)

-- the job that is next at an end's progress
abbrev next_of : List CoreJob → TheEndProgress → Option CoreJob
next_of jobs d = given (slice_get d.jobs d.done) None λ place. slice_get jobs place

next_calls : (jobs : List CoreJob) (o : Option ℕ) → calls_of_jobs jobs (one_of o) ≡ calls_of_job (given o None λ place. slice_get jobs place)
next_calls jobs None = refl
next_calls jobs (Some place) = append-nil (calls_of_job (slice_get jobs place))

-- one job more is done
one_done : (jobs : List CoreJob) (d : TheEndProgress) → calls_of_jobs jobs (take (d.done + 1) d.jobs) ≡ calls_of_jobs jobs (take d.done d.jobs) ++ calls_of_job (next_of jobs d)
one_done jobs d =
    let e : d.done + 1 ≡ suc d.done = omega arith in
    ap (λ (n : ℕ). calls_of_jobs jobs (take n d.jobs)) e
    ∙ ap (calls_of_jobs jobs) (next_taken d.jobs d.done)
    ∙ jobs_join jobs (take d.done d.jobs) (one_of (slice_get d.jobs d.done))
    ∙ ap (λ (cs : List TheCall). calls_of_jobs jobs (take d.done d.jobs) ++ cs) (next_calls jobs (slice_get d.jobs d.done))

taken_first : (xs : List ℕ) (n : ℕ) → xs ≡ take n xs ++ drop n xs
taken_first [] zero = refl
taken_first [] (suc n) = refl
taken_first (x ∷ xs) zero = refl
taken_first (x ∷ xs) (suc n) = ap (λ (ys : List ℕ). x ∷ ys) (taken_first xs n)

first_by : (jobs : List CoreJob) (o : Option TheEndProgress) → IsPrefix (done_at jobs o) (handed_at jobs o)
first_by jobs None = ([], refl)
first_by jobs (Some d) =
    (calls_of_jobs jobs (drop d.done d.jobs), ap (calls_of_jobs jobs) (taken_first d.jobs d.done) ∙ jobs_join jobs (take d.done d.jobs) (drop d.done d.jobs))

pub done_first : {S : Type 0} (w : SideRelations S) (jobs : List CoreJob) (s : TheRun S) (name : EndId) → IsPrefix (done_of jobs s name) (handed_in jobs s name)
done_first w jobs s name = first_by jobs (progress_of s name)

-- ---- one end's progress changes

-- by so much
pub record Grows (jobs : List CoreJob) (o : Option TheEndProgress) (more : List TheCall) (u : Option TheEndProgress) : Type 0 where
  pub done : done_at jobs u ≡ done_at jobs o ++ more
  pub handed : handed_at jobs u ≡ handed_at jobs o

stays : (jobs : List CoreJob) (o u : Option TheEndProgress) → u ≡ o → Grows jobs o [] u
stays jobs o u same = record { done = ap (done_at jobs) same ∙ sym (append-nil (done_at jobs o)); handed = ap (handed_at jobs) same }

module _ {S : Type 0} (jobs : List CoreJob) (name : EndId) (m t : TheRun S) (p : ℕ) (at : progress_place m.progresses name ≡ Some p) where
  here : progress_of m name ≡ slice_get m.progresses p
  here = ap (λ (o : Option ℕ). given o None (λ (n : ℕ). slice_get m.progresses n)) at

  -- as many ends' progress, and this one has grown so
  abbrev After : List TheCall → Type 0
  After more = Grows jobs (progress_of m name) more (progress_of t name) × (length t.progresses ≡ length m.progresses)

  module _ (e : EndId) (change : TheEndProgress → TheEndProgress) (h : AtProgress e change m t) where
    lengths : length t.progresses ≡ length m.progresses
    lengths = as_many (progress_place m.progresses e) m.progresses t.progresses change h.changes

    there : progress_of t name ≡ slice_get t.progresses p
    there = ap (λ (o : Option ℕ). given o None (λ (n : ℕ). slice_get t.progresses n)) (same_place m.progresses t.progresses name lengths ∙ at)

    -- another end's progress
    other_by : (o : Option ℕ) → progress_place m.progresses e ≡ o → ChangesIf o m.progresses change t.progresses → same_end e name ≡ false → progress_of t name ≡ progress_of m name
    other_by None is same no_one = there ∙ ap (λ (xs : List TheEndProgress). slice_get xs p) same ∙ sym here
    other_by (Some n) is changes no_one =
        let test : (n == p) ≡ false =
        ap (λ (i : ℕ). i == p) (at_slot m.progresses e n is) ∙ ap (λ (i : ℕ). slot_of e == i) (at_slot m.progresses name p at) ∙ slots e name ∙ no_one in
        let ne : p ≢ n = λ same. absurd (grind (arith, nat_tests, test, same)) in
        there ∙ ap (λ (xs : List TheEndProgress). slice_get xs p) changes.rest ∙ set_elsewhere m.progresses n p (change changes.progress) ne ∙ sym here

    -- the end's own
    own_by : (o : Option ℕ) → progress_place m.progresses e ≡ o → ChangesIf o m.progresses change t.progresses → e ≡ name
        → (d : TheEndProgress) × (progress_of m name ≡ Some d) × (progress_of t name ≡ Some (change d))
    own_by None is same one = absurd (let none : Some p ≡ None = sym at ∙ ap (λ (x : EndId). progress_place m.progresses x) (sym one) ∙ is in cc)
    own_by (Some n) is changes one =
        let placed : Some n ≡ Some p = sym is ∙ ap (λ (x : EndId). progress_place m.progresses x) one ∙ at in
        let eq : n ≡ p = cc in
        let stood : slice_get m.progresses p ≡ Some changes.progress = subst (λ (i : ℕ). slice_get m.progresses i ≡ Some changes.progress) eq changes.progress_is in
        let stands : slice_get t.progresses p ≡ Some (change changes.progress) =
        ap (λ (xs : List TheEndProgress). slice_get xs p) changes.rest
        ∙ subst (λ (i : ℕ). slice_get (slice_set m.progresses n (change changes.progress)) i ≡ Some (change changes.progress)) eq (set_here m.progresses n changes.progress (change changes.progress) changes.progress_is) in
        (changes.progress, here ∙ stood, there ∙ stands)

    grown : (d : TheEndProgress) (more : List TheCall) → progress_of m name ≡ Some d → progress_of t name ≡ Some (change d)
        → Grows jobs (Some d) more (Some (change d)) → Grows jobs (progress_of m name) more (progress_of t name)
    grown d more before after g =
        subst (λ (o : Option TheEndProgress). Grows jobs o more (progress_of t name)) (sym before) (subst (λ (o : Option TheEndProgress). Grows jobs (Some d) more o) (sym after) g)

    changed_by : (b : Bool) (more : List TheCall) → same_end e name ≡ b → ((d : TheEndProgress) → e ≡ name → progress_of m name ≡ Some d → Grows jobs (Some d) more (Some (change d)))
        → After (if b then more else [])
    changed_by false more other grows = (stays jobs (progress_of m name) (progress_of t name) (other_by (progress_place m.progresses e) refl h.changes other), lengths)
    changed_by true more one grows =
        let same : e ≡ name = one_end e name one in
        let own = own_by (progress_place m.progresses e) refl h.changes same in
        (grown own.0 more own.1 own.2 (grows own.0 same own.1), lengths)

    pub changed : (more : List TheCall) → ((d : TheEndProgress) → e ≡ name → progress_of m name ≡ Some d → Grows jobs (Some d) more (Some (change d)))
        → After (if same_end e name then more else [])
    changed more grows = changed_by (same_end e name) more refl grows

  pub nothing_new : t ≡ m → After []
  nothing_new same = (stays jobs (progress_of m name) (progress_of t name) (ap (λ (x : TheRun S). progress_of x name) same), ap (λ (x : TheRun S). length x.progresses) same)

-- a change that does no job
same_by : (b : Bool) → (if b then [] else []) ≡ (let xs : List TheCall = [] in xs)
same_by true = refl
same_by false = refl

module _ {S : Type 0} (jobs : List CoreJob) (name : EndId) (m t : TheRun S) (p : ℕ) (at : progress_place m.progresses name ≡ Some p) where
  quiet : (e : EndId) (change : TheEndProgress → TheEndProgress) → AtProgress e change m t → ((d : TheEndProgress) → Grows jobs (Some d) [] (Some (change d))) → After jobs name m t p at []
  quiet e change h grows =
      subst (λ (more : List TheCall). After jobs name m t p at more) (same_by (same_end e name))
      (changed jobs name m t p at e change h [] (λ d same is. grows d))

  none_here : (e : EndId) → t ≡ m → After jobs name m t p at (if same_end e name then [] else [])
  none_here e same = subst (λ (more : List TheCall). After jobs name m t p at more) (sym (same_by (same_end e name))) (nothing_new jobs name m t p at same)

  same_jobs : (d u : TheEndProgress) → u.jobs ≡ d.jobs → u.done ≡ d.done → Grows jobs (Some d) [] (Some u)
  same_jobs d u js n = record {
    done = ap (λ (xs : List ℕ). calls_of_jobs jobs (take u.done xs)) js ∙ ap (λ (k : ℕ). calls_of_jobs jobs (take k d.jobs)) n ∙ sym (append-nil (done_at jobs (Some d)));
    handed = ap (calls_of_jobs jobs) js;
  }

  noted_heard : (answer : Result MonitorAnswer LinkReceiveFault) → NotesHeard answer m t → After jobs name m t p at []
  noted_heard (Ok (heard_as.OpeningRefused e reason)) h = quiet e (with_refusal reason) h (λ d. same_jobs d _ refl refl)
  noted_heard (Ok heard_as.Full) h = nothing_new jobs name m t p at h
  noted_heard (Ok heard_as.Done) h = nothing_new jobs name m t p at h
  noted_heard (Ok (heard_as.Opened e)) h = nothing_new jobs name m t p at h
  noted_heard (Err fault) h = nothing_new jobs name m t p at h

  -- the job that is next at an end's progress, where it is the end's progress of this end
  next_here : (s : TheRun S) (e : EndId) (d : TheEndProgress) → s.progresses ≡ m.progresses → e ≡ name → progress_of m name ≡ Some d → next_job jobs s e ≡ next_of jobs d
  next_here s e d progresses one is =
      ap (λ (x : EndId). next_job jobs s x) one
      ∙ ap (λ (xs : List TheEndProgress). given (progress_place xs name) None (λ (n : ℕ). given (slice_get xs n) None (λ (x : TheEndProgress). next_of jobs x))) progresses
      ∙ ap (λ (o : Option ℕ). given o None (λ (n : ℕ). given (slice_get m.progresses n) None (λ (x : TheEndProgress). next_of jobs x))) at
      ∙ ap (λ (o : Option TheEndProgress). given o None (λ (x : TheEndProgress). next_of jobs x)) (sym (here jobs name m t p at) ∙ is)

  -- a job that is no call is done
  other_done : (d u : TheEndProgress) → u.jobs ≡ d.jobs → u.done ≡ d.done + 1 → calls_of_job (next_of jobs d) ≡ [] → Grows jobs (Some d) [] (Some u)
  other_done d u js n none = record {
    done = ap (λ (xs : List ℕ). calls_of_jobs jobs (take u.done xs)) js ∙ ap (λ (k : ℕ). calls_of_jobs jobs (take k d.jobs)) n ∙ one_done jobs d
        ∙ ap (λ (cs : List TheCall). done_at jobs (Some d) ++ cs) none;
    handed = ap (calls_of_jobs jobs) js;
  }

  call_done : (d : TheEndProgress) (c : TheCall) → calls_of_job (next_of jobs d) ≡ c ∷ [] → Grows jobs (Some d) (c ∷ []) (Some (advanced d))
  call_done d c next = record { done = one_done jobs d ∙ ap (λ (cs : List TheCall). done_at jobs (Some d) ++ cs) next; handed = refl }

  module _ (s : TheRun S) (progresses : m.progresses ≡ s.progresses) where
    noted_called : (e : EndId) (c : TheCall) (answer : Result (Unit {0}) EndFault) → calls_of_job (next_job jobs s e) ≡ c ∷ [] → NotesCalled e answer m t
        → After jobs name m t p at (if same_end e name then made_by c answer else [])
    noted_called e c (Ok done) next h =
        changed jobs name m t p at e advanced h (c ∷ []) (λ d one is. call_done d c (ap calls_of_job (sym (next_here s e d (sym progresses) one is)) ∙ next))
    noted_called e c (Err fault) next h = none_here e h

    opens_none : (e : EndId) (request : OpenRequest) (d : TheEndProgress) → next_job jobs s e ≡ Some (job.Open request) → e ≡ name → progress_of m name ≡ Some d → calls_of_job (next_of jobs d) ≡ []
    opens_none e request d next one is = ap calls_of_job (sym (next_here s e d (sym progresses) one is) ∙ next)

    -- a rule is set
    set_rule : (e f : EndId) (msg reply : MsgNo) → next_job jobs s e ≡ Some (job.Reply f msg reply) → AtProgress e advanced m t → After jobs name m t p at []
    set_rule e f msg reply next h =
        subst (λ (more : List TheCall). After jobs name m t p at more) (same_by (same_end e name))
        (changed jobs name m t p at e advanced h []
        (λ d one is. other_done d (advanced d) refl refl (ap calls_of_job (sym (next_here s e d (sym progresses) one is) ∙ next))))

    asked : (e : EndId) (request : OpenRequest) (change : TheEndProgress → TheEndProgress) → next_job jobs s e ≡ Some (job.Open request) → ((d : TheEndProgress) → (change d).jobs ≡ d.jobs)
        → ((d : TheEndProgress) → (change d).done ≡ d.done + 1) → AtProgress e change m t → After jobs name m t p at []
    asked e request change next js ns h =
        subst (λ (more : List TheCall). After jobs name m t p at more) (same_by (same_end e name))
        (changed jobs name m t p at e change h [] (λ d one is. other_done d (change d) (js d) (ns d) (opens_none e request d next one is)))

    noted_opened : (e : EndId) (request : OpenRequest) (answer : Result ℕ OpenFault) → next_job jobs s e ≡ Some (job.Open request) → NotesOpened e answer m t → After jobs name m t p at []
    noted_opened e request (Ok k) next h = asked e request advanced next (λ d. refl) (λ d. refl) h
    noted_opened e request (Err (opening.Board fault)) next h = asked e request _ next (λ d. refl) (λ d. refl) h
    noted_opened e request (Err (opening.Monitor monitor.OutboxFull)) next h = nothing_new jobs name m t p at h
    noted_opened e request (Err (opening.Monitor monitor.Misrouted)) next h = asked e request _ next (λ d. refl) (λ d. refl) h
    noted_opened e request (Err (opening.Monitor monitor.Differs)) next h = asked e request _ next (λ d. refl) (λ d. refl) h
    noted_opened e request (Err (opening.Monitor monitor.NoRoute)) next h = asked e request _ next (λ d. refl) (λ d. refl) h
    noted_opened e request (Err (opening.Monitor monitor.UsedUp)) next h = asked e request _ next (λ d. refl) (λ d. refl) h
    noted_opened e request (Err (opening.Monitor monitor.PlansDiffer)) next h = asked e request _ next (λ d. refl) (λ d. refl) h
    noted_opened e request (Err (opening.Monitor monitor.Memory)) next h = asked e request _ next (λ d. refl) (λ d. refl) h

    noted_turned : (e : EndId) (answer : TurnAnswer) → NotesTurned e answer m t → After jobs name m t p at []
    noted_turned e (turn.Handle call) h = quiet e (with_handled call) h (λ d. same_jobs d _ refl refl)
    noted_turned e turn.Part h = nothing_new jobs name m t p at h
    noted_turned e turn.Ready h = nothing_new jobs name m t p at h
    noted_turned e turn.Quiet h = nothing_new jobs name m t p at h
    noted_turned e turn.Full h = nothing_new jobs name m t p at h
    noted_turned e turn.Nothing h = nothing_new jobs name m t p at h
    noted_turned e (turn.Refused fault) h = nothing_new jobs name m t p at h

    pub noted : (log_entry : LogEntry) → InPlace jobs s log_entry → Notes log_entry m t → After jobs name m t p at (made_in name log_entry)
    noted (looked n l answer) by h = nothing_new jobs name m t p at h
    noted (passed n k frag c outcome) by h = nothing_new jobs name m t p at h
    noted (arrived n l frag e answer) by h = nothing_new jobs name m t p at h
    noted (heard n l frag answer) by h = noted_heard answer h
    noted (said n l answer) by h = nothing_new jobs name m t p at h
    noted (told n l answer) by h = nothing_new jobs name m t p at h
    noted (opened e request answer) by h = noted_opened e request answer by.0 h
    noted (called e c answer) by h = noted_called e c answer by h
    noted (ruled e msg reply answer) by h = set_rule e by.0 msg reply by.1 h
    noted (wrote e out answer) by h = nothing_new jobs name m t p at h
    noted (acked e n answer) by h = nothing_new jobs name m t p at h
    noted (turned d e from answer) by h = noted_turned e answer h

-- ---- one event, and a log

module _ {S : Type 0} (w : SideRelations S) (jobs : List CoreJob) (name : EndId) where
  happened : (log_entry : LogEntry) (s t : TheRun S) (p : ℕ) → progress_place s.progresses name ≡ Some p → Happens w log_entry s t → InPlace jobs s log_entry
      → Grows jobs (progress_of s name) (made_in name log_entry) (progress_of t name) × (progress_place t.progresses name ≡ Some p)
  happened log_entry s t p at h by =
      let stay : h.0.progresses ≡ s.progresses = progresses_stay w log_entry s h.0 h.1 in
      let there : progress_place h.0.progresses name ≡ Some p = ap (λ (xs : List TheEndProgress). progress_place xs name) stay ∙ at in
      let after = noted jobs name h.0 t p there s stay log_entry by h.2 in
      let before : progress_of h.0 name ≡ progress_of s name = ap (λ (xs : List TheEndProgress). given (progress_place xs name) None (λ (n : ℕ). slice_get xs n)) stay in
      (subst (λ (o : Option TheEndProgress). Grows jobs o (made_in name log_entry) (progress_of t name)) before after.0, same_place h.0.progresses t.progresses name after.1 ∙ there)

  by_log : (log : List LogEntry) (s t : TheRun S) (p : ℕ) → progress_place s.progresses name ≡ Some p → Goes w jobs s log t → MakesItsJobs jobs name s (made_at name log) t
  by_log [] s t p at h = record {
    done = ap (λ (x : TheRun S). done_of jobs x name) h ∙ sym (append-nil (done_of jobs s name));
    handed = ap (λ (x : TheRun S). handed_in jobs x name) h;
  }
  by_log (log_entry ∷ log) s t p at h =
      let one = happened log_entry s h.0 p at h.1 h.2 in
      let more = by_log log h.0 t p one.1 h.3 in
      record {
        done = more.done ∙ ap (λ (cs : List TheCall). cs ++ made_at name log) one.0.done ∙ append_assoc (done_of jobs s name) (made_in name log_entry) (made_at name log);
        handed = more.handed ∙ one.0.handed;
      }

  from_place : (o : Option ℕ) (log : List LogEntry) (s t : TheRun S) → progress_place s.progresses name ≡ o → IsSome o → Goes w jobs s log t → MakesItsJobs jobs name s (made_at name log) t
  from_place None log s t at some h = absurd (search (rules, some))
  from_place (Some p) log s t at some h = by_log log s t p at h

pub makes_jobs : {S : Type 0} (w : SideRelations S) (jobs : List CoreJob) (s t : TheRun S) (log : List LogEntry) (name : EndId) → IsSome (progress_place s.progresses name)
    → Goes w jobs s log t → MakesItsJobs jobs name s (made_at name log) t
makes_jobs w jobs s t log name some h = from_place w jobs name (progress_place s.progresses name) log s t refl some h
