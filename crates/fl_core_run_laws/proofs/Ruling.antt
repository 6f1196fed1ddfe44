-- Rules of an end are set before it handles a call, where they are its first jobs.
use Rattle.std.proofs.Common.{◌≡◌, ◌≢◌, refl, sym, ap, ◌∙◌, subst, ℕ, zero, suc, ◌+◌, ◌==◌, ◌⊎◌, inl, inr, if◌then◌else◌, List, [], ◌∷◌, length, drop, slice_get, slice_set}
use Rattle.std.proofs.Common.{Option, Some, None, Bool, true, false, Result, Ok, Err, arith}
use Rattle.std.proofs.lemmas.Bool.Decides.{nat_tests}
use Rattle.fl_base.specs.declared.identity.EndId.{EndId}
use Rattle.fl_base.specs.Given.{given}
use Rattle.fl_value_data.specs.declared.value.Call.{Call}
use Rattle.fl_core.proofs.BoardPlaces.{one_stands, set_here, set_elsewhere}
use Rattle.fl_core.specs.declared.turn_answer.TurnAnswer.{TurnAnswer}
use Rattle.fl_core.specs.declared.turn_answer.TurnAnswer.TheVariants as turn
use Rattle.fl_endpoint.specs.declared.fault.EndFault.{EndFault}
use Rattle.fl_hop.specs.Stretch.{same_end}
use Rattle.fl_monitor.specs.declared.fault.MonitorFault.TheVariants as monitor
use Rattle.fl_core.specs.declared.answer.MonitorAnswer.{MonitorAnswer}
use Rattle.fl_core.specs.declared.answer.MonitorAnswer.TheVariants as heard_as
use Rattle.fl_core.specs.declared.fault.LinkReceiveFault.{LinkReceiveFault}
use Rattle.fl_core.specs.declared.fault.OpenFault.{OpenFault}
use Rattle.fl_core.specs.declared.fault.OpenFault.TheVariants as opening
use Rattle.fl_core.specs.declared.core_job.CoreJob.{CoreJob}
use Rattle.fl_core.specs.declared.core_job.CoreJob.TheVariants as job
use Rattle.fl_core_run.specs.EndProgress.{TheEndProgress, progress_place, advanced, with_handled, with_refusal, ChangesIf}
use Rattle.fl_core_run.specs.Run.{SideRelations, TheRun, AtProgress, next_job}
use Rattle.fl_core_run.specs.LogEntries.{LogEntry, looked, passed, arrived, heard, said, told, opened, called, ruled, wrote, acked, turned, NotesHeard, NotesOpened, NotesCalled, NotesTurned, Notes}
use Rattle.fl_core.specs.Jobs.{is_before_calls}
use Rattle.fl_core.specs.Jobs.{is_rule, HasNoRule, RulesLead}
use Rattle.fl_core_run_laws.specs.Logs.{InPlace, Goes, call_in, handled_in}
use Rattle.fl_core_run_laws.specs.Carried.{sets_rule, SetsNone, RulesFirst, jobs_left}
use Rattle.fl_core_run_laws.proofs.Handling.{progresses_stay, as_many, same_place, one_end}

-- ---- what every change of an end's progress keeps

pub record Lasts (K : TheEndProgress → Type 0) : Type 0 where
  pub advances : (d : TheEndProgress) → K d → K (advanced d)
  pub handles : (c : Call) (d : TheEndProgress) → K d → K (with_handled c d)
  pub refuses : (n : ℕ) (d : TheEndProgress) → K d → K (with_refusal n d)

-- each end's progress of these was one of those, at its place, and is as good
abbrev Keep : (TheEndProgress → Type 0) → List TheEndProgress → List TheEndProgress → Type 0
Keep K xs ys = (length ys ≡ length xs) × ((n : ℕ) (u : TheEndProgress) → slice_get ys n ≡ Some u → (d : TheEndProgress) × (slice_get xs n ≡ Some d) × (K d → K u))

module _ (K : TheEndProgress → Type 0) (lasts : Lasts K) where
  all_stay : (xs ys : List TheEndProgress) → ys ≡ xs → Keep K xs ys
  all_stay xs ys same = (ap length same, λ n u at. (u, ap (λ (zs : List TheEndProgress). slice_get zs n) (sym same) ∙ at, λ k. k))

  one_set : (xs : List TheEndProgress) (i n : ℕ) (d u : TheEndProgress) (change : TheEndProgress → TheEndProgress) (b : Bool) → ((x : TheEndProgress) → K x → K (change x)) → slice_get xs i ≡ Some d → (i == n) ≡ b
      → slice_get (slice_set xs i (change d)) n ≡ Some u → (v : TheEndProgress) × (slice_get xs n ≡ Some v) × (K v → K u)
  one_set xs i n d u change true keeps there same at =
      let eq : i ≡ n = grind (arith, nat_tests, same) in
      let here : slice_get (slice_set xs i (change d)) n ≡ Some (change d) = subst (λ (j : ℕ). slice_get (slice_set xs i (change d)) j ≡ Some (change d)) eq (set_here xs i d (change d) there) in
      let is : change d ≡ u = one_stands (slice_set xs i (change d)) n (change d) u here at in
      (d, subst (λ (j : ℕ). slice_get xs j ≡ Some d) eq there, λ k. subst K is (keeps d k))
  one_set xs i n d u change false keeps there same at =
      let ne : n ≢ i = λ e. absurd (grind (arith, nat_tests, same, e)) in
      (u, sym (set_elsewhere xs i n (change d) ne) ∙ at, λ k. k)

  changes_by : (o : Option ℕ) (xs ys : List TheEndProgress) (change : TheEndProgress → TheEndProgress) → ((x : TheEndProgress) → K x → K (change x)) → ChangesIf o xs change ys → Keep K xs ys
  changes_by None xs ys change keeps h = all_stay xs ys h
  changes_by (Some i) xs ys change keeps h = (
    as_many (Some i) xs ys change h,
    λ n u at. one_set xs i n h.progress u change (i == n) keeps h.progress_is refl (ap (λ (zs : List TheEndProgress). slice_get zs n) (sym h.rest) ∙ at),
  )

  module _ {S : Type 0} (m t : TheRun S) where
    Kept : Type 0
    Kept = Keep K m.progresses t.progresses

    same : t ≡ m → Keep K m.progresses t.progresses
    same h = all_stay m.progresses t.progresses (ap (λ (x : TheRun S). x.progresses) h)

    at_progress : (e : EndId) (change : TheEndProgress → TheEndProgress) → ((x : TheEndProgress) → K x → K (change x)) → AtProgress e change m t → Keep K m.progresses t.progresses
    at_progress e change keeps h = changes_by (progress_place m.progresses e) m.progresses t.progresses change keeps h.changes

    both : (n : ℕ) (x : TheEndProgress) → K x → K (advanced (with_refusal n x))
    both n x k = lasts.advances (with_refusal n x) (lasts.refuses n x k)

    noted_heard : (answer : Result MonitorAnswer LinkReceiveFault) → NotesHeard answer m t → Keep K m.progresses t.progresses
    noted_heard (Ok (heard_as.OpeningRefused e reason)) h = at_progress e (with_refusal reason) (lasts.refuses reason) h
    noted_heard (Ok heard_as.Full) h = same h
    noted_heard (Ok heard_as.Done) h = same h
    noted_heard (Ok (heard_as.Opened e)) h = same h
    noted_heard (Err fault) h = same h

    noted_opened : (e : EndId) (answer : Result ℕ OpenFault) → NotesOpened e answer m t → Keep K m.progresses t.progresses
    noted_opened e (Ok k) h = at_progress e advanced lasts.advances h
    noted_opened e (Err (opening.Board fault)) h = at_progress e _ (both _) h
    noted_opened e (Err (opening.Monitor monitor.OutboxFull)) h = same h
    noted_opened e (Err (opening.Monitor monitor.Misrouted)) h = at_progress e _ (both _) h
    noted_opened e (Err (opening.Monitor monitor.Differs)) h = at_progress e _ (both _) h
    noted_opened e (Err (opening.Monitor monitor.NoRoute)) h = at_progress e _ (both _) h
    noted_opened e (Err (opening.Monitor monitor.UsedUp)) h = at_progress e _ (both _) h
    noted_opened e (Err (opening.Monitor monitor.PlansDiffer)) h = at_progress e _ (both _) h
    noted_opened e (Err (opening.Monitor monitor.Memory)) h = at_progress e _ (both _) h

    noted_called : (e : EndId) (answer : Result (Unit {0}) EndFault) → NotesCalled e answer m t → Keep K m.progresses t.progresses
    noted_called e (Ok done) h = at_progress e advanced lasts.advances h
    noted_called e (Err fault) h = same h

    noted_turned : (e : EndId) (answer : TurnAnswer) → NotesTurned e answer m t → Keep K m.progresses t.progresses
    noted_turned e (turn.Handle call) h = at_progress e (with_handled call) (lasts.handles call) h
    noted_turned e turn.Part h = same h
    noted_turned e turn.Ready h = same h
    noted_turned e turn.Quiet h = same h
    noted_turned e turn.Full h = same h
    noted_turned e turn.Nothing h = same h
    noted_turned e (turn.Refused fault) h = same h

    noted : (log_entry : LogEntry) → Notes log_entry m t → Keep K m.progresses t.progresses
    noted (looked n l answer) h = same h
    noted (passed n k frag c outcome) h = same h
    noted (arrived n l frag e answer) h = same h
    noted (heard n l frag answer) h = noted_heard answer h
    noted (said n l answer) h = same h
    noted (told n l answer) h = same h
    noted (opened e request answer) h = noted_opened e answer h
    noted (called e c answer) h = noted_called e answer h
    noted (ruled e msg reply answer) h = at_progress e advanced lasts.advances h
    noted (wrote e out answer) h = same h
    noted (acked e n answer) h = same h
    noted (turned d e from answer) h = noted_turned e answer h

-- ---- the jobs that are left

-- of the end's progress of an end, where it has one
abbrev pub Holds : {S : Type 0} → (TheEndProgress → Type 0) → TheRun S → EndId → Type 0
Holds s_K s name = (n : ℕ) (d : TheEndProgress) → progress_place s.progresses name ≡ Some n → slice_get s.progresses n ≡ Some d → s_K d

holds_on : {S : Type 0} (K : TheEndProgress → Type 0) (s t : TheRun S) (name : EndId) → Keep K s.progresses t.progresses → Holds K s name → Holds K t name
holds_on K s t name keep h n u at there =
    let (d, stood, keeps) = keep.1 n u there in
    keeps (h n d (sym (same_place s.progresses t.progresses name keep.0) ∙ at) stood)

drop_next : {X : Type 0} (xs : List X) (n : ℕ) → drop (suc n) xs ≡ drop 1 (drop n xs)
drop_next [] zero = refl
drop_next [] (suc n) = refl
drop_next (x ∷ xs) zero = refl
drop_next (x ∷ xs) (suc n) = drop_next xs n

drop_more : {X : Type 0} (xs : List X) (n : ℕ) → drop (n + 1) xs ≡ drop 1 (drop n xs)
drop_more xs n = let e : n + 1 ≡ suc n = omega arith in ap (λ (k : ℕ). drop k xs) e ∙ drop_next xs n

less_rules : (jobs : List CoreJob) (xs : List ℕ) → HasNoRule jobs xs → HasNoRule jobs (drop 1 xs)
less_rules jobs [] h = h
less_rules jobs (x ∷ xs) h = h.1

less_leads : (jobs : List CoreJob) (xs : List ℕ) → RulesLead jobs xs → RulesLead jobs (drop 1 xs)
less_leads jobs [] h = h
less_leads jobs (x ∷ xs) h = h.1

abbrev NoneLeft : List CoreJob → TheEndProgress → Type 0
NoneLeft jobs d = HasNoRule jobs (drop d.done d.jobs)

abbrev LeadLeft : List CoreJob → TheEndProgress → Type 0
LeadLeft jobs d = RulesLead jobs (drop d.done d.jobs)

none_lasts : (jobs : List CoreJob) → Lasts (NoneLeft jobs)
none_lasts jobs = record {
  advances = λ d h. subst (HasNoRule jobs) (sym (drop_more d.jobs d.done)) (less_rules jobs (drop d.done d.jobs) h);
  handles = λ c d h. h;
  refuses = λ n d h. h;
}

lead_lasts : (jobs : List CoreJob) → Lasts (LeadLeft jobs)
lead_lasts jobs = record {
  advances = λ d h. subst (RulesLead jobs) (sym (drop_more d.jobs d.done)) (less_leads jobs (drop d.done d.jobs) h);
  handles = λ c d h. h;
  refuses = λ n d h. h;
}

-- the next job is the first that is left
abbrev first_of : List ℕ → Option ℕ
first_of [] = None
first_of (x ∷ xs) = Some x

first_left : (xs : List ℕ) (n : ℕ) → slice_get xs n ≡ first_of (drop n xs)
first_left [] zero = refl
first_left [] (suc n) = refl
first_left (x ∷ xs) zero = refl
first_left (x ∷ xs) (suc n) = first_left xs n

abbrev job_of : List CoreJob → Option ℕ → Option CoreJob
job_of jobs o = given o None λ place. slice_get jobs place

no_rule_first : (jobs : List CoreJob) (xs : List ℕ) → HasNoRule jobs xs → is_rule (job_of jobs (first_of xs)) ≡ false
no_rule_first jobs [] h = refl
no_rule_first jobs (x ∷ xs) h = h.0

-- where the rules lead, and the next job is a call or none is left, none sets a rule
none_then : (jobs : List CoreJob) (xs : List ℕ) → RulesLead jobs xs → is_before_calls (job_of jobs (first_of xs)) ≡ false → HasNoRule jobs xs
none_then jobs [] h next = tt
none_then jobs (x ∷ xs) h next = (no_rule (slice_get jobs x) next, h.0 next) where
  no_rule : (o : Option CoreJob) → is_before_calls o ≡ false → is_rule o ≡ false
  no_rule None n = refl
  no_rule (Some (job.Open request)) n = absurd (cc)
  no_rule (Some (job.Reply e msg reply)) n = absurd (cc)
  no_rule (Some (job.Call e call)) n = refl

-- ---- a log

module _ {S : Type 0} (w : SideRelations S) (jobs : List CoreJob) (name : EndId) where
  -- the end's progress's next job, where it has an end's progress
  next_at : (s : TheRun S) (n : ℕ) (d : TheEndProgress) → progress_place s.progresses name ≡ Some n → slice_get s.progresses n ≡ Some d → next_job jobs s name ≡ job_of jobs (first_of (drop d.done d.jobs))
  next_at s n d at there =
      ap (λ (o : Option ℕ). given o None (λ (i : ℕ). given (slice_get s.progresses i) None (λ (x : TheEndProgress). given (slice_get x.jobs x.done) None (λ (place : ℕ). slice_get jobs place)))) at
      ∙ ap (λ (o : Option TheEndProgress). given o None (λ (x : TheEndProgress). given (slice_get x.jobs x.done) None (λ (place : ℕ). slice_get jobs place))) there
      ∙ ap (job_of jobs) (first_left d.jobs d.done)

  -- with an end's progress or without
  no_progress : (s : TheRun S) (o : Option ℕ) → progress_place s.progresses name ≡ o → (b : Bool) → Holds (NoneLeft jobs) s name → is_rule (next_job jobs s name) ≡ false
  no_progress s None is b h = ap (λ (o : Option ℕ). is_rule (given o None (λ (i : ℕ). given (slice_get s.progresses i) None (λ (x : TheEndProgress). given (slice_get x.jobs x.done) None (λ (place : ℕ). slice_get jobs place))))) is
  no_progress s (Some n) is b h = by (slice_get s.progresses n) refl where
    by : (o : Option TheEndProgress) → slice_get s.progresses n ≡ o → is_rule (next_job jobs s name) ≡ false
    by None none =
        ap is_rule (ap (λ (o : Option ℕ). given o None (λ (i : ℕ). given (slice_get s.progresses i) None (λ (x : TheEndProgress). given (slice_get x.jobs x.done) None (λ (place : ℕ). slice_get jobs place)))) is
        ∙ ap (λ (o : Option TheEndProgress). given o None (λ (x : TheEndProgress). given (slice_get x.jobs x.done) None (λ (place : ℕ). slice_get jobs place))) none)
    by (Some d) there = ap is_rule (next_at s n d is there) ∙ no_rule_first jobs (drop d.done d.jobs) (h n d is there)

  -- an event in its place sets no rule where none is left
  not_set : (s : TheRun S) (log_entry : LogEntry) → InPlace jobs s log_entry → Holds (NoneLeft jobs) s name → sets_rule name log_entry ≡ false
  not_set s (ruled e msg reply answer) by h = test (same_end e name) refl where
    test : (b : Bool) → same_end e name ≡ b → b ≡ false
    test false is = refl
    test true is =
        let next : next_job jobs s name ≡ Some (job.Reply by.0 msg reply) = ap (λ (x : EndId). next_job jobs s x) (sym (one_end e name is)) ∙ by.1 in
        absurd (let no : true ≡ false = sym (ap is_rule next) ∙ no_progress s (progress_place s.progresses name) refl true h in cc)
  not_set s (looked n l answer) by h = refl
  not_set s (passed n k frag c outcome) by h = refl
  not_set s (arrived n l frag e answer) by h = refl
  not_set s (heard n l frag answer) by h = refl
  not_set s (said n l answer) by h = refl
  not_set s (told n l answer) by h = refl
  not_set s (opened e request answer) by h = refl
  not_set s (called e c answer) by h = refl
  not_set s (wrote e out answer) by h = refl
  not_set s (acked e n answer) by h = refl
  not_set s (turned d e from answer) by h = refl

  keep_on : (K : TheEndProgress → Type 0) → Lasts K → (log_entry : LogEntry) (s m t : TheRun S) → m.progresses ≡ s.progresses → Notes log_entry m t → Holds K s name → Holds K t name
  keep_on K lasts log_entry s m t same notes h =
      holds_on K s t name (subst (λ (xs : List TheEndProgress). Keep K xs t.progresses) same (noted K lasts m t log_entry notes)) h

  sets_none : (log : List LogEntry) (s t : TheRun S) → Goes w jobs s log t → Holds (NoneLeft jobs) s name → SetsNone name log
  sets_none [] s t h left = tt
  sets_none (log_entry ∷ log) s t h left =
      (not_set s log_entry h.2 left, sets_none log h.0 t h.3 (keep_on (NoneLeft jobs) (none_lasts jobs) log_entry s h.1.0 h.0 (progresses_stay w log_entry s h.1.0 h.1.1) h.1.2 left))

  -- where the next job is no rule and no opening, the rules that lead are done
  none_left : (s : TheRun S) → is_before_calls (next_job jobs s name) ≡ false → Holds (LeadLeft jobs) s name → Holds (NoneLeft jobs) s name
  none_left s next h n d at there = none_then jobs (drop d.done d.jobs) (h n d at there) (ap is_before_calls (sym (next_at s n d at there)) ∙ next)

  first : (log_entry : LogEntry) (log : List LogEntry) (s m t u : TheRun S) → InPlace jobs s log_entry → m.progresses ≡ s.progresses → Notes log_entry m t → Goes w jobs t log u → Holds (LeadLeft jobs) s name
      → (handled_in name log_entry ≡ []) ⊎ SetsNone name log
  first (turned d e from answer) log s m t u by same notes h lead = test (same_end e name) refl where
    test : (b : Bool) → same_end e name ≡ b → (handled_in name (turned d e from answer) ≡ []) ⊎ SetsNone name log
    test false is = inl (ap (λ (b : Bool). if b then call_in answer else []) is)
    test true is =
        let next : is_before_calls (next_job jobs s name) ≡ false = ap (λ (x : EndId). is_before_calls (next_job jobs s x)) (sym (one_end e name is)) ∙ by.4 in
        inr (sets_none log t u h (keep_on (NoneLeft jobs) (none_lasts jobs) (turned d e from answer) s m t same notes (none_left s next lead)))
  first (looked n l answer) log s m t u by same notes h lead = inl refl
  first (passed n k frag c outcome) log s m t u by same notes h lead = inl refl
  first (arrived n l frag e answer) log s m t u by same notes h lead = inl refl
  first (heard n l frag answer) log s m t u by same notes h lead = inl refl
  first (said n l answer) log s m t u by same notes h lead = inl refl
  first (told n l answer) log s m t u by same notes h lead = inl refl
  first (opened e request answer) log s m t u by same notes h lead = inl refl
  first (called e c answer) log s m t u by same notes h lead = inl refl
  first (ruled e msg reply answer) log s m t u by same notes h lead = inl refl
  first (wrote e out answer) log s m t u by same notes h lead = inl refl
  first (acked e n answer) log s m t u by same notes h lead = inl refl

  rules_first : (log : List LogEntry) (s t : TheRun S) → Goes w jobs s log t → Holds (LeadLeft jobs) s name → RulesFirst name log
  rules_first [] s t h lead = tt
  rules_first (log_entry ∷ log) s t h lead =
      let same = progresses_stay w log_entry s h.1.0 h.1.1 in
      (first log_entry log s h.1.0 h.0 t h.2 same h.1.2 h.3 lead, rules_first log h.0 t h.3 (keep_on (LeadLeft jobs) (lead_lasts jobs) log_entry s h.1.0 h.0 same h.1.2 lead))

  -- from the jobs that are left
  left_is : (s : TheRun S) (n : ℕ) (d : TheEndProgress) → progress_place s.progresses name ≡ Some n → slice_get s.progresses n ≡ Some d → jobs_left s name ≡ drop d.done d.jobs
  left_is s n d at there =
      ap (λ (o : Option TheEndProgress). given o [] (λ (x : TheEndProgress). drop x.done x.jobs))
      (ap (λ (o : Option ℕ). given o None (λ (i : ℕ). slice_get s.progresses i)) at ∙ there)

pub rules_come_first : {S : Type 0} (w : SideRelations S) (jobs : List CoreJob) (s t : TheRun S) (log : List LogEntry) (name : EndId) → Goes w jobs s log t
    → (RulesLead jobs (jobs_left s name) → RulesFirst name log) × (HasNoRule jobs (jobs_left s name) → SetsNone name log)
rules_come_first w jobs s t log name h = (
  λ lead. rules_first w jobs name log s t h (λ n d at there. subst (RulesLead jobs) (left_is w jobs name s n d at there) lead),
  λ none. sets_none w jobs name log s t h (λ n d at there. subst (HasNoRule jobs) (left_is w jobs name s n d at there) none),
)
