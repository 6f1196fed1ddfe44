-- What ends' progress keep while events are noted: their jobs; and a refusal, but where an opening of their own end is refused.
use Rattle.std.proofs.Common.{◌≡◌, ◌≢◌, refl, sym, ap, ◌∙◌, subst, ℕ, zero, suc, ◌≤◌, ◌==◌, List, [], ◌∷◌, map, length, slice_get, slice_set, Option, Some, None, Bool, true, false}
use Rattle.std.proofs.Common.{Result, Ok, Err, arith}
use Rattle.std.proofs.lemmas.Bool.Decides.{nat_tests}
use Rattle.std.proofs.lemmas.List.{length-map}
use Rattle.fl_base.specs.declared.identity.EndId.{EndId}
use Rattle.fl_base.specs.Given.{given}
use Rattle.fl_ring.specs.SharedSides.{TheSide}
use Rattle.fl_value_data.specs.declared.value.Call.{Call}
use Rattle.fl_core.proofs.BoardPlaces.{one_stands, set_here, set_elsewhere}
use Rattle.fl_endpoint.specs.declared.fault.EndFault.{EndFault}
use Rattle.fl_core.specs.declared.turn_answer.TurnAnswer.{TurnAnswer}
use Rattle.fl_core.specs.declared.turn_answer.TurnAnswer.TheVariants as turn
use Rattle.fl_hop.specs.Stretch.{same_end}
use Rattle.fl_monitor.specs.declared.fault.MonitorFault.TheVariants as monitor
use Rattle.fl_core.specs.View.{slot_of}
use Rattle.fl_core.specs.declared.answer.MonitorAnswer.{MonitorAnswer}
use Rattle.fl_core.specs.declared.answer.MonitorAnswer.TheVariants as heard_as
use Rattle.fl_core.specs.declared.fault.LinkReceiveFault.{LinkReceiveFault}
use Rattle.fl_core.specs.declared.fault.OpenFault.{OpenFault}
use Rattle.fl_core.specs.declared.fault.OpenFault.TheVariants as opening
use Rattle.fl_core_run.specs.EndProgress.{TheEndProgress, progress_place, advanced, with_handled, with_refusal, ChangesIf}
use Rattle.fl_core_run.specs.Run.{TheRun, AtProgress}
use Rattle.fl_core_run.specs.LogEntries.{LogEntry, looked, passed, arrived, heard, said, told, opened, called, ruled, wrote, acked, turned, NotesHeard, NotesOpened, NotesCalled, NotesTurned, Notes}
use Rattle.fl_core.specs.declared.core_job.CoreJob.{CoreJob}
use Rattle.fl_core_run.specs.OpeningStatus.{refusal_at}
use Rattle.fl_core_run_laws.specs.Logs.{Goes}
use Rattle.fl_core_run_laws.specs.Made.{progress_of}
use Rattle.fl_core_run_laws.proofs.Handling.{progresses_stay, same_place, at_slot, slots, as_many}
use Rattle.fl_cores_laws.specs.EndedCores.{shared_ways}
use Rattle.fl_cores_laws.proofs.EndedProgress.{map_set, has_place}

-- ---- an end's progress that was this one before

pub record Older (d u : TheEndProgress) : Type 0 where
  pub jobs : u.jobs ≡ d.jobs
  pub done : d.done ≤ u.done

same_age : (d : TheEndProgress) → Older d d
same_age d = record { jobs = refl; done = omega arith }

abbrev pub AllOlder : List TheEndProgress → List TheEndProgress → Type 0
AllOlder xs ys = (length ys ≡ length xs) × ((n : ℕ) (u : TheEndProgress) → slice_get ys n ≡ Some u → (d : TheEndProgress) × (slice_get xs n ≡ Some d) × Older d u)

abbrev Ages : (TheEndProgress → TheEndProgress) → Type 0
Ages change = (d : TheEndProgress) → Older d (change d)

advances : Ages advanced
advances d = record { jobs = refl; done = omega arith }

handles : (c : Call) → Ages (with_handled c)
handles c d = record { jobs = refl; done = omega arith }

refuses_it : (n : ℕ) → Ages (with_refusal n)
refuses_it n d = record { jobs = refl; done = omega arith }

both : (n : ℕ) → Ages (λ d. advanced (with_refusal n d))
both n d = record { jobs = refl; done = omega arith }

all_stay : (xs ys : List TheEndProgress) → ys ≡ xs → AllOlder xs ys
all_stay xs ys same = (ap length same, λ n u at. (u, ap (λ (zs : List TheEndProgress). slice_get zs n) (sym same) ∙ at, same_age u))

one_set : (xs : List TheEndProgress) (i n : ℕ) (d u : TheEndProgress) (change : TheEndProgress → TheEndProgress) (b : Bool) → Ages change → slice_get xs i ≡ Some d → (i == n) ≡ b
    → slice_get (slice_set xs i (change d)) n ≡ Some u → (v : TheEndProgress) × (slice_get xs n ≡ Some v) × Older v u
one_set xs i n d u change true ages there same at =
    let eq : i ≡ n = grind (arith, nat_tests, same) in
    let here : slice_get (slice_set xs i (change d)) n ≡ Some (change d) =
    subst (λ (j : ℕ). slice_get (slice_set xs i (change d)) j ≡ Some (change d)) eq (set_here xs i d (change d) there) in
    let is : change d ≡ u = one_stands (slice_set xs i (change d)) n (change d) u here at in
    (d, subst (λ (j : ℕ). slice_get xs j ≡ Some d) eq there, subst (Older d) is (ages d))
one_set xs i n d u change false ages there same at =
    let ne : n ≢ i = λ e. absurd (grind (arith, nat_tests, same, e)) in
    (u, sym (set_elsewhere xs i n (change d) ne) ∙ at, same_age u)

changes_by : (o : Option ℕ) (xs ys : List TheEndProgress) (change : TheEndProgress → TheEndProgress) → Ages change → ChangesIf o xs change ys → AllOlder xs ys
changes_by None xs ys change ages h = all_stay xs ys h
changes_by (Some i) xs ys change ages h = (
  as_many (Some i) xs ys change h,
  λ n u at. one_set xs i n h.progress u change (i == n) ages h.progress_is refl (ap (λ (zs : List TheEndProgress). slice_get zs n) (sym h.rest) ∙ at),
)

-- ---- what is noted

-- a refusal of the end's opening
abbrev pub refused_heard : EndId → Result MonitorAnswer LinkReceiveFault → Bool
refused_heard e (Ok (heard_as.OpeningRefused f reason)) = same_end f e
refused_heard e (Ok heard_as.Full) = false
refused_heard e (Ok heard_as.Done) = false
refused_heard e (Ok (heard_as.Opened f)) = false
refused_heard e (Err fault) = false

abbrev pub refused_here : EndId → EndId → Result ℕ OpenFault → Bool
refused_here e f (Ok k) = false
refused_here e f (Err (opening.Board fault)) = same_end f e
refused_here e f (Err (opening.Monitor monitor.OutboxFull)) = false
refused_here e f (Err (opening.Monitor monitor.Misrouted)) = same_end f e
refused_here e f (Err (opening.Monitor monitor.Differs)) = same_end f e
refused_here e f (Err (opening.Monitor monitor.NoRoute)) = same_end f e
refused_here e f (Err (opening.Monitor monitor.UsedUp)) = same_end f e
refused_here e f (Err (opening.Monitor monitor.PlansDiffer)) = same_end f e
refused_here e f (Err (opening.Monitor monitor.Memory)) = same_end f e

abbrev pub refuses : EndId → LogEntry → Bool
refuses e (looked n l answer) = false
refuses e (passed n k frag c outcome) = false
refuses e (arrived n l frag f answer) = false
refuses e (heard n l frag answer) = refused_heard e answer
refuses e (said n l answer) = false
refuses e (told n l answer) = false
refuses e (opened f request answer) = refused_here e f answer
refuses e (called f c answer) = false
refuses e (ruled f msg reply answer) = false
refuses e (wrote f out answer) = false
refuses e (acked f n answer) = false
refuses e (turned d f from answer) = false

abbrev number_in : TheEndProgress → ℕ
number_in d = d.refused

given_map : (xs : List TheEndProgress) (n : ℕ) → given (slice_get xs n) 0 number_in ≡ given (slice_get (map number_in xs) n) 0 (λ (x : ℕ). x)
given_map [] n = refl
given_map (x ∷ xs) zero = refl
given_map (x ∷ xs) (suc n) = given_map xs n

module _ (xs ys : List TheEndProgress) (e : EndId) where
  abbrev at_place : List TheEndProgress → Option ℕ → ℕ
  at_place progresses o = given o 0 λ n. given (slice_get progresses n) 0 λ (progress : TheEndProgress). progress.refused

  same_at : (o : Option ℕ) → map number_in ys ≡ map number_in xs → at_place ys o ≡ at_place xs o
  same_at None same = refl
  same_at (Some n) same = given_map ys n ∙ ap (λ (ns : List ℕ). given (slice_get ns n) 0 (λ (x : ℕ). x)) same ∙ sym (given_map xs n)

  -- where all numbers stay
  same_numbers : map number_in ys ≡ map number_in xs → at_place ys (progress_place ys e) ≡ at_place xs (progress_place xs e)
  same_numbers same =
      let many : length ys ≡ length xs = sym (length-map ys number_in) ∙ ap length same ∙ length-map xs number_in in
      ap (at_place ys) (same_place xs ys e many) ∙ same_at (progress_place xs e) same

  -- where another end's progress has changed
  elsewhere_at : (i : ℕ) (y : TheEndProgress) (o : Option ℕ) → ys ≡ slice_set xs i y → ((k : ℕ) → o ≡ Some k → k ≢ i) → at_place ys o ≡ at_place xs o
  elsewhere_at i y None is other = refl
  elsewhere_at i y (Some k) is other =
      ap (λ (progress : Option TheEndProgress). given progress 0 number_in) (ap (λ (zs : List TheEndProgress). slice_get zs k) is ∙ set_elsewhere xs i k y (other k refl))

module _ (m t : TheRun TheSide) (e : EndId) where
  abbrev Same : Type 0
  Same = refusal_at t e ≡ refusal_at m e

  nothing : t ≡ m → Same
  nothing h = ap (λ (x : TheRun TheSide). refusal_at x e) h

  kept_by : (o : Option ℕ) (change : TheEndProgress → TheEndProgress) → ((d : TheEndProgress) → (change d).refused ≡ d.refused) → ChangesIf o m.progresses change t.progresses → map number_in t.progresses ≡ map number_in m.progresses
  kept_by None change keeps h = ap (map number_in) h
  kept_by (Some n) change keeps h = ap (map number_in) h.rest ∙ map_set number_in m.progresses n h.progress (change h.progress) h.progress_is (keeps h.progress)

  kept : (f : EndId) (change : TheEndProgress → TheEndProgress) → ((d : TheEndProgress) → (change d).refused ≡ d.refused) → AtProgress f change m t → Same
  kept f change keeps h = same_numbers m.progresses t.progresses e (kept_by (progress_place m.progresses f) change keeps h.changes)

  other_by : (f : EndId) (o : Option ℕ) (change : TheEndProgress → TheEndProgress) → same_end f e ≡ false → progress_place m.progresses f ≡ o → ChangesIf o m.progresses change t.progresses → Same
  other_by f None change other place h = ap (λ (ds : List TheEndProgress). at_place m.progresses t.progresses e ds (progress_place ds e)) h
  other_by f (Some i) change other place h =
      let many = as_many (Some i) m.progresses t.progresses change h in
      let slot_is : i ≡ slot_of f = at_slot m.progresses f i place in
      let apart : (slot_of f == slot_of e) ≡ false = slots f e ∙ other in
      ap (at_place m.progresses t.progresses e t.progresses) (same_place m.progresses t.progresses e many)
      ∙ elsewhere_at m.progresses t.progresses e i (change h.progress) (progress_place m.progresses e) h.rest
      (λ k is same. (let there : k ≡ slot_of e = at_slot m.progresses e k is in absurd (grind (arith, nat_tests, apart, slot_is, there, same))))

  other : (f : EndId) (change : TheEndProgress → TheEndProgress) → same_end f e ≡ false → AtProgress f change m t → Same
  other f change apart h = other_by f (progress_place m.progresses f) change apart refl h.changes

  heard_same : (answer : Result MonitorAnswer LinkReceiveFault) → refused_heard e answer ≡ false → NotesHeard answer m t → Same
  heard_same (Ok (heard_as.OpeningRefused f reason)) not h = other f (with_refusal reason) not h
  heard_same (Ok heard_as.Full) not h = nothing h
  heard_same (Ok heard_as.Done) not h = nothing h
  heard_same (Ok (heard_as.Opened f)) not h = nothing h
  heard_same (Err fault) not h = nothing h

  opened_same : (f : EndId) (answer : Result ℕ OpenFault) → refused_here e f answer ≡ false → NotesOpened f answer m t → Same
  opened_same f (Ok k) not h = kept f advanced (λ d. refl) h
  opened_same f (Err (opening.Board fault)) not h = other f _ not h
  opened_same f (Err (opening.Monitor monitor.OutboxFull)) not h = nothing h
  opened_same f (Err (opening.Monitor monitor.Misrouted)) not h = other f _ not h
  opened_same f (Err (opening.Monitor monitor.Differs)) not h = other f _ not h
  opened_same f (Err (opening.Monitor monitor.NoRoute)) not h = other f _ not h
  opened_same f (Err (opening.Monitor monitor.UsedUp)) not h = other f _ not h
  opened_same f (Err (opening.Monitor monitor.PlansDiffer)) not h = other f _ not h
  opened_same f (Err (opening.Monitor monitor.Memory)) not h = other f _ not h

  called_same : (f : EndId) (answer : Result (Unit {0}) EndFault) → NotesCalled f answer m t → Same
  called_same f (Ok done) h = kept f advanced (λ d. refl) h
  called_same f (Err fault) h = nothing h

  turned_same : (f : EndId) (answer : TurnAnswer) → NotesTurned f answer m t → Same
  turned_same f (turn.Handle call) h = kept f (with_handled call) (λ d. refl) h
  turned_same f turn.Part h = nothing h
  turned_same f turn.Ready h = nothing h
  turned_same f turn.Quiet h = nothing h
  turned_same f turn.Full h = nothing h
  turned_same f turn.Nothing h = nothing h
  turned_same f (turn.Refused fault) h = nothing h

  -- but for that the number at the end's progress stays
  pub number_stays : (log_entry : LogEntry) → refuses e log_entry ≡ false → Notes log_entry m t → Same
  number_stays (looked n l answer) not h = nothing h
  number_stays (passed n k frag c outcome) not h = nothing h
  number_stays (arrived n l frag f answer) not h = nothing h
  number_stays (heard n l frag answer) not h = heard_same answer not h
  number_stays (said n l answer) not h = nothing h
  number_stays (told n l answer) not h = nothing h
  number_stays (opened f request answer) not h = opened_same f answer not h
  number_stays (called f c answer) not h = called_same f answer h
  number_stays (ruled f msg reply answer) not h = kept f advanced (λ d. refl) h
  number_stays (wrote f out answer) not h = nothing h
  number_stays (acked f n answer) not h = nothing h
  number_stays (turned d f from answer) not h = turned_same f answer h

-- ---- all ends' progress get older

module _ (m t : TheRun TheSide) where
  stay : t ≡ m → AllOlder m.progresses t.progresses
  stay h = all_stay m.progresses t.progresses (ap (λ (x : TheRun TheSide). x.progresses) h)

  age : (f : EndId) (change : TheEndProgress → TheEndProgress) → Ages change → AtProgress f change m t → AllOlder m.progresses t.progresses
  age f change ages h = changes_by (progress_place m.progresses f) m.progresses t.progresses change ages h.changes

  heard_older : (answer : Result MonitorAnswer LinkReceiveFault) → NotesHeard answer m t → AllOlder m.progresses t.progresses
  heard_older (Ok (heard_as.OpeningRefused f reason)) h = age f (with_refusal reason) (refuses_it reason) h
  heard_older (Ok heard_as.Full) h = stay h
  heard_older (Ok heard_as.Done) h = stay h
  heard_older (Ok (heard_as.Opened f)) h = stay h
  heard_older (Err fault) h = stay h

  opened_older : (f : EndId) (answer : Result ℕ OpenFault) → NotesOpened f answer m t → AllOlder m.progresses t.progresses
  opened_older f (Ok k) h = age f advanced advances h
  opened_older f (Err (opening.Board fault)) h = age f _ (both _) h
  opened_older f (Err (opening.Monitor monitor.OutboxFull)) h = stay h
  opened_older f (Err (opening.Monitor monitor.Misrouted)) h = age f _ (both _) h
  opened_older f (Err (opening.Monitor monitor.Differs)) h = age f _ (both _) h
  opened_older f (Err (opening.Monitor monitor.NoRoute)) h = age f _ (both _) h
  opened_older f (Err (opening.Monitor monitor.UsedUp)) h = age f _ (both _) h
  opened_older f (Err (opening.Monitor monitor.PlansDiffer)) h = age f _ (both _) h
  opened_older f (Err (opening.Monitor monitor.Memory)) h = age f _ (both _) h

  called_older : (f : EndId) (answer : Result (Unit {0}) EndFault) → NotesCalled f answer m t → AllOlder m.progresses t.progresses
  called_older f (Ok done) h = age f advanced advances h
  called_older f (Err fault) h = stay h

  turned_older : (f : EndId) (answer : TurnAnswer) → NotesTurned f answer m t → AllOlder m.progresses t.progresses
  turned_older f (turn.Handle call) h = age f (with_handled call) (handles call) h
  turned_older f turn.Part h = stay h
  turned_older f turn.Ready h = stay h
  turned_older f turn.Quiet h = stay h
  turned_older f turn.Full h = stay h
  turned_older f turn.Nothing h = stay h
  turned_older f (turn.Refused fault) h = stay h

  pub all_older : (log_entry : LogEntry) → Notes log_entry m t → AllOlder m.progresses t.progresses
  all_older (looked n l answer) h = stay h
  all_older (passed n k frag c outcome) h = stay h
  all_older (arrived n l frag f answer) h = stay h
  all_older (heard n l frag answer) h = heard_older answer h
  all_older (said n l answer) h = stay h
  all_older (told n l answer) h = stay h
  all_older (opened f request answer) h = opened_older f answer h
  all_older (called f c answer) h = called_older f answer h
  all_older (ruled f msg reply answer) h = age f advanced advances h
  all_older (wrote f out answer) h = stay h
  all_older (acked f n answer) h = stay h
  all_older (turned d f from answer) h = turned_older f answer h

  -- so does that of each end
  pub record Younger (f : EndId) (u : TheEndProgress) : Type 0 where
    pub progress : TheEndProgress
    pub progress_is : progress_of m f ≡ Some progress
    pub older : Older progress u

  pub younger : AllOlder m.progresses t.progresses → (f : EndId) (u : TheEndProgress) → progress_of t f ≡ Some u → Younger f u
  younger all f u is =
      let (n, place, at) = has_place (progress_place t.progresses f) t.progresses u is in
      let (d, there, older) = all.1 n u at in
      record {
        progress = d;
        progress_is = ap (λ (o : Option ℕ). given o None (λ (i : ℕ). slice_get m.progresses i)) (sym (same_place m.progresses t.progresses f all.0) ∙ place) ∙ there;
        older = older;
      }

-- over a log
older_then : (d u v : TheEndProgress) → Older d u → Older u v → Older d v
older_then d u v a b = let one = a.done in let two = b.done in record { jobs = b.jobs ∙ a.jobs; done = omega (arith, one, two) }

pub log_older : (jobs : List CoreJob) (log : List LogEntry) (s t : TheRun TheSide) → Goes shared_ways jobs s log t → (f : EndId) (u : TheEndProgress) → progress_of t f ≡ Some u → Younger s t f u
log_older jobs [] s t same f u is = record {
  progress = u;
  progress_is = ap (λ (x : TheRun TheSide). progress_of x f) (sym same) ∙ is;
  older = same_age u;
}
log_older jobs (log_entry ∷ log) s t h f u is =
    let later = log_older jobs log h.0 t h.3 f u is in
    let one = younger h.1.0 h.0 (all_older h.1.0 h.0 log_entry h.1.2) f later.progress later.progress_is in
    record {
      progress = one.progress;
      progress_is = ap (λ (ds : List TheEndProgress). given (progress_place ds f) None (λ (i : ℕ). slice_get ds i)) (sym (progresses_stay shared_ways log_entry s h.1.0 h.1.1)) ∙ one.progress_is;
      older = older_then one.progress later.progress u one.older later.older;
    }

-- ---- an end's progress at which something was done

-- the end's progress of this end has changed so
pub changed_progress : (m t : TheRun TheSide) (f : EndId) (change : TheEndProgress → TheEndProgress) (d u : TheEndProgress) → progress_of m f ≡ Some d → progress_of t f ≡ Some u → AtProgress f change m t → u ≡ change d
changed_progress m t f change d u before after h =
    let (n, place, at) = has_place (progress_place m.progresses f) m.progresses d before in
    by_place n place at (subst (λ (o : Option ℕ). ChangesIf o m.progresses change t.progresses) place h.changes)
  where
    by_place : (n : ℕ) → progress_place m.progresses f ≡ Some n → slice_get m.progresses n ≡ Some d → ChangesIf (Some n) m.progresses change t.progresses → u ≡ change d
    by_place n place at c =
        let many = as_many (Some n) m.progresses t.progresses change c in
        let there : progress_of t f ≡ slice_get t.progresses n = ap (λ (o : Option ℕ). given o None (λ (i : ℕ). slice_get t.progresses i)) (same_place m.progresses t.progresses f many ∙ place) in
        let now : slice_get t.progresses n ≡ Some (change c.progress) = ap (λ (ds : List TheEndProgress). slice_get ds n) c.rest ∙ set_here m.progresses n c.progress (change c.progress) c.progress_is in
        let same : c.progress ≡ d = one_stands m.progresses n c.progress d c.progress_is at in
        one_stands t.progresses n u (change d) (sym there ∙ after) (now ∙ ap (λ (x : TheEndProgress). Some (change x)) same)
