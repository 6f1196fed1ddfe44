-- The first job that is refused.
use Rattle.std.proofs.Common.{◌≡◌, append_assoc, inl, inr, refl, sym, ap, ◌∙◌, subst, ℕ, ◌+◌, ◌-◌, List, [], ◌∷◌, ◌++◌, length, map, take, Option, Some, None, Result, Ok, Err, arith}
use Rattle.std.specs.Prelude.{IfErr, OnOk}
use Rattle.std.proofs.lemmas.List.{length-map, map-append, take_at}
use Rattle.std.proofs.lemmas.Result.{on_ok_weaker}
use Rattle.fl_base.specs.declared.identity.EndId.{EndId}
use Rattle.fl_value_data.specs.Value.{TheCall}
use Rattle.fl_compile.specs.declared.program.Program.{Program}
use Rattle.fl_world_refines.specs.declared.binding.Binding.{Binding}
use Rattle.fl_world_refines.specs.declared.parts.Parts.{Parts}
use Rattle.fl_cores_file.specs.declared.stop.CoresLineFault.{CoresLineFault}
use Rattle.fl_cores_file.specs.declared.stop.CoresLineFault.TheVariants as stop
use Rattle.fl_cores_file.specs.declared.job.Job.{Job as RustJob}
use Rattle.fl_cores_file.specs.Jobs.{TheCircuitRequest, Job, opens, replies, calls}
use Rattle.fl_cores_file.specs.Views.{job_of}
use Rattle.fl_cores_jobs.specs.declared.fault.JobFault.{JobFault}
use Rattle.fl_cores_jobs.specs.declared.fault.JobFault.TheVariants as fault
use Rattle.fl_cores_jobs.specs.State.{TheJoinedJobs, AreJoined}
use Rattle.fl_cores_jobs.specs.Faults.{call_fault_at, rule_fault_at, request_fault, fault_at_once, the_first, StopsFor, RuleStops}
use Rattle.fl_core.specs.View.{TheCore}
use Rattle.fl_cores_jobs.specs.Rules.{RulesOf}
use Rattle.fl_cores_jobs.specs.Whole.{SetUpStops, AreBound, IsBeside, rule_refusal, job_fault, NoneRefused, WantsMemory, JobStops, FirstRefused, IsFault, HadSet, fault_at}
use Rattle.fl_cores_jobs.proofs.Alike.{call_refused, rule_refused, request_refused}
use Rattle.fl_cores_jobs.proofs.Passing.{same_fault, same_refusal, same_at_once}
use Rattle.fl_cores_jobs.proofs.Spoken.{as_set_up}

pub if_err_weaker : {T E : Type 0} (P Q : E → Type 0) (r : Result T E) → ((e : E) → P e → Q e) → IfErr r P → IfErr r Q
if_err_weaker P Q (Ok x) f h = h
if_err_weaker P Q (Err e) f h = f e h

-- the reader refuses it, or the end that is set up does
pub end_stops : {T : Type 0} (r : Result T CoresLineFault) (found set_up : Option ℕ) → found ≡ None → IfErr r (λ s. StopsFor set_up s) → IfErr r (λ s. RuleStops found set_up s)
end_stops r found set_up none = if_err_weaker _ _ r (λ s h. as_set_up found set_up s none h)

-- what becomes of a job behind others, whichever these are
module _ {T : Type 0} (r : Result T CoresLineFault) (cores : ℕ) (p : Parts) (j : TheJoinedJobs) where
  abbrev Stops : Job → Type 0
  Stops job = IfErr r (λ s. (asked : List Job) → AreJoined cores asked j → AreBound p.bindings.items asked j → JobStops p asked job s)

  abbrev Passes : Job → Type 0
  Passes job = OnOk r ((asked : List Job) → AreJoined cores asked j → AreBound p.bindings.items asked j → job_fault p asked job ≡ None)

  module _ (ps : List Program) (e : EndId) (c : TheCall) (same : ps ≡ p.programs.items) where
    its_call : (asked : List Job) → AreJoined cores asked j → AreBound p.bindings.items asked j
        → call_fault_at ps j.bindings j.end_works e c ≡ job_fault p asked (calls e c)
    its_call asked k b = ap (λ (qs : List Program). call_fault_at qs j.bindings j.end_works e c) same ∙ call_refused p cores asked j k b e c

    pub call_stops : IfErr r (λ s. StopsFor (call_fault_at ps j.bindings j.end_works e c) s) → Stops (calls e c)
    call_stops = if_err_weaker _ _ r (λ s h asked k b. subst (λ (o : Option ℕ). StopsFor o s) (its_call asked k b) h)

    pub call_passes : OnOk r (call_fault_at ps j.bindings j.end_works e c ≡ None) → Passes (calls e c)
    call_passes = on_ok_weaker r (λ h asked k b. sym (its_call asked k b) ∙ h)

  module _ (e : EndId) (msg answer : ℕ) where
    abbrev at_once : Option ℕ
    at_once = fault_at_once p.cores.items p.bindings.items e msg answer

    abbrev by_end_works : Option ℕ
    by_end_works = rule_fault_at p.programs.items j.bindings j.end_works e msg answer

    pub rule_stops : IfErr r (λ s. RuleStops by_end_works at_once s) → Stops (replies e msg answer)
    rule_stops = if_err_weaker _ _ r (λ s h asked k b. subst (λ (o : Option ℕ). RuleStops o at_once s) (rule_refused p cores asked j k b e msg answer) h)

    pub rule_passes : OnOk r (the_first by_end_works at_once ≡ None) → Passes (replies e msg answer)
    rule_passes =
        on_ok_weaker r (λ h asked k b. ap (λ (o : Option ℕ). the_first o at_once) (sym (rule_refused p cores asked j k b e msg answer)) ∙ h)

  module _ (w : TheCircuitRequest) where
    pub request_stops : IfErr r (λ s. StopsFor (request_fault p (length j.bindings) w) s) → Stops (opens w)
    request_stops = if_err_weaker _ _ r (λ s h asked k b. subst (λ (o : Option ℕ). StopsFor o s) (request_refused p cores asked j k b w) h)

    pub request_passes : OnOk r (request_fault p (length j.bindings) w ≡ None) → Passes (opens w)
    request_passes = on_ok_weaker r (λ h asked k b. sym (request_refused p cores asked j k b w) ∙ h)

-- the parts at that moment tell the same as the first
same_stops : (p p2 : Parts) (asked : List Job) (job : Job) (s : CoresLineFault) → IsBeside p p2
    → RulesOf p.bindings.items asked p.cores.items p2.cores.items → JobStops p2 asked job s → JobStops p asked job s
same_stops p p2 asked (opens w) s b rules h = subst (λ (o : Option ℕ). StopsFor o s) (same_fault p p2 asked b rules (opens w)) h
same_stops p p2 asked (replies e msg answer) s b rules h =
    subst (λ (o : Option ℕ). RuleStops (rule_refusal p asked e msg answer) o s) (same_at_once p p2 asked b rules e msg answer)
    (subst (λ (o : Option ℕ). RuleStops o (fault_at_once p2.cores.items p2.bindings.items e msg answer) s) (same_refusal p p2 asked b e msg answer) h)
same_stops p p2 asked (calls e c) s b rules h = subst (λ (o : Option ℕ). StopsFor o s) (same_fault p p2 asked b rules (calls e c)) h

-- where it is refused it has the fault
its_fault : (p : Parts) (asked : List Job) (job : Job) (number : ℕ) → JobStops p asked job (stop.Refused number) → job_fault p asked job ≡ Some number
its_fault p asked (opens w) number h = h
its_fault p asked (replies e msg answer) number h = h
its_fault p asked (calls e c) number h = h

-- a job more of those that are left
pub left_turn : (all : List Job) (done left left2 : List RustJob) (x : RustJob) → left ≡ x ∷ left2 → map job_of done ++ map job_of left ≡ all
    → map job_of (done ++ x ∷ []) ++ map job_of left2 ≡ all
left_turn all done left left2 x is h =
    ap (λ (t : List Job). t ++ map job_of left2) (map-append job_of done (x ∷ []))
    ∙ append_assoc (map job_of done) (job_of x ∷ []) (map job_of left2)
    ∙ ap (λ (l : List RustJob). map job_of done ++ map job_of l) (sym is) ∙ h

pub whole_of : (all : List Job) (done left left2 : List RustJob) (x : RustJob) → left ≡ x ∷ left2 → map job_of done ++ map job_of left ≡ all
    → all ≡ map job_of done ++ job_of x ∷ map job_of left2
whole_of all done left left2 x is h = sym h ∙ ap (λ (l : List RustJob). map job_of done ++ map job_of l) is

-- ---- a binding of the set-up

module _ (p : Parts) (xs : List Binding) (cores : ℕ) (jobs : List Job) (s : CoresLineFault) (f : JobFault) (same : xs ≡ p.bindings.items)
    (count : cores ≡ length p.cores.items) (is : f ≡ fault_at s 0) (stops : SetUpStops cores xs s) where
  in_set_up : SetUpStops (length p.cores.items) p.bindings.items s
  in_set_up =
      subst (λ (ys : List Binding). SetUpStops (length p.cores.items) ys s) same (subst (λ (n : ℕ). SetUpStops n xs s) count stops)

  fault_by : (t : CoresLineFault) → SetUpStops (length p.cores.items) p.bindings.items t → IsFault p jobs (fault_at t 0)
  fault_by (stop.Refused number) h = inl (refl, h)
  fault_by stop.Memory h = inl h

  pub first_fault : IsFault p jobs f
  first_fault = subst (λ (g : JobFault). IsFault p jobs g) (sym is) (fault_by s in_set_up)

  none_by : (t : CoresLineFault) → SetUpStops (length p.cores.items) p.bindings.items t → HadSet p jobs (fault_at t 0) p.cores.items
  none_by (stop.Refused number) h = refl
  none_by stop.Memory h = inl (h, refl)

  -- no rule is set, where no job was looked at
  pub none_set : HadSet p jobs f p.cores.items
  none_set = subst (λ (g : JobFault). HadSet p jobs g p.cores.items) (sym is) (none_by s in_set_up)

-- ---- a job

module _ (p p2 : Parts) (jobs done behind : List RustJob) (x : RustJob) (place : ℕ) (j : TheJoinedJobs) (beside : IsBeside p p2)
    (rules : RulesOf p.bindings.items (map job_of done) p.cores.items p2.cores.items)
    (whole : map job_of jobs ≡ map job_of done ++ job_of x ∷ map job_of behind) (count : place ≡ length done)
    (were : AreJoined (length p.cores.items) (map job_of done) j) (bound : AreBound p.bindings.items (map job_of done) j)
    (passed : NoneRefused p (map job_of done)) (s : CoresLineFault) (f : JobFault) (is : f ≡ fault_at s (place + 1))
    (here : JobStops p2 (map job_of done) (job_of x) s) where
  abbrev wants_memory : JobStops p (map job_of done) (job_of x) stop.Memory → WantsMemory p (map job_of jobs)
  wants_memory h = record {
    before = map job_of done;
    job = job_of x;
    behind = map job_of behind;
    jobs_are = whole;
    stops = h;
    passed = passed;
  }

  first_by : (t : CoresLineFault) → JobStops p (map job_of done) (job_of x) t → FirstRefused p (map job_of jobs) (fault_at t (place + 1))
  first_by (stop.Refused number) h = record {
    before = map job_of done;
    job = job_of x;
    behind = map job_of behind;
    jobs_are = whole;
    place_is = ap (λ (n : ℕ). n + 1) (count ∙ sym (length-map done job_of));
    joined = j;
    were = were;
    bound = bound;
    stops = its_fault p (map job_of done) (job_of x) number h;
    passed = passed;
  }
  first_by stop.Memory h = wants_memory h

  then_stops : JobStops p (map job_of done) (job_of x) s
  then_stops = same_stops p p2 (map job_of done) (job_of x) s beside rules here

  pub first_refused : FirstRefused p (map job_of jobs) f
  first_refused = subst (λ (g : JobFault). FirstRefused p (map job_of jobs) g) (sym is) (first_by s then_stops)

  first_jobs : take (place + 1 - 1) (map job_of jobs) ≡ map job_of done
  first_jobs =
      let l = length-map done job_of in
      let e : length (map job_of done) ≡ place + 1 - 1 = omega (arith, l, count) in
      ap (λ (t : List Job). take (place + 1 - 1) t) whole ∙ take_at (map job_of done) (job_of x ∷ map job_of behind) (place + 1 - 1) e

  module _ (ks : List TheCore) (same : ks ≡ p2.cores.items) where
    as_then : RulesOf p.bindings.items (map job_of done) p.cores.items ks
    as_then = subst (λ (t : List TheCore). RulesOf p.bindings.items (map job_of done) p.cores.items t) (sym same) rules

    had_by : (t : CoresLineFault) → JobStops p (map job_of done) (job_of x) t → HadSet p (map job_of jobs) (fault_at t (place + 1)) ks
    had_by (stop.Refused number) h = subst (λ (t : List Job). RulesOf p.bindings.items t p.cores.items ks) (sym first_jobs) as_then
    had_by stop.Memory h = inr (wants_memory h, as_then)

    pub had_set : HadSet p (map job_of jobs) f ks
    had_set = subst (λ (g : JobFault). HadSet p (map job_of jobs) g ks) (sym is) (had_by s then_stops)

pub later_fault : (p : Parts) (jobs : List Job) (f : JobFault) → FirstRefused p jobs f → IsFault p jobs f
later_fault p jobs (fault.Refused number place) h = inr h
later_fault p jobs fault.Memory h = inr h
