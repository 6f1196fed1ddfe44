-- That jobs fit what was set up: from one to the next.
use Rattle.std.proofs.Common.{◌≡◌, inl, inr, refl, sym, ap, ◌∙◌, subst, ℕ, zero, suc, ◌<◌, ◌&&◌, not, if◌then◌else◌, List, [], ◌∷◌, ◌++◌, length, slice_get}
use Rattle.std.proofs.Common.{Option, Some, None, IsSome, Bool, true, false, arith}
use Rattle.std.proofs.lemmas.Bool.{cases_lt, ltb-true}
use Rattle.fl_base.specs.declared.identity.EndId.{EndId}
use Rattle.fl_base.specs.declared.identity.MsgNo.{MsgNo}
use Rattle.fl_base.specs.Ends.{peer}
use Rattle.fl_base.specs.Given.{given}
use Rattle.fl_interface.specs.SameTypes.{same_arguments}
use Rattle.fl_interface.proofs.SameTypes.{same_arguments_are}
use Rattle.fl_compile.specs.declared.program.Program.{Program}
use Rattle.fl_nameserv.specs.Registrations.{TheRegistration}
use Rattle.fl_model.specs.Calls.{Planned}
use Rattle.fl_model.specs.Taking.{arguments_of, has_message}
use Rattle.fl_core.specs.View.{TheCore}
use Rattle.fl_core.specs.declared.core_job.CoreJob.{CoreJob}
use Rattle.fl_core.specs.declared.core_job.CoreJob.TheVariants as core
use Rattle.fl_core.specs.declared.core_job.OpenRequest.{OpenRequest}
use Rattle.fl_value_data.specs.declared.value.Call.{Call}
use Rattle.fl_world_refines.specs.declared.binding.Binding.{Binding}
use Rattle.fl_cores_file.specs.Jobs.{Job, opens, replies, calls}
use Rattle.fl_world_refines.specs.Ends.{planned_of}
use Rattle.fl_cores_jobs.specs.declared.end_work.BindingCores.{BindingCores}
use Rattle.fl_cores_jobs.specs.EndWork.{TheEndWork, end_work_at}
use Rattle.fl_cores_jobs.specs.Faults.{rule_fault_by, rule_fault_at}
use Rattle.fl_cores_jobs.specs.Fitting.{IsOffered, AreAlike, RuleFits, JobFits, JobsFit, NewFit}
use Rattle.fl_cores_jobs.specs.State.{TheJoinedJobs, with_binding, with_owner, with_job, CallPlanned, RulePlanned, DuesUpTo}
use Rattle.fl_cores_jobs.specs.Whole.{is_set_up, so_far, Joins}
use Rattle.fl_cores_jobs.proofs.Growing.{got, kept, last}
use Rattle.fl_cores_jobs.proofs.Openings.{within}
use Rattle.fl_cores_jobs.proofs.Routed.{left_true, right_true}

-- ---- a rule that passes the tests

some_within : {X : Type 0} (xs : List X) (n : ℕ) → n < length xs → IsSome (slice_get xs n)
some_within [] n below = absurd (omega (arith, below))
some_within (x ∷ xs) zero below = refl
some_within (x ∷ xs) (suc n) below = some_within xs n (omega (arith, below))

abbrev refusal : Bool → Bool → Bool → Option ℕ
refusal a b c = if not a then Some 41 else if not b then Some 42 else if c then Some 44 else None

tests : (a b c : Bool) → refusal a b c ≡ None → (a ≡ true) × (b ≡ true)
tests true true c h = (refl, refl)
tests true false c h = absurd (cc)
tests false b c h = absurd (cc)

alike_by : (msg answer : ℕ) (i : Planned) → (has_message msg i && has_message answer i) ≡ true
    → same_arguments (arguments_of msg i) (arguments_of answer i) ≡ true → AreAlike i.interface msg answer
alike_by msg answer i there same = record {
  message = some_within i.interface.messages msg (ltb-true msg (length i.interface.messages) (left_true (has_message msg i) (has_message answer i) there));
  reply = some_within i.interface.messages answer (ltb-true answer (length i.interface.messages) (right_true (has_message msg i) (has_message answer i) there));
  same = same_arguments_are (arguments_of msg i) (arguments_of answer i) same;
}

module _ (programs : List Program) (bindings : List BindingCores) (d across : TheEndWork) (e : EndId) (msg answer : ℕ) where
  passes_in : (x : BindingCores) (o : Option Program) → slice_get bindings e.binding ≡ Some x → slice_get programs x.interface ≡ o
      → given o (Some 92) (λ p. rule_fault_by d across msg answer (planned_of p)) ≡ None → RuleFits programs bindings e msg answer
  passes_in x None at is none = absurd (cc)
  passes_in x (Some p) at is none =
      let both = tests (has_message msg (planned_of p) && has_message answer (planned_of p))
      (same_arguments (arguments_of msg (planned_of p)) (arguments_of answer (planned_of p))) _ none in
      record { bound = x; bound_is = at; program = p; program_is = is; alike = alike_by msg answer (planned_of p) both.0 both.1 }

  passes_by : (o : Option BindingCores) → slice_get bindings e.binding ≡ o
      → given o (Some 92) (λ x. given (slice_get programs x.interface) (Some 92) (λ p. rule_fault_by d across msg answer (planned_of p))) ≡ None
      → RuleFits programs bindings e msg answer
  passes_by None at none = absurd (cc)
  passes_by (Some x) at none = passes_in x (slice_get programs x.interface) at refl none

pub rule_passes : (programs : List Program) (j : TheJoinedJobs) (e : EndId) (msg answer : ℕ) → rule_fault_at programs j.bindings j.end_works e msg answer ≡ None
    → RuleFits programs j.bindings e msg answer
rule_passes programs j e msg answer none =
    passes_by programs j.bindings (end_work_at j.end_works e) (end_work_at j.end_works (peer e)) e msg answer (slice_get j.bindings e.binding) refl none

-- ---- a job more

-- jobs and bindings of before are there
pub record Grows (j j2 : TheJoinedJobs) : Type 0 where
  pub jobs : (n : ℕ) (job : CoreJob) → slice_get j.jobs n ≡ Some job → slice_get j2.jobs n ≡ Some job
  pub bindings : (n : ℕ) (b : BindingCores) → slice_get j.bindings n ≡ Some b → slice_get j2.bindings n ≡ Some b

module _ (names : List TheRegistration) (programs : List Program) where
  nothing_new : (j j2 : TheJoinedJobs) → j2.jobs ≡ j.jobs → NewFit names programs j j2
  nothing_new j j2 same n job past at =
      let below = within j.jobs n job (subst (λ (jobs : List CoreJob). slice_get jobs n ≡ Some job) same at) in absurd (omega (arith, below, past))

  one_new : (j j2 : TheJoinedJobs) (job : CoreJob) → j2.jobs ≡ j.jobs ++ job ∷ [] → JobFits names programs j2.bindings job → NewFit names programs j j2
  one_new j j2 job is fits n x past at = elim (got j.jobs job x n (subst (λ (jobs : List CoreJob). slice_get jobs n ≡ Some x) is at)) [
    | inl before ↦ let below = within j.jobs n x before in absurd (omega (arith, below, past))
    | inr new ↦ subst (JobFits names programs j2.bindings) new.1 fits
  ]

  -- that opens a binding
  pub opening_fits : (j j2 : TheJoinedJobs) (e : EndId) (bound : BindingCores) (request : OpenRequest) → j2 ≡ with_job e (core.Open request) (with_owner bound.client (with_binding bound j))
      → request.opening.binding ≡ length j.bindings → request.interface ≡ bound.interface
      → IsOffered names request.opening.service.0 bound.interface bound.server → NewFit names programs j j2
  opening_fits j j2 e bound request is binding interface offered =
      one_new j j2 (core.Open request) (ap (λ (t : TheJoinedJobs). t.jobs) is) (record {
        bound = bound;
        bound_is = ap (λ (t : TheJoinedJobs). slice_get t.bindings request.opening.binding) is ∙ ap (slice_get (j.bindings ++ bound ∷ [])) binding ∙ last j.bindings bound;
        interface_is = interface;
        offered = offered;
      })

  -- that makes a call
  pub call_fits : (j j2 : TheJoinedJobs) (e : EndId) (call : Call) → CallPlanned e call j j2 → NewFit names programs j j2
  call_fits j j2 e call p = one_new j j2 (core.Call e call) (ap (λ (t : TheJoinedJobs). t.jobs) p.rest) tt

  same_bound : (j j2 : TheJoinedJobs) (e : EndId) (msg answer : ℕ) → j2.bindings ≡ j.bindings → RuleFits programs j.bindings e msg answer
      → RuleFits programs j2.bindings e msg answer
  same_bound j j2 e msg answer same fits = subst (λ (bs : List BindingCores). RuleFits programs bs e msg answer) (sym same) fits

  -- that sets a rule, where one does
  rule_by : (b : Bool) (j j1 j2 : TheJoinedJobs) (e : EndId) (message reply : MsgNo) → j1.jobs ≡ j.jobs → j1.bindings ≡ j.bindings
      → j2 ≡ (if b then j1 else with_job e (core.Reply e message reply) j1) → RuleFits programs j.bindings e message.0 reply.0 → NewFit names programs j j2
  rule_by true j j1 j2 e message reply jobs bindings is fits = nothing_new j j2 (ap (λ (t : TheJoinedJobs). t.jobs) is ∙ jobs)
  rule_by false j j1 j2 e message reply jobs bindings is fits =
      one_new j j2 (core.Reply e message reply) (ap (λ (t : TheJoinedJobs). t.jobs) is ∙ ap (λ (xs : List CoreJob). xs ++ core.Reply e message reply ∷ []) jobs)
      (same_bound j j2 e message.0 reply.0 (ap (λ (t : TheJoinedJobs). t.bindings) is ∙ bindings) fits)

  pub rule_fits : (b : Bool) (j j2 : TheJoinedJobs) (e : EndId) (message reply : MsgNo) → RulePlanned b e message reply j j2
      → rule_fault_at programs j.bindings j.end_works e message.0 reply.0 ≡ None → NewFit names programs j j2
  rule_fits b j j2 e message reply p none =
      rule_by b j (record j { end_works = p.end_works }) j2 e message reply refl refl p.rest (rule_passes programs j e message.0 reply.0 none)

-- ---- whatever the job

one_grows : (j j2 : TheJoinedJobs) (job : CoreJob) (bs : List BindingCores) → j2.jobs ≡ j.jobs ++ job ∷ [] → j2.bindings ≡ j.bindings ++ bs → Grows j j2
one_grows j j2 job bs jobs bindings = record {
  jobs = λ n x at. ap (λ (xs : List CoreJob). slice_get xs n) jobs ∙ kept j.jobs (job ∷ []) x n at;
  bindings = λ n x at. ap (λ (xs : List BindingCores). slice_get xs n) bindings ∙ kept j.bindings bs x n at;
}

same_grows : (j j2 : TheJoinedJobs) → j2.jobs ≡ j.jobs → j2.bindings ≡ j.bindings → Grows j j2
same_grows j j2 jobs bindings = record {
  jobs = λ n x at. ap (λ (xs : List CoreJob). slice_get xs n) jobs ∙ at;
  bindings = λ n x at. ap (λ (xs : List BindingCores). slice_get xs n) bindings ∙ at;
}

append_none : (bs : List BindingCores) → bs ≡ bs ++ []
append_none [] = refl
append_none (b ∷ bs) = ap (λ (t : List BindingCores). b ∷ t) (append_none bs)

rule_grows : (b : Bool) (j j1 j2 : TheJoinedJobs) (e : EndId) (message reply : MsgNo) → j1.jobs ≡ j.jobs → j1.bindings ≡ j.bindings
    → j2 ≡ (if b then j1 else with_job e (core.Reply e message reply) j1) → Grows j j2
rule_grows true j j1 j2 e message reply jobs bindings is =
    same_grows j j2 (ap (λ (t : TheJoinedJobs). t.jobs) is ∙ jobs) (ap (λ (t : TheJoinedJobs). t.bindings) is ∙ bindings)
rule_grows false j j1 j2 e message reply jobs bindings is =
    one_grows j j2 (core.Reply e message reply) []
    (ap (λ (t : TheJoinedJobs). t.jobs) is ∙ ap (λ (xs : List CoreJob). xs ++ core.Reply e message reply ∷ []) jobs)
    (ap (λ (t : TheJoinedJobs). t.bindings) is ∙ bindings ∙ append_none j.bindings)

pub grows : (set_up : List Binding) (one : Job) (j : TheJoinedJobs) (ks : List TheCore) (j2 : TheJoinedJobs) (ks2 : List TheCore) → Joins set_up one (so_far j ks) (so_far j2 ks2) → Grows j j2
grows set_up (opens w) j ks j2 ks2 (o, same) =
    one_grows j j2 (core.Open o.request) (o.bound ∷ []) (ap (λ (t : TheJoinedJobs). t.jobs) o.rest) (ap (λ (t : TheJoinedJobs). t.bindings) o.rest)
grows set_up (replies e msg answer) j ks j2 ks2 r =
    rule_grows (is_set_up set_up e) j (record j { end_works = r.planned.end_works }) j2 e r.message r.reply refl refl r.planned.rest
grows set_up (calls e c) j ks j2 ks2 ((call, is, p), same) =
    one_grows j j2 (core.Call e call) [] (ap (λ (t : TheJoinedJobs). t.jobs) p.rest) (ap (λ (t : TheJoinedJobs). t.bindings) p.rest ∙ append_none j.bindings)

module _ (names : List TheRegistration) (programs : List Program) where
  still_fits : (bs bs2 : List BindingCores) (job : CoreJob) → ((n : ℕ) (b : BindingCores) → slice_get bs n ≡ Some b → slice_get bs2 n ≡ Some b) → JobFits names programs bs job
      → JobFits names programs bs2 job
  still_fits bs bs2 (core.Open w) more h = record {
    bound = h.bound;
    bound_is = more w.opening.binding h.bound h.bound_is;
    interface_is = h.interface_is;
    offered = h.offered;
  }
  still_fits bs bs2 (core.Reply e msg reply) more h = record {
    bound = h.bound;
    bound_is = more e.binding h.bound h.bound_is;
    program = h.program;
    program_is = h.program_is;
    alike = h.alike;
  }
  still_fits bs bs2 (core.Call e call) more h = tt

  is_there : (jobs : List CoreJob) (n : ℕ) → n < length jobs → (job : CoreJob) × (slice_get jobs n ≡ Some job)
  is_there [] n below = absurd (omega (arith, below))
  is_there (x ∷ jobs) zero below = (x, refl)
  is_there (x ∷ jobs) (suc n) below = is_there jobs n (omega (arith, below))

  fit_more : (j j2 : TheJoinedJobs) → Grows j j2 → JobsFit names programs j → NewFit names programs j j2 → JobsFit names programs j2
  fit_more j j2 more fit new n job at = elim (cases_lt n (length j.jobs)) [
    | inl below ↦
        let (x, there) = is_there j.jobs n below in
        let both : Some x ≡ Some job = sym (more.jobs n x there) ∙ at in
        let same : x ≡ job = cc in
        still_fits j.bindings j2.bindings job more.bindings (fit n job (there ∙ ap Some same))
    | inr past ↦ new n job past at
  ]

  -- a turn of the loop over jobs
  pub fits_turn : (names2 : List TheRegistration) (programs2 : List Program) (set_up : List Binding) (one : Job) (j : TheJoinedJobs) (ks : List TheCore) (j2 : TheJoinedJobs)
      (ks2 : List TheCore) → names2 ≡ names → programs2 ≡ programs → Joins set_up one (so_far j ks) (so_far j2 ks2) → NewFit names2 programs2 j j2 → JobsFit names programs j
      → JobsFit names programs j2
  fits_turn names2 programs2 set_up one j ks j2 ks2 same same2 joins new fit =
      let mine : NewFit names programs j j2 =
      subst (λ (ns : List TheRegistration). NewFit ns programs j j2) same (subst (λ (ps : List Program). NewFit names2 ps j j2) same2 new) in
      fit_more j j2 (grows set_up one j ks j2 ks2 joins) fit mine

  pub fits_none : (j : TheJoinedJobs) → j.jobs ≡ [] → JobsFit names programs j
  fits_none j none n job at = let h : slice_get [] n ≡ Some job = ap (λ (xs : List CoreJob). slice_get xs n) (sym none) ∙ at in absurd (cc)

  pub told_fits : (n : ℕ) (j j2 : TheJoinedJobs) → JobsFit names programs j → DuesUpTo n j j2 → JobsFit names programs j2
  told_fits n j j2 fit t k job at =
      subst (λ (bs : List BindingCores). JobFits names programs bs job) (sym t.bindings)
      (fit k job (subst (λ (xs : List CoreJob). slice_get xs k ≡ Some job) t.jobs at))
