-- What is kept from job to job, and what it tells of ends and bindings.
use Rattle.std.proofs.Common.{◌≡◌, inl, inr, refl, sym, ap, ◌∙◌, subst, ℕ, List, [], ◌∷◌, ◌++◌, length, map, slice_get}
use Rattle.std.proofs.Common.{Some, None, Bool, true, false}
use Rattle.std.proofs.lemmas.Bool.{cases_lt}
use Rattle.std.proofs.lemmas.List.{map-append}
use Rattle.fl_base.specs.declared.identity.EndId.{EndId}
use Rattle.fl_core.specs.View.{TheCore, client_of}
use Rattle.fl_core.specs.declared.core_job.CoreJob.{CoreJob}
use Rattle.fl_core.specs.Jobs.{HasNoRule, RulesLead}
use Rattle.fl_world_refines.specs.declared.binding.Binding.{Binding}
use Rattle.fl_cores_file.specs.declared.job.Job.{Job as RustJob}
use Rattle.fl_cores_file.specs.Jobs.{Job, has_rules}
use Rattle.fl_cores_file.specs.Views.{job_of}
use Rattle.fl_cores_jobs.specs.declared.end_work.BindingCores.{BindingCores}
use Rattle.fl_cores_jobs.specs.EndWork.{end_work_at, places_of, rule_at, rule_by, OpensFirst}
use Rattle.fl_cores_jobs.specs.Kept.{has_core_rules, RulesFrom, AreOpened, AreKept}
use Rattle.fl_cores_jobs.specs.State.{TheJoinedJobs, nothing_joined, ArePlaced, AreJoined, DuesUpTo}
use Rattle.fl_cores_jobs.specs.Whole.{bound_of, SetUp, so_far, Joins, AreBound}
use Rattle.fl_cores_jobs.proofs.Sources.{all_at, none_from, lead_none, lead_from, by_from, sources_more, none_yet}
use Rattle.fl_cores_jobs.proofs.Openings.{binding_more, openings_more, none_opened}

-- ---- from one to the next

pub kept_none : (set_up : List Binding) → AreKept set_up [] nothing_joined
kept_none set_up = record { rules = λ e. none_yet (length set_up) e; opened = none_opened }

pub kept_set_up : (set_up : List Binding) (cores : ℕ) (x : Binding) (j j2 : TheJoinedJobs) → SetUp cores x j j2 → ArePlaced cores [] j
    → AreKept set_up [] j → AreKept set_up [] j2
kept_set_up set_up cores x j j2 s p k =
    subst (λ (t : TheJoinedJobs). AreKept set_up [] t) (sym s.rest)
    (record { rules = λ e. k.rules e; opened = binding_more j.jobs j.bindings (bound_of x) p.there k.opened refl })

kept_more : (cores : ℕ) (asked : List Job) (set_up : List Binding) (one : Job) (j : TheJoinedJobs) (ks : List TheCore) (j2 : TheJoinedJobs) (ks2 : List TheCore)
    → Joins set_up one (so_far j ks) (so_far j2 ks2) → ArePlaced cores asked j → AreKept set_up asked j → AreKept set_up (asked ++ one ∷ []) j2
kept_more cores asked set_up one j ks j2 ks2 joins p k = record {
  rules = sources_more asked set_up one j ks j2 ks2 joins k.rules;
  opened = openings_more set_up one j ks j2 ks2 joins p.there k.opened;
}

-- a turn of the loop over jobs
pub kept_turn : (cores : ℕ) (done : List RustJob) (x : RustJob) (set_up set_up2 : List Binding) (j : TheJoinedJobs) (ks : List TheCore) (j2 : TheJoinedJobs) (ks2 : List TheCore)
    → set_up2 ≡ set_up → Joins set_up2 (job_of x) (so_far j ks) (so_far j2 ks2) → ArePlaced cores (map job_of done) j → AreKept set_up (map job_of done) j
    → AreKept set_up (map job_of (done ++ x ∷ [])) j2
kept_turn cores done x set_up set_up2 j ks j2 ks2 same joins p k =
    let joins2 : Joins set_up (job_of x) (so_far j ks) (so_far j2 ks2) = subst (λ (bs : List Binding). Joins bs (job_of x) (so_far j ks) (so_far j2 ks2)) same joins in
    subst (λ (asked : List Job). AreKept set_up asked j2) (sym (map-append job_of done (x ∷ [])))
    (kept_more cores (map job_of done) set_up (job_of x) j ks j2 ks2 joins2 p k)

pub told_kept : (set_up : List Binding) (asked : List Job) (n : ℕ) (j j2 : TheJoinedJobs) → AreKept set_up asked j → DuesUpTo n j j2 → AreKept set_up asked j2
told_kept set_up asked n j j2 k t = record {
  rules = λ e. subst (λ (jobs : List CoreJob). RulesFrom (length set_up) asked jobs e) (sym t.jobs) (k.rules e);
  opened =
      subst (λ (jobs : List CoreJob). AreOpened jobs j2.bindings) (sym t.jobs)
      (subst (λ (bs : List BindingCores). AreOpened j.jobs bs) (sym t.bindings) k.opened);
}

-- ---- what it tells

module _ (cores : ℕ) (set_up : List Binding) (asked : List Job) (j : TheJoinedJobs) (p : ArePlaced cores asked j) (b : AreBound set_up asked j)
    (k : AreKept set_up asked j) where
  at_places : (P : List ℕ → Type 0) (e : EndId) → P (places_of e 0 j.jobs) → P (end_work_at j.end_works e).jobs
  at_places P e h = subst P (sym (p.each e).places) h

  no_rules : (e : EndId) → has_rules asked e ≡ false → has_core_rules j.jobs e ≡ false
  no_rules e none = elim (cases_lt e.binding (length set_up)) [
    | inl below ↦ (k.rules e).none below
    | inr past ↦ (k.rules e).some past ∙ none
  ]

  no_jobs : (e : EndId) → has_core_rules j.jobs e ≡ false → HasNoRule j.jobs (end_work_at j.end_works e).jobs
  no_jobs e none = at_places (HasNoRule j.jobs) e (none_from e j.jobs j.jobs 0 (all_at j.jobs) none)

  lead_by : (e : EndId) (ruled : Bool) → has_rules asked e ≡ ruled → RulesLead j.jobs (end_work_at j.end_works e).jobs
  lead_by e false is = lead_none j.jobs (end_work_at j.end_works e).jobs (no_jobs e (no_rules e is))
  lead_by e true is = at_places (RulesLead j.jobs) e (lead_from e j.jobs j.jobs 0 (all_at j.jobs) ((p.each e).calls ∙ (p.each e).asked.alone is))

  set_up_none : (e : EndId) (x : BindingCores) → slice_get j.bindings e.binding ≡ Some x → x.opened ≡ None → has_core_rules j.jobs e ≡ false
  set_up_none e x at none = elim (cases_lt e.binding (length set_up)) [
    | inl below ↦ (k.rules e).none below
    | inr past ↦ let opened = b.opened e.binding x at past in absurd (cc (opened.1, none))
  ]

  by_jobs : (e : EndId) (x : BindingCores) (number : ℕ) → slice_get j.bindings e.binding ≡ Some x → x.opened ≡ Some number
      → (msg : ℕ) → rule_at (end_work_at j.end_works e).rules msg ≡ rule_by j.jobs msg None (end_work_at j.end_works e).jobs
  by_jobs e x number at opened msg = elim (cases_lt e.binding (length set_up)) [
    | inl below ↦ let none = b.unopened e.binding x at below in absurd (cc (opened, none))
    | inr past ↦ (p.each e).asked.rules msg ∙ sym ((k.rules e).same past msg) ∙ sym (by_from e msg j.jobs j.jobs 0 None (all_at j.jobs))
        ∙ ap (rule_by j.jobs msg None) (sym (p.each e).places)
  ]

  pub all_joined : AreJoined cores asked j
  all_joined = record {
    bindings = p.bindings;
    end_works = p.end_works;
    each = p.each;
    there = p.there;
    unruled = λ e none. no_jobs e (no_rules e (sym (p.each e).asked.ruled ∙ none));
    lead = λ e. lead_by e (has_rules asked e) refl;
    at_once = λ e x at none. no_jobs e (set_up_none e x at none);
    later = by_jobs;
    opened = λ n x number at is. at_places (λ (places : List ℕ). OpensFirst j.jobs places n x.interface) (client_of n) (k.opened.opened n x number at is);
    set_up = k.opened.set_up;
  }
