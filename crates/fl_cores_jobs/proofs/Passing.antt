-- Jobs that have no fault, each behind those before it; and rules that are set leave a job's fault as it was.
use Rattle.std.proofs.Common.{◌≡◌, inl, inr, sym, ap, ◌∙◌, subst, ℕ, List, [], ◌∷◌, ◌++◌, map, take, Option, None, arith}
use Rattle.std.proofs.lemmas.List.{take_at, take-append-le}
use Rattle.fl_base.specs.declared.identity.EndId.{EndId}
use Rattle.fl_compile.specs.declared.program.Program.{Program}
use Rattle.fl_model.specs.Calls.{Planned}
use Rattle.fl_world_refines.specs.declared.binding.Binding.{Binding}
use Rattle.fl_world_refines.specs.declared.parts.Parts.{Parts}
use Rattle.fl_cores_file.specs.Draft.{Bound as ReadBound, call_fault, rule_fault}
use Rattle.fl_cores_file.specs.declared.job.Job.{Job as RustJob}
use Rattle.fl_cores_file.specs.Jobs.{Job, opens, replies, calls}
use Rattle.fl_cores_file.specs.Views.{job_of}
use Rattle.fl_cores_jobs.specs.Faults.{request_fault, fault_at_once, the_first}
use Rattle.fl_cores_jobs.specs.Rules.{RulesOf}
use Rattle.fl_cores_jobs.specs.Whole.{IsBeside, found_behind, rule_refusal, count_behind, job_fault, NoneRefused}
use Rattle.fl_cores_jobs.proofs.Growing.{got}
use Rattle.fl_cores_jobs.proofs.Openings.{within}
use Rattle.fl_cores_jobs.proofs.Seen.{same_request, same_set_up}
use Rattle.fl_cores_jobs.proofs.Stepwise.{one_mapped}

-- ---- behind rules that are set

module _ (p p2 : Parts) (asked : List Job) (beside : IsBeside p p2) where
  same_behind : (e : EndId) (finds : ReadBound → Planned → Option ℕ)
      → found_behind p2.programs.items p2.bindings.items asked e finds ≡ found_behind p.programs.items p.bindings.items asked e finds
  same_behind e finds =
      ap (λ (xs : List Binding). found_behind p2.programs.items xs asked e finds) beside.bindings
      ∙ ap (λ (ps : List Program). found_behind ps p.bindings.items asked e finds) beside.programs

  pub same_refusal : (e : EndId) (msg answer : ℕ) → rule_refusal p2 asked e msg answer ≡ rule_refusal p asked e msg answer
  same_refusal e msg answer = same_behind e (rule_fault e.side msg answer)

  module _ (rules : RulesOf p.bindings.items asked p.cores.items p2.cores.items) where
    pub same_at_once : (e : EndId) (msg answer : ℕ)
        → fault_at_once p2.cores.items p2.bindings.items e msg answer ≡ fault_at_once p.cores.items p.bindings.items e msg answer
    same_at_once e msg answer = same_set_up e msg answer p p2 p.bindings.items asked beside rules

    pub same_fault : (job : Job) → job_fault p2 asked job ≡ job_fault p asked job
    same_fault (opens w) =
        ap (λ (xs : List Binding). request_fault p2 (count_behind xs asked) w) beside.bindings
        ∙ same_request (count_behind p.bindings.items asked) w p p2 p.bindings.items asked beside rules
    same_fault (replies e msg answer) =
        ap (λ (o : Option ℕ). the_first o (fault_at_once p2.cores.items p2.bindings.items e msg answer)) (same_refusal e msg answer)
        ∙ ap (λ (o : Option ℕ). the_first (rule_refusal p asked e msg answer) o) (same_at_once e msg answer)
    same_fault (calls e c) = same_behind e (call_fault e.side c)

-- ---- one job more

pub none_yet : (p : Parts) → NoneRefused p []
none_yet p n job at = absurd (cc)

none_more : (p : Parts) (done : List Job) (job : Job) → NoneRefused p done → job_fault p done job ≡ None → NoneRefused p (done ++ job ∷ [])
none_more p done job before now n other at = elim (got done job other n at) [
  | inl old ↦
      let below = within done n other old in
      let front : take n (done ++ job ∷ []) ≡ take n done = take-append-le n done (job ∷ []) (omega (arith, below)) in
      ap (λ (t : List Job). job_fault p t other) front ∙ before n other old
  | inr new ↦
      let front : take n (done ++ job ∷ []) ≡ done = take_at done (job ∷ []) n (sym new.0) in
      ap (λ (t : List Job). job_fault p t other) front ∙ ap (λ (x : Job). job_fault p done x) (sym new.1) ∙ now
]

pub none_turn : (p p2 : Parts) (done : List RustJob) (x : RustJob) → IsBeside p p2 → RulesOf p.bindings.items (map job_of done) p.cores.items p2.cores.items
    → job_fault p2 (map job_of done) (job_of x) ≡ None → NoneRefused p (map job_of done) → NoneRefused p (map job_of (done ++ x ∷ []))
none_turn p p2 done x beside rules now before =
    subst (λ (jobs : List Job). NoneRefused p jobs) (one_mapped done x)
    (none_more p (map job_of done) (job_of x) before (sym (same_fault p p2 (map job_of done) beside rules (job_of x)) ∙ now))
