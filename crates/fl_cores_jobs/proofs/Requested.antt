-- Circuits are asked for: from one job to the next.
use Rattle.std.proofs.Common.{◌≡◌, inl, inr, refl, sym, ap, ◌∙◌, subst, ℕ, zero, suc, ◌+◌, if◌then◌else◌, List, [], ◌∷◌, ◌++◌, length, map, slice_get, slice_set}
use Rattle.std.proofs.Common.{Option, Some, None, Bool, true, false, Result, Ok, Err}
use Rattle.std.specs.Prelude.{OnOk}
use Rattle.std.specs.List.{flat_map}
use Rattle.fl_base.specs.declared.identity.EndId.{EndId}
use Rattle.fl_base.specs.declared.identity.MsgNo.{MsgNo}
use Rattle.fl_monitor.specs.Monitors.{TheMonitor, first_link}
use Rattle.fl_nameserv.specs.Registrations.{TheRegistration}
use Rattle.fl_core.specs.View.{TheCore}
use Rattle.fl_core.specs.declared.core_job.CoreJob.{CoreJob}
use Rattle.fl_core.specs.declared.core_job.CoreJob.TheVariants as core
use Rattle.fl_core.specs.declared.core_job.OpenRequest.{OpenRequest}
use Rattle.fl_world_refines.specs.declared.binding.Binding.{Binding}
use Rattle.fl_world_refines.specs.View.{core_in}
use Rattle.fl_cores_file.specs.declared.job.Job.{Job as RustJob}
use Rattle.fl_cores_file.specs.Jobs.{TheCircuitRequest, Job, opens, replies, calls}
use Rattle.fl_cores_file.specs.Views.{job_of}
use Rattle.fl_cores_jobs.specs.declared.end_work.BindingCores.{BindingCores}
use Rattle.fl_cores_jobs.specs.Rules.{RuleNow, RuleOf, RulesOf}
use Rattle.fl_cores_jobs.specs.State.{TheJoinedJobs, with_job, DuesUpTo}
use Rattle.fl_cores_jobs.specs.Whole.{is_set_up, so_far, Joins, request_in, AreBound}
use Rattle.fl_cores_jobs.specs.Requested.{BeginsAt, IsRequestOf, AddsOpening, AddsRequested, IsRequested, AreRequested}
use Rattle.fl_cores_jobs.proofs.Fitting.{grows}
use Rattle.fl_cores_jobs.proofs.Growing.{got, kept, last}
use Rattle.fl_cores_jobs.proofs.Stepwise.{count_bound, one_mapped, requests_more}

-- ---- a core's table of circuits, behind rules that were set

-- the core of this place, as it was: its monitor is as it was
record Was (cores : List TheCore) (n : ℕ) (k : TheCore) : Type 0 where
  core : TheCore
  core_is : slice_get cores n ≡ Some core
  same : k.monitor ≡ core.monitor

set_before : (cores : List TheCore) (n : ℕ) (c after : TheCore) → slice_get cores n ≡ Some c → after.monitor ≡ c.monitor
    → (m : ℕ) (k : TheCore) → slice_get (slice_set cores n after) m ≡ Some k → Was cores m k
set_before [] n c after is same m k at = absurd (cc)
set_before (x ∷ cores) zero c after is same zero k at =
    let now : after ≡ k = cc in record { core = c; core_is = is; same = ap (λ (y : TheCore). y.monitor) (sym now) ∙ same }
set_before (x ∷ cores) zero c after is same (suc m) k at = record { core = k; core_is = at; same = refl }
set_before (x ∷ cores) (suc n) c after is same zero k at = record { core = k; core_is = at; same = refl }
set_before (x ∷ cores) (suc n) c after is same (suc m) k at =
    let w = set_before cores n c after is same m k at in record { core = w.core; core_is = w.core_is; same = w.same }

now_before : (o : Option Binding) (e : EndId) (msg answer : ℕ) (ks ks2 : List TheCore) → RuleNow o e msg answer ks ks2
    → (n : ℕ) (k : TheCore) → slice_get ks2 n ≡ Some k → Was ks n k
now_before None e msg answer ks ks2 same n k at =
    record { core = k; core_is = ap (λ (t : List TheCore). slice_get t n) (sym same) ∙ at; same = refl }
now_before (Some x) e msg answer ks ks2 r n k at =
    set_before ks (core_in e.side x) r.core r.after r.core_is (ap (λ (y : TheCore). y.monitor) r.rules.sets.rest) n k
    (ap (λ (t : List TheCore). slice_get t n) (sym r.rest) ∙ at)

one_before : (set_up : List Binding) (job : Job) (ks ks2 : List TheCore) → RuleOf set_up job ks ks2
    → (n : ℕ) (k : TheCore) → slice_get ks2 n ≡ Some k → Was ks n k
one_before set_up (opens w) ks ks2 same n k at = record { core = k; core_is = ap (λ (t : List TheCore). slice_get t n) (sym same) ∙ at; same = refl }
one_before set_up (replies e msg answer) ks ks2 r n k at = now_before (slice_get set_up e.binding) e msg answer ks ks2 r n k at
one_before set_up (calls e c) ks ks2 same n k at = record { core = k; core_is = ap (λ (t : List TheCore). slice_get t n) (sym same) ∙ at; same = refl }

all_before : (set_up : List Binding) (jobs : List Job) (ks ks2 : List TheCore) → RulesOf set_up jobs ks ks2
    → (n : ℕ) (k : TheCore) → slice_get ks2 n ≡ Some k → Was ks n k
all_before set_up [] ks ks2 same n k at = record { core = k; core_is = ap (λ (t : List TheCore). slice_get t n) (sym same) ∙ at; same = refl }
all_before set_up (job ∷ jobs) ks ks2 (m, one, rest) n k at =
    let later = all_before set_up jobs m ks2 rest n k at in
    let was = one_before set_up job ks m one n later.core later.core_is in
    record { core = was.core; core_is = was.core_is; same = later.same ∙ was.same }

module _ (set_up : List Binding) (jobs : List Job) (ks ks2 : List TheCore) (rules : RulesOf set_up jobs ks ks2) (count : length ks2 ≡ length ks) where
  begins_before : (client server link : ℕ) (path : List _) → BeginsAt ks2 client path server link → BeginsAt ks client path server link
  begins_before client server link path b =
      let was = all_before set_up jobs ks ks2 rules client b.core b.core_is in
      record {
        core = was.core;
        core_is = was.core_is;
        begins = ap (λ (m : TheMonitor). first_link m.circuits path server (length ks)) (sym was.same)
            ∙ ap (λ (n : ℕ). first_link b.core.monitor.circuits path server n) (sym count) ∙ b.begins;
      }

  asks_before : (names : List TheRegistration) (w : TheCircuitRequest) (server : ℕ) (x : OpenRequest) → IsRequestOf names ks2 w server x → IsRequestOf names ks w server x
  asks_before names w server x a = record {
    dispatcher = a.dispatcher;
    interface = a.interface;
    service = a.service;
    route = a.route;
    begins = begins_before w.client.core server x.link.0 x.opening.path a.begins;
  }

  adds_before : (names : List TheRegistration) (one : Job) (j j2 : TheJoinedJobs) → AddsRequested names ks2 one j j2 → AddsRequested names ks one j j2
  adds_before names (opens w) j j2 a = record {
    bound = a.bound;
    request = a.request;
    bindings = a.bindings;
    jobs = a.jobs;
    binding = a.binding;
    client = a.client;
    asks = asks_before names w a.bound.server a.request a.asks;
  }
  adds_before names (replies e msg answer) j j2 a = tt
  adds_before names (calls e c) j j2 a = tt

-- ---- a job that opens none

old_by : (j j2 : TheJoinedJobs) (y : CoreJob) → j2.jobs ≡ j.jobs ++ y ∷ [] → ((x : OpenRequest) → y ≡ core.Open x → ⊥)
    → (n : ℕ) (x : OpenRequest) → slice_get j2.jobs n ≡ Some (core.Open x) → slice_get j.jobs n ≡ Some (core.Open x)
old_by j j2 y is other n x at = elim (got j.jobs y (core.Open x) n (ap (λ (t : List CoreJob). slice_get t n) (sym is) ∙ at)) [
  | inl before ↦ before
  | inr new ↦ absurd (other x new.1)
]

rule_old : (b : Bool) (j j1 j2 : TheJoinedJobs) (e : EndId) (message reply : MsgNo) → j1.jobs ≡ j.jobs
    → j2 ≡ (if b then j1 else with_job e (core.Reply e message reply) j1)
    → (n : ℕ) (x : OpenRequest) → slice_get j2.jobs n ≡ Some (core.Open x) → slice_get j.jobs n ≡ Some (core.Open x)
rule_old true j j1 j2 e message reply jobs is n x at =
    ap (λ (t : List CoreJob). slice_get t n) (sym (ap (λ (t : TheJoinedJobs). t.jobs) is ∙ jobs)) ∙ at
rule_old false j j1 j2 e message reply jobs is n x at =
    old_by j j2 (core.Reply e message reply)
    (ap (λ (t : TheJoinedJobs). t.jobs) is ∙ ap (λ (t : List CoreJob). t ++ core.Reply e message reply ∷ []) jobs) (λ w same. absurd (cc)) n x at

-- ---- one job more

module _ (names : List TheRegistration) (cores : List TheCore) (first : ℕ) where
  -- there are more jobs and bindings
  wider : (asked : List Job) (one : Job) (bs bs2 : List BindingCores) (x : OpenRequest)
      → ((n : ℕ) (b : BindingCores) → slice_get bs n ≡ Some b → slice_get bs2 n ≡ Some b)
      → IsRequested names cores first asked bs x → IsRequested names cores first (asked ++ one ∷ []) bs2 x
  wider asked one bs bs2 x more w = record {
    place = w.place;
    number = w.number;
    request = w.request;
    request_is = ap (λ (t : List TheCircuitRequest). slice_get t w.place) (requests_more asked one)
        ∙ kept (flat_map request_in asked) (request_in one) w.request w.place w.request_is;
    bound = w.bound;
    bound_is = more x.opening.binding w.bound w.bound_is;
    client = w.client;
    asks = w.asks;
  }

  -- the one that was added
  newest : (asked : List Job) (w : TheCircuitRequest) (j j2 : TheJoinedJobs) → length j.bindings ≡ first + length (flat_map request_in asked)
      → (a : AddsOpening names cores w j j2) → IsRequested names cores first (asked ++ opens w ∷ []) j2.bindings a.request
  newest asked w j j2 count a = record {
    place = length (flat_map request_in asked);
    number = a.binding ∙ count;
    request = w;
    request_is = ap (λ (t : List TheCircuitRequest). slice_get t (length (flat_map request_in asked))) (requests_more asked (opens w)) ∙ last (flat_map request_in asked) w;
    bound = a.bound;
    bound_is = ap (λ (t : List BindingCores). slice_get t a.request.opening.binding) a.bindings ∙ ap (slice_get (j.bindings ++ a.bound ∷ [])) a.binding
        ∙ last j.bindings a.bound;
    client = a.client;
    asks = a.asks;
  }

  same_request : (x y : OpenRequest) → core.Open x ≡ core.Open y → x ≡ y
  same_request x y is = cc

  requested_more : (set_up : List Binding) (asked : List Job) (one : Job) (j : TheJoinedJobs) (ks : List TheCore) (j2 : TheJoinedJobs) (ks2 : List TheCore)
      → Joins set_up one (so_far j ks) (so_far j2 ks2) → AddsRequested names cores one j j2 → length j.bindings ≡ first + length (flat_map request_in asked)
      → AreRequested names cores first asked j → AreRequested names cores first (asked ++ one ∷ []) j2
  requested_more set_up asked (opens w) j ks j2 ks2 joins a count k n x at =
      elim (got j.jobs (core.Open a.request) (core.Open x) n (ap (λ (t : List CoreJob). slice_get t n) (sym a.jobs) ∙ at)) [
        | inl before ↦ wider asked (opens w) j.bindings j2.bindings x (grows set_up (opens w) j ks j2 ks2 joins).bindings (k n x before)
        | inr new ↦
            subst (λ (y : OpenRequest). IsRequested names cores first (asked ++ opens w ∷ []) j2.bindings y) (same_request a.request x new.1)
            (newest asked w j j2 count a)
      ]
  requested_more set_up asked (replies e msg answer) j ks j2 ks2 r a count k n x at =
      wider asked (replies e msg answer) j.bindings j2.bindings x (grows set_up (replies e msg answer) j ks j2 ks2 r).bindings
      (k n x (rule_old (is_set_up set_up e) j (record j { end_works = r.planned.end_works }) j2 e r.message r.reply refl r.planned.rest n x at))
  requested_more set_up asked (calls e c) j ks j2 ks2 ((call, is, p), same) a count k n x at =
      wider asked (calls e c) j.bindings j2.bindings x (grows set_up (calls e c) j ks j2 ks2 ((call, is, p), same)).bindings
      (k n x (old_by j j2 (core.Call e call) (ap (λ (t : TheJoinedJobs). t.jobs) p.rest) (λ w is. absurd (cc)) n x at))

  pub requested_none : (asked : List Job) (j : TheJoinedJobs) → j.jobs ≡ [] → AreRequested names cores first asked j
  requested_none asked j none n x at =
      let h : slice_get [] n ≡ Some (core.Open x) = ap (λ (t : List CoreJob). slice_get t n) (sym none) ∙ at in absurd (cc)

  pub told_requested : (asked : List Job) (n : ℕ) (j j2 : TheJoinedJobs) → AreRequested names cores first asked j → DuesUpTo n j j2
      → AreRequested names cores first asked j2
  told_requested asked n j j2 k t m x at =
      subst (λ (bs : List BindingCores). IsRequested names cores first asked bs x) (sym t.bindings)
      (k m x (subst (λ (xs : List CoreJob). slice_get xs m ≡ Some (core.Open x)) t.jobs at))

-- a turn of the loop over jobs
pub requested_turn : (names names2 : List TheRegistration) (set_up set_up2 : List Binding) (done : List RustJob) (x : RustJob) (j : TheJoinedJobs)
    (ks0 ks : List TheCore) (j2 : TheJoinedJobs) (ks2 : List TheCore) → names2 ≡ names → RulesOf set_up (map job_of done) ks0 ks → length ks ≡ length ks0
    → Joins set_up2 (job_of x) (so_far j ks) (so_far j2 ks2) → AddsRequested names2 ks (job_of x) j j2 → AreBound set_up (map job_of done) j
    → AreRequested names ks0 (length set_up) (map job_of done) j → AreRequested names ks0 (length set_up) (map job_of (done ++ x ∷ [])) j2
requested_turn names names2 set_up set_up2 done x j ks0 ks j2 ks2 same rules count joins adds bound k =
    let before = adds_before set_up (map job_of done) ks0 ks rules count names2 (job_of x) j j2 adds in
    let mine : AddsRequested names ks0 (job_of x) j j2 = subst (λ (ns : List TheRegistration). AddsRequested ns ks0 (job_of x) j j2) same before in
    subst (λ (asked : List Job). AreRequested names ks0 (length set_up) asked j2) (one_mapped done x)
    (requested_more names ks0 (length set_up) set_up2 (map job_of done) (job_of x) j ks j2 ks2 joins mine
    (count_bound set_up (map job_of done) j bound.bound) k)

-- where a job opens none
pub nothing_requested : {T E : Type 0} (r : Result T E) → OnOk r (Unit {0})
nothing_requested (Ok x) = tt
nothing_requested (Err e) = tt
