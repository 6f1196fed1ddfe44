-- Bindings and jobs are joined one after another.
use Rattle.std.proofs.Common.{◌≡◌, append_assoc, inl, inr, refl, sym, ap, ◌∙◌, subst, ℕ, suc, ◌<◌, ◌≤◌, ◌+◌, ◌*◌, if◌then◌else◌, List, [], ◌∷◌, ◌++◌, length, map, take, get_or, slice_get}
use Rattle.std.proofs.Common.{Option, Some, None, Bool, true, false, arith}
use Rattle.std.specs.List.{flat_map}
use Rattle.std.proofs.lemmas.List.{length-append, length-map, length-set, map-append, append-nil, take_all}
use Rattle.std.proofs.lemmas.List.Concat.{flat_map-append, flat_map-cons}
use Rattle.std.proofs.Math.Seq.{take-suc}
use Rattle.fl_base.specs.declared.identity.EndId.{EndId}
use Rattle.fl_base.specs.declared.identity.MsgNo.{MsgNo}
use Rattle.fl_value_data.specs.declared.value.Call.{Call}
use Rattle.fl_value_data.specs.Value.{TheCall, call_of}
use Rattle.fl_core.specs.View.{TheCore, client_of}
use Rattle.fl_core.specs.declared.core_job.CoreJob.TheVariants as core
use Rattle.fl_world_refines.specs.declared.binding.Binding.{Binding}
use Rattle.fl_world_refines.specs.View.{core_in}
use Rattle.fl_cores_file.specs.declared.job.Job.{Job as RustJob}
use Rattle.fl_cores_file.specs.Jobs.{Job, TheCircuitRequest, opens, replies, calls}
use Rattle.fl_cores_file.specs.Views.{job_of}
use Rattle.fl_world_refines.specs.declared.parts.Parts.{Parts}
use Rattle.fl_cores_jobs.specs.declared.end_work.BindingCores.{BindingCores}
use Rattle.fl_cores_jobs.specs.EndWork.{end_of}
use Rattle.fl_cores_jobs.specs.Rules.{RuleNow, RuleOf, RulesOf}
use Rattle.fl_cores_jobs.specs.State.{TheJoinedJobs, nothing_joined, with_binding, with_owner, with_job, Opened, CallPlanned, RulePlanned, ArePlaced, DuesUpTo}
use Rattle.fl_cores_jobs.specs.Whole.{bound_of, SetUp, is_set_up, so_far, Ruled, Joins, IsBeside, About, about, request_in, all_about, AreBound}
use Rattle.fl_cores_jobs.proofs.Ends.{slot_within}
use Rattle.fl_cores_jobs.proofs.Growing.{got, kept, last, core_stays}
use Rattle.fl_cores_jobs.proofs.Openings.{within}
use Rattle.fl_cores_jobs.proofs.OneMore.{add_quiet, add_call, add_rule, add_set_up, add_opened, add_request}

-- ---- bindings that are set up

pub set_up_more : (cores : ℕ) (asked : List Job) (x : Binding) (j j2 : TheJoinedJobs) → SetUp cores x j j2 → ArePlaced cores asked j → ArePlaced cores asked j2
set_up_more cores asked x j j2 s k =
    subst (λ (t : TheJoinedJobs). ArePlaced cores asked t) (sym s.rest) (add_set_up cores asked (bound_of x) j s.client s.server refl s.few k)

-- ---- one job more

one_longer : {X : Type 0} (xs : List X) (x : X) → length xs < length (xs ++ x ∷ [])
one_longer xs x = let l = length-append xs (x ∷ []) in omega (arith, l)

module _ (cores : ℕ) (asked : List Job) (w : TheCircuitRequest) (j j2 : TheJoinedJobs) (o : Opened cores w j j2) (k : ArePlaced cores asked j) where
  abbrev bound_there : TheJoinedJobs
  bound_there = with_owner o.bound.client (with_binding o.bound j)

  there : ArePlaced cores asked bound_there
  there = add_opened cores asked o.bound j o.client o.server o.opened o.few k

  its_end : client_of (length j.bindings) ≡ end_of (core.Open o.request)
  its_end = ap client_of (sym o.binding)

  fits_in : (end_of (core.Open o.request)).binding < length bound_there.bindings
  fits_in = let l = one_longer j.bindings o.bound in let b = o.binding in omega (arith, l, b)

  asked_for : ArePlaced cores asked (with_job (end_of (core.Open o.request)) (core.Open o.request) bound_there)
  asked_for =
      add_quiet cores asked (core.Open o.request) bound_there (λ e. core_stays j.jobs (core.Open o.request) e refl) fits_in
      (slot_within (end_of (core.Open o.request)) (length bound_there.bindings) (length bound_there.end_works) fits_in there.end_works) there

  pub opened_more : ArePlaced cores (asked ++ opens w ∷ []) j2
  opened_more =
      subst (λ (t : TheJoinedJobs). ArePlaced cores (asked ++ opens w ∷ []) t)
      (sym (o.rest ∙ ap (λ (e : EndId). with_job e (core.Open o.request) bound_there) its_end))
      (add_request cores asked w (with_job (end_of (core.Open o.request)) (core.Open o.request) bound_there) asked_for)

pub called_more : (cores : ℕ) (asked : List Job) (e : EndId) (call : Call) (j j2 : TheJoinedJobs) → CallPlanned e call j j2 → ArePlaced cores asked j
    → ArePlaced cores (asked ++ calls e (call_of call) ∷ []) j2
called_more cores asked e call j j2 p k =
    subst (λ (t : TheJoinedJobs). ArePlaced cores (asked ++ calls e (call_of call) ∷ []) t) (sym p.rest)
    (add_call cores asked e call j p.within (slot_within e (length j.bindings) (length j.end_works) p.within k.end_works) p.free k)

ruled_by : (cores : ℕ) (asked : List Job) (e : EndId) (message reply : MsgNo) (j : TheJoinedJobs) (b : Bool) → e.binding < length j.bindings
    → ArePlaced cores asked j → ArePlaced cores asked (if b then j else with_job e (core.Reply e message reply) j)
ruled_by cores asked e message reply j true within k = k
ruled_by cores asked e message reply j false within k =
    add_quiet cores asked (core.Reply e message reply) j (λ f. core_stays j.jobs (core.Reply e message reply) f refl) within
    (slot_within e (length j.bindings) (length j.end_works) within k.end_works) k

pub ruled_more : (cores : ℕ) (asked : List Job) (b : Bool) (e : EndId) (message reply : MsgNo) (j j2 : TheJoinedJobs) → RulePlanned b e message reply j j2
    → ArePlaced cores asked j → ArePlaced cores (asked ++ replies e message.0 reply.0 ∷ []) j2
ruled_more cores asked b e message reply j j2 p k =
    let j1 : TheJoinedJobs = record j { end_works = p.end_works } in
    let asked2 = asked ++ replies e message.0 reply.0 ∷ [] in
    let a = add_rule cores asked e message.0 reply.0 j j1 (slot_within e (length j.bindings) (length j.end_works) p.within k.end_works) p.free p.alone p.set k in
    subst (λ (t : TheJoinedJobs). ArePlaced cores asked2 t) (sym p.rest) (ruled_by cores asked2 e message reply j1 b p.within a)

ruled_as : (cores : ℕ) (asked : List Job) (set_up : List Binding) (e : EndId) (msg answer : ℕ) (j : TheJoinedJobs) (ks : List TheCore) (j2 : TheJoinedJobs) (ks2 : List TheCore)
    → Ruled set_up e msg answer (so_far j ks) (so_far j2 ks2) → ArePlaced cores asked j → ArePlaced cores (asked ++ replies e msg answer ∷ []) j2
ruled_as cores asked set_up e msg answer j ks j2 ks2 r k =
    subst (λ (m : ℕ). ArePlaced cores (asked ++ replies e m answer ∷ []) j2) r.message_is
    (subst (λ (a : ℕ). ArePlaced cores (asked ++ replies e r.message.0 a ∷ []) j2) r.reply_is
    (ruled_more cores asked (is_set_up set_up e) e r.message r.reply j j2 r.planned k))

-- whatever the job
pub joined_more : (asked : List Job) (set_up : List Binding) (job : Job) (j : TheJoinedJobs) (ks : List TheCore) (j2 : TheJoinedJobs) (ks2 : List TheCore)
    → Joins set_up job (so_far j ks) (so_far j2 ks2) → ArePlaced (length ks) asked j → ArePlaced (length ks) (asked ++ job ∷ []) j2
joined_more asked set_up (opens w) j ks j2 ks2 (o, same) k = opened_more (length ks) asked w j j2 o k
joined_more asked set_up (replies e msg answer) j ks j2 ks2 r k = ruled_as (length ks) asked set_up e msg answer j ks j2 ks2 r k
joined_more asked set_up (calls e c) j ks j2 ks2 ((call, is, p), same) k =
    subst (λ (x : TheCall). ArePlaced (length ks) (asked ++ calls e x ∷ []) j2) is (called_more (length ks) asked e call j j2 p k)

-- ---- the cores meanwhile

pub rule_of : (set_up : List Binding) (job : Job) (j : TheJoinedJobs) (ks : List TheCore) (j2 : TheJoinedJobs) (ks2 : List TheCore)
    → Joins set_up job (so_far j ks) (so_far j2 ks2) → RuleOf set_up job ks ks2
rule_of set_up (opens w) j ks j2 ks2 (o, same) = same
rule_of set_up (replies e msg answer) j ks j2 ks2 r = r.set
rule_of set_up (calls e c) j ks j2 ks2 (p, same) = same

rules_same : (set_up : List Binding) (jobs : List Job) (ks ks2 ks3 : List TheCore) → ks2 ≡ ks → RulesOf set_up jobs ks2 ks3 → RulesOf set_up jobs ks ks3
rules_same set_up jobs ks ks2 ks3 same r = subst (λ (x : List TheCore). RulesOf set_up jobs x ks3) same r

pub rules_more : (set_up : List Binding) (jobs : List Job) (job : Job) (ks ks2 ks3 : List TheCore) → RulesOf set_up jobs ks ks2 → RuleOf set_up job ks2 ks3
    → RulesOf set_up (jobs ++ job ∷ []) ks ks3
rules_more set_up [] job ks ks2 ks3 same r = (ks3, subst (λ (x : List TheCore). RuleOf set_up job x ks3) same r, refl)
rules_more set_up (one ∷ jobs) job ks ks2 ks3 (m, first, rest) r = (m, first, rules_more set_up jobs job m ks2 ks3 rest r)

count_by_rule : (o : Option Binding) (e : EndId) (msg answer : ℕ) (ks ks2 : List TheCore) → RuleNow o e msg answer ks ks2 → length ks2 ≡ length ks
count_by_rule None e msg answer ks ks2 same = ap (λ (x : List TheCore). length x) same
count_by_rule (Some x) e msg answer ks ks2 r = ap (λ (y : List TheCore). length y) r.rest ∙ length-set ks (core_in e.side x) r.after

as_many_cores : (set_up : List Binding) (job : Job) (ks ks2 : List TheCore) → RuleOf set_up job ks ks2 → length ks2 ≡ length ks
as_many_cores set_up (opens w) ks ks2 same = ap (λ (x : List TheCore). length x) same
as_many_cores set_up (replies e msg answer) ks ks2 r = count_by_rule (slice_get set_up e.binding) e msg answer ks ks2 r
as_many_cores set_up (calls e c) ks ks2 same = ap (λ (x : List TheCore). length x) same

pub count_of : (set_up : List Binding) (job : Job) (j : TheJoinedJobs) (ks : List TheCore) (j2 : TheJoinedJobs) (ks2 : List TheCore)
    → Joins set_up job (so_far j ks) (so_far j2 ks2) → length ks2 ≡ length ks
count_of set_up job j ks j2 ks2 joins = as_many_cores set_up job ks ks2 (rule_of set_up job j ks j2 ks2 joins)

-- ---- a turn of the loop over jobs

pub one_mapped : (done : List RustJob) (x : RustJob) → map job_of done ++ job_of x ∷ [] ≡ map job_of (done ++ x ∷ [])
one_mapped done x = sym (map-append job_of done (x ∷ []))

pub joined_turn : (n : ℕ) (done : List RustJob) (x : RustJob) (set_up : List Binding) (j : TheJoinedJobs) (ks : List TheCore) (j2 : TheJoinedJobs) (ks2 : List TheCore)
    → length ks ≡ n → Joins set_up (job_of x) (so_far j ks) (so_far j2 ks2) → ArePlaced n (map job_of done) j → ArePlaced n (map job_of (done ++ x ∷ [])) j2
joined_turn n done x set_up j ks j2 ks2 count joins k =
    let before : ArePlaced (length ks) (map job_of done) j = subst (λ (m : ℕ). ArePlaced m (map job_of done) j) (sym count) k in
    let after = joined_more (map job_of done) set_up (job_of x) j ks j2 ks2 joins before in
    subst (λ (m : ℕ). ArePlaced m (map job_of (done ++ x ∷ [])) j2) count
    (subst (λ (asked : List Job). ArePlaced (length ks) asked j2) (one_mapped done x) after)

pub rules_turn : (done : List RustJob) (x : RustJob) (set_up set_up2 : List Binding) (j : TheJoinedJobs) (ks0 ks : List TheCore) (j2 : TheJoinedJobs) (ks2 : List TheCore)
    → set_up2 ≡ set_up → Joins set_up2 (job_of x) (so_far j ks) (so_far j2 ks2) → RulesOf set_up (map job_of done) ks0 ks → RulesOf set_up (map job_of (done ++ x ∷ [])) ks0 ks2
rules_turn done x set_up set_up2 j ks0 ks j2 ks2 same joins r =
    let rule : RuleOf set_up (job_of x) ks ks2 = subst (λ (bs : List Binding). RuleOf bs (job_of x) ks ks2) same (rule_of set_up2 (job_of x) j ks j2 ks2 joins) in
    subst (λ (asked : List Job). RulesOf set_up asked ks0 ks2) (one_mapped done x) (rules_more set_up (map job_of done) (job_of x) ks0 ks ks2 r rule)

pub place_turn : (done : List RustJob) (x : RustJob) (place : ℕ) → place ≡ length done → place + 1 ≡ length (done ++ x ∷ [])
place_turn done x place is = let l = length-append done (x ∷ []) in omega (arith, l, is)

pub beside_still : (p q r : Parts) → IsBeside p q → IsBeside q r → IsBeside p r
beside_still p q r a b = record {
  rings = b.rings ∙ a.rings;
  queues = b.queues ∙ a.queues;
  programs = b.programs ∙ a.programs;
  names = b.names ∙ a.names;
  bindings = b.bindings ∙ a.bindings;
}

-- ---- which bindings there are

abbrev about_set_up : Binding → About
about_set_up x = about (bound_of x)

abbrev about_request : TheCircuitRequest → About
about_request w = let a : About = record { interface = w.interface; client = w.client.core } in a

pub requests_more : (jobs : List Job) (job : Job) → flat_map request_in (jobs ++ job ∷ []) ≡ flat_map request_in jobs ++ request_in job
requests_more jobs job =
    flat_map-append request_in jobs (job ∷ [])
    ∙ ap (λ (t : List TheCircuitRequest). flat_map request_in jobs ++ t) (flat_map-cons request_in job [] ∙ append-nil (request_in job))

all_more : (set_up : List Binding) (jobs : List Job) (job : Job) → all_about set_up (jobs ++ job ∷ []) ≡ all_about set_up jobs ++ map about_request (request_in job)
all_more set_up jobs job =
    let before = map about_set_up set_up in
    ap (λ (t : List TheCircuitRequest). before ++ map about_request t) (requests_more jobs job)
    ∙ ap (λ (t : List About). before ++ t) (map-append about_request (flat_map request_in jobs) (request_in job))
    ∙ sym (append_assoc before (map about_request (flat_map request_in jobs)) (map about_request (request_in job)))

-- as many, at least, as are set up
count_of_requests : (set_up : List Binding) (ws : List TheCircuitRequest) → length (map about_set_up set_up ++ map about_request ws) ≡ length set_up + length ws
count_of_requests set_up ws =
    let l = length-append (map about_set_up set_up) (map about_request ws) in
    let m = length-map set_up about_set_up in
    let n = length-map ws about_request in
    omega (arith, l, m, n)

pub count_bound : (set_up : List Binding) (jobs : List Job) (j : TheJoinedJobs) → map about j.bindings ≡ all_about set_up jobs
    → length j.bindings ≡ length set_up + length (flat_map request_in jobs)
count_bound set_up jobs j is =
    sym (length-map j.bindings about) ∙ ap (λ (t : List About). length t) is ∙ count_of_requests set_up (flat_map request_in jobs)

-- a job that opens none
bound_stays : (set_up : List Binding) (jobs : List Job) (job : Job) (j j2 : TheJoinedJobs) → request_in job ≡ [] → j2.bindings ≡ j.bindings → AreBound set_up jobs j
    → AreBound set_up (jobs ++ job ∷ []) j2
bound_stays set_up jobs job j j2 none same k = record {
  bound =
      ap (λ (bs : List BindingCores). map about bs) same ∙ k.bound
      ∙ sym (all_more set_up jobs job ∙ ap (λ (t : List TheCircuitRequest). all_about set_up jobs ++ map about_request t) none ∙ append-nil (all_about set_up jobs));
  first = λ n x at. ap (λ (bs : List BindingCores). slice_get bs n) same ∙ k.first n x at;
  unopened = λ n b at. k.unopened n b (subst (λ (bs : List BindingCores). slice_get bs n ≡ Some b) same at);
  opened = λ n b at. k.opened n b (subst (λ (bs : List BindingCores). slice_get bs n ≡ Some b) same at);
}

same_about : (x : BindingCores) (w : TheCircuitRequest) → x.interface ≡ w.interface → x.client ≡ w.client.core → about x ≡ about_request w
same_about x w i c =
    ap (λ (n : ℕ). let a : About = record { interface = n; client = x.client } in a) i
    ∙ ap (λ (n : ℕ). let a : About = record { interface = w.interface; client = n } in a) c

bound_opened : (set_up : List Binding) (jobs : List Job) (cores : ℕ) (w : TheCircuitRequest) (j j2 : TheJoinedJobs) → Opened cores w j j2 → AreBound set_up jobs j
    → AreBound set_up (jobs ++ opens w ∷ []) j2
bound_opened set_up jobs cores w j j2 o k =
    let count = count_bound set_up jobs j k.bound in
    let is : j2.bindings ≡ j.bindings ++ o.bound ∷ [] = ap (λ (t : TheJoinedJobs). t.bindings) o.rest in
    record {
      bound =
          ap (λ (t : TheJoinedJobs). map about t.bindings) o.rest
          ∙ map-append about j.bindings (o.bound ∷ [])
          ∙ ap (λ (t : List About). t ++ about o.bound ∷ []) k.bound
          ∙ ap (λ (a : About). all_about set_up jobs ++ a ∷ []) (same_about o.bound w o.interface o.owner)
          ∙ sym (all_more set_up jobs (opens w));
      first = λ n x at. ap (λ (bs : List BindingCores). slice_get bs n) is ∙ kept j.bindings (o.bound ∷ []) (bound_of x) n (k.first n x at);
      unopened = λ n b at below. elim (got j.bindings o.bound b n (subst (λ (bs : List BindingCores). slice_get bs n ≡ Some b) is at)) [
        | inl before ↦ k.unopened n b before below
        | inr new ↦ absurd (omega (arith, new.0, below, count))
      ];
      opened = λ n b at past. elim (got j.bindings o.bound b n (subst (λ (bs : List BindingCores). slice_get bs n ≡ Some b) is at)) [
        | inl before ↦ k.opened n b before past
        | inr new ↦ (length j.owners, sym (ap (λ (y : BindingCores). y.opened) new.1) ∙ o.opened)
      ];
    }

ruled_bindings : (b : Bool) (e : EndId) (message reply : MsgNo) (j : TheJoinedJobs) → (if b then j else with_job e (core.Reply e message reply) j).bindings ≡ j.bindings
ruled_bindings true e message reply j = refl
ruled_bindings false e message reply j = refl

pub bound_more : (set_up : List Binding) (jobs : List Job) (set_up2 : List Binding) (job : Job) (j : TheJoinedJobs) (ks : List TheCore) (j2 : TheJoinedJobs) (ks2 : List TheCore)
    → Joins set_up2 job (so_far j ks) (so_far j2 ks2) → AreBound set_up jobs j → AreBound set_up (jobs ++ job ∷ []) j2
bound_more set_up jobs set_up2 (opens w) j ks j2 ks2 (o, same) k = bound_opened set_up jobs (length ks) w j j2 o k
bound_more set_up jobs set_up2 (replies e msg answer) j ks j2 ks2 r k =
    let j1 : TheJoinedJobs = record j { end_works = r.planned.end_works } in
    bound_stays set_up jobs (replies e msg answer) j j2 refl
    (ap (λ (t : TheJoinedJobs). t.bindings) r.planned.rest ∙ ruled_bindings (is_set_up set_up2 e) e r.message r.reply j1) k
bound_more set_up jobs set_up2 (calls e c) j ks j2 ks2 ((call, is, p), same) k =
    bound_stays set_up jobs (calls e c) j j2 refl (ap (λ (t : TheJoinedJobs). t.bindings) p.rest) k

pub bound_turn : (set_up : List Binding) (done : List RustJob) (x : RustJob) (set_up2 : List Binding) (j : TheJoinedJobs) (ks : List TheCore) (j2 : TheJoinedJobs) (ks2 : List TheCore)
    → Joins set_up2 (job_of x) (so_far j ks) (so_far j2 ks2) → AreBound set_up (map job_of done) j → AreBound set_up (map job_of (done ++ x ∷ [])) j2
bound_turn set_up done x set_up2 j ks j2 ks2 joins k =
    subst (λ (jobs : List Job). AreBound set_up jobs j2) (one_mapped done x) (bound_more set_up (map job_of done) set_up2 (job_of x) j ks j2 ks2 joins k)

-- one more of those that are set up
none_opened_by : (xs : List Binding) (x : Binding) (j j2 : TheJoinedJobs) → j2.bindings ≡ j.bindings ++ bound_of x ∷ [] → AreBound xs [] j
    → (n : ℕ) (b : BindingCores) → slice_get j2.bindings n ≡ Some b → b.opened ≡ None
none_opened_by xs x j j2 is k n b at = elim (got j.bindings (bound_of x) b n (subst (λ (bs : List BindingCores). slice_get bs n ≡ Some b) is at)) [
  | inl before ↦ let count = count_bound xs [] j k.bound in let below = within j.bindings n b before in k.unopened n b before (omega (arith, count, below))
  | inr new ↦ sym (ap (λ (y : BindingCores). y.opened) new.1)
]

first_by : (xs : List Binding) (x : Binding) (j j2 : TheJoinedJobs) → j2.bindings ≡ j.bindings ++ bound_of x ∷ [] → length j.bindings ≡ length xs → AreBound xs [] j
    → (n : ℕ) (y : Binding) → slice_get (xs ++ x ∷ []) n ≡ Some y → slice_get j2.bindings n ≡ Some (bound_of y)
first_by xs x j j2 is count k n y at = elim (got xs x y n at) [
  | inl before ↦ ap (λ (bs : List BindingCores). slice_get bs n) is ∙ kept j.bindings (bound_of x ∷ []) (bound_of y) n (k.first n y before)
  | inr new ↦ ap (λ (bs : List BindingCores). slice_get bs n) is ∙ ap (slice_get (j.bindings ++ bound_of x ∷ [])) (new.0 ∙ sym count)
      ∙ last j.bindings (bound_of x) ∙ ap (λ (z : Binding). Some (bound_of z)) new.1
]

pub set_up_turn : (cores : ℕ) (xs : List Binding) (k : ℕ) (x d : Binding) (j j2 : TheJoinedJobs) → k < length xs → x ≡ get_or xs k d → SetUp cores x j j2
    → AreBound (take k xs) [] j → AreBound (take (k + 1) xs) [] j2
set_up_turn cores xs k x d j j2 below is s b =
    let next : suc k ≡ k + 1 = omega arith in
    let more : take (k + 1) xs ≡ take k xs ++ x ∷ [] =
    ap (λ (n : ℕ). take n xs) (sym next) ∙ take-suc xs k d below ∙ ap (λ (y : Binding). take k xs ++ y ∷ []) (sym is) in
    let bound2 : map about j2.bindings ≡ all_about (take (k + 1) xs) [] =
    ap (λ (t : TheJoinedJobs). map about t.bindings) s.rest
    ∙ map-append about j.bindings (bound_of x ∷ [])
    ∙ ap (λ (t : List About). t ++ about_set_up x ∷ []) (b.bound ∙ append-nil (map about_set_up (take k xs)))
    ∙ sym (map-append about_set_up (take k xs) (x ∷ []))
    ∙ ap (λ (l : List Binding). map about_set_up l) (sym more)
    ∙ sym (append-nil (map about_set_up (take (k + 1) xs))) in
    let count = count_bound (take (k + 1) xs) [] j2 bound2 in
    let before = count_bound (take k xs) [] j b.bound in
    record {
      bound = bound2;
      first = λ n y at.
          first_by (take k xs) x j j2 (ap (λ (t : TheJoinedJobs). t.bindings) s.rest) (omega (arith, before)) b n y
          (subst (λ (l : List Binding). slice_get l n ≡ Some y) more at);
      unopened = λ n y at less. none_opened_by (take k xs) x j j2 (ap (λ (t : TheJoinedJobs). t.bindings) s.rest) b n y at;
      opened = λ n y at past. let there = within j2.bindings n y at in absurd (omega (arith, there, past, count));
    }

pub set_up_none : (xs : List Binding) → AreBound (take 0 xs) [] nothing_joined
set_up_none xs = record { bound = refl; first = λ n x at. absurd (cc); unopened = λ n b at less. absurd (cc); opened = λ n b at past. absurd (cc) }

pub set_up_all : (xs : List Binding) (k : ℕ) (j : TheJoinedJobs) → length xs ≤ k → AreBound (take k xs) [] j → AreBound xs [] j
set_up_all xs k j past b = subst (λ (l : List Binding). AreBound l [] j) (take_all k xs past) b

pub told_bound : (set_up : List Binding) (jobs : List Job) (n : ℕ) (j j2 : TheJoinedJobs) → AreBound set_up jobs j → DuesUpTo n j j2 → AreBound set_up jobs j2
told_bound set_up jobs n j j2 k t = record {
  bound = ap (λ (bs : List BindingCores). map about bs) t.bindings ∙ k.bound;
  first = λ m x at. ap (λ (bs : List BindingCores). slice_get bs m) t.bindings ∙ k.first m x at;
  unopened = λ m b at. k.unopened m b (subst (λ (bs : List BindingCores). slice_get bs m ≡ Some b) t.bindings at);
  opened = λ m b at. k.opened m b (subst (λ (bs : List BindingCores). slice_get bs m ≡ Some b) t.bindings at);
}
