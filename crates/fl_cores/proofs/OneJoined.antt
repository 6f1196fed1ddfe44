-- The jobs of one core, where none opens a binding: each is a call, and what is handed in at ends is what the file says.
use Rattle.std.proofs.Common.{◌≡◌, refl, sym, ◌∙◌, ap, subst, ℕ, zero, suc, ◌+◌, ◌<◌, ◌≤◌, ◌==◌, Bool, true, false, if◌then◌else◌, List, [], ◌∷◌, ◌++◌}
use Rattle.std.proofs.Common.{length, length-append, map, take, slice_get, Option, Some, None, arith}
use Rattle.std.specs.List.{flat_map, range_with_len}
use Rattle.std.proofs.lemmas.List.{length-map}
use Rattle.fl_base.specs.declared.identity.EndId.{EndId}
use Rattle.fl_base.specs.declared.identity.Side.{Side}
use Rattle.fl_base.specs.declared.identity.Side.TheVariants.{Client, Server}
use Rattle.fl_base.specs.Given.{given}
use Rattle.fl_value_data.specs.Value.{TheCall, call_of}
use Rattle.fl_hop.proofs.Lists.{at_within, within}
use Rattle.fl_core.specs.View.{client_of, server_of}
use Rattle.fl_model.specs.Runs.{same_end}
use Rattle.fl_core.specs.declared.core_job.CoreJob.{CoreJob}
use Rattle.fl_core.specs.declared.core_job.CoreJob.TheVariants as core
use Rattle.fl_core.specs.declared.core_job.OpenRequest.{OpenRequest}
use Rattle.fl_core.specs.Jobs.{is_rule, HasNoRule, calls_of_job, calls_of_jobs}
use Rattle.fl_world_refines.specs.declared.binding.Binding.{Binding}
use Rattle.fl_cores_file.specs.Jobs.{Job, TheCircuitRequest, own_calls, reply_to}
use Rattle.fl_cores_jobs.specs.declared.end_work.BindingCores.{BindingCores}
use Rattle.fl_cores_jobs.specs.EndWork.{TheEndWork, end_work_at, end_of, places_of, calls_at, core_calls, reply_by, IsAsked, IsEndWork}
use Rattle.fl_cores_jobs.specs.Joined.{core_of, core_at}
use Rattle.fl_cores_jobs.specs.State.{TheJoinedJobs, AreJoined}
use Rattle.fl_cores_jobs.specs.Whole.{About, about, request_in, bound_of, AreBound, AreDue}
use Rattle.fl_cores_parts.specs.Begins.{ends_from, progress_by, progress_for, two_progresses, progresses_of}
use Rattle.fl_core_refines.specs.AloneCalls.{CallProgress, AreCalls, post_of}
use Rattle.fl_core_refines.specs.AloneShown.{progress_of}
use Rattle.fl_cores.specs.OneCore.{both_ends, post_for}

-- ---- each job is a call

abbrev StandAt : List CoreJob → ℕ → List CoreJob → Type 0
StandAt all n jobs = (k : ℕ) (x : CoreJob) → slice_get jobs k ≡ Some x → slice_get all (n + k) ≡ Some x

first_at : (all : List CoreJob) (n : ℕ) (j : CoreJob) (jobs : List CoreJob) → StandAt all n (j ∷ jobs) → slice_get all n ≡ Some j
first_at all n j jobs at = let same : n + 0 ≡ n = omega arith in subst (λ i. slice_get all i ≡ Some j) same (at 0 j refl)

behind_at : (all : List CoreJob) (n : ℕ) (j : CoreJob) (jobs : List CoreJob) → StandAt all n (j ∷ jobs) → StandAt all (suc n) jobs
behind_at all n j jobs at k x q = let same : n + suc k ≡ suc n + k = omega arith in subst (λ i. slice_get all i ≡ Some x) same (at (suc k) x q)

at_start : (jobs : List CoreJob) → StandAt jobs 0 jobs
at_start jobs k x q = let same : k ≡ 0 + k = omega arith in subst (λ i. slice_get jobs i ≡ Some x) same q

abbrev OpensNone : List CoreJob → Type 0
OpensNone all = (n : ℕ) (w : OpenRequest) → slice_get all n ≡ Some (core.Open w) → ⊥

one_call : (all : List CoreJob) (n : ℕ) (ns : List ℕ) (j : CoreJob) (b : Bool) → OpensNone all → slice_get all n ≡ Some j
    → (HasNoRule all ns → AreCalls all ns) → HasNoRule all (if b then n ∷ ns else ns) → AreCalls all (if b then n ∷ ns else ns)
one_call all n ns j false none at rest h = rest h
one_call all n ns (core.Call e c) true none at rest h = ((e, c, at), rest h.1)
one_call all n ns (core.Open w) true none at rest h = absurd (none n w at)
one_call all n ns (core.Reply e msg answer) true none at rest h =
    let rule : true ≡ false = sym (ap is_rule at) ∙ h.0 in
    absurd (cc)

are_calls : (e : EndId) (all jobs : List CoreJob) (n : ℕ) → OpensNone all → StandAt all n jobs → HasNoRule all (places_of e n jobs) → AreCalls all (places_of e n jobs)
are_calls e all [] n none at h = tt
are_calls e all (j ∷ jobs) n none at h =
    one_call all n (places_of e (suc n) jobs) j (same_end e (end_of j)) none (first_at all n j jobs at)
    (are_calls e all jobs (suc n) none (behind_at all n j jobs at)) h

pub take_calls : (jobs : List CoreJob) (places : List ℕ) (n : ℕ) → AreCalls jobs places → take n (calls_of_jobs jobs places) ≡ calls_of_jobs jobs (take n places)
take_calls jobs places zero h = refl
take_calls jobs [] (suc n) h = refl
take_calls jobs (p ∷ places) (suc n) h =
    let (e, c, is) = h.0 in
    ap (λ o. take (suc n) (calls_of_job o ++ calls_of_jobs jobs places)) is
    ∙ ap (λ cs. call_of c ∷ cs) (take_calls jobs places n h.1)
    ∙ sym (ap (λ o. calls_of_job o ++ calls_of_jobs jobs (take n places)) is)

-- the calls of the jobs of an end are those that are asked of it
one_place : (e : EndId) (all : List CoreJob) (n : ℕ) (ns : List ℕ) (j : CoreJob) (b : Bool) → same_end e (end_of j) ≡ b → slice_get all n ≡ Some j
    → calls_of_jobs all (if b then n ∷ ns else ns) ≡ calls_at e j ++ calls_of_jobs all ns
one_place e all n ns (core.Call f c) true q at =
    ap (λ o. calls_of_job o ++ calls_of_jobs all ns) at ∙ sym (ap (λ b. (if b then call_of c ∷ [] else []) ++ calls_of_jobs all ns) q)
one_place e all n ns (core.Call f c) false q at = sym (ap (λ b. (if b then call_of c ∷ [] else []) ++ calls_of_jobs all ns) q)
one_place e all n ns (core.Open w) true q at = ap (λ o. calls_of_job o ++ calls_of_jobs all ns) at
one_place e all n ns (core.Open w) false q at = refl
one_place e all n ns (core.Reply f msg answer) true q at = ap (λ o. calls_of_job o ++ calls_of_jobs all ns) at
one_place e all n ns (core.Reply f msg answer) false q at = refl

from_place : (e : EndId) (all jobs : List CoreJob) (n : ℕ) → StandAt all n jobs → calls_of_jobs all (places_of e n jobs) ≡ core_calls jobs e
from_place e all [] n at = refl
from_place e all (j ∷ jobs) n at =
    one_place e all n (places_of e (suc n) jobs) j (same_end e (end_of j)) refl (first_at all n j jobs at)
    ∙ ap (λ t. calls_at e j ++ t) (from_place e all jobs (suc n) (behind_at all n j jobs at))

calls_there : (asked : List Job) (jobs : List CoreJob) (e : EndId) (d : TheEndWork) → IsEndWork asked jobs e d → calls_of_jobs jobs d.jobs ≡ own_calls asked e
calls_there asked jobs e d k = ap (calls_of_jobs jobs) k.places ∙ from_place e jobs jobs 0 (at_start jobs) ∙ k.calls

same_flat : {X Y : Type 0} (f g : X → List Y) (xs : List X) → ((x : X) → f x ≡ g x) → flat_map f xs ≡ flat_map g xs
same_flat f g [] same = refl
same_flat f g (x ∷ xs) same = ap (λ t. t ++ flat_map f xs) (same x) ∙ ap (λ t. g x ++ t) (same_flat f g xs same)

-- the replies to calls, by the rules of an end's work, are those by the rules of the file
pub same_replies : (asked : List Job) (e : EndId) (d : TheEndWork) (calls : List TheCall) → IsAsked asked e d
    → flat_map (reply_by d.rules) calls ≡ flat_map (reply_to asked e) calls
same_replies asked e d calls a =
    same_flat (reply_by d.rules) (reply_to asked e) calls
    (λ c. ap (λ (o : Option ℕ). given o [] (λ answer. let x : TheCall = record { msg = answer; args = c.args } in x ∷ [])) (a.rules c.msg))

-- ---- one core

below_one : (n : ℕ) → n < 1 → n ≡ 0
below_one n h = omega (arith, h)

one_range : {A B : Type 0} (f : A → B) (two : ℕ → List A) (other : ℕ → List B) (a n many : ℕ) → a + n ≤ many
    → ((m : ℕ) → m < many → map f (two m) ≡ other m) → map f (flat_map two (range_with_len a n)) ≡ flat_map other (range_with_len a n)
one_range f two other a zero many h same = refl
one_range f two other a (suc n) many h same =
    over (two a) (flat_map two (range_with_len (a + 1) n))
    ∙ ap (λ t. t ++ map f (flat_map two (range_with_len (a + 1) n))) (same a (omega (arith, h)))
    ∙ ap (λ t. other a ++ t) (one_range f two other (a + 1) n many (omega (arith, h)) same)
  where
    over : (xs ys : List _) → map f (xs ++ ys) ≡ map f xs ++ map f ys
    over [] ys = refl
    over (x ∷ xs) ys = ap (λ t. f x ∷ t) (over xs ys)

module _ (set_up : List Binding) (jobs : List Job) (j : TheJoinedJobs) (joined : AreJoined 1 jobs j) (bound : AreBound set_up jobs j) (due : AreDue jobs j)
    (no_request : flat_map request_in jobs ≡ []) where
  pub many : length j.bindings ≡ length set_up
  many =
      sym (length-map j.bindings about) ∙ ap (λ xs. length xs) bound.bound
      ∙ ap (λ (ws : List TheCircuitRequest). length (map (λ (x : Binding). about (bound_of x)) set_up
      ++ map (λ (w : TheCircuitRequest). let a : About = record { interface = w.interface; client = w.client.core } in a) ws)) no_request
      ∙ length-append (map (λ (x : Binding). about (bound_of x)) set_up) []
      ∙ (let long : length (map (λ (x : Binding). about (bound_of x)) set_up) ≡ length set_up = length-map set_up (λ (x : Binding). about (bound_of x)) in
      omega (arith, long))

  pub unopened : (n : ℕ) (b : BindingCores) → slice_get j.bindings n ≡ Some b → b.opened ≡ None
  unopened n b at = let here = within j.bindings n b at in let long = many in bound.unopened n b at (omega (arith, here, long))

  opens_none : OpensNone j.jobs
  opens_none n w at =
      let there = joined.there n (core.Open w) at in
      let b = at_within j.bindings w.opening.binding there in
      joined.set_up w.opening.binding b.0 b.1 (unopened w.opening.binding b.0 b.1) n w at refl

  -- ---- where ends are

  pub own : (e : EndId) → e.binding < length j.bindings → core_at j.bindings e ≡ Some 0
  own e below =
      let b = at_within j.bindings e.binding below in
      ap (λ (o : Option BindingCores). given o None λ x. Some (core_of e.side x)) b.1 ∙ ap (λ n. Some n) (by e.side b.0 b.1)
    where
      by : (s : Side) (b : BindingCores) → slice_get j.bindings e.binding ≡ Some b → core_of s b ≡ 0
      by Client b at = below_one b.client (joined.bindings.client e.binding b at)
      by Server b at = below_one b.server (joined.bindings.server e.binding b at)

  pub progress_is : (e : EndId) → e.binding < length j.bindings → progress_for 0 j e ≡ progress_by true (end_work_at j.end_works e)
  progress_is e below = ap (λ (o : Option ℕ). progress_by (given o false λ c. c == 0) (end_work_at j.end_works e)) (own e below)

  ends_are : (n : ℕ) (bs : List BindingCores) → ((m : ℕ) (b : BindingCores) → slice_get bs m ≡ Some b → (b.client ≡ 0) × (b.server ≡ 0))
      → ends_from 0 n bs ≡ flat_map both_ends (range_with_len n (length bs))
  ends_are n [] at = refl
  ends_are n (b ∷ bs) at =
      let here = at 0 b refl in
      let next : suc n ≡ n + 1 = omega arith in
      ap (λ c. ((if c == 0 then client_of n ∷ [] else []) ++ (if b.server == 0 then server_of n ∷ [] else [])) ++ ends_from 0 (suc n) bs) here.0
      ∙ ap (λ c. ((if 0 == 0 then client_of n ∷ [] else []) ++ (if c == 0 then server_of n ∷ [] else [])) ++ ends_from 0 (suc n) bs) here.1
      ∙ ap (λ es. both_ends n ++ es) (ends_are (suc n) bs (λ m x q. at (suc m) x q) ∙ ap (λ k. flat_map both_ends (range_with_len k (length bs))) next)

  pub all_ends : ends_from 0 0 j.bindings ≡ flat_map both_ends (range_with_len 0 (length j.bindings))
  all_ends = ends_are 0 j.bindings (λ n b at. (below_one b.client (joined.bindings.client n b at), below_one b.server (joined.bindings.server n b at)))

  -- ---- their jobs

  pub end_work_calls : (e : EndId) → e.binding < length j.bindings → AreCalls j.jobs (end_work_at j.end_works e).jobs
  end_work_calls e below =
      let b = at_within j.bindings e.binding below in
      let places = (joined.each e).places in
      let no_rule = joined.at_once e b.0 b.1 (unopened e.binding b.0 b.1) in
      subst (AreCalls j.jobs) (sym places)
      (are_calls e j.jobs j.jobs 0 opens_none (at_start j.jobs) (subst (HasNoRule j.jobs) places no_rule))

  pub post_is : (e : EndId) → e.binding < length j.bindings → post_of j.jobs (progress_of (progress_for 0 j e)) ≡ post_for jobs e
  post_is e below =
      ap (λ d. post_of j.jobs (progress_of d)) (progress_is e below)
      ∙ ap (λ cs. let p : CallProgress = record { calls = cs; made = 0; due = (end_work_at j.end_works e).due; handled = [] } in p)
      (calls_there jobs j.jobs e (end_work_at j.end_works e) (joined.each e))
      ∙ ap (λ n. let p : CallProgress = record { calls = own_calls jobs e; made = 0; due = n; handled = [] } in p) (due.due e below)

  pub posts_are : map (post_of j.jobs) (map progress_of (progresses_of 0 j)) ≡ map (post_for jobs) (flat_map both_ends (range_with_len 0 (length j.bindings)))
  posts_are =
      ap (map (post_of j.jobs)) (one_range progress_of (two_progresses 0 j) (λ n. progress_of (progress_for 0 j (client_of n)) ∷ progress_of (progress_for 0 j (server_of n)) ∷ []) 0
      (length j.bindings) (length j.bindings) (omega arith) (λ m h. refl))
      ∙ one_range (post_of j.jobs) (λ n. progress_of (progress_for 0 j (client_of n)) ∷ progress_of (progress_for 0 j (server_of n)) ∷ [])
      (λ n. post_for jobs (client_of n) ∷ post_for jobs (server_of n) ∷ []) 0 (length j.bindings) (length j.bindings) (omega arith)
      (λ m h. ap (λ p. p ∷ post_of j.jobs (progress_of (progress_for 0 j (server_of m))) ∷ []) (post_is (client_of m) h)
      ∙ ap (λ p. post_for jobs (client_of m) ∷ p ∷ []) (post_is (server_of m) h))
      ∙ sym (one_range (post_for jobs) both_ends (λ n. post_for jobs (client_of n) ∷ post_for jobs (server_of n) ∷ []) 0 (length j.bindings)
      (length j.bindings) (omega arith) (λ m h. refl))
