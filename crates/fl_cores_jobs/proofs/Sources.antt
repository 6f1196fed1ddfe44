-- Which jobs set reply rules: those that are asked for, at ends that are opened.
use Rattle.std.proofs.Common.{◌≡◌, refl, sym, ap, ◌∙◌, subst, ℕ, suc, ◌<◌, ◌≤◌, ◌+◌, ◌==◌, ◌&&◌, ◌||◌, if◌then◌else◌, List, [], ◌∷◌, ◌++◌, length, slice_get}
use Rattle.std.proofs.Common.{Option, Some, None, Bool, true, false, arith}
use Rattle.std.proofs.lemmas.Bool.{or_parts, or_from, ltb-true, ltb-false}
use Rattle.std.proofs.lemmas.List.Concat.{flat_map-cons}
use Rattle.fl_base.specs.declared.identity.EndId.{EndId}
use Rattle.fl_base.specs.Given.{given}
use Rattle.fl_value_data.specs.Value.{TheCall, call_of}
use Rattle.fl_model.specs.Runs.{same_end}
use Rattle.fl_core.specs.declared.core_job.CoreJob.{CoreJob}
use Rattle.fl_core.specs.declared.core_job.CoreJob.TheVariants as core
use Rattle.fl_core.specs.Jobs.{is_before_calls}
use Rattle.fl_core.specs.Jobs.{is_rule, HasNoRule, RulesLead}
use Rattle.fl_core.specs.View.{TheCore}
use Rattle.fl_world_refines.specs.declared.binding.Binding.{Binding}
use Rattle.fl_cores_file.specs.Jobs.{Job, opens, replies, calls, rule_in, rule_for, is_rule_at, has_rules}
use Rattle.fl_cores_jobs.specs.EndWork.{end_of, places_of, calls_at, core_calls, rule_behind, rule_by}
use Rattle.fl_cores_jobs.specs.Kept.{core_rule_in, core_rule, is_core_rule, has_core_rules, RulesFrom}
use Rattle.fl_cores_jobs.specs.State.{TheJoinedJobs, with_job}
use Rattle.fl_cores_jobs.specs.Whole.{is_set_up, so_far, Ruled, Joins}
use Rattle.fl_cores_jobs.proofs.Ends.{one_end}
use Rattle.fl_cores_jobs.proofs.Growing.{or_false, has_more, rule_more}

-- ---- jobs at their places among all

abbrev pub StandAt : List CoreJob → ℕ → List CoreJob → Type 0
StandAt all n jobs = (k : ℕ) (x : CoreJob) → slice_get jobs k ≡ Some x → slice_get all (n + k) ≡ Some x

first_at : (all : List CoreJob) (n : ℕ) (j : CoreJob) (jobs : List CoreJob) → StandAt all n (j ∷ jobs) → slice_get all n ≡ Some j
first_at all n j jobs at = let same : n + 0 ≡ n = omega arith in subst (λ (i : ℕ). slice_get all i ≡ Some j) same (at 0 j refl)

rest_at : (all : List CoreJob) (n : ℕ) (j : CoreJob) (jobs : List CoreJob) → StandAt all n (j ∷ jobs) → StandAt all (suc n) jobs
rest_at all n j jobs at = λ k x is.
    let same : n + suc k ≡ suc n + k = omega arith in subst (λ (i : ℕ). slice_get all i ≡ Some x) same (at (suc k) x is)

pub all_at : (jobs : List CoreJob) → StandAt jobs 0 jobs
all_at jobs = λ k x is. let same : k ≡ 0 + k = omega arith in subst (λ (i : ℕ). slice_get jobs i ≡ Some x) same is

-- ---- none of them sets a rule

no_rule_at : (e : EndId) (j : CoreJob) → same_end e (end_of j) ≡ true → is_core_rule e j ≡ false → is_rule (Some j) ≡ false
no_rule_at e (core.Open request) same none = refl
no_rule_at e (core.Reply f msg reply) same none = absurd (cc (same, none))
no_rule_at e (core.Call f call) same none = refl

one_no_rule : (e : EndId) (all : List CoreJob) (j : CoreJob) (n : ℕ) (ns : List ℕ) (b : Bool) → same_end e (end_of j) ≡ b → slice_get all n ≡ Some j
    → is_core_rule e j ≡ false → HasNoRule all ns → HasNoRule all (if b then n ∷ ns else ns)
one_no_rule e all j n ns true same at none rest = (ap (λ (o : Option CoreJob). is_rule o) at ∙ no_rule_at e j same none, rest)
one_no_rule e all j n ns false same at none rest = rest

pub none_from : (e : EndId) (all jobs : List CoreJob) (n : ℕ) → StandAt all n jobs → has_core_rules jobs e ≡ false → HasNoRule all (places_of e n jobs)
none_from e all [] n at none = tt
none_from e all (j ∷ jobs) n at none =
    let parts = or_parts (is_core_rule e j) (has_core_rules jobs e) none in
    one_no_rule e all j n (places_of e (suc n) jobs) (same_end e (end_of j)) refl (first_at all n j jobs at) parts.0
    (none_from e all jobs (suc n) (rest_at all n j jobs at) parts.1)

-- ---- none of them makes a call

pub lead_none : (all : List CoreJob) (ns : List ℕ) → HasNoRule all ns → RulesLead all ns
lead_none all [] none = tt
lead_none all (n ∷ ns) (none, rest) = (λ call. rest, lead_none all ns rest)

left_empty : (xs ys : List TheCall) → xs ++ ys ≡ [] → xs ≡ []
left_empty [] ys none = refl
left_empty (x ∷ xs) ys none = absurd (cc)

right_empty : (xs ys : List TheCall) → xs ++ ys ≡ [] → ys ≡ []
right_empty [] ys none = none
right_empty (x ∷ xs) ys none = absurd (cc)

before_at : (e : EndId) (j : CoreJob) → same_end e (end_of j) ≡ true → calls_at e j ≡ [] → is_before_calls (Some j) ≡ true
before_at e (core.Open request) same none = refl
before_at e (core.Reply f msg reply) same none = refl
before_at e (core.Call f call) same none =
    let some : (if same_end e f then call_of call ∷ [] else []) ≡ call_of call ∷ [] = ap (λ (b : Bool). if b then call_of call ∷ [] else []) same in
    let both : call_of call ∷ [] ≡ [] = sym some ∙ none in
    absurd (cc)

one_lead : (e : EndId) (all : List CoreJob) (j : CoreJob) (n : ℕ) (ns : List ℕ) (b : Bool) → same_end e (end_of j) ≡ b → slice_get all n ≡ Some j
    → calls_at e j ≡ [] → RulesLead all ns → RulesLead all (if b then n ∷ ns else ns)
one_lead e all j n ns true same at none rest =
    let before = ap (λ (o : Option CoreJob). is_before_calls o) at ∙ before_at e j same none in (λ call. absurd (cc (before, call)), rest)
one_lead e all j n ns false same at none rest = rest

pub lead_from : (e : EndId) (all jobs : List CoreJob) (n : ℕ) → StandAt all n jobs → core_calls jobs e ≡ [] → RulesLead all (places_of e n jobs)
lead_from e all [] n at none = tt
lead_from e all (j ∷ jobs) n at none =
    let parts = sym (flat_map-cons (calls_at e) j jobs) ∙ none in
    one_lead e all j n (places_of e (suc n) jobs) (same_end e (end_of j)) refl (first_at all n j jobs at)
    (left_empty (calls_at e j) (core_calls jobs e) parts)
    (lead_from e all jobs (suc n) (rest_at all n j jobs at) (right_empty (calls_at e j) (core_calls jobs e) parts))

-- ---- the rules that they set

set_by : (a c : Bool) (rule : Option ℕ) (x : ℕ) → a ≡ true → (if c then Some x else rule) ≡ given (if a && c then Some x else None) rule (λ later. Some later)
set_by true true rule x h = refl
set_by true false rule x h = refl
set_by false c rule x h = absurd (cc)

behind_at : (e : EndId) (msg : ℕ) (rule : Option ℕ) (j : CoreJob) → same_end e (end_of j) ≡ true
    → rule_behind msg rule (Some j) ≡ given (core_rule_in e msg j) rule (λ later. Some later)
behind_at e msg rule (core.Open request) same = refl
behind_at e msg rule (core.Reply f m reply) same = set_by (same_end e f) (m.0 == msg) rule reply.0 same
behind_at e msg rule (core.Call f call) same = refl

apart_at : (e : EndId) (msg : ℕ) (j : CoreJob) → same_end e (end_of j) ≡ false → core_rule_in e msg j ≡ None
apart_at e msg (core.Open request) apart = refl
apart_at e msg (core.Reply f m reply) apart = ap (λ (b : Bool). if b && (m.0 == msg) then Some reply.0 else None) apart
apart_at e msg (core.Call f call) apart = refl

one_by : (e : EndId) (msg : ℕ) (all jobs : List CoreJob) (j : CoreJob) (n : ℕ) (ns : List ℕ) (rule : Option ℕ) (b : Bool) → same_end e (end_of j) ≡ b
    → slice_get all n ≡ Some j → ((r : Option ℕ) → rule_by all msg r ns ≡ core_rule e msg r jobs)
    → rule_by all msg rule (if b then n ∷ ns else ns) ≡ core_rule e msg (given (core_rule_in e msg j) rule (λ later. Some later)) jobs
one_by e msg all jobs j n ns rule true same at rest =
    ap (λ (o : Option CoreJob). rule_by all msg (rule_behind msg rule o) ns) at
    ∙ ap (λ (r : Option ℕ). rule_by all msg r ns) (behind_at e msg rule j same)
    ∙ rest (given (core_rule_in e msg j) rule (λ later. Some later))
one_by e msg all jobs j n ns rule false same at rest =
    rest rule
    ∙ ap (λ (r : Option ℕ). core_rule e msg r jobs) (sym (ap (λ (o : Option ℕ). given o rule (λ later. Some later)) (apart_at e msg j same)))

pub by_from : (e : EndId) (msg : ℕ) (all jobs : List CoreJob) (n : ℕ) (rule : Option ℕ) → StandAt all n jobs
    → rule_by all msg rule (places_of e n jobs) ≡ core_rule e msg rule jobs
by_from e msg all [] n rule at = refl
by_from e msg all (j ∷ jobs) n rule at =
    one_by e msg all jobs j n (places_of e (suc n) jobs) rule (same_end e (end_of j)) refl (first_at all n j jobs at)
    (λ r. by_from e msg all jobs (suc n) r (rest_at all n j jobs at))

-- ---- one job more

or_one : (b x y q : Bool) → x ≡ (y || q) → (b || x) ≡ ((b || y) || q)
or_one true x y q h = refl
or_one false x y q h = h

core_has_more : (jobs : List CoreJob) (j : CoreJob) (e : EndId) → has_core_rules (jobs ++ j ∷ []) e ≡ (has_core_rules jobs e || is_core_rule e j)
core_has_more [] j e = or_false (is_core_rule e j)
core_has_more (x ∷ jobs) j e = or_one (is_core_rule e x) (has_core_rules (jobs ++ j ∷ []) e) (has_core_rules jobs e) (is_core_rule e j) (core_has_more jobs j e)

core_more : (jobs : List CoreJob) (j : CoreJob) (e : EndId) (msg : ℕ) (rule : Option ℕ)
    → core_rule e msg rule (jobs ++ j ∷ []) ≡ given (core_rule_in e msg j) (core_rule e msg rule jobs) (λ later. Some later)
core_more [] j e msg rule = refl
core_more (x ∷ jobs) j e msg rule = core_more jobs j e msg (given (core_rule_in e msg x) rule (λ later. Some later))

module _ (first : ℕ) (asked : List Job) (jobs : List CoreJob) (e : EndId) (k : RulesFrom first asked jobs e) where
  -- what is asked for is what a core does
  pub both_more : (j : CoreJob) (one : Job) → is_core_rule e j ≡ is_rule_at e one → ((msg : ℕ) → core_rule_in e msg j ≡ rule_in e msg one)
      → (e.binding < first → is_core_rule e j ≡ false) → RulesFrom first (asked ++ one ∷ []) (jobs ++ j ∷ []) e
  both_more j one is same quiet = record {
    none = λ h. core_has_more jobs j e ∙ or_from (has_core_rules jobs e) (is_core_rule e j) (k.none h) (quiet h);
    some = λ h.
        core_has_more jobs j e ∙ ap (λ (b : Bool). b || is_core_rule e j) (k.some h) ∙ ap (λ (b : Bool). has_rules asked e || b) is
        ∙ sym (has_more asked one e);
    same = λ h msg.
        core_more jobs j e msg None
        ∙ ap (λ (o : Option ℕ). given (core_rule_in e msg j) o (λ later. Some later)) (k.same h msg)
        ∙ ap (λ (o : Option ℕ). given o (rule_for asked e msg) (λ later. Some later)) (same msg)
        ∙ sym (rule_more asked one e msg);
  }

  -- what is asked for is done at once
  pub asked_more : (one : Job) → (first ≤ e.binding → is_rule_at e one ≡ false) → (first ≤ e.binding → (msg : ℕ) → rule_in e msg one ≡ None)
      → RulesFrom first (asked ++ one ∷ []) jobs e
  asked_more one is same = record {
    none = k.none;
    some = λ h. k.some h ∙ sym (has_more asked one e ∙ ap (λ (b : Bool). has_rules asked e || b) (is h) ∙ or_false (has_rules asked e));
    same = λ h msg. k.same h msg ∙ sym (rule_more asked one e msg ∙ ap (λ (o : Option ℕ). given o (rule_for asked e msg) (λ later. Some later)) (same h msg));
  }

-- ---- whatever the job

apart_by : (e f : EndId) (b : Bool) → same_end e f ≡ b → (e.binding ≡ f.binding → ⊥) → b ≡ false
apart_by e f false same differ = refl
apart_by e f true same differ = absurd (differ (ap (λ (x : EndId). x.binding) (one_end e f same)))

differ_over : (e f : EndId) (n : ℕ) → e.binding < n → n ≤ f.binding → same_end e f ≡ false
differ_over e f n below past = apart_by e f (same_end e f) refl (λ same. absurd (omega (arith, below, past, same)))

differ_under : (e f : EndId) (n : ℕ) → n ≤ e.binding → f.binding < n → same_end e f ≡ false
differ_under e f n past below = apart_by e f (same_end e f) refl (λ same. absurd (omega (arith, below, past, same)))

module _ (set_up : List Binding) (asked : List Job) (f : EndId) (msg answer : ℕ) (j : TheJoinedJobs) (ks : List TheCore) (j2 : TheJoinedJobs) (ks2 : List TheCore)
    (r : Ruled set_up f msg answer (so_far j ks) (so_far j2 ks2)) (k : (e : EndId) → RulesFrom (length set_up) asked j.jobs e) where
  abbrev j1 : TheJoinedJobs
  j1 = record j { end_works = r.planned.end_works }

  jobs_by : (b : Bool) → is_set_up set_up f ≡ b → j2.jobs ≡ (if b then j1 else with_job f (core.Reply f r.message r.reply) j1).jobs
  jobs_by b is = ap (λ (t : TheJoinedJobs). t.jobs) r.planned.rest ∙ ap (λ (c : Bool). (if c then j1 else with_job f (core.Reply f r.message r.reply) j1).jobs) is

  abbrev AllFrom : List CoreJob → Job → Type 0
  AllFrom jobs one = (e : EndId) → RulesFrom (length set_up) (asked ++ one ∷ []) jobs e

  -- at an end that is there
  now : is_set_up set_up f ≡ true → AllFrom j.jobs (replies f r.message.0 r.reply.0)
  now is = λ e. asked_more (length set_up) asked j.jobs e (k e) (replies f r.message.0 r.reply.0)
      (λ past. differ_under e f (length set_up) past (ltb-true f.binding (length set_up) is))
      (λ past m. ap (λ (b : Bool). if b && (r.message.0 == m) then Some r.reply.0 else None) (differ_under e f (length set_up) past (ltb-true f.binding (length set_up) is)))

  -- at another
  by_job : is_set_up set_up f ≡ false → AllFrom (j.jobs ++ core.Reply f r.message r.reply ∷ []) (replies f r.message.0 r.reply.0)
  by_job is = λ e. both_more (length set_up) asked j.jobs e (k e) (core.Reply f r.message r.reply) (replies f r.message.0 r.reply.0) refl (λ m. refl)
      (λ below. differ_over e f (length set_up) below (ltb-false f.binding (length set_up) is))

  either : (b : Bool) → is_set_up set_up f ≡ b → AllFrom j2.jobs (replies f r.message.0 r.reply.0)
  either true is = subst (λ (jobs : List CoreJob). AllFrom jobs (replies f r.message.0 r.reply.0)) (sym (jobs_by true is)) (now is)
  either false is = subst (λ (jobs : List CoreJob). AllFrom jobs (replies f r.message.0 r.reply.0)) (sym (jobs_by false is)) (by_job is)

  pub ruled_sources : AllFrom j2.jobs (replies f msg answer)
  ruled_sources =
      subst (λ (m : ℕ). AllFrom j2.jobs (replies f m answer)) r.message_is
      (subst (λ (a : ℕ). AllFrom j2.jobs (replies f r.message.0 a)) r.reply_is (either (is_set_up set_up f) refl))

pub sources_more : (asked : List Job) (set_up : List Binding) (one : Job) (j : TheJoinedJobs) (ks : List TheCore) (j2 : TheJoinedJobs) (ks2 : List TheCore)
    → Joins set_up one (so_far j ks) (so_far j2 ks2) → ((e : EndId) → RulesFrom (length set_up) asked j.jobs e)
    → (e : EndId) → RulesFrom (length set_up) (asked ++ one ∷ []) j2.jobs e
sources_more asked set_up (opens w) j ks j2 ks2 (o, same) k e =
    subst (λ (jobs : List CoreJob). RulesFrom (length set_up) (asked ++ opens w ∷ []) jobs e) (sym (ap (λ (t : TheJoinedJobs). t.jobs) o.rest))
    (both_more (length set_up) asked j.jobs e (k e) (core.Open o.request) (opens w) refl (λ m. refl) (λ h. refl))
sources_more asked set_up (replies f msg answer) j ks j2 ks2 r k e = ruled_sources set_up asked f msg answer j ks j2 ks2 r k e
sources_more asked set_up (calls f c) j ks j2 ks2 ((call, is, p), same) k e =
    subst (λ (jobs : List CoreJob). RulesFrom (length set_up) (asked ++ calls f c ∷ []) jobs e) (sym (ap (λ (t : TheJoinedJobs). t.jobs) p.rest))
    (both_more (length set_up) asked j.jobs e (k e) (core.Call f call) (calls f c) refl (λ m. refl) (λ h. refl))

pub none_yet : (first : ℕ) (e : EndId) → RulesFrom first [] [] e
none_yet first e = record { none = λ h. refl; some = λ h. refl; same = λ h msg. refl }
