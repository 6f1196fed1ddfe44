-- What is handed in at an end, by its end's work.
use Rattle.std.proofs.Common.{◌≡◌, refl, sym, ap, ◌∙◌, subst, ℕ, suc, ◌+◌, nat_lt, if◌then◌else◌, List, [], ◌∷◌, ◌++◌, length, slice_get}
use Rattle.std.proofs.Common.{Option, Some, None, Bool, true, false, arith}
use Rattle.std.specs.List.{flat_map, list_any}
use Rattle.std.specs.Option.{option_map}
use Rattle.std.proofs.lemmas.List.{append-nil}
use Rattle.std.proofs.lemmas.List.Concat.{flat_map-cons}
use Rattle.std.proofs.lemmas.Bool.{ltb-false}
use Rattle.fl_base.specs.declared.identity.EndId.{EndId}
use Rattle.fl_base.specs.declared.identity.MsgNo.{MsgNo}
use Rattle.fl_base.specs.Ends.{peer}
use Rattle.fl_base.specs.Given.{given}
use Rattle.fl_value_data.specs.Value.{TheCall, call_of}
use Rattle.fl_model.specs.Runs.{same_end}
use Rattle.fl_endpoint.specs.View.{is_rule, has_rules as end_has_rules, rule_at as rule_of_end}
use Rattle.fl_endpoint.specs.Accounts.{followed, replies_by}
use Rattle.fl_core.specs.declared.core_job.CoreJob.{CoreJob}
use Rattle.fl_core.specs.declared.core_job.CoreJob.TheVariants as core
use Rattle.fl_core.specs.Jobs.{calls_of_job, calls_of_jobs}
use Rattle.fl_cores_file.specs.Jobs.{Job, own_calls, reply_to, handed_in}
use Rattle.fl_cores_jobs.specs.EndWork.{TheEndWork, end_of, places_of, calls_at, core_calls, rule_at, reply_by, is_ruled, IsAsked, IsEndWork}
use Rattle.fl_cores_laws.specs.Ends.{AreItsRules}

-- ---- the calls of an end's jobs

its_call : (e : EndId) (j : CoreJob) → same_end e (end_of j) ≡ true → calls_of_job (Some j) ≡ calls_at e j
its_call e (core.Open request) same = refl
its_call e (core.Reply f msg reply) same = refl
its_call e (core.Call f call) same = ap (λ (b : Bool). if b then call_of call ∷ [] else []) (sym same)

no_call : (e : EndId) (j : CoreJob) → same_end e (end_of j) ≡ false → calls_at e j ≡ []
no_call e (core.Open request) same = refl
no_call e (core.Reply f msg reply) same = refl
no_call e (core.Call f call) same = ap (λ (b : Bool). if b then call_of call ∷ [] else []) same

one_place : (e : EndId) (all : List CoreJob) (j : CoreJob) (n : ℕ) (ns : List ℕ) (behind : List TheCall) (b : Bool) → same_end e (end_of j) ≡ b
    → slice_get all n ≡ Some j → calls_of_jobs all ns ≡ behind → calls_of_jobs all (if b then n ∷ ns else ns) ≡ calls_at e j ++ behind
one_place e all j n ns behind true same at rest =
    ap (λ (o : Option CoreJob). calls_of_job o ++ calls_of_jobs all ns) at
    ∙ ap (λ (t : List TheCall). t ++ calls_of_jobs all ns) (its_call e j same)
    ∙ ap (λ (t : List TheCall). calls_at e j ++ t) rest
one_place e all j n ns behind false same at rest = rest ∙ ap (λ (t : List TheCall). t ++ behind) (sym (no_call e j same))

from_place : (e : EndId) (all jobs : List CoreJob) (n : ℕ) → ((k : ℕ) (x : CoreJob) → slice_get jobs k ≡ Some x → slice_get all (n + k) ≡ Some x)
    → calls_of_jobs all (places_of e n jobs) ≡ core_calls jobs e
from_place e all [] n at = refl
from_place e all (j ∷ jobs) n at =
    let first : slice_get all n ≡ Some j =
    let same : n + 0 ≡ n = omega arith in subst (λ (i : ℕ). slice_get all i ≡ Some j) same (at 0 j refl) in
    let behind = from_place e all jobs (suc n) (λ k x h.
    let same : n + suc k ≡ suc n + k = omega arith in subst (λ (i : ℕ). slice_get all i ≡ Some x) same (at (suc k) x h)) in
    one_place e all j n (places_of e (suc n) jobs) (core_calls jobs e) (same_end e (end_of j)) refl first behind
    ∙ sym (flat_map-cons (calls_at e) j jobs)

at_same : (jobs : List CoreJob) (k : ℕ) (x : CoreJob) → slice_get jobs k ≡ Some x → slice_get jobs (0 + k) ≡ Some x
at_same jobs k x h = let same : k ≡ 0 + k = omega arith in subst (λ (i : ℕ). slice_get jobs i ≡ Some x) same h

pub calls_there : (asked : List Job) (jobs : List CoreJob) (e : EndId) (d : TheEndWork) → IsEndWork asked jobs e d → calls_of_jobs jobs d.jobs ≡ own_calls asked e
calls_there asked jobs e d k = ap (calls_of_jobs jobs) k.places ∙ from_place e jobs jobs 0 (at_same jobs) ∙ k.calls

-- ---- rules

same_flat : {X Y : Type 0} (f g : X → List Y) (xs : List X) → ((x : X) → f x ≡ g x) → flat_map f xs ≡ flat_map g xs
same_flat f g [] same = refl
same_flat f g (x ∷ xs) same =
    flat_map-cons f x xs
    ∙ ap (λ t. t ++ flat_map f xs) (same x)
    ∙ ap (λ t. g x ++ t) (same_flat f g xs same)
    ∙ sym (flat_map-cons g x xs)

by_same_rule : (asked : List Job) (e : EndId) (d : TheEndWork) → IsAsked asked e d → (c : TheCall) → reply_by d.rules c ≡ reply_to asked e c
by_same_rule asked e d a c =
    ap (λ (o : Option ℕ). given o [] (λ answer. let x : TheCall = record { msg = answer; args = c.args } in x ∷ [])) (a.rules c.msg)

-- what is handed in for an end with rules, and for one without
pub handed_ruled : (asked : List Job) (jobs : List CoreJob) (e : EndId) (d : TheEndWork) → IsEndWork asked jobs e d → is_ruled d ≡ true
    → flat_map (reply_by d.rules) (own_calls asked (peer e)) ≡ handed_in asked e
handed_ruled asked jobs e d k ruled =
    same_flat (reply_by d.rules) (reply_to asked e) (own_calls asked (peer e)) (by_same_rule asked e d k.asked)
    ∙ ap (λ (b : Bool). if b then flat_map (reply_to asked e) (own_calls asked (peer e)) else own_calls asked e) (sym ruled ∙ k.asked.ruled)

pub handed_unruled : (asked : List Job) (jobs : List CoreJob) (e : EndId) (d : TheEndWork) → IsEndWork asked jobs e d → is_ruled d ≡ false
    → own_calls asked e ≡ handed_in asked e
handed_unruled asked jobs e d k ruled =
    ap (λ (b : Bool). if b then flat_map (reply_to asked e) (own_calls asked (peer e)) else own_calls asked e) (sym ruled ∙ k.asked.ruled)

-- replies by rules that are an end's work's are its replies
one_reply : (o : Option ℕ) (c : TheCall) (more : List TheCall)
    → followed (option_map (λ (reply : ℕ). let r : TheCall = record { msg = reply; args = c.args } in r) o) more
    ≡ given o [] (λ answer. let x : TheCall = record { msg = answer; args = c.args } in x ∷ []) ++ more
one_reply None c more = refl
one_reply (Some reply) c more = refl

pub replies_are : (rules : List (Option ℕ)) (d : TheEndWork) (calls : List TheCall) → AreItsRules rules d → replies_by rules calls ≡ flat_map (reply_by d.rules) calls
replies_are rules d [] same = refl
replies_are rules d (c ∷ calls) same =
    ap (λ (o : Option ℕ). followed (option_map (λ (reply : ℕ). let r : TheCall = record { msg = reply; args = c.args } in r) o) (replies_by rules calls)) (same c.msg)
    ∙ one_reply (rule_at d.rules c.msg) c (replies_by rules calls)
    ∙ ap (λ (t : List TheCall). reply_by d.rules c ++ t) (replies_are rules d calls same)
    ∙ sym (flat_map-cons (reply_by d.rules) c calls)

-- ---- an end has no rules where its end's work has none

no_end_work_rule : (rules : List (Option MsgNo)) (msg : ℕ) → nat_lt 0 (length rules) ≡ false → rule_at rules msg ≡ None
no_end_work_rule [] msg none = refl
no_end_work_rule (rule ∷ rules) msg none = let long = ltb-false 0 (length (rule ∷ rules)) none in absurd (omega (arith, long))

none_by : (rules : List (Option ℕ)) → ((msg : ℕ) → rule_of_end rules msg ≡ None) → list_any is_rule rules ≡ false
none_by [] none = refl
none_by (None ∷ rules) none = none_by rules (λ msg. none (suc msg))
none_by (Some reply ∷ rules) none = let clash : Some reply ≡ None = none 0 in absurd (cc)

pub has_none : (rules : List (Option ℕ)) (d : TheEndWork) → AreItsRules rules d → is_ruled d ≡ false → end_has_rules rules ≡ false
has_none rules d same none = none_by rules (λ msg. same msg ∙ no_end_work_rule d.rules msg none)

-- what is told as made: of an end without rules, and of one with rules
no_reply : (rules : List (Option MsgNo)) (calls : List TheCall) → nat_lt 0 (length rules) ≡ false → flat_map (reply_by rules) calls ≡ []
no_reply rules [] none = refl
no_reply rules (c ∷ calls) none =
    flat_map-cons (reply_by rules) c calls
    ∙ ap (λ (o : Option ℕ). given o [] (λ answer. let x : TheCall = record { msg = answer; args = c.args } in x ∷ []) ++ flat_map (reply_by rules) calls) (no_end_work_rule rules c.msg none)
    ∙ no_reply rules calls none

pub made_unruled : (d : TheEndWork) (done handled : List TheCall) → is_ruled d ≡ false → done ++ flat_map (reply_by d.rules) handled ≡ done
made_unruled d done handled none = ap (λ (t : List TheCall). done ++ t) (no_reply d.rules handled none) ∙ append-nil done
