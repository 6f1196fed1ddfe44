-- Of an end just as many calls are due as are handed in for it at its other end.
use Rattle.std.proofs.Common.{◌≡◌, refl, sym, ap, ◌∙◌, subst, ℕ, suc, ◌<◌, ◌+◌, ◌*◌, if◌then◌else◌, List, [], ◌∷◌, ◌++◌, length, slice_get}
use Rattle.std.proofs.Common.{Option, Some, Bool, true, false, arith}
use Rattle.std.specs.List.{flat_map}
use Rattle.std.proofs.lemmas.List.Concat.{flat_map-cons}
use Rattle.fl_base.specs.declared.identity.EndId.{EndId}
use Rattle.fl_base.specs.Ends.{peer}
use Rattle.fl_base.specs.Given.{given}
use Rattle.fl_value_data.specs.Value.{TheCall, call_of}
use Rattle.fl_model.specs.Runs.{same_end}
use Rattle.fl_core.specs.declared.core_job.CoreJob.{CoreJob}
use Rattle.fl_core.specs.declared.core_job.CoreJob.TheVariants as core
use Rattle.fl_core.specs.Jobs.{calls_of_job, calls_of_jobs}
use Rattle.fl_cores_file.specs.Jobs.{Job, own_calls, has_rules, reply_to, handed_in}
use Rattle.fl_cores_jobs.specs.EndWork.{TheEndWork, end_work_at, end_of, places_of, calls_at, core_calls, reply_by, is_ruled, due_in, IsAsked, IsEndWork}
use Rattle.fl_cores_jobs.specs.Joined.{AreBindings}
use Rattle.fl_cores_jobs.specs.State.{TheJoinedJobs, undue, DuesUpTo, ArePlaced}
use Rattle.fl_cores_jobs.specs.Whole.{AreDue}
use Rattle.fl_cores_jobs.proofs.Ends.{slot_within}
use Rattle.fl_cores_jobs.proofs.OneMore.{there_and_back}

-- ---- the calls of an end's jobs

its_call : (e : EndId) (j : CoreJob) → same_end e (end_of j) ≡ true → calls_of_job (Some j) ≡ calls_at e j
its_call e (core.Open request) same = refl
its_call e (core.Reply f msg reply) same = refl
its_call e (core.Call f call) same = ap (λ (b : Bool). if b then call_of call ∷ [] else []) (sym same)

no_call : (e : EndId) (j : CoreJob) → same_end e (end_of j) ≡ false → calls_at e j ≡ []
no_call e (core.Open request) same = refl
no_call e (core.Reply f msg reply) same = refl
no_call e (core.Call f call) same = ap (λ (b : Bool). if b then call_of call ∷ [] else []) same

one_place : (e : EndId) (all : List CoreJob) (j : CoreJob) (n : ℕ) (ns : List ℕ) (behind : List TheCall) (b : Bool) → same_end e (end_of j) ≡ b
    → slice_get all n ≡ Some j → calls_of_jobs all ns ≡ behind → calls_of_jobs all (if b then n ∷ ns else ns) ≡ calls_at e j ++ behind
one_place e all j n ns behind true same at rest =
    ap (λ (o : Option CoreJob). calls_of_job o ++ calls_of_jobs all ns) at
    ∙ ap (λ (t : List TheCall). t ++ calls_of_jobs all ns) (its_call e j same)
    ∙ ap (λ (t : List TheCall). calls_at e j ++ t) rest
one_place e all j n ns behind false same at rest = rest ∙ ap (λ (t : List TheCall). t ++ behind) (sym (no_call e j same))

from_place : (e : EndId) (all jobs : List CoreJob) (n : ℕ) → ((k : ℕ) (x : CoreJob) → slice_get jobs k ≡ Some x → slice_get all (n + k) ≡ Some x)
    → calls_of_jobs all (places_of e n jobs) ≡ core_calls jobs e
from_place e all [] n at = refl
from_place e all (j ∷ jobs) n at =
    let first : slice_get all n ≡ Some j =
    let same : n + 0 ≡ n = omega arith in subst (λ (i : ℕ). slice_get all i ≡ Some j) same (at 0 j refl) in
    let behind = from_place e all jobs (suc n) (λ k x h.
    let same : n + suc k ≡ suc n + k = omega arith in subst (λ (i : ℕ). slice_get all i ≡ Some x) same (at (suc k) x h)) in
    one_place e all j n (places_of e (suc n) jobs) (core_calls jobs e) (same_end e (end_of j)) refl first behind
    ∙ sym (flat_map-cons (calls_at e) j jobs)

at_same : (jobs : List CoreJob) (k : ℕ) (x : CoreJob) → slice_get jobs k ≡ Some x → slice_get jobs (0 + k) ≡ Some x
at_same jobs k x h = let same : k ≡ 0 + k = omega arith in subst (λ (i : ℕ). slice_get jobs i ≡ Some x) same h

pub calls_there : (asked : List Job) (jobs : List CoreJob) (e : EndId) (d : TheEndWork) → IsEndWork asked jobs e d → calls_of_jobs jobs d.jobs ≡ own_calls asked e
calls_there asked jobs e d k = ap (calls_of_jobs jobs) k.places ∙ from_place e jobs jobs 0 (at_same jobs) ∙ k.calls

-- ---- and the replies to them

same_flat : {X Y : Type 0} (f g : X → List Y) (xs : List X) → ((x : X) → f x ≡ g x) → flat_map f xs ≡ flat_map g xs
same_flat f g [] same = refl
same_flat f g (x ∷ xs) same =
    flat_map-cons f x xs
    ∙ ap (λ t. t ++ flat_map f xs) (same x)
    ∙ ap (λ t. g x ++ t) (same_flat f g xs same)
    ∙ sym (flat_map-cons g x xs)

by_same_rule : (asked : List Job) (e : EndId) (d : TheEndWork) → IsAsked asked e d → (c : TheCall) → reply_by d.rules c ≡ reply_to asked e c
by_same_rule asked e d a c =
    ap (λ (o : Option ℕ). given o [] (λ answer. let x : TheCall = record { msg = answer; args = c.args } in x ∷ [])) (a.rules c.msg)

due_by : (asked : List Job) (jobs : List CoreJob) (e : EndId) (d across : TheEndWork) (b c : Bool) → b ≡ c
    → IsEndWork asked jobs e d → IsEndWork asked jobs (peer e) across
    → (if b then length (flat_map (reply_by across.rules) (calls_of_jobs jobs d.jobs)) else length (calls_of_jobs jobs across.jobs))
    ≡ length (if c then flat_map (reply_to asked (peer e)) (own_calls asked (peer (peer e))) else own_calls asked (peer e))
due_by asked jobs e d across true true same k l =
    ap (λ (cs : List TheCall). length (flat_map (reply_by across.rules) cs)) (calls_there asked jobs e d k)
    ∙ ap (λ (cs : List TheCall). length cs) (same_flat (reply_by across.rules) (reply_to asked (peer e)) (own_calls asked e) (by_same_rule asked (peer e) across l.asked))
    ∙ ap (λ (x : EndId). length (flat_map (reply_to asked (peer e)) (own_calls asked x))) (there_and_back e)
due_by asked jobs e d across false false same k l = ap (λ (cs : List TheCall). length cs) (calls_there asked jobs (peer e) across l)
due_by asked jobs e d across true false same k l = absurd (cc)
due_by asked jobs e d across false true same k l = absurd (cc)

pub due_is : (asked : List Job) (jobs : List CoreJob) (e : EndId) (d across : TheEndWork) → IsEndWork asked jobs e d → IsEndWork asked jobs (peer e) across
    → due_in jobs d across ≡ length (handed_in asked (peer e))
due_is asked jobs e d across k l = due_by asked jobs e d across (is_ruled across) (has_rules asked (peer e)) l.asked.ruled k l

-- ---- told of all ends

due_apart : (asked : List Job) (jobs : List CoreJob) (e : EndId) (d : TheEndWork) → IsEndWork asked jobs e d → IsEndWork asked jobs e (undue d)
due_apart asked jobs e d k = record {
  places = k.places;
  calls = k.calls;
  asked = record { calls = k.asked.calls; rules = k.asked.rules; ruled = k.asked.ruled; alone = k.asked.alone; one_side = k.asked.one_side };
}

due_again : (asked : List Job) (jobs : List CoreJob) (e : EndId) (d : TheEndWork) → IsEndWork asked jobs e (undue d) → IsEndWork asked jobs e d
due_again asked jobs e d k = record {
  places = k.places;
  calls = k.calls;
  asked = record { calls = k.asked.calls; rules = k.asked.rules; ruled = k.asked.ruled; alone = k.asked.alone; one_side = k.asked.one_side };
}

told_end_work : (asked : List Job) (jobs jobs2 : List CoreJob) (e : EndId) (d d2 : TheEndWork) → jobs2 ≡ jobs → undue d2 ≡ undue d
    → IsEndWork asked jobs e d → IsEndWork asked jobs2 e d2
told_end_work asked jobs jobs2 e d d2 same rest k =
    subst (λ (js : List CoreJob). IsEndWork asked js e d2) (sym same)
    (due_again asked jobs e d2 (subst (λ (x : TheEndWork). IsEndWork asked jobs e x) (sym rest) (due_apart asked jobs e d k)))

pub told_placed : (cores : ℕ) (asked : List Job) (n : ℕ) (j j2 : TheJoinedJobs) → ArePlaced cores asked j → DuesUpTo n j j2 → ArePlaced cores asked j2
told_placed cores asked n j j2 k t = record {
  bindings =
      subst (λ bs. AreBindings cores bs j2.owners) (sym t.bindings) (subst (λ os. AreBindings cores j.bindings os) (sym t.owners) k.bindings);
  end_works = t.count ∙ k.end_works ∙ ap (λ bs. 2 * length bs) (sym t.bindings);
  each = λ e. told_end_work asked j.jobs j2.jobs e (end_work_at j.end_works e) (end_work_at j2.end_works e) t.jobs (t.rest e) (k.each e);
  there = λ m job at.
      subst (λ bs. (end_of job).binding < length bs) (sym t.bindings) (k.there m job (subst (λ js. slice_get js m ≡ Some job) t.jobs at));
}

pub all_due : (cores : ℕ) (asked : List Job) (j j2 : TheJoinedJobs) → ArePlaced cores asked j → DuesUpTo (length j.end_works) j j2 → AreDue asked j2
all_due cores asked j j2 k t = record {
  due = λ e within.
      let within2 : e.binding < length j.bindings = subst (λ bs. e.binding < length bs) t.bindings within in
      t.due e (slot_within e (length j.bindings) (length j.end_works) within2 k.end_works)
      ∙ due_is asked j.jobs e (end_work_at j.end_works e) (end_work_at j.end_works (peer e)) (k.each e) (k.each (peer e));
}
