-- One job more: what is asked of ends, which jobs are theirs, and what these call.
use Rattle.std.proofs.Common.{◌≡◌, ◌⊎◌, inl, inr, refl, sym, ap, ◌∙◌, ℕ, zero, suc, ◌+◌, ◌==◌, ◌&&◌, ◌||◌, if◌then◌else◌, List, [], ◌∷◌, ◌++◌, length, slice_get}
use Rattle.std.proofs.Common.{Option, Some, None, Bool, true, false, arith}
use Rattle.std.proofs.lemmas.List.{append-nil}
use Rattle.std.proofs.lemmas.List.Concat.{flat_map-append, flat_map-cons}
use Rattle.fl_base.specs.declared.identity.EndId.{EndId}
use Rattle.fl_base.specs.Ends.{peer}
use Rattle.fl_base.specs.Given.{given}
use Rattle.fl_value_data.specs.Value.{TheCall}
use Rattle.fl_model.specs.Runs.{same_end}
use Rattle.fl_core.specs.declared.core_job.CoreJob.{CoreJob}
use Rattle.fl_cores_file.specs.Jobs.{Job, replies, calls, calls_in, own_calls, rule_in, rule_for, is_rule_at, has_rules}
use Rattle.fl_cores_jobs.specs.EndWork.{TheEndWork, end_of, places_of, calls_at, core_calls, rule_at, is_ruled, are_some, IsAsked, Rules}
use Rattle.fl_cores_jobs.specs.State.{with_calls}
use Rattle.fl_cores_jobs.proofs.Ends.{apart}

-- ---- of a list with one more at its end

pub got : {X : Type 0} (xs : List X) (x y : X) (n : ℕ) → slice_get (xs ++ x ∷ []) n ≡ Some y → (slice_get xs n ≡ Some y) ⊎ ((n ≡ length xs) × (x ≡ y))
got [] x y zero h = inr (refl, cc)
got [] x y (suc n) h = absurd (cc)
got (z ∷ xs) x y zero h = inl h
got (z ∷ xs) x y (suc n) h = elim (got xs x y n h) [
  | inl at ↦ inl at
  | inr last ↦ inr (omega (arith, last.0), last.1)
]

pub kept : {X : Type 0} (xs more : List X) (y : X) (n : ℕ) → slice_get xs n ≡ Some y → slice_get (xs ++ more) n ≡ Some y
kept [] more y n h = absurd (cc)
kept (z ∷ xs) more y zero h = h
kept (z ∷ xs) more y (suc n) h = kept xs more y n h

pub last : {X : Type 0} (xs : List X) (x : X) → slice_get (xs ++ x ∷ []) (length xs) ≡ Some x
last [] x = refl
last (z ∷ xs) x = last xs x

pub past : {X : Type 0} (xs : List X) (x : X) → slice_get xs (length xs) ≡ Some x → ⊥
past [] x h = absurd (cc)
past (z ∷ xs) x h = past xs x h

-- ---- what is asked

own_more : (jobs : List Job) (job : Job) (e : EndId) → own_calls (jobs ++ job ∷ []) e ≡ own_calls jobs e ++ calls_in e job
own_more jobs job e =
    flat_map-append (calls_in e) jobs (job ∷ [])
    ∙ ap (λ (t : List TheCall). own_calls jobs e ++ t) (flat_map-cons (calls_in e) job [] ∙ append-nil (calls_in e job))

core_more : (jobs : List CoreJob) (job : CoreJob) (e : EndId) → core_calls (jobs ++ job ∷ []) e ≡ core_calls jobs e ++ calls_at e job
core_more jobs job e =
    flat_map-append (calls_at e) jobs (job ∷ [])
    ∙ ap (λ (t : List TheCall). core_calls jobs e ++ t) (flat_map-cons (calls_at e) job [] ∙ append-nil (calls_at e job))

-- a job that makes no call there
pub core_stays : (jobs : List CoreJob) (job : CoreJob) (e : EndId) → calls_at e job ≡ [] → core_calls (jobs ++ job ∷ []) e ≡ core_calls jobs e
core_stays jobs job e none =
    core_more jobs job e ∙ ap (λ (t : List TheCall). core_calls jobs e ++ t) none ∙ append-nil (core_calls jobs e)

-- the calls go on alike
pub calls_more : (jobs : List CoreJob) (asked : List Job) (job : CoreJob) (one : Job) (e : EndId) → core_calls jobs e ≡ own_calls asked e
    → calls_at e job ≡ calls_in e one → core_calls (jobs ++ job ∷ []) e ≡ own_calls (asked ++ one ∷ []) e
calls_more jobs asked job one e same alike =
    core_more jobs job e
    ∙ ap (λ (t : List TheCall). t ++ calls_at e job) same
    ∙ ap (λ (t : List TheCall). own_calls asked e ++ t) alike
    ∙ sym (own_more asked one e)

-- or don't
pub calls_stay : (asked : List Job) (one : Job) (e : EndId) → calls_in e one ≡ [] → own_calls (asked ++ one ∷ []) e ≡ own_calls asked e
calls_stay asked one e none =
    own_more asked one e ∙ ap (λ (t : List TheCall). own_calls asked e ++ t) none ∙ append-nil (own_calls asked e)

pub or_false : (b : Bool) → (b || false) ≡ b
or_false true = refl
or_false false = refl

or_more : (b x y q : Bool) → x ≡ (y || q) → (b || x) ≡ ((b || y) || q)
or_more true x y q h = refl
or_more false x y q h = h

pub has_more : (jobs : List Job) (job : Job) (e : EndId) → has_rules (jobs ++ job ∷ []) e ≡ (has_rules jobs e || is_rule_at e job)
has_more [] job e = or_false (is_rule_at e job)
has_more (j ∷ jobs) job e = or_more (is_rule_at e j) (has_rules (jobs ++ job ∷ []) e) (has_rules jobs e) (is_rule_at e job) (has_more jobs job e)

given_some : (o : Option ℕ) → o ≡ given o None (λ x. Some x)
given_some None = refl
given_some (Some x) = refl

given_more : (a b c : Option ℕ) → given (given a b (λ x. Some x)) c (λ x. Some x) ≡ given a (given b c (λ x. Some x)) (λ x. Some x)
given_more None b c = refl
given_more (Some x) b c = refl

pub rule_more : (jobs : List Job) (job : Job) (e : EndId) (m : ℕ) → rule_for (jobs ++ job ∷ []) e m ≡ given (rule_in e m job) (rule_for jobs e m) (λ x. Some x)
rule_more [] job e m = given_some (rule_in e m job)
rule_more (j ∷ jobs) job e m =
    ap (λ (o : Option ℕ). given o (rule_in e m j) (λ x. Some x)) (rule_more jobs job e m)
    ∙ given_more (rule_in e m job) (rule_for jobs e m) (rule_in e m j)

-- ---- of a job that sets no rule

-- neither calls nor rules of the end
pub record IsIdle (e : EndId) (job : Job) : Type 0 where
  pub calls : calls_in e job ≡ []
  pub rule : (m : ℕ) → rule_in e m job ≡ None
  pub ruled : is_rule_at e job ≡ false

no_rule : (asked : List Job) (job : Job) (e : EndId) → is_rule_at e job ≡ false → has_rules (asked ++ job ∷ []) e ≡ has_rules asked e
no_rule asked job e none = has_more asked job e ∙ ap (λ (b : Bool). has_rules asked e || b) none ∙ or_false (has_rules asked e)

pub asked_idle : (asked : List Job) (job : Job) (e : EndId) (d : TheEndWork) → IsIdle e job → is_rule_at (peer e) job ≡ false → IsAsked asked e d → IsAsked (asked ++ job ∷ []) e d
asked_idle asked job e d idle across a =
    let own = calls_stay asked job e idle.calls in
    let has = no_rule asked job e idle.ruled in
    let other = no_rule asked job (peer e) across in
    record {
      calls = a.calls ∙ ap (λ (t : List TheCall). are_some t) (sym own);
      rules = λ m. a.rules m ∙ sym (rule_more asked job e m ∙ ap (λ (o : Option ℕ). given o (rule_for asked e m) (λ x. Some x)) (idle.rule m));
      ruled = a.ruled ∙ sym has;
      alone = λ h. own ∙ a.alone (sym has ∙ h);
      one_side = λ h. other ∙ a.one_side (sym has ∙ h);
    }

-- ---- a call

some_calls : (xs : List TheCall) (c : TheCall) → true ≡ are_some (xs ++ c ∷ [])
some_calls [] c = refl
some_calls (x ∷ xs) c = refl

pub asked_call : (asked : List Job) (c : TheCall) (e f : EndId) (d : TheEndWork) → same_end e f ≡ true → is_ruled d ≡ false → IsAsked asked e d
    → IsAsked (asked ++ calls f c ∷ []) e (with_calls d)
asked_call asked c e f d same free a =
    let here : calls_in e (calls f c) ≡ c ∷ [] = ap (λ (b : Bool). if b then c ∷ [] else []) same in
    let own = own_more asked (calls f c) e ∙ ap (λ (t : List TheCall). own_calls asked e ++ t) here in
    let has = no_rule asked (calls f c) e refl in
    let none : has_rules asked e ≡ false = sym a.ruled ∙ free in
    record {
      calls = some_calls (own_calls asked e) c ∙ ap (λ (t : List TheCall). are_some t) (sym own);
      rules = λ m. a.rules m ∙ sym (rule_more asked (calls f c) e m);
      ruled = a.ruled ∙ sym has;
      alone = λ h. absurd (cc (sym has ∙ h, none));
      one_side = λ h. absurd (cc (sym has ∙ h, none));
    }

-- ---- a rule

no_calls : (xs : List TheCall) → are_some xs ≡ false → xs ≡ []
no_calls [] h = refl
no_calls (x ∷ xs) h = absurd (cc)

or_true : (b : Bool) → (b || true) ≡ true
or_true true = refl
or_true false = refl

rule_if : (b c : Bool) (x y : Option ℕ) (answer : ℕ) → b ≡ true → y ≡ x
    → (if c then Some answer else y) ≡ given (if b && c then Some answer else None) x (λ z. Some z)
rule_if true true x y answer h same = refl
rule_if true false x y answer h same = same
rule_if false c x y answer h same = absurd (cc)

-- at its end, which makes no calls, and whose other end has no rules
pub asked_rule : (asked : List Job) (msg answer : ℕ) (e f : EndId) (d d2 : TheEndWork) → same_end e f ≡ true → d.makes_calls ≡ false → has_rules asked (peer e) ≡ false
    → Rules msg answer d d2 → IsAsked asked e d → IsAsked (asked ++ replies f msg answer ∷ []) e d2
asked_rule asked msg answer e f d d2 same free across r a =
    let job : Job = replies f msg answer in
    let own = calls_stay asked job e refl in
    let none : own_calls asked e ≡ [] = no_calls (own_calls asked e) (sym a.calls ∙ free) in
    let has : has_rules (asked ++ job ∷ []) e ≡ true = has_more asked job e ∙ ap (λ (b : Bool). has_rules asked e || b) same ∙ or_true (has_rules asked e) in
    let there : has_rules (asked ++ job ∷ []) (peer e) ≡ false = no_rule asked job (peer e) (apart e f same) ∙ across in
    record {
      calls = ap (λ (x : TheEndWork). x.makes_calls) r.rest ∙ (a.calls ∙ ap (λ (t : List TheCall). are_some t) (sym own));
      rules = λ m. r.put m ∙ (rule_if (same_end e f) (msg == m) (rule_for asked e m) (rule_at d.rules m) answer same (a.rules m) ∙ sym (rule_more asked job e m));
      ruled = r.some ∙ sym has;
      alone = λ h. own ∙ none;
      one_side = λ h. there;
    }

-- at the other end, where nothing changes
pub asked_across : (asked : List Job) (msg answer : ℕ) (e f : EndId) (d : TheEndWork) → same_end (peer e) f ≡ true → same_end e f ≡ false → has_rules asked e ≡ false
    → IsAsked asked e d → IsAsked (asked ++ replies f msg answer ∷ []) e d
asked_across asked msg answer e f d across apart none a =
    let job : Job = replies f msg answer in
    let own = calls_stay asked job e refl in
    let has = no_rule asked job e apart in
    record {
      calls = a.calls ∙ ap (λ (t : List TheCall). are_some t) (sym own);
      rules = λ m. a.rules m ∙ sym (rule_more asked job e m ∙ ap (λ (b : Bool). given (if b && (msg == m) then Some answer else None) (rule_for asked e m) (λ x. Some x)) apart);
      ruled = a.ruled ∙ sym has;
      alone = λ h. own ∙ a.alone (sym has ∙ h);
      one_side = λ h. absurd (cc (sym has ∙ h, none));
    }

-- ---- which jobs are an end's

if_more : (b : Bool) (n : ℕ) (xs ys : List ℕ) → (if b then n ∷ (xs ++ ys) else (xs ++ ys)) ≡ (if b then n ∷ xs else xs) ++ ys
if_more true n xs ys = refl
if_more false n xs ys = refl

pub places_more : (e : EndId) (n k : ℕ) (jobs : List CoreJob) (job : CoreJob) → k ≡ n + length jobs
    → places_of e n (jobs ++ job ∷ []) ≡ places_of e n jobs ++ (if same_end e (end_of job) then k ∷ [] else [])
places_more e n k [] job h = let eq : n ≡ k = omega (arith, h) in ap (λ (i : ℕ). if same_end e (end_of job) then i ∷ [] else []) eq
places_more e n k (j ∷ jobs) job h =
    ap (λ (t : List ℕ). if same_end e (end_of j) then n ∷ t else t) (places_more e (suc n) k jobs job (omega (arith, h)))
    ∙ if_more (same_end e (end_of j)) n (places_of e (suc n) jobs) (if same_end e (end_of job) then k ∷ [] else [])
