-- One job more is joined.
use Rattle.std.proofs.Common.{◌≡◌, inl, inr, refl, sym, ap, ◌∙◌, subst, ℕ, ◌<◌, ◌+◌, ◌*◌, ◌==◌, ◌&&◌, if◌then◌else◌, List, [], ◌∷◌, ◌++◌, length, slice_get, slice_set}
use Rattle.std.proofs.Common.{Option, Some, None, Bool, true, false, arith}
use Rattle.std.proofs.lemmas.List.{length-append, length-set}
use Rattle.fl_base.specs.declared.identity.EndId.{EndId}
use Rattle.fl_base.specs.declared.identity.Side.{Side}
use Rattle.fl_base.specs.declared.identity.Side.TheVariants.{Client, Server}
use Rattle.fl_base.specs.Ends.{peer, other}
use Rattle.fl_base.specs.Given.{given}
use Rattle.fl_value_data.specs.declared.value.Call.{Call}
use Rattle.fl_value_data.specs.Value.{call_of}
use Rattle.fl_model.specs.Given.{changed_at}
use Rattle.fl_model.specs.Runs.{same_end}
use Rattle.fl_core.specs.View.{slot_of}
use Rattle.fl_core.specs.declared.core_job.CoreJob.{CoreJob}
use Rattle.fl_core.specs.declared.core_job.CoreJob.TheVariants as core
use Rattle.fl_cores_file.specs.Jobs.{Job, TheCircuitRequest, opens, replies, calls, calls_in, has_rules}
use Rattle.fl_cores_jobs.specs.declared.end_work.BindingCores.{BindingCores}
use Rattle.fl_cores_jobs.specs.EndWork.{TheEndWork, no_end_work, end_work_at, with_place, end_of, places_of, core_calls, is_ruled, Rules, IsEndWork}
use Rattle.fl_cores_jobs.specs.Joined.{AreBindings}
use Rattle.fl_cores_jobs.specs.State.{TheJoinedJobs, nothing_joined, with_binding, with_owner, changing, with_job, with_calls, SetAt, ArePlaced}
use Rattle.fl_cores_jobs.proofs.Ends.{changed, two_more, one_end}
use Rattle.fl_cores_jobs.proofs.Growing.{got, kept, last, past, calls_more, calls_stay, asked_idle, asked_call, asked_rule, asked_across, places_more}

-- ---- the jobs of an end

here : (e : EndId) (jobs : List CoreJob) (job : CoreJob) (d : TheEndWork) → same_end e (end_of job) ≡ true → d.jobs ≡ places_of e 0 jobs
    → (with_place (length jobs) d).jobs ≡ places_of e 0 (jobs ++ job ∷ [])
here e jobs job d same places =
    ap (λ (ns : List ℕ). ns ++ length jobs ∷ []) places
    ∙ ap (λ (b : Bool). places_of e 0 jobs ++ (if b then length jobs ∷ [] else [])) (sym same)
    ∙ sym (places_more e 0 (length jobs) jobs job (omega arith))

append_none : (ns : List ℕ) → ns ≡ ns ++ []
append_none [] = refl
append_none (n ∷ ns) = ap (λ (t : List ℕ). n ∷ t) (append_none ns)

elsewhere : (e : EndId) (jobs : List CoreJob) (job : CoreJob) (d : TheEndWork) → same_end e (end_of job) ≡ false → d.jobs ≡ places_of e 0 jobs
    → d.jobs ≡ places_of e 0 (jobs ++ job ∷ [])
elsewhere e jobs job d not_same places =
    places ∙ append_none (places_of e 0 jobs)
    ∙ ap (λ (b : Bool). places_of e 0 jobs ++ (if b then length jobs ∷ [] else [])) (sym not_same)
    ∙ sym (places_more e 0 (length jobs) jobs job (omega arith))

-- ---- lengths

given_length : (end_works : List TheEndWork) (n : ℕ) (f : TheEndWork → TheEndWork) (o : Option TheEndWork) → length (given o end_works (λ x. slice_set end_works n (f x))) ≡ length end_works
given_length end_works n f None = refl
given_length end_works n f (Some x) = length-set end_works n (f x)

pub as_many : (end_works : List TheEndWork) (n : ℕ) (f : TheEndWork → TheEndWork) → length (changed_at n f end_works) ≡ length end_works
as_many end_works n f = given_length end_works n f (slice_get end_works n)

there_more : (count : ℕ) (jobs : List CoreJob) (job : CoreJob) → ((n : ℕ) (x : CoreJob) → slice_get jobs n ≡ Some x → (end_of x).binding < count) → (end_of job).binding < count
    → (n : ℕ) (x : CoreJob) → slice_get (jobs ++ job ∷ []) n ≡ Some x → (end_of x).binding < count
there_more count jobs job all one n x at = elim (got jobs job x n at) [
  | inl before ↦ all n x before
  | inr new ↦ subst (λ (y : CoreJob). (end_of y).binding < count) new.1 one
]

-- ---- a job that makes no call, of what is asked already

quiet_by : (asked : List Job) (jobs : List CoreJob) (job : CoreJob) (e : EndId) (d : TheEndWork) (b : Bool) → same_end e (end_of job) ≡ b
    → core_calls (jobs ++ job ∷ []) e ≡ core_calls jobs e → IsEndWork asked jobs e d
    → IsEndWork asked (jobs ++ job ∷ []) e (if b then with_place (length jobs) d else d)
quiet_by asked jobs job e d true same none k = record {
  places = here e jobs job d same k.places;
  calls = none ∙ k.calls;
  asked = record { calls = k.asked.calls; rules = k.asked.rules; ruled = k.asked.ruled; alone = k.asked.alone; one_side = k.asked.one_side };
}
quiet_by asked jobs job e d false same none k = record {
  places = elsewhere e jobs job d same k.places;
  calls = none ∙ k.calls;
  asked = k.asked;
}

pub add_quiet : (cores : ℕ) (asked : List Job) (job : CoreJob) (j : TheJoinedJobs) → ((e : EndId) → core_calls (j.jobs ++ job ∷ []) e ≡ core_calls j.jobs e)
    → (end_of job).binding < length j.bindings → slot_of (end_of job) < length j.end_works → ArePlaced cores asked j → ArePlaced cores asked (with_job (end_of job) job j)
add_quiet cores asked job j none within slot k = record {
  bindings = k.bindings;
  end_works = as_many j.end_works (slot_of (end_of job)) (with_place (length j.jobs)) ∙ k.end_works;
  each = λ e. subst (λ (d : TheEndWork). IsEndWork asked (j.jobs ++ job ∷ []) e d) (sym (changed j.end_works e (end_of job) (with_place (length j.jobs)) slot))
      (quiet_by asked j.jobs job e (end_work_at j.end_works e) (same_end e (end_of job)) refl (none e) (k.each e));
  there = there_more (length j.bindings) j.jobs job k.there within;
}

-- ---- a call

call_by : (asked : List Job) (jobs : List CoreJob) (f : EndId) (call : Call) (e : EndId) (d : TheEndWork) (b : Bool) → same_end e f ≡ b
    → (b ≡ true → is_ruled d ≡ false) → IsEndWork asked jobs e d
    → IsEndWork (asked ++ calls f (call_of call) ∷ []) (jobs ++ core.Call f call ∷ []) e (if b then with_place (length jobs) (with_calls d) else d)
call_by asked jobs f call e d true same free k =
    let a = asked_call asked (call_of call) e f d same (free refl) k.asked in
    record {
      places = here e jobs (core.Call f call) (with_calls d) same k.places;
      calls = calls_more jobs asked (core.Call f call) (calls f (call_of call)) e k.calls refl;
      asked = record { calls = a.calls; rules = a.rules; ruled = a.ruled; alone = a.alone; one_side = a.one_side };
    }
call_by asked jobs f call e d false same free k =
    let none : calls_in e (calls f (call_of call)) ≡ [] = ap (λ (b : Bool). if b then call_of call ∷ [] else []) same in
    record {
      places = elsewhere e jobs (core.Call f call) d same k.places;
      calls = calls_more jobs asked (core.Call f call) (calls f (call_of call)) e k.calls refl;
      asked = asked_idle asked (calls f (call_of call)) e d (record { calls = none; rule = λ m. refl; ruled = refl }) refl k.asked;
    }

twice : (end_works : List TheEndWork) (e f : EndId) (g h : TheEndWork → TheEndWork) → slot_of f < length end_works
    → end_work_at (changed_at (slot_of f) h (changed_at (slot_of f) g end_works)) e ≡ (if same_end e f then h (g (end_work_at end_works e)) else end_work_at end_works e)
twice end_works e f g h within =
    let within2 : slot_of f < length (changed_at (slot_of f) g end_works) = omega (arith, within, as_many end_works (slot_of f) g) in
    changed (changed_at (slot_of f) g end_works) e f h within2
    ∙ both (same_end e f) (end_work_at (changed_at (slot_of f) g end_works) e) (end_work_at end_works e) g h (changed end_works e f g within)
  where
    both : (b : Bool) (x d : TheEndWork) (g h : TheEndWork → TheEndWork) → x ≡ (if b then g d else d) → (if b then h x else x) ≡ (if b then h (g d) else d)
    both true x d g h is = ap h is
    both false x d g h is = is

free_at : (P : TheEndWork → Type 0) (end_works : List TheEndWork) (e f : EndId) → e ≡ f → P (end_work_at end_works f) → P (end_work_at end_works e)
free_at P end_works e f same p = subst (λ (x : EndId). P (end_work_at end_works x)) (sym same) p

pub add_call : (cores : ℕ) (asked : List Job) (f : EndId) (call : Call) (j : TheJoinedJobs) → f.binding < length j.bindings → slot_of f < length j.end_works
    → is_ruled (end_work_at j.end_works f) ≡ false → ArePlaced cores asked j
    → ArePlaced cores (asked ++ calls f (call_of call) ∷ []) (with_job f (core.Call f call) (changing f with_calls j))
add_call cores asked f call j within slot free k = record {
  bindings = k.bindings;
  end_works = as_many (changed_at (slot_of f) with_calls j.end_works) (slot_of f) (with_place (length j.jobs)) ∙ as_many j.end_works (slot_of f) with_calls ∙ k.end_works;
  each = λ e. subst (λ (d : TheEndWork). IsEndWork (asked ++ calls f (call_of call) ∷ []) (j.jobs ++ core.Call f call ∷ []) e d)
      (sym (twice j.end_works e f with_calls (with_place (length j.jobs)) slot))
      (call_by asked j.jobs f call e (end_work_at j.end_works e) (same_end e f) refl
      (λ same. free_at (λ (d : TheEndWork). is_ruled d ≡ false) j.end_works e f (one_end e f same) free) (k.each e));
  there = there_more (length j.bindings) j.jobs (core.Call f call) k.there within;
}

-- ---- a rule

rule_here : (asked : List Job) (jobs : List CoreJob) (f : EndId) (msg answer : ℕ) (e : EndId) (d d2 : TheEndWork) → same_end e f ≡ true
    → d.makes_calls ≡ false → has_rules asked (peer e) ≡ false → Rules msg answer d d2 → IsEndWork asked jobs e d
    → IsEndWork (asked ++ replies f msg answer ∷ []) jobs e d2
rule_here asked jobs f msg answer e d d2 same free across r k = record {
  places = ap (λ (x : TheEndWork). x.jobs) r.rest ∙ k.places;
  calls = k.calls ∙ sym (calls_stay asked (replies f msg answer) e refl);
  asked = asked_rule asked msg answer e f d d2 same free across r k.asked;
}

rule_elsewhere : (asked : List Job) (jobs : List CoreJob) (f : EndId) (msg answer : ℕ) (e : EndId) (d : TheEndWork) (b : Bool) → same_end e f ≡ false
    → same_end (peer e) f ≡ b → (b ≡ true → has_rules asked e ≡ false) → IsEndWork asked jobs e d → IsEndWork (asked ++ replies f msg answer ∷ []) jobs e d
rule_elsewhere asked jobs f msg answer e d true apart across none k = record {
  places = k.places;
  calls = k.calls ∙ sym (calls_stay asked (replies f msg answer) e refl);
  asked = asked_across asked msg answer e f d across apart (none refl) k.asked;
}
rule_elsewhere asked jobs f msg answer e d false apart across none k = record {
  places = k.places;
  calls = k.calls ∙ sym (calls_stay asked (replies f msg answer) e refl);
  asked = asked_idle asked (replies f msg answer) e d
      (record { calls = refl; rule = λ m. ap (λ (b : Bool). if b && (msg == m) then Some answer else None) apart; ruled = apart }) across k.asked;
}

side_back : (s : Side) → s ≡ other (other s)
side_back Client = refl
side_back Server = refl

pub there_and_back : (e : EndId) → e ≡ peer (peer e)
there_and_back e = ap (λ (s : Side). let x : EndId = record { binding = e.binding; side = s } in x) (side_back e.side)

back : (e f : EndId) → peer e ≡ f → e ≡ peer f
back e f h = there_and_back e ∙ ap peer h

module _ (cores : ℕ) (asked : List Job) (f : EndId) (msg answer : ℕ) (j j2 : TheJoinedJobs) (within : slot_of f < length j.end_works)
    (free : (end_work_at j.end_works f).makes_calls ≡ false) (alone : is_ruled (end_work_at j.end_works (peer f)) ≡ false)
    (set : SetAt f msg answer j.end_works j2.end_works) (k : ArePlaced cores asked j) where
  each_by : (e : EndId) (b : Bool) → same_end e f ≡ b
      → IsEndWork (asked ++ replies f msg answer ∷ []) j.jobs e (if b then set.end_work else end_work_at j.end_works e)
  each_by e true same =
      let eq = one_end e f same in
      let none : has_rules asked (peer f) ≡ false = sym (k.each (peer f)).asked.ruled ∙ alone in
      rule_here asked j.jobs f msg answer e (end_work_at j.end_works e) set.end_work same
      (free_at (λ (d : TheEndWork). d.makes_calls ≡ false) j.end_works e f eq free)
      (ap (λ (x : EndId). has_rules asked (peer x)) eq ∙ none)
      (free_at (λ (d : TheEndWork). Rules msg answer d set.end_work) j.end_works e f eq set.rules) (k.each e)
  each_by e false same =
      rule_elsewhere asked j.jobs f msg answer e (end_work_at j.end_works e) (same_end (peer e) f) same refl
      (λ across. sym (k.each e).asked.ruled
      ∙ free_at (λ (d : TheEndWork). is_ruled d ≡ false) j.end_works e (peer f) (back e f (one_end (peer e) f across)) alone)
      (k.each e)

  pub add_rule : ArePlaced cores (asked ++ replies f msg answer ∷ []) (record j { end_works = j2.end_works })
  add_rule = record {
    bindings = k.bindings;
    end_works = ap (λ (ds : List TheEndWork). length ds) set.rest ∙ as_many j.end_works (slot_of f) (λ d. set.end_work) ∙ k.end_works;
    each = λ e. subst (λ (d : TheEndWork). IsEndWork (asked ++ replies f msg answer ∷ []) j.jobs e d)
        (sym (ap (λ (ds : List TheEndWork). end_work_at ds e) set.rest ∙ changed j.end_works e f (λ d. set.end_work) within))
        (each_by e (same_end e f) refl);
    there = k.there;
  }

-- ---- a binding

two_longer : (end_works : List TheEndWork) (n m : ℕ) → length end_works ≡ 2 * n → m ≡ n + 1 → length (end_works ++ no_end_work ∷ no_end_work ∷ []) ≡ 2 * m
two_longer end_works n m h e = let l = length-append end_works (no_end_work ∷ no_end_work ∷ []) in omega (arith, l, h, e)

one_longer : {X : Type 0} (xs : List X) (x : X) → length (xs ++ x ∷ []) ≡ length xs + 1
one_longer xs x = length-append xs (x ∷ [])

each_more : (P : BindingCores → Type 0) (bindings : List BindingCores) (x : BindingCores) → ((b : ℕ) (y : BindingCores) → slice_get bindings b ≡ Some y → P y) → P x
    → (b : ℕ) (y : BindingCores) → slice_get (bindings ++ x ∷ []) b ≡ Some y → P y
each_more P bindings x all one b y at = elim (got bindings x y b at) [
  | inl before ↦ all b y before
  | inr new ↦ subst P new.1 one
]

joined_more : (cores : ℕ) (asked : List Job) (x : BindingCores) (owners : List ℕ) (j : TheJoinedJobs) → AreBindings cores (j.bindings ++ x ∷ []) owners → ArePlaced cores asked j
    → ArePlaced cores asked (record (with_binding x j) { owners = owners })
joined_more cores asked x owners j b k = record {
  bindings = b;
  end_works = two_longer j.end_works (length j.bindings) (length (j.bindings ++ x ∷ [])) k.end_works (one_longer j.bindings x);
  each = λ e. subst (λ (d : TheEndWork). IsEndWork asked j.jobs e d) (sym (two_more j.end_works e)) (k.each e);
  there = λ n job at. let l = one_longer j.bindings x in let h = k.there n job at in omega (arith, l, h);
}

pub none_some : (x y : BindingCores) (job : ℕ) → x ≡ y → x.opened ≡ None → y.opened ≡ Some job → ⊥
none_some x y job same none some = let h : x.opened ≡ y.opened = ap (λ (b : BindingCores). b.opened) same in absurd (cc)

owner_number : (x y : BindingCores) (n job : ℕ) → x ≡ y → x.opened ≡ Some n → y.opened ≡ Some job → n ≡ job
owner_number x y n job same a b = let h : x.opened ≡ y.opened = ap (λ (b : BindingCores). b.opened) same in cc

owner_last : (owners : List ℕ) (x y : BindingCores) (job : ℕ) → x ≡ y → x.opened ≡ Some (length owners) → y.opened ≡ Some job
    → slice_get (owners ++ x.client ∷ []) job ≡ Some y.client
owner_last owners x y job same a b =
    subst (λ (i : ℕ). slice_get (owners ++ x.client ∷ []) i ≡ Some x.client) (owner_number x y (length owners) job same a b) (last owners x.client)
    ∙ ap (λ (b : BindingCores). Some b.client) same

owner_past : (owners : List ℕ) (x y : BindingCores) (client job : ℕ) → x ≡ y → x.opened ≡ Some (length owners) → y.opened ≡ Some job
    → slice_get owners job ≡ Some client → ⊥
owner_past owners x y client job same a b at =
    past owners client (subst (λ (i : ℕ). slice_get owners i ≡ Some client) (sym (owner_number x y (length owners) job same a b)) at)

-- of a binding that is set up
pub add_set_up : (cores : ℕ) (asked : List Job) (x : BindingCores) (j : TheJoinedJobs) → x.client < cores → x.server < cores → x.opened ≡ None → length j.bindings < 1024
    → ArePlaced cores asked j → ArePlaced cores asked (with_binding x j)
add_set_up cores asked x j client server none few k =
    let l = one_longer j.bindings x in
    let fewer = k.bindings.fewer in
    joined_more cores asked x j.owners j (record {
      few = omega (arith, l, few);
      fewer = omega (arith, l, fewer);
      client = each_more (λ (y : BindingCores). y.client < cores) j.bindings x k.bindings.client client;
      server = each_more (λ (y : BindingCores). y.server < cores) j.bindings x k.bindings.server server;
      opened = λ b job y at is. elim (got j.bindings x y b at) [
        | inl before ↦ k.bindings.opened b job y before is
        | inr new ↦ absurd (none_some x y job new.1 none is)
      ];
      apart = λ b c job y z at other is same. elim (got j.bindings x y b at) [
        | inl before ↦ elim (got j.bindings x z c other) [
          | inl before2 ↦ k.bindings.apart b c job y z before before2 is same
          | inr new ↦ absurd (none_some x z job new.1 none same)
        ]
        | inr new ↦ absurd (none_some x y job new.1 none is)
      ];
    }) k

-- of one that a job opens
opened_bindings : (cores : ℕ) (x : BindingCores) (bindings : List BindingCores) (owners : List ℕ) → x.client < cores → x.server < cores → x.opened ≡ Some (length owners)
    → length bindings < 1024 → AreBindings cores bindings owners → AreBindings cores (bindings ++ x ∷ []) (owners ++ x.client ∷ [])
opened_bindings cores x bindings owners client server is_opened few k =
    let l = one_longer bindings x in
    let m = one_longer owners x.client in
    let fewer = k.fewer in
    record {
      few = omega (arith, l, few);
      fewer = omega (arith, l, m, fewer);
      client = each_more (λ (y : BindingCores). y.client < cores) bindings x k.client client;
      server = each_more (λ (y : BindingCores). y.server < cores) bindings x k.server server;
      opened = λ b job y at is. elim (got bindings x y b at) [
        | inl before ↦ kept owners (x.client ∷ []) y.client job (k.opened b job y before is)
        | inr new ↦ owner_last owners x y job new.1 is_opened is
      ];
      apart = λ b c job y z at other is same. elim (got bindings x y b at) [
        | inl before ↦ elim (got bindings x z c other) [
          | inl before2 ↦ k.apart b c job y z before before2 is same
          | inr new ↦ absurd (owner_past owners x z y.client job new.1 is_opened same (k.opened b job y before is))
        ]
        | inr new ↦ elim (got bindings x z c other) [
          | inl before2 ↦ absurd (owner_past owners x y z.client job new.1 is_opened is (k.opened c job z before2 same))
          | inr new2 ↦ new.0 ∙ sym new2.0
        ]
      ];
    }

pub add_opened : (cores : ℕ) (asked : List Job) (x : BindingCores) (j : TheJoinedJobs) → x.client < cores → x.server < cores → x.opened ≡ Some (length j.owners)
    → length j.bindings < 1024 → ArePlaced cores asked j → ArePlaced cores asked (with_owner x.client (with_binding x j))
add_opened cores asked x j client server is_opened few k =
    joined_more cores asked x (j.owners ++ x.client ∷ []) j (opened_bindings cores x j.bindings j.owners client server is_opened few k.bindings) k

-- ---- what is asked by a request

pub add_request : (cores : ℕ) (asked : List Job) (w : TheCircuitRequest) (j : TheJoinedJobs) → ArePlaced cores asked j → ArePlaced cores (asked ++ opens w ∷ []) j
add_request cores asked w j k = record {
  bindings = k.bindings;
  end_works = k.end_works;
  each = λ e. let i = k.each e in record {
    places = i.places;
    calls = i.calls ∙ sym (calls_stay asked (opens w) e refl);
    asked = asked_idle asked (opens w) e (end_work_at j.end_works e) (record { calls = refl; rule = λ m. refl; ruled = refl }) refl i.asked;
  };
  there = k.there;
}

-- ---- nothing

pub nothing : (cores : ℕ) → ArePlaced cores [] nothing_joined
nothing cores = record {
  bindings = record {
    few = omega arith;
    fewer = omega arith;
    client = λ b x at. absurd (cc);
    server = λ b x at. absurd (cc);
    opened = λ b job x at is. absurd (cc);
    apart = λ b c job x y at other is same. absurd (cc);
  };
  end_works = refl;
  each = λ e. record {
    places = refl;
    calls = refl;
    asked = record { calls = refl; rules = λ m. refl; ruled = refl; alone = λ h. refl; one_side = λ h. refl };
  };
  there = λ n job at. absurd (cc);
}
