-- What holds of a draft that lines came to, and where each of its jobs stood when its line was accepted.
use Rattle.std.proofs.Common.{◌≡◌, ◌⊎◌, inl, inr, refl, sym, ◌∙◌, ap, subst, ℕ, zero, suc, ◌<◌, ◌≤◌, ◌==◌, ◌&&◌, cond, Bool, true, false, List, [], ◌∷◌, ◌++◌, length, map, take, slice_get, slice_set, nat_le, not, Option, Some, None, arith, append_assoc}
use Rattle.std.specs.List.{flat_map}
use Rattle.std.proofs.lemmas.Bool.{eqb-true, eqb-false, leb-false}
use Rattle.std.proofs.lemmas.List.{append-nil, map-append, length_push, take-append-le}
use Rattle.std.proofs.lemmas.List.Concat.{flat_map-append, flat_map-cons}
use Rattle.std.proofs.lemmas.Option.{slice_get_within}
use Rattle.fl_base.specs.Prefix.{IsPrefix}
use Rattle.fl_base.specs.declared.identity.EndId.{EndId}
use Rattle.fl_base.specs.declared.identity.Side.{Side}
use Rattle.fl_base.specs.declared.identity.Side.TheVariants.{Client, Server}
use Rattle.fl_base.specs.Given.{given}
use Rattle.fl_value_data.specs.Fits.{fits_of}
use Rattle.fl_value_data.specs.Value.{TheCall}
use Rattle.fl_model.specs.Calls.{Planned}
use Rattle.fl_model.specs.Events.{Event}
use Rattle.fl_model.specs.Given.{changed_at}
use Rattle.fl_model_laws.proofs.Small.{changed_here, some_same}
use Rattle.fl_model_laws.proofs.Replies.{length_changed}
use Rattle.fl_cores_file.specs.Draft.{Use, free, makes_calls, has_rules as for_rules, Bound, Draft, use_at, with_use, fault_at, call_fault, rule_fault, is_for_rules, is_interface}
use Rattle.fl_cores_file.specs.Jobs.{TheCircuitRequest, Job, opens, replies, calls}
use Rattle.fl_cores_jobs.specs.Faults.{use_in}
use Rattle.fl_cores_jobs.specs.Whole.{request_in}
use Rattle.fl_cores_file_laws.specs.SetUps.{ComeTo}
use Rattle.fl_cores_file_laws.proofs.Lists.{got, none_at}
use Rattle.fl_cores_file_laws.proofs.Adding.{interfaces_in, bound_in, OnlySetsUp}
use Rattle.fl_cores_file_laws.proofs.Changes.{Change, quiet, adds, joins, asks, makes, rules, fresh, change}
use Rattle.fl_cores_file_laws.proofs.Uses.{end_at, IsInside, AllInside, inside_more, inside_push, none_there, use_stays, Makes, makes_calls_there, makes_rules_there, no_rules, bindings_apart}

-- ---- kinds of bindings

-- whether a binding is opened, and its interface
pub record Sort : Type 0 where
  pub opened : Bool
  pub interface : ℕ

abbrev pub sort_of : Bound → Sort
sort_of b = record { opened = b.is_opened; interface = b.interface }

abbrev pub sorts : List Bound → List Sort
sorts bs = map sort_of bs

-- the interface, of a binding that is opened, or of one that isn't
abbrev pub picks : Bool → Sort → List ℕ
picks true s = cond s.opened (s.interface ∷ []) []
picks false s = cond s.opened [] (s.interface ∷ [])

abbrev pub picked : Bool → List Sort → List ℕ
picked opened ss = flat_map (picks opened) ss

abbrev pub interface_asked : TheCircuitRequest → ℕ
interface_asked w = w.interface

-- ---- a list that gained one, or of which one changed

flat_push : {A B : Type 0} (f : A → List B) (xs : List A) (x : A) → flat_map f (xs ++ x ∷ []) ≡ flat_map f xs ++ f x
flat_push f xs x = flat_map-append f xs (x ∷ []) ∙ ap (λ ys. flat_map f xs ++ ys) (flat_map-cons f x [] ∙ append-nil (f x))

set_else : {X : Type 0} (xs : List X) (n m : ℕ) (y : X) → (m ≡ n → ⊥) → slice_get (slice_set xs n y) m ≡ slice_get xs m
set_else [] n m y ne = refl
set_else (x ∷ xs) zero zero y ne = absurd (ne refl)
set_else (x ∷ xs) zero (suc m) y ne = refl
set_else (x ∷ xs) (suc n) zero y ne = refl
set_else (x ∷ xs) (suc n) (suc m) y ne = set_else xs n m y (λ e. ne (ap suc e))

changed_else : {X : Type 0} (xs : List X) (n m : ℕ) (f : X → X) → (m ≡ n → ⊥) → slice_get (changed_at n f xs) m ≡ slice_get xs m
changed_else {X} xs n m f ne = by (slice_get xs n) where
  by : (o : Option X) → slice_get (given o xs (λ x. slice_set xs n (f x))) m ≡ slice_get xs m
  by None = refl
  by (Some x) = set_else xs n m (f x) ne

sorts_set : (bs : List Bound) (n : ℕ) (b x : Bound) → slice_get bs n ≡ Some b → sort_of x ≡ sort_of b → sorts (slice_set bs n x) ≡ sorts bs
sorts_set [] n b x at same = refl
sorts_set (y ∷ bs) zero b x at same = ap (λ s. s ∷ sorts bs) (same ∙ ap sort_of (some_same b y (sym at)))
sorts_set (y ∷ bs) (suc n) b x at same = ap (λ ss. sort_of y ∷ ss) (sorts_set bs n b x at same)

use_sort : (s : Side) (u : Use) (b : Bound) → sort_of (with_use s u b) ≡ sort_of b
use_sort Client u b = refl
use_sort Server u b = refl

sorts_changed : (bs : List Bound) (n : ℕ) (s : Side) (u : Use) → sorts (changed_at n (with_use s u) bs) ≡ sorts bs
sorts_changed bs n s u = by (slice_get bs n) refl where
  by : (o : Option Bound) → slice_get bs n ≡ o → sorts (given o bs (λ b. slice_set bs n (with_use s u b))) ≡ sorts bs
  by None at = refl
  by (Some b) at = sorts_set bs n b (with_use s u b) at (use_sort s u b)

-- ---- what holds

abbrev Uses : List Job → List Bound → Type 0
Uses jobs bs = (k : ℕ) (b : Bound) → slice_get bs k ≡ Some b → (s : Side) → use_at s b ≡ use_in jobs (end_at s k)

pub record KeptOf (jobs : List Job) (bs : List Bound) (is made : List Planned) (bound : List ℕ) : Type 0 where
  pub uses : Uses jobs bs
  pub inside : AllInside (length bs) jobs
  pub opened : picked true (sorts bs) ≡ map interface_asked (flat_map request_in jobs)
  pub set_up : bound ≡ picked false (sorts bs)
  pub interfaces : made ≡ is
  pub few : length bs ≤ 1024

abbrev pub Kept : Draft → Type 0
Kept d = KeptOf d.jobs d.bindings d.interfaces (interfaces_in d.setup) (bound_in d.setup)

moved : (jobs jobs' : List Job) (bs bs' : List Bound) (is is' made made' : List Planned) (bound bound' : List ℕ) → jobs' ≡ jobs → bs' ≡ bs → is' ≡ is
    → made' ≡ made → bound' ≡ bound
    → KeptOf jobs bs is made bound → KeptOf jobs' bs' is' made' bound'
moved jobs jobs' bs bs' is is' made made' bound bound' a b c d e h =
    subst (λ x. KeptOf x bs' is' made' bound') (sym a) (subst (λ x. KeptOf jobs x is' made' bound') (sym b)
    (subst (λ x. KeptOf jobs bs x made' bound') (sym c) (subst (λ x. KeptOf jobs bs is x bound') (sym d) (subst (λ x. KeptOf jobs bs is made x) (sym e) h))))

-- ---- one binding more

fresh_use : (opened : Bool) (i : ℕ) (s : Side) → use_at s (fresh opened i) ≡ free
fresh_use opened i Client = refl
fresh_use opened i Server = refl

uses_bound : (jobs : List Job) (bs : List Bound) (opened : Bool) (i : ℕ) → Uses jobs bs → AllInside (length bs) jobs → Uses jobs (bs ++ fresh opened i ∷ [])
uses_bound jobs bs opened i h inside k b at s = by (got bs (fresh opened i) b k at) where
  by : (slice_get bs k ≡ Some b) ⊎ ((k ≡ length bs) × (fresh opened i ≡ b)) → use_at s b ≡ use_in jobs (end_at s k)
  by (inl before) = h k b before s
  by (inr (there, same)) =
      ap (use_at s) (sym same) ∙ fresh_use opened i s ∙ sym (none_there (length bs) (end_at s k) jobs (omega (arith, there)) inside)

sorts_push : (bs : List Bound) (b : Bound) → sorts (bs ++ b ∷ []) ≡ sorts bs ++ sort_of b ∷ []
sorts_push bs b = map-append sort_of bs (b ∷ [])

picked_push : (o : Bool) (bs : List Bound) (b : Bound) → picked o (sorts (bs ++ b ∷ [])) ≡ picked o (sorts bs) ++ picks o (sort_of b)
picked_push o bs b = ap (picked o) (sorts_push bs b) ∙ flat_push (picks o) (sorts bs) (sort_of b)

longer : (bs : List Bound) (b : Bound) → length bs ≤ length (bs ++ b ∷ [])
longer bs b = omega (arith, length_push bs b)

-- where there was room for one more
one_left : (bs : List Bound) (b : Bound) → nat_le 1024 (length bs) ≡ false → length (bs ++ b ∷ []) ≤ 1024
one_left bs b room = let fewer : length bs < 1024 = leb-false 1024 (length bs) room in omega (arith, length_push bs b, fewer)

-- ---- one job more

requests_stay : (jobs : List Job) (job : Job) → request_in job ≡ [] → flat_map request_in (jobs ++ job ∷ []) ≡ flat_map request_in jobs
requests_stay jobs job none = flat_push request_in jobs job ∙ ap (λ ws. flat_map request_in jobs ++ ws) none ∙ append-nil (flat_map request_in jobs)

-- what was looked at, at an end without a fault
pub record Found (bs : List Bound) (is : List Planned) (e : EndId) (finds : Bound → Planned → Option ℕ) : Type 0 where
  pub bound : Bound
  pub bound_is : slice_get bs e.binding ≡ Some bound
  pub planned : Planned
  pub planned_is : slice_get is bound.interface ≡ Some planned
  pub none : finds bound planned ≡ None

pub found : (e : EndId) (finds : Bound → Planned → Option ℕ) (d : Draft) → fault_at e finds d ≡ None → Found d.bindings d.interfaces e finds
found e finds d h = by (slice_get d.bindings e.binding) refl h where
  inner : (b : Bound) → slice_get d.bindings e.binding ≡ Some b → (o : Option Planned) → slice_get d.interfaces b.interface ≡ o
      → given o (Some 92) (λ i. finds b i) ≡ None
      → Found d.bindings d.interfaces e finds
  inner b at None there nothing = absurd (cc)
  inner b at (Some i) there nothing = record { bound = b; bound_is = at; planned = i; planned_is = there; none = nothing }

  by : (o : Option Bound) → slice_get d.bindings e.binding ≡ o
      → given o (Some 92) (λ b. given (slice_get d.interfaces b.interface) (Some 92) λ i. finds b i) ≡ None
      → Found d.bindings d.interfaces e finds
  by None at nothing = absurd (cc)
  by (Some b) at nothing = inner b at (slice_get d.interfaces b.interface) refl nothing

and_false : (b : Bool) → (b && false) ≡ false
and_false true = refl
and_false false = refl

side_use : (t s : Side) (n : ℕ) (u : Use) (b : Bound) (jobs : List Job) (job : Job) → Makes jobs job (end_at t n) u
    → ((r : Side) → use_at r b ≡ use_in jobs (end_at r n))
    → use_at s (with_use t u b) ≡ use_in (jobs ++ job ∷ []) (end_at s n)
side_use Client Client n u b jobs job m h = sym m.here
side_use Server Server n u b jobs job m h = sym m.here
side_use Client Server n u b jobs job m h = h Server ∙ sym (use_stays jobs job (end_at Server n) (m.elsewhere (end_at Server n) (and_false (n == n))))
side_use Server Client n u b jobs job m h = h Client ∙ sym (use_stays jobs job (end_at Client n) (m.elsewhere (end_at Client n) (and_false (n == n))))

uses_job : (jobs : List Job) (job : Job) (bs : List Bound) (t : Side) (n : ℕ) (u : Use) → Uses jobs bs → (b0 : Bound) → slice_get bs n ≡ Some b0
    → Makes jobs job (end_at t n) u
    → Uses (jobs ++ job ∷ []) (changed_at n (with_use t u) bs)
uses_job jobs job bs t n u h b0 at0 m k b at s = by (k == n) refl where
  more : List Job
  more = jobs ++ job ∷ []

  by : (t : Bool) → (k == n) ≡ t → use_at s b ≡ use_in more (end_at s k)
  by true q =
      let same : k ≡ n = eqb-true k n q in
      let here = changed_here bs n (with_use t u) b0 at0 in
      let b_is : with_use t u b0 ≡ b = some_same _ _ (sym here ∙ ap (slice_get (changed_at n (with_use t u) bs)) (sym same) ∙ at) in
      ap (use_at s) (sym b_is) ∙ side_use t s n u b0 jobs job m (h n b0 at0) ∙ ap (λ j. use_in more (end_at s j)) (sym same)
  by false q =
      let ne : k ≡ n → ⊥ = eqb-false k n q in
      h k b (sym (changed_else bs n k (with_use t u) ne) ∙ at) s
      ∙ sym (use_stays jobs job (end_at s k) (m.elsewhere (end_at s k) (bindings_apart (end_at s k) (end_at t n) ne)))

-- a job at an end that is there
kept_job : (jobs : List Job) (job : Job) (bs : List Bound) (is made : List Planned) (bound : List ℕ) (t : Side) (n : ℕ) (u : Use)
    → KeptOf jobs bs is made bound → (b0 : Bound)
    → slice_get bs n ≡ Some b0 → Makes jobs job (end_at t n) u → IsInside (length bs) job → request_in job ≡ []
    → KeptOf (jobs ++ job ∷ []) (changed_at n (with_use t u) bs) is made bound
kept_job jobs job bs is made bound t n u h b0 at m inside none =
    let same = sorts_changed bs n t u in
    record {
      uses = uses_job jobs job bs t n u h.uses b0 at m;
      inside = subst (λ k. AllInside k (jobs ++ job ∷ [])) (sym (length_changed bs n (with_use t u))) (inside_push (length bs) jobs job h.inside inside);
      opened = ap (picked true) same ∙ h.opened ∙ ap (map interface_asked) (sym (requests_stay jobs job none));
      set_up = h.set_up ∙ ap (picked false) (sym same);
      interfaces = h.interfaces;
      few = omega (arith, length_changed bs n (with_use t u), h.few);
    }

call_free : (s : Side) (c : TheCall) (b : Bound) (i : Planned) → call_fault s c b i ≡ None → is_for_rules (use_at s b) ≡ false
call_free s c b i = by (nat_le (length i.interface.messages) c.msg) (not (fits_of i.interface c)) (is_for_rules (use_at s b)) where
  by : (x y z : Bool) → cond {A = Option ℕ} x (Some 41) (cond {A = Option ℕ} y (Some 42) (cond {A = Option ℕ} z (Some 44) None)) ≡ None → z ≡ false
  by true y z h = absurd (cc)
  by false true z h = absurd (cc)
  by false false true h = absurd (cc)
  by false false false h = refl

kept_on : (c d : Draft) → Kept c → Change c d → Kept d
kept_on c d h (quiet js bs is s) = moved c.jobs d.jobs c.bindings d.bindings c.interfaces d.interfaces _ _ _ _ js bs is s.interfaces s.bound h
kept_on c d h (adds i js bs is made bound only) =
    moved c.jobs d.jobs c.bindings d.bindings (c.interfaces ++ i ∷ []) d.interfaces (interfaces_in c.setup ++ i ∷ []) _ _ _ js bs is made bound
    (record { uses = h.uses; inside = h.inside; opened = h.opened; set_up = h.set_up; interfaces = ap (λ xs. xs ++ i ∷ []) h.interfaces; few = h.few })
kept_on c d h (joins i js bs is made bound only few) =
    moved c.jobs d.jobs (c.bindings ++ fresh false i ∷ []) d.bindings c.interfaces d.interfaces _ _ (bound_in c.setup ++ i ∷ []) _ js bs is made bound
    (record {
      uses = uses_bound c.jobs c.bindings false i h.uses h.inside;
      inside = inside_more (length c.bindings) (length (c.bindings ++ fresh false i ∷ [])) c.jobs (longer c.bindings (fresh false i)) h.inside;
      opened = picked_push true c.bindings (fresh false i) ∙ append-nil (picked true (sorts c.bindings)) ∙ h.opened;
      set_up = ap (λ ns. ns ++ i ∷ []) h.set_up ∙ sym (picked_push false c.bindings (fresh false i));
      interfaces = h.interfaces;
      few = one_left c.bindings (fresh false i) few;
    })
kept_on c d h (asks w js bs is s there few) =
    let b : Bound = fresh true w.interface in
    moved (c.jobs ++ opens w ∷ []) d.jobs (c.bindings ++ b ∷ []) d.bindings c.interfaces d.interfaces _ _ _ _ js bs is s.interfaces s.bound
    (record {
      uses = λ k x at r. uses_bound c.jobs c.bindings true w.interface h.uses h.inside k x at r
          ∙ sym (use_stays c.jobs (opens w) (end_at r k) (record { calls = refl; rule = refl }));
      inside = inside_push (length (c.bindings ++ b ∷ [])) c.jobs (opens w)
          (inside_more (length c.bindings) (length (c.bindings ++ b ∷ [])) c.jobs (longer c.bindings b) h.inside) tt;
      opened =
          picked_push true c.bindings b ∙ ap (λ ns. ns ++ w.interface ∷ []) h.opened
          ∙ sym (ap (map interface_asked) (flat_push request_in c.jobs (opens w)) ∙ map-append interface_asked (flat_map request_in c.jobs) (w ∷ []));
      set_up = h.set_up ∙ sym (picked_push false c.bindings b ∙ append-nil (picked false (sorts c.bindings)));
      interfaces = h.interfaces;
      few = one_left c.bindings b few;
    })
kept_on c d h (makes e x js bs is s none) =
    let f = found e (call_fault e.side x) c none in
    let free_there = call_free e.side x f.bound f.planned f.none in
    let ruled = no_rules c.jobs e (ap is_for_rules (sym (h.uses e.binding f.bound f.bound_is e.side)) ∙ free_there) in
    moved (c.jobs ++ calls e x ∷ []) d.jobs _ d.bindings c.interfaces d.interfaces _ _ _ _ js bs is s.interfaces s.bound
    (kept_job c.jobs (calls e x) c.bindings c.interfaces _ _ e.side e.binding makes_calls h f.bound f.bound_is (makes_calls_there c.jobs e x ruled)
    (slice_get_within c.bindings e.binding f.bound f.bound_is) refl)
kept_on c d h (rules e msg answer js bs is s none) =
    let f = found e (rule_fault e.side msg answer) c none in
    moved (c.jobs ++ replies e msg answer ∷ []) d.jobs _ d.bindings c.interfaces d.interfaces _ _ _ _ js bs is s.interfaces s.bound
    (kept_job c.jobs (replies e msg answer) c.bindings c.interfaces _ _ e.side e.binding for_rules h f.bound f.bound_is
    (makes_rules_there c.jobs e msg answer) (slice_get_within c.bindings e.binding f.bound f.bound_is) refl)

pub kept_by : (lines : List Event) (d : Draft) → ComeTo lines d → Kept d
kept_by [] d is =
    subst Kept (sym is) (record { uses = λ k b at s. absurd (none_at k b at); inside = tt; opened = refl; set_up = refl; interfaces = refl; few = omega arith })
kept_by (v ∷ lines) d (c, come, e) = kept_on c d (kept_by lines c come) (change v c d e)

-- all that is asked for before the cores run sets something up
only_on : (c d : Draft) → Change c d → OnlySetsUp c → OnlySetsUp d
only_on c d (quiet js bs is s) h = s.only h
only_on c d (adds i js bs is made bound only) h = only h
only_on c d (joins i js bs is made bound only few) h = only h
only_on c d (asks w js bs is s there few) h = s.only h
only_on c d (makes e x js bs is s none) h = s.only h
only_on c d (rules e msg answer js bs is s none) h = s.only h

pub only_set_up : (lines : List Event) (d : Draft) → ComeTo lines d → OnlySetsUp d
only_set_up [] d is = subst OnlySetsUp (sym is) refl
only_set_up (v ∷ lines) d (c, come, e) = only_on c d (change v c d e) (only_set_up lines c come)

-- ---- where a job stood

-- it had no fault behind the lines before its own
abbrev pub WasAsked : Draft → Job → Type 0
WasAsked c (opens w) = (is_interface w.interface c ≡ true) × (nat_le 1024 (length c.bindings) ≡ false)
WasAsked c (replies e msg answer) = fault_at e (rule_fault e.side msg answer) c ≡ None
WasAsked c (calls e x) = fault_at e (call_fault e.side x) c ≡ None

pub record Grew (c d : Draft) : Type 0 where
  pub sorts : IsPrefix (sorts c.bindings) (sorts d.bindings)
  pub interfaces : IsPrefix c.interfaces d.interfaces

pub record Stood (d : Draft) (n : ℕ) (job : Job) : Type 0 where
  pub before : Draft
  pub kept : Kept before
  pub jobs : before.jobs ≡ take n d.jobs
  pub grew : Grew before d
  pub asked : WasAsked before job

same_prefix : {X : Type 0} (xs ys : List X) → ys ≡ xs → IsPrefix xs ys
same_prefix xs ys e = ([], e ∙ sym (append-nil xs))

prefix_on : {X : Type 0} (xs ys zs : List X) → IsPrefix xs ys → IsPrefix ys zs → IsPrefix xs zs
prefix_on xs ys zs (a, e) (b, f) = (a ++ b, f ∙ ap (λ t. t ++ b) e ∙ append_assoc xs a b)

grew_on : (b c d : Draft) → Grew b c → Grew c d → Grew b d
grew_on b c d x y = record {
  sorts = prefix_on (sorts b.bindings) (sorts c.bindings)
      (sorts d.bindings) x.sorts y.sorts;
  interfaces = prefix_on b.interfaces c.interfaces d.interfaces x.interfaces y.interfaces;
}

grew_by : (c d : Draft) → Change c d → Grew c d
grew_by c d (quiet js bs is s) = record {
  sorts = same_prefix (sorts c.bindings) (sorts d.bindings)
      (ap sorts bs);
  interfaces = same_prefix c.interfaces d.interfaces is;
}
grew_by c d (adds i js bs is made bound only) = record { sorts = same_prefix (sorts c.bindings) (sorts d.bindings) (ap sorts bs); interfaces = (i ∷ [], is) }
grew_by c d (joins i js bs is made bound only few) = record {
  sorts =
      (sort_of (fresh false i) ∷ [], ap sorts bs ∙ sorts_push c.bindings (fresh false i));
  interfaces = same_prefix c.interfaces d.interfaces is;
}
grew_by c d (asks w js bs is s there few) = record {
  sorts = (sort_of (fresh true w.interface) ∷ [], ap sorts bs ∙ sorts_push c.bindings (fresh true w.interface));
  interfaces = same_prefix c.interfaces d.interfaces is;
}
grew_by c d (makes e x js bs is s none) = record {
  sorts = same_prefix (sorts c.bindings) (sorts d.bindings) (ap sorts bs ∙ sorts_changed c.bindings e.binding e.side makes_calls);
  interfaces = same_prefix c.interfaces d.interfaces is;
}
grew_by c d (rules e msg answer js bs is s none) = record {
  sorts = same_prefix (sorts c.bindings) (sorts d.bindings) (ap sorts bs ∙ sorts_changed c.bindings e.binding e.side for_rules);
  interfaces = same_prefix c.interfaces d.interfaces is;
}

-- a job that stood before stands still
later : (c d : Draft) (n : ℕ) (job : Job) → Grew c d → take n d.jobs ≡ take n c.jobs → Stood c n job → Stood d n job
later c d n job grew same s = record { before = s.before; kept = s.kept; jobs = s.jobs ∙ sym same; grew = grew_on s.before c d s.grew grew; asked = s.asked }

take_whole : {X : Type 0} (xs ys : List X) → take (length xs) (xs ++ ys) ≡ xs
take_whole [] [] = refl
take_whole [] (y ∷ ys) = refl
take_whole (x ∷ xs) ys = ap (λ t. x ∷ t) (take_whole xs ys)

-- one job more: it is the new one, or stood before
pushed : (c d : Draft) (one : Job) (n : ℕ) (job : Job) → Kept c → Grew c d → d.jobs ≡ c.jobs ++ one ∷ [] → WasAsked c one
    → ((k : ℕ) (x : Job) → slice_get c.jobs k ≡ Some x → Stood c k x) → slice_get d.jobs n ≡ Some job → Stood d n job
pushed c d one n job kept grew js asked before at = by (got c.jobs one job n (ap (λ xs. slice_get xs n) (sym js) ∙ at)) where
  by : (slice_get c.jobs n ≡ Some job) ⊎ ((n ≡ length c.jobs) × (one ≡ job)) → Stood d n job
  by (inl there) =
      let inside = slice_get_within c.jobs n job there in
      later c d n job grew (ap (take n) js ∙ take-append-le n c.jobs (one ∷ []) (omega (arith, inside))) (before n job there)
  by (inr (last_is, same)) = record {
    before = c;
    kept = kept;
    jobs = sym (ap (λ k. take k d.jobs) last_is ∙ ap (take (length c.jobs)) js ∙ take_whole c.jobs (one ∷ []));
    grew = grew;
    asked = subst (WasAsked c) same asked;
  }

unmoved : (c d : Draft) (n : ℕ) (job : Job) → Grew c d → d.jobs ≡ c.jobs → ((k : ℕ) (x : Job) → slice_get c.jobs k ≡ Some x → Stood c k x)
    → slice_get d.jobs n ≡ Some job → Stood d n job
unmoved c d n job grew js before at = later c d n job grew (ap (take n) js) (before n job (ap (λ xs. slice_get xs n) (sym js) ∙ at))

stood_on : (c d : Draft) → Kept c → Change c d → ((k : ℕ) (x : Job) → slice_get c.jobs k ≡ Some x → Stood c k x) → (n : ℕ) (job : Job)
    → slice_get d.jobs n ≡ Some job → Stood d n job
stood_on c d h (quiet js bs is s) before n job at = unmoved c d n job (grew_by c d (quiet js bs is s)) js before at
stood_on c d h (adds i js bs is made bound only) before n job at = unmoved c d n job (grew_by c d (adds i js bs is made bound only)) js before at
stood_on c d h (joins i js bs is made bound only few) before n job at = unmoved c d n job (grew_by c d (joins i js bs is made bound only few)) js before at
stood_on c d h (asks w js bs is s there few) before n job at = pushed c d (opens w) n job h (grew_by c d (asks w js bs is s there few)) js
    (there, few) before at
stood_on c d h (makes e x js bs is s none) before n job at = pushed c d (calls e x) n job h (grew_by c d (makes e x js bs is s none)) js none before at
stood_on c d h (rules e msg answer js bs is s none) before n job at = pushed c d (replies e msg answer) n job h
    (grew_by c d (rules e msg answer js bs is s none)) js none before at

pub stood : (lines : List Event) (d : Draft) → ComeTo lines d → (n : ℕ) (job : Job) → slice_get d.jobs n ≡ Some job → Stood d n job
stood [] d is n job at = absurd (none_at n job (ap (λ (x : Draft). slice_get x.jobs n) (sym is) ∙ at))
stood (v ∷ lines) d (c, come, e) n job at = stood_on c d (kept_by lines c come) (change v c d e) (stood lines c come) n job at
