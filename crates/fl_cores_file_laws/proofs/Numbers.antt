-- The numbers of bindings: those that are set up come first. Jobs that name their ends by numbers make of them what those do that name them by lines.
use Rattle.std.proofs.Common.{◌≡◌, ◌⊎◌, inl, inr, refl, sym, ◌∙◌, ap, ℕ, zero, suc, ◌<◌, ◌≤◌, ◌+◌, ◌==◌, ◌&&◌, ◌||◌, cond, Bool, true, false, List, [], ◌∷◌, ◌++◌, length, map, take, slice_get, not, Some, arith}
use Rattle.std.specs.Prelude.{unwrap_or}
use Rattle.std.specs.List.{flat_map}
use Rattle.std.proofs.lemmas.Bool.{ne_eqb, eq-eqb, eqb-true, eqb-false, cases_lt}
use Rattle.std.proofs.lemmas.List.{length-append}
use Rattle.std.proofs.lemmas.List.Concat.{flat_map-cons}
use Rattle.std.proofs.lemmas.List.Recursion.{is_count_by}
use Rattle.std.proofs.lemmas.Option.{slice_get_within}
use Rattle.fl_base.specs.declared.identity.EndId.{EndId}
use Rattle.fl_value_data.specs.Value.{TheCall}
use Rattle.fl_model.specs.Runs.{same_side, same_end}
use Rattle.fl_model_laws.proofs.Small.{some_same}
use Rattle.fl_cores_file.specs.CoresFile.{numbers_from, numbers_of, count_set_up, numbered, end_by, job_by}
use Rattle.fl_cores_file.specs.Jobs.{TheCircuitRequest, Job, opens, replies, calls, calls_in, own_calls, is_rule_at, has_rules}
use Rattle.fl_cores_jobs.specs.Faults.{use_in}
use Rattle.fl_cores_jobs.specs.Whole.{request_in}
use Rattle.fl_cores_file_laws.proofs.Uses.{use_same, IsInside, AllInside}
use Rattle.fl_cores_file_laws.proofs.Standing.{Sort, picks, picked}

abbrev pub which : List Sort → List Bool
which ss = map Sort.opened ss

-- of this kind are so many among the first k
abbrev pub before : Bool → List Sort → ℕ → ℕ
before o [] k = 0
before o (s ∷ ss) zero = 0
before o (s ∷ ss) (suc k) = length (picks o s) + before o ss k

-- the number of the binding at place k, which is opened or not
abbrev pub number_at : ℕ → ℕ → List Sort → ℕ → Bool → ℕ
number_at a b ss k true = b + before true ss k
number_at a b ss k false = a + before false ss k

head_number : (a b : ℕ) (s : Sort) (ss : List Sort) (o : Bool) → s.opened ≡ o
    → slice_get (numbers_from a b (s.opened ∷ which ss)) 0 ≡ Some (number_at a b (s ∷ ss) 0 o)
head_number a b s ss true is = ap (λ x. slice_get (numbers_from a b (x ∷ which ss)) 0) is ∙ ap Some (let e : b ≡ b + 0 = omega arith in e)
head_number a b s ss false is = ap (λ x. slice_get (numbers_from a b (x ∷ which ss)) 0) is ∙ ap Some (let e : a ≡ a + 0 = omega arith in e)

pub position : (a b : ℕ) (ss : List Sort) (k : ℕ) (s : Sort) → slice_get ss k ≡ Some s
    → slice_get (numbers_from a b (which ss)) k ≡ Some (number_at a b ss k s.opened)
position a b [] k s at = absurd (cc)
position a b (x ∷ ss) zero s at = head_number a b x ss s.opened (ap Sort.opened (some_same x s at))
position a b (x ∷ ss) (suc k) s at = by x.opened s.opened refl refl (position a (b + 1) ss k s at) (position (a + 1) b ss k s at) where
  opened_count : (o : Bool) → x.opened ≡ o → length (picks true x) ≡ length (cond {A = List ℕ} o (x.interface ∷ []) [])
  opened_count o is = ap (λ q. length (cond {A = List ℕ} q (x.interface ∷ []) [])) is

  other_count : (o : Bool) → x.opened ≡ o → length (picks false x) ≡ length (cond {A = List ℕ} o [] (x.interface ∷ []))
  other_count o is = ap (λ q. length (cond {A = List ℕ} q [] (x.interface ∷ []))) is

  by : (o r : Bool) → x.opened ≡ o → s.opened ≡ r → slice_get (numbers_from a (b + 1) (which ss)) k ≡ Some (number_at a (b + 1) ss k s.opened)
      → slice_get (numbers_from (a + 1) b (which ss)) k ≡ Some (number_at (a + 1) b ss k s.opened)
      → slice_get (numbers_from a b (x.opened ∷ which ss)) (suc k) ≡ Some (number_at a b (x ∷ ss) (suc k) s.opened)
  by true true is of h g =
      let one : length (picks true x) ≡ 1 = opened_count true is in
      ap (λ q. slice_get (numbers_from a b (q ∷ which ss)) (suc k)) is ∙ h ∙ ap (λ q. Some (number_at a (b + 1) ss k q)) of
      ∙ ap Some (let e : b + 1 + before true ss k ≡ b + (length (picks true x) + before true ss k) = omega (arith, one) in e)
      ∙ ap (λ q. Some (number_at a b (x ∷ ss) (suc k) q)) (sym of)
  by true false is of h g =
      let none : length (picks false x) ≡ 0 = other_count true is in
      ap (λ q. slice_get (numbers_from a b (q ∷ which ss)) (suc k)) is ∙ h ∙ ap (λ q. Some (number_at a (b + 1) ss k q)) of
      ∙ ap Some (let e : a + before false ss k ≡ a + (length (picks false x) + before false ss k) = omega (arith, none) in e)
      ∙ ap (λ q. Some (number_at a b (x ∷ ss) (suc k) q)) (sym of)
  by false true is of h g =
      let none : length (picks true x) ≡ 0 = opened_count false is in
      ap (λ q. slice_get (numbers_from a b (q ∷ which ss)) (suc k)) is ∙ g ∙ ap (λ q. Some (number_at (a + 1) b ss k q)) of
      ∙ ap Some (let e : b + before true ss k ≡ b + (length (picks true x) + before true ss k) = omega (arith, none) in e)
      ∙ ap (λ q. Some (number_at a b (x ∷ ss) (suc k) q)) (sym of)
  by false false is of h g =
      let one : length (picks false x) ≡ 1 = other_count false is in
      ap (λ q. slice_get (numbers_from a b (q ∷ which ss)) (suc k)) is ∙ g ∙ ap (λ q. Some (number_at (a + 1) b ss k q)) of
      ∙ ap Some (let e : a + 1 + before false ss k ≡ a + (length (picks false x) + before false ss k) = omega (arith, one) in e)
      ∙ ap (λ q. Some (number_at a b (x ∷ ss) (suc k) q)) (sym of)

-- ---- the interface of each kind in order

pub past_first : {X : Type 0} (xs ys : List X) (k : ℕ) → slice_get (xs ++ ys) (length xs + k) ≡ slice_get ys k
past_first [] ys k = ap (slice_get ys) (let e : 0 + k ≡ k = omega arith in e)
past_first (x ∷ xs) ys k = ap (slice_get (x ∷ (xs ++ ys))) (let e : length (x ∷ xs) + k ≡ suc (length xs + k) = omega arith in e) ∙ past_first xs ys k

picks_own : (o : Bool) (s : Sort) → s.opened ≡ o → picks o s ≡ s.interface ∷ []
picks_own true s is = ap (λ q. cond q (s.interface ∷ []) []) is
picks_own false s is = ap (λ q. cond q [] (s.interface ∷ [])) is

pub picked_at : (o : Bool) (ss : List Sort) (k : ℕ) (s : Sort) → slice_get ss k ≡ Some s → s.opened ≡ o
    → slice_get (picked o ss) (before o ss k) ≡ Some s.interface
picked_at o [] k s at is = absurd (cc)
picked_at o (x ∷ ss) zero s at is =
    let same : x ≡ s = some_same x s at in
    ap (λ xs. slice_get xs 0) (flat_map-cons (picks o) x ss ∙ ap (λ ys. ys ++ picked o ss) (picks_own o x (ap Sort.opened same ∙ is)))
    ∙ ap (λ (y : Sort). Some y.interface) same
picked_at o (x ∷ ss) (suc k) s at is =
    ap (λ xs. slice_get xs (length (picks o x) + before o ss k)) (flat_map-cons (picks o) x ss)
    ∙ past_first (picks o x) (picked o ss) (before o ss k) ∙ picked_at o ss k s at is

-- one is before the other
rises : (o : Bool) (ss : List Sort) (k m : ℕ) (s : Sort) → slice_get ss k ≡ Some s → s.opened ≡ o → k < m → before o ss k < before o ss m
rises o [] k m s at is lt = absurd (cc)
rises o (x ∷ ss) zero zero s at is lt = absurd (omega (arith, lt))
rises o (x ∷ ss) zero (suc m) s at is lt =
    let one : length (picks o x) ≡ 1 = ap length (picks_own o x (ap Sort.opened (some_same x s at) ∙ is)) in
    omega (arith, one)
rises o (x ∷ ss) (suc k) zero s at is lt = absurd (omega (arith, lt))
rises o (x ∷ ss) (suc k) (suc m) s at is lt = let h = rises o ss k m s at is (omega (arith, lt)) in omega (arith, h)

pub before_front : (o : Bool) (xs more : List Sort) (k : ℕ) → k ≤ length xs → before o (xs ++ more) k ≡ before o xs k
before_front o [] [] k le = refl
before_front o [] (y ∷ more) zero le = refl
before_front o [] (y ∷ more) (suc k) le = absurd (omega (arith, le))
before_front o (x ∷ xs) more zero le = refl
before_front o (x ∷ xs) more (suc k) le = ap (λ n. length (picks o x) + n) (before_front o xs more k (omega (arith, le)))

abbrev count_of : List Bool → ℕ
count_of [] = 0
count_of (q ∷ qs) = cond (not q) (1 + count_of qs) (count_of qs)

pub count_is : (ss : List Sort) → count_set_up (which ss) ≡ length (picked false ss)
count_is ss = sym (is_count_by count_of not refl (λ q qs. refl) (which ss)) ∙ counted ss
  where
    one : (q : Bool) (i n : ℕ) → cond (not q) (1 + n) n ≡ length (cond {A = List ℕ} q [] (i ∷ [])) + n
    one true i n = omega arith
    one false i n = refl

    counted : (xs : List Sort) → count_of (which xs) ≡ length (picked false xs)
    counted [] = refl
    counted (x ∷ xs) =
        one x.opened x.interface (count_of (which xs)) ∙ ap (λ n. length (picks false x) + n) (counted xs)
        ∙ sym (ap length (flat_map-cons (picks false) x xs) ∙ length-append (picks false x) (picked false xs))

-- ---- the numbers of all

abbrev pub numbers : List Sort → List ℕ
numbers ss = numbers_of (which ss)

pub numbers_long : (a b : ℕ) (ss : List Sort) → length (numbers_from a b (which ss)) ≡ length ss
numbers_long a b [] = refl
numbers_long a b (x ∷ ss) = by x.opened (numbers_long a (b + 1) ss) (numbers_long (a + 1) b ss)
  where
    by : (o : Bool) → length (numbers_from a (b + 1) (which ss)) ≡ length ss → length (numbers_from (a + 1) b (which ss)) ≡ length ss
        → length (numbers_from a b (o ∷ which ss)) ≡ suc (length ss)
    by true h g = ap suc h
    by false h g = ap suc g

pub number_is : (ss : List Sort) (k : ℕ) (s : Sort) → slice_get ss k ≡ Some s → numbered (numbers ss) k ≡ number_at 0 (count_set_up (which ss)) ss k s.opened
number_is ss k s at = ap (λ o. unwrap_or o k) (position 0 (count_set_up (which ss)) ss k s at)

abbrev pub AreApart : ℕ → List ℕ → Type 0
AreApart n ns = (i j : ℕ) → i < n → j < n → numbered ns i ≡ numbered ns j → i ≡ j

there : {X : Type 0} (xs : List X) (k : ℕ) → k < length xs → (x : X) × (slice_get xs k ≡ Some x)
there [] k lt = absurd (omega (arith, lt))
there (x ∷ xs) zero lt = (x, refl)
there (x ∷ xs) (suc k) lt = there xs k (omega (arith, lt))

-- the one at i comes first
in_order : (ss : List Sort) (i j : ℕ) (s t : Sort) → slice_get ss i ≡ Some s → slice_get ss j ≡ Some t → (a b : Bool) → s.opened ≡ a → t.opened ≡ b → i < j
    → number_at 0 (count_set_up (which ss)) ss i a ≡ number_at 0 (count_set_up (which ss)) ss j b → ⊥
in_order ss i j s t at here true true a b lt same = let h = rises true ss i j s at a lt in omega (arith, h, same)
in_order ss i j s t at here false false a b lt same = let h = rises false ss i j s at a lt in omega (arith, h, same)
in_order ss i j s t at here true false a b lt same = let h = slice_get_within (picked false ss) (before false ss j) t.interface
    (picked_at false ss j t here b) in omega (arith, h, same, count_is ss)
in_order ss i j s t at here false true a b lt same = let h = slice_get_within (picked false ss) (before false ss i) s.interface
    (picked_at false ss i s at a) in omega (arith, h, same, count_is ss)

pub apart : (ss : List Sort) → AreApart (length ss) (numbers ss)
apart ss i j low high same = by (cases_lt i j) (cases_lt j i) where
  si : (s : Sort) × (slice_get ss i ≡ Some s)
  si = there ss i low

  sj : (s : Sort) × (slice_get ss j ≡ Some s)
  sj = there ss j high

  alike : number_at 0 (count_set_up (which ss)) ss i si.0.opened ≡ number_at 0 (count_set_up (which ss)) ss j sj.0.opened
  alike = sym (number_is ss i si.0 si.1) ∙ same ∙ number_is ss j sj.0 sj.1

  by : (i < j) ⊎ (j ≤ i) → (j < i) ⊎ (i ≤ j) → i ≡ j
  by (inl lt) any = absurd (in_order ss i j si.0 sj.0 si.1 sj.1 si.0.opened sj.0.opened refl refl lt alike)
  by (inr le) (inl lt) = absurd (in_order ss j i sj.0 si.0 sj.1 si.1 sj.0.opened si.0.opened refl refl lt (sym alike))
  by (inr le) (inr ge) = omega (arith, le, ge)

-- ---- jobs by numbers

module _ (n : ℕ) (ns : List ℕ) (once : AreApart n ns) where
  number_test : (i j : ℕ) → i < n → j < n → (numbered ns i == numbered ns j) ≡ (i == j)
  number_test i j low high = by (i == j) refl where
    by : (b : Bool) → (i == j) ≡ b → (numbered ns i == numbered ns j) ≡ b
    by true q = eq-eqb (numbered ns i) (numbered ns j) (ap (numbered ns) (eqb-true i j q))
    by false q = ne_eqb (numbered ns i) (numbered ns j) (λ e. eqb-false i j q (once i j low high e))

  ends_test : (e f : EndId) → e.binding < n → f.binding < n → same_end (end_by ns e) (end_by ns f) ≡ same_end e f
  ends_test e f low high = ap (λ b. b && same_side e.side f.side) (number_test e.binding f.binding low high)

  calls_same : (e : EndId) (job : Job) → e.binding < n → IsInside n job → calls_in (end_by ns e) (job_by ns job) ≡ calls_in e job
  calls_same e (opens w) low h = refl
  calls_same e (replies f msg answer) low h = refl
  calls_same e (calls f c) low h = ap (λ b. cond b (c ∷ []) []) (ends_test e f low h)

  rule_same : (e : EndId) (job : Job) → e.binding < n → IsInside n job → is_rule_at (end_by ns e) (job_by ns job) ≡ is_rule_at e job
  rule_same e (opens w) low h = refl
  rule_same e (replies f msg answer) low h = ends_test e f low h
  rule_same e (calls f c) low h = refl

  own_same : (e : EndId) (jobs : List Job) → e.binding < n → AllInside n jobs → own_calls (map (job_by ns) jobs) (end_by ns e) ≡ own_calls jobs e
  own_same e [] low h = refl
  own_same e (job ∷ jobs) low h =
      flat_map-cons (calls_in (end_by ns e)) (job_by ns job) (map (job_by ns) jobs)
      ∙ ap (λ (xs : List TheCall). xs ++ own_calls (map (job_by ns) jobs) (end_by ns e)) (calls_same e job low h.0)
      ∙ ap (λ (xs : List TheCall). calls_in e job ++ xs) (own_same e jobs low h.1) ∙ sym (flat_map-cons (calls_in e) job jobs)

  rules_same : (e : EndId) (jobs : List Job) → e.binding < n → AllInside n jobs → has_rules (map (job_by ns) jobs) (end_by ns e) ≡ has_rules jobs e
  rules_same e [] low h = refl
  rules_same e (job ∷ jobs) low h =
      ap (λ b. b || has_rules (map (job_by ns) jobs) (end_by ns e)) (rule_same e job low h.0) ∙ ap (λ b. is_rule_at e job || b) (rules_same e jobs low h.1)

  pub uses_same : (e : EndId) (jobs : List Job) → e.binding < n → AllInside n jobs → use_in (map (job_by ns) jobs) (end_by ns e) ≡ use_in jobs e
  uses_same e jobs low h = use_same jobs (map (job_by ns) jobs) e (end_by ns e) (rules_same e jobs low h) (own_same e jobs low h)

pub requests_same : (ns : List ℕ) (jobs : List Job) → flat_map request_in (map (job_by ns) jobs) ≡ flat_map request_in jobs
requests_same ns [] = refl
requests_same ns (job ∷ jobs) =
    flat_map-cons request_in (job_by ns job) (map (job_by ns) jobs) ∙ ap (λ ws. ws ++ flat_map request_in (map (job_by ns) jobs)) (one job)
    ∙ ap (λ ws. request_in job ++ ws) (requests_same ns jobs) ∙ sym (flat_map-cons request_in job jobs)
  where
    one : (j : Job) → request_in (job_by ns j) ≡ request_in j
    one (opens w) = refl
    one (replies e msg answer) = refl
    one (calls e c) = refl

-- a circuit that is opened is one more than those before it
pub requests_past : (jobs : List Job) (n : ℕ) (w : TheCircuitRequest) → slice_get jobs n ≡ Some (opens w)
    → length (flat_map request_in (take n jobs)) + 1 ≤ length (flat_map request_in jobs)
requests_past [] n w at = absurd (cc)
requests_past (job ∷ jobs) zero w at =
    let is : job ≡ opens w = some_same job (opens w) at in
    let first : length (request_in job) ≡ 1 = ap (λ (j : Job). length (request_in j)) is in
    let all : length (flat_map request_in (job ∷ jobs)) ≡ length (request_in job) + length (flat_map request_in jobs) =
    ap length (flat_map-cons request_in job jobs) ∙ length-append (request_in job) (flat_map request_in jobs) in
    omega (arith, first, all)
requests_past (job ∷ jobs) (suc n) w at =
    let h = requests_past jobs n w at in
    let some : length (flat_map request_in (job ∷ take n jobs)) ≡ length (request_in job) + length (flat_map request_in (take n jobs)) =
    ap length (flat_map-cons request_in job (take n jobs)) ∙ length-append (request_in job) (flat_map request_in (take n jobs)) in
    let all : length (flat_map request_in (job ∷ jobs)) ≡ length (request_in job) + length (flat_map request_in jobs) =
    ap length (flat_map-cons request_in job jobs) ∙ length-append (request_in job) (flat_map request_in jobs) in
    omega (arith, h, some, all)

-- there are as many as of each kind
pub both_kinds : (ss : List Sort) → length ss ≡ length (picked false ss) + length (picked true ss)
both_kinds [] = refl
both_kinds (x ∷ ss) =
    let h = both_kinds ss in
    let first : length (picked false (x ∷ ss)) ≡ length (picks false x) + length (picked false ss) = ap length (flat_map-cons (picks false) x ss)
    ∙ length-append (picks false x) (picked false ss) in
    let other : length (picked true (x ∷ ss)) ≡ length (picks true x) + length (picked true ss) = ap length (flat_map-cons (picks true) x ss)
    ∙ length-append (picks true x) (picked true ss) in
    let one = once x.opened in
    omega (arith, h, first, other, one)
  where
    once : (q : Bool) → length (cond q [] (x.interface ∷ [])) + length (cond q (x.interface ∷ []) []) ≡ 1
    once true = refl
    once false = refl
