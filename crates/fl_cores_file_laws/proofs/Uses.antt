-- What the jobs at an end are, as the draft keeps it and as the jobs tell it.
use Rattle.std.proofs.Common.{◌≡◌, refl, ◌∙◌, ap, ℕ, ◌<◌, ◌≤◌, ◌==◌, ◌&&◌, ◌||◌, cond, Bool, true, false, List, [], ◌∷◌, ◌++◌, arith}
use Rattle.std.proofs.lemmas.Bool.{ne_eqb, eq-eqb}
use Rattle.std.proofs.lemmas.List.{append-nil}
use Rattle.std.proofs.lemmas.List.Concat.{flat_map-append, flat_map-cons}
use Rattle.fl_base.specs.declared.identity.EndId.{EndId}
use Rattle.fl_base.specs.declared.identity.Side.{Side}
use Rattle.fl_base.specs.declared.identity.Side.TheVariants.{Client, Server}
use Rattle.fl_value_data.specs.Value.{TheCall}
use Rattle.fl_model.specs.Runs.{same_side, same_end}
use Rattle.fl_cores_file.specs.Draft.{Use, free, makes_calls, has_rules as for_rules, is_for_rules}
use Rattle.fl_cores_file.specs.Jobs.{Job, opens, replies, calls, calls_in, own_calls, is_rule_at, has_rules}
use Rattle.fl_cores_jobs.specs.EndWork.{are_some}
use Rattle.fl_cores_jobs.specs.Faults.{use_in}

abbrev pub end_at : Side → ℕ → EndId
end_at s k = record { binding = k; side = s }

abbrev pub use_by : Bool → List TheCall → Use
use_by ruled own = cond ruled for_rules (cond (are_some own) makes_calls free)

pub use_is : (jobs : List Job) (e : EndId) → use_in jobs e ≡ use_by (has_rules jobs e) (own_calls jobs e)
use_is jobs e = refl

pub use_same : (jobs more : List Job) (e f : EndId) → has_rules more f ≡ has_rules jobs e → own_calls more f ≡ own_calls jobs e → use_in more f ≡ use_in jobs e
use_same jobs more e f ruled own = ap (λ b. use_by b (own_calls more f)) ruled ∙ ap (use_by (has_rules jobs e)) own

-- ---- ends apart

pub bindings_apart : (e f : EndId) → (e.binding ≡ f.binding → ⊥) → same_end e f ≡ false
bindings_apart e f ne = ap (λ b. b && same_side e.side f.side) (ne_eqb e.binding f.binding ne)

-- ---- jobs at ends of so many bindings

abbrev pub IsInside : ℕ → Job → Type 0
IsInside n (opens w) = Unit {0}
IsInside n (replies e msg answer) = e.binding < n
IsInside n (calls e c) = e.binding < n

abbrev pub AllInside : ℕ → List Job → Type 0
AllInside n [] = Unit {0}
AllInside n (job ∷ jobs) = IsInside n job × AllInside n jobs

one_more : (n m : ℕ) (job : Job) → n ≤ m → IsInside n job → IsInside m job
one_more n m (opens w) le h = tt
one_more n m (replies e msg answer) le h = omega (arith, h, le)
one_more n m (calls e c) le h = omega (arith, h, le)

pub inside_more : (n m : ℕ) (jobs : List Job) → n ≤ m → AllInside n jobs → AllInside m jobs
inside_more n m [] le h = tt
inside_more n m (job ∷ jobs) le h = (one_more n m job le h.0, inside_more n m jobs le h.1)

pub inside_push : (n : ℕ) (jobs : List Job) (job : Job) → AllInside n jobs → IsInside n job → AllInside n (jobs ++ job ∷ [])
inside_push n [] job h one = (one, tt)
inside_push n (j ∷ jobs) job h one = (h.0, inside_push n jobs job h.1 one)

-- a job does nothing at an end of another binding
pub record IsElsewhere (e : EndId) (job : Job) : Type 0 where
  pub calls : calls_in e job ≡ []
  pub rule : is_rule_at e job ≡ false

elsewhere_by : (e f : EndId) (c : TheCall) → same_end e f ≡ false → IsElsewhere e (calls f c)
elsewhere_by e f c apart = record { calls = ap (λ b. cond b (c ∷ []) []) apart; rule = refl }

rule_elsewhere_by : (e f : EndId) (msg answer : ℕ) → same_end e f ≡ false → IsElsewhere e (replies f msg answer)
rule_elsewhere_by e f msg answer apart = record { calls = refl; rule = apart }

beyond : (n : ℕ) (e : EndId) (job : Job) → n ≤ e.binding → IsInside n job → IsElsewhere e job
beyond n e (opens w) le h = record { calls = refl; rule = refl }
beyond n e (replies f msg answer) le h = rule_elsewhere_by e f msg answer (bindings_apart e f (λ same. omega (arith, same, le, h)))
beyond n e (calls f c) le h = elsewhere_by e f c (bindings_apart e f (λ same. omega (arith, same, le, h)))

none_by : (n : ℕ) (e : EndId) (jobs : List Job) → n ≤ e.binding → AllInside n jobs → (has_rules jobs e ≡ false) × (own_calls jobs e ≡ [])
none_by n e [] le h = (refl, refl)
none_by n e (job ∷ jobs) le h =
    let one = beyond n e job le h.0 in
    let others = none_by n e jobs le h.1 in (
      ap (λ b. b || has_rules jobs e) one.rule ∙ others.0,
      flat_map-cons (calls_in e) job jobs ∙ ap (λ (xs : List TheCall). xs ++ own_calls jobs e) one.calls ∙ others.1,
    )

-- so nothing is done at an end of a binding that isn't there yet
pub none_there : (n : ℕ) (e : EndId) (jobs : List Job) → n ≤ e.binding → AllInside n jobs → use_in jobs e ≡ free
none_there n e jobs le h = let none = none_by n e jobs le h in ap (λ b. use_by b (own_calls jobs e)) none.0 ∙ ap (use_by false) none.1

-- ---- one job more

own_more : (jobs : List Job) (job : Job) (e : EndId) → own_calls (jobs ++ job ∷ []) e ≡ own_calls jobs e ++ calls_in e job
own_more jobs job e =
    flat_map-append (calls_in e) jobs (job ∷ [])
    ∙ ap (λ (t : List TheCall). own_calls jobs e ++ t) (flat_map-cons (calls_in e) job [] ∙ append-nil (calls_in e job))

calls_stay : (jobs : List Job) (job : Job) (e : EndId) → calls_in e job ≡ [] → own_calls (jobs ++ job ∷ []) e ≡ own_calls jobs e
calls_stay jobs job e none =
    own_more jobs job e ∙ ap (λ (t : List TheCall). own_calls jobs e ++ t) none ∙ append-nil (own_calls jobs e)

or_false : (b : Bool) → (b || false) ≡ b
or_false true = refl
or_false false = refl

or_more : (b x y q : Bool) → x ≡ (y || q) → (b || x) ≡ ((b || y) || q)
or_more true x y q h = refl
or_more false x y q h = h

has_more : (jobs : List Job) (job : Job) (e : EndId) → has_rules (jobs ++ job ∷ []) e ≡ (has_rules jobs e || is_rule_at e job)
has_more [] job e = or_false (is_rule_at e job)
has_more (j ∷ jobs) job e = or_more (is_rule_at e j) (has_rules (jobs ++ job ∷ []) e) (has_rules jobs e) (is_rule_at e job) (has_more jobs job e)

pub use_stays : (jobs : List Job) (job : Job) (e : EndId) → IsElsewhere e job → use_in (jobs ++ job ∷ []) e ≡ use_in jobs e
use_stays jobs job e h =
    use_same jobs (jobs ++ job ∷ []) e e (has_more jobs job e ∙ ap (λ b. has_rules jobs e || b) h.rule ∙ or_false (has_rules jobs e))
    (calls_stay jobs job e h.calls)

-- what a job makes of its end, and that it does nothing elsewhere
pub record Makes (jobs : List Job) (job : Job) (e : EndId) (u : Use) : Type 0 where
  pub here : use_in (jobs ++ job ∷ []) e ≡ u
  pub elsewhere : (f : EndId) → same_end f e ≡ false → IsElsewhere f job

sides_same : (s : Side) → same_side s s ≡ true
sides_same Client = refl
sides_same Server = refl

number_same : (n : ℕ) → (n == n) ≡ true
number_same n = eq-eqb n n refl

pub end_same : (e : EndId) → same_end e e ≡ true
end_same e = ap (λ b. b && same_side e.side e.side) (number_same e.binding) ∙ sides_same e.side

some_more : (xs : List TheCall) (x : TheCall) → are_some (xs ++ x ∷ []) ≡ true
some_more [] x = refl
some_more (y ∷ xs) x = refl

own_push : (jobs : List Job) (e : EndId) (c : TheCall) → own_calls (jobs ++ calls e c ∷ []) e ≡ own_calls jobs e ++ c ∷ []
own_push jobs e c = own_more jobs (calls e c) e ∙ ap (λ b. own_calls jobs e ++ cond b (c ∷ []) []) (end_same e)

pub makes_calls_there : (jobs : List Job) (e : EndId) (c : TheCall) → has_rules jobs e ≡ false → Makes jobs (calls e c) e makes_calls
makes_calls_there jobs e c none = record {
  here =
      ap (λ b. use_by b (own_calls (jobs ++ calls e c ∷ []) e)) (has_more jobs (calls e c) e ∙ or_false (has_rules jobs e) ∙ none)
      ∙ ap (λ xs. use_by false xs) (own_push jobs e c)
      ∙ ap (λ b. cond b makes_calls free) (some_more (own_calls jobs e) c);
  elsewhere = λ f apart. elsewhere_by f e c apart;
}

or_true : (b : Bool) → (b || true) ≡ true
or_true true = refl
or_true false = refl

pub makes_rules_there : (jobs : List Job) (e : EndId) (msg answer : ℕ) → Makes jobs (replies e msg answer) e for_rules
makes_rules_there jobs e msg answer = record {
  here =
      ap (λ b. use_by b (own_calls (jobs ++ replies e msg answer ∷ []) e))
      (has_more jobs (replies e msg answer) e ∙ ap (λ b. has_rules jobs e || b) (end_same e) ∙ or_true (has_rules jobs e));
  elsewhere = λ f apart. rule_elsewhere_by f e msg answer apart;
}

-- an end that has no rules by what it is
pub no_rules : (jobs : List Job) (e : EndId) → is_for_rules (use_in jobs e) ≡ false → has_rules jobs e ≡ false
no_rules jobs e = by (has_rules jobs e) where
  by : (b : Bool) → is_for_rules (use_by b (own_calls jobs e)) ≡ false → b ≡ false
  by true h = absurd (cc)
  by false h = refl
