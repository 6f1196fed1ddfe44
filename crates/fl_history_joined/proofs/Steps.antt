-- An order of turns is one of steps, where each core's log is in turn.
use Rattle.std.proofs.Common.{ℕ, ◌≡◌, ◌≢◌, ◌≤◌, ◌<◌, ◌==◌, inl, inr, if◌then◌else◌, eq-eqb, ne_eqb, refl, sym, ◌∙◌}
use Rattle.std.proofs.Common.{ap, subst, Bool, true, false, List, [], ◌∷◌, ◌++◌, length, Option, Some, None, arith}
use Rattle.std.proofs.lemmas.Option.{slice_get_within}
use mathlib.Core.Logic.{dite}
use native.Mathlib.Decide.{dec_le, ℕ_discrete}
use Rattle.fl_core.specs.declared.core_job.CoreJob.{CoreJob}
use Rattle.fl_core_run.specs.LogEntries.{LogEntry}
use Rattle.fl_cores_joined.specs.Entries.{CoreStep, acts, looks, follows, OpenLooks, none_open, with_look, left_open}
use Rattle.fl_cores_joined.specs.Entries.{moments_of, StepByStep, FollowedStepsInterleave}
use Rattle.fl_cores_joined.specs.Joined.{JoinedCore, alone}
use Rattle.fl_cores_joined.specs.Steps.{HappensAt, IsWholeEvent, Follows}
use Rattle.fl_cores_joined.proofs.Joining.{long_set}
use Rattle.fl_history_joined.specs.InTurn.{AreInTurn}
use Rattle.fl_history_joined.specs.Runs.{turns_of, entries_at, OrdersAreRuns}
use Rattle.fl_history_orders.specs.Orders.{CoreEntry, HappenInTurn, entries_of}

-- ---- lists of one core's entries

then_is : {A : Type 0} (b : Bool) (x y : A) → b ≡ true → (if b then x else y) ≡ x
then_is true x y is = refl
then_is false x y is = absurd (cc)

else_is : {A : Type 0} (b : Bool) (x y : A) → b ≡ false → (if b then x else y) ≡ y
else_is false x y is = refl
else_is true x y is = absurd (cc)

here : (n m : ℕ) (log_entry : LogEntry) (log : List LogEntry) → m ≡ n → (if m == n then log_entry ∷ log else log) ≡ log_entry ∷ log
here n m log_entry log is = then_is (m == n) (log_entry ∷ log) log (eq-eqb m n is)

there : (n m : ℕ) (log_entry : LogEntry) (log : List LogEntry) → m ≢ n → (if m == n then log_entry ∷ log else log) ≡ log
there n m log_entry log other = else_is (m == n) (log_entry ∷ log) log (ne_eqb m n other)

open_here : (n k : ℕ) (o : Option LogEntry) (pending : OpenLooks) → k ≡ n → with_look n o pending k ≡ o
open_here n k o pending is = then_is (k == n) o (pending k) (eq-eqb k n is)

open_there : (n k : ℕ) (o : Option LogEntry) (pending : OpenLooks) → k ≢ n → with_look n o pending k ≡ pending k
open_there n k o pending other = else_is (k == n) o (pending k) (ne_eqb k n other)

-- ---- what is left of a core's log behind an open look

abbrev Left : OpenLooks → List CoreEntry → ℕ → Type 0
Left pending turns n = AreInTurn (pending n) (entries_of n turns)

next_of : (look : LogEntry) (log : List LogEntry) → AreInTurn (Some look) log → (log_entry : LogEntry) × Follows look log_entry
next_of look [] h = absurd h
next_of look (log_entry ∷ log) h = (log_entry, h.0)

-- the entry of this core comes first of its log
first_of : (pending : OpenLooks) (x : CoreEntry) (turns : List CoreEntry) → Left pending (x ∷ turns) x.core
    → AreInTurn (pending x.core) (x.log_entry ∷ entries_of x.core turns)
first_of pending x turns left =
    subst (λ (l : List LogEntry). AreInTurn (pending x.core) l) (here x.core x.core x.log_entry (entries_of x.core turns) refl) left

-- with a look open or closed at one core, the others' logs are as they were
others_left : (pending : OpenLooks) (x : CoreEntry) (turns : List CoreEntry) (o : Option LogEntry) → AreInTurn o (entries_of x.core turns)
    → (count : ℕ) → ((n : ℕ) → n < count → Left pending (x ∷ turns) n) → (n : ℕ) → n < count → Left (with_look x.core o pending) turns n
others_left pending x turns o its count left n low =
    dite (ℕ_discrete n x.core)
    (λ is.
    subst (λ (u : Option LogEntry). AreInTurn u (entries_of n turns)) (sym (open_here x.core n o pending is))
    (subst (λ (k : ℕ). AreInTurn o (entries_of k turns)) (sym is) its))
    (λ other.
    subst (λ (u : Option LogEntry). AreInTurn u (entries_of n turns)) (sym (open_there x.core n o pending other))
    (subst (λ (l : List LogEntry). AreInTurn (pending n) l) (there n x.core x.log_entry (entries_of n turns) (λ e. other (sym e))) (left n low)))

-- the same where none was opened or closed
same_left : (pending : OpenLooks) (x : CoreEntry) (turns : List CoreEntry) → AreInTurn (pending x.core) (entries_of x.core turns)
    → (count : ℕ) → ((n : ℕ) → n < count → Left pending (x ∷ turns) n) → (n : ℕ) → n < count → Left pending turns n
same_left pending x turns its count left n low =
    dite (ℕ_discrete n x.core)
    (λ is. subst (λ (k : ℕ). AreInTurn (pending k) (entries_of k turns)) (sym is) its)
    (λ other. subst (λ (l : List LogEntry). AreInTurn (pending n) l) (there n x.core x.log_entry (entries_of n turns) (λ e. other (sym e))) (left n low))

-- ---- steps

-- a look that is open at a core, as an entry of its log
abbrev owed : Option LogEntry → List LogEntry
owed None = []
owed (Some look) = look ∷ []

record StepsFrom (jobs : List CoreJob) (pending : OpenLooks) (xs : List JoinedCore) (turns : List CoreEntry) (ys : List JoinedCore) : Type 0 where
  steps : List CoreStep
  turns_are : turns_of steps ≡ turns
  order : StepByStep jobs pending xs steps ys
  followed : (n : ℕ) → left_open pending steps n ≡ None
  entries : (n : ℕ) → entries_at n (moments_of steps) ≡ owed (pending n) ++ entries_of n turns

all_closed : (count : ℕ) (pending : OpenLooks) → ((n : ℕ) → count ≤ n → pending n ≡ None) → ((n : ℕ) → n < count → AreInTurn (pending n) [])
    → (n : ℕ) → pending n ≡ None
all_closed count pending beyond left n = dite (dec_le count n) (λ far. beyond n far) (λ near. by (pending n) refl (left n (omega (arith, near))))
  where
    by : (o : Option LogEntry) → pending n ≡ o → AreInTurn o [] → pending n ≡ None
    by None is h = is
    by (Some look) is h = absurd h

-- ---- entries of a core, by whether a step is its own

if_here : {A : Type 0} (n m : ℕ) (x y : A) → m ≡ n → (if m == n then x else y) ≡ x
if_here n m x y is = then_is (m == n) x y (eq-eqb m n is)

if_there : {A : Type 0} (n m : ℕ) (x y : A) → m ≢ n → (if m == n then x else y) ≡ y
if_there n m x y other = else_is (m == n) x y (ne_eqb m n other)

module _ (x : CoreEntry) (turns : List CoreEntry) (pending : OpenLooks) (n : ℕ) where
  abbrev mine : List LogEntry
  mine = entries_of n turns

  -- a whole event
  by_act : (moments : List LogEntry) → pending x.core ≡ None → moments ≡ owed (pending n) ++ mine
      → (if x.core == n then x.log_entry ∷ [] else []) ++ moments ≡ owed (pending n) ++ entries_of n (x ∷ turns)
  by_act moments none is =
      dite (ℕ_discrete x.core n)
      (λ at.
      let closed : pending n ≡ None = ap pending (sym at) ∙ none in
      ap (λ (l : List LogEntry). l ++ moments) (if_here n x.core (x.log_entry ∷ []) [] at)
      ∙ ap (λ (l : List LogEntry). x.log_entry ∷ l) (is ∙ ap (λ (o : Option LogEntry). owed o ++ mine) closed)
      ∙ sym (ap (λ (o : Option LogEntry). owed o ++ entries_of n (x ∷ turns)) closed ∙ here n x.core x.log_entry mine at))
      (λ other.
      ap (λ (l : List LogEntry). l ++ moments) (if_there n x.core (x.log_entry ∷ []) [] other) ∙ is
      ∙ ap (λ (l : List LogEntry). owed (pending n) ++ l) (sym (there n x.core x.log_entry mine other)))

  -- a look: what it is owed
  by_look : (moments : List LogEntry) → pending x.core ≡ None → moments ≡ owed (with_look x.core (Some x.log_entry) pending n) ++ mine
      → moments ≡ owed (pending n) ++ entries_of n (x ∷ turns)
  by_look moments none is =
      is
      ∙ dite (ℕ_discrete x.core n)
      (λ at.
      let closed : pending n ≡ None = ap pending (sym at) ∙ none in
      ap (λ (o : Option LogEntry). owed o ++ mine) (open_here x.core n (Some x.log_entry) pending (sym at))
      ∙ sym (ap (λ (o : Option LogEntry). owed o ++ entries_of n (x ∷ turns)) closed ∙ here n x.core x.log_entry mine at))
      (λ other.
      ap (λ (o : Option LogEntry). owed o ++ mine) (open_there x.core n (Some x.log_entry) pending (λ e. other (sym e)))
      ∙ ap (λ (l : List LogEntry). owed (pending n) ++ l) (sym (there n x.core x.log_entry mine other)))

  -- what follows it
  by_follow : (look : LogEntry) (moments : List LogEntry) → pending x.core ≡ Some look → moments ≡ owed (with_look x.core None pending n) ++ mine
      → (if x.core == n then look ∷ x.log_entry ∷ [] else []) ++ moments ≡ owed (pending n) ++ entries_of n (x ∷ turns)
  by_follow look moments some is =
      dite (ℕ_discrete x.core n)
      (λ at.
      let opened : pending n ≡ Some look = ap pending (sym at) ∙ some in
      ap (λ (l : List LogEntry). l ++ moments) (if_here n x.core (look ∷ x.log_entry ∷ []) [] at)
      ∙ ap (λ (l : List LogEntry). look ∷ x.log_entry ∷ l)
      (is ∙ ap (λ (o : Option LogEntry). owed o ++ mine) (open_here x.core n None pending (sym at)))
      ∙ sym (ap (λ (o : Option LogEntry). owed o ++ entries_of n (x ∷ turns)) opened
      ∙ ap (λ (l : List LogEntry). look ∷ l) (here n x.core x.log_entry mine at)))
      (λ other.
      ap (λ (l : List LogEntry). l ++ moments) (if_there n x.core (look ∷ x.log_entry ∷ []) [] other)
      ∙ is ∙ ap (λ (o : Option LogEntry). owed o ++ mine) (open_there x.core n None pending (λ e. other (sym e)))
      ∙ ap (λ (l : List LogEntry). owed (pending n) ++ l) (sym (there n x.core x.log_entry mine other)))

module _ (jobs : List CoreJob) (count : ℕ) (x : CoreEntry) (turns : List CoreEntry) (xs ms ys : List JoinedCore) (long : length xs ≡ count)
    (happens : HappensAt jobs x.core x.log_entry xs ms) (pending : OpenLooks) (beyond : (n : ℕ) → count ≤ n → pending n ≡ None)
    (left : (n : ℕ) → n < count → Left pending (x ∷ turns) n)
    (more : (now : OpenLooks) → ((n : ℕ) → count ≤ n → now n ≡ None) → ((n : ℕ) → n < count → Left now turns n) → StepsFrom jobs now ms turns ys) where
  low : x.core < count
  low = subst (λ (k : ℕ). x.core < k) long (slice_get_within xs x.core happens.before happens.before_is)

  still_beyond : (o : Option LogEntry) (k : ℕ) → count ≤ k → with_look x.core o pending k ≡ None
  still_beyond o k far = let near = low in open_there x.core k o pending (λ e. absurd (omega (arith, far, e, near))) ∙ beyond k far

  act : pending x.core ≡ None → IsWholeEvent x.log_entry → AreInTurn None (entries_of x.core turns) → StepsFrom jobs pending xs (x ∷ turns) ys
  act none whole its =
      let rest : StepsFrom jobs pending ms turns ys =
      more pending beyond (same_left pending x turns (subst (λ (o : Option LogEntry). AreInTurn o (entries_of x.core turns)) (sym none) its) count left) in
      record {
        steps = acts x.core x.log_entry ∷ rest.steps;
        turns_are = ap (λ (l : List CoreEntry). x ∷ l) rest.turns_are;
        order = (none, whole, (ms, happens, rest.order));
        followed = rest.followed;
        entries = λ n. by_act x turns pending n (entries_at n (moments_of rest.steps)) none (rest.entries n);
      }

  look : pending x.core ≡ None → AreInTurn (Some x.log_entry) (entries_of x.core turns) → StepsFrom jobs pending xs (x ∷ turns) ys
  look none its =
      let now : OpenLooks = with_look x.core (Some x.log_entry) pending in
      let rest : StepsFrom jobs now ms turns ys =
      more now (still_beyond (Some x.log_entry)) (others_left pending x turns (Some x.log_entry) its count left) in
      record {
        steps = looks x.core x.log_entry ∷ rest.steps;
        turns_are = ap (λ (l : List CoreEntry). x ∷ l) rest.turns_are;
        order = (none, next_of x.log_entry (entries_of x.core turns) its, (ms, happens, rest.order));
        followed = rest.followed;
        entries = λ n. by_look x turns pending n (entries_at n (moments_of rest.steps)) none (rest.entries n);
      }

  follow : (seen : LogEntry) → pending x.core ≡ Some seen → Follows seen x.log_entry → AreInTurn None (entries_of x.core turns)
      → StepsFrom jobs pending xs (x ∷ turns) ys
  follow seen some is its =
      let now : OpenLooks = with_look x.core None pending in
      let rest : StepsFrom jobs now ms turns ys = more now (still_beyond None) (others_left pending x turns None its count left) in
      record {
        steps = follows x.core seen x.log_entry ∷ rest.steps;
        turns_are = ap (λ (l : List CoreEntry). x ∷ l) rest.turns_are;
        order = (some, is, (ms, happens, rest.order));
        followed = rest.followed;
        entries = λ n. by_follow x turns pending n seen (entries_at n (moments_of rest.steps)) some (rest.entries n);
      }

  by : (o : Option LogEntry) → pending x.core ≡ o → AreInTurn o (x.log_entry ∷ entries_of x.core turns) → StepsFrom jobs pending xs (x ∷ turns) ys
  by None is its = elim its [
    | inl whole ↦ act is whole.0 whole.1
    | inr later ↦ look is later
  ]
  by (Some seen) is its = follow seen is its.0 its.1

  step : StepsFrom jobs pending xs (x ∷ turns) ys
  step = by (pending x.core) refl (first_of pending x turns (left x.core low))

walk : (jobs : List CoreJob) (count : ℕ) (turns : List CoreEntry) (pending : OpenLooks) (xs ys : List JoinedCore) → length xs ≡ count
    → HappenInTurn jobs xs turns ys → ((n : ℕ) → count ≤ n → pending n ≡ None) → ((n : ℕ) → n < count → Left pending turns n)
    → StepsFrom jobs pending xs turns ys
walk jobs count [] pending xs ys long h beyond left = record {
  steps = [];
  turns_are = refl;
  order = h;
  followed = all_closed count pending beyond left;
  entries = λ n. sym (ap (λ (o : Option LogEntry). owed o ++ []) (all_closed count pending beyond left n));
}
walk jobs count (x ∷ turns) pending xs ys long h beyond left =
    step jobs count x turns xs h.0 ys long h.1 pending beyond left
    (λ now far near. walk jobs count turns now h.0 ys (ap length h.1.rest ∙ long_set xs x.core (record h.1.before { run = alone h.1.after }) ∙ long) h.2 far near)

pub orders_are_runs : FollowedStepsInterleave → OrdersAreRuns
orders_are_runs interleave jobs xs ys turns h left =
    let it : StepsFrom jobs none_open xs turns ys = walk jobs (length xs) turns none_open xs ys refl h (λ n far. refl) left in
    record {
      steps = it.steps;
      turns_are = it.turns_are;
      order = it.order;
      followed = it.followed;
      interleaves = interleave jobs xs ys it.steps it.order it.followed;
      entries = it.entries;
    }
