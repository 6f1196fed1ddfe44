-- Each kind of step keeps the rule.
use Rattle.std.proofs.Common.{mod-eq_of_lt, ◌≡◌, ◌≢◌, ◌⊎◌, inl, inr, ⊎_elim, ℕ, zero, suc, ◌+◌, ◌-◌, ◌*◌, ◌%◌, ◌^◌, ◌<◌, ◌≤◌, List, [], ◌∷◌, ◌++◌, length, get_or, replicate, set, refl, sym, subst, ap, ◌∙◌, arith, rules}
use Rattle.std.proofs.lemmas.List.{set-get_or, get_or-set_same, get_or-set_other, length-set, length-append}
use Rattle.std.proofs.lemmas.List.FromFn.{length-range_with_len}
use Rattle.std.proofs.Math.Nat.{max-le}
use mathlib.Core.Option.{some, none, some-injective, some-ne-none}
use mathlib.Core.Logic.{dite}
use native.Mathlib.Decide.{ℕ_discrete}
use lib.ListN.{get_elem?}
use Rattle.atomic_table.specs.Table.{State, Me, Step, step, keeps, Allows, Splits, Joins, opening}
use Rattle.atomic_table.proofs.Lists.{at_set, set_here, set_else, at_snoc}
use Rattle.fl_cores_table.specs.declared.table.CoresView.{CoresView}
use Rattle.fl_cores_table.specs.declared.table.OpeningRefusal.{OpeningRefusal}
use Rattle.fl_cores_table.specs.Counter.{added, times, times_told, number_of, total, Fits, Stands, CounterRule, with_finish, with_stop, with_seen, with_stored, with_heard, without_core, core_alone, first_core, other_cores, opening_view, both, spent, finishes, stops, looks, stores, hears, MayTell, Agrees}
use Rattle.fl_cores_table.proofs.Counts.{times_join, told_join, number_join, stands_join, unacknowledged, none_times, range_times, told_here, told_else, agrees_stands}
use Rattle.fl_cores_table.proofs.Totals.{total_set, total_snoc, total_at, total_two, total_le, total_zero, total_alone}

-- the counter is small
pub added_few : (owners : List ℕ) (v : CoresView) → Fits owners v → added v ≤ 18 * v.seats
added_few owners v fits = let a = fits.finished in let b = fits.stopped in let c = fits.seated in omega (arith, a, b, c)

total_times : (k : ℕ) (f : CoresView → ℕ) (vs : List CoresView) → total (λ v. k * f v) vs ≡ k * total f vs
total_times k f [] = omega arith
total_times k f (v ∷ vs) = let rest = total_times k f vs in omega (arith, rest)

pub counter_small : (cores : ℕ) (owners : List ℕ) (s : State (Unit {0}) CoresView) → CounterRule cores owners s → get_or s.words 0 0 ≤ 306
counter_small cores owners s rule =
    let few = total_le added (λ v. 18 * v.seats) s.views (λ j w e. added_few owners w (rule.fits j w e)) in
    let times = total_times 18 (λ v. v.seats) s.views in
    let c = rule.counter in
    let n = rule.few in
    let a = rule.all in
    omega (arith, few, times, c, n, a)

-- what was found still stands where a word changed that was 0, or that doesn't hold a refusal
pub stands_set : (ws : List ℕ) (i n : ℕ) (rs : List OpeningRefusal) → ((job : ℕ) → i ≡ job + 1 → get_or ws i 0 ≡ 0) → Stands ws rs → Stands (set ws i n) rs
stands_set ws i n [] zeros here = tt
stands_set ws i n (r ∷ rs) zeros here = (
  ⊎_elim inl (λ stood. dite (ℕ_discrete (r.job + 1) i)
      (λ same. inl (sym (subst (λ (j : ℕ). get_or ws j 0 ≡ r.number) same stood) ∙ zeros r.job (sym same)))
      (λ other. inr (get_or-set_other ws i (r.job + 1) n 0 other ∙ stood))) here.0,
  stands_set ws i n rs zeros here.1,
)

-- a seat's step on word i, which becomes n, and its view, which was v and becomes w
pub record Moves (owners : List ℕ) (words : List ℕ) (i n : ℕ) (v w : CoresView) : Type 0 where
  pub cores_same : w.cores ≡ v.cores
  pub seats_same : w.seats ≡ v.seats
  pub fits : Fits owners w
  pub rises : get_or words 0 0 ≤ get_or (set words i n) 0 0
  pub seen : w.seen ≤ get_or (set words i n) 0 0
  pub heard : Stands (set words i n) w.heard
  pub others : (rs : List OpeningRefusal) → Stands words rs → Stands (set words i n) rs
  pub counter : get_or (set words i n) 0 0 + added v ≡ get_or words 0 0 + added w
  pub jobs : (job : ℕ) → job < length owners → get_or (set words i n) (job + 1) 0 + number_of job v.stored ≡ get_or words (job + 1) 0 + number_of job w.stored

-- of each view after a change of one
at_each : (P : CoresView → Type 0) (views : List CoresView) (id : ℕ) (w : CoresView) → P w → ((i : ℕ) (v : CoresView) → get_elem? views i ≡ some v → P v)
    → (i : ℕ) (v : CoresView) → get_elem? (set views id w) i ≡ some v → P v
at_each P views id w mine others i v at =
    ⊎_elim (λ t. subst P t.1 mine) (λ t. others i v t.1) (at_set views id i w v at)

pub moved : (cores : ℕ) (owners : List ℕ) (s : State (Unit {0}) CoresView) (i n id : ℕ) (v w : CoresView) → CounterRule cores owners s → get_elem? s.views id ≡ some v
    → Moves owners s.words i n v w → CounterRule cores owners (record { words = set s.words i n; homes = s.homes; views = set s.views id w })
moved cores owners s i n id v w rule at m = record {
  few = rule.few;
  wide = length-set s.words i n ∙ rule.wide;
  counter = (let a = total_set added s.views id v w at in let b = m.counter in let c = rule.counter in omega (arith, a, b, c));
  jobs = λ job within. (let a = total_set (λ u. number_of job u.stored) s.views id v w at in let b = m.jobs job within in let c = rule.jobs job within in omega (arith, a, b, c));
  fits = at_each (Fits owners) s.views id w m.fits rule.fits;
  seen = at_each (λ u. u.seen ≤ get_or (set s.words i n) 0 0) s.views id w m.seen (λ j u e. let a = rule.seen j u e in let b = m.rises in omega (arith, a, b));
  heard = at_each (λ u. Stands (set s.words i n) u.heard) s.views id w m.heard (λ j u e. m.others u.heard (rule.heard j u e));
  once = λ core. (let a = total_set (λ u. times core u.cores) s.views id v w at in let b = ap (times core) m.cores_same in let c = rule.once core in omega (arith, a, b, c));
  all = (let a = total_set (λ u. u.seats) s.views id v w at in let b = m.seats_same in let c = rule.all in omega (arith, a, b, c));
}

allows_by : (cores : ℕ) (owners : List ℕ) (slots id i : ℕ) (me : Me (Unit {0}) CoresView) (f : ℕ → ℕ) (then : ℕ → Me (Unit {0}) CoresView → Type 0)
    → ((s : State (Unit {0}) CoresView) → CounterRule cores owners s → get_elem? s.views id ≡ some me.0
    → (w : CoresView) × Moves owners s.words i (f (get_or s.words i 0)) me.0 w × then (get_or s.words i 0) (w, me.1))
    → Allows (CounterRule cores owners) slots id me i f then
allows_by cores owners slots id i me f then go s rule deep at small =
    let m = go s rule at in (m.0, keeps, tt, moved cores owners s i _ id me.0 m.0 rule at m.1, m.2)

-- the counter's word: what stands at other words stays
counter_others : (ws : List ℕ) (n : ℕ) (rs : List OpeningRefusal) → Stands ws rs → Stands (set ws 0 n) rs
counter_others ws n rs = stands_set ws 0 n rs (λ job e. absurd (omega (arith, e)))

counter_jobs : (ws : List ℕ) (n job : ℕ) → get_or (set ws 0 n) (job + 1) 0 ≡ get_or ws (job + 1) 0
counter_jobs ws n job = get_or-set_other ws 0 (job + 1) n 0 (λ e. omega (arith, e))

-- the counter grows by what the seat adds
grows : (cores : ℕ) (owners : List ℕ) (s : State (Unit {0}) CoresView) (id k : ℕ) (v w : CoresView) → CounterRule cores owners s → get_elem? s.views id ≡ some v
    → k ≤ 17 → Fits owners w → w.cores ≡ v.cores → w.seats ≡ v.seats → w.seen ≡ v.seen → w.heard ≡ v.heard → w.stored ≡ v.stored → added w ≡ added v + k
    → Moves owners s.words 0 ((get_or s.words 0 0 + k) % 2 ^ 64) v w
grows cores owners s id k v w rule at small fits cores_same seats_same seen_same heard_same stored_same adds =
    let few = counter_small cores owners s rule in
    let sum : (get_or s.words 0 0 + k) % 2 ^ 64 ≡ get_or s.words 0 0 + k = mod-eq_of_lt (omega (arith, few, small)) in
    let wide = rule.wide in
    let now : get_or (set s.words 0 ((get_or s.words 0 0 + k) % 2 ^ 64)) 0 0 ≡ get_or s.words 0 0 + k = get_or-set_same s.words 0 _ 0 (omega (arith, wide)) ∙ sum in
    let before = rule.seen id v at in record {
      cores_same = cores_same;
      seats_same = seats_same;
      fits = fits;
      rises = omega (arith, now);
      seen = omega (arith, now, before, seen_same);
      heard = subst (λ (rs : List OpeningRefusal). Stands (set s.words 0 ((get_or s.words 0 0 + k) % 2 ^ 64)) rs) (sym heard_same) (counter_others s.words _ v.heard (rule.heard id v at));
      others = counter_others s.words _;
      counter = omega (arith, now, adds);
      jobs = λ job within. (let a = counter_jobs s.words ((get_or s.words 0 0 + k) % 2 ^ 64) job in let b = ap (number_of job) stored_same in omega (arith, a, b));
    }

pub allows_finish : (cores : ℕ) (owners : List ℕ) (slots id : ℕ) (me : Me (Unit {0}) CoresView) → me.0.finished < length me.0.cores
    → Allows (CounterRule cores owners) slots id me 0 (λ n. (n + 1) % 2 ^ 64) (finishes (step slots 0 1 0 none) me)
allows_finish cores owners slots id me once =
    allows_by cores owners slots id 0 me (λ n. (n + 1) % 2 ^ 64) (finishes (step slots 0 1 0 none) me) (λ s rule at.
    let fits = rule.fits id me.0 at in (
      with_finish me.0,
      grows cores owners s id 1 me.0 (with_finish me.0) rule at (omega arith)
          (record { finished = omega (arith, once); stopped = fits.stopped; seated = fits.seated; own = fits.own })
          refl refl refl refl refl (omega arith),
      (refl, refl, refl, once),
    ))

pub allows_stop : (cores : ℕ) (owners : List ℕ) (slots id : ℕ) (me : Me (Unit {0}) CoresView) → me.0.stopped < me.0.seats
    → Allows (CounterRule cores owners) slots id me 0 (λ n. (n + 17) % 2 ^ 64) (stops (step slots 0 17 0 none) me)
allows_stop cores owners slots id me once =
    allows_by cores owners slots id 0 me (λ n. (n + 17) % 2 ^ 64) (stops (step slots 0 17 0 none) me) (λ s rule at.
    let fits = rule.fits id me.0 at in (
      with_stop me.0,
      grows cores owners s id 17 me.0 (with_stop me.0) rule at (omega arith)
          (record { finished = fits.finished; stopped = omega (arith, once); seated = fits.seated; own = fits.own })
          refl refl refl refl refl (omega arith),
      (refl, refl, refl, once),
    ))

-- a load leaves the words
stays : (cores : ℕ) (owners : List ℕ) (s : State (Unit {0}) CoresView) (i id : ℕ) (v w : CoresView) → CounterRule cores owners s → get_elem? s.views id ≡ some v
    → Fits owners w → w.cores ≡ v.cores → w.seats ≡ v.seats → w.seen ≤ get_or s.words 0 0 → Stands s.words w.heard → w.stored ≡ v.stored → added w ≡ added v
    → Moves owners s.words i (get_or s.words i 0) v w
stays cores owners s i id v w rule at fits cores_same seats_same seen heard stored_same adds =
    let same : set s.words i (get_or s.words i 0) ≡ s.words = set-get_or s.words i 0 in record {
      cores_same = cores_same;
      seats_same = seats_same;
      fits = fits;
      rises = subst (λ (ws : List ℕ). get_or s.words 0 0 ≤ get_or ws 0 0) (sym same) (omega arith);
      seen = subst (λ (ws : List ℕ). w.seen ≤ get_or ws 0 0) (sym same) seen;
      heard = subst (λ (ws : List ℕ). Stands ws w.heard) (sym same) heard;
      others = λ rs h. subst (λ (ws : List ℕ). Stands ws rs) (sym same) h;
      counter = (let a = ap (λ (ws : List ℕ). get_or ws 0 0) same in omega (arith, a, adds));
      jobs = λ job within. (let a = ap (λ (ws : List ℕ). get_or ws (job + 1) 0) same in let b = ap (number_of job) stored_same in omega (arith, a, b));
    }

-- where all seats are in one, what the others add up to is nothing
alone : (cores : ℕ) (owners : List ℕ) (s : State (Unit {0}) CoresView) (id : ℕ) (v : CoresView) (f : CoresView → ℕ) → CounterRule cores owners s → get_elem? s.views id ≡ some v
    → v.seats ≡ cores + 1 → ((w : CoresView) → Fits owners w → w.seats ≡ 0 → f w ≡ 0) → total f s.views ≡ f v
alone cores owners s id v f rule at all zeros =
    total_alone f (λ w. w.seats) s.views id v (λ j w e h. zeros w (rule.fits j w e) h) at (rule.all ∙ sym all)

added_none : (owners : List ℕ) (w : CoresView) → Fits owners w → w.seats ≡ 0 → added w ≡ 0
added_none owners w fits empty = let few = added_few owners w fits in omega (arith, few, empty)

number_none : (owners : List ℕ) (job : ℕ) (w : CoresView) → Fits owners w → w.seats ≡ 0 → number_of job w.stored ≡ 0
number_none owners job w fits empty =
    let seated = fits.seated in
    let standing = none_times (get_or owners job 0) w.cores (omega (arith, seated, empty)) in
    let own = fits.own job in
    unacknowledged job w.stored (omega (arith, standing, own))

pub allows_look : (cores : ℕ) (owners : List ℕ) (slots id : ℕ) (me : Me (Unit {0}) CoresView) → me.0.whole ≡ cores + 1
    → Allows (CounterRule cores owners) slots id me 0 (λ n. n) (looks (step slots 0 0 0 none) me)
allows_look cores owners slots id me whole =
    allows_by cores owners slots id 0 me (λ n. n) (looks (step slots 0 0 0 none) me) (λ s rule at.
    let fits = rule.fits id me.0 at in
    let w = with_seen me.0 (get_or s.words 0 0) in
    let counter = rule.counter in
    let least = total_at added s.views id me.0 at in (
      w,
      stays cores owners s 0 id me.0 w rule at (record { finished = fits.finished; stopped = fits.stopped; seated = fits.seated; own = fits.own })
          refl refl (omega arith) (rule.heard id me.0 at) refl refl,
      (refl, refl, rule.seen id me.0 at, omega (arith, counter, least), λ all. counter ∙ alone cores owners s id me.0 added rule at (all ∙ whole) (added_none owners)),
    ))

word_less : (job : ℕ) → job ≡ job + 1 - 1
word_less job = omega arith

pub allows_hear : (cores : ℕ) (owners : List ℕ) (slots id job : ℕ) (me : Me (Unit {0}) CoresView) → me.0.whole ≡ cores + 1 → job < length owners
    → Allows (CounterRule cores owners) slots id me (job + 1) (λ n. n) (hears (step slots (job + 1) 0 0 none) me)
allows_hear cores owners slots id job me whole within =
    allows_by cores owners slots id (job + 1) me (λ n. n) (hears (step slots (job + 1) 0 0 none) me) (λ s rule at.
    let fits = rule.fits id me.0 at in
    let found = get_or s.words (job + 1) 0 in
    let w = with_heard me.0 job found in (
      w,
      stays cores owners s (job + 1) id me.0 w rule at (record { finished = fits.finished; stopped = fits.stopped; seated = fits.seated; own = fits.own })
          refl refl (rule.seen id me.0 at) (inr refl, rule.heard id me.0 at) refl refl,
      subst (λ (k : ℕ). (◌≡◌ {A = Me (Unit {0}) CoresView} (with_heard me.0 job found, me.1) (with_heard me.0 k found, me.1)) × (0 < job + 1) × Agrees k found me.0.heard × (me.0.seats ≡ me.0.whole → found ≡ number_of k me.0.stored)) (word_less job) (
        refl,
        omega arith,
        agrees_stands s.words job me.0.heard (rule.heard id me.0 at),
        λ all. rule.jobs job within ∙ alone cores owners s id me.0 (λ v. number_of job v.stored) rule at (all ∙ whole) (number_none owners job),
      ),
    ))

-- a job that its core may tell of was told by nobody
total_none : (f : CoresView → ℕ) (vs : List CoresView) → ((j : ℕ) (w : CoresView) → get_elem? vs j ≡ some w → f w ≡ 0) → total f vs ≡ 0
total_none f [] zeros = refl
total_none f (x ∷ xs) zeros =
    let here = zeros zero x refl in
    let rest = total_none f xs (λ j w e. zeros (suc j) w e) in omega (arith, here, rest)

told_by_none : (cores : ℕ) (owners : List ℕ) (s : State (Unit {0}) CoresView) (id job : ℕ) (v : CoresView) → CounterRule cores owners s → get_elem? s.views id ≡ some v
    → times_told job v.stored < times (get_or owners job 0) v.cores → (j : ℕ) (w : CoresView) → get_elem? s.views j ≡ some w → times_told job w.stored ≡ 0
told_by_none cores owners s id job v rule at may j w e =
    let once = rule.once (get_or owners job 0) in
    let own = (rule.fits j w e).own job in
    dite (ℕ_discrete id j)
    (λ same.
    let here : v ≡ w = some-injective v w (sym at ∙ ap (get_elem? s.views) same ∙ e) in
    let a = ap (λ (u : CoresView). times_told job u.stored) here in
    let b = total_at (λ u. times (get_or owners job 0) u.cores) s.views id v at in
    omega (arith, once, may, a, b))
    (λ apart.
    let b = total_two (λ u. times (get_or owners job 0) u.cores) s.views id j v w apart at e in
    omega (arith, once, may, own, b))

pub allows_tell : (cores : ℕ) (owners : List ℕ) (slots id job number : ℕ) (me : Me (Unit {0}) CoresView) → me.0.owners ≡ owners → MayTell me.0 job → job < length owners
    → Allows (CounterRule cores owners) slots id me (job + 1) (λ _. number) (λ _. stores (step slots (job + 1) number 0 none) me number)
allows_tell cores owners slots id job number me plan may within =
    allows_by cores owners slots id (job + 1) me (λ _. number) (λ _. stores (step slots (job + 1) number 0 none) me number) (λ s rule at.
    let fits = rule.fits id me.0 at in
    let may_now : times_told job me.0.stored < times (get_or owners job 0) me.0.cores = subst (λ (os : List ℕ). times_told job me.0.stored < times (get_or os job 0) me.0.cores) plan may in
    let nobody = told_by_none cores owners s id job me.0 rule at may_now in
    let zero_word : get_or s.words (job + 1) 0 ≡ 0 = rule.jobs job within ∙ total_none (λ v. number_of job v.stored) s.views (λ j w e. unacknowledged job w.stored (nobody j w e)) in
    let zeros : (k : ℕ) → job + 1 ≡ k + 1 → get_or s.words (job + 1) 0 ≡ 0 = λ k h. zero_word in
    let wide = rule.wide in
    let counter : get_or (set s.words (job + 1) number) 0 0 ≡ get_or s.words 0 0 = get_or-set_other s.words (job + 1) 0 number 0 (λ e. omega (arith, e)) in
    let seen = rule.seen id me.0 at in
    let w = with_stored me.0 job number in (
      w,
      record {
        cores_same = refl;
        seats_same = refl;
        fits = record {
          finished = fits.finished;
          stopped = fits.stopped;
          seated = fits.seated;
          own = λ other. dite (ℕ_discrete job other)
              (λ same. subst (λ (k : ℕ). times_told k w.stored ≤ times (get_or owners k 0) me.0.cores) same (let a = (told_here job number me.0.stored).0 in omega (arith, a, may_now)))
              (λ apart. let a = (told_else job other number me.0.stored apart).0 in let b = fits.own other in omega (arith, a, b));
        };
        rises = omega (arith, counter);
        seen = omega (arith, counter, seen);
        heard = stands_set s.words (job + 1) number me.0.heard zeros (rule.heard id me.0 at);
        others = λ rs. stands_set s.words (job + 1) number rs zeros;
        counter = omega (arith, counter);
        jobs = λ other inside. dite (ℕ_discrete job other)
            (λ same. subst (λ (k : ℕ). get_or (set s.words (job + 1) number) (k + 1) 0 + number_of k me.0.stored ≡ get_or s.words (k + 1) 0 + number_of k w.stored) same
            (let a = get_or-set_same s.words (job + 1) number 0 (omega (arith, wide, within)) in let b = (told_here job number me.0.stored).1 in omega (arith, a, b, zero_word)))
            (λ apart. let a = get_or-set_other s.words (job + 1) (other + 1) number 0 (λ e. apart (omega (arith, e))) in let b = (told_else job other number me.0.stored apart).1 in omega (arith, a, b));
      },
      subst (λ (k : ℕ). (◌≡◌ {A = Me (Unit {0}) CoresView} (with_stored me.0 job number, me.1) (with_stored me.0 k number, me.1)) × (0 < job + 1) × MayTell me.0 k) (word_less job) (refl, omega arith, may),
    ))

-- ---- seats cut and joined

-- of each view of a list with one more
at_more : (P : CoresView → Type 0) (views : List CoresView) (w : CoresView) → P w → ((i : ℕ) (v : CoresView) → get_elem? views i ≡ some v → P v)
    → (i : ℕ) (v : CoresView) → get_elem? (views ++ w ∷ []) i ≡ some v → P v
at_more P views w mine others i v at = ⊎_elim (λ old. others i v old) (λ new. subst P new mine) (at_snoc views w v i at)

split_times : (x : ℕ) (cs : List ℕ) → times x (other_cores cs) + times x (first_core cs) ≡ times x cs
split_times x [] = refl
split_times x (c ∷ cs) = let a = times_join x (c ∷ []) cs in omega (arith, a)

split_length : (cs : List ℕ) → 0 < length cs → (length (first_core cs) ≡ 1) × (length (other_cores cs) + 1 ≡ length cs)
split_length [] some_core = absurd (omega (arith, some_core))
split_length (c ∷ cs) some_core = (refl, omega arith)

pub splits : (cores : ℕ) (owners : List ℕ) (id : ℕ) (v : CoresView) → 0 < length v.cores → v.finished ≡ 0 → v.stopped ≡ 0 → v.stored ≡ []
    → Splits (CounterRule cores owners) id v (without_core v) (core_alone v)
splits cores owners id v core finished stopped stored s rule at =
    let left = without_core v in
    let right = core_alone v in
    let fits = rule.fits id v at in
    let seated = fits.seated in
    let sizes = split_length v.cores core in
    let one = sizes.0 in
    let fewer = sizes.1 in
    let views = set s.views id left in
    let silent : (job : ℕ) → times_told job v.stored ≡ 0 = λ job. ap (times_told job) stored in
    record {
      few = rule.few;
      wide = rule.wide;
      counter = (let a = total_set added s.views id v left at in let b = total_snoc added views right in let c = rule.counter in omega (arith, a, b, c));
      jobs = λ job within. (let a = total_set (λ u. number_of job u.stored) s.views id v left at in let b = total_snoc (λ u. number_of job u.stored) views right in let c = rule.jobs job within in omega (arith, a, b, c));
      fits = at_more (Fits owners) views right
          (record { finished = omega (arith, one); stopped = omega arith; seated = omega (arith, one); own = λ job. omega arith })
          (at_each (Fits owners) s.views id left
          (record { finished = omega (arith, finished); stopped = omega (arith, stopped); seated = omega (arith, seated, fewer); own = λ job. (let a = silent job in omega (arith, a)) })
          rule.fits);
      seen = at_more (λ u. u.seen ≤ get_or s.words 0 0) views right (rule.seen id v at) (at_each (λ u. u.seen ≤ get_or s.words 0 0) s.views id left (rule.seen id v at) rule.seen);
      heard = at_more (λ u. Stands s.words u.heard) views right (rule.heard id v at) (at_each (λ u. Stands s.words u.heard) s.views id left (rule.heard id v at) rule.heard);
      once = λ x. (let a = total_set (λ u. times x u.cores) s.views id v left at in let b = total_snoc (λ u. times x u.cores) views right in let c = rule.once x in let d = split_times x v.cores in omega (arith, a, b, c, d));
      all = (let a = total_set (λ u. u.seats) s.views id v left at in let b = total_snoc (λ u. u.seats) views right in let c = rule.all in omega (arith, a, b, c, seated, core));
    }

pub joins : (cores : ℕ) (owners : List ℕ) (id other : ℕ) (v w : CoresView) → Joins (CounterRule cores owners) id v other w (both v w) spent
joins cores owners id other v w s rule at apart there =
    let x = both v w in
    let views = set s.views id x in
    let was : get_elem? s.views other ≡ some w = sym (set_else s.views id other x apart) ∙ there in
    let fits = rule.fits id v at in
    let its = rule.fits other w was in
    let seen = rule.seen id v at in
    let its_seen = rule.seen other w was in
    record {
      few = rule.few;
      wide = rule.wide;
      counter = (let a = total_set added s.views id v x at in let b = total_set added views other w spent there in let c = rule.counter in omega (arith, a, b, c));
      jobs = λ job within. (let a = total_set (λ u. number_of job u.stored) s.views id v x at in let b = total_set (λ u. number_of job u.stored) views other w spent there in let c = rule.jobs job within in let d = number_join job v.stored w.stored in omega (arith, a, b, c, d));
      fits = at_each (Fits owners) views other spent
          (record { finished = omega arith; stopped = omega arith; seated = omega arith; own = λ job. omega arith })
          (at_each (Fits owners) s.views id x
          (record {
            finished = (let a = fits.finished in let b = its.finished in let c = length-append v.cores w.cores in omega (arith, a, b, c));
            stopped = (let a = fits.stopped in let b = its.stopped in omega (arith, a, b));
            seated = (let a = fits.seated in let b = its.seated in let c = length-append v.cores w.cores in omega (arith, a, b, c));
            own = λ job. (let a = fits.own job in let b = its.own job in let c = told_join job v.stored w.stored in let d = times_join (get_or owners job 0) v.cores w.cores in omega (arith, a, b, c, d));
          })
          rule.fits);
      seen = at_each (λ u. u.seen ≤ get_or s.words 0 0) views other spent (omega arith) (at_each (λ u. u.seen ≤ get_or s.words 0 0) s.views id x (max-le seen its_seen) rule.seen);
      heard = at_each (λ u. Stands s.words u.heard) views other spent tt (at_each (λ u. Stands s.words u.heard) s.views id x (stands_join s.words v.heard w.heard (rule.heard id v at) (rule.heard other w was)) rule.heard);
      once = λ c. (let a = total_set (λ u. times c u.cores) s.views id v x at in let b = total_set (λ u. times c u.cores) views other w spent there in let d = rule.once c in let e = times_join c v.cores w.cores in omega (arith, a, b, d, e));
      all = (let a = total_set (λ u. u.seats) s.views id v x at in let b = total_set (λ u. u.seats) views other w spent there in let c = rule.all in omega (arith, a, b, c));
    }

-- ---- the start

at_one : (P : CoresView → Type 0) (w : CoresView) → P w → (i : ℕ) (v : CoresView) → get_elem? (w ∷ []) i ≡ some v → P v
at_one P w mine zero v at = subst P (some-injective w v at) mine
at_one P w mine (suc i) v at = absurd (some-ne-none v (sym at))

pub opens : (cores : ℕ) (owners words : List ℕ) → cores ≤ 16 → length words ≡ length owners + 1 → ((i : ℕ) → get_or words i 0 ≡ 0)
    → CounterRule cores owners (opening words [] (opening_view cores owners))
opens cores owners words few wide zeros =
    let v = opening_view cores owners in
    let size = length-range_with_len 0 cores in record {
      few = few;
      wide = wide;
      counter = zeros 0;
      jobs = λ job within. zeros (job + 1);
      fits = at_one (Fits owners) v (record { finished = omega arith; stopped = omega arith; seated = omega (arith, size); own = λ job. omega arith });
      seen = at_one (λ u. u.seen ≤ get_or words 0 0) v (omega arith);
      heard = at_one (λ u. Stands words u.heard) v tt;
      once = λ x. (let a = range_times x cores in omega (arith, a));
      all = omega arith;
    }

pub all_zeros : (n i : ℕ) → get_or (replicate {A = ℕ} n 0) i 0 ≡ 0
all_zeros zero i = refl
all_zeros (suc n) zero = refl
all_zeros (suc n) (suc i) = all_zeros n i
