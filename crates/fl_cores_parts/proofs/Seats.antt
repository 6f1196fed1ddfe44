-- Seats of cores cut off everybody's, one by one.
use Rattle.std.proofs.Common.{◌≡◌, refl, sym, ap, ◌∙◌, subst, ℕ, suc, ◌+◌, ◌-◌, ◌<◌, List, ◌∷◌, length, arith}
use Rattle.std.specs.List.{range_with_len}
use Rattle.fl_cores_table.specs.declared.table.CoresView.{CoresView}
use Rattle.fl_cores_table.specs.Counter.{opening_view, without_core, core_alone, first_core, other_cores}
use Rattle.fl_cores_parts.specs.Begins.{IsAlone}
use Rattle.fl_cores_parts.specs.CoreThreads.{left_view}

-- the cores that are left: the next one, and those behind it
left_is : (n k : ℕ) → k < n → range_with_len k (n - k) ≡ k ∷ range_with_len (k + 1) (n - (k + 1))
left_is n k less =
    let one : n - k ≡ suc (n - (k + 1)) = omega (arith, less) in
    ap (range_with_len k) one

pub has_core : (n : ℕ) (owners : List ℕ) (k : ℕ) → k < n → 0 < length (range_with_len k (n - k))
has_core n owners k less = subst (λ (cores : List ℕ). 0 < length cores) (sym (left_is n k less)) (omega arith)

pub cut_alone : (n : ℕ) (owners : List ℕ) (k : ℕ) → k < n → IsAlone owners k (core_alone (left_view n owners k))
cut_alone n owners k less = record {
  seats = refl;
  cores = ap first_core (left_is n k less);
  finished = refl;
  stopped = refl;
  stored = refl;
  owners = refl;
}

pub cut_left : (n : ℕ) (owners : List ℕ) (k : ℕ) → k < n → without_core (left_view n owners k) ≡ left_view n owners (k + 1)
cut_left n owners k less =
    let seats : n + 1 - k - 1 ≡ n + 1 - (k + 1) = omega (arith, less) in
    ap (λ (s : ℕ). let v : CoresView = record (opening_view n owners) { seats = s; cores = other_cores (range_with_len k (n - k)) } in v) seats
    ∙ ap (λ (cores : List ℕ). let v : CoresView = record (opening_view n owners) { seats = n + 1 - (k + 1); cores = other_cores cores } in v) (left_is n k less)

-- none is cut off yet
pub none_cut : (n : ℕ) (owners : List ℕ) → opening_view n owners ≡ left_view n owners 0
none_cut n owners =
    let same : n - 0 ≡ n = omega arith in
    let more : n + 1 - 0 ≡ n + 1 = omega arith in
    sym (ap (λ (s : ℕ). let v : CoresView = record (opening_view n owners) { seats = s; cores = range_with_len 0 (n - 0) } in v) more
    ∙ ap (λ (s : ℕ). let v : CoresView = record (opening_view n owners) { seats = n + 1; cores = range_with_len 0 s } in v) same)

-- all are
pub all_cut : (n : ℕ) (owners : List ℕ) (v : CoresView) → v ≡ left_view n owners n → v.stopped < v.seats
all_cut n owners v is = subst (λ (u : CoresView). u.stopped < u.seats) (sym is) (omega arith)

-- ---- the next one, by what is known where it is cut off

pub has_next : (n : ℕ) (owners : List ℕ) (k m : ℕ) (own : CoresView) → m ≡ k → k < n → own ≡ left_view n owners m → 0 < length own.cores
has_next n owners k m own same less is =
    subst (λ (v : CoresView). 0 < length v.cores) (sym (is ∙ ap (left_view n owners) same)) (has_core n owners k less)

pub alone_from : (n : ℕ) (owners : List ℕ) (k m : ℕ) (own v : CoresView) → m ≡ k → k < n → own ≡ left_view n owners m → v ≡ core_alone own → IsAlone owners k v
alone_from n owners k m own v same less is cut =
    subst (λ (u : CoresView). IsAlone owners k u) (sym (cut ∙ ap core_alone (is ∙ ap (left_view n owners) same))) (cut_alone n owners k less)

pub left_from : (n : ℕ) (owners : List ℕ) (k m len : ℕ) (own v : CoresView) → m ≡ k → k < n → len ≡ k + 1 → own ≡ left_view n owners m → v ≡ without_core own
    → v ≡ left_view n owners len
left_from n owners k m len own v same less more is cut =
    cut ∙ ap without_core (is ∙ ap (left_view n owners) same) ∙ cut_left n owners k less ∙ ap (left_view n owners) (sym more)

-- ---- a core's own seat

-- it may tell that the core finished
pub may_finish : (owners : List ℕ) (core : ℕ) (v : CoresView) → IsAlone owners core v → v.finished < length v.cores
may_finish owners core v alone =
    let one : length v.cores ≡ 1 = ap length alone.cores in
    let none = alone.finished in
    omega (arith, one, none)

-- or that it stops
pub may_stop : (owners : List ℕ) (core : ℕ) (v : CoresView) → IsAlone owners core v → v.stopped < v.seats
may_stop owners core v alone =
    let one = alone.seats in
    let none = alone.stopped in
    omega (arith, one, none)
