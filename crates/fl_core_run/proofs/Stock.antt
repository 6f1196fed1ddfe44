-- Words and the seat, once round.
use Rattle.std.proofs.Common.{◌≡◌, refl, sym, ap, ◌∙◌, ℕ, zero, suc, ◌+◌, ◌<◌, ◌&&◌, Bool, true, false, subst, nat_lt, List, length, slice_get, slice_index_or, Option, arith}
use Rattle.std.proofs.lemmas.Bool.{ltb-true, ltb-false}
use Rattle.std.proofs.lemmas.Option.{slice_get-get_or}
use Rattle.fl_base.specs.declared.identity.EndId.{EndId}
use Rattle.fl_base.specs.Given.{given}
use Rattle.fl_cores_table.specs.declared.table.CoresView.{CoresView}
use Rattle.fl_cores_table.specs.Counter.{with_seen}
use Rattle.fl_cores_table.specs.Seats.{TheCoresSeat, knowing}
use Rattle.fl_core_run.specs.declared.opening_status.OpeningStatus.{OpeningStatus}
use Rattle.fl_core_run.specs.declared.opening_status.OpeningStatus.TheVariants.{Silent, Tells, Hears, Refused}
use Rattle.fl_core_run.specs.Run.{TheRun}
use Rattle.fl_core_run.specs.OpeningStatus.{MayUse, AreWords, SaidNothing}
use Rattle.fl_core_run.specs.Finished.{is_done_at, is_done, all_done}

pub quiet : (v : TheCoresSeat) → SaidNothing v v
quiet v = record { table = refl; seats = refl; cores = refl; finished = refl; stopped = refl }

pub quiet_then : (v u t : TheCoresSeat) → SaidNothing v u → SaidNothing u t → SaidNothing v t
quiet_then v u t a b = record {
  table = b.table ∙ a.table;
  seats = b.seats ∙ a.seats;
  cores = b.cores ∙ a.cores;
  finished = b.finished ∙ a.finished;
  stopped = b.stopped ∙ a.stopped;
}

pub seen_quiet : (v u : TheCoresSeat) (count : ℕ) → u ≡ knowing v (with_seen v.knows count) → SaidNothing v u
seen_quiet v u count same = subst (λ (x : TheCoresSeat). SaidNothing v x) (sym same) (record { table = refl; seats = refl; cores = refl; finished = refl; stopped = refl })

-- so it may tell yet that it finished
pub may_finish : (v u : TheCoresSeat) → SaidNothing v u → v.knows.finished < length v.knows.cores → u.knows.finished < length u.knows.cores
may_finish v u quiet few = rw (quiet.finished, quiet.cores) few

seen_may : (x : OpeningStatus) (v : CoresView) (count : ℕ) → MayUse x v → MayUse x (with_seen v count)
seen_may Silent v count h = h
seen_may (Tells i) v count h = h
seen_may (Hears i) v count h = h
seen_may (Refused i) v count h = h

-- a look at the counter leaves words usable
pub seen_words : (words : List OpeningStatus) (v : CoresView) (count : ℕ) → AreWords words v → AreWords words (with_seen v count)
seen_words words v count h = record { may = λ k x at. seen_may x v count (h.may k x at); apart = h.apart }

both_false : (a b : Bool) → a ≡ false → (a && b) ≡ false
both_false true b h = absurd (cc)
both_false false b h = refl

both_true : (a b : Bool) → a ≡ true → b ≡ true → (a && b) ≡ true
both_true true b h g = g
both_true false b h g = absurd (cc)

second_false : (a b : Bool) → b ≡ false → (a && b) ≡ false
second_false true b h = h
second_false false b h = refl

-- nothing is left to do at a place where that is so of what stands there
done_by : {S : Type 0} (s : TheRun S) (ends : List EndId) (words : List OpeningStatus) (k : ℕ) (other : EndId) (d : OpeningStatus) → k < length ends → k < length words
    → is_done s ends words k ≡ is_done_at s (slice_index_or ends k other) (slice_index_or words k d)
done_by s ends words k other d few below =
    ap (λ (o : Option EndId). given o true λ name. given (slice_get words k) true λ word. is_done_at s name word) (slice_get-get_or ends k other few)
    ∙ ap (λ (o : Option OpeningStatus). given o true λ word. is_done_at s (slice_index_or ends k other) word) (slice_get-get_or words k d below)

-- where something is left to do at one of the first, not all of them are done
module _ {S : Type 0} (s : TheRun S) (ends : List EndId) (words : List OpeningStatus) (k : ℕ) (left : is_done s ends words k ≡ false) where
  by_place : (n : ℕ) (b : Bool) → nat_lt k n ≡ b → k < suc n → (k < n → all_done s ends words n ≡ false)
      → (all_done s ends words n && is_done s ends words n) ≡ false
  by_place n true is below before = both_false (all_done s ends words n) (is_done s ends words n) (before (ltb-true k n is))
  by_place n false is below before =
      let past = ltb-false k n is in
      let same : k ≡ n = omega (arith, past, below) in
      second_false (all_done s ends words n) (is_done s ends words n) (subst (λ (i : ℕ). is_done s ends words i ≡ false) same left)

  not_all_done : (n : ℕ) → k < n → all_done s ends words n ≡ false
  not_all_done zero below = absurd (omega (arith, below))
  not_all_done (suc n) below = by_place n (nat_lt k n) refl below (not_all_done n)

-- at a place of the lists where something is left to do, and where nothing is
module _ {S : Type 0} (s : TheRun S) (ends : List EndId) (words : List OpeningStatus) (k : ℕ) (other : EndId) (d : OpeningStatus) (few : k < length ends) (below : k < length words) where
  pub left_there : is_done_at s (slice_index_or ends k other) (slice_index_or words k d) ≡ false → all_done s ends words (length ends) ≡ false
  left_there left = not_all_done s ends words k (done_by s ends words k other d few below ∙ left) (length ends) few

  pub one_more_done : all_done s ends words k ≡ true → is_done_at s (slice_index_or ends k other) (slice_index_or words k d) ≡ true → all_done s ends words (k + 1) ≡ true
  one_more_done before done =
      let e : suc k ≡ k + 1 = omega arith in
      subst (λ (i : ℕ). all_done s ends words i ≡ true) e
      (both_true (all_done s ends words k) (is_done s ends words k) before (done_by s ends words k other d few below ∙ done))
