-- Cores that are made, and a link between two.
use Rattle.std.proofs.Common.{◌≡◌, ◌≢◌, refl, sym, ap, ap₂, ◌∙◌, ℕ, zero, suc, ◌+◌, ◌<◌, length, map, slice_set, slice_index_or, List, [], ◌∷◌, ◌++◌, arith, add-one}
use Rattle.std.specs.List.{range_with_len}
use Rattle.std.proofs.lemmas.List.{map-append, set-get_or, set-set, get_or-set_same, get_or-set_other}
use Rattle.std.proofs.lemmas.Option.{slice_get_read}
use Rattle.fl_base.specs.Numbered.{core_id}
use Rattle.fl_core.specs.View.{TheCore, fresh_core}
use Rattle.fl_core.specs.Making.{linked}
use Rattle.fl_world_refines.specs.View.{IsWhole}
use Rattle.fl_world_refines.specs.Making.{fresh_cores}
use Rattle.fl_world_events.specs.Parts.{LinksBoth}

-- ---- cores

range_more : (from n : ℕ) → range_with_len from (suc n) ≡ range_with_len from n ++ range_with_len (from + n) 1
range_more from zero = let e : from + 0 ≡ from = omega arith in rw e
range_more from (suc n) = let e : from + 1 + n ≡ from + suc n = omega arith in ap (λ l. from ∷ l) (range_more (from + 1) n ∙ rw e)

-- one core more
pub one_fresh : (n : ℕ) (cores cores2 : List TheCore) (k : TheCore) → cores ≡ fresh_cores n → k ≡ fresh_core n → cores2 ≡ cores ++ k ∷ [] → cores2 ≡ fresh_cores (n + 1)
one_fresh n cores cores2 k before new more =
    let here : 0 + n ≡ n = omega arith in
    let longer = ap (range_with_len 0) (add-one n) ∙ range_more 0 n ∙ ap (λ (i : ℕ). range_with_len 0 n ++ range_with_len i 1) here in
    more ∙ ap₂ (λ (xs : List TheCore) (x : TheCore). xs ++ x ∷ []) before new
    ∙ sym (map-append fresh_core (range_with_len 0 n) (range_with_len n 1)) ∙ ap (map fresh_core) (sym longer)

-- ---- a link

-- what was put at place b stood there, so at place a there is still what was put there
pub still_there : {X : Type 0} (xs : List X) (a b : ℕ) (l m n r : X) → a < length xs → m ≡ slice_index_or (slice_set xs a l) b m → n ≡ m
    → r ≡ slice_index_or (slice_set (slice_set xs a l) b n) a r → r ≡ l
still_there xs a b l m n r below value same there =
    there ∙ ap (λ ys. slice_index_or ys a r) (ap (slice_set (slice_set xs a l) b) (same ∙ value) ∙ set-get_or (slice_set xs a l) b m) ∙ get_or-set_same xs a l r below

-- what stood at a place is put there again
pub taken_back : {X : Type 0} (xs : List X) (a b : ℕ) (k l m n v : X) → k ≡ slice_index_or xs a k → m ≡ slice_index_or (slice_set xs a l) b m → n ≡ m → v ≡ k
    → slice_set (slice_set (slice_set xs a l) b n) a v ≡ xs
taken_back xs a b k l m n v first second same back =
    ap (λ ys. slice_set ys a v) (ap (slice_set (slice_set xs a l) b) (same ∙ second) ∙ set-get_or (slice_set xs a l) b m)
    ∙ set-set xs a l v ∙ ap (slice_set xs a) (back ∙ first) ∙ set-get_or xs a k

pub links_both : (xs : List TheCore) (a b side : ℕ) → a < length xs → b < length xs → a ≢ b → (k l m n : TheCore) → IsWhole k → k ≡ slice_index_or xs a k
    → l ≡ linked k (core_id b) side → IsWhole m → m ≡ slice_index_or (slice_set xs a l) b m → n ≡ linked m (core_id a) (side + 1)
    → LinksBoth a b side xs (slice_set (slice_set xs a l) b n)
links_both xs a b side below there apart k l m n whole first first_link still second second_link = record {
  first = k;
  first_is = slice_get_read xs (length xs) a k refl below first;
  first_whole = whole;
  second = m;
  second_is = slice_get_read xs (length xs) b m refl there (second ∙ get_or-set_other xs a b l m (λ e. apart (sym e)));
  second_whole = still;
  rest = ap₂ (λ (x y : TheCore). slice_set (slice_set xs a x) b y) first_link second_link;
}
