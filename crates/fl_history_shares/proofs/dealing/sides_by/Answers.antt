use Rattle.std.proofs.Common.{◌≡◌, ◌<◌, ◌+◌, ◌∙◌, refl, ap, sym, subst, ℕ, zero, suc, List, [], ◌∷◌, ◌++◌, length, map, get_or, arith, Vec, Global}
use Rattle.std.proofs.lemmas.List.{map-append}
use Rattle.fl_history_rings.specs.Cores.{TheCoresLeft, without_next}
use Rattle.fl_history_sides.specs.declared.sides.HistorySides.{HistorySides}
use Rattle.fl_history_sides.specs.Lent.{states_in}
use Rattle.fl_history_sides.specs.States.{TheHistorySide, first_shown}
use Rattle.fl_history_shares.specs.Dealt.{new_core, hands_in}
use Rattle.fl_history_shares.specs.Dealing.{AreMine, left_after}
use Rattle.fl_history_shares.proofs.Numbered.{some_mine}
use Rattle.fl_history_shares.proofs.Shown.{one_hand_more}
use Rattle.fl_history_shares.proofs.dealing.sides_by.Goals as goal

-- the numbers of one core
numbers_at : (vs : List (Vec ℕ Global)) (k : ℕ) (v d : Vec ℕ Global) → k < length vs → v ≡ get_or vs k d → get_or (map (λ holding. holding.items) vs) k [] ≡ v.items
numbers_at [] k v d below is = absurd (omega (arith, below))
numbers_at (w ∷ vs) zero v d below is = sym (ap (λ (x : Vec ℕ Global). x.items) is)
numbers_at (w ∷ vs) (suc k) v d below is = numbers_at vs k v d (omega (arith, below)) is

many_numbers : (vs : List (Vec ℕ Global)) → length (map (λ holding. holding.items) vs) ≡ length vs
many_numbers [] = refl
many_numbers (v ∷ vs) = ap suc (many_numbers vs)

pub next_sides-requires-clause-mine : goal.next_sides-requires-clause-mine
next_sides-requires-clause-mine c =
    let k = c.loop-k.k in
    let ends = c.args.left.sides in
    let vs = c.args.holdings.now in
    let below = c.loop-k-test.true in
    let count = many_numbers vs in
    let numbers : get_or (map (λ holding. holding.items) vs) k [] ≡ c.deref.result.now =
    numbers_at vs k c.index-holdings-k.result c.index-holdings-k.result below c.index-holdings-k.is ∙ sym c.deref.ensures.value in
    let core : 0 + k ≡ k = omega arith in
    let mine : AreMine ends k c.deref.result.now =
    subst (λ (n : ℕ). AreMine ends n c.deref.result.now) core
    (subst (AreMine ends (0 + k)) numbers (some_mine ends 0 (map (λ holding. holding.items) vs) k (omega (arith, below, count)) c.requires.mine)) in
    subst (λ (o : TheCoresLeft). AreMine o.sides o.next c.deref.result.now) (sym c.loop-k.invariant.left_is) mine

pub loop-k-preserved : goal.loop-k-preserved
loop-k-preserved c =
    let k = c.loop-k.k in
    let left = c.args.left in
    let vs = c.args.holdings.now in
    let below = c.loop-k-test.true in
    let count = many_numbers vs in
    let numbers : get_or (map (λ holding. holding.items) vs) k [] ≡ c.deref.result.now =
    numbers_at vs k c.index-holdings-k.result c.index-holdings-k.result below c.index-holdings-k.is ∙ sym c.deref.ensures.value in
    let one : states_in c.in_ok-next_sides.field-0.lent ≡ map (first_shown (new_core left.table left.sides k)) c.deref.result.now =
    c.in_ok-next_sides.ensures.sides
    ∙ ap (λ (o : TheCoresLeft). map (first_shown (new_core o.table o.sides o.next)) c.deref.result.now) c.loop-k.invariant.left_is in
    record {
      so_far = one_hand_more left.table left.sides (map (λ holding. holding.items) vs) k c.deref.result.now (hands_in c.loop-k.sides.items) (hands_in c.push.new.self.items)
          (omega (arith, below, count)) (sym numbers) c.loop-k.invariant.so_far
          (ap hands_in c.in_ok-push.ensures.items
          ∙ map-append (λ (s : HistorySides). states_in s.lent) c.loop-k.sides.items (c.in_ok-next_sides.field-0 ∷ [])
          ∙ ap (λ (hand : List TheHistorySide). hands_in c.loop-k.sides.items ++ hand ∷ []) one);
      left_is = c.in_ok-next_sides.ensures.left ∙ ap without_next c.loop-k.invariant.left_is;
    }
