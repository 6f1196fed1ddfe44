-- What one order of all that cores did tells of the two sides of a ring.
use Rattle.std.proofs.Common.{ℕ, zero, suc, ◌≡◌, ◌≤◌, ◌==◌, Bool, true, false, if◌then◌else◌, eq-eqb, ne_eqb, List, [], ◌∷◌, ◌++◌, length, map, ap, subst, ◌∙◌, sym, refl, arith, length-append, append-nil}
use Rattle.std.proofs.lemmas.Bool.{false≢true}
use Rattle.std.specs.List.{AllByRecursion}
use mathlib.Core.Option.{some}
use lib.ListN.{get_elem?}
use Rattle.fl_base.specs.declared.fragment.Frag.{Frag}
use Rattle.fl_base.specs.Prefix.{IsPrefix}
use Rattle.fl_ring.specs.SharedSides.{TheSide}
use Rattle.fl_history_rings.specs.declared.board.Action.{Action}
use Rattle.fl_history_rings.specs.declared.board.Entry.{Entry}
use Rattle.fl_history_rings.specs.declared.board.SideEnd.{SideEnd}
use Rattle.fl_history_rings.specs.declared.place.RingSide.{RingSide}
use Rattle.fl_history_rings.specs.Rings.{mate, steps_of}
use Rattle.fl_history_rings.specs.Rule.{gather, known_from, told_from, one_found, one_action, puts_at, takes_at, known_at, told_at}
use Rattle.fl_history_rings.specs.Cores.{TheCore, InOneOrder}
use Rattle.fl_history_rings.specs.Sides.{SideFor}
use Rattle.fl_history_rings.proofs.Logs.{same_there, else_is}
use Rattle.fl_history_rings.proofs.Words.{mate_back}
use Rattle.fl_history_rings.proofs.Told.{told_taken}
use Rattle.fl_history_rings.proofs.Laws.{taken_is_prefix}
use Rattle.fl_history_rings.proofs.Known.{known_taken}
use Rattle.fl_history_sides.specs.States.{TheHistorySide, side_after, side_shown}
use Rattle.fl_history_sides.specs.Core.{IsOwnSide}
use Rattle.fl_history_sides.specs.Laws.{RingsAreNear}
use Rattle.fl_history_sides.proofs.Calls.{Counts, counts_of}

-- ---- a core's own sides

own_side : (c : TheCore) (a : RingSide) → SideFor c a → IsOwnSide c (side_shown c a)
own_side c a at =
    let n : Counts c a = counts_of c a at in
    let sent = n.sent in
    let known = n.known in
    let put = at.known_put in
    let near = at.near in
    record {
      end = at.put.end;
      there = at.put.there;
      mine = at.put.mine;
      slots = at.put.size_is;
      known_put = omega (arith, sent, known, put);
      near = omega (arith, sent, known, near);
    }

pub all_own : (c : TheCore) (sides : List RingSide) → AllByRecursion (SideFor c) sides → AllByRecursion (IsOwnSide c) (map (side_shown c) sides)
all_own c [] all = tt
all_own c (a ∷ sides) all = (own_side c a all.0, all_own c sides all.1)

-- ---- all that is done by a side is done by its core

module _ {A : Type 0} (f : Action → List A) (s n : ℕ) where
  own_if : (b : Bool) (e : Entry) (es : List Entry) → (e.side ≡ s → b ≡ true) → gather f s (if b then e ∷ es else es) ≡ gather f s (e ∷ es)
  own_if true e es by = refl
  own_if false e es by =
      let none : List A = [] in
      sym (ap (λ (l : List A). l ++ gather f s es) (else_is (e.side == s) (f e.action) none (ne_eqb e.side s (λ is. false≢true (by is)))))

  gather_own : (es : List Entry) → ((i : ℕ) (e : Entry) → get_elem? es i ≡ some e → e.side ≡ s → e.core ≡ n) → gather f s (steps_of n es) ≡ gather f s es
  gather_own [] by = refl
  gather_own (e ∷ es) by =
      own_if (e.core == n) e (steps_of n es) (λ is. eq-eqb e.core n (by zero e refl is))
      ∙ ap (λ (l : List A). (if e.side == s then f e.action else []) ++ l) (gather_own es (λ i d at. by (suc i) d at))

module _ (ends : List SideEnd) (cores : List TheCore) (order : InOneOrder ends cores) (i : ℕ) (c : TheCore) (at : get_elem? cores i ≡ some c) (s : ℕ) (one : SideEnd) (there : get_elem? ends s ≡ some one) (mine : one.core ≡ c.number) where
  by_core : (k : ℕ) (e : Entry) → get_elem? order.log k ≡ some e → e.side ≡ s → e.core ≡ c.number
  by_core k e is here =
      let by = order.by_its_core k e is in
      by.2 ∙ (ap (λ (x : SideEnd). x.core) (same_there ends s by.0 one (subst (λ (j : ℕ). get_elem? ends j ≡ some by.0) here by.1) there) ∙ mine)

  -- in the order it is what the core knows
  known_in : known_at s order.log ≡ known_at s c.steps
  known_in = ap (λ (l : List ℕ). known_from 0 l) (sym (gather_own one_found s c.number order.log by_core)) ∙ ap (λ (es : List Entry). known_at s es) (order.did i c at)

  told_in : told_at s order.log ≡ told_at s c.steps
  told_in = ap (λ (l : List Action). told_from 0 0 l) (sym (gather_own one_action s c.number order.log by_core)) ∙ ap (λ (es : List Entry). told_at s es) (order.did i c at)

-- ---- the two sides of a ring

prefix_short : (xs ys : List Frag) → IsPrefix xs ys → length xs ≤ length ys
prefix_short xs ys p = let long = ap length p.1 ∙ length-append xs p.0 in omega (arith, long)

pub rings_are_near : RingsAreNear
rings_are_near ends cores order some_slots paired i j c d at_c at_d p q own_p own_q p_is q_is mates =
    let s : ℕ = p.number in
    let there : get_elem? ends p.number ≡ some own_p.end = subst (λ (l : List SideEnd). get_elem? l p.number ≡ some own_p.end) (order.sides_are i c at_c) own_p.there in
    let across_q : get_elem? ends q.number ≡ some own_q.end = subst (λ (l : List SideEnd). get_elem? l q.number ≡ some own_q.end) (order.sides_are j d at_d) own_q.there in
    let across : get_elem? ends (mate p.number) ≡ some own_q.end = subst (λ (k : ℕ). get_elem? ends k ≡ some own_q.end) mates across_q in
    let back : get_elem? ends (mate (mate p.number)) ≡ some own_p.end = subst (λ (k : ℕ). get_elem? ends k ≡ some own_p.end) (sym (mate_back p.number)) there in
    let p_side : p.side ≡ side_after c.table p.side.size p.number c.steps = ap (λ (x : TheHistorySide). x.side) p_is in
    let q_side : q.side ≡ side_after d.table q.side.size (mate p.number) d.steps = ap (λ (x : TheHistorySide). x.side) q_is ∙ ap (λ (k : ℕ). side_after d.table q.side.size k d.steps) mates in
    let sent : p.side.sent ≡ puts_at p.number c.steps = ap (λ (x : TheSide). x.sent) p_side in
    let got : q.side.got ≡ takes_at (mate p.number) d.steps = ap (λ (x : TheSide). x.got) q_side in
    let known : p.side.known ≡ known_at p.number c.steps = ap (λ (x : TheSide). x.known) p_side in
    let told : q.side.told ≡ told_at (mate p.number) d.steps = ap (λ (x : TheSide). x.told) q_side in
    let prefix : IsPrefix (takes_at (mate p.number) d.steps) (puts_at (mate (mate p.number)) c.steps) =
    taken_is_prefix ends cores order (mate p.number) own_q.end own_p.end across back j i d c at_d at_c (sym own_q.mine) (sym own_p.mine) in
    let first : IsPrefix q.side.got p.side.sent =
    subst (λ (l : List Frag). IsPrefix l p.side.sent) (sym got) (subst (λ (l : List Frag). IsPrefix (takes_at (mate p.number) d.steps) l) (sym sent)
    (subst (λ (k : ℕ). IsPrefix (takes_at (mate p.number) d.steps) (puts_at k c.steps)) (mate_back p.number) prefix)) in
    let low = known_taken ends cores order order.log [] (sym (append-nil order.log)) p.number own_p.end own_q.end there across in
    let reach : known_at p.number order.log ≤ told_at (mate p.number) order.log = low.0 in
    let known_c = known_in ends cores order i c at_c p.number own_p.end there own_p.mine in
    let told_d = told_in ends cores order j d at_d (mate p.number) own_q.end across own_q.mine in
    let taken : told_at (mate p.number) d.steps ≤ length (takes_at (mate p.number) d.steps) = told_taken (mate p.number) d.steps in
    let got_long : length q.side.got ≡ length (takes_at (mate p.number) d.steps) = ap length got in
    let short = prefix_short q.side.got p.side.sent first in
    let few = (some_slots p.number own_p.end there).1 in
    let size_p = own_p.slots in
    let size_q = own_q.slots in
    let other = paired p.number own_p.end there in
    let same : other.0.slots ≡ own_q.end.slots = ap (λ (x : SideEnd). x.slots) (same_there ends (mate p.number) other.0 own_q.end other.1 across) in
    record {
      few = omega (arith, few, size_p);
      same_size = size_q ∙ (sym same ∙ (other.2 ∙ sym size_p));
      got_sent = first;
      known_told = omega (arith, known, told, reach, known_c, told_d);
      told_got = omega (arith, told, taken, got_long);
      told_sent = omega (arith, told, taken, got_long, short);
      sent_near = own_p.near;
    }
