-- What was taken by a side is a prefix of what the other side put, each look finds what stands first, a fragment tells what was taken, and a
-- put finds a free slot.
use Rattle.std.proofs.Common.{ℕ, zero, suc, ◌≡◌, ◌≢◌, ◌<◌, ◌+◌, ◌%◌, ◌==◌, ◌⊎◌, inl, inr, Bool, true, false, if◌then◌else◌, eq-eqb, ne_eqb, List, [], ◌∷◌, ◌++◌, length, set, ap, subst, ◌∙◌, sym, refl, arith, append_assoc, append-nil, length-set, length-append}
use Rattle.std.proofs.lemmas.Bool.{false≢true}
use mathlib.Core.Logic.{dite}
use mathlib.Core.Option.{some}
use native.Mathlib.Decide.{ℕ_discrete}
use lib.ListN.{get_elem?, length-replicate}
use Rattle.atomic_table.proofs.Lists.{set_here, set_else}
use Rattle.fl_base.specs.declared.fragment.Frag.{Frag}
use Rattle.fl_history_rings.specs.declared.board.Action.{Action}
use Rattle.fl_history_rings.specs.declared.board.Action.TheVariants.{Put, Found, Missed, Saw, Took}
use Rattle.fl_history_rings.specs.declared.board.Entry.{Entry}
use Rattle.fl_history_rings.specs.declared.board.SideEnd.{SideEnd}
use Rattle.fl_history_rings.specs.Rings.{mate, Way, way_with, Does, Goes, Runs, all_empty, entry, IsByItsCore, steps_of}
use Rattle.fl_history_rings.specs.Rule.{gather, one_put, one_took, one_action, puts_at, takes_at, told_from, told_at}
use Rattle.fl_history_rings.specs.Laws.{FindsIn, LooksFindWhatStands, TakenIsPrefix, PutsTellWhatWasTaken, PutsFindRoom}
use Rattle.fl_history_rings.proofs.Logs.{within, there, same_there, then_is, else_is}
use Rattle.fl_history_rings.proofs.Told.{told_step}
use Rattle.fl_history_rings.proofs.Words.{mate_back, mate_apart}

-- ---- one step

-- what stood in the way that is put into, and was put, stands; what stood in the other was taken, or stands
puts_so : (n : ℕ) (p q : Way) (d : Action) (p' q' : Way) → Does n p q d p' q' → p.waiting ++ one_put d ≡ p'.waiting
puts_so n p q (Put frag) p' q' does = sym (ap (λ (z : Way). z.waiting) does.2)
puts_so n p q (Found control) p' q' does = append-nil p.waiting ∙ sym (ap (λ (z : Way). z.waiting) does.4)
puts_so n p q Missed p' q' does = append-nil p.waiting ∙ sym (ap (λ (z : Way). z.waiting) does.1)
puts_so n p q (Saw frag) p' q' does = append-nil p.waiting ∙ sym (ap (λ (z : Way). z.waiting) does.2)
puts_so n p q (Took frag) p' q' does = append-nil p.waiting ∙ sym (ap (λ (z : Way). z.waiting) does.2)

takes_so : (n : ℕ) (p q : Way) (d : Action) (p' q' : Way) → Does n p q d p' q' → q.waiting ≡ one_took d ++ q'.waiting
takes_so n p q (Put frag) p' q' does = sym (ap (λ (z : Way). z.waiting) does.3)
takes_so n p q (Found control) p' q' does = sym (ap (λ (z : Way). z.waiting) does.5)
takes_so n p q Missed p' q' does = sym (ap (λ (z : Way). z.waiting) does.2)
takes_so n p q (Saw frag) p' q' does = sym (ap (λ (z : Way). z.waiting) does.3)
takes_so n p q (Took frag) p' q' does = does.1 ∙ sym (ap (λ (z : Way). frag ∷ z.waiting) does.3)

-- and so many were taken
put_taken : (n : ℕ) (p q : Way) (d : Action) (p' q' : Way) → Does n p q d p' q' → p.taken ≡ p'.taken
put_taken n p q (Put frag) p' q' does = sym (ap (λ (z : Way). z.taken) does.2)
put_taken n p q (Found control) p' q' does = sym (ap (λ (z : Way). z.taken) does.4)
put_taken n p q Missed p' q' does = sym (ap (λ (z : Way). z.taken) does.1)
put_taken n p q (Saw frag) p' q' does = sym (ap (λ (z : Way). z.taken) does.2)
put_taken n p q (Took frag) p' q' does = sym (ap (λ (z : Way). z.taken) does.2)

take_taken : (n : ℕ) (p q : Way) (d : Action) (p' q' : Way) → Does n p q d p' q' → q.taken + length (one_took d) ≡ q'.taken
take_taken n p q (Put frag) p' q' does = let e = ap (λ (z : Way). z.taken) does.3 in omega (arith, e)
take_taken n p q (Found control) p' q' does = let e = ap (λ (z : Way). z.taken) does.5 in omega (arith, e)
take_taken n p q Missed p' q' does = let e = ap (λ (z : Way). z.taken) does.2 in omega (arith, e)
take_taken n p q (Saw frag) p' q' does = let e = ap (λ (z : Way). z.taken) does.3 in omega (arith, e)
take_taken n p q (Took frag) p' q' does = let e = ap (λ (z : Way). z.taken) does.3 in omega (arith, e)

-- and so many are told of the one, and of the other with a put
put_told : (n : ℕ) (p q : Way) (d : Action) (p' q' : Way) → Does n p q d p' q' → p.told ≡ p'.told
put_told n p q (Put frag) p' q' does = sym (ap (λ (z : Way). z.told) does.2)
put_told n p q (Found control) p' q' does = sym (ap (λ (z : Way). z.told) does.4)
put_told n p q Missed p' q' does = sym (ap (λ (z : Way). z.told) does.1)
put_told n p q (Saw frag) p' q' does = sym (ap (λ (z : Way). z.told) does.2)
put_told n p q (Took frag) p' q' does = sym (ap (λ (z : Way). z.told) does.2)

take_told : (n : ℕ) (p q : Way) (d : Action) (p' q' : Way) → Does n p q d p' q' → told_from q.taken q.told (d ∷ []) ≡ q'.told
take_told n p q (Put frag) p' q' does = sym (ap (λ (z : Way). z.told) does.3)
take_told n p q (Found control) p' q' does = sym (ap (λ (z : Way). z.told) does.5)
take_told n p q Missed p' q' does = sym (ap (λ (z : Way). z.told) does.2)
take_told n p q (Saw frag) p' q' does = sym (ap (λ (z : Way). z.told) does.3)
take_told n p q (Took frag) p' q' does = sym (ap (λ (z : Way). z.told) does.3)

-- ---- what stands in a way after all these steps

module _ {A : Type 0} (f : Action → List A) (s : ℕ) (e : Entry) (es : List Entry) where
  -- a step by another side adds nothing
  pub piece_else : e.side ≢ s → gather f s (e ∷ es) ≡ gather f s es
  piece_else ne = let none : List A = [] in ap (λ (l : List A). l ++ gather f s es) (else_is (e.side == s) (f e.action) none (ne_eqb e.side s ne))

  pub piece_here : e.side ≡ s → gather f s (e ∷ es) ≡ f e.action ++ gather f s es
  piece_here is = let none : List A = [] in ap (λ (l : List A). l ++ gather f s es) (then_is (e.side == s) (f e.action) none (eq-eqb e.side s is))

-- a step as the way of side w sees it: of that side, of the other one, or of another ring
pub record SeenAt (ends : List SideEnd) (w : ℕ) (e : Entry) (p p' : Way) : Type 0 where
  pub put : e.side ≡ w → (p.waiting ++ one_put e.action ≡ p'.waiting) × (p.taken ≡ p'.taken) × (p.told ≡ p'.told)
  pub took : e.side ≡ mate w → (p.waiting ≡ one_took e.action ++ p'.waiting) × (p.taken + length (one_took e.action) ≡ p'.taken) × (told_from p.taken p.told (e.action ∷ []) ≡ p'.told)
  pub other : e.side ≢ w → e.side ≢ mate w → p ≡ p'

module _ (ends : List SideEnd) (before after : List Way) (e : Entry) (goes : Goes ends before e after) where
  abbrev s : ℕ
  s = e.side

  abbrev mid : List Way
  mid = set before s goes.mine_left

  pub mine_at : get_elem? (set mid (mate s) goes.theirs_left) s ≡ some goes.mine_left
  mine_at = set_else mid (mate s) s goes.theirs_left (λ d. mate_apart s (sym d)) ∙ set_here before s goes.mine_left (within before s goes.mine goes.stood)

  pub theirs_at : get_elem? (set mid (mate s) goes.theirs_left) (mate s) ≡ some goes.theirs_left
  theirs_at = set_here mid (mate s) goes.theirs_left (let far = within before (mate s) goes.theirs goes.stood_back in omega (arith, far, length-set before s goes.mine_left))

  module _ (w : ℕ) (p p' : Way) (is : get_elem? before w ≡ some p) (now : get_elem? after w ≡ some p') where
    now_so : get_elem? (set mid (mate s) goes.theirs_left) w ≡ some p'
    now_so = subst (λ (l : List Way). get_elem? l w ≡ some p') goes.leaves now

    seen_at : SeenAt ends w e p p'
    seen_at = record {
      put = λ here.
          let was : p ≡ goes.mine = same_there before s p goes.mine (subst (λ (i : ℕ). get_elem? before i ≡ some p) (sym here) is) goes.stood in
          let left : p' ≡ goes.mine_left = same_there (set mid (mate s) goes.theirs_left) s p' goes.mine_left (subst (λ (i : ℕ). get_elem? (set mid (mate s) goes.theirs_left) i ≡ some p') (sym here) now_so) mine_at in (
            ap (λ (z : Way). z.waiting ++ one_put e.action) was ∙ puts_so goes.end.slots goes.mine goes.theirs e.action goes.mine_left goes.theirs_left goes.does ∙ sym (ap (λ (z : Way). z.waiting) left),
            ap (λ (z : Way). z.taken) was ∙ put_taken goes.end.slots goes.mine goes.theirs e.action goes.mine_left goes.theirs_left goes.does ∙ sym (ap (λ (z : Way). z.taken) left),
            ap (λ (z : Way). z.told) was ∙ put_told goes.end.slots goes.mine goes.theirs e.action goes.mine_left goes.theirs_left goes.does ∙ sym (ap (λ (z : Way). z.told) left),
          );
      took = λ here.
          let back : mate s ≡ w = ap mate here ∙ mate_back w in
          let was : p ≡ goes.theirs = same_there before (mate s) p goes.theirs (subst (λ (i : ℕ). get_elem? before i ≡ some p) (sym back) is) goes.stood_back in
          let left : p' ≡ goes.theirs_left = same_there (set mid (mate s) goes.theirs_left) (mate s) p' goes.theirs_left (subst (λ (i : ℕ). get_elem? (set mid (mate s) goes.theirs_left) i ≡ some p') (sym back) now_so) theirs_at in (
            ap (λ (z : Way). z.waiting) was ∙ takes_so goes.end.slots goes.mine goes.theirs e.action goes.mine_left goes.theirs_left goes.does ∙ sym (ap (λ (z : Way). one_took e.action ++ z.waiting) left),
            ap (λ (z : Way). z.taken + length (one_took e.action)) was ∙ take_taken goes.end.slots goes.mine goes.theirs e.action goes.mine_left goes.theirs_left goes.does ∙ sym (ap (λ (z : Way). z.taken) left),
            ap (λ (z : Way). told_from z.taken z.told (e.action ∷ [])) was ∙ take_told goes.end.slots goes.mine goes.theirs e.action goes.mine_left goes.theirs_left goes.does ∙ sym (ap (λ (z : Way). z.told) left),
          );
      other = λ ne away.
          let apart : w ≢ mate s = λ d. away (sym (mate_back s) ∙ ap mate (sym d)) in
          same_there before w p p' is (sym (set_else before s w goes.mine_left (λ d. ne (sym d))) ∙ (sym (set_else mid (mate s) w goes.theirs_left apart) ∙ now_so));
    }

  -- the way is still there
  pub still_there : (w : ℕ) (p : Way) → get_elem? before w ≡ some p → (p' : Way) × (get_elem? after w ≡ some p')
  still_there w p is =
      let low = within before w p is in
      there after w (omega (arith, low, ap length goes.leaves, length-set mid (mate s) goes.theirs_left, length-set before s goes.mine_left))

module _ (ends : List SideEnd) (w : ℕ) where
  -- what stood and was put is what was taken and stands; and so many more were taken, and so many are told
  pub stands_after : (before after : List Way) (es : List Entry) → Runs (Goes ends) before es after → (p q : Way) → get_elem? before w ≡ some p → get_elem? after w ≡ some q
      → (p.waiting ++ puts_at w es ≡ takes_at (mate w) es ++ q.waiting) × (p.taken + length (takes_at (mate w) es) ≡ q.taken) × (told_from p.taken p.told (gather one_action (mate w) es) ≡ q.told)
  stands_after before after [] runs p q is so =
      let same : p ≡ q = same_there after w p q (subst (λ (l : List Way). get_elem? l w ≡ some p) runs is) so in
      let count : p.taken ≡ q.taken = ap (λ (z : Way). z.taken) same in
      (append-nil p.waiting ∙ ap (λ (z : Way). z.waiting) same, omega (arith, count), ap (λ (z : Way). z.told) same)
  stands_after before after (e ∷ es) (between, goes, runs) p q is so =
      let m = still_there ends before between e goes w p is in
      let seen : SeenAt ends w e p m.0 = seen_at ends before between e goes w p m.0 is m.1 in
      let rest = stands_after between after es runs m.0 q m.1 so in
      let put : List Frag = one_put e.action in
      let took : List Frag = one_took e.action in
      let acts : List Action = gather one_action (mate w) es in
      dite (ℕ_discrete e.side w)
      (λ here.
      let away : e.side ≢ mate w = λ d. mate_apart w (sym d ∙ here) in
      let one = seen.put here in (
        ap (λ (l : List Frag). p.waiting ++ l) (piece_here one_put w e es here)
            ∙ sym (append_assoc p.waiting put (puts_at w es)) ∙ ap (λ (l : List Frag). l ++ puts_at w es) one.0
            ∙ rest.0 ∙ ap (λ (l : List Frag). l ++ q.waiting) (sym (piece_else one_took (mate w) e es away)),
        (let long = ap length (piece_else one_took (mate w) e es away) in omega (arith, one.1, rest.1, long)),
        ap (λ (l : List Action). told_from p.taken p.told l) (piece_else one_action (mate w) e es away)
            ∙ ap (λ (t : ℕ). told_from t p.told acts) one.1 ∙ ap (λ (u : ℕ). told_from m.0.taken u acts) one.2 ∙ rest.2,
      ))
      (λ ne.
      dite (ℕ_discrete e.side (mate w))
      (λ here.
      let one = seen.took here in (
        ap (λ (l : List Frag). p.waiting ++ l) (piece_else one_put w e es ne)
            ∙ ap (λ (l : List Frag). l ++ puts_at w es) one.0 ∙ append_assoc took m.0.waiting (puts_at w es)
            ∙ ap (λ (l : List Frag). took ++ l) rest.0 ∙ sym (append_assoc took (takes_at (mate w) es) q.waiting)
            ∙ ap (λ (l : List Frag). l ++ q.waiting) (sym (piece_here one_took (mate w) e es here)),
        (let long = ap length (piece_here one_took (mate w) e es here) ∙ length-append took (takes_at (mate w) es) in omega (arith, one.1, rest.1, long)),
        ap (λ (l : List Action). told_from p.taken p.told l) (piece_here one_action (mate w) e es here) ∙ told_step p.taken p.told e.action acts
            ∙ ap (λ (t : ℕ). told_from t (told_from p.taken p.told (e.action ∷ [])) acts) one.1 ∙ ap (λ (u : ℕ). told_from m.0.taken u acts) one.2 ∙ rest.2,
      ))
      (λ away.
      let one : p ≡ m.0 = seen.other ne away in
      let count : p.taken ≡ m.0.taken = ap (λ (z : Way). z.taken) one in (
        ap (λ (l : List Frag). p.waiting ++ l) (piece_else one_put w e es ne) ∙ ap (λ (z : Way). z.waiting ++ puts_at w es) one
            ∙ rest.0 ∙ ap (λ (l : List Frag). l ++ q.waiting) (sym (piece_else one_took (mate w) e es away)),
        (let long = ap length (piece_else one_took (mate w) e es away) in omega (arith, count, rest.1, long)),
        ap (λ (l : List Action). told_from p.taken p.told l) (piece_else one_action (mate w) e es away) ∙ ap (λ (z : Way). told_from z.taken z.told acts) one ∙ rest.2,
      )))

-- ---- a core's own steps are all that is done by a side of its own

module _ {A : Type 0} (f : Action → List A) (s n : ℕ) where
  own_if : (b : Bool) (e : Entry) (es : List Entry) → ((let none : List A = [] in (if e.side == s then f e.action else none) ≡ none) ⊎ (b ≡ true)) → gather f s (if b then e ∷ es else es) ≡ gather f s (e ∷ es)
  own_if true e es by = refl
  own_if false e es (inl none) = sym (ap (λ (l : List A). l ++ gather f s es) none)
  own_if false e es (inr t) = absurd (false≢true t)

  gather_own : (es : List Entry) → ((i : ℕ) (e : Entry) → get_elem? es i ≡ some e → ((let none : List A = [] in (if e.side == s then f e.action else none) ≡ none) ⊎ (e.core ≡ n))) → gather f s (steps_of n es) ≡ gather f s es
  gather_own [] by = refl
  gather_own (e ∷ es) by =
      own_if (e.core == n) e (steps_of n es) (mine (by zero e refl))
      ∙ ap (λ (l : List A). (if e.side == s then f e.action else []) ++ l) (gather_own es (λ i d is. by (suc i) d is))
    where
      mine : ((let none : List A = [] in (if e.side == s then f e.action else none) ≡ none) ⊎ (e.core ≡ n)) → ((let none : List A = [] in (if e.side == s then f e.action else none) ≡ none) ⊎ ((e.core == n) ≡ true))
      mine (inl none) = inl none
      mine (inr is) = inr (eq-eqb e.core n is)

module _ (ends : List SideEnd) (s : ℕ) (end : SideEnd) (at : get_elem? ends s ≡ some end) where
  -- a step by this side is its core's
  adds_by : (f : Action → List Frag) (e : Entry) → IsByItsCore ends e → Dec (e.side ≡ s) → (let none : List Frag = [] in (if e.side == s then f e.action else none) ≡ none) ⊎ (e.core ≡ end.core)
  adds_by f e (u, there_is, by) (yes here) =
      inr (by ∙ ap (λ (z : SideEnd). z.core) (same_there ends s u end (subst (λ (j : ℕ). get_elem? ends j ≡ some u) here there_is) at))
  adds_by f e by (no other) = inl (let nil : List Frag = [] in else_is (e.side == s) (f e.action) nil (ne_eqb e.side s other))

  own : (f : Action → List Frag) (log : List Entry) → ((i : ℕ) (e : Entry) → get_elem? log i ≡ some e → IsByItsCore ends e) → gather f s (steps_of end.core log) ≡ gather f s log
  own f log by_its_core = gather_own f s end.core log (λ i e is. adds_by f e (by_its_core i e is) (ℕ_discrete e.side s))

-- as many ways stand in the end as at the start
pub goes_long : (ends : List SideEnd) (before after : List Way) (es : List Entry) → Runs (Goes ends) before es after → length after ≡ length before
goes_long ends before after [] runs = ap length (sym runs)
goes_long ends before after (e ∷ es) (between, goes, runs) =
    goes_long ends between after es runs ∙ ap length goes.leaves ∙ length-set (set before e.side goes.mine_left) (mate e.side) goes.theirs_left ∙ length-set before e.side goes.mine_left

pub empty_there : (count s : ℕ) → s < count → get_elem? (all_empty count) s ≡ some (way_with [] 0 0)
empty_there zero s low = absurd (omega arith)
empty_there (suc count) zero low = refl
empty_there (suc count) (suc s) low = empty_there count s (omega arith)

pub taken_is_prefix : TakenIsPrefix
taken_is_prefix = λ ends cores order s one other at across i j taker putter t_there p_there takes puts.
    let w : ℕ = mate s in
    let low = within ends w other across in
    let many : length order.queues ≡ length ends = goes_long ends (all_empty (length ends)) order.queues order.log order.runs ∙ length-replicate (length ends) (way_with [] 0 0) in
    let q = there order.queues w (omega (arith, low, many)) in
    let all = stands_after ends w (all_empty (length ends)) order.queues order.log order.runs (way_with [] 0 0) q.0 (empty_there (length ends) w low) q.1 in
    let put : puts_at w putter.steps ≡ puts_at w order.log =
    ap (λ (es : List Entry). puts_at w es) (sym (order.did j putter p_there)) ∙ ap (λ (n : ℕ). puts_at w (steps_of n order.log)) puts ∙ own ends w other across one_put order.log order.by_its_core in
    let took : takes_at s taker.steps ≡ takes_at s order.log =
    ap (λ (es : List Entry). takes_at s es) (sym (order.did i taker t_there)) ∙ ap (λ (n : ℕ). takes_at s (steps_of n order.log)) takes ∙ own ends s one at one_took order.log order.by_its_core in
    (q.0.waiting, put ∙ all.0 ∙ ap (λ (m : ℕ). takes_at m order.log ++ q.0.waiting) (mate_back s) ∙ ap (λ (l : List Frag). l ++ q.0.waiting) (sym took))

-- ---- each look finds what stands first

-- a step somewhere in a row
runs_split : {S E : Type 0} (R : S → E → S → Type 0) (start : S) (xs : List E) (e : E) (ys : List E) (end_at : S) → Runs R start (xs ++ e ∷ ys) end_at → (m : S) × (n : S) × Runs R start xs m × R m e n
runs_split R start [] e ys end_at run = (start, run.0, refl, run.1)
runs_split R start (x ∷ xs) e ys end_at run =
    let rest = runs_split R run.0 xs e ys end_at run.2 in
    (rest.0, rest.1, (run.0, run.1, rest.2), rest.3)

finds_so : (n : ℕ) (p q : Way) (d : Action) (p' q' : Way) → Does n p q d p' q' → FindsIn q.waiting d
finds_so n p q (Put frag) p' q' does = tt
finds_so n p q (Found control) p' q' does = (does.0, does.1, does.2, does.3)
finds_so n p q Missed p' q' does = does.0
finds_so n p q (Saw frag) p' q' does = (does.0, does.1)
finds_so n p q (Took frag) p' q' does = (does.0, does.1)

-- the way that a step's side takes from, as it finds it
module _ (ends : List SideEnd) (queues : List Way) (log before after : List Entry) (e : Entry) (runs : Runs (Goes ends) (all_empty (length ends)) log queues) (is : log ≡ before ++ e ∷ after) where
  split : (m : List Way) × (n : List Way) × Runs (Goes ends) (all_empty (length ends)) before m × Goes ends m e n
  split = runs_split (Goes ends) (all_empty (length ends)) before e after queues (subst (λ (es : List Entry). Runs (Goes ends) (all_empty (length ends)) es queues) is runs)

  goes_there : Goes ends split.0 e split.1
  goes_there = split.3

  far_there : mate e.side < length ends
  far_there =
      let long = goes_long ends (all_empty (length ends)) split.0 before split.2 ∙ length-replicate (length ends) (way_with [] 0 0) in
      let far = within split.0 (mate e.side) goes_there.theirs goes_there.stood_back in
      omega (arith, long, far)

  found_so : (puts_at (mate e.side) before ≡ takes_at e.side before ++ goes_there.theirs.waiting) × (length (takes_at e.side before) ≡ goes_there.theirs.taken)
  found_so =
      let all = stands_after ends (mate e.side) (all_empty (length ends)) split.0 before split.2 (way_with [] 0 0) goes_there.theirs (empty_there (length ends) (mate e.side) far_there) goes_there.stood_back in (
        all.0 ∙ ap (λ (m : ℕ). takes_at m before ++ goes_there.theirs.waiting) (mate_back e.side),
        let same : length (takes_at e.side before) ≡ length (takes_at (mate (mate e.side)) before) = ap (λ (m : ℕ). length (takes_at m before)) (sym (mate_back e.side)) in omega (arith, same, all.1),
      )

pub looks_find : LooksFindWhatStands
looks_find = λ ends cores order before after e is.
    let goes = goes_there ends order.queues order.log before after e order.runs is in (
      goes.theirs.waiting,
      (found_so ends order.queues order.log before after e order.runs is).0,
      finds_so goes.end.slots goes.mine goes.theirs e.action goes.mine_left goes.theirs_left goes.does,
    )

-- ---- a fragment tells how many its side had taken

pub puts_tell : PutsTellWhatWasTaken
puts_tell = λ ends cores order before after core s frag is.
    let e : Entry = entry core s (Put frag) in
    let goes = goes_there ends order.queues order.log before after e order.runs is in
    goes.does.1 ∙ ap (λ (m : ℕ). m % 65536) (sym (found_so ends order.queues order.log before after e order.runs is).1)

-- ---- a put finds a free slot

pub puts_room : PutsFindRoom
puts_room = λ ends cores order before after core s frag is end at.
    let e : Entry = entry core s (Put frag) in
    let goes = goes_there ends order.queues order.log before after e order.runs is in
    let start = split ends order.queues order.log before after e order.runs is in
    let same : goes.end.slots ≡ end.slots = ap (λ (z : SideEnd). z.slots) (same_there ends s goes.end end goes.there at) in
    let all = stands_after ends s (all_empty (length ends)) start.0 before start.2 (way_with [] 0 0) goes.mine (empty_there (length ends) s (within ends s end at)) goes.stood in
    let long : length (puts_at s before) ≡ length (takes_at (mate s) before) + length goes.mine.waiting = ap length all.0 ∙ length-append (takes_at (mate s) before) goes.mine.waiting in
    let room : goes.mine.taken + length goes.mine.waiting < goes.mine.told + goes.end.slots = goes.does.0 in
    let told : told_at (mate s) before ≡ goes.mine.told = all.2 in
    omega (arith, same, long, room, told, all.1)
