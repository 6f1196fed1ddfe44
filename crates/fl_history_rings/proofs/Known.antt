-- What a side knows to be taken was told, and what was told was taken.
use Rattle.std.proofs.Common.{ℕ, ◌≡◌, ◌≢◌, ◌≤◌, ◌+◌, ◌%◌, List, [], ◌∷◌, ◌++◌, length, set, ap, subst, ◌∙◌, sym, refl, arith}
use mathlib.Core.Logic.{dite}
use mathlib.Core.Option.{some}
use native.Mathlib.Decide.{ℕ_discrete}
use lib.ListN.{get_elem?, length-replicate}
use Rattle.atomic_table.proofs.Lists.{set_else}
use Rattle.fl_base.specs.declared.fragment.Frag.{Frag}
use Rattle.fl_base.specs.Control.{told_of}
use Rattle.fl_ring.specs.Counts.{count_from}
use Rattle.fl_history_rings.specs.declared.board.Action.{Action}
use Rattle.fl_history_rings.specs.declared.board.Action.TheVariants.{Put, Found, Missed, Saw, Took}
use Rattle.fl_history_rings.specs.declared.board.Entry.{Entry}
use Rattle.fl_history_rings.specs.declared.board.SideEnd.{SideEnd}
use Rattle.fl_history_rings.specs.Rings.{mate, Way, way_with, Does, Goes, Runs, all_empty}
use Rattle.fl_history_rings.specs.Rule.{gather, one_found, known_from, known_at, told_at}
use Rattle.fl_history_rings.specs.Laws.{KnownWasTaken}
use Rattle.fl_history_rings.proofs.Logs.{within, there, same_there}
use Rattle.fl_history_rings.proofs.Words.{mate_back}
use Rattle.fl_history_rings.proofs.Laws.{piece_else, piece_here, mine_at, theirs_at, still_there, stands_after, goes_long, empty_there}

-- ---- counts

-- Each of these fragments tells a count, none below that of the one before. The first is no less than what is known, and so much is told with
-- the last.
abbrev Carries : ℕ → List Frag → ℕ → Type 0
Carries known [] told = known ≤ told
Carries known (frag ∷ rest) told = (count : ℕ) × (known ≤ count) × (told_of frag.control ≡ count % 65536) × Carries count rest told

carries_below : (k known told : ℕ) (frags : List Frag) → k ≤ known → Carries known frags told → Carries k frags told
carries_below k known told [] le h = omega (arith, le, h)
carries_below k known told (frag ∷ rest) le (count, low, is, h) = (count, omega (arith, le, low), is, h)

carries_reach : (known told : ℕ) (frags : List Frag) → Carries known frags told → known ≤ told
carries_reach known told [] h = h
carries_reach known told (frag ∷ rest) (count, low, is, h) = let rest_low = carries_reach count told rest h in omega (arith, low, rest_low)

carries_more : (known told taken : ℕ) (frags : List Frag) (frag : Frag) → told ≤ taken → told_of frag.control ≡ taken % 65536 → Carries known frags told → Carries known (frags ++ frag ∷ []) taken
carries_more known told taken [] frag le is h = (taken, omega (arith, le, h), is, omega arith)
carries_more known told taken (first ∷ rest) frag le is (count, low, same, h) = (count, low, same, carries_more count told taken rest frag le is h)

-- the first count from the one known on that a number names is none behind a count of that name
count_first : (known count number : ℕ) → known ≤ count → number ≡ count % 65536 → count_from known number ≤ count
count_first known count number le is = omega (arith, le, is)

carries_found : (known told : ℕ) (first : Frag) (rest : List Frag) → Carries known (first ∷ rest) told → Carries (count_from known (told_of first.control)) (first ∷ rest) told
carries_found known told first rest (count, low, is, h) = (count, count_first known count (told_of first.control) low is, is, h)

known_more : (known : ℕ) (xs ys : List ℕ) → known_from known (xs ++ ys) ≡ known_from (known_from known xs) ys
known_more known [] ys = refl
known_more known (x ∷ xs) ys = known_more (count_from known (told_of x)) xs ys

-- ---- one step

-- a side that puts into way p knows so much, where way q brings it these fragments
abbrev IsKnown : ℕ → Way → Way → Type 0
IsKnown known p q = Carries known q.waiting p.told × (p.told ≤ p.taken)

-- by that side
mine_known : (n known : ℕ) (p q : Way) (d : Action) (p' q' : Way) → Does n p q d p' q' → IsKnown known p q → IsKnown (known_from known (one_found d)) p' q'
mine_known n known p q (Put frag) p' q' does h =
    subst (λ (z : Way). IsKnown known z q') (sym does.2) (subst (λ (z : Way). IsKnown known (way_with (p.waiting ++ frag ∷ []) p.taken p.told) z) (sym does.3) h)
mine_known n known p q (Found control) p' q' (first, rest, stands, is, same, same_back) h =
    let brings : Carries known (first ∷ rest) p.told = subst (λ (l : List Frag). Carries known l p.told) stands h.0 in
    let counted : Carries (count_from known (told_of first.control)) q.waiting p.told = subst (λ (l : List Frag). Carries (count_from known (told_of first.control)) l p.told) (sym stands) (carries_found known p.told first rest brings) in
    subst (λ (z : Way). IsKnown (count_from known (told_of control)) z q') (sym same)
    (subst (λ (z : Way). IsKnown (count_from known (told_of control)) p z) (sym same_back)
    (subst (λ (c : ℕ). Carries (count_from known (told_of c)) q.waiting p.told) is counted, h.1))
mine_known n known p q Missed p' q' (none, same, same_back) h =
    subst (λ (z : Way). IsKnown known z q') (sym same) (subst (λ (z : Way). IsKnown known p z) (sym same_back) h)
mine_known n known p q (Saw frag) p' q' (rest, stands, same, same_back) h =
    subst (λ (z : Way). IsKnown known z q') (sym same) (subst (λ (z : Way). IsKnown known p z) (sym same_back) h)
mine_known n known p q (Took frag) p' q' (rest, stands, same, left) h =
    let brings : Carries known (frag ∷ rest) p.told = subst (λ (l : List Frag). Carries known l p.told) stands h.0 in
    subst (λ (z : Way). IsKnown known z q') (sym same)
    (subst (λ (z : Way). IsKnown known p z) (sym left) (carries_below known brings.0 p.told rest brings.1 brings.3, h.1))

-- by the other side
theirs_known : (n known : ℕ) (p q : Way) (d : Action) (p' q' : Way) → Does n q p d q' p' → IsKnown known p q → IsKnown known p' q'
theirs_known n known p q (Put frag) p' q' (free, tells, left, left_back) h =
    subst (λ (z : Way). IsKnown known z q') (sym left_back)
    (subst (λ (z : Way). IsKnown known (way_with p.waiting p.taken p.taken) z) (sym left) (carries_more known p.told p.taken q.waiting frag h.1 tells h.0, omega arith))
theirs_known n known p q (Found control) p' q' (first, rest, stands, is, same, same_back) h =
    subst (λ (z : Way). IsKnown known z q') (sym same_back) (subst (λ (z : Way). IsKnown known p z) (sym same) h)
theirs_known n known p q Missed p' q' (none, same, same_back) h =
    subst (λ (z : Way). IsKnown known z q') (sym same_back) (subst (λ (z : Way). IsKnown known p z) (sym same) h)
theirs_known n known p q (Saw frag) p' q' (rest, stands, same, same_back) h =
    subst (λ (z : Way). IsKnown known z q') (sym same_back) (subst (λ (z : Way). IsKnown known p z) (sym same) h)
theirs_known n known p q (Took frag) p' q' (rest, stands, same, left) h =
    subst (λ (z : Way). IsKnown known z q') (sym left)
    (subst (λ (z : Way). IsKnown known (way_with rest (p.taken + 1) p.told) z) (sym same) (h.0, (let le = h.1 in omega (arith, le))))

does_by : (n : ℕ) (p q p' q' a b a' b' : Way) (d : Action) → p ≡ a → q ≡ b → p' ≡ a' → q' ≡ b' → Does n a b d a' b' → Does n p q d p' q'
does_by n p q p' q' a b a' b' d ep eq ep' eq' does =
    subst (λ (z : Way). Does n z q d p' q') (sym ep)
    (subst (λ (z : Way). Does n a z d p' q') (sym eq)
    (subst (λ (z : Way). Does n a b d z q') (sym ep')
    (subst (λ (z : Way). Does n a b d a' z) (sym eq') does)))

-- a step as the ring of side w sees it: of that side, of the other one, or of another ring
module _ (ends : List SideEnd) (before after : List Way) (e : Entry) (goes : Goes ends before e after) (w : ℕ) (p q p' q' : Way) (p_is : get_elem? before w ≡ some p) (q_is : get_elem? before (mate w) ≡ some q)
    (p_now : get_elem? after w ≡ some p') (q_now : get_elem? after (mate w) ≡ some q') where
  abbrev left : List Way
  left = set (set before e.side goes.mine_left) (mate e.side) goes.theirs_left

  p_left : get_elem? left w ≡ some p'
  p_left = subst (λ (l : List Way). get_elem? l w ≡ some p') goes.leaves p_now

  q_left : get_elem? left (mate w) ≡ some q'
  q_left = subst (λ (l : List Way). get_elem? l (mate w) ≡ some q') goes.leaves q_now

  -- a way read at another name of its number
  read_at : (l : List Way) (i j : ℕ) (a b : Way) → i ≡ j → get_elem? l i ≡ some a → get_elem? l j ≡ some b → a ≡ b
  read_at l i j a b same is now = same_there l j a b (subst (λ (x : ℕ). get_elem? l x ≡ some a) same is) now

  by_mine : e.side ≡ w → Does goes.end.slots p q e.action p' q'
  by_mine here =
      let near : w ≡ e.side = sym here in
      let far : mate w ≡ mate e.side = ap mate near in
      does_by goes.end.slots p q p' q' goes.mine goes.theirs goes.mine_left goes.theirs_left e.action (read_at before w e.side p goes.mine near p_is goes.stood) (read_at before (mate w) (mate e.side) q goes.theirs far q_is goes.stood_back)
      (read_at left w e.side p' goes.mine_left near p_left (mine_at ends before after e goes)) (read_at left (mate w) (mate e.side) q' goes.theirs_left far q_left (theirs_at ends before after e goes)) goes.does

  by_theirs : e.side ≡ mate w → Does goes.end.slots q p e.action q' p'
  by_theirs here =
      let near : mate w ≡ e.side = sym here in
      let far : w ≡ mate e.side = sym (mate_back w) ∙ ap mate near in
      does_by goes.end.slots q p q' p' goes.mine goes.theirs goes.mine_left goes.theirs_left e.action (read_at before (mate w) e.side q goes.mine near q_is goes.stood) (read_at before w (mate e.side) p goes.theirs far p_is goes.stood_back)
      (read_at left (mate w) e.side q' goes.mine_left near q_left (mine_at ends before after e goes)) (read_at left w (mate e.side) p' goes.theirs_left far p_left (theirs_at ends before after e goes)) goes.does

  stays_at : (x : ℕ) (a a' : Way) → e.side ≢ x → mate e.side ≢ x → get_elem? before x ≡ some a → get_elem? left x ≡ some a' → a ≡ a'
  stays_at x a a' ne away is now =
      same_there before x a a' is
      (sym (set_else before e.side x goes.mine_left (λ d. ne (sym d))) ∙ (sym (set_else (set before e.side goes.mine_left) (mate e.side) x goes.theirs_left (λ d. away (sym d))) ∙ now))

  by_none : e.side ≢ w → e.side ≢ mate w → (p ≡ p') × (q ≡ q')
  by_none ne away = (
    stays_at w p p' ne (λ d. away (sym (mate_back e.side) ∙ ap mate d)) p_is p_left,
    stays_at (mate w) q q' away (λ d. ne (sym (mate_back e.side) ∙ ap mate d ∙ mate_back w)) q_is q_left,
  )

  known_after_one : (known : ℕ) (es : List Entry) → IsKnown known p q → (k : ℕ) × IsKnown k p' q' × (known_from known (gather one_found w (e ∷ es)) ≡ known_from k (gather one_found w es))
  known_after_one known es h =
      dite (ℕ_discrete e.side w)
      (λ here. (
        known_from known (one_found e.action),
        mine_known goes.end.slots known p q e.action p' q' (by_mine here) h,
        ap (λ (xs : List ℕ). known_from known xs) (piece_here one_found w e es here) ∙ known_more known (one_found e.action) (gather one_found w es),
      ))
      (λ ne.
      let same : known_from known (gather one_found w (e ∷ es)) ≡ known_from known (gather one_found w es) = ap (λ (xs : List ℕ). known_from known xs) (piece_else one_found w e es ne) in
      dite (ℕ_discrete e.side (mate w))
      (λ here. (known, theirs_known goes.end.slots known p q e.action p' q' (by_theirs here) h, same))
      (λ away.
      let both = by_none ne away in
      (known, subst (λ (z : Way). IsKnown known z q') both.0 (subst (λ (z : Way). IsKnown known p z) both.1 h), same)))

-- ---- all steps

known_after : (ends : List SideEnd) (w : ℕ) (before after : List Way) (es : List Entry) → Runs (Goes ends) before es after → (known : ℕ) (p q p' q' : Way)
    → get_elem? before w ≡ some p → get_elem? before (mate w) ≡ some q → get_elem? after w ≡ some p' → get_elem? after (mate w) ≡ some q'
    → IsKnown known p q → IsKnown (known_from known (gather one_found w es)) p' q'
known_after ends w before after [] runs known p q p' q' p_is q_is p_now q_now h =
    let one : p ≡ p' = same_there after w p p' (subst (λ (l : List Way). get_elem? l w ≡ some p) runs p_is) p_now in
    let two : q ≡ q' = same_there after (mate w) q q' (subst (λ (l : List Way). get_elem? l (mate w) ≡ some q) runs q_is) q_now in
    subst (λ (z : Way). IsKnown known z q') one (subst (λ (z : Way). IsKnown known p z) two h)
known_after ends w before after (e ∷ es) (between, goes, runs) known p q p' q' p_is q_is p_now q_now h =
    let m = still_there ends before between e goes w p p_is in
    let n = still_there ends before between e goes (mate w) q q_is in
    let one = known_after_one ends before between e goes w p q m.0 n.0 p_is q_is m.1 n.1 known es h in
    subst (λ (k : ℕ). IsKnown k p' q') (sym one.2) (known_after ends w between after es runs one.0 m.0 n.0 p' q' m.1 n.1 p_now q_now one.1)

-- the steps at the start of a row
runs_start : {S E : Type 0} (R : S → E → S → Type 0) (start : S) (xs ys : List E) (end_at : S) → Runs R start (xs ++ ys) end_at → (m : S) × Runs R start xs m
runs_start R start [] ys end_at run = (start, refl)
runs_start R start (x ∷ xs) ys end_at run = let rest = runs_start R run.0 xs ys end_at run.2 in (rest.0, (run.0, run.1, rest.1))

pub known_taken : KnownWasTaken
known_taken = λ ends cores order before after is s one other at across.
    let empty : List Way = all_empty (length ends) in
    let nothing : Way = way_with [] 0 0 in
    let part = runs_start (Goes ends) empty before after order.queues (subst (λ (es : List Entry). Runs (Goes ends) empty es order.queues) is order.runs) in
    let low = within ends s one at in
    let far = within ends (mate s) other across in
    let many : length part.0 ≡ length ends = goes_long ends empty part.0 before part.1 ∙ length-replicate (length ends) nothing in
    let p = there part.0 s (omega (arith, low, many)) in
    let q = there part.0 (mate s) (omega (arith, far, many)) in
    let at_start : IsKnown 0 nothing nothing = (omega arith, omega arith) in
    let known = known_after ends s empty part.0 before part.1 0 nothing nothing p.0 q.0 (empty_there (length ends) s low) (empty_there (length ends) (mate s) far) p.1 q.1 at_start in
    let all = stands_after ends s empty part.0 before part.1 nothing p.0 (empty_there (length ends) s low) p.1 in
    let told : told_at (mate s) before ≡ p.0.told = all.2 in
    let reach : known_at s before ≤ p.0.told = carries_reach (known_at s before) p.0.told q.0.waiting known.0 in
    let taken : p.0.told ≤ p.0.taken = known.1 in
    (omega (arith, told, reach), omega (arith, reach, taken, all.1))
