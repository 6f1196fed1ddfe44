-- Steps in one order find along what stands in the way that their side takes from.
use Rattle.std.proofs.Common.{ℕ, ◌≡◌, ◌≢◌, ◌==◌, eq-eqb, ne_eqb, Option, Some, None, List, [], ◌∷◌, ◌++◌, ap, subst, ◌∙◌, sym, refl}
use Rattle.std.specs.List.{AllByRecursion}
use mathlib.Core.Logic.{dite}
use mathlib.Core.Option.{some}
use native.Mathlib.Decide.{ℕ_discrete}
use lib.ListN.{get_elem?}
use Rattle.fl_base.specs.declared.fragment.Frag.{Frag}
use Rattle.fl_history_rings.specs.declared.board.Action.{Action}
use Rattle.fl_history_rings.specs.declared.board.Action.TheVariants.{Put, Found, Missed, Saw, Took}
use Rattle.fl_history_rings.specs.declared.board.Entry.{Entry}
use Rattle.fl_history_rings.specs.declared.board.SideEnd.{SideEnd}
use Rattle.fl_history_rings.specs.Rings.{mate, Way, Goes, Runs, entry}
use Rattle.fl_history_rings.specs.Rule.{gather, one_action, seen_from}
use Rattle.fl_history_rings.proofs.Logs.{same_there, then_is, else_is}
use Rattle.fl_history_rings.proofs.Words.{mate_back}
use Rattle.fl_history_events.proofs.Ways.{put_to, taken_by, rest_of, Finds, does_finds}
use Rattle.fl_history_events.proofs.Exchanging.{mine_after, theirs_after, else_after}
use Rattle.fl_history_facing.specs.Facing.{steps_by}
use Rattle.fl_history_facing.proofs.Acted.{FindAlong}

pub piece_here : (s : ℕ) (e : Entry) (es : List Entry) → e.side ≡ s → gather one_action s (e ∷ es) ≡ e.action ∷ gather one_action s es
piece_here s e es is =
    let none : List Action = [] in
    ap (λ (l : List Action). l ++ gather one_action s es) (then_is (e.side == s) (one_action e.action) none (eq-eqb e.side s is))

pub piece_else : (s : ℕ) (e : Entry) (es : List Entry) → e.side ≢ s → gather one_action s (e ∷ es) ≡ gather one_action s es
piece_else s e es ne =
    let none : List Action = [] in
    ap (λ (l : List Action). l ++ gather one_action s es) (else_is (e.side == s) (one_action e.action) none (ne_eqb e.side s ne))

module _ (ends : List SideEnd) where
  -- ---- more actions of a side

  along_with : (n : ℕ) (p q : Way) (a : Action) (acts : List Action) → Finds n p q a → FindAlong (taken_by a q).waiting acts → FindAlong q.waiting (a ∷ acts)
  along_with n p q (Put f) acts finds along = along
  along_with n p q (Found control) acts finds along = ((finds.0, finds.1, finds.2, finds.3), along)
  along_with n p q Missed acts finds along = (finds, along)
  along_with n p q (Saw f) acts finds along = ((finds.0, finds.1), along)
  along_with n p q (Took f) acts finds along =
      (finds.0, finds.1, subst (λ (l : List Frag). FindAlong l acts) (ap rest_of finds.1) along)

  pub find_along : (core s : ℕ) (acts : List Action) (ways after : List Way) (q : Way) → get_elem? ways (mate s) ≡ some q
      → Runs (Goes ends) ways (steps_by core s acts) after → FindAlong q.waiting acts
  find_along core s [] ways after q at run = tt
  find_along core s (a ∷ acts) ways after q at run =
      let goes = run.1 in
      let effect = does_finds goes.end.slots goes.mine goes.theirs a goes.mine_left goes.theirs_left goes.does in
      let same : goes.theirs ≡ q = same_there ways (mate s) goes.theirs q goes.stood_back at in
      let left : goes.theirs_left ≡ taken_by a q = effect.2 ∙ ap (taken_by a) same in
      let there : get_elem? run.0 (mate s) ≡ some (taken_by a q) =
      theirs_after ends ways run.0 (entry core s a) goes ∙ ap (λ (z : Way). some z) left in
      along_with goes.end.slots goes.mine q a acts (subst (λ (z : Way). Finds goes.end.slots goes.mine z a) same effect.0)
      (find_along core s acts run.0 after (taken_by a q) there run.2)

  -- ---- what was seen, and not taken, stands first

  abbrev Begins : Frag → List Frag → Type 0
  Begins frag l = (rest : List Frag) × (l ≡ frag ∷ rest)

  -- in the way that side s takes from
  abbrev pub SeenStands : ℕ → List Way → Option Frag → Type 0
  SeenStands s ways seen = (frag : Frag) → seen ≡ Some frag → (q : Way) → get_elem? ways (mate s) ≡ some q → Begins frag q.waiting

  abbrev seen_then : Option Frag → Action → Option Frag
  seen_then seen a = seen_from seen (a ∷ [])

  seen_next : (seen : Option Frag) (a : Action) (acts : List Action) → seen_from seen (a ∷ acts) ≡ seen_from (seen_then seen a) acts
  seen_next seen (Put f) acts = refl
  seen_next seen (Found control) acts = refl
  seen_next seen Missed acts = refl
  seen_next seen (Saw f) acts = refl
  seen_next seen (Took f) acts = refl

  same_some : (f g : Frag) → (let a : Option Frag = Some f in a ≡ Some g) → f ≡ g
  same_some f g e = cc

  none_some : (g : Frag) → (let a : Option Frag = None in a ≡ Some g) → ⊥
  none_some g e = cc

  own_stands : (n : ℕ) (p q : Way) (a : Action) (seen : Option Frag) → ((frag : Frag) → seen ≡ Some frag → Begins frag q.waiting) → Finds n p q a
      → (frag : Frag) → seen_then seen a ≡ Some frag → Begins frag (taken_by a q).waiting
  own_stands n p q (Put f) seen stands finds frag is = stands frag is
  own_stands n p q (Found control) seen stands finds frag is = stands frag is
  own_stands n p q Missed seen stands finds frag is = stands frag is
  own_stands n p q (Saw f) seen stands finds frag is =
      let same : f ≡ frag = same_some f frag is in (finds.0, finds.1 ∙ ap (λ (z : Frag). z ∷ finds.0) same)
  own_stands n p q (Took f) seen stands finds frag is = absurd (none_some frag is)

  put_begins : (frag : Frag) (p : Way) (a : Action) → Begins frag p.waiting → Begins frag (put_to a p).waiting
  put_begins frag p (Put f) begins = (begins.0 ++ f ∷ [], ap (λ (l : List Frag). l ++ f ∷ []) begins.1)
  put_begins frag p (Found control) begins = begins
  put_begins frag p Missed begins = begins
  put_begins frag p (Saw f) begins = begins
  put_begins frag p (Took f) begins = begins

  seen_own : (a b : List Way) (e : Entry) (s : ℕ) (seen : Option Frag) → Goes ends a e b → e.side ≡ s → SeenStands s a seen → SeenStands s b (seen_then seen e.action)
  seen_own a b e s seen goes here stands frag is q at =
      let effect = does_finds goes.end.slots goes.mine goes.theirs e.action goes.mine_left goes.theirs_left goes.does in
      let stood : (f : Frag) → seen ≡ Some f → Begins f goes.theirs.waiting =
      λ f seen_is. stands f seen_is goes.theirs (subst (λ (x : ℕ). get_elem? a (mate x) ≡ some goes.theirs) here goes.stood_back) in
      let left : q ≡ taken_by e.action goes.theirs =
      same_there b (mate e.side) q goes.theirs_left (subst (λ (x : ℕ). get_elem? b (mate x) ≡ some q) (sym here) at) (theirs_after ends a b e goes) ∙ effect.2 in
      subst (λ (z : Way). Begins frag z.waiting) (sym left) (own_stands goes.end.slots goes.mine goes.theirs e.action seen stood effect.0 frag is)

  seen_else : (a b : List Way) (e : Entry) (s : ℕ) (seen : Option Frag) → Goes ends a e b → e.side ≢ s → SeenStands s a seen → SeenStands s b seen
  seen_else a b e s seen goes ne stands frag is q at =
      dite (ℕ_discrete (mate s) e.side)
      (λ here.
      let effect = does_finds goes.end.slots goes.mine goes.theirs e.action goes.mine_left goes.theirs_left goes.does in
      let stood : Begins frag goes.mine.waiting = stands frag is goes.mine (subst (λ (x : ℕ). get_elem? a x ≡ some goes.mine) (sym here) goes.stood) in
      let left : q ≡ put_to e.action goes.mine =
      same_there b e.side q goes.mine_left (subst (λ (x : ℕ). get_elem? b x ≡ some q) here at) (mine_after ends a b e goes) ∙ effect.1 in
      subst (λ (z : Way). Begins frag z.waiting) (sym left) (put_begins frag goes.mine e.action stood))
      (λ away.
      let apart : mate s ≢ mate e.side = λ d. ne (sym (mate_back e.side) ∙ ap mate (sym d) ∙ mate_back s) in
      stands frag is q (sym (else_after ends a b e goes (mate s) away apart) ∙ at))

  pub seen_run : (a b : List Way) (s : ℕ) (seen : Option Frag) (es : List Entry) → SeenStands s a seen → Runs (Goes ends) a es b → SeenStands s b (seen_from seen (gather one_action s es))
  seen_run a b s seen [] stands run = subst (λ (l : List Way). SeenStands s l seen) run stands
  seen_run a b s seen (e ∷ es) stands run =
      dite (ℕ_discrete e.side s)
      (λ here.
      subst (λ (o : Option Frag). SeenStands s b o) (sym (ap (seen_from seen) (piece_here s e es here) ∙ seen_next seen e.action (gather one_action s es)))
      (seen_run run.0 b s (seen_then seen e.action) es (seen_own a run.0 e s seen run.1 here stands) run.2))
      (λ ne.
      subst (λ (o : Option Frag). SeenStands s b o) (sym (ap (seen_from seen) (piece_else s e es ne)))
      (seen_run run.0 b s seen es (seen_else a run.0 e s seen run.1 ne stands) run.2))

  -- among steps by other sides, none of them across
  pub find_among : (s : ℕ) (es : List Entry) (ways after : List Way) (q : Way) → get_elem? ways (mate s) ≡ some q
      → AllByRecursion (λ e. e.side ≢ mate s) es → Runs (Goes ends) ways es after → FindAlong q.waiting (gather one_action s es)
  find_among s [] ways after q at none run = tt
  find_among s (e ∷ es) ways after q at none run =
      let goes = run.1 in
      let effect = does_finds goes.end.slots goes.mine goes.theirs e.action goes.mine_left goes.theirs_left goes.does in
      dite (ℕ_discrete e.side s)
      (λ here.
      let same : goes.theirs ≡ q = same_there ways (mate s) goes.theirs q (subst (λ (x : ℕ). get_elem? ways (mate x) ≡ some goes.theirs) here goes.stood_back) at in
      let left : goes.theirs_left ≡ taken_by e.action q = effect.2 ∙ ap (taken_by e.action) same in
      let still : get_elem? run.0 (mate s) ≡ some (taken_by e.action q) =
      subst (λ (x : ℕ). get_elem? run.0 (mate x) ≡ some goes.theirs_left) here (theirs_after ends ways run.0 e goes) ∙ ap (λ (z : Way). some z) left in
      subst (λ (l : List Action). FindAlong q.waiting l) (sym (piece_here s e es here))
      (along_with goes.end.slots goes.mine q e.action (gather one_action s es) (subst (λ (z : Way). Finds goes.end.slots goes.mine z e.action) same effect.0)
      (find_among s es run.0 after (taken_by e.action q) still none.1 run.2)))
      (λ ne.
      let apart : mate s ≢ mate e.side = λ d. ne (sym (mate_back e.side) ∙ ap mate (sym d) ∙ mate_back s) in
      subst (λ (l : List Action). FindAlong q.waiting l) (sym (piece_else s e es ne))
      (find_among s es run.0 after q (else_after ends ways run.0 e goes (mate s) (λ d. none.0 (sym d)) apart ∙ at) none.1 run.2))
